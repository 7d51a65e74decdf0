-- A walk over items of which each is worked in behind the earlier ones, or refused.
use Rattle.std.proofs.Common.{◌≡◌, ◌≢◌, false, true, inl, inr, ℕ, ◌+◌, ◌<◌, ◌≤◌, length, drop, fold, get_or, List, [], ◌∷◌, refl, sym, ap, ◌∙◌, subst, arith}
use Rattle.std.proofs.lemmas.Grind.{common_steps}
use Rattle.std.proofs.lemmas.List.{drop_more}
use Rattle.auth_endpoint.specs.Endpoint.{RefusesSome}

module _ {S X : Type 0} (step : S → X → S) (refuses : S → X → Type 0) where
  -- from a state on, what is left of the items comes to what all of them come to from the first one
  pub record IsWalked (start now : S) (all left : List X) : Type 0 where
    pub result : fold step now left ≡ fold step start all
    pub forth : RefusesSome step refuses start all → RefusesSome step refuses now left
    pub back : RefusesSome step refuses now left → RefusesSome step refuses start all

  -- no item was looked at
  pub walked_none : (start : S) (all : List X) → IsWalked start start all all
  walked_none start all = record { result = refl; forth = λ h. h; back = λ h. h }

  next_item : (all : List X) (i : ℕ) (x : X) → i < length all → x ≡ get_or all i x → drop i all ≡ x ∷ drop (i + 1) all
  next_item all i x within is = drop_more all i x within ∙ ap (λ y. y ∷ drop (i + 1) all) (sym is)

  one_more : (start now : S) (all rest : List X) (x : X) → IsWalked start now all (x ∷ rest) → ¬ (refuses now x) → IsWalked start (step now x) all rest
  one_more start now all rest x w fits = record {
    result = w.result;
    forth = λ h. elim (w.forth h) [ inl r ↦ absurd (fits r) | inr r ↦ r ];
    back = λ h. w.back (inr h);
  }

  -- the next item is worked in
  pub walked_more : (start now new : S) (all : List X) (i : ℕ) (x : X) → IsWalked start now all (drop i all) → i < length all → x ≡ get_or all i x → new ≡ step now x → ¬ (refuses now x) → IsWalked start new all (drop (i + 1) all)
  walked_more start now new all i x w within is made fits =
      subst (λ s. IsWalked start s all (drop (i + 1) all)) (sym made)
      (one_more start now all (drop (i + 1) all) x (subst (λ l. IsWalked start now all l) (next_item all i x within is) w) fits)

  -- the next item is refused
  pub walked_refused : (start now : S) (all : List X) (i : ℕ) (x : X) → IsWalked start now all (drop i all) → i < length all → x ≡ get_or all i x → refuses now x → RefusesSome step refuses start all
  walked_refused start now all i x w within is r =
      w.back (subst (λ l. RefusesSome step refuses now l) (sym (next_item all i x within is)) (inl r))

  none_left : (start now : S) (all : List X) → IsWalked start now all [] → (now ≡ fold step start all) × ¬ (RefusesSome step refuses start all)
  none_left start now all w = (w.result, w.forth)

  -- every item was worked in
  pub walked_all : (start now : S) (all : List X) (i : ℕ) → IsWalked start now all (drop i all) → length all ≤ i → (now ≡ fold step start all) × ¬ (RefusesSome step refuses start all)
  walked_all start now all i w whole = none_left start now all (subst (λ l. IsWalked start now all l) (drop_whole all i whole) w)
    where
      drop_whole : (xs : List X) (i : ℕ) → length xs ≤ i → drop i xs ≡ []
      drop_whole xs i h = grind (arith, common_steps)

clash : {X : Type 0} (x : X) (xs : List X) → x ∷ xs ≡ [] → ⊥
clash x xs e = cc

untrue : false ≡ true → ⊥
untrue e = cc

-- a list that can't be other than empty is empty
pub empty_unless : {X : Type 0} (xs : List X) → (xs ≢ [] → false ≡ true) → xs ≡ []
empty_unless [] h = refl
empty_unless (x ∷ xs) h = absurd (untrue (h (clash x xs)))
