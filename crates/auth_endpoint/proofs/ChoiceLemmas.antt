-- Options that were looked at.
use Rattle.std.proofs.Common.{◌≡◌, ◌++◌, ◌∷◌, [], ℕ, ◌+◌, ◌<◌, ◌≤◌, length, take, drop, get_or, List, Option, None, Some, IsSome, All, refl, sym, ap, ◌∙◌, arith, take-append-drop, rules}
use Rattle.std.specs.List.{AllZip}
use Rattle.std.proofs.lemmas.Grind.{common_steps}
use Rattle.std.proofs.lemmas.List.{take_more, drop_more}
use Rattle.std.proofs.lemmas.List.Elements.{All-nil, All-cons}
use Rattle.auth_endpoint.specs.Choice.{KeepsFirst, NoneChosen, IsChosen}
use Rattle.auth_endpoint.specs.declared.explored.ExploreResult.{ExploreResult}
use Rattle.auth_endpoint.specs.declared.explored.ExploredAuthOption.{ExploredAuthOption}
use Rattle.auth_endpoint.specs.declared.explored.ExploredList.{ExploredList}

zip_push : {A B : Type 0} (R : A → B → Type 0) (xs : List A) (ys : List B) (x : A) (y : B) → AllZip R xs ys → R x y → AllZip R (xs ++ x ∷ []) (ys ++ y ∷ [])
zip_push R [] [] x y h r = (r, tt)
zip_push R [] (z ∷ ys) x y h r = absurd h
zip_push R (z ∷ xs) [] x y h r = absurd h
zip_push R (z ∷ xs) (w ∷ ys) x y h r = (h.0, zip_push R xs ys x y h.1 r)

along : {X : Type 0} (P : X → Type 0) {x y : X} → x ≡ y → P x → P y
along P e p = rw (sym e) p

take_whole : {X : Type 0} (xs : List X) (i : ℕ) → length xs ≤ i → take i xs ≡ xs
take_whole xs i h = grind (arith, common_steps)

is_some_by : {X : Type 0} (o : Option X) (x : X) → o ≡ Some x → IsSome o
is_some_by None x e = search rules
is_some_by (Some y) x e = search rules

pub refused_all : (lack : List ℕ → Option ExploreResult) (options : List (List ℕ)) (all : List ExploredAuthOption) → AllZip (λ o refused. (refused.scheme_id ≡ o) × (lack o ≡ Some refused.result)) options all → All (λ o. IsSome (lack o)) options
refused_all lack [] [] h = All-nil (λ o. IsSome (lack o))
refused_all lack [] (r ∷ all) h = absurd h
refused_all lack (o ∷ options) [] h = absurd h
refused_all lack (o ∷ options) (r ∷ all) h = All-cons (λ o. IsSome (lack o)) o options (is_some_by (lack o) r.result h.0.1) (refused_all lack options all h.1)

-- no option was looked at yet
pub none_yet : (lack : List ℕ → Option ExploreResult) (explored : ExploredList) → KeepsFirst [] explored → NoneChosen lack [] explored
none_yet lack explored kept = record { all = []; each = tt; kept = kept }

-- one more lacks something
pub none_more : (lack : List ℕ → Option ExploreResult) (options : List (List ℕ)) (i : ℕ) (option : List ℕ) (result : ExploreResult) (old new : ExploredList) → NoneChosen lack (take i options) old → i < length options → option ≡ get_or options i option → lack option ≡ Some result → ((all : List ExploredAuthOption) → KeepsFirst all old → KeepsFirst (all ++ record { scheme_id = option; result = result } ∷ []) new) → NoneChosen lack (take (i + 1) options) new
none_more lack options i option result old new n within is lacks push = record {
  all = n.all ++ record { scheme_id = option; result = result } ∷ [];
  each = rw (take_more options i option within) (rw (sym is) (zip_push (λ o refused. (refused.scheme_id ≡ o) × (lack o ≡ Some refused.result)) (take i options) n.all option (record { scheme_id = option; result = result }) n.each (refl, lacks)));
  kept = push n.all n.kept;
}

-- all were looked at
pub none_at_all : (lack : List ℕ → Option ExploreResult) (options : List (List ℕ)) (i : ℕ) (explored : ExploredList) → NoneChosen lack (take i options) explored → length options ≤ i → NoneChosen lack options explored
none_at_all lack options i explored n all = along (λ l. NoneChosen lack l explored) (take_whole options i all) n

-- the next one lacks nothing
pub first_found : (lack : List ℕ → Option ExploreResult) (options : List (List ℕ)) (i : ℕ) (option : List ℕ) (old : ExploredList) → NoneChosen lack (take i options) old → i < length options → option ≡ get_or options i option → lack option ≡ None → IsChosen lack options i
first_found lack options i option old n within is qualifies = record {
  earlier = take i options;
  option = option;
  later = drop (i + 1) options;
  split = sym (take-append-drop i options) ∙ ap (λ l. take i options ++ l) (drop_more options i option within ∙ ap (λ o. o ∷ drop (i + 1) options) (sym is));
  place_is = grind (arith, common_steps);
  qualifies = qualifies;
  refused = refused_all lack (take i options) n.all n.each;
}
