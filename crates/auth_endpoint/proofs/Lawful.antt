-- The laws of orders, choices and endpoints.
use Rattle.std.proofs.Common.{◌≡◌, ◌++◌, ◌∷◌, [], ℕ, suc, not, length, List, Option, None, Some, IsSome, All, refl, sym, ap, ◌∙◌, subst, Bool, true, false}
use Rattle.std.specs.List.{filter}
use Rattle.std.specs.List.Sorted.{IsPermutation}
use Rattle.std.proofs.lemmas.List.Elements.{All-head, All-tail}
use Rattle.std.proofs.lemmas.List.Sorted.{IsPermutation-refl, IsPermutation-trans, IsPermutation-filter_both, IsPermutation-append_comm}
use Rattle.http_uri.specs.declared.uri.Uri.{Uri as Target}
use Rattle.http_uri.specs.Uri.{HasParts, Spells, uri_scheme, uri_authority, uri_data}
use Rattle.http_uri.proofs.Theorems.{Spells_unique}
use Rattle.auth_endpoint.specs.Choice.{is_id, is_named, preferred, reprioritized, IsChosen, NoneChosen}
use Rattle.auth_endpoint.specs.Endpoint.{IsApplied, whole_text, joined_authority}
use Rattle.auth_endpoint.specs.declared.explored.ExploredList.{ExploredList}
use Rattle.auth_endpoint.specs.declared.explored.ExploreResult.{ExploreResult}
use Rattle.auth_endpoint.proofs.ChoiceLemmas.{refused_all}
use Rattle.auth_endpoint.proofs.PreferenceLemmas.{IsOrdered, ordered_none, ordered_again, ordered_last, ordered_through}

-- ---- orders

-- one name more only moves options
moves_on : (now new : List (List ℕ)) (p : List ℕ) → new ≡ filter (λ o. not (is_id p o)) now ++ filter (is_id p) now → IsPermutation now new
moves_on now new p made = subst (λ l. IsPermutation now l) (sym made) (IsPermutation-filter_both (λ o. not (is_id p o)) (is_id p) (λ o. twice (is_id p o)) now)
  where
    twice : (b : Bool) → b ≡ not (not b)
    twice true = refl
    twice false = refl

-- behind the names that are left stand the options that there were
walked : (names options left now : List (List ℕ)) → IsOrdered names options left now → IsPermutation options now → IsPermutation options (filter (λ o. not (is_named names o)) options ++ preferred names options)
walked names options [] now o p = subst (λ l. IsPermutation options l) (ordered_through names options now o) p
walked names options (q ∷ left) now o p = further (is_named left q) refl (λ new n s. walked names options left new n s)
  where
    further : (b : Bool) → is_named left q ≡ b → ((new : List (List ℕ)) → IsOrdered names options left new → IsPermutation options new → IsPermutation options (filter (λ o. not (is_named names o)) options ++ preferred names options)) → IsPermutation options (filter (λ o. not (is_named names o)) options ++ preferred names options)
    further true again on = on now (ordered_again names options left now q o again) p
    further false last on =
        let new = filter (λ o. not (is_id q o)) now ++ filter (is_id q) now in
        on new (ordered_last names options left now new q o last refl) (IsPermutation-trans options now new p (moves_on now new q refl))

pub only_reorders : (preference : Option (List (List ℕ))) (options : List (List ℕ)) → IsPermutation options (reprioritized preference options)
only_reorders None options = IsPermutation-refl options
only_reorders (Some names) options =
    let unnamed = filter (λ o. not (is_named names o)) options in
    IsPermutation-trans options (unnamed ++ preferred names options) (preferred names options ++ unnamed) (walked names options names options (ordered_none names options) (IsPermutation-refl options)) (IsPermutation-append_comm unnamed (preferred names options))

-- ---- choices

nothing_of : {X : Type 0} (o : Option X) → IsSome o → o ≡ None → ⊥
nothing_of None s e = untrue s
  where
    untrue : false ≡ true → ⊥
    untrue e = cc
nothing_of (Some x) s e = cc

-- what all of a list have, each of it has
at_split : (P : List ℕ → Type 0) (front : List (List ℕ)) (x : List ℕ) (later : List (List ℕ)) → All P (front ++ x ∷ later) → P x
at_split P [] x later h = All-head P x later h
at_split P (y ∷ front) x later h = at_split P front x later (All-tail P y (front ++ x ∷ later) h)

pub not_both : (lack : List ℕ → Option ExploreResult) (options : List (List ℕ)) (place : ℕ) (explored : ExploredList) → IsChosen lack options place → ¬ (NoneChosen lack options explored)
not_both lack options place explored c n =
    nothing_of (lack c.option)
    (at_split (λ o. IsSome (lack o)) c.earlier c.option c.later (subst (λ l. All (λ o. IsSome (lack o)) l) c.split (refused_all lack options n.all n.each)))
    c.qualifies

first_of : {X : Type 0} (x y : X) (xs ys : List X) → x ∷ xs ≡ y ∷ ys → x ≡ y
first_of x y xs ys e = cc

rest_of : {X : Type 0} (x y : X) (xs ys : List X) → x ∷ xs ≡ y ∷ ys → xs ≡ ys
rest_of x y xs ys e = cc

same_length : (lack : List ℕ → Option ExploreResult) (front : List (List ℕ)) (x : List ℕ) (later other : List (List ℕ)) (y : List ℕ) (behind : List (List ℕ)) → front ++ x ∷ later ≡ other ++ y ∷ behind → lack x ≡ None → lack y ≡ None → All (λ o. IsSome (lack o)) front → All (λ o. IsSome (lack o)) other → length front ≡ length other
same_length lack [] x later [] y behind e a b f g = refl
same_length lack [] x later (z ∷ other) y behind e a b f g = absurd (nothing_of (lack z) (All-head (λ o. IsSome (lack o)) z other g) (ap lack (sym (first_of x z later (other ++ y ∷ behind) e)) ∙ a))
same_length lack (w ∷ front) x later [] y behind e a b f g = absurd (nothing_of (lack w) (All-head (λ o. IsSome (lack o)) w front f) (ap lack (first_of w y (front ++ x ∷ later) behind e) ∙ b))
same_length lack (w ∷ front) x later (z ∷ other) y behind e a b f g = ap (λ n. suc n) (same_length lack front x later other y behind (rest_of w z (front ++ x ∷ later) (other ++ y ∷ behind) e) a b (All-tail (λ o. IsSome (lack o)) w front f) (All-tail (λ o. IsSome (lack o)) z other g))

pub one_place : (lack : List ℕ → Option ExploreResult) (options : List (List ℕ)) (place other : ℕ) → IsChosen lack options place → IsChosen lack options other → place ≡ other
one_place lack options place other c d =
    c.place_is
    ∙ same_length lack c.earlier c.option c.later d.earlier d.option d.later (sym c.split ∙ d.split) c.qualifies d.qualifies c.refused d.refused
    ∙ sym d.place_is

-- ---- endpoints

some_same : {X : Type 0} (x y : X) → Some x ≡ Some y → x ≡ y
some_same x y e = cc

pub one_way : (uri endpoint : Target) (prefix : Option (List ℕ)) (one other : Target) → IsApplied uri endpoint prefix one → IsApplied uri endpoint prefix other → HasParts one (uri_scheme other) (uri_authority other) (uri_data other)
one_way uri endpoint prefix one other (s, f, h) (t, g, k) =
    Spells_unique (whole_text s (joined_authority prefix endpoint) uri endpoint) one other h
    (subst (λ r. Spells (whole_text r (joined_authority prefix endpoint) uri endpoint) other) (some_same t s (sym g.has_scheme ∙ f.has_scheme)) k)
