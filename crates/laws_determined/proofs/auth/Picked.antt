-- Which option is picked is determined.
use Rattle.std.proofs.Common.{◌≡◌, ◌∙◌, refl, sym, ap, subst, ℕ, ◌<◌, suc, arith, List, [], ◌∷◌, ◌++◌, Option, None, Some, length, take, nat_lt}
use Rattle.std.specs.Prelude.{All, IsSome, is_some, slice_get}
use Rattle.std.specs.List.{AllZip}
use Rattle.std.proofs.lemmas.Bool.{false≢true}
use Rattle.auth_endpoint.specs.Choice.{IsChosen, NoneChosen}
use Rattle.auth_endpoint.specs.Texts.{no_match_text}
use Rattle.auth_endpoint.specs.declared.explored.ExploreResult.{ExploreResult}
use Rattle.auth_endpoint.specs.declared.explored.ExploredAuthOption.{ExploredAuthOption}
use Rattle.auth_endpoint.specs.declared.explored.ExploredList.{ExploredList}
use Rattle.auth_endpoint.specs.declared.explored.NoMatchingAuthSchemeError.TheVariants.{Explored}
use Rattle.client_auth.specs.Choosing.{PicksAmong}
use Rattle.client_auth.specs.declared.choose.Picked.{Picked}
use Rattle.client_auth.specs.declared.choose.Picked.TheVariants.{Scheme, Refused}

pub same_some : {X : Type 0} (x y : X) → Some x ≡ Some y → x ≡ y
same_some x y is = cc

same_head : {X : Type 0} (x y : X) (xs ys : List X) → x ∷ xs ≡ y ∷ ys → x ≡ y
same_head x y xs ys is = cc

same_tail : {X : Type 0} (x y : X) (xs ys : List X) → x ∷ xs ≡ y ∷ ys → xs ≡ ys
same_tail x y xs ys is = cc

first_of : {X : Type 0} (P : X → Type 0) (x : X) (xs : List X) → All P (x ∷ xs) → P x
first_of P x xs all = let some : 0 < length (x ∷ xs) = omega arith in all 0 x some

others_of : {X : Type 0} (P : X → Type 0) (x : X) (xs : List X) → All P (x ∷ xs) → All P xs
others_of P x xs all = λ k d less. let more : suc k < length (x ∷ xs) = omega (arith, less) in all (suc k) d more

module _ (lack : List ℕ → Option ExploreResult) where
  chosen_lacks : (chosen refused : List ℕ) → chosen ≡ refused → lack chosen ≡ None → IsSome (lack refused) → ⊥
  chosen_lacks chosen refused same none some = false≢true (sym (ap is_some (ap lack (sym same) ∙ none)) ∙ some)

  one_place : (earlier other : List (List ℕ)) (option also : List ℕ) (later rest : List (List ℕ)) → earlier ++ option ∷ later ≡ other ++ also ∷ rest → lack option ≡ None → lack also ≡ None
      → All (λ o. IsSome (lack o)) earlier → All (λ o. IsSome (lack o)) other → length earlier ≡ length other
  one_place [] [] option also later rest is none too all more = refl
  one_place [] (o ∷ os) option also later rest is none too all more =
      absurd (chosen_lacks option o (same_head option o later (os ++ also ∷ rest) is) none (first_of (λ o. IsSome (lack o)) o os more))
  one_place (o ∷ os) [] option also later rest is none too all more =
      absurd (chosen_lacks also o (sym (same_head o also (os ++ option ∷ later) rest is)) too (first_of (λ o. IsSome (lack o)) o os all))
  one_place (o ∷ os) (p ∷ ps) option also later rest is none too all more =
      ap suc (one_place os ps option also later rest (same_tail o p (os ++ option ∷ later) (ps ++ also ∷ rest) is) none too (others_of (λ o. IsSome (lack o)) o os all) (others_of (λ o. IsSome (lack o)) p ps more))

  chosen_once : (options : List (List ℕ)) (one two : ℕ) → IsChosen lack options one → IsChosen lack options two → one ≡ two
  chosen_once options one two s t =
      s.place_is ∙ (one_place s.earlier t.earlier s.option t.option s.later t.later (sym s.split ∙ t.split) s.qualifies t.qualifies s.refused t.refused ∙ sym t.place_is)

  abbrev Refuses : List ℕ → ExploredAuthOption → Type 0
  Refuses o refused = (refused.scheme_id ≡ o) × (lack o ≡ Some refused.result)

  none_there : (earlier : List (List ℕ)) (option : List ℕ) (later : List (List ℕ)) (all : List ExploredAuthOption) → AllZip Refuses (earlier ++ option ∷ later) all → lack option ≡ None → ⊥
  none_there [] option later [] zip none = zip
  none_there [] option later (x ∷ xs) zip none = let clash = sym none ∙ zip.0.1 in cc clash
  none_there (e ∷ es) option later [] zip none = zip
  none_there (e ∷ es) option later (x ∷ xs) zip none = none_there es option later xs zip.1 none

  not_both : (options : List (List ℕ)) (place : ℕ) (explored : ExploredList) → IsChosen lack options place → NoneChosen lack options explored → ⊥
  not_both options place explored s t = none_there s.earlier s.option s.later t.all (subst (λ o. AllZip Refuses o t.all) s.split t.each) s.qualifies

  refused_once : (options : List (List ℕ)) (one two : List ExploredAuthOption) → AllZip Refuses options one → AllZip Refuses options two → one ≡ two
  refused_once [] [] [] s t = refl
  refused_once [] [] (y ∷ ys) s t = absurd t
  refused_once [] (x ∷ xs) two s t = absurd s
  refused_once (o ∷ os) [] two s t = absurd s
  refused_once (o ∷ os) (x ∷ xs) [] s t = absurd t
  refused_once (o ∷ os) (x ∷ xs) (y ∷ ys) s t =
      let id : x.scheme_id ≡ y.scheme_id = s.0.0 ∙ sym t.0.0 in
      let result : x.result ≡ y.result = same_some x.result y.result (sym s.0.1 ∙ t.0.1) in
      let rest = refused_once os xs ys s.1 t.1 in
      λ i. (record { scheme_id = id i; result = result i }) ∷ rest i

  explored_once : (options : List (List ℕ)) (one two : ExploredList) → NoneChosen lack options one → NoneChosen lack options two → one ≡ two
  explored_once options one two s t =
      let all = refused_once options s.all t.all s.each t.each in
      let items : one.items ≡ two.items = s.kept.kept ∙ (ap (take 7) all ∙ sym t.kept.kept) in
      let truncated : one.truncated ≡ two.truncated = s.kept.more ∙ (ap (λ (xs : List ExploredAuthOption). nat_lt 7 (length xs)) all ∙ sym t.kept.more) in
      λ i. record { items = items i; truncated = truncated i }

  pub picked_once : (options : List (List ℕ)) (one two : Picked) → PicksAmong lack options one → PicksAmong lack options two → one ≡ two
  picked_once options (Scheme one) (Scheme two) (place, chosen, there) (other, also, too) =
      ap Scheme (same_some one two (sym there ∙ (ap (slice_get options) (chosen_once options place other chosen also) ∙ too)))
  picked_once options (Scheme one) (Refused two) (place, chosen, there) (explored, none, text) = absurd (not_both options place explored chosen none)
  picked_once options (Refused one) (Scheme two) (explored, none, text) (place, chosen, there) = absurd (not_both options place explored chosen none)
  picked_once options (Refused one) (Refused two) (explored, none, text) (other, also, too) =
      ap Refused (text ∙ (ap (λ x. no_match_text (Explored x)) (explored_once options explored other none also) ∙ sym too))
