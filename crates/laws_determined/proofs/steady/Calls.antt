-- Two lists of calls from one state, where the outside is steady.
use Rattle.std.proofs.Common.{◌≡◌, ◌∙◌, refl, sym, ap, subst, ℕ, Bool, true, false, List, [], ◌∷◌, ◌++◌, Option, None, Some}
use Rattle.std.specs.Prelude.{IsTrue, ◌↔◌, is_some}
use Rattle.std.proofs.lemmas.Bool.{false≢true}
use Rattle.outside.specs.Calls.{OutsideCall, OfTimers}
use Rattle.outside.specs.Clock.{clock_calls}
use Rattle.smithy_types.specs.Chain.{Chained}
use Rattle.smithy_types.specs.declared.timers.TimersCall.TheVariants.{Now}
use Rattle.laws_determined.specs.Steady.Steady.{IsSteady, Tells}

-- a chain of two stretches is a chain of each
pub chain_split : {T C : Type 0} (makes : T → C → T → Type 0) (first later : List C) (old new : T) → Chained makes old (first ++ later) new →
    (mid : T) × Chained makes old first mid × Chained makes mid later new
chain_split makes [] later old new made = (old, refl, made)
chain_split makes (call ∷ first) later old new (mid, this, rest) =
    let cut = chain_split makes first later mid new rest in
    (cut.0, (mid, this, cut.1), cut.2)

-- two lists are made from one state on
pub record Onward {X : Type 0} (makes : X → OutsideCall → X → Type 0) (calls more : List OutsideCall) (new other : X) : Type 0 where
  pub state : X
  pub first : Chained makes state calls new
  pub second : Chained makes state more other

module _ {X : Type 0} (makes : X → OutsideCall → X → Type 0) (steady : IsSteady makes) where
  -- the same calls leave the same state
  pub same_calls : (calls : List OutsideCall) (old new other : X) → Chained makes old calls new → Chained makes old calls other → new ≡ other
  same_calls [] old new other made again = made ∙ sym again
  same_calls (call ∷ calls) old new other (mid, this, rest) (away, that, more) =
      same_calls calls away new other (subst (λ m. Chained makes m calls new) (steady.moves old mid away call this that) rest) more

  -- a call that tells its answer is answered alike
  pub onward : {A : Type 0} (call : A → OutsideCall) → Tells makes call → (a b : A) (calls more : List OutsideCall) (old new other : X)
      → Chained makes old (call a ∷ calls) new → Chained makes old (call b ∷ more) other → (a ≡ b) × Onward makes calls more new other
  onward call tells a b calls more old new other (mid, this, rest) (away, that, later) =
      let told : a ≡ b = tells old mid away a b this that in
      let met : mid ≡ away = steady.moves old mid away (call b) (subst (λ x. makes old (call x) mid) told this) that in
      (told, record { state = away; first = subst (λ m. Chained makes m calls new) met rest; second = later })

  -- so it is behind the same calls
  pub past : (front calls more : List OutsideCall) (old new other : X) → Chained makes old (front ++ calls) new → Chained makes old (front ++ more) other
      → Onward makes calls more new other
  past front calls more old new other made again =
      let one = chain_split makes front calls old new made in
      let two = chain_split makes front more old other again in
      record { state = two.0; first = subst (λ m. Chained makes m calls new) (same_calls front old one.0 two.0 one.1 two.1) one.2; second = two.2 }

  -- the present moment, where it is asked for
  pub clock_tells : (now later : Option ℕ) (calls more : List OutsideCall) (old new other : X) → is_some now ≡ is_some later
      → Chained makes old (clock_calls now ++ calls) new → Chained makes old (clock_calls later ++ more) other → (now ≡ later) × Onward makes calls more new other
  clock_tells None None calls more old new other known made again = (refl, record { state = old; first = made; second = again })
  clock_tells None (Some m) calls more old new other known made again = absurd (false≢true known)
  clock_tells (Some m) None calls more old new other known made again = absurd (false≢true (sym known))
  clock_tells (Some m) (Some n) calls more old new other known made again =
      let met = onward (λ moment. OfTimers (Now moment)) steady.now m n calls more old new other made again in (ap Some met.0, met.1)

-- two that are so exactly where a third is
pub same_known : (a b c : Bool) → IsTrue a ↔ IsTrue c → IsTrue b ↔ IsTrue c → a ≡ b
same_known true true c p q = refl
same_known false false c p q = refl
same_known true false c p q = sym (q.1 (p.0 refl))
same_known false true c p q = p.1 (q.0 refl)
