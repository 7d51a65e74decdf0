-- A list keeps free of floats.
use Rattle.std.proofs.Common.{◌≡◌, Bool, true, false, List, [], ◌∷◌, ◌++◌, cond, ◌||◌, arith}
use Rattle.serde_json.specs.declared.value.Value.{Value}
use Rattle.serde_json.specs.View.{view, items_view}
use Rattle.serde_json.specs.Written.{has_float, items_have_float}

or_false-step : (a b c : Bool) → a || b ≡ false → (b ≡ false → c ≡ false) → a || c ≡ false
or_false-step true b c h k = absurd (cc)
or_false-step false b c h k = k h

pub no_float-push : (xs : List Value) (v : Value) → items_have_float (items_view xs) ≡ false → has_float (view v) ≡ false → items_have_float (items_view (xs ++ v ∷ [])) ≡ false
no_float-push [] v h k = grind arith
no_float-push (x ∷ xs) v h k = or_false-step (has_float (view x)) (items_have_float (items_view xs)) _ h (λ t. no_float-push xs v t k)

pub no_float-after : (b : Bool) (xs ys : List Value) (v : Value) → ys ≡ cond b (xs ++ v ∷ []) xs → items_have_float (items_view xs) ≡ false → has_float (view v) ≡ false → items_have_float (items_view ys) ≡ false
no_float-after true xs ys v e h k = rw e (no_float-push xs v h k)
no_float-after false xs ys v e h k = rw e h
