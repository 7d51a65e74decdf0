-- The lines between the first and the last.
use Rattle.std.proofs.Common.{◌≡◌, ◌-◌, ◌<◌, ◌≤◌, List, [], ◌∷◌, ◌++◌, take, drop, length, false, nat_lt, Some, None, refl, ap, ◌∙◌, arith}
use Rattle.std.proofs.Math.Seq.{take-append_seam}
use Rattle.std.proofs.lemmas.Bool.{le-ltb}
use Rattle.std.proofs.lemmas.List.{length-append}
use Rattle.json.specs.declared.value.Value.{Value}
use Rattle.json_forms.specs.View.{items_view, view}
use Rattle.serde_json.specs.Data.{Data}
use Rattle.runcheck.specs.Told.{between, told_parts}

between_by : (ds es : List Data) → nat_lt (length ds) 2 ≡ false → take (length ds - 2) (drop 1 ds) ≡ es → between ds ≡ Some es
unfolding between
between_by ds es h e = rw h (ap Some e)

at_least_two : (b : Data) (es : List Data) (d : Data) → 2 ≤ length (b ∷ (es ++ d ∷ []))
at_least_two b es d = omega (arith, length-append es (d ∷ []))

two_fewer : (b : Data) (es : List Data) (d : Data) → length (b ∷ (es ++ d ∷ [])) - 2 ≡ length es
two_fewer b es d = omega (arith, length-append es (d ∷ []))

taken : (b : Data) (es : List Data) (d : Data) → take (length (b ∷ (es ++ d ∷ [])) - 2) (drop 1 (b ∷ (es ++ d ∷ []))) ≡ es
taken b es d = ap (λ n. take n (es ++ d ∷ [])) (two_fewer b es d) ∙ take-append_seam es (d ∷ [])

pub between_read : (b : Data) (es : List Data) (d : Data) → between (b ∷ (es ++ d ∷ [])) ≡ Some es
between_read b es d = between_by (b ∷ (es ++ d ∷ [])) es (le-ltb _ _ (at_least_two b es d)) (taken b es d)

pub too_few_parts : {A : Type 0} (vs : List (Value A)) → length vs < 3 → told_parts (items_view vs) ≡ None
unfolding items_view view
too_few_parts [] h = refl
too_few_parts (a ∷ []) h = refl
too_few_parts (a ∷ b ∷ []) h = refl
too_few_parts (a ∷ b ∷ c ∷ rest) h = absurd (omega arith)
