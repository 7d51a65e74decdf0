-- An error that tells more than its name.
use Rattle.std.specs.Prelude.{◌^◌, ◌==◌, ℕ, Option, Some, None, codes, if◌then◌else◌}
use Rattle.std.proofs.Common.{refl}
use Rattle.json_payloads.specs.Forms.{Form}
use Rattle.json_payloads.specs.Numbers.{number_under}
use Rattle.json_payloads.specs.Objects.{required, optional, ◌⊗◌, done, object_form}
use Rattle.golden_payloads.specs.declared.refusals.Fault.{Fault}
use Rattle.golden_payloads.specs.declared.refusals.Fault.TheVariants.{TooHeavy}
use Rattle.golden_payloads.specs.declared.refusals.Limit.{Limit}

-- what a parcel may weigh
abbrev pub limit : Form Limit
limit = object_form
    (required (codes "grams") (number_under (2 ^ 32)) ⊗ optional (codes "wait") (number_under (2 ^ 32)) ⊗ done)
    refl
    (λ l. (l.grams, (l.wait, tt)))
    (λ (grams, (wait, _)). record { grams = grams; wait = wait })
    (λ l. refl)

-- the error of a status
abbrev pub fault_of : ℕ → Option Fault
fault_of status = if status == 413 then Some TooHeavy else None
