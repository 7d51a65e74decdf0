-- The model in JSON, and its errors.
use Rattle.std.specs.Prelude.{◌≡◌, ◌^◌, ◌==◌, ℕ, Option, Some, None, codes, if◌then◌else◌}
use Rattle.std.proofs.Common.{refl}
use Rattle.json_payloads.specs.Forms.{Form, text, truth}
use Rattle.json_payloads.specs.Moments.{date_time}
use Rattle.json_payloads.specs.Numbers.{whole_number, number_under}
use Rattle.json_payloads.specs.Objects.{required, optional, ◌⊗◌, done, object_form}
use Rattle.smithy_runtime.specs.Types.ErrorKind.{ErrorKind}
use Rattle.smithy_runtime.specs.Types.ErrorKind.TheVariants.{ThrottlingError}
use Rattle.example_parcel.specs.declared.model.Parcel.{Parcel}
use Rattle.example_parcel.specs.declared.model.ParcelFault.{ParcelFault}
use Rattle.example_parcel.specs.declared.model.ParcelFault.TheVariants.{Overloaded, NoSuchParcel}
use Rattle.example_parcel.specs.declared.model.Receipt.{Receipt}
use Rattle.example_parcel.specs.declared.model.Sight.{Sight}

abbrev pub parcel : Form Parcel
parcel = object_form
    (required (codes "recipient") text ⊗ required (codes "weightGrams") (number_under (2 ^ 32)) ⊗ optional
    (codes "note") text ⊗ done)
    refl
    (λ p. (p.recipient, (p.weight_grams, (p.note, tt))))
    (λ (recipient, (weight_grams, (note, _))). record {
      recipient = recipient;
      weight_grams = weight_grams;
      note = note;
    })
    (λ p. refl)

abbrev pub receipt : Form Receipt
receipt = object_form
    (required (codes "number") text ⊗ required (codes "priceCents") whole_number ⊗ done)
    refl
    (λ r. (r.number, (r.price_cents, tt)))
    (λ (number, (price_cents, _)). record { number = number; price_cents = price_cents })
    (λ r. refl)

abbrev pub sight : Form Sight
sight = object_form
    (required (codes "delivered") truth ⊗ optional (codes "seen") date_time ⊗ done)
    refl
    (λ s. (s.delivered, (s.seen, tt)))
    (λ (delivered, (seen, _)). record { delivered = delivered; seen = seen })
    (λ s. refl)

-- the status of an error's responses, and the error of a status
abbrev pub status_of : ParcelFault → ℕ
status_of Overloaded = 429
status_of NoSuchParcel = 404

abbrev pub fault_of : ℕ → Option ParcelFault
fault_of status = if status == 429 then Some Overloaded else if status == 404 then Some NoSuchParcel else None

-- what an error tells of a retry
abbrev pub retry_of : ParcelFault → Option ErrorKind
retry_of Overloaded = Some ThrottlingError
retry_of NoSuchParcel = None
