-- How the model's values stand in JSON.
use Rattle.std.specs.Prelude.{List, ℕ, ◌^◌, Option, Some, None, codes, bytes_eq, unwrap_or, if◌then◌else◌}
use Rattle.std.proofs.Common.{refl}
use Rattle.json_payloads.specs.Base64.{base64}
use Rattle.json_payloads.specs.Floats.{double}
use Rattle.json_payloads.specs.Forms.{Form, text, truth, name_form}
use Rattle.json_payloads.specs.Lists.{list, sparse_list}
use Rattle.json_payloads.specs.Maps.{text_map}
use Rattle.json_payloads.specs.Numbers.{whole_number, number_under, integer, integer_within}
use Rattle.json_payloads.specs.Objects.{required, optional, ◌⊗◌, done, object_form}
use Rattle.json_payloads.specs.Times.{epoch_seconds}
use Rattle.json_payloads.specs.Unions.{◌⊕◌, no_case, union_form}
use Rattle.json_payloads.specs.declared.unions.Case.{Case}
use Rattle.json_payloads.specs.declared.unions.Case.TheVariants.{This, Other}
use Rattle.json_payloads.specs.declared.unions.NoCase.{NoCase}
use Rattle.golden_payloads.specs.declared.model.Address.{Address}
use Rattle.golden_payloads.specs.declared.model.Numbers.{Numbers}
use Rattle.golden_payloads.specs.declared.model.Payment.{Payment}
use Rattle.golden_payloads.specs.declared.model.Payment.TheVariants.{Card, Cents, Voucher}
use Rattle.golden_payloads.specs.declared.model.Shipment.{Shipment}
use Rattle.golden_payloads.specs.declared.model.State.{State}
use Rattle.golden_payloads.specs.declared.model.State.TheVariants.{Packed, OnTheWay, Delivered}

-- how a state is spelled
abbrev pub state_name : State → List ℕ
state_name Packed = codes "PACKED"
state_name OnTheWay = codes "ON_THE_WAY"
state_name Delivered = codes "DELIVERED"

-- the state that is spelled so
abbrev pub state_of : List ℕ → Option State
state_of s =
    if bytes_eq s (codes "PACKED") then Some Packed
    else if bytes_eq s (codes "ON_THE_WAY") then Some OnTheWay
    else if bytes_eq s (codes "DELIVERED") then Some Delivered
    else None

-- a state stands as its name
abbrev pub state : Form State
state = name_form state_name state_of (elim [ Packed ↦ refl | OnTheWay ↦ refl | Delivered ↦ refl ])

-- an address
abbrev pub address : Form Address
address = object_form
    (required (codes "street") text
    ⊗ optional (codes "house") (number_under (2 ^ 32))
    ⊗ done)
    refl
    (λ a. (a.street, (a.house, tt)))
    (λ (street, (house, _)). record { street = street; house = house })
    (λ a. refl)

-- the cases of a payment
abbrev pub Cases : Type 0
Cases = Case (List ℕ) (Case ℕ (Case Address NoCase))

-- the case that a payment is
abbrev pub payment_case : Payment → Cases
payment_case (Card number) = This number
payment_case (Cents amount) = Other (This amount)
payment_case (Voucher from) = Other (Other (This from))

-- the payment that a case is
abbrev pub payment_of : Cases → Payment
payment_of (This number) = Card number
payment_of (Other (This amount)) = Cents amount
payment_of (Other (Other (This from))) = Voucher from
payment_of (Other (Other (Other none))) = elim none [ ]

-- a payment
abbrev pub payment : Form Payment
payment = union_form
    ((codes "card", text) ⊕ (codes "cents", whole_number) ⊕ (codes "voucher", address) ⊕ no_case)
    refl
    payment_case
    payment_of
    (elim [ Card number ↦ refl | Cents amount ↦ refl | Voucher from ↦ refl ])

-- numbers
abbrev pub numbers : Form Numbers
numbers = object_form
    (required (codes "u8") (number_under (2 ^ 8))
    ⊗ required (codes "u16") (number_under (2 ^ 16))
    ⊗ required (codes "u32") (number_under (2 ^ 32))
    ⊗ required (codes "u64") whole_number
    ⊗ required (codes "i8") (integer_within (2 ^ 7))
    ⊗ required (codes "i16") (integer_within (2 ^ 15))
    ⊗ required (codes "i32") (integer_within (2 ^ 31))
    ⊗ required (codes "i64") integer
    ⊗ optional (codes "double") double
    ⊗ done)
    refl
    (λ n. (n.u8, (n.u16, (n.u32, (n.u64, (n.i8, (n.i16, (n.i32, (n.i64, (n.double, tt))))))))))
    (λ (u8, (u16, (u32, (u64, (i8, (i16, (i32, (i64, (double, _))))))))). record { u8 = u8; u16 = u16; u32 = u32; u64 = u64; i8 = i8; i16 = i16; i32 = i32; i64 = i64; double = double })
    (λ n. refl)

-- a shipment
abbrev pub shipment : Form Shipment
shipment = object_form
    (required (codes "id") text
    ⊗ required (codes "state") state
    ⊗ required (codes "from") address
    ⊗ optional (codes "to") address
    ⊗ required (codes "parcels") (list text)
    ⊗ optional (codes "weights") (sparse_list (number_under (2 ^ 32)))
    ⊗ optional (codes "labels") (text_map text)
    ⊗ optional (codes "rings") (number_under (2 ^ 8))
    ⊗ required (codes "fragile") truth
    ⊗ optional (codes "image") base64
    ⊗ required (codes "packed") epoch_seconds
    ⊗ optional (codes "payment") payment
    ⊗ optional (codes "numbers") numbers
    ⊗ done)
    refl
    (λ s. (s.id, (s.state, (s.from, (s.to, (s.parcels, (s.weights, (s.labels, (Some s.rings, (s.fragile, (s.image, (s.packed, (s.payment, (s.numbers, tt))))))))))))))
    (λ (id, (state, (from, (to, (parcels, (weights, (labels, (rings, (fragile, (image, (packed, (payment, (numbers, _))))))))))))). record { id = id; state = state; from = from; to = to; parcels = parcels; weights = weights; labels = labels; rings = unwrap_or rings 3; fragile = fragile; image = image; packed = packed; payment = payment; numbers = numbers })
    (λ s. refl)
