-- What a payload of an error with details is read as.
use Rattle.std.proofs.Common.{◌≡◌, ◌≤◌, ℕ, List, Option, Some, None, true, ap, sym, subst, ◌∙◌}
use Rattle.std.specs.Prelude.{option_map, unwrap_or}
use Rattle.std.proofs.Math.Nat.{le_trans}
use Rattle.serde_json.specs.Data.{Data, depth}
use Rattle.serde_json.specs.Read.{max_depth}
use Rattle.smithy_types.specs.declared.payload.Payload.{Payload}
use Rattle.json_payloads.specs.Details.{details_in, detailed_in}
use Rattle.json_payloads.specs.Forms.{Form, option_fits, present_at}
use Rattle.json_payloads.specs.Lists.{null_or, sparse_back, sparse_shallow}
use Rattle.json_payloads.specs.Payloads.{data_of_bytes}
use Rattle.json_payloads.specs.Reading.{◌>>=◌}
use Rattle.json_payloads.specs.declared.details.DetailedError.{DetailedError}

-- the error with these details
abbrev pub with_details : {E D : Type 0} → Option D → E → DetailedError E D
with_details d error = record { error = error; details = d }

-- details that were printed are read back
pub details_back : {D : Type 0} (f : Form D) (o : Option D) (v : Data) (kind : ℕ) (bytes : List ℕ) → f.levels ≤ max_depth →
    v ≡ null_or f.prints o → option_fits f.fits o ≡ true →
    (depth v ≤ max_depth → data_of_bytes bytes ≡ Some v) → details_in f (record { kind = kind; bytes = bytes }) ≡ o
details_back {D} f o v kind bytes within is fit printed =
    let P : Data → Type 0 = λ d. depth d ≤ max_depth in
    let shallow : P v = subst P (sym is) (le_trans (sparse_shallow f o) within) in
    ap (λ (q : Option Data). unwrap_or (q >>= present_at f) None) (printed shallow ∙ ap (λ (d : Data). Some d) is)
    ∙ ap (λ (q : Option (Option D)). unwrap_or q None) (sparse_back f o fit)

-- a payload of the error's status, with its details, is the error
pub told_with_details : {E D : Type 0} (of_status : ℕ → Option E) (status : E → ℕ) (f : Form D) (x : DetailedError E D)
    (p : Payload) → of_status (status x.error) ≡ Some x.error → p.kind ≡ status x.error → details_in f p ≡ x.details →
    detailed_in of_status f p ≡ Some x
told_with_details {E} {D} of_status status f x p law kind details =
    ap (λ (k : ℕ). option_map (with_details (details_in f p)) (of_status k)) kind
    ∙ ap (option_map (with_details (details_in f p))) law
    ∙ ap (λ (d : Option D). Some (with_details d x.error)) details

-- the error of a payload whose kind is its status
pub read_with_details : {E D : Type 0} (of_status : ℕ → Option E) (f : Form D) (error : E) (p : Payload) →
    Some error ≡ of_status p.kind → detailed_in of_status f p ≡ Some (with_details (details_in f p) error)
read_with_details of_status f error p is = ap (option_map (with_details (details_in f p))) (sym is)
