-- The bytes of a head, header after header.
use Rattle.std.proofs.Common.{◌≡◌, ℕ, ◌+◌, ◌<◌, List, ◌∷◌, false, nat_le, sum_by, arith, ap, sym, ◌∙◌}
use Rattle.std.proofs.lemmas.List.Sums.{sum_by-cons}
use Rattle.http_header.specs.FieldValue.{FieldValue}
use Rattle.json_scripts.specs.Heads.{header_size}

within : (s t left room : ℕ) → left + s ≡ room → nat_le t left ≡ nat_le (s + t) room
within s t left room h = grind arith

over : (s t room : ℕ) → room < s → nat_le (s + t) room ≡ false
over s t room h = grind arith

-- a header more
pub size_more : (h : List ℕ × FieldValue) (hs : List (List ℕ × FieldValue)) (left room : ℕ) → left + header_size h ≡ room →
    nat_le (sum_by header_size hs) left ≡ nat_le (sum_by header_size (h ∷ hs)) room
size_more h hs left room e =
    within (header_size h) (sum_by header_size hs) left room e ∙ ap (λ (n : ℕ). nat_le n room) (sym-cons h hs)
  where
    sym-cons : (h : List ℕ × FieldValue) (hs : List (List ℕ × FieldValue)) → header_size h + sum_by header_size hs ≡ sum_by header_size (h ∷ hs)
    sym-cons h hs = sym (sum_by-cons header_size h hs)

-- a header for which there is no room
pub size_over : (h : List ℕ × FieldValue) (hs : List (List ℕ × FieldValue)) (room : ℕ) → room < header_size h → nat_le (sum_by header_size (h ∷ hs)) room ≡ false
size_over h hs room l = ap (λ (n : ℕ). nat_le n room) (sum_by-cons header_size h hs) ∙ over (header_size h) (sum_by header_size hs) room l

pub ruleset sizes = (size_more, size_over)
