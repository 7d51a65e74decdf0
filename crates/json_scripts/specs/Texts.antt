-- Which texts are within the limit of a script.
use Rattle.std.specs.Prelude.{ℕ, List, Bool, true, Option, Some, None, length, nat_le}
use Rattle.std.specs.List.{list_all}

-- nothing, or a value that fits
abbrev pub fits_or_none : {X : Type 0} → (X → Bool) → Option X → Bool
fits_or_none fits None = true
fits_or_none fits (Some x) = fits x

-- a text has at most 4 KiB
unfoldable pub text_fits : List ℕ → Bool
text_fits t = nat_le (length t) 4096

-- each of these texts is within the limit
abbrev pub texts_fit : List (List ℕ) → Bool
texts_fit ts = list_all text_fits ts
