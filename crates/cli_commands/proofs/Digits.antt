-- A number digit by digit.
use Rattle.std.proofs.Common.{◌≡◌, ℕ, ◌+◌, ◌<◌, ◌≤◌, List, [], ◌∷◌, length, drop, get_or, suc, Some, refl, ap, ◌∙◌, drop-cons, add-one}
use Rattle.std.proofs.lemmas.List.{drop_all}
use Rattle.std.specs.Prelude.{option_and_then}
use Rattle.cli_commands.specs.Words.{digits_number, with_digit}

digits_number-cons : (n b : ℕ) (bs : List ℕ) → digits_number n (b ∷ bs) ≡ option_and_then (λ m. digits_number m bs) (with_digit n b)
unfolding digits_number
digits_number-cons n b bs = refl

-- one digit more
pub digits_number-step : (n : ℕ) (ds : List ℕ) (i : ℕ) → i < length ds → digits_number n (drop i ds) ≡ option_and_then (λ m. digits_number m (drop (i + 1) ds)) (with_digit n (get_or ds i 0))
digits_number-step n ds i h =
    ap (digits_number n) (drop-cons ds i 0 h) ∙ rw (add-one) (digits_number-cons n (get_or ds i 0) (drop (suc i) ds))

digits_number-nil : (n : ℕ) → digits_number n [] ≡ Some n
unfolding digits_number
digits_number-nil n = refl

-- no digit more
pub digits_number-end : (n : ℕ) (ds : List ℕ) (i : ℕ) → length ds ≤ i → digits_number n (drop i ds) ≡ Some n
digits_number-end n ds i h = ap (digits_number n) (drop_all i ds h) ∙ digits_number-nil n

pub ruleset digits = (digits_number-step, digits_number-end)
