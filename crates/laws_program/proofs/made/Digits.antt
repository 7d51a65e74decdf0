-- The digits of a number can be shown.
use Rattle.std.proofs.Common.{◌≡◌, ℕ, ◌^◌, ◌<◌, List, [], ◌∷◌, true, decimal, refl, arith}
use Rattle.std.proofs.lemmas.Bool.{and_from}
use Rattle.std.proofs.lemmas.Bool.Decides.{nat_tests}
use Rattle.std.proofs.lemmas.Fmt.{decimal_is_IsNumeral}
use Rattle.std.specs.Char.{digit_value}
use Rattle.std.specs.List.{list_all}
use Rattle.std.specs.Str.Parse.{AllDigits}
use Rattle.json_forms.specs.Prints.{is_shown}

digit_shown : (c : ℕ) → digit_value c < 10 → is_shown c ≡ true
unfolding is_shown
digit_shown c small = grind (arith, nat_tests)

all_shown : (text : List ℕ) → AllDigits 10 text → list_all is_shown text ≡ true
all_shown [] h = refl
all_shown (c ∷ text) h = and_from (is_shown c) (list_all is_shown text) (digit_shown c h.0) (all_shown text h.1)

pub decimal_shown : (n : ℕ) → n < 2 ^ 64 → list_all is_shown (decimal n) ≡ true
decimal_shown n h = all_shown (decimal n) (decimal_is_IsNumeral n h).0.1
