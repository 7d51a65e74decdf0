-- Bytes that are shown are text.
use Rattle.std.proofs.Common.{◌≡◌, ℕ, zero, suc, ◌<◌, List, [], ◌∷◌, Bool, true, false, ◌&&◌, refl, arith}
use Rattle.std.specs.List.{list_all}
use Rattle.std.specs.Prelude.{IsAscii, IsUtf8}
use Rattle.std.proofs.lemmas.Str.{IsUtf8-from_ascii}
use Rattle.std.proofs.lemmas.Bool.Decides.{nat_tests}
use Rattle.json_forms.specs.Prints.{is_shown}

shown_below : (b : ℕ) → is_shown b ≡ true → b < 128
unfolding is_shown
shown_below b h = grind (arith, nat_tests)

both : (a b : Bool) → a && b ≡ true → (a ≡ true) × (b ≡ true)
both true true h = (refl, refl)
both true false h = absurd (cc)
both false b h = absurd (cc)

shown_ascii : (bs : List ℕ) → list_all is_shown bs ≡ true → IsAscii bs
shown_ascii [] h i = omega arith
shown_ascii (b ∷ bs) h zero = shown_below b (both (is_shown b) (list_all is_shown bs) h).0
shown_ascii (b ∷ bs) h (suc i) = shown_ascii bs (both (is_shown b) (list_all is_shown bs) h).1 i

pub shown_text : (bs : List ℕ) → list_all is_shown bs ≡ true → IsUtf8 bs
shown_text bs h = IsUtf8-from_ascii bs (shown_ascii bs h)
