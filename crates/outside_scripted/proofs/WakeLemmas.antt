-- The least moment above this one, with one thing more that is due.
use Rattle.std.proofs.Common.{◌≡◌, ℕ, ◌<◌, ◌≤◌, inl, inr, List, [], ◌∷◌, ◌++◌, Option, None, Some, min, refl, sym, subst, arith, zero, suc}
use Rattle.std.specs.List.{Contains}
use Rattle.std.proofs.lemmas.Bool.{cases_lt}
use Rattle.std.proofs.lemmas.List.Elements.{Contains-append_left, Contains-append_right, Contains-append_cases}
use Rattle.outside_scripted.specs.Wake.{IsLeastAbove, IsNext, NothingAbove}

-- a list of one item has no other
only : (x y : ℕ) → Contains (x ∷ []) y → x ≡ y
only x y (zero, below, is) = is
only x y (suc k, below, is) = absurd (omega arith)

-- what holds of each item, and of one more
each : (dues : List ℕ) (due : ℕ) (P : ℕ → Type 0) → ((d : ℕ) → Contains dues d → P d) → P due → (d : ℕ) → Contains (dues ++ due ∷ []) d → P d
each dues due P old this d c =
    elim (Contains-append_cases dues (due ∷ []) d c) [ inl h ↦ old d h | inr h ↦ subst P (only due d h) this ]

-- the last item is in the list
last : (dues : List ℕ) (due : ℕ) → Contains (dues ++ due ∷ []) due
last dues due = Contains-append_right dues (due ∷ []) due (0, omega arith, refl)

-- one more that is over changes nothing
pub keeps : (moment due : ℕ) (dues : List ℕ) (next : Option ℕ) → due ≤ moment → IsNext moment dues next → IsNext moment (dues ++ due ∷ []) next
keeps moment due dues None low h = each dues due (λ d. d ≤ moment) h low
keeps moment due dues (Some next) low h = record {
  is_due = Contains-append_left dues (due ∷ []) next h.is_due;
  above = h.above;
  least = each dues due (λ d. moment < d → next ≤ d) h.least (λ high. absurd (omega arith));
}

-- one more is the first
pub first : (moment due : ℕ) (dues : List ℕ) → moment < due → NothingAbove moment dues → IsLeastAbove moment (dues ++ due ∷ []) due
first moment due dues high h = record {
  is_due = last dues due;
  above = high;
  least = each dues due (λ d. moment < d → due ≤ d) (λ d c above. absurd (let low : d ≤ moment = h d c in omega arith)) (λ above. omega arith);
}

-- one more, and the lesser of two
pub lesser : (moment due next : ℕ) (dues : List ℕ) → moment < due → IsLeastAbove moment dues next → IsLeastAbove moment (dues ++ due ∷ []) (min next due)
lesser moment due next dues high h =
    elim (cases_lt next due) [
      | inl lt ↦ (let e : min next due ≡ next = omega arith in subst (IsLeastAbove moment (dues ++ due ∷ [])) (sym e) (record {
        is_due = Contains-append_left dues (due ∷ []) next h.is_due;
        above = h.above;
        least = each dues due (λ d. moment < d → next ≤ d) h.least (λ above. omega arith);
      }))
      | inr ge ↦ (let e : min next due ≡ due = omega arith in subst (IsLeastAbove moment (dues ++ due ∷ [])) (sym e) (record {
        is_due = last dues due;
        above = high;
        least = each dues due (λ d. moment < d → due ≤ d) (λ d c above. let le : next ≤ d = h.least d c above in omega arith) (λ above. omega arith);
      }))
    ]
