-- A failure that was handed out raised the count.
use Rattle.std.proofs.Common.{◌≡◌, ℕ, ◌<◌, ◌≤◌, ◌-◌, ◌^◌, true, List, [], ◌∷◌, ◌++◌, inl, inr, refl, ap, subst, ◌∙◌, arith}
use Rattle.std.proofs.Math.Nat.{eq-or-lt_of_le}
use Rattle.smithy_types.specs.Chain.{Chained}
use Rattle.outside.specs.Calls.{OutsideCall}
use Rattle.outside.specs.Faults.{Counts, HasRisen, hands_out_failure}
use Rattle.client_call.specs.Causes.{WasMade}

risen_then : (a b c : ℕ) → a ≤ b → HasRisen a b → b ≤ c → HasRisen a c
risen_then a b c ab (inl lt) bc = inl (omega arith)
risen_then a b c ab (inr most) bc = elim (eq-or-lt_of_le bc) [ inl e ↦ inr (subst (λ n. n ≡ 2 ^ 64 - 1) e most) | inr lt ↦ inl (omega arith) ]

then_risen : (a b c : ℕ) → a ≤ b → HasRisen b c → HasRisen a c
then_risen a b c ab (inl lt) = inl (omega arith)
then_risen a b c ab (inr most) = inr most

module _ {X : Type 0} (makes : X → OutsideCall → X → Type 0) (faults : X → ℕ)
    (counts : (o : X) (c : OutsideCall) (n : X) → makes o c n → Counts (faults o) c (faults n)) where
  never_falls_along : (x y : X) (calls : List OutsideCall) → Chained makes x calls y → faults x ≤ faults y
  never_falls_along x y [] e = let same : faults y ≡ faults x = ap faults e in omega arith
  never_falls_along x y (c ∷ cs) (t, m, r) = let first = (counts x c t m).never_falls in let rest = never_falls_along t y cs r in omega arith

  raised_behind : (x y : X) (before after : List OutsideCall) (call : OutsideCall) → hands_out_failure call ≡ true → Chained makes x (before ++ call ∷ after) y → HasRisen (faults x) (faults y)
  raised_behind x y [] after call f (t, m, r) =
      risen_then (faults x) (faults t) (faults y) (counts x call t m).never_falls ((counts x call t m).rises f) (never_falls_along t y after r)
  raised_behind x y (c ∷ cs) after call f (t, m, r) = then_risen (faults x) (faults t) (faults y) (counts x c t m).never_falls (raised_behind t y cs after call f r)

  pub raised : (x y : X) (call : OutsideCall) (calls : List OutsideCall) → Chained makes x calls y → WasMade call calls → hands_out_failure call ≡ true → HasRisen (faults x) (faults y)
  raised x y call calls made (before, after, e) f = raised_behind x y before after call f (subst (λ l. Chained makes x l y) e made)
