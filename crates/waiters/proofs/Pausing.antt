-- The calls of a delay.
use Rattle.std.proofs.Common.{◌≡◌, ℕ, ◌≢◌, ◌++◌, ◌∷◌, [], true, false, Ok, Err, Some, arith, refl, cond}
use Rattle.std.specs.Prelude.{◌==◌}
use Rattle.std.proofs.lemmas.Bool.Decides.{nat_tests}
use Rattle.std.proofs.lemmas.List.Sums.{sum_by-cons}
use Rattle.smithy_types.specs.declared.memory.OutOfMemory.{OutOfMemory}
use Rattle.smithy_types.specs.declared.timers.TimersCall.TheVariants.{Ready, Start}
use Rattle.waiters.specs.declared.timers.WaiterCall.{WaiterCall}
use Rattle.waiters.specs.declared.timers.WaiterCall.TheVariants.{Timers}
use Rattle.waiters.specs.Calls.{is_ready_call}
use Rattle.waiters.specs.Steps.{TimersSpend}
use Rattle.waiters.specs.WalkCalls.{delay_calls, unready}

not_zero : (n : ℕ) → n ≢ 0 → (n == 0) ≡ false
not_zero n some = grind (arith, nat_tests)

module _ {T : Type 0} (makes : T → WaiterCall → T → Type 0) where
  pub pauses-not : (old : T) (full delay : ℕ) → delay ≡ 0 → TimersSpend makes old full (delay_calls delay 0 0) old full
  pauses-not old full delay none = rw none (record { handed = refl; spent = omega arith })

  pub pauses-refused : (old new : T) (full delay : ℕ) (refused : OutOfMemory) → makes old (Timers (Start delay (Err refused))) new →
      TimersSpend makes old full (Timers (Start delay (Err refused)) ∷ []) new full
  pauses-refused old new full delay refused started = record { handed = (new, started, refl); spent = omega arith }

  pub pauses-open : (old mid new : T) (full left delay sleep times : ℕ) → makes old (Timers (Start delay (Ok (Some sleep)))) mid →
      TimersSpend makes mid full (unready sleep times) new left →
      TimersSpend makes old full (Timers (Start delay (Ok (Some sleep))) ∷ unready sleep times) new left
  pauses-open old mid new full left delay sleep times started asked = record {
    handed = (mid, started, asked.handed);
    spent = omega (arith, asked.spent, sum_by-cons (λ call. cond (is_ready_call call) 1 0) (Timers (Start delay (Ok (Some sleep)))) (unready sleep times));
  }

  pub pauses-over : (old mid new : T) (full left delay sleep times : ℕ) → delay ≢ 0 → makes old (Timers (Start delay (Ok (Some sleep)))) mid →
      TimersSpend makes mid full (unready sleep times ++ (Timers (Ready sleep true) ∷ [])) new left →
      TimersSpend makes old full (delay_calls delay sleep times) new left
  pauses-over old mid new full left delay sleep times some started asked =
      let test : (delay == 0) ≡ false = not_zero delay some in
      rw test (record {
        handed = (mid, started, asked.handed);
        spent = omega (arith, asked.spent, sum_by-cons (λ call. cond (is_ready_call call) 1 0) (Timers (Start delay (Ok (Some sleep)))) (unready sleep times ++ (Timers (Ready sleep true) ∷ [])));
      })
