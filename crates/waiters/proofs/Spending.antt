-- Lists of calls, put together.
use Rattle.std.proofs.Common.{◌≡◌, ℕ, ◌≢◌, ◌≤◌, ◌<◌, ◌^◌, ◌-◌, zero, suc, List, [], ◌∷◌, ◌++◌, Ok, Err, Some, None, Result, true, false, arith, ap, sym, subst, refl, map, cond}
use Rattle.std.specs.Prelude.{count_by}
use Rattle.std.specs.Borrow.{MutBor}
use Rattle.std.proofs.lemmas.List.Sums.{sum_by-append, sum_by-cons}
use Rattle.smithy_types.specs.declared.fault.SdkError.{SdkError}
use Rattle.smithy_types.specs.declared.memory.OutOfMemory.{OutOfMemory}
use Rattle.smithy_types.specs.declared.timers.TimersCall.TheVariants.{Ready}
use Rattle.waiters.specs.declared.timers.WaiterCall.{WaiterCall}
use Rattle.waiters.specs.declared.timers.WaiterCall.TheVariants.{Timers, Park}
use Rattle.waiters.specs.Calls.{Answer, Call, Handed, KeepsTimers, Takes, asks, called, is_ask, is_ready_call, polled}
use Rattle.waiters.specs.Steps.{Spends, TimersHanded, TimersSpend}
use Rattle.waiters.specs.WalkCalls.{unanswered, unready}

-- one more ask behind the others
pub unanswered-more : {O E : Type 0} (number times : ℕ) →
    ◌≡◌ {A = List (Call O E)} (unanswered number times ++ (polled number (Ok None) ∷ called Park ∷ [])) (unanswered number (suc times))
unanswered-more number zero = refl
unanswered-more number (suc times) = ap (λ calls. polled number (Ok None) ∷ called Park ∷ calls) (unanswered-more number times)

pub unready-more : (sleep times : ℕ) →
    unready sleep times ++ (Timers (Ready sleep false) ∷ Park ∷ []) ≡ unready sleep (suc times)
unready-more sleep zero = refl
unready-more sleep (suc times) = ap (λ calls. Timers (Ready sleep false) ∷ Park ∷ calls) (unready-more sleep times)

module _ {T : Type 0} (makes : T → WaiterCall → T → Type 0) where
  timers_handed-append : (old mid new : T) (xs ys : List WaiterCall) →
      TimersHanded makes old xs mid → TimersHanded makes mid ys new → TimersHanded makes old (xs ++ ys) new
  timers_handed-append old mid new [] ys same rest = subst (λ state. TimersHanded makes state ys new) (sym same) rest
  timers_handed-append old mid new (x ∷ xs) ys (next, takes, handed) rest =
      (next, takes, timers_handed-append next mid new xs ys handed rest)

  pub timers_spend-append : {old mid new : T} {before between after : ℕ} {xs ys : List WaiterCall} →
      TimersSpend makes old before xs mid between → TimersSpend makes mid between ys new after →
      TimersSpend makes old before (xs ++ ys) new after
  timers_spend-append {old} {mid} {new} {before} {between} {after} {xs} {ys} first second = record {
    handed = timers_handed-append old mid new xs ys first.handed second.handed;
    spent = omega (arith, first.spent, second.spent, sum_by-append (λ call. cond (is_ready_call call) 1 0) xs ys);
  }

  pub timers_spend-over : (old mid new : T) (full left sleep times : ℕ) → makes mid (Timers (Ready sleep true)) new → left ≢ 0 →
      TimersSpend makes old full (unready sleep times) mid left →
      TimersSpend makes old full (unready sleep times ++ (Timers (Ready sleep true) ∷ [])) new (left - 1)
  timers_spend-over old mid new full left sleep times ready some asked =
      timers_spend-append asked (record { handed = (new, ready, refl); spent = omega arith })

  pub timers_spend-unready : (old mid parked new : T) (full left sleep times : ℕ) → makes mid (Timers (Ready sleep false)) parked → makes parked Park new → left ≢ 0 →
      TimersSpend makes old full (unready sleep times) mid left →
      TimersSpend makes old full (unready sleep (suc times)) new (left - 1)
  timers_spend-unready old mid parked new full left sleep times ready parks some asked =
      rw (← unready-more sleep times)
      (timers_spend-append asked (record { handed = (parked, ready, (new, parks, refl)); spent = omega arith }))

module _ {T O E : Type 0} (makes : T → WaiterCall → T → Type 0) (answers : MutBor T → ℕ → Answer O E → MutBor T → Type 0) where
  pub handed-append : (old mid new : T) (xs ys : List (Call O E)) →
      Handed makes answers old xs mid → Handed makes answers mid ys new → Handed makes answers old (xs ++ ys) new
  handed-append old mid new [] ys same rest = subst (λ state. Handed makes answers state ys new) (sym same) rest
  handed-append old mid new (x ∷ xs) ys (next, takes, handed) rest =
      (next, takes, handed-append next mid new xs ys handed rest)

  pub spends-append : {old mid new : T} {before between after : ℕ} {xs ys : List (Call O E)} →
      Spends makes answers old before xs mid between → Spends makes answers mid between ys new after →
      Spends makes answers old before (xs ++ ys) new after
  spends-append {old} {mid} {new} {before} {between} {after} {xs} {ys} first second = record {
    handed = handed-append old mid new xs ys first.handed second.handed;
    spent = omega (arith, first.spent, second.spent, sum_by-append (λ call. cond (is_ask call) 1 0) xs ys);
  }

  -- calls of the timers are calls of the waiter
  handed-called : (old new : T) (calls : List WaiterCall) →
      TimersHanded makes old calls new → Handed makes answers old (map called calls) new
  handed-called old new [] same = same
  handed-called old new (call ∷ calls) (next, takes, handed) = (next, takes, handed-called next new calls handed)

  asks-called : (calls : List WaiterCall) → asks {O = O} {E = E} (map called calls) ≡ count_by is_ready_call calls
  asks-called [] = refl
  asks-called (call ∷ calls) =
      let head : Call O E = called call in
      rw (
        sum_by-cons (λ one. cond (is_ask one) 1 0) head (map called calls),
        sum_by-cons (λ one. cond (is_ready_call one) 1 0) call calls,
        asks-called calls,
      )

  pub spends-called : {old new : T} {before after : ℕ} {calls : List WaiterCall} →
      TimersSpend makes old before calls new after → Spends makes answers old before (map called calls) new after
  spends-called {old} {new} {before} {after} {calls} spend = record {
    handed = handed-called old new calls spend.handed;
    spent = omega (arith, spend.spent, asks-called calls);
  }

  -- a poll that the operation answered so
  pub takes-polled : KeepsTimers makes answers →
      (before after : MutBor T) (number : ℕ) (answer : Answer O E) → (1 ≤ number) × (number < 2 ^ 32) → answers before number answer after →
      Takes makes answers before.now (polled number answer) after.now
  takes-polled keeps before after number answer numbered met =
      (keeps before after number answer numbered.0 numbered.1 met, record { before = before; shows = refl; after = after; leaves = refl; met = met })

  pub spends-refused : KeepsTimers makes answers →
      (old : T) (full left number times : ℕ) (refused : OutOfMemory) (before after : MutBor T) → (1 ≤ number) × (number < 2 ^ 32) → answers before number (Err refused) after →
      Spends makes answers old full (unanswered number times) before.now left →
      Spends makes answers old full (unanswered number times ++ (polled number (Err refused) ∷ [])) after.now left
  spends-refused keeps old full left number times refused before after numbered met asked =
      spends-append asked (record { handed = (after.now, takes-polled keeps before after number (Err refused) numbered met, refl); spent = omega arith })

  pub spends-answered : KeepsTimers makes answers →
      (old : T) (full left number times : ℕ) (result : Result O (SdkError E)) (before after : MutBor T) → (1 ≤ number) × (number < 2 ^ 32) → answers before number (Ok (Some result)) after →
      left ≢ 0 → Spends makes answers old full (unanswered number times) before.now left →
      Spends makes answers old full (unanswered number times ++ (polled number (Ok (Some result)) ∷ [])) after.now (left - 1)
  spends-answered keeps old full left number times result before after numbered met some asked =
      spends-append asked (record { handed = (after.now, takes-polled keeps before after number (Ok (Some result)) numbered met, refl); spent = omega arith })

  pub spends-pending : KeepsTimers makes answers →
      (old new : T) (full left number times : ℕ) (before after : MutBor T) → (1 ≤ number) × (number < 2 ^ 32) → answers before number (Ok None) after → makes after.now Park new →
      left ≢ 0 → Spends makes answers old full (unanswered number times) before.now left →
      Spends makes answers old full (unanswered number (suc times)) new (left - 1)
  spends-pending keeps old new full left number times before after numbered met parks some asked =
      rw (← unanswered-more number times)
      (spends-append asked (record { handed = (after.now, takes-polled keeps before after number (Ok None) numbered met, (new, parks, refl)); spent = omega arith }))
