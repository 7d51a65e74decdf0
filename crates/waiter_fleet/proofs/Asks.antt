-- Asks that weren't answered, and those that were.
use Rattle.std.proofs.Common.{◌≡◌, ℕ, ◌-◌, ◌≢◌, zero, suc, [], ◌∷◌, ◌++◌, Ok, Err, None, Some, true, false, arith, ap, refl}
use Rattle.smithy_types.specs.declared.acceptor.AcceptorState.{AcceptorState}
use Rattle.smithy_types.specs.declared.memory.OutOfMemory.{OutOfMemory}
use Rattle.smithy_types.specs.declared.timers.TimersCall.TheVariants.{Ready}
use Rattle.waiter_fleet.specs.declared.event.Seen.{Seen}
use Rattle.waiter_fleet.specs.Calls.{FleetCall, parked, polled, timed, unanswered, unready}
use Rattle.waiter_fleet.specs.Steps.{Spends}
use Rattle.waiter_fleet.proofs.Standing.{spends-append, spends-one}

-- one more ask behind the others
unanswered-more : (waiter times : ℕ) → unanswered waiter times ++ (polled waiter (Ok None) ∷ parked ∷ []) ≡ unanswered waiter (suc times)
unanswered-more waiter zero = refl
unanswered-more waiter (suc times) = ap (λ calls. polled waiter (Ok None) ∷ parked ∷ calls) (unanswered-more waiter times)

unready-more : (sleep times : ℕ) → unready sleep times ++ (timed (Ready sleep false) ∷ parked ∷ []) ≡ unready sleep (suc times)
unready-more sleep zero = refl
unready-more sleep (suc times) = ap (λ calls. timed (Ready sleep false) ∷ parked ∷ calls) (unready-more sleep times)

module _ {T : Type 0} (does : T → FleetCall → T → Type 0) (old mid new : T) (full left : ℕ) where
  module _ (waiter times : ℕ) where
    pub spends-found : (found : Seen × AcceptorState) → left ≢ 0 → does mid (polled waiter (Ok (Some found))) new →
        Spends does old full (unanswered waiter times) mid left →
        Spends does old full (unanswered waiter times ++ polled waiter (Ok (Some found)) ∷ []) new (left - 1)
    spends-found found some done asked =
        spends-append does asked (spends-one does mid new left (left - 1) (polled waiter (Ok (Some found))) done (omega arith))

    pub spends-refused : (refused : OutOfMemory) → does mid (polled waiter (Err refused)) new →
        Spends does old full (unanswered waiter times) mid left →
        Spends does old full (unanswered waiter times ++ polled waiter (Err refused) ∷ []) new left
    spends-refused refused done asked =
        spends-append does asked (spends-one does mid new left left (polled waiter (Err refused)) done (omega arith))

    pub spends-pending : (asked_it : T) → left ≢ 0 → does mid (polled waiter (Ok None)) asked_it → does asked_it parked new →
        Spends does old full (unanswered waiter times) mid left →
        Spends does old full (unanswered waiter (suc times)) new (left - 1)
    spends-pending asked_it some done parks asked =
        rw (← unanswered-more waiter times)
        (spends-append does asked (record { made = (asked_it, done, (new, parks, refl)); spent = omega arith }))

  module _ (sleep times : ℕ) where
    pub spends-over : left ≢ 0 → does mid (timed (Ready sleep true)) new →
        Spends does old full (unready sleep times) mid left →
        Spends does old full (unready sleep times ++ timed (Ready sleep true) ∷ []) new (left - 1)
    spends-over some done asked =
        spends-append does asked (spends-one does mid new left (left - 1) (timed (Ready sleep true)) done (omega arith))

    pub spends-unready : (asked_it : T) → left ≢ 0 → does mid (timed (Ready sleep false)) asked_it → does asked_it parked new →
        Spends does old full (unready sleep times) mid left →
        Spends does old full (unready sleep (suc times)) new (left - 1)
    spends-unready asked_it some done parks asked =
        rw (← unready-more sleep times)
        (spends-append does asked (record { made = (asked_it, done, (new, parks, refl)); spent = omega arith }))
