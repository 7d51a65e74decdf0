-- The timers' count over a list of calls.
use Rattle.std.proofs.Common.{◌≡◌, ℕ, ◌+◌, ◌<◌, ◌≤◌, ◌^◌, List, [], ◌∷◌, true, false, Ok, Err, arith, ap, cond}
use Rattle.std.specs.Prelude.{count_by}
use Rattle.std.specs.Borrow.{MutBor}
use Rattle.std.proofs.lemmas.List.Sums.{sum_by-cons}
use Rattle.smithy_types.specs.declared.timers.TimersCall.TheVariants.{Now, Start, Ready, GiveUp}
use Rattle.waiters.specs.declared.timers.WaiterCall.{WaiterCall}
use Rattle.waiters.specs.declared.timers.WaiterCall.TheVariants.{Timers, Word, Park, Poll}
use Rattle.waiters.specs.Calls.{Answer, Call, Handed, asks, called, is_ask, is_unready, is_unready_call, poll_answer, polled}
use Rattle.waiters.specs.Count.{Counts}

counts-one : (old new : ℕ) (call : WaiterCall) → Counts old call new → old + cond (is_unready_call call) 1 0 < 2 ^ 64 →
    new ≡ old + cond (is_unready_call call) 1 0
counts-one old new (Timers (Ready sleep false)) counts room = counts.1 room
counts-one old new (Timers (Ready sleep true)) counts room = omega arith
counts-one old new (Timers (Now moment)) counts room = omega arith
counts-one old new (Timers (Start nanos sleep)) counts room = omega arith
counts-one old new (Timers (GiveUp sleep)) counts room = omega arith
counts-one old new (Word word) counts room = omega arith
counts-one old new Park counts room = omega arith
counts-one old new (Poll number told) counts room = omega arith

unready-le-ask : {O E : Type 0} (call : Call O E) → cond (is_unready call) 1 0 ≤ cond (is_ask call) 1 0
unready-le-ask (polled number (Ok found)) = omega arith
unready-le-ask (polled number (Err error)) = omega arith
unready-le-ask (called (Timers (Ready sleep false))) = omega arith
unready-le-ask (called (Timers (Ready sleep true))) = omega arith
unready-le-ask (called (Timers (Now moment))) = omega arith
unready-le-ask (called (Timers (Start nanos sleep))) = omega arith
unready-le-ask (called (Timers (GiveUp sleep))) = omega arith
unready-le-ask (called (Word word)) = omega arith
unready-le-ask (called Park) = omega arith
unready-le-ask (called (Poll number told)) = omega arith

-- no more sleeps weren't over than were asked
pub unready-le-asks : {O E : Type 0} (calls : List (Call O E)) → count_by is_unready calls ≤ asks calls
unready-le-asks [] = omega arith
unready-le-asks (call ∷ calls) =
    omega (
      arith,
      unready-le-ask call,
      unready-le-asks calls,
      sum_by-cons (λ one. cond (is_unready one) 1 0) call calls,
      sum_by-cons (λ one. cond (is_ask one) 1 0) call calls,
    )

module _ {T O E : Type 0} (makes : T → WaiterCall → T → Type 0) (answers : MutBor T → ℕ → Answer O E → MutBor T → Type 0)
    (count : T → ℕ) (counts : (old : T) (call : WaiterCall) (new : T) → makes old call new → Counts (count old) call (count new)) where
  pub counted-handed : (old : T) (calls : List (Call O E)) (new : T) → Handed makes answers old calls new →
      count old + count_by is_unready calls < 2 ^ 64 → count new ≡ count old + count_by is_unready calls
  counted-handed old [] new same room = omega (arith, ap count same)
  counted-handed old (polled number answer ∷ calls) new (mid, takes, rest) room =
      let split = sum_by-cons (λ one. cond (is_unready one) 1 0) (polled number answer) calls in
      let one = counts-one (count old) (count mid) (Poll number (poll_answer answer)) (counts old _ mid takes.0) (omega arith) in
      omega (arith, counted-handed mid calls new rest (omega arith))
  counted-handed old (called call ∷ calls) new (mid, takes, rest) room =
      let split = sum_by-cons (λ one. cond (is_unready one) 1 0) (called call) calls in
      let one = counts-one (count old) (count mid) call (counts old call mid takes) (omega arith) in
      omega (arith, counted-handed mid calls new rest (omega arith))
