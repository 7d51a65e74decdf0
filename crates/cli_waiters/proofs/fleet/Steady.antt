-- What scripted waiters answer follows from what they were.
use Rattle.std.proofs.Common.{◌≡◌, ℕ, ◌≤◌, ◌<◌, Bool, true, false, Option, None, Some, Ok, Err, arith, ap, sym, subst, refl, ◌∙◌}
use Rattle.smithy_types.specs.declared.acceptor.AcceptorState.{AcceptorState}
use Rattle.smithy_types.specs.declared.timers.TimersCall.{TimersCall}
use Rattle.smithy_types.specs.declared.timers.TimersCall.TheVariants.{Now, Start, Ready, GiveUp}
use Rattle.outside_scripted.proofs.DeterminedLemmas.{wakes}
use Rattle.waiter_fleet.specs.declared.event.Seen.{Seen}
use Rattle.waiter_fleet.specs.Calls.{FleetCall, drew, parked, polled, timed}
use Rattle.waiter_fleet.specs.Laws.{IsSteady}
use Rattle.cli_waiters.specs.Fleet.Makes.{Does, Ticks, due_of, dues}
use Rattle.cli_waiters.specs.declared.fleet.scripted_fleet.ScriptedFleet.{ScriptedFleet}

tick-moves : (old first second : ScriptedFleet) (call : TimersCall) → Ticks old call first → Ticks old call second → first ≡ second
tick-moves old first second (Now moment) one two = one.1 ∙ sym two.1
tick-moves old first second (Start nanos (Ok sleep)) one two = one.1 ∙ sym two.1
tick-moves old first second (Start nanos (Err refused)) one two = one ∙ sym two
tick-moves old first second (Ready sleep true) one two = one.1 ∙ sym two.1
tick-moves old first second (Ready sleep false) one two = one.1 ∙ sym two.1
tick-moves old first second (GiveUp sleep) one two = one ∙ sym two

call-moves : (old first second : ScriptedFleet) (call : FleetCall) → Does old call first → Does old call second → first ≡ second
call-moves old first second (timed call) one two = tick-moves old first second call one two
call-moves old first second (drew word) one two = one.1 ∙ sym two.1
call-moves old first second parked one two =
    let same = wakes old.moment (dues old) first.moment second.moment one.0 two.0 in
    one.1 ∙ (ap (λ m. record old { moment = m }) same ∙ sym two.1)
call-moves old first second (polled waiter (Ok (Some found))) one two = one.1.1 ∙ sym two.1.1
call-moves old first second (polled waiter (Ok None)) one two = one.1 ∙ sym two.1
call-moves old first second (polled waiter (Err refused)) one two = one ∙ sym two

poll-tells : (old first second : ScriptedFleet) (waiter : ℕ) (one other : Option (Seen × AcceptorState)) →
    Does old (polled waiter (Ok one)) first → Does old (polled waiter (Ok other)) second → one ≡ other
poll-tells old first second waiter None None asked again = refl
poll-tells old first second waiter (Some found) (Some too) asked again = ap Some (asked.0 ∙ sym again.0)
poll-tells old first second waiter None (Some too) asked again =
    let early : old.moment < due_of old waiter = asked.0 in
    let late : due_of old waiter ≤ old.moment = again.1.0 in
    absurd (omega (arith, early, late))
poll-tells old first second waiter (Some found) None asked again =
    let late : due_of old waiter ≤ old.moment = asked.1.0 in
    let early : old.moment < due_of old waiter = again.0 in
    absurd (omega (arith, early, late))

sleep-tells : (old first second : ScriptedFleet) (sleep : ℕ) (one other : Bool) →
    Does old (timed (Ready sleep one)) first → Does old (timed (Ready sleep other)) second → one ≡ other
sleep-tells old first second sleep true true asked again = refl
sleep-tells old first second sleep false false asked again = refl
sleep-tells old first second sleep true false asked again =
    let over : sleep ≤ old.moment = asked.0 in let waits : old.moment < sleep = again.0 in absurd (omega (arith, over, waits))
sleep-tells old first second sleep false true asked again =
    let waits : old.moment < sleep = asked.0 in let over : sleep ≤ old.moment = again.0 in absurd (omega (arith, over, waits))

pub scripts-are-steady : IsSteady Does
scripts-are-steady = record {
  moves = call-moves;
  tells = λ old first second one other asked again. asked.0 ∙ sym again.0;
  draws = λ old first second one other asked again. asked.0 ∙ sym again.0;
  polls = poll-tells;
  starts = λ old first second nanos one other asked again. asked.0 ∙ sym again.0;
  wakes = sleep-tells;
}
