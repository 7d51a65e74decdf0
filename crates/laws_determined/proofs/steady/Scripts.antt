-- Scripted outsides are steady.
use Rattle.std.proofs.Common.{◌≡◌, ◌∙◌, sym, ap, position, Ok, Err}
use Rattle.outside.specs.Calls.{OutsideCall, OfTimers, Begin, Poll, Frame, DropCall, Resolve, DropResolve, Word, Poison, Park}
use Rattle.smithy_types.specs.declared.timers.TimersCall.{TimersCall}
use Rattle.smithy_types.specs.declared.timers.TimersCall.TheVariants.{Now, Start, Ready, GiveUp}
use Rattle.outside_scripted.specs.Call.{answer_at}
use Rattle.outside_scripted.specs.Loads.{has_id}
use Rattle.outside_scripted.specs.Makes.{Makes, Ticks, dues, identities_of}
use Rattle.outside_scripted.specs.declared.scripted_outside.ScriptedOutside.{ScriptedOutside}
use Rattle.outside_scripted.proofs.DeterminedLemmas.{gives, hands, resolves, wakes}
use Rattle.laws_determined.specs.Steady.Steady.{IsSteady}

ticks : (old new other : ScriptedOutside) (call : TimersCall) → Ticks old call new → Ticks old call other → new ≡ other
ticks old new other (Now moment) p q = p.1 ∙ sym q.1
ticks old new other (Start nanos (Ok sleep)) p q = p.1 ∙ sym q.1
ticks old new other (Start nanos (Err error)) p q = p ∙ sym q
ticks old new other (Ready sleep is_over) p q = p.1 ∙ sym q.1
ticks old new other (GiveUp sleep) p q = p ∙ sym q

moves : (old new other : ScriptedOutside) (call : OutsideCall) → Makes old call new → Makes old call other → new ≡ other
moves old new other (OfTimers call) p q = ticks old new other call p q
moves old new other (Begin request settings (Ok done)) p q = p ∙ sym q
moves old new other (Begin request settings (Err error)) p q = absurd p
moves old new other (Poll (Ok answer)) p q = (hands old new other (answer_at old.moment old.call) answer answer p q).1
moves old new other (Poll (Err error)) p q = absurd p
moves old new other (Frame (Ok polled)) p q =
    p.1 ∙ ap (λ call. record old { call = call }) (gives old.moment old.call new.call other.call polled polled p.0 q.0).1 ∙ sym q.1
moves old new other (Frame (Err error)) p q = p ∙ sym q
moves old new other DropCall p q = p ∙ sym q
moves old new other (Resolve id (Ok answer)) p q = (resolves old new other (position (has_id id) (identities_of old.identities)) answer answer p q).1
moves old new other (Resolve id (Err error)) p q = p ∙ sym q
moves old new other DropResolve p q = p ∙ sym q
moves old new other (Word word) p q = p.1 ∙ sym q.1
moves old new other (Poison number) p q = p ∙ sym q
moves old new other Park p q =
    p.1 ∙ ap (λ moment. record old { moment = moment }) (wakes old.moment (dues old) new.moment other.moment p.0 q.0) ∙ sym q.1

pub scripts_steady : IsSteady Makes
scripts_steady = record {
  moves = moves;
  now = λ old new other a b p q. p.0 ∙ sym q.0;
  start = λ nanos old new other a b p q. p.0 ∙ sym q.0;
  ready = λ sleep old new other a b p q. p.0 ∙ sym q.0;
  poll = λ old new other a b p q. (hands old new other (answer_at old.moment old.call) a b p q).0;
  frame = λ old new other a b p q. (gives old.moment old.call new.call other.call a b p.0 q.0).0;
  resolve = λ id old new other a b p q. (resolves old new other (position (has_id id) (identities_of old.identities)) a b p q).0;
  word = λ old new other a b p q. p.0 ∙ sym q.0;
}
