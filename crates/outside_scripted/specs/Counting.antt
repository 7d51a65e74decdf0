-- Each failure that is handed out is counted.
use Rattle.std.specs.Prelude.{◌≡◌, ℕ, ◌+◌, ◌-◌, ◌^◌, ◌≤◌, ◌==◌, Bool, true, false, if◌then◌else◌, nat_le, Option, None}
use Rattle.std.specs.Prelude.{Some, Ok, Err, MatchBool, position, slice_get, List, codes}
use Rattle.std.proofs.Common.{sym, subst, ap, ◌∙◌, inl, inr, refl}
use Rattle.std.proofs.lemmas.Bool.{eqb-true, false≢true}
use Rattle.std.proofs.Math.Nat.{le_refl, le-suc, lt-suc_self}
use Rattle.std.proofs.Common.{add-one}
use Rattle.outside.specs.Calls.{OutsideCall, OfTimers, Begin, Poll, Frame, DropCall, Resolve, DropResolve, Word, Poison}
use Rattle.outside.specs.Calls.{Park}
use Rattle.outside.specs.Faults.{Counts, HasRisen, hands_out_failure}
use Rattle.outside.specs.declared.answers.IdentityPoll.{IdentityPoll}
use Rattle.outside.specs.declared.answers.IdentityPoll.TheVariants as identity
use Rattle.smithy_types.specs.declared.polled.Polled.{Polled}
use Rattle.smithy_types.specs.declared.polled.Polled.TheVariants as polled
use Rattle.outside.specs.declared.answers.Sent.{Sent}
use Rattle.smithy_types.specs.declared.timers.TimersCall.{TimersCall}
use Rattle.smithy_types.specs.declared.timers.TimersCall.TheVariants.{Now, Start, Ready, GiveUp}
use Rattle.outside_scripted.specs.declared.call.OpenBody.{OpenBody}
use Rattle.outside_scripted.specs.declared.call.OpenCall.{OpenCall}
use Rattle.outside_scripted.specs.declared.call.OpenCall.TheVariants.{Idle, Waiting, Streaming}
use Rattle.outside_scripted.specs.declared.records.Frame.{Frame as BodyFrame}
use Rattle.outside_scripted.specs.declared.records.IdentityAnswer.{IdentityAnswer}
use Rattle.outside_scripted.specs.declared.records.IdentityAnswer.TheVariants as source
use Rattle.outside_scripted.specs.declared.records.IdentityRecord.{IdentityRecord}
use Rattle.outside_scripted.specs.declared.records.RecordAnswer.{RecordAnswer}
use Rattle.outside_scripted.specs.declared.records.RecordAnswer.TheVariants as given
use Rattle.outside_scripted.specs.declared.scripted_outside.ScriptedOutside.{ScriptedOutside}
use Rattle.outside_scripted.specs.Call.{answer_at, coming, Gives, Streams, taken}
use Rattle.outside_scripted.specs.Loads.{due_of, has_id}
use Rattle.outside_scripted.specs.Makes.{Asks, AsksAt, Hands, identities_of, Loads, Makes, raised, Resolves, Ticks}
use Rattle.outside_scripted.specs.Time.{later}

-- a call that hands no failure out, and leaves the count
quiet : (old : ℕ) (call : OutsideCall) (new : ℕ) → new ≡ old → hands_out_failure call ≡ false → Counts old call new
quiet old call new same none = record {
  never_falls = subst (λ n. old ≤ n) (sym same) (le_refl old);
  rises = λ fails. absurd (false≢true (sym none ∙ fails));
}

-- a count and what it is with one failure more
risen : (old : ℕ) (full : Bool) → (old == 2 ^ 64 - 1) ≡ full
    → (old ≤ (if full then old else old + 1)) × HasRisen old (if full then old else old + 1)
risen old true full = (le_refl old, inr (eqb-true old (2 ^ 64 - 1) full))
risen old false room = subst (λ n. (old ≤ n) × HasRisen old n) (sym (add-one old)) (le-suc old, inl (lt-suc_self old))

-- a call after which the count has one failure more
raises : (old : ℕ) (call : OutsideCall) (new : ℕ) → new ≡ raised old → Counts old call new
raises old call new more =
    let up = risen old (old == 2 ^ 64 - 1) refl in
    record {
      never_falls = subst (λ n. old ≤ n) (sym more) up.0;
      rises = λ fails. subst (HasRisen old) (sym more) up.1;
    }

-- with a call of the timers the count doesn't fall
ticks : (old : ScriptedOutside) (call : TimersCall) (new : ScriptedOutside) → Ticks old call new
    → Counts old.faults (OfTimers call) new.faults
ticks old (Now moment) new made =
    quiet old.faults (OfTimers (Now moment)) new.faults (ap (λ (s : ScriptedOutside). s.faults) made.1) refl
ticks old (Start nanos (Ok sleep)) new made =
    quiet old.faults (OfTimers (Start nanos (Ok sleep))) new.faults (ap (λ (s : ScriptedOutside). s.faults) made.1) refl
ticks old (Start nanos (Err error)) new made =
    quiet old.faults (OfTimers (Start nanos (Err error))) new.faults (ap (λ (s : ScriptedOutside). s.faults) made) refl
ticks old (Ready sleep is_over) new made =
    quiet old.faults (OfTimers (Ready sleep is_over)) new.faults (ap (λ (s : ScriptedOutside). s.faults) made.1) refl
ticks old (GiveUp sleep) new made =
    quiet old.faults (OfTimers (GiveUp sleep)) new.faults (ap (λ (s : ScriptedOutside). s.faults) made) refl

-- with a poll of the call neither, and it rises where a failure is handed out
hands : (old : ScriptedOutside) (come : Option RecordAnswer) (answer : Sent) (new : ScriptedOutside)
    → Hands old come answer new → Counts old.faults (Poll (Ok answer)) new.faults
hands old None answer new made =
    quiet old.faults (Poll (Ok answer)) new.faults (ap (λ (s : ScriptedOutside). s.faults) made.1)
    (ap (λ a. hands_out_failure (Poll (Ok a))) made.0)
hands old (Some (given.Failed kind text)) answer new made =
    raises old.faults (Poll (Ok answer)) new.faults (ap (λ (s : ScriptedOutside). s.faults) made.1)
hands old (Some (given.Response response)) answer new made =
    quiet old.faults (Poll (Ok answer)) new.faults (ap (λ (s : ScriptedOutside). s.faults) made.1)
    (ap (λ a. hands_out_failure (Poll (Ok a))) made.0)

-- what holds in both cases of a test
either : (there : Bool) (P Q R : Type 0) → (P → R) → (Q → R) → MatchBool there P Q → R
either true P Q R p q made = p made
either false P Q R p q made = q made

-- no frame is a failure
streams : (moment : ℕ) (body : OpenBody) (next : Option BodyFrame) (given : Polled) (new : OpenCall)
    → Streams moment body next given new → hands_out_failure (Frame (Ok given)) ≡ false
streams moment body None given new made = ap (λ p. hands_out_failure (Frame (Ok p))) made.0
streams moment body (Some frame) given new made =
    either (nat_le (later body.since frame.delay) moment)
    ((given ≡ polled.Data frame.bytes) × (new ≡ Streaming (taken moment body)))
    ((given ≡ polled.Pending) × (new ≡ Streaming body))
    (hands_out_failure (Frame (Ok given)) ≡ false)
    (λ h. ap (λ p. hands_out_failure (Frame (Ok p))) h.0) (λ h. ap (λ p. hands_out_failure (Frame (Ok p))) h.0) made

-- a frame of a body hands no failure out
gives : (moment : ℕ) (old : OpenCall) (given : Polled) (new : OpenCall) → Gives moment old given new
    → hands_out_failure (Frame (Ok given)) ≡ false
gives moment Idle given new made = ap (λ p. hands_out_failure (Frame (Ok p))) made.0
gives moment (Waiting due answer) given new made = ap (λ p. hands_out_failure (Frame (Ok p))) made.0
gives moment (Streaming body) given new made = streams moment body (coming body) given new made

-- with the end of a load the count doesn't fall, and it rises where a failure is handed out
loads : (old : ScriptedOutside) (id : List ℕ) (content : IdentityAnswer) (answer : IdentityPoll) (new : ScriptedOutside)
    → Loads old content answer new → Counts old.faults (Resolve id (Ok answer)) new.faults
loads old id (source.Identity content) answer new made =
    quiet old.faults (Resolve id (Ok answer)) new.faults (ap (λ (s : ScriptedOutside). s.faults) made.1)
    (ap (λ a. hands_out_failure (Resolve id (Ok a))) made.0)
loads old id (source.Failed text) answer new made =
    raises old.faults (Resolve id (Ok answer)) new.faults (ap (λ (s : ScriptedOutside). s.faults) made.1)

-- so it is with what a source answers, pending or not
asks : (old : ScriptedOutside) (id : List ℕ) (place due : ℕ) (content : IdentityAnswer) (answer : IdentityPoll)
    (new : ScriptedOutside) → Asks old place due content answer new
    → Counts old.faults (Resolve id (Ok answer)) new.faults
asks old id place due content answer new made =
    either (nat_le due old.moment)
    (Loads old content answer new)
    ((answer ≡ identity.Pending) × (new ≡ record old { load = Some (record { source = place; due = due }) }))
    (Counts old.faults (Resolve id (Ok answer)) new.faults)
    (loads old id content answer new)
    (λ h. quiet old.faults (Resolve id (Ok answer)) new.faults (ap (λ (s : ScriptedOutside). s.faults) h.1)
    (ap (λ a. hands_out_failure (Resolve id (Ok a))) h.0))
    made

-- so it is with a load, also where there is no source for it
asks_at : (old : ScriptedOutside) (id : List ℕ) (place : ℕ) (found : Option IdentityRecord) (answer : IdentityPoll)
    (new : ScriptedOutside) → AsksAt old place found answer new → Counts old.faults (Resolve id (Ok answer)) new.faults
asks_at old id place None answer new made = loads old id (source.Failed (codes "no identity source")) answer new made
asks_at old id place (Some found) answer new made =
    asks old id place (due_of old.load place (later old.moment found.delay)) found.answer answer new made

-- so it is with each ask for an identity
resolves : (old : ScriptedOutside) (id : List ℕ) (place : Option ℕ) (answer : IdentityPoll) (new : ScriptedOutside)
    → Resolves old place answer new → Counts old.faults (Resolve id (Ok answer)) new.faults
resolves old id None answer new made = asks_at old id 0 None answer new made
resolves old id (Some place) answer new made =
    asks_at old id place (slice_get (identities_of old.identities) place) answer new made

-- the count never falls, and each call that hands a failure out raises it
pub each_failure_is_counted : (old : ScriptedOutside) (call : OutsideCall) (new : ScriptedOutside) → Makes old call new
    → Counts old.faults call new.faults
each_failure_is_counted old (OfTimers call) new made = ticks old call new made
each_failure_is_counted old (Begin request settings (Ok done)) new made =
    quiet old.faults (Begin request settings (Ok done)) new.faults (ap (λ (s : ScriptedOutside). s.faults) made) refl
each_failure_is_counted old (Begin request settings (Err error)) new made = absurd made
each_failure_is_counted old (Poll (Ok answer)) new made = hands old (answer_at old.moment old.call) answer new made
each_failure_is_counted old (Poll (Err error)) new made = absurd made
each_failure_is_counted old (Frame (Ok given)) new made =
    quiet old.faults (Frame (Ok given)) new.faults (ap (λ (s : ScriptedOutside). s.faults) made.1)
    (gives old.moment old.call given new.call made.0)
each_failure_is_counted old (Frame (Err error)) new made =
    quiet old.faults (Frame (Err error)) new.faults (ap (λ (s : ScriptedOutside). s.faults) made) refl
each_failure_is_counted old DropCall new made =
    quiet old.faults DropCall new.faults (ap (λ (s : ScriptedOutside). s.faults) made) refl
each_failure_is_counted old (Resolve id (Ok answer)) new made =
    resolves old id (position (has_id id) (identities_of old.identities)) answer new made
each_failure_is_counted old (Resolve id (Err error)) new made =
    quiet old.faults (Resolve id (Err error)) new.faults (ap (λ (s : ScriptedOutside). s.faults) made) refl
each_failure_is_counted old DropResolve new made =
    quiet old.faults DropResolve new.faults (ap (λ (s : ScriptedOutside). s.faults) made) refl
each_failure_is_counted old (Word word) new made =
    quiet old.faults (Word word) new.faults (ap (λ (s : ScriptedOutside). s.faults) made.1) refl
each_failure_is_counted old (Poison number) new made =
    quiet old.faults (Poison number) new.faults (ap (λ (s : ScriptedOutside). s.faults) made) refl
each_failure_is_counted old Park new made =
    quiet old.faults Park new.faults (ap (λ (s : ScriptedOutside). s.faults) made.1) refl
