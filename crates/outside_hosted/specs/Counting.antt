-- Each failure that is handed out is counted.
use Rattle.std.specs.Prelude.{◌≡◌, ℕ, ◌+◌, ◌-◌, ◌^◌, ◌≤◌, ◌==◌, nat_eq, Bool, true, false, if◌then◌else◌, List, Option}
use Rattle.std.specs.Prelude.{None, Some, Ok, Err, MatchBool, slice_get}
use Rattle.std.proofs.Common.{sym, subst, ap, ◌∙◌, inl, inr, refl, add-one}
use Rattle.std.proofs.lemmas.Bool.{eqb-true, false≢true}
use Rattle.std.proofs.Math.Nat.{le_refl, le-suc, lt-suc_self}
use Rattle.std.specs.Cmp.Lexicographic.{pointwise}
use Rattle.smithy_types.specs.declared.http.Body.TheVariants.{Taken}
use Rattle.smithy_types.specs.declared.polled.Polled.{Polled}
use Rattle.smithy_types.specs.declared.polled.Polled.TheVariants as polled
use Rattle.smithy_types.specs.declared.timers.TimersCall.{TimersCall}
use Rattle.smithy_types.specs.declared.timers.TimersCall.TheVariants.{Now, Start, Ready, GiveUp}
use Rattle.outside.specs.Calls.{OutsideCall, OfTimers, Begin, Poll, Frame, DropCall, Resolve, DropResolve, Word, Poison}
use Rattle.outside.specs.Calls.{Park}
use Rattle.outside.specs.Faults.{Counts, HasRisen, hands_out_failure}
use Rattle.outside.specs.declared.answers.IdentityPoll.{IdentityPoll}
use Rattle.outside.specs.declared.answers.IdentityPoll.TheVariants as identity
use Rattle.outside.specs.declared.answers.Sent.{Sent}
use Rattle.outside.specs.declared.answers.Sent.TheVariants as sent
use Rattle.outside_hosted.specs.declared.body.HostBody.{HostBody}
use Rattle.outside_hosted.specs.declared.call.HostCall.{HostCall}
use Rattle.outside_hosted.specs.declared.call.HostCall.TheVariants.{Idle, Waiting, Streaming}
use Rattle.outside_hosted.specs.declared.events.HostFrame.{HostFrame}
use Rattle.outside_hosted.specs.declared.events.HostFrame.TheVariants.{Data, Trailers, End, Broken}
use Rattle.outside_hosted.specs.declared.events.HostIdentity.{HostIdentity}
use Rattle.outside_hosted.specs.declared.events.HostIdentity.TheVariants.{Loaded, NotLoaded}
use Rattle.outside_hosted.specs.declared.events.HostReply.TheVariants.{Response, NoResponse}
use Rattle.outside_hosted.specs.declared.hosted_outside.HostedOutside.{HostedOutside}
use Rattle.outside_hosted.specs.declared.load.HostLoad.{HostLoad}
use Rattle.outside_hosted.specs.Body.{behind}
use Rattle.outside_hosted.specs.Makes.{Flows, Gives, Hands, Loads, Makes, Opens, Resolves, Ticks, raised}

-- a call that hands no failure out, and leaves the count
quiet : (old : ℕ) (call : OutsideCall) (new : ℕ) → new ≡ old → hands_out_failure call ≡ false → Counts old call new
quiet old call new same none = record {
  never_falls = subst (λ n. old ≤ n) (sym same) (le_refl old);
  rises = λ fails. absurd (false≢true (sym none ∙ fails));
}

-- a count and what it is with one failure more
risen : (old : ℕ) (full : Bool) → (old == 2 ^ 64 - 1) ≡ full
    → (old ≤ (if full then old else old + 1)) × HasRisen old (if full then old else old + 1)
risen old true full = (le_refl old, inr (eqb-true old (2 ^ 64 - 1) full))
risen old false room = subst (λ n. (old ≤ n) × HasRisen old n) (sym (add-one old)) (le-suc old, inl (lt-suc_self old))

-- a call after which the count has one failure more
raises : (old : ℕ) (call : OutsideCall) (new : ℕ) → new ≡ raised old → Counts old call new
raises old call new more =
    let up = risen old (old == 2 ^ 64 - 1) refl in
    record {
      never_falls = subst (λ n. old ≤ n) (sym more) up.0;
      rises = λ fails. subst (HasRisen old) (sym more) up.1;
    }

-- the count of equal outsides
count_of : {new old : HostedOutside} → new ≡ old → new.faults ≡ old.faults
count_of same = ap (λ (s : HostedOutside). s.faults) same

-- with a call of the timers the count doesn't fall
ticks : (old : HostedOutside) (call : TimersCall) (new : HostedOutside) → Ticks old call new
    → Counts old.faults (OfTimers call) new.faults
ticks old (Now moment) new made = quiet old.faults (OfTimers (Now moment)) new.faults (count_of made.1) refl
ticks old (Start nanos (Ok sleep)) new made =
    quiet old.faults (OfTimers (Start nanos (Ok sleep))) new.faults (count_of made.1) refl
ticks old (Start nanos (Err error)) new made =
    quiet old.faults (OfTimers (Start nanos (Err error))) new.faults (count_of made) refl
ticks old (Ready sleep is_over) new made =
    quiet old.faults (OfTimers (Ready sleep is_over)) new.faults (count_of made.1) refl
ticks old (GiveUp sleep) new made = quiet old.faults (OfTimers (GiveUp sleep)) new.faults (count_of made) refl

-- an answer of a poll that is no failure
quiet_poll : (old : HostedOutside) (answer given : Sent) (new : HostedOutside)
    → hands_out_failure (Poll (Ok given)) ≡ false → answer ≡ given → new.faults ≡ old.faults
    → Counts old.faults (Poll (Ok answer)) new.faults
quiet_poll old answer given new none same kept =
    quiet old.faults (Poll (Ok answer)) new.faults kept (ap (λ a. hands_out_failure (Poll (Ok a))) same ∙ none)

-- with a poll of the call neither, and it rises where a failure is handed out
hands : (old : HostedOutside) (call : HostCall) (answer : Sent) (new : HostedOutside) → Hands old call answer new
    → Counts old.faults (Poll (Ok answer)) new.faults
hands old (Waiting number order (Some (Response status headers)) body) answer new made =
    quiet_poll old answer (sent.Response (record { status = status; headers = headers; body = Taken })) new refl
    made.0 (count_of made.1)
hands old (Waiting number order (Some (NoResponse kind text)) body) answer new made =
    raises old.faults (Poll (Ok answer)) new.faults (count_of made.1)
hands old (Waiting number order None body) answer new made =
    quiet_poll old answer sent.Pending new refl made.0 (count_of made.1)
hands old Idle answer new made = quiet_poll old answer sent.Pending new refl made.0 (count_of made.1)
hands old (Streaming number body) answer new made = quiet_poll old answer sent.Pending new refl made.0 (count_of made.1)

-- a frame that is no failure
quiet_frame : (old : HostedOutside) (answer given : Polled) (new : HostedOutside)
    → hands_out_failure (Frame (Ok given)) ≡ false → answer ≡ given → new.faults ≡ old.faults
    → Counts old.faults (Frame (Ok answer)) new.faults
quiet_frame old answer given new none same kept =
    quiet old.faults (Frame (Ok answer)) new.faults kept (ap (λ a. hands_out_failure (Frame (Ok a))) same ∙ none)

-- so it is with a frame of a body that streams
flows : (old : HostedOutside) (number : ℕ) (next : Option HostFrame) (rest : HostBody) (answer : Polled)
    (new : HostedOutside) → Flows old number next rest answer new → Counts old.faults (Frame (Ok answer)) new.faults
flows old number None rest answer new made = quiet_frame old answer polled.Pending new refl made.0 (count_of made.1)
flows old number (Some (Data bytes)) rest answer new made =
    quiet_frame old answer (polled.Data bytes) new refl made.0 (count_of made.1)
flows old number (Some Trailers) rest answer new made =
    quiet_frame old answer polled.Trailers new refl made.0 (count_of made.1)
flows old number (Some End) rest answer new made = quiet_frame old answer polled.End new refl made.0 (count_of made.1)
flows old number (Some (Broken fault)) rest answer new made =
    raises old.faults (Frame (Ok answer)) new.faults (count_of made.1)

-- so it is with each ask for a frame
gives : (old : HostedOutside) (call : HostCall) (answer : Polled) (new : HostedOutside) → Gives old call answer new
    → Counts old.faults (Frame (Ok answer)) new.faults
gives old Idle answer new made = quiet_frame old answer polled.End new refl made.0 (count_of made.1)
gives old (Waiting number order reply body) answer new made =
    quiet_frame old answer polled.Pending new refl made.0 (count_of made.1)
gives old (Streaming number body) answer new made =
    flows old number (slice_get body.frames 0) (behind body) answer new made

-- an answer of a load that is no failure
quiet_load : (old : HostedOutside) (id : List ℕ) (answer given : IdentityPoll) (new : HostedOutside)
    → hands_out_failure (Resolve id (Ok given)) ≡ false → answer ≡ given → new.faults ≡ old.faults
    → Counts old.faults (Resolve id (Ok answer)) new.faults
quiet_load old id answer given new none same kept =
    quiet old.faults (Resolve id (Ok answer)) new.faults kept
    (ap (λ a. hands_out_failure (Resolve id (Ok a))) same ∙ none)

-- so it is with what the host says of a load
loads : (old : HostedOutside) (id : List ℕ) (load : HostLoad) (come : Option HostIdentity) (answer : IdentityPoll)
    (new : HostedOutside) → Loads old load come answer new → Counts old.faults (Resolve id (Ok answer)) new.faults
loads old id load None answer new made = quiet_load old id answer identity.Pending new refl made.0 (count_of made.1)
loads old id load (Some (Loaded content)) answer new made =
    quiet_load old id answer (identity.Ready content) new refl made.0 (count_of made.1)
loads old id load (Some (NotLoaded text)) answer new made =
    raises old.faults (Resolve id (Ok answer)) new.faults (count_of made.1)

-- so it is with an ask that opens a load
opens : (old : HostedOutside) (id : List ℕ) (answer : IdentityPoll) (new : HostedOutside) → Opens old id answer new
    → Counts old.faults (Resolve id (Ok answer)) new.faults
opens old id answer new made = quiet_load old id answer identity.Pending new refl made.0 (count_of made.1)

-- what holds in both cases of a test
either : (there : Bool) (P Q R : Type 0) → (P → R) → (Q → R) → MatchBool there P Q → R
either true P Q R p q made = p made
either false P Q R p q made = q made

-- so it is with each ask for an identity
resolves : (old : HostedOutside) (id : List ℕ) (load : Option HostLoad) (answer : IdentityPoll) (new : HostedOutside)
    → Resolves old id load answer new → Counts old.faults (Resolve id (Ok answer)) new.faults
resolves old id None answer new made = opens old id answer new made
resolves old id (Some load) answer new made =
    either (pointwise nat_eq load.id id) (Loads old load load.answer answer new) (Opens old id answer new)
    (Counts old.faults (Resolve id (Ok answer)) new.faults)
    (loads old id load load.answer answer new) (opens old id answer new) made

-- the count never falls, and each call that hands a failure out raises it
pub each_failure_is_counted : (old : HostedOutside) (call : OutsideCall) (new : HostedOutside) → Makes old call new
    → Counts old.faults call new.faults
each_failure_is_counted old (OfTimers call) new made = ticks old call new made
each_failure_is_counted old (Begin request settings (Ok done)) new made =
    quiet old.faults (Begin request settings (Ok done)) new.faults (count_of made) refl
each_failure_is_counted old (Begin request settings (Err error)) new made =
    quiet old.faults (Begin request settings (Err error)) new.faults (count_of made) refl
each_failure_is_counted old (Poll (Ok answer)) new made = hands old old.call answer new made
each_failure_is_counted old (Poll (Err error)) new made = absurd made
each_failure_is_counted old (Frame (Ok answer)) new made = gives old old.call answer new made
each_failure_is_counted old (Frame (Err error)) new made = absurd made
each_failure_is_counted old DropCall new made = quiet old.faults DropCall new.faults (count_of made) refl
each_failure_is_counted old (Resolve id (Ok answer)) new made = resolves old id old.load answer new made
each_failure_is_counted old (Resolve id (Err error)) new made =
    quiet old.faults (Resolve id (Err error)) new.faults (count_of made) refl
each_failure_is_counted old DropResolve new made = quiet old.faults DropResolve new.faults (count_of made) refl
each_failure_is_counted old (Word word) new made = quiet old.faults (Word word) new.faults (count_of made.1) refl
each_failure_is_counted old (Poison number) new made = quiet old.faults (Poison number) new.faults (count_of made) refl
each_failure_is_counted old Park new made = quiet old.faults Park new.faults (count_of made) refl
