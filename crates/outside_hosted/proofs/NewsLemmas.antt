-- What is new to a host is told once.
use Rattle.std.proofs.Common.{◌≡◌, ℕ, Bool, true, false, not, List, Option, None, Some, Ok, Err, MatchBool, nat_eq, slice_get, if◌then◌else◌, refl, ap, ◌∙◌, unwrap_or}
use Rattle.std.proofs.lemmas.Bool.{MatchBool-at_true, not-false, true≢false}
use Rattle.std.specs.Cmp.Lexicographic.{pointwise}
use Rattle.smithy_types.specs.declared.polled.Polled.{Polled}
use Rattle.smithy_types.specs.declared.timers.TimersCall.{TimersCall}
use Rattle.smithy_types.specs.declared.timers.TimersCall.TheVariants.{Now, Start, Ready, GiveUp}
use Rattle.outside.specs.Calls.{OfTimers, Begin, Poll, Frame, DropCall, Resolve, DropResolve, Word, Poison, Park}
use Rattle.outside.specs.declared.answers.IdentityPoll.{IdentityPoll}
use Rattle.outside.specs.declared.answers.Sent.{Sent}
use Rattle.outside_hosted.specs.declared.body.HostBody.{HostBody}
use Rattle.outside_hosted.specs.declared.call.HostCall.{HostCall}
use Rattle.outside_hosted.specs.declared.call.HostCall.TheVariants.{Idle, Waiting, Streaming}
use Rattle.outside_hosted.specs.declared.events.HostEvent.TheVariants as event
use Rattle.outside_hosted.specs.declared.events.HostFrame.{HostFrame}
use Rattle.outside_hosted.specs.declared.events.HostFrame.TheVariants.{Data, Trailers, End, Broken}
use Rattle.outside_hosted.specs.declared.events.HostIdentity.{HostIdentity}
use Rattle.outside_hosted.specs.declared.events.HostIdentity.TheVariants.{Loaded, NotLoaded}
use Rattle.outside_hosted.specs.declared.events.HostReply.{HostReply}
use Rattle.outside_hosted.specs.declared.events.HostReply.TheVariants.{Response, NoResponse}
use Rattle.outside_hosted.specs.declared.hosted_outside.HostedOutside.{HostedOutside}
use Rattle.outside_hosted.specs.declared.load.HostLoad.{HostLoad}
use Rattle.outside_hosted.specs.Body.{behind}
use Rattle.outside_hosted.specs.Call.{order_left, with_call_frame, with_reply, without_order}
use Rattle.outside_hosted.specs.Load.{with_answer}
use Rattle.outside_hosted.specs.Makes.{Flows, Gives, Hands, Loads, Opens, Resolves, Ticks}
use Rattle.outside_hosted.specs.Steps.{HostStep, Asks, HandsIn, MovesTo, IsTold, LetsGo, Steps, begins, is_of, is_unknown, opens}
use Rattle.outside_hosted.specs.Telling.{known_load}

-- what is left to send of equal outsides
orders : {new old : HostedOutside} → new ≡ old → order_left new.call ≡ order_left old.call
orders same = ap (λ (s : HostedOutside). order_left s.call) same

-- calls of the clock and the sleeps leave the call and the load
ticks_order : (old : HostedOutside) (call : TimersCall) (new : HostedOutside) → Ticks old call new → order_left new.call ≡ order_left old.call
ticks_order old (Now moment) new made = orders made.1
ticks_order old (Start nanos (Ok sleep)) new made = orders made.1
ticks_order old (Start nanos (Err error)) new made = orders made
ticks_order old (Ready sleep is_over) new made = orders made.1
ticks_order old (GiveUp sleep) new made = orders made

hands_order : (old : HostedOutside) (call : HostCall) (answer : Sent) (new : HostedOutside) → Hands old call answer new → order_left call ≡ None → order_left new.call ≡ None
hands_order old (Waiting number order (Some (Response status headers)) body) answer new made none = orders made.1
hands_order old (Waiting number order (Some (NoResponse kind text)) body) answer new made none = orders made.1
hands_order old (Waiting number order None body) answer new made none = orders made.1 ∙ none
hands_order old Idle answer new made none = orders made.1
hands_order old (Streaming number body) answer new made none = orders made.1

flows_order : (old : HostedOutside) (number : ℕ) (next : Option HostFrame) (rest : HostBody) (answer : Polled) (new : HostedOutside) → Flows old number next rest answer new → order_left new.call ≡ None
flows_order old number None rest answer new made = orders made.1
flows_order old number (Some (Data bytes)) rest answer new made = orders made.1
flows_order old number (Some Trailers) rest answer new made = orders made.1
flows_order old number (Some End) rest answer new made = orders made.1
flows_order old number (Some (Broken fault)) rest answer new made = orders made.1

gives_order : (old : HostedOutside) (call : HostCall) (answer : Polled) (new : HostedOutside) → Gives old call answer new → order_left call ≡ None → order_left new.call ≡ None
gives_order old Idle answer new made none = orders made.1
gives_order old (Waiting number order reply body) answer new made none = orders made.1 ∙ none
gives_order old (Streaming number body) answer new made none = flows_order old number (slice_get body.frames 0) (behind body) answer new made

loads_order : (old : HostedOutside) (load : HostLoad) (come : Option HostIdentity) (answer : IdentityPoll) (new : HostedOutside) → Loads old load come answer new → order_left new.call ≡ order_left old.call
loads_order old load None answer new made = orders made.1
loads_order old load (Some (Loaded content)) answer new made = orders made.1
loads_order old load (Some (NotLoaded text)) answer new made = orders made.1

-- what holds in both cases of a test
either : (there : Bool) (P Q R : Type 0) → (P → R) → (Q → R) → MatchBool there P Q → R
either true P Q R p q made = p made
either false P Q R p q made = q made

resolves_order : (old : HostedOutside) (id : List ℕ) (load : Option HostLoad) (answer : IdentityPoll) (new : HostedOutside) → Resolves old id load answer new → order_left new.call ≡ order_left old.call
resolves_order old id None answer new made = orders made.1
resolves_order old id (Some load) answer new made =
    either (pointwise nat_eq load.id id) (Loads old load load.answer answer new) (Opens old id answer new) (order_left new.call ≡ order_left old.call)
    (loads_order old load load.answer answer new) (λ opened. orders opened.1) made

-- what the host does leaves what is to be sent, or takes it
reply_order : (call : ℕ) (come : HostReply) (standing : HostCall) → order_left (with_reply call come standing) ≡ order_left standing
reply_order call come Idle = refl
reply_order call come (Waiting number order reply body) = refl
reply_order call come (Streaming number body) = refl

frame_order : (call : ℕ) (frame : HostFrame) (standing : HostCall) → order_left (with_call_frame call frame standing) ≡ order_left standing
frame_order call frame Idle = refl
frame_order call frame (Waiting number order reply body) = refl
frame_order call frame (Streaming number body) = refl

pub told_order : (standing : HostCall) → order_left (without_order standing) ≡ None
told_order Idle = refl
told_order (Waiting number order reply body) = refl
told_order (Streaming number body) = refl

-- but for the begin of a call, no step makes a request new
pub order_stays_told : (old new : HostedOutside) (step : HostStep) → begins step ≡ false → Steps old step new → order_left old.call ≡ None → order_left new.call ≡ None
order_stays_told old new (Asks (OfTimers call)) other made none = ticks_order old call new made ∙ none
order_stays_told old new (Asks (Begin request settings (Ok done))) other made none = absurd (true≢false other)
order_stays_told old new (Asks (Begin request settings (Err error))) other made none = orders made ∙ none
order_stays_told old new (Asks (Poll (Ok answer))) other made none = hands_order old old.call answer new made none
order_stays_told old new (Asks (Poll (Err error))) other made none = absurd made
order_stays_told old new (Asks (Frame (Ok answer))) other made none = gives_order old old.call answer new made none
order_stays_told old new (Asks (Frame (Err error))) other made none = absurd made
order_stays_told old new (Asks DropCall) other made none = orders made
order_stays_told old new (Asks (Resolve id (Ok answer))) other made none = resolves_order old id old.load answer new made ∙ none
order_stays_told old new (Asks (Resolve id (Err error))) other made none = orders made ∙ none
order_stays_told old new (Asks DropResolve) other made none = orders made ∙ none
order_stays_told old new (Asks (Word word)) other made none = orders made.1 ∙ none
order_stays_told old new (Asks (Poison number)) other made none = orders made ∙ none
order_stays_told old new (Asks Park) other made none = orders made ∙ none
order_stays_told old new (HandsIn (event.Reply call come)) other made none = orders made ∙ reply_order call come old.call ∙ none
order_stays_told old new (HandsIn (event.Frame call frame)) other made none = orders made ∙ frame_order call frame old.call ∙ none
order_stays_told old new (HandsIn (event.Load id come)) other made none = orders made ∙ none
order_stays_told old new (MovesTo moment) other made none = orders made ∙ none
order_stays_told old new IsTold other made none = orders made ∙ told_order old.call
order_stays_told old new LetsGo other made none = orders made

-- whether the loads of equal outsides are new
news : {new old : HostedOutside} → new ≡ old → is_unknown new.load ≡ is_unknown old.load
news same = ap (λ (s : HostedOutside). is_unknown s.load) same

ticks_load : (old : HostedOutside) (call : TimersCall) (new : HostedOutside) → Ticks old call new → is_unknown new.load ≡ is_unknown old.load
ticks_load old (Now moment) new made = news made.1
ticks_load old (Start nanos (Ok sleep)) new made = news made.1
ticks_load old (Start nanos (Err error)) new made = news made
ticks_load old (Ready sleep is_over) new made = news made.1
ticks_load old (GiveUp sleep) new made = news made

hands_load : (old : HostedOutside) (call : HostCall) (answer : Sent) (new : HostedOutside) → Hands old call answer new → is_unknown new.load ≡ is_unknown old.load
hands_load old (Waiting number order (Some (Response status headers)) body) answer new made = news made.1
hands_load old (Waiting number order (Some (NoResponse kind text)) body) answer new made = news made.1
hands_load old (Waiting number order None body) answer new made = news made.1
hands_load old Idle answer new made = news made.1
hands_load old (Streaming number body) answer new made = news made.1

flows_load : (old : HostedOutside) (number : ℕ) (next : Option HostFrame) (rest : HostBody) (answer : Polled) (new : HostedOutside) → Flows old number next rest answer new → is_unknown new.load ≡ is_unknown old.load
flows_load old number None rest answer new made = news made.1
flows_load old number (Some (Data bytes)) rest answer new made = news made.1
flows_load old number (Some Trailers) rest answer new made = news made.1
flows_load old number (Some End) rest answer new made = news made.1
flows_load old number (Some (Broken fault)) rest answer new made = news made.1

gives_load : (old : HostedOutside) (call : HostCall) (answer : Polled) (new : HostedOutside) → Gives old call answer new → is_unknown new.load ≡ is_unknown old.load
gives_load old Idle answer new made = news made.1
gives_load old (Waiting number order reply body) answer new made = news made.1
gives_load old (Streaming number body) answer new made = flows_load old number (slice_get body.frames 0) (behind body) answer new made

loads_load : (old : HostedOutside) (load : HostLoad) (come : Option HostIdentity) (answer : IdentityPoll) (new : HostedOutside) → Loads old load come answer new → not load.is_told ≡ false → is_unknown new.load ≡ false
loads_load old load None answer new made told = news made.1 ∙ told
loads_load old load (Some (Loaded content)) answer new made told = news made.1
loads_load old load (Some (NotLoaded text)) answer new made told = news made.1

resolves_load : (old : HostedOutside) (id : List ℕ) (load : Option HostLoad) (answer : IdentityPoll) (new : HostedOutside) → not (is_of id load) ≡ false → Resolves old id load answer new → is_unknown load ≡ false → is_unknown new.load ≡ false
resolves_load old id None answer new other made told = absurd (true≢false other)
resolves_load old id (Some load) answer new other made told =
    loads_load old load load.answer answer new
    (MatchBool-at_true (Loads old load load.answer answer new) (Opens old id answer new) (not-false (pointwise nat_eq load.id id) other) made) told

answer_load : (own : Bool) (load : HostLoad) (come : HostIdentity) →
    is_unknown (if own then Some (record { id = load.id; is_told = load.is_told; answer = Some (unwrap_or load.answer come) }) else Some load) ≡ not load.is_told
answer_load true load come = refl
answer_load false load come = refl

handed_load : (id : List ℕ) (come : HostIdentity) (load : Option HostLoad) → is_unknown (with_answer id come load) ≡ is_unknown load
handed_load id come None = refl
handed_load id come (Some load) = answer_load (pointwise nat_eq load.id id) load come

pub told_load_known : (load : Option HostLoad) → is_unknown (known_load load) ≡ false
told_load_known None = refl
told_load_known (Some load) = refl

-- but for the begin of a load, no step makes one new
pub load_stays_told : (old new : HostedOutside) (step : HostStep) → opens old.load step ≡ false → Steps old step new → is_unknown old.load ≡ false → is_unknown new.load ≡ false
load_stays_told old new (Asks (OfTimers call)) other made told = ticks_load old call new made ∙ told
load_stays_told old new (Asks (Begin request settings (Ok done))) other made told = news made ∙ told
load_stays_told old new (Asks (Begin request settings (Err error))) other made told = news made ∙ told
load_stays_told old new (Asks (Poll (Ok answer))) other made told = hands_load old old.call answer new made ∙ told
load_stays_told old new (Asks (Poll (Err error))) other made told = absurd made
load_stays_told old new (Asks (Frame (Ok answer))) other made told = gives_load old old.call answer new made ∙ told
load_stays_told old new (Asks (Frame (Err error))) other made told = absurd made
load_stays_told old new (Asks DropCall) other made told = news made ∙ told
load_stays_told old new (Asks (Resolve id (Ok answer))) other made told = resolves_load old id old.load answer new other made told
load_stays_told old new (Asks (Resolve id (Err error))) other made told = news made
load_stays_told old new (Asks DropResolve) other made told = news made
load_stays_told old new (Asks (Word word)) other made told = news made.1 ∙ told
load_stays_told old new (Asks (Poison number)) other made told = news made ∙ told
load_stays_told old new (Asks Park) other made told = news made ∙ told
load_stays_told old new (HandsIn (event.Reply call come)) other made told = news made ∙ told
load_stays_told old new (HandsIn (event.Frame call frame)) other made told = news made ∙ told
load_stays_told old new (HandsIn (event.Load id come)) other made told = news made ∙ handed_load id come old.load ∙ told
load_stays_told old new (MovesTo moment) other made told = news made ∙ told
load_stays_told old new IsTold other made told = news made ∙ told_load_known old.load
load_stays_told old new LetsGo other made told = news made
