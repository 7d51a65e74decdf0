-- A client that is handed nothing waits.
use Rattle.std.proofs.Common.{◌≡◌, ℕ, Bool, true, false, not, ◌&&◌, List, [], ◌∷◌, Option, None, Some, Ok, Err, MatchBool, nat_eq, slice_get, sym, ap, ◌∙◌}
use Rattle.std.proofs.lemmas.Bool.{true≢false}
use Rattle.std.specs.Cmp.Lexicographic.{pointwise}
use Rattle.std.specs.List.{AllByRecursion}
use Rattle.smithy_types.specs.Chain.{Chained}
use Rattle.smithy_types.specs.declared.polled.Polled.{Polled}
use Rattle.smithy_types.specs.declared.polled.Polled.TheVariants as polled
use Rattle.smithy_types.specs.declared.timers.TimersCall.{TimersCall}
use Rattle.smithy_types.specs.declared.timers.TimersCall.TheVariants.{Now, Start, Ready, GiveUp}
use Rattle.outside.specs.Calls.{OfTimers, Begin, Poll, Frame, DropCall, Resolve, DropResolve, Word, Poison, Park}
use Rattle.outside.specs.declared.answers.IdentityPoll.{IdentityPoll}
use Rattle.outside.specs.declared.answers.IdentityPoll.TheVariants as identity
use Rattle.outside.specs.declared.answers.Sent.{Sent}
use Rattle.outside.specs.declared.answers.Sent.TheVariants as sent
use Rattle.outside_hosted.specs.declared.body.HostBody.{HostBody}
use Rattle.outside_hosted.specs.declared.call.HostCall.{HostCall}
use Rattle.outside_hosted.specs.declared.call.HostCall.TheVariants.{Idle, Waiting, Streaming}
use Rattle.outside_hosted.specs.declared.events.HostEvent.TheVariants as event
use Rattle.outside_hosted.specs.declared.events.HostFrame.{HostFrame}
use Rattle.outside_hosted.specs.declared.events.HostFrame.TheVariants.{Data, Trailers, End, Broken}
use Rattle.outside_hosted.specs.declared.events.HostIdentity.{HostIdentity}
use Rattle.outside_hosted.specs.declared.events.HostIdentity.TheVariants.{Loaded, NotLoaded}
use Rattle.outside_hosted.specs.declared.events.HostReply.TheVariants.{Response, NoResponse}
use Rattle.outside_hosted.specs.declared.hosted_outside.HostedOutside.{HostedOutside}
use Rattle.outside_hosted.specs.declared.load.HostLoad.{HostLoad}
use Rattle.outside_hosted.specs.Body.{behind}
use Rattle.outside_hosted.specs.Makes.{Flows, Gives, Hands, Loads, Makes, Opens, Resolves, Ticks, has_news}
use Rattle.outside_hosted.specs.Steps.{HostStep, Asks, HandsIn, MovesTo, IsTold, LetsGo, Steps, hands_out}

-- what was handed out of equal outsides
given : {new old : HostedOutside} → new ≡ old → new.has_given ≡ old.has_given
given same = ap (λ (s : HostedOutside). s.has_given) same

ticks : (old : HostedOutside) (call : TimersCall) (new : HostedOutside) → Ticks old call new → new.has_given ≡ old.has_given
ticks old (Now moment) new made = given made.1
ticks old (Start nanos (Ok sleep)) new made = given made.1
ticks old (Start nanos (Err error)) new made = given made
ticks old (Ready sleep is_over) new made = given made.1
ticks old (GiveUp sleep) new made = given made

-- an answer that isn't the one that something is handed out by
not_poll : (answer other : Sent) → answer ≡ other → hands_out (Asks (Poll (Ok answer))) ≡ false → hands_out (Asks (Poll (Ok other))) ≡ false
not_poll answer other same none = ap (λ (a : Sent). hands_out (Asks (Poll (Ok a)))) (sym same) ∙ none

hands : (old : HostedOutside) (call : HostCall) (answer : Sent) (new : HostedOutside) → Hands old call answer new → hands_out (Asks (Poll (Ok answer))) ≡ false → new.has_given ≡ old.has_given
hands old (Waiting number order (Some (Response status headers)) body) answer new made none = absurd (true≢false (not_poll _ _ made.0 none))
hands old (Waiting number order (Some (NoResponse kind text)) body) answer new made none = absurd (true≢false (not_poll _ _ made.0 none))
hands old (Waiting number order None body) answer new made none = given made.1
hands old Idle answer new made none = given made.1
hands old (Streaming number body) answer new made none = given made.1

not_frame : (answer other : Polled) → answer ≡ other → hands_out (Asks (Frame (Ok answer))) ≡ false → hands_out (Asks (Frame (Ok other))) ≡ false
not_frame answer other same none = ap (λ (a : Polled). hands_out (Asks (Frame (Ok a)))) (sym same) ∙ none

flows : (old : HostedOutside) (number : ℕ) (next : Option HostFrame) (rest : HostBody) (answer : Polled) (new : HostedOutside) → Flows old number next rest answer new → hands_out (Asks (Frame (Ok answer))) ≡ false → new.has_given ≡ old.has_given
flows old number None rest answer new made none = given made.1
flows old number (Some (Data bytes)) rest answer new made none = absurd (true≢false (not_frame _ _ made.0 none))
flows old number (Some Trailers) rest answer new made none = absurd (true≢false (not_frame _ _ made.0 none))
flows old number (Some End) rest answer new made none = absurd (true≢false (not_frame _ _ made.0 none))
flows old number (Some (Broken fault)) rest answer new made none = absurd (true≢false (not_frame _ _ made.0 none))

gives : (old : HostedOutside) (call : HostCall) (answer : Polled) (new : HostedOutside) → Gives old call answer new → hands_out (Asks (Frame (Ok answer))) ≡ false → new.has_given ≡ old.has_given
gives old Idle answer new made none = given made.1
gives old (Waiting number order reply body) answer new made none = given made.1
gives old (Streaming number body) answer new made none = flows old number (slice_get body.frames 0) (behind body) answer new made none

not_load : (id : List ℕ) (answer other : IdentityPoll) → answer ≡ other → hands_out (Asks (Resolve id (Ok answer))) ≡ false → hands_out (Asks (Resolve id (Ok other))) ≡ false
not_load id answer other same none = ap (λ (a : IdentityPoll). hands_out (Asks (Resolve id (Ok a)))) (sym same) ∙ none

loads : (old : HostedOutside) (id : List ℕ) (load : HostLoad) (come : Option HostIdentity) (answer : IdentityPoll) (new : HostedOutside) → Loads old load come answer new → hands_out (Asks (Resolve id (Ok answer))) ≡ false → new.has_given ≡ old.has_given
loads old id load None answer new made none = given made.1
loads old id load (Some (Loaded content)) answer new made none = absurd (true≢false (not_load id _ _ made.0 none))
loads old id load (Some (NotLoaded text)) answer new made none = absurd (true≢false (not_load id _ _ made.0 none))

-- what holds in both cases of a test
either : (there : Bool) (P Q R : Type 0) → (P → R) → (Q → R) → MatchBool there P Q → R
either true P Q R p q made = p made
either false P Q R p q made = q made

resolves : (old : HostedOutside) (id : List ℕ) (load : Option HostLoad) (answer : IdentityPoll) (new : HostedOutside) → Resolves old id load answer new → hands_out (Asks (Resolve id (Ok answer))) ≡ false → new.has_given ≡ old.has_given
resolves old id None answer new made none = given made.1
resolves old id (Some load) answer new made none =
    either (pointwise nat_eq load.id id) (Loads old load load.answer answer new) (Opens old id answer new) (new.has_given ≡ old.has_given)
    (λ loaded. loads old id load load.answer answer new loaded none) (λ opened. given opened.1) made

-- a step that hands nothing out, where nothing was
still_none : (old : HostedOutside) (step : HostStep) (new : HostedOutside) → Steps old step new → hands_out step ≡ false → old.has_given ≡ false → new.has_given ≡ false
still_none old (Asks (OfTimers call)) new made none before = ticks old call new made ∙ before
still_none old (Asks (Begin request settings (Ok done))) new made none before = given made ∙ before
still_none old (Asks (Begin request settings (Err error))) new made none before = given made ∙ before
still_none old (Asks (Poll (Ok answer))) new made none before = hands old old.call answer new made none ∙ before
still_none old (Asks (Poll (Err error))) new made none before = absurd made
still_none old (Asks (Frame (Ok answer))) new made none before = gives old old.call answer new made none ∙ before
still_none old (Asks (Frame (Err error))) new made none before = absurd made
still_none old (Asks DropCall) new made none before = given made ∙ before
still_none old (Asks (Resolve id (Ok answer))) new made none before = resolves old id old.load answer new made none ∙ before
still_none old (Asks (Resolve id (Err error))) new made none before = given made ∙ before
still_none old (Asks DropResolve) new made none before = given made ∙ before
still_none old (Asks (Word word)) new made none before = given made.1 ∙ before
still_none old (Asks (Poison number)) new made none before = given made ∙ before
still_none old (Asks Park) new made none before = given made
still_none old (HandsIn (event.Reply call come)) new made none before = given made ∙ before
still_none old (HandsIn (event.Frame call frame)) new made none before = given made ∙ before
still_none old (HandsIn (event.Load id come)) new made none before = given made ∙ before
still_none old (MovesTo moment) new made none before = given made ∙ before
still_none old IsTold new made none before = given made ∙ before
still_none old LetsGo new made none before = given made ∙ before

none_given : (old : HostedOutside) (steps : List HostStep) (new : HostedOutside) → Chained Steps old steps new → AllByRecursion (λ step. hands_out step ≡ false) steps → old.has_given ≡ false → new.has_given ≡ false
none_given old [] new same none before = given same ∙ before
none_given old (step ∷ steps) new (mid, first, others) (none, more) before = none_given mid steps new others more (still_none old step mid first none before)

-- the next park waits
pub waits : (parking parked old new : HostedOutside) (steps : List HostStep) → Makes parking Park parked → Chained Steps parked steps old → AllByRecursion (λ step. hands_out step ≡ false) steps → Makes old Park new → new.is_parked ≡ true
waits parking parked old new steps first made none last =
    ap (λ (s : HostedOutside). s.is_parked) last ∙ ap (λ (b : Bool). not (b && has_news old)) (none_given parked steps old made none (given first))
