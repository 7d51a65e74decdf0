-- How many bytes of a body's data are handed out.
use Rattle.std.proofs.Common.{◌≡◌, ℕ, ◌+◌, ◌-◌, ◌≤◌, ◌==◌, Bool, true, false, List, [], ◌∷◌, ◌++◌, Option, None, Some, Ok, Err, MatchBool, nat_eq, slice_get, if◌then◌else◌, length, take, drop, refl, ap, ◌∙◌, arith}
use Rattle.std.proofs.Math.Nat.{le_refl}
use Rattle.std.proofs.lemmas.Bool.{true≢false}
use Rattle.std.proofs.lemmas.List.{length-take}
use Rattle.std.proofs.lemmas.List.Sums.{sum_by-cons, sum_by_push}
use Rattle.std.specs.Cmp.Lexicographic.{pointwise}
use Rattle.std.specs.List.{AllByRecursion, sum_by}
use Rattle.smithy_types.specs.Chain.{Chained}
use Rattle.smithy_types.specs.Frames.{data_len}
use Rattle.smithy_types.specs.declared.polled.Polled.{Polled}
use Rattle.smithy_types.specs.declared.timers.TimersCall.{TimersCall}
use Rattle.smithy_types.specs.declared.timers.TimersCall.TheVariants.{Now, Start, Ready, GiveUp}
use Rattle.outside.specs.Calls.{OfTimers, Begin, Poll, Frame, DropCall, Resolve, DropResolve, Word, Poison, Park}
use Rattle.outside.specs.declared.answers.IdentityPoll.{IdentityPoll}
use Rattle.outside.specs.declared.answers.Sent.{Sent}
use Rattle.outside_hosted.specs.declared.body.HostBody.{HostBody}
use Rattle.outside_hosted.specs.declared.call.HostCall.{HostCall}
use Rattle.outside_hosted.specs.declared.call.HostCall.TheVariants.{Idle, Waiting, Streaming}
use Rattle.outside_hosted.specs.declared.events.HostEvent.TheVariants as event
use Rattle.outside_hosted.specs.declared.events.HostFrame.{HostFrame}
use Rattle.outside_hosted.specs.declared.events.HostFrame.TheVariants.{Data, Trailers, End, Broken}
use Rattle.outside_hosted.specs.declared.events.HostIdentity.{HostIdentity}
use Rattle.outside_hosted.specs.declared.events.HostIdentity.TheVariants.{Loaded, NotLoaded}
use Rattle.outside_hosted.specs.declared.events.HostReply.{HostReply}
use Rattle.outside_hosted.specs.declared.events.HostReply.TheVariants.{Response, NoResponse}
use Rattle.outside_hosted.specs.declared.hosted_outside.HostedOutside.{HostedOutside}
use Rattle.outside_hosted.specs.declared.load.HostLoad.{HostLoad}
use Rattle.outside_hosted.specs.Body.{behind, with_frame, with_own}
use Rattle.outside_hosted.specs.Call.{with_call_frame, with_reply, without_order}
use Rattle.outside_hosted.specs.Makes.{Flows, Gives, Hands, Loads, Opens, Resolves, Ticks}
use Rattle.outside_hosted.specs.Steps.{HostStep, Asks, HandsIn, MovesTo, IsTold, LetsGo, Steps, begins, body_left, bytes_left, bytes_out, frame_len}

-- what is left of equal outsides
rest_of : {new old : HostedOutside} → new ≡ old → bytes_left new.call ≡ bytes_left old.call
rest_of same = ap (λ (s : HostedOutside). bytes_left s.call) same

-- a step that hands no bytes out, and leaves no more
quiet : (new old : ℕ) → new ≡ old → 0 + new ≤ old
quiet new old same = omega (arith, same)

-- the same where nothing is open then
shut : (new old : ℕ) → new ≡ 0 → 0 + new ≤ old
shut new old same = omega (arith, same)

put_left : (none : Bool) (piece : List ℕ) (body : HostBody) → length piece ≤ body.room →
    body_left (if none then body else record { frames = body.frames ++ Data piece ∷ []; room = body.room - length piece }) ≤ body_left body
put_left true piece body fits = le_refl (body_left body)
put_left false piece body fits =
    let more : sum_by frame_len (body.frames ++ Data piece ∷ []) ≡ sum_by frame_len body.frames + length piece = sum_by_push frame_len body.frames (Data piece) in
    omega (arith, more, fits)

-- no frame that is taken makes more of what may be handed out
frame_left : (frame : HostFrame) (body : HostBody) → body_left (with_frame frame body) ≤ body_left body
frame_left (Data bytes) body =
    put_left (length (take body.room bytes) == 0) (take body.room bytes) body (omega (arith, length-take body.room bytes))
frame_left Trailers body =
    let more : sum_by frame_len (body.frames ++ Trailers ∷ []) ≡ sum_by frame_len body.frames + 0 = sum_by_push frame_len body.frames Trailers in
    omega (arith, more)
frame_left End body =
    let more : sum_by frame_len (body.frames ++ End ∷ []) ≡ sum_by frame_len body.frames + 0 = sum_by_push frame_len body.frames End in
    omega (arith, more)
frame_left (Broken fault) body =
    let more : sum_by frame_len (body.frames ++ Broken fault ∷ []) ≡ sum_by frame_len body.frames + 0 = sum_by_push frame_len body.frames (Broken fault) in
    omega (arith, more)

own_left : (own : Bool) (frame : HostFrame) (body : HostBody) → body_left (with_own own frame body) ≤ body_left body
own_left true frame body = frame_left frame body
own_left false frame body = le_refl (body_left body)

framed_left : (call : ℕ) (frame : HostFrame) (standing : HostCall) → bytes_left (with_call_frame call frame standing) ≤ bytes_left standing
framed_left call frame Idle = le_refl 0
framed_left call frame (Waiting number order reply body) = own_left (number == call) frame body
framed_left call frame (Streaming number body) = own_left (number == call) frame body

replied_left : (call : ℕ) (come : HostReply) (standing : HostCall) → bytes_left (with_reply call come standing) ≡ bytes_left standing
replied_left call come Idle = refl
replied_left call come (Waiting number order reply body) = refl
replied_left call come (Streaming number body) = refl

told_left : (standing : HostCall) → bytes_left (without_order standing) ≡ bytes_left standing
told_left Idle = refl
told_left (Waiting number order reply body) = refl
told_left (Streaming number body) = refl

ticks_left : (old : HostedOutside) (call : TimersCall) (new : HostedOutside) → Ticks old call new → bytes_left new.call ≡ bytes_left old.call
ticks_left old (Now moment) new made = rest_of made.1
ticks_left old (Start nanos (Ok sleep)) new made = rest_of made.1
ticks_left old (Start nanos (Err error)) new made = rest_of made
ticks_left old (Ready sleep is_over) new made = rest_of made.1
ticks_left old (GiveUp sleep) new made = rest_of made

hands_left : (old : HostedOutside) (call : HostCall) (answer : Sent) (new : HostedOutside) → Hands old call answer new → 0 + bytes_left new.call ≤ bytes_left call
hands_left old (Waiting number order (Some (Response status headers)) body) answer new made = quiet (bytes_left new.call) (body_left body) (rest_of made.1)
hands_left old (Waiting number order (Some (NoResponse kind text)) body) answer new made = shut (bytes_left new.call) (body_left body) (rest_of made.1)
hands_left old (Waiting number order None body) answer new made = quiet (bytes_left new.call) (body_left body) (rest_of made.1)
hands_left old Idle answer new made = quiet (bytes_left new.call) 0 (rest_of made.1)
hands_left old (Streaming number body) answer new made = quiet (bytes_left new.call) (body_left body) (rest_of made.1)

-- the frames of a body, of which the next one is handed out
flows_left : (old : HostedOutside) (number room : ℕ) (frames : List HostFrame) (answer : Polled) (new : HostedOutside) →
    Flows old number (slice_get frames 0) (record { frames = drop 1 frames; room = room }) answer new →
    data_len answer + bytes_left new.call ≤ sum_by frame_len frames + room
flows_left old number room [] answer new made =
    let none : data_len answer ≡ 0 = ap data_len made.0 in
    let rest : bytes_left new.call ≡ 0 + room = rest_of made.1 in
    omega (arith, none, rest)
flows_left old number room (Data bytes ∷ frames) answer new made =
    let some : data_len answer ≡ length bytes = ap data_len made.0 in
    let rest : bytes_left new.call ≡ sum_by frame_len frames + room = rest_of made.1 in
    let whole : sum_by frame_len (Data bytes ∷ frames) ≡ length bytes + sum_by frame_len frames = sum_by-cons frame_len (Data bytes) frames in
    omega (arith, some, rest, whole)
flows_left old number room (Trailers ∷ frames) answer new made =
    let none : data_len answer ≡ 0 = ap data_len made.0 in
    let rest : bytes_left new.call ≡ sum_by frame_len frames + room = rest_of made.1 in
    let whole : sum_by frame_len (Trailers ∷ frames) ≡ 0 + sum_by frame_len frames = sum_by-cons frame_len Trailers frames in
    omega (arith, none, rest, whole)
flows_left old number room (End ∷ frames) answer new made =
    let none : data_len answer ≡ 0 = ap data_len made.0 in
    let rest : bytes_left new.call ≡ 0 = rest_of made.1 in
    omega (arith, none, rest)
flows_left old number room (Broken fault ∷ frames) answer new made =
    let none : data_len answer ≡ 0 = ap data_len made.0 in
    let rest : bytes_left new.call ≡ 0 = rest_of made.1 in
    omega (arith, none, rest)

gives_left : (old : HostedOutside) (call : HostCall) (answer : Polled) (new : HostedOutside) → Gives old call answer new → data_len answer + bytes_left new.call ≤ bytes_left call
gives_left old Idle answer new made =
    let none : data_len answer ≡ 0 = ap data_len made.0 in
    let rest : bytes_left new.call ≡ 0 = rest_of made.1 in
    omega (arith, none, rest)
gives_left old (Waiting number order reply body) answer new made =
    let none : data_len answer ≡ 0 = ap data_len made.0 in
    let rest : bytes_left new.call ≡ body_left body = rest_of made.1 in
    omega (arith, none, rest)
gives_left old (Streaming number body) answer new made = flows_left old number body.room body.frames answer new made

loads_left : (old : HostedOutside) (load : HostLoad) (come : Option HostIdentity) (answer : IdentityPoll) (new : HostedOutside) → Loads old load come answer new → bytes_left new.call ≡ bytes_left old.call
loads_left old load None answer new made = rest_of made.1
loads_left old load (Some (Loaded content)) answer new made = rest_of made.1
loads_left old load (Some (NotLoaded text)) answer new made = rest_of made.1

-- what holds in both cases of a test
either : (there : Bool) (P Q R : Type 0) → (P → R) → (Q → R) → MatchBool there P Q → R
either true P Q R p q made = p made
either false P Q R p q made = q made

resolves_left : (old : HostedOutside) (id : List ℕ) (load : Option HostLoad) (answer : IdentityPoll) (new : HostedOutside) → Resolves old id load answer new → bytes_left new.call ≡ bytes_left old.call
resolves_left old id None answer new made = rest_of made.1
resolves_left old id (Some load) answer new made =
    either (pointwise nat_eq load.id id) (Loads old load load.answer answer new) (Opens old id answer new) (bytes_left new.call ≡ bytes_left old.call)
    (loads_left old load load.answer answer new) (λ opened. rest_of opened.1) made

-- a step hands out no more than was left, and what it doesn't is left
pub step_left : (old new : HostedOutside) (step : HostStep) → begins step ≡ false → Steps old step new → bytes_out step + bytes_left new.call ≤ bytes_left old.call
step_left old new (Asks (OfTimers call)) other made = quiet (bytes_left new.call) (bytes_left old.call) (ticks_left old call new made)
step_left old new (Asks (Begin request settings (Ok done))) other made = absurd (true≢false other)
step_left old new (Asks (Begin request settings (Err error))) other made = quiet (bytes_left new.call) (bytes_left old.call) (rest_of made)
step_left old new (Asks (Poll (Ok answer))) other made = hands_left old old.call answer new made
step_left old new (Asks (Poll (Err error))) other made = absurd made
step_left old new (Asks (Frame (Ok answer))) other made = gives_left old old.call answer new made
step_left old new (Asks (Frame (Err error))) other made = absurd made
step_left old new (Asks DropCall) other made = shut (bytes_left new.call) (bytes_left old.call) (rest_of made)
step_left old new (Asks (Resolve id (Ok answer))) other made = quiet (bytes_left new.call) (bytes_left old.call) (resolves_left old id old.load answer new made)
step_left old new (Asks (Resolve id (Err error))) other made = quiet (bytes_left new.call) (bytes_left old.call) (rest_of made)
step_left old new (Asks DropResolve) other made = quiet (bytes_left new.call) (bytes_left old.call) (rest_of made)
step_left old new (Asks (Word word)) other made = quiet (bytes_left new.call) (bytes_left old.call) (rest_of made.1)
step_left old new (Asks (Poison number)) other made = quiet (bytes_left new.call) (bytes_left old.call) (rest_of made)
step_left old new (Asks Park) other made = quiet (bytes_left new.call) (bytes_left old.call) (rest_of made)
step_left old new (HandsIn (event.Reply call come)) other made = quiet (bytes_left new.call) (bytes_left old.call) (rest_of made ∙ replied_left call come old.call)
step_left old new (HandsIn (event.Frame call frame)) other made =
    let same : bytes_left new.call ≡ bytes_left (with_call_frame call frame old.call) = rest_of made in
    omega (arith, same, framed_left call frame old.call)
step_left old new (HandsIn (event.Load id come)) other made = quiet (bytes_left new.call) (bytes_left old.call) (rest_of made)
step_left old new (MovesTo moment) other made = quiet (bytes_left new.call) (bytes_left old.call) (rest_of made)
step_left old new IsTold other made = quiet (bytes_left new.call) (bytes_left old.call) (rest_of made ∙ told_left old.call)
step_left old new LetsGo other made = shut (bytes_left new.call) (bytes_left old.call) (rest_of made)

-- so do some steps
steps_left : (old new : HostedOutside) (steps : List HostStep) → AllByRecursion (λ step. begins step ≡ false) steps → Chained Steps old steps new →
    sum_by bytes_out steps + bytes_left new.call ≤ bytes_left old.call
steps_left old new [] others made = omega (arith, rest_of made)
steps_left old new (step ∷ steps) (other, others) (mid, this, rest) =
    let whole : sum_by bytes_out (step ∷ steps) ≡ bytes_out step + sum_by bytes_out steps = sum_by-cons bytes_out step steps in
    omega (arith, whole, step_left old mid step other this, steps_left mid new steps others rest)

-- behind the begin of a call they hand out at most what its body has room for
pub call_bounded : (begun new : HostedOutside) (steps : List HostStep) → bytes_left begun.call ≡ 16384 → AllByRecursion (λ step. begins step ≡ false) steps → Chained Steps begun steps new →
    sum_by bytes_out steps ≤ 16384
call_bounded begun new steps whole others made = omega (arith, whole, steps_left begun new steps others made)
