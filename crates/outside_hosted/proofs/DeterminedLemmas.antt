-- What is determined, by the parts of a hosted outside.
use Rattle.std.proofs.Common.{◌≡◌, ℕ, Bool, true, false, List, Option, None, Some, Ok, Err, MatchBool, sym, ◌∙◌, nat_eq, slice_get}
use Rattle.std.specs.Cmp.Lexicographic.{pointwise}
use Rattle.smithy_types.specs.declared.polled.Polled.{Polled}
use Rattle.smithy_types.specs.declared.timers.TimersCall.{TimersCall}
use Rattle.smithy_types.specs.declared.timers.TimersCall.TheVariants.{Now, Start, Ready, GiveUp}
use Rattle.outside.specs.Calls.{OutsideCall, OfTimers, Begin, Poll, Frame, DropCall, Resolve, DropResolve, Word, Poison, Park}
use Rattle.outside.specs.declared.answers.IdentityPoll.{IdentityPoll}
use Rattle.outside.specs.declared.answers.Sent.{Sent}
use Rattle.outside_hosted.specs.declared.body.HostBody.{HostBody}
use Rattle.outside_hosted.specs.declared.call.HostCall.{HostCall}
use Rattle.outside_hosted.specs.declared.call.HostCall.TheVariants.{Idle, Waiting, Streaming}
use Rattle.outside_hosted.specs.declared.events.HostFrame.{HostFrame}
use Rattle.outside_hosted.specs.declared.events.HostFrame.TheVariants.{Data, Trailers, End, Broken}
use Rattle.outside_hosted.specs.declared.events.HostIdentity.{HostIdentity}
use Rattle.outside_hosted.specs.declared.events.HostIdentity.TheVariants.{Loaded, NotLoaded}
use Rattle.outside_hosted.specs.declared.events.HostReply.TheVariants.{Response, NoResponse}
use Rattle.outside_hosted.specs.declared.hosted_outside.HostedOutside.{HostedOutside}
use Rattle.outside_hosted.specs.declared.load.HostLoad.{HostLoad}
use Rattle.outside_hosted.specs.Body.{behind}
use Rattle.outside_hosted.specs.Makes.{Flows, Gives, Hands, Loads, Makes, Opens, Resolves, Ticks}

pub hands : (old new other : HostedOutside) (call : HostCall) (a b : Sent) → Hands old call a new → Hands old call b other → (a ≡ b) × (new ≡ other)
hands old new other (Waiting number order (Some (Response status headers)) body) a b p q = (p.0 ∙ sym q.0, p.1 ∙ sym q.1)
hands old new other (Waiting number order (Some (NoResponse kind text)) body) a b p q = (p.0 ∙ sym q.0, p.1 ∙ sym q.1)
hands old new other (Waiting number order None body) a b p q = (p.0 ∙ sym q.0, p.1 ∙ sym q.1)
hands old new other Idle a b p q = (p.0 ∙ sym q.0, p.1 ∙ sym q.1)
hands old new other (Streaming number body) a b p q = (p.0 ∙ sym q.0, p.1 ∙ sym q.1)

flows : (old new other : HostedOutside) (number : ℕ) (next : Option HostFrame) (rest : HostBody) (a b : Polled) → Flows old number next rest a new → Flows old number next rest b other → (a ≡ b) × (new ≡ other)
flows old new other number None rest a b p q = (p.0 ∙ sym q.0, p.1 ∙ sym q.1)
flows old new other number (Some (Data bytes)) rest a b p q = (p.0 ∙ sym q.0, p.1 ∙ sym q.1)
flows old new other number (Some Trailers) rest a b p q = (p.0 ∙ sym q.0, p.1 ∙ sym q.1)
flows old new other number (Some End) rest a b p q = (p.0 ∙ sym q.0, p.1 ∙ sym q.1)
flows old new other number (Some (Broken fault)) rest a b p q = (p.0 ∙ sym q.0, p.1 ∙ sym q.1)

pub gives : (old new other : HostedOutside) (call : HostCall) (a b : Polled) → Gives old call a new → Gives old call b other → (a ≡ b) × (new ≡ other)
gives old new other Idle a b p q = (p.0 ∙ sym q.0, p.1 ∙ sym q.1)
gives old new other (Waiting number order reply body) a b p q = (p.0 ∙ sym q.0, p.1 ∙ sym q.1)
gives old new other (Streaming number body) a b p q = flows old new other number (slice_get body.frames 0) (behind body) a b p q

loads : (old new other : HostedOutside) (load : HostLoad) (come : Option HostIdentity) (a b : IdentityPoll) → Loads old load come a new → Loads old load come b other → (a ≡ b) × (new ≡ other)
loads old new other load None a b p q = (p.0 ∙ sym q.0, p.1 ∙ sym q.1)
loads old new other load (Some (Loaded content)) a b p q = (p.0 ∙ sym q.0, p.1 ∙ sym q.1)
loads old new other load (Some (NotLoaded text)) a b p q = (p.0 ∙ sym q.0, p.1 ∙ sym q.1)

opens : (old new other : HostedOutside) (id : List ℕ) (a b : IdentityPoll) → Opens old id a new → Opens old id b other → (a ≡ b) × (new ≡ other)
opens old new other id a b p q = (p.0 ∙ sym q.0, p.1 ∙ sym q.1)

-- two that both hold in one case of a test
either : (there : Bool) (P Q P' Q' R : Type 0) → (P → P' → R) → (Q → Q' → R) → MatchBool there P Q → MatchBool there P' Q' → R
either true P Q P' Q' R p q made other = p made other
either false P Q P' Q' R p q made other = q made other

pub resolves : (old new other : HostedOutside) (id : List ℕ) (load : Option HostLoad) (a b : IdentityPoll) → Resolves old id load a new → Resolves old id load b other → (a ≡ b) × (new ≡ other)
resolves old new other id None a b p q = opens old new other id a b p q
resolves old new other id (Some load) a b p q =
    either (pointwise nat_eq load.id id)
    (Loads old load load.answer a new) (Opens old id a new)
    (Loads old load load.answer b other) (Opens old id b other)
    ((a ≡ b) × (new ≡ other))
    (loads old new other load load.answer a b) (opens old new other id a b) p q

ticks : (old new other : HostedOutside) (call : TimersCall) → Ticks old call new → Ticks old call other → new ≡ other
ticks old new other (Now moment) p q = p.1 ∙ sym q.1
ticks old new other (Start nanos (Ok sleep)) p q = p.1 ∙ sym q.1
ticks old new other (Start nanos (Err error)) p q = p ∙ sym q
ticks old new other (Ready sleep is_over) p q = p.1 ∙ sym q.1
ticks old new other (GiveUp sleep) p q = p ∙ sym q

pub moves : (old new other : HostedOutside) (call : OutsideCall) → Makes old call new → Makes old call other → new ≡ other
moves old new other (OfTimers call) p q = ticks old new other call p q
moves old new other (Begin request settings (Ok done)) p q = p ∙ sym q
moves old new other (Begin request settings (Err error)) p q = p ∙ sym q
moves old new other (Poll (Ok answer)) p q = (hands old new other old.call answer answer p q).1
moves old new other (Poll (Err error)) p q = absurd p
moves old new other (Frame (Ok answer)) p q = (gives old new other old.call answer answer p q).1
moves old new other (Frame (Err error)) p q = absurd p
moves old new other DropCall p q = p ∙ sym q
moves old new other (Resolve id (Ok answer)) p q = (resolves old new other id old.load answer answer p q).1
moves old new other (Resolve id (Err error)) p q = p ∙ sym q
moves old new other DropResolve p q = p ∙ sym q
moves old new other (Word word) p q = p.1 ∙ sym q.1
moves old new other (Poison number) p q = p ∙ sym q
moves old new other Park p q = p ∙ sym q
