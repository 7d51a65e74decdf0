-- What happens to a hosted outside: what its client asks, and what its host does.
use Rattle.std.specs.Prelude.{◌≡◌, ℕ, ◌+◌, max, nat_eq, Bool, true, false, not, List, [], Option, None, Some, Ok}
use Rattle.std.specs.Prelude.{length, sum_by}
use Rattle.std.specs.Cmp.Lexicographic.{pointwise}
use Rattle.smithy_types.specs.Frames.{data_len}
use Rattle.smithy_types.specs.declared.polled.Polled.TheVariants as polled
use Rattle.outside.specs.Calls.{OutsideCall, Begin, Poll, Frame, Resolve}
use Rattle.outside.specs.declared.answers.IdentityPoll.TheVariants as identity
use Rattle.outside.specs.declared.answers.Sent.TheVariants as sent
use Rattle.outside_hosted.specs.declared.body.HostBody.{HostBody}
use Rattle.outside_hosted.specs.declared.call.HostCall.{HostCall}
use Rattle.outside_hosted.specs.declared.call.HostCall.TheVariants.{Idle, Waiting, Streaming}
use Rattle.outside_hosted.specs.declared.events.HostEvent.{HostEvent}
use Rattle.outside_hosted.specs.declared.events.HostFrame.{HostFrame}
use Rattle.outside_hosted.specs.declared.events.HostFrame.TheVariants.{Data}
use Rattle.outside_hosted.specs.declared.hosted_outside.HostedOutside.{HostedOutside}
use Rattle.outside_hosted.specs.declared.load.HostLoad.{HostLoad}
use Rattle.outside_hosted.specs.Handing.{handed}
use Rattle.outside_hosted.specs.Makes.{Makes}
use Rattle.outside_hosted.specs.Telling.{after_told}

-- a call of the client with its answer, or what the host does: it hands in what came, moves the
-- clock, is told, or lets all go
pub data HostStep : Type 0 where
  Asks : OutsideCall → HostStep
  HandsIn : HostEvent → HostStep
  MovesTo : ℕ → HostStep
  IsTold : HostStep
  LetsGo : HostStep

-- the outside when nothing is open any more
abbrev pub let_go : HostedOutside → HostedOutside
let_go old = record old { sleeps = []; call = Idle; load = None }

-- the outside when it is this moment, if that is later
abbrev pub moved_to : ℕ → HostedOutside → HostedOutside
moved_to moment old = record old { moment = max old.moment moment }

-- one step
abbrev pub Steps : HostedOutside → HostStep → HostedOutside → Type 0
Steps old (Asks call) new = Makes old call new
Steps old (HandsIn come) new = new ≡ handed come old
Steps old (MovesTo moment) new = new ≡ moved_to moment old
Steps old IsTold new = new ≡ after_told old
Steps old LetsGo new = new ≡ let_go old

-- whether a call was begun
abbrev pub begins : HostStep → Bool
begins (Asks (Begin request settings (Ok done))) = true
begins _ = false

-- whether the open load is of this scheme
abbrev pub is_of : List ℕ → Option HostLoad → Bool
is_of id None = false
is_of id (Some load) = pointwise nat_eq load.id id

-- whether a load is opened, with this one open before
abbrev pub opens : Option HostLoad → HostStep → Bool
opens load (Asks (Resolve id (Ok answer))) = not (is_of id load)
opens load _ = false

-- the scheme of the open load
abbrev pub open_load : Option HostLoad → Option (List ℕ)
open_load None = None
open_load (Some load) = Some load.id

-- whether a load is open of which the host wasn't told
abbrev pub is_unknown : Option HostLoad → Bool
is_unknown None = false
is_unknown (Some load) = not load.is_told

-- how many bytes of data a frame has
abbrev pub frame_len : HostFrame → ℕ
frame_len (Data bytes) = length bytes
frame_len _ = 0

-- how many bytes of a body's data may still be handed out
abbrev pub body_left : HostBody → ℕ
body_left body = sum_by frame_len body.frames + body.room

-- the same of the open call
abbrev pub bytes_left : HostCall → ℕ
bytes_left Idle = 0
bytes_left (Waiting number order reply body) = body_left body
bytes_left (Streaming number body) = body_left body

-- how many bytes of a body's data a step hands out
abbrev pub bytes_out : HostStep → ℕ
bytes_out (Asks (Frame (Ok answer))) = data_len answer
bytes_out _ = 0

-- whether a step hands out something that came
abbrev pub hands_out : HostStep → Bool
hands_out (Asks (Poll (Ok sent.Pending))) = false
hands_out (Asks (Poll (Ok answer))) = true
hands_out (Asks (Frame (Ok polled.Pending))) = false
hands_out (Asks (Frame (Ok answer))) = true
hands_out (Asks (Resolve id (Ok identity.Pending))) = false
hands_out (Asks (Resolve id (Ok answer))) = true
hands_out _ = false
