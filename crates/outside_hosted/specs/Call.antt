-- The call that is open.
use Rattle.std.specs.Prelude.{ℕ, ◌==◌, Bool, false, not, if◌then◌else◌, length, Option, None, Some, is_some}
use Rattle.outside_hosted.specs.declared.call.HostCall.{HostCall}
use Rattle.outside_hosted.specs.declared.call.HostCall.TheVariants.{Idle, Waiting, Streaming}
use Rattle.outside_hosted.specs.declared.call.Order.{Order}
use Rattle.outside_hosted.specs.declared.events.HostFrame.{HostFrame}
use Rattle.outside_hosted.specs.declared.events.HostReply.{HostReply}
use Rattle.outside_hosted.specs.Body.{with_own}

-- what came first stays
abbrev pub first_of : Option HostReply → HostReply → HostReply
first_of None come = come
first_of (Some earlier) come = earlier

-- with what came of a request, if it is of this call
abbrev pub with_own_reply : Bool → HostReply → Option HostReply → Option HostReply
with_own_reply is_own come reply = if is_own then Some (first_of reply come) else reply

-- the call with what came of the request of the call of this number
abbrev pub with_reply : ℕ → HostReply → HostCall → HostCall
with_reply call come Idle = Idle
with_reply call come (Waiting number order reply body) =
    Waiting number order (with_own_reply (number == call) come reply) body
with_reply call come (Streaming number body) = Streaming number body

-- the call with a frame of the body of that call's response
abbrev pub with_call_frame : ℕ → HostFrame → HostCall → HostCall
with_call_frame call frame Idle = Idle
with_call_frame call frame (Waiting number order reply body) =
    Waiting number order reply (with_own (number == call) frame body)
with_call_frame call frame (Streaming number body) = Streaming number (with_own (number == call) frame body)

-- what the host wasn't told to send yet
abbrev pub order_left : HostCall → Option Order
order_left (Waiting number order reply body) = order
order_left Idle = None
order_left (Streaming number body) = None

-- the call when the host was told
abbrev pub without_order : HostCall → HostCall
without_order (Waiting number order reply body) = Waiting number None reply body
without_order Idle = Idle
without_order (Streaming number body) = Streaming number body

-- the number of the open call
abbrev pub open_call : HostCall → Option ℕ
open_call Idle = None
open_call (Waiting number order reply body) = Some number
open_call (Streaming number body) = Some number

-- whether something came that wasn't asked for yet
abbrev pub call_has_news : HostCall → Bool
call_has_news Idle = false
call_has_news (Waiting number order reply body) = is_some reply
call_has_news (Streaming number body) = not (length body.frames == 0)
