-- The open call, and what it gives at a moment.
use Rattle.std.specs.Prelude.{◌≡◌, ℕ, ◌+◌, ◌==◌, ◌&&◌, nat_le, if◌then◌else◌, length, Option, None, Some, option_map}
use Rattle.std.specs.Prelude.{slice_get, MatchBool, codes}
use Rattle.smithy_types.specs.declared.polled.Polled.{Polled}
use Rattle.smithy_types.specs.declared.polled.Polled.TheVariants.{Pending, Data, End}
use Rattle.outside_scripted.specs.declared.call.OpenBody.{OpenBody}
use Rattle.outside_scripted.specs.declared.call.OpenCall.{OpenCall}
use Rattle.outside_scripted.specs.declared.call.OpenCall.TheVariants.{Idle, Waiting, Streaming}
use Rattle.outside_scripted.specs.declared.records.Frame.{Frame}
use Rattle.outside_scripted.specs.declared.records.RecordAnswer.{RecordAnswer}
use Rattle.outside_scripted.specs.declared.records.RecordAnswer.TheVariants.{Failed}
use Rattle.outside_scripted.specs.declared.records.ResponseRecord.{ResponseRecord}
use Rattle.smithy_types.specs.declared.kinds.ConnectorKind.TheVariants.{Io}
use Rattle.outside_scripted.specs.Time.{later}

-- the call after this record was taken at this moment; behind the last one a request fails at once
abbrev pub call_of : ℕ → Option ResponseRecord → OpenCall
call_of moment None = Waiting moment (Failed Io (codes "no more responses"))
call_of moment (Some next) = Waiting (later moment next.delay) next.answer

-- the frame that comes next, none at the body's end
abbrev pub coming : OpenBody → Option Frame
coming body = slice_get body.frames body.next

-- when the next frame comes: its delay counts from when the one before it was taken
abbrev pub body_due : OpenBody → Option ℕ
body_due body = option_map (λ frame. later body.since frame.delay) (coming body)

-- the place behind the next frame: the front again, where the frames repeat
abbrev pub following : OpenBody → ℕ
following body = if body.repeat && (body.next + 1 == length body.frames) then 0 else body.next + 1

-- when the call has something new
abbrev pub call_due : OpenCall → Option ℕ
call_due Idle = None
call_due (Waiting due answer) = Some due
call_due (Streaming body) = body_due body

-- what has come of the request that was begun, at this moment
abbrev pub answer_at : ℕ → OpenCall → Option RecordAnswer
answer_at moment Idle = None
answer_at moment (Waiting due answer) = if nat_le due moment then Some answer else None
answer_at moment (Streaming body) = None

-- the call without what has come
abbrev pub call_after : ℕ → OpenCall → OpenCall
call_after moment Idle = Idle
call_after moment (Waiting due answer) = if nat_le due moment then Idle else Waiting due answer
call_after moment (Streaming body) = Streaming body

-- the body after its next frame was taken at this moment
abbrev pub taken : ℕ → OpenBody → OpenBody
taken moment body = record body { next = following body; since = moment }

-- What the body gives, of which this frame is next, and what it is then: the frame as soon as it is
-- there, and the end behind the last one.
abbrev pub Flows : ℕ → OpenBody → Option Frame → Polled → OpenBody → Type 0
Flows moment body None polled new = (polled ≡ End) × (new ≡ body)
Flows moment body (Some frame) polled new =
    MatchBool (nat_le (later body.since frame.delay) moment)
    ((polled ≡ Data frame.bytes) × (new ≡ taken moment body))
    ((polled ≡ Pending) × (new ≡ body))

-- the same of the call, which is closed at the body's end
abbrev pub Streams : ℕ → OpenBody → Option Frame → Polled → OpenCall → Type 0
Streams moment body None polled new = (polled ≡ End) × (new ≡ Idle)
Streams moment body (Some frame) polled new =
    MatchBool (nat_le (later body.since frame.delay) moment)
    ((polled ≡ Data frame.bytes) × (new ≡ Streaming (taken moment body)))
    ((polled ≡ Pending) × (new ≡ Streaming body))

-- What a call gives where its body is asked. Without a call there is nothing to come, and before
-- the response nothing yet.
abbrev pub Gives : ℕ → OpenCall → Polled → OpenCall → Type 0
Gives moment Idle polled new = (polled ≡ End) × (new ≡ Idle)
Gives moment (Waiting due answer) polled new = (polled ≡ Pending) × (new ≡ Waiting due answer)
Gives moment (Streaming body) polled new = Streams moment body (coming body) polled new
