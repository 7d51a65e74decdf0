-- The print of waiters.
use Rattle.std.specs.Prelude.{ℕ, ◌==◌, List, [], ◌∷◌, ◌++◌, Bool, true, false, Option, None, Some, codes, if◌then◌else◌}
use Rattle.std.specs.List.{list_all}
use Rattle.json_forms.specs.Prints.{row, num}
use Rattle.serde_json.specs.Data.{Data, string}
use Rattle.serde_json.specs.Written.{compact_text}
use Rattle.cli_shell.specs.declared.status.PrintStatus.{PrintStatus}
use Rattle.cli_shell.specs.declared.status.PrintStatus.TheVariants as statuses
use Rattle.smithy_types.specs.declared.sums.Sums.{Sums}
use Rattle.json_values.specs.Values.{sums_data}
use Rattle.waiter_fleet.specs.declared.event.FleetEnd.{FleetEnd}
use Rattle.waiter_fleet.specs.declared.event.FleetEnd.TheVariants as end
use Rattle.waiter_fleet.specs.declared.event.FleetEvent.{FleetEvent}
use Rattle.waiter_fleet.specs.declared.event.FleetEvent.TheVariants.{Poll, Sleep, Charged, Refused, End}

-- a line of a print: the compact text of the data and a line feed
abbrev pub line : Data → List ℕ
line d = compact_text d ++ 10 ∷ []

-- the line, if there is one
abbrev pub line_of : Option Data → List ℕ
line_of None = []
line_of (Some d) = line d

-- a poll with its waiter, number and moment
unfoldable pub poll_data : ℕ → ℕ → ℕ → Data
poll_data waiter number moment = row (string (codes "poll") ∷ num waiter ∷ num number ∷ num moment ∷ [])

-- a sleep with its waiter and its nanoseconds; one of 0 isn't printed
unfoldable pub sleep_data : ℕ → ℕ → Option Data
sleep_data waiter nanos = if nanos == 0 then None else Some (row (string (codes "sleep") ∷ num waiter ∷ num nanos ∷ []))

-- a refusal with its waiter and the cost of its poll
unfoldable pub refusal_data : ℕ → ℕ → Data
refusal_data waiter cost = row (string (codes "refused") ∷ num waiter ∷ num cost ∷ [])

-- the name of how a waiter ended
unfoldable pub end_name : FleetEnd → List ℕ
end_name end.Ok = codes "Ok"
end_name end.OperationFailed = codes "OperationFailed"
end_name end.FailureState = codes "FailureState"
end_name (end.ExceededMaxWait max_wait elapsed poll_count) = codes "ExceededMaxWait"
end_name (end.NoQuota cost) = codes "NoQuota"
end_name end.Unfinished = codes "Unfinished"

-- an end with its waiter and its name
unfoldable pub end_data : ℕ → FleetEnd → Data
end_data waiter ending = row (string (codes "end") ∷ num waiter ∷ string (end_name ending) ∷ [])

-- an event, if it is printed
unfoldable pub event_data : FleetEvent → Option Data
event_data (Poll waiter number moment seen state) = Some (poll_data waiter number moment)
event_data (Sleep waiter nanos elapsed word) = sleep_data waiter nanos
event_data (Charged waiter moment) = None
event_data (Refused waiter cost moment) = Some (refusal_data waiter cost)
event_data (End waiter ending) = Some (end_data waiter ending)

-- the lines of the events
unfoldable pub events_text : List FleetEvent → List ℕ
events_text [] = []
events_text (event ∷ events) = line_of (event_data event) ++ events_text events

-- the bucket, whose number is 0, with its sums
unfoldable pub bucket_data : Sums → Data
bucket_data sums = row (string (codes "bucket") ∷ num 0 ∷ sums_data sums ∷ [])

-- the lines of the events, and then the bucket
unfoldable pub fleet_text : List FleetEvent → Sums → List ℕ
fleet_text events sums = events_text events ++ line (bucket_data sums)

-- the waiter found what it waits for
abbrev pub is_ok : FleetEnd → Bool
is_ok end.Ok = true
is_ok end.OperationFailed = false
is_ok end.FailureState = false
is_ok (end.ExceededMaxWait max_wait elapsed poll_count) = false
is_ok (end.NoQuota cost) = false
is_ok end.Unfinished = false

-- no end, or that of a waiter that found what it waits for
abbrev pub is_well : FleetEvent → Bool
is_well (Poll waiter number moment seen state) = true
is_well (Sleep waiter nanos elapsed word) = true
is_well (Charged waiter moment) = true
is_well (Refused waiter cost moment) = true
is_well (End waiter ending) = is_ok ending

-- the status: Ok where this holds, and else WaiterFailed
abbrev pub status_by : Bool → PrintStatus
status_by true = statuses.Ok
status_by false = statuses.WaiterFailed

-- each waiter found what it waits for, or one didn't
abbrev pub came_to : List FleetEvent → PrintStatus
came_to events = status_by (list_all is_well events)
