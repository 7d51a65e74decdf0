-- Which message JSON spells.
use Rattle.std.specs.Prelude.{◌≡◌, ℕ, List, Option, Some, None, IsUtf8, codes, if◌then◌else◌}
use Rattle.serde_json.specs.Data.{Data, Items, item, no_items}
use Rattle.serde_json.specs.Find.{as_array, as_bool, as_str}
use Rattle.serde_json.specs.Read.{read}
use Rattle.json_forms.specs.Forms.{named, starts}
use Rattle.json_forms.specs.Plain.{number_at, quadruple_at, septuple_at, triple_at}
use Rattle.json_forms.specs.Reading.{◌>>=◌}
use Rattle.smithy_types.specs.declared.kinds.StopPoint.{StopPoint}
use Rattle.json_values.specs.Names.{stop_text, stop_points}
use Rattle.json_values.specs.Readings.{payload_at}
use Rattle.json_host.specs.declared.message.HostMessage.{HostMessage}
use Rattle.json_host.specs.declared.message.HostMessage.TheVariants as message
use Rattle.json_host.specs.declared.message.SeatMessage.TheVariants as seat_message
use Rattle.json_host.specs.Events.{events_at}

-- the stop point of which this is the name
unfoldable pub stop_at : Data → Option StopPoint
stop_at d = as_str d >>= named stop_text stop_points

-- the seat, the moment, the input, the fuel, the stop point, and whether the log is told
unfoldable pub invoke_at : Data → Option HostMessage
invoke_at d = septuple_at d >>= λ p. number_at p.1 >>= λ s. number_at p.2 >>= λ m. number_at p.4 >>= λ f.
    stop_at p.5 >>= λ o. as_bool p.6 >>= λ l. payload_at p.3 >>= λ i.
    Some (message.Seat s (seat_message.Invoke (record { moment = m; input = i; fuel = f; stop = o; is_logged = l })))

-- the seat, the moment, and what came
unfoldable pub moment_at : Data → Option HostMessage
moment_at d = quadruple_at d >>= λ p. number_at p.1 >>= λ s. number_at p.2 >>= λ m. events_at p.3 >>= λ es.
    Some (message.Seat s (seat_message.At m es))

-- the seat and the moment
unfoldable pub give_up_at : Data → Option HostMessage
give_up_at d = triple_at d >>= λ p. number_at p.1 >>= λ s. number_at p.2 >>= λ m.
    Some (message.Seat s (seat_message.GiveUp m))

-- one item alone
unfoldable pub only_item : Items → Option (Unit {0})
only_item (item d no_items) = Some tt
only_item _ = None

-- this message, where nothing stands beside its word
unfoldable pub alone_at : HostMessage → Data → Option HostMessage
alone_at m d = as_array d >>= only_item >>= λ _. Some m

-- an array that begins with one of three words, and a seat's number behind it
unfoldable pub seat_message_at : Data → Option HostMessage
seat_message_at d = if starts (codes "at") d then moment_at d
    else (if starts (codes "invoke") d then invoke_at d
    else (if starts (codes "give_up") d then give_up_at d else None))

-- an array that begins with one of five words
unfoldable pub message_at : Data → Option HostMessage
message_at d = if starts (codes "sums") d then alone_at message.Sums d
    else (if starts (codes "close") d then alone_at message.Close d else seat_message_at d)

-- the line is the text of this message
abbrev pub IsMessage : List ℕ → HostMessage → Type 0
IsMessage line m = IsUtf8 line × ((read line >>= message_at) ≡ Some m)
