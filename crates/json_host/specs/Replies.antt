-- What stands in JSON for what a host is told.
use Rattle.std.specs.Prelude.{ℕ, List, [], ◌∷◌, ◌++◌, Option, Some, None, codes, if◌then◌else◌}
use Rattle.serde_json.specs.Data.{Data, string}
use Rattle.json_forms.specs.Lines.{line}
use Rattle.json_forms.specs.Prints.{null_or, num, row}
use Rattle.json_values.specs.SettingForms.{timeouts_data}
use Rattle.json_values.specs.Values.{request_data}
use Rattle.outside_hosted.specs.declared.call.Order.{Order}
use Rattle.outside_hosted.specs.declared.telling.Told.{Told}
use Rattle.outside_hosted.specs.declared.telling.ToldLoad.{ToldLoad}

-- send this: the seat, the call, the request, the deadlines, and the attempt to remember
unfoldable pub begin_data : ℕ → Option ℕ → Order → Data
begin_data seat call order =
    row (string (codes "begin") ∷ num seat ∷ null_or num call ∷ request_data order.request
    ∷ null_or timeouts_data order.timeouts ∷ null_or num order.capture ∷ [])

-- load the identity of this scheme
unfoldable pub load_data : ℕ → List ℕ → Data
load_data seat id = row (string (codes "load") ∷ num seat ∷ string id ∷ [])

-- the connection of this attempt isn't used again
unfoldable pub poison_data : ℕ → ℕ → Data
poison_data seat attempt = row (string (codes "poison") ∷ num seat ∷ num attempt ∷ [])

-- the scheme of a load that is open
abbrev pub open_id : Option ToldLoad → Option (List ℕ)
open_id None = None
open_id (Some load) = Some load.id

-- a scheme, or null
abbrev pub scheme_data : Option (List ℕ) → Data
scheme_data id = null_or string id

-- nothing more can be done: the call and the load that are open, and when to wake at the latest
unfoldable pub park_data : ℕ → Told → Data
park_data seat told =
    row (string (codes "park") ∷ num seat ∷ null_or num told.call ∷ scheme_data (open_id told.load)
    ∷ null_or num told.wake ∷ [])

-- the line of an attempt whose connection isn't used again, where there is one
abbrev pub poison_text : ℕ → Option ℕ → List ℕ
poison_text seat None = []
poison_text seat (Some attempt) = line (poison_data seat attempt)

-- the line of what is to be sent, where that is new
abbrev pub order_text : ℕ → Option ℕ → Option Order → List ℕ
order_text seat call None = []
order_text seat call (Some order) = line (begin_data seat call order)

-- the line of the load, where that is new
abbrev pub load_text : ℕ → Option ToldLoad → List ℕ
load_text seat None = []
load_text seat (Some load) = if load.is_new then line (load_data seat load.id) else []

-- what is new, and then what is open
unfoldable pub told_text : ℕ → Told → List ℕ
told_text seat told =
    poison_text seat told.poisoned ++ order_text seat told.call told.order ++ load_text seat told.load
    ++ line (park_data seat told)

-- why a line is refused
unfoldable pub refused_data : List ℕ → Data
refused_data why = row (string (codes "refused") ∷ string why ∷ [])

-- how many seats there are
unfoldable pub opened_data : ℕ → Data
opened_data seats = row (string (codes "opened") ∷ num seats ∷ [])

-- nothing more is told of the buckets
unfoldable pub end_data : Data
end_data = row (string (codes "end") ∷ [])
