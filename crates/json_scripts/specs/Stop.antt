-- Which stop point a script names.
use Rattle.std.specs.Prelude.{Option}
use Rattle.serde_json.specs.Data.{Data}
use Rattle.serde_json.specs.Find.{as_str}
use Rattle.json_forms.specs.Forms.{named}
use Rattle.json_forms.specs.Reading.{◌>>=◌}
use Rattle.smithy_types.specs.declared.kinds.StopPoint.{StopPoint}
use Rattle.json_values.specs.Names.{stop_text, stop_points}

-- the stop point of which this is the name
unfoldable pub stop_at : Data → Option StopPoint
stop_at d = as_str d >>= named stop_text stop_points
