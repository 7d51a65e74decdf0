-- Which words a script spells.
use Rattle.std.specs.Prelude.{ℕ, List, Option}
use Rattle.serde_json.specs.Data.{Data}
use Rattle.serde_json.specs.Find.{as_array}
use Rattle.json_forms.specs.Lists.{list_of}
use Rattle.json_forms.specs.Plain.{number_at}
use Rattle.json_forms.specs.Reading.{◌>>=◌}

-- the random words of a script
unfoldable pub words_at : Data → Option (List ℕ)
words_at d = as_array d >>= list_of number_at
