-- Which fleet script a text is.
use Rattle.std.specs.Prelude.{ℕ, ◌≡◌, List, Option, Some, codes, IsUtf8}
use Rattle.serde_json.specs.Data.{Data}
use Rattle.serde_json.specs.Find.{get}
use Rattle.serde_json.specs.Read.{read}
use Rattle.json_forms.specs.Plain.{number_at}
use Rattle.json_forms.specs.Reading.{◌>>=◌}
use Rattle.json_scripts.specs.Words.{words_at}
use Rattle.json_scripts.specs.Buckets.{bucket_terms_at}
use Rattle.json_scripts.specs.Client.Members.{members_at}
use Rattle.json_scripts.specs.Fleet.Callers.{callers_at}
use Rattle.json_scripts.specs.declared.fleet.terms.FleetScript.{FleetScript}

-- four members, each of its form
unfoldable pub fleet_script_at : Data → Option FleetScript
fleet_script_at d = members_at 4 d >>= λ _. get (codes "bucket") d >>= bucket_terms_at >>= λ b.
    get (codes "start") d >>= number_at >>= λ s. get (codes "words") d >>= words_at >>= λ ws.
    get (codes "callers") d >>= callers_at >>= λ cs. Some (record { bucket = b; start = s; words = ws; callers = cs })

-- The bytes are the text of this script.
abbrev pub IsFleetScript : List ℕ → FleetScript → Type 0
IsFleetScript bytes s = IsUtf8 bytes × ((read bytes >>= fleet_script_at) ≡ Some s)
