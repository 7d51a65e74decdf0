-- Which client script a text is.
use Rattle.std.specs.Prelude.{ℕ, ◌≡◌, List, Option, Some, codes, length, IsUtf8}
use Rattle.serde_json.specs.Data.{Data}
use Rattle.serde_json.specs.Find.{get}
use Rattle.serde_json.specs.Read.{read}
use Rattle.json_forms.specs.Plain.{number_at}
use Rattle.json_forms.specs.Reading.{◌>>=◌}
use Rattle.json_scripts.specs.Words.{words_at}
use Rattle.json_scripts.specs.Buckets.{buckets_at}
use Rattle.json_scripts.specs.Client.Clients.{clients_at}
use Rattle.json_scripts.specs.Client.Invocations.{invocations_at}
use Rattle.json_scripts.specs.Client.Members.{members_at}
use Rattle.json_scripts.specs.declared.client.script.ClientScript.{ClientScript}

-- five members, each of its form
unfoldable pub client_script_at : Data → Option ClientScript
client_script_at d = members_at 5 d >>= λ _. get (codes "start") d >>= number_at >>= λ s.
    get (codes "buckets") d >>= buckets_at >>= λ bs. get (codes "words") d >>= words_at >>= λ ws.
    get (codes "clients") d >>= clients_at (length bs) >>= λ cs.
    get (codes "invocations") d >>= invocations_at (length cs) >>= λ is.
    Some (record { buckets = bs; start = s; words = ws; clients = cs; invocations = is })

-- The bytes are the text of this script.
abbrev pub IsClientScript : List ℕ → ClientScript → Type 0
IsClientScript bytes s = IsUtf8 bytes × ((read bytes >>= client_script_at) ≡ Some s)
