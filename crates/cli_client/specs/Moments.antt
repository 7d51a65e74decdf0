-- What `client --moments` says of its input.
use Rattle.std.specs.Prelude.{ℕ, List}
use Rattle.json_scripts.specs.declared.client.script.ClientScript.{ClientScript}
use Rattle.cli_shell.specs.Said.{Said}
use Rattle.cli_shell.specs.Scripts.{ScriptMeaning, bytes_say}
use Rattle.cli_shell.specs.declared.status.PrintStatus.{PrintStatus}
use Rattle.cli_client.specs.Client.{IsClientRun, client_means}
use Rattle.cli_client.specs.Marked.{IsMarked}

-- what `client` prints of a script, with lines that tell moments
abbrev pub IsMarkedRun : ClientScript → List ℕ → PrintStatus → Type 0
IsMarkedRun script text outcome = (print : List ℕ) × IsClientRun script print outcome × IsMarked print text

-- the scripts are those of `client`
abbrev pub moments_means : ScriptMeaning ClientScript
moments_means = record client_means { is_print = IsMarkedRun }

-- The bytes are a script, of which this is its print with moments or which is past its limits; or they are none.
abbrev pub moments_says : List ℕ → Said → Type 0
moments_says = bytes_say moments_means
