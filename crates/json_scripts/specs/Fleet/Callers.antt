-- Which callers a script spells.
use Rattle.std.specs.Prelude.{List, [], ◌∷◌, Option, Some, None, codes}
use Rattle.serde_json.specs.Data.{Data}
use Rattle.serde_json.specs.Find.{as_array, get}
use Rattle.json_forms.specs.Lists.{list_of}
use Rattle.json_forms.specs.Reading.{◌>>=◌}
use Rattle.json_scripts.specs.Client.Clients.{client_at}
use Rattle.json_scripts.specs.Client.Invocations.{run_at}
use Rattle.json_scripts.specs.Client.Members.{members_at}
use Rattle.json_scripts.specs.declared.client.terms.InvocationRecord.{InvocationRecord}
use Rattle.json_scripts.specs.declared.fleet.terms.CallerRecord.{CallerRecord}

-- an invocation of a caller: four members, each of its form, and no client among them, since the caller has one alone
unfoldable pub caller_run_at : Data → Option InvocationRecord
caller_run_at d = members_at 4 d >>= λ _. run_at 0 d

-- the invocations of a caller
unfoldable pub caller_runs_at : Data → Option (List InvocationRecord)
caller_runs_at d = as_array d >>= list_of caller_run_at

-- a client of a script with one bucket, and what is invoked through it
unfoldable pub caller_at : Data → Option CallerRecord
caller_at d = members_at 2 d >>= λ _. get (codes "invocations") d >>= caller_runs_at >>= λ is.
    get (codes "client") d >>= client_at 1 >>= λ c. Some (record { client = c; invocations = is })

-- at least one caller
abbrev pub some_of : List CallerRecord → Option (List CallerRecord)
some_of [] = None
some_of (caller ∷ callers) = Some (caller ∷ callers)

-- the callers of a script, of which there is one at least
unfoldable pub callers_at : Data → Option (List CallerRecord)
callers_at d = as_array d >>= list_of caller_at >>= some_of
