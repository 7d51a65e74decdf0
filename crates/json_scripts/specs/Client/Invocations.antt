-- Which invocations a script spells.
use Rattle.std.specs.Prelude.{ℕ, List, Option, Some, codes}
use Rattle.serde_json.specs.Data.{Data}
use Rattle.serde_json.specs.Find.{as_array, get}
use Rattle.json_forms.specs.Lists.{list_of}
use Rattle.json_forms.specs.Plain.{number_at, number_below}
use Rattle.json_forms.specs.Reading.{◌>>=◌}
use Rattle.json_values.specs.Readings.{payload_at}
use Rattle.json_scripts.specs.Stop.{stop_at}
use Rattle.json_scripts.specs.Records.Responses.{records_at}
use Rattle.json_scripts.specs.Client.Members.{members_at}
use Rattle.json_scripts.specs.declared.client.terms.InvocationRecord.{InvocationRecord}

-- the members that say what a client is asked to do
unfoldable pub run_at : ℕ → Data → Option InvocationRecord
run_at client d = get (codes "fuel") d >>= number_at >>= λ f. get (codes "stop") d >>= stop_at >>= λ s.
    get (codes "input") d >>= payload_at >>= λ i. get (codes "responses") d >>= records_at >>= λ rs.
    Some (record { client = client; input = i; fuel = f; stop = s; responses = rs })

-- an invocation of a script with so many clients: five members, each of its form, and a client that there is
unfoldable pub invocation_at : ℕ → Data → Option InvocationRecord
invocation_at clients d = members_at 5 d >>= λ _. get (codes "client") d >>= number_below clients >>= λ c. run_at c d

-- the invocations of a script with so many clients
unfoldable pub invocations_at : ℕ → Data → Option (List InvocationRecord)
invocations_at clients d = as_array d >>= list_of (invocation_at clients)
