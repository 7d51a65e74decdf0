-- Which description JSON spells.
use Rattle.std.specs.Prelude.{◌≡◌, ℕ, ◌^◌, List, length, Option, Some, None, IsUtf8, codes, if◌then◌else◌, Bool, ◌&&◌}
use Rattle.std.specs.List.{list_all}
use Rattle.serde_json.specs.Data.{Data}
use Rattle.serde_json.specs.Find.{as_array, as_str, get}
use Rattle.serde_json.specs.Read.{read}
use Rattle.json_forms.specs.Forms.{blob_at, optional_at}
use Rattle.json_forms.specs.Lists.{list_of}
use Rattle.json_forms.specs.Plain.{number_at, number_below, pair_at, quadruple_at}
use Rattle.json_forms.specs.Reading.{◌>>=◌}
use Rattle.json_scripts.specs.Buckets.{buckets_at}
use Rattle.json_scripts.specs.Client.Clients.{client_at}
use Rattle.json_scripts.specs.Client.Limits.{capacity_fits, client_fits}
use Rattle.json_scripts.specs.Client.Members.{members_at}
use Rattle.json_scripts.specs.declared.client.terms.ClientObject.{ClientObject}
use Rattle.json_values.specs.Readings.{headers_at}
use Rattle.host_session.specs.declared.service.deserializer.ErrorRule.{ErrorRule}
use Rattle.host_session.specs.declared.service.retry_after.RetryAfterClassifier.{RetryAfterClassifier}
use Rattle.cli_serve.specs.declared.description.HostDescription.{HostDescription}
use Rattle.cli_serve.specs.declared.description.SeatDescription.{SeatDescription}

-- the status, the headers and the word of a response, or null for no word, and the name of the error that it is
unfoldable pub rule_at : Data → Option ErrorRule
rule_at d = quadruple_at d >>= λ p. number_below (2 ^ 16) p.0 >>= λ s. headers_at p.1 >>= λ h.
    optional_at blob_at p.2 >>= λ w. blob_at p.3 >>= λ n.
    Some (record { status = s; headers = h; word = w; name = n })

-- some of them, in order
unfoldable pub rules_at : Data → Option (List ErrorRule)
rules_at d = as_array d >>= list_of rule_at

-- the name of a header, and how many nanoseconds the unit of its number has
unfoldable pub retry_after_at : Data → Option RetryAfterClassifier
retry_after_at d = pair_at d >>= λ p. as_str p.0 >>= λ n. number_at p.1 >>= λ u. Some (record { name = n; unit = u })

-- it doesn't hold a response's length to its header
abbrev pub unheld : ClientObject → Option ClientObject
unheld c = if c.rules.flags.enforce then None else Some c

-- such a client of a description with so many buckets
unfoldable pub unheld_at : ℕ → Data → Option ClientObject
unheld_at buckets d = client_at buckets d >>= unheld

-- four members, each of its form: a seat of a description with so many buckets
unfoldable pub seat_at : ℕ → Data → Option SeatDescription
seat_at buckets d = members_at 4 d >>= λ _. get (codes "seed") d >>= number_at >>= λ n.
    get (codes "client") d >>= unheld_at buckets >>= λ c. get (codes "errors") d >>= rules_at >>= λ es.
    get (codes "retry_after") d >>= optional_at retry_after_at >>= λ r.
    Some (record { client = c; errors = es; retry_after = r; seed = n })

-- some of them, in order
unfoldable pub seats_at : ℕ → Data → Option (List SeatDescription)
seats_at buckets d = as_array d >>= list_of (seat_at buckets)

-- three members, each of its form; the clients' buckets are some of those
unfoldable pub description_at : Data → Option HostDescription
description_at d = members_at 3 d >>= λ _. get (codes "start") d >>= number_at >>= λ s.
    get (codes "buckets") d >>= buckets_at >>= λ bs. get (codes "clients") d >>= seats_at (length bs) >>= λ cs.
    Some (record { buckets = bs; start = s; seats = cs })

-- the line is the text of this description
abbrev pub IsDescription : List ℕ → HostDescription → Type 0
IsDescription line d = IsUtf8 line × ((read line >>= description_at) ≡ Some d)

-- its client is within the limits of a script
abbrev pub seat_fits : SeatDescription → Bool
seat_fits seat = client_fits seat.client

-- so are its buckets and its clients
abbrev pub description_fits : HostDescription → Bool
description_fits d = list_all capacity_fits d.buckets && list_all seat_fits d.seats
