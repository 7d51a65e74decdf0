-- The load of an identity that is open.
use Rattle.std.specs.Prelude.{ℕ, Bool, false, nat_eq, if◌then◌else◌, List, Option, None, Some, is_some, unwrap_or}
use Rattle.std.specs.Cmp.Lexicographic.{pointwise}
use Rattle.outside_hosted.specs.declared.events.HostIdentity.{HostIdentity}
use Rattle.outside_hosted.specs.declared.load.HostLoad.{HostLoad}

-- a load of this scheme that nobody was told of
abbrev pub opened_load : List ℕ → HostLoad
opened_load id = record { id = id; is_told = false; answer = None }

-- with what came of the load of this scheme's identity; what came first stays
abbrev pub with_answer : List ℕ → HostIdentity → Option HostLoad → Option HostLoad
with_answer id come None = None
with_answer id come (Some load) =
    if pointwise nat_eq load.id id
    then Some (record { id = load.id; is_told = load.is_told; answer = Some (unwrap_or load.answer come) })
    else Some load

-- whether something came that wasn't asked for yet
abbrev pub load_has_news : Option HostLoad → Bool
load_has_news None = false
load_has_news (Some load) = is_some load.answer
