use Rattle.http_schemes.proofs.HeaderSet.{set_or_refused}
use Rattle.http_schemes.proofs.header.signed_map.Goals as goal

pub returns : goal.returns
returns c =
    set_or_refused c.args.headers.now c.args.name.now c.args.value.now c.in_ok-map.map c.in-Some.name c.in-Some-2.value c.inserted.result
    (rw c.in-Some.is at c.in_ok-name.ensures) (rw c.in-Some-2.is at c.in_ok-value.ensures) c.in_ok-map.ensures c.inserted.ensures
