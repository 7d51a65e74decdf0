use Rattle.std.proofs.Common.{subst, string_bytes}
use Rattle.http_uri.specs.Uri.{Spells}
use Rattle.http_schemes.proofs.TargetLemmas.{target_signed}
use Rattle.http_schemes.proofs.query.signed_target.Goals as goal

pub returns : goal.returns
returns c =
    target_signed c.args.name.now c.args.key.now c.args.target.now c.in-Some.uri (string_bytes c.in_ok-text.text) c.checked.result
    (subst (λ t. Spells t c.in-Some.uri) c.as_str.ensures (rw c.in-Some.is at c.in_ok-uri.ensures)) c.in_ok-text.ensures c.checked.ensures
