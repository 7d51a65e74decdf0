use Rattle.std.proofs.Common.{subst}
use Rattle.std.specs.Prelude.{codes}
use Rattle.http_schemes.specs.Signing.{SignsByHeader}
use Rattle.example_bakery_service.proofs.sending.named.Goals as goal

pub returns : goal.returns
returns c = (
  c.in_ok-named.named,
  subst (λ r. SignsByHeader (codes "x-client") (codes "bakery-shop") r c.in_ok-named.named) c.in_ok-clone.ensures.cases c.in_ok-named.ensures,
  c.in_ok-answer.ensures,
)
