use Rattle.std.proofs.Common.{codes, subst, IfOk}
use Rattle.http_schemes.specs.Signing.{SignsByHeader}
use Rattle.client_scripted.proofs.service.scheme.ServiceSchemeAuthScheme.sign.Goals as goal

pub returns-in-Header : goal.returns-in-Header
returns-in-Header c =
    rw c.in-Header.is (
    subst (λ value. IfOk c.sign_by_header.result (SignsByHeader (codes "authorization") value c.args.request)) c.as_slice-value.ensures c.sign_by_header.ensures
    )
