use Rattle.std.proofs.Common.{◌++◌, ◌∙◌, ap, subst, codes, IfOk}
use Rattle.http_schemes.specs.Signing.{SignsByHeader}
use Rattle.http_schemes.proofs.bearer.BearerAuthSchemeAuthScheme.sign.Goals as goal

pub returns : goal.returns
returns c =
    subst (λ value. IfOk c.sign_by_header.result (SignsByHeader (codes "authorization") value c.args.request))
    (c.as_slice-2.ensures.value ∙ c.in_ok-value.ensures ∙ ap (λ token. codes "Bearer " ++ token) c.as_slice.ensures) c.sign_by_header.ensures
