use Rattle.std.proofs.Common.{option_copied}
use Rattle.std.proofs.lemmas.Result.{err_from_is_err_and}
use Rattle.auth_endpoint.proofs.CauseLemmas.{target_refused, headers_refused}
use Rattle.auth_endpoint.proofs.request.apply_endpoint_to_request.Goals as goal

pub returns-in_err-target-clause-refused : goal.returns-in_err-target-clause-refused
returns-in_err-target-clause-refused c =
    let p = err_from_is_err_and c.from_residual.result c.from_residual.ensures.1 in
    rw (p.1, p.2) (target_refused c.args.request.now c.args.endpoint.now (option_copied c.args.prefix) _ c.in_err-target.ensures.err)

pub returns-in_err-headers-clause-refused : goal.returns-in_err-headers-clause-refused
returns-in_err-headers-clause-refused c =
    let p = err_from_is_err_and c.from_residual-in_err-headers.result c.from_residual-in_err-headers.ensures.1 in
    rw (p.1, p.2) (headers_refused c.args.request.now c.args.endpoint.now (option_copied c.args.prefix) c.in_ok-target.target c.as_slice.result.now c.as_slice.ensures c.in_ok-target.ensures.ok _ c.in_err-headers.ensures.err)
