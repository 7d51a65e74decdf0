use Rattle.std.proofs.lemmas.Result.{err_from_is_err_and}
use Rattle.auth_endpoint.specs.Endpoint.{with_header, RefusesHeader}
use Rattle.auth_endpoint.proofs.CauseLemmas.{header_cause}
use Rattle.auth_endpoint.proofs.WalkLemmas.{walked_more, walked_refused}
use Rattle.auth_endpoint.proofs.headers.set_headers.Goals as goal

pub returns-in_err-set_header-clause-err : goal.returns-in_err-set_header-clause-err
returns-in_err-set_header-clause-err c =
    let p = err_from_is_err_and c.from_residual-in_err-set_header.result c.from_residual-in_err-set_header.ensures.1 in
    rw (p.1, p.2)
    (header_cause (walked_refused with_header RefusesHeader c.args.headers.now c.loop-header.map c.args.added.now c.loop-header.header-index c.header-item.result c.loop-header.invariant c.loop-header-test.true c.header-item.is) _ c.in_err-set_header.ensures.err)

pub loop-header-preserved : goal.loop-header-preserved
loop-header-preserved c =
    walked_more with_header RefusesHeader c.args.headers.now c.loop-header.map c.set_header.new.map c.args.added.now c.loop-header.header-index c.header-item.result c.loop-header.invariant c.loop-header-test.true c.header-item.is
    c.in_ok-set_header.ensures.ok.0 c.in_ok-set_header.ensures.ok.1
