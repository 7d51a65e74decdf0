use Rattle.std.proofs.lemmas.Result.{err_from_is_err_and}
use Rattle.auth_endpoint.specs.Endpoint.{with_value, RefusesValue}
use Rattle.auth_endpoint.proofs.CauseLemmas.{header_cause}
use Rattle.auth_endpoint.proofs.WalkLemmas.{walked_more, walked_refused}
use Rattle.auth_endpoint.proofs.headers.append_values.Goals as goal

pub returns-in_err-append_value-clause-err : goal.returns-in_err-append_value-clause-err
returns-in_err-append_value-clause-err c =
    let p = err_from_is_err_and c.from_residual.result c.from_residual.ensures.1 in
    rw (p.1, p.2)
    (header_cause (walked_refused (with_value c.args.name.now) (RefusesValue c.args.name.now) c.args.map.now c.loop-value.map c.args.values.now c.loop-value.value-index c.value-item.result c.loop-value.invariant c.loop-value-test.true c.value-item.is) _ c.in_err-append_value.ensures.err)

pub loop-value-preserved : goal.loop-value-preserved
loop-value-preserved c =
    walked_more (with_value c.args.name.now) (RefusesValue c.args.name.now) c.args.map.now c.loop-value.map c.append_value.new.map c.args.values.now c.loop-value.value-index c.value-item.result c.loop-value.invariant c.loop-value-test.true c.value-item.is
    c.in_ok-append_value.ensures.ok.0 c.in_ok-append_value.ensures.ok.1
