use Rattle.std.proofs.Common.{sym, ◌∙◌}
use Rattle.auth_endpoint.proofs.ChoiceLemmas.{none_more, first_found}
use Rattle.auth_endpoint.proofs.choice.choose.Goals as goal

pub returns-in-None-clause-chosen : goal.returns-in-None-clause-chosen
returns-in-None-clause-chosen c =
    rw (sym c.as_slice-options.ensures)
    (first_found _ c.as_slice-options.result.now c.loop-index.index c.index-options-index.result c.loop-index.explored c.loop-index.invariant c.loop-index-test.true c.index-options-index.is (sym c.lack_of.ensures ∙ c.in-None.is))

pub loop-index-preserved : goal.loop-index-preserved
loop-index-preserved c =
    none_more _ c.as_slice-options.result.now c.loop-index.index c.index-options-index.result c.in-Some.lack c.loop-index.explored c.push.new.self c.loop-index.invariant c.loop-index-test.true c.index-options-index.is (sym c.lack_of.ensures ∙ c.in-Some.is) c.in_ok-push-in-Some.ensures.noted
