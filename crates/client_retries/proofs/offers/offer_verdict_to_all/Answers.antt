use Rattle.std.proofs.Common.{◌∙◌, arith}
use Rattle.client_retries.proofs.Fronts.{front-stepped, front-all}
use Rattle.client_retries.proofs.offers.offer_verdict_to_all.Goals as goal

pub loop-one-preserved : goal.loop-one-preserved
loop-one-preserved g c =
    front-stepped (λ i. g.I.TakeOffer.with_verdict i c.args.verdict) c.args.chain.now c.loop-one.chain c.loop-one.one-index c.one-item.result c.offer_verdict.new.self
    (omega (arith, c.loop-one-test.true)) c.loop-one.invariant c.offer_verdict.ensures

pub returns : goal.returns
returns g c = c.loop-one.invariant ∙ front-all (λ i. g.I.TakeOffer.with_verdict i c.args.verdict) c.args.chain.now c.loop-one.one-index (omega (arith, c.loop-one-test.false))
