use Rattle.std.proofs.Common.{◌∙◌, arith}
use Rattle.client_retries.proofs.Fronts.{front-stepped, front-all}
use Rattle.client_retries.proofs.offers.offer_bucket_to_all.Goals as goal

pub loop-one-preserved : goal.loop-one-preserved
loop-one-preserved g c =
    front-stepped (λ i. g.I.TakeOffer.with_bucket i c.args.bucket) c.args.chain.now c.loop-one.chain c.loop-one.one-index c.one-item.result c.offer_bucket.new.self
    (omega (arith, c.loop-one-test.true)) c.loop-one.invariant c.offer_bucket.ensures

pub returns : goal.returns
returns g c = c.loop-one.invariant ∙ front-all (λ i. g.I.TakeOffer.with_bucket i c.args.bucket) c.args.chain.now c.loop-one.one-index (omega (arith, c.loop-one-test.false))
