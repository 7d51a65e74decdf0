use Rattle.std.proofs.Common.{◌≡◌}
use Rattle.client_retries.proofs.Fronts.{front_changed}
use Rattle.client_retries.proofs.offers.offer_bucket_to_all.Given as goal

-- those before the index were offered it
abbrev pub invariant-loop-one : goal.invariant-loop-one
invariant-loop-one g l = l.chain ≡ front_changed (λ i. g.I.TakeOffer.with_bucket i l.bucket) l.one-index l.fn.chain
