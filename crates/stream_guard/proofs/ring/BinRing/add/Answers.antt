use Rattle.std.proofs.Common.{◌∙◌, ap}
use Rattle.stream_guard.proofs.RingLemmas.{last_is, last_place, last_replaced, others_stay, ten_in_order}
use Rattle.stream_guard.specs.Bin.{back, merged}
use Rattle.stream_guard.specs.Ring.{in_order}
use Rattle.stream_guard.proofs.ring.BinRing.add.Goals as goal

pub returns-clause-last : goal.returns-clause-last
returns-clause-last c =
    let slots = c.self.inside.slots in let head = c.self.inside.head in let ring = c.self.invariant.1 in
    last_is (in_order head slots) _ c.merged-bin.result (ten_in_order head slots ring.ten c.self.invariant.0)
    (ap (λ s. in_order head s) c.put.ensures.slots ∙ last_replaced slots head c.merged-bin.result ring.ten c.self.invariant.0)
    ∙ c.merged-bin.ensures ∙ ap (λ b. merged b c.args.event) (last_place slots head ring.ten c.self.invariant.0)
    ∙ ap (λ v. merged (back 0 v) c.args.event) c.self.view_is

pub returns-clause-others : goal.returns-clause-others
returns-clause-others c k some small =
    let slots = c.self.inside.slots in let head = c.self.inside.head in let ring = c.self.invariant.1 in
    others_stay (in_order head slots) _ c.merged-bin.result (ten_in_order head slots ring.ten c.self.invariant.0)
    (ap (λ s. in_order head s) c.put.ensures.slots ∙ last_replaced slots head c.merged-bin.result ring.ten c.self.invariant.0) k some small
    ∙ ap (back k) c.self.view_is
