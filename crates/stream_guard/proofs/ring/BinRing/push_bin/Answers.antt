use Rattle.std.proofs.Common.{◌≡◌, ◌∙◌, ◌+◌, ◌%◌, ap, drop, length, ◌++◌, ◌∷◌, [], sym}
use Rattle.stream_guard.proofs.RingLemmas.{pushed_one, ten_in_order, turned}
use Rattle.stream_guard.specs.Bin.{no_polling}
use Rattle.stream_guard.specs.Ring.{in_order}
use Rattle.stream_guard.proofs.ring.BinRing.push_bin.Goals as goal

pub returns-clause-pushed : goal.returns-clause-pushed
returns-clause-pushed g c =
    ap (λ s. in_order ((c.self.inside.head + 1) % 10) s) c.put.ensures.slots
    ∙ turned c.self.inside.slots c.self.inside.head no_polling c.self.invariant.1.ten c.self.invariant.0
    ∙ ap (λ v. drop 1 v ++ no_polling ∷ []) c.self.view_is

pub returns-clause-moved : goal.returns-clause-moved
returns-clause-moved g c =
    let ten : length c.args.self.now ≡ 10 = sym (ap length c.self.view_is) ∙ ten_in_order c.self.inside.head c.self.inside.slots c.self.invariant.1.ten c.self.invariant.0 in
    pushed_one c.args.self.now _ ten (returns-clause-pushed g c)
