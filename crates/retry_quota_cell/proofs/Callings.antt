-- A step by a caller's pass is a step that its quota tells.
use Rattle.std.proofs.Common.{◌≡◌, ◌∙◌, ap, subst, refl, Some}
use Rattle.retry_quota.specs.Caller.{Makes}
use Rattle.retry_quota.specs.History.{Step, Reply}
use Rattle.retry_quota_cell.specs.Known.{Place, Known, IsOf}
use Rattle.retry_quota_cell.specs.Rule.{Adds}
use Rattle.retry_quota_cell.specs.Callers.{IsOrdered}
use Rattle.retry_quota_cell.specs.Caller.{Caller, IsAlone, caller_part}
use Rattle.retry_quota_cell.proofs.Orders.{own_more, ordered_more, parts_same}

-- o is what the fields of the quota stand for, c what the quota is, d what it is after the step
pub made_told : {L : Type 0} → (p : Place) (o c d : Caller L) (step : Step) (reply : Reply) → o ≡ c → d.limiter ≡ o.limiter → IsOrdered o.pass.view
    → Adds step o.pass.view reply d.pass.view → Makes (caller_part p c) step reply (caller_part p d)
made_told p o c d step reply is limiter ordered a = subst (λ (k : Caller _). Makes (caller_part p k) step reply (caller_part p d)) is (record {
  cost = λ kind. refl;
  reward = refl;
  entries = ap Some (own_more step o.pass.view reply d.pass.view a ordered);
  limiter = limiter;
})

-- a caller's pass is its own after a step
pub alone_more : (place : Place) (p q : Known) (step : Step) (reply : Reply) → IsOf place q → IsAlone place p → Adds step p.view reply q.view → IsAlone place q
alone_more place p q step reply of k a = record {
  own_pass = of;
  one = parts_same step p.view reply q.view a ∙ k.one;
  ordered = ordered_more step p.view reply q.view a k.ordered;
}
