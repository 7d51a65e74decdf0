use Rattle.std.proofs.Common.{◌≡◌, ◌∙◌, [], arith, ap, heap_items, subst, sym}
use Rattle.std.specs.Prelude.{MatchOption, option_map}
use Rattle.std.specs.declared.cmp.Reverse.{Reverse}
use Rattle.waiter_fleet.specs.declared.schedule.Due.{Due}
use Rattle.waiter_fleet.specs.Schedules.{Takes, dues_of}
use Rattle.waiter_fleet.proofs.Queues.{queue-next, takes-next}
use Rattle.waiter_fleet.proofs.schedule.Schedule.next.Goals as goal
use Rattle.waiter_fleet.proofs.schedule.Schedule.next.Goals.{in-Some, in-None}

pub invariant_of-self : goal.invariant_of-self
invariant_of-self c =
    queue-next _ _ c.pop.result c.self.invariant c.pop.ensures.permutation c.pop.ensures.heap_order (λ same. same.0) c.pop.ensures.unchanged

pub returns : goal.returns
returns c =
    let given : c.match-pop.result ≡ option_map (λ (one : Reverse Due). one.0) c.pop.result =
    elim c.match-pop.branch [
      | in-Some w ↦ w.result-is ∙ sym (ap (option_map (λ (one : Reverse Due). one.0)) w.in-Some.is)
      | in-None w ↦ w.result-is ∙ sym (ap (option_map (λ (one : Reverse Due). one.0)) w.in-None.is)
    ] in
    subst (λ old. MatchOption c.match-pop.result (old ≡ []) (Takes old (dues_of (heap_items c.pop.new.self)))) c.self.view_is
    (takes-next _ _ c.pop.result c.match-pop.result given c.self.invariant c.pop.ensures.permutation c.pop.ensures.below_top
    (λ none. omega (arith, c.self.inside.dues.data.ok.0, none)) c.pop.ensures.none)
