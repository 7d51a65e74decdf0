use Rattle.std.proofs.Common.{◌++◌, option_to_list, subst}
use Rattle.outside_scripted.specs.Call.{call_due}
use Rattle.outside_scripted.specs.Wake.{IsNext}
use Rattle.outside_scripted.proofs.scripted_outside.ScriptedOutside.next_due.Goals as goal

-- sleeps, then the call, then the load
pub returns : goal.returns
returns c =
    let old = c.args.self.now in
    let sleeps = subst (λ s. IsNext old.moment s c.earliest-next.result) c.as_slice.ensures c.earliest-next.ensures in
    let call = subst (λ d. IsNext old.moment (old.sleeps ++ option_to_list d) c.sooner_of-next.result) c.due.ensures (c.sooner_of-next.ensures old.sleeps sleeps) in
    subst (λ d. IsNext old.moment (old.sleeps ++ option_to_list (call_due old.call) ++ option_to_list d) c.sooner_of.result) c.due_at.ensures
    (c.sooner_of.ensures (old.sleeps ++ option_to_list (call_due old.call)) call)
