use Rattle.std.proofs.Common.{subst}
use Rattle.outside_scripted.specs.Wake.{IsNext}
use Rattle.cli_wait.proofs.scripted_timers.ScriptedTimers.next_due.Goals as goal

-- sleeps, then the poll
pub returns : goal.returns
returns c =
    let old = c.args.self.now in
    c.sooner_of.ensures old.sleeps (subst (λ s. IsNext old.moment s c.earliest-next.result) c.as_slice.ensures c.earliest-next.ensures)
