use Rattle.std.proofs.Common.{◌++◌, subst}
use Rattle.outside_scripted.specs.Wake.{IsNext}
use Rattle.cli_waiters.specs.Fleet.Waiters.{open_dues}
use Rattle.cli_waiters.proofs.fleet.scripted_fleet.ScriptedFleet.next_due.Goals as goal

-- sleeps, then the polls
pub returns : goal.returns
returns c =
    let old = c.args.self.now in
    subst (λ places. IsNext old.moment (old.sleeps ++ open_dues places) c.sooner_of_all.result) c.as_slice-2.ensures
    (c.sooner_of_all.ensures old.sleeps (subst (λ s. IsNext old.moment s c.earliest-next.result) c.as_slice.ensures c.earliest-next.ensures))
