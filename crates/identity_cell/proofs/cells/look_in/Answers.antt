use Rattle.std.proofs.Common.{ap, sym, ◌∙◌}
use Rattle.std.specs.Option.{option_copied_mut}
use Rattle.identity_cell.proofs.LookLemmas.{stays_in, on_err}
use Rattle.identity_cell.proofs.cells.look_in.Goals as goal

pub returns-in_err-look_at-in-Some-clause-err : goal.returns-in_err-look_at-in-Some-clause-err
returns-in_err-look_at-in-Some-clause-err c = on_err c.from_residual.result (stays_in c.args.cells.now.entries _ c.args.id.now c.args.now c.in-Some.cell.now c.look_at.new.cell (ap option_copied_mut (sym c.in-Some.is) ∙ c.get_mut.ensures.value) (c.get_mut.follows.holds c.look_at.new.cell).0 c.in_err-look_at-in-Some.ensures.err)
