use Rattle.cli_wait.proofs.Results.{each_ok}
use Rattle.cli_wait.proofs.command.ending_by.Goals as goal

pub returns : goal.returns
returns c = each_ok c.of.result (λ e h. record { answered = c.walked-waited.result; walks = c.walked-waited.ensures; ends = h }) c.of.ensures
