use Rattle.std.proofs.Common.{subst}
use Rattle.cli_client.specs.Marked.{IsMarked}
use Rattle.cli_client.proofs.moments.print_script.Goals as goal

pub returns : goal.returns
returns c = (c.in_ok-played.played.text.items, c.in_ok-played.ensures, subst (λ p. IsMarked p c.in_ok-text.text.items) c.as_slice.ensures.value c.in_ok-text.ensures)
