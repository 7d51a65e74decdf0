use Rattle.std.proofs.Common.{[], subst, sym}
use Rattle.run_grammar.specs.Standing.{start}
use Rattle.orchestrate.specs.declared.invocation.Invocation.{Invocation}
use Rattle.orchestrate.specs.Fresh.{fresh}
use Rattle.orchestrate.specs.Stands.{Stands}
use Rattle.orchestrate.proofs.Standings.{start_stands}
use Rattle.orchestrate.proofs.invocation.Invocation.start.Goals as goal

pub returns-clause-stands : goal.returns-clause-stands
returns-clause-stands c =
    subst (λ d. let x : Invocation = record (fresh c.args.input c.args.stop) { standing = d } in Stands (start c.args.input) [] x) (sym c.in_ok-standing.ensures) (start_stands c.args.input c.args.stop)
