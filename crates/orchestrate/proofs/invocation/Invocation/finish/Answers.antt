use Rattle.std.proofs.Common.{Some, arith, sym, subst, ◌∙◌}
use Rattle.smithy_types.specs.declared.kinds.StopPoint.TheVariants as stops
use Rattle.orchestrate.specs.Answered.{Answers}
use Rattle.orchestrate.specs.Stands.{Ran}
use Rattle.orchestrate.proofs.Ending.{answered_at_end}
use Rattle.orchestrate.proofs.Running.{progress_lost, ran_unfinished, ran_whole}
use Rattle.orchestrate.proofs.invocation.Invocation.finish.Goals as goal

pub returns-then-self : goal.returns-then-self
returns-then-self c = λ p before log calls q. progress_lost p stops.None calls c.args.self before log calls (omega arith) q

pub returns-in-Some : goal.returns-in-Some
returns-in-Some c = λ p before log calls q. ran_unfinished p stops.None calls c.args.self c.in-Some.field-0 before log (sym c.point.ensures ∙ c.in-Some.is) q

pub returns-in-None : goal.returns-in-None
returns-in-None c = λ p before log calls q.
    answered_at_end p calls c.into_standing.result c.outcome.result before log
    (subst (λ d. Ran p stops.None calls (Some d) before log) (sym c.into_standing.ensures) (ran_whole p stops.None calls c.args.self before log (sym c.point.ensures ∙ c.in-None.is) q))
    (subst (λ x. Answers x c.outcome.result) c.into_context.ensures c.outcome.ensures)
