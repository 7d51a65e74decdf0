use Rattle.std.proofs.Common.{Some, arith, sym, subst, ◌∙◌}
use Rattle.orchestrate.specs.Answered.{Stopped}
use Rattle.orchestrate.specs.Stands.{Ran}
use Rattle.orchestrate.proofs.Ending.{stopped_at_end}
use Rattle.orchestrate.proofs.Running.{progress_lost, ran_unfinished, ran_whole}
use Rattle.orchestrate.proofs.invocation.Invocation.finish_stopped.Goals as goal

pub returns-then-self : goal.returns-then-self
returns-then-self c = λ p stop before log calls q. progress_lost p stop calls c.args.self before log calls (omega arith) q

pub returns-in-Some : goal.returns-in-Some
returns-in-Some c = λ p stop before log calls q. ran_unfinished p stop calls c.args.self c.in-Some.field-0 before log (sym c.point.ensures ∙ c.in-Some.is) q

pub returns-in-None : goal.returns-in-None
returns-in-None c = λ p stop before log calls q.
    stopped_at_end p stop calls c.into_standing.result c.stopped.result before log
    (subst (λ d. Ran p stop calls (Some d) before log) (sym c.into_standing.ensures) (ran_whole p stop calls c.args.self before log (sym c.point.ensures ∙ c.in-None.is) q))
    (subst (λ x. Stopped x c.stopped.result) c.into_context.ensures c.stopped.ensures)
