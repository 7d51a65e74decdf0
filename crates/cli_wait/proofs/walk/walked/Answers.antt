use Rattle.std.proofs.Common.{rules}
use Rattle.cli_wait.specs.declared.scripted_timers.ScriptedTimers.{ScriptedTimers}
use Rattle.cli_wait.specs.Makes.{Makes}
use Rattle.cli_wait.specs.Walk.{Says, Tells}
use Rattle.cli_wait.proofs.Telling.{tells}
use Rattle.waiters.proofs.Weaker.{waits}
use Rattle.cli_wait.proofs.walk.walked.Goals as goal

-- src/walk.rt:11:1
pub returns : goal.returns
returns c = record {
  backoff = c.in-Ok.waiter.backoff;
  min_is = search rules;
  max_is = search rules;
  max_wait_is = search rules;
  waits = waits c.in-Ok.waiter.backoff _ Says Makes (λ (t : ScriptedTimers). t.unready) _ Tells _ _ _ _ (λ seen state h. h.1) tells c.orchestrate.ensures.waits;
}
