-- What an ask says of its answer is what is told of it.
use Rattle.std.proofs.Common.{ℕ, Some, None, Ok, Err}
use Rattle.std.specs.Prelude.{IfOk, IfSome}
use Rattle.std.specs.Borrow.{MutBor}
use Rattle.cli_wait.specs.declared.polls.PolledValue.{PolledValue}
use Rattle.cli_wait.specs.declared.scripted_timers.ScriptedTimers.{ScriptedTimers}
use Rattle.cli_wait.specs.Makes.{Makes}
use Rattle.cli_wait.specs.Polls.{Answers, poll_at}
use Rattle.waiters.specs.Calls.{Answer, poll_answer}
use Rattle.waiters.specs.declared.timers.WaiterCall.TheVariants.{Poll}
use Rattle.cli_wait.specs.Walk.{Tells}

pub tells : (b : MutBor ScriptedTimers) (n : ℕ) (a : Answer PolledValue PolledValue) (c : MutBor ScriptedTimers) →
    Makes b.now (Poll n (poll_answer a)) c.now × IfOk a (λ found. IfSome found (Answers (poll_at b.now.polls n))) → Tells b n a c
tells b n (Ok (Some answer)) c h = h.1
tells b n (Ok None) c h = tt
tells b n (Err error) c h = tt
