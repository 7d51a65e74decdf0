use Rattle.std.proofs.Common.{refl, ap, inl, inr, append_assoc, false, true}
use Rattle.run_grammar.specs.declared.answer.Answer.TheVariants as answers
use Rattle.smithy_types.proofs.ChainLemmas.{chained_join}
use Rattle.client_auth.specs.Caching.{asking_sleep, giving_up}
use Rattle.client_auth.specs.Choosing.{ending_load}
use Rattle.client_auth.proofs.CacheCalls.{asks_sleep, waits_over, waits_timed}
use Rattle.client_auth.proofs.Lacking.{called}
use Rattle.client_auth.proofs.cached.wait.Goals as goal

pub returns-in-None-clause-ok : goal.returns-in-None-clause-ok
returns-in-None-clause-ok g c =
    let asked = rw c.in-None.is at c.in_ok-wait.ensures.asked in
    let same = rw c.in-None.is at c.in_ok-wait.ensures.ok in
    rw c.in-Some.is (
      asking_sleep c.in-Some.waiting.sleep false,
      asks_sleep g.X.Timers.relates g.X.Outside.makes g.met.X.Outside.timers_make c.in-Some.waiting.sleep false _ _ asked,
      inl (refl, same, refl, refl, refl),
    )

pub returns-in-Some-2-clause-ok : goal.returns-in-Some-2-clause-ok
returns-in-Some-2-clause-ok g c =
    let asked = rw c.in-Some-2.is at c.in_ok-wait.ensures.asked in (
      _,
      chained_join g.X.Outside.makes _ _ _ _ _ (waits_over g.X.Timers.relates g.X.Outside.makes g.met.X.Outside.timers_make c.in-Some.waiting.sleep _ _ asked) c.end_load.ensures.calls,
      inr (record {
        waiting = c.in-Some.waiting;
        is_open = c.in-Some.is;
        has_sleep = waits_timed g.X.Timers.relates g.X.Outside.makes g.met.X.Outside.timers_make c.in-Some.waiting.sleep _ _ asked;
        answer_is = ap answers.Failed (rw c.in-Some-2.is at c.in_ok-wait.ensures.reason);
        cell = rw c.in-Some-2.is at c.in_ok-wait.ensures.ok;
        none_open = refl;
        dropped = c.end_load.ensures.load;
        calls_are = append_assoc _ (giving_up c.in-Some.waiting.sleep) (ending_load c.args.load.now);
      }),
    )

pub returns-in_err-wait-clause-err : goal.returns-in_err-wait-clause-err
returns-in_err-wait-clause-err g c =
    called g.X.Outside.makes _ _ _ _ (asks_sleep g.X.Timers.relates g.X.Outside.makes g.met.X.Outside.timers_make _ true _ _ c.in_err-wait.ensures.asked_err)
