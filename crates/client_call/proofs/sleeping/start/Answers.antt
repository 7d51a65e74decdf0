use Rattle.std.proofs.Common.{refl, ◌∙◌, ap, ◌++◌, ◌∷◌, [], Ok}
use Rattle.smithy_types.proofs.ChainLemmas.{chained_more}
use Rattle.smithy_types.specs.declared.timers.TimersCall.TheVariants.{Start}
use Rattle.outside.specs.Calls.{OfTimers}
use Rattle.client_call.specs.Sleeping.{giving_up, sleep_of, with_sleep}
use Rattle.client_call.proofs.Called.{err_by}
use Rattle.client_call.proofs.SleepLemmas.{last_sleep_stands}
use Rattle.client_call.proofs.sleeping.start.Goals as goal

pub returns-clause-ok : goal.returns-clause-ok
returns-clause-ok g c = record {
  calls = giving_up (sleep_of c.args.role c.args.sleeps.now) ++ OfTimers (Start c.unwrap_or.result (Ok c.in_ok-sleep.sleep)) ∷ [];
  these = (c.if-not-has_sleep.false, (c.in_ok-sleep.sleep, c.put.ensures ∙ ap (with_sleep c.args.role c.in_ok-sleep.sleep) c.end_role.ensures.sleeps ∙ last_sleep_stands c.args.role _ _ _, rw c.unwrap_or.ensures refl));
  made = chained_more g.X.Outside.makes _ _ _ _ _ c.end_role.ensures.calls (g.met.X.Outside.timers_make _ _ _ c.in_ok-sleep.ensures.related);
}

pub returns-in_err-sleep-clause-err : goal.returns-in_err-sleep-clause-err
returns-in_err-sleep-clause-err g c = err_by g.X.Outside.makes _ _ _ _ (chained_more g.X.Outside.makes _ _ _ _ _ c.end_role.ensures.calls (g.met.X.Outside.timers_make _ _ _ c.in_err-sleep.ensures.related))
