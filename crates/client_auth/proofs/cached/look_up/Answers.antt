use Rattle.std.proofs.Common.{refl, [], ◌∷◌, Ok}
use Rattle.identity_cell.specs.LazyCache.{timeout_by}
use Rattle.outside.specs.Calls.{OfTimers}
use Rattle.smithy_types.specs.declared.timers.TimersCall.TheVariants.{Start}
use Rattle.smithy_types.proofs.ChainLemmas.{chained_join}
use Rattle.client_auth.proofs.Lacking.{called}
use Rattle.client_auth.proofs.cached.look_up.Goals as goal

pub returns-clause-ok : goal.returns-clause-ok
returns-clause-ok g c =
    let begun = c.in_ok-begin_load-in-Load.ensures.ok in (
      _,
      chained_join g.X.Outside.makes _ _ _ _ _ c.present-moment.ensures.calls begun.3,
      record {
        moment = c.present-moment.result;
        known = c.present-moment.ensures.known;
        sleeping = OfTimers (Start (timeout_by c.look.new.self.terms c.args.settings.now) (Ok begun.0)) ∷ [];
        looks = rw begun.1 (
          c.in-Load.ticket,
          begun.0,
          rw (c.in-Load.is, c.new-scheme.ensures, c.in_ok-clone.ensures.cases, c.unwrap_or-now.ensures) at c.in_ok-identity.ensures.answer,
          rw (c.new-scheme.ensures, c.in_ok-clone.ensures.cases, c.unwrap_or-now.ensures) at c.in_ok-identity.ensures.event,
          rw (c.in_ok-kept.ensures.cases, c.new-scheme.ensures, c.in_ok-clone.ensures.cases, c.unwrap_or-now.ensures) at begun.2,
          refl,
        );
        calls_are = refl;
      },
    )

pub returns-in_err-begin_load-in-Load-clause-err : goal.returns-in_err-begin_load-in-Load-clause-err
returns-in_err-begin_load-in-Load-clause-err g c =
    called g.X.Outside.makes _ _ _ _ (chained_join g.X.Outside.makes _ _ _ _ _ c.present-moment.ensures.calls c.in_err-begin_load-in-Load.ensures.err.1)
