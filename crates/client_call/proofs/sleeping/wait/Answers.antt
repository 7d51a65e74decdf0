use Rattle.std.proofs.Common.{refl, sym, ◌∷◌, [], true, false}
use Rattle.outside.specs.Calls.{OfTimers}
use Rattle.smithy_types.specs.declared.timers.TimersCall.TheVariants.{Ready}
use Rattle.client_call.proofs.sleeping.wait.Goals as goal

pub returns-then-ready : goal.returns-then-ready
returns-then-ready g c = record {
  calls = OfTimers (Ready c.in-Some.sleep true) ∷ [];
  these = rw (sym c.in-Some.ensures) refl;
  made = (_, g.met.X.Outside.timers_make _ _ _ (rw c.if-ready.true at c.ready.ensures.related), refl);
}

pub returns-else-ready : goal.returns-else-ready
returns-else-ready g c = record {
  calls = OfTimers (Ready c.in-Some.sleep false) ∷ [];
  these = rw (sym c.in-Some.ensures) refl;
  made = (_, g.met.X.Outside.timers_make _ _ _ (rw c.if-ready.false at c.ready.ensures.related), refl);
}
