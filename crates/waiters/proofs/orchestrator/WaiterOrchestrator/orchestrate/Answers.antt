use Rattle.std.proofs.Common.{◌∙◌, refl}
use Rattle.waiters.proofs.Walking.{along-start, along-turn, waits-stopped}
use Rattle.waiters.proofs.orchestrator.WaiterOrchestrator.orchestrate.Goals as goal

pub loop-ending-init : goal.loop-ending-init
loop-ending-init g c =
    along-start c.args.self.backoff (goal.F-post g c.args.self.acceptor) g.T.WaiterTimers.makes (goal.G-post g c.args.self.operation) g.T.Timers.sleeps
    c.args.timers.now c.args.fuel c.now.new.self _ (g.met.T.WaiterTimers.timers_make _ _ _ c.now.ensures.related)
    (c.now.ensures.same_sleeps ∙ c.requires.has_sleep) refl refl refl

pub returns-in-Some : goal.returns-in-Some
returns-in-Some g c = record {
  waits = waits-stopped c.args.self.backoff (goal.F-post g c.args.self.acceptor) g.T.WaiterTimers.makes (goal.G-post g c.args.self.operation) g.T.Timers.sleeps
      c.args.timers.now c.args.fuel g.T.WaiterTimers.unready g.met.T.WaiterTimers.counts c.requires.has_room
      c.loop-ending.timers _ c.loop-ending.progress _ c.in-Some.ending c.loop-ending.invariant
      (c.in-Some.ensures c.loop-ending.invariant.turns c.loop-ending.invariant.stands);
}

pub loop-ending-preserved : goal.loop-ending-preserved
loop-ending-preserved g c =
    along-turn c.args.self.backoff (goal.F-post g c.args.self.acceptor) g.T.WaiterTimers.makes (goal.G-post g c.args.self.operation) g.T.Timers.sleeps
    c.args.timers.now c.args.fuel g.met.T.WaiterTimers.sleeps_stay
    c.loop-ending.timers _ c.loop-ending.progress _ c.loop-ending.invariant
    (c.in_default.ensures c.loop-ending.invariant.turns c.loop-ending.invariant.stands)
