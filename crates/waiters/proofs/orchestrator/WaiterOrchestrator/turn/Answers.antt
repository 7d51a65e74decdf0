use Rattle.std.proofs.Common.{inl, inr, ◌∙◌, ap, refl}
use Rattle.waiters.specs.declared.progress.Progress.{Progress}
use Rattle.waiters.specs.Walk.{Poll}
use Rattle.waiters.proofs.Turning.{goes_on-paused, sleeps-handed, spends-poll, stops-asking, stops-by, stops-exceeded, stops-pausing}
use Rattle.waiters.proofs.orchestrator.WaiterOrchestrator.turn.Goals as goal
use Rattle.waiters.proofs.orchestrator.WaiterOrchestrator.turn.Goals.{then-progress-via-then-progress, then-progress-via-else-progress+then-elapsed-self}

pub returns-in-Err : goal.returns-in-Err
returns-in-Err g c before stands =
    stops-asking c.args.self.now.backoff (goal.F-post g c.args.self.now.acceptor) g.T.WaiterTimers.makes (goal.G-post g c.args.self.now.operation)
    before c.args.progress.now _ stands _ c.args.timers.now _ c.in-Err.stop _ c.into_error.ensures c.in-Err.ensures.calls.0 c.in-Err.ensures.calls.1 c.in-Err.ensures.all_spent

pub returns-in-Some : goal.returns-in-Some
returns-in-Some g c before stands =
    stops-by c.args.self.now.backoff (goal.F-post g c.args.self.now.acceptor) g.T.WaiterTimers.makes (goal.G-post g c.args.self.now.operation)
    before c.args.progress.now _ stands _ c.args.timers.now _
    (record { pending = c.in-Ok.ensures.calls.0; result = c.in-Ok.polled; state = c.state_of-state.result; moment = c.now.result })
    c.in-Some.ending c.state_of-state.ensures c.in-Some.ensures
    (spends-poll c.args.self.now.backoff (goal.F-post g c.args.self.now.acceptor) g.T.WaiterTimers.makes (goal.G-post g c.args.self.now.operation) c.args.progress.now.number c.in-Ok.ensures.calls.0 c.now.result c.in-Ok.polled c.state_of-state.result c.in-Ok.ensures.calls.1 (g.met.T.WaiterTimers.timers_make _ _ _ c.now.ensures.related))

pub returns-then-progress : goal.returns-then-progress
returns-then-progress g c before stands =
    let poll : Poll g.row.O.Denot g.row.E.Denot = record { pending = c.in-Ok.ensures.calls.0; result = c.in-Ok.polled; state = c.state_of-state.result; moment = c.now.result } in
    let asked = spends-poll c.args.self.now.backoff (goal.F-post g c.args.self.now.acceptor) g.T.WaiterTimers.makes (goal.G-post g c.args.self.now.operation) c.args.progress.now.number c.in-Ok.ensures.calls.0 c.now.result c.in-Ok.polled c.state_of-state.result c.in-Ok.ensures.calls.1 (g.met.T.WaiterTimers.timers_make _ _ _ c.now.ensures.related) in
    elim c.then-progress.branch [
      | then-progress-via-then-progress w ↦
          stops-exceeded c.args.self.now.backoff (goal.F-post g c.args.self.now.acceptor) g.T.WaiterTimers.makes (goal.G-post g c.args.self.now.operation)
          before c.args.progress.now c.then-progress.progress stands c.args.timers.now c.args.timers.now c.now.new.self poll _ _ _
          (ap (λ (p : Progress). p.number) w.progress-is) c.saturating_sub-elapsed.ensures (ap (λ (p : Progress). p.fuel) w.progress-is)
          c.state_of-state.ensures c.in_default.ensures (inl w.if-progress.true) asked
      | then-progress-via-else-progress+then-elapsed-self w ↦
          stops-exceeded c.args.self.now.backoff (goal.F-post g c.args.self.now.acceptor) g.T.WaiterTimers.makes (goal.G-post g c.args.self.now.operation)
          before c.args.progress.now c.then-progress.progress stands c.args.timers.now c.args.timers.now c.now.new.self poll _ _ _
          (ap (λ (p : Progress). p.number) w.progress-is) c.saturating_sub-elapsed.ensures (ap (λ (p : Progress). p.fuel) w.progress-is)
          c.state_of-state.ensures c.in_default.ensures (inr w.if-elapsed-self.true) asked
    ]

pub paused-requires : goal.paused-requires
paused-requires g c =
    g.met.T.WaiterTimers.sleeps_stay _ _ _ c.word-word.ensures ∙ (c.now.ensures.same_sleeps
    ∙ (sleeps-handed c.args.self.now.backoff (goal.F-post g c.args.self.now.acceptor) g.T.WaiterTimers.makes (goal.G-post g c.args.self.now.operation) g.T.Timers.sleeps g.met.T.WaiterTimers.sleeps_stay _ _ _ c.in-Ok.ensures.calls.1.handed ∙ c.requires.has_sleep))

pub returns-in-Err-paused : goal.returns-in-Err-paused
returns-in-Err-paused g c before stands =
    let poll : Poll g.row.O.Denot g.row.E.Denot = record { pending = c.in-Ok.ensures.calls.0; result = c.in-Ok.polled; state = c.state_of-state.result; moment = c.now.result } in
    let asked = spends-poll c.args.self.now.backoff (goal.F-post g c.args.self.now.acceptor) g.T.WaiterTimers.makes (goal.G-post g c.args.self.now.operation) c.args.progress.now.number c.in-Ok.ensures.calls.0 c.now.result c.in-Ok.polled c.state_of-state.result c.in-Ok.ensures.calls.1 (g.met.T.WaiterTimers.timers_make _ _ _ c.now.ensures.related) in
    stops-pausing c.args.self.now.backoff (goal.F-post g c.args.self.now.acceptor) g.T.WaiterTimers.makes (goal.G-post g c.args.self.now.operation)
    before c.args.progress.now _ stands c.args.timers.now c.now.new.self _ c.in-Err-paused.stop _ c.into_error-in-Err-paused.ensures poll c.word-word.result c.delay-delay.result
    c.in-Err-paused.ensures.calls.0 c.in-Err-paused.ensures.calls.1 c.word-word.new.self c.answered.new.fuel
    c.state_of-state.ensures c.in_default.ensures c.if-progress.false (rw c.saturating_sub-elapsed.ensures at c.if-elapsed-self.false)
    (rw c.saturating_sub-elapsed.ensures at c.delay-delay.ensures.value) c.in-Err-paused.ensures.some_delay asked c.word-word.ensures
    c.in-Err-paused.ensures.calls.2 c.in-Err-paused.ensures.all_spent

pub returns : goal.returns
returns g c before stands =
    let poll : Poll g.row.O.Denot g.row.E.Denot = record { pending = c.in-Ok.ensures.calls.0; result = c.in-Ok.polled; state = c.state_of-state.result; moment = c.now.result } in
    let asked = spends-poll c.args.self.now.backoff (goal.F-post g c.args.self.now.acceptor) g.T.WaiterTimers.makes (goal.G-post g c.args.self.now.operation) c.args.progress.now.number c.in-Ok.ensures.calls.0 c.now.result c.in-Ok.polled c.state_of-state.result c.in-Ok.ensures.calls.1 (g.met.T.WaiterTimers.timers_make _ _ _ c.now.ensures.related) in
    let h = c.in_default-paused.ensures in
    goes_on-paused c.args.self.now.backoff (goal.F-post g c.args.self.now.acceptor) g.T.WaiterTimers.makes (goal.G-post g c.args.self.now.operation)
    before c.args.progress.now _ stands c.args.timers.now c.now.new.self _ poll c.word-word.result c.delay-delay.result
    h.calls.0 h.calls.1 c.word-word.new.self c.answered.new.fuel
    c.state_of-state.ensures c.in_default.ensures c.if-progress.false (rw c.saturating_sub-elapsed.ensures at c.if-elapsed-self.false)
    (rw c.saturating_sub-elapsed.ensures at c.delay-delay.ensures.value) asked c.word-word.ensures h.calls.2
    refl c.saturating_add-progress.ensures refl
