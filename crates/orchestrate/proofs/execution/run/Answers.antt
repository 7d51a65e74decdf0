use Rattle.std.proofs.Common.{Ok, Err, Some, refl, ap, sym, ◌∙◌, subst, arith, ◌+◌, ◌≡◌, ◌≤◌}
use Rattle.std.specs.Prelude.{OnErr}
use Rattle.orchestrate.specs.Stands.{Drove, Progress, Ran, RunLost}
use Rattle.orchestrate.proofs.HandingLemmas.{handed_nothing, handed_more}
use Rattle.orchestrate.specs.Fresh.{fresh}
use Rattle.orchestrate.proofs.Standings.{start_stands}
use Rattle.orchestrate.proofs.Running.{progress_lost, progress_start, progress_more, ran_whole, ran_unfinished, run_lost}
use Rattle.orchestrate.proofs.execution.run.Goals as goal

pub returns-in_err-invocation-clause-lost : goal.returns-in_err-invocation-clause-lost
returns-in_err-invocation-clause-lost g c =
    let v = fresh c.args.input c.args.stop in
    let calls = g.W.World.calls c.args.world.now in
    elim c.from_residual.result as (λ r. OnErr r (RunLost c.args.input c.args.stop c.args.fuel calls calls)) [
      | Ok x ↦ tt
      | Err x ↦ progress_lost c.args.input c.args.stop c.args.fuel v calls calls 0 (omega arith) (progress_start c.args.input c.args.stop v calls refl (start_stands c.args.input c.args.stop))
    ]

pub loop-init : goal.loop-init
loop-init g c = (
  progress_start c.args.input c.args.stop c.in_ok-invocation.invocation (g.W.World.calls c.args.world.now) (ap (λ v. v.stop) c.in_ok-invocation.ensures.fresh) c.in_ok-invocation.ensures.stands,
  handed_nothing g.W.World.relates c.args.world.now (g.W.World.calls c.args.world.now),
)

pub loop-preserved : goal.loop-preserved
loop-preserved g c = (
  progress_more c.args.input c.args.stop c.loop.invocation c.drive.new.self (g.W.World.calls c.args.world.now) (g.W.World.calls c.loop.world) (g.W.World.calls c.drive.new.world)
      c.loop.counter c.loop.invariant.0
      (subst (λ r. Drove r c.loop.invocation c.drive.new.self (g.W.World.calls c.loop.world) (g.W.World.calls c.drive.new.world)) c.in-Asked.is c.in_ok-drive.ensures.drove),
  handed_more g.W.World.relates c.args.world.now c.loop.world c.drive.new.world (g.W.World.calls c.args.world.now) (g.W.World.calls c.loop.world) (g.W.World.calls c.drive.new.world)
      c.loop.invariant.1 c.in_ok-drive.ensures.related,
)

pub returns-in_err-drive-clause-lost : goal.returns-in_err-drive-clause-lost
returns-in_err-drive-clause-lost g c =
    let le : c.loop.counter + 1 ≤ c.args.fuel = omega arith in
    elim c.from_residual-in_err-drive.result as (λ r. OnErr r (RunLost c.args.input c.args.stop c.args.fuel (g.W.World.calls c.args.world.now) (g.W.World.calls c.drive.new.world))) [
      | Ok x ↦ tt
      | Err x ↦ run_lost c.args.input c.args.stop c.args.fuel c.loop.invocation c.drive.new.self (g.W.World.calls c.args.world.now) (g.W.World.calls c.loop.world)
          (g.W.World.calls c.drive.new.world) c.loop.counter le c.loop.invariant.0 c.in_err-drive.ensures.lost
    ]

pub returns-in-None-clause-ran : goal.returns-in-None-clause-ran
returns-in-None-clause-ran g c =
    let e : c.loop.counter ≡ c.args.fuel = omega arith in
    subst (λ d. Ran c.args.input c.args.stop c.args.fuel (Some d) (g.W.World.calls c.args.world.now) (g.W.World.calls c.loop.world)) (sym c.into_standing-in-None.ensures) (
    ran_whole c.args.input c.args.stop c.args.fuel c.loop.invocation (g.W.World.calls c.args.world.now) (g.W.World.calls c.loop.world) (sym c.point.ensures ∙ c.in-None.is)
    (subst (λ n. Progress c.args.input c.args.stop c.loop.invocation (g.W.World.calls c.args.world.now) (g.W.World.calls c.loop.world) n) e c.loop.invariant.0))

pub returns-in-Some-clause-ran : goal.returns-in-Some-clause-ran
returns-in-Some-clause-ran g c =
    let e : c.loop.counter ≡ c.args.fuel = omega arith in
    ran_unfinished c.args.input c.args.stop c.args.fuel c.loop.invocation c.in-Some.field-0 (g.W.World.calls c.args.world.now) (g.W.World.calls c.loop.world) (sym c.point.ensures ∙ c.in-Some.is)
    (subst (λ n. Progress c.args.input c.args.stop c.loop.invocation (g.W.World.calls c.args.world.now) (g.W.World.calls c.loop.world) n) e c.loop.invariant.0)

pub returns-in-Ended-clause-related : goal.returns-in-Ended-clause-related
returns-in-Ended-clause-related g c =
    handed_more g.W.World.relates c.args.world.now c.loop.world c.drive.new.world (g.W.World.calls c.args.world.now) (g.W.World.calls c.loop.world) (g.W.World.calls c.drive.new.world)
    c.loop.invariant.1 c.in_ok-drive.ensures.related
