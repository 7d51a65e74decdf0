use Rattle.std.proofs.Common.{Ok, Err, arith, ◌≡◌, ◌+◌, ◌≤◌, false, sym, ◌∙◌, subst}
use Rattle.std.specs.Prelude.{OnErr}
use Rattle.orchestrate.proofs.HandingLemmas.{handed_more, handed_nothing}
use Rattle.orchestrate.specs.Stands.{Drove}
use Rattle.run_driver.specs.Driving.{IsInterrupted}
use Rattle.run_driver.proofs.DrivingLemmas.{advances_more, advances_nothing, interrupted, ran_quietly, stretched_by_one, stretched_quietly, went_nowhere, went_past}
use Rattle.run_driver.proofs.driving.drive_on.Goals as goal

pub returns-in_err-drive-clause-lost : goal.returns-in_err-drive-clause-lost
returns-in_err-drive-clause-lost g c =
    let le : c.loop-calls.calls + 1 ≤ c.args.fuel = omega arith in
    elim c.from_residual.result as (λ r. OnErr r (IsInterrupted c.args.invocation.now (g.W.World.calls c.args.world.now) (g.W.World.calls c.drive.new.world) c.args.fuel)) [
      | Ok x ↦ tt
      | Err x ↦ interrupted c.args.invocation.now c.loop-calls.invocation c.drive.new.self (g.W.World.calls c.args.world.now) (g.W.World.calls c.loop-calls.world)
          (g.W.World.calls c.drive.new.world) c.loop-calls.calls c.args.fuel le c.loop-calls.invariant.0 c.in_err-drive.ensures.lost
    ]

pub returns-in-Ended-clause-related : goal.returns-in-Ended-clause-related
returns-in-Ended-clause-related g c =
    handed_more g.W.World.relates c.args.world.now c.loop-calls.world c.drive.new.world (g.W.World.calls c.args.world.now) (g.W.World.calls c.loop-calls.world)
    (g.W.World.calls c.drive.new.world) c.loop-calls.invariant.1 c.in_ok-drive.ensures.related

pub loop-calls-init : goal.loop-calls-init
loop-calls-init g c = (
  advances_nothing c.args.invocation.now (g.W.World.calls c.args.world.now),
  handed_nothing g.W.World.relates c.args.world.now (g.W.World.calls c.args.world.now),
  went_nowhere g.W.World.calls g.W.World.relates g.W.Parking.parks c.args.world.now,
)

pub loop-calls-preserved : goal.loop-calls-preserved
loop-calls-preserved g c =
    let drove = subst (λ s. Drove s c.loop-calls.invocation c.drive.new.self (g.W.World.calls c.loop-calls.world) (g.W.World.calls c.drive.new.world)) c.in-Asked.is c.in_ok-drive.ensures.drove in
    let awake : g.W.Parking.parks c.drive.new.world ≡ false = sym c.is_parked.ensures ∙ c.if-is_parked.false in (
      advances_more c.args.invocation.now c.loop-calls.invocation c.drive.new.self (g.W.World.calls c.args.world.now) (g.W.World.calls c.loop-calls.world)
          (g.W.World.calls c.drive.new.world) c.loop-calls.calls c.loop-calls.invariant.0 drove,
      handed_more g.W.World.relates c.args.world.now c.loop-calls.world c.drive.new.world (g.W.World.calls c.args.world.now) (g.W.World.calls c.loop-calls.world)
          (g.W.World.calls c.drive.new.world) c.loop-calls.invariant.1 c.in_ok-drive.ensures.related,
      went_past g.W.World.calls g.W.World.relates g.W.Parking.parks c.loop-calls.invocation c.drive.new.self c.args.world.now c.loop-calls.world c.drive.new.world
          c.loop-calls.invariant.2 drove c.in_ok-drive.ensures.related awake,
    )

pub returns-in-Ended-clause-stretches : goal.returns-in-Ended-clause-stretches
returns-in-Ended-clause-stretches g c =
    let drove = subst (λ s. Drove s c.loop-calls.invocation c.drive.new.self (g.W.World.calls c.loop-calls.world) (g.W.World.calls c.drive.new.world)) c.in-Ended.is c.in_ok-drive.ensures.drove in
    stretched_quietly g.W.World.calls g.W.World.relates g.W.Parking.parks c.loop-calls.invocation c.drive.new.self c.args.world.now c.loop-calls.world c.drive.new.world
    c.loop-calls.invariant.2 drove c.in_ok-drive.ensures.related

pub returns-then-is_parked-clause-stretches : goal.returns-then-is_parked-clause-stretches
returns-then-is_parked-clause-stretches g c =
    let drove = subst (λ s. Drove s c.loop-calls.invocation c.drive.new.self (g.W.World.calls c.loop-calls.world) (g.W.World.calls c.drive.new.world)) c.in-Asked.is c.in_ok-drive.ensures.drove in
    stretched_by_one g.W.World.calls g.W.World.relates g.W.Parking.parks c.loop-calls.invocation c.drive.new.self c.args.world.now c.loop-calls.world c.drive.new.world
    c.loop-calls.invariant.2 drove c.in_ok-drive.ensures.related

pub returns-in-Ended-clause-through : goal.returns-in-Ended-clause-through
returns-in-Ended-clause-through g c is_over =
    let drove = subst (λ s. Drove s c.loop-calls.invocation c.drive.new.self (g.W.World.calls c.loop-calls.world) (g.W.World.calls c.drive.new.world)) c.in-Ended.is c.in_ok-drive.ensures.drove in
    ran_quietly g.W.World.calls g.W.World.relates g.W.Parking.parks c.loop-calls.invocation c.drive.new.self c.args.world.now c.loop-calls.world c.drive.new.world
    c.loop-calls.invariant.2 drove c.in_ok-drive.ensures.related
