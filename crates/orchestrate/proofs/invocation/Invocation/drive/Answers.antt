use Rattle.std.proofs.Common.{Ok, Err, false, refl, sym, ap, ◌∙◌, subst}
use Rattle.std.specs.Prelude.{OnErr}
use Rattle.orchestrate.specs.declared.invocation.Invocation.{Invocation}
use Rattle.orchestrate.specs.Stands.{AskedInVain, AskedOnce, Lost}
use Rattle.orchestrate.proofs.HandingLemmas.{handed_nothing}
use Rattle.orchestrate.proofs.Standings.{stands_whole}
use Rattle.orchestrate.proofs.Telling.{asking, drove_once, lost_once}
use Rattle.orchestrate.proofs.invocation.Invocation.drive.Goals as goal

pub returns-in_default-clause-drove : goal.returns-in_default-clause-drove
returns-in_default-clause-drove g c =
    (refl, refl, λ s l w. stands_whole s l c.args.self.now (ap (λ u. u.stage.place.point) (sym c.self.view_is) ∙ c.in_default.is) w)

pub returns-in_err-ask-clause-lost : goal.returns-in_err-ask-clause-lost
returns-in_err-ask-clause-lost g c =
    elim c.from_residual.result as (λ r. OnErr r (Lost c.args.self.now c.ask.new.self (g.W.World.calls c.args.world.now) (g.W.World.calls c.ask.new.world))) [
      | Ok x ↦ tt
      | Err x ↦ lost_once c.args.self.now c.ask.new.self c.in-Some.point (g.W.World.calls c.args.world.now) (g.W.World.calls c.ask.new.world)
          (ap (λ u. u.stage.place.point) (sym c.self.view_is) ∙ c.in-Some.is)
          (subst (λ (u : Invocation). AskedInVain (asking u) c.ask.new.self c.in-Some.point (g.W.World.calls c.args.world.now) (g.W.World.calls c.ask.new.world)) c.self.view_is c.in_err-ask.ensures.err)
    ]

pub returns-clause-drove : goal.returns-clause-drove
returns-clause-drove g c =
    let j = c.self-2.inside in
    let x : Invocation = record { stop = j.stop; standing = j.standing; stage = j.stage; lost = false } in
    drove_once c.args.self.now c.ask.new.self x c.in-Some.point (g.W.World.calls c.args.world.now) (g.W.World.calls c.ask.new.world)
    (ap (λ u. u.stage.place.point) (sym c.self.view_is) ∙ c.in-Some.is)
    (subst (λ (u : Invocation). AskedOnce (asking u) c.ask.new.self c.in-Some.point (g.W.World.calls c.args.world.now) (g.W.World.calls c.ask.new.world)) c.self.view_is c.in_ok-ask.ensures.ok)
    (ap (λ (u : Invocation). let y : Invocation = record u { lost = false } in y) c.self-2.view_is)

pub returns-in_default-clause-related : goal.returns-in_default-clause-related
returns-in_default-clause-related g c = handed_nothing g.W.World.relates c.args.world.now (g.W.World.calls c.args.world.now)

pub returns-clause-related : goal.returns-clause-related
returns-clause-related g c = c.in_ok-ask.ensures.related
