use Rattle.std.proofs.Common.{Ok, Err, [], ◌∷◌, refl, subst, inr}
use Rattle.std.specs.Prelude.{OnErr}
use Rattle.orchestrate.specs.declared.invocation.Invocation.{Invocation}
use Rattle.run_grammar.specs.Entry.{entry}
use Rattle.orchestrate.specs.Stands.{AskedInVain, AskedOnce}
use Rattle.orchestrate.proofs.Telling.{asked_step, fits_made, told_made}
use Rattle.orchestrate.proofs.invocation.Invocation.ask.Goals as goal

pub returns-clause-ok : goal.returns-clause-ok
returns-clause-ok g c =
    let i = c.self.inside in
    let v : Invocation = record { stop = i.stop; standing = i.standing; stage = i.stage; lost = i.lost } in
    let w : Invocation = record { stop = i.stop; standing = c.take_in-taken.new.self; stage = c.moved-self-inside.result; lost = i.lost } in
    let a = c.in_ok-answer.answer in
    subst (λ (u : Invocation). AskedOnce u w c.args.point (g.W.World.calls c.args.world.now) (g.W.World.calls c.ask.new.self)) c.self.view_is (
      a,
      told_made v c.args.point c.asks_at-kind.result c.in_ok-question.question a (g.W.World.calls c.args.world.now) (g.W.World.calls c.ask.new.self) c.asks_at-kind.ensures
          c.in_ok-question.ensures c.in_ok-answer.ensures.told,
      fits_made v c.args.point c.asks_at-kind.result c.in_ok-question.question a c.asks_at-kind.ensures c.in_ok-question.ensures c.in_ok-answer.ensures.fitting,
      asked_step v c.args.point c.asks_at-kind.result c.in_ok-question.question c.nanos-nanos.result a c.take_in-taken.new.self c.of-reply.result c.moved-self-inside.result
          c.asks_at-kind.ensures c.in_ok-question.ensures c.nanos-nanos.ensures c.of-reply.ensures c.in_ok-taken.ensures.ok c.moved-self-inside.ensures,
    )

pub returns-in_err-taken-clause-err : goal.returns-in_err-taken-clause-err
returns-in_err-taken-clause-err g c =
    let i = c.self.inside in
    let v : Invocation = record { stop = i.stop; standing = i.standing; stage = i.stage; lost = i.lost } in
    let w : Invocation = record v { standing = c.take_in-taken.new.self } in
    let a = c.in_ok-answer.answer in
    elim c.from_residual-in_err-taken.result as (λ r. OnErr r (AskedInVain c.args.self.now w c.args.point (g.W.World.calls c.args.world.now) (g.W.World.calls c.ask.new.self))) [
      | Ok x ↦ tt
      | Err x ↦ subst (λ (u : Invocation). AskedInVain u w c.args.point (g.W.World.calls c.args.world.now) (g.W.World.calls c.ask.new.self)) c.self.view_is (
        refl,
        inr (inr (
          a,
          told_made v c.args.point c.asks_at-kind.result c.in_ok-question.question a (g.W.World.calls c.args.world.now) (g.W.World.calls c.ask.new.self) c.asks_at-kind.ensures
              c.in_ok-question.ensures c.in_ok-answer.ensures.told,
          fits_made v c.args.point c.asks_at-kind.result c.in_ok-question.question a c.asks_at-kind.ensures c.in_ok-question.ensures c.in_ok-answer.ensures.fitting,
        )),
      )
    ]

pub returns-clause-related : goal.returns-clause-related
returns-clause-related g c = (entry c.in_ok-question.question c.in_ok-answer.answer ∷ [], c.in_ok-answer.ensures.told, c.in_ok-answer.ensures.related)
