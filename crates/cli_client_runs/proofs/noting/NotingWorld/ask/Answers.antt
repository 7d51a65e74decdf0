use Rattle.std.proofs.Common.{◌≡◌, ◌∙◌, ◌++◌, ◌∷◌, [], ap}
use Rattle.run_grammar.specs.Entry.{entry}
use Rattle.cli_client_runs.proofs.Moments.{noted_more}
use Rattle.cli_client_runs.proofs.noting.NotingWorld.ask.Goals as goal

pub returns-in-Ok-clause-related : goal.returns-in-Ok-clause-related
returns-in-Ok-clause-related g c w l h =
    noted_more g.W.World.relates g.W.Clocked.clock w.world c.args.self.now.world c.ask.new.self w.moments c.args.self.now.moments c.from_vec.result l
    (entry c.args.question c.in-Ok.answer) c.moment.result h
    (c.in-Ok.ensures.related w.world l h.served)
    (c.in-Ok.ensures.related c.args.self.now.world [] (g.met.W.World.relates_nothing c.args.self.now.world)) c.moment.ensures
    (c.from_vec.ensures ∙ c.push_reserved.ensures.items ∙ ap (λ v. v ++ c.moment.result ∷ []) c.in_ok-moments.ensures.moments)
