use Rattle.std.proofs.Common.{◌≡◌, [], refl, subst}
use Rattle.json_print.specs.Endings.{Ends}
use Rattle.cli_client_runs.proofs.Moments.{handed_whole}
use Rattle.cli_client_runs.specs.Noted.{Noted, noted_nothing}
use Rattle.cli_client_runs.proofs.noting.run_noting.Goals as goal

pub returns-clause-ends : goal.returns-clause-ends
returns-clause-ends g c = subst (λ b. Ends c.args.head.now b (g.W.World.calls c.run_over.new.world.world) c.in_ok-ending.ending) c.requires c.in_ok-ending.ensures.ends

pub returns-clause-noted : goal.returns-clause-noted
returns-clause-noted g c =
    handed_whole (λ old log new. Noted g.W.World.relates g.W.Clocked.clock old.world old.moments log new.world new.moments)
    (record { world = c.args.world; moments = c.args.moments }) c.run_over.new.world (g.W.World.calls c.args.world) (g.W.World.calls c.run_over.new.world.world) _
    c.in_ok-ending.ensures.related c.requires refl (noted_nothing g.W.World.relates g.W.Clocked.clock c.args.world c.args.moments (g.met.W.World.relates_nothing c.args.world))
