use Rattle.std.proofs.Common.{◌∙◌, ap, map, refl}
use Rattle.cli_fleet.proofs.Playing.{one_ready}
use Rattle.cli_fleet.proofs.Printing.{mapped_more}
use Rattle.cli_fleet.proofs.play.callers_of.Goals as goal

pub loop-caller-preserved : goal.loop-caller-preserved
loop-caller-preserved g c =
    one_ready c.args.start c.args.words.now c.loop-caller.yielded c.in-Some.caller c.loop-caller.number _ _ _ _ _ c.in_ok-work.work c.loop-caller.invariant c.in_ok-work.ensures refl
    c.in_ok-push.ensures.len (ap (map (λ x. x.state)) c.in_ok-push.ensures.items ∙ mapped_more (λ x. x.state) c.loop-caller.callers.items _)
