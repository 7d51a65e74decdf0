use Rattle.std.proofs.Common.{inr, subst}
use Rattle.std.specs.Prelude.{IfOk}
use Rattle.cli_shell.specs.Said.{said}
use Rattle.cli_fleet.specs.Fleet.{fleet_says}
use Rattle.cli_replay.proofs.Serving.{given_by}
use Rattle.cli_commands.proofs.run.serve_fleet.Goals as goal

pub returns-in-Ok : goal.returns-in-Ok
returns-in-Ok g c =
    let told = subst (λ b. IfOk c.answer_fleet.result (λ a. fleet_says b (said a))) c.as_slice.ensures.value c.answer_fleet.ensures in
    let gives = given_by g.K.Sink.view (fleet_says c.in-Ok.bytes.items) c.answer_fleet.result c.give.result c.args.sink.now c.give.new.sink told c.give.ensures.given in
    (inr (c.in-Ok.bytes.items, c.in-Ok.ensures.whole, gives), c.read_all.ensures.count, c.give.ensures.count)
