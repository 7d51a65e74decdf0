use Rattle.std.proofs.Common.{Ok, inr, subst}
use Rattle.cli_shell.specs.Said.{said}
use Rattle.cli_replay.specs.LeftOver.{tells_left}
use Rattle.cli_replay.specs.Replay.{replay_says}
use Rattle.cli_replay.proofs.Serving.{given_by, read_left}
use Rattle.cli_replay.proofs.command.serve_replay.Goals as goal

pub returns-in-Ok-answer_noted-clause-served : goal.returns-in-Ok-answer_noted-clause-served
returns-in-Ok-answer_noted-clause-served g c =
    let told = subst (λ b. replay_says b (said c.in-Ok-answer_noted.noted.answer)) c.as_slice.ensures.value c.in-Ok-answer_noted.ensures.said in
    let gives = given_by g.K.Sink.view (replay_says c.in-Ok.bytes.items) (Ok c.in-Ok-answer_noted.noted.answer) c.give.result c.args.sink.now c.give.new.sink told c.give.ensures.given in
    inr (c.in-Ok.bytes.items, c.in-Ok.ensures.whole, gives)

pub returns-in-Ok-answer_noted-clause-left : goal.returns-in-Ok-answer_noted-clause-left
returns-in-Ok-answer_noted-clause-left g c =
    let told = subst (λ b. tells_left b (said c.in-Ok-answer_noted.noted.answer) c.in-Ok-answer_noted.noted.left_over) c.as_slice.ensures.value c.in-Ok-answer_noted.ensures.left in
    read_left c.in-Ok.bytes.items (said c.in-Ok-answer_noted.noted.answer) c.in-Ok-answer_noted.noted.left_over (g.S.Source.view c.args.source.now) (g.S.Source.view c.read_all.new.source) c.in-Ok.ensures.whole told
