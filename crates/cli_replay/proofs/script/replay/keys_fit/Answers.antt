use Rattle.std.proofs.Common.{arith}
use Rattle.cli_replay.proofs.script.KeyCount.{key_over}
use Rattle.cli_replay.proofs.script.replay.keys_fit.Goals as goal

pub returns-then-len-gt-KEY_LIMIT : goal.returns-then-len-gt-KEY_LIMIT
returns-then-len-gt-KEY_LIMIT c =
    key_over c.loop-answer.keys c.add_keys.new.keys c.args.answers.now c.loop-answer.answer-index c.answer-item.result (omega arith) c.answer-item.is c.in_ok-add_keys.ensures (omega (arith, c.len.ensures))
    c.loop-answer.invariant.1
