use Rattle.std.proofs.Common.{◌≡◌, ◌≤◌, [], length, drop}
use Rattle.cli_replay.specs.Script.Replay.{keys_behind}
use Rattle.cli_replay.proofs.script.replay.keys_fit.Given as goal

abbrev pub invariant-loop-answer : goal.invariant-loop-answer
invariant-loop-answer l = (length l.keys ≤ 64) × (keys_behind l.keys (drop l.answer-index l.answers) ≡ keys_behind [] l.answers)
