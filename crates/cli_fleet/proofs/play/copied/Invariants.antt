use Rattle.std.proofs.Common.{◌≡◌, take}
use Rattle.cli_fleet.proofs.play.copied.Given as goal

-- the words before this one
abbrev pub invariant-loop-word : goal.invariant-loop-word
invariant-loop-word l = l.list ≡ take l.word-index l.words
