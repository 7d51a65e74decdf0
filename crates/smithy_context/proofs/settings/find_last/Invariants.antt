use Rattle.std.proofs.Common.{◌≡◌, length}
use Rattle.smithy_context.specs.Settings.{last_entry}
use Rattle.smithy_context.proofs.settings.find_last.Given as goal

-- the layers that are left say what all of them say
abbrev pub invariant-loop-last : goal.invariant-loop-last
invariant-loop-last l = last_entry l.rest l.key ≡ last_entry l.layers l.key

abbrev pub decreases-loop-last : goal.decreases-loop-last
decreases-loop-last l = length l.rest
