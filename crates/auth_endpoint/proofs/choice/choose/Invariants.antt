use Rattle.std.proofs.Common.{option_copied, take}
use Rattle.auth_endpoint.specs.Choice.{schemes_of, lack_of, NoneChosen}
use Rattle.auth_endpoint.proofs.choice.choose.Given as goal

-- each option that was looked at lacks something, and is noted
abbrev pub invariant-loop-index : goal.invariant-loop-index
invariant-loop-index l = NoneChosen (lack_of l.schemes l.resolvers (schemes_of (option_copied l.endpoint))) (take l.index l.options) l.explored
