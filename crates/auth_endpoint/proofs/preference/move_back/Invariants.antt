use Rattle.auth_endpoint.specs.Choice.{is_id}
use Rattle.auth_endpoint.proofs.PreferenceLemmas.{IsMovedBack}
use Rattle.auth_endpoint.proofs.preference.move_back.Given as goal

-- the options that were looked at are parted, and the others stand between the two parts
abbrev pub invariant-loop : goal.invariant-loop
invariant-loop l = IsMovedBack (is_id l.id) l.fn.options.items l.counter l.kept l.options.items
