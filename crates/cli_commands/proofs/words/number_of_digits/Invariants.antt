use Rattle.std.proofs.Common.{◌≡◌, drop}
use Rattle.cli_commands.specs.Words.{digits_number}
use Rattle.cli_commands.proofs.words.number_of_digits.Given as goal

abbrev pub invariant-loop-digit : goal.invariant-loop-digit
invariant-loop-digit l = digits_number l.number (drop l.digit-index l.digits) ≡ digits_number 0 l.digits
