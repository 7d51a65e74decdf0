use Rattle.json_values.proofs.PrintedHeads.{payload_read}
use Rattle.json_values.proofs.Spelled.{payload_is_spellable}
use Rattle.json_values.proofs.laws.printed_payloads_are_read.Goals as goal

pub returns-clause-printed : goal.returns-clause-printed
returns-clause-printed c = payload_read

pub returns-clause-read : goal.returns-clause-read
returns-clause-read c = payload_is_spellable
