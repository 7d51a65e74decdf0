use Rattle.std.proofs.Common.{flat_map, take}
use Rattle.std.specs.Fmt.{HasWritten, IsPlainFormatter}
use Rattle.auth_endpoint.specs.Texts.{option_text}
use Rattle.auth_endpoint.proofs.no_match.write_options.Given as goal

-- the options so far are written
abbrev pub invariant-loop-option : goal.invariant-loop-option
invariant-loop-option g l = IsPlainFormatter l.fn.f → HasWritten g.W.Write.write_str_gives l.fn.f (flat_map option_text (take l.option-index l.options)) l.f
