use Rattle.std.proofs.Common.{◌∙◌}
use Rattle.std.proofs.lemmas.Str.{is_utf8-from_IsUtf8}
use Rattle.text_payloads.proofs.Texts.{not_utf8}
use Rattle.text_payloads.proofs.payloads.read_utf8.Goals as goal

pub returns-in_ok-from_str-in-Ok : goal.returns-in_ok-from_str-in-Ok
returns-in_ok-from_str-in-Ok c = (is_utf8-from_IsUtf8 _ c.in-Ok.ensures.cases.1, c.in_ok-from_str-in-Ok.ensures ∙ c.in-Ok.ensures.cases.0)

pub returns-in-Err : goal.returns-in-Err
returns-in-Err c = not_utf8 _ c.in-Err.ensures.cases.0
