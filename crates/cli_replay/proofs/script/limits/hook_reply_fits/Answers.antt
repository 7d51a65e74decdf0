use Rattle.std.proofs.Common.{None, option_copied, refl, sym, ap, ◌∙◌}
use Rattle.smithy_context.specs.Reply.{reply_of}
use Rattle.cli_replay.specs.Script.Limits.{hook_answer_fits}
use Rattle.cli_replay.proofs.script.limits.hook_reply_fits.Goals as goal

pub returns-in-None : goal.returns-in-None
unfolding hook_answer_fits
returns-in-None c = ap hook_answer_fits (sym (ap (λ o. reply_of (option_copied o)) c.in-None.is) ∙ c.did.ensures)
