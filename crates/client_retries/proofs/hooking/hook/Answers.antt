use Rattle.std.proofs.Common.{◌∙◌, [], ap, inl, refl, sym}
use Rattle.run_grammar.specs.declared.answer.Answer.TheVariants.{Hooked}
use Rattle.client_retries.proofs.hooking.hook.Goals as goal

pub returns-then-is_operations-clause-ok : goal.returns-then-is_operations-clause-ok
returns-then-is_operations-clause-ok g c =
    ([], refl, inl (sym c.is_operations.ensures ∙ c.if-is_operations.true, ap Hooked c.done.ensures, refl, refl, refl))
