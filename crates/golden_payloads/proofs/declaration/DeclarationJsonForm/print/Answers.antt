use Rattle.golden_payloads.proofs.declaration.DeclarationJsonForm.print.Goals as goal

pub returns-clause-value : goal.returns-clause-value
returns-clause-value c = c.in_ok-printed.ensures.value _ c.in_ok-object.ensures.members
