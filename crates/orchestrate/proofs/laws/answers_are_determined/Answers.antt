use Rattle.orchestrate.proofs.Completeness.{answers_determined, contexts_determined}
use Rattle.orchestrate.proofs.laws.answers_are_determined.Goals as goal

pub returns-clause-contexts : goal.returns-clause-contexts
returns-clause-contexts c = contexts_determined

pub returns-clause-payloads : goal.returns-clause-payloads
returns-clause-payloads c = answers_determined
