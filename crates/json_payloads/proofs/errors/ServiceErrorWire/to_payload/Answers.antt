use Rattle.std.proofs.Common.{ap, ◌∙◌}
use Rattle.std.specs.Prelude.{is_some}
use Rattle.json_payloads.proofs.ErrorLemmas.{told_by_status}
use Rattle.json_payloads.proofs.errors.ServiceErrorWire.to_payload.Goals as goal

pub returns-clause-accepted : goal.returns-clause-accepted
returns-clause-accepted g c = ap is_some (told_by_status g.E.ModeledError.of_status g.E.ModeledError.status c.args.self.now _ (g.met.E.ModeledError.statuses_differ c.args.self.now.error) (c.in_ok-payload.ensures.kind ∙ c.status.ensures) c.in_ok-payload.ensures.message)

pub returns-clause-same : goal.returns-clause-same
returns-clause-same g c = told_by_status g.E.ModeledError.of_status g.E.ModeledError.status c.args.self.now _ (g.met.E.ModeledError.statuses_differ c.args.self.now.error) (c.in_ok-payload.ensures.kind ∙ c.status.ensures) c.in_ok-payload.ensures.message
