use Rattle.json_payloads.specs.Details.{details_in}
use Rattle.json_payloads.proofs.DetailLemmas.{read_with_details, with_details}
use Rattle.json_payloads.proofs.details.DetailedErrorProvideErrorKind.kind_of.Goals as goal

pub returns-in-Some-clause-accepted : goal.returns-in-Some-clause-accepted
returns-in-Some-clause-accepted g c = λ accepted. (
  with_details (details_in g.D.JsonForm.form c.args.payload.now) c.in-Some.error,
  read_with_details g.E.ModeledError.of_status g.D.JsonForm.form c.in-Some.error c.args.payload.now c.in-Some.ensures,
  c.retry.ensures,
)
