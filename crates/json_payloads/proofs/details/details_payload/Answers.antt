use Rattle.std.proofs.lemmas.Bool.{leb-true}
use Rattle.json_payloads.proofs.DetailLemmas.{details_back}
use Rattle.json_payloads.proofs.details.details_payload.Goals as goal

pub returns-clause-details : goal.returns-clause-details
returns-clause-details g c = details_back g.D.JsonForm.form c.args.details.now _ c.args.kind _ (leb-true _ _ g.met.D.JsonPayload.nests) c.in_ok-value.ensures.value c.in_ok-value.ensures.fits c.in_ok-bytes.ensures
