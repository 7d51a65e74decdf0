use Rattle.std.proofs.lemmas.Bool.{leb-true}
use Rattle.json_payloads.proofs.kinds.JsonWire.to_payload.Goals as goal

pub json_payload-requires : goal.json_payload-requires
json_payload-requires g c = leb-true _ _ g.met.T.JsonPayload.nests
