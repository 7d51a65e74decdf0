use Rattle.laws_client.proofs.questions.PendingChoices.{begins_alone, exchanged_alone, loads_alone}
use Rattle.laws_client.proofs.questions.laws.loads_are_alone.Goals as goal

pub returns : goal.returns
returns g c = record {
  begun = begins_alone;
  served = loads_alone _;
  exchanged = exchanged_alone _;
}
