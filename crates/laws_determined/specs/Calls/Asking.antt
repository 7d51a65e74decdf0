-- Transmit and Body are determined.
use Rattle.std.specs.Prelude.{Bool, Option}
use Rattle.client_call.specs.Reading as reading
use Rattle.client_call.specs.Transmitting as transmitting
use Rattle.outside.specs.Calls.{OutsideCall}
use Rattle.run_grammar.specs.declared.answer.Answer.{Answer}
use Rattle.smithy_context.specs.StandingLayers.{StandingLayers}
use Rattle.smithy_types.specs.Chain.{ByCalls}
use Rattle.smithy_types.specs.declared.http.HttpRequest.{HttpRequest}
use Rattle.smithy_types.specs.declared.http.HttpResponse.{HttpResponse}
use Rattle.laws_determined.specs.Steady.Steady.{AnswersAlike}
use Rattle.laws_determined.specs.Calls.Alike.{Calls, CallsAlike}

module _ {X : Type 0} (makes : X → OutsideCall → X → Type 0) where
  -- an ask of the connector, where there are sleeps or none
  abbrev pub Transmits : Bool → StandingLayers → Option HttpRequest → Calls X → Answer → Calls X → Type 0
  Transmits sleeps settings request old a new =
      ByCalls makes old.outside (transmitting.Transmits sleeps settings request old.call a new.call) new.outside

  -- an ask of the open body
  abbrev pub Reads : Bool → StandingLayers → Option HttpResponse → Calls X → Answer → Calls X → Type 0
  Reads sleeps settings response old a new =
      ByCalls makes old.outside (reading.Reads sleeps settings response old.call a new.call) new.outside

  -- from calls that are alike a Transmit has one answer, and the calls that are left are alike
  abbrev pub TransmitsAreDetermined : Type 0
  TransmitsAreDetermined =
      (sleeps : Bool) (settings : StandingLayers) (request : Option HttpRequest)
      → AnswersAlike CallsAlike (Transmits sleeps settings request)

  -- from calls that are alike a Body has one answer, and the calls that are left are alike
  abbrev pub BodiesAreDetermined : Type 0
  BodiesAreDetermined =
      (sleeps : Bool) (settings : StandingLayers) (response : Option HttpResponse)
      → AnswersAlike CallsAlike (Reads sleeps settings response)
