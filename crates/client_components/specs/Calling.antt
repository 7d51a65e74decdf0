-- Start, Wait, Transmit, Body, Abandon and Park: each speaks of the parts that it touches, and the others stay.
use Rattle.std.specs.Prelude.{◌≡◌, ℕ, Bool, true, false, [], ◌∷◌, Option}
use Rattle.client_auth.specs.Identities.{at_rest, ending_choice}
use Rattle.client_call.specs.Ending.{abandoning, call_without, sleeps_without}
use Rattle.client_call.specs.Reading as reading
use Rattle.client_call.specs.Sleeping as sleeping
use Rattle.client_call.specs.Transmitting as transmitting
use Rattle.outside.specs.Calls.{OutsideCall, Park}
use Rattle.run_grammar.specs.declared.answer.Answer.{Answer}
use Rattle.run_grammar.specs.declared.answer.Answer.TheVariants.{Abandoned, Parked}
use Rattle.run_grammar.specs.declared.kind.Abandonable.{Abandonable}
use Rattle.run_grammar.specs.declared.kind.Abandonable.TheVariants as abandoned
use Rattle.run_grammar.specs.declared.kind.Role.{Role}
use Rattle.smithy_context.specs.StandingLayers.{StandingLayers}
use Rattle.smithy_types.specs.Chain.{ByCalls, Chained}
use Rattle.smithy_types.specs.declared.http.HttpRequest.{HttpRequest}
use Rattle.smithy_types.specs.declared.http.HttpResponse.{HttpResponse}
use Rattle.client_components.specs.declared.parts.Parts.{Parts}

-- what is given up is the choice of an identity
abbrev pub is_choose : Abandonable → Bool
is_choose abandoned.Choose = true
is_choose _ = false

module _ {T X Q C I A R Z D P L : Type 0} (makes : X → OutsideCall → X → Type 0) where
  -- a sleep of this role is started where the client sleeps; it stands among the open sleeps
  abbrev pub Starts : Parts T X Q C I A R Z D P L → Role → Option ℕ → Answer → Parts T X Q C I A R Z D P L → Type 0
  Starts old role nanos a new =
      ByCalls makes old.outside (sleeping.Starts old.given.sleep_impl role nanos old.sleeps a new.sleeps) new.outside
      × (new ≡ record old { sleeps = new.sleeps; outside = new.outside })

  -- whether the sleep of this role is over: the outside is asked, and nothing else changes
  abbrev pub Waits : Parts T X Q C I A R Z D P L → Role → Answer → Parts T X Q C I A R Z D P L → Type 0
  Waits old role a new =
      ByCalls makes old.outside (sleeping.Waits (sleeping.sleep_of role old.sleeps) a) new.outside
      × (new ≡ record old { outside = new.outside })

  -- the request is sent, or asked after; the call at the connector and the outside change
  abbrev pub Transmits : (X → Bool) → Parts T X Q C I A R Z D P L → StandingLayers → Option HttpRequest → Answer →
      Parts T X Q C I A R Z D P L → Type 0
  Transmits sleeps old settings request a new =
      ByCalls makes old.outside (transmitting.Transmits (sleeps old.outside) settings request old.call a new.call)
      new.outside
      × (new ≡ record old { call = new.call; outside = new.outside })

  -- the response's body is read on; the call at the connector and the outside change
  abbrev pub Reads : (X → Bool) → Parts T X Q C I A R Z D P L → StandingLayers → Option HttpResponse → Answer →
      Parts T X Q C I A R Z D P L → Type 0
  Reads sleeps old settings response a new =
      ByCalls makes old.outside (reading.Reads (sleeps old.outside) settings response old.call a new.call) new.outside
      × (new ≡ record old { call = new.call; outside = new.outside })

  -- a choice gives up its load, and all else the call or a sleep
  abbrev pub Abandons : Parts T X Q C I A R Z D P L → Abandonable → Answer → Parts T X Q C I A R Z D P L → Type 0
  Abandons old abandoned.Choose a new =
      (a ≡ Abandoned) × Chained makes old.outside (ending_choice old.identities) new.outside
      × (new ≡ record old { identities = at_rest old.identities; outside = new.outside })
  Abandons old pending a new =
      (a ≡ Abandoned) × Chained makes old.outside (abandoning pending old.sleeps old.call) new.outside
      × (new ≡ record old {
        sleeps = sleeps_without pending old.sleeps;
        call = call_without pending old.call;
        outside = new.outside;
      })

  -- the outside waits, and nothing else changes
  abbrev pub Parks : Parts T X Q C I A R Z D P L → Answer → Parts T X Q C I A R Z D P L → Type 0
  Parks old a new =
      (a ≡ Parked) × Chained makes old.outside (Park ∷ []) new.outside × (new ≡ record old { outside = new.outside })
