-- What a wait for an order means.
use Rattle.std.specs.Prelude.{◌≡◌, ℕ, Result, MatchResult}
use Rattle.std.specs.Borrow.{Bor}
use Rattle.smithy_types.specs.declared.acceptor.AcceptorState.{AcceptorState}
use Rattle.smithy_types.specs.declared.acceptor.AcceptorState.TheVariants.{Success, Failure, Retry}
use Rattle.text_payloads.specs.Text.{is_text}
use Rattle.example_bakery_service.specs.Model.{error_of, is_error, is_state, state_of}
use Rattle.example_bakery_service.specs.declared.model.BakeryError.{BakeryError}
use Rattle.example_bakery_service.specs.declared.model.GetOrderInput.{GetOrderInput}
use Rattle.example_bakery_service.specs.declared.model.GetOrderOutput.{GetOrderOutput}
use Rattle.example_bakery_service.specs.declared.model.OrderState.{OrderState}
use Rattle.example_bakery_service.specs.declared.model.OrderState.TheVariants.{Baking, Ready}
use Rattle.client_operations.specs.Watching as watching
use Rattle.client_operations.specs.declared.watching.Watch.{Watch}
use Rattle.outside.specs.Calls.{OutsideCall}
use Rattle.waiters.specs.Walk.{End}

-- what the acceptors say of an order that is found: it is ready, or is asked for again
abbrev pub accepted : OrderState → AcceptorState
accepted Baking = Retry
accepted Ready = Success

-- an order that bakes is asked for again, and an error of the model ends the wait
abbrev pub Says : Result (Bor GetOrderOutput) (Bor BakeryError) → AcceptorState → Type 0
Says seen state = MatchResult seen (λ output. state ≡ accepted output.now.state) (λ error. state ≡ Failure)

module _ {T X Q C I A R Z D P L : Type 0} where
  -- a waiter of these delays asked for the order that is watched, and answered this
  abbrev pub WaitsBy : (X → OutsideCall → X → Type 0) → ℕ → ℕ → ℕ →
      Watch T GetOrderInput GetOrderOutput BakeryError X Q C I A R Z D P L → ℕ → End GetOrderOutput BakeryError →
      Watch T GetOrderInput GetOrderOutput BakeryError X Q C I A R Z D P L → Type 0
  WaitsBy makes = watching.WaitsBy (λ input copy. copy ≡ input)
      (is_text 4) (λ p (input : GetOrderInput). input ≡ record { order = p.bytes })
      is_state (λ p (output : GetOrderOutput). output ≡ record { state = state_of p.bytes })
      is_error (λ p error. error ≡ error_of p.bytes) makes Says
