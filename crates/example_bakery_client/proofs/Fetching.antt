-- A wait that succeeds ends with an order that is ready.
use Rattle.std.proofs.Common.{◌≡◌, ◌∙◌, ap, sym, refl, Bool, true, false, Ok, Err}
use Rattle.std.specs.Borrow.{Bor}
use Rattle.std.specs.Prelude.{Result, IfOk}
use Rattle.std.proofs.lemmas.Bool.{false≢true}
use Rattle.smithy_types.specs.declared.acceptor.AcceptorState.{AcceptorState}
use Rattle.smithy_types.specs.declared.acceptor.AcceptorState.TheVariants.{Success}
use Rattle.waiters.specs.Walk.{End}
use Rattle.client_operations.specs.Watching.{IsAccepted}
use Rattle.example_bakery_client.specs.Waiting.{Says, accepted}
use Rattle.example_bakery_service.specs.declared.model.BakeryError.{BakeryError}
use Rattle.example_bakery_service.specs.declared.model.GetOrderOutput.{GetOrderOutput}
use Rattle.example_bakery_service.specs.declared.model.OrderState.{OrderState}
use Rattle.example_bakery_service.specs.declared.model.OrderState.TheVariants.{Baking, Ready}

abbrev is_success : AcceptorState → Bool
is_success Success = true
is_success _ = false

-- a state that is accepted is Ready
is_ready : (state : OrderState) → Success ≡ accepted state → state ≡ Ready
is_ready Ready h = refl
is_ready Baking h = absurd (false≢true (sym (ap is_success h)))

module _ (says : Result (Bor GetOrderOutput) (Bor BakeryError) → AcceptorState → Type 0)
    (weaker : (seen : Result (Bor GetOrderOutput) (Bor BakeryError)) (state : AcceptorState) → says seen state → Says seen state) where
  -- an order that is accepted is ready, and no error of the model is accepted
  ready : (result : Result GetOrderOutput BakeryError) → IsAccepted says result → result ≡ Ok (record { state = Ready })
  unfolding IsAccepted
  ready (Ok output) h =
      let told = weaker (Ok h.0) Success h.2 ∙ ap (λ (o : GetOrderOutput). accepted o.state) h.1 in
      ap (λ s. Ok (record { state = s })) (is_ready output.state told)
  ready (Err error) h = absurd (false≢true (sym (ap is_success (weaker (Err h.0) Success h.2))))

  pub fetched : (ending : End GetOrderOutput BakeryError) → IfOk ending (λ last. IsAccepted says last.result) →
      IfOk ending (λ last. last.result ≡ Ok (record { state = Ready }))
  fetched (Ok last) h = ready last.result h
  fetched (Err error) h = tt
