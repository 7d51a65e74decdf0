-- A wait that succeeds ends with what its acceptor accepts.
use Rattle.std.proofs.Common.{◌≡◌, ◌∙◌, ap, subst, sym, refl, ℕ, Bool, true, false, List, Ok, Err}
use Rattle.std.specs.Borrow.{Bor, MutBor}
use Rattle.std.specs.Prelude.{Result, IfOk}
use Rattle.std.proofs.lemmas.Bool.{false≢true}
use Rattle.smithy_types.specs.declared.acceptor.AcceptorState.{AcceptorState}
use Rattle.smithy_types.specs.declared.acceptor.AcceptorState.TheVariants.{Success}
use Rattle.smithy_types.specs.declared.fault.SdkError.{SdkError}
use Rattle.smithy_types.specs.declared.fault.SdkError.TheVariants.{ConstructionFailure, TimeoutError, DispatchFailure, ResponseError, ServiceError}
use Rattle.waiters.specs.Calls.{Answer, Call}
use Rattle.waiters.specs.Walk.{Accepts, End, EndsBy, Shows, Turn, Verdict, verdict, succeeds}
use Rattle.waiters.specs.WalkCalls.{Rest, Waits, ended}
use Rattle.waiters.specs.declared.timers.WaiterCall.{WaiterCall}
use Rattle.waiters.specs.declared.backoff.Backoff.{Backoff}
use Rattle.waiters.specs.declared.outcome.FinalPoll.{FinalPoll}
use Rattle.client_operations.specs.Watching.{IsAccepted}

abbrev has_succeeded : Verdict → Bool
has_succeeded succeeds = true
has_succeeded _ = false

-- the state of a poll that ends the walk with success
succeeded : {O E : Type 0} (answered : Result O (SdkError E)) (state : AcceptorState) → verdict answered state ≡ succeeds → state ≡ Success
succeeded (Ok output) Success h = refl
succeeded (Ok output) _ h = absurd (false≢true (ap has_succeeded h))
succeeded (Err (ServiceError error response)) Success h = refl
succeeded (Err (ServiceError error response)) _ h = absurd (false≢true (ap has_succeeded h))
succeeded (Err (ConstructionFailure fault)) state h = absurd (false≢true (ap has_succeeded h))
succeeded (Err (TimeoutError fault)) state h = absurd (false≢true (ap has_succeeded h))
succeeded (Err (DispatchFailure fault)) state h = absurd (false≢true (ap has_succeeded h))
succeeded (Err (ResponseError fault response)) state h = absurd (false≢true (ap has_succeeded h))

module _ {O E : Type 0} (says : Result (Bor O) (Bor E) → AcceptorState → Type 0) where
  -- what is shown of a poll is what was accepted
  shown : (result : Result O E) (answered : Result O (SdkError E)) → Shows result answered → Accepts says answered Success → IsAccepted says result
  unfolding IsAccepted
  shown (Ok output) (Ok answered) s h = (h.0, h.1 ∙ sym s, h.2)
  shown (Err error) (Err (ServiceError answered response)) s h = (h.0, h.1 ∙ sym s, h.2)
  shown (Ok output) (Err failed) s h = absurd s
  shown (Err error) (Ok answered) s h = absurd s
  shown (Err error) (Err (ConstructionFailure fault)) s h = absurd s
  shown (Err error) (Err (TimeoutError fault)) s h = absurd s
  shown (Err error) (Err (DispatchFailure fault)) s h = absurd s
  shown (Err error) (Err (ResponseError fault response)) s h = absurd s

  by_poll : (answered : Result O (SdkError E)) (state : AcceptorState) (final : FinalPoll O E) →
      Accepts says answered state → EndsBy answered state (Ok final) → IsAccepted says final.result
  by_poll answered state final h e = shown final.result answered e.1 (subst (λ s. Accepts says answered s) (succeeded answered state e.0) h)

  by_rest : (backoff : Backoff) (start : ℕ) (before : List (Turn O E)) (final : FinalPoll O E)
      (calls : List (Call O E)) → Rest backoff says start before (Ok final) calls → IsAccepted says final.result
  by_rest backoff start before final calls (ended poll h) = by_poll poll.result poll.state final h.accepts h.ends

  -- the same of a whole wait
  pub accepted : {T : Type 0} (backoff : Backoff) (makes : T → WaiterCall → T → Type 0) (count : T → ℕ) (answers : MutBor T → ℕ → Answer O E → MutBor T → Type 0)
      (old : T) (fuel : ℕ) (ending : End O E) (new : T) →
      Waits backoff says makes count answers old fuel ending new → IfOk ending (λ last. IsAccepted says last.result)
  accepted backoff makes count answers old fuel (Ok last) new w = by_rest backoff w.start w.turns last w.rest w.ends
  accepted backoff makes count answers old fuel (Err error) new w = tt
