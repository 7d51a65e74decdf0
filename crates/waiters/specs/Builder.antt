-- What a builder is refused for, and what it makes.
use Rattle.std.specs.Prelude.{◌≡◌, Bool, true, false, not, List, [], ◌∷◌, Option, None, Some, is_none, nat_lt}
use Rattle.std.specs.Prelude.{unwrap_or}
use Rattle.waiters.specs.declared.builder.WaiterOrchestratorBuilder.{WaiterOrchestratorBuilder}
use Rattle.smithy_types.specs.declared.build_error.BuildError.{BuildError}
use Rattle.smithy_types.specs.declared.build_error.BuildError.TheVariants.{Missing, DelayBelowSecond, DelaysOutOfOrder}
use Rattle.smithy_types.specs.declared.build_error.Part.TheVariants as part
use Rattle.waiters.specs.declared.orchestrator.WaiterOrchestrator.{WaiterOrchestrator}
use Rattle.waiters.specs.Delay.{second}

-- a test that must not hold, and what is answered where it does
abbrev pub Check : Type 0
Check = Bool × BuildError

-- the first that holds
abbrev pub first_failed : List Check → Option BuildError
first_failed [] = None
first_failed ((true, error) ∷ checks) = Some error
first_failed ((false, error) ∷ checks) = first_failed checks

module _ {F G : Type 0} where
  -- the parts in their order, and then the numbers
  abbrev pub checks_of : WaiterOrchestratorBuilder F G → List Check
  checks_of b =
      (is_none b.min_delay, Missing part.MinDelay)
      ∷ (is_none b.max_delay, Missing part.MaxDelay)
      ∷ (is_none b.max_wait, Missing part.MaxWait)
      ∷ (not b.time_source, Missing part.TimeSource)
      ∷ (not b.sleep_impl, Missing part.SleepImpl)
      ∷ (is_none b.acceptor, Missing part.Acceptor)
      ∷ (is_none b.operation, Missing part.Operation)
      ∷ (nat_lt (unwrap_or b.min_delay 0) second, DelayBelowSecond)
      ∷ (nat_lt (unwrap_or b.max_delay 0) (unwrap_or b.min_delay 0), DelaysOutOfOrder)
      ∷ []

  -- why no waiter can be made of the builder's parts, or nothing where one can
  abbrev pub refusal : WaiterOrchestratorBuilder F G → Option BuildError
  refusal b = first_failed (checks_of b)

  -- the waiter has the builder's parts
  pub record IsBuiltFrom (b : WaiterOrchestratorBuilder F G) (waiter : WaiterOrchestrator F G) : Type 0 where
    pub min_delay : b.min_delay ≡ Some waiter.backoff.min_delay
    pub max_delay : b.max_delay ≡ Some waiter.backoff.max_delay
    pub max_wait : b.max_wait ≡ Some waiter.backoff.max_wait
    pub acceptor : b.acceptor ≡ Some waiter.acceptor
    pub operation : b.operation ≡ Some waiter.operation
