-- What a caller does with its pass.
use Rattle.std.specs.Prelude.{◌≡◌, ◌⊎◌, ℕ, ℤ, List, [], Option, None, Some, Result, Ok, Err}
use Rattle.retry_quota_cell.specs.Caller.{Caller}
use Rattle.retry_quota_cell.specs.Callers.{IsUnused, own}
use Rattle.retry_quota_cell.specs.Known.{IsOf, Known, Place}
use Rattle.cli_client.specs.Means.{none, own_chain, own_ranked, own_says}
use Rattle.cli_client.specs.Opening.{outside_at}
use Rattle.json_scripts.specs.declared.client.terms.ClientObject.{ClientObject}
use Rattle.json_scripts.specs.declared.client.terms.InvocationRecord.{InvocationRecord}
use Rattle.client_scripted.specs.declared.service.error.ServiceError.{ServiceError}
use Rattle.client_scripted.specs.Clients.{ServiceMeaning}
use Rattle.client_builder.specs.Built.{IsBuiltFrom}
use Rattle.client_builder.specs.declared.own_interceptor.OwnInterceptor.{OwnInterceptor}
use Rattle.rate_limit.specs.Pace.{Pace, zero_pace}
use Rattle.client_retries.specs.Meanings.{InterceptorMeans}
use Rattle.client_retries.specs.Strategies.{Closes}
use Rattle.client_retries.specs.declared.strategy.RetryStrategy.{RetryStrategy}
use Rattle.retry_policy.specs.declared.classify.Classifier.{Classifier}
use Rattle.retry_quota.specs.History.{Entry}
use Rattle.retry_quota.specs.declared.permit.Permit.{Permit}
use Rattle.outside_scripted.specs.declared.records.IdentityRecord.{IdentityRecord}
use Rattle.outside_scripted.specs.declared.scripted_outside.ScriptedOutside.{ScriptedOutside}
use Rattle.client_scripted.specs.Clients.{builder_of}
use Rattle.client_scripted.specs.Parts.{identities_of}
use Rattle.cli_shell.specs.declared.status.PrintStatus.{PrintStatus}
use Rattle.smithy_base.specs.declared.intercept.Slot.{Slot}
use Rattle.smithy_context.specs.declared.context.InterceptorContext.{InterceptorContext}
use Rattle.smithy_types.specs.declared.notes.RetryAction.{RetryAction}
use Rattle.smithy_types.specs.declared.partition.RetryPartition.{RetryPartition}
use Rattle.cli_fleet.specs.Invoking.{RunsAll}
use Rattle.cli_fleet.specs.Means.{CallerParts, CallerWorld, cell_means, world_means}
use Rattle.cli_fleet.specs.declared.caller.CallerState.{CallerState}
use Rattle.cli_fleet.specs.declared.caller.CallerState.TheVariants.{Ready, Ended}
use Rattle.cli_fleet.specs.declared.work.CallerWork.{CallerWork}
use Rattle.cli_fleet.specs.declared.work.Told.{Told}
use Rattle.smithy_types.specs.declared.memory.OutOfMemory.{OutOfMemory}

-- the service's custom partition, with the one bucket and the caller's own limiter; without a bucket there is none
abbrev pub caller_partition : List ℕ → Option ℕ → Option RetryPartition
caller_partition service None = None
caller_partition service (Some bucket) =
    Some (record { name = service; custom = Some (record { bucket = 0; limiter = 0 }) })

-- that of a script's client, with the bucket of its rules
abbrev pub partition_for : ClientObject → Option RetryPartition
partition_for c = caller_partition c.target.service c.rules.bucket

module _ {C I : Type 0} where
  -- The invocations are made over the client, and then its strategy is closed; these steps of the bucket were made.
  pub record PlaysAll (place : Place) (means : ServiceMeaning ScriptedOutside (Caller Pace) C I Permit Pace)
      (identities : List IdentityRecord) (first : CallerParts (Caller Pace) Permit Pace C I)
      (invocations : List InvocationRecord) (text : List ℕ) (outcome : Option PrintStatus)
      (steps : List Entry) : Type 0 where
    pub last : CallerParts (Caller Pace) Permit Pace C I
    pub runs : RunsAll means identities first invocations [] last text outcome
    pub emptied : RetryStrategy Permit
    pub after : Caller Pace
    pub closes : Closes (cell_means place) last.strategy last.quota emptied after
    pub steps_are : steps ≡ own after.pass.view

module _ {V W : Type 0} {v : V → Type 0} {w : W → Type 0} (ranked : Classifier ServiceError V v → ℤ)
    (says : Classifier ServiceError V v → InterceptorContext → RetryAction → RetryAction)
    (chain : InterceptorMeans (Slot OwnInterceptor W w)) where
  -- The caller's client is built over its own outside at the script's start, its own limiter, and a pass of the bucket
  -- that has made no step; its invocations are made and printed.
  pub record WorksSo (place : Place) (work : CallerWork) (text : List ℕ) (outcome : Option PrintStatus)
      (steps : List Entry) : Type 0 where
    pub pass : Known
    pub is_of : IsOf place pass
    pub unused : IsUnused pass.view
    pub first : CallerWorld (Caller Pace) Permit Pace (Classifier ServiceError V v) (Slot OwnInterceptor W w)
    pub built : IsBuiltFrom ranked (builder_of (partition_for work.client) work.client)
        (outside_at work.start work.words) (record { pass = pass; limiter = zero_pace }) first
    pub plays : PlaysAll place (world_means (cell_means place) says chain) (identities_of work.client.auth) first.parts
        work.invocations text outcome steps

-- no crate below boxes a classifier,
abbrev pub NoClassifier : Type 0
NoClassifier = ⊥ ⊎ (⊥ ⊎ ⊥)

-- and none an interceptor
abbrev pub NoInterceptor : Type 0
NoInterceptor = ⊥ ⊎ (⊥ ⊎ (⊥ ⊎ (⊥ ⊎ (⊥ ⊎ ⊥))))

-- a caller does its work at the bucket of this place, and makes these steps
abbrev pub Worked : Place → CallerWork → List ℕ → Option PrintStatus → List Entry → Type 0
Worked place work text outcome steps =
    WorksSo {V = NoClassifier} {W = NoInterceptor} {v = none} {w = none} own_ranked own_says own_chain place work text
    outcome steps

-- ---- a caller before and after its thread

-- the steps that it made
abbrev pub steps_of : CallerState → List Entry
steps_of (Ready work) = []
steps_of (Ended told end) = own end.value.view

-- what is told of it is of its work, unless memory ran out
abbrev pub TellsOf : Place → CallerState → Result Told OutOfMemory → List Entry → Type 0
TellsOf place (Ready work) (Ok told) steps = Worked place work told.text.items told.outcome steps
TellsOf place (Ready work) (Err error) steps = Unit {0}
TellsOf place (Ended told end) new steps = Unit {0}

-- how it ends
abbrev pub EndsSo : Place → CallerState → CallerState → Type 0
EndsSo place old (Ended told end) = TellsOf place old told (own end.value.view)
EndsSo place old (Ready work) = ⊥
