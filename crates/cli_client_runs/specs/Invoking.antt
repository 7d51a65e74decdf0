-- One invocation of a client's operation.
use Rattle.std.specs.Prelude.{◌≡◌, ◌⊎◌, ℕ, List, [], None, Some}
use Rattle.json_scripts.specs.declared.client.terms.InvocationRecord.{InvocationRecord}
use Rattle.client_components.specs.Resting.{Exchanges}
use Rattle.rate_limit.specs.Pace.{Pace}
use Rattle.retry_quota.specs.Registers.{Registers}
use Rattle.run_grammar.specs.declared.answer.Entry.{Entry}
use Rattle.json_print.specs.Endings.{Ends}
use Rattle.json_print.specs.declared.ending.Ending.{Ending}
use Rattle.json_print.specs.declared.head.RunHead.{RunHead}
use Rattle.outside_scripted.specs.Makes.{Makes}
use Rattle.outside_scripted.specs.declared.call.OpenCall.TheVariants.{Idle}
use Rattle.outside_scripted.specs.declared.records.IdentityRecord.{IdentityRecord}
use Rattle.outside_scripted.specs.declared.records.ResponseRecord.{ResponseRecord}
use Rattle.outside_scripted.specs.declared.scripted_outside.ScriptedOutside.{ScriptedOutside}
use Rattle.client_scripted.specs.Clients.{ServiceWorld}
use Rattle.cli_client_runs.specs.Noted.{Noted}
use Rattle.client_scripted.specs.declared.client.ScriptedClient.{ScriptedClient}
use Rattle.smithy_types.specs.declared.kinds.StopPoint.{StopPoint}
use Rattle.smithy_types.specs.declared.payload.Payload.{Payload}

-- a run of the service's operation: outputs are of kind 1, errors of kind 2
abbrev pub head_of : Payload → ℕ → StopPoint → RunHead
head_of input fuel stop = record { input = input; fuel = fuel; stop = stop; output_kind = 1; error_kind = 2 }

-- the run that an invocation asks for: its input, its fuel and its stop point
abbrev pub head_by : InvocationRecord → RunHead
head_by i = head_of i.input i.fuel i.stop

-- the outside with the responses of an invocation and the identities of its client; the clock and the words go on
abbrev pub begun : List ResponseRecord → List IdentityRecord → ScriptedOutside → ScriptedOutside
begun responses identities outside = record outside {
  records = responses;
  identities = Some identities;
  sleeps = [];
  call = Idle;
  load = None;
}

-- Outside and quota went into the client and came back, whatever the run left of the client's parts between.
-- What is open is ended at both exchanges, and the client has its own outside and quota again.
pub record Returned {C I : Type 0} (old : ScriptedClient C I) (outside : ScriptedOutside) (quota : Registers Pace)
    (i : InvocationRecord) (new : ScriptedClient C I) (outside_after : ScriptedOutside)
    (quota_after : Registers Pace) : Type 0 where
  pub entered : ServiceWorld C I
  pub stopped : ServiceWorld C I
  pub own_outside : ScriptedOutside
  pub own_quota : Registers Pace
  pub enters : Exchanges Makes old.world.parts (begun i.responses old.identities outside) quota entered.parts
      own_outside own_quota
  pub leaves : Exchanges Makes stopped.parts own_outside own_quota new.world.parts outside_after quota_after
  pub others : new ≡ record old { world = new.world }

-- What is left without memory. Before the run client and quota are as they were,
-- and the outside is so too or has been handed the invocation; behind it outside and quota came back.
abbrev pub Stops : {C I : Type 0} → ScriptedClient C I → ScriptedOutside → Registers Pace → InvocationRecord
    → ScriptedClient C I → ScriptedOutside → Registers Pace → Type 0
Stops old outside quota i new outside_after quota_after =
    ((new ≡ old) × (quota_after ≡ quota)
    × ((outside_after ≡ outside) ⊎ (outside_after ≡ begun i.responses old.identities outside)))
    ⊎ Returned old outside quota i new outside_after quota_after

module _ {C I : Type 0} (relates : ServiceWorld C I → List Entry → ServiceWorld C I → Type 0) where
  -- Outside and quota go into the client, the operation is run over it to this ending, each entry is answered from the
  -- client's parts, and outside and quota come back. What is open is ended at both exchanges.
  pub record Invoked (old : ScriptedClient C I) (outside : ScriptedOutside) (quota : Registers Pace)
      (i : InvocationRecord) (log : List Entry) (ending : Ending) (new : ScriptedClient C I)
      (outside_after : ScriptedOutside) (quota_after : Registers Pace) : Type 0 where
    pub entered : ServiceWorld C I
    pub served : ServiceWorld C I
    pub own_outside : ScriptedOutside
    pub own_quota : Registers Pace
    pub enters : Exchanges Makes old.world.parts (begun i.responses old.identities outside) quota entered.parts
        own_outside own_quota
    pub serves : relates entered log served
    pub leaves : Exchanges Makes served.parts own_outside own_quota new.world.parts outside_after quota_after
    pub ends : Ends (head_by i) [] log ending
    pub others : new ≡ record old { world = new.world }

  -- The same, and the moment of the client's outside behind each entry is noted.
  pub record InvokedNoting (old : ScriptedClient C I) (outside : ScriptedOutside) (quota : Registers Pace)
      (i : InvocationRecord) (before : List ℕ) (log : List Entry) (ending : Ending) (new : ScriptedClient C I)
      (outside_after : ScriptedOutside) (quota_after : Registers Pace) (after : List ℕ) : Type 0 where
    pub invoked : Invoked old outside quota i log ending new outside_after quota_after
    pub noted : Noted relates (λ w. w.parts.outside.moment) invoked.entered before log invoked.served after
