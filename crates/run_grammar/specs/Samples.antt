-- Sample runs, call by call, over any requests, responses and payloads.
use Rattle.std.specs.Prelude.{ℕ, Option, None, Some, List, [], ◌∷◌, ◌++◌, ◌≡◌, length}
use Rattle.smithy_types.specs.declared.fault.Outcome.{Outcome}
use Rattle.smithy_types.specs.declared.hook.Hook.{Hook}
use Rattle.smithy_types.specs.declared.hook.Hook.TheVariants as hooks
use Rattle.smithy_types.specs.declared.http.HttpRequest.{HttpRequest}
use Rattle.smithy_types.specs.declared.http.HttpResponse.{HttpResponse}
use Rattle.smithy_types.specs.declared.identity.Endpoint.{Endpoint}
use Rattle.smithy_types.specs.declared.identity.Identity.{Identity}
use Rattle.smithy_types.specs.declared.kinds.StopPoint.{StopPoint}
use Rattle.smithy_context.specs.declared.layer.LayerEntry.{LayerEntry}
use Rattle.smithy_types.specs.declared.notes.Choice.{Choice}
use Rattle.smithy_types.specs.declared.payload.Payload.{Payload}
use Rattle.smithy_context.specs.declared.setting.Setting.TheVariants as settings
use Rattle.smithy_context.specs.declared.setting.SettingKey.TheVariants as keys
use Rattle.run_grammar.specs.declared.kind.Kind.{Kind}
use Rattle.run_grammar.specs.declared.kind.Kind.TheVariants as kinds
use Rattle.run_grammar.specs.declared.kind.ConfigureStage.TheVariants as stages
use Rattle.run_grammar.specs.declared.answer.Answer.{Answer}
use Rattle.run_grammar.specs.declared.answer.Answer.TheVariants as answers
use Rattle.run_grammar.specs.declared.answer.Entry.{Entry}
use Rattle.run_grammar.specs.Entry.{entry}
use Rattle.run_grammar.specs.Standing.{State, asked, standing, start, step}
use Rattle.run_grammar.specs.Laws.{IsWhole}

-- a question's kind, and what it is answered
pub record Said : Type 0 where
  pub kind : Kind
  pub answer : Answer

-- a question of this kind, so answered
abbrev pub said : Kind → Answer → Said
said k a = record { kind = k; answer = a }

-- the entries of questions of these kinds, each with the parts that stand, so answered
abbrev pub asking : State → List Said → List Entry
asking s [] = []
asking s (x ∷ l) = entry (asked x.kind s) x.answer ∷ asking (step s (entry (asked x.kind s) x.answer)) l

-- from this input they are one whole run of so many calls, at whose end this outcome stands
pub record Comes (stop : StopPoint) (input : Payload) (l : List Said) (calls : ℕ)
    (outcome : Option Outcome) : Type 0 where
  pub whole : IsWhole stop (start input) (asking (start input) l)
  pub counted : length l ≡ calls
  pub left : (standing (start input) (asking (start input) l)).context.context.view.outcome ≡ outcome

-- what the world answers in a sample
pub record Parts : Type 0 where
  pub input : Payload
  pub request : HttpRequest
  pub scheme : List ℕ
  pub identity : Identity
  pub endpoint : Endpoint
  pub applied : HttpRequest
  pub signed : HttpRequest
  pub response : HttpResponse
  pub content : List ℕ
  pub output : Payload
  pub text : List ℕ

-- ---- stretches of calls

-- a hook that changes nothing, sets nothing and doesn't fail
abbrev pub quiet : Hook → Said
quiet h = said (kinds.Hook h) (answers.Hooked (record { change = None; settings = []; failure = None }))

-- a layer that sets the operation's timeout and the attempt's
abbrev pub deadlines : Option ℕ → Option ℕ → List LayerEntry
deadlines o a =
    record {
      key = keys.Timeouts;
      value = Some (settings.Timeouts (record { connect = None; read = None; operation = o; attempt = a }));
    }
    ∷ []

-- the configuration, in which the client sets this layer
abbrev pub config_calls : List LayerEntry → List Said
config_calls l =
    said (kinds.Configure stages.Client) (answers.Layer l)
    ∷ quiet hooks.ReadBeforeExecutionClient
    ∷ said (kinds.Configure stages.Operation) (answers.Layer [])
    ∷ quiet hooks.ReadBeforeExecutionOperation
    ∷ said (kinds.Configure stages.Final) (answers.Layer [])
    ∷ []

-- from the serialization, which gives this request, up to the loop of attempts
abbrev pub front_calls : HttpRequest → List Said
front_calls r =
    quiet hooks.ModifyBeforeSerialization
    ∷ quiet hooks.ReadBeforeSerialization
    ∷ said kinds.Serialize (answers.Request r)
    ∷ quiet hooks.ReadAfterSerialization
    ∷ quiet hooks.ModifyBeforeRetryLoop
    ∷ []

-- the strategy lets the attempt go
abbrev pub go : Said
go = said kinds.Initial answers.Go

-- an attempt up to its transmission
abbrev pub open_calls : Parts → List Said
open_calls p =
    quiet hooks.ReadBeforeAttempt
    ∷ said kinds.Choose (answers.Chosen
    (record { scheme = p.scheme; identity = p.identity; endpoint = None; settings = []; note = None }))
    ∷ said kinds.Endpoint (answers.Endpoint p.endpoint)
    ∷ said kinds.Apply (answers.Request p.applied)
    ∷ quiet hooks.ModifyBeforeSigning
    ∷ quiet hooks.ReadBeforeSigning
    ∷ said kinds.Sign (answers.Request p.signed)
    ∷ quiet hooks.ReadAfterSigning
    ∷ quiet hooks.ModifyBeforeTransmit
    ∷ quiet hooks.ReadBeforeTransmit
    ∷ []

-- the transmission, which gives this response, with the hooks after it
abbrev pub send_calls : HttpResponse → List Said
send_calls r =
    said kinds.Transmit (answers.Response r)
    ∷ quiet hooks.ReadAfterTransmit
    ∷ quiet hooks.ModifyBeforeDeserialization
    ∷ quiet hooks.ReadBeforeDeserialization
    ∷ []

-- the body is read as these bytes and deserialized to this outcome
abbrev pub read_calls : List ℕ → Outcome → List Said
read_calls b o =
    said kinds.Stream answers.NotStreaming
    ∷ said kinds.Body (answers.Read b)
    ∷ said kinds.Deserialize (answers.Outcome o)
    ∷ quiet hooks.ReadAfterDeserialization
    ∷ []

-- the two completion hooks of an attempt
abbrev pub settle_calls : List Said
settle_calls = quiet hooks.ModifyBeforeAttemptCompletion ∷ quiet hooks.ReadAfterAttempt ∷ []

-- the strategy decides so on a further attempt
abbrev pub decided : Choice → Said
decided c = said kinds.Decide (answers.Decided c None)

-- the two finalizers
abbrev pub finish_calls : List Said
finish_calls = quiet hooks.ModifyBeforeCompletion ∷ quiet hooks.ReadAfterExecution ∷ []

-- an attempt that comes to this outcome
abbrev pub attempt_calls : Parts → Outcome → List Said
attempt_calls p o = open_calls p ++ send_calls p.response ++ read_calls p.content o ++ settle_calls
