-- The call that is open at a client's connector, and why its answers come.
use Rattle.std.specs.Prelude.{◌≡◌, List}
use Rattle.client_call.specs.Causes.{IsCounted, IsUploaded, ReadsAll, SendsWell}
use Rattle.client_call.specs.declared.call.Call.{Call}
use Rattle.client_call.specs.declared.call.Call.TheVariants.{Idle}
use Rattle.client_components.specs.Resting.{Exchanges}
use Rattle.client_components.specs.Meaning.{ClientMeaning}
use Rattle.client_components.specs.Serving.{Served, Serves}
use Rattle.client_components.specs.declared.parts.Parts.{Parts}
use Rattle.outside.specs.Calls.{OutsideCall}
use Rattle.run_grammar.specs.declared.answer.Answer.{Answer}
use Rattle.run_grammar.specs.declared.answer.Entry.{Entry}
use Rattle.run_grammar.specs.declared.question.Question.{Question}
use Rattle.run_grammar.specs.declared.question.Question.TheVariants as questions
use Rattle.smithy_types.specs.Chain.{Chained}

-- an upload that is watched was read before it was sent, and the guard of an open body has counted its bytes
pub record IsSound (call : Call) : Type 0 where
  pub uploaded : IsUploaded call
  pub counted : IsCounted call

module _ {T X Q C I A R Z D P L : Type 0} (means : ClientMeaning T X Q C I A R Z D P L) where
  -- the calls of an entry at the connector, which tell this
  pub record ByTheConnector (tells : List OutsideCall → Type 0) (old new : Parts T X Q C I A R Z D P L) : Type 0 where
    pub calls : List OutsideCall
    pub made : Chained means.makes old.outside calls new.outside
    pub told : tells calls

  -- a Transmit failed only as the connector did in this ask; a Body is Read with the bytes of all asks,
  -- and Pending only where there was no frame or behind 64 frames
  abbrev pub HasCause : Parts T X Q C I A R Z D P L → Question → Answer → Parts T X Q C I A R Z D P L → Type 0
  HasCause old (questions.Transmit settings request) a new = ByTheConnector (SendsWell a new.call) old new
  HasCause old (questions.Body settings response) a new = ByTheConnector (ReadsAll old.call a new.call) old new
  HasCause old _ a new = Unit {0}

  -- an entry is served, and has its cause
  abbrev pub ServesCaused : Parts T X Q C I A R Z D P L → Entry → Parts T X Q C I A R Z D P L → Type 0
  ServesCaused old e new = Serves means old e new × HasCause old e.question e.answer new

  -- the call is sound where nothing is open, so at a client's start and once outside and quota are exchanged;
  -- it stays so, whatever is served, and each entry that is served has its cause
  pub record CallsStaySound : Type 0 where
    pub begun : (parts : Parts T X Q C I A R Z D P L) → parts.call ≡ Idle → IsSound parts.call
    pub exchanged : (old : Parts T X Q C I A R Z D P L) (outside : X) (quota : Q) (new : Parts T X Q C I A R Z D P L)
        (outside_after : X) (quota_after : Q)
        → Exchanges means.makes old outside quota new outside_after quota_after → IsSound new.call
    pub served : (old new : Parts T X Q C I A R Z D P L) (l : List Entry) → IsSound old.call → Served means old l new
        → IsSound new.call
    pub caused : (old new : Parts T X Q C I A R Z D P L) (l : List Entry) → IsSound old.call → Served means old l new
        → Chained ServesCaused old l new
