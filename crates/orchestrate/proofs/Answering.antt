-- From what a run over payloads answers to what an operation answers.
use Rattle.std.proofs.Common.{Bool, false, ℕ, List, [], Result, Ok, Err, ◌≡◌, sym, ap, ◌∙◌, subst, inl, inr, append-nil, arith}
use Rattle.smithy_types.specs.declared.fault.SdkError.{SdkError}
use Rattle.smithy_types.specs.declared.kinds.StopPoint.{StopPoint}
use Rattle.smithy_types.specs.declared.kinds.StopPoint.TheVariants as stops
use Rattle.smithy_types.specs.declared.payload.Payload.{Payload}
use Rattle.smithy_context.specs.declared.context.InterceptorContext.{InterceptorContext}
use Rattle.run_grammar.specs.declared.answer.Entry.{Entry}
use Rattle.run_grammar.specs.Standing.{State, start}
use Rattle.run_grammar.specs.Laws.{IsWhole, Begins}
use Rattle.orchestrate.specs.declared.execution.InvokeError.{InvokeError}
use Rattle.orchestrate.specs.declared.execution.InvokeError.TheVariants.{Sdk, Unfinished, WrongType, OutOfMemory}
use Rattle.orchestrate.specs.Finish.{answer_of}
use Rattle.orchestrate.specs.Growth.{GrewByAtMost}
use Rattle.orchestrate.specs.Stands.{RunLost}
use Rattle.orchestrate.specs.Answered.{WholeRun, PayloadAnswered, OperationAnswered, OutputRead, SdkErrorRead, ErrorRead}

whole_begins : (stop : StopPoint) (s : State) (l : List Entry) → IsWhole stop s l → Begins stop s l
whole_begins stop s l w = ([], subst (λ m. IsWhole stop s m) (sym (append-nil l)) w)

whole_lost : (p : Payload) (fuel : ℕ) (before log : List Entry) (ends : InterceptorContext → Type 0) → WholeRun p stops.None fuel before log ends → RunLost p stops.None fuel before log
whole_lost p fuel before log ends (l, g, b, w, e) = (l, g, b, inl (whole_begins stops.None (start p) l w))

-- whatever was answered, the log grew by at most fuel entries
pub grew_answered : (p : Payload) (fuel : ℕ) (r : Result Payload (InvokeError Payload)) (before log : List Entry) → PayloadAnswered p fuel r before log → GrewByAtMost fuel before log
grew_answered p fuel (Ok o) before log (l, g, b, w, e) = (l, g, b)
grew_answered p fuel (Err (Sdk s)) before log (l, g, b, w, e) = (l, g, b)
grew_answered p fuel (Err Unfinished) before log (l, g, b, w, e) = (l, g, omega (arith, b))
grew_answered p fuel (Err (WrongType q)) before log h = absurd h
grew_answered p fuel (Err OutOfMemory) before log (l, g, b, e) = (l, g, b)

module _ {O E : Type 0} (takes : Payload → Bool) (reads : Payload → O → Type 0) (takes_error : Payload → Bool) (reads_error : Payload → E → Type 0) where
  pub read_ok : (p o : Payload) (fuel : ℕ) (r : Result O (InvokeError E)) (before log : List Entry) → PayloadAnswered p fuel (Ok o) before log → OutputRead takes reads o r →
      OperationAnswered takes reads takes_error reads_error p fuel r before log
  read_ok p o fuel (Ok x) before log (l, g, b, w, e) (t, u) = (l, g, b, w, (o, e, t, u))
  read_ok p o fuel (Err (WrongType q)) before log (l, g, b, w, e) (h, t) = (l, g, b, w, inl (e ∙ ap Ok (sym h), subst (λ x. takes x ≡ false) (sym h) t))
  read_ok p o fuel (Err OutOfMemory) before log h u = whole_lost p fuel before log (λ c. answer_of c ≡ Ok o) h
  read_ok p o fuel (Err Unfinished) before log h u = absurd u
  read_ok p o fuel (Err (Sdk s)) before log h u = absurd u

  read_sdk : (p : Payload) (s : SdkError Payload) (fuel : ℕ) (e : InvokeError E) (before log : List Entry) → PayloadAnswered p fuel (Err (Sdk s)) before log →
      SdkErrorRead takes_error reads_error s e → OperationAnswered takes reads takes_error reads_error p fuel (Err e) before log
  read_sdk p s fuel (Sdk x) before log (l, g, b, w, e) u = (l, g, b, w, (s, e, u))
  read_sdk p s fuel (WrongType q) before log (l, g, b, w, e) (r, h, t) = (l, g, b, w, inr (r, e ∙ ap Err h, t))
  read_sdk p s fuel OutOfMemory before log h u = whole_lost p fuel before log (λ c. answer_of c ≡ Err s) h
  read_sdk p s fuel Unfinished before log h u = absurd u

  pub read_err : (p : Payload) (f : InvokeError Payload) (fuel : ℕ) (e : InvokeError E) (before log : List Entry) → PayloadAnswered p fuel (Err f) before log →
      ErrorRead takes_error reads_error f e → OperationAnswered takes reads takes_error reads_error p fuel (Err e) before log
  read_err p (Sdk s) fuel e before log h u = read_sdk p s fuel e before log h u
  read_err p Unfinished fuel e before log h u = subst (λ x. OperationAnswered takes reads takes_error reads_error p fuel (Err x) before log) (sym u) h
  read_err p (WrongType q) fuel e before log h u = absurd h
  read_err p OutOfMemory fuel e before log h u = subst (λ x. OperationAnswered takes reads takes_error reads_error p fuel (Err x) before log) (sym u) h
