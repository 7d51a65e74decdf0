-- What the run of an operation prints.
use Rattle.std.proofs.Common.{◌≡◌, ℕ, ◌≤◌, ◌==◌, Bool, true, false, cond, List, [], ◌++◌, length, Option, Some, None, Result, Ok, Err, refl, ap, sym, ◌∙◌, subst}
use Rattle.orchestrate.specs.Answered.{ContextAnswered, PayloadAnswered}
use Rattle.orchestrate.specs.declared.execution.InvokeError.{InvokeError}
use Rattle.orchestrate.specs.declared.execution.InvokeError.TheVariants.{Sdk, Unfinished, WrongType, OutOfMemory}
use Rattle.run_grammar.specs.Laws.{EachFits, IsWhole, Begins}
use Rattle.run_grammar.specs.Standing.{WellHanded, standing, start, starting}
use Rattle.run_grammar.specs.declared.answer.Entry.{Entry}
use Rattle.json_print.specs.Endings.{Ends, EndsBy, ending_of, error_ending, output_ending, stopped_by, stopped_ending_of}
use Rattle.json_print.specs.Print.{run_text}
use Rattle.json_print.specs.declared.ending.Ending.{Ending}
use Rattle.json_print.specs.declared.ending.Ending.TheVariants as endings
use Rattle.json_print.specs.declared.head.RunHead.{RunHead}
use Rattle.smithy_context.specs.declared.context.InterceptorContext.{InterceptorContext}
use Rattle.smithy_types.specs.declared.fault.Outcome.{Outcome}
use Rattle.smithy_types.specs.declared.fault.Outcome.TheVariants as outcomes
use Rattle.smithy_types.specs.declared.fault.SdkError.{SdkError}
use Rattle.smithy_types.specs.declared.fault.SdkError.TheVariants as errors
use Rattle.smithy_types.specs.declared.http.HttpRequest.{HttpRequest}
use Rattle.smithy_types.specs.declared.kinds.StopPoint.{StopPoint}
use Rattle.smithy_types.specs.declared.kinds.StopPoint.TheVariants as stops
use Rattle.smithy_types.specs.declared.payload.Payload.{Payload}
use Rattle.run_grammar.proofs.Paths.{handed_of, fits_of}
use Rattle.runcheck.specs.Carried.{IsCarried}
use Rattle.runcheck.specs.Follow.{calls_of, log_of}
use Rattle.runcheck.specs.Reach.{IsPrintOf, Reach, ending_at, whole_ending}
use Rattle.runcheck.specs.Told.{IsTold, told_by}
use Rattle.runcheck.specs.declared.told.Call.{Call}
use Rattle.runcheck.specs.declared.told.Told.{Told}
use Rattle.runcheck.proofs.Endings.{ending_answered, ending_stopped, nothing_there}
use Rattle.runcheck.proofs.Following.{log_back}
use Rattle.runcheck.proofs.Reaching.{told_once}
use Rattle.runcheck.proofs.ToldPrints.{print_told}

-- what is to be shown of a run that ended
abbrev IsEnded : StopPoint → RunHead → List Entry → Ending → Type 0
IsEnded stop h log e = IsWhole stop (start h.input) log × (length log ≤ h.fuel) × (e ≡ ending_at stop h (standing (start h.input) log).context.context)

used_up : {X : Type 0} (e : Ending) → Some endings.Unfinished ≡ Some e → (e ≡ endings.Unfinished → ⊥) → X
used_up e h n = absurd (n (cc))

over_same : (stop : StopPoint) (h : RunHead) (log l : List Entry) (e : Ending) → log ≡ l → IsEnded stop h l e → IsEnded stop h log e
over_same stop h log l e g w = subst (λ m. IsEnded stop h m e) (sym g) w

ended_payload : (h : RunHead) (log : List Entry) (e : Ending) (r : Result Payload (InvokeError Payload)) → PayloadAnswered h.input h.fuel r [] log → ending_of h r ≡ Some e → (e ≡ endings.Unfinished → ⊥) → IsEnded stops.None h log e
unfolding ending_of
ended_payload h log e (Ok output) (l, g, b, w, a) s n = over_same stops.None h log l e g (w, b, ending_answered h (standing (start h.input) l).context.context (Ok output) e a s)
ended_payload h log e (Err (Sdk error)) (l, g, b, w, a) s n = over_same stops.None h log l e g (w, b, ending_answered h (standing (start h.input) l).context.context (Err (Sdk error)) e a s)
ended_payload h log e (Err Unfinished) a s n = used_up e s n
ended_payload h log e (Err (WrongType payload)) a s n = absurd a
ended_payload h log e (Err OutOfMemory) a s n = nothing_there _ e s

ended_context : (h : RunHead) (log : List Entry) (e : Ending) (r : Result InterceptorContext (InvokeError Payload)) → ContextAnswered h.input stops.BeforeTransmit h.fuel r [] log → stopped_ending_of h r ≡ Some e → (e ≡ endings.Unfinished → ⊥) →
    IsEnded stops.BeforeTransmit h log e
unfolding stopped_ending_of
ended_context h log e (Ok context) (l, g, b, w, a) s n = over_same stops.BeforeTransmit h log l e g (w, b, ending_stopped h (standing (start h.input) l).context.context (Ok context) e a s)
ended_context h log e (Err (Sdk error)) (l, g, b, w, a) s n = over_same stops.BeforeTransmit h log l e g (w, b, ending_stopped h (standing (start h.input) l).context.context (Err (Sdk error)) e a s)
ended_context h log e (Err Unfinished) a s n = used_up e s n
ended_context h log e (Err (WrongType payload)) a s n = absurd a
ended_context h log e (Err OutOfMemory) a s n = nothing_there _ e s

ended_at : (stop : StopPoint) (h : RunHead) (log : List Entry) (e : Ending) → EndsBy h stop [] log e → (e ≡ endings.Unfinished → ⊥) → IsEnded stop h log e
ended_at stops.None h log e (r, a, s) n = ended_payload h log e r a s n
ended_at stops.BeforeTransmit h log e (r, a, s) n = ended_context h log e r a s n

pub ended_reached : (h : RunHead) (log : List Entry) (e : Ending) → Ends h [] log e → (e ≡ endings.Unfinished → ⊥) → IsCarried h log e → Reach (run_text h log e)
ended_reached h log e a n c =
    let w = ended_at h.stop h log e a n in
    (h, log, record { whole = w.0; within = w.1; printed = ap (run_text h log) w.2 }, print_told h log e w.0.fitting c)

-- ---- used up

head_of_told : (h k : RunHead) (cs ds : List Call) (t u : Told) → t ≡ record { head = h; calls = cs } → u ≡ record { head = k; calls = ds } → t ≡ u → (h ≡ k) × (cs ≡ ds)
head_of_told h k cs ds t u a b e =
    let s = sym a ∙ e ∙ b in
    (ap (λ (x : Told). x.head) s, ap (λ (x : Told). x.calls) s)

-- what begins a run is handed what stands, and fits
begun : (stop : StopPoint) (p : Payload) (l : List Entry) → Begins stop (start p) l → WellHanded (start p) l × EachFits l
begun stop p l (m, w) = ((handed_of l m (start p) w.handed).0, (fits_of l m w.fitting).0)

abbrev IsOpen : StopPoint → RunHead → List Entry → Type 0
IsOpen stop h log = Begins stop (start h.input) log × (IsWhole stop (start h.input) log → ⊥)

if_not : (b : Bool) (p : Payload) (x : Ending) → (x ≡ endings.Unfinished → ⊥) → cond b x (endings.WrongType p) ≡ endings.Unfinished → ⊥
if_not true p x n h = n h
if_not false p x n h = absurd (cc)

output_not : (p : Payload) → endings.Output p ≡ endings.Unfinished → ⊥
output_not p h = absurd (cc)

error_not : (e : SdkError Payload) → endings.Error e ≡ endings.Unfinished → ⊥
error_not e h = absurd (cc)

stopped_not : (r : Option HttpRequest) → endings.Stopped r ≡ endings.Unfinished → ⊥
stopped_not r h = absurd (cc)

output_ending_not : (k : ℕ) (p : Payload) → output_ending k p ≡ endings.Unfinished → ⊥
output_ending_not k p h = if_not (p.kind == k) p (endings.Output p) (output_not p) h

error_ending_not : (k : ℕ) (e : SdkError Payload) → error_ending k e ≡ endings.Unfinished → ⊥
error_ending_not k (errors.ServiceError p r) h = if_not (p.kind == k) p (endings.Error (errors.ServiceError p r)) (error_not _) h
error_ending_not k (errors.ConstructionFailure f) h = error_not _ h
error_ending_not k (errors.TimeoutError f) h = error_not _ h
error_ending_not k (errors.DispatchFailure f) h = error_not _ h
error_ending_not k (errors.ResponseError f r) h = error_not _ h

stopped_by_not : (r : Option HttpRequest) (o : Option Outcome) → stopped_by r o ≡ endings.Unfinished → ⊥
stopped_by_not r (Some (outcomes.Output p)) h = output_not p h
stopped_by_not r (Some (outcomes.Failed f)) h = stopped_not r h
stopped_by_not r None h = stopped_not r h

inside_some : (x y : Ending) → Some x ≡ Some y → x ≡ y
inside_some x y h = cc

open_run : (stop : StopPoint) (h : RunHead) (log l : List Entry) → log ≡ l → IsOpen stop h l → IsOpen stop h log
open_run stop h log l g w = subst (λ m. IsOpen stop h m) (sym g) w

open_payload : (h : RunHead) (log : List Entry) (r : Result Payload (InvokeError Payload)) → PayloadAnswered h.input h.fuel r [] log → ending_of h r ≡ Some endings.Unfinished → IsOpen stops.None h log
unfolding ending_of
open_payload h log (Ok output) a s = absurd (output_ending_not h.output_kind output (inside_some _ _ s))
open_payload h log (Err (Sdk error)) a s = absurd (error_ending_not h.error_kind error (inside_some _ _ s))
open_payload h log (Err Unfinished) (l, g, b, w, n) s = open_run stops.None h log l g (w, n)
open_payload h log (Err (WrongType payload)) a s = absurd a
open_payload h log (Err OutOfMemory) a s = nothing_there _ _ s

open_context : (h : RunHead) (log : List Entry) (r : Result InterceptorContext (InvokeError Payload)) → ContextAnswered h.input stops.BeforeTransmit h.fuel r [] log → stopped_ending_of h r ≡ Some endings.Unfinished → IsOpen stops.BeforeTransmit h log
unfolding stopped_ending_of
open_context h log (Ok context) a s = absurd (stopped_by_not context.view.request context.view.outcome (inside_some _ _ s))
open_context h log (Err (Sdk error)) a s = absurd (error_ending_not h.error_kind error (inside_some _ _ s))
open_context h log (Err Unfinished) (l, g, b, w, n) s = open_run stops.BeforeTransmit h log l g (w, n)
open_context h log (Err (WrongType payload)) a s = absurd a
open_context h log (Err OutOfMemory) a s = nothing_there _ _ s

open_at : (stop : StopPoint) (h : RunHead) (log : List Entry) → EndsBy h stop [] log endings.Unfinished → IsOpen stop h log
open_at stops.None h log (r, a, s) = open_payload h log r a s
open_at stops.BeforeTransmit h log (r, a, s) = open_context h log r a s

-- two well handed lists with the same calls are one
one_list : (p q : Payload) (l m : List Entry) → p ≡ q → calls_of l ≡ calls_of m → WellHanded (start p) l → WellHanded (start q) m → l ≡ m
one_list p q l m e c w v = sym (log_back l (start p) w) ∙ ap (λ x. log_of (starting x) (calls_of l)) e ∙ ap (log_of (starting q)) c ∙ log_back m (start q) v

pub unfinished_not : (h : RunHead) (log : List Entry) → Ends h [] log endings.Unfinished → IsCarried h log endings.Unfinished → Reach (run_text h log endings.Unfinished) → ⊥
unfinished_not h log a c (k, m, p, t) =
    let o = open_at h.stop h log a in
    let b = begun h.stop h.input log o.0 in
    let s = head_of_told h k (calls_of log) (calls_of m) _ _ refl refl (told_once (run_text h log endings.Unfinished) _ _ (print_told h log endings.Unfinished b.1 c) t) in
    let l = one_list h.input k.input log m (ap (λ (x : RunHead). x.input) s.0) s.1 b.0 p.whole.handed in
    o.1 (subst (λ x. IsWhole h.stop (start h.input) x) (sym l) (subst (λ (x : RunHead). IsWhole x.stop (start x.input) m) (sym s.0) p.whole))

pub whole_reached : (h : RunHead) (log : List Entry) (text : List ℕ) → IsPrintOf h log text → IsCarried h log (whole_ending h (standing (start h.input) log).context.context) → Reach text
whole_reached h log text p c =
    (h, log, p, subst (λ t. IsTold t (record { head = h; calls = calls_of log })) (sym p.printed) (print_told h log (whole_ending h (standing (start h.input) log).context.context) p.whole.fitting c))
