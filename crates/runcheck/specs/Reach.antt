-- Which texts are prints of whole runs.
use Rattle.std.specs.Prelude.{ℕ, ◌≡◌, ◌≤◌, List, length, cond, Result, Ok, Err}
use Rattle.orchestrate.specs.Finish.{answer_of, failure_of}
use Rattle.run_grammar.specs.Laws.{IsWhole}
use Rattle.run_grammar.specs.Standing.{standing, start}
use Rattle.run_grammar.specs.declared.answer.Entry.{Entry}
use Rattle.json_print.specs.Endings.{error_ending, output_ending, stopped_by}
use Rattle.json_print.specs.Print.{run_text}
use Rattle.json_print.specs.declared.ending.Ending.{Ending}
use Rattle.json_print.specs.declared.head.RunHead.{RunHead}
use Rattle.smithy_context.specs.Failures.{is_failure}
use Rattle.smithy_context.specs.declared.context.InterceptorContext.{InterceptorContext}
use Rattle.smithy_types.specs.declared.fault.SdkError.{SdkError}
use Rattle.smithy_types.specs.declared.kinds.StopPoint.{StopPoint}
use Rattle.smithy_types.specs.declared.kinds.StopPoint.TheVariants as stops
use Rattle.smithy_types.specs.declared.payload.Payload.{Payload}
use Rattle.runcheck.specs.Follow.{calls_of}
use Rattle.runcheck.specs.Told.{IsTold}

-- the ending of a run to its end, by its answer
abbrev pub ending_by : RunHead → Result Payload (SdkError Payload) → Ending
ending_by h (Ok p) = output_ending h.output_kind p
ending_by h (Err e) = error_ending h.error_kind e

-- The answer of a whole run, by the context at its end. At the stop point it is the request that stands, or an output
-- that a hook wrote, where no failure stands.
abbrev pub ending_at : StopPoint → RunHead → InterceptorContext → Ending
ending_at stops.None h c = ending_by h (answer_of c)
ending_at stops.BeforeTransmit h c =
    cond (is_failure c.view.outcome) (error_ending h.error_kind (failure_of c))
    (stopped_by c.view.request c.view.outcome)

-- the answer of a whole run, by its head and the context at its end
abbrev pub whole_ending : RunHead → InterceptorContext → Ending
whole_ending h c = ending_at h.stop h c

-- The text is the print of this whole run, which has at most its fuel of entries, and of its answer.
pub record IsPrintOf (head : RunHead) (log : List Entry) (text : List ℕ) : Type 0 where
  pub whole : IsWhole head.stop (start head.input) log
  pub within : length log ≤ head.fuel
  pub printed : text ≡ run_text head log (whole_ending head (standing (start head.input) log).context.context)

-- The text is the print of a whole run and of its answer, and its lines are read as what they were printed for.
abbrev pub Reach : List ℕ → Type 0
Reach text =
    (head : RunHead) × (log : List Entry) × IsPrintOf head log text
    × IsTold text (record { head = head; calls = calls_of log })
