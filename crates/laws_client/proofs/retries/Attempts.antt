-- Settings bound the attempts of a run whose further attempts are paid for.
use Rattle.std.proofs.Common.{◌≡◌, ◌∙◌, sym, subst, ℕ, ◌^◌, ◌<◌, ◌≤◌, Bool, true, List, [], ◌∷◌, ◌++◌, length, Option, Some, None, Result, Ok, Err, inl, inr, arith}
use Rattle.std.specs.List.{AllByRecursion}
use Rattle.std.proofs.lemmas.List.{append_cancel_left}
use Rattle.laws_client.specs.Attempts.Deciding.{AttemptsAreBounded, GoesOnBelow, goes_on}
use Rattle.client_components.specs.Paying.{AnswerPays, Pays, PaysFor, Prices}
use Rattle.orchestrate.specs.Answered.{InputAnswered}
use Rattle.orchestrate.specs.Handing.{HadMemory}
use Rattle.orchestrate.specs.declared.execution.InvokeError.{InvokeError}
use Rattle.orchestrate.specs.declared.execution.InvokeError.TheVariants.{Sdk, Unfinished, WrongType, OutOfMemory}
use Rattle.retry_policy.specs.Standing.{standing_retry}
use Rattle.run_grammar.specs.Laws.{IsWhole}
use Rattle.run_grammar.specs.Standing.{start}
use Rattle.run_grammar.specs.declared.answer.Answer.{Answer}
use Rattle.run_grammar.specs.declared.answer.Answer.TheVariants as answers
use Rattle.run_grammar.specs.declared.answer.Entry.{Entry}
use Rattle.run_grammar.specs.declared.question.Question.{Question}
use Rattle.run_grammar.specs.declared.question.Question.TheVariants as questions
use Rattle.smithy_context.specs.StandingLayers.{StandingLayers}
use Rattle.smithy_types.specs.declared.config.RetryConfig.{RetryConfig}
use Rattle.smithy_types.specs.declared.kinds.StopPoint.TheVariants as stops
use Rattle.smithy_types.specs.declared.notes.Choice.{Choice}
use Rattle.smithy_types.specs.declared.notes.Choice.TheVariants.{Yes, No, NoAfter, Delay}
use Rattle.smithy_types.specs.declared.notes.DecideNote.{DecideNote}
use Rattle.smithy_types.specs.declared.payload.Payload.{Payload}
use Rattle.laws_client.specs.Retries.Attempting.{AllowsAtMost, GrewAsAllowed, IsOfWholeRun, SettingsBoundAttempts}

-- what is paid for under such a setting is asked of an attempt below it
chosen_below : (prices : Prices) (n : ℕ) (settings : StandingLayers) (attempt : ℕ) (choice : Choice) (noted : Option DecideNote) → PaysFor prices settings attempt choice noted
    → ((retry : RetryConfig) → standing_retry settings ≡ Some retry → retry.max_attempts ≤ n) → goes_on (answers.Decided choice noted) ≡ true → attempt < n
chosen_below prices n settings attempt No noted pays allows goes = absurd (cc)
chosen_below prices n settings attempt (NoAfter nanos) noted pays allows goes = absurd (cc)
chosen_below prices n settings attempt Yes noted pays allows goes = absurd pays
chosen_below prices n settings attempt (Delay nanos) None pays allows goes = absurd pays
chosen_below prices n settings attempt (Delay nanos) (Some note) pays allows goes =
    let most = allows pays.retry pays.stands in
    let fewer = pays.fewer in
    omega (arith, most, fewer)

answered_below : (prices : Prices) (n : ℕ) (settings : StandingLayers) (attempt : ℕ) (a : Answer) → AnswerPays prices settings attempt a
    → ((retry : RetryConfig) → standing_retry settings ≡ Some retry → retry.max_attempts ≤ n) → goes_on a ≡ true → attempt < n
answered_below prices n settings attempt (answers.Decided choice noted) pays allows goes = chosen_below prices n settings attempt choice noted pays allows goes
answered_below prices n settings attempt _ pays allows goes = absurd (cc)

entry_below : (prices : Prices) (n : ℕ) (q : Question) (a : Answer) → Pays prices q a → AllowsAtMost n q → GoesOnBelow n q a
entry_below prices n (questions.Decide settings request response outcome attempt) a pays allows = answered_below prices n settings attempt a pays allows
entry_below prices n _ a pays allows = tt

all_below : (prices : Prices) (n : ℕ) (l : List Entry) → AllByRecursion (λ e. Pays prices e.question e.answer) l → AllByRecursion (λ e. AllowsAtMost n e.question) l → AllByRecursion (λ e. GoesOnBelow n e.question e.answer) l
all_below prices n [] pays allows = tt
all_below prices n (e ∷ l) pays allows = (entry_below prices n e.question e.answer pays.0 allows.0, all_below prices n l pays.1 allows.1)

pub settings_bound : AttemptsAreBounded → SettingsBoundAttempts
settings_bound bounded prices stop p l whole short pays n allows = bounded stop p l n whole short (all_below prices n l pays allows)

-- a whole run's answer isn't want of memory
pub had_memory : {X E : Type 0} (result : Result X (InvokeError E)) → IsOfWholeRun result → HadMemory result
had_memory (Ok output) h = tt
had_memory (Err (Sdk error)) h = tt
had_memory (Err (WrongType payload)) h = tt
had_memory (Err Unfinished) h = tt
had_memory (Err OutOfMemory) h = absurd h

-- the entries by which a log grew are determined
module _ (prices : Prices) (before log : List Entry) (fuel : ℕ) (few : fuel < 2 ^ 64) (law : SettingsBoundAttempts)
    (paid : (l : List Entry) × (log ≡ before ++ l) × AllByRecursion (λ e. Pays prices e.question e.answer) l) where
  of_run : (p : Payload) (l : List Entry) → log ≡ before ++ l → length l ≤ fuel → IsWhole stops.None (start p) l → GrewAsAllowed before log
  of_run p l is short whole = (
    l,
    is,
    law prices stops.None p l whole (omega (arith, few, short))
        (subst (AllByRecursion (λ e. Pays prices e.question e.answer)) (append_cancel_left before paid.0 l (sym paid.1 ∙ is)) paid.2),
  )

  pub grew_as_allowed : {I O E : Type 0} (takes_input : Payload → Bool) (reads_input : Payload → I → Type 0) (takes_output : Payload → Bool) (reads_output : Payload → O → Type 0)
      (takes_error : Payload → Bool) (reads_error : Payload → E → Type 0) (input : I) (result : Result O (InvokeError E)) → IsOfWholeRun result
      → InputAnswered takes_input reads_input takes_output reads_output takes_error reads_error input fuel result before log → GrewAsAllowed before log
  grew_as_allowed ti ri to ro te re input (Ok output) h (inl (p, t, r, (l, is, short, whole, ends))) = of_run p l is short whole
  grew_as_allowed ti ri to ro te re input (Ok output) h (inr (e, same)) = absurd (cc)
  grew_as_allowed ti ri to ro te re input (Err (Sdk error)) h (inl (p, t, r, (l, is, short, whole, ends))) = of_run p l is short whole
  grew_as_allowed ti ri to ro te re input (Err (Sdk error)) h (inr (e, same)) = absurd (cc)
  grew_as_allowed ti ri to ro te re input (Err (WrongType payload)) h (inl (p, t, r, (l, is, short, whole, ends))) = of_run p l is short whole
  grew_as_allowed ti ri to ro te re input (Err (WrongType payload)) h (inr (e, same)) = absurd (cc)
  grew_as_allowed ti ri to ro te re input (Err Unfinished) h w = absurd h
  grew_as_allowed ti ri to ro te re input (Err OutOfMemory) h w = absurd h
