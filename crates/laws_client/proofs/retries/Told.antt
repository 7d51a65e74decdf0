-- Served lists tell the buckets.
use Rattle.std.proofs.Common.{◌≡◌, ◌∙◌, ap, sym, subst, Bool, true, false, List, [], ◌∷◌, ◌++◌, Some, None}
use Rattle.std.specs.List.{AllByRecursion}
use Rattle.std.proofs.lemmas.Bool.{false≢true}
use Rattle.outside.specs.Calls.{OutsideCall}
use Rattle.client_retries.specs.Deciding.{IsDecided}
use Rattle.client_retries.specs.Hooking.{seen_context}
use Rattle.client_retries.specs.declared.strategy.RetryStrategy.{RetryStrategy}
use Rattle.client_retries.specs.declared.strategy.RetryStrategy.TheVariants.{Never, Standard}
use Rattle.run_grammar.specs.declared.answer.Answer.{Answer}
use Rattle.run_grammar.specs.declared.answer.Answer.TheVariants as answers
use Rattle.run_grammar.specs.declared.answer.Entry.{Entry}
use Rattle.run_grammar.specs.declared.question.Question.{Question}
use Rattle.run_grammar.specs.declared.question.Question.TheVariants as questions
use Rattle.smithy_context.specs.declared.context.InterceptorContext.{InterceptorContext}
use Rattle.smithy_types.specs.declared.notes.DecideNote.{DecideNote}
use Rattle.smithy_types.specs.declared.notes.RetryAction.{RetryAction}
use Rattle.client_components.proofs.QuotaLemmas.{held, stays}
use Rattle.client_components.specs.Retrying.{calls_quota, decided_view}
use Rattle.client_components.specs.Meaning.{ClientMeaning}
use Rattle.client_components.specs.Serving.{Answers, Served}
use Rattle.client_components.specs.declared.parts.Parts.{Parts}
use Rattle.laws_client.specs.Retries.Telling.{AnswerTells, DecisionsTellBuckets, EntryTells}

has_note : Answer → Bool
has_note (answers.Decided choice (Some noted)) = true
has_note _ = false

module _ {T X Q C I A R Z D P L : Type 0} (means : ClientMeaning T X Q C I A R Z D P L) where
  stays_all : (old new : Parts T X Q C I A R Z D P L) (l : List Entry) → Served means old l new → AllByRecursion (λ x. calls_quota x.question ≡ false) l → held means new ≡ held means old
  stays_all old new [] h none = ap (held means) h
  stays_all old new (e ∷ l) (mid, serves, rest) none = stays_all mid new l rest none.1 ∙ stays means old mid e.question e.answer serves none.0

  -- a decision with a note tells what its bucket holds right behind it
  decided_tells : (verdict : RetryAction) (time_source : Bool) (c : InterceptorContext) (old : RetryStrategy P) (q : Q) (a : Answer) (new : RetryStrategy P) (calls : List OutsideCall) (after : Q)
      → IsDecided means.quota verdict time_source c old q a new calls after → AnswerTells (means.quota.meaning after) c.view.settings a
  unfolding has_note
  decided_tells verdict time_source c old q (answers.Decided choice None) new calls after h = tt
  decided_tells verdict time_source c (Never never) q (answers.Decided choice (Some noted)) new calls after h = absurd (false≢true (sym (ap has_note h.0)))
  decided_tells verdict time_source c (Standard standard) q (answers.Decided choice (Some noted)) new calls after h =
      ap (λ (n : DecideNote). n.sums) h.2.decides.3
  decided_tells verdict time_source c old q _ new calls after h = tt

  tells : (old new : Parts T X Q C I A R Z D P L) (q : Question) (a : Answer) → Answers means old q a new → EntryTells (held means new) q a
  tells old new (questions.Decide settings request response outcome attempt) a h =
      decided_tells _ old.given.time_source (seen_context (decided_view settings request response outcome attempt)) old.strategy old.quota a new.strategy h.calls new.quota h.decided
  tells old new _ a h = tt

  told_at : (old new : Parts T X Q C I A R Z D P L) (earlier : List Entry) (e : Entry) (later : List Entry) → Served means old (earlier ++ e ∷ later) new
      → AllByRecursion (λ x. calls_quota x.question ≡ false) later → EntryTells (held means new) e.question e.answer
  told_at old new [] e later (mid, serves, rest) none =
      subst (λ m. EntryTells m e.question e.answer) (sym (stays_all mid new later rest none)) (tells old mid e.question e.answer serves)
  told_at old new (x ∷ earlier) e later (mid, serves, rest) none = told_at mid new earlier e later rest none

  pub all_told : DecisionsTellBuckets means
  all_told old new l h = λ earlier e later is none. told_at old new earlier e later (subst (λ x. Served means old x new) is h) none
