-- A further attempt is paid for.
use Rattle.std.specs.Prelude.{◌≡◌, ℕ, ◌<◌, Bool, true, List, Option, None, Some}
use Rattle.std.specs.List.{AllByRecursion}
use Rattle.retry_policy.specs.Standing.{standing_bucket, standing_retry}
use Rattle.retry_quota.specs.Meaning.{Meaning}
use Rattle.run_grammar.specs.declared.answer.Answer.{Answer}
use Rattle.run_grammar.specs.declared.answer.Answer.TheVariants as answers
use Rattle.run_grammar.specs.declared.answer.Entry.{Entry}
use Rattle.run_grammar.specs.declared.question.Question.{Question}
use Rattle.run_grammar.specs.declared.question.Question.TheVariants as questions
use Rattle.smithy_context.specs.StandingLayers.{StandingLayers}
use Rattle.smithy_types.specs.declared.config.RetryConfig.{RetryConfig}
use Rattle.smithy_types.specs.declared.kinds.ErrorKind.{ErrorKind}
use Rattle.smithy_types.specs.declared.notes.Choice.{Choice}
use Rattle.smithy_types.specs.declared.notes.Choice.TheVariants.{Yes, No, NoAfter, Delay}
use Rattle.smithy_types.specs.declared.notes.DecideNote.{DecideNote}
use Rattle.smithy_types.specs.declared.notes.Reason.TheVariants.{Granted}
use Rattle.smithy_types.specs.declared.notes.RetryAction.TheVariants.{RetryIndicated}
use Rattle.client_components.specs.Meaning.{ClientMeaning}
use Rattle.client_components.specs.Serving.{Served}
use Rattle.client_components.specs.declared.parts.Parts.{Parts}

-- which buckets are there, and what each charges for an attempt after a failure of a kind
pub record Prices : Type 0 where
  pub has : ℕ → Bool
  pub cost : ℕ → ErrorKind → ℕ

-- the buckets of a quota, with what each charges
abbrev pub prices_of : {L : Type 0} → Meaning L → Prices
prices_of m = record { has = m.has; cost = m.cost }

-- fewer attempts were made than the standing setting allows, and the bucket in force granted what it charges for the
-- kind of the verdict
pub record IsPaid (prices : Prices) (settings : StandingLayers) (attempt : ℕ) (note : DecideNote) : Type 0 where
  pub retry : RetryConfig
  pub stands : standing_retry settings ≡ Some retry
  pub fewer : attempt < retry.max_attempts
  pub bucket : ℕ
  pub bucket_stands : standing_bucket settings ≡ Some bucket
  pub there : prices.has bucket ≡ true
  pub kind : ErrorKind
  pub retry_after : Option ℕ
  pub verdict : note.verdict ≡ RetryIndicated kind retry_after
  pub granted : note.reason ≡ Granted (prices.cost bucket kind)

-- a choice for a further attempt is a delay that is paid for
abbrev pub PaysFor : Prices → StandingLayers → ℕ → Choice → Option DecideNote → Type 0
PaysFor prices settings attempt No noted = Unit {0}
PaysFor prices settings attempt (NoAfter nanos) noted = Unit {0}
PaysFor prices settings attempt Yes noted = ⊥
PaysFor prices settings attempt (Delay nanos) None = ⊥
PaysFor prices settings attempt (Delay nanos) (Some note) = IsPaid prices settings attempt note

-- a decision pays for its choice, and no other answer owes anything
abbrev pub AnswerPays : Prices → StandingLayers → ℕ → Answer → Type 0
AnswerPays prices settings attempt (answers.Decided choice note) = PaysFor prices settings attempt choice note
AnswerPays prices settings attempt _ = Unit {0}

-- of an entry: only Decide chooses
abbrev pub Pays : Prices → Question → Answer → Type 0
Pays prices (questions.Decide settings request response outcome attempt) a = AnswerPays prices settings attempt a
Pays prices _ a = Unit {0}

-- in a served list every further attempt is paid for, at the prices of the quota that stands behind the list: a bucket
-- that is there keeps its costs
abbrev pub FurtherAttemptsArePaid : {T X Q C I A R Z D P L : Type 0} → ClientMeaning T X Q C I A R Z D P L → Type 0
FurtherAttemptsArePaid {T} {X} {Q} {C} {I} {A} {R} {Z} {D} {P} {L} means =
    (old new : Parts T X Q C I A R Z D P L) (l : List Entry) → Served means old l new
    → AllByRecursion (λ e. Pays (prices_of (means.quota.meaning new.quota)) e.question e.answer) l
