-- What a decision's note tells of the bucket in force.
use Rattle.std.specs.Prelude.{◌≡◌, false, List, ◌∷◌, ◌++◌, Option, None, Some}
use Rattle.std.specs.List.{AllByRecursion}
use Rattle.client_retries.specs.Deciding.{sums_in}
use Rattle.retry_policy.specs.Standing.{standing_bucket}
use Rattle.retry_quota.specs.Meaning.{Meaning}
use Rattle.run_grammar.specs.declared.answer.Answer.{Answer}
use Rattle.run_grammar.specs.declared.answer.Answer.TheVariants as answers
use Rattle.run_grammar.specs.declared.answer.Entry.{Entry}
use Rattle.run_grammar.specs.declared.question.Question.{Question}
use Rattle.run_grammar.specs.declared.question.Question.TheVariants as questions
use Rattle.smithy_context.specs.StandingLayers.{StandingLayers}
use Rattle.smithy_types.specs.declared.notes.DecideNote.{DecideNote}
use Rattle.client_components.specs.Retrying.{calls_quota}
use Rattle.client_components.specs.Meaning.{ClientMeaning}
use Rattle.client_components.specs.Serving.{Served}
use Rattle.client_components.specs.declared.parts.Parts.{Parts}

-- the sums of the note are those of the bucket in force
abbrev pub NoteTells : {L : Type 0} → Meaning L → StandingLayers → Option DecideNote → Type 0
NoteTells m settings None = Unit {0}
NoteTells m settings (Some note) = note.sums ≡ sums_in m (standing_bucket settings)

-- so it is of the note that a decision answers
abbrev pub AnswerTells : {L : Type 0} → Meaning L → StandingLayers → Answer → Type 0
AnswerTells m settings (answers.Decided choice noted) = NoteTells m settings noted
AnswerTells m settings _ = Unit {0}

-- of an entry: only a decision tells a bucket
abbrev pub EntryTells : {L : Type 0} → Meaning L → Question → Answer → Type 0
EntryTells m (questions.Decide settings request response outcome attempt) a = AnswerTells m settings a
EntryTells m _ a = Unit {0}

-- each entry behind which the quota isn't called tells what the quota holds
abbrev pub TellsBuckets : {L : Type 0} → Meaning L → List Entry → Type 0
TellsBuckets m l = (earlier : List Entry) (e : Entry) (later : List Entry) → l ≡ earlier ++ e ∷ later
    → AllByRecursion (λ x. calls_quota x.question ≡ false) later → EntryTells m e.question e.answer

-- so it is of the quota behind a served list
abbrev pub DecisionsTellBuckets : {T X Q C I A R Z D P L : Type 0} → ClientMeaning T X Q C I A R Z D P L → Type 0
DecisionsTellBuckets {T} {X} {Q} {C} {I} {A} {R} {Z} {D} {P} {L} means =
    (old new : Parts T X Q C I A R Z D P L) (l : List Entry) → Served means old l new
    → TellsBuckets (means.quota.meaning new.quota) l
