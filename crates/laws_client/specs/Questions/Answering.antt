-- Why a client's parts answer a question of a run Absent.
use Rattle.std.specs.Prelude.{◌≡◌, ◌↔◌, ℕ, Bool, false, IsSome, IsTrue, List, [], ◌∷◌, ◌++◌, Option}
use Rattle.client_components.specs.Meaning.{ClientMeaning}
use Rattle.client_components.specs.Serving.{Served}
use Rattle.client_components.specs.declared.parts.Parts.{Parts}
use Rattle.client_retries.specs.declared.strategy.RetryStrategy.{RetryStrategy}
use Rattle.client_retries.specs.declared.strategy.RetryStrategy.TheVariants.{Never, Standard}
use Rattle.retry_policy.specs.Standing.{lacks_setting}
use Rattle.run_grammar.specs.Laws.{Begins}
use Rattle.run_grammar.specs.Standing.{start}
use Rattle.run_grammar.specs.declared.answer.Answer.TheVariants as answers
use Rattle.run_grammar.specs.declared.answer.Entry.{Entry}
use Rattle.run_grammar.specs.declared.question.Question.{Question}
use Rattle.run_grammar.specs.declared.question.Question.TheVariants as questions
use Rattle.smithy_context.specs.StandingLayers.{StandingLayers}
use Rattle.smithy_types.specs.declared.kinds.StopPoint.{StopPoint}
use Rattle.smithy_types.specs.declared.payload.Payload.{Payload}

-- a setting of the retry strategy is lacking, at a moment that is known where the client has a time source
pub record LacksSetting (time_source : Bool) (has_bucket : ℕ → Bool) (settings : StandingLayers) : Type 0 where
  pub now : Option ℕ
  pub known : IsSome now ↔ IsTrue time_source
  pub lacking : IsTrue (lacks_setting settings now has_bucket)

-- the strategy is the one that goes by settings, and lacks one
abbrev pub StrategyLacks : {P : Type 0} → RetryStrategy P → Bool → (ℕ → Bool) → StandingLayers → Type 0
StrategyLacks (Never never) time_source has_bucket settings = ⊥
StrategyLacks (Standard standard) time_source has_bucket settings = LacksSetting time_source has_bucket settings

module _ {T X Q C I A R Z D P L : Type 0} (means : ClientMeaning T X Q C I A R Z D P L) where
  -- for a Start, that the client has no sleeps; for an Initial and a Decide, that the strategy lacks a setting; nothing
  -- makes another question Absent
  abbrev pub AbsenceCause : Parts T X Q C I A R Z D P L → Question → Type 0
  AbsenceCause parts (questions.Start role nanos) = parts.given.sleep_impl ≡ false
  AbsenceCause parts (questions.Initial settings) =
      StrategyLacks parts.strategy parts.given.time_source (means.quota.meaning parts.quota).has settings
  AbsenceCause parts (questions.Decide settings request response outcome attempt) =
      StrategyLacks parts.strategy parts.given.time_source (means.quota.meaning parts.quota).has settings
  AbsenceCause parts _ = ⊥

  -- an answer is Absent exactly where there is a cause in the parts, as the entries before it left them; what the
  -- client was given is as it was
  pub record IsAbsentByCause (old : Parts T X Q C I A R Z D P L) (before : List Entry) (e : Entry) : Type 0 where
    pub parts : Parts T X Q C I A R Z D P L
    pub served : Served means old before parts
    pub given : parts.given ≡ old.given
    pub exactly : (e.answer ≡ answers.Absent) ↔ AbsenceCause parts e.question

  -- so it is of each entry of a list that begins a run, where the client's parts answered the list
  abbrev pub AbsencesHaveCauses : Type 0
  AbsencesHaveCauses =
      (stop : StopPoint) (p : Payload) (old new : Parts T X Q C I A R Z D P L) (before : List Entry) (e : Entry)
      → Begins stop (start p) (before ++ e ∷ []) → Served means old (before ++ e ∷ []) new
      → IsAbsentByCause old before e
