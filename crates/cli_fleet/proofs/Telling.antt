-- The runs of a caller tell its steps.
use Rattle.std.proofs.Common.{◌≡◌, ◌∙◌, refl, sym, ap, subst, ℕ, Bool, true, false, if◌then◌else◌, List, [], ◌∷◌, ◌++◌, append_assoc}
use Rattle.std.specs.Prelude.{Option, None, Some, IfSome, Result, nat_le}
use Rattle.cli_client_runs.specs.Running.{Ran}
use Rattle.retry_policy.specs.Backoff.{is_v2_1}
use Rattle.retry_policy.specs.Decision.{Case, Decided, asking, deciding, decision, held_on, paying, reason_for, refusing, releasing, retrying, settled, telling}
use Rattle.retry_policy.specs.declared.standing.Paced.{Paced}
use Rattle.retry_quota.specs.Book.{Book}
use Rattle.retry_quota.specs.Calls.{QuotaCall}
use Rattle.retry_quota.specs.History as history
use Rattle.retry_quota.specs.declared.limiter.RequestReason.{RequestReason}
use Rattle.retry_quota.specs.declared.permit.Permit.{Permit}
use Rattle.run_grammar.specs.declared.answer.Answer.{Answer}
use Rattle.run_grammar.specs.declared.answer.Answer.TheVariants as answers
use Rattle.run_grammar.specs.declared.answer.Entry.{Entry}
use Rattle.run_grammar.specs.declared.question.Question.{Question}
use Rattle.run_grammar.specs.declared.question.Question.TheVariants as questions
use Rattle.smithy_context.specs.StandingLayers.{StandingLayers}
use Rattle.smithy_types.specs.declared.fault.Outcome.{Outcome}
use Rattle.smithy_types.specs.declared.kinds.ErrorKind.{ErrorKind}
use Rattle.smithy_types.specs.declared.notes.Choice.{Choice}
use Rattle.smithy_types.specs.declared.notes.DecideNote.{DecideNote}
use Rattle.smithy_types.specs.declared.notes.Reason.{Reason}
use Rattle.smithy_types.specs.declared.notes.Reason.TheVariants.{Granted, OutOfAttempts}
use Rattle.smithy_types.specs.declared.notes.RetryAction.{RetryAction}
use Rattle.smithy_types.specs.declared.notes.RetryAction.TheVariants.{NoActionIndicated, RetryForbidden, RetryIndicated}
use Rattle.cli_fleet.specs.Steps.{AnswerSteps, EntrySteps, IsDecision, LogSteps, RunsSteps, RunsTellSteps, step_in, steps_in}

same_some : {X : Type 0} (x y : X) → Some x ≡ Some y → x ≡ y
same_some x y e = cc

-- ---- the limiter's calls make no steps

joined_steps : (a b : List QuotaCall) → steps_in (a ++ b) ≡ steps_in a ++ steps_in b
joined_steps [] b = refl
joined_steps (x ∷ a) b = ap (λ l. step_in x ++ l) (joined_steps a b) ∙ sym (append_assoc (step_in x) (steps_in a) (steps_in b))

quiet : (a b : List QuotaCall) → steps_in a ≡ [] → steps_in (a ++ b) ≡ steps_in b
quiet a b none = joined_steps a b ∙ ap (λ l. l ++ steps_in b) none

no_telling : (paced : Option Paced) (verdict : RetryAction) → steps_in (telling paced verdict) ≡ []
no_telling None verdict = refl
no_telling (Some paced) verdict = refl

no_asking : (version : Bool) (paced : Option Paced) (reason : RequestReason) (reply : Result (Unit {0}) ℕ) → steps_in (asking version paced reason reply) ≡ []
no_asking true paced reason reply = refl
no_asking false None reason reply = refl
no_asking false (Some paced) reason reply = refl

-- ---- two decisions for one reason, which may go by different limiters, make the same steps

record Same (d e : Decided) : Type 0 where
  pub steps : steps_in d.calls ≡ steps_in e.calls
  pub held : d.held ≡ e.held

abbrev Shows : Reason → Option ℕ → Type 0
Shows reason grant = IfSome grant (λ amount. reason ≡ Granted amount)

module _ (c : Case) (p : Option Paced) (reason : Reason) where
  abbrev other : Case
  other = record c { paced = p }

  paid : (kind : ErrorKind) (backoff due : ℕ) (held : Option Permit) (grant given : Option ℕ)
      → reason ≡ (paying c kind backoff held grant).reason → reason ≡ (paying other kind due held given).reason → Shows reason grant → Shows reason given
      → Same (paying c kind backoff held grant) (paying other kind due held given)
  paid kind backoff due held None None is so shown told = record { steps = refl; held = refl }
  paid kind backoff due held None (Some more) is so shown told = absurd (cc)
  paid kind backoff due held (Some amount) None is so shown told = absurd (cc)
  paid kind backoff due held (Some amount) (Some more) is so shown told =
      let one : amount ≡ more = cc in
      subst (λ m. Same (paying c kind backoff held (Some amount)) (paying other kind due held (Some m))) one (record { steps = refl; held = refl })

  module _ (reply again : Result (Unit {0}) ℕ) (grant given : Option ℕ) (shown : Shows reason grant) (told : Shows reason given) where
    retried : (kind : ErrorKind) (retry_after : Option ℕ) (held : Option Permit)
        → reason ≡ (retrying c kind retry_after held reply grant).reason → reason ≡ (retrying other kind retry_after held again given).reason
        → Same (retrying c kind retry_after held reply grant) (retrying other kind retry_after held again given)
    retried kind retry_after held is so =
        let same = paid kind _ _ held grant given is so shown told in
        let version = is_v2_1 c.retry.spec in
        record {
          steps = quiet (asking version c.paced (reason_for kind) reply) _ (no_asking version c.paced (reason_for kind) reply) ∙ same.steps
              ∙ sym (quiet (asking version p (reason_for kind) again) _ (no_asking version p (reason_for kind) again));
          held = same.held;
        }

    by_test : (t : Bool) (kind : ErrorKind) (retry_after : Option ℕ) (held : Option Permit)
        → reason ≡ (if t then refusing OutOfAttempts held else retrying c kind retry_after held reply grant).reason
        → reason ≡ (if t then refusing OutOfAttempts held else retrying other kind retry_after held again given).reason
        → Same (if t then refusing OutOfAttempts held else retrying c kind retry_after held reply grant) (if t then refusing OutOfAttempts held else retrying other kind retry_after held again given)
    by_test true kind retry_after held is so = record { steps = refl; held = refl }
    by_test false kind retry_after held is so = retried kind retry_after held is so

    decided : (verdict : RetryAction) (held : Option Permit)
        → reason ≡ (deciding c verdict held reply grant).reason → reason ≡ (deciding other verdict held again given).reason
        → Same (deciding c verdict held reply grant) (deciding other verdict held again given)
    decided NoActionIndicated held is so = record { steps = refl; held = refl }
    decided RetryForbidden held is so = record { steps = refl; held = refl }
    decided (RetryIndicated kind retry_after) held is so = by_test (nat_le c.retry.max_attempts c.attempt) kind retry_after held is so

    alike : (held : Option Permit) → reason ≡ (decision c held reply grant).reason → reason ≡ (decision other held again given).reason
        → Same (decision c held reply grant) (decision other held again given)
    alike held is so =
        let same = decided c.verdict (held_on c.failed held) is so in
        let success = settled c.failed c.bucket c.reward held in
        record {
          steps = quiet (telling c.paced c.verdict) _ (no_telling c.paced c.verdict) ∙ joined_steps success _ ∙ ap (λ l. steps_in success ++ l) same.steps
              ∙ sym (joined_steps success _) ∙ sym (quiet (telling p c.verdict) _ (no_telling p c.verdict));
          held = same.held;
        }

same_case : (c e : Case) → e.retry ≡ c.retry → e.bucket ≡ c.bucket → e.failed ≡ c.failed → e.attempt ≡ c.attempt → e.verdict ≡ c.verdict
    → e.now ≡ c.now → e.word ≡ c.word → e.cost ≡ c.cost → e.reward ≡ c.reward → e ≡ record c { paced = e.paced }
same_case c e retry bucket failed attempt verdict now word cost reward =
    rw (sym retry, sym bucket, sym failed, sym attempt, sym verdict, sym now, sym word, sym cost, sym reward) refl

module _ (bucket : Book) where
  one_decision : (settings : StandingLayers) (outcome : Option Outcome) (attempt : ℕ) (choice : Choice) (note : DecideNote) (held : Option Permit) (d e : Decided)
      → IsDecision bucket settings outcome attempt choice note held d → IsDecision bucket settings outcome attempt choice note held e → Same d e
  one_decision settings outcome attempt choice note held d e h k =
      let paced = k.by.paced in
      let case : k.by ≡ record h.by { paced = paced } =
      same_case h.by k.by (same_some _ _ (sym k.retry ∙ h.retry)) (same_some _ _ (sym k.number ∙ h.number)) (k.failed ∙ sym h.failed) (k.attempts ∙ sym h.attempts)
      (k.verdict ∙ sym h.verdict) (k.moment ∙ sym h.moment) (k.word ∙ sym h.word) (k.cost ∙ sym h.cost) (k.reward ∙ sym h.reward) in
      let first : d ≡ decision h.by held h.reply h.grant = h.decided in
      let second : e ≡ decision (record h.by { paced = paced }) held k.reply k.grant = k.decided ∙ ap (λ c. decision c held k.reply k.grant) case in
      let same = alike h.by paced note.reason h.reply k.reply h.grant k.grant h.granted k.granted held (h.reason ∙ ap (λ (x : Decided). x.reason) first) (k.reason ∙ ap (λ (x : Decided). x.reason) second) in
      record {
        steps = ap (λ (x : Decided). steps_in x.calls) first ∙ same.steps ∙ sym (ap (λ (x : Decided). steps_in x.calls) second);
        held = ap (λ (x : Decided). x.held) first ∙ same.held ∙ sym (ap (λ (x : Decided). x.held) second);
      }

  -- ---- so entries, lists of them and invocations have one list of steps, and leave one permit

  one_answer : (settings : StandingLayers) (outcome : Option Outcome) (attempt : ℕ) (a : Answer) (held : Option Permit) (s t : List history.Entry) (x y : Option Permit)
      → AnswerSteps bucket settings outcome attempt a held s x → AnswerSteps bucket settings outcome attempt a held t y → (s ≡ t) × (x ≡ y)
  one_answer settings outcome attempt (answers.Decided choice (Some note)) held s t x y (d, h, steps, after) (e, k, others, behind) =
      let same = one_decision settings outcome attempt choice note held d e h k in
      (steps ∙ same.steps ∙ sym others, after ∙ same.held ∙ sym behind)
  one_answer settings outcome attempt _ held s t x y h k = (h.0 ∙ sym k.0, h.1 ∙ sym k.1)

  one_entry : (q : Question) (a : Answer) (held : Option Permit) (s t : List history.Entry) (x y : Option Permit)
      → EntrySteps bucket q a held s x → EntrySteps bucket q a held t y → (s ≡ t) × (x ≡ y)
  one_entry (questions.Decide settings request response outcome attempt) a held s t x y h k = one_answer settings outcome attempt a held s t x y h k
  one_entry _ a held s t x y h k = (h.0 ∙ sym k.0, h.1 ∙ sym k.1)

  one_list : (l : List Entry) (held : Option Permit) (s t : List history.Entry) (x y : Option Permit) → LogSteps bucket l held s x → LogSteps bucket l held t y → (s ≡ t) × (x ≡ y)
  one_list [] held s t x y h k = (h.0 ∙ sym k.0, h.1 ∙ sym k.1)
  one_list (e ∷ l) held s t x y (first, rest, mid, h, more, all) (one, others, way, k, on, whole) =
      let front = one_entry e.question e.answer held first one mid way h k in
      let back = one_list l mid rest others x y more (subst (λ m. LogSteps bucket l m others y) (sym front.1) on) in
      (all ∙ ap (λ f. f ++ rest) front.0 ∙ ap (λ r. one ++ r) back.0 ∙ sym whole, back.1)

  each_run : (rs : List Ran) (held : Option Permit) (s t : List history.Entry) (x y : Option Permit) → RunsSteps bucket rs held s x → RunsSteps bucket rs held t y → (s ≡ t) × (x ≡ y)
  each_run [] held s t x y h k = (h.0 ∙ sym k.0, h.1 ∙ sym k.1)
  each_run (r ∷ rs) held s t x y (first, rest, mid, h, more, all) (one, others, way, k, on, whole) =
      let front = one_list r.log held first one mid way h k in
      let back = each_run rs mid rest others x y more (subst (λ m. RunsSteps bucket rs m others y) (sym front.1) on) in
      (all ∙ ap (λ f. f ++ rest) front.0 ∙ ap (λ r. one ++ r) back.0 ∙ sym whole, back.1)

pub tell_steps : RunsTellSteps
tell_steps bucket runs steps others h k =
    let same = each_run bucket runs None h.made k.made h.held k.held h.decisions k.decisions in
    h.all ∙ ap (λ m. m ++ steps_in (releasing h.held)) same.0 ∙ ap (λ x. k.made ++ steps_in (releasing x)) same.1 ∙ sym k.all
