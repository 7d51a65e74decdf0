-- The steps that a caller makes are those of its decisions.
use Rattle.std.proofs.Common.{◌≡◌, ◌∙◌, refl, sym, ap, subst, ℕ, zero, suc, ◌==◌, Bool, true, false, if◌then◌else◌, List, [], ◌∷◌, ◌++◌, append_assoc, append-nil, inl, inr}
use Rattle.std.specs.Prelude.{Option, None, Some, IfSome, Result, MatchOption}
use Rattle.std.proofs.Math.Dec.{eqb-suc-zero}
use Rattle.retry_quota_cell.specs.Caller.{Caller}
use Rattle.retry_quota_cell.specs.Callers.{own}
use Rattle.retry_quota_cell.specs.Known.{Place}
use Rattle.cli_client_runs.specs.Invoking as invoking
use Rattle.cli_client_runs.specs.Running.{Ran}
use Rattle.client_components.specs.Retrying.{decided_view}
use Rattle.client_scripted.specs.Clients.{ServiceMeaning}
use Rattle.client_components.specs.Serving.{Answers, Served}
use Rattle.outside.specs.Calls.{OutsideCall}
use Rattle.rate_limit.specs.Pace.{Pace}
use Rattle.client_retries.specs.Deciding.{DecidesSo, IsDecided, paused_for}
use Rattle.client_retries.specs.Hooking.{Hooks, seen_context}
use Rattle.client_retries.specs.Initially.{Begun, BeginsSo}
use Rattle.client_retries.specs.Meanings.{InterceptorMeans}
use Rattle.client_retries.specs.Offering.{finding, finding_bucket, standing_spec}
use Rattle.client_retries.specs.Strategies.{Closes, held_by}
use Rattle.client_retries.specs.declared.strategy.RetryStrategy.{RetryStrategy}
use Rattle.client_retries.specs.declared.strategy.RetryStrategy.TheVariants.{Never, Standard}
use Rattle.retry_policy.specs.Decision.{Begins, FindsLimiter, asking, case_of, cost_for, decision, releasing}
use Rattle.retry_policy.specs.Interceptors.{is_before_retry_loop}
use Rattle.retry_policy.specs.Standing.{standing_partition, uses_limiter}
use Rattle.retry_policy.specs.declared.decision.Initial.{Initial}
use Rattle.retry_policy.specs.declared.decision.Initial.TheVariants as initial
use Rattle.retry_policy.specs.declared.standard.StandardRetryStrategy.{StandardRetryStrategy}
use Rattle.retry_policy.specs.declared.standing.Paced.{Paced}
use Rattle.retry_quota.specs.Book.{Book, cost_of}
use Rattle.retry_quota.specs.Calls.{Calls, Limiters, QuotaCall, OnBucket, Settled, AskedLimiter, ToldLimiter, FoundBucket, FoundLimiter}
use Rattle.retry_quota.specs.History.{Reply, Step}
use Rattle.retry_quota.specs.History as history
use Rattle.retry_quota.specs.Meaning.{AddsLimiter, ChangesLimiter, IsKept, KeepsBuckets, Meaning, Settles, Steps, recorded}
use Rattle.retry_quota.specs.declared.limiter.RequestReason.{RequestReason}
use Rattle.retry_quota.specs.declared.limiter.RequestReason.TheVariants.{InitialRequest}
use Rattle.retry_quota.specs.declared.permit.Permit.{Permit}
use Rattle.run_grammar.specs.declared.answer.Answer.{Answer}
use Rattle.run_grammar.specs.declared.answer.Answer.TheVariants as answers
use Rattle.run_grammar.specs.declared.answer.Entry.{Entry}
use Rattle.run_grammar.specs.declared.kind.Abandonable.TheVariants as abandoned
use Rattle.run_grammar.specs.declared.kind.ConfigureStage.TheVariants as stages
use Rattle.run_grammar.specs.declared.question.Question.{Question}
use Rattle.run_grammar.specs.declared.question.Question.TheVariants as questions
use Rattle.outside_scripted.specs.declared.records.IdentityRecord.{IdentityRecord}
use Rattle.outside_scripted.specs.declared.scripted_outside.ScriptedOutside.{ScriptedOutside}
use Rattle.smithy_context.specs.Failures.{is_failure}
use Rattle.smithy_context.specs.StandingLayers.{StandingLayers}
use Rattle.smithy_context.specs.declared.context.InterceptorContext.{InterceptorContext}
use Rattle.smithy_context.specs.declared.intercept.HookView.{HookView}
use Rattle.smithy_types.specs.Chain.{Chained}
use Rattle.smithy_types.specs.declared.config.RetrySpec.{RetrySpec}
use Rattle.smithy_types.specs.declared.hook.Hook.{Hook}
use Rattle.smithy_types.specs.declared.kinds.ErrorKind.{ErrorKind}
use Rattle.smithy_types.specs.declared.notes.Choice.TheVariants.{No}
use Rattle.smithy_types.specs.declared.notes.DecideNote.{DecideNote}
use Rattle.smithy_types.specs.declared.notes.Reason.TheVariants.{Granted}
use Rattle.smithy_types.specs.declared.notes.RetryAction.{RetryAction}
use Rattle.smithy_types.specs.declared.notes.RetryAction.TheVariants.{NoActionIndicated, RetryForbidden, RetryIndicated}
use Rattle.smithy_types.specs.declared.partition.CustomPartition.{CustomPartition}
use Rattle.smithy_types.specs.declared.partition.RetryPartition.{RetryPartition}
use Rattle.cli_fleet.specs.Invoking.{Runs}
use Rattle.cli_fleet.specs.Means.{CallerParts, cell_means, world_means}
use Rattle.cli_fleet.specs.Steps.{AnswerSteps, EntrySteps, IsDecision, LogSteps, RunsSteps, settled_in, step_in, steps_in}

same_some : {X : Type 0} (x y : X) → Some x ≡ Some y → x ≡ y
same_some x y e = cc

-- ---- a quota with one bucket, 0, of these terms, for every partition, which has made these steps

record Tells (bucket : Book) (m : Meaning Pace) (es : List history.Entry) : Type 0 where
  pub has : (b : ℕ) → m.has b ≡ (b == 0)
  pub cost : (b : ℕ) (kind : ErrorKind) → m.cost b kind ≡ cost_of kind bucket
  pub reward : (b : ℕ) → m.reward b ≡ bucket.reward
  pub named : (p : RetryPartition) → m.bucket_of p ≡ Some 0
  pub told : m.entries ≡ Some es

again : (bucket : Book) (m n : Meaning Pace) (es fs : List history.Entry) → Tells bucket m es → KeepsBuckets m n → n.entries ≡ Some fs → Tells bucket n fs
again bucket m n es fs h k told = record {
  has = λ b. k.has b ∙ h.has b;
  cost = λ b kind. k.cost b kind ∙ h.cost b kind;
  reward = λ b. k.reward b ∙ h.reward b;
  named = λ p. k.bucket_of p ∙ h.named p;
  told = told;
}

kept : (bucket : Book) (m n : Meaning Pace) (es : List history.Entry) → Tells bucket m es → IsKept m n → Tells bucket n es
kept bucket m n es h k = again bucket m n es es h k.buckets (k.entries ∙ h.told)

changed : (bucket : Book) (m n : Meaning Pace) (limiter : ℕ) (change : Pace → Pace) (es : List history.Entry) → Tells bucket m es → ChangesLimiter m limiter change n → Tells bucket n es
changed bucket m n limiter change es h k = again bucket m n es es h k.buckets (k.entries ∙ h.told)

stepped : (bucket : Book) (m n : Meaning Pace) (b : ℕ) (s : Step) (r : Reply) (es : List history.Entry) → Tells bucket m es → Steps m b s r n → Tells bucket n (es ++ record { step = s; reply = r } ∷ [])
stepped bucket m n b s r es h k = again bucket m n es (es ++ record { step = s; reply = r } ∷ []) h k.buckets (k.entries ∙ ap (λ x. recorded x s r) h.told)

nothing : (bucket : Book) (m : Meaning Pace) (es : List history.Entry) → Tells bucket m es → Tells bucket m (es ++ [])
nothing bucket m es h = subst (Tells bucket m) (sym (append-nil es)) h

settled : (bucket : Book) (m n : Meaning Pace) (b : ℕ) (s : Step) (es : List history.Entry) → Tells bucket m es → Settles m b s n → Tells bucket n (es ++ settled_in b s)
settled bucket m n zero s es h k = stepped bucket m n 0 s history.Done es h (k.there (h.has 0))
settled bucket m n (suc b) s es h k = nothing bucket n es (kept bucket m n es h (k.foreign (h.has (suc b) ∙ eqb-suc-zero b)))

-- the bucket is known
by_custom : (A K : Type 0) (X : ℕ → Type 0) (Y : CustomPartition → Type 0) (o : Option CustomPartition) (b : Option ℕ) → b ≡ Some 0
    → MatchOption o (MatchOption b A (λ known. X known × K)) (λ numbers. Y numbers × K) → K
by_custom A K X Y (Some c) b e h = h.1
by_custom A K X Y None (Some k) e h = h.1
by_custom A K X Y None None e h = absurd (cc)

-- the limiter is added, or known
by_limiter : (A K G : Type 0) (X : ℕ → Type 0) (Y : CustomPartition → Type 0) (o : Option CustomPartition) (b : Option ℕ) → (A → G) → (K → G)
    → MatchOption o (MatchOption b A (λ known. X known × K)) (λ numbers. Y numbers × K) → G
by_limiter A K G X Y (Some c) b f g h = g h.1
by_limiter A K G X Y None (Some k) f g h = g h.1
by_limiter A K G X Y None None f g h = f h

added : (bucket : Book) (m n : Meaning Pace) (p : RetryPartition) (l : Pace) (number : ℕ) (es : List history.Entry) → Tells bucket m es → AddsLimiter m p l number n → Tells bucket n es
added bucket m n p l number es h k = record {
  has = λ b. k.has b ∙ h.has b;
  cost = λ b kind. k.cost b kind ∙ h.cost b kind;
  reward = λ b. k.reward b ∙ h.reward b;
  named = λ q. k.bucket_of q ∙ h.named q;
  told = k.entries ∙ h.told;
}

module _ (place : Place) where
  abbrev limiters : Limiters Pace
  limiters = (cell_means place).limiters

  -- what the bucket was opened with
  abbrev bucket : Book
  bucket = place.opening.book

  one_call : (m n : Meaning Pace) (c : QuotaCall) (es : List history.Entry) → Tells bucket m es → Calls limiters m c n → Tells bucket n (es ++ step_in c)
  one_call m n (OnBucket b s r) es h k = stepped bucket m n b s r es h k
  one_call m n (Settled b s) es h k = settled bucket m n b s es h k
  one_call m n (AskedLimiter limiter now reason reply) es h k = nothing bucket n es (changed bucket m n limiter _ es h k.0)
  one_call m n (ToldLimiter limiter now throttled) es h k = nothing bucket n es (changed bucket m n limiter _ es h k)
  one_call m n (FoundBucket p spec number) es h k =
      nothing bucket n es (kept bucket m n es h (by_custom _ _ (λ known. number ≡ known) (λ numbers. number ≡ numbers.bucket) p.custom (m.bucket_of p) (h.named p) k))
  one_call m n (FoundLimiter p now number) es h k =
      nothing bucket n es (by_limiter _ _ (Tells bucket n es) (λ known. number ≡ known) (λ numbers. number ≡ numbers.limiter) p.custom (m.limiter_of p) (added bucket m n p _ number es h) (kept bucket m n es h) k)

  all_calls : (m n : Meaning Pace) (cs : List QuotaCall) (es : List history.Entry) → Tells bucket m es → Chained (Calls limiters) m cs n → Tells bucket n (es ++ steps_in cs)
  all_calls m n [] es h k = nothing bucket n es (subst (λ x. Tells bucket x es) (sym k) h)
  all_calls m n (c ∷ cs) es h (mid, call, rest) =
      subst (Tells bucket n) (append_assoc es (step_in c) (steps_in cs)) (all_calls mid n cs (es ++ step_in c) (one_call m mid c es h call) rest)

  finds : (u : Bool) (now : Option ℕ) (p : Option RetryPartition) (paced : Option Paced) (m n : Meaning Pace) (es : List history.Entry) → Tells bucket m es → FindsLimiter limiters m u now p paced n → Tells bucket n es
  finds true (Some now) (Some p) (Some paced) m n es h f = subst (Tells bucket n) (append-nil es) (one_call m n (FoundLimiter p now paced.limiter) es h f.1)
  finds true (Some now) (Some p) None m n es h f = absurd f
  finds true (Some now) None paced m n es h f = absurd f
  finds true None p paced m n es h f = absurd f
  finds false now p None m n es h f = subst (λ x. Tells bucket x es) (sym f) h
  finds false now p (Some paced) m n es h f = absurd f

  -- a quota that means what a caller's does tells its pass's steps
  own_told : (q : Caller Pace) → Tells bucket ((cell_means place).meaning q) (own q.pass.view)
  own_told q = record { has = λ b. refl; cost = λ b kind. refl; reward = λ b. refl; named = λ p. refl; told = refl }

  -- so the steps behind are known
  own_after : (q after : Caller Pace) (es : List history.Entry) → Tells bucket ((cell_means place).meaning after) (own q.pass.view ++ es) → own after.pass.view ≡ own q.pass.view ++ es
  own_after q after es h = same_some _ _ h.told

  unchanged : (q after : Caller Pace) → after ≡ q → own after.pass.view ≡ own q.pass.view ++ []
  unchanged q after e = ap (λ (x : Caller Pace). own x.pass.view) e ∙ sym (append-nil (own q.pass.view))

  -- what a verdict's kind costs
  costs : (m : Meaning Pace) (b : ℕ) (verdict : RetryAction) → ((kind : ErrorKind) → m.cost b kind ≡ cost_of kind bucket) → cost_for (m.cost b) verdict ≡ cost_for (λ kind. cost_of kind bucket) verdict
  costs m b (RetryIndicated kind retry_after) h = h kind
  costs m b NoActionIndicated h = refl
  costs m b RetryForbidden h = refl

  -- ---- strategies

  abbrev pub held_in : RetryStrategy Permit → Option Permit
  held_in (Never never) = None
  held_in (Standard s) = held_by (cell_means place) s

  -- what an entry makes
  abbrev MakesSteps : Question → Answer → RetryStrategy Permit → Caller Pace → RetryStrategy Permit → Caller Pace → Type 0
  MakesSteps question a old q new after =
      (steps : List history.Entry) × EntrySteps bucket question a (held_in old) steps (held_in new) × (own after.pass.view ≡ own q.pass.view ++ steps)

  module _ (settings : StandingLayers) (verdict : RetryAction) (time_source : Bool) (c : InterceptorContext) (q : Caller Pace) (calls : List OutsideCall) (after : Caller Pace) where
    abbrev AnswerMakes : Answer → RetryStrategy Permit → RetryStrategy Permit → Type 0
    AnswerMakes a old new =
        (steps : List history.Entry) × AnswerSteps bucket c.view.settings c.view.outcome c.view.attempt a (held_in old) steps (held_in new) × (own after.pass.view ≡ own q.pass.view ++ steps)

    decides_so : (a : Answer) (now : Option ℕ) (word : ℕ) (s keeps : StandardRetryStrategy Permit) → DecidesSo (cell_means place) verdict now word c s q a keeps after → AnswerMakes a (Standard s) (Standard keeps)
    decides_so answers.Absent now word s keeps h =
        ([], (refl, ap (held_by (cell_means place)) h.1), own_after q after [] (nothing bucket ((cell_means place).meaning after) (own q.pass.view) (kept bucket ((cell_means place).meaning q) ((cell_means place).meaning after) (own q.pass.view) (own_told q) h.2)))
    decides_so (answers.Decided choice (Some note)) now word s keeps (dd, h, choice_is, note_is) =
        let m = (cell_means place).meaning q in
        let n = (cell_means place).meaning after in
        let es = own q.pass.view in
        let by = case_of h.retry h.bucket (is_failure c.view.outcome) c.view.attempt verdict now word h.paced h.mid in
        let d = decision by (held_by (cell_means place) s) h.comes.reply h.comes.grant in
        let found = finds (uses_limiter h.retry now) now (standing_partition c.view.settings) h.paced m h.mid es (own_told q) h.stands.found in
        let same_verdict : verdict ≡ note.verdict = sym (ap (λ (x : DecideNote). x.verdict) note_is) in
        let same_reason : note.reason ≡ dd.reason = ap (λ (x : DecideNote). x.reason) note_is in
        let told = all_calls h.mid n d.calls es found h.comes.made in
        let is : IsDecision bucket c.view.settings c.view.outcome c.view.attempt choice note (held_by (cell_means place) s) d = record {
          by = by;
          retry = h.stands.retry_stands;
          number = h.stands.bucket_stands;
          failed = refl;
          attempts = refl;
          verdict = same_verdict;
          moment = sym (ap (λ (x : DecideNote). x.moment) note_is);
          word = sym (ap (λ (x : DecideNote). x.word) note_is);
          cost = costs h.mid h.bucket verdict (found.cost h.bucket) ∙ ap (cost_for (λ kind. cost_of kind bucket)) same_verdict;
          reward = found.reward h.bucket;
          reply = h.comes.reply;
          grant = h.comes.grant;
          granted = subst (λ r. IfSome h.comes.grant (λ amount. r ≡ Granted amount)) (sym same_reason) h.comes.shown;
          decided = refl;
          choice_is = choice_is ∙ ap (λ x. paused_for x dd.long_poll) h.comes.choice ∙ ap (paused_for d.choice) h.comes.long_poll;
          reason = same_reason ∙ h.comes.reason;
        } in
        (steps_in d.calls, (d, is, refl, h.comes.holds), own_after q after (steps_in d.calls) told)
    decides_so _ now word s keeps h = absurd h

    decided : (a : Answer) (old new : RetryStrategy Permit) → IsDecided (cell_means place) verdict time_source c old q a new calls after → AnswerMakes a old new
    decided a (Never never) new h =
        let makes : AnswerMakes (answers.Decided No None) (Never never) new = ([], (refl, ap held_in h.1), unchanged q after h.3) in
        subst (λ x. AnswerMakes x (Never never) new) (sym h.0) makes
    decided a (Standard s) new h = subst (AnswerMakes a (Standard s)) (sym h.1) (decides_so a h.2.now h.2.word s h.0 h.2.decides)

  -- ---- the other calls of a quota make no step

  no_asking : (paced : Option Paced) (reason : RequestReason) (reply : Result (Unit {0}) ℕ) → steps_in (asking false paced reason reply) ≡ []
  no_asking None reason reply = refl
  no_asking (Some paced) reason reply = refl

  no_bucket : (p : Option RetryPartition) (spec : Option RetrySpec) (number : ℕ) → steps_in (finding_bucket p spec number) ≡ []
  no_bucket None spec number = refl
  no_bucket (Some p) spec number = refl

  no_finding_if : (b : Bool) (p : Option RetryPartition) (spec : Option RetrySpec) (number : ℕ) → steps_in (if b then finding_bucket p spec number else []) ≡ []
  no_finding_if true p spec number = no_bucket p spec number
  no_finding_if false p spec number = refl

  module _ (q after : Caller Pace) where
    begins : (settings : StandingLayers) (now : Option ℕ) (first : Initial) → Begins limiters ((cell_means place).meaning q) settings now first ((cell_means place).meaning after) → own after.pass.view ≡ own q.pass.view ++ []
    begins settings now first h =
        let es = own q.pass.view in
        let found = finds (uses_limiter h.retry now) now (standing_partition settings) h.paced ((cell_means place).meaning q) h.mid es (own_told q) h.stands.found in
        own_after q after [] (subst (λ x. Tells bucket ((cell_means place).meaning after) (es ++ x)) (no_asking h.paced InitialRequest h.reply)
        (all_calls h.mid ((cell_means place).meaning after) (asking false h.paced InitialRequest h.reply) es found h.made))

    begins_so : (settings : StandingLayers) (now : Option ℕ) (a : Answer) → BeginsSo limiters ((cell_means place).meaning q) settings now a ((cell_means place).meaning after) → own after.pass.view ≡ own q.pass.view ++ []
    begins_so settings now answers.Absent h =
        own_after q after [] (nothing bucket ((cell_means place).meaning after) (own q.pass.view) (kept bucket ((cell_means place).meaning q) ((cell_means place).meaning after) (own q.pass.view) (own_told q) h.1))
    begins_so settings now answers.Go h = begins settings now initial.Go h
    begins_so settings now answers.No h = begins settings now initial.No h
    begins_so settings now (answers.Delay nanos) h = begins settings now (initial.Delay nanos) h
    begins_so settings now _ h = absurd h

    begun : (time_source : Bool) (settings : StandingLayers) (a : Answer) (old new : RetryStrategy Permit) (calls : List OutsideCall) → Begun (cell_means place) time_source settings old q a new calls after
        → MakesSteps (questions.Initial settings) a old q new after
    begun time_source settings a (Never never) new calls h = ([], (refl, ap held_in h.1), unchanged q after h.3)
    begun time_source settings a (Standard s) new calls h = ([], (refl, ap held_in h.0), begins_so settings h.1.now a h.1.begins)

    hooked : {I : Type 0} (chain : InterceptorMeans I) (verdict : RetryAction) (hook : Hook) (view : HookView) (before : List I) (a : Answer) (behind : List I) (calls : List OutsideCall)
        → Hooks (cell_means place) chain verdict hook view before q a behind calls after → own after.pass.view ≡ own q.pass.view ++ []
    hooked chain verdict hook view before a behind calls (inl h) = unchanged q after h.4
    hooked chain verdict hook view before a behind calls (inr h) =
        let number = h.1.offers.number in
        let none = no_finding_if (is_before_retry_loop hook) (standing_partition view.settings) (standing_spec view.settings) number in
        own_after q after [] (subst (λ x. Tells bucket ((cell_means place).meaning after) (own q.pass.view ++ x)) none
        (all_calls ((cell_means place).meaning q) ((cell_means place).meaning after) (finding hook view.settings number) (own q.pass.view) (own_told q) h.1.offers.found))

    pub closes : (old new : RetryStrategy Permit) → Closes (cell_means place) old q new after → own after.pass.view ≡ own q.pass.view ++ steps_in (releasing (held_in old))
    closes (Never never) new h = unchanged q after h.1
    closes (Standard s) new h =
        own_after q after (steps_in (releasing (held_by (cell_means place) s)))
        (all_calls ((cell_means place).meaning q) ((cell_means place).meaning after) (releasing (held_by (cell_means place) s)) (own q.pass.view) (own_told q) h.3)

  -- ---- a client

  module _ {C I : Type 0} (says : C → InterceptorContext → RetryAction → RetryAction) (chain : InterceptorMeans I) where
    abbrev means : ServiceMeaning ScriptedOutside (Caller Pace) C I Permit Pace
    means = world_means (cell_means place) says chain

    abbrev TheParts : Type 0
    TheParts = CallerParts (Caller Pace) Permit Pace C I

    plain : (old new : TheParts) → new.strategy ≡ old.strategy → new.quota ≡ old.quota
        → (steps : List history.Entry) × ((steps ≡ []) × (held_in new.strategy ≡ held_in old.strategy)) × (own new.quota.pass.view ≡ own old.quota.pass.view ++ steps)
    plain old new s q = ([], (refl, ap held_in s), unchanged old.quota new.quota q)

    serves : (old new : TheParts) (question : Question) (a : Answer) → Answers means old question a new → MakesSteps question a old.strategy old.quota new.strategy new.quota
    serves old new (questions.Configure stages.Client settings) a h = plain old new (ap (λ (p : TheParts). p.strategy) h.1.others) (ap (λ (p : TheParts). p.quota) h.1.others)
    serves old new (questions.Configure stages.Operation settings) a h = plain old new (ap (λ (p : TheParts). p.strategy) h.1) (ap (λ (p : TheParts). p.quota) h.1)
    serves old new (questions.Configure stages.Final settings) a h = plain old new (ap (λ (p : TheParts). p.strategy) h.1) (ap (λ (p : TheParts). p.quota) h.1)
    serves old new (questions.Hook hook view) a h =
        ([], (refl, ap (λ (p : TheParts). held_in p.strategy) h.others), hooked old.quota new.quota chain _ hook view old.interceptors.items a new.interceptors.items h.calls h.hooks)
    serves old new (questions.Serialize input settings) a h = plain old new (ap (λ (p : TheParts). p.strategy) h.1) (ap (λ (p : TheParts). p.quota) h.1)
    serves old new (questions.Load request) a h = plain old new (ap (λ (p : TheParts). p.strategy) h.1) (ap (λ (p : TheParts). p.quota) h.1)
    serves old new (questions.Initial settings) a h = begun old.quota new.quota old.given.time_source settings a old.strategy new.strategy h.calls h.begun
    serves old new (questions.Start role nanos) a h = plain old new (ap (λ (p : TheParts). p.strategy) h.1) (ap (λ (p : TheParts). p.quota) h.1)
    serves old new (questions.Wait role) a h = plain old new (ap (λ (p : TheParts). p.strategy) h.1) (ap (λ (p : TheParts). p.quota) h.1)
    serves old new (questions.Choose settings) a h = plain old new (ap (λ (p : TheParts). p.strategy) h.others) (ap (λ (p : TheParts). p.quota) h.others)
    serves old new (questions.Endpoint settings identity) a h = plain old new (ap (λ (p : TheParts). p.strategy) h.1) (ap (λ (p : TheParts). p.quota) h.1)
    serves old new (questions.Apply settings request endpoint) a h = plain old new (ap (λ (p : TheParts). p.strategy) h.1) (ap (λ (p : TheParts). p.quota) h.1)
    serves old new (questions.Sign settings request scheme identity endpoint) a h = plain old new (ap (λ (p : TheParts). p.strategy) h.1) (ap (λ (p : TheParts). p.quota) h.1)
    serves old new (questions.Transmit settings request) a h = plain old new (ap (λ (p : TheParts). p.strategy) h.1) (ap (λ (p : TheParts). p.quota) h.1)
    serves old new (questions.Stream settings response) a h = plain old new (ap (λ (p : TheParts). p.strategy) h.1) (ap (λ (p : TheParts). p.quota) h.1)
    serves old new (questions.Body settings response) a h = plain old new (ap (λ (p : TheParts). p.strategy) h.1) (ap (λ (p : TheParts). p.quota) h.1)
    serves old new (questions.Deserialize settings response) a h = plain old new (ap (λ (p : TheParts). p.strategy) h.1) (ap (λ (p : TheParts). p.quota) h.1)
    serves old new (questions.Decide settings request response outcome attempt) a h =
        decided settings _ old.given.time_source (seen_context (decided_view settings request response outcome attempt)) old.quota h.calls new.quota a old.strategy new.strategy h.decided
    serves old new (questions.Abandon abandoned.Choose) a h = plain old new (ap (λ (p : TheParts). p.strategy) h.2) (ap (λ (p : TheParts). p.quota) h.2)
    serves old new (questions.Abandon _) a h = plain old new (ap (λ (p : TheParts). p.strategy) h.2) (ap (λ (p : TheParts). p.quota) h.2)
    serves old new questions.Park a h = plain old new (ap (λ (p : TheParts). p.strategy) h.2) (ap (λ (p : TheParts). p.quota) h.2)

    -- one list behind another
    joined : (old mid new : Caller Pace) (es fs : List history.Entry) → own mid.pass.view ≡ own old.pass.view ++ es → own new.pass.view ≡ own mid.pass.view ++ fs → own new.pass.view ≡ own old.pass.view ++ (es ++ fs)
    joined old mid new es fs e f = f ∙ ap (λ l. l ++ fs) e ∙ append_assoc (own old.pass.view) es fs

    served : (old new : TheParts) (l : List Entry) → Served means old l new
        → (steps : List history.Entry) × LogSteps bucket l (held_in old.strategy) steps (held_in new.strategy) × (own new.quota.pass.view ≡ own old.quota.pass.view ++ steps)
    served old new [] h = plain old new (ap (λ (p : TheParts). p.strategy) h) (ap (λ (p : TheParts). p.quota) h)
    served old new (e ∷ l) (mid, h, more) =
        let first = serves old mid e.question e.answer h in
        let rest = served mid new l more in
        (first.0 ++ rest.0, (first.0, rest.0, held_in mid.strategy, first.1, rest.1, refl), joined old.quota mid.quota new.quota first.0 rest.0 first.2 rest.2)

    module _ (identities : List IdentityRecord) where
      pub ran : (old new : TheParts) (rs : List Ran) → Chained (Runs means identities) old rs new
          → (steps : List history.Entry) × RunsSteps bucket rs (held_in old.strategy) steps (held_in new.strategy) × (own new.quota.pass.view ≡ own old.quota.pass.view ++ steps)
      ran old new [] h = plain old new (ap (λ (p : TheParts). p.strategy) h) (ap (λ (p : TheParts). p.quota) h)
      ran old new (r ∷ rs) (mid, h, more) =
          let before = record old { outside = invoking.begun r.invocation.responses identities old.outside } in
          let first = served before h.served r.log h.serves in
          let rest = ran mid new rs more in
          let strategy : held_in mid.strategy ≡ held_in h.served.strategy = ap (λ (p : TheParts). held_in p.strategy) h.rests.others in
          let quota : mid.quota ≡ h.served.quota = ap (λ (p : TheParts). p.quota) h.rests.others in
          let made : own mid.quota.pass.view ≡ own old.quota.pass.view ++ first.0 = ap (λ (x : Caller Pace). own x.pass.view) quota ∙ first.2 in (
            first.0 ++ rest.0,
            (first.0, rest.0, held_in mid.strategy, subst (λ x. LogSteps bucket r.log (held_in old.strategy) first.0 x) (sym strategy) first.1, rest.1, refl),
            joined old.quota mid.quota new.quota first.0 rest.0 made rest.2,
          )
