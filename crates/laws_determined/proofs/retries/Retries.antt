-- Initial, Decide and Hook are determined.
use Rattle.std.proofs.Common.{◌≡◌, ◌∙◌, refl, sym, ap, subst, ℕ, Bool, false, inl, inr, ◌⊎◌, List, ◌∷◌, [], Option, None, Some}
use Rattle.std.specs.Prelude.{IsTrue, is_some}
use Rattle.std.proofs.lemmas.Bool.{false≢true}
use Rattle.std.proofs.lemmas.List.{append-nil}
use Rattle.outside.specs.Calls.{OutsideCall, Word}
use Rattle.outside.specs.Clock.{clock_calls}
use Rattle.client_retries.specs.Deciding.{DecidesSo, IsDecided, paused, sums_in}
use Rattle.client_retries.specs.Initially.{BeginsSo, Begun, answer_of}
use Rattle.client_retries.specs.Strategies.{held_by}
use Rattle.client_retries.specs.declared.strategy.RetryStrategy.{RetryStrategy}
use Rattle.client_retries.specs.declared.strategy.RetryStrategy.TheVariants.{Never, Standard}
use Rattle.retry_policy.specs.Decision.{Begins, Decides, permit_of}
use Rattle.retry_policy.specs.Standing.{lacks_setting, standing_bucket, standing_partition}
use Rattle.retry_policy.specs.declared.decision.Decision.{Decision}
use Rattle.retry_policy.specs.declared.decision.Initial.{Initial}
use Rattle.retry_policy.specs.declared.decision.Initial.TheVariants as initial
use Rattle.retry_policy.specs.declared.standard.StandardRetryStrategy.{StandardRetryStrategy}
use Rattle.retry_quota.specs.Calls.{Limiters}
use Rattle.retry_quota.specs.Meaning.{IsKept, Meaning}
use Rattle.retry_quota.specs.Registers.{Registers, meaning_of}
use Rattle.retry_quota.specs.declared.permit.Permit.{Permit}
use Rattle.run_grammar.specs.declared.answer.Answer.{Answer}
use Rattle.run_grammar.specs.declared.answer.Answer.TheVariants as answers
use Rattle.smithy_context.specs.StandingLayers.{StandingLayers}
use Rattle.smithy_context.specs.declared.context.InterceptorContext.{InterceptorContext}
use Rattle.smithy_types.specs.Chain.{Chained}
use Rattle.smithy_types.specs.declared.notes.RetryAction.{RetryAction}
use Rattle.smithy_types.specs.declared.sums.Sums.{Sums}
use Rattle.laws_determined.specs.Steady.Steady.{IsSteady}
use Rattle.laws_determined.proofs.steady.Calls.{clock_tells, onward, same_calls, same_known}
use Rattle.laws_determined.specs.Retries.Alike.{AreAlike, HoldAlike, registers_mean}
use Rattle.laws_determined.specs.Retries.Kinds as kinds
use Rattle.laws_determined.proofs.retries.Quota.{kept_left}
use Rattle.laws_determined.proofs.retries.Limiters.{but_for, registers_alike, registers_left}
use Rattle.laws_determined.proofs.retries.Decisions.{begins_alike, decides_alike, lacks_nothing}

module _ {P L : Type 0} (bucket amount : P → ℕ) (limiters : Limiters L) where
  has_alike : (q r : Registers L) → AreAlike q r → (now : Option ℕ) (settings : StandingLayers) → lacks_setting settings now (meaning_of q).has ≡ lacks_setting settings now (meaning_of r).has
  has_alike q r alike now settings = ap (λ books. lacks_setting settings now (meaning_of (record q { books = books })).has) alike.books

  kept_alike : (q r after left : Registers L) → AreAlike q r → IsKept (meaning_of q) (meaning_of after) → IsKept (meaning_of r) (meaning_of left) → AreAlike after left
  kept_alike q r after left alike s t =
      registers_alike None after left (kept_left (but_for None) (meaning_of q) (meaning_of r) (meaning_of after) (meaning_of left) (registers_left q r alike) s t)

  -- ---- Initial

  -- the two ways in which a strategy says when to begin
  abbrev Says : Registers L → StandingLayers → Option ℕ → Answer → Registers L → Type 0
  Says q settings now a after =
      (IsTrue (lacks_setting settings now (meaning_of q).has) × IsKept (meaning_of q) (meaning_of after) × (a ≡ answers.Absent))
      ⊎ ((first : Initial) × Begins limiters (meaning_of q) settings now first (meaning_of after) × (a ≡ answer_of first))

  says : (q after : Registers L) (settings : StandingLayers) (now : Option ℕ) (a : Answer) → BeginsSo limiters (meaning_of q) settings now a (meaning_of after) → Says q settings now a after
  says q after settings now answers.Absent h = inl (h.0, h.1, refl)
  says q after settings now answers.Go h = inr (initial.Go, h, refl)
  says q after settings now answers.No h = inr (initial.No, h, refl)
  says q after settings now (answers.Delay nanos) h = inr (initial.Delay nanos, h, refl)
  says q after settings now _ h = absurd h

  begins_none : (q : Registers L) (settings : StandingLayers) (now : Option ℕ) (first : Initial) (n : Meaning L) → Begins limiters (meaning_of q) settings now first n → lacks_setting settings now (meaning_of q).has ≡ false
  begins_none q settings now first n b = lacks_nothing limiters (meaning_of q) b.mid settings now b.retry b.bucket b.paced b.stands

  say_alike : (q r after left : Registers L) (settings : StandingLayers) (now : Option ℕ) (a b : Answer) → AreAlike q r → Says q settings now a after → Says r settings now b left → (a ≡ b) × AreAlike after left
  say_alike q r after left settings now a b alike (inl s) (inl t) = (s.2 ∙ sym t.2, kept_alike q r after left alike s.1 t.1)
  say_alike q r after left settings now a b alike (inl s) (inr t) =
      absurd (false≢true (sym (begins_none r settings now t.0 (meaning_of left) t.1) ∙ (sym (has_alike q r alike now settings) ∙ s.0)))
  say_alike q r after left settings now a b alike (inr s) (inl t) =
      absurd (false≢true (sym (begins_none q settings now s.0 (meaning_of after) s.1) ∙ (has_alike q r alike now settings ∙ t.0)))
  say_alike q r after left settings now a b alike (inr s) (inr t) =
      let met = begins_alike limiters settings now s.0 t.0 (meaning_of q) (meaning_of r) (meaning_of after) (meaning_of left) (registers_left q r alike) s.1 t.1 in
      (s.2 ∙ (ap answer_of met.0 ∙ sym t.2), registers_alike (standing_partition settings) after left met.1)

  module _ {X : Type 0} (makes : X → OutsideCall → X → Type 0) (steady : IsSteady makes) where
    initial_by : (time_source : Bool) (settings : StandingLayers) (one two new other : RetryStrategy P) (q r after left : Registers L) (a b : Answer) (calls more : List OutsideCall) (old made also : X)
        → HoldAlike bucket amount one two → AreAlike q r → Chained makes old calls made → Chained makes old more also
        → Begun (registers_mean bucket amount limiters) time_source settings one q a new calls after → Begun (registers_mean bucket amount limiters) time_source settings two r b other more left
        → (a ≡ b) × (made ≡ also) × HoldAlike bucket amount new other × AreAlike after left
    initial_by time_source settings (Never one) (Never two) new other q r after left a b calls more old made also hold alike did again s t = (
      s.0 ∙ sym t.0,
      same_calls makes steady [] old made also (subst (λ l. Chained makes old l made) s.2 did) (subst (λ l. Chained makes old l also) t.2 again),
      subst (λ x. HoldAlike bucket amount x other) (sym s.1) (subst (λ x. HoldAlike bucket amount (Never one) x) (sym t.1) tt),
      subst (λ x. AreAlike x left) (sym s.3) (subst (λ x. AreAlike q x) (sym t.3) alike),
    )
    initial_by time_source settings (Never one) (Standard two) new other q r after left a b calls more old made also hold alike did again s t = absurd hold
    initial_by time_source settings (Standard one) (Never two) new other q r after left a b calls more old made also hold alike did again s t = absurd hold
    initial_by time_source settings (Standard one) (Standard two) new other q r after left a b calls more old made also hold alike did again s t =
        let asked = clock_tells makes steady s.1.now t.1.now [] [] old made also (same_known (is_some s.1.now) (is_some t.1.now) time_source s.1.known t.1.known)
        (subst (λ l. Chained makes old l made) (s.1.calls_are ∙ sym (append-nil (clock_calls s.1.now))) did)
        (subst (λ l. Chained makes old l also) (t.1.calls_are ∙ sym (append-nil (clock_calls t.1.now))) again) in
        let met = say_alike q r after left settings s.1.now a b alike (says q after settings s.1.now a s.1.begins)
        (subst (λ now. Says r settings now b left) (sym asked.0) (says r left settings t.1.now b t.1.begins)) in (
          met.0,
          asked.1.first ∙ sym asked.1.second,
          subst (λ x. HoldAlike bucket amount x other) (sym s.0) (subst (λ x. HoldAlike bucket amount (Standard one) x) (sym t.0) hold),
          met.1,
        )

    pub initials : kinds.InitialsAreDetermined makes bucket amount limiters
    initials time_source settings one two after left a b alike (calls, did, s) (more, again, t) =
        let met = initial_by time_source settings one.strategy two.strategy after.strategy left.strategy one.quota two.quota after.quota left.quota a b calls more one.outside after.outside left.outside
        alike.strategy alike.quota did (subst (λ x. Chained makes x more left.outside) (sym alike.outside) again) s t in
        (met.0, record { outside = met.1; strategy = met.2; quota = met.3 })

  -- ---- Decide

  abbrev noted : RetryAction → Option ℕ → ℕ → Decision → Option Sums → Answer
  noted verdict now word decision sums = answers.Decided (paused decision) (Some (record { verdict = verdict; moment = now; word = word; reason = decision.reason; sums = sums }))

  -- the two ways in which a strategy decides
  abbrev Tells : RetryAction → Option ℕ → ℕ → InterceptorContext → StandardRetryStrategy P → Registers L → Answer → StandardRetryStrategy P → Registers L → Type 0
  Tells verdict now word c old q a new after =
      (IsTrue (lacks_setting c.view.settings now (meaning_of q).has) × (new ≡ old) × IsKept (meaning_of q) (meaning_of after) × (a ≡ answers.Absent))
      ⊎ ((decision : Decision)
      × Decides limiters (meaning_of q) c.view.settings c verdict now word (held_by (registers_mean bucket amount limiters) old) decision (held_by (registers_mean bucket amount limiters) new) (meaning_of after)
      × (a ≡ noted verdict now word decision (sums_in (meaning_of after) (standing_bucket c.view.settings))))

  tells : (verdict : RetryAction) (now : Option ℕ) (word : ℕ) (c : InterceptorContext) (old : StandardRetryStrategy P) (q : Registers L) (a : Answer) (new : StandardRetryStrategy P) (after : Registers L)
      → DecidesSo (registers_mean bucket amount limiters) verdict now word c old q a new after → Tells verdict now word c old q a new after
  tells verdict now word c old q answers.Absent new after h = inl (h.0, h.1, h.2, refl)
  tells verdict now word c old q (answers.Decided choice (Some note)) new after h = inr (h.0, h.1, λ i. answers.Decided (h.2 i) (Some (h.3 i)))
  tells verdict now word c old q _ new after h = absurd h

  decides_none : (q : Registers L) (settings : StandingLayers) (c : InterceptorContext) (verdict : RetryAction) (now : Option ℕ) (word : ℕ) (held kept : Option Permit) (d : Decision) (n : Meaning L)
      → Decides limiters (meaning_of q) settings c verdict now word held d kept n → lacks_setting settings now (meaning_of q).has ≡ false
  decides_none q settings c verdict now word held kept d n b = lacks_nothing limiters (meaning_of q) b.mid settings now b.retry b.bucket b.paced b.stands

  abbrev held : StandardRetryStrategy P → Option Permit
  held strategy = permit_of bucket amount strategy.held

  tell_alike : (verdict : RetryAction) (now : Option ℕ) (word : ℕ) (c : InterceptorContext) (old other new also : StandardRetryStrategy P) (q r after left : Registers L) (a b : Answer) → AreAlike q r
      → held old ≡ held other → Tells verdict now word c old q a new after → Tells verdict now word c other r b also left → (a ≡ b) × (held new ≡ held also) × AreAlike after left
  tell_alike verdict now word c old other new also q r after left a b alike hold (inl s) (inl t) =
      (s.3 ∙ sym t.3, ap held s.1 ∙ (hold ∙ sym (ap held t.1)), kept_alike q r after left alike s.2 t.2)
  tell_alike verdict now word c old other new also q r after left a b alike hold (inl s) (inr t) =
      absurd (false≢true (sym (decides_none r c.view.settings c verdict now word (held other) (held also) t.0 (meaning_of left) t.1) ∙ (sym (has_alike q r alike now c.view.settings) ∙ s.0)))
  tell_alike verdict now word c old other new also q r after left a b alike hold (inr s) (inl t) =
      absurd (false≢true (sym (decides_none q c.view.settings c verdict now word (held old) (held new) s.0 (meaning_of after) s.1) ∙ (has_alike q r alike now c.view.settings ∙ t.0)))
  tell_alike verdict now word c old other new also q r after left a b alike hold (inr s) (inr t) =
      let settings = c.view.settings in
      let met = decides_alike limiters settings c verdict now word (held old) s.0 t.0 (held new) (held also) (meaning_of q) (meaning_of r) (meaning_of after) (meaning_of left) (registers_left q r alike) s.1
      (subst (λ h. Decides limiters (meaning_of r) settings c verdict now word h t.0 (held also) (meaning_of left)) (sym hold) t.1) in
      let quotas = registers_alike (standing_partition settings) after left met.2 in
      let sums : sums_in (meaning_of after) (standing_bucket settings) ≡ sums_in (meaning_of left) (standing_bucket settings) =
      ap (λ books. sums_in (meaning_of (record after { books = books })) (standing_bucket settings)) quotas.books in
      (s.2 ∙ ((λ i. noted verdict now word (met.0 i) (sums i)) ∙ sym t.2), met.1, quotas)

  module _ {X : Type 0} (makes : X → OutsideCall → X → Type 0) (steady : IsSteady makes) where
    decision_by : (verdict : RetryAction) (time_source : Bool) (c : InterceptorContext) (one two new other : RetryStrategy P) (q r after left : Registers L) (a b : Answer) (calls more : List OutsideCall) (old made also : X)
        → HoldAlike bucket amount one two → AreAlike q r → Chained makes old calls made → Chained makes old more also
        → IsDecided (registers_mean bucket amount limiters) verdict time_source c one q a new calls after → IsDecided (registers_mean bucket amount limiters) verdict time_source c two r b other more left
        → (a ≡ b) × (made ≡ also) × HoldAlike bucket amount new other × AreAlike after left
    decision_by verdict time_source c (Never one) (Never two) new other q r after left a b calls more old made also hold alike did again s t = (
      s.0 ∙ sym t.0,
      same_calls makes steady [] old made also (subst (λ l. Chained makes old l made) s.2 did) (subst (λ l. Chained makes old l also) t.2 again),
      subst (λ x. HoldAlike bucket amount x other) (sym s.1) (subst (λ x. HoldAlike bucket amount (Never one) x) (sym t.1) tt),
      subst (λ x. AreAlike x left) (sym s.3) (subst (λ x. AreAlike q x) (sym t.3) alike),
    )
    decision_by verdict time_source c (Never one) (Standard two) new other q r after left a b calls more old made also hold alike did again s t = absurd hold
    decision_by verdict time_source c (Standard one) (Never two) new other q r after left a b calls more old made also hold alike did again s t = absurd hold
    decision_by verdict time_source c (Standard one) (Standard two) new other q r after left a b calls more old made also hold alike did again (kept, new_is, s) (held_too, other_is, t) =
        let asked = clock_tells makes steady s.now t.now (Word s.word ∷ []) (Word t.word ∷ []) old made also (same_known (is_some s.now) (is_some t.now) time_source s.known t.known)
        (subst (λ l. Chained makes old l made) s.calls_are did) (subst (λ l. Chained makes old l also) t.calls_are again) in
        let drawn = onward makes steady Word steady.word s.word t.word [] [] asked.1.state made also asked.1.first asked.1.second in
        let later = subst (λ w. Tells verdict s.now w c two r b held_too left) (sym drawn.0)
        (subst (λ now. Tells verdict now t.word c two r b held_too left) (sym asked.0) (tells verdict t.now t.word c two r b held_too left t.decides)) in
        let met = tell_alike verdict s.now s.word c one two kept held_too q r after left a b alike hold (tells verdict s.now s.word c one q a kept after s.decides) later in (
          met.0,
          drawn.1.first ∙ sym drawn.1.second,
          subst (λ x. HoldAlike bucket amount x other) (sym new_is) (subst (λ x. HoldAlike bucket amount (Standard kept) x) (sym other_is) met.1),
          met.2,
        )

    pub decisions : kinds.DecisionsAreDetermined makes bucket amount limiters
    decisions verdict time_source c one two after left a b alike (calls, did, s) (more, again, t) =
        let met = decision_by verdict time_source c one.strategy two.strategy after.strategy left.strategy one.quota two.quota after.quota left.quota a b calls more one.outside after.outside left.outside
        alike.strategy alike.quota did (subst (λ x. Chained makes x more left.outside) (sym alike.outside) again) s t in
        (met.0, record { outside = met.1; strategy = met.2; quota = met.3 })
