-- What a strategy decides, over two quotas that mean alike.
use Rattle.std.proofs.Common.{◌≡◌, ◌∙◌, refl, sym, ap, subst, ℕ, Bool, true, false, List, ◌++◌, [], Option, None, Some, Result, Ok, Err, if◌then◌else◌, ◌&&◌}
use Rattle.std.specs.Prelude.{MatchOption, nat_le, nat_lt, is_none}
use Rattle.std.proofs.lemmas.List.{append-nil}
use Rattle.retry_policy.specs.Backoff.{backoff_of, is_v2_1, own_backoff}
use Rattle.retry_policy.specs.Decision.{Begins, Case, Comes, Decided, Decides, Stands, asking, case_of, cost_for, deciding, decision, delay_in, forgetting, held_on, initially, limited, paying, reason_for, refusing, retrying, second_of, settled, settling, telling, FindsLimiter}
use Rattle.retry_policy.specs.Standing.{lacks_for, lacks_setting, standing_bucket, standing_partition, standing_retry, uses_limiter}
use Rattle.retry_policy.specs.declared.decision.Decision.{Decision}
use Rattle.retry_policy.specs.declared.decision.Initial.{Initial}
use Rattle.retry_policy.specs.declared.standing.Paced.{Paced}
use Rattle.retry_quota.specs.Calls.{Calls, Limiters, QuotaCall}
use Rattle.retry_quota.specs.History.{Acquire, acquire_reply}
use Rattle.retry_quota.specs.Meaning.{AddsLimiter, IsKept, Meaning}
use Rattle.retry_quota.specs.declared.limiter.RequestReason.{RequestReason}
use Rattle.retry_quota.specs.declared.limiter.RequestReason.TheVariants.{InitialRequest}
use Rattle.retry_quota.specs.declared.permit.Permit.{Permit}
use Rattle.smithy_context.specs.StandingLayers.{StandingLayers}
use Rattle.smithy_context.specs.Failures.{is_failure}
use Rattle.smithy_context.specs.declared.context.InterceptorContext.{InterceptorContext}
use Rattle.smithy_types.specs.Chain.{Chained}
use Rattle.smithy_types.specs.declared.config.RetryConfig.{RetryConfig}
use Rattle.smithy_types.specs.declared.kinds.ErrorKind.{ErrorKind}
use Rattle.smithy_types.specs.declared.notes.RetryAction.{RetryAction}
use Rattle.smithy_types.specs.declared.notes.Reason.{Reason}
use Rattle.smithy_types.specs.declared.notes.Reason.TheVariants.{NotIndicated, OutOfAttempts}
use Rattle.smithy_types.specs.declared.partition.CustomPartition.{CustomPartition}
use Rattle.retry_policy.specs.declared.decision.Initial.TheVariants as initial
use Rattle.smithy_types.specs.declared.notes.RetryAction.TheVariants.{NoActionIndicated, RetryIndicated, RetryForbidden}
use Rattle.smithy_types.specs.declared.partition.RetryPartition.{RetryPartition}
use Rattle.laws_determined.proofs.retries.Quota.{ArePlain, Left, Onward, all_left, change_left, one_limiter_reply, past, same_some, stays_left, step_tells}
use Rattle.laws_determined.proofs.retries.Limiters.{but_for, every, found_left}

-- ---- these make no look-up

plain_telling : {L : Type 0} (means : Limiters L) (paced : Option Paced) (verdict : RetryAction) → ArePlain (telling paced verdict)
plain_telling means None verdict = tt
plain_telling means (Some paced) verdict = (refl, tt)

plain_forgetting : {L : Type 0} (means : Limiters L) (held : Option Permit) → ArePlain (forgetting held)
plain_forgetting means None = tt
plain_forgetting means (Some permit) = (refl, tt)

plain_settling : {L : Type 0} (means : Limiters L) (rewards : Bool) (bucket reward : ℕ) (held : Option Permit) → nat_lt 0 reward ≡ rewards → ArePlain (settling bucket reward held)
plain_settling means true bucket reward held is = rw is (refl, plain_forgetting means held)
plain_settling means false bucket reward None is = rw is (refl, tt)
plain_settling means false bucket reward (Some permit) is = rw is (refl, tt)

plain_settled : {L : Type 0} (means : Limiters L) (failed : Bool) (bucket reward : ℕ) (held : Option Permit) → ArePlain (settled failed bucket reward held)
plain_settled means true bucket reward held = tt
plain_settled means false bucket reward held = plain_settling means (nat_lt 0 reward) bucket reward held refl

granted_same : (one two : Option ℕ) → acquire_reply one ≡ acquire_reply two → one ≡ two
granted_same None None same = refl
granted_same None (Some b) same = absurd (cc same)
granted_same (Some a) None same = absurd (cc same)
granted_same (Some a) (Some b) same = cc

-- ---- the settings that stand

lacks_none : (retry : RetryConfig) (now bucket : Option ℕ) (partition : Option RetryPartition) (has : ℕ → Bool) (number : ℕ) (found : Option RetryConfig)
    → found ≡ Some retry → bucket ≡ Some number → has number ≡ true → (uses_limiter retry now && is_none partition) ≡ false → lacks_for has now bucket partition found ≡ false
lacks_none retry now bucket partition has number found a b c d = rw (a, b, c, d) refl

finds_partition : {L : Type 0} (means : Limiters L) (m n : Meaning L) (uses : Bool) (now : Option ℕ) (partition : Option RetryPartition) (paced : Option Paced)
    → FindsLimiter means m uses now partition paced n → (uses && is_none partition) ≡ false
finds_partition means m n true (Some now) (Some partition) (Some paced) h = refl
finds_partition means m n true (Some now) (Some partition) None h = absurd h
finds_partition means m n true (Some now) None paced h = absurd h
finds_partition means m n true None partition paced h = absurd h
finds_partition means m n false now partition paced h = refl

module _ {L : Type 0} (means : Limiters L) where
  -- what stands isn't missing
  pub lacks_nothing : (m n : Meaning L) (settings : StandingLayers) (now : Option ℕ) (retry : RetryConfig) (bucket : ℕ) (paced : Option Paced) → Stands means m settings now retry bucket paced n
      → lacks_setting settings now m.has ≡ false
  lacks_nothing m n settings now retry bucket paced s =
      lacks_none retry now (standing_bucket settings) (standing_partition settings) m.has bucket (standing_retry settings) s.retry_stands s.bucket_stands s.there
      (finds_partition means m n (uses_limiter retry now) now (standing_partition settings) paced s.found)

  -- a limiter is asked and answers alike
  pub asked_left : (of : RetryPartition → Type 0) (version : Bool) (paced : Option Paced) (reason : RequestReason) (reply said : Result (Unit {0}) ℕ) (calls other : List QuotaCall) (m n left more : Meaning L)
      → Left of m n → Chained (Calls means) m (asking version paced reason reply ++ calls) left → Chained (Calls means) n (asking version paced reason said ++ other) more
      → (limited version paced reply ≡ limited version paced said) × Onward of means m calls other left more
  asked_left of true paced reason reply said calls other m n left more was s t = (refl, record { one = m; two = n; left_so = was; has = λ b. refl; first = s; second = t })
  asked_left of false None reason reply said calls other m n left more was s t = (refl, record { one = m; two = n; left_so = was; has = λ b. refl; first = s; second = t })
  asked_left of false (Some paced) reason reply said calls other m n left more was (mid, this, rest) (away, that, later) =
      let same : reply ≡ said = this.1 ∙ (one_limiter_reply of means m n paced.limiter paced.now reason was ∙ sym that.1) in (
        ap delay_in same,
        record {
          one = mid;
          two = away;
          left_so = change_left of m n mid away paced.limiter (λ l. means.after_acquire l paced.now reason) was this.0 that.0;
          has = this.0.buckets.has;
          first = rest;
          second = later;
        },
      )

  -- ---- what is paid

  plain_paying : (c : Case) (kind : ErrorKind) (backoff : ℕ) (held : Option Permit) (grant : Option ℕ) → ArePlain (paying c kind backoff held grant).calls
  plain_paying c kind backoff held None = (refl, tt)
  plain_paying c kind backoff held (Some amount) = (refl, plain_forgetting means held)

  module _ (of : RetryPartition → Type 0) where
    grants_same : (c : Case) (kind : ErrorKind) (backoff : ℕ) (held : Option Permit) (grant other : Option ℕ) (m n left more : Meaning L) → Left of m n → m.has c.bucket ≡ true
        → Chained (Calls means) m (paying c kind backoff held grant).calls left → Chained (Calls means) n (paying c kind backoff held other).calls more → acquire_reply grant ≡ acquire_reply other
    grants_same c kind backoff held None None m n left more was there s t = refl
    grants_same c kind backoff held None (Some b) m n left more was there (mid, this, rest) (away, that, later) =
        step_tells of m n mid away c.bucket (Acquire kind (second_of c.now)) (acquire_reply None) (acquire_reply (Some b)) was there this that
    grants_same c kind backoff held (Some a) None m n left more was there (mid, this, rest) (away, that, later) =
        step_tells of m n mid away c.bucket (Acquire kind (second_of c.now)) (acquire_reply (Some a)) (acquire_reply None) was there this that
    grants_same c kind backoff held (Some a) (Some b) m n left more was there (mid, this, rest) (away, that, later) =
        step_tells of m n mid away c.bucket (Acquire kind (second_of c.now)) (acquire_reply (Some a)) (acquire_reply (Some b)) was there this that

    pays_alike : (c : Case) (kind : ErrorKind) (backoff : ℕ) (held : Option Permit) (grant other : Option ℕ) (m n left more : Meaning L) → Left of m n → m.has c.bucket ≡ true
        → Chained (Calls means) m (paying c kind backoff held grant).calls left → Chained (Calls means) n (paying c kind backoff held other).calls more → (grant ≡ other) × Left of left more
    pays_alike c kind backoff held grant other m n left more was there s t =
        let same : grant ≡ other = granted_same grant other (grants_same c kind backoff held grant other m n left more was there s t) in (
          same,
          all_left of means (paying c kind backoff held grant).calls m n left more (plain_paying c kind backoff held grant) was s
              (subst (λ g. Chained (Calls means) n (paying c kind backoff held g).calls more) (sym same) t),
        )

    -- ---- what is decided

    -- all but the calls
    record Same (d e : Decided) : Type 0 where
      choice : d.choice ≡ e.choice
      reason : d.reason ≡ e.reason
      long_poll : d.long_poll ≡ e.long_poll
      held : d.held ≡ e.held

    same_by : {A : Type 0} (decided : A → Decided) (a b : A) → a ≡ b → Same (decided a) (decided b)
    same_by decided a b is = record { choice = ap (λ x. (decided x).choice) is; reason = ap (λ x. (decided x).reason) is; long_poll = ap (λ x. (decided x).long_poll) is; held = ap (λ x. (decided x).held) is }

    retries_alike : (c : Case) (kind : ErrorKind) (retry_after : Option ℕ) (held : Option Permit) (reply said : Result (Unit {0}) ℕ) (grant other : Option ℕ) (m n left more : Meaning L) → Left of m n → m.has c.bucket ≡ true
        → Chained (Calls means) m (retrying c kind retry_after held reply grant).calls left → Chained (Calls means) n (retrying c kind retry_after held said other).calls more
        → Same (retrying c kind retry_after held reply grant) (retrying c kind retry_after held said other) × Left of left more
    retries_alike c kind retry_after held reply said grant other m n left more was there s t =
        let version = is_v2_1 c.retry.spec in
        let backoff = λ (limit : Option ℕ). backoff_of c.retry limit retry_after (own_backoff c.retry kind c.attempt c.word) in
        let asked = asked_left of version c.paced (reason_for kind) reply said (paying c kind (backoff (limited version c.paced reply)) held grant).calls
        (paying c kind (backoff (limited version c.paced said)) held other).calls m n left more was s t in
        let on = asked.1 in
        let paid = pays_alike c kind (backoff (limited version c.paced reply)) held grant other on.one on.two left more on.left_so (on.has c.bucket ∙ there) on.first
        (subst (λ limit. Chained (Calls means) on.two (paying c kind (backoff limit) held other).calls more) (sym asked.0) on.second) in
        let one : Same (paying c kind (backoff (limited version c.paced reply)) held grant) (paying c kind (backoff (limited version c.paced said)) held grant) =
        same_by (λ limit. paying c kind (backoff limit) held grant) (limited version c.paced reply) (limited version c.paced said) asked.0 in
        let two : Same (paying c kind (backoff (limited version c.paced said)) held grant) (paying c kind (backoff (limited version c.paced said)) held other) =
        same_by (λ g. paying c kind (backoff (limited version c.paced said)) held g) grant other paid.0 in
        (record { choice = one.choice ∙ two.choice; reason = one.reason ∙ two.reason; long_poll = one.long_poll ∙ two.long_poll; held = one.held ∙ two.held }, paid.1)

    refuses_alike : (reason : Reason) (held : Option Permit) (m n left more : Meaning L) → Left of m n
        → Chained (Calls means) m (refusing reason held).calls left → Chained (Calls means) n (refusing reason held).calls more → Same (refusing reason held) (refusing reason held) × Left of left more
    refuses_alike reason held m n left more was s t = (record { choice = refl; reason = refl; long_poll = refl; held = refl }, stays_left of means m n left more was s t)

    verdict_alike : (c : Case) (verdict : RetryAction) (held : Option Permit) (reply said : Result (Unit {0}) ℕ) (grant other : Option ℕ) (m n left more : Meaning L) → Left of m n → m.has c.bucket ≡ true
        → Chained (Calls means) m (deciding c verdict held reply grant).calls left → Chained (Calls means) n (deciding c verdict held said other).calls more
        → Same (deciding c verdict held reply grant) (deciding c verdict held said other) × Left of left more
    verdict_alike c (RetryIndicated kind retry_after) held reply said grant other m n left more was there s t = by (nat_le c.retry.max_attempts c.attempt) s t
      where
        by : (out : Bool)
            → Chained (Calls means) m (if out then refusing OutOfAttempts held else retrying c kind retry_after held reply grant).calls left
            → Chained (Calls means) n (if out then refusing OutOfAttempts held else retrying c kind retry_after held said other).calls more
            → Same (if out then refusing OutOfAttempts held else retrying c kind retry_after held reply grant) (if out then refusing OutOfAttempts held else retrying c kind retry_after held said other) × Left of left more
        by true s t = refuses_alike OutOfAttempts held m n left more was s t
        by false s t = retries_alike c kind retry_after held reply said grant other m n left more was there s t
    verdict_alike c NoActionIndicated held reply said grant other m n left more was there s t = refuses_alike NotIndicated held m n left more was s t
    verdict_alike c RetryForbidden held reply said grant other m n left more was there s t = refuses_alike NotIndicated held m n left more was s t

    decision_alike : (c : Case) (held : Option Permit) (reply said : Result (Unit {0}) ℕ) (grant other : Option ℕ) (m n left more : Meaning L) → Left of m n → m.has c.bucket ≡ true
        → Chained (Calls means) m (decision c held reply grant).calls left → Chained (Calls means) n (decision c held said other).calls more
        → Same (decision c held reply grant) (decision c held said other) × Left of left more
    decision_alike c held reply said grant other m n left more was there s t =
        let d = deciding c c.verdict (held_on c.failed held) reply grant in
        let e = deciding c c.verdict (held_on c.failed held) said other in
        let told = past of means (telling c.paced c.verdict) (settled c.failed c.bucket c.reward held ++ d.calls) (settled c.failed c.bucket c.reward held ++ e.calls) m n left more
        (plain_telling means c.paced c.verdict) was s t in
        let on = past of means (settled c.failed c.bucket c.reward held) d.calls e.calls told.one told.two left more (plain_settled means c.failed c.bucket c.reward held) told.left_so told.first told.second in
        let met = verdict_alike c c.verdict (held_on c.failed held) reply said grant other on.one on.two left more on.left_so (on.has c.bucket ∙ (told.has c.bucket ∙ there)) on.first on.second in
        (record { choice = met.0.choice; reason = met.0.reason; long_poll = met.0.long_poll; held = met.0.held }, met.1)

    comes_alike : (c : Case) (held : Option Permit) (d e : Decision) (h k : Option Permit) (m n left more : Meaning L) → Left of m n → m.has c.bucket ≡ true
        → Comes means m (decision c held) d h left → Comes means n (decision c held) e k more → (d ≡ e) × (h ≡ k) × Left of left more
    comes_alike c held d e h k m n left more was there s t =
        let met = decision_alike c held s.reply t.reply s.grant t.grant m n left more was there s.made t.made in
        let same = met.0 in
        let choice : d.choice ≡ e.choice = s.choice ∙ (same.choice ∙ sym t.choice) in
        let reason : d.reason ≡ e.reason = s.reason ∙ (same.reason ∙ sym t.reason) in
        let long_poll : d.long_poll ≡ e.long_poll = s.long_poll ∙ (same.long_poll ∙ sym t.long_poll) in
        ((λ i. record { choice = choice i; reason = reason i; long_poll = long_poll i }), s.holds ∙ (same.held ∙ sym t.holds), met.1)

    cost_alike : (m n : Meaning L) (bucket : ℕ) (verdict : RetryAction) → Left of m n → cost_for (m.cost bucket) verdict ≡ cost_for (n.cost bucket) verdict
    cost_alike m n bucket (RetryIndicated kind retry_after) was = was.alike.cost bucket kind
    cost_alike m n bucket NoActionIndicated was = refl
    cost_alike m n bucket RetryForbidden was = refl

    case_alike : (retry : RetryConfig) (bucket : ℕ) (failed : Bool) (attempt : ℕ) (verdict : RetryAction) (now : Option ℕ) (word : ℕ) (paced : Option Paced) (m n : Meaning L) → Left of m n
        → case_of retry bucket failed attempt verdict now word paced m ≡ case_of retry bucket failed attempt verdict now word paced n
    case_alike retry bucket failed attempt verdict now word paced m n was =
        let cost = cost_alike m n bucket verdict was in
        λ i. record { retry = retry; bucket = bucket; failed = failed; attempt = attempt; verdict = verdict; now = now; word = word; paced = paced; cost = cost i; reward = was.alike.reward bucket i }

  -- ---- what stands

  -- one limiter is found for both
  pub record StandAlike (settings : StandingLayers) (retry other : RetryConfig) (bucket number : ℕ) (paced also : Option Paced) (m left more : Meaning L) : Type 0 where
    pub retries : retry ≡ other
    pub buckets : bucket ≡ number
    pub limiters : paced ≡ also
    pub left_so : Left (but_for (standing_partition settings)) left more
    pub there : left.has bucket ≡ true

  finds_has : (m left : Meaning L) (uses : Bool) (now : Option ℕ) (partition : Option RetryPartition) (paced : Option Paced) → FindsLimiter means m uses now partition paced left → (bucket : ℕ) → left.has bucket ≡ m.has bucket
  finds_has m left true (Some now) (Some partition) (Some paced) h bucket = by partition.custom h.1
    where
      by_name : (found : Option ℕ) → MatchOption found (AddsLimiter m partition (means.at now) paced.limiter left) (λ known. (paced.limiter ≡ known) × IsKept m left) → left.has bucket ≡ m.has bucket
      by_name None s = s.has bucket
      by_name (Some known) s = s.1.buckets.has bucket

      by : (custom : Option CustomPartition)
          → MatchOption custom (MatchOption (m.limiter_of partition) (AddsLimiter m partition (means.at now) paced.limiter left) (λ known. (paced.limiter ≡ known) × IsKept m left)) (λ numbers. (paced.limiter ≡ numbers.limiter) × IsKept m left)
          → left.has bucket ≡ m.has bucket
      by None s = by_name (m.limiter_of partition) s
      by (Some numbers) s = s.1.buckets.has bucket
  finds_has m left true (Some now) (Some partition) None h bucket = absurd h
  finds_has m left true (Some now) None paced h bucket = absurd h
  finds_has m left true None partition paced h bucket = absurd h
  finds_has m left false now partition None h bucket = ap (λ (x : Meaning L). x.has bucket) h
  finds_has m left false now partition (Some paced) h bucket = absurd h

  pub stand_alike : (settings : StandingLayers) (now : Option ℕ) (retry other : RetryConfig) (bucket number : ℕ) (paced also : Option Paced) (m n left more : Meaning L) → Left every m n
      → Stands means m settings now retry bucket paced left → Stands means n settings now other number also more → StandAlike settings retry other bucket number paced also m left more
  stand_alike settings now retry other bucket number paced also m n left more was s t =
      let one : retry ≡ other = same_some retry other (sym s.retry_stands ∙ t.retry_stands) in
      let found = found_left means (uses_limiter retry now) now (standing_partition settings) paced also m n left more was s.found
      (subst (λ r. FindsLimiter means n (uses_limiter r now) now (standing_partition settings) also more) (sym one) t.found) in
      record {
        retries = one;
        buckets = same_some bucket number (sym s.bucket_stands ∙ t.bucket_stands);
        limiters = found.0;
        left_so = found.1;
        there = finds_has m left (uses_limiter retry now) now (standing_partition settings) paced s.found bucket ∙ s.there;
      }

  pub decides_alike : (settings : StandingLayers) (c : InterceptorContext) (verdict : RetryAction) (now : Option ℕ) (word : ℕ) (held : Option Permit) (d e : Decision) (h k : Option Permit) (m n left more : Meaning L)
      → Left every m n → Decides means m settings c verdict now word held d h left → Decides means n settings c verdict now word held e k more
      → (d ≡ e) × (h ≡ k) × Left (but_for (standing_partition settings)) left more
  decides_alike settings c verdict now word held d e h k m n left more was s t =
      let of = but_for (standing_partition settings) in
      let failed = is_failure c.view.outcome in
      let stand = stand_alike settings now s.retry t.retry s.bucket t.bucket s.paced t.paced m n s.mid t.mid was s.stands t.stands in
      let cases : case_of s.retry s.bucket failed c.view.attempt verdict now word s.paced s.mid ≡ case_of t.retry t.bucket failed c.view.attempt verdict now word t.paced t.mid =
      case_alike of s.retry s.bucket failed c.view.attempt verdict now word s.paced s.mid t.mid stand.left_so
      ∙ (λ i. case_of (stand.retries i) (stand.buckets i) failed c.view.attempt verdict now word (stand.limiters i) t.mid) in
      comes_alike of (case_of s.retry s.bucket failed c.view.attempt verdict now word s.paced s.mid) held d e h k s.mid t.mid left more stand.left_so stand.there s.comes
      (subst (λ x. Comes means t.mid (decision x held) e k more) (sym cases) t.comes)

  -- ---- the first attempt

  initial_same : (paced : Option Paced) (reply said : Result (Unit {0}) ℕ) → limited false paced reply ≡ limited false paced said → initially paced reply ≡ initially paced said
  initial_same None reply said same = refl
  initial_same (Some paced) (Ok one) (Ok two) same = refl
  initial_same (Some paced) (Ok one) (Err delay) same = absurd (cc same)
  initial_same (Some paced) (Err delay) (Ok two) same = absurd (cc same)
  initial_same (Some paced) (Err delay) (Err other) same = ap initial.Delay (same_some delay other same)

  pub begins_alike : (settings : StandingLayers) (now : Option ℕ) (a b : Initial) (m n left more : Meaning L) → Left every m n → Begins means m settings now a left → Begins means n settings now b more
      → (a ≡ b) × Left (but_for (standing_partition settings)) left more
  begins_alike settings now a b m n left more was s t =
      let of = but_for (standing_partition settings) in
      let stand = stand_alike settings now s.retry t.retry s.bucket t.bucket s.paced t.paced m n s.mid t.mid was s.stands t.stands in
      let asked = asked_left of false s.paced InitialRequest s.reply t.reply [] [] s.mid t.mid left more stand.left_so
      (subst (λ l. Chained (Calls means) s.mid l left) (sym (append-nil (asking false s.paced InitialRequest s.reply))) s.made)
      (subst (λ p. Chained (Calls means) t.mid (asking false p InitialRequest t.reply ++ []) more) (sym stand.limiters)
      (subst (λ l. Chained (Calls means) t.mid l more) (sym (append-nil (asking false t.paced InitialRequest t.reply))) t.made)) in (
        s.answer ∙ (initial_same s.paced s.reply t.reply asked.0 ∙ (ap (λ p. initially p t.reply) stand.limiters ∙ sym t.answer)),
        stays_left of means asked.1.one asked.1.two left more asked.1.left_so asked.1.first asked.1.second,
      )
