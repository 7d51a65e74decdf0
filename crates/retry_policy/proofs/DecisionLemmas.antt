-- Decisions from their parts.
use Rattle.std.proofs.Common.{◌≡◌, ◌≤◌, ◌<◌, ◌∙◌, ap, refl, sym, subst, ℕ, Bool, true, false, if◌then◌else◌, List, [], ◌∷◌, ◌++◌, Option, Some, None, ◌⊎◌, inl, inr, arith}
use Rattle.std.specs.Prelude.{Result, Ok, Err, nat_le}
use Rattle.std.proofs.lemmas.Bool.Decides.{nat_tests}
use Rattle.smithy_types.specs.Chain.{Chained}
use Rattle.smithy_types.proofs.ChainLemmas.{chained_join}
use Rattle.smithy_types.specs.declared.config.RetryConfig.{RetryConfig}
use Rattle.smithy_types.specs.declared.kinds.ErrorKind.{ErrorKind}
use Rattle.smithy_types.specs.declared.notes.Choice.TheVariants.{No, Delay}
use Rattle.smithy_types.specs.declared.notes.Reason.{Reason}
use Rattle.smithy_types.specs.declared.notes.Reason.TheVariants.{NotIndicated, OutOfAttempts, NoQuota, Granted}
use Rattle.smithy_types.specs.declared.notes.RetryAction.{RetryAction}
use Rattle.smithy_types.specs.declared.notes.RetryAction.TheVariants.{NoActionIndicated, RetryIndicated, RetryForbidden}
use Rattle.retry_quota.specs.declared.limiter.RequestReason.{RequestReason}
use Rattle.retry_quota.specs.declared.permit.Permit.{Permit}
use Rattle.retry_quota.specs.Calls.{QuotaCall, OnBucket, Limiters, Calls, KeepsThere}
use Rattle.retry_quota.specs.History.{Acquire, acquire_reply}
use Rattle.retry_quota.specs.Meaning.{Meaning, Steps}
use Rattle.retry_quota.proofs.CallLemmas.{calls_keep}
use Rattle.retry_policy.specs.Backoff.{is_v2_1, polls_for_long, own_backoff, backoff_of}
use Rattle.retry_policy.specs.Decision.{Case, Decided, Comes, Asks, case_of, cost_for, paying, retrying, deciding, decision, asking, limited, reason_for, second_of, forgetting, refusing, telling, settled, held_on}
use Rattle.retry_policy.specs.declared.decision.Decision.{Decision}
use Rattle.retry_policy.specs.declared.standing.Paced.{Paced}

out_of_attempts : (c : Case) (verdict : RetryAction) (kind : ErrorKind) (retry_after : Option ℕ) (held : Option Permit) (reply : Result (Unit {0}) ℕ) (grant : Option ℕ)
    → verdict ≡ RetryIndicated kind retry_after → c.retry.max_attempts ≤ c.attempt → deciding c verdict held reply grant ≡ refusing OutOfAttempts held
out_of_attempts c verdict kind retry_after held reply grant is enough =
    let test : nat_le c.retry.max_attempts c.attempt ≡ true = grind (arith, nat_tests) in rw (is, test) refl

not_indicated : (c : Case) (verdict : RetryAction) (held : Option Permit) (reply : Result (Unit {0}) ℕ) (grant : Option ℕ)
    → (verdict ≡ NoActionIndicated) ⊎ (verdict ≡ RetryForbidden) → deciding c verdict held reply grant ≡ refusing NotIndicated held
not_indicated c verdict held reply grant is = elim is [ inl e ↦ rw e refl | inr e ↦ rw e refl ]

module _ {L : Type 0} (means : Limiters L) where
  pub asks_skipped : (m : Meaning L) (skipped : Bool) (paced : Option Paced) (reason : RequestReason) → skipped ≡ true → Asks means m skipped paced reason None m
  asks_skipped m skipped paced reason e = rw e (record { reply = Ok tt; answer = refl; made = refl })

  pub asks_nobody : (m : Meaning L) (skipped : Bool) (paced : Option Paced) (reason : RequestReason) → skipped ≡ false → paced ≡ None → Asks means m skipped paced reason None m
  asks_nobody m skipped paced reason e f = rw (e, f) (record { reply = Ok tt; answer = refl; made = refl })

  pub pays_nothing : (m n : Meaning L) (retry : RetryConfig) (bucket number word cost wait : ℕ) (failed : Bool) (kind : ErrorKind) (now retry_after long : Option ℕ) (paced : Option Paced) (held : Option Permit)
      → cost ≡ m.cost bucket kind → long ≡ (if polls_for_long retry.spec then Some wait else None) → Steps m bucket (Acquire kind (second_of now)) (acquire_reply None) n
      → Comes means m (λ _. paying (case_of retry bucket failed number (RetryIndicated kind retry_after) now word paced m) kind wait held) (record { choice = No; reason = NoQuota cost; long_poll = long }) held n
  pays_nothing m n retry bucket number word cost wait failed kind now retry_after long paced held costs pauses step = record {
    reply = Ok tt;
    grant = None;
    shown = tt;
    choice = refl;
    reason = ap NoQuota costs;
    long_poll = pauses;
    holds = refl;
    made = (n, step, refl);
  }

  pub pays : (m mid n : Meaning L) (retry : RetryConfig) (bucket number word cost wait amount of : ℕ) (failed : Bool) (kind : ErrorKind) (now retry_after : Option ℕ) (paced : Option Paced) (held after : Option Permit)
      → cost ≡ m.cost bucket kind → after ≡ Some (record { bucket = of; amount = amount }) → of ≡ bucket → amount ≡ m.cost bucket kind → Steps m bucket (Acquire kind (second_of now)) (acquire_reply (Some amount)) mid → Chained (Calls means) mid (forgetting held) n
      → Comes means m (λ _. paying (case_of retry bucket failed number (RetryIndicated kind retry_after) now word paced m) kind wait held) (record { choice = Delay wait; reason = Granted cost; long_poll = None }) after n
  pays m mid n retry bucket number word cost wait amount of failed kind now retry_after paced held after costs holds own owed step made = record {
    reply = Ok tt;
    grant = Some amount;
    shown = ap Granted (costs ∙ sym owed);
    choice = refl;
    reason = ap Granted costs;
    long_poll = refl;
    holds = holds ∙ ap (λ b. Some (record { bucket = b; amount = amount })) own;
    made = (mid, step, made);
  }

  same_paying : (k m : Meaning L) (retry : RetryConfig) (bucket number word wait due : ℕ) (failed : Bool) (kind : ErrorKind) (now retry_after : Option ℕ) (paced : Option Paced) (held : Option Permit) (grant : Option ℕ)
      → k.cost bucket kind ≡ m.cost bucket kind → wait ≡ due
      → paying (case_of retry bucket failed number (RetryIndicated kind retry_after) now word paced k) kind wait held grant ≡ paying (case_of retry bucket failed number (RetryIndicated kind retry_after) now word paced m) kind due held grant
  same_paying k m retry bucket number word wait due failed kind now retry_after paced held None costs waits = rw (costs, waits) refl
  same_paying k m retry bucket number word wait due failed kind now retry_after paced held (Some amount) costs waits = rw (costs, waits) refl

  pub retries : (m k n : Meaning L) (retry : RetryConfig) (bucket number word wait : ℕ) (failed : Bool) (kind : ErrorKind) (now retry_after delay : Option ℕ) (paced : Option Paced) (held after : Option Permit) (d : Decision)
      → m.has bucket ≡ true → Asks means m (is_v2_1 retry.spec) paced (reason_for kind) delay k → wait ≡ backoff_of retry delay retry_after (own_backoff retry kind number word)
      → Comes means k (λ _. paying (case_of retry bucket failed number (RetryIndicated kind retry_after) now word paced k) kind wait held) d after n
      → Comes means m (retrying (case_of retry bucket failed number (RetryIndicated kind retry_after) now word paced m) kind retry_after held) d after n
  retries m k n retry bucket number word wait failed kind now retry_after delay paced held after d there asks waits paid =
      let own = own_backoff retry kind number word in
      let due : wait ≡ backoff_of retry (limited (is_v2_1 retry.spec) paced asks.reply) retry_after own = waits ∙ ap (λ l. backoff_of retry l retry_after own) asks.answer in
      let kept : KeepsThere m k bucket = calls_keep means m _ k bucket there asks.made in
      let same = same_paying k m retry bucket number word wait _ failed kind now retry_after paced held paid.grant (kept.cost kind) due in
      record {
        reply = asks.reply;
        grant = paid.grant;
        shown = paid.shown;
        choice = paid.choice ∙ ap (λ (o : Decided). o.choice) same;
        reason = paid.reason ∙ ap (λ (o : Decided). o.reason) same;
        long_poll = paid.long_poll ∙ ap (λ (o : Decided). o.long_poll) same;
        holds = paid.holds ∙ ap (λ (o : Decided). o.held) same;
        made = chained_join (Calls means) m k n _ _ asks.made (subst (λ (o : Decided). Chained (Calls means) k o.calls n) same paid.made);
      }

  same_deciding : (k m : Meaning L) (retry : RetryConfig) (bucket number word : ℕ) (failed : Bool) (verdict : RetryAction) (now : Option ℕ) (paced : Option Paced) (held : Option Permit) (reply : Result (Unit {0}) ℕ) (grant : Option ℕ)
      → ((kind : ErrorKind) → k.cost bucket kind ≡ m.cost bucket kind) → k.reward bucket ≡ m.reward bucket
      → deciding (case_of retry bucket failed number verdict now word paced k) verdict held reply grant ≡ deciding (case_of retry bucket failed number verdict now word paced m) verdict held reply grant
  same_deciding k m retry bucket number word failed NoActionIndicated now paced held reply grant costs rewards = refl
  same_deciding k m retry bucket number word failed RetryForbidden now paced held reply grant costs rewards = refl
  same_deciding k m retry bucket number word failed (RetryIndicated kind retry_after) now paced held reply grant costs rewards = rw (costs kind, rewards) refl

  pub decides : (m k l n : Meaning L) (retry : RetryConfig) (bucket number word : ℕ) (failed : Bool) (verdict : RetryAction) (now : Option ℕ) (paced : Option Paced) (held kept after : Option Permit) (d : Decision)
      → m.has bucket ≡ true → Chained (Calls means) m (telling paced verdict) k → kept ≡ held_on failed held → Chained (Calls means) k (settled failed bucket (k.reward bucket) held) l
      → Comes means l (deciding (case_of retry bucket failed number verdict now word paced l) verdict kept) d after n
      → Comes means m (decision (case_of retry bucket failed number verdict now word paced m) held) d after n
  decides m k l n retry bucket number word failed verdict now paced held kept after d there told keeps settles comes =
      let first : KeepsThere m k bucket = calls_keep means m _ k bucket there told in
      let second : KeepsThere k l bucket = calls_keep means k _ l bucket first.has settles in
      let settles_so : Chained (Calls means) k (settled failed bucket (m.reward bucket) held) l = subst (λ r. Chained (Calls means) k (settled failed bucket r held) l) first.reward settles in
      let same : deciding (case_of retry bucket failed number verdict now word paced l) verdict kept comes.reply comes.grant ≡ deciding (case_of retry bucket failed number verdict now word paced m) verdict (held_on failed held) comes.reply comes.grant =
      ap (λ o. deciding (case_of retry bucket failed number verdict now word paced l) verdict o comes.reply comes.grant) keeps ∙
      same_deciding l m retry bucket number word failed verdict now paced (held_on failed held) comes.reply comes.grant (λ kind. second.cost kind ∙ first.cost kind) (second.reward ∙ first.reward) in
      record {
        reply = comes.reply;
        grant = comes.grant;
        shown = comes.shown;
        choice = comes.choice ∙ ap (λ (o : Decided). o.choice) same;
        reason = comes.reason ∙ ap (λ (o : Decided). o.reason) same;
        long_poll = comes.long_poll ∙ ap (λ (o : Decided). o.long_poll) same;
        holds = comes.holds ∙ ap (λ (o : Decided). o.held) same;
        made = chained_join (Calls means) m k n _ _ told (chained_join (Calls means) k l n _ _ settles_so (subst (λ (o : Decided). Chained (Calls means) l o.calls n) same comes.made));
      }

  comes_refused : (m : Meaning L) (c : Case) (verdict : RetryAction) (held : Option Permit) (d : Decision) (reason : Reason)
      → ((reply : Result (Unit {0}) ℕ) (grant : Option ℕ) → deciding c verdict held reply grant ≡ refusing reason held) → d.choice ≡ No → d.reason ≡ reason → d.long_poll ≡ None
      → Comes means m (deciding c verdict held) d held m
  comes_refused m c verdict held d reason is choice reasons long = record {
    reply = Ok tt;
    grant = None;
    shown = tt;
    choice = rw (is (Ok tt) None) choice;
    reason = rw (is (Ok tt) None) reasons;
    long_poll = rw (is (Ok tt) None) long;
    holds = rw (is (Ok tt) None) refl;
    made = rw (is (Ok tt) None) refl;
  }

  pub refused_by_attempts : (m : Meaning L) (retry : RetryConfig) (bucket number word : ℕ) (failed : Bool) (verdict : RetryAction) (kind : ErrorKind) (now retry_after : Option ℕ) (paced : Option Paced) (held : Option Permit) (d : Decision)
      → verdict ≡ RetryIndicated kind retry_after → retry.max_attempts ≤ number → d.choice ≡ No → d.reason ≡ OutOfAttempts → d.long_poll ≡ None
      → Comes means m (deciding (case_of retry bucket failed number verdict now word paced m) verdict held) d held m
  refused_by_attempts m retry bucket number word failed verdict kind now retry_after paced held d is enough choice reason long =
      comes_refused m (case_of retry bucket failed number verdict now word paced m) verdict held d OutOfAttempts (λ reply grant. out_of_attempts (case_of retry bucket failed number verdict now word paced m) verdict kind retry_after held reply grant is enough) choice reason long

  pub refused_by_verdict : (m : Meaning L) (retry : RetryConfig) (bucket number word : ℕ) (failed : Bool) (verdict : RetryAction) (now : Option ℕ) (paced : Option Paced) (held : Option Permit) (d : Decision)
      → (verdict ≡ NoActionIndicated) ⊎ (verdict ≡ RetryForbidden) → d.choice ≡ No → d.reason ≡ NotIndicated → d.long_poll ≡ None
      → Comes means m (deciding (case_of retry bucket failed number verdict now word paced m) verdict held) d held m
  refused_by_verdict m retry bucket number word failed verdict now paced held d is choice reason long =
      comes_refused m (case_of retry bucket failed number verdict now word paced m) verdict held d NotIndicated (λ reply grant. not_indicated (case_of retry bucket failed number verdict now word paced m) verdict held reply grant is) choice reason long
