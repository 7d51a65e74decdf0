-- What a decision is granted: one permit at most, whose cost the bucket's book had.
use Rattle.std.proofs.Common.{◌≡◌, ◌≤◌, ◌+◌, ◌∙◌, ap, refl, sym, subst, ℕ, Bool, true, false, if◌then◌else◌, List, [], ◌∷◌, ◌++◌, Option, Some, None, arith}
use Rattle.std.specs.Prelude.{Result, Ok, Err, IfSome, nat_le, nat_lt, slice_get}
use Rattle.std.proofs.lemmas.Bool.{false≢true, leb-true}
use Rattle.std.proofs.lemmas.List.Sums.{sum_by-append}
use Rattle.smithy_types.specs.Chain.{Chained}
use Rattle.smithy_types.specs.declared.kinds.ErrorKind.{ErrorKind}
use Rattle.smithy_types.specs.declared.notes.Choice.{Choice}
use Rattle.smithy_types.specs.declared.notes.Choice.TheVariants.{No, Delay}
use Rattle.smithy_types.specs.declared.notes.Reason.{Reason}
use Rattle.smithy_types.specs.declared.notes.Reason.TheVariants.{NotIndicated, OutOfAttempts, NoQuota}
use Rattle.smithy_types.specs.declared.notes.Reason.TheVariants as reason
use Rattle.smithy_types.specs.declared.notes.RetryAction.{RetryAction}
use Rattle.smithy_types.specs.declared.notes.RetryAction.TheVariants.{NoActionIndicated, RetryIndicated, RetryForbidden}
use Rattle.retry_quota.specs.Book.{Book, cost_of, ready}
use Rattle.retry_quota.specs.declared.limiter.RequestReason.{RequestReason}
use Rattle.retry_quota.specs.declared.permit.Permit.{Permit}
use Rattle.retry_quota.specs.Calls.{QuotaCall, OnBucket, Limiters, Calls}
use Rattle.retry_quota.specs.History.{Acquire, Reward, Done, Reply, Granted, Refused, acquire_reply, is_granted, reply_to}
use Rattle.retry_quota.specs.Meaning.{Meaning, BookSteps, book_in, book_at}
use Rattle.retry_policy.specs.Backoff.{is_v2_1}
use Rattle.retry_policy.specs.Decision.{Case, Decided, refusing, paying, retrying, deciding, decision, asking, reason_for, telling, forgetting, giving_back, settling, settled, held_on, cost_for, second_of}
use Rattle.retry_policy.specs.Steps.{permits_of, permits_by, HasCost}
use Rattle.retry_policy.specs.declared.standing.Paced.{Paced}

is_going_on : Choice → Bool
is_going_on (Delay wait) = true
is_going_on _ = false

is_paid : Reason → Bool
is_paid (reason.Granted cost) = true
is_paid _ = false

not_paid : (r : Reason) (cost : ℕ) (P : Type 0) → is_paid r ≡ false → r ≡ reason.Granted cost → P
unfolding is_paid
not_paid r cost P unpaid e = absurd (false≢true (sym unpaid ∙ ap is_paid e))

-- how many permits there are behind a choice
permits_for : Choice → ℕ
permits_for choice = if is_going_on choice then 1 else 0

none_told : (paced : Option Paced) (verdict : RetryAction) → permits_of (telling paced verdict) ≡ 0
none_told None verdict = refl
none_told (Some paced) verdict = refl

none_settled : (failed : Bool) (bucket reward : ℕ) (held : Option Permit) → permits_of (settled failed bucket reward held) ≡ 0
none_settled true bucket reward held = refl
none_settled false bucket reward held = by_test (nat_lt 0 reward) held
  where
    by_test : (t : Bool) (held : Option Permit) → permits_of (if t then OnBucket bucket Reward Done ∷ forgetting held else giving_back bucket held) ≡ 0
    by_test true None = refl
    by_test true (Some permit) = refl
    by_test false None = refl
    by_test false (Some permit) = refl

none_asked : (version : Bool) (paced : Option Paced) (reason : RequestReason) (reply : Result (Unit {0}) ℕ) → permits_of (asking version paced reason reply) ≡ 0
none_asked true paced reason reply = refl
none_asked false None reason reply = refl
none_asked false (Some paced) reason reply = refl

permits_paid : (c : Case) (kind : ErrorKind) (backoff : ℕ) (held : Option Permit) (grant : Option ℕ)
    → permits_of (paying c kind backoff held grant).calls ≡ permits_for (paying c kind backoff held grant).choice
unfolding permits_for is_going_on
permits_paid c kind backoff held None = refl
permits_paid c kind backoff None (Some amount) = refl
permits_paid c kind backoff (Some permit) (Some amount) = refl

behind : (xs ys : List QuotaCall) (n : ℕ) → permits_of xs ≡ 0 → permits_of ys ≡ n → permits_of (xs ++ ys) ≡ n
behind xs ys n e f = omega (arith, sum_by-append permits_by xs ys, e, f)

permits_decided : (c : Case) (verdict : RetryAction) (held : Option Permit) (reply : Result (Unit {0}) ℕ) (grant : Option ℕ)
    → permits_of (deciding c verdict held reply grant).calls ≡ permits_for (deciding c verdict held reply grant).choice
unfolding permits_for is_going_on
permits_decided c NoActionIndicated held reply grant = refl
permits_decided c RetryForbidden held reply grant = refl
permits_decided c (RetryIndicated kind retry_after) held reply grant = by_test (nat_le c.retry.max_attempts c.attempt)
  where
    by_test : (t : Bool) → permits_of (if t then refusing OutOfAttempts held else retrying c kind retry_after held reply grant).calls
        ≡ permits_for (if t then refusing OutOfAttempts held else retrying c kind retry_after held reply grant).choice
    by_test true = refl
    by_test false = behind (asking (is_v2_1 c.retry.spec) c.paced (reason_for kind) reply) _ _ (none_asked (is_v2_1 c.retry.spec) c.paced (reason_for kind) reply) (permits_paid c kind _ held grant)

permits_in_all : (c : Case) (held : Option Permit) (reply : Result (Unit {0}) ℕ) (grant : Option ℕ) → permits_of (decision c held reply grant).calls ≡ permits_for (decision c held reply grant).choice
permits_in_all c held reply grant = behind (telling c.paced c.verdict) _ _ (none_told c.paced c.verdict)
    (behind (settled c.failed c.bucket c.reward held) _ _ (none_settled c.failed c.bucket c.reward held) (permits_decided c c.verdict (held_on c.failed held) reply grant))

one_if : (t : Bool) → (if t then 1 else 0) ≤ 1
one_if true = omega arith
one_if false = omega arith

at_most_one : (choice : Choice) → permits_for choice ≤ 1
unfolding permits_for
at_most_one choice = one_if (is_going_on choice)

pub one_permit : (c : Case) (held : Option Permit) (reply : Result (Unit {0}) ℕ) (grant : Option ℕ) → permits_of (decision c held reply grant).calls ≤ 1
one_permit c held reply grant = omega (arith, permits_in_all c held reply grant, at_most_one (decision c held reply grant).choice)

pub a_permit : (c : Case) (held : Option Permit) (reply : Result (Unit {0}) ℕ) (grant : Option ℕ) (wait : ℕ) → (decision c held reply grant).choice ≡ Delay wait → permits_of (decision c held reply grant).calls ≡ 1
unfolding permits_for is_going_on
a_permit c held reply grant wait e = permits_in_all c held reply grant ∙ ap permits_for e

pub no_permit : (c : Case) (held : Option Permit) (reply : Result (Unit {0}) ℕ) (grant : Option ℕ) → (decision c held reply grant).choice ≡ No → permits_of (decision c held reply grant).calls ≡ 0
unfolding permits_for is_going_on
no_permit c held reply grant e = permits_in_all c held reply grant ∙ ap permits_for e

is_grant : Reply → Bool
is_grant (Granted amount) = true
is_grant _ = false

had_in_book : (kind : ErrorKind) (second amount : ℕ) (b : Book) → Granted amount ≡ reply_to (Acquire kind second) b → cost_of kind b ≤ (ready second b).available
unfolding is_grant
had_in_book kind second amount b e = by_test (is_granted kind second b) refl e
  where
    by_test : (t : Bool) → is_granted kind second b ≡ t → Granted amount ≡ (if t then Granted (cost_of kind b) else Refused) → cost_of kind b ≤ (ready second b).available
    by_test true has e = leb-true (cost_of kind b) (ready second b).available has
    by_test false has e = absurd (false≢true (sym (ap is_grant e)))

had_in_books : (kind : ErrorKind) (second amount bucket : ℕ) (books new : Option (List Book)) → BookSteps books bucket (Acquire kind second) (Granted amount) new
    → IfSome (book_in books bucket) (λ b. cost_of kind b ≤ (ready second b).available)
had_in_books kind second amount bucket None new h = tt
had_in_books kind second amount bucket (Some books) new h = of_book (slice_get books bucket) h.0
  where
    of_book : (o : Option Book) → IfSome o (λ b. Granted amount ≡ reply_to (Acquire kind second) b) → IfSome o (λ b. cost_of kind b ≤ (ready second b).available)
    of_book None h = h
    of_book (Some b) h = had_in_book kind second amount b h

module _ {L : Type 0} (means : Limiters L) where
  parted : (xs ys : List QuotaCall) (m n : Meaning L) → Chained (Calls means) m (xs ++ ys) n → (k : Meaning L) × Chained (Calls means) m xs k × Chained (Calls means) k ys n
  parted [] ys m n h = (m, refl, h)
  parted (x ∷ xs) ys m n (t, made, rest) = let later = parted xs ys t n rest in (later.0, (t, made, later.1), later.2)

  told_books : (paced : Option Paced) (verdict : RetryAction) (m k : Meaning L) → Chained (Calls means) m (telling paced verdict) k → k.books ≡ m.books
  told_books None verdict m k e = ap (λ (x : Meaning L). x.books) e
  told_books (Some paced) verdict m k (t, made, e) = ap (λ (x : Meaning L). x.books) e ∙ made.books

  asked_books : (version : Bool) (paced : Option Paced) (reason : RequestReason) (reply : Result (Unit {0}) ℕ) (m k : Meaning L) → Chained (Calls means) m (asking version paced reason reply) k → k.books ≡ m.books
  asked_books true paced reason reply m k e = ap (λ (x : Meaning L). x.books) e
  asked_books false None reason reply m k e = ap (λ (x : Meaning L). x.books) e
  asked_books false (Some paced) reason reply m k (t, made, e) = ap (λ (x : Meaning L). x.books) e ∙ made.0.books

  paid_books : (c : Case) (kind : ErrorKind) (amount : ℕ) (held : Option Permit) (k n : Meaning L)
      → Chained (Calls means) k (OnBucket c.bucket (Acquire kind (second_of c.now)) (acquire_reply (Some amount)) ∷ forgetting held) n
      → IfSome (book_in k.books c.bucket) (λ b. cost_of kind b ≤ (ready (second_of c.now) b).available)
  paid_books c kind amount held k n (t, made, rest) = had_in_books kind (second_of c.now) amount c.bucket k.books t.books made.book

  had_for : (m n : Meaning L) (c : Case) (verdict : RetryAction) (held : Option Permit) (reply : Result (Unit {0}) ℕ) (grant : Option ℕ) (cost : ℕ)
      → Chained (Calls means) m (deciding c verdict held reply grant).calls n → (deciding c verdict held reply grant).reason ≡ reason.Granted cost
      → IfSome (book_at m c.bucket) (λ b. cost_for (λ kind. cost_of kind b) verdict ≤ (ready (second_of c.now) b).available)
  unfolding is_paid
  had_for m n c NoActionIndicated held reply grant cost made e = not_paid NotIndicated cost _ refl e
  had_for m n c RetryForbidden held reply grant cost made e = not_paid NotIndicated cost _ refl e
  had_for m n c (RetryIndicated kind retry_after) held reply grant cost made e = by_test (nat_le c.retry.max_attempts c.attempt) grant made e
    where
      by_test : (t : Bool) (grant : Option ℕ) → Chained (Calls means) m (if t then refusing OutOfAttempts held else retrying c kind retry_after held reply grant).calls n
          → (if t then refusing OutOfAttempts held else retrying c kind retry_after held reply grant).reason ≡ reason.Granted cost
          → IfSome (book_at m c.bucket) (λ b. cost_of kind b ≤ (ready (second_of c.now) b).available)
      by_test true grant made e = not_paid OutOfAttempts cost _ refl e
      by_test false None made e = not_paid (NoQuota c.cost) cost _ refl e
      by_test false (Some amount) made e =
          let parts = parted (asking (is_v2_1 c.retry.spec) c.paced (reason_for kind) reply) _ m n made in
          let same = asked_books (is_v2_1 c.retry.spec) c.paced (reason_for kind) reply m parts.0 parts.1 in
          subst (λ books. IfSome (book_in books c.bucket) (λ b. cost_of kind b ≤ (ready (second_of c.now) b).available)) same
          (paid_books c kind amount held parts.0 n parts.2)

  pub had_once_settled : (m n : Meaning L) (c : Case) (held : Option Permit) (reply : Result (Unit {0}) ℕ) (grant : Option ℕ) (cost : ℕ)
      → Chained (Calls means) m (deciding c c.verdict held reply grant).calls n → (deciding c c.verdict held reply grant).reason ≡ reason.Granted cost → IfSome (book_at m c.bucket) (HasCost c)
  had_once_settled m n c held reply grant cost made e = had_for m n c c.verdict held reply grant cost made e

  by_failure : (failed : Bool) (m n : Meaning L) (c : Case) (held : Option Permit) (reply : Result (Unit {0}) ℕ) (grant : Option ℕ) (cost : ℕ) → failed ≡ true
      → Chained (Calls means) m (telling c.paced c.verdict ++ (settled failed c.bucket c.reward held ++ (deciding c c.verdict (held_on failed held) reply grant).calls)) n
      → (deciding c c.verdict (held_on failed held) reply grant).reason ≡ reason.Granted cost → IfSome (book_at m c.bucket) (HasCost c)
  by_failure false m n c held reply grant cost f made e = absurd (false≢true f)
  by_failure true m n c held reply grant cost f made e =
      let parts = parted (telling c.paced c.verdict) _ m n made in
      subst (λ books. IfSome (book_in books c.bucket) (HasCost c)) (told_books c.paced c.verdict m parts.0 parts.1)
      (had_once_settled parts.0 n c held reply grant cost parts.2 e)

  pub had_before : (m n : Meaning L) (c : Case) (held : Option Permit) (reply : Result (Unit {0}) ℕ) (grant : Option ℕ) (cost : ℕ) → c.failed ≡ true
      → Chained (Calls means) m (decision c held reply grant).calls n → (decision c held reply grant).reason ≡ reason.Granted cost → IfSome (book_at m c.bucket) (HasCost c)
  had_before m n c held reply grant cost f made e = by_failure c.failed m n c held reply grant cost f made e
