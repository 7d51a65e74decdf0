-- How long a further attempt waits at most.
use Rattle.std.proofs.Common.{◌≡◌, ◌≤◌, ◌<◌, ◌*◌, ◌/◌, ◌^◌, ◌∙◌, ap, refl, sym, subst, ℕ, Bool, true, false, if◌then◌else◌, Option, Some, None, arith}
use Rattle.std.specs.Prelude.{Result, Ok, Err, nat_le}
use Rattle.std.proofs.lemmas.Bool.{false≢true}
use Rattle.std.proofs.lemmas.Bool.Decides.{nat_tests}
use Rattle.std.proofs.lemmas.Nat.{mul-le}
use Rattle.std.proofs.Math.Nat.{div-le_of_le-mul}
use Rattle.smithy_types.specs.declared.config.RetryConfig.{RetryConfig}
use Rattle.smithy_types.specs.declared.kinds.ErrorKind.{ErrorKind}
use Rattle.smithy_types.specs.declared.notes.Choice.{Choice}
use Rattle.smithy_types.specs.declared.notes.Choice.TheVariants.{No, Delay}
use Rattle.smithy_types.specs.declared.notes.Reason.TheVariants.{OutOfAttempts}
use Rattle.smithy_types.specs.declared.notes.RetryAction.{RetryAction}
use Rattle.smithy_types.specs.declared.notes.RetryAction.TheVariants.{NoActionIndicated, RetryIndicated, RetryForbidden}
use Rattle.retry_quota.specs.declared.permit.Permit.{Permit}
use Rattle.retry_policy.specs.Backoff.{is_v2_1, initial_by, doubled, part_of, own_backoff, within_five, limited_or_asked, backoff_of}
use Rattle.retry_policy.specs.Decision.{Case, Decided, refusing, retrying, deciding, decision, limited, held_on}

waits : Choice → ℕ
waits (Delay wait) = wait
waits _ = 0

is_delay : Choice → Bool
is_delay (Delay wait) = true
is_delay _ = false

same_wait : (x y : ℕ) → Delay x ≡ Delay y → x ≡ y
unfolding waits
same_wait x y e = ap waits e

no_delay : (wait : ℕ) (P : Type 0) → No ≡ Delay wait → P
unfolding is_delay
no_delay wait P e = absurd (false≢true (ap is_delay e))

doubled_within : (initial attempt longest : ℕ) → doubled initial attempt longest ≤ longest
doubled_within initial attempt longest = grind (arith, nat_tests)

part_within : (whole_used : Bool) (word backoff : ℕ) → word < 2 ^ 64 → part_of whole_used word backoff ≤ backoff
part_within true word backoff h = omega arith
part_within false word backoff h = div-le_of_le-mul (2 ^ 64) (omega (arith, mul-le backoff word backoff (2 ^ 64) (omega arith) (omega (arith, h))))

own_within : (retry : RetryConfig) (kind : ErrorKind) (attempt word : ℕ) → word < 2 ^ 64 → own_backoff retry kind attempt word ≤ retry.max_backoff
own_within retry kind attempt word h =
    let whole = doubled (initial_by retry.initial_backoff kind retry.spec) attempt retry.max_backoff in
    omega (arith, part_within retry.static_base word whole h, doubled_within (initial_by retry.initial_backoff kind retry.spec) attempt retry.max_backoff)

limited_within : (longest : ℕ) (delay asked : Option ℕ) (own : ℕ) → own ≤ longest → limited_or_asked longest delay asked own ≤ longest
limited_within longest (Some delay) asked own h = omega arith
limited_within longest None (Some asked) own h = omega arith
limited_within longest None None own h = h

backoff_within : (retry : RetryConfig) (delay asked : Option ℕ) (own : ℕ) → is_v2_1 retry.spec ≡ false → own ≤ retry.max_backoff → backoff_of retry delay asked own ≤ retry.max_backoff
backoff_within retry delay asked own e h = rw e (limited_within retry.max_backoff delay asked own h)

pub wait_within : (c : Case) (verdict : RetryAction) (held : Option Permit) (reply : Result (Unit {0}) ℕ) (grant : Option ℕ) (wait : ℕ)
    → c.word < 2 ^ 64 → is_v2_1 c.retry.spec ≡ false → (deciding c verdict held reply grant).choice ≡ Delay wait → wait ≤ c.retry.max_backoff
wait_within c NoActionIndicated held reply grant wait h e is = no_delay wait _ is
wait_within c RetryForbidden held reply grant wait h e is = no_delay wait _ is
wait_within c (RetryIndicated kind retry_after) held reply grant wait h e is = by_test (nat_le c.retry.max_attempts c.attempt) grant is
  where
    by_test : (t : Bool) (grant : Option ℕ) → (if t then refusing OutOfAttempts held else retrying c kind retry_after held reply grant).choice ≡ Delay wait → wait ≤ c.retry.max_backoff
    by_test true grant is = no_delay wait _ is
    by_test false None is = no_delay wait _ is
    by_test false (Some amount) is =
        let own = own_backoff c.retry kind c.attempt c.word in
        subst (λ n. n ≤ c.retry.max_backoff) (same_wait _ wait is)
        (backoff_within c.retry (limited (is_v2_1 c.retry.spec) c.paced reply) retry_after own e (own_within c.retry kind c.attempt c.word h))
