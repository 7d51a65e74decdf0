-- Every step of a sound book leaves a sound book.
use Rattle.std.proofs.Common.{◌≡◌, refl, ap, subst, sym, ℕ, ◌+◌, ◌/◌, ◌%◌, ◌^◌, ◌<◌, ◌≤◌, Bool, true, false, if◌then◌else◌, nat_lt}
use Rattle.std.proofs.lemmas.Bool.{ltb-true}
use Rattle.retry_quota.specs.declared.TheConstants.{MAXIMUM_CAPACITY}
use Rattle.retry_quota.specs.declared.state.BucketTerms.{BucketTerms}
use Rattle.retry_quota.specs.Book.{Book, IsSound, cost_of, refill, add, convert, ready, spend, fitting}
use Rattle.retry_quota.specs.History.{Step, Acquire, Release, Forget, Reward, Regenerate, Convert, Look, after, is_granted}
use Rattle.retry_quota.proofs.BookLemmas.{terms-after, balanced-after}

-- the count of all tokens fits 64 bits
abbrev IsCounted : Book → Type 0
IsCounted b = b.capacity + b.granted < 2 ^ 64

holds_if : {X : Type 0} → (P : X → Type 0) (t : Bool) (x y : X) → (t ≡ true → P x) → P y → P (if t then x else y)
holds_if P true x y first second = first refl
holds_if P false x y first second = second

counted-refill : (second : ℕ) (b : Book) → IsCounted b → IsCounted (refill second b)
counted-refill second b h = holds_if IsCounted _ _ _ (λ _. h) h

counted-add : (tokens : ℕ) (b : Book) → IsCounted b → IsCounted (add tokens b)
counted-add tokens b h =
    let more = fitting tokens b in
    holds_if IsCounted (nat_lt (b.capacity + (b.granted + more)) (2 ^ 64))
    (record b { available = b.available + more; granted = b.granted + more }) b
    (λ fits. ltb-true (b.capacity + (b.granted + more)) (2 ^ 64) fits) h

counted-convert : (b : Book) → IsCounted b → IsCounted (convert b)
counted-convert b h = counted-add (b.fraction / 1000) (record b { fraction = b.fraction % 1000 }) h

counted-after : (step : Step) (b : Book) → IsCounted b → IsCounted (after step b)
counted-after (Acquire kind second) b h =
    let found : IsCounted (ready second b) = counted-convert (refill second b) (counted-refill second b h) in
    holds_if IsCounted (is_granted kind second b) (spend (cost_of kind b) (ready second b)) (ready second b) (λ _. found) found
counted-after (Release amount) b h = holds_if IsCounted _ _ _ (λ _. h) h
counted-after (Forget amount) b h = holds_if IsCounted _ _ _ (λ _. h) h
counted-after Reward b h = h
counted-after Regenerate b h = counted-add 1 b h
counted-after Convert b h = counted-convert b h
counted-after Look b h = h

pub sound-after : (step : Step) (b : Book) → IsSound b → IsSound (after step b)
sound-after step b s = record {
  bounded = subst (λ (n : ℕ). n ≤ MAXIMUM_CAPACITY) (sym (ap (λ (t : BucketTerms). t.capacity) (terms-after step b))) s.bounded;
  balanced = balanced-after step b s.balanced;
  counted = counted-after step b s.counted;
}
