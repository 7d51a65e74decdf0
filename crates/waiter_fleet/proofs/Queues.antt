-- What a heap of due moments gives and takes.
use Rattle.std.proofs.Common.{◌≡◌, ◌≢◌, ℕ, ◌<◌, ◌==◌, inl, inr, false, List, [], ◌∷◌, length, arith, refl, sym, subst, Less, Equal, Greater}
use Rattle.std.specs.Prelude.{All, IfNone, IfSome, IsPermutation, MatchOption, None, Option, Some, option_map}
use Rattle.std.specs.BinaryHeap.{IsHeap, IsUpperBound, PopsGreatest}
use Rattle.std.specs.List.{AllByRecursion, IsDistinct}
use Rattle.std.specs.Ordering.{is_lt, nat_cmp, ordering_then}
use Rattle.std.specs.declared.cmp.Ordering.{Ordering}
use Rattle.std.specs.declared.cmp.Reverse.{Reverse}
use Rattle.std.proofs.lemmas.Bool.Decides.{nat_tests}
use Rattle.std.proofs.lemmas.List.Elements.{All-cons, All-head, All-nil, All-tail, All-weaker}
use Rattle.std.proofs.lemmas.List.Sorted.{All-permutation, IsPermutation-map, IsPermutation-sym, length_permutation}
use Rattle.std.proofs.lemmas.Map.Keys.{IsDistinct-cons, IsDistinct-head, IsDistinct-IsPermutation, IsDistinct-tail}
use Rattle.std.proofs.lemmas.Map.Lookups.{exact_unsigned}
use Rattle.waiter_fleet.specs.declared.schedule.Due.{Due}
use Rattle.waiter_fleet.specs.Schedules.{Adds, Has, IsEarlier, NoneIsOf, IsQueue, Takes, due_cmp, dues_of, heap_cmp, is_same_waiter}
use Rattle.waiter_fleet.proofs.Others.{eq_apart}

has-all : (P : Due → Type 0) (dues : List Due) (due : Due) → All P dues → Has dues due → P due
has-all P [] due all has = absurd has
has-all P (one ∷ dues) due all (inl same) = subst P (sym same) (All-head P one dues all)
has-all P (one ∷ dues) due all (inr has) = has-all P dues due (All-tail P one dues all) has

all-has : (dues : List Due) → All (Has dues) dues
all-has [] = All-nil (Has [])
all-has (one ∷ dues) =
    All-cons (Has (one ∷ dues)) one dues (inl refl) (All-weaker (Has dues) (Has (one ∷ dues)) (λ other has. inr has) dues (all-has dues))

-- what is among the one is among the other
has-permuted : (old new : List Due) (due : Due) → IsPermutation old new → Has new due → Has old due
has-permuted old new due moved has = has-all (Has old) new due (All-permutation (Has old) old new moved (all-has old)) has

has-permuted_back : (old new : List Due) (due : Due) → IsPermutation old new → Has old due → Has new due
has-permuted_back old new due moved has = has-permuted new old due (IsPermutation-sym old new moved) has

pub adds-pushed : (old new : List (Reverse Due)) (item : Reverse Due) → IsPermutation (item ∷ old) new → Adds (dues_of old) item.0 (dues_of new)
adds-pushed old new item moved =
    let dues : IsPermutation (dues_of (item ∷ old)) (dues_of new) = IsPermutation-map (λ (one : Reverse Due). one.0) (item ∷ old) new moved in
    let count : length (dues_of new) ≡ length (item.0 ∷ dues_of old) = length_permutation (item.0 ∷ dues_of old) (dues_of new) dues in
    record {
      there = has-permuted_back (item.0 ∷ dues_of old) (dues_of new) item.0 dues (inl refl);
      kept = λ other has. has-permuted_back (item.0 ∷ dues_of old) (dues_of new) other dues (inr has);
      none_else = λ other has. has-permuted (item.0 ∷ dues_of old) (dues_of new) other dues has;
      bound = omega (arith, count);
    }

-- no item is of this waiter
none_of-new : (item : Reverse Due) (items : List (Reverse Due)) → NoneIsOf item.0.waiter (dues_of items) → AllByRecursion (λ one. is_same_waiter item one ≡ false) items
none_of-new item [] fresh = tt
none_of-new item (one ∷ items) fresh = (
  eq_apart item.0.waiter one.0.waiter (fresh one.0 (inl refl)),
  none_of-new item items (λ other has. fresh other (inr has)),
)

flips : (one other : Reverse Due) → is_same_waiter one other ≡ is_same_waiter other one
flips one other = grind (arith, nat_tests)

pub queue-pushed : (old new : List (Reverse Due)) (item : Reverse Due) → IsQueue old → NoneIsOf item.0.waiter (dues_of old) →
    IsPermutation (item ∷ old) new → (IsHeap heap_cmp old → IsHeap heap_cmp new) → IsQueue new
queue-pushed old new item queue fresh moved keeps = record {
  ordered = keeps queue.ordered;
  apart = IsDistinct-IsPermutation is_same_waiter flips (item ∷ old) new moved
      (IsDistinct-cons is_same_waiter item old (none_of-new item old fresh) queue.apart);
}

apart-popped : (old new : List (Reverse Due)) (item : Reverse Due) → IsQueue old → IsPermutation old (item ∷ new) → IsDistinct is_same_waiter (item ∷ new)
apart-popped old new item queue moved = IsDistinct-IsPermutation is_same_waiter flips old (item ∷ new) moved queue.apart

pub queue-popped : (old new : List (Reverse Due)) (item : Reverse Due) → IsQueue old → IsPermutation old (item ∷ new) → IsHeap heap_cmp new → IsQueue new
queue-popped old new item queue moved ordered = record {
  ordered = ordered;
  apart = IsDistinct-tail is_same_waiter item new (apart-popped old new item queue moved);
}

nat_cmp-less : (m n : ℕ) → nat_cmp m n ≡ Less → m < n
nat_cmp-less m n is = grind (arith, nat_tests)

nat_cmp-equal : (m n : ℕ) → nat_cmp m n ≡ Equal → m ≡ n
nat_cmp-equal m n is = exact_unsigned m n is

nat_cmp-greater : (m n : ℕ) → nat_cmp m n ≡ Greater → n < m
nat_cmp-greater m n is = grind (arith, nat_tests)

differ_by : (m n : ℕ) → (m == n) ≡ false → m ≢ n
differ_by m n apart same = absurd (grind (arith, nat_tests))

-- what isn't less, and is of another waiter, is due later
due-earlier : (one other : Due) → is_lt (due_cmp other one) ≡ false → (one.waiter == other.waiter) ≡ false → IsEarlier one other
due-earlier one other not_less apart =
    let differ : one.waiter ≢ other.waiter = differ_by one.waiter other.waiter apart in
    let P : Ordering → Type 0 = λ o. is_lt (ordering_then o (nat_cmp other.waiter one.waiter)) ≡ false → IsEarlier one other in
    let Q : Ordering → Type 0 = λ o. is_lt o ≡ false → one.moment ≡ other.moment → IsEarlier one other in
    let waiters : (o : Ordering) → nat_cmp other.waiter one.waiter ≡ o → Q o = elim [
      | Less ↦ λ is not_lt same. absurd (cc not_lt)
      | Equal ↦ λ is not_lt same. absurd (differ (sym (nat_cmp-equal other.waiter one.waiter is)))
      | Greater ↦ λ is not_lt same. inr (same, nat_cmp-greater other.waiter one.waiter is)
    ] in
    let moments : (o : Ordering) → nat_cmp other.moment one.moment ≡ o → P o = elim [
      | Less ↦ λ is not_lt. absurd (cc not_lt)
      | Equal ↦ λ is not_lt. waiters (nat_cmp other.waiter one.waiter) refl not_lt (sym (nat_cmp-equal other.moment one.moment is))
      | Greater ↦ λ is not_lt. inl (nat_cmp-greater other.moment one.moment is)
    ] in
    moments (nat_cmp other.moment one.moment) refl not_less

-- what is left is due later
first-popped : (item : Reverse Due) (items : List (Reverse Due)) → IsUpperBound heap_cmp item items →
    AllByRecursion (λ one. is_same_waiter item one ≡ false) items → (other : Due) → Has (dues_of items) other → IsEarlier item.0 other
first-popped item [] above apart other has = absurd has
first-popped item (one ∷ items) above apart other (inl same) =
    subst (IsEarlier item.0) (sym same) (due-earlier item.0 one.0 above.0 apart.0)
first-popped item (one ∷ items) above apart other (inr has) = first-popped item items above.1 apart.1 other has

pub takes-popped : (old new : List (Reverse Due)) (item : Reverse Due) → IsQueue old → IsPermutation old (item ∷ new) → IsUpperBound heap_cmp item new →
    Takes (dues_of old) (dues_of new) item.0
takes-popped old new item queue moved above =
    let dues : IsPermutation (dues_of old) (dues_of (item ∷ new)) = IsPermutation-map (λ (one : Reverse Due). one.0) old (item ∷ new) moved in
    let count : length (item.0 ∷ dues_of new) ≡ length (dues_of old) = length_permutation (dues_of old) (item.0 ∷ dues_of new) dues in
    record {
      there = has-permuted (dues_of old) (item.0 ∷ dues_of new) item.0 dues (inl refl);
      kept = λ other has. has-permuted (dues_of old) (item.0 ∷ dues_of new) other dues (inr has);
      none_else = λ other has. has-permuted_back (dues_of old) (item.0 ∷ dues_of new) other dues has;
      first = λ other has. first-popped item new above (IsDistinct-head is_same_waiter item new (apart-popped old new item queue moved)) other has;
      bound = omega (arith, count);
    }

none_left : (items : List (Reverse Due)) → length items ≡ 0 → dues_of items ≡ []
none_left [] none = refl
none_left (one ∷ items) none = absurd (omega (arith, none))

none-apart : IsDistinct is_same_waiter []
unfolding IsDistinct
none-apart = tt

-- nothing is due yet
pub queue-none : (items : List (Reverse Due)) → items ≡ [] → IsHeap heap_cmp items → IsQueue items
queue-none items none ordered = record { ordered = ordered; apart = subst (IsDistinct is_same_waiter) (sym none) none-apart }

-- what a heap gave, if it gave any; without an item it hasn't changed
pub queue-next : {U : Type 0} (old new : List (Reverse Due)) (taken : Option (Reverse Due)) → IsQueue old →
    IfSome taken (λ item. IsPermutation old (item ∷ new)) → IfSome taken (λ item. PopsGreatest heap_cmp old item new) →
    (U → new ≡ old) → IfNone taken U → IsQueue new
queue-next old new None queue moved pops same none = subst IsQueue (sym (same none)) queue
queue-next old new (Some item) queue moved pops same none = queue-popped old new item queue moved (pops queue.ordered).0

pub takes-next : {U : Type 0} (old new : List (Reverse Due)) (taken : Option (Reverse Due)) (given : Option Due) →
    given ≡ option_map (λ (one : Reverse Due). one.0) taken → IsQueue old →
    IfSome taken (λ item. IsPermutation old (item ∷ new)) → IfSome taken (λ item. IsHeap heap_cmp old → IsUpperBound heap_cmp item new) →
    (U → length old ≡ 0) → IfNone taken U → MatchOption given (dues_of old ≡ []) (Takes (dues_of old) (dues_of new))
takes-next old new None given is queue moved above empty none =
    let P : Option Due → Type 0 = λ one. MatchOption one (dues_of old ≡ []) (Takes (dues_of old) (dues_of new)) in
    subst P (sym is) (none_left old (empty none))
takes-next old new (Some item) given is queue moved above empty none =
    let P : Option Due → Type 0 = λ one. MatchOption one (dues_of old ≡ []) (Takes (dues_of old) (dues_of new)) in
    subst P (sym is) (takes-popped old new item queue moved (above queue.ordered))
