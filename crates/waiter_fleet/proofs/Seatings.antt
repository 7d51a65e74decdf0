-- The seats of waiters that haven't polled yet, and those that are left over.
use Rattle.std.proofs.Common.{◌≡◌, ℕ, ◌+◌, ◌<◌, inl, inr, List, [], ◌∷◌, ◌++◌, Some, None, true, false, arith, ap, sym, subst, refl, ◌∙◌, length, slice_get, get_or, length-append}
use Rattle.std.proofs.Math.Seq.{get_or-append_seam}
use Rattle.std.proofs.lemmas.Bool.{cases_lt}
use Rattle.std.proofs.lemmas.List.{get_or_append_left}
use Rattle.std.proofs.lemmas.Option.{get_or_from_slice_get, slice_get_read, slice_get_within}
use Rattle.waiter_fleet.specs.declared.plan.Plan.{Plan}
use Rattle.waiter_fleet.specs.declared.seat.Seat.{Seat}
use Rattle.waiter_fleet.specs.Plans.{is_good}
use Rattle.waiter_fleet.specs.Seats.{Seated, plan_of}

module _ {X : Type 0} (xs : List X) (v : X) (P : ℕ → X → Type 0) where
  -- what holds of each item and of a further one
  pub each-push : P (length xs) v → ((k : ℕ) (x : X) → slice_get xs k ≡ Some x → P k x) →
      (k : ℕ) (x : X) → slice_get (xs ++ v ∷ []) k ≡ Some x → P k x
  each-push new old k x got =
      let at = get_or_from_slice_get (xs ++ v ∷ []) k x x got in
      let within = slice_get_within (xs ++ v ∷ []) k x got in
      elim (cases_lt k (length xs)) [
        | inl less ↦ old k x (slice_get_read xs (length xs) k x refl less (sym at ∙ get_or_append_left xs (v ∷ []) x k less))
        | inr most ↦
            let counted = length-append xs (v ∷ []) in
            let last : k ≡ length xs = omega arith in
            let Q : ℕ → Type 0 = λ j. P j x in
            let R : X → Type 0 = λ y. P (length xs) y in
            let same : v ≡ x = sym (get_or-append_seam xs v [] x) ∙ (ap (λ j. get_or (xs ++ v ∷ []) j x) (sym last) ∙ at) in
            subst Q (sym last) (subst R same new)
      ]

-- the seat of a waiter that hasn't polled yet
pub seated-new : (plans : List Plan) (k : ℕ) (plan : Plan) (seat : Seat) → slice_get plans k ≡ Some plan → plan_of seat.backoff ≡ plan →
    seat.number ≡ 1 → seat.zero_used ≡ false → seat.sleep ≡ None → seat.ended ≡ false → Seated plans [] k seat
seated-new plans k plan seat there backoff number zero sleep over = record {
  planned = there ∙ ap (λ one. Some one) (sym backoff);
  numbered = number;
  zero = zero;
  sleeps = sleep;
  ends = over;
}

-- one good plan more
pub good-more : (plans : List Plan) (i : ℕ) (plan : Plan) → ((k : ℕ) (one : Plan) → k < i → slice_get plans k ≡ Some one → is_good one ≡ true) →
    slice_get plans i ≡ Some plan → is_good plan ≡ true → (k : ℕ) (one : Plan) → k < i + 1 → slice_get plans k ≡ Some one → is_good one ≡ true
good-more plans i plan before there good k one within got =
    elim (cases_lt k i) [
      | inl less ↦ before k one less got
      | inr most ↦
          let last : k ≡ i = omega arith in
          let P : ℕ → Type 0 = λ j. slice_get plans j ≡ Some one in
          let same : one ≡ plan = cc (sym (subst P last got) ∙ there) in
          let Q : Plan → Type 0 = λ x. is_good x ≡ true in
          subst Q (sym same) good
    ]
