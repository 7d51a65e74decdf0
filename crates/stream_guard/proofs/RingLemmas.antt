-- Ten bins in a ring, their order and their totals.
use Rattle.stream_guard.proofs.ShiftLemmas.{came_in}
use Rattle.std.proofs.Common.{length-append, length-drop, length-take, ◌≡◌, ℕ, zero, suc, ◌+◌, ◌-◌, ◌*◌, ◌%◌, ◌<◌, ◌≤◌, Bool, true, false, cond, ◌||◌, nat_lt, nat_le, min, List, [], ◌∷◌, ◌++◌, length, take, drop, arith, refl, ap, ◌∙◌, sym, subst, slice_index_or, slice_set, replicate}
use Rattle.std.proofs.lemmas.Bool.Decides.{nat_tests}
use Rattle.std.proofs.lemmas.List.{take-append-drop}
use Rattle.std.proofs.lemmas.List.Sums.{count_by-le-length, get_or-le-sum_by, sum_by-append, sum_by-le}
use Rattle.std.specs.List.{count_by, fold, list_any, sum_by}
use Rattle.stream_guard.specs.Bin.{is_no_polling, is_pending, is_transferred, most_bytes, no_polling, back, Shifted}
use Rattle.stream_guard.specs.Judged.{judged_bins}
use Rattle.stream_guard.specs.Ring.{IsRing, in_order}
use Rattle.stream_guard.specs.Totals.{Counts, judged_totals, one, totals_of}
use Rattle.stream_guard.specs.declared.bin.Bin.{Bin}
use Rattle.stream_guard.specs.declared.report.ThroughputReport.{ThroughputReport}
use Rattle.stream_guard.specs.declared.report.ThroughputReport.TheVariants as report
use Rattle.stream_guard.specs.declared.totals.Totals.{Totals}

-- what a ring's slots hold counts in its totals
pub counted : (slots : List Bin) (totals : Totals) (place : ℕ) → IsRing slots totals → place < 10 → Counts totals (slice_index_or slots place no_polling)
counted slots totals place ring small =
    let here : place < length slots = omega (arith, ring.ten) in
    let P : Totals → Type 0 = λ t. Counts t (slice_index_or slots place no_polling) in
    subst P (sym ring.totals_are) (record {
      no_polling = get_or-le-sum_by (λ b. one (is_no_polling b.label)) slots place no_polling here;
      pending = get_or-le-sum_by (λ b. one (is_pending b.label)) slots place no_polling here;
      transferred = get_or-le-sum_by (λ b. one (is_transferred b.label)) slots place no_polling here;
      bytes = get_or-le-sum_by (λ b. b.bytes) slots place no_polling here;
      few_no_polling = omega (arith, ring.ten, count_by-le-length (λ b. is_no_polling b.label) slots);
      few_pending = omega (arith, ring.ten, count_by-le-length (λ b. is_pending b.label) slots);
      few_transferred = omega (arith, ring.ten, count_by-le-length (λ b. is_transferred b.label) slots);
      few_bytes = few _ _ _ ring.ten (sum_by-le (λ b. b.bytes) most_bytes slots ring.fit);
    })
  where
    few : (n s m : ℕ) → n ≡ 10 → s ≤ n * m → s ≤ 10 * m
    few n s m e h = let P : ℕ → Type 0 = λ k. s ≤ k * m in subst P e h

-- a list of ten
abbrev Ten : (List Bin → ℕ → Type 0) → Type 0
Ten P = (a b c d e f g h i j : Bin) (head : ℕ) → head < 10 → P (a ∷ b ∷ c ∷ d ∷ e ∷ f ∷ g ∷ h ∷ i ∷ j ∷ []) head

-- what holds of ten bins one by one holds of a list of ten
pub of_ten : (P : List Bin → ℕ → Type 0) → Ten P → (slots : List Bin) (head : ℕ) → length slots ≡ 10 → head < 10 → P slots head
of_ten P h (a ∷ b ∷ c ∷ d ∷ e ∷ f ∷ g ∷ k ∷ i ∷ j ∷ []) head l s = h a b c d e f g k i j head s
of_ten P h [] head l s = absurd (omega (arith, l))
of_ten P h (a ∷ []) head l s = absurd (omega (arith, l))
of_ten P h (a ∷ b ∷ []) head l s = absurd (omega (arith, l))
of_ten P h (a ∷ b ∷ c ∷ []) head l s = absurd (omega (arith, l))
of_ten P h (a ∷ b ∷ c ∷ d ∷ []) head l s = absurd (omega (arith, l))
of_ten P h (a ∷ b ∷ c ∷ d ∷ e ∷ []) head l s = absurd (omega (arith, l))
of_ten P h (a ∷ b ∷ c ∷ d ∷ e ∷ f ∷ []) head l s = absurd (omega (arith, l))
of_ten P h (a ∷ b ∷ c ∷ d ∷ e ∷ f ∷ g ∷ []) head l s = absurd (omega (arith, l))
of_ten P h (a ∷ b ∷ c ∷ d ∷ e ∷ f ∷ g ∷ k ∷ []) head l s = absurd (omega (arith, l))
of_ten P h (a ∷ b ∷ c ∷ d ∷ e ∷ f ∷ g ∷ k ∷ i ∷ []) head l s = absurd (omega (arith, l))
of_ten P h (a ∷ b ∷ c ∷ d ∷ e ∷ f ∷ g ∷ k ∷ i ∷ j ∷ m ∷ xs) head l s = absurd (omega (arith, l))

-- the next head's order, where the earliest bin was replaced
turned_ten : (n : Bin) → Ten (λ slots head. in_order ((head + 1) % 10) (slice_set slots head n) ≡ drop 1 (in_order head slots) ++ n ∷ [])
turned_ten n a b c d e f g h i j zero s = refl
turned_ten n a b c d e f g h i j (suc zero) s = refl
turned_ten n a b c d e f g h i j (suc (suc zero)) s = refl
turned_ten n a b c d e f g h i j (suc (suc (suc zero))) s = refl
turned_ten n a b c d e f g h i j (suc (suc (suc (suc zero)))) s = refl
turned_ten n a b c d e f g h i j (suc (suc (suc (suc (suc zero))))) s = refl
turned_ten n a b c d e f g h i j (suc (suc (suc (suc (suc (suc zero)))))) s = refl
turned_ten n a b c d e f g h i j (suc (suc (suc (suc (suc (suc (suc zero))))))) s = refl
turned_ten n a b c d e f g h i j (suc (suc (suc (suc (suc (suc (suc (suc zero)))))))) s = refl
turned_ten n a b c d e f g h i j (suc (suc (suc (suc (suc (suc (suc (suc (suc zero))))))))) s = refl
turned_ten n a b c d e f g h i j (suc (suc (suc (suc (suc (suc (suc (suc (suc (suc k)))))))))) s = absurd (omega arith)

pub turned : (slots : List Bin) (head : ℕ) (n : Bin) → length slots ≡ 10 → head < 10 → in_order ((head + 1) % 10) (slice_set slots head n) ≡ drop 1 (in_order head slots) ++ n ∷ []
turned slots head n l s = of_ten (λ slots head. in_order ((head + 1) % 10) (slice_set slots head n) ≡ drop 1 (in_order head slots) ++ n ∷ []) (turned_ten n) slots head l s

-- the order where the latest bin was replaced
last_ten : (n : Bin) → Ten (λ slots head. in_order head (slice_set slots ((head + 9) % 10) n) ≡ take 9 (in_order head slots) ++ n ∷ [])
last_ten n a b c d e f g h i j zero s = refl
last_ten n a b c d e f g h i j (suc zero) s = refl
last_ten n a b c d e f g h i j (suc (suc zero)) s = refl
last_ten n a b c d e f g h i j (suc (suc (suc zero))) s = refl
last_ten n a b c d e f g h i j (suc (suc (suc (suc zero)))) s = refl
last_ten n a b c d e f g h i j (suc (suc (suc (suc (suc zero))))) s = refl
last_ten n a b c d e f g h i j (suc (suc (suc (suc (suc (suc zero)))))) s = refl
last_ten n a b c d e f g h i j (suc (suc (suc (suc (suc (suc (suc zero))))))) s = refl
last_ten n a b c d e f g h i j (suc (suc (suc (suc (suc (suc (suc (suc zero)))))))) s = refl
last_ten n a b c d e f g h i j (suc (suc (suc (suc (suc (suc (suc (suc (suc zero))))))))) s = refl
last_ten n a b c d e f g h i j (suc (suc (suc (suc (suc (suc (suc (suc (suc (suc k)))))))))) s = absurd (omega arith)

pub last_replaced : (slots : List Bin) (head : ℕ) (n : Bin) → length slots ≡ 10 → head < 10 → in_order head (slice_set slots ((head + 9) % 10) n) ≡ take 9 (in_order head slots) ++ n ∷ []
last_replaced slots head n l s = of_ten (λ slots head. in_order head (slice_set slots ((head + 9) % 10) n) ≡ take 9 (in_order head slots) ++ n ∷ []) (last_ten n) slots head l s

-- the latest bin's place
place_ten : Ten (λ slots head. slice_index_or slots ((head + 9) % 10) no_polling ≡ back 0 (in_order head slots))
place_ten a b c d e f g h i j zero s = refl
place_ten a b c d e f g h i j (suc zero) s = refl
place_ten a b c d e f g h i j (suc (suc zero)) s = refl
place_ten a b c d e f g h i j (suc (suc (suc zero))) s = refl
place_ten a b c d e f g h i j (suc (suc (suc (suc zero)))) s = refl
place_ten a b c d e f g h i j (suc (suc (suc (suc (suc zero))))) s = refl
place_ten a b c d e f g h i j (suc (suc (suc (suc (suc (suc zero)))))) s = refl
place_ten a b c d e f g h i j (suc (suc (suc (suc (suc (suc (suc zero))))))) s = refl
place_ten a b c d e f g h i j (suc (suc (suc (suc (suc (suc (suc (suc zero)))))))) s = refl
place_ten a b c d e f g h i j (suc (suc (suc (suc (suc (suc (suc (suc (suc zero))))))))) s = refl
place_ten a b c d e f g h i j (suc (suc (suc (suc (suc (suc (suc (suc (suc (suc k)))))))))) s = absurd (omega arith)

pub last_place : (slots : List Bin) (head : ℕ) → length slots ≡ 10 → head < 10 → slice_index_or slots ((head + 9) % 10) no_polling ≡ back 0 (in_order head slots)
last_place slots head l s = of_ten (λ slots head. slice_index_or slots ((head + 9) % 10) no_polling ≡ back 0 (in_order head slots)) place_ten slots head l s

-- a sum doesn't go by the order
sum_in_order : (f : Bin → ℕ) (head : ℕ) (slots : List Bin) → sum_by f (in_order head slots) ≡ sum_by f slots
sum_in_order f head slots =
    let swapped : sum_by f (drop head slots) + sum_by f (take head slots) ≡ sum_by f (take head slots) + sum_by f (drop head slots) = omega arith in
    sum_by-append f (drop head slots) (take head slots) ∙ swapped ∙ sym (sum_by-append f (take head slots) (drop head slots)) ∙ ap (sum_by f) (take-append-drop head slots)

-- sums that stop at the most are as good as one that stops in the end
capped_sum : (bins : List Bin) (a b : ℕ) → a ≡ min b most_bytes → fold (λ (sum : ℕ) (x : Bin). min (sum + x.bytes) most_bytes) a bins ≡ min (fold (λ (sum : ℕ) (x : Bin). sum + x.bytes) b bins) most_bytes
capped_sum [] a b h = h
capped_sum (x ∷ bins) a b h = capped_sum bins (min (a + x.bytes) most_bytes) (b + x.bytes) (step a b x.bytes h)
  where
    step : (a b n : ℕ) → a ≡ min b most_bytes → min (a + n) most_bytes ≡ min (b + n) most_bytes
    step a b n h = omega (arith, h)

or_assoc : (a b c : Bool) → (a || b) || c ≡ a || (b || c)
or_assoc true b c = refl
or_assoc false b c = refl

or_false : (a : Bool) → a ≡ a || false
or_false true = refl
or_false false = refl

more_counted : (b : Bool) (a : ℕ) → nat_lt 0 (a + cond b 1 0) ≡ nat_lt 0 a || b
more_counted b a = grind (arith, nat_tests)

-- one is there where the count isn't zero
any_counted : (p : Bin → Bool) (bins : List Bin) (a : ℕ) → nat_lt 0 (fold (λ (n : ℕ) (x : Bin). n + cond (p x) 1 0) a bins) ≡ nat_lt 0 a || list_any p bins
any_counted p [] a = or_false (nat_lt 0 a)
any_counted p (x ∷ bins) a = any_counted p bins (a + cond (p x) 1 0) ∙ ap (λ b. b || list_any p bins) (more_counted (p x) a) ∙ or_assoc (nat_lt 0 a) (p x) (list_any p bins)

abbrev verdict : ℕ → Bool → ℕ → ℕ → ℕ → ThroughputReport
verdict r transferred bytes silent pending =
    cond transferred (report.Transferred (record { bytes_read = bytes; per_time_elapsed = 10 * r })) (cond (nat_le 5 silent) report.NoPolling (cond (nat_le 5 pending) report.Pending report.Incomplete))

-- what the totals say is what the bins say
pub judged_by_totals : (r head : ℕ) (slots : List Bin) (totals : Totals) → totals ≡ totals_of slots → judged_totals r totals ≡ judged_bins r (in_order head slots)
judged_by_totals r head slots totals h =
    let bins = in_order head slots in
    let transferred : nat_lt 0 (count_by (λ b. is_transferred b.label) slots) ≡ list_any (λ b. is_transferred b.label) bins =
    ap (λ n. nat_lt 0 n) (sym (sum_in_order (λ b. one (is_transferred b.label)) head slots)) ∙ any_counted (λ b. is_transferred b.label) bins 0 in
    let bytes : min (sum_by (λ b. b.bytes) slots) most_bytes ≡ fold (λ (sum : ℕ) (x : Bin). min (sum + x.bytes) most_bytes) 0 bins =
    ap (λ n. min n most_bytes) (sym (sum_in_order (λ b. b.bytes) head slots)) ∙ sym (capped_sum bins 0 0 (omega arith)) in
    ap (judged_totals r) h
    ∙ ap (λ t. verdict r t (min (sum_by (λ b. b.bytes) slots) most_bytes) (count_by (λ b. is_no_polling b.label) slots) (count_by (λ b. is_pending b.label) slots)) transferred
    ∙ ap (λ n. verdict r (list_any (λ b. is_transferred b.label) bins) n (count_by (λ b. is_no_polling b.label) slots) (count_by (λ b. is_pending b.label) slots)) bytes
    ∙ ap (λ n. verdict r (list_any (λ b. is_transferred b.label) bins) (fold (λ (sum : ℕ) (x : Bin). min (sum + x.bytes) most_bytes) 0 bins) n (count_by (λ b. is_pending b.label) slots)) (sym (sum_in_order (λ b. one (is_no_polling b.label)) head slots))
    ∙ ap (λ n. verdict r (list_any (λ b. is_transferred b.label) bins) (fold (λ (sum : ℕ) (x : Bin). min (sum + x.bytes) most_bytes) 0 bins) (count_by (λ b. is_no_polling b.label) bins) n) (sym (sum_in_order (λ b. one (is_pending b.label)) head slots))

-- a push moves ten bins one place on
shifted_ten : Ten (λ slots head. Shifted 1 slots (drop 1 slots ++ no_polling ∷ []))
shifted_ten a b c d e f g h i j head s zero small = refl
shifted_ten a b c d e f g h i j head s (suc zero) small = refl
shifted_ten a b c d e f g h i j head s (suc (suc zero)) small = refl
shifted_ten a b c d e f g h i j head s (suc (suc (suc zero))) small = refl
shifted_ten a b c d e f g h i j head s (suc (suc (suc (suc zero)))) small = refl
shifted_ten a b c d e f g h i j head s (suc (suc (suc (suc (suc zero))))) small = refl
shifted_ten a b c d e f g h i j head s (suc (suc (suc (suc (suc (suc zero)))))) small = refl
shifted_ten a b c d e f g h i j head s (suc (suc (suc (suc (suc (suc (suc zero))))))) small = refl
shifted_ten a b c d e f g h i j head s (suc (suc (suc (suc (suc (suc (suc (suc zero)))))))) small = refl
shifted_ten a b c d e f g h i j head s (suc (suc (suc (suc (suc (suc (suc (suc (suc zero))))))))) small = refl
shifted_ten a b c d e f g h i j head s (suc (suc (suc (suc (suc (suc (suc (suc (suc (suc k)))))))))) small = absurd (omega arith)

pub shifted_one : (bins : List Bin) → length bins ≡ 10 → Shifted 1 bins (drop 1 bins ++ no_polling ∷ [])
shifted_one bins l = of_ten (λ bins head. Shifted 1 bins (drop 1 bins ++ no_polling ∷ [])) shifted_ten bins 0 l (omega arith)

pub pushed_one : (old new : List Bin) → length old ≡ 10 → new ≡ drop 1 old ++ no_polling ∷ [] → Shifted 1 old new
pushed_one old new l e = let P : List Bin → Type 0 = λ bins. Shifted 1 old bins in subst P (sym e) (shifted_one old l)

-- bins in which nothing happened are ten places or more behind any
pub cleared : (places : ℕ) (old : List Bin) → 10 ≤ places → Shifted places old (replicate 10 no_polling)
cleared places old many k small = fresh k small ∙ sym (came_in places k no_polling (back (k - places) old) (omega arith))
  where
    fresh : (k : ℕ) → k < 10 → back k (replicate 10 no_polling) ≡ no_polling
    fresh zero small = refl
    fresh (suc zero) small = refl
    fresh (suc (suc zero)) small = refl
    fresh (suc (suc (suc zero))) small = refl
    fresh (suc (suc (suc (suc zero)))) small = refl
    fresh (suc (suc (suc (suc (suc zero))))) small = refl
    fresh (suc (suc (suc (suc (suc (suc zero)))))) small = refl
    fresh (suc (suc (suc (suc (suc (suc (suc zero))))))) small = refl
    fresh (suc (suc (suc (suc (suc (suc (suc (suc zero)))))))) small = refl
    fresh (suc (suc (suc (suc (suc (suc (suc (suc (suc zero))))))))) small = refl
    fresh (suc (suc (suc (suc (suc (suc (suc (suc (suc (suc k)))))))))) small = absurd (omega arith)

-- the latest bin is another, and the others stay
last_other_ten : (n : Bin) → Ten (λ bins head. (k : ℕ) → 0 < k → k < 10 → back k (take 9 bins ++ n ∷ []) ≡ back k bins)
last_other_ten n a b c d e f g h i j head s zero some small = absurd (omega arith)
last_other_ten n a b c d e f g h i j head s (suc zero) some small = refl
last_other_ten n a b c d e f g h i j head s (suc (suc zero)) some small = refl
last_other_ten n a b c d e f g h i j head s (suc (suc (suc zero))) some small = refl
last_other_ten n a b c d e f g h i j head s (suc (suc (suc (suc zero)))) some small = refl
last_other_ten n a b c d e f g h i j head s (suc (suc (suc (suc (suc zero))))) some small = refl
last_other_ten n a b c d e f g h i j head s (suc (suc (suc (suc (suc (suc zero)))))) some small = refl
last_other_ten n a b c d e f g h i j head s (suc (suc (suc (suc (suc (suc (suc zero))))))) some small = refl
last_other_ten n a b c d e f g h i j head s (suc (suc (suc (suc (suc (suc (suc (suc zero)))))))) some small = refl
last_other_ten n a b c d e f g h i j head s (suc (suc (suc (suc (suc (suc (suc (suc (suc zero))))))))) some small = refl
last_other_ten n a b c d e f g h i j head s (suc (suc (suc (suc (suc (suc (suc (suc (suc (suc k)))))))))) some small = absurd (omega arith)

last_ten_is : (n : Bin) → Ten (λ bins head. back 0 (take 9 bins ++ n ∷ []) ≡ n)
last_ten_is n a b c d e f g h i j head s = refl

pub last_is : (bins new : List Bin) (n : Bin) → length bins ≡ 10 → new ≡ take 9 bins ++ n ∷ [] → back 0 new ≡ n
last_is bins new n l e = ap (back 0) e ∙ of_ten (λ bins head. back 0 (take 9 bins ++ n ∷ []) ≡ n) (last_ten_is n) bins 0 l (omega arith)

pub others_stay : (bins new : List Bin) (n : Bin) → length bins ≡ 10 → new ≡ take 9 bins ++ n ∷ [] → (k : ℕ) → 0 < k → k < 10 → back k new ≡ back k bins
others_stay bins new n l e k some small = ap (back k) e ∙ of_ten (λ bins head. (k : ℕ) → 0 < k → k < 10 → back k (take 9 bins ++ n ∷ []) ≡ back k bins) (last_other_ten n) bins 0 l (omega arith) k some small

-- ten bins are ten in any order
pub ten_in_order : (head : ℕ) (slots : List Bin) → length slots ≡ 10 → head < 10 → length (in_order head slots) ≡ 10
ten_in_order head slots l s = grind (arith, length-append, length-drop, length-take)
