-- What one event or look more does to what a log keeps.
use Rattle.std.proofs.Common.{◌≡◌, ℕ, zero, suc, ◌+◌, ◌-◌, ◌*◌, ◌<◌, ◌≤◌, Bool, true, false, cond, ◌&&◌, ◌||◌, nat_eq, nat_lt, nat_le, min, max, List, [], ◌∷◌, ◌++◌, length, arith, refl, ap, ◌∙◌, sym, subst, inl, inr, append_assoc, slice_index_or}
use Rattle.std.specs.List.{list_any, fold, count_by}
use Rattle.std.proofs.lemmas.List.Sums.{sum_by_push}
use Rattle.std.proofs.lemmas.Bool.{eq-eqb, lt-ltb, le-ltb, ltb-false}
use Rattle.std.proofs.lemmas.Bool.Decides.{eqb_tells, leb_tells}
use Rattle.stream_guard.specs.declared.bin.Bin.{Bin}
use Rattle.stream_guard.specs.declared.bin.BinLabel.{BinLabel}
use Rattle.stream_guard.specs.declared.bin.BinLabel.TheVariants as label
use Rattle.stream_guard.specs.declared.report.ThroughputReport.{ThroughputReport}
use Rattle.stream_guard.specs.declared.report.ThroughputReport.TheVariants as report
use Rattle.stream_guard.specs.Bin.{is_no_polling, is_pending, is_transferred, higher, most_bytes, no_polling, merged, back}
use Rattle.stream_guard.specs.Report.{Came, Pending, Transferred, Looked, own_bin, moment_of, latest_from, Placed, event_in, placed_from, label_in, bytes_in, last_ten, judged, report_after, report_of}
use Rattle.stream_guard.specs.Judged.{judged_bins}
use Rattle.stream_guard.specs.Logs.{Log, bin_in, KeepsPlaced, Keeps, SameSettings, CatchesUp, AddsEvent, shown}

latest_from-append : (start r latest : ℕ) (cs : List Came) (c : Came) → latest_from start r latest (cs ++ c ∷ []) ≡ max (own_bin start r (moment_of c)) (latest_from start r latest cs)
latest_from-append start r latest [] c = refl
latest_from-append start r latest (d ∷ cs) c = latest_from-append start r (max (own_bin start r (moment_of d)) latest) cs c

append_nil : {A : Type 0} (xs : List A) → xs ++ [] ≡ xs
append_nil [] = refl
append_nil (x ∷ xs) = ap (λ ys. x ∷ ys) (append_nil xs)

placed_from-append : (start r latest : ℕ) (cs : List Came) (c : Came) → placed_from start r latest (cs ++ c ∷ []) ≡ placed_from start r latest cs ++ event_in (max (own_bin start r (moment_of c)) (latest_from start r latest cs)) c
placed_from-append start r latest [] c = append_nil (event_in (max (own_bin start r (moment_of c)) latest) c)
placed_from-append start r latest (d ∷ cs) c =
    let bin = max (own_bin start r (moment_of d)) latest in
    ap (λ ps. event_in bin d ++ ps) (placed_from-append start r bin cs c)
    ∙ sym (append_assoc (event_in bin d) (placed_from start r bin cs) (event_in (max (own_bin start r (moment_of c)) (latest_from start r bin cs)) c))

latest_grows : (start r latest : ℕ) (cs : List Came) → latest ≤ latest_from start r latest cs
latest_grows start r latest [] = omega arith
latest_grows start r latest (c ∷ cs) = omega (arith, latest_grows start r (max (own_bin start r (moment_of c)) latest) cs)

-- nothing is placed behind the latest bin
not_the_bin : (start r latest : ℕ) (c : Came) (cs : List Came) (b : ℕ) → latest_from start r latest (c ∷ cs) < b → nat_eq (max (own_bin start r (moment_of c)) latest) b ≡ false
not_the_bin start r latest c cs b h =
    let grown = latest_grows start r (max (own_bin start r (moment_of c)) latest) cs in
    elim (eqb_tells (max (own_bin start r (moment_of c)) latest) b) [ inl same ↦ absurd (omega (arith, grown, same.1)) | inr other ↦ other.0 ]

none_behind : (f : BinLabel → Bool) (start r latest : ℕ) (cs : List Came) (b : ℕ) → latest_from start r latest cs < b → list_any (λ p. nat_eq p.bin b && f p.label) (placed_from start r latest cs) ≡ false
none_behind f start r latest [] b h = refl
none_behind f start r latest (Looked now ∷ cs) b h = none_behind f start r (max (own_bin start r now) latest) cs b h
none_behind f start r latest (Pending now ∷ cs) b h = rw (not_the_bin start r latest (Pending now) cs b h) (none_behind f start r (max (own_bin start r now) latest) cs b h)
none_behind f start r latest (Transferred now bytes ∷ cs) b h = rw (not_the_bin start r latest (Transferred now bytes) cs b h) (none_behind f start r (max (own_bin start r now) latest) cs b h)

no_bytes_behind : (start r latest : ℕ) (cs : List Came) (b : ℕ) → latest_from start r latest cs < b → bytes_in (placed_from start r latest cs) b ≡ 0
no_bytes_behind start r latest [] b h = refl
no_bytes_behind start r latest (Looked now ∷ cs) b h = no_bytes_behind start r (max (own_bin start r now) latest) cs b h
no_bytes_behind start r latest (Pending now ∷ cs) b h = rw (not_the_bin start r latest (Pending now) cs b h) (no_bytes_behind start r (max (own_bin start r now) latest) cs b h)
no_bytes_behind start r latest (Transferred now bytes ∷ cs) b h = rw (not_the_bin start r latest (Transferred now bytes) cs b h) (no_bytes_behind start r (max (own_bin start r now) latest) cs b h)

fresh_behind : (start r latest : ℕ) (cs : List Came) (b : ℕ) → latest_from start r latest cs < b → bin_in (placed_from start r latest cs) b ≡ no_polling
fresh_behind start r latest cs b h =
    rw (none_behind is_transferred start r latest cs b h, none_behind is_pending start r latest cs b h, no_bytes_behind start r latest cs b h) refl

or_assoc : (a b c : Bool) → a || (b || c) ≡ (a || b) || c
or_assoc true b c = refl
or_assoc false b c = refl

or_false : (a : Bool) → a || false ≡ a
or_false true = refl
or_false false = refl

any_push : {A : Type 0} (f : A → Bool) (xs : List A) (y : A) → list_any f (xs ++ y ∷ []) ≡ list_any f xs || f y
any_push f [] y = or_false (f y)
any_push f (x ∷ xs) y = ap (λ b. f x || b) (any_push f xs y) ∙ or_assoc (f x) (list_any f xs) (f y)

-- a label with one event more
label_more : (transferred pending same : Bool) (l : BinLabel) → cond (transferred || (same && is_transferred l)) label.TransferredBytes (cond (pending || (same && is_pending l)) label.Pending label.NoPolling) ≡ cond same (higher (cond transferred label.TransferredBytes (cond pending label.Pending label.NoPolling)) l) (cond transferred label.TransferredBytes (cond pending label.Pending label.NoPolling))
label_more true true true label.NoPolling = refl
label_more true true true label.Pending = refl
label_more true true true label.TransferredBytes = refl
label_more true true false label.NoPolling = refl
label_more true true false label.Pending = refl
label_more true true false label.TransferredBytes = refl
label_more true false true label.NoPolling = refl
label_more true false true label.Pending = refl
label_more true false true label.TransferredBytes = refl
label_more true false false label.NoPolling = refl
label_more true false false label.Pending = refl
label_more true false false label.TransferredBytes = refl
label_more false true true label.NoPolling = refl
label_more false true true label.Pending = refl
label_more false true true label.TransferredBytes = refl
label_more false true false label.NoPolling = refl
label_more false true false label.Pending = refl
label_more false true false label.TransferredBytes = refl
label_more false false true label.NoPolling = refl
label_more false false true label.Pending = refl
label_more false false true label.TransferredBytes = refl
label_more false false false label.NoPolling = refl
label_more false false false label.Pending = refl
label_more false false false label.TransferredBytes = refl

label_push : (placed : List Placed) (e : Placed) (b : ℕ) → label_in (placed ++ e ∷ []) b ≡ cond (nat_eq e.bin b) (higher (label_in placed b) e.label) (label_in placed b)
label_push placed e b =
    rw (any_push (λ p. nat_eq p.bin b && is_transferred p.label) placed e, any_push (λ p. nat_eq p.bin b && is_pending p.label) placed e)
    (label_more (list_any (λ p. nat_eq p.bin b && is_transferred p.label) placed) (list_any (λ p. nat_eq p.bin b && is_pending p.label) placed) (nat_eq e.bin b) e.label)

bytes_push : (placed : List Placed) (e : Placed) (b : ℕ) → bytes_in (placed ++ e ∷ []) b ≡ bytes_in placed b + cond (nat_eq e.bin b) e.bytes 0
bytes_push placed e b = sum_by_push (λ p. cond (nat_eq p.bin b) p.bytes 0) placed e

capped : (x y : ℕ) → min (x + y) most_bytes ≡ min (min x most_bytes + y) most_bytes
capped x y = omega arith

bin_of : BinLabel → ℕ → Bin
bin_of l n = record { label = l; bytes = n }

bin_same : (placed : List Placed) (e : Placed) (b : ℕ) → nat_eq e.bin b ≡ true → bin_in (placed ++ e ∷ []) b ≡ merged (bin_in placed b) (record { label = e.label; bytes = e.bytes })
bin_same placed e b h =
    rw (label_push placed e b, bytes_push placed e b, h, capped (bytes_in placed b) e.bytes) refl

bin_other : (placed : List Placed) (e : Placed) (b : ℕ) → nat_eq e.bin b ≡ false → bin_in (placed ++ e ∷ []) b ≡ bin_in placed b
bin_other placed e b h =
    let none : bytes_in placed b + 0 ≡ bytes_in placed b = omega arith in
    rw (label_push placed e b, bytes_push placed e b, h, none) refl

-- the bins moved on are those of the same events
pub caught_up : (old new : Log) (came : List Came) (c : Came) → Keeps old came → CatchesUp old (moment_of c) new → KeepsPlaced new (placed_from old.start old.resolution 0 came) (latest_from old.start old.resolution 0 (came ++ c ∷ []))
caught_up old new came c kept up =
    let last = latest_from old.start old.resolution 0 came in
    let next = latest_from old.start old.resolution 0 (came ++ c ∷ []) in
    let grown : next ≡ max (own_bin old.start old.resolution (moment_of c)) last = latest_from-append old.start old.resolution 0 came c in
    let is : new.latest ≡ next = up.latest ∙ ap (λ n. max (own_bin old.start old.resolution (moment_of c)) n) kept.latest ∙ sym grown in
    record {
      latest = is;
      early = up.early ∙ kept.early;
      bins = λ k small within. up.bins k small ∙ moved_bin old (placed_from old.start old.resolution 0 came) last next (new.latest - old.latest) k kept small within (omega (arith, is, kept.latest, grown)) (omega (arith, is, kept.latest, grown)) (λ b behind. fresh_behind old.start old.resolution 0 came b behind);
    }
  where
    moved_bin : (old : Log) (placed : List Placed) (last next places k : ℕ) → KeepsPlaced old placed last → k < 10 → k ≤ next → last ≤ next → places ≡ next - last → ((b : ℕ) → last < b → bin_in placed b ≡ no_polling) → cond (nat_lt k places) no_polling (back (k - places) old.bins) ≡ bin_in placed (next - k)
    moved_bin old placed last next places k kept small within later is fresh = elim (leb_tells (k + 1) places) [
      | inl before ↦ (let below : k < places = omega (arith, before.1) in rw (lt-ltb k places below) (sym (fresh (next - k) (omega (arith, below, is)))))
      | inr after ↦ (let above : places ≤ k = omega (arith, after.1) in
          let same : last - (k - places) ≡ next - k = omega (arith, above, is, later, within) in
          rw (le-ltb k places above) (kept.bins (k - places) (omega arith) (omega (arith, above, is, later, within)) ∙ ap (bin_in placed) same))
    ]

added : (old new : Log) (event : Bin) (placed : List Placed) (last : ℕ) → KeepsPlaced old placed last → AddsEvent old event new → KeepsPlaced new (placed ++ record { bin = last; label = event.label; bytes = event.bytes } ∷ []) last
added old new event placed last kept adds =
    let e : Placed = record { bin = last; label = event.label; bytes = event.bytes } in
    record {
      latest = adds.latest ∙ kept.latest;
      early = adds.early ∙ ap (λ b. b || nat_eq old.latest 0) kept.early ∙ ap (λ n. list_any (λ p. nat_eq p.bin 0) placed || nat_eq n 0) kept.latest ∙ sym (any_push (λ p. nat_eq p.bin 0) placed e);
      bins = added_bin old new event placed last kept adds;
    }
  where
    added_bin : (old new : Log) (event : Bin) (placed : List Placed) (last : ℕ) → KeepsPlaced old placed last → AddsEvent old event new → (k : ℕ) → k < 10 → k ≤ last → back k new.bins ≡ bin_in (placed ++ record { bin = last; label = event.label; bytes = event.bytes } ∷ []) (last - k)
    added_bin old new event placed last kept adds zero small within =
        let e : Placed = record { bin = last; label = event.label; bytes = event.bytes } in
        adds.last ∙ ap (λ b. merged b event) (kept.bins 0 small within) ∙ sym (bin_same placed e (last - 0) (eq-eqb last (last - 0) (omega arith)))
    added_bin old new event placed last kept adds (suc k) small within =
        let e : Placed = record { bin = last; label = event.label; bytes = event.bytes } in
        adds.others (suc k) (omega arith) small ∙ kept.bins (suc k) small within ∙ sym (bin_other placed e (last - suc k) (elim (eqb_tells last (last - suc k)) [ inl same ↦ absurd (omega (arith, same.1, within)) | inr other ↦ other.0 ]))

with_settings : (new : Log) (start r : ℕ) (cs : List Came) → new.start ≡ start → new.resolution ≡ r → KeepsPlaced new (placed_from start r 0 cs) (latest_from start r 0 cs) → Keeps new cs
with_settings new start r cs s t h =
    let P : ℕ → Type 0 = λ x. KeepsPlaced new (placed_from x new.resolution 0 cs) (latest_from x new.resolution 0 cs) in
    let Q : ℕ → Type 0 = λ y. KeepsPlaced new (placed_from start y 0 cs) (latest_from start y 0 cs) in
    subst P (sym s) (subst Q (sym t) h)

pub same_both : (old mid new : Log) → SameSettings old mid → SameSettings mid new → SameSettings old new
same_both old mid new first second = record {
  start = second.start ∙ first.start;
  resolution = second.resolution ∙ first.resolution;
  complete = second.complete ∙ first.complete;
}

-- an event
pub pushed : (old mid new : Log) (came : List Came) (c : Came) (event : Bin) → ((bin : ℕ) → event_in bin c ≡ record { bin = bin; label = event.label; bytes = event.bytes } ∷ []) → Keeps old came → CatchesUp old (moment_of c) mid → AddsEvent mid event new → Keeps new (came ++ c ∷ [])
pushed old mid new came c event shape kept up adds =
    let last = latest_from old.start old.resolution 0 (came ++ c ∷ []) in
    let placed = placed_from old.start old.resolution 0 came in
    let grown = latest_from-append old.start old.resolution 0 came c in
    let split : placed_from old.start old.resolution 0 (came ++ c ∷ []) ≡ placed ++ record { bin = last; label = event.label; bytes = event.bytes } ∷ [] =
    placed_from-append old.start old.resolution 0 came c ∙ ap (λ n. placed ++ event_in n c) (sym grown) ∙ ap (λ es. placed ++ es) (shape last) in
    let same = same_both old mid new up.settings adds.settings in
    with_settings new old.start old.resolution (came ++ c ∷ []) same.start same.resolution
    (rw split (added mid new event placed last (caught_up old mid came c kept up) adds))

-- a look, whatever the settings are called
looked_placed : (old new : Log) (came : List Came) (now : ℕ) → Keeps old came → CatchesUp old now new → KeepsPlaced new (placed_from old.start old.resolution 0 (came ++ Looked now ∷ [])) (latest_from old.start old.resolution 0 (came ++ Looked now ∷ []))
looked_placed old new came now kept up =
    let placed = placed_from old.start old.resolution 0 came in
    let split : placed_from old.start old.resolution 0 (came ++ Looked now ∷ []) ≡ placed = placed_from-append old.start old.resolution 0 came (Looked now) ∙ append_nil placed in
    rw split (caught_up old new came (Looked now) kept up)

-- a look
pub looked : (old new : Log) (came : List Came) (now : ℕ) → Keeps old came → CatchesUp old now new → Keeps new (came ++ Looked now ∷ [])
looked old new came now kept up =
    with_settings new old.start old.resolution (came ++ Looked now ∷ []) up.settings.start up.settings.resolution (looked_placed old new came now kept up)

-- ten bins are their ten places
ten : (xs : List Bin) (d : Bin) → length xs ≡ 10 → xs ≡ slice_index_or xs 0 d ∷ slice_index_or xs 1 d ∷ slice_index_or xs 2 d ∷ slice_index_or xs 3 d ∷ slice_index_or xs 4 d ∷ slice_index_or xs 5 d ∷ slice_index_or xs 6 d ∷ slice_index_or xs 7 d ∷ slice_index_or xs 8 d ∷ slice_index_or xs 9 d ∷ []
ten (a ∷ b ∷ c ∷ e ∷ f ∷ g ∷ h ∷ i ∷ j ∷ k ∷ []) d l = refl
ten [] d l = absurd (omega (arith, l))
ten (a ∷ []) d l = absurd (omega (arith, l))
ten (a ∷ b ∷ []) d l = absurd (omega (arith, l))
ten (a ∷ b ∷ c ∷ []) d l = absurd (omega (arith, l))
ten (a ∷ b ∷ c ∷ e ∷ []) d l = absurd (omega (arith, l))
ten (a ∷ b ∷ c ∷ e ∷ f ∷ []) d l = absurd (omega (arith, l))
ten (a ∷ b ∷ c ∷ e ∷ f ∷ g ∷ []) d l = absurd (omega (arith, l))
ten (a ∷ b ∷ c ∷ e ∷ f ∷ g ∷ h ∷ []) d l = absurd (omega (arith, l))
ten (a ∷ b ∷ c ∷ e ∷ f ∷ g ∷ h ∷ i ∷ []) d l = absurd (omega (arith, l))
ten (a ∷ b ∷ c ∷ e ∷ f ∷ g ∷ h ∷ i ∷ j ∷ []) d l = absurd (omega (arith, l))
ten (a ∷ b ∷ c ∷ e ∷ f ∷ g ∷ h ∷ i ∷ j ∷ k ∷ m ∷ xs) d l = absurd (omega (arith, l))

-- bins of a list of numbers
abbrev bins_in : List Placed → List ℕ → List Bin
bins_in placed [] = []
bins_in placed (b ∷ bs) = bin_in placed b ∷ bins_in placed bs

bins_are : (bins : List Bin) (placed : List Placed) (last : ℕ) → length bins ≡ 10 → ((k : ℕ) → k < 10 → back k bins ≡ bin_in placed (last - k)) → bins ≡ bins_in placed (last_ten last)
bins_are bins placed last l h =
    let b0 = h 0 (omega arith) in let b1 = h 1 (omega arith) in let b2 = h 2 (omega arith) in let b3 = h 3 (omega arith) in let b4 = h 4 (omega arith) in
    let b5 = h 5 (omega arith) in let b6 = h 6 (omega arith) in let b7 = h 7 (omega arith) in let b8 = h 8 (omega arith) in let b9 = h 9 (omega arith) in
    ten bins no_polling l ∙ rw (b0, b1, b2, b3, b4, b5, b6, b7, b8, b9) refl

-- sums that stop at the most are as good as one that stops in the end
capped_fold : (placed : List Placed) (bs : List ℕ) (a b : ℕ) → a ≡ min b most_bytes → fold (λ (sum : ℕ) (x : Bin). min (sum + x.bytes) most_bytes) a (bins_in placed bs) ≡ min (fold (λ (sum x : ℕ). sum + bytes_in placed x) b bs) most_bytes
capped_fold placed [] a b h = h
capped_fold placed (x ∷ bs) a b h = capped_fold placed bs (min (a + min (bytes_in placed x) most_bytes) most_bytes) (b + bytes_in placed x) (capped_step a b (bytes_in placed x) h)
  where
    capped_step : (a b n : ℕ) → a ≡ min b most_bytes → min (a + min n most_bytes) most_bytes ≡ min (b + n) most_bytes
    capped_step a b n h = omega (arith, h)

abbrev verdict : ℕ → Bool → ℕ → ℕ → ℕ → ThroughputReport
verdict r transferred bytes silent pending =
    cond transferred (report.Transferred (record { bytes_read = bytes; per_time_elapsed = 10 * r })) (cond (nat_le 5 silent) report.NoPolling (cond (nat_le 5 pending) report.Pending report.Incomplete))

judged_is : (r : ℕ) (placed : List Placed) (last : ℕ) → judged_bins r (bins_in placed (last_ten last)) ≡ judged r placed (last_ten last)
judged_is r placed last =
    let bs = last_ten last in
    ap (λ n. verdict r (list_any (λ b. is_transferred (label_in placed b)) bs) n (count_by (λ b. is_no_polling (label_in placed b)) bs) (count_by (λ b. is_pending (label_in placed b)) bs))
    (capped_fold placed bs 0 0 (omega arith))

few_bins : (early : Bool) (last : ℕ) → nat_lt (cond early (last + 1) last) 10 ≡ nat_lt last (cond early 9 10)
few_bins false last = refl
few_bins true last = elim (leb_tells (last + 1) 9) [
  | inl few ↦ lt-ltb (last + 1) 10 (omega (arith, few.1)) ∙ sym (lt-ltb last 9 (omega (arith, few.1)))
  | inr many ↦ le-ltb (last + 1) 10 (omega (arith, many.1)) ∙ sym (le-ltb last 9 (omega (arith, many.1)))
]

at_least_nine : (early : Bool) (last : ℕ) → nat_lt last (cond early 9 10) ≡ false → 9 ≤ last
at_least_nine true last h = ltb-false last 9 h
at_least_nine false last h = let ten = ltb-false last 10 h in omega (arith, ten)

enough : (b early : Bool) (r : ℕ) (bins : List Bin) (placed : List Placed) (last : ℕ) → nat_lt last (cond early 9 10) ≡ b → length bins ≡ 10 → ((k : ℕ) → k < 10 → k ≤ last → back k bins ≡ bin_in placed (last - k)) → cond b report.Incomplete (judged_bins r bins) ≡ cond b report.Incomplete (judged r placed (last_ten last))
enough true early r bins placed last h l kept = refl
enough false early r bins placed last h l kept =
    let nine = at_least_nine early last h in
    ap (judged_bins r) (bins_are bins placed last l (λ k small. kept k small (omega (arith, nine)))) ∙ judged_is r placed last

shows : (log : Log) (placed : List Placed) (last : ℕ) → length log.bins ≡ 10 → KeepsPlaced log placed last → cond (nat_lt log.latest (cond log.early 9 10)) report.Incomplete (judged_bins log.resolution log.bins) ≡ report_after log.resolution placed last
shows log placed last l kept =
    let early = list_any (λ p. nat_eq p.bin 0) placed in
    ap (λ n. cond (nat_lt n (cond log.early 9 10)) report.Incomplete (judged_bins log.resolution log.bins)) kept.latest
    ∙ ap (λ e. cond (nat_lt last (cond e 9 10)) report.Incomplete (judged_bins log.resolution log.bins)) kept.early
    ∙ enough (nat_lt last (cond early 9 10)) early log.resolution log.bins placed last refl l kept.bins
    ∙ ap (λ t. cond t report.Incomplete (judged log.resolution placed (last_ten last))) (sym (few_bins early last))

-- what a log shows after a look is the report
pub reported : (old new : Log) (came : List Came) (now : ℕ) (said : ThroughputReport) → Keeps old came → CatchesUp old now new → length new.bins ≡ 10 → said ≡ shown new → said ≡ report_of old.start old.resolution old.complete came now
reported old new came now said kept up l is =
    let all = came ++ Looked now ∷ [] in
    let placed = placed_from old.start old.resolution 0 all in
    let last = latest_from old.start old.resolution 0 all in
    is ∙ ap (λ b. cond b report.Complete (cond (nat_lt new.latest (cond new.early 9 10)) report.Incomplete (judged_bins new.resolution new.bins))) up.settings.complete
    ∙ ap (λ x. cond old.complete report.Complete x) (shows new placed last l (looked_placed old new came now kept up) ∙ ap (λ r. report_after r placed last) up.settings.resolution)
