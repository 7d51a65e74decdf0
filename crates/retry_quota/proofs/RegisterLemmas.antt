-- What the registry's calls do to what it means.
use Rattle.std.proofs.Common.{◌≡◌, ◌∙◌, ap, refl, sym, subst, ℕ, suc, ◌<◌, ◌≤◌, ◌-◌, ◌+◌, true, false, if◌then◌else◌, List, [], ◌∷◌, ◌++◌, ◌≢◌, length, length-append, arith, Option, Some, None, nat_lt, nat_le}
use Rattle.std.specs.Prelude.{slice_set, slice_get, slice_index_or, IfSome, IsTrue, MatchOption, is_some}
use Rattle.std.specs.Option.{option_map_or, option_to_list, IfNone}
use Rattle.std.proofs.lemmas.Bool.{leb-true, lt-ltb}
use Rattle.std.proofs.lemmas.Bool.Decides.{nat_tests}
use Rattle.std.specs.Cmp.{and_equiv, on_equiv, bool_eq_equiv}
use Rattle.std.specs.Cmp.Lexicographic.{nat_list_eq_equiv}
use Rattle.std.specs.Map.{lookup}
use Rattle.smithy_types.specs.Partition.{same_partition}
use Rattle.smithy_types.specs.declared.partition.RetryPartition.{RetryPartition}
use Rattle.retry_quota.proofs.TableLemmas.{lookup-new, lookup-other}
use Rattle.std.proofs.lemmas.Map.Entries.{All-lookup}
use Rattle.std.proofs.lemmas.Option.{slice_get_read}
use Rattle.smithy_types.specs.declared.config.RetrySpec.{RetrySpec}
use Rattle.smithy_types.specs.declared.kinds.ErrorKind.{ErrorKind}
use Rattle.retry_quota.specs.Book.{Book, cost_of, release, forget, plain_book, default_book}
use Rattle.retry_quota.specs.History.{Step, Reply, Done, Release, Forget, after, reply_to}
use Rattle.retry_quota.specs.Meaning.{Meaning, KeepsBuckets, IsKept, Steps, Settles, ChangesLimiter, AddsBucket, AnswersBucket, AddsLimiter, AnswersLimiter, BucketIsThere, LimiterIsThere}
use Rattle.retry_quota.specs.Place.{change_at}
use Rattle.retry_quota.specs.Registers.{Registers, meaning_of, AreBelow}
use Rattle.retry_quota.proofs.BookLemmas.{cost-after, terms-after}
use Rattle.retry_quota.proofs.PlaceLemmas.{length-change_at, set-changed, map_or-change_at, change_at-past, slice_get-last, slice_get-before, slice_get-past, change_at-refused}

if_some : {X : Type 0} → (P : X → Type 0) (o : Option X) (x : X) → o ≡ Some x → P x → IfSome o P
if_some P o x is holds = subst (λ v. IfSome v P) (sym is) holds

-- a fact of every value is one of what is there
if_any : {X : Type 0} {P : X → Type 0} → (o : Option X) → ((x : X) → P x) → IfSome o P
if_any None all = tt
if_any (Some x) all = all x

costs_stay : {L : Type 0} → (r : Registers L) (bucket : ℕ) (step : Step)
    → KeepsBuckets (meaning_of r) (meaning_of (record r { books = change_at bucket (after step) r.books }))
costs_stay r bucket step = record {
  has = λ j. ap (λ n. nat_lt j n) (length-change_at (after step) r.books bucket);
  cost = λ j kind. map_or-change_at (cost_of kind) (after step) (cost-after kind step) r.books bucket j 0;
  reward = λ j. map_or-change_at (λ b. b.reward) (after step) (λ b. ap (λ t. t.success_reward) (terms-after step b)) r.books bucket j 0;
  bucket_of = λ p. refl;
  limiter_of = λ p. refl;
}

step_changed : {L : Type 0} → (r : Registers L) (bucket : ℕ) (step : Step) (reply : Reply)
    → IfSome (slice_get r.books bucket) (λ b. reply ≡ reply_to step b)
    → Steps (meaning_of r) bucket step reply (meaning_of (record r { books = change_at bucket (after step) r.books }))
step_changed r bucket step reply replied = record {
  book = (replied, refl);
  entries = refl;
  buckets = costs_stay r bucket step;
  limiters = refl;
}

-- a bucket that was read and written back has made its step
pub step_written : {L : Type 0} → (r s : Registers L) (bucket : ℕ) (step : Step) (reply : Reply) (old new : Book)
    → r ≡ s → IsTrue ((meaning_of s).has bucket) → old ≡ slice_index_or r.books bucket old
    → new ≡ after step old → reply ≡ reply_to step old
    → Steps (meaning_of s) bucket step reply (meaning_of (record r { books = slice_set r.books bucket new }))
step_written {L} r s bucket step reply old new same there read made replied =
    let within : bucket < length r.books = leb-true (suc bucket) (length r.books) (subst (λ t. IsTrue ((meaning_of t).has bucket)) (sym same) there) in
    let changed : slice_set r.books bucket new ≡ change_at bucket (after step) r.books = set-changed (after step) r.books bucket old new within read made in
    let stepped : Steps (meaning_of r) bucket step reply (meaning_of (record r { books = change_at bucket (after step) r.books })) =
    step_changed r bucket step reply (if_some (λ b. reply ≡ reply_to step b) (slice_get r.books bucket) old (slice_get_read r.books (length r.books) bucket old refl within read) replied) in
    let written : Steps (meaning_of r) bucket step reply (meaning_of (record r { books = slice_set r.books bucket new })) =
    subst (λ (books : List Book). Steps (meaning_of r) bucket step reply (meaning_of (record r { books = books }))) (sym changed) stepped in
    subst (λ (t : Registers L). Steps (meaning_of t) bucket step reply (meaning_of (record r { books = slice_set r.books bucket new }))) same written

kept : {L : Type 0} → (r : Registers L) → IsKept (meaning_of r) (meaning_of r)
kept r = record {
  buckets = record { has = λ j. refl; cost = λ j kind. refl; reward = λ j. refl; bucket_of = λ p. refl; limiter_of = λ p. refl };
  books = refl;
  entries = refl;
  limiters = refl;
}

-- a step that changes none of the books
step_refused : {L : Type 0} → (r : Registers L) (bucket : ℕ) (step : Step)
    → ((b : Book) → reply_to step b ≡ Done) → change_at bucket (after step) r.books ≡ r.books
    → Settles (meaning_of r) bucket step (meaning_of r)
step_refused {L} r bucket step done unchanged = record {
  there = λ there. subst (λ (books : List Book). Steps (meaning_of r) bucket step Done (meaning_of (record r { books = books }))) unchanged
      (step_changed r bucket step Done (if_any (slice_get r.books bucket) (λ b. sym (done b))));
  foreign = λ gone. kept r;
}

released_less : (amount : ℕ) (b : Book) → nat_le amount b.held ≡ false → release amount b ≡ b
released_less amount b less = ap (λ t. if t then record b { held = b.held - amount; available = b.available + amount } else b) less

forgotten_less : (amount : ℕ) (b : Book) → nat_le amount b.held ≡ false → forget amount b ≡ b
forgotten_less amount b less = ap (λ t. if t then record b { held = b.held - amount; forgotten = b.forgotten + amount } else b) less

-- a release of more than is held changes nothing
pub release_foreign : {L : Type 0} → (r : Registers L) (bucket amount : ℕ)
    → option_map_or (λ b. nat_le amount b.held) (slice_get r.books bucket) false ≡ false
    → Settles (meaning_of r) bucket (Release amount) (meaning_of r)
release_foreign r bucket amount less = step_refused r bucket (Release amount) (λ b. refl)
    (change_at-refused (λ b. nat_le amount b.held) (release amount) (released_less amount) r.books bucket less)

-- a forget of more than is held changes nothing
pub forget_foreign : {L : Type 0} → (r : Registers L) (bucket amount : ℕ)
    → option_map_or (λ b. nat_le amount b.held) (slice_get r.books bucket) false ≡ false
    → Settles (meaning_of r) bucket (Forget amount) (meaning_of r)
forget_foreign r bucket amount less = step_refused r bucket (Forget amount) (λ b. refl)
    (change_at-refused (λ b. nat_le amount b.held) (forget amount) (forgotten_less amount) r.books bucket less)

-- a bucket that is there has settled by its step
pub settled : {L : Type 0} → (m n : Meaning L) (bucket : ℕ) (step : Step)
    → IsTrue (m.has bucket) → Steps m bucket step Done n → Settles m bucket step n
settled m n bucket step there stepped = record {
  there = λ _. stepped;
  foreign = λ gone. cc;
}

-- a limiter that was read and written back has changed
pub limiter_written : {L : Type 0} → (r s : Registers L) (limiter : ℕ) (change : L → L) (old new : L)
    → r ≡ s → limiter < length r.limiters → old ≡ slice_index_or r.limiters limiter old → new ≡ change old
    → ChangesLimiter (meaning_of s) limiter change (meaning_of (record r { limiters = slice_set r.limiters limiter new }))
limiter_written {L} r s limiter change old new same within read made =
    subst (λ (t : Registers L). ChangesLimiter (meaning_of t) limiter change (meaning_of (record r { limiters = slice_set r.limiters limiter new }))) same (record {
      limiters = set-changed change r.limiters limiter old new within read made;
      books = refl;
      entries = refl;
      buckets = record { has = λ j. refl; cost = λ j kind. refl; reward = λ j. refl; bucket_of = λ p. refl; limiter_of = λ p. refl };
    })

-- a limiter that isn't there doesn't change
pub limiter_past : {L : Type 0} → (r s : Registers L) (limiter : ℕ) (change : L → L)
    → r ≡ s → length r.limiters ≤ limiter → ChangesLimiter (meaning_of s) limiter change (meaning_of s)
limiter_past {L} r s limiter change same past =
    subst (λ (t : Registers L). ChangesLimiter (meaning_of t) limiter change (meaning_of t)) same (record {
      limiters = sym (change_at-past change r.limiters limiter past);
      books = refl;
      entries = refl;
      buckets = (kept r).buckets;
    })

-- what a limiter that was read replies
pub limiter_reply : {L Y : Type 0} → (r s : Registers L) (limiter : ℕ) (reply : L → Y) (old : L) (d : Y)
    → r ≡ s → limiter < length r.limiters → old ≡ slice_index_or r.limiters limiter old
    → reply old ≡ option_map_or reply (slice_get s.limiters limiter) d
limiter_reply {L} {Y} r s limiter reply old d same within read =
    subst (λ (t : Registers L). reply old ≡ option_map_or reply (slice_get t.limiters limiter) d) same
    (sym (ap (λ o. option_map_or reply o d) (slice_get_read r.limiters (length r.limiters) limiter old refl within read)))

-- a limiter that isn't there has the reply that stands in for it
pub limiter_reply_past : {L Y : Type 0} → (r s : Registers L) (limiter : ℕ) (reply : L → Y) (d : Y)
    → r ≡ s → length r.limiters ≤ limiter → d ≡ option_map_or reply (slice_get s.limiters limiter) d
limiter_reply_past {L} {Y} r s limiter reply d same past =
    subst (λ (t : Registers L). d ≡ option_map_or reply (slice_get t.limiters limiter) d) same
    (sym (ap (λ o. option_map_or reply o d) (slice_get-past r.limiters limiter past)))

-- what a bucket that was read has, the meaning has too
pub read_cost : {L : Type 0} → (r s : Registers L) (bucket : ℕ) (kind : ErrorKind) (old : Book)
    → r ≡ s → IsTrue ((meaning_of s).has bucket) → old ≡ slice_index_or r.books bucket old
    → (meaning_of s).cost bucket kind ≡ cost_of kind old
read_cost {L} r s bucket kind old same there read =
    let within : bucket < length r.books = leb-true (suc bucket) (length r.books) (subst (λ t. IsTrue ((meaning_of t).has bucket)) (sym same) there) in
    subst (λ (t : Registers L). (meaning_of t).cost bucket kind ≡ cost_of kind old) same
    (ap (λ o. option_map_or (cost_of kind) o 0) (slice_get_read r.books (length r.books) bucket old refl within read))

same_refl : (p : RetryPartition) → same_partition p p ≡ true
same_refl p = (and_equiv (on_equiv (λ p. is_some p.custom) bool_eq_equiv) (on_equiv (λ p. p.name) nat_list_eq_equiv)).refl p

lt_more : (i n : ℕ) → i ≢ n → nat_lt i (n + 1) ≡ nat_lt i n
lt_more i n other = grind (arith, nat_tests)

not_lt_itself : (n : ℕ) → nat_lt n n ≡ false
not_lt_itself n = grind (arith, nat_tests)

lt_next : (n : ℕ) → nat_lt n (n + 1) ≡ true
lt_next n = grind (arith, nat_tests)

length_last : {X : Type 0} → (xs : List X) (x : X) → length (xs ++ x ∷ []) ≡ length xs + 1
length_last xs x = length-append xs (x ∷ [])

bucket_added : {L : Type 0} → (r : Registers L) (p : RetryPartition) (book : Book) → lookup (same_partition p) r.bucket_names ≡ None
    → AddsBucket (meaning_of r) p book (length r.books)
    (meaning_of (record r { books = r.books ++ book ∷ []; bucket_names = r.bucket_names ++ (p, length r.books) ∷ [] }))
bucket_added r p book none = record {
  new = not_lt_itself (length r.books);
  there = ap (λ n. nat_lt (length r.books) n) (length_last r.books book) ∙ lt_next (length r.books);
  others_there = λ i other. ap (λ n. nat_lt i n) (length_last r.books book) ∙ lt_more i (length r.books) other;
  cost = λ kind. ap (λ o. option_map_or (cost_of kind) o 0) (slice_get-last r.books book);
  other_costs = λ i kind other. ap (λ o. option_map_or (cost_of kind) o 0) (slice_get-before r.books book i other);
  reward = ap (λ o. option_map_or (λ b. b.reward) o 0) (slice_get-last r.books book);
  other_rewards = λ i other. ap (λ o. option_map_or (λ b. b.reward) o 0) (slice_get-before r.books book i other);
  books = refl;
  named = lookup-new (same_partition p) p (length r.books) r.bucket_names none (same_refl p);
  other_names = λ q other. lookup-other (same_partition q) p (length r.books) r.bucket_names other;
  limiter_of = λ q. refl;
  entries = refl;
  limiters = refl;
}

-- a default partition without a bucket gets a new one
pub bucket_answered : {L : Type 0} → (r s : Registers L) (p : RetryPartition) (spec : Option RetrySpec) (number : ℕ) (books : List Book) (names : List (RetryPartition × ℕ))
    → r ≡ s → p.custom ≡ None → lookup (same_partition p) r.bucket_names ≡ None → number ≡ length r.books
    → books ≡ r.books ++ default_book spec ∷ [] → names ≡ r.bucket_names ++ (p, number) ∷ []
    → AnswersBucket (meaning_of s) p spec number (meaning_of (record r { books = books; bucket_names = names }))
bucket_answered {L} r s p spec number books names same default none is_next added named =
    let book : Book = default_book spec in
    let next : AddsBucket (meaning_of r) p book number (meaning_of (record r { books = r.books ++ book ∷ []; bucket_names = r.bucket_names ++ (p, number) ∷ [] })) =
    subst (λ n. AddsBucket (meaning_of r) p book n (meaning_of (record r { books = r.books ++ book ∷ []; bucket_names = r.bucket_names ++ (p, n) ∷ [] })))
    (sym is_next) (bucket_added r p book none) in
    let with_books : AddsBucket (meaning_of r) p book number (meaning_of (record r { books = books; bucket_names = r.bucket_names ++ (p, number) ∷ [] })) =
    subst (λ (bs : List Book). AddsBucket (meaning_of r) p book number (meaning_of (record r { books = bs; bucket_names = r.bucket_names ++ (p, number) ∷ [] }))) (sym added) next in
    let with_names : AddsBucket (meaning_of r) p book number (meaning_of (record r { books = books; bucket_names = names })) =
    subst (λ (ns : List (RetryPartition × ℕ)). AddsBucket (meaning_of r) p book number (meaning_of (record r { books = books; bucket_names = ns }))) (sym named) with_books in
    let after : Meaning L = meaning_of (record r { books = books; bucket_names = names }) in
    let unknown : MatchOption (lookup (same_partition p) r.bucket_names) (AddsBucket (meaning_of r) p book number after) (λ known. (number ≡ known) × IsKept (meaning_of r) after) =
    subst (λ o. MatchOption o (AddsBucket (meaning_of r) p book number after) (λ known. (number ≡ known) × IsKept (meaning_of r) after)) (sym none) with_names in
    let answered : AnswersBucket (meaning_of r) p spec number after =
    subst (λ o. MatchOption o (MatchOption (lookup (same_partition p) r.bucket_names) (AddsBucket (meaning_of r) p book number after) (λ known. (number ≡ known) × IsKept (meaning_of r) after))
    (λ numbers. (number ≡ numbers.bucket) × IsKept (meaning_of r) after)) (sym default) unknown in
    subst (λ (t : Registers L). AnswersBucket (meaning_of t) p spec number after) same answered

-- a number that is kept under a partition is below the count
known_below : (count : ℕ) (names : List (RetryPartition × ℕ)) (p : RetryPartition) (number : ℕ)
    → AreBelow count names → lookup (same_partition p) names ≡ Some number → number < count
known_below count names p number below known =
    subst (λ o. IfSome o (λ n. n < count)) known (All-lookup (λ n. n < count) (same_partition p) names below)

-- what holds anyway holds where there is nothing
if_none : {X : Type 0} (P : Type 0) → (o : Option X) → P → IfNone o P
if_none P None holds = holds
if_none P (Some x) holds = tt

-- a bucket whose number is kept is there
pub bucket_there : {L : Type 0} → (r s : Registers L) (p : RetryPartition) (number : ℕ)
    → r ≡ s → AreBelow (length r.books) r.bucket_names → lookup (same_partition p) r.bucket_names ≡ Some number
    → BucketIsThere (meaning_of s) p number
bucket_there {L} r s p number same below known =
    let within : number < length r.books = known_below (length r.books) r.bucket_names p number below known in
    subst (λ (t : Registers L). BucketIsThere (meaning_of t) p number) same
    (if_none (IsTrue (nat_lt number (length r.books))) p.custom (lt-ltb number (length r.books) within))

-- a limiter whose number is kept is there
pub limiter_there : {L : Type 0} → (r s : Registers L) (p : RetryPartition) (number : ℕ)
    → r ≡ s → AreBelow (length r.limiters) r.limiter_names → lookup (same_partition p) r.limiter_names ≡ Some number
    → LimiterIsThere (meaning_of s) p number
limiter_there {L} r s p number same below known =
    let within : number < length r.limiters = known_below (length r.limiters) r.limiter_names p number below known in
    subst (λ (t : Registers L). LimiterIsThere (meaning_of t) p number) same
    (if_none (number < length r.limiters) p.custom within)

-- a default partition with a bucket has that one
pub bucket_known : {L : Type 0} → (r s : Registers L) (p : RetryPartition) (spec : Option RetrySpec) (number : ℕ)
    → r ≡ s → p.custom ≡ None → lookup (same_partition p) r.bucket_names ≡ Some number
    → AnswersBucket (meaning_of s) p spec number (meaning_of s)
bucket_known {L} r s p spec number same default known =
    let found : MatchOption (lookup (same_partition p) r.bucket_names) (AddsBucket (meaning_of r) p (default_book spec) number (meaning_of r)) (λ other. (number ≡ other) × IsKept (meaning_of r) (meaning_of r)) =
    subst (λ o. MatchOption o (AddsBucket (meaning_of r) p (default_book spec) number (meaning_of r)) (λ other. (number ≡ other) × IsKept (meaning_of r) (meaning_of r))) (sym known) (refl, kept r) in
    let answered : AnswersBucket (meaning_of r) p spec number (meaning_of r) =
    subst (λ o. MatchOption o (MatchOption (lookup (same_partition p) r.bucket_names) (AddsBucket (meaning_of r) p (default_book spec) number (meaning_of r)) (λ other. (number ≡ other) × IsKept (meaning_of r) (meaning_of r)))
    (λ numbers. (number ≡ numbers.bucket) × IsKept (meaning_of r) (meaning_of r))) (sym default) found in
    subst (λ (t : Registers L). AnswersBucket (meaning_of t) p spec number (meaning_of t)) same answered

at_most_one : {X : Type 0} → (o : Option X) → length (option_to_list o) ≤ 1
at_most_one None = omega arith
at_most_one (Some x) = omega arith

-- where there was one book more than the count, and at most one left
popped_below : (count : ℕ) (names : List (RetryPartition × ℕ)) (books all : List Book) (popped : Option Book)
    → AreBelow count names → all ≡ books ++ option_to_list popped → length all ≡ count + 1 → AreBelow (length books) names
popped_below count names books all popped below parts one_more = λ k d within.
    omega (arith, below k d within, at_most_one popped, ap length parts ∙ length-append books (option_to_list popped), one_more)

-- a new bucket, whose number is kept under no name, may go again
pub new_popped : {L : Type 0} → (asked : Option ℕ) (old added inside : Registers L) (books : List Book) (popped : Option Book)
    → is_some asked ≡ false → IfNone asked (AreBelow (length old.books) old.bucket_names)
    → MatchOption asked (added ≡ record old { books = old.books ++ plain_book 500 ∷ [] }) (λ known. added ≡ old)
    → inside ≡ added → inside.books ≡ books ++ option_to_list popped
    → AreBelow (length books) inside.bucket_names
new_popped (Some known) old added inside books popped none below made same parts = cc
new_popped {L} None old added inside books popped none below made same parts =
    let is : inside ≡ record old { books = old.books ++ plain_book 500 ∷ [] } = same ∙ made in
    let one_more : length inside.books ≡ length old.books + 1 = ap (λ (t : Registers L). length t.books) is ∙ length_last old.books (plain_book 500) in
    subst (λ names. AreBelow (length books) names) (sym (ap (λ (t : Registers L). t.bucket_names) is))
    (popped_below (length old.books) old.bucket_names books inside.books popped below parts one_more)

limiter_added : {L : Type 0} → (r : Registers L) (p : RetryPartition) (limiter : L) → lookup (same_partition p) r.limiter_names ≡ None
    → AddsLimiter (meaning_of r) p limiter (length r.limiters)
    (meaning_of (record r { limiters = r.limiters ++ limiter ∷ []; limiter_names = r.limiter_names ++ (p, length r.limiters) ∷ [] }))
limiter_added r p limiter none = record {
  new = refl;
  limiters = refl;
  named = lookup-new (same_partition p) p (length r.limiters) r.limiter_names none (same_refl p);
  other_names = λ q other. lookup-other (same_partition q) p (length r.limiters) r.limiter_names other;
  bucket_of = λ q. refl;
  has = λ i. refl;
  cost = λ i kind. refl;
  reward = λ i. refl;
  books = refl;
  entries = refl;
}

-- a default partition without a limiter gets a new one
pub limiter_answered : {L : Type 0} → (r s : Registers L) (p : RetryPartition) (limiter : L) (number : ℕ) (limiters : List L) (names : List (RetryPartition × ℕ))
    → r ≡ s → p.custom ≡ None → lookup (same_partition p) r.limiter_names ≡ None → number ≡ length r.limiters
    → limiters ≡ r.limiters ++ limiter ∷ [] → names ≡ r.limiter_names ++ (p, number) ∷ []
    → AnswersLimiter (meaning_of s) p limiter number (meaning_of (record r { limiters = limiters; limiter_names = names }))
limiter_answered {L} r s p limiter number limiters names same default none is_next added named =
    let next : AddsLimiter (meaning_of r) p limiter number (meaning_of (record r { limiters = r.limiters ++ limiter ∷ []; limiter_names = r.limiter_names ++ (p, number) ∷ [] })) =
    subst (λ n. AddsLimiter (meaning_of r) p limiter n (meaning_of (record r { limiters = r.limiters ++ limiter ∷ []; limiter_names = r.limiter_names ++ (p, n) ∷ [] })))
    (sym is_next) (limiter_added r p limiter none) in
    let with_limiters : AddsLimiter (meaning_of r) p limiter number (meaning_of (record r { limiters = limiters; limiter_names = r.limiter_names ++ (p, number) ∷ [] })) =
    subst (λ (ls : List L). AddsLimiter (meaning_of r) p limiter number (meaning_of (record r { limiters = ls; limiter_names = r.limiter_names ++ (p, number) ∷ [] }))) (sym added) next in
    let with_names : AddsLimiter (meaning_of r) p limiter number (meaning_of (record r { limiters = limiters; limiter_names = names })) =
    subst (λ (ns : List (RetryPartition × ℕ)). AddsLimiter (meaning_of r) p limiter number (meaning_of (record r { limiters = limiters; limiter_names = ns }))) (sym named) with_limiters in
    let after : Meaning L = meaning_of (record r { limiters = limiters; limiter_names = names }) in
    let unknown : MatchOption (lookup (same_partition p) r.limiter_names) (AddsLimiter (meaning_of r) p limiter number after) (λ known. (number ≡ known) × IsKept (meaning_of r) after) =
    subst (λ o. MatchOption o (AddsLimiter (meaning_of r) p limiter number after) (λ known. (number ≡ known) × IsKept (meaning_of r) after)) (sym none) with_names in
    let answered : AnswersLimiter (meaning_of r) p limiter number after =
    subst (λ o. MatchOption o (MatchOption (lookup (same_partition p) r.limiter_names) (AddsLimiter (meaning_of r) p limiter number after) (λ known. (number ≡ known) × IsKept (meaning_of r) after))
    (λ numbers. (number ≡ numbers.limiter) × IsKept (meaning_of r) after)) (sym default) unknown in
    subst (λ (t : Registers L). AnswersLimiter (meaning_of t) p limiter number after) same answered

-- a default partition with a limiter has that one
pub limiter_known : {L : Type 0} → (r s : Registers L) (p : RetryPartition) (limiter : L) (number : ℕ)
    → r ≡ s → p.custom ≡ None → lookup (same_partition p) r.limiter_names ≡ Some number
    → AnswersLimiter (meaning_of s) p limiter number (meaning_of s)
limiter_known {L} r s p limiter number same default known =
    let found : MatchOption (lookup (same_partition p) r.limiter_names) (AddsLimiter (meaning_of r) p limiter number (meaning_of r)) (λ other. (number ≡ other) × IsKept (meaning_of r) (meaning_of r)) =
    subst (λ o. MatchOption o (AddsLimiter (meaning_of r) p limiter number (meaning_of r)) (λ other. (number ≡ other) × IsKept (meaning_of r) (meaning_of r))) (sym known) (refl, kept r) in
    let answered : AnswersLimiter (meaning_of r) p limiter number (meaning_of r) =
    subst (λ o. MatchOption o (MatchOption (lookup (same_partition p) r.limiter_names) (AddsLimiter (meaning_of r) p limiter number (meaning_of r)) (λ other. (number ≡ other) × IsKept (meaning_of r) (meaning_of r)))
    (λ numbers. (number ≡ numbers.limiter) × IsKept (meaning_of r) (meaning_of r))) (sym default) found in
    subst (λ (t : Registers L). AnswersLimiter (meaning_of t) p limiter number (meaning_of t)) same answered
