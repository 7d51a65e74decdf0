-- What a grant costs, and what the words say, are what the terms of the bucket say.
use Rattle.std.proofs.Common.{◌≡◌, ◌∙◌, ap, sym, ℕ, Bool, true, false, if◌then◌else◌, List, slice_index}
use Rattle.smithy_types.specs.declared.kinds.ErrorKind.{ErrorKind}
use Rattle.retry_quota.specs.declared.state.BucketTerms.{BucketTerms}
use Rattle.retry_quota.specs.Book.{book_from, cost_of, state_in, sums_of}
use Rattle.retry_quota.specs.History.{Reply, Granted, Refused, Done, Level, Seen, Acquire, is_granted, end_of}
use Rattle.retry_quota.proofs.BookLemmas.{cost-terms, terms-end_of}
use Rattle.retry_quota_cell.specs.View.{View}
use Rattle.retry_quota_cell.specs.Rule.{book_in, terms_at, Adds, Looks}
use Rattle.retry_quota_cell.specs.Known.{Sees}

abbrev granted_in : Reply → ℕ
granted_in (Granted n) = n
granted_in Refused = 0
granted_in Done = 0
granted_in (Level full empty) = 0
granted_in (Seen sums) = 0

abbrev is_grant : Reply → Bool
is_grant (Granted n) = true
is_grant Refused = false
is_grant Done = false
is_grant (Level full empty) = false
is_grant (Seen sums) = false

granted_if : (t : Bool) (amount cost : ℕ) → Granted amount ≡ (if t then Granted cost else Refused) → amount ≡ cost
granted_if true amount cost e = ap granted_in e
granted_if false amount cost e = let no : true ≡ false = ap is_grant e in absurd (cc)

-- what was granted is the cost in the bucket that was opened
pub granted_cost : (kind : ErrorKind) (second : ℕ) (v w : View) (amount : ℕ) → Adds (Acquire kind second) v (Granted amount) w → amount ≡ cost_of kind v.opening.book
granted_cost kind second v w amount a =
    let o = v.opening.book in
    let b = end_of o a.before in
    granted_if (is_granted kind second b) amount (cost_of kind b) a.reply_is ∙ cost-terms kind b o (terms-end_of a.before o)

-- a look at the words
pub sees : (v w : View) (terms : BucketTerms) (words : List ℕ) → terms ≡ terms_at v → Looks v words w → Sees v (sums_of (book_in terms words)) (slice_index words 6) w
sees v w terms words same s =
    let b = end_of v.opening.book w.seen in
    let is : book_in terms words ≡ b = ap (book_in terms) s.words_are.1 ∙ ap (λ k. book_from k (state_in b)) (same ∙ sym (terms-end_of w.seen v.opening.book)) in
    record {
      same = s.same;
      grown = s.grown;
      olds = s.olds;
      legal = s.legal;
      sums_are = ap sums_of is;
      count_is = ap (λ l. slice_index l 6) s.words_are.1;
      whole = s.whole;
    }
