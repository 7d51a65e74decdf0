-- What goes back under the lock after a step is the book that the step leaves.
use Rattle.std.proofs.Common.{◌≡◌, ◌∙◌, ap, sym, ℕ}
use Rattle.retry_quota.specs.declared.state.BucketTerms.{BucketTerms}
use Rattle.retry_quota.specs.Book.{Book, book_from, terms_in, state_in}
use Rattle.retry_quota.specs.History.{Step, after}
use Rattle.retry_quota.proofs.BookLemmas.{terms-after}
use Rattle.retry_quota_locked.specs.Stake.{with_capacity, locked_book}

-- a book with these terms is made of them and of its own state
pub put_back : (t : BucketTerms) (capacity : ℕ) (b : Book) → terms_in b ≡ with_capacity t capacity → locked_book t capacity (state_in b) ≡ b
put_back t capacity b same = ap (λ k. book_from k (state_in b)) (sym same)

-- the terms after a step on the book that lay under the lock
pub still : (t : BucketTerms) (step : Step) (a b : Book) (capacity : ℕ) → terms_in a ≡ with_capacity t capacity → b ≡ after step a → terms_in b ≡ with_capacity t capacity
still t step a b capacity same made = ap terms_in made ∙ terms-after step a ∙ same

-- the book that a step leaves
pub stepped : (step : Step) (found a b left : Book) → a ≡ found → b ≡ after step a → left ≡ b → left ≡ after step found
stepped step found a b left took made put = put ∙ made ∙ ap (after step) took
