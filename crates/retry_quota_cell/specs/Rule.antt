-- The rule of the cell: there is one legal history, whose beginnings the passes have seen,
-- and in which each call is of one pass.
use Rattle.std.specs.Prelude.{◌≡◌, ◌≢◌, ℕ, ◌+◌, ◌-◌, ◌≤◌, ◌==◌, ◌⊎◌, nat_lt, nat_le, if◌then◌else◌, List, [], ◌∷◌, ◌++◌}
use Rattle.std.specs.Prelude.{length, slice_index}
use mathlib.Core.Option.{some}
use mathlib.Core.List.{IsPrefix}
use lib.ListN.{get_elem?}
use Rattle.retry_quota_cell.specs.View.{Opening, Fresh, Live, Spent, View}
use Rattle.retry_quota.specs.declared.state.BucketTerms.{BucketTerms}
use Rattle.retry_quota.specs.declared.state.BucketState.{BucketState}
use Rattle.retry_quota.specs.Book.{Book, IsSound, book_from, plain_book, terms_in}
use Rattle.retry_quota.specs.History.{Step, Reply, Entry, after, reply_to, IsLegal, end_of}

-- stands for an opening where there is none
abbrev pub no_opening : Opening
no_opening = record { book = plain_book 0; callers = 0 }

-- the view that a new cell's pass has before it opens the cell
abbrev pub newcomer : View
newcomer = record { stage = Fresh; opening = no_opening; seen = []; olds = []; places = []; parts = 0 }

-- a view that knows nothing any more
abbrev pub spent : View
spent = record { stage = Spent; opening = no_opening; seen = []; olds = []; places = []; parts = 0 }

-- the view of the pass that opened the cell
abbrev pub opened : Opening → View
opened o = record { stage = Live; opening = o; seen = []; olds = []; places = []; parts = o.callers }

-- a second view that has seen as much
abbrev pub told : View → View
told v = record { stage = v.stage; opening = v.opening; seen = v.seen; olds = []; places = []; parts = 0 }

-- of two histories the one that shows more
abbrev pub longer : List Entry → List Entry → List Entry
longer xs ys = if nat_le (length ys) (length xs) then xs else ys

-- two views in one
abbrev pub united : View → View → View
united v w = record {
  stage = v.stage;
  opening = v.opening;
  seen = longer v.seen w.seen;
  olds = v.seen ∷ w.seen ∷ v.olds ++ w.olds;
  places = v.places ++ w.places;
  parts = v.parts + w.parts;
}

-- the view once it has seen this history
abbrev pub looked : View → List Entry → View
looked v log = record {
  stage = v.stage;
  opening = v.opening;
  seen = log;
  olds = v.olds;
  places = v.places;
  parts = v.parts;
}

-- the view once it has seen this history, of which this place is its own
abbrev pub entered : View → List Entry → ℕ → View
entered v log place = record {
  stage = v.stage;
  opening = v.opening;
  seen = log;
  olds = v.olds;
  places = v.places ++ place ∷ [];
  parts = v.parts;
}

-- the view with so many parts, and else as it was
abbrev pub with_parts : View → ℕ → View
with_parts v n = record {
  stage = v.stage;
  opening = v.opening;
  seen = v.seen;
  olds = v.olds;
  places = v.places;
  parts = n;
}

-- a step with its reply, as a history has it
abbrev pub entry : Step → Reply → Entry
entry step reply = record { step = step; reply = reply }

-- the words: the book's changing numbers, the count of calls and the pool of parts
abbrev pub words_of : Book → ℕ → ℕ → List ℕ
words_of b count pool =
    b.granted ∷ b.available ∷ b.held ∷ b.forgotten ∷ b.fraction ∷ b.last_second ∷ count ∷ pool ∷ []

-- the words with another pool
abbrev pub with_pool : List ℕ → ℕ → List ℕ
with_pool words pool =
    slice_index words 0 ∷ slice_index words 1 ∷ slice_index words 2 ∷ slice_index words 3 ∷ slice_index words 4
    ∷ slice_index words 5 ∷ slice_index words 6 ∷ pool ∷ []

-- the changing numbers that the words have
abbrev pub state_of : List ℕ → BucketState
state_of words = record {
  granted = slice_index words 0;
  available = slice_index words 1;
  held = slice_index words 2;
  forgotten = slice_index words 3;
  fraction = slice_index words 4;
  last_refill_secs = slice_index words 5;
}

-- the book that the words have under these terms
abbrev pub book_in : BucketTerms → List ℕ → Book
book_in terms words = book_from terms (state_of words)

-- the terms of the bucket that a view is of
abbrev pub terms_at : View → BucketTerms
terms_at v = terms_in v.opening.book

-- the sum of a number over all views
abbrev pub total : (View → ℕ) → List View → ℕ
total f [] = 0
total f (v ∷ vs) = f v + total f vs

-- how often n stands in the list
abbrev pub times : ℕ → List ℕ → ℕ
times n [] = 0
times n (x ∷ xs) = (if x == n then 1 else 0) + times n xs

-- once for a number below the count, and not at all for another
abbrev pub below : ℕ → ℕ → ℕ
below n count = if nat_lt n count then 1 else 0

-- the places are all numbers below the length of the history, each once
abbrev pub AreAll : List ℕ → List Entry → Type 0
AreAll places log = (n : ℕ) → times n places ≡ below n (length log)

-- the history begins with each of these
abbrev pub AreBegun : List (List Entry) → List Entry → Type 0
AreBegun [] log = Unit {0}
AreBegun (old ∷ olds) log = IsPrefix old log × AreBegun olds log

-- what the rule says of one view
pub record Fits (o : Opening) (log : List Entry) (v : View) : Type 0 where
  pub in_use : v.stage ≢ Fresh
  pub opening : v.stage ≡ Live → v.opening ≡ o
  pub seen : IsPrefix v.seen log
  pub olds : AreBegun v.olds log
  pub idle : v.parts ≡ 0 → v.places ≡ []

-- the rule of an opened cell
pub record Opened (words : List ℕ) (views : List View) : Type 0 where
  pub opening : Opening
  pub log : List Entry
  pub pool : ℕ
  pub legal : IsLegal opening.book log
  pub sound : IsSound (end_of opening.book log)
  pub words_are : words ≡ words_of (end_of opening.book log) (length log) pool
  pub each : (by : ℕ) (v : View) → get_elem? views by ≡ some v → Fits opening log v
  pub placed : (n : ℕ) → total (λ v. times n v.places) views ≡ below n (length log)
  pub shared : pool + total (λ v. v.parts) views ≡ opening.callers

-- what always holds of the cell: it is new, or it was opened and the rule holds
abbrev pub Kept : List ℕ → List View → Type 0
Kept words views = (views ≡ newcomer ∷ []) ⊎ Opened words views

-- the pass opens the cell
abbrev pub Begins : Opening → View → List ℕ → List ℕ → View → Type 0
Begins o v before after w = w ≡ opened o

-- the pass has seen the history so far, which leaves these words
pub record Looks (v : View) (words : List ℕ) (w : View) : Type 0 where
  pub same : w ≡ looked v w.seen
  pub grown : IsPrefix v.seen w.seen
  pub olds : AreBegun v.olds w.seen
  pub legal : IsLegal v.opening.book w.seen
  pub sound : IsSound (end_of v.opening.book w.seen)
  pub words_are : (pool : ℕ) × (words ≡ words_of (end_of v.opening.book w.seen) (length w.seen) pool)
  pub whole : v.parts ≡ v.opening.callers → AreAll v.places w.seen

-- a load of the words is a look: the pass has seen the history so far
abbrev pub Loaded : View → List ℕ → List ℕ → View → Type 0
Loaded v before after w = Looks v before w

-- the pass made this call after all that it and those that it joined had seen,
-- and the reply is the one of the book there
pub record Adds (step : Step) (v : View) (reply : Reply) (w : View) : Type 0 where
  pub before : List Entry
  pub grown : IsPrefix v.seen before
  pub olds : AreBegun v.olds before
  pub same : w ≡ entered v (before ++ entry step reply ∷ []) (length before)
  pub reply_is : reply ≡ reply_to step (end_of v.opening.book before)
  pub legal : IsLegal v.opening.book (before ++ entry step reply ∷ [])

-- an exchange: nothing was written, and the history so far was seen, or the call was made
abbrev pub Made : Step → View → List ℕ → List ℕ → View → Type 0
Made step v before after w =
    ((after ≡ before) × Looks v before w)
    ⊎ ((slice_index after 6 ≡ slice_index before 6 + 1) × Adds step v (reply_to step (book_in (terms_at v) before)) w)

-- a part of the pass goes into the pool, or nothing was written
abbrev pub PutsOut : View → List ℕ → List ℕ → View → Type 0
PutsOut v before after w =
    ((after ≡ before) × (w ≡ v)) ⊎ ((slice_index after 7 ≡ slice_index before 7 + 1) × (w ≡ with_parts v (v.parts - 1)))

-- a part comes from the pool to the pass, or nothing was written
abbrev pub TakesIn : View → List ℕ → List ℕ → View → Type 0
TakesIn v before after w =
    ((after ≡ before) × (w ≡ v)) ⊎ ((slice_index after 7 + 1 ≡ slice_index before 7) × (w ≡ with_parts v (v.parts + 1)))

-- the pass learns only that its parts are no more than there are callers
abbrev pub Counted : View → List ℕ → List ℕ → View → Type 0
Counted v before after w = (w ≡ v) × (v.parts ≤ v.opening.callers)
