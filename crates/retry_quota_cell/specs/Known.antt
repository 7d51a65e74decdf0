-- What a pass is to its callers, and what each call does to it.
use Rattle.std.specs.Prelude.{◌≡◌, ℕ, ◌<◌, ◌≤◌, List, [], ◌∷◌, length}
use mathlib.Core.List.{IsPrefix}
use Rattle.atomic_table.specs.Seated.{TableId}
use Rattle.retry_quota_cell.specs.View.{Opening, Live, View}
use Rattle.smithy_types.specs.declared.sums.Sums.{Sums}
use Rattle.retry_quota.specs.Book.{Book, sums_of}
use Rattle.retry_quota.specs.History.{IsLegal, end_of}
use Rattle.retry_quota_cell.specs.Rule.{no_opening, looked, AreAll, AreBegun}

-- the cell that a bucket lies in, and what the cell was opened with
pub record Place : Type 0 where
  pub cell : TableId
  pub opening : Opening

-- the cell that a pass is of, and what the pass knows
pub record Known : Type 0 where
  pub cell : TableId
  pub view : View

-- the pass is of this bucket
pub record IsOf (bucket : Place) (pass : Known) : Type 0 where
  pub cell : pass.cell ≡ bucket.cell
  pub opening : pass.view.opening ≡ bucket.opening

-- each place lies in the history that was seen
abbrev pub AreBelow : ℕ → List ℕ → Type 0
AreBelow count [] = Unit {0}
AreBelow count (p ∷ ps) = (p < count) × AreBelow count ps

-- the view of a pass that can make calls
pub record IsWorking (v : View) : Type 0 where
  pub live : v.stage ≡ Live
  pub some_part : 0 < v.parts
  pub few : v.opening.callers ≤ 16
  pub below : AreBelow (length v.seen) v.places

-- the pass has seen more, and is else as it was
abbrev pub Since : View → View → Type 0
Since v w = (w ≡ looked v w.seen) × IsPrefix v.seen w.seen

-- a look: the pass has seen the history so far, with this end and this length
pub record Sees (v : View) (sums : Sums) (count : ℕ) (w : View) : Type 0 where
  pub same : w ≡ looked v w.seen
  pub grown : IsPrefix v.seen w.seen
  pub olds : AreBegun v.olds w.seen
  pub legal : IsLegal v.opening.book w.seen
  pub sums_are : sums ≡ sums_of (end_of v.opening.book w.seen)
  pub count_is : count ≡ length w.seen
  -- a pass with all parts has made, with those that it joined, just the calls of the history
  pub whole : v.parts ≡ v.opening.callers → AreAll v.places w.seen

-- what a bucket opens with
abbrev pub opening_of : Book → ℕ → Opening
opening_of b callers = record { book = b; callers = callers }

-- stands for a bucket where none is named
abbrev pub no_place : Place
no_place = record {
  cell = record { words = 0; slots = 0; views_name = 0; atom = 0; block = 0; offset = 0; slot_names = [] };
  opening = no_opening;
}
