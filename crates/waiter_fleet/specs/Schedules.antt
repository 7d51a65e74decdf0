-- What a schedule gives and takes.
use Rattle.std.specs.Prelude.{◌≡◌, ◌≢◌, ℕ, ◌+◌, ◌<◌, ◌≤◌, ◌==◌, ◌⊎◌, Bool, List, [], ◌∷◌, length, map}
use Rattle.std.specs.BinaryHeap.{IsHeap}
use Rattle.std.specs.List.{IsDistinct}
use Rattle.std.specs.Ordering.{nat_cmp, ordering_then}
use Rattle.std.specs.declared.cmp.Ordering.{Ordering}
use Rattle.std.specs.declared.cmp.Reverse.{Reverse}
use Rattle.waiter_fleet.specs.declared.schedule.Due.{Due}

-- the first is due earlier, or at the same moment and has the lower number
abbrev pub IsEarlier : Due → Due → Type 0
IsEarlier one other = (one.moment < other.moment) ⊎ ((one.moment ≡ other.moment) × (one.waiter < other.waiter))

-- this is among them
abbrev pub Has : List Due → Due → Type 0
Has [] due = ⊥
Has (one ∷ dues) due = (due ≡ one) ⊎ Has dues due

-- none of them is of this waiter
abbrev pub NoneIsOf : ℕ → List Due → Type 0
NoneIsOf waiter dues = (one : Due) → Has dues one → one.waiter ≢ waiter

-- what is due first was taken, and nothing else changed
pub record Takes (old new : List Due) (due : Due) : Type 0 where
  pub there : Has old due
  pub kept : (other : Due) → Has new other → Has old other
  pub none_else : (other : Due) → Has old other → (other ≡ due) ⊎ Has new other
  pub first : (other : Due) → Has new other → IsEarlier due other
  pub bound : length new + 1 ≡ length old

-- this was put in, and nothing else changed
pub record Adds (old : List Due) (due : Due) (new : List Due) : Type 0 where
  pub there : Has new due
  pub kept : (other : Due) → Has old other → Has new other
  pub none_else : (other : Due) → Has new other → (other ≡ due) ⊎ Has old other
  pub bound : length new ≤ length old + 1

-- the order of due moments, as it is derived
abbrev pub due_cmp : Due → Due → Ordering
due_cmp one other = ordering_then (nat_cmp one.moment other.moment) (nat_cmp one.waiter other.waiter)

-- the order of a heap, which gives first what is least
abbrev pub heap_cmp : Reverse Due → Reverse Due → Ordering
heap_cmp one other = due_cmp other.0 one.0

-- what is due, in the order in which a heap stores it
abbrev pub dues_of : List (Reverse Due) → List Due
dues_of items = map (λ one. one.0) items

-- both are of one waiter
abbrev pub is_same_waiter : Reverse Due → Reverse Due → Bool
is_same_waiter one other = one.0.waiter == other.0.waiter

-- a heap in which no waiter is due twice
pub record IsQueue (items : List (Reverse Due)) : Type 0 where
  pub ordered : IsHeap heap_cmp items
  pub apart : IsDistinct is_same_waiter items
