-- The lines of a source.
use Rattle.std.specs.Prelude.{◌≡◌, ℕ, ◌<◌, ◌≤◌, false, ◌==◌, List, [], ◌∷◌, ◌++◌, length, Option, Some, None}
use Rattle.std.specs.Io.KnownBytes.{Consumes, IsAtEnd}
use Rattle.std.specs.List.{list_any}
use Rattle.cli_shell.specs.Source.{SourceView, Rose}
use Rattle.cli_shell.specs.Streams.{Took}
use Rattle.cli_shell.specs.declared.status.ShellStatus.{ShellStatus}
use Rattle.cli_shell.specs.declared.status.ShellStatus.TheVariants as shells

-- none of these bytes is a line feed
abbrev pub HasNoFeed : List ℕ → Type 0
HasNoFeed bytes = list_any (λ b. b == 10) bytes ≡ false

-- The bytes up to the first line feed, where there is one, are added to the front, and these stand behind it.
unfoldable pub Splits : List ℕ → List ℕ → Option (List ℕ) → List ℕ → Type 0
Splits bytes front None new = HasNoFeed bytes × (new ≡ front ++ bytes)
Splits bytes front (Some behind) new =
    (more : List ℕ) × HasNoFeed more × (bytes ≡ more ++ 10 ∷ behind) × (new ≡ front ++ more)

-- These bytes and what came behind them are read on to the first line feed, where there is one: the front grows by what
-- stands before it, and these stand behind it. Without one the source is at its end, and there are at most 16 MiB.
unfoldable pub ReadsFrom : List ℕ → SourceView → List ℕ → Option (List ℕ) → List ℕ → SourceView → Type 0
ReadsFrom unread before front None new after =
    (came : List ℕ) × Consumes before.left after.left came × Splits (unread ++ came) front None new × IsAtEnd after.left
    × (length new ≤ 16777216)
ReadsFrom unread before front (Some behind) new after =
    (came : List ℕ) × Consumes before.left after.left came × Splits (unread ++ came) front (Some behind) new

-- the same of what came alone
abbrev pub ReadsOn : SourceView → List ℕ → Option (List ℕ) → List ℕ → SourceView → Type 0
ReadsOn before front behind new after = ReadsFrom [] before front behind new after

-- A piece came without a line feed.
unfoldable pub Grows : SourceView → List ℕ → List ℕ → SourceView → Type 0
Grows before front new after = (came : List ℕ) × Consumes before.left after.left came × Splits came front None new

-- Of what was unread and of what came, the next line is taken, without its line feed, and this is left.
pub record TakesLine (unread : List ℕ) (before : SourceView) (line left : List ℕ) (after : SourceView) : Type 0 where
  pub came : List ℕ
  pub taken : Consumes before.left after.left came
  pub begins : unread ++ came ≡ line ++ 10 ∷ left
  pub whole : HasNoFeed line
  pub bound : length line ≤ 16777216

-- The source is at its end, and no line feed is left in at most 16 MiB.
pub record EndsUnread (unread : List ℕ) (before after : SourceView) : Type 0 where
  pub came : List ℕ
  pub taken : Consumes before.left after.left came
  pub at_end : IsAtEnd after.left
  pub no_line : HasNoFeed (unread ++ came)
  pub bound : length (unread ++ came) ≤ 16777216

-- a line, or none
abbrev pub TakesNext : List ℕ → SourceView → Option (List ℕ) → List ℕ → SourceView → Type 0
TakesNext unread before None left after = EndsUnread unread before after
TakesNext unread before (Some line) left after = TakesLine unread before line left after

-- these bytes begin with more than 16 MiB without a line feed
pub record BeginsLong (bytes : List ℕ) : Type 0 where
  pub front : List ℕ
  pub rest : List ℕ
  pub parts : bytes ≡ front ++ rest
  pub whole : HasNoFeed front
  pub bound : 16777216 < length front

-- The next line can't be taken of what was unread and of what came, and this is why. A front of the source was taken.
unfoldable pub LosesLine : List ℕ → ShellStatus → SourceView → SourceView → Type 0
LosesLine unread shells.ReadFault before after = Took before after × Rose before.faults after.faults
LosesLine unread shells.LongInput before after =
    (came : List ℕ) × Consumes before.left after.left came × BeginsLong (unread ++ came)
LosesLine unread shells.OutOfMemory before after = Took before after
LosesLine unread shells.BadWords before after = ⊥
LosesLine unread shells.WriteFault before after = ⊥

-- the same where these bytes stand before what was unread, and all of them are of the line
unfoldable pub LosesFrom : List ℕ → List ℕ → ShellStatus → SourceView → SourceView → Type 0
LosesFrom unread front shells.ReadFault before after = Took before after × Rose before.faults after.faults
LosesFrom unread front shells.LongInput before after =
    (came : List ℕ) × Consumes before.left after.left came × HasNoFeed (unread ++ came)
    × (16777216 < length (front ++ (unread ++ came)))
LosesFrom unread front shells.OutOfMemory before after = Took before after
LosesFrom unread front shells.BadWords before after = ⊥
LosesFrom unread front shells.WriteFault before after = ⊥
