-- What whole reads leave.
use Rattle.std.specs.Prelude.{ℕ, ◌≡◌, ◌<◌, ◌≤◌, List, [], ◌++◌, length, IfSome}
use Rattle.std.specs.Io.KnownBytes.{Consumes, IsAtEnd}
use Rattle.cli_shell.specs.Source.{SourceView, Rose}
use Rattle.cli_shell.specs.declared.status.ShellStatus.{ShellStatus}
use Rattle.cli_shell.specs.declared.status.ShellStatus.TheVariants as shells

-- These bytes, at most 16 MiB, were all that was left.
abbrev pub IsRead : SourceView → List ℕ → SourceView → Type 0
IsRead before bytes after = (length bytes ≤ 16777216) × Consumes before.left after.left bytes × IsAtEnd after.left

-- A front of what was left was taken.
abbrev pub Took : SourceView → SourceView → Type 0
Took before after = (front : List ℕ) × Consumes before.left after.left front

-- The input was not read to its end, and this is why; a front of it was taken.
abbrev pub Unread : ShellStatus → SourceView → SourceView → Type 0
Unread shells.ReadFault before after = Took before after × Rose before.faults after.faults
Unread shells.LongInput before after = Took before after × IfSome before.left (λ bytes. 16777216 < length bytes)
Unread shells.OutOfMemory before after = Took before after
Unread shells.BadWords before after = ⊥
Unread shells.WriteFault before after = ⊥

-- A piece was taken, and stands behind the earlier bytes.
abbrev pub Grown : SourceView → List ℕ → SourceView → List ℕ → Type 0
Grown before old after new = (piece : List ℕ) × (new ≡ old ++ piece) × Consumes before.left after.left piece

-- No byte was left.
abbrev pub NoneLeft : SourceView → SourceView → Type 0
NoneLeft before after = Consumes before.left after.left [] × IsAtEnd after.left
