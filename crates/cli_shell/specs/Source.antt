-- What a source tells, and what a read does to it.
use Rattle.std.specs.Prelude.{ℕ, ◌≡◌, ◌<◌, ◌≤◌, ◌⊎◌, ◌+◌, ◌^◌, List, [], Option, take, length}
use Rattle.std.specs.Io.KnownBytes.{Consumes, IsAtEnd, Keeps}
use Rattle.cli_shell.specs.declared.source.Got.{Got}
use Rattle.cli_shell.specs.declared.source.Got.TheVariants as gots

-- what is known of a source
pub record SourceView : Type 0 where
  -- the bytes that are left, where they are told
  pub left : Option (List ℕ)
  -- how often the source has failed
  pub faults : ℕ

-- The count rose. One that stands at its end can't rise any more, and counts as risen.
abbrev pub Rose : ℕ → ℕ → Type 0
Rose old new = (old < new) ⊎ (new + 1 ≡ 2 ^ 64)

-- between one byte and a full buffer; the end only where none is left;
-- at a failure nothing is taken, and the count rises
abbrev pub Reads : SourceView → Got → List ℕ → SourceView → Type 0
Reads before (gots.Bytes n) buffer after =
    (1 ≤ n) × (n ≤ length buffer) × Consumes before.left after.left (take n buffer) × (before.faults ≤ after.faults)
Reads before gots.End buffer after =
    Consumes before.left after.left [] × IsAtEnd after.left × (before.faults ≤ after.faults)
Reads before gots.Failed buffer after =
    Keeps before.left after.left × (before.faults ≤ after.faults) × Rose before.faults after.faults
