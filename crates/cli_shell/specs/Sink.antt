-- What a sink tells, and what a write does to it.
use Rattle.std.specs.Prelude.{ℕ, ◌≡◌, ◌<◌, ◌≤◌, ◌⊎◌, ◌++◌, Bool, true, List, [], Option, take, length}
use Rattle.std.specs.Io.KnownBytes.{Appends}
use Rattle.cli_shell.specs.Source.{Rose}
use Rattle.cli_shell.specs.declared.sink.Wrote.{Wrote}
use Rattle.cli_shell.specs.declared.sink.Wrote.TheVariants as wrotes

-- what is known of a sink
pub record SinkView : Type 0 where
  -- the bytes that were written, where they are told
  pub written : Option (List ℕ)
  -- bytes were taken that it doesn't hold
  pub is_lost : Bool
  -- how often the sink has failed
  pub faults : ℕ

-- These bytes stand behind the earlier ones, where those were told and nothing is lost. What is lost stays lost.
abbrev pub Adds : SinkView → List ℕ → SinkView → Type 0
Adds before bytes after =
    (before.is_lost ≡ true → after.is_lost ≡ true)
    × ((after.is_lost ≡ true) ⊎ Appends before.written after.written bytes)

-- between one byte and the whole piece is taken; at a failure nothing is, and the count rises
abbrev pub Writes : SinkView → Wrote → List ℕ → SinkView → Type 0
Writes before (wrotes.Took n) piece after =
    (1 ≤ n) × (n ≤ length piece) × Adds before (take n piece) after × (before.faults ≤ after.faults)
Writes before wrotes.Failed piece after =
    Adds before [] after × (before.faults ≤ after.faults) × Rose before.faults after.faults

-- A front of the text was written, and some of it wasn't.
abbrev pub AddsFront : SinkView → List ℕ → SinkView → Type 0
AddsFront before text after =
    (front : List ℕ) × (rest : List ℕ) × (text ≡ front ++ rest) × (0 < length rest) × Adds before front after
