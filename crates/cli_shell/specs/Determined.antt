-- What the bytes determine.
use Rattle.std.specs.Prelude.{ℕ, ◌≡◌, Bool, true, false, List, Some}
use Rattle.cli_shell.specs.Said.{Said}
use Rattle.cli_shell.specs.Shell.{Served}
use Rattle.cli_shell.specs.Sink.{SinkView}
use Rattle.cli_shell.specs.Source.{SourceView}
use Rattle.cli_shell.specs.declared.status.ShellStatus.TheVariants as shells
use Rattle.cli_shell.specs.declared.status.Ended.{Ended}
use Rattle.cli_shell.specs.declared.status.Ended.TheVariants.{Printed, Refused, Shell}

-- To the same bytes it says one thing.
abbrev pub IsFunctional : (List ℕ → Said → Type 0) → Type 0
IsFunctional says = (bytes : List ℕ) (first second : Said) → says bytes first → says bytes second → first ≡ second

-- the statuses that tell what the bytes are; no fault, and no want of memory
abbrev pub is_answer : Ended → Bool
is_answer (Printed outcome) = true
is_answer (Refused refusal) = true
is_answer (Shell shells.LongInput) = true
is_answer (Shell shells.BadWords) = false
is_answer (Shell shells.ReadFault) = false
is_answer (Shell shells.WriteFault) = false
is_answer (Shell shells.OutOfMemory) = false

-- Over the same bytes, faults and want of memory aside, the status is the same,
abbrev pub OneStatus : {K : Type 0} → (K → SinkView) → (List ℕ → Said → Type 0) → Type 0
OneStatus {K} view says =
    (bytes : List ℕ) (first second : Ended) (before after begun later : SourceView) (old new start end : K) →
    before.left ≡ Some bytes → begun.left ≡ Some bytes → is_answer first ≡ true → is_answer second ≡ true →
    Served view says first before after old new → Served view says second begun later start end → first ≡ second

-- and so is what was written behind the same earlier bytes, where the sinks lost nothing.
abbrev pub OneText : {K : Type 0} → (K → SinkView) → (List ℕ → Said → Type 0) → Type 0
OneText {K} view says =
    (bytes written : List ℕ) (first second : Ended) (before after begun later : SourceView) (old new start end : K) →
    before.left ≡ Some bytes → begun.left ≡ Some bytes → is_answer first ≡ true → is_answer second ≡ true →
    (view old).written ≡ Some written → (view start).written ≡ Some written →
    (view new).is_lost ≡ false → (view end).is_lost ≡ false →
    Served view says first before after old new → Served view says second begun later start end →
    (view new).written ≡ (view end).written
