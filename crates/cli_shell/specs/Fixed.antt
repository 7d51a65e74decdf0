-- What commands tell that read nothing.
use Rattle.std.specs.Prelude.{ℕ, ◌≡◌, List}
use Rattle.cli_shell.specs.Said.{Said, prints, refuses}
use Rattle.cli_shell.specs.declared.status.PrintStatus.TheVariants as outcomes
use Rattle.cli_shell.specs.declared.status.Refusal.TheVariants as refusals

-- this text, in full
abbrev pub tells_text : List ℕ → Said → Type 0
tells_text text s = s ≡ prints outcomes.Ok text

-- the command isn't built
abbrev pub tells_unbuilt : Said → Type 0
tells_unbuilt s = s ≡ refuses refusals.NotBuilt
