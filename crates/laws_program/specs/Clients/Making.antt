-- What `make` says is determined.
use Rattle.std.specs.Prelude.{◌≡◌, ℕ}
use Rattle.cli_shell.specs.Said.{Said}
use Rattle.cli_client.specs.Client.{make_says}

-- of one count and one seed it says one thing
abbrev pub MakesOneThing : Type 0
MakesOneThing =
    (count seed : ℕ) (first second : Said) → make_says count seed first → make_says count seed second → first ≡ second
