-- What a command says whose input is a script.
use Rattle.std.specs.Prelude.{ℕ, ◌≡◌, Bool, true, false, List}
use Rattle.cli_shell.specs.Said.{Said, prints, refuses}
use Rattle.cli_shell.specs.declared.status.PrintStatus.{PrintStatus}
use Rattle.cli_shell.specs.declared.status.Refusal.TheVariants as refusals

-- What the scripts of a command are, and what is printed of each.
pub record ScriptMeaning (S : Type 0) : Type 1 where
  -- the bytes are the text of this script
  pub is_script : List ℕ → S → Type 0
  -- what holds of each script that is read
  pub is_sound : S → Type 0
  -- whether a script is within its limits
  pub fits : S → Bool
  -- this is printed of a script, and comes to this
  pub is_print : S → List ℕ → PrintStatus → Type 0

-- what is said of a script: its print where it is within its limits
abbrev pub script_says : {S : Type 0} → ScriptMeaning S → S → Said → Type 0
script_says m s (prints status text) = (m.fits s ≡ true) × m.is_print s text status
script_says m s (refuses refusals.TooLarge) = m.fits s ≡ false
script_says m s (refuses refusals.BadScript) = ⊥
script_says m s (refuses refusals.NotBuilt) = ⊥

-- The bytes are a script and this is said of it, or they are none. What is printed is a script as one is read.
abbrev pub bytes_say : {S : Type 0} → ScriptMeaning S → List ℕ → Said → Type 0
bytes_say {S} m bytes (prints status text) =
    (s : S) × m.is_script bytes s × m.is_sound s × script_says m s (prints status text)
bytes_say {S} m bytes (refuses refusals.TooLarge) =
    (s : S) × m.is_script bytes s × script_says m s (refuses refusals.TooLarge)
bytes_say {S} m bytes (refuses refusals.BadScript) = (s : S) → m.is_script bytes s → ⊥
bytes_say {S} m bytes (refuses refusals.NotBuilt) = ⊥
