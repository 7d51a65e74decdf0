-- What is said of a line that is no message.
use Rattle.std.specs.Prelude.{◌≡◌, ◌≤◌, ℕ, List, ◌++◌, length, codes}
use Rattle.script_forms.specs.Refusal.{TellsNoMessage}

-- the words, and a place behind them
pub tells_place : (place text : List ℕ) → text ≡ codes "no message" ++ place → length place ≤ 1024 → TellsNoMessage text
tells_place place text is bound = record { place = place; text_is = is; bound = bound }
