-- The print of callers, and of the bucket that they leave.
use Rattle.std.specs.Prelude.{◌≡◌, ℕ, ◌+◌, List, [], ◌∷◌, ◌++◌, map, Option, None, Ok, Err, unwrap_or, codes}
use Rattle.std.specs.List.{AllByRecursion}
use Rattle.cli_client_runs.specs.Print.{bucket_data}
use Rattle.json_forms.specs.Prints.{row, num}
use Rattle.json_print.specs.Print.{line}
use Rattle.serde_json.specs.Data.{Data, string}
use Rattle.cli_shell.specs.declared.status.PrintStatus.{PrintStatus}
use Rattle.cli_shell.specs.declared.status.PrintStatus.TheVariants as outcomes
use Rattle.smithy_types.specs.declared.sums.Sums.{Sums}
use Rattle.cli_fleet.specs.declared.caller.CallerState.{CallerState}
use Rattle.cli_fleet.specs.declared.caller.CallerState.TheVariants.{Ready, Ended}

-- the line before a caller: its number
unfoldable pub caller_data : ℕ → Data
caller_data number = row (string (codes "caller") ∷ num number ∷ [])

-- how many steps the bucket made
unfoldable pub history_data : ℕ → Data
history_data length = row (string (codes "history") ∷ num length ∷ [])

-- the callers' lines, numbered from here on, each before its invocations
unfoldable pub callers_text : ℕ → List (List ℕ) → List ℕ
callers_text number [] = []
callers_text number (t ∷ ts) = line (caller_data number) ++ t ++ callers_text (number + 1) ts

-- what the bucket is left with, and how many steps it made
abbrev pub left_text : Sums → ℕ → List ℕ
left_text sums length = line (bucket_data 0 sums) ++ line (history_data length)

-- what the last invocation of the last caller that has one came to; without one nothing failed
abbrev pub latest : PrintStatus → List (Option PrintStatus) → PrintStatus
latest before [] = before
latest before (o ∷ os) = latest (unwrap_or o before) os

-- ---- what is told of a caller

-- its work is over, whether memory ran out or not
abbrev pub IsEnded : CallerState → Type 0
IsEnded (Ended told end) = Unit {0}
IsEnded (Ready work) = ⊥

-- it ended, and memory didn't run out
abbrev pub IsTold : CallerState → Type 0
IsTold (Ended (Ok told) end) = Unit {0}
IsTold (Ended (Err error) end) = ⊥
IsTold (Ready work) = ⊥

-- the print of its invocations
abbrev pub text_in : CallerState → List ℕ
text_in (Ended (Ok told) end) = told.text.items
text_in (Ended (Err error) end) = []
text_in (Ready work) = []

-- what the last of them came to, if there is one
abbrev pub outcome_in : CallerState → Option PrintStatus
outcome_in (Ended (Ok told) end) = told.outcome
outcome_in (Ended (Err error) end) = None
outcome_in (Ready work) = None

-- one caller more is printed
pub record TellsOne (number : ℕ) (state : CallerState) (before : PrintStatus) (old new : List ℕ)
    (came : PrintStatus) : Type 0 where
  pub told : IsTold state
  pub printed : new ≡ old ++ line (caller_data number) ++ text_in state
  pub came_is : came ≡ unwrap_or (outcome_in state) before

-- all callers are printed behind what was there
pub record TellsAll (states : List CallerState) (old new : List ℕ) (came : PrintStatus) : Type 0 where
  pub told : AllByRecursion IsTold states
  pub printed : new ≡ old ++ callers_text 0 (map text_in states)
  pub came_is : came ≡ latest outcomes.Ok (map outcome_in states)
