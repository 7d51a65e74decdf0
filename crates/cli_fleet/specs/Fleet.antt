-- What `fleet` says of its input.
use Rattle.std.specs.Prelude.{ℕ, ◌≡◌, ◌+◌, List, [], ◌∷◌, ◌++◌, map, length, Option}
use Rattle.retry_quota_cell.specs.Fleet.{AreTheirs, Each}
use Rattle.retry_quota_cell.specs.Known.{Place, opening_of}
use Rattle.json_scripts.specs.Fleet.Limits.{fleet_script_fits}
use Rattle.json_scripts.specs.Fleet.Placed.{IsPlaced}
use Rattle.json_scripts.specs.Fleet.Script.{IsFleetScript}
use Rattle.json_scripts.specs.declared.fleet.terms.CallerRecord.{CallerRecord}
use Rattle.json_scripts.specs.declared.fleet.terms.FleetScript.{FleetScript}
use Rattle.retry_quota.specs.Book.{book_of, sums_of}
use Rattle.retry_quota.specs.History.{Entry, end_of}
use Rattle.cli_shell.specs.Said.{Said}
use Rattle.cli_shell.specs.Scripts.{ScriptMeaning, bytes_say}
use Rattle.cli_shell.specs.declared.status.PrintStatus.{PrintStatus}
use Rattle.cli_shell.specs.declared.status.PrintStatus.TheVariants as outcomes
use Rattle.cli_fleet.specs.Print.{callers_text, latest, left_text}
use Rattle.cli_fleet.specs.Working.{Worked}
use Rattle.cli_fleet.specs.declared.work.CallerWork.{CallerWork}

-- what a caller is to do: its invocations over its client, with the script's clock and words
abbrev pub work_of : ℕ → List ℕ → ℕ → CallerRecord → CallerWork
work_of start words number c = record {
  number = number;
  client = c.client;
  invocations = c.invocations;
  start = start;
  words = words;
}

-- the work of these callers, numbered from here on
abbrev pub works_from : ℕ → List ℕ → ℕ → List CallerRecord → List CallerWork
works_from start words number [] = []
works_from start words number (c ∷ cs) = work_of start words number c ∷ works_from start words (number + 1) cs

-- a caller that has done its work: the print of its invocations, what the last one came to, and the steps that it made
pub record Done : Type 0 where
  pub text : List ℕ
  pub outcome : Option PrintStatus
  pub steps : List Entry

-- a caller did this work at the bucket of this place
abbrev pub DoneAt : Place → CallerWork → Done → Type 0
DoneAt place work d = Worked place work d.text d.outcome d.steps

-- Each caller works over an outside, a client and a limiter of its own, and its pass on the one bucket. This has one
-- legal history, the callers' steps, each once and in its caller's order; its end and length are printed behind them.
pub record IsFleetRun (script : FleetScript) (text : List ℕ) (outcome : PrintStatus) : Type 0 where
  pub place : Place
  pub opened : place.opening ≡ opening_of (book_of script.bucket) (length script.callers)
  pub done : List Done
  pub each : Each (DoneAt place) (works_from script.start script.words 0 script.callers) done
  pub history : List Entry
  pub theirs : AreTheirs place.opening (map (λ (d : Done). d.steps) done) history
  pub text_is : text
      ≡ callers_text 0 (map (λ (d : Done). d.text) done)
      ++ left_text (sums_of (end_of (book_of script.bucket) history)) (length history)
  pub came : outcome ≡ latest outcomes.Ok (map (λ (d : Done). d.outcome) done)

-- what the scripts of `fleet` are, and what is printed of each
abbrev pub fleet_means : ScriptMeaning FleetScript
fleet_means = record {
  is_script = IsFleetScript;
  is_sound = IsPlaced;
  fits = fleet_script_fits;
  is_print = IsFleetRun;
}

-- The bytes are a script, of which this is its print or which is past its limits; or they are none.
abbrev pub fleet_says : List ℕ → Said → Type 0
fleet_says = bytes_say fleet_means
