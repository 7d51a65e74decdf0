-- What `waiters` says of its input.
use Rattle.std.specs.Prelude.{ℕ, ◌≡◌, true, List, [], length, replicate}
use Rattle.retry_quota.specs.Book.{Book, book_of, sums_of}
use Rattle.cli_shell.specs.Said.{Said}
use Rattle.cli_shell.specs.Scripts.{ScriptMeaning, bytes_say}
use Rattle.cli_shell.specs.declared.status.PrintStatus.{PrintStatus}
use Rattle.cli_waiters.specs.Fleet.Makes.{Does}
use Rattle.cli_waiters.specs.Fleet.Waiters.{first_place, plans_of}
use Rattle.cli_waiters.specs.declared.fleet.scripted_fleet.ScriptedFleet.{ScriptedFleet}
use Rattle.waiter_fleet.specs.Waiting.{WaitsAll}
use Rattle.waiter_fleet.specs.declared.event.FleetEvent.{FleetEvent}
use Rattle.cli_waiters.specs.Script.Script.{IsScript, are_good, is_within}
use Rattle.cli_waiters.specs.declared.script.terms.WaitersScript.{WaitersScript}
use Rattle.cli_waiters.specs.Print.{came_to, fleet_text}

-- the polls and sleeps that had to be asked again
abbrev pub waits_of : ScriptedFleet → ℕ
waits_of world = world.waits

-- the world of a script, of which nothing was asked yet
pub record IsFirst (s : WaitersScript) (world : ScriptedFleet) : Type 0 where
  pub moment : world.moment ≡ s.start
  pub words : world.words ≡ s.words
  pub waiters : world.waiters ≡ s.waiters
  pub places : world.places ≡ replicate (length s.waiters) first_place
  pub sleeps : world.sleeps ≡ []
  pub unready : world.unready ≡ 0
  pub waits : world.waits ≡ 0

-- The text is what happened to the script's waiters, whose polls its bucket paid for, with what the
-- bucket came to; and this is what their ends come to.
pub record IsWaiters (s : WaitersScript) (text : List ℕ) (status : PrintStatus) : Type 0 where
  pub first : ScriptedFleet
  pub is_first : IsFirst s first
  pub last : ScriptedFleet
  pub book : Book
  pub events : List FleetEvent
  pub waits : WaitsAll Does waits_of (record {
    plans = plans_of s.waiters;
    book = book_of s.bucket;
    world = first;
    fuel = s.fuel;
  }) events book last
  pub text_is : text ≡ fleet_text events (sums_of book)
  pub status_is : status ≡ came_to events

-- what the scripts of `waiters` are, and what is printed of each
abbrev pub waiters_means : ScriptMeaning WaitersScript
waiters_means = record {
  is_script = IsScript;
  is_sound = λ s. are_good s.waiters ≡ true;
  fits = is_within;
  is_print = IsWaiters;
}

-- The bytes are a script, of which this is its print or which is past its limits; or they are none.
abbrev pub waiters_says : List ℕ → Said → Type 0
waiters_says = bytes_say waiters_means
