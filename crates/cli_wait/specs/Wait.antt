-- What `wait` says of its input.
use Rattle.std.specs.Prelude.{ℕ, ◌≡◌, List, [], None}
use Rattle.cli_shell.specs.Said.{Said}
use Rattle.cli_shell.specs.Scripts.{ScriptMeaning, bytes_say}
use Rattle.cli_shell.specs.declared.status.PrintStatus.{PrintStatus}
use Rattle.cli_wait.specs.declared.scripted_timers.ScriptedTimers.{ScriptedTimers}
use Rattle.cli_wait.specs.Script.{IsBuildable, IsScript, is_within}
use Rattle.cli_wait.specs.declared.script.WaitScript.{WaitScript}
use Rattle.cli_wait.specs.Endings.{came_to}
use Rattle.cli_wait.specs.Print.{wait_text}
use Rattle.cli_wait.specs.Walk.{EndsBy}
use Rattle.cli_wait.specs.declared.ending.WaitEnding.{WaitEnding}

-- the timers of a script, of which nothing was asked yet
pub record AreFirst (s : WaitScript) (timers : ScriptedTimers) : Type 0 where
  pub moment : timers.moment ≡ s.start
  pub words : timers.words ≡ s.words
  pub polls : timers.polls ≡ s.polls
  pub poll_due : timers.poll_due ≡ None
  pub sleeps : timers.sleeps ≡ []
  pub notes : timers.notes ≡ []
  pub unready : timers.unready ≡ 0

-- The text is what was noted of the script's waiter and its ending, and this is what the ending comes to.
pub record IsWait (s : WaitScript) (text : List ℕ) (status : PrintStatus) : Type 0 where
  pub first : ScriptedTimers
  pub are_first : AreFirst s first
  pub last : ScriptedTimers
  pub ending : WaitEnding
  pub ends : EndsBy s.min s.max s.max_wait first s.fuel ending last
  pub text_is : text ≡ wait_text last.notes ending
  pub status_is : status ≡ came_to ending

-- what the scripts of `wait` are, and what is printed of each
abbrev pub wait_means : ScriptMeaning WaitScript
wait_means = record { is_script = IsScript; is_sound = IsBuildable; fits = is_within; is_print = IsWait }

-- The bytes are a script, of which this is its print or which is past its limit; or they are none.
abbrev pub wait_says : List ℕ → Said → Type 0
wait_says = bytes_say wait_means
