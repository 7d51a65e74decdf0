-- What a load's sleep is asked, and what it leaves of the timers.
use Rattle.std.specs.Prelude.{◌≡◌, ℕ, Bool, true, false, Option, Some, None, List, ◌++◌, codes}
use Rattle.std.specs.Fmt.{decimal}
use Rattle.smithy_types.specs.declared.timers.TimersCall.{TimersCall}
use Rattle.smithy_types.specs.declared.timers.TimersCall.TheVariants.{Ready, GiveUp}

module _ {T : Type 0} (relates : T → TimersCall → T → Type 0) where
  -- the sleep is given up, where there is one
  abbrev pub GivesUp : Option ℕ → T → T → Type 0
  GivesUp None old new = new ≡ old
  GivesUp (Some sleep) old new = relates old (GiveUp sleep) new

  -- the sleep is asked whether it is over, where there is one
  abbrev pub AsksSleep : Option ℕ → Bool → T → T → Type 0
  AsksSleep None is_over old new = (is_over ≡ false) × (new ≡ old)
  AsksSleep (Some sleep) is_over old new = relates old (Ready sleep is_over) new

  -- the sleep is asked, and given up where it is over
  abbrev pub Waits : Option ℕ → Bool → T → T → Type 0
  Waits sleep false old new = AsksSleep sleep false old new
  Waits sleep true old new = (mid : T) × AsksSleep sleep true old mid × GivesUp sleep mid new

-- why a load failed that took longer than so many nanoseconds
abbrev pub timeout_text : ℕ → List ℕ
timeout_text nanos = codes "identity resolver timed out after " ++ decimal nanos ++ codes " ns"
