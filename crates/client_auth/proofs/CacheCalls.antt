-- The calls of a load's sleep, as calls of the outside.
use Rattle.std.specs.Prelude.{is_some}
use Rattle.std.proofs.Common.{ℕ, Bool, true, ◌≡◌, refl, ◌++◌, Option, Some, None}
use Rattle.identity_cell.specs.LoadSleep.{AsksSleep, GivesUp, Waits}
use Rattle.outside.specs.Calls.{OutsideCall, OfTimers}
use Rattle.smithy_types.specs.Chain.{Chained}
use Rattle.smithy_types.specs.declared.timers.TimersCall.{TimersCall}
use Rattle.smithy_types.specs.declared.timers.TimersCall.TheVariants.{Ready, GiveUp}
use Rattle.smithy_types.proofs.ChainLemmas.{chained_one, chained_join}
use Rattle.client_auth.specs.Caching.{asking_sleep, giving_up}

module _ {X : Type 0} (relates : X → TimersCall → X → Type 0) (makes : X → OutsideCall → X → Type 0) (lift : (old : X) (call : TimersCall) (new : X) → relates old call new → makes old (OfTimers call) new) where
  pub gives_up : (sleep : Option ℕ) (old new : X) → GivesUp relates sleep old new → Chained makes old (giving_up sleep) new
  gives_up None old new e = e
  gives_up (Some sleep) old new h = chained_one makes old new (OfTimers (GiveUp sleep)) (lift old (GiveUp sleep) new h)

  pub asks_sleep : (sleep : Option ℕ) (over : Bool) (old new : X) → AsksSleep relates sleep over old new → Chained makes old (asking_sleep sleep over) new
  asks_sleep None over old new h = h.1
  asks_sleep (Some sleep) over old new h = chained_one makes old new (OfTimers (Ready sleep over)) (lift old (Ready sleep over) new h)

  pub waits_over : (sleep : Option ℕ) (old new : X) → Waits relates sleep true old new → Chained makes old (asking_sleep sleep true ++ giving_up sleep) new
  waits_over sleep old new (mid, asks, gives) =
      chained_join makes old mid new (asking_sleep sleep true) (giving_up sleep) (asks_sleep sleep true old mid asks) (gives_up sleep mid new gives)

  -- only a sleep that is there is over
  pub waits_timed : (sleep : Option ℕ) (old new : X) → Waits relates sleep true old new → is_some sleep ≡ true
  waits_timed None old new (mid, asks, gives) = let is = asks.0 in cc is
  waits_timed (Some sleep) old new (mid, asks, gives) = refl
