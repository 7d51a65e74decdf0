-- An outside behind a gate.
use Rattle.std.specs.Prelude.{◌≡◌, ℕ, ◌+◌, ◌-◌, ◌^◌, min}
use Rattle.outside.specs.Calls.{OutsideCall, OfTimers, Begin, Poll, Frame, DropCall}
use Rattle.outside.specs.Calls.{Resolve, DropResolve, Word, Poison, Park}
use Rattle.outside.specs.Faults.{Counts}
use Rattle.outside_scripted.specs.declared.scripted_outside.ScriptedOutside.{ScriptedOutside}
use Rattle.outside_scripted.specs.Counting.{each_failure_is_counted}
use Rattle.outside_scripted.specs.Makes.{Makes}

-- a caller's outside, the gate before it, and how many calls the caller began
pub record Gated (G : Type 0) : Type 0 where
  pub outside : ScriptedOutside
  pub gate : G
  pub caller : ℕ
  pub calls : ℕ

module _ {G : Type 0} (passed : G → ℕ → ℕ → Type 0) where
  -- The gate let the call of this number pass before it began, and the number rises; it stands still
  -- at the greatest u64. No other call is counted.
  abbrev pub Counted : OutsideCall → Gated G → ℕ → Type 0
  Counted (Begin request settings begun) old calls =
      passed old.gate old.caller old.calls × (calls ≡ min (old.calls + 1) (2 ^ 64 - 1))
  Counted (OfTimers call) old calls = calls ≡ old.calls
  Counted (Poll answer) old calls = calls ≡ old.calls
  Counted (Frame answer) old calls = calls ≡ old.calls
  Counted DropCall old calls = calls ≡ old.calls
  Counted (Resolve id answer) old calls = calls ≡ old.calls
  Counted DropResolve old calls = calls ≡ old.calls
  Counted (Word word) old calls = calls ≡ old.calls
  Counted (Poison number) old calls = calls ≡ old.calls
  Counted Park old calls = calls ≡ old.calls

  -- one call: the outside makes it, it is counted, and the gate and the caller stay
  pub record Passes (old : Gated G) (call : OutsideCall) (new : Gated G) : Type 0 where
    pub made : Makes old.outside call new.outside
    pub counted : Counted call old new.calls
    pub same_gate : new.gate ≡ old.gate
    pub same_caller : new.caller ≡ old.caller

  -- each failure that is handed out is counted by the outside
  abbrev pub passed_is_counted : (old : Gated G) (call : OutsideCall) (new : Gated G) → Passes old call new
      → Counts old.outside.faults call new.outside.faults
  passed_is_counted old call new passes = each_failure_is_counted old.outside call new.outside passes.made
