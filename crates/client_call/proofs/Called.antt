-- The calls behind an answer for which there was no memory.
use Rattle.std.proofs.Common.{List, [], ◌∷◌, ◌++◌, map, OnErr, Result, Ok, Err, refl}
use Rattle.smithy_types.proofs.ChainLemmas.{chained_join}
use Rattle.smithy_types.specs.Chain.{Chained}
use Rattle.smithy_types.specs.declared.timers.TimersCall.{TimersCall}
use Rattle.outside.specs.Calls.{OutsideCall, OfTimers}
use Rattle.client_call.proofs.ChainLemmas.{timed}

module _ {X T E : Type 0} (makes : X → OutsideCall → X → Type 0) where
  -- some calls were made, whatever came of them
  pub err_by : (r : Result T E) (x y : X) (calls : List OutsideCall) → Chained makes x calls y → OnErr r ((all : List OutsideCall) × Chained makes x all y)
  err_by (Ok t) x y calls made = tt
  err_by (Err e) x y calls made = (calls, made)

  -- behind some calls others were made
  pub err_behind : (r : Result T E) (x y z : X) (calls : List OutsideCall) → Chained makes x calls y → OnErr r ((more : List OutsideCall) × Chained makes y more z)
      → OnErr r ((all : List OutsideCall) × Chained makes x all z)
  err_behind (Ok t) x y z calls made h = tt
  err_behind (Err e) x y z calls made h = (calls ++ h.0, chained_join makes x y z calls h.0 made h.1)

  -- one call was made
  pub err_one : (r : Result T E) (x y : X) (call : OutsideCall) → makes x call y → OnErr r ((all : List OutsideCall) × Chained makes x all y)
  err_one r x y call made = err_by r x y (call ∷ []) (y, made, refl)

  -- one call was made, and then others
  pub err_after : (r : Result T E) (x y z : X) (call : OutsideCall) (calls : List OutsideCall) → makes x call y → Chained makes y calls z → OnErr r ((all : List OutsideCall) × Chained makes x all z)
  err_after r x y z call calls made more = err_by r x z (call ∷ calls) (y, made, more)

  -- they were calls of the timers
  pub err_timed : (relates : X → TimersCall → X → Type 0) → ((o : X) (c : TimersCall) (n : X) → relates o c n → makes o (OfTimers c) n)
      → (r : Result T E) (x y : X) (calls : List TimersCall) → Chained relates x calls y → OnErr r ((all : List OutsideCall) × Chained makes x all y)
  err_timed relates lift r x y calls made = err_by r x y (map OfTimers calls) (timed makes relates lift x y calls made)
