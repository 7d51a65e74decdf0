-- The calls behind an answer for which there was no memory.
use Rattle.std.proofs.Common.{List, [], ◌∷◌, OnErr, Result, Ok, Err, refl}
use Rattle.outside.specs.Calls.{OutsideCall}
use Rattle.smithy_types.specs.Chain.{Chained}

module _ {X T E : Type 0} (makes : X → OutsideCall → X → Type 0) where
  -- some calls were made, whatever came of them
  pub called : (r : Result T E) (x y : X) (calls : List OutsideCall) → Chained makes x calls y → OnErr r ((all : List OutsideCall) × Chained makes x all y)
  called (Ok t) x y calls made = tt
  called (Err e) x y calls made = (calls, made)

  -- one was made
  pub called_once : (r : Result T E) (x y : X) (call : OutsideCall) → makes x call y → OnErr r ((all : List OutsideCall) × Chained makes x all y)
  called_once r x y call made = called r x y (call ∷ []) (y, made, refl)
