-- What holds whatever came holds where memory is wanting.
use Rattle.std.proofs.Common.{List, OnErr, Result, Ok, Err}
use Rattle.outside.specs.Calls.{OutsideCall}
use Rattle.smithy_types.specs.Chain.{Chained}

pub lacking : {T E P : Type 0} (r : Result T E) → P → OnErr r P
lacking (Ok t) p = tt
lacking (Err e) p = p

-- some calls were made
pub called : {X T E : Type 0} (makes : X → OutsideCall → X → Type 0) (r : Result T E) (x y : X) (calls : List OutsideCall) → Chained makes x calls y
    → OnErr r ((all : List OutsideCall) × Chained makes x all y)
called makes r x y calls made = lacking r (calls, made)
