-- What stands behind want of memory, of two facts of one call.
use Rattle.std.proofs.Common.{OnErr, Result, Ok, Err}

pub on_both : {T E A B P : Type 0} (r : Result T E) → OnErr r A → OnErr r B → (A → B → P) → OnErr r P
on_both (Ok t) a b f = tt
on_both (Err e) a b f = f a b
