-- What follows of an answer.
use Rattle.std.proofs.Common.{Result, Ok, Err, IfOk}

-- what follows of each answer follows of this one
pub each_ok : {A E : Type 0} {P Q : A → Type 0} (r : Result A E) → ((x : A) → P x → Q x) → IfOk r P → IfOk r Q
each_ok (Ok x) f h = f x h
each_ok (Err e) f h = tt
