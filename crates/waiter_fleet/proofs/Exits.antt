-- What holds where a call was refused.
use Rattle.std.proofs.Common.{◌≡◌, Result, Ok, Err}
use Rattle.std.specs.Prelude.{MatchResult}
use Rattle.smithy_types.specs.declared.memory.OutOfMemory.{OutOfMemory}

pub refused_exit : {X : Type 0} (r : Result X OutOfMemory) (P : X → Type 0) (Q : Type 0) (e : OutOfMemory) → r ≡ Err e → Q →
    MatchResult r P (λ _. Q)
refused_exit r P Q e is q = rw is q

-- what follows of an answer
pub result_mapped : {X E : Type 0} (r : Result X E) (P Q : X → Type 0) (R : E → Type 0) → ((x : X) → P x → Q x) →
    MatchResult r P R → MatchResult r Q R
result_mapped (Ok x) P Q R maps h = maps x h
result_mapped (Err e) P Q R maps h = h
