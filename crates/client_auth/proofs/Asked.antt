-- A source that was asked.
use Rattle.std.proofs.Common.{◌≡◌, refl, ℕ, List, [], ◌∷◌, IfOk, Result, Ok, Err}
use Rattle.outside.specs.Calls.{OutsideCall, Resolve}
use Rattle.outside.specs.declared.answers.IdentityPoll.{IdentityPoll}
use Rattle.smithy_types.specs.Chain.{Chained}
use Rattle.smithy_types.specs.declared.memory.OutOfMemory.{OutOfMemory}
use Rattle.smithy_types.proofs.ChainLemmas.{chained_one}
use Rattle.client_auth.specs.Sourcing.{AsksSource}
use Rattle.client_auth.specs.declared.sources.IdentitySource.{IdentitySource}
use Rattle.client_auth.specs.declared.sources.IdentitySource.TheVariants.{Outside}

pub by_outside : {X R : Type 0} → (makes : X → OutsideCall → X → Type 0) (polls : R → IdentityPoll → R → Type 0) (old new : X) (id : List ℕ) (source : IdentitySource R) (answer : Result IdentityPoll OutOfMemory)
    → source ≡ Outside → makes old (Resolve id answer) new
    → IfOk answer (λ p. (calls : List OutsideCall) × Chained makes old calls new × AsksSource polls id source p source calls)
by_outside makes polls old new id source (Err e) is made = tt
by_outside makes polls old new id source (Ok p) is made = (Resolve id (Ok p) ∷ [], chained_one makes old new (Resolve id (Ok p)) made, rw is (refl, refl))
