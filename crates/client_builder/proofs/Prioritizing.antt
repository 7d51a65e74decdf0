-- Lists by priority that are the same.
use Rattle.std.proofs.Common.{◌≡◌, ℤ, List, subst}
use Rattle.client_builder.specs.Priority.{IsByPriority}

pub by_priority_of : {C : Type 0} (ranked : C → ℤ) (a b s t : List C) → a ≡ b → s ≡ t → IsByPriority ranked a s → IsByPriority ranked b t
by_priority_of ranked a b s t e f h =
    subst (λ x. IsByPriority ranked b x) f (subst (λ x. IsByPriority ranked x s) e h)
