-- What a source of identities answers.
use Rattle.std.specs.Prelude.{◌≡◌, ℕ, List, [], ◌∷◌, Ok}
use Rattle.outside.specs.Calls.{OutsideCall, Resolve}
use Rattle.outside.specs.declared.answers.IdentityPoll.{IdentityPoll}
use Rattle.client_auth.specs.declared.sources.IdentitySource.{IdentitySource}
use Rattle.client_auth.specs.declared.sources.IdentitySource.TheVariants.{Outside, Resolver}

-- the outside loads it, or a resolver is asked
abbrev pub AsksSource : {R : Type 0} → (R → IdentityPoll → R → Type 0) → List ℕ → IdentitySource R → IdentityPoll
    → IdentitySource R → List OutsideCall → Type 0
AsksSource polls id Outside answer new calls = (new ≡ Outside) × (calls ≡ Resolve id (Ok answer) ∷ [])
AsksSource {R} polls id (Resolver resolver) answer new calls =
    (after : R) × (new ≡ Resolver after) × polls resolver answer after × (calls ≡ [])
