-- A refusal of all options.
use Rattle.std.proofs.Common.{◌≡◌, ◌∙◌, ap, ℕ, List, Option, IfOk, Result, Ok, Err}
use Rattle.auth_endpoint.specs.Choice.{NoneChosen}
use Rattle.auth_endpoint.specs.Texts.{no_match_text}
use Rattle.auth_endpoint.specs.declared.choice.Place.{Place}
use Rattle.auth_endpoint.specs.declared.explored.ExploreResult.{ExploreResult}
use Rattle.auth_endpoint.specs.declared.explored.ExploredList.{ExploredList}
use Rattle.auth_endpoint.specs.declared.explored.NoMatchingAuthSchemeError.{NoMatchingAuthSchemeError}
use Rattle.auth_endpoint.specs.declared.explored.NoMatchingAuthSchemeError.TheVariants.{Explored}
use Rattle.smithy_types.specs.declared.memory.OutOfMemory.{OutOfMemory}
use Rattle.client_auth.specs.Choosing.{PicksAmong}
use Rattle.client_auth.specs.declared.choose.Picked.{Picked}
use Rattle.client_auth.specs.declared.choose.Picked.TheVariants.{Refused}

pub refused_among : (lack : List ℕ → Option ExploreResult) (options : List (List ℕ)) (chosen : Result Place NoMatchingAuthSchemeError) (error : NoMatchingAuthSchemeError) (r : Result Picked OutOfMemory)
    → chosen ≡ Err error
    → IfOk r (λ p. (explored : ExploredList) × (error ≡ Explored explored) × (p ≡ Refused (no_match_text error)))
    → ((explored : ExploredList) → chosen ≡ Err (Explored explored) → NoneChosen lack options explored)
    → IfOk r (PicksAmong lack options)
refused_among lack options chosen error (Err e) is told none = tt
refused_among lack options chosen error (Ok p) is (explored, e, was) none = rw was (explored, none explored (is ∙ ap Err e), ap no_match_text e)
