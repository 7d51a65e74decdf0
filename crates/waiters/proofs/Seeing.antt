-- What the acceptor says of what it is shown.
use Rattle.std.proofs.Common.{◌≡◌, Result, Ok, Err, Some, subst, sym, refl}
use Rattle.std.specs.Borrow.{Bor}
use Rattle.smithy_types.specs.declared.acceptor.AcceptorState.{AcceptorState}
use Rattle.smithy_types.specs.declared.fault.SdkError.{SdkError}
use Rattle.smithy_types.specs.declared.fault.SdkError.TheVariants.{ConstructionFailure, TimeoutError, DispatchFailure, ResponseError, ServiceError}
use Rattle.smithy_types.specs.declared.http.HttpResponse.{HttpResponse}
use Rattle.waiters.specs.Steps.{Sees}
use Rattle.waiters.specs.Walk.{Accepts}

pub accepts-seen : {O E : Type 0} (says : Result (Bor O) (Bor E) → AcceptorState → Type 0)
    (polled : Result O (SdkError E)) (shown : Result (Bor O) (Bor E)) (state : AcceptorState) →
    Sees polled (Some shown) → says shown state → Accepts says polled state
accepts-seen says (Ok output) shown state (seen, shows, found) said =
    let same : shown ≡ Ok seen = cc in
    (seen, shows, subst (λ one. says one state) same said)
accepts-seen says (Err (ServiceError error response)) shown state (seen, shows, found) said =
    let same : shown ≡ Err seen = cc in
    (seen, shows, subst (λ one. says one state) same said)
accepts-seen says (Err (ConstructionFailure fault)) shown state found said = tt
accepts-seen says (Err (TimeoutError fault)) shown state found said = tt
accepts-seen says (Err (DispatchFailure fault)) shown state found said = tt
accepts-seen says (Err (ResponseError fault response)) shown state found said = tt

pub sees-modeled : {O E : Type 0} (polled : Result O (SdkError E)) (failed : SdkError E) (error : E) (response : HttpResponse) (seen : Bor E) →
    polled ≡ Err failed → failed ≡ ServiceError error response → seen.now ≡ error → Sees polled (Some (Err seen))
sees-modeled {O} {E} polled failed error response seen is_error is_modeled shows =
    let whole : polled ≡ Err (ServiceError error response) = cc in
    let P : Result O (SdkError E) → Type 0 = λ one. Sees one (Some (Err seen)) in
    subst P (sym whole) (seen, shows, refl)
