-- What the calls of a context leave.
use Rattle.std.specs.Prelude.{true, false, Option, Some, None, ◌≡◌, ◌⊎◌}
use Rattle.smithy_context.specs.declared.context.InterceptorContext.{InterceptorContext}
use Rattle.smithy_context.specs.declared.context.RewindResult.{RewindResult}
use Rattle.smithy_context.specs.declared.context.RewindResult.TheVariants.{Impossible, Unnecessary, Occurred}
use Rattle.smithy_types.specs.declared.fault.Fault.{Fault}
use Rattle.smithy_types.specs.declared.fault.Outcome.TheVariants.{Failed}
use Rattle.smithy_types.specs.declared.http.Body.{Body}
use Rattle.smithy_types.specs.declared.http.Body.TheVariants.{Bytes}
use Rattle.smithy_types.specs.declared.http.HttpRequest.{HttpRequest}
use Rattle.smithy_context.specs.declared.intercept.HookView.{HookView}
use Rattle.smithy_types.specs.declared.kinds.Phase.{Phase}
use Rattle.smithy_types.specs.declared.kinds.Phase.TheVariants.{BeforeSerialization, BeforeTransmit}
use Rattle.smithy_types.specs.declared.payload.Payload.{Payload}
use Rattle.smithy_context.specs.Settings.{no_layers}

-- a context with this view in this phase, before any checkpoint and any rewind
abbrev pub view_of : HookView → Phase → InterceptorContext
view_of v p = record { view = v; phase = p; checkpoint = None; tainted = false }

-- the input stands, and nothing else
abbrev pub opened : Payload → InterceptorContext
opened p =
    view_of
    (record { input = Some p; request = None; response = None; outcome = None; attempt = 0; settings = no_layers })
    BeforeSerialization

-- the context with this failure as its outcome
abbrev pub failed_with : InterceptorContext → Fault → InterceptorContext
failed_with c f = record c { view = record c.view { outcome = Some (Failed f) } }

-- the request, where its body can be copied
abbrev pub copyable_body : Body → HttpRequest → Option HttpRequest
copyable_body (Bytes b) r = Some r
copyable_body _ r = None

-- the request that a checkpoint keeps: none where no request stands, or where its body can't be copied
abbrev pub copyable : Option HttpRequest → Option HttpRequest
copyable None = None
copyable (Some r) = copyable_body r.body r

-- the request as it stands is kept for later attempts, where it can be copied
abbrev pub checkpointed : InterceptorContext → InterceptorContext
checkpointed c = record c { checkpoint = copyable c.view.request }

-- the checkpoint's request, no response, no outcome
abbrev pub restored_to : Option HttpRequest → InterceptorContext → InterceptorContext
restored_to None c = c
restored_to (Some r) c =
    record c { view = record c.view { request = Some r; response = None; outcome = None }; phase = BeforeTransmit }

-- the context as its checkpoint has it for a further attempt; without a checkpoint it stays
abbrev pub restored : InterceptorContext → InterceptorContext
restored c = restored_to c.checkpoint c

-- what a rewind answers, and what it leaves
abbrev pub Rewinds : InterceptorContext → RewindResult → InterceptorContext → Type 0
Rewinds c Unnecessary d = (c.tainted ≡ false) × (d ≡ record c { tainted = true })
Rewinds c Impossible d = (c.tainted ≡ true) × (c.checkpoint ≡ None) × (d ≡ c)
Rewinds c Occurred d = (c.tainted ≡ true) × (r : HttpRequest) × (c.checkpoint ≡ Some r) × (d ≡ restored c)
