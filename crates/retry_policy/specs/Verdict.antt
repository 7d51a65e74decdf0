-- What classifiers say together.
use Rattle.std.specs.Prelude.{Bool, true, false, if◌then◌else◌, List, [], ◌∷◌}
use Rattle.smithy_context.specs.declared.context.InterceptorContext.{InterceptorContext}
use Rattle.smithy_types.specs.declared.notes.RetryAction.{RetryAction}
use Rattle.smithy_types.specs.declared.notes.RetryAction.TheVariants.{NoActionIndicated, RetryIndicated, RetryForbidden}

-- a classifier's answer beside the verdict so far: no action keeps it, any other replaces it
abbrev pub replaced : RetryAction → RetryAction → RetryAction
replaced NoActionIndicated verdict = verdict
replaced (RetryIndicated kind retry_after) verdict = RetryIndicated kind retry_after
replaced RetryForbidden verdict = RetryForbidden

-- whether a classifier forbids the retry
abbrev pub is_forbidden : RetryAction → Bool
is_forbidden RetryForbidden = true
is_forbidden NoActionIndicated = false
is_forbidden (RetryIndicated kind retry_after) = false

-- each is handed the verdict so far; a forbidden retry is the verdict, whatever the others would say
abbrev pub verdict_of : {C : Type 0} → (C → InterceptorContext → RetryAction → RetryAction) → InterceptorContext →
    List C → RetryAction → RetryAction
verdict_of says c [] verdict = verdict
verdict_of says c (x ∷ xs) verdict =
    if is_forbidden (says x c verdict) then RetryForbidden
    else verdict_of says c xs (replaced (says x c verdict) verdict)
