-- A configuration that fails refuses the operation.
use Rattle.std.proofs.Common.{Result, Err, [], ◌∷◌, ◌++◌, ◌≡◌, sym, ap, ◌∙◌, subst}
use Rattle.smithy_types.specs.declared.fault.Fault.{Fault}
use Rattle.smithy_types.specs.declared.fault.FaultKind.TheVariants as faults
use Rattle.smithy_types.specs.declared.fault.SdkError.{SdkError}
use Rattle.smithy_types.specs.declared.fault.SdkError.TheVariants.{ConstructionFailure}
use Rattle.smithy_types.specs.declared.payload.Payload.{Payload}
use Rattle.smithy_context.specs.Failures.{sdk_error_of}
use Rattle.run_grammar.specs.Standing.{State, standing, start}
use Rattle.run_grammar.specs.Refusals.{FailedUnmade}
use Rattle.run_grammar.proofs.ConfigureLaw.{configurations_end}
use Rattle.orchestrate.specs.Finish.{answer_by, answer_of}
use Rattle.orchestrate.specs.Refused.{ConfigurationsAreRefused}

unmade : (s : State) → FailedUnmade s → (f : Fault) × (answer_of s.context.context ≡ Err (ConstructionFailure f))
unmade s (t, o, p) = (
  record { kind = faults.Other; text = t },
  ap (λ x. answer_by s.context.context x) o
      ∙ ap (λ x. let r : Result Payload (SdkError Payload) = Err (sdk_error_of (record { kind = faults.Other; text = t }) x s.context.context.view.response) in r) p,
)

pub configurations_are_refused : ConfigurationsAreRefused
configurations_are_refused stop p before e after w c h =
    let r = configurations_end stop p before e after w c h in
    let same : before ++ e ∷ after ≡ before ++ e ∷ [] = ap (λ m. before ++ e ∷ m) r.0 in
    subst (λ m. (f : Fault) × (answer_of (standing (start p) m).context.context ≡ Err (ConstructionFailure f))) (sym same) (unmade (standing (start p) (before ++ e ∷ [])) r.1)
