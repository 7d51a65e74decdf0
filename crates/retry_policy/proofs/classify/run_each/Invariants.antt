use Rattle.std.proofs.Common.{◌≡◌, drop}
use Rattle.smithy_types.specs.declared.notes.RetryAction.TheVariants.{NoActionIndicated}
use Rattle.retry_policy.specs.Verdict.{verdict_of}
use Rattle.retry_policy.proofs.classify.run_each.Given as goal

-- what the others make of the verdict so far is the verdict of all
abbrev pub invariant-loop-classifier : goal.invariant-loop-classifier
invariant-loop-classifier g l =
    verdict_of g.C.ClassifyRetry.says l.ctx (drop l.classifier-index l.classifiers) l.verdict ≡ verdict_of g.C.ClassifyRetry.says l.ctx l.classifiers NoActionIndicated
