use Rattle.std.proofs.Common.{◌≡◌, ◌+◌, ◌≤◌, ◌++◌, map}
use Rattle.std.specs.Prelude.{vec_capacity, vec_len}
use Rattle.host_session.specs.declared.service.classifier.HostedClassifier.TheVariants.{Own}
use Rattle.host_session.proofs.service.classifier.push_own.Given as goal

-- the classifiers so far with those that are left are all, and there is room for these and one more
abbrev pub invariant-loop-classifier : goal.invariant-loop-classifier
invariant-loop-classifier g l =
    (l.classifiers.items ++ map Own l.left.rest.items ≡ l.fn.classifiers.items ++ map Own l.fn.own.items)
    × (vec_len l.classifiers + l.left.rest.len + 1 ≤ vec_capacity l.classifiers)

abbrev pub decreases-loop-classifier : goal.decreases-loop-classifier
decreases-loop-classifier g l = l.left.rest.len
