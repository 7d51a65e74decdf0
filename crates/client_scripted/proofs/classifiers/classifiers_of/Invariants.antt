use Rattle.std.proofs.Common.{◌≡◌, map}
use Rattle.client_scripted.specs.Parts.{classifier_of}
use Rattle.client_scripted.proofs.classifiers.classifiers_of.Given as goal

-- the classifiers of the choices so far
abbrev pub invariant-loop-choice : goal.invariant-loop-choice
invariant-loop-choice g l = l.list ≡ map classifier_of l.yielded
