use Rattle.std.proofs.Common.{pos}
use Rattle.retry_policy.specs.declared.classify.Classifier.TheVariants.{HttpStatusCode, ModeledAsRetryable, TransientError, Boxed}
use Rattle.client_scripted.specs.Clients.{AreBuilt}
use Rattle.client_scripted.proofs.clients.build_clients.Given as goal

-- those before this one are built
abbrev pub invariant-loop-object : goal.invariant-loop-object
invariant-loop-object g l = AreBuilt (elim [
  | HttpStatusCode x ↦ pos 0
  | ModeledAsRetryable x ↦ pos 10
  | TransientError x ↦ pos 20
  | Boxed b ↦ (goal.ClassifyRetry-dyn g (b.vtable, b.value)).ranked b.value
]) l.fn.registry l.yielded l.fn.clients.items l.clients.items l.registry
