use Rattle.cli_serve.proofs.Whole.{has_room}
use Rattle.cli_serve.proofs.opening.build.Goals as goal

pub with_retry_after-requires-clause-capacity : goal.with_retry_after-requires-clause-capacity
with_retry_after-requires-clause-capacity g c =
    has_room _ c.args.builder.classifiers _ _ c.in-Ok-build.ensures.built.classifiers c.in-Ok.ensures.capacity
