use Rattle.host_session.proofs.Adding.{adds}
use Rattle.host_session.proofs.service.classifier.with_retry_after.Goals as goal

pub returns : goal.returns
returns g c =
    adds c.args.client c.into_parts-parts.result c.classifiers_with.result c.new.result c.args.retry_after
    c.into_parts-parts.ensures c.classifiers_with.ensures c.new.ensures
