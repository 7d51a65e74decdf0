use Rattle.std.proofs.Common.{subst}
use Rattle.outside_scripted.specs.Wake.{IsNext}
use Rattle.outside_hosted.proofs.hosted_outside.HostedOutside.next_due.Goals as goal

pub returns : goal.returns
returns c = subst (λ s. IsNext c.args.self.now.moment s c.earliest.result) c.as_slice.ensures c.earliest.ensures
