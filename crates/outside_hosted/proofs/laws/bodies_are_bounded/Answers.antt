use Rattle.std.proofs.Common.{ap}
use Rattle.outside_hosted.specs.Steps.{bytes_left}
use Rattle.outside_hosted.specs.declared.hosted_outside.HostedOutside.{HostedOutside}
use Rattle.outside_hosted.proofs.BodyLemmas.{call_bounded, step_left}
use Rattle.outside_hosted.proofs.laws.bodies_are_bounded.Goals as goal

pub returns-clause-step : goal.returns-clause-step
returns-clause-step c old new step other made = step_left old new step other made

pub returns-clause-call : goal.returns-clause-call
returns-clause-call c old begun new request settings done steps made others chain =
    call_bounded begun new steps (ap (λ (s : HostedOutside). bytes_left s.call) made) others chain
