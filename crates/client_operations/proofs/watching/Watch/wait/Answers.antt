use Rattle.std.proofs.Common.{rules, ◌≡◌, subst}
use Rattle.waiters.proofs.Weaker.{waits}
use Rattle.client_operations.proofs.Accepting.{accepted}
use Rattle.client_operations.proofs.watching.Watch.wait.Goals as goal

pub returns-clause-waits : goal.returns-clause-waits
returns-clause-waits g c =
    let same : c.in-Ok.waiter.acceptor ≡ c.args.acceptor = search rules in
    record {
      backoff = c.in-Ok.waiter.backoff;
      min_is = search rules;
      max_is = search rules;
      max_wait_is = search rules;
      waits =
          waits c.in-Ok.waiter.backoff (goal.F-post g c.in-Ok.waiter.acceptor) (goal.F-post g c.args.acceptor) _ _ _ _ _ _ _ _
          (λ seen state h. subst (λ a. goal.F-post g a seen state) same h) (λ b n a d h. h) c.orchestrate.ensures.waits;
    }

pub returns-clause-accepted : goal.returns-clause-accepted
returns-clause-accepted g c = accepted (goal.F-post g c.args.acceptor) _ _ _ _ _ _ _ _ (returns-clause-waits g c).waits
