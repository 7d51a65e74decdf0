use Rattle.waiters.proofs.Weaker.{waits}
use Rattle.example_bakery_client.specs.Waiting.{Says}
use Rattle.example_bakery_client.proofs.Fetching.{fetched}
use Rattle.example_bakery_client.proofs.watching.wait.Goals as goal

pub returns-clause-ready : goal.returns-clause-ready
returns-clause-ready g c = fetched _ (λ seen state h. h.1) c.wait.result c.wait.ensures.accepted

pub returns-clause-waits : goal.returns-clause-waits
returns-clause-waits g c =
    let walked = c.wait.ensures.waits in
    record {
      backoff = walked.backoff;
      min_is = walked.min_is;
      max_is = walked.max_is;
      max_wait_is = walked.max_wait_is;
      waits = waits walked.backoff _ Says _ _ _ _ _ _ _ _ (λ seen state h. h.1) (λ b n a d h. h) walked.waits;
    }
