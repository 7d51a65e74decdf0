use Rattle.retry_policy.proofs.standard.StandardRetryStrategy.should_attempt_retry.Goals as goal

pub returns-clause-decides : goal.returns-clause-decides
returns-clause-decides g c =
    let terms = c.in_ok-terms in record {
      retry = terms.terms.retry;
      bucket = terms.terms.bucket;
      paced = c.in_ok-paced.paced;
      mid = g.Q.Quota.meaning c.find_limiter.new.quota;
      stands = record {
        retry_stands = terms.ensures.retry;
        bucket_stands = terms.ensures.bucket;
        there = terms.ensures.there;
        found = c.in_ok-paced.ensures.found;
      };
      comes = rw (c.is_failed.ensures, c.attempt.ensures) at c.decide.ensures;
    }
