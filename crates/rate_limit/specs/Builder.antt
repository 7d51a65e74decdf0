-- What a builder makes.
use Rattle.std.specs.Prelude.{min, None, unwrap_or}
use Rattle.rate_limit.specs.Curve.{most}
use Rattle.rate_limit.specs.Pace.{Pace, zero_pace}
use Rattle.rate_limit.specs.declared.builder.ClientRateLimiterBuilder.{ClientRateLimiterBuilder}

-- a builder in which nothing is set
abbrev pub unset : ClientRateLimiterBuilder
unset = record {
  token_refill_rate = None;
  maximum_bucket_capacity = None;
  current_bucket_capacity = None;
  tokens_retrieved_per_second = None;
}

-- a part that isn't set is as in a limiter whose numbers are zero; the capacity is kept within its limit
abbrev pub built : ClientRateLimiterBuilder → Pace
built b = record zero_pace {
  fill = unwrap_or b.token_refill_rate 0;
  limit = unwrap_or b.maximum_bucket_capacity most;
  capacity = min (unwrap_or b.current_bucket_capacity 0) (unwrap_or b.maximum_bucket_capacity most);
  measured = unwrap_or b.tokens_retrieved_per_second 0;
}
