-- Which buckets a script spells.
use Rattle.std.specs.Prelude.{◌^◌, List, Option, Some}
use Rattle.serde_json.specs.Data.{Data}
use Rattle.serde_json.specs.Find.{as_array}
use Rattle.json_forms.specs.Lists.{list_of}
use Rattle.json_forms.specs.Plain.{number_at, number_below, sextuple_at}
use Rattle.json_forms.specs.Reading.{◌>>=◌}
use Rattle.retry_quota.specs.declared.state.BucketTerms.{BucketTerms}

-- a capacity, the costs of a retry, of throttling and of a transient error, a reward and a rate
unfoldable pub bucket_terms_at : Data → Option BucketTerms
bucket_terms_at d = sextuple_at d >>= λ p. number_at p.0 >>= λ c. number_below (2 ^ 32) p.1 >>= λ r.
    number_below (2 ^ 32) p.2 >>= λ h. number_below (2 ^ 32) p.3 >>= λ t. number_at p.4 >>= λ w. number_at p.5 >>= λ f.
    Some (record {
      capacity = c;
      retry_cost = r;
      throttling_retry_cost = h;
      timeout_retry_cost = t;
      success_reward = w;
      refill_rate = f;
    })

-- the buckets of a script
unfoldable pub buckets_at : Data → Option (List BucketTerms)
buckets_at d = as_array d >>= list_of bucket_terms_at
