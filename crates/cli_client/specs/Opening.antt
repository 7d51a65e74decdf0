-- What stands before a script's first invocation.
use Rattle.std.specs.Prelude.{◌≡◌, ℕ, ℤ, List, [], map, None}
use Rattle.cli_client_runs.specs.declared.set.ClientSet.{ClientSet}
use Rattle.retry_quota.specs.declared.state.BucketTerms.{BucketTerms}
use Rattle.json_scripts.specs.declared.client.terms.ClientObject.{ClientObject}
use Rattle.client_scripted.specs.declared.service.error.ServiceError.{ServiceError}
use Rattle.client_builder.specs.declared.own_interceptor.OwnInterceptor.{OwnInterceptor}
use Rattle.rate_limit.specs.Pace.{Pace}
use Rattle.retry_policy.specs.declared.classify.Classifier.{Classifier}
use Rattle.retry_quota.specs.Book.{book_of}
use Rattle.retry_quota.specs.Registers.{Registers}
use Rattle.outside_scripted.specs.declared.call.OpenCall.TheVariants.{Idle}
use Rattle.outside_scripted.specs.declared.scripted_outside.ScriptedOutside.{ScriptedOutside}
use Rattle.client_scripted.specs.Clients.{AreBuilt}
use Rattle.smithy_base.specs.declared.intercept.Slot.{Slot}

-- each bucket under its place, no limiter, and no name
abbrev pub quota_of : List BucketTerms → Registers Pace
quota_of buckets = record { books = map book_of buckets; limiters = []; bucket_names = []; limiter_names = [] }

-- the outside at its first moment, with its words; nothing is open, and nothing is to come
abbrev pub outside_at : ℕ → List ℕ → ScriptedOutside
outside_at start words = record {
  moment = start;
  words = words;
  records = [];
  identities = None;
  sleeps = [];
  call = Idle;
  load = None;
  faults = 0;
}

module _ {V W : Type 0} {v : V → Type 0} {w : W → Type 0} (ranked : Classifier ServiceError V v → ℤ) where
  -- the clients are built over the script's buckets, and the outside is at its first moment
  pub record IsOpened (buckets : List BucketTerms) (start : ℕ) (words : List ℕ) (objects : List ClientObject)
      (set : ClientSet (Classifier ServiceError V v) (Slot OwnInterceptor W w)) : Type 0 where
    pub clients : AreBuilt ranked (quota_of buckets) objects [] set.clients.items set.quota
    pub outside : set.outside ≡ outside_at start words
