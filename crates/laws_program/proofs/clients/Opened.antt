-- The clients of a script are alike before its first invocation.
use Rattle.std.proofs.Common.{◌≡◌, ◌∙◌, refl, sym, ap, subst, ℕ, ℤ, List, [], ◌∷◌, map, Option, None, Some}
use Rattle.std.specs.Map.{lookup}
use Rattle.client_auth.specs.Identities.{cached_by}
use Rattle.cli_client.specs.Opening.{IsOpened}
use Rattle.cli_client_runs.specs.declared.set.ClientSet.{ClientSet}
use Rattle.retry_quota.specs.declared.state.BucketTerms.{BucketTerms}
use Rattle.json_scripts.specs.declared.client.terms.ClientObject.{ClientObject}
use Rattle.client_scripted.specs.declared.service.error.ServiceError.{ServiceError}
use Rattle.identity_cell.specs.declared.identity_cache.SharedIdentityCache.{SharedIdentityCache}
use Rattle.identity_cell.specs.declared.identity_cache.SharedIdentityCache.TheVariants.{NoCache, Lazy}
use Rattle.client_builder.specs.declared.own_interceptor.OwnInterceptor.{OwnInterceptor}
use Rattle.rate_limit.specs.Pace.{Pace}
use Rattle.client_retries.specs.declared.strategy.RetryStrategy.{RetryStrategy}
use Rattle.client_retries.specs.declared.strategy.RetryStrategy.TheVariants.{Never, Standard}
use Rattle.retry_policy.specs.declared.classify.Classifier.{Classifier}
use Rattle.retry_quota.specs.Registers.{Registers}
use Rattle.retry_quota.specs.declared.permit.Permit.{Permit}
use Rattle.client_scripted.specs.Clients.{Builds, BuildsOne, Described, IsBuiltBy, ServiceBuilder, ServiceWorld, builder_of}
use Rattle.client_scripted.specs.Parts.{PartitionOf}
use Rattle.client_scripted.specs.declared.client.ScriptedClient.{ScriptedClient}
use Rattle.smithy_base.specs.declared.intercept.Slot.{Slot}
use Rattle.smithy_types.specs.Chain.{Chained}
use Rattle.smithy_types.specs.Partition.{same_partition as by_partition}
use Rattle.smithy_types.specs.declared.partition.CustomPartition.{CustomPartition}
use Rattle.smithy_types.specs.declared.partition.RetryPartition.{RetryPartition}
use Rattle.laws_determined.specs.Auth.Alike.{LoadIsTimed}
use Rattle.laws_determined.specs.Retries.Alike.{AreAlike, HoldAlike}
use Rattle.json_print.proofs.determined.Endings.{same_some}
use Rattle.laws_program.proofs.clients.Each.{EachAlike}
use Rattle.laws_program.proofs.clients.Invoked.{ClientsAlike, pays, pays_from}
use Rattle.laws_program.proofs.clients.Prioritized.{one_priority}
use Rattle.laws_program.proofs.clients.Ran.{SetsAlike}
use Rattle.laws_program.proofs.clients.Resting.{RestAlike}

-- ---- a client's partition

same_numbers : (one two : CustomPartition) → one.bucket ≡ two.bucket → one.limiter ≡ two.limiter → one ≡ two
same_numbers one two a b = λ i. record { bucket = a i; limiter = b i }

same_partition : (one two : RetryPartition) → one.name ≡ two.name → one.custom ≡ two.custom → one ≡ two
same_partition one two a b = λ i. record { name = a i; custom = b i }

same_registers : (one two : Registers Pace) → one.books ≡ two.books → one.limiters ≡ two.limiters → one.bucket_names ≡ two.bucket_names → one.limiter_names ≡ two.limiter_names → one ≡ two
same_registers one two a b c d = λ i. record { books = a i; limiters = b i; bucket_names = c i; limiter_names = d i }

pub one_partition : (service : List ℕ) (bucket : Option ℕ) (old : Registers Pace) (one two : Option RetryPartition) (new more : Registers Pace) → PartitionOf service bucket old one new → PartitionOf service bucket old two more
    → (one ≡ two) × (new ≡ more)
one_partition service None old one two new more s t = (s.0 ∙ sym t.0, s.1 ∙ sym t.1)
one_partition service (Some bucket) old None two new more s t = absurd s
one_partition service (Some bucket) old (Some one) None new more s t = absurd t
one_partition service (Some bucket) old (Some one) (Some two) new more (name, numbers, custom, given) (called, others, brought, got) =
    let same = same_numbers numbers others (given.bucket.0 ∙ sym got.bucket.0) (given.limiter.0 ∙ sym got.limiter.0) in (
      ap Some (same_partition one two (name ∙ sym called) (custom ∙ (ap Some same ∙ sym brought))),
      same_registers new more (given.bucket.1 ∙ sym got.bucket.1) (given.limiter.1 ∙ sym got.limiter.1) (given.bucket_names ∙ sym got.bucket_names) (given.limiter_names ∙ sym got.limiter_names),
    )

-- ---- a client's parts

pub holds_itself : (strategy : RetryStrategy Permit) → HoldAlike pays_from pays strategy strategy
holds_itself (Never strategy) = tt
holds_itself (Standard strategy) = refl

-- a cache has no load at first
pub opens_timed : (cache : SharedIdentityCache) → LoadIsTimed (cached_by cache)
opens_timed NoCache = tt
opens_timed (Lazy terms) = tt

pub registers_alike : (one two : Registers Pace) → one ≡ two → AreAlike one two
registers_alike one two same = record {
  books = ap (λ (r : Registers Pace). r.books) same;
  limiters = ap (λ (r : Registers Pace). r.limiters) same;
  bucket_of = λ partition. ap (λ (r : Registers Pace). lookup (by_partition partition) r.bucket_names) same;
  limiter_of = λ partition. ap (λ (r : Registers Pace). lookup (by_partition partition) r.limiter_names) same;
}

abbrev World : (V W : Type 0) → (V → Type 0) → (W → Type 0) → Type 0
World V W v w = ServiceWorld (Classifier ServiceError V v) (Slot OwnInterceptor W w)

abbrev OneClient : (V W : Type 0) → (V → Type 0) → (W → Type 0) → Type 0
OneClient V W v w = ScriptedClient (Classifier ServiceError V v) (Slot OwnInterceptor W w)

-- an object and its client
abbrev Pair : (V W : Type 0) → (V → Type 0) → (W → Type 0) → Type 0
Pair V W v w = Described (Classifier ServiceError V v) (Slot OwnInterceptor W w)

module _ {V W : Type 0} {v : V → Type 0} {w : W → Type 0} where
  module _ (ranked : Classifier ServiceError V v → ℤ) where
    built_alike : (builder : ServiceBuilder V W v w) (one two : World V W v w) → IsBuiltBy ranked builder one → IsBuiltBy ranked builder two → RestAlike pays_from pays one.parts two.parts
    built_alike builder one two s t =
        let p = s.built.parts in
        let q = t.built.parts in
        let deserializers = same_some _ _ (p.deserializer ∙ sym q.deserializer) in
        record {
          given = record {
            client = p.settings ∙ sym q.settings;
            sleep_impl = p.sleep_impl ∙ sym q.sleep_impl;
            time_source = p.time_source ∙ sym q.time_source;
            classifiers = one_priority ranked builder.classifiers one.parts.given.classifiers.items two.parts.given.classifiers.items s.built.classifiers t.built.classifiers;
            options = p.options ∙ sym q.options;
            schemes = p.schemes ∙ sym q.schemes;
            endpoint = same_some _ _ (p.endpoint ∙ sym q.endpoint);
            serializer = same_some _ _ (p.serializer ∙ sym q.serializer);
            deserializer = ap (λ d. d.deserializer) deserializers;
            may_stream = ap (λ d. d.may_stream) deserializers;
          };
          strategy = subst (λ x. HoldAlike pays_from pays one.parts.strategy x) (same_some _ _ (p.strategy ∙ sym q.strategy)) (holds_itself one.parts.strategy);
          interceptors = p.interceptors ∙ sym q.interceptors;
          identities = record {
            sources = p.sources ∙ sym q.sources;
            cached = p.cached ∙ sym q.cached;
            load = p.load ∙ sym q.load;
            timed = subst LoadIsTimed (sym p.cached) (opens_timed builder.cache);
          };
        }

    builds_alike : (old : Registers Pace) (object : ClientObject) (one two : OneClient V W v w) (new more : Registers Pace) → Builds ranked old object one new → Builds ranked old object two more
        → ClientsAlike one two × (new ≡ more)
    builds_alike old object one two new more s t =
        let met = one_partition object.target.service object.rules.bucket old s.partition t.partition new more s.registered t.registered in (
          record {
            parts = built_alike (builder_of s.partition object) one.world two.world s.built (subst (λ p. IsBuiltBy ranked (builder_of p object) two.world) (sym met.0) t.built);
            identities = s.identities ∙ sym t.identities;
          },
          met.1,
        )

    -- ---- all clients

    each_alike : (ones twos : List (Pair V W v w)) (old new more : Registers Pace) → map (λ (d : Pair V W v w). d.object) ones ≡ map (λ (d : Pair V W v w). d.object) twos → Chained (BuildsOne ranked) old ones new → Chained (BuildsOne ranked) old twos more
        → EachAlike ClientsAlike (map (λ (d : Pair V W v w). d.client) ones) (map (λ (d : Pair V W v w). d.client) twos) × (new ≡ more)
    each_alike [] [] old new more same s t = (tt, s ∙ sym t)
    each_alike [] (e ∷ es) old new more same s t = absurd (cc same)
    each_alike (d ∷ ds) [] old new more same s t = absurd (cc same)
    each_alike (d ∷ ds) (e ∷ es) old new more same (mid, this, rest) (away, that, later) =
        let head : d.object ≡ e.object = cc same in
        let tail : map (λ (x : Pair V W v w). x.object) ds ≡ map (λ (x : Pair V W v w). x.object) es = cc same in
        let met = builds_alike old d.object d.client e.client mid away this (subst (λ o. Builds ranked old o e.client away) (sym head) that) in
        let others = each_alike ds es mid new more tail rest (subst (λ r. Chained (BuildsOne ranked) r es more) (sym met.1) later) in
        ((met.0, others.0), others.1)

    pub opened_alike : (buckets : List BucketTerms) (moment : ℕ) (words : List ℕ) (objects : List ClientObject) (one two : ClientSet (Classifier ServiceError V v) (Slot OwnInterceptor W w))
        → IsOpened ranked buckets moment words objects one → IsOpened ranked buckets moment words objects two → SetsAlike one two
    opened_alike buckets moment words objects one two s t =
        let met = each_alike s.clients.described t.clients.described _ one.quota two.quota (s.clients.objects_are ∙ sym t.clients.objects_are) s.clients.over t.clients.over in
        record {
          outside = s.outside ∙ sym t.outside;
          quota = registers_alike one.quota two.quota met.1;
          clients = subst (λ l. EachAlike ClientsAlike l two.clients.items) (sym s.clients.clients_are)
              (subst (λ l. EachAlike ClientsAlike (map (λ (d : Pair V W v w). d.client) s.clients.described) l) (sym t.clients.clients_are) met.0);
        }
