-- The builder of a host's client lacks nothing, the client is built, and its seat is opened.
use Rattle.std.proofs.Common.{◌≡◌, ◌∙◌, ℕ, ◌+◌, ◌≤◌, ℤ, refl, sym, ap, subst, arith, append_assoc, append-nil, List, [], ◌∷◌, ◌++◌, length, Option, None}
use Rattle.std.proofs.lemmas.List.Sorted.{length_permutation}
use Rattle.smithy_types.specs.declared.partition.RetryPartition.{RetryPartition}
use Rattle.smithy_base.specs.declared.intercept.Slot.{Slot}
use Rattle.json_scripts.specs.declared.client.terms.ClientObject.{ClientObject}
use Rattle.rate_limit.specs.Pace.{Pace}
use Rattle.retry_policy.specs.declared.classify.Classifier.{Classifier}
use Rattle.retry_quota.specs.Registers.{Registers}
use Rattle.outside_hosted.specs.declared.hosted_outside.HostedOutside.{HostedOutside}
use Rattle.client_builder.specs.Built.{IsBuiltFrom}
use Rattle.client_builder.specs.ClientLayer.{merged_layer}
use Rattle.client_builder.specs.Priority.{IsByPriority}
use Rattle.client_builder.specs.Refusal.{refusal}
use Rattle.client_builder.specs.declared.own_interceptor.OwnInterceptor.{OwnInterceptor}
use Rattle.client_scripted.specs.Clients.{ServiceBuilder, builder_of}
use Rattle.client_scripted.specs.Parts.{PartitionOf}
use Rattle.client_scripted.specs.declared.service.error.ServiceError.{ServiceError}
use Rattle.client_scripted.proofs.Whole.{lacks_nothing}
use Rattle.host_session.specs.declared.service.deserializer.ErrorRule.{ErrorRule}
use Rattle.host_session.specs.declared.seat.Seat.{Seat}
use Rattle.host_session.specs.declared.seat.SeatTerms.{SeatTerms}
use Rattle.host_session.specs.Classifiers.{AddsRetryAfter}
use Rattle.host_session.specs.declared.service.retry_after.RetryAfterClassifier.{RetryAfterClassifier}
use Rattle.cli_serve.specs.Opening.{BuildsClient, BuiltComponents, IsFresh, IsServedFrom, OpensSeat, OpensSeats, ServedBuilder, ServedClient, served_builder}
use Rattle.cli_serve.specs.declared.description.SeatDescription.{SeatDescription}

whole_of : (V W : Type 0) (v : V → Type 0) (w : W → Type 0) (partition : Option RetryPartition) (c : ClientObject) (errors : List ErrorRule) →
    refusal (served_builder (builder_of {V = V} {W = W} {v = v} {w = w} partition c) errors) ≡ None
unfolding builder_of merged_layer
whole_of V W v w partition c errors = lacks_nothing V W v w partition c

-- what has room for the registered classifiers has room for those that were built
pub has_room : {C : Type 0} (ranked : C → ℤ) (registered sorted : List C) (capacity : ℕ) → IsByPriority ranked registered sorted → length registered + 1 ≤ capacity → length sorted + 1 ≤ capacity
has_room ranked registered sorted capacity h room =
    subst (λ n. n + 1 ≤ capacity) (sym (length_permutation registered sorted h.same)) room

nothing_left : (rest : List SeatDescription) → length rest ≡ 0 → rest ≡ []
nothing_left [] e = refl
nothing_left (d ∷ rest) e = absurd (omega (arith, e))

module _ {V W : Type 0} {v : V → Type 0} {w : W → Type 0} where
  -- the client is built, and its classifiers are those with the one for delays
  pub served_from : (ranked : Classifier ServiceError V v → ℤ) (b : ServedBuilder V W v w) (outside : HostedOutside) (quota : Registers Pace) (retry_after : Option RetryAfterClassifier)
      (built : BuiltComponents (Classifier ServiceError V v) (Slot OwnInterceptor W w)) (client : ServedClient (Classifier ServiceError V v) (Slot OwnInterceptor W w)) →
      IsBuiltFrom ranked b outside quota built → AddsRetryAfter retry_after built client.components → IsServedFrom ranked b outside quota retry_after client
  served_from ranked b outside quota retry_after built client is adds = record { components = built; built = is; adds = adds }

  -- so it is of the builder that was made
  pub whole_served : (b : ServedBuilder V W v w) (made : ServiceBuilder V W v w) (partition : Option RetryPartition) (c : ClientObject) (errors : List ErrorRule) →
      b ≡ served_builder made errors → made ≡ builder_of partition c → refusal b ≡ None
  whole_served b made partition c errors is_served is_made =
      subst (λ (x : ServedBuilder V W v w). refusal x ≡ None) (sym is_served)
      (subst (λ (x : ServiceBuilder V W v w). refusal (served_builder x errors) ≡ None) (sym is_made) (whole_of V W v w partition c errors))

  -- what was built of a seat's parts is its client
  pub client_built : (ranked : Classifier ServiceError V v → ℤ) (start : ℕ) (d : SeatDescription) (partition : Option RetryPartition) (before after own : Registers Pace) (made : ServiceBuilder V W v w) (b : ServedBuilder V W v w)
      (outside : HostedOutside) (world : ServedClient (Classifier ServiceError V v) (Slot OwnInterceptor W w)) →
      PartitionOf d.client.target.service d.client.rules.bucket before partition after → made ≡ builder_of partition d.client → b ≡ served_builder made d.errors → IsFresh start d.seed outside →
      IsServedFrom ranked b outside own d.retry_after world → BuildsClient ranked start before d world after
  client_built ranked start d partition before after own made b outside world registered is_made is_served fresh built = record {
    partition = partition;
    registered = registered;
    outside = outside;
    fresh = fresh;
    quota = own;
    built = subst (λ (x : ServedBuilder V W v w). IsServedFrom ranked x outside own d.retry_after world)
        (is_served ∙ ap (λ (x : ServiceBuilder V W v w). served_builder x d.errors) is_made) built;
  }

  -- one seat more, behind those that are there
  more_seats : (ranked : Classifier ServiceError V v → ℤ) (start number : ℕ) (old mid new : Registers Pace) (ds : List SeatDescription) (d : SeatDescription)
      (seats : List (Seat (ServedClient (Classifier ServiceError V v) (Slot OwnInterceptor W w)))) (seat : Seat (ServedClient (Classifier ServiceError V v) (Slot OwnInterceptor W w))) →
      OpensSeats ranked start number old ds seats mid → OpensSeat ranked start (number + length seats) mid d seat new → OpensSeats ranked start number old (ds ++ d ∷ []) (seats ++ seat ∷ []) new
  more_seats ranked start number old mid new [] d [] seat same h =
      (new, subst (λ (q : Registers Pace). OpensSeat ranked start number q d seat new) same (subst (λ n. OpensSeat ranked start n mid d seat new) (omega arith) h), refl)
  more_seats ranked start number old mid new (e ∷ ds) d (one ∷ seats) seat (between, first, others) h =
      (between, first, more_seats ranked start (number + 1) between mid new ds d seats seat others (subst (λ n. OpensSeat ranked start n mid d seat new) (omega arith) h))
  more_seats ranked start number old mid new [] d (one ∷ seats) seat absent h = absurd absent
  more_seats ranked start number old mid new (e ∷ ds) d [] seat absent h = absurd absent

  opened_more : (ranked : Classifier ServiceError V v → ℤ) (start number : ℕ) (old mid new : Registers Pace) (ds : List SeatDescription) (d : SeatDescription)
      (seats whole : List (Seat (ServedClient (Classifier ServiceError V v) (Slot OwnInterceptor W w)))) (world : ServedClient (Classifier ServiceError V v) (Slot OwnInterceptor W w)) (terms : SeatTerms) →
      OpensSeats ranked start 0 old ds seats mid → BuildsClient ranked start mid d world new → number ≡ length seats → terms ≡ record { number = number; output_kind = 1; error_kind = 2 } →
      whole ≡ seats ++ record { world = world; run = None; terms = terms } ∷ [] → OpensSeats ranked start 0 old (ds ++ d ∷ []) whole new
  opened_more ranked start number old mid new ds d seats whole world terms opened built is terms_are whole_is =
      subst (λ (all : List (Seat (ServedClient (Classifier ServiceError V v) (Slot OwnInterceptor W w)))). OpensSeats ranked start 0 old (ds ++ d ∷ []) all new) (sym whole_is)
      (more_seats ranked start 0 old mid new ds d seats (record { world = world; run = None; terms = terms }) opened (record {
        client = built;
        run = refl;
        terms = subst (λ n. terms ≡ record { number = n; output_kind = 1; error_kind = 2 }) (is ∙ omega arith) terms_are;
      }))

  -- the seats of a front of these descriptions are opened, and these are left
  pub record Opened (ranked : Classifier ServiceError V v → ℤ) (start : ℕ) (old : Registers Pace) (described rest : List SeatDescription) (seats : List (Seat (ServedClient (Classifier ServiceError V v) (Slot OwnInterceptor W w)))) (new : Registers Pace) : Type 0 where
    pub front : List SeatDescription
    pub parts : front ++ rest ≡ described
    pub opened : OpensSeats ranked start 0 old front seats new

  pub none_opened : (ranked : Classifier ServiceError V v → ℤ) (start : ℕ) (old new : Registers Pace) (described rest : List SeatDescription) (none : List (Seat (ServedClient (Classifier ServiceError V v) (Slot OwnInterceptor W w)))) →
      rest ≡ described → new ≡ old → none ≡ [] → Opened ranked start old described rest none new
  none_opened ranked start old new described rest none whole same empty = record {
    front = [];
    parts = whole;
    opened = subst (λ (seats : List (Seat (ServedClient (Classifier ServiceError V v) (Slot OwnInterceptor W w)))). OpensSeats ranked start 0 old [] seats new) (sym empty) same;
  }

  pub one_opened : (ranked : Classifier ServiceError V v → ℤ) (start number : ℕ) (old mid new : Registers Pace) (described before rest : List SeatDescription) (d : SeatDescription)
      (seats whole : List (Seat (ServedClient (Classifier ServiceError V v) (Slot OwnInterceptor W w)))) (world : ServedClient (Classifier ServiceError V v) (Slot OwnInterceptor W w)) (terms : SeatTerms) →
      Opened ranked start old described before seats mid → before ≡ d ∷ rest → BuildsClient ranked start mid d world new → number ≡ length seats → terms ≡ record { number = number; output_kind = 1; error_kind = 2 } →
      whole ≡ seats ++ record { world = world; run = None; terms = terms } ∷ [] → Opened ranked start old described rest whole new
  one_opened ranked start number old mid new described before rest d seats whole world terms h next built is terms_are whole_is = record {
    front = h.front ++ d ∷ [];
    parts = append_assoc h.front (d ∷ []) rest ∙ sym (ap (λ l. h.front ++ l) next) ∙ h.parts;
    opened = opened_more ranked start number old mid new h.front d seats whole world terms h.opened built is terms_are whole_is;
  }

  pub all_opened : (ranked : Classifier ServiceError V v → ℤ) (start : ℕ) (old new : Registers Pace) (described rest : List SeatDescription) (seats : List (Seat (ServedClient (Classifier ServiceError V v) (Slot OwnInterceptor W w)))) →
      Opened ranked start old described rest seats new → length rest ≡ 0 → OpensSeats ranked start 0 old described seats new
  all_opened ranked start old new described rest seats h none =
      subst (λ (ds : List SeatDescription). OpensSeats ranked start 0 old ds seats new) (sym (append-nil h.front) ∙ sym (ap (λ l. h.front ++ l) (nothing_left rest none)) ∙ h.parts) h.opened
