-- What is prepared and built of a builder doesn't go by its list of classifiers.
use Rattle.std.proofs.Common.{List}
use Rattle.client_components.specs.declared.world.RuntimeComponents.{RuntimeComponents}
use Rattle.retry_policy.specs.declared.classify.Classifier.{Classifier}
use Rattle.smithy_base.specs.declared.intercept.Slot.{Slot}
use Rattle.client_builder.specs.Built.{HasParts}
use Rattle.client_builder.specs.ClientLayer.{merged_layer}
use Rattle.client_builder.specs.Preparing.{IsPrepared}
use Rattle.client_builder.specs.declared.builder.OperationBuilder.{OperationBuilder}
use Rattle.client_builder.specs.declared.own_interceptor.OwnInterceptor.{OwnInterceptor}
use Rattle.client_builder.specs.declared.prepared.Prepared.{Prepared}
use Rattle.client_builder.specs.declared.scheme.IdentityResolver.{IdentityResolver}
use Rattle.client_builder.specs.declared.scheme.Scheme.{Scheme}

module _ {I O E A R Z D V W : Type 0} {v : V → Type 0} {w : W → Type 0} where
  pub prepared_alike : (b : OperationBuilder I O E A R Z D V W v w) (cs : List (Classifier E V v)) (p : Prepared A R W w)
      → IsPrepared b p → IsPrepared (record b { classifiers = cs }) p
  unfolding merged_layer
  prepared_alike b cs p h = record {
    settings = h.settings;
    options = h.options;
    endpoint = h.endpoint;
    front = h.front;
    front_room = h.front_room;
    schemes = h.schemes;
    schemes_room = h.schemes_room;
    sources = h.sources;
    sources_room = h.sources_room;
  }

module _ {T X Q P L I O E A R Z D V W : Type 0} {v : V → Type 0} {w : W → Type 0} where
  pub parts_alike : (b : OperationBuilder I O E A R Z D V W v w) (cs : List (Classifier E V v)) (x : X) (q : Q)
      (client : RuntimeComponents T X Q (Classifier E V v) (Slot OwnInterceptor W w) (Scheme A) (IdentityResolver R) Z D P L)
      → HasParts (record b { classifiers = cs }) x q client → HasParts b x q client
  unfolding merged_layer
  parts_alike b cs x q client h = record {
    settings = h.settings;
    sleep_impl = h.sleep_impl;
    time_source = h.time_source;
    options = h.options;
    schemes = h.schemes;
    endpoint = h.endpoint;
    serializer = h.serializer;
    deserializer = h.deserializer;
    strategy = h.strategy;
    interceptors = h.interceptors;
    sources = h.sources;
    cached = h.cached;
    sleeps = h.sleeps;
    call = h.call;
    load = h.load;
    outside_is = h.outside_is;
    quota_is = h.quota_is;
    log = h.log;
  }
