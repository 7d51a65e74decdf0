-- One client more is built.
use Rattle.std.proofs.Common.{◌≡◌, ◌∙◌, refl, sym, ap, ℤ, List, [], ◌∷◌, ◌++◌, append_assoc, append-nil, map}
use Rattle.json_scripts.specs.declared.client.terms.ClientObject.{ClientObject}
use Rattle.client_scripted.specs.declared.service.error.ServiceError.{ServiceError}
use Rattle.client_builder.specs.declared.own_interceptor.OwnInterceptor.{OwnInterceptor}
use Rattle.rate_limit.specs.Pace.{Pace}
use Rattle.retry_policy.specs.declared.classify.Classifier.{Classifier}
use Rattle.retry_quota.specs.Registers.{Registers}
use Rattle.smithy_base.specs.declared.intercept.Slot.{Slot}
use Rattle.smithy_types.proofs.ChainLemmas.{chained_more}
use Rattle.client_scripted.specs.Clients.{AreBuilt, Builds, BuildsOne, Described}
use Rattle.client_scripted.specs.declared.client.ScriptedClient.{ScriptedClient}

map_more : {A B : Type 0} (f : A → B) (xs : List A) (x : A) → map f (xs ++ x ∷ []) ≡ map f xs ++ f x ∷ []
map_more f [] x = refl
map_more f (y ∷ xs) x = ap (λ l. f y ∷ l) (map_more f xs x)

module _ {V W : Type 0} {v : V → Type 0} {w : W → Type 0} (ranked : Classifier ServiceError V v → ℤ) where
  abbrev client_in : Described (Classifier ServiceError V v) (Slot OwnInterceptor W w) → ScriptedClient (Classifier ServiceError V v) (Slot OwnInterceptor W w)
  client_in d = d.client

  pub none_built : (old : Registers Pace) (before : List (ScriptedClient (Classifier ServiceError V v) (Slot OwnInterceptor W w))) → AreBuilt ranked old [] before before old
  none_built old before = record { described = []; objects_are = refl; clients_are = sym (append-nil before); over = refl }

  pub one_built : (old mid new : Registers Pace) (objects : List ClientObject) (before clients after : List (ScriptedClient (Classifier ServiceError V v) (Slot OwnInterceptor W w))) (object : ClientObject)
      (client : ScriptedClient (Classifier ServiceError V v) (Slot OwnInterceptor W w)) → AreBuilt ranked old objects before clients mid → Builds ranked mid object client new → after ≡ clients ++ client ∷ []
      → AreBuilt ranked old (objects ++ object ∷ []) before after new
  one_built old mid new objects before clients after object client h b e =
      let d : Described (Classifier ServiceError V v) (Slot OwnInterceptor W w) = record { object = object; client = client } in record {
        described = h.described ++ d ∷ [];
        objects_are = map_more (λ (x : Described (Classifier ServiceError V v) (Slot OwnInterceptor W w)). x.object) h.described d ∙ ap (λ l. l ++ object ∷ []) h.objects_are;
        clients_are = e ∙ ap (λ l. l ++ client ∷ []) h.clients_are ∙ append_assoc before (map client_in h.described) (client ∷ [])
            ∙ ap (λ l. before ++ l) (sym (map_more client_in h.described d));
        over = chained_more (BuildsOne ranked) old mid new h.described d h.over b;
      }
