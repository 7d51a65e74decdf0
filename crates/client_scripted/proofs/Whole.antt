-- The builder of a client that a script describes lacks nothing.
use Rattle.std.proofs.Common.{◌≡◌, ◌∙◌, refl, sym, ap, subst, Bool, true, false, cond, List, [], ◌∷◌, ◌++◌, Option, None, Some, append-nil}
use Rattle.std.specs.Prelude.{ℕ, ℤ, is_none, is_some, option_and_then, option_map}
use Rattle.std.specs.List.{flat_map}
use Rattle.json_scripts.specs.declared.client.terms.ClientObject.{ClientObject}
use Rattle.client_scripted.specs.declared.service.error.ServiceError.{ServiceError}
use Rattle.client_builder.specs.declared.own_interceptor.OwnInterceptor.{OwnInterceptor}
use Rattle.retry_policy.specs.declared.classify.Classifier.{Classifier}
use Rattle.smithy_base.specs.declared.intercept.Slot.{Slot}
use Rattle.client_builder.specs.ClientLayer.{mark, merged_layer, putting, with_own, with_set}
use Rattle.client_builder.specs.Plugins.{entries_of}
use Rattle.client_builder.specs.Refusal.{IsRefusedFor, first_absent, lacks, refusal}
use Rattle.client_builder.specs.declared.refusal.BuildRefusal.{BuildRefusal}
use Rattle.client_builder.specs.declared.refusal.BuildRefusal.TheVariants.{OutOfMemory, Refused}
use Rattle.smithy_context.proofs.LookingLemmas.{keeps_once, merges_over, puts_one}
use Rattle.smithy_context.specs.Layer.{entry, entry_at, keys_once, merged, put_entry}
use Rattle.smithy_context.specs.Setting.{key_of, same_key}
use Rattle.smithy_context.specs.Settings.{or_else}
use Rattle.smithy_context.specs.declared.layer.LayerEntry.{LayerEntry}
use Rattle.smithy_context.specs.declared.setting.Setting.{Setting}
use Rattle.smithy_context.specs.declared.setting.Setting.TheVariants as set
use Rattle.smithy_context.specs.declared.setting.SettingKey.{SettingKey}
use Rattle.smithy_context.specs.declared.setting.SettingKey.TheVariants as keys
use Rattle.smithy_types.specs.declared.build_error.BuildError.TheVariants.{Missing}
use Rattle.smithy_types.specs.declared.build_error.Part.TheVariants as part
use Rattle.smithy_types.specs.declared.partition.RetryPartition.{RetryPartition}
use Rattle.client_scripted.specs.Clients.{IsBuiltBy, ServiceBuilder, ServiceWorld, builder_of}
use Rattle.client_scripted.specs.Parts.{auth_parts_of, auth_terms_of, plugin_layer, plugins_of, retry_of, with_v2}

-- ---- puts of other keys

-- a put of another key leaves a key
skip : (s : Setting) (l : List LayerEntry) (k : SettingKey) → same_key (key_of s) k ≡ false → entry_at (putting (Some s) l) k ≡ entry_at l k
skip s l k h = puts_one l (entry (key_of s) (Some s)) k ∙ ap (λ b. cond b (Some (entry (key_of s) (Some s))) (entry_at l k)) h

skip_mark : (s : Setting) (wanted : Bool) (l : List LayerEntry) (k : SettingKey) → same_key (key_of s) k ≡ false → entry_at (putting (mark s wanted) l) k ≡ entry_at l k
skip_mark s true l k h = skip s l k h
skip_mark s false l k h = refl

skip_some : {A : Type 0} (f : A → Setting) (o : Option A) (l : List LayerEntry) (k : SettingKey) → ((a : A) → same_key (key_of (f a)) k ≡ false) → entry_at (putting (option_map f o) l) k ≡ entry_at l k
skip_some f None l k h = refl
skip_some f (Some a) l k h = skip (f a) l k (h a)

skip_v2 : (v2 : Bool) (l : List LayerEntry) (k : SettingKey) → same_key keys.V2 k ≡ false → entry_at (with_v2 v2 l) k ≡ entry_at l k
skip_v2 true l k h = refl
skip_v2 false l k h = puts_one l (entry keys.V2 None) k ∙ ap (λ b. cond b (Some (entry keys.V2 None)) (entry_at l k)) h

-- a put gives its key the entry
put_here : (s : Setting) (l : List LayerEntry) → same_key (key_of s) (key_of s) ≡ true → entry_at (putting (Some s) l) (key_of s) ≡ Some (entry (key_of s) (Some s))
put_here s l h = puts_one l (entry (key_of s) (Some s)) (key_of s) ∙ ap (λ b. cond b (Some (entry (key_of s) (Some s))) (entry_at l (key_of s))) h

-- ---- each key stands once

once_some : {A : Type 0} (f : A → Setting) (o : Option A) (l : List LayerEntry) → keys_once l ≡ true → keys_once (putting (option_map f o) l) ≡ true
once_some f None l h = h
once_some f (Some a) l h = keeps_once l (entry (key_of (f a)) (Some (f a))) h

once_v2 : (v2 : Bool) (l : List LayerEntry) → keys_once l ≡ true → keys_once (with_v2 v2 l) ≡ true
once_v2 true l h = h
once_v2 false l h = keeps_once l (entry keys.V2 None) h

-- ---- the plugin's layer

module _ (partition : Option RetryPartition) (prefix : Option (List ℕ)) (preference : Option (List (List ℕ))) (v2 : Bool) where
  once : keys_once (plugin_layer partition prefix preference v2) ≡ true
  unfolding plugin_layer
  once = once_v2 v2 (putting (option_map set.Preference preference) (putting (option_map set.Prefix prefix) (putting (option_map set.Partition partition) [])))
      (once_some set.Preference preference (putting (option_map set.Prefix prefix) (putting (option_map set.Partition partition) []))
      (once_some set.Prefix prefix (putting (option_map set.Partition partition) []) (once_some set.Partition partition [] refl)))

  -- it says nothing of any other key
  says_nothing : (k : SettingKey) → same_key keys.V2 k ≡ false → same_key keys.Preference k ≡ false → same_key keys.Prefix k ≡ false → same_key keys.Partition k ≡ false
      → entry_at (plugin_layer partition prefix preference v2) k ≡ None
  unfolding plugin_layer
  says_nothing k a b c d = skip_v2 v2 (putting (option_map set.Preference preference) (putting (option_map set.Prefix prefix) (putting (option_map set.Partition partition) []))) k a
      ∙ skip_some set.Preference preference (putting (option_map set.Prefix prefix) (putting (option_map set.Partition partition) [])) k (λ p. b)
      ∙ skip_some set.Prefix prefix (putting (option_map set.Partition partition) []) k (λ p. c)
      ∙ skip_some set.Partition partition [] k (λ p. d)

-- ---- the plugins' settings are those of the layer

entries_are : (layer : List LayerEntry) (enforce : Bool) → flat_map entries_of (plugins_of layer enforce) ≡ layer
entries_are layer true = append-nil layer
entries_are layer false = append-nil layer

-- what the plugins leave of a key that they say nothing of
left_of : (own layer : List LayerEntry) (enforce : Bool) (k : SettingKey) → keys_once layer ≡ true → entry_at layer k ≡ None
    → entry_at (merged own (flat_map entries_of (plugins_of layer enforce))) k ≡ entry_at own k
left_of own layer enforce k once none =
    ap (λ m. entry_at (merged own m) k) (entries_are layer enforce) ∙ merges_over own layer k once ∙ ap (λ e. or_else e (entry_at own k)) none

-- a key with a value isn't lacking
not_lacking : (l : List LayerEntry) (k : SettingKey) (s : Setting) → entry_at l k ≡ Some (entry k (Some s)) → lacks l k ≡ false
not_lacking l k s h = ap (λ e. is_none (option_and_then (λ v. v) (option_map (λ (x : LayerEntry). x.value) e))) h

-- ---- what the builder sets by itself

module _ (c : ClientObject) where
  abbrev timed : List LayerEntry
  timed = putting (Some (set.Timeouts c.rules.timeouts)) []

  abbrev retried : List LayerEntry
  retried = putting (option_map set.Retry (retry_of c.rules.retry)) timed

  abbrev stalled : List LayerEntry
  stalled = putting (option_map set.Stall c.rules.stall) retried

  abbrev placed_at : List LayerEntry
  placed_at = putting (Some set.EndpointParams) stalled

  abbrev signed : List LayerEntry
  signed = putting (mark set.AuthParams (auth_parts_of c.auth).no_auth) placed_at

  abbrev partitioned : List LayerEntry
  partitioned = putting (Some (set.Partition (record { name = c.target.service; custom = None }))) signed

  abbrev own : List LayerEntry
  own = putting (Some set.V2) partitioned

  own_endpoint : entry_at own keys.EndpointParams ≡ Some (entry keys.EndpointParams (Some set.EndpointParams))
  own_endpoint = skip set.V2 partitioned keys.EndpointParams refl
      ∙ skip (set.Partition (record { name = c.target.service; custom = None })) signed keys.EndpointParams refl
      ∙ skip_mark set.AuthParams (auth_parts_of c.auth).no_auth placed_at keys.EndpointParams refl
      ∙ put_here set.EndpointParams stalled refl

  own_timeouts : entry_at own keys.Timeouts ≡ Some (entry keys.Timeouts (Some (set.Timeouts c.rules.timeouts)))
  own_timeouts = skip set.V2 partitioned keys.Timeouts refl
      ∙ skip (set.Partition (record { name = c.target.service; custom = None })) signed keys.Timeouts refl
      ∙ skip_mark set.AuthParams (auth_parts_of c.auth).no_auth placed_at keys.Timeouts refl
      ∙ skip set.EndpointParams stalled keys.Timeouts refl
      ∙ skip_some set.Stall c.rules.stall retried keys.Timeouts (λ s. refl)
      ∙ skip_some set.Retry (retry_of c.rules.retry) timed keys.Timeouts (λ r. refl)
      ∙ put_here (set.Timeouts c.rules.timeouts) [] refl

-- where neither is lacking, none is absent
none_of : (a b : Bool) → a ≡ false → b ≡ false → first_absent ((a, part.EndpointParams) ∷ (b, part.Timeouts) ∷ []) ≡ None
none_of true b h k = absurd (cc)
none_of false true h k = absurd (cc)
none_of false false h k = refl

module _ (partition : Option RetryPartition) (c : ClientObject) where
  abbrev layer : List LayerEntry
  layer = plugin_layer partition c.target.prefix (auth_terms_of c.auth).preference c.rules.flags.v2

  -- what stands of a key that the plugins say nothing of
  stands : (k : SettingKey) (s : Setting) → same_key keys.V2 k ≡ false → same_key keys.Preference k ≡ false → same_key keys.Prefix k ≡ false → same_key keys.Partition k ≡ false
      → entry_at (own c) k ≡ Some (entry k (Some s)) → lacks (merged (own c) (flat_map entries_of (plugins_of layer c.rules.flags.enforce))) k ≡ false
  stands k s a b d e h = not_lacking (merged (own c) (flat_map entries_of (plugins_of layer c.rules.flags.enforce))) k s
      (left_of (own c) layer c.rules.flags.enforce k (once partition c.target.prefix (auth_terms_of c.auth).preference c.rules.flags.v2)
      (says_nothing partition c.target.prefix (auth_terms_of c.auth).preference c.rules.flags.v2 k a b d e) ∙ h)

module _ (V W : Type 0) (v : V → Type 0) (w : W → Type 0) (partition : Option RetryPartition) (c : ClientObject) where
  endpoint : lacks (merged_layer c.target.service (builder_of {V = V} {W = W} {v = v} {w = w} partition c)) keys.EndpointParams ≡ false
  unfolding builder_of merged_layer
  endpoint = stands partition c keys.EndpointParams set.EndpointParams refl refl refl refl (own_endpoint c)

  timeouts : lacks (merged_layer c.target.service (builder_of {V = V} {W = W} {v = v} {w = w} partition c)) keys.Timeouts ≡ false
  unfolding builder_of merged_layer
  timeouts = stands partition c keys.Timeouts (set.Timeouts c.rules.timeouts) refl refl refl refl (own_timeouts c)

  pub lacks_nothing : refusal (builder_of {V = V} {W = W} {v = v} {w = w} partition c) ≡ None
  unfolding builder_of
  lacks_nothing = ap (option_map Missing) (none_of _ _ (endpoint) (timeouts))

-- so it is of the builder that was made
pub whole_builder : {V W : Type 0} {v : V → Type 0} {w : W → Type 0} (b : ServiceBuilder V W v w) (partition : Option RetryPartition) (c : ClientObject) → b ≡ builder_of partition c → refusal b ≡ None
whole_builder {V = V} {W = W} {v = v} {w = w} b partition c e = subst (λ x. refusal x ≡ None) (sym e) (lacks_nothing V W v w partition c)

-- what is built by a builder is built by an equal one
pub built_by : {V W : Type 0} {v : V → Type 0} {w : W → Type 0} (ranked : Classifier ServiceError V v → ℤ) (b d : ServiceBuilder V W v w) (client : ServiceWorld (Classifier ServiceError V v) (Slot OwnInterceptor W w))
    → b ≡ d → IsBuiltBy ranked b client → IsBuiltBy ranked d client
built_by ranked b d client e h = subst (λ x. IsBuiltBy ranked x client) e h

-- a builder that lacks nothing is refused for want of memory alone
pub only_memory : {V W : Type 0} {v : V → Type 0} {w : W → Type 0} (b : ServiceBuilder V W v w) (r : BuildRefusal) → refusal b ≡ None → IsRefusedFor b r → r ≡ OutOfMemory
only_memory b (Refused error) h k = absurd (cc)
only_memory b OutOfMemory h k = refl
