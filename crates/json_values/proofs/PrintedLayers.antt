-- Settings and layers that are printed are read again.
use Rattle.std.proofs.Common.{◌≡◌, ℕ, List, [], ◌∷◌, ◌++◌, map, length, Bool, true, false, not, nat_le, nat_eq, Option, Some, None, is_none, refl, arith, ap, sym, subst, ◌∙◌, append_assoc}
use Rattle.std.proofs.lemmas.Bool.{and_parts, or_parts, not-true, leb-true, le-leb, le-ltb, false_from_ne_true, both_ways}
use Rattle.std.proofs.lemmas.List.{append-nil, take_all}
use Rattle.std.proofs.lemmas.Slice.Eq.{bytes_eq-Decides}
use Rattle.std.specs.Cmp.Lexicographic.{pointwise}
use Rattle.std.specs.List.{list_all, list_any, position, position_or_len}
use Rattle.serde_json.specs.Data.{null}
use Rattle.serde_json.specs.View.{items_of}
use Rattle.smithy_context.specs.Layer.{is_at, placed, put_entry, merged}
use Rattle.smithy_context.specs.Setting.{key_of, key_name, key_named, same_key}
use Rattle.smithy_context.proofs.LookingLemmas.{same_is}
use Rattle.smithy_types.specs.declared.config.RetryConfig.{RetryConfig}
use Rattle.smithy_types.specs.declared.config.RetrySpec.{RetrySpec}
use Rattle.smithy_types.specs.declared.config.RetrySpecVersion.{RetrySpecVersion}
use Rattle.smithy_types.specs.declared.config.RetrySpecVersion.TheVariants as versions
use Rattle.smithy_types.specs.declared.config.StalledStreamProtectionConfig.{StalledStreamProtectionConfig}
use Rattle.smithy_types.specs.declared.config.TimeoutConfig.{TimeoutConfig}
use Rattle.smithy_context.specs.declared.layer.LayerEntry.{LayerEntry}
use Rattle.smithy_types.specs.declared.partition.CustomPartition.{CustomPartition}
use Rattle.smithy_types.specs.declared.partition.RetryPartition.{RetryPartition}
use Rattle.smithy_context.specs.declared.setting.Setting.{Setting}
use Rattle.smithy_context.specs.declared.setting.Setting.TheVariants as settings
use Rattle.smithy_context.specs.declared.setting.SettingKey.{SettingKey}
use Rattle.smithy_context.specs.declared.setting.SettingKey.TheVariants as keys
use Rattle.json_forms.specs.Forms.{word_at, optional_at, true_at, texts_at, blob_at, hex_at, only_at}
use Rattle.json_forms.specs.Lists.{list_of, fresh, name_at, named_once}
use Rattle.json_values.specs.SettingReadings.{user_key, key_of_text, layer_entry_at, layer_at}
use Rattle.json_values.specs.SettingForms.{timeouts_at, version_at, spec_at, retry_at, stall_at, default_partition, setting_at}
use Rattle.json_values.specs.Spellable.{is_u32, setting_spellable, is_of_key, layer_entry_spellable, key_texts, layer_spellable}
use Rattle.json_forms.specs.Prints.{null_or}
use Rattle.json_values.specs.Values.{key_text, layer_entry_data, layer_data}
use Rattle.json_values.specs.SettingForms.{timeouts_data, spec_data, retry_data, stall_data, value_data}
use Rattle.json_values.proofs.PrintedForms.{three_parts, list_read, optional_read, optional_read_all, optional_number_read, texts_read, blob_read}
use Rattle.json_values.proofs.PrintedNames.{mode_read, reconnect_read}

timeouts_read : (t : TimeoutConfig) → timeouts_at (timeouts_data t) ≡ Some t
unfolding timeouts_at timeouts_data
timeouts_read t = rw (optional_number_read t.connect, optional_number_read t.read, optional_number_read t.operation, optional_number_read t.attempt) refl

spec_of : RetrySpecVersion → Bool → ℕ → RetrySpec
spec_of v l n = record { version = v; long_polling = l; non_throttling_initial_backoff = n }

version_read : (v : RetrySpecVersion) (l : Bool) (n : ℕ) → spec_at (spec_data (spec_of v l n)) ≡ Some (spec_of v l n)
unfolding spec_of spec_at spec_data version_at
version_read versions.V2_0 l n = refl
version_read versions.V2_1 l n = refl

spec_read : (s : RetrySpec) → spec_at (spec_data s) ≡ Some s
unfolding spec_of
spec_read s = version_read s.version s.long_polling s.non_throttling_initial_backoff

no_spec : spec_at null ≡ None
unfolding spec_at
no_spec = refl

optional_spec_read : (s : Option RetrySpec) → optional_at spec_at (null_or spec_data s) ≡ Some s
optional_spec_read s = optional_read_all spec_at spec_data no_spec spec_read s

retry_read : (r : RetryConfig) → is_u32 r.max_attempts ≡ true → retry_at (retry_data r) ≡ Some r
unfolding retry_at retry_data
retry_read r h = rw (mode_read r.mode, h, reconnect_read r.reconnect, optional_spec_read r.spec) refl

stall_read : (s : StalledStreamProtectionConfig) → stall_at (stall_data s) ≡ Some s
unfolding stall_at stall_data
stall_read s = refl

-- ---- keys

user_key_read : (name : List ℕ) → user_key (key_text (keys.User name)) ≡ Some (keys.User name)
unfolding user_key
user_key_read name = rw (le-leb 5 (length (key_text (keys.User name))) (omega arith)) refl

key_read : (k : SettingKey) → key_of_text (key_text k) ≡ Some k
unfolding key_of_text key_named key_name
key_read (keys.User name) = user_key_read name
key_read _ = refl

-- ---- settings

default_again : (p : RetryPartition) → is_none p.custom ≡ true → default_partition p.name ≡ p
default_again p h = ap (λ (c : Option CustomPartition). let q : RetryPartition = record { name = p.name; custom = c } in q) (sym (nothing p.custom h))
  where
    nothing : (c : Option CustomPartition) → is_none c ≡ true → c ≡ None
    nothing None h = refl
    nothing (Some c) h = absurd (cc)

own_key_read : (s : Setting) → setting_spellable s ≡ true → setting_at (key_of s) (value_data s) ≡ Some s
unfolding setting_at value_data true_at setting_spellable
own_key_read (settings.Timeouts value) h = rw (timeouts_read value) refl
own_key_read (settings.Retry value) h = rw (retry_read value h) refl
own_key_read (settings.Stall value) h = rw (stall_read value) refl
own_key_read (settings.Partition value) h = ap (λ (p : RetryPartition). Some (settings.Partition p)) (default_again value h)
own_key_read (settings.Bucket value) h = rw h refl
own_key_read (settings.Preference value) h = rw (texts_read value) refl
own_key_read (settings.Disable value) h = rw (texts_read value) refl
own_key_read (settings.User name value) h = rw (blob_read value h) refl
own_key_read _ h = refl

setting_read : (k : SettingKey) (s : Setting) → is_of_key k s ≡ true → setting_at k (value_data s) ≡ Some s
setting_read k s h =
    let parts = and_parts (same_key (key_of s) k) (setting_spellable s) h in
    subst (λ (l : SettingKey). setting_at l (value_data s) ≡ Some s) (same_is (key_of s) k parts.0) (own_key_read s parts.1)

no_setting : (k : SettingKey) → setting_at k null ≡ None
unfolding setting_at timeouts_at retry_at stall_at true_at texts_at blob_at hex_at only_at
no_setting (keys.User name) = refl
no_setting _ = refl

layer_entry_read : (e : LayerEntry) → layer_entry_spellable e ≡ true → layer_entry_at (layer_entry_data e) ≡ Some e
unfolding layer_entry_at layer_entry_data layer_entry_spellable
layer_entry_read e h = rw (key_read e.key, optional_read (setting_at e.key) value_data (is_of_key e.key) (no_setting e.key) (setting_read e.key) e.value h) refl

-- ---- layers

entry_name : (e : LayerEntry) → name_at (layer_entry_data e) ≡ Some (key_text e.key)
unfolding name_at layer_entry_data
entry_name e = refl

names_read : (l : List LayerEntry) → list_of name_at (items_of (map layer_entry_data l)) ≡ Some (key_texts l)
unfolding list_of
names_read [] = refl
names_read (e ∷ l) = rw (entry_name e, names_read l) refl

named_once_read : (l : List LayerEntry) → fresh [] (key_texts l) ≡ true → named_once (items_of (map layer_entry_data l)) ≡ Some tt
unfolding named_once
named_once_read l h = rw (names_read l, h) refl

-- no entry has the key
abbrev is_absent : SettingKey → List LayerEntry → Type 0
is_absent k l = list_any (pointwise nat_eq (key_text k)) (key_texts l) ≡ false

not_at : (k : SettingKey) (e : LayerEntry) → pointwise nat_eq (key_text k) (key_text e.key) ≡ false → is_at k e ≡ false
not_at k e h = false_from_ne_true (is_at k e) (λ s. both_ways _ h ((bytes_eq-Decides (key_text k) (key_text e.key)).1 (ap key_text (sym (same_is e.key k s)))))

past_all : (k : SettingKey) (l : List LayerEntry) → is_absent k l → position_or_len (is_at k) l ≡ length l
past_all k [] h = refl
past_all k (e ∷ l) h =
    let parts = or_parts (pointwise nat_eq (key_text k) (key_text e.key)) (list_any (pointwise nat_eq (key_text k)) (key_texts l)) h in
    rw (not_at k e parts.0, past_all k l parts.1) (omega arith)

nowhere : (k : SettingKey) (l : List LayerEntry) → is_absent k l → position (is_at k) l ≡ None
nowhere k l h = rw (past_all k l h, le-ltb (length l) (length l) (omega arith)) refl

put_behind : (l : List LayerEntry) (e : LayerEntry) → is_absent e.key l → put_entry l e ≡ l ++ e ∷ []
put_behind l e h = ap (λ (i : Option ℕ). placed i l e) (nowhere e.key l h)

key_texts-push : (l : List LayerEntry) (e : LayerEntry) → key_texts (l ++ e ∷ []) ≡ key_texts l ++ key_text e.key ∷ []
key_texts-push [] e = refl
key_texts-push (x ∷ l) e = ap (λ (ts : List (List ℕ)). key_text x.key ∷ ts) (key_texts-push l e)

pub merged_behind : (l es : List LayerEntry) → fresh (key_texts l) (key_texts es) ≡ true → merged l es ≡ l ++ es
merged_behind l [] h = sym (append-nil l)
merged_behind l (e ∷ es) h =
    let parts = and_parts (not (list_any (pointwise nat_eq (key_text e.key)) (key_texts l))) (fresh (key_texts l ++ key_text e.key ∷ []) (key_texts es)) h in
    ap (λ (m : List LayerEntry). merged m es) (put_behind l e (not-true _ parts.0))
    ∙ merged_behind (l ++ e ∷ []) es (ap (λ (ts : List (List ℕ)). fresh ts (key_texts es)) (key_texts-push l e) ∙ parts.1)
    ∙ append_assoc l (e ∷ []) es

pub layer_read : (l : List LayerEntry) → layer_spellable l ≡ true → layer_at (layer_data l) ≡ Some l
unfolding layer_at layer_data layer_spellable
layer_read l h =
    let parts = and_parts (fresh [] (key_texts l)) (list_all layer_entry_spellable l) h in
    rw (named_once_read l parts.0, list_read layer_entry_at layer_entry_data layer_entry_spellable layer_entry_read l parts.1) refl
