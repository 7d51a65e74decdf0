-- Settings and layers that are read can be spelled.
use Rattle.std.proofs.Common.{◌≡◌, ℕ, zero, suc, ◌^◌, List, [], ◌∷◌, ◌++◌, length, take, drop, codes, Bool, true, false, ◌&&◌, not, nat_le, nat_eq, Option, Some, None, if◌then◌else◌, refl, arith, ap, sym, subst, ◌∙◌}
use Rattle.std.proofs.lemmas.Bool.{and_parts, and_from, le-leb}
use Rattle.std.proofs.lemmas.List.{take-map, take-append-drop, length-take}
use Rattle.std.proofs.lemmas.Slice.Eq.{bytes_eq-Decides}
use Rattle.std.specs.Cmp.Lexicographic.{pointwise}
use Rattle.std.specs.List.{list_all, list_any}
use Rattle.serde_json.specs.Data.{Data, Items, no_items, item}
use Rattle.serde_json.specs.Find.{as_str, as_array, as_bool}
use Rattle.smithy_context.specs.Layer.{entry, merged}
use Rattle.smithy_context.specs.Setting.{key_in, key_name, key_named, key_table}
use Rattle.smithy_types.specs.declared.config.RetryConfig.{RetryConfig}
use Rattle.smithy_context.specs.declared.layer.LayerEntry.{LayerEntry}
use Rattle.smithy_context.specs.declared.setting.SettingKey.{SettingKey}
use Rattle.smithy_context.specs.declared.setting.SettingKey.TheVariants as keys
use Rattle.json_forms.specs.Forms.{optional_at, true_at, texts_at, blob_at}
use Rattle.json_forms.specs.Lists.{list_of, fresh, name_at, once, named_once}
use Rattle.json_forms.specs.Plain.{number_at, number_below, pair_at, septuple_at}
use Rattle.json_forms.specs.Reading.{◌>>=◌}
use Rattle.json_values.specs.SettingReadings.{user_key, or_read, key_of_text, layer_entry_at, layer_at}
use Rattle.json_values.specs.SettingForms.{timeouts_at, spec_at, mode_at, reconnect_at, retry_at, stall_at, setting_at}
use Rattle.json_values.specs.Spellable.{is_u32, bytes_spellable, setting_spellable, is_of_key, layer_entry_spellable, key_texts, layer_spellable}
use Rattle.json_values.specs.Values.{key_text}
use Rattle.json_values.proofs.PrintedLayers.{merged_behind}
use Rattle.json_values.proofs.SpelledForms.{Holds, step, past, step_at, either_by, weaker, three_from, take_passes, OfBytes, items_of_bytes, array_of_bytes, pair_of_bytes, number_within, blob_spelled, optional_spelled, list_spelled}

retry_spelled : (d : Data) → Holds (λ (r : RetryConfig). is_u32 r.max_attempts ≡ true) (retry_at d)
unfolding retry_at Holds
retry_spelled d =
    past _ (septuple_at d) _ (λ p.
    past _ (mode_at p.0) _ (λ m.
    step _ _ (number_below (2 ^ 32) p.1) _ (number_within (2 ^ 32) p.1) (λ a ha.
    past _ (number_at p.2) _ (λ i.
    past _ (number_at p.3) _ (λ x.
    past _ (reconnect_at p.4) _ (λ r.
    past _ (as_bool p.5) _ (λ b.
    past _ (optional_at spec_at p.6) _ (λ s. ha))))))))

pub setting_spelled : (k : SettingKey) (d : Data) → OfBytes d → Holds (λ s. is_of_key k s ≡ true) (setting_at k d)
unfolding setting_at Holds setting_spellable
setting_spelled keys.Timeouts d h = past _ (timeouts_at d) _ (λ v. refl)
setting_spelled keys.Retry d h = step _ _ (retry_at d) _ (retry_spelled d) (λ v hv. hv)
setting_spelled keys.Stall d h = past _ (stall_at d) _ (λ v. refl)
setting_spelled keys.LoadBody d h = past _ (as_bool d) _ (λ v. refl)
setting_spelled keys.Partition d h = past _ (as_str d) _ (λ v. refl)
setting_spelled keys.Bucket d h = step _ _ (number_below (2 ^ 32) d) _ (number_within (2 ^ 32) d) (λ v hv. hv)
setting_spelled keys.Prefix d h = past _ (as_str d) _ (λ v. refl)
setting_spelled keys.Preference d h = past _ (texts_at d) _ (λ v. refl)
setting_spelled keys.Disable d h = past _ (texts_at d) _ (λ v. refl)
setting_spelled keys.Capture d h = past _ (number_at d) _ (λ v. refl)
setting_spelled keys.Poisoned d h = past _ (number_at d) _ (λ v. refl)
setting_spelled (keys.User n) d h =
    step _ _ (blob_at d) _ (blob_spelled d h) (λ v hv. and_from (pointwise nat_eq n n) (bytes_spellable v) ((bytes_eq-Decides n n).1 refl) hv)
setting_spelled _ d h = past _ (true_at d) _ (λ v. refl)

-- ---- keys

-- a key that prints so
abbrev Prints : List ℕ → SettingKey → Type 0
Prints s k = key_text k ≡ s

-- a row of the table whose key prints as its name
abbrev prints_as : SettingKey × List ℕ → Bool
prints_as row = pointwise nat_eq (key_text row.0) row.1

rows_print : (rows : List (SettingKey × List ℕ)) (s : List ℕ) → list_all prints_as rows ≡ true → Holds (Prints s) (key_in rows s)
unfolding Holds
rows_print [] s h = tt
rows_print (row ∷ rows) s h =
    let parts = and_parts (prints_as row) (list_all prints_as rows) h in
    either_by (Prints s) (pointwise nat_eq s row.1) (Some row.0) (key_in rows s)
    (λ e. (bytes_eq-Decides (key_text row.0) row.1).0 parts.0 ∙ sym ((bytes_eq-Decides s row.1).0 e)) (λ _. rows_print rows s parts.1)

or_prints : (s : List ℕ) (a b : Option SettingKey) → Holds (Prints s) a → Holds (Prints s) b → Holds (Prints s) (or_read a b)
or_prints s None b h k = k
or_prints s (Some x) b h k = h

table_prints : (s : List ℕ) → Holds (Prints s) (key_named s)
unfolding key_named key_name
table_prints s = rows_print key_table s refl

user_prints : (s : List ℕ) → Holds (Prints s) (user_key s)
unfolding user_key Holds
user_prints s =
    either_by (Prints s) (nat_le 5 (length s) && pointwise nat_eq (take 5 s) (codes "user.")) (Some (keys.User (drop 5 s))) None
    (λ e. ap (λ (t : List ℕ). t ++ drop 5 s) (sym ((bytes_eq-Decides (take 5 s) (codes "user.")).0 (and_parts (nat_le 5 (length s)) (pointwise nat_eq (take 5 s) (codes "user.")) e).1)) ∙ take-append-drop 5 s)
    (λ _. tt)

key_prints : (s : List ℕ) → Holds (Prints s) (key_of_text s)
unfolding key_of_text
key_prints s = or_prints s (key_named s) (user_key s) (table_prints s) (user_prints s)

-- ---- entries

pub layer_entry_spelled : (d : Data) → OfBytes d → Holds (λ e. layer_entry_spellable e ≡ true) (layer_entry_at d)
unfolding layer_entry_at Holds layer_entry_spellable
layer_entry_spelled d h =
    step _ _ (pair_at d) _ (pair_of_bytes d h) (λ p hp.
    past _ (as_str p.0 >>= key_of_text) _ (λ k.
    step _ _ (optional_at (setting_at k) p.1) _ (optional_spelled (is_of_key k) (setting_at k) p.1 (setting_spelled k p.1 hp.1)) (λ v hv. hv)))

-- an entry's key prints as the name that it was read from
named_by_text : (o : Option (List ℕ)) → Holds (λ k. o ≡ Some (key_text k)) (o >>= key_of_text)
unfolding Holds
named_by_text None = tt
named_by_text (Some s) = weaker (Prints s) (λ k. Some s ≡ Some (key_text k)) (key_of_text s) (key_prints s) (λ k e. ap Some (sym e))

entry_named : (d : Data) → Holds (λ (e : LayerEntry). name_at d ≡ Some (key_text e.key)) (layer_entry_at d)
unfolding layer_entry_at name_at Holds
entry_named d = by_pair (pair_at d)
  where
    by_pair : (o : Option (Data × Data)) → Holds (λ (e : LayerEntry). (o >>= λ p. as_str p.0) ≡ Some (key_text e.key)) (o >>= λ p. as_str p.0 >>= key_of_text >>= λ k. optional_at (setting_at k) p.1 >>= λ v. Some (entry k v))
    by_pair None = tt
    by_pair (Some p) =
        step _ _ (as_str p.0 >>= key_of_text) _ (named_by_text (as_str p.0)) (λ k e.
        past _ (optional_at (setting_at k) p.1) _ (λ v. e))

pub entries_named : (ds : Items) → Holds (λ es. list_of name_at ds ≡ Some (key_texts es)) (list_of layer_entry_at ds)
unfolding list_of Holds
entries_named no_items = refl
entries_named (item d ds) =
    step _ _ (layer_entry_at d) _ (entry_named d) (λ e he.
    step _ _ (list_of layer_entry_at ds) _ (entries_named ds) (λ es hes. rw (he, hes) refl))

-- ---- layers

kept_spellable : (es : List LayerEntry) → fresh [] (key_texts es) ≡ true → list_all layer_entry_spellable es ≡ true → layer_spellable es ≡ true
unfolding layer_spellable
kept_spellable es f h = and_from (fresh [] (key_texts es)) (list_all layer_entry_spellable es) f h

-- the names differ where they were read so
differ_once : (ns : List (List ℕ)) (o : Option (List (List ℕ))) (u : Unit {0}) → o ≡ Some ns → (o >>= once) ≡ Some u → fresh [] ns ≡ true
differ_once ns o u e h = by_test (fresh [] ns) refl
  where
    at_names : once ns ≡ Some u
    at_names = subst (λ (q : Option (List (List ℕ))). (q >>= once) ≡ Some u) e h

    none_is_some : None ≡ Some u → true ≡ false
    none_is_some e = absurd (cc)

    by_test : (b : Bool) → fresh [] ns ≡ b → fresh [] ns ≡ true
    by_test true e = e
    by_test false e = e ∙ sym (none_is_some (subst (λ (b : Bool). (if b then Some tt else None) ≡ Some u) e at_names))

pub names_differ : (ds : Items) (u : Unit {0}) (es : List LayerEntry) → list_of name_at ds ≡ Some (key_texts es) → named_once ds ≡ Some u → fresh [] (key_texts es) ≡ true
unfolding named_once
names_differ ds u es e h = differ_once (key_texts es) (list_of name_at ds) u e h

items_spelled : (ds : Items) (u : Unit {0}) → items_of_bytes ds ≡ true → named_once ds ≡ Some u → Holds (λ l. layer_spellable l ≡ true) (list_of layer_entry_at ds)
unfolding Holds
items_spelled ds u h n =
    weaker _ _ (list_of layer_entry_at ds) (both (list_of layer_entry_at ds) (entries_named ds) (list_spelled layer_entry_spellable layer_entry_at layer_entry_spelled ds h))
    (λ es t. kept_spellable es (names_differ ds u es t.0 n) t.1)
  where
    both : (o : Option (List LayerEntry)) → Holds (λ es. list_of name_at ds ≡ Some (key_texts es)) o → Holds (λ es. list_all layer_entry_spellable es ≡ true) o →
        Holds (λ es. (list_of name_at ds ≡ Some (key_texts es)) × (list_all layer_entry_spellable es ≡ true)) o
    both None a b = tt
    both (Some es) a b = (a, b)

pub layer_spelled : (d : Data) → OfBytes d → Holds (λ l. layer_spellable l ≡ true) (layer_at d)
unfolding layer_at
layer_spelled d h =
    step _ _ (as_array d) _ (array_of_bytes d h) (λ ds hds.
    step_at _ (named_once ds) _ (λ u n. items_spelled ds u hds n))
