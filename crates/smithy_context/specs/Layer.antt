-- What a layer says of a key, and what it says after a change.
use Rattle.std.specs.Prelude.{Bool, true, false, cond, Option, Some, None, is_none, List, [], ◌∷◌, ◌++◌, ℕ, find}
use Rattle.std.specs.Prelude.{position, option_map, slice_set}
use Rattle.smithy_context.specs.declared.setting.Setting.{Setting}
use Rattle.smithy_context.specs.declared.setting.SettingKey.{SettingKey}
use Rattle.smithy_context.specs.declared.layer.LayerEntry.{LayerEntry}
use Rattle.smithy_context.specs.Setting.{same_key}

-- a key with its value, or with the word that it is unset
abbrev pub entry : SettingKey → Option Setting → LayerEntry
entry k v = record { key = k; value = v }

-- whether the entry is the key's
abbrev pub is_at : SettingKey → LayerEntry → Bool
is_at k e = same_key e.key k

-- the entry of a key
abbrev pub entry_at : List LayerEntry → SettingKey → Option LayerEntry
entry_at l k = find (is_at k) l

-- what the layer says of a key, where it mentions it: a value, or that it is unset
abbrev pub mentioned : List LayerEntry → SettingKey → Option (Option Setting)
mentioned l k = option_map (λ (e : LayerEntry). e.value) (entry_at l k)

-- no key stands twice
abbrev pub keys_once : List LayerEntry → Bool
keys_once [] = true
keys_once (e ∷ l) = cond (is_none (entry_at l e.key)) (keys_once l) false

-- the layer with this entry in the place of its key's, or at the end
abbrev pub placed : Option ℕ → List LayerEntry → LayerEntry → List LayerEntry
placed None l e = l ++ e ∷ []
placed (Some i) l e = slice_set l i e

-- the layer once the entry's key is set or unset as it says
abbrev pub put_entry : List LayerEntry → LayerEntry → List LayerEntry
put_entry l e = placed (position (is_at e.key) l) l e

-- the layer with all entries of a second put into it, in their order
abbrev pub merged : List LayerEntry → List LayerEntry → List LayerEntry
merged l [] = l
merged l (e ∷ es) = merged (put_entry l e) es
