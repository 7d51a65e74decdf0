-- What a client's step of the configuration sets.
use Rattle.std.specs.Prelude.{ℕ, zero, suc, Bool, true, false, List, [], ◌++◌, Option, None, Some, option_map, filter}
use Rattle.std.specs.Prelude.{is_some, nat_eq}
use Rattle.std.specs.List.{flat_map}
use Rattle.smithy_context.specs.Layer.{entry, merged, put_entry}
use Rattle.smithy_context.specs.Setting.{key_of, place, places}
use Rattle.smithy_context.specs.declared.layer.LayerEntry.{LayerEntry}
use Rattle.smithy_context.specs.declared.setting.Setting.{Setting}
use Rattle.smithy_context.specs.declared.setting.Setting.TheVariants as set
use Rattle.client_builder.specs.Plugins.{entries_of}
use Rattle.client_builder.specs.declared.builder.OperationBuilder.{OperationBuilder}

-- ---- the order of keys

-- the entry's key has this place in the order of settings
abbrev pub is_placed : ℕ → LayerEntry → Bool
is_placed n e = nat_eq (place e.key) n

-- the entries whose keys have the first n places, by their places
unfoldable pub first_placed : ℕ → List LayerEntry → List LayerEntry
first_placed zero l = []
first_placed (suc n) l = first_placed n l ++ filter (is_placed n) l

-- a layer's entries in the order of settings
abbrev pub in_order : List LayerEntry → List LayerEntry
in_order l = first_placed places l

-- ---- what is set

-- the layer with this setting put, where there is one
abbrev pub putting : Option Setting → List LayerEntry → List LayerEntry
putting None l = l
putting (Some setting) l = put_entry l (entry (key_of setting) (Some setting))

-- a mark, where it is wanted
abbrev pub mark : Setting → Bool → Option Setting
mark setting true = Some setting
mark setting false = None

module _ {I O E A R Z D V W : Type 0} {v : V → Type 0} {w : W → Type 0} where
  -- what the setters set, put over a layer
  abbrev pub with_set : OperationBuilder I O E A R Z D V W v w → List LayerEntry → List LayerEntry
  with_set b l =
      putting (mark set.AuthParams b.no_auth)
      (putting (mark set.EndpointParams (is_some b.endpoint_url))
      (putting (option_map set.Stall b.stall)
      (putting (option_map set.Retry b.retry)
      (putting (option_map set.Timeouts b.timeouts) l))))

  -- and what the build of a service of this name does: the default partition of the name, and the mark V2
  abbrev pub with_own : List ℕ → OperationBuilder I O E A R Z D V W v w → List LayerEntry → List LayerEntry
  with_own name b l =
      putting (Some set.V2) (putting (Some (set.Partition (record { name = name; custom = None }))) (with_set b l))

  -- the plugins' settings over these, each plugin's over those of the ones before it
  unfoldable pub merged_layer : List ℕ → OperationBuilder I O E A R Z D V W v w → List LayerEntry
  merged_layer name b = merged (with_own name b []) (flat_map entries_of b.plugins)

  -- the keys are put in the order of settings
  abbrev pub client_layer : List ℕ → OperationBuilder I O E A R Z D V W v w → List LayerEntry
  client_layer name b = merged [] (in_order (merged_layer name b))
