-- The entries of a layer, whose names were looked at before they were read.
use Rattle.std.proofs.Common.{◌≡◌, List, [], Some}
use Rattle.smithy_context.specs.Layer.{merged}
use Rattle.smithy_context.specs.declared.layer.LayerEntry.{LayerEntry}
use Rattle.serde_json.specs.Data.{Items}
use Rattle.json_forms.specs.Lists.{list_of, name_at, named_once}
use Rattle.json_values.specs.SettingReadings.{layer_entry_at}
use Rattle.json_values.specs.Spellable.{key_texts}
use Rattle.json_values.proofs.PrintedLayers.{merged_behind}
use Rattle.json_values.proofs.SpelledForms.{held}
use Rattle.json_values.proofs.SpelledLayers.{entries_named, names_differ}

-- entries whose names differ, put one after another, are those entries
pub entries_differ : (ds : Items) (u : Unit {0}) (es : List LayerEntry) → named_once ds ≡ Some u → list_of layer_entry_at ds ≡ Some es → merged [] es ≡ es
entries_differ ds u es h e =
    merged_behind [] es (names_differ ds u es (held (λ xs. list_of name_at ds ≡ Some (key_texts xs)) (list_of layer_entry_at ds) es e (entries_named ds)) h)
