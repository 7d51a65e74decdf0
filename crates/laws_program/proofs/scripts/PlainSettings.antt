-- Settings and layers that are read have no float.
use Rattle.std.proofs.Common.{◌^◌}
use Rattle.serde_json.specs.Find.{as_bool, as_str, as_array}
use Rattle.smithy_context.specs.declared.setting.Setting.{Setting}
use Rattle.smithy_context.specs.declared.setting.SettingKey.{SettingKey}
use Rattle.smithy_context.specs.declared.setting.SettingKey.TheVariants as keys
use Rattle.json_forms.specs.Forms.{optional_at, true_at, texts_at, blob_at}
use Rattle.json_forms.specs.Lists.{list_of, named_once}
use Rattle.json_forms.specs.Plain.{number_at, number_below, pair_at, triple_at, quadruple_at, septuple_at}
use Rattle.json_forms.specs.Reading.{◌>>=◌}
use Rattle.json_values.specs.SettingReadings.{key_of_text, layer_entry_at, layer_at}
use Rattle.json_values.specs.SettingForms.{timeouts_at, version_at, spec_at, mode_at, reconnect_at, retry_at, stall_at, marked, setting_at}
use Rattle.json_values.proofs.SpelledForms.{Holds, past, step, weaker}
use Rattle.laws_program.proofs.scripts.PlainForms.{Plain, ArePlain, Refuses, kept, then_plain, part, str_plain, bool_plain, true_plain, number_plain, below_plain, array_plain, list_plain, texts_plain, pair_plain, triple_plain, quadruple_plain, septuple_plain, optional_plain, blob_plain}

-- ---- values

-- a number, or null
pub number_or_null : Refuses (optional_at number_at)
number_or_null = optional_plain number_at number_plain

pub timeouts_plain : Refuses timeouts_at
unfolding timeouts_at Holds
timeouts_plain d =
    step _ _ (quadruple_at d) _ (quadruple_plain d) (λ p whole.
    part (optional_at number_at) number_or_null p.0 _ _ (λ h c.
    part (optional_at number_at) number_or_null p.1 _ _ (λ i r.
    part (optional_at number_at) number_or_null p.2 _ _ (λ j o.
    part (optional_at number_at) number_or_null p.3 _ _ (λ k a. whole h i j k)))))

version_plain : Refuses version_at
unfolding version_at
version_plain d = kept (Plain d) (as_str d) _ (str_plain d)

spec_plain : Refuses spec_at
unfolding spec_at Holds
spec_plain d =
    step _ _ (triple_at d) _ (triple_plain d) (λ p whole.
    part version_at version_plain p.0 _ _ (λ h v.
    part as_bool bool_plain p.1 _ _ (λ i l.
    part number_at number_plain p.2 _ _ (λ j n. whole h i j))))

mode_plain : Refuses mode_at
unfolding mode_at
mode_plain d = kept (Plain d) (as_str d) _ (str_plain d)

reconnect_plain : Refuses reconnect_at
unfolding reconnect_at
reconnect_plain d = kept (Plain d) (as_str d) _ (str_plain d)

pub retry_plain : Refuses retry_at
unfolding retry_at Holds
retry_plain d =
    step _ _ (septuple_at d) _ (septuple_plain d) (λ p whole.
    part mode_at mode_plain p.0 _ _ (λ h m.
    part (number_below (2 ^ 32)) (below_plain (2 ^ 32)) p.1 _ _ (λ i a.
    part number_at number_plain p.2 _ _ (λ j n.
    part number_at number_plain p.3 _ _ (λ k x.
    part reconnect_at reconnect_plain p.4 _ _ (λ l r.
    part as_bool bool_plain p.5 _ _ (λ m b.
    part (optional_at spec_at) (optional_plain spec_at spec_plain) p.6 _ _ (λ n s. whole h i j k l m n))))))))

pub stall_plain : Refuses stall_at
unfolding stall_at Holds
stall_plain d =
    step _ _ (triple_at d) _ (triple_plain d) (λ p whole.
    part as_bool bool_plain p.0 _ _ (λ h u.
    part as_bool bool_plain p.1 _ _ (λ i w.
    part number_at number_plain p.2 _ _ (λ j g. whole h i j))))

marked_plain : (s : Setting) → Refuses (marked s)
marked_plain s d = kept (Plain d) (true_at d) _ (true_plain d)

setting_plain : (k : SettingKey) → Refuses (setting_at k)
unfolding setting_at
setting_plain keys.Timeouts d = kept (Plain d) (timeouts_at d) _ (timeouts_plain d)
setting_plain keys.Retry d = kept (Plain d) (retry_at d) _ (retry_plain d)
setting_plain keys.Stall d = kept (Plain d) (stall_at d) _ (stall_plain d)
setting_plain keys.LoadBody d = kept (Plain d) (as_bool d) _ (bool_plain d)
setting_plain keys.Partition d = kept (Plain d) (as_str d) _ (str_plain d)
setting_plain keys.Bucket d = kept (Plain d) (number_below (2 ^ 32) d) _ (below_plain (2 ^ 32) d)
setting_plain keys.Prefix d = kept (Plain d) (as_str d) _ (str_plain d)
setting_plain keys.Preference d = kept (Plain d) (texts_at d) _ (texts_plain d)
setting_plain keys.Disable d = kept (Plain d) (texts_at d) _ (texts_plain d)
setting_plain keys.Capture d = kept (Plain d) (number_at d) _ (number_plain d)
setting_plain keys.Poisoned d = kept (Plain d) (number_at d) _ (number_plain d)
setting_plain (keys.User n) d = kept (Plain d) (blob_at d) _ (blob_plain d)
setting_plain _ d = marked_plain _ d

-- ---- layers

layer_entry_plain : Refuses layer_entry_at
unfolding layer_entry_at Holds
layer_entry_plain d =
    step _ _ (pair_at d) _ (pair_plain d) (λ p whole.
    part (λ x. as_str x >>= key_of_text) (then_plain as_str key_of_text str_plain) p.0 _ _ (λ h k.
    part (optional_at (setting_at k)) (optional_plain (setting_at k) (setting_plain k)) p.1 _ _ (λ i v. whole h i)))

pub layer_plain : Refuses layer_at
unfolding layer_at
layer_plain d =
    step (λ ds. ArePlain ds → Plain d) _ (as_array d) _ (array_plain d) (λ ds whole.
    past _ (named_once ds) _ (λ _.
    weaker (λ _. ArePlain ds) _ (list_of layer_entry_at ds) (list_plain layer_entry_at layer_entry_plain ds) (λ _. whole)))
