-- Keys that are added one after another.
use Rattle.std.proofs.Common.{◌≡◌, ℕ, suc, ◌+◌, ◌<◌, ◌≤◌, List, ◌∷◌, length, drop, get_or, ap, ◌∙◌, sym, drop-cons, add-one}
use Rattle.std.proofs.lemmas.List.{drop_all}
use Rattle.smithy_context.specs.declared.layer.LayerEntry.{LayerEntry}
use Rattle.smithy_context.specs.declared.setting.SettingKey.{SettingKey}
use Rattle.cli_replay.specs.Script.Limits.{layer_keys, with_key, with_keys}

-- an entry more
pub key_more : (ks next : List SettingKey) (es : List LayerEntry) (i : ℕ) (e : LayerEntry) → i < length es → e ≡ get_or es i e → next ≡ with_key ks e.key →
    with_keys next (layer_keys (drop (i + 1) es)) ≡ with_keys ks (layer_keys (drop i es))
key_more ks next es i e h f g =
    ap (λ (k : List SettingKey). with_keys k (layer_keys (drop (i + 1) es))) g
    ∙ ap (λ (j : ℕ). with_keys (with_key ks e.key) (layer_keys (drop j es))) (add-one i)
    ∙ sym (ap (λ (l : List LayerEntry). with_keys ks (layer_keys l)) (drop-cons es i e h ∙ ap (λ (q : LayerEntry). q ∷ drop (suc i) es) (sym f)))

-- no entry more
pub key_end : (ks : List SettingKey) (es : List LayerEntry) (i : ℕ) → length es ≤ i → with_keys ks (layer_keys (drop i es)) ≡ ks
key_end ks es i h = ap (λ (l : List LayerEntry). with_keys ks (layer_keys l)) (drop_all i es h)

pub ruleset key_adding = (key_more, key_end)
