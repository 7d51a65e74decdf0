-- The different keys of a script's layers.
use Rattle.std.proofs.Common.{◌≡◌, ℕ, suc, ◌+◌, ◌<◌, ◌≤◌, List, [], ◌∷◌, ◌++◌, length, drop, get_or, Bool, true, false, nat_le, arith, ap, ◌∙◌, sym, drop-cons, add-one, if◌then◌else◌}
use Rattle.std.specs.List.{list_any}
use Rattle.std.proofs.lemmas.List.{drop_all}
use Rattle.smithy_context.specs.Setting.{same_key}
use Rattle.smithy_context.specs.declared.setting.SettingKey.{SettingKey}
use Rattle.orchestrate.specs.declared.script.ScriptAnswer.{ScriptAnswer}
use Rattle.cli_replay.specs.Script.Limits.{with_key, with_keys, layer_keys, layer_of_answer}
use Rattle.cli_replay.specs.Script.Replay.{keys_behind, keys_fit}

one_longer : (ks : List SettingKey) (k : SettingKey) → length ks ≤ length (ks ++ k ∷ [])
one_longer [] k = omega arith
one_longer (x ∷ ks) k = omega (arith, one_longer ks k)

longer_by : (b : Bool) (ks : List SettingKey) (k : SettingKey) → length ks ≤ length (if b then ks else ks ++ k ∷ [])
longer_by true ks k = omega arith
longer_by false ks k = one_longer ks k

-- keys never go
with_keys-longer : (ks more : List SettingKey) → length ks ≤ length (with_keys ks more)
with_keys-longer ks [] = omega arith
with_keys-longer ks (k ∷ more) =
    omega (arith, longer_by (list_any (same_key k) ks) ks k, with_keys-longer (with_key ks k) more)

keys_behind-longer : (ks : List SettingKey) (list : List ScriptAnswer) → length ks ≤ length (keys_behind ks list)
keys_behind-longer ks [] = omega arith
keys_behind-longer ks (a ∷ list) =
    omega (arith, with_keys-longer ks (layer_keys (layer_of_answer a.answer)), keys_behind-longer (with_keys ks (layer_keys (layer_of_answer a.answer))) list)

keys_behind-drop : (ks : List SettingKey) (list : List ScriptAnswer) (i : ℕ) (a : ScriptAnswer) → i < length list → a ≡ get_or list i a →
    keys_behind ks (drop i list) ≡ keys_behind (with_keys ks (layer_keys (layer_of_answer a.answer))) (drop (i + 1) list)
keys_behind-drop ks list i a h e =
    ap (keys_behind ks) (drop-cons list i a h ∙ ap (λ (q : ScriptAnswer). q ∷ drop (suc i) list) (sym e))
    ∙ ap (λ (j : ℕ). keys_behind (with_keys ks (layer_keys (layer_of_answer a.answer))) (drop j list)) (sym (add-one i))

-- an answer more
pub key_more : (ks next : List SettingKey) (list : List ScriptAnswer) (i : ℕ) (a : ScriptAnswer) → i < length list → a ≡ get_or list i a → next ≡ with_keys ks (layer_keys (layer_of_answer a.answer)) →
    keys_behind ks (drop i list) ≡ keys_behind [] list → keys_behind next (drop (i + 1) list) ≡ keys_behind [] list
key_more ks next list i a h e f w =
    ap (λ (k : List SettingKey). keys_behind k (drop (i + 1) list)) f ∙ sym (keys_behind-drop ks list i a h e) ∙ w

-- too many of them, whatever else comes
pub key_over : (ks next : List SettingKey) (list : List ScriptAnswer) (i : ℕ) (a : ScriptAnswer) → i < length list → a ≡ get_or list i a → next ≡ with_keys ks (layer_keys (layer_of_answer a.answer)) →
    64 < length next → keys_behind ks (drop i list) ≡ keys_behind [] list → false ≡ keys_fit list
key_over ks next list i a h e f o w =
    over (length (keys_behind [] list)) (omega (arith, o, keys_behind-longer next (drop (i + 1) list), ap length (key_more ks next list i a h e f w)))
  where
    over : (n : ℕ) → 64 < n → false ≡ nat_le n 64
    over n g = grind arith

-- no answer more
pub key_end : (ks : List SettingKey) (list : List ScriptAnswer) (i : ℕ) → length list ≤ i → length ks ≤ 64 → keys_behind ks (drop i list) ≡ keys_behind [] list → true ≡ keys_fit list
key_end ks list i h b w =
    within (length (keys_behind [] list)) (omega (arith, b, ap length (sym (ap (keys_behind ks) (drop_all i list h)) ∙ w)))
  where
    within : (n : ℕ) → n ≤ 64 → true ≡ nat_le n 64
    within n g = grind arith
