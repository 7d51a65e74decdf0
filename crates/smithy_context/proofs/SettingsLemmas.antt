-- Lemmas on layers.
use Rattle.std.proofs.Common.{List, [], ◌∷◌, ◌++◌, ◌≡◌, refl, ap, sym, ◌∙◌, Option, Some, None}
use Rattle.smithy_context.specs.declared.setting.SettingKey.{SettingKey}
use Rattle.smithy_context.specs.declared.layer.LayerEntry.{LayerEntry}
use Rattle.smithy_context.specs.Settings.{or_else, last_entry}
use Rattle.smithy_context.specs.Layer.{entry_at}

pub or_else-assoc : {T : Type 0} (a b c : Option T) → or_else (or_else a b) c ≡ or_else a (or_else b c)
or_else-assoc None b c = refl
or_else-assoc (Some x) b c = refl

or_else-none : {T : Type 0} (a : Option T) → or_else a None ≡ a
or_else-none None = refl
or_else-none (Some x) = refl

-- the last layer is looked at first
pub last_entry-append : (ls : List (List LayerEntry)) (l : List LayerEntry) (k : SettingKey) → last_entry (ls ++ l ∷ []) k ≡ or_else (entry_at l k) (last_entry ls k)
last_entry-append [] l k = sym (or_else-none (entry_at l k))
last_entry-append (x ∷ ls) l k =
    ap (λ o. or_else o (entry_at x k)) (last_entry-append ls l k) ∙ or_else-assoc (entry_at l k) (last_entry ls k) (entry_at x k)

-- a last layer that does not mention the key may be left out
pub passed_over : (rest below : List (List LayerEntry)) (l : List LayerEntry) (k : SettingKey) (o : Option LayerEntry) →
    rest ≡ below ++ l ∷ [] → last_entry rest k ≡ o → entry_at l k ≡ None → last_entry below k ≡ o
passed_over rest below l k o e h n =
    sym (ap (λ r. last_entry r k) e ∙ last_entry-append below l k ∙ ap (λ f. or_else f (last_entry below k)) n) ∙ h

-- a last layer that mentions the key decides
pub found_in : (rest below : List (List LayerEntry)) (l : List LayerEntry) (k : SettingKey) (o : Option LayerEntry) (f : LayerEntry) →
    rest ≡ below ++ l ∷ [] → last_entry rest k ≡ o → entry_at l k ≡ Some f → Some f ≡ o
found_in rest below l k o f e h n =
    sym (ap (λ r. last_entry r k) e ∙ last_entry-append below l k ∙ ap (λ g. or_else g (last_entry below k)) n) ∙ h
