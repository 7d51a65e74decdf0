-- Layers that are put together.
use Rattle.std.proofs.Common.{◌≡◌, refl, sym, ap, ◌∙◌, ℕ, suc, ◌+◌, ◌<◌, List, [], ◌∷◌, ◌++◌, filter, flat_map, drop, length, get_or, add-one}
use Rattle.std.proofs.Math.Seq.{drop-cons}
use Rattle.smithy_context.specs.declared.layer.LayerEntry.{LayerEntry}
use Rattle.smithy_context.specs.Layer.{merged, put_entry}
use Rattle.client_builder.specs.ClientLayer.{first_placed, is_placed}
use Rattle.client_builder.specs.Plugins.{entries_of}
use Rattle.client_builder.specs.declared.plugin.Plugin.{Plugin}

-- two lists that are put one after the other are put as one
pub merged_append : (l a b : List LayerEntry) → merged (merged l a) b ≡ merged l (a ++ b)
merged_append l [] b = refl
merged_append l (e ∷ a) b = merged_append (put_entry l e) a b

-- the entries of one place more
pub placed_more : (n : ℕ) (l o after es : List LayerEntry) → es ≡ l → o ≡ merged [] (first_placed n l)
    → after ≡ merged o (filter (is_placed n) es) → after ≡ merged [] (first_placed (n + 1) l)
unfolding first_placed
placed_more n l o after es same before put =
    put ∙ ap (λ x. merged o (filter (is_placed n) x)) same ∙ ap (λ x. merged x (filter (is_placed n) l)) before
    ∙ merged_append [] (first_placed n l) (filter (is_placed n) l) ∙ ap (λ m. merged [] (first_placed m l)) (sym (add-one n))

-- the entries of one plugin more
pub plugin_more : (ps : List Plugin) (i : ℕ) (p : Plugin) (l after es all : List LayerEntry) → i < length ps → p ≡ get_or ps i p
    → es ≡ entries_of p → after ≡ merged l es → merged l (flat_map entries_of (drop i ps)) ≡ all
    → merged after (flat_map entries_of (drop (i + 1) ps)) ≡ all
plugin_more ps i p l after es all below is gives put before =
    ap (λ x. merged x (flat_map entries_of (drop (i + 1) ps))) (put ∙ ap (λ x. merged l x) gives)
    ∙ merged_append l (entries_of p) (flat_map entries_of (drop (i + 1) ps))
    ∙ ap (λ x. merged l (flat_map entries_of x)) (sym front) ∙ before
  where
    front : drop i ps ≡ p ∷ drop (i + 1) ps
    front = drop-cons ps i p below ∙ ap (λ x. x ∷ drop (suc i) ps) (sym is) ∙ ap (λ m. p ∷ drop m ps) (sym (add-one i))
