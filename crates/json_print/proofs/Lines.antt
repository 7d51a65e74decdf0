-- The lines of entries, one after another.
use Rattle.std.proofs.Common.{◌≡◌, ℕ, suc, ◌+◌, ◌<◌, ◌≤◌, List, [], ◌∷◌, ◌++◌, length, drop, get_or, refl, ap, ◌∙◌, sym, drop-cons, add-one, append_assoc}
use Rattle.std.proofs.lemmas.List.{append-nil, drop_all}
use Rattle.serde_json.specs.Data.{Data}
use Rattle.serde_json.specs.Written.{compact_text}
use Rattle.run_grammar.specs.declared.answer.Entry.{Entry}
use Rattle.json_print.specs.Print.{line, entry_data, entries_text}

pub entries_text-cons : (n : ℕ) (e : Entry) (es : List Entry) → entries_text n (e ∷ es) ≡ line (entry_data n e) ++ entries_text (n + 1) es
unfolding entries_text
entries_text-cons n e es = refl

pub entries_text-nil : (n : ℕ) → entries_text n [] ≡ []
unfolding entries_text
entries_text-nil n = refl

pub drop-step : (i : ℕ) (es : List Entry) (e : Entry) → i < length es → e ≡ get_or es i e → drop i es ≡ e ∷ drop (i + 1) es
drop-step i es e h f =
    drop-cons es i e h ∙ ap (λ (q : Entry). q ∷ drop (suc i) es) (sym f) ∙ ap (λ (j : ℕ). e ∷ drop j es) (sym (add-one i))

-- one entry more
pub entries_more : (n i : ℕ) (es : List Entry) (e : Entry) (out new : List ℕ) → i < length es → e ≡ get_or es i e → new ≡ out ++ line (entry_data n e) →
    new ++ entries_text (n + 1) (drop (i + 1) es) ≡ out ++ entries_text n (drop i es)
entries_more n i es e out new h f w =
    ap (λ (t : List ℕ). t ++ entries_text (n + 1) (drop (i + 1) es)) w ∙ append_assoc out (line (entry_data n e)) (entries_text (n + 1) (drop (i + 1) es))
    ∙ ap (λ (t : List ℕ). out ++ t) (sym (ap (entries_text n) (drop-step i es e h f) ∙ entries_text-cons n e (drop (i + 1) es)))

-- a line was written
pub line_written : (out new : List ℕ) (d e : Data) → new ≡ out ++ compact_text d ++ 10 ∷ [] → d ≡ e → new ≡ out ++ line e
line_written out new d e h f = h ∙ append_assoc out (compact_text d) (10 ∷ []) ∙ ap (λ (x : Data). out ++ line x) f

-- no entry more
pub entries_end : (n i : ℕ) (es : List Entry) (out : List ℕ) → length es ≤ i → out ++ entries_text n (drop i es) ≡ out
entries_end n i es out h = ap (λ (l : List Entry). out ++ entries_text n l) (drop_all i es h) ∙ ap (λ (t : List ℕ). out ++ t) (entries_text-nil n) ∙ append-nil out
