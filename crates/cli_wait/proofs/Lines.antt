-- The lines of notes, one after another.
use Rattle.std.proofs.Common.{◌≡◌, ℕ, ◌+◌, ◌<◌, ◌≤◌, List, [], ◌∷◌, ◌++◌, length, drop, get_or, refl, ap, ◌∙◌, sym, drop-cons, add-one, append_assoc}
use Rattle.std.proofs.lemmas.List.{append-nil, drop_all}
use Rattle.serde_json.specs.Data.{Data}
use Rattle.serde_json.specs.Written.{compact_text}
use Rattle.cli_wait.specs.declared.notes.Note.{Note}
use Rattle.cli_wait.specs.Print.{line, note_data, notes_text}

notes_text-cons : (n : Note) (ns : List Note) → notes_text (n ∷ ns) ≡ line (note_data n) ++ notes_text ns
unfolding notes_text
notes_text-cons n ns = refl

notes_text-nil : notes_text [] ≡ []
unfolding notes_text
notes_text-nil = refl

drop-step : (i : ℕ) (ns : List Note) (d : Note) → i < length ns → drop i ns ≡ get_or ns i d ∷ drop (i + 1) ns
drop-step i ns d h = drop-cons ns i d h ∙ ap (λ (j : ℕ). get_or ns i d ∷ drop j ns) (sym (add-one i))

-- one note more
pub notes_more : (i : ℕ) (ns : List Note) (d : Note) (out new : List ℕ) → i < length ns → new ≡ out ++ line (note_data (get_or ns i d)) →
    new ++ notes_text (drop (i + 1) ns) ≡ out ++ notes_text (drop i ns)
notes_more i ns d out new h w =
    ap (λ (t : List ℕ). t ++ notes_text (drop (i + 1) ns)) w ∙ append_assoc out (line (note_data (get_or ns i d))) (notes_text (drop (i + 1) ns))
    ∙ ap (λ (t : List ℕ). out ++ t) (sym (ap notes_text (drop-step i ns d h) ∙ notes_text-cons (get_or ns i d) (drop (i + 1) ns)))

-- a line was written
pub line_written : (out new : List ℕ) (d e : Data) → new ≡ out ++ compact_text d ++ 10 ∷ [] → d ≡ e → new ≡ out ++ line e
line_written out new d e h f = h ∙ append_assoc out (compact_text d) (10 ∷ []) ∙ ap (λ (x : Data). out ++ line x) f

-- no note more
pub notes_end : (i : ℕ) (ns : List Note) (out : List ℕ) → length ns ≤ i → out ++ notes_text (drop i ns) ≡ out
notes_end i ns out h = ap (λ (l : List Note). out ++ notes_text l) (drop_all i ns h) ∙ ap (λ (t : List ℕ). out ++ t) notes_text-nil ∙ append-nil out
