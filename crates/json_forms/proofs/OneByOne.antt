-- A text of lines is cut into the texts of its data, and each is read.
use Rattle.std.proofs.Common.{◌≡◌, ℕ, zero, suc, ◌-◌, ◌==◌, List, [], ◌∷◌, ◌++◌, length, get_or, map, Bool, true, false, Option, Some, option_map, option_and_then, refl, ap, ◌∙◌, arith, append_assoc, append-nil, sym, leb-true, ne_eqb}
use Rattle.std.proofs.lemmas.Bool.{and_parts}
use Rattle.std.proofs.lemmas.List.Elements.{All-nil, All-cons}
use Rattle.std.proofs.lemmas.List.Splits.{slice_split_at, join_with_byte-slice_split}
use Rattle.std.specs.List.{All, list_all, slice_split, join_with_byte}
use Rattle.std.specs.Str.Lines.{lines, lines_of_parts, strip_carriage_return}
use Rattle.serde_json.specs.Data.{Data, depth}
use Rattle.serde_json.specs.Read.{read, max_depth}
use Rattle.serde_json.specs.Written.{compact_text}
use Rattle.json_forms.specs.Carried.{is_carried}
use Rattle.json_forms.specs.Lines.{is_readable, are_readable, line, lines_text, each_read, read_lines, is_visible}
use Rattle.json_forms.proofs.ReadBack.{read-compact_text}
use Rattle.json_forms.proofs.Visible.{visible}

abbrev is_feed : ℕ → Bool
is_feed b = b == 10

no_feed : (l : List ℕ) → list_all is_visible l ≡ true → All (λ b. is_feed b ≡ false) l
no_feed [] h = All-nil (λ b. is_feed b ≡ false)
no_feed (x ∷ xs) h =
    let p = and_parts (is_visible x) (list_all is_visible xs) h in
    let high = leb-true 32 x p.0 in
    All-cons (λ b. is_feed b ≡ false) x xs (ne_eqb x 10 (λ e. omega arith)) (no_feed xs p.1)

-- ---- no line ends in a carriage return

byte_at : (l : List ℕ) (i : ℕ) → list_all is_visible l ≡ true → get_or l i 0 ≡ 13 → ⊥
byte_at [] i h e = absurd (cc)
byte_at (x ∷ xs) zero h e = let high = leb-true 32 x (and_parts (is_visible x) (list_all is_visible xs) h).0 in omega arith
byte_at (x ∷ xs) (suc i) h e = byte_at xs i (and_parts (is_visible x) (list_all is_visible xs) h).1 e

kept_whole : (l : List ℕ) → list_all is_visible l ≡ true → strip_carriage_return l ≡ l
kept_whole l h = rw (ne_eqb (get_or l (length l - 1) 0) 13 (byte_at l (length l - 1) h))

-- ---- the parts, and the lines

pub parts_of_lines : (ds : List Data) → list_all is_carried ds ≡ true → slice_split is_feed (lines_text ds) ≡ map compact_text ds ++ [] ∷ []
parts_of_lines [] h = refl
parts_of_lines (d ∷ ds) h =
    let p = and_parts (is_carried d) (list_all is_carried ds) h in
    ap (slice_split is_feed) (append_assoc (compact_text d) (10 ∷ []) (lines_text ds))
    ∙ slice_split_at is_feed (compact_text d) 10 (lines_text ds) (no_feed (compact_text d) (visible d p.0)) refl
    ∙ ap (λ l. compact_text d ∷ l) (parts_of_lines ds p.1)

lines_again : (ds : List Data) → list_all is_carried ds ≡ true → lines_of_parts (map compact_text ds ++ [] ∷ []) ≡ map compact_text ds
lines_again [] h = refl
lines_again (d ∷ []) h = ap (λ l. l ∷ []) (kept_whole (compact_text d) (visible d (and_parts (is_carried d) true h).0))
lines_again (d ∷ e ∷ ds) h =
    let p = and_parts (is_carried d) (list_all is_carried (e ∷ ds)) h in
    ap (λ l. l ∷ lines_of_parts (map compact_text (e ∷ ds) ++ [] ∷ [])) (kept_whole (compact_text d) (visible d p.0))
    ∙ ap (λ l. compact_text d ∷ l) (lines_again (e ∷ ds) p.1)

pub lines_of_lines : (ds : List Data) → list_all is_carried ds ≡ true → lines (lines_text ds) ≡ map compact_text ds
lines_of_lines ds h = ap lines_of_parts (parts_of_lines ds h) ∙ lines_again ds h

-- ---- reading

carried : (ds : List Data) → are_readable ds ≡ true → list_all is_carried ds ≡ true
carried [] h = refl
carried (d ∷ ds) h =
    let p = and_parts (is_readable d) (are_readable ds) h in
    rw ((and_parts (is_carried d) _ p.0).0, carried ds p.1) refl

one_by_one : (ds : List Data) → are_readable ds ≡ true → each_read (map read (map compact_text ds)) ≡ Some ds
one_by_one [] h = refl
one_by_one (d ∷ ds) h =
    let p = and_parts (is_readable d) (are_readable ds) h in
    let q = and_parts (is_carried d) _ p.0 in
    ap (option_and_then (λ e. option_map (λ es. e ∷ es) (each_read (map read (map compact_text ds))))) (read-compact_text d q.0 (leb-true (depth d) max_depth q.1))
    ∙ ap (option_map (λ es. d ∷ es)) (one_by_one ds p.1)

pub read_lines-lines_text : (ds : List Data) → are_readable ds ≡ true → read_lines (lines_text ds) ≡ Some ds
read_lines-lines_text ds h = ap (λ l. each_read (map read l)) (lines_of_lines ds (carried ds h)) ∙ one_by_one ds h

-- ---- what was cut so is that text

join_lines : (ds : List Data) → join_with_byte 10 (map compact_text ds ++ [] ∷ []) ≡ lines_text ds
join_lines [] = refl
join_lines (d ∷ []) = sym (append-nil (compact_text d ++ 10 ∷ []))
join_lines (d ∷ e ∷ ds) = ap (λ l. compact_text d ++ 10 ∷ l) (join_lines (e ∷ ds)) ∙ sym (append_assoc (compact_text d) (10 ∷ []) (lines_text (e ∷ ds)))

pub lines_from_parts : (ds : List Data) (text : List ℕ) → slice_split is_feed text ≡ map compact_text ds ++ [] ∷ [] → text ≡ lines_text ds
lines_from_parts ds text h = sym (join_with_byte-slice_split 10 text) ∙ ap (join_with_byte 10) h ∙ join_lines ds

some_same : (ds es : List Data) (o : Option (List Data)) → o ≡ Some ds → o ≡ Some es → ds ≡ es
some_same ds es o h k = cc

pub same_lines : (ds es : List Data) → are_readable ds ≡ true → are_readable es ≡ true → lines_text ds ≡ lines_text es → ds ≡ es
same_lines ds es h k e = some_same ds es (read_lines (lines_text ds)) (read_lines-lines_text ds h) (ap read_lines e ∙ read_lines-lines_text es k)

pub joined_lines : (ds es : List Data) → lines_text (ds ++ es) ≡ lines_text ds ++ lines_text es
joined_lines [] es = refl
joined_lines (d ∷ ds) es = ap (λ l. line d ++ l) (joined_lines ds es) ∙ sym (append_assoc (line d) (lines_text ds) (lines_text es))
