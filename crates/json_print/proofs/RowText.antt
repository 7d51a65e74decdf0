-- Texts that are written piece by piece are those of texts and arrays.
use Rattle.std.proofs.Common.{◌≡◌, ℕ, suc, ◌+◌, ◌<◌, ◌≤◌, List, [], ◌∷◌, ◌++◌, length, drop, get_or, map, Bool, true, false, ◌&&◌, ◌||◌, ◌==◌, nat_lt, Some, refl, sym, ap, ◌∙◌, subst, append_assoc, append-nil, drop-cons, add-one, arith}
use Rattle.std.proofs.lemmas.Bool.{and_parts, and_from, or_parts, not-true, eqb-false, ltb-false}
use Rattle.std.proofs.lemmas.List.Folds.{list_all-append}
use Rattle.std.proofs.lemmas.List.{drop_all}
use Rattle.std.proofs.lemmas.Str.{IsUtf8-append, IsUtf8-nil}
use Rattle.std.specs.List.{list_all}
use Rattle.std.specs.Str.{IsUtf8}
use Rattle.json.proofs.Printed.Strings.{escape_at, escape_byte_plain, escape_end}
use Rattle.json.proofs.Printed.Utf8.{IsUtf8-are_ascii, IsUtf8-quoted}
use Rattle.json.specs.Print.{escape, escape_byte, quoted}
use Rattle.json.specs.Run.{is_plain}
use Rattle.json_forms.proofs.Rows.{carried_row}
use Rattle.json_forms.proofs.Stored.{carried_when_read}
use Rattle.json_forms.specs.Carried.{is_carried}
use Rattle.json_forms.specs.JsonData.{data_of}
use Rattle.json_forms.specs.Prints.{row}
use Rattle.json_forms.specs.declared.printing.Json.{Json}
use Rattle.json_print.specs.Written.{IsTagged, IsWritten}
use Rattle.serde_json.specs.Data.{Data, string, depth}
use Rattle.serde_json.specs.Read.{read, max_depth}
use Rattle.serde_json.specs.View.{items_of}
use Rattle.serde_json.specs.Written.{comma_if, compact_text, items_text}

-- ---- texts

-- Bytes that need no escape stand for themselves.
pub escape_plain : (bytes : List ℕ) → list_all is_plain bytes ≡ true → escape bytes ≡ bytes
escape_plain [] h = refl
escape_plain (x ∷ xs) h =
    let p = and_parts (is_plain x) (list_all is_plain xs) h in
    let none = or_parts ((x == 34) || (x == 92)) (nat_lt x 32) (not-true _ p.0) in
    let tests = or_parts (x == 34) (x == 92) none.0 in
    λ i. escape_byte_plain x (eqb-false x 34 tests.0) (eqb-false x 92 tests.1) (ltb-false x 32 none.1) i ++ escape_plain xs p.1 i

-- ---- what is written for a value that was made

pub json_written : (j : Json) (o n : List ℕ) → n ≡ o ++ compact_text (data_of j) → (depth (data_of j) ≤ max_depth → read (compact_text (data_of j)) ≡ Some (data_of j)) →
    IsUtf8 (compact_text (data_of j)) → depth (data_of j) ≤ max_depth → IsWritten (data_of j) o n
json_written j o n t back u shallow = record {
  text = t;
  carried = carried_when_read (compact_text (data_of j)) (data_of j) (back shallow) j.no_float;
  characters = u;
}

pub written_same : {d e : Data} {o n : List ℕ} → d ≡ e → IsWritten d o n → IsWritten e o n
written_same {d} {e} {o} {n} same h = subst (λ (x : Data). IsWritten x o n) same h

pub written_as : {d e : Data} {o n : List ℕ} (most : ℕ) → d ≡ e → depth e ≤ most → most ≤ max_depth → (depth d ≤ max_depth → IsWritten d o n) → IsWritten e o n
written_as {d} {e} {o} {n} most same shallow below h = subst (λ (x : Data). IsWritten x o n) same (h (subst (λ (x : Data). depth x ≤ max_depth) (sym same) (omega arith)))

-- ---- the items of an array

-- the items behind a first one, each with its comma
abbrev after : List Data → List ℕ
after [] = []
after (d ∷ ds) = 44 ∷ (compact_text d ++ after ds)

-- the items with commas between them
abbrev pub joined : List Data → List ℕ
joined [] = []
joined (d ∷ ds) = compact_text d ++ after ds

items_after : (ds : List Data) → items_text true (items_of ds) ≡ after ds ++ 93 ∷ []
items_after [] = refl
items_after (d ∷ ds) =
    ap (λ (t : List ℕ). 44 ∷ (compact_text d ++ t)) (items_after ds) ∙ ap (λ (t : List ℕ). 44 ∷ t) (sym (append_assoc (compact_text d) (after ds) (93 ∷ [])))

items_joined : (ds : List Data) → items_text false (items_of ds) ≡ joined ds ++ 93 ∷ []
items_joined [] = refl
items_joined (d ∷ ds) = ap (λ (t : List ℕ). compact_text d ++ t) (items_after ds) ∙ sym (append_assoc (compact_text d) (after ds) (93 ∷ []))

after_more : (ds : List Data) (e : Data) → after (ds ++ e ∷ []) ≡ after ds ++ 44 ∷ compact_text e
after_more [] e = ap (λ (t : List ℕ). 44 ∷ t) (append-nil (compact_text e))
after_more (d ∷ ds) e =
    ap (λ (t : List ℕ). 44 ∷ (compact_text d ++ t)) (after_more ds e) ∙ ap (λ (t : List ℕ). 44 ∷ t) (sym (append_assoc (compact_text d) (after ds) (44 ∷ compact_text e)))

joined_more : (d : Data) (ds : List Data) (e : Data) → joined (d ∷ (ds ++ e ∷ [])) ≡ joined (d ∷ ds) ++ 44 ∷ compact_text e
joined_more d ds e = ap (λ (t : List ℕ). compact_text d ++ t) (after_more ds e) ∙ sym (append_assoc (compact_text d) (after ds) (44 ∷ compact_text e))

-- ---- an array that is being written

-- An array was begun, and these items are written.
pub record IsBegun (ds : List Data) (old new : List ℕ) : Type 0 where
  pub text : new ≡ old ++ 91 ∷ joined ds
  pub carried : list_all is_carried ds ≡ true
  pub characters : IsUtf8 (joined ds)

ascii_before : (x : ℕ) (t : List ℕ) → IsUtf8 (x ∷ []) → IsUtf8 t → IsUtf8 (x ∷ t)
ascii_before x t h u = IsUtf8-append (x ∷ []) t h u

-- the bracket alone
pub begun_empty : {o p : List ℕ} → p ≡ o ++ 91 ∷ [] → IsBegun [] o p
begun_empty h = record { text = h; carried = refl; characters = IsUtf8-nil }

pub begun_first : {d : Data} {o p q : List ℕ} → p ≡ o ++ 91 ∷ [] → IsWritten d p q → IsBegun (d ∷ []) o q
begun_first {d} {o} {p} {q} h w = record {
  text = w.text ∙ ap (λ (t : List ℕ). t ++ compact_text d) h ∙ append_assoc o (91 ∷ []) (compact_text d) ∙ ap (λ (t : List ℕ). o ++ 91 ∷ t) (sym (append-nil (compact_text d)));
  carried = and_from (is_carried d) true w.carried refl;
  characters = subst IsUtf8 (sym (append-nil (compact_text d))) w.characters;
}

-- a word that needs no escape, and the item behind it
pub begun_tagged : {w : List ℕ} {d : Data} {o p q : List ℕ} → IsTagged w o p → IsWritten d p q → IsBegun (string w ∷ d ∷ []) o q
begun_tagged {w} {d} {o} {p} {q} h v = record {
  text = v.text ∙ ap (λ (t : List ℕ). t ++ compact_text d) h.text ∙ regroup o (quoted w) (compact_text d);
  carried = and_from (is_carried d) true v.carried refl;
  characters = IsUtf8-append (quoted w) _ h.characters
      (ascii_before 44 _ (IsUtf8-are_ascii (44 ∷ []) refl) (subst IsUtf8 (sym (append-nil (compact_text d))) v.characters));
}
  where
    regroup : (o s t : List ℕ) → (o ++ 91 ∷ (s ++ 44 ∷ [])) ++ t ≡ o ++ 91 ∷ (s ++ 44 ∷ (t ++ []))
    regroup o s t = simp (append_assoc, append-nil)

pub begun_more : {e d : Data} {ds : List Data} {o p q r : List ℕ} → IsBegun (e ∷ ds) o p → q ≡ p ++ 44 ∷ [] → IsWritten d q r → IsBegun (e ∷ (ds ++ d ∷ [])) o r
begun_more {e} {d} {ds} {o} {p} {q} {r} b h w = record {
  text = w.text ∙ ap (λ (t : List ℕ). t ++ compact_text d) (h ∙ ap (λ (t : List ℕ). t ++ 44 ∷ []) b.text)
      ∙ regroup o (joined (e ∷ ds)) (compact_text d) ∙ ap (λ (t : List ℕ). o ++ 91 ∷ t) (sym (joined_more e ds d));
  carried = list_all-append is_carried (e ∷ ds) (d ∷ []) ∙ and_from (list_all is_carried (e ∷ ds)) (is_carried d && true) b.carried (and_from (is_carried d) true w.carried refl);
  characters = subst IsUtf8 (sym (joined_more e ds d)) (IsUtf8-append (joined (e ∷ ds)) _ b.characters (ascii_before 44 _ (IsUtf8-are_ascii (44 ∷ []) refl) w.characters));
}
  where
    regroup : (o s t : List ℕ) → ((o ++ 91 ∷ s) ++ 44 ∷ []) ++ t ≡ o ++ 91 ∷ (s ++ 44 ∷ t)
    regroup o s t = simp append_assoc

pub begun_end : {ds : List Data} {o p n : List ℕ} → IsBegun ds o p → n ≡ p ++ 93 ∷ [] → IsWritten (row ds) o n
begun_end {ds} {o} {p} {n} b h = record {
  text = h ∙ ap (λ (t : List ℕ). t ++ 93 ∷ []) b.text ∙ append_assoc o (91 ∷ joined ds) (93 ∷ []) ∙ ap (λ (t : List ℕ). o ++ 91 ∷ t) (sym (items_joined ds));
  carried = carried_row ds ∙ b.carried;
  characters = ascii_before 91 _ (IsUtf8-are_ascii (91 ∷ []) refl)
      (subst IsUtf8 (sym (items_joined ds)) (IsUtf8-append (joined ds) (93 ∷ []) b.characters (IsUtf8-are_ascii (93 ∷ []) refl)));
}

-- an array of nothing
pub none_written : {o n : List ℕ} → n ≡ o ++ 91 ∷ 93 ∷ [] → IsWritten (row []) o n
none_written h = record { text = h; carried = refl; characters = IsUtf8-are_ascii (91 ∷ 93 ∷ []) refl }

-- ---- a loop that writes the items of an array

abbrev has_items : List Data → Bool
has_items [] = false
has_items (d ∷ ds) = true

-- Of all items the rest is still to be written. A comma is due where one was.
pub record IsUnderWay (rest all : List Data) (later : Bool) (old new : List ℕ) : Type 0 where
  pub done : List Data
  pub begun : IsBegun done old new
  pub together : done ++ rest ≡ all
  pub later_is : later ≡ has_items done

pub under_way : {rest all : List Data} {o p : List ℕ} → rest ≡ all → p ≡ o ++ 91 ∷ [] → IsUnderWay rest all false o p
under_way same h = record { done = []; begun = begun_empty h; together = same; later_is = refl }

one_later : (done : List Data) (later : Bool) (d : Data) {o p q r : List ℕ} → IsBegun done o p → later ≡ has_items done → q ≡ p ++ comma_if later → IsWritten d q r → IsBegun (done ++ d ∷ []) o r
one_later [] later d {o} {p} {q} {r} b is h w =
    begun_first (h ∙ ap (λ (l : Bool). p ++ comma_if l) is ∙ append-nil p ∙ b.text) w
one_later (e ∷ es) later d {o} {p} {q} {r} b is h w = begun_more b (h ∙ ap (λ (l : Bool). p ++ comma_if l) is) w

has_one : (done : List Data) (d : Data) → true ≡ has_items (done ++ d ∷ [])
has_one [] d = refl
has_one (e ∷ es) d = refl

pub one_more : {d : Data} {rest less all : List Data} {later : Bool} {o p q r : List ℕ} → IsUnderWay rest all later o p → rest ≡ d ∷ less → q ≡ p ++ comma_if later → IsWritten d q r →
    IsUnderWay less all true o r
one_more {d} {rest} {less} {all} {later} u cut h w = record {
  done = u.done ++ d ∷ [];
  begun = one_later u.done later d u.begun u.later_is h w;
  together = append_assoc u.done (d ∷ []) less ∙ ap (λ (ds : List Data). u.done ++ ds) (sym cut) ∙ u.together;
  later_is = has_one u.done d;
}

pub all_written : {rest all : List Data} {later : Bool} {o p n : List ℕ} → IsUnderWay rest all later o p → rest ≡ [] → n ≡ p ++ 93 ∷ [] → IsWritten (row all) o n
all_written {rest} {all} {later} {o} {p} {n} u none h =
    let same : u.done ≡ all = sym (append-nil u.done) ∙ ap (λ (ds : List Data). u.done ++ ds) (sym none) ∙ u.together in
    subst (λ (ds : List Data). IsWritten (row ds) o n) same (begun_end u.begun h)

-- ---- texts between quotes

pub word_written : (w : List ℕ) {o p q n : List ℕ} → escape w ≡ w → IsUtf8 w → p ≡ o ++ 34 ∷ [] → q ≡ p ++ w → n ≡ q ++ 34 ∷ [] → IsWritten (string w) o n
word_written w {o} same u a b c = record {
  text = c ∙ ap (λ (t : List ℕ). t ++ 34 ∷ []) (b ∙ ap (λ (t : List ℕ). t ++ w) a) ∙ regroup o w ∙ ap (λ (t : List ℕ). o ++ 34 ∷ (t ++ 34 ∷ [])) (sym same);
  carried = refl;
  characters = IsUtf8-quoted w u;
}
  where
    regroup : (o t : List ℕ) → ((o ++ 34 ∷ []) ++ t) ++ 34 ∷ [] ≡ o ++ 34 ∷ (t ++ 34 ∷ [])
    regroup o t = simp append_assoc

pub word_tagged : (w : List ℕ) {o p q n : List ℕ} → escape w ≡ w → IsUtf8 w → p ≡ o ++ 91 ∷ 34 ∷ [] → q ≡ p ++ w → n ≡ q ++ 34 ∷ 44 ∷ [] → IsTagged w o n
word_tagged w {o} same u a b c = record {
  text = c ∙ ap (λ (t : List ℕ). t ++ 34 ∷ 44 ∷ []) (b ∙ ap (λ (t : List ℕ). t ++ w) a) ∙ regroup o w ∙ ap (λ (t : List ℕ). o ++ 91 ∷ 34 ∷ ((t ++ 34 ∷ []) ++ 44 ∷ [])) (sym same);
  characters = IsUtf8-quoted w u;
}
  where
    regroup : (o t : List ℕ) → ((o ++ 91 ∷ 34 ∷ []) ++ t) ++ 34 ∷ 44 ∷ [] ≡ o ++ 91 ∷ 34 ∷ ((t ++ 34 ∷ []) ++ 44 ∷ [])
    regroup o t = simp append_assoc

pub quoted_written : (bytes o p q n : List ℕ) → p ≡ o ++ 34 ∷ [] → q ≡ p ++ escape bytes → n ≡ q ++ 34 ∷ [] → n ≡ o ++ quoted bytes
quoted_written bytes o p q n a b c = c ∙ ap (λ (t : List ℕ). t ++ 34 ∷ []) (b ∙ ap (λ (t : List ℕ). t ++ escape bytes) a) ∙ regroup o (escape bytes)
  where
    regroup : (o t : List ℕ) → ((o ++ 34 ∷ []) ++ t) ++ 34 ∷ [] ≡ o ++ 34 ∷ (t ++ 34 ∷ [])
    regroup o t = simp append_assoc

pub text_written : (w : List ℕ) {o n : List ℕ} → IsUtf8 w → n ≡ o ++ quoted w → IsWritten (string w) o n
text_written w u h = record { text = h; carried = refl; characters = IsUtf8-quoted w u }

-- ---- escapes, byte by byte

pub escaped_none : (o : List ℕ) (bytes : List ℕ) → o ++ (escape (drop 0 bytes) ++ []) ≡ o ++ escape bytes
escaped_none o bytes = ap (λ (t : List ℕ). o ++ t) (append-nil (escape bytes))

pub escaped_more : (bytes : List ℕ) (i : ℕ) (o p q : List ℕ) → i < length bytes → q ≡ p ++ escape_byte (get_or bytes i 0) → p ++ (escape (drop i bytes) ++ []) ≡ o ++ escape bytes →
    q ++ (escape (drop (i + 1) bytes) ++ []) ≡ o ++ escape bytes
escaped_more bytes i o p q below h before =
    ap (λ (t : List ℕ). t ++ (escape (drop (i + 1) bytes) ++ [])) h ∙ append_assoc p (escape_byte (get_or bytes i 0)) (escape (drop (i + 1) bytes) ++ [])
    ∙ ap (λ (t : List ℕ). p ++ t) (sym (escape_at bytes i [] below)) ∙ before

pub escaped_all : (bytes : List ℕ) (i : ℕ) (o p : List ℕ) → length bytes ≤ i → p ++ (escape (drop i bytes) ++ []) ≡ o ++ escape bytes → p ≡ o ++ escape bytes
escaped_all bytes i o p above h = sym (append-nil p) ∙ ap (λ (t : List ℕ). p ++ t) (sym (escape_end bytes i [] above)) ∙ h

-- ---- the items of a slice

pub item_next : {X : Type 0} (f : X → Data) (i : ℕ) (xs : List X) (x y : X) → i < length xs → x ≡ get_or xs i x → y ≡ x → map f (drop i xs) ≡ f y ∷ map f (drop (i + 1) xs)
item_next {X} f i xs x y below is same =
    ap (map f) (drop-cons xs i x below ∙ ap (λ (z : X). z ∷ drop (suc i) xs) (sym is) ∙ ap (λ (z : X). z ∷ drop (suc i) xs) (sym same) ∙ ap (λ (j : ℕ). y ∷ drop j xs) (sym (add-one i)))

pub items_end : {X : Type 0} (f : X → Data) (i : ℕ) (xs : List X) → length xs ≤ i → map f (drop i xs) ≡ []
items_end f i xs above = ap (map f) (drop_all i xs above)
