-- The line of a number, a kind of question and a word.
use Rattle.std.proofs.Common.{◌≡◌, ℕ, ◌<◌, ◌^◌, List, [], ◌∷◌, ◌++◌, Bool, true, false, Option, Some, cond, nat_eq, map, option_to_list, refl, sym, ap, ◌∙◌, subst, append_assoc, lt-ltb, arith}
use Rattle.std.proofs.lemmas.Bool.{and_parts}
use Rattle.std.specs.Fmt.{decimal}
use Rattle.std.specs.List.{list_all, find}
use Rattle.std.specs.Str.{IsUtf8}
use lib.Pointwise.{pointwise, bytes_decides}
use Rattle.json.specs.Print.{escape, escape_byte}
use Rattle.json_forms.proofs.Characters.{characters}
use Rattle.json_forms.specs.Lines.{is_readable}
use Rattle.json_forms.specs.Prints.{row, num}
use Rattle.run_grammar.specs.Question.{kind_of_question}
use Rattle.run_grammar.specs.declared.answer.Entry.{Entry}
use Rattle.run_grammar.specs.declared.kind.Kind.{Kind}
use Rattle.serde_json.specs.Data.{Data}
use Rattle.smithy_types.specs.declared.http.HttpRequest.{HttpRequest}
use Rattle.json_values.proofs.FoundNames.{by_its_text}
use Rattle.json_values.specs.Names.{all_kinds, kind_text}
use Rattle.json_values.specs.Values.{kind_data, request_data}
use Rattle.json_print.specs.Plain.{IsPlain, words_data, words_text}
use Rattle.json_print.specs.Print.{entry_data, entry_parts, line}
use Rattle.json_print.proofs.Readable.{line_of_characters}

-- ---- the text of a kind stands in a line as it is

-- what is found passes a test that all items pass
found_passes : {X : Type 0} (p q : X → Bool) (xs : List X) (x : X) → list_all q xs ≡ true → find p xs ≡ Some x → q x ≡ true
found_passes {X} p q [] x h f = absurd (cc)
found_passes {X} p q (y ∷ ys) x h f = by_first (p y) (found_passes p q ys x (and_parts (q y) (list_all q ys) h).1) f
  where
    by_first : (b : Bool) → (find p ys ≡ Some x → q x ≡ true) → cond b (Some y) (find p ys) ≡ Some x → q x ≡ true
    by_first true later e =
        let same : y ≡ x = cc in
        subst (λ (z : X). q z ≡ true) same (and_parts (q y) (list_all q ys) h).0
    by_first false later e = later e

-- whether the text of this kind does
stands : Kind → Bool
stands k = pointwise nat_eq (escape (kind_text k)) (kind_text k)

all_stand : list_all stands all_kinds ≡ true
unfolding stands escape_byte
all_stand = refl

pub escape_kind : (k : Kind) → escape (kind_text k) ≡ kind_text k
unfolding stands
escape_kind k = (bytes_decides (escape (kind_text k)) (kind_text k)).0 (found_passes (λ x. pointwise nat_eq (kind_text k) (kind_text x)) stands all_kinds k all_stand (by_its_text k))

-- ---- the line

-- a line of a number's digits and two texts
abbrev shape : List ℕ → List ℕ → List ℕ → List ℕ
shape d s t = (91 ∷ (d ++ (44 ∷ ((34 ∷ (s ++ 34 ∷ [])) ++ (44 ∷ ((34 ∷ (t ++ 34 ∷ [])) ++ 93 ∷ [])))))) ++ 10 ∷ []

pieces : (d s t : List ℕ) → shape d s t ≡ 91 ∷ (d ++ (44 ∷ 34 ∷ (s ++ (34 ∷ 44 ∷ 34 ∷ (t ++ 34 ∷ 93 ∷ 10 ∷ [])))))
pieces d s t = grind (arith, append_assoc)

pub words_line : (n : ℕ) (k : Kind) (w : List ℕ) → escape w ≡ w → line (words_data n k w) ≡ words_text n k w
unfolding kind_data
words_line n k w h =
    ap (λ (s : List ℕ). shape (decimal n) s (escape w)) (escape_kind k) ∙ ap (λ (t : List ℕ). shape (decimal n) (kind_text k) t) h ∙ pieces (decimal n) (kind_text k) w

words_readable : (n : ℕ) (k : Kind) (w : List ℕ) → n < 2 ^ 64 → is_readable (words_data n k w) ≡ true
unfolding kind_data
words_readable n k w below = rw (lt-ltb n (2 ^ 64) below) refl

pub words_characters : (n : ℕ) (k : Kind) (w : List ℕ) → n < 2 ^ 64 → IsUtf8 (kind_text k) → IsUtf8 w → IsUtf8 (line (words_data n k w))
unfolding kind_data
words_characters n k w below a b = line_of_characters (words_data n k w) (characters (words_data n k w) (rw (lt-ltb n (2 ^ 64) below) refl) (tt, (a, (b, tt))))

-- piece by piece, behind what was there
pub words_written : (o : List ℕ) (n : ℕ) (k : Kind) (w : List ℕ) → escape w ≡ w →
    ((((((o ++ 91 ∷ []) ++ decimal n) ++ 44 ∷ 34 ∷ []) ++ kind_text k) ++ 34 ∷ 44 ∷ 34 ∷ []) ++ w) ++ 34 ∷ 93 ∷ 10 ∷ [] ≡ o ++ line (words_data n k w)
words_written o n k w h = regroup o (decimal n) (kind_text k) w ∙ ap (λ (l : List ℕ). o ++ l) (sym (words_line n k w h))
  where
    regroup : (o d s t : List ℕ) → ((((((o ++ 91 ∷ []) ++ d) ++ 44 ∷ 34 ∷ []) ++ s) ++ 34 ∷ 44 ∷ 34 ∷ []) ++ t) ++ 34 ∷ 93 ∷ 10 ∷ []
        ≡ o ++ (91 ∷ (d ++ (44 ∷ 34 ∷ (s ++ (34 ∷ 44 ∷ 34 ∷ (t ++ 34 ∷ 93 ∷ 10 ∷ []))))))
    regroup o d s t = grind (arith, append_assoc)

-- ---- an entry whose answer prints as a word

plain_entry : (n : ℕ) (e : Entry) (w : List ℕ) → IsPlain e w → entry_data n e ≡ words_data n (kind_of_question e.question) w
unfolding entry_data
plain_entry n e w p =
    ap (λ (o : Option HttpRequest). row (entry_parts n e ++ map request_data (option_to_list o))) p.0
    ∙ ap (λ (d : Data). row (num n ∷ kind_data (kind_of_question e.question) ∷ d ∷ [])) p.1.0

-- what was written of it is the line of the entry
pub plain_written : (o new : List ℕ) (n : ℕ) (k : Kind) (e : Entry) (w : List ℕ) → IsPlain e w → k ≡ kind_of_question e.question → new ≡ o ++ line (words_data n k w) → new ≡ o ++ line (entry_data n e)
plain_written o new n k e w p same h = h ∙ ap (λ (j : Kind). o ++ line (words_data n j w)) same ∙ ap (λ (d : Data). o ++ line d) (sym (plain_entry n e w p))

pub plain_readable : (n : ℕ) (e : Entry) (w : List ℕ) → n < 2 ^ 64 → IsPlain e w → is_readable (entry_data n e) ≡ true
plain_readable n e w below p = subst (λ (d : Data). is_readable d ≡ true) (sym (plain_entry n e w p)) (words_readable n (kind_of_question e.question) w below)

pub plain_characters : (n : ℕ) (k : Kind) (e : Entry) (w : List ℕ) → IsPlain e w → k ≡ kind_of_question e.question → IsUtf8 (line (words_data n k w)) → IsUtf8 (line (entry_data n e))
plain_characters n k e w p same h = subst (λ (d : Data). IsUtf8 (line d)) (ap (λ (j : Kind). words_data n j w) same ∙ sym (plain_entry n e w p)) h

pub ruleset words_lines = (words_line, words_written, words_characters)
