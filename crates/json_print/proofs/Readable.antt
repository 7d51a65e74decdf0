-- Each line that is written is read again.
use Rattle.std.proofs.Common.{◌≡◌, ◌≤◌, ℕ, List, [], ◌∷◌, ◌++◌, ◌+◌, ◌<◌, length, drop, get_or, true, Some, refl, sym, subst, ◌∙◌, arith, le-leb}
use Rattle.std.proofs.lemmas.Bool.{and_from}
use Rattle.std.proofs.lemmas.List.{drop_all}
use Rattle.std.proofs.lemmas.List.Folds.{list_all-append}
use Rattle.std.proofs.lemmas.Str.{IsUtf8-append}
use Rattle.std.specs.Str.{IsUtf8}
use Rattle.json_forms.proofs.Stored.{carried_when_read}
use Rattle.json_forms.specs.Carried.{is_carried}
use Rattle.json_forms.specs.Lines.{are_readable, is_readable}
use Rattle.json_forms.specs.JsonData.{data_of}
use Rattle.json_forms.specs.declared.printing.Json.{Json}
use Rattle.run_grammar.specs.declared.answer.Entry.{Entry}
use Rattle.json_print.specs.Print.{begin_data, ending_data, entries_data, entries_text, entry_data, line, run_data, run_text}
use Rattle.json_print.specs.declared.ending.Ending.{Ending}
use Rattle.json_print.specs.declared.head.RunHead.{RunHead}
use Rattle.json_print.proofs.Lines.{drop-step, entries_text-cons, entries_text-nil}
use Rattle.serde_json.specs.Data.{Data, depth}
use Rattle.serde_json.specs.Read.{read, max_depth}
use Rattle.serde_json.specs.Written.{compact_text}
use lib.Utf8.{encode}

-- ---- one line

pub line_readable : (j : Json) → (depth (data_of j) ≤ max_depth → read (compact_text (data_of j)) ≡ Some (data_of j)) → depth (data_of j) ≤ max_depth → is_readable (data_of j) ≡ true
line_readable j back shallow = and_from _ _ (carried_when_read (compact_text (data_of j)) (data_of j) (back shallow) j.no_float) (le-leb _ _ shallow)

-- what is carried and nests at most so deep is readable
pub carried_readable : (d : Data) (n : ℕ) → is_carried d ≡ true → depth d ≤ n → n ≤ max_depth → is_readable d ≡ true
carried_readable d n carried shallow below = and_from _ _ carried (le-leb _ _ (omega arith))

feed_of_characters : IsUtf8 (10 ∷ [])
unfolding encode
feed_of_characters = (10 ∷ [], (refl, refl))

pub line_of_characters : (d : Data) → IsUtf8 (compact_text d) → IsUtf8 (line d)
line_of_characters d h = IsUtf8-append (compact_text d) (10 ∷ []) h feed_of_characters

pub readable_as : (d e : Data) (n : ℕ) → d ≡ e → depth e ≤ n → n ≤ max_depth → (depth d ≤ max_depth → is_readable d ≡ true) → is_readable e ≡ true
readable_as d e n same shallow below h = subst (λ x. is_readable x ≡ true) same (h (subst (λ x. depth x ≤ max_depth) (sym same) (omega arith)))

pub characters_as : (d e : Data) → d ≡ e → IsUtf8 (line d) → IsUtf8 (line e)
characters_as d e same h = subst (λ x. IsUtf8 (line x)) same h

-- ---- entries

-- each line of these entries is read again, and they are of characters
abbrev pub AreFine : ℕ → List Entry → Type 0
AreFine n es = (are_readable (entries_data n es) ≡ true) × IsUtf8 (entries_text n es)

none_fine : (n : ℕ) → AreFine n []
none_fine n = (refl, subst IsUtf8 (sym (entries_text-nil n)) ([], (refl, refl)))

one_fine : (n : ℕ) (e : Entry) (es : List Entry) → is_readable (entry_data n e) ≡ true → IsUtf8 (line (entry_data n e)) → AreFine (n + 1) es → AreFine n (e ∷ es)
one_fine n e es r u h = (
  and_from (is_readable (entry_data n e)) (are_readable (entries_data (n + 1) es)) r h.0,
  subst IsUtf8 (sym (entries_text-cons n e es)) (IsUtf8-append (line (entry_data n e)) (entries_text (n + 1) es) u h.1),
)

-- one entry more
pub fine_more : (n m i : ℕ) (es : List Entry) (e : Entry) → i < length es → e ≡ get_or es i e → m ≡ n + 1 → is_readable (entry_data n e) ≡ true → IsUtf8 (line (entry_data n e)) →
    (AreFine n (drop i es) → AreFine 1 es) → AreFine m (drop (i + 1) es) → AreFine 1 es
fine_more n m i es e h f same r u before later =
    before (subst (AreFine n) (sym (drop-step i es e h f)) (one_fine n e (drop (i + 1) es) r u (subst (λ k. AreFine k (drop (i + 1) es)) same later)))

-- no entry more
pub all_fine : (n i : ℕ) (es : List Entry) → length es ≤ i → (AreFine n (drop i es) → AreFine 1 es) → AreFine 1 es
all_fine n i es h before = before (subst (AreFine n) (sym (drop_all i es h)) (none_fine n))

-- ---- all lines

pub run_readable : (h : RunHead) (log : List Entry) (e : Ending) → is_readable (begin_data h) ≡ true → are_readable (entries_data 1 log) ≡ true → is_readable (ending_data e) ≡ true → are_readable (run_data h log e) ≡ true
run_readable h log e b m l =
    and_from (is_readable (begin_data h)) (are_readable (entries_data 1 log ++ ending_data e ∷ [])) b
    (list_all-append is_readable (entries_data 1 log) (ending_data e ∷ []) ∙ and_from (are_readable (entries_data 1 log)) (are_readable (ending_data e ∷ [])) m (and_from (is_readable (ending_data e)) true l refl))

pub run_of_characters : (h : RunHead) (log : List Entry) (e : Ending) → IsUtf8 (line (begin_data h)) → IsUtf8 (entries_text 1 log) → IsUtf8 (line (ending_data e)) → IsUtf8 (run_text h log e)
unfolding run_text
run_of_characters h log e b m l = IsUtf8-append (line (begin_data h) ++ entries_text 1 log) (line (ending_data e)) (IsUtf8-append (line (begin_data h)) (entries_text 1 log) b m) l
