-- Prints that are carried are told again.
use Rattle.std.proofs.Common.{◌≡◌, ℕ, ◌+◌, ◌-◌, List, [], ◌∷◌, ◌++◌, true, Some, None, refl, ap, ap₂, append_assoc, sym, ◌∙◌}
use Rattle.std.proofs.lemmas.Bool.{and_parts}
use Rattle.std.proofs.lemmas.List.{append-nil}
use Rattle.json_forms.proofs.OneByOne.{joined_lines, read_lines-lines_text}
use Rattle.json_forms.specs.Lines.{lines_text, read_lines}
use Rattle.json_forms.specs.Forms.{word_at}
use Rattle.json_forms.specs.Lists.{list_of}
use Rattle.json_forms.specs.Reading.{◌>>=◌}
use Rattle.run_grammar.specs.Entry.{kind_of}
use Rattle.run_grammar.specs.Fits.{fits}
use Rattle.run_grammar.specs.Laws.{EachFits}
use Rattle.run_grammar.specs.declared.answer.Entry.{Entry}
use Rattle.json_print.specs.Print.{begin_data, ending_data, entries_data, entries_text, entry_data, line, run_data, run_text}
use Rattle.json_print.specs.declared.ending.Ending.{Ending}
use Rattle.json_print.specs.declared.head.RunHead.{RunHead}
use Rattle.serde_json.specs.Data.{string}
use Rattle.serde_json.specs.View.{items_of}
use Rattle.smithy_types.specs.declared.kinds.StopPoint.{StopPoint}
use Rattle.smithy_types.specs.declared.kinds.StopPoint.TheVariants as stops
use Rattle.json_values.specs.Names.{stop_text}
use Rattle.json_values.specs.Spellable.{payload_spellable}
use Rattle.json_values.proofs.PrintedHeads.{payload_read}
use Rattle.json_values.proofs.PrintedNames.{kind_read}
use Rattle.runcheck.specs.Carried.{IsCarried, answer_tellable, answers_tellable}
use Rattle.runcheck.specs.Follow.{call_of, calls_of}
use Rattle.runcheck.specs.Told.{IsTold, call_at, head_at, stop_at, told_at, told_by}
use Rattle.runcheck.proofs.Between.{between_read}
use Rattle.runcheck.proofs.ToldAnswers.{told_answer_read}

-- ---- lines

stop_read : (s : StopPoint) → stop_at (string (stop_text s)) ≡ Some s
unfolding stop_at
stop_read stops.None = refl
stop_read stops.BeforeTransmit = refl

head_read : (h : RunHead) → payload_spellable h.input ≡ true → head_at (begin_data h) ≡ Some h
unfolding head_at begin_data word_at
head_read h p = rw (payload_read h.input p, stop_read h.stop) refl

call_read : (n : ℕ) (e : Entry) → fits (kind_of e) e.answer ≡ true → answer_tellable e.answer ≡ true → call_at (entry_data n e) ≡ Some (call_of e)
unfolding call_at entry_data
call_read n e f h = rw (kind_read (kind_of e), told_answer_read (kind_of e) e.answer f h) refl

calls_read : (n : ℕ) (l : List Entry) → EachFits l → answers_tellable l ≡ true → list_of call_at (items_of (entries_data n l)) ≡ Some (calls_of l)
unfolding list_of
calls_read n [] f h = refl
calls_read n (e ∷ l) (f, g) h =
    let p = and_parts (answer_tellable e.answer) (answers_tellable l) h in
    rw (call_read n e f p.0, calls_read (n + 1) l g p.1) refl

-- ---- all lines

told_data : (head : RunHead) (log : List Entry) (e : Ending) → EachFits log → IsCarried head log e → told_at (run_data head log e) ≡ Some (record { head = head; calls = calls_of log })
unfolding told_at
told_data head log e f c = rw (head_read head c.input, between_read (begin_data head) (entries_data 1 log) (ending_data e), calls_read 1 log f c.answers) refl

entries_are_lines : (n : ℕ) (l : List Entry) → entries_text n l ≡ lines_text (entries_data n l)
unfolding entries_text
entries_are_lines n [] = refl
entries_are_lines n (e ∷ l) = ap (λ t. line (entry_data n e) ++ t) (entries_are_lines (n + 1) l)

pub run_is_lines : (head : RunHead) (log : List Entry) (e : Ending) → run_text head log e ≡ lines_text (run_data head log e)
unfolding run_text
run_is_lines head log e = append_assoc (line (begin_data head)) (entries_text 1 log) (line (ending_data e)) ∙ ap (λ t. line (begin_data head) ++ t)
    (ap₂ (λ s t. s ++ t) (entries_are_lines 1 log) (sym (append-nil (line (ending_data e)))) ∙ sym (joined_lines (entries_data 1 log) (ending_data e ∷ [])))

pub print_told : (head : RunHead) (log : List Entry) (e : Ending) → EachFits log → IsCarried head log e → IsTold (run_text head log e) (record { head = head; calls = calls_of log })
unfolding told_by
print_told head log e f c = (
  c.characters,
  ap (λ o. o >>= told_at) (ap read_lines (run_is_lines head log e) ∙ read_lines-lines_text (run_data head log e) c.lines) ∙ told_data head log e f c,
)
