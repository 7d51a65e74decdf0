use Rattle.std.proofs.Common.{◌≡◌, ℕ, [], ◌∷◌, ◌++◌, Option, Some, None, map, option_to_list, sym, ap, ◌∙◌}
use Rattle.std.specs.Prelude.{option_copied}
use Rattle.json_forms.specs.Prints.{row, num}
use Rattle.serde_json.specs.Data.{string}
use Rattle.smithy_types.specs.declared.http.HttpRequest.{HttpRequest}
use Rattle.run_grammar.specs.Question.{kind_of_question}
use Rattle.run_grammar.specs.declared.answer.Entry.{Entry}
use Rattle.json_values.specs.Names.{kind_text}
use Rattle.json_values.specs.Values.{answer_data, kind_data, request_data}
use Rattle.json_print.specs.Print.{entry_data, entry_parts, transmitted}
use Rattle.json_print.proofs.PlainLines.{escape_kind}
use Rattle.json_print.proofs.RowText.{begun_first, begun_more, begun_end, written_same}
use Rattle.json_print.proofs.print.write_entry_row.Goals as goal
use Rattle.json_print.proofs.print.write_entry_row.Goals.{in-Some+in_ok-push-4+in_ok-write_request, in_default}

-- an entry's parts, with the request that was handed to the transport
entry_row : (n : ℕ) (e : Entry) (o : Option HttpRequest) → transmitted e.question e.answer ≡ o →
    row ((num n ∷ string (kind_text (kind_of_question e.question)) ∷ answer_data e.answer ∷ []) ++ map request_data (option_to_list o)) ≡ entry_data n e
unfolding entry_data kind_data
entry_row n e o same = ap (λ (r : Option HttpRequest). row (entry_parts n e ++ map request_data (option_to_list r))) (sym same)

pub write_word-requires : goal.write_word-requires
write_word-requires c = rw c.kind_title.ensures (escape_kind c.kind.result)

pub returns : goal.returns
returns c =
    let number = begun_first c.in_ok-push.ensures.items c.in_ok-write_number.ensures in
    let kind = begun_more number c.in_ok-push-2.ensures.items (rw (c.kind_title.ensures, c.kind.ensures) at c.in_ok-write_word.ensures) in
    let answer = begun_more kind c.in_ok-push-3.ensures.items c.in_ok-write_answer.ensures in
    elim c.match-transmitted.branch [
      | in-Some+in_ok-push-4+in_ok-write_request w ↦
          written_same (entry_row c.args.number c.args.entry.now (Some w.in-Some.request.now) (sym c.transmitted.ensures ∙ ap option_copied w.in-Some.is))
          (begun_end (begun_more answer w.in_ok-push-4.ensures.items w.in_ok-write_request.ensures) (rw w.out-is at c.in_ok-push-5.ensures.items))
      | in_default w ↦
          written_same (entry_row c.args.number c.args.entry.now None (sym c.transmitted.ensures ∙ ap option_copied w.in_default.is))
          (begun_end answer (rw w.out-is at c.in_ok-push-5.ensures.items))
    ]
