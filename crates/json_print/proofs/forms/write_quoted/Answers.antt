use Rattle.std.proofs.Common.{sym, ◌∙◌}
use Rattle.json_print.proofs.RowText.{escape_plain, quoted_written}
use Rattle.json_print.proofs.forms.write_quoted.Goals as goal
use Rattle.json_print.proofs.forms.write_quoted.Goals.{then-all_plain+in_ok-extend_from_slice, else-all_plain+in_ok-write_escaped}

pub returns : goal.returns
returns c = elim c.if-all_plain.branch [
  | then-all_plain+in_ok-extend_from_slice w ↦
      let plain = escape_plain c.args.bytes.now (sym c.all_plain.ensures ∙ w.if-all_plain.true) in
      quoted_written c.args.bytes.now _ _ _ _ c.in_ok-push.ensures.items (rw (sym plain) at w.in_ok-extend_from_slice.ensures.items) (rw w.out-is at c.in_ok-push-2.ensures.items)
  | else-all_plain+in_ok-write_escaped w ↦
      quoted_written c.args.bytes.now _ _ _ _ c.in_ok-push.ensures.items w.in_ok-write_escaped.ensures (rw w.out-is at c.in_ok-push-2.ensures.items)
]
