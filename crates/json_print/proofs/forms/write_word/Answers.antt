use Rattle.json_print.proofs.RowText.{word_written}
use Rattle.json_print.proofs.forms.write_word.Goals as goal

pub returns : goal.returns
returns c =
    word_written c.args.word.now c.requires c.utf8.word c.in_ok-push.ensures.items (rw c.as_bytes.ensures.value at c.in_ok-extend_from_slice.ensures.items) c.in_ok-push-2.ensures.items
