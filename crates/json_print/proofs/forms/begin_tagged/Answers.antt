use Rattle.json_print.proofs.RowText.{word_tagged}
use Rattle.json_print.proofs.forms.begin_tagged.Goals as goal

pub returns : goal.returns
returns c =
    word_tagged c.args.word.now c.requires c.utf8.word c.in_ok-extend_from_slice.ensures.items (rw c.as_bytes.ensures.value at c.in_ok-extend_from_slice-2.ensures.items)
    c.in_ok-extend_from_slice-3.ensures.items
