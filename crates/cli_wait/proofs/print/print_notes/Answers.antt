use Rattle.std.proofs.Common.{◌∙◌, sym}
use Rattle.cli_wait.specs.declared.notes.Note.TheVariants.{Poll}
use Rattle.cli_wait.proofs.Lines.{notes_more, notes_end, line_written}
use Rattle.cli_wait.proofs.print.print_notes.Goals as goal

pub loop-note-preserved : goal.loop-note-preserved
loop-note-preserved c =
    notes_more c.loop-note.note-index c.args.notes.now (Poll 0 0) c.loop-note.out.items c.write_line.new.out.items c.loop-note-test.true
    (line_written _ _ _ _ c.in_ok-write_line.ensures.text c.in_ok-print_note.ensures)
    ∙ c.loop-note.invariant

pub returns : goal.returns
returns c = sym (notes_end c.loop-note.note-index c.args.notes.now c.loop-note.out.items c.loop-note-test.false) ∙ c.loop-note.invariant
