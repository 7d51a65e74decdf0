use Rattle.std.proofs.Common.{arith, ap, refl, ◌∙◌, List, [], ◌∷◌, ◌++◌, ℕ}
use Rattle.json_print.specs.Print.{entry_data}
use Rattle.json_print.proofs.Depths.{entry_nests}
use Rattle.json_print.proofs.Lines.{line_written}
use Rattle.json_print.proofs.Readable.{carried_readable, line_of_characters}
use Rattle.json_print.proofs.print.write_parts.Goals as goal

pub returns-clause-text : goal.returns-clause-text
returns-clause-text c =
    let d = entry_data c.args.number c.args.entry.now in
    line_written c.args.out.now.items c.push.new.self.items d d (c.in_ok-push.ensures.items ∙ ap (λ (t : List ℕ). t ++ 10 ∷ []) c.in_ok-write_entry_row.ensures.text) refl

pub returns-clause-readable : goal.returns-clause-readable
returns-clause-readable c =
    carried_readable (entry_data c.args.number c.args.entry.now) 7 c.in_ok-write_entry_row.ensures.carried (entry_nests c.args.number c.args.entry.now) (omega arith)

pub returns-clause-characters : goal.returns-clause-characters
returns-clause-characters c = line_of_characters (entry_data c.args.number c.args.entry.now) c.in_ok-write_entry_row.ensures.characters
