use Rattle.std.proofs.Common.{arith, ◌∙◌, ap, refl, sym, ◌+◌, ◌++◌, ℕ, drop}
use Rattle.json_print.specs.Print.{entries_text}
use Rattle.json_print.proofs.Lines.{entries_more, entries_end}
use Rattle.json_print.proofs.Readable.{all_fine, fine_more}
use Rattle.json_print.proofs.print.print_entries.Goals as goal

pub loop-entry-init : goal.loop-entry-init
loop-entry-init c = (refl, λ fine. fine)

pub loop-entry-preserved : goal.loop-entry-preserved
loop-entry-preserved c = (
  ap (λ (n : ℕ). c.write_entry.new.out.items ++ entries_text n (drop (c.loop-entry.entry-index + 1) c.args.entries.now)) c.in_ok-number.ensures
      ∙ entries_more c.loop-entry.number c.loop-entry.entry-index c.args.entries.now c.entry-item.result c.loop-entry.out.items c.write_entry.new.out.items (omega arith) c.entry-item.is c.in_ok-write_entry.ensures.text
      ∙ c.loop-entry.invariant.0,
  fine_more c.loop-entry.number c.in_ok-number.number c.loop-entry.entry-index c.args.entries.now c.entry-item.result (omega arith) c.entry-item.is c.in_ok-number.ensures c.in_ok-write_entry.ensures.readable c.in_ok-write_entry.ensures.characters c.loop-entry.invariant.1,
)

pub returns-clause-text : goal.returns-clause-text
returns-clause-text c = sym (entries_end c.loop-entry.number c.loop-entry.entry-index c.args.entries.now c.loop-entry.out.items (omega arith)) ∙ c.loop-entry.invariant.0

pub returns-clause-readable : goal.returns-clause-readable
returns-clause-readable c = (all_fine c.loop-entry.number c.loop-entry.entry-index c.args.entries.now (omega arith) c.loop-entry.invariant.1).0

pub returns-clause-characters : goal.returns-clause-characters
returns-clause-characters c = (all_fine c.loop-entry.number c.loop-entry.entry-index c.args.entries.now (omega arith) c.loop-entry.invariant.1).1
