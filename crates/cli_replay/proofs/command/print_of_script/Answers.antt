use Rattle.std.proofs.Common.{ℕ, ◌≡◌, ◌∙◌, ap, subst, length, List, [], true}
use Rattle.std.specs.Str.{IsUtf8}
use Rattle.json_forms.specs.Lines.{are_readable}
use Rattle.run_grammar.specs.declared.answer.Entry.{Entry}
use Rattle.orchestrate.specs.Script.{Spelled}
use Rattle.orchestrate.specs.declared.script.ScriptAnswer.{ScriptAnswer}
use Rattle.json_print.specs.Endings.{Ends}
use Rattle.json_print.specs.Print.{run_data, run_text}
use Rattle.cli_replay.specs.Taking.{Takes}
use Rattle.cli_replay.proofs.Taken.{spelled_by, told_of}
use Rattle.cli_replay.proofs.command.print_of_script.Goals as goal

pub returns-clause-print : goal.returns-clause-print
returns-clause-print c =
    let ends = subst (λ (l : List Entry). Ends c.args.script.head l c.run_script.new.world.log c.in_ok-ending.ending) c.in_ok-world.ensures.log c.in_ok-ending.ensures.ends in
    let takes = subst (λ (a : List ScriptAnswer). Takes a 0 0 c.run_script.new.world.log c.run_script.new.world.answers (length c.run_script.new.world.log) c.run_script.new.world.until) c.in_ok-world.ensures.answers (c.in_ok-ending.ensures.takes c.in_ok-world.ensures.log c.in_ok-world.ensures.until) in
    let spelled = spelled_by c.args.script.answers c.run_script.new.world.answers c.run_script.new.world.log 0 0 (length c.run_script.new.world.log) c.run_script.new.world.until takes in (
      c.run_script.new.world.log,
      c.in_ok-ending.ending,
      (ends, c.run_script.new.world.answers, spelled),
      c.in_ok-text.ensures.text ∙ ap (λ (l : List Entry). run_text c.args.script.head l c.in_ok-ending.ending) (c.as_slice.ensures ∙ c.into_entries-entries.ensures),
      c.outcome_of-outcome.ensures,
      subst (λ (l : List Entry). are_readable (run_data c.args.script.head l c.in_ok-ending.ending) ≡ true) (c.as_slice.ensures ∙ c.into_entries-entries.ensures) c.in_ok-text.ensures.readable,
      subst (λ (l : List Entry). IsUtf8 (run_text c.args.script.head l c.in_ok-ending.ending)) (c.as_slice.ensures ∙ c.into_entries-entries.ensures) c.in_ok-text.ensures.characters,
    )

pub returns-clause-left : goal.returns-clause-left
returns-clause-left c =
    let ends = subst (λ (l : List Entry). Ends c.args.script.head l c.run_script.new.world.log c.in_ok-ending.ending) c.in_ok-world.ensures.log c.in_ok-ending.ensures.ends in
    let takes = subst (λ (a : List ScriptAnswer). Takes a 0 0 c.run_script.new.world.log c.run_script.new.world.answers (length c.run_script.new.world.log) c.run_script.new.world.until) c.in_ok-world.ensures.answers (c.in_ok-ending.ensures.takes c.in_ok-world.ensures.log c.in_ok-world.ensures.until) in
    let spelled = spelled_by c.args.script.answers c.run_script.new.world.answers c.run_script.new.world.log 0 0 (length c.run_script.new.world.log) c.run_script.new.world.until takes in (
      c.run_script.new.world.log,
      c.in_ok-ending.ending,
      c.run_script.new.world.answers,
      c.run_script.new.world.until,
      ends,
      takes,
      told_of c.args.script.answers c.run_script.new.world.answers c.run_script.new.world.log c.run_script.new.world.until c.len-count.result c.left_over-left_over.result c.len-count.ensures spelled c.left_over-left_over.ensures,
    )
