use Rattle.json_print.proofs.PlainLines.{plain_written, plain_characters}
use Rattle.json_print.proofs.print.write_entry.Goals as goal

pub returns-in_ok-write_words-in-Some-clause-text : goal.returns-in_ok-write_words-in-Some-clause-text
returns-in_ok-write_words-in-Some-clause-text c =
    plain_written c.args.out.now.items c.write_words.new.out.items c.args.number c.kind.result c.args.entry.now c.in-Some.word.now c.in-Some.ensures c.kind.ensures c.in_ok-write_words-in-Some.ensures.text

pub returns-in_ok-write_words-in-Some-clause-characters : goal.returns-in_ok-write_words-in-Some-clause-characters
returns-in_ok-write_words-in-Some-clause-characters c =
    plain_characters c.args.number c.kind.result c.args.entry.now c.in-Some.word.now c.in-Some.ensures c.kind.ensures c.in_ok-write_words-in-Some.ensures.characters
