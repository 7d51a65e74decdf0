-- The entries that calls come to, one after another.
use Rattle.std.specs.Prelude.{List, [], ◌∷◌, Option, None, map}
use Rattle.run_grammar.specs.declared.answer.Entry.{Entry}
use Rattle.run_grammar.specs.declared.standing.Standing.{Standing}
use Rattle.run_grammar.specs.Entry.{entry, kind_of}
use Rattle.run_grammar.specs.Standing.{State, asks, step}
use Rattle.runcheck.specs.declared.told.Call.{Call}

-- a call where this stands: its question is handed what stands
abbrev pub entry_of : Standing → Call → Entry
entry_of s c = entry (asks c.kind s) c.answer

-- what stands, and the last entry, after a call
abbrev pub after_call : Standing → Call → State
after_call s c = step (record { context = s; last = None }) (entry_of s c)

-- the entries of the calls, each question handed what stands before it
abbrev pub log_of : Standing → List Call → List Entry
log_of s [] = []
log_of s (c ∷ cs) = entry_of s c ∷ log_of (after_call s c).context cs

-- what a line tells of an entry: its kind and its answer
abbrev pub call_of : Entry → Call
call_of e = record { kind = kind_of e; answer = e.answer }

-- what lines tell of entries
abbrev pub calls_of : List Entry → List Call
calls_of l = map call_of l
