-- What holds of prints.
use Rattle.std.specs.Prelude.{ℕ, ◌≡◌, List, []}
use Rattle.run_grammar.specs.Laws.{EachFits}
use Rattle.run_grammar.specs.Standing.{standing, start}
use Rattle.run_grammar.specs.declared.answer.Entry.{Entry}
use Rattle.json_print.specs.Endings.{Ends}
use Rattle.json_print.specs.Print.{run_text}
use Rattle.json_print.specs.declared.ending.Ending.{Ending}
use Rattle.json_print.specs.declared.ending.Ending.TheVariants as endings
use Rattle.json_print.specs.declared.head.RunHead.{RunHead}
use Rattle.runcheck.specs.Carried.{IsCarried}
use Rattle.runcheck.specs.Follow.{calls_of}
use Rattle.runcheck.specs.Reach.{IsPrintOf, Reach, whole_ending}
use Rattle.runcheck.specs.Told.{IsTold}

-- A print that is carried is read as what it was printed for, however the run ended.
abbrev pub PrintsAreTold : Type 0
PrintsAreTold =
    (head : RunHead) (log : List Entry) (e : Ending) → EachFits log → IsCarried head log e
    → IsTold (run_text head log e) (record { head = head; calls = calls_of log })

-- The print of a whole run of at most its fuel is in reach, where it is carried.
abbrev pub WholeRunsAreReached : Type 0
WholeRunsAreReached = (head : RunHead) (log : List Entry) (text : List ℕ) → IsPrintOf head log text
    → IsCarried head log (whole_ending head (standing (start head.input) log).context.context) → Reach text

-- What an operation's run prints is in reach, unless its fuel was used up.
abbrev pub EndedRunsAreReached : Type 0
EndedRunsAreReached =
    (head : RunHead) (log : List Entry) (e : Ending) → Ends head [] log e → (e ≡ endings.Unfinished → ⊥)
    → IsCarried head log e → Reach (run_text head log e)

-- What is printed where the fuel was used up is not.
abbrev pub UnfinishedRunsAreNot : Type 0
UnfinishedRunsAreNot =
    (head : RunHead) (log : List Entry) → Ends head [] log endings.Unfinished → IsCarried head log endings.Unfinished
    → Reach (run_text head log endings.Unfinished) → ⊥
