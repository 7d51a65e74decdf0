-- What `check` says of its input.
use Rattle.std.specs.Prelude.{ℕ, ◌≡◌, List, [], ◌∷◌, codes}
use Rattle.json_forms.specs.Prints.{row}
use Rattle.runcheck.specs.Reach.{Reach}
use Rattle.runcheck.specs.declared.judge.Verdict.{Verdict}
use Rattle.runcheck.specs.declared.judge.Verdict.TheVariants as verdicts
use Rattle.json_print.specs.Print.{line}
use Rattle.serde_json.specs.Data.{string}
use Rattle.cli_shell.specs.Said.{Said, prints, refuses}
use Rattle.cli_shell.specs.declared.status.PrintStatus.TheVariants as outcomes

-- a line with one word
abbrev pub line_of : List ℕ → List ℕ
line_of word = line (row (string word ∷ []))

-- the print of each verdict, and what it came to
abbrev pub verdict_says : Verdict → Said → Type 0
verdict_says verdicts.Yes s = s ≡ prints outcomes.Ok (line_of (codes "yes"))
verdict_says verdicts.No s = s ≡ prints outcomes.CheckNo (line_of (codes "no"))

-- Yes where the bytes are the print of a whole run and of its answer, and No where they are not.
abbrev pub check_says : List ℕ → Said → Type 0
check_says bytes (prints outcomes.Ok text) = Reach bytes × (text ≡ line_of (codes "yes"))
check_says bytes (prints outcomes.CheckNo text) = (Reach bytes → ⊥) × (text ≡ line_of (codes "no"))
check_says bytes (prints outcomes.SdkError text) = ⊥
check_says bytes (prints outcomes.Unfinished text) = ⊥
check_says bytes (prints outcomes.WrongType text) = ⊥
check_says bytes (prints outcomes.WaiterFailed text) = ⊥
check_says bytes (refuses refusal) = ⊥
