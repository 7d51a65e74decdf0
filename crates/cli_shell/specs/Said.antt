-- What a command says.
use Rattle.std.specs.Prelude.{ℕ, List}
use Rattle.cli_shell.specs.declared.command.Answer.{Answer}
use Rattle.cli_shell.specs.declared.command.Answer.TheVariants as answers
use Rattle.cli_shell.specs.declared.status.PrintStatus.{PrintStatus}
use Rattle.cli_shell.specs.declared.status.Refusal.{Refusal}

-- a print, what it came to and its text; or why there is none
pub data Said : Type 0 where
  prints : PrintStatus → List ℕ → Said
  refuses : Refusal → Said

-- what a command's answer says
abbrev pub said : Answer → Said
said (answers.Print text outcome) = prints outcome text.items
said (answers.Refusal refusal) = refuses refusal
