-- Which command the words are.
use Rattle.std.specs.Prelude.{ℕ, ◌+◌, ◌-◌, ◌*◌, ◌^◌, List, [], ◌∷◌, Bool, ◌&&◌, Option, Some, None, option_and_then}
use Rattle.std.specs.Prelude.{codes, nat_le, nat_lt, nat_eq, ◌==◌, if◌then◌else◌}
use Rattle.std.specs.Cmp.Lexicographic.{pointwise}
use Rattle.cli_commands.specs.declared.words.Command.{Command}
use Rattle.cli_commands.specs.declared.words.Command.TheVariants as commands

-- whether a word is this name
abbrev pub is_word : List ℕ → List ℕ → Bool
is_word name word = pointwise nat_eq word name

-- a number with a decimal digit behind it, where it fits a u64
unfoldable pub with_digit : ℕ → ℕ → Option ℕ
with_digit front b =
    if nat_le 48 b && nat_le b 57 && nat_lt (front * 10 + (b - 48)) (2 ^ 64) then Some (front * 10 + (b - 48))
    else None

-- the number that the digits give after a front
unfoldable pub digits_number : ℕ → List ℕ → Option ℕ
digits_number front [] = Some front
digits_number front (b ∷ bs) = option_and_then (λ n. digits_number n bs) (with_digit front b)

-- decimal digits without a leading zero
unfoldable pub number_word : List ℕ → Option ℕ
number_word [] = None
number_word (b ∷ []) = digits_number 0 (b ∷ [])
number_word (b ∷ c ∷ bs) = if b == 48 then None else digits_number 0 (b ∷ c ∷ bs)

-- the command that makes a script, where both numbers are there
abbrev pub made : Option ℕ → Option ℕ → Option Command
made (Some count) (Some seed) = Some (commands.Make count seed)
made _ _ = None

-- the command that a word alone names
unfoldable pub one_word : List ℕ → Option Command
one_word w = if is_word (codes "--help") w then Some commands.Help
    else (if is_word (codes "--version") w then Some commands.Version
    else (if is_word (codes "replay") w then Some commands.Replay
    else (if is_word (codes "client") w then Some commands.Client
    else (if is_word (codes "wait") w then Some commands.Wait
    else (if is_word (codes "waiters") w then Some commands.Waiters
    else (if is_word (codes "fleet") w then Some commands.Fleet
    else (if is_word (codes "serve") w then Some commands.Serve
    else (if is_word (codes "check") w then Some commands.Check else None))))))))

-- the command that a word behind `client` names
unfoldable pub option_of_client : List ℕ → Option Command
option_of_client w = if is_word (codes "--moments") w then Some commands.Moments else None

-- the command that the words are, none where they are no command
abbrev pub command_of : List (List ℕ) → Option Command
command_of (w ∷ []) = one_word w
command_of (w ∷ o ∷ []) = if is_word (codes "client") w then option_of_client o else None
command_of (w ∷ n ∷ s ∷ []) = if is_word (codes "make") w then made (number_word n) (number_word s) else None
command_of _ = None
