-- What is said of a line that is no message.
use Rattle.std.specs.Prelude.{◌≡◌, ◌≤◌, ℕ, List, ◌++◌, length, codes}

-- It says that the line is no message, and behind that, in at most 1024 bytes, where and why.
pub record TellsNoMessage (text : List ℕ) : Type 0 where
  pub place : List ℕ
  pub text_is : text ≡ codes "no message" ++ place
  pub bound : length place ≤ 1024
