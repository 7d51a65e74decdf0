-- A print in which lines tell moments.
use Rattle.std.specs.Prelude.{◌≡◌, ℕ, List, [], ◌∷◌, ◌++◌, Option, None, Some, codes}
use Rattle.json_forms.specs.Prints.{row, num}
use Rattle.json_print.specs.Print.{line}
use Rattle.serde_json.specs.Data.{Data, string}

-- the line that tells a moment
unfoldable pub moment_data : ℕ → Data
moment_data moment = row (string (codes "at") ∷ num moment ∷ [])

-- a line of a print without its end, and the moment that is told before it
pub record Line : Type 0 where
  pub moment : Option ℕ
  pub text : List ℕ

-- the line that tells a moment, where one is told
abbrev pub told : Option ℕ → List ℕ
told None = []
told (Some moment) = line (moment_data moment)

-- a line with its end, behind the one that tells its moment
abbrev pub line_of : Option ℕ → List ℕ → List ℕ
line_of moment text = told moment ++ (text ++ 10 ∷ [])

-- the lines, with those that tell moments
abbrev pub marked_text : List Line → List ℕ
marked_text [] = []
marked_text (l ∷ ls) = line_of l.moment l.text ++ marked_text ls

-- the lines, without those
abbrev pub plain_text : List Line → List ℕ
plain_text [] = []
plain_text (l ∷ ls) = line_of None l.text ++ plain_text ls

-- The text is this print with lines that tell moments before some of its lines: without them it is the print.
pub record IsMarked (print text : List ℕ) : Type 0 where
  pub lines : List Line
  pub rest : List ℕ
  pub without : print ≡ plain_text lines ++ rest
  pub with : text ≡ marked_text lines ++ rest
