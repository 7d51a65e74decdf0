-- Entries whose answers are printed as a word.
use Rattle.std.specs.Prelude.{◌≡◌, ℕ, List, [], ◌∷◌, ◌++◌, None, decimal}
use Rattle.json.specs.Print.{escape}
use Rattle.json_forms.specs.Prints.{row, num}
use Rattle.serde_json.specs.Data.{Data, string}
use Rattle.run_grammar.specs.declared.answer.Answer.{Answer}
use Rattle.run_grammar.specs.declared.answer.Entry.{Entry}
use Rattle.run_grammar.specs.declared.kind.Kind.{Kind}
use Rattle.json_values.specs.Names.{kind_text}
use Rattle.json_values.specs.Values.{answer_data, kind_data}
use Rattle.json_print.specs.Print.{transmitted}

-- The answer prints as this word, which stands in a text as it is.
abbrev pub PrintsAs : Answer → List ℕ → Type 0
PrintsAs a w = (answer_data a ≡ string w) × (escape w ≡ w)

-- The entry shows no request, and its answer prints as this word.
abbrev pub IsPlain : Entry → List ℕ → Type 0
IsPlain e w = (transmitted e.question e.answer ≡ None) × PrintsAs e.answer w

-- a number, a kind of question and a word
abbrev pub words_data : ℕ → Kind → List ℕ → Data
words_data n k w = row (num n ∷ kind_data k ∷ string w ∷ [])

-- the line of them
abbrev pub words_text : ℕ → Kind → List ℕ → List ℕ
words_text n k w = 91 ∷ (decimal n ++ (44 ∷ 34 ∷ (kind_text k ++ (34 ∷ 44 ∷ 34 ∷ (w ++ 34 ∷ 93 ∷ 10 ∷ [])))))
