-- The words of a script.
use Rattle.std.specs.Prelude.{ℕ, List, [], ◌∷◌}

-- the word that is drawn next
abbrev pub next_word : List ℕ → ℕ
next_word [] = 9223372036854775807
next_word (word ∷ words) = word

-- the words that are left then: the last one stays
abbrev pub words_after : List ℕ → List ℕ
words_after [] = []
words_after (word ∷ []) = word ∷ []
words_after (word ∷ next ∷ words) = next ∷ words
