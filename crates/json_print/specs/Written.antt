-- What was written for a value.
use Rattle.std.specs.Prelude.{◌≡◌, ℕ, List, [], ◌∷◌, ◌++◌, true, IsUtf8}
use Rattle.json.specs.Print.{quoted}
use Rattle.json_forms.specs.Carried.{is_carried}
use Rattle.serde_json.specs.Data.{Data}
use Rattle.serde_json.specs.Written.{compact_text}

-- Behind what stood there is the compact text of the data. It is of characters, and it carries the data.
pub record IsWritten (d : Data) (old new : List ℕ) : Type 0 where
  pub text : new ≡ old ++ compact_text d
  pub carried : is_carried d ≡ true
  pub characters : IsUtf8 (compact_text d)

-- Behind what stood there an array is begun with this word, and a comma stands behind it.
pub record IsTagged (w : List ℕ) (old new : List ℕ) : Type 0 where
  pub text : new ≡ old ++ 91 ∷ (quoted w ++ 44 ∷ [])
  pub characters : IsUtf8 (quoted w)
