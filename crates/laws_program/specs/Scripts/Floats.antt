-- What a float in a text comes to.
use Rattle.std.specs.Prelude.{ℕ, ◌≡◌, List, true, Option, Some, None}
use Rattle.serde_json.specs.Data.{Data}
use Rattle.serde_json.specs.Read.{read}
use Rattle.serde_json.specs.Written.{has_float}

-- a text whose data has a float, in an array or a member at any depth, is read as nothing; of members with one name
-- the data has the last
abbrev pub FloatsSpellNothing : {X : Type 0} → (Data → Option X) → Type 0
FloatsSpellNothing {X} reading = (text : List ℕ) (d : Data) → read text ≡ Some d → has_float d ≡ true → reading d ≡ None
