-- Texts of several lines, each of which is JSON data.
use Rattle.std.specs.Prelude.{ℕ, List, [], ◌∷◌, ◌++◌, Bool, ◌&&◌, nat_le, Option, Some, option_map, option_and_then}
use Rattle.std.specs.Prelude.{map, flat_map, IsUtf8, ⊤}
use Rattle.std.specs.List.{list_all}
use Rattle.std.specs.Str.Lines.{lines}
use Rattle.serde_json.specs.Data.{Data, null, boolean, number, string, array, object, Items, no_items, item, Members}
use Rattle.serde_json.specs.Data.{no_members, member, depth}
use Rattle.serde_json.specs.Read.{read, max_depth}
use Rattle.serde_json.specs.Written.{compact_text}
use Rattle.json_forms.specs.Carried.{is_carried}

-- a text carries it, and it nests no deeper than a reader goes
abbrev pub is_readable : Data → Bool
is_readable d = is_carried d && nat_le (depth d) max_depth

-- all of these can be carried and read
abbrev pub are_readable : List Data → Bool
are_readable ds = list_all is_readable ds

-- the compact text of the data and a line feed
abbrev pub line : Data → List ℕ
line d = compact_text d ++ 10 ∷ []

-- the lines of all of these, one after another
abbrev pub lines_text : List Data → List ℕ
lines_text ds = flat_map line ds

-- what was read, where each part was
abbrev pub each_read : List (Option Data) → Option (List Data)
each_read [] = Some []
each_read (r ∷ rs) = option_and_then (λ d. option_map (λ ds. d ∷ ds) (each_read rs)) r

-- the data of each line
abbrev pub read_lines : List ℕ → Option (List Data)
read_lines text = each_read (map read (lines text))

-- a byte that is no control character
abbrev pub is_visible : ℕ → Bool
is_visible b = nat_le 32 b

-- Each string is of characters.
abbrev mutual
  -- each string and each key of the data is UTF-8
  pub HasTexts : Data → Type 0
  HasTexts null = ⊤
  HasTexts (boolean b) = ⊤
  HasTexts (number n) = ⊤
  HasTexts (string s) = IsUtf8 s
  HasTexts (array ds) = ItemsHaveTexts ds
  HasTexts (object ms) = MembersHaveTexts ms

  -- so is each string and key in the items
  pub ItemsHaveTexts : Items → Type 0
  ItemsHaveTexts no_items = ⊤
  ItemsHaveTexts (item d ds) = HasTexts d × ItemsHaveTexts ds

  -- so is each key of the members, and each string and key in their values
  pub MembersHaveTexts : Members → Type 0
  MembersHaveTexts no_members = ⊤
  MembersHaveTexts (member k d ms) = IsUtf8 k × HasTexts d × MembersHaveTexts ms

-- each of these data has strings and keys of UTF-8 alone
abbrev pub AllHaveTexts : List Data → Type 0
AllHaveTexts [] = ⊤
AllHaveTexts (d ∷ ds) = HasTexts d × AllHaveTexts ds
