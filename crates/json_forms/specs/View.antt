-- The data that a value stands for which was read from a text. A number stands in it as its text.
use Rattle.std.specs.Prelude.{ℕ, List, Option, option_and_then, Bool, true, false, ◌&&◌, is_some, unwrap_or}
use Rattle.std.specs.Borrow.{Bor}
use Rattle.std.specs.Float.{binary64}
use Rattle.fast_float.specs.Text.{scan, nearest}
use Rattle.json.specs.Json as json
use Rattle.json.specs.Token.{Token}
use Rattle.json.specs.Value as values
use Rattle.json.specs.Value.{value_view}
use Rattle.json.specs.declared.value.Value.{Value}
use Rattle.serde_json.specs.Data.{Num, float, Data, null, boolean, number, string, array, object, Items, no_items, item}
use Rattle.serde_json.specs.Data.{Members, no_members, put}
use Rattle.serde_json.specs.Read.{number_of, max_depth}

-- A number that is too large for a float has no data: such a text is refused.
unfoldable pub number_view : List ℕ → Num
number_view s = unwrap_or (number_of s) (float (nearest binary64 false (scan s)))

-- The members go in one after another, so that the last value of a key stays.
abbrev mutual
  -- the data of a value that was read
  pub data_of_json : json.Json → Data
  data_of_json json.null = null
  data_of_json (json.boolean b) = boolean b
  data_of_json (json.number s) = number (number_view s)
  data_of_json (json.string s) = string s
  data_of_json (json.array js) = array (items_of_json js)
  data_of_json (json.object ms) = object (members_of_json ms no_members)

  -- the data of an array's items
  pub items_of_json : json.Items → Items
  items_of_json json.no_items = no_items
  items_of_json (json.item j js) = item (data_of_json j) (items_of_json js)

  -- the members found so far, with these put in after them
  pub members_of_json : json.Members → Members → Members
  members_of_json json.no_members found = found
  members_of_json (json.member k j ms) found = members_of_json ms (put k (data_of_json j) found)

-- the value that the tokens are, where nothing follows it
abbrev pub whole_value : List Token → Option json.Json
whole_value ts = option_and_then (λ p. json.if_last p.0 p.1) (json.value max_depth ts)

-- each number has a value
abbrev mutual
  -- each number in it has a value
  pub in_range : json.Json → Bool
  in_range json.null = true
  in_range (json.boolean b) = true
  in_range (json.number s) = is_some (number_of s)
  in_range (json.string s) = true
  in_range (json.array js) = items_in_range js
  in_range (json.object ms) = members_in_range ms

  -- each number in the items has one
  pub items_in_range : json.Items → Bool
  items_in_range json.no_items = true
  items_in_range (json.item j js) = in_range j && items_in_range js

  -- each number in the members' values has one
  pub members_in_range : json.Members → Bool
  members_in_range json.no_members = true
  members_in_range (json.member k j ms) = in_range j && members_in_range ms

-- the data that a value read from a text stands for
unfoldable pub view : {A : Type 0} → Value A → Data
view v = data_of_json (value_view v)

-- the items that values in an arena stand for
unfoldable pub items_view : {A : Type 0} → List (Value A) → Items
items_view vs = items_of_json (values.items_view vs)

-- the members that keys and values in an arena stand for
unfoldable pub members_view : {A : Type 0} → List (Bor (List ℕ) × Value A) → Members
members_view ms = members_of_json (values.members_view ms) no_members
