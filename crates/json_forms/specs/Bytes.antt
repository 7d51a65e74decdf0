-- Values whose texts are of bytes, as those that a text of UTF-8 spells.
use Rattle.std.specs.Prelude.{ℕ, List, Bool, true, ◌&&◌, nat_lt}
use Rattle.std.specs.List.{list_all}
use Rattle.json.specs.Json as json
use Rattle.serde_json.specs.Data.{Data, null, boolean, number, string, array, object, Items, no_items, item, Members}
use Rattle.serde_json.specs.Data.{no_members, member}

-- each number is a byte
abbrev pub are_bytes : List ℕ → Bool
are_bytes s = list_all (λ b. nat_lt b 256) s

abbrev mutual
  -- each string that is a value in the data is of bytes
  pub of_bytes : Data → Bool
  of_bytes null = true
  of_bytes (boolean b) = true
  of_bytes (number n) = true
  of_bytes (string s) = are_bytes s
  of_bytes (array ds) = items_of_bytes ds
  of_bytes (object ms) = members_of_bytes ms

  -- the strings in each item are
  pub items_of_bytes : Items → Bool
  items_of_bytes no_items = true
  items_of_bytes (item d ds) = of_bytes d && items_of_bytes ds

  -- the strings in each member's value are
  pub members_of_bytes : Members → Bool
  members_of_bytes no_members = true
  members_of_bytes (member k d ms) = of_bytes d && members_of_bytes ms

-- the same of JSON whose numbers are texts
abbrev mutual
  -- each string that is a value in it is of bytes
  pub json_of_bytes : json.Json → Bool
  json_of_bytes json.null = true
  json_of_bytes (json.boolean b) = true
  json_of_bytes (json.number s) = true
  json_of_bytes (json.string s) = are_bytes s
  json_of_bytes (json.array js) = all_of_bytes js
  json_of_bytes (json.object ms) = each_of_bytes ms

  -- the strings in each item are
  pub all_of_bytes : json.Items → Bool
  all_of_bytes json.no_items = true
  all_of_bytes (json.item j js) = json_of_bytes j && all_of_bytes js

  -- the strings in each member's value are
  pub each_of_bytes : json.Members → Bool
  each_of_bytes json.no_members = true
  each_of_bytes (json.member k j ms) = json_of_bytes j && each_of_bytes ms
