-- What is read of a text whose numbers all have values, and of one in which some number has none.
use Rattle.std.proofs.Common.{◌≡◌, ℕ, List, Bool, true, false, ◌&&◌, is_some, unwrap_or, Option, Some, None, option_map, option_and_then, refl, ap, ◌∙◌}
use Rattle.std.specs.Float.{binary64}
use Rattle.fast_float.specs.Text.{scan, nearest}
use Rattle.json.specs.Json as json
use Rattle.json.specs.Lex.{tokens}
use Rattle.serde_json.specs.Data.{Num, float, Members, number, array, object, item, no_members, put}
use Rattle.serde_json.specs.Read.{number_of, of_json, of_items, of_members, read}
use Rattle.json_forms.specs.View.{number_view, data_of_json, items_of_json, members_of_json, in_range, items_in_range, members_in_range, whole_value}

both : (a b : Bool) → a && b ≡ true → (a ≡ true) × (b ≡ true)
both true true h = (refl, refl)
both true false h = absurd (cc)
both false b h = absurd (cc)

-- ---- each number has a value

value_found : (o : Option Num) (n : Num) → is_some o ≡ true → option_map number o ≡ Some (number (unwrap_or o n))
value_found None n h = absurd (cc)
value_found (Some m) n h = refl

number_found : (s : List ℕ) → is_some (number_of s) ≡ true → option_map number (number_of s) ≡ Some (number (number_view s))
unfolding number_view
number_found s h = value_found (number_of s) (float (nearest binary64 false (scan s))) h

mutual
  json_found : (j : json.Json) → in_range j ≡ true → of_json j ≡ Some (data_of_json j)
  json_found json.null h = refl
  json_found (json.boolean b) h = refl
  json_found (json.number s) h = number_found s h
  json_found (json.string s) h = refl
  json_found (json.array js) h = ap (option_map array) (items_found js h)
  json_found (json.object ms) h = ap (option_map object) (members_found ms no_members h)

  items_found : (js : json.Items) → items_in_range js ≡ true → of_items js ≡ Some (items_of_json js)
  items_found json.no_items h = refl
  items_found (json.item j js) h =
      let p = both (in_range j) (items_in_range js) h in
      rw (json_found j p.0) (ap (option_map (item (data_of_json j))) (items_found js p.1))

  members_found : (ms : json.Members) (found : Members) → members_in_range ms ≡ true → of_members ms found ≡ Some (members_of_json ms found)
  members_found json.no_members found h = refl
  members_found (json.member k j ms) found h =
      let p = both (in_range j) (members_in_range ms) h in
      rw (json_found j p.0) (members_found ms (put k (data_of_json j) found) p.1)

-- ---- some number has none

number_missing : (o : Option Num) → is_some o ≡ false → option_map number o ≡ None
number_missing None h = refl
number_missing (Some n) h = absurd (cc)

none_then : {A B : Type 0} (f : A → Option B) (o : Option A) → ((a : A) → f a ≡ None) → option_and_then f o ≡ None
none_then f None h = refl
none_then f (Some a) h = h a

-- one of two parts has none
either_missing : {A B : Type 0} (a b : Bool) (f : A → Option B) (o : Option A) → a && b ≡ false → (a ≡ false → o ≡ None) → (b ≡ false → (x : A) → f x ≡ None) → option_and_then f o ≡ None
either_missing false b f o h first rest = ap (option_and_then f) (first refl)
either_missing true b f o h first rest = none_then f o (rest h)

mutual
  json_missing : (j : json.Json) → in_range j ≡ false → of_json j ≡ None
  json_missing json.null h = absurd (cc)
  json_missing (json.boolean b) h = absurd (cc)
  json_missing (json.number s) h = number_missing (number_of s) h
  json_missing (json.string s) h = absurd (cc)
  json_missing (json.array js) h = ap (option_map array) (items_missing js h)
  json_missing (json.object ms) h = ap (option_map object) (members_missing ms no_members h)

  items_missing : (js : json.Items) → items_in_range js ≡ false → of_items js ≡ None
  items_missing json.no_items h = absurd (cc)
  items_missing (json.item j js) h =
      either_missing (in_range j) (items_in_range js) (λ d. option_map (item d) (of_items js)) (of_json j) h
      (λ e. json_missing j e) (λ e d. ap (option_map (item d)) (items_missing js e))

  members_missing : (ms : json.Members) (found : Members) → members_in_range ms ≡ false → of_members ms found ≡ None
  members_missing json.no_members found h = absurd (cc)
  members_missing (json.member k j ms) found h =
      either_missing (in_range j) (members_in_range ms) (λ d. of_members ms (put k d found)) (of_json j) h
      (λ e. json_missing j e) (λ e d. members_missing ms (put k d found) e)

-- ---- a text

pub text_found : (text : List ℕ) (j : json.Json) → whole_value (tokens text) ≡ Some j → in_range j ≡ true → read text ≡ Some (data_of_json j)
text_found text j e h = ap (option_and_then of_json) e ∙ json_found j h

pub text_missing : (text : List ℕ) (j : json.Json) → whole_value (tokens text) ≡ Some j → in_range j ≡ false → read text ≡ None
text_missing text j e h = ap (option_and_then of_json) e ∙ json_missing j h

pub text_refused : (text : List ℕ) → whole_value (tokens text) ≡ None → read text ≡ None
text_refused text e = ap (option_and_then of_json) e

pub ruleset in_ranges = (text_found, text_missing, text_refused)
