-- Data whose texts can be shown, and which nests no deeper than this.
use Rattle.std.proofs.Common.{◌≡◌, ℕ, ◌≤◌, Bool, true, ◌&&◌}
use Rattle.std.proofs.lemmas.Bool.{and_parts}
use Rattle.std.specs.List.{list_all}
use Rattle.serde_json.specs.Data.{Data, null, boolean, number, string, array, object, Items, no_items, item, Members, no_members, member, depth}
use Rattle.json_forms.specs.Carried.{is_carried}
use Rattle.json_forms.specs.Lines.{HasTexts, ItemsHaveTexts, MembersHaveTexts}
use Rattle.json_forms.proofs.Shown.{shown_text}
use Rattle.json_forms.specs.Prints.{is_shown}

-- each text and each name can be shown
abbrev mutual
  pub is_all_shown : Data → Bool
  is_all_shown null = true
  is_all_shown (boolean b) = true
  is_all_shown (number n) = true
  is_all_shown (string s) = list_all is_shown s
  is_all_shown (array ds) = items_shown ds
  is_all_shown (object ms) = members_shown ms

  pub items_shown : Items → Bool
  items_shown no_items = true
  items_shown (item d ds) = is_all_shown d && items_shown ds

  pub members_shown : Members → Bool
  members_shown no_members = true
  members_shown (member k d ms) = list_all is_shown k && (is_all_shown d && members_shown ms)

mutual
  pub texts_shown : (d : Data) → is_all_shown d ≡ true → HasTexts d
  texts_shown null h = tt
  texts_shown (boolean b) h = tt
  texts_shown (number n) h = tt
  texts_shown (string s) h = shown_text s h
  texts_shown (array ds) h = items_texts_shown ds h
  texts_shown (object ms) h = members_texts_shown ms h

  items_texts_shown : (ds : Items) → items_shown ds ≡ true → ItemsHaveTexts ds
  items_texts_shown no_items h = tt
  items_texts_shown (item d ds) h = let p = and_parts (is_all_shown d) (items_shown ds) h in (texts_shown d p.0, items_texts_shown ds p.1)

  members_texts_shown : (ms : Members) → members_shown ms ≡ true → MembersHaveTexts ms
  members_texts_shown no_members h = tt
  members_texts_shown (member k d ms) h =
      let p = and_parts (list_all is_shown k) (is_all_shown d && members_shown ms) h in
      let q = and_parts (is_all_shown d) (members_shown ms) p.1 in
      (shown_text k p.0, texts_shown d q.0, members_texts_shown ms q.1)

-- carried by a text, all of whose strings can be shown, and so deep at most
pub record IsPrintable (n : ℕ) (d : Data) : Type 0 where
  pub carried : is_carried d ≡ true
  pub shown : is_all_shown d ≡ true
  pub shallow : depth d ≤ n
