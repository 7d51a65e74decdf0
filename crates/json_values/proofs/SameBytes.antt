-- Data whose texts are of bytes, as the readers' proofs say it.
use Rattle.std.proofs.Common.{◌≡◌, true}
use Rattle.std.proofs.lemmas.Bool.{and_parts, and_from}
use Rattle.json_forms.specs.Bytes as bytes
use Rattle.serde_json.specs.Data.{Data, null, boolean, number, string, array, object, Items, no_items, item, Members, no_members, member}
use Rattle.json_values.specs.Spellable.{bytes_spellable}
use Rattle.json_values.proofs.SpelledForms.{OfBytes, of_bytes, items_of_bytes, members_of_bytes}

mutual
  unfolding of_bytes items_of_bytes members_of_bytes bytes_spellable

  pub same_bytes : (d : Data) → bytes.of_bytes d ≡ true → OfBytes d
  same_bytes null h = h
  same_bytes (boolean b) h = h
  same_bytes (number n) h = h
  same_bytes (string s) h = h
  same_bytes (array ds) h = same_items ds h
  same_bytes (object ms) h = same_members ms h

  same_items : (ds : Items) → bytes.items_of_bytes ds ≡ true → items_of_bytes ds ≡ true
  same_items no_items h = h
  same_items (item d ds) h =
      let p = and_parts (bytes.of_bytes d) (bytes.items_of_bytes ds) h in
      and_from _ _ (same_bytes d p.0) (same_items ds p.1)

  same_members : (ms : Members) → bytes.members_of_bytes ms ≡ true → members_of_bytes ms ≡ true
  same_members no_members h = h
  same_members (member k d ms) h =
      let p = and_parts (bytes.of_bytes d) (bytes.members_of_bytes ms) h in
      and_from _ _ (same_bytes d p.0) (same_members ms p.1)
