-- Lists, and lists with items that may be absent.
use Rattle.std.specs.Prelude.{◌≡◌, ◌≤◌, ℕ, suc, List, [], ◌∷◌, map, Bool, true, Option, Some, None}
use Rattle.std.proofs.Common.{refl, ap, ◌∙◌, zero-le, suc-le-suc}
use Rattle.std.proofs.Math.Nat.{max-le}
use Rattle.std.specs.List.{list_all}
use Rattle.serde_json.specs.Data.{Data, null, array, depth, items_depth, Items, no_items, item}
use Rattle.serde_json.specs.Find.{as_array}
use Rattle.serde_json.specs.View.{items_of}
use Rattle.json_payloads.specs.Reading.{◌>>=◌}
use Rattle.json_payloads.specs.Forms.{Form, both_fit, present_at, present_back, option_fits}

-- each item as f reads it, where f reads them all
unfoldable pub list_of : {X : Type 0} → (Data → Option X) → Items → Option (List X)
list_of f no_items = Some []
list_of f (item d ds) = f d >>= λ x. list_of f ds >>= λ xs. Some (x ∷ xs)

-- the items of an array
abbrev pub items_at : {X : Type 0} → (Data → Option X) → Data → Option (List X)
items_at f d = as_array d >>= list_of f

-- a list of what is read back is read back
pub list_back : {X : Type 0} (prints : X → Data) (reads : Data → Option X) (fits : X → Bool) →
    ((x : X) → fits x ≡ true → reads (prints x) ≡ Some x) → (xs : List X) → list_all fits xs ≡ true
    → list_of reads (items_of (map prints xs)) ≡ Some xs
unfolding list_of
list_back prints reads fits back [] fit = refl
list_back {X} prints reads fits back (x ∷ xs) fit =
    let each = both_fit (fits x) (list_all fits xs) fit in
    ap (λ (o : Option X). o >>= λ y. list_of reads (items_of (map prints xs)) >>= λ ys. Some (y ∷ ys)) (back x each.0)
    ∙ ap (λ (o : Option (List X)). o >>= λ ys. Some (x ∷ ys)) (list_back prints reads fits back xs each.1)

-- a list nests one level deeper than its items
pub list_shallow : {X : Type 0} (prints : X → Data) (levels : ℕ) → ((x : X) → depth (prints x) ≤ levels) →
    (xs : List X) → items_depth (items_of (map prints xs)) ≤ levels
list_shallow prints levels shallow [] = zero-le
list_shallow prints levels shallow (x ∷ xs) = max-le (shallow x) (list_shallow prints levels shallow xs)

-- a list
abbrev pub list : {X : Type 0} → Form X → Form (List X)
list f = record {
  prints = λ xs. array (items_of (map f.prints xs));
  reads = items_at f.reads;
  fits = list_all f.fits;
  levels = suc f.levels;
  read_back = list_back f.prints f.reads f.fits f.read_back;
  not_null = λ xs. refl;
  shallow = λ xs. suc-le-suc (list_shallow f.prints f.levels f.shallow xs);
}

-- ---- items that may be absent

-- null where there is no value
abbrev pub null_or : {X : Type 0} → (X → Data) → Option X → Data
null_or prints None = null
null_or prints (Some x) = prints x

-- an item that fits is read back, and null as an absent one
pub sparse_back : {X : Type 0} (f : Form X) (o : Option X) → option_fits f.fits o ≡ true →
    present_at f (null_or f.prints o) ≡ Some o
unfolding present_at
sparse_back f None fit = refl
sparse_back f (Some x) fit = present_back f x fit

-- null nests no deeper than a value
pub sparse_shallow : {X : Type 0} (f : Form X) (o : Option X) → depth (null_or f.prints o) ≤ f.levels
sparse_shallow f None = zero-le
sparse_shallow f (Some x) = f.shallow x

-- a list, with null for an absent item
abbrev pub sparse_list : {X : Type 0} → Form X → Form (List (Option X))
sparse_list f = record {
  prints = λ xs. array (items_of (map (null_or f.prints) xs));
  reads = items_at (present_at f);
  fits = list_all (option_fits f.fits);
  levels = suc f.levels;
  read_back = list_back (null_or f.prints) (present_at f) (option_fits f.fits) (sparse_back f);
  not_null = λ xs. refl;
  shallow = λ xs. suc-le-suc (list_shallow (null_or f.prints) f.levels (sparse_shallow f) xs);
}
