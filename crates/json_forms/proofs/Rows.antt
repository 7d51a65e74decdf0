-- Arrays of a list of data.
use Rattle.std.proofs.Common.{◌≡◌, ℕ, suc, ◌≤◌, List, [], ◌∷◌, true, ◌&&◌, nat_le, refl, ap, arith, leb-true, lt-ltb, ◌<◌, ◌^◌, Bool}
use Rattle.std.proofs.lemmas.Bool.{and_parts}
use Rattle.std.specs.List.{list_all}
use Rattle.serde_json.specs.Data.{Data, unsigned, number, boolean, null, string, array, object, member, no_members, depth, items_depth}
use Rattle.serde_json.specs.View.{items_of}
use Rattle.json_forms.specs.Carried.{is_carried}
use Rattle.json_forms.specs.Lines.{is_readable, HasTexts, AllHaveTexts}

pub carried_row : (ds : List Data) → is_carried (array (items_of ds)) ≡ list_all is_carried ds
carried_row [] = refl
carried_row (d ∷ ds) = ap (λ b. is_carried d && b) (carried_row ds)

items_depth_row : (ds : List Data) (n : ℕ) → list_all (λ d. nat_le (depth d) n) ds ≡ true → items_depth (items_of ds) ≤ n
items_depth_row [] n h = omega arith
items_depth_row (d ∷ ds) n h =
    let p = and_parts (nat_le (depth d) n) (list_all (λ e. nat_le (depth e) n) ds) h in
    let here = leb-true (depth d) n p.0 in
    let later = items_depth_row ds n p.1 in
    omega arith

pub depth_row : (ds : List Data) (n : ℕ) → list_all (λ d. nat_le (depth d) n) ds ≡ true → depth (array (items_of ds)) ≤ suc n
depth_row ds n h = let inner = items_depth_row ds n h in omega arith

pub texts_row : (ds : List Data) → AllHaveTexts ds → HasTexts (array (items_of ds))
texts_row [] u = tt
texts_row (d ∷ ds) u = (u.0, texts_row ds u.1)

-- ---- a row of one shape computes

abbrev row : List Data → Data
row ds = array (items_of ds)

-- as a number, a switch, nothing, a delay with its name and bytes in hex
pub sample : (n m : ℕ) (b : Bool) (s h : List ℕ) → n < 2 ^ 64 → m < 2 ^ 64
    → is_readable (row (number (unsigned n) ∷ boolean b ∷ null ∷ row (string s ∷ number (unsigned m) ∷ []) ∷ object (member h (string s) no_members) ∷ [])) ≡ true
sample n m b s h below_n below_m = rw (lt-ltb n (2 ^ 64) below_n, lt-ltb m (2 ^ 64) below_m) refl
