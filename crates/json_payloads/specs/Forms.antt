-- How the values of a type stand in JSON, with the laws that what stands there is read back.
use Rattle.std.specs.Prelude.{◌≡◌, ◌≤◌, ℕ, List, Bool, true, false, Option, Some, None, ◌&&◌, option_map, if◌then◌else◌}
use Rattle.std.proofs.Common.{refl, sym, ap, ◌∙◌, true≢false}
use Rattle.std.proofs.Math.Nat.{le_refl}
use Rattle.serde_json.specs.Data.{Data, null, boolean, string, array, number, object, depth}
use Rattle.serde_json.specs.Find.{as_bool, as_str}
use Rattle.json_payloads.specs.Reading.{◌>>=◌}

-- the data is null
abbrev pub is_null : Data → Bool
is_null null = true
is_null (boolean b) = false
is_null (number n) = false
is_null (string s) = false
is_null (array ds) = false
is_null (object ms) = false

-- what stands for a value, what is read of data, which values can be read back, and how deep they nest
pub record Form (X : Type 0) : Type 0 where
  pub prints : X → Data
  pub reads : Data → Option X
  pub fits : X → Bool
  pub levels : ℕ
  pub read_back : (x : X) → fits x ≡ true → reads (prints x) ≡ Some x
  pub not_null : (x : X) → is_null (prints x) ≡ false
  pub shallow : (x : X) → depth (prints x) ≤ levels

-- of two facts, each
pub both_fit : (a b : Bool) → (a && b) ≡ true → (a ≡ true) × (b ≡ true)
both_fit true b e = (refl, e)
both_fit false b e = absurd (true≢false (sym e))

-- a text
abbrev pub text : Form (List ℕ)
text = record {
  prints = string;
  reads = as_str;
  fits = λ s. true;
  levels = 0;
  read_back = λ s fit. refl;
  not_null = λ s. refl;
  shallow = λ s. le_refl 0;
}

-- true or false
abbrev pub truth : Form Bool
truth = record {
  prints = boolean;
  reads = as_bool;
  fits = λ b. true;
  levels = 0;
  read_back = λ b fit. refl;
  not_null = λ b. refl;
  shallow = λ b. le_refl 0;
}

-- a value that stands as its name
abbrev pub name_form : {X : Type 0} → (name : X → List ℕ) (of_name : List ℕ → Option X) →
    ((x : X) → of_name (name x) ≡ Some x) → Form X
name_form name of_name same = record {
  prints = λ x. string (name x);
  reads = λ d. as_str d >>= of_name;
  fits = λ x. true;
  levels = 0;
  read_back = λ x fit. same x;
  not_null = λ x. refl;
  shallow = λ x. le_refl 0;
}

-- a value that stands as its one field
abbrev pub mapped : {X Y : Type 0} → (f : Form Y) → (to : X → Y) (from : Y → X) → ((x : X) → from (to x) ≡ x) → Form X
mapped {X} {Y} f to from same = record {
  prints = λ x. f.prints (to x);
  reads = λ d. f.reads d >>= λ y. Some (from y);
  fits = λ x. f.fits (to x);
  levels = f.levels;
  read_back =
      λ x fit.
      ap (λ (o : Option Y). o >>= λ y. Some (from y)) (f.read_back (to x) fit) ∙ ap (λ (z : X). Some z) (same x);
  not_null = λ x. f.not_null (to x);
  shallow = λ x. f.shallow (to x);
}

-- ---- values that may be absent

-- null, or a value
unfoldable pub present_at : {X : Type 0} → Form X → Data → Option (Option X)
present_at f d = if is_null d then Some None else option_map Some (f.reads d)

-- a value that is there fits
abbrev pub option_fits : {X : Type 0} → (X → Bool) → Option X → Bool
option_fits fits None = true
option_fits fits (Some x) = fits x

-- what stands for a value isn't read as null
pub present_back : {X : Type 0} (f : Form X) (x : X) → f.fits x ≡ true → present_at f (f.prints x) ≡ Some (Some x)
unfolding present_at
present_back {X} f x fit =
    ap (λ (b : Bool). if b then Some None else option_map Some (f.reads (f.prints x))) (f.not_null x)
    ∙ ap (option_map (λ (y : X). Some y)) (f.read_back x fit)
