-- Objects with one member of several.
use Rattle.std.specs.Prelude.{◌≡◌, ◌≤◌, ℕ, suc, max, List, [], ◌∷◌, Bool, true, Option, Some, None, if◌then◌else◌}
use Rattle.std.proofs.Common.{refl, sym, ap, ◌∙◌, zero-le, suc-le-suc}
use Rattle.std.proofs.Math.Nat.{max-le, le-max_left, le-max_right, le_trans}
use Rattle.serde_json.specs.Data.{Data, object, depth, no_members, put}
use Rattle.serde_json.specs.Find.{get, get_member}
use Rattle.serde_json.proofs.Views.{get_member-put, get_member-put_other}
use Rattle.json_payloads.specs.Reading.{◌>>=◌}
use Rattle.json_payloads.specs.declared.unions.Case.{Case}
use Rattle.json_payloads.specs.declared.unions.Case.TheVariants.{This, Other}
use Rattle.json_payloads.specs.declared.unions.NoCase.{NoCase}
use Rattle.json_payloads.specs.Forms.{Form, is_null}
use Rattle.json_payloads.specs.Placed.{is_among, distinct, among_first, among_more, of_distinct, other_name}

-- values each of which stands under the name of its case
pub record Cases (A : Type 0) : Type 0 where
  pub names : List (List ℕ)
  pub name : A → List ℕ
  pub prints : A → Data
  pub reads : Data → Option A
  pub fits : A → Bool
  pub levels : ℕ
  pub named : (a : A) → is_among (name a) names ≡ true
  pub read_back : (a : A) → fits a ≡ true → distinct names ≡ true →
      reads (object (put (name a) (prints a) no_members)) ≡ Some a
  pub shallow : (a : A) → depth (prints a) ≤ levels

-- the first case
abbrev pub left : {A B : Type 0} → Option A → Option (Case A B)
left None = None
left (Some a) = Some (This a)

-- a later case
abbrev pub right : {A B : Type 0} → Option B → Option (Case A B)
right None = None
right (Some b) = Some (Other b)

-- the first case whose name has a member that isn't null
unfoldable pub case_at : {A B : Type 0} → (Data → Option A) → Option B → Option Data → Option (Case A B)
case_at reads rest None = right rest
case_at reads rest (Some d) = if is_null d then right rest else left (reads d)

-- the name of a value's case
abbrev pub case_name : {A B : Type 0} → List ℕ → (B → List ℕ) → Case A B → List ℕ
case_name k name (This a) = k
case_name k name (Other b) = name b

-- by one function for the first case, by the other for a later one
abbrev pub chosen : {A B C : Type 0} → (A → C) → (B → C) → Case A B → C
chosen f g (This a) = f a
chosen f g (Other b) = g b

-- the name of a value is one of the names of the cases
pub cases_named : {A B : Type 0} (k : List ℕ) (cs : Cases B) (x : Case A B) →
    is_among (case_name {A = A} k cs.name x) (k ∷ cs.names) ≡ true
cases_named k cs (This a) = among_first k cs.names
cases_named k cs (Other b) = among_more (cs.name b) k cs.names (cs.named b)

-- a value of the first case is read back, and one of a later case is
pub cases_back : {A B : Type 0} (k : List ℕ) (f : Form A) (cs : Cases B) (x : Case A B) →
    chosen f.fits cs.fits x ≡ true → distinct (k ∷ cs.names) ≡ true
    → case_at f.reads (cs.reads (object (put (case_name {A = A} k cs.name x) (chosen f.prints cs.prints x) no_members)))
    (get_member k (put (case_name {A = A} k cs.name x) (chosen f.prints cs.prints x) no_members))
    ≡ Some x
unfolding case_at
cases_back {A} {B} k f cs (This a) fit each =
    let rest = cs.reads (object (put k (f.prints a) no_members)) in
    ap (case_at f.reads rest) (get_member-put k (f.prints a) no_members)
    ∙ ap (λ (b : Bool). if b then right {A = A} rest else left {B = B} (f.reads (f.prints a))) (f.not_null a)
    ∙ ap (left {B = B}) (f.read_back a fit)
cases_back {A} {B} k f cs (Other b) fit each =
    let apart = of_distinct k cs.names each in
    ap (case_at f.reads (cs.reads (object (put (cs.name b) (cs.prints b) no_members))))
    (get_member-put_other k (cs.name b) (cs.prints b) no_members
    (λ (same : k ≡ cs.name b). other_name (cs.name b) k cs.names apart.0 (cs.named b) (sym same)))
    ∙ ap (right {A = A}) (cs.read_back b fit apart.1)

-- cases nest no deeper than the deepest of them
pub cases_shallow : {A B : Type 0} (f : Form A) (cs : Cases B) (x : Case A B) →
    depth (chosen f.prints cs.prints x) ≤ max f.levels cs.levels
cases_shallow f cs (This a) = le_trans (f.shallow a) (le-max_left f.levels cs.levels)
cases_shallow f cs (Other b) = le_trans (cs.shallow b) (le-max_right f.levels cs.levels)

-- no case
abbrev pub no_case : Cases NoCase
no_case = record {
  names = [];
  name = λ a. [];
  prints = λ a. elim a [ ];
  reads = λ d. None;
  fits = λ a. true;
  levels = 0;
  named = λ a. elim a [ ];
  read_back = λ a fit each. elim a [ ];
  shallow = λ a. elim a [ ];
}

infixr 5 ◌⊕◌
-- a case under its name, and the others
abbrev pub ◌⊕◌ : {A B : Type 0} → List ℕ × Form A → Cases B → Cases (Case A B)
m ⊕ cs = record {
  names = m.0 ∷ cs.names;
  name = case_name m.0 cs.name;
  prints = chosen (m.1).prints cs.prints;
  reads = λ d. case_at (m.1).reads (cs.reads d) (get m.0 d);
  fits = chosen (m.1).fits cs.fits;
  levels = max (m.1).levels cs.levels;
  named = cases_named m.0 cs;
  read_back = cases_back m.0 m.1 cs;
  shallow = cases_shallow m.1 cs;
}

-- an object with a member of one of these cases
abbrev pub union_form : {X Y : Type 0} → (cs : Cases Y) → distinct cs.names ≡ true → (to : X → Y) (from : Y → X) →
    ((x : X) → from (to x) ≡ x) → Form X
union_form {X} {Y} cs each to from same = record {
  prints = λ x. object (put (cs.name (to x)) (cs.prints (to x)) no_members);
  reads = λ d. cs.reads d >>= λ y. Some (from y);
  fits = λ x. cs.fits (to x);
  levels = suc cs.levels;
  read_back =
      λ x fit.
      ap (λ (o : Option Y). o >>= λ y. Some (from y)) (cs.read_back (to x) fit each)
      ∙ ap (λ (z : X). Some z) (same x);
  not_null = λ x. refl;
  shallow = λ x. suc-le-suc (max-le (cs.shallow (to x)) zero-le);
}
