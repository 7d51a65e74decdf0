-- Objects with a member for each field.
use Rattle.std.specs.Prelude.{◌≡◌, ◌≤◌, ℕ, suc, max, List, [], ◌∷◌, Bool, true, false, Option, Some, None, option_map}
use Rattle.std.specs.Prelude.{◌&&◌, if◌then◌else◌}
use Rattle.std.proofs.Common.{refl, sym, ap, ◌∙◌, zero-le, suc-le-suc, inl, inr}
use Rattle.std.proofs.Math.Nat.{le_refl, le-max_left, le-max_right, le_trans}
use Rattle.serde_json.specs.Data.{Data, null, boolean, number, string, array, object, members_depth, Members}
use Rattle.serde_json.specs.Data.{no_members, put}
use Rattle.serde_json.specs.Find.{get, get_member}
use Rattle.serde_json.proofs.Views.{get_member-put, get_member-put_other}
use Rattle.json_payloads.specs.Reading.{◌>>=◌}
use Rattle.json_payloads.specs.Forms.{Form, is_null, both_fit, present_at, present_back, option_fits}
use Rattle.json_payloads.specs.Placed.{is_among, distinct, Free, put_some, option_depth, differs, same_name, not_among}
use Rattle.json_payloads.specs.Placed.{of_distinct, among_first, put_some-here, put_some-other, still_free}
use Rattle.json_payloads.specs.Placed.{put_some-shallow}

-- one member, which may be absent
pub record Field (A : Type 0) : Type 0 where
  pub prints : A → Option Data
  pub reads : Option Data → Option A
  pub fits : A → Bool
  pub levels : ℕ
  pub read_back : (a : A) → fits a ≡ true → reads (prints a) ≡ Some a
  pub shallow : (a : A) → option_depth (prints a) ≤ levels
  pub null_absent : reads (Some null) ≡ reads None

-- a member that must be there, and isn't null
unfoldable pub required_at : {X : Type 0} → Form X → Option Data → Option X
required_at f None = None
required_at f (Some d) = if is_null d then None else f.reads d

-- None where there is no member, or null
unfoldable pub optional_at : {X : Type 0} → Form X → Option Data → Option (Option X)
optional_at f None = Some None
optional_at f (Some d) = present_at f d

-- what stands for a member is read back, whether it is there or not
pub optional_back : {X : Type 0} (f : Form X) (o : Option X) → option_fits f.fits o ≡ true →
    optional_at f (option_map f.prints o) ≡ Some o
unfolding optional_at
optional_back f None fit = refl
optional_back f (Some x) fit = present_back f x fit

-- a member that may be absent nests no deeper than its value
pub optional_shallow : {X : Type 0} (f : Form X) (o : Option X) → option_depth (option_map f.prints o) ≤ f.levels
optional_shallow f None = zero-le
optional_shallow f (Some x) = f.shallow x

-- what stands for a member that must be there is read back
pub required_back : {X : Type 0} (f : Form X) (x : X) → f.fits x ≡ true → required_at f (Some (f.prints x)) ≡ Some x
unfolding required_at
required_back {X} f x fit =
    ap (λ (b : Bool). if b then None else f.reads (f.prints x)) (f.not_null x) ∙ f.read_back x fit

-- of a member that must be there, null is as bad as none
pub required_null : {X : Type 0} (f : Form X) → required_at f (Some null) ≡ required_at f None
unfolding required_at
required_null f = refl

-- of a member that may be absent, null is as good as none
pub optional_null : {X : Type 0} (f : Form X) → optional_at f (Some null) ≡ optional_at f None
unfolding optional_at present_at
optional_null f = refl

-- a member that must be there
abbrev pub required_field : {X : Type 0} → Form X → Field X
required_field f = record {
  prints = λ x. Some (f.prints x);
  reads = required_at f;
  fits = f.fits;
  levels = f.levels;
  read_back = required_back f;
  shallow = f.shallow;
  null_absent = required_null f;
}

-- a member that may be absent
abbrev pub optional_field : {X : Type 0} → Form X → Field (Option X)
optional_field f = record {
  prints = option_map f.prints;
  reads = optional_at f;
  fits = option_fits f.fits;
  levels = f.levels;
  read_back = optional_back f;
  shallow = optional_shallow f;
  null_absent = optional_null f;
}

-- a member under its name
abbrev pub required : {X : Type 0} → List ℕ → Form X → List ℕ × Field X
required k f = (k, required_field f)

-- a member under its name, which may be absent
abbrev pub optional : {X : Type 0} → List ℕ → Form X → List ℕ × Field (Option X)
optional k f = (k, optional_field f)

-- Members, each under a name of its own. They fit where those before them do, and they do.
pub record Fields (A : Type 0) : Type 0 where
  pub names : List (List ℕ)
  pub put_in : A → Members → Members
  pub reads : Data → Option A
  pub fits : A → Bool → Bool
  pub levels : ℕ
  pub begun : (a : A) (so_far : Bool) → fits a so_far ≡ true → so_far ≡ true
  pub keeps : (a : A) (ms : Members) (k : List ℕ) → is_among k names ≡ false →
      get_member k (put_in a ms) ≡ get_member k ms
  pub read_back : (a : A) (so_far : Bool) (ms : Members) → fits a so_far ≡ true → distinct names ≡ true →
      Free names ms → reads (object (put_in a ms)) ≡ Some a
  pub shallow : (a : A) (ms : Members) (n : ℕ) → levels ≤ n → members_depth ms ≤ n → members_depth (put_in a ms) ≤ n
  pub ignores : (k : List ℕ) (d : Data) (ms : Members) → is_among k names ≡ false →
      reads (object (put k d ms)) ≡ reads (object ms)
  pub null_absent : (k : List ℕ) (ms : Members) → get_member k ms ≡ None →
      reads (object (put k null ms)) ≡ reads (object ms)

-- two values, where both are there
abbrev pub both : {A B : Type 0} → Option A → Option B → Option (A × B)
both None q = None
both (Some a) None = None
both (Some a) (Some b) = Some (a, b)

-- no members
abbrev pub done : Fields (Unit {0})
done = record {
  names = [];
  put_in = λ a ms. ms;
  reads = λ d. Some tt;
  fits = λ a so_far. so_far;
  levels = 0;
  begun = λ a so_far fit. fit;
  keeps = λ a ms k out. refl;
  read_back = λ a so_far ms fit each free. refl;
  shallow = λ a ms n within h. h;
  ignores = λ k d ms out. refl;
  null_absent = λ k ms free. refl;
}

-- a member of another name stands as it stood before
pub more_keeps : {A B : Type 0} (name : List ℕ) (f : Field A) (fs : Fields B) (a : A) (b : B) (ms : Members)
    (k : List ℕ) →
    is_among k (name ∷ fs.names) ≡ false
    → get_member k (fs.put_in b (put_some name (f.prints a) ms)) ≡ get_member k ms
more_keeps name f fs a b ms k out =
    let apart = not_among k name fs.names out in
    fs.keeps b (put_some name (f.prints a) ms) k apart.1
    ∙ put_some-other k name (f.prints a) ms (differs k name apart.0)

-- what stood before fits, and the first member
pub begun_both : {A B : Type 0} (f : Field A) (fs : Fields B) (a : A) (b : B) (so_far : Bool) →
    fs.fits b (so_far && f.fits a) ≡ true → (so_far ≡ true) × (f.fits a ≡ true)
begun_both f fs a b so_far fit = both_fit so_far (f.fits a) (fs.begun b (so_far && f.fits a) fit)

-- the first member is read back, and the others are
pub more_back : {A B : Type 0} (name : List ℕ) (f : Field A) (fs : Fields B) (a : A) (b : B) (so_far : Bool)
    (ms : Members) →
    fs.fits b (so_far && f.fits a) ≡ true → distinct (name ∷ fs.names) ≡ true → Free (name ∷ fs.names) ms
    → both (f.reads (get_member name (fs.put_in b (put_some name (f.prints a) ms))))
    (fs.reads (object (fs.put_in b (put_some name (f.prints a) ms))))
    ≡ Some (a, b)
more_back {A} {B} name f fs a b so_far ms fit each free =
    let fits = begun_both f fs a b so_far fit in
    let apart = of_distinct name fs.names each in
    let put = put_some name (f.prints a) ms in
    let here : get_member name (fs.put_in b put) ≡ f.prints a =
    fs.keeps b put name apart.0 ∙ put_some-here name (f.prints a) ms (free name (among_first name fs.names)) in
    ap (λ (o : Option Data). both (f.reads o) (fs.reads (object (fs.put_in b put)))) here
    ∙ ap (λ (o : Option A). both o (fs.reads (object (fs.put_in b put)))) (f.read_back a fits.1)
    ∙ ap (λ (o : Option B). both (Some a) o)
    (fs.read_back b (so_far && f.fits a) put fit apart.1 (still_free name fs.names (f.prints a) ms apart.0 free))

-- members nest no deeper than the deepest of them
pub more_shallow : {A B : Type 0} (name : List ℕ) (f : Field A) (fs : Fields B) (a : A) (b : B) (ms : Members) (n : ℕ) →
    max f.levels fs.levels ≤ n → members_depth ms ≤ n
    → members_depth (fs.put_in b (put_some name (f.prints a) ms)) ≤ n
more_shallow name f fs a b ms n within h =
    fs.shallow b (put_some name (f.prints a) ms) n (le_trans (le-max_right f.levels fs.levels) within)
    (put_some-shallow n name (f.prints a) ms
    (le_trans (f.shallow a) (le_trans (le-max_left f.levels fs.levels) within)) h)

-- a member of another name is ignored
pub more_ignores : {A B : Type 0} (name : List ℕ) (f : Field A) (fs : Fields B) (k : List ℕ) (d : Data) (ms : Members) →
    is_among k (name ∷ fs.names) ≡ false
    → both (f.reads (get_member name (put k d ms))) (fs.reads (object (put k d ms)))
    ≡ both (f.reads (get_member name ms)) (fs.reads (object ms))
more_ignores {A} {B} name f fs k d ms out =
    let apart = not_among k name fs.names out in
    ap (λ (o : Option Data). both (f.reads o) (fs.reads (object (put k d ms))))
    (get_member-put_other name k d ms (λ (same : name ≡ k). differs k name apart.0 (sym same)))
    ∙ ap (λ (o : Option B). both (f.reads (get_member name ms)) o) (fs.ignores k d ms apart.1)

-- a member that is null reads as one that is absent
pub read_null : {A : Type 0} (name : List ℕ) (f : Field A) (k : List ℕ) (ms : Members) → get_member k ms ≡ None →
    f.reads (get_member name (put k null ms)) ≡ f.reads (get_member name ms)
read_null {A} name f k ms free =
    elim (same_name name k) [
      | inl same ↦
          let named : get_member name ms ≡ None = ap (λ (n : List ℕ). get_member n ms) same ∙ free in
          ap (λ (n : List ℕ). f.reads (get_member name (put n null ms))) (sym same)
          ∙ ap f.reads (get_member-put name null ms) ∙ f.null_absent ∙ ap f.reads (sym named)
      | inr other ↦ ap f.reads (get_member-put_other name k null ms other)
    ]

-- of all members, one that is null reads as one that is absent
pub more_null : {A B : Type 0} (name : List ℕ) (f : Field A) (fs : Fields B) (k : List ℕ) (ms : Members) →
    get_member k ms ≡ None
    → both (f.reads (get_member name (put k null ms))) (fs.reads (object (put k null ms)))
    ≡ both (f.reads (get_member name ms)) (fs.reads (object ms))
more_null {A} {B} name f fs k ms free =
    ap (λ (o : Option A). both o (fs.reads (object (put k null ms)))) (read_null name f k ms free)
    ∙ ap (λ (o : Option B). both (f.reads (get_member name ms)) o) (fs.null_absent k ms free)

infixr 5 ◌⊗◌
-- a member, and the others
abbrev pub ◌⊗◌ : {A B : Type 0} → List ℕ × Field A → Fields B → Fields (A × B)
m ⊗ fs = record {
  names = m.0 ∷ fs.names;
  put_in = λ p ms. fs.put_in p.1 (put_some m.0 ((m.1).prints p.0) ms);
  reads = λ d. both ((m.1).reads (get m.0 d)) (fs.reads d);
  fits = λ p so_far. fs.fits p.1 (so_far && (m.1).fits p.0);
  levels = max (m.1).levels fs.levels;
  begun = λ p so_far fit. (begun_both m.1 fs p.0 p.1 so_far fit).0;
  keeps = λ p ms k out. more_keeps m.0 m.1 fs p.0 p.1 ms k out;
  read_back = λ p so_far ms fit each free. more_back m.0 m.1 fs p.0 p.1 so_far ms fit each free;
  shallow = λ p ms n within h. more_shallow m.0 m.1 fs p.0 p.1 ms n within h;
  ignores = λ k d ms out. more_ignores m.0 m.1 fs k d ms out;
  null_absent = λ k ms free. more_null m.0 m.1 fs k ms free;
}

-- ---- whole objects

-- the data, where it is an object
unfoldable pub object_at : Data → Option Data
object_at null = None
object_at (boolean b) = None
object_at (number n) = None
object_at (string s) = None
object_at (array ds) = None
object_at (object ms) = Some (object ms)

-- an object without members has none of these names
pub free_none : (ns : List (List ℕ)) → Free ns no_members
free_none ns k within = refl

-- the members, where the data is an object
abbrev pub members_at : {Y : Type 0} → Fields Y → Data → Option Y
members_at fs d = object_at d >>= fs.reads

-- the members of an object are read back
pub object_back : {Y : Type 0} (fs : Fields Y) (y : Y) → fs.fits y true ≡ true → distinct fs.names ≡ true →
    (object_at (object (fs.put_in y no_members)) >>= fs.reads) ≡ Some y
unfolding object_at
object_back fs y fit each = fs.read_back y true no_members fit each (free_none fs.names)

-- an object with these members. `to` and `from` say which fields of the type they are.
abbrev pub object_form : {X Y : Type 0} → (fs : Fields Y) → distinct fs.names ≡ true → (to : X → Y) (from : Y → X) →
    ((x : X) → from (to x) ≡ x) → Form X
object_form {X} {Y} fs each to from same = record {
  prints = λ x. object (fs.put_in (to x) no_members);
  reads = λ d. object_at d >>= fs.reads >>= λ y. Some (from y);
  fits = λ x. fs.fits (to x) true;
  levels = suc fs.levels;
  read_back =
      λ x fit.
      ap (λ (o : Option Y). o >>= λ y. Some (from y)) (object_back fs (to x) fit each)
      ∙ ap (λ (z : X). Some z) (same x);
  not_null = λ x. refl;
  shallow = λ x. suc-le-suc (fs.shallow (to x) no_members fs.levels (le_refl fs.levels) zero-le);
}

-- a member of a name that the form doesn't list is ignored
pub unknown_ignored : {X Y : Type 0} (fs : Fields Y) (each : distinct fs.names ≡ true) (to : X → Y) (from : Y → X)
    (same : (x : X) → from (to x) ≡ x) (k : List ℕ) (d : Data) (ms : Members) →
    is_among k fs.names ≡ false
    → (object_form fs each to from same).reads (object (put k d ms))
    ≡ (object_form fs each to from same).reads (object ms)
unfolding object_at
unknown_ignored {X} {Y} fs each to from same k d ms out =
    ap (λ (o : Option Y). o >>= λ y. Some (from y)) (fs.ignores k d ms out)

-- a member that is null is read as if it were absent
pub null_is_absent : {X Y : Type 0} (fs : Fields Y) (each : distinct fs.names ≡ true) (to : X → Y) (from : Y → X)
    (same : (x : X) → from (to x) ≡ x) (k : List ℕ) (ms : Members) →
    get_member k ms ≡ None
    → (object_form fs each to from same).reads (object (put k null ms))
    ≡ (object_form fs each to from same).reads (object ms)
unfolding object_at
null_is_absent {X} {Y} fs each to from same k ms free =
    ap (λ (o : Option Y). o >>= λ y. Some (from y)) (fs.null_absent k ms free)
