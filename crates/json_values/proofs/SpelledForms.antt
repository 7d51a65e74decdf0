-- What is read of data whose texts are of bytes: forms, bytes and lists.
use Rattle.std.proofs.Common.{◌≡◌, ℕ, zero, suc, List, [], ◌∷◌, take, Bool, true, false, ◌&&◌, nat_lt, Option, Some, None, option_map, Result, Ok, Err, if◌then◌else◌, refl, subst}
use Rattle.std.proofs.lemmas.Bool.{and_parts, and_from, lt-ltb}
use Rattle.std.specs.List.{list_all}
use Rattle.hex.proofs.HexLemmas.{decode_of-ok}
use Rattle.hex.specs.Hex.{IsBytes, decode_of}
use Rattle.hex.specs.declared.error.FromHexError.{FromHexError}
use Rattle.serde_json.specs.Data.{Data, null, boolean, number, string, array, object, Items, no_items, item, Members, no_members, member}
use Rattle.serde_json.specs.Find.{as_array}
use Rattle.json_forms.specs.Forms.{word_at, tagged_at, optional_at, is_lower_digit, ok_of, hex_bytes, only_at, hex_at, blob_at}
use Rattle.json_forms.specs.Lists.{list_of}
use Rattle.json_forms.specs.Plain.{number_at, below, number_below, pair_at, triple_at, quadruple_at, quintuple_at, sextuple_at}
use Rattle.json_forms.specs.Reading.{◌>>=◌}
use Rattle.json_values.specs.Spellable.{none_or, is_byte, bytes_spellable}

-- ---- what holds of a reading

-- it holds of what was read, if anything was
unfoldable pub Holds : {X : Type 0} → (X → Type 0) → Option X → Type 0
Holds P None = Unit {0}
Holds P (Some x) = P x

pub held : {X : Type 0} (P : X → Type 0) (o : Option X) (x : X) → o ≡ Some x → Holds P o → P x
unfolding Holds
held P o x e h = subst (Holds P) e h

-- a step of which something is known
pub step : {A B : Type 0} (P : A → Type 0) (Q : B → Type 0) (o : Option A) (f : A → Option B) → Holds P o → ((x : A) → P x → Holds Q (f x)) → Holds Q (o >>= f)
unfolding Holds
step P Q None f h k = tt
step P Q (Some x) f h k = k x h

-- a step of which nothing need be known
pub past : {A B : Type 0} (Q : B → Type 0) (o : Option A) (f : A → Option B) → ((x : A) → Holds Q (f x)) → Holds Q (o >>= f)
unfolding Holds
past Q None f k = tt
past Q (Some x) f k = k x

-- a step with what it read
pub step_at : {A B : Type 0} (Q : B → Type 0) (o : Option A) (f : A → Option B) → ((x : A) → o ≡ Some x → Holds Q (f x)) → Holds Q (o >>= f)
unfolding Holds
step_at Q None f k = tt
step_at Q (Some x) f k = k x refl

pub either : {X : Type 0} (Q : X → Type 0) (b : Bool) (x y : Option X) → Holds Q x → Holds Q y → Holds Q (if b then x else y)
either Q true x y h k = h
either Q false x y h k = k

-- the same, with the test
pub either_by : {X : Type 0} (Q : X → Type 0) (b : Bool) (x y : Option X) → (b ≡ true → Holds Q x) → (b ≡ false → Holds Q y) → Holds Q (if b then x else y)
either_by Q true x y h k = h refl
either_by Q false x y h k = k refl

pub mapped : {A B : Type 0} (P : A → Type 0) (Q : B → Type 0) (f : A → B) (o : Option A) → Holds P o → ((x : A) → P x → Q (f x)) → Holds Q (option_map f o)
unfolding Holds
mapped P Q f None h k = tt
mapped P Q f (Some x) h k = k x h

pub weaker : {X : Type 0} (P Q : X → Type 0) (o : Option X) → Holds P o → ((x : X) → P x → Q x) → Holds Q o
unfolding Holds
weaker P Q None h k = tt
weaker P Q (Some x) h k = k x h

pub three_from : (a b c : Bool) → a ≡ true → b ≡ true → c ≡ true → a && b && c ≡ true
three_from a b c p q r = and_from (a && b) c (and_from a b p q) r

pub four_from : (a b c d : Bool) → a ≡ true → b ≡ true → c ≡ true → d ≡ true → a && b && c && d ≡ true
four_from a b c d p q r s = and_from (a && b && c) d (three_from a b c p q r) s

pub take_passes : {X : Type 0} (test : X → Bool) (n : ℕ) (xs : List X) → list_all test xs ≡ true → list_all test (take n xs) ≡ true
take_passes test zero xs h = refl
take_passes test (suc n) [] h = refl
take_passes test (suc n) (x ∷ xs) h =
    let parts = and_parts (test x) (list_all test xs) h in
    and_from (test x) (list_all test (take n xs)) parts.0 (take_passes test n xs parts.1)

-- ---- data whose texts are of bytes

unfoldable mutual
  pub of_bytes : Data → Bool
  of_bytes null = true
  of_bytes (boolean b) = true
  of_bytes (number n) = true
  of_bytes (string s) = bytes_spellable s
  of_bytes (array ds) = items_of_bytes ds
  of_bytes (object ms) = members_of_bytes ms

  pub items_of_bytes : Items → Bool
  items_of_bytes no_items = true
  items_of_bytes (item d ds) = of_bytes d && items_of_bytes ds

  pub members_of_bytes : Members → Bool
  members_of_bytes no_members = true
  members_of_bytes (member k d ms) = of_bytes d && members_of_bytes ms

abbrev pub OfBytes : Data → Type 0
OfBytes d = of_bytes d ≡ true

pub array_of_bytes : (d : Data) → OfBytes d → Holds (λ ds. items_of_bytes ds ≡ true) (as_array d)
unfolding Holds of_bytes
array_of_bytes null h = tt
array_of_bytes (boolean b) h = tt
array_of_bytes (number n) h = tt
array_of_bytes (string s) h = tt
array_of_bytes (array ds) h = h
array_of_bytes (object ms) h = tt

first : (d : Data) (ds : Items) → items_of_bytes (item d ds) ≡ true → OfBytes d
unfolding items_of_bytes
first d ds h = (and_parts (of_bytes d) (items_of_bytes ds) h).0

rest : (d : Data) (ds : Items) → items_of_bytes (item d ds) ≡ true → items_of_bytes ds ≡ true
unfolding items_of_bytes
rest d ds h = (and_parts (of_bytes d) (items_of_bytes ds) h).1

pub pair_of_bytes : (d : Data) → OfBytes d → Holds (λ p. OfBytes p.0 × OfBytes p.1) (pair_at d)
unfolding Holds of_bytes
pair_of_bytes null h = tt
pair_of_bytes (boolean b) h = tt
pair_of_bytes (number n) h = tt
pair_of_bytes (string s) h = tt
pair_of_bytes (object ms) h = tt
pair_of_bytes (array no_items) h = tt
pair_of_bytes (array (item a no_items)) h = tt
pair_of_bytes (array (item a (item b no_items))) h =
    let h1 = rest a (item b no_items) h in
    (first a (item b no_items) h, first b no_items h1)
pair_of_bytes (array (item a (item b (item c ds)))) h = tt

pub triple_of_bytes : (d : Data) → OfBytes d → Holds (λ p. OfBytes p.0 × OfBytes p.1 × OfBytes p.2) (triple_at d)
unfolding Holds of_bytes
triple_of_bytes null h = tt
triple_of_bytes (boolean b) h = tt
triple_of_bytes (number n) h = tt
triple_of_bytes (string s) h = tt
triple_of_bytes (object ms) h = tt
triple_of_bytes (array no_items) h = tt
triple_of_bytes (array (item a no_items)) h = tt
triple_of_bytes (array (item a (item b no_items))) h = tt
triple_of_bytes (array (item a (item b (item c no_items)))) h =
    let h1 = rest a (item b (item c no_items)) h in
    let h2 = rest b (item c no_items) h1 in
    (first a (item b (item c no_items)) h, first b (item c no_items) h1, first c no_items h2)
triple_of_bytes (array (item a (item b (item c (item d ds))))) h = tt

pub quadruple_of_bytes : (d : Data) → OfBytes d → Holds (λ p. OfBytes p.0 × OfBytes p.1 × OfBytes p.2 × OfBytes p.3) (quadruple_at d)
unfolding Holds of_bytes
quadruple_of_bytes null h = tt
quadruple_of_bytes (boolean b) h = tt
quadruple_of_bytes (number n) h = tt
quadruple_of_bytes (string s) h = tt
quadruple_of_bytes (object ms) h = tt
quadruple_of_bytes (array no_items) h = tt
quadruple_of_bytes (array (item a no_items)) h = tt
quadruple_of_bytes (array (item a (item b no_items))) h = tt
quadruple_of_bytes (array (item a (item b (item c no_items)))) h = tt
quadruple_of_bytes (array (item a (item b (item c (item d no_items))))) h =
    let h1 = rest a (item b (item c (item d no_items))) h in
    let h2 = rest b (item c (item d no_items)) h1 in
    let h3 = rest c (item d no_items) h2 in
    (first a (item b (item c (item d no_items))) h, first b (item c (item d no_items)) h1, first c (item d no_items) h2, first d no_items h3)
quadruple_of_bytes (array (item a (item b (item c (item d (item e ds)))))) h = tt

pub quintuple_of_bytes : (d : Data) → OfBytes d → Holds (λ p. OfBytes p.0 × OfBytes p.1 × OfBytes p.2 × OfBytes p.3 × OfBytes p.4) (quintuple_at d)
unfolding Holds of_bytes
quintuple_of_bytes null h = tt
quintuple_of_bytes (boolean b) h = tt
quintuple_of_bytes (number n) h = tt
quintuple_of_bytes (string s) h = tt
quintuple_of_bytes (object ms) h = tt
quintuple_of_bytes (array no_items) h = tt
quintuple_of_bytes (array (item a no_items)) h = tt
quintuple_of_bytes (array (item a (item b no_items))) h = tt
quintuple_of_bytes (array (item a (item b (item c no_items)))) h = tt
quintuple_of_bytes (array (item a (item b (item c (item d no_items))))) h = tt
quintuple_of_bytes (array (item a (item b (item c (item d (item e no_items)))))) h =
    let h1 = rest a (item b (item c (item d (item e no_items)))) h in
    let h2 = rest b (item c (item d (item e no_items))) h1 in
    let h3 = rest c (item d (item e no_items)) h2 in
    let h4 = rest d (item e no_items) h3 in
    (first a (item b (item c (item d (item e no_items)))) h, first b (item c (item d (item e no_items))) h1, first c (item d (item e no_items)) h2, first d (item e no_items) h3, first e no_items h4)
quintuple_of_bytes (array (item a (item b (item c (item d (item e (item f ds))))))) h = tt

pub sextuple_of_bytes : (d : Data) → OfBytes d → Holds (λ p. OfBytes p.0 × OfBytes p.1 × OfBytes p.2 × OfBytes p.3 × OfBytes p.4 × OfBytes p.5) (sextuple_at d)
unfolding Holds of_bytes
sextuple_of_bytes null h = tt
sextuple_of_bytes (boolean b) h = tt
sextuple_of_bytes (number n) h = tt
sextuple_of_bytes (string s) h = tt
sextuple_of_bytes (object ms) h = tt
sextuple_of_bytes (array no_items) h = tt
sextuple_of_bytes (array (item a no_items)) h = tt
sextuple_of_bytes (array (item a (item b no_items))) h = tt
sextuple_of_bytes (array (item a (item b (item c no_items)))) h = tt
sextuple_of_bytes (array (item a (item b (item c (item d no_items))))) h = tt
sextuple_of_bytes (array (item a (item b (item c (item d (item e no_items)))))) h = tt
sextuple_of_bytes (array (item a (item b (item c (item d (item e (item f no_items))))))) h =
    let h1 = rest a (item b (item c (item d (item e (item f no_items))))) h in
    let h2 = rest b (item c (item d (item e (item f no_items)))) h1 in
    let h3 = rest c (item d (item e (item f no_items))) h2 in
    let h4 = rest d (item e (item f no_items)) h3 in
    let h5 = rest e (item f no_items) h4 in
    (first a (item b (item c (item d (item e (item f no_items))))) h, first b (item c (item d (item e (item f no_items)))) h1, first c (item d (item e (item f no_items))) h2, first d (item e (item f no_items)) h3, first e (item f no_items) h4, first f no_items h5)
sextuple_of_bytes (array (item a (item b (item c (item d (item e (item f (item g ds)))))))) h = tt

pub tagged_of_bytes : (tag : List ℕ) (d : Data) → OfBytes d → Holds OfBytes (tagged_at tag d)
unfolding tagged_at Holds
tagged_of_bytes tag d h = step _ _ (pair_at d) _ (pair_of_bytes d h) (λ p hp. past OfBytes (word_at tag p.0) _ (λ _. hp.1))

-- what stands beside a tag
pub tagged_holds : {X : Type 0} (P : X → Type 0) (tag : List ℕ) (f : Data → Option X) (d : Data) → OfBytes d → ((x : Data) → OfBytes x → Holds P (f x)) → Holds P (tagged_at tag d >>= f)
tagged_holds P tag f d h k = step OfBytes P (tagged_at tag d) f (tagged_of_bytes tag d h) k

-- ---- numbers and bytes

pub number_within : (bound : ℕ) (d : Data) → Holds (λ n. nat_lt n bound ≡ true) (number_below bound d)
unfolding Holds
number_within bound d = by_number (number_at d)
  where
    by_number : (o : Option ℕ) → Holds (λ n. nat_lt n bound ≡ true) (below bound o)
    by_number None = tt
    by_number (Some n) = either_by (λ n. nat_lt n bound ≡ true) (nat_lt n bound) (Some n) None (λ e. e) (λ _. tt)

all_bytes : (bytes : List ℕ) → IsBytes bytes → list_all is_byte bytes ≡ true
all_bytes [] h = refl
all_bytes (b ∷ bytes) h = and_from (is_byte b) (list_all is_byte bytes) (lt-ltb b 256 (h zero)) (all_bytes bytes (λ i. h (suc i)))

decoded_bytes : (s : List ℕ) (r : Result (List ℕ) FromHexError) → decode_of s ≡ r → Holds (λ b. bytes_spellable b ≡ true) (ok_of r)
unfolding Holds bytes_spellable
decoded_bytes s (Ok bytes) h = all_bytes bytes (decode_of-ok s bytes h).3
decoded_bytes s (Err e) h = tt

hex_spelled : (s : List ℕ) → Holds (λ b. bytes_spellable b ≡ true) (hex_bytes s)
unfolding hex_bytes Holds
hex_spelled s = either (λ b. bytes_spellable b ≡ true) (list_all is_lower_digit s) (ok_of (decode_of s)) None (decoded_bytes s (decode_of s) refl) tt

object_spelled : (d : Data) → Holds (λ b. bytes_spellable b ≡ true) (hex_at d)
unfolding hex_at
object_spelled d = past _ (only_at d) _ (λ _. past _ _ hex_bytes hex_spelled)

pub blob_spelled : (d : Data) → OfBytes d → Holds (λ b. bytes_spellable b ≡ true) (blob_at d)
unfolding blob_at Holds of_bytes
blob_spelled null h = object_spelled null
blob_spelled (boolean b) h = object_spelled (boolean b)
blob_spelled (number n) h = object_spelled (number n)
blob_spelled (string s) h = h
blob_spelled (array ds) h = object_spelled (array ds)
blob_spelled (object ms) h = object_spelled (object ms)

-- ---- values that may be absent, and lists

pub optional_spelled : {X : Type 0} (test : X → Bool) (f : Data → Option X) (d : Data) → Holds (λ x. test x ≡ true) (f d) → Holds (λ o. none_or test o ≡ true) (optional_at f d)
unfolding optional_at Holds
optional_spelled test f null h = refl
optional_spelled test f (boolean b) h = mapped (λ x. test x ≡ true) (λ o. none_or test o ≡ true) Some (f (boolean b)) h (λ x t. t)
optional_spelled test f (number n) h = mapped (λ x. test x ≡ true) (λ o. none_or test o ≡ true) Some (f (number n)) h (λ x t. t)
optional_spelled test f (string s) h = mapped (λ x. test x ≡ true) (λ o. none_or test o ≡ true) Some (f (string s)) h (λ x t. t)
optional_spelled test f (array ds) h = mapped (λ x. test x ≡ true) (λ o. none_or test o ≡ true) Some (f (array ds)) h (λ x t. t)
optional_spelled test f (object ms) h = mapped (λ x. test x ≡ true) (λ o. none_or test o ≡ true) Some (f (object ms)) h (λ x t. t)

pub list_spelled : {X : Type 0} (test : X → Bool) (f : Data → Option X) → ((d : Data) → OfBytes d → Holds (λ x. test x ≡ true) (f d)) → (ds : Items) → items_of_bytes ds ≡ true →
    Holds (λ xs. list_all test xs ≡ true) (list_of f ds)
unfolding list_of Holds
list_spelled test f each no_items h = refl
list_spelled test f each (item d ds) h =
    step (λ x. test x ≡ true) _ (f d) _ (each d (first d ds h)) (λ x hx.
    step (λ xs. list_all test xs ≡ true) _ (list_of f ds) _ (list_spelled test f each ds (rest d ds h)) (λ xs hxs. and_from (test x) (list_all test xs) hx hxs))
