-- Forms that read no data with a float: words, numbers, tuples, lists and bytes.
use Rattle.std.proofs.Common.{◌≡◌, ℕ, suc, List, Bool, true, false, ◌||◌, ◌==◌, nat_lt, Option, Some, None, Ordering, Less, Equal, Greater, codes, refl, arith, if◌then◌else◌, eqb-true}
use Rattle.std.proofs.lemmas.Bool.{or_from}
use Rattle.std.specs.Cmp.Lexicographic.{slice_cmp}
use Rattle.std.specs.Ordering.{nat_cmp, match_ordering}
use Rattle.serde_json.specs.Data.{unsigned, negative, float, Data, null, boolean, number, string, array, object, Items, no_items, item, Members, no_members, member}
use Rattle.serde_json.specs.Find.{as_bool, as_str, as_array, get}
use Rattle.serde_json.specs.Written.{has_float, items_have_float}
use Rattle.json_forms.specs.Forms.{says, word_at, tagged_at, optional_at, only_true, true_at, texts_at, hex_bytes, member_count, one_member, only_at, hex_at, blob_at}
use Rattle.json_forms.specs.Lists.{list_of}
use Rattle.json_forms.specs.Plain.{number_at, below, number_below, pair_at, triple_at, quadruple_at, quintuple_at, sextuple_at, septuple_at}
use Rattle.json_forms.specs.Reading.{◌>>=◌}
use Rattle.json_values.proofs.SpelledForms.{Holds, either, either_by, mapped, step, weaker}

-- no float anywhere within it
abbrev pub Plain : Data → Type 0
Plain d = has_float d ≡ false

abbrev pub ArePlain : Items → Type 0
ArePlain ds = items_have_float ds ≡ false

-- What it reads something of is plain.
abbrev pub Refuses : {X : Type 0} → (Data → Option X) → Type 0
Refuses {X} f = (d : Data) → Holds (λ (x : X). Plain d) (f d)

-- ---- steps

pub always : {X : Type 0} (Q : Type 0) (o : Option X) → Q → Holds (λ (x : X). Q) o
unfolding Holds
always Q None h = tt
always Q (Some x) h = h

-- what holds where a part was read, holds where more is read of it
pub kept : {A B : Type 0} (Q : Type 0) (o : Option A) (g : A → Option B) → Holds (λ (x : A). Q) o → Holds (λ (y : B). Q) (o >>= g)
kept {A} {B} Q o g h = step (λ (x : A). Q) (λ (y : B). Q) o g h (λ x q. always Q (g x) q)

pub then_plain : {A B : Type 0} (f : Data → Option A) (g : A → Option B) → Refuses f → Refuses (λ d. f d >>= g)
then_plain f g h d = kept (Plain d) (f d) g (h d)

-- a part that is read, and then the rest
pub part : {A B : Type 0} (f : Data → Option A) → Refuses f → (d : Data) (Q : B → Type 0) (g : A → Option B) → (Plain d → (x : A) → Holds Q (g x)) → Holds Q (f d >>= g)
part {A} f h d Q g k = step (λ (x : A). Plain d) Q (f d) g (h d) (λ x p. k p x)

-- a test that stands before the rest
pub checked : {B : Type 0} (Q : B → Type 0) (b : Bool) (g : Unit {0} → Option B) → (b ≡ true → Holds Q (g tt)) → Holds Q ((if b then Some tt else None) >>= g)
unfolding Holds
checked Q true g h = h refl
checked Q false g h = tt

-- ---- texts, marks and numbers

pub str_plain : Refuses as_str
unfolding Holds
str_plain null = tt
str_plain (boolean b) = tt
str_plain (number n) = tt
str_plain (string s) = refl
str_plain (array ds) = tt
str_plain (object ms) = tt

pub bool_plain : Refuses as_bool
unfolding Holds
bool_plain null = tt
bool_plain (boolean b) = refl
bool_plain (number n) = tt
bool_plain (string s) = tt
bool_plain (array ds) = tt
bool_plain (object ms) = tt

pub true_plain : Refuses true_at
unfolding true_at
true_plain d = kept (Plain d) (as_bool d) only_true (bool_plain d)

pub number_plain : Refuses number_at
unfolding Holds
number_plain null = tt
number_plain (boolean b) = tt
number_plain (number (unsigned n)) = refl
number_plain (number (negative z)) = tt
number_plain (number (float x)) = tt
number_plain (string s) = tt
number_plain (array ds) = tt
number_plain (object ms) = tt

pub below_plain : (bound : ℕ) → Refuses (number_below bound)
unfolding Holds
below_plain bound d = by_number (number_at d) (number_plain d)
  where
    by_number : (o : Option ℕ) → Holds (λ (n : ℕ). Plain d) o → Holds (λ (n : ℕ). Plain d) (below bound o)
    by_number None h = tt
    by_number (Some n) h = either (λ (m : ℕ). Plain d) (nat_lt n bound) (Some n) None h tt

pub word_plain : (word : List ℕ) → Refuses (word_at word)
unfolding word_at
word_plain word d = kept (Plain d) (as_str d) _ (str_plain d)

pub says_plain : (word : List ℕ) (d : Data) → says word d ≡ true → Plain d
unfolding says
says_plain word null h = refl
says_plain word (boolean b) h = refl
says_plain word (number n) h = absurd (cc)
says_plain word (string s) h = refl
says_plain word (array ds) h = absurd (cc)
says_plain word (object ms) h = absurd (cc)

-- a word, or what is read otherwise
pub said_or : {X : Type 0} (word : List ℕ) (d : Data) (x : X) (o : Option X) → Holds (λ (y : X). Plain d) o → Holds (λ (y : X). Plain d) (if says word d then Some x else o)
unfolding Holds
said_or {X} word d x o h = either_by (λ (y : X). Plain d) (says word d) (Some x) o (says_plain word d) (λ _. h)

-- ---- lists

pub array_plain : (d : Data) → Holds (λ ds. ArePlain ds → Plain d) (as_array d)
unfolding Holds
array_plain null = tt
array_plain (boolean b) = tt
array_plain (number n) = tt
array_plain (string s) = tt
array_plain (array ds) = λ h. h
array_plain (object ms) = tt

pub list_plain : {X : Type 0} (f : Data → Option X) → Refuses f → (ds : Items) → Holds (λ (xs : List X). ArePlain ds) (list_of f ds)
unfolding list_of Holds
list_plain f h no_items = refl
list_plain {X} f h (item d ds) =
    part f h d (λ (xs : List X). ArePlain (item d ds)) _ (λ first x.
    step (λ (xs : List X). ArePlain ds) (λ (xs : List X). ArePlain (item d ds)) (list_of f ds) _ (list_plain f h ds) (λ xs rest. or_from (has_float d) (items_have_float ds) first rest))

pub rows_plain : {X : Type 0} (f : Data → Option X) → Refuses f → Refuses (λ d. as_array d >>= list_of f)
rows_plain {X} f h d =
    step (λ ds. ArePlain ds → Plain d) (λ (xs : List X). Plain d) (as_array d) (list_of f) (array_plain d) (λ ds whole.
    weaker (λ (xs : List X). ArePlain ds) (λ (xs : List X). Plain d) (list_of f ds) (list_plain f h ds) (λ xs. whole))

pub texts_plain : Refuses texts_at
unfolding texts_at
texts_plain d = rows_plain as_str str_plain d

-- ---- tuples

one : (a : Bool) → a ≡ false → a || false ≡ false
one a h = or_from a false h refl

two : (a b : Bool) → a ≡ false → b ≡ false → a || (b || false) ≡ false
two a b h i = or_from a (b || false) h (one b i)

three : (a b c : Bool) → a ≡ false → b ≡ false → c ≡ false → a || (b || (c || false)) ≡ false
three a b c h i j = or_from a (b || (c || false)) h (two b c i j)

four : (a b c d : Bool) → a ≡ false → b ≡ false → c ≡ false → d ≡ false → a || (b || (c || (d || false))) ≡ false
four a b c d h i j k = or_from a (b || (c || (d || false))) h (three b c d i j k)

five : (a b c d e : Bool) → a ≡ false → b ≡ false → c ≡ false → d ≡ false → e ≡ false → a || (b || (c || (d || (e || false)))) ≡ false
five a b c d e h i j k l = or_from a (b || (c || (d || (e || false)))) h (four b c d e i j k l)

six : (a b c d e f : Bool) → a ≡ false → b ≡ false → c ≡ false → d ≡ false → e ≡ false → f ≡ false → a || (b || (c || (d || (e || (f || false))))) ≡ false
six a b c d e f h i j k l m = or_from a (b || (c || (d || (e || (f || false))))) h (five b c d e f i j k l m)

seven : (a b c d e f g : Bool) → a ≡ false → b ≡ false → c ≡ false → d ≡ false → e ≡ false → f ≡ false → g ≡ false → a || (b || (c || (d || (e || (f || (g || false)))))) ≡ false
seven a b c d e f g h i j k l m n = or_from a (b || (c || (d || (e || (f || (g || false)))))) h (six b c d e f g i j k l m n)

pub pair_plain : (d : Data) → Holds (λ p. Plain p.0 → Plain p.1 → Plain d) (pair_at d)
unfolding Holds
pair_plain null = tt
pair_plain (boolean b) = tt
pair_plain (number n) = tt
pair_plain (string s) = tt
pair_plain (object ms) = tt
pair_plain (array no_items) = tt
pair_plain (array (item a no_items)) = tt
pair_plain (array (item a (item b no_items))) = λ h i. two (has_float a) (has_float b) h i
pair_plain (array (item a (item b (item c ds)))) = tt

pub triple_plain : (d : Data) → Holds (λ p. Plain p.0 → Plain p.1 → Plain p.2 → Plain d) (triple_at d)
unfolding Holds
triple_plain null = tt
triple_plain (boolean b) = tt
triple_plain (number n) = tt
triple_plain (string s) = tt
triple_plain (object ms) = tt
triple_plain (array no_items) = tt
triple_plain (array (item a no_items)) = tt
triple_plain (array (item a (item b no_items))) = tt
triple_plain (array (item a (item b (item c no_items)))) = λ h i j. three (has_float a) (has_float b) (has_float c) h i j
triple_plain (array (item a (item b (item c (item d ds))))) = tt

pub quadruple_plain : (d : Data) → Holds (λ p. Plain p.0 → Plain p.1 → Plain p.2 → Plain p.3 → Plain d) (quadruple_at d)
unfolding Holds
quadruple_plain null = tt
quadruple_plain (boolean b) = tt
quadruple_plain (number n) = tt
quadruple_plain (string s) = tt
quadruple_plain (object ms) = tt
quadruple_plain (array no_items) = tt
quadruple_plain (array (item a no_items)) = tt
quadruple_plain (array (item a (item b no_items))) = tt
quadruple_plain (array (item a (item b (item c no_items)))) = tt
quadruple_plain (array (item a (item b (item c (item d no_items))))) = λ h i j k. four (has_float a) (has_float b) (has_float c) (has_float d) h i j k
quadruple_plain (array (item a (item b (item c (item d (item e ds)))))) = tt

pub quintuple_plain : (d : Data) → Holds (λ p. Plain p.0 → Plain p.1 → Plain p.2 → Plain p.3 → Plain p.4 → Plain d) (quintuple_at d)
unfolding Holds
quintuple_plain null = tt
quintuple_plain (boolean b) = tt
quintuple_plain (number n) = tt
quintuple_plain (string s) = tt
quintuple_plain (object ms) = tt
quintuple_plain (array no_items) = tt
quintuple_plain (array (item a no_items)) = tt
quintuple_plain (array (item a (item b no_items))) = tt
quintuple_plain (array (item a (item b (item c no_items)))) = tt
quintuple_plain (array (item a (item b (item c (item d no_items))))) = tt
quintuple_plain (array (item a (item b (item c (item d (item e no_items)))))) = λ h i j k l. five (has_float a) (has_float b) (has_float c) (has_float d) (has_float e) h i j k l
quintuple_plain (array (item a (item b (item c (item d (item e (item f ds))))))) = tt

pub sextuple_plain : (d : Data) → Holds (λ p. Plain p.0 → Plain p.1 → Plain p.2 → Plain p.3 → Plain p.4 → Plain p.5 → Plain d) (sextuple_at d)
unfolding Holds
sextuple_plain null = tt
sextuple_plain (boolean b) = tt
sextuple_plain (number n) = tt
sextuple_plain (string s) = tt
sextuple_plain (object ms) = tt
sextuple_plain (array no_items) = tt
sextuple_plain (array (item a no_items)) = tt
sextuple_plain (array (item a (item b no_items))) = tt
sextuple_plain (array (item a (item b (item c no_items)))) = tt
sextuple_plain (array (item a (item b (item c (item d no_items))))) = tt
sextuple_plain (array (item a (item b (item c (item d (item e no_items)))))) = tt
sextuple_plain (array (item a (item b (item c (item d (item e (item f no_items))))))) =
    λ h i j k l m. six (has_float a) (has_float b) (has_float c) (has_float d) (has_float e) (has_float f) h i j k l m
sextuple_plain (array (item a (item b (item c (item d (item e (item f (item g ds)))))))) = tt

pub septuple_plain : (d : Data) → Holds (λ p. Plain p.0 → Plain p.1 → Plain p.2 → Plain p.3 → Plain p.4 → Plain p.5 → Plain p.6 → Plain d) (septuple_at d)
unfolding Holds
septuple_plain null = tt
septuple_plain (boolean b) = tt
septuple_plain (number n) = tt
septuple_plain (string s) = tt
septuple_plain (object ms) = tt
septuple_plain (array no_items) = tt
septuple_plain (array (item a no_items)) = tt
septuple_plain (array (item a (item b no_items))) = tt
septuple_plain (array (item a (item b (item c no_items)))) = tt
septuple_plain (array (item a (item b (item c (item d no_items))))) = tt
septuple_plain (array (item a (item b (item c (item d (item e no_items)))))) = tt
septuple_plain (array (item a (item b (item c (item d (item e (item f no_items))))))) = tt
septuple_plain (array (item a (item b (item c (item d (item e (item f (item g no_items)))))))) =
    λ h i j k l m n. seven (has_float a) (has_float b) (has_float c) (has_float d) (has_float e) (has_float f) (has_float g) h i j k l m n
septuple_plain (array (item a (item b (item c (item d (item e (item f (item g (item x ds))))))))) = tt

-- ---- what stands beside a tag

pub tag_plain : (tag : List ℕ) (d : Data) → Holds (λ x. Plain x → Plain d) (tagged_at tag d)
unfolding tagged_at Holds
tag_plain tag d =
    step _ (λ x. Plain x → Plain d) (pair_at d) _ (pair_plain d) (λ p whole.
    part (word_at tag) (word_plain tag) p.0 (λ x. Plain x → Plain d) _ (λ h _. whole h))

pub tagged_plain : {X : Type 0} (tag : List ℕ) (f : Data → Option X) → Refuses f → Refuses (λ d. tagged_at tag d >>= f)
tagged_plain {X} tag f h d =
    step (λ x. Plain x → Plain d) (λ (y : X). Plain d) (tagged_at tag d) f (tag_plain tag d) (λ x whole.
    weaker (λ (y : X). Plain x) (λ (y : X). Plain d) (f x) (h x) (λ _. whole))

-- ---- values that may be absent

pub optional_plain : {X : Type 0} (f : Data → Option X) → Refuses f → Refuses (optional_at f)
unfolding optional_at Holds
optional_plain f h null = refl
optional_plain f h (boolean b) = mapped (λ _. Plain (boolean b)) _ Some (f (boolean b)) (h (boolean b)) (λ _ p. p)
optional_plain f h (number n) = mapped (λ _. Plain (number n)) _ Some (f (number n)) (h (number n)) (λ _ p. p)
optional_plain f h (string s) = mapped (λ _. Plain (string s)) _ Some (f (string s)) (h (string s)) (λ _ p. p)
optional_plain f h (array ds) = mapped (λ _. Plain (array ds)) _ Some (f (array ds)) (h (array ds)) (λ _ p. p)
optional_plain f h (object ms) = mapped (λ _. Plain (object ms)) _ Some (f (object ms)) (h (object ms)) (λ _ p. p)

-- ---- bytes

two_or_more : (n : ℕ) → suc (suc n) == 1 ≡ true → ⊥
two_or_more n h = omega (arith, eqb-true (suc (suc n)) 1 h)

found_hex : (o : Ordering) (e : Data) → Holds (λ (s : List ℕ). Plain e) (match_ordering o None (Some e) None >>= as_str)
unfolding Holds
found_hex Less e = tt
found_hex Equal e = str_plain e
found_hex Greater e = tt

no_one : 0 == 1 ≡ true → ⊥
no_one h = omega (arith, eqb-true 0 1 h)

abbrev hex_in : Members → Unit {0} → Option (List ℕ)
hex_in ms _ = get (codes "hex") (object ms) >>= as_str >>= hex_bytes

hex_object : (ms : Members) → Holds (λ (b : List ℕ). Plain (object ms)) (one_member ms >>= λ _. get (codes "hex") (object ms) >>= as_str >>= hex_bytes)
hex_object no_members = checked (λ b. Plain (object no_members)) (0 == 1) (hex_in no_members) (λ h. absurd (no_one h))
hex_object (member k e no_members) =
    checked (λ b. Plain (object (member k e no_members))) (1 == 1) (hex_in (member k e no_members)) (λ _. kept (Plain (object (member k e no_members))) _ hex_bytes
    (weaker (λ _. Plain e) _ _ (found_hex (slice_cmp nat_cmp (codes "hex") k) e) (λ _ h. or_from (has_float e) false h refl)))
hex_object (member k e (member l f ms)) = checked (λ b. Plain (object (member k e (member l f ms)))) (suc (suc (member_count ms)) == 1) (hex_in (member k e (member l f ms))) (λ h. absurd (two_or_more (member_count ms) h))

hex_plain : Refuses hex_at
unfolding hex_at only_at Holds
hex_plain null = tt
hex_plain (boolean b) = tt
hex_plain (number n) = tt
hex_plain (string s) = tt
hex_plain (array ds) = tt
hex_plain (object ms) = hex_object ms

pub blob_plain : Refuses blob_at
unfolding blob_at Holds
blob_plain null = hex_plain null
blob_plain (boolean b) = hex_plain (boolean b)
blob_plain (number n) = hex_plain (number n)
blob_plain (string s) = refl
blob_plain (array ds) = hex_plain (array ds)
blob_plain (object ms) = hex_plain (object ms)
