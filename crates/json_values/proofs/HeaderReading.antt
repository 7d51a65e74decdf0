-- Headers that are read one after another.
use Rattle.std.proofs.Common.{◌≡◌, ℕ, zero, suc, ◌+◌, ◌-◌, ◌<◌, ◌≤◌, List, [], ◌∷◌, length, drop, take, Bool, true, false, nat_lt, if◌then◌else◌, get_or, Option, Some, None, refl, arith, ap, ◌∙◌, sym}
use Rattle.http_header.specs.FieldValue.{FieldValue}
use Rattle.http_header.specs.HeaderMap.{Entries, append, append_all}
use Rattle.json_forms.specs.View.{view, items_view}
use Rattle.json.specs.declared.value.Value.{Value}
use Rattle.json_values.specs.Readings.{put_within, Header, header_at, header_items}
use Rattle.json_forms.specs.Lists.{list_of}
use Rattle.json_forms.specs.Reading.{◌>>=◌, Fails}
use Rattle.json_forms.specs.declared.read.ReadError.{ReadError}
use Rattle.json_forms.specs.declared.read.ReadError.TheVariants.{Memory, Refused}
use Rattle.json_forms.proofs.ReadLists.{list_of-drop, list_of-end}

-- a map, and so many of the further headers
pub headers_behind : Entries FieldValue → ℕ → Option (List Header) → Option (Entries FieldValue)
headers_behind m n None = None
headers_behind m n (Some hs) = Some (append_all m (take n hs))

by_reading : (o : Option (List Header)) → (o >>= λ hs. Some (append_all [] (take 24576 hs))) ≡ headers_behind [] 24576 o
unfolding headers_behind
by_reading None = refl
by_reading (Some hs) = refl

pub header_items-behind : {A : Type 0} (vs : List (Value A)) → headers_behind [] 24576 (list_of header_at (items_view vs)) ≡ header_items (items_view vs)
header_items-behind vs = sym (by_reading (list_of header_at (items_view vs)))

behind-kept : (m : Entries FieldValue) (n k : ℕ) (h : Header) (o : Option (List Header)) → n ≡ suc k → headers_behind m n (o >>= λ hs. Some (h ∷ hs)) ≡ headers_behind (append m h.0 h.1) k o
unfolding headers_behind
behind-kept m n k h None e = refl
behind-kept m n k h (Some hs) e = rw e refl

behind-over : (m : Entries FieldValue) (n k : ℕ) (h : Header) (o : Option (List Header)) → n ≡ 0 → k ≡ 0 → headers_behind m n (o >>= λ hs. Some (h ∷ hs)) ≡ headers_behind m k o
unfolding headers_behind
behind-over m n k h None e f = refl
behind-over m n k h (Some hs) e f = rw (e, f) refl

step : {A : Type 0} (m : Entries FieldValue) (n : ℕ) (vs : List (Value A)) (i : ℕ) (v : Value A) (h : Header) → i < length vs → v ≡ get_or vs i v → header_at (view v) ≡ Some h →
    headers_behind m n (list_of header_at (items_view (drop i vs))) ≡ headers_behind m n (list_of header_at (items_view (drop (i + 1) vs)) >>= λ hs. Some (h ∷ hs))
step m n vs i v h a e r =
    ap (headers_behind m n) (list_of-drop header_at vs i v a e ∙ ap (λ (o : Option Header). o >>= λ x. list_of header_at (items_view (drop (i + 1) vs)) >>= λ xs. Some (x ∷ xs)) r)

kept_or_over : (m : Entries FieldValue) (i : ℕ) (h : Header) (o : Option (List Header)) →
    headers_behind (put_within i m h.0 h.1) (24576 - (i + 1)) o ≡ headers_behind m (24576 - i) (o >>= λ hs. Some (h ∷ hs))
kept_or_over m i h o = by_test (nat_lt i 24576) refl
  where
    by_test : (b : Bool) → nat_lt i 24576 ≡ b → headers_behind (if nat_lt i 24576 then append m h.0 h.1 else m) (24576 - (i + 1)) o ≡ headers_behind m (24576 - i) (o >>= λ hs. Some (h ∷ hs))
    by_test true e = rw e (sym (behind-kept m (24576 - i) (24576 - (i + 1)) h o (grind arith)))
    by_test false e = rw e (sym (behind-over m (24576 - i) (24576 - (i + 1)) h o (grind arith) (grind arith)))

-- a header more
pub header_more : {A : Type 0} (m next : Entries FieldValue) (vs : List (Value A)) (i : ℕ) (v : Value A) (n : List ℕ) (x : FieldValue) → i < length vs → v ≡ get_or vs i v → header_at (view v) ≡ Some (n, x) → next ≡ put_within i m n x →
    headers_behind next (24576 - (i + 1)) (list_of header_at (items_view (drop (i + 1) vs))) ≡ headers_behind m (24576 - i) (list_of header_at (items_view (drop i vs)))
header_more m next vs i v n x a e r f =
    ap (λ (t : Entries FieldValue). headers_behind t (24576 - (i + 1)) (list_of header_at (items_view (drop (i + 1) vs)))) f
    ∙ kept_or_over m i (n, x) (list_of header_at (items_view (drop (i + 1) vs)))
    ∙ sym (step m (24576 - i) vs i v (n, x) a e r)

-- a header that was not read
pub header_fail : {A : Type 0} (error : ReadError) (m : Entries FieldValue) (vs : List (Value A)) (i : ℕ) (v : Value A) → i < length vs → v ≡ get_or vs i v →
    headers_behind m (24576 - i) (list_of header_at (items_view (drop i vs))) ≡ header_items (items_view vs) → Fails error (header_at (view v)) → Fails error (header_items (items_view vs))
unfolding headers_behind
header_fail Memory m vs i v a e w r = tt
header_fail Refused m vs i v a e w r =
    sym w ∙ ap (headers_behind m (24576 - i)) (list_of-drop header_at vs i v a e ∙ ap (λ (o : Option Header). o >>= λ x. list_of header_at (items_view (drop (i + 1) vs)) >>= λ xs. Some (x ∷ xs)) r)

take-none : (n : ℕ) → take {A = Header} n [] ≡ []
take-none zero = refl
take-none (suc n) = refl

-- no header more
pub header_end : {A : Type 0} (m : Entries FieldValue) (vs : List (Value A)) (i n : ℕ) → length vs ≤ i → headers_behind m n (list_of header_at (items_view (drop i vs))) ≡ Some m
unfolding headers_behind
header_end m vs i n h = ap (headers_behind m n) (list_of-end header_at vs i h) ∙ ap (λ (l : List Header). Some (append_all m l)) (take-none n)

pub no_headers : {A : Type 0} (vs : List (Value A)) → length vs < 1 → header_items (items_view vs) ≡ Some []
unfolding list_of items_view
no_headers [] h = refl
no_headers (v ∷ vs) h = absurd (omega arith)

pub ruleset header_reading = (header_items-behind, header_more, header_fail, header_end)
