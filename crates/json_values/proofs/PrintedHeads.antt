-- Payloads, heads and bodies that are printed are read again.
use Rattle.std.proofs.Common.{◌≡◌, ℕ, List, [], ◌∷◌, ◌++◌, map, length, Bool, true, false, not, nat_le, nat_eq, Some, refl, ap, sym, ◌∙◌, append_assoc}
use Rattle.std.proofs.lemmas.Bool.{and_parts, or_parts, not-true, leb-true, false_from_ne_true, both_ways}
use Rattle.std.proofs.lemmas.List.{append-nil, take_all}
use Rattle.std.proofs.lemmas.Slice.Eq.{bytes_eq-Decides}
use Rattle.std.specs.Cmp.Lexicographic.{pointwise}
use Rattle.std.specs.List.{list_all, list_any}
use Rattle.std.specs.Prelude.{bytes_eq}
use Rattle.http_header.specs.FieldValue.{FieldValue, plain_value}
use Rattle.http_header.specs.HeaderMap.{update, append, append_all, entry_pairs, pairs}
use Rattle.http_header.specs.Token.{is_value_byte, lowercase}
use Rattle.serde_json.specs.Data.{string, object, Members}
use Rattle.smithy_types.specs.HeaderList.{HeaderList}
use Rattle.smithy_types.specs.declared.http.Body.{Body}
use Rattle.smithy_types.specs.declared.http.Body.TheVariants as bodies
use Rattle.smithy_types.specs.declared.http.HttpRequest.{HttpRequest}
use Rattle.smithy_types.specs.declared.http.HttpResponse.{HttpResponse}
use Rattle.smithy_types.specs.declared.payload.Payload.{Payload}
use Rattle.json_forms.specs.Forms.{starts, first_says, says, word_at, tagged_at, blob_at}
use Rattle.json_forms.specs.Lists.{fresh}
use Rattle.json_values.specs.Readings.{payload_at, Header, is_field_name, field_name, field_value, header_at, headers_at, sent_at, body_at, request_at, response_at}
use Rattle.json_values.specs.Spellable.{is_u16, is_u32, bytes_spellable, payload_spellable, header_spellable, has_values, names_in, headers_spellable, body_spellable, request_spellable, response_spellable}
use Rattle.json_forms.specs.Prints.{is_shown, blob_data}
use Rattle.json_values.specs.Values.{payload_data, header_data, headers_data, body_data, request_data, response_data}
use Rattle.json_values.proofs.PrintedForms.{three_parts, four_parts, five_parts, list_read, blob_read, printed_shown, printed_hex}

pub payload_read : (p : Payload) → payload_spellable p ≡ true → payload_at (payload_data p) ≡ Some p
unfolding payload_at payload_data payload_spellable
payload_read p h =
    let parts = and_parts (is_u32 p.kind) (bytes_spellable p.bytes) h in
    rw (parts.0, blob_read p.bytes parts.1) refl

-- ---- one header

kept_name : (n : List ℕ) → is_field_name n ≡ true → lowercase n ≡ n → field_name n ≡ Some n
unfolding field_name
kept_name n h e = rw h (ap Some e)

kept_value : (bytes : List ℕ) → list_all is_value_byte bytes ≡ true → field_value bytes ≡ Some (plain_value bytes)
unfolding field_value
kept_value bytes h = rw h refl

plain_again : (v : FieldValue) → not v.is_sensitive ≡ true → plain_value v.bytes ≡ v
plain_again v h = ap (λ (mark : Bool). let w : FieldValue = record { bytes = v.bytes; is_sensitive = mark } in w) (sym (not-true v.is_sensitive h))

pub header_read : (h : Header) → header_spellable h ≡ true → header_at (header_data h) ≡ Some h
unfolding header_at header_data header_spellable
header_read h t =
    let parts = five_parts (is_field_name h.0) (bytes_eq (lowercase h.0) h.0) (list_all is_value_byte (h.1).bytes) (bytes_spellable (h.1).bytes) (not (h.1).is_sensitive) t in
    rw (kept_name h.0 parts.0 ((bytes_eq-Decides (lowercase h.0) h.0).0 parts.1), blob_read (h.1).bytes parts.3, kept_value (h.1).bytes parts.2)
    (ap (λ (v : FieldValue). let p : Header = (h.0, v) in Some p) (plain_again h.1 parts.4))

-- ---- headers under their names

-- the name of an entry isn't among these
abbrev pub is_new : List ℕ → HeaderList → Type 0
is_new n hs = list_any (pointwise nat_eq n) (names_in hs) ≡ false

same_name : (n : List ℕ) → bytes_eq n n ≡ true
same_name n = (bytes_eq-Decides n n).1 refl

pub other_name : (a b : List ℕ) → bytes_eq a b ≡ false → bytes_eq b a ≡ false
other_name a b h = false_from_ne_true (bytes_eq b a) (λ e. both_ways (bytes_eq a b) h ((bytes_eq-Decides a b).1 (sym ((bytes_eq-Decides b a).0 e))))

pub added : (m : HeaderList) (n : List ℕ) (f : List FieldValue → List FieldValue) → is_new n m → update m n f ≡ m ++ (n, f []) ∷ []
added [] n f h = refl
added (e ∷ m) n f h =
    let parts = or_parts (bytes_eq n e.0) (list_any (pointwise nat_eq n) (names_in m)) h in
    rw (other_name n e.0 parts.0) (ap (λ (l : HeaderList). e ∷ l) (added m n f parts.1))

changed : (m : HeaderList) (n : List ℕ) (vs : List FieldValue) (f : List FieldValue → List FieldValue) → is_new n m → update (m ++ (n, vs) ∷ []) n f ≡ m ++ (n, f vs) ∷ []
changed [] n vs f h = rw (same_name n) refl
changed (e ∷ m) n vs f h =
    let parts = or_parts (bytes_eq n e.0) (list_any (pointwise nat_eq n) (names_in m)) h in
    rw (other_name n e.0 parts.0) (ap (λ (l : HeaderList). e ∷ l) (changed m n vs f parts.1))

-- further values of the last name
values_more : (m : HeaderList) (n : List ℕ) (ws vs : List FieldValue) → is_new n m → append_all (m ++ (n, ws) ∷ []) (map (λ v. (n, v)) vs) ≡ m ++ (n, ws ++ vs) ∷ []
values_more m n ws [] h = ap (λ (l : List FieldValue). m ++ (n, l) ∷ []) (sym (append-nil ws))
values_more m n ws (v ∷ vs) h =
    ap (λ (l : HeaderList). append_all l (map (λ w. (n, w)) vs)) (changed m n ws (λ l. l ++ v ∷ []) h)
    ∙ values_more m n (ws ++ v ∷ []) vs h
    ∙ ap (λ (l : List FieldValue). m ++ (n, l) ∷ []) (append_assoc ws (v ∷ []) vs)

-- all values of a new name
name_more : (m : HeaderList) (n : List ℕ) (v : FieldValue) (vs : List FieldValue) → is_new n m → append_all m (map (λ w. (n, w)) (v ∷ vs)) ≡ m ++ (n, v ∷ vs) ∷ []
name_more m n v vs h =
    ap (λ (l : HeaderList). append_all l (map (λ w. (n, w)) vs)) (added m n (λ l. l ++ v ∷ []) h) ∙ values_more m n (v ∷ []) vs h

append_all-append : (m : HeaderList) (hs ks : List Header) → append_all m (hs ++ ks) ≡ append_all (append_all m hs) ks
append_all-append m [] ks = refl
append_all-append m (h ∷ hs) ks = append_all-append (append m h.0 h.1) hs ks

pub names_in-push : (m : HeaderList) (n : List ℕ) (vs : List FieldValue) → names_in (m ++ (n, vs) ∷ []) ≡ names_in m ++ n ∷ []
names_in-push [] n vs = refl
names_in-push (e ∷ m) n vs = ap (λ (l : List (List ℕ)). e.0 ∷ l) (names_in-push m n vs)

-- all values of all names, behind other names
names_more : (m hs : HeaderList) → fresh (names_in m) (names_in hs) ≡ true → list_all has_values hs ≡ true → append_all m (pairs hs) ≡ m ++ hs
names_more m [] f h = sym (append-nil m)
names_more m ((n, []) ∷ hs) f h = absurd (cc)
names_more m ((n, v ∷ vs) ∷ hs) f h =
    let parts = and_parts (not (list_any (pointwise nat_eq n) (names_in m))) (fresh (names_in m ++ n ∷ []) (names_in hs)) f in
    let filled = and_parts (has_values (n, v ∷ vs)) (list_all has_values hs) h in
    append_all-append m (entry_pairs (n, v ∷ vs)) (pairs hs)
    ∙ ap (λ (l : HeaderList). append_all l (pairs hs)) (name_more m n v vs (not-true (list_any (pointwise nat_eq n) (names_in m)) parts.0))
    ∙ names_more (m ++ (n, v ∷ vs) ∷ []) hs (ap (λ (l : List (List ℕ)). fresh l (names_in hs)) (names_in-push m n (v ∷ vs)) ∙ parts.1) filled.1
    ∙ append_assoc m ((n, v ∷ vs) ∷ []) hs

pub headers_read : (hs : HeaderList) → headers_spellable hs ≡ true → headers_at (headers_data hs) ≡ Some hs
unfolding headers_at headers_data headers_spellable
headers_read hs h =
    let parts = four_parts (fresh [] (names_in hs)) (list_all has_values hs) (list_all header_spellable (pairs hs)) (nat_le (length (pairs hs)) 24576) h in
    rw (list_read header_at header_data header_spellable header_read (pairs hs) parts.2)
    (ap (λ (l : List Header). Some (append_all [] l)) (take_all 24576 (pairs hs) (leb-true (length (pairs hs)) 24576 parts.3)) ∙ ap Some (names_more [] hs parts.0 parts.1))

-- ---- bodies, requests and responses

text_sent : (s bytes : List ℕ) → blob_at (string s) ≡ Some bytes → body_at (string s) ≡ Some (bodies.Bytes bytes)
unfolding body_at sent_at starts
text_sent s bytes h = rw h refl

object_sent : (ms : Members) (bytes : List ℕ) → blob_at (object ms) ≡ Some bytes → body_at (object ms) ≡ Some (bodies.Bytes bytes)
unfolding body_at sent_at starts
object_sent ms bytes h = rw h refl

bytes_sent : (bytes : List ℕ) → bytes_spellable bytes ≡ true → body_at (blob_data bytes) ≡ Some (bodies.Bytes bytes)
bytes_sent bytes h = by_test (list_all is_shown bytes) refl
  where
    by_test : (t : Bool) → list_all is_shown bytes ≡ t → body_at (blob_data bytes) ≡ Some (bodies.Bytes bytes)
    by_test true e =
        ap body_at (printed_shown bytes e) ∙ text_sent bytes bytes (ap blob_at (sym (printed_shown bytes e)) ∙ blob_read bytes h)
    by_test false e =
        ap body_at (printed_hex bytes e) ∙ object_sent _ bytes (ap blob_at (sym (printed_hex bytes e)) ∙ blob_read bytes h)

pub body_read : (b : Body) → body_spellable b ≡ true → body_at (body_data b) ≡ Some b
unfolding body_at body_data body_spellable sent_at starts first_says says tagged_at word_at
body_read (bodies.Bytes bytes) h = bytes_sent bytes h
body_read (bodies.Once bytes) h = rw (blob_read bytes h) refl
body_read bodies.Taken h = refl

pub request_read : (r : HttpRequest) → request_spellable r ≡ true → request_at (request_data r) ≡ Some r
unfolding request_at request_data request_spellable
request_read r h =
    let parts = and_parts (headers_spellable r.headers) (body_spellable r.body) h in
    rw (headers_read r.headers parts.0, body_read r.body parts.1) refl

pub response_read : (r : HttpResponse) → response_spellable r ≡ true → response_at (response_data r) ≡ Some r
unfolding response_at response_data response_spellable
response_read r h =
    let parts = three_parts (is_u16 r.status) (headers_spellable r.headers) (body_spellable r.body) h in
    rw (parts.0, headers_read r.headers parts.1, body_read r.body parts.2) refl
