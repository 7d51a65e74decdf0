-- Maps with texts as keys: objects whose members are the entries.
use Rattle.std.specs.Prelude.{◌≡◌, ◌≤◌, ℕ, suc, List, [], ◌∷◌, ◌++◌, Bool, true, ◌&&◌, Option, Some, String}
use Rattle.std.specs.Prelude.{string_bytes}
use Rattle.std.proofs.Common.{Ordering, Less, Equal, Greater, nat_cmp, refl, sym, ap, ◌∙◌, true≢false, zero-le}
use Rattle.std.proofs.Common.{suc-le-suc, append_assoc}
use Rattle.std.proofs.lemmas.Cmp.{nat_list_cmp_total}
use Rattle.std.proofs.lemmas.List.{append-nil}
use Rattle.std.specs.BTreeMap.{insert_entry}
use Rattle.std.specs.Cmp.Lexicographic.{slice_cmp}
use Rattle.std.specs.List.{list_all}
use Rattle.std.specs.Ordering.{match_ordering, ordering_reverse, is_lt}
use Rattle.std.specs.declared.alloc.Global.{Global}
use Rattle.serde_json.specs.Data.{Data, object, members_depth, Members, no_members, member, put}
use Rattle.serde_json.specs.Find.{as_object}
use Rattle.json_payloads.specs.Reading.{◌>>=◌}
use Rattle.json_payloads.specs.Forms.{Form, both_fit}
use Rattle.json_payloads.specs.Placed.{put_some, put_some-shallow}

-- the bytes of a key, and its value
abbrev pub entry_of : {X : Type 0} → String Global × X → List ℕ × X
entry_of e = (string_bytes e.0, e.1)

-- the order of keys, by their bytes
abbrev pub key_cmp : List ℕ → List ℕ → Ordering
key_cmp k l = slice_cmp nat_cmp k l

-- each key is above this one
abbrev pub is_below : {X : Type 0} → List ℕ → List (List ℕ × X) → Bool
is_below k [] = true
is_below k (e ∷ es) = is_lt (key_cmp k e.0) && is_below k es

-- the keys ascend
abbrev pub is_sorted : {X : Type 0} → List (List ℕ × X) → Bool
is_sorted [] = true
is_sorted (e ∷ es) = is_below e.0 es && is_sorted es

-- the members, with each entry put in
abbrev pub put_all : {X : Type 0} → (X → Data) → List (List ℕ × X) → Members → Members
put_all prints [] ms = ms
put_all prints (e ∷ es) ms = put_all prints es (put e.0 (prints e.1) ms)

-- the entries that were found, with that of each member put in, where f reads them all
unfoldable pub gather : {X : Type 0} → (Data → Option X) → Members → List (List ℕ × X) → Option (List (List ℕ × X))
gather f no_members found = Some found
gather f (member k d ms) found = f d >>= λ x. gather f ms (insert_entry key_cmp found k x)

-- the entries of an object
abbrev pub entries_at : {X : Type 0} → (Data → Option X) → Data → Option (List (List ℕ × X))
entries_at f d = as_object d >>= λ ms. gather f ms []

-- the value of an entry fits
abbrev pub entry_fits : {X : Type 0} → (X → Bool) → List ℕ × X → Bool
entry_fits fits e = fits e.1

-- ---- a key above all others goes last

-- the members that these entries are, in their order
abbrev pub pairs : {X : Type 0} → (X → Data) → List (List ℕ × X) → Members
pairs prints [] = no_members
pairs prints (e ∷ es) = member e.0 (prints e.1) (pairs prints es)

-- each key is below this one
abbrev pub is_under : {X : Type 0} → List (List ℕ × X) → List ℕ → Bool
is_under [] k = true
is_under (e ∷ es) k = is_lt (key_cmp e.0 k) && is_under es k

-- two tests that pass
both_true : (a b : Bool) → a ≡ true → b ≡ true → (a && b) ≡ true
both_true a b p q = ap (λ (x : Bool). x && b) p ∙ q

-- an order that is less
less_of : (o : Ordering) → is_lt o ≡ true → o ≡ Less
less_of Less e = refl
less_of Equal e = absurd (true≢false (sym e))
less_of Greater e = absurd (true≢false (sym e))

-- a key above another is compared with it as greater
greater_of : (l k : List ℕ) → is_lt (key_cmp l k) ≡ true → key_cmp k l ≡ Greater
greater_of l k h = nat_list_cmp_total.antisymm k l ∙ ap ordering_reverse (less_of (key_cmp l k) h)

-- a member whose name is above all others is put behind them
put_end : {X : Type 0} (prints : X → Data) (done : List (List ℕ × X)) (k : List ℕ) (x : X) → is_under done k ≡ true →
    put k (prints x) (pairs prints done) ≡ pairs prints (done ++ (k, x) ∷ [])
put_end prints [] k x h = refl
put_end prints (e ∷ done) k x h =
    let each = both_fit (is_lt (key_cmp e.0 k)) (is_under done k) h in
    ap
    (λ (o : Ordering).
    match_ordering o (member k (prints x) (member e.0 (prints e.1) (pairs prints done)))
    (member e.0 (prints x) (pairs prints done)) (member e.0 (prints e.1) (put k (prints x) (pairs prints done))))
    (greater_of e.0 k each.0)
    ∙ ap (member e.0 (prints e.1)) (put_end prints done k x each.1)

-- an entry whose key is above all others is inserted behind them
insert_end : {X : Type 0} (done : List (List ℕ × X)) (k : List ℕ) (x : X) → is_under done k ≡ true →
    insert_entry key_cmp done k x ≡ done ++ (k, x) ∷ []
insert_end [] k x h = refl
insert_end {X} (e ∷ done) k x h =
    let each = both_fit (is_lt (key_cmp e.0 k)) (is_under done k) h in
    ap (λ (o : Ordering). match_ordering o ((k, x) ∷ e ∷ done) ((e.0, x) ∷ done) (e ∷ insert_entry key_cmp done k x))
    (greater_of e.0 k each.0)
    ∙ ap (λ (es : List (List ℕ × X)). e ∷ es) (insert_end done k x each.1)

-- a key that is below each of several is below one of them
below_in : {X : Type 0} (k : List ℕ) (done : List (List ℕ × X)) (e : List ℕ × X) (more : List (List ℕ × X)) →
    is_below k (done ++ e ∷ more) ≡ true → is_lt (key_cmp k e.0) ≡ true
below_in k [] e more h = (both_fit (is_lt (key_cmp k e.0)) (is_below k more) h).0
below_in k (d ∷ done) e more h =
    below_in k done e more (both_fit (is_lt (key_cmp k d.0)) (is_below k (done ++ e ∷ more)) h).1

-- where keys ascend, those in front of one are below it
under_of : {X : Type 0} (done : List (List ℕ × X)) (e : List ℕ × X) (more : List (List ℕ × X)) →
    is_sorted (done ++ e ∷ more) ≡ true → is_under done e.0 ≡ true
under_of [] e more h = refl
under_of (d ∷ done) e more h =
    let each = both_fit (is_below d.0 (done ++ e ∷ more)) (is_sorted (done ++ e ∷ more)) h in
    both_true (is_lt (key_cmp d.0 e.0)) (is_under done e.0) (below_in d.0 done e more each.0)
    (under_of done e more each.1)

-- entries whose keys ascend are put one behind the other
all_put : {X : Type 0} (prints : X → Data) (done es : List (List ℕ × X)) → is_sorted (done ++ es) ≡ true →
    put_all prints es (pairs prints done) ≡ pairs prints (done ++ es)
all_put prints done [] h = ap (pairs prints) (sym (append-nil done))
all_put {X} prints done (e ∷ es) h =
    ap (put_all prints es) (put_end prints done e.0 e.1 (under_of done e es h))
    ∙ all_put prints (done ++ e ∷ []) es (ap is_sorted (append_assoc done (e ∷ []) es) ∙ h)
    ∙ ap (pairs prints) (append_assoc done (e ∷ []) es)

-- members whose names ascend are gathered one behind the other
all_gathered : {X : Type 0} (f : Form X) (done es : List (List ℕ × X)) → is_sorted (done ++ es) ≡ true →
    list_all (entry_fits f.fits) es ≡ true → gather f.reads (pairs f.prints es) done ≡ Some (done ++ es)
unfolding gather
all_gathered {X} f done [] h fit = ap (λ (es : List (List ℕ × X)). Some es) (sym (append-nil done))
all_gathered {X} f done (e ∷ es) h fit =
    let each = both_fit (f.fits e.1) (list_all (entry_fits f.fits) es) fit in
    ap (λ (o : Option X). o >>= λ x. gather f.reads (pairs f.prints es) (insert_entry key_cmp done e.0 x))
    (f.read_back e.1 each.0)
    ∙ ap (gather f.reads (pairs f.prints es)) (insert_end done e.0 e.1 (under_of done e es h))
    ∙ all_gathered f (done ++ e ∷ []) es (ap is_sorted (append_assoc done (e ∷ []) es) ∙ h) each.1
    ∙ ap (λ (all : List (List ℕ × X)). Some all) (append_assoc done (e ∷ []) es)

-- ---- whole maps

-- the entries of a map that fits are read back
pub map_back : {X : Type 0} (f : Form X) (es : List (List ℕ × X)) →
    (is_sorted es && list_all (entry_fits f.fits) es) ≡ true →
    gather f.reads (put_all f.prints es no_members) [] ≡ Some es
map_back f es fit =
    let each = both_fit (is_sorted es) (list_all (entry_fits f.fits) es) fit in
    ap (λ (ms : Members). gather f.reads ms []) (all_put f.prints [] es each.0) ∙ all_gathered f [] es each.0 each.1

-- the members of a map nest no deeper than its values
pub map_shallow : {X : Type 0} (f : Form X) (es : List (List ℕ × X)) (ms : Members) → members_depth ms ≤ f.levels →
    members_depth (put_all f.prints es ms) ≤ f.levels
unfolding put_some
map_shallow f [] ms h = h
map_shallow f (e ∷ es) ms h =
    map_shallow f es (put e.0 (f.prints e.1) ms)
    (put_some-shallow f.levels e.0 (Some (f.prints e.1)) ms (f.shallow e.1) h)

-- a map with texts as keys: its entries in the keys' order
abbrev pub text_map : {X : Type 0} → Form X → Form (List (List ℕ × X))
text_map f = record {
  prints = λ es. object (put_all f.prints es no_members);
  reads = entries_at f.reads;
  fits = λ es. is_sorted es && list_all (entry_fits f.fits) es;
  levels = suc f.levels;
  read_back = map_back f;
  not_null = λ es. refl;
  shallow = λ es. suc-le-suc (map_shallow f es no_members zero-le);
}
