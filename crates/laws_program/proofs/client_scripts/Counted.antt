-- Objects of as many members as are read have no float where each of these is plain.
use Rattle.std.proofs.Common.{◌≡◌, ℕ, suc, List, [], ◌∷◌, length, Bool, true, false, not, ◌&&◌, Option, Some, None, Ordering, Less, Equal, Greater, refl, sym, ap, subst, ◌∙◌, ◌||◌, arith, true≢false}
use Rattle.std.proofs.lemmas.Bool.{and_parts, not-true, or_from, or_parts}
use Rattle.std.proofs.lemmas.Map.Text.{is_eq-slice_cmp}
use Rattle.std.proofs.lemmas.Slice.Eq.{bytes_eq-Decides}
use Rattle.std.specs.Cmp.Lexicographic.{slice_cmp}
use Rattle.std.specs.List.{list_all}
use Rattle.std.specs.Ordering.{nat_cmp, is_eq, match_ordering}
use Rattle.serde_json.specs.Data.{Data, object, Members, no_members, member}
use Rattle.serde_json.specs.Find.{get_member}
use Rattle.serde_json.specs.Written.{has_float, members_have_float}
use Rattle.json_forms.specs.Forms.{member_count}
use Rattle.json_forms.specs.Reading.{◌>>=◌}
use Rattle.json_values.proofs.SpelledForms.{Holds, weaker}
use Rattle.laws_program.proofs.scripts.PlainForms.{Plain, Refuses}
use Rattle.laws_program.proofs.scripts.PlainMembers.{none_some, some_same}

-- something stands at this name, and it is plain
abbrev pub IsFound : List ℕ → Members → Type 0
IsFound k ms = (e : Data) × (get_member k ms ≡ Some e) × Plain e

abbrev pub AreFound : List (List ℕ) → Members → Type 0
AreFound [] ms = Unit {0}
AreFound (k ∷ ks) ms = IsFound k ms × AreFound ks ms

-- the members without the first of this name
abbrev without : List ℕ → Members → Members
without k no_members = no_members
without k (member l d ms) = match_ordering (slice_cmp nat_cmp k l) (member l d (without k ms)) ms (member l d (without k ms))

abbrev apart : List ℕ → List ℕ → Bool
apart k l = not (is_eq (slice_cmp nat_cmp l k))

-- no name stands among those behind it
abbrev pub are_distinct : List (List ℕ) → Bool
are_distinct [] = true
are_distinct (k ∷ ks) = list_all (apart k) ks && are_distinct ks

-- ---- one member

one_fewer_by : (o : Ordering) (k l : List ℕ) (d e : Data) (ms : Members) → match_ordering o (get_member k ms) (Some d) (get_member k ms) ≡ Some e → (get_member k ms ≡ Some e → member_count ms ≡ suc (member_count (without k ms))) →
    suc (member_count ms) ≡ suc (member_count (match_ordering o (member l d (without k ms)) ms (member l d (without k ms))))
one_fewer_by Less k l d e ms h later = ap suc (later h)
one_fewer_by Equal k l d e ms h later = refl
one_fewer_by Greater k l d e ms h later = ap suc (later h)

-- one is taken away
one_fewer : (k : List ℕ) (ms : Members) (e : Data) → get_member k ms ≡ Some e → member_count ms ≡ suc (member_count (without k ms))
one_fewer k no_members e h = absurd (none_some None e refl h)
one_fewer k (member l d ms) e h = one_fewer_by (slice_cmp nat_cmp k l) k l d e ms h (one_fewer k ms e)

no_float_by : (o : Ordering) (k l : List ℕ) (d e : Data) (ms : Members) → match_ordering o (get_member k ms) (Some d) (get_member k ms) ≡ Some e → Plain e →
    members_have_float (match_ordering o (member l d (without k ms)) ms (member l d (without k ms))) ≡ false → (get_member k ms ≡ Some e → members_have_float (without k ms) ≡ false → members_have_float ms ≡ false) →
    has_float d || members_have_float ms ≡ false
no_float_by Less k l d e ms h plain rest later = let p = or_parts (has_float d) (members_have_float (without k ms)) rest in or_from (has_float d) (members_have_float ms) p.0 (later h p.1)
no_float_by Equal k l d e ms h plain rest later = or_from (has_float d) (members_have_float ms) (subst Plain (sym (some_same d e h)) plain) rest
no_float_by Greater k l d e ms h plain rest later = let p = or_parts (has_float d) (members_have_float (without k ms)) rest in or_from (has_float d) (members_have_float ms) p.0 (later h p.1)

-- it was plain, and so are the others
no_float : (k : List ℕ) (ms : Members) (e : Data) → get_member k ms ≡ Some e → Plain e → members_have_float (without k ms) ≡ false → members_have_float ms ≡ false
no_float k no_members e h plain rest = refl
no_float k (member l d ms) e h plain rest = no_float_by (slice_cmp nat_cmp k l) k l d e ms h plain rest (λ g. no_float k ms e g plain)

past_other : (o : Ordering) (x y : Option Data) → is_eq o ≡ false → x ≡ match_ordering o x y x
past_other Less x y h = refl
past_other Equal x y h = absurd (true≢false h)
past_other Greater x y h = refl

still_found_by : (o : Ordering) (k l n : List ℕ) (d : Data) (ms : Members) → slice_cmp nat_cmp k l ≡ o → is_eq (slice_cmp nat_cmp n k) ≡ false → get_member n (without k ms) ≡ get_member n ms →
    get_member n (match_ordering o (member l d (without k ms)) ms (member l d (without k ms))) ≡ get_member n (member l d ms)
still_found_by Less k l n d ms is other later = ap (λ r. match_ordering (slice_cmp nat_cmp n l) r (Some d) r) later
still_found_by Equal k l n d ms is other later =
    let same : k ≡ l = (bytes_eq-Decides k l).0 (sym (is_eq-slice_cmp k l) ∙ ap is_eq is) in
    past_other (slice_cmp nat_cmp n l) (get_member n ms) (Some d) (subst (λ m. is_eq (slice_cmp nat_cmp n m) ≡ false) same other)
still_found_by Greater k l n d ms is other later = ap (λ r. match_ordering (slice_cmp nat_cmp n l) r (Some d) r) later

-- another name is found as before
still_found : (k n : List ℕ) (ms : Members) → is_eq (slice_cmp nat_cmp n k) ≡ false → get_member n (without k ms) ≡ get_member n ms
still_found k n no_members other = refl
still_found k n (member l d ms) other = still_found_by (slice_cmp nat_cmp k l) k l n d ms refl other (still_found k n ms other)

others_found : (k : List ℕ) (ks : List (List ℕ)) (ms : Members) → list_all (apart k) ks ≡ true → AreFound ks ms → AreFound ks (without k ms)
others_found k [] ms h found = tt
others_found k (n ∷ ks) ms h found =
    let p = and_parts (apart k n) (list_all (apart k) ks) h in
    let here = found.0 in
    ((here.0, still_found k n ms (not-true (is_eq (slice_cmp nat_cmp n k)) p.0) ∙ here.1, here.2), others_found k ks ms p.1 found.1)

-- ---- all members

none_left : (ms : Members) → member_count ms ≡ 0 → members_have_float ms ≡ false
none_left no_members h = refl
none_left (member k d ms) h = absurd (omega (arith, h))

pub all_counted : (ks : List (List ℕ)) (ms : Members) → are_distinct ks ≡ true → AreFound ks ms → member_count ms ≡ length ks → Plain (object ms)
all_counted [] ms h found count = none_left ms count
all_counted (k ∷ ks) ms h found count =
    let p = and_parts (list_all (apart k) ks) (are_distinct ks) h in
    let here = found.0 in
    let fewer = one_fewer k ms here.0 here.1 in
    no_float k ms here.0 here.1 here.2 (all_counted ks (without k ms) p.1 (others_found k ks ms p.0 found.1) (omega (arith, fewer, count)))

-- ---- a member that is read

-- where something is read of it
pub member_found : {X : Type 0} (f : Data → Option X) → Refuses f → (k : List ℕ) (ms : Members) → Holds (λ (x : X). IsFound k ms) (get_member k ms >>= f)
unfolding Holds
member_found {X} f h k ms = by_found (get_member k ms)
  where
    by_found : (o : Option Data) → Holds (λ (x : X). (e : Data) × (o ≡ Some e) × Plain e) (o >>= f)
    by_found None = tt
    by_found (Some d) = weaker (λ (x : X). Plain d) (λ (x : X). (e : Data) × (Some d ≡ Some e) × Plain e) (f d) (h d) (λ x p. (d, refl, p))
