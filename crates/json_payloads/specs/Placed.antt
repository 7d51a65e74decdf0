-- What a member that was put changes.
use Rattle.std.specs.Prelude.{◌≡◌, ◌≤◌, ◌⊎◌, ℕ, List, [], ◌∷◌, Bool, true, false, Option, Some, None, bytes_eq}
use Rattle.std.specs.Prelude.{if◌then◌else◌}
use Rattle.std.proofs.Common.{Ordering, Less, Equal, Greater, nat_cmp, refl, sym, ap, ◌∙◌, true≢false, inl, inr}
use Rattle.std.proofs.Math.Nat.{max-le, le-max_left, le-max_right, le_trans}
use Rattle.std.proofs.lemmas.Slice.Eq.{bytes_eq-Decides}
use Rattle.std.specs.Cmp.Lexicographic.{slice_cmp}
use Rattle.std.specs.Ordering.{match_ordering}
use Rattle.serde_json.specs.Data.{Data, depth, members_depth, Members, no_members, member, put}
use Rattle.serde_json.specs.Find.{get_member}
use Rattle.serde_json.proofs.Views.{get_member-put, get_member-put_other}

-- the name is one of these
abbrev pub is_among : List ℕ → List (List ℕ) → Bool
is_among k [] = false
is_among k (n ∷ ns) = if bytes_eq k n then true else is_among k ns

-- each name stands once
abbrev pub distinct : List (List ℕ) → Bool
distinct [] = true
distinct (n ∷ ns) = if is_among n ns then false else distinct ns

-- none of the names has a member
abbrev pub Free : List (List ℕ) → Members → Type 0
Free ns ms = (k : List ℕ) → is_among k ns ≡ true → get_member k ms ≡ None

-- the members with this one, where there is one
unfoldable pub put_some : List ℕ → Option Data → Members → Members
put_some k None ms = ms
put_some k (Some d) ms = put k d ms

-- how deep it nests, where it is there
abbrev pub option_depth : Option Data → ℕ
option_depth None = 0
option_depth (Some d) = depth d

-- ---- names

-- names whose bytes differ are not the same
pub differs : (k n : List ℕ) → bytes_eq k n ≡ false → k ≡ n → ⊥
differs k n e same = true≢false (sym ((bytes_eq-Decides k n).1 same) ∙ e)

-- two names are the same or not, as the test of their bytes says
same_by : (k n : List ℕ) (b : Bool) → bytes_eq k n ≡ b → (k ≡ n) ⊎ (k ≡ n → ⊥)
same_by k n true e = inl ((bytes_eq-Decides k n).0 e)
same_by k n false e = inr (differs k n e)

-- two names are the same, or not
pub same_name : (k n : List ℕ) → (k ≡ n) ⊎ (k ≡ n → ⊥)
same_name k n = same_by k n (bytes_eq k n) refl

-- neither test passes, where one of the two would be enough
apart_by : (b : Bool) (t : Bool) → (if b then true else t) ≡ false → (b ≡ false) × (t ≡ false)
apart_by true t e = absurd (true≢false e)
apart_by false t e = (refl, e)

-- a name that is none of several is neither the first nor one of the others
pub not_among : (k n : List ℕ) (ns : List (List ℕ)) → is_among k (n ∷ ns) ≡ false →
    (bytes_eq k n ≡ false) × (is_among k ns ≡ false)
not_among k n ns e = apart_by (bytes_eq k n) (is_among k ns) e

-- the first test fails and the second passes, where both are wanted so
single_by : (b : Bool) (t : Bool) → (if b then false else t) ≡ true → (b ≡ false) × (t ≡ true)
single_by true t e = absurd (true≢false (sym e))
single_by false t e = (refl, e)

-- where each name stands once, the first is none of the others
pub of_distinct : (n : List ℕ) (ns : List (List ℕ)) → distinct (n ∷ ns) ≡ true →
    (is_among n ns ≡ false) × (distinct ns ≡ true)
of_distinct n ns e = single_by (is_among n ns) (distinct ns) e

-- what is enough alone is enough with another test
among_by : (b : Bool) (t : Bool) → t ≡ true → (if b then true else t) ≡ true
among_by true t e = refl
among_by false t e = e

-- a name that is one of the others is one of all
pub among_more : (k n : List ℕ) (ns : List (List ℕ)) → is_among k ns ≡ true → is_among k (n ∷ ns) ≡ true
among_more k n ns e = among_by (bytes_eq k n) (is_among k ns) e

-- the first name is one of all
pub among_first : (n : List ℕ) (ns : List (List ℕ)) → is_among n (n ∷ ns) ≡ true
among_first n ns = ap (λ (b : Bool). if b then true else is_among n ns) ((bytes_eq-Decides n n).1 refl)

-- ---- members

-- a member is found under the name that it was put under
pub put_some-here : (k : List ℕ) (o : Option Data) (ms : Members) → get_member k ms ≡ None →
    get_member k (put_some k o ms) ≡ o
unfolding put_some
put_some-here k None ms free = free
put_some-here k (Some d) ms free = get_member-put k d ms

-- members of other names stand as before
pub put_some-other : (q k : List ℕ) (o : Option Data) (ms : Members) → (q ≡ k → ⊥) →
    get_member q (put_some k o ms) ≡ get_member q ms
unfolding put_some
put_some-other q k None ms other = refl
put_some-other q k (Some d) ms other = get_member-put_other q k d ms other

-- a name of the others isn't the first one
pub other_name : (q n : List ℕ) (ns : List (List ℕ)) → is_among n ns ≡ false → is_among q ns ≡ true → q ≡ n → ⊥
other_name q n ns out within same = true≢false (sym within ∙ ap (λ (k : List ℕ). is_among k ns) same ∙ out)

-- a member of another name takes none of the free names
pub still_free : (n : List ℕ) (ns : List (List ℕ)) (o : Option Data) (ms : Members) → is_among n ns ≡ false →
    Free (n ∷ ns) ms → Free ns (put_some n o ms)
still_free n ns o ms out free k within =
    put_some-other k n o ms (other_name k n ns out within) ∙ free k (among_more k n ns within)

-- ---- how deep

-- one of three lists of members nests no deeper than the bound of all three
depth_chosen : (n : ℕ) (o : Ordering) (a b c : Members) → members_depth a ≤ n → members_depth b ≤ n →
    members_depth c ≤ n → members_depth (match_ordering o a b c) ≤ n
depth_chosen n Less a b c ha hb hc = ha
depth_chosen n Equal a b c ha hb hc = hb
depth_chosen n Greater a b c ha hb hc = hc

-- members with one more nest no deeper than the deepest of them
put_shallow : (n : ℕ) (k : List ℕ) (d : Data) (ms : Members) → depth d ≤ n → members_depth ms ≤ n →
    members_depth (put k d ms) ≤ n
put_shallow n k d no_members hd h = max-le hd h
put_shallow n k d (member l e ms) hd h =
    let first : depth e ≤ n = le_trans (le-max_left (depth e) (members_depth ms)) h in
    let rest : members_depth ms ≤ n = le_trans (le-max_right (depth e) (members_depth ms)) h in
    depth_chosen n (slice_cmp nat_cmp k l) (member k d (member l e ms)) (member l d ms) (member l e (put k d ms))
    (max-le hd h) (max-le hd rest) (max-le first (put_shallow n k d ms hd rest))

-- the same of a member that may be absent
pub put_some-shallow : (n : ℕ) (k : List ℕ) (o : Option Data) (ms : Members) → option_depth o ≤ n →
    members_depth ms ≤ n → members_depth (put_some k o ms) ≤ n
unfolding put_some
put_some-shallow n k None ms ho h = h
put_some-shallow n k (Some d) ms ho h = put_shallow n k d ms ho h
