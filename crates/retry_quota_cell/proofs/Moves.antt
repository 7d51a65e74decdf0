-- Each kind of step keeps the rule, from any state that meets it.
use Rattle.std.proofs.Common.{◌≡◌, ◌≢◌, inl, inr, ⊎_elim, ℕ, zero, suc, ◌+◌, ◌-◌, ◌<◌, Bool, true, false, if◌then◌else◌, nat_le, nat_eq, List, [], ◌∷◌, ◌++◌, length, set, slice_index, refl, sym, ap, ◌∙◌, subst, arith, length-append}
use mathlib.Core.Option.{some, some-injective, some-ne-none}
use mathlib.Core.List.{IsPrefix}
use lib.ListN.{get_elem?}
use lib.Pointwise.{pointwise, bytes_decides}
use Rattle.crossbeam_utils.specs.Register.{Turns, Forks, Merges}
use Rattle.atomic_table.proofs.Lists.{at_set, at_snoc, set_again}
use Rattle.retry_quota_cell.specs.View.{Opening, Fresh, Live, View}
use Rattle.retry_quota.specs.declared.state.BucketTerms.{BucketTerms}
use Rattle.retry_quota.specs.Book.{Book, IsSound, book_from, terms_in, state_in}
use Rattle.retry_quota.proofs.BookLemmas.{terms-end_of}
use Rattle.retry_quota.specs.History.{Step, Reply, Entry, after, reply_to, IsLegal, end_of}
use Rattle.retry_quota_cell.specs.Rule.{newcomer, spent, opened, told, longer, united, looked, entered, with_parts, entry, words_of, with_pool, book_in, terms_at, total, times, below, AreAll, AreBegun, Fits, Opened, Kept, Begins, Looks, Loaded, Adds, Made, PutsOut, TakesIn, Counted}
use Rattle.retry_quota_cell.specs.Known.{Since}
use Rattle.retry_quota_cell.proofs.Lists.{at_most, total_set, total_snoc, total_alone, times-append, below_next, below_none, prefix_self, prefix_trans, prefix_more, begun_more, begun_both, legal_more, end_more}

fresh_not_live : (v : View) → v.stage ≡ Live → v ≡ newcomer → ⊥
fresh_not_live v live e = let f : v.stage ≡ Fresh = ap (λ (u : View). u.stage) e in cc

-- a live pass is of an opened cell
pub opened_at : (by : ℕ) (v : View) (words : List ℕ) (views : List View) → v.stage ≡ Live → Kept words views → get_elem? views by ≡ some v → Opened words views
opened_at by v words views live (inr o) at = o
opened_at by v words views live (inl new) at = absurd (alone by (subst (λ l. get_elem? l by ≡ some v) new at))
  where
    alone : (by : ℕ) → get_elem? (newcomer ∷ []) by ≡ some v → ⊥
    alone zero e = fresh_not_live v live (sym (some-injective newcomer v e))
    alone (suc by) e = some-ne-none v (sym e)

-- each view fits after one has changed
pub each_set : (P : View → Type 0) (views : List View) (by : ℕ) (w : View) → ((j : ℕ) (u : View) → get_elem? views j ≡ some u → P u) → P w → (j : ℕ) (u : View) → get_elem? (set views by w) j ≡ some u → P u
each_set P views by w others mine j u e =
    ⊎_elim
    (λ (x : (j ≡ by) × (w ≡ u)). subst P x.1 mine)
    (λ (x : (j ≢ by) × (get_elem? views j ≡ some u)). others j u x.1)
    (at_set views by j w u e)

-- a change that leaves places and parts
pub same_totals : (f : View → ℕ) (views : List View) (by : ℕ) (v w : View) → get_elem? views by ≡ some v → f w ≡ f v → total f (set views by w) ≡ total f views
same_totals f views by v w at same = let t = total_set f views by v w at in omega arith

look : (by : ℕ) (v : View) (words : List ℕ) (views : List View) (o : Opened words views) → get_elem? views by ≡ some v → Opened words (set views by (looked v o.log))
look by v words views o at =
    let w = looked v o.log in
    let fits = o.each by v at in
    record {
      opening = o.opening;
      log = o.log;
      pool = o.pool;
      legal = o.legal;
      sound = o.sound;
      words_are = o.words_are;
      each = each_set (Fits o.opening o.log) views by w o.each (record { in_use = fits.in_use; opening = fits.opening; seen = prefix_self o.log; olds = fits.olds; idle = fits.idle });
      placed = λ n. same_totals (λ u. times n u.places) views by v w at refl ∙ o.placed n;
      shared = ap (λ (k : ℕ). o.pool + k) (same_totals (λ u. u.parts) views by v w at refl) ∙ o.shared;
    }

-- the pass with all parts has all places
whole : (by : ℕ) (v : View) (words : List ℕ) (views : List View) (o : Opened words views) → get_elem? views by ≡ some v → v.parts ≡ o.opening.callers → AreAll v.places o.log
whole by v words views o at all n =
    let s = o.shared in
    let alone : total (λ u. times n u.places) views ≡ times n v.places =
    total_alone (λ u. times n u.places) (λ u. u.parts) views by v at (λ j u there none. ap (times n) ((o.each j u there).idle none)) (omega arith) in
    sym alone ∙ o.placed n

pub looks : (by : ℕ) (v : View) (words : List ℕ) (views : List View) → v.stage ≡ Live → (o : Opened words views) → get_elem? views by ≡ some v → Looks v words (looked v o.log)
looks by v words views live o at =
    let fits = o.each by v at in
    let same : v.opening ≡ o.opening = fits.opening live in
    record {
      same = refl;
      grown = fits.seen;
      olds = fits.olds;
      legal = subst (λ (k : Opening). IsLegal k.book o.log) (sym same) o.legal;
      sound = subst (λ (k : Opening). IsSound (end_of k.book o.log)) (sym same) o.sound;
      words_are = (o.pool, subst (λ (k : Opening). words ≡ words_of (end_of k.book o.log) (length o.log) o.pool) (sym same) o.words_are);
      whole = λ all. whole by v words views o at (all ∙ ap (λ k. k.callers) same);
    }

pub loads : (by : ℕ) (v : View) → v.stage ≡ Live → Turns Kept by v (λ x. x) Loaded
loads by v live x views h at =
    let o = opened_at by v x views live h at in
    (looked v o.log, inr (look by v x views o at), looks by v x views live o at)

holds_if : {X : Type 0} → (P : X → Type 0) (t : Bool) (x y : X) → (t ≡ true → P x) → P y → P (if t then x else y)
holds_if P true x y first second = first refl
holds_if P false x y first second = second

add : (step : Step) (by : ℕ) (v : View) (x new : List ℕ) (views : List View) → v.stage ≡ Live → 0 < v.parts → (o : Opened x views) → get_elem? views by ≡ some v
    → IsSound (after step (book_in (terms_at v) x))
    → new ≡ words_of (after step (book_in (terms_at v) x)) (slice_index x 6 + 1) (slice_index x 7)
    → (w : View) × Opened new (set views by w) × Adds step v (reply_to step (book_in (terms_at v) x)) w
add step by v x new views live some_part o at sound new_is =
    let b = end_of o.opening.book o.log in
    let reply = reply_to step (book_in (terms_at v) x) in
    let e = entry step reply in
    let w = entered v (o.log ++ e ∷ []) (length o.log) in
    let fits = o.each by v at in
    let same : v.opening ≡ o.opening = fits.opening live in
    let terms : terms_at v ≡ terms_in b = ap (λ (k : Opening). terms_in k.book) same ∙ sym (terms-end_of o.log o.opening.book) in
    let book : book_in (terms_at v) x ≡ b = ap (book_in (terms_at v)) o.words_are ∙ ap (λ k. book_from k (state_in b)) terms in
    let reply_is : reply ≡ reply_to step b = ap (reply_to step) book in
    let count : slice_index x 6 ≡ length o.log = ap (λ l. slice_index l 6) o.words_are in
    let pool : slice_index x 7 ≡ o.pool = ap (λ l. slice_index l 7) o.words_are in
    let next : length (o.log ++ e ∷ []) ≡ length o.log + 1 = length-append o.log (e ∷ []) in
    let legal : IsLegal o.opening.book (o.log ++ e ∷ []) = legal_more o.opening.book o.log e o.legal reply_is in
    let after_is : end_of o.opening.book (o.log ++ e ∷ []) ≡ after step b = end_more o.opening.book o.log e in (
      w,
      record {
        opening = o.opening;
        log = o.log ++ e ∷ [];
        pool = o.pool;
        legal = legal;
        sound = subst IsSound (ap (after step) book ∙ sym after_is) sound;
        words_are = new_is ∙ words_same (ap (after step) book ∙ sym after_is) (ap (λ (k : ℕ). k + 1) count ∙ sym next) pool;
        each = each_set (Fits o.opening (o.log ++ e ∷ [])) views by w
            (λ j u there. let f = o.each j u there in record { in_use = f.in_use; opening = f.opening; seen = prefix_more u.seen o.log (e ∷ []) f.seen; olds = begun_more u.olds o.log (e ∷ []) f.olds; idle = f.idle })
            (record { in_use = fits.in_use; opening = fits.opening; seen = prefix_self (o.log ++ e ∷ []); olds = begun_more v.olds o.log (e ∷ []) fits.olds; idle = λ none. absurd (omega arith) });
        placed = λ n.
            let t = total_set (λ u. times n u.places) views by v w at in
            let a = times-append n v.places (length o.log ∷ []) in
            let p = o.placed n in
            let q = below_next n (length o.log) in
            let r : below n (length (o.log ++ e ∷ [])) ≡ below n (length o.log + 1) = ap (below n) next in
            omega arith;
        shared = ap (λ (k : ℕ). o.pool + k) (same_totals (λ u. u.parts) views by v w at refl) ∙ o.shared;
      },
      record {
        before = o.log;
        grown = fits.seen;
        olds = fits.olds;
        same = refl;
        reply_is = subst (λ (k : Opening). reply ≡ reply_to step (end_of k.book o.log)) (sym same) reply_is;
        legal = subst (λ (k : Opening). IsLegal k.book (o.log ++ e ∷ [])) (sym same) legal;
      },
    )
  where
    words_same : {b c : Book} {m n p q : ℕ} → b ≡ c → m ≡ n → p ≡ q → words_of b m p ≡ words_of c n q
    words_same b m p = λ i. words_of (b i) (m i) (p i)

pub makes : (step : Step) (by : ℕ) (v : View) (current new : List ℕ) → v.stage ≡ Live → 0 < v.parts
    → IsSound (after step (book_in (terms_at v) current))
    → new ≡ words_of (after step (book_in (terms_at v) current)) (slice_index current 6 + 1) (slice_index current 7)
    → Turns Kept by v (λ x. if pointwise nat_eq x current then new else x) (Made step)
makes step by v current new live some_part sound new_is x views h at = go (pointwise nat_eq x current) refl
  where
    o : Opened x views
    o = opened_at by v x views live h at

    go : (b : Bool) → pointwise nat_eq x current ≡ b → (w : View) × Kept (if b then new else x) (set views by w) × Made step v x (if b then new else x) w
    go true e =
        let found : x ≡ current = (bytes_decides x current).0 e in
        let did = add step by v x new views live some_part o at (subst (λ l. IsSound (after step (book_in (terms_at v) l))) (sym found) sound)
        (new_is ∙ ap (λ l. words_of (after step (book_in (terms_at v) l)) (slice_index l 6 + 1) (slice_index l 7)) (sym found)) in
        let one_more : slice_index new 6 ≡ slice_index x 6 + 1 = ap (λ l. slice_index l 6) new_is ∙ ap (λ l. slice_index l 6 + 1) (sym found) in
        (did.0, inr did.1, inr (one_more, did.2))
    go false e = (looked v o.log, inr (look by v x views o at), inl (refl, looks by v x views live o at))

-- the pass of a new cell opens it
pub opens : (by : ℕ) (v : View) (o : Opening) (new : List ℕ) → v ≡ newcomer → IsSound o.book → new ≡ words_of o.book 0 0 → Turns Kept by v (λ x. new) (Begins o)
opens by v o new fresh sound new_is x views (inr k) at = absurd ((k.each by v at).in_use (ap (λ (u : View). u.stage) fresh))
opens by v o new fresh sound new_is x views (inl alone) at =
    let w = opened o in
    let one : set views by w ≡ w ∷ [] = only by (subst (λ l. get_elem? l by ≡ some v) alone at) ∙ refl in
    (w, inr (subst (Opened new) (sym one) first), refl)
  where
    only : (by : ℕ) → get_elem? (newcomer ∷ []) by ≡ some v → set views by (opened o) ≡ opened o ∷ []
    only zero e = ap (λ l. set l 0 (opened o)) alone
    only (suc by) e = absurd (some-ne-none v (sym e))

    mine : Fits o [] (opened o)
    mine = record { in_use = (λ e. absurd (cc)); opening = (λ _. refl); seen = prefix_self []; olds = tt; idle = (λ _. refl) }

    first : Opened new (opened o ∷ [])
    first = record {
      opening = o;
      log = [];
      pool = 0;
      legal = tt;
      sound = sound;
      words_are = new_is;
      each = one_view;
      placed = λ n. sym (below_none n);
      shared = omega arith;
    }
      where
        one_view : (by : ℕ) (u : View) → get_elem? (opened o ∷ []) by ≡ some u → Fits o [] u
        one_view zero u e = subst (Fits o []) (some-injective (opened o) u e) mine
        one_view (suc by) u e = absurd (some-ne-none u (sym e))

-- a part goes from a view to the pool, or from the pool to a view
move_part : (by : ℕ) (v : View) (n m : ℕ) (x new : List ℕ) (views : List View) (o : Opened x views) → get_elem? views by ≡ some v → 0 < n → n + m ≡ v.parts + o.pool
    → new ≡ with_pool x m → Opened new (set views by (with_parts v n))
move_part by v n m x new views o at some_part moved new_is =
    let w = with_parts v n in
    let b = end_of o.opening.book o.log in
    let fits = o.each by v at in
    let is : with_pool x m ≡ words_of b (length o.log) m = ap (λ l. with_pool l m) o.words_are in
    record {
      opening = o.opening;
      log = o.log;
      pool = m;
      legal = o.legal;
      sound = o.sound;
      words_are = new_is ∙ is;
      each = each_set (Fits o.opening o.log) views by w o.each (record { in_use = fits.in_use; opening = fits.opening; seen = fits.seen; olds = fits.olds; idle = λ none. absurd (omega arith) });
      placed = λ k. same_totals (λ u. times k u.places) views by v w at refl ∙ o.placed k;
      shared = let t = total_set (λ u. u.parts) views by v w at in let s = o.shared in omega arith;
    }

-- nothing is written, and nothing is learnt
stays : (by : ℕ) (v : View) (x : List ℕ) (views : List View) → Kept x views → get_elem? views by ≡ some v → Kept x (set views by v)
stays by v x views h at = subst (Kept x) (sym (set_again views by v at)) h

pub puts_out : (by : ℕ) (v : View) (current new : List ℕ) → v.stage ≡ Live → 1 < v.parts
    → new ≡ with_pool current (slice_index current 7 + 1)
    → Turns Kept by v (λ x. if pointwise nat_eq x current then new else x) PutsOut
puts_out by v current new live some_parts new_is x views h at = go (pointwise nat_eq x current) refl
  where
    o : Opened x views
    o = opened_at by v x views live h at

    go : (b : Bool) → pointwise nat_eq x current ≡ b → (w : View) × Kept (if b then new else x) (set views by w) × PutsOut v x (if b then new else x) w
    go true e =
        let found : x ≡ current = (bytes_decides x current).0 e in
        let pool : slice_index x 7 ≡ o.pool = ap (λ l. slice_index l 7) o.words_are in
        let is : new ≡ with_pool x (slice_index x 7 + 1) = new_is ∙ ap (λ l. with_pool l (slice_index l 7 + 1)) (sym found) in
        (with_parts v (v.parts - 1), inr (move_part by v (v.parts - 1) (slice_index x 7 + 1) x new views o at (omega arith) (omega arith) is), inr (ap (λ l. slice_index l 7) is, refl))
    go false e = (v, stays by v x views h at, inl (refl, refl))

pub takes_in : (by : ℕ) (v : View) (current new : List ℕ) → v.stage ≡ Live → 0 < slice_index current 7
    → new ≡ with_pool current (slice_index current 7 - 1)
    → Turns Kept by v (λ x. if pointwise nat_eq x current then new else x) TakesIn
takes_in by v current new live some_part new_is x views h at = go (pointwise nat_eq x current) refl
  where
    o : Opened x views
    o = opened_at by v x views live h at

    go : (b : Bool) → pointwise nat_eq x current ≡ b → (w : View) × Kept (if b then new else x) (set views by w) × TakesIn v x (if b then new else x) w
    go true e =
        let found : x ≡ current = (bytes_decides x current).0 e in
        let pool : slice_index x 7 ≡ o.pool = ap (λ l. slice_index l 7) o.words_are in
        let same : slice_index x 7 ≡ slice_index current 7 = ap (λ l. slice_index l 7) found in
        let is : new ≡ with_pool x (slice_index x 7 - 1) = new_is ∙ ap (λ l. with_pool l (slice_index l 7 - 1)) (sym found) in
        (with_parts v (v.parts + 1), inr (move_part by v (v.parts + 1) (slice_index x 7 - 1) x new views o at (omega arith) (omega arith) is), inr ((let less : slice_index new 7 ≡ slice_index x 7 - 1 = ap (λ l. slice_index l 7) is in omega arith), refl))
    go false e = (v, stays by v x views h at, inl (refl, refl))

-- one more view, with no place and no part
add_view : (x : List ℕ) (views : List View) (o : Opened x views) (w : View) → Fits o.opening o.log w → w.places ≡ [] → w.parts ≡ 0 → Opened x (views ++ w ∷ [])
add_view x views o w fits no_place no_part = record {
  opening = o.opening;
  log = o.log;
  pool = o.pool;
  legal = o.legal;
  sound = o.sound;
  words_are = o.words_are;
  each = λ j u e. ⊎_elim (λ was. o.each j u was) (λ (same : w ≡ u). subst (Fits o.opening o.log) same fits) (at_snoc views w u j e);
  placed = λ n. let t = total_snoc (λ u. times n u.places) views w in let none : times n w.places ≡ 0 = ap (times n) no_place in let p = o.placed n in omega arith;
  shared = let t = total_snoc (λ u. u.parts) views w in let s = o.shared in omega arith;
}

pub tells : (by : ℕ) (v : View) → v.stage ≡ Live → Forks Kept by v v (told v)
tells by v live x views h at =
    let o = opened_at by v x views live h at in
    let fits = o.each by v at in
    let more = add_view x views o (told v) (record { in_use = fits.in_use; opening = fits.opening; seen = fits.seen; olds = tt; idle = λ _. refl }) refl refl in
    inr (subst (λ l. Opened x (l ++ told v ∷ [])) (sym (set_again views by v at)) more)

spent_fits : (o : Opening) (log : List Entry) → Fits o log spent
spent_fits o log = record { in_use = (λ e. absurd (cc)); opening = (λ e. absurd (cc)); seen = (log, refl); olds = tt; idle = λ _. refl }

-- a view goes over to a new pass whole
pub hands_over : (by : ℕ) (v : View) → v.stage ≡ Live → Forks Kept by v spent v
hands_over by v live x views h at =
    let o = opened_at by v x views live h at in
    let fits = o.each by v at in
    let rest = set views by spent in
    inr (record {
      opening = o.opening;
      log = o.log;
      pool = o.pool;
      legal = o.legal;
      sound = o.sound;
      words_are = o.words_are;
      each = λ j u e. ⊎_elim (each_set (Fits o.opening o.log) views by spent o.each (spent_fits o.opening o.log) j u) (λ (same : v ≡ u). subst (Fits o.opening o.log) same fits) (at_snoc rest v u j e);
      placed = λ n.
          let s = total_set (λ u. times n u.places) views by v spent at in
          let t = total_snoc (λ u. times n u.places) rest v in
          let p = o.placed n in
          omega arith;
      shared =
          let s = total_set (λ u. u.parts) views by v spent at in
          let t = total_snoc (λ u. u.parts) rest v in
          let p = o.shared in
          omega arith;
    })

longer_begins : (xs ys log : List Entry) → IsPrefix xs log → IsPrefix ys log → IsPrefix (longer xs ys) log
longer_begins xs ys log p q = holds_if (λ l. IsPrefix l log) (nat_le (length ys) (length xs)) xs ys (λ _. p) q

none_added : (xs ys : List ℕ) → xs ≡ [] → ys ≡ [] → xs ++ ys ≡ []
none_added xs ys e f = λ i. e i ++ f i

pub unites : (by : ℕ) (v : View) (other : ℕ) (u : View) → v.stage ≡ Live → Merges Kept by v other u (united v u) spent
unites by v other u live x views h at apart there =
    let o = opened_at by v x views live h at in
    let w = united v u in
    let mine = o.each by v at in
    let was : get_elem? views other ≡ some u =
    ⊎_elim (λ (t : (other ≡ by) × (w ≡ u)). absurd (apart t.0)) (λ (t : (other ≢ by) × (get_elem? views other ≡ some u)). t.1) (at_set views by other w u there) in
    let theirs = o.each other u was in
    let first = set views by w in
    inr (record {
      opening = o.opening;
      log = o.log;
      pool = o.pool;
      legal = o.legal;
      sound = o.sound;
      words_are = o.words_are;
      each = each_set (Fits o.opening o.log) first other spent
          (each_set (Fits o.opening o.log) views by w o.each
          (record {
            in_use = mine.in_use;
            opening = mine.opening;
            seen = longer_begins v.seen u.seen o.log mine.seen theirs.seen;
            olds = (mine.seen, (theirs.seen, begun_both o.log v.olds u.olds mine.olds theirs.olds));
            idle = λ none. none_added v.places u.places (mine.idle (omega arith)) (theirs.idle (omega arith));
          }))
          (spent_fits o.opening o.log);
      placed = λ n.
          let s = total_set (λ k. times n k.places) views by v w at in
          let t = total_set (λ k. times n k.places) first other u spent there in
          let a = times-append n v.places u.places in
          let p = o.placed n in
          omega arith;
      shared =
          let s = total_set (λ k. k.parts) views by v w at in
          let t = total_set (λ k. k.parts) first other u spent there in
          let p = o.shared in
          omega arith;
    })

pub begins : (words : List ℕ) → Kept words (newcomer ∷ [])
begins words = inl refl

pub counts : (by : ℕ) (v : View) → v.stage ≡ Live → Turns Kept by v (λ x. x) Counted
counts by v live x views h at =
    let o = opened_at by v x views live h at in
    let most = at_most (λ u. u.parts) views by v at in
    let s = o.shared in
    let same : v.opening.callers ≡ o.opening.callers = ap (λ (k : Opening). k.callers) ((o.each by v at).opening live) in
    (v, stays by v x views h at, (refl, omega arith))

pub since_looks : (v : View) (words : List ℕ) (w : View) → Looks v words w → Since v w
since_looks v words w s = (s.same, s.grown)

pub since_self : (v : View) → Since v v
since_self v = (refl, prefix_self v.seen)

pub since_trans : (v w u : View) → Since v w → Since w u → Since v u
since_trans v w u s t = (t.0 ∙ ap (λ (k : View). looked k u.seen) s.0, prefix_trans v.seen w.seen u.seen s.1 t.1)

-- a call of a pass that has seen more since is a call after all that it had seen
pub adds_since : (step : Step) (v w : View) (reply : Reply) (u : View) → Since v w → Adds step w reply u → Adds step v reply u
adds_since step v w reply u s a =
    let opening : w.opening ≡ v.opening = ap (λ (k : View). k.opening) s.0 in
    record {
      before = a.before;
      grown = prefix_trans v.seen w.seen a.before s.1 a.grown;
      olds = subst (λ l. AreBegun l a.before) (ap (λ (k : View). k.olds) s.0) a.olds;
      same = a.same ∙ ap (λ (k : View). entered k (a.before ++ entry step reply ∷ []) (length a.before)) s.0;
      reply_is = subst (λ (o : Opening). reply ≡ reply_to step (end_of o.book a.before)) opening a.reply_is;
      legal = subst (λ (o : Opening). IsLegal o.book (a.before ++ entry step reply ∷ [])) opening a.legal;
    }

-- where the exchange was made, the call was
pub made_new : (step : Step) (v : View) (found x new : List ℕ) (w : View) → pointwise nat_eq x found ≡ true → slice_index new 6 ≡ slice_index found 6 + 1 → Made step v x new w → Adds step v (reply_to step (book_in (terms_at v) found)) w
made_new step v found x new w e more (inr a) = subst (λ l. Adds step v (reply_to step (book_in (terms_at v) l)) w) ((bytes_decides x found).0 e) a.1
made_new step v found x new w e more (inl s) =
    let same : slice_index x 6 ≡ slice_index found 6 = ap (λ l. slice_index l 6) ((bytes_decides x found).0 e) in
    let kept : slice_index new 6 ≡ slice_index x 6 = ap (λ l. slice_index l 6) s.0 in
    absurd (omega arith)

-- where it was not, the pass has seen more
pub made_none : (step : Step) (v : View) (x : List ℕ) (w : View) → Made step v x x w → Since v w
made_none step v x w (inl s) = since_looks v x w s.1
made_none step v x w (inr a) = let more = a.0 in absurd (omega arith)

pub put_new : (v : View) (found x new : List ℕ) (w : View) → pointwise nat_eq x found ≡ true → slice_index new 7 ≡ slice_index found 7 + 1 → PutsOut v x new w → w ≡ with_parts v (v.parts - 1)
put_new v found x new w e more (inr a) = a.1
put_new v found x new w e more (inl s) =
    let same : slice_index x 7 ≡ slice_index found 7 = ap (λ l. slice_index l 7) ((bytes_decides x found).0 e) in
    let kept : slice_index new 7 ≡ slice_index x 7 = ap (λ l. slice_index l 7) s.0 in
    absurd (omega arith)

pub put_none : (v : View) (x : List ℕ) (w : View) → PutsOut v x x w → w ≡ v
put_none v x w (inl s) = s.1
put_none v x w (inr a) = let more = a.0 in absurd (omega arith)

pub took_new : (v : View) (found x new : List ℕ) (w : View) → pointwise nat_eq x found ≡ true → slice_index new 7 + 1 ≡ slice_index found 7 → TakesIn v x new w → w ≡ with_parts v (v.parts + 1)
took_new v found x new w e more (inr a) = a.1
took_new v found x new w e more (inl s) =
    let same : slice_index x 7 ≡ slice_index found 7 = ap (λ l. slice_index l 7) ((bytes_decides x found).0 e) in
    let kept : slice_index new 7 ≡ slice_index x 7 = ap (λ l. slice_index l 7) s.0 in
    absurd (omega arith)

pub took_none : (v : View) (x : List ℕ) (w : View) → TakesIn v x x w → w ≡ v
took_none v x w (inl s) = s.1
took_none v x w (inr a) = let more = a.0 in absurd (omega arith)

-- the words that a load found make a sound book
pub found_sound : (v w : View) (terms : BucketTerms) (words : List ℕ) → Looks v words w → terms ≡ terms_at v → IsSound (book_in terms words)
found_sound v w terms words s same =
    let b = end_of v.opening.book w.seen in
    let is : book_in terms words ≡ b = ap (book_in terms) s.words_are.1 ∙ ap (λ k. book_from k (state_in b)) (same ∙ sym (terms-end_of w.seen v.opening.book)) in
    subst IsSound (sym is) s.sound
