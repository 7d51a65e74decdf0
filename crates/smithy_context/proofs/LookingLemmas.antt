-- What a key holds after a put, a merge and a push.
use Rattle.std.proofs.Common.{arith, Bool, true, false, cond, not, ℕ, suc, ◌+◌, Option, Some, None, is_none, List, [], ◌∷◌, length, ◌≡◌, refl, sym, ap, ◌∙◌, subst, nat_lt, slice_set, get_or, map}
use Rattle.std.specs.List.{position_or_len}
use Rattle.std.proofs.lemmas.Bool.{ltb_from_iff, ltb-true, lt-ltb}
use Rattle.std.specs.Cmp.Lexicographic.{same_text}
use Rattle.smithy_context.specs.contracts.setting.SettingKeyEq.TheImpl.Laws.{laws-law}
use Rattle.smithy_context.specs.declared.layer.LayerEntry.{LayerEntry}
use Rattle.smithy_context.specs.declared.setting.SettingKey.{SettingKey}
use Rattle.smithy_context.specs.declared.setting.SettingKey.TheVariants as keys
use Rattle.smithy_context.specs.Setting.{key_table, same_key}
use Rattle.smithy_context.specs.Layer.{entry_at, is_at, keys_once, placed, put_entry, merged}
use Rattle.smithy_context.specs.Settings.{or_else, last_entry}
use Rattle.smithy_context.specs.Looking.{PutsOne, KeepsKeysOnce, MergesOver, MergedComesFirst, PushedComesSecond, value_in}
use Rattle.smithy_context.proofs.SettingsLemmas.{or_else-assoc, last_entry-append}

-- the key at a place of the table, and behind the last one the caller's own key of this name
abbrev key_at : ℕ → List ℕ → SettingKey
key_at n own = get_or (map (λ (row : SettingKey × List ℕ). row.0) key_table) n (keys.User own)

-- what the caller named a key
abbrev own_name : SettingKey → List ℕ
own_name (keys.User name) = name
own_name _ = []

abbrev row_place : SettingKey → ℕ
row_place k = position_or_len (λ (row : SettingKey × List ℕ). same_key row.0 k) key_table

-- a key is known by its place and by what the caller named it
at_its_place : (k : SettingKey) → key_at (row_place k) (own_name k) ≡ k
at_its_place (keys.User name) = refl
at_its_place _ = refl

same_row : (a b : SettingKey) → same_key a b ≡ true → (row : SettingKey × List ℕ) → same_key row.0 a ≡ same_key row.0 b
same_row a b h row = laws-law.symm row.0 a ∙ laws-law.congr a b row.0 h ∙ laws-law.symm b row.0

same_place : (a b : SettingKey) → same_key a b ≡ true → row_place a ≡ row_place b
same_place a b h = λ i. position_or_len (λ (row : SettingKey × List ℕ). same_row a b h row i) key_table

same_own : (a b : SettingKey) → same_key a b ≡ true → own_name a ≡ own_name b
same_own (keys.User a) (keys.User b) h = same_text a b (sym h)
same_own (keys.User a) _ h = absurd (cc)
same_own _ (keys.User b) h = absurd (cc)
same_own _ _ h = refl

-- keys that are one are equal, and a key is one with itself
pub same_is : (a b : SettingKey) → same_key a b ≡ true → a ≡ b
same_is a b h =
    sym (at_its_place a) ∙ ap (λ (n : ℕ). key_at n (own_name a)) (same_place a b h)
    ∙ ap (λ (own : List ℕ). key_at (row_place b) own) (same_own a b h) ∙ at_its_place b

pub same_self : (a : SettingKey) → same_key a a ≡ true
same_self a = laws-law.refl a

-- keys that are not one aren't, in either order
other_back : (a b : SettingKey) → same_key a b ≡ false → same_key b a ≡ false
other_back a b h = not_both (same_key b a) (λ e. sym h ∙ ap (λ k. same_key a k) (same_is b a e) ∙ same_self a)
  where
    not_both : (t : Bool) → (t ≡ true → false ≡ true) → t ≡ false
    not_both true f = absurd (false_true (f refl))
      where
        false_true : false ≡ true → ⊥
        false_true e = absurd (cc)
    not_both false f = refl

-- a put by recursion
put_in : List LayerEntry → LayerEntry → List LayerEntry
put_in [] e = e ∷ []
put_in (x ∷ l) e = cond (same_key x.key e.key) (e ∷ l) (x ∷ put_in l e)

put_at : ℕ → List LayerEntry → LayerEntry → List LayerEntry
put_at n l e = placed (cond (nat_lt n (length l)) (Some n) None) l e

put_at_is : (l : List LayerEntry) (e : LayerEntry) → put_at (position_or_len (is_at e.key) l) l e ≡ put_in l e
unfolding put_at put_in
put_at_is [] e = refl
put_at_is (x ∷ l) e =
    one_more (same_key x.key e.key) (position_or_len (is_at e.key) l) ∙ ap (λ m. cond (same_key x.key e.key) (e ∷ l) (x ∷ m)) (put_at_is l e)
  where
    shifted : (c : Bool) (n : ℕ) → placed (cond c (Some (1 + n)) None) (x ∷ l) e ≡ x ∷ placed (cond c (Some n) None) l e
    shifted true n = let h : 1 + n ≡ suc n = omega arith in subst (λ m. slice_set (x ∷ l) m e ≡ x ∷ slice_set l n e) (sym h) refl
    shifted false n = refl

    lt_more : (n : ℕ) → nat_lt (1 + n) (length (x ∷ l)) ≡ nat_lt n (length l)
    lt_more n =
        let q : length (x ∷ l) ≡ length l + 1 = omega arith in
        ltb_from_iff ((λ h. let p = ltb-true (1 + n) (length (x ∷ l)) h in omega (arith, p, q)), λ h. lt-ltb (1 + n) (length (x ∷ l)) (omega (arith, h, q)))

    one_more : (b : Bool) (n : ℕ) → put_at (cond (not b) (1 + n) 0) (x ∷ l) e ≡ cond b (e ∷ l) (x ∷ put_at n l e)
    one_more true n = ap (λ b. placed (cond b (Some 0) None) (x ∷ l) e) (lt-ltb 0 (length (x ∷ l)) (omega arith))
    one_more false n = ap (λ b. placed (cond b (Some (1 + n)) None) (x ∷ l) e) (lt_more n) ∙ shifted (nat_lt n (length l)) n

put_is : (l : List LayerEntry) (e : LayerEntry) → put_entry l e ≡ put_in l e
unfolding put_at
put_is l e = put_at_is l e

-- two equal tests, and two tests that are not both true
twice : {A : Type 0} (t : Bool) (a b c : A) → cond t a b ≡ cond t a (cond t c b)
twice true a b c = refl
twice false a b c = refl

swapped : {A : Type 0} (s t : Bool) (a b c : A) → (s ≡ true → t ≡ true → ⊥) → cond s a (cond t b c) ≡ cond t b (cond s a c)
swapped true true a b c n = absurd (n refl refl)
swapped true false a b c n = refl
swapped false true a b c n = refl
swapped false false a b c n = refl

not_same : (a b k : SettingKey) → same_key a b ≡ false → same_key a k ≡ true → same_key b k ≡ true → ⊥
not_same a b k h p q = false_true (sym h ∙ ap (λ x. same_key x b) (same_is a k p) ∙ ap (λ x. same_key x b) (sym (same_is b k q)) ∙ same_self b)
  where
    false_true : false ≡ true → ⊥
    false_true e = absurd (cc)

put_in_one : (l : List LayerEntry) (e : LayerEntry) (k : SettingKey) → entry_at (put_in l e) k ≡ cond (same_key e.key k) (Some e) (entry_at l k)
unfolding put_in
put_in_one [] e k = refl
put_in_one (x ∷ l) e k = more (put_in_one l e k) (same_key x.key e.key) refl
  where
    more : entry_at (put_in l e) k ≡ cond (same_key e.key k) (Some e) (entry_at l k) → (b : Bool) → same_key x.key e.key ≡ b → entry_at (cond b (e ∷ l) (x ∷ put_in l e)) k ≡ cond (same_key e.key k) (Some e) (entry_at (x ∷ l) k)
    more ih true h =
        twice (same_key e.key k) (Some e) (entry_at l k) (Some x)
        ∙ ap (λ y. cond (same_key e.key k) (Some e) (cond (same_key y k) (Some x) (entry_at l k))) (sym (same_is x.key e.key h))
    more ih false h =
        ap (λ o. cond (same_key x.key k) (Some x) o) ih
        ∙ swapped (same_key x.key k) (same_key e.key k) (Some x) (Some e) (entry_at l k) (not_same x.key e.key k h)

pub puts_one : PutsOne
puts_one l e k = ap (λ m. entry_at m k) (put_is l e) ∙ put_in_one l e k

both : (s t : Bool) → cond s t false ≡ true → (s ≡ true) × (t ≡ true)
both true t h = (refl, h)
both false t h = absurd (cc)

put_in_once : (l : List LayerEntry) (e : LayerEntry) → keys_once l ≡ true → keys_once (put_in l e) ≡ true
unfolding put_in
put_in_once [] e h = refl
put_in_once (x ∷ l) e p = more (λ h. put_in_once l e h) (same_key x.key e.key) refl
  where
    more : (keys_once l ≡ true → keys_once (put_in l e) ≡ true) → (b : Bool) → same_key x.key e.key ≡ b → keys_once (cond b (e ∷ l) (x ∷ put_in l e)) ≡ true
    more ih true h = subst (λ k. cond (is_none (entry_at l k)) (keys_once l) false ≡ true) (same_is x.key e.key h) p
    more ih false h =
        let parts = both (is_none (entry_at l x.key)) (keys_once l) p in
        let there = put_in_one l e x.key ∙ ap (λ b. cond b (Some e) (entry_at l x.key)) (other_back x.key e.key h) in
        ap (λ o. cond (is_none o) (keys_once (put_in l e)) false) there
        ∙ ap (λ b. cond b (keys_once (put_in l e)) false) parts.0 ∙ ih parts.1

pub keeps_once : KeepsKeysOnce
keeps_once l e h = ap keys_once (put_is l e) ∙ put_in_once l e h

none_of : {A : Type 0} (o : Option A) → is_none o ≡ true → o ≡ None
none_of None h = refl
none_of (Some x) h = absurd (cc)

pub merges_over : MergesOver
merges_over l [] k h = refl
merges_over l (e ∷ es) k h =
    let parts = both (is_none (entry_at es e.key)) (keys_once es) h in
    merges_over (put_entry l e) es k parts.1 ∙ ap (λ o. or_else (entry_at es k) o) (puts_one l e k) ∙ more (same_key e.key k) refl parts.0
  where
    more : (b : Bool) → same_key e.key k ≡ b → is_none (entry_at es e.key) ≡ true →
        or_else (entry_at es k) (cond b (Some e) (entry_at l k)) ≡ or_else (cond b (Some e) (entry_at es k)) (entry_at l k)
    more true g n = ap (λ o. or_else o (Some e)) (none_of (entry_at es k) (subst (λ y. is_none (entry_at es y) ≡ true) (same_is e.key k g) n))
    more false g n = refl

pub merged_first : MergedComesFirst
merged_first s l k h =
    ap (λ o. value_in (or_else o (last_entry s.pushed k))) (merges_over s.state l k h)
    ∙ ap value_in (or_else-assoc (entry_at l k) (entry_at s.state k) (last_entry s.pushed k))

pub pushed_second : PushedComesSecond
pushed_second s l k = ap (λ o. value_in (or_else (entry_at s.state k) o)) (last_entry-append s.pushed l k)

-- what is put together by puts has each key once
merged_once : (l m : List LayerEntry) → keys_once l ≡ true → keys_once (merged l m) ≡ true
merged_once l [] h = h
merged_once l (e ∷ es) h = merged_once (put_entry l e) es (keeps_once l e h)

pub merged_keys_once : (m : List LayerEntry) → merged [] m ≡ m → keys_once m ≡ true
merged_keys_once m e = subst (λ l. keys_once l ≡ true) e (merged_once [] m refl)
