-- What is left of a room as the parts of a list take from it, one after another.
use Rattle.std.proofs.Common.{◌≡◌, ℕ, ◌+◌, ◌<◌, ◌≤◌, List, length, drop, get_or, true, false, nat_le, sum_by, arith, ap, sym, ◌∙◌}
use Rattle.std.proofs.lemmas.List.{drop_all}
use Rattle.std.proofs.lemmas.List.Sums.{sum_by-drop_more}

sum_from : {X : Type 0} (f : X → ℕ) (xs : List X) (i : ℕ) (x : X) → i < length xs → x ≡ get_or xs i x → sum_by f (drop i xs) ≡ f x + sum_by f (drop (i + 1) xs)
sum_from {X} f xs i x h e = sum_by-drop_more f xs i x h ∙ ap (λ (y : X). f y + sum_by f (drop (i + 1) xs)) (sym e)

sum_end : {X : Type 0} (f : X → ℕ) (xs : List X) (i : ℕ) → length xs ≤ i → sum_by f (drop i xs) ≡ 0
sum_end {X} f xs i h = ap (λ (l : List X). sum_by f l) (drop_all i xs h)

further : (part before behind left rest total room : ℕ) → rest + part ≡ left → left + total ≡ room + before → before ≡ part + behind → rest + total ≡ room + behind
further part before behind left rest total room r w s = grind arith

past_it : (part before behind left total room : ℕ) → left < part → left + total ≡ room + before → before ≡ part + behind → room < total
past_it part before behind left total room r w s = grind arith

pub over : (total room : ℕ) → room < total → nat_le total room ≡ false
over total room h = grind arith

whole : (before left total room : ℕ) → left + total ≡ room + before → before ≡ 0 → left + total ≡ room
whole before left total room w s = grind arith

pub within : (left total room : ℕ) → left + total ≡ room → nat_le total room ≡ true
within left total room h = grind arith

-- a part more
pub room_more : {X : Type 0} (f : X → ℕ) (xs : List X) (i : ℕ) (x : X) (left rest total room : ℕ) → i < length xs → x ≡ get_or xs i x → rest + f x ≡ left → left + total ≡ room + sum_by f (drop i xs) →
    rest + total ≡ room + sum_by f (drop (i + 1) xs)
room_more f xs i x left rest total room h e r w = further (f x) (sum_by f (drop i xs)) (sum_by f (drop (i + 1) xs)) left rest total room r w (sum_from f xs i x h e)

-- a part for which there is no room
pub room_passed : {X : Type 0} (f : X → ℕ) (xs : List X) (i : ℕ) (x : X) (left total room : ℕ) → i < length xs → x ≡ get_or xs i x → left < f x → left + total ≡ room + sum_by f (drop i xs) → room < total
room_passed f xs i x left total room h e r w = past_it (f x) (sum_by f (drop i xs)) (sum_by f (drop (i + 1) xs)) left total room r w (sum_from f xs i x h e)

pub room_over : {X : Type 0} (f : X → ℕ) (xs : List X) (i : ℕ) (x : X) (left total room : ℕ) → i < length xs → x ≡ get_or xs i x → left < f x → left + total ≡ room + sum_by f (drop i xs) → nat_le total room ≡ false
room_over f xs i x left total room h e r w = over total room (room_passed f xs i x left total room h e r w)

-- no part more
pub room_whole : {X : Type 0} (f : X → ℕ) (xs : List X) (i : ℕ) (left total room : ℕ) → length xs ≤ i → left + total ≡ room + sum_by f (drop i xs) → left + total ≡ room
room_whole f xs i left total room h w = whole (sum_by f (drop i xs)) left total room w (sum_end f xs i h)

pub room_within : {X : Type 0} (f : X → ℕ) (xs : List X) (i : ℕ) (left total room : ℕ) → length xs ≤ i → left + total ≡ room + sum_by f (drop i xs) → nat_le total room ≡ true
room_within f xs i left total room h w = within left total room (room_whole f xs i left total room h w)

pub ruleset sums = (room_more, room_passed, room_over, room_whole, room_within, within, over)
