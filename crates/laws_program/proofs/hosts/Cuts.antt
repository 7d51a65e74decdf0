-- A source has one next line, wherever its bytes were cut when they were read.
use Rattle.std.proofs.Common.{◌≡◌, ◌∙◌, refl, sym, ap, subst, ℕ, ◌+◌, ◌==◌, ◌||◌, ◌<◌, ◌≤◌, Bool, true, false, List, [], ◌∷◌, ◌++◌, Option, Some, None, append-nil, append_assoc, length, length-append, arith}
use Rattle.std.proofs.lemmas.Bool.{false≢true}
use Rattle.std.specs.Io.KnownBytes.{Consumes, IsAtEnd}
use Rattle.std.specs.List.{list_any}
use Rattle.cli_shell.specs.Source.{SourceView}
use Rattle.host_session.specs.Lines.{BeginsLong, EndsUnread, HasNoFeed, TakesLine}

-- what was read and isn't taken, and what the source has left, are these bytes
pub record Holds (unread : List ℕ) (source : SourceView) (bytes : List ℕ) : Type 0 where
  pub rest : List ℕ
  pub left : source.left ≡ Some rest
  pub whole : bytes ≡ unread ++ rest

-- a line of at most 16 MiB, and what stands behind it
pub record Cut (bytes line behind : List ℕ) : Type 0 where
  pub is : bytes ≡ line ++ 10 ∷ behind
  pub no_feed : HasNoFeed line
  pub bound : length line ≤ 16777216

-- the last bytes, without a line feed
pub record Unfed (bytes : List ℕ) : Type 0 where
  pub no_feed : HasNoFeed bytes
  pub bound : length bytes ≤ 16777216

-- ---- the first line feed

or_false : (a b : Bool) → (a || b) ≡ false → (a ≡ false) × (b ≡ false)
or_false true b h = absurd (false≢true (sym h))
or_false false b h = (refl, h)

feedless : (x : ℕ) (xs : List ℕ) → HasNoFeed (x ∷ xs) → (x == 10 ≡ false) × HasNoFeed xs
feedless x xs h = or_false (x == 10) (list_any (λ b. b == 10) xs) h

no_feed : (x : ℕ) (xs : List ℕ) → HasNoFeed (x ∷ xs) → x ≡ 10 → ⊥
no_feed x xs h is = false≢true (sym (feedless x xs h).0 ∙ ap (λ b. b == 10) is)

pub one_cut : (a b r s : List ℕ) → HasNoFeed a → HasNoFeed b → a ++ 10 ∷ r ≡ b ++ 10 ∷ s → (a ≡ b) × (r ≡ s)
one_cut [] [] r s h k is = (refl, cc is)
one_cut [] (b ∷ bs) r s h k is = absurd (no_feed b bs k (cc is))
one_cut (a ∷ xs) [] r s h k is = absurd (no_feed a xs h (sym (cc is)))
one_cut (a ∷ xs) (b ∷ ys) r s h k is =
    let rest = one_cut xs ys r s (feedless a xs h).1 (feedless b ys k).1 (cc is) in
    let head : a ≡ b = cc is in
    ((λ i. head i ∷ rest.0 i), rest.1)

-- what has a line feed has a line
pub has_feed : (line behind : List ℕ) → HasNoFeed (line ++ 10 ∷ behind) → ⊥
has_feed [] behind h = no_feed 10 behind h refl
has_feed (x ∷ line) behind h = has_feed line behind (feedless x (line ++ 10 ∷ behind) h).1

-- ---- what is taken

same_some : (x y : List ℕ) → Some x ≡ Some y → x ≡ y
same_some x y is = cc

record Consumed (after : Option (List ℕ)) (rest came : List ℕ) : Type 0 where
  behind : List ℕ
  left : after ≡ Some behind
  whole : rest ≡ came ++ behind

consumed : (before after : Option (List ℕ)) (rest came : List ℕ) → before ≡ Some rest → Consumes before after came → Consumed after rest came
consumed None after rest came is h = absurd (cc is)
consumed (Some x) None rest came is h = absurd h
consumed (Some x) (Some y) rest came is h = record { behind = y; left = refl; whole = sym (same_some x rest is) ∙ h }

-- the line that is taken is the first one of these bytes, and the others are left
pub record Took (bytes line left : List ℕ) (after : SourceView) : Type 0 where
  pub behind : List ℕ
  pub cut : Cut bytes line behind
  pub holds : Holds left after behind

pub took : (unread line left bytes : List ℕ) (before after : SourceView) → TakesLine unread before line left after → Holds unread before bytes → Took bytes line left after
took unread line left bytes before after h held =
    let rest = consumed before.left after.left held.rest h.came held.left h.taken in
    record {
      behind = left ++ rest.behind;
      cut = record {
        is = held.whole ∙ ap (λ x. unread ++ x) rest.whole ∙ sym (append_assoc unread h.came rest.behind) ∙ ap (λ x. x ++ rest.behind) h.begins ∙ append_assoc line (10 ∷ left) rest.behind;
        no_feed = h.whole;
        bound = h.bound;
      };
      holds = record { rest = rest.behind; left = rest.left; whole = refl };
    }

at_end : (after : Option (List ℕ)) (rest : List ℕ) → after ≡ Some rest → IsAtEnd after → rest ≡ []
at_end None rest is h = absurd (cc is)
at_end (Some x) rest is h = sym (same_some x rest is) ∙ h

-- where there is no line, none of these bytes is a line feed
pub ended : (unread bytes : List ℕ) (before after : SourceView) → EndsUnread unread before after → Holds unread before bytes → Unfed bytes
ended unread bytes before after h held =
    let rest = consumed before.left after.left held.rest h.came held.left h.taken in
    let came : held.rest ≡ h.came = rest.whole ∙ ap (λ x. h.came ++ x) (at_end after.left rest.behind rest.left h.at_end) ∙ append-nil h.came in
    let same : bytes ≡ unread ++ h.came = held.whole ∙ ap (λ x. unread ++ x) came in
    record { no_feed = subst HasNoFeed (sym same) h.no_line; bound = subst (λ (x : List ℕ). length x ≤ 16777216) (sym same) h.bound }

-- these bytes have one first line
pub same_cut : (bytes line other behind left : List ℕ) → Cut bytes line behind → Cut bytes other left → (line ≡ other) × (behind ≡ left)
same_cut bytes line other behind left c d = one_cut line other behind left c.no_feed d.no_feed (sym c.is ∙ d.is)

-- or none
pub no_cut : (bytes line behind : List ℕ) → Cut bytes line behind → Unfed bytes → ⊥
no_cut bytes line behind c h = has_feed line behind (subst HasNoFeed c.is h.no_feed)

-- so long a front ends before its line feed
beyond : (line front rest behind : List ℕ) → length line < length front → HasNoFeed front → front ++ rest ≡ line ++ 10 ∷ behind → ⊥
beyond line [] rest behind l h is = omega (arith, l)
beyond [] (x ∷ front) rest behind l h is = no_feed x front h (cc is)
beyond (y ∷ line) (x ∷ front) rest behind l h is = beyond line front rest behind (omega (arith, l)) (feedless x front h).1 (cc is)

-- what begins with so long a line doesn't begin with one that is taken
pub no_long : (bytes line behind : List ℕ) → Cut bytes line behind → BeginsLong bytes → ⊥
no_long bytes line behind c long =
    let short = c.bound in
    let far = long.bound in
    beyond line long.front long.rest behind (omega (arith, short, far)) long.whole (sym long.parts ∙ c.is)

-- nor does what ends before its limit
pub no_end : (bytes : List ℕ) → Unfed bytes → BeginsLong bytes → ⊥
no_end bytes h long =
    let whole : length bytes ≡ length long.front + length long.rest = ap length long.parts ∙ length-append long.front long.rest in
    let short = h.bound in
    let far = long.bound in omega (arith, whole, short, far)

-- what is lost of so long a line
pub lost_long : (unread bytes came : List ℕ) (before after : SourceView) → Consumes before.left after.left came → BeginsLong (unread ++ came) → Holds unread before bytes → BeginsLong bytes
lost_long unread bytes came before after taken long held =
    let rest = consumed before.left after.left held.rest came held.left taken in
    record {
      front = long.front;
      rest = long.rest ++ rest.behind;
      parts = held.whole ∙ ap (λ x. unread ++ x) rest.whole ∙ sym (append_assoc unread came rest.behind) ∙ ap (λ x. x ++ rest.behind) long.parts ∙ append_assoc long.front long.rest rest.behind;
      whole = long.whole;
      bound = long.bound;
    }

-- what stands behind a line is shorter
pub shorter : (bytes line behind : List ℕ) → Cut bytes line behind → length behind < length bytes
shorter bytes line behind c = let long : length bytes ≡ length line + length (10 ∷ behind) = ap length c.is ∙ length-append line (10 ∷ behind) in omega (arith, long)
