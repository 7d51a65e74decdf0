-- Where a text has its first line feed.
use Rattle.std.proofs.Common.{◌≡◌, ℕ, ◌+◌, ◌-◌, ◌==◌, Bool, true, false, cond, ◌||◌, List, [], ◌∷◌, ◌++◌, length, take, drop, position, Option, Some, None, refl, sym, ap, ◌∙◌, arith, eqb-true, length-drop, take_at, take_all, drop_at, drop-drop}
use Rattle.std.specs.List.{list_any, position_from}
use Rattle.std.proofs.lemmas.Iterator.Adapters.{position_from-zero}
use Rattle.host_session.specs.Lines.{HasNoFeed, Splits}

-- a byte is a line feed
abbrev is_feed : ℕ → Bool
is_feed b = b == 10

-- the first line feed stands behind a front without one
abbrev IsAt : ℕ → ℕ → List ℕ → Type 0
IsAt i k bytes = (front : List ℕ) × (behind : List ℕ) × HasNoFeed front × (bytes ≡ front ++ 10 ∷ behind) × (length front + i ≡ k)

same_place : (i k : ℕ) → Some i ≡ Some k → i ≡ k
same_place i k e = cc

none_from : (i : ℕ) (bytes : List ℕ) → position_from is_feed i bytes ≡ None → HasNoFeed bytes
none_from i [] h = refl
none_from i (b ∷ bytes) h =
    (elim (is_feed b) as (λ t. cond t (Some i) (position_from is_feed (i + 1) bytes) ≡ None → (t || list_any is_feed bytes) ≡ false) [
      | true ↦ λ e. absurd (cc e)
      | false ↦ λ e. none_from (i + 1) bytes e
    ]) h

some_from : (i k : ℕ) (bytes : List ℕ) → position_from is_feed i bytes ≡ Some k → IsAt i k bytes
some_from i k [] h = absurd (cc h)
some_from i k (b ∷ bytes) h =
    (elim (is_feed b) as (λ t. is_feed b ≡ t → cond t (Some i) (position_from is_feed (i + 1) bytes) ≡ Some k → IsAt i k (b ∷ bytes)) [
      | true ↦ λ f e. ([], bytes, refl, ap (λ x. x ∷ bytes) (eqb-true b 10 f), omega (arith, same_place i k e))
      | false ↦ λ f e. let r = some_from (i + 1) k bytes e in
          (b ∷ r.0, r.1, ap (λ t. t || list_any is_feed r.0) f ∙ r.2, ap (λ l. b ∷ l) r.3, omega (arith, r.4))
    ]) refl h

-- no line feed is found
pub splits_none : (bytes front new : List ℕ) (found : Option ℕ) → found ≡ position (λ b. b == 10) bytes → found ≡ None →
    new ≡ front ++ bytes → Splits bytes front None new
unfolding Splits
splits_none bytes front new found at none e = (none_from 0 bytes (sym (position_from-zero is_feed bytes) ∙ sym at ∙ none), e)

-- it is found at this place
pub splits_some : (bytes front new behind : List ℕ) (found : Option ℕ) (k : ℕ) → found ≡ position (λ b. b == 10) bytes → found ≡ Some k →
    new ≡ front ++ take k bytes → behind ≡ take (length bytes - (k + 1)) (drop (k + 1) bytes) → Splits bytes front (Some behind) new
unfolding Splits
splits_some bytes front new behind found k at some e f =
    let r = some_from 0 k bytes (sym (position_from-zero is_feed bytes) ∙ sym at ∙ some) in
    let long : length r.0 ≡ k = omega (arith, r.4) in
    let kept : take k bytes ≡ r.0 = ap (take k) r.3 ∙ take_at r.0 (10 ∷ r.1) k long in
    let tail : take (length bytes - (k + 1)) (drop (k + 1) bytes) ≡ drop (k + 1) bytes =
    take_all (length bytes - (k + 1)) (drop (k + 1) bytes) (omega (arith, length-drop (k + 1) bytes)) in
    let past : drop (k + 1) bytes ≡ r.1 =
    ap (drop (k + 1)) r.3 ∙ sym (drop-drop 1 k (r.0 ++ 10 ∷ r.1)) ∙ ap (drop 1) (drop_at r.0 (10 ∷ r.1) k long) in
    (r.0, r.2, r.3 ∙ ap (λ l. r.0 ++ 10 ∷ l) (sym past ∙ sym tail ∙ sym f), e ∙ ap (λ l. front ++ l) kept)
