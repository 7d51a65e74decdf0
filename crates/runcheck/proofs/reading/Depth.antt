-- At most so many frames are left around a question.
use Rattle.std.proofs.Common.{Bool, true, false, cond, ℕ, zero, suc, ◌≤◌, length, List, [], ◌∷◌, ◌≡◌, refl, subst, arith}
use Rattle.run_grammar.specs.declared.kind.Role.{Role}
use Rattle.smithy_types.specs.declared.kinds.StopPoint.{StopPoint}
use Rattle.smithy_types.specs.declared.kinds.StopPoint.TheVariants as stops
use Rattle.run_grammar.specs.declared.answer.Entry.{Entry}
use Rattle.run_grammar.specs.Entry.{same_role, pending, ready}
use Rattle.run_grammar.specs.Standing.{State, step}
use Rattle.run_grammar.specs.Tests.{holds}
use Rattle.run_grammar.specs.Grammar.{run}
use Rattle.run_grammar.specs.Production.{Production, Nothing, Work, ◌⨟◌, Where, Rounds, Again, InAttempt, Under}
use Rattle.run_grammar.specs.Machine.{Spot, AtEnd, AtAgain, At, Rest, Left, Out, first, then_spot, fresh_spot, round_spot, under_spot, within_spot, cut, then_rest, round_rest, under_rest, within_rest, Position, Whole, Dead, Asking, Waiting, Cutting, position, begin, after_cut, next, after}
use Rattle.runcheck.specs.declared.reading.walk.Frame.{Frame}
use Rattle.runcheck.specs.declared.reading.walk.Frame.TheVariants.{Then, Round, Scope, Within}
use Rattle.runcheck.specs.Reading.Frames.{plug}
use Rattle.runcheck.specs.Reading.Depth.{IsWithin, HasFew, FewFrames}

abbrev SpotWithin : ℕ → Spot → Type 0
SpotWithin n AtEnd = Unit {0}
SpotWithin n AtAgain = Unit {0}
SpotWithin n (At k es r) = IsWithin n r

then_within : (n : ℕ) (t u : Spot) (q : Production) → SpotWithin n t → IsWithin (suc n) q → SpotWithin (suc n) u → SpotWithin (suc n) (then_spot t q u)
then_within n AtEnd u q h g i = i
then_within n AtAgain u q h g i = tt
then_within n (At k es r) u q h g i = (h, g)

fresh_within : (n : ℕ) (t : Spot) (q : Production) → SpotWithin n t → IsWithin n q → SpotWithin (suc n) (fresh_spot t q)
fresh_within n AtEnd q h g = tt
fresh_within n AtAgain q h g = tt
fresh_within n (At k es r) q h g = (h, g)

round_within : (n : ℕ) (t u : Spot) (q : Production) → SpotWithin n t → IsWithin n q → SpotWithin n u → SpotWithin (suc n) (round_spot t q u)
round_within n AtEnd u q h g i = tt
round_within n AtAgain u q h g i = fresh_within n u q i g
round_within n (At k es r) u q h g i = (h, g)

under_within : (n : ℕ) (d : Role) (t : Spot) (q : Production) → SpotWithin n t → IsWithin (suc n) q → SpotWithin (suc n) (under_spot d t q)
under_within n d AtEnd q h g = tt
under_within n d AtAgain q h g = tt
under_within n d (At k es r) q h g = (h, g)

within_within : (n : ℕ) (t : Spot) → SpotWithin n t → SpotWithin (suc n) (within_spot t)
within_within n AtEnd h = tt
within_within n AtAgain h = tt
within_within n (At k es r) h = h

first_within : (p : Production) (n : ℕ) → IsWithin n p → (ds : List Role) (s : State) → SpotWithin n (first p ds s)
first_within Nothing n h ds s = tt
first_within Again n h ds s = tt
first_within (Work k) n h ds s = tt
first_within (p ⨟ q) zero h ds s = absurd h
first_within (p ⨟ q) (suc n) h ds s = then_within n (first p ds s) (first q ds s) q (first_within p n h.0 ds s) h.1 (first_within q (suc n) h.1 ds s)
first_within (Where t p q) n h ds s =
    elim (holds t s) as (λ b. SpotWithin n (cond b (first p ds s) (first q ds s))) [ true ↦ first_within p n h.0 ds s | false ↦ first_within q n h.1 ds s ]
first_within (Rounds p q) zero h ds s = absurd h
first_within (Rounds p q) (suc n) h ds s = round_within n (first p ds s) (first q ds s) q (first_within p n h.0 ds s) h.1 (first_within q n h.1 ds s)
first_within (InAttempt p) zero h ds s = absurd h
first_within (InAttempt p) (suc n) h ds s = within_within n (first p ds s) (first_within p n h ds s)
first_within (Under d p q) zero h ds s = absurd h
first_within (Under d p q) (suc n) h ds s = under_within n d (first p (d ∷ ds) s) q (first_within p n h.0 (d ∷ ds) s) h.1

abbrev RestWithin : ℕ → Rest → Type 0
RestWithin n (Left r) = IsWithin n r
RestWithin n (Out i) = Unit {0}

then_rest_within : (n : ℕ) (x : Rest) (q : Production) → RestWithin n x → IsWithin (suc n) q → RestWithin (suc n) (then_rest x q)
then_rest_within n (Left r) q h g = (h, g)
then_rest_within n (Out i) q h g = tt

round_rest_within : (n : ℕ) (x : Rest) (q : Production) → RestWithin n x → IsWithin n q → RestWithin (suc n) (round_rest x q)
round_rest_within n (Left r) q h g = (h, g)
round_rest_within n (Out i) q h g = tt

out_within : (n : ℕ) (same i : Bool) (q : Production) → IsWithin (suc n) q → RestWithin (suc n) (cond same (Left (cond i q Nothing)) (Out i))
out_within n true true q g = g
out_within n true false q g = tt
out_within n false i q g = tt

under_rest_within : (n : ℕ) (same : Bool) (c : Role) (x : Rest) (q : Production) → RestWithin n x → IsWithin (suc n) q → RestWithin (suc n) (under_rest same c x q)
under_rest_within n same c (Left r) q h g = (h, g)
under_rest_within n same c (Out i) q h g = out_within n same i q g

within_rest_within : (n : ℕ) (x : Rest) → RestWithin n x → RestWithin (suc n) (within_rest x)
within_rest_within n (Left r) h = h
within_rest_within n (Out i) h = tt

cut_within : (p : Production) (n : ℕ) → IsWithin n p → (d : Role) → RestWithin n (cut p d)
cut_within Nothing n h d = tt
cut_within Again n h d = tt
cut_within (Work k) n h d = tt
cut_within (p ⨟ q) zero h d = absurd h
cut_within (p ⨟ q) (suc n) h d = then_rest_within n (cut p d) q (cut_within p n h.0 d) h.1
cut_within (Where t p q) n h d = tt
cut_within (Rounds p q) zero h d = absurd h
cut_within (Rounds p q) (suc n) h d = round_rest_within n (cut p d) q (cut_within p n h.0 d) h.1
cut_within (InAttempt p) zero h d = absurd h
cut_within (InAttempt p) (suc n) h d = within_rest_within n (cut p d) (cut_within p n h d)
cut_within (Under c p q) zero h d = absurd h
cut_within (Under c p q) (suc n) h d = under_rest_within n (same_role c d) c (cut p d) q (cut_within p n h.0 d) h.1

abbrev IsIn : ℕ → Position → Type 0
IsIn n Whole = Unit {0}
IsIn n Dead = Unit {0}
IsIn n (Asking k es r) = IsWithin n r
IsIn n (Waiting k es ds r) = IsWithin n r
IsIn n (Cutting k d r) = IsWithin n r

position_in : (n : ℕ) (t : Spot) → SpotWithin n t → IsIn n (position t)
position_in n AtEnd h = tt
position_in n AtAgain h = tt
position_in n (At k es r) h = h

begin_in : (n : ℕ) (p : Production) → IsWithin n p → (s : State) → IsIn n (begin p s)
begin_in n p h s = position_in n (first p [] s) (first_within p n h [] s)

after_cut_in : (n : ℕ) (x : Rest) → RestWithin n x → (s : State) → IsIn n (after_cut x s)
after_cut_in n (Left r) h s = begin_in n r h s
after_cut_in n (Out i) h s = tt

next_in : (n : ℕ) (p : Position) → IsIn n p → (s : State) (e : Entry) → IsIn n (next p s e)
next_in n Whole h s e = tt
next_in n Dead h s e = tt
next_in n (Asking k es r) h s e = elim (pending e) as (λ b. IsIn n (cond b (Waiting k es es r) (begin r s))) [ true ↦ h | false ↦ begin_in n r h s ]
next_in n (Waiting k es [] r) h s e = h
next_in n (Waiting k es (d ∷ ds) r) h s e =
    elim (pending e) as (λ b. IsIn n (cond b (Waiting k es ds r) (cond (ready e) (Cutting k d r) Dead))) [
      | true ↦ h
      | false ↦ elim (ready e) as (λ b. IsIn n (cond b (Cutting k d r) Dead)) [ true ↦ h | false ↦ tt ]
    ]
next_in n (Cutting k d r) h s e = after_cut_in n (cut r d) (cut_within r n h d) s

after_in : (l : List Entry) (n : ℕ) (p : Position) → IsIn n p → (s : State) → IsIn n (after p s l)
after_in [] n p h s = h
after_in (e ∷ l) n p h s = after_in l n (next p (step s e) e) (next_in n p h (step s e) e) (step s e)

more : (m n : ℕ) → m ≤ n → suc m ≤ suc n
more m n h = omega (arith, h)

none_more : (n : ℕ) → 0 ≤ n
none_more n = omega arith

frames_within : (fs : List Frame) (n : ℕ) → IsWithin n (plug fs Nothing) → length fs ≤ n
frames_within [] n h = none_more n
frames_within (Then q ∷ fs) zero h = absurd h
frames_within (Then q ∷ fs) (suc n) h = more (length fs) n (frames_within fs n h.0)
frames_within (Round q ∷ fs) zero h = absurd h
frames_within (Round q ∷ fs) (suc n) h = more (length fs) n (frames_within fs n h.0)
frames_within (Scope d q ∷ fs) zero h = absurd h
frames_within (Scope d q ∷ fs) (suc n) h = more (length fs) n (frames_within fs n h.0)
frames_within (Within ∷ fs) zero h = absurd h
frames_within (Within ∷ fs) (suc n) h = more (length fs) n (frames_within fs n h)

few : (n : ℕ) (p : Position) → IsIn n p → HasFew n p
few n Whole h = tt
few n Dead h = tt
few n (Asking k es r) h = λ fs e. frames_within fs n (subst (λ x. IsWithin n x) e h)
few n (Waiting k es ds r) h = λ fs e. frames_within fs n (subst (λ x. IsWithin n x) e h)
few n (Cutting k d r) h = λ fs e. frames_within fs n (subst (λ x. IsWithin n x) e h)

pub few_frames : FewFrames
few_frames n p h s l = few n (after (begin p s) s l) (after_in l n (begin p s) (begin_in n p h s) s)

-- the same as a test
abbrev is_within : ℕ → Production → Bool
is_within n Nothing = true
is_within n Again = true
is_within n (Work k) = true
is_within zero (p ⨟ q) = false
is_within (suc n) (p ⨟ q) = cond (is_within n p) (is_within (suc n) q) false
is_within n (Where t p q) = cond (is_within n p) (is_within n q) false
is_within zero (Rounds p q) = false
is_within (suc n) (Rounds p q) = cond (is_within n p) (is_within n q) false
is_within zero (InAttempt p) = false
is_within (suc n) (InAttempt p) = is_within n p
is_within zero (Under d p q) = false
is_within (suc n) (Under d p q) = cond (is_within n p) (is_within (suc n) q) false

both : (a b : Bool) → cond a b false ≡ true → (a ≡ true) × (b ≡ true)
both true b h = (refl, h)
both false b h = absurd (cc)

tested : (p : Production) (n : ℕ) → is_within n p ≡ true → IsWithin n p
tested Nothing n h = tt
tested Again n h = tt
tested (Work k) n h = tt
tested (p ⨟ q) zero h = absurd (cc)
tested (p ⨟ q) (suc n) h = let b = both (is_within n p) (is_within (suc n) q) h in (tested p n b.0, tested q (suc n) b.1)
tested (Where t p q) n h = let b = both (is_within n p) (is_within n q) h in (tested p n b.0, tested q n b.1)
tested (Rounds p q) zero h = absurd (cc)
tested (Rounds p q) (suc n) h = let b = both (is_within n p) (is_within n q) h in (tested p n b.0, tested q n b.1)
tested (InAttempt p) zero h = absurd (cc)
tested (InAttempt p) (suc n) h = tested p n h
tested (Under d p q) zero h = absurd (cc)
tested (Under d p q) (suc n) h = let b = both (is_within n p) (is_within (suc n) q) h in (tested p n b.0, tested q (suc n) b.1)

pub run_within : (stop : StopPoint) → IsWithin 10 (run stop)
unfolding run
run_within stops.None = tested (run stops.None) 10 refl
run_within stops.BeforeTransmit = tested (run stops.BeforeTransmit) 10 refl
