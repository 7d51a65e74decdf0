-- What is left to come at a position, and that it moves as the machine does.
use Rattle.run_grammar.specs.Tests.{holds}
use Rattle.std.proofs.Common.{Bool, true, false, cond, List, [], ◌∷◌, ◌++◌, ◌≡◌, ◌⊎◌, refl}
use Rattle.run_grammar.specs.declared.kind.Role.{Role}
use Rattle.run_grammar.specs.declared.kind.Kind.{Kind}
use Rattle.run_grammar.specs.declared.answer.Entry.{Entry}
use Rattle.run_grammar.specs.Entry.{kind_of, same_role, pending, ready, abandon_of}
use Rattle.run_grammar.specs.Standing.{State, standing, step}
use Rattle.run_grammar.specs.Production.{Production, Nothing, Work, ◌⨟◌, Where, Rounds, Again, InAttempt, Under, Ended}
use Rattle.run_grammar.specs.Words.{Word, WaitsOf, Struck}
use Rattle.run_grammar.specs.Machine.{Spot, AtEnd, AtAgain, At, Rest, Left, Out, cut, first, then_spot, then_rest, round_spot, round_rest, fresh_spot, under_spot, under_rest, within_spot, within_rest, Position, Whole, Dead, Asking, Waiting, Cutting, position, begin, after_cut, next}
use Rattle.run_grammar.proofs.Spots.{RestWord, SpotWord, IsAt, Fine}
use Rattle.run_grammar.proofs.Down.{down}
use Rattle.run_grammar.proofs.Up.{up}

abbrev pub Coming : Position → State → List Entry → Type 0
Coming Whole s l = l ≡ []
Coming Dead s l = ⊥
Coming (Asking k es r) s l = SpotWord (At k es r) [] Ended s l
Coming (Waiting k es ds r) s l =
    ((a : List Entry) × (b : List Entry) × (l ≡ a ++ b) × WaitsOf ds a × SpotWord (At k es r) [] Ended (standing s a) b)
    ⊎ ((d : Role) × (a : List Entry) × (b : List Entry) × (l ≡ a ++ b) × Struck k d ds a × RestWord d (cut r d) [] Ended (standing s a) b)
Coming (Cutting k d r) s [] = ⊥
Coming (Cutting k d r) s (e ∷ l) = ((kind_of e) ≡ abandon_of k) × RestWord d (cut r d) [] Ended (step s e) l

-- each round that may come asks something
abbrev pub FineSpot : Spot → Type 0
FineSpot AtEnd = Unit {0}
FineSpot AtAgain = Unit {0}
FineSpot (At k es r) = Fine r

abbrev pub FineRest : Rest → Type 0
FineRest (Left r) = Fine r
FineRest (Out i) = Unit {0}

abbrev pub FineAt : Position → Type 0
FineAt Whole = Unit {0}
FineAt Dead = Unit {0}
FineAt (Asking k es r) = Fine r
FineAt (Waiting k es ds r) = Fine r
FineAt (Cutting k d r) = Fine r

fine_then : (t u : Spot) (q : Production) → FineSpot t → FineSpot u → Fine q → FineSpot (then_spot t q u)
fine_then AtEnd u q f g h = g
fine_then AtAgain u q f g h = tt
fine_then (At k es r) u q f g h = (f, h)

fine_fresh : (u : Spot) (q : Production) → FineSpot u → Fine q → ((ds : List Role) (s : State) → IsAt (first q ds s)) → FineSpot (fresh_spot u q)
fine_fresh AtEnd q f h a = tt
fine_fresh AtAgain q f h a = tt
fine_fresh (At k es r) q f h a = (f, h, a)

fine_round : (t u : Spot) (q : Production) → FineSpot t → FineSpot u → Fine q → ((ds : List Role) (s : State) → IsAt (first q ds s)) → FineSpot (round_spot t q u)
fine_round AtEnd u q f g h a = tt
fine_round AtAgain u q f g h a = fine_fresh u q g h a
fine_round (At k es r) u q f g h a = (f, h, a)

fine_under : (c : Role) (t : Spot) (q : Production) → FineSpot t → Fine q → FineSpot (under_spot c t q)
fine_under c AtEnd q f h = tt
fine_under c AtAgain q f h = tt
fine_under c (At k es r) q f h = (f, h)

fine_within : (t : Spot) → FineSpot t → FineSpot (within_spot t)
fine_within AtEnd f = tt
fine_within AtAgain f = tt
fine_within (At k es r) f = f

pub fine_first : (p : Production) → Fine p → (ds : List Role) (s : State) → FineSpot (first p ds s)
fine_first Nothing f ds s = tt
fine_first Again f ds s = tt
fine_first (Work k) f ds s = tt
fine_first (p ⨟ q) f ds s = fine_then (first p ds s) (first q ds s) q (fine_first p f.0 ds s) (fine_first q f.1 ds s) f.1
fine_first (Where test p q) f ds s =
    elim (holds test s) as (λ b. FineSpot (cond b (first p ds s) (first q ds s))) [ true ↦ fine_first p f.0 ds s | false ↦ fine_first q f.1 ds s ]
fine_first (Rounds p q) f ds s = fine_round (first p ds s) (first q ds s) q (fine_first p f.0 ds s) (fine_first q f.1 ds s) f.1 f.2
fine_first (InAttempt p) f ds s = fine_within (first p ds s) (fine_first p f ds s)
fine_first (Under c p q) f ds s = fine_under c (first p (c ∷ ds) s) q (fine_first p f.0 (c ∷ ds) s) f.1

fine_then_rest : (r : Rest) (q : Production) → FineRest r → Fine q → FineRest (then_rest r q)
fine_then_rest (Left r) q f h = (f, h)
fine_then_rest (Out i) q f h = tt

fine_round_rest : (r : Rest) (q : Production) → FineRest r → Fine q → ((ds : List Role) (s : State) → IsAt (first q ds s)) → FineRest (round_rest r q)
fine_round_rest (Left r) q f h a = (f, h, a)
fine_round_rest (Out i) q f h a = tt

fine_within_rest : (r : Rest) → FineRest r → FineRest (within_rest r)
fine_within_rest (Left r) f = f
fine_within_rest (Out i) f = tt

fine_under_out : (same i : Bool) (q : Production) → Fine q → FineRest (cond same (Left (cond i q Nothing)) (Out i))
fine_under_out true true q h = h
fine_under_out true false q h = tt
fine_under_out false i q h = tt

fine_under_rest : (same : Bool) (c : Role) (r : Rest) (q : Production) → FineRest r → Fine q → FineRest (under_rest same c r q)
fine_under_rest same c (Left r) q f h = (f, h)
fine_under_rest same c (Out i) q f h = fine_under_out same i q h

pub fine_cut : (p : Production) → Fine p → (d : Role) → FineRest (cut p d)
fine_cut Nothing f d = tt
fine_cut Again f d = tt
fine_cut (Work k) f d = tt
fine_cut (p ⨟ q) f d = fine_then_rest (cut p d) q (fine_cut p f.0 d) f.1
fine_cut (Where test p q) f d = tt
fine_cut (Rounds p q) f d = fine_round_rest (cut p d) q (fine_cut p f.0 d) f.1 f.2
fine_cut (InAttempt p) f d = fine_within_rest (cut p d) (fine_cut p f d)
fine_cut (Under c p q) f d = fine_under_rest (same_role c d) c (cut p d) q (fine_cut p f.0 d) f.1

fine_position : (t : Spot) → FineSpot t → FineAt (position t)
fine_position AtEnd f = tt
fine_position AtAgain f = tt
fine_position (At k es r) f = f

pub fine_begin : (p : Production) → Fine p → (s : State) → FineAt (begin p s)
fine_begin p f s = fine_position (first p [] s) (fine_first p f [] s)

fine_after_cut : (r : Rest) (s : State) → FineRest r → FineAt (after_cut r s)
fine_after_cut (Left r) s f = fine_begin r f s
fine_after_cut (Out i) s f = tt

fine_answered : (b : Bool) (k : Kind) (es : List Role) (r : Production) (s : State) → Fine r → FineAt (cond b (Waiting k es es r) (begin r s))
fine_answered true k es r s f = f
fine_answered false k es r s f = fine_begin r f s

fine_waited : (b c : Bool) (k : Kind) (d : Role) (es ds : List Role) (r : Production) → Fine r → FineAt (cond b (Waiting k es ds r) (cond c (Cutting k d r) Dead))
fine_waited true c k d es ds r f = f
fine_waited false true k d es ds r f = f
fine_waited false false k d es ds r f = tt

pub fine_next : (p : Position) → FineAt p → (s : State) (e : Entry) → FineAt (next p s e)
fine_next Whole f s e = tt
fine_next Dead f s e = tt
fine_next (Asking k es r) f s e = fine_answered (pending e) k es r s f
fine_next (Waiting k es [] r) f s e = f
fine_next (Waiting k es (d ∷ ds) r) f s e = fine_waited (pending e) (ready e) k d es ds r f
fine_next (Cutting k d r) f s e = fine_after_cut (cut r d) s (fine_cut r f d)

-- a spot and its position
spot_coming : (t : Spot) (s : State) (l : List Entry) → SpotWord t [] Ended s l → Coming (position t) s l
spot_coming AtEnd s l v = v.1
spot_coming AtAgain s l v = absurd (let e = v.0 in cc)
spot_coming (At k es r) s l v = v

coming_spot : (t : Spot) (s : State) (l : List Entry) → Coming (position t) s l → SpotWord t [] Ended s l
coming_spot AtEnd s l v = (refl, v)
coming_spot AtAgain s l v = absurd v
coming_spot (At k es r) s l v = v

pub word_coming : (p : Production) → Fine p → (s : State) (l : List Entry) → Word p [] Ended s l → Coming (begin p s) s l
word_coming p f s l w = spot_coming (first p [] s) s l (down p f [] Ended s l w)

pub coming_word : (p : Production) → Fine p → (s : State) (l : List Entry) → Coming (begin p s) s l → Word p [] Ended s l
coming_word p f s l w = up p f [] Ended s l (coming_spot (first p [] s) s l w)
