-- The productions that are left keep what finishing needs, and the positions too.
use Rattle.run_grammar.specs.Tests.{holds}
use Rattle.std.proofs.Common.{Bool, true, false, cond, zero, List, [], ◌∷◌, ◌≡◌, ◌⊎◌, refl, sym, subst, inl, inr}
use Rattle.run_grammar.specs.declared.kind.Role.{Role}
use Rattle.run_grammar.specs.declared.kind.Kind.{Kind}
use Rattle.run_grammar.specs.declared.answer.Answer.{Answer}
use Rattle.run_grammar.specs.declared.answer.Entry.{Entry}
use Rattle.run_grammar.specs.declared.answer.Answer.TheVariants.{Pending, Ready}
use Rattle.run_grammar.specs.declared.kind.Kind.TheVariants.{Park, Wait}
use Rattle.run_grammar.specs.declared.kind.Role.TheVariants.{Attempt, LongPoll, Operation, Retry, Send}
use Rattle.run_grammar.specs.Entry.{kind_of, same_role, pending, ready, is_pending, is_ready, can_wait, abandon_of}
use Rattle.run_grammar.specs.Fits.{fits, fits_wait}
use Rattle.run_grammar.specs.Standing.{State, step, WellHanded}
use Rattle.run_grammar.specs.Production.{Production, Nothing, Work, ◌⨟◌, Where, Rounds, Again, InAttempt, Under, Ended}
use Rattle.run_grammar.specs.Machine.{Spot, AtEnd, AtAgain, At, Rest, Left, Out, cut, first, then_spot, then_rest, round_spot, round_rest, fresh_spot, under_spot, under_rest, within_spot, within_rest, Position, Whole, Dead, Asking, Waiting, Cutting, position, begin, after_cut, next, Asks, Accepts}
use Rattle.run_grammar.specs.Laws.{EachFits}
use Rattle.run_grammar.proofs.Positions.{FineAt, fine_next, fine_cut, FineRest, fine_begin, word_coming}
use Rattle.run_grammar.proofs.Steps.{accepted}
use Rattle.run_grammar.specs.Machine.{after, Path}
use Rattle.run_grammar.proofs.Finishing.{Done, Closing, closed, ending, closer, closing, closing_fits, closing_pending, asked_kind, made, made_handed, made_fits}

-- each round that may come asks something
abbrev pub ClosingSpot : Spot → Type 0
ClosingSpot AtEnd = Unit {0}
ClosingSpot AtAgain = Unit {0}
ClosingSpot (At k es r) = Closing r

abbrev pub ClosingRest : Rest → Type 0
ClosingRest (Left r) = Closing r
ClosingRest (Out i) = Unit {0}

closing_then : (t u : Spot) (q : Production) → ClosingSpot t → ClosingSpot u → Closing q → ClosingSpot (then_spot t q u)
closing_then AtEnd u q f g h = g
closing_then AtAgain u q f g h = tt
closing_then (At k es r) u q f g h = (f, h)

closing_fresh : (u : Spot) (q : Production) → ClosingSpot u → Closing q → ((ds : List Role) (s : State) → Done q ds Ended s) → ClosingSpot (fresh_spot u q)
closing_fresh AtEnd q f h a = tt
closing_fresh AtAgain q f h a = tt
closing_fresh (At k es r) q f h a = (f, h, a)

closing_round : (t u : Spot) (q : Production) → ClosingSpot t → ClosingSpot u → Closing q → ((ds : List Role) (s : State) → Done q ds Ended s) → ClosingSpot (round_spot t q u)
closing_round AtEnd u q f g h a = tt
closing_round AtAgain u q f g h a = closing_fresh u q g h a
closing_round (At k es r) u q f g h a = (f, h, a)

closing_under : (c : Role) (t : Spot) (q : Production) → ClosingSpot t → Closing q → ClosingSpot (under_spot c t q)
closing_under c AtEnd q f h = tt
closing_under c AtAgain q f h = tt
closing_under c (At k es r) q f h = (f, h)

closing_within : (t : Spot) → ClosingSpot t → ClosingSpot (within_spot t)
closing_within AtEnd f = tt
closing_within AtAgain f = tt
closing_within (At k es r) f = f

pub closing_first : (p : Production) → Closing p → (ds : List Role) (s : State) → ClosingSpot (first p ds s)
closing_first Nothing f ds s = tt
closing_first Again f ds s = tt
closing_first (Work k) f ds s = tt
closing_first (p ⨟ q) f ds s = closing_then (first p ds s) (first q ds s) q (closing_first p f.0 ds s) (closing_first q f.1 ds s) f.1
closing_first (Where test p q) f ds s =
    elim (holds test s) as (λ b. ClosingSpot (cond b (first p ds s) (first q ds s))) [ true ↦ closing_first p f.0 ds s | false ↦ closing_first q f.1 ds s ]
closing_first (Rounds p q) f ds s = closing_round (first p ds s) (first q ds s) q (closing_first p f.0 ds s) (closing_first q f.1 ds s) f.1 f.2
closing_first (InAttempt p) f ds s = closing_within (first p ds s) (closing_first p f ds s)
closing_first (Under c p q) f ds s = closing_under c (first p (c ∷ ds) s) q (closing_first p f.0 (c ∷ ds) s) f.1

closing_then_rest : (r : Rest) (q : Production) → ClosingRest r → Closing q → ClosingRest (then_rest r q)
closing_then_rest (Left r) q f h = (f, h)
closing_then_rest (Out i) q f h = tt

closing_round_rest : (r : Rest) (q : Production) → ClosingRest r → Closing q → ((ds : List Role) (s : State) → Done q ds Ended s) → ClosingRest (round_rest r q)
closing_round_rest (Left r) q f h a = (f, h, a)
closing_round_rest (Out i) q f h a = tt

closing_within_rest : (r : Rest) → ClosingRest r → ClosingRest (within_rest r)
closing_within_rest (Left r) f = f
closing_within_rest (Out i) f = tt

closing_under_out : (same i : Bool) (q : Production) → Closing q → ClosingRest (cond same (Left (cond i q Nothing)) (Out i))
closing_under_out true true q h = h
closing_under_out true false q h = tt
closing_under_out false i q h = tt

closing_under_rest : (same : Bool) (c : Role) (r : Rest) (q : Production) → ClosingRest r → Closing q → ClosingRest (under_rest same c r q)
closing_under_rest same c (Left r) q f h = (f, h)
closing_under_rest same c (Out i) q f h = closing_under_out same i q h

pub closing_cut : (p : Production) → Closing p → (d : Role) → ClosingRest (cut p d)
closing_cut Nothing f d = tt
closing_cut Again f d = tt
closing_cut (Work k) f d = tt
closing_cut (p ⨟ q) f d = closing_then_rest (cut p d) q (closing_cut p f.0 d) f.1
closing_cut (Where test p q) f d = tt
closing_cut (Rounds p q) f d = closing_round_rest (cut p d) q (closing_cut p f.0 d) f.1 f.2
closing_cut (InAttempt p) f d = closing_within_rest (cut p d) (closing_cut p f d)
closing_cut (Under c p q) f d = closing_under_rest (same_role c d) c (cut p d) q (closing_cut p f.0 d) f.1

-- no Again is left open
abbrev pub SpotClosed : Spot → Type 0
SpotClosed AtEnd = Unit {0}
SpotClosed AtAgain = ⊥
SpotClosed (At k es r) = closed r ≡ true

abbrev pub RestClosed : Rest → Type 0
RestClosed (Left r) = closed r ≡ true
RestClosed (Out i) = Unit {0}

both_closed : (a b : Bool) → cond a b false ≡ true → (a ≡ true) × (b ≡ true)
both_closed true b h = (refl, h)
both_closed false b h = absurd (cc)

closed_both : (a b : Bool) → a ≡ true → b ≡ true → cond a b false ≡ true
closed_both true b h g = g
closed_both false b h g = absurd (cc)

closed_then : (t u : Spot) (q : Production) → SpotClosed t → SpotClosed u → closed q ≡ true → SpotClosed (then_spot t q u)
closed_then AtEnd u q f g h = g
closed_then AtAgain u q f g h = f
closed_then (At k es r) u q f g h = closed_both (closed r) (closed q) f h

closed_fresh : (u : Spot) (q : Production) → SpotClosed (fresh_spot u q)
closed_fresh AtEnd q = tt
closed_fresh AtAgain q = tt
closed_fresh (At k es r) q = refl

closed_round : (t u : Spot) (q : Production) → SpotClosed (round_spot t q u)
closed_round AtEnd u q = tt
closed_round AtAgain u q = closed_fresh u q
closed_round (At k es r) u q = refl

closed_under : (c : Role) (t : Spot) (q : Production) → SpotClosed t → closed q ≡ true → SpotClosed (under_spot c t q)
closed_under c AtEnd q f h = tt
closed_under c AtAgain q f h = f
closed_under c (At k es r) q f h = closed_both (closed r) (closed q) f h

closed_within : (t : Spot) → SpotClosed t → SpotClosed (within_spot t)
closed_within AtEnd f = tt
closed_within AtAgain f = f
closed_within (At k es r) f = f

pub closed_first : (p : Production) → closed p ≡ true → (ds : List Role) (s : State) → SpotClosed (first p ds s)
closed_first Nothing f ds s = tt
closed_first Again f ds s = absurd (cc)
closed_first (Work k) f ds s = refl
closed_first (p ⨟ q) f ds s =
    let b = both_closed (closed p) (closed q) f in closed_then (first p ds s) (first q ds s) q (closed_first p b.0 ds s) (closed_first q b.1 ds s) b.1
closed_first (Where test p q) f ds s =
    let b = both_closed (closed p) (closed q) f in
    elim (holds test s) as (λ b. SpotClosed (cond b (first p ds s) (first q ds s))) [ true ↦ closed_first p b.0 ds s | false ↦ closed_first q b.1 ds s ]
closed_first (Rounds p q) f ds s = closed_round (first p ds s) (first q ds s) q
closed_first (InAttempt p) f ds s = closed_within (first p ds s) (closed_first p f ds s)
closed_first (Under c p q) f ds s =
    let b = both_closed (closed p) (closed q) f in closed_under c (first p (c ∷ ds) s) q (closed_first p b.0 (c ∷ ds) s) b.1

closed_then_rest : (r : Rest) (q : Production) → RestClosed r → closed q ≡ true → RestClosed (then_rest r q)
closed_then_rest (Left r) q f h = closed_both (closed r) (closed q) f h
closed_then_rest (Out i) q f h = tt

closed_round_rest : (r : Rest) (q : Production) → RestClosed (round_rest r q)
closed_round_rest (Left r) q = refl
closed_round_rest (Out i) q = tt

closed_under_out : (same i : Bool) (q : Production) → closed q ≡ true → RestClosed (cond same (Left (cond i q Nothing)) (Out i))
closed_under_out true true q h = h
closed_under_out true false q h = refl
closed_under_out false i q h = tt

closed_under_rest : (same : Bool) (c : Role) (r : Rest) (q : Production) → RestClosed r → closed q ≡ true → RestClosed (under_rest same c r q)
closed_under_rest same c (Left r) q f h = closed_both (closed r) (closed q) f h
closed_under_rest same c (Out i) q f h = closed_under_out same i q h

closed_within_rest : (r : Rest) → RestClosed r → RestClosed (within_rest r)
closed_within_rest (Left r) f = f
closed_within_rest (Out i) f = tt

pub closed_cut : (p : Production) → closed p ≡ true → (d : Role) → RestClosed (cut p d)
closed_cut Nothing f d = tt
closed_cut Again f d = tt
closed_cut (Work k) f d = tt
closed_cut (p ⨟ q) f d = let b = both_closed (closed p) (closed q) f in closed_then_rest (cut p d) q (closed_cut p b.0 d) b.1
closed_cut (Where test p q) f d = tt
closed_cut (Rounds p q) f d = closed_round_rest (cut p d) q
closed_cut (InAttempt p) f d = closed_within_rest (cut p d) (closed_cut p f d)
closed_cut (Under c p q) f d = let b = both_closed (closed p) (closed q) f in closed_under_rest (same_role c d) c (cut p d) q (closed_cut p b.0 d) b.1

-- each deadline that is armed is caught by its scope
abbrev pub IsLeft : Rest → Type 0
IsLeft (Left r) = Unit {0}
IsLeft (Out i) = ⊥

abbrev pub In : Role → List Role → Type 0
In d [] = ⊥
In d (c ∷ ds) = (d ≡ c) ⊎ In d ds

abbrev pub Each : List Role → (Role → Type 0) → Type 0
Each [] P = Unit {0}
Each (d ∷ ds) P = P d × Each ds P

each_map : (ds : List Role) (P Q : Role → Type 0) → ((d : Role) → P d → Q d) → Each ds P → Each ds Q
each_map [] P Q f h = tt
each_map (d ∷ ds) P Q f (h, g) = (f d h, each_map ds P Q f g)

each_in : (ds : List Role) (P : Role → Type 0) → ((d : Role) → In d ds → P d) → Each ds P
each_in [] P f = tt
each_in (d ∷ ds) P f = (f d (inl refl), each_in ds P (λ c h. f c (inr h)))

abbrev pub CaughtBy : Production → List Role → Role → Type 0
CaughtBy r ds d = IsLeft (cut r d) ⊎ In d ds

abbrev pub SpotCaught : List Role → Spot → Type 0
SpotCaught ds AtEnd = Unit {0}
SpotCaught ds AtAgain = Unit {0}
SpotCaught ds (At k es r) = Each es (CaughtBy r ds)

left_then : (r : Rest) (q : Production) → IsLeft r → IsLeft (then_rest r q)
left_then (Left r) q h = tt
left_then (Out i) q h = h

left_round : (r : Rest) (q : Production) → IsLeft r → IsLeft (round_rest r q)
left_round (Left r) q h = tt
left_round (Out i) q h = h

left_within : (r : Rest) → IsLeft r → IsLeft (within_rest r)
left_within (Left r) h = tt
left_within (Out i) h = h

left_under : (same : Bool) (c : Role) (r : Rest) (q : Production) → IsLeft r → IsLeft (under_rest same c r q)
left_under same c (Left r) q h = tt
left_under same c (Out i) q h = absurd h

left_same : (same : Bool) (c : Role) (r : Rest) (q : Production) → same ≡ true → IsLeft (under_rest same c r q)
left_same true c (Left r) q h = tt
left_same true c (Out i) q h = tt
left_same false c r q h = absurd (cc)

same_itself : (c : Role) → same_role c c ≡ true
same_itself Operation = refl
same_itself Attempt = refl
same_itself Send = refl
same_itself LongPoll = refl
same_itself Retry = refl

caught_then : (ds : List Role) (t u : Spot) (q : Production) → SpotCaught ds t → SpotCaught ds u → SpotCaught ds (then_spot t q u)
caught_then ds AtEnd u q f g = g
caught_then ds AtAgain u q f g = tt
caught_then ds (At k es r) u q f g = each_map es (CaughtBy r ds) (CaughtBy (r ⨟ q) ds) (λ d h. elim h [ inl x ↦ inl (left_then (cut r d) q x) | inr y ↦ inr y ]) f

caught_fresh : (ds : List Role) (u : Spot) (q : Production) → SpotCaught ds u → SpotCaught ds (fresh_spot u q)
caught_fresh ds AtEnd q f = tt
caught_fresh ds AtAgain q f = tt
caught_fresh ds (At k es r) q f = each_map es (CaughtBy r ds) (CaughtBy (Rounds r q) ds) (λ d h. elim h [ inl x ↦ inl (left_round (cut r d) q x) | inr y ↦ inr y ]) f

caught_round : (ds : List Role) (t u : Spot) (q : Production) → SpotCaught ds t → SpotCaught ds u → SpotCaught ds (round_spot t q u)
caught_round ds AtEnd u q f g = tt
caught_round ds AtAgain u q f g = caught_fresh ds u q g
caught_round ds (At k es r) u q f g = each_map es (CaughtBy r ds) (CaughtBy (Rounds r q) ds) (λ d h. elim h [ inl x ↦ inl (left_round (cut r d) q x) | inr y ↦ inr y ]) f

caught_one : (c : Role) (r q : Production) (ds : List Role) (d : Role) → CaughtBy r (c ∷ ds) d → CaughtBy (Under c r q) ds d
caught_one c r q ds d (inl x) = inl (left_under (same_role c d) c (cut r d) q x)
caught_one c r q ds d (inr (inl e)) = inl (left_same (same_role c d) c (cut r d) q (subst (λ b. same_role c b ≡ true) (sym e) (same_itself c)))
caught_one c r q ds d (inr (inr h)) = inr h

caught_under : (c : Role) (ds : List Role) (t : Spot) (q : Production) → SpotCaught (c ∷ ds) t → SpotCaught ds (under_spot c t q)
caught_under c ds AtEnd q f = tt
caught_under c ds AtAgain q f = tt
caught_under c ds (At k es r) q f = each_map es (CaughtBy r (c ∷ ds)) (CaughtBy (Under c r q) ds) (λ d h. caught_one c r q ds d h) f

caught_within : (ds : List Role) (t : Spot) → SpotCaught ds t → SpotCaught ds (within_spot t)
caught_within ds AtEnd f = tt
caught_within ds AtAgain f = tt
caught_within ds (At k es r) f = each_map es (CaughtBy r ds) (CaughtBy (InAttempt r) ds) (λ d h. elim h [ inl x ↦ inl (left_within (cut r d) x) | inr y ↦ inr y ]) f

pub caught_first : (p : Production) (ds : List Role) (s : State) → SpotCaught ds (first p ds s)
caught_first Nothing ds s = tt
caught_first Again ds s = tt
caught_first (Work k) ds s = each_in ds (CaughtBy Nothing ds) (λ d h. inr h)
caught_first (p ⨟ q) ds s = caught_then ds (first p ds s) (first q ds s) q (caught_first p ds s) (caught_first q ds s)
caught_first (Where test p q) ds s =
    elim (holds test s) as (λ b. SpotCaught ds (cond b (first p ds s) (first q ds s))) [ true ↦ caught_first p ds s | false ↦ caught_first q ds s ]
caught_first (Rounds p q) ds s = caught_round ds (first p ds s) (first q ds s) q (caught_first p ds s) (caught_first q ds s)
caught_first (InAttempt p) ds s = caught_within ds (first p ds s) (caught_first p ds s)
caught_first (Under c p q) ds s = caught_under c ds (first p (c ∷ ds) s) q (caught_first p (c ∷ ds) s)

-- a position from which the run can be ended
abbrev pub Catches : Production → Role → Type 0
Catches r d = IsLeft (cut r d)

abbrev pub GoodAt : Position → Type 0
GoodAt Whole = Unit {0}
GoodAt Dead = ⊥
GoodAt (Asking k es r) = Closing r × (closed r ≡ true) × Each es (Catches r)
GoodAt (Waiting k es ds r) = Closing r × (closed r ≡ true) × Each es (Catches r) × Each ds (Catches r)
GoodAt (Cutting k d r) = Closing r × (closed r ≡ true) × Catches r d

good_position : (t : Spot) → ClosingSpot t → SpotClosed t → SpotCaught [] t → GoodAt (position t)
good_position AtEnd f g h = tt
good_position AtAgain f g h = g
good_position (At k es r) f g h = (f, g, each_map es (CaughtBy r []) (Catches r) (λ d x. elim x [ inl y ↦ y | inr z ↦ absurd z ]) h)

pub good_begin : (p : Production) → Closing p → closed p ≡ true → (s : State) → GoodAt (begin p s)
good_begin p f g s = good_position (first p [] s) (closing_first p f [] s) (closed_first p g [] s) (caught_first p [] s)

good_after_cut : (r : Rest) (s : State) → IsLeft r → ClosingRest r → RestClosed r → GoodAt (after_cut r s)
good_after_cut (Left r) s h f g = good_begin r f g s
good_after_cut (Out i) s h f g = absurd h

good_answered : (b : Bool) (k : Kind) (es : List Role) (r : Production) (s : State) → Closing r → closed r ≡ true → Each es (Catches r) → GoodAt (cond b (Waiting k es es r) (begin r s))
good_answered true k es r s f g h = (f, g, h, h)
good_answered false k es r s f g h = good_begin r f g s

wait_cases : (a : Answer) → fits_wait a ≡ true → (is_pending a ≡ true) ⊎ ((is_pending a ≡ false) × (is_ready a ≡ true))
wait_cases Pending h = inl refl
wait_cases Ready h = inr (refl, refl)
wait_cases _ h = absurd (cc)

pub wait_answer : (e : Entry) (d : Role) → kind_of e ≡ Wait d → fits (kind_of e) e.answer ≡ true → (pending e ≡ true) ⊎ ((pending e ≡ false) × (ready e ≡ true))
unfolding pending ready fits
wait_answer e d k h =
    subst (λ j. fits j e.answer ≡ true → (cond (can_wait j) (is_pending e.answer) false ≡ true) ⊎ ((cond (can_wait j) (is_pending e.answer) false ≡ false) × (is_ready e.answer ≡ true)))
    (sym k) (λ g. wait_cases e.answer g) h

good_waited : (b c : Bool) (k : Kind) (d : Role) (es ds : List Role) (r : Production) → (b ≡ true) ⊎ ((b ≡ false) × (c ≡ true)) → Closing r → closed r ≡ true → Each es (Catches r) →
    Catches r d → Each ds (Catches r) → GoodAt (cond b (Waiting k es ds r) (cond c (Cutting k d r) Dead))
good_waited true c k d es ds r x f g h i j = (f, g, h, j)
good_waited false true k d es ds r x f g h i j = (f, g, i)
good_waited false false k d es ds r (inl x) f g h i j = absurd (cc)
good_waited false false k d es ds r (inr (x, y)) f g h i j = absurd (cc)

pub good_next : (p : Position) → GoodAt p → (s : State) (e : Entry) → Asks p (kind_of e) → fits (kind_of e) e.answer ≡ true → GoodAt (next p s e)
good_next Whole g s e a h = absurd a
good_next Dead g s e a h = g
good_next (Asking k es r) g s e a h = good_answered (pending e) k es r s g.0 g.1 g.2
good_next (Waiting k es [] r) g s e a h = (g.0, g.1, g.2)
good_next (Waiting k es (d ∷ ds) r) g s e a h = good_waited (pending e) (ready e) k d es ds r (wait_answer e d a h) g.0 g.1 g.2 g.3.0 g.3.1
good_next (Cutting k d r) g s e a h = good_after_cut (cut r d) s g.2 (closing_cut r g.0 d) (closed_cut r g.1 d)

pub good_after : (l : List Entry) (p : Position) → GoodAt p → (s : State) → Path p s l → EachFits l → GoodAt (after p s l)
good_after [] p g s a h = g
good_after (e ∷ l) p g s (a, w) (h, i) = good_after l (next p (step s e) e) (good_next p g (step s e) e a h) (step s e) w i

pub fine_after : (l : List Entry) (p : Position) → FineAt p → (s : State) → FineAt (after p s l)
fine_after [] p f s = f
fine_after (e ∷ l) p f s = fine_after l (next p (step s e) e) (fine_next p f (step s e) e) (step s e)

-- a list that ends the run from here
pub record Rescue (p : Position) (s : State) : Type 0 where
  pub list : List Entry
  pub accepts : Accepts p s list
  pub handed : WellHanded s list
  pub fitting : EachFits list

rescue_asking : (k : Kind) (es : List Role) (r : Production) → FineAt (Asking k es r) → GoodAt (Asking k es r) → (s : State) → Rescue (Asking k es r) s
rescue_asking k es r f g s =
    let d = ending r g.0 g.1 [] (step s (closer k s)) in
    record {
      list = closer k s ∷ d.list;
      accepts = accepted (closer k s ∷ d.list) (Asking k es r) f s (inl (closer k s ∷ [], d.list, refl, (zero, (closer k s, refl, asked_kind k s, closing_pending k s)), d.word));
      handed = (made_handed k s, d.handed);
      fitting = (made_fits k s (closing k) (closing_fits k), d.fitting);
    }

rescue_park : (k : Kind) (es : List Role) (r : Production) (s : State) → Rescue (Asking k es r) (step s (closer Park s)) → Rescue (Waiting k es [] r) s
rescue_park k es r s d =
    record { list = closer Park s ∷ d.list; accepts = (asked_kind Park s, d.accepts); handed = (made_handed Park s, d.handed); fitting = (made_fits Park s (closing Park) (closing_fits Park), d.fitting) }

abbrev waiter : Role → State → Entry
waiter d s = made (Wait d) s Pending

waiter_pending : (d : Role) (s : State) → pending (waiter d s) ≡ true
unfolding pending
waiter_pending d s = subst (λ j. cond (can_wait j) true false ≡ true) (sym (asked_kind (Wait d) s)) refl

waiter_fits : (d : Role) → fits (Wait d) Pending ≡ true
unfolding fits
waiter_fits d = refl

rescue_wait : (k : Kind) (es ds : List Role) (r : Production) (d : Role) (s : State) → Rescue (Waiting k es ds r) (step s (waiter d s)) → Rescue (Waiting k es (d ∷ ds) r) s
rescue_wait k es ds r d s w =
    record {
      list = waiter d s ∷ w.list;
      accepts = (asked_kind (Wait d) s, subst (λ b. Accepts (cond b (Waiting k es ds r) (cond (ready (waiter d s)) (Cutting k d r) Dead)) (step s (waiter d s)) w.list) (sym (waiter_pending d s)) w.accepts);
      handed = (made_handed (Wait d) s, w.handed);
      fitting = (made_fits (Wait d) s Pending (waiter_fits d), w.fitting);
    }

rescue_waiting : (ds : List Role) (k : Kind) (es : List Role) (r : Production) → FineAt (Asking k es r) → GoodAt (Asking k es r) → (s : State) → Rescue (Waiting k es ds r) s
rescue_waiting [] k es r f g s = rescue_park k es r s (rescue_asking k es r f g (step s (closer Park s)))
rescue_waiting (d ∷ ds) k es r f g s = rescue_wait k es ds r d s (rescue_waiting ds k es r f g (step s (waiter d s)))

rescue_rest : (r : Rest) (s : State) → IsLeft r → FineRest r → ClosingRest r → RestClosed r → Rescue (after_cut r s) s
rescue_rest (Left r) s h f c g =
    let d = ending r c g [] s in
    record { list = d.list; accepts = accepted d.list (begin r s) (fine_begin r f s) s (word_coming r f s d.list d.word); handed = d.handed; fitting = d.fitting }
rescue_rest (Out i) s h f c g = absurd h

rescue_cutting : (k : Kind) (d : Role) (r : Production) (s : State) → Rescue (after_cut (cut r d) (step s (closer (abandon_of k) s))) (step s (closer (abandon_of k) s)) → Rescue (Cutting k d r) s
rescue_cutting k d r s w =
    record { list = closer (abandon_of k) s ∷ w.list; accepts = (asked_kind (abandon_of k) s, w.accepts); handed = (made_handed (abandon_of k) s, w.handed); fitting = (made_fits (abandon_of k) s (closing (abandon_of k)) (closing_fits (abandon_of k)), w.fitting) }

pub rescue : (p : Position) → FineAt p → GoodAt p → (s : State) → Rescue p s
rescue Whole f g s = record { list = []; accepts = refl; handed = tt; fitting = tt }
rescue Dead f g s = absurd g
rescue (Asking k es r) f g s = rescue_asking k es r f g s
rescue (Waiting k es ds r) f g s = rescue_waiting ds k es r f (g.0, g.1, g.2) s
rescue (Cutting k d r) f g s = rescue_cutting k d r s (rescue_rest (cut r d) (step s (closer (abandon_of k) s)) g.2 (fine_cut r f d) (closing_cut r g.0 d) (closed_cut r g.1 d))

pub asked_at : (p : Position) → GoodAt p → (p ≡ Whole) ⊎ ((k : Kind) × Asks p k)
asked_at Whole g = inl refl
asked_at Dead g = absurd g
asked_at (Asking k es r) g = inr (k, refl)
asked_at (Waiting k es [] r) g = inr (Park, refl)
asked_at (Waiting k es (d ∷ ds) r) g = inr (Wait d, refl)
asked_at (Cutting k d r) g = inr (abandon_of k, refl)
