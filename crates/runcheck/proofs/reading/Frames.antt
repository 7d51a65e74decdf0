-- Frames, and the spots within them.
use Rattle.std.proofs.Common.{true, false, List, [], ◌∷◌, ◌++◌, ◌≡◌, Bor, refl, sym, ap, ◌∙◌, subst, append_assoc}
use Rattle.run_grammar.specs.declared.kind.Role.{Role}
use Rattle.run_grammar.specs.declared.kind.Kind.{Kind}
use Rattle.run_grammar.specs.Standing.{State}
use Rattle.run_grammar.specs.Production.{Production, ◌⨟◌, Rounds}
use Rattle.run_grammar.specs.Machine.{Spot, AtEnd, AtAgain, At, first, then_spot, round_spot, fresh_spot, within_spot, under_spot}
use Rattle.runcheck.specs.declared.reading.production.Production.{Production as Code}
use Rattle.runcheck.specs.Reading.Productions.{production_of}
use Rattle.runcheck.specs.declared.reading.walk.Frame.{Frame}
use Rattle.runcheck.specs.declared.reading.walk.Frame.TheVariants.{Then, Round, Scope, Within}
use Rattle.runcheck.specs.declared.reading.walk.Begun.{Begun}
use Rattle.runcheck.specs.declared.reading.walk.Begun.TheVariants as begun
use Rattle.runcheck.specs.Reading.Frames.{Found, arms, armed_in, armed, wrap, through, is_over, is_further, or_over, around, spot_of}

pub armed-snoc : (fs : List Frame) (f : Frame) (ds : List Role) → armed_in ds (fs ++ f ∷ []) ≡ arms f (armed_in ds fs)
armed-snoc [] f ds = refl
armed-snoc (g ∷ fs) f ds = armed-snoc fs f (arms g ds)

pub found_in : (b : Begun) (fs gs items : List Frame) (f : Frame) (p : Production) (s : State) → items ≡ fs ++ f ∷ [] → Found b items gs (first p (armed items) s) → Found b (fs ++ f ∷ []) gs (first p (arms f (armed fs)) s)
found_in b fs gs items f p s e h = subst (λ m. Found b m gs (first p (arms f (armed fs)) s)) e (subst (λ ds. Found b items gs (first p ds s)) (ap armed e ∙ armed-snoc fs f []) h)

pub found_at : (k : Kind) (fs gs : List Frame) (f : Frame) (t : Spot) → Found (begun.At k) (fs ++ f ∷ []) gs t → Found (begun.At k) fs gs (through f t)
found_at k fs gs f t (ms, e, h) = (f ∷ ms, e ∙ append_assoc fs (f ∷ []) ms, ap (through f) h)

within_through : (t : Spot) → within_spot t ≡ through Within t
within_through AtEnd = refl
within_through AtAgain = refl
within_through (At k es r) = refl

scope_through : (d : Role) (q : Bor Code) (t : Spot) → under_spot d t (production_of q.now) ≡ through (Scope d q) t
scope_through d q AtEnd = refl
scope_through d q AtAgain = refl
scope_through d q (At k es r) = refl

-- where it begins within a frame of its own
pub found_wrapped : (b : Begun) (fs gs : List Frame) (f : Frame) (p q : Production) (s : State) → q ≡ wrap f p → ((ds : List Role) → first (wrap f p) ds s ≡ through f (first p (arms f ds) s)) →
    Found b fs gs (through f (first p (arms f (armed fs)) s)) → Found b fs gs (first q (armed fs) s)
found_wrapped b fs gs f p q s e g h = subst (λ t. Found b fs gs t) (sym (ap (λ r. first r (armed fs) s) e ∙ g (armed fs))) h

pub first_within : (p : Production) (s : State) (ds : List Role) → first (wrap Within p) ds s ≡ through Within (first p (arms Within ds) s)
first_within p s ds = within_through (first p ds s)

pub first_scope : (d : Role) (q : Bor Code) (p : Production) (s : State) (ds : List Role) → first (wrap (Scope d q) p) ds s ≡ through (Scope d q) (first p (arms (Scope d q) ds) s)
first_scope d q p s ds = scope_through d q (first p (d ∷ ds) s)

then_through : (q : Bor Code) (t u : Spot) → (t ≡ AtEnd → ⊥) → then_spot t (production_of q.now) u ≡ through (Then q) t
then_through q AtEnd u n = absurd (n refl)
then_through q AtAgain u n = refl
then_through q (At k es r) u n = refl

round_through : (q : Bor Code) (t u : Spot) → (t ≡ AtAgain → ⊥) → round_spot t (production_of q.now) u ≡ through (Round q) t
round_through q AtEnd u n = refl
round_through q AtAgain u n = absurd (n refl)
round_through q (At k es r) u n = refl

-- a round that follows
again : Spot → Spot
again AtAgain = AtEnd
again t = t

fresh_through : (q : Bor Code) (b : Begun) (fs gs : List Frame) (t : Spot) → Found b fs gs t → Found (or_over b) fs gs (again t) × (fresh_spot t (production_of q.now) ≡ through (Round q) (again t))
unfolding again
fresh_through q begun.Over fs gs t (e, h) = ((e, ap again h), ap (λ u. fresh_spot u (production_of q.now)) h ∙ sym (ap (λ u. through (Round q) (again u)) h))
fresh_through q begun.Further fs gs t (e, h) = ((e, ap again h), ap (λ u. fresh_spot u (production_of q.now)) h ∙ sym (ap (λ u. through (Round q) (again u)) h))
fresh_through q (begun.At k) fs gs t (ms, e, h) = ((ms, e, ap again h), ap (λ u. fresh_spot u (production_of q.now)) h ∙ sym (ap (λ u. through (Round q) (again u)) h))

not_over : (b : Begun) (fs gs : List Frame) (t : Spot) → is_over b ≡ false → Found b fs gs t → t ≡ AtEnd → ⊥
not_over begun.Over fs gs t n h e = cc
not_over begun.Further fs gs t n (g, h) e = cc
not_over (begun.At k) fs gs t n (ms, g, h) e = cc

not_further : (b : Begun) (fs gs : List Frame) (t : Spot) → is_further b ≡ false → Found b fs gs t → t ≡ AtAgain → ⊥
not_further begun.Over fs gs t n (g, h) e = cc
not_further begun.Further fs gs t n h e = cc
not_further (begun.At k) fs gs t n (ms, g, h) e = cc

spot_over : (b : Begun) (fs gs : List Frame) (t : Spot) → is_over b ≡ true → Found b fs gs t → (gs ≡ fs) × (t ≡ AtEnd)
spot_over begun.Over fs gs t n h = h
spot_over begun.Further fs gs t n h = absurd (cc)
spot_over (begun.At k) fs gs t n h = absurd (cc)

spot_further : (b : Begun) (fs gs : List Frame) (t : Spot) → is_further b ≡ true → Found b fs gs t → (gs ≡ fs) × (t ≡ AtAgain)
spot_further begun.Over fs gs t n h = absurd (cc)
spot_further begun.Further fs gs t n h = h
spot_further (begun.At k) fs gs t n h = absurd (cc)

-- the first of two asks something, or ends with Again
pub found_then : (b : Begun) (fs gs items : List Frame) (q : Bor Code) (p : Production) (s : State) → is_over b ≡ false → items ≡ fs ++ Then q ∷ [] → Found b items gs (first p (armed items) s) →
    Found b (fs ++ Then q ∷ []) gs (first p (armed fs) s) × (first (p ⨟ production_of q.now) (armed fs) s ≡ through (Then q) (first p (armed fs) s))
found_then b fs gs items q p s n e h =
    let i = found_in b fs gs items (Then q) p s e h in (i, then_through q (first p (armed fs) s) (first (production_of q.now) (armed fs) s) (not_over b _ _ _ n i))

-- the first of two asks nothing
pub found_after : (b : Begun) (fs gs items : List Frame) (q : Bor Code) (p : Production) (s : State) → is_over b ≡ true → items ≡ fs ++ Then q ∷ [] → Found b items gs (first p (armed items) s) →
    (gs ≡ fs ++ Then q ∷ []) × (first (p ⨟ production_of q.now) (armed fs) s ≡ first (production_of q.now) (armed fs) s)
found_after b fs gs items q p s n e h =
    let i = spot_over b _ _ _ n (found_in b fs gs items (Then q) p s e h) in (i.0, ap (λ t. then_spot t (production_of q.now) (first (production_of q.now) (armed fs) s)) i.1)

pub found_round : (b : Begun) (fs gs items : List Frame) (q : Bor Code) (p : Production) (s : State) → is_further b ≡ false → items ≡ fs ++ Round q ∷ [] → Found b items gs (first p (armed items) s) →
    Found b (fs ++ Round q ∷ []) gs (first p (armed fs) s) × (first (Rounds p (production_of q.now)) (armed fs) s ≡ through (Round q) (first p (armed fs) s))
found_round b fs gs items q p s n e h =
    let i = found_in b fs gs items (Round q) p s e h in (i, round_through q (first p (armed fs) s) (first (production_of q.now) (armed fs) s) (not_further b _ _ _ n i))

pub found_again : (b b' : Begun) (fs gs hs items : List Frame) (q : Bor Code) (p : Production) (s : State) → is_further b ≡ true → items ≡ fs ++ Round q ∷ [] → Found b items gs (first p (armed items) s) →
    Found b' gs hs (first (production_of q.now) (armed gs) s) →
    (t : Spot) × Found (or_over b') (fs ++ Round q ∷ []) hs t × (first (Rounds p (production_of q.now)) (armed fs) s ≡ through (Round q) t)
found_again b b' fs gs hs items q p s n e h g =
    let i = spot_further b _ _ _ n (found_in b fs gs items (Round q) p s e h) in
    let j = found_in b' fs hs gs (Round q) (production_of q.now) s i.0 g in
    let k = fresh_through q b' _ _ _ j in
    (again (first (production_of q.now) (armed fs) s), k.0, ap (λ t. round_spot t (production_of q.now) (first (production_of q.now) (armed fs) s)) i.1 ∙ k.1)

pub found_of : (b : Begun) (fs gs : List Frame) (t u : Spot) → t ≡ u → Found b fs gs t → Found b fs gs u
found_of b fs gs t u e h = subst (λ v. Found b fs gs v) e h

pub found_behind : (b : Begun) (fs gs hs : List Frame) (m n : Code) (s : State) → m ≡ n → gs ≡ hs → Found b gs fs (first (production_of m) (armed gs) s) → Found b hs fs (first (production_of n) (armed hs) s)
found_behind b fs gs hs m n s e g h = subst (λ x. Found b x fs (first (production_of n) (armed x) s)) g (subst (λ x. Found b gs fs (first (production_of x) (armed gs) s)) e h)

pub found_or_over : (b c : Begun) (fs gs : List Frame) (t : Spot) → c ≡ or_over b → Found (or_over b) fs gs t → Found c fs gs t
found_or_over b c fs gs t e h = subst (λ x. Found x fs gs t) (sym e) h

pub found_again_round : (b b' : Begun) (fs hs items : List Frame) (q : Bor Code) (s : State) → is_further b ≡ true → items ≡ fs ++ Round q ∷ [] →
    Found b' items hs (first (production_of q.now) (armed items) s) →
    (t : Spot) × Found (or_over b') (fs ++ Round q ∷ []) hs t × (around (Round q) (spot_of b) (armed fs) s ≡ through (Round q) t)
found_again_round begun.Over b' fs hs items q s n e g = absurd (cc)
found_again_round begun.Further b' fs hs items q s n e g =
    let j = found_in b' fs hs items (Round q) (production_of q.now) s e g in
    let k = fresh_through q b' _ _ _ j in
    (again (first (production_of q.now) (armed fs) s), k.0, k.1)
found_again_round (begun.At k) b' fs hs items q s n e g = absurd (cc)
