-- Spots seen from outside of frames.
use Rattle.std.proofs.Common.{true, false, List, [], ◌∷◌, ◌++◌, ◌≡◌, refl, sym, ap, ◌∙◌, subst}
use Rattle.run_grammar.specs.declared.kind.Role.{Role}
use Rattle.run_grammar.specs.declared.kind.Kind.{Kind}
use Rattle.run_grammar.specs.Standing.{State}
use Rattle.run_grammar.specs.Production.{Production, Nothing}
use Rattle.run_grammar.specs.Machine.{Spot, At, first}
use Rattle.runcheck.specs.declared.reading.walk.Frame.{Frame}
use Rattle.runcheck.specs.declared.reading.walk.Frame.TheVariants.{Then, Round, Scope, Within}
use Rattle.runcheck.specs.declared.reading.walk.Begun.{Begun}
use Rattle.runcheck.specs.declared.reading.walk.Begun.TheVariants as begun
use Rattle.runcheck.specs.Reading.Frames.{Found, Reached, arms, armed_in, armed, wrap, plug, around, outside, is_at, spot_of}

first_wrap : (f : Frame) (p : Production) (ds : List Role) (s : State) → first (wrap f p) ds s ≡ around f (first p (arms f ds) s) ds s
first_wrap (Then q) p ds s = refl
first_wrap (Round q) p ds s = refl
first_wrap (Scope d q) p ds s = refl
first_wrap Within p ds s = refl

pub first_plug : (fs : List Frame) (p : Production) (ds : List Role) (s : State) → first (plug fs p) ds s ≡ outside fs (first p (armed_in ds fs) s) ds s
first_plug [] p ds s = refl
first_plug (f ∷ fs) p ds s = first_wrap f (plug fs p) ds s ∙ ap (λ t. around f t ds s) (first_plug fs p (arms f ds) s)

pub outside_snoc : (fs : List Frame) (f : Frame) (t : Spot) (ds : List Role) (s : State) → outside (fs ++ f ∷ []) t ds s ≡ outside fs (around f t (armed_in ds fs) s) ds s
outside_snoc [] f t ds s = refl
outside_snoc (g ∷ fs) f t ds s = ap (λ u. around g u ds s) (outside_snoc fs f t (arms g ds) s)

around_at : (f : Frame) (k : Kind) (es : List Role) (r : Production) (ds : List Role) (s : State) → around f (At k es r) ds s ≡ At k es (wrap f r)
around_at (Then q) k es r ds s = refl
around_at (Round q) k es r ds s = refl
around_at (Scope d q) k es r ds s = refl
around_at Within k es r ds s = refl

outside_at : (fs : List Frame) (k : Kind) (es : List Role) (r : Production) (ds : List Role) (s : State) → outside fs (At k es r) ds s ≡ At k es (plug fs r)
outside_at [] k es r ds s = refl
outside_at (f ∷ fs) k es r ds s = ap (λ t. around f t ds s) (outside_at fs k es r (arms f ds) s) ∙ around_at f k es (plug fs r) ds s

plug-append : (fs gs : List Frame) (r : Production) → plug (fs ++ gs) r ≡ plug fs (plug gs r)
plug-append [] gs r = refl
plug-append (f ∷ fs) gs r = ap (λ p. wrap f p) (plug-append fs gs r)

-- what is found with all frames left is reached
pub reached_at : (b : Begun) (fs gs : List Frame) (t u : Spot) (s : State) → is_at b ≡ true → Found b fs gs t → u ≡ outside fs t [] s → Reached b gs u
reached_at begun.Over fs gs t u s n h e = absurd (cc)
reached_at begun.Further fs gs t u s n h e = absurd (cc)
reached_at (begun.At k) fs gs t u s n (hs, g, h) e =
    e ∙ (ap (λ v. outside fs v [] s) h ∙ (outside_at fs k (armed gs) (plug hs Nothing) [] s ∙ ap (λ p. At k (armed gs) p) (sym (plug-append fs hs Nothing) ∙ sym (ap (λ m. plug m Nothing) g))))

-- what is found with no frame left is reached
pub reached_end : (b : Begun) (fs gs hs : List Frame) (t u : Spot) (s : State) → is_at b ≡ false → gs ≡ [] → Found b fs gs t → u ≡ outside fs t [] s → Reached b hs u
reached_end begun.Over fs gs hs t u s n m (g, h) e = e ∙ (ap (λ x. outside x t [] s) (sym g ∙ m) ∙ h)
reached_end begun.Further fs gs hs t u s n m (g, h) e = e ∙ (ap (λ x. outside x t [] s) (sym g ∙ m) ∙ h)
reached_end (begun.At k) fs gs hs t u s n m h e = absurd (cc)

-- what is found without a question is all of the frames, and its own spot
pub found_spot : (b : Begun) (fs gs : List Frame) (t : Spot) → is_at b ≡ false → Found b fs gs t → (gs ≡ fs) × (t ≡ spot_of b)
found_spot begun.Over fs gs t n h = h
found_spot begun.Further fs gs t n h = h
found_spot (begun.At k) fs gs t n h = absurd (cc)

pub reached_of : (b : Begun) (gs : List Frame) (t u : Spot) → t ≡ u → Reached b gs t → Reached b gs u
reached_of b gs t u e h = subst (λ v. Reached b gs v) e h

-- one frame further out
pub found_around : (b b' : Begun) (fs gs hs items : List Frame) (f : Frame) (t : Spot) (s : State) → is_at b ≡ false → items ≡ gs ++ f ∷ [] → Found b fs items t → Found b' gs hs (around f (spot_of b) (armed gs) s) →
    outside fs t [] s ≡ outside gs (around f (spot_of b) (armed gs) s) [] s
found_around b b' fs gs hs items f t s n e h g =
    let i = found_spot b fs items t n h in
    ap (λ x. outside x t [] s) (sym i.0 ∙ e) ∙ (outside_snoc gs f t [] s ∙ ap (λ u. outside gs (around f u (armed gs) s) [] s) i.1)
