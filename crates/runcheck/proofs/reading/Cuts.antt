-- Cuts seen from outside of frames.
use Rattle.std.proofs.Common.{List, [], ◌∷◌, ◌++◌, ◌≡◌, refl, ap, ◌∙◌}
use Rattle.run_grammar.specs.declared.kind.Role.{Role}
use Rattle.run_grammar.specs.Entry.{same_role}
use Rattle.run_grammar.specs.Production.{Production}
use Rattle.run_grammar.specs.Machine.{Rest, Left, cut, then_rest, round_rest, under_rest, within_rest}
use Rattle.runcheck.specs.declared.reading.walk.Frame.{Frame}
use Rattle.runcheck.specs.declared.reading.walk.Frame.TheVariants.{Then, Round, Scope, Within}
use Rattle.runcheck.specs.Reading.Productions.{production_of}
use Rattle.runcheck.specs.Reading.Frames.{wrap, plug}

abbrev pub cut_around : Frame → Rest → Role → Rest
cut_around (Then q) x d = then_rest x (production_of q.now)
cut_around (Round q) x d = round_rest x (production_of q.now)
cut_around (Scope c q) x d = under_rest (same_role c d) c x (production_of q.now)
cut_around Within x d = within_rest x

abbrev pub outside_cut : List Frame → Rest → Role → Rest
outside_cut [] x d = x
outside_cut (f ∷ fs) x d = cut_around f (outside_cut fs x d) d

cut_wrap : (f : Frame) (p : Production) (d : Role) → cut (wrap f p) d ≡ cut_around f (cut p d) d
cut_wrap (Then q) p d = refl
cut_wrap (Round q) p d = refl
cut_wrap (Scope c q) p d = refl
cut_wrap Within p d = refl

pub cut_plug : (fs : List Frame) (p : Production) (d : Role) → cut (plug fs p) d ≡ outside_cut fs (cut p d) d
cut_plug [] p d = refl
cut_plug (f ∷ fs) p d = cut_wrap f (plug fs p) d ∙ ap (λ x. cut_around f x d) (cut_plug fs p d)

pub cut_snoc : (fs : List Frame) (f : Frame) (x : Rest) (d : Role) → outside_cut (fs ++ f ∷ []) x d ≡ outside_cut fs (cut_around f x d) d
cut_snoc [] f x d = refl
cut_snoc (g ∷ fs) f x d = ap (λ y. cut_around g y d) (cut_snoc fs f x d)

left_around : (f : Frame) (r : Production) (d : Role) → cut_around f (Left r) d ≡ Left (wrap f r)
left_around (Then q) r d = refl
left_around (Round q) r d = refl
left_around (Scope c q) r d = refl
left_around Within r d = refl

pub cut_left : (fs : List Frame) (r : Production) (d : Role) → outside_cut fs (Left r) d ≡ Left (plug fs r)
cut_left [] r d = refl
cut_left (f ∷ fs) r d = ap (λ x. cut_around f x d) (cut_left fs r d) ∙ left_around f (plug fs r) d

-- one frame further out
pub cut_passed : (x : Rest) (items fs : List Frame) (f : Frame) (y : Rest) (d : Role) → x ≡ outside_cut items y d → items ≡ fs ++ f ∷ [] → x ≡ outside_cut fs (cut_around f y d) d
cut_passed x items fs f y d e g = e ∙ (ap (λ m. outside_cut m y d) g ∙ cut_snoc fs f y d)
