-- The default answers fit.
use Rattle.std.proofs.Common.{Bool, true, Some, List, [], ◌∷◌, ◌++◌, ◌≡◌, refl, sym, ap, ◌∙◌, subst}
use Rattle.run_grammar.specs.declared.answer.Answer.{Answer}
use Rattle.std.proofs.lemmas.Option.{same_Some}
use Rattle.run_grammar.specs.declared.kind.Kind.{Kind}
use Rattle.run_grammar.specs.declared.kind.Kind.TheVariants.{Configure, Hook, Serialize, Load, Initial, Start, Wait, Choose, Endpoint, Apply, Sign, Transmit, Stream, Body, Deserialize, Decide, Abandon, Park}
use Rattle.run_grammar.specs.Fits.{fits}
use Rattle.run_grammar.specs.declared.answer.Entry.{Entry}
use Rattle.run_grammar.specs.Entry.{kind_of}
use Rattle.orchestrate.specs.declared.script.ScriptAnswer.{ScriptAnswer}
use Rattle.orchestrate.specs.Script.{default_for, next_of, left_by, Replies, RepliesBy, Spelled}

pub default_fits : (k : Kind) → fits k (default_for k) ≡ true
unfolding fits
default_fits (Configure c) = refl
default_fits (Hook h) = refl
default_fits Serialize = refl
default_fits Load = refl
default_fits Initial = refl
default_fits (Start r) = refl
default_fits (Wait r) = refl
default_fits Choose = refl
default_fits Endpoint = refl
default_fits Apply = refl
default_fits Sign = refl
default_fits Transmit = refl
default_fits Stream = refl
default_fits Body = refl
default_fits Deserialize = refl
default_fits Decide = refl
default_fits (Abandon a) = refl
default_fits Park = refl

-- one more entry
pub spelled_more : (xs ys zs : List ScriptAnswer) (l : List Entry) (e : Entry) (taken : Bool) → zs ≡ left_by taken ys → Spelled xs l ys → Replies ys (kind_of e) e.answer taken →
    Spelled xs (l ++ e ∷ []) zs
spelled_more xs ys zs [] e taken f h r =
    (taken, subst (λ vs. Replies vs (kind_of e) e.answer taken) h r, f ∙ ap (λ vs. left_by taken vs) h)
spelled_more xs ys zs (x ∷ l) e taken f (u, q, h) r = (u, q, spelled_more (left_by u xs) ys zs l e taken f h r)

-- the next answer is the one that is replied, where it is taken
pub replied : (xs : List ScriptAnswer) (k : Kind) (x : ScriptAnswer) (a : Answer) → next_of xs ≡ Some x → RepliesBy (next_of xs) k a true → x.answer ≡ a
replied xs k x a e (y, f, g, h) = ap (λ z. z.answer) (same_Some x y (sym e ∙ f)) ∙ sym h
