-- Each question of a run is handed what its kind works on.
use Rattle.std.proofs.Common.{true, List, [], ◌∷◌, ◌++◌, ◌≡◌, refl, sym, subst, append_assoc}
use Rattle.smithy_types.specs.declared.kinds.StopPoint.{StopPoint}
use Rattle.smithy_types.specs.declared.kinds.StopPoint.TheVariants as stops
use Rattle.smithy_types.specs.declared.payload.Payload.{Payload}
use Rattle.run_grammar.specs.declared.answer.Entry.{Entry}
use Rattle.run_grammar.specs.declared.kind.Kind.{Kind}
use Rattle.run_grammar.specs.declared.kind.Kind.TheVariants as kinds
use Rattle.run_grammar.specs.Entry.{kind_of}
use Rattle.run_grammar.specs.Grammar.{run}
use Rattle.run_grammar.specs.Laws.{IsWhole}
use Rattle.run_grammar.specs.Production.{Ended}
use Rattle.run_grammar.specs.Standing.{State, WellHanded, asked, standing, start, step}
use Rattle.laws_client.specs.Questions.Handing.{HandsParts, PartsAreHanded}
use Rattle.laws_client.proofs.questions.Facts.{Part, Input, Request, Response, Scheme, Identity, Endpoint, Has, fact, needs}
use Rattle.laws_client.proofs.questions.Levels.{At, Level, Meets, Stands, Unknown, fine, meets}

-- at a run's start the input stands, and nothing else
abbrev first : Part → Level
first Input = Stands
first _ = Unknown

first_at : (x : Part) (p : Payload) → At (fact x) (first x) (start p)
first_at Input p = refl
first_at _ p = tt

-- every question of a run that needs a part is asked where it stands
run_fine : (x : Part) (stop : StopPoint) → fine (fact x) (run stop) (first x) ≡ true
unfolding run
run_fine Input stops.None = refl
run_fine Input stops.BeforeTransmit = refl
run_fine Request stops.None = refl
run_fine Request stops.BeforeTransmit = refl
run_fine Response stops.None = refl
run_fine Response stops.BeforeTransmit = refl
run_fine Scheme stops.None = refl
run_fine Scheme stops.BeforeTransmit = refl
run_fine Identity stops.None = refl
run_fine Identity stops.BeforeTransmit = refl
run_fine Endpoint stops.None = refl
run_fine Endpoint stops.BeforeTransmit = refl

run_meets : (x : Part) (stop : StopPoint) (p : Payload) (l : List Entry) → IsWhole stop (start p) l → Meets (fact x) (start p) l
run_meets x stop p l whole = meets (fact x) (run stop) (first x) (run_fine x stop) [] Ended (start p) l whole.fitting whole.run (first_at x p)

meets_at : (x : Part) (before : List Entry) (e : Entry) (after : List Entry) (s : State) → Meets (fact x) s (before ++ e ∷ after) → needs x (kind_of e) ≡ true → Has x (standing s before).context
meets_at x [] e after s g k = g.0 k
meets_at x (y ∷ before) e after s g k = meets_at x before e after (step s y) g.1 k

pub handed_at : (before : List Entry) (e : Entry) (after : List Entry) (s : State) → WellHanded s (before ++ e ∷ after) → e.question ≡ asked (kind_of e) (standing s before)
handed_at [] e after s h = h.0
handed_at (x ∷ before) e after s h = handed_at before e after (step s x) h.1

-- a question is handed what stands
parts_asked : (k : Kind) (s : State) → ((x : Part) → needs x k ≡ true → Has x s.context) → HandsParts (asked k s)
unfolding asked
parts_asked kinds.Serialize s h = h Input refl
parts_asked kinds.Load s h = h Request refl
parts_asked kinds.Apply s h = (h Request refl, h Endpoint refl)
parts_asked kinds.Sign s h = (h Request refl, h Scheme refl, h Identity refl, h Endpoint refl)
parts_asked kinds.Transmit s h = h Request refl
parts_asked kinds.Stream s h = h Response refl
parts_asked kinds.Body s h = h Response refl
parts_asked kinds.Deserialize s h = h Response refl
parts_asked _ s h = tt

pub parts_handed : PartsAreHanded
parts_handed stop p before e begun =
    let whole = subst (IsWhole stop (start p)) (append_assoc before (e ∷ []) begun.0) begun.1 in
    subst HandsParts (sym (handed_at before e begun.0 (start p) whole.handed))
    (parts_asked (kind_of e) (standing (start p) before) (λ x k.
    meets_at x before e begun.0 (start p) (run_meets x stop p (before ++ e ∷ begun.0) whole) k))
