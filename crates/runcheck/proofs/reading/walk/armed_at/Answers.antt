use Rattle.std.proofs.Common.{take, [], ap, ◌∙◌, refl}
use Rattle.std.proofs.lemmas.Option.{slice_get_read, slice_get_past}
use Rattle.runcheck.specs.Reading.Frames.{arms, armed}
use Rattle.runcheck.proofs.reading.Below.{taken_some, taken_none}
use Rattle.runcheck.proofs.reading.walk.armed_at.Goals as goal

pub returns-in-Scope-clause-some : goal.returns-in-Scope-clause-some
returns-in-Scope-clause-some c = let l = c.in-Some.ensures.lookup in
    taken_some c.args.left.now c.args.at [] c.in-Some.frame.now (slice_get_read c.args.left.now _ c.args.at _ refl l.3.0 l.1) ∙ ap (λ f. arms f (armed (take c.args.at c.args.left.now))) c.in-Scope.is

pub returns-in-Then-clause-none : goal.returns-in-Then-clause-none
returns-in-Then-clause-none c = let l = c.in-Some.ensures.lookup in
    taken_some c.args.left.now c.args.at [] c.in-Some.frame.now (slice_get_read c.args.left.now _ c.args.at _ refl l.3.0 l.1) ∙ ap (λ f. arms f (armed (take c.args.at c.args.left.now))) c.in-Then.is

pub returns-in-Round-clause-none : goal.returns-in-Round-clause-none
returns-in-Round-clause-none c = let l = c.in-Some.ensures.lookup in
    taken_some c.args.left.now c.args.at [] c.in-Some.frame.now (slice_get_read c.args.left.now _ c.args.at _ refl l.3.0 l.1) ∙ ap (λ f. arms f (armed (take c.args.at c.args.left.now))) c.in-Round.is

pub returns-in-Within-clause-none : goal.returns-in-Within-clause-none
returns-in-Within-clause-none c = let l = c.in-Some.ensures.lookup in
    taken_some c.args.left.now c.args.at [] c.in-Some.frame.now (slice_get_read c.args.left.now _ c.args.at _ refl l.3.0 l.1) ∙ ap (λ f. arms f (armed (take c.args.at c.args.left.now))) c.in-Within.is

pub returns-in-None-clause-none : goal.returns-in-None-clause-none
returns-in-None-clause-none c = taken_none c.args.left.now c.args.at [] (slice_get_past c.args.left.now c.args.at c.in-None.ensures.lookup.3)
