use Rattle.std.proofs.Common.{◌≡◌, ◌≤◌, ℕ, arith, subst, sym, ◌∙◌}
use Rattle.rate_limit.proofs.CubeRootLemmas.{Narrows, narrows_up, narrows_down, narrowed, one_root, is_cube_root}
use Rattle.rate_limit.specs.CubeRoot.{IsCubeRoot}
use Rattle.rate_limit.proofs.root.cube_root.Goals as goal
use Rattle.rate_limit.proofs.root.cube_root.Goals.{then-has_cube_within, else-has_cube_within}

pub loop-round-preserved : goal.loop-round-preserved
loop-round-preserved c =
    let l = c.loop-round in elim c.if-has_cube_within.branch [
      | then-has_cube_within w ↦ rw (w.root-is, w.width-is) (narrows_up c.args.n l.root l.width l._round c.loop-round-test.true l.invariant (sym c.has_cube_within.ensures ∙ w.if-has_cube_within.true))
      | else-has_cube_within w ↦ rw (w.root-is, w.width-is) (narrows_down c.args.n l.root l.width l._round c.loop-round-test.true l.invariant (sym c.has_cube_within.ensures ∙ w.if-has_cube_within.false))
    ]

at_end : (n root width round : ℕ) → 43 ≤ round → round ≤ 43 → Narrows n root width round → IsCubeRoot n root
at_end n root width round h k x =
    let e : round ≡ 43 = omega arith in narrowed n root width (subst (λ r. Narrows n root width r) e x)

pub returns-clause-root : goal.returns-clause-root
returns-clause-root c =
    let l = c.loop-round in at_end c.args.n l.root l.width l._round c.loop-round-test.false l.auto._round-end l.invariant

pub returns-clause-value : goal.returns-clause-value
returns-clause-value c =
    let l = c.loop-round in
    one_root c.args.n l.root _ (at_end c.args.n l.root l.width l._round c.loop-round-test.false l.auto._round-end l.invariant) (is_cube_root c.args.n)
