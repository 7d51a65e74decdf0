use Rattle.std.proofs.Common.{◌<◌, length, arith, ◌++◌, ◌∷◌, [], sym, ◌∙◌, ap, bytes_eq}
use Rattle.std.specs.List.{remove}
use Rattle.auth_endpoint.specs.Choice.{is_id}
use Rattle.auth_endpoint.proofs.PreferenceLemmas.{moved_one, moved_not, read_next}
use Rattle.auth_endpoint.proofs.preference.move_back.Goals as goal
use Rattle.auth_endpoint.proofs.preference.move_back.Goals.{then-eq, else-eq}

pub loop-preserved : goal.loop-preserved
loop-preserved c =
    let old = c.args.options.now.items in
    let inside : c.loop.counter < length old = omega (arith, c.loop-test.true, c.len-end.ensures, c.args.options.now.ok.0) in
    let test = is_id c.args.id.now in
    let x = c.index.result.now in
    let is = c.index.ensures ∙ read_next test old c.loop.counter c.loop.kept c.loop.options.items x x c.loop.invariant inside in
    let tested = ap (λ t. bytes_eq t c.args.id.now) (sym c.as_str.ensures) ∙ sym c.eq.ensures in
    elim c.if-eq.branch [
      | then-eq w ↦
          let r = w.remove-option.result in
          let same = w.remove-option.ensures.value ∙ read_next test old c.loop.counter c.loop.kept c.loop.options.items r x c.loop.invariant inside ∙ sym is in
          let made = w.push_reserved.ensures.items ∙ ap (λ l. l ++ r ∷ []) w.remove-option.ensures.items ∙ ap (λ t. remove c.loop.options.items c.loop.kept ++ t ∷ []) same in
          rw (w.options-is, w.kept-is) (moved_one test old c.loop.counter c.loop.kept c.loop.options.items w.push_reserved.new.self.items x c.loop.invariant inside is (tested ∙ w.if-eq.true) made)
      | else-eq w ↦ rw (w.options-is, w.kept-is) (moved_not test old c.loop.counter c.loop.kept c.loop.options.items x c.loop.invariant inside is (tested ∙ w.if-eq.false))
    ]
