use Rattle.std.proofs.Common.{◌≡◌, ◌++◌, not, sym, ◌∙◌, ap, ◌≤◌, length, arith, Some, option_copied, drop, take, ◌+◌, ◌-◌}
use Rattle.std.specs.List.{filter, count_by}
use Rattle.std.proofs.lemmas.List.Sums.{length-filter}
use Rattle.auth_endpoint.specs.Choice.{is_id, is_named, reprioritized}
use Rattle.auth_endpoint.proofs.PreferenceLemmas.{all_left, ordered_none, ordered_more_again, ordered_more_last, ordered_all, ordered_room}
use Rattle.auth_endpoint.proofs.preference.reprioritize.Goals as goal
use Rattle.auth_endpoint.proofs.preference.reprioritize.Goals.{then-not-is_named, else-not-is_named}

pub loop-place-init : goal.loop-place-init
loop-place-init c = rw c.into_vec-options.ensures (ordered_none c.as_slice-names.result.now c.args.options)

pub loop-place-preserved : goal.loop-place-preserved
loop-place-preserved c =
    let names = c.as_slice-names.result.now in
    let p = c.index-names-place.result in
    let asked = ap (λ l. is_named l p) (all_left names (c.loop-place.place + 1)) ∙ ap (λ t. is_named (take (length names - (c.loop-place.place + 1)) (drop (c.loop-place.place + 1) names)) t) (sym c.as_str.ensures) ∙ sym c.is_named.ensures in
    elim c.if-not-is_named.branch [
      | then-not-is_named w ↦
          rw w.options-is (ordered_more_last names c.args.options c.loop-place.options.items w.move_back.new.options.items c.loop-place.place p c.loop-place.invariant c.loop-place-test.true c.index-names-place.is (asked ∙ w.if-not-is_named.true)
          (w.move_back.ensures ∙ ap (λ t. filter (λ o. not (is_id t o)) c.loop-place.options.items ++ filter (is_id t) c.loop-place.options.items) w.as_str-then-not-is_named.ensures))
      | else-not-is_named w ↦
          rw w.options-is (ordered_more_again names c.args.options c.loop-place.options.items c.loop-place.place p c.loop-place.invariant c.loop-place-test.true c.index-names-place.is (asked ∙ w.if-not-is_named.false))
    ]

pub rotate_left-requires : goal.rotate_left-requires
rotate_left-requires c =
    let names = c.as_slice-names.result.now in
    let long : length (filter (λ o. not (is_named names o)) c.args.options) ≡ c.count_unnamed-unnamed.result = length-filter (λ o. not (is_named names o)) c.args.options ∙ ap (λ l. count_by (λ o. not (is_named names o)) l) (sym (c.as_slice.ensures.value ∙ c.into_vec-options.ensures)) ∙ sym c.count_unnamed-unnamed.ensures in
    let room : c.count_unnamed-unnamed.result ≤ length c.loop-place.options.items = ordered_room names c.args.options c.loop-place.options.items c.loop-place.place c.count_unnamed-unnamed.result c.loop-place.invariant c.loop-place-test.false long in
    omega (arith, room, c.loop-place.options.ok.0)

pub returns : goal.returns
returns c =
    let names = c.as_slice-names.result.now in
    let long : length (filter (λ o. not (is_named names o)) c.args.options) ≡ c.count_unnamed-unnamed.result = length-filter (λ o. not (is_named names o)) c.args.options ∙ ap (λ l. count_by (λ o. not (is_named names o)) l) (sym (c.as_slice.ensures.value ∙ c.into_vec-options.ensures)) ∙ sym c.count_unnamed-unnamed.ensures in
    c.from_vec.ensures ∙ ordered_all names c.args.options c.loop-place.options.items c.rotate_left.new.self.items c.loop-place.place c.count_unnamed-unnamed.result c.loop-place.invariant c.loop-place-test.false long c.rotate_left.ensures.items
    ∙ ap (λ n. reprioritized (Some n) c.args.options) c.as_slice-names.ensures ∙ sym (ap (λ p. reprioritized (option_copied p) c.args.options) c.in-Some.is)
