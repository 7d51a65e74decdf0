use Rattle.std.proofs.Common.{◌+◌, drop, sym, ap, subst, ◌∙◌, arith, nat_eq}
use Rattle.std.specs.Cmp.Lexicographic.{pointwise}
use Rattle.std.specs.List.{list_any}
use Rattle.json_forms.specs.View.{members_view}
use Rattle.json_forms.proofs.Counting.{Counts, count_start, count_old_name, count_new_name, count_full, next_member}
use Rattle.json_forms.proofs.members.has_members.Goals as goal
use Rattle.json_forms.proofs.members.has_members.Goals.{then-not-is_among+else-len-count+in_ok-push, else-not-is_among}

pub loop-member-init : goal.loop-member-init
loop-member-init c = subst (λ l. Counts l c.args.members.now (members_view c.args.members.now) c.args.count) (sym c.new-names.ensures.items) (count_start c.args.members.now c.args.count)

pub returns-then-len-count : goal.returns-then-len-count
returns-then-len-count c =
    let ms = c.args.members.now in
    let l = c.loop-member in
    let m = c.member-item.result in
    let here = next_member ms l.member-index m (omega arith) c.member-item.is in
    let held = subst (λ left. Counts l.names.items left (members_view ms) c.args.count) here l.invariant in
    let other = sym c.if-not-is_among.true ∙ c.is_among.ensures ∙ ap (list_any (λ o. pointwise nat_eq o.now m.0.now)) c.as_slice.ensures.value in
    sym (count_full l.names.items m (drop (l.member-index + 1) ms) (members_view ms) c.args.count held other (omega (arith, c.len.ensures, c.if-len-count.true)))

pub loop-member-preserved : goal.loop-member-preserved
loop-member-preserved c =
    let ms = c.args.members.now in
    let l = c.loop-member in
    let m = c.member-item.result in
    let here = next_member ms l.member-index m (omega arith) c.member-item.is in
    let held = subst (λ left. Counts l.names.items left (members_view ms) c.args.count) here l.invariant in
    let rest = drop (l.member-index + 1) ms in
    let seen = c.is_among.ensures ∙ ap (list_any (λ o. pointwise nat_eq o.now m.0.now)) c.as_slice.ensures.value in
    elim c.if-not-is_among.branch [
      | then-not-is_among+else-len-count+in_ok-push w ↦
          subst (λ names. Counts names rest (members_view ms) c.args.count) (sym (ap (λ v. v.items) w.names-is ∙ w.in_ok-push.ensures.items))
          (count_new_name l.names.items m rest (members_view ms) c.args.count held (sym w.if-not-is_among.true ∙ seen) (λ e. w.if-len-count.false (omega (arith, w.len.ensures, e))))
      | else-not-is_among w ↦
          subst (λ names. Counts names rest (members_view ms) c.args.count) (sym (ap (λ v. v.items) w.names-is))
          (count_old_name l.names.items m rest (members_view ms) c.args.count held (sym w.if-not-is_among.false ∙ seen))
    ]
