use Rattle.std.proofs.Common.{◌<◌, rules, ap, sym, ◌∙◌, subst, slice_index, ℕ, ◌+◌}
use Rattle.crossbeam_utils.specs.Seq.{cell_view}
use Rattle.retry_quota.specs.Book.{Book, IsSound, book_from, terms_in}
use Rattle.retry_quota.specs.History.{Step, Reply, after, reply_to}
use Rattle.retry_quota_cell.specs.View.{View}
use Rattle.retry_quota_cell.specs.Rule.{terms_at, words_of, Adds}
use Rattle.retry_quota_cell.proofs.Moves.{found_sound, loads, makes, since_looks, since_trans, adds_since, made_new, made_none}
use Rattle.retry_quota_cell.proofs.steps.try_make.Goals as goal

pub load_as-found-requires : goal.load_as-found-requires
load_as-found-requires g c = (search rules, (search rules, (c.requires.own, loads _ _ c.requires.live)))

pub of-bucket-requires : goal.of-bucket-requires
of-bucket-requires g c =
    let l = c.load_as-found.ensures in
    let w = cell_view c.load_as-found.new.pass in
    let sound = found_sound (cell_view c.args.seat.now) w (terms_in c.args.opened.now) c.load_as-found.result l.rule (ap terms_in c.requires.book) in
    subst IsSound (λ i. book_from (sym c.terms.ensures i) (sym c.read.ensures i)) sound

pub compare_exchange_as-requires : goal.compare_exchange_as-requires
compare_exchange_as-requires g c =
    let l = c.load_as-found.ensures in
    let found = c.load_as-found.result in
    let same = l.rule.same in
    let terms = c.terms.ensures ∙ ap terms_in c.requires.book ∙ sym (ap terms_at same) in
    let bucket = c.of-bucket.ensures ∙ (λ i. book_from (terms i) (c.read.ensures i)) in
    let book = c.make-answer.ensures.book ∙ (λ i. after (c.requires.step i) (bucket i)) in (
      search rules,
      (
        search rules,
        (
          l.cell.0 ∙ c.requires.own,
          makes g.B.Told.step _ _ found _
              (ap (λ (v : View). v.stage) same ∙ c.requires.live)
              (subst (λ (n : ℕ). 0 < n) (sym (ap (λ (v : View). v.parts) same)) c.requires.parts)
              (subst IsSound book c.state-state.ensures.sound)
              (c.write-new.ensures ∙ ap (λ (b : Book). words_of b (slice_index found 6 + 1) (slice_index found 7)) book),
        ),
      ),
    )

pub returns-in-Ok-clause-some : goal.returns-in-Ok-clause-some
returns-in-Ok-clause-some g c =
    let l = c.load_as-found.ensures in
    let found = c.load_as-found.result in
    let v = cell_view c.args.seat.now in
    let w = cell_view c.load_as-found.new.pass in
    let u = cell_view c.compare_exchange_as.new.pass in
    let answer = g.C.Call.reply c.make-answer.result in
    let more = ap (λ k. slice_index k 6) c.write-new.ensures in
    let made = made_new g.B.Told.step w found _ _ u c.in-Ok.ensures.rule.0 more c.in-Ok.ensures.rule.1 in
    let terms = c.terms.ensures ∙ ap terms_in c.requires.book ∙ sym (ap terms_at l.rule.same) in
    let bucket = c.of-bucket.ensures ∙ (λ i. book_from (terms i) (c.read.ensures i)) in
    let reply = (λ i. reply_to (sym c.requires.step i) (sym bucket i)) ∙ sym c.make-answer.ensures.reply in
    let said = subst (λ (r : Reply). Adds g.B.Told.step w r u) reply made in
    let all = subst (λ (s : Step). Adds s w answer u) (sym c.requires.step) said in
    adds_since (g.C.Call.step c.args.call.now) v w answer u (since_looks v found w l.rule) all

pub returns-in-Err-clause-none : goal.returns-in-Err-clause-none
returns-in-Err-clause-none g c =
    let v = cell_view c.args.seat.now in
    let w = cell_view c.load_as-found.new.pass in
    let u = cell_view c.compare_exchange_as.new.pass in
    since_trans v w u (since_looks v c.load_as-found.result w c.load_as-found.ensures.rule) (made_none g.B.Told.step w _ u c.in-Err.ensures.rule.1)
