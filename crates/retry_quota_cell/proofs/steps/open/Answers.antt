use Rattle.std.proofs.Common.{◌∙◌, sym, ap, subst, rules}
use Rattle.retry_quota_cell.specs.View.{Opening}
use Rattle.retry_quota.specs.Book.{IsSound}
use Rattle.retry_quota_cell.specs.Rule.{words_of, opened}
use Rattle.retry_quota_cell.proofs.Moves.{opens}
use Rattle.retry_quota_cell.proofs.steps.open.Goals as goal

pub swap_as-requires : goal.swap_as-requires
swap_as-requires g c =
    let is = c.requires.opening in (
      search rules,
      (
        search rules,
        (
          c.requires.own,
          opens _ _ g.B.Begun.opening _ c.requires.fresh
              (subst (λ (o : Opening). IsSound o.book) (sym is) c.state-state.ensures.sound)
              (c.write-words.ensures ∙ ap (λ (o : Opening). words_of o.book 0 0) (sym is)),
        ),
      ),
    )

pub returns-clause-view : goal.returns-clause-view
returns-clause-view g c = c.swap_as.ensures.rule ∙ ap opened c.requires.opening
