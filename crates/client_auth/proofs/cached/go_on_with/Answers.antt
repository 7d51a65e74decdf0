use Rattle.std.proofs.Common.{refl, [], ◌∷◌, ◌++◌}
use Rattle.outside.specs.Calls.{Word}
use Rattle.smithy_types.proofs.ChainLemmas.{chained_join, chained_one}
use Rattle.client_auth.specs.Caching.{giving_up_open}
use Rattle.client_auth.proofs.Lacking.{called}
use Rattle.client_auth.proofs.cached.go_on_with.Goals as goal

pub returns-in_ok-choice-in-Ready-clause-ok : goal.returns-in_ok-choice-in-Ready-clause-ok
returns-in_ok-choice-in-Ready-clause-ok g c =
    rw (c.in-Some.is, c.in-Ready.is) (
      _,
      chained_join g.X.Outside.makes c.args.outside.now c.word-word.new.self c.keep.new.outside (Word c.word-word.result ∷ []) (giving_up_open c.args.current.now)
          (chained_one g.X.Outside.makes c.args.outside.now c.word-word.new.self (Word c.word-word.result) c.word-word.ensures) c.keep.ensures.calls,
      (
        c.word-word.result,
        rw c.in_ok-kept-in-Ready.ensures.identity at c.in_ok-choice-in-Ready.ensures,
        c.in_ok-kept-in-Ready.ensures.cache,
        c.keep.ensures.current,
        refl,
        refl,
      ),
    )

pub returns-in_err-kept-in-Ready-clause-err : goal.returns-in_err-kept-in-Ready-clause-err
returns-in_err-kept-in-Ready-clause-err g c =
    called g.X.Outside.makes _ _ _ ((Word c.word-word.result ∷ []) ++ giving_up_open c.args.current.now)
    (chained_join g.X.Outside.makes c.args.outside.now c.word-word.new.self c.keep.new.outside (Word c.word-word.result ∷ []) (giving_up_open c.args.current.now)
    (chained_one g.X.Outside.makes c.args.outside.now c.word-word.new.self (Word c.word-word.result) c.word-word.ensures) c.keep.ensures.calls)

pub returns-in_err-choice-in-Ready-clause-err : goal.returns-in_err-choice-in-Ready-clause-err
returns-in_err-choice-in-Ready-clause-err g c =
    called g.X.Outside.makes _ _ _ ((Word c.word-word.result ∷ []) ++ giving_up_open c.args.current.now)
    (chained_join g.X.Outside.makes c.args.outside.now c.word-word.new.self c.keep.new.outside (Word c.word-word.result ∷ []) (giving_up_open c.args.current.now)
    (chained_one g.X.Outside.makes c.args.outside.now c.word-word.new.self (Word c.word-word.result) c.word-word.ensures) c.keep.ensures.calls)
