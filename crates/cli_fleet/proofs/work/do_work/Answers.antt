use Rattle.std.proofs.Common.{◌∙◌, ap, refl, subst, sym}
use Rattle.std.proofs.lemmas.Result.{IfOk-weaker}
use Rattle.retry_quota_cell.specs.Callers.{own}
use Rattle.retry_quota_cell.specs.Known.{IsOf}
use Rattle.client_scripted.proofs.Whole.{only_memory, whole_builder}
use Rattle.client_scripted.specs.Clients.{builder_of}
use Rattle.cli_fleet.proofs.Closing.{closed_work, works_so}
use Rattle.cli_fleet.specs.Working.{Worked}
use Rattle.cli_fleet.proofs.work.do_work.Goals as goal

pub returns-in-Ok-build-clause-told : goal.returns-in-Ok-build-clause-told
returns-in-Ok-build-clause-told g c =
    let steps = own c.make_all.result.1.view in
    IfOk-weaker c.make_all.result.0 _ _ (λ told h.
    subst (λ p. Worked p c.args.work told.text.items told.outcome steps) (sym c.requires.place)
    (closed_work g.B.At.place c.args.work told.text.items told.outcome steps _ _ _ _ _
    (record { status = λ x. refl; modeled = λ x. refl; transient = λ x. refl })
    (record { status = λ x context so_far. refl; modeled = λ x context so_far. refl; transient = λ x context so_far. refl })
    (record { names = λ one. refl; hooks = λ one hook. refl; runs = λ one hook view a new. refl; with_bucket = λ one bucket. refl; with_verdict = λ one verdict. refl })
    (works_so _ _ _ g.B.At.place c.args.work told.text.items told.outcome steps c.args.pass _ c.new-outside.result c.new-quota.result c.in-Ok-build.world _
    (subst (λ p. IsOf p c.args.pass) c.requires.place c.requires.own) c.requires.unused c.in-Ok-build.ensures.built
    (c.in-Ok-prepare.ensures.builder ∙ ap (λ p. builder_of p c.args.work.client) c.in-Ok.ensures)
    c.new-outside.ensures (λ i. record { pass = c.new-quota.ensures.pass i; limiter = (c.new-quota.ensures.limiter ∙ c.zero-limiter.ensures) i })
    c.in-Ok-prepare.ensures.identities h))) c.make_all.ensures.told

-- no part is lacking
pub want_of-requires : goal.want_of-requires
want_of-requires g c =
    only_memory c.in-Ok-prepare.prepared.0 c.in-Err-build.refusal
    (whole_builder c.in-Ok-prepare.prepared.0 _ c.args.work.client c.in-Ok-prepare.ensures.builder)
    c.in-Err-build.ensures.refused
