use Rattle.std.proofs.Common.{◌∙◌, refl, sym}
use Rattle.retry_quota.specs.History.{Release, Done}
use Rattle.retry_quota.proofs.PlaceLemmas.{passed_there}
use Rattle.retry_quota.proofs.RegisterLemmas.{release_foreign, settled, step_written}
use Rattle.retry_quota.proofs.registry.RegistryQuota.release.Goals as goal

pub returns-then-holds : goal.returns-then-holds
returns-then-holds g c =
    let there = passed_there _ c.args.self.now.books c.args.permit.bucket (sym c.holds.ensures ∙ c.if-holds.true) in
    settled _ _ _ (Release c.args.permit.amount) there
    (step_written _ _ c.args.permit.bucket (Release c.args.permit.amount) Done _ _ c.self.view_is there
    c.index_mut-book.ensures.value c.release.ensures refl)

pub returns-else-holds : goal.returns-else-holds
returns-else-holds g c = release_foreign c.args.self.now _ _ (sym c.holds.ensures ∙ c.if-holds.false)
