use Rattle.std.proofs.Common.{◌∙◌, refl, sym}
use Rattle.retry_quota.specs.History.{Forget, Done}
use Rattle.retry_quota.proofs.PlaceLemmas.{passed_there}
use Rattle.retry_quota.proofs.RegisterLemmas.{forget_foreign, settled, step_written}
use Rattle.retry_quota.proofs.registry.RegistryQuota.forget.Goals as goal

pub returns-then-holds : goal.returns-then-holds
returns-then-holds g c =
    let there = passed_there _ c.args.self.now.books c.args.permit.bucket (sym c.holds.ensures ∙ c.if-holds.true) in
    settled _ _ _ (Forget c.args.permit.amount) there
    (step_written _ _ c.args.permit.bucket (Forget c.args.permit.amount) Done _ _ c.self.view_is there
    c.index_mut-book.ensures.value c.forget.ensures refl)

pub returns-else-holds : goal.returns-else-holds
returns-else-holds g c = forget_foreign c.args.self.now _ _ (sym c.holds.ensures ∙ c.if-holds.false)
