use Rattle.std.proofs.Common.{◌∙◌, ap, sym, refl}
use Rattle.std.specs.Option.{option_map}
use Rattle.retry_quota.specs.History.{Acquire, acquire_reply}
use Rattle.retry_quota.proofs.RegisterLemmas.{step_written, read_cost}
use Rattle.retry_quota.proofs.registry.RegistryQuota.acquire.Goals as goal

pub returns-clause-step : goal.returns-clause-step
returns-clause-step g c =
    step_written _ _ c.args.bucket (Acquire c.args.kind c.args.now_secs) _ _ _ c.self.view_is c.requires
    c.index_mut-book.ensures.value c.acquire.ensures.book
    (ap (λ r. acquire_reply (option_map (λ p. p.amount) r)) (sym c.in-Some.is) ∙ c.acquire.ensures.reply)

pub returns-clause-permit : goal.returns-clause-permit
returns-clause-permit g c = (
  refl,
  ap (λ p. p.amount) c.in-Some.ensures.permit
      ∙ sym (read_cost _ _ c.args.bucket c.args.kind _ c.self.view_is c.requires c.index_mut-book.ensures.value),
)

pub returns-in_default-clause-step : goal.returns-in_default-clause-step
returns-in_default-clause-step g c =
    step_written _ _ c.args.bucket (Acquire c.args.kind c.args.now_secs) _ _ _ c.self.view_is c.requires
    c.index_mut-book.ensures.value c.acquire.ensures.book
    (ap (λ r. acquire_reply (option_map (λ p. p.amount) r)) (sym c.in_default.is) ∙ c.acquire.ensures.reply)
