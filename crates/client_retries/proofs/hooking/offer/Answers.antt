use Rattle.std.proofs.Common.{refl, sym, ◌∙◌}
use Rattle.client_retries.proofs.hooking.offer.Goals as goal

pub returns-in_ok-verdict_on-clause-ok : goal.returns-in_ok-verdict_on-clause-ok
returns-in_ok-verdict_on-clause-ok g c =
    let later = sym c.is_before_retry_loop.ensures ∙ c.if-is_before_retry_loop.false in
    let after = sym c.is_after_deserialization.ensures ∙ c.if-is_after_deserialization.true in
    record {
      number = 0;
      found = rw later refl;
      chain_is = rw (later, after) (rw c.in_ok-verdict_on.ensures at c.offer_verdict_to_all.ensures);
    }
