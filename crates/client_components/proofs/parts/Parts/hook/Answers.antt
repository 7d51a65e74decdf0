use Rattle.std.proofs.Common.{◌≡◌, ◌++◌, take, drop, length, refl, arith}
use Rattle.std.proofs.Math.Seq.{take-append_seam}
use Rattle.std.proofs.lemmas.Result.{IfOk-weaker}
use Rattle.smithy_types.proofs.ChainLemmas.{chained_join}
use Rattle.client_components.proofs.Stopping.{on_both}
use Rattle.client_components.proofs.parts.Parts.hook.Goals as goal

pub returns-clause-ok : goal.returns-clause-ok
returns-clause-ok g c =
    let new = c.hook.new.interceptors in
    let old = c.args.self.now.interceptors in
    let many : old.len ≡ length new = omega (arith, c.as_mut_slice.ensures.len, c.hook.auto.interceptors) in
    let back : take old.len (new ++ drop (length new) old.items) ≡ new = rw many (take-append_seam new _) in
    IfOk-weaker c.hook.result _ _ (λ a h. record {
      calls = h.0;
      made = chained_join g.T.Outside.Outside.makes _ _ _ _ _ c.end_sleeps.ensures.calls h.1;
      hooks = rw back h.2;
      others = rw c.end_sleeps.ensures.sleeps refl;
    }) (rw (c.as_slice.ensures.value, c.as_mut_slice.ensures.value) at c.hook.ensures.ok)

pub returns-clause-err : goal.returns-clause-err
returns-clause-err g c =
    let new = c.hook.new.interceptors in
    let old = c.args.self.now.interceptors in
    let many : old.len ≡ length new = omega (arith, c.as_mut_slice.ensures.len, c.hook.auto.interceptors) in
    let back : take old.len (new ++ drop (length new) old.items) ≡ new = rw many (take-append_seam new _) in
    on_both c.hook.result c.hook.ensures.outside (rw (c.as_slice.ensures.value, c.as_mut_slice.ensures.value) at c.hook.ensures.err) (λ called stops. record {
      called = (_, chained_join g.T.Outside.Outside.makes _ _ _ _ _ c.end_sleeps.ensures.calls called.1);
      stops = rw back stops;
      others = rw c.end_sleeps.ensures.sleeps refl;
    })
