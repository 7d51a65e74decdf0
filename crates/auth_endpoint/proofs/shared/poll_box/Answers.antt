use Rattle.smithy_base.proofs.Carrying.{carried, as_it_was}
use Rattle.auth_endpoint.proofs.shared.poll_box.Goals as goal

pub returns-clause-ok : goal.returns-clause-ok
returns-clause-ok g c =
    carried (λ i. (g.dyn-1.0.entry i).0.Denot) (λ z. record { ptr = c.args.boxed.now.ptr; vtable = z.0; alloc = c.args.boxed.now.alloc; value = z.1 })
    (λ i v a w. (g.dyn-1.0.entry i).1.polls v a w) c.poll.result
    c.as_mut.result.now (c.args.boxed.now.vtable, c.args.boxed.now.value) c.as_mut.ensures.value.1 c.poll.new.self c.poll.ensures.0

pub returns-clause-err : goal.returns-clause-err
returns-clause-err g c =
    as_it_was (λ i. (g.dyn-1.0.entry i).0.Denot) (λ z. record { ptr = c.args.boxed.now.ptr; vtable = z.0; alloc = c.args.boxed.now.alloc; value = z.1 })
    (λ i v a w. (g.dyn-1.0.entry i).1.polls v a w) c.poll.result
    c.as_mut.result.now (c.args.boxed.now.vtable, c.args.boxed.now.value) c.as_mut.ensures.value.1 c.poll.new.self c.poll.ensures.1
