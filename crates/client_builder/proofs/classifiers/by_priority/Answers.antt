use Rattle.std.proofs.Common.{rules, refl}
use Rattle.std.proofs.lemmas.List.Sorted.{answers_always}
use Rattle.client_builder.specs.Priority.{rank}
use Rattle.client_builder.proofs.Prioritizing.{by_priority_of}
use Rattle.client_builder.proofs.classifiers.by_priority.Goals as goal

pub returns-in-Ok-clause-sorted : goal.returns-in-Ok-clause-sorted
returns-in-Ok-clause-sorted g c =
    by_priority_of g.C.ClassifyRetry.ranked c.into_vec-items.result.items c.args.list _ _ c.into_vec-items.ensures refl (record {
      same = c.in-Ok.ensures.permutation;
      ordered = c.in-Ok.ensures.sorted (λ x. rank (g.C.ClassifyRetry.ranked x)) (answers_always _ _ _ (λ f a r q h. search rules));
      ties = c.in-Ok.ensures.stable (λ x. rank (g.C.ClassifyRetry.ranked x)) (answers_always _ _ _ (λ f a r q h. search rules));
    })
