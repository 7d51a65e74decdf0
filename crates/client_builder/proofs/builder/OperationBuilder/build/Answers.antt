use Rattle.std.proofs.Common.{ap, sym}
use Rattle.client_builder.proofs.Alike.{prepared_alike, parts_alike}
use Rattle.client_builder.proofs.Prioritizing.{by_priority_of}
use Rattle.client_builder.proofs.builder.OperationBuilder.build.Goals as goal

pub assemble-requires-clause-prepared : goal.assemble-requires-clause-prepared
assemble-requires-clause-prepared g c = prepared_alike c.args.self c.replace-list.new.dest c.in-Ok.prepared c.in-Ok.ensures.prepared

pub returns-in-Ok-by_priority-clause-built : goal.returns-in-Ok-by_priority-clause-built
returns-in-Ok-by_priority-clause-built g c = record {
  parts = parts_alike c.args.self c.replace-list.new.dest c.args.outside c.args.quota c.assemble.result.1 c.assemble.ensures.parts;
  classifiers = by_priority_of _ c.replace-list.result c.args.self.classifiers _ _ c.replace-list.ensures.value
      (ap (λ v. v.items) (sym c.assemble.ensures.classifiers)) c.in-Ok-by_priority.ensures.sorted;
}
