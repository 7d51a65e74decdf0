use Rattle.std.proofs.Common.{◌∙◌, ap, sym, []}
use Rattle.std.specs.Option.{option_map_or}
use Rattle.retry_quota.proofs.TableLemmas.{table-new}
use Rattle.retry_quota.proofs.partition_table.PartitionTable.add.Goals as goal

pub returns-in-Some-clause-ok : goal.returns-in-Some-clause-ok
returns-in-Some-clause-ok g c =
    table-new g.K.PartialEq.eq c.args.key c.args.value c.in-Some.known.entries c.args.self.now _
    (ap (λ m. option_map_or (λ n. n.entries) m []) (sym c.in-Some.is) ∙ c.self.view_is) c.requires.new c.in_ok-insert.ensures.entries
