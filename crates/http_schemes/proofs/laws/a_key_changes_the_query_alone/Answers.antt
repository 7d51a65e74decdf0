use Rattle.http_schemes.proofs.TargetLemmas.{changes_query}
use Rattle.http_schemes.proofs.laws.a_key_changes_the_query_alone.Goals as goal

pub returns : goal.returns
returns c = changes_query
