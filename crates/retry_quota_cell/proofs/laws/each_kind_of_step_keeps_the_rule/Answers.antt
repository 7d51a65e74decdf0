use Rattle.std.proofs.Common.{refl, slice_index, ◌+◌, ◌-◌}
use Rattle.retry_quota_cell.specs.Rule.{book_in, newcomer, terms_at, with_pool, words_of}
use Rattle.retry_quota_cell.specs.Exchange.{stepped}
use Rattle.retry_quota_cell.proofs.Moves.{counts, hands_over, loads, makes, opens, puts_out, takes_in, tells, unites}
use Rattle.retry_quota_cell.proofs.Soundness.{sound-after}
use Rattle.retry_quota_cell.proofs.laws.each_kind_of_step_keeps_the_rule.Goals as goal

pub returns-clause-opened : goal.returns-clause-opened
returns-clause-opened c = λ by o sound. opens by newcomer o (words_of o.book 0 0) refl sound refl

pub returns-clause-load : goal.returns-clause-load
returns-clause-load c = loads

pub returns-clause-count : goal.returns-clause-count
returns-clause-count c = counts

pub returns-clause-step : goal.returns-clause-step
returns-clause-step c = λ step by v found live some sound. makes step by v found (stepped step v found) live some (sound-after step (book_in (terms_at v) found) sound) refl

pub returns-clause-part_out : goal.returns-clause-part_out
returns-clause-part_out c = λ by v found live some. puts_out by v found (with_pool found (slice_index found 7 + 1)) live some refl

pub returns-clause-part_in : goal.returns-clause-part_in
returns-clause-part_in c = λ by v found live some. takes_in by v found (with_pool found (slice_index found 7 - 1)) live some refl

pub returns-clause-split : goal.returns-clause-split
returns-clause-split c = tells

pub returns-clause-hand_over : goal.returns-clause-hand_over
returns-clause-hand_over c = hands_over

pub returns-clause-join : goal.returns-clause-join
returns-clause-join c = unites
