use Rattle.rate_limit.proofs.SoundLemmas.{all_sound}
use Rattle.rate_limit.proofs.laws.capacity_and_fill_stay_in_bounds.Goals as goal

pub returns-clause-kept : goal.returns-clause-kept
returns-clause-kept c = all_sound
