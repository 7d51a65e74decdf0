use Rattle.stream_guard.proofs.RingLemmas.{counted}
use Rattle.stream_guard.proofs.ring.put.Goals as goal

pub exchanged-requires : goal.exchanged-requires
exchanged-requires c = counted _ _ _ c.requires.ring c.requires.place
