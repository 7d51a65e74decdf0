-- A waiter that isn't there has no place.
use Rattle.std.proofs.Common.{◌≡◌, ℕ, ◌≤◌, List, length, set}
use Rattle.std.proofs.lemmas.List.{set_past}
use Rattle.cli_waiters.specs.declared.fleet.places.Place.{Place}

pub put_past : (places : List Place) (waiter : ℕ) (place : Place) → length places ≤ waiter → set places waiter place ≡ places
put_past places waiter place past = set_past places waiter place past
