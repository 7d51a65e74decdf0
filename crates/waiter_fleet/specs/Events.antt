-- What the events of a fleet tell of a waiter. The last event stands first.
use Rattle.std.specs.Prelude.{ℕ, ◌+◌, ◌-◌, ◌/◌, ◌^◌, ◌==◌, ◌||◌, Bool, true, false, List, [], ◌∷◌, ◌++◌, if◌then◌else◌}
use Rattle.std.specs.Prelude.{min}
use Rattle.smithy_types.specs.declared.kinds.ErrorKind.TheVariants.{ServerError}
use Rattle.waiters.specs.Delay.{second}
use Rattle.retry_quota.specs.Book.{Book, cost_of}
use Rattle.retry_quota.specs.History.{Acquire, Forget, after}
use Rattle.waiter_fleet.specs.declared.event.FleetEvent.{FleetEvent}
use Rattle.waiter_fleet.specs.declared.event.FleetEvent.TheVariants.{Poll, Sleep, Charged, Refused, End}

-- the waiter to which an event happens
abbrev pub waiter_of : FleetEvent → ℕ
waiter_of (Poll waiter number moment seen state) = waiter
waiter_of (Sleep waiter nanos elapsed word) = waiter
waiter_of (Charged waiter moment) = waiter
waiter_of (Refused waiter cost moment) = waiter
waiter_of (End waiter ending) = waiter

-- the events in the order in which they happened
abbrev pub in_order : List FleetEvent → List FleetEvent
in_order [] = []
in_order (event ∷ before) = in_order before ++ event ∷ []

-- how many polls of the waiter were answered
abbrev pub polls_with : ℕ → FleetEvent → ℕ → ℕ
polls_with waiter (Poll one number moment seen state) before = if one == waiter then before + 1 else before
polls_with waiter (Sleep one nanos elapsed word) before = before
polls_with waiter (Charged one moment) before = before
polls_with waiter (Refused one cost moment) before = before
polls_with waiter (End one ending) before = before

-- how many polls of the waiter were answered so far
abbrev pub polls : ℕ → List FleetEvent → ℕ
polls waiter [] = 0
polls waiter (event ∷ before) = polls_with waiter event (polls waiter before)

-- how many of its polls were paid for
abbrev pub charges_with : ℕ → FleetEvent → ℕ → ℕ
charges_with waiter (Poll one number moment seen state) before = before
charges_with waiter (Sleep one nanos elapsed word) before = before
charges_with waiter (Charged one moment) before = if one == waiter then before + 1 else before
charges_with waiter (Refused one cost moment) before = before
charges_with waiter (End one ending) before = before

-- how many polls of the waiter were paid for so far
abbrev pub charges : ℕ → List FleetEvent → ℕ
charges waiter [] = 0
charges waiter (event ∷ before) = charges_with waiter event (charges waiter before)

-- the moment of its last poll, and the fleet's start before the first
abbrev pub moment_with : ℕ → FleetEvent → ℕ → ℕ
moment_with waiter (Poll one number moment seen state) before = if one == waiter then moment else before
moment_with waiter (Sleep one nanos elapsed word) before = before
moment_with waiter (Charged one moment) before = before
moment_with waiter (Refused one cost moment) before = before
moment_with waiter (End one ending) before = before

-- the moment of the waiter's last poll, and the fleet's start before the first
abbrev pub last_moment : ℕ → ℕ → List FleetEvent → ℕ
last_moment start waiter [] = start
last_moment start waiter (event ∷ before) = moment_with waiter event (last_moment start waiter before)

-- how long its last sleep is
abbrev pub sleep_with : ℕ → FleetEvent → ℕ → ℕ
sleep_with waiter (Poll one number moment seen state) before = before
sleep_with waiter (Sleep one nanos elapsed word) before = if one == waiter then nanos else before
sleep_with waiter (Charged one moment) before = before
sleep_with waiter (Refused one cost moment) before = before
sleep_with waiter (End one ending) before = before

-- how long the waiter's last sleep is, and 0 before the first
abbrev pub last_sleep : ℕ → List FleetEvent → ℕ
last_sleep waiter [] = 0
last_sleep waiter (event ∷ before) = sleep_with waiter event (last_sleep waiter before)

-- whether a delay of 0 was used
abbrev pub zero_with : ℕ → FleetEvent → Bool → Bool
zero_with waiter (Poll one number moment seen state) before = before
zero_with waiter (Sleep one nanos elapsed word) before = if one == waiter then (before || nanos == 0) else before
zero_with waiter (Charged one moment) before = before
zero_with waiter (Refused one cost moment) before = before
zero_with waiter (End one ending) before = before

-- whether the waiter used a delay of 0
abbrev pub zero_used : ℕ → List FleetEvent → Bool
zero_used waiter [] = false
zero_used waiter (event ∷ before) = zero_with waiter event (zero_used waiter before)

-- whether it ended
abbrev pub ended_with : ℕ → FleetEvent → Bool → Bool
ended_with waiter (Poll one number moment seen state) before = before
ended_with waiter (Sleep one nanos elapsed word) before = before
ended_with waiter (Charged one moment) before = before
ended_with waiter (Refused one cost moment) before = before
ended_with waiter (End one ending) before = if one == waiter then true else before

-- whether the waiter ended
abbrev pub ended : ℕ → List FleetEvent → Bool
ended waiter [] = false
ended waiter (event ∷ before) = ended_with waiter event (ended waiter before)

-- when its next poll is due; a sum past the greatest moment stops there
abbrev pub due : ℕ → ℕ → List FleetEvent → ℕ
due start waiter events = min (last_moment start waiter events + last_sleep waiter events) (2 ^ 64 - 1)

-- what an event makes of the bucket: a charge acquires and forgets at once, a refusal acquires
abbrev pub book_with : ℕ → FleetEvent → Book → Book
book_with cost (Poll waiter number moment seen state) book = book
book_with cost (Sleep waiter nanos elapsed word) book = book
book_with cost (Charged waiter moment) book = after (Forget cost) (after (Acquire ServerError (moment / second)) book)
book_with cost (Refused waiter refused moment) book = after (Acquire ServerError (moment / second)) book
book_with cost (End waiter ending) book = book

-- the bucket after the events, of which each charge has the cost of a retry after a server's error
abbrev pub book_after : Book → List FleetEvent → Book
book_after book [] = book
book_after book (event ∷ before) = book_with (cost_of ServerError book) event (book_after book before)
