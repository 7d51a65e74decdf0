-- The waiters of a script and their polls.
use Rattle.std.specs.Prelude.{ℕ, List, [], ◌∷◌, ◌++◌, Option, None, Some, map, option_to_list}
use Rattle.smithy_types.specs.declared.acceptor.AcceptorState.{AcceptorState}
use Rattle.smithy_types.specs.declared.acceptor.AcceptorState.TheVariants.{NoAcceptorsMatched}
use Rattle.cli_wait.specs.Polls.{poll_at}
use Rattle.cli_wait.specs.declared.polls.PollResult.{PollResult}
use Rattle.cli_wait.specs.declared.polls.PollResult.TheVariants as poll
use Rattle.cli_wait.specs.declared.polls.ScriptedPoll.{ScriptedPoll}
use Rattle.waiter_fleet.specs.declared.event.Seen.{Seen}
use Rattle.waiter_fleet.specs.declared.event.Seen.TheVariants as seen
use Rattle.waiter_fleet.specs.declared.plan.Plan.{Plan}
use Rattle.cli_waiters.specs.declared.fleet.places.Place.{Place}
use Rattle.cli_waiters.specs.declared.fleet.waiter.ScriptedWaiter.{ScriptedWaiter}

-- the plan of each waiter: its delays and its longest wait
abbrev pub plans_of : List ScriptedWaiter → List Plan
plans_of waiters = map (λ w. w.plan) waiters

-- what a poll with this result came to
abbrev pub seen_by : PollResult → Seen
seen_by (poll.Output output) = seen.Output output
seen_by (poll.Service modeled) = seen.Service modeled
seen_by poll.Timeout = seen.Unmodeled

-- what a poll is told as, and none, which times out
abbrev pub told_by : Option ScriptedPoll → Seen × AcceptorState
told_by None = (seen.Unmodeled, NoAcceptorsMatched)
told_by (Some one) = (seen_by one.result, one.state)

-- before its first poll a waiter stands here
abbrev pub first_place : Place
first_place = record { number = 1; due = None }

-- the poll of a waiter that stands there
abbrev pub next_poll : Option ScriptedWaiter → Place → Option ScriptedPoll
next_poll None place = None
next_poll (Some waiter) place = poll_at waiter.polls place.number

-- when the polls are due that are open
abbrev pub open_dues : List Place → List ℕ
open_dues [] = []
open_dues (place ∷ places) = option_to_list place.due ++ open_dues places
