-- Which script of `wait` a text is.
use Rattle.std.specs.Prelude.{ℕ, ◌≡◌, ◌≤◌, List, [], ◌∷◌, Bool, ◌&&◌, Option, Some, None, codes, nat_le, IsUtf8}
use Rattle.std.specs.Prelude.{if◌then◌else◌}
use Rattle.serde_json.specs.Data.{Data}
use Rattle.serde_json.specs.Find.{get, as_array, as_str}
use Rattle.serde_json.specs.Read.{read}
use Rattle.smithy_types.specs.declared.acceptor.AcceptorState.{AcceptorState}
use Rattle.json_forms.specs.Forms.{named, says, starts, tagged_at}
use Rattle.json_forms.specs.Lists.{list_of}
use Rattle.json_scripts.specs.Members.{only_among}
use Rattle.json_scripts.specs.Words.{words_at}
use Rattle.json_forms.specs.Plain.{number_at, triple_at}
use Rattle.json_forms.specs.Reading.{◌>>=◌}
use Rattle.json_values.specs.Readings.{payload_at}
use Rattle.cli_wait.specs.declared.polls.PollResult.{PollResult}
use Rattle.cli_wait.specs.declared.polls.PollResult.TheVariants.{Output, Service, Timeout}
use Rattle.cli_wait.specs.declared.polls.ScriptedPoll.{ScriptedPoll}
use Rattle.cli_wait.specs.States.{acceptor_states, state_text}
use Rattle.cli_wait.specs.declared.script.WaitScript.{WaitScript}

-- what a poll comes to
unfoldable pub result_at : Data → Option PollResult
result_at d = if says (codes "Timeout") d then Some Timeout
    else (if starts (codes "Output") d then (tagged_at (codes "Output") d >>= payload_at >>= λ p. Some (Output p))
    else (tagged_at (codes "Service") d >>= payload_at >>= λ p. Some (Service p)))

-- what the acceptors say, by its name
unfoldable pub state_at : Data → Option AcceptorState
state_at d = as_str d >>= named state_text acceptor_states

-- its nanoseconds, what it comes to and what its acceptors say
unfoldable pub poll_at : Data → Option ScriptedPoll
poll_at d = triple_at d >>= λ p. number_at p.0 >>= λ n. result_at p.1 >>= λ r. state_at p.2 >>= λ s.
    Some (record { nanos = n; result = r; state = s })

-- the members that a script may have
unfoldable pub script_members : List (List ℕ)
script_members =
    codes "min" ∷ codes "max" ∷ codes "max_wait" ∷ codes "start" ∷ codes "fuel" ∷ codes "words" ∷ codes "polls" ∷ []

-- at least one poll
abbrev pub some_of : List ScriptedPoll → Option (List ScriptedPoll)
some_of [] = None
some_of (poll ∷ polls) = Some (poll ∷ polls)

-- the polls of a script, of which there is one at least
unfoldable pub polls_at : Data → Option (List ScriptedPoll)
polls_at d = as_array d >>= list_of poll_at >>= some_of

-- a waiter can be built: the least delay is at least a second, and not above the greatest
abbrev pub IsBuildable : WaitScript → Type 0
IsBuildable s = (1000000000 ≤ s.min) × (s.min ≤ s.max)

-- the script, if a waiter can be built
abbrev pub built_of : WaitScript → Option WaitScript
built_of s = if nat_le 1000000000 s.min && nat_le s.min s.max then Some s else None

-- the script that JSON spells: its members and no other, and a waiter can be built
unfoldable pub script_at : Data → Option WaitScript
script_at d = only_among script_members d >>= λ _. get (codes "min") d >>= number_at >>= λ a.
    get (codes "max") d >>= number_at >>= λ b. get (codes "max_wait") d >>= number_at >>= λ w.
    get (codes "start") d >>= number_at >>= λ m. get (codes "fuel") d >>= number_at >>= λ f.
    get (codes "words") d >>= words_at >>= λ ws. get (codes "polls") d >>= polls_at >>= λ ps.
    built_of (record { min = a; max = b; max_wait = w; start = m; fuel = f; words = ws; polls = ps })

-- The bytes are the text of this script.
abbrev pub IsScript : List ℕ → WaitScript → Type 0
IsScript bytes s = IsUtf8 bytes × ((read bytes >>= script_at) ≡ Some s)

-- Fuel is within its limit.
abbrev pub is_within : WaitScript → Bool
is_within s = nat_le s.fuel 100000
