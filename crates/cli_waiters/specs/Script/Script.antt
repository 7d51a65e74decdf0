-- Which script of `waiters` a text is.
use Rattle.std.specs.Prelude.{ℕ, ◌≡◌, List, [], ◌∷◌, length, Bool, ◌&&◌, Option, Some, None, codes, nat_le, IsUtf8}
use Rattle.std.specs.Prelude.{if◌then◌else◌}
use Rattle.std.specs.List.{list_all}
use Rattle.serde_json.specs.Data.{Data}
use Rattle.serde_json.specs.Find.{get, as_array}
use Rattle.serde_json.specs.Read.{read}
use Rattle.json_forms.specs.Lists.{list_of}
use Rattle.json_scripts.specs.Buckets.{bucket_terms_at}
use Rattle.json_scripts.specs.Members.{only_among}
use Rattle.json_forms.specs.Plain.{number_at}
use Rattle.json_forms.specs.Reading.{◌>>=◌}
use Rattle.cli_waiters.specs.declared.fleet.waiter.ScriptedWaiter.{ScriptedWaiter}
use Rattle.json_scripts.specs.Words.{words_at}
use Rattle.cli_wait.specs.Script.{polls_at}
use Rattle.waiter_fleet.specs.Plans.{is_good}
use Rattle.waiter_fleet.specs.declared.plan.Plan.{Plan}
use Rattle.cli_waiters.specs.Script.Members.{script_members, waiter_members}
use Rattle.cli_waiters.specs.declared.script.terms.WaitersScript.{WaitersScript}

-- the least and the greatest delay of a waiter, and its longest wait
unfoldable pub plan_at : Data → Option Plan
plan_at d = get (codes "min") d >>= number_at >>= λ a. get (codes "max") d >>= number_at >>= λ b.
    get (codes "max_wait") d >>= number_at >>= λ w. Some (record { min_delay = a; max_delay = b; max_wait = w })

-- a waiter: its plan and its polls, and no other member
unfoldable pub waiter_at : Data → Option ScriptedWaiter
waiter_at d = only_among waiter_members d >>= λ _. plan_at d >>= λ p. get (codes "polls") d >>= polls_at >>= λ ps.
    Some (record { plan = p; polls = ps })

-- at least one waiter
abbrev pub some_of : List ScriptedWaiter → Option (List ScriptedWaiter)
some_of [] = None
some_of (waiter ∷ waiters) = Some (waiter ∷ waiters)

-- the waiters of a script, of which there is one at least
unfoldable pub waiters_at : Data → Option (List ScriptedWaiter)
waiters_at d = as_array d >>= list_of waiter_at >>= some_of

-- each waiter can follow its plan
abbrev pub are_good : List ScriptedWaiter → Bool
are_good waiters = list_all (λ w. is_good w.plan) waiters

-- the script, if each can
abbrev pub good_of : WaitersScript → Option WaitersScript
good_of s = if are_good s.waiters then Some s else None

-- the script that JSON spells: its members and no other, and each waiter can follow its plan
unfoldable pub script_at : Data → Option WaitersScript
script_at d = only_among script_members d >>= λ _. get (codes "bucket") d >>= bucket_terms_at >>= λ b.
    get (codes "start") d >>= number_at >>= λ m. get (codes "fuel") d >>= number_at >>= λ f.
    get (codes "words") d >>= words_at >>= λ ws. get (codes "waiters") d >>= waiters_at >>= λ w.
    good_of (record { bucket = b; start = m; fuel = f; words = ws; waiters = w })

-- The bytes are the text of this script.
abbrev pub IsScript : List ℕ → WaitersScript → Type 0
IsScript bytes s = IsUtf8 bytes × ((read bytes >>= script_at) ≡ Some s)

-- Fuel, the number of waiters and the bucket's capacity are within their limits.
abbrev pub is_within : WaitersScript → Bool
is_within s = nat_le s.fuel 100000 && (nat_le (length s.waiters) 64 && nat_le s.bucket.capacity 500000000)
