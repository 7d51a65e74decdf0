-- A script of `waiters` has no float.
use Rattle.std.proofs.Common.{◌≡◌, codes, true}
use Rattle.serde_json.specs.Data.{Data, object, Members}
use Rattle.serde_json.specs.Find.{as_array, get_member}
use Rattle.json_forms.specs.Lists.{list_of}
use Rattle.json_forms.specs.Plain.{number_at}
use Rattle.json_forms.specs.Reading.{◌>>=◌}
use Rattle.json_values.proofs.SpelledForms.{Holds, step}
use Rattle.json_scripts.specs.Buckets.{bucket_terms_at}
use Rattle.json_scripts.specs.Words.{words_at}
use Rattle.cli_wait.specs.Script.{polls_at}
use Rattle.cli_waiters.specs.Script.Members.{script_members, waiter_members}
use Rattle.cli_waiters.specs.Script.Script.{plan_at, script_at, some_of, waiter_at, waiters_at}
use Rattle.laws_program.specs.Scripts.Floats.{FloatsSpellNothing}
use Rattle.laws_program.proofs.client_scripts.Clients.{bucket_plain}
use Rattle.laws_program.proofs.scripts.Ordered.{is_ordered, ordered_when_read}
use Rattle.laws_program.proofs.scripts.PlainForms.{Plain, always, kept, number_plain}
use Rattle.laws_program.proofs.scripts.PlainMembers.{IsPlainAt, RefusesOrdered, by_members, by_names, member_plain, ordered_member_plain, ordered_rows_plain, spells_nothing}
use Rattle.laws_program.proofs.scripts.WaitScripts.{polls_plain, words_plain}

-- ---- a waiter

plan_plain : (ms : Members) → Holds (λ _. IsPlainAt (codes "min") ms × IsPlainAt (codes "max") ms × IsPlainAt (codes "max_wait") ms) (plan_at (object ms))
unfolding plan_at Holds
plan_plain ms =
    step _ _ (get_member (codes "min") ms >>= number_at) _ (member_plain number_at number_plain (codes "min") ms) (λ _ a.
    step _ _ (get_member (codes "max") ms >>= number_at) _ (member_plain number_at number_plain (codes "max") ms) (λ _ b.
    step _ _ (get_member (codes "max_wait") ms >>= number_at) _ (member_plain number_at number_plain (codes "max_wait") ms) (λ _ w. (a, b, w))))

-- the four members of a waiter, and no other
waiter_plain : RefusesOrdered waiter_at
unfolding waiter_at waiter_members Holds
waiter_plain = by_members waiter_members _ (λ ms h among.
    step _ _ (plan_at (object ms)) _ (plan_plain ms) (λ _ plan.
    step _ _ (get_member (codes "polls") ms >>= polls_at) _ (member_plain polls_at polls_plain (codes "polls") ms) (λ _ ps.
    by_names waiter_members ms h among (plan.0, (plan.1, (plan.2, (ps, tt)))))))

waiters_plain : RefusesOrdered waiters_at
unfolding waiters_at
waiters_plain d h = kept (Plain d) (as_array d >>= list_of waiter_at) some_of (ordered_rows_plain waiter_at waiter_plain d h)

-- ---- the whole script

-- the five members, and no other
script_plain : (d : Data) → is_ordered d ≡ true → Holds (λ _. Plain d) (script_at d)
unfolding script_at script_members Holds
script_plain = by_members script_members _ (λ ms h among.
    step _ _ (get_member (codes "bucket") ms >>= bucket_terms_at) _ (member_plain bucket_terms_at bucket_plain (codes "bucket") ms) (λ _ b.
    step _ _ (get_member (codes "start") ms >>= number_at) _ (member_plain number_at number_plain (codes "start") ms) (λ _ m.
    step _ _ (get_member (codes "fuel") ms >>= number_at) _ (member_plain number_at number_plain (codes "fuel") ms) (λ _ f.
    step _ _ (get_member (codes "words") ms >>= words_at) _ (member_plain words_at words_plain (codes "words") ms) (λ _ ws.
    step _ _ (get_member (codes "waiters") ms >>= waiters_at) _ (ordered_member_plain waiters_at waiters_plain (codes "waiters") ms h) (λ _ w.
    always (Plain (object ms)) _ (by_names script_members ms h among (b, (m, (ws, (f, (w, tt))))))))))))

pub waiters_scripts_plain : FloatsSpellNothing script_at
waiters_scripts_plain text d e h = spells_nothing d (script_at d) (script_plain d (ordered_when_read text d e)) h
