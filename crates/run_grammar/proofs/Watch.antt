-- A watcher of a run: at which stage the run is, and which question waits, by the entries alone.
use Rattle.std.proofs.Common.{Bool, true, false, cond, List, [], ◌∷◌, ◌++◌, ◌≡◌, refl, ap, ◌∙◌}
use Rattle.smithy_types.specs.declared.hook.Hook.{Hook}
use Rattle.smithy_types.specs.declared.hook.Hook.TheVariants as hooks
use Rattle.run_grammar.specs.declared.kind.Abandonable.{Abandonable}
use Rattle.run_grammar.specs.declared.kind.Abandonable.TheVariants as abandoned
use Rattle.run_grammar.specs.declared.kind.Role.{Role}
use Rattle.run_grammar.specs.declared.kind.Role.TheVariants as roles
use Rattle.run_grammar.specs.declared.kind.Kind.{Kind}
use Rattle.run_grammar.specs.declared.kind.Kind.TheVariants as kinds
use Rattle.run_grammar.specs.declared.answer.Entry.{Entry}
use Rattle.run_grammar.specs.Entry.{kind_of, pending, ready, can_wait, abandon_of}
use Rattle.run_grammar.specs.Scopes.{hook_of_attempt}

-- what a question is to the watcher
pub data Class : Type 0 where
  -- read_before_attempt
  Begins : Class
  -- any further question of an attempt
  Within : Class
  -- modify_before_attempt_completion, and read_after_attempt
  Modifies : Class
  Reads : Class
  -- modify_before_completion, and read_after_execution
  Finalizes : Class
  Concludes : Class
  -- the Wait of a deadline
  Awaits : Class
  -- Abandon, and Park
  GivesUp : Class
  Parks : Class
  -- any other question
  Other : Class

abbrev pub hook_class : Hook → Class
hook_class hooks.ReadBeforeAttempt = Begins
hook_class hooks.ModifyBeforeAttemptCompletion = Modifies
hook_class hooks.ReadAfterAttempt = Reads
hook_class hooks.ModifyBeforeCompletion = Finalizes
hook_class hooks.ReadAfterExecution = Concludes
hook_class h = cond (hook_of_attempt h) Within Other

abbrev pub class_of : Kind → Class
class_of (kinds.Hook h) = hook_class h
class_of kinds.Choose = Within
class_of kinds.Endpoint = Within
class_of kinds.Apply = Within
class_of kinds.Sign = Within
class_of kinds.Transmit = Within
class_of kinds.Stream = Within
class_of kinds.Body = Within
class_of kinds.Deserialize = Within
class_of (kinds.Wait roles.Operation) = Awaits
class_of (kinds.Wait roles.Attempt) = Awaits
class_of (kinds.Abandon x) = GivesUp
class_of kinds.Park = Parks
class_of _ = Other

-- where a run is
pub data Stage : Type 0 where
  -- no attempt is open
  Outside : Stage
  -- an attempt is open
  Open : Stage
  -- its deadline cut it
  Closed : Stage
  -- its completion was modified
  Settling : Stage
  -- the operation's deadline cut the run: with an attempt open, with its completion modified, with none open
  CutOpen : Stage
  CutSettling : Stage
  CutOutside : Stage
  -- between the finalizers, and behind them
  Finishing : Stage
  Over : Stage
  -- no whole list comes here
  Wrong : Stage

abbrev pub moved : Stage → Class → Stage
moved Outside Begins = Open
moved Outside Other = Outside
moved Outside Finalizes = Finishing
moved Open Within = Open
moved Open Modifies = Settling
moved Closed Modifies = Settling
moved Settling Reads = Outside
moved CutOpen Modifies = CutSettling
moved CutSettling Reads = CutOutside
moved CutOutside Finalizes = Finishing
moved Finishing Concludes = Over
moved _ _ = Wrong

-- the classes that leave a stage, among which are all questions that can wait
abbrev pub calm : Stage → Class → Bool
calm Outside Other = true
calm Open Within = true
calm _ _ = false

abbrev pub may_wait : Stage → Role → Bool
may_wait Outside roles.Operation = true
may_wait Open roles.Operation = true
may_wait Open roles.Attempt = true
may_wait _ _ = false

abbrev pub cut_at : Role → Stage → Stage
cut_at roles.Operation Outside = CutOutside
cut_at roles.Operation Open = CutOpen
cut_at roles.Attempt Open = Closed
cut_at _ _ = Wrong

abbrev pub gives_up : Abandonable → Kind → Bool
gives_up abandoned.Load kinds.Load = true
gives_up abandoned.Choose kinds.Choose = true
gives_up abandoned.Endpoint kinds.Endpoint = true
gives_up abandoned.Transmit kinds.Transmit = true
gives_up abandoned.Body kinds.Body = true
gives_up abandoned.WaitSend (kinds.Wait roles.Send) = true
gives_up abandoned.WaitRetry (kinds.Wait roles.Retry) = true
gives_up abandoned.WaitLongPoll (kinds.Wait roles.LongPoll) = true
gives_up _ _ = false

abbrev pub lets : Stage → Abandonable → Bool
lets Outside abandoned.Load = true
lets Outside abandoned.WaitSend = true
lets Outside abandoned.WaitRetry = true
lets Outside abandoned.WaitLongPoll = true
lets Open abandoned.Choose = true
lets Open abandoned.Endpoint = true
lets Open abandoned.Transmit = true
lets Open abandoned.Body = true
lets _ _ = false

-- at the stage, the second kind gives up the first
abbrev pub abandons : Stage → Kind → Kind → Bool
abandons g k (kinds.Abandon x) = cond (lets g x) (gives_up x k) false
abandons g k _ = false

pub data Watch : Type 0 where
  Resting : Stage → Watch
  -- the entry was answered Pending
  Waiting : Entry → Stage → Watch
  -- and then the deadline was over
  Cutting : Entry → Role → Stage → Watch

abbrev pub asked_at : (pending : Bool) → Entry → Stage → Watch
asked_at b e g = cond b (Waiting e g) (Resting g)

abbrev pub waited : (may pending ready : Bool) → Entry → Role → Stage → Watch
waited may b c p d g = cond may (cond b (Waiting p g) (cond c (Cutting p d g) (Resting Wrong))) (Resting Wrong)

abbrev pub at_wait : Kind → (pending ready : Bool) → Entry → Stage → Watch
at_wait (kinds.Wait d) b c p g = waited (may_wait g d) b c p d g
at_wait kinds.Park b c p g = Resting g
at_wait _ b c p g = Resting Wrong

abbrev pub after_cutting : (given_up : Bool) → Role → Stage → Watch
after_cutting b d g = Resting (cond b (cut_at d g) Wrong)

abbrev pub watch : Watch → Entry → Watch
watch (Resting g) e = asked_at (pending e) e (moved g (class_of (kind_of e)))
watch (Waiting p g) e = at_wait (kind_of e) (pending e) (ready e) p g
watch (Cutting p d g) e = after_cutting (abandons g (kind_of p) (kind_of e)) d g

abbrev pub watched : Watch → List Entry → Watch
watched m [] = m
watched m (e ∷ l) = watched (watch m e) l

abbrev pub stage : Watch → Stage
stage (Resting g) = g
stage (Waiting p g) = g
stage (Cutting p d g) = g

pub watched-append : (a b : List Entry) (m : Watch) → watched m (a ++ b) ≡ watched (watched m a) b
watched-append [] b m = refl
watched-append (e ∷ a) b m = watched-append a b (watch m e)

pub watched_on : (l a b : List Entry) (m n : Watch) → l ≡ a ++ b → watched m a ≡ n → watched m l ≡ watched n b
watched_on l a b m n e h = ap (λ k. watched m k) e ∙ watched-append a b m ∙ ap (λ k. watched k b) h

-- ---- tables

pub calm_moves : (g : Stage) (c : Class) → calm g c ≡ true → moved g c ≡ g
calm_moves Outside Other h = refl
calm_moves Open Within h = refl
calm_moves _ _ h = absurd (cc)

-- a question that can wait at a stage can be given up there
pub calm_abandons : (g : Stage) (k : Kind) → calm g (class_of k) ≡ true → can_wait k ≡ true → abandons g k (abandon_of k) ≡ true
calm_abandons Outside kinds.Load h w = refl
calm_abandons Outside (kinds.Wait roles.Send) h w = refl
calm_abandons Outside (kinds.Wait roles.Retry) h w = refl
calm_abandons Outside (kinds.Wait roles.LongPoll) h w = refl
calm_abandons Open (kinds.Wait roles.Operation) h w = absurd (cc)
calm_abandons Open kinds.Choose h w = refl
calm_abandons Open kinds.Endpoint h w = refl
calm_abandons Open kinds.Transmit h w = refl
calm_abandons Open kinds.Body h w = refl
calm_abandons _ _ h w = absurd (cc)

given_up : (x : Abandonable) (k : Kind) → gives_up x k ≡ true → kinds.Abandon x ≡ abandon_of k
given_up abandoned.Load kinds.Load h = refl
given_up abandoned.Choose kinds.Choose h = refl
given_up abandoned.Endpoint kinds.Endpoint h = refl
given_up abandoned.Transmit kinds.Transmit h = refl
given_up abandoned.Body kinds.Body h = refl
given_up abandoned.WaitSend (kinds.Wait roles.Send) h = refl
given_up abandoned.WaitRetry (kinds.Wait roles.Retry) h = refl
given_up abandoned.WaitLongPoll (kinds.Wait roles.LongPoll) h = refl
given_up _ _ h = absurd (cc)

pub both : (a b : Bool) → cond a b false ≡ true → (a ≡ true) × (b ≡ true)
both true b h = (refl, h)
both false b h = absurd (cc)

pub is_abandon_of : (g : Stage) (k j : Kind) → abandons g k j ≡ true → j ≡ abandon_of k
is_abandon_of g k (kinds.Abandon x) h = given_up x k (both (lets g x) (gives_up x k) h).1
is_abandon_of g k _ h = absurd (cc)
