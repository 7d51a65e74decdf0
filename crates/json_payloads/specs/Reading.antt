-- What a reader answers, and how readings are joined.
use Rattle.std.specs.Prelude.{◌≡◌, Option, Some, None, Result, Ok, Err}
use Rattle.json_payloads.specs.declared.reading.ReadError.{ReadError}
use Rattle.json_payloads.specs.declared.reading.ReadError.TheVariants.{Memory, Refused}

infixl 10 ◌>>=◌
-- the first reading, and of its value the second
abbrev pub ◌>>=◌ : {A B : Type 0} → Option A → (A → Option B) → Option B
(Some x) >>= f = f x
None >>= f = None

-- It was refused where there is no reading. Nothing is said where memory ran out.
abbrev pub Fails : {Y : Type 0} → ReadError → Option Y → Type 0
Fails Memory reading = Unit {0}
Fails (Refused why) reading = reading ≡ None

-- What was answered, seen by the view, is the reading, unless memory ran out.
abbrev pub Gives : {X Y : Type 0} → (X → Y) → Result X ReadError → Option Y → Type 0
Gives view (Ok x) reading = reading ≡ Some (view x)
Gives view (Err e) reading = Fails e reading

-- What was answered is the reading, unless memory ran out.
abbrev pub Reads : {X : Type 0} → Result X ReadError → Option X → Type 0
Reads result reading = Gives (λ x. x) result reading
