-- Lines that are read one after another.
use Rattle.std.proofs.Common.{◌≡◌, ℕ, suc, ◌+◌, ◌<◌, ◌≤◌, List, [], ◌∷◌, ◌++◌, ◌-◌, length, take, drop, get_or, map, true, Option, Result, Some, None, option_and_then, option_map, Bor, refl, ap, ap₂, subst, ◌∙◌, sym, append_assoc, drop-cons, add-one, arith}
use Rattle.std.proofs.lemmas.List.{append-nil, drop_all, map-append, take_all, take_more}
use Rattle.std.specs.Str.Lines.{lines}
use Rattle.serde_json.specs.Data.{Data}
use Rattle.serde_json.specs.Read.{read}
use Rattle.serde_json.specs.View.{items_of}
use Rattle.json_forms.specs.Lines.{each_read}
use Rattle.json_forms.specs.Lists.{list_of}
use Rattle.json_forms.specs.Reading.{◌>>=◌, Fails, Reads}
use Rattle.json_forms.specs.declared.read.ReadError.{ReadError}
use Rattle.json_forms.specs.declared.read.ReadError.TheVariants.{Memory, Refused}
use Rattle.json_forms.proofs.ReadLists.{behind, behind-nil}
use Rattle.runcheck.specs.Told.{between, call_at, head_at, told_at, told_by}
use Rattle.runcheck.specs.declared.told.Call.{Call}
use Rattle.runcheck.specs.declared.told.Told.{Told}
use Rattle.json_print.specs.declared.head.RunHead.{RunHead}
use Rattle.runcheck.proofs.Between.{between_read}

abbrev pub Line : Type 0
Line = Bor (List ℕ)

-- what f reads of each line, where each line is JSON
abbrev pub each_line : {X : Type 0} (f : Data → Option X) → List Line → Option (List X)
each_line f ls = option_and_then (λ ds. list_of f (items_of ds)) (each_read (map read (map (λ l. l.now) ls)))

each_line-nil : {X : Type 0} (f : Data → Option X) → each_line f [] ≡ Some []
unfolding list_of
each_line-nil f = refl

nothing : {X Y : Type 0} (y : Option Y) (o : Option X) → y ≡ None → y ≡ (o >>= λ x. y)
nothing y None h = h
nothing y (Some x) h = refl

each_line-by : {X : Type 0} (f : Data → Option X) (r : Option Data) (o : Option (List Data)) →
    option_and_then (λ ds. list_of f (items_of ds)) (option_and_then (λ d. option_map (λ ds. d ∷ ds) o) r)
    ≡ (option_and_then f r >>= λ x. option_and_then (λ ds. list_of f (items_of ds)) o >>= λ xs. Some (x ∷ xs))
unfolding list_of
each_line-by f None o = refl
each_line-by f (Some d) None = nothing None (f d) refl
each_line-by f (Some d) (Some ds) = refl

each_line-cons : {X : Type 0} (f : Data → Option X) (l : Line) (ls : List Line) → each_line f (l ∷ ls) ≡ (option_and_then f (read l.now) >>= λ x. each_line f ls >>= λ xs. Some (x ∷ xs))
each_line-cons f l ls = each_line-by f (read l.now) (each_read (map read (map (λ l. l.now) ls)))

each_line-drop : {X : Type 0} (f : Data → Option X) (ls : List Line) (i : ℕ) (d : Line) → i < length ls →
    each_line f (drop i ls) ≡ (option_and_then f (read (get_or ls i d).now) >>= λ x. each_line f (drop (i + 1) ls) >>= λ xs. Some (x ∷ xs))
each_line-drop f ls i d h = ap (each_line f) (drop-cons ls i d h) ∙ rw add-one (each_line-cons f (get_or ls i d) (drop (suc i) ls))

behind-push : {X : Type 0} (front : List X) (a : X) (o : Option (List X)) → behind front (o >>= λ list. Some (a ∷ list)) ≡ behind (front ++ a ∷ []) o
behind-push front a None = refl
behind-push {X} front a (Some rest) = ap (λ (l : List X). Some l) (sym (append_assoc front (a ∷ []) rest))

-- one line more
pub line_more : {X : Type 0} (f : Data → Option X) (front : List X) (ls : List Line) (i : ℕ) (d : Line) (x : X) → i < length ls → option_and_then f (read (get_or ls i d).now) ≡ Some x →
    behind (front ++ x ∷ []) (each_line f (drop (i + 1) ls)) ≡ behind front (each_line f (drop i ls))
line_more {X} f front ls i d x h r =
    sym (ap (behind front) (each_line-drop f ls i d h ∙ ap (λ (o : Option X). o >>= λ y. each_line f (drop (i + 1) ls) >>= λ ys. Some (y ∷ ys)) r)
    ∙ behind-push front x (each_line f (drop (i + 1) ls)))

line_none : {X : Type 0} (f : Data → Option X) (front : List X) (ls : List Line) (i : ℕ) (d : Line) → i < length ls → option_and_then f (read (get_or ls i d).now) ≡ None →
    behind front (each_line f (drop i ls)) ≡ None
line_none {X} f front ls i d h r =
    ap (behind front) (each_line-drop f ls i d h ∙ ap (λ (o : Option X). o >>= λ y. each_line f (drop (i + 1) ls) >>= λ ys. Some (y ∷ ys)) r)

-- a line that was not read
pub line_fail : {X : Type 0} (f : Data → Option X) (error : ReadError) (front : List X) (ls : List Line) (i : ℕ) (d : Line) → i < length ls →
    behind front (each_line f (drop i ls)) ≡ each_line f ls → Fails error (option_and_then f (read (get_or ls i d).now)) → Fails error (each_line f ls)
line_fail f Memory front ls i d h w r = tt
line_fail f Refused front ls i d h w r = sym w ∙ line_none f front ls i d h r

-- no line more
pub line_end : {X : Type 0} (f : Data → Option X) (front : List X) (ls : List Line) (i : ℕ) → length ls ≤ i → behind front (each_line f (drop i ls)) ≡ Some front
line_end {X} f front ls i h =
    ap (λ (ks : List Line). behind front (each_line f ks)) (drop_all i ls h) ∙ ap (behind front) (each_line-nil f) ∙ ap (λ (l : List X). Some l) (append-nil front)

pub ruleset line_reading = (behind-nil, line_more, line_fail, line_end)

-- ---- the first line, those between, and the last

each_read-last : (rs : List (Option Data)) (r : Option Data) → each_read (rs ++ r ∷ []) ≡ (each_read rs >>= λ ds. option_map (λ d. ds ++ d ∷ []) r)
each_read-last [] None = refl
each_read-last [] (Some d) = refl
each_read-last (q ∷ rs) r = ap (λ o. option_and_then (λ d. option_map (λ ds. d ∷ ds) o) q) (each_read-last rs r) ∙ pushed q (each_read rs) r
  where
    pushed : (q : Option Data) (o : Option (List Data)) (r : Option Data) →
        option_and_then (λ d. option_map (λ ds. d ∷ ds) (o >>= λ ds. option_map (λ e. ds ++ e ∷ []) r)) q
        ≡ (option_and_then (λ d. option_map (λ ds. d ∷ ds) o) q >>= λ ds. option_map (λ e. ds ++ e ∷ []) r)
    pushed None o r = refl
    pushed (Some d) None r = refl
    pushed (Some d) (Some ds) None = refl
    pushed (Some d) (Some ds) (Some e) = refl

abbrev told_of : RunHead → List Call → Told
told_of h cs = record { head = h; calls = cs }

-- what the parts tell
abbrev told_apart : Option Data → Option (List Data) → Option Data → Option Told
told_apart a o z = option_and_then (λ h. option_and_then (λ cs. option_and_then (λ b. Some (told_of h cs)) (option_map (λ d. true) z)) (option_and_then (λ ds. list_of call_at (items_of ds)) o)) (option_and_then head_at a)

nothing_read : {X Y : Type 0} (y : Option Y) (o : Option X) → y ≡ None → y ≡ option_and_then (λ x. y) o
nothing_read y None h = h
nothing_read y (Some x) h = refl

told_by_parts : (a : Option Data) (o : Option (List Data)) (z : Option Data) →
    option_and_then told_at (option_and_then (λ d. option_map (λ ds. d ∷ ds) (o >>= λ ds. option_map (λ e. ds ++ e ∷ []) z)) a) ≡ told_apart a o z
unfolding told_at
told_by_parts None o z = refl
told_by_parts (Some a) None z = nothing_read None (head_at a) refl
told_by_parts (Some a) (Some ds) None = neither None (head_at a) (list_of call_at (items_of ds)) refl
  where
    neither : {X Y Z : Type 0} (z : Option Z) (o : Option X) (p : Option Y) → z ≡ None → z ≡ option_and_then (λ x. option_and_then (λ y. z) p) o
    neither z None p h = h
    neither z (Some x) p h = nothing_read z p h
told_by_parts (Some a) (Some ds) (Some z) = rw (between_read a ds z) (same (head_at a) (list_of call_at (items_of ds)))
  where
    same : (o : Option RunHead) (p : Option (List Call)) →
        (o >>= λ h. p >>= λ cs. Some (told_of h cs)) ≡ option_and_then (λ h. option_and_then (λ cs. Some (told_of h cs)) p) o
    same None p = refl
    same (Some h) None = refl
    same (Some h) (Some cs) = refl

-- too few lines
pub too_few_lines : (ls : List Line) → length ls < 2 → option_and_then told_at (each_read (map read (map (λ l. l.now) ls))) ≡ None
unfolding told_at between
too_few_lines [] h = refl
too_few_lines (l ∷ []) h = of_one (read l.now)
  where
    of_one : (r : Option Data) → option_and_then told_at (option_and_then (λ d. option_map (λ ds. d ∷ ds) (Some [])) r) ≡ None
    of_one None = refl
    of_one (Some d) = sym (nothing None (head_at d) refl)
too_few_lines (l ∷ m ∷ ls) h = absurd (omega arith)

told_lines : (a z : List ℕ) (ts : List (List ℕ)) → option_and_then told_at (each_read (map read (a ∷ (ts ++ z ∷ [])))) ≡ told_apart (read a) (each_read (map read ts)) (read z)
told_lines a z ts =
    ap (λ o. option_and_then told_at (option_and_then (λ d. option_map (λ ds. d ∷ ds) o) (read a))) (ap each_read (map-append read ts (z ∷ [])) ∙ each_read-last (map read ts) (read z))
    ∙ told_by_parts (read a) (each_read (map read ts)) (read z)

pub told_in_lines : (ls bs : List Line) (a z : List ℕ) (r : Result Told ReadError) → map (λ l. l.now) ls ≡ a ∷ (map (λ l. l.now) bs ++ z ∷ []) →
    Reads r (told_apart (read a) (each_read (map read (map (λ l. l.now) bs))) (read z)) → Reads r (option_and_then told_at (each_read (map read (map (λ l. l.now) ls))))
told_in_lines ls bs a z r e t = subst (Reads r) (sym (ap (λ ts. option_and_then told_at (each_read (map read ts))) e ∙ told_lines a z (map (λ l. l.now) bs))) t

cut : (l m : Line) (ks : List Line) (e : Line) → l ∷ (m ∷ ks) ≡ l ∷ (take (length (l ∷ (m ∷ ks)) - 1 - 1) (m ∷ ks) ++ get_or (l ∷ (m ∷ ks)) (length (l ∷ (m ∷ ks)) - 1) e ∷ [])
cut l m ks e =
    let two : length ks ≡ length (l ∷ (m ∷ ks)) - 1 - 1 = omega arith in
    let one : suc (length ks) ≡ length (l ∷ (m ∷ ks)) - 1 = omega arith in
    ap (λ (ts : List Line). l ∷ ts) (sym (take_all (length ks + 1) (m ∷ ks) (omega arith)) ∙ take_more (m ∷ ks) (length ks) e (omega arith)
    ∙ ap₂ (λ i j. take i (m ∷ ks) ++ get_or (l ∷ (m ∷ ks)) j e ∷ []) two one)

-- where the lines are cut
pub in_parts : (ls : List Line) (d e : Line) → 2 ≤ length ls →
    map (λ l. l.now) ls ≡ (get_or ls 0 d).now ∷ (map (λ l. l.now) (take (length ls - 1 - 1) (drop 1 ls)) ++ (get_or ls (length ls - 1) e).now ∷ [])
in_parts [] d e h = absurd (omega arith)
in_parts (l ∷ []) d e h = absurd (omega arith)
in_parts (l ∷ (m ∷ ks)) d e h =
    ap (map (λ (l : Line). l.now)) (cut l m ks e)
    ∙ ap (λ ts. l.now ∷ ts) (map-append (λ (l : Line). l.now) (take (length (l ∷ (m ∷ ks)) - 1 - 1) (m ∷ ks)) (get_or (l ∷ (m ∷ ks)) (length (l ∷ (m ∷ ks)) - 1) e ∷ []))

-- all lines of the text
pub told_by_lines : (text : List ℕ) (ls : List Line) (r : Result Told ReadError) → map (λ l. l.now) ls ≡ lines text →
    Reads r (option_and_then told_at (each_read (map read (map (λ l. l.now) ls)))) → Reads r (told_by text)
unfolding told_by
told_by_lines text ls r e t = subst (Reads r) (ap (λ ts. option_and_then told_at (each_read (map read ts))) e ∙ joined (each_read (map read (lines text)))) t
  where
    joined : (o : Option (List Data)) → option_and_then told_at o ≡ (o >>= told_at)
    joined None = refl
    joined (Some ds) = refl
