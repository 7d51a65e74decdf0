-- Lists that are parted by a test.
use Rattle.std.proofs.Common.{◌≡◌, ◌++◌, ◌∷◌, [], not, ℕ, ◌+◌, ◌-◌, ◌<◌, ◌≤◌, length, take, drop, get_or, Bool, true, false, cond, ◌&&◌, ◌||◌, List, refl, sym, ap, ◌∙◌, arith, append_assoc}
use Rattle.std.specs.List.{filter, remove}
use Rattle.std.proofs.lemmas.Grind.{common_steps}
use Rattle.std.proofs.lemmas.List.{drop_more, append-nil, length-drop}
use Rattle.std.proofs.lemmas.List.Elements.{filter-append, filter_more, filter_agree}
use Rattle.std.proofs.lemmas.Slice.Eq.{bytes_eq-Decides}
use Rattle.std.proofs.Math.ListN.{drop_of_length-le}
use Rattle.std.proofs.Math.Seq.{drop-append_seam, take-append_seam, take-length}
use Rattle.auth_endpoint.specs.Choice.{is_id, is_named, preferred}

-- ---- one test

-- of the first n items those that fail the test stand in front, then come the others of the list, then those of the first n that pass
pub record IsMovedBack {X : Type 0} (test : X → Bool) (all : List X) (n kept : ℕ) (now : List X) : Type 0 where
  pub within : n ≤ length all
  pub front : length (filter (λ x. not (test x)) (take n all)) ≡ kept
  pub parts : now ≡ filter (λ x. not (test x)) (take n all) ++ drop n all ++ filter test (take n all)

remove_at : {X : Type 0} (front later : List X) (x : X) → remove (front ++ x ∷ later) (length front) ≡ front ++ later
remove_at [] later x = refl
remove_at (y ∷ front) later x = ap (λ l. y ∷ l) (remove_at front later x)

read_at : {X : Type 0} (front later : List X) (x d : X) → get_or (front ++ x ∷ later) (length front) d ≡ x
read_at [] later x d = refl
read_at (y ∷ front) later x d = read_at front later x d

-- nothing was looked at
pub moved_none : {X : Type 0} (test : X → Bool) (all : List X) → IsMovedBack test all 0 0 all
moved_none test all = record { within = omega arith; front = refl; parts = sym (append-nil all) }

spread : {X : Type 0} (test : X → Bool) (all : List X) (n : ℕ) (x : X) (now : List X) → n < length all → now ≡ filter (λ x. not (test x)) (take n all) ++ drop n all ++ filter test (take n all) → x ≡ get_or all n x → now ≡ filter (λ x. not (test x)) (take n all) ++ x ∷ (drop (n + 1) all ++ filter test (take n all))
spread test all n x now within parts is = parts ∙ append_assoc (filter (λ x. not (test x)) (take n all)) (drop n all) (filter test (take n all)) ∙ ap (λ l. filter (λ x. not (test x)) (take n all) ++ (l ++ filter test (take n all))) (drop_more all n x within ∙ ap (λ y. y ∷ drop (n + 1) all) (sym is))

-- what stands at the place that is read
pub read_next : {X : Type 0} (test : X → Bool) (all : List X) (n kept : ℕ) (now : List X) (d e : X) → IsMovedBack test all n kept now → n < length all → get_or now kept d ≡ get_or all n e
read_next test all n kept now d e m within =
    ap (λ l. get_or l kept d) (spread test all n (get_or all n e) now within m.parts (get_or_same all n e within))
    ∙ rw (sym m.front) (read_at (filter (λ x. not (test x)) (take n all)) (drop (n + 1) all ++ filter test (take n all)) (get_or all n e) d)
  where
    get_or_same : {X : Type 0} (xs : List X) (n : ℕ) (d : X) → n < length xs → get_or xs n d ≡ get_or xs n (get_or xs n d)
    get_or_same xs n d h = grind (arith, common_steps)

filter_in : {X : Type 0} (f : X → Bool) (all : List X) (n : ℕ) (x : X) → n < length all → x ≡ get_or all n x → f x ≡ true → filter f (take (n + 1) all) ≡ filter f (take n all) ++ x ∷ []
filter_in f all n x within is passes = filter_more f all n x within ∙ rw (sym is, passes) refl

filter_out : {X : Type 0} (f : X → Bool) (all : List X) (n : ℕ) (x : X) → n < length all → x ≡ get_or all n x → f x ≡ false → filter f (take (n + 1) all) ≡ filter f (take n all)
filter_out f all n x within is fails = filter_more f all n x within ∙ rw (sym is, fails) (append-nil (filter f (take n all)))

-- an item passes: it goes to the end
pub moved_one : {X : Type 0} (test : X → Bool) (all : List X) (n kept : ℕ) (now new : List X) (x : X) → IsMovedBack test all n kept now → n < length all → x ≡ get_or all n x → test x ≡ true → new ≡ remove now kept ++ x ∷ [] → IsMovedBack test all (n + 1) kept new
moved_one {X} test all n kept now new x m within is passes made =
    let front : List X = filter (λ y. not (test y)) (take n all) in
    let back : List X = filter test (take n all) in
    let same : filter (λ y. not (test y)) (take (n + 1) all) ≡ front = filter_out (λ y. not (test y)) all n x within is (ap not passes) in
    let more : filter test (take (n + 1) all) ≡ back ++ x ∷ [] = filter_in test all n x within is passes in
    let removed : remove now kept ≡ front ++ (drop (n + 1) all ++ back) = ap (λ l. remove l kept) (spread test all n x now within m.parts is) ∙ at_front front (drop (n + 1) all ++ back) x kept m.front in
    record {
      within = omega arith;
      front = ap length same ∙ m.front;
      parts = made ∙ ap (λ l. l ++ x ∷ []) removed ∙ regroup front (drop (n + 1) all) back (x ∷ []) ∙ sym (ap (λ l. l ++ drop (n + 1) all ++ filter test (take (n + 1) all)) same ∙ ap (λ l. front ++ drop (n + 1) all ++ l) more);
    }
  where
    at_front : {X : Type 0} (front later : List X) (x : X) (kept : ℕ) → length front ≡ kept → remove (front ++ x ∷ later) kept ≡ front ++ later
    at_front front later x kept h = rw (sym h) (remove_at front later x)

    regroup : {X : Type 0} (a b c d : List X) → (a ++ (b ++ c)) ++ d ≡ (a ++ b) ++ (c ++ d)
    regroup a b c d = grind (arith, append_assoc)

-- an item fails: it stays
pub moved_not : {X : Type 0} (test : X → Bool) (all : List X) (n kept : ℕ) (now : List X) (x : X) → IsMovedBack test all n kept now → n < length all → x ≡ get_or all n x → test x ≡ false → IsMovedBack test all (n + 1) (kept + 1) now
moved_not {X} test all n kept now x m within is fails =
    let front : List X = filter (λ y. not (test y)) (take n all) in
    let back : List X = filter test (take n all) in
    let same : filter test (take (n + 1) all) ≡ back = filter_out test all n x within is fails in
    let more : filter (λ y. not (test y)) (take (n + 1) all) ≡ front ++ x ∷ [] = filter_in (λ y. not (test y)) all n x within is (ap not fails) in
    record {
      within = omega arith;
      front = ap length more ∙ length_push front x ∙ ap (λ k. k + 1) m.front;
      parts = spread test all n x now within m.parts is ∙ regroup front x (drop (n + 1) all) back ∙ sym (ap (λ l. l ++ drop (n + 1) all ++ filter test (take (n + 1) all)) more ∙ ap (λ l. (front ++ x ∷ []) ++ drop (n + 1) all ++ l) same);
    }
  where
    length_push : {X : Type 0} (xs : List X) (x : X) → length (xs ++ x ∷ []) ≡ length xs + 1
    length_push xs x = grind (arith, common_steps)

    regroup : {X : Type 0} (a : List X) (x : X) (b c : List X) → a ++ x ∷ (b ++ c) ≡ ((a ++ x ∷ []) ++ b) ++ c
    regroup a x b c = grind (arith, append_assoc)

-- every item was looked at
pub moved_all : {X : Type 0} (test : X → Bool) (all : List X) (n kept : ℕ) (now : List X) → IsMovedBack test all n kept now → length all ≤ n → now ≡ filter (λ x. not (test x)) all ++ filter test all
moved_all test all n kept now m whole = m.parts ∙ rw (take_whole all n whole, drop_whole all n whole) (ap (λ l. l ++ filter test all) (append-nil (filter (λ x. not (test x)) all)))
  where
    take_whole : {X : Type 0} (xs : List X) (i : ℕ) → length xs ≤ i → take i xs ≡ xs
    take_whole xs i h = grind (arith, common_steps)

    drop_whole : {X : Type 0} (xs : List X) (i : ℕ) → length xs ≤ i → drop i xs ≡ []
    drop_whole xs i h = grind (arith, common_steps)

-- ---- one test within another

-- what passes both
pub filter_twice : {X : Type 0} (f g : X → Bool) (xs : List X) → filter f (filter g xs) ≡ filter (λ x. g x && f x) xs
filter_twice f g [] = refl
filter_twice f g (x ∷ xs) = head (g x) refl (filter_twice f g xs)
  where
    head : (b : Bool) → g x ≡ b → filter f (filter g xs) ≡ filter (λ x. g x && f x) xs → filter f (filter g (x ∷ xs)) ≡ filter (λ x. g x && f x) (x ∷ xs)
    head true e later = rw e (ap (λ l. cond (f x) (x ∷ l) l) later)
    head false e later = rw e later

pub filter_none : {X : Type 0} (f : X → Bool) (xs : List X) → ((x : X) → f x ≡ false) → filter f xs ≡ []
filter_none f [] none = refl
filter_none f (x ∷ xs) none = rw (none x) (filter_none f xs none)

-- ---- the names of a preference

id_is : (p o : List ℕ) → is_id p o ≡ true → o ≡ p
id_is p o e = (bytes_eq-Decides o p).0 e

id_same : (p : List ℕ) → is_id p p ≡ true
id_same p = (bytes_eq-Decides p p).1 refl

clash : false ≡ true → ⊥
clash e = cc

and_false : (a : Bool) → a && false ≡ false
and_false true = refl
and_false false = refl

and_true : (a : Bool) → a && true ≡ a
and_true true = refl
and_true false = refl

id_turned : (p o : List ℕ) → is_id p o ≡ is_id o p
id_turned p o = turned (is_id p o) (is_id o p) refl refl
  where
    turned : (b c : Bool) → is_id p o ≡ b → is_id o p ≡ c → is_id p o ≡ is_id o p
    turned true true e h = e ∙ sym h
    turned false false e h = e ∙ sym h
    turned true false e h = absurd (clash (sym h ∙ (bytes_eq-Decides p o).1 (sym (id_is p o e))))
    turned false true e h = absurd (clash (sym e ∙ (bytes_eq-Decides o p).1 (sym (id_is o p h))))

-- options of one id that have another id: none
other_id : (p q : List ℕ) (options : List (List ℕ)) → is_id q p ≡ false → filter (is_id p) (filter (is_id q) options) ≡ []
other_id p q options differ = filter_twice (is_id p) (is_id q) options ∙ filter_none (λ x. is_id q x && is_id p x) options (λ x. none x (is_id p x) refl)
  where
    none : (x : List ℕ) (b : Bool) → is_id p x ≡ b → is_id q x && is_id p x ≡ false
    none x true e = rw (id_is p x e, differ) refl
    none x false e = rw e (and_false (is_id q x))

-- nothing has this id, so all stays without it
without_none : (p : List ℕ) (options : List (List ℕ)) → filter (is_id p) options ≡ [] → filter (λ o. not (is_id p o)) options ≡ options
without_none p [] none = refl
without_none p (o ∷ options) none = stays (is_id p o) refl (λ h. without_none p options h)
  where
    not_empty : {X : Type 0} (x : X) (xs : List X) → x ∷ xs ≡ [] → ⊥
    not_empty x xs e = cc

    stays : (b : Bool) → is_id p o ≡ b → (filter (is_id p) options ≡ [] → filter (λ o. not (is_id p o)) options ≡ options) → filter (λ o. not (is_id p o)) (o ∷ options) ≡ o ∷ options
    stays true e later =
        let kept : filter (is_id p) (o ∷ options) ≡ o ∷ filter (is_id p) options = rw e refl in
        absurd (not_empty o (filter (is_id p) options) (sym kept ∙ none))
    stays false e later =
        let kept : filter (is_id p) (o ∷ options) ≡ filter (is_id p) options = rw e refl in
        rw e (ap (λ l. o ∷ l) (later (sym kept ∙ none)))

-- ---- the walk over a preference

-- the options whose names are all behind stand at the end, as the preference orders them; the others keep their order
pub record IsOrdered (names options left now : List (List ℕ)) : Type 0 where
  pub settled : List (List ℕ)
  pub ordered : preferred names options ≡ settled ++ preferred left options
  pub parts : now ≡ filter (λ o. is_named left o || not (is_named names o)) options ++ settled
  pub behind : (p : List ℕ) → is_named left p ≡ true → filter (is_id p) settled ≡ []
  pub among : (p : List ℕ) → is_named left p ≡ true → is_named names p ≡ true

or_true : (a : Bool) → a || true ≡ true
or_true true = refl
or_true false = refl

pub ordered_none : (names options : List (List ℕ)) → IsOrdered names options names options
ordered_none names options =
    record {
      settled = [];
      ordered = refl;
      parts = sym (append-nil (filter (λ o. is_named names o || not (is_named names o)) options) ∙ all_pass options);
      behind = λ p h. refl;
      among = λ p h. h;
    }
  where
    either : (b : Bool) → b || not b ≡ true
    either true = refl
    either false = refl

    all_pass : (xs : List (List ℕ)) → filter (λ o. is_named names o || not (is_named names o)) xs ≡ xs
    all_pass [] = refl
    all_pass (x ∷ xs) = rw (either (is_named names x)) (ap (λ l. x ∷ l) (all_pass xs))

-- a name that comes again: its options wait for its last place
pub ordered_again : (names options left now : List (List ℕ)) (q : List ℕ) → IsOrdered names options (q ∷ left) now → is_named left q ≡ true → IsOrdered names options left now
ordered_again names options left now q m again =
    record {
      settled = m.settled;
      ordered = m.ordered ∙ ap (λ l. m.settled ++ l) (rw again refl);
      parts = m.parts ∙ ap (λ l. l ++ m.settled) (filter_agree (λ o. is_named (q ∷ left) o || not (is_named names o)) (λ o. is_named left o || not (is_named names o)) (λ o. same o (is_id o q) refl) options);
      behind = λ p h. m.behind p (named p h);
      among = λ p h. m.among p (named p h);
    }
  where
    named : (p : List ℕ) → is_named left p ≡ true → is_named (q ∷ left) p ≡ true
    named p h = rw h (or_true (is_id p q))

    same : (o : List ℕ) (b : Bool) → is_id o q ≡ b → is_named (q ∷ left) o || not (is_named names o) ≡ is_named left o || not (is_named names o)
    same o true e = rw (e, ap (λ t. is_named left t) (sym (id_is o q e)) ∙ again) refl
    same o false e = rw e refl

-- the last place of a name: its options go behind the others
pub ordered_last : (names options left now new : List (List ℕ)) (q : List ℕ) → IsOrdered names options (q ∷ left) now → is_named left q ≡ false → new ≡ filter (λ o. not (is_id q o)) now ++ filter (is_id q) now → IsOrdered names options left new
ordered_last names options left now new q m last made =
    let settled = m.settled in
    let named : is_named (q ∷ left) q ≡ true = rw (id_same q) refl in
    let none : filter (is_id q) settled ≡ [] = m.behind q named in
    let waiting : List (List ℕ) = filter (λ o. is_named (q ∷ left) o || not (is_named names o)) options in
    let stay : filter (λ o. not (is_id q o)) waiting ≡ filter (λ o. is_named left o || not (is_named names o)) options =
    filter_twice (λ o. not (is_id q o)) (λ o. is_named (q ∷ left) o || not (is_named names o)) options
    ∙ filter_agree (λ o. (is_named (q ∷ left) o || not (is_named names o)) && not (is_id q o)) (λ o. is_named left o || not (is_named names o)) (λ o. stays o (is_id q o) refl (m.among q named)) options in
    let go : filter (is_id q) waiting ≡ filter (is_id q) options =
    filter_twice (is_id q) (λ o. is_named (q ∷ left) o || not (is_named names o)) options
    ∙ filter_agree (λ o. (is_named (q ∷ left) o || not (is_named names o)) && is_id q o) (is_id q) (λ o. goes o (is_id q o) refl) options in
    record {
      settled = settled ++ filter (is_id q) options;
      ordered = m.ordered ∙ ap (λ l. settled ++ l) (rw last refl) ∙ sym (append_assoc settled (filter (is_id q) options) (preferred left options));
      parts = made ∙ ap (λ l. filter (λ o. not (is_id q o)) l ++ filter (is_id q) l) m.parts
          ∙ ap (λ l. l ++ filter (is_id q) (waiting ++ settled)) (filter-append (λ o. not (is_id q o)) waiting settled ∙ ap (λ l. l ++ filter (λ o. not (is_id q o)) settled) stay ∙ ap (λ l. filter (λ o. is_named left o || not (is_named names o)) options ++ l) (without_none q settled none))
          ∙ ap (λ l. (filter (λ o. is_named left o || not (is_named names o)) options ++ settled) ++ l) (filter-append (is_id q) waiting settled ∙ ap (λ l. l ++ filter (is_id q) settled) go ∙ ap (λ l. filter (is_id q) options ++ l) none ∙ append-nil (filter (is_id q) options))
          ∙ append_assoc (filter (λ o. is_named left o || not (is_named names o)) options) settled (filter (is_id q) options);
      behind = λ p h. filter-append (is_id p) settled (filter (is_id q) options) ∙ ap (λ l. l ++ filter (is_id p) (filter (is_id q) options)) (m.behind p (among p h)) ∙ other_id p q options (differ p (is_id q p) refl h);
      among = λ p h. m.among p (among p h);
    }
  where
    among : (p : List ℕ) → is_named left p ≡ true → is_named (q ∷ left) p ≡ true
    among p h = rw h (or_true (is_id p q))

    differ : (p : List ℕ) (b : Bool) → is_id q p ≡ b → is_named left p ≡ true → is_id q p ≡ false
    differ p true e h = absurd (clash (sym last ∙ ap (λ t. is_named left t) (sym (id_is q p e)) ∙ h))
    differ p false e h = e

    stays : (o : List ℕ) (b : Bool) → is_id q o ≡ b → is_named names q ≡ true → (is_named (q ∷ left) o || not (is_named names o)) && not (is_id q o) ≡ is_named left o || not (is_named names o)
    stays o true e n = rw (id_is q o e, last, n, id_same q) refl
    stays o false e n = rw (e, sym (id_turned q o) ∙ e) (and_true (is_named left o || not (is_named names o)))

    goes : (o : List ℕ) (b : Bool) → is_id q o ≡ b → (is_named (q ∷ left) o || not (is_named names o)) && is_id q o ≡ is_id q o
    goes o true e = rw (e, sym (id_turned q o) ∙ e) refl
    goes o false e = rw e (and_false (is_named (q ∷ left) o || not (is_named names o)))

-- a slice up to the end
pub all_left : {X : Type 0} (xs : List X) (n : ℕ) → drop n xs ≡ take (length xs - n) (drop n xs)
all_left xs n = sym (ap (λ k. take k (drop n xs)) (sym (length-drop n xs)) ∙ take-length (drop n xs))

-- one name more
pub ordered_more_again : (names options now : List (List ℕ)) (i : ℕ) (p : List ℕ) → IsOrdered names options (drop i names) now → i < length names → p ≡ get_or names i p → is_named (drop (i + 1) names) p ≡ true → IsOrdered names options (drop (i + 1) names) now
ordered_more_again names options now i p m within is again = ordered_again names options (drop (i + 1) names) now p (left m) again
  where
    left : IsOrdered names options (drop i names) now → IsOrdered names options (p ∷ drop (i + 1) names) now
    left m = rw (sym (drop_more names i p within ∙ ap (λ t. t ∷ drop (i + 1) names) (sym is))) m

pub ordered_more_last : (names options now new : List (List ℕ)) (i : ℕ) (p : List ℕ) → IsOrdered names options (drop i names) now → i < length names → p ≡ get_or names i p → is_named (drop (i + 1) names) p ≡ false → new ≡ filter (λ o. not (is_id p o)) now ++ filter (is_id p) now → IsOrdered names options (drop (i + 1) names) new
ordered_more_last names options now new i p m within is last made = ordered_last names options (drop (i + 1) names) now new p (left m) last made
  where
    left : IsOrdered names options (drop i names) now → IsOrdered names options (p ∷ drop (i + 1) names) now
    left m = rw (sym (drop_more names i p within ∙ ap (λ t. t ∷ drop (i + 1) names) (sym is))) m

-- no name is left
pub ordered_through : (names options now : List (List ℕ)) → IsOrdered names options [] now → now ≡ filter (λ o. not (is_named names o)) options ++ preferred names options
ordered_through names options now m = m.parts ∙ ap (λ l. filter (λ o. not (is_named names o)) options ++ l) (sym (m.ordered ∙ append-nil m.settled))

pub ordered_all : (names options now new : List (List ℕ)) (i k : ℕ) → IsOrdered names options (drop i names) now → length names ≤ i → length (filter (λ o. not (is_named names o)) options) ≡ k → new ≡ drop k now ++ take k now → new ≡ preferred names options ++ filter (λ o. not (is_named names o)) options
ordered_all names options now new i k m whole long made = made ∙ turned (filter (λ o. not (is_named names o)) options) (preferred names options) k now (ordered_through names options now (rw (sym (drop_of_length-le names whole)) m)) long
  where
    turned : {X : Type 0} (a b : List X) (k : ℕ) (now : List X) → now ≡ a ++ b → length a ≡ k → drop k now ++ take k now ≡ b ++ a
    turned a b k now e h = rw (e, sym h, drop-append_seam a b, take-append_seam a b) refl

pub ordered_room : (names options now : List (List ℕ)) (i k : ℕ) → IsOrdered names options (drop i names) now → length names ≤ i → length (filter (λ o. not (is_named names o)) options) ≡ k → k ≤ length now
ordered_room names options now i k m whole long = room (filter (λ o. not (is_named names o)) options) (preferred names options) now k (ordered_through names options now (rw (sym (drop_of_length-le names whole)) m)) long
  where
    room : {X : Type 0} (a b now : List X) (k : ℕ) → now ≡ a ++ b → length a ≡ k → k ≤ length now
    room a b now k e h = rw e (grind (arith, common_steps))
