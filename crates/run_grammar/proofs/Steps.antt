-- The machine's step and what is left to come.
use Rattle.std.proofs.Common.{true, false, cond, zero, suc, List, [], ◌∷◌, ◌++◌, ◌≡◌, refl, sym, ap, ◌∙◌, subst, inl, inr, append_assoc}
use Rattle.run_grammar.specs.declared.kind.Role.{Role}
use Rattle.run_grammar.specs.declared.kind.Kind.{Kind}
use Rattle.run_grammar.specs.declared.answer.Entry.{Entry}
use Rattle.run_grammar.specs.declared.kind.Kind.TheVariants.{Wait}
use Rattle.run_grammar.specs.Entry.{kind_of, pending, ready, abandon_of}
use Rattle.run_grammar.specs.Standing.{State, standing, step}
use Rattle.run_grammar.specs.Production.{Production, Ended}
use Rattle.run_grammar.specs.Words.{Word, WaitsOf, Struck, Idle, CutOnce}
use Rattle.run_grammar.specs.Machine.{At, Rest, Left, Out, cut, Position, Whole, Dead, Asking, Waiting, Cutting, begin, after_cut, next, Asks, Accepts}
use Rattle.run_grammar.proofs.Spots.{RestWord, SpotWord, Fine, carry, carry_back, at_nil}
use Rattle.run_grammar.proofs.Positions.{Coming, FineAt, FineRest, fine_cut, fine_next, word_coming, coming_word}

-- the first entry, and what comes then
abbrev pub Moved : Position → State → List Entry → Type 0
Moved p s l = (e : Entry) × (m : List Entry) × (l ≡ e ∷ m) × Asks p (kind_of e) × Coming (next p (step s e) e) (step s e) m

answered_false : (k : Kind) (es : List Role) (r : Production) → Fine r → (s t : State) (e : Entry) (m : List Entry) → pending e ≡ false → Word r [] Ended t m →
    Coming (cond (pending e) (Waiting k es es r) (begin r t)) t m
answered_false k es r f s t e m h w = subst (λ b. Coming (cond b (Waiting k es es r) (begin r t)) t m) (sym h) (word_coming r f t m w)

answered_true : (k : Kind) (es : List Role) (r : Production) (t : State) (e : Entry) (m : List Entry) → pending e ≡ true → Coming (Waiting k es es r) t m →
    Coming (cond (pending e) (Waiting k es es r) (begin r t)) t m
answered_true k es r t e m h w = subst (λ b. Coming (cond b (Waiting k es es r) (begin r t)) t m) (sym h) w

-- an Idle first
idle_first : (k : Kind) (es : List Role) (r : Production) (s : State) (l i b : List Entry) → l ≡ i ++ b → Idle k es i →
    SpotWord (At k es r) [] Ended (standing s i) b → Moved (Asking k es r) s l
idle_first k es r s l [] b e (i) v = absurd i
idle_first k es r s l (c ∷ i) b e (kind, pend, waits) v =
    (c, i ++ b, e, kind, answered_true k es r (step s c) c (i ++ b) pend (inl (i, b, refl, waits, v)))

cut_first : (k : Kind) (es : List Role) (r : Production) (d : Role) (s : State) (l a b : List Entry) → l ≡ a ++ b → CutOnce k d es a →
    RestWord d (cut r d) [] Ended (standing s a) b → Moved (Asking k es r) s l
cut_first k es r d s l [] b e c v = absurd c
cut_first k es r d s l (c ∷ a) b e (kind, pend, struck) v =
    (c, a ++ b, e, kind, answered_true k es r (step s c) c (a ++ b) pend (inr (d, a, b, refl, struck, v)))

answer_first : (k : Kind) (es : List Role) (r : Production) → Fine r → (s : State) (l a b : List Entry) (c : Entry) → l ≡ a ++ b → a ≡ c ∷ [] → (kind_of c) ≡ k → pending c ≡ false →
    Word r [] Ended (standing s a) b → Moved (Asking k es r) s l
answer_first k es r f s l a b c e n kind pend v =
    (c, b, e ∙ ap (λ m. m ++ b) n, kind, answered_false k es r f s (step s c) c b pend (subst (λ m. Word r [] Ended (standing s m) b) n v))

asking_moves : (k : Kind) (es : List Role) (r : Production) → Fine r → (s : State) (l : List Entry) → SpotWord (At k es r) [] Ended s l → Moved (Asking k es r) s l
asking_moves k es r f s l (inl (a, b, e, (zero, (c, n, kind, pend)), v)) = answer_first k es r f s l a b c e n kind pend v
asking_moves k es r f s l (inl (a, b, e, (suc n, (i, j, g, idle, w)), v)) =
    idle_first k es r s l i (j ++ b) (e ∙ ap (λ m. m ++ b) g ∙ append_assoc i j b) idle (inl (j, b, refl, (n, w), carry (λ t m. Word r [] Ended t m) s a i j b g v))
asking_moves k es r f s l (inr (d, a, b, e, (zero, c), v)) = cut_first k es r d s l a b e c v
asking_moves k es r f s l (inr (d, a, b, e, (suc n, (i, j, g, idle, w)), v)) =
    idle_first k es r s l i (j ++ b) (e ∙ ap (λ m. m ++ b) g ∙ append_assoc i j b) idle (inr (d, j, b, refl, (n, w), carry (λ t m. RestWord d (cut r d) [] Ended t m) s a i j b g v))

park_moves : (k : Kind) (es : List Role) (r : Production) (s : State) (l a b : List Entry) → l ≡ a ++ b → WaitsOf [] a → SpotWord (At k es r) [] Ended (standing s a) b →
    Moved (Waiting k es [] r) s l
park_moves k es r s l [] b e w v = absurd w
park_moves k es r s l (c ∷ a) b e (kind, n) v =
    (c, a ++ b, e, kind, at_nil (λ t m. SpotWord (At k es r) [] Ended t m) (step s c) (a ++ b) a b refl n v)

waited_true : (k : Kind) (d : Role) (es ds : List Role) (r : Production) (t : State) (e : Entry) (m : List Entry) → pending e ≡ true → Coming (Waiting k es ds r) t m →
    Coming (cond (pending e) (Waiting k es ds r) (cond (ready e) (Cutting k d r) Dead)) t m
waited_true k d es ds r t e m h w = subst (λ b. Coming (cond b (Waiting k es ds r) (cond (ready e) (Cutting k d r) Dead)) t m) (sym h) w

waited_ready : (k : Kind) (d : Role) (es ds : List Role) (r : Production) (t : State) (e : Entry) (m : List Entry) → pending e ≡ false → ready e ≡ true → Coming (Cutting k d r) t m →
    Coming (cond (pending e) (Waiting k es ds r) (cond (ready e) (Cutting k d r) Dead)) t m
waited_ready k d es ds r t e m h g w =
    subst (λ b. Coming (cond b (Waiting k es ds r) (cond (ready e) (Cutting k d r) Dead)) t m) (sym h)
    (subst (λ b. Coming (cond b (Cutting k d r) Dead) t m) (sym g) w)

wait_moves : (k : Kind) (d : Role) (es ds : List Role) (r : Production) (s : State) (l a b : List Entry) → l ≡ a ++ b → WaitsOf (d ∷ ds) a →
    SpotWord (At k es r) [] Ended (standing s a) b → Moved (Waiting k es (d ∷ ds) r) s l
wait_moves k d es ds r s l [] b e w v = absurd w
wait_moves k d es ds r s l (c ∷ a) b e (kind, pend, w) v =
    (c, a ++ b, e, kind, waited_true k d es ds r (step s c) c (a ++ b) pend (inl (a, b, refl, w, v)))

cutting : (k : Kind) (d c : Role) (r : Production) (t : State) (a b : List Entry) (x : Entry) → c ≡ d → a ≡ x ∷ [] → (kind_of x) ≡ abandon_of k →
    RestWord d (cut r d) [] Ended (standing t a) b → Coming (Cutting k c r) t (a ++ b)
cutting k d c r t a b x e n kind v =
    subst (λ m. Coming (Cutting k c r) t (m ++ b)) (sym n)
    (kind, subst (λ y. RestWord y (cut r y) [] Ended (step t x) b) (sym e) (subst (λ m. RestWord d (cut r d) [] Ended (standing t m) b) n v))

struck_moves : (k : Kind) (c d : Role) (es ds : List Role) (r : Production) (s : State) (l a b : List Entry) → l ≡ a ++ b → Struck k d (c ∷ ds) a →
    RestWord d (cut r d) [] Ended (standing s a) b → Moved (Waiting k es (c ∷ ds) r) s l
struck_moves k c d es ds r s l [] b e w v = absurd w
struck_moves k c d es ds r s l (x ∷ a) b e (kind, inl (pend, w)) v =
    (x, a ++ b, e, kind, waited_true k c es ds r (step s x) x (a ++ b) pend (inr (d, a, b, refl, w, v)))
struck_moves k c d es ds r s l (x ∷ a) b e (kind, inr (same, pend, rdy, y, n, kind2)) v =
    (x, a ++ b, e, kind, waited_ready k c es ds r (step s x) x (a ++ b) pend rdy (cutting k d c r (step s x) a b y same n kind2 v))

rest_coming : (d : Role) (r : Rest) → FineRest r → (s : State) (l : List Entry) → RestWord d r [] Ended s l → Coming (after_cut r s) s l
rest_coming d (Left r) f s l w = word_coming r f s l w
rest_coming d (Out i) f s l w = absurd (let e = w.0 in cc)

moves : (p : Position) → FineAt p → (s : State) (x : Entry) (l : List Entry) → Coming p s (x ∷ l) → Moved p s (x ∷ l)
moves Whole f s x l w = absurd (cc)
moves Dead f s x l w = absurd w
moves (Asking k es r) f s x l w = asking_moves k es r f s (x ∷ l) w
moves (Waiting k es [] r) f s x l (inl (a, b, e, w, v)) = park_moves k es r s (x ∷ l) a b e w v
moves (Waiting k es [] r) f s x l (inr (d, a, b, e, w, v)) = absurd w
moves (Waiting k es (d ∷ ds) r) f s x l (inl (a, b, e, w, v)) = wait_moves k d es ds r s (x ∷ l) a b e w v
moves (Waiting k es (d ∷ ds) r) f s x l (inr (c, a, b, e, w, v)) = struck_moves k d c es ds r s (x ∷ l) a b e w v
moves (Cutting k d r) f s x l (kind, v) = (x, l, refl, kind, rest_coming d (cut r d) (fine_cut r f d) (step s x) l v)

over : (p : Position) → FineAt p → (s : State) → Coming p s [] → p ≡ Whole
over Whole f s w = refl
over Dead f s w = absurd w
over (Asking k es r) f s w = let (e, m, n, g, v) = asking_moves k es r f s [] w in absurd (cc)
over (Waiting k es [] r) f s (inl (a, b, e, w, v)) = let (x, m, n, g, u) = park_moves k es r s [] a b e w v in absurd (cc)
over (Waiting k es [] r) f s (inr (d, a, b, e, w, v)) = absurd w
over (Waiting k es (d ∷ ds) r) f s (inl (a, b, e, w, v)) = let (x, m, n, g, u) = wait_moves k d es ds r s [] a b e w v in absurd (cc)
over (Waiting k es (d ∷ ds) r) f s (inr (c, a, b, e, w, v)) = let (x, m, n, g, u) = struck_moves k d c es ds r s [] a b e w v in absurd (cc)
over (Cutting k d r) f s w = absurd w

same_move : (p : Position) (s : State) (x y : Entry) (l m : List Entry) → x ≡ y → l ≡ m → Asks p (kind_of y) → Coming (next p (step s y) y) (step s y) m →
    Asks p (kind_of x) × Coming (next p (step s x) x) (step s x) l
same_move p s x y l m e n a w =
    (subst (λ z. Asks p (kind_of z)) (sym e) a, subst (λ z. Coming (next p (step s z) z) (step s z) l) (sym e) (subst (λ o. Coming (next p (step s y) y) (step s y) o) (sym n) w))

pub moves_on : (p : Position) → FineAt p → (s : State) (x : Entry) (l : List Entry) → Coming p s (x ∷ l) → Asks p (kind_of x) × Coming (next p (step s x) x) (step s x) l
moves_on p f s x l w = let (y, m, e, a, v) = moves p f s x l w in same_move p s x y l m (cc) (cc) a v

pub accepted : (l : List Entry) (p : Position) → FineAt p → (s : State) → Coming p s l → Accepts p s l
accepted [] p f s w = over p f s w
accepted (x ∷ l) p f s w =
    let m = moves_on p f s x l w in (m.0, accepted l (next p (step s x) x) (fine_next p f (step s x) x) (step s x) m.1)

-- and back
after_pending : (k : Kind) (es : List Role) (r : Production) (s : State) (x : Entry) (l : List Entry) → (kind_of x) ≡ k → pending x ≡ true →
    Coming (Waiting k es es r) (step s x) l → SpotWord (At k es r) [] Ended s (x ∷ l)
after_pending k es r s x l kind pend (inl (a, b, e, w, inl (a1, b1, g, (n, u), v))) =
    inl (
      x ∷ (a ++ a1),
      b1,
      ap (λ m. x ∷ m) (e ∙ ap (λ m. a ++ m) g ∙ sym (append_assoc a a1 b1)),
      (suc n, (x ∷ a, a1, refl, (kind, pend, w), u)),
      carry_back (λ t m. Word r [] Ended t m) (step s x) a a1 b1 v,
    )
after_pending k es r s x l kind pend (inl (a, b, e, w, inr (d, a1, b1, g, (n, u), v))) =
    inr (
      d,
      x ∷ (a ++ a1),
      b1,
      ap (λ m. x ∷ m) (e ∙ ap (λ m. a ++ m) g ∙ sym (append_assoc a a1 b1)),
      (suc n, (x ∷ a, a1, refl, (kind, pend, w), u)),
      carry_back (λ t m. RestWord d (cut r d) [] Ended t m) (step s x) a a1 b1 v,
    )
after_pending k es r s x l kind pend (inr (d, a, b, e, w, v)) = inr (d, x ∷ a, b, ap (λ m. x ∷ m) e, (zero, (kind, pend, w)), v)

after_answer : (k : Kind) (es : List Role) (r : Production) → Fine r → (s : State) (x : Entry) (l : List Entry) → (kind_of x) ≡ k → pending x ≡ false →
    Coming (begin r (step s x)) (step s x) l → SpotWord (At k es r) [] Ended s (x ∷ l)
after_answer k es r f s x l kind pend w = inl (x ∷ [], l, refl, (zero, (x, refl, kind, pend)), coming_word r f (step s x) l w)

after_wait : (k : Kind) (d : Role) (es ds : List Role) (r : Production) (s : State) (x : Entry) (l : List Entry) → (kind_of x) ≡ Wait d → pending x ≡ true →
    Coming (Waiting k es ds r) (step s x) l → Coming (Waiting k es (d ∷ ds) r) s (x ∷ l)
after_wait k d es ds r s x l kind pend (inl (a, b, e, w, v)) = inl (x ∷ a, b, ap (λ m. x ∷ m) e, (kind, pend, w), v)
after_wait k d es ds r s x l kind pend (inr (c, a, b, e, w, v)) = inr (c, x ∷ a, b, ap (λ m. x ∷ m) e, (kind, inl (pend, w)), v)

after_ready : (k : Kind) (d : Role) (es ds : List Role) (r : Production) (s : State) (x : Entry) (l : List Entry) → (kind_of x) ≡ Wait d → pending x ≡ false → ready x ≡ true →
    Coming (Cutting k d r) (step s x) l → Coming (Waiting k es (d ∷ ds) r) s (x ∷ l)
after_ready k d es ds r s x [] kind pend rdy w = absurd w
after_ready k d es ds r s x (y ∷ l) kind pend rdy (kind2, v) = inr (d, x ∷ y ∷ [], l, refl, (kind, inr (refl, pend, rdy, y, refl, kind2)), v)

coming_rest : (d : Role) (r : Rest) → FineRest r → (s : State) (l : List Entry) → Coming (after_cut r s) s l → RestWord d r [] Ended s l
coming_rest d (Left r) f s l w = coming_word r f s l w
coming_rest d (Out i) f s l w = absurd w

pub comes_back : (p : Position) → FineAt p → (s : State) (x : Entry) (l : List Entry) → Asks p (kind_of x) → Coming (next p (step s x) x) (step s x) l → Coming p s (x ∷ l)
comes_back Whole f s x l a w = absurd a
comes_back Dead f s x l a w = absurd a
comes_back (Asking k es r) f s x l a w =
    (elim (pending x) as (λ b. pending x ≡ b → Coming (cond b (Waiting k es es r) (begin r (step s x))) (step s x) l → SpotWord (At k es r) [] Ended s (x ∷ l))
    [ true ↦ λ h v. after_pending k es r s x l a h v | false ↦ λ h v. after_answer k es r f s x l a h v ]) refl w
comes_back (Waiting k es [] r) f s x l a w = inl (x ∷ [], l, refl, (a, refl), w)
comes_back (Waiting k es (d ∷ ds) r) f s x l a w =
    (elim (pending x) as (λ b. pending x ≡ b → Coming (cond b (Waiting k es ds r) (cond (ready x) (Cutting k d r) Dead)) (step s x) l → Coming (Waiting k es (d ∷ ds) r) s (x ∷ l)) [
      | true ↦ λ h v. after_wait k d es ds r s x l a h v
      | false ↦ λ h v. (elim (ready x) as (λ c. ready x ≡ c → Coming (cond c (Cutting k d r) Dead) (step s x) l → Coming (Waiting k es (d ∷ ds) r) s (x ∷ l))
          [ true ↦ λ g u. after_ready k d es ds r s x l a h g u | false ↦ λ g u. absurd u ]) refl v
    ]) refl w
comes_back (Cutting k d r) f s x l a w = (a, coming_rest d (cut r d) (fine_cut r f d) (step s x) l w)

pub accepted_back : (l : List Entry) (p : Position) → FineAt p → (s : State) → Accepts p s l → Coming p s l
accepted_back [] p f s a = subst (λ q. Coming q s []) (sym a) refl
accepted_back (x ∷ l) p f s (a, w) =
    comes_back p f s x l a (accepted_back l (next p (step s x) x) (fine_next p f (step s x) x) (step s x) w)
