-- What is told in a conversation, by the bytes of its lines alone.
use Rattle.std.proofs.Common.{◌≡◌, ◌∙◌, ◌⊎◌, inl, inr, refl, sym, ap, subst, ℕ, ◌≤◌, Bool, true, false, List, [], ◌∷◌, ◌++◌, length, append_assoc, append-nil, arith}
use Rattle.host_session.specs.declared.session.Fed.{Fed}
use Rattle.host_session.specs.declared.session.Fed.TheVariants.{Open, Closed}
use Rattle.host_session.specs.Lines.{BeginsLong}
use Rattle.laws_program.proofs.hosts.Cuts.{Cut, Unfed, no_cut, no_end, no_long, same_cut, shorter}
use Rattle.laws_program.specs.Hosts.Telling.{AlikeBy, AlikeOf, AreFronts, IsFront}

-- ---- one text begins another

front_of_none : (one other : List ℕ) → one ≡ [] → IsFront one other
front_of_none one other none = (other, ap (λ x. x ++ other) (sym none))

headed : (x y : ℕ) (one other : List ℕ) → x ≡ y → AreFronts one other → AreFronts (x ∷ one) (y ∷ other)
headed x y one other head (inl (more, is)) = inl (more, λ i. sym head i ∷ is i)
headed x y one other head (inr (more, is)) = inr (more, λ i. head i ∷ is i)

-- two that begin one text
pub two_fronts : (one other r s : List ℕ) → one ++ r ≡ other ++ s → AreFronts one other
two_fronts [] other r s is = inl (front_of_none [] other refl)
two_fronts (x ∷ one) [] r s is = inr (front_of_none [] (x ∷ one) refl)
two_fronts (x ∷ one) (y ∷ other) r s is = headed x y one other (cc is) (two_fronts one other r s (cc is))

-- ---- two texts are alike

-- a text is alike itself
alike_self : (is_further : Bool) (line text : List ℕ) → AlikeOf is_further line text text
alike_self false line text = refl
alike_self true line text = inl refl

-- a text can be gone on with so that it is told line by line
record TellsOn (is_further : Bool) (bytes text : List ℕ) : Type 0 where
  lines : List (List ℕ)
  rest : List ℕ
  alike : AlikeBy is_further lines bytes (text ++ rest) (text ++ rest)

-- two can be gone on with so that they are alike
pub record GoOnAlike (is_further : Bool) (bytes one other : List ℕ) : Type 0 where
  pub lines : List (List ℕ)
  pub more : List ℕ
  pub rest : List ℕ
  pub alike : AlikeBy is_further lines bytes (one ++ more) (other ++ rest)

-- so can two of which one has told nothing yet
nothing_yet : (is_further : Bool) (bytes one other : List ℕ) → one ≡ [] → TellsOn is_further bytes other → GoOnAlike is_further bytes one other
nothing_yet is_further bytes one other none t = record {
  lines = t.lines;
  more = other ++ t.rest;
  rest = t.rest;
  alike = subst (λ x. AlikeBy is_further t.lines bytes x (other ++ t.rest)) (ap (λ x. x ++ (other ++ t.rest)) (sym none)) t.alike;
}

other_nothing_yet : (is_further : Bool) (bytes one other : List ℕ) → other ≡ [] → TellsOn is_further bytes one → GoOnAlike is_further bytes one other
other_nothing_yet is_further bytes one other none t = record {
  lines = t.lines;
  more = t.rest;
  rest = one ++ t.rest;
  alike = subst (λ x. AlikeBy is_further t.lines bytes (one ++ t.rest) x) (ap (λ x. x ++ (one ++ t.rest)) (sym none)) t.alike;
}

-- what stands behind a front that was told
gone_on : (text told front more : List ℕ) → told ≡ text ++ front → text ++ (front ++ more) ≡ told ++ more
gone_on text told front more is = sym (append_assoc text front more) ∙ ap (λ x. x ++ more) (sym is)

-- what stands behind what was told
told_on : (text told more rest : List ℕ) → text ≡ told ++ more → text ++ rest ≡ told ++ (more ++ rest)
told_on text told more rest is = ap (λ x. x ++ rest) is ∙ append_assoc told more rest

-- nothing stands behind
ends_there : (text told front : List ℕ) → told ≡ text ++ front → text ++ front ≡ told ++ []
ends_there text told front is = sym is ∙ sym (append-nil told)

-- ---- how a conversation stops

-- no line is left, a line closes it, so many lines were fed that no more are counted, a line is too long, or it breaks
-- off
pub data Stop : Type 0 where
  AtEnd : Stop
  Closes : Stop
  Full : Stop
  Long : Stop
  BreaksOff : Stop

-- it says all that its bytes call for
abbrev pub IsWhole : Stop → Type 0
IsWhole AtEnd = Unit {0}
IsWhole Closes = Unit {0}
IsWhole Full = ⊥
IsWhole Long = Unit {0}
IsWhole BreaksOff = ⊥

-- a line was too long
abbrev pub is_long : Stop → Bool
is_long AtEnd = false
is_long Closes = false
is_long Full = false
is_long Long = true
is_long BreaksOff = false

pub open≢closed : Open ≡ Closed → ⊥
open≢closed is = cc is

-- what is told of a line is the same by this measure, and what is left is alike
pub record OneTelling {S : Type 0} (alike : S → S → Type 0) (same : List ℕ → List ℕ → Type 0) (told text : List ℕ) (come came : Fed) (new more : S) : Type 0 where
  pub told_is : same told text
  pub come_is : come ≡ came
  pub left : alike new more

module _ {S : Type 0} (feeds : List ℕ → S → S → List ℕ → Fed → Type 0) where
  -- the first line of these bytes was fed, and this was told of it
  pub record Tells (line : List ℕ) (come : Fed) (old : S) (bytes told : List ℕ) (new : S) (behind : List ℕ) : Type 0 where
    pub cut : Cut bytes line behind
    pub fed : feeds line old new told come

  -- a front of what is told of the first line
  pub record TellsFront (old : S) (bytes text : List ℕ) : Type 0 where
    pub line : List ℕ
    pub come : Fed
    pub told : List ℕ
    pub new : S
    pub behind : List ℕ
    pub tells : Tells line come old bytes told new behind
    pub front : IsFront text told

  abbrev pub IsStopped : Stop → S → List ℕ → List ℕ → Type 0
  IsStopped AtEnd old bytes text = Unfed bytes × (text ≡ [])
  IsStopped Closes old bytes text = (line : List ℕ) × (new : S) × (behind : List ℕ) × Tells line Closed old bytes text new behind
  IsStopped Full old bytes text = text ≡ []
  IsStopped Long old bytes text = BeginsLong bytes × (text ≡ [])
  IsStopped BreaksOff old bytes text = (text ≡ []) ⊎ TellsFront old bytes text

  -- this line was fed, and so what follows was said
  pub record Goes (line : List ℕ) (next : S → List ℕ → List ℕ → Type 0) (old : S) (bytes text : List ℕ) : Type 0 where
    pub told : List ℕ
    pub mid : S
    pub behind : List ℕ
    pub tells : Tells line Open old bytes told mid behind
    pub more : List ℕ
    pub goes : next mid behind more
    pub text_is : text ≡ told ++ more

  -- these lines were fed one behind another, and then it stopped so
  abbrev pub Speaks : List (List ℕ) → Stop → S → List ℕ → List ℕ → Type 0
  Speaks [] stop old bytes text = IsStopped stop old bytes text
  Speaks (line ∷ lines) stop old bytes text = Goes line (Speaks lines stop) old bytes text

  -- no more lines than bytes
  pub counted : (lines : List (List ℕ)) (stop : Stop) (old : S) (bytes text : List ℕ) → Speaks lines stop old bytes text → length lines ≤ length bytes
  counted [] stop old bytes text s = omega arith
  counted (line ∷ lines) stop old bytes text s =
      let rest = counted lines stop s.mid s.behind s.more s.goes in
      let one = shorter bytes line s.behind s.tells.cut in omega (arith, rest, one)

  stop_front : (stop : Stop) (old : S) (bytes text : List ℕ) → IsStopped stop old bytes text → (text ≡ []) ⊎ TellsFront old bytes text
  stop_front AtEnd old bytes text s = inl s.1
  stop_front Closes old bytes text s = inr (record {
    line = s.0;
    come = Closed;
    told = text;
    new = s.1;
    behind = s.2;
    tells = s.3;
    front = ([], sym (append-nil text));
  })
  stop_front Full old bytes text s = inl s
  stop_front Long old bytes text s = inl s.1
  stop_front BreaksOff old bytes text s = s

  -- a front that was told of the first line
  front_on : (is_further : Bool) (old : S) (bytes text : List ℕ) → TellsFront old bytes text → TellsOn is_further bytes text
  front_on is_further old bytes text s = record {
    lines = s.line ∷ [];
    rest = s.front.0;
    alike = record {
      behind = s.behind;
      begins = s.tells.cut.is;
      whole = s.tells.cut.no_feed;
      told = s.told;
      text = s.told;
      alike = alike_self is_further s.line s.told;
      more = [];
      rest = [];
      goes = (refl, refl);
      one_is = ends_there text s.told s.front.0 s.front.1;
      other_is = ends_there text s.told s.front.0 s.front.1;
    };
  }

  stopped_on : (is_further : Bool) (old : S) (bytes text : List ℕ) → (text ≡ []) ⊎ TellsFront old bytes text → TellsOn is_further bytes text
  stopped_on is_further old bytes text (inl none) = record { lines = []; rest = []; alike = (append-nil text ∙ none, append-nil text ∙ none) }
  stopped_on is_further old bytes text (inr s) = front_on is_further old bytes text s

  -- what a conversation told can be gone on with line by line
  tells_on : (is_further : Bool) (lines : List (List ℕ)) (stop : Stop) (old : S) (bytes text : List ℕ) → Speaks lines stop old bytes text → TellsOn is_further bytes text
  tells_on is_further [] stop old bytes text s = stopped_on is_further old bytes text (stop_front stop old bytes text s)
  tells_on is_further (line ∷ lines) stop old bytes text s =
      let on = tells_on true lines stop s.mid s.behind s.more s.goes in
      record {
        lines = line ∷ on.lines;
        rest = on.rest;
        alike = record {
          behind = s.behind;
          begins = s.tells.cut.is;
          whole = s.tells.cut.no_feed;
          told = s.told;
          text = s.told;
          alike = alike_self is_further line s.told;
          more = s.more ++ on.rest;
          rest = s.more ++ on.rest;
          goes = on.alike;
          one_is = told_on text s.told s.more on.rest s.text_is;
          other_is = told_on text s.told s.more on.rest s.text_is;
        };
      }

  module _ (begun : S → Bool) (goes_on : (line : List ℕ) (old new : S) (told : List ℕ) → feeds line old new told Open → begun new ≡ true)
      (alike : S → S → Type 0)
      (once : (line : List ℕ) (old other new more : S) (told text : List ℕ) (come came : Fed) → alike old other → feeds line old new told come → feeds line other more text came → OneTelling alike (AlikeOf (begun old) line) told text come came new more) where
    record SameTelling (measure : List ℕ → List ℕ → Type 0) (told text : List ℕ) (come came : Fed) (new more : S) (behind left : List ℕ) : Type 0 where
      one : OneTelling alike measure told text come came new more
      behind_is : behind ≡ left

    same_telling : (bytes line other_line behind left told text : List ℕ) (come came : Fed) (old other new more : S) → alike old other → Tells line come old bytes told new behind → Tells other_line came other bytes text more left
        → SameTelling (AlikeOf (begun old) line) told text come came new more behind left
    same_telling bytes line other_line behind left told text come came old other new more same s t =
        let cut = same_cut bytes line other_line behind left s.cut t.cut in
        record { one = once line old other new more told text come came same s.fed (subst (λ l. feeds l other more text came) (sym cut.0) t.fed); behind_is = cut.1 }

    -- both stop within what is told of the first line
    met_fronts : (bytes a b : List ℕ) (old other : S) → alike old other → TellsFront old bytes a → TellsFront other bytes b → GoOnAlike (begun old) bytes a b
    met_fronts bytes a b old other same s t =
        let met = same_telling bytes s.line t.line s.behind t.behind s.told t.told s.come t.come old other s.new t.new same s.tells t.tells in
        record {
          lines = s.line ∷ [];
          more = s.front.0;
          rest = t.front.0;
          alike = record {
            behind = s.behind;
            begins = s.tells.cut.is;
            whole = s.tells.cut.no_feed;
            told = s.told;
            text = t.told;
            alike = met.one.told_is;
            more = [];
            rest = [];
            goes = (refl, refl);
            one_is = ends_there a s.told s.front.0 s.front.1;
            other_is = ends_there b t.told t.front.0 t.front.1;
          };
        }

    -- the one stops within what is told of the first line, and the other goes on
    first_stops : (bytes a b line : List ℕ) (next : S → List ℕ → List ℕ → Type 0) (old other : S) → alike old other → TellsFront old bytes a → (t : Goes line next other bytes b) → TellsOn true t.behind t.more → GoOnAlike (begun old) bytes a b
    first_stops bytes a b line next old other same s t on =
        let met = same_telling bytes s.line line s.behind t.behind s.told t.told s.come Open old other s.new t.mid same s.tells t.tells in
        record {
          lines = s.line ∷ on.lines;
          more = s.front.0 ++ (t.more ++ on.rest);
          rest = on.rest;
          alike = record {
            behind = s.behind;
            begins = s.tells.cut.is;
            whole = s.tells.cut.no_feed;
            told = s.told;
            text = t.told;
            alike = met.one.told_is;
            more = t.more ++ on.rest;
            rest = t.more ++ on.rest;
            goes = subst (λ l. AlikeBy true on.lines l (t.more ++ on.rest) (t.more ++ on.rest)) (sym met.behind_is) on.alike;
            one_is = gone_on a s.told s.front.0 (t.more ++ on.rest) s.front.1;
            other_is = told_on b t.told t.more on.rest t.text_is;
          };
        }

    -- the one goes on, and the other stops
    other_stops : (bytes a b line : List ℕ) (next : S → List ℕ → List ℕ → Type 0) (old other : S) → alike old other → (s : Goes line next old bytes a) → TellsFront other bytes b → TellsOn true s.behind s.more → GoOnAlike (begun old) bytes a b
    other_stops bytes a b line next old other same s t on =
        let met = same_telling bytes line t.line s.behind t.behind s.told t.told Open t.come old other s.mid t.new same s.tells t.tells in
        record {
          lines = line ∷ on.lines;
          more = on.rest;
          rest = t.front.0 ++ (s.more ++ on.rest);
          alike = record {
            behind = s.behind;
            begins = s.tells.cut.is;
            whole = s.tells.cut.no_feed;
            told = s.told;
            text = t.told;
            alike = met.one.told_is;
            more = s.more ++ on.rest;
            rest = s.more ++ on.rest;
            goes = on.alike;
            one_is = told_on a s.told s.more on.rest s.text_is;
            other_is = gone_on b t.told t.front.0 (s.more ++ on.rest) t.front.1;
          };
        }

    both_stop : (bytes a b : List ℕ) (old other : S) → alike old other → (a ≡ []) ⊎ TellsFront old bytes a → (b ≡ []) ⊎ TellsFront other bytes b → GoOnAlike (begun old) bytes a b
    both_stop bytes a b old other same (inl none) t = nothing_yet (begun old) bytes a b none (stopped_on (begun old) other bytes b t)
    both_stop bytes a b old other same (inr s) (inl none) = other_nothing_yet (begun old) bytes a b none (front_on (begun old) old bytes a s)
    both_stop bytes a b old other same (inr s) (inr t) = met_fronts bytes a b old other same s t

    one_stops : (bytes a b line : List ℕ) (lines : List (List ℕ)) (stop : Stop) (old other : S) → alike old other → (a ≡ []) ⊎ TellsFront old bytes a → Goes line (Speaks lines stop) other bytes b → GoOnAlike (begun old) bytes a b
    one_stops bytes a b line lines stop old other same (inl none) t = nothing_yet (begun old) bytes a b none (tells_on (begun old) (line ∷ lines) stop other bytes b t)
    one_stops bytes a b line lines stop old other same (inr s) t = first_stops bytes a b line (Speaks lines stop) old other same s t (tells_on true lines stop t.mid t.behind t.more t.goes)

    two_stops : (bytes a b line : List ℕ) (lines : List (List ℕ)) (stop : Stop) (old other : S) → alike old other → Goes line (Speaks lines stop) old bytes a → (b ≡ []) ⊎ TellsFront other bytes b → GoOnAlike (begun old) bytes a b
    two_stops bytes a b line lines stop old other same s (inl none) = other_nothing_yet (begun old) bytes a b none (tells_on (begun old) (line ∷ lines) stop old bytes a s)
    two_stops bytes a b line lines stop old other same s (inr t) = other_stops bytes a b line (Speaks lines stop) old other same s t (tells_on true lines stop s.mid s.behind s.more s.goes)

    -- both go on
    behind_one : (bytes a b line two : List ℕ) (next : S → List ℕ → List ℕ → Type 0) (after : S → List ℕ → List ℕ → Type 0) (old other : S) (s : Goes line next old bytes a) (t : Goes two after other bytes b) → AlikeOf (begun old) line s.told t.told
        → GoOnAlike true s.behind s.more t.more → GoOnAlike (begun old) bytes a b
    behind_one bytes a b line two next after old other s t told on = record {
      lines = line ∷ on.lines;
      more = on.more;
      rest = on.rest;
      alike = record {
        behind = s.behind;
        begins = s.tells.cut.is;
        whole = s.tells.cut.no_feed;
        told = s.told;
        text = t.told;
        alike = told;
        more = s.more ++ on.more;
        rest = t.more ++ on.rest;
        goes = on.alike;
        one_is = told_on a s.told s.more on.more s.text_is;
        other_is = told_on b t.told t.more on.rest t.text_is;
      };
    }

    -- over the same bytes, what is told in one and in the other can be gone on with so that both are alike
    pub begin_alike : (lines others : List (List ℕ)) (stop end : Stop) (old other : S) (bytes a b : List ℕ) → alike old other → Speaks lines stop old bytes a → Speaks others end other bytes b → GoOnAlike (begun old) bytes a b
    begin_alike [] [] stop end old other bytes a b same s t = both_stop bytes a b old other same (stop_front stop old bytes a s) (stop_front end other bytes b t)
    begin_alike [] (line ∷ others) stop end old other bytes a b same s t = one_stops bytes a b line others end old other same (stop_front stop old bytes a s) t
    begin_alike (line ∷ lines) [] stop end old other bytes a b same s t = two_stops bytes a b line lines stop old other same s (stop_front end other bytes b t)
    begin_alike (line ∷ lines) (two ∷ others) stop end old other bytes a b same s t =
        let met = same_telling bytes line two s.behind t.behind s.told t.told Open Open old other s.mid t.mid same s.tells t.tells in
        behind_one bytes a b line two (Speaks lines stop) (Speaks others end) old other s t met.one.told_is
        (subst (λ x. GoOnAlike x s.behind s.more t.more) (goes_on line old s.mid s.told s.tells.fed)
        (begin_alike lines others stop end s.mid t.mid s.behind s.more t.more met.one.left s.goes (subst (λ l. Speaks others end t.mid l t.more) (sym met.behind_is) t.goes)))

    -- where the first line is fed, and isn't the last one, it doesn't stop as a whole
    pub not_whole : (stop : Stop) (bytes a told line : List ℕ) (old other mid : S) (behind : List ℕ) → IsWhole stop → alike old other → IsStopped stop old bytes a → Tells line Open other bytes told mid behind → ⊥
    not_whole AtEnd bytes a told line old other mid behind whole same s t = no_cut bytes line behind t.cut s.0
    not_whole Closes bytes a told line old other mid behind whole same s t =
        open≢closed (sym (same_telling bytes s.0 line s.2 behind a told Closed Open old other s.1 mid same s.3 t).one.come_is)
    not_whole Full bytes a told line old other mid behind whole same s t = whole
    not_whole Long bytes a told line old other mid behind whole same s t = no_long bytes line behind t.cut s.0
    not_whole BreaksOff bytes a told line old other mid behind whole same s t = whole

    pub not_whole_other : (stop : Stop) (bytes b told line : List ℕ) (old other mid : S) (behind : List ℕ) → IsWhole stop → alike old other → Tells line Open old bytes told mid behind → IsStopped stop other bytes b → ⊥
    not_whole_other AtEnd bytes b told line old other mid behind whole same s t = no_cut bytes line behind s.cut t.0
    not_whole_other Closes bytes b told line old other mid behind whole same s t =
        open≢closed (same_telling bytes line t.0 behind t.2 told b Open Closed old other mid t.1 same s t.3).one.come_is
    not_whole_other Full bytes b told line old other mid behind whole same s t = whole
    not_whole_other Long bytes b told line old other mid behind whole same s t = no_long bytes line behind s.cut t.0
    not_whole_other BreaksOff bytes b told line old other mid behind whole same s t = whole

    -- what was told is alike, and both ended for so long a line, or neither
    pub record OneWhole (is_further : Bool) (stop end : Stop) (bytes a b : List ℕ) : Type 0 where
      pub lines : List (List ℕ)
      pub texts : AlikeBy is_further lines bytes a b
      pub long_is : is_long stop ≡ is_long end

    both_closed : (bytes a b line two behind left : List ℕ) (old other new more : S) → alike old other → Tells line Closed old bytes a new behind → Tells two Closed other bytes b more left → OneWhole (begun old) Closes Closes bytes a b
    both_closed bytes a b line two behind left old other new more same s t = record {
      lines = line ∷ [];
      texts = record {
        behind = behind;
        begins = s.cut.is;
        whole = s.cut.no_feed;
        told = a;
        text = b;
        alike = (same_telling bytes line two behind left a b Closed Closed old other new more same s t).one.told_is;
        more = [];
        rest = [];
        goes = (refl, refl);
        one_is = sym (append-nil a);
        other_is = sym (append-nil b);
      };
      long_is = refl;
    }

    both_whole : (stop end : Stop) (bytes a b : List ℕ) (old other : S) → IsWhole stop → IsWhole end → alike old other → IsStopped stop old bytes a → IsStopped end other bytes b → OneWhole (begun old) stop end bytes a b
    both_whole AtEnd AtEnd bytes a b old other w v same s t = record { lines = []; texts = (s.1, t.1); long_is = refl }
    both_whole AtEnd Closes bytes a b old other w v same s t = absurd (no_cut bytes t.0 t.2 t.3.cut s.0)
    both_whole AtEnd Full bytes a b old other w v same s t = absurd v
    both_whole AtEnd Long bytes a b old other w v same s t = absurd (no_end bytes s.0 t.0)
    both_whole AtEnd BreaksOff bytes a b old other w v same s t = absurd v
    both_whole Closes AtEnd bytes a b old other w v same s t = absurd (no_cut bytes s.0 s.2 s.3.cut t.0)
    both_whole Closes Closes bytes a b old other w v same s t = both_closed bytes a b s.0 t.0 s.2 t.2 old other s.1 t.1 same s.3 t.3
    both_whole Closes Full bytes a b old other w v same s t = absurd v
    both_whole Closes Long bytes a b old other w v same s t = absurd (no_long bytes s.0 s.2 s.3.cut t.0)
    both_whole Closes BreaksOff bytes a b old other w v same s t = absurd v
    both_whole Full end bytes a b old other w v same s t = absurd w
    both_whole Long AtEnd bytes a b old other w v same s t = absurd (no_end bytes t.0 s.0)
    both_whole Long Closes bytes a b old other w v same s t = absurd (no_long bytes t.0 t.2 t.3.cut s.0)
    both_whole Long Full bytes a b old other w v same s t = absurd v
    both_whole Long Long bytes a b old other w v same s t = record { lines = []; texts = (s.1, t.1); long_is = refl }
    both_whole Long BreaksOff bytes a b old other w v same s t = absurd v
    both_whole BreaksOff end bytes a b old other w v same s t = absurd w

    -- two whole ones
    pub wholes : (lines others : List (List ℕ)) (stop end : Stop) (old other : S) (bytes a b : List ℕ) → IsWhole stop → IsWhole end → alike old other → Speaks lines stop old bytes a → Speaks others end other bytes b → OneWhole (begun old) stop end bytes a b
    wholes [] [] stop end old other bytes a b w v same s t = both_whole stop end bytes a b old other w v same s t
    wholes [] (line ∷ others) stop end old other bytes a b w v same s t = absurd (not_whole stop bytes a t.told line old other t.mid t.behind w same s t.tells)
    wholes (line ∷ lines) [] stop end old other bytes a b w v same s t = absurd (not_whole_other end bytes b s.told line old other s.mid s.behind v same s.tells t)
    wholes (line ∷ lines) (two ∷ others) stop end old other bytes a b w v same s t =
        let met = same_telling bytes line two s.behind t.behind s.told t.told Open Open old other s.mid t.mid same s.tells t.tells in
        let rest = wholes lines others stop end s.mid t.mid s.behind s.more t.more w v met.one.left s.goes (subst (λ l. Speaks others end t.mid l t.more) (sym met.behind_is) t.goes) in
        record {
          lines = line ∷ rest.lines;
          texts = record {
            behind = s.behind;
            begins = s.tells.cut.is;
            whole = s.tells.cut.no_feed;
            told = s.told;
            text = t.told;
            alike = met.one.told_is;
            more = s.more;
            rest = t.more;
            goes = subst (λ x. AlikeBy x rest.lines s.behind s.more t.more) (goes_on line old s.mid s.told s.tells.fed) rest.texts;
            one_is = s.text_is;
            other_is = t.text_is;
          };
          long_is = rest.long_is;
        }
