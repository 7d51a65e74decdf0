-- One line more is marked.
use Rattle.std.proofs.Common.{◌≡◌, ◌∙◌, ℕ, List, [], ◌∷◌, ◌++◌, refl, sym, ap, append-nil, append_assoc}
use Rattle.std.specs.Prelude.{Option, None}
use Rattle.cli_client.specs.Marked.{IsMarked, Line, line_of, marked_text, plain_text}

-- these lines were marked, and this is left
pub record MarkedSo (print text left : List ℕ) : Type 0 where
  pub lines : List Line
  pub without : print ≡ plain_text lines ++ left
  pub with : text ≡ marked_text lines

marked_more : (ls : List Line) (l : Line) → marked_text (ls ++ l ∷ []) ≡ marked_text ls ++ line_of l.moment l.text
marked_more [] l = append-nil (line_of l.moment l.text)
marked_more (x ∷ ls) l = ap (λ t. line_of x.moment x.text ++ t) (marked_more ls l) ∙ sym (append_assoc (line_of x.moment x.text) (marked_text ls) (line_of l.moment l.text))

plain_more : (ls : List Line) (l : Line) (left : List ℕ) → plain_text (ls ++ l ∷ []) ++ left ≡ plain_text ls ++ (l.text ++ 10 ∷ left)
plain_more [] l left = ap (λ t. t ++ left) (append-nil (line_of None l.text)) ∙ append_assoc l.text (10 ∷ []) left
plain_more (x ∷ ls) l left =
    append_assoc (line_of None x.text) (plain_text (ls ++ l ∷ [])) left
    ∙ ap (λ t. line_of None x.text ++ t) (plain_more ls l left)
    ∙ sym (append_assoc (line_of None x.text) (plain_text ls) (l.text ++ (10 ∷ left)))

pub none_marked : (print : List ℕ) → MarkedSo print [] print
none_marked print = record { lines = []; without = refl; with = refl }

pub more_marked : (print text left after behind line : List ℕ) (moment : Option ℕ) → MarkedSo print text left → left ≡ line ++ 10 ∷ behind → after ≡ text ++ line_of moment line → MarkedSo print after behind
more_marked print text left after behind line moment h e w =
    let one : Line = record { moment = moment; text = line } in
    record {
      lines = h.lines ++ one ∷ [];
      without = h.without ∙ ap (λ l. plain_text h.lines ++ l) e ∙ sym (plain_more h.lines one behind);
      with = w ∙ ap (λ t. t ++ line_of moment line) h.with ∙ sym (marked_more h.lines one);
    }

pub all_marked : (print text left after : List ℕ) → MarkedSo print text left → after ≡ text ++ left → IsMarked print after
all_marked print text left after h e = record { lines = h.lines; rest = left; without = h.without; with = e ∙ ap (λ t. t ++ left) h.with }
