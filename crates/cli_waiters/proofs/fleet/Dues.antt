-- When open polls are due, one waiter after another.
use Rattle.std.proofs.Common.{◌≡◌, ℕ, ◌+◌, ◌<◌, List, [], ◌∷◌, ◌++◌, get_or, length, take, option_to_list, ap, sym, ◌∙◌, append_assoc}
use Rattle.std.proofs.lemmas.List.{append-nil, take_more}
use Rattle.cli_waiters.specs.Fleet.Waiters.{open_dues}
use Rattle.cli_waiters.specs.declared.fleet.places.Place.{Place}

open_dues-snoc : (places : List Place) (place : Place) → open_dues (places ++ place ∷ []) ≡ open_dues places ++ option_to_list place.due
open_dues-snoc [] place = append-nil (option_to_list place.due)
open_dues-snoc (one ∷ places) place =
    ap (λ (dues : List ℕ). option_to_list one.due ++ dues) (open_dues-snoc places place)
    ∙ sym (append_assoc (option_to_list one.due) (open_dues places) (option_to_list place.due))

-- one waiter more
pub open_dues-more : (dues : List ℕ) (places : List Place) (i : ℕ) (d : Place) → i < length places →
    dues ++ open_dues (take (i + 1) places) ≡ (dues ++ open_dues (take i places)) ++ option_to_list (get_or places i d).due
open_dues-more dues places i d within =
    ap (λ (some : List Place). dues ++ open_dues some) (take_more places i d within)
    ∙ ap (λ (more : List ℕ). dues ++ more) (open_dues-snoc (take i places) (get_or places i d))
    ∙ sym (append_assoc dues (open_dues (take i places)) (option_to_list (get_or places i d).due))
