-- What is let go.
use Rattle.std.proofs.Common.{◌≡◌, ℕ, ◌==◌, Bool, true, false, List, Option, None, Some, nat_eq, if◌then◌else◌, refl, ap, sym, unwrap_or}
use Rattle.std.proofs.lemmas.Bool.{eqb-true, eq-eqb, ne_eqb}
use Rattle.std.proofs.lemmas.Slice.Eq.{slice_eq-Decides}
use Rattle.std.specs.Cmp.Lexicographic.{pointwise}
use Rattle.outside_hosted.specs.declared.call.HostCall.{HostCall}
use Rattle.outside_hosted.specs.declared.call.HostCall.TheVariants.{Idle, Waiting, Streaming}
use Rattle.outside_hosted.specs.declared.events.HostFrame.{HostFrame}
use Rattle.outside_hosted.specs.declared.events.HostIdentity.{HostIdentity}
use Rattle.outside_hosted.specs.declared.events.HostReply.{HostReply}
use Rattle.outside_hosted.specs.declared.load.HostLoad.{HostLoad}
use Rattle.outside_hosted.specs.Body.{with_own}
use Rattle.outside_hosted.specs.Call.{open_call, with_call_frame, with_own_reply, with_reply}
use Rattle.outside_hosted.specs.Load.{with_answer}
use Rattle.outside_hosted.specs.Steps.{open_load}

-- what comes of a request whose call isn't open
pub reply_let_go : (call : ℕ) (come : HostReply) (standing : HostCall) → (open_call standing ≡ Some call → ⊥) → with_reply call come standing ≡ standing
reply_let_go call come Idle other = refl
reply_let_go call come (Waiting number order reply body) other =
    ap (λ own. Waiting number order (with_own_reply own come reply) body) (ne_eqb number call (λ same. other (ap Some same)))
reply_let_go call come (Streaming number body) other = refl

-- a frame of a call that isn't open
pub frame_let_go : (call : ℕ) (frame : HostFrame) (standing : HostCall) → (open_call standing ≡ Some call → ⊥) → with_call_frame call frame standing ≡ standing
frame_let_go call frame Idle other = refl
frame_let_go call frame (Waiting number order reply body) other =
    ap (λ own. Waiting number order reply (with_own own frame body)) (ne_eqb number call (λ same. other (ap Some same)))
frame_let_go call frame (Streaming number body) other =
    ap (λ own. Streaming number (with_own own frame body)) (ne_eqb number call (λ same. other (ap Some same)))

-- two texts that are not the same don't compare as the same
unequal : (a b : List ℕ) (r : Bool) → pointwise nat_eq a b ≡ r → (a ≡ b → ⊥) → r ≡ false
unequal a b false told other = refl
unequal a b true told other =
    absurd (other ((slice_eq-Decides (λ x y. (eqb-true x y, eq-eqb x y)) a b true (sym told)).0 refl))

-- what comes of a load that isn't open
pub load_let_go : (id : List ℕ) (come : HostIdentity) (standing : Option HostLoad) → (open_load standing ≡ Some id → ⊥) → with_answer id come standing ≡ standing
load_let_go id come None other = refl
load_let_go id come (Some load) other =
    ap (λ own. if own then Some (record { id = load.id; is_told = load.is_told; answer = Some (unwrap_or load.answer come) }) else Some load)
    (unequal load.id id (pointwise nat_eq load.id id) refl (λ same. other (ap Some same)))

own_again : (own : Bool) (come later : HostReply) (reply : Option HostReply) → with_own_reply own later (with_own_reply own come reply) ≡ with_own_reply own come reply
own_again true come later None = refl
own_again true come later (Some earlier) = refl
own_again false come later reply = refl

-- what comes of a request a second time
pub reply_again : (call : ℕ) (come later : HostReply) (standing : HostCall) → with_reply call later (with_reply call come standing) ≡ with_reply call come standing
reply_again call come later Idle = refl
reply_again call come later (Waiting number order reply body) =
    ap (λ it. Waiting number order it body) (own_again (number == call) come later reply)
reply_again call come later (Streaming number body) = refl

answered_again : (id : List ℕ) (come later : HostIdentity) (load : HostLoad) (own : Bool) → pointwise nat_eq load.id id ≡ own →
    with_answer id later (if own then Some (record { id = load.id; is_told = load.is_told; answer = Some (unwrap_or load.answer come) }) else Some load)
    ≡ (if own then Some (record { id = load.id; is_told = load.is_told; answer = Some (unwrap_or load.answer come) }) else Some load)
answered_again id come later load true told =
    ap (λ own. if own then Some (record { id = load.id; is_told = load.is_told; answer = Some (unwrap_or load.answer come) })
    else Some (record { id = load.id; is_told = load.is_told; answer = Some (unwrap_or load.answer come) })) told
answered_again id come later load false told =
    ap (λ own. if own then Some (record { id = load.id; is_told = load.is_told; answer = Some (unwrap_or load.answer later) }) else Some load) told

-- what comes of a load a second time
pub answer_again : (id : List ℕ) (come later : HostIdentity) (standing : Option HostLoad) → with_answer id later (with_answer id come standing) ≡ with_answer id come standing
answer_again id come later None = refl
answer_again id come later (Some load) = answered_again id come later load (pointwise nat_eq load.id id) refl
