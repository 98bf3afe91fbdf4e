-- The items of a frame have no stop exactly where the frame is the whole spelling of an operation.
use Rattle.std.proofs.Common.{◌≡◌, ℕ, ◌-◌, false, nat_eq, List, [], ◌∷◌, ◌++◌, length, Option, Some, None, ◌↔◌, ⊎_elim, refl, sym, ap, subst, if◌then◌else◌, ◌∙◌, arith}
use Rattle.std.specs.Prelude.{Result, Ok, Err, IfOk}
use Rattle.std.proofs.lemmas.Bool.{eqb-true, ne_eqb}
use Rattle.std.proofs.lemmas.List.{append-nil, length-append}
use Rattle.ev_base.specs.declared.memory.Memory.{Memory}
use Rattle.def_op.specs.Frames.{Operation, IsOp, spelling}
use Rattle.def_op.specs.Reading.{op_at}
use Rattle.ev_op.proofs.NumberLemmas.{chosen, none_is, IsBytes}
use Rattle.ev_op.proofs.OpLemmas.{op_takes, op_again}
use Rattle.def_op.specs.declared.spots.Parts.{Parts}
use Rattle.def_op.specs.Items.{Walk, On, Off, walk_op, parts_of, items_of}
use Rattle.ev_parts.specs.Whole.{IsWhole}
use Rattle.ev_parts.proofs.Agree.{Agree, behind, op_agrees}

no_bytes : (bytes : List ℕ) → length bytes ≡ 0 → bytes ≡ []
no_bytes [] e = refl
no_bytes (b ∷ bytes) e = absurd (omega (arith, e))

nothing_left : (rest : List ℕ) (place : ℕ) → (if nat_eq (length rest) 0 then None else Some place) ≡ None → rest ≡ []
nothing_left rest place e =
    ⊎_elim (λ p. no_bytes rest (eqb-true (length rest) 0 p.0)) (λ p. absurd (none_is place (sym p.1)))
    (chosen (nat_eq (length rest) 0) None (Some place) None e)

is_whole : (bytes : List ℕ) (w : Walk (List ℕ)) (o : Option (Operation × List ℕ)) → IsBytes bytes → Agree behind w o → op_at bytes ≡ o → (parts_of bytes w).stop ≡ None → IsWhole bytes
is_whole bytes (On spots rest) (Some x) fits a e stop =
    let t = op_takes bytes x fits e in
    let empty : x.1 ≡ [] = sym a ∙ nothing_left rest (length bytes - length rest) stop in
    (x.0, t.1, t.0.parts ∙ ap (λ (r : List ℕ). spelling x.0 ++ r) empty ∙ append-nil (spelling x.0))
is_whole bytes (On spots rest) None fits a e stop = absurd a
is_whole bytes (Off spots place) o fits a e stop = absurd (none_is place (sym stop))

no_stop : (bytes : List ℕ) (w : Walk (List ℕ)) (op : Operation) → Agree behind w (Some (op, [])) → (parts_of bytes w).stop ≡ None
no_stop bytes (On spots rest) op a = rw a refl
no_stop bytes (Off spots place) op a = absurd a

whole_stops_nowhere : (bytes : List ℕ) → IsWhole bytes → (items_of bytes).stop ≡ None
whole_stops_nowhere bytes whole =
    let at : bytes ≡ spelling whole.0 ++ [] = whole.2 ∙ sym (append-nil (spelling whole.0)) in
    let found : op_at bytes ≡ Some (whole.0, []) = ap op_at at ∙ op_again whole.0 [] whole.1 in
    no_stop bytes (walk_op (length bytes) [] bytes) whole.0 (subst (λ (o : Option (Operation × List ℕ)). Agree behind (walk_op (length bytes) [] bytes) o) found (op_agrees (length bytes) [] bytes))

pub whole_exactly : (bytes : List ℕ) (r : Result Parts Memory) → IsBytes bytes → IfOk r (λ p. p ≡ items_of bytes) → IfOk r (λ p. (p.stop ≡ None) ↔ IsWhole bytes)
whole_exactly bytes (Ok p) fits e = (
  λ h. is_whole bytes (walk_op (length bytes) [] bytes) (op_at bytes) fits (op_agrees (length bytes) [] bytes) refl (sym (ap (λ (q : Parts). q.stop) e) ∙ h),
  λ w. ap (λ (q : Parts). q.stop) e ∙ whole_stops_nowhere bytes w,
)
whole_exactly bytes (Err m) fits e = tt

-- where an operation is over before the bytes are
stop_behind : (bytes : List ℕ) (w : Walk (List ℕ)) (op : Operation) (rest : List ℕ) → Agree behind w (Some (op, rest)) → bytes ≡ spelling op ++ rest → (rest ≡ [] → ⊥) → (parts_of bytes w).stop ≡ Some (length (spelling op))
stop_behind bytes (On spots r) op rest a at more =
    let some : nat_eq (length rest) 0 ≡ false = ne_eqb (length rest) 0 (λ e. more (no_bytes rest e)) in
    let len : length bytes - length rest ≡ length (spelling op) = omega (arith, ap length at ∙ length-append (spelling op) rest) in
    rw (a, some, len) refl
stop_behind bytes (Off spots place) op rest a at more = absurd a

pub stops_behind : (bytes : List ℕ) (r : Result Parts Memory) → IfOk r (λ p. p ≡ items_of bytes)
    → (op : Operation) (rest : List ℕ) → IsOp op → bytes ≡ spelling op ++ rest → (rest ≡ [] → ⊥) → IfOk r (λ p. p.stop ≡ Some (length (spelling op)))
stops_behind bytes (Ok p) e op rest is at more =
    let found : op_at bytes ≡ Some (op, rest) = ap op_at at ∙ op_again op rest is in
    let agree : Agree behind (walk_op (length bytes) [] bytes) (Some (op, rest)) = subst (λ (o : Option (Operation × List ℕ)). Agree behind (walk_op (length bytes) [] bytes) o) found (op_agrees (length bytes) [] bytes) in
    ap (λ (q : Parts). q.stop) e ∙ stop_behind bytes (walk_op (length bytes) [] bytes) op rest agree at more
stops_behind bytes (Err m) e op rest is at more = tt
