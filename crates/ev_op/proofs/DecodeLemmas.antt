-- What decoding found is an operation that begins the bytes, and such an operation is found.
use Rattle.std.proofs.Common.{◌≡◌, ℕ, ◌+◌, ◌-◌, ◌≤◌, List, ◌++◌, length, take, Option, Some, None, Result, Ok, Err, refl, sym, ap, subst, ◌∙◌, arith}
use Rattle.std.specs.Prelude.{IfOk, IfSome}
use Rattle.std.proofs.lemmas.List.{length-append, take_at}
use Rattle.ev_base.specs.declared.memory.Memory.{Memory}
use Rattle.def_op.specs.declared.op.Op.{Op}
use Rattle.def_op.specs.Frames.{Operation, spelling, IsOp}
use Rattle.def_op.specs.Views.{operation}
use Rattle.def_op.specs.Reading.{op_at}
use Rattle.ev_op.specs.Decoded.{decoded, found_view}
use Rattle.ev_op.proofs.NumberLemmas.{bind_some, some_is, IsBytes}
use Rattle.ev_op.proofs.OpLemmas.{op_takes, op_again}

-- an operation that begins the bytes, and its length
abbrev pub Begins : List ℕ → Operation × ℕ → Type 0
Begins bytes x = IsOp x.0 × (x.1 ≤ length bytes) × (take x.1 bytes ≡ spelling x.0)

decoded_begins : (bytes : List ℕ) (x : Operation × ℕ) → IsBytes bytes → Some x ≡ decoded bytes → Begins bytes x
decoded_begins bytes x fits e =
    let q = bind_some (op_at bytes) (λ y. Some (y.0, length bytes - length y.1)) x (sym e) in
    let op = q.0.0 in
    let rest = q.0.1 in
    let t = op_takes bytes q.0 fits q.1 in
    let len : length bytes ≡ length (spelling op) + length rest = ap length t.0.parts ∙ length-append (spelling op) rest in
    let n = length bytes - length rest in
    let long : length (spelling op) ≡ n = omega arith in
    let front : take n bytes ≡ spelling op = ap (take n) t.0.parts ∙ take_at (spelling op) rest n long in
    subst (Begins bytes) (some_is (op, n) x q.2) (t.1, omega arith, front)

pub is_found : (bytes : List ℕ) (r : Result (Option (Op × ℕ)) Memory) → IsBytes bytes → IfOk r (λ o. found_view o ≡ decoded bytes)
    → IfOk r (λ o. IfSome o (λ x. IsOp (operation x.0) × (x.1 ≤ length bytes) × (take x.1 bytes ≡ spelling (operation x.0))))
is_found bytes (Ok None) fits e = tt
is_found bytes (Ok (Some x)) fits e = decoded_begins bytes (operation x.0, x.1) fits e
is_found bytes (Err m) fits e = tt

pub decoded_again : (op : Operation) (rest : List ℕ) → IsOp op → decoded (spelling op ++ rest) ≡ Some (op, length (spelling op))
decoded_again op rest is =
    let e : length (spelling op ++ rest) - length rest ≡ length (spelling op) = omega (arith, length-append (spelling op) rest) in
    rw (op_again op rest is, e) refl

pub finds : (bytes : List ℕ) (r : Result (Option (Op × ℕ)) Memory) → IfOk r (λ o. found_view o ≡ decoded bytes)
    → (op : Operation) (rest : List ℕ) → IsOp op → bytes ≡ spelling op ++ rest → IfOk r (λ o. found_view o ≡ Some (op, length (spelling op)))
finds bytes (Ok o) e op rest is at = e ∙ ap decoded at ∙ decoded_again op rest is
finds bytes (Err m) e op rest is at = tt
