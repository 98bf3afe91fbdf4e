-- The recursion on the depth, as code counts it down.
use Rattle.std.proofs.Common.{◌≡◌, ℕ, zero, suc, ◌-◌, ◌+◌, ◌<◌, ◌≤◌, codes, [], List, Err, refl, ap, ◌∙◌, arith, sub-one}
use Rattle.std.specs.Prelude.{slice_get}
use Rattle.def_kernel.specs.declared.node.Node.{Node}
use Rattle.ev_room.specs.declared.exit.Exit.TheVariants.{Deep, Astray, Fuel}
use Rattle.ev_base.specs.declared.values.Value.{Value}
use Rattle.def_machine.specs.Values.{Words}
use Rattle.ev_pass.specs.declared.interior.Interior.{Interior as Room}
use Rattle.ev_room.specs.declared.scope.Scope.{Scope}
use Rattle.ev_refs.specs.Follow.{followed}
use Rattle.ev_steps.specs.Steps.{Caller, Evaluator, after_turn, turns, call_at, call_value, evaluator, deeper, step_found, bind_found, opened_steps}
use Rattle.ev_room.specs.Acts.{◌>>=◌, spend, ◌>>◌}

pub expression_deep : (tree : List Node) (d id : ℕ) (here : Scope) (s : Room) → d ≡ 0 → (evaluator tree d).expression id here s ≡ (Err Deep, s)
unfolding evaluator opened_steps
expression_deep tree zero id here s e = refl
expression_deep tree (suc d) id here s e = cc

pub expression_goes : (tree : List Node) (d id : ℕ) (here : Scope) (s : Room) → 0 < d
    → (evaluator tree d).expression id here s ≡ (spend 1 >> step_found tree (evaluator tree (d - 1)) id (slice_get tree id) here) s
unfolding evaluator deeper
expression_goes tree zero id here s h = absurd (omega arith)
expression_goes tree (suc d) id here s h = rw sub-one refl

pub pattern_deep : (tree : List Node) (d id : ℕ) (v j : Value) (here : Scope) (s : Room) → d ≡ 0 → (evaluator tree d).pattern id v j here s ≡ (Err Deep, s)
unfolding evaluator opened_steps
pattern_deep tree zero id v j here s e = refl
pattern_deep tree (suc d) id v j here s e = cc

pub pattern_goes : (tree : List Node) (d id : ℕ) (v j : Value) (here : Scope) (s : Room) → 0 < d
    → (evaluator tree d).pattern id v j here s ≡ (spend 1 >> bind_found tree (evaluator tree (d - 1)) (slice_get tree id) v j here) s
unfolding evaluator deeper
pattern_goes tree zero id v j here s h = absurd (omega arith)
pattern_goes tree (suc d) id v j here s h = rw sub-one refl

pub call_deep : (tree : List Node) (rec : Evaluator) (n act : ℕ) (x : Value) (verb : Words) (args : List Value) (s : Room) → n ≡ 0 → call_at tree rec n act x verb args s ≡ (Err Astray, s)
unfolding call_at opened_steps
call_deep tree rec zero act x verb args s e = refl
call_deep tree rec (suc n) act x verb args s e = cc

pub call_goes : (tree : List Node) (rec : Evaluator) (n act : ℕ) (x : Value) (verb : Words) (args : List Value) (s : Room) → 0 < n
    → call_at tree rec n act x verb args s ≡ call_value tree rec (call_at tree rec (n - 1)) act x (followed s.refs x) verb args s
unfolding call_at
call_goes tree rec zero act x verb args s h = absurd (omega arith)
call_goes tree rec (suc n) act x verb args s h = rw sub-one refl

-- ---- turns of a loop

turns_more : (again : Caller) (act : ℕ) (f : Value) (n : ℕ) (s : Room) → 0 < n
    → turns again act f n s ≡ (again act f (codes "run") [] >>= λ x t. after_turn (turns again act f (n - 1)) (followed t.refs x) t) s
unfolding turns
turns_more again act f zero s h = absurd (omega arith)
turns_more again act f (suc n) s h = rw sub-one refl

pub turns_from : (again : Caller) (act : ℕ) (f : Value) (most turn : ℕ) (s : Room) → turn < most
    → turns again act f (most - turn) s ≡ (again act f (codes "run") [] >>= λ x t. after_turn (turns again act f (most - (turn + 1))) (followed t.refs x) t) s
turns_from again act f most turn s h =
    let e : most - turn - 1 ≡ most - (turn + 1) = omega arith in
    turns_more again act f (most - turn) s (omega arith)
    ∙ ap (λ (n : ℕ). (again act f (codes "run") [] >>= λ x t. after_turn (turns again act f n) (followed t.refs x) t) s) e

pub turns_none : (again : Caller) (act : ℕ) (f : Value) (most turn : ℕ) (s : Room) → most ≤ turn → turns again act f (most - turn) s ≡ (Err Fuel, s)
unfolding turns opened_steps
turns_none again act f most turn s h = let e : most - turn ≡ 0 = omega arith in rw e refl

pub turns_all : (again : Caller) (act : ℕ) (f : Value) (most : ℕ) (s : Room) → turns again act f (most - 0) s ≡ turns again act f most s
turns_all again act f most s = let e : most - 0 ≡ most = omega arith in rw e refl
