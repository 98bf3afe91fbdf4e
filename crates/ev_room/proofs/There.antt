-- What stands in a heap may be weighed, and the sizes of texts.
use Rattle.std.proofs.Common.{◌≡◌, ℕ, zero, suc, ◌<◌, ◌≤◌, nat_lt, nat_le, Bool, true, false, List, [], ◌∷◌, length, All, Err, refl, sym, ap, ◌∙◌, arith}
use Rattle.std.specs.Prelude.{if◌then◌else◌}
use Rattle.std.specs.Bool.{OnTrue}
use Rattle.std.proofs.lemmas.Bool.Decides.{nat_tests}
use Rattle.ev_base.specs.declared.values.Value.{Value}
use Rattle.ev_base.specs.declared.values.Value.TheVariants as held
use Rattle.ev_heap.specs.Contents.{Contents, IsWeighable, is_light}
use Rattle.def_machine.specs.Values.{Words}
use Rattle.ev_prims.specs.declared.problem.Problem.TheVariants.{TooHeavy}
use Rattle.ev_room.specs.Sound.{is_there, are_there}
use Rattle.ev_room.specs.Acts.{fail, fails, listed_there, make_list, problem_id, spell, spelled, store, stored, write_text}
use Rattle.ev_room.specs.declared.exit.Exit.TheVariants.{Astray, Thrown}
use Rattle.ev_pass.specs.declared.interior.Interior.{Interior as Room}

-- one part of a test of two
pub both : (a b : Bool) → (if a then b else false) ≡ true → (a ≡ true) × (b ≡ true)
both true b h = (refl, h)
both false b h = cc

pub below : (a b : ℕ) → nat_lt a b ≡ true → a < b
below a b e = grind (arith, nat_tests)

pub is_below : (a b : ℕ) → a < b → nat_lt a b ≡ true
is_below a b e = grind (arith, nat_tests)

pub weighable : (h : Contents) (v : Value) → is_there h v ≡ true → IsWeighable h v
weighable h (held.Text id) e = below id (length h.texts) e
weighable h (held.Broken id) e = below id (length h.texts) e
weighable h (held.List id) e = below id (length h.lists) e
weighable h _ e = tt

pub all_weighable : (h : Contents) (vs : List Value) → are_there h vs ≡ true → All (IsWeighable h) vs
all_weighable h [] e k d l = absurd (omega arith)
all_weighable h (v ∷ vs) e zero d l = weighable h v (both (is_there h v) (are_there h vs) e).0
all_weighable h (v ∷ vs) e (suc k) d l = all_weighable h vs (both (is_there h v) (are_there h vs) e).1 k d (omega arith)

pub on_all : (h : Contents) (vs : List Value) (b : Bool) → b ≡ are_there h vs → OnTrue b (All (IsWeighable h) vs)
on_all h vs true e = all_weighable h vs (sym e)
on_all h vs false e = tt

-- ---- sizes of texts

within : (a b : ℕ) → a ≤ b → nat_le a b ≡ true
within a b h = grind (arith, nat_tests)

is_heavy : (a b : ℕ) → b < a → nat_le a b ≡ false
is_heavy a b h = grind (arith, nat_tests)

pub written : (u : Words) (s : Room) → length u ≤ 65535 → write_text u s ≡ spell u s
unfolding write_text spelled
written u s h = ap (λ (b : Bool). spelled u b s) (within (length u) 65535 h)

pub heavy_text : (u : Words) (s : Room) → 65535 < length u → write_text u s ≡ (Err (Thrown (problem_id TooHeavy)), s)
unfolding write_text spelled fails fail
heavy_text u s h = ap (λ (b : Bool). spelled u b s) (is_heavy (length u) 65535 h)

-- ---- lists

pub made_none : (act : ℕ) (vs : List Value) (s : Room) → are_there s.heap vs ≡ false → make_list act vs s ≡ (Err Astray, s)
unfolding make_list listed_there fail
made_none act vs s e = ap (λ (b : Bool). listed_there act vs b s) e

listed_so : (act : ℕ) (vs : List Value) (s : Room) (b : Bool) → are_there s.heap vs ≡ true → is_light s.heap vs ≡ b → make_list act vs s ≡ stored act vs b s
unfolding make_list listed_there
listed_so act vs s b e f = ap (λ (c : Bool). listed_there act vs c s) e ∙ ap (λ (c : Bool). stored act vs c s) f

pub made_heavy : (act : ℕ) (vs : List Value) (s : Room) → are_there s.heap vs ≡ true → is_light s.heap vs ≡ false → make_list act vs s ≡ (Err (Thrown (problem_id TooHeavy)), s)
unfolding stored fails fail
made_heavy act vs s e f = listed_so act vs s false e f

pub made_light : (act : ℕ) (vs : List Value) (s : Room) → are_there s.heap vs ≡ true → is_light s.heap vs ≡ true → make_list act vs s ≡ store act vs s
unfolding stored
made_light act vs s e f = listed_so act vs s true e f
