-- Lists are made of what is there, so by members alone they end.
use Rattle.std.proofs.Common.{◌≡◌, ℕ, zero, suc, ◌+◌, ◌<◌, ◌≤◌, List, [], ◌∷◌, arith}
use Rattle.def_machine.specs.Values.{Value, Items, Name}
use Rattle.def_machine.specs.Native.{list_at}
use Rattle.def_run.specs.World as world
use Rattle.def_run.specs.World.{Script, Program, Entry, World, Goes}
use Rattle.law_frozen.specs.Frozen.{AllOf, Lists, IsBelow, AreStacked}
use Rattle.law_frozen.proofs.RunSound.{WorldSound, opens_sound, steps_sound, begins_sound}
use Rattle.law_reference.specs.Reference.Lists.{ListsAreThere, MembersEndIn, MembersEndInRuns}

module _ (script : Script) where
  opened : (ps : List Program) (w : World) → world.open_from script zero ps (world.begins script) ≡ Goes w → WorldSound script w
  opened ps w e = opens_sound script zero ps (world.begins script) w (begins_sound script) e

  stepped : (w x : World) (es : List Entry) (k : ℕ) → world.open_from script zero script.vats (world.begins script) ≡ Goes w → world.steps_from script es k w ≡ Goes x → WorldSound script x
  stepped w x es k e i = steps_sound script es k w x (opened script.vats w e) i

pub lists_are_there : ListsAreThere
lists_are_there script = (λ ps rest w i e v s j. (opened script ps w e).vats v s j, λ w x es k e i v s j. (stepped script w x es k e i).vats v s j)

-- ---- by members alone

no_under : (d : ℕ) → d < zero → ⊥
no_under d l = omega arith

below_wider : (n d : ℕ) → n ≤ d → (ls : Lists Name) → ((k : ℕ) → k < n → MembersEndIn d ls (Items k)) → (v : Value Name) → IsBelow n v → MembersEndIn d ls v
below_wider n d l ls f (Items k) h = f k h
below_wider n zero l ls f other h = tt
below_wider n (suc d) l ls f other h = tt

all_of : {A : Type 0} {P Q : A → Type 0} → ((x : A) → P x → Q x) → (xs : List A) → AllOf P xs → AllOf Q xs
all_of f [] h = tt
all_of f (x ∷ xs) h = (f x h.0, all_of f xs h.1)

-- the members of list k, of lists that are counted from n on
at_stacked : (n : ℕ) (ls : Lists Name) → AreStacked n ls → (k : ℕ) → AllOf (IsBelow (n + k)) (list_at ls k)
unfolding list_at
at_stacked n [] h zero = tt
at_stacked n [] h (suc k) = tt
at_stacked n (vs ∷ ls) h zero = let e : n + zero ≡ n = omega arith in rw e h.0
at_stacked n (vs ∷ ls) h (suc k) = let e : n + suc k ≡ suc n + k = omega arith in rw e (at_stacked (suc n) ls h.1 k)

members_of : (ls : Lists Name) → AreStacked zero ls → (k : ℕ) → AllOf (IsBelow k) (list_at ls k)
members_of ls h k = let e : zero + k ≡ k = omega arith in rw e at (at_stacked zero ls h k)

ends_in : (ls : Lists Name) → AreStacked zero ls → (d k : ℕ) → k < d → MembersEndIn d ls (Items k)
ends_in ls h zero k l = absurd (no_under k l)
ends_in ls h (suc d) k l = all_of (below_wider k d (omega arith) ls (λ j i. ends_in ls h d j (omega arith))) (list_at ls k) (members_of ls h k)

pub members_end : MembersEndInRuns
members_end script = (
  λ ps rest w i e v s j k. ends_in s.lists ((lists_are_there script).0 ps rest w i e v s j).stacked (suc k) k (omega arith),
  λ w x es n e i v s j k. ends_in s.lists ((lists_are_there script).1 w x es n e i v s j).stacked (suc k) k (omega arith),
)
