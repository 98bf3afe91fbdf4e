-- The frame of a node again, with the names that it began with.
use Rattle.std.proofs.Common.{◌≡◌, ℕ, suc, ◌+◌, ◌≤◌, List, [], ◌∷◌, ◌++◌, length, drop, refl, ap, ◌∙◌, arith, length-append}
use Rattle.ev_base.specs.declared.values.Value.{Value}
use Rattle.def_kernel.specs.declared.node.Node.{Node}
use Rattle.ev_room.specs.declared.scope.Scope.{Scope}
use Rattle.ev_room.specs.Acts.{Out, and_then, cut}
use Rattle.ev_steps.specs.Steps.{evaluator}
use Rattle.ev_frames.specs.declared.frames.Frame.{Frame}
use Rattle.ev_frames.specs.declared.frames.Frame.TheVariants.{Part as PartOf}
use Rattle.ev_frames.specs.declared.frames.Part.{Part}
use Rattle.ev_frames.specs.Rest.{Nested, rest, going}
use Rattle.ev_frames.proofs.Rests.{cut_in_front, nested_behind, same_behind}

-- a node's frame is pushed again, with the names that it began with
pub part_again : (tree : List Node) (d m : ℕ) (p : Part) (fs : List Frame) (here : Scope) (o : Out (Value × Scope)) → m ≤ length here.nouns → Nested fs (cut m here)
    → rest tree (PartOf d m p ∷ fs) here o ≡ rest tree fs here (and_then o (λ x. going tree (evaluator tree d) here.act m p x.0 x.1))
unfolding rest
part_again tree d m p fs here o h n = same_behind tree fs (cut m here) here (and_then o (λ x. going tree (evaluator tree d) here.act m p x.0 x.1)) (cut_in_front m here h) n

pub again_nested : (d m : ℕ) (p : Part) (fs gs : List Frame) (here : Scope) → m ≤ length here.nouns → Nested fs (cut m here) → gs ≡ PartOf d m p ∷ fs → Nested gs here
unfolding Nested
again_nested d m p fs gs here h n e = rw e (h, n)

pub unmarked : (m : ℕ) (fs : List Frame) (here : Scope) → m ≤ length here.nouns → Nested fs (cut m here) → Nested fs here
unmarked m fs here h n = nested_behind fs (cut m here) here (cut_in_front m here h) n

pub one_more : (vs ws : List Value) (v : Value) (args : List ℕ) → ws ≡ vs ++ v ∷ [] → drop (length ws) args ≡ drop (suc (length vs)) args
one_more vs ws v args e = let n : length ws ≡ suc (length vs) = ap (λ (us : List Value). length us) e ∙ (rw (length-append vs (v ∷ [])) (let k : length vs + 1 ≡ suc (length vs) = omega arith in k)) in rw n refl
