-- Parts that are evaluated at once.
use Rattle.std.proofs.Common.{◌≡◌, ℕ, suc, ◌+◌, List, [], ◌∷◌, ◌++◌, Some, Ok, Err, length, drop, refl, sym, ◌∙◌, add-one}
use Rattle.std.specs.Prelude.{Result, slice_get}
use Rattle.ev_base.specs.declared.values.Value.{Value}
use Rattle.def_kernel.specs.declared.node.Node.{Node}
use Rattle.ev_room.specs.declared.exit.Exit.{Exit}
use Rattle.ev_pass.specs.declared.interior.Interior.{Interior as Room}
use Rattle.ev_room.specs.declared.scope.Scope.{Scope}
use Rattle.ev_room.specs.Acts.{Out, Unless, and_then, ◌>>=◌, cut}
use Rattle.ev_steps.specs.Steps.{Evaluator, gathered, last_of, call_node}
use Rattle.def_machine.specs.Values.{Words}
use Rattle.ev_frames.specs.declared.frames.Frame.{Frame}
use Rattle.ev_frames.specs.declared.now.Now.{Now}
use Rattle.ev_frames.specs.Rest.{Goes, Nested, rest, call_on}
use Rattle.ev_room.proofs.Exits.{unless_as}
use Rattle.ev_room.proofs.Places.{drop_some}
use Rattle.ev_frames.proofs.Again.{one_more}
use Rattle.ev_frames.proofs.Rests.{cut_all}

pub leaf_passes : (rec : Evaluator) (v g : Value) (es : List ℕ) (k e : ℕ) (here : Scope) (s t : Room) (due : Out (Value × Scope)) → slice_get es k ≡ Some e → rec.expression e here s ≡ (Ok (g, here), t)
    → last_of rec v (drop k es) here s ≡ due → last_of rec g (drop (k + 1) es) here t ≡ due
unfolding last_of ◌>>=◌ and_then
leaf_passes rec v g es k e here s t due at is h =
    let x : last_of rec v (drop k es) here s ≡ last_of rec g (drop (suc k) es) here t = rw (drop_some es k e at, is) refl in
    rw (add-one k) (sym x ∙ h)

pub leaf_ends : (rec : Evaluator) (v : Value) (es : List ℕ) (k e : ℕ) (here : Scope) (s t : Room) (x : Exit) (due : Out (Value × Scope)) → slice_get es k ≡ Some e → Unless x (rec.expression e here s ≡ (Err x, t))
    → last_of rec v (drop k es) here s ≡ due → Unless x (due ≡ (Err x, t))
unfolding last_of ◌>>=◌ and_then
leaf_ends rec v es k e here s t x due at is h =
    unless_as x (λ (y : rec.expression e here s ≡ (Err x, t)). sym h ∙ (rw (drop_some es k e at, y) refl)) is

pub leaf_gathers : (rec : Evaluator) (g : Value) (vs ws : List Value) (es : List ℕ) (e : ℕ) (here : Scope) (s t : Room) (due : Out (List Value × Scope)) → slice_get es (length vs) ≡ Some e → rec.expression e here s ≡ (Ok (g, here), t)
    → ws ≡ vs ++ g ∷ [] → gathered rec vs (drop (length vs) es) here s ≡ due → gathered rec ws (drop (length ws) es) here t ≡ due
unfolding gathered ◌>>=◌ and_then
leaf_gathers rec g vs ws es e here s t due at is more h =
    let x : gathered rec vs (drop (length vs) es) here s ≡ gathered rec (vs ++ g ∷ []) (drop (suc (length vs)) es) here t = rw (drop_some es (length vs) e at, is) refl in
    rw (one_more vs ws g es more, more) (sym x ∙ h)

pub leaf_gathers_not : (rec : Evaluator) (vs : List Value) (es : List ℕ) (e : ℕ) (here : Scope) (s t : Room) (x : Exit) (due : Out (List Value × Scope)) → slice_get es (length vs) ≡ Some e → Unless x (rec.expression e here s ≡ (Err x, t))
    → gathered rec vs (drop (length vs) es) here s ≡ due → Unless x (due ≡ (Err x, t))
unfolding gathered ◌>>=◌ and_then
leaf_gathers_not rec vs es e here s t x due at is h =
    unless_as x (λ (y : rec.expression e here s ≡ (Err x, t)). sym h ∙ (rw (drop_some es (length vs) e at, y) refl)) is

pub passes_goes : (tree : List Node) (rec : Evaluator) (fs gs : List Frame) (here a : Scope) (s t u : Room) (v : Value) (k : ℕ) (es : List ℕ) (x : ℕ × Value) (r : Result Now Exit)
    → last_of rec v (drop k es) here s ≡ last_of rec x.1 (drop x.0 es) here t
    → Goes tree r gs a u (rest tree fs here (last_of rec x.1 (drop x.0 es) here t)) → Goes tree r gs a u (rest tree fs here (last_of rec v (drop k es) here s))
passes_goes tree rec fs gs here a s t u v k es x r e g = rw e g

pub gathers_goes : (tree : List Node) (rec : Evaluator) (fs gs : List Frame) (act : ℕ) (y : Value) (verb : Words) (here a : Scope) (s t u : Room) (vs ws : List Value) (es : List ℕ) (r : Result Now Exit)
    → gathered rec vs (drop (length vs) es) here s ≡ gathered rec ws (drop (length ws) es) here t
    → Goes tree r gs a u (rest tree fs here (call_on tree rec act y verb ws (drop (length ws) es) here t)) → Goes tree r gs a u (rest tree fs here (call_on tree rec act y verb vs (drop (length vs) es) here s))
unfolding call_on ◌>>=◌
gathers_goes tree rec fs gs act y verb here a s t u vs ws es r e g = rw e g

pub gathers_ends : (tree : List Node) (rec : Evaluator) (fs : List Frame) (act : ℕ) (y : Value) (verb : Words) (here : Scope) (s t : Room) (vs : List Value) (es : List ℕ) (x : Exit)
    → Unless x (gathered rec vs (drop (length vs) es) here s ≡ (Err x, t))
    → Unless x (rest tree fs here (call_on tree rec act y verb vs (drop (length vs) es) here s) ≡ rest tree fs here (Err x, t))
unfolding call_on ◌>>=◌ and_then
gathers_ends tree rec fs act y verb here s t vs es x e = unless_as x (λ (z : gathered rec vs (drop (length vs) es) here s ≡ (Err x, t)). rw z refl) e

pub call_leaf : (tree : List Node) (rec : Evaluator) (fs gs : List Frame) (here a : Scope) (s t u : Room) (f : ℕ) (v : Value) (verb : Words) (args : List ℕ) (r : Result Now Exit)
    → rec.expression f here s ≡ (Ok (v, here), t)
    → Goes tree r gs a u (rest tree fs here (call_on tree rec here.act v verb [] (drop (length {A = Value} []) args) here t)) → Goes tree r gs a u (rest tree fs here (call_node tree rec f verb args here s))
unfolding call_node call_on ◌>>=◌ and_then
call_leaf tree rec fs gs here a s t u f v verb args r e g = rw e g

pub call_leaf_ends : (tree : List Node) (rec : Evaluator) (fs : List Frame) (here : Scope) (s t : Room) (f : ℕ) (verb : Words) (args : List ℕ) (x : Exit)
    → Unless x (rec.expression f here s ≡ (Err x, t)) → Unless x (rest tree fs here (call_node tree rec f verb args here s) ≡ rest tree fs here (Err x, t))
unfolding call_node ◌>>=◌ and_then
call_leaf_ends tree rec fs here s t f verb args x e = unless_as x (λ (z : rec.expression f here s ≡ (Err x, t)). rw z refl) e

pub all_nested : (fs : List Frame) (here : Scope) (m : ℕ) → m ≡ length here.nouns → Nested fs here → Nested fs (cut m here)
all_nested fs here m e h = rw (e, cut_all here) h
