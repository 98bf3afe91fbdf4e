-- Frames go on, and what stops ends all of them.
use Rattle.std.proofs.Common.{◌≡◌, ℕ, ◌≤◌, List, [], ◌∷◌, Ok, Err, length, refl, sym, ap, subst, ◌∙◌}
use Rattle.std.specs.Prelude.{Result}
use Rattle.ev_base.specs.declared.values.Value.{Value}
use Rattle.def_kernel.specs.declared.node.Node.{Node}
use Rattle.ev_room.specs.declared.exit.Exit.{Exit}
use Rattle.ev_room.specs.declared.exit.Exit.TheVariants.{Thrown, Ejected, Fuel, Deep, Repeated, Astray, Memory}
use Rattle.ev_room.specs.declared.exit.Came.{Came}
use Rattle.ev_room.specs.declared.exit.Came.TheVariants.{Gave, Threw, Left}
use Rattle.ev_pass.specs.declared.interior.Interior.{Interior as Room}
use Rattle.ev_room.specs.declared.scope.Scope.{Scope}
use Rattle.ev_room.specs.Acts.{Act, Out, Gives, GivesIn, Unless, and_then, give, cut, closed_by, ended_by}
use Rattle.ev_steps.specs.Steps.{evaluator, escaped, tried, at_last, leaving, audited, match_ended, matched}
use Rattle.ev_frames.specs.declared.frames.Frame.{Frame}
use Rattle.ev_frames.specs.declared.frames.Frame.TheVariants.{Part as PartOf, Guard as GuardOf, Match, Case as CaseOf, Body}
use Rattle.ev_frames.specs.declared.frames.Part.{Part}
use Rattle.ev_frames.specs.declared.frames.Guard.{Guard}
use Rattle.ev_frames.specs.declared.frames.Guard.TheVariants.{Alone, Escape, Try, First, Last, Audit, Close, Members, Turns}
use Rattle.ev_frames.specs.declared.now.Now.{Now}
use Rattle.ev_frames.specs.Rest.{Goes, Stays, Nested, rest, going, guarding, settled, valued, came_to, came_back}
use Rattle.ev_nodes.specs.Loop.{StepsTo, NestedOn, stepped}
use Rattle.ev_room.proofs.Exits.{unless_as}
use Rattle.ev_frames.proofs.Again.{part_again, unmarked}
use Rattle.ev_frames.proofs.Calling.{settled_ended, settled_gave}
use Rattle.ev_frames.proofs.Native.{valued_settled}
use Rattle.ev_frames.proofs.Rests.{goes_as}

pub part_mark : (d m : ℕ) (p : Part) (fs : List Frame) (here : Scope) → Nested (PartOf d m p ∷ fs) here → m ≤ length here.nouns
unfolding Nested
part_mark d m p fs here h = h.0

pub part_below : (d m : ℕ) (p : Part) (fs : List Frame) (here : Scope) → Nested (PartOf d m p ∷ fs) here → Nested fs (cut m here)
unfolding Nested
part_below d m p fs here h = h.1

module _ (tree : List Node) (d m : ℕ) (p : Part) (fs gs : List Frame) (here : Scope) (s : Room) (h : Nested (PartOf d m p ∷ fs) here) where
  pub part_goes : (v : Value) (r : Result Now Exit) (a : Scope) (u : Room) → Goes tree r gs a u (rest tree fs here (going tree (evaluator tree d) here.act m p v here s))
      → Goes tree r gs a u (rest tree (PartOf d m p ∷ fs) here (came_to (Gave v) here s))
  unfolding and_then
  part_goes v r a u g =
      goes_as tree r gs a u (rest tree fs here (going tree (evaluator tree d) here.act m p v here s)) _
      (part_again tree d m p fs here (Ok (v, here), s) (part_mark d m p fs here h) (part_below d m p fs here h)) g

  pub part_nested : Nested fs here
  part_nested = unmarked m fs here (part_mark d m p fs here h) (part_below d m p fs here h)

  pub part_threw : (id : ℕ) → rest tree (PartOf d m p ∷ fs) here (came_to (Threw id) here s) ≡ rest tree fs here (Err (Thrown id), s)
  unfolding and_then
  part_threw id = part_again tree d m p fs here (Err (Thrown id), s) (part_mark d m p fs here h) (part_below d m p fs here h)

  pub part_left : (n : ℕ) (v : Value) → rest tree (PartOf d m p ∷ fs) here (came_to (Left n v) here s) ≡ rest tree fs here (Err (Ejected n v), s)
  unfolding and_then
  part_left n v = part_again tree d m p fs here (Err (Ejected n v), s) (part_mark d m p fs here h) (part_below d m p fs here h)

valued_came : (c : Came) (here : Scope) (s : Room) → valued (came_to c here s) ≡ (came_back c, s)
unfolding and_then give came_back
valued_came (Gave v) here s = refl
valued_came (Threw id) here s = refl
valued_came (Left n v) here s = refl

pub guard_nested : (d m : ℕ) (g : Guard) (fs : List Frame) (here there : Scope) → Nested (GuardOf d m g ∷ fs) here → there ≡ cut m here → Nested fs there
unfolding Nested
guard_nested d m g fs here there h e = rw e h.1

pub guard_goes : (tree : List Node) (d m : ℕ) (g : Guard) (c : Came) (fs gs : List Frame) (here there : Scope) (s : Room) (r : Result Now Exit) (a : Scope) (u : Room) → there ≡ cut m here
    → Goes tree r gs a u (rest tree fs there (settled there (guarding tree (evaluator tree d) g there (came_back c, s))))
    → Goes tree r gs a u (rest tree (GuardOf d m g ∷ fs) here (came_to c here s))
unfolding rest
guard_goes tree d m g c fs gs here there s r a u e h =
    goes_as tree r gs a u (rest tree fs there (settled there (guarding tree (evaluator tree d) g there (came_back c, s)))) _
    (rw e (ap (λ (o : Out Value). rest tree fs (cut m here) (settled (cut m here) (guarding tree (evaluator tree d) g (cut m here) o))) (valued_came c here s))) h

module _ (tree : List Node) (fs : List Frame) (saved here there : Scope) (s t : Room) (c : Came) where
  pub body_gave : (v : Value) → closed_by saved.act (came_back c, s) ≡ (Ok v, t) → there ≡ saved → rest tree (Body saved ∷ fs) here (came_to c here s) ≡ rest tree fs there (Ok (v, there), t)
  unfolding rest
  body_gave v e is = rw is (settled_gave tree fs saved (closed_by saved.act (valued (came_to c here s))) v t (ap (λ (o : Out Value). closed_by saved.act o) (valued_came c here s) ∙ e))

  pub body_ended : (x : Exit) → Unless x (closed_by saved.act (came_back c, s) ≡ (Err x, t)) → there ≡ saved → Unless x (rest tree (Body saved ∷ fs) here (came_to c here s) ≡ rest tree fs there (Err x, t))
  unfolding rest
  body_ended x e is =
      rw is (settled_ended tree fs saved (closed_by saved.act (valued (came_to c here s))) x t
      (unless_as x (λ (y : closed_by saved.act (came_back c, s) ≡ (Err x, t)). ap (λ (o : Out Value). closed_by saved.act o) (valued_came c here s) ∙ y) e))

pub body_nested : (fs : List Frame) (saved here there : Scope) → Nested (Body saved ∷ fs) here → there ≡ saved → Nested fs there
unfolding Nested
body_nested fs saved here there h e = rw e h

-- ---- stops

-- what stops passes by all frames
unfoldable Passes : Exit → Type 0
Passes e = (f : Value → Act Value) (g : ℕ → Act Value) (k : ℕ → Value → Act Value) (s : Room) → ended_by f g k (Err e, s) ≡ (Err e, s)

-- the same of what gives a scope
unfoldable PassesOn : Exit → Type 0
PassesOn e = (f : Scope → Act (Value × Scope)) (g : ℕ → Act (Value × Scope)) (k : ℕ → Value → Act (Value × Scope)) (s : Room) → ended_by f g k (Err e, s) ≡ (Err e, s)

stops_rest : (e : Exit) → Passes e → PassesOn e → (tree : List Node) (fs : List Frame) (here : Scope) (s : Room) → rest tree fs here (Err e, s) ≡ (Err e, s)
unfolding rest and_then guarding escaped tried at_last audited leaving closed_by match_ended matched Passes PassesOn
stops_rest e h away tree [] here s = refl
stops_rest e h away tree (PartOf d m p ∷ fs) here s = stops_rest e h away tree fs (cut m here) s
stops_rest e h away tree (GuardOf d m Alone ∷ fs) here s = stops_rest e h away tree fs (cut m here) s
stops_rest e h away tree (GuardOf d m (Escape j c) ∷ fs) here s = rw (h _ _ _ s) (stops_rest e h away tree fs (cut m here) s)
stops_rest e h away tree (GuardOf d m (Try p q) ∷ fs) here s = rw (h _ _ _ s) (stops_rest e h away tree fs (cut m here) s)
stops_rest e h away tree (GuardOf d m (First b) ∷ fs) here s = rw (h _ _ _ s) (stops_rest e h away tree fs (cut m here) s)
stops_rest e h away tree (GuardOf d m (Last c) ∷ fs) here s = stops_rest e h away tree fs (cut m here) s
stops_rest e h away tree (GuardOf d m (Audit j) ∷ fs) here s = rw (h _ _ _ s) (stops_rest e h away tree fs (cut m here) s)
stops_rest e h away tree (GuardOf d m Close ∷ fs) here s = rw (h _ _ _ s) (stops_rest e h away tree fs (cut m here) s)
stops_rest e h away tree (GuardOf d m (Members n f vs k) ∷ fs) here s = stops_rest e h away tree fs (cut m here) s
stops_rest e h away tree (GuardOf d m (Turns n f k) ∷ fs) here s = stops_rest e h away tree fs (cut m here) s
stops_rest e h away tree (Match m j p ∷ fs) here s = rw (away _ _ _ s) (stops_rest e h away tree fs (cut m here) s)
stops_rest e h away tree (CaseOf d m j b ms k v ∷ fs) here s = rw (away _ _ _ s) (stops_rest e h away tree fs (cut m here) s)
stops_rest e h away tree (Body saved ∷ fs) here s = rw (h _ _ _ s) (stops_rest e h away tree fs saved s)

pub steps : (tree : List Node) (next : Result Now Exit) (r : Result Now (Result Value Exit)) (fs : List Frame) (here : Scope) (s : Room) (due : Out (Value × Scope)) → r ≡ stepped next
    → Goes tree next fs here s due → StepsTo tree r fs here s due
unfolding stepped ended_by Passes PassesOn
steps tree (Ok now) r fs here s due e g = rw e g
steps tree (Err (Thrown id)) r fs here s due e g = rw e g
steps tree (Err (Ejected n v)) r fs here s due e g = rw e g
steps tree (Err Fuel) r fs here s due e g = rw e (g ∙ stops_rest Fuel (λ f g k t. refl) (λ f g k t. refl) tree fs here s)
steps tree (Err Deep) r fs here s due e g = rw e (g ∙ stops_rest Deep (λ f g k t. refl) (λ f g k t. refl) tree fs here s)
steps tree (Err (Repeated i j)) r fs here s due e g = rw e (g ∙ stops_rest (Repeated i j) (λ f g k t. refl) (λ f g k t. refl) tree fs here s)
steps tree (Err Astray) r fs here s due e g = rw e (g ∙ stops_rest Astray (λ f g k t. refl) (λ f g k t. refl) tree fs here s)
steps tree (Err Memory) r fs here s due e g = rw e tt

pub nests : (next : Result Now Exit) (r : Result Now (Result Value Exit)) (fs : List Frame) (here : Scope) → r ≡ stepped next → Stays next fs here → NestedOn r fs here
unfolding stepped
nests (Ok now) r fs here e g = rw e g
nests (Err (Thrown id)) r fs here e g = rw e g
nests (Err (Ejected n v)) r fs here e g = rw e g
nests (Err Fuel) r fs here e g = rw e tt
nests (Err Deep) r fs here e g = rw e tt
nests (Err (Repeated i j)) r fs here e g = rw e tt
nests (Err Astray) r fs here e g = rw e tt
nests (Err Memory) r fs here e g = rw e tt

-- all of it has come to an end
pub done : (tree : List Node) (c : Came) (r : Result Value Exit) (fs : List Frame) (here : Scope) (s : Room) → fs ≡ [] → r ≡ came_back c → StepsTo tree (Err r) fs here s (rest tree fs here (came_to c here s))
unfolding rest came_back
done tree (Gave v) r fs here s e f = rw (e, f) refl
done tree (Threw id) r fs here s e f = rw (e, f) refl
done tree (Left n v) r fs here s e f = rw (e, f) refl

pub steps_as : (tree : List Node) (r : Result Now (Result Value Exit)) (fs : List Frame) (here : Scope) (s : Room) (due own : Out (Value × Scope)) → own ≡ due → StepsTo tree r fs here s due → StepsTo tree r fs here s own
steps_as tree r fs here s due own e g = rw e g

-- where nothing else is left to do
pub alone_gives : (tree : List Node) (r : Result Value Exit) (fs : List Frame) (here a : Scope) (t : Room) (o : Out (Value × Scope)) → fs ≡ [] → GivesIn r a t (rest tree fs here o) → GivesIn r a t o
unfolding rest
alone_gives tree r fs here a t o e g = rw e at g

value_alone : (r : Result Value Exit) (here a : Scope) (t : Room) (o : Out Value) → GivesIn r a t (settled here o) → Gives r t o
unfolding and_then give
value_alone (Ok v) here a t o g = sym (valued_settled here o) ∙ ap (λ (p : Out (Value × Scope)). valued p) g
value_alone (Err x) here a t o g = unless_as x (λ (y : settled here o ≡ (Err x, t)). sym (valued_settled here o) ∙ ap (λ (p : Out (Value × Scope)). valued p) y) g

-- a turn, whose due is what is due of what comes next
pub turn_gives : (tree : List Node) (r : Result Value Exit) (fs : List Frame) (here a : Scope) (t : Room) (o : Out Value) (due : Out (Value × Scope)) → fs ≡ [] → rest tree fs here (settled here o) ≡ due → GivesIn r a t due → Gives r t o
turn_gives tree r fs here a t o due e is g =
    value_alone r here a t o (alone_gives tree r fs here a t (settled here o) e (subst (λ (d : Out (Value × Scope)). GivesIn r a t d) (sym is) g))

pub turn_gave : (tree : List Node) (r : Result Value Exit) (fs gs : List Frame) (here a : Scope) (t : Room) (o : Out Value) → fs ≡ [] → StepsTo tree (Err r) gs a t (rest tree fs here (settled here o)) → Gives r t o
turn_gave tree (Ok v) fs gs here a t o e g = value_alone (Ok v) here a t o (alone_gives tree (Ok v) fs here a t (settled here o) e g)
turn_gave tree (Err x) fs gs here a t o e g = value_alone (Err x) here a t o (alone_gives tree (Err x) fs here a t (settled here o) e g)

pub nested_alone : (fs : List Frame) (here : Scope) → fs ≡ [] → Nested fs here
unfolding Nested
nested_alone fs here e = rw e tt
