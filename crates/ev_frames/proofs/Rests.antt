-- What is left to do: frames as they are pushed, and scopes that have more names.
use Rattle.std.proofs.Common.{◌≡◌, ℕ, ◌≤◌, List, [], ◌∷◌, Ok, Err, length, drop, refl, sym, ap, subst, ◌∙◌, arith, ◌-◌}
use Rattle.std.specs.Prelude.{Result, take}
use Rattle.std.proofs.lemmas.List.{take-take, length-take}
use Rattle.ev_base.specs.declared.values.Value.{Value}
use Rattle.def_kernel.specs.declared.node.Node.{Node}
use Rattle.ev_room.specs.declared.exit.Exit.{Exit}
use Rattle.ev_room.specs.declared.exit.Exit.TheVariants.{Thrown, Ejected, Fuel, Deep, Repeated, Astray, Memory}
use Rattle.ev_pass.specs.declared.interior.Interior.{Interior as Room}
use Rattle.ev_room.specs.declared.scope.Binding.{Binding}
use Rattle.ev_room.specs.declared.scope.Scope.{Scope}
use Rattle.ev_room.specs.Acts.{Act, Out, Unless, Extends, and_then, cut}
use Rattle.ev_room.proofs.Exits.{unless_as}
use Rattle.ev_room.proofs.Fronts.{itself_in_front}
use Rattle.ev_steps.specs.Steps.{evaluator, match_all, match_ended, matched}
use Rattle.def_machine.specs.Scopes.{Case}
use Rattle.ev_frames.specs.declared.frames.Frame.{Frame}
use Rattle.ev_frames.specs.declared.frames.Frame.TheVariants.{Part as PartOf, Guard as GuardOf, Match, Case as CaseOf, Body}
use Rattle.ev_frames.specs.declared.frames.Part.{Part}
use Rattle.ev_frames.specs.declared.frames.Guard.{Guard}
use Rattle.ev_frames.specs.declared.now.Now.{Now}
use Rattle.ev_frames.specs.Rest.{Goes, Nested, rest, going, guarding, scoped, settled, valued}

pub then_then : {A B C : Type 0} (o : Out A) (f : A → Act B) (g : B → Act C) → and_then (and_then o f) g ≡ and_then o (λ a t. and_then (f a t) g)
unfolding and_then
then_then (Ok a, t) f g = refl
then_then (Err e, t) f g = refl

-- ---- scopes

pub cut_all : (a : Scope) → cut (length a.nouns) a ≡ a
unfolding Extends
cut_all a = itself_in_front a

more_names : (a b : Scope) → Extends a b → length a.nouns ≤ length b.nouns
unfolding Extends
more_names a b e =
    let t : take (length a.nouns) b.nouns ≡ a.nouns = ap (λ (x : Scope). x.nouns) e in
    let n : length (take (length a.nouns) b.nouns) ≡ length a.nouns = ap (λ (x : List Binding). length x) t in
    omega (arith, length-take (length a.nouns) b.nouns, n)

same_act : (a b : Scope) → Extends a b → b.act ≡ a.act
unfolding Extends
same_act a b e = ap (λ (x : Scope). x.act) e

pub cut_behind : (m : ℕ) (a b : Scope) → m ≤ length a.nouns → Extends a b → cut m b ≡ cut m a
unfolding Extends
cut_behind m a b h e =
    let t : take (length a.nouns) b.nouns ≡ a.nouns = ap (λ (x : Scope). x.nouns) e in
    let n : take m b.nouns ≡ take m a.nouns = sym (take-take m (length a.nouns) b.nouns h) ∙ ap (λ (ns : List Binding). take m ns) t in
    ap (λ (k : ℕ). record { act = k; nouns = take m b.nouns }) (same_act a b e) ∙ ap (λ (ns : List Binding). record { act = a.act; nouns = ns }) n

pub cut_in_front : (m : ℕ) (a : Scope) → m ≤ length a.nouns → Extends (cut m a) a
unfolding Extends
cut_in_front m a h =
    let n : length (take m a.nouns) ≡ m = omega (arith, length-take m a.nouns) in
    ap (λ (k : ℕ). record { act = a.act; nouns = take k a.nouns }) n

-- ---- frames

pub part_pushed : (tree : List Node) (d : ℕ) (p : Part) (fs : List Frame) (here : Scope) (o : Out (Value × Scope))
    → rest tree (PartOf d (length here.nouns) p ∷ fs) here o ≡ rest tree fs here (and_then o (λ x. going tree (evaluator tree d) here.act (length here.nouns) p x.0 x.1))
unfolding rest
part_pushed tree d p fs here o = ap (λ (a : Scope). rest tree fs a (and_then o (λ x. going tree (evaluator tree d) here.act (length here.nouns) p x.0 x.1))) (cut_all here)

pub guard_pushed : (tree : List Node) (d : ℕ) (g : Guard) (fs : List Frame) (here : Scope) (o : Out (Value × Scope))
    → rest tree (GuardOf d (length here.nouns) g ∷ fs) here o ≡ rest tree fs here (settled here (guarding tree (evaluator tree d) g here (valued o)))
unfolding rest
guard_pushed tree d g fs here o = ap (λ (a : Scope). rest tree fs a (settled a (guarding tree (evaluator tree d) g a (valued o)))) (cut_all here)

pub part_nested : (d : ℕ) (p : Part) (fs gs : List Frame) (here : Scope) → Nested fs here → gs ≡ PartOf d (length here.nouns) p ∷ fs → Nested gs here
unfolding Nested
part_nested d p fs gs here h e = rw e (omega arith, subst (λ (a : Scope). Nested fs a) (sym (cut_all here)) h)

pub guard_nested : (d : ℕ) (g : Guard) (fs gs : List Frame) (here : Scope) → Nested fs here → gs ≡ GuardOf d (length here.nouns) g ∷ fs → Nested gs here
unfolding Nested
guard_nested d g fs gs here h e = rw e (omega arith, subst (λ (a : Scope). Nested fs a) (sym (cut_all here)) h)

pub match_nested : (j p : ℕ) (fs gs : List Frame) (here : Scope) → Nested fs here → gs ≡ Match (length here.nouns) j p ∷ fs → Nested gs here
unfolding Nested
match_nested j p fs gs here h e = rw e (omega arith, subst (λ (a : Scope). Nested fs a) (sym (cut_all here)) h)

pub match_pushed : (tree : List Node) (j p : ℕ) (fs : List Frame) (here : Scope) (o : Out (Value × Scope))
    → rest tree (Match (length here.nouns) j p ∷ fs) here o ≡ rest tree fs here (match_ended tree j p here (scoped o))
unfolding rest
match_pushed tree j p fs here o = ap (λ (a : Scope). rest tree fs a (match_ended tree j p a (scoped o))) (cut_all here)

pub case_nested : (d j b : ℕ) (ms : List Case) (k : ℕ) (v : Value) (fs gs : List Frame) (here : Scope) → Nested fs here → gs ≡ CaseOf d (length here.nouns) j b ms k v ∷ fs → Nested gs here
unfolding Nested
case_nested d j b ms k v fs gs here h e = rw e (omega arith, subst (λ (a : Scope). Nested fs a) (sym (cut_all here)) h)

pub case_pushed : (tree : List Node) (d j b : ℕ) (ms : List Case) (k : ℕ) (v : Value) (fs : List Frame) (here : Scope) (o : Out (Value × Scope))
    → rest tree (CaseOf d (length here.nouns) j b ms k v ∷ fs) here o ≡ rest tree fs here (matched (evaluator tree d) here.act j b (match_all (evaluator tree d) (drop k ms) v here) (scoped o))
unfolding rest
case_pushed tree d j b ms k v fs here o = ap (λ (a : Scope). rest tree fs a (matched (evaluator tree d) here.act j b (match_all (evaluator tree d) (drop k ms) v a) (scoped o))) (cut_all here)

-- frames make the same of all in a scope with more names
pub same_behind : (tree : List Node) (fs : List Frame) (a b : Scope) (o : Out (Value × Scope)) → Extends a b → Nested fs a → rest tree fs a o ≡ rest tree fs b o
unfolding rest Nested
same_behind tree [] a b o e h = refl
same_behind tree (PartOf d m p ∷ fs) a b o e h =
    sym (ap (λ (c : Scope). rest tree fs c (and_then o (λ x. going tree (evaluator tree d) b.act m p x.0 x.1))) (cut_behind m a b h.0 e)
    ∙ ap (λ (n : ℕ). rest tree fs (cut m a) (and_then o (λ x. going tree (evaluator tree d) n m p x.0 x.1))) (same_act a b e))
same_behind tree (GuardOf d m g ∷ fs) a b o e h =
    sym (ap (λ (c : Scope). rest tree fs c (settled c (guarding tree (evaluator tree d) g c (valued o)))) (cut_behind m a b h.0 e))
same_behind tree (Match m j p ∷ fs) a b o e h =
    sym (ap (λ (c : Scope). rest tree fs c (match_ended tree j p c (scoped o))) (cut_behind m a b h.0 e))
same_behind tree (CaseOf d m j body ms k v ∷ fs) a b o e h =
    sym (ap (λ (c : Scope). rest tree fs c (matched (evaluator tree d) b.act j body (match_all (evaluator tree d) (drop k ms) v c) (scoped o))) (cut_behind m a b h.0 e)
    ∙ ap (λ (n : ℕ). rest tree fs (cut m a) (matched (evaluator tree d) n j body (match_all (evaluator tree d) (drop k ms) v (cut m a)) (scoped o))) (same_act a b e))
same_behind tree (Body saved ∷ fs) a b o e h = refl

pub nested_behind : (fs : List Frame) (a b : Scope) → Extends a b → Nested fs a → Nested fs b
unfolding Nested
nested_behind [] a b e h = tt
nested_behind (PartOf d m p ∷ fs) a b e h =
    (let n : length a.nouns ≤ length b.nouns = more_names a b e in let k : m ≤ length a.nouns = h.0 in omega arith, subst (λ (c : Scope). Nested fs c) (sym (cut_behind m a b h.0 e)) h.1)
nested_behind (GuardOf d m g ∷ fs) a b e h =
    (let n : length a.nouns ≤ length b.nouns = more_names a b e in let k : m ≤ length a.nouns = h.0 in omega arith, subst (λ (c : Scope). Nested fs c) (sym (cut_behind m a b h.0 e)) h.1)
nested_behind (Match m j p ∷ fs) a b e h =
    (let n : length a.nouns ≤ length b.nouns = more_names a b e in let k : m ≤ length a.nouns = h.0 in omega arith, subst (λ (c : Scope). Nested fs c) (sym (cut_behind m a b h.0 e)) h.1)
nested_behind (CaseOf d m j body ms k v ∷ fs) a b e h =
    (let n : length a.nouns ≤ length b.nouns = more_names a b e in let k : m ≤ length a.nouns = h.0 in omega arith, subst (λ (c : Scope). Nested fs c) (sym (cut_behind m a b h.0 e)) h.1)
nested_behind (Body saved ∷ fs) a b e h = h

-- ---- what ends without a value

pub unless_so : {fact : Type 0} (e : Exit) → fact → Unless e fact
unless_so (Thrown id) h = h
unless_so (Ejected n v) h = h
unless_so Fuel h = h
unless_so Deep h = h
unless_so (Repeated i j) h = h
unless_so Astray h = h
unless_so Memory h = tt

pub gone : (e : Exit) (fs : List Frame) (a : Scope) → Nested fs a → Unless e (Nested fs a)
gone e fs a h = unless_so e h

pub goes_on : (tree : List Node) (fs : List Frame) (a : Scope) (e : Exit) (s : Room) (o : Out (Value × Scope)) → Unless e (o ≡ (Err e, s)) → Unless e (rest tree fs a o ≡ rest tree fs a (Err e, s))
goes_on tree fs a e s o h = unless_as e (λ (x : o ≡ (Err e, s)). ap (λ (p : Out (Value × Scope)). rest tree fs a p) x) h

pub goes_as : (tree : List Node) (r : Result Now Exit) (gs : List Frame) (b : Scope) (u : Room) (due own : Out (Value × Scope)) → own ≡ due → Goes tree r gs b u due → Goes tree r gs b u own
goes_as tree r gs b u due own e h = rw e h

-- what gave a value in a scope with more names
pub given_behind : (tree : List Node) (fs : List Frame) (a b : Scope) (o : Out (Value × Scope)) (v : Value) (t : Room) → Extends a b → Nested fs a → o ≡ (Ok (v, b), t) → rest tree fs a o ≡ rest tree fs b (Ok (v, b), t)
given_behind tree fs a b o v t e h is = rw is (same_behind tree fs a b (Ok (v, b), t) e h)

pub ended_behind : (tree : List Node) (fs : List Frame) (a b : Scope) (o : Out (Value × Scope)) (x : Exit) (t : Room) → Extends a b → Nested fs a → Unless x (o ≡ (Err x, t)) → Unless x (rest tree fs a o ≡ rest tree fs b (Err x, t))
ended_behind tree fs a b o x t e h is = unless_as x (λ (y : o ≡ (Err x, t)). ap (λ (p : Out (Value × Scope)). rest tree fs a p) y ∙ same_behind tree fs a b (Err x, t) e h) is
