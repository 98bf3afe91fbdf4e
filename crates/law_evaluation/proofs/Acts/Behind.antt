-- A scope with names behind those that were bound.
use Rattle.std.proofs.Common.{◌≡◌, ℕ, List, [], ◌∷◌, ◌++◌, Option, Some, None, Ok, Err, length, refl, sym, ap, ◌∙◌, append_assoc, append-nil}
use Rattle.std.specs.Prelude.{take, slice_get}
use Rattle.std.proofs.Math.Seq.{take-append_seam}
use Rattle.def_kernel.specs.declared.node.Node.{Node}
use Rattle.def_kernel.specs.declared.node.Node.TheVariants.{Final}
use Rattle.def_machine.specs.Values.{Words}
use Rattle.ev_room.specs.declared.exit.Exit.{Exit}
use Rattle.ev_base.specs.declared.values.Value.{Value}
use Rattle.ev_base.specs.declared.values.Value.TheVariants as held
use Rattle.ev_pass.specs.declared.interior.Interior.{Interior as Room}
use Rattle.ev_room.specs.declared.scope.Binding.{Binding}
use Rattle.ev_room.specs.declared.scope.Bound.{Bound}
use Rattle.ev_room.specs.declared.scope.Bound.TheVariants.{Fixed}
use Rattle.ev_room.specs.declared.scope.Scope.{Scope}
use Rattle.ev_room.specs.Sound.{no_guard}
use Rattle.ev_room.specs.Acts.{Out, Act, and_then, ◌>>=◌, ◌>>◌, give, fail, cut, with_noun, named, object_made, object_in, object_as, object_at}

-- a scope with more bindings
pub record Grows (before after : Scope) : Type 0 where
  pub more : List Binding
  pub is : after ≡ record before { nouns = before.nouns ++ more }

pub same : (here : Scope) → Grows here here
same here = record { more = []; is = ap (λ (ns : List Binding). record here { nouns = ns }) (sym (append-nil here.nouns)) }

pub onward : {a b c : Scope} → Grows a b → Grows b c → Grows a c
onward {a = a} g h = record {
  more = g.more ++ h.more;
  is = h.is ∙ ap (λ (x : Scope). record x { nouns = x.nouns ++ h.more }) g.is ∙ ap (λ (ns : List Binding). record a { nouns = ns }) (append_assoc a.nouns g.more h.more);
}

pub with_one : (x : Words) (b : Bound) (here : Scope) → Grows here (with_noun x b here)
with_one x b here = record { more = record { noun = x; bound = b } ∷ []; is = refl }

-- what was bound first is got back
pub cut_back : {here after : Scope} → Grows here after → cut (length here.nouns) after ≡ here
cut_back {here = here} g =
    ap (λ (x : Scope). record x { nouns = take (length here.nouns) x.nouns }) g.is
    ∙ ap (λ (ns : List Binding). record here { nouns = ns }) (take-append_seam here.nouns g.more)

pub back : {here after : Scope} → Grows here after → Grows here (cut (length here.nouns) after)
unfolding same
back {here = here} g = record { more = []; is = cut_back g ∙ (same here).is }

-- ---- a fact of what is given

abbrev pub Holds : {A : Type 0} → (A → Type 0) → Out A → Type 0
Holds P (Ok a, s) = P a
Holds P (Err e, s) = Unit {0}

pub record Of {A : Type 0} (P : A → Type 0) (o : Out A) : Type 0 where
  pub holds : Holds P o

pub free : {A : Type 0} (o : Out A) → Holds (λ (a : A). Unit {0}) o
free (Ok a, s) = tt
free (Err e, s) = tt

pub then_holds : {A B : Type 0} (P : A → Type 0) (Q : B → Type 0) (o : Out A) (f : A → Act B) → Holds P o → ((a : A) (t : Room) → P a → Of Q (f a t)) → Of Q (and_then o f)
unfolding and_then
then_holds P Q (Ok a, s) f h k = k a s h
then_holds P Q (Err e, s) f h k = record { holds = tt }

pub then_of : {A B : Type 0} {P : A → Type 0} {Q : B → Type 0} {o : Out A} (f : A → Act B) → Of P o → ((a : A) (t : Room) → P a → Of Q (f a t)) → Of Q (and_then o f)
then_of {P = P} {Q = Q} {o = o} f h k = then_holds P Q o f h.holds k

-- where nothing is known of what is given
pub then_any : {A B : Type 0} {Q : B → Type 0} (o : Out A) (f : A → Act B) → ((a : A) (t : Room) → Of Q (f a t)) → Of Q (and_then o f)
then_any {A = A} {Q = Q} o f k = then_holds (λ (a : A). Unit {0}) Q o f (free o) (λ a t u. k a t)

pub lost : {A : Type 0} {P : A → Type 0} (e : Exit) (s : Room) → Of P (fail e s)
unfolding fail
lost e s = record { holds = tt }

abbrev pub GivesMore : {A : Type 0} → Scope → Out (A × Scope) → Type 0
GivesMore {A = A} here o = Of (λ (x : A × Scope). Grows here x.1) o

abbrev pub BindsMore : Scope → Out Scope → Type 0
BindsMore here o = Of (λ (x : Scope). Grows here x) o

pub given : {A : Type 0} {here after : Scope} (v : A) (s : Room) → Grows here after → GivesMore here (give (v, after) s)
unfolding give
given v s g = record { holds = g }

pub bound : {here after : Scope} (s : Room) → Grows here after → BindsMore here (give after s)
unfolding give
bound s g = record { holds = g }

named_grows : (p : Option Node) (me : ℕ) (here : Scope) → Grows here (named p me here)
unfolding named
named_grows (Some (Final x g)) me here = with_one x (Fixed (held.Obj me) no_guard) here
named_grows other me here = same here

made_grows : (node : ℕ) (x : Words) (bs : List Binding) (stamps : List Value) (me : ℕ) (first here : Scope) (s : Room) → Grows first here → GivesMore first (object_made node x bs stamps me here s)
unfolding object_made ◌>>=◌ ◌>>◌
made_grows node x bs stamps me first here s g = then_any _ _ (λ i t. then_any _ _ (λ v q. given (held.Obj me) q g))

pub object_grows : (tree : List Node) (id p : ℕ) (stamps : List Value) (first here : Scope) (s : Room) → Grows first here → GivesMore first (object_at tree id p stamps here s)
unfolding object_at object_as object_in
object_grows tree id p stamps first here s g = made_grows _ _ _ stamps _ first _ s (onward g (named_grows (slice_get tree p) (length s.heap.things) here))
