-- What the state of the code stands for, and how its single steps stand for the machine's.
use Rattle.std.proofs.Common.{◌≡◌, ℕ, suc, ◌+◌, ◌-◌, ◌<◌, nat_lt, Bool, true, false, List, [], ◌∷◌, ◌++◌, Option, Ok, Err, length, map, refl, sym, ap, subst, ◌∙◌, arith, append_assoc}
use Rattle.std.specs.Prelude.{slice_get, codes, if◌then◌else◌, nat_le, unwrap_or}
use Rattle.std.proofs.lemmas.List.{length-append, length-map}
use Rattle.ev_base.specs.declared.values.Value.{Value as Held}
use Rattle.ev_base.specs.declared.values.Value.TheVariants as held
use Rattle.ev_heap.specs.Contents.{Contents, is_light, listed}
use Rattle.ev_heap.specs.declared.kept.Listed.{Listed}
use Rattle.ev_heap.specs.declared.happened.Happened.{Happened as Event}
use Rattle.ev_heap.specs.declared.happened.Happened.TheVariants as event
use Rattle.def_kernel.specs.declared.node.Node.{Node}
use Rattle.def_machine.specs.Values.{Words, Value, Text, Items, Local}
use Rattle.def_machine.specs.State.{Bound, Fixed, Slot, Binding as Bond, Scope as Surroundings, Happened, ListMade, Vat, Done, Throws, Ejects, Stops, Fuel, Deep, Repeated, Astray, opened_state}
use Rattle.def_machine.specs.State as machine
use Rattle.def_machine.specs.Refs.{follow, place, list_fits}
use Rattle.def_machine.specs.Scopes.{Answer, Answers}
use Rattle.def_machine.specs.Native as native
use Rattle.def_machine.specs.Perform as perform
use Rattle.ev_integer.specs.declared.arithmetic.NumFault.TheVariants.{Overflow, ZeroDivisor, NegativePower}
use Rattle.ev_prims.specs.Answers.{members_at}
use Rattle.ev_prims.proofs.Means.{lists_are}
use Rattle.ev_prims.specs.Problems.{problem_words}
use Rattle.ev_prims.specs.declared.problem.Problem.{Problem}
use Rattle.ev_prims.specs.declared.problem.Problem.TheVariants.{NoMethod, Arithmetic, NotInt, NotChar, NotBoolean, NotText, NotList, OutOfRange, BadArgument, NotComparable, TooHeavy, Unthrowable, DeadEjector}
use Rattle.ev_room.specs.declared.exit.Exit.TheVariants as exit
use Rattle.ev_pass.specs.declared.interior.Interior.{Interior as Room}
use Rattle.ev_room.specs.declared.scope.Binding.{Binding}
use Rattle.ev_room.specs.declared.scope.Bound.{Bound as Kept}
use Rattle.ev_room.specs.declared.scope.Bound.TheVariants as scope
use Rattle.ev_room.specs.declared.scope.Scope.{Scope}
use Rattle.ev_refs.specs.Follow.{followed, place_of}
use Rattle.ev_refs.specs.Reading.{place_by}
use Rattle.ev_pass.proofs.Stands.{lines_more}
use Rattle.ev_room.specs.Reading.{World, names, texts_of, text_of, value_of, values_of, members_of, line_of, lines_of, vat_of}
use Rattle.ev_audit.specs.Views.{guard_of}
use Rattle.ev_room.specs.Sound.{Grown, Stays, IsSound, is_there, are_there, are_bound, problems}
use Rattle.ev_room.specs.Acts.{ended_by, Out, Act, and_then, ◌>>=◌, ◌>>◌, give, fail, fails, tell, spent, spend, new_activation, problem_id, text_value, spell, spelled, write_text, new_list, list_told, keep_list, store, stored, listed_there, make_list, opened_acts}
use Rattle.law_evaluation.proofs.Acts.Behind.{Holds, Of, free}
use Rattle.law_evaluation.proofs.Acts.Inside.{follows, places}
use Rattle.law_evaluation.proofs.Acts.Sounds.{grown_same, grown_on, list_on, all_on, got_last, micro_sound, text_grown, text_sound, last_text, list_grown, list_sound, last_list, code_grown, code_sound}
use Rattle.ev_room.proofs.There.{below, is_below}
use Rattle.law_evaluation.proofs.Acts.Weights.{IsBefore, IsFront, fits_is}

-- what the state of the code stands for
abbrev pub vat : World → Room → Vat Local
vat w s = vat_of w s

abbrev pub bound_of : World → Kept → Bound Local
bound_of w (scope.Fixed v g) = Fixed (value_of w v) (guard_of g)
bound_of w (scope.Slot k) = Slot k

abbrev pub bond_of : World → Binding → Bond Local
bond_of w b = record { noun = b.noun; bound = bound_of w b.bound }

-- bindings, the last one first, onto others
unfoldable pub bonds_onto : World → List (Bond Local) → List Binding → List (Bond Local)
bonds_onto w acc [] = acc
bonds_onto w acc (b ∷ bs) = bonds_onto w (bond_of w b ∷ acc) bs

abbrev pub scope_of : World → Scope → Surroundings Local
scope_of w here = record { act = here.act; nouns = bonds_onto w [] here.nouns }

-- ---- what is given

-- what something that is given stands for, and when it stands in a heap
pub record Look (A B : Type 0) : Type 1 where
  pub of : World → A → B
  pub fits : Contents → A → Type 0

abbrev pub a_value : Look Held (Value Local)
a_value = record { of = value_of; fits = λ h v. is_there h v ≡ true }

abbrev pub an_answer : Look (Held × Scope) (Answer Local)
an_answer = record { of = λ w a. record { value = value_of w a.0; scope = scope_of w a.1 }; fits = λ h a. (is_there h a.0 ≡ true) × (are_bound h a.1.nouns ≡ true) }

abbrev pub some_answers : Look (List Held × Scope) (Answers Local)
some_answers = record { of = λ w a. record { values = values_of w a.0; scope = scope_of w a.1 }; fits = λ h a. (are_there h a.0 ≡ true) × (are_bound h a.1.nouns ≡ true) }

abbrev pub a_scope : Look Scope (Surroundings Local)
a_scope = record { of = scope_of; fits = λ h here. are_bound h here.nouns ≡ true }

-- a value in a scope that stays
abbrev pub in_scope : Scope → Look Held (Answer Local)
in_scope here = record { of = λ w v. record { value = value_of w v; scope = scope_of w here }; fits = λ h v. (is_there h v ≡ true) × (are_bound h here.nouns ≡ true) }

-- what is itself, and always stands there
abbrev pub itself : {A : Type 0} → Look A A
itself = record { of = λ w a. a; fits = λ h a. Unit {0} }

abbrev pub a_list : Look ℕ ℕ
a_list = record { of = λ w k. k; fits = λ h k. nat_lt k (length h.lists) ≡ true }

-- ---- outcomes

-- Where something came to an end that did not stop, what is left is sound, and what is given or thrown stands there.
abbrev pub Keeps : {A B : Type 0} → Look A B → Out A → Type 0
Keeps look (Ok a, s) = IsSound s × look.fits s.heap a
Keeps look (Err (exit.Thrown id), s) = IsSound s × (nat_lt id (length s.heap.texts) ≡ true)
Keeps look (Err (exit.Ejected n v), s) = IsSound s × (is_there s.heap v ≡ true)
Keeps look (Err exit.Fuel, s) = Unit {0}
Keeps look (Err exit.Deep, s) = Unit {0}
Keeps look (Err (exit.Repeated i j), s) = Unit {0}
Keeps look (Err exit.Astray, s) = Unit {0}
Keeps look (Err exit.Memory, s) = Unit {0}

-- an outcome of the machine is what an outcome over the state of the code stands for
abbrev pub Is : {A B : Type 0} → Look A B → World → Out A → Done Local B → Type 0
Is look w (Ok a, s) d = d ≡ machine.Gives (look.of w a) (vat w s)
Is look w (Err (exit.Thrown id), s) d = d ≡ Throws (text_of w id) (vat w s)
Is look w (Err (exit.Ejected n v), s) d = d ≡ Ejects n (value_of w v) (vat w s)
Is look w (Err exit.Fuel, s) d = d ≡ Stops Fuel (vat w s)
Is look w (Err exit.Deep, s) d = d ≡ Stops Deep (vat w s)
Is look w (Err (exit.Repeated i j), s) d = d ≡ Stops (Repeated i j) (vat w s)
Is look w (Err exit.Astray, s) d = d ≡ Stops Astray (vat w s)
Is look w (Err exit.Memory, s) d = Unit {0}

-- The heap grows, the key of words stays, what came to an end that did not stop left a vat that is sound, and where that comes before the
-- end of the turn, the outcome stands for the machine's.
pub record Met {A B : Type 0} (w : World) (look : Look A B) (s : Room) (o : Out A) (d : Done Local B) : Type 0 where
  pub grown : Grown s.heap (o.1).heap
  pub stays : Stays s o.1
  pub keeps : Keeps look o
  pub is : IsBefore w o.1 → Is look w o d

-- what is a front later is one earlier
pub front_back : (w : World) {a b : Contents} → Grown a b → IsFront w b → IsFront w a
front_back w {a = a} g f = (g.texts.0 ++ f.0, f.1 ∙ ap (λ (ts : List Words). ts ++ f.0) g.texts.1 ∙ append_assoc a.texts g.texts.0 f.0)

-- what is before the end later is so earlier
pub before_back : (w : World) (s t : Room) → Grown s.heap t.heap → Stays s t → IsBefore w t → IsBefore w s
before_back w s t g e f = (front_back w g f.0, sym e ∙ f.1)

-- ---- one thing after another

-- what stays, stays on
pub stays_on : (s t u : Room) → Stays s t → Stays t u → Stays s u
stays_on s t u a b = b ∙ a

-- what follows an outcome, where that is known
pub carried : {B C D : Type 0} (w : World) (look : Look C D) (s t : Room) (o : Out C) (d c : Done Local B) (F : Done Local B → Done Local D)
    → Grown s.heap t.heap → Stays s t → (IsBefore w t → d ≡ c) → Met w look t o (F c) → Met w look s o (F d)
carried {B = B} w look s t o d c F grown stays is m = record {
  grown = grown_on grown m.grown;
  stays = stays_on s t o.1 stays m.stays;
  keeps = m.keeps;
  is = λ f. subst (λ (x : Done Local B). Is look w o (F x)) (sym (is (before_back w t o.1 m.grown m.stays f))) (m.is f);
}

then_gives : {C D : Type 0} {B : Type 0} (w : World) (look' : Look C D) (s t : Room) (o : Out C) (d : Done Local B) (b : B) (g : B → machine.Act Local D)
    → Grown s.heap t.heap → Stays s t → (IsBefore w t → d ≡ machine.Gives b (vat w t)) → Met w look' t o (g b (vat w t)) → Met w look' s o (machine.and_then d g)
unfolding opened_state
then_gives {B = B} w look' s t o d b g grown stays is m = carried w look' s t o d (machine.Gives b (vat w t)) (λ (x : Done Local B). machine.and_then x g) grown stays is m

stops_at : {B D : Type 0} (c : machine.Stop) (v : Vat Local) (d : Done Local B) (g : B → machine.Act Local D) → d ≡ Stops c v → machine.and_then d g ≡ Stops c v
unfolding opened_state
stops_at c v d g e = rw e refl

throws_at : {B D : Type 0} (p : Words) (v : Vat Local) (d : Done Local B) (g : B → machine.Act Local D) → d ≡ Throws p v → machine.and_then d g ≡ Throws p v
unfolding opened_state
throws_at p v d g e = rw e refl

ejects_at : {B D : Type 0} (n : ℕ) (x : Value Local) (v : Vat Local) (d : Done Local B) (g : B → machine.Act Local D) → d ≡ Ejects n x v → machine.and_then d g ≡ Ejects n x v
unfolding opened_state
ejects_at n x v d g e = rw e refl

pub then_stands : {A B C D : Type 0} (w : World) (look : Look A B) (look' : Look C D) (P : A → Type 0) (s : Room) (o : Out A) (d : Done Local B) (f : A → Act C) (g : B → machine.Act Local D)
    → Met w look s o d → Holds P o
    → ((a : A) (t : Room) → IsSound t → look.fits t.heap a → Grown s.heap t.heap → P a → Met w look' t (f a t) (g (look.of w a) (vat w t)))
    → Met w look' s (and_then o f) (machine.and_then d g)
unfolding and_then
then_stands w look look' P s (Ok a, t) d f g h p k = then_gives w look' s t (f a t) d (look.of w a) g h.grown h.stays h.is (k a t h.keeps.0 h.keeps.1 h.grown p)
then_stands w look look' P s (Err (exit.Thrown id), t) d f g h p k = record { grown = h.grown; stays = h.stays; keeps = h.keeps; is = λ i. throws_at (text_of w id) (vat w t) d g (h.is i) }
then_stands w look look' P s (Err (exit.Ejected n v), t) d f g h p k = record { grown = h.grown; stays = h.stays; keeps = h.keeps; is = λ i. ejects_at n (value_of w v) (vat w t) d g (h.is i) }
then_stands w look look' P s (Err exit.Fuel, t) d f g h p k = record { grown = h.grown; stays = h.stays; keeps = h.keeps; is = λ i. stops_at Fuel (vat w t) d g (h.is i) }
then_stands w look look' P s (Err exit.Deep, t) d f g h p k = record { grown = h.grown; stays = h.stays; keeps = h.keeps; is = λ i. stops_at Deep (vat w t) d g (h.is i) }
then_stands w look look' P s (Err (exit.Repeated i j), t) d f g h p k = record { grown = h.grown; stays = h.stays; keeps = h.keeps; is = λ b. stops_at (Repeated i j) (vat w t) d g (h.is b) }
then_stands w look look' P s (Err exit.Astray, t) d f g h p k = record { grown = h.grown; stays = h.stays; keeps = h.keeps; is = λ i. stops_at Astray (vat w t) d g (h.is i) }
then_stands w look look' P s (Err exit.Memory, t) d f g h p k = record { grown = h.grown; stays = h.stays; keeps = tt; is = λ i. tt }

pub then_met : {A B C D : Type 0} {w : World} {look : Look A B} {look' : Look C D} {s : Room} {o : Out A} {d : Done Local B} (f : A → Act C) (g : B → machine.Act Local D)
    → Met w look s o d → ((a : A) (t : Room) → IsSound t → look.fits t.heap a → Grown s.heap t.heap → Met w look' t (f a t) (g (look.of w a) (vat w t)))
    → Met w look' s (and_then o f) (machine.and_then d g)
then_met {A = A} {w = w} {look = look} {look' = look'} {s = s} {o = o} {d = d} f g h k = then_stands w look look' (λ (a : A). Unit {0}) s o d f g h (free o) (λ a t q i r u. k a t q i r)

-- the same, where something is known of what is given
pub then_met_of : {A B C D : Type 0} {w : World} {look : Look A B} {look' : Look C D} {P : A → Type 0} {s : Room} {o : Out A} {d : Done Local B} (f : A → Act C) (g : B → machine.Act Local D)
    → Met w look s o d → Of P o → ((a : A) (t : Room) → IsSound t → look.fits t.heap a → Grown s.heap t.heap → P a → Met w look' t (f a t) (g (look.of w a) (vat w t)))
    → Met w look' s (and_then o f) (machine.and_then d g)
then_met_of {w = w} {look = look} {look' = look'} {P = P} {s = s} {o = o} {d = d} f g h p k = then_stands w look look' P s o d f g h p.holds k

-- ---- what follows by how something ended

stops_by : {B D : Type 0} (c : machine.Stop) (v : Vat Local) (d : Done Local B) (f : B → machine.Act Local D) (g : Words → machine.Act Local D) (h : ℕ → Value Local → machine.Act Local D) → d ≡ Stops c v → machine.end_by f g h d ≡ Stops c v
unfolding machine.end_by
stops_by c v d f g h e = rw e refl

ended_given : {B C D : Type 0} (w : World) (look : Look C D) (s t : Room) (o : Out C) (d c : Done Local B) (f : B → machine.Act Local D) (g : Words → machine.Act Local D) (h : ℕ → Value Local → machine.Act Local D)
    → Grown s.heap t.heap → Stays s t → (IsBefore w t → d ≡ c) → Met w look t o (machine.end_by f g h c) → Met w look s o (machine.end_by f g h d)
ended_given {B = B} w look s t o d c f g h grown stays is m = carried w look s t o d c (λ (x : Done Local B). machine.end_by f g h x) grown stays is m

pub ended_met : {A B C D : Type 0} (w : World) (look : Look A B) (look' : Look C D) (s : Room) (o : Out A) (d : Done Local B)
    (f : A → Act C) (g : ℕ → Act C) (h : ℕ → Held → Act C) (f' : B → machine.Act Local D) (g' : Words → machine.Act Local D) (h' : ℕ → Value Local → machine.Act Local D)
    → Met w look s o d
    → ((a : A) (t : Room) → IsSound t → look.fits t.heap a → Grown s.heap t.heap → Met w look' t (f a t) (f' (look.of w a) (vat w t)))
    → ((id : ℕ) (t : Room) → IsSound t → nat_lt id (length t.heap.texts) ≡ true → Grown s.heap t.heap → Met w look' t (g id t) (g' (text_of w id) (vat w t)))
    → ((n : ℕ) (v : Held) (t : Room) → IsSound t → is_there t.heap v ≡ true → Grown s.heap t.heap → Met w look' t (h n v t) (h' n (value_of w v) (vat w t)))
    → Met w look' s (ended_by f g h o) (machine.end_by f' g' h' d)
unfolding ended_by machine.end_by
ended_met w look look' s (Ok a, t) d f g h f' g' h' m k p q =
    ended_given w look' s t (f a t) d (machine.Gives (look.of w a) (vat w t)) f' g' h' m.grown m.stays m.is (k a t m.keeps.0 m.keeps.1 m.grown)
ended_met w look look' s (Err (exit.Thrown id), t) d f g h f' g' h' m k p q =
    ended_given w look' s t (g id t) d (Throws (text_of w id) (vat w t)) f' g' h' m.grown m.stays m.is (p id t m.keeps.0 m.keeps.1 m.grown)
ended_met w look look' s (Err (exit.Ejected n v), t) d f g h f' g' h' m k p q =
    ended_given w look' s t (h n v t) d (Ejects n (value_of w v) (vat w t)) f' g' h' m.grown m.stays m.is (q n v t m.keeps.0 m.keeps.1 m.grown)
ended_met w look look' s (Err exit.Fuel, t) d f g h f' g' h' m k p q = record { grown = m.grown; stays = m.stays; keeps = m.keeps; is = λ i. stops_by Fuel (vat w t) d f' g' h' (m.is i) }
ended_met w look look' s (Err exit.Deep, t) d f g h f' g' h' m k p q = record { grown = m.grown; stays = m.stays; keeps = m.keeps; is = λ i. stops_by Deep (vat w t) d f' g' h' (m.is i) }
ended_met w look look' s (Err (exit.Repeated i j), t) d f g h f' g' h' m k p q = record { grown = m.grown; stays = m.stays; keeps = m.keeps; is = λ b. stops_by (Repeated i j) (vat w t) d f' g' h' (m.is b) }
ended_met w look look' s (Err exit.Astray, t) d f g h f' g' h' m k p q = record { grown = m.grown; stays = m.stays; keeps = m.keeps; is = λ i. stops_by Astray (vat w t) d f' g' h' (m.is i) }
ended_met w look look' s (Err exit.Memory, t) d f g h f' g' h' m k p q = record { grown = m.grown; stays = m.stays; keeps = tt; is = λ i. tt }

-- what the machine does may be another, where the texts are a front
pub met_by : {A B : Type 0} {w : World} {look : Look A B} {s : Room} {o : Out A} {c : Done Local B} (d : Done Local B) → (IsBefore w s → d ≡ c) → Met w look s o c → Met w look s o d
met_by {B = B} {w = w} {look = look} {s = s} {o = o} d e m = record {
  grown = m.grown;
  stays = m.stays;
  keeps = m.keeps;
  is = λ f. subst (λ (x : Done Local B). Is look w o x) (sym (e (before_back w s o.1 m.grown m.stays f))) (m.is f);
}

-- a value with the scope that stays
pub answered_met : (w : World) (here : Scope) (s : Room) (o : Out Held) (d : Done Local (Answer Local)) → Met w (in_scope here) s o d → Met w an_answer s (and_then o (λ v. give (v, here))) d
unfolding and_then give
answered_met w here s (Ok v, t) d m = record { grown = m.grown; stays = m.stays; keeps = m.keeps; is = m.is }
answered_met w here s (Err (exit.Thrown id), t) d m = record { grown = m.grown; stays = m.stays; keeps = m.keeps; is = m.is }
answered_met w here s (Err (exit.Ejected n v), t) d m = record { grown = m.grown; stays = m.stays; keeps = m.keeps; is = m.is }
answered_met w here s (Err exit.Fuel, t) d m = record { grown = m.grown; stays = m.stays; keeps = m.keeps; is = m.is }
answered_met w here s (Err exit.Deep, t) d m = record { grown = m.grown; stays = m.stays; keeps = m.keeps; is = m.is }
answered_met w here s (Err (exit.Repeated i j), t) d m = record { grown = m.grown; stays = m.stays; keeps = m.keeps; is = m.is }
answered_met w here s (Err exit.Astray, t) d m = record { grown = m.grown; stays = m.stays; keeps = m.keeps; is = m.is }
answered_met w here s (Err exit.Memory, t) d m = record { grown = m.grown; stays = m.stays; keeps = tt; is = λ i. tt }

-- ---- the single changes

pub give_met : {A B : Type 0} (w : World) (look : Look A B) (a : A) (s : Room) → IsSound s → look.fits s.heap a → Met w look s (give a s) (machine.give (look.of w a) (vat w s))
unfolding opened_acts opened_state
give_met w look a s sound i = record { grown = grown_same s.heap; stays = refl; keeps = (sound, i); is = λ f. refl }

pub stop_met : {A B : Type 0} (w : World) (look : Look A B) (s : Room) → Met w look s (fail exit.Astray s) (machine.stop Astray (vat w s))
unfolding opened_acts opened_state
stop_met w look s = record { grown = grown_same s.heap; stays = refl; keeps = tt; is = λ f. refl }

pub deep_met : {A B : Type 0} (w : World) (look : Look A B) (s : Room) → Met w look s (fail exit.Deep s) (machine.stop Deep (vat w s))
unfolding opened_acts opened_state
deep_met w look s = record { grown = grown_same s.heap; stays = refl; keeps = tt; is = λ f. refl }

pub throw_met : {A B : Type 0} (w : World) (look : Look A B) (id : ℕ) (s : Room) → IsSound s → nat_lt id (length s.heap.texts) ≡ true → Met w look s (fail (exit.Thrown id) s) (machine.throw (text_of w id) (vat w s))
unfolding opened_acts opened_state
throw_met w look id s sound i = record { grown = grown_same s.heap; stays = refl; keeps = (sound, i); is = λ f. refl }

pub eject_met : {A B : Type 0} (w : World) (look : Look A B) (n : ℕ) (v : Held) (s : Room) → IsSound s → is_there s.heap v ≡ true → Met w look s (fail (exit.Ejected n v) s) (machine.eject n (value_of w v) (vat w s))
unfolding opened_acts opened_state
eject_met w look n v s sound i = record { grown = grown_same s.heap; stays = refl; keeps = (sound, i); is = λ f. refl }

pub spent_met : (w : World) (n : ℕ) (b : Bool) (s : Room) → IsSound s → Met w itself s (spent n b s) (machine.spent n b (vat w s))
unfolding opened_acts opened_state vat_of
spent_met w n true s sound = record { grown = grown_same s.heap; stays = refl; keeps = (micro_sound s sound (record s.micro { fuel = s.micro.fuel - n }), tt); is = λ f. refl }
spent_met w n false s sound = record { grown = grown_same s.heap; stays = refl; keeps = tt; is = λ f. refl }

pub spend_met : (w : World) (n : ℕ) (s : Room) → IsSound s → Met w itself s (spend n s) (machine.spend n (vat w s))
unfolding spend opened_state vat_of
spend_met w n s sound = spent_met w n (nat_le n s.micro.fuel) s sound

told : (w : World) (es : List Event) (e : Event) (h : Happened Local) → line_of w e ≡ h ∷ []
    → (w.before.happened ++ lines_of w es) ++ h ∷ [] ≡ w.before.happened ++ lines_of w (es ++ e ∷ [])
told w es e h is = rw (lines_more (texts_of w) [] (line_of w) w.before es e, is) (append_assoc w.before.happened (lines_of w es) (h ∷ []))

pub tell_met : (w : World) (e : Event) (h : Happened Local) (s : Room) → IsSound s → line_of w e ≡ h ∷ [] → Met w itself s (tell e s) (machine.tell h (vat w s))
unfolding opened_acts opened_state vat_of
tell_met w e h s sound is = record {
  grown = grown_same s.heap;
  stays = refl;
  keeps = (micro_sound s sound (record s.micro { events = s.micro.events ++ e ∷ [] }), tt);
  is = λ f. ap (λ (hs : List (Happened Local)). machine.Gives tt (record (vat w s) { happened = hs })) (told w s.micro.events e h is);
}

one_longer : {A : Type 0} (xs : List A) (x : A) → suc (length xs) ≡ length (xs ++ x ∷ [])
one_longer [] x = refl
one_longer (y ∷ ys) x = ap suc (one_longer ys x)

pub activation_met : (w : World) (x : Held) (s : Room) → IsSound s → Met w itself s (new_activation x s) (machine.new_activation (vat w s))
unfolding opened_acts opened_state vat_of
activation_met w x s sound = record {
  grown = code_grown s sound x;
  stays = refl;
  keeps = (code_sound s sound x, tt);
  is = λ f. ap (λ (n : ℕ). machine.Gives (length s.heap.codes) (record (vat w s) { activations = n })) (one_longer s.heap.codes x);
}

-- ---- problems

problem_text : (w : World) (p : Problem) → text_of w (problem_id p) ≡ problem_words p
problem_text w (Arithmetic Overflow) = refl
problem_text w other = refl

problem_small : (p : Problem) → nat_lt (problem_id p) 47 ≡ true
problem_small (Arithmetic Overflow) = refl
problem_small other = refl

known_among : (n : ℕ) (more : List Words) → nat_lt n 47 ≡ true → nat_lt n (length (problems ++ more)) ≡ true
known_among n more h =
    let l : length (problems ++ more) ≡ 47 + length more = length-append problems more in
    let b : n < 47 = below n 47 h in
    is_below n (length (problems ++ more)) (omega arith)

-- the first texts of a heap are there
pub known_there : (s : Room) → IsSound s → (n : ℕ) → nat_lt n 47 ≡ true → nat_lt n (length s.heap.texts) ≡ true
known_there i s n k = subst (λ (ts : List Words). nat_lt n (length ts) ≡ true) (sym s.problems_first.1) (known_among n s.problems_first.0 k)

pub problem_there : (s : Room) → IsSound s → (p : Problem) → nat_lt (problem_id p) (length s.heap.texts) ≡ true
problem_there i s p = known_there i s (problem_id p) (problem_small p)

pub fails_met : {A B : Type 0} (w : World) (look : Look A B) (p : Problem) (s : Room) → IsSound s → Met w look s (fails p s) (machine.throw (problem_words p) (vat w s))
unfolding fails
fails_met {B = B} w look p s sound =
    subst (λ (t : Words). Met w look s (fail (exit.Thrown (problem_id p)) s) (machine.throw t (vat w s))) (problem_text w p) (throw_met w look (problem_id p) s sound (problem_there s sound p))

-- ---- texts

last_is : (w : World) (h : Contents) (u : Words) → IsFront w (record h { texts = h.texts ++ u ∷ [] }) → u ≡ text_of w (length h.texts)
last_is w h u f =
    sym (ap (λ (ts : List Words). unwrap_or (slice_get ts (length h.texts)) []) f.1 ∙ ap (λ (o : Option Words). unwrap_or o []) (got_last h.texts u f.0))

pub text_met : (w : World) (u : Words) (s : Room) → IsSound s → Met w a_value s (text_value u s) (machine.give (Text u) (vat w s))
unfolding opened_acts opened_state vat_of
text_met w u s sound = record {
  grown = text_grown s sound u;
  stays = refl;
  keeps = (text_sound s sound u, last_text s sound u);
  is = λ f. ap (λ (t : Words). machine.Gives (Text t) (vat w s)) (last_is w s.heap u f.0);
}

spell_met : (w : World) (tree : List Node) (u : Words) (s : Room) → IsSound s → Met w a_value s (spell u s) (perform.spell (names w) tree u (vat w s))
unfolding spell perform.spell ◌>>◌ machine.◌>>◌
spell_met w tree u s sound = then_met _ _ (spend_met w (length u) s sound) (λ x t q i g. text_met w u t q)

spelled_met : (w : World) (tree : List Node) (u : Words) (b : Bool) (s : Room) → IsSound s
    → Met w a_value s (spelled u b s) ((if b then perform.spell (names w) tree u else machine.throw (codes "too heavy")) (vat w s))
unfolding spelled
spelled_met w tree u true s sound = spell_met w tree u s sound
spelled_met w tree u false s sound = fails_met w a_value TooHeavy s sound

pub write_met : (w : World) (tree : List Node) (u : Words) (s : Room) → IsSound s → Met w a_value s (write_text u s) (perform.write_text (names w) tree u (vat w s))
unfolding write_text perform.write_text
write_met w tree u s sound = spelled_met w tree u (nat_le (length u) 65535) s sound

-- ---- lists

list_line : (w : World) (act k : ℕ) (vs : List Held) → line_of w (event.List act k vs) ≡ ListMade act k (values_of w vs) ∷ []
unfolding line_of
list_line w act k vs = refl

list_told_met : (w : World) (act : ℕ) (vs : List Held) (k : ℕ) (s : Room) → IsSound s → nat_lt k (length s.heap.lists) ≡ true
    → Met w a_value s (list_told act vs k s) (machine.and_then (machine.tell (ListMade act k (values_of w vs)) (vat w s)) (λ u. machine.give (Items k)))
unfolding list_told ◌>>◌
list_told_met w act vs k s sound i =
    then_met _ _ (tell_met w (event.List act k vs) (ListMade act k (values_of w vs)) s sound (list_line w act k vs)) (λ u t q j g. give_met w a_value (held.List k) t q (list_on g k i))

all_members : (w : World) (ls : List Listed) → map (values_of w) (map (λ l. l.members) ls) ≡ map (members_of w) ls
all_members w [] = refl
all_members w (l ∷ ls) = ap (λ (vs : List (List (Value Local))). members_of w l ∷ vs) (all_members w ls)

lists_more : (w : World) (ls : List Listed) (l : Listed) → map (values_of w) (map (λ k. k.members) ls) ++ members_of w l ∷ [] ≡ map (values_of w) (map (λ k. k.members) (ls ++ l ∷ []))
lists_more w [] l = refl
lists_more w (k ∷ ls) l = ap (λ (vs : List (List (Value Local))). members_of w k ∷ vs) (lists_more w ls l)

as_many : (w : World) (ls : List Listed) → length (map (values_of w) (map (λ k. k.members) ls)) ≡ length ls
as_many w ls = length-map (map (λ k. k.members) ls) (values_of w) ∙ length-map ls (λ k. k.members)

pub lists_of : (w : World) (s : Room) → (vat w s).lists ≡ map (members_of w) s.heap.lists
unfolding vat_of
lists_of w s = all_members w s.heap.lists

pub members_are : (w : World) (s : Room) (k : ℕ) → native.list_at (vat w s).lists k ≡ values_of w (members_at s.heap k)
members_are w s k = ap (λ (ls : List (List (Value Local))). native.list_at ls k) (lists_of w s) ∙ lists_are (text_of w) s.heap.lists k

new_list_met : (w : World) (vs : List Held) (s : Room) → IsSound s → are_there s.heap vs ≡ true → Met w a_list s (new_list vs s) (machine.new_list (values_of w vs) (vat w s))
unfolding opened_acts opened_state vat_of
new_list_met w vs s sound i = record {
  grown = list_grown s sound vs;
  stays = refl;
  keeps = (list_sound s sound vs i, last_list s sound vs);
  is = λ f.
      ap (λ (n : ℕ). machine.Gives n (record (vat w s) { lists = (vat w s).lists ++ values_of w vs ∷ [] })) (as_many w s.heap.lists)
      ∙ ap (λ (ls : List (List (Value Local))). machine.Gives (length s.heap.lists) (record (vat w s) { lists = ls })) (lists_more w s.heap.lists (listed s.heap vs));
}

store_is : (w : World) (tree : List Node) (act : ℕ) (vs : List Held) (v : Vat Local)
    → perform.store (names w) tree act (values_of w vs) v
    ≡ machine.and_then (machine.spend (length vs) v) (λ u t. machine.and_then (machine.new_list (values_of w vs) t) (λ k r. machine.and_then (machine.tell (ListMade act k (values_of w vs)) r) (λ u. machine.give (Items k))))
unfolding perform.store machine.◌>>=◌ machine.◌>>◌
store_is w tree act vs v = rw (length-map vs (value_of w)) refl

store_met : (w : World) (tree : List Node) (act : ℕ) (vs : List Held) (s : Room) → IsSound s → are_there s.heap vs ≡ true → Met w a_value s (store act vs s) (perform.store (names w) tree act (values_of w vs) (vat w s))
unfolding store keep_list ◌>>=◌ ◌>>◌
store_met w tree act vs s sound i =
    rw (store_is w tree act vs (vat w s))
    (then_met _ _ (spend_met w (length vs) s sound) (λ u t q j g. then_met _ _ (new_list_met w vs t q (all_on g vs i)) (λ k r p l e. list_told_met w act vs k r p l)))

stored_met : (w : World) (tree : List Node) (act : ℕ) (vs : List Held) (b : Bool) (s : Room) → IsSound s → are_there s.heap vs ≡ true
    → Met w a_value s (stored act vs b s) ((if b then perform.store (names w) tree act (values_of w vs) else machine.throw (codes "too heavy")) (vat w s))
unfolding stored
stored_met w tree act vs true s sound i = store_met w tree act vs s sound i
stored_met w tree act vs false s sound i = fails_met w a_value TooHeavy s sound

made_is : (w : World) (tree : List Node) (act : ℕ) (vs : List (Value Local)) (v : Vat Local)
    → perform.make_list (names w) tree act vs v ≡ (if list_fits v.lists vs then perform.store (names w) tree act vs else machine.throw (codes "too heavy")) v
unfolding perform.make_list opened_state
made_is w tree act vs v = refl

made_by : (w : World) (tree : List Node) (act : ℕ) (vs : List Held) (s : Room) → IsSound s → are_there s.heap vs ≡ true → IsBefore w s
    → perform.make_list (names w) tree act (values_of w vs) (vat w s)
    ≡ (if is_light s.heap vs then perform.store (names w) tree act (values_of w vs) else machine.throw (codes "too heavy")) (vat w s)
made_by w tree act vs s sound i f =
    made_is w tree act (values_of w vs) (vat w s)
    ∙ ap (λ (b : Bool). (if b then perform.store (names w) tree act (values_of w vs) else machine.throw (codes "too heavy")) (vat w s))
    (ap (λ (ls : List (List (Value Local))). list_fits ls (values_of w vs)) (lists_of w s) ∙ fits_is w s.heap f.0 sound.lists vs i)

listed_met : (w : World) (tree : List Node) (act : ℕ) (vs : List Held) (b : Bool) (s : Room) → IsSound s → are_there s.heap vs ≡ true → b ≡ true
    → Met w a_value s (listed_there act vs b s) (perform.make_list (names w) tree act (values_of w vs) (vat w s))
unfolding listed_there
listed_met w tree act vs true s sound i e = met_by _ (made_by w tree act vs s sound i) (stored_met w tree act vs (is_light s.heap vs) s sound i)
listed_met w tree act vs false s sound i e = absurd (cc)

pub list_met : (w : World) (tree : List Node) (act : ℕ) (vs : List Held) (s : Room) → IsSound s → are_there s.heap vs ≡ true
    → Met w a_value s (make_list act vs s) (perform.make_list (names w) tree act (values_of w vs) (vat w s))
unfolding make_list
list_met w tree act vs s sound i = listed_met w tree act vs (are_there s.heap vs) s sound i i

-- ---- following

-- what a value is followed to
pub follow_is : (w : World) (s : Room) → IsSound s → (x : Held) → follow (names w) (vat w s) (value_of w x) ≡ value_of w (followed s.refs x)
follow_is w s sound x = follows w s x sound.knows

pub follow_all : (w : World) (s : Room) → IsSound s → (xs : List Held) → map (follow (names w) (vat w s)) (values_of w xs) ≡ values_of w (map (followed s.refs) xs)
follow_all w s sound [] = refl
follow_all w s sound (x ∷ xs) = rw (follow_is w s sound x, follow_all w s sound xs) refl

-- where a followed value is
pub place_is : (w : World) (s : Room) (x : Held) → place (names w) (vat w s) (value_of w x) ≡ place_by (texts_of w) (place_of s.refs x)
place_is w s x = places w s x
