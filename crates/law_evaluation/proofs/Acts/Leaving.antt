-- Ejectors over the state of the code stand for the machine's.
use Rattle.std.proofs.Common.{◌≡◌, ℕ, zero, suc, Bool, true, false, List, [], ◌∷◌, ◌++◌, Option, Some, None, map, refl, ap, ◌∙◌}
use Rattle.std.specs.Prelude.{slice_get, slice_set, codes, if◌then◌else◌, option_map}
use Rattle.std.specs.Str.{bytes_eq}
use Rattle.std.proofs.lemmas.List.{map-append, length-map}
use Rattle.ev_base.specs.declared.values.Value.{Value as Held}
use Rattle.ev_base.specs.declared.values.Value.TheVariants as held
use Rattle.ev_heap.specs.declared.happened.Happened.TheVariants as event
use Rattle.ev_heap.specs.declared.kept.Shape.{Shape}
use Rattle.ev_heap.specs.declared.kept.Shape.TheVariants as shape
use Rattle.ev_heap.specs.declared.kept.Thing.{Thing as HeldThing}
use Rattle.def_kernel.specs.declared.node.Node.{Node}
use Rattle.def_machine.specs.Values.{Words, Value, Local, Obj, numbering}
use Rattle.def_machine.specs.State.{Thing, Ejector, Called, EjectorMade, Vat}
use Rattle.def_machine.specs.State as machine
use Rattle.def_machine.specs.Free.{entry, same_words}
use Rattle.def_machine.specs.Scopes as scopes
use Rattle.def_machine.specs.Calls as calls
use Rattle.ev_prims.specs.declared.problem.Problem.TheVariants.{NoMethod, DeadEjector}
use Rattle.ev_pass.specs.declared.interior.Interior.{Interior as Room}
use Rattle.ev_room.specs.Reading.{World, names, value_of, values_of, shape_in, thing_of, line_of, vat_of}
use Rattle.ev_room.specs.Sound.{Grown, IsSound, is_there, are_there}
use Rattle.ev_room.specs.Acts.{Act, ◌>>=◌, ◌>>◌, give, fail, fails, answer, closed, keep_ejector, new_ejector, killed, kill, leave, ejected, ejector_answer, call_ejector}
use Rattle.law_evaluation.proofs.Acts.Closes.{called_line, closed_met}
use Rattle.law_evaluation.proofs.Acts.Sounds.{grown_same, all_on, ejector_sound, killed_sound, things_grown}
use Rattle.law_evaluation.proofs.Acts.Stands.{Met, Look, vat, a_value, itself, then_met, give_met, tell_met, fails_met, eject_met}
use Rattle.ev_room.proofs.There.{both}
use Rattle.law_evaluation.proofs.Acts.Words.{same_turned, entry_is}

-- ---- making one

keep_ejector_met : (w : World) (s : Room) → IsSound s → Met w itself s (keep_ejector s) (machine.new_thing (Ejector true) (vat w s))
unfolding keep_ejector machine.new_thing vat_of
keep_ejector_met w s sound = record {
  grown = things_grown s sound (s.heap.things ++ record { shape = shape.Ejector; alive = true } ∷ []);
  stays = refl;
  keeps = (ejector_sound s sound, tt);
  is = λ f. rw (length-map s.heap.things (thing_of w), map-append (thing_of w) s.heap.things (record { shape = shape.Ejector; alive = true } ∷ [])) refl;
}

ejector_line : (w : World) (act j : ℕ) → line_of w (event.Ejector act (held.Obj j)) ≡ EjectorMade act (Obj j) ∷ []
unfolding line_of
ejector_line w act j = refl

ejector_is : (w : World) (tree : List Node) (act : ℕ) (v : Vat Local)
    → calls.new_ejector (names w) tree act v ≡ machine.and_then (machine.new_thing (Ejector true) v) (λ j t. machine.and_then (machine.tell (EjectorMade act (Obj j)) t) (λ u. machine.give j))
unfolding calls.new_ejector machine.◌>>=◌ machine.◌>>◌ numbering
ejector_is w tree act v = refl

pub new_ejector_met : (w : World) (tree : List Node) (act : ℕ) (s : Room) → IsSound s → Met w itself s (new_ejector act s) (calls.new_ejector (names w) tree act (vat w s))
unfolding new_ejector ◌>>=◌ ◌>>◌
new_ejector_met w tree act s sound =
    rw (ejector_is w tree act (vat w s))
    (then_met _ _ (keep_ejector_met w s sound)
    (λ j t q i g. then_met _ _ (tell_met w (event.Ejector act (held.Obj j)) (EjectorMade act (Obj j)) t q (ejector_line w act j)) (λ u r p l e. give_met w itself j r p tt)))

-- ---- ending one

dead_is : (w : World) (live : Bool) (sh : Shape) → machine.dead (shape_in w live sh) ≡ shape_in w false sh
unfolding machine.dead
dead_is w live (shape.Made node caught stamps) = refl
dead_is w live other = refl

changed_at : (w : World) (ts : List HeldThing) (k : ℕ) (t : HeldThing) → slice_get ts k ≡ Some t
    → machine.change machine.dead k (map (thing_of w) ts) ≡ map (thing_of w) (slice_set ts k (record t { alive = false }))
unfolding machine.change
changed_at w [] k t e = absurd (cc)
changed_at w (x ∷ ts) zero t e =
    let is : x ≡ t = cc in
    rw is (ap (λ (y : Thing Local). y ∷ map (thing_of w) ts) (dead_is w t.alive t.shape))
changed_at w (x ∷ ts) (suc k) t e = ap (λ (xs : List (Thing Local)). thing_of w x ∷ xs) (changed_at w ts k t e)

unchanged_at : (w : World) (ts : List HeldThing) (k : ℕ) → slice_get ts k ≡ None → machine.change machine.dead k (map (thing_of w) ts) ≡ map (thing_of w) ts
unfolding machine.change
unchanged_at w [] k e = refl
unchanged_at w (x ∷ ts) zero e = absurd (cc)
unchanged_at w (x ∷ ts) (suc k) e = ap (λ (xs : List (Thing Local)). thing_of w x ∷ xs) (unchanged_at w ts k e)

killed_met : (w : World) (j : ℕ) (o : Option HeldThing) (s : Room) → IsSound s → slice_get s.heap.things j ≡ o → Met w itself s (killed j o s) (machine.kill j (vat w s))
unfolding killed give machine.kill vat_of
killed_met w j None s sound e = record {
  grown = grown_same s.heap;
  stays = refl;
  keeps = (sound, tt);
  is = λ f. ap (λ (ts : List (Thing Local)). machine.Gives tt (record (vat w s) { things = ts })) (unchanged_at w s.heap.things j e);
}
killed_met w j (Some t) s sound e = record {
  grown = things_grown s sound (slice_set s.heap.things j (record t { alive = false }));
  stays = refl;
  keeps = (killed_sound s sound j t e, tt);
  is = λ f. ap (λ (ts : List (Thing Local)). machine.Gives tt (record (vat w s) { things = ts })) (changed_at w s.heap.things j t e);
}

kill_met : (w : World) (j : ℕ) (s : Room) → IsSound s → Met w itself s (kill j s) (machine.kill j (vat w s))
unfolding kill
kill_met w j s sound = killed_met w j (slice_get s.heap.things j) s sound refl

pub leave_met : {A B : Type 0} (w : World) (look : Look A B) (tree : List Node) (j : ℕ) (m : Act A) (d : machine.Act Local B) (s : Room) → IsSound s
    → ((t : Room) → IsSound t → Grown s.heap t.heap → Met w look t (m t) (d (vat w t)))
    → Met w look s (leave j m s) (calls.leave (names w) tree j d (vat w s))
unfolding leave calls.leave ◌>>◌ machine.◌>>◌
leave_met w look tree j m d s sound k = then_met _ _ (kill_met w j s sound) (λ u t q i g. k t q g)

-- ---- calling one

chosen : (w : World) (a b : Bool) (v : Held) (n : Option (Value Local)) → a ≡ b → n ≡ None → elim a [ true ↦ Some (value_of w v) | false ↦ n ] ≡ option_map (value_of w) (if b then Some v else None)
chosen w true true v n e f = refl
chosen w false false v n e f = f
chosen w true false v n e f = absurd (cc)
chosen w false true v n e f = absurd (cc)

none_named : (verb : Words) → entry {A = Option (Value Local)} [] None verb ≡ None
unfolding entry
none_named verb = refl

one_named : (w : World) (verb : Words) (v : Held) → entry ((codes "run", Some (value_of w v)) ∷ []) None verb ≡ option_map (value_of w) (if bytes_eq verb (codes "run") then Some v else None)
one_named w verb v =
    entry_is (codes "run") (Some (value_of w v)) [] None verb
    ∙ chosen w (same_words (codes "run") verb) (bytes_eq verb (codes "run")) v (entry {A = Option (Value Local)} [] None verb) (same_turned (codes "run") verb) (none_named verb)

pub asked_is : (w : World) (verb : Words) (args : List Held) → scopes.ejector_ask verb (values_of w args) ≡ option_map (value_of w) (ejected verb args)
unfolding scopes.ejector_ask ejected
asked_is w verb [] = one_named w verb held.Null
asked_is w verb (v ∷ []) = one_named w verb v
asked_is w verb (v ∷ u ∷ vs) = refl

-- the value with which a call leaves stands there
abbrev pub AskedThere : Room → Option Held → Type 0
AskedThere s (Some v) = is_there s.heap v ≡ true
AskedThere s None = Unit {0}

one_there : (s : Room) (b : Bool) (v : Held) → is_there s.heap v ≡ true → AskedThere s (if b then Some v else None)
one_there s true v i = i
one_there s false v i = tt

pub asked_there : (s : Room) (verb : Words) (args : List Held) → are_there s.heap args ≡ true → AskedThere s (ejected verb args)
unfolding ejected
asked_there s verb [] i = one_there s (bytes_eq verb (codes "run")) held.Null refl
asked_there s verb (v ∷ []) i = one_there s (bytes_eq verb (codes "run")) v (both (is_there s.heap v) true i).0
asked_there s verb (v ∷ u ∷ vs) i = tt

pub answer_met : (w : World) (tree : List Node) (i : ℕ) (live : Bool) (o : Option Held) (s : Room) → IsSound s → AskedThere s o
    → Met w a_value s (answer (ejector_answer i live o) s) (calls.ejector_answer (names w) tree i live (option_map (value_of w) o) (vat w s))
unfolding ejector_answer calls.ejector_answer answer
answer_met w tree i live None s sound a = unfold fails fail in fails_met w a_value NoMethod s sound
answer_met w tree i true (Some v) s sound a = unfold fail in eject_met w a_value i v s sound a
answer_met w tree i false (Some v) s sound a = unfold fails fail in fails_met w a_value DeadEjector s sound

pub call_ejector_met : (w : World) (tree : List Node) (their : scopes.Evaluator Local) (again : scopes.Caller Local) (act : ℕ) (x : Held) (i : ℕ) (live : Bool) (verb : Words) (args : List Held) (s : Room) → IsSound s → are_there s.heap args ≡ true
    → Met w a_value s (call_ejector act x i live verb args s) (calls.call_thing (names w) tree their again act (value_of w x) i (Some (Ejector live)) verb (values_of w args) (vat w s))
unfolding call_ejector closed calls.call_thing calls.thing_answer scopes.with_lines scopes.ended machine.ending ◌>>◌ machine.◌>>◌
call_ejector_met w tree their again act x i live verb args s sound a =
    then_met _ _ (tell_met w (event.Call act x verb args None) (Called act (value_of w x) verb (values_of w args) None) s sound (called_line w act x verb args None))
    (λ u t q j g. closed_met w act t (answer (ejector_answer i live (ejected verb args)) t) (calls.ejector_answer (names w) tree i live (scopes.ejector_ask verb (values_of w args)) (vat w t)) (vat w t)
    (rw (asked_is w verb args) (answer_met w tree i live (ejected verb args) t q (asked_there t verb args (all_on g args a)))))
