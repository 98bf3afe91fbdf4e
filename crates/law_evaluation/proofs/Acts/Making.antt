-- Objects over the state of the code stand for the machine's: making them, and which method answers.
use Rattle.std.proofs.Common.{◌≡◌, ℕ, Bool, true, false, List, [], ◌∷◌, ◌++◌, Option, Some, None, Ok, length, map, refl, sym, ap, ◌∙◌, append_assoc, append-nil}
use Rattle.std.specs.Prelude.{reverse, ◌&&◌, ◌==◌, slice_get, if◌then◌else◌, option_map}
use Rattle.std.specs.Str.{bytes_eq}
use Rattle.std.proofs.lemmas.List.{map-append, length-map}
use Rattle.std.proofs.lemmas.Option.{slice_get-map}
use Rattle.ev_base.specs.declared.values.Value.{Value as Held}
use Rattle.ev_base.specs.declared.values.Value.TheVariants as held
use Rattle.ev_heap.specs.Contents.{Contents}
use Rattle.ev_heap.specs.declared.happened.Happened.TheVariants as event
use Rattle.def_kernel.specs.declared.node.Node.{Node}
use Rattle.def_kernel.specs.declared.node.Node.TheVariants.{Object as ObjectNode, Method, Final}
use Rattle.def_machine.specs.Values.{Words, Value, Ref, Local, Obj}
use Rattle.def_machine.specs.State.{Bound, Binding as Bond, FreeName, Scope as Surroundings, ObjectMade, Made, Vat}
use Rattle.def_machine.specs.State as machine
use Rattle.def_machine.specs.Free.{free_nouns}
use Rattle.ev_kernel_printer.specs.FreeNames.{free_names, counted}
use mathlib.Core.List.{reverse_aux}
use Rattle.def_machine.specs.Scopes.{any_guard, bound_in}
use Rattle.def_machine.specs.Scopes as scopes
use Rattle.def_machine.specs.Calls as calls
use Rattle.ev_heap.specs.declared.kept.Shape.TheVariants.{Made as Plain}
use Rattle.ev_room.specs.declared.object.Code.TheVariants.{Runs}
use Rattle.ev_pass.specs.declared.interior.Interior.{Interior as Room}
use Rattle.ev_room.specs.declared.scope.Binding.{Binding}
use Rattle.ev_room.specs.declared.scope.Bound.{Bound as Kept}
use Rattle.ev_room.specs.declared.scope.Bound.TheVariants as scope
use Rattle.ev_room.specs.declared.scope.Scope.{Scope}
use Rattle.ev_room.specs.Reading.{World, names, text_of, values_of, thing_of, shape_in, caught_in, capture_in, line_of, vat_of}
use Rattle.ev_audit.specs.Views.{capture_by}
use Rattle.ev_audit.specs.Views.{view_of as seen_of}
use Rattle.ev_audit.proofs.Told as told
use Rattle.ev_room.specs.Sound.{IsSound, are_there, is_bound, are_bound, no_guard, object_thing, capture_of, caught_of}
use Rattle.ev_room.specs.Held.{bound_back, binding_back}
use Rattle.ev_room.specs.Acts.{◌>>=◌, ◌>>◌, found_from, with_bound, captures, new_object, named, object_made, object_in, object_as, object_at, view_at, suits, first_method, code_of}
use Rattle.law_evaluation.proofs.Acts.Bindings.{FoundThere, found_of, found_is, found_there, none_bound, onto_more, bound_more}
use Rattle.law_evaluation.proofs.Acts.Sounds.{scope_on, all_and, thing_grown, thing_sound}
use Rattle.law_evaluation.proofs.Acts.Stands.{Met, vat, an_answer, itself, bound_of, bond_of, bonds_onto, scope_of, then_met, give_met, tell_met}
use Rattle.ev_room.proofs.There.{both}
use Rattle.law_evaluation.proofs.Acts.Words.{same_is}

-- ---- what an object holds

capture_is : (w : World) (b : Kept) → capture_in w (capture_of b) ≡ bound_of w b
capture_is w (scope.Fixed v g) = refl
capture_is w (scope.Slot k) = refl

caught_is : (w : World) (bs : List Binding) → map (caught_in w) (map caught_of bs) ≡ map (bond_of w) bs
caught_is w [] = refl
caught_is w (b ∷ bs) = rw (capture_is w b.bound, caught_is w bs) refl

bounds_are : (w : World) (bs : List Binding) → map (capture_in w) (map (λ b. capture_of b.bound) bs) ≡ map (λ b. b.bound) (map (bond_of w) bs)
bounds_are w [] = refl
bounds_are w (b ∷ bs) = rw (capture_is w b.bound, bounds_are w bs) refl

bonds_turned : (w : World) (acc : List (Bond Local)) (xs ys : List Binding) → bonds_onto w acc (reverse_aux xs ys) ≡ bonds_onto w (map (bond_of w) xs ++ acc) ys
unfolding bonds_onto
bonds_turned w acc [] ys = refl
bonds_turned w acc (x ∷ xs) ys = bonds_turned w acc xs (x ∷ ys)

pub turned_is : (w : World) (bs : List Binding) → bonds_onto w [] (reverse bs) ≡ map (bond_of w) bs
unfolding bonds_onto
turned_is w bs = bonds_turned w [] bs [] ∙ append-nil (map (bond_of w) bs)

bound_back_is : (b : Kept) → bound_back (capture_of b) ≡ b
bound_back_is (scope.Fixed v g) = refl
bound_back_is (scope.Slot k) = refl

bindings_back : (bs : List Binding) → map binding_back (map caught_of bs) ≡ bs
bindings_back [] = refl
bindings_back (b ∷ bs) =
    ap (λ (x : Kept). record { noun = b.noun; bound = x } ∷ map binding_back (map caught_of bs)) (bound_back_is b.bound)
    ∙ ap (λ (cs : List Binding). b ∷ cs) (bindings_back bs)

pub code_is : (node : ℕ) (bs : List Binding) (stamps : List Held) (live : Bool) → code_of (Plain node (map caught_of bs) stamps) live ≡ Ok (Runs (record { node = node; nouns = bs }))
unfolding code_of
code_is node bs stamps live = ap (λ (cs : List Binding). Ok (Runs (record { node = node; nouns = cs }))) (bindings_back bs)

-- the same from the last on
turned_there : (h : Contents) (xs ys : List Binding) → are_bound h xs ≡ true → are_bound h ys ≡ true → are_bound h (reverse_aux xs ys) ≡ true
turned_there h [] ys i k = k
turned_there h (x ∷ xs) ys i k =
    let s = both (is_bound h x.bound) (are_bound h xs) i in
    turned_there h xs (x ∷ ys) s.1 (all_and (is_bound h x.bound) (are_bound h ys) s.0 k)

pub reverse_there : (h : Contents) (bs : List Binding) → are_bound h bs ≡ true → are_bound h (reverse bs) ≡ true
reverse_there h bs i = turned_there h bs [] i refl

-- what is caught stands there
with_there : (h : Contents) (so_far : List Binding) (x : Words) (o : Option Kept) → are_bound h so_far ≡ true → FoundThere h o → are_bound h (with_bound so_far x o) ≡ true
unfolding with_bound
with_there h so_far x (Some b) i k = bound_more h so_far (record { noun = x; bound = b }) i k
with_there h so_far x None i k = i

captures_there : (h : Contents) (nouns so_far : List Binding) (xs : List Words) → are_bound h nouns ≡ true → are_bound h so_far ≡ true → are_bound h (captures so_far nouns xs) ≡ true
unfolding captures
captures_there h nouns so_far [] i k = k
captures_there h nouns so_far (x ∷ xs) i k =
    captures_there h nouns (with_bound so_far x (found_from None nouns x)) xs i (with_there h so_far x (found_from None nouns x) k (found_there h nouns None x i tt))

-- ---- making objects

one_capture : (w : World) (o : Option Kept) (so_far : List Binding) (x : Words) (more : List (Bond Local))
    → map (bond_of w) (with_bound so_far x o) ++ more
    ≡ map (bond_of w) so_far ++ elim (found_of w o) [ Some b ↦ record { noun = x; bound = b } ∷ more | None ↦ more ]
unfolding with_bound
one_capture w (Some b) so_far x more = rw (map-append (bond_of w) so_far (record { noun = x; bound = b } ∷ [])) (append_assoc (map (bond_of w) so_far) (bond_of w (record { noun = x; bound = b }) ∷ []) more)
one_capture w None so_far x more = refl

captures_more : (sc : Surroundings Local) (x : Words) (xs : List Words)
    → scopes.captures sc (x ∷ xs) ≡ elim (bound_in sc.nouns x) [ Some b ↦ record { noun = x; bound = b } ∷ scopes.captures sc xs | None ↦ scopes.captures sc xs ]
unfolding scopes.captures
captures_more sc x xs = refl

captures_end : (sc : Surroundings Local) (bs : List (Bond Local)) → bs ++ scopes.captures sc [] ≡ bs
unfolding scopes.captures
captures_end sc bs = append-nil bs

captures_are : (w : World) (here : Scope) (so_far : List Binding) (xs : List Words)
    → map (bond_of w) (captures so_far here.nouns xs) ≡ map (bond_of w) so_far ++ scopes.captures (scope_of w here) xs
unfolding captures
captures_are w here so_far [] = sym (captures_end (scope_of w here) (map (bond_of w) so_far))
captures_are w here so_far (x ∷ xs) =
    captures_are w here (with_bound so_far x (found_from None here.nouns x)) xs
    ∙ one_capture w (found_from None here.nouns x) so_far x (scopes.captures (scope_of w here) xs)
    ∙ ap (λ (o : Option (Bound Local)). map (bond_of w) so_far ++ elim o [ Some b ↦ record { noun = x; bound = b } ∷ scopes.captures (scope_of w here) xs | None ↦ scopes.captures (scope_of w here) xs ])
    (sym (found_is w here.nouns [] None x (none_bound w x)))
    ∙ ap (λ (bs : List (Bond Local)). map (bond_of w) so_far ++ bs) (sym (captures_more (scope_of w here) x xs))

named_met : (w : World) (p : Option Node) (me : ℕ) (here : Scope) → ((named p me here).act ≡ here.act) × (scope_of w (named p me here) ≡ scopes.named p (Ref (Obj me)) (scope_of w here))
unfolding named scopes.named scopes.with_noun any_guard
named_met w (Some (Final x g)) me here = (refl, ap (λ (ns : List (Bond Local)). record { act = here.act; nouns = ns }) (onto_more w [] here.nouns (record { noun = x; bound = scope.Fixed (held.Obj me) no_guard })))
named_met w other me here = (refl, refl)

named_there : (h : Contents) (p : Option Node) (me : ℕ) (here : Scope) → are_bound h here.nouns ≡ true → are_bound h (named p me here).nouns ≡ true
unfolding named
named_there h (Some (Final x g)) me here i = bound_more h here.nouns (record { noun = x; bound = scope.Fixed (held.Obj me) no_guard }) i refl
named_there h other me here i = i

pub things_are : (w : World) (s : Room) → (vat w s).things ≡ map (thing_of w) s.heap.things
unfolding vat_of
things_are w s = refl

pub thing_is : (w : World) (node : ℕ) (bs : List Binding) (stamps : List Held) (live : Bool) → shape_in w live (Plain node (map caught_of bs) stamps) ≡ Made node (map (bond_of w) bs) (values_of w stamps)
thing_is w node bs stamps live = ap (λ (cs : List (Bond Local)). Made node cs (values_of w stamps)) (caught_is w bs)

new_object_met : (w : World) (node : ℕ) (bs : List Binding) (stamps : List Held) (s : Room) → IsSound s → are_bound s.heap bs ≡ true → are_there s.heap stamps ≡ true
    → Met w itself s (new_object node bs stamps s) (machine.new_thing (Made node (map (bond_of w) bs) (values_of w stamps)) (vat w s))
unfolding new_object machine.new_thing vat_of
new_object_met w node bs stamps s sound i l = record {
  grown = thing_grown s sound (record { node = node; nouns = bs }) stamps;
  stays = refl;
  keeps = (thing_sound s sound (record { node = node; nouns = bs }) stamps i l, tt);
  is = λ f. rw (length-map s.heap.things (thing_of w), map-append (thing_of w) s.heap.things (object_thing (record { node = node; nouns = bs }) stamps ∷ []), caught_is w bs) refl;
}

object_line : (w : World) (act me : ℕ) (x : Words) (bs : List Binding) (stamps : List Held)
    → line_of w (event.Made act (held.Obj me) x (map (λ b. capture_of b.bound) bs) stamps) ≡ ObjectMade act (Obj me) x (map (λ b. b.bound) (map (bond_of w) bs)) (values_of w stamps) ∷ []
unfolding line_of
object_line w act me x bs stamps = ap (λ (vs : List (Bound Local)). ObjectMade act (Obj me) x vs (values_of w stamps) ∷ []) (bounds_are w bs)

made_met : (w : World) (tree : List Node) (node : ℕ) (x : Words) (bs : List Binding) (stamps : List Held) (me : ℕ) (here : Scope) (s : Room) → IsSound s → are_bound s.heap bs ≡ true → are_there s.heap stamps ≡ true → are_bound s.heap here.nouns ≡ true
    → Met w an_answer s (object_made node x bs stamps me here s) (calls.object_made (names w) tree node x here.act (Obj me) (scope_of w here) (values_of w stamps) (map (bond_of w) bs) (vat w s))
unfolding object_made calls.object_made scopes.answered ◌>>=◌ ◌>>◌ machine.◌>>=◌ machine.◌>>◌
made_met w tree node x bs stamps me here s sound i z k =
    then_met _ _ (new_object_met w node bs stamps s sound i z)
    (λ n t q j g. then_met _ _ (tell_met w (event.Made here.act (held.Obj me) x (map (λ b. capture_of b.bound) bs) stamps) (ObjectMade here.act (Obj me) x (map (λ b. b.bound) (map (bond_of w) bs)) (values_of w stamps)) t q (object_line w here.act me x bs stamps))
    (λ u r p l e. give_met w an_answer (held.Obj me, here) r p (refl, scope_on e here.nouns (scope_on g here.nouns k))))

in_met : (w : World) (tree : List Node) (node : ℕ) (x : Words) (free : List Words) (stamps : List Held) (me act : ℕ) (after : Scope) (sc : Surroundings Local) (s : Room) → IsSound s → are_bound s.heap after.nouns ≡ true → are_there s.heap stamps ≡ true
    → after.act ≡ act → scope_of w after ≡ sc
    → Met w an_answer s (object_in node x free stamps me after s) (calls.object_in (names w) tree node x free act (Obj me) (values_of w stamps) sc (vat w s))
unfolding object_in calls.object_in
in_met w tree node x free stamps me act after sc s sound i z a e =
    let caught : map (bond_of w) (captures [] after.nouns free) ≡ scopes.captures (scope_of w after) free = captures_are w after [] free in
    rw (← a, ← e, ← caught) (made_met w tree node x (captures [] after.nouns free) stamps me after s sound (captures_there s.heap after.nouns [] free i refl) z i)

object_is : (w : World) (tree : List Node) (node : ℕ) (p : Option Node) (free : List Words) (stamps : List (Value Local)) (me : ℕ) (sc : Surroundings Local) (v : Vat Local)
    → calls.object_as (names w) tree node p free stamps (Obj me) sc v
    ≡ calls.object_in (names w) tree node (scopes.name_of p) free sc.act (Obj me) stamps (scopes.named p (Ref (Obj me)) sc) v
unfolding calls.object_as
object_is w tree node p free stamps me sc v = refl

things_count : (w : World) (s : Room) → length (vat w s).things ≡ length s.heap.things
things_count w s = rw (things_are w s) (length-map s.heap.things (thing_of w))

free_is : (tree : List Node) (id p : ℕ) (auditors ms : List ℕ) → slice_get tree id ≡ Some (ObjectNode p auditors ms) → free_names tree id ≡ free_nouns tree ms
free_is tree id p auditors ms e = ap (λ (o : Option Node). free_nouns tree (counted id o)) e

-- an object of that expression, with these stamps
pub object_at_met : (w : World) (tree : List Node) (id p : ℕ) (auditors ms : List ℕ) (stamps : List Held) (here : Scope) (s : Room) → IsSound s → are_bound s.heap here.nouns ≡ true → are_there s.heap stamps ≡ true
    → slice_get tree id ≡ Some (ObjectNode p auditors ms)
    → Met w an_answer s (object_at tree id p stamps here s) (calls.object_as (names w) tree id (slice_get tree p) (free_nouns tree ms) (values_of w stamps) (Obj (length (vat w s).things)) (scope_of w here) (vat w s))
unfolding object_at object_as
object_at_met w tree id p auditors ms stamps here s sound i z e =
    let after = named_met w (slice_get tree p) (length s.heap.things) here in
    rw (
      things_count w s,
      object_is w tree id (slice_get tree p) (free_nouns tree ms) (values_of w stamps) (length s.heap.things) (scope_of w here) (vat w s),
      ← free_is tree id p auditors ms e,
    )
    (in_met w tree id (scopes.name_of (slice_get tree p)) (free_names tree id) stamps (length s.heap.things) here.act (named (slice_get tree p) (length s.heap.things) here) (scopes.named (slice_get tree p) (Ref (Obj (length s.heap.things))) (scope_of w here)) s sound
    (named_there s.heap (slice_get tree p) (length s.heap.things) here i) z after.0 after.1)

-- ---- what auditors may know

seen_bound : (w : World) (o : Option Kept) → found_of w o ≡ option_map (capture_by (text_of w)) (option_map capture_of o)
seen_bound w None = refl
seen_bound w (Some (scope.Fixed v g)) = refl
seen_bound w (Some (scope.Slot k)) = refl

-- the view of an object that is being made is the machine's
pub view_is : (w : World) (tree : List Node) (id p : ℕ) (auditors ms : List ℕ) (here : Scope) → slice_get tree id ≡ Some (ObjectNode p auditors ms)
    → seen_of (view_at tree id p here) ≡ calls.view_of (names w) tree id (slice_get tree p) (free_nouns tree ms) (scope_of w here)
unfolding view_at calls.view_of
view_is w tree id p auditors ms here e =
    rw (← free_is tree id p auditors ms e)
    (ap (λ (fs : List (FreeName Local)). record { node = id; free = fs })
    (told.free_is (text_of w) (scopes.own_noun (slice_get tree p)) (bonds_onto w [] here.nouns) (λ x. option_map capture_of (found_from None here.nouns x))
    (λ x. found_is w here.nouns [] None x (none_bound w x) ∙ seen_bound w (found_from None here.nouns x)) (free_names tree id)))

pub things_at : (w : World) (s : Room) (i : ℕ) → slice_get (vat w s).things i ≡ option_map (thing_of w) (slice_get s.heap.things i)
things_at w s i = rw (things_are w s) (slice_get-map (thing_of w) s.heap.things i)

-- ---- methods

unfoldable pub body_of : Option Node → Option scopes.Body
body_of (Some (Method v ps b)) = Some (record { patterns = ps; body = b })
body_of _ = None

picked : (a b : Bool) (v : Words) (ps : List ℕ) (body : ℕ) (f : Option Node) (r : Option scopes.Body) → r ≡ body_of f
    → elim (elim (a && b) as (λ x. Option scopes.Body) [ true ↦ Some (record { patterns = ps; body = body }) | false ↦ None ]) as (λ x. Option scopes.Body) [ Some c ↦ Some c | None ↦ r ]
    ≡ body_of (if (if a then b else false) then Some (Method v ps body) else f)
unfolding body_of
picked true true v ps body f r h = refl
picked true false v ps body f r h = h
picked false b v ps body f r h = h

one_method : (verb : Words) (n : ℕ) (o f : Option Node) (r : Option scopes.Body) → r ≡ body_of f
    → elim (scopes.suits verb n o) [ Some c ↦ Some c | None ↦ r ] ≡ body_of (if suits verb n o then o else f)
unfolding suits scopes.suits
one_method verb n (Some (Method v ps b)) f r h = rw (same_is v verb) (picked (bytes_eq v verb) (length ps == n) v ps b f r h)
one_method verb n other f r h = h

method_more : (tree : List Node) (m : ℕ) (ms : List ℕ) (verb : Words) (n : ℕ)
    → scopes.method_of tree (m ∷ ms) verb n ≡ elim (scopes.suits verb n (slice_get tree m)) [ Some c ↦ Some c | None ↦ scopes.method_of tree ms verb n ]
unfolding scopes.method_of
method_more tree m ms verb n = refl

pub method_is : (tree : List Node) (ms : List ℕ) (verb : Words) (n : ℕ) → scopes.method_of tree ms verb n ≡ body_of (first_method tree ms verb n)
unfolding first_method scopes.method_of body_of
method_is tree [] verb n = refl
method_is tree (m ∷ ms) verb n = method_more tree m ms verb n ∙ one_method verb n (slice_get tree m) (first_method tree ms verb n) (scopes.method_of tree ms verb n) (method_is tree ms verb n)
