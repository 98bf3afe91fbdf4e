-- What nouns stand for, and var slots: what the code does is what the machine does.
use Rattle.std.proofs.Common.{◌≡◌, ℕ, zero, suc, Bool, true, false, List, [], ◌∷◌, ◌++◌, Option, Some, None, Ok, Err, map, refl, ap}
use Rattle.std.specs.Prelude.{slice_get, slice_set, codes, if◌then◌else◌, option_map}
use Rattle.std.specs.List.{position}
use Rattle.std.specs.Str.{bytes_eq}
use Rattle.std.proofs.lemmas.List.{map-append, length-map}
use Rattle.std.proofs.lemmas.Option.{slice_get-map}
use Rattle.ev_base.specs.SafeScope.{primitives, safe_value}
use Rattle.ev_base.specs.declared.values.Value.{Value as Held}
use Rattle.ev_base.specs.declared.values.Value.TheVariants as held
use Rattle.ev_heap.specs.Contents.{Contents}
use Rattle.ev_heap.specs.declared.happened.Happened.TheVariants as event
use Rattle.ev_heap.specs.declared.kept.Cell.{Cell}
use Rattle.ev_heap.specs.declared.kept.GuardKind.{GuardKind}
use Rattle.ev_audit.specs.Views.{guard_of}
use Rattle.def_machine.specs.Values.{Words, Value, Null, Flag, Prim, Local}
use Rattle.def_machine.specs.State.{Bound, Fixed, Slot, Cell as TheirCell, Binding as Bond, SlotMade, SlotRead, SlotWrote, Vat, Done, Astray, for_some, opened_state}
use Rattle.def_machine.specs.State as machine
use Rattle.def_machine.specs.Scopes.{bound_in}
use Rattle.def_machine.specs.Scopes as scopes
use Rattle.def_machine.specs.Native as native
use Rattle.ev_room.specs.declared.exit.Exit.TheVariants as exit
use Rattle.ev_pass.specs.declared.interior.Interior.{Interior as Room}
use Rattle.ev_room.specs.declared.scope.Binding.{Binding}
use Rattle.ev_room.specs.declared.scope.Bound.{Bound as Kept}
use Rattle.ev_room.specs.declared.scope.Bound.TheVariants as scope
use Rattle.ev_room.specs.declared.scope.Scope.{Scope}
use Rattle.ev_room.specs.Reading.{World, value_of, cell_of, line_of, vat_of}
use Rattle.ev_room.specs.Sound.{Grown, Stays, IsSound, IsPlainCell, is_there, is_bound, are_bound}
use Rattle.ev_room.specs.Acts.{Out, ◌>>◌, give, answer, new_slot, write_told, slot_read, slot_found, read_slot, slot_written, write_slot, found_from, safe_found, read_held, read_bound, opened_acts}
use Rattle.law_evaluation.proofs.Acts.Sounds.{grown_same, grown_on, there_on, all_and, slots_grown, slot_sound, written_sound}
use Rattle.law_evaluation.proofs.Acts.Stands.{Met, Look, vat, a_value, itself, bound_of, bond_of, bonds_onto, scope_of, stays_on, then_met, give_met, stop_met, tell_met}
use Rattle.ev_room.proofs.There.{both}
use Rattle.law_evaluation.proofs.Acts.Words.{same_is, safe_is, chosen, others, no_others, some_others}

-- ---- bindings

abbrev pub found_of : World → Option Kept → Option (Bound Local)
found_of w (Some b) = Some (bound_of w b)
found_of w None = None

one_bond : (w : World) (b : Bool) (v : Kept) (found : Option Kept) (o : Option (Bound Local)) → o ≡ found_of w found
    → elim b [ true ↦ Some (bound_of w v) | false ↦ o ] ≡ found_of w (if b then Some v else found)
one_bond w true v found o h = refl
one_bond w false v found o h = h

first_bond : (w : World) (b : Binding) (acc : List (Bond Local)) (found : Option Kept) (x : Words) → bound_in acc x ≡ found_of w found
    → bound_in (bond_of w b ∷ acc) x ≡ found_of w (if bytes_eq b.noun x then Some b.bound else found)
unfolding bound_in
first_bond w b acc found x h = rw (same_is b.noun x, bound_in) (one_bond w (bytes_eq b.noun x) b.bound found (bound_in acc x) h)

pub found_is : (w : World) (bs : List Binding) (acc : List (Bond Local)) (found : Option Kept) (x : Words) → bound_in acc x ≡ found_of w found
    → bound_in (bonds_onto w acc bs) x ≡ found_of w (found_from found bs x)
unfolding bonds_onto found_from
found_is w [] acc found x h = h
found_is w (b ∷ bs) acc found x h = found_is w bs (bond_of w b ∷ acc) (if bytes_eq b.noun x then Some b.bound else found) x (first_bond w b acc found x h)

pub none_bound : (w : World) (x : Words) → bound_in [] x ≡ found_of w None
unfolding bound_in
none_bound w x = refl

pub onto_more : (w : World) (acc : List (Bond Local)) (bs : List Binding) (b : Binding) → bonds_onto w acc (bs ++ b ∷ []) ≡ bond_of w b ∷ bonds_onto w acc bs
unfolding bonds_onto
onto_more w acc [] b = refl
onto_more w acc (c ∷ bs) b = onto_more w (bond_of w c ∷ acc) bs b

-- what is found stands there
abbrev pub FoundThere : Contents → Option Kept → Type 0
FoundThere h (Some b) = is_bound h b ≡ true
FoundThere h None = Unit {0}

found_one : (h : Contents) (b : Bool) (v : Kept) (o : Option Kept) → is_bound h v ≡ true → FoundThere h o → FoundThere h (if b then Some v else o)
found_one h true v o i k = i
found_one h false v o i k = k

pub found_there : (h : Contents) (bs : List Binding) (o : Option Kept) (x : Words) → are_bound h bs ≡ true → FoundThere h o → FoundThere h (found_from o bs x)
unfolding found_from
found_there h [] o x i k = k
found_there h (b ∷ bs) o x i k =
    let s = both (is_bound h b.bound) (are_bound h bs) i in
    found_there h bs (if bytes_eq b.noun x then Some b.bound else o) x s.1 (found_one h (bytes_eq b.noun x) b.bound o s.0 k)

pub bound_more : (h : Contents) (bs : List Binding) (b : Binding) → are_bound h bs ≡ true → is_bound h b.bound ≡ true → are_bound h (bs ++ b ∷ []) ≡ true
bound_more h [] b i k = all_and (is_bound h b.bound) true k refl
bound_more h (c ∷ bs) b i k =
    let s = both (is_bound h c.bound) (are_bound h bs) i in
    all_and (is_bound h c.bound) (are_bound h (bs ++ b ∷ [])) s.0 (bound_more h bs b s.1 k)

-- ---- the safe scope

gives_there : (w : World) (v : Held) (s : Room) → IsSound s → is_there s.heap v ≡ true → Met w a_value s (answer (Ok v) s) (machine.give (value_of w v) (vat w s))
unfolding opened_acts opened_state
gives_there w v s sound i = record { grown = grown_same s.heap; stays = refl; keeps = (sound, i); is = λ f. refl }

goes_astray : (w : World) (s : Room) → Met w a_value s (answer (Err exit.Astray) s) (machine.stop Astray (vat w s))
unfolding opened_acts opened_state
goes_astray w s = record { grown = grown_same s.heap; stays = refl; keeps = tt; is = λ f. refl }

safe_cases : (w : World) (a b c : Bool) (o : Option ℕ) (m : Option (Value Local)) (s : Room) → IsSound s
    → (o ≡ None → m ≡ None) → ((n : ℕ) → o ≡ Some n → m ≡ Some (Prim n))
    → Met w a_value s (answer (safe_found (if a then Some held.Null else if b then Some (held.Bool true) else if c then Some (held.Bool false) else option_map held.Prim o)) s)
    (for_some (chosen a b c (Some Null) (Some (Flag true)) (Some (Flag false)) m) machine.give (machine.stop Astray) (vat w s))
unfolding safe_found for_some chosen
safe_cases w true b c o m s sound h k = gives_there w held.Null s sound refl
safe_cases w false true c o m s sound h k = gives_there w (held.Bool true) s sound refl
safe_cases w false false true o m s sound h k = gives_there w (held.Bool false) s sound refl
safe_cases w false false false (Some n) m s sound h k = rw (k n refl) (gives_there w (held.Prim n) s sound refl)
safe_cases w false false false None m s sound h k = rw (h refl) (goes_astray w s)

safe_met : (w : World) (x : Words) (s : Room) → IsSound s
    → Met w a_value s (answer (safe_found (safe_value x)) s) (for_some (native.safe_value x) machine.give (machine.stop Astray) (vat w s))
safe_met w x s sound =
    rw (safe_is x) (safe_cases w (bytes_eq x (codes "null")) (bytes_eq x (codes "true")) (bytes_eq x (codes "false")) (position (bytes_eq x) primitives) (others x) s sound (no_others x) (some_others x))

-- ---- var slots

read_line : (w : World) (act k : ℕ) (v : Held) → line_of w (event.Read act k v) ≡ SlotRead act k (value_of w v) ∷ []
unfolding line_of
read_line w act k v = refl

wrote_line : (w : World) (act k : ℕ) (v : Held) → line_of w (event.Wrote act k v) ≡ SlotWrote act k (value_of w v) ∷ []
unfolding line_of
wrote_line w act k v = refl

pub made_line : (w : World) (act k : ℕ) (v : Held) → line_of w (event.Slot act k v) ≡ SlotMade act k (value_of w v) ∷ []
unfolding line_of
made_line w act k v = refl

cell_met : (w : World) (act k : ℕ) (c : Cell) (s : Room) → IsSound s → is_there s.heap c.value ≡ true
    → Met w a_value s (slot_read act k c.value s) (scopes.read_cell act k (Some (cell_of w c)) (vat w s))
unfolding slot_read scopes.read_cell ◌>>◌ machine.◌>>◌
cell_met w act k c s sound i = then_met _ _ (tell_met w (event.Read act k c.value) (SlotRead act k (value_of w c.value)) s sound (read_line w act k c.value)) (λ u t q j g. give_met w a_value c.value t q (there_on g c.value i))

cell_found_met : (w : World) (act k : ℕ) (o : Option Cell) (s : Room) → IsSound s → ((c : Cell) → o ≡ Some c → IsPlainCell s.heap c)
    → Met w a_value s (slot_found act k o s) (scopes.read_cell act k (option_map (cell_of w) o) (vat w s))
unfolding slot_found scopes.read_cell
cell_found_met w act k None s sound h = stop_met w a_value s
cell_found_met w act k (Some c) s sound h = cell_met w act k c s sound (h c refl)

slots_are : (w : World) (s : Room) → (vat w s).slots ≡ map (cell_of w) s.heap.slots
unfolding vat_of
slots_are w s = refl

pub cells_at : (w : World) (s : Room) (k : ℕ) → slice_get (vat w s).slots k ≡ option_map (cell_of w) (slice_get s.heap.slots k)
cells_at w s k = rw (slots_are w s) (slice_get-map (cell_of w) s.heap.slots k)

slot_is : (w : World) (act k : ℕ) (x : Words) (v : Vat Local) → scopes.read_bound act (Some (Slot k)) x v ≡ scopes.read_cell act k (slice_get v.slots k) v
unfolding scopes.read_bound opened_state
slot_is w act k x v = refl

slot_met : (w : World) (act k : ℕ) (x : Words) (s : Room) → IsSound s → Met w a_value s (read_slot act k s) (scopes.read_bound act (Some (Slot k)) x (vat w s))
unfolding read_slot
slot_met w act k x s sound = rw (slot_is w act k x (vat w s), cells_at w s k) (cell_found_met w act k (slice_get s.heap.slots k) s sound (sound.slots k))

-- ---- reading and writing what nouns stand for

fixed_met : (w : World) (act : ℕ) (v : Held) (g : GuardKind) (x : Words) (s : Room) → IsSound s → is_there s.heap v ≡ true
    → Met w a_value s (give v s) (scopes.read_bound act (Some (Fixed (value_of w v) (guard_of g))) x (vat w s))
unfolding scopes.read_bound
fixed_met w act v g x s sound i = give_met w a_value v s sound i

unbound_met : (w : World) (act : ℕ) (x : Words) (s : Room) → IsSound s
    → Met w a_value s (answer (safe_found (safe_value x)) s) (scopes.read_bound act None x (vat w s))
unfolding scopes.read_bound
unbound_met w act x s sound = safe_met w x s sound

read_met : (w : World) (act : ℕ) (f : Option Kept) (x : Words) (s : Room) → IsSound s → FoundThere s.heap f
    → Met w a_value s (read_bound act f x s) (scopes.read_bound act (found_of w f) x (vat w s))
unfolding read_bound read_held
read_met w act (Some (scope.Fixed v g)) x s sound i = fixed_met w act v g x s sound i
read_met w act (Some (scope.Slot k)) x s sound i = slot_met w act k x s sound
read_met w act None x s sound i = unbound_met w act x s sound

pub noun_met : (w : World) (x : Words) (here : Scope) (s : Room) → IsSound s → are_bound s.heap here.nouns ≡ true
    → Met w a_value s (read_bound here.act (found_from None here.nouns x) x s) (scopes.read_bound here.act (bound_in (scope_of w here).nouns x) x (vat w s))
noun_met w x here s sound i =
    rw (found_is w here.nouns [] None x (none_bound w x))
    (read_met w here.act (found_from None here.nouns x) x s sound (found_there s.heap here.nouns None x i tt))

changed_is : (w : World) (cs : List Cell) (k : ℕ) (c : Cell) (v : Held) → slice_get cs k ≡ Some c
    → machine.change (machine.holding (value_of w v)) k (map (cell_of w) cs) ≡ map (cell_of w) (slice_set cs k (record c { value = v }))
unfolding opened_state
changed_is w [] k c v e = absurd (cc)
changed_is w (d ∷ cs) zero c v e =
    let is : d ≡ c = cc in
    rw is refl
changed_is w (d ∷ cs) (suc k) c v e = ap (λ (xs : List (TheirCell Local)). cell_of w d ∷ xs) (changed_is w cs k c v e)

changed_none : (w : World) (cs : List Cell) (k : ℕ) (v : Held) → slice_get cs k ≡ None → machine.change (machine.holding (value_of w v)) k (map (cell_of w) cs) ≡ map (cell_of w) cs
unfolding opened_state
changed_none w [] k v e = refl
changed_none w (d ∷ cs) zero v e = absurd (cc)
changed_none w (d ∷ cs) (suc k) v e = ap (λ (xs : List (TheirCell Local)). cell_of w d ∷ xs) (changed_none w cs k v e)

-- the room with a slot written
abbrev written : Room → ℕ → Cell → Held → Room
written s k c v = record s { heap = record s.heap { slots = slice_set s.heap.slots k (record c { value = v }) } }

written_met : (w : World) (s : Room) (k : ℕ) (c : Cell) (v : Held) → slice_get s.heap.slots k ≡ Some c
    → machine.write_slot k (value_of w v) (vat w s) ≡ machine.Gives tt (vat w (written s k c v))
unfolding machine.write_slot vat_of
written_met w s k c v e = ap (λ (cs : List (TheirCell Local)). machine.Gives tt (record (vat w s) { slots = cs })) (changed_is w s.heap.slots k c v e)

not_written : (w : World) (s : Room) (k : ℕ) (v : Held) → slice_get s.heap.slots k ≡ None → machine.write_slot k (value_of w v) (vat w s) ≡ machine.Gives tt (vat w s)
unfolding machine.write_slot vat_of
not_written w s k v e = ap (λ (cs : List (TheirCell Local)). machine.Gives tt (record (vat w s) { slots = cs })) (changed_none w s.heap.slots k v e)

wrote_met : (w : World) (act k : ℕ) (v : Held) (s : Room) → IsSound s → is_there s.heap v ≡ true
    → Met w a_value s (write_told act k v s) (machine.and_then (machine.tell (SlotWrote act k (value_of w v)) (vat w s)) (λ u. machine.give (value_of w v)))
unfolding write_told ◌>>◌
wrote_met w act k v s sound i = then_met _ _ (tell_met w (event.Wrote act k v) (SlotWrote act k (value_of w v)) s sound (wrote_line w act k v)) (λ u t q j g. give_met w a_value v t q (there_on g v i))

gives_on : {A B : Type 0} (a : A) (v : Vat Local) (f : A → machine.Act Local B) → machine.and_then (machine.Gives a v) f ≡ f a v
unfolding opened_state
gives_on a v f = refl

-- from a room on that has grown
later : {A B : Type 0} (w : World) (look : Look A B) (s t : Room) (o : Out A) (d : Done Local B) → Grown s.heap t.heap → Stays s t → Met w look t o d → Met w look s o d
later w look s t o d g e m = record { grown = grown_on g m.grown; stays = stays_on s t o.1 e m.stays; keeps = m.keeps; is = m.is }

-- what the machine does that writes a slot, and tells it
abbrev pub writing : ℕ → ℕ → Value Local → machine.Act Local (Value Local)
writing act k v = λ y. machine.and_then (machine.write_slot k v y) (λ u t. machine.and_then (machine.tell (SlotWrote act k v) t) (λ u. machine.give v))

write_found_met : (w : World) (act k : ℕ) (v : Held) (o : Option Cell) (s : Room) → IsSound s → is_there s.heap v ≡ true → slice_get s.heap.slots k ≡ o
    → Met w a_value s (slot_written act k v o s) (writing act k (value_of w v) (vat w s))
unfolding slot_written
write_found_met w act k v None s sound i e =
    rw (
      not_written w s k v e,
      gives_on (tt {0}) (vat w s) (λ u t. machine.and_then (machine.tell (SlotWrote act k (value_of w v)) t) (λ u. machine.give (value_of w v))),
    ) (wrote_met w act k v s sound i)
write_found_met w act k v (Some c) s sound i e =
    rw (
      written_met w s k c v e,
      gives_on (tt {0}) (vat w (written s k c v)) (λ u t. machine.and_then (machine.tell (SlotWrote act k (value_of w v)) t) (λ u. machine.give (value_of w v))),
    ) (later w a_value s (written s k c v) (write_told act k v (written s k c v)) _ (slots_grown s sound (slice_set s.heap.slots k (record c { value = v }))) refl
    (wrote_met w act k v (written s k c v) (written_sound s sound k (record c { value = v }) i) (there_on (slots_grown s sound (slice_set s.heap.slots k (record c { value = v }))) v i)))

pub write_slot_met : (w : World) (act k : ℕ) (v : Held) (s : Room) → IsSound s → is_there s.heap v ≡ true
    → Met w a_value s (write_slot act k v s) (writing act k (value_of w v) (vat w s))
unfolding write_slot
write_slot_met w act k v s sound i = write_found_met w act k v (slice_get s.heap.slots k) s sound i refl

-- a slot that is made
pub new_slot_met : (w : World) (k : GuardKind) (v : Held) (s : Room) → IsSound s → is_there s.heap v ≡ true → Met w itself s (new_slot k v s) (machine.new_slot (guard_of k) (value_of w v) (vat w s))
unfolding opened_acts opened_state vat_of
new_slot_met w k v s sound i =
    let c : Cell = record { guard = k; value = v } in
    record {
      grown = slots_grown s sound (s.heap.slots ++ c ∷ []);
      stays = refl;
      keeps = (slot_sound s sound c i, tt);
      is = λ f. rw (length-map s.heap.slots (cell_of w), map-append (cell_of w) s.heap.slots (c ∷ [])) refl;
    }
