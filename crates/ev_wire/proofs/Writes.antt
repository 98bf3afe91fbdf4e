-- What is written of all the notes of a step.
use Rattle.std.proofs.Common.{◌≡◌, inl, inr, ℕ, Bool, true, false, cond, List, [], ◌∷◌, map, get_or, Option, Some, None, is_some, refl, sym, ap, subst, ◌∙◌}
use Rattle.std.specs.Prelude.{IfSome, slice_set}
use Rattle.ev_base.specs.declared.values.Value.{Value}
use Rattle.ev_base.specs.declared.values.Value.TheVariants as held
use Rattle.def_op.specs.Frames.{Operation}
use Rattle.def_machine.specs.State as machine
use Rattle.def_machine.specs.Values.{Words, Local, Prom, Name}
use Rattle.def_run.specs.Connections as theirs
use Rattle.def_run.specs.Connections.{Connection, Sight, asked_in}
use Rattle.def_run.specs.Numbers as local
use Rattle.def_run.specs.Numbers.{frames_of, written_on}
use Rattle.def_run.specs.Vats.{answer_in as told_answer, sight_for, unconnected}
use Rattle.ev_pass.specs.Notes.{Parcel, Parcels, Plain, Gift, Many, NoMore, More, Noted, Deliver, Open, Ask, Settled, Elsewhere, Shorten, Sent}
use Rattle.ev_pass.specs.Reading.{note_by, put_by}
use Rattle.ev_pass.specs.declared.interior.Interior.{Interior}
use Rattle.ev_refs.specs.References.{References}
use Rattle.ev_tables.specs.Table.{Table, exported, fresh, name_of, place_of}
use Rattle.ev_tables.specs.Standing.{IsKept, connection_of, first_number, is_own, is_reference, local_of, promises}
use Rattle.ev_tables.specs.Numbering.{numbered}
use Rattle.ev_tables.proofs.Kept.{begins}
use Rattle.ev_wire.specs.Putting as code
use Rattle.ev_wire.specs.Putting.{Addressed, put_all, put_one, table_for}
use Rattle.ev_wire.specs.Writing.{asked_of, asking, is_mine, is_ours, numbered_note, numbered_parcel, numbered_parcels, numbered_value, put_on, value_of, written}
use Rattle.ev_wire.specs.WritingStatements.{HasTexts, HaveTexts, IsNewAnswer, NoteHasTexts, ValueHasTexts}
use Rattle.ev_wire.proofs.WritingMachine.{keeps, writes}
use Rattle.def_run.specs.Asking.{AreNew, AskAnew, IsNew}
use Rattle.ev_wire.specs.Standing.{AreFor, HasReferences, IsFor, connections_of}
use Rattle.ev_wire.specs.PeerStatements.{WritesAll, framed}
use Rattle.ev_wire.proofs.Lists.{at_set, got, map_got, map_set}
use Rattle.ev_wire.proofs.PeerSights.{own_is, sight_is}
use Rattle.ev_wire.proofs.Stays.{absent, promises_among, values_among}

-- ---- the texts of the heap itself

module _ (i : Interior) where
  value_texts : (v : Value) → ValueHasTexts i.heap.texts i.heap v
  value_texts (held.Text id) = refl
  value_texts (held.Broken id) = refl
  value_texts other = tt

  mutual
    parcel_texts : (p : Parcel) → HasTexts i.heap.texts i.heap p
    parcel_texts (Plain v) = value_texts v
    parcel_texts (Gift h g) = tt
    parcel_texts (Many ps) = parcels_texts ps

    parcels_texts : (ps : Parcels) → HaveTexts i.heap.texts i.heap ps
    parcels_texts NoMore = tt
    parcels_texts (More p ps) = (parcel_texts p, parcels_texts ps)

  note_texts : (n : Noted) → NoteHasTexts i.heap.texts i.heap n
  note_texts (Deliver m a x verb ps) = parcels_texts ps
  note_texts (Settled n p) = parcel_texts p
  note_texts other = tt

-- ---- what numbers change

-- a table but for what it exported, and the numbers by which things are found
abbrev Beside : Table → Table → Type 0
Beside t u = u ≡ record t { exports = u.exports; names = u.names }

beside_on : (t u w : Table) → Beside t u → Beside u w → Beside t w
beside_on t u w e f = f ∙ ap (λ (x : Table). record x { exports = w.exports; names = w.names }) e

if_beside : (b : Bool) (t u : Table) → Beside t u → Beside t (cond b t u)
if_beside true t u e = refl
if_beside false t u e = e

value_beside : (own : Bool) (v : Value) (t : Table) → Beside t (numbered own v t)
unfolding numbered
value_beside false v t = refl
value_beside true v t = if_beside (is_some (name_of v t.names)) t (exported v t) (if_beside (is_some (place_of v t.exports)) t _ refl)

module _ (r : References) where
  told_beside : (v : Value) (t : Table) → Beside t (numbered_value r v t)
  unfolding numbered_value
  told_beside v t = value_beside (is_ours r v) v t

  mutual
    unfolding numbered_parcel numbered_parcels

    parcel_beside : (p : Parcel) (t : Table) → Beside t (numbered_parcel r p t)
    parcel_beside (Plain v) t = told_beside v t
    parcel_beside (Gift h i) t = refl
    parcel_beside (Many ps) t = parcels_beside ps t

    parcels_beside : (ps : Parcels) (t : Table) → Beside t (numbered_parcels r ps t)
    parcels_beside NoMore t = refl
    parcels_beside (More p ps) t = beside_on t (numbered_parcel r p t) (numbered_parcels r ps (numbered_parcel r p t)) (parcel_beside p t) (parcels_beside ps (numbered_parcel r p t))

  note_beside : (n : Noted) (t : Table) → Beside t (numbered_note r n t)
  unfolding numbered_note
  note_beside (Deliver m a x verb ps) t = beside_on t (numbered_value r (value_of x) t) (numbered_parcels r ps (numbered_value r (value_of x) t)) (told_beside (value_of x) t) (parcels_beside ps (numbered_value r (value_of x) t))
  note_beside (Open i x) t = told_beside (value_of x) t
  note_beside (Ask p i n) t = refl
  note_beside (Settled n p) t = beside_on t (numbered_value r (held.Prom n) t) (numbered_parcel r p (numbered_value r (held.Prom n) t)) (told_beside (held.Prom n) t) (parcel_beside p (numbered_value r (held.Prom n) t))
  note_beside (Elsewhere n c) t = told_beside (held.Prom n) t
  note_beside (Shorten n c i) t = told_beside (held.Prom n) t

asked_peer : (o : Option ℕ) (t : Table) → ((asking o t).peer ≡ t.peer) × ((asking o t).is_closed ≡ t.is_closed)
unfolding asking
asked_peer None t = (refl, refl)
asked_peer (Some n) t = (refl, refl)

put_peer : (i : Interior) (n : Noted) (t : Table) → ((put_on i n t).peer ≡ t.peer) × ((put_on i n t).is_closed ≡ t.is_closed)
unfolding put_on
put_peer i n t =
    let u = numbered_note i.refs n t in
    let same = asked_peer (asked_of n) u in
    let beside = note_beside i.refs n t in
    (same.0 ∙ ap (λ (x : Table). x.peer) beside, same.1 ∙ ap (λ (x : Table). x.is_closed) beside)

-- ---- answers that are new

-- each reference is found by the number that came first, before the question
numbered_kept : (i : Interior) (n : Noted) (t : Table) → IsKept (is_mine i.refs) t → IsKept (is_mine i.refs) (numbered_note i.refs n t)
unfolding put_on asking asked_of numbered_note
numbered_kept i (Deliver m a x verb ps) t k = keeps i (Deliver m None x verb ps) t tt k
numbered_kept i (Open g x) t k = keeps i (Open g x) t tt k
numbered_kept i (Ask p g n) t k = k
numbered_kept i (Settled n p) t k = keeps i (Settled n p) t tt k
numbered_kept i (Elsewhere n c) t k = keeps i (Elsewhere n c) t tt k
numbered_kept i (Shorten n c g) t k = keeps i (Shorten n c g) t tt k

module _ (i : Interior) (s : machine.Vat Local) (h : HasReferences i.heap.texts i.refs s) where
  -- of another vat, and without a number
  unnamed : (a : ℕ) (t u : Table) → IsNew s (connection_of t) (Prom a) → Beside t u → IsKept (is_mine i.refs) u → IsNewAnswer i u a
  unfolding is_own is_reference first_number local_of
  unnamed a t u new beside k =
      let other : is_mine i.refs a ≡ false = sym (own_is i.heap.texts i.refs s h (Prom a)) ∙ new.other in
      let asked : place_of (held.Prom a) (promises u.asked) ≡ None = ap (λ (x : Table). place_of (held.Prom a) (promises x.asked)) beside ∙ absent _ (sym (promises_among (held.Prom a) t.asked refl) ∙ new.unasked) in
      let told : place_of (held.Prom a) u.imports ≡ None = ap (λ (x : Table). place_of (held.Prom a) x.imports) beside ∙ absent _ (sym (values_among (held.Prom a) t.imports refl) ∙ new.untold) in
      (other, k.found (held.Prom a) refl ∙ ap (λ (b : Bool). first_number b (held.Prom a) u) other ∙ (rw (asked, told) refl))

  new_answer : (n : Noted) (t : Table) → AreNew s (connection_of t) (asked_in (sight_for s (note_by i.heap.texts n)) (note_by i.heap.texts n)) → IsKept (is_mine i.refs) t → IfSome (asked_of n) (IsNewAnswer i (numbered_note i.refs n t))
  unfolding asked_of asked_in theirs.answer_if sight_for told_answer
  new_answer (Deliver m (Some a) x verb ps) t new k = unnamed a t (numbered_note i.refs (Deliver m (Some a) x verb ps) t) new.0 (note_beside i.refs (Deliver m (Some a) x verb ps) t) (numbered_kept i (Deliver m (Some a) x verb ps) t k)
  new_answer (Ask p g n) t new k = unnamed n t (numbered_note i.refs (Ask p g n) t) new.0 (note_beside i.refs (Ask p g n) t) (numbered_kept i (Ask p g n) t k)
  new_answer other t new k = tt

-- ---- one note

-- what is had for a vat, also for one that has no connection
pub table_is : (r : References) (ts : List Table) (v : ℕ) → AreFor r ts → IsFor r v (table_for v ts)
table_is r ts v all = got ts v (fresh v) (IsFor r v) (all v) (record { peer = refl; is_open = refl; kept = begins (is_mine r) v })

pub connection_is : (ts : List Table) (v : ℕ) → get_or (connections_of ts) v unconnected ≡ connection_of (table_for v ts)
unfolding unconnected
connection_is ts v = map_got connection_of ts v (fresh v)

module _ (i : Interior) (s : machine.Vat Local) (f : Local → Name) (h : HasReferences i.heap.texts i.refs s) where
  abbrev texts : List Words
  texts = i.heap.texts

  frame_is : (n : Sent) (ts : List Table) → AreFor i.refs ts
      → theirs.frame_now (sight_for s (note_by texts n.note)) (note_by texts n.note) (get_or (connections_of ts) n.to unconnected) ≡ written i n.note (table_for n.to ts)
  frame_is n ts all =
      ap (λ (c : Connection Local). theirs.frame_now (sight_for s (note_by texts n.note)) (note_by texts n.note) c) (connection_is ts n.to)
      ∙ ap (λ (z : Sight Local). theirs.frame_now z (note_by texts n.note) (connection_of (table_for n.to ts))) (sight_is texts i s n.note h)
      ∙ sym (writes texts i n.note (table_for n.to ts) (note_texts i n.note) (table_is i.refs ts n.to all).kept).0

  put_is : (n : Sent) (ts : List Table) → AreFor i.refs ts → connections_of (put_one i n ts) ≡ written_on s (put_by texts n) (connections_of ts)
  unfolding put_one written_on
  put_is n ts all =
      map_set connection_of ts n.to (put_on i n.note (table_for n.to ts))
      ∙ ap (slice_set (connections_of ts) n.to)
      ((writes texts i n.note (table_for n.to ts) (note_texts i n.note) (table_is i.refs ts n.to all).kept).1
      ∙ ap (λ (z : Sight Local). theirs.put_on z (note_by texts n.note) (connection_of (table_for n.to ts))) (sym (sight_is texts i s n.note h))
      ∙ ap (λ (c : Connection Local). theirs.put_on (sight_for s (note_by texts n.note)) (note_by texts n.note) c) (sym (connection_is ts n.to)))

  put_for : (n : Sent) (t : Table) → IsFor i.refs n.to t → AreNew s (connection_of t) (asked_in (sight_for s (note_by texts n.note)) (note_by texts n.note)) → IsFor i.refs n.to (put_on i n.note t)
  put_for n t is new = record {
    peer = (put_peer i n.note t).0 ∙ is.peer;
    is_open = (put_peer i n.note t).1 ∙ is.is_open;
    kept = keeps i n.note t (new_answer i s h n.note t new is.kept) is.kept;
  }

  one_for : (n : Sent) (ts : List Table) → AreFor i.refs ts → AreNew s (get_or (connections_of ts) n.to unconnected) (asked_in (sight_for s (note_by texts n.note)) (note_by texts n.note)) → AreFor i.refs (put_one i n ts)
  unfolding put_one
  one_for n ts all new = λ v t at.
      let so = put_for n (table_for n.to ts) (table_is i.refs ts n.to all) (subst (λ (c : Connection Local). AreNew s c (asked_in (sight_for s (note_by texts n.note)) (note_by texts n.note))) (connection_is ts n.to) new) in
      elim (at_set ts n.to v (put_on i n.note (table_for n.to ts)) t at) as (λ _. IsFor i.refs v t) [
        | inl e ↦ subst (λ (x : Table). IsFor i.refs v x) (sym e.1) (subst (λ (k : ℕ). IsFor i.refs k (put_on i n.note (table_for n.to ts))) (sym e.0) so)
        | inr e ↦ all v t e
      ]

  abbrev Written : List Sent → List Table → Type 0
  Written ns ts =
      (map framed (frames_of s f (map (put_by texts) ns) (connections_of ts)) ≡ code.all_written i ns ts)
      × (connections_of (put_all i ns ts) ≡ local.all_written s (map (put_by texts) ns) (connections_of ts))
      × AreFor i.refs (put_all i ns ts)

  all_is : (ns : List Sent) (ts : List Table) → AskAnew s (map (put_by texts) ns) (connections_of ts) → AreFor i.refs ts → Written ns ts
  unfolding put_all code.all_written local.all_written frames_of
  all_is [] ts new all = (refl, refl, all)
  all_is (n ∷ ns) ts new all =
      let next = put_is n ts all in
      let ps = map (put_by texts) ns in
      let rest = all_is ns (put_one i n ts) (subst (λ (cs : List (Connection Local)). AskAnew s ps cs) (sym next) new.1) (one_for n ts all new.0) in (
        ap (λ (o : Operation). record { to = n.to; op = o } ∷ map framed (frames_of s f ps (written_on s (put_by texts n) (connections_of ts)))) (frame_is n ts all)
            ∙ ap (λ (cs : List (Connection Local)). record { to = n.to; op = written i n.note (table_for n.to ts) } ∷ map framed (frames_of s f ps cs)) (sym next)
            ∙ ap (λ (xs : List Addressed). record { to = n.to; op = written i n.note (table_for n.to ts) } ∷ xs) rest.0,
        rest.1 ∙ ap (λ (cs : List (Connection Local)). local.all_written s ps cs) next,
        rest.2,
      )

pub writes_all : WritesAll
writes_all i s f ns ts h new all = all_is i s f h ns ts new all
