-- What is told of what is left at vats is what the run shows of it, and has no frames.
use Rattle.std.proofs.Common.{◌≡◌, ℕ, zero, suc, ◌+◌, List, [], ◌∷◌, ◌++◌, Some, length, map, refl, sym, ap, subst, ◌∙◌, append_assoc, append-nil, arith}
use Rattle.std.specs.Prelude.{slice_get}
use Rattle.def_event.specs.declared.event.Event.{Event as ShownEvent}
use Rattle.def_event.specs.declared.event.Event.TheVariants as line
use Rattle.def_event.specs.declared.shown.Shown as shown
use Rattle.def_run.specs.Numbers.{Vats, left_held, left_member, left_members, left_wait, name_at_vat}
use Rattle.def_run.specs.Vats.{Member}
use Rattle.def_machine.specs.State as machine
use Rattle.def_machine.specs.Values.{Words, Local, Name, Prom, Mess}
use Rattle.def_run.specs.Shown.{shown_event, shown_msg, shown_name}
use Rattle.def_run.specs.Text.{shown_events}
use Rattle.def_run.specs.World.{Event, LeftHeld, LeftQueue, LeftWait, Script}
use Rattle.ev_base.specs.declared.names.Msg.{Msg as ShownMsg}
use Rattle.ev_base.specs.declared.names.Name.{Name as ShownName}
use Rattle.ev_resident.specs.MemberStanding.{Sees, with_draws}
use Rattle.ev_resident.specs.Printing.{Agrees}
use Rattle.ev_resident.proofs.Naming.{agrees}
use Rattle.ev_pass.specs.declared.interior.Interior.{Interior}
use Rattle.ev_refs.specs.Reading.{knowns_by, message_by}
use Rattle.ev_refs.specs.References.{References}
use Rattle.ev_refs.specs.declared.known.Known.{Known}
use Rattle.ev_refs.specs.declared.known.Message.{Message}
use Rattle.ev_resident.specs.Standing.{IsResident}
use Rattle.ev_resident.specs.declared.resident.Resident.{Resident}
use Rattle.ev_room.specs.Reading.{World as Seen, texts_of, vat_of}
use Rattle.ev_step_lines.specs.Lines.{Naming, name_at}
use Rattle.ev_resident.specs.Closing.{held_line, held_lines, left_lines, queue_line, wait_line, wait_lines}
use Rattle.ev_resident.specs.Rooted.{fresh}
use Rattle.ev_ways.proofs.Cuts.{shown_join}
use Rattle.ev_world.specs.Closing.{all_left, left_of}
use Rattle.ev_world.proofs.Plain.{IsPlain, plain_join}
use Rattle.ev_arrive.specs.Reading.{with_gifts}

-- ---- by a table that has the names of the numbers

module _ (ds : List ℕ) (f : Local → Name) (n : Naming) (agree : Agrees ds f n) (ts : List Words) (S : Script) where
  queue_shown : (ms : List Message) → shown_events ds (map (λ (m : machine.Message Local). LeftQueue n.vat (f m.id)) (map (message_by ts) ms)) ≡ map (queue_line n) ms
  unfolding shown_events shown_event
  queue_shown [] = refl
  queue_shown (m ∷ ms) =
      ap (λ (es : List ShownEvent). line.LeftQueue n.vat (shown_msg ds (f (Mess m.id))) ∷ es) (queue_shown ms)
      ∙ ap (λ (x : ShownMsg). line.LeftQueue n.vat x ∷ map (queue_line n) ms) (agree.message m.id)

  held_shown_at : (k : ℕ) (ms : List Message) → shown_events ds (map (λ (m : machine.Message Local). LeftHeld n.vat (f (Prom k)) (f m.id)) (map (message_by ts) ms)) ≡ map (held_line n k) ms
  unfolding shown_events shown_event
  held_shown_at k [] = refl
  held_shown_at k (m ∷ ms) =
      ap (λ (es : List ShownEvent). line.LeftHeld n.vat (shown_name ds (f (Prom k))) (shown_msg ds (f (Mess m.id))) ∷ es) (held_shown_at k ms)
      ∙ ap (λ (a : ShownName). line.LeftHeld n.vat a (shown_msg ds (f (Mess m.id))) ∷ map (held_line n k) ms) (agree.promise k)
      ∙ ap (λ (x : ShownMsg). line.LeftHeld n.vat (name_at n k) x ∷ map (held_line n k) ms) (agree.message m.id)

  wait_shown_at : (k : ℕ) (ms : List Message) → shown_events ds (map (λ (m : machine.Message Local). LeftWait n.vat (f (Prom k)) (f m.id)) (map (message_by ts) ms)) ≡ map (wait_line n k) ms
  unfolding shown_events shown_event
  wait_shown_at k [] = refl
  wait_shown_at k (m ∷ ms) =
      ap (λ (es : List ShownEvent). line.LeftWait n.vat (shown.Name (shown_name ds (f (Prom k)))) (shown_msg ds (f (Mess m.id))) ∷ es) (wait_shown_at k ms)
      ∙ ap (λ (a : ShownName). line.LeftWait n.vat (shown.Name a) (shown_msg ds (f (Mess m.id))) ∷ map (wait_line n k) ms) (agree.promise k)
      ∙ ap (λ (x : ShownMsg). line.LeftWait n.vat (shown.Name (name_at n k)) x ∷ map (wait_line n k) ms) (agree.message m.id)

  held_shown : (k : ℕ) (ks : List Known) → shown_events ds (left_held S n.vat f (knowns_by ts k ks)) ≡ held_lines n k ks
  unfolding left_held held_lines knowns_by
  held_shown k [] = unfold shown_events in refl
  held_shown k (x ∷ ks) =
      shown_join ds (map (λ (m : machine.Message Local). LeftHeld n.vat (f (Prom k)) (f m.id)) (map (message_by ts) x.held)) (left_held S n.vat f (knowns_by ts (suc k) ks))
      ∙ ap (λ (es : List ShownEvent). es ++ shown_events ds (left_held S n.vat f (knowns_by ts (suc k) ks))) (held_shown_at k x.held)
      ∙ ap (λ (es : List ShownEvent). map (held_line n k) x.held ++ es) (held_shown (suc k) ks)

  wait_shown : (k : ℕ) (ks : List Known) → shown_events ds (left_wait S n.vat f (knowns_by ts k ks)) ≡ wait_lines n k ks
  unfolding left_wait wait_lines knowns_by
  wait_shown k [] = unfold shown_events in refl
  wait_shown k (x ∷ ks) =
      shown_join ds (map (λ (m : machine.Message Local). LeftWait n.vat (f (Prom k)) (f m.id)) (map (message_by ts) x.reactions)) (left_wait S n.vat f (knowns_by ts (suc k) ks))
      ∙ ap (λ (es : List ShownEvent). es ++ shown_events ds (left_wait S n.vat f (knowns_by ts (suc k) ks))) (wait_shown_at k x.reactions)
      ∙ ap (λ (es : List ShownEvent). map (wait_line n k) x.reactions ++ es) (wait_shown (suc k) ks)

  -- what the run tells of a vat of that number with this queue and these names
  abbrev told : ℕ → List (machine.Message Local) → List (machine.Known Local) → List Event
  told v ms ks = map (λ (m : machine.Message Local). LeftQueue v (f m.id)) ms ++ left_held S v f ks ++ left_wait S v f ks

  all_shown : (r : References) → shown_events ds (told n.vat (map (message_by ts) r.queue) (knowns_by ts zero r.known)) ≡ left_lines n r
  all_shown r =
      let queue : List Event = map (λ (m : machine.Message Local). LeftQueue n.vat (f m.id)) (map (message_by ts) r.queue) in
      let held : List Event = left_held S n.vat f (knowns_by ts zero r.known) in
      let wait : List Event = left_wait S n.vat f (knowns_by ts zero r.known) in
      shown_join ds (queue ++ held) wait
      ∙ ap (λ (es : List ShownEvent). es ++ shown_events ds wait) (shown_join ds queue held)
      ∙ ap (λ (es : List ShownEvent). es ++ shown_events ds held ++ shown_events ds wait) (queue_shown r.queue)
      ∙ ap (λ (es : List ShownEvent). map (queue_line n) r.queue ++ es ++ shown_events ds wait) (held_shown zero r.known)
      ∙ ap (λ (es : List ShownEvent). map (queue_line n) r.queue ++ held_lines n zero r.known ++ es) (wait_shown zero r.known)

-- ---- one vat of a run

module _ (S : Script) (w : Vats) (u : ℕ) (m : Member) (r : Resident) (at : IsResident S w u m r) where
  abbrev inside : Interior
  inside = r.member.vat.host.inside

  abbrev seen : Seen
  seen = record { before = fresh 0 0 [] []; texts = at.member.rest.sound.problems_first.0; key = inside.words.key }

  sees : Sees seen inside
  sees = record { outbox = refl; happened = refl; rest = []; texts = sym at.member.rest.sound.problems_first.1 ∙ sym (append-nil inside.heap.texts); key = refl }

  same : with_draws 0 [] (with_gifts r.member.vat.host.gifts (vat_of seen r.member.vat.host.inside)) ≡ with_draws 0 [] m.vat
  same = at.member.vat seen sees

  queue_is : map (message_by (texts_of seen)) inside.refs.queue ≡ m.vat.queue
  unfolding vat_of
  queue_is = ap (λ (s : machine.Vat Local). s.queue) same

  known_is : knowns_by (texts_of seen) zero inside.refs.known ≡ m.vat.known
  unfolding vat_of
  known_is = ap (λ (s : machine.Vat Local). s.known) same

  abbrev f : Local → Name
  f = name_at_vat w.members u m.names

  abbrev n : Naming
  n = r.names.naming

  agree : Agrees w.drawn f n
  agree = agrees w.drawn u m.vat m.names r.names w.members at.names at.objects

  abbrev tells : ℕ → List (machine.Message Local) → List (machine.Known Local) → List ShownEvent
  tells v ms ks = shown_events w.drawn (map (λ (x : machine.Message Local). LeftQueue v (f x.id)) ms ++ left_held S v f ks ++ left_wait S v f ks)

  member_shown : shown_events w.drawn (left_member S w.members u m) ≡ left_of r
  unfolding left_member
  member_shown =
      ap (λ (v : ℕ). tells v m.vat.queue m.vat.known) (sym at.names.vat)
      ∙ ap (λ (ms : List (machine.Message Local)). tells n.vat ms m.vat.known) (sym queue_is)
      ∙ ap (λ (ks : List (machine.Known Local)). tells n.vat (map (message_by (texts_of seen)) inside.refs.queue) ks) (sym known_is)
      ∙ all_shown w.drawn f n agree (texts_of seen) S inside.refs

-- ---- all vats

pub members_shown : (S : Script) (w : Vats) (u : ℕ) (ms : List Member) (rs : List Resident) → length rs ≡ length ms
    → ((i : ℕ) (m : Member) (r : Resident) → slice_get ms i ≡ Some m → slice_get rs i ≡ Some r → IsResident S w (u + i) m r)
    → shown_events w.drawn (left_members S w.members u ms) ≡ all_left rs
unfolding left_members all_left
members_shown S w u [] [] many at = unfold shown_events in refl
members_shown S w u [] (r ∷ rs) many at = let more : suc (length rs) ≡ zero = many in absurd (omega arith)
members_shown S w u (m ∷ ms) [] many at = let more : zero ≡ suc (length ms) = many in absurd (omega arith)
members_shown S w u (m ∷ ms) (r ∷ rs) many at =
    let first : u + zero ≡ u = omega arith in
    let here : IsResident S w u m r = subst (λ (v : ℕ). IsResident S w v m r) first (at zero m r refl refl) in
    let more : suc (length rs) ≡ suc (length ms) = many in
    let fewer : length rs ≡ length ms = omega arith in
    shown_join w.drawn (left_member S w.members u m) (left_members S w.members (suc u) ms)
    ∙ ap (λ (es : List ShownEvent). es ++ shown_events w.drawn (left_members S w.members (suc u) ms)) (member_shown S w u m r here)
    ∙ ap (λ (es : List ShownEvent). left_of r ++ es)
    (members_shown S w (suc u) ms rs fewer (λ i x y e g. let next : u + suc i ≡ suc u + i = omega arith in subst (λ (v : ℕ). IsResident S w v x y) next (at (suc i) x y e g)))

-- ---- told one after the other

all_left_behind : (rs : List Resident) (r : Resident) → all_left (rs ++ r ∷ []) ≡ all_left rs ++ left_of r
unfolding all_left
all_left_behind [] r = append-nil (left_of r)
all_left_behind (x ∷ rs) r = ap (λ (es : List ShownEvent). left_of x ++ es) (all_left_behind rs r) ∙ sym (append_assoc (left_of x) (all_left rs) (left_of r))

pub one_told : (h g before : List ShownEvent) (rs : List Resident) (r : Resident) → h ≡ before ++ all_left rs → g ≡ h ++ left_of r → g ≡ before ++ all_left (rs ++ r ∷ [])
one_told h g before rs r so_far more =
    more
    ∙ ap (λ (es : List ShownEvent). es ++ left_of r) so_far
    ∙ append_assoc before (all_left rs) (left_of r)
    ∙ ap (λ (es : List ShownEvent). before ++ es) (sym (all_left_behind rs r))

pub none_told : (h : List ShownEvent) → h ≡ h ++ all_left []
unfolding all_left
none_told h = sym (append-nil h)

-- ---- no frames

queue_plain : (n : Naming) (ms : List Message) → IsPlain (map (queue_line n) ms)
queue_plain n [] = refl
queue_plain n (m ∷ ms) = ap (λ (es : List ShownEvent). queue_line n m ∷ es) (queue_plain n ms)

held_plain_at : (n : Naming) (k : ℕ) (ms : List Message) → IsPlain (map (held_line n k) ms)
held_plain_at n k [] = refl
held_plain_at n k (m ∷ ms) = ap (λ (es : List ShownEvent). held_line n k m ∷ es) (held_plain_at n k ms)

wait_plain_at : (n : Naming) (k : ℕ) (ms : List Message) → IsPlain (map (wait_line n k) ms)
wait_plain_at n k [] = refl
wait_plain_at n k (m ∷ ms) = ap (λ (es : List ShownEvent). wait_line n k m ∷ es) (wait_plain_at n k ms)

held_plain : (n : Naming) (k : ℕ) (ks : List Known) → IsPlain (held_lines n k ks)
unfolding held_lines
held_plain n k [] = refl
held_plain n k (x ∷ ks) = plain_join (map (held_line n k) x.held) (held_lines n (suc k) ks) (held_plain_at n k x.held) (held_plain n (suc k) ks)

wait_plain : (n : Naming) (k : ℕ) (ks : List Known) → IsPlain (wait_lines n k ks)
unfolding wait_lines
wait_plain n k [] = refl
wait_plain n k (x ∷ ks) = plain_join (map (wait_line n k) x.reactions) (wait_lines n (suc k) ks) (wait_plain_at n k x.reactions) (wait_plain n (suc k) ks)

vat_plain : (n : Naming) (r : References) → IsPlain (left_lines n r)
vat_plain n r =
    plain_join (map (queue_line n) r.queue ++ held_lines n zero r.known) (wait_lines n zero r.known)
    (plain_join (map (queue_line n) r.queue) (held_lines n zero r.known) (queue_plain n r.queue) (held_plain n zero r.known))
    (wait_plain n zero r.known)

pub vats_plain : (rs : List Resident) → IsPlain (all_left rs)
unfolding all_left
vats_plain [] = refl
vats_plain (r ∷ rs) = plain_join (left_of r) (all_left rs) (vat_plain r.names.naming r.member.vat.host.inside.refs) (vats_plain rs)
