-- Ending an ejector that stands in a heap.
use Rattle.std.proofs.Common.{◌≡◌, ℕ, ◌<◌, ◌≤◌, length, false, Option, Some, None, Ok, refl}
use Rattle.std.specs.Prelude.{slice_get, slice_set, IfSome}
use Rattle.std.proofs.lemmas.Option.{slice_get_past}
use Rattle.ev_heap.specs.Contents.{Contents}
use Rattle.ev_heap.specs.declared.kept.Thing.{Thing}
use Rattle.ev_pass.specs.declared.interior.Interior.{Interior as Room}
use Rattle.ev_room.specs.Acts.{give, killed, kill}
use Rattle.ev_room.proofs.Cells.{stands_at}

killed_at : (j : ℕ) (o : Option Thing) (s : Room) (h : Contents) → (x : Thing) × (o ≡ Some x)
    → IfSome o (λ t. h ≡ record s.heap { things = slice_set s.heap.things j (record t { alive = false }) }) → killed j o s ≡ (Ok tt, record s { heap = h })
unfolding killed
killed_at j None s h some e = cc (some.1)
killed_at j (Some t) s h some e = rw e refl

pub kill_goes : (j : ℕ) (s : Room) (h : Contents) → j < length s.heap.things
    → IfSome (slice_get s.heap.things j) (λ t. h ≡ record s.heap { things = slice_set s.heap.things j (record t { alive = false }) }) → kill j s ≡ (Ok tt, record s { heap = h })
unfolding kill
kill_goes j s h lt e = killed_at j (slice_get s.heap.things j) s h (stands_at s.heap.things j lt) e

pub kill_past : (j : ℕ) (s : Room) → length s.heap.things ≤ j → kill j s ≡ (Ok tt, s)
unfolding kill killed give
kill_past j s h = rw (slice_get_past s.heap.things j h) refl
