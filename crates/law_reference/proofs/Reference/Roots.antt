-- The roots that have a position from the start: in every world of a run each link has those that it began with.
use Rattle.std.proofs.Common.{◌≡◌, ℕ, zero, suc, Bool, true, false, List, [], ◌∷◌, ◌++◌, Option, Some, None, refl, ◌==◌}
use Rattle.std.specs.Prelude.{slice_get}
use Rattle.def_machine.specs.Values.{Name, Root, host_of}
use Rattle.def_machine.specs.State.{Message, Note, Put, Vat, Done, Gives, Act, is_in}
use Rattle.def_run.specs.World as world
use Rattle.def_run.specs.World.{Script, Program, Entry, Turn, Carry, CutLink, NoticeLink, Event, Idle, Link, World, Run, Goes as Going, Stopped}
use Rattle.law_fate.specs.Name.Names.{AllOf}
use Rattle.law_fate.proofs.Name.Facts.{all_append}
use Rattle.law_reference.proofs.Reference.Positions.{Fine}

abbrev pub Rooted : Link → Type 0
Rooted l = Fine l.from l.roots

abbrev pub AllRooted : World → Type 0
AllRooted w = AllOf Rooted w.links

with_link_rooted : (f : Link → Link) → ((l : Link) → Rooted l → Rooted (f l)) → (v w : ℕ) (ls : List Link) → AllOf Rooted ls → AllOf Rooted (world.with_link f v w ls)
unfolding world.with_link
with_link_rooted f g v w [] h = tt
with_link_rooted f g v w (l ∷ ls) h = either (world.is_link v w l) (g l h.0) (with_link_rooted f g v w ls h.1)
  where
    either : (b : Bool) → Rooted (f l) → AllOf Rooted (world.with_link f v w ls) → AllOf Rooted (elim b [ true ↦ f l ∷ ls | false ↦ l ∷ world.with_link f v w ls ])
    either true i j = (i, h.1)
    either false i j = (h.0, j)

pushed_rooted : (n : Note Name) (l : Link) → Rooted l → Rooted (world.pushed n l)
unfolding world.pushed
pushed_rooted n l i = either l.cut
  where
    either : (b : Bool) → Rooted (elim b [ true ↦ record l { log = l.log ++ n ∷ [] } | false ↦ record l { notes = l.notes ++ n ∷ []; log = l.log ++ n ∷ [] } ])
    either true = i
    either false = i

push_all_rooted : (v : ℕ) (ps : List (Put Name)) (ls : List Link) → AllOf Rooted ls → AllOf Rooted (world.push_all v ps ls)
unfolding world.push_all
push_all_rooted v [] ls h = h
push_all_rooted v (p ∷ ps) ls h = push_all_rooted v ps (world.with_link (world.pushed p.note) v p.to ls) (with_link_rooted (world.pushed p.note) (pushed_rooted p.note) v p.to ls h)

going_is : (w x : World) → Going w ≡ Going x → w ≡ x
going_is w x e = cc

moved : (w x : World) → AllRooted w → Going w ≡ Going x → AllRooted x
moved w x h e = rw (going_is w x e) at h

put_back_rooted : (v : ℕ) (w x : World) (head : List Event) (n : ℕ) (d : Done Name (Unit {0})) → AllRooted w → world.put_back v w head n d ≡ Going x → AllRooted x
unfolding world.put_back
put_back_rooted v w x head n (Gives a t) h e = moved _ x (push_all_rooted v t.outbox w.links h) e
put_back_rooted v w x head n other h e = cc

within_rooted : (v : ℕ) (w x : World) (head : List Event) (n : ℕ) (m : Act Name (Unit {0})) (o : Option (Vat Name)) → AllRooted w → world.within v w head n m o ≡ Going x → AllRooted x
unfolding world.within
within_rooted v w x head n m None h e = cc
within_rooted v w x head n m (Some s) h e = put_back_rooted v w x head n (m (world.readied w s)) h e

module _ (script : Script) where
  idle_rooted : (k : ℕ) (w x : World) → AllRooted w → world.idle script k w ≡ Going x → AllRooted x
  unfolding world.idle
  idle_rooted k w x h e = moved (record w { history = w.history ++ Idle k ∷ [] }) x h e

  turn_queue_rooted : (k v : ℕ) (w x : World) (s : Vat Name) (ms : List (Message Name)) → AllRooted w → world.turn_queue script k v w s ms ≡ Going x → AllRooted x
  unfolding world.turn_queue
  turn_queue_rooted k v w x s [] h e = idle_rooted k w x h e
  turn_queue_rooted k v w x s (m ∷ ms) h e = within_rooted v w x _ _ _ _ h e

  turn_rooted : (k v : ℕ) (w x : World) (o : Option (Vat Name)) → AllRooted w → world.turn script k v w o ≡ Going x → AllRooted x
  unfolding world.turn
  turn_rooted k v w x None h e = idle_rooted k w x h e
  turn_rooted k v w x (Some s) h e = turn_queue_rooted k v w x s s.queue h e

  arrives_rooted : (k v to : ℕ) (w x : World) (n : Note Name) (o : Option (Vat Name)) → AllRooted w → world.arrives script k v to w n o ≡ Going x → AllRooted x
  unfolding world.arrives
  arrives_rooted k v to w x n None h e = idle_rooted k w x h e
  arrives_rooted k v to w x n (Some s) h e = within_rooted to w x _ _ _ _ h e

  carry_notes_rooted : (k v to : ℕ) (w x : World) (ns : List (Note Name)) → AllRooted w → world.carry_notes script k v to w ns ≡ Going x → AllRooted x
  unfolding world.carry_notes world.with_notes
  carry_notes_rooted k v to w x [] h e = idle_rooted k w x h e
  carry_notes_rooted k v to w x (n ∷ ns) h e = arrives_rooted k v to (record w { links = world.with_link (world.with_notes ns) v to w.links }) x n (slice_get w.vats to) (with_link_rooted (world.with_notes ns) (λ l i. i) v to w.links h) e

  carry_cut_rooted : (k v to : ℕ) (w x : World) (l : Link) (b : Bool) → AllRooted w → elim b [ true ↦ world.idle script k w | false ↦ world.carry_notes script k v to w l.notes ] ≡ Going x → AllRooted x
  carry_cut_rooted k v to w x l true h e = idle_rooted k w x h e
  carry_cut_rooted k v to w x l false h e = carry_notes_rooted k v to w x l.notes h e

  carry_link_rooted : (k v to : ℕ) (w x : World) (o : Option Link) → AllRooted w → world.carry_link script k v to w o ≡ Going x → AllRooted x
  unfolding world.carry_link
  carry_link_rooted k v to w x None h e = idle_rooted k w x h e
  carry_link_rooted k v to w x (Some l) h e = carry_cut_rooted k v to w x l l.cut h e

  cut_rooted : (k v to : ℕ) (w x : World) → AllRooted w → world.cut script k v to w ≡ Going x → AllRooted x
  unfolding world.cut world.severed_link
  cut_rooted k v to w x h e = moved _ x (with_link_rooted world.severed_link (λ l i. i) to v (world.with_link world.severed_link v to w.links) (with_link_rooted world.severed_link (λ l i. i) v to w.links h)) e

  step_rooted : (entry : Entry) (k : ℕ) (w x : World) → AllRooted w → world.step script entry k w ≡ Going x → AllRooted x
  unfolding world.step
  step_rooted (Turn v) k w x h e = turn_rooted k v w x (slice_get w.vats v) h e
  step_rooted (Carry v to) k w x h e = carry_link_rooted k v to w x (world.link_at v to w.links) h e
  step_rooted (CutLink v to) k w x h e = cut_rooted k v to w x h e
  step_rooted (NoticeLink v to) k w x h e = within_rooted v w x _ _ _ _ h e

  then_rooted : (x : World) (r : Run) (f : World → Run) → ((y : World) → r ≡ Going y → AllRooted y) → ((y : World) → AllRooted y → f y ≡ Going x → AllRooted x) → world.then_goes r f ≡ Going x → AllRooted x
  unfolding world.then_goes
  then_rooted x (Going y) f a b e = b y (a y refl) e
  then_rooted x (Stopped c n y) f a b e = cc

  pub steps_rooted : (es : List Entry) (k : ℕ) (w x : World) → AllRooted w → world.steps_from script es k w ≡ Going x → AllRooted x
  unfolding world.steps_from
  steps_rooted [] k w x h e = moved w x h e
  steps_rooted (entry ∷ es) k w x h e = then_rooted x (world.step script entry k w) (world.steps_from script es (suc k)) (λ y i. step_rooted entry k w y h i) (λ y i j. steps_rooted es (suc k) y x i j) e

  open_rooted : (v : ℕ) (p : Program) (w x : World) → AllRooted w → world.open_vat script v p w ≡ Going x → AllRooted x
  unfolding world.open_vat
  open_rooted v p w x h e = within_rooted v w x _ _ _ _ h e

  pub opens_rooted : (v : ℕ) (ps : List Program) (w x : World) → AllRooted w → world.open_from script v ps w ≡ Going x → AllRooted x
  unfolding world.open_from
  opens_rooted v [] w x h e = moved w x h e
  opens_rooted v (p ∷ ps) w x h e = then_rooted x (world.open_vat script v p w) (world.open_from script (suc v) ps) (λ y i. open_rooted v p w y h i) (λ y i j. opens_rooted (suc v) ps y x i j) e

-- ---- the start

root_fine : (v : ℕ) (b : Bool) → Fine v (elim b [ true ↦ Root v ∷ [] | false ↦ [] ])
unfolding host_of
root_fine v true = ((λ i. i, tt), (refl, tt))
root_fine v false = (tt, tt)

either_links : (b : Bool) (l : Link) (ls : List Link) → Rooted l → AllOf Rooted ls → AllOf Rooted (elim b [ true ↦ ls | false ↦ l ∷ ls ])
either_links true l ls h i = i
either_links false l ls h i = (h, i)

links_to_rooted : (v w : ℕ) (ps : List Program) → AllOf Rooted (world.links_to v w ps)
unfolding world.links_to world.roots_for
links_to_rooted v w [] = tt
links_to_rooted v w (p ∷ ps) = either_links (v == w) _ (world.links_to v (suc w) ps) (root_fine v (is_in v p.knows)) (links_to_rooted v (suc w) ps)

links_from_rooted : (all : List Program) (v : ℕ) (ps : List Program) → AllOf Rooted (world.links_from all v ps)
unfolding world.links_from
links_from_rooted all v [] = tt
links_from_rooted all v (p ∷ ps) = all_append Rooted (world.links_to v zero all) (world.links_from all (suc v) ps) (links_to_rooted v zero all) (links_from_rooted all (suc v) ps)

pub begins_rooted : (script : Script) → AllRooted (world.begins script)
unfolding world.begins
begins_rooted script = links_from_rooted script.vats zero script.vats
