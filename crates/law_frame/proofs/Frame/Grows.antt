-- Connections grow by each step of a run.
use Rattle.std.proofs.Common.{◌≡◌, ℕ, Bool, true, false, List, [], ◌∷◌, ◌++◌, Option, Some, None, refl, sym, ap, subst, ◌∙◌, ◌==◌, arith}
use Rattle.std.proofs.lemmas.Bool.{eqb-true}
use Rattle.def_op.specs.Frames.{Operation}
use Rattle.def_machine.specs.Values.{Value, Ref, Name, Root}
use Rattle.def_machine.specs.State.{Passed, Passeds, Plain, AGift, Many, NoMore, More, Note, Deliver, Open, Ask, SettledTo, Elsewhere, Shorten, Put, Vat, Done, Gives}
use Rattle.def_machine.specs.Arrive.{Incoming}
use Rattle.def_run.specs.Connections as tables
use Rattle.def_run.specs.Connections.{Connection, Sight, Stage, Heard}
use Rattle.def_run.specs.Wire as wire
use Rattle.def_run.specs.Wire.{Connected, connected_at}
use Rattle.def_run.specs.World as world
use Rattle.def_run.specs.World.{Script, Event, Opens, Turned, Idle, Carried, CutAt, NoticedAt, Here, LostCut, LeftQueue, LeftHeld, LeftWait, LeftLink, Ends, World, Goes}
use Rattle.law_machine.specs.Machine.Steps.{Step, does}
use Rattle.law_machine.proofs.Run.RunKeeps.{IsKeptByRuns, run_keeps, opens_keep}
use Rattle.law_frame.specs.Frame.Growing.{IsFront, TablesGrow, ConnectedGrows, AllGrow, NumbersStay}
use Rattle.law_frame.proofs.Frame.Lists.{front_same, front_more, front_trans}
use Rattle.law_frame.proofs.Frame.Hears.{Later, note_later}

-- ---- one connection

pub tables_same : {N : Type 0} (c : Connection N) → TablesGrow c c
tables_same c = record { exports = front_same c.exports; imports = front_same c.imports; questions = front_same c.questions; answers = front_same c.answers }

pub tables_trans : {N : Type 0} (c d e : Connection N) → TablesGrow c d → TablesGrow d e → TablesGrow c e
tables_trans c d e h k = record {
  exports = front_trans c.exports d.exports e.exports h.exports k.exports;
  imports = front_trans c.imports d.imports e.imports h.imports k.imports;
  questions = front_trans c.questions d.questions e.questions h.questions k.questions;
  answers = front_trans c.answers d.answers e.answers h.answers k.answers;
}

pub grows_same : (c : Connected) → ConnectedGrows c c
grows_same c = record { from = refl; to = refl; tables = tables_same c.tables; written = front_same c.written; heard = omega arith }

pub grows_trans : (c d e : Connected) → ConnectedGrows c d → ConnectedGrows d e → ConnectedGrows c e
grows_trans c d e h k = let a = h.heard in let b = k.heard in record {
  from = k.from ∙ h.from;
  to = k.to ∙ h.to;
  tables = tables_trans c.tables d.tables e.tables h.tables k.tables;
  written = front_trans c.written d.written e.written h.written k.written;
  heard = omega arith;
}

-- ---- exports

module _ {N : Type 0} (S : Sight N) (asked : List N) where
  place_or : (a b : Bool) (n : N) (ns : List N) → IsFront ns (elim a [ true ↦ ns | false ↦ elim b [ true ↦ ns | false ↦ ns ++ n ∷ [] ] ])
  place_or true b n ns = front_same ns
  place_or false true n ns = front_same ns
  place_or false false n ns = front_more ns (n ∷ [])

  own_or : (a : Bool) (ms ns : List N) → IsFront ns ms → IsFront ns (elim a [ true ↦ ms | false ↦ ns ])
  own_or true ms ns h = h
  own_or false ms ns h = front_same ns

  as_grows : (n : N) (ns : List N) → IsFront ns (tables.exported_as S asked n ns)
  unfolding tables.exported_as
  as_grows n ns = own_or (S.own n) _ ns (place_or (tables.stands_in S asked n) (tables.stands_in S ns n) n ns)

  value_grows : (y : Value N) (ns : List N) → IsFront ns (tables.exported_value S asked y ns)
  unfolding tables.exported_value
  value_grows (Ref n) ns = as_grows n ns
  value_grows other ns = front_same ns

  mutual
    unfolding tables.exported_passed tables.exported_all

    passed_grows : (y : Passed N) (ns : List N) → IsFront ns (tables.exported_passed S asked y ns)
    passed_grows (Plain y) ns = value_grows y ns
    passed_grows (AGift h i) ns = front_same ns
    passed_grows (Many ys) ns = all_grows ys ns

    all_grows : (ys : Passeds N) (ns : List N) → IsFront ns (tables.exported_all S asked ys ns)
    all_grows NoMore ns = front_same ns
    all_grows (More y ys) ns = let ms = tables.exported_passed S asked y ns in front_trans ns ms (tables.exported_all S asked ys ms) (passed_grows y ns) (all_grows ys ms)

  pub note_grows : (n : Note N) (ns : List N) → IsFront ns (tables.exported_note S asked n ns)
  unfolding tables.exported_note
  note_grows (Deliver m n verb ys) ns = let ms = tables.exported_as S asked n ns in front_trans ns ms (tables.exported_all S asked ys ms) (as_grows n ns) (all_grows ys ms)
  note_grows (Open i n) ns = as_grows n ns
  note_grows (Ask p i n) ns = front_same ns
  note_grows (SettledTo n y) ns = let ms = tables.exported_as S asked n ns in front_trans ns ms (tables.exported_passed S asked y ms) (as_grows n ns) (passed_grows y ms)
  note_grows (Elsewhere n c) ns = as_grows n ns
  note_grows (Shorten n c i) ns = as_grows n ns

pub wrote_grows : (n : Note Name) (c : Connected) → ConnectedGrows c (wire.wrote n c)
unfolding wire.wrote tables.put_on
wrote_grows n c = record {
  from = refl;
  to = refl;
  tables = record {
    exports = note_grows (wire.sight c.from c.to) c.tables.answers n c.tables.exports;
    imports = front_same c.tables.imports;
    questions = front_more c.tables.questions _;
    answers = front_same c.tables.answers;
  };
  written = front_more c.written _;
  heard = omega arith;
}

imports_grow : (ns : List Name) (o : Option (Heard Name (Note (Incoming Name Name)))) → Later ns o → IsFront ns (wire.imports_after ns o)
unfolding wire.imports_after
imports_grow ns (Some h) l = l
imports_grow ns None l = front_same ns

frame_later : (d c : Connected) (m : Name) (s : Stage Name) (o : Option Operation) → Later s.imports (wire.read_frame d c m s o)
unfolding wire.read_frame
frame_later d c m s (Some o) = note_later wire.is_object d.from d.to (wire.newcomers c m) d.tables o s
frame_later d c m s None = tt

pub received_grows : (c : Connected) (n : Note Name) (d : Connected) → ConnectedGrows d (wire.received c n d)
unfolding wire.received wire.first_stage
received_grows c n d = record {
  from = refl;
  to = refl;
  tables = record {
    exports = front_same d.tables.exports;
    imports = imports_grow d.tables.imports _ (frame_later d c (Root c.from) (wire.first_stage d) (wire.frame_due c d));
    questions = front_same d.tables.questions;
    answers = front_more d.tables.answers _;
  };
  written = front_same d.written;
  heard = omega arith;
}

-- ---- among others

module _ (f : Connected → Connected) (grows : (c : Connected) → ConnectedGrows c (f c)) where
  found_or : (a b : Bool) (c x y : Connected) → b ≡ a → ConnectedGrows c x → ConnectedGrows c y → ConnectedGrows c (elim a [ true ↦ x | false ↦ y ])
  found_or true b c x y e h k = h
  found_or false b c x y e h k = k

  same_place : (v u : ℕ) (c d : Connected) → ConnectedGrows c d → wire.connects v u d ≡ wire.connects v u c
  unfolding wire.connects
  same_place v u c d g = rw (g.from, g.to) refl

  at_or : (b : Bool) (c : Connected) (x y : Connected) → ConnectedGrows x y → (b ≡ true → ConnectedGrows c (f c)) → ConnectedGrows (elim b [ true ↦ c | false ↦ x ]) (elim b [ true ↦ f c | false ↦ y ])
  at_or true c x y g h = h refl
  at_or false c x y g h = g

  keep_or : (b : Bool) (c : Connected) (x y : Connected) → ConnectedGrows x y → ConnectedGrows (elim b [ true ↦ c | false ↦ x ]) (elim b [ true ↦ c | false ↦ y ])
  keep_or true c x y g = grows_same c
  keep_or false c x y g = g

  changed_or : (a v u : ℕ) (b e : ℕ) (t : Bool) (c : Connected) (cs : List Connected) → ConnectedGrows (connected_at v u cs) (connected_at v u (wire.with_connected f a b cs))
      → ConnectedGrows (connected_at v u (c ∷ cs)) (connected_at v u (elim t [ true ↦ f c ∷ cs | false ↦ c ∷ wire.with_connected f a b cs ]))
  unfolding connected_at
  changed_or a v u b e true c cs h = subst (λ (z : Bool). ConnectedGrows (elim (wire.connects v u c) [ true ↦ c | false ↦ connected_at v u cs ]) (elim z [ true ↦ f c | false ↦ connected_at v u cs ])) (sym (same_place v u c (f c) (grows c)))
      (at_or (wire.connects v u c) c (connected_at v u cs) (connected_at v u cs) (grows_same (connected_at v u cs)) (λ i. grows c))
  changed_or a v u b e false c cs h = keep_or (wire.connects v u c) c (connected_at v u cs) (connected_at v u (wire.with_connected f a b cs)) h

  first_or : (t : Bool) (a b v u : ℕ) → (t ≡ true → (a ≡ v) × (b ≡ u)) → ConnectedGrows (wire.unconnected v u) (elim t [ true ↦ f (wire.unconnected a b) | false ↦ wire.unconnected v u ])
  first_or true a b v u h = let e = h refl in subst (λ (y : ℕ). ConnectedGrows (wire.unconnected v u) (f (wire.unconnected a y))) (sym e.1) (subst (λ (x : ℕ). ConnectedGrows (wire.unconnected v u) (f (wire.unconnected x u))) (sym e.0) (grows (wire.unconnected v u)))
  first_or false a b v u h = grows_same (wire.unconnected v u)

  nat_is : (m n : ℕ) → (m == n) ≡ true → m ≡ n
  nat_is m n i = eqb-true m n i

  place_or_is : (x y v u : ℕ) (s t : Bool) → (x == v) ≡ s → (y == u) ≡ t → elim s [ true ↦ t | false ↦ false ] ≡ true → (x ≡ v) × (y ≡ u)
  place_or_is x y v u true true i j e = (nat_is x v i, nat_is y u j)
  place_or_is x y v u true false i j e = cc
  place_or_is x y v u false t i j e = cc

  there : (a b v u : ℕ) (d : Connected) → wire.connects v u d ≡ wire.connects v u (wire.unconnected a b) → wire.connects v u d ≡ true → (a ≡ v) × (b ≡ u)
  unfolding wire.connects wire.unconnected
  there a b v u d s e = place_or_is a b v u (a == v) (b == u) refl refl (sym s ∙ e)

  new_grows : (a b v u : ℕ) → ConnectedGrows (connected_at v u []) (connected_at v u (f (wire.unconnected a b) ∷ []))
  unfolding connected_at
  new_grows a b v u = let g = grows (wire.unconnected a b) in first_or (wire.connects v u (f (wire.unconnected a b))) a b v u (λ e. there a b v u (f (wire.unconnected a b)) (same_place v u (wire.unconnected a b) (f (wire.unconnected a b)) g) e)

  pub with_grows : (a b v u : ℕ) (cs : List Connected) → ConnectedGrows (connected_at v u cs) (connected_at v u (wire.with_connected f a b cs))
  unfolding wire.with_connected
  with_grows a b v u [] = new_grows a b v u
  with_grows a b v u (c ∷ cs) = changed_or a v u b u (wire.connects a b c) c cs (with_grows a b v u cs)

-- ---- a step

pub write_grows : (a : ℕ) (ps : List (Put Name)) (v u : ℕ) (cs : List Connected) → ConnectedGrows (connected_at v u cs) (connected_at v u (wire.write_all a ps cs))
unfolding wire.write_all
write_grows a [] v u cs = grows_same (connected_at v u cs)
write_grows a (p ∷ ps) v u cs = let ds = wire.with_connected (wire.wrote p.note) a p.to cs in
    grows_trans (connected_at v u cs) (connected_at v u ds) (connected_at v u (wire.write_all a ps ds)) (with_grows (wire.wrote p.note) (wrote_grows p.note) a p.to v u cs) (write_grows a ps v u ds)

hear_grows : (a b : ℕ) (n : Note Name) (v u : ℕ) (cs : List Connected) → ConnectedGrows (connected_at v u cs) (connected_at v u (wire.hear_at a b n cs))
unfolding wire.hear_at
hear_grows a b n v u cs = with_grows (wire.received (connected_at a b cs) n) (received_grows (connected_at a b cs) n) b a v u cs

lines_grow : (es : List Event) (v u : ℕ) (cs : List Connected) → ConnectedGrows (connected_at v u cs) (connected_at v u (world.heard_by es cs))
unfolding world.heard_by
lines_grow [] v u cs = grows_same (connected_at v u cs)
lines_grow (Carried k a b n bytes ∷ es) v u cs = let ds = wire.hear_at a b n cs in grows_trans (connected_at v u cs) (connected_at v u ds) (connected_at v u (world.heard_by es ds)) (hear_grows a b n v u cs) (lines_grow es v u ds)
lines_grow (Opens a ∷ es) v u cs = lines_grow es v u cs
lines_grow (Turned k a ∷ es) v u cs = lines_grow es v u cs
lines_grow (Idle k ∷ es) v u cs = lines_grow es v u cs
lines_grow (CutAt k a b ∷ es) v u cs = lines_grow es v u cs
lines_grow (NoticedAt k a b ∷ es) v u cs = lines_grow es v u cs
lines_grow (Here a h ∷ es) v u cs = lines_grow es v u cs
lines_grow (LostCut m ∷ es) v u cs = lines_grow es v u cs
lines_grow (LeftQueue a m ∷ es) v u cs = lines_grow es v u cs
lines_grow (LeftHeld a n m ∷ es) v u cs = lines_grow es v u cs
lines_grow (LeftWait a n m ∷ es) v u cs = lines_grow es v u cs
lines_grow (LeftLink a b n ∷ es) v u cs = lines_grow es v u cs
lines_grow (Ends ∷ es) v u cs = lines_grow es v u cs

pub after_grows : (a : ℕ) (t : Vat Name) (head : List Event) (v u : ℕ) (cs : List Connected) → ConnectedGrows (connected_at v u cs) (connected_at v u (world.connections_after a t head cs))
unfolding world.connections_after
after_grows a t head v u cs = let ds = world.heard_by head cs in grows_trans (connected_at v u cs) (connected_at v u ds) (connected_at v u (wire.write_all a t.outbox ds)) (lines_grow head v u cs) (write_grows a t.outbox v u ds)

going_is : (x y : World) → Goes x ≡ Goes y → x ≡ y
going_is x y e = cc

all_same : (w x : World) → w.connections ≡ x.connections → AllGrow w x
all_same w x e = λ v u. rw (sym e) (grows_same (connected_at v u w.connections))

put_back_grows : (v : ℕ) (w x : World) (head : List Event) (n : ℕ) (d : Done Name (Unit {0})) → world.put_back v w head n d ≡ Goes x → AllGrow w x
unfolding world.put_back
put_back_grows v w x head n (Gives a t) e = λ a b. subst (λ cs. ConnectedGrows (connected_at a b w.connections) (connected_at a b cs)) (ap (λ (y : World). y.connections) (going_is _ x e)) (after_grows v t head a b w.connections)
put_back_grows v w x head n other e = cc

within_grows : (script : Script) (v : ℕ) (w x : World) (head : List Event) (n : ℕ) (what : Step Name Name) (q : Vat Name) → world.within v w head n (does (world.names script v) what) (Some q) ≡ Goes x → AllGrow w x
unfolding world.within
within_grows script v w x head n what q e = put_back_grows v w x head n (does (world.names script v) what (world.readied w q)) e

kept : (script : Script) → IsKeptByRuns script AllGrow
kept script = record {
  same = λ w v u. grows_same (connected_at v u w.connections);
  trans = λ w x y h k v u. grows_trans (connected_at v u w.connections) (connected_at v u x.connections) (connected_at v u y.connections) (h v u) (k v u);
  adds = λ w ls es v u. grows_same (connected_at v u w.connections);
  links = λ w ls v u. grows_same (connected_at v u w.connections);
  vat = λ v w x head n what s q there begins e. within_grows script v w x head n what q e;
}

pub numbers_stay : NumbersStay
numbers_stay script = (opens_keep script AllGrow (kept script), run_keeps script AllGrow (kept script))
