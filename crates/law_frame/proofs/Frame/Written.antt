-- Each move keeps that the notes under way have their frames, as their senders wrote them.
use Rattle.std.proofs.Common.{◌≡◌, ℕ, zero, suc, ◌+◌, Bool, true, false, List, [], ◌∷◌, ◌++◌, Option, Some, None, refl, sym, ap, subst, ◌∙◌, ◌⊎◌, inl, inr, length, append_assoc, ◌==◌}
use Rattle.std.specs.Prelude.{slice_get, option_map}
use Rattle.def_op.specs.Frames.{Operation, spelling}
use Rattle.def_machine.specs.Values.{Name}
use Rattle.def_machine.specs.State.{Note, Put, Vat}
use Rattle.def_run.specs.Connections as tables
use Rattle.def_run.specs.Connections.{Connection, asked_in, exported_note, frame_now}
use Rattle.def_run.specs.Wire as wire
use Rattle.def_run.specs.Wire.{Connected, connected_at, with_connected, sight}
use Rattle.def_run.specs.World as world
use Rattle.def_run.specs.World.{Script, Program, Entry, Event, CutLink, Carried, Link, World, Goes, link_at, with_link, with_notes, pushed, severed_link, put_at, readied}
use Rattle.law_machine.specs.Run.Moves.{Deed, Moved, Still, Severs, Drops, Steps, Arrives, Hears, Tells, went, without}
use Rattle.law_machine.proofs.Run.Told.{moves_told}
use Rattle.law_machine.proofs.Run.Honest.{lifted, honest_reached}
use Rattle.law_frame.specs.Frame.Growing.{TablesGrow}
use Rattle.law_frame.specs.Frame.Written.{AreWritten, HaveTheirFrames, NotesHaveTheirFrames, NextFramesAreWritten}
use Rattle.law_frame.proofs.Frame.Grows.{tables_trans, wrote_grows, received_grows}
use Rattle.law_frame.proofs.Frame.Places.{same_or, link_same, link_other, connected_same, connected_other, connected_ends}

-- ---- one link

module _ (v u : ℕ) where
  -- the connection grows in what it reads alone
  later : (c e : Connected) → TablesGrow c.tables e.tables → e.tables.exports ≡ c.tables.exports → e.tables.questions ≡ c.tables.questions
      → (is qs : List Name) (ns : List (Note Name)) (os : List Operation) → AreWritten v u c is qs ns os → AreWritten v u e is qs ns os
  later c e g x q is qs [] [] h = (h.0 ∙ sym x, h.1 ∙ sym q)
  later c e g x q is qs (n ∷ ns) (o ∷ os) h = (h.0, h.1, h.2, tables_trans h.0 c.tables e.tables h.3 g, h.4, later c e g x q (exported_note (sight v u) h.0.answers n is) (qs ++ asked_in (sight v u) n) ns os h.5)
  later c e g x q is qs [] (o ∷ os) h = absurd h
  later c e g x q is qs (n ∷ ns) [] h = absurd h

  -- one more is put
  put_last : (m : Note Name) (c : Connected) → c.from ≡ v → c.to ≡ u → (is qs : List Name) → is ≡ c.tables.exports → qs ≡ c.tables.questions
      → AreWritten v u (wire.wrote m c) is qs (m ∷ []) (frame_now (sight c.from c.to) m c.tables ∷ [])
  unfolding wire.wrote tables.put_on
  put_last m c from to is qs x q = let w = wire.wrote m c in let g = wrote_grows m c in (
    c.tables,
    sym x,
    sym q,
    g.tables,
    ap (λ (a : ℕ). frame_now (sight a c.to) m c.tables) from ∙ ap (λ (b : ℕ). frame_now (sight v b) m c.tables) to,
    (sym (exports from to) ∙ x_is, ap (λ ms. ms ++ asked_in (sight v u) m) q ∙ sym (questions from to)),
  )
    where
      exports : c.from ≡ v → c.to ≡ u → exported_note (sight c.from c.to) c.tables.answers m c.tables.exports ≡ exported_note (sight v u) c.tables.answers m is
      exports from to = ap (λ (a : ℕ). exported_note (sight a c.to) c.tables.answers m c.tables.exports) from ∙ ap (λ (b : ℕ). exported_note (sight v b) c.tables.answers m c.tables.exports) to ∙ ap (λ ms. exported_note (sight v u) c.tables.answers m ms) (sym x)

      x_is : exported_note (sight c.from c.to) c.tables.answers m c.tables.exports ≡ exported_note (sight c.from c.to) c.tables.answers m c.tables.exports
      x_is = refl

      questions : c.from ≡ v → c.to ≡ u → c.tables.questions ++ asked_in (sight c.from c.to) m ≡ c.tables.questions ++ asked_in (sight v u) m
      questions from to = ap (λ (a : ℕ). c.tables.questions ++ asked_in (sight a c.to) m) from ∙ ap (λ (b : ℕ). c.tables.questions ++ asked_in (sight v b) m) to

  put_more : (m : Note Name) (c : Connected) → c.from ≡ v → c.to ≡ u → (is qs : List Name) (ns : List (Note Name)) (os : List Operation) → AreWritten v u c is qs ns os
      → AreWritten v u (wire.wrote m c) is qs (ns ++ m ∷ []) (os ++ frame_now (sight c.from c.to) m c.tables ∷ [])
  put_more m c from to is qs [] [] h = put_last m c from to is qs h.0 h.1
  put_more m c from to is qs (n ∷ ns) (o ∷ os) h = let g = wrote_grows m c in let w : Connected = wire.wrote m c in (h.0, h.1, h.2, tables_trans h.0 c.tables w.tables h.3 g.tables, h.4, put_more m c from to (exported_note (sight v u) h.0.answers n is) (qs ++ asked_in (sight v u) n) ns os h.5)
  put_more m c from to is qs [] (o ∷ os) h = absurd h
  put_more m c from to is qs (n ∷ ns) [] h = absurd h

  abbrev Have : Connected → Connected → List (Note Name) → Type 0
  Have c d notes = HaveTheirFrames v u c d notes

  -- what is so of a link, if it is there and not cut
  abbrev On : Option Link → Connected → Connected → Type 0
  On o c d = (l : Link) → o ≡ Some l → l.cut ≡ false → Have c d l.notes

  have_later : (c e d : Connected) (notes : List (Note Name)) → TablesGrow c.tables e.tables → e.tables.exports ≡ c.tables.exports → e.tables.questions ≡ c.tables.questions → e.written ≡ c.written → Have c d notes → Have e d notes
  have_later c e d notes g x q w h = (h.0, h.1, h.2, w ∙ h.3, h.4, later c e g x q h.2 d.tables.answers notes h.1 h.5)

  have_put : (m : Note Name) (c d : Connected) (notes : List (Note Name)) → c.from ≡ v → c.to ≡ u → Have c d notes → Have (wire.wrote m c) d (notes ++ m ∷ [])
  unfolding wire.wrote
  have_put m c d notes from to h = let o = frame_now (sight c.from c.to) m c.tables in
      (h.0, h.1 ++ o ∷ [], h.2, ap (λ ws. ws ++ o ∷ []) h.3 ∙ append_assoc h.0 h.1 (o ∷ []), h.4, put_more m c from to h.2 d.tables.answers notes h.1 h.5)

  pushed_or : (m : Note Name) (c d : Connected) (l : Link) (b : Bool) → l.cut ≡ b → c.from ≡ v → c.to ≡ u → (l.cut ≡ false → Have c d l.notes)
      → let j : Link = elim b [ true ↦ record l { log = l.log ++ m ∷ [] } | false ↦ record l { notes = l.notes ++ m ∷ []; log = l.log ++ m ∷ [] } ] in j.cut ≡ false → Have (wire.wrote m c) d j.notes
  pushed_or m c d l true e from to h i = absurd (clash l.cut e i)
    where
      clash : (b : Bool) → b ≡ true → b ≡ false → ⊥
      clash b x y = cc
  pushed_or m c d l false e from to h i = have_put m c d l.notes from to (h e)

  pushed_on : (m : Note Name) (c d : Connected) (o : Option Link) → c.from ≡ v → c.to ≡ u → On o c d → On (option_map (pushed m) o) (wire.wrote m c) d
  unfolding pushed
  pushed_on m c d (Some l) from to h j e f = let same : pushed m l ≡ j = some_is e in subst (λ (k : Link). k.cut ≡ false → Have (wire.wrote m c) d k.notes) same (pushed_or m c d l l.cut refl from to (h l refl)) f
    where
      some_is : {x y : Link} → ◌≡◌ {A = Option Link} (Some x) (Some y) → x ≡ y
      some_is e = cc
  pushed_on m c d None from to h j e f = cc

-- ---- the links and connections of a world

abbrev Good : List (Vat Name) → List Link → List Connected → Type 0
Good vats ls cs = (v u : ℕ) → (v ≡ u → ⊥) → (s : Vat Name) → slice_get vats u ≡ Some s → On v u (link_at v u ls) (connected_at v u cs) (connected_at u v cs)

pub pushed_from : (m : Note Name) (l : Link) → (let j : Link = pushed m l in j.from) ≡ l.from
unfolding pushed
pushed_from m l = either l.cut
  where
    either : (b : Bool) → (let j : Link = elim b [ true ↦ record l { log = l.log ++ m ∷ [] } | false ↦ record l { notes = l.notes ++ m ∷ []; log = l.log ++ m ∷ [] } ] in j.from) ≡ l.from
    either true = refl
    either false = refl

pub pushed_to : (m : Note Name) (l : Link) → (let j : Link = pushed m l in j.to) ≡ l.to
unfolding pushed
pushed_to m l = either l.cut
  where
    either : (b : Bool) → (let j : Link = elim b [ true ↦ record l { log = l.log ++ m ∷ [] } | false ↦ record l { notes = l.notes ++ m ∷ []; log = l.log ++ m ∷ [] } ] in j.to) ≡ l.to
    either true = refl
    either false = refl

pub wrote_from : (m : Note Name) (c : Connected) → (let e : Connected = wire.wrote m c in e.from) ≡ c.from
unfolding wire.wrote
wrote_from m c = refl

pub wrote_to : (m : Note Name) (c : Connected) → (let e : Connected = wire.wrote m c in e.to) ≡ c.to
unfolding wire.wrote
wrote_to m c = refl

pub received_from : (c : Connected) (m : Note Name) (d : Connected) → (let e : Connected = wire.received c m d in e.from) ≡ d.from
unfolding wire.received
received_from c m d = refl

pub received_to : (c : Connected) (m : Note Name) (d : Connected) → (let e : Connected = wire.received c m d in e.to) ≡ d.to
unfolding wire.received
received_to c m d = refl

on_same : (v u : ℕ) (o p : Option Link) (c d e f : Connected) → p ≡ o → e ≡ c → f ≡ d → On v u o c d → On v u p e f
on_same v u o p c d e f a b g h = subst (λ (z : Option Link). On v u z e f) (sym a) (subst (λ (z : Connected). On v u o z f) (sym b) (subst (λ (z : Connected). On v u o c z) (sym g) h))

-- the reader's part of what it writes itself
on_wrote : (v u : ℕ) (m : Note Name) (o : Option Link) (c d : Connected) → On v u o c d → On v u o c (wire.wrote m d)
unfolding wire.wrote tables.put_on
on_wrote v u m o c d h = λ l e f. let k = h l e f in (k.0, k.1, k.2, k.3, k.4, k.5)

module _ (vats : List (Vat Name)) where
  put_good : (a b : ℕ) (m : Note Name) (ls : List Link) (cs : List Connected) → Good vats ls cs → Good vats (with_link (pushed m) a b ls) (with_connected (wire.wrote m) a b cs)
  put_good a b m ls cs h v u other s there = either (same_or a b v u) (same_or a b u v)
    where
      before : On v u (link_at v u ls) (connected_at v u cs) (connected_at u v cs)
      before = h v u other s there

      either : ((a ≡ v) × (b ≡ u)) ⊎ (a ≡ v → b ≡ u → ⊥) → ((a ≡ u) × (b ≡ v)) ⊎ (a ≡ u → b ≡ v → ⊥)
          → On v u (link_at v u (with_link (pushed m) a b ls)) (connected_at v u (with_connected (wire.wrote m) a b cs)) (connected_at u v (with_connected (wire.wrote m) a b cs))
      either (inl e) k = let ends = connected_ends v u cs in
          on_same v u (option_map (pushed m) (link_at v u ls)) _ (wire.wrote m (connected_at v u cs)) (connected_at u v cs) _ _
          (ap (λ (x : ℕ). link_at v u (with_link (pushed m) x b ls)) e.0 ∙ ap (λ (y : ℕ). link_at v u (with_link (pushed m) v y ls)) e.1 ∙ link_same (pushed m) (pushed_from m) (pushed_to m) v u ls)
          (ap (λ (x : ℕ). connected_at v u (with_connected (wire.wrote m) x b cs)) e.0 ∙ ap (λ (y : ℕ). connected_at v u (with_connected (wire.wrote m) v y cs)) e.1 ∙ connected_same (wire.wrote m) (wrote_from m) (wrote_to m) v u cs)
          (connected_other (wire.wrote m) (wrote_from m) (wrote_to m) a b u v cs (λ i j. other (sym e.0 ∙ i)))
          (pushed_on v u m (connected_at v u cs) (connected_at u v cs) (link_at v u ls) ends.0 ends.1 before)
      either (inr n) (inl e) = on_same v u (link_at v u ls) _ (connected_at v u cs) (wire.wrote m (connected_at u v cs)) _ _
          (link_other (pushed m) (pushed_from m) (pushed_to m) a b v u ls n)
          (connected_other (wire.wrote m) (wrote_from m) (wrote_to m) a b v u cs n)
          (ap (λ (x : ℕ). connected_at u v (with_connected (wire.wrote m) x b cs)) e.0 ∙ ap (λ (y : ℕ). connected_at u v (with_connected (wire.wrote m) u y cs)) e.1 ∙ connected_same (wire.wrote m) (wrote_from m) (wrote_to m) u v cs)
          (on_wrote v u m (link_at v u ls) (connected_at v u cs) (connected_at u v cs) before)
      either (inr n) (inr k) = on_same v u (link_at v u ls) _ (connected_at v u cs) (connected_at u v cs) _ _
          (link_other (pushed m) (pushed_from m) (pushed_to m) a b v u ls n)
          (connected_other (wire.wrote m) (wrote_from m) (wrote_to m) a b v u cs n)
          (connected_other (wire.wrote m) (wrote_from m) (wrote_to m) a b u v cs k)
          before

  puts_good : (a : ℕ) (ps : List (Put Name)) (ls : List Link) (cs : List Connected) → Good vats ls cs → Good vats (world.push_all a ps ls) (wire.write_all a ps cs)
  unfolding world.push_all wire.write_all
  puts_good a [] ls cs h = h
  puts_good a (p ∷ ps) ls cs h = puts_good a ps (with_link (pushed p.note) a p.to ls) (with_connected (wire.wrote p.note) a p.to cs) (put_good a p.to p.note ls cs h)

-- the same vats are there
pub get_or : (v u : ℕ) (t : Vat Name) (vs : List (Vat Name)) (r : Vat Name) → slice_get (put_at v t vs) u ≡ Some r → (s : Vat Name) × (slice_get vs u ≡ Some s)
unfolding put_at
get_or v u t [] r e = (r, e)
get_or zero zero t (x ∷ vs) r e = (x, refl)
get_or zero (suc u) t (x ∷ vs) r e = (r, e)
get_or (suc v) zero t (x ∷ vs) r e = (r, e)
get_or (suc v) (suc u) t (x ∷ vs) r e = get_or v u t vs r e

good_vats : (v : ℕ) (t : Vat Name) (vats : List (Vat Name)) (ls : List Link) (cs : List Connected) → Good vats ls cs → Good (put_at v t vats) ls cs
good_vats v t vats ls cs h a u other r there = let s = get_or v u t vats r there in h a u other s.0 s.1

-- ---- an arrival

arrived : (v u : ℕ) (c d : Connected) (m : Note Name) (ns : List (Note Name)) → c.from ≡ v → c.to ≡ u → HaveTheirFrames v u c d (m ∷ ns) → HaveTheirFrames v u c (wire.received c m d) ns
unfolding wire.received
arrived v u c d m ns from to h = rest h.0 h.1 h.2 h.3 h.4 h.5
  where
    asked : d.tables.answers ++ asked_in (sight c.from c.to) m ≡ d.tables.answers ++ asked_in (sight v u) m
    asked = ap (λ (a : ℕ). d.tables.answers ++ asked_in (sight a c.to) m) from ∙ ap (λ (b : ℕ). d.tables.answers ++ asked_in (sight v b) m) to

    count : (fs : List Operation) (o : Operation) (k : ℕ) → length fs ≡ k → length (fs ++ o ∷ []) ≡ suc k
    count fs o k e = more fs ∙ ap suc e
      where
        more : (xs : List Operation) → length (xs ++ o ∷ []) ≡ suc (length xs)
        more [] = refl
        more (x ∷ xs) = ap suc (more xs)

    rest : (front os : List Operation) (is : List Name) → c.written ≡ front ++ os → length front ≡ d.heard → AreWritten v u c is d.tables.answers (m ∷ ns) os → HaveTheirFrames v u c (wire.received c m d) ns
    rest front [] is e k w = absurd w
    rest front (o ∷ os) is e k w = (front ++ o ∷ [], os, exported_note (sight v u) w.0.answers m is, e ∙ sym (append_assoc front (o ∷ []) os), count front o d.heard k, subst (λ qs. AreWritten v u c (exported_note (sight v u) w.0.answers m is) qs ns os) (sym asked) w.5)

-- the connection of the receiver, as a sender
on_received : (v u : ℕ) (m : Note Name) (o : Option Link) (p c d : Connected) → On v u o c d → On v u o (wire.received p m c) d
unfolding wire.received
on_received v u m o p c d h = λ l e f. let g = received_grows p m c in have_later v u c (wire.received p m c) d l.notes g.tables refl refl refl (h l e f)

pub notes_from : (ns : List (Note Name)) (l : Link) → (let j : Link = with_notes ns l in j.from) ≡ l.from
unfolding with_notes
notes_from ns l = refl

pub notes_to : (ns : List (Note Name)) (l : Link) → (let j : Link = with_notes ns l in j.to) ≡ l.to
unfolding with_notes
notes_to ns l = refl

module _ (vats : List (Vat Name)) (ls : List Link) (cs : List Connected) (h : Good vats ls cs) (a b : ℕ) (l : Link) (m : Note Name) (ns : List (Note Name)) (at : link_at a b ls ≡ Some l) (uncut : l.cut ≡ false) (notes : l.notes ≡ m ∷ ns) where
  abbrev Read : Connected → Connected
  Read = wire.received (connected_at a b cs) m

  head_on : (o : Option Link) (c d : Connected) → o ≡ Some l → c.from ≡ a → c.to ≡ b → On a b o c d → On a b (option_map (with_notes ns) o) c (wire.received c m d)
  unfolding with_notes
  head_on (Some j) c d e from to h k f i = let same : j ≡ l = some_is e in let is : record j { notes = ns } ≡ k = some_is f in let frames : HaveTheirFrames a b c d (m ∷ ns) = subst (λ ms. HaveTheirFrames a b c d ms) (ap (λ (z : Link). z.notes) same ∙ notes) (h j refl (ap (λ (z : Link). z.cut) same ∙ uncut)) in
      subst (λ (z : Link). HaveTheirFrames a b c (wire.received c m d) z.notes) is (arrived a b c d m ns from to frames)
    where
      some_is : {x y : Link} → ◌≡◌ {A = Option Link} (Some x) (Some y) → x ≡ y
      some_is e = cc
  head_on None c d e from to h k f i = cc

  read_good : Good vats (with_link (with_notes ns) a b ls) (with_connected Read b a cs)
  read_good v u other s there = either (same_or a b v u) (same_or b a v u)
    where
      before : On v u (link_at v u ls) (connected_at v u cs) (connected_at u v cs)
      before = h v u other s there

      either : ((a ≡ v) × (b ≡ u)) ⊎ (a ≡ v → b ≡ u → ⊥) → ((b ≡ v) × (a ≡ u)) ⊎ (b ≡ v → a ≡ u → ⊥)
          → On v u (link_at v u (with_link (with_notes ns) a b ls)) (connected_at v u (with_connected Read b a cs)) (connected_at u v (with_connected Read b a cs))
      either (inl e) k = subst (λ (y : ℕ). On v y (link_at v y (with_link (with_notes ns) a b ls)) (connected_at v y (with_connected Read b a cs)) (connected_at y v (with_connected Read b a cs))) e.1
          (subst (λ (x : ℕ). On x b (link_at x b (with_link (with_notes ns) a b ls)) (connected_at x b (with_connected Read b a cs)) (connected_at b x (with_connected Read b a cs))) e.0 here)
        where
          ends : ((connected_at a b cs).from ≡ a) × ((connected_at a b cs).to ≡ b)
          ends = connected_ends a b cs

          apart : b ≡ a → a ≡ b → ⊥
          apart i j = other (sym e.0 ∙ j ∙ e.1)

          first : On a b (link_at a b ls) (connected_at a b cs) (connected_at b a cs)
          first = subst (λ (y : ℕ). On a y (link_at a y ls) (connected_at a y cs) (connected_at y a cs)) (sym e.1) (subst (λ (x : ℕ). On x u (link_at x u ls) (connected_at x u cs) (connected_at u x cs)) (sym e.0) before)

          here : On a b (link_at a b (with_link (with_notes ns) a b ls)) (connected_at a b (with_connected Read b a cs)) (connected_at b a (with_connected Read b a cs))
          here = on_same a b (option_map (with_notes ns) (link_at a b ls)) _ (connected_at a b cs) (Read (connected_at b a cs)) _ _
              (link_same (with_notes ns) (notes_from ns) (notes_to ns) a b ls)
              (connected_other Read (received_from (connected_at a b cs) m) (received_to (connected_at a b cs) m) b a a b cs apart)
              (connected_same Read (received_from (connected_at a b cs) m) (received_to (connected_at a b cs) m) b a cs)
              (head_on (link_at a b ls) (connected_at a b cs) (connected_at b a cs) at ends.0 ends.1 first)
      either (inr n) (inl e) = on_same v u (link_at v u ls) _ (Read (connected_at v u cs)) (connected_at u v cs) _ _
          (link_other (with_notes ns) (notes_from ns) (notes_to ns) a b v u ls n)
          (ap (λ (x : ℕ). connected_at v u (with_connected Read x a cs)) e.0 ∙ ap (λ (y : ℕ). connected_at v u (with_connected Read v y cs)) e.1 ∙ connected_same Read (received_from (connected_at a b cs) m) (received_to (connected_at a b cs) m) v u cs)
          (connected_other Read (received_from (connected_at a b cs) m) (received_to (connected_at a b cs) m) b a u v cs (λ i j. other (sym e.0 ∙ i)))
          (on_received v u m (link_at v u ls) (connected_at a b cs) (connected_at v u cs) (connected_at u v cs) before)
      either (inr n) (inr k) = on_same v u (link_at v u ls) _ (connected_at v u cs) (connected_at u v cs) _ _
          (link_other (with_notes ns) (notes_from ns) (notes_to ns) a b v u ls n)
          (connected_other Read (received_from (connected_at a b cs) m) (received_to (connected_at a b cs) m) b a v u cs k)
          (connected_other Read (received_from (connected_at a b cs) m) (received_to (connected_at a b cs) m) b a u v cs (λ i j. n j i))
          before

-- ---- what leaves a link for nobody, and cuts

cut_or : (v u : ℕ) (o : Option Link) (c d : Connected) → On v u (option_map severed_link o) c d
unfolding severed_link
cut_or v u (Some l) c d j e f = absurd (clash (record l { cut = true; notes = [] }) j (some_is e) f refl)
  where
    some_is : {x y : Link} → ◌≡◌ {A = Option Link} (Some x) (Some y) → x ≡ y
    some_is e = cc

    clash : (x y : Link) → x ≡ y → y.cut ≡ false → x.cut ≡ true → ⊥
    clash x y e f g = no (sym g ∙ ap (λ (z : Link). z.cut) e ∙ f)
      where
        no : true ≡ false → ⊥
        no e = cc
cut_or v u None c d j e f = cc

pub severed_from : (l : Link) → (let j : Link = severed_link l in j.from) ≡ l.from
unfolding severed_link
severed_from l = refl

pub severed_to : (l : Link) → (let j : Link = severed_link l in j.to) ≡ l.to
unfolding severed_link
severed_to l = refl

cut_good : (vats : List (Vat Name)) (a b : ℕ) (ls : List Link) (cs : List Connected) → Good vats ls cs → Good vats (with_link severed_link a b ls) cs
cut_good vats a b ls cs h v u other s there = either (same_or a b v u)
  where
    either : ((a ≡ v) × (b ≡ u)) ⊎ (a ≡ v → b ≡ u → ⊥) → On v u (link_at v u (with_link severed_link a b ls)) (connected_at v u cs) (connected_at u v cs)
    either (inl e) = on_same v u (option_map severed_link (link_at v u ls)) _ (connected_at v u cs) (connected_at u v cs) _ _
        (ap (λ (x : ℕ). link_at v u (with_link severed_link x b ls)) e.0 ∙ ap (λ (y : ℕ). link_at v u (with_link severed_link v y ls)) e.1 ∙ link_same severed_link severed_from severed_to v u ls) refl refl
        (cut_or v u (link_at v u ls) (connected_at v u cs) (connected_at u v cs))
    either (inr n) = on_same v u (link_at v u ls) _ (connected_at v u cs) (connected_at u v cs) _ _ (link_other severed_link severed_from severed_to a b v u ls n) refl refl (h v u other s there)

none_some : {A : Type 0} (o : Option A) (x : A) → o ≡ None → o ≡ Some x → ⊥
none_some o x e f = cc

drop_good : (vats : List (Vat Name)) (a b : ℕ) (ns : List (Note Name)) (ls : List Link) (cs : List Connected) → slice_get vats b ≡ None → Good vats ls cs → Good vats (with_link (with_notes ns) a b ls) cs
drop_good vats a b ns ls cs none h v u other s there = either (same_or a b v u)
  where
    either : ((a ≡ v) × (b ≡ u)) ⊎ (a ≡ v → b ≡ u → ⊥) → On v u (link_at v u (with_link (with_notes ns) a b ls)) (connected_at v u cs) (connected_at u v cs)
    either (inl e) = absurd (none_some (slice_get vats b) s none (ap (λ (x : ℕ). slice_get vats x) e.1 ∙ there))
    either (inr n) = on_same v u (link_at v u ls) _ (connected_at v u cs) (connected_at u v cs) _ _ (link_other (with_notes ns) (notes_from ns) (notes_to ns) a b v u ls n) refl refl (h v u other s there)

module _ (script : Script) where
  -- ---- moves

  abbrev GoodIn : World → Type 0
  GoodIn w = Good w.vats w.links w.connections

  -- vat v went on to t, and put what it put
  went_good : (w : World) (v : ℕ) (head : List Event) (t : Vat Name) (ls : List Link) (cs : List Connected) → world.heard_by head w.connections ≡ cs → Good w.vats ls cs → Good (put_at v t w.vats) (world.push_all v t.outbox ls) (world.connections_after v t head w.connections)
  unfolding world.connections_after
  went_good w v head t ls cs e h = subst (λ ds. Good (put_at v t w.vats) (world.push_all v t.outbox ls) (wire.write_all v t.outbox ds)) (sym e)
      (puts_good (put_at v t w.vats) v t.outbox ls cs (good_vats v t w.vats ls cs h))

  pub carried_heard : (k a v : ℕ) (n : Note Name) (frame : List ℕ) (cs : List Connected) → world.heard_by (Carried k a v n frame ∷ []) cs ≡ with_connected (wire.received (connected_at a v cs) n) v a cs
  unfolding world.heard_by wire.hear_at
  carried_heard k a v n frame cs = refl

  cuts : (w y : World) (k a b : ℕ) → GoodIn w → world.step script (CutLink a b) k w ≡ Goes y → GoodIn y
  unfolding world.step world.cut
  cuts w y k a b h e = subst GoodIn (going e) (cut_good w.vats b a (with_link severed_link a b w.links) w.connections (cut_good w.vats a b w.links w.connections h))
    where
      going : {x z : World} → Goes x ≡ Goes z → x ≡ z
      going e = cc

  quiet_none : (cs : List Connected) → world.heard_by [] cs ≡ cs
  unfolding world.heard_by
  quiet_none cs = refl

  module _ (Hostile : ℕ → Type 0) (MayNotice : World → ℕ → ℕ → Type 0) (May : World → ℕ → Vat Name → Deed → Type 0) (Lawful : World → ℕ → ℕ → Vat Name → Note Name → Type 0) where
    moved_good : (w y : World) → GoodIn w → Moved script w Hostile MayNotice May Lawful y → GoodIn y
    unfolding went readied without
    moved_good w y h (Still es e) = subst GoodIn (sym e) h
    moved_good w y h (Severs k a b e) = cuts w y k a b h e
    moved_good w y h (Drops a v n ns l es at uncut notes none e) = subst GoodIn (sym e) (drop_good w.vats a v ns w.links w.connections none h)
    moved_good w y h (Steps v s q t what head honest alone may quiet d e) = subst GoodIn (sym e) (went_good w v head t w.links w.connections (quiet w.connections) h)
    moved_good w y h (Arrives a v s t n ns l k frame honest at uncut notes d e) = subst GoodIn (sym e) (went_good w v (Carried k a v n frame ∷ []) t (with_link (with_notes ns) a v w.links) _ (carried_heard k a v n frame w.connections)
        (read_good w.vats w.links w.connections h a v l n ns at uncut notes))
    moved_good w y h (Hears a v s t n ns l k frame hostile at uncut notes there g e) = subst GoodIn (sym e) (went_good w v (Carried k a v n frame ∷ []) t (with_link (with_notes ns) a v w.links) _ (carried_heard k a v n frame w.connections)
        (read_good w.vats w.links w.connections h a v l n ns at uncut notes))
    moved_good w y h (Tells v u s t r ds n hostile there p l o e) = subst GoodIn (sym e) (went_good w v [] r w.links w.connections (quiet_none w.connections) h)

-- ---- the start

all_or : {A : Type 0} (P : A → Type 0) (b : Bool) (xs ys : A) → P xs → P ys → P (elim b [ true ↦ xs | false ↦ ys ])
all_or P true xs ys h k = h
all_or P false xs ys h k = k

abbrev Each : {A : Type 0} → (A → Type 0) → List A → Type 0
Each P [] = Unit {0}
Each P (x ∷ xs) = P x × Each P xs

each_join : {A : Type 0} (P : A → Type 0) (xs ys : List A) → Each P xs → Each P ys → Each P (xs ++ ys)
each_join P [] ys h k = k
each_join P (x ∷ xs) ys h k = (h.0, each_join P xs ys h.1 k)

abbrev Empty : Link → Type 0
Empty l = l.notes ≡ []

links_to_empty : (v w : ℕ) (ps : List Program) → Each Empty (world.links_to v w ps)
unfolding world.links_to
links_to_empty v w [] = tt
links_to_empty v w (p ∷ ps) = all_or (Each Empty) (v == w) (world.links_to v (suc w) ps) _ (links_to_empty v (suc w) ps) (refl, links_to_empty v (suc w) ps)

links_empty : (all : List Program) (v : ℕ) (ps : List Program) → Each Empty (world.links_from all v ps)
unfolding world.links_from
links_empty all v [] = tt
links_empty all v (p ∷ ps) = each_join Empty (world.links_to v zero all) (world.links_from all (suc v) ps) (links_to_empty v zero all) (links_empty all (suc v) ps)

found_or : (b : Bool) (l j : Link) (o : Option Link) → Empty l → (o ≡ Some j → Empty j) → ◌≡◌ {A = Option Link} (elim b [ true ↦ Some l | false ↦ o ]) (Some j) → Empty j
found_or true l j o h k e = let same : l ≡ j = cc in subst Empty same h
found_or false l j o h k e = k e

found_empty : (v u : ℕ) (ls : List Link) (j : Link) → Each Empty ls → link_at v u ls ≡ Some j → Empty j
unfolding link_at
found_empty v u [] j h e = cc
found_empty v u (l ∷ ls) j h e = found_or (world.is_link v u l) l j (link_at v u ls) h.0 (λ f. found_empty v u ls j h.1 f) e

-- nothing was written, heard or asked
abbrev pub Fresh : Connected → Type 0
Fresh c = (c.written ≡ []) × (c.heard ≡ zero) × (c.tables.questions ≡ []) × (c.tables.answers ≡ [])

to_fresh : (v : ℕ) (p : Program) (w : ℕ) (ps : List Program) → Each Fresh (world.connections_to v p w ps)
unfolding world.connections_to world.first_connection
to_fresh v p w [] = tt
to_fresh v p w (q ∷ ps) = all_or (Each Fresh) (v == w) (world.connections_to v p (suc w) ps) _ (to_fresh v p (suc w) ps) ((refl, refl, refl, refl), to_fresh v p (suc w) ps)

pub from_fresh : (all : List Program) (v : ℕ) (ps : List Program) → Each Fresh (world.connections_from all v ps)
unfolding world.connections_from
from_fresh all v [] = tt
from_fresh all v (p ∷ ps) = each_join Fresh (world.connections_to v p zero all) (world.connections_from all (suc v) ps) (to_fresh v p zero all) (from_fresh all (suc v) ps)

pub at_fresh : (v u : ℕ) (cs : List Connected) → Each Fresh cs → Fresh (connected_at v u cs)
unfolding connected_at wire.unconnected
at_fresh v u [] h = (refl, refl, refl, refl)
at_fresh v u (c ∷ cs) h = all_or Fresh (wire.connects v u c) c (connected_at v u cs) h.0 (at_fresh v u cs h.1)

begins_good : (script : Script) → GoodIn script (world.begins script)
unfolding world.begins
begins_good script v u other s there l e f = let cs = world.connections_from script.vats zero script.vats in let c = connected_at v u cs in let d = connected_at u v cs in let a = at_fresh v u cs (from_fresh script.vats zero script.vats) in let b = at_fresh u v cs (from_fresh script.vats zero script.vats) in
    let none : l.notes ≡ [] = found_empty v u (world.links_from script.vats zero script.vats) l (links_empty script.vats zero script.vats) e in
    subst (λ ns. HaveTheirFrames v u c d ns) (sym none) ([], [], c.tables.exports, a.0, sym b.1, (refl, b.3 ∙ sym a.2))

-- ---- the laws

pub have_frames : NotesHaveTheirFrames
have_frames script hs w r v u other l s at uncut there = lifted script _ _ _ _ (GoodIn script) (begins_good script) (λ x y q h m. moved_good script _ _ _ _ x y h (moves_told script _ _ _ _ x y m)) w r v u other s there l at uncut

honest_good : (script : Script) (w x : World) (es : List Entry) (k : ℕ) → world.open_from script zero script.vats (world.begins script) ≡ Goes w → world.steps_from script es k w ≡ Goes x → GoodIn script x
honest_good script w x es k opened stepped = lifted script _ _ _ _ (GoodIn script) (begins_good script) (λ a b q h m. moved_good script _ _ _ _ a b h (moves_told script _ _ _ _ a b m)) x ((honest_reached script).1 w x es k opened stepped)

pub nth_front : {A : Type 0} (front rest : List A) (x : A) → slice_get (front ++ x ∷ rest) (length front) ≡ Some x
nth_front [] rest x = refl
nth_front (y ∷ front) rest x = nth_front front rest x

module _ (v u : ℕ) (x : World) (n : Note Name) where
  abbrev Result : Type 0
  Result = (t : Connection Name) × TablesGrow t (connected_at v u x.connections).tables × (t.questions ≡ (connected_at u v x.connections).tables.answers) × (world.next_frame v u x.connections ≡ spelling (frame_now (sight v u) n t))

  next_is : (front rest : List Operation) (o : Operation) → (connected_at v u x.connections).written ≡ front ++ o ∷ rest → length front ≡ (connected_at u v x.connections).heard → world.next_frame v u x.connections ≡ spelling o
  unfolding world.next_frame wire.frame_due wire.frame_bytes
  next_is front rest o e f = ap wire.frame_bytes (ap (λ ws. slice_get ws (connected_at u v x.connections).heard) e ∙ ap (λ (i : ℕ). slice_get (front ++ o ∷ rest) i) (sym f) ∙ nth_front front rest o)

  first : (ns : List (Note Name)) → HaveTheirFrames v u (connected_at v u x.connections) (connected_at u v x.connections) (n ∷ ns) → Result
  first ns h = by h.0 h.1 h.2 h.3 h.4 h.5
    where
      by : (front os : List Operation) (is : List Name) → (connected_at v u x.connections).written ≡ front ++ os → length front ≡ (connected_at u v x.connections).heard → AreWritten v u (connected_at v u x.connections) is (connected_at u v x.connections).tables.answers (n ∷ ns) os → Result
      by front [] is e k w = absurd w
      by front (o ∷ os) is e k w = (w.0, w.3, w.2, next_is front os o e k ∙ ap spelling w.4)

pub next_written : NextFramesAreWritten
next_written script w x es k opened stepped v u l s n ns other at uncut there notes =
    first v u x n ns (subst (λ ms. HaveTheirFrames v u (connected_at v u x.connections) (connected_at u v x.connections) ms) notes (honest_good script w x es k opened stepped v u other s there l at uncut))
