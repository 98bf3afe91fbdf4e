-- What each move makes of a world.
use Rattle.std.proofs.Common.{◌≡◌, ℕ, Bool, true, false, List, [], ◌∷◌, ◌++◌, Option, Some, None, refl, sym, length}
use Rattle.std.specs.Prelude.{slice_get}
use Rattle.def_machine.specs.Values.{Name, Root}
use Rattle.def_machine.specs.State.{Message, Note, Vat, Done, Gives}
use Rattle.def_machine.specs.Eval.{opening}
use Rattle.def_machine.specs.Arrive.{notice}
use Rattle.law_machine.specs.Machine.Steps.{Step, Opens as Starts, Takes, Receives, Notices, does}
use Rattle.def_run.specs.World as world
use Rattle.def_run.specs.World.{Script, Program, Opens, Entry, Turn, Carry, CutLink, NoticeLink, Event, Turned, Idle, Carried, NoticedAt, Link, World, Goes as Going, names, names_of, read_note, readied, with_link, with_notes, link_at}
use Rattle.law_machine.specs.Run.Moves.{Deed, Move, Opened, Stepped, Swallowed, Says, Moved, Still, Severs, Drops, Steps, Arrives, Hears, Tells, IsAlone, MayBegin, Does, IsHonest, EachMoveIsTold, TellsOfNoNote, went}

going_is : (w x : World) → Going w ≡ Going x → x ≡ w
going_is w x e = cc

turned_quiet : (k v : ℕ) → TellsOfNoNote (Turned k v ∷ [])
unfolding world.heard_by
turned_quiet k v cs = refl

noticed_quiet : (k v to : ℕ) → TellsOfNoNote (NoticedAt k v to ∷ [])
unfolding world.heard_by
noticed_quiet k v to cs = refl

opens_quiet : (v : ℕ) → TellsOfNoNote (Opens v ∷ [])
unfolding world.heard_by
opens_quiet v cs = refl

get_mid : (front : List Program) (p : Program) (ps : List Program) → slice_get (front ++ p ∷ ps) (length front) ≡ Some p
get_mid [] p ps = refl
get_mid (f ∷ fs) p ps = get_mid fs p ps

module _ (script : Script) (Hostile : ℕ → Type 0) (MayNotice : World → ℕ → ℕ → Type 0) (May : World → ℕ → Vat Name → Deed → Type 0) (Lawful : World → ℕ → ℕ → Vat Name → Note Name → Type 0) where
  abbrev M : World → World → Type 0
  M w y = Moved script w Hostile MayNotice May Lawful y

  idle_told : (k : ℕ) (w y : World) → world.idle script k w ≡ Going y → M w y
  unfolding world.idle
  idle_told k w y e = Still (Idle k ∷ []) (going_is (record w { history = w.history ++ Idle k ∷ [] }) y e)

  alone_told : (w y : World) (v : ℕ) (head : List Event) (k : ℕ) (s q : Vat Name) (what : Step Name Name) (d : Done Name (Unit {0})) → (Hostile v → ⊥) → IsAlone what → MayBegin (MayNotice w v) what → TellsOfNoNote head → ((t : Vat Name) → d ≡ Gives tt t → Does script w v s q t what)
      → world.put_back v w head k d ≡ Going y → M w y
  unfolding world.put_back went
  alone_told w y v head k s q what (Gives u t) h a m o f e = Steps v s q t what head h a m o (f t refl) (going_is _ y e)
  alone_told w y v head k s q what other h a m o f e = cc

  turn_queue_told : (k v : ℕ) (w y : World) (s : Vat Name) → (Hostile v → ⊥) → slice_get w.vats v ≡ Some s → (qs : List (Message Name)) → s.queue ≡ qs → world.turn_queue script k v w s qs ≡ Going y → M w y
  unfolding world.turn_queue world.within does
  turn_queue_told k v w y s h i [] q e = idle_told k w y e
  turn_queue_told k v w y s h i (n ∷ ms) q e = alone_told w y v (Turned k v ∷ []) (world.step_number script k) s (record s { queue = ms }) (Takes (world.tree_at script.vats v) script.depth n) _ h tt
      tt (turned_quiet k v) (λ t f. record { there = i; begins = (ms, q, refl, refl, refl); gives = f }) e

  turn_told : (k v : ℕ) (w y : World) → (Hostile v → ⊥) → (o : Option (Vat Name)) → slice_get w.vats v ≡ o → world.turn script k v w o ≡ Going y → M w y
  unfolding world.turn
  turn_told k v w y h None q e = idle_told k w y e
  turn_told k v w y h (Some s) q e = turn_queue_told k v w y s h q s.queue refl e

  carried_told : (w y : World) (a v : ℕ) (i : ℕ) (frame : List ℕ) (k : ℕ) (s : Vat Name) (n : Note Name) (ns : List (Note Name)) (l : Link) (d : Done Name (Unit {0})) → (Hostile v → ⊥) → link_at a v w.links ≡ Some l → l.cut ≡ false → l.notes ≡ n ∷ ns
      → ((t : Vat Name) → d ≡ Gives tt t → Does script w v s s t (Receives a (read_note (names_of s) n))) → world.put_back v (record w { links = with_link (with_notes ns) a v w.links }) (Carried i a v n frame ∷ []) k d ≡ Going y → M w y
  unfolding world.put_back went
  carried_told w y a v i frame k s n ns l (Gives u t) h at c j f e = Arrives a v s t n ns l i frame h at c j (f t refl) (going_is _ y e)
  carried_told w y a v i frame k s n ns l other h at c j f e = cc

  arrives_told : (k a v : ℕ) (w y : World) (n : Note Name) (ns : List (Note Name)) (l : Link) → (Hostile v → ⊥) → link_at a v w.links ≡ Some l → l.cut ≡ false → l.notes ≡ n ∷ ns → (o : Option (Vat Name)) → slice_get w.vats v ≡ o
      → world.arrives script k a v (record w { links = with_link (with_notes ns) a v w.links }) n o ≡ Going y → M w y
  unfolding world.arrives world.within world.idle does readied
  arrives_told k a v w y n ns l h i c j None q e = Drops a v n ns l (Idle k ∷ []) i c j q (going_is _ y e)
  arrives_told k a v w y n ns l h i c j (Some s) q e = carried_told w y a v k (world.next_frame a v w.connections) (world.step_number script k) s n ns l _ h i c j (λ t f. record { there = q; begins = refl; gives = f }) e

  carry_notes_told : (k a v : ℕ) (w y : World) (l : Link) → (Hostile v → ⊥) → link_at a v w.links ≡ Some l → l.cut ≡ false → (ns : List (Note Name)) → l.notes ≡ ns → world.carry_notes script k a v w ns ≡ Going y → M w y
  unfolding world.carry_notes
  carry_notes_told k a v w y l h i c [] j e = idle_told k w y e
  carry_notes_told k a v w y l h i c (n ∷ ns) j e = arrives_told k a v w y n ns l h i c j (slice_get w.vats v) refl e

  carry_cut_told : (k a v : ℕ) (w y : World) (l : Link) → (Hostile v → ⊥) → link_at a v w.links ≡ Some l → (b : Bool) → l.cut ≡ b → elim b [ true ↦ world.idle script k w | false ↦ world.carry_notes script k a v w l.notes ] ≡ Going y → M w y
  carry_cut_told k a v w y l h i true c e = idle_told k w y e
  carry_cut_told k a v w y l h i false c e = carry_notes_told k a v w y l h i c l.notes refl e

  carry_link_told : (k a v : ℕ) (w y : World) → (Hostile v → ⊥) → (o : Option Link) → link_at a v w.links ≡ o → world.carry_link script k a v w o ≡ Going y → M w y
  unfolding world.carry_link
  carry_link_told k a v w y h None i e = idle_told k w y e
  carry_link_told k a v w y h (Some l) i e = carry_cut_told k a v w y l h i l.cut refl e

  notice_told : (k v to : ℕ) (w y : World) → (Hostile v → ⊥) → MayNotice w v to → (o : Option (Vat Name)) → slice_get w.vats v ≡ o → world.within v w (NoticedAt k v to ∷ []) (world.step_number script k) (notice (names script v) to) o ≡ Going y → M w y
  unfolding world.within does
  notice_told k v to w y h m None q e = cc
  notice_told k v to w y h m (Some s) q e = alone_told w y v (NoticedAt k v to ∷ []) (world.step_number script k) s s (Notices to) _ h tt m (noticed_quiet k v to) (λ t f. record { there = q; begins = refl; gives = f }) e

  entry_told : (entry : Entry) (k : ℕ) (w y : World) → IsHonest script Hostile MayNotice May Lawful w entry → world.step script entry k w ≡ Going y → M w y
  unfolding world.step
  entry_told (Turn v) k w y h e = turn_told k v w y h (slice_get w.vats v) refl e
  entry_told (Carry a v) k w y h e = carry_link_told k a v w y h (link_at a v w.links) refl e
  entry_told (CutLink a b) k w y h e = Severs k a b e
  entry_told (NoticeLink v to) k w y h e = notice_told k v to w y h.0 h.1 (slice_get w.vats v) refl e

  opens_told : (v : ℕ) (p : Program) (w y : World) → (Hostile v → ⊥) → slice_get script.vats v ≡ Some p → (o : Option (Vat Name)) → slice_get w.vats v ≡ o
      → world.within v w (Opens v ∷ []) v (opening (names script v) p.tree script.depth (Root v) (world.given script.vats p.knows)) o ≡ Going y → M w y
  unfolding world.within does
  opens_told v p w y h t None q e = cc
  opens_told v p w y h t (Some s) q e = alone_told w y v (Opens v ∷ []) v s s (Starts p.tree script.depth (Root v) (world.given script.vats p.knows)) _ h tt
      tt (opens_quiet v) (λ r f. record { there = q; begins = (p, t, refl, refl, refl, refl, refl); gives = f }) e

  opened_told : (front rest : List Program) (p : Program) (w y : World) → (Hostile (length front) → ⊥) → script.vats ≡ front ++ p ∷ rest → world.open_vat script (length front) p w ≡ Going y → M w y
  unfolding world.open_vat
  opened_told front rest p w y h i e = opens_told (length front) p w y h (rw (sym i) at (get_mid front p rest)) (slice_get w.vats (length front)) refl e

  told : (w y : World) → Move script Hostile MayNotice May Lawful w y → M w y
  told w y (Opened front rest p h i e) = opened_told front rest p w y h i e
  told w y (Stepped entry k h e) = entry_told entry k w y h e
  told w y (Swallowed k a v l n ns s t h i c j q f e) = Hears a v s t n ns l k (world.next_frame a v w.connections) h i c j q f e
  told w y (Says v u s t r ds n h i p l o e) = Tells v u s t r ds n h i p l o e

pub moves_told : EachMoveIsTold
moves_told script Hostile MayNotice May Lawful w y m = told script Hostile MayNotice May Lawful w y m
