-- Names stand, in each world that is reached with hostile vats, as they do in runs.
use Rattle.std.proofs.Common.{◌≡◌, ℕ, ◌≤◌, zero, suc, Bool, true, false, List, [], ◌∷◌, ◌++◌, Some, refl, sym, subst, ◌⊎◌, inl, inr, length, arith}
use Rattle.std.specs.Prelude.{slice_get}
use Rattle.def_machine.specs.Values.{Name, Root, host_of}
use Rattle.def_machine.specs.State.{Note, Vat, Gives}
use Rattle.def_run.specs.Wire.{Connected}
use Rattle.def_run.specs.World as world
use Rattle.def_machine.specs.Arrive as arrive
use Rattle.def_machine.specs.Receive.{receive}
use Rattle.def_run.specs.World.{Script, Program, Event, Carried, Link, World, Goes as Going, names, names_of, read_note, put_at, readied}
use Rattle.law_fate.specs.Name.Names.{Bit, bare, Once, AllOf, promises_of, messages_of, IsMade, IsHad, NoteOk, names_in}
use Rattle.law_fate.proofs.Name.Facts.{all_map, all_end, note_up}
use Rattle.law_fate.proofs.Name.Care.{parts_up}
use Rattle.law_fate.proofs.Name.Among.{among_more, is_made_up}
use Rattle.law_fate.proofs.Name.Run.{Stands, VatStands, LinkStands, Told, Had, Inside, low_at, sound_ready, knows_ready, step_stands, open_stands}
use Rattle.law_reference.proofs.Reference.RunLift.{put_at_or, links_made}
use Rattle.law_reference.proofs.Reference.OwnRuns.{begins_stand}
use Rattle.law_machine.specs.Run.Moves.{Move, Opened, Stepped, Swallowed, Says, AnyNotice, went, without, hear}
use Rattle.law_adversary.specs.Moves.{FrameMove, Usual, Recorded, Framed, Received, entered_at, sight_at, framed_on, placed_from}
use Rattle.law_adversary.proofs.Lift.{frames_lifted}
use Rattle.law_hostile.specs.Hostile as hostile
use Rattle.law_hostile.specs.Hostile.{May, Lawful, IsHostile, IsReached}
use Rattle.law_hostile.specs.Entering.{HoldsOfEntries}
use Rattle.law_hostile.proofs.EnteredNames.{made_entries}
use Rattle.law_hostile.proofs.Comes.{TellsAs, Drew, as_before, one_more, Coming, Passes, Lands, comes}
use Rattle.law_hostile.proofs.Deeds.{GrewTo, OkAt, stays, says_goes, hear_goes, arrive_goes}
use Rattle.law_hostile.proofs.Links.{with_link_holds, found_holds, push_all_holds}

get_mid : (front : List Program) (p : Program) (ps : List Program) → slice_get (front ++ p ∷ ps) (length front) ≡ Some p
get_mid [] p ps = refl
get_mid (f ∷ fs) p ps = get_mid fs p ps

promises_put : (vats : List (Vat Name)) (v : ℕ) (s t : Vat Name) (u : ℕ) → slice_get vats v ≡ Some s → s.promises ≤ t.promises → promises_of vats u ≤ promises_of (put_at v t vats) u
unfolding put_at promises_of
promises_put [] v s t u e h = cc
promises_put (x ∷ xs) zero s t zero e h = let same : x ≡ s = cc in rw (sym same) at h
promises_put (x ∷ xs) (suc v) s t (suc u) e h = promises_put xs v s t u e h
promises_put (x ∷ xs) other s t another e h = omega arith

messages_put : (vats : List (Vat Name)) (v : ℕ) (s t : Vat Name) (u : ℕ) → slice_get vats v ≡ Some s → s.messages ≤ t.messages → messages_of vats u ≤ messages_of (put_at v t vats) u
unfolding put_at messages_of
messages_put [] v s t u e h = cc
messages_put (x ∷ xs) zero s t zero e h = let same : x ≡ s = cc in rw (sym same) at h
messages_put (x ∷ xs) (suc v) s t (suc u) e h = messages_put xs v s t u e h
messages_put (x ∷ xs) other s t another e h = omega arith

abbrev Holding : (Note Name → Type 0) → Link → Type 0
Holding P l = AllOf P l.notes

pushed_stands : (P : Note Name → Type 0) (n : Note Name) → P n → (b : Bool) (l : Link) → Holding P l → Holding P (elim b [ true ↦ record l { log = l.log ++ n ∷ [] } | false ↦ record l { notes = l.notes ++ n ∷ []; log = l.log ++ n ∷ [] } ])
pushed_stands P n h true l i = i
pushed_stands P n h false l i = all_end P l.notes n i h

module _ (script : Script) where
  -- ---- a vat went on, soundly

  module _ (w : World) (v : ℕ) (s r : Vat Name) (there : slice_get w.vats v ≡ Some s) (h : Stands script w) (grown : GrewTo script w v s there (low_at script w h v s there) (readied w s) r) where
    made_next : (b : Bit Name) → IsMade w.vats w.drawn b → IsMade (put_at v r w.vats) r.drawn b
    unfolding readied
    made_next b i = let g = grown.0 in is_made_up w.vats (put_at v r w.vats) w.drawn r.drawn (λ u. promises_put w.vats v s r u there g.promises) (λ u. messages_put w.vats v s r u there g.messages) g.draws b i

    other_next : (x : World) → x.vats ≡ put_at v r w.vats → x.drawn ≡ r.drawn → (u : ℕ) (q : Vat Name) → VatStands script w u q → VatStands script x u q
    other_next x a d u q k = record {
      parts = parts_up (Had script w u q) (Had script x u q) (λ b i. (rw (sym a, sym d) at (made_next b i.0), i.1, i.2, i.3)) q.things q.slots q.lists q.queue q.known q.gifts q.outbox k.parts;
      kept = k.kept;
      roots = k.roots;
      low = k.low;
    }

    this_next : (x : World) → x.vats ≡ put_at v r w.vats → x.drawn ≡ r.drawn → VatStands script x v r
    unfolding readied
    this_next x a d = let g = grown.0 in record {
      parts = parts_up (OkAt script w v s there (low_at script w h v s there) r) (Had script x v r) (λ b i. (rw (sym a, sym d) at i.0, i.1, i.2, i.3)) r.things r.slots r.lists r.queue r.known r.gifts r.outbox grown.1.parts;
      kept = grown.1.more;
      roots = λ p i. all_map (λ u j. g.names (Root u) j) (v ∷ p.knows) ((h.vats v s there).roots p i);
      low = (h.vats v s there).low;
    }

    each_next : (x : World) → x.vats ≡ put_at v r w.vats → x.drawn ≡ r.drawn → (u : ℕ) (q : Vat Name) → ((u ≡ v) × (r ≡ q)) ⊎ (slice_get w.vats u ≡ Some q) → VatStands script x u q
    each_next x a d u q (inl e) = let one : VatStands script x u r = rw (sym e.0) at (this_next x a d) in rw e.1 at one
    each_next x a d u q (inr e) = other_next x a d u q (h.vats u q e)

    abbrev Next_told : Bit Name → Type 0
    Next_told b = IsMade (put_at v r w.vats) r.drawn b × Inside script (bare b)

    abbrev Stood : Link → Type 0
    Stood l = AllOf (NoteOk Next_told) l.notes

    pushing : (n : Note Name) → NoteOk Next_told n → (l : Link) → Stood l → Stood (world.pushed n l)
    unfolding world.pushed
    pushing n i l k = pushed_stands (NoteOk Next_told) n i l.cut l k

    links_next : AllOf Stood (world.push_all v r.outbox w.links)
    links_next = push_all_holds Stood v r.outbox w.links (all_map (λ p i l e f k. pushing p.note (note_up (OkAt script w v s there (low_at script w h v s there) r) Next_told (λ b j. (j.0, j.3)) p.note i.0) l k) r.outbox grown.1.parts.outbox)
        (all_map (λ l i. all_map (λ m j. note_up (Told script w) Next_told (λ b j. (made_next b j.0, j.1)) m j) l.notes i) w.links h.links)

    pub went_stands : (head : List Event) → Stands script (went v w head r)
    unfolding went
    went_stands head = record { vats = λ u q j. each_next (record { fuel = r.fuel; drawn = r.drawn; vats = put_at v r w.vats; links = world.push_all v r.outbox w.links; connections = world.connections_after v r head w.connections; history = w.history ++ head ++ world.events_of w.links v r.happened }) refl refl u q (put_at_or v r w.vats u q j); links = links_next }

  -- ---- a note leaves its link

  pub left_stands : (a v : ℕ) (l : Link) (n : Note Name) (ns : List (Note Name)) (w : World) → world.link_at a v w.links ≡ Some l → l.notes ≡ n ∷ ns → Stands script w → Stands script (without a v ns w) × NoteOk (Told script w) n
  unfolding without world.with_notes
  left_stands a v l n ns w i e h = let found = found_holds (LinkStands script w) a v w.links l h.links i in let both : AllOf (NoteOk (Told script w)) (n ∷ ns) = rw e at found.0 in (
    record {
      vats = λ u s j. let g = h.vats u s j in record { parts = g.parts; kept = g.kept; roots = g.roots; low = g.low };
      links = with_link_holds (LinkStands script w) (world.with_notes ns) a v (λ j f g k. both.1) w.links h.links;
    },
    both.0,
  )

  -- what is not changed by it
  without_vats : (a v : ℕ) (ns : List (Note Name)) (w : World) (u : ℕ) (s : Vat Name) → slice_get w.vats u ≡ Some s → slice_get (without a v ns w).vats u ≡ Some s
  unfolding without
  without_vats a v ns w u s e = e

  without_ready : (a v : ℕ) (ns : List (Note Name)) (w : World) (s t : Vat Name) (n : Note Name) (u : ℕ) → hear script u n (readied w s) ≡ Gives tt t → hear script u n (readied (without a v ns w) s) ≡ Gives tt t
  unfolding without readied
  without_ready a v ns w s t n u e = e

  without_told : (a v : ℕ) (ns : List (Note Name)) (w : World) (n : Note Name) → NoteOk (Told script w) n → NoteOk (Told script (without a v ns w)) n
  unfolding without
  without_told a v ns w n h = h

  -- ---- a note is received

  -- what was told stays so as an entry
  pub told_entries : (w : World) → HoldsOfEntries (Told script w)
  unfolding host_of
  told_entries w = let made = made_entries w.vats w.drawn in record {
    unmarked = λ h i p. (made.unmarked h i p.0, λ k. p.1 k);
    placed_too = λ h i p. (made.placed_too h i p.0, λ k. p.1 k);
    passed = λ h i p q. (made.passed h i p.0 q.0, λ k. p.1 k);
  }

  made_drew : (w : World) (i : ℕ) (b : Bit Name) → IsMade w.vats w.drawn b → IsMade w.vats (w.drawn ++ i ∷ []) b
  made_drew w i b h = is_made_up w.vats w.vats w.drawn (w.drawn ++ i ∷ []) (λ u. omega arith) (λ u. omega arith) (λ x a. among_more x w.drawn i a) b h

  pub drew_told : (w x : World) (n : Note Name) → Drew w x → NoteOk (Told script w) n → NoteOk (Told script x) n
  drew_told w _ n as_before h = h
  drew_told w _ n (one_more i) h = note_up (Told script w) (Told script (record w { drawn = w.drawn ++ i ∷ [] })) (λ b k. (made_drew w i b k.0, k.1)) n h

  pub drew_stands : (w x : World) → Drew w x → Stands script w → Stands script x
  drew_stands w _ as_before h = h
  drew_stands w _ (one_more i) h = let x : World = record w { drawn = w.drawn ++ i ∷ [] } in record {
    vats = λ u s j. let g = h.vats u s j in record { parts = parts_up (Had script w u s) (Had script x u s) (λ b k. (made_drew w i b k.0, k.1, k.2, k.3)) s.things s.slots s.lists s.queue s.known s.gifts s.outbox g.parts; kept = g.kept; roots = g.roots; low = g.low };
    links = all_map (λ l k. all_map (λ m j. note_up (Told script w) (Told script x) (λ b z. (made_drew w i b z.0, z.1)) m j) l.notes k) w.links h.links;
  }

  pub drew_vat : (w x : World) (v : ℕ) (s : Vat Name) → Drew w x → slice_get w.vats v ≡ Some s → slice_get x.vats v ≡ Some s
  drew_vat w _ v s as_before e = e
  drew_vat w _ v s (one_more i) e = e

  landed_stands : (w : World) (a v : ℕ) (l : Link) (n m : Note Name) (ns : List (Note Name)) (s t : Vat Name) (head : List Event) → world.link_at a v w.links ≡ Some l → l.notes ≡ n ∷ ns → slice_get w.vats v ≡ Some s → Stands script w → TellsAs v n m
      → arrive.arrive (names script v) a (read_note (names_of s) m) (readied w s) ≡ Gives tt t → Stands script (went v (without a v ns w) head t)
  unfolding without readied
  landed_stands w a v l n m ns s t head i j q h alike f = let x : World = without a v ns w in let left = left_stands a v l n ns w i j h in let g : Stands script x = left.0 in let there = without_vats a v ns w v s q in let at = g.vats v s there in
      let ok : NoteOk (Told script x) m = alike.names (Told script x) (told_entries x) (without_told a v ns w n left.1) in
      went_stands x v s t there g (arrive_goes script x v s there (low_at script x g v s there) a m (readied x s) t ok (sound_ready script v x s s there refl refl g at.parts at.kept) (knows_ready script v x s s there refl refl g at.parts at.kept) f) head

  drawn_apart : (w : World) (i a v : ℕ) (ns : List (Note Name)) (head : List Event) (t : Vat Name) → Stands script (went v (without a v ns (record w { drawn = w.drawn ++ i ∷ [] })) head t) → Stands script (went v (without a v ns w) head t)
  unfolding went without
  drawn_apart w i a v ns head t h = h

  pub received_stands : (w : World) (a v : ℕ) (l : Link) (n : Note Name) (ns : List (Note Name)) (s t : Vat Name) (head : List Event) → world.link_at a v w.links ≡ Some l → l.notes ≡ n ∷ ns → slice_get w.vats v ≡ Some s → Stands script w → Coming script w a v s t n
      → Stands script (went v (without a v ns w) head t)
  unfolding without readied
  received_stands w a v l n ns s t head i j q h (Passes none same) = let x : World = without a v ns w in let left = left_stands a v l n ns w i j h in let g : Stands script x = left.0 in let there = without_vats a v ns w v s q in let at = g.vats v s there in let low = low_at script x g v s there in
      went_stands x v s t there g (subst (λ z. GrewTo script x v s there low (readied x s) z) same (stays script x v s there low (readied x s) (sound_ready script v x s s there refl refl g at.parts at.kept))) head
  received_stands w a v l n ns s t head i j q h (Lands _ m as_before alike f) = landed_stands w a v l n m ns s t head i j q h alike f
  received_stands w a v l n ns s t head i j q h (Lands _ m (one_more z) alike f) = let x : World = record w { drawn = w.drawn ++ z ∷ [] } in drawn_apart w z a v ns head t (landed_stands x a v l n m ns s t head i j q (drew_stands w x (one_more z) h) alike f)

  -- ---- moves

  module _ (hs : List ℕ) where
    abbrev pub Moves : World → World → Type 0
    Moves w y = FrameMove script (IsHostile hs) AnyNotice (λ w v s d. May script w v s d) (λ w v u s n. Lawful script w v u s n) (λ w v u s n op new. Lawful script w v u s n) w y

    abbrev pub Usually : World → World → Type 0
    Usually w y = Move script (IsHostile hs) AnyNotice (λ w v s d. May script w v s d) (λ w v u s n. Lawful script w v u s n) w y

    is_so : (x y : World) → Stands script x → y ≡ x → Stands script y
    is_so x y h e = rw (sym e) at h

    opened_stands_so : (front rest : List Program) (p : Program) (w y : World) → script.vats ≡ front ++ p ∷ rest → Stands script w → world.open_vat script (length front) p w ≡ Going y → Stands script y
    unfolding world.open_vat
    opened_stands_so front rest p w y i h e = open_stands script (length front) p w y (rw (sym i) at (get_mid front p rest)) h (slice_get w.vats (length front)) refl e

    pub heard_stands : (k a v : ℕ) (l : Link) (n : Note Name) (ns : List (Note Name)) (s t : Vat Name) (w : World) (head : List Event) → world.link_at a v w.links ≡ Some l → l.notes ≡ n ∷ ns → slice_get w.vats v ≡ Some s → hear script v n (readied w s) ≡ Gives tt t → Stands script w → Stands script (went v (without a v ns w) head t)
    unfolding readied
    heard_stands k a v l n ns s t w head i j q f h = let x : World = without a v ns w in let left = left_stands a v l n ns w i j h in let g : Stands script x = left.0 in let there = without_vats a v ns w v s q in let at = g.vats v s there in
        went_stands x v s t there g (hear_goes script x v s there (low_at script x g v s there) n (readied x s) t (without_told a v ns w n left.1) (sound_ready script v x s s there refl refl g at.parts at.kept) (knows_ready script v x s s there refl refl g at.parts at.kept) (without_ready a v ns w s t n v f)) head

    -- what stands in frames, and the lines, do not matter
    pub beside_stands : (w : World) (es : List Event) (cs : List Connected) → Stands script w → Stands script (record w { connections = cs; history = es })
    beside_stands w es cs h = record { vats = λ u s j. let g = h.vats u s j in record { parts = g.parts; kept = g.kept; roots = g.roots; low = g.low }; links = h.links }

    -- a move without frames
    pub usual_stands : (w y : World) → Stands script w → Usually w y → Stands script y
    usual_stands w y h (Opened front rest p o i e) = opened_stands_so front rest p w y i h e
    usual_stands w y h (Stepped entry k o e) = step_stands script entry k w y h e
    usual_stands w y h (Swallowed k a v l n ns s t o i c j q f e) = is_so _ y (heard_stands k a v l n ns s t w _ i j q f h) e
    usual_stands w y h (Says v u s t r ds n o i p l f e) = let g = h.vats v s i in
        is_so (went v w [] r) y (went_stands w v s r i h (says_goes script w v s i (low_at script w h v s i) (IsHostile hs) AnyNotice u ds n (readied w s) t r (sound_ready script v w s s i refl refl h g.parts g.kept) p l f) []) e

    pub came_stands : (w : World) (k a v : ℕ) (l : Link) (n : Note Name) (ns : List (Note Name)) (s t : Vat Name) (head : List Event) → world.link_at a v w.links ≡ Some l → l.notes ≡ n ∷ ns → slice_get w.vats v ≡ Some s → Stands script w
        → receive (names script v) (sight_at w a v s) a (read_note (names_of s) (entered_at w a v s n)) (readied w s) ≡ Gives tt t → Stands script (went v (without a v ns w) head t)
    came_stands w k a v l n ns s t head i j q h f = received_stands w a v l n ns s t head i j q h (comes script w a v s t n _ (sight_at w a v s) f)

    pub move_stands : (w y : World) → Stands script w → Moves w y → Stands script y
    move_stands w y h (Usual m) = usual_stands w y h m
    move_stands w y h (Recorded b o es e) = is_so _ y (beside_stands w (w.history ++ es) w.connections h) e
    move_stands w y h (Framed v u s t r ds n op new o i p l f e) = let x : World = went v w [] r in is_so (framed_on w v u op n new x) y (beside_stands x x.history _ (usual_stands w x h (Says v u s t r ds n o i p l f refl))) e
    move_stands w y h (Received b p k a v l n ns s t o i c j q f e) = let x : World = went v (without a v ns w) (Carried k a v (entered_at w a v s n) (world.next_frame a v w.connections) ∷ []) t in
        is_so (placed_from a v (entered_at w a v s n) w t x) y (beside_stands x x.history _ (came_stands w k a v l n ns s t _ i j q h f)) e

    pub reached_stands : ((v : ℕ) (p : Program) → slice_get script.vats v ≡ Some p → Once (v ∷ p.knows)) → (w : World) → IsReached script hs w → Stands script w
    reached_stands once w r = frames_lifted script (IsHostile hs) AnyNotice (λ w v s d. May script w v s d) (λ w v u s n. Lawful script w v u s n) (λ w v u s n op new. Lawful script w v u s n) (Stands script) (begins_stand script once) (λ w y q h m. move_stands w y h m) w r

pub names_are_known : hostile.NamesAreKnown
names_are_known script once hs w r v s i = let g = (reached_stands script hs once w r).vats v s i in parts_up (Had script w v s) (IsHad (names_in s.known) s.mails) (λ b k. k.1) s.things s.slots s.lists s.queue s.known s.gifts s.outbox g.parts

pub notes_name_what_was_made : hostile.NotesNameWhatWasMade
notes_name_what_was_made script once hs w r = links_made script w (reached_stands script hs once w r)
