-- What an entry, or an opening turn, makes of a world of a run: nothing, a cut, or a step of one vat.
use Rattle.std.proofs.Common.{◌≡◌, ℕ, zero, suc, ◌+◌, ◌≤◌, ap, arith, Bool, true, false, List, [], ◌∷◌, ◌++◌, Option, Some, None, refl, sym, ◌∙◌, length, append_assoc, append-nil}
use Rattle.std.specs.Prelude.{slice_get}
use Rattle.def_machine.specs.Values.{Name, Root, Answer, Msg}
use Rattle.def_machine.specs.State.{Message, Note, Vat, Done, Gives}
use Rattle.def_machine.specs.Eval.{opening}
use Rattle.def_machine.specs.Arrive.{notice}
use Rattle.law_machine.specs.Machine.Steps.{Step, Opens as Starts, Takes, Receives, Notices, does}
use Rattle.def_run.specs.World as world
use Rattle.def_run.specs.World.{Script, Program, Opens, Entry, Turn, Carry, CutLink, NoticeLink, Event, Turned, Idle, Carried, NoticedAt, Link, World, Run, Goes as Going, Stopped, names, names_of, read_note, readied, put_at, push_all, with_link, with_notes, severed_link, link_at}
use Rattle.law_fate.specs.Name.Names.{AllOf, NoteOk}
use Rattle.law_fate.proofs.Name.Facts.{MayBe}
use Rattle.law_fate.proofs.Name.Among.{length_end}
use Rattle.law_fate.proofs.Name.Run.{Stands, Told}
use Rattle.law_fate.specs.Fates.Fate.{one as same_one, among, at_vat}
use Rattle.law_reference.proofs.Reference.Gentle.{AfterGives}
use Rattle.law_reference.proofs.Reference.RunLift.{link_ok}
use Rattle.law_reference.specs.Reference.Behind.{NamesNot}
use Rattle.law_reference.proofs.Reference.FreshSteps.{OneLeg, FreshOut, quiet_fresh, turn_fresh, opening_fresh}
use Rattle.law_reference.proofs.Reference.QuietSteps.{notice_quiet, note_quiet}
use Rattle.law_reference.proofs.Reference.FirstSteps.{FirstOut, turn_first, notice_first, opening_first, note_first}

-- a step that no note begins
abbrev pub IsAlone : Step Name Name → Type 0
IsAlone (Receives from n) = ⊥
IsAlone other = Unit {0}

-- the message that is taken from the queue
unfoldable pub waiting : Name → Step Name Name → ℕ
waiting x (Takes tree depth n) = same_one n.id x
waiting x other = 0

module _ (script : Script) (w : World) where
  -- From what a step begins: an opening turn of the vat's program, the first message of its queue, or the vat as it is.
  abbrev pub Begins : ℕ → Vat Name → Vat Name → Step Name Name → Type 0
  Begins v s q (Starts tree depth root given) = (p : Program) × (slice_get script.vats v ≡ Some p) × (q ≡ s) × (root ≡ Root v) × (given ≡ world.given script.vats p.knows)
  Begins v s q (Takes tree depth n) = (ms : List (Message Name)) × (s.queue ≡ n ∷ ms) × (q ≡ record s { queue = ms })
  Begins v s q other = q ≡ s

  -- a step of vat v, from s, which is readied as q, to t
  pub record Does (v : ℕ) (s q t : Vat Name) (what : Step Name Name) : Type 0 where
    pub there : slice_get w.vats v ≡ Some s
    pub number : q.number ≡ s.number
    pub known : q.known ≡ s.known
    pub promises : q.promises ≡ s.promises
    pub messages : q.messages ≡ s.messages
    pub gifts : q.gifts ≡ s.gifts
    pub waits : (x : Name) → waiting x what + at_vat x q ≤ at_vat x s
    pub begins : Begins v s q what
    pub gives : does (names script v) what (readied w q) ≡ Gives tt t

  pub data Moved (y : World) : Type 0 where
    Still : y.vats ≡ w.vats → y.links ≡ w.links → y.drawn ≡ w.drawn → Moved y
    Severs : (a b : ℕ) → y.vats ≡ w.vats → y.links ≡ with_link severed_link b a (with_link severed_link a b w.links) → y.drawn ≡ w.drawn → Moved y
    -- there is no such vat
    Drops : (a v : ℕ) (n : Note Name) (ns : List (Note Name)) (l : Link) → link_at a v w.links ≡ Some l → l.notes ≡ n ∷ ns → slice_get w.vats v ≡ None → y.vats ≡ w.vats → y.links ≡ with_link (with_notes ns) a v w.links → y.drawn ≡ w.drawn → Moved y
    Steps : (v : ℕ) (s q t : Vat Name) (what : Step Name Name) → IsAlone what → Does v s q t what → y.vats ≡ put_at v t w.vats → y.links ≡ push_all v t.outbox w.links → y.drawn ≡ t.drawn
        → ((g : ℕ) (m : Msg) → (g ≡ v → ⊥) → FirstOut g m s t) → FreshOut v s t → Moved y
    Arrives : (a v : ℕ) (s t : Vat Name) (n : Note Name) (ns : List (Note Name)) (l : Link) → link_at a v w.links ≡ Some l → l.cut ≡ false → l.notes ≡ n ∷ ns → Does v s s t (Receives a (read_note (names_of s) n))
        → y.vats ≡ put_at v t w.vats → y.links ≡ push_all v t.outbox (with_link (with_notes ns) a v w.links) → y.drawn ≡ t.drawn
        → ((g : ℕ) (m : Msg) → (g ≡ v → ⊥) → NamesNot (Answer g m) n → FirstOut g m s t) → FreshOut v s t → Moved y

pub get_mid : (front : List Program) (p : Program) (ps : List Program) → slice_get (front ++ p ∷ ps) (length front) ≡ Some p
get_mid [] p ps = refl
get_mid (f ∷ fs) p ps = get_mid fs p ps

pub going_is : (w x : World) → Going w ≡ Going x → w ≡ x
going_is w x e = cc

module _ (script : Script) where
  moved_to : (w x y : World) → Moved script w x → Going x ≡ Going y → Moved script w y
  moved_to w x y h e = rw (going_is x y e) at h

  after_is : (P : Vat Name → Type 0) (d : Done Name (Unit {0})) (t : Vat Name) → AfterGives P d → d ≡ Gives tt t → P t
  after_is P d t h e = rw e at h

  take_waits : (x : Name) (s : Vat Name) (n : Message Name) (ms : List (Message Name)) → s.queue ≡ n ∷ ms → same_one n.id x + at_vat x (record s { queue = ms }) ≤ at_vat x s
  unfolding at_vat among
  take_waits x s n ms e = let f : among x s.queue ≡ same_one n.id x + among x ms = ap (among x) e in omega arith

  idle_moves : (k : ℕ) (w y : World) → world.idle script k w ≡ Going y → Moved script w y
  unfolding world.idle
  idle_moves k w y e = moved_to w (record w { history = w.history ++ Idle k ∷ [] }) y (Still refl refl refl) e

  -- a step that no note begins, by its outcome
  alone_moves : (w y : World) (v : ℕ) (head : List Event) (k : ℕ) (s q : Vat Name) (what : Step Name Name) (d : Done Name (Unit {0})) → IsAlone what → ((t : Vat Name) → d ≡ Gives tt t → Does script w v s q t what)
      → ((t : Vat Name) → d ≡ Gives tt t → (g : ℕ) (m : Msg) → (g ≡ v → ⊥) → FirstOut g m s t) → ((t : Vat Name) → d ≡ Gives tt t → FreshOut v s t) → world.put_back v w head k d ≡ Going y → Moved script w y
  unfolding world.put_back
  alone_moves w y v head k s q what (Gives u t) a f g n e = moved_to w (record { fuel = t.fuel; drawn = t.drawn; vats = put_at v t w.vats; links = push_all v t.outbox w.links; connections = world.connections_after v t head w.connections; history = w.history ++ head ++ world.events_of w.links v t.happened }) y
      (Steps v s q t what a (f t refl) refl refl refl (g t refl) (n t refl)) e
  alone_moves w y v head k s q what other a f g i e = cc

  turn_queue_moves : (k v : ℕ) (w y : World) (s : Vat Name) → slice_get w.vats v ≡ Some s → Stands script w → (qs : List (Message Name)) → s.queue ≡ qs → world.turn_queue script k v w s qs ≡ Going y → Moved script w y
  unfolding world.turn_queue world.within does waiting
  turn_queue_moves k v w y s i h [] q e = idle_moves k w y e
  turn_queue_moves k v w y s i h (n ∷ ms) q e = let what : Step Name Name = Takes (world.tree_at script.vats v) script.depth n in alone_moves w y v (Turned k v ∷ []) (world.step_number script k) s (record s { queue = ms }) what _ tt
      (λ t f. record { there = i; number = refl; known = refl; promises = refl; messages = refl; gifts = refl; waits = λ x. take_waits x s n ms q; begins = (ms, q, refl); gives = f })
      (λ t f g m abroad. after_is (FirstOut g m s) _ t (turn_first script g m v abroad w s i h n ms q) f)
      (λ t f m mine sound new none free. after_is (OneLeg v m) _ t (turn_fresh script m v mine w s i h sound new none free n ms q) f) e

  turn_moves : (k v : ℕ) (w y : World) → Stands script w → (o : Option (Vat Name)) → slice_get w.vats v ≡ o → world.turn script k v w o ≡ Going y → Moved script w y
  unfolding world.turn
  turn_moves k v w y h None q e = idle_moves k w y e
  turn_moves k v w y h (Some s) q e = turn_queue_moves k v w y s q h s.queue refl e

  carried_moves : (w y : World) (a v : ℕ) (head : List Event) (k : ℕ) (s : Vat Name) (n : Note Name) (ns : List (Note Name)) (l : Link) (d : Done Name (Unit {0})) → link_at a v w.links ≡ Some l → l.cut ≡ false → l.notes ≡ n ∷ ns → ((t : Vat Name) → d ≡ Gives tt t → Does script w v s s t (Receives a (read_note (names_of s) n)))
      → ((t : Vat Name) → d ≡ Gives tt t → (g : ℕ) (m : Msg) → (g ≡ v → ⊥) → NamesNot (Answer g m) n → FirstOut g m s t) → ((t : Vat Name) → d ≡ Gives tt t → FreshOut v s t) → world.put_back v (record w { links = with_link (with_notes ns) a v w.links }) head k d ≡ Going y → Moved script w y
  unfolding world.put_back
  carried_moves w y a v head k s n ns l (Gives u t) i c j f g z e =
      moved_to w (record { fuel = t.fuel; drawn = t.drawn; vats = put_at v t w.vats; links = push_all v t.outbox (with_link (with_notes ns) a v w.links); connections = world.connections_after v t head w.connections; history = w.history ++ head ++ world.events_of (with_link (with_notes ns) a v w.links) v t.happened }) y
      (Arrives a v s t n ns l i c j (f t refl) refl refl refl (g t refl) (z t refl)) e
  carried_moves w y a v head k s n ns l other i c j f g o e = cc

  arrives_moves : (k a v : ℕ) (w y : World) (n : Note Name) (ns : List (Note Name)) (l : Link) → Stands script w → NoteOk (Told script w) n → link_at a v w.links ≡ Some l → l.cut ≡ false → l.notes ≡ n ∷ ns → (o : Option (Vat Name)) → slice_get w.vats v ≡ o
      → world.arrives script k a v (record w { links = with_link (with_notes ns) a v w.links }) n o ≡ Going y → Moved script w y
  unfolding world.arrives world.within world.idle does readied waiting
  arrives_moves k a v w y n ns l h ok i c j None q e = moved_to w (record w { links = with_link (with_notes ns) a v w.links; history = w.history ++ Idle k ∷ [] }) y (Drops a v n ns l i j q refl refl refl) e
  arrives_moves k a v w y n ns l h ok i c j (Some s) q e = carried_moves w y a v (Carried k a v n (world.next_frame a v w.connections) ∷ []) (world.step_number script k) s n ns l _ i c j
      (λ t f. record { there = q; number = refl; known = refl; promises = refl; messages = refl; gifts = refl; waits = λ x. omega arith; begins = refl; gives = f })
      (λ t f g m abroad spares. after_is (FirstOut g m s) _ t (note_first script g m v abroad w s q h a n ok spares) f)
      (λ t f. quiet_fresh v s t (after_is (λ z. z.messages ≡ s.messages) _ t (note_quiet script v w s q h a n ok) f)) e

  carry_notes_moves : (k a v : ℕ) (w y : World) (l : Link) → Stands script w → link_at a v w.links ≡ Some l → l.cut ≡ false → (ns : List (Note Name)) → l.notes ≡ ns → AllOf (NoteOk (Told script w)) ns → world.carry_notes script k a v w ns ≡ Going y → Moved script w y
  unfolding world.carry_notes
  carry_notes_moves k a v w y l h i c [] j ok e = idle_moves k w y e
  carry_notes_moves k a v w y l h i c (n ∷ ns) j ok e = arrives_moves k a v w y n ns l h ok.0 i c j (slice_get w.vats v) refl e

  carry_cut_moves : (k a v : ℕ) (w y : World) (l : Link) → Stands script w → link_at a v w.links ≡ Some l → AllOf (NoteOk (Told script w)) l.notes → (b : Bool) → l.cut ≡ b → elim b [ true ↦ world.idle script k w | false ↦ world.carry_notes script k a v w l.notes ] ≡ Going y → Moved script w y
  carry_cut_moves k a v w y l h i ok true c e = idle_moves k w y e
  carry_cut_moves k a v w y l h i ok false c e = carry_notes_moves k a v w y l h i c l.notes refl ok e

  carry_link_moves : (k a v : ℕ) (w y : World) → Stands script w → (o : Option Link) → link_at a v w.links ≡ o → MayBe (λ (l : Link). AllOf (NoteOk (Told script w)) l.notes) o → world.carry_link script k a v w o ≡ Going y → Moved script w y
  unfolding world.carry_link
  carry_link_moves k a v w y h None i ok e = idle_moves k w y e
  carry_link_moves k a v w y h (Some l) i ok e = carry_cut_moves k a v w y l h i ok l.cut refl e

  cut_moves : (k a b : ℕ) (w y : World) → world.cut script k a b w ≡ Going y → Moved script w y
  unfolding world.cut
  cut_moves k a b w y e = moved_to w _ y (Severs a b refl refl refl) e

  notice_moves : (k v to : ℕ) (w y : World) → Stands script w → (o : Option (Vat Name)) → slice_get w.vats v ≡ o → world.within v w (NoticedAt k v to ∷ []) (world.step_number script k) (notice (names script v) to) o ≡ Going y → Moved script w y
  unfolding world.within does waiting
  notice_moves k v to w y h None q e = cc
  notice_moves k v to w y h (Some s) q e = alone_moves w y v (NoticedAt k v to ∷ []) (world.step_number script k) s s (Notices to) _ tt
      (λ t f. record { there = q; number = refl; known = refl; promises = refl; messages = refl; gifts = refl; waits = λ x. omega arith; begins = refl; gives = f })
      (λ t f g m abroad. after_is (FirstOut g m s) _ t (notice_first script g m v abroad w s q h to) f)
      (λ t f. quiet_fresh v s t (after_is (λ z. z.messages ≡ s.messages) _ t (notice_quiet script v w s q h to) f)) e

  pub entry_moves : (entry : Entry) (k : ℕ) (w y : World) → Stands script w → world.step script entry k w ≡ Going y → Moved script w y
  unfolding world.step
  entry_moves (Turn v) k w y h e = turn_moves k v w y h (slice_get w.vats v) refl e
  entry_moves (Carry a v) k w y h e = carry_link_moves k a v w y h (link_at a v w.links) refl (link_ok (λ (l : Link). AllOf (NoteOk (Told script w)) l.notes) a v w.links h.links) e
  entry_moves (CutLink a b) k w y h e = cut_moves k a b w y e
  entry_moves (NoticeLink v to) k w y h e = notice_moves k v to w y h (slice_get w.vats v) refl e

  opens_at : (v : ℕ) (p : Program) (w y : World) → Stands script w → slice_get script.vats v ≡ Some p → (o : Option (Vat Name)) → slice_get w.vats v ≡ o
      → world.within v w (Opens v ∷ []) v (opening (names script v) p.tree script.depth (Root v) (world.given script.vats p.knows)) o ≡ Going y → Moved script w y
  unfolding world.within does waiting
  opens_at v p w y h t None q e = cc
  opens_at v p w y h t (Some s) q e = alone_moves w y v (Opens v ∷ []) v s s (Starts p.tree script.depth (Root v) (world.given script.vats p.knows)) _ tt
      (λ r f. record { there = q; number = refl; known = refl; promises = refl; messages = refl; gifts = refl; waits = λ x. omega arith; begins = (p, t, refl, refl, refl); gives = f })
      (λ r f g m abroad. after_is (FirstOut g m s) _ r (opening_first script g m v abroad w s q h p t) f)
      (λ r f m mine sound new none free. after_is (OneLeg v m) _ r (opening_fresh script m v mine w s q h sound new none free p t) f) e

  pub opening_moves : (v : ℕ) (p : Program) (w y : World) → Stands script w → slice_get script.vats v ≡ Some p → world.open_vat script v p w ≡ Going y → Moved script w y
  unfolding world.open_vat
  opening_moves v p w y h t e = opens_at v p w y h t (slice_get w.vats v) refl e

-- ---- what every move of a run keeps

module _ (script : Script) where
  then_end : (r : Run) (f : World → Run) (g : World → Run) (w y : World) → world.then_goes r f ≡ Going w → ((z : World) → r ≡ Going z → f z ≡ Going w → g z ≡ Going y) → world.then_goes r g ≡ Going y
  unfolding world.then_goes
  then_end (Going z) f g w y e k = k z refl e
  then_end (Stopped c n z) f g w y e k = cc

  then_last : (r : Run) (y : World) → r ≡ Going y → world.then_goes r (λ z. Going z) ≡ Going y
  unfolding world.then_goes
  then_last r y e = rw e refl

  pub steps_end : (ds : List Entry) (entry : Entry) (k : ℕ) (w0 w y : World) → world.steps_from script ds k w0 ≡ Going w → world.step script entry (k + length ds) w ≡ Going y → world.steps_from script (ds ++ entry ∷ []) k w0 ≡ Going y
  unfolding world.steps_from
  steps_end [] entry k w0 w y e f = let i : k + 0 ≡ k = omega arith in let same : w0 ≡ w = going_is w0 w e in then_last (world.step script entry k w0) y (rw same (rw i at f))
  steps_end (d ∷ ds) entry k w0 w y e f = then_end (world.step script d k w0) (world.steps_from script ds (suc k)) (world.steps_from script (ds ++ entry ∷ []) (suc k)) w y e
      (λ z i j. steps_end ds entry (suc k) z w y j (let n : k + suc (length ds) ≡ suc k + length ds = omega arith in rw n at f))

  pub opens_end : (ds : List Program) (p : Program) (v : ℕ) (w0 w y : World) → world.open_from script v ds w0 ≡ Going w → world.open_vat script (v + length ds) p w ≡ Going y → world.open_from script v (ds ++ p ∷ []) w0 ≡ Going y
  unfolding world.open_from
  opens_end [] p v w0 w y e f = let i : v + 0 ≡ v = omega arith in let same : w0 ≡ w = going_is w0 w e in then_last (world.open_vat script v p w0) y (rw same (rw i at f))
  opens_end (d ∷ ds) p v w0 w y e f = then_end (world.open_vat script v d w0) (world.open_from script (suc v) ds) (world.open_from script (suc v) (ds ++ p ∷ [])) w y e
      (λ z i j. opens_end ds p (suc v) z w y j (let n : v + suc (length ds) ≡ suc v + length ds = omega arith in rw n at f))

-- Past holds of every world of a run by laws that stand; J is kept by each move from such a world to such a world.
module _ (script : Script) (Past : World → Type 0)
    (opened_past : (ps rest : List Program) (w : World) → script.vats ≡ ps ++ rest → world.open_from script zero ps (world.begins script) ≡ Going w → Past w)
    (stepped_past : (w x : World) (es : List Entry) (k : ℕ) → world.open_from script zero script.vats (world.begins script) ≡ Going w → world.steps_from script es k w ≡ Going x → Past x)
    (stands : (w : World) → Past w → Stands script w) (J : World → Type 0) (law : (w y : World) → Past w → Past y → Moved script w y → J w → J y) where
  then_holds : (x : World) (r : Run) (f : World → Run) → ((y : World) → r ≡ Going y → f y ≡ Going x → J x) → world.then_goes r f ≡ Going x → J x
  unfolding world.then_goes
  then_holds x (Going y) f b e = b y refl e
  then_holds x (Stopped c n y) f b e = cc

  opens_hold : (ds ps rest : List Program) (w x : World) → script.vats ≡ ds ++ (ps ++ rest) → world.open_from script zero ds (world.begins script) ≡ Going w → J w → world.open_from script (length ds) ps w ≡ Going x → J x
  unfolding world.open_from
  opens_hold ds [] rest w x i d h e = rw (going_is w x e) at h
  opens_hold ds (p ∷ ps) rest w x i d h e = then_holds x (world.open_vat script (length ds) p w) (world.open_from script (suc (length ds)) ps)
      (λ y j f. let n : 0 + length ds ≡ length ds = omega arith in let done : world.open_from script zero (ds ++ p ∷ []) (world.begins script) ≡ Going y = opens_end script ds p zero (world.begins script) w y d (rw (sym n) at j) in
      let split : script.vats ≡ (ds ++ p ∷ []) ++ (ps ++ rest) = i ∙ sym (append_assoc ds (p ∷ []) (ps ++ rest)) in let past = opened_past ds (p ∷ (ps ++ rest)) w i d in
      opens_hold (ds ++ p ∷ []) ps rest y x split done (law w y past (opened_past (ds ++ p ∷ []) (ps ++ rest) y split done) (opening_moves script (length ds) p w y (stands w past) (rw (sym i) at (get_mid ds p (ps ++ rest))) j) h) (rw (sym (length_end ds p)) at f)) e

  steps_hold : (w0 : World) (k0 : ℕ) → world.open_from script zero script.vats (world.begins script) ≡ Going w0 → (ds es : List Entry) (k : ℕ) (w x : World) → k ≡ k0 + length ds → world.steps_from script ds k0 w0 ≡ Going w → J w → world.steps_from script es k w ≡ Going x → J x
  unfolding world.steps_from
  steps_hold w0 k0 o ds [] k w x n d h e = rw (going_is w x e) at h
  steps_hold w0 k0 o ds (entry ∷ es) k w x n d h e = then_holds x (world.step script entry k w) (world.steps_from script es (suc k))
      (λ y j f. let done : world.steps_from script (ds ++ entry ∷ []) k0 w0 ≡ Going y = steps_end script ds entry k0 w0 w y d (rw n at j) in let past = stepped_past w0 w ds k0 o d in let l = length_end ds entry in
      steps_hold w0 k0 o (ds ++ entry ∷ []) es (suc k) y x (omega arith) done (law w y past (stepped_past w0 y (ds ++ entry ∷ []) k0 o done) (entry_moves script entry k w y (stands w past) j) h) f) e

  module _ (begun : J (world.begins script)) where
    pub opened_hold : (ps rest : List Program) (w : World) → script.vats ≡ ps ++ rest → world.open_from script zero ps (world.begins script) ≡ Going w → J w
    unfolding world.open_from
    opened_hold ps rest w i e = opens_hold [] ps rest (world.begins script) w i refl begun e

    pub stepped_hold : (w x : World) (es : List Entry) (k : ℕ) → world.open_from script zero script.vats (world.begins script) ≡ Going w → world.steps_from script es k w ≡ Going x → J x
    unfolding world.steps_from
    stepped_hold w x es k o e = let n : k ≡ k + 0 = omega arith in steps_hold w k o [] es k w x n refl (opened_hold script.vats [] w (sym (append-nil script.vats)) o) e
