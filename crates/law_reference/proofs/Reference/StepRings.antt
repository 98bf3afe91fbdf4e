-- Every entry of a schedule, and every opening turn, leaves a world in which no list leads back to itself.
use Rattle.std.proofs.Common.{◌≡◌, ℕ, Bool, true, false, List, [], ◌∷◌, ◌++◌, Option, Some, None, refl, sym, subst, ◌⊎◌, inl, inr}
use Rattle.std.specs.Prelude.{slice_get}
use Rattle.def_machine.specs.Values.{Value, Name, Root, Naming, naming, host_of}
use Rattle.def_machine.specs.State.{Message, Note, Open, Elsewhere, Settled, Known, Vat, Done, Gives, is_in}
use Rattle.def_machine.specs.Refs.{entry_of, standing_of}
use Rattle.def_machine.specs.Eval.{opening}
use Rattle.def_machine.specs.Arrive.{Incoming, notice}
use Rattle.law_machine.specs.Machine.Laws.{SettledStays}
use Rattle.law_machine.specs.Machine.Steps.{Opens, Takes, Receives, Notices, does, After}
use Rattle.law_machine.proofs.Machine.StepLaws.{settled_stays}
use Rattle.def_run.specs.Draws.{draw_word}
use Rattle.def_run.specs.World as world
use Rattle.def_run.specs.World.{Script, Program, Entry, Turn, Carry, CutLink, NoticeLink, Event, Idle, Link, World, Goes, names, names_of, read_note, readied}
use Rattle.law_fate.specs.Name.Names.{AllOf, IsAmong, WasDrawn, NoteOk, IsMade}
use Rattle.law_fate.specs.Fates.Lasting.{Each, NoteWell}
use Rattle.law_reference.specs.Reference.Notes.{IsBetween, LinkFits, NoteSpared}
use Rattle.law_frozen.specs.Frozen.{AllOf as EachOf, MessageThere, NotePasses, Sound}
use Rattle.law_frozen.proofs.RunSound.{WorldSound, LinkPasses, link_passes, note_read, given_well}
use Rattle.law_frozen.proofs.Fine.{MayBe}
use Rattle.law_reference.proofs.Reference.OwnTurns.{where_map}
use Rattle.law_reference.specs.Reference.ListRingless.{IsView, IsOwn, WaitsSpared, Ringless, TellsSo, DrawsAfter, ArrivedSo, heeded}
use Rattle.law_reference.proofs.Reference.Kept.{is_in_none, ringless_same}
use Rattle.law_reference.proofs.Reference.RefsRing.{answer_view}
use Rattle.law_reference.proofs.Reference.TurnsRing.{turns_keep}
use Rattle.law_reference.proofs.Reference.ArriveRing.{arrivals_keep}
use Rattle.law_reference.proofs.Reference.NoticeRing.{notices_keep}
use Rattle.law_reference.proofs.Reference.ViewRing.{view_into}
use Rattle.law_reference.proofs.Reference.VatStep.{Seen, LinkTrue, NoteTrue, RingsBy, Rings, OpenBack, with_link_all, link_all, link_found, next_rings}
use Rattle.law_reference.proofs.Reference.Around.{Around, waits_spared, waits_back, settled_back, open_back, behind}

goes_is : (w x : World) → Goes w ≡ Goes x → w ≡ x
goes_is w x e = cc

some_vat : (s t : Vat Name) → Some s ≡ Some t → s ≡ t
some_vat s t e = cc

-- where it gives
abbrev pub Given : (Vat Name → Type 0) → Done Name (Unit {0}) → Type 0
Given P (Gives a t) = P t
Given P other = Unit {0}

after_given : (P Q : Vat Name → Type 0) (s : Vat Name) (d : Done Name (Unit {0})) → ((t : Vat Name) → P t → Q t) → After (λ r t. P t) s d → Given Q d
after_given P Q s (Gives a t) f h = f t h
after_given P Q s other f h = tt

all_each : {A : Type 0} {P : A → Type 0} → ((x : A) → P x) → (xs : List A) → AllOf P xs
all_each f [] = tt
all_each f (x ∷ xs) = (f x, all_each f xs)

module _ (script : Script) where
  abbrev pub word : ℕ → ℕ
  word = draw_word script.key

  abbrev pub N : ℕ → Naming Name Name
  N v = naming word v

  abbrev Vats : Bool → (ℕ → Type 0) → World → Type 0
  Vats heed D w = (v : ℕ) (s : Vat Name) → slice_get w.vats v ≡ Some s → Ringless (N v) v D (Seen word w.vats v) (heeded heed s) s

  moved : (heed : Bool) (D : ℕ → Type 0) (w x : World) → RingsBy word heed D w → Goes w ≡ Goes x → RingsBy word heed D x
  moved heed D w x h e = subst (λ y. RingsBy word heed D y) (goes_is w x e) h

  -- ---- what a step of a vat leaves

  abbrev Ended : Bool → (ℕ → Type 0) → World → ℕ → Vat Name → Type 0
  Ended heed E w v t = Ringless (N v) v E (Seen word w.vats v) (heeded heed t) t × TellsSo (N v) E t

  module _ (heed : Bool) (w x : World) (v : ℕ) (s r : Vat Name) (ls : List Link) (D E : ℕ → Type 0) (there : slice_get w.vats v ≡ Some s) (same : r.known ≡ s.known) (into : (n : Name) → IsView D n → IsView E n)
      (waits : (u : ℕ) (q : Vat Name) → slice_get w.vats u ≡ Some q → (n p : Name) (k : Known Name) → entry_of (N u) q.known p ≡ Some k → IsAmong n k.waiting → IsView E n → IsView D n)
      (settled : (u : ℕ) (q : Vat Name) → slice_get w.vats u ≡ Some q → (n : Name) (y : Value Name) → standing_of (N u) q.known n ≡ Settled y → IsView E n → IsView D n)
      (back : AllOf (λ (l : Link). AllOf (OpenBack word D E) l.notes) ls) (links : AllOf (LinkTrue word D w.vats) ls) (vats : Vats heed D w) where
    put_rings : (head : List Event) (n : ℕ) (d : Done Name (Unit {0})) → Given (Ended heed E w v) d → After (SettledStays (N v)) r d → world.put_back v (record w { links = ls }) head n d ≡ Goes x → RingsBy word heed E x
    unfolding world.put_back
    put_rings head n (Gives a t) h stays e = moved heed E _ x (next_rings word heed w v s r t D E there same stays into waits settled h.0 h.1 ls _ _ back links vats) e
    put_rings head n other h stays e = cc

  -- a step after which the draws of views are as before
  module _ (heed : Bool) (w x : World) (v : ℕ) (s r : Vat Name) (D : ℕ → Type 0) (there : slice_get w.vats v ≡ Some s) (same : r.known ≡ s.known) (rings : RingsBy word heed D w) where
    same_open : (n : Note Name) → OpenBack word D D n
    same_open (Open i n) = λ e. e
    same_open other = tt

    put_same : (head : List Event) (n : ℕ) (d : Done Name (Unit {0})) → Given (Ended heed D w v) d → After (SettledStays (N v)) r d → world.put_back v w head n d ≡ Goes x → RingsBy word heed D x
    put_same head n d h stays e = put_rings heed w x v s r w.links D D there same (λ n i. i) (λ u q f n p k g a i. i) (λ u q f n y g i. i) (all_each (λ l. all_each same_open l.notes) w.links) rings.links rings.vats head n d h stays e

  -- ---- the state in which a step begins

  module _ (D : ℕ → Type 0) (A : Name → Type 0) (v : ℕ) where
    weaken : (hs : List ℕ) (s : Vat Name) → Ringless (N v) v D A hs s → Ringless (N v) v D A [] s
    weaken hs s h = record { number = h.number; names = record { here = is_in_none v; spared = λ n k e w. is_in_none k.host; far = h.names.far; seen = h.names.seen; waits = h.names.waits; settled = h.names.settled; held = h.names.held; eventual = h.names.eventual }; none = h.none; queue = h.queue; gifts = h.gifts }

    strengthen : (s : Vat Name) → WaitsSpared (N v) v s.known s.noticed → is_in v s.noticed ≡ false → Ringless (N v) v D A [] s → Ringless (N v) v D A s.noticed s
    strengthen s spared here h = record { number = h.number; names = record { here = here; spared = spared; far = h.names.far; seen = h.names.seen; waits = h.names.waits; settled = h.names.settled; held = h.names.held; eventual = h.names.eventual }; none = h.none; queue = h.queue; gifts = h.gifts }

    ready : (heed : Bool) (w : World) (s : Vat Name) (ms : List (Message Name)) → Sound (N v) s → AllOf (IsOwn v) ms → Ringless (N v) v D A (heeded heed s) s → Ringless (N v) v D A (heeded heed s) (readied w (record s { queue = ms }))
    unfolding readied
    ready heed w s ms sound own h = ringless_same word v heed D A s (readied w (record s { queue = ms })) sound refl refl refl (inl refl) own h.gifts h

    ready_same : (heed : Bool) (w : World) (s : Vat Name) → Sound (N v) s → Ringless (N v) v D A (heeded heed s) s → Ringless (N v) v D A (heeded heed s) (readied w s)
    unfolding readied
    ready_same heed w s sound h = ringless_same word v heed D A s (readied w s) sound refl refl refl (inl refl) h.queue h.gifts h

    ready_tells : (w : World) (s : Vat Name) → ((i : ℕ) → (WasDrawn w.drawn i → ⊥) → D i → ⊥) → TellsSo (N v) D (readied w s)
    unfolding readied
    ready_tells w s f = (f, tt)

  ready_sound : (v : ℕ) (w : World) (s : Vat Name) → Sound (N v) s → Sound (N v) (readied w s)
  unfolding readied
  ready_sound v w s k = record { things = k.things; slots = k.slots; lists = k.lists; stacked = k.stacked; queue = k.queue; known = k.known; outbox = tt }

  with_queue : (v : ℕ) (s : Vat Name) (m : Message Name) (ms : List (Message Name)) → Sound (N v) s → s.queue ≡ m ∷ ms → MessageThere s.lists m × Sound (N v) (record s { queue = ms })
  with_queue v s m ms h e = let waiting : EachOf (MessageThere s.lists) (m ∷ ms) = rw e at h.queue in
      (waiting.0, record { things = h.things; slots = h.slots; lists = h.lists; stacked = h.stacked; queue = waiting.1; known = h.known; outbox = h.outbox })

  sound_at : (v : ℕ) (w : World) (s : Vat Name) → WorldSound script w → slice_get w.vats v ≡ Some s → Sound (N v) s
  unfolding names
  sound_at v w s h e = h.vats v s e

  -- ---- the entries of a schedule

  idle_rings : (k : ℕ) (D : ℕ → Type 0) (w x : World) → RingsBy word false D w → world.idle script k w ≡ Goes x → RingsBy word false D x
  unfolding world.idle
  idle_rings k D w x h e = moved false D (record w { history = w.history ++ Idle k ∷ [] }) x (record { drawn = h.drawn; vats = h.vats; links = h.links }) e

  module _ (w x : World) (D : ℕ → Type 0) (rings : RingsBy word false D w) (sound : WorldSound script w) (a : Around word w) where
    turn_ends : (v : ℕ) (s : Vat Name) (m : Message Name) (ms : List (Message Name)) → slice_get w.vats v ≡ Some s → s.queue ≡ m ∷ ms
        → After (λ r t. Sound (N v) t × Ringless (N v) v D (Seen word w.vats v) t.noticed t × TellsSo (N v) D t) (readied w (record s { queue = ms })) (does (N v) (Takes (world.tree_at script.vats v) script.depth m) (readied w (record s { queue = ms })))
    unfolding readied
    turn_ends v s m ms e q = let A : Name → Type 0 = Seen word w.vats v in let r : Vat Name = readied w (record s { queue = ms }) in let here : Sound (N v) s = sound_at v w s sound e in let waiting = with_queue v s m ms here q in
        let ring : Ringless (N v) v D A [] s = rings.vats v s e in let own : AllOf (IsOwn v) (m ∷ ms) = subst (λ xs. AllOf (IsOwn v) xs) q ring.queue in
        turns_keep D A word v (Takes (world.tree_at script.vats v) script.depth m) r (where_map _ _ (λ a o. (o.0, λ i. answer_view word v true D A a o.1 i)) m.answer own.0.1) (ready_sound v w (record s { queue = ms }) waiting.1) (waiting.0)
        (ready_tells D A v w (record s { queue = ms }) rings.drawn) (ready D A v true w s ms here own.1 (strengthen D A v s (waits_spared word w a v s e) (a.here v s e) ring))

    turn_queue : (k v : ℕ) (s : Vat Name) (ms : List (Message Name)) → slice_get w.vats v ≡ Some s → s.queue ≡ ms → world.turn_queue script k v w s ms ≡ Goes x → RingsBy word false D x
    unfolding world.turn_queue world.within does names readied
    turn_queue k v s [] e q f = idle_rings k D w x rings f
    turn_queue k v s (m ∷ ms) e q f = let r : Vat Name = readied w (record s { queue = ms }) in
        put_same false w x v s r D e refl rings _ _ _ (after_given (λ t. Sound (N v) t × Ringless (N v) v D (Seen word w.vats v) t.noticed t × TellsSo (N v) D t) (Ended false D w v) r _ (λ t h. (weaken D (Seen word w.vats v) v t.noticed t h.1, h.2)) (turn_ends v s m ms e q))
        (settled_stays (N v) (Takes (world.tree_at script.vats v) script.depth m) r) f

    turn_at : (k v : ℕ) (o : Option (Vat Name)) → slice_get w.vats v ≡ o → world.turn script k v w o ≡ Goes x → RingsBy word false D x
    unfolding world.turn
    turn_at k v None e f = idle_rings k D w x rings f
    turn_at k v (Some s) e f = turn_queue k v s s.queue e refl f

    notice_at : (k v to : ℕ) (o : Option (Vat Name)) → slice_get w.vats v ≡ o → world.within v w (world.NoticedAt k v to ∷ []) (world.step_number script k) (notice (names script v) to) o ≡ Goes x → RingsBy word false D x
    unfolding world.within does names readied
    notice_at k v to None e f = cc
    notice_at k v to (Some s) e f = let A : Name → Type 0 = Seen word w.vats v in let here : Sound (N v) s = sound_at v w s sound e in let r : Vat Name = readied w s in
        put_same false w x v s r D e refl rings _ _ _ (after_given (λ t. Sound (N v) t × Ringless (N v) v D A [] t × TellsSo (N v) D t) (Ended false D w v) r _ (λ t h. (h.1, h.2)) (notices_keep D A word v to r (ready_sound v w s here) (ready_tells D A v w s rings.drawn) (ready_same D A v false w s here (rings.vats v s e))))
        (settled_stays (N v) (Notices to) r) f

    severed_true : (l : Link) → LinkTrue word D w.vats l → LinkTrue word D w.vats (world.severed_link l)
    unfolding world.severed_link
    severed_true l h = (h.0, tt)

    cut_at : (k v to : ℕ) → world.cut script k v to w ≡ Goes x → RingsBy word false D x
    unfolding world.cut
    cut_at k v to f = moved false D _ x (record {
      drawn = rings.drawn;
      vats = rings.vats;
      links = with_link_all (LinkTrue word D w.vats) world.severed_link to v (world.with_link world.severed_link v to w.links) (λ l e g h. severed_true l h) (with_link_all (LinkTrue word D w.vats) world.severed_link v to w.links (λ l e g h. severed_true l h) rings.links);
    }) f

    -- ---- a note is carried

    module _ (from to : ℕ) (l : Link) (found : world.link_at from to w.links ≡ Some l) (uncut : l.cut ≡ false) where
      made_all : AllOf (NoteOk (IsMade w.vats w.drawn)) l.notes
      made_all = link_all (λ (j : Link). AllOf (NoteOk (IsMade w.vats w.drawn)) j.notes) from to w.links l a.notes found

      fits_all : AllOf (IsBetween l.from l.to) l.notes
      fits_all = (link_all LinkFits from to w.links l a.ends found).1

      well_all : Each NoteWell l.notes
      well_all = link_all (λ (j : Link). Each NoteWell j.notes) from to w.links l a.well found

      true_all : LinkTrue word D w.vats l
      true_all = link_all (LinkTrue word D w.vats) from to w.links l rings.links found

      module _ (n : Note Name) (ns : List (Note Name)) (front : l.notes ≡ n ∷ ns) where
        tail_true : AllOf (NoteTrue word D w.vats from) (n ∷ ns)
        tail_true = subst (λ u. AllOf (NoteTrue word D w.vats u) (n ∷ ns)) (link_found from to w.links l found).0 (subst (λ xs. AllOf (NoteTrue word D w.vats l.from) xs) front true_all.1)

        -- the links without that note
        abbrev Rest : List Link
        Rest = world.with_link (world.with_notes ns) from to w.links

        rest_true : AllOf (LinkTrue word D w.vats) Rest
        unfolding world.with_notes
        rest_true = with_link_all (LinkTrue word D w.vats) (world.with_notes ns) from to w.links (λ j f g h. (h.0, subst (λ u. AllOf (NoteTrue word D w.vats u) ns) (sym f) tail_true.1)) rings.links

        made_front : AllOf (NoteOk (IsMade w.vats w.drawn)) (n ∷ ns)
        made_front = subst (λ xs. AllOf (NoteOk (IsMade w.vats w.drawn)) xs) front made_all

        fits_front : AllOf (IsBetween from to) (n ∷ ns)
        fits_front = let both = link_found from to w.links l found in subst (λ u. AllOf (IsBetween u to) (n ∷ ns)) both.0 (subst (λ u. AllOf (IsBetween l.from u) (n ∷ ns)) both.1 (subst (λ xs. AllOf (IsBetween l.from l.to) xs) front fits_all))

        well_front : Each NoteWell (n ∷ ns)
        well_front = subst (λ xs. Each NoteWell xs) front well_all

        spared_front : (s : Vat Name) → slice_get w.vats to ≡ Some s → AllOf (NoteSpared s) (n ∷ ns)
        spared_front s e = subst (λ xs. AllOf (NoteSpared s) xs) front (a.spared from to s l e found uncut)

        module _ (E : ℕ → Type 0) (back : (i : ℕ) → E i → D i ⊎ (WasDrawn w.drawn i → ⊥)) where
          open_all : (ms : List (Note Name)) → AllOf (NoteOk (IsMade w.vats w.drawn)) ms → AllOf (OpenBack word D E) ms
          open_all [] h = tt
          open_all (m ∷ ms) h = (open_back word D E w a back m h.0, open_all ms h.1)

          open_links : (ls : List Link) → AllOf (λ (j : Link). AllOf (NoteOk (IsMade w.vats w.drawn)) j.notes) ls → AllOf (λ (j : Link). AllOf (OpenBack word D E) j.notes) ls
          open_links [] h = tt
          open_links (j ∷ ls) h = (open_all j.notes h.0, open_links ls h.1)

          rest_open : AllOf (λ (j : Link). AllOf (OpenBack word D E) j.notes) Rest
          unfolding world.with_notes
          rest_open = with_link_all (λ (j : Link). AllOf (OpenBack word D E) j.notes) (world.with_notes ns) from to w.links (λ j f g h. open_all ns made_front.1) (open_links w.links a.notes)

        module _ (s : Vat Name) (there : slice_get w.vats to ≡ Some s) where
          abbrev R : Vat Name
          R = readied w s

          abbrev Read : Note (Incoming Name Name)
          Read = read_note (names_of s) n

          abbrev E : ℕ → Type 0
          E i = DrawsAfter word D R Read i

          draws_into : (m : Note (Incoming Name Name)) (i : ℕ) → D i → DrawsAfter word D R m i
          draws_into (Elsewhere y c) i d = inl d
          draws_into other i d = d

          draws_back : (m : Note (Incoming Name Name)) (i : ℕ) → DrawsAfter word D R m i → D i ⊎ (WasDrawn w.drawn i → ⊥)
          unfolding readied
          draws_back (Elsewhere y c) i (inl d) = inl d
          draws_back (Elsewhere y c) i (inr e) = inr e.1
          draws_back other i d = inl d

          arrived : (heed : Bool) (d : Done Name (Unit {0})) → ArrivedSo word to D E (Seen word w.vats to) heed d → Given (Ended false E w to) d
          arrived heed (Gives u t) h = (weaken E (Seen word w.vats to) to (heeded heed t) t h.1, h.2)
          arrived heed other h = tt

          ready_at : (heed : Bool) → Ringless (N to) to D (Seen word w.vats to) (heeded heed R) R
          unfolding readied
          ready_at true = ready_same D (Seen word w.vats to) to true w s (sound_at to w s sound there) (strengthen D (Seen word w.vats to) to s (waits_spared word w a to s there) (a.here to s there) (rings.vats to s there))
          ready_at false = ready_same D (Seen word w.vats to) to false w s (sound_at to w s sound there) (rings.vats to s there)

          empty : R.outbox ≡ []
          unfolding readied
          empty = refl

          known_same : R.known ≡ s.known
          unfolding readied
          known_same = refl

          note_ends : (passes : NotePasses n) → Given (Ended false E w to) (does (N to) (Receives from Read) R)
          note_ends passes = let b = behind word w a D rings from to l s found uncut there n made_front.0 fits_front.0 well_front.0 (spared_front s there).0 tail_true.0 in
              arrived b.0 _ (arrivals_keep D (Seen word w.vats to) word to from Read b.0 R b.1.0 b.1.1 (ready_sound to w s (sound_at to w s sound there)) (note_read (names_of s) n passes) empty (ready_tells D (Seen word w.vats to) to w s rings.drawn) (ready_at b.0))

          note_rings : (k : ℕ) → NotePasses n → world.arrives script k from to (record w { links = Rest }) n (Some s) ≡ Goes x → RingsBy word false E x
          unfolding world.arrives world.within does names readied
          note_rings k passes f = put_rings false w x to s R Rest D E there known_same (view_into word to true D (Seen word w.vats to) E (draws_into Read)) (waits_back word D E w a (draws_back Read)) (settled_back word D E w a (draws_back Read)) (rest_open E (draws_back Read)) rest_true rings.vats _ _ _
              (note_ends passes) (settled_stays (N to) (Receives from Read) R) f

        gone_rings : (k : ℕ) → world.arrives script k from to (record w { links = Rest }) n None ≡ Goes x → RingsBy word false D x
        unfolding world.arrives
        gone_rings k f = idle_rings k D (record w { links = Rest }) x (record { drawn = rings.drawn; vats = rings.vats; links = rest_true }) f

        arrives_rings : (k : ℕ) (o : Option (Vat Name)) → slice_get w.vats to ≡ o → NotePasses n → world.arrives script k from to (record w { links = Rest }) n o ≡ Goes x → Rings word false x
        arrives_rings k None e passes f = record { views = D; by = gone_rings k f }
        arrives_rings k (Some s) e passes f = record { views = E s e; by = note_rings s e k passes f }

      notes_rings : (k : ℕ) (ns : List (Note Name)) → l.notes ≡ ns → EachOf NotePasses ns → world.carry_notes script k from to w ns ≡ Goes x → Rings word false x
      unfolding world.carry_notes
      notes_rings k [] e passes f = record { views = D; by = idle_rings k D w x rings f }
      notes_rings k (n ∷ ns) e passes f = arrives_rings n ns e k (slice_get w.vats to) refl passes.0 f

    cut_rings : (k from to : ℕ) (l : Link) → world.link_at from to w.links ≡ Some l → EachOf NotePasses l.notes → (b : Bool) → l.cut ≡ b → elim b [ true ↦ world.idle script k w | false ↦ world.carry_notes script k from to w l.notes ] ≡ Goes x → Rings word false x
    cut_rings k from to l found passes true e f = record { views = D; by = idle_rings k D w x rings f }
    cut_rings k from to l found passes false e f = notes_rings from to l found e k l.notes refl passes f

    link_rings : (k from to : ℕ) (o : Option Link) → world.link_at from to w.links ≡ o → MayBe LinkPasses o → world.carry_link script k from to w o ≡ Goes x → Rings word false x
    unfolding world.carry_link
    link_rings k from to None e passes f = record { views = D; by = idle_rings k D w x rings f }
    link_rings k from to (Some l) e passes f = cut_rings k from to l e passes l.cut refl f

  -- ---- an entry

  pub step_rings : (entry : Entry) (k : ℕ) (w x : World) → Rings word false w → WorldSound script w → Around word w → world.step script entry k w ≡ Goes x → Rings word false x
  unfolding world.step
  step_rings (Turn v) k w x h sound a f = record { views = h.views; by = turn_at w x h.views h.by sound a k v (slice_get w.vats v) refl f }
  step_rings (Carry from to) k w x h sound a f = link_rings w x h.views h.by sound a k from to (world.link_at from to w.links) refl (link_passes from to w.links sound.links) f
  step_rings (CutLink v to) k w x h sound a f = record { views = h.views; by = cut_at w x h.views h.by sound a k v to f }
  step_rings (NoticeLink v to) k w x h sound a f = record { views = h.views; by = notice_at w x h.views h.by sound a k v to (slice_get w.vats v) refl f }

  -- ---- the opening turns

  abbrev pub NoDraws : ℕ → Type 0
  NoDraws i = ⊥

  open_ends : (v : ℕ) (p : Program) (w : World) (s : Vat Name) → RingsBy word true NoDraws w → WorldSound script w → slice_get w.vats v ≡ Some s
      → After (λ r t. Sound (N v) t × Ringless (N v) v NoDraws (Seen word w.vats v) t.noticed t × TellsSo (N v) NoDraws t) (readied w s) (does (N v) (Opens p.tree script.depth (Root v) (world.given script.vats p.knows)) (readied w s))
  unfolding readied host_of names
  open_ends v p w s h sound e = let A : Name → Type 0 = Seen word w.vats v in let here : Sound (N v) s = sound_at v w s sound e in
      turns_keep NoDraws A word v (Opens p.tree script.depth (Root v) (world.given script.vats p.knows)) (readied w s) (refl, λ i. i) (ready_sound v w s here) (given_well script v (readied w s) p.knows) (ready_tells NoDraws A v w s h.drawn) (ready_same NoDraws A v true w s here (h.vats v s e))

  pub open_rings : (v : ℕ) (p : Program) (w x : World) (o : Option (Vat Name)) → slice_get w.vats v ≡ o → RingsBy word true NoDraws w → WorldSound script w → world.within v w (world.Opens v ∷ []) v (opening (names script v) p.tree script.depth (Root v) (world.given script.vats p.knows)) o ≡ Goes x → RingsBy word true NoDraws x
  unfolding world.within does names readied
  open_rings v p w x None e h sound f = cc
  open_rings v p w x (Some s) e h sound f = let r : Vat Name = readied w s in
      put_same true w x v s r NoDraws e refl h _ _ _ (after_given (λ t. Sound (N v) t × Ringless (N v) v NoDraws (Seen word w.vats v) t.noticed t × TellsSo (N v) NoDraws t) (Ended true NoDraws w v) r _ (λ t k. (k.1, k.2)) (open_ends v p w s h sound e))
      (settled_stays (N v) (Opens p.tree script.depth (Root v) (world.given script.vats p.knows)) r) f

  pub weaken_all : (w : World) → RingsBy word true NoDraws w → RingsBy word false NoDraws w
  weaken_all w h = record { drawn = h.drawn; vats = λ v s e. weaken NoDraws (Seen word w.vats v) v s.noticed s (h.vats v s e); links = h.links }
