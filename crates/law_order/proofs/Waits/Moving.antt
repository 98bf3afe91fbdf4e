-- Each move from a world of a run to the next keeps, of each name at each vat, that there is room for its messages and that what it waits on is where it waits.
use Rattle.std.proofs.Common.{◌≡◌, ℕ, zero, suc, ◌+◌, ◌*◌, ◌≤◌, Bool, true, false, List, [], ◌∷◌, ◌++◌, Option, Some, refl, sym, ap, subst, ◌∙◌, ◌⊎◌, inl, inr, arith, map, if◌then◌else◌, eq-eqb, ◌==◌}
use Rattle.std.specs.Prelude.{slice_get}
use Rattle.def_machine.specs.Values.{Value, Name, Root, Promise, Gift, Sent, Naming, naming, same_reference, host_of}
use Rattle.def_machine.specs.State.{Message, Standing, Unsettled, Settled, Known, Note, Deliver, Open, SettledTo, Elsewhere, GiftEntry, Vat, Done, Gives, ◌>>=◌, ◌>>◌, and_then, give, look, mark, WhereSome, is_in, is_gift, begun}
use Rattle.def_machine.specs.Refs.{entry_of, standing_of, standing_in}
use Rattle.def_machine.specs.Arrive as arrive
use Rattle.def_machine.specs.Arrive.{Incoming, Old, New, gift_at}
use Rattle.def_kernel.specs.declared.node.Node.{Node}
use Rattle.law_machine.specs.Machine.Steps.{Opens as Starts, Takes, Receives, Notices, does}
use Rattle.def_run.specs.Draws.{draw_word}
use Rattle.def_run.specs.World as world
use Rattle.def_run.specs.World.{Script, Program, Link, World, link_at, put_at, names_of, read_note, read_name, is_old, readied}
use Rattle.law_machine.specs.Run.Moves.{went}
use Rattle.law_fate.specs.Name.Names.{AllOf, IsAmong, NoteOk, Everywhere, IsHad, IsKnownIn, GiftOk, names_in, HostIsTrue, IsEventual}
use Rattle.law_fate.proofs.Name.Facts.{MayBe, all_map}
use Rattle.law_fate.proofs.Name.SameNames.{old_known, reference_self}
use Rattle.law_fate.specs.Fates.Fate.{one, total}
use Rattle.law_frozen.specs.Frozen.{AllOf as EachOf, MessageThere, Sound}
use Rattle.law_frozen.proofs.RunSound.{WorldSound, given_well}
use Rattle.law_reference.proofs.Gift.Kept.{found_named}
use Rattle.law_reference.specs.Reference.ListRingless.{IsNamed, told_name}
use Rattle.law_reference.specs.Reference.Notes.{IsBetween}
use Rattle.law_reference.proofs.Reference.Follow.{put_cases}
use Rattle.law_reference.proofs.Reference.Gentle.{AfterGives, gives_by}
use Rattle.law_reference.proofs.Reference.LegRuns.{MailBits, Before, first_mails, self_none}
use Rattle.law_frame.proofs.Heard.Lift.{Opened}
use Rattle.law_reference.proofs.Reference.NotesLift as lift
use Rattle.law_reference.proofs.Reference.NotesRuns.{OfNotes}
use Rattle.law_reference.proofs.Reference.NoticedSteps.{SameNoticed, breakings, same_breakings}
use Rattle.law_reference.proofs.Reference.Told.{told_is}
use Rattle.law_order.specs.Waits.Answers.{answers, asked_at, waits_at, waitings}
use Rattle.law_order.proofs.Waits.Room.{share, times, spent}
use Rattle.law_order.proofs.Waits.Room as room
use Rattle.law_order.proofs.Waits.Costs.{Ends, one_or}
use Rattle.law_order.proofs.Waits.Costs as costs
use Rattle.law_order.proofs.Waits.Arriving as arriving
use Rattle.law_order.proofs.Waits.Turns as turns
use Rattle.law_order.proofs.Waits.Entries.{Went, Stays, Turns, Comes, Noticed, FreshFrom}
use Rattle.law_order.proofs.Waits.Classes.{owed_at, fit_at, root_room, other_host}

-- it did neither settle nor wait, or it settled
abbrev pub IsOpenOrSettled : Standing Name → Type 0
IsOpenOrSettled t = (t ≡ Unsettled) ⊎ ((y : Value Name) × (t ≡ Settled y))

-- ---- what is known is found

module _ (word : ℕ → ℕ) (v : ℕ) where
  abbrev N : Naming Name Name
  N = naming word v

  entry_head : (n : Name) (b : Bool) (k : Known Name) (o : Option (Known Name)) → ((b ≡ false) → (j : Known Name) × (o ≡ Some j)) → (j : Known Name) × (◌≡◌ {A = Option (Known Name)} (elim b [ true ↦ Some k | false ↦ o ]) (Some j))
  entry_head n true k o f = (k, refl)
  entry_head n false k o f = f refl

  no_true : (b : Bool) → b ≡ true → b ≡ false → ⊥
  no_true b e i = cc

  pub among_entry : (n : Name) → IsEventual n → (ks : List (Known Name)) → IsAmong n (names_in ks) → (k : Known Name) × (entry_of N ks n ≡ Some k)
  unfolding entry_of naming
  among_entry n e [] a = absurd a
  among_entry n e (k ∷ ks) (inl i) = entry_head n (same_reference k.name n) k (entry_of N ks n) (λ f. absurd (no_true (same_reference k.name n) (subst (λ (m : Name). same_reference m n ≡ true) i (reference_self n e)) f))
  among_entry n e (k ∷ ks) (inr a) = entry_head n (same_reference k.name n) k (entry_of N ks n) (λ f. among_entry n e ks a)

  pub self_same : (n : Name) → IsEventual n → N.same n n ≡ true
  unfolding naming
  self_same n e = reference_self n e

-- what holds of each gift holds of the one that is found
pub gift_found : (P : GiftEntry Name → Type 0) (p i : ℕ) (gs : List (GiftEntry Name)) → AllOf P gs → (h : GiftEntry Name) → gift_at p i gs ≡ Some h → P h
unfolding gift_at
gift_found P p i [] all h e = cc
gift_found P p i (g ∷ gs) all h e = go (λ f. gift_found P p i gs all.1 h f) (is_gift p i g) e
  where
    same : Some g ≡ Some h → g ≡ h
    same f = cc

    go : (gift_at p i gs ≡ Some h → P h) → (b : Bool) → ◌≡◌ {A = Option (GiftEntry Name)} (elim b [ true ↦ Some g | false ↦ gift_at p i gs ]) (Some h) → P h
    go rest true f = subst P (same f) all.0
    go rest false f = rest f

-- ---- a notice

pub given_at : (P : Vat Name → Type 0) (d : Done Name (Unit {0})) (t : Vat Name) → AfterGives P d → d ≡ Gives tt t → P t
given_at P d t h e = rw e at h

last_in : (w : ℕ) (xs : List ℕ) → is_in w (xs ++ w ∷ []) ≡ true
unfolding is_in
last_in w [] = ap (λ (b : Bool). elim b [ true ↦ true | false ↦ false ]) (eq-eqb w w refl)
last_in w (x ∷ xs) = go (w == x) (last_in w xs)
  where
    go : (b : Bool) → is_in w (xs ++ w ∷ []) ≡ true → elim b [ true ↦ true | false ↦ is_in w (xs ++ w ∷ []) ] ≡ true
    go true e = refl
    go false e = e

module _ (K : Naming Name Name) (w : ℕ) where
  abbrev Marks : Vat Name → Type 0
  Marks t = is_in w t.noticed ≡ true

  marks_all : (s : Vat Name) → AfterGives Marks (arrive.notice_all K w s)
  unfolding arrive.notice_all breakings ◌>>◌ mark and_then
  marks_all s = let t : Vat Name = record s { noticed = s.noticed ++ w ∷ [] } in gives_by SameNoticed Marks t (breakings K w t) (λ u e. ap (is_in w) e ∙ last_in w s.noticed) ((same_breakings K w).after t)

  marks_or : (s : Vat Name) (b : Bool) → is_in w s.noticed ≡ b → AfterGives Marks ((if b then give tt else arrive.notice_all K w) s)
  unfolding give
  marks_or s true e = e
  marks_or s false e = marks_all s

  -- what a notice notices is noticed after it
  pub notice_marks : (s : Vat Name) → AfterGives Marks (arrive.notice K w s)
  unfolding arrive.notice ◌>>=◌ look and_then
  notice_marks s = marks_or s (is_in w s.noticed) refl

-- ---- worlds

module _ (script : Script) where
  abbrev word : ℕ → ℕ
  word = draw_word script.key

  -- what stands of a world of a run
  pub record Facts (w : World) : Type 0 where
    pub before : Before script w
    pub sound : WorldSound script w
    pub hosts : (v : ℕ) (s : Vat Name) → slice_get w.vats v ≡ Some s → AllOf HostIsTrue s.known
    pub known : (v : ℕ) (s : Vat Name) → slice_get w.vats v ≡ Some s → Everywhere (IsHad (names_in s.known) s.mails) s
    -- no vat noticed itself
    pub apart : (v : ℕ) (s : Vat Name) → slice_get w.vats v ≡ Some s → (u : ℕ) → is_in u s.noticed ≡ true → v ≡ u → ⊥
    -- the names of which the next notes tell where they settled, and the gifts that they open, did neither settle nor wait, or settled
    pub told : (a v : ℕ) (s : Vat Name) (l : Link) (n : Name) (c : ℕ) (ns : List (Note Name)) → slice_get w.vats v ≡ Some s → link_at a v w.links ≡ Some l → l.cut ≡ false → l.notes ≡ Elsewhere n c ∷ ns → IsEventual n × IsOpenOrSettled (standing_of (naming word v) s.known n)
    pub opened : (a v : ℕ) (s : Vat Name) (l : Link) (i : ℕ) (n : Name) (ns : List (Note Name)) → slice_get w.vats v ≡ Some s → link_at a v w.links ≡ Some l → l.cut ≡ false → l.notes ≡ Open i n ∷ ns → IsOpenOrSettled (standing_of (naming word v) s.known (Gift v i))

  -- that there is room for a name, and that what it waits on is where it waits
  abbrev pub Held : ℕ → Name → Vat Name → Type 0
  Held v x s = costs.At word v x (owed_at v x) 0 s

  -- ---- a step of one vat

  module _ (v : ℕ) (w : World) (x : Name) where
    ended_at : (d : Done Name (Unit {0})) (t : Vat Name) → Ends (λ u. Held v x u) d → d ≡ Gives tt t → Held v x t
    ended_at d t h e = rw e at h

    ready : (c : ℕ) (q : Vat Name) → costs.At word v x (owed_at v x) c q → costs.At word v x (owed_at v x) c (readied w q)
    unfolding readied
    ready c q h = h

    ready_sound : (s : Vat Name) (ms : List (Message Name)) → Sound (naming word v) s → EachOf (MessageThere s.lists) ms → Sound (naming word v) (readied w (record s { queue = ms }))
    unfolding readied
    ready_sound s ms k h = record { things = k.things; slots = k.slots; lists = k.lists; stacked = k.stacked; queue = h; known = k.known; outbox = tt }

    same_sound : (s : Vat Name) → Sound (naming word v) s → Sound (naming word v) (readied w s)
    unfolding readied
    same_sound s k = record { things = k.things; slots = k.slots; lists = k.lists; stacked = k.stacked; queue = k.queue; known = k.known; outbox = tt }

    -- the message that is taken makes room for what it takes
    taken : (s : Vat Name) (m : Message Name) (ms : List (Message Name)) → s.queue ≡ m ∷ ms → Held v x s → costs.At word v x (owed_at v x) (2 * answers x m + 0) (record s { queue = ms })
    unfolding total
    taken s m ms e h = let r = h.fits in let split : total (answers x) s.queue ≡ answers x m + total (answers x) ms = ap (total (answers x)) e in record { number = h.number; fits = omega arith; waiting = h.waiting; gifts = h.gifts }

    -- a turn
    turned_held : ((i : ℕ) → one (Promise v i) x ≡ 0) → (s t : Vat Name) (tree : List Node) (depth : ℕ) (m : Message Name) (ms : List (Message Name)) → s.queue ≡ m ∷ ms → does (world.names script v) (Takes tree depth m) (readied w (record s { queue = ms })) ≡ Gives tt t → Sound (naming word v) s → Held v x s → Held v x t
    unfolding readied does world.names
    turned_held free s t tree depth m ms e gives sound h = let there : EachOf (MessageThere s.lists) (m ∷ ms) = subst (λ qs. EachOf (MessageThere s.lists) qs) e sound.queue in
        ended_at (does (naming word v) (Takes tree depth m) (readied w (record s { queue = ms }))) t
        (turns.taking_keeps word v x (owed_at v x) (fit_at v x) free tree depth m 0 (readied w (record s { queue = ms })) (ready_sound s ms sound there.1) there.0 (ready (2 * answers x m + 0) (record s { queue = ms }) (taken s m ms e h))) gives

    -- an opening turn, which resolves the root
    opened_held : ((i : ℕ) → one (Promise v i) x ≡ 0) → (s t : Vat Name) (p : Program) → does (world.names script v) (Starts p.tree script.depth (Root v) (world.given script.vats p.knows)) (readied w s) ≡ Gives tt t → Sound (naming word v) s → costs.At word v x (owed_at v x) (2 * one (Root v) x) s → Held v x t
    unfolding does world.names
    opened_held free s t p gives sound h = ended_at (does (naming word v) (Starts p.tree script.depth (Root v) (world.given script.vats p.knows)) (readied w s)) t
        (turns.opening_keeps word v x (owed_at v x) (fit_at v x) free p.tree script.depth (Root v) (world.given script.vats p.knows) 0 (readied w s) (same_sound s sound) (given_well script v (readied w s) p.knows)
        (ready (2 * one (Root v) x + 0) s (costs.less word v x (owed_at v x) (2 * one (Root v) x) (2 * one (Root v) x + 0) (omega arith) s h))) gives

    -- a notice of another vat
    marked_held : (s t : Vat Name) (to : ℕ) → (v ≡ to → ⊥) → does (world.names script v) (Notices to) (readied w s) ≡ Gives tt t → AllOf HostIsTrue s.known → Held v x s → Held v x t
    unfolding readied does world.names
    marked_held s t to apart gives hosts h = ended_at (does (naming word v) (Notices to) (readied w s)) t (arriving.notices_good word v x (owed_at v x) (fit_at v x) to 0 (readied w s)
        (all_map {P = HostIsTrue} {Q = λ (k : Known Name). arriving.NoticesWell word v x (owed_at v x) (fit_at v x) to k} (λ k i e. other_host v x k.name (λ f. apart (sym f ∙ (sym i ∙ e)))) s.known hosts)
        (ready 0 s h)) gives

    -- a note
    noted_held : (s t : Vat Name) (from : ℕ) (n : Note (Incoming Name Name)) → does (world.names script v) (Receives from n) (readied w s) ≡ Gives tt t → arriving.NoteWell word v x (owed_at v x) (fit_at v x) from (readied w s) n → Held v x s → Held v x t
    unfolding does world.names
    noted_held s t from n gives fits h = ended_at (does (naming word v) (Receives from n) (readied w s)) t (arriving.arrives_good word v x (owed_at v x) (fit_at v x) from n 0 (readied w s) fits (ready 0 s h)) gives

  -- that turns keep it of that name, and the opening turn, with what it takes to resolve the root
  pub record TurnsKeep (v : ℕ) (x : Name) : Type 0 where
    pub turn : (w : World) → Facts w → (s t : Vat Name) (m : Message Name) (ms : List (Message Name)) → slice_get w.vats v ≡ Some s → s.queue ≡ m ∷ ms → does (world.names script v) (Takes (world.tree_at script.vats v) script.depth m) (readied w (record s { queue = ms })) ≡ Gives tt t → Held v x s → Held v x t
    pub opening : (w : World) → Facts w → (s t : Vat Name) (p : Program) → slice_get script.vats v ≡ Some p → slice_get w.vats v ≡ Some s → does (world.names script v) (Starts p.tree script.depth (Root v) (world.given script.vats p.knows)) (readied w s) ≡ Gives tt t
        → costs.At word v x (owed_at v x) (2 * one (Root v) x) s → Held v x t

  -- so of a name that is no promise of the vat's own
  pub turns_by : (v : ℕ) (x : Name) → ((i : ℕ) → one (Promise v i) x ≡ 0) → TurnsKeep v x
  unfolding world.names
  turns_by v x free = record {
    turn = λ w f s t m ms there e gives h. let sound = f.sound in turned_held v w x free s t (world.tree_at script.vats v) script.depth m ms e gives (sound.vats v s there) h;
    opening = λ w f s t p is there gives h. let sound = f.sound in opened_held v w x free s t p gives (sound.vats v s there) h;
  }

  -- ---- a note that arrives

  module _ (w : World) (p : Facts w) (a v : ℕ) (s : Vat Name) (n : Note Name) (ns : List (Note Name)) (l : Link) (there : slice_get w.vats v ≡ Some s) (at : link_at a v w.links ≡ Some l) (cut : l.cut ≡ false) (notes : l.notes ≡ n ∷ ns) (x : Name) (held : Held v x s) where
    first_of : (P : Note Name → Type 0) (ms : List (Note Name)) → AllOf P ms → ms ≡ n ∷ ns → P n
    first_of P ms h e = let all : AllOf P (n ∷ ns) = subst (λ qs. AllOf P qs) e h in all.0

    between : IsBetween a v n
    between = let b = p.before in let fits = b.past in let found : MayBe (λ (k : Link). AllOf (OfNotes script a v) k.notes) (Some l) = subst (MayBe (λ (k : Link). AllOf (OfNotes script a v) k.notes)) at (lift.found_fits (OfNotes script) a v w.links fits.1) in
        (first_of (OfNotes script a v) l.notes found notes).0

    apart : a ≡ v → ⊥
    apart e = let b = p.before in let counted = b.counted in let fated = counted.fated (Sent (record { sender = 0; number = 0 })) in self_none w.links fated.apart v l (ap (λ z. link_at z v w.links) (sym e) ∙ at)

    abbrev Well : Note (Incoming Name Name) → Type 0
    Well m = arriving.NoteWell word v x (owed_at v x) (fit_at v x) a s m

    abbrev ks : List Name
    ks = names_of s

    -- a name of the sender takes nothing
    other : (z : Name) → host_of z ≡ a → share (owed_at v x) (one (told_name (read_name ks z)) x) ≡ 0
    other z e = subst (λ (m : Name). share (owed_at v x) (one m x) ≡ 0) (sym (told_is ks z)) (other_host v x z (λ f. apart (sym e ∙ f)))

    known_entry : (z : Name) → IsEventual z → IsKnownIn ks z → (k : Known Name) × (entry_of (naming word v) s.known z ≡ Some k)
    unfolding names_of
    known_entry z e h = among_entry word v z e s.known (among z e h)
      where
        among : (m : Name) → IsEventual m → IsKnownIn (names_in s.known) m → IsAmong m (names_in s.known)
        among m i j = room.known_among m i (names_in s.known) j

    here_by : (z : Name) → IsEventual z → z ≡ x → (b : Bool) → is_old ks z ≡ b → arriving.IsHere word v x (owed_at v x) (fit_at v x) (elim b [ true ↦ Old z | false ↦ New z (host_of z) ]) s.known
    here_by z e same true i = subst (λ (m : Name). (k : Known Name) × (entry_of (naming word v) s.known m ≡ Some k)) same (known_entry z e (old_known ks z i))
    here_by z e same false i = tt

    opens_by : (i : ℕ) (z : Name) → Open i z ≡ n → (one (Gift v i) x ≡ 0) ⊎ (Gift v i ≡ x) → arriving.OpensWell word v x (owed_at v x) (fit_at v x) a i s
    opens_by i z e (inl none) = inl none
    opens_by i z e (inr same) = inr (
      same,
      subst (λ (m : Name). (naming word v).same m m ≡ true) same (self_same word v (Gift v i) tt),
      subst (λ (m : Name). IsOpenOrSettled (standing_of (naming word v) s.known m)) same (p.opened a v s l i z ns there at cut (notes ∙ ap (λ (m : Note Name). m ∷ ns) (sym e))),
      λ h found. subst (λ (m : Name). (k : Known Name) × (entry_of (naming word v) s.known m ≡ Some k)) same (gift_entry h found),
    )
      where
        gift_entry : (h : GiftEntry Name) → gift_at a i s.gifts ≡ Some h → (k : Known Name) × (entry_of (naming word v) s.known (Gift v i) ≡ Some k)
        gift_entry h found = let all = p.known v s there in let ok : GiftOk (IsHad (names_in s.known) s.mails) h = gift_found (GiftOk (IsHad (names_in s.known) s.mails)) a i s.gifts all.gifts h found in
            let named : h.name ≡ Gift v i = subst (WhereSome (λ (g : GiftEntry Name). g.name ≡ Gift v i)) found (found_named v a i s.gifts held.gifts) in
            among_entry word v (Gift v i) tt s.known (subst (IsKnownIn (names_in s.known)) named ok.0)

    sees_by : (z : Name) (c : ℕ) → Elsewhere z c ≡ n → host_of z ≡ a → (one (told_name (read_name ks z)) x ≡ 0) ⊎ (told_name (read_name ks z) ≡ x) → arriving.SeesWell word v x (owed_at v x) (fit_at v x) (read_name ks z) s
    unfolding read_name
    sees_by z c e b (inl none) = (other z b, inl none)
    sees_by z c e b (inr same) = let told = p.told a v s l z c ns there at cut (notes ∙ ap (λ (m : Note Name). m ∷ ns) (sym e)) in let is : z ≡ x = sym (told_is ks z) ∙ same in (
      other z b,
      inr (
        same,
        subst (λ (m : Name). (naming word v).same m m ≡ true) is (self_same word v z told.0),
        subst (λ (m : Name). IsOpenOrSettled (standing_of (naming word v) s.known m)) is told.1,
        here_by z told.0 is (is_old ks z) refl,
      ),
    )

    note_well : (k : Note Name) → k ≡ n → NoteOk MailBits k → IsBetween a v k → Well (read_note ks k)
    unfolding read_note
    note_well (Deliver d z verb ys) e ok b = ok.0
    note_well (Open i z) e ok b = opens_by i z e (one_or (Gift v i) x)
    note_well (SettledTo z c) e ok b = other z b
    note_well (Elsewhere z c) e ok b = sees_by z c e b (one_or (told_name (read_name ks z)) x)
    note_well other e ok b = tt

    arrived_held : (t : Vat Name) → does (world.names script v) (Receives a (read_note (names_of s) n)) (readied w s) ≡ Gives tt t → Held v x t
    unfolding readied
    arrived_held t gives = noted_held v w x s t a (read_note (names_of s) n) gives (note_well n refl (first_mails script w a v n ns l p.before at notes) between) held

  placed_at : (v : ℕ) (t s : Vat Name) (vs : List (Vat Name)) → slice_get vs v ≡ Some s → slice_get (put_at v t vs) v ≡ Some t
  unfolding put_at
  placed_at v t s [] e = cc
  placed_at zero t s (z ∷ vs) e = refl
  placed_at (suc v) t s (z ∷ vs) e = placed_at v t s vs e

  noticed_apart : (w y : World) (v : ℕ) (s t : Vat Name) (to : ℕ) → Facts y → slice_get w.vats v ≡ Some s → does (world.names script v) (Notices to) (readied w s) ≡ Gives tt t → y.vats ≡ put_at v t w.vats → v ≡ to → ⊥
  unfolding does
  noticed_apart w y v s t to p there gives vats = p.apart v t (subst (λ vs. slice_get vs v ≡ Some t) (sym vats) (placed_at v t s w.vats there)) to
      (given_at (λ (u : Vat Name). is_in to u.noticed ≡ true) (arrive.notice (world.names script v) to (readied w s)) t (notice_marks (world.names script v) to (readied w s)) gives)

  -- ---- a move

  abbrev pub AllHeld : World → Type 0
  AllHeld w = (v : ℕ) (s : Vat Name) → slice_get w.vats v ≡ Some s → (x : Name) → Held v x s

  one_vat : (w y : World) (v : ℕ) (t : Vat Name) → y.vats ≡ put_at v t w.vats → ((x : Name) → Held v x t) → AllHeld w → AllHeld y
  one_vat w y v t e k h u s there x = go (put_cases v t w.vats u s (subst (λ vs. slice_get vs u ≡ Some s) e there))
    where
      go : ((u ≡ v) × (t ≡ s)) ⊎ ((u ≡ v → ⊥) × (slice_get w.vats u ≡ Some s)) → Held u x s
      go (inl f) = subst (λ (z : Vat Name). Held u x z) f.1 (subst (λ (c : ℕ). Held c x t) (sym f.0) (k x))
      go (inr f) = h u s f.1 x

  same_vats : (w y : World) → y.vats ≡ w.vats → AllHeld w → AllHeld y
  same_vats w y e h u s there x = h u s (subst (λ vs. slice_get vs u ≡ Some s) e there) x

  module _ (turning : (v : ℕ) (x : Name) → TurnsKeep v x) where
    pub entry_holds : (w y : World) → Facts w → Facts y → Went script w y → AllHeld w → AllHeld y
    entry_holds w y p r (Stays vats) h = same_vats w y vats h
    entry_holds w y p r (Turns v s t m ms there queue gives vats) h = one_vat w y v t vats (λ x. let keeps = turning v x in keeps.turn w p s t m ms there queue gives (h v s there x)) h
    entry_holds w y p r (Comes a v s t l n ns there at cut notes gives vats) h = one_vat w y v t vats (λ x. arrived_held w p a v s n ns l there at cut notes x (h v s there x) t gives) h
    entry_holds w y p r (Noticed v to s t there gives vats) h =
        one_vat w y v t vats (λ x. marked_held v w x s t to (noticed_apart w y v s t to r there gives vats) gives (p.hosts v s there) (h v s there x)) h

  -- ---- the start

  abbrev IsBare : Known Name → Type 0
  IsBare k = (k.standing ≡ Unsettled) × (k.held ≡ []) × (k.reactions ≡ []) × (k.waiting ≡ [])

  bare_sums : (x : Name) (k : Known Name) → IsBare k → (asked_at x k ≡ 0) × (waits_at x k ≡ 0)
  unfolding asked_at waits_at total
  bare_sums x k b = let held : total (answers x) k.held ≡ 0 = ap (total (answers x)) b.1 in let reacting : total (answers x) k.reactions ≡ 0 = ap (total (answers x)) b.2 in (omega arith, ap (total (λ (q : Name). one q x)) b.3)

  sum_none : (f : Known Name → ℕ) (ks : List (Known Name)) → AllOf (λ (k : Known Name). f k ≡ 0) ks → total f ks ≡ 0
  unfolding total
  sum_none f [] h = refl
  sum_none f (k ∷ ks) h = let here = h.0 in let rest = sum_none f ks h.1 in omega arith

  bare_stands : (v : ℕ) (x : Name) (ks : List (Known Name)) → AllOf IsBare ks → standing_of (naming word v) ks x ≡ Unsettled
  unfolding standing_of entry_of standing_in
  bare_stands v x [] h = refl
  bare_stands v x (k ∷ ks) h = go ((naming word v).same k.name x) (bare_stands v x ks h.1)
    where
      go : (b : Bool) → standing_in (entry_of (naming word v) ks x) ≡ Unsettled → standing_in (elim b [ true ↦ Some k | false ↦ entry_of (naming word v) ks x ]) ≡ Unsettled
      go true e = h.0.0
      go false e = e

  bare_at : (v : ℕ) (x : Name) (c : ℕ) (s : Vat Name) → s.number ≡ v → s.queue ≡ [] → s.gifts ≡ [] → AllOf IsBare s.known → c ≤ 2 * share (owed_at v x) (times x s.known) → costs.At word v x (owed_at v x) c s
  unfolding room.burden waitings spent total
  bare_at v x c s number queue gifts bare less =
      let asks : total (asked_at x) s.known ≡ 0 = sum_none (asked_at x) s.known (all_map {P = IsBare} {Q = λ (k : Known Name). asked_at x k ≡ 0} (λ k b. (bare_sums x k b).0) s.known bare) in
      let waits : total (waits_at x) s.known ≡ 0 = sum_none (waits_at x) s.known (all_map {P = IsBare} {Q = λ (k : Known Name). waits_at x k ≡ 0} (λ k b. (bare_sums x k b).1) s.known bare) in
      let first : total (answers x) s.queue ≡ 0 = ap (total (answers x)) queue in
      let stands : spent (standing_of (naming word v) s.known x) ≡ 0 = ap spent (bare_stands v x s.known bare) in
      let none : room.burden word v x s.known ≡ 0 = omega arith in
      let shares : share (owed_at v x) (room.burden word v x s.known) ≡ share (owed_at v x) 0 = ap (share (owed_at v x)) none in let most = room.share_most (owed_at v x) 0 in
      record {
        number = number;
        fits = omega arith;
        waiting = inr (all_map {P = IsBare} {Q = room.WaitsAs word v x (standing_of (naming word v) s.known x)} (λ k b. inl (bare_sums x k b).1) s.known bare);
        gifts = subst (λ gs. AllOf (IsNamed v) gs) (sym gifts) tt;
      }

  bare_roots : (us : List ℕ) → AllOf IsBare (map world.known_root us)
  unfolding world.known_root begun
  bare_roots [] = tt
  bare_roots (u ∷ us) = ((refl, refl, refl, refl), bare_roots us)

  some_vat : (s t : Vat Name) → Some s ≡ Some t → s ≡ t
  some_vat s t e = cc

  -- a vat at the start has room for its root
  fresh_at : (v : ℕ) (x : Name) (c : ℕ) (ps : List Program) (i : ℕ) (s : Vat Name) → slice_get (world.fresh_from script c ps) i ≡ Some s → s.number ≡ v → costs.At word v x (owed_at v x) (2 * one (Root v) x) s
  unfolding world.fresh_from world.fresh world.known_root begun times total
  fresh_at v x c [] i s e k = cc
  fresh_at v x c (q ∷ ps) zero s e k = let same : world.fresh script c q ≡ s = some_vat (world.fresh script c q) s e in let number : c ≡ v = ap (λ (z : Vat Name). z.number) same ∙ k in
      let first : one (Root v) x ≡ one (Root c) x = ap (λ (u : ℕ). one (Root u) x) (sym number) in
      let whole : times x (world.fresh script c q).known ≡ one (Root c) x + total (λ (j : Known Name). one j.name x) (map world.known_root q.knows) = refl in
      let makes : one (Root v) x ≤ share (owed_at v x) (times x (world.fresh script c q).known) = root_room v x (times x (world.fresh script c q).known) (omega arith) in
      subst (λ (z : Vat Name). costs.At word v x (owed_at v x) (2 * one (Root v) x) z) same (bare_at v x (2 * one (Root v) x) (world.fresh script c q) number refl refl ((refl, refl, refl, refl), bare_roots q.knows) (omega arith))
  fresh_at v x c (q ∷ ps) (suc i) s e k = fresh_at v x (suc c) ps i s e k

  abbrev pub Numbered : Type 0
  Numbered = (v : ℕ) (s : Vat Name) → slice_get (world.fresh_from script zero script.vats) v ≡ Some s → s.number ≡ v

  pub begins_held : Numbered → AllHeld (world.begins script)
  unfolding world.begins
  begins_held numbers v s e x = costs.less word v x (owed_at v x) (2 * one (Root v) x) 0 (omega arith) s (fresh_at v x zero script.vats v s e (numbers v s e))

  -- ---- an opening turn

  pub opening_holds : Numbered → ((v : ℕ) (x : Name) → TurnsKeep v x) → (v : ℕ) (p : Program) (w y : World) → Facts w → FreshFrom script v w → slice_get script.vats v ≡ Some p → Opened script w y v p → AllHeld w → AllHeld y
  unfolding naming world.names went
  opening_holds numbers turning v p w y f fresh is o h = let d = o.2 in let s : Vat Name = o.0 in
      one_vat w y v o.1 (ap (λ (z : World). z.vats) o.3)
      (λ x. let keeps = turning v x in keeps.opening w f s o.1 p is d.there d.gives (fresh_at v x zero script.vats v s (fresh v s (omega arith) d.there) (numbers v s (fresh v s (omega arith) d.there)))) h
