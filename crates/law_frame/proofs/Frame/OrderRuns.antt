-- In every world of a run whose notes bring what is new, each link has its notes in order: no note names a gift for which a later one asks.
use Rattle.std.proofs.Common.{◌≡◌, ℕ, zero, suc, ◌+◌, Bool, true, false, List, [], ◌∷◌, ◌++◌, Option, Some, refl, sym, ap, subst, ◌∙◌, inl, inr, append_assoc, append-nil, length, arith}
use Rattle.std.specs.Prelude.{slice_get}
use Rattle.std.proofs.lemmas.Bool.{eqb-true}
use Rattle.def_machine.specs.Values.{Name, Naming, naming}
use Rattle.def_machine.specs.State.{Note, Put, Vat}
use Rattle.law_machine.specs.Machine.Steps.{Step, Opens as Starting, Takes, Receives, Notices, does}
use Rattle.def_run.specs.Draws.{draw_word}
use Rattle.def_run.specs.World as world
use Rattle.def_run.specs.World.{Script, Program, Entry, Link, World, Run, Goes as Going, Stopped, names, names_of, readied, push_all, with_link, with_notes, severed_link}
use Rattle.law_fate.proofs.Fates.Leads.{Leads, Ends}
use Rattle.law_fate.specs.Name.Names.{AllOf, IsAmong, Once, names_in}
use Rattle.law_fate.specs.Name.Runs.{KnowsOnce}
use Rattle.law_fate.proofs.Name.Facts.{all_map}
use Rattle.law_fate.proofs.Name.SameNames.{same_self}
use Rattle.law_fate.proofs.Name.Among.{get_put, length_end}
use Rattle.law_reference.proofs.Reference.NotesLift as lift
use Rattle.law_reference.specs.Reference.NameTableRuns.{NotesBringNew, NamesDiffer}
use Rattle.law_reference.proofs.Reference.KnownRuns.{names_are_known_once}
use Rattle.law_reference.proofs.Reference.Moves.{Moved, Still, Severs, Drops, Steps, Arrives, IsAlone, entry_moves, opening_moves, steps_end}
use Rattle.law_frame.specs.Frame.Asked.{told_in}
use Rattle.law_frame.proofs.Frame.LinksKnown.{Sent, LinkKnown, ends_are, with_link_all}
use Rattle.law_frame.proofs.Frame.WireRuns.{Wire, opened_both, stepped_both}
use Rattle.law_frame.specs.Frame.Order.{GiftsAreAskedForFirst}
use Rattle.law_frame.proofs.Frame.Grow.{among_left, among_right}
use Rattle.law_frame.proofs.Frame.AlikeAsking.{Any, Quiet, quiet_taking, quiet_opening, quiet_notice}
use Rattle.law_frame.proofs.Frame.Order.{InOrder, AsksNew, Within, ToldWithin, notes_of, quiet_order, order_more, told_more, told_not_asked, known_within}
use Rattle.law_frame.proofs.Frame.Learning.{Ordered, note_ordered}

-- ---- names that differ are known once

pub among_get : (n : Name) (ns : List Name) → IsAmong n ns → (j : ℕ) × (slice_get ns j ≡ Some n)
among_get n [] a = absurd a
among_get n (m ∷ ns) (inl e) = (zero, ap Some (sym e))
among_get n (m ∷ ns) (inr a) = let r = among_get n ns a in (suc r.0, r.1)

-- each stands at one place
abbrev OnePlace : List Name → Type 0
OnePlace ns = (i j : ℕ) (n : Name) → slice_get ns i ≡ Some n → slice_get ns j ≡ Some n → i ≡ j

place_once : (ns : List Name) → OnePlace ns → Once ns
place_once [] h = tt
place_once (n ∷ ns) h = (λ a. let r = among_get n ns a in let e : zero ≡ suc r.0 = h zero (suc r.0) n refl r.1 in absurd (omega arith), place_once ns (λ i j m e f. let g : suc i ≡ suc j = h (suc i) (suc j) m e f in omega arith))

pub differ_once : (y : World) → NamesDiffer y → (v : ℕ) (t : Vat Name) → slice_get y.vats v ≡ Some t → Once (names_in t.known)
differ_once y h v t e = place_once (names_in t.known) (λ i j n f g. eqb-true i j (sym (h v t e i j n n f g) ∙ same_self n))

-- ---- links

abbrev pub LogsOrdered : List Link → Type 0
LogsOrdered ls = AllOf (λ (l : Link). InOrder [] l.log) ls

module _ (v : ℕ) where
  -- the notes are in order, and what vat v told is among these names
  abbrev Ready : List Name → Link → Type 0
  Ready seen l = InOrder [] l.log × (l.from ≡ v → ToldWithin seen l.log)

  more : (seen ns : List Name) → Within seen (seen ++ ns)
  more seen ns n e a = among_left n seen ns a

  ready_on : (seen ns : List Name) (l : Link) → Ready seen l → Ready (seen ++ ns) l
  ready_on seen ns l h = (h.0, λ e. told_on l.log (h.1 e))
    where
      told_on : (log : List (Note Name)) → ToldWithin seen log → ToldWithin (seen ++ ns) log
      told_on [] f = tt
      told_on (x ∷ log) f = (λ n i a. more seen ns n i (f.0 n i a), told_on log f.1)

  pushed_or : (b : Bool) (seen : List Name) (n : Note Name) (l : Link) → l.from ≡ v → AsksNew seen n → Ready seen l → Ready (seen ++ told_in n) (elim b [ true ↦ record l { log = l.log ++ n ∷ [] } | false ↦ record l { notes = l.notes ++ n ∷ []; log = l.log ++ n ∷ [] } ])
  pushed_or true seen n l e k h = (order_more seen [] l.log n (λ m i a. absurd a) (h.1 e) h.0 k, λ f. told_more seen (seen ++ told_in n) (more seen (told_in n)) l.log n (h.1 f) (λ m i a. among_right m seen (told_in n) a))
  pushed_or false seen n l e k h = (order_more seen [] l.log n (λ m i a. absurd a) (h.1 e) h.0 k, λ f. told_more seen (seen ++ told_in n) (more seen (told_in n)) l.log n (h.1 f) (λ m i a. among_right m seen (told_in n) a))

  pushed_ready : (seen : List Name) (n : Note Name) (l : Link) → l.from ≡ v → AsksNew seen n → Ready seen l → Ready (seen ++ told_in n) (world.pushed n l)
  unfolding world.pushed
  pushed_ready seen n l e k h = pushed_or l.cut seen n l e k h

  with_either : (b : Bool) (seen : List Name) (l j : Link) (ls ks : List Link) → (b ≡ true → Ready seen j) → Ready seen l → AllOf (Ready seen) ls → AllOf (Ready seen) ks → AllOf (Ready seen) (elim b [ true ↦ j ∷ ls | false ↦ l ∷ ks ])
  with_either true seen l j ls ks f h i k = (f refl, i)
  with_either false seen l j ls ks f h i k = (h, k)

  with_ready : (seen : List Name) (n : Note Name) (to : ℕ) → AsksNew seen n → (ls : List Link) → AllOf (Ready seen) ls → AllOf (Ready (seen ++ told_in n)) (with_link (world.pushed n) v to ls)
  unfolding with_link
  with_ready seen n to k [] h = tt
  with_ready seen n to k (l ∷ ls) h = with_either (world.is_link v to l) (seen ++ told_in n) l (world.pushed n l) ls (with_link (world.pushed n) v to ls) (λ e. pushed_ready seen n l (ends_are l v to e).0 k h.0) (ready_on seen (told_in n) l h.0) (all_map (ready_on seen (told_in n)) ls h.1) (with_ready seen n to k ls h.1)

  push_ordered : (seen : List Name) (ps : List (Put Name)) (ls : List Link) → InOrder seen (notes_of ps) → AllOf (Ready seen) ls → LogsOrdered (push_all v ps ls)
  unfolding push_all notes_of
  push_ordered seen [] ls k h = all_map (λ (l : Link) i. i.0) ls h
  push_ordered seen (p ∷ ps) ls k h = push_ordered (seen ++ told_in p.note) ps (with_link (world.pushed p.note) v p.to ls) k.1 (with_ready seen p.note p.to k.0 ls h)

  -- what a vat told it knows
  ready_known : (vats : List (Vat Name)) (s : Vat Name) → slice_get vats v ≡ Some s → (l : Link) → LinkKnown vats l → InOrder [] l.log → Ready (names_in s.known) l
  ready_known vats s there l k h = (h, λ e. all_map (λ (n : Note Name) i. within n i e) l.log k.sent)
    where
      within : (n : Note Name) → Sent vats l.from l.to n → l.from ≡ v → Within (told_in n) (names_in s.known)
      within n i e = known_within (names_in s.known) (told_in n) (i.2 s (subst (λ (z : ℕ). slice_get vats z ≡ Some s) (sym e) there)).1

  all_ready : (vats : List (Vat Name)) (s : Vat Name) → slice_get vats v ≡ Some s → (ls : List Link) → AllOf (LinkKnown vats) ls → LogsOrdered ls → AllOf (Ready (names_in s.known)) ls
  all_ready vats s there [] k h = tt
  all_ready vats s there (l ∷ ls) k h = (ready_known vats s there l k.0 h.0, all_ready vats s there ls k.1 h.1)

  taken_ready : (seen : List Name) (ns : List (Note Name)) (a to : ℕ) (ls : List Link) → AllOf (Ready seen) ls → AllOf (Ready seen) (with_link (with_notes ns) a to ls)
  unfolding with_notes
  taken_ready seen ns a to ls h = with_link_all (Ready seen) (with_notes ns) a to (λ l e f i. taken l i) ls h
    where
      taken : (l : Link) → Ready seen l → Ready seen (record l { notes = ns })
      taken l i = i

taken_ordered : (ns : List (Note Name)) (a to : ℕ) (ls : List Link) → LogsOrdered ls → LogsOrdered (with_link (with_notes ns) a to ls)
unfolding with_notes
taken_ordered ns a to ls h = with_link_all (λ (l : Link). InOrder [] l.log) (with_notes ns) a to (λ l e f i. taken l i) ls h
  where
    taken : (l : Link) → InOrder [] l.log → InOrder [] (record l { notes = ns }).log
    taken l i = i

severed_ordered : (a to : ℕ) (ls : List Link) → LogsOrdered ls → LogsOrdered (with_link severed_link a to ls)
unfolding severed_link
severed_ordered a to ls h = with_link_all (λ (l : Link). InOrder [] l.log) severed_link a to (λ l e f i. severed l i) ls h
  where
    severed : (l : Link) → InOrder [] l.log → InOrder [] (record l { cut = true; notes = [] }).log
    severed l i = i

-- ---- a step

alone_quiet : (K : Naming Name Name) (what : Step Name Name) → IsAlone what → Leads Any Quiet (does K what)
unfolding does
alone_quiet K (Starting tree depth root given) h = quiet_opening K tree depth root given
alone_quiet K (Takes tree depth m) h = quiet_taking K tree depth m
alone_quiet K (Receives from n) h = absurd h
alone_quiet K (Notices w) h = quiet_notice K w

module _ (script : Script) where
  none_put : (w : World) (q : Vat Name) → (readied w q).outbox ≡ []
  unfolding readied
  none_put w q = refl

  same_known : (w : World) (q : Vat Name) → names_in (readied w q).known ≡ names_in q.known
  unfolding readied
  same_known w q = refl

  quiet_puts : (ks : List Name) (w : World) (q t : Vat Name) → Quiet (readied w q) t → InOrder ks (notes_of t.outbox)
  quiet_puts ks w q t h = subst (λ ps. InOrder ks (notes_of ps)) (sym (h.outbox ∙ ap (λ ps. ps ++ h.puts) (none_put w q))) (quiet_order ks h.puts h.none)

  moved_ordered : (w y : World) → Wire script w → NamesDiffer y → Moved script w y → LogsOrdered w.links → LogsOrdered y.links
  unfolding names names_of does
  moved_ordered w y g d (Still e f k) h = subst LogsOrdered (sym f) h
  moved_ordered w y g d (Severs a b e f k) h = subst LogsOrdered (sym f) (severed_ordered b a (with_link severed_link a b w.links) (severed_ordered a b w.links h))
  moved_ordered w y g d (Drops a v n ns l at notes none e f k) h = subst LogsOrdered (sym f) (taken_ordered ns a v w.links h)
  moved_ordered w y g d (Steps v s q t what alone move e f k first fresh) h = subst LogsOrdered (sym f) (push_ordered v (names_in s.known) t.outbox w.links (quiet_puts (names_in s.known) w q t quiet) (all_ready v w.vats s move.there w.links g.links h))
    where
      quiet : Quiet (readied w q) t
      quiet = subst (λ r. Ends Any Quiet (readied w q) r) move.gives ((alone_quiet (naming (draw_word script.key) v) what alone).after (readied w q))
  moved_ordered w y g d (Arrives a v s t n ns l at cut notes move e f k first fresh) h = subst LogsOrdered (sym f) (push_ordered v (names_in s.known) t.outbox (with_link (with_notes ns) a v w.links) (ordered once_known) (taken_ready v (names_in s.known) ns a v w.links (all_ready v w.vats s move.there w.links g.links h)))
    where
      ordered : Once (names_in t.known) → InOrder (names_in s.known) (notes_of t.outbox)
      ordered = subst (λ r. Ordered (names_in s.known) r) move.gives (note_ordered (draw_word script.key) v a (names_in s.known) n (readied w s) (same_known w s) (none_put w s))

      placed : slice_get y.vats v ≡ Some t
      placed = ap (λ us. slice_get us v) e ∙ get_put w.vats v s t move.there

      once_known : Once (names_in t.known)
      once_known = differ_once y d v t placed

  -- ---- the start

  no_logs : (ls : List Link) → AllOf (lift.Fits (λ v u n. ⊥)) ls → LogsOrdered ls
  no_logs ls h = all_map (λ (l : Link) i. empty l.log i.0) ls h
    where
      empty : (log : List (Note Name)) → AllOf (λ (n : Note Name). ⊥) log → InOrder [] log
      empty [] i = tt
      empty (n ∷ log) i = absurd i.0

  pub begins_ordered : LogsOrdered (world.begins script).links
  unfolding world.begins
  begins_ordered = no_logs (world.links_from script.vats zero script.vats) (lift.links_from_fit (λ v u n. ⊥) script.vats zero script.vats)

  -- ---- a run

  going_is : (w x : World) → Going w ≡ Going x → w ≡ x
  going_is w x e = cc

  moved_to : (w x : World) → LogsOrdered w.links → Going w ≡ Going x → LogsOrdered x.links
  moved_to w x h e = subst (λ (z : World). LogsOrdered z.links) (going_is w x e) h

  then_ordered : (x : World) (r : Run) (f : World → Run) → ((y : World) → r ≡ Going y → f y ≡ Going x → LogsOrdered x.links) → world.then_goes r f ≡ Going x → LogsOrdered x.links
  unfolding world.then_goes
  then_ordered x (Going y) f b e = b y refl e
  then_ordered x (Stopped c n y) f b e = cc

  then_end : (r : Run) (f g : World → Run) (w y : World) → world.then_goes r f ≡ Going w → ((z : World) → r ≡ Going z → f z ≡ Going w → g z ≡ Going y) → world.then_goes r g ≡ Going y
  unfolding world.then_goes
  then_end (Going z) f g w y e k = k z refl e
  then_end (Stopped c n z) f g w y e k = cc

  then_last : (r : Run) (y : World) → r ≡ Going y → world.then_goes r (λ z. Going z) ≡ Going y
  unfolding world.then_goes
  then_last r y e = rw e refl

  opens_end : (ds : List Program) (p : Program) (v : ℕ) (w0 w y : World) → world.open_from script v ds w0 ≡ Going w → world.open_vat script (v + length ds) p w ≡ Going y → world.open_from script v (ds ++ p ∷ []) w0 ≡ Going y
  unfolding world.open_from
  opens_end [] p v w0 w y e f = let i : v + 0 ≡ v = omega arith in let same : w0 ≡ w = going_is w0 w e in then_last (world.open_vat script v p w0) y (rw same (rw i at f))
  opens_end (d ∷ ds) p v w0 w y e f = then_end (world.open_vat script v d w0) (world.open_from script (suc v) ds) (world.open_from script (suc v) (ds ++ p ∷ [])) w y e
      (λ z i j. opens_end ds p (suc v) z w y j (let n : v + suc (length ds) ≡ suc v + length ds = omega arith in rw n at f))

  get_mid : (front : List Program) (p : Program) (ps : List Program) → slice_get (front ++ p ∷ ps) (length front) ≡ Some p
  get_mid [] p ps = refl
  get_mid (f ∷ fs) p ps = get_mid fs p ps

  module _ (once : KnowsOnce script) where
    pub opens_ordered : (ds ps rest : List Program) (w x : World) → script.vats ≡ ds ++ (ps ++ rest) → world.open_from script zero ds (world.begins script) ≡ Going w → LogsOrdered w.links → world.open_from script (length ds) ps w ≡ Going x → LogsOrdered x.links
    unfolding world.open_from
    opens_ordered ds [] rest w x i d h e = moved_to w x h e
    opens_ordered ds (p ∷ ps) rest w x i d h e = then_ordered x (world.open_vat script (length ds) p w) (world.open_from script (suc (length ds)) ps)
        (λ y j f. let n : 0 + length ds ≡ length ds = omega arith in let done : world.open_from script zero (ds ++ p ∷ []) (world.begins script) ≡ Going y = opens_end ds p zero (world.begins script) w y d (rw (sym n) at j) in
        let split : script.vats ≡ (ds ++ p ∷ []) ++ (ps ++ rest) = i ∙ sym (append_assoc ds (p ∷ []) (ps ++ rest)) in let both = opened_both script once ds (p ∷ (ps ++ rest)) w i d in
        opens_ordered (ds ++ p ∷ []) ps rest y x split done (moved_ordered w y both.1 ((names_are_known_once script once).0 (ds ++ p ∷ []) (ps ++ rest) y split done) (opening_moves script (length ds) p w y both.0 (rw (sym i) at (get_mid ds p (ps ++ rest))) j) h) (rw (sym (length_end ds p)) at f)) e

    opened_ordered : (w : World) → world.open_from script zero script.vats (world.begins script) ≡ Going w → LogsOrdered w.links
    unfolding world.open_from
    opened_ordered w e = opens_ordered [] script.vats [] (world.begins script) w (sym (append-nil script.vats)) refl begins_ordered e

    -- what holds of more entries holds of fewer
    pub new_front : (ds es : List Entry) (k : ℕ) (w : World) → NotesBringNew script (ds ++ es) k w → NotesBringNew script ds k w
    new_front [] es k w h = tt
    new_front (d ∷ ds) es k w h = (h.0, λ y e. new_front ds es (suc k) y (h.1 y e))

    steps_ordered : (w0 : World) (k0 : ℕ) → world.open_from script zero script.vats (world.begins script) ≡ Going w0 → (ds es : List Entry) (k : ℕ) (w x : World) → k ≡ k0 + length ds → world.steps_from script ds k0 w0 ≡ Going w → NotesBringNew script (ds ++ es) k0 w0 → LogsOrdered w.links → world.steps_from script es k w ≡ Going x → LogsOrdered x.links
    unfolding world.steps_from
    steps_ordered w0 k0 o ds [] k w x n d b h e = moved_to w x h e
    steps_ordered w0 k0 o ds (entry ∷ es) k w x n d b h e = then_ordered x (world.step script entry k w) (world.steps_from script es (suc k))
        (λ y j f. let done : world.steps_from script (ds ++ entry ∷ []) k0 w0 ≡ Going y = steps_end script ds entry k0 w0 w y d (rw n at j) in let l = length_end ds entry in
        let more : NotesBringNew script ((ds ++ entry ∷ []) ++ es) k0 w0 = subst (λ zs. NotesBringNew script zs k0 w0) (sym (append_assoc ds (entry ∷ []) es)) b in
        let both = stepped_both script once w0 w ds k0 o d in let differ : NamesDiffer y = (names_are_known_once script once).1 w0 y (ds ++ entry ∷ []) k0 o (new_front (ds ++ entry ∷ []) es k0 w0 more) done in
        steps_ordered w0 k0 o (ds ++ entry ∷ []) es (suc k) y x (omega arith) done more (moved_ordered w y both.1 differ (entry_moves script entry k w y both.0 j) h) f) e

    pub stepped_ordered : (w x : World) (es : List Entry) (k : ℕ) → NotesBringNew script es k w → world.open_from script zero script.vats (world.begins script) ≡ Going w → world.steps_from script es k w ≡ Going x → LogsOrdered x.links
    unfolding world.steps_from
    stepped_ordered w x es k b o e = let n : k ≡ k + 0 = omega arith in steps_ordered w k o [] es k w x n refl b (opened_ordered w o) e

found_or : (P : Link → Type 0) (b : Bool) (l j : Link) (o : Option Link) → P l → (o ≡ Some j → P j) → ◌≡◌ {A = Option Link} (elim b [ true ↦ Some l | false ↦ o ]) (Some j) → P j
found_or P true l j o h f e = subst P (let same : l ≡ j = cc in same) h
found_or P false l j o h f e = f e

pub found_all : (P : Link → Type 0) (v u : ℕ) (l : Link) (ls : List Link) → AllOf P ls → world.link_at v u ls ≡ Some l → P l
unfolding world.link_at
found_all P v u l [] h e = cc
found_all P v u l (k ∷ ls) h e = found_or P (world.is_link v u k) k l (world.link_at v u ls) h.0 (λ f. found_all P v u l ls h.1 f) e

pub gifts_asked_first : GiftsAreAskedForFirst
gifts_asked_first script once w x es k new opened stepped v u l at front rest n split p i g told asked =
    told_not_asked [] front rest n g p i told asked (subst (λ ns. InOrder [] ns) split (found_all (λ (j : Link). InOrder [] j.log) v u l x.links (stepped_ordered script once w x es k new opened stepped) at))
