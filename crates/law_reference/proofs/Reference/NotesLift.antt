-- What every step of one vat keeps, with what it says of the notes that the vat puts, holds of each vat and of each link in every world of a run.
use Rattle.std.proofs.Common.{◌≡◌, ℕ, zero, suc, Bool, true, false, List, [], ◌∷◌, ◌++◌, Option, Some, None, refl, sym, ◌∙◌, length, append_assoc, ◌==◌}
use Rattle.std.specs.Prelude.{slice_get}
use Rattle.std.proofs.lemmas.Bool.{eqb-true}
use Rattle.def_machine.specs.Values.{Name, Root}
use Rattle.def_machine.specs.State.{Message, Note, Put, Vat, Done, Gives}
use Rattle.def_machine.specs.Eval.{opening, taking}
use Rattle.def_machine.specs.Arrive.{arrive, notice}
use Rattle.def_run.specs.World as world
use Rattle.def_run.specs.World.{Script, Program, Opens, Entry, Turn, Carry, CutLink, NoticeLink, Event, Turned, Idle, Carried, NoticedAt, Link, World, Run, Goes as Going, Stopped, names, names_of, read_note, readied}
use Rattle.law_fate.specs.Name.Names.{AllOf, NoteOk}
use Rattle.law_fate.proofs.Name.Facts.{MayBe, all_end, all_append}
use Rattle.law_fate.proofs.Name.Among.{length_end}
use Rattle.law_fate.proofs.Name.Run.{Stands, Told, steps_stand, opens_stand}
use Rattle.law_reference.proofs.Reference.Gentle.{AfterGives}
use Rattle.law_reference.proofs.Reference.RunLift.{IsAllowed, link_ok, put_at_or, put_one, going_is}

-- there is a link, and it is not cut
abbrev pub IsOpenLink : ℕ → ℕ → List Link → Type 0
IsOpenLink v w ls = (l : Link) × (world.link_at v w ls ≡ Some l) × (l.cut ≡ false)

-- ---- links

ends_at : (b c : Bool) (l : Link) (v w : ℕ) → (l.from == v) ≡ b → (l.to == w) ≡ c → elim b [ true ↦ c | false ↦ false ] ≡ true → (l.from ≡ v) × (l.to ≡ w)
ends_at true true l v w e f i = (eqb-true l.from v e, eqb-true l.to w f)
ends_at true false l v w e f i = cc
ends_at false c l v w e f i = cc

pub ends_are : (l : Link) (v w : ℕ) → world.is_link v w l ≡ true → (l.from ≡ v) × (l.to ≡ w)
unfolding world.is_link
ends_are l v w e = ends_at (l.from == v) (l.to == w) l v w refl refl e

module _ (B : ℕ → ℕ → Note Name → Type 0) where
  -- so are all notes that were put on a link, and all that are under way on it
  abbrev pub Fits : Link → Type 0
  Fits l = AllOf (B l.from l.to) l.log × AllOf (B l.from l.to) l.notes

  link_head : (b : Bool) (l j : Link) (ls rest : List Link) → Fits l → AllOf Fits ls → (b ≡ true → Fits j) → AllOf Fits rest → AllOf Fits (elim b [ true ↦ j ∷ ls | false ↦ l ∷ rest ])
  link_head true l j ls rest h i f g = (f refl, i)
  link_head false l j ls rest h i f g = (h, g)

  with_link_fits : (f : Link → Link) (v w : ℕ) → ((l : Link) → l.from ≡ v → l.to ≡ w → Fits l → Fits (f l)) → (ls : List Link) → AllOf Fits ls → AllOf Fits (world.with_link f v w ls)
  unfolding world.with_link
  with_link_fits f v w g [] h = tt
  with_link_fits f v w g (l ∷ ls) h = link_head (world.is_link v w l) l (f l) ls (world.with_link f v w ls) h.0 h.1 (λ e. let at = ends_are l v w e in g l at.0 at.1 h.0) (with_link_fits f v w g ls h.1)

  pushed_either : (b : Bool) (n : Note Name) (l : Link) → B l.from l.to n → Fits l → Fits (elim b [ true ↦ record l { log = l.log ++ n ∷ [] } | false ↦ record l { notes = l.notes ++ n ∷ []; log = l.log ++ n ∷ [] } ])
  pushed_either true n l i h = (all_end (B l.from l.to) l.log n h.0 i, h.1)
  pushed_either false n l i h = (all_end (B l.from l.to) l.log n h.0 i, all_end (B l.from l.to) l.notes n h.1 i)

  pushed_fits : (n : Note Name) (v w : ℕ) → B v w n → (l : Link) → l.from ≡ v → l.to ≡ w → Fits l → Fits (world.pushed n l)
  unfolding world.pushed
  pushed_fits n v w i l e f h = pushed_either l.cut n l (rw (sym e, sym f) at i) h

  push_all_fits : (v : ℕ) (ps : List (Put Name)) (ls : List Link) → AllOf (λ (p : Put Name). B v p.to p.note) ps → AllOf Fits ls → AllOf Fits (world.push_all v ps ls)
  unfolding world.push_all
  push_all_fits v [] ls i h = h
  push_all_fits v (p ∷ ps) ls i h = push_all_fits v ps (world.with_link (world.pushed p.note) v p.to ls) i.1 (with_link_fits (world.pushed p.note) v p.to (pushed_fits p.note v p.to i.0) ls h)

  notes_fit : (ns : List (Note Name)) (v w : ℕ) → AllOf (B v w) ns → (l : Link) → l.from ≡ v → l.to ≡ w → Fits l → Fits (world.with_notes ns l)
  unfolding world.with_notes
  notes_fit ns v w i l e f h = (h.0, rw (sym e, sym f) at i)

  severed_fits : (l : Link) → Fits l → Fits (world.severed_link l)
  unfolding world.severed_link
  severed_fits l h = (h.0, tt)

  -- a link with its ends
  abbrev pub At : ℕ → ℕ → Link → Type 0
  At v w l = AllOf (B v w) l.notes

  at_ends : (l : Link) (v w : ℕ) → Fits l → (l.from ≡ v) × (l.to ≡ w) → At v w l
  at_ends l v w h e = let one : AllOf (B l.from l.to) l.notes = h.1 in rw (e.0, e.1) at one

  found_head : (b : Bool) (v w : ℕ) (l : Link) (o : Option Link) → (b ≡ true → At v w l) → MayBe (At v w) o → MayBe (At v w) (elim b [ true ↦ Some l | false ↦ o ])
  found_head true v w l o f h = f refl
  found_head false v w l o f h = h

  pub found_fits : (v w : ℕ) (ls : List Link) → AllOf Fits ls → MayBe (At v w) (world.link_at v w ls)
  unfolding world.link_at
  found_fits v w [] h = tt
  found_fits v w (l ∷ ls) h = found_head (world.is_link v w l) v w l (world.link_at v w ls) (λ e. at_ends l v w h.0 (ends_are l v w e)) (found_fits v w ls h.1)

  -- ---- the start

  to_head : (b : Bool) (l : Link) (ls : List Link) → Fits l → AllOf Fits ls → AllOf Fits (elim b [ true ↦ ls | false ↦ l ∷ ls ])
  to_head true l ls h i = i
  to_head false l ls h i = (h, i)

  links_to_fit : (v w : ℕ) (ps : List Program) → AllOf Fits (world.links_to v w ps)
  unfolding world.links_to
  links_to_fit v w [] = tt
  links_to_fit v w (p ∷ ps) = to_head (v == w) (record { from = v; to = w; cut = false; notes = []; roots = world.roots_for v p; log = [] }) (world.links_to v (suc w) ps) (tt, tt) (links_to_fit v (suc w) ps)

  pub links_from_fit : (all : List Program) (v : ℕ) (ps : List Program) → AllOf Fits (world.links_from all v ps)
  unfolding world.links_from
  links_from_fit all v [] = tt
  links_from_fit all v (p ∷ ps) = all_append Fits (world.links_to v zero all) (world.links_from all (suc v) ps) (links_to_fit v zero all) (links_from_fit all (suc v) ps)

-- ---- the worlds of a run

get_mid : (front : List Program) (p : Program) (ps : List Program) → slice_get (front ++ p ∷ ps) (length front) ≡ Some p
get_mid [] p ps = refl
get_mid (f ∷ fs) p ps = get_mid fs p ps

module _ (script : Script) (P : ℕ → Vat Name → Type 0) (B : ℕ → ℕ → Note Name → Type 0) (J : World → Type 0) (Allowed : ℕ → ℕ → Type 0) where
  -- P holds of the state after each step of a vat, where notes of B arrive, and what is put is of B; J holds of the world after each step
  pub record NotesKeep : Type 0 where
    pub turn : (w : World) (v : ℕ) (s : Vat Name) (m : Message Name) (ms : List (Message Name)) → Stands script w → J w → slice_get w.vats v ≡ Some s → s.queue ≡ m ∷ ms → P v s
        → AfterGives (P v) (taking (names script v) (world.tree_at script.vats v) script.depth m (readied w (record s { queue = ms })))
    pub note : (w : World) (from v : ℕ) (s : Vat Name) (n : Note Name) → Stands script w → J w → slice_get w.vats v ≡ Some s → NoteOk (Told script w) n → B from v n → IsOpenLink from v w.links → P v s
        → AfterGives (P v) (arrive (names script v) from (read_note (names_of s) n) (readied w s))
    pub notice : (w : World) (v to : ℕ) (s : Vat Name) → Stands script w → J w → slice_get w.vats v ≡ Some s → Allowed v to → P v s → AfterGives (P v) (notice (names script v) to (readied w s))
    pub opening : (w : World) (v : ℕ) (p : Program) (s : Vat Name) → Stands script w → J w → slice_get script.vats v ≡ Some p → slice_get w.vats v ≡ Some s → P v s
        → AfterGives (P v) (opening (names script v) p.tree script.depth (Root v) (world.given script.vats p.knows) (readied w s))
    pub outs : (v : ℕ) (s : Vat Name) → P v s → AllOf (λ (p : Put Name). B v p.to p.note) s.outbox
    pub step_on : (entry : Entry) (k : ℕ) (w y : World) → Stands script w → J w → IsAllowed Allowed entry → world.step script entry k w ≡ Going y → J y
    pub open_on : (v : ℕ) (p : Program) (w y : World) → Stands script w → J w → world.open_vat script v p w ≡ Going y → J y

  abbrev pub InVats : World → Type 0
  InVats w = (v : ℕ) (s : Vat Name) → slice_get w.vats v ≡ Some s → P v s

  abbrev pub InLinks : World → Type 0
  InLinks w = AllOf (Fits B) w.links

  abbrev pub InBoth : World → Type 0
  InBoth w = InVats w × InLinks w

  abbrev pub All : World → Type 0
  All w = Stands script w × J w × InBoth w

  module _ (law : NotesKeep) where
    moved : (w x : World) → InBoth w → Going w ≡ Going x → InBoth x
    moved w x h e = rw (going_is w x e) at h

    put_back_fits : (w x : World) (v : ℕ) (head : List Event) (n : ℕ) (d : Done Name (Unit {0})) → InBoth w → AfterGives (P v) d → world.put_back v w head n d ≡ Going x → InBoth x
    unfolding world.put_back
    put_back_fits w x v head n (Gives a t) h k i = moved (record { fuel = t.fuel; drawn = t.drawn; vats = world.put_at v t w.vats; links = world.push_all v t.outbox w.links; connections = world.connections_after v t head w.connections; history = w.history ++ head ++ world.events_of w.links v t.happened }) x
        (λ u r e. put_one P v w.vats t k h.0 u r (put_at_or v t w.vats u r e), push_all_fits B v t.outbox w.links (law.outs v t k) h.1) i
    put_back_fits w x v head n other h k i = cc

    idle_fits : (k : ℕ) (w x : World) → InBoth w → world.idle script k w ≡ Going x → InBoth x
    unfolding world.idle
    idle_fits k w x h e = moved (record w { history = w.history ++ Idle k ∷ [] }) x h e

    turn_queue_fits : (k v : ℕ) (w x : World) (s : Vat Name) → slice_get w.vats v ≡ Some s → Stands script w → J w → InBoth w → (qs : List (Message Name)) → s.queue ≡ qs → world.turn_queue script k v w s qs ≡ Going x → InBoth x
    unfolding world.turn_queue world.within
    turn_queue_fits k v w x s i g j h [] q e = idle_fits k w x h e
    turn_queue_fits k v w x s i g j h (m ∷ ms) q e = put_back_fits w x v (Turned k v ∷ []) (world.step_number script k) _ h (law.turn w v s m ms g j i q (h.0 v s i)) e

    turn_fits : (k v : ℕ) (w x : World) → Stands script w → J w → InBoth w → (o : Option (Vat Name)) → slice_get w.vats v ≡ o → world.turn script k v w o ≡ Going x → InBoth x
    unfolding world.turn
    turn_fits k v w x g j h None q e = idle_fits k w x h e
    turn_fits k v w x g j h (Some s) q e = turn_queue_fits k v w x s q g j h s.queue refl e

    arrives_fits : (k v to : ℕ) (w x : World) (ls : List Link) (n : Note Name) → Stands script w → J w → InVats w → AllOf (Fits B) ls → NoteOk (Told script w) n → B v to n → IsOpenLink v to w.links → (o : Option (Vat Name)) → slice_get w.vats to ≡ o → world.arrives script k v to (record w { links = ls }) n o ≡ Going x → InBoth x
    unfolding world.arrives world.within world.readied
    arrives_fits k v to w x ls n g j a h i b c None q e = idle_fits k (record w { links = ls }) x (a, h) e
    arrives_fits k v to w x ls n g j a h i b c (Some s) q e = put_back_fits (record w { links = ls }) x to (Carried k v to n (world.next_frame v to w.connections) ∷ []) (world.step_number script k) _ (a, h) (law.note w v to s n g j q i b c (a to s q)) e

    carry_notes_fits : (k v to : ℕ) (w x : World) → Stands script w → J w → InBoth w → (ns : List (Note Name)) → AllOf (NoteOk (Told script w)) ns → AllOf (B v to) ns → IsOpenLink v to w.links → world.carry_notes script k v to w ns ≡ Going x → InBoth x
    unfolding world.carry_notes
    carry_notes_fits k v to w x g j h [] i b c e = idle_fits k w x h e
    carry_notes_fits k v to w x g j h (n ∷ ns) i b c e = arrives_fits k v to w x (world.with_link (world.with_notes ns) v to w.links) n g j h.0 (with_link_fits B (world.with_notes ns) v to (notes_fit B ns v to b.1) w.links h.1) i.0 b.0 c (slice_get w.vats to) refl e

    carry_cut_fits : (k v to : ℕ) (w x : World) → Stands script w → J w → InBoth w → (l : Link) → AllOf (NoteOk (Told script w)) l.notes → At B v to l → world.link_at v to w.links ≡ Some l → (b : Bool) → l.cut ≡ b → elim b [ true ↦ world.idle script k w | false ↦ world.carry_notes script k v to w l.notes ] ≡ Going x → InBoth x
    carry_cut_fits k v to w x g j h l i a c true d e = idle_fits k w x h e
    carry_cut_fits k v to w x g j h l i a c false d e = carry_notes_fits k v to w x g j h l.notes i a (l, c, d) e

    carry_link_fits : (k v to : ℕ) (w x : World) → Stands script w → J w → InBoth w → (o : Option Link) → world.link_at v to w.links ≡ o → MayBe (λ (l : Link). AllOf (NoteOk (Told script w)) l.notes) o → MayBe (At B v to) o → world.carry_link script k v to w o ≡ Going x → InBoth x
    unfolding world.carry_link
    carry_link_fits k v to w x g j h None c i a e = idle_fits k w x h e
    carry_link_fits k v to w x g j h (Some l) c i a e = carry_cut_fits k v to w x g j h l i a c l.cut refl e

    cut_fits : (k v to : ℕ) (w x : World) → InBoth w → world.cut script k v to w ≡ Going x → InBoth x
    unfolding world.cut
    cut_fits k v to w x h e = moved _ x (h.0, with_link_fits B world.severed_link to v (λ l a b i. severed_fits B l i) (world.with_link world.severed_link v to w.links) (with_link_fits B world.severed_link v to (λ l a b i. severed_fits B l i) w.links h.1)) e

    notice_fits : (k v to : ℕ) (w x : World) → Stands script w → J w → Allowed v to → InBoth w → (o : Option (Vat Name)) → slice_get w.vats v ≡ o → world.within v w (NoticedAt k v to ∷ []) (world.step_number script k) (notice (names script v) to) o ≡ Going x → InBoth x
    unfolding world.within
    notice_fits k v to w x g j ok h None q e = cc
    notice_fits k v to w x g j ok h (Some s) q e = put_back_fits w x v (NoticedAt k v to ∷ []) (world.step_number script k) _ h (law.notice w v to s g j q ok (h.0 v s q)) e

    open_fits : (v : ℕ) (p : Program) (w x : World) → Stands script w → J w → slice_get script.vats v ≡ Some p → InBoth w → (o : Option (Vat Name)) → slice_get w.vats v ≡ o
        → world.within v w (Opens v ∷ []) v (opening (names script v) p.tree script.depth (Root v) (world.given script.vats p.knows)) o ≡ Going x → InBoth x
    unfolding world.within
    open_fits v p w x g j t h None q e = cc
    open_fits v p w x g j t h (Some s) q e = put_back_fits w x v (Opens v ∷ []) v _ h (law.opening w v p s g j t q (h.0 v s q)) e

    step_fits : (entry : Entry) (k : ℕ) (w x : World) → Stands script w → J w → IsAllowed Allowed entry → InBoth w → world.step script entry k w ≡ Going x → InBoth x
    unfolding world.step
    step_fits (Turn v) k w x g j ok h e = turn_fits k v w x g j h (slice_get w.vats v) refl e
    step_fits (Carry v to) k w x g j ok h e = carry_link_fits k v to w x g j h (world.link_at v to w.links) refl (link_ok (λ (l : Link). AllOf (NoteOk (Told script w)) l.notes) v to w.links g.links) (found_fits B v to w.links h.1) e
    step_fits (CutLink v to) k w x g j ok h e = cut_fits k v to w x h e
    step_fits (NoticeLink v to) k w x g j ok h e = notice_fits k v to w x g j ok h (slice_get w.vats v) refl e

    then_fits : (x : World) (r : Run) (f : World → Run) → ((y : World) → r ≡ Going y → All y) → ((y : World) → All y → f y ≡ Going x → All x) → world.then_goes r f ≡ Going x → All x
    unfolding world.then_goes
    then_fits x (Going y) f a b e = b y (a y refl) e
    then_fits x (Stopped c n y) f a b e = cc

    moved_all : (w x : World) → All w → Going w ≡ Going x → All x
    moved_all w x h e = rw (going_is w x e) at h

    then_once : (r : Run) (f : World → Run) (y : World) → r ≡ Going y → f y ≡ Going y → world.then_goes r f ≡ Going y
    unfolding world.then_goes
    then_once r f y e g = rw e g

    one_step : (entry : Entry) (k : ℕ) (w y : World) → world.step script entry k w ≡ Going y → world.steps_from script (entry ∷ []) k w ≡ Going y
    unfolding world.steps_from
    one_step entry k w y e = then_once (world.step script entry k w) (λ z. Going z) y e refl

    pub step_all : (entry : Entry) (k : ℕ) (w y : World) → IsAllowed Allowed entry → All w → world.step script entry k w ≡ Going y → All y
    step_all entry k w y ok h e = (steps_stand script (entry ∷ []) k w y h.0 (one_step entry k w y e), law.step_on entry k w y h.0 h.1 ok e, step_fits entry k w y h.0 h.1 ok h.2 e)

    pub steps_all : (es : List Entry) (k : ℕ) (w x : World) → AllOf (IsAllowed Allowed) es → All w → world.steps_from script es k w ≡ Going x → All x
    unfolding world.steps_from
    steps_all [] k w x ok h e = moved_all w x h e
    steps_all (entry ∷ es) k w x ok h e = then_fits x (world.step script entry k w) (world.steps_from script es (suc k)) (λ y i. step_all entry k w y ok.0 h i) (λ y a j. steps_all es (suc k) y x ok.1 a j) e

    one_open : (v : ℕ) (p : Program) (w y : World) → world.open_vat script v p w ≡ Going y → world.open_from script v (p ∷ []) w ≡ Going y
    unfolding world.open_from
    one_open v p w y e = then_once (world.open_vat script v p w) (λ z. Going z) y e refl

    opened_fits : (v : ℕ) (p : Program) (w y : World) → Stands script w → J w → slice_get script.vats v ≡ Some p → InBoth w → world.open_vat script v p w ≡ Going y → InBoth y
    unfolding world.open_vat
    opened_fits v p w y g j t h e = open_fits v p w y g j t h (slice_get w.vats v) refl e

    open_all : (front rest : List Program) (p : Program) (w y : World) → script.vats ≡ front ++ (p ∷ rest) → All w → world.open_vat script (length front) p w ≡ Going y → All y
    open_all front rest p w y i h e = (opens_stand script front (p ∷ []) rest w y i h.0 (one_open (length front) p w y e), law.open_on (length front) p w y h.0 h.1 e, opened_fits (length front) p w y h.0 h.1 (rw (sym i) at (get_mid front p rest)) h.2 e)

    pub opens_all : (front ps rest : List Program) (w x : World) → script.vats ≡ front ++ (ps ++ rest) → All w → world.open_from script (length front) ps w ≡ Going x → All x
    unfolding world.open_from
    opens_all front [] rest w x i h e = moved_all w x h e
    opens_all front (p ∷ ps) rest w x i h e = then_fits x (world.open_vat script (length front) p w) (world.open_from script (suc (length front)) ps) (λ y j. open_all front (ps ++ rest) p w y i h j)
        (λ y a j. opens_all (front ++ p ∷ []) ps rest y x (i ∙ sym (append_assoc front (p ∷ []) (ps ++ rest))) a (rw (sym (length_end front p)) at j)) e
