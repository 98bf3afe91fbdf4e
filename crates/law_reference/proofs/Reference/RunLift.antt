-- What every step of one vat keeps, in a run from its start, holds of each vat in every world of the run.
use Rattle.std.proofs.Common.{◌≡◌, ℕ, zero, suc, Bool, true, false, List, [], ◌∷◌, ◌++◌, Option, Some, None, refl, sym, ap, ◌∙◌, inl, inr, ◌⊎◌, length, append_assoc}
use Rattle.std.specs.Prelude.{slice_get}
use Rattle.def_machine.specs.Values.{Name, Root}
use Rattle.def_machine.specs.State.{Message, Note, Vat, Done, Gives}
use Rattle.def_machine.specs.Eval.{opening, taking}
use Rattle.def_machine.specs.Arrive.{arrive, notice}
use Rattle.def_run.specs.World as world
use Rattle.def_run.specs.World.{Script, Program, Opens, Entry, Turn, Carry, CutLink, NoticeLink, Event, Turned, Idle, Carried, NoticedAt, Link, World, Run, Goes as Going, Stopped, names, names_of, read_note, put_at, readied}
use Rattle.law_fate.specs.Name.Names.{AllOf, IsMade, NoteOk}
use Rattle.law_fate.proofs.Name.Facts.{MayBe, all_map, note_up}
use Rattle.law_fate.proofs.Name.Among.{length_end}
use Rattle.law_fate.proofs.Name.Run.{Stands, Told, steps_stand, opens_stand}
use Rattle.law_reference.proofs.Reference.Gentle.{AfterGives}

pub put_at_or : (v : ℕ) (y : Vat Name) (xs : List (Vat Name)) (u : ℕ) (t : Vat Name) → slice_get (put_at v y xs) u ≡ Some t → ((u ≡ v) × (y ≡ t)) ⊎ (slice_get xs u ≡ Some t)
unfolding put_at
put_at_or v y [] u t e = inr e
put_at_or zero y (x ∷ xs) zero t e = let same : y ≡ t = cc in inl (refl, same)
put_at_or zero y (x ∷ xs) (suc u) t e = inr e
put_at_or (suc v) y (x ∷ xs) zero t e = inr e
put_at_or (suc v) y (x ∷ xs) (suc u) t e = go (put_at_or v y xs u t e)
  where
    go : ((u ≡ v) × (y ≡ t)) ⊎ (slice_get xs u ≡ Some t) → ((suc u ≡ suc v) × (y ≡ t)) ⊎ (slice_get (x ∷ xs) (suc u) ≡ Some t)
    go (inl h) = inl (ap suc h.0, h.1)
    go (inr h) = inr h

pub going_is : (w x : World) → Going w ≡ Going x → w ≡ x
going_is w x e = cc

-- the vat that goes on, and the others
pub put_one : (A : ℕ → Vat Name → Type 0) (v : ℕ) (vats : List (Vat Name)) (t : Vat Name) → A v t → ((u : ℕ) (r : Vat Name) → slice_get vats u ≡ Some r → A u r) → (u : ℕ) (r : Vat Name) → ((u ≡ v) × (t ≡ r)) ⊎ (slice_get vats u ≡ Some r) → A u r
put_one A v vats t k h u r (inl e) = let one : A u t = rw (sym e.0) at k in rw e.1 at one
put_one A v vats t k h u r (inr e) = h u r e

either_link : (P : Link → Type 0) (b : Bool) (l : Link) (o : Option Link) → P l → MayBe P o → MayBe P (elim b [ true ↦ Some l | false ↦ o ])
either_link P true l o h i = h
either_link P false l o h i = i

pub link_ok : (P : Link → Type 0) (v w : ℕ) (ls : List Link) → AllOf P ls → MayBe P (world.link_at v w ls)
unfolding world.link_at
link_ok P v w [] h = tt
link_ok P v w (l ∷ ls) h = either_link P (world.is_link v w l) l (world.link_at v w ls) h.0 (link_ok P v w ls h.1)

-- an entry that is no notice, or a notice that is allowed
abbrev pub IsAllowed : (ℕ → ℕ → Type 0) → Entry → Type 0
IsAllowed Allowed (NoticeLink v to) = Allowed v to
IsAllowed Allowed other = Unit {0}

-- where each notice is allowed, each entry is
pub all_allowed : (Allowed : ℕ → ℕ → Type 0) → ((v to : ℕ) → Allowed v to) → (es : List Entry) → AllOf (IsAllowed Allowed) es
all_allowed Allowed f [] = tt
all_allowed Allowed f (NoticeLink v to ∷ es) = (f v to, all_allowed Allowed f es)
all_allowed Allowed f (Turn v ∷ es) = (tt, all_allowed Allowed f es)
all_allowed Allowed f (Carry v to ∷ es) = (tt, all_allowed Allowed f es)
all_allowed Allowed f (CutLink v to ∷ es) = (tt, all_allowed Allowed f es)

-- each name in a note under way was made
pub links_made : (script : Script) (w : World) → Stands script w → AllOf (λ (l : Link). AllOf (NoteOk (IsMade w.vats w.drawn)) l.notes) w.links
links_made script w g = all_map (λ l i. all_map (λ n j. note_up (Told script w) (IsMade w.vats w.drawn) (λ b k. k.0) n j) l.notes i) w.links g.links

module _ (script : Script) (P : ℕ → Vat Name → Type 0) (Allowed : ℕ → ℕ → Type 0) where
  -- P holds of the state after each step of a vat, but for notices that are not allowed, in any world in which names stand as they do in runs
  pub record StepsKeep : Type 0 where
    pub turn : (w : World) (v : ℕ) (s : Vat Name) (m : Message Name) (ms : List (Message Name)) → Stands script w → slice_get w.vats v ≡ Some s → s.queue ≡ m ∷ ms → P v s
        → AfterGives (P v) (taking (names script v) (world.tree_at script.vats v) script.depth m (readied w (record s { queue = ms })))
    pub note : (w : World) (from v : ℕ) (s : Vat Name) (n : Note Name) → Stands script w → slice_get w.vats v ≡ Some s → NoteOk (IsMade w.vats w.drawn) n → P v s
        → AfterGives (P v) (arrive (names script v) from (read_note (names_of s) n) (readied w s))
    pub notice : (w : World) (v to : ℕ) (s : Vat Name) → Stands script w → slice_get w.vats v ≡ Some s → Allowed v to → P v s → AfterGives (P v) (notice (names script v) to (readied w s))
    pub opening : (w : World) (v : ℕ) (p : Program) (s : Vat Name) → Stands script w → slice_get w.vats v ≡ Some s → P v s
        → AfterGives (P v) (opening (names script v) p.tree script.depth (Root v) (world.given script.vats p.knows) (readied w s))

  abbrev pub InVats : World → Type 0
  InVats w = (v : ℕ) (s : Vat Name) → slice_get w.vats v ≡ Some s → P v s

  module _ (law : StepsKeep) where
    moved : (w x : World) → InVats w → Going w ≡ Going x → InVats x
    moved w x h e = rw (going_is w x e) at h

    put_back_keeps : (w x : World) (v : ℕ) (head : List Event) (n : ℕ) (d : Done Name (Unit {0})) → InVats w → AfterGives (P v) d → world.put_back v w head n d ≡ Going x → InVats x
    unfolding world.put_back
    put_back_keeps w x v head n (Gives a t) h k i = moved (record { fuel = t.fuel; drawn = t.drawn; vats = put_at v t w.vats; links = world.push_all v t.outbox w.links; connections = world.connections_after v t head w.connections; history = w.history ++ head ++ world.events_of w.links v t.happened }) x (λ u r e. put_one P v w.vats t k h u r (put_at_or v t w.vats u r e)) i
    put_back_keeps w x v head n other h k i = cc

    idle_keeps : (k : ℕ) (w x : World) → InVats w → world.idle script k w ≡ Going x → InVats x
    unfolding world.idle
    idle_keeps k w x h e = moved (record w { history = w.history ++ Idle k ∷ [] }) x h e

    turn_queue_keeps : (k v : ℕ) (w x : World) (s : Vat Name) → slice_get w.vats v ≡ Some s → Stands script w → InVats w → (qs : List (Message Name)) → s.queue ≡ qs → world.turn_queue script k v w s qs ≡ Going x → InVats x
    unfolding world.turn_queue world.within
    turn_queue_keeps k v w x s i g h [] q e = idle_keeps k w x h e
    turn_queue_keeps k v w x s i g h (m ∷ ms) q e = put_back_keeps w x v (Turned k v ∷ []) (world.step_number script k) _ h (law.turn w v s m ms g i q (h v s i)) e

    turn_keeps : (k v : ℕ) (w x : World) → Stands script w → InVats w → (o : Option (Vat Name)) → slice_get w.vats v ≡ o → world.turn script k v w o ≡ Going x → InVats x
    unfolding world.turn
    turn_keeps k v w x g h None q e = idle_keeps k w x h e
    turn_keeps k v w x g h (Some s) q e = turn_queue_keeps k v w x s q g h s.queue refl e

    arrives_keeps : (k v to : ℕ) (w x : World) (ls : List Link) (n : Note Name) → Stands script w → InVats w → NoteOk (IsMade w.vats w.drawn) n → (o : Option (Vat Name)) → slice_get w.vats to ≡ o → world.arrives script k v to (record w { links = ls }) n o ≡ Going x → InVats x
    unfolding world.arrives world.within world.readied
    arrives_keeps k v to w x ls n g h i None q e = idle_keeps k (record w { links = ls }) x h e
    arrives_keeps k v to w x ls n g h i (Some s) q e = put_back_keeps (record w { links = ls }) x to (Carried k v to n (world.next_frame v to w.connections) ∷ []) (world.step_number script k) _ h (law.note w v to s n g q i (h to s q)) e

    carry_notes_keeps : (k v to : ℕ) (w x : World) → Stands script w → InVats w → (ns : List (Note Name)) → AllOf (NoteOk (IsMade w.vats w.drawn)) ns → world.carry_notes script k v to w ns ≡ Going x → InVats x
    unfolding world.carry_notes
    carry_notes_keeps k v to w x g h [] i e = idle_keeps k w x h e
    carry_notes_keeps k v to w x g h (n ∷ ns) i e = arrives_keeps k v to w x (world.with_link (world.with_notes ns) v to w.links) n g h i.0 (slice_get w.vats to) refl e

    carry_cut_keeps : (k v to : ℕ) (w x : World) → Stands script w → InVats w → (l : Link) → AllOf (NoteOk (IsMade w.vats w.drawn)) l.notes → (b : Bool) → elim b [ true ↦ world.idle script k w | false ↦ world.carry_notes script k v to w l.notes ] ≡ Going x → InVats x
    carry_cut_keeps k v to w x g h l i true e = idle_keeps k w x h e
    carry_cut_keeps k v to w x g h l i false e = carry_notes_keeps k v to w x g h l.notes i e

    carry_link_keeps : (k v to : ℕ) (w x : World) → Stands script w → InVats w → (o : Option Link) → MayBe (λ (l : Link). AllOf (NoteOk (IsMade w.vats w.drawn)) l.notes) o → world.carry_link script k v to w o ≡ Going x → InVats x
    unfolding world.carry_link
    carry_link_keeps k v to w x g h None i e = idle_keeps k w x h e
    carry_link_keeps k v to w x g h (Some l) i e = carry_cut_keeps k v to w x g h l i l.cut e

    cut_keeps : (k v to : ℕ) (w x : World) → InVats w → world.cut script k v to w ≡ Going x → InVats x
    unfolding world.cut
    cut_keeps k v to w x h e = moved _ x h e

    notice_keeps : (k v to : ℕ) (w x : World) → Stands script w → Allowed v to → InVats w → (o : Option (Vat Name)) → slice_get w.vats v ≡ o → world.within v w (NoticedAt k v to ∷ []) (world.step_number script k) (notice (names script v) to) o ≡ Going x → InVats x
    unfolding world.within
    notice_keeps k v to w x g ok h None q e = cc
    notice_keeps k v to w x g ok h (Some s) q e = put_back_keeps w x v (NoticedAt k v to ∷ []) (world.step_number script k) _ h (law.notice w v to s g q ok (h v s q)) e

    open_keeps : (v : ℕ) (p : Program) (w x : World) → Stands script w → InVats w → (o : Option (Vat Name)) → slice_get w.vats v ≡ o
        → world.within v w (Opens v ∷ []) v (opening (names script v) p.tree script.depth (Root v) (world.given script.vats p.knows)) o ≡ Going x → InVats x
    unfolding world.within
    open_keeps v p w x g h None q e = cc
    open_keeps v p w x g h (Some s) q e = put_back_keeps w x v (Opens v ∷ []) v _ h (law.opening w v p s g q (h v s q)) e

    pub step_keeps : (entry : Entry) (k : ℕ) (w x : World) → Stands script w → IsAllowed Allowed entry → InVats w → world.step script entry k w ≡ Going x → InVats x
    unfolding world.step
    step_keeps (Turn v) k w x g ok h e = turn_keeps k v w x g h (slice_get w.vats v) refl e
    step_keeps (Carry v to) k w x g ok h e = carry_link_keeps k v to w x g h (world.link_at v to w.links) (link_ok (λ (l : Link). AllOf (NoteOk (IsMade w.vats w.drawn)) l.notes) v to w.links (links_made script w g)) e
    step_keeps (CutLink v to) k w x g ok h e = cut_keeps k v to w x h e
    step_keeps (NoticeLink v to) k w x g ok h e = notice_keeps k v to w x g ok h (slice_get w.vats v) refl e

    then_keeps : (x : World) (r : Run) (f : World → Run) → ((y : World) → r ≡ Going y → Stands script y × InVats y) → ((y : World) → Stands script y → InVats y → f y ≡ Going x → InVats x) → world.then_goes r f ≡ Going x → InVats x
    unfolding world.then_goes
    then_keeps x (Going y) f a b e = let at = a y refl in b y at.0 at.1 e
    then_keeps x (Stopped c n y) f a b e = cc

    then_once : (r : Run) (f : World → Run) (y : World) → r ≡ Going y → f y ≡ Going y → world.then_goes r f ≡ Going y
    unfolding world.then_goes
    then_once r f y e g = rw e g

    one_step : (entry : Entry) (k : ℕ) (w y : World) → world.step script entry k w ≡ Going y → world.steps_from script (entry ∷ []) k w ≡ Going y
    unfolding world.steps_from
    one_step entry k w y e = then_once (world.step script entry k w) (λ z. Going z) y e refl

    pub step_stands : (entry : Entry) (k : ℕ) (w y : World) → Stands script w → world.step script entry k w ≡ Going y → Stands script y
    step_stands entry k w y g e = steps_stand script (entry ∷ []) k w y g (one_step entry k w y e)

    pub steps_keep : (es : List Entry) (k : ℕ) (w x : World) → Stands script w → AllOf (IsAllowed Allowed) es → InVats w → world.steps_from script es k w ≡ Going x → InVats x
    unfolding world.steps_from
    steps_keep [] k w x g ok h e = moved w x h e
    steps_keep (entry ∷ es) k w x g ok h e = then_keeps x (world.step script entry k w) (world.steps_from script es (suc k)) (λ y i. (step_stands entry k w y g i, step_keeps entry k w y g ok.0 h i)) (λ y a b j. steps_keep es (suc k) y x a ok.1 b j) e

    one_open : (v : ℕ) (p : Program) (w y : World) → world.open_vat script v p w ≡ Going y → world.open_from script v (p ∷ []) w ≡ Going y
    unfolding world.open_from
    one_open v p w y e = then_once (world.open_vat script v p w) (λ z. Going z) y e refl

    pub open_stands : (front rest : List Program) (p : Program) (w y : World) → script.vats ≡ front ++ (p ∷ rest) → Stands script w → world.open_vat script (length front) p w ≡ Going y → Stands script y
    open_stands front rest p w y i g e = opens_stand script front (p ∷ []) rest w y i g (one_open (length front) p w y e)

    pub opened_keeps : (v : ℕ) (p : Program) (w y : World) → Stands script w → InVats w → world.open_vat script v p w ≡ Going y → InVats y
    unfolding world.open_vat
    opened_keeps v p w y g h e = open_keeps v p w y g h (slice_get w.vats v) refl e

    pub opens_keep : (front ps rest : List Program) (w x : World) → script.vats ≡ front ++ (ps ++ rest) → Stands script w → InVats w → world.open_from script (length front) ps w ≡ Going x → InVats x
    unfolding world.open_from
    opens_keep front [] rest w x i g h e = moved w x h e
    opens_keep front (p ∷ ps) rest w x i g h e = then_keeps x (world.open_vat script (length front) p w) (world.open_from script (suc (length front)) ps)
        (λ y j. (open_stands front (ps ++ rest) p w y i g j, opened_keeps (length front) p w y g h j))
        (λ y a b j. opens_keep (front ++ p ∷ []) ps rest y x (i ∙ sym (append_assoc front (p ∷ []) (ps ++ rest))) a b (rw (sym (length_end front p)) at j)) e
