-- In every world of a run each note is about a name of one of the two vats of its link, and nothing of a third vat passes in it but as a gift.
use Rattle.std.proofs.Common.{◌≡◌, ℕ, zero, suc, List, [], ◌∷◌, ◌++◌, Some, sym, append-nil}
use Rattle.std.specs.Prelude.{slice_get}
use Rattle.def_machine.specs.Values.{Name, Root, naming}
use Rattle.def_machine.specs.State.{Message, Note, Put, Vat, Done, Gives}
use Rattle.def_machine.specs.Eval.{opening, taking}
use Rattle.def_machine.specs.Arrive.{arrive, notice}
use Rattle.def_run.specs.Draws.{draw_word}
use Rattle.def_run.specs.World as world
use Rattle.def_run.specs.World.{Script, Program, Entry, Link, World, Goes as Going, names, names_of, read_note, readied}
use Rattle.law_fate.specs.Name.Names.{AllOf, IsMade, NoteOk, Once}
use Rattle.law_fate.proofs.Name.Facts.{all_map, note_up}
use Rattle.law_fate.proofs.Name.Run.{Told, inside, low_at, Stands}
use Rattle.law_reference.specs.Reference.Notes.{IsBetween, NotesNameTheirEnds, Carries, NotesCarryTheirEnds}
use Rattle.law_reference.proofs.Reference.Gentle.{AfterGives}
use Rattle.law_reference.proofs.Reference.RunLift.{all_allowed}
use Rattle.law_reference.proofs.Reference.OwnRuns.{Any, InScript, own_keep, begins_own, begins_stand}
use Rattle.law_reference.proofs.Reference.Beside.{Stays}
use Rattle.law_reference.proofs.Reference.CareBlocks.{Blocks}
use Rattle.law_reference.proofs.Reference.CarryCare.{FitOut, V, fit_stays, fit_blocks}
use Rattle.law_reference.proofs.Reference.StepsBeside.{turn_fits, notice_fits, opening_fits, note_fits}
use Rattle.law_reference.proofs.Reference.NotesLift as lift
use Rattle.law_reference.proofs.Reference.NotesLift.{NotesKeep, links_from_fit}

module _ (script : Script) where
  -- what passes in each note that the vat put is of the two vats
  abbrev pub CarriesOut : ℕ → Vat Name → Type 0
  CarriesOut v s = AllOf (λ (p : Put Name). Carries v p.to p.note) s.outbox

  -- ---- a step of one vat

  module _ (w : World) (v : ℕ) (s : Vat Name) (h : Stands script w) (there : slice_get w.vats v ≡ Some s) where
    stays : Stays (draw_word script.key) v (FitOut v)
    stays = fit_stays (draw_word script.key) v

    goes : Blocks (naming (draw_word script.key) v) (V (inside script) w.vats v s there (low_at script w h v s there) (draw_word script.key))
    goes = fit_blocks (inside script) w.vats v s there (low_at script w h v s there) (draw_word script.key)

    pub turn_carries : (m : Message Name) (ms : List (Message Name)) → s.queue ≡ m ∷ ms → AfterGives (CarriesOut v) (taking (names script v) (world.tree_at script.vats v) script.depth m (readied w (record s { queue = ms })))
    turn_carries m ms e = turn_fits script w v s there h (FitOut v) stays tt goes m ms e

    pub note_carries : (from : ℕ) (n : Note Name) → NoteOk (Told script w) n → AfterGives (CarriesOut v) (arrive (names script v) from (read_note (names_of s) n) (readied w s))
    note_carries from n k = note_fits script w v s there h (FitOut v) stays tt goes (Told script w) (λ a i ks ps o. o) from n k k

    pub notice_carries : (to : ℕ) → AfterGives (CarriesOut v) (notice (names script v) to (readied w s))
    notice_carries to = notice_fits script w v s there h (FitOut v) stays tt goes to

    pub opening_carries : (p : Program) → slice_get script.vats v ≡ Some p → AfterGives (CarriesOut v) (opening (names script v) p.tree script.depth (Root v) (world.given script.vats p.knows) (readied w s))
    opening_carries p t = opening_fits script w v s there h (FitOut v) stays tt goes p t

  -- ---- both of what is said of notes

  abbrev pub Its : ℕ → Vat Name → Type 0
  Its v s = InScript script v s × CarriesOut v s

  abbrev pub OfNotes : ℕ → ℕ → Note Name → Type 0
  OfNotes v w n = IsBetween v w n × Carries v w n

  abbrev pub Ever : World → Type 0
  Ever w = Unit {0}

  both_give : (v : ℕ) (d : Done Name (Unit {0})) → AfterGives (InScript script v) d → AfterGives (CarriesOut v) d → AfterGives (Its v) d
  both_give v (Gives a t) h k = (h, k)
  both_give v other h k = tt

  pub both_all : {A : Type 0} (P Q : A → Type 0) (xs : List A) → AllOf P xs → AllOf Q xs → AllOf (λ (x : A). P x × Q x) xs
  both_all P Q [] h k = tt
  both_all P Q (x ∷ xs) h k = ((h.0, k.0), both_all P Q xs h.1 k.1)

  pub its_keep : NotesKeep script Its OfNotes Ever (Any script)
  its_keep = record {
    turn = λ w v s m ms g j i q h. both_give v _ ((own_keep script).turn w v s m ms g i q h.0) (turn_carries w v s g i m ms q);
    note = λ w from v s n g j i ok b o h. both_give v _ ((own_keep script).note w from v s n g i (note_up (Told script w) (IsMade w.vats w.drawn) (λ b k. k.0) n ok) h.0) (note_carries w v s g i from n ok);
    notice = λ w v to s g j i ok h. both_give v _ ((own_keep script).notice w v to s g i ok h.0) (notice_carries w v s g i to);
    opening = λ w v p s g j t i h. both_give v _ ((own_keep script).opening w v p s g i h.0) (opening_carries w v s g i p t);
    outs = λ v s h. let o : InScript script v s = h.0 in both_all (λ (p : Put Name). IsBetween v p.to p.note) (λ (p : Put Name). Carries v p.to p.note) s.outbox o.4 h.1;
    step_on = λ entry k w y g j ok e. tt;
    open_on = λ v p w y g j e. tt;
  }

  -- ---- the start

  fresh_carries : (u : ℕ) (ps : List Program) (n : ℕ) (s : Vat Name) → slice_get (world.fresh_from script u ps) n ≡ Some s → s.outbox ≡ []
  unfolding world.fresh_from world.fresh
  fresh_carries u [] n s e = cc
  fresh_carries u (p ∷ ps) zero s e = cc
  fresh_carries u (p ∷ ps) (suc n) s e = fresh_carries (suc u) ps n s e

  none_out : (v : ℕ) (s : Vat Name) → s.outbox ≡ [] → CarriesOut v s
  none_out v s e = rw e tt

  module _ (once : (v : ℕ) (p : Program) → slice_get script.vats v ≡ Some p → Once (v ∷ p.knows)) where
    pub begins_all : lift.All script Its OfNotes Ever (Any script) (world.begins script)
    unfolding world.begins
    begins_all = (begins_stand script once, tt, ((λ v s i. (begins_own script v s i, none_out v s (fresh_carries zero script.vats v s i))), links_from_fit OfNotes script.vats zero script.vats))

    pub opened_all : (ps rest : List Program) (w : World) → script.vats ≡ ps ++ rest → world.open_from script zero ps (world.begins script) ≡ Going w → lift.All script Its OfNotes Ever (Any script) w
    opened_all ps rest w e i = lift.opens_all script Its OfNotes Ever (Any script) its_keep [] ps rest (world.begins script) w e begins_all i

    pub stepped_all : (w x : World) (es : List Entry) (k : ℕ) → world.open_from script zero script.vats (world.begins script) ≡ Going w → world.steps_from script es k w ≡ Going x → lift.All script Its OfNotes Ever (Any script) x
    stepped_all w x es k e i = lift.steps_all script Its OfNotes Ever (Any script) its_keep es k w x (all_allowed (Any script) (λ v to. tt) es) (opened_all script.vats [] w (sym (append-nil script.vats)) e) i

-- each half of what the notes are
pub half_links : (B C : ℕ → ℕ → Note Name → Type 0) → ((v w : ℕ) (n : Note Name) → B v w n → C v w n) → (ls : List Link) → AllOf (lift.Fits B) ls → AllOf (lift.Fits C) ls
half_links B C f [] h = tt
half_links B C f (l ∷ ls) h = let one = h.0 in ((all_map (f l.from l.to) l.log one.0, all_map (f l.from l.to) l.notes one.1), half_links B C f ls h.1)

pub links_of : (script : Script) (x : World) → lift.All script (Its script) (OfNotes script) (Ever script) (Any script) x → AllOf (lift.Fits (OfNotes script)) x.links
links_of script x h = let both = h.2 in both.1

pub notes_name_ends : NotesNameTheirEnds
notes_name_ends script once = (
  λ ps rest w e i. half_links (OfNotes script) IsBetween (λ v u n h. h.0) w.links (links_of script w (opened_all script once ps rest w e i)),
  λ w x es k e i. half_links (OfNotes script) IsBetween (λ v u n h. h.0) x.links (links_of script x (stepped_all script once w x es k e i)),
)

pub notes_carry_ends : NotesCarryTheirEnds
notes_carry_ends script once = (
  λ ps rest w e i. half_links (OfNotes script) Carries (λ v u n h. h.1) w.links (links_of script w (opened_all script once ps rest w e i)),
  λ w x es k e i. half_links (OfNotes script) Carries (λ v u n h. h.1) x.links (links_of script x (stepped_all script once w x es k e i)),
)
