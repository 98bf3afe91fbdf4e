-- In every world of a run what waits on another name is the vat's own.
use Rattle.std.proofs.Common.{◌≡◌, ℕ, zero, suc, List, [], ◌∷◌, ◌++◌, Some, refl, sym, ap, subst, ◌⊎◌, inl, inr, map}
use Rattle.std.specs.Prelude.{slice_get}
use Rattle.def_machine.specs.Values.{Name, Naming, naming, host_of}
use Rattle.def_machine.specs.State.{Message, Note, Deliver, Open, Vat, Gives, begun}
use Rattle.law_machine.specs.Machine.Steps.{Step, Opens as Starts, Takes, Receives, Notices, does}
use Rattle.def_run.specs.Draws.{draw_word}
use Rattle.def_run.specs.World as world
use Rattle.def_run.specs.World.{Script, Program, Entry, Link, World, Goes, names, names_of, read_note, readied, put_at, link_at}
use Rattle.law_fate.specs.Name.Names.{AllOf, NoteOk}
use Rattle.law_fate.specs.Name.Runs.{KnowsOnce}
use Rattle.law_frozen.specs.Frozen.{AllOf as EachOf, MessageThere, NotePasses, Sound}
use Rattle.law_frozen.specs.Laws.{StepWell}
use Rattle.law_frozen.proofs.Fine.{MayBe as Maybe}
use Rattle.law_frozen.proofs.RunSound.{WorldSound, LinkPasses, link_passes, note_read, given_well, begins_sound, opens_sound, steps_sound}
use Rattle.law_reference.specs.Reference.ListRingless.{IsNamed}
use Rattle.law_reference.proofs.Reference.RunLift.{put_at_or}
use Rattle.law_reference.proofs.Reference.OwnRuns.{begins_own}
use Rattle.law_reference.proofs.Reference.Moves.{Moved, Still, Severs, Drops, Steps, Arrives, Does, IsAlone, opened_hold, stepped_hold}
use Rattle.law_reference.proofs.Reference.LegRuns.{MailBits, Before, stands_of, first_mails}
use Rattle.law_reference.proofs.Reference.LegMoves.{opened_before, stepped_before}
use Rattle.law_reference.proofs.Gift.Keeps.{after_given}
use Rattle.law_reference.specs.OwnWaits.Waits.{WaitsAreOwn, WaitsAreOwnInRuns}
use Rattle.law_reference.proofs.Gift.Kept.{MayAnswer, Entry as Fits, Kept}
use Rattle.law_reference.proofs.Gift.Rests.{NoteMay}
use Rattle.law_reference.proofs.Gift.Steps.{StepMay, step_keeps}
use Rattle.law_reference.proofs.OwnWaits.Kept.{owning, answers, promises, stands_so}

module _ (script : Script) where
  abbrev word : ℕ → ℕ
  word = draw_word script.key

  abbrev N : ℕ → Naming Name Name
  N v = naming word v

  abbrev Well : ℕ → Vat Name → Type 0
  Well v s = Kept word v (owning word v) s

  abbrev AllWell : World → Type 0
  AllWell w = (v : ℕ) (s : Vat Name) → slice_get w.vats v ≡ Some s → Well v s

  -- ---- a step of one vat

  module _ (v : ℕ) (w : World) where
    stepped : (q t : Vat Name) (what : Step Name Name) → does (names script v) what (readied w q) ≡ Gives tt t → StepMay word v (owning word v) (answers word v) (promises word v) what → Sound (N v) (readied w q) → StepWell (N v) (readied w q) what → Well v (readied w q) → Well v t
    unfolding names
    stepped q t what gives own sound well h = after_given (λ r u. Well v u) (readied w q) (does (N v) what (readied w q)) t (step_keeps word v (owning word v) (answers word v) (promises word v) what (readied w q) own sound well h) gives

    well_ready : (q : Vat Name) → Well v q → Well v (readied w q)
    unfolding readied
    well_ready q h = h

    sound_ready : (s : Vat Name) (ms : List (Message Name)) → Sound (N v) s → EachOf (MessageThere s.lists) ms → Sound (N v) (readied w (record s { queue = ms }))
    unfolding readied
    sound_ready s ms k h = record { things = k.things; slots = k.slots; lists = k.lists; stacked = k.stacked; queue = h; known = k.known; outbox = tt }

    sound_same : (s : Vat Name) → Sound (N v) s → Sound (N v) (readied w s)
    unfolding readied
    sound_same s k = record { things = k.things; slots = k.slots; lists = k.lists; stacked = k.stacked; queue = k.queue; known = k.known; outbox = tt }

    -- a step that no note begins
    alone_well : (s q t : Vat Name) (what : Step Name Name) → IsAlone what → Does script w v s q t what → Sound (N v) s → Well v s → Well v t
    unfolding readied names host_of
    alone_well s q t (Starts tree depth root given) a d sound h = let b = d.begins in
        let gives : does (names script v) (Starts tree depth root given) (readied w s) ≡ Gives tt t = subst (λ z. does (names script v) (Starts tree depth root given) (readied w z) ≡ Gives tt t) b.2 d.gives in
        let well : StepWell (N v) (readied w s) (Starts tree depth root given) = subst (λ bs. StepWell (N v) (readied w s) (Starts tree depth root bs)) (sym b.4) (given_well script v (readied w s) b.0.knows) in
        stepped s t (Starts tree depth root given) gives (ap host_of b.3) (sound_same s sound) well (well_ready s h)
    alone_well s q t (Takes tree depth m) a d sound h = let b = d.begins in let r : Vat Name = record s { queue = b.0 } in
        let gives : does (names script v) (Takes tree depth m) (readied w r) ≡ Gives tt t = subst (λ z. does (names script v) (Takes tree depth m) (readied w z) ≡ Gives tt t) b.2 d.gives in
        let there : EachOf (MessageThere s.lists) (m ∷ b.0) = subst (λ ms. EachOf (MessageThere s.lists) ms) b.1 sound.queue in
        let own : AllOf (λ n. MayAnswer word v (owning word v) n) (m ∷ b.0) = subst (λ ms. AllOf (λ n. MayAnswer word v (owning word v) n) ms) b.1 h.2 in
        stepped r t (Takes tree depth m) gives own.0 (sound_ready s b.0 sound there.1) there.0 (well_ready r (h.0, h.1, own.1, h.3))
    alone_well s q t (Receives from n) a d sound h = absurd a
    alone_well s q t (Notices to) a d sound h = stepped s t (Notices to) (subst (λ z. does (names script v) (Notices to) (readied w z) ≡ Gives tt t) d.begins d.gives) tt (sound_same s sound) tt (well_ready s h)

    note_named : (ks : List Name) (k : Note Name) → NoteOk MailBits k → NoteMay word v (owning word v) (answers word v) (read_note ks k)
    unfolding read_note host_of
    note_named ks (Deliver d x verb ys) ok = ok.0
    note_named ks (Open i x) ok = refl
    note_named ks other ok = tt

    -- a note that arrives
    arrive_well : (from : ℕ) (s t : Vat Name) (n : Note Name) → does (names script v) (Receives from (read_note (names_of s) n)) (readied w s) ≡ Gives tt t → NoteOk MailBits n → NotePasses n → Sound (N v) s → Well v s → Well v t
    arrive_well from s t n gives ok passes sound h = stepped s t (Receives from (read_note (names_of s) n)) gives (note_named (names_of s) n ok) (sound_same s sound) (note_read (names_of s) n passes) (well_ready s h)

  -- ---- the first note of a link

  first_each : (P : Note Name → Type 0) (ks : List (Note Name)) (n : Note Name) (ns : List (Note Name)) → EachOf P ks → ks ≡ n ∷ ns → P n
  first_each P ks n ns h e = let one : EachOf P (n ∷ ns) = subst (λ xs. EachOf P xs) e h in one.0

  passes : (w : World) (a v : ℕ) (n : Note Name) (ns : List (Note Name)) (l : Link) → link_at a v w.links ≡ Some l → l.notes ≡ n ∷ ns → WorldSound script w → NotePasses n
  passes w a v n ns l at notes sound = let found : Maybe LinkPasses (Some l) = subst (Maybe LinkPasses) at (link_passes a v w.links sound.links) in first_each NotePasses l.notes n ns found notes

  -- ---- a move of the world

  abbrev Past : World → Type 0
  Past w = Before script w × WorldSound script w

  kept_vats : (w y : World) → y.vats ≡ w.vats → AllWell w → AllWell y
  kept_vats w y e h v s i = h v s (subst (λ vs. slice_get vs v ≡ Some s) e i)

  one_vat : (w y : World) (v : ℕ) (t : Vat Name) → y.vats ≡ put_at v t w.vats → Well v t → AllWell w → AllWell y
  one_vat w y v t e k h u r i = pick (put_at_or v t w.vats u r (subst (λ vs. slice_get vs u ≡ Some r) e i))
    where
      pick : ((u ≡ v) × (t ≡ r)) ⊎ (slice_get w.vats u ≡ Some r) → Well u r
      pick (inl x) = subst (λ z. Well u z) x.1 (subst (λ z. Well z t) (sym x.0) k)
      pick (inr x) = h u r x

  moved_well : (w y : World) → Past w → Past y → Moved script w y → AllWell w → AllWell y
  unfolding names
  moved_well w y p r (Still vats links drawn) h = kept_vats w y vats h
  moved_well w y p r (Severs a b vats links drawn) h = kept_vats w y vats h
  moved_well w y p r (Drops a v n ns l at notes none vats links drawn) h = kept_vats w y vats h
  moved_well w y p r (Steps v s q t what alone d vats links drawn first fresh) h = let sound = p.1 in one_vat w y v t vats (alone_well v w s q t what alone d (sound.vats v s d.there) (h v s d.there)) h
  moved_well w y p r (Arrives a v s t n ns l at cut notes d vats links drawn first fresh) h = let sound = p.1 in
      one_vat w y v t vats (arrive_well v w a s t n d.gives (first_mails script w a v n ns l p.0 at notes) (passes w a v n ns l at notes sound) (sound.vats v s d.there) (h v s d.there)) h

  -- ---- the start

  roots_fit : (v : ℕ) (us : List ℕ) → AllOf (Fits word v (owning word v)) (map world.known_root us)
  unfolding world.known_root begun
  roots_fit v [] = tt
  roots_fit v (u ∷ us) = ((tt, tt, tt, tt), roots_fit v us)

  abbrev Fresh : ℕ → Vat Name → Type 0
  Fresh v s = AllOf (Fits word v (owning word v)) s.known × AllOf (λ m. MayAnswer word v (owning word v) m) s.queue × AllOf (IsNamed v) s.gifts

  fresh_fits : (v u : ℕ) (p : Program) → Fresh v (world.fresh script u p)
  unfolding world.fresh world.known_root begun
  fresh_fits v u p = (((tt, tt, tt, tt), roots_fit v p.knows), tt, tt)

  fresh_all : (v u : ℕ) (ps : List Program) (i : ℕ) (s : Vat Name) → slice_get (world.fresh_from script u ps) i ≡ Some s → Fresh v s
  unfolding world.fresh_from
  fresh_all v u [] i s e = cc
  fresh_all v u (p ∷ ps) zero s e = let same : world.fresh script u p ≡ s = cc in subst (Fresh v) same (fresh_fits v u p)
  fresh_all v u (p ∷ ps) (suc i) s e = fresh_all v (suc u) ps i s e

  begins_well : AllWell (world.begins script)
  unfolding world.begins
  begins_well v s e = let own = begins_own script v s e in let f = fresh_all v zero script.vats v s e in (own.0, f.0, f.1, f.2)

  -- ---- the worlds of a run

  module _ (once : KnowsOnce script) where
    opened_past : (ps rest : List Program) (w : World) → script.vats ≡ ps ++ rest → world.open_from script zero ps (world.begins script) ≡ Goes w → Past w
    opened_past ps rest w i e = (opened_before script once ps rest w i e, opens_sound script zero ps (world.begins script) w (begins_sound script) e)

    stepped_past : (w x : World) (es : List Entry) (k : ℕ) → world.open_from script zero script.vats (world.begins script) ≡ Goes w → world.steps_from script es k w ≡ Goes x → Past x
    stepped_past w x es k e i = (stepped_before script once w x es k e i, steps_sound script es k w x (opens_sound script zero script.vats (world.begins script) w (begins_sound script) e) i)

    pub opened_well : (ps rest : List Program) (w : World) → script.vats ≡ ps ++ rest → world.open_from script zero ps (world.begins script) ≡ Goes w → AllWell w
    opened_well = opened_hold script Past opened_past stepped_past (λ w p. stands_of script w p.0) AllWell moved_well begins_well

    pub stepped_well : (w x : World) (es : List Entry) (k : ℕ) → world.open_from script zero script.vats (world.begins script) ≡ Goes w → world.steps_from script es k w ≡ Goes x → AllWell x
    stepped_well = stepped_hold script Past opened_past stepped_past (λ w p. stands_of script w p.0) AllWell moved_well begins_well

  own_in : (v : ℕ) (s : Vat Name) → Well v s → WaitsAreOwn script v s
  unfolding names
  own_in v s h n q e = stands_so word v s.known n q h.1 e

pub waits_in_runs : WaitsAreOwnInRuns
waits_in_runs script once = (
  λ ps rest w i e v s there. own_in script v s (opened_well script once ps rest w i e v s there),
  λ w x es k e i v s there. own_in script v s (stepped_well script once w x es k e i v s there),
)
