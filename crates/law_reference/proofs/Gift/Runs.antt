-- In every world of a run a gift that was not opened did not settle, or it is broken.
use Rattle.std.proofs.Common.{◌≡◌, ℕ, zero, suc, List, [], ◌∷◌, ◌++◌, Some, refl, sym, ap, subst, ◌∙◌, ◌⊎◌, inl, inr, map}
use Rattle.std.specs.Prelude.{slice_get}
use Rattle.def_machine.specs.Values.{Name, Gift, Sent, Naming, naming, host_of}
use Rattle.def_machine.specs.State.{Note, Deliver, Open, SettledTo, Elsewhere, GiftEntry, Vat, Done, Gives, begun}
use Rattle.law_machine.specs.Machine.Steps.{Step, Receives, does}
use Rattle.def_run.specs.Draws.{draw_word}
use Rattle.def_run.specs.World as world
use Rattle.def_run.specs.World.{Script, Program, Entry, Link, World, Run, Goes, names, names_of, read_note, readied, put_at, link_at}
use Rattle.law_fate.specs.Name.Names.{AllOf, NoteOk}
use Rattle.law_fate.specs.Name.Runs.{KnowsOnce}
use Rattle.law_fate.proofs.Name.Facts.{MayBe}
use Rattle.law_fate.specs.Fates.FateRuns.{Reached}
use Rattle.law_frozen.specs.Frozen.{AllOf as EachOf, NotePasses, Sound}
use Rattle.law_frozen.proofs.Fine.{MayBe as Maybe}
use Rattle.law_frozen.proofs.RunSound.{WorldSound, LinkPasses, link_passes, begins_sound, opens_sound, steps_sound}
use Rattle.law_reference.specs.Gift.Gifts.{SameGifts}
use Rattle.law_reference.proofs.Gift.Stays.{gifts_stay}
use Rattle.law_reference.specs.Reference.Notes.{IsBetween}
use Rattle.law_reference.specs.Reference.ListRingless.{IsNamed, told_name}
use Rattle.law_reference.specs.Reference.Standing.{WordsDiffer}
use Rattle.law_reference.proofs.Reference.Told.{told_is}
use Rattle.law_reference.proofs.Reference.Gentle.{AfterGives}
use Rattle.law_reference.proofs.Reference.NotesLift as lift
use Rattle.law_reference.proofs.Reference.NotesRuns.{OfNotes}
use Rattle.law_reference.proofs.Reference.RunLift.{put_at_or}
use Rattle.law_reference.proofs.Reference.OwnRuns.{begins_own}
use Rattle.law_reference.proofs.Reference.GiftLaws.{draws_once}
use Rattle.law_reference.proofs.Reference.Moves.{Moved, Still, Severs, Drops, Steps, Arrives, Does, IsAlone, opened_hold, stepped_hold}
use Rattle.law_reference.proofs.Reference.LegRuns.{MailBits, Before, stands_of, self_none, first_mails}
use Rattle.law_reference.proofs.Reference.LegMoves.{opened_before, stepped_before}
use Rattle.law_reference.specs.Gift.Unopened.{UnopenedRest, UnopenedGiftsRest}
use Rattle.law_reference.proofs.Gift.Kept.{settling, Entry as Fits, MayAnswer, Kept}
use Rattle.law_reference.proofs.Gift.Rests as rests
use Rattle.law_reference.proofs.Gift.Opened.{IsOpenedBy, opens}
use Rattle.law_reference.proofs.Gift.Keeps.{after_given, alone_kept, arrive_kept}
use Rattle.law_reference.proofs.Gift.Found.{MaySettle, may_later, kept_more, unopened_rests}

gives_given : (P : Vat Name → Type 0) (d : Done Name (Unit {0})) (t : Vat Name) → AfterGives P d → d ≡ Gives tt t → P t
gives_given P d t h e = rw e at h

pub all_named : (v : ℕ) (gs : List (GiftEntry Name)) (i : ℕ) (g : GiftEntry Name) → AllOf (IsNamed v) gs → slice_get gs i ≡ Some g → IsNamed v g
all_named v [] i g h e = cc
all_named v (f ∷ gs) zero g h e = let same : f ≡ g = cc in subst (IsNamed v) same h.0
all_named v (f ∷ gs) (suc i) g h e = all_named v gs i g h.1 e

-- a name of another vat may settle
far_may : (v : ℕ) (gs : List (GiftEntry Name)) (n : Name) → (host_of n ≡ v → ⊥) → MaySettle v gs n
unfolding host_of
far_may v gs (Gift h i) f = λ e. absurd (f e)
far_may v gs other f = tt

-- what a note opens at vat v
abbrev OpensIt : ℕ → Note Name → Name → Type 0
OpensIt v (Open i x) m = m ≡ Gift v i
OpensIt v other m = ⊥

module _ (script : Script) where
  abbrev word : ℕ → ℕ
  word = draw_word script.key

  abbrev N : ℕ → Naming Name Name
  N v = naming word v

  abbrev Well : ℕ → Vat Name → Type 0
  Well v s = Kept word v (settling word v (MaySettle v s.gifts)) s

  abbrev AllWell : World → Type 0
  AllWell w = (v : ℕ) (s : Vat Name) → slice_get w.vats v ≡ Some s → Well v s

  -- ---- a step of one vat

  module _ (v : ℕ) (w : World) (q t : Vat Name) (what : Step Name Name) (gives : does (names script v) what (readied w q) ≡ Gives tt t) where
    gifts_later : SameGifts (readied w q) t
    gifts_later = after_given SameGifts (readied w q) (does (names script v) what (readied w q)) t (gifts_stay (names script v) what (readied w q)) gives

  ready_may : (v : ℕ) (w : World) (s q : Vat Name) → q.gifts ≡ s.gifts → (n : Name) → MaySettle v s.gifts n → MaySettle v (let r : Vat Name = readied w q in r.gifts) n
  unfolding readied
  ready_may v w s q e n m = subst (λ gs. MaySettle v gs n) (sym e) m

  alone_well : (v : ℕ) (w : World) (s q t : Vat Name) (what : Step Name Name) → IsAlone what → Does script w v s q t what → Sound (N v) s → Well v s → Well v t
  alone_well v w s q t what a d sound h = kept_more word v (MaySettle v s.gifts) (MaySettle v t.gifts) (λ n m. may_later v (readied w q) t (gifts_later v w q t what d.gives) n (ready_may v w s q d.gifts n m)) t
      (alone_kept script v w (MaySettle v s.gifts) (λ m. tt) (λ i. tt) s q t what a d tt sound h)

  -- ---- a note that arrives

  module _ (v from : ℕ) (w : World) (s t : Vat Name) (n : Note Name) (gives : does (names script v) (Receives from (read_note (names_of s) n)) (readied w s) ≡ Gives tt t) where
    -- what may settle in that step
    abbrev May : Name → Type 0
    May m = MaySettle v s.gifts m ⊎ OpensIt v n m

    abbrev what : Step Name Name
    what = Receives from (read_note (names_of s) n)

    opened_may : (k : Note Name) → does (names script v) (Receives from (read_note (names_of s) k)) (readied w s) ≡ Gives tt t → (m : Name) → OpensIt v k m → MaySettle v t.gifts m
    unfolding does read_note
    opened_may (Open i x) e m h = subst (MaySettle v t.gifts) (sym h) (λ same. (from, gives_given (λ u. IsOpenedBy from i u.gifts) _ t (opens (names script v) from i (world.read_name (names_of s) x) (readied w s)) e))
    opened_may other e m h = absurd h

    may_after : (m : Name) → May m → MaySettle v t.gifts m
    unfolding readied
    may_after m (inl h) = may_later v (readied w s) t (gifts_later v w s t what gives) m h
    may_after m (inr h) = opened_may n gives m h

    told_may : (x : Name) → IsBetween from v (Elsewhere x v) → (from ≡ v → ⊥) → May (told_name (world.read_name (names_of s) x))
    told_may x b apart = subst May (sym (told_is (names_of s) x)) (inl (far_may v s.gifts x (λ e. apart (sym b ∙ e))))

    note_may : (k : Note Name) → k ≡ n → NoteOk MailBits k → IsBetween from v k → (from ≡ v → ⊥) → rests.NoteMay word v (settling word v May) (λ m. inl tt) (read_note (names_of s) k)
    unfolding read_note
    note_may (Deliver d x verb ys) e ok b apart = ok.0
    note_may (Open i x) e ok b apart = inr (subst (λ z. OpensIt v z (Gift v i)) e refl)
    note_may (SettledTo x y) e ok b apart = told_may x b apart
    note_may (Elsewhere x z) e ok b apart = told_may x b apart
    note_may other e ok b apart = tt

    arrive_well : NoteOk MailBits n → IsBetween from v n → (from ≡ v → ⊥) → NotePasses n → Sound (N v) s → Well v s → Well v t
    arrive_well ok b apart passes sound h = kept_more word v May (MaySettle v t.gifts) may_after t
        (arrive_kept script v w May (λ m. inl tt) (λ i. inl tt) from s t n gives (note_may n refl ok b apart) passes sound (kept_more word v (MaySettle v s.gifts) May (λ m i. inl i) s h))

  -- ---- the first note of a link

  first_of : (P : Note Name → Type 0) (ks : List (Note Name)) (n : Note Name) (ns : List (Note Name)) → AllOf P ks → ks ≡ n ∷ ns → P n
  first_of P ks n ns h e = let one : AllOf P (n ∷ ns) = subst (λ xs. AllOf P xs) e h in one.0

  first_each : (P : Note Name → Type 0) (ks : List (Note Name)) (n : Note Name) (ns : List (Note Name)) → EachOf P ks → ks ≡ n ∷ ns → P n
  first_each P ks n ns h e = let one : EachOf P (n ∷ ns) = subst (λ xs. EachOf P xs) e h in one.0

  module _ (w : World) (a v : ℕ) (n : Note Name) (ns : List (Note Name)) (l : Link) (at : link_at a v w.links ≡ Some l) (notes : l.notes ≡ n ∷ ns) where
    between : Before script w → IsBetween a v n
    between b = let past = b.past in let found : MayBe (λ (k : Link). AllOf (OfNotes script a v) k.notes) (Some l) = subst (MayBe (λ (k : Link). AllOf (OfNotes script a v) k.notes)) at (lift.found_fits (OfNotes script) a v w.links past.1) in
        (first_of (OfNotes script a v) l.notes n ns found notes).0

    passes : WorldSound script w → NotePasses n
    passes sound = let found : Maybe LinkPasses (Some l) = subst (Maybe LinkPasses) at (link_passes a v w.links sound.links) in first_each NotePasses l.notes n ns found notes

    apart : Before script w → a ≡ v → ⊥
    apart b e = let counted = b.counted in let fated = counted.fated (Sent (record { sender = 0; number = 0 })) in self_none w.links fated.apart v l (ap (λ z. link_at z v w.links) (sym e) ∙ at)

  -- ---- a move of the world

  abbrev Past : World → Type 0
  Past w = Before script w × WorldSound script w

  kept_vats : (w y : World) → y.vats ≡ w.vats → AllWell w → AllWell y
  kept_vats w y e h v s i = h v s (subst (λ vs. slice_get vs v ≡ Some s) e i)

  one_vat : (w y : World) (v : ℕ) (t : Vat Name) → y.vats ≡ put_at v t w.vats → Well v t → AllWell w → AllWell y
  one_vat w y v t e k h u r i = pick (put_at_or v t w.vats u r (subst (λ vs. slice_get vs u ≡ Some r) e i))
    where
      pick : ((u ≡ v) × (t ≡ r)) ⊎ (slice_get w.vats u ≡ Some r) → Well u r
      pick (inl x) = subst (λ z. Well u z) x.1 (subst (λ z. Well z t) (sym x.0) k)
      pick (inr x) = h u r x

  moved_well : (w y : World) → Past w → Past y → Moved script w y → AllWell w → AllWell y
  unfolding names
  moved_well w y p r (Still vats links drawn) h = kept_vats w y vats h
  moved_well w y p r (Severs a b vats links drawn) h = kept_vats w y vats h
  moved_well w y p r (Drops a v n ns l at notes none vats links drawn) h = kept_vats w y vats h
  moved_well w y p r (Steps v s q t what alone d vats links drawn first fresh) h = let sound = p.1 in one_vat w y v t vats (alone_well v w s q t what alone d (sound.vats v s d.there) (h v s d.there)) h
  moved_well w y p r (Arrives a v s t n ns l at cut notes d vats links drawn first fresh) h = let sound = p.1 in
      one_vat w y v t vats (arrive_well v a w s t n d.gives (first_mails script w a v n ns l p.0 at notes) (between w a v n ns l at notes p.0) (apart w a v n ns l at notes p.0) (passes w a v n ns l at notes sound) (sound.vats v s d.there) (h v s d.there)) h

  -- ---- the start

  roots_fit : (v : ℕ) (May : Name → Type 0) (us : List ℕ) → AllOf (Fits word v (settling word v May)) (map world.known_root us)
  unfolding world.known_root begun
  roots_fit v May [] = tt
  roots_fit v May (u ∷ us) = ((inl tt, tt, tt, tt), roots_fit v May us)

  abbrev Fresh : ℕ → Vat Name → Type 0
  Fresh v s = AllOf (Fits word v (settling word v (MaySettle v s.gifts))) s.known × AllOf (λ m. MayAnswer word v (settling word v (MaySettle v s.gifts)) m) s.queue × AllOf (IsNamed v) s.gifts

  fresh_fits : (v u : ℕ) (p : Program) → Fresh v (world.fresh script u p)
  unfolding world.fresh world.known_root begun
  fresh_fits v u p = (((inl tt, tt, tt, tt), roots_fit v (MaySettle v []) p.knows), tt, tt)

  fresh_all : (v u : ℕ) (ps : List Program) (i : ℕ) (s : Vat Name) → slice_get (world.fresh_from script u ps) i ≡ Some s → Fresh v s
  unfolding world.fresh_from
  fresh_all v u [] i s e = cc
  fresh_all v u (p ∷ ps) zero s e = let same : world.fresh script u p ≡ s = cc in subst (Fresh v) same (fresh_fits v u p)
  fresh_all v u (p ∷ ps) (suc i) s e = fresh_all v (suc u) ps i s e

  begins_well : AllWell (world.begins script)
  unfolding world.begins
  begins_well v s e = let own = begins_own script v s e in let f = fresh_all v zero script.vats v s e in (own.0, f.0, f.1, f.2)

  -- ---- the worlds of a run

  module _ (once : KnowsOnce script) where
    opened_past : (ps rest : List Program) (w : World) → script.vats ≡ ps ++ rest → world.open_from script zero ps (world.begins script) ≡ Goes w → Past w
    opened_past ps rest w i e = (opened_before script once ps rest w i e, opens_sound script zero ps (world.begins script) w (begins_sound script) e)

    stepped_past : (w x : World) (es : List Entry) (k : ℕ) → world.open_from script zero script.vats (world.begins script) ≡ Goes w → world.steps_from script es k w ≡ Goes x → Past x
    stepped_past w x es k e i = (stepped_before script once w x es k e i, steps_sound script es k w x (opens_sound script zero script.vats (world.begins script) w (begins_sound script) e) i)

    opened_well : (ps rest : List Program) (w : World) → script.vats ≡ ps ++ rest → world.open_from script zero ps (world.begins script) ≡ Goes w → AllWell w
    opened_well = opened_hold script Past opened_past stepped_past (λ w p. stands_of script w p.0) AllWell moved_well begins_well

    pub stepped_well : (w x : World) (es : List Entry) (k : ℕ) → world.open_from script zero script.vats (world.begins script) ≡ Goes w → world.steps_from script es k w ≡ Goes x → AllWell x
    stepped_well = stepped_hold script Past opened_past stepped_past (λ w p. stands_of script w p.0) AllWell moved_well begins_well

  abbrev Differ : World → Type 0
  Differ w = (v : ℕ) (s : Vat Name) → slice_get w.vats v ≡ Some s → WordsDiffer s.gifts

  differ_is : (r : Run) (w : World) → r ≡ Goes w → Reached Differ r → Differ w
  differ_is r w e h = rw e at h

  rest_in : (w : World) → AllWell w → Differ w → (v : ℕ) (s : Vat Name) → slice_get w.vats v ≡ Some s → UnopenedRest script v s
  unfolding names
  rest_in w h d v s e i g at o = let well = h v s e in unopened_rests word v s i g well (d v s e) at (all_named v s.gifts i g well.3 at) o

pub rests_in_runs : UnopenedGiftsRest
rests_in_runs script once = (
  λ ps rest w e i. rest_in script w (opened_well script once ps rest w e i) (differ_is script _ w i ((draws_once script).0 ps)),
  λ w x es k e i. rest_in script x (stepped_well script once w x es k e i) (differ_is script _ x i ((draws_once script).1 w es k e)),
)
