-- What stops in numbers stops the run, and what stops is a vat that is there.
use Rattle.std.proofs.Common.{◌≡◌, ℕ, ◌+◌, Bool, true, false, List, [], ◌∷◌, Option, Some, None, refl, sym, ap, ◌∙◌, ◌⊎◌, inl, inr, length}
use Rattle.std.specs.Prelude.{slice_get}
use Rattle.def_machine.specs.Values.{Name, Local}
use Rattle.def_machine.specs.State.{Note, Vat, Stop, Astray, Done, Gives, Stops}
use Rattle.def_machine.specs.Arrive.{notice}
use Rattle.def_run.specs.World as world
use Rattle.def_run.specs.World.{Script, Entry, Turn, Carry, CutLink, NoticeLink, Link, World, Run, Goes as Going, Stopped, NoticedAt}
use Rattle.law_reference.proofs.Reference.AskHolds.{notices_front}
use Rattle.law_reference.proofs.Reference.Follow.{eq_dec}
use Rattle.law_frame.specs.Frame.Steps.{OwnStep, EndsFor, entry_by_numbers, opening_by_numbers}
use Rattle.law_frame.proofs.Frame.Entries.{entries_stand}
use Rattle.law_frame.proofs.Frame.Answered.{entry_move, opening_move}
use Rattle.law_frame.proofs.Frame.Openings.{openings_stand}
use Rattle.law_frame.proofs.Frame.Runs.{still_there}
use Rattle.law_frame.specs.Stopping.Stops.{IsOf, StopsWhere, StopsInNumbersStop, StopsAreOfVats, OpeningStopsInNumbersStop}
use Rattle.law_frame.proofs.Stopping.Entries.{entries_stop, idle_goes}
use Rattle.law_frame.proofs.Stopping.Openings.{openings_stop}

-- ---- what stops in numbers

of_or : (u : ℕ) (e : Entry) → IsOf u e ⊎ (IsOf u e → ⊥)
of_or u (Turn v) = eq_dec v u
of_or u (Carry v t) = eq_dec t u
of_or u (CutLink v t) = inr (λ i. i)
of_or u (NoticeLink v t) = eq_dec v u

no_step : (c : Stop) (p : Vat Local) (o : OwnStep) → o ≡ Some (Stops c p) → o ≡ None → ⊥
no_step c p o e f = none_some (sym f ∙ e)
  where
    none_some : ◌≡◌ {A = OwnStep} None (Some (Stops c p)) → ⊥
    none_some g = cc

same_stop : (c d : Stop) (p q : Vat Local) (o : OwnStep) → o ≡ Some (Stops c p) → o ≡ Some (Stops d q) → d ≡ c
same_stop c d p q o e f = is (sym f ∙ e)
  where
    is : ◌≡◌ {A = OwnStep} (Some (Stops d q)) (Some (Stops c p)) → d ≡ c
    is g = cc

stops_alike : (Own : Type 0) → Own ⊎ (Own → ⊥) → (c d : Stop) (p : Vat Local) (o : OwnStep) → o ≡ Some (Stops c p) → StopsWhere Own d o → d ≡ c
stops_alike Own (inl j) c d p o i h = let a = h.0 j in same_stop c d p a.0 o i a.1
stops_alike Own (inr j) c d p o i h = absurd (no_step c p o i (h.1 j))

-- a step that goes on does not stop in numbers
gives_no_stop : (x : World) (u : ℕ) (s r : Vat Name) (c : Stop) (p : Vat Local) (o : OwnStep) → o ≡ Some (Stops c p) → EndsFor x u s r o → ⊥
gives_no_stop x u s r c p None e h = cc
gives_no_stop x u s r c p (Some d) e h = differ (h.0) (sym (is e) ∙ h.1)
  where
    is : ◌≡◌ {A = OwnStep} (Some d) (Some (Stops c p)) → d ≡ Stops c p
    is f = cc

    differ : (z : Vat Local) → ◌≡◌ {A = Done Local (Unit {0})} (Stops c p) (Gives tt z) → ⊥
    differ z f = cc

pub numbers_stop : StopsInNumbersStop
numbers_stop script once w x es e k c follow opened stepped u s there q p stands stops = either (world.step script e (k + length es) x) refl
  where
    either : (r : Run) → world.step script e (k + length es) x ≡ r → (n : ℕ) × (y : World) × (world.step script e (k + length es) x ≡ Stopped c n y)
    either (Going y) i = let t = still_there script x y u s there (entry_move script once w x y es e k opened stepped i) in
        absurd (gives_no_stop x u s t.0 c p (entry_by_numbers script x e u s q) stops (entries_stand script once w x y es e k follow opened stepped i u s t.0 there t.1 q stands))
    either (Stopped d n y) i = let same = stops_alike (IsOf u e) (of_or u e) c d p (entry_by_numbers script x e u s q) stops (entries_stop script once w x y es e k n d (notices_front script [] es (e ∷ []) follow) opened stepped i u s there q stands) in
        (n, y, i ∙ ap (λ z. Stopped z n y) same)

pub opening_stops : OpeningStopsInNumbersStop
opening_stops script once ps rest p x c split opened u s there q z stands stops = either (world.open_vat script (length ps) p x) refl
  where
    either : (r : Run) → world.open_vat script (length ps) p x ≡ r → (n : ℕ) × (y : World) × (world.open_vat script (length ps) p x ≡ Stopped c n y)
    either (Going y) i = let t = still_there script x y u s there (opening_move script once ps rest p x y split opened i) in
        absurd (gives_no_stop x u s t.0 c z (opening_by_numbers script (length ps) p u s q) stops (openings_stand script once ps rest p x y split opened i u s t.0 there t.1 q stands))
    either (Stopped d n y) i = let same = stops_alike (length ps ≡ u) (eq_dec (length ps) u) c d z (opening_by_numbers script (length ps) p u s q) stops (openings_stop script once ps rest p x y n d split opened i u s there q stands) in
        (n, y, i ∙ ap (λ a. Stopped a n y) same)

-- ---- the vat that stops is there

module _ (script : Script) (x y : World) (k n : ℕ) (c : Stop) where
  abbrev HasStopped : Run → Type 0
  HasStopped r = r ≡ Stopped c n y

  abbrev HasVat : ℕ → Type 0
  HasVat u = (s : Vat Name) × (slice_get x.vats u ≡ Some s)

  turn_there : (u : ℕ) (o : Option (Vat Name)) → slice_get x.vats u ≡ o → HasStopped (world.turn script k u x o) → HasVat u
  unfolding world.turn
  turn_there u None i e = absurd (idle_goes script k n c x y e)
  turn_there u (Some s) i e = (s, i)

  arrives_there : (v u : ℕ) (z : World) (m : Note Name) (o : Option (Vat Name)) → slice_get x.vats u ≡ o → HasStopped (world.arrives script k v u z m o) → HasVat u
  unfolding world.arrives
  arrives_there v u z m None i e = absurd (idle_goes script k n c z y e)
  arrives_there v u z m (Some s) i e = (s, i)

  notes_there : (v u : ℕ) (ns : List (Note Name)) → HasStopped (world.carry_notes script k v u x ns) → HasVat u
  unfolding world.carry_notes
  notes_there v u [] e = absurd (idle_goes script k n c x y e)
  notes_there v u (m ∷ ns) e = arrives_there v u (record x { links = world.with_link (world.with_notes ns) v u x.links }) m (slice_get x.vats u) refl e

  uncut_there : (v u : ℕ) (ns : List (Note Name)) (b : Bool) → HasStopped (elim b [ true ↦ world.idle script k x | false ↦ world.carry_notes script k v u x ns ]) → HasVat u
  uncut_there v u ns true e = absurd (idle_goes script k n c x y e)
  uncut_there v u ns false e = notes_there v u ns e

  link_there : (v u : ℕ) (o : Option Link) → HasStopped (world.carry_link script k v u x o) → HasVat u
  unfolding world.carry_link
  link_there v u None e = absurd (idle_goes script k n c x y e)
  link_there v u (Some l) e = uncut_there v u l.notes l.cut e

  notice_there : (u v : ℕ) (o : Option (Vat Name)) → slice_get x.vats u ≡ o → (c ≡ Astray → ⊥) → HasStopped (world.within u x (NoticedAt k u v ∷ []) (world.step_number script k) (notice (world.names script u) v) o) → HasVat u
  unfolding world.within
  notice_there u v None i other e = absurd (other (let same : c ≡ Astray = cc in same))
  notice_there u v (Some s) i other e = (s, i)

pub stops_of_vats : StopsAreOfVats
unfolding world.step world.cut
stops_of_vats script x y (Turn v) k n c other e = let t = turn_there script x y k n c v (slice_get x.vats v) refl e in (v, t.0, t.1, refl)
stops_of_vats script x y (Carry v u) k n c other e = let t = link_there script x y k n c v u (world.link_at v u x.links) e in (u, t.0, t.1, refl)
stops_of_vats script x y (CutLink v u) k n c other e = cc
stops_of_vats script x y (NoticeLink v u) k n c other e = let t = notice_there script x y k n c v u (slice_get x.vats v) refl other e in (v, t.0, t.1, refl)
