-- In every world of a run the links with a vat that was noticed are cut.
use Rattle.std.proofs.Common.{◌≡◌, ℕ, zero, suc, true, List, [], ◌∷◌, Some, refl, sym, ◌⊎◌, inl, inr, append-nil}
use Rattle.std.specs.Prelude.{slice_get}
use Rattle.def_machine.specs.Values.{Name, Root}
use Rattle.def_machine.specs.State.{Vat, is_in}
use Rattle.def_run.specs.World as world
use Rattle.def_run.specs.World.{Script, Program, Entry, Turn, Carry, CutLink, NoticeLink, World, Run, Goes as Going, Stopped, names, readied}
use Rattle.law_fate.specs.Name.Names.{IsAmong, Once}
use Rattle.law_fate.proofs.Name.Run.{Stands, opened_stands}
use Rattle.law_reference.specs.Reference.Cuts.{IsCutAmong, NoticesFollow, IsCutThere, NoticedLinksAreCut}
use Rattle.law_reference.proofs.Reference.Gentle.{gives_by, gives_map}
use Rattle.law_reference.proofs.Reference.StepsGentle.{gentle_taking, gentle_opening}
use Rattle.law_reference.proofs.Reference.NoticedSteps.{SameNoticed, noticed_gentle, noticed_free, noticed_settles, same_arrive, noticed_or, NoticedOr}
use Rattle.law_reference.proofs.Reference.LinksCut.{step_cut, stays_cut, fits_severed, now_cut}
use Rattle.law_reference.proofs.Reference.RunLift.{IsAllowed, StepsKeep, InVats, step_keeps, step_stands, opens_keep}

module _ (script : Script) (Sure : ℕ → ℕ → Type 0) where
  -- all that it noticed is so
  abbrev pub AllSure : ℕ → Vat Name → Type 0
  AllSure v s = (u : ℕ) → is_in u s.noticed ≡ true → Sure v u

  same_sure : (v : ℕ) (s t : Vat Name) → AllSure v s → SameNoticed s t → AllSure v t
  same_sure v s t h e u i = h u (rw e at i)

  or_sure : (v w : ℕ) (s t : Vat Name) → AllSure v s → Sure v w → NoticedOr (names script v) w s t → AllSure v t
  or_sure v w s t h ok f u i = pick (f u i)
    where
      pick : (is_in u s.noticed ≡ true) ⊎ (u ≡ w) → Sure v u
      pick (inl j) = h u j
      pick (inr e) = rw (sym e) at ok

  pub noticed_sure : StepsKeep script AllSure Sure
  unfolding readied
  noticed_sure = record {
    turn = λ w v s m ms g i q h. let r : Vat Name = readied w (record s { queue = ms }) in gives_by SameNoticed (AllSure v) r _ (λ t e. same_sure v r t h e) ((gentle_taking (names script v) SameNoticed (noticed_gentle (names script v)) (noticed_settles (names script v)) (noticed_free (names script v)) (world.tree_at script.vats v) script.depth m).after r);
    note = λ w from v s n g i ok h. let r : Vat Name = readied w s in gives_by SameNoticed (AllSure v) r _ (λ t e. same_sure v r t h e) ((same_arrive (names script v) from (world.read_note (world.names_of s) n)).after r);
    notice = λ w v to s g i ok h. let r : Vat Name = readied w s in gives_map (NoticedOr (names script v) to r) (AllSure v) _ (λ t f. or_sure v to r t h ok f) (noticed_or (names script v) to r);
    opening = λ w v p s g i h. let r : Vat Name = readied w s in gives_by SameNoticed (AllSure v) r _ (λ t e. same_sure v r t h e) ((gentle_opening (names script v) SameNoticed (noticed_gentle (names script v)) (noticed_settles (names script v)) (noticed_free (names script v)) p.tree script.depth (Root v) (world.given script.vats p.knows)).after r);
  }

-- ---- over the entries

module _ (script : Script) where
  -- the two are not one, and the links between them are cut
  abbrev pub Sure : World → ℕ → ℕ → Type 0
  Sure w v u = (v ≡ u → ⊥) × IsCutThere v u w.links × IsCutThere u v w.links

  -- how a world stands after these entries
  pub record Cut (done : List Entry) (w : World) : Type 0 where
    pub stands : Stands script w
    pub noticed : InVats script (AllSure script (Sure w)) (Sure w) w
    pub cut : (v u : ℕ) → IsAmong (CutLink v u) done → IsCutThere v u w.links × IsCutThere u v w.links

  pub either_cut : (done : List Entry) (w : World) → Cut done w → (v u : ℕ) → IsCutAmong v u done → IsCutThere v u w.links × IsCutThere u v w.links
  either_cut done w h v u (inl i) = h.cut v u i
  either_cut done w h v u (inr i) = let both = h.cut u v i in (both.1, both.0)

  pub sure_on : (entry : Entry) (k : ℕ) (w x : World) → world.step script entry k w ≡ Going x → (v u : ℕ) → Sure w v u → Sure x v u
  sure_on entry k w x e v u h = (h.0, step_cut v u script entry k w x h.1 e, step_cut u v script entry k w x h.2 e)

  sure_vats : (entry : Entry) (k : ℕ) (w x : World) → world.step script entry k w ≡ Going x → InVats script (AllSure script (Sure w)) (Sure w) x → InVats script (AllSure script (Sure x)) (Sure x) x
  sure_vats entry k w x e h v s i u j = sure_on entry k w x e v u (h v s i u j)

  going_is : (w x : World) → Going w ≡ Going x → w ≡ x
  going_is w x e = cc

  -- the links that are cut by the entry itself
  moved_both : (v u : ℕ) (y x : World) → IsCutThere v u y.links × IsCutThere u v y.links → Going y ≡ Going x → IsCutThere v u x.links × IsCutThere u v x.links
  moved_both v u y x h e = rw (going_is y x e) at h

  cut_now : (v u k : ℕ) (w x : World) → world.step script (CutLink v u) k w ≡ Going x → IsCutThere v u x.links × IsCutThere u v x.links
  unfolding world.step world.cut
  cut_now v u k w x e = moved_both v u _ x (stays_cut v u world.severed_link (fits_severed v u) u v (world.with_link world.severed_link v u w.links) (now_cut v u w.links), now_cut u v (world.with_link world.severed_link v u w.links)) e

  same_entry : (v u : ℕ) (entry : Entry) (k : ℕ) (w x : World) → CutLink v u ≡ entry → world.step script entry k w ≡ Going x → IsCutThere v u x.links × IsCutThere u v x.links
  same_entry v u entry k w x i e = cut_now v u k w x (rw (sym i) at e)

  cuts_on : (entry : Entry) (done : List Entry) (k : ℕ) (w x : World) → Cut done w → world.step script entry k w ≡ Going x → (v u : ℕ) → IsAmong (CutLink v u) (entry ∷ done) → IsCutThere v u x.links × IsCutThere u v x.links
  cuts_on entry done k w x h e v u (inl i) = same_entry v u entry k w x i e
  cuts_on entry done k w x h e v u (inr i) = let both = h.cut v u i in (step_cut v u script entry k w x both.0 e, step_cut u v script entry k w x both.1 e)

  pub cut_step : (entry : Entry) (done : List Entry) (k : ℕ) (w x : World) → Cut done w → IsAllowed (Sure w) entry → world.step script entry k w ≡ Going x → Cut (entry ∷ done) x
  cut_step entry done k w x h ok e = record {
    stands = step_stands script (AllSure script (Sure w)) (Sure w) (noticed_sure script (Sure w)) entry k w x h.stands e;
    noticed = sure_vats entry k w x e (step_keeps script (AllSure script (Sure w)) (Sure w) (noticed_sure script (Sure w)) entry k w x h.stands ok h.noticed e);
    cut = cuts_on entry done k w x h e;
  }

  pub then_cut : (P : Type 0) (x : World) (r : Run) (f : World → Run) → ((y : World) → r ≡ Going y → f y ≡ Going x → P) → world.then_goes r f ≡ Going x → P
  unfolding world.then_goes
  then_cut P x (Going y) f g e = g y refl e
  then_cut P x (Stopped c n y) f g e = cc

  Noticed : World → Type 0
  Noticed x = InVats script (AllSure script (Sure x)) (Sure x) x

  steps_cut : (es done : List Entry) (k : ℕ) (w x : World) → NoticesFollow done es → Cut done w → world.steps_from script es k w ≡ Going x → Noticed x
  unfolding world.steps_from Noticed
  steps_cut [] done k w x f h e = rw (going_is w x e) at h.noticed
  steps_cut (Turn v ∷ es) done k w x f h e = then_cut (Noticed x) x (world.step script (Turn v) k w) (world.steps_from script es (suc k)) (λ y i j. steps_cut es (Turn v ∷ done) (suc k) y x f (cut_step (Turn v) done k w y h tt i) j) e
  steps_cut (Carry v u ∷ es) done k w x f h e = then_cut (Noticed x) x (world.step script (Carry v u) k w) (world.steps_from script es (suc k)) (λ y i j. steps_cut es (Carry v u ∷ done) (suc k) y x f (cut_step (Carry v u) done k w y h tt i) j) e
  steps_cut (CutLink v u ∷ es) done k w x f h e = then_cut (Noticed x) x (world.step script (CutLink v u) k w) (world.steps_from script es (suc k)) (λ y i j. steps_cut es (CutLink v u ∷ done) (suc k) y x f (cut_step (CutLink v u) done k w y h tt i) j) e
  steps_cut (NoticeLink v u ∷ es) done k w x f h e = then_cut (Noticed x) x (world.step script (NoticeLink v u) k w) (world.steps_from script es (suc k))
      (λ y i j. steps_cut es (NoticeLink v u ∷ done) (suc k) y x f.2 (cut_step (NoticeLink v u) done k w y h (let both = either_cut done w h v u f.1 in (f.0, both.0, both.1)) i) j) e

  -- ---- the start

  not_noticed : (u : ℕ) → is_in u [] ≡ true → ⊥
  unfolding is_in
  not_noticed u e = cc

  pub fresh_noticed : (u : ℕ) (ps : List Program) (n : ℕ) (s : Vat Name) → slice_get (world.fresh_from script u ps) n ≡ Some s → s.noticed ≡ []
  unfolding world.fresh_from world.fresh
  fresh_noticed u [] n s e = cc
  fresh_noticed u (p ∷ ps) zero s e = cc
  fresh_noticed u (p ∷ ps) (suc n) s e = fresh_noticed (suc u) ps n s e

  abbrev pub Never : ℕ → ℕ → Type 0
  Never v u = ⊥

  pub begins_noticed : InVats script (AllSure script Never) Never (world.begins script)
  unfolding world.begins
  begins_noticed v s e u i = not_noticed u (rw (fresh_noticed zero script.vats v s e) at i)

  module _ (once : (v : ℕ) (p : Program) → slice_get script.vats v ≡ Some p → Once (v ∷ p.knows)) where
    begins_stand : Stands script (world.begins script)
    unfolding world.open_from
    begins_stand = opened_stands script once [] script.vats (world.begins script) refl refl

    opened_noticed : (w : World) → world.open_from script zero script.vats (world.begins script) ≡ Going w → InVats script (AllSure script Never) Never w
    opened_noticed w e = opens_keep script (AllSure script Never) Never (noticed_sure script Never) [] script.vats [] (world.begins script) w (sym (append-nil script.vats)) begins_stand begins_noticed e

    pub opened_cut : (w : World) → world.open_from script zero script.vats (world.begins script) ≡ Going w → Cut [] w
    opened_cut w e = record {
      stands = opened_stands script once script.vats [] w (sym (append-nil script.vats)) e;
      noticed = λ v s i u j. absurd (opened_noticed w e v s i u j);
      cut = λ v u i. absurd i;
    }

pub noticed_links_cut : NoticedLinksAreCut
unfolding Noticed
noticed_links_cut script once w x es k f e i = steps_cut script es [] k w x f (opened_cut script once w e) i
