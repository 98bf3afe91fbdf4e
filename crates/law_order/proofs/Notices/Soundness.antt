-- In every run a vat is as is asked of it, as a step begins.
use Rattle.std.proofs.Common.{◌≡◌, ℕ, zero, true, List, [], ◌∷◌, Some, None, refl, sym, ap, subst, ◌∙◌, inl, inr}
use Rattle.std.specs.Prelude.{slice_get}
use Rattle.def_machine.specs.Values.{Value, Ref, Name, Object, Naming, host_of}
use Rattle.def_machine.specs.State.{Message, Standing, Unsettled, WaitsOn, Viewed, Settled, Known, Vat, is_in}
use Rattle.def_machine.specs.Refs.{entry_of, standing_of, standing_in}
use Rattle.def_run.specs.Draws.{draw_word}
use Rattle.def_run.specs.World.{Script, Entry, World, Goes, begins, open_from, steps_from, names, readied}
use Rattle.law_fate.specs.Name.Names.{AllOf, IsAmong}
use Rattle.law_fate.specs.Name.Runs.{KnowsOnce}
use Rattle.law_fate.proofs.Name.Facts.{all_map}
use Rattle.law_fate.specs.Fates.CarryRuns.{WorldSound}
use Rattle.law_fate.specs.Fates.Lasting.{Each, KnownWell, SettledWell, NoPromise, NamesObject}
use Rattle.law_fate.specs.Fates.Sound.{KnownSound}
use Rattle.law_fate.specs.Fates.Wellness.{WorldWell}
use Rattle.law_fate.proofs.Fates.RunLight.{messages_go_to_hosts}
use Rattle.law_fate.proofs.Fates.RunWell.{runs_stay_well}
use Rattle.law_reference.specs.Reference.Cuts.{NoticesFollowCuts}
use Rattle.law_reference.specs.Reference.Own.{IsOwnMail, IsOwnKnown}
use Rattle.law_reference.proofs.Reference.Chains.{false_if}
use Rattle.law_reference.proofs.Reference.NoticedRuns.{noticed_links_cut}
use Rattle.law_reference.proofs.Reference.OwnRuns.{own_in_runs}
use Rattle.law_reference.proofs.Reference.RinglessRuns.{waits_end_in_runs}
use Rattle.law_reference.proofs.Reference.Told.{found_all}
use Rattle.law_reference.proofs.Reference.ViewsRuns.{views_wait_in_runs}
use Rattle.law_reference.proofs.OwnWaits.Runs.{waits_in_runs}
use Rattle.law_order.specs.Ordering.Settle.{IsEnded}
use Rattle.law_order.specs.Ordering.Steps.{Ready}
use Rattle.law_order.specs.Ordering.Worlds.{IsObject}
use Rattle.law_order.proofs.Runs.Beginnings.{reached_is, each_all, entry_name, vats_are_ready, held_is_on_its_name, hosts_are_of_names}
use Rattle.law_order.proofs.Runs.OwnRuns.{viewed_names_are_empty}
use Rattle.law_order.specs.Waits.Answers.{IsWaitOf}
use Rattle.law_order.proofs.Waits.Runs.{waiters_wait_in_runs, stepped_once}
use Rattle.law_order.specs.Notices.Notices.{IsReacting}
use Rattle.law_order.proofs.Notices.Sinking.{StandsWell, AnswersHere, IsWell, Sound}

all_among : {A : Type 0} (xs ys : List A) → ((x : A) → IsAmong x ys → IsAmong x xs) → AllOf (λ x. IsAmong x xs) ys
all_among xs [] f = tt
all_among xs (y ∷ ys) f = (f y (inl refl), all_among xs ys (λ x a. f x (inr a)))

-- where what holds of none holds of all there is nothing
none_all : {A : Type 0} (Q : Type 0) (xs : List A) → (Q → ⊥) → AllOf (λ (x : A). Q) xs → xs ≡ []
none_all Q [] f h = refl
none_all Q (x ∷ xs) f h = absurd (f h.0)

none_each : {A : Type 0} (Q : Type 0) (xs : List A) → (Q → ⊥) → Each (λ (x : A). Q) xs → xs ≡ []
none_each Q [] f h = refl
none_each Q (x ∷ xs) f h = absurd (f h.0)

object_ended : (n : Name) → NamesObject n → IsObject n
object_ended (Object u i) h = tt
object_ended other h = h

ended : (z : Value Name) → NoPromise z → IsEnded z
ended (Ref n) h = object_ended n h
ended other h = tt

module _ (script : Script) (once : KnowsOnce script) (w x : World) (es : List Entry) (k : ℕ) (follow : NoticesFollowCuts es) (opened : open_from script zero script.vats (begins script) ≡ Goes w) (steps : steps_from script es k w ≡ Goes x) (v : ℕ) (s : Vat Name) (there : slice_get x.vats v ≡ Some s) where
  abbrev K : Naming Name Name
  K = names script v

  own : (s.number ≡ v) × AllOf (IsOwnMail v) s.queue × AllOf (IsOwnKnown v) s.known × AllOf (λ g. host_of g.name ≡ v) s.gifts
  own = (own_in_runs script once).1 w x es k opened steps v s there

  found_in : (Q : Known Name → Type 0) (n : Name) (j : Known Name) → AllOf Q s.known → entry_of K s.known n ≡ Some j → Q j
  unfolding names
  found_in Q n j h e = found_all (draw_word script.key) v Q s.known n j h e

  named : (n : Name) (j : Known Name) → entry_of K s.known n ≡ Some j → j.name ≡ n
  named n j e = entry_name script v s.known n j e

  among : (n : Name) (j : Known Name) → entry_of K s.known n ≡ Some j → IsAmong j s.known
  among n j e = found_in (λ i. IsAmong i s.known) n j (all_among s.known s.known (λ i a. a)) e

  stands_of : (n : Name) (j : Known Name) → entry_of K s.known n ≡ Some j → standing_of K s.known n ≡ j.standing
  unfolding standing_of standing_in
  stands_of n j e = ap (λ o. standing_in o) e

  well_known : (n : Name) (j : Known Name) → entry_of K s.known n ≡ Some j → KnownWell j
  well_known n j e = found_in KnownWell n j (each_all KnownWell s.known ((reached_is WorldWell _ x steps ((runs_stay_well script).1 w es k opened)).vats v s there)) e

  sound_known : (n : Name) (j : Known Name) → entry_of K s.known n ≡ Some j → KnownSound v j
  sound_known n j e = found_in (KnownSound v) n j (each_all (KnownSound v) s.known ((reached_is WorldSound _ x steps ((messages_go_to_hosts script).1 w es k opened)).vats v s there).names) e

  stands_by : (n : Name) (j : Known Name) (q : Standing Name) → entry_of K s.known n ≡ Some j → j.standing ≡ q → StandsWell v n q
  stands_by n j Unsettled e f = tt
  stands_by n j (WaitsOn q) e f = (waits_in_runs script once).1 w x es k opened steps v s there n q (stands_of n j e ∙ f)
  stands_by n j (Viewed g) e f = ((viewed_names_are_empty script).1 w x es k opened steps v s n g j there e f).0
  stands_by n j (Settled z) e f = ended z (subst SettledWell f (well_known n j e).standing)

  mails_here : (ms : List (Message Name)) → AllOf (IsOwnMail v) ms → AllOf (AnswersHere v) ms
  mails_here ms h = all_map {P = IsOwnMail v} {Q = AnswersHere v} (λ m i. i.1) ms h

  empty : (n : Name) (j : Known Name) → entry_of K s.known n ≡ Some j → (host_of n ≡ v → ⊥) → (j.held ≡ []) × (j.told ≡ [])
  empty n j e f = let far : (host_of j.name ≡ v → ⊥) = λ i. f (sym (ap host_of (named n j e)) ∙ i) in (
    none_each (host_of j.name ≡ v) j.held far (sound_known n j e).held,
    none_each (host_of j.name ≡ v) j.told far (sound_known n j e).told,
  )

  known : (n : Name) (j : Known Name) → entry_of K s.known n ≡ Some j → IsWell (IsReacting s) v n j
  known n j e = record {
    host = (hosts_are_of_names script once).1 w x es k opened steps v s n j there e;
    stands = stands_by n j j.standing e refl;
    on = (held_is_on_its_name script).1 w x es k opened steps v s n j there e;
    answers = mails_here j.held (found_in (IsOwnKnown v) n j own.2 e).1;
    empty = empty n j e;
    reacts = all_map {P = λ m. IsAmong m j.reactions} {Q = IsReacting s} (λ m a. (j, among n j e, a)) j.reactions (all_among j.reactions j.reactions (λ m a. a));
  }

  pub itself : (u : ℕ) → is_in u s.noticed ≡ true → v ≡ u → ⊥
  itself u e = (noticed_links_cut script once w x es k follow opened steps v s there u e).0

  ready : Ready script (λ (n : ℕ). true) x v (readied x s)
  ready = (vats_are_ready script once).1 w x es k opened steps (λ (n : ℕ). true) v s s.queue there

  objects : (n : Name) → IsObject n → entry_of K s.known n ≡ None
  unfolding readied
  objects n o = ready.ends.objects n o

  pub sound_in : Sound (names script v) (IsReacting s) v s
  sound_in = record {
    number = own.0;
    itself = false_if (is_in v s.noticed) (λ e. itself v e refl);
    objects = objects;
    known = known;
    views = λ n g e. let awaits = (views_wait_in_runs script once).1 w x es k opened steps v s there n g e in (awaits.entry, awaits.found);
    ends = λ n. (waits_end_in_runs script once).1 w x es k opened steps v s there (stepped_once script once w x es k follow opened steps v s there) n;
    waits = λ n j q e a. subst (λ m. IsWaitOf m (standing_of K s.known q)) (named n j e) ((waiters_wait_in_runs script once).1 w x es k follow opened steps v s there j q (among n j e) a);
  }

  pub hosts : AllOf (λ (j : Known Name). j.host ≡ host_of j.name) s.known
  hosts = all_map {P = IsOwnKnown v} {Q = λ (j : Known Name). j.host ≡ host_of j.name} (λ j i. i.0) s.known own.2

  pub gifts_own : AllOf (λ g. host_of g.name ≡ v) s.gifts
  gifts_own = own.3

-- as it is readied for its step
pub ready_sound : (script : Script) (P : Message Name → Type 0) (w : World) (v : ℕ) (s : Vat Name) → Sound (names script v) P v s → Sound (names script v) P v (readied w s)
unfolding readied
ready_sound script P w v s h = record { number = h.number; itself = h.itself; objects = h.objects; known = h.known; views = h.views; ends = h.ends; waits = h.waits }
