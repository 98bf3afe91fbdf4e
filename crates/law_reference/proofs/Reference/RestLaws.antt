-- The laws of what rests in runs.
use Rattle.std.proofs.Common.{◌≡◌, ℕ, zero, Bool, true, false, List, [], ◌∷◌, Option, Some, None, refl, sym, append-nil}
use Rattle.std.specs.Prelude.{slice_get}
use Rattle.def_machine.specs.Values.{Value, Ref, Name, Object, Naming, naming, same_reference, Foreign, spot_of}
use Rattle.def_machine.specs.State.{Settled, Known, Vat}
use Rattle.def_machine.specs.Refs.{entry_of, standing_of}
use Rattle.law_machine.specs.Machine.Breaks.{FarApart, AtRest}
use Rattle.law_machine.proofs.Machine.StepLaws.{settled_entry}
use Rattle.def_run.specs.Draws.{draw_word}
use Rattle.def_run.specs.World as world
use Rattle.def_run.specs.World.{Script, Entry, World, Run, Goes, names}
use Rattle.law_machine.proofs.Run.BreakRuns.{followed_breaks_run}
use Rattle.law_fate.specs.Name.Names.{AllOf, IsEventual, names_in}
use Rattle.law_fate.proofs.Name.SameNames.{far_apart, reference_is}
use Rattle.law_fate.proofs.Name.Run.{Stands, steps_stand, opened_stands}
use Rattle.law_fate.specs.Fates.Lasting.{Each, NoPromise, NamesObject, KnownWell}
use Rattle.law_fate.specs.Fates.FateRuns.{Reached}
use Rattle.law_fate.specs.Fates.Wellness.{WorldWell}
use Rattle.law_fate.proofs.Fates.RunWell.{runs_stay_well}
use Rattle.law_reference.specs.Reference.Views.{ViewsWait}
use Rattle.law_reference.specs.Reference.Rest.{HostsRest, ReferencesRest, ReferencesRestInRuns, FollowedBreaksStayBroken}
use Rattle.law_reference.specs.Reference.Hosts.{VatsRestInRuns, BreaksStayBroken}
use Rattle.law_reference.proofs.Reference.ViewsRuns.{views_wait_in_runs}
use Rattle.law_reference.proofs.Reference.HostsRuns.{hosts_rest_in_runs}
use Rattle.law_reference.proofs.Reference.Ends.{Final, SettledFinal, pends, following_ends}

-- ---- what settled, settled for good

pick_other : (b : Bool) (k : Known Name) (o : Option (Known Name)) → (b ≡ true → ⊥) → o ≡ None → ◌≡◌ {A = Option (Known Name)} (elim b [ true ↦ Some k | false ↦ o ]) None
pick_other true k o f e = absurd (f refl)
pick_other false k o f e = e

no_object : (n m : Name) → n ≡ m → NamesObject m → IsEventual n → ⊥
no_object n (Object u i) e o v = rw e at v
no_object n other e o v = o

object_unknown : (word : ℕ → ℕ) (v : ℕ) (ks : List (Known Name)) (m : Name) → AllOf IsEventual (names_in ks) → NamesObject m → entry_of (naming word v) ks m ≡ None
unfolding entry_of naming
object_unknown word v [] m h o = refl
object_unknown word v (k ∷ ks) m h o = pick_other (same_reference k.name m) k (entry_of (naming word v) ks m) (λ e. no_object k.name m (reference_is k.name m e) o h.0) (object_unknown word v ks m h.1 o)

well_head : (b : Bool) (k0 k : Known Name) (o : Option (Known Name)) → KnownWell k0 → ◌≡◌ {A = Option (Known Name)} (elim b [ true ↦ Some k0 | false ↦ o ]) (Some k) → (o ≡ Some k → KnownWell k) → KnownWell k
well_head true k0 k o h e f = let same : k0 ≡ k = cc in rw same at h
well_head false k0 k o h e f = f e

entry_well : (K : Naming Name Name) (ks : List (Known Name)) (n : Name) (k : Known Name) → Each KnownWell ks → entry_of K ks n ≡ Some k → KnownWell k
unfolding entry_of
entry_well K [] n k h e = cc
entry_well K (k0 ∷ ks) n k h e = well_head (K.same k0.name n) k0 k (entry_of K ks n) h.0 e (λ i. entry_well K ks n k h.1 i)

value_final : (word : ℕ → ℕ) (v : ℕ) (ks : List (Known Name)) (y : Value Name) → AllOf IsEventual (names_in ks) → NoPromise y → Final (naming word v) ks y
value_final word v ks (Ref n) h p m e = let same : n ≡ m = cc in object_unknown word v ks m h (rw same at p)
value_final word v ks other h p m e = cc

settled_well : (k : Known Name) (y : Value Name) → KnownWell k → k.standing ≡ Settled y → NoPromise y
settled_well k y h e = rw e at h.standing

settled_final : (word : ℕ → ℕ) (v : ℕ) (ks : List (Known Name)) → AllOf IsEventual (names_in ks) → Each KnownWell ks → SettledFinal (naming word v) ks
unfolding standing_of
settled_final word v ks h w n y e = let found = settled_entry (entry_of (naming word v) ks n) y e in value_final word v ks y h (settled_well found.0 y (entry_well (naming word v) ks n found.0 w found.1) found.2)

-- ---- in each world

spot_is : (word : ℕ → ℕ) (v : ℕ) (m : Name) (x : ℕ) → (naming word v).spot m ≡ Foreign x → spot_of v m ≡ Foreign x
unfolding naming
spot_is word v m x i = i

far : (script : Script) (x : World) → Stands script x → (v : ℕ) (t : Vat Name) → slice_get x.vats v ≡ Some t → FarApart (names script v) t
unfolding names
far script x h v t e m u i = far_apart (draw_word script.key) v t.known (h.vats v t e).kept.apart m u (spot_is (draw_word script.key) v m u i)

rest_at : (script : Script) (w : World) (v : ℕ) (s : Vat Name) → Stands script w → WorldWell w → slice_get w.vats v ≡ Some s → ViewsWait (names script v) s.known → ReferencesRest (names script v) s
unfolding names
rest_at script w v s h well e views = record {
  views = λ n g i. pends (naming (draw_word script.key) v) s.known n g (views n g i);
  apart = λ m x i. far_apart (draw_word script.key) v s.known (h.vats v s e).kept.apart m x (spot_is (draw_word script.key) v m x i);
  ends = λ x n i. following_ends (naming (draw_word script.key) v) s.known views (settled_final (draw_word script.key) v s.known (h.vats v s e).kept.apart (well.vats v s e)) x n i;
}

reached_well : (r : Run) (w : World) → r ≡ Goes w → Reached WorldWell r → WorldWell w
reached_well r w e h = rw e at h

pub references_rest : ReferencesRestInRuns
references_rest script once = (
  λ ps rest w e i v s j. rest_at script w v s (opened_stands script once ps rest w e i) (reached_well (world.open_from script zero ps (world.begins script)) w i ((runs_stay_well script).0 ps)) j ((views_wait_in_runs script once).0 ps rest w e i v s j),
  λ w x es k e i v s j. rest_at script x v s (steps_stand script es k w x (opened_stands script once script.vats [] w (sym (append-nil script.vats)) e) i) (reached_well (world.steps_from script es k w) x i ((runs_stay_well script).1 w es k e)) j ((views_wait_in_runs script once).1 w x es k e i v s j),
)

whole_rest : (K : Naming Name Name) (s : Vat Name) → HostsRest K s → ReferencesRest K s → AtRest K s
whole_rest K s hosts h = record { hosts = hosts; views = h.views; apart = h.apart; ends = h.ends }

pub followed_broken : FollowedBreaksStayBroken
followed_broken script once w y x es fs k l opened stepped more v s e =
    let a = followed_breaks_run script fs l y x more v s e in
    let all : (w z : World) (gs : List Entry) (n : ℕ) → world.open_from script zero script.vats (world.begins script) ≡ Goes w → world.steps_from script gs n w ≡ Goes z → (u : ℕ) (r : Vat Name) → slice_get z.vats u ≡ Some r → ReferencesRest (names script u) r = (references_rest script once).1 in
    let stands : Stands script x = steps_stand script fs l y x (steps_stand script es k w y (opened_stands script once script.vats [] w (sym (append-nil script.vats)) opened) stepped) more in
    (a.0, a.1, λ hosts z p i. a.2 (whole_rest (names script v) s hosts (all w y es k opened stepped v s e)) (far script x stands v a.0 a.1) z p i)

pub vats_rest : VatsRestInRuns
vats_rest script once = (
  λ ps rest w e i v s j. whole_rest (names script v) s ((hosts_rest_in_runs script once).0 ps rest w e i v s j) ((references_rest script once).0 ps rest w e i v s j),
  λ w x es k f e i v s j. whole_rest (names script v) s ((hosts_rest_in_runs script once).1 w x es k f e i v s j) ((references_rest script once).1 w x es k e i v s j),
)

pub breaks_stay : BreaksStayBroken
breaks_stay script once w y x es fs k l follow opened stepped more v s e =
    let a = followed_broken script once w y x es fs k l opened stepped more v s e in (a.0, a.1, λ z p i. a.2 ((hosts_rest_in_runs script once).1 w y es k follow opened stepped v s e) z p i)
