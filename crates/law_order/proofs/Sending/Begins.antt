-- As a step of a run begins, the vat has what it is to have: so it can pass what it has in hand.
use Rattle.std.proofs.Common.{◌≡◌, ℕ, Bool, true, List, Some, sym, ap, subst, ◌∙◌}
use Rattle.std.specs.Prelude.{slice_get}
use Rattle.def_machine.specs.Values.{Value, Prim, Items, Name}
use Rattle.def_machine.specs.State.{Message, Known, Settled, Vat}
use Rattle.def_machine.specs.Refs as refs
use Rattle.def_machine.specs.Refs.{entry_of, standing_of}
use Rattle.def_run.specs.Draws.{draw_word}
use Rattle.def_run.specs.World.{Script, Event, World, names, readied}
use Rattle.law_machine.specs.Machine.Laws.{SettledStays}
use Rattle.law_machine.proofs.Machine.StepLaws.{settled_entry}
use Rattle.law_fate.specs.Name.Names.{Bit, AllOf, IsAmong, IsHad, names_in, ValuesOk}
use Rattle.law_fate.specs.Name.Runs.{KnowsOnce}
use Rattle.law_fate.proofs.Name.Tracked.{Kept}
use Rattle.law_fate.proofs.Name.Run.{Had, VatStands}
use Rattle.law_fate.specs.Fates.Lasting.{Each, KnownWell, SettledWell, NoPromise}
use Rattle.law_fate.specs.Fates.Wellness.{WorldWell}
use Rattle.law_fate.proofs.Fates.RunWell.{runs_stay_well}
use Rattle.law_reference.specs.Reference.Views.{ViewsWait}
use Rattle.law_reference.proofs.Reference.Told.{found_all}
use Rattle.law_reference.proofs.Reference.ViewsRuns.{views_wait_in_runs}
use Rattle.law_order.specs.Ordering.Steps.{Ready}
use Rattle.law_order.proofs.Runs.Beginnings.{reached_is, each_all, vats_are_ready}
use Rattle.law_order.specs.History.Told.{IsOfRun, opened, entered}
use Rattle.law_order.specs.Sending.Came.{Agrees}
use Rattle.law_order.specs.Sending.New.{IsBegun}
use Rattle.law_order.specs.Sending.Passing.{VatsCanPass}
use Rattle.law_order.proofs.Sending.Around.{around_of}
use Rattle.law_order.proofs.Sending.Agree.{worlds_agree}
use Rattle.law_order.proofs.Sending.Held.{members_held}
use Rattle.law_order.proofs.Sending.Passing.{no_objects, can_pass}
use Rattle.law_order.proofs.Sending.Sending.{Around, Having}
use Rattle.law_order.proofs.Sending.Views.{ViewsRest}

module _ (script : Script) (honest : ℕ → Bool) (w : World) (v : ℕ) (r : Vat Name) (stand : VatStands script w v r) where
  views_rest : Each KnownWell r.known → ViewsWait (names script v) r.known → ViewsRest script v r.known
  unfolding names standing_of refs.standing_in
  views_rest well waits = record {
    views = λ n g k e f. let a = waits n g e in a.pending (Items k) (ap (λ o. refs.standing_in o) (sym a.found) ∙ f);
    last = λ n y e. last n y e (settled_entry (entry_of (names script v) r.known n) y e);
    objects = λ n i. ap (λ o. refs.standing_in o) (no_objects script v r.known (let kept = stand.kept in kept.apart) n i);
  }
    where
      last : (n : Name) (y : Value Name) → refs.standing_in (entry_of (names script v) r.known n) ≡ Settled y → (k : Known Name) × (entry_of (names script v) r.known n ≡ Some k) × (k.standing ≡ Settled y) → NoPromise y
      last n y e f = let w = found_all (draw_word script.key) v KnownWell r.known n f.0 (each_all KnownWell r.known well) f.1 in subst SettledWell f.2 w.standing

ready_as : (script : Script) → KnowsOnce script → (honest : ℕ → Bool) (w : World) → IsOfRun script w → (v : ℕ) (r : Vat Name) → slice_get w.vats v ≡ Some r → (ms : List (Message Name)) → Ready script honest w v (readied w (record r { queue = ms }))
ready_as script once honest w (opened ps rest i e) v r there ms = (vats_are_ready script once).0 ps rest w i e honest v r ms there
ready_as script once honest w (entered es rest o i a e) v r there ms = (vats_are_ready script once).1 o w es 1 a e honest v r ms there

module _ (script : Script) (once : KnowsOnce script) (honest : ℕ → Bool) (everyone : (u : ℕ) → honest u ≡ true) (w : World) (around : Around script w) (v : ℕ) (head : List Event) (came : Name → ℕ) (r : Vat Name) (ms : List (Message Name)) (begins : IsBegun w v head came r (record r { queue = ms })) where
  abbrev Begun : Vat Name
  Begun = readied w (record r { queue = ms })

  well : IsOfRun script w → Each KnownWell r.known
  well (opened ps rest i e) = (reached_is WorldWell _ w e ((runs_stay_well script).0 ps)).vats v r begins.found
  well (entered es rest o i a e) = (reached_is WorldWell _ w e ((runs_stay_well script).1 o es 1 a)).vats v r begins.found

  waits : IsOfRun script w → ViewsWait (names script v) r.known
  waits (opened ps rest i e) = (views_wait_in_runs script once).0 ps rest w i e v r begins.found
  waits (entered es rest o i a e) = (views_wait_in_runs script once).1 o w es 1 a e v r begins.found

  pub having_begins : Having script honest everyone w around v head came r (record r { queue = ms }) begins Begun
  unfolding readied
  having_begins = let stand = around.stands.vats v r begins.found in let kept = stand.kept in let a = worlds_agree script w around.of_run v r begins.found in record {
    ready = ready_as script once honest w around.of_run v r begins.found ms;
    agrees = record { lists = a.lists; settled = a.settled };
    views = views_rest script honest w v r stand (well around.of_run) (waits around.of_run);
    members = let p = stand.parts in members_held script honest w v r (Had script w v r) (λ b h. h.1) kept.apart p.lists;
    settled = λ n k y e f. e;
    hosts = kept.hosts;
    drawn = λ x i. i;
  }

-- as care has it of what the vat has in the middle of a step
module _ (script : Script) (honest : ℕ → Bool) (everyone : (u : ℕ) → honest u ≡ true) (w : World) (around : Around script w) (v : ℕ) (head : List Event) (came : Name → ℕ) (r q : Vat Name) (begins : IsBegun w v head came r q)
    (s : Vat Name) (P : Bit Name → Type 0) (had : (b : Bit Name) → P b → IsHad (names_in s.known) s.mails b) (lists : AllOf (ValuesOk P) s.lists) (kept : Kept v s.number s.known s.mails s.promises) where
  pub having_by : Ready script honest w v s → Agrees script v s → ViewsRest script v s.known → SettledStays (names script v) r s → ((x : ℕ) → IsAmong x w.drawn → IsAmong x s.drawn) → Having script honest everyone w around v head came r q begins s
  having_by ready agrees views settled drawn = record { ready = ready; agrees = agrees; views = views; members = members_held script honest w v s P had kept.apart lists; settled = settled; hosts = kept.hosts; drawn = drawn }

pub vats_can_pass : VatsCanPass
unfolding readied
vats_can_pass script once honest w of_run v r there ms h t other found = let around = around_of script once w of_run in let stand = around.stands.vats v r there in let kept = stand.kept in
    can_pass script honest w around.stands around.meet around.far v r there (readied w (record r { queue = ms })) (ready_as script once honest w of_run v r there ms) (λ n k y e f. e) kept.hosts (λ x i. i) h t other found
