-- Notes that tell to what a name settled are carried by small steps, in every run of a script that is read.
use Rattle.std.proofs.Common.{◌≡◌, ℕ, Bool, true, false, List, [], ◌∷◌, ◌++◌, Option, Some, None, refl, sym, ap, subst, ◌∙◌, ◌⊎◌, inl, inr, eqb-true}
use Rattle.std.proofs.lemmas.List.{append_assoc}
use Rattle.std.specs.Prelude.{◌==◌}
use Rattle.def_machine.specs.Values.{Words, Value, Broken, Items, Ref, Name, Object, Naming, Foreign, host_of}
use Rattle.def_machine.specs.State.{Unsettled, Settled, Known, Passed, Plain, AGift, Many, Note, SettledTo, Vat, Gives, ◌>>=◌, and_then, give}
use Rattle.def_machine.specs.Refs as refs
use Rattle.def_machine.specs.Refs.{entry_of}
use Rattle.def_machine.specs.Arrive as arriving
use Rattle.def_machine.specs.Arrive.{Old, New}
use Rattle.def_run.specs.World as world
use Rattle.def_run.specs.World.{Script, Carry, Event, Carried, World, names, names_of}
use Rattle.law_fate.specs.Name.Names.{names_in}
use Rattle.law_fate.specs.Name.Runs.{KnowsOnce}
use Rattle.law_fate.proofs.Name.SameNames.{new_unknown}
use Rattle.law_fate.specs.Fates.Lasting.{NoPromise, PassedLast}
use Rattle.law_fate.specs.Fates.WholeFateRuns.{KnowsVats}
use Rattle.law_reference.specs.Reference.Cuts.{NoticesFollowCuts}
use Rattle.law_reference.proofs.Reference.AskHolds.{notices_front}
use Rattle.law_order.specs.Ordering.Ways.{Queue, End}
use Rattle.law_order.specs.Ordering.Steps.{LeadsAmid, Ready}
use Rattle.law_order.specs.Ordering.Worlds.{IsObject}
use Rattle.law_order.specs.Asks.Asks.{Bears}
use Rattle.law_order.proofs.Arrivals.Homes.{object_far}
use Rattle.law_order.proofs.Arrivals.TrueNotes.{ended_names_keep, settled_names_keep}
use Rattle.law_order.proofs.Runs.Beginnings.{none_found, named_object, vats_are_ready}
use Rattle.law_order.specs.History.Lines.{counts, AllQuiet}
use Rattle.law_order.specs.History.Tells.{Tale, then_on}
use Rattle.law_order.specs.History.Told.{IsOfRun, entered}
use Rattle.law_order.specs.News.News.{BearsSettled, IsNoItems}
use Rattle.law_order.proofs.News.SettledRuns as runs
use Rattle.law_order.specs.Tales.Entries.{GoesBy}
use Rattle.law_order.specs.Tales.Middle.{middle}
use Rattle.law_order.proofs.Tales.Arriving.{Start, Arrival, head_of, silent_tale}
use Rattle.law_order.proofs.NewsTales.Parts.{gave}
use Rattle.law_order.specs.Settling.Holding.{HeldCame, VatsAreSound}
use Rattle.law_order.proofs.Settling.Walk.{IsObjectValue}
use Rattle.law_order.proofs.Settling.Sound.{vats_are_sound}
use Rattle.law_order.proofs.Runs.ToldRuns.{NoteTrue}
use Rattle.law_order.proofs.Runs.Truths.{object_self}
use Rattle.law_order.proofs.Steady.Facts.{IsClear, ClearSpot}
use Rattle.law_order.proofs.Tales.Middle.{growing_is_small}
use Rattle.law_order.proofs.News.Teller as teller
use Rattle.law_order.proofs.MessageTales.Calm.{calm_moves}
use Rattle.law_order.proofs.MessageTales.Rests.{rests}
use Rattle.law_order.specs.Ordering.Places.{amid, leads, leads_at}
use Rattle.law_frame.proofs.Local.Steps.{put_beside}
use Rattle.law_order.specs.SettledTales.Tales.{SettledCarriesAreTales}
use Rattle.law_order.proofs.SettledTales.Aims.{IsData, data_lasts, data_clear, data_ended, data_nowhere, object_out}
use Rattle.law_order.proofs.SettledTales.Begins.{came_begins}
use Rattle.law_order.proofs.SettledTales.Heard.{nowhere, there}
use Rattle.law_order.proofs.SettledTales.Known as known
use Rattle.law_order.proofs.SettledTales.Learnt as learnt
use Rattle.law_order.proofs.SettledTales.Learnt.{HasFor}
use Rattle.law_order.proofs.SettledTales.Settles as settles

-- a list keeps its members, or breaks where it would contain the name
target_data : (K : Naming Name Name) (s : Vat Name) (n : Name) (k : ℕ) → IsData (refs.target_of K s n (Items k))
unfolding refs.target_of refs.cut_cycle
target_data K s n k = go (refs.reaches K _ s n (Items k))
  where
    go : (b : Bool) → IsData (refs.cut_cycle K b (Items k))
    go true = tt
    go false = tt

target_same : (K : Naming Name Name) (s : Vat Name) (n : Name) (v : Value Name) → IsNoItems v → refs.target_of K s n v ≡ v
unfolding refs.target_of
target_same K s n (Items k) h = absurd h
target_same K s n other h = refl

value_learnt : (K : Naming Name Name) (ks : List Name) (v : Value Name) (s : Vat Name) → NoPromise v → arriving.learn_value K (world.read_value ks v).read s ≡ Gives v s
unfolding world.read_value world.read_name world.is_old arriving.learn_value arriving.learn_name ◌>>=◌ and_then give
value_learnt K ks (Ref (Object w i)) s h = refl
value_learnt K ks (Ref other) s h = absurd h
value_learnt K ks other s h = refl

given_state : {A : Type 0} (a c : A) (s t : Vat Name) → Gives a s ≡ Gives c t → s ≡ t
given_state a c s t e = cc

none_some : (k : Known Name) → ◌≡◌ {A = Option (Known Name)} None (Some k) → ⊥
none_some k e = cc

settled_quiet : (k a b : ℕ) (n : Name) (z : Passed Name) (bytes : List ℕ) → AllQuiet (Carried k a b (SettledTo n z) bytes ∷ [])
unfolding counts
settled_quiet k a b n z bytes = (refl, tt)

no_number : (a b : ℕ) → (a ≡ b → ⊥) → (b == a) ≡ false
no_number a b f = go (b == a) refl
  where
    go : (c : Bool) → (b == a) ≡ c → (b == a) ≡ false
    go true e = absurd (f (sym (eqb-true b a e)))
    go false e = e

module _ (script : Script) (once : KnowsOnce script) (vats : KnowsVats script) (follow : NoticesFollowCuts script.schedule) (honest : ℕ → Bool) (all : (v : ℕ) → honest v ≡ true) (n : Name) (z : Passed Name) (x y : World) (a b : ℕ) (g : GoesBy script (Carry a b) x y) (h : Bears x a b (SettledTo n z)) where
  abbrev K : Naming Name Name
  K = names script b

  abbrev Tells : Note Name
  Tells = SettledTo n z

  abbrev Head : List Event
  Head = head_of script honest x a b Tells h g.number

  abbrev Begins : Vat Name
  Begins = Start script honest x a b Tells h

  so_far : NoticesFollowCuts g.es
  so_far = notices_front script [] g.es (Carry a b ∷ g.rest) (subst NoticesFollowCuts g.split follow)

  so_far_then : NoticesFollowCuts (g.es ++ Carry a b ∷ [])
  so_far_then = notices_front script [] (g.es ++ Carry a b ∷ []) g.rest (subst NoticesFollowCuts (g.split ∙ sym (append_assoc g.es (Carry a b ∷ []) g.rest)) follow)

  of_run : IsOfRun script x
  of_run = entered g.es (Carry a b ∷ g.rest) g.opened g.split g.opens g.before

  silent : AllQuiet Head
  silent = settled_quiet g.number a b n z _

  lasts : PassedLast z
  lasts = runs.told_last script g.opened x g.es 1 g.opens g.before a b n z h

  module _ (t s r : Vat Name) (m : Name) (v : Value Name) (first : arriving.learn_name K (learnt.Nn script once g.opened x g.es 1 g.opens g.before honest a b n z h) Begins ≡ Gives m r) (last : arriving.learn K a (learnt.Zz script once g.opened x g.es 1 g.opens g.before honest a b n z h) r ≡ Gives v s) (ends : refs.settle K m v s ≡ Gives tt t) where
    abbrev M : Type 0
    M = Tale script honest (middle x b Head s) (middle x b Head t)

    abbrev Hosted : host_of n ≡ a
    Hosted = known.hosted script once g.opened x g.es 1 so_far g.opens g.before of_run honest all a b so_far_then n z h Head silent m r v s first last

    abbrev Other : a ≡ b → ⊥
    Other = known.other script once g.opened x g.es 1 so_far g.opens g.before of_run honest all a b so_far_then n z h Head silent m r v s first last

    abbrev Plainly : IsObject n → ⊥
    Plainly = known.plain script once g.opened x g.es 1 so_far g.opens g.before of_run honest all a b so_far_then n z h Head silent m r v s first last

    l : settles.HasLearnt script honest all x b a h.vat h.there Head n Hosted Other Plainly s
    l = known.has_learnt script once g.opened x g.es 1 so_far g.opens g.before of_run honest all a b so_far_then n z h Head silent m r v s first last

    named : m ≡ n
    named = learnt.named script once g.opened x g.es 1 g.opens g.before honest a b n z h m r v s first last

    settled : refs.settle K n v s ≡ Gives tt t
    settled = subst (λ q. refs.settle K q v s ≡ Gives tt t) named ends

    sound : VatsAreSound script x
    sound = vats_are_sound script x (let z = rests script once honest all x of_run in z.stands)

    -- ---- to data

    no_object : (q : Value Name) → IsData q → IsObjectValue q → ⊥
    no_object (Ref o) d i = d
    no_object other d i = i

    to_data : (q : Value Name) → IsData q → refs.target_of K s n v ≡ q → l.entry.standing ≡ Unsettled → M
    to_data q d same unsettled = let u : Vat Name = settles.Then script honest all x b a h.vat h.there Head n Hosted Other Plainly s l q (data_lasts q d) (data_clear K s.noticed q d) in
        settles.settles_tale script honest all x b a h.vat h.there Head n Hosted Other Plainly s l q (data_lasts q d) (data_clear K s.noticed q d) unsettled (λ i. data_ended script b i u.known q d) (nowhere (data_nowhere script b u q d))
        (λ told. ended_names_keep script honest x b a h.vat s u n q h.there l.tidy told (data_nowhere script b u q d)) sound (inr (λ i. absurd (no_object q d i))) t v same settled

    -- ---- to an object of the vat that tells it

    module _ (q : Name) (is : z ≡ Plain (Ref q)) (value : v ≡ Ref q) where
      bears : BearsSettled script honest x a b n (Ref q)
      bears = record { borne = subst (λ c. Bears x a b (SettledTo n c)) is h; sender = all a; receiver = all b; single = tt; waiters = inl all }

      object : IsObject q
      object = named_object script a q (subst PassedLast is lasts)

      host : host_of q ≡ a
      host = runs.ref_host script once g.opened x y g.es 1 a b n (Ref q) so_far g.opens g.before g.after honest bears q refl

      abroad : K.spot q ≡ Foreign a
      abroad = object_far script b a q object host (no_number a b Other)

      clear : IsClear K s.noticed (Ref q)
      clear = subst (λ c. ClearSpot s.noticed c) (sym abroad) l.unnoticed

      told : NoteTrue script x.vats a (SettledTo n (Plain (Ref q)))
      told = subst (λ c. NoteTrue script x.vats a (SettledTo n c)) is (teller.told script once g.opened x g.es 1 g.opens g.before a b n Tells teller.settled h)

      leads_home : LeadsAmid script honest x b s a (Ref n) ≡ End (Queue a) q
      unfolding amid leads leads_at
      leads_home = ap (λ c. leads_at script honest a c (Ref n)) (put_beside x.vats b a s (λ c. Other (sym c)) ∙ told.1) ∙ runs.told_leads script once g.opened x g.es 1 g.opens g.before honest a n q told object

      -- the name was known before, so nothing was learnt
      old_by : (j : Known Name) → entry_of K h.vat.known n ≡ Some j → (c : Bool) → world.is_old (names_in h.vat.known) n ≡ c → c ≡ true
      old_by j f true e = refl
      old_by j f false e = absurd (none_some j (sym (none_found script b h.vat.known n (new_unknown (names_in h.vat.known) n e)) ∙ f))

      same_first : (j : Known Name) → entry_of K h.vat.known n ≡ Some j → r ≡ Begins
      unfolding world.read_name arriving.learn_name give
      same_first j f = let old = old_by j f (world.is_old (names_in h.vat.known) n) refl in
          given_state m n r Begins (sym first ∙ ap (λ c. arriving.learn_name K (elim c [ true ↦ Old n | false ↦ New n (host_of n) ]) Begins) old)

      same_last : s ≡ r
      unfolding world.read_passed world.plain_read arriving.learn
      same_last = given_state v (Ref q) s r (sym last ∙ subst (λ c. arriving.learn K a (world.read_passed c (world.known_after (names_in h.vat.known) n)).read r ≡ Gives (Ref q) r) (sym is) (value_learnt K (world.known_after (names_in h.vat.known) n) (Ref q) r (subst PassedLast is lasts)))

      came_by : (l.entry.waiting ≡ []) ⊎ ((j : Known Name) × (entry_of K h.vat.known n ≡ Some j)) → (l.entry.waiting ≡ []) ⊎ (IsObjectValue (Ref q) → HeldCame script honest x b Head s)
      came_by (inl none) = inl none
      came_by (inr f) = inr (λ i. subst (λ u. HeldCame script honest x b Head u) (sym (same_last ∙ same_first f.0 f.1)) (came_begins script once g.opened x g.es 1 g.opens g.before of_run honest all b h.vat h.there Head silent))

      to_object : l.entry.standing ≡ Unsettled → M
      to_object unsettled = let u : Vat Name = settles.Then script honest all x b a h.vat h.there Head n Hosted Other Plainly s l (Ref q) (subst PassedLast is lasts) clear in
          settles.settles_tale script honest all x b a h.vat h.there Head n Hosted Other Plainly s l (Ref q) (subst PassedLast is lasts) clear unsettled
          (λ i. object_self script b i u.known q (settles.unknown script honest all x b a h.vat h.there Head n Hosted Other Plainly s l (Ref q) (subst PassedLast is lasts) clear unsettled q object))
          (there q (object_out script b a u q abroad l.unnoticed))
          (λ k. settled_names_keep script honest x b a h.vat s u n q h.there l.tidy k (all b) (all a) object host leads_home) sound (came_by l.was_known) t v (subst (λ c. refs.target_of K s n c ≡ Ref q) (sym value) (target_same K s n (Ref q) tt)) settled

    -- ---- whatever was told

    value_tale : (c : Value Name) → z ≡ Plain c → v ≡ c → l.entry.standing ≡ Unsettled → M
    value_tale (Ref q) is value unsettled = to_object q is value unsettled
    value_tale (Items k) is value unsettled = to_data (refs.target_of K s n v) (subst (λ c. IsData (refs.target_of K s n c)) (sym value) (target_data K s n k)) refl unsettled
    value_tale other is value unsettled = to_data other tt (subst (λ c. refs.target_of K s n c ≡ other) (sym value) (target_same K s n other tt)) unsettled

    passed_tale : (c : Passed Name) → z ≡ c → HasFor c v → l.entry.standing ≡ Unsettled → M
    passed_tale (Plain c) is value unsettled = value_tale c is value unsettled
    passed_tale (AGift i j) is value unsettled = absurd (subst PassedLast is lasts)
    passed_tale (Many ys) is value unsettled = to_data (refs.target_of K s n v) (subst (λ c. IsData (refs.target_of K s n c)) (sym value.1) (target_data K s n value.0)) refl unsettled

    new_tale : (l.entry.standing ≡ Unsettled) ⊎ ((p : Words) × (l.entry.standing ≡ Settled (Broken p))) → M
    new_tale (inl unsettled) = passed_tale z refl (learnt.told_value script once g.opened x g.es 1 g.opens g.before honest a b n z h m r v s first last) unsettled
    new_tale (inr stale) = settles.stale_tale script honest all x b a h.vat h.there Head n Hosted Other Plainly s l t v (Broken stale.0) stale.1 settled

    ready : Ready script honest x b Begins
    ready = (vats_are_ready script once).1 g.opened x g.es 1 g.opens g.before honest b h.vat h.vat.queue h.there

    pub tale : Tale script honest (middle x b Head Begins) (middle x b Head t)
    tale = then_on (growing_is_small script honest x b Head Begins s ((learnt.stays script once g.opened x g.es 1 g.opens g.before honest a b n z h m r v s first last).0 ready).1
        (calm_moves script b Begins s (known.calm script once g.opened x g.es 1 so_far g.opens g.before of_run honest all a b so_far_then n z h Head silent m r v s first last))) (new_tale l.new)

  inner : (t : Vat Name) → Arrival script honest x a b Tells h ≡ Gives tt t → Tale script honest (middle x b Head Begins) (middle x b Head t)
  unfolding arriving.arrive arriving.arrive_settled world.read_note names_of ◌>>=◌
  inner t e = let one = gave (arriving.learn_name K (learnt.Nn script once g.opened x g.es 1 g.opens g.before honest a b n z h) Begins) (λ m. arriving.learn K a (learnt.Zz script once g.opened x g.es 1 g.opens g.before honest a b n z h) >>= (λ v. refs.settle K m v)) tt t e in
      let two = gave (arriving.learn K a (learnt.Zz script once g.opened x g.es 1 g.opens g.before honest a b n z h) one.1) (λ v. refs.settle K one.0 v) tt t one.3 in
      tale t two.1 one.1 one.0 two.0 one.2 two.2 two.3

  pub settles_by : Tale script honest x y
  settles_by = silent_tale script honest x a b Tells h tt g.number y inner g.goes

pub settled_carries_are_tales : SettledCarriesAreTales
settled_carries_are_tales script once vats follow honest all n z x y a b g h = settles_by script once vats follow honest all n z x y a b g h
