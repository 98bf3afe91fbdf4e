-- A name of another vat settles at a steady vat that is told so: those that wait for it settle by small steps, and what reacts on it is queued.
use Rattle.std.proofs.Common.{◌≡◌, ℕ, suc, ◌+◌, ◌*◌, ◌≤◌, Bool, true, List, [], Some, length, sym, subst, ◌⊎◌, inl, inr, arith}
use Rattle.std.specs.Prelude.{slice_get}
use Rattle.def_machine.specs.Values.{Value, Name, Naming, host_of}
use Rattle.def_machine.specs.State.{Known, Unsettled, Settled, Settle, Settles, Vat, Gives, changed, with_change}
use Rattle.def_machine.specs.State as state
use Rattle.def_machine.specs.Refs as refs
use Rattle.def_machine.specs.Refs.{entry_of, standing_of}
use Rattle.def_run.specs.World.{Script, Event, World, names}
use Rattle.law_fate.specs.Name.Names.{AllOf, IsAmong}
use Rattle.law_fate.specs.Fates.Fate.{one, total}
use Rattle.law_fate.specs.Fates.Lasting.{NoPromise}
use Rattle.law_reference.specs.Reference.Knowing.{onward_all}
use Rattle.law_reference.specs.Reference.Views.{IsOpen}
use Rattle.law_reference.proofs.Reference.Claims.{Waits}
use Rattle.law_reference.proofs.Reference.Settles.{change_settles}
use Rattle.law_order.specs.Ordering.Settle.{settled_to}
use Rattle.law_order.specs.Ordering.Settlings.{with_line}
use Rattle.law_order.specs.Ordering.Steps.{Ready}
use Rattle.law_order.specs.Ordering.Worlds.{IfGives}
use Rattle.law_order.proofs.Ordering.Entries.{Differs, as_it_was, changes, differs, same_length}
use Rattle.law_order.proofs.Ordering.Sends.{entry_changed}
use Rattle.law_order.proofs.Views.Settling.{settled_now}
use Rattle.law_order.proofs.Views.Settling as settling
use Rattle.law_order.specs.Waits.Answers.{IsWaitOf, answers, asked_at, waits_at}
use Rattle.law_order.proofs.Waits.Classes.{owed_at, other_host}
use Rattle.law_order.proofs.Waits.Room.{share}
use Rattle.law_order.proofs.Steady.Facts as facts
use Rattle.law_order.proofs.Steady.Facts.{IsClear}
use Rattle.law_order.proofs.Steady.Steady.{Steady, less, then_steady}
use Rattle.law_order.specs.History.Tells.{Tale}
use Rattle.law_order.specs.Tales.Middle.{middle}
use Rattle.law_order.specs.Settling.Holding.{Holds, HeldCame, VatsAreSound}
use Rattle.law_order.proofs.Settling.Acts.{Told, told_self, told_then}
use Rattle.law_order.proofs.Settling.Later.{Later, unsent_on, holds_on, held_came}
use Rattle.law_order.proofs.Settling.Settling.{IsList, waits_tale}
use Rattle.law_order.proofs.Settling.Walk.{IsObjectValue, Unsent, among_all, reacts}
use Rattle.law_order.proofs.NewsTales.Told.{gives_same}
use Rattle.law_order.proofs.NewsTales.Parts.{Parts}
use Rattle.law_order.proofs.Steady.Wells as wells

still_open : IsOpen {N = Name} Unsettled
still_open y e = cc

given : {A : Type 0} (P : Vat Name → Type 0) (d : state.Done Name A) (a : A) (t : Vat Name) → d ≡ Gives a t → IfGives P d → P t
given P d a t e h = subst (λ z. IfGives P z) e h

-- an object is no list
apart : (y : Value Name) → IsObjectValue y → IsList y → ⊥
apart (Rattle.def_machine.specs.Values.Items k) i l = i
apart other i l = l

module _ (script : Script) (honest : ℕ → Bool) (all : (h : ℕ) → honest h ≡ true) (x : World) (b : ℕ) (was : Vat Name) (there : slice_get x.vats b ≡ Some was) (head : List Event) (n : Name) (away : host_of n ≡ b → ⊥) (s : Vat Name) (start : Steady script x b (λ m. 0) (λ m. 0) s)
    (j : Known Name) (found : entry_of (names script b) s.known n ≡ Some j) (waits : j.standing ≡ Unsettled) (empty : j.held ≡ []) (sleeps : (q : Name) → IsAmong q j.waiting → IsWaitOf n (standing_of (names script b) s.known q)) (y : Value Name) (last : NoPromise y) where
  abbrev K : Naming Name Name
  K = names script b

  abbrev pub Then : Vat Name
  Then = settled_to K (with_line s (Settles n y)) n y

  -- the name is owed nothing, so it is in hand for nothing
  in_hand : Steady script x b (λ m. share (owed_at b m) (one n m) + 0) (λ m. 0) s
  in_hand = less script x b (λ m. 0) (λ m. 0) (λ m. share (owed_at b m) (one n m) + 0) (λ m. 0) (λ m. let z = other_host b m n away in omega arith) (λ m. omega arith) s start

  steady_then : Steady script x b (λ m. 2 * asked_at m j + (share (owed_at b m) (waits_at m j) + 0)) (λ m. onward_all b m j.held + 0) Then
  steady_then = then_steady script x b (λ m. 0) (λ m. 0) n y last j s found (subst IsOpen (sym waits) still_open) (subst (Waits K b) (sym waits) tt) in_hand

  -- the vat is ready then
  pub ready_then : Ready script honest x b Then
  ready_then = facts.ready script x b honest (λ m. 2 * asked_at m j + (share (owed_at b m) (waits_at m j) + 0)) (λ m. onward_all b m j.held + 0) Then steady_then

  -- ---- those that wait for it

  wait_then : (q : Name) → IsWaitOf n (standing_of K s.known q) → IsWaitOf n (standing_of K Then.known q)
  unfolding standing_of refs.standing_in
  wait_then q h = go (differs script b (Settle y) n q s.known)
    where
      go : Differs script b (Settle y) n q (entry_of K s.known q) (entry_of K (with_change K (Settle y) n s.known) q) → IsWaitOf n (refs.standing_in (entry_of K (with_change K (Settle y) n s.known) q))
      go (as_it_was i) = subst (λ o. IsWaitOf n (refs.standing_in o)) (sym i) h
      go (changes g i a c) = let z = change_settles y g in subst (λ o. IsWaitOf n (refs.standing_in o)) (sym c) (subst (λ t. IsWaitOf n t) (sym z.1) tt)

  asleep : AllOf (λ (q : Name). IsWaitOf n (standing_of K Then.known q)) j.waiting
  asleep = wells.among_all (λ q. IsWaitOf n (standing_of K Then.known q)) j.waiting (λ q i. wait_then q (sleeps q i))

  rests : (g : Known Name) × (entry_of K Then.known n ≡ Some g) × (g.standing ≡ Settled y)
  rests = (changed (Settle y) j, entry_changed K n (Settle y) s.known j found, settled_now script b (with_line s (Settles n y)) n y j found (subst settling.IsOpen (sym waits) tt) empty)

  steady_wait : Steady script x b (λ m. 2 * total (answers m) [] + (share (owed_at b m) (total (λ (q : Name). one q m) j.waiting) + 0)) (λ m. 0) Then
  unfolding total waits_at
  steady_wait = less script x b (λ m. 2 * asked_at m j + (share (owed_at b m) (waits_at m j) + 0)) (λ m. onward_all b m j.held + 0) (λ m. 2 * total (answers m) [] + (share (owed_at b m) (total (λ (q : Name). one q m) j.waiting) + 0)) (λ m. 0)
      (λ m. omega arith) (λ m. omega arith) Then steady_then

  few : suc (length s.known) ≤ suc (suc (length Then.known))
  few = let same = same_length script b (Settle y) n s.known in omega arith

  -- ---- by small steps

  abbrev To : Vat Name → Vat Name → Type 0
  To t u = Told script honest x b head (IsList y) t u

  module _ (clear : IsClear K s.noticed y) (sound : VatsAreSound script x) (holds : Holds script honest x b head s) (came : (j.waiting ≡ []) ⊎ (IsObjectValue y → HeldCame script honest x b head s)) (heard : Later script honest x b head (IsList y) s Then) where
    holds_then : Holds script honest x b head Then
    holds_then = holds_on script honest x b head (IsList y) s Then heard holds

    module _ (t : Vat Name) (p : Parts K s n y j t) where
      abbrev Each : List Name → state.Done Name (Unit {0})
      Each qs = state.each (λ q. refs.settle_at K (suc (length s.known)) q y) qs Then

      waited_by : (j.waiting ≡ []) ⊎ (IsObjectValue y → HeldCame script honest x b head s) → To Then p.between
      unfolding state.each state.give
      waited_by (inl none) = subst (To Then) (gives_same Then p.between (subst (λ qs. Each qs ≡ Gives tt p.between) none p.waits)) (told_self script honest x b head (IsList y) Then)
      waited_by (inr came_so) = given (To Then) (Each j.waiting) tt p.between p.waits
          (waits_tale script honest all x b head was there y last sound (suc (length s.known)) n (λ m. 0) (λ m. 0) j.waiting Then rests asleep steady_wait few clear holds_then
          (λ i. held_came script honest x b head (IsList y) s Then heard (apart y i) (came_so i)))

      waited : To Then p.between
      waited = waited_by came

      to_between : Later script honest x b head (IsList y) s p.between
      to_between = Rattle.law_order.proofs.Settling.Later.later_then script honest x b head (IsList y) s Then p.between heard waited.later

      unsent : AllOf (Unsent script honest x b head (IsList y) was there p.between) j.reactions
      unsent = among_all script honest x b head (IsList y) was there (Unsent script honest x b head (IsList y) was there p.between) j.reactions (λ m i. unsent_on script honest x b head (IsList y) s p.between to_between m.id (holds.unsent n j found m i))

      queued : To p.between t
      queued = given (To p.between) (state.each state.enqueue j.reactions p.between) tt t p.reacts (reacts script honest x b head (IsList y) was there j.reactions p.between unsent (holds_on script honest x b head (IsList y) s p.between to_between holds))

      pub rest_tale : Tale script honest (middle x b head Then) (middle x b head t)
      rest_tale = (told_then script honest x b head (IsList y) Then p.between t waited queued).tale
