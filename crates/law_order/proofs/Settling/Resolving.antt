-- A name is resolved, as a tale.
use Rattle.std.proofs.Common.{◌≡◌, ℕ, ◌+◌, ◌*◌, Bool, true, false, List, Some, length, ap, ◌∙◌, inl, arith, if◌then◌else◌, codes}
use Rattle.std.specs.Prelude.{slice_get}
use Rattle.def_machine.specs.Values.{Words, Value, Broken, Name, Naming, naming, host_of}
use Rattle.def_machine.specs.State.{Unsettled, Known, Vat, Gives, ◌>>=◌, and_then, look}
use Rattle.def_machine.specs.Refs as refs
use Rattle.def_machine.specs.Refs.{Place, Mine, Away, entry_of, standing_of}
use Rattle.def_run.specs.Draws.{draw_word}
use Rattle.def_run.specs.World.{Script, Event, World, names}
use Rattle.law_fate.specs.Fates.Fate.{one}
use Rattle.law_fate.specs.Fates.Lasting.{NoPromise}
use Rattle.law_fate.proofs.Fates.PlacesRefs.{IsEnd, of_end}
use Rattle.law_fate.proofs.Fates.PlacesSteps.{global_names}
use Rattle.law_order.specs.Ordering.Settlings.{IsLoose}
use Rattle.law_order.proofs.Waits.Classes.{owed_at}
use Rattle.law_order.proofs.Waits.Room.{share}
use Rattle.law_order.proofs.Steady.Blocks.{followed_clear, resolved_steady}
use Rattle.law_order.proofs.Steady.Facts.{IsClear}
use Rattle.law_order.proofs.Steady.Steady.{Steady, less}
use Rattle.law_order.proofs.Steady.Wells.{here}
use Rattle.law_order.specs.Settling.Holding.{Holds, HeldCame, VatsAreSound}
use Rattle.law_order.proofs.Settling.Acts.{Told, told_wider}
use Rattle.law_order.proofs.Settling.Settling.{IsList, settle_tale}
use Rattle.law_order.proofs.Settling.Waits.{wait_told}

module _ (script : Script) (honest : ℕ → Bool) (all : (h : ℕ) → honest h ≡ true) (w : World) (v : ℕ) (head : List Event) (r : Vat Name) (at : slice_get w.vats v ≡ Some r) (sound : VatsAreSound script w)
    (c o : Name → ℕ) (p : Name) (s t : Vat Name) (k : Known Name) (found : entry_of (names script v) s.known p ≡ Some k) (waits : k.standing ≡ Unsettled) (own : host_of p ≡ v) (loose : IsLoose script honest w v p s) (h : Steady script w v (λ n. 2 * share (owed_at v n) (one p n) + c n) o s)
    (holds : Holds script honest w v head s) (came : HeldCame script honest w v head s) where
  abbrev N : Naming Name Name
  N = names script v

  abbrev Goes : Type 0 → Type 0
  Goes L = Told script honest w v head L s t

  stood : standing_of N s.known p ≡ Unsettled
  unfolding standing_of refs.standing_in
  stood = ap (λ z. refs.standing_in z) found ∙ waits

  once_in : Steady script w v (λ n. share (owed_at v n) (one p n) + c n) o s
  once_in = less script w v (λ n. 2 * share (owed_at v n) (one p n) + c n) o (λ n. share (owed_at v n) (one p n) + c n) o (λ n. omega arith) (λ n. omega arith) s h

  settles_in : (y : Value Name) → NoPromise y → IsClear N s.noticed y → refs.settle N p y s ≡ Gives tt t → Goes (IsList y)
  settles_in y last clear e = (settle_tale script honest all w v head r at y last sound c o p s t clear once_in (here own stood (inl loose)) holds (λ i. came) e).0

  module _ (L : Type 0) where
    either_in : (b : Bool) (q : Name) (u : Words) → (if b then refs.settle N p (Broken u) else refs.wait_on N p q) s ≡ Gives tt t → Goes L
    either_in true q u e = told_wider script honest w v head ⊥ L s t (λ i. absurd i) (settles_in (Broken u) tt tt e)
    either_in false q u e = wait_told script honest w v head L s p q k found waits loose holds.ready t e

    unless_in : (q : Name) → refs.wait_unless_cycle N p q s ≡ Gives tt t → Goes L
    unfolding refs.wait_unless_cycle ◌>>=◌ and_then look
    unless_in q e = either_in (refs.waits_lead N (length s.known) s.known p q) q (codes "cycle") e

  to_in : (y : Value Name) (q : Place Name) → (IsEnd q → NoPromise y × IsClear N s.noticed y) → refs.resolve_to N p y q s ≡ Gives tt t → Goes (IsList y)
  unfolding refs.resolve_to
  to_in y (Mine q) f e = unless_in (IsList y) q e
  to_in y (Away g q false) f e = unless_in (IsList y) q e
  to_in y other f e = let i = f tt in settles_in y i.0 i.1 e

  -- By small steps, to a steady vat. It settled to a list only where x is followed to one.
  pub resolve_tale : (x : Value Name) → refs.resolve N p x s ≡ Gives tt t → Told script honest w v head (IsList (refs.follow N s x)) s t × Steady script w v c o t
  unfolding refs.resolve ◌>>=◌ and_then look names
  resolve_tale x e = let y = refs.follow N s x in (
    to_in y (refs.place N s y) (λ i. (of_end (naming (draw_word script.key) v) v (global_names (draw_word script.key) v) s y i, followed_clear script w v honest all r at s x i)) e,
    resolved_steady script w v c o p x s t k found waits own e h,
  )
