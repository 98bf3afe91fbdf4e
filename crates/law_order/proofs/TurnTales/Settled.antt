-- In the middle of a turn a name breaks, or is resolved, by small steps, and what more is kept of the vat is kept.
use Rattle.std.proofs.Common.{◌≡◌, ℕ, ◌+◌, ◌*◌, Bool, true, List, Some}
use Rattle.std.specs.Prelude.{slice_get}
use Rattle.def_machine.specs.Values.{Words, Value, Broken, Name, Naming, host_of}
use Rattle.def_machine.specs.State.{Known, Unsettled, Vat, Act, Gives}
use Rattle.def_machine.specs.Refs as refs
use Rattle.def_machine.specs.Refs.{entry_of}
use Rattle.def_run.specs.Draws.{draw_word}
use Rattle.def_run.specs.World.{Script, Event, World, names}
use Rattle.law_machine.proofs.Machine.Keeps.{Keeps}
use Rattle.law_machine.proofs.Machine.RefsKeeps.{keeps_settle, keeps_resolve}
use Rattle.law_fate.proofs.Name.Care.{Sound}
use Rattle.law_fate.proofs.Name.Run as run
use Rattle.law_fate.specs.Fates.Fate.{one}
use Rattle.law_order.specs.Ordering.Settlings.{IsLoose}
use Rattle.law_order.proofs.Waits.Classes.{owed_at}
use Rattle.law_order.proofs.Waits.Room.{share}
use Rattle.law_order.proofs.Steady.Steady.{Steady, after_at}
use Rattle.law_order.proofs.Steady.Wells.{MaySettle}
use Rattle.law_order.specs.Sending.Came.{Agrees, CameSo}
use Rattle.law_order.specs.Sending.New.{IsBegun}
use Rattle.law_order.proofs.Sending.Sending.{Around}
use Rattle.law_order.proofs.Settling.Kept as kept
use Rattle.law_order.proofs.Settling.Kept.{ToldTo}
use Rattle.law_order.proofs.Settling.Sound.{vats_are_sound}
use Rattle.law_order.proofs.TurnTales.Acts.{Goes}
use Rattle.law_order.proofs.TurnTales.Also as also
use Rattle.law_order.proofs.TurnTales.Also.{Also, settled_on, draws_on}
use Rattle.law_order.proofs.TurnTales.AlsoKept.{came_stays}
use Rattle.law_order.proofs.TurnTales.Counted.{settled_counted, resolved_counted}
use Rattle.law_order.proofs.TurnTales.Stays as stays
use Rattle.law_order.proofs.TurnTales.Turning.{T}
use Rattle.law_order.proofs.TurnTales.Views.{views_settled, views_resolved}

module _ (script : Script) (honest : ℕ → Bool) (all : (u : ℕ) → honest u ≡ true) (w : World) (around : Around script w) (v : ℕ) (head : List Event) (came : Name → ℕ) (r q : Vat Name) (begins : IsBegun w v head came r q) (there : slice_get w.vats v ≡ Some r) (h : run.Stands script w)
    (end : Vat Name) (agrees : Agrees script v end) where
  abbrev K : Naming Name Name
  K = names script v

  abbrev M : Vat Name → Type 0
  M s = Also script honest w v head came r q s

  abbrev Told : Vat Name → Vat Name → Type 0
  Told s t = ToldTo script honest w v head (CameSo script honest w v head) s t

  -- what stays to the end of the turn did so before
  back : {A : Type 0} (m : Act Name A) → Keeps (stays.Stays K) m → (s t : Vat Name) (a : A) → m s ≡ Gives a t → stays.Stays K t end → stays.Stays K s end
  back m k s t a e g = (stays.stays_kept K).trans {s = s} {t = t} {u = end} (after_at (stays.Stays K) s (m s) a t e (k.after s)) g

  module _ (c o : Name → ℕ) (p : Name) (s t : Vat Name) (sure : Sound (T script w v r there h) s) (later : stays.Stays K t end) (more : M s) where
    module _ (x : Words) (e : refs.settle K p (Broken x) s ≡ Gives tt t) where
      then_broken : Told s t → Goes script honest w v head s t × M t
      unfolding names
      then_broken g = (
        g.0,
        record {
          counted = settled_counted (draw_word script.key) w v came q p (Broken x) s t e more.counted;
          settled = settled_on script v (refs.settle K p (Broken x)) (λ law under. keeps_settle K _ law under p (Broken x)) r s t tt e more.settled;
          draws = draws_on script v (refs.settle K p (Broken x)) (λ law under. keeps_settle K _ law under p (Broken x)) w.drawn s t tt e more.draws;
          views = views_settled script v p (Broken x) s t e more.views;
          unsent = g.1.0.unsent;
          came_so = g.1.1;
        },
      )

      pub broken : MaySettle script honest w v p (Broken x) s → Steady script w v (λ n. share (owed_at v n) (one p n) + c n) o s → Goes script honest w v head s t × M t
      broken may steady =
          let holds = also.holds_of script honest all w around v head came r q begins there h (λ n. share (owed_at v n) (one p n) + c n) o s sure steady more in
          then_broken (kept.broken_kept script honest w v head all r there (vats_are_sound script w around.stands) (CameSo script honest w v head) (came_stays script honest w v head) c o p s t holds more.came_so x may steady e)

    module _ (y : Value Name) (e : refs.resolve K p y s ≡ Gives tt t) where
      then_resolved : Told s t → Goes script honest w v head s t × M t
      unfolding names
      then_resolved g = (
        g.0,
        record {
          counted = resolved_counted (draw_word script.key) w v came q p y s t e more.counted;
          settled = settled_on script v (refs.resolve K p y) (λ law under. keeps_resolve K _ law under p y) r s t tt e more.settled;
          draws = draws_on script v (refs.resolve K p y) (λ law under. keeps_resolve K _ law under p y) w.drawn s t tt e more.draws;
          views = views_resolved script v p y s t e more.views;
          unsent = g.1.0.unsent;
          came_so = g.1.1;
        },
      )

      pub resolved : (k : Known Name) → entry_of K s.known p ≡ Some k → k.standing ≡ Unsettled → host_of p ≡ v → IsLoose script honest w v p s → Steady script w v (λ n. 2 * share (owed_at v n) (one p n) + c n) o s → Goes script honest w v head s t × M t
      resolved k found waits own loose steady =
          let now = back (refs.resolve K p y) (keeps_resolve K (stays.Stays K) (stays.stays_kept K) (stays.stays_under K) p y) s t tt e later in
          let holds = also.holds_of script honest all w around v head came r q begins there h (λ n. 2 * share (owed_at v n) (one p n) + c n) o s sure steady more in
          let held = also.came_of script honest all w around v head came r q begins there h (λ n. 2 * share (owed_at v n) (one p n) + c n) o s sure steady more end agrees now in
          then_resolved (kept.resolved_kept script honest w v head all r there (vats_are_sound script w around.stands) (CameSo script honest w v head) (came_stays script honest w v head) c o p s t holds more.came_so y k found waits own loose steady held e)
