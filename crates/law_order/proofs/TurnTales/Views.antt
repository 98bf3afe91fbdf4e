-- In the middle of a step no view leads to a list: each view waits on its gift, and all that a turn does keeps that.
use Rattle.std.proofs.Common.{◌≡◌, ℕ, List, [], ◌∷◌, ◌++◌, Some, refl, sym, ap, subst, ◌∙◌}
use Rattle.def_machine.specs.Values.{Words, Value, Items, Name, Promise, Naming}
use Rattle.def_machine.specs.State.{Known, Settled, Vat, Act, Gives, begun}
use Rattle.def_machine.specs.Refs as refs
use Rattle.def_machine.specs.Refs.{entry_of, standing_of}
use Rattle.def_run.specs.Draws.{draw_word}
use Rattle.def_run.specs.World.{Script, World, names}
use Rattle.law_machine.proofs.Machine.StepLaws.{settled_entry}
use Rattle.law_fate.specs.Name.Names.{AllOf, IsEventual, names_in}
use Rattle.law_fate.specs.Fates.Lasting.{KnownWell, SettledWell, NoPromise}
use Rattle.law_reference.specs.Reference.Views.{ViewsWait}
use Rattle.law_reference.proofs.Reference.Gentle.{Gentle, GivesBy}
use Rattle.law_reference.proofs.Reference.RefsGentle.{gentle_settle, gentle_resolve, gentle_send, gentle_send_only, gentle_react}
use Rattle.law_reference.proofs.Reference.Told.{found_all}
use Rattle.law_reference.proofs.Reference.ViewsGo.{ViewsGo, go_append, views_gentle, settles_views}
use Rattle.law_order.proofs.Runs.Beginnings.{each_all}
use Rattle.law_order.proofs.Steady.Steady.{Steady}
use Rattle.law_order.proofs.Sending.Passing.{no_objects}
use Rattle.law_order.proofs.Sending.Views.{ViewsRest}

-- ---- of a steady vat, which knows no objects

module _ (script : Script) (w : World) (v : ℕ) (c o : Name → ℕ) (s : Vat Name) (apart : AllOf IsEventual (names_in s.known)) (steady : Steady script w v c o s) where
  well_settled : (n : Name) (y : Value Name) → refs.standing_in (entry_of (names script v) s.known n) ≡ Settled y → (k : Known Name) × (entry_of (names script v) s.known n ≡ Some k) × (k.standing ≡ Settled y) → NoPromise y
  unfolding names
  well_settled n y e f = let well = found_all (draw_word script.key) v KnownWell s.known n f.0 (each_all KnownWell s.known (let sound = steady.sound in sound.well)) f.1 in subst SettledWell f.2 well.standing

  pub rests : ViewsWait (names script v) s.known → ViewsRest script v s.known
  unfolding standing_of refs.standing_in
  rests waits = record {
    views = λ n g k e f. let a = waits n g e in a.pending (Items k) (ap (λ z. refs.standing_in z) (sym a.found) ∙ f);
    last = λ n y e. well_settled n y e (settled_entry (entry_of (names script v) s.known n) y e);
    objects = λ n i. ap (λ z. refs.standing_in z) (no_objects script v s.known apart n i);
  }

-- ---- what keeps it

module _ (script : Script) (v : ℕ) where
  abbrev K : Naming Name Name
  K = names script v

  abbrev Waits : Vat Name → Type 0
  Waits s = ViewsWait (names script v) s.known

  pub views_by : {A : Type 0} (m : Act Name A) → Gentle (ViewsGo (names script v)) m → (s t : Vat Name) (a : A) → m s ≡ Gives a t → Waits s → Waits t
  views_by m gentle s t a e waits n g f = let go = subst (λ d. GivesBy (ViewsGo K) s d) e (gentle.after s) in let back = go n g f in back.1 (waits n g back.0)

  pub views_settled : (p : Name) (y : Value Name) (s t : Vat Name) → refs.settle (names script v) p y s ≡ Gives tt t → Waits s → Waits t
  views_settled p y s t e = views_by (refs.settle K p y) (gentle_settle K (ViewsGo K) (views_gentle K) (settles_views K) p y) s t tt e

  pub views_resolved : (p : Name) (y : Value Name) (s t : Vat Name) → refs.resolve (names script v) p y s ≡ Gives tt t → Waits s → Waits t
  views_resolved p y s t e = views_by (refs.resolve K p y) (gentle_resolve K (ViewsGo K) (views_gentle K) (settles_views K) p y) s t tt e

  module _ (act : ℕ) (x : Value Name) (s t : Vat Name) (a : Value Name) where
    pub views_sent : (verb : Words) (args : List (Value Name)) → refs.send (names script v) act x verb args s ≡ Gives a t → Waits s → Waits t
    views_sent verb args e = views_by (refs.send K act x verb args) (gentle_send K (ViewsGo K) (views_gentle K) (settles_views K) act x verb args) s t a e

    pub views_sent_only : (verb : Words) (args : List (Value Name)) → refs.send_only (names script v) act x verb args s ≡ Gives a t → Waits s → Waits t
    views_sent_only verb args e = views_by (refs.send_only K act x verb args) (gentle_send_only K (ViewsGo K) (views_gentle K) (settles_views K) act x verb args) s t a e

    pub views_reacted : (y near : Value Name) → refs.react (names script v) act x y near s ≡ Gives a t → Waits s → Waits t
    views_reacted y near e = views_by (refs.react K act x y near) (gentle_react K (ViewsGo K) (views_gentle K) (settles_views K) act x y near) s t a e

  pub views_promised : (s : Vat Name) → Waits s → ViewsWait (names script v) (s.known ++ begun (Promise v s.promises) s.number ∷ [])
  unfolding begun
  views_promised s waits n g f = let back = go_append K s.known (begun (Promise v s.promises) s.number) refl n g f in back.1 (waits n g back.0)
