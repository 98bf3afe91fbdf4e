-- The gift that counts as opened is resolved to the note's name, where it had settled: it stays as it is, and may be among what waits on a name.
use Rattle.std.proofs.Common.{◌≡◌, ℕ, Bool, true, false, List, [], Some, length, refl, sym, ap, subst, ◌∙◌, inl, if◌then◌else◌, codes}
use Rattle.std.specs.Prelude.{slice_get}
use Rattle.def_machine.specs.Values.{Words, Value, Broken, Ref, Name, Gift, Naming}
use Rattle.def_machine.specs.State.{Known, Settled, Wait, WaitOn, Waits, Open, GiftEntry, Vat, Done, Gives, ◌>>=◌, ◌>>◌, and_then, look, tell, alter, with_change, with_opened}
use Rattle.def_machine.specs.Arrive.{gift_at}
use Rattle.def_machine.specs.Refs as refs
use Rattle.def_machine.specs.Refs.{Place, Mine, Away, entry_of, standing_of}
use Rattle.def_run.specs.World.{Script, Event, World, names}
use Rattle.law_order.specs.Ordering.Ways.{Way, Mid}
use Rattle.law_order.specs.Ordering.Places.{gift_place}
use Rattle.law_order.specs.Ordering.Settlings.{with_line}
use Rattle.law_order.specs.Ordering.Steps.{Grown}
use Rattle.law_order.proofs.Ordering.Adds.{adds_nothing, change_adds, grown_adds}
use Rattle.law_order.proofs.Ordering.News.{grown_then}
use Rattle.law_order.specs.Asks.Asks.{Bears}
use Rattle.law_order.proofs.News.Away.{settled_rests}
use Rattle.law_order.proofs.News.Stale.{settled_change}
use Rattle.law_order.proofs.NewsTales.Moving.{rest_moves, wait_moves}
use Rattle.law_order.specs.History.Tells.{Tale}
use Rattle.law_order.specs.Tales.Middle.{middle, MovesNone}
use Rattle.law_order.proofs.OpenTales.Opening.{idle_tale}

gives_is : (s t : Vat Name) → ◌≡◌ {A = Done Name (Unit {0})} (Gives tt s) (Gives tt t) → s ≡ t
gives_is s t e = cc

module _ (script : Script) (honest : ℕ → Bool) (all : (u : ℕ) → honest u ≡ true) (x : World) (a b i : ℕ) (n : Name) (h : Bears x a b (Open i n)) (head : List Event) (s : Vat Name) (empty : s.outbox ≡ []) (first : gift_place script honest b i x.links ≡ Mid (Way a b) [] n)
    (entry : GiftEntry Name) (kept : gift_at a i s.gifts ≡ Some entry) (named : entry.name ≡ Gift b i) (g : Known Name) (found : entry_of (names script b) s.known (Gift b i) ≡ Some g) (z : Value Name) (settled : g.standing ≡ Settled z) where
  abbrev K : Naming Name Name
  K = names script b

  abbrev G : Name
  G = Gift b i

  abbrev Opened : Vat Name
  Opened = record s { gifts = with_opened a i s.gifts }

  abbrev At : Vat Name → World
  At t = middle x b head t

  stood : standing_of K s.known G ≡ Settled z
  unfolding standing_of refs.standing_in
  stood = ap (λ o. refs.standing_in o) found ∙ settled

  idle : (t : Vat Name) → ((w : World) (r : Vat Name) → slice_get w.vats b ≡ Some r → Grown script honest w b Opened t) → MovesNone K Opened t → Tale script honest (At s) (At t)
  idle t grown moves = idle_tale script honest x a b i n h (all a) (all b) head s empty first entry kept named t grown moves (inl (z, stood))

  -- ---- it stays as it is

  stays_tale : Tale script honest (At s) (At Opened)
  stays_tale = idle Opened (λ w r at. grown_adds script honest w b Opened Opened (adds_nothing K Opened Opened refl refl refl refl refl refl)) (rest_moves script b Opened Opened refl refl refl refl)

  settles_tale : (v : Value Name) (t : Vat Name) → refs.settle K G v Opened ≡ Gives tt t → Tale script honest (At s) (At t)
  settles_tale v t e = subst (λ u. Tale script honest (At s) (At u)) (gives_is Opened t (sym (settled_rests script honest x b Opened G v z g found settled) ∙ e)) stays_tale

  -- ---- it is among what waits on a name

  module _ (q : Name) where
    abbrev Lined : List (Known Name) → Vat Name
    Lined ks = with_line (record Opened { known = with_change K (Wait G) q ks }) (Waits G q)

    abbrev Between : Vat Name
    Between = record Opened { known = with_change K (Wait G) q s.known }

    same : Lined (with_change K (WaitOn q) G s.known) ≡ Lined s.known
    same = ap (λ ks. Lined ks) (settled_change K (WaitOn q) G g z settled s.known found)

    grown : (w : World) (r : Vat Name) → slice_get w.vats b ≡ Some r → Grown script honest w b Opened (Lined (with_change K (WaitOn q) G s.known))
    grown w r at = subst (λ t. Grown script honest w b Opened t) (sym same) (grown_then script honest w b Opened Between (Lined s.known)
        (grown_adds script honest w b Opened Between (change_adds K (Wait G) q tt Opened))
        (grown_adds script honest w b Between (Lined s.known) (adds_nothing K Between (Lined s.known) refl refl refl refl refl refl)))

    waits_tale : (t : Vat Name) → refs.wait_on K G q Opened ≡ Gives tt t → Tale script honest (At s) (At t)
    unfolding refs.wait_on ◌>>◌ ◌>>=◌ and_then tell alter
    waits_tale t e = subst (λ u. Tale script honest (At s) (At u)) (gives_is (Lined (with_change K (WaitOn q) G s.known)) t e) (idle (Lined (with_change K (WaitOn q) G s.known)) grown (wait_moves script b Opened G q))

  -- ---- whatever the name leads to

  either_tale : (d : Bool) (q : Name) (u : Words) (t : Vat Name) → (if d then refs.settle K G (Broken u) else refs.wait_on K G q) Opened ≡ Gives tt t → Tale script honest (At s) (At t)
  either_tale true q u t e = settles_tale (Broken u) t e
  either_tale false q u t e = waits_tale q t e

  unless_tale : (q : Name) (t : Vat Name) → refs.wait_unless_cycle K G q Opened ≡ Gives tt t → Tale script honest (At s) (At t)
  unfolding refs.wait_unless_cycle ◌>>=◌ and_then look
  unless_tale q t e = either_tale (refs.waits_lead K (length s.known) s.known G q) q (codes "cycle") t e

  to_tale : (v : Value Name) (p : Place Name) (t : Vat Name) → refs.resolve_to K G v p Opened ≡ Gives tt t → Tale script honest (At s) (At t)
  unfolding refs.resolve_to
  to_tale v (Mine q) t e = unless_tale q t e
  to_tale v (Away u q false) t e = unless_tale q t e
  to_tale v other t e = settles_tale v t e

  pub rested_tale : (t : Vat Name) → refs.resolve K G (Ref n) Opened ≡ Gives tt t → Tale script honest (At s) (At t)
  unfolding refs.resolve ◌>>=◌ and_then look
  rested_tale t e = to_tale (refs.follow K Opened (Ref n)) (refs.place K Opened (refs.follow K Opened (Ref n))) t e
