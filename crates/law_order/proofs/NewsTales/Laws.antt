-- Notes that tell what became of a name are carried by small steps, in every run of a script that is read.
use Rattle.std.proofs.Common.{◌≡◌, ℕ, Bool, true, List, [], ◌∷◌, refl, sym, subst, ◌∙◌, inl}
use Rattle.def_machine.specs.Values.{Name}
use Rattle.def_machine.specs.State.{Elsewhere, Vat, Gives}
use Rattle.def_run.specs.World.{Script, Carry, Entry, Event, Carried, World, names_of}
use Rattle.law_fate.specs.Name.Runs.{KnowsOnce}
use Rattle.law_fate.specs.Fates.WholeFateRuns.{KnowsVats}
use Rattle.law_reference.specs.Reference.Cuts.{NoticesFollowCuts}
use Rattle.law_reference.proofs.Reference.AskHolds.{notices_front}
use Rattle.law_order.specs.Asks.Asks.{Bears}
use Rattle.law_order.specs.News.News.{BearsElsewhere}
use Rattle.law_order.proofs.News.Elsewhere as far
use Rattle.law_order.specs.History.Lines.{counts, AllQuiet}
use Rattle.law_order.specs.History.Tells.{Tale}
use Rattle.law_order.specs.Tales.Entries.{GoesBy}
use Rattle.law_order.specs.Tales.Middle.{middle}
use Rattle.law_order.proofs.Tales.Arriving.{Start, Arrival, head_of, silent_tale}
use Rattle.law_order.specs.NewsTales.Tales.{ElsewhereAreTales}
use Rattle.law_order.proofs.NewsTales.Elsewhere.{elsewhere_tale}
use Rattle.law_order.proofs.NewsTales.Told.{gives_same}

module _ (script : Script) (once : KnowsOnce script) (knows : KnowsVats script) (follow : NoticesFollowCuts script.schedule) (honest : ℕ → Bool) (all : (v : ℕ) → honest v ≡ true) where
  -- so far too each notice stands behind its cut
  so_far : {x y : World} (en : Entry) → (g : GoesBy script en x y) → NoticesFollowCuts g.es
  so_far en g = notices_front script [] g.es (en ∷ g.rest) (subst NoticesFollowCuts g.split follow)

  elsewhere_quiet : (k a b c : ℕ) (n : Name) (bytes : List ℕ) → AllQuiet (Carried k a b (Elsewhere n c) bytes ∷ [])
  unfolding counts
  elsewhere_quiet k a b c n bytes = (refl, tt)

  module _ (n : Name) (c : ℕ) (x y : World) (a b : ℕ) (g : GoesBy script (Carry a b) x y) (h : Bears x a b (Elsewhere n c)) where
    abbrev Far : List Event
    Far = head_of script honest x a b (Elsewhere n c) h g.number

    abbrev Before : Vat Name
    Before = Start script honest x a b (Elsewhere n c) h

    bears : BearsElsewhere script honest x a b n c
    bears = record { borne = h; sender = all a; receiver = all b; third = all c; waiters = λ i. inl all }

    far_inner : (t : Vat Name) → Arrival script honest x a b (Elsewhere n c) h ≡ Gives tt t → Tale script honest (middle x b Far Before) (middle x b Far t)
    unfolding names_of bears
    far_inner t e = let to = far.came script once knows g.opened x y g.es 1 a b c n (so_far (Carry a b) g) g.opens g.before g.after honest bears in
        subst (λ q. Tale script honest (middle x b Far Before) (middle x b Far q)) (gives_same to.0 t (sym to.2 ∙ e))
        (elsewhere_tale script once knows g.opened x y g.es 1 a b n (so_far (Carry a b) g) g.opens g.before g.after honest all Far c bears (elsewhere_quiet g.number a b c n _))

    elsewhere : Tale script honest x y
    elsewhere = silent_tale script honest x a b (Elsewhere n c) h tt g.number y far_inner g.goes

pub elsewhere_are_tales : ElsewhereAreTales
elsewhere_are_tales script once knows follow honest all n c x y a b g h = elsewhere script once knows follow honest all n c x y a b g h
