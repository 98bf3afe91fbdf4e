-- Each kind of entry is made of small steps, so each run is in order.
use Rattle.std.proofs.Common.{◌≡◌, ℕ, Bool, true, [], ◌∷◌, ◌++◌, refl, sym, subst, ◌∙◌}
use Rattle.std.proofs.lemmas.List.{append_assoc}
use Rattle.def_machine.specs.Values.{Name}
use Rattle.def_machine.specs.State.{Note, Deliver, Open, Ask, SettledTo, Elsewhere, Shorten}
use Rattle.def_run.specs.World.{Script, NoticeLink}
use Rattle.law_fate.specs.Fates.WholeFateRuns.{KnowsVats}
use Rattle.law_fate.specs.Name.Runs.{KnowsOnce}
use Rattle.law_reference.specs.Reference.Cuts.{NoticesFollowCuts}
use Rattle.law_reference.proofs.Reference.AskHolds.{notices_front}
use Rattle.law_order.proofs.History.Tales.{tales_are_ordered}
use Rattle.law_order.specs.Tales.Entries.{CarriesAreTales, NoticesAreTales, OfScripts}
use Rattle.law_order.specs.Tales.Middle.{DeliversNothing}
use Rattle.law_order.proofs.Tales.Entries.{kinds_are_enough}
use Rattle.law_order.proofs.NoticeTales.Small.{notice_tales}
use Rattle.law_order.proofs.AskTales.AskTales.{asks_are_tales}
use Rattle.law_order.proofs.AskTales.Shortens.{shortens_are_tales}
use Rattle.law_order.proofs.MessageTales.Runs.{carries_of_messages_are_tales}
use Rattle.law_order.proofs.NewsTales.Laws.{elsewhere_are_tales}
use Rattle.law_order.proofs.OpenTales.Laws.{opens_are_tales}
use Rattle.law_order.proofs.SettledTales.Laws.{settled_carries_are_tales}
use Rattle.law_order.proofs.TurnTales.Whole.{turns_are_tales, openings_are_tales}
use Rattle.law_order.specs.Whole.Ordered.{RunsAreOrdered}

notices_are_tales : OfScripts NoticesAreTales
notices_are_tales script once vats cuts honest all x y v u g =
    let follow : NoticesFollowCuts (g.es ++ NoticeLink v u ∷ []) = notices_front script [] (g.es ++ NoticeLink v u ∷ []) g.rest (subst NoticesFollowCuts (g.split ∙ sym (append_assoc g.es (NoticeLink v u ∷ []) g.rest)) cuts) in
    notice_tales script once g.opened x y g.es 1 v u follow g.opens g.before g.after honest (all v) (all u)

module _ (script : Script) (once : KnowsOnce script) (vats : KnowsVats script) (cuts : NoticesFollowCuts script.schedule) (honest : ℕ → Bool) (all : (v : ℕ) → honest v ≡ true) where
  carries : (n : Note Name) → DeliversNothing n → CarriesAreTales script honest n
  carries (Deliver d n verb ys) silent = absurd silent
  carries (Open i n) silent = opens_are_tales script once vats cuts honest all i n
  carries (Ask p i n) silent = asks_are_tales script once vats cuts honest all p i n
  carries (SettledTo n y) silent = settled_carries_are_tales script once vats cuts honest all n y
  carries (Elsewhere n c) silent = elsewhere_are_tales script once vats cuts honest all n c
  carries (Shorten n c i) silent = shortens_are_tales script once vats cuts honest all n c i

pub runs_are_ordered : RunsAreOrdered
runs_are_ordered script once vats cuts =
    let honest : ℕ → Bool = λ v. true in let all : ((v : ℕ) → honest v ≡ true) = λ v. refl in
    tales_are_ordered script honest (kinds_are_enough script honest (record {
      opening = openings_are_tales script once vats cuts honest all;
      turns = turns_are_tales script once vats cuts honest all;
      messages = carries_of_messages_are_tales script once vats cuts honest all;
      carries = carries script once vats cuts honest all;
      notices = notices_are_tales script once vats cuts honest all;
    }))
