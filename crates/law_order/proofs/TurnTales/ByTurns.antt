-- Turns that take a message are made of small steps in every run, where of each what more is kept is shown.
use Rattle.std.proofs.Common.{◌≡◌, ℕ, Bool, true, List, [], ◌∷◌, ◌++◌, Some, sym, ap, subst, ◌∙◌}
use Rattle.std.specs.Prelude.{slice_get}
use Rattle.def_machine.specs.Values.{Name, Promise}
use Rattle.def_machine.specs.State.{Message, Resolver, Vat, Gives}
use Rattle.def_machine.specs.Eval.{taking}
use Rattle.def_run.specs.World as world
use Rattle.def_run.specs.World.{Script, Entry, Turn, World, Goes, names, readied}
use Rattle.law_fate.specs.Name.Runs.{KnowsOnce}
use Rattle.law_fate.proofs.Name.Among.{get_put}
use Rattle.law_fate.specs.Fates.WholeFateRuns.{KnowsVats}
use Rattle.law_reference.specs.Reference.Cuts.{NoticesFollowCuts}
use Rattle.law_reference.proofs.Reference.AskHolds.{notices_front}
use Rattle.law_order.specs.History.Tells.{Tale}
use Rattle.law_order.specs.Tales.Entries.{GoesBy, TurnsAreTales, OfScripts}
use Rattle.law_order.proofs.Tales.Begun.{ended}
use Rattle.law_order.proofs.Turns.Resolvers.{own_resolver}
use Rattle.law_order.proofs.TurnTales.Steps.{turn_is, turn_tale}
use Rattle.law_order.proofs.TurnTales.TurnRuns.{Kept, head_of, turn_goes}

pub same_world : (x y : World) → Goes x ≡ Goes y → x ≡ y
same_world x y e = cc

-- the notices of the entries before it follow their cuts
pub front_follows : (script : Script) (es rest : List Entry) → script.schedule ≡ es ++ rest → NoticesFollowCuts script.schedule → NoticesFollowCuts es
front_follows script es rest e f = notices_front script [] es rest (subst NoticesFollowCuts e f)

module _ (script : Script) (once : KnowsOnce script) (follow : NoticesFollowCuts script.schedule) (honest : ℕ → Bool) (all : (u : ℕ) → honest u ≡ true) (x y : World) (v : ℕ) (s : Vat Name) (m : Message Name) (ms : List (Message Name)) (g : GoesBy script (Turn v) x y) (there : slice_get x.vats v ≡ Some s) (first : s.queue ≡ m ∷ ms) where
  -- what is to be shown of the turn, which ended in that state
  abbrev pub Shown : Vat Name → Type 1
  Shown t = Kept script once honest all g.opened x g.es 1 (front_follows script g.es (Turn v ∷ g.rest) g.split follow) g.opens g.before v s there m ms first g.number t

  module _ (shown : (t : Vat Name) → slice_get y.vats v ≡ Some t → Shown t) where
    module _ (t : Vat Name) (e : taking (names script v) (world.tree_at script.vats v) script.depth m (readied x (record s { queue = ms })) ≡ Gives tt t) where
      is_end : ended x v (head_of g.number v) t ≡ y
      unfolding world.put_back
      is_end = same_world (ended x v (head_of g.number v) t) y (sym (ap (world.put_back v x (head_of g.number v) (world.step_number script g.number)) e) ∙ (sym (turn_is script honest x v s there m ms first g.number) ∙ g.goes))

      at_end : slice_get y.vats v ≡ Some t
      at_end = subst (λ (z : World). slice_get z.vats v ≡ Some t) is_end (get_put x.vats v s t there)

      resolvers : (i : ℕ) (p : Name) → slice_get t.things i ≡ Some (Resolver p) → (j : ℕ) × (p ≡ Promise v j)
      resolvers i p f = let o = own_resolver script once g.opened y (g.es ++ Turn v ∷ []) 1 g.opens g.after v t at_end i p f in (o.0, o.1)

    pub turn_by : Tale script honest x y
    turn_by = turn_tale script honest x v s there m ms first g.number
        (λ t e. turn_goes script once honest all g.opened x g.es 1 (front_follows script g.es (Turn v ∷ g.rest) g.split follow) g.opens g.before v s there m ms first g.number t (shown t (at_end t e)) (resolvers t e) (world.tree_at script.vats v) script.depth e) y g.goes

-- What is to be shown of every turn of every script that is read.
abbrev pub TurnsAreShown : Type 1
TurnsAreShown = (script : Script) (once : KnowsOnce script) → KnowsVats script → (follow : NoticesFollowCuts script.schedule) (honest : ℕ → Bool) (all : (u : ℕ) → honest u ≡ true) (x y : World) (v : ℕ) (s : Vat Name) (m : Message Name) (ms : List (Message Name)) (g : GoesBy script (Turn v) x y) (there : slice_get x.vats v ≡ Some s) (first : s.queue ≡ m ∷ ms)
    → (t : Vat Name) → slice_get y.vats v ≡ Some t → Shown script once follow honest all x y v s m ms g there first t

pub turns_by : TurnsAreShown → OfScripts TurnsAreTales
turns_by shown script once vats follow honest all x y v s m ms g there first = turn_by script once follow honest all x y v s m ms g there first (shown script once vats follow honest all x y v s m ms g there first)
