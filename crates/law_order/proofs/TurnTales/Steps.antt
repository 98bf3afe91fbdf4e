-- A step in which a vat takes a message, and its opening turn, by what the vat does in the middle of it.
use Rattle.std.proofs.Common.{◌≡◌, ℕ, Bool, List, [], ◌∷◌, Some, refl, sym, ap, subst, ◌∙◌}
use Rattle.std.specs.Prelude.{slice_get}
use Rattle.def_machine.specs.Values.{Name, Root}
use Rattle.def_machine.specs.State.{Message, Vat, Done, Gives}
use Rattle.def_machine.specs.Eval.{opening, taking}
use Rattle.def_run.specs.World as world
use Rattle.def_run.specs.World.{Script, Program, Turn, Event, Turned, Opens, World, Goes, names, readied}
use Rattle.law_order.specs.History.Lines.{AllQuiet, counts}
use Rattle.law_order.specs.History.Takes.{taken_state}
use Rattle.law_order.specs.History.Tells.{Tale, over, then_on}
use Rattle.law_order.specs.Tales.Middle.{middle}
use Rattle.law_order.proofs.Tales.Arriving.{ended_is}
use Rattle.law_order.proofs.Tales.Begun.{begin_small, ended, end_small, tale_both}
use Rattle.law_order.proofs.TurnTales.Acts.{take_goes}

module _ (script : Script) (honest : ℕ → Bool) (w : World) (v : ℕ) (s : Vat Name) (there : slice_get w.vats v ≡ Some s) where
  -- from the begin of the step to its end, where the vat goes from the state in which it begins
  module _ (head : List Event) (quiet : AllQuiet head) where
    abbrev Within : Vat Name → Vat Name → Type 0
    Within t u = Tale script honest (middle w v head t) (middle w v head u)

    pub whole : (k : ℕ) (y : World) (d : Done Name (Unit {0})) → ((t : Vat Name) → d ≡ Gives tt t → Within (readied w s) t) → world.put_back v w head k d ≡ Goes y → Tale script honest w y
    whole k y d inner e = go (ended_is w y v head k d e)
      where
        go : (t : Vat Name) × (d ≡ Gives tt t) × (ended w v head t ≡ y) → Tale script honest w y
        go (t, f, same) = then_on (begin_small script honest w v head s there quiet)
            (tale_both script honest (middle w v head (readied w s)) (middle w v head t) y (inner t f)
            (subst (λ z. Tale script honest (middle w v head t) z) same (then_on (end_small script honest w v head t) over)))

  -- ---- a turn

  module _ (m : Message Name) (ms : List (Message Name)) (first : s.queue ≡ m ∷ ms) (k : ℕ) where
    abbrev pub turn_head : List Event
    turn_head = Turned k v ∷ []

    -- the vat as it begins with the message taken off its queue, and as that is told
    abbrev pub Taking : Vat Name
    Taking = readied w (record s { queue = ms })

    abbrev pub Taken : Vat Name
    Taken = taken_state s.activations m ms (readied w s)

    pub turn_is : world.step script (Turn v) k w ≡ world.put_back v w turn_head (world.step_number script k) (taking (names script v) (world.tree_at script.vats v) script.depth m Taking)
    unfolding world.step world.turn world.turn_queue world.within
    turn_is = ap (λ o. world.turn script k v w o) there ∙ ap (λ q. world.turn_queue script k v w s q) first

    turn_quiet : AllQuiet turn_head
    unfolding counts
    turn_quiet = (refl, tt)

    took : Tale script honest (middle w v turn_head (readied w s)) (middle w v turn_head Taken)
    unfolding readied
    took = take_goes script honest w v turn_head s.activations s (readied w s) m ms there first

    -- It is by small steps, where it is so from the message that is taken on.
    pub turn_tale : ((t : Vat Name) → taking (names script v) (world.tree_at script.vats v) script.depth m Taking ≡ Gives tt t → Tale script honest (middle w v turn_head Taken) (middle w v turn_head t)) → (y : World) → world.step script (Turn v) k w ≡ Goes y → Tale script honest w y
    turn_tale inner y e = whole turn_head turn_quiet (world.step_number script k) y (taking (names script v) (world.tree_at script.vats v) script.depth m Taking)
        (λ t f. tale_both script honest (middle w v turn_head (readied w s)) (middle w v turn_head Taken) (middle w v turn_head t) took (inner t f)) (sym turn_is ∙ e)

  -- ---- an opening turn

  module _ (p : Program) where
    abbrev pub open_head : List Event
    open_head = Opens v ∷ []

    pub open_is : world.open_vat script v p w ≡ world.put_back v w open_head v (opening (names script v) p.tree script.depth (Root v) (world.given script.vats p.knows) (readied w s))
    unfolding world.open_vat world.within
    open_is = ap (λ o. world.within v w open_head v (opening (names script v) p.tree script.depth (Root v) (world.given script.vats p.knows)) o) there

    open_quiet : AllQuiet open_head
    unfolding counts
    open_quiet = (refl, tt)

    pub opening_tale : ((t : Vat Name) → opening (names script v) p.tree script.depth (Root v) (world.given script.vats p.knows) (readied w s) ≡ Gives tt t → Tale script honest (middle w v open_head (readied w s)) (middle w v open_head t)) → (y : World) → world.open_vat script v p w ≡ Goes y → Tale script honest w y
    opening_tale inner y e = whole open_head open_quiet v y (opening (names script v) p.tree script.depth (Root v) (world.given script.vats p.knows) (readied w s)) inner (sym open_is ∙ e)
