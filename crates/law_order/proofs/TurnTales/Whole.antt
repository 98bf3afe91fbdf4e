-- In every run turns and opening turns are made of small steps.
use Rattle.std.proofs.Common.{◌≡◌, ℕ, zero, ◌+◌, Bool, true, List, [], ◌∷◌, ◌++◌, Some, length, sym, subst, ◌∙◌, append_assoc, arith}
use Rattle.std.specs.Prelude.{slice_get}
use Rattle.def_machine.specs.Values.{Name}
use Rattle.def_machine.specs.State.{Vat}
use Rattle.def_run.specs.World as world
use Rattle.def_run.specs.World.{Script, Program, Turn, Event, World, Goes}
use Rattle.law_fate.specs.Fates.Fate.{one}
use Rattle.law_fate.specs.Fates.WholeFateRuns.{KnowsVats}
use Rattle.law_fate.proofs.Name.Run.{Stands}
use Rattle.law_reference.proofs.Reference.Moves.{opens_end}
use Rattle.law_order.specs.History.Told.{IsOfRun, opened, entered}
use Rattle.law_order.specs.Sending.Came.{Agrees}
use Rattle.law_order.specs.Sending.New.{IsBegun}
use Rattle.law_order.proofs.Sending.Agree.{worlds_agree}
use Rattle.law_order.proofs.Sending.Around.{around_of}
use Rattle.law_order.proofs.Sending.Counting.{turn_begins, opening_begins}
use Rattle.law_order.proofs.Sending.Sending.{Around}
use Rattle.law_order.specs.Tales.Entries.{TurnsAreTales, OpeningsAreTales, OfScripts}
use Rattle.law_order.proofs.TurnTales.Also.{Also}
use Rattle.law_order.proofs.TurnTales.AlsoKept.{quietly_also, promised_also}
use Rattle.law_order.proofs.TurnTales.ByOpenings.{OpeningsAreShown, openings_by}
use Rattle.law_order.proofs.TurnTales.ByTurns.{TurnsAreShown, turns_by}
use Rattle.law_order.proofs.TurnTales.Course.{Given}
use Rattle.law_order.proofs.TurnTales.OpenRuns.{open_head_of}
use Rattle.law_order.proofs.TurnTales.Sent.{sent_field, sent_only_field, reacted_field}
use Rattle.law_order.proofs.TurnTales.Settled as settled
use Rattle.law_order.proofs.TurnTales.Starts.{turn_starts, opening_starts}
use Rattle.law_order.proofs.TurnTales.TurnRuns.{head_of}

-- ---- the acts of a turn

module _ (script : Script) (vats : KnowsVats script) (honest : ℕ → Bool) (all : (u : ℕ) → honest u ≡ true) (w : World) (around : Around script w) (v : ℕ) (head : List Event) (came : Name → ℕ) (r q : Vat Name) (begins : IsBegun w v head came r q) (there : slice_get w.vats v ≡ Some r) (h : Stands script w)
    (end : Vat Name) (agrees : Agrees script v end) where
  given : Given script honest all w v r there h head end (Also script honest w v head came r q)
  unfolding world.names
  given = record {
    quietly = λ s fuel lines more acts things slots lists e none stay later also. quietly_also script honest w v head came r q s also fuel lines more acts things slots lists e none stay;
    promised = λ c o s sure steady later also. promised_also script honest w v head came r q s also;
    sent = sent_field script vats honest all w around v head came r q begins there h end agrees;
    sent_only = sent_only_field script vats honest all w around v head came r q begins there h end agrees;
    reacted = reacted_field script vats honest all w around v head came r q begins there h end agrees;
    broken = λ c o p x s t sure may steady e later more. settled.broken script honest all w around v head came r q begins there h end agrees c o p s t sure later more x e may steady;
    resolved = λ c o p y s t k sure ok found waits own loose steady e later more. settled.resolved script honest all w around v head came r q begins there h end agrees c o p s t sure later more y e k found waits own loose steady;
  }

-- ---- in runs

from_zero : (ps : List Program) → length ps ≡ zero + length ps
from_zero ps = omega arith

turns_are_shown : TurnsAreShown
turns_are_shown script once vats follow honest all x y v s m ms g there first t at =
    let before : IsOfRun script x = entered g.es (Turn v ∷ g.rest) g.opened g.split g.opens g.before in
    let after : IsOfRun script y = entered (g.es ++ Turn v ∷ []) g.rest g.opened (g.split ∙ sym (append_assoc g.es (Turn v ∷ []) g.rest)) g.opens g.after in
    let around = around_of script once x before in record {
      more = Also script honest x v (head_of g.number v) (λ z. one m.id z) s (record s { queue = ms });
      given = given script vats honest all x around v (head_of g.number v) (λ z. one m.id z) s (record s { queue = ms }) (turn_begins x v g.number s m ms there first) there _ t (worlds_agree script y after v t at);
      begins = turn_starts script once honest g.opened x g.es g.opens g.before around v s there m ms g.number;
    }

openings_are_shown : OpeningsAreShown
openings_are_shown script once vats follow honest all ps rest p w y split opens turns s there t at =
    let before : IsOfRun script w = opened ps (p ∷ rest) split opens in
    let after : IsOfRun script y = opened (ps ++ p ∷ []) rest (split ∙ sym (append_assoc ps (p ∷ []) rest)) (opens_end script ps p zero (world.begins script) w y opens (subst (λ z. world.open_vat script z p w ≡ Goes y) (from_zero ps) turns)) in
    let around = around_of script once w before in record {
      more = Also script honest w (length ps) (open_head_of (length ps)) (λ z. 0) s s;
      given = given script vats honest all w around (length ps) (open_head_of (length ps)) (λ z. 0) s s (opening_begins w (length ps) s there) there _ t (worlds_agree script y after (length ps) t at);
      begins = opening_starts script once honest ps (p ∷ rest) w split opens (length ps) (omega arith) s there;
    }

pub turns_are_tales : OfScripts (λ script honest. TurnsAreTales script honest)
turns_are_tales = turns_by turns_are_shown

pub openings_are_tales : OfScripts (λ script honest. OpeningsAreTales script honest)
openings_are_tales = openings_by openings_are_shown
