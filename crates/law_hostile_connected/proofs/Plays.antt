-- Connectivity in each configuration of a run with a hostile vat.
use Rattle.std.proofs.Common.{◌≡◌, ℕ, List, [], Some, refl, ap, subst, inl, inr}
use Rattle.std.specs.Prelude.{slice_get}
use Rattle.def_machine.specs.Values.{Name}
use Rattle.def_machine.specs.State.{Message, Note, Vat}
use Rattle.def_machine.specs.Receive.{Sight}
use Rattle.law_machine.specs.Machine.Steps.{Step, Receives, After, does}
use Rattle.def_run.specs.World.{World, names, names_of, read_note, readied}
use Rattle.def_hostile.specs.Hostile.{Play}
use Rattle.law_uses.specs.Connectivity.Connected.{Connected, held_from}
use Rattle.law_uses.specs.Connectivity.Runs.{NothingLive}
use Rattle.law_uses.proofs.Connectivity.FineSteps.{steps_connect}
use Rattle.law_uses.proofs.Connectivity.FineRuns.{own_spots}
use Rattle.law_scenes.proofs.Real.{scenes_are_real}
use Rattle.law_hostile_connected.specs.Connected.{InPlays, NothingLiveInPlays, StepsAreConnectedInPlays, ReceivedConnected, ReceivingIsConnectedInPlays, LinesAreConnectedInPlays}
use Rattle.law_scenes.proofs.Received.{Came, came}
use Rattle.law_hostile_connected.proofs.Lines.{WorldKnows, real_knows}

knows : InPlays WorldKnows
knows play h bad s c = real_knows play (scenes_are_real play h bad s c)

module _ (play : Play) (w : World) (still : NothingLive w) where
  -- any step, from a vat as it is made ready in a world of the same vats
  next : (v : ℕ) (s : Vat Name) → slice_get w.vats v ≡ Some s → (ms : List (Message Name)) (x : World) (step : Step Name Name) → After (λ a b. Connected (names play.script v) (held_from step a b) b.happened) (readied x (record s { queue = ms })) (does (names play.script v) step (readied x (record s { queue = ms })))
  unfolding readied
  next v s e ms x step = steps_connect (names play.script v) (own_spots play.script v) step (readied x (record s { queue = ms })) nothing_yet (λ i. still v s e i)
    where
      nothing_yet : (readied x (record s { queue = ms })).happened ≡ []
      nothing_yet = refl

  quiet : (s t : Vat Name) → t ≡ readied w s → t.happened ≡ []
  unfolding readied
  quiet s t e = ap (λ (q : Vat Name). q.happened) e

  receives : (v : ℕ) (s : Vat Name) → slice_get w.vats v ≡ Some s → (sight : Sight Name) (from : ℕ) (n : Note Name) (t : Vat Name) → Came play w v s from sight t n → ReceivedConnected play w v s from n t
  receives v s e sight from n t (inl i) = inl (quiet s t i)
  receives v s e sight from n t (inr (x, m, how, d)) = let step : Step Name Name = Receives from (read_note (names_of s) m) in
      inr (x, m, how, (d, subst (λ k. After (λ a b. Connected (names play.script v) (held_from step a b) b.happened) (readied x s) k) d (next v s e s.queue x step)))

pub nothing_live : NothingLiveInPlays
nothing_live play h bad s c = (knows play h bad s c).still

pub steps_are_connected : StepsAreConnectedInPlays
steps_are_connected play h bad s c v q e ms step = next play s.world (knows play h bad s c).still v q e ms s.world step

pub receiving_is_connected : ReceivingIsConnectedInPlays
receiving_is_connected play h bad s c v q e sight from n t r = receives play s.world (knows play h bad s c).still v q e sight from n t (came play s.world v q from sight t n r)

pub lines_are_connected : LinesAreConnectedInPlays
lines_are_connected play h bad s c = (knows play h bad s c).lines
