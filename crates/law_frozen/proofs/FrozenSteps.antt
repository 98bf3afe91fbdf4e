-- Every step of a vat from a sound state ends in a sound state.
use Rattle.std.proofs.Common.{◌≡◌, ℕ}
use Rattle.def_machine.specs.Values.{Naming, Own}
use Rattle.def_machine.specs.State.{Vat, Done, Gives}
use Rattle.law_machine.specs.Machine.Steps.{Step, Opens, Takes, Receives, Notices, does, After}
use Rattle.law_machine.proofs.Machine.Walks.{where_some}
use Rattle.law_frozen.specs.Frozen.{Sound}
use Rattle.law_frozen.specs.Laws.{StepWell, StaysSound}
use Rattle.law_frozen.proofs.Fine.{Keeper, Loose, Fact, Nothing, AreNouns, IsMessage, nothing, Ends, got_itself}
use Rattle.law_frozen.proofs.FineRefs.{loose_tells}
use Rattle.law_frozen.proofs.Serves.{Serves, Closing, served_by, closing_by}
use Rattle.law_frozen.proofs.FineArrive.{fine_arrive, fine_notice}
use Rattle.law_frozen.proofs.FineEval.{fine_opening, fine_taking}

-- what is kept is that the state is sound
plain : {N W : Type 0} (K : Naming N W) → Keeper K
plain K = record { holds = λ s. Sound K s; sound = λ s h. h; quiet = λ s t q h i. i }

loose : {N W : Type 0} (K : Naming N W) → Loose K (plain K)
unfolding plain
loose K = record { any = λ s t h i. i }

ends_sound : {N W A : Type 0} (K : Naming N W) (G : A → Fact N) (s : Vat N) (d : Done N A) → Ends K (plain K) G s d → After (λ _. Sound K) s d
unfolding plain
ends_sound K G s (Gives a t) h = h.1
ends_sound K G s other h = h.1

module _ {N W : Type 0} (K : Naming N W) (spots : (i : ℕ) → K.spot (K.object i) ≡ Own i) where
  abbrev M : Keeper K
  M = plain K

  serves : Serves K M
  serves = served_by K M (loose K)

  closing : (p : N) → Closing K M p
  closing p = closing_by K M (loose K) p

  pub keeps_sound : (step : Step N W) (s : Vat N) → Sound K s → StepWell K s step → After (λ _. Sound K) s (does K step s)
  unfolding does plain
  keeps_sound (Opens tree depth root given) s h w = ends_sound K nothing s _ ((fine_opening K M serves spots tree {C = AreNouns given} depth root (closing root) given (got_itself K (AreNouns given))).after s h w)
  keeps_sound (Takes tree depth m) s h w = ends_sound K nothing s _ ((fine_taking K M serves spots tree {C = IsMessage m} depth m (where_some _ closing m.answer) (got_itself K (IsMessage m))).after s h w)
  keeps_sound (Receives from n) s h w = ends_sound K nothing s _ ((fine_arrive K M (loose K) (loose_tells K M (loose K)) {C = Nothing} from n w).after s h tt)
  keeps_sound (Notices v) s h w = ends_sound K nothing s _ ((fine_notice K M (loose K) (loose_tells K M (loose K)) {C = Nothing} v).after s h tt)

pub stays_sound : {N W : Type 0} (K : Naming N W) (spots : (i : ℕ) → K.spot (K.object i) ≡ Own i) → StaysSound K
stays_sound K spots step s h w = keeps_sound K spots step s h w
