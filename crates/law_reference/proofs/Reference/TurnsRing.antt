-- Opening turns and turns make no list lead back to itself.
use Rattle.std.proofs.Common.{◌≡◌, ℕ, true, [], refl}
use Rattle.def_machine.specs.Values.{Name}
use Rattle.def_machine.specs.State.{Vat, Done, Gives}
use Rattle.law_machine.specs.Machine.Steps.{Step, Opens, Takes, does, After}
use Rattle.law_frozen.specs.Frozen.{Sound}
use Rattle.law_frozen.specs.Laws.{StepWell}
use Rattle.law_frozen.proofs.Fine.{Fact, nothing, AreNouns, IsMessage, Ends, got_itself}
use Rattle.law_frozen.proofs.FineEval.{fine_opening, fine_taking}
use Rattle.law_frozen.proofs.Reach.{global_spots}
use Rattle.law_reference.proofs.Reference.OwnTurns.{where_map}
use Rattle.law_reference.specs.Reference.ListRingless.{Ringless, TellsSo, IsOwnTurn, TurnsKeep, TurnsCloseNoRing}
use Rattle.law_reference.proofs.Reference.Kept.{K, keeper}
use Rattle.law_reference.proofs.Reference.RefsRing.{serving, closing_own}

module _ (word : ℕ → ℕ) (v : ℕ) (D : ℕ → Type 0) (Seen : Name → Type 0) where
  abbrev Ended : Vat Name → Type 0
  Ended t = Sound (K word v) t × Ringless (K word v) v D Seen t.noticed t × TellsSo (K word v) D t

  ends_after : {A : Type 0} (G : A → Fact Name) (s : Vat Name) (d : Done Name A) → Ends (K word v) (keeper word v true D Seen []) G s d → After (λ r t. Ended t) s d
  ends_after G s (Gives a t) h = (h.1.0, h.1.1, h.1.2)
  ends_after G s other h = (h.1.0, h.1.1, h.1.2)

  keeps : (step : Step Name Name) (s : Vat Name) → IsOwnTurn v D step → Sound (K word v) s → StepWell (K word v) s step → TellsSo (K word v) D s → Ringless (K word v) v D Seen s.noticed s → After (λ r t. Ended t) s (does (K word v) step s)
  unfolding does
  keeps (Opens tree depth root given) s own sound well tells r = ends_after nothing s _ ((fine_opening (K word v) (keeper word v true D Seen []) (serving word v true D Seen refl) (global_spots word v) tree {C = AreNouns given} depth root (closing_own word v true D Seen refl root own) given (got_itself (K word v) (AreNouns given))).after s (sound, r, tells, tt) well)
  keeps (Takes tree depth m) s own sound well tells r = ends_after nothing s _ ((fine_taking (K word v) (keeper word v true D Seen []) (serving word v true D Seen refl) (global_spots word v) tree {C = IsMessage m} depth m (where_map _ _ (λ p h. closing_own word v true D Seen refl p h) m.answer own) (got_itself (K word v) (IsMessage m))).after s (sound, r, tells, tt) well)
  keeps other s own sound well tells r = absurd own

pub turns_keep : (D : ℕ → Type 0) (Seen : Name → Type 0) → TurnsKeep D Seen
turns_keep D Seen word v step s own sound well tells r = keeps word v D Seen step s own sound well tells r

pub turns_close_no_ring : TurnsCloseNoRing
turns_close_no_ring D Seen = turns_keep (λ i. D i ≡ true) (λ n. Seen n ≡ true)
