-- Every step of a vat keeps that, where what the turn, the note or the opening resolves may settle.
use Rattle.std.proofs.Common.{ℕ, sym, subst, ◌∙◌}
use Rattle.def_machine.specs.Values.{Name, Broken, Naming, naming, name_of}
use Rattle.def_machine.specs.State.{Vat, Done, Gives, Ejects, Act}
use Rattle.def_machine.specs.Refs.{settle, resolve}
use Rattle.law_machine.specs.Machine.Steps.{Step, Opens, Takes, Receives, Notices, does, After}
use Rattle.law_machine.proofs.Machine.Walks.{Holds}
use Rattle.law_fate.specs.Name.Names.{AllOf, HostIsTrue}
use Rattle.law_reference.proofs.Reference.OwnTurns.{where_map}
use Rattle.law_frozen.specs.Frozen.{IsPromised, Sound}
use Rattle.law_frozen.specs.Laws.{StepWell}
use Rattle.law_frozen.proofs.Fine.{Keeper, Loose, Quiet, Fact, AreNouns, IsMessage, nothing, Ends, Fine, got_itself}
use Rattle.law_frozen.proofs.Serves.{Serves, Closing, served_by, closing_by}
use Rattle.law_frozen.proofs.FineEval.{fine_opening, fine_taking}
use Rattle.law_frozen.proofs.Reach.{global_spots}
use Rattle.law_instance.proofs.Told.Kept.{Rule, Holdings, MayAnswer, Entry, Kept, Leaves}
use Rattle.law_instance.proofs.Told.Rests as rests

module _ (word : ℕ → ℕ) (v : ℕ) (R : Rule v) where
  abbrev May : Name → Type 0
  May n = R.May n

  abbrev K : Naming Name Name
  K = naming word v

  abbrev Well : Vat Name → Type 0
  Well s = Kept word v R s

  -- ---- with it the vat is sound, in which each resolver is of a promise that the vat made

  abbrev plain : Keeper K
  plain = record { holds = λ s. Sound K s; sound = λ s h. h; quiet = λ s t q h i. i }

  loose : Loose K plain
  loose = record { any = λ s t h i. i }

  quiet_well : (s t : Vat Name) → Quiet s t → Well s → Well t
  quiet_well s t q h = (q.0 ∙ h.0, subst (λ ks. AllOf (Entry word v R) ks) (sym q.1) h.1, subst (λ ms. AllOf (MayAnswer word v R) ms) (sym q.4) h.2, subst (λ gs. Holdings v R gs t.noticed) (sym q.7) (subst (λ ws. Holdings v R s.gifts ws) (sym q.2) h.3))

  abbrev both : Keeper K
  both = record { holds = λ s. Sound K s × Well s; sound = λ s h. h.0; quiet = λ s t q h i. (i, quiet_well s t q h.1) }

  joined : {A : Type 0} (G : A → Fact Name) (s : Vat Name) (d : Done Name A) → Ends K plain G s d → Leaves word v R (λ a. Unit {0}) d → Ends K both G s d
  joined G s (Gives a t) h k = (h.0, (h.1, k.0), h.2)
  joined G s (Ejects n x t) h k = (h.0, (h.1, k), h.2)
  joined G s other h k = (h.0, (h.1, k))

  fine_both : {A : Type 0} {C : Fact Name} {m : Act Name A} {G : A → Fact Name} → Fine K plain C m G → Holds (rests.Keeps word v R) m → Fine K both C m G
  fine_both {m = m} {G = G} f h = record { after = λ s k c. joined G s (m s) (f.after s k.0 c) (h.after s k.1) }

  promised_may : (p : Name) → IsPromised K p → May p
  unfolding naming name_of
  promised_may p h = subst May (sym h.2) (R.promises h.0)

  serves : Serves K both
  serves = let base = served_by K plain loose in record {
    promises = λ C. fine_both (base.promises C) (rests.rest_promise word v R);
    smashes = λ C p t own s h c e. joined nothing s (settle K p (Broken t) s) (base.smashes C p t own s h.0 c e) ((rests.rest_break word v R p t (promised_may p (own.at s.things s.lists c))).after s h.1);
    resolves = λ C p y own g s h c e. joined nothing s (resolve K p y s) (base.resolves C p y own g s h.0 c e) ((rests.rest_resolve word v R p y (promised_may p (own.at s.things s.lists c))).after s h.1);
    sends = λ C act x g verb args h. fine_both (base.sends C act x g verb args h) (rests.rest_send word v R act x verb args);
    sends_only = λ C act x g verb args h. fine_both (base.sends_only C act x g verb args h) (rests.rest_send_only word v R act x verb args);
    reacts = λ C act x g o h near k. fine_both (base.reacts C act x g o h near k) (rests.rest_reacts word v R act x o near);
  }

  closing : (p : Name) → May p → Closing K both p
  closing p may = let base = closing_by K plain loose p in record {
    breaks = λ C t. fine_both (base.breaks C t) (rests.rest_break word v R p t may);
    closes = λ C y g. fine_both (base.closes C y g) (rests.rest_resolve word v R p y may);
  }

  -- ---- steps

  -- what a step resolves may settle
  abbrev pub StepMay : Step Name Name → Type 0
  StepMay (Opens tree depth root given) = May root
  StepMay (Takes tree depth m) = MayAnswer word v R m
  StepMay (Receives from n) = rests.NoteMay word v R from n
  StepMay (Notices w) = R.Out w

  ends_well : (G : Unit {0} → Fact Name) (s : Vat Name) (d : Done Name (Unit {0})) → Ends K both G s d → After (λ r t. Well t) s d
  ends_well G s (Gives a t) h = h.1.1
  ends_well G s other h = h.1.1

  leaves_well : (s : Vat Name) (d : Done Name (Unit {0})) → Leaves word v R (λ a. Unit {0}) d → After (λ r t. Well t) s d
  leaves_well s (Gives a t) h = h.0
  leaves_well s other h = h

  pub step_keeps : (step : Step Name Name) (s : Vat Name) → StepMay step → AllOf HostIsTrue s.known → Sound K s → StepWell K s step → Well s → After (λ r t. Well t) s (does K step s)
  unfolding does
  step_keeps (Opens tree depth root given) s may hosts sound well h = ends_well nothing s _ ((fine_opening K both serves (global_spots word v) tree {C = AreNouns given} depth root (closing root may) given (got_itself K (AreNouns given))).after s (sound, h) well)
  step_keeps (Takes tree depth m) s may hosts sound well h = ends_well nothing s _ ((fine_taking K both serves (global_spots word v) tree {C = IsMessage m} depth m (where_map May (Closing K both) closing m.answer may) (got_itself K (IsMessage m))).after s (sound, h) well)
  step_keeps (Receives from n) s may hosts sound well h = leaves_well s _ ((rests.rest_arrive word v R from n may).after s h)
  step_keeps (Notices w) s may hosts sound well h = leaves_well s _ (rests.rest_notice word v R w may s hosts h)
