-- What receiving a note keeps, and when it is the arrival.
use Rattle.std.proofs.Common.{◌≡◌, ℕ, Bool, true, false, refl, ap, ◌∙◌}
use Rattle.def_machine.specs.Values.{Naming}
use Rattle.def_machine.specs.State.{Note, Vat, Done, Gives, ◌>>=◌, and_then, look, give}
use Rattle.def_machine.specs.Arrive.{Incoming, arrive}
use Rattle.def_machine.specs.Receive.{Sight, tells_nothing, leads_back, break_back, receive_by, receive}
use Rattle.law_machine.specs.Machine.Steps.{After}
use Rattle.law_machine.specs.Machine.Laws.{NoMoreFuel, SameObjects, SameResolvers, DeadEjectors, DeadAuditions, SameLists, SameGuards, SameNames, SameMails, SameDraws, SettledStays, BrokenStays, NoticedStays, AddsAtEnd}
use Rattle.law_machine.specs.Machine.Receiving.{UndoesNothing, Receiving, Ignored, BrokenBack, Arrived}
use Rattle.law_machine.proofs.Machine.Keeps.{IsKept, IsKeptUnder}
use Rattle.law_machine.proofs.Machine.ArriveKeeps.{keeps_receive}
use Rattle.law_machine.proofs.Machine.StepLaws.{fuel_law, fuel_names, objects_law, objects_names, resolvers_law, resolvers_names, ejectors_law, ejectors_names, auditions_law, auditions_names, lists_law, lists_names, mails_law, mails_names, draws_law, draws_names, guards_law, guards_names, names_law, names_names, settled_law, settled_names, broken_from, noticed_law, noticed_names, history_law, history_names, after_map}

all : {N W A : Type 0} (K : Naming N W) (s : Vat N) (x : Done N A) → After NoMoreFuel s x → After SameObjects s x → After SameResolvers s x → After DeadEjectors s x → After DeadAuditions s x → After SameLists s x → After SameGuards s x → After SameNames s x → After SameMails s x → After SameDraws s x → After (SettledStays K) s x → After (BrokenStays K) s x → After NoticedStays s x → After AddsAtEnd s x → After (UndoesNothing K) s x
all K s (Gives y t) f o r e a l g n m d p b c h = (f, o, r, e, a, l, g, n, m, d, p, b, c, h)
all K s other f o r e a l g n m d p b c h = (f, o, r, e, a, l, g, n, m, d, p, b, c, h)

module _ {N W : Type 0} (K : Naming N W) (sight : Sight N) (from : ℕ) (n : Note (Incoming N W)) (s : Vat N) where
  abbrev D : Done N (Unit {0})
  D = receive K sight from n s

  kept : (R : Vat N → Vat N → Type 0) → IsKept R → IsKeptUnder K R → After R s D
  kept R base law = (keeps_receive K R base law sight from n).after s

  pub undoes_nothing : After (UndoesNothing K) s D
  undoes_nothing = let settled = kept (SettledStays K) (settled_law K) (settled_names K) in all K s D
      (kept NoMoreFuel fuel_law (fuel_names K))
      (kept SameObjects objects_law (objects_names K))
      (kept SameResolvers resolvers_law (resolvers_names K))
      (kept DeadEjectors ejectors_law (ejectors_names K))
      (kept DeadAuditions auditions_law (auditions_names K))
      (kept SameLists lists_law (lists_names K))
      (kept SameGuards guards_law (guards_names K))
      (kept SameNames names_law (names_names K))
      (kept SameMails mails_law (mails_names K))
      (kept SameDraws draws_law (draws_names K))
      settled
      (after_map (SettledStays K) (BrokenStays K) s D (λ t h. broken_from K s t h) settled)
      (kept NoticedStays noticed_law (noticed_names K))
      (kept AddsAtEnd history_law (history_names K))

  abbrev by : Bool → Bool → Done N (Unit {0})
  by a b = receive_by K a b from n s

  is_by : D ≡ by (tells_nothing K sight from n s) (leads_back K sight n s)
  unfolding receive ◌>>=◌ look and_then
  is_by = refl

  pub does_nothing : tells_nothing K sight from n s ≡ true → D ≡ Gives tt s
  unfolding receive_by give
  does_nothing e = is_by ∙ ap (λ a. by a (leads_back K sight n s)) e

  pub it_arrives : tells_nothing K sight from n s ≡ false → leads_back K sight n s ≡ false → D ≡ arrive K from n s
  unfolding receive_by
  it_arrives e f = is_by ∙ ap (λ a. by a (leads_back K sight n s)) e ∙ ap (λ b. by false b) f

  it_breaks : tells_nothing K sight from n s ≡ false → leads_back K sight n s ≡ true → D ≡ break_back K n s
  unfolding receive_by
  it_breaks e f = is_by ∙ ap (λ a. by a (leads_back K sight n s)) e ∙ ap (λ b. by false b) f

  by_cases : (a b : Bool) → tells_nothing K sight from n s ≡ a → leads_back K sight n s ≡ b → Receiving K sight from n s
  by_cases true b e f = Ignored e (does_nothing e)
  by_cases false true e f = BrokenBack e f (it_breaks e f)
  by_cases false false e f = Arrived e f (it_arrives e f)

  -- a receiving is one of three
  pub each_receiving : Receiving K sight from n s
  each_receiving = by_cases (tells_nothing K sight from n s) (leads_back K sight n s) refl refl
