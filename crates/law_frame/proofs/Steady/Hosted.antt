-- What a vat has for another by position is of that one, and what that one asked for is the vat's own, on each link that is not cut.
use Rattle.std.proofs.Common.{◌≡◌, ℕ, zero, false, List, [], ◌∷◌, ◌++◌, Some, subst, ◌∙◌, sym}
use Rattle.std.specs.Prelude.{slice_get}
use Rattle.def_machine.specs.Values.{Name, Sent, host_of}
use Rattle.def_machine.specs.State.{Vat}
use Rattle.def_run.specs.Wire.{connected_at}
use Rattle.def_run.specs.World as machine
use Rattle.def_run.specs.World.{Script, Entry, Link, World, Goes, link_at}
use Rattle.law_fate.specs.Name.Names.{AllOf}
use Rattle.law_fate.specs.Name.Runs.{KnowsOnce}
use Rattle.law_reference.specs.Reference.Cuts.{NoticesFollowCuts}
use Rattle.law_reference.specs.Reference.Logs.{exports, questions}
use Rattle.law_reference.proofs.Reference.LegMoves.{stepped_before}
use Rattle.law_reference.proofs.Reference.LegRuns.{self_none}
use Rattle.law_reference.proofs.Reference.NameTableLaws.{positions_are_of_one_name}
use Rattle.law_frame.proofs.Frame.WireLaws.{questions_hosted}
use Rattle.law_frame.proofs.Heard.Laws.{as_logged, imports_front, answers_front}

first_all : {A : Type 0} (P : A → Type 0) (xs ys : List A) → AllOf P (xs ++ ys) → AllOf P xs
first_all P [] ys h = tt
first_all P (x ∷ xs) ys h = (h.0, first_all P xs ys h.1)

-- of the link from v to u
abbrev pub Hosted : World → Type 0
Hosted w = (v u : ℕ) (r s : Vat Name) → slice_get w.vats v ≡ Some r → slice_get w.vats u ≡ Some s → (v ≡ u → ⊥) → (l : Link) → link_at v u w.links ≡ Some l → l.cut ≡ false
    → AllOf (λ n. host_of n ≡ v) (connected_at u v w.connections).tables.imports × AllOf (λ n. host_of n ≡ u) (connected_at u v w.connections).tables.answers

-- no link leads from a vat to itself
abbrev pub Apart : World → Type 0
Apart w = (u : ℕ) (l : Link) → link_at u u w.links ≡ Some l → ⊥

module _ (script : Script) (once : KnowsOnce script) (w x : World) (es : List Entry) (opened : machine.open_from script zero script.vats (machine.begins script) ≡ Goes w) (stepped : machine.steps_from script es 1 w ≡ Goes x) where
  pub apart_so : Apart x
  apart_so u l e = let b = stepped_before script once w x es 1 opened stepped in let counted = b.counted in let fated = counted.fated (Sent (record { sender = 0; number = 0 })) in self_none x.links fated.apart u l e

  pub hosted_so : NoticesFollowCuts es → Hosted x
  hosted_so follow v u r s there gone other l at uncut =
      let logged = as_logged script once w x es 1 follow opened stepped v u r s there gone other l at uncut in
      let is = imports_front script once w x es 1 follow opened stepped v u r s there gone other l at uncut in
      let qs = answers_front script once w x es 1 follow opened stepped v u r s there gone other l at uncut in
      let told : AllOf (λ n. host_of n ≡ v) (exports (λ i. i) x.links v u) = ((positions_are_of_one_name (λ i. i) script).1 w x es 1 opened stepped v u).1 in
      let asked : AllOf (λ n. host_of n ≡ u) (questions (λ i. i) x.links v u) = (questions_hosted script once).1 w x es 1 opened stepped v u in (
        first_all (λ n. host_of n ≡ v) (connected_at u v x.connections).tables.imports is.0 (subst (AllOf (λ n. host_of n ≡ v)) (sym logged.exports ∙ is.1) told),
        first_all (λ n. host_of n ≡ u) (connected_at u v x.connections).tables.answers qs.0 (subst (AllOf (λ n. host_of n ≡ u)) (sym logged.questions ∙ qs.1) asked),
      )
