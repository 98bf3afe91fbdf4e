-- In the run that a call owes, what is broken or severed at a vat stays so, and a notice severs.
use Rattle.std.proofs.Common.{◌≡◌, ◌+◌, ◌++◌, ℕ, false, List, [], length, Option, Some, None, IfSome, sym, ◌∙◌, subst, append_assoc}
use Rattle.std.specs.Prelude.{slice_get}
use Rattle.def_machine.specs.Values.{Name}
use Rattle.def_machine.specs.State.{Vat, is_in}
use Rattle.def_run.specs.World as machine
use Rattle.def_run.specs.World.{World, names}
use Rattle.law_fate.proofs.Name.Laws.{severed_broken}
use Rattle.law_reference.specs.Reference.Cuts.{NoticesFollowCuts}
use Rattle.law_reference.proofs.Reference.AskHolds.{notices_front}
use Rattle.law_reference.proofs.Reference.RestLaws.{breaks_stay}
use Rattle.law_machine.specs.Machine.Breaks.{HostedBreak}
use Rattle.law_machine.specs.Run.Runs.{EachVat}
use Rattle.law_machine.proofs.Machine.BreakLaws.{nothing_of}
use Rattle.law_machine.proofs.Run.BreakRuns.{severings_run}
use Rattle.law_reference.proofs.Gift.Stays.{gifts_run}
use Rattle.law_reference.proofs.Gift.Runs.{rests_in_runs}
use Rattle.law_reference.proofs.Gift.Broken.{breaks_for_good}
use Rattle.law_reference.proofs.Gift.BrokenForGood.{broken_for_good}
use Rattle.law_reference.specs.Gift.Unopened.{UnopenedBreak}
use Rattle.law_read.specs.ReadScripts.Accepted.{MeetsTheLaws}
use Rattle.ev_top.specs.Headline.{GoesOn, NoticesSever, SeveredStaysBroken, StaysSevered}
use Rattle.ev_top.specs.declared.command.Command.{Command}
use Rattle.ev_top.proofs.Lawful.{lawful}
use Rattle.ev_top.proofs.Noticing.{marked_for_good}

some_is : {A : Type 0} {x y : A} → Some x ≡ Some y → x ≡ y
some_is e = cc

-- a later state of a vat is one
same_later : {A : Type 0} (P : A → Type 0) (found : Option A) (t : A) → found ≡ Some t → ((u : A) × (found ≡ Some u) × P u) → P t
same_later P found t is (u, there, holds) = subst P (some_is (sym there ∙ is)) holds

severed_in : (script : machine.Script) → MeetsTheLaws script → (first later : World) → GoesOn script first later → EachVat (λ v s t. StaysSevered script v s t) first later
severed_in script meets first later (es, fs, rest, split, (opened, opens, leads), more) v s at =
    let behind = notices_front script [] es (fs ++ rest) (subst NoticesFollowCuts (split ∙ append_assoc es fs rest) meets.2) in
    let broken = breaks_stay script meets.0 opened first later es fs 1 (1 + length es) behind opens leads more v s at in
    let objects = severed_broken script meets.0 opened first later es fs 1 (1 + length es) opens leads more v s at in
    let apart = severings_run script fs (1 + length es) first later more v s at in
    let gifts = gifts_run script fs (1 + length es) first later more v s at in
    let unopened = (rests_in_runs script meets.0).1 opened first es 1 opens leads v s at in
    (broken.0, broken.1, record { broken = broken.2; objects = same_later _ _ broken.0 broken.1 objects; apart = same_later _ _ broken.0 broken.1 apart; gifts = same_later _ _ broken.0 broken.1 gifts; unopened = unopened })

noticed_in : (script : machine.Script) → MeetsTheLaws script → NoticesSever script
noticed_in script meets first later es fs rest v w split (opened, opens, leads) more s at =
    let marked = marked_for_good script v w fs (1 + length es) first later s at more in (
      marked.0,
      marked.1,
      marked.2,
      nothing_of (names script v) marked.0 w marked.2,
      λ near. (
        same_later (HostedBreak (names script v) w s) _ marked.0 marked.1 (hosted near),
        same_later (UnopenedBreak script v w s) _ marked.0 marked.1 (breaks_for_good script meets.0 opened first later es fs 1 (1 + length es) v w opens leads more s at near),
      ),
    )
  where
    hosted : is_in w s.noticed ≡ false → (t : Vat Name) × (slice_get later.vats v ≡ Some t) × HostedBreak (names script v) w s t
    hosted near = let found = broken_for_good script v w fs (1 + length es) first later more s at near in (found.0, found.1, found.2.hosted)

pub severed_stays : (left : Option (List ℕ)) (command : Option Command) → IfSome left (λ input. SeveredStaysBroken command input)
severed_stays None command = tt
severed_stays (Some input) command = λ script runs. let meets = lawful command input script runs in (λ first later goes. severed_in script meets first later goes, noticed_in script meets)
