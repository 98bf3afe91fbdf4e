-- Each step of an honest vat tells what comes to be known in it, by how the vat stands before and after it.
use Rattle.std.proofs.Common.{◌≡◌, ℕ, zero, List, [], Some, None}
use Rattle.std.specs.Prelude.{slice_get}
use Rattle.def_machine.specs.Values.{Name}
use Rattle.def_machine.specs.State.{Known, Put, Vat}
use Rattle.def_run.specs.World.{World}
use Rattle.def_hostile.specs.Hostile.{Play}
use Rattle.law_machine.specs.Run.Moves.{went}
use Rattle.law_adversary.specs.Moves.{entered_at}
use Rattle.law_fate.specs.Name.Names.{AllOf, IsAmong, HostIsTrue, names_in}
use Rattle.law_fate.proofs.Name.Facts.{all_map}
use Rattle.law_frame.specs.Local.Told.{own_promises, promises_from, carried_by, IsBroughtBy}
use Rattle.law_frame.proofs.Frame.ArriveAsking.{MailFits}
use Rattle.law_injected.specs.HostileRuns.{IsHostile}
use Rattle.law_lawful.specs.Lawful.{AnyWord}
use Rattle.law_lawful.proofs.Reached.{in_scenes}
use Rattle.law_lawful.proofs.Steps.{VatFits}
use Rattle.law_hostile_tables.specs.Telling.{OwnPromisesAreInOrder, OwnStepsTellNames, NotesTellNames}
use Rattle.law_hostile_tables.proofs.Kept.{stands_so, alone_fit, alone_stands, received_fit, received_steady, received_stands}
use Rattle.law_hostile_tables.proofs.Order.{ordered_so, own_are_made, alone_ordered, received_ordered}
use Rattle.law_hostile_tables.proofs.Standing.{Standing, alone_steady, mails_fit}
use Rattle.law_hostile_tables.proofs.Tell.{tells_so}

pub own_in_order : OwnPromisesAreInOrder
own_in_order = in_scenes (λ play w. (u : ℕ) (s : Vat Name) → slice_get w.vats u ≡ Some s → (IsHostile play u → ⊥) → own_promises u (names_in s.known) ≡ promises_from u zero s.promises)
    (λ play w r u s there honest. own_are_made u s (ordered_so play w r u s there honest))

hosts_of : (play : Play) (w : World) (v : ℕ) (t : Vat Name) → VatFits play AnyWord w v t → AllOf HostIsTrue t.known
hosts_of play w v t f = let own = f.own in all_map (λ (k : Known Name) i. i.0) t.known own.2

mail_of : (play : Play) (w : World) (v : ℕ) (t : Vat Name) → VatFits play AnyWord w v t → AllOf (λ (p : Put Name). MailFits p.note) t.outbox
mail_of play w v t f = let parts = f.parts in mails_fit w.vats w.drawn t.outbox parts.outbox

nothing_came : (u : ℕ) (ks : List Name) (x : Name) → IsBroughtBy u ks None x → IsAmong x []
nothing_came u ks x h = h

pub own_tell : OwnStepsTellNames
unfolding carried_by
own_tell play w r u s q t what honest alone d = let there = d.there in let before : Standing u s = stands_so play w r u s there honest in let order = ordered_so play w r u s there honest in
    let f : VatFits play AnyWord (went u w [] t) u t = alone_fit play w r u s there honest q t what alone d in
    tells_so play.script w u s t None (alone_stands play w r u s there honest before q t what alone d) (alone_steady play w u s t before q what alone d) (mail_of play (went u w [] t) u t f) (hosts_of play (went u w [] t) u t f)
    (own_are_made u s order) (own_are_made u t (alone_ordered play w r u s t there honest q what alone d order)) [] (nothing_came u (names_in s.known))

pub notes_tell : NotesTellNames
unfolding carried_by
notes_tell play w r a u l n ns s t honest at uncut notes there gives came brought = let before : Standing u s = stands_so play w r u s there honest in let order = ordered_so play w r u s there honest in
    let f = received_fit play w r u s there honest before a l n ns at notes uncut t gives in
    tells_so play.script w u s t (Some (entered_at w a u s n)) (received_stands play w r u s there honest before a l n ns at notes uncut t gives) (received_steady play w r u s there honest before a l n ns at notes uncut t gives)
    (mail_of play _ u t f) (hosts_of play _ u t f) (own_are_made u s order) (own_are_made u t (received_ordered play w r u s t there honest a l n ns at notes gives order)) came brought
