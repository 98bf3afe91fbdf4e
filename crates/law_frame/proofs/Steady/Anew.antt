-- Each step asks for what is new.
use Rattle.std.proofs.Common.{◌≡◌, ℕ, zero, ◌+◌, false, List, [], ◌∷◌, ◌++◌, Some, refl, sym, ◌∙◌, subst, length, append_assoc}
use Rattle.std.specs.Prelude.{slice_get, slice_set}
use Rattle.def_op.specs.Frames.{spelling}
use Rattle.def_machine.specs.Values.{Name, Local, Prom}
use Rattle.def_machine.specs.State.{Message, Note, Vat, Gives}
use Rattle.def_machine.specs.Arrive.{Incoming, arrive, notice}
use Rattle.def_machine.specs.Eval.{opening, taking}
use Rattle.def_run.specs.Connections.{Heard}
use Rattle.def_run.specs.World.{Script, Program, Entry, Turn, Carry, CutLink, NoticeLink, Event, Opens, Turned, Carried, NoticedAt, tree_at}
use Rattle.law_fate.specs.Name.Names.{AllOf}
use Rattle.law_fate.specs.Fates.WholeFateRuns.{KnowsVats}
use Rattle.law_reference.specs.Reference.Cuts.{NoticesFollowCuts}
use Rattle.law_reference.proofs.Reference.AskHolds.{notices_front}
use Rattle.law_frame.specs.Local.Joined.{IsLawful}
use Rattle.law_frame.specs.Local.Runs.{EachStepMirrors}
use Rattle.law_frame.proofs.Local.WholeRuns.{each_step_mirrors}
use Rattle.def_run.specs.Vats.{Member, connection_for, heard_in, heard_on}
use Rattle.def_run.specs.Numbers as numbers
use Rattle.def_run.specs.Numbers.{Vats, Runs, Way, Frame, Brought, way_at, with_way, left_by}
use Rattle.def_run.specs.Asking.{AskAnew}
use Rattle.law_frame.specs.Steady.Statements.{TurnAsksAnew, EntryAsksAnew, RunsAreSteady, LawfulRunsAreSteady}
use Rattle.law_frame.proofs.Steady.Abroad.{AllAbroad, opened_abroad, stepped_abroad}
use Rattle.law_frame.proofs.Steady.Asks.{GoesOut, ask_anew, sound}
use Rattle.law_frame.proofs.Steady.Hearing.{all_length}
use Rattle.law_frame.proofs.Steady.Outgoing.{goes_out, out_of, notice_stands, turn_stands, opening_stands, arrival_stands}
use Rattle.law_frame.proofs.Steady.Questions.{hosts_asked, opened_counted, stepped_counted}
use Rattle.law_frame.proofs.Steady.CutOff.{each_asks_once}
use Rattle.law_frame.proofs.Steady.Steady.{opening_leads, turn_leads, notice_leads, leads, other, runs_steady}
use Rattle.law_frame.proofs.Steady.Went.{Pair, is, now, left_member, left_there, left_grows, opening_went, entry_went}

-- Vat u, which was m in numbers, is left in state s; b is what the step brought.
left_asks : (X Z : Vats) (u : ℕ) (head : List Event) (m : Member) (b : Brought) (s : Vat Local) → (let Y : Vats = left_by Z u head m b s in Pair X Y) → slice_get X.members u ≡ Some m → slice_get Z.members u ≡ Some m
    → AllOf (GoesOut u (let Y : Vats = left_by Z u head m b s in length Y.members) s) s.outbox → AskAnew s s.outbox b.connections
unfolding connection_for
left_asks X Z u head m b s p there at out =
    let k : Member = left_member Z u m b s in let Y : Vats = left_by Z u head m b s in
    let here = left_there Z u head m m b s at in
    let grows = left_grows Z u m b s in
    let peers = (let i = now X Y p u m k there here grows in i.peers) in
    ask_anew s u (length Y.members) s.outbox b.connections (sym peers ∙ all_length s s.outbox b.connections) out (λ v low other. sound X Y p u m k there here grows (p.asks each_asks_once) (p.hosts_asked hosts_asked) v low other)

module _ (script : Script) (lawful : IsLawful script) (knows : KnowsVats script) (mirrors : EachStepMirrors script) where
  opening_asks : (ps rest : List Program) (p : Program) (X : Vats) → script.vats ≡ ps ++ p ∷ rest → numbers.open_from script zero ps (numbers.begins script) ≡ Runs X → (m : Member) → slice_get X.members (length ps) ≡ Some m
      → (s : Vat Local) → opening (numbers.numbers script) p.tree script.depth (Prom zero) (numbers.given script.vats 1 p.knows) (numbers.ready X m.vat) ≡ Gives tt s → AskAnew s s.outbox m.connections
  unfolding numbers.nothing_brought
  opening_asks ps rest p X split opened m there s e =
      let u = length ps in let head : List Event = Opens u ∷ [] in let b = numbers.nothing_brought m in let Y : Vats = left_by X u head m b s in
      let leads = opening_leads script lawful mirrors u p X m s there e in
      let went = opening_went script lawful.0 mirrors ps rest p X Y split opened leads in let q = went.0 in let run = went.1 in
      let k = left_member X u m b s in let here = left_there X u head m m b s there in let grows = left_grows X u m b s in
      let r = is X Y q u m k there here grows in
      let split_on : script.vats ≡ (ps ++ p ∷ []) ++ rest = split ∙ sym (append_assoc ps (p ∷ []) rest) in
      let stands = opening_stands script X Y q u m k there here grows lawful.0 ps rest p split run.opened refl s e run.goes in
      let count = opened_counted script lawful.0 (ps ++ p ∷ []) rest q.y split_on run.done in
      left_asks X X u head m b s q there there
      (out_of script X Y q u m k there here grows (length script.vats) count s stands (opened_abroad script knows lawful.0 (ps ++ p ∷ []) rest q.y split_on run.done u r.0 r.1))

  module _ (es rest : List Entry) (W X : Vats) (opened : numbers.open_from script zero script.vats (numbers.begins script) ≡ Runs W) (stepped : numbers.steps_from script es 1 W ≡ Runs X) where
    abbrev k : ℕ
    k = 1 + length es

    taking_asks : (u : ℕ) → script.schedule ≡ es ++ Turn u ∷ rest → (m : Member) → slice_get X.members u ≡ Some m → (q : Message Local) (qs : List (Message Local)) → m.vat.queue ≡ q ∷ qs
        → (s : Vat Local) → taking (numbers.numbers script) (tree_at script.vats u) script.depth q (record (numbers.ready X m.vat) { queue = qs }) ≡ Gives tt s → AskAnew s s.outbox m.connections
    unfolding numbers.nothing_brought
    taking_asks u split m there q qs queue s e =
        let head : List Event = Turned k u ∷ [] in let b = numbers.nothing_brought m in let Y : Vats = left_by X u head m b s in
        let leads = turn_leads script lawful mirrors es rest W X opened stepped u m there q qs queue s e in
        let went = entry_went script lawful.0 mirrors lawful.1 es rest (Turn u) W X Y split opened stepped leads in let p = went.0 in let run = went.3 in
        let z = left_member X u m b s in let here = left_there X u head m m b s there in let grows = left_grows X u m b s in
        let r = is X Y p u m z there here grows in
        let stands = turn_stands script X Y p u m z there here grows k q qs queue s e run.goes in
        let count = stepped_counted script lawful.0 run.first p.y (es ++ Turn u ∷ []) 1 run.opened run.done in
        left_asks X X u head m b s p there there
        (out_of script X Y p u m z there here grows (length script.vats) count s stands (stepped_abroad script knows lawful.0 run.first p.y (es ++ Turn u ∷ []) 1 run.opened run.done u r.0 r.1))

    notice_asks : (v u : ℕ) → script.schedule ≡ es ++ NoticeLink v u ∷ rest → (m : Member) → slice_get X.members v ≡ Some m → (s : Vat Local) → notice (numbers.numbers script) u (numbers.ready X m.vat) ≡ Gives tt s → AskAnew s s.outbox m.connections
    unfolding numbers.nothing_brought
    notice_asks v u split m there s e =
        let head : List Event = NoticedAt k v u ∷ [] in let b = numbers.nothing_brought m in let Y : Vats = left_by X v head m b s in
        let leads = notice_leads script lawful mirrors es rest W X opened stepped v u m there s e in
        let went = entry_went script lawful.0 mirrors lawful.1 es rest (NoticeLink v u) W X Y split opened stepped leads in let p = went.0 in let run = went.3 in
        let z = left_member X v m b s in let here = left_there X v head m m b s there in let grows = left_grows X v m b s in
        let r = is X Y p v m z there here grows in
        let stands = notice_stands script X Y p v m z there here grows u k s e run.goes in
        let count = stepped_counted script lawful.0 run.first p.y (es ++ NoticeLink v u ∷ []) 1 run.opened run.done in
        left_asks X X v head m b s p there there
        (out_of script X Y p v m z there here grows (length script.vats) count s stands (stepped_abroad script knows lawful.0 run.first p.y (es ++ NoticeLink v u ∷ []) 1 run.opened run.done v r.0 r.1))

    frame_asks : (v u : ℕ) → script.schedule ≡ es ++ Carry v u ∷ rest → (m : Member) (l : Way) (x : Frame) (xs : List Frame) → slice_get X.members u ≡ Some m → way_at v u X.ways ≡ Some l → l.cut ≡ false → l.frames ≡ x ∷ xs
        → (h : Heard Local (Note (Incoming Local Local))) → heard_in v x.op m ≡ Some h → (s : Vat Local) → arrive (numbers.numbers script) v h.read (numbers.ready X m.vat) ≡ Gives tt s → AskAnew s s.outbox (slice_set m.connections v (heard_on h s (connection_for v m)))
    unfolding numbers.brings
    frame_asks v u split m l x xs there at uncut first h heard s arrives =
        let taken : Vats = record X { ways = with_way (λ z. record z { frames = xs }) v u X.ways } in let head : List Event = Carried k v u x.note (spelling x.op) ∷ [] in let b = numbers.brings script taken v u x h m s in let Y : Vats = left_by taken u head m b s in
        let going = leads script lawful mirrors es rest W X opened stepped v u split m l x xs there at uncut first h heard s arrives in
        let apart = other script lawful mirrors es rest W X opened stepped v u split m l x xs there at uncut first h heard s arrives in
        let went = entry_went script lawful.0 mirrors lawful.1 es rest (Carry v u) W X Y split opened stepped going in let p = went.0 in let run = went.3 in
        let front : NoticesFollowCuts es = notices_front script [] es (Carry v u ∷ rest) (subst NoticesFollowCuts split lawful.1) in
        let r = arrival_stands script lawful.0 run.first p.x p.y es front run.opened run.stepped X p.start v u apart m there l at uncut x xs first h heard s arrives k run.goes in
        let count = stepped_counted script lawful.0 run.first p.y (es ++ Carry v u ∷ []) 1 run.opened run.done in
        let abroad = stepped_abroad script knows lawful.0 run.first p.y (es ++ Carry v u ∷ []) 1 run.opened run.done u r.0 r.1 in
        let members : length Y.members ≡ length script.vats = (let i = p.after in i.count) ∙ count in
        left_asks X taken u head m b s p there there
        (goes_out r.2 u (length Y.members) s r.0 r.3 (subst (λ n. AllAbroad u n (let i : Vat Name = r.0 in i.outbox)) (sym members) abroad))

    turn_asks : (u : ℕ) → script.schedule ≡ es ++ Turn u ∷ rest → (m : Member) → slice_get X.members u ≡ Some m → (queue : List (Message Local)) → m.vat.queue ≡ queue → TurnAsksAnew script X u m queue
    turn_asks u split m there [] e = tt
    turn_asks u split m there (q ∷ qs) e = λ s i. taking_asks u split m there q qs e s i

    entry_asks : (e : Entry) → script.schedule ≡ es ++ e ∷ rest → EntryAsksAnew script X e
    entry_asks (Turn u) split = λ m there. turn_asks u split m there m.vat.queue refl
    entry_asks (Carry v u) split = λ m l x xs there at uncut first h heard s arrives. frame_asks v u split m l x xs there at uncut first h heard s arrives
    entry_asks (CutLink v u) split = tt
    entry_asks (NoticeLink v u) split = λ m there s i. notice_asks v u split m there s i

pub steady : RunsAreSteady
steady script lawful knows mirrors = runs_steady script lawful mirrors (record {
  openings = λ ps rest p w split opened m there s e. opening_asks script lawful knows mirrors ps rest p w split opened m there s e;
  entries = λ es rest e w x split opened stepped. entry_asks script lawful knows mirrors es rest w x opened stepped e split;
})

pub lawful_steady : LawfulRunsAreSteady
lawful_steady script lawful knows = steady script lawful knows (each_step_mirrors script lawful)
