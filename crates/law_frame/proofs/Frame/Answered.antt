-- A vat asks for no answer that its host told it.
use Rattle.std.proofs.Common.{◌≡◌, ℕ, zero, ◌+◌, ◌≤◌, List, [], ◌∷◌, ◌++◌, Some, refl, sym, ap, subst, ◌∙◌, ◌⊎◌, inl, inr, length, append_assoc, arith}
use Rattle.std.specs.Prelude.{slice_get}
use Rattle.def_machine.specs.Values.{Name, Answer, Sent, Msg, answer_of}
use Rattle.def_machine.specs.State.{Note, Deliver, Ask, Put, Vat}
use Rattle.law_machine.specs.Machine.Steps.{Step, Receives}
use Rattle.def_run.specs.World as world
use Rattle.def_run.specs.World.{Script, Program, Entry, Link, World, Goes as Going, names_of, read_note, link_at}
use Rattle.law_reference.specs.Reference.Logs as wire
use Rattle.law_fate.specs.Fates.Fate.{one as same_one, once as same_once, of_note, in_note, sent_in}
use Rattle.law_fate.specs.Fates.Lasting.{Each, NoteWell, StepComes}
use Rattle.law_fate.proofs.Fates.RunWell.{note_comes, found_link}
use Rattle.law_fate.specs.Fates.Carry.{held_at, put_weight, load}
use Rattle.law_fate.specs.Fates.Sound.{StepArrives}
use Rattle.law_fate.specs.Fates.CarryLaws.{leaves}
use Rattle.law_fate.proofs.Fates.WorldLight.{VatSound, note_arrives, note_pays}
use Rattle.law_reference.specs.Reference.Knowing.{numbered_at}
use Rattle.law_fate.specs.Name.Names.{IsMessageName, IsAmong, names_in}
use Rattle.law_fate.specs.Name.Runs.{KnowsOnce}
use Rattle.law_fate.proofs.Name.Run.{Stands}
use Rattle.law_reference.proofs.Reference.Counts.{Counted, IsNew, step_weighs, step_age}
use Rattle.law_reference.proofs.Reference.Legs.{ApartIn}
use Rattle.law_reference.proofs.Reference.LegFacts.{new_nowhere}
use Rattle.law_reference.proofs.Reference.LegRuns.{Before, self_none, stands_of}
use Rattle.law_reference.proofs.Reference.LegMoves.{first_weight, sound_note_of, opened_before, stepped_before}
use Rattle.law_reference.proofs.Reference.Moves.{Moved, Steps, Arrives, IsAlone, Does, get_mid, entry_moves, opening_moves, steps_end, opens_end}
use Rattle.law_reference.proofs.Reference.Places.{note_most, note_least}
use Rattle.law_reference.proofs.Reference.SingleRuns.{opened_both, stepped_both}
use Rattle.law_fate.proofs.Name.SameNames.{same_self}
use Rattle.law_frame.specs.Frame.Asked.{told_in}
use Rattle.law_frame.proofs.Frame.WireRuns as wires
use Rattle.law_frame.proofs.Frame.WireRuns.{Wire}
use Rattle.law_frame.specs.Frame.Exports.{AsksForNoAnswerTold, NoToldAnswerIsAskedFor}
use Rattle.law_frame.proofs.Frame.Before.{AsksNot, PutsNot, MovePutsNot, asked_before, NoneLogged, opened_none, stepped_none, told_known}

-- ---- steps that no note begins

alone_leaves : (x : Name) (what : Step Name Name) → IsAlone what → leaves x what ≤ 0
unfolding leaves
alone_leaves x (Receives from n) h = absurd h
alone_leaves x other h = omega arith

alone_comes : (what : Step Name Name) → IsAlone what → StepComes what
alone_comes (Receives from n) h = absurd h
alone_comes other h = tt

alone_arrives : (v : ℕ) (what : Step Name Name) → IsAlone what → StepArrives v what
alone_arrives v (Receives from n) h = absurd h
alone_arrives v other h = tt

-- ---- a message that is not put

module _ (h : ℕ) (m : Msg) where
  is_sent : (id : Name) → answer_of h id ≡ Answer h m → (z : Msg) → id ≡ Sent z → id ≡ Sent m
  unfolding answer_of
  is_sent id e z f = cc

  one_sent : (id : Name) → id ≡ Sent m → 1 ≤ same_one id (Sent m)
  unfolding same_one same_once
  one_sent id e = rw e (rw (same_self (Sent m)) (omega arith))

  deliver_not : (id : Name) → same_one id (Sent m) ≤ 0 → answer_of h id ≡ Answer h m → (z : Msg) → id ≡ Sent z → ⊥
  deliver_not id l e z f = let a = one_sent id (is_sent id e z f) in absurd (omega arith)

  message_not : (id : Name) → same_one id (Sent m) ≤ 0 → IsMessageName id → answer_of h id ≡ Answer h m → ⊥
  message_not (Sent z) l o e = deliver_not (Sent z) l e z refl
  message_not other l o e = o

  note_not : (n : Note Name) → of_note (Sent m) n ≤ 0 → AsksNot h (Answer h m) n
  unfolding of_note in_note
  note_not (Deliver d t verb ys) l o e = message_not d.message l o e.1
  note_not (Ask p i t) l o e = cc
  note_not other l o e = e

  puts_not : (ps : List (Put Name)) → put_weight (Sent m) ps ≤ 0 → PutsNot h (Answer h m) ps
  unfolding put_weight
  puts_not [] l = tt
  puts_not (p ∷ ps) l = let a = note_least (Sent m) p.note in ((λ e. note_not p.note (omega arith)), puts_not ps (omega arith))

-- ---- who puts it knows no such answer

module _ (script : Script) (x : World) (stands : Stands script x) (counted : Counted x) (apart : (m : Msg) → ApartIn m x.vats x.links) (h : ℕ) (m : Msg) (r : Vat Name) (there : slice_get x.vats h ≡ Some r) (known : IsAmong (Answer h m) (names_in r.known))
    (v : ℕ) (s q t : Vat Name) (what : Step Name Name) (d : Does script x v s q t what) (other : h ≡ v → ⊥) where
  sound : VatSound v s
  sound = let all = counted.sound in all.vats v s d.there

  sends_none : sent_in (Sent m) t.happened ≤ 0
  sends_none = either (step_age script x v s q t what d sound m)
    where
      either : ((sent_in (Sent m) t.happened ≤ 0) × ((g : ℕ) → numbered_at v (Answer g m) t ≤ numbered_at v (Answer g m) s)) ⊎ IsNew script x v s q t what d sound m → sent_in (Sent m) t.happened ≤ 0
      either (inl o) = o.0
      either (inr n) = absurd (new_nowhere script x stands m v s d.there n.0 n.1 h h r there known)

  held_none : held_at (Sent m) s.known ≤ 0
  held_none = (apart m v h h r other there known).0 s d.there

  puts_none : StepComes what → StepArrives v what → leaves (Sent m) what ≤ 0 → PutsNot h (Answer h m) t.outbox
  unfolding load
  puts_none c a l = let w = step_weighs script x v s q t what d sound m c a in let k = held_none in let e = sends_none in puts_not h m t.outbox (omega arith)

head_of : (P : Note Name → Type 0) (ks : List (Note Name)) (n : Note Name) (ns : List (Note Name)) → Each P ks → ks ≡ n ∷ ns → P n
head_of P ks n ns h e = let one : Each P (n ∷ ns) = rw e at h in one.0

-- where a note arrives
module _ (script : Script) (x : World) (b : Before script x) (apart : (m : Msg) → ApartIn m x.vats x.links) (h : ℕ) (m : Msg) (r : Vat Name) (there : slice_get x.vats h ≡ Some r) (known : IsAmong (Answer h m) (names_in r.known))
    (a v : ℕ) (s t : Vat Name) (n : Note Name) (ns : List (Note Name)) (l : Link) (at : link_at a v x.links ≡ Some l) (notes : l.notes ≡ n ∷ ns) (d : Does script x v s s t (Receives a (read_note (names_of s) n))) (other : h ≡ v → ⊥) where
  not_self : a ≡ v → ⊥
  not_self i = let e : link_at v v x.links ≡ Some l = ap (λ z. link_at z v x.links) (sym i) ∙ at in let counted = b.counted in let fated = counted.fated (Sent m) in self_none x.links fated.apart v l e

  well_note : NoteWell n
  well_note = let counted = b.counted in let well = counted.well in head_of NoteWell l.notes n ns (found_link a v x.links l at well.links) notes

  leaves_none : leaves (Sent m) (Receives a (read_note (names_of s) n)) ≤ 0
  unfolding leaves names_of
  leaves_none = let c = note_pays (Sent m) (names_in s.known) n in let e = first_weight (Sent m) l n ns notes in let q = note_most (Sent m) n in let f = (apart m v h h r other there known).1 a l at in omega arith

  arrival_puts : PutsNot h (Answer h m) t.outbox
  unfolding names_of
  arrival_puts = puts_none script x (stands_of script x b) b.counted apart h m r there known v s s t (Receives a (read_note (names_of s) n)) d other
      (note_comes (names_in s.known) n well_note) (note_arrives (names_in s.known) a v n not_self (sound_note_of x a v n ns l b.counted at notes)) leaves_none

-- ---- no answer that was told

module _ (script : Script) (x y : World) (b : Before script x) (apart : (m : Msg) → ApartIn m x.vats x.links) (wires : Wire script x) (next : Wire script y) (none : NoneLogged x) (u h : ℕ) (l : Link) (at : link_at h u x.links ≡ Some l) (n : Note Name) (told : IsAmong n l.log) where
  other : h ≡ u → ⊥
  other i = let counted = b.counted in let fated = counted.fated (Sent (record { sender = 0; number = 0 })) in self_none x.links fated.apart u l (ap (λ z. link_at z u x.links) (sym i) ∙ at)

  module _ (m : Msg) (among : IsAmong (Answer h m) (told_in n)) where
    pub move_puts : (move : Moved script x y) → MovePutsNot x u h (Answer h m) script y move
    move_puts (Steps v s q t what alone d vats links drawn first fresh) = λ i. let k = told_known script x wires none h u l at n (Answer h m) told among in
        puts_none script x (stands_of script x b) b.counted apart h m k.0 k.1 k.2 v s q t what d (λ e. other (e ∙ sym i)) (alone_comes what alone) (alone_arrives v what alone) (alone_leaves (Sent m) what alone)
    move_puts (Arrives c v s t note ns j f cut notes d vats links drawn first fresh) = λ i. let k = told_known script x wires none h u l at n (Answer h m) told among in
        arrival_puts script x b apart h m k.0 k.1 k.2 c v s t note ns j f notes d (λ e. other (e ∙ sym i))
    move_puts other = tt

    answer_before : Moved script x y → IsAmong (Answer h m) (wire.questions (λ i. i) y.links u h) → IsAmong (Answer h m) (wire.questions (λ i. i) x.links u h)
    answer_before move a = asked_before x u h (Answer h m) script y next move (move_puts move) a

answers_before : (script : Script) (x y : World) → Before script x → ((m : Msg) → ApartIn m x.vats x.links) → Wire script x → Wire script y → NoneLogged x → Moved script x y → (u : ℕ) → AsksForNoAnswerTold x y u
answers_before script x y b apart wires next none move u h l at n m told among a = answer_before script x y b apart wires next none u h l at n told m among move a

-- ---- in each step

module _ (script : Script) (once : KnowsOnce script) where
  module _ (ps rest : List Program) (p : Program) (x y : World) (split : script.vats ≡ ps ++ p ∷ rest) (opened : world.open_from script zero ps (world.begins script) ≡ Going x) (opens : world.open_vat script (length ps) p x ≡ Going y) where
    pub opening_done : world.open_from script zero (ps ++ p ∷ []) (world.begins script) ≡ Going y
    opening_done = let n : length ps ≡ 0 + length ps = omega arith in opens_end script ps p zero (world.begins script) x y opened (subst (λ z. world.open_vat script z p x ≡ Going y) n opens)

    pub opening_move : Moved script x y
    opening_move = opening_moves script (length ps) p x y (stands_of script x (opened_before script once ps (p ∷ rest) x split opened)) (ap (λ us. slice_get us (length ps)) split ∙ get_mid ps p rest) opens

    opening_answers : (u : ℕ) → AsksForNoAnswerTold x y u
    opening_answers = let both = opened_both script once ps (p ∷ rest) x split opened in let legs = both.legs in
        answers_before script x y (opened_before script once ps (p ∷ rest) x split opened) legs.apart (wires.opened_both script once ps (p ∷ rest) x split opened).1
        (wires.opened_both script once (ps ++ p ∷ []) rest y (split ∙ sym (append_assoc ps (p ∷ []) rest)) opening_done).1 (opened_none script once ps (p ∷ rest) x split opened) opening_move

  module _ (w x y : World) (es : List Entry) (e : Entry) (k : ℕ) (opened : world.open_from script zero script.vats (world.begins script) ≡ Going w) (stepped : world.steps_from script es k w ≡ Going x) (steps : world.step script e (k + length es) x ≡ Going y) where
    pub entry_move : Moved script x y
    entry_move = entry_moves script e (k + length es) x y (stands_of script x (stepped_before script once w x es k opened stepped)) steps

    entry_answers : (u : ℕ) → AsksForNoAnswerTold x y u
    entry_answers = let both = stepped_both script once w x es k opened stepped in let legs = both.legs in
        answers_before script x y (stepped_before script once w x es k opened stepped) legs.apart (wires.stepped_both script once w x es k opened stepped).1
        (wires.stepped_both script once w y (es ++ e ∷ []) k opened (steps_end script es e k w x y stepped steps)).1 (stepped_none script once w x es k opened stepped) entry_move

pub no_told_answer : NoToldAnswerIsAskedFor
no_told_answer script once = (
  λ ps rest p x y split opened opens. opening_answers script once ps rest p x y split opened opens,
  λ w x y es e k opened stepped steps. entry_answers script once w x y es e k opened stepped steps,
)
