-- A vat asks for nothing that it was told, so that its exports keep their positions.
use Rattle.std.proofs.Common.{◌≡◌, ℕ, zero, suc, ◌+◌, ◌≤◌, List, [], ◌∷◌, ◌++◌, Some, refl, sym, subst, ◌∙◌, ◌⊎◌, inl, inr, length, append_assoc, arith}
use Rattle.def_machine.specs.Values.{Name, Answer, Gift, Sent, Msg, answer_of}
use Rattle.def_machine.specs.State.{Note, Deliver, Ask, Put, Vat}
use Rattle.law_machine.specs.Machine.Steps.{Receives}
use Rattle.def_run.specs.World as world
use Rattle.def_run.specs.World.{Script, Program, Entry, Link, World, Goes as Going, names_of, read_note, link_at}
use Rattle.law_reference.specs.Reference.Logs as wire
use Rattle.law_fate.specs.Name.Names.{IsMessageName, AllOf, IsAmong, WasDrawn}
use Rattle.law_fate.specs.Name.Runs.{KnowsOnce}
use Rattle.law_fate.proofs.Name.Run.{Had, name_had}
use Rattle.law_reference.proofs.Reference.Legs.{ApartIn}
use Rattle.law_reference.proofs.Reference.LegRuns.{Before, stands_of, first_mails}
use Rattle.law_reference.proofs.Reference.LegMoves.{opened_before, stepped_before}
use Rattle.law_reference.proofs.Reference.Moves.{Moved, Steps, Arrives, Does, steps_end}
use Rattle.law_reference.proofs.Reference.SingleRuns.{opened_both, stepped_both}
use Rattle.law_reference.specs.Reference.GiftPassing.{gifts_in_note, gifts_under_way}
use Rattle.law_reference.specs.Reference.Hiding.{IsNotOf}
use Rattle.law_reference.proofs.Reference.HideMoves.{taken_sum}
use Rattle.law_frame.specs.Frame.Asked.{told_in}
use Rattle.law_frame.proofs.Frame.WireRuns as wires
use Rattle.law_frame.proofs.Frame.WireRuns.{Wire}
use Rattle.law_frame.specs.Frame.Exports.{AsksForNothingTold, NothingToldIsAskedFor, EveryPositionStays, EveryStateGoesOn}
use Rattle.law_frame.proofs.Frame.Before.{pick, AsksNot, PutsNot, MovePutsNot, asked_before, NoneLogged, opened_none, stepped_none, told_known}
use Rattle.law_frame.proofs.Frame.Answered.{move_puts, opening_done, opening_move, entry_move}
use Rattle.law_frame.proofs.Frame.Missed.{AsksNoGift, alone_asks, arrival_asks}
use Rattle.law_frame.proofs.Frame.Untold.{NotTold, UntoldIn, opened_untold, stepped_untold}
use Rattle.law_frame.proofs.Frame.Exports.{positions_stay, states_go_on}

-- ---- what is asked for is an answer or a gift

module _ (h : ℕ) (z : Name) where
  message_free : (id : Name) → ((m : Msg) → z ≡ Answer h m → ⊥) → IsMessageName id → answer_of h id ≡ z → ⊥
  unfolding answer_of
  message_free (Sent m) f o e = f m (sym e)
  message_free other f o e = o

  note_free : (n : Note Name) → ((m : Msg) → z ≡ Answer h m → AsksNot h z n) → ((i : ℕ) → z ≡ Gift h i → AsksNoGift i n) → AsksNot h z n
  unfolding answer_of
  note_free (Deliver d t verb ys) f g = λ o e. message_free d.message (λ m h. f m h o e) o e.1
  note_free (Ask p i t) f g = λ o e. g i (sym e ∙ o) refl
  note_free other f g = λ o e. e

  pub puts_free : (ps : List (Put Name)) → ((m : Msg) → z ≡ Answer h m → PutsNot h z ps) → ((i : ℕ) → z ≡ Gift h i → AllOf (λ (p : Put Name). AsksNoGift i p.note) ps) → PutsNot h z ps
  puts_free [] f g = tt
  puts_free (p ∷ ps) f g = ((λ k. note_free p.note (λ m e. (f m e).0 k) (λ i e. (g i e).0)), puts_free ps (λ m e. (f m e).1) (λ i e. (g i e).1))

some_or : (x : ℕ) → (x ≡ 0) ⊎ (1 ≤ x)
some_or zero = inl refl
some_or (suc x) = inr (omega arith)

module _ (script : Script) (x y : World) (b : Before script x) (apart : (m : Msg) → ApartIn m x.vats x.links) (wires : Wire script x) (next : Wire script y) (none : NoneLogged x) (untold : UntoldIn x) (u h : ℕ) (l : Link) (at : link_at h u x.links ≡ Some l) (n : Note Name) (told : IsAmong n l.log) (z : Name) (among : IsAmong z (told_in n)) where
  -- a gift that was told is under a word that was drawn, and none is under way
  made : (i : ℕ) → z ≡ Gift h i → WasDrawn x.drawn i
  made i e = let k = told_known script x wires none h u l at n (Gift h i) told (subst (λ c. IsAmong c (told_in n)) e among) in
      let stands = stands_of script x b in let at_vat = stands.vats h k.0 k.1 in let parts = at_vat.parts in (name_had (Had script x h k.0) k.0.known (Gift h i) parts.known k.2).0

  not_under : (i : ℕ) → z ≡ Gift h i → 1 ≤ gifts_under_way i x.links → ⊥
  not_under i e k = let all = pick (NotTold i) l.log n (untold i k h u l at) told in let one : IsNotOf i (Gift h i) = subst (IsNotOf i) e (pick (IsNotOf i) (told_in n) z all among) in one refl

  module _ (c v : ℕ) (s t : Vat Name) (note : Note Name) (ns : List (Note Name)) (j : Link) (from : link_at c v x.links ≡ Some j) (notes : j.notes ≡ note ∷ ns) (d : Does script x v s s t (Receives c (read_note (names_of s) note))) where
    arrival_free : (i : ℕ) → z ≡ Gift h i → AllOf (λ (p : Put Name). AsksNoGift i p.note) t.outbox
    arrival_free i e = either (some_or (gifts_in_note i note))
      where
        either : (gifts_in_note i note ≡ 0) ⊎ (1 ≤ gifts_in_note i note) → AllOf (λ (p : Put Name). AsksNoGift i p.note) t.outbox
        either (inl k) = arrival_asks script x v s t i (made i e) c note k (first_mails script x c v note ns j b from notes) d
        either (inr k) = absurd (not_under i e (let sum = taken_sum i c v note ns j notes x.links from in omega arith))

  answers : (t : Vat Name) → ((m : Msg) → IsAmong (Answer h m) (told_in n) → PutsNot h (Answer h m) t.outbox) → (m : Msg) → z ≡ Answer h m → PutsNot h z t.outbox
  answers t f m e = subst (λ c. PutsNot h c t.outbox) (sym e) (f m (subst (λ c. IsAmong c (told_in n)) e among))

  move_free : (move : Moved script x y) → MovePutsNot x u h z script y move
  move_free (Steps v s q t what alone d vats links drawn first fresh) = λ i. puts_free h z t.outbox
      (answers t (λ m a. move_puts script x y b apart wires next none u h l at n told m a (Steps v s q t what alone d vats links drawn first fresh) i)) (λ j e. alone_asks script x v s q t j what alone d)
  move_free (Arrives c v s t note ns j f cut notes d vats links drawn first fresh) = λ i. puts_free h z t.outbox
      (answers t (λ m a. move_puts script x y b apart wires next none u h l at n told m a (Arrives c v s t note ns j f cut notes d vats links drawn first fresh) i)) (arrival_free c v s t note ns j f notes d)
  move_free other = tt

  nothing_before : Moved script x y → IsAmong z (wire.questions (λ i. i) y.links u h) → IsAmong z (wire.questions (λ i. i) x.links u h)
  nothing_before move a = asked_before x u h z script y next move (move_free move) a

nothing_new : (script : Script) (x y : World) → Before script x → ((m : Msg) → ApartIn m x.vats x.links) → Wire script x → Wire script y → NoneLogged x → UntoldIn x → Moved script x y → (u : ℕ) → AsksForNothingTold x y u
nothing_new script x y b apart wires next none untold move u h l at n z told among a = nothing_before script x y b apart wires next none untold u h l at n told z among move a

-- ---- in each step

module _ (script : Script) (once : KnowsOnce script) where
  opening_nothing : (ps rest : List Program) (p : Program) (x y : World) → script.vats ≡ ps ++ p ∷ rest → world.open_from script zero ps (world.begins script) ≡ Going x → world.open_vat script (length ps) p x ≡ Going y → (u : ℕ) → AsksForNothingTold x y u
  opening_nothing ps rest p x y split opened opens = let both = opened_both script once ps (p ∷ rest) x split opened in let legs = both.legs in
      nothing_new script x y (opened_before script once ps (p ∷ rest) x split opened) legs.apart (wires.opened_both script once ps (p ∷ rest) x split opened).1
      (wires.opened_both script once (ps ++ p ∷ []) rest y (split ∙ sym (append_assoc ps (p ∷ []) rest)) (opening_done script once ps rest p x y split opened opens)).1 (opened_none script once ps (p ∷ rest) x split opened)
      (opened_untold script once ps (p ∷ rest) x split opened) (opening_move script once ps rest p x y split opened opens)

  entry_nothing : (w x y : World) (es : List Entry) (e : Entry) (k : ℕ) → world.open_from script zero script.vats (world.begins script) ≡ Going w → world.steps_from script es k w ≡ Going x → world.step script e (k + length es) x ≡ Going y → (u : ℕ) → AsksForNothingTold x y u
  entry_nothing w x y es e k opened stepped steps = let both = stepped_both script once w x es k opened stepped in let legs = both.legs in
      nothing_new script x y (stepped_before script once w x es k opened stepped) legs.apart (wires.stepped_both script once w x es k opened stepped).1
      (wires.stepped_both script once w y (es ++ e ∷ []) k opened (steps_end script es e k w x y stepped steps)).1 (stepped_none script once w x es k opened stepped)
      (stepped_untold script once w x es k opened stepped) (entry_move script once w x y es e k opened stepped steps)

pub nothing_told : NothingToldIsAskedFor
nothing_told script once = (
  λ ps rest p x y split opened opens. opening_nothing script once ps rest p x y split opened opens,
  λ w x y es e k opened stepped steps. entry_nothing script once w x y es e k opened stepped steps,
)

pub every_position : EveryPositionStays
every_position script once = (
  λ ps rest p x y split opened opens u. (positions_stay script once).0 ps rest p x y split opened opens u (opening_nothing script once ps rest p x y split opened opens u),
  λ w x y es e k opened stepped steps u. (positions_stay script once).1 w x y es e k opened stepped steps u (entry_nothing script once w x y es e k opened stepped steps u),
)

pub every_state : EveryStateGoesOn
every_state script once = (
  λ ps rest p x y split opened opens u. (states_go_on script once).0 ps rest p x y split opened opens u (opening_nothing script once ps rest p x y split opened opens u),
  λ w x y es e k opened stepped steps u. (states_go_on script once).1 w x y es e k opened stepped steps u (entry_nothing script once w x y es e k opened stepped steps u),
)
