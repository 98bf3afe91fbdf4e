-- The two links between two vats are cut together, and no link leads from a vat to itself.
use Rattle.std.proofs.Common.{Some, ◌≡◌, ℕ, zero, suc, Bool, true, false, List, [], ◌∷◌, ◌++◌, refl, sym, subst, ◌∙◌, ◌⊎◌, inl, inr, ◌==◌}
use Rattle.std.proofs.lemmas.Bool.{eq-eqb}
use Rattle.def_machine.specs.Values.{Name}
use Rattle.def_machine.specs.State.{Note, Put}
use Rattle.def_run.specs.World as world
use Rattle.def_run.specs.World.{Script, Program, Entry, Link, World, Goes as Going, link_at, with_link, with_notes, severed_link, pushed, push_all}
use Rattle.law_fate.specs.Name.Names.{AllOf}
use Rattle.law_fate.specs.Name.Runs.{KnowsOnce}
use Rattle.law_fate.proofs.Name.Facts.{all_append}
use Rattle.law_reference.proofs.Reference.LinksCut.{fits_notes, fits_severed, stays_cut, now_cut}
use Rattle.law_reference.proofs.Reference.AnswerLinks.{AtLink, found_ends, with_any, push_keeps}
use Rattle.law_frame.proofs.Frame.OrderRuns.{found_all}
use Rattle.law_frame.proofs.Frame.Places.{same_or}
use Rattle.law_reference.proofs.Reference.LegRuns.{Before, stands_of}
use Rattle.law_reference.proofs.Reference.LegMoves.{opened_before, stepped_before}
use Rattle.law_reference.proofs.Reference.Moves.{Moved, Still, Severs, Drops, Steps, Arrives, opened_hold, stepped_hold}

pub true_false : {b : Bool} → b ≡ true → b ≡ false → ⊥
true_false {b = b} e f = clash b e f
  where
    clash : (c : Bool) → c ≡ true → c ≡ false → ⊥
    clash c g h = cc

-- ---- cuts

abbrev pub CutAs : Bool → ℕ → ℕ → List Link → Type 0
CutAs c a b ls = AtLink a b (λ (l : Link). l.cut ≡ c) ls

-- both are cut, or neither is
abbrev pub CutAlike : List Link → Type 0
CutAlike ls = (a b : ℕ) → (c : Bool) × CutAs c a b ls × CutAs c b a ls

pushed_or : (n : Note Name) (l : Link) (b : Bool) → (let j : Link = elim b [ true ↦ record l { log = l.log ++ n ∷ [] } | false ↦ record l { notes = l.notes ++ n ∷ []; log = l.log ++ n ∷ [] } ] in j.cut) ≡ l.cut
pushed_or n l true = refl
pushed_or n l false = refl

pub pushed_cut : (n : Note Name) (l : Link) → (let j : Link = pushed n l in j.cut) ≡ l.cut
unfolding pushed
pushed_cut n l = pushed_or n l l.cut

push_alike : (v : ℕ) (ps : List (Put Name)) (ls : List Link) → CutAlike ls → CutAlike (push_all v ps ls)
push_alike v ps ls h a b = let c = h a b in (c.0, push_keeps a b v (λ (l : Link). l.cut ≡ c.0) (λ l n e. pushed_cut n l ∙ e) ps ls c.1, push_keeps b a v (λ (l : Link). l.cut ≡ c.0) (λ l n e. pushed_cut n l ∙ e) ps ls c.2)

taken_as : (c : Bool) (a b x y : ℕ) (ns : List (Note Name)) (ls : List Link) → CutAs c a b ls → CutAs c a b (with_link (with_notes ns) x y ls)
unfolding with_notes
taken_as c a b x y ns ls h = with_any a b x y (λ (l : Link). l.cut ≡ c) (with_notes ns) (fits_notes a b ns) ls (λ l e i j. h l e) (λ l e f. h l e)

taken_alike : (x y : ℕ) (ns : List (Note Name)) (ls : List Link) → CutAlike ls → CutAlike (with_link (with_notes ns) x y ls)
taken_alike x y ns ls h a b = let c = h a b in (c.0, taken_as c.0 a b x y ns ls c.1, taken_as c.0 b a x y ns ls c.2)

other_as : (c : Bool) (a b x y : ℕ) (ls : List Link) → (a ≡ x → b ≡ y → ⊥) → CutAs c a b ls → CutAs c a b (with_link severed_link x y ls)
other_as c a b x y ls n h = with_any a b x y (λ (l : Link). l.cut ≡ c) severed_link (fits_severed a b) ls (λ l e i j. absurd (n i j)) (λ l e f. h l e)

both_now : (x y : ℕ) (ls : List Link) → CutAs true x y (with_link severed_link y x (with_link severed_link x y ls)) × CutAs true y x (with_link severed_link y x (with_link severed_link x y ls))
both_now x y ls = (stays_cut x y severed_link (fits_severed x y) y x (with_link severed_link x y ls) (now_cut x y ls), now_cut y x (with_link severed_link x y ls))

severed_alike : (x y : ℕ) (ls : List Link) → CutAlike ls → CutAlike (with_link severed_link y x (with_link severed_link x y ls))
severed_alike x y ls h a b = either (same_or a b x y) (same_or a b y x)
  where
    either : ((a ≡ x) × (b ≡ y)) ⊎ (a ≡ x → b ≡ y → ⊥) → ((a ≡ y) × (b ≡ x)) ⊎ (a ≡ y → b ≡ x → ⊥) → (c : Bool) × CutAs c a b (with_link severed_link y x (with_link severed_link x y ls)) × CutAs c b a (with_link severed_link y x (with_link severed_link x y ls))
    either (inl e) k = let both = both_now x y ls in (true, rw (e.0, e.1) both.0, rw (e.0, e.1) both.1)
    either (inr n) (inl e) = let both = both_now x y ls in (true, rw (e.0, e.1) both.1, rw (e.0, e.1) both.0)
    either (inr n) (inr k) = let c = h a b in (c.0, other_as c.0 a b y x (with_link severed_link x y ls) k (other_as c.0 a b x y ls n c.1), other_as c.0 b a y x (with_link severed_link x y ls) (λ i j. n j i) (other_as c.0 b a x y ls (λ i j. k j i) c.2))

-- ---- no link from a vat to itself

abbrev pub NoneItself : List Link → Type 0
NoneItself ls = (a : ℕ) → AtLink a a (λ (l : Link). ⊥) ls

push_itself : (v : ℕ) (ps : List (Put Name)) (ls : List Link) → NoneItself ls → NoneItself (push_all v ps ls)
push_itself v ps ls h a = push_keeps a a v (λ (l : Link). ⊥) (λ l n e. e) ps ls (h a)

taken_itself : (x y : ℕ) (ns : List (Note Name)) (ls : List Link) → NoneItself ls → NoneItself (with_link (with_notes ns) x y ls)
taken_itself x y ns ls h a = with_any a a x y (λ (l : Link). ⊥) (with_notes ns) (fits_notes a a ns) ls (λ l e i j. h a l e) (λ l e f. h a l e)

severed_itself : (x y : ℕ) (ls : List Link) → NoneItself ls → NoneItself (with_link severed_link x y ls)
severed_itself x y ls h a = with_any a a x y (λ (l : Link). ⊥) severed_link (fits_severed a a) ls (λ l e i j. h a l e) (λ l e f. h a l e)

-- ---- the start

-- not cut, and from one vat to another
abbrev Fresh : Link → Type 0
Fresh l = (l.cut ≡ false) × (l.from ≡ l.to → ⊥)

to_or : (b : Bool) (v w : ℕ) (l : Link) (ls : List Link) → (v == w) ≡ b → (b ≡ false → Fresh l) → AllOf Fresh ls → AllOf Fresh (elim b [ true ↦ ls | false ↦ l ∷ ls ])
to_or true v w l ls e f h = h
to_or false v w l ls e f h = (f refl, h)

to_fresh : (v w : ℕ) (ps : List Program) → AllOf Fresh (world.links_to v w ps)
unfolding world.links_to
to_fresh v w [] = tt
to_fresh v w (p ∷ ps) = to_or (v == w) v w _ (world.links_to v (suc w) ps) refl (λ e. (refl, λ i. true_false (eq-eqb v w i) e)) (to_fresh v (suc w) ps)

from_fresh : (all : List Program) (v : ℕ) (ps : List Program) → AllOf Fresh (world.links_from all v ps)
unfolding world.links_from
from_fresh all v [] = tt
from_fresh all v (p ∷ ps) = all_append Fresh (world.links_to v zero all) (world.links_from all (suc v) ps) (to_fresh v zero all) (from_fresh all (suc v) ps)

-- ---- runs

abbrev pub Paired : World → Type 0
Paired w = CutAlike w.links × NoneItself w.links

module _ (script : Script) where
  begins_paired : Paired (world.begins script)
  unfolding world.begins
  begins_paired = let ls = world.links_from script.vats zero script.vats in let fresh = from_fresh script.vats zero script.vats in
      (λ a b. (false, λ l e. (found_all Fresh a b l ls fresh e).0, λ l e. (found_all Fresh b a l ls fresh e).0), λ a l e. let ends = found_ends a a ls l e in (found_all Fresh a a l ls fresh e).1 (ends.0 ∙ sym ends.1))

  paired_on : (w y : World) → Before script w → Before script y → Moved script w y → Paired w → Paired y
  paired_on w y p r (Still v l d) h = subst (λ ls. CutAlike ls × NoneItself ls) (sym l) h
  paired_on w y p r (Severs a b v l d) h = subst (λ ls. CutAlike ls × NoneItself ls) (sym l) (severed_alike a b w.links h.0, severed_itself b a (with_link severed_link a b w.links) (severed_itself a b w.links h.1))
  paired_on w y p r (Drops a v n ns l at notes none vats links drawn) h = subst (λ ls. CutAlike ls × NoneItself ls) (sym links) (taken_alike a v ns w.links h.0, taken_itself a v ns w.links h.1)
  paired_on w y p r (Steps v s q t what alone d vats links drawn first fresh) h = subst (λ ls. CutAlike ls × NoneItself ls) (sym links) (push_alike v t.outbox w.links h.0, push_itself v t.outbox w.links h.1)
  paired_on w y p r (Arrives a v s t n ns l at cut notes d vats links drawn first fresh) h = subst (λ ls. CutAlike ls × NoneItself ls) (sym links)
      (push_alike v t.outbox (with_link (with_notes ns) a v w.links) (taken_alike a v ns w.links h.0), push_itself v t.outbox (with_link (with_notes ns) a v w.links) (taken_itself a v ns w.links h.1))

  module _ (once : KnowsOnce script) where
    pub opened_paired : (ps rest : List Program) (w : World) → script.vats ≡ ps ++ rest → world.open_from script zero ps (world.begins script) ≡ Going w → Paired w
    opened_paired = opened_hold script (Before script) (opened_before script once) (stepped_before script once) (stands_of script) Paired paired_on begins_paired

    pub stepped_paired : (w x : World) (es : List Entry) (k : ℕ) → world.open_from script zero script.vats (world.begins script) ≡ Going w → world.steps_from script es k w ≡ Going x → Paired x
    stepped_paired = stepped_hold script (Before script) (opened_before script once) (stepped_before script once) (stands_of script) Paired paired_on begins_paired

  -- no link is cut at the start
  pub begins_open : (a b : ℕ) (l : Link) → link_at a b (world.begins script).links ≡ Some l → l.cut ≡ false
  unfolding world.begins
  begins_open a b l e = let ls = world.links_from script.vats zero script.vats in (found_all Fresh a b l ls (from_fresh script.vats zero script.vats) e).0
