-- How many notes under way ask for a gift under a key, and how many gifts under it stand unopened at all vats, as links and vats change.
use Rattle.std.proofs.Common.{◌≡◌, ℕ, zero, suc, ◌+◌, ◌≤◌, Bool, true, false, List, [], ◌∷◌, ◌++◌, Some, refl, sym, ap, subst, ◌∙◌, inl, inr, arith, ◌==◌}
use Rattle.std.proofs.lemmas.Bool.{eqb-true, eq-eqb}
use Rattle.std.specs.Prelude.{slice_get, ◌&&◌, not}
use Rattle.def_machine.specs.Values.{Name, word_of}
use Rattle.def_machine.specs.State.{Passed, Passeds, Plain, AGift, Many, NoMore, More, Note, Deliver, Ask, SettledTo, Put, GiftEntry, Vat, is_in}
use Rattle.def_run.specs.World as world
use Rattle.def_run.specs.World.{Script, Program, Link, put_at, read_note}
use Rattle.law_fate.specs.Fates.Fate as fate
use Rattle.law_fate.specs.Name.Names.{IsAmong}
use Rattle.law_reference.specs.Reference.GiftPassing as passing
use Rattle.law_reference.specs.Reference.GiftPassing.{gifts_in, gifts_in_all, gifts_in_note}
use Rattle.law_order.proofs.Ordering.Sends.{pushed_shut, pushed_open}
use Rattle.law_order.specs.Cuts.Letting.{once}
use Rattle.law_order.proofs.Cuts.Counts.{sum_of, changed_sum, taken_sum, Quiet}
use Rattle.law_order.proofs.Cuts.Puts.{drawn_of}
use Rattle.law_order.proofs.Asked.Weighs.{asks_for, asks_put, is_shut, shut_in}
use Rattle.law_order.proofs.Asked.Arrivals.{brought, brought_all, brought_in}

-- ---- notes that ask

unfoldable pub asked_in : ℕ → List (Note Name) → ℕ
asked_in i [] = 0
asked_in i (n ∷ ns) = once (asks_for i n) + asked_in i ns

abbrev pub asked_way : ℕ → List Link → ℕ
asked_way i ls = sum_of (λ l. asked_in i l.notes) ls

more_notes : (i : ℕ) (ns : List (Note Name)) (n : Note Name) → asked_in i (ns ++ n ∷ []) ≡ asked_in i ns + once (asks_for i n)
unfolding asked_in
more_notes i [] n = omega arith
more_notes i (m ∷ ns) n = let rest = more_notes i ns n in omega arith

pushed_asked : (i : ℕ) (n : Note Name) (l : Link) (b : Bool) → l.cut ≡ b → asked_in i (world.pushed n l).notes ≤ asked_in i l.notes + once (asks_for i n)
pushed_asked i n l true e = subst (λ (k : Link). asked_in i k.notes ≤ asked_in i l.notes + once (asks_for i n)) (sym (pushed_shut n l e)) (omega arith)
pushed_asked i n l false e = subst (λ (k : Link). asked_in i k.notes ≤ asked_in i l.notes + once (asks_for i n)) (sym (pushed_open n l e)) (let more = more_notes i l.notes n in omega arith)

pub pushes_asked : (i v : ℕ) (ps : List (Put Name)) (ls : List Link) → asked_way i (world.push_all v ps ls) ≤ asked_way i ls + asks_put i ps
unfolding world.push_all asks_put
pushes_asked i v [] ls = omega arith
pushes_asked i v (p ∷ ps) ls =
    let rest = pushes_asked i v ps (world.with_link (world.pushed p.note) v p.to ls) in
    let here = changed_sum (λ l. asked_in i l.notes) (world.pushed p.note) (once (asks_for i p.note)) v p.to ls (λ l. pushed_asked i p.note l l.cut refl) in omega arith

pub severed_asked : (i a b : ℕ) (ls : List Link) → asked_way i (world.with_link world.severed_link a b ls) ≤ asked_way i ls
unfolding world.severed_link asked_in
severed_asked i a b ls = let most = changed_sum (λ l. asked_in i l.notes) world.severed_link 0 a b ls less in omega arith
  where
    less : (l : Link) → asked_in i (world.severed_link l).notes ≤ asked_in i l.notes + 0
    less l = omega arith

-- the first note is taken
pub taken_asked : (i a b : ℕ) (ls : List Link) (l : Link) (n : Note Name) (ns : List (Note Name)) → world.link_at a b ls ≡ Some l → l.notes ≡ n ∷ ns → asked_way i (world.with_link (world.with_notes ns) a b ls) + once (asks_for i n) ≤ asked_way i ls
unfolding world.with_notes asked_in
taken_asked i a b ls l n ns e f = taken_sum (λ k. asked_in i k.notes) (world.with_notes ns) (once (asks_for i n)) a b ls l e (let all : asked_in i l.notes ≡ once (asks_for i n) + asked_in i ns = ap (λ ms. asked_in i ms) f in omega arith)

pub quiet_asked : (i : ℕ) (ls : List Link) → Quiet ls → asked_way i ls ≤ 0
unfolding sum_of asked_in
quiet_asked i [] h = omega arith
quiet_asked i (l ∷ ls) h = let rest = quiet_asked i ls h.2 in let here : asked_in i l.notes ≡ 0 = ap (λ ns. asked_in i ns) h.0 in omega arith

-- a note that is found counts
asked_one : (i p : ℕ) (n : Name) → once (asks_for i (Ask p i n)) ≡ 1
unfolding asks_for once
asked_one i p n = ap once (eq-eqb i i refl)

among_asked : (i p : ℕ) (n : Name) (ns : List (Note Name)) → IsAmong (Ask p i n) ns → 1 ≤ asked_in i ns
unfolding asked_in
among_asked i p n [] a = absurd a
among_asked i p n (m ∷ ns) (inl e) = let one : once (asks_for i m) ≡ 1 = subst (λ (k : Note Name). once (asks_for i k) ≡ 1) e (asked_one i p n) in omega arith
among_asked i p n (m ∷ ns) (inr a) = let rest = among_asked i p n ns a in omega arith

pub found_asked : (i a b p : ℕ) (n : Name) (ls : List Link) (l : Link) → world.link_at a b ls ≡ Some l → IsAmong (Ask p i n) l.notes → 1 ≤ asked_way i ls
unfolding world.with_notes asked_in
found_asked i a b p n ls l e k = let one = among_asked i p n l.notes k in let less = taken_sum (λ k. asked_in i k.notes) (world.with_notes []) (asked_in i l.notes) a b ls l e (omega arith) in omega arith

-- ---- gifts that stand unopened

unfoldable pub shut_all : ℕ → List (Vat Name) → ℕ
shut_all i [] = 0
shut_all i (s ∷ ss) = shut_in i s.gifts + shut_all i ss

-- one vat goes on
pub put_shut : (i v : ℕ) (s t : Vat Name) (vs : List (Vat Name)) → slice_get vs v ≡ Some s → shut_all i (put_at v t vs) + shut_in i s.gifts ≡ shut_all i vs + shut_in i t.gifts
unfolding put_at shut_all
put_shut i v s t [] e = cc
put_shut i zero s t (r ∷ vs) e = let same : r ≡ s = cc in let one : shut_in i r.gifts ≡ shut_in i s.gifts = ap (λ (z : Vat Name). shut_in i z.gifts) same in omega arith
put_shut i (suc v) s t (r ∷ vs) e = let rest = put_shut i v s t vs e in omega arith

shut_there : (i v : ℕ) (s : Vat Name) (vs : List (Vat Name)) → slice_get vs v ≡ Some s → shut_in i s.gifts ≤ shut_all i vs
unfolding shut_all
shut_there i v s [] e = cc
shut_there i zero s (r ∷ vs) e = let same : r ≡ s = cc in let one : shut_in i r.gifts ≡ shut_in i s.gifts = ap (λ (z : Vat Name). shut_in i z.gifts) same in omega arith
shut_there i (suc v) s (r ∷ vs) e = let rest = shut_there i v s vs e in omega arith

shut_one : (i : ℕ) (g : GiftEntry Name) → g.number ≡ i → g.opened ≡ false → once (is_shut i g) ≡ 1
unfolding is_shut once
shut_one i g e f = ap (λ b. once (b && not g.opened)) (eq-eqb g.number i e) ∙ ap (λ b. once (true && not b)) f

among_shut : (i : ℕ) (g : GiftEntry Name) (gs : List (GiftEntry Name)) → IsAmong g gs → g.number ≡ i → g.opened ≡ false → 1 ≤ shut_in i gs
unfolding shut_in
among_shut i g [] a e f = absurd a
among_shut i g (h ∷ gs) (inl k) e f = let one : once (is_shut i h) ≡ 1 = subst (λ (z : GiftEntry Name). once (is_shut i z) ≡ 1) k (shut_one i g e f) in omega arith
among_shut i g (h ∷ gs) (inr a) e f = let rest = among_shut i g gs a e f in omega arith

pub found_shut : (i v : ℕ) (s : Vat Name) (g : GiftEntry Name) (vs : List (Vat Name)) → slice_get vs v ≡ Some s → IsAmong g s.gifts → g.number ≡ i → g.opened ≡ false → 1 ≤ shut_all i vs
found_shut i v s g vs e a f h = let one = among_shut i g s.gifts a f h in let all = shut_there i v s vs e in omega arith

pub none_shut : (script : Script) (i v : ℕ) (ps : List Program) → shut_all i (world.fresh_from script v ps) ≡ 0
unfolding world.fresh_from world.fresh shut_all shut_in
none_shut script i v [] = refl
none_shut script i v (p ∷ ps) = let rest = none_shut script i (suc v) ps in omega arith

-- ---- the words of law_reference

same_once : (b : Bool) → once b ≡ fate.once b
unfolding once fate.once
same_once true = refl
same_once false = refl

pub same_drawn : (i : ℕ) (ds : List ℕ) → drawn_of i ds ≡ passing.drawn_of i ds
unfolding drawn_of passing.drawn_of
same_drawn i ds = same_once (is_in (word_of i) ds)

either_way : (i j : ℕ) (b c : Bool) → (j == i) ≡ b → (i == j) ≡ c → once b ≡ fate.once c
unfolding once fate.once
either_way i j true true e f = refl
either_way i j false false e f = refl
either_way i j true false e f = let back : (i == j) ≡ true = eq-eqb i j (sym (eqb-true j i e)) in cc
either_way i j false true e f = let back : (j == i) ≡ true = eq-eqb j i (sym (eqb-true i j f)) in cc

mutual
  unfolding brought brought_all gifts_in gifts_in_all world.read_passed world.read_all world.plain_read world.many_read world.more_read

  passed_same : (i : ℕ) (y : Passed Name) (ks : List Name) → brought i (world.read_passed y ks).read ≡ gifts_in i y
  passed_same i (Plain y) ks = refl
  passed_same i (AGift h j) ks = either_way i j (j == i) (i == j) refl refl
  passed_same i (Many ys) ks = all_same i ys ks

  all_same : (i : ℕ) (ys : Passeds Name) (ks : List Name) → brought_all i (world.read_all ys ks).read ≡ gifts_in_all i ys
  all_same i NoMore ks = refl
  all_same i (More y ys) ks = let one = passed_same i y ks in let rest = all_same i ys (world.read_passed y ks).known in omega arith

-- what passes in a note, as it is read
pub note_same : (i : ℕ) (n : Note Name) (ks : List Name) → brought_in i (read_note ks n) ≡ gifts_in_note i n
unfolding brought_in gifts_in_note read_note
note_same i (Deliver d n verb ys) ks = all_same i ys ks
note_same i (SettledTo n y) ks = passed_same i y (world.known_after ks n)
note_same i other ks = refl

pub asks_same : (i : ℕ) (n : Note Name) (ks : List Name) → asks_for i (read_note ks n) ≡ asks_for i n
unfolding asks_for read_note
asks_same i (Deliver d n verb ys) ks = refl
asks_same i other ks = refl
