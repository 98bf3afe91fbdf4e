-- Two places of one message are two: what a world with one place at most cannot have.
use Rattle.std.proofs.Common.{◌≡◌, ℕ, zero, suc, ◌+◌, ◌≤◌, Bool, true, false, List, [], ◌∷◌, ◌++◌, Option, Some, refl, sym, ap, ◌∙◌, ◌⊎◌, inl, inr, arith, ◌==◌}
use Rattle.std.specs.Prelude.{slice_get}
use Rattle.std.proofs.lemmas.Bool.{eqb-true, eq-eqb}
use Rattle.def_machine.specs.Values.{Name, Object, Answer, Sent, Msg}
use Rattle.def_machine.specs.State.{Known, Note, Deliver, Put, Vat}
use Rattle.def_run.specs.World.{Link, link_at, is_link, with_link, pushed, push_all}
use Rattle.law_fate.specs.Fates.Fate.{one, total, at_names, at_vat, in_note, of_note, on_link, once}
use Rattle.law_fate.specs.Fates.Carry.{fare, weight, held_at, put_weight, link_weight}
use Rattle.law_reference.proofs.Reference.LinksCut.{fits_pushed}
use Rattle.law_fate.proofs.Name.SameNames.{same_self}
use Rattle.law_reference.specs.Reference.Behind.{Bears}
use Rattle.law_reference.proofs.Reference.First.{PutsFirst}
use Rattle.law_reference.proofs.Reference.AnswerLinks.{AtLink, with_any}

true_false : true ≡ false → ⊥
true_false e = cc

-- ---- sums

pub total_at : {A : Type 0} (f : A → ℕ) (xs : List A) (i : ℕ) (x : A) → slice_get xs i ≡ Some x → f x ≤ total f xs
unfolding total
total_at f [] i x e = cc
total_at f (y ∷ xs) zero x e = let same : y ≡ x = cc in rw same (omega arith)
total_at f (y ∷ xs) (suc i) x e = let rest = total_at f xs i x e in omega arith

pub total_two : {A : Type 0} (f : A → ℕ) (xs : List A) (i j : ℕ) (x y : A) → slice_get xs i ≡ Some x → slice_get xs j ≡ Some y → (i ≡ j → ⊥) → f x + f y ≤ total f xs
unfolding total
total_two f [] i j x y e g n = cc
total_two f (z ∷ xs) zero zero x y e g n = absurd (n refl)
total_two f (z ∷ xs) zero (suc j) x y e g n = let same : z ≡ x = cc in let rest = total_at f xs j y g in rw same (omega arith)
total_two f (z ∷ xs) (suc i) zero x y e g n = let same : z ≡ y = cc in let rest = total_at f xs i x e in rw same (omega arith)
total_two f (z ∷ xs) (suc i) (suc j) x y e g n = let rest = total_two f xs i j x y e g (λ k. n (ap suc k)) in omega arith

pub link_total : (f : Link → ℕ) (a b : ℕ) (ls : List Link) (l : Link) → link_at a b ls ≡ Some l → f l ≤ total f ls
unfolding link_at total
link_total f a b [] l e = cc
link_total f a b (k ∷ ls) l e = either (is_link a b k) refl e (λ i. link_total f a b ls l i)
  where
    either : (c : Bool) → is_link a b k ≡ c → ◌≡◌ {A = Option Link} (elim c [ true ↦ Some k | false ↦ link_at a b ls ]) (Some l) → (link_at a b ls ≡ Some l → f l ≤ total f ls) → f l ≤ f k + total f ls
    either true i j rest = let same : k ≡ l = cc in rw same (omega arith)
    either false i j rest = let r = rest j in omega arith

-- ---- what is held, and what it weighs

held_names : (x : Name) (ks : List (Known Name)) → held_at x ks ≤ at_names x ks
unfolding held_at at_names
held_names x [] = omega arith
held_names x (k ∷ ks) = let rest = held_names x ks in omega arith

pub held_places : (x : Name) (s : Vat Name) → held_at x s.known ≤ at_vat x s
unfolding at_vat
held_places x s = let h = held_names x s.known in omega arith

fare_most : (n : Name) (c : ℕ) → fare n c ≤ c + c
unfolding fare
fare_most (Object w i) c = omega arith
fare_most other c = omega arith

fare_least : (n : Name) (c : ℕ) → c ≤ fare n c
unfolding fare
fare_least (Object w i) c = omega arith
fare_least other c = omega arith

pub note_most : (x : Name) (n : Note Name) → weight x n ≤ of_note x n + of_note x n
unfolding weight of_note in_note
note_most x (Deliver d n verb ys) = fare_most n (one d.message x)
note_most x other = omega arith

pub note_least : (x : Name) (n : Note Name) → of_note x n ≤ weight x n
unfolding weight of_note in_note
note_least x (Deliver d n verb ys) = fare_least n (one d.message x)
note_least x other = omega arith

notes_most : (x : Name) (ns : List (Note Name)) → total (weight x) ns ≤ total (of_note x) ns + total (of_note x) ns
unfolding total
notes_most x [] = omega arith
notes_most x (n ∷ ns) = let a = note_most x n in let b = notes_most x ns in omega arith

notes_least : (x : Name) (ns : List (Note Name)) → total (of_note x) ns ≤ total (weight x) ns
unfolding total
notes_least x [] = omega arith
notes_least x (n ∷ ns) = let a = note_least x n in let b = notes_least x ns in omega arith

pub link_most : (x : Name) (l : Link) → link_weight x l ≤ on_link x l + on_link x l
unfolding link_weight on_link
link_most x l = notes_most x l.notes

pub link_least : (x : Name) (l : Link) → on_link x l ≤ link_weight x l
unfolding link_weight on_link
link_least x l = notes_least x l.notes

-- ---- notes that are put

module _ (x : Name) where
  -- what it weighs in the notes put to a vat
  unfoldable pub put_to : ℕ → List (Put Name) → ℕ
  put_to b [] = 0
  put_to b (p ∷ ps) = elim (p.to == b) [ true ↦ weight x p.note | false ↦ 0 ] + put_to b ps

  to_most : (c : Bool) (n : ℕ) → elim c [ true ↦ n | false ↦ 0 ] ≤ n
  to_most true n = omega arith
  to_most false n = omega arith

  pub put_most : (b : ℕ) (ps : List (Put Name)) → put_to b ps ≤ put_weight x ps
  unfolding put_to put_weight
  put_most b [] = omega arith
  put_most b (p ∷ ps) = let rest = put_most b ps in let here = to_most (p.to == b) (weight x p.note) in omega arith

  to_two : (b c : ℕ) (p : Put Name) → (b ≡ c → ⊥) → (d e : Bool) → (p.to == b) ≡ d → (p.to == c) ≡ e → elim d [ true ↦ weight x p.note | false ↦ 0 ] + elim e [ true ↦ weight x p.note | false ↦ 0 ] ≤ weight x p.note
  to_two b c p n true true f g = absurd (n (sym (eqb-true p.to b f) ∙ eqb-true p.to c g))
  to_two b c p n true false f g = omega arith
  to_two b c p n false true f g = omega arith
  to_two b c p n false false f g = omega arith

  pub put_two : (b c : ℕ) (ps : List (Put Name)) → (b ≡ c → ⊥) → put_to b ps + put_to c ps ≤ put_weight x ps
  unfolding put_to put_weight
  put_two b c [] n = omega arith
  put_two b c (p ∷ ps) n = let rest = put_two b c ps n in let here = to_two b c p n (p.to == b) (p.to == c) refl refl in omega arith

  total_end : (f : Note Name → ℕ) (ns : List (Note Name)) (n : Note Name) → total f (ns ++ n ∷ []) ≡ total f ns + f n
  unfolding total
  total_end f [] n = omega arith
  total_end f (k ∷ ns) n = let rest = total_end f ns n in omega arith

  pushed_weight : (c : Bool) (n : Note Name) (l : Link) → (let j : Link = elim c [ true ↦ record l { log = l.log ++ n ∷ [] } | false ↦ record l { notes = l.notes ++ n ∷ []; log = l.log ++ n ∷ [] } ] in link_weight x j ≤ link_weight x l + weight x n)
  unfolding link_weight
  pushed_weight true n l = omega arith
  pushed_weight false n l = let more = total_end (weight x) l.notes n in omega arith

  pushed_weighs : (l : Link) (n : Note Name) → link_weight x (pushed n l) ≤ link_weight x l + weight x n
  unfolding pushed
  pushed_weighs l n = pushed_weight l.cut n l

  -- what a link weighs after, from a link before
  abbrev pub From : ℕ → ℕ → List Link → ℕ → Link → Type 0
  From a b ls c l = (k : Link) × (link_at a b ls ≡ Some k) × (link_weight x l ≤ link_weight x k + c)

  pub from_itself : (a b : ℕ) (ls : List Link) → AtLink a b (From a b ls 0) ls
  from_itself a b ls l e = (l, e, (omega arith))

  push_from : (v b : ℕ) (old : List Link) (c : ℕ) (ps : List (Put Name)) (ls : List Link) → AtLink v b (From v b old c) ls → AtLink v b (From v b old (c + put_to b ps)) (push_all v ps ls)
  unfolding push_all put_to
  push_from v b old c [] ls h = λ l e. let f = h l e in let g = f.2 in (f.0, f.1, (omega arith))
  push_from v b old c (p ∷ ps) ls h = either (p.to == b) refl (λ d k. push_from v b old d ps (with_link (pushed p.note) v p.to ls) k)
    where
      more : (d : ℕ) → weight x p.note ≤ d → (b ≡ p.to) ⊎ (b ≡ p.to → ⊥) → AtLink v b (From v b old (c + d)) (with_link (pushed p.note) v p.to ls)
      more d i j = with_any v b v p.to (From v b old (c + d)) (pushed p.note) (fits_pushed v b p.note) ls
          (λ l e y z. let f = h l e in let g = f.2 in let w = pushed_weighs l p.note in (f.0, f.1, (omega arith))) (λ l e y. let f = h l e in let g = f.2 in (f.0, f.1, (omega arith)))

      none : (b ≡ p.to → ⊥) → AtLink v b (From v b old c) (with_link (pushed p.note) v p.to ls)
      none n = with_any v b v p.to (From v b old c) (pushed p.note) (fits_pushed v b p.note) ls (λ l e y z. absurd (n z)) (λ l e y. h l e)

      either : (d : Bool) → (p.to == b) ≡ d → ((d : ℕ) → AtLink v b (From v b old d) (with_link (pushed p.note) v p.to ls) → AtLink v b (From v b old (d + put_to b ps)) (push_all v ps (with_link (pushed p.note) v p.to ls))) → AtLink v b (From v b old (c + (elim d [ true ↦ weight x p.note | false ↦ 0 ] + put_to b ps))) (push_all v ps (with_link (pushed p.note) v p.to ls))
      either true i rest l e = let f = rest (c + weight x p.note) (more (weight x p.note) (omega arith) (inl (sym (eqb-true p.to b i)))) l e in let g = f.2 in (f.0, f.1, (omega arith))
      either false i rest l e = let f = rest c (none (λ n. true_false (sym (eq-eqb p.to b (sym n)) ∙ i))) l e in let g = f.2 in (f.0, f.1, (omega arith))

  pub pushed_from : (v b : ℕ) (ps : List (Put Name)) (ls : List Link) → AtLink v b (From v b ls (put_to b ps)) (push_all v ps ls)
  pushed_from v b ps ls l e = let f = push_from v b ls 0 ps ls (from_itself v b ls) l e in let g = f.2 in (f.0, f.1, (omega arith))

-- where the message is put first, it is put
module _ (g : ℕ) (m : Msg) where
  bears_weighs : (n : Note Name) → Bears m (Answer g m) n → 1 ≤ weight (Sent m) n
  unfolding weight one once
  bears_weighs (Deliver d n verb ys) b = let least = fare_least n (one d.message (Sent m)) in let same : one d.message (Sent m) ≡ 1 = is_one d.message b.0 in omega arith
    where
      is_one : (id : Name) → id ≡ Sent m → one id (Sent m) ≡ 1
      is_one id e = rw (e, same_self (Sent m)) refl
  bears_weighs other b = absurd b

  pub first_weighs : (ps : List (Put Name)) → PutsFirst g m ps → 1 ≤ put_to (Sent m) g ps
  unfolding put_to
  first_weighs [] h = absurd h
  first_weighs (p ∷ ps) (inl b) = let w = bears_weighs p.note b.1 in let e = eq-eqb p.to g b.0 in rw e (omega arith)
  first_weighs (p ∷ ps) (inr h) = let rest = first_weighs ps h.1 in omega arith

-- ---- the first of some links, or another

pub head_link : (c : Bool) (k l : Link) (o : Option Link) → ◌≡◌ {A = Option Link} (elim c [ true ↦ Some k | false ↦ o ]) (Some l) → ((c ≡ true) × (k ≡ l)) ⊎ ((c ≡ false) × (o ≡ Some l))
head_link true k l o e = inl (refl, same)
  where
    same : k ≡ l
    same = cc
head_link false k l o e = inr (refl, e)
