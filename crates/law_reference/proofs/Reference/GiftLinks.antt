-- The notes under way once a vat put its notes, once a note was taken, and once a link was cut: the gifts in them, and what they tell of providers.
use Rattle.std.proofs.Common.{◌≡◌, ℕ, zero, suc, ◌+◌, ◌≤◌, Bool, true, false, List, [], ◌∷◌, ◌++◌, Option, Some, refl, sym, ap, arith, ◌==◌}
use Rattle.def_machine.specs.Values.{Name}
use Rattle.def_machine.specs.State.{Note, Put}
use Rattle.def_run.specs.World as world
use Rattle.def_run.specs.World.{Program, Link}
use Rattle.law_fate.specs.Fates.Lasting.{Each}
use Rattle.law_fate.proofs.Fates.PlacesLast.{each_end}
use Rattle.law_reference.specs.Reference.GiftPassing.{gifts_in_note, gifts_in_notes, gifts_on, Provides, LinkProvides}
use Rattle.law_reference.proofs.Reference.NotesLift.{ends_are}
use Rattle.law_reference.proofs.Reference.Puts.{gifts_out}

-- ---- gifts

notes_end : (i : ℕ) (ns : List (Note Name)) (n : Note Name) → gifts_in_notes i (ns ++ n ∷ []) ≡ gifts_in_notes i ns + gifts_in_note i n
unfolding gifts_in_notes
notes_end i [] n = omega arith
notes_end i (m ∷ ns) n = let rest = notes_end i ns n in omega arith

either_link : (P : Link → Type 0) (b : Bool) (l j : Link) → P l → P j → P (elim b [ true ↦ l | false ↦ j ])
either_link P true l j h k = h
either_link P false l j h k = k

pub pushed_notes : (i : ℕ) (n : Note Name) (l : Link) → gifts_in_notes i (world.pushed n l).notes ≤ gifts_in_notes i l.notes + gifts_in_note i n
unfolding world.pushed
pushed_notes i n l = either_link (λ k. gifts_in_notes i k.notes ≤ gifts_in_notes i l.notes + gifts_in_note i n) l.cut (record l { log = l.log ++ n ∷ [] }) (record l { notes = l.notes ++ n ∷ []; log = l.log ++ n ∷ [] }) (omega arith) (let more = notes_end i l.notes n in omega arith)

pub pushed_log : (i : ℕ) (n : Note Name) (l : Link) → gifts_in_notes i (world.pushed n l).log ≤ gifts_in_notes i l.log + gifts_in_note i n
unfolding world.pushed
pushed_log i n l = either_link (λ k. gifts_in_notes i k.log ≤ gifts_in_notes i l.log + gifts_in_note i n) l.cut (record l { log = l.log ++ n ∷ [] }) (record l { notes = l.notes ++ n ∷ []; log = l.log ++ n ∷ [] }) (let more = notes_end i l.log n in omega arith) (let more = notes_end i l.log n in omega arith)

-- in that part of each link
module _ (part : Link → List (Note Name)) (i : ℕ) where
  link_or : (c : ℕ) (b : Bool) (l j : Link) (ls rest : List Link) → gifts_in_notes i (part j) ≤ gifts_in_notes i (part l) + c → gifts_on part i rest ≤ gifts_on part i ls + c → gifts_on part i (elim b [ true ↦ j ∷ ls | false ↦ l ∷ rest ]) ≤ gifts_on part i (l ∷ ls) + c
  unfolding gifts_on
  link_or c true l j ls rest h k = omega arith
  link_or c false l j ls rest h k = omega arith

  -- a link changes by which it has c gifts more at most
  with_link_gifts : (c : ℕ) (f : Link → Link) → ((l : Link) → gifts_in_notes i (part (f l)) ≤ gifts_in_notes i (part l) + c) → (v w : ℕ) (ls : List Link) → gifts_on part i (world.with_link f v w ls) ≤ gifts_on part i ls + c
  unfolding world.with_link
  with_link_gifts c f g v w [] = omega arith
  with_link_gifts c f g v w (l ∷ ls) = link_or c (world.is_link v w l) l (f l) ls (world.with_link f v w ls) (g l) (with_link_gifts c f g v w ls)

  -- a link changes by which it has no gifts more
  pub with_link_less : (f : Link → Link) → ((l : Link) → gifts_in_notes i (part (f l)) ≤ gifts_in_notes i (part l)) → (v w : ℕ) (ls : List Link) → gifts_on part i (world.with_link f v w ls) ≤ gifts_on part i ls
  with_link_less f g v w ls = let a = with_link_gifts 0 f (λ l. let b = g l in omega arith) v w ls in omega arith

  pub push_all_gifts : ((n : Note Name) (l : Link) → gifts_in_notes i (part (world.pushed n l)) ≤ gifts_in_notes i (part l) + gifts_in_note i n) → (v : ℕ) (ps : List (Put Name)) (ls : List Link) → gifts_on part i (world.push_all v ps ls) ≤ gifts_on part i ls + gifts_out i ps
  unfolding world.push_all gifts_out
  push_all_gifts more v [] ls = omega arith
  push_all_gifts more v (p ∷ ps) ls = let a = push_all_gifts more v ps (world.with_link (world.pushed p.note) v p.to ls) in let b = with_link_gifts (gifts_in_note i p.note) (world.pushed p.note) (more p.note) v p.to ls in omega arith

pub severed_less : (i : ℕ) (l : Link) → gifts_in_notes i (world.severed_link l).notes ≤ gifts_in_notes i l.notes
unfolding world.severed_link gifts_in_notes
severed_less i l = omega arith

pub severed_log : (i : ℕ) (l : Link) → gifts_in_notes i (world.severed_link l).log ≤ gifts_in_notes i l.log
unfolding world.severed_link
severed_log i l = omega arith

pub taken_log : (i : ℕ) (ns : List (Note Name)) (l : Link) → gifts_in_notes i (world.with_notes ns l).log ≤ gifts_in_notes i l.log
unfolding world.with_notes
taken_log i ns l = omega arith

taken_or : (i : ℕ) (n : Note Name) (ns : List (Note Name)) (b : Bool) (k l : Link) (o : Option Link) (ls rest : List Link) → k.notes ≡ n ∷ ns → elim b [ true ↦ Some l | false ↦ o ] ≡ Some k → (o ≡ Some k → gifts_on (λ j. j.notes) i rest ≤ gifts_on (λ j. j.notes) i ls)
    → gifts_on (λ j. j.notes) i (elim b [ true ↦ world.with_notes ns l ∷ ls | false ↦ l ∷ rest ]) ≤ gifts_on (λ j. j.notes) i (l ∷ ls)
unfolding gifts_on world.with_notes gifts_in_notes
taken_or i n ns true k l o ls rest e f g = let same : l ≡ k = cc in let notes : l.notes ≡ n ∷ ns = rw (sym same) at e in rw (notes, gifts_in_notes) (omega arith)
taken_or i n ns false k l o ls rest e f g = let a = g f in omega arith

-- the first note is taken from a link
pub taken_less : (i v w : ℕ) (n : Note Name) (ns : List (Note Name)) (k : Link) → k.notes ≡ n ∷ ns → (ls : List Link) → world.link_at v w ls ≡ Some k → gifts_on (λ j. j.notes) i (world.with_link (world.with_notes ns) v w ls) ≤ gifts_on (λ j. j.notes) i ls
unfolding world.with_link world.link_at
taken_less i v w n ns k e [] f = cc
taken_less i v w n ns k e (l ∷ ls) f = taken_or i n ns (world.is_link v w l) k l (world.link_at v w ls) ls (world.with_link (world.with_notes ns) v w ls) e f (λ g. taken_less i v w n ns k e ls g)

-- ---- providers

module _ (P : ℕ → ℕ) (d : List ℕ) where
  abbrev pub LinkTells : Link → Type 0
  LinkTells l = LinkProvides P d l

  tells_or : (b : Bool) (l j : Link) (ls rest : List Link) → LinkTells l → Each LinkTells ls → (b ≡ true → LinkTells j) → Each LinkTells rest → Each LinkTells (elim b [ true ↦ j ∷ ls | false ↦ l ∷ rest ])
  tells_or true l j ls rest h i f g = (f refl, i)
  tells_or false l j ls rest h i f g = (h, g)

  pub with_link_tells : (f : Link → Link) (v w : ℕ) → ((l : Link) → l.from ≡ v → l.to ≡ w → LinkTells l → LinkTells (f l)) → (ls : List Link) → Each LinkTells ls → Each LinkTells (world.with_link f v w ls)
  unfolding world.with_link
  with_link_tells f v w g [] h = tt
  with_link_tells f v w g (l ∷ ls) h = tells_or (world.is_link v w l) l (f l) ls (world.with_link f v w ls) h.0 h.1 (λ e. let at = ends_are l v w e in g l at.0 at.1 h.0) (with_link_tells f v w g ls h.1)

  pushed_tells_or : (b : Bool) (n : Note Name) (l : Link) → Provides P d l.from l.to n → LinkTells l → LinkTells (elim b [ true ↦ record l { log = l.log ++ n ∷ [] } | false ↦ record l { notes = l.notes ++ n ∷ []; log = l.log ++ n ∷ [] } ])
  pushed_tells_or true n l i h = (each_end (Provides P d l.from l.to) l.log n h.0 i, h.1)
  pushed_tells_or false n l i h = (each_end (Provides P d l.from l.to) l.log n h.0 i, each_end (Provides P d l.from l.to) l.notes n h.1 i)

  pushed_tells : (n : Note Name) (v w : ℕ) → Provides P d v w n → (l : Link) → l.from ≡ v → l.to ≡ w → LinkTells l → LinkTells (world.pushed n l)
  unfolding world.pushed
  pushed_tells n v w i l e f h = pushed_tells_or l.cut n l (rw (sym e, sym f) at i) h

  pub push_all_tells : (v : ℕ) (ps : List (Put Name)) (ls : List Link) → Each (λ (p : Put Name). Provides P d v p.to p.note) ps → Each LinkTells ls → Each LinkTells (world.push_all v ps ls)
  unfolding world.push_all
  push_all_tells v [] ls i h = h
  push_all_tells v (p ∷ ps) ls i h = push_all_tells v ps (world.with_link (world.pushed p.note) v p.to ls) i.1 (with_link_tells (world.pushed p.note) v p.to (pushed_tells p.note v p.to i.0) ls h)

  pub severed_tells : (l : Link) → LinkTells l → LinkTells (world.severed_link l)
  unfolding world.severed_link
  severed_tells l h = (h.0, tt)

  pub taken_tells : (v w : ℕ) (ns : List (Note Name)) → Each (Provides P d v w) ns → (l : Link) → l.from ≡ v → l.to ≡ w → LinkTells l → LinkTells (world.with_notes ns l)
  unfolding world.with_notes
  taken_tells v w ns i l e f h = (h.0, rw (sym e, sym f) at i)

  found_or : (b : Bool) (v w : ℕ) (l k : Link) (o : Option Link) → (b ≡ true → (l.from ≡ v) × (l.to ≡ w)) → LinkTells l → (o ≡ Some k → Each (Provides P d v w) k.notes) → elim b [ true ↦ Some l | false ↦ o ] ≡ Some k → Each (Provides P d v w) k.notes
  found_or true v w l k o f h g e = let same : l ≡ k = cc in let at = f refl in let one : Each (Provides P d v w) l.notes = rw (at.0, at.1) at h.1 in rw same at one
  found_or false v w l k o f h g e = g e

  -- what the notes of a link tell that is found by its ends
  pub found_tells : (v w : ℕ) (k : Link) (ls : List Link) → Each LinkTells ls → world.link_at v w ls ≡ Some k → Each (Provides P d v w) k.notes
  unfolding world.link_at
  found_tells v w k [] h e = cc
  found_tells v w k (l ∷ ls) h e = found_or (world.is_link v w l) v w l k (world.link_at v w ls) (ends_are l v w) h.0 (λ g. found_tells v w k ls h.1 g) e

  to_or : (b : Bool) (l : Link) (ls : List Link) → LinkTells l → Each LinkTells ls → Each LinkTells (elim b [ true ↦ ls | false ↦ l ∷ ls ])
  to_or true l ls h i = i
  to_or false l ls h i = (h, i)

  links_to_tell : (v w : ℕ) (ps : List Program) → Each LinkTells (world.links_to v w ps)
  unfolding world.links_to
  links_to_tell v w [] = tt
  links_to_tell v w (p ∷ ps) = to_or (v == w) (record { from = v; to = w; cut = false; notes = []; roots = world.roots_for v p; log = [] }) (world.links_to v (suc w) ps) (tt, tt) (links_to_tell v (suc w) ps)

  each_append : (xs ys : List Link) → Each LinkTells xs → Each LinkTells ys → Each LinkTells (xs ++ ys)
  each_append [] ys h k = k
  each_append (x ∷ xs) ys h k = (h.0, each_append xs ys h.1 k)

  pub links_from_tell : (all : List Program) (v : ℕ) (ps : List Program) → Each LinkTells (world.links_from all v ps)
  unfolding world.links_from
  links_from_tell all v [] = tt
  links_from_tell all v (p ∷ ps) = each_append (world.links_to v zero all) (world.links_from all (suc v) ps) (links_to_tell v zero all) (links_from_tell all (suc v) ps)

-- at the start no gift was put
module _ (part : Link → List (Note Name)) (i : ℕ) (empty : (v w : ℕ) (p : Program) → part (record { from = v; to = w; cut = false; notes = []; roots = world.roots_for v p; log = [] }) ≡ []) where
  to_none : (b : Bool) (l : Link) (ls : List Link) → part l ≡ [] → gifts_on part i ls ≡ 0 → gifts_on part i (elim b [ true ↦ ls | false ↦ l ∷ ls ]) ≡ 0
  unfolding gifts_on gifts_in_notes
  to_none true l ls h k = k
  to_none false l ls h k = let a : gifts_in_notes i (part l) ≡ 0 = ap (gifts_in_notes i) h in omega arith

  links_to_none : (v w : ℕ) (ps : List Program) → gifts_on part i (world.links_to v w ps) ≡ 0
  unfolding world.links_to gifts_on
  links_to_none v w [] = refl
  links_to_none v w (p ∷ ps) = to_none (v == w) (record { from = v; to = w; cut = false; notes = []; roots = world.roots_for v p; log = [] }) (world.links_to v (suc w) ps) (empty v w p) (links_to_none v (suc w) ps)

  append_none : (xs ys : List Link) → gifts_on part i xs ≡ 0 → gifts_on part i ys ≡ 0 → gifts_on part i (xs ++ ys) ≡ 0
  unfolding gifts_on
  append_none [] ys h k = k
  append_none (x ∷ xs) ys h k = let rest = append_none xs ys (omega arith) k in omega arith

  pub links_from_none : (all : List Program) (v : ℕ) (ps : List Program) → gifts_on part i (world.links_from all v ps) ≡ 0
  unfolding world.links_from gifts_on
  links_from_none all v [] = refl
  links_from_none all v (p ∷ ps) = append_none (world.links_to v zero all) (world.links_from all (suc v) ps) (links_to_none v zero all) (links_from_none all (suc v) ps)
