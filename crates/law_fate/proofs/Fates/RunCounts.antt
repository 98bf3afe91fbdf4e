-- How what a world is made of changes the counts: vats, links, histories.
use Rattle.std.proofs.Common.{◌≡◌, ℕ, zero, suc, ◌+◌, ◌≤◌, Bool, true, false, List, [], ◌∷◌, ◌++◌, Option, Some, None, refl, sym, ap, ◌∙◌, arith, eqb-true}
use Rattle.std.specs.Prelude.{slice_get, nat_le, ◌==◌}
use Rattle.def_machine.specs.Values.{Name, Root, Object, Promise, Answer, Gift, Sent, Msg}
use Rattle.def_machine.specs.State.{Note, Put, Happened, Took, Sends, Reacts, Lost, Posted, Vat}
use Rattle.def_run.specs.World as world
use Rattle.def_run.specs.World.{Link, Event, LostCut}
use Rattle.law_fate.specs.Fates.Fate.{once, one, total, of_note, on_link, sent_here, sent_by, took_here, took_by, lost_here, lost_by, left_by, gone_here, gone, where_cut, sent_in, put_out}
use Rattle.law_fate.specs.Fates.FateLaws.{numbered}

pub total_append : {A : Type 0} (f : A → ℕ) (xs ys : List A) → total f (xs ++ ys) ≡ total f xs + total f ys
unfolding total
total_append f [] ys = omega arith
total_append f (x ∷ xs) ys = let rest = total_append f xs ys in omega arith

-- one in place of another
pub total_put : {A : Type 0} (f : A → ℕ) (v : ℕ) (xs : List A) (x y : A) → slice_get xs v ≡ Some x → total f (world.put_at v y xs) + f x ≡ total f xs + f y
unfolding total world.put_at
total_put f v [] x y e = cc
total_put f zero (z ∷ xs) x y e = let same : z ≡ x = cc in rw same (omega arith)
total_put f (suc v) (z ∷ xs) x y e = let rest = total_put f v xs x y e in omega arith

-- ---- what vats numbered

unfoldable pub all_numbered : Name → ℕ → List (Vat Name) → ℕ
all_numbered x d [] = 0
all_numbered x d (s ∷ ss) = numbered d s.messages x + all_numbered x (suc d) ss

numbered_puts : (x : Name) (d v : ℕ) (ss : List (Vat Name)) (s t : Vat Name) → slice_get ss v ≡ Some s → all_numbered x d (world.put_at v t ss) + numbered (d + v) s.messages x ≡ all_numbered x d ss + numbered (d + v) t.messages x
unfolding all_numbered world.put_at
numbered_puts x d v [] s t e = cc
numbered_puts x d zero (r ∷ ss) s t e = let same : r ≡ s = cc in let i : d + zero ≡ d = omega arith in rw (same, i) (omega arith)
numbered_puts x d (suc v) (r ∷ ss) s t e = let i : d + suc v ≡ suc d + v = omega arith in let rest = numbered_puts x (suc d) v ss s t e in rw i (omega arith)

pub numbered_put : (x : Name) (v : ℕ) (ss : List (Vat Name)) (s t : Vat Name) → slice_get ss v ≡ Some s → all_numbered x 0 (world.put_at v t ss) + numbered v s.messages x ≡ all_numbered x 0 ss + numbered v t.messages x
numbered_put x v ss s t e = let i : 0 + v ≡ v = omega arith in rw i at (numbered_puts x 0 v ss s t e)

once_most : (b : Bool) → once b ≤ 1
unfolding once
once_most true = omega arith
once_most false = omega arith

-- one by a test
abbrev pub pick : {A : Type 0} → Bool → A → A → A
pick b x y = elim b [ true ↦ x | false ↦ y ]

none_where : (m : Msg) (d k : ℕ) (b : Bool) → (d == m.sender) ≡ b → suc m.sender ≤ d → pick b (once (nat_le (suc m.number) k)) 0 ≡ 0
none_where m d k true e h = let i = eqb-true d m.sender e in absurd (omega arith)
none_where m d k false e h = refl

-- no vat from d on numbered it, where its sender is below d
none_numbered : (m : Msg) (d : ℕ) (ss : List (Vat Name)) → suc m.sender ≤ d → all_numbered (Sent m) d ss ≡ 0
unfolding all_numbered numbered
none_numbered m d [] h = refl
none_numbered m d (s ∷ ss) h = let rest = none_numbered m (suc d) ss (omega arith) in let here = none_where m d s.messages (d == m.sender) refl h in omega arith

once_where : (m : Msg) (d k : ℕ) (ss : List (Vat Name)) (b : Bool) → (d == m.sender) ≡ b → all_numbered (Sent m) (suc d) ss ≤ 1 → pick b (once (nat_le (suc m.number) k)) 0 + all_numbered (Sent m) (suc d) ss ≤ 1
once_where m d k ss true e h = let i = eqb-true d m.sender e in let none = none_numbered m (suc d) ss (omega arith) in let most = once_most (nat_le (suc m.number) k) in omega arith
once_where m d k ss false e h = omega arith

sent_numbered_once : (m : Msg) (d : ℕ) (ss : List (Vat Name)) → all_numbered (Sent m) d ss ≤ 1
unfolding all_numbered numbered
sent_numbered_once m d [] = omega arith
sent_numbered_once m d (s ∷ ss) = once_where m d s.messages ss (d == m.sender) refl (sent_numbered_once m (suc d) ss)

other_none : (x : Name) → ((d k : ℕ) → numbered d k x ≡ 0) → (d : ℕ) (ss : List (Vat Name)) → all_numbered x d ss ≤ 1
unfolding all_numbered
other_none x h d [] = omega arith
other_none x h d (s ∷ ss) = let rest = other_none x h (suc d) ss in let here = h d s.messages in omega arith

-- of a message there is one number in all vats, at most
pub numbered_once : (x : Name) (d : ℕ) (ss : List (Vat Name)) → all_numbered x d ss ≤ 1
unfolding numbered
numbered_once (Sent m) d ss = sent_numbered_once m d ss
numbered_once (Root a) d ss = other_none (Root a) (λ e k. refl) d ss
numbered_once (Object a b) d ss = other_none (Object a b) (λ e k. refl) d ss
numbered_once (Promise a b) d ss = other_none (Promise a b) (λ e k. refl) d ss
numbered_once (Answer a b) d ss = other_none (Answer a b) (λ e k. refl) d ss
numbered_once (Gift a b) d ss = other_none (Gift a b) (λ e k. refl) d ss

-- ---- links

-- on a link that is not cut a note put is one more
pushed_adds : (x : Name) (n : Note Name) (l : Link) → on_link x (world.pushed n l) ≤ on_link x l + where_cut l.cut 0 (of_note x n)
unfolding world.pushed on_link where_cut total
pushed_adds x n l = either l.cut
  where
    either : (b : Bool) → total (of_note x) (pick b (record l { log = l.log ++ n ∷ [] }) (record l { notes = l.notes ++ n ∷ []; log = l.log ++ n ∷ [] })).notes ≤ total (of_note x) l.notes + where_cut b 0 (of_note x n)
    either true = omega arith
    either false = let more = total_append (of_note x) l.notes (n ∷ []) in omega arith

pushed_cut : (n : Note Name) (l : Link) → (world.pushed n l).cut ≡ l.cut
unfolding world.pushed
pushed_cut n l = either l.cut
  where
    either : (b : Bool) → (pick b (record l { log = l.log ++ n ∷ [] }) (record l { notes = l.notes ++ n ∷ []; log = l.log ++ n ∷ [] })).cut ≡ l.cut
    either true = refl
    either false = refl

pub pushed_link : (n : Note Name) (v w : ℕ) (l : Link) → world.is_link v w (world.pushed n l) ≡ world.is_link v w l
unfolding world.pushed world.is_link
pushed_link n v w l = either l.cut
  where
    either : (b : Bool) → world.is_link v w (pick b (record l { log = l.log ++ n ∷ [] }) (record l { notes = l.notes ++ n ∷ []; log = l.log ++ n ∷ [] })) ≡ world.is_link v w l
    either true = refl
    either false = refl

push_where : (x : Name) (n : Note Name) (l : Link) (ls ms : List Link) (o : Option Link) (b : Bool) → total (on_link x) ms ≤ total (on_link x) ls + where_cut (world.cut_in o) 0 (of_note x n)
    → total (on_link x) (elim b [ true ↦ world.pushed n l ∷ ls | false ↦ l ∷ ms ]) ≤ on_link x l + total (on_link x) ls + where_cut (world.cut_in (elim b [ true ↦ Some l | false ↦ o ])) 0 (of_note x n)
unfolding total world.cut_in
push_where x n l ls ms o true h = let more = pushed_adds x n l in omega arith
push_where x n l ls ms o false h = omega arith

push_adds : (x : Name) (v w : ℕ) (n : Note Name) (ls : List Link) → total (on_link x) (world.with_link (world.pushed n) v w ls) ≤ total (on_link x) ls + where_cut (world.is_cut v w ls) 0 (of_note x n)
unfolding total world.with_link world.is_cut world.link_at
push_adds x v w n [] = omega arith
push_adds x v w n (l ∷ ls) = push_where x n l ls (world.with_link (world.pushed n) v w ls) (world.link_at v w ls) (world.is_link v w l) (push_adds x v w n ls)

-- ---- what leaves the ends of a link, and whether it is cut, as they are

cut_where : (u t : ℕ) (k l : Link) (ls ms : List Link) (b : Bool) → world.is_link u t k ≡ world.is_link u t l → k.cut ≡ l.cut → world.cut_in (world.link_at u t ms) ≡ world.cut_in (world.link_at u t ls)
    → world.cut_in (world.link_at u t (elim b [ true ↦ k ∷ ls | false ↦ l ∷ ms ])) ≡ world.cut_in (world.link_at u t (l ∷ ls))
unfolding world.link_at world.cut_in
cut_where u t k l ls ms true h i j = either (world.is_link u t k) (world.is_link u t l) h
  where
    either : (b c : Bool) → b ≡ c → world.cut_in (pick b (Some k) (world.link_at u t ls)) ≡ world.cut_in (pick c (Some l) (world.link_at u t ls))
    either true true e = i
    either true false e = cc
    either false true e = cc
    either false false e = refl
cut_where u t k l ls ms false h i j = either (world.is_link u t l)
  where
    either : (b : Bool) → world.cut_in (pick b (Some l) (world.link_at u t ms)) ≡ world.cut_in (pick b (Some l) (world.link_at u t ls))
    either true = refl
    either false = j

pub push_cut : (v w u t : ℕ) (n : Note Name) (ls : List Link) → world.is_cut u t (world.with_link (world.pushed n) v w ls) ≡ world.is_cut u t ls
unfolding world.with_link world.is_cut
push_cut v w u t n [] = refl
push_cut v w u t n (l ∷ ls) = cut_where u t (world.pushed n l) l ls (world.with_link (world.pushed n) v w ls) (world.is_link v w l) (pushed_link n u t l) (pushed_cut n l) (push_cut v w u t n ls)

-- the notes that a vat puts are on links that are not cut
pub push_all_adds : (x : Name) (v : ℕ) (ps : List (Put Name)) (ls : List Link) (cut : ℕ → Bool) → ((w : ℕ) → world.is_cut v w ls ≡ cut w) → total (on_link x) (world.push_all v ps ls) ≤ total (on_link x) ls + put_out cut x ps
unfolding world.push_all put_out
push_all_adds x v [] ls cut h = omega arith
push_all_adds x v (p ∷ ps) ls cut h =
    let rest = push_all_adds x v ps (world.with_link (world.pushed p.note) v p.to ls) cut (λ w. push_cut v p.to v w p.note ls ∙ h w) in
    let here = rw (h p.to) at (push_adds x v p.to p.note ls) in omega arith

-- ---- a link whose notes change

-- from one vat to another
abbrev pub Apart : Link → Type 0
Apart l = l.from ≡ l.to → ⊥

abbrev pub AllApart : List Link → Type 0
AllApart [] = Unit {0}
AllApart (l ∷ ls) = Apart l × AllApart ls

pub with_link_apart : (f : Link → Link) → ((l : Link) → Apart l → Apart (f l)) → (v w : ℕ) (ls : List Link) → AllApart ls → AllApart (world.with_link f v w ls)
unfolding world.with_link
with_link_apart f g v w [] h = tt
with_link_apart f g v w (l ∷ ls) h = either (world.is_link v w l) (with_link_apart f g v w ls h.1)
  where
    either : (b : Bool) → AllApart (world.with_link f v w ls) → AllApart (elim b [ true ↦ f l ∷ ls | false ↦ l ∷ world.with_link f v w ls ])
    either true i = (g l h.0, h.1)
    either false i = (h.0, i)

pushed_apart : (n : Note Name) (l : Link) → Apart l → Apart (world.pushed n l)
unfolding world.pushed
pushed_apart n l h = either l.cut
  where
    either : (b : Bool) → Apart (pick b (record l { log = l.log ++ n ∷ [] }) (record l { notes = l.notes ++ n ∷ []; log = l.log ++ n ∷ [] }))
    either true = h
    either false = h

pub push_all_apart : (v : ℕ) (ps : List (Put Name)) (ls : List Link) → AllApart ls → AllApart (world.push_all v ps ls)
unfolding world.push_all
push_all_apart v [] ls h = h
push_all_apart v (p ∷ ps) ls h = push_all_apart v ps (world.with_link (world.pushed p.note) v p.to ls) (with_link_apart (world.pushed p.note) (pushed_apart p.note) v p.to ls h)

change_where : (x : Name) (f : Link → Link) (k l : Link) (ls ms : List Link) (o : Option Link) (b : Bool) → elim b [ true ↦ Some l | false ↦ o ] ≡ Some k → (o ≡ Some k → total (on_link x) ms + on_link x k ≡ total (on_link x) ls + on_link x (f k))
    → total (on_link x) (elim b [ true ↦ f l ∷ ls | false ↦ l ∷ ms ]) + on_link x k ≡ on_link x l + total (on_link x) ls + on_link x (f k)
unfolding total
change_where x f k l ls ms o true e h = let same : l ≡ k = cc in rw same (omega arith)
change_where x f k l ls ms o false e h = let rest = h e in omega arith

-- a link that is there, changed
pub with_link_changes : (x : Name) (f : Link → Link) (v w : ℕ) (ls : List Link) (k : Link) → world.link_at v w ls ≡ Some k → total (on_link x) (world.with_link f v w ls) + on_link x k ≡ total (on_link x) ls + on_link x (f k)
unfolding world.with_link world.link_at total
with_link_changes x f v w [] k e = cc
with_link_changes x f v w (l ∷ ls) k e = change_where x f k l ls (world.with_link f v w ls) (world.link_at v w ls) (world.is_link v w l) e (λ i. with_link_changes x f v w ls k i)

none_where_absent : (f : Link → Link) (l : Link) (ls ms : List Link) (o : Option Link) (b : Bool) → pick b (Some l) o ≡ None → (o ≡ None → ms ≡ ls) → pick b (f l ∷ ls) (l ∷ ms) ≡ l ∷ ls
none_where_absent f l ls ms o true e h = cc
none_where_absent f l ls ms o false e h = ap (λ ks. l ∷ ks) (h e)

-- and one that is not there
pub with_link_absent : (f : Link → Link) (v w : ℕ) (ls : List Link) → world.link_at v w ls ≡ None → world.with_link f v w ls ≡ ls
unfolding world.with_link world.link_at
with_link_absent f v w [] e = refl
with_link_absent f v w (l ∷ ls) e = none_where_absent f l ls (world.with_link f v w ls) (world.link_at v w ls) (world.is_link v w l) e (λ i. with_link_absent f v w ls i)

both_true : (b c : Bool) → pick b c false ≡ true → (b ≡ true) × (c ≡ true)
both_true true c e = (refl, e)
both_true false c e = cc

pub ends_of : (v w : ℕ) (l : Link) → world.is_link v w l ≡ true → (l.from ≡ v) × (l.to ≡ w)
unfolding world.is_link
ends_of v w l e = let h = both_true (l.from == v) (l.to == w) e in (eqb-true l.from v h.0, eqb-true l.to w h.1)

back_where : (v w : ℕ) (l : Link) → Apart l → world.is_link v w l ≡ true → (b : Bool) → world.is_link w v l ≡ b → b ≡ false
back_where v w l h e true i = let a = ends_of v w l e in let b = ends_of w v l i in absurd (h (a.0 ∙ sym b.1))
back_where v w l h e false i = refl

-- the link back is another
back : (v w : ℕ) (l : Link) → Apart l → world.is_link v w l ≡ true → world.is_link w v l ≡ false
back v w l h e = back_where v w l h e (world.is_link w v l) refl

back_other : (v w : ℕ) (l : Link) (ls ms : List Link) (b : Bool) → world.is_link v w l ≡ b → Apart l → world.link_at w v ms ≡ world.link_at w v ls
    → world.link_at w v (pick b (world.severed_link l ∷ ls) (l ∷ ms)) ≡ world.link_at w v (l ∷ ls)
unfolding world.link_at world.severed_link world.is_link
back_other v w l ls ms true e h i = either (world.is_link w v l) (back v w l h e)
  where
    either : (b : Bool) → b ≡ false → pick b (Some (world.severed_link l)) (world.link_at w v ls) ≡ pick b (Some l) (world.link_at w v ls)
    either true j = cc
    either false j = refl
back_other v w l ls ms false e h i = ap (pick (world.is_link w v l) (Some l)) i

pub severed_back : (v w : ℕ) (ls : List Link) → AllApart ls → world.link_at w v (world.with_link world.severed_link v w ls) ≡ world.link_at w v ls
unfolding world.with_link
severed_back v w [] h = refl
severed_back v w (l ∷ ls) h = back_other v w l ls (world.with_link world.severed_link v w ls) (world.is_link v w l) refl h.0 (severed_back v w ls h.1)

-- ---- lines

module _ (ls : List Link) (v : ℕ) (x : Name) where
  ends_posted : (w : ℕ) (m : Name) (b : Bool) → total (took_by x) (elim b [ true ↦ LostCut m ∷ [] | false ↦ [] ]) + total (lost_by x) (elim b [ true ↦ LostCut m ∷ [] | false ↦ [] ]) ≡ where_cut b (one m x) 0
  unfolding total took_by lost_by where_cut
  ends_posted w m true = omega arith
  ends_posted w m false = omega arith

  ends_here : (e : Happened Name) → total (took_by x) (world.event_of ls v e) + total (lost_by x) (world.event_of ls v e) ≡ gone_here (λ w. world.is_cut v w ls) x e
  unfolding world.event_of gone_here total took_by took_here lost_by lost_here
  ends_here (Posted w m) = ends_posted w m (world.is_cut v w ls)
  ends_here (Took act m) = omega arith
  ends_here (Lost m) = omega arith
  ends_here _ = omega arith

  -- what became of a message in a step is told
  pub ends_told : (es : List (Happened Name)) → total (took_by x) (world.events_of ls v es) + total (lost_by x) (world.events_of ls v es) ≡ gone (λ w. world.is_cut v w ls) x es
  unfolding world.events_of gone total
  ends_told [] = omega arith
  ends_told (e ∷ es) = let here = ends_here e in let rest = ends_told es in let a = total_append (took_by x) (world.event_of ls v e) (world.events_of ls v es) in
      let b = total_append (lost_by x) (world.event_of ls v e) (world.events_of ls v es) in omega arith

  none_posted : (f : Event → ℕ) (m : Name) → f (LostCut m) ≡ 0 → (b : Bool) → total f (elim b [ true ↦ LostCut m ∷ [] | false ↦ [] ]) ≡ 0
  unfolding total
  none_posted f m h true = omega arith
  none_posted f m h false = refl

  sends_here : (e : Happened Name) → total (sent_by x) (world.event_of ls v e) ≡ sent_here x e
  unfolding world.event_of sent_by sent_here total
  sends_here (Posted w m) = none_posted (sent_by x) m refl (world.is_cut v w ls)
  sends_here (Sends act m) = omega arith
  sends_here (Reacts act y o m) = omega arith
  sends_here _ = omega arith

  -- what was sent in a step is told
  pub sends_told : (es : List (Happened Name)) → total (sent_by x) (world.events_of ls v es) ≡ sent_in x es
  unfolding world.events_of sent_in total
  sends_told [] = omega arith
  sends_told (e ∷ es) = let here = sends_here e in let rest = sends_told es in let a = total_append (sent_by x) (world.event_of ls v e) (world.events_of ls v es) in omega arith

  leaves_here : (e : Happened Name) → total (left_by x) (world.event_of ls v e) ≡ 0
  unfolding world.event_of left_by total
  leaves_here (Posted w m) = none_posted (left_by x) m refl (world.is_cut v w ls)
  leaves_here _ = omega arith

  pub none_left : (es : List (Happened Name)) → total (left_by x) (world.events_of ls v es) ≡ 0
  unfolding world.events_of total
  none_left [] = refl
  none_left (e ∷ es) = let here = leaves_here e in let rest = none_left es in let a = total_append (left_by x) (world.event_of ls v e) (world.events_of ls v es) in omega arith
