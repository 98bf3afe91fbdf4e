-- Links as notes are put that deliver no message: what stands there stands there still, and each note that delivers one was there.
use Rattle.std.proofs.Common.{◌≡◌, ℕ, Bool, true, false, List, [], ◌∷◌, ◌++◌, Option, Some, None, refl, sym, ap, subst, ◌∙◌, append_assoc}
use Rattle.std.proofs.lemmas.List.{append-nil}
use Rattle.std.specs.Prelude.{◌&&◌}
use Rattle.def_machine.specs.Values.{Name}
use Rattle.def_machine.specs.State.{Passeds, Delivery, Note, Deliver, Open, Ask, SettledTo, Elsewhere, Shorten, Put}
use Rattle.def_run.specs.World as world
use Rattle.def_run.specs.World.{Script, Link, link_at, with_link, pushed, push_all}
use Rattle.law_fate.specs.Name.Names.{AllOf}
use Rattle.law_fate.proofs.Name.Facts.{all_append}
use Rattle.law_order.specs.Ordering.Ways.{Item}
use Rattle.law_order.specs.Ordering.Places.{delivered, is_honest}
use Rattle.law_order.proofs.Ordering.Sends.{pushed_shut, pushed_open, link_here, link_behind}
use Rattle.law_order.specs.Tales.Middle.{DeliversNothing}

-- ---- a link is changed

-- what is found was found, or is that one and changed
pub data Found (f : Link → Link) (o p : Option Link) : Type 0 where
  as_it_was : p ≡ o → Found f o p
  changed : (l : Link) → o ≡ Some l → p ≡ Some (f l) → Found f o p

module _ (f : Link → Link) (ends : (c d : ℕ) (l : Link) → world.is_link c d (f l) ≡ world.is_link c d l) (a b : ℕ) where
  pub found : (c d : ℕ) (ls : List Link) → Found f (link_at c d ls) (link_at c d (with_link f a b ls))
  unfolding with_link link_at
  found c d [] = as_it_was refl
  found c d (l ∷ ls) = go (found c d ls) (world.is_link a b l) (world.is_link c d l) refl
    where
      go : Found f (link_at c d ls) (link_at c d (with_link f a b ls)) → (x y : Bool) → world.is_link c d l ≡ y → Found f (elim y [ true ↦ Some l | false ↦ link_at c d ls ]) (link_at c d (elim x [ true ↦ f l ∷ ls | false ↦ l ∷ with_link f a b ls ]))
      go r true true e = changed l refl (link_here c d (f l) ls (ends c d l ∙ e))
      go r true false e = as_it_was (link_behind c d (f l) ls (ends c d l ∙ e))
      go r false true e = as_it_was (link_here c d l (with_link f a b ls) e)
      go r false false e = subst (λ q. Found f (link_at c d ls) q) (sym (link_behind c d l (with_link f a b ls) e)) r

-- ---- notes are put

-- a link between the same two, with such notes behind
pub record Longer (l m : Link) : Type 0 where
  pub from : m.from ≡ l.from
  pub to : m.to ≡ l.to
  pub more : List (Note Name)
  pub notes : m.notes ≡ l.notes ++ more
  pub none : AllOf DeliversNothing more

longer_self : (l : Link) → Longer l l
longer_self l = record { from = refl; to = refl; more = []; notes = sym (append-nil l.notes); none = tt }

longer_on : (k l m : Link) → Longer k l → Longer l m → Longer k m
longer_on k l m g h = record {
  from = h.from ∙ g.from;
  to = h.to ∙ g.to;
  more = g.more ++ h.more;
  notes = h.notes ∙ ap (λ ns. ns ++ h.more) g.notes ∙ append_assoc k.notes g.more h.more;
  none = all_append DeliversNothing g.more h.more g.none h.none;
}

pushed_longer : (n : Note Name) (l : Link) → DeliversNothing n → (b : Bool) → l.cut ≡ b → Longer l (pushed n l)
pushed_longer n l h true e = subst (λ (k : Link). Longer l k) (sym (pushed_shut n l e)) (record { from = refl; to = refl; more = []; notes = sym (append-nil l.notes); none = tt })
pushed_longer n l h false e = subst (λ (k : Link). Longer l k) (sym (pushed_open n l e)) (record { from = refl; to = refl; more = n ∷ []; notes = refl; none = (h, tt) })

pushed_ends : (n : Note Name) (c d : ℕ) (l : Link) → world.is_link c d (pushed n l) ≡ world.is_link c d l
unfolding world.is_link
pushed_ends n c d l = go l.cut refl
  where
    go : (b : Bool) → l.cut ≡ b → world.is_link c d (pushed n l) ≡ world.is_link c d l
    go true e = ap (λ (k : Link). world.is_link c d k) (pushed_shut n l e)
    go false e = ap (λ (k : Link). world.is_link c d k) (pushed_open n l e)

-- what is found is there as it was, but for notes behind
pub data Stays (o p : Option Link) : Type 0 where
  is_none : o ≡ None → p ≡ None → Stays o p
  is_there : (l m : Link) → o ≡ Some l → p ≡ Some m → Longer l m → Stays o p

stays_self : (o : Option Link) → Stays o o
stays_self None = is_none refl refl
stays_self (Some l) = is_there l l refl refl (longer_self l)

none_some : {A : Type 0} {x : A} → ◌≡◌ {A = Option A} None (Some x) → ⊥
none_some e = cc

some_is : (l m : Link) → Some l ≡ Some m → l ≡ m
some_is l m e = cc

stays_on : (o p q : Option Link) → Stays o p → Stays p q → Stays o q
stays_on o p q (is_none e f) (is_none g h) = is_none e h
stays_on o p q (is_none e f) (is_there l m g h i) = absurd (none_some (sym f ∙ g))
stays_on o p q (is_there l m e f i) (is_none g h) = absurd (none_some (sym g ∙ f))
stays_on o p q (is_there l m e f i) (is_there k n g h j) = is_there l n e h (longer_on l m n i (subst (λ (z : Link). Longer z n) (some_is k m (sym g ∙ f)) j))

pub puts_stay : (v a b : ℕ) (ps : List (Put Name)) (ls : List Link) → AllOf (λ (p : Put Name). DeliversNothing p.note) ps → Stays (link_at a b ls) (link_at a b (push_all v ps ls))
unfolding push_all
puts_stay v a b [] ls h = stays_self (link_at a b ls)
puts_stay v a b (p ∷ ps) ls h = stays_on (link_at a b ls) (link_at a b (with_link (pushed p.note) v p.to ls)) (link_at a b (push_all v ps (with_link (pushed p.note) v p.to ls))) (one (found (pushed p.note) (pushed_ends p.note) v p.to a b ls)) (puts_stay v a b ps (with_link (pushed p.note) v p.to ls) h.1)
  where
    one : Found (pushed p.note) (link_at a b ls) (link_at a b (with_link (pushed p.note) v p.to ls)) → Stays (link_at a b ls) (link_at a b (with_link (pushed p.note) v p.to ls))
    one (as_it_was e) = subst (λ q. Stays (link_at a b ls) q) (sym e) (stays_self (link_at a b ls))
    one (changed l e f) = is_there l (pushed p.note l) e f (pushed_longer p.note l h.0 l.cut refl)

-- ---- what stands there

none_delivered : (ns : List (Note Name)) → AllOf DeliversNothing ns → delivered ns ≡ []
unfolding delivered
none_delivered [] h = refl
none_delivered (Deliver d n verb ys ∷ ns) h = absurd h.0
none_delivered (Open i n ∷ ns) h = none_delivered ns h.1
none_delivered (Ask p i n ∷ ns) h = none_delivered ns h.1
none_delivered (SettledTo n y ∷ ns) h = none_delivered ns h.1
none_delivered (Elsewhere n c ∷ ns) h = none_delivered ns h.1
none_delivered (Shorten n c i ∷ ns) h = none_delivered ns h.1

pub delivered_both : (ns ms : List (Note Name)) → delivered (ns ++ ms) ≡ delivered ns ++ delivered ms
unfolding delivered
delivered_both [] ms = refl
delivered_both (Deliver d n verb ys ∷ ns) ms = ap (λ is. record { mail = d.message; aim = n } ∷ is) (delivered_both ns ms)
delivered_both (Open i n ∷ ns) ms = delivered_both ns ms
delivered_both (Ask p i n ∷ ns) ms = delivered_both ns ms
delivered_both (SettledTo n y ∷ ns) ms = delivered_both ns ms
delivered_both (Elsewhere n c ∷ ns) ms = delivered_both ns ms
delivered_both (Shorten n c i ∷ ns) ms = delivered_both ns ms

module _ (script : Script) (honest : ℕ → Bool) where
  -- what stands on a link that may be found
  abbrev pub OnLink : Option Link → List Item
  OnLink o = elim o [ Some l ↦ elim (is_honest script honest l) [ true ↦ delivered l.notes | false ↦ [] ] | None ↦ [] ]

  honest_same : (l m : Link) → Longer l m → is_honest script honest m ≡ is_honest script honest l
  unfolding is_honest
  honest_same l m h = ap (λ c. honest c && honest m.to) h.from ∙ ap (λ c. honest l.from && honest c) h.to

  longer_stands : (l m : Link) → Longer l m → OnLink (Some m) ≡ OnLink (Some l)
  longer_stands l m h = ap (λ c. elim c [ true ↦ delivered m.notes | false ↦ [] ]) (honest_same l m h)
      ∙ ap (λ is. elim (is_honest script honest l) [ true ↦ is | false ↦ [] ]) (ap delivered h.notes ∙ delivered_both l.notes h.more ∙ ap (λ is. delivered l.notes ++ is) (none_delivered h.more h.none) ∙ append-nil (delivered l.notes))

  pub stays_stand : (o p : Option Link) → Stays o p → OnLink p ≡ OnLink o
  stays_stand o p (is_none e f) = ap (λ q. OnLink q) f ∙ sym (ap (λ q. OnLink q) e)
  stays_stand o p (is_there l m e f h) = ap (λ q. OnLink q) f ∙ longer_stands l m h ∙ sym (ap (λ q. OnLink q) e)

-- ---- a note that delivers

-- It stood there, with the same notes in front.
pub record IsAt (ns front : List (Note Name)) (d : Delivery Name) (n : Name) (ys : Passeds Name) : Type 0 where
  pub verb : List ℕ
  pub rest : List (Note Name)
  pub notes : ns ≡ front ++ Deliver d n verb ys ∷ rest

head_is : (m n : Note Name) (ms ns : List (Note Name)) → m ∷ ms ≡ n ∷ ns → (m ≡ n) × (ms ≡ ns)
head_is m n ms ns e = let a : m ≡ n = cc in let b : ms ≡ ns = cc in (a, b)

not_among : (ms front rest : List (Note Name)) (d : Delivery Name) (n : Name) (verb : List ℕ) (ys : Passeds Name) → AllOf DeliversNothing ms → ms ≡ front ++ Deliver d n verb ys ∷ rest → ⊥
not_among [] [] rest d n verb ys h e = cc
not_among [] (k ∷ front) rest d n verb ys h e = cc
not_among (m ∷ ms) [] rest d n verb ys h e = let s = head_is m (Deliver d n verb ys) ms rest e in subst DeliversNothing s.0 h.0
not_among (m ∷ ms) (k ∷ front) rest d n verb ys h e = let s = head_is m k ms (front ++ Deliver d n verb ys ∷ rest) e in not_among ms front rest d n verb ys h.1 s.1

pub was_at : (ns ms front rest : List (Note Name)) (d : Delivery Name) (n : Name) (verb : List ℕ) (ys : Passeds Name) → AllOf DeliversNothing ms → ns ++ ms ≡ front ++ Deliver d n verb ys ∷ rest → IsAt ns front d n ys
was_at [] ms front rest d n verb ys h e = absurd (not_among ms front rest d n verb ys h e)
was_at (k ∷ ns) ms [] rest d n verb ys h e = let s = head_is k (Deliver d n verb ys) (ns ++ ms) rest e in record { verb = verb; rest = ns; notes = ap (λ z. z ∷ ns) s.0 }
was_at (k ∷ ns) ms (m ∷ front) rest d n verb ys h e = let s = head_is k m (ns ++ ms) (front ++ Deliver d n verb ys ∷ rest) e in let r = was_at ns ms front rest d n verb ys h s.1 in
    record { verb = r.verb; rest = r.rest; notes = ap (λ z. z ∷ ns) s.0 ∙ ap (λ zs. m ∷ zs) r.notes }
