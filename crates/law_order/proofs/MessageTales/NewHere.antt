-- A message that is under way to a name which is no object came to its receiver in no line before.
use Rattle.std.proofs.Common.{◌≡◌, ℕ, zero, suc, ◌+◌, ◌≤◌, Bool, true, false, List, [], ◌∷◌, Option, Some, None, refl, sym, ap, subst, ◌∙◌, ◌⊎◌, inl, inr, ◌==◌, ◌&&◌, arith, eqb-true}
use Rattle.def_machine.specs.Values.{Words, Name, Object, Root, Promise, Answer, Gift, Sent, same_name}
use Rattle.def_machine.specs.State.{Passeds, Delivery, Note, Deliver, Sends}
use Rattle.def_run.specs.World as world
use Rattle.def_run.specs.World.{Script, Event, Here, Carried, CutLink, Link, World, Goes, link_at}
use Rattle.law_machine.specs.Run.Moves.{Moved, Still, Severs, Drops, Steps, Arrives, Hears, Tells, Nobody, AnyNotice, IsReached, went}
use Rattle.law_machine.proofs.Run.Told.{moves_told}
use Rattle.law_machine.proofs.Run.Honest.{NoDeed, NoWord, lifted}
use Rattle.law_fate.specs.Fates.Fate.{once, one, total, of_note, in_note, sent_here, sent_by, sent}
use Rattle.law_fate.specs.Fates.Carry.{carried_by, carries, fare, weight, link_weight, world_weight}
use Rattle.law_fate.proofs.Fates.RunCounts.{Apart, AllApart, with_link_apart, push_all_apart}
use Rattle.law_fate.proofs.Fates.RunFates.{begins_fated}
use Rattle.law_order.specs.Ordering.Worlds.{IsObject}
use Rattle.law_order.specs.Ordering.Order.{Coming, plains, comes_in, comes}
use Rattle.law_order.proofs.Ordering.Named.{same_self}
use Rattle.law_order.proofs.Ordering.Sends.{link_here, link_behind, found_ends}

-- ---- no link leads from a vat to itself

going : {x z : World} → Goes x ≡ Goes z → x ≡ z
going e = cc

module _ (script : Script) where
  taken_apart : (ns : List (Note Name)) (a v : ℕ) (ls : List Link) → AllApart ls → AllApart (world.with_link (world.with_notes ns) a v ls)
  unfolding world.with_notes
  taken_apart ns a v ls h = with_link_apart (world.with_notes ns) (λ l i. i) a v ls h

  severed_apart : (a b : ℕ) (ls : List Link) → AllApart ls → AllApart (world.with_link world.severed_link a b ls)
  unfolding world.severed_link
  severed_apart a b ls h = with_link_apart world.severed_link (λ l i. i) a b ls h

  cut_apart : (w y : World) (k a b : ℕ) → AllApart w.links → world.step script (CutLink a b) k w ≡ Goes y → AllApart y.links
  unfolding world.step world.cut
  cut_apart w y k a b h e = subst (λ (z : World). AllApart z.links) (going e) (severed_apart b a (world.with_link world.severed_link a b w.links) (severed_apart a b w.links h))

  moved_apart : (w y : World) → AllApart w.links → Moved script w Nobody AnyNotice NoDeed NoWord y → AllApart y.links
  unfolding went
  moved_apart w y h (Still es e) = subst (λ (z : World). AllApart z.links) (sym e) h
  moved_apart w y h (Severs k a b e) = cut_apart w y k a b h e
  moved_apart w y h (Drops a v n ns l es at uncut front none e) = subst (λ (z : World). AllApart z.links) (sym e) (taken_apart ns a v w.links h)
  moved_apart w y h (Steps v s q t what head honest alone may quiet d e) = subst (λ (z : World). AllApart z.links) (sym e) (push_all_apart v t.outbox w.links h)
  moved_apart w y h (Arrives a v s t n ns l k frame honest at uncut front d e) = subst (λ (z : World). AllApart z.links) (sym e) (push_all_apart v t.outbox (world.with_link (world.with_notes ns) a v w.links) (taken_apart ns a v w.links h))
  moved_apart w y h (Hears a v s t n ns l k frame hostile at uncut front there g e) = absurd hostile
  moved_apart w y h (Tells v u s t r ds n hostile there p l o e) = absurd hostile

  reached_apart : (w : World) → IsReached script w → AllApart w.links
  reached_apart w r = lifted script Nobody AnyNotice NoDeed NoWord (λ z. AllApart z.links) (begins_fated (Root 0) script).apart (λ x y q h m. moved_apart x y h (moves_told script Nobody AnyNotice NoDeed NoWord x y m)) w r

none_found : {A : Type 0} (a b : ℕ) (l : Link) → link_at a b [] ≡ Some l → A
unfolding link_at
none_found a b l e = absurd (let f : ◌≡◌ {A = Option Link} None (Some l) = e in cc)

found_apart : (a b : ℕ) (ls : List Link) (l : Link) → AllApart ls → link_at a b ls ≡ Some l → Apart l
found_apart a b [] l h e = none_found a b l e
found_apart a b (k ∷ ls) l h e = go (world.is_link a b k) refl (λ i. found_apart a b ls l h.1 i)
  where
    some_is : (m n : Link) → Some m ≡ Some n → m ≡ n
    some_is m n e = cc

    go : (c : Bool) → world.is_link a b k ≡ c → (link_at a b ls ≡ Some l → Apart l) → Apart l
    go true i f = subst (λ (m : Link). Apart m) (some_is k l (sym (link_here a b k ls i) ∙ e)) h.0
    go false i f = f (sym (link_behind a b k ls i) ∙ e)

pub ends_apart : (script : Script) (w : World) → IsReached script w → (a b : ℕ) (l : Link) → link_at a b w.links ≡ Some l → a ≡ b → ⊥
ends_apart script w r a b l e f = let i = found_ends a b w.links l e in found_apart a b w.links l (reached_apart script w r) e (i.0 ∙ f ∙ sym i.1)

-- ---- how often a message is sent at a vat

sent_at_in : ℕ → Name → Event → ℕ
sent_at_in v m (Here w (Sends act x)) = once ((w == v) && same_name x.id m)
sent_at_in v m other = 0

sent_at : ℕ → Name → List Event → ℕ
sent_at v m es = total (sent_at_in v m) es

-- a message that comes to a vat is sent there, or carried
comes_line : (v : ℕ) (m : Name) (i : ℕ) (e : Event) (c : Coming) → comes_in v m i e ≡ Some c → 1 ≤ sent_at_in v m e + carried_by m e
unfolding comes_in sent_at_in carried_by once one of_note in_note
comes_line v m i (Here w (Sends act x)) c h = go ((w == v) && same_name x.id m) h
  where
    go : (q : Bool) → ◌≡◌ {A = Option Coming} (elim q [ true ↦ Some (record { line = i; args = plains x.args }) | false ↦ None ]) (Some c) → 1 ≤ once q + 0
    go true h = omega arith
    go false h = absurd (cc)
comes_line v m i (Carried k u w (Deliver x n verb ys) bytes) c h = go (w == v) (same_name x.message m) h
  where
    go : (p q : Bool) → ◌≡◌ {A = Option Coming} (elim (p && q) [ true ↦ Some (record { line = i; args = ys }) | false ↦ None ]) (Some c) → 1 ≤ 0 + once q
    go true true h = omega arith
    go true false h = absurd (cc)
    go false q h = absurd (cc)
comes_line v m i other c h = absurd (cc)

came_line : (o p : Option Coming) (c : Coming) → elim o [ Some d ↦ Some d | None ↦ p ] ≡ Some c → (o ≡ Some c) ⊎ (p ≡ Some c)
came_line (Some d) p c h = inl h
came_line None p c h = inr h

came_by : (v : ℕ) (m : Name) (i : ℕ) (es : List Event) (c : Coming) → comes v m i es ≡ Some c → 1 ≤ sent_at v m es + carries m es
unfolding comes sent_at carries total
came_by v m i [] c h = absurd (cc)
came_by v m i (e ∷ es) c h = go (came_line (comes_in v m i e) (comes v m (suc i) es) c h) (λ k. came_by v m (suc i) es c k)
  where
    go : (comes_in v m i e ≡ Some c) ⊎ (comes v m (suc i) es ≡ Some c) → (comes v m (suc i) es ≡ Some c → 1 ≤ total (sent_at_in v m) es + total (carried_by m) es) → 1 ≤ (sent_at_in v m e + total (sent_at_in v m) es) + (carried_by m e + total (carried_by m) es)
    go (inl k) f = let j : 1 ≤ sent_at_in v m e + carried_by m e = comes_line v m i e c k in omega arith
    go (inr k) f = let j : 1 ≤ total (sent_at_in v m) es + total (carried_by m) es = f k in omega arith

-- it is sent at one vat
both_line : (a b : ℕ) (m : Name) → (a ≡ b → ⊥) → (e : Event) → sent_at_in a m e + sent_at_in b m e ≤ sent_by m e
unfolding sent_at_in sent_by sent_here one once
both_line a b m f (Here w (Sends act x)) = go (w == a) (w == b) (same_name x.id m) refl refl
  where
    go : (p q r : Bool) → (w == a) ≡ p → (w == b) ≡ q → once (p && r) + once (q && r) ≤ once r
    go true true r i j = absurd (f (sym (eqb-true w a i) ∙ eqb-true w b j))
    go true false true i j = omega arith
    go true false false i j = omega arith
    go false true true i j = omega arith
    go false true false i j = omega arith
    go false false r i j = omega arith
both_line a b m f other = omega arith

both_sent : (a b : ℕ) (m : Name) → (a ≡ b → ⊥) → (es : List Event) → sent_at a m es + sent_at b m es ≤ sent m es
unfolding sent_at sent total
both_sent a b m f [] = omega arith
both_sent a b m f (e ∷ es) = let i : sent_at_in a m e + sent_at_in b m e ≤ sent_by m e = both_line a b m f e in let j : total (sent_at_in a m) es + total (sent_at_in b m) es ≤ total (sent_by m) es = both_sent a b m f es in omega arith

-- ---- what a note to no object weighs

full_fare : (n : Name) (c : ℕ) → (IsObject n → ⊥) → fare n c ≡ c + c
unfolding fare
full_fare (Object h i) c f = absurd (f tt)
full_fare (Root h) c f = refl
full_fare (Promise h i) c f = refl
full_fare (Answer h m) c f = refl
full_fare (Gift h i) c f = refl
full_fare (Sent m) c f = refl

note_weighs : (d : Delivery Name) (n : Name) (verb : Words) (ys : Passeds Name) → (IsObject n → ⊥) → 2 ≤ weight d.message (Deliver d n verb ys)
unfolding weight one once
note_weighs d n verb ys f = rw (full_fare n (once (same_name d.message d.message)) f) (rw (same_self d.message) (omega arith))

link_weighs : (m : Name) (n : Note Name) (ns : List (Note Name)) (l : Link) → l.notes ≡ n ∷ ns → weight m n ≤ link_weight m l
unfolding link_weight total
link_weighs m n ns l e = let i : total (weight m) l.notes ≡ weight m n + total (weight m) ns = ap (λ ks. total (weight m) ks) e in omega arith

links_weigh : (m : Name) (a b : ℕ) (ls : List Link) (l : Link) → link_at a b ls ≡ Some l → link_weight m l ≤ total (link_weight m) ls
unfolding total
links_weigh m a b [] l e = none_found a b l e
links_weigh m a b (k ∷ ls) l e = go (world.is_link a b k) refl (λ i. links_weigh m a b ls l i)
  where
    some_is : (p q : Link) → Some p ≡ Some q → p ≡ q
    some_is p q e = cc

    go : (c : Bool) → world.is_link a b k ≡ c → (link_at a b ls ≡ Some l → link_weight m l ≤ total (link_weight m) ls) → link_weight m l ≤ link_weight m k + total (link_weight m) ls
    go true i f = let same : k ≡ l = some_is k l (sym (link_here a b k ls i) ∙ e) in let j : link_weight m l ≡ link_weight m k = ap (λ z. link_weight m z) (sym same) in omega arith
    go false i f = let j : link_weight m l ≤ total (link_weight m) ls = f (sym (link_behind a b k ls i) ∙ e) in omega arith

module _ (w : World) (a b : ℕ) (d : Delivery Name) (n : Name) (verb : Words) (ys : Passeds Name) (rest : List (Note Name)) (l : Link) (found : link_at a b w.links ≡ Some l) (first : l.notes ≡ Deliver d n verb ys ∷ rest) (plain : IsObject n → ⊥)
    (lawful : (carries d.message w.history + world_weight d.message w ≤ sent d.message w.history + sent d.message w.history) × (sent d.message w.history ≤ 1)) where
  none_carried : carries d.message w.history ≤ 0
  unfolding world_weight
  none_carried =
      let i : 2 ≤ weight d.message (Deliver d n verb ys) = note_weighs d n verb ys plain in
      let j : weight d.message (Deliver d n verb ys) ≤ link_weight d.message l = link_weighs d.message (Deliver d n verb ys) rest l first in
      let k : link_weight d.message l ≤ total (link_weight d.message) w.links = links_weigh d.message a b w.links l found in
      let p = lawful.0 in let q = lawful.1 in omega arith

  -- it came to the vat that put its note, and so to no other
  pub new_here : (c : Coming) → comes a d.message zero w.history ≡ Some c → (a ≡ b → ⊥) → comes b d.message zero w.history ≡ None
  new_here c came other = go (comes b d.message zero w.history) refl
    where
      go : (o : Option Coming) → comes b d.message zero w.history ≡ o → o ≡ None
      go None e = refl
      go (Some f) e = absurd (too_many (came_by a d.message zero w.history c came) (came_by b d.message zero w.history f e) none_carried (both_sent a b d.message other w.history) lawful.1)
        where
          too_many : 1 ≤ sent_at a d.message w.history + carries d.message w.history → 1 ≤ sent_at b d.message w.history + carries d.message w.history → carries d.message w.history ≤ 0 → sent_at a d.message w.history + sent_at b d.message w.history ≤ sent d.message w.history → sent d.message w.history ≤ 1 → ⊥
          too_many p q r s t = omega arith
