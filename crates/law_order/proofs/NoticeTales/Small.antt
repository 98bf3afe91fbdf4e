-- A notice is a small step: messages stand where they stood, but for reactions, which were never sent.
use Rattle.std.proofs.Common.{◌≡◌, ℕ, Bool, false, List, [], ◌∷◌, ◌++◌, Option, Some, None, refl, sym, ap, subst, ◌∙◌, ◌⊎◌, inl, inr}
use Rattle.std.proofs.lemmas.List.{append_assoc}
use Rattle.def_machine.specs.Values.{Value, Ref, Name}
use Rattle.def_machine.specs.State.{Message, Happened, Settles, Lost, Passeds, Delivery, Note, Put}
use Rattle.def_run.specs.World.{Script, Event, NoticedAt, Link, World, link_at, events_of}
use Rattle.law_fate.specs.Name.Names.{AllOf, IsAmong}
use Rattle.law_fate.proofs.Name.Among.{all_among}
use Rattle.law_reference.proofs.Reference.Follow.{eq_dec}
use Rattle.law_order.specs.Ordering.Ways.{Lane, Queue, Held, Way, Item, Nowhere, Ways, IsIn}
use Rattle.law_order.specs.Ordering.Messages.{StandsAt}
use Rattle.law_order.specs.Ordering.Places.{item, queued, ways}
use Rattle.law_order.specs.History.Lines.{counts, AllQuiet, was_sent}
use Rattle.law_order.specs.History.Befores.{Brings}
use Rattle.law_order.specs.History.Tells.{SmallStep, over, then_on}
use Rattle.law_order.specs.Tales.Middle.{DeliversNothing, IsQuietLine}
use Rattle.law_order.specs.Tales.Resting.{WasBrought}
use Rattle.law_order.proofs.Tales.Links.{Stays, is_none, is_there, puts_stay, was_at}
use Rattle.law_order.proofs.Tales.Middle.{events_quiet}
use Rattle.law_order.proofs.Tales.Resting.{resting}
use Rattle.law_order.specs.Notices.Notices.{IsReacting}
use Rattle.law_order.proofs.Notices.NoticeRuns.{IsNotice, in_order}
use Rattle.law_order.proofs.Notices.Sinking.{IsNews, IsEnding}
use Rattle.law_order.specs.NoticeTales.Tales.{NoticesAreTales}
use Rattle.law_order.proofs.NoticeTales.Unsent.{unsent}

-- ---- lists

pub nothing_at : (c r : List Item) (i : Item) → [] ≡ c ++ i ∷ r → ⊥
nothing_at [] r i e = cc
nothing_at (j ∷ c) r i e = cc

in_middle : (c r : List Item) (i : Item) → IsIn i (c ++ i ∷ r)
in_middle [] r i = inl refl
in_middle (j ∷ c) r i = inr (in_middle c r i)

head_is : (i j : Item) (is js : List Item) → i ∷ is ≡ j ∷ js → (i ≡ j) × (is ≡ js)
head_is i j is js e = let a : i ≡ j = cc in let b : is ≡ js = cc in (a, b)

-- what stands in the first or the second
pub split_at : (xs ys c r : List Item) (i : Item) → xs ++ ys ≡ c ++ i ∷ r → ((q : List Item) × (xs ≡ c ++ i ∷ q)) ⊎ IsIn i ys
split_at [] ys c r i e = inr (subst (IsIn i) (sym e) (in_middle c r i))
split_at (x ∷ xs) ys [] r i e = let h = head_is x i (xs ++ ys) r e in inl (xs, ap (λ j. j ∷ xs) h.0)
split_at (x ∷ xs) ys (j ∷ c) r i e = let h = head_is x j (xs ++ ys) (c ++ i ∷ r) e in go h.0 (split_at xs ys c r i h.1)
  where
    go : x ≡ j → ((q : List Item) × (xs ≡ c ++ i ∷ q)) ⊎ IsIn i ys → ((q : List Item) × (x ∷ xs ≡ j ∷ (c ++ i ∷ q))) ⊎ IsIn i ys
    go f (inl g) = inl (g.0, ap (λ k. k ∷ xs) f ∙ ap (λ ks. j ∷ ks) g.1)
    go f (inr g) = inr g

same_mail : (a b n o : Name) → item a n ≡ item b o → b ≡ a
same_mail a b n o e = ap (λ (i : Item). i.mail) (sym e)

-- a message of that name is among them
abbrev IsOf : Name → List (Message Name) → Type 0
IsOf b ms = (o : Message Name) × IsAmong o ms × (o.id ≡ b)

of_more : (b : Name) (m : Message Name) (ms : List (Message Name)) → IsOf b ms → IsOf b (m ∷ ms)
of_more b m ms g = (g.0, inr g.1, g.2)

queued_head : (b n : Name) (m : Message Name) (ms : List (Message Name)) (t : Value Name) → IsIn (item b n) (elim t [ Ref o ↦ item m.id o ∷ queued ms | _ ↦ queued ms ]) → (IsIn (item b n) (queued ms) → IsOf b ms) → IsOf b (m ∷ ms)
queued_head b n m ms (Ref o) (inl e) f = (m, inl refl, same_mail b m.id n o e)
queued_head b n m ms (Ref o) (inr i) f = of_more b m ms (f i)
queued_head b n m ms other i f = of_more b m ms (f i)

-- the message of what is queued
pub queued_from : (b n : Name) (ms : List (Message Name)) → IsIn (item b n) (queued ms) → IsOf b ms
unfolding queued
queued_from b n [] h = absurd h
queued_from b n (m ∷ ms) h = queued_head b n m ms m.target h (λ i. queued_from b n ms i)

pub all_news : (ps : List (Put Name)) → AllOf IsNews ps → AllOf (λ (p : Put Name). DeliversNothing p.note) ps
all_news [] h = tt
all_news (p ∷ ps) h = (subst DeliversNothing (sym h.0.2) tt, all_news ps h.1)

ending_quiet : (e : Happened Name) → IsEnding e → IsQuietLine e
ending_quiet (Settles p y) h = tt
ending_quiet (Lost m) h = tt
ending_quiet other h = absurd h

pub all_quiet : (es : List (Happened Name)) → AllOf IsEnding es → AllOf IsQuietLine es
all_quiet [] h = tt
all_quiet (e ∷ es) h = (ending_quiet e h.0, all_quiet es h.1)

-- ---- the step

module _ (script : Script) (honest : ℕ → Bool) (x y : World) (v u : ℕ) (so : IsNotice script honest x y v u) (unsent_so : (m : Message Name) → IsReacting so.vat m → was_sent m.id x.history ≡ false) where
  abbrev W : Ways
  W = ways script honest x

  abbrev U : Ways
  U = ways script honest y

  -- ---- where messages stood

  same_stood : (l : Lane) (m : Name) (c : List Item) (n : Name) → U.stands l ≡ W.stands l → StandsAt U m l c n → StandsAt W m l c n
  same_stood l m c n e s = record { behind = s.behind; found = sym e ∙ s.found }

  held_stood : (q : ℕ) (p m : Name) (c : List Item) (n : Name) → StandsAt U m (Held q p) c n → StandsAt W m (Held q p) c n
  held_stood q p m c n s = go (eq_dec q v)
    where
      fallen : (U.stands (Held q p) ≡ W.stands (Held q p)) ⊎ ((U.stands (Held q p) ≡ []) × ((o : Name) → U.onward (Held q p) o ≡ Nowhere)) → StandsAt W m (Held q p) c n
      fallen (inl e) = same_stood (Held q p) m c n e s
      fallen (inr e) = absurd (nothing_at c s.behind (item m n) (sym e.0 ∙ s.found))

      go : (q ≡ v) ⊎ (q ≡ v → ⊥) → StandsAt W m (Held q p) c n
      go (inl e) = fallen (subst (λ z. (U.stands (Held z p) ≡ W.stands (Held z p)) ⊎ ((U.stands (Held z p) ≡ []) × ((o : Name) → U.onward (Held z p) o ≡ Nowhere))) (sym e) (so.order.held p))
      go (inr f) = same_stood (Held q p) m c n (so.order.apart (Held q p) f) s

  abbrev Either : Lane → Name → List Item → Name → Type 0
  Either l m c n = StandsAt W m l c n ⊎ (was_sent m x.history ≡ false)

  reacted : (m n : Name) → IsIn (item m n) (queued so.order.queue.0) → was_sent m x.history ≡ false
  reacted m n i = let from = queued_from m n so.order.queue.0 i in subst (λ z. was_sent z x.history ≡ false) from.2 (unsent_so from.0 (all_among (IsReacting so.vat) so.order.queue.0 from.0 so.order.queue.2 from.1))

  queue_stood : (q : ℕ) (m : Name) (c : List Item) (n : Name) → StandsAt U m (Queue q) c n → Either (Queue q) m c n
  queue_stood q m c n s = go (eq_dec q v)
    where
      parts : ((r : List Item) × (W.stands (Queue q) ≡ c ++ item m n ∷ r)) ⊎ IsIn (item m n) (queued so.order.queue.0) → Either (Queue q) m c n
      parts (inl h) = inl (record { behind = h.0; found = h.1 })
      parts (inr i) = inr (reacted m n i)

      go : (q ≡ v) ⊎ (q ≡ v → ⊥) → Either (Queue q) m c n
      go (inl e) = parts (split_at (W.stands (Queue q)) (queued so.order.queue.0) c s.behind (item m n) (sym (subst (λ z. U.stands (Queue z) ≡ W.stands (Queue z) ++ queued so.order.queue.0) (sym e) so.order.queue.1) ∙ s.found))
      go (inr f) = inl (same_stood (Queue q) m c n (so.order.apart (Queue q) f) s)

  stood : (l : Lane) (m : Name) (c : List Item) (n : Name) → StandsAt U m l c n → Either l m c n
  stood (Queue q) m c n s = queue_stood q m c n s
  stood (Held q p) m c n s = inl (held_stood q p m c n s)
  stood (Way a b) m c n s = inl (same_stood (Way a b) m c n (so.order.apart (Way a b) tt) s)

  -- ---- what notes bring

  stays : (a b : ℕ) → Stays (link_at a b x.links) (link_at a b y.links)
  stays a b = subst (λ (z : World). Stays (link_at a b x.links) (link_at a b z.links)) so.to (puts_stay v a b so.after.outbox x.links (all_news so.after.outbox so.news))

  none_some : (l : Link) → ◌≡◌ {A = Option Link} None (Some l) → ⊥
  none_some l e = cc

  some_is : (l m : Link) → Some l ≡ Some m → l ≡ m
  some_is l m e = cc

  brought : (a b : ℕ) (front : List (Note Name)) (d : Delivery Name) (n : Name) (ys : Passeds Name) → Brings y a b front d n ys → WasBrought script honest x y a b front d n ys
  brought a b front d n ys r = go (stays a b)
    where
      go : Stays (link_at a b x.links) (link_at a b y.links) → WasBrought script honest x y a b front d n ys
      go (is_none e f) = absurd (none_some r.link (sym f ∙ r.found))
      go (is_there l m e f k) = let same = some_is m r.link (sym f ∙ r.found) in
          let at = was_at l.notes k.more front r.rest d n r.verb ys k.none (sym k.notes ∙ ap (λ (z : Link). z.notes) same ∙ r.notes) in
          record { before = front; brings = record { link = l; found = e; verb = at.verb; rest = at.rest; notes = at.notes }; behind = refl }

  -- ---- lines

  abbrev Told : List Event
  Told = NoticedAt so.entry v u ∷ events_of x.links v so.after.happened

  lines : y.history ≡ x.history ++ Told
  lines = ap (λ (z : World). z.history) (sym so.to) ∙ append_assoc x.history (NoticedAt so.entry v u ∷ []) (events_of x.links v so.after.happened)

  told_quiet : AllQuiet Told
  unfolding counts
  told_quiet = (refl, events_quiet x.links v so.after.happened (all_quiet so.after.happened so.lines))

  pub small : SmallStep script honest x y
  small = resting script honest x y (record {
    told = Told;
    lines = lines;
    quiet = told_quiet;
    leading = λ q n. so.order.leading q (Ref n);
    references = λ q n a t. (so.order.references q (Ref n)).1 a t;
    places = λ l b n a t. (so.order.places l b n).1 a t;
    stands = λ m l b n t. stood l m b n t;
    holds = λ q p m b n t. held_stood q p m b n t;
    brought = brought;
  })

pub notice_tales : NoticesAreTales
notice_tales script once w x y es k v u follow opened steps ahead honest here far =
    let so = in_order script once w x y es k v u follow opened steps ahead honest here far in
    then_on (small script honest x y v u so (λ m h. unsent script w x es k opened steps v so.vat so.there m h)) over
