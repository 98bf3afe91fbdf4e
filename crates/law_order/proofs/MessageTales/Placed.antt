-- In the middle of a step one message comes to the end of a lane, and nothing else moves.
use Rattle.std.proofs.Common.{◌≡◌, ℕ, Bool, true, false, List, [], ◌∷◌, ◌++◌, Option, Some, None, refl, sym, ap, subst, ◌∙◌, ◌⊎◌, inl, inr, append_assoc}
use Rattle.std.proofs.lemmas.List.{append-nil}
use Rattle.std.specs.Prelude.{slice_get}
use Rattle.def_machine.specs.Values.{Value, Ref, Name, Answer, Naming}
use Rattle.def_machine.specs.State.{Message, Standing, Settled, Known, Hold, Wait, WaitOn, Waits, Passeds, Delivery, Note, Deliver, Put, Happened, Posted, Vat}
use Rattle.def_machine.specs.State as state
use Rattle.def_machine.specs.Refs as refs
use Rattle.def_run.specs.World as world
use Rattle.def_run.specs.World.{Script, Event, Link, World, names, put_at, push_all, with_link, pushed, events_of, event_of}
use Rattle.law_order.specs.Ordering.Ways.{Lane, Queue, Held, Way, Item}
use Rattle.law_order.specs.Ordering.Places.{item, queued, held_on, held_in, delivered, stands_at, ways_of, ways}
use Rattle.law_order.proofs.Ordering.Amid as amiding
use Rattle.law_order.proofs.Ordering.Amid.{put_either}
use Rattle.law_order.proofs.Ordering.Entries.{Differs, as_it_was, changes, differs}
use Rattle.law_order.proofs.Ordering.Pushing.{push_append}
use Rattle.law_order.proofs.Ordering.Standing.{Row, queued_append, queued_end, held_end}
use Rattle.law_order.specs.History.Lines.{AllQuiet, counts}
use Rattle.law_order.specs.History.Befores.{Brings}
use Rattle.law_order.proofs.History.Links.{On, on_of, of_on, IsPut, on_back, RowGrew, row_same, row_more, row_grew}
use Rattle.law_order.specs.Tales.Middle.{middle, MovesNone}
use Rattle.law_order.specs.Tales.Resting.{WasBrought}
use Rattle.law_order.proofs.Tales.Middle.{events_both}
use Rattle.law_order.proofs.Tales.Still.{quiet_join, IsStill}
use Rattle.law_order.proofs.MessageTales.Arrival.{Waited, no_wait, waits_for, put_out}

-- nothing came to the end, or the message did, and then that holds
pub data Grew (m : Name) (Holds : Type 0) (before after : List Item) : Type 0 where
  none_came : after ≡ before → Grew m Holds before after
  it_came : (n : Name) → after ≡ before ++ item m n ∷ [] → Holds → Grew m Holds before after

grew_move : (m : Name) (Holds : Type 0) (a b c d : List Item) → a ≡ b → c ≡ d → Grew m Holds a c → Grew m Holds b d
grew_move m Holds a b c d e f g = subst (λ x. Grew m Holds x d) e (subst (λ x. Grew m Holds a x) f g)

-- where it is held now, that is by vat b, and then that holds
abbrev pub IfHeld : ℕ → Type 0 → Lane → Type 0
IfHeld b Holds (Queue v) = Unit {0}
IfHeld b Holds (Held v n) = (v ≡ b) × Holds
IfHeld b Holds (Way u v) = Unit {0}

-- From x to y quiet lines are told, and the message comes to the end of a lane or of none. Of a note that delivers a message it is told that it was there, or what P says: of its vats, the messages in front of it, and what it brings.
pub record Moved (script : Script) (honest : ℕ → Bool) (b : ℕ) (m : Name) (Holds : Type 0) (P : ℕ → ℕ → List Item → Delivery Name → Name → Passeds Name → Type 0) (x y : World) : Type 0 where
  pub told : List Event
  pub lines : y.history ≡ x.history ++ told
  pub quiet : AllQuiet told
  pub stands : (l : Lane) → Grew m (IfHeld b Holds l) ((ways script honest x).stands l) ((ways script honest y).stands l)
  pub brought : (u g : ℕ) (front : List (Note Name)) (d : Delivery Name) (n : Name) (ys : Passeds Name) → Brings y u g front d n ys → WasBrought script honest x y u g front d n ys ⊎ P u g (delivered front) d n ys

module _ (script : Script) (honest : ℕ → Bool) (b : ℕ) (m : Name) (Holds : Type 0) (P : ℕ → ℕ → List Item → Delivery Name → Name → Passeds Name → Type 0) where
  pub still_moved : (x y : World) → IsStill script honest x y → Moved script honest b m Holds P x y
  still_moved x y h = record { told = h.told; lines = h.lines; quiet = h.quiet; stands = λ l. none_came (h.stands l); brought = λ u g front d n ys i. inl (h.brought u g front d n ys i) }

  pub moved_before : (x y z : World) → IsStill script honest x y → Moved script honest b m Holds P y z → Moved script honest b m Holds P x z
  moved_before x y z h k = record {
    told = h.told ++ k.told;
    lines = k.lines ∙ ap (λ es. es ++ k.told) h.lines ∙ append_assoc x.history h.told k.told;
    quiet = quiet_join h.told k.told h.quiet k.quiet;
    stands = λ l. subst (λ js. Grew m (IfHeld b Holds l) js ((ways script honest z).stands l)) (h.stands l) (k.stands l);
    brought = λ u g front d n ys i. elim (k.brought u g front d n ys i) [
      | inl r ↦ (let q = h.brought u g r.before d n ys r.brings in inl (record { before = q.before; brings = q.brings; behind = q.behind ∙ r.behind }))
      | inr p ↦ inr p
    ];
  }

  pub moved_after : (x y z : World) → Moved script honest b m Holds P x y → IsStill script honest y z → Moved script honest b m Holds P x z
  moved_after x y z h k = record {
    told = h.told ++ k.told;
    lines = k.lines ∙ ap (λ es. es ++ k.told) h.lines ∙ append_assoc x.history h.told k.told;
    quiet = quiet_join h.told k.told h.quiet k.quiet;
    stands = λ l. subst (λ js. Grew m (IfHeld b Holds l) ((ways script honest x).stands l) js) (sym (k.stands l)) (h.stands l);
    brought = λ u g front d n ys i. let r = k.brought u g front d n ys i in elim (h.brought u g r.before d n ys r.brings) [
      | inl q ↦ inl (record { before = q.before; brings = q.brings; behind = q.behind ∙ r.behind })
      | inr p ↦ inr (subst (λ js. P u g js d n ys) r.behind p)
    ];
  }

-- ---- a message comes to a queue, or is held

module _ (script : Script) (honest : ℕ → Bool) (w : World) (b : ℕ) (head : List Event) (m : Name) (Holds : Type 0) where
  abbrev K : Naming Name Name
  K = names script b

  abbrev X : Vat Name → World
  X s = middle w b head s

  abbrev QueueOf : Option (Vat Name) → List Item
  QueueOf o = elim o [ Some r ↦ queued r.queue | None ↦ [] ]

  abbrev HeldOf : ℕ → Name → Option (Vat Name) → List Item
  HeldOf u n o = elim o [ Some r ↦ held_in n (refs.entry_of (names script u) r.known n) | None ↦ [] ]

  module _ (s t : Vat Name) where
    queue_by : (z : ℕ) → amiding.Put b s t w.vats z → Grew m (Unit {0}) (queued s.queue) (queued t.queue) → Grew m (Unit {0}) (QueueOf (slice_get (put_at b s w.vats) z)) (QueueOf (slice_get (put_at b t w.vats) z))
    queue_by z (inl e) g = grew_move m (Unit {0}) (queued s.queue) (QueueOf (slice_get (put_at b s w.vats) z)) (queued t.queue) (QueueOf (slice_get (put_at b t w.vats) z)) (sym (ap QueueOf e.1)) (sym (ap QueueOf e.2)) g
    queue_by z (inr e) g = none_came (ap QueueOf e)

    held_by_name : (z : ℕ) (n : Name) → amiding.Put b s t w.vats z → Grew m Holds (held_in n (refs.entry_of K s.known n)) (held_in n (refs.entry_of K t.known n)) → Grew m ((z ≡ b) × Holds) (HeldOf z n (slice_get (put_at b s w.vats) z)) (HeldOf z n (slice_get (put_at b t w.vats) z))
    held_by_name z n (inl e) g = at_vat (slice_get (put_at b s w.vats) z) (slice_get (put_at b t w.vats) z) e.0 e.1 e.2 g
      where
        held_so : Grew m Holds (held_in n (refs.entry_of K s.known n)) (held_in n (refs.entry_of K t.known n)) → Grew m ((b ≡ b) × Holds) (HeldOf b n (Some s)) (HeldOf b n (Some t))
        held_so (none_came i) = none_came i
        held_so (it_came q i k) = it_came q i (refl, k)

        at_vat : (o c : Option (Vat Name)) → z ≡ b → o ≡ Some s → c ≡ Some t → Grew m Holds (held_in n (refs.entry_of K s.known n)) (held_in n (refs.entry_of K t.known n)) → Grew m ((z ≡ b) × Holds) (HeldOf z n o) (HeldOf z n c)
        at_vat o c i j k f = subst (λ v. Grew m ((v ≡ b) × Holds) (HeldOf v n o) (HeldOf v n c)) (sym i) (subst (λ v. Grew m ((b ≡ b) × Holds) (HeldOf b n v) (HeldOf b n c)) (sym j) (subst (λ v. Grew m ((b ≡ b) × Holds) (HeldOf b n (Some s)) (HeldOf b n v)) (sym k) (held_so f)))
    held_by_name z n (inr e) g = none_came (ap (HeldOf z n) e)

    lanes : Grew m (Unit {0}) (queued s.queue) (queued t.queue) → ((n : Name) → Grew m Holds (held_in n (refs.entry_of K s.known n)) (held_in n (refs.entry_of K t.known n)))
        → ((c e : ℕ) → Grew m (Unit {0}) (Row script honest (world.link_at c e (push_all b s.outbox w.links))) (Row script honest (world.link_at c e (push_all b t.outbox w.links))))
        → (l : Lane) → Grew m (IfHeld b Holds l) ((ways script honest (X s)).stands l) ((ways script honest (X t)).stands l)
    unfolding ways ways_of stands_at
    lanes q h r (Queue z) = queue_by z (put_either b s t w.vats z) q
    lanes q h r (Held z n) = held_by_name z n (put_either b s t w.vats z) (h n)
    lanes q h r (Way c e) = r c e

    -- where no note is put and no line told
    module _ (outbox : t.outbox ≡ s.outbox) (happened : t.happened ≡ s.happened) where
      row_same_there : (c e : ℕ) → Grew m (Unit {0}) (Row script honest (world.link_at c e (push_all b s.outbox w.links))) (Row script honest (world.link_at c e (push_all b t.outbox w.links)))
      row_same_there c e = none_came (ap (λ ps. Row script honest (world.link_at c e (push_all b ps w.links))) outbox)

      history_same : (X t).history ≡ (X s).history ++ []
      history_same = ap (λ es. w.history ++ head ++ events_of w.links b es) happened ∙ sym (append-nil (X s).history)

      brought_same : (u g : ℕ) (front : List (Note Name)) (d : Delivery Name) (n : Name) (ys : Passeds Name) → Brings (X t) u g front d n ys → WasBrought script honest (X s) (X t) u g front d n ys
      brought_same u g front d n ys i = record { before = front; brings = of_on (X s) u g front d n ys (subst (λ ps. On (push_all b ps w.links) u g front d n ys) outbox (on_of (X t) u g front d n ys i)); behind = refl }

      pub moved_here : (P : ℕ → ℕ → List Item → Delivery Name → Name → Passeds Name → Type 0) → Grew m (Unit {0}) (queued s.queue) (queued t.queue) → ((n : Name) → Grew m Holds (held_in n (refs.entry_of K s.known n)) (held_in n (refs.entry_of K t.known n))) → Moved script honest b m Holds P (X s) (X t)
      moved_here P q h = record { told = []; lines = history_same; quiet = tt; stands = lanes q h row_same_there; brought = λ u g front d n ys i. inl (brought_same u g front d n ys i) }

  module _ (q : Vat Name) (x : Message Name) (id : x.id ≡ m) where
    abbrev Queued : Vat Name
    Queued = record q { queue = q.queue ++ x ∷ [] }

    queue_grew : (z : Value Name) → x.target ≡ z → Grew m (Unit {0}) (queued q.queue) (queued (q.queue ++ x ∷ []))
    unfolding queued
    queue_grew (Ref n) e = it_came n (queued_end q.queue x n e ∙ ap (λ i. queued q.queue ++ item i n ∷ []) id) tt
    queue_grew other e = none_came (queued_append q.queue (x ∷ []) ∙ ap (λ z. queued q.queue ++ elim z [ Ref n ↦ item x.id n ∷ [] | _ ↦ [] ]) e ∙ append-nil (queued q.queue))

    pub queue_moved : (P : ℕ → ℕ → List Item → Delivery Name → Name → Passeds Name → Type 0) → Moved script honest b m Holds P (X q) (X Queued)
    queue_moved P = moved_here q Queued refl refl P (queue_grew x.target refl) (λ n. none_came refl)

    module _ (p : Name) (holds : Holds) where
      abbrev Holding : Vat Name
      Holding = record q { known = state.with_change K (Hold x) p q.known }

      hold_grew : (n : Name) (k : Known Name) → Grew m Holds (held_on n k.held) (held_on n (state.changed (Hold x) k).held)
      unfolding state.changed state.unless_settled state.changed_to
      hold_grew n k = go k.standing
        where
          go : (c : Standing Name) → Grew m Holds (held_on n k.held) (held_on n (state.unless_settled c k (record k { held = k.held ++ x ∷ [] })).held)
          go (Settled y) = none_came refl
          go other = it_came n (held_end n k.held x ∙ ap (λ i. held_on n k.held ++ item i n ∷ []) id) holds

      held_grew : (n : Name) → Grew m Holds (held_in n (refs.entry_of K q.known n)) (held_in n (refs.entry_of K Holding.known n))
      unfolding held_in
      held_grew n = go (differs script b (Hold x) p n q.known)
        where
          go : {c e : Option (Known Name)} → Differs script b (Hold x) p n c e → Grew m Holds (held_in n c) (held_in n e)
          go (as_it_was i) = none_came (ap (held_in n) i)
          go (changes k i f g) = grew_move m Holds (held_on n k.held) _ (held_on n (state.changed (Hold x) k).held) _ (sym (ap (held_in n) f)) (sym (ap (held_in n) g)) (hold_grew n k)

      pub name_moved : (P : ℕ → ℕ → List Item → Delivery Name → Name → Passeds Name → Type 0) → Moved script honest b m Holds P (X q) (X Holding)
      name_moved P = moved_here q Holding refl refl P (none_came refl) held_grew

-- ---- a note is put that delivers it

-- What that note is: from that vat to h, behind all that stands there, on a link that is not cut.
pub record IsNoted (script : Script) (honest : ℕ → Bool) (b h : ℕ) (links : List Link) (x : Message Name) (q : Name) (passed : Passeds Name) (u g : ℕ) (front : List Item) (d : Delivery Name) (n : Name) (ys : Passeds Name) : Type 0 where
  pub from : u ≡ b
  pub to : g ≡ h
  pub mail : d.message ≡ x.id
  pub aim : n ≡ q
  pub args : ys ≡ passed
  pub link : Link
  pub found : world.link_at b h links ≡ Some link
  pub uncut : link.cut ≡ false
  pub front_is : front ≡ delivered link.notes

module _ (script : Script) (honest : ℕ → Bool) (everyone : (u : ℕ) → honest u ≡ true) (w : World) (b : ℕ) (head : List Event) (x : Message Name) (h : ℕ) (q : Name) (zs : Passeds Name) (t : Vat Name) (Holds : Type 0) where
  abbrev N : Naming Name Name
  N = names script b

  abbrev Noted : Note Name
  Noted = Deliver (refs.delivery_of N x) q x.verb zs

  abbrev Out : Vat Name
  Out = put_out N x h q zs t

  abbrev Xs : Vat Name → World
  Xs s = middle w b head s

  abbrev Before : List Link
  Before = push_all b t.outbox w.links

  out_links : push_all b Out.outbox w.links ≡ with_link (pushed Noted) b h Before
  unfolding push_all
  out_links = push_append b t.outbox (record { to = h; note = Noted } ∷ []) w.links

  posted_quiet : AllQuiet (event_of w.links b (Posted h x.id))
  unfolding event_of counts
  posted_quiet = go (world.is_cut b h w.links)
    where
      go : (c : Bool) → AllQuiet (elim c [ true ↦ world.LostCut x.id ∷ [] | false ↦ [] ])
      go true = (refl, tt)
      go false = tt

  told_there : (Xs Out).history ≡ (Xs t).history ++ events_of w.links b (Posted h x.id ∷ [])
  told_there = ap (λ es. w.history ++ head ++ es) (events_both w.links b t.happened (Posted h x.id ∷ [])) ∙ sym (append_assoc (w.history ++ head) (events_of w.links b t.happened) (events_of w.links b (Posted h x.id ∷ [])))

  quiet_there : AllQuiet (events_of w.links b (Posted h x.id ∷ []))
  unfolding events_of
  quiet_there = quiet_join (event_of w.links b (Posted h x.id)) [] posted_quiet tt

  row_there : (c e : ℕ) → Grew x.id (Unit {0}) (Row script honest (world.link_at c e Before)) (Row script honest (world.link_at c e (push_all b Out.outbox w.links)))
  unfolding delivered
  row_there c e = subst (λ ls. Grew x.id (Unit {0}) (Row script honest (world.link_at c e Before)) (Row script honest (world.link_at c e ls))) (sym out_links) (go (row_grew script honest everyone b h Noted c e Before))
    where
      go : RowGrew script honest everyone b h Noted c e (Row script honest (world.link_at c e Before)) (Row script honest (world.link_at c e (with_link (pushed Noted) b h Before))) → Grew x.id (Unit {0}) (Row script honest (world.link_at c e Before)) (Row script honest (world.link_at c e (with_link (pushed Noted) b h Before)))
      go (row_same i) = none_came i
      go (row_more i j k) = it_came q k tt

  noted : (u g : ℕ) (front : List (Note Name)) (d : Delivery Name) (n : Name) (ys : Passeds Name) → IsPut Before b h Noted u g front d n ys → IsNoted script honest b h Before x q zs u g (delivered front) d n ys
  noted u g front d n ys p = record {
    from = p.from;
    to = p.to;
    mail = ap (λ (z : Delivery Name). z.message) delivery;
    aim = aimed;
    args = args;
    link = p.link;
    found = subst (λ z. world.link_at z h Before ≡ Some p.link) p.from (subst (λ z. world.link_at u z Before ≡ Some p.link) p.to p.found);
    uncut = p.uncut;
    front_is = ap delivered p.front_is;
  }
    where
      is : Deliver d n p.verb ys ≡ Noted
      is = p.is

      delivery : d ≡ refs.delivery_of N x
      delivery = cc

      args : ys ≡ zs
      args = cc

      aimed : n ≡ q
      aimed = cc

  brought_there : (u g : ℕ) (front : List (Note Name)) (d : Delivery Name) (n : Name) (ys : Passeds Name) → Brings (Xs Out) u g front d n ys
      → WasBrought script honest (Xs t) (Xs Out) u g front d n ys ⊎ IsNoted script honest b h Before x q zs u g (delivered front) d n ys
  brought_there u g front d n ys i = elim (on_back b h Noted u g Before front d n ys (subst (λ ls. On ls u g front d n ys) out_links (on_of (Xs Out) u g front d n ys i))) [
    | inl k ↦ inl (record { before = front; brings = of_on (Xs t) u g front d n ys k; behind = refl })
    | inr k ↦ inr (noted u g front d n ys k)
  ]

  pub out_moved : Moved script honest b x.id Holds (λ u g front d n ys. IsNoted script honest b h Before x q zs u g front d n ys) (Xs t) (Xs Out)
  out_moved = record { told = events_of w.links b (Posted h x.id ∷ []); lines = told_there; quiet = quiet_there; stands = lanes script honest w b head x.id Holds t Out (none_came refl) (λ n. none_came refl) row_there; brought = brought_there }

-- ---- what waits moves no message

module _ (script : Script) (b : ℕ) where
  abbrev M : Naming Name Name
  M = names script b

  waits_held : (c : state.Change Name) → ((k : Known Name) → (state.changed c k).held ≡ k.held) → (p n : Name) (ks : List (Known Name)) → held_in n (refs.entry_of M (state.with_change M c p ks) n) ≡ held_in n (refs.entry_of M ks n)
  unfolding held_in
  waits_held c f p n ks = go (differs script b c p n ks)
    where
      go : {d e : Option (Known Name)} → Differs script b c p n d e → held_in n e ≡ held_in n d
      go (as_it_was i) = ap (held_in n) i
      go (changes k i g h) = ap (held_in n) h ∙ ap (held_on n) (f k) ∙ sym (ap (held_in n) g)

  wait_same : (z : Name) (k : Known Name) → (state.changed (Wait z) k).held ≡ k.held
  unfolding state.changed state.unless_settled state.changed_to
  wait_same z k = go k.standing
    where
      go : (c : Standing Name) → (state.unless_settled c k (record k { waiting = k.waiting ++ z ∷ [] })).held ≡ k.held
      go (Settled y) = refl
      go other = refl

  wait_on_same : (z : Name) (k : Known Name) → (state.changed (WaitOn z) k).held ≡ k.held
  unfolding state.changed state.unless_settled state.changed_to
  wait_on_same z k = go k.standing
    where
      go : (c : Standing Name) → (state.unless_settled c k (record k { standing = state.WaitsOn z })).held ≡ k.held
      go (Settled y) = refl
      go other = refl

  pub waited_moves : (t u : Vat Name) → Waited M t u → MovesNone M t u
  waited_moves t u no_wait = record { queue = refl; held = λ n. refl; puts = []; outbox = sym (append-nil t.outbox); none = tt; lines = []; happened = sym (append-nil t.happened); quiet = tt }
  waited_moves t u (waits_for g x z k e f) = record {
    queue = refl;
    held = λ n. waits_held (Wait (Answer g x)) (wait_same (Answer g x)) z n (state.with_change M (WaitOn z) (Answer g x) t.known) ∙ waits_held (WaitOn z) (wait_on_same z) (Answer g x) n t.known;
    puts = [];
    outbox = sym (append-nil t.outbox);
    none = tt;
    lines = Waits (Answer g x) z ∷ [];
    happened = refl;
    quiet = (tt, tt);
  }
