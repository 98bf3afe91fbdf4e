-- Growth by which no message was sent is a small step; so is a reaction.
use Rattle.std.proofs.Common.{◌≡◌, ℕ, suc, Bool, false, List, [], ◌∷◌, ◌++◌, Option, Some, None, refl, sym, ap, subst, ◌∙◌, ◌⊎◌, inl, inr, append_assoc}
use Rattle.std.proofs.lemmas.List.{append-nil}
use Rattle.std.specs.Prelude.{slice_get}
use Rattle.def_machine.specs.Values.{Value, Ref, Name, Answer, Sent, Naming, naming, name_of, mail_of, answer_of}
use Rattle.def_machine.specs.State.{Message, Standing, Settled, Known, React, Passeds, Delivery, Note, Happened, Reacts, Vat, Done, Gives, ◌>>=◌, ◌>>◌, and_then, give, look, tell, alter, enqueue, new_message, begun}
use Rattle.def_machine.specs.State as state
use Rattle.def_machine.specs.Refs as refs
use Rattle.def_machine.specs.Refs.{Place, Mine, Away}
use Rattle.def_run.specs.World as world
use Rattle.def_run.specs.World.{Script, Event, World, names}
use Rattle.law_machine.specs.Machine.Steps.{After}
use Rattle.law_machine.specs.Run.Moves.{went}
use Rattle.law_order.specs.Ordering.Ways.{Lane, Queue, Held, Way, Item, Mid, Ways, Ahead}
use Rattle.law_order.specs.Ordering.Ways as lanes
use Rattle.law_order.specs.Ordering.Messages.{StandsAt}
use Rattle.law_order.specs.Ordering.Places.{item, queued, held_on, held_in, stands_at, ways_of, ways, amid}
use Rattle.law_order.specs.Ordering.Worlds.{IfGives}
use Rattle.law_order.specs.Ordering.Steps.{LeadsAmid, Grown, Ready, StaysReady}
use Rattle.law_order.proofs.Ordering.Amid.{put_either}
use Rattle.law_order.proofs.Ordering.Changes.{growing_keeps}
use Rattle.law_order.proofs.Ordering.Entries.{Differs, as_it_was, changes, differs}
use Rattle.law_order.proofs.Ordering.Sendings.{stays_react}
use Rattle.law_order.proofs.Ordering.Standing.{Row, queued_append, queued_end}
use Rattle.law_order.specs.History.Lines.{AllQuiet, was_sent}
use Rattle.law_order.specs.History.Befores.{Brings, passing_place, up_to, IsBroughtFrom}
use Rattle.law_order.specs.History.Tells.{SmallStep}
use Rattle.law_order.specs.History.Reactions.{ReactionsAreSmallSteps}
use Rattle.law_order.proofs.History.Lines.{last_or}
use Rattle.law_order.proofs.History.Links.{On, on_of, of_on}
use Rattle.law_order.proofs.History.Same.{brought_once}
use Rattle.law_order.proofs.History.SendLaws.{begun_held}
use Rattle.law_order.proofs.History.SentStep.{events_append}

module _ (script : Script) (honest : ℕ → Bool) (w : World) (v : ℕ) (head : List Event) (r s : Vat Name) (at : slice_get w.vats v ≡ Some r) where
  abbrev K : Naming Name Name
  K = names script v

  abbrev W : Vat Name → Ways
  W t = ways script honest (amid v t w)

  abbrev From : World
  From = went v w head s

  -- What the vat holds and has under way is the same, and at most one message came to its queue, which was not sent before.
  pub record AddsUnsent (t : Vat Name) : Type 0 where
    pub lines : List (Happened Name)
    pub happened : t.happened ≡ s.happened ++ lines
    pub quiet : AllQuiet (world.events_of w.links v lines)
    pub queue : (queued t.queue ≡ queued s.queue) ⊎ ((i : Item) × (queued t.queue ≡ queued s.queue ++ i ∷ []) × (was_sent i.mail From.history ≡ false))
    pub held : (n : Name) → held_in n (refs.entry_of K t.known n) ≡ held_in n (refs.entry_of K s.known n)
    pub outbox : t.outbox ≡ s.outbox

  module _ (t : Vat Name) (g : Grown script honest w v s t) (a : AddsUnsent t) where
    abbrev To : World
    To = went v w head t

    told : To.history ≡ From.history ++ world.events_of w.links v a.lines
    unfolding went
    told = ap (λ es. (w.history ++ head) ++ es) (ap (world.events_of w.links v) a.happened ∙ events_append w.links v s.happened a.lines) ∙ sym (append_assoc (w.history ++ head) (world.events_of w.links v s.happened) (world.events_of w.links v a.lines))

    grows_at : (x : Name) (c : lanes.Place) → Ahead (W s) x c → Ahead (W t) x c
    grows_at x c h = (growing_keeps (W s) (W t) g.grows c).1 x h

    -- it stood there, or was not sent
    abbrev Was : Name → Lane → List Item → Name → Type 0
    Was b l c n = StandsAt (W s) b l c n ⊎ (was_sent b From.history ≡ false)

    abbrev QueueIs : Option (Vat Name) → List Item
    QueueIs o = elim o [ Some x ↦ queued x.queue | None ↦ [] ]

    in_queue : (u : ℕ) (b : Name) (c : List Item) (n : Name) → StandsAt (W t) b (Queue u) c n → Was b (Queue u) c n
    unfolding ways ways_of stands_at amid
    in_queue u b c n h = go (put_either v s t w.vats u)
      where
        same : (xs : List Item) → QueueIs (slice_get (world.put_at v t w.vats) u) ≡ xs → xs ≡ QueueIs (slice_get (world.put_at v s w.vats) u) → Was b (Queue u) c n
        same xs e f = inl (record { behind = h.behind; found = sym f ∙ sym e ∙ h.found })

        one : (i : Item) → QueueIs (slice_get (world.put_at v t w.vats) u) ≡ QueueIs (slice_get (world.put_at v s w.vats) u) ++ i ∷ [] → was_sent i.mail From.history ≡ false → Was b (Queue u) c n
        one i e f = elim (last_or (QueueIs (slice_get (world.put_at v s w.vats) u)) c i (item b n) h.behind (sym e ∙ h.found)) [
          | inl k ↦ inl (record { behind = k.0; found = k.1 })
          | inr k ↦ inr (subst (λ x. was_sent x From.history ≡ false) (sym (ap (λ (j : Item). j.mail) k.same)) f)
        ]

        go : ((u ≡ v) × (slice_get (world.put_at v s w.vats) u ≡ Some s) × (slice_get (world.put_at v t w.vats) u ≡ Some t)) ⊎ (slice_get (world.put_at v t w.vats) u ≡ slice_get (world.put_at v s w.vats) u) → Was b (Queue u) c n
        go (inl e) = elim a.queue [
          | inl i ↦ same (queued t.queue) (ap QueueIs e.2) (i ∙ sym (ap QueueIs e.1))
          | inr i ↦ one i.0 (ap QueueIs e.2 ∙ i.1 ∙ ap (λ js. js ++ i.0 ∷ []) (sym (ap QueueIs e.1))) i.2
        ]
        go (inr e) = same (QueueIs (slice_get (world.put_at v s w.vats) u)) (ap QueueIs e) refl

    abbrev HeldIs : ℕ → Name → Option (Vat Name) → List Item
    HeldIs u n o = elim o [ Some x ↦ held_in n (refs.entry_of (names script u) x.known n) | None ↦ [] ]

    held_still : (u : ℕ) (n : Name) → (W t).stands (Held u n) ≡ (W s).stands (Held u n)
    unfolding ways ways_of stands_at amid
    held_still u n = elim (put_either v s t w.vats u) [
      | inl e ↦ ap (HeldIs u n) e.2 ∙ subst (λ z. HeldIs z n (Some t) ≡ HeldIs z n (Some s)) (sym e.0) (a.held n) ∙ sym (ap (HeldIs u n) e.1)
      | inr e ↦ ap (HeldIs u n) e
    ]

    way_still : (x y : ℕ) → (W t).stands (Way x y) ≡ (W s).stands (Way x y)
    unfolding ways ways_of stands_at amid
    way_still x y = ap (λ ps. Row script honest (world.link_at x y (world.push_all v ps w.links))) a.outbox

    was : (b : Name) (l : Lane) (c : List Item) (n : Name) → StandsAt (W t) b l c n → Was b l c n
    was b (Queue u) c n h = in_queue u b c n h
    was b (Held u p) c n h = inl (record { behind = h.behind; found = sym (held_still u p) ∙ h.found })
    was b (Way x y) c n h = inl (record { behind = h.behind; found = sym (way_still x y) ∙ h.found })

    brings_still : (u h : ℕ) (front : List (Note Name)) (d : Delivery Name) (n : Name) (ys : Passeds Name) → Brings To u h front d n ys → Brings From u h front d n ys
    unfolding went
    brings_still u h front d n ys b = of_on From u h front d n ys (subst (λ ps. On (world.push_all v ps w.links) u h front d n ys) a.outbox (on_of To u h front d n ys b))

    pub adding_is_small : SmallStep script honest From To
    unfolding went ways amid
    adding_is_small = record {
      line = None;
      quiet = world.events_of w.links v a.lines;
      lines = told;
      all_quiet = a.quiet;
      told = tt;
      references = λ x n u h. inr (subst (λ c. Ahead (W t) x c) (sym (g.leading u (Ref n))) (grows_at x (LeadsAmid script honest w v s u (Ref n)) h));
      messages = λ b l c n h. elim (was b l c n h) [ inl k ↦ inl (record { lane = l; before = c; aim = n; stood = k; keeps = λ x j. inr (grows_at x (Mid l c n) j) }) | inr k ↦ inr k ];
      passings = λ u h front d n ys b. inl (record { before = front; brings = brings_still u h front d n ys b; keeps = λ x o j. inr (grows_at x (passing_place u h front d n o) j) });
      carriers = λ u p d q b h. inl (record {
        before = b;
        aim = q;
        stood = record { behind = h.behind; found = sym (held_still u p) ∙ h.found };
        keeps = λ x n c k f e j. inr (subst (λ z. Ahead (W t) x z) (brought_once (Held u p) (up_to b d q) (LeadsAmid script honest w v s u (Ref n)) c k f (subst (λ z. IsBroughtFrom (Held u p) (up_to b d q) z k) (g.leading u (Ref n)) e)) (grows_at x c j));
      });
    }

  -- ---- a reaction

  module _ (act : ℕ) (x o near : Value Name) (ready : Ready script honest w v s) (unsent : was_sent (Sent (record { sender = v; number = s.messages })) From.history ≡ false) where
    abbrev Id : Name
    Id = Sent (record { sender = v; number = s.messages })

    abbrev Host : ℕ
    Host = s.number

    abbrev New : Name
    New = Answer Host (record { sender = v; number = s.messages })

    abbrev M : Message Name
    M = refs.reaction K Id near x New

    abbrev Line : Happened Name
    Line = Reacts act x o M

    abbrev Q : Vat Name
    Q = record s { messages = suc s.messages; mails = s.mails ++ Id ∷ []; known = s.known ++ begun New Host ∷ []; happened = s.happened ++ Line ∷ [] }

    quiet_line : AllQuiet (world.events_of w.links v (Line ∷ []))
    unfolding world.events_of world.event_of Rattle.law_order.specs.History.Lines.counts
    quiet_line = (refl, tt)

    held_q : (n : Name) → held_in n (refs.entry_of K Q.known n) ≡ held_in n (refs.entry_of K s.known n)
    held_q n = begun_held script honest w v act head s x [] [] New Host s.known n

    abbrev Queued : Vat Name
    Queued = record Q { queue = s.queue ++ M ∷ [] }

    queue_one : (z : Value Name) → M.target ≡ z → (queued Queued.queue ≡ queued s.queue) ⊎ ((i : Item) × (queued Queued.queue ≡ queued s.queue ++ i ∷ []) × (was_sent i.mail From.history ≡ false))
    unfolding queued refs.reaction
    queue_one (Ref n) e = inr (item Id n, queued_end s.queue M n e, unsent)
    queue_one other e = inl (queued_append s.queue (M ∷ []) ∙ ap (λ z. queued s.queue ++ elim z [ Ref k ↦ item M.id k ∷ [] | _ ↦ [] ]) e ∙ append-nil (queued s.queue))

    queued_adds : AddsUnsent Queued
    queued_adds = record { lines = Line ∷ []; happened = refl; quiet = quiet_line; queue = queue_one M.target refl; held = held_q; outbox = refl }

    reacting_still : (k : Known Name) → (state.changed (React M) k).held ≡ k.held
    unfolding state.changed state.unless_settled state.changed_to
    reacting_still k = go k.standing
      where
        go : (p : Standing Name) → (state.unless_settled p k (record k { reactions = k.reactions ++ M ∷ [] })).held ≡ k.held
        go (Settled y) = refl
        go other = refl

    react_held : (n m : Name) (ks : List (Known Name)) → held_in m (refs.entry_of K (state.with_change K (React M) n ks) m) ≡ held_in m (refs.entry_of K ks m)
    unfolding held_in
    react_held n m ks = go (differs script v (React M) n m ks)
      where
        go : {p q : Option (Known Name)} → Differs script v (React M) n m p q → held_in m q ≡ held_in m p
        go (as_it_was e) = ap (held_in m) e
        go (changes k e f z) = ap (held_in m) z ∙ ap (held_on m) (reacting_still k) ∙ sym (ap (held_in m) f)

    abbrev Waits : Name → Vat Name
    Waits n = record Q { known = state.with_change K (React M) n Q.known }

    waits_adds : (n : Name) → AddsUnsent (Waits n)
    waits_adds n = record { lines = Line ∷ []; happened = refl; quiet = quiet_line; queue = inl refl; held = λ m. react_held n m Q.known ∙ held_q m; outbox = refl }

    react_adds : (p : Place Name) → IfGives AddsUnsent (refs.react_at K M p Q)
    unfolding refs.react_at alter enqueue
    react_adds (Mine n) = waits_adds n
    react_adds (Away h n false) = waits_adds n
    react_adds other = queued_adds

    then_gives : {A : Type 0} (P : Vat Name → Type 0) (d : Done Name (Unit {0})) (y : A) → IfGives P d → IfGives P (and_then d (λ _. give y))
    unfolding and_then give
    then_gives P (Gives b t) y h = h
    then_gives P other y h = tt

    reacts : IfGives AddsUnsent (refs.react K act x o near s)
    unfolding refs.react ◌>>=◌ ◌>>◌ and_then look tell new_message give names naming name_of mail_of answer_of
    reacts = then_gives AddsUnsent (refs.react_at K M (refs.place K Q (refs.follow K Q x)) Q) (Ref New) (react_adds (refs.place K Q (refs.follow K Q x)))

    both_small : {A : Type 0} (d : Done Name A) → After (StaysReady script honest w v) s d → IfGives AddsUnsent d → IfGives (λ t. SmallStep script honest (went v w head s) (went v w head t)) d
    both_small (Gives y t) f a = adding_is_small t (f ready).1 a
    both_small other f a = tt

    pub react_small : IfGives (λ t. SmallStep script honest (went v w head s) (went v w head t)) (refs.react K act x o near s)
    react_small = both_small (refs.react K act x o near s) ((stays_react script honest w v act x o near).after s) reacts

pub reactions_are_small_steps : ReactionsAreSmallSteps
reactions_are_small_steps = λ script honest w v act head r s x o near at ready unsent. react_small script honest w v head r s at act x o near ready unsent
