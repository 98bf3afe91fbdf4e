-- What an entry does where something is there, and where nothing is.
use Rattle.std.proofs.Common.{◌≡◌, ℕ, zero, suc, Bool, true, false, List, [], ◌∷◌, ◌++◌, Option, Some, None, refl, sym, ap, ◌∙◌, subst, ◌⊎◌, inl, inr, append_assoc}
use Rattle.std.proofs.lemmas.List.{append-nil}
use Rattle.std.specs.Prelude.{slice_get}
use Rattle.def_machine.specs.Values.{Name, Naming}
use Rattle.def_machine.specs.State.{Message, Note, Happened, Took, Vat, Done, Gives, ◌>>=◌, ◌>>◌, and_then, new_activation, tell}
use Rattle.def_machine.specs.Arrive.{notice}
use Rattle.def_machine.specs.Calls as calls
use Rattle.def_machine.specs.Eval as eval
use Rattle.def_kernel.specs.declared.node.Node.{Node}
use Rattle.def_run.specs.World.{Script, Entry, Turn, Carry, CutLink, NoticeLink, Event, Turned, Carried, CutAt, NoticedAt, Link, World, Goes, put_at, put_back, readied, within, event_of, events_of, names, tree_at, step_number, idle, turn_queue, turn, next_frame, arrives, with_link, with_notes, link_at, carry_notes, carry_link, lost_on, cut, step}
use Rattle.law_machine.specs.Machine.Steps.{After}
use Rattle.law_machine.specs.Machine.Laws.{AddsAtEnd}
use Rattle.law_machine.specs.Run.Entries.{Tells, IsIdle, TurnTakes, CarryBrings, NoneQueued, NoneUnderWay, EntryDoes, IdleWhereNothingIs}
use Rattle.law_machine.proofs.Machine.Keeps.{Keeps, IsKept, IsKeptUnder}
use Rattle.law_machine.proofs.Machine.EvalKeeps.{good_evaluator, keeps_closes, keeps_turn_value, keeps_taking}
use Rattle.law_machine.proofs.Machine.StepLaws.{history_law, history_names}

-- ---- what is queued is queued behind

abbrev QueueGrows : {N : Type 0} → Vat N → Vat N → Type 0
QueueGrows {N} s t = (more : List (Message N)) × (t.queue ≡ s.queue ++ more)

none_added : {A : Type 0} (xs : List A) → (es : List A) × (xs ≡ xs ++ es)
none_added xs = ([], sym (append-nil xs))

both_added : {A : Type 0} (xs ys zs : List A) → (es : List A) × (ys ≡ xs ++ es) → (es : List A) × (zs ≡ ys ++ es) → (es : List A) × (zs ≡ xs ++ es)
both_added xs ys zs h k = (h.0 ++ k.0, k.1 ∙ ap (λ x. x ++ k.0) h.1 ∙ append_assoc xs h.0 k.0)

queue_law : {N : Type 0} → IsKept {N = N} QueueGrows
queue_law = record {
  same = λ s. none_added s.queue;
  trans = λ h k. both_added _ _ _ h k;
  fuel = λ s n. none_added s.queue;
  happened = λ s e. none_added s.queue;
  activations = λ s. none_added s.queue;
  thing = λ s x. none_added s.queue;
  killed = λ s n. none_added s.queue;
  slot = λ s c. none_added s.queue;
  written = λ s n v. none_added s.queue;
  list = λ s vs. none_added s.queue;
  queue = λ s m. (m ∷ [], refl);
  outbox = λ s n. none_added s.queue;
  gift = λ s g. none_added s.queue;
  opened = λ s p i. none_added s.queue;
  noticed = λ s w. none_added s.queue;
  drawn = λ s w. none_added s.queue;
}

queue_names : {N W : Type 0} (K : Naming N W) → IsKeptUnder K QueueGrows
queue_names K = record {
  altered = λ s c n. none_added s.queue;
  came = λ s c h. none_added s.queue;
  mailed = λ s c. none_added s.queue;
  lone = λ s id. none_added s.queue;
  promised = λ s. none_added s.queue;
  messaged = λ s h id. none_added s.queue;
}

-- ---- a turn

module _ (K : Naming Name Name) (tree : List Node) where
  -- what follows the line that tells of the message
  keeps_rest : (depth a : ℕ) (m : Message Name) → Keeps AddsAtEnd (eval.closes K tree a m.answer (calls.turn_value K tree (eval.evaluator K tree depth) a m.target m.verb m.args))
  keeps_rest depth a m = keeps_closes K AddsAtEnd history_law (history_names K) tree a m.answer _ (keeps_turn_value K AddsAtEnd history_law (history_names K) tree _ (good_evaluator K AddsAtEnd history_law (history_names K) tree depth) a m.target m.verb m.args)

  after_gives : {A : Type 0} (P : Vat Name → Vat Name → Type 0) (s t : Vat Name) (a : A) (d : Done Name A) → After P s d → d ≡ Gives a t → P s t
  after_gives P s t a (Gives b u) h e = let same : u ≡ t = cc in subst (P s) same h
  after_gives P s t a other h e = cc

  -- The turn's first line tells that its activation takes the message.
  takes_first : (depth : ℕ) (m : Message Name) (s t : Vat Name) → s.happened ≡ [] → eval.taking K tree depth m s ≡ Gives tt t → (es : List (Happened Name)) × (t.happened ≡ Took s.activations m ∷ es)
  unfolding eval.taking ◌>>=◌ ◌>>◌ and_then new_activation tell
  takes_first depth m s t e g = let u : Vat Name = record s { activations = suc s.activations; happened = s.happened ++ Took s.activations m ∷ [] } in
      let h = after_gives AddsAtEnd u t tt _ ((keeps_rest depth s.activations m).after u) g in
      (h.0.0, h.0.1 ∙ ap (λ es. (es ++ Took s.activations m ∷ []) ++ h.0.0) e)

  queues_behind : (depth : ℕ) (m : Message Name) (s t : Vat Name) → eval.taking K tree depth m s ≡ Gives tt t → QueueGrows s t
  queues_behind depth m s t g = after_gives QueueGrows s t tt _ ((keeps_taking K QueueGrows queue_law (queue_names K) tree depth m).after s) g

-- ---- a step of a vat

put_found : {A : Type 0} (v : ℕ) (y x : A) (xs : List A) → slice_get xs v ≡ Some x → slice_get (put_at v y xs) v ≡ Some y
unfolding put_at
put_found v y x [] e = cc
put_found zero y x (z ∷ xs) e = refl
put_found (suc v) y x (z ∷ xs) e = put_found v y x xs e

goes_is : (w x : World) → Goes w ≡ Goes x → w ≡ x
goes_is w x e = cc

-- what is put back, tells the step's own line first
put_tells : (v : ℕ) (w x : World) (e : Event) (n : ℕ) (s : Vat Name) (d : Done Name (Unit {0})) → slice_get w.vats v ≡ Some s → put_back v w (e ∷ []) n d ≡ Goes x
    → (t : Vat Name) × (d ≡ Gives tt t) × (slice_get x.vats v ≡ Some t) × Tells w x (e ∷ events_of w.links v t.happened)
unfolding put_back
put_tells v w x e n s (Gives tt t) here g = (t, refl, subst (λ (y : World). slice_get y.vats v ≡ Some t) (goes_is _ x g) (put_found v t s w.vats here), subst (λ (y : World). Tells w y (e ∷ events_of w.links v t.happened)) (goes_is _ x g) (append_assoc w.history (e ∷ []) (events_of w.links v t.happened)))
put_tells v w x e n s other here g = cc

module _ (script : Script) where
  idle_is : (k : ℕ) (w x : World) → idle script k w ≡ Goes x → IsIdle k w x
  unfolding idle
  idle_is k w x e = let same = goes_is _ x e in (ap (λ (y : World). y.history) (sym same), ap (λ (y : World). y.vats) (sym same), ap (λ (y : World). y.fuel) (sym same), ap (λ (y : World). y.drawn) (sym same))

  turn_taken : (k v : ℕ) (w x : World) (s : Vat Name) (m : Message Name) (ms : List (Message Name)) → slice_get w.vats v ≡ Some s → s.queue ≡ m ∷ ms → turn_queue script k v w s (m ∷ ms) ≡ Goes x → TurnTakes k v w x
  unfolding turn_queue within readied events_of event_of
  turn_taken k v w x s m ms at q e =
      let r : Vat Name = readied w (record s { queue = ms }) in
      let p = put_tells v w x (Turned k v) (step_number script k) s (eval.taking (names script v) (tree_at script.vats v) script.depth m r) at e in
      let first = takes_first (names script v) (tree_at script.vats v) script.depth m r p.0 refl p.1 in
      let queue = queues_behind (names script v) (tree_at script.vats v) script.depth m r p.0 p.1 in
      (s, p.0, m, ms, queue.0, events_of w.links v first.0, at, q, subst (λ hs. Tells w x (Turned k v ∷ events_of w.links v hs)) first.1 p.3, p.2, queue.1)

  turn_either : (k v : ℕ) (w x : World) (s : Vat Name) (ms : List (Message Name)) → slice_get w.vats v ≡ Some s → s.queue ≡ ms → turn_queue script k v w s ms ≡ Goes x → (NoneQueued w v × IsIdle k w x) ⊎ TurnTakes k v w x
  unfolding turn_queue
  turn_either k v w x s [] at q e = inl ((λ r i. ap (λ (z : Vat Name). z.queue) (vat_is i at) ∙ q), idle_is k w x e)
    where
      vat_is : {a b : Vat Name} {o : Option (Vat Name)} → o ≡ Some a → o ≡ Some b → a ≡ b
      vat_is i j = cc
  turn_either k v w x s (m ∷ ms) at q e = inr (turn_taken k v w x s m ms at q e)

  turn_does : (k v : ℕ) (w x : World) (o : Option (Vat Name)) → slice_get w.vats v ≡ o → turn script k v w o ≡ Goes x → (NoneQueued w v × IsIdle k w x) ⊎ TurnTakes k v w x
  unfolding turn
  turn_does k v w x None at e = inl ((λ s i. none s (sym at ∙ i)), idle_is k w x e)
    where
      none : (s : Vat Name) → None ≡ Some s → s.queue ≡ []
      none s i = cc
  turn_does k v w x (Some s) at e = turn_either k v w x s s.queue at refl e

  -- ---- a carry

  link_is : {a b : Link} {o : Option Link} → o ≡ Some a → o ≡ Some b → a ≡ b
  link_is i j = cc

  brought : (k v u : ℕ) (w x : World) (l : Link) (n : Note Name) (ns : List (Note Name)) → link_at v u w.links ≡ Some l → l.cut ≡ false → l.notes ≡ n ∷ ns → (o : Option (Vat Name)) → slice_get w.vats u ≡ o
      → arrives script k v u (record w { links = with_link (with_notes ns) v u w.links }) n o ≡ Goes x → (NoneUnderWay w v u × IsIdle k w x) ⊎ CarryBrings k v u w x
  unfolding arrives within
  brought k v u w x l n ns at c q None here e = inl ((λ j i. inr (inr here)), idle_is k (record w { links = with_link (with_notes ns) v u w.links }) x e)
  brought k v u w x l n ns at c q (Some s) here e = let p = put_tells u (record w { links = with_link (with_notes ns) v u w.links }) x (Carried k v u n (next_frame v u w.connections)) (step_number script k) s _ here e in
      inr (l, n, ns, s, next_frame v u w.connections, _, at, c, q, here, p.3)

  carry_notes_do : (k v u : ℕ) (w x : World) (l : Link) (ns : List (Note Name)) → link_at v u w.links ≡ Some l → l.cut ≡ false → l.notes ≡ ns → carry_notes script k v u w ns ≡ Goes x → (NoneUnderWay w v u × IsIdle k w x) ⊎ CarryBrings k v u w x
  unfolding carry_notes
  carry_notes_do k v u w x l [] at c q e = inl ((λ j i. inr (inl (ap (λ (z : Link). z.notes) (link_is i at) ∙ q))), idle_is k w x e)
  carry_notes_do k v u w x l (n ∷ ns) at c q e = brought k v u w x l n ns at c q (slice_get w.vats u) refl e

  carry_cut_does : (k v u : ℕ) (w x : World) (l : Link) (b : Bool) → link_at v u w.links ≡ Some l → l.cut ≡ b → elim b [ true ↦ idle script k w | false ↦ carry_notes script k v u w l.notes ] ≡ Goes x → (NoneUnderWay w v u × IsIdle k w x) ⊎ CarryBrings k v u w x
  carry_cut_does k v u w x l true at c e = inl ((λ j i. inl (ap (λ (z : Link). z.cut) (link_is i at) ∙ c)), idle_is k w x e)
  carry_cut_does k v u w x l false at c e = carry_notes_do k v u w x l l.notes at c refl e

  carry_does : (k v u : ℕ) (w x : World) (o : Option Link) → link_at v u w.links ≡ o → carry_link script k v u w o ≡ Goes x → (NoneUnderWay w v u × IsIdle k w x) ⊎ CarryBrings k v u w x
  unfolding carry_link
  carry_does k v u w x None at e = inl ((λ l i. none l (sym at ∙ i)), idle_is k w x e)
    where
      none : (l : Link) → None ≡ Some l → (l.cut ≡ true) ⊎ (l.notes ≡ []) ⊎ (slice_get w.vats u ≡ None)
      none l i = cc
  carry_does k v u w x (Some l) at e = carry_cut_does k v u w x l l.cut at refl e

  -- ---- a cut and a notice

  notice_does : (k v u : ℕ) (w x : World) (o : Option (Vat Name)) → slice_get w.vats v ≡ o → within v w (NoticedAt k v u ∷ []) (step_number script k) (notice (names script v) u) o ≡ Goes x
      → (s : Vat Name) × (rest : List Event) × (slice_get w.vats v ≡ Some s) × Tells w x (NoticedAt k v u ∷ rest)
  unfolding within
  notice_does k v u w x None at e = cc
  notice_does k v u w x (Some s) at e = let p = put_tells v w x (NoticedAt k v u) (step_number script k) s _ at e in (s, _, at, p.3)

  entry_does : (entry : Entry) (k : ℕ) (w x : World) → step script entry k w ≡ Goes x → EntryDoes k entry w x
  unfolding step cut
  entry_does (Turn v) k w x e = turn_does k v w x (slice_get w.vats v) refl e
  entry_does (Carry v u) k w x e = carry_does k v u w x (link_at v u w.links) refl e
  entry_does (CutLink v u) k w x e = (_, subst (λ (y : World). Tells w y (CutAt k v u ∷ (lost_on script (link_at v u w.links) ++ lost_on script (link_at u v w.links)))) (goes_is _ x e) refl)
  entry_does (NoticeLink v u) k w x e = notice_does k v u w x (slice_get w.vats v) refl e

pub idle_where_nothing : IdleWhereNothingIs
idle_where_nothing script entry k w x e = entry_does script entry k w x e
