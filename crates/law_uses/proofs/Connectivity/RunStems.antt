-- In every world of a run each message stems from what was sent.
use Rattle.std.proofs.Common.{◌≡◌, ℕ, zero, suc, Bool, true, false, List, [], ◌∷◌, ◌++◌, Option, Some, None, refl, sym, ap, ◌∙◌, subst, map, ◌⊎◌, inl, inr, ◌==◌}
use Rattle.std.specs.Prelude.{slice_get}
use Rattle.def_machine.specs.Values.{Value, Ref, Name, Root, Object, Foreign, host_of, spot_of}
use Rattle.def_machine.specs.State.{Message, Known, Passed, Passeds, Plain, AGift, Many, NoMore, More, Note, Deliver, SettledTo, Elsewhere, Shorten, Put, Happened, Took, Settles, Views, Vat, Done, Gives, begun, is_in}
use Rattle.def_machine.specs.Arrive.{Old, New, notice}
use Rattle.def_machine.specs.Eval.{opening}
use Rattle.law_machine.specs.Machine.Steps.{Step, Opens as Starts, Takes, Receives, Notices, does}
use Rattle.def_run.specs.World as world
use Rattle.def_run.specs.World.{Script, Program, Opens, Entry, Turn, Carry, CutLink, NoticeLink, Event, Here, Turned, Idle, Carried, CutAt, NoticedAt, Ends as IsEnd, Link, World, Run, Goes, Stopped, names, names_of, read_note, begins}
use Rattle.law_uses.specs.Connectivity.Known.{IsAmong, AllOf}
use Rattle.law_uses.proofs.Connectivity.FineSteps.{among_left, among_right}
use Rattle.law_fate.specs.Fates.FateRuns.{Reached}
use Rattle.law_fate.proofs.Fates.RunCounts.{pick}
use Rattle.law_uses.specs.Connectivity.Stems.{LeadsTo, itself, HasLine, HasList, HasOpened, HasGone, HasNoticed, HostIn, IsOf, IsApart, ArgsPass, ComesAs, ComeAll, Stems, sent, carried, IsReaction, StemsOrReacts}
use Rattle.law_uses.specs.Connectivity.MessageLaws.{NoteStems, AllStem, MessagesStemFromSends}
use Rattle.law_uses.proofs.Connectivity.Passing.{Kept, kept_all, leads_map, leads_on, all_map, all_end, passes_map, pass_all_map, come_all_map}
use Rattle.law_uses.proofs.Connectivity.Moments.{Past, Line, Members, Offers, Later, StandTold, stand_map, IsTaken, TookFine, Came, Source, Fine, ReactionFine, QueuedFine, NoteFine, KnownFine, IsGone, PassingAll, Good, Ends, Brings, LearntAs, LearntAll, name_in, value_in}
use Rattle.law_uses.proofs.Connectivity.ArriveBring.{brings_arrive, brings_notice}
use Rattle.law_uses.proofs.Connectivity.EvalBring.{brings_opening, brings_taking}
use Rattle.law_uses.proofs.Connectivity.Links.{OpenedIn, opened_with, push_opened, push_puts, with_link_all, found_link, link_from}
use Rattle.law_uses.proofs.Connectivity.Idle.{joined as ends_joined}
use Rattle.law_uses.proofs.Connectivity.Events.{all_at, among_either, here_event, events_here, IsNobodys, nobodys_join, lost_on_nobodys, vats_nobodys, links_nobodys}

-- ---- a world that has all that another has to show

abbrev pub Grows : World → World → Type 0
Grows w x = ((e : Event) → IsAmong e w.history → IsAmong e x.history)
    × ((v k : ℕ) (vs : List (Value Name)) → HasList w v k vs → HasList x v k vs)
    × ((v h i : ℕ) (n : Name) → HasOpened w v h i n → HasOpened x v h i n)
    × ((v : ℕ) (n : Name) → HasGone w v n → HasGone x v n)

module _ (w x : World) (g : Grows w x) where
  pub leads_grow : (u : ℕ) (y z : Value Name) → LeadsTo (HasLine w u) y z → LeadsTo (HasLine x u) y z
  leads_grow u y z h = leads_map (HasLine w u) (HasLine x u) (kept_all (HasLine w u) (HasLine x u) (λ e h. g.0 (Here u e) h)) y z h

  pub args_grow : (u : ℕ) (xs : List (Value Name)) (ys : Passeds Name) → ArgsPass w u xs ys → ArgsPass x u xs ys
  args_grow u xs ys h = pass_all_map (HasLine w u) (HasLine x u) (kept_all (HasLine w u) (HasLine x u) (λ e h. g.0 (Here u e) h)) (HasList w u) (HasList x u) (g.1 u) (HasOpened w u) (HasOpened x u) (g.2 u) (HasGone w u) (HasGone x u) (g.3 u) xs ys h

  pub stems_grow : (v : ℕ) (m : Message Name) → Stems w v m → Stems x v m
  stems_grow v m (sent a y h l) = sent a y (g.0 (Here v _) h) (leads_grow v y m.target l)
  stems_grow v m (carried u n z ys b s i j k l p c) = carried u n z ys (b.0, b.1, b.2, b.3, g.0 _ b.4) (stems_grow u n s) i j (leads_grow u n.target (Ref z) k) (leads_grow v (Ref z) m.target l) (args_grow u n.args ys p) (come_all_map (HasList w v) (HasList x v) (g.1 v) ys m.args c)

  pub reaction_grow : (v : ℕ) (m : Message Name) → IsReaction w v m → IsReaction x v m
  reaction_grow v m h = (h.0, h.1, h.2, h.3, h.4, h.5, g.0 (Here v _) h.6)

  queued_grow : (v : ℕ) (m : Message Name) → StemsOrReacts w v m → StemsOrReacts x v m
  queued_grow v m (inl h) = inl (stems_grow v m h)
  queued_grow v m (inr h) = inr (reaction_grow v m h)

  note_grow : (u : ℕ) (n : Note Name) → NoteStems w u n → NoteStems x u n
  note_grow u (Deliver i n verb ys) h = (h.0, stems_grow u h.0 h.1, h.2, h.3, leads_grow u h.0.target (Ref n) h.4, args_grow u h.0.args ys h.5)
  note_grow u (SettledTo n y) h = passes_map (HasLine w u) (HasLine x u) (kept_all (HasLine w u) (HasLine x u) (λ e i. g.0 (Here u e) i)) (HasList w u) (HasList x u) (g.1 u) (HasOpened w u) (HasOpened x u) (g.2 u) (HasGone w u) (HasGone x u) (g.3 u) (Ref n) y h
  note_grow u (Elsewhere n c) h = (h.0, leads_grow u (Ref n) (Ref (Object c h.0)) h.1)
  note_grow u other h = tt

-- a target may be followed
stems_on : (w : World) (v : ℕ) (m : Message Name) (x : Value Name) → LeadsTo (HasLine w v) x m.target → Stems w v (record m { target = x }) → Stems w v m
stems_on w v m x l (sent a y h k) = sent a y h (leads_on (HasLine w v) y x m.target k l)
stems_on w v m x l (carried u n z ys b s i j k q p c) = carried u n z ys b s i j k (leads_on (HasLine w v) (Ref z) x m.target q l) p c

-- what a vat knows of a name
abbrev pub KnownStems : World → ℕ → Known Name → Type 0
KnownStems w v k = AllOf (Stems w v) k.held × AllOf (IsReaction w v) k.reactions × StandTold (HasLine w v) k.name k.standing

abbrev pub LinkStems : World → Link → Type 0
LinkStems w l = AllOf (NoteStems w l.from) l.notes

-- in each vat, on each link, and in the history
pub record WorldStems (w : World) : Type 0 where
  pub queues : (v : ℕ) (s : Vat Name) → slice_get w.vats v ≡ Some s → AllOf (StemsOrReacts w v) s.queue
  pub names : (v : ℕ) (s : Vat Name) → slice_get w.vats v ≡ Some s → AllOf (KnownStems w v) s.known
  pub links : AllOf (LinkStems w) w.links
  pub taken : (v a : ℕ) (m : Message Name) → IsAmong (Here v (Took a m)) w.history → StemsOrReacts w v m
  pub noticed : (v : ℕ) (s : Vat Name) → slice_get w.vats v ≡ Some s → (u : ℕ) → is_in u s.noticed ≡ true → HasNoticed w v u

module _ (w x : World) (g : Grows w x) where
  all_grow : (v : ℕ) (ms : List (Message Name)) → AllOf (Stems w v) ms → AllOf (Stems x v) ms
  all_grow v ms h = all_map (Stems w v) (Stems x v) (stems_grow w x g v) ms h

  queue_grow : (v : ℕ) (ms : List (Message Name)) → AllOf (StemsOrReacts w v) ms → AllOf (StemsOrReacts x v) ms
  queue_grow v ms h = all_map (StemsOrReacts w v) (StemsOrReacts x v) (queued_grow w x g v) ms h

  known_grow : (v : ℕ) (k : Known Name) → KnownStems w v k → KnownStems x v k
  known_grow v k h = (all_grow v k.held h.0, all_map (IsReaction w v) (IsReaction x v) (reaction_grow w x g v) k.reactions h.1, stand_map (HasLine w v) (HasLine x v) (kept_all (HasLine w v) (HasLine x v) (λ e h. g.0 (Here v e) h)) k.name k.standing h.2)

  link_grow : (l : Link) → LinkStems w l → LinkStems x l
  link_grow l h = all_map (NoteStems w l.from) (NoteStems x l.from) (note_grow w x g l.from) l.notes h

-- ---- links and lines that are nobody's change

module _ (w : World) (ls : List Link) (es : List Event) where
  abbrev pub Moved : World
  Moved = record w { links = ls; history = w.history ++ es }

  pub moved_grows : ((v h i : ℕ) (n : Name) → OpenedIn w.links v h i n → OpenedIn ls v h i n) → Grows w Moved
  moved_grows o = (λ e h. among_left e w.history es h, λ v k vs h. h, λ v h i n k. (o v h i n k.0, k.1), λ v n h. (h.0, (h.1.0, among_left _ w.history es h.1.1), h.2, h.3, h.4))

  moved_stems : ((v h i : ℕ) (n : Name) → OpenedIn w.links v h i n → OpenedIn ls v h i n) → (((l : Link) → LinkStems w l → LinkStems Moved l) → AllOf (LinkStems w) w.links → AllOf (LinkStems Moved) ls) → IsNobodys es → WorldStems w → WorldStems Moved
  moved_stems o f none h = let g = moved_grows o in record {
    queues = λ v s e. queue_grow w Moved g v s.queue (h.queues v s e);
    names = λ v s e. all_map (KnownStems w v) (KnownStems Moved v) (known_grow w Moved g v) s.known (h.names v s e);
    links = f (link_grow w Moved g) h.links;
    taken = λ v a m i. queued_grow w Moved g v m (h.taken v a m (old v a m (among_either (Here v (Took a m)) w.history es i)));
    noticed = λ v s e u i. let n = h.noticed v s e u i in (n.0, among_left _ w.history es n.1);
  }
    where
      old : (v a : ℕ) (m : Message Name) → IsAmong (Here v (Took a m)) w.history ⊎ IsAmong (Here v (Took a m)) es → IsAmong (Here v (Took a m)) w.history
      old v a m (inl i) = i
      old v a m (inr i) = absurd (none v (Took a m) i)

-- ---- a note that is read

pub value_read : (ks : List Name) (y : Value Name) → value_in (world.read_value ks y).read ≡ y
unfolding world.read_value world.read_name
value_read ks (Ref n) = either (world.is_old ks n)
  where
    either : (b : Bool) → Ref (name_in (pick b (Old n) (New n (host_of n)))) ≡ Ref n
    either true = refl
    either false = refl
value_read ks other = refl

module _ (list : ℕ → List (Value Name) → Type 0) where
  mutual
    unfolding world.read_passed world.read_all world.plain_read world.many_read world.more_read

    passed_read : (y : Passed Name) (ks : List Name) (v : Value Name) → LearntAs list (world.read_passed y ks).read v → ComesAs list y v
    passed_read (Plain y) ks v h = h ∙ value_read ks y
    passed_read (AGift w i) ks v h = h
    passed_read (Many ys) ks v h = (h.0, h.1, h.2, h.3, all_read ys ks h.1 h.4)

    pub all_read : (ys : Passeds Name) (ks : List Name) (vs : List (Value Name)) → LearntAll list (world.read_all ys ks).read vs → ComeAll list ys vs
    all_read NoMore ks [] h = tt
    all_read (More y ys) ks (v ∷ vs) h = (passed_read y ks v h.0, all_read ys (world.read_passed y ks).known vs h.1)
    all_read NoMore ks (v ∷ vs) h = absurd h
    all_read (More y ys) ks [] h = absurd h

-- ---- what a step of a vat makes of the world

pub some_vat : (a b : Vat Name) → Some a ≡ Some b → a ≡ b
some_vat a b e = cc

put_lists : (v : ℕ) (xs : List (Vat Name)) (s t : Vat Name) → slice_get xs v ≡ Some s → ((k : ℕ) (vs : List (Value Name)) → slice_get s.lists k ≡ Some vs → slice_get t.lists k ≡ Some vs)
    → (u k : ℕ) (vs : List (Value Name)) → (r : Vat Name) × (slice_get xs u ≡ Some r) × (slice_get r.lists k ≡ Some vs) → (r : Vat Name) × (slice_get (world.put_at v t xs) u ≡ Some r) × (slice_get r.lists k ≡ Some vs)
unfolding world.put_at
put_lists v [] s t e f u k vs h = h
put_lists zero (y ∷ xs) s t e f zero k vs h = (t, refl, f k vs (subst (λ (z : Vat Name). slice_get z.lists k ≡ Some vs) (some_vat h.0 s (sym h.1 ∙ e)) h.2))
put_lists zero (y ∷ xs) s t e f (suc u) k vs h = h
put_lists (suc v) (y ∷ xs) s t e f zero k vs h = h
put_lists (suc v) (y ∷ xs) s t e f (suc u) k vs h = put_lists v xs s t e f u k vs h

-- what stands there is what was put back, or stands as before
put_found : (v : ℕ) (t : Vat Name) (xs : List (Vat Name)) (s : Vat Name) → slice_get xs v ≡ Some s → (u : ℕ) (q : Vat Name) → slice_get xs u ≡ Some q → ((u ≡ v) × (q ≡ s)) ⊎ (slice_get (world.put_at v t xs) u ≡ Some q)
unfolding world.put_at
put_found v t [] s e u q f = cc
put_found zero t (x ∷ xs) s e zero q f = inl (refl, some_vat q s (sym f ∙ e))
put_found zero t (x ∷ xs) s e (suc u) q f = inr f
put_found (suc v) t (x ∷ xs) s e zero q f = inr f
put_found (suc v) t (x ∷ xs) s e (suc u) q f = up (put_found v t xs s e u q f)
  where
    up : ((u ≡ v) × (q ≡ s)) ⊎ (slice_get (world.put_at v t xs) u ≡ Some q) → ((suc u ≡ suc v) × (q ≡ s)) ⊎ (slice_get (world.put_at v t xs) u ≡ Some q)
    up (inl i) = inl (ap suc i.0, i.1)
    up (inr i) = inr i

put_same : (v : ℕ) (xs : List (Vat Name)) (s t : Vat Name) → slice_get xs v ≡ Some s → slice_get (world.put_at v t xs) v ≡ Some t
unfolding world.put_at
put_same v [] s t e = cc
put_same zero (y ∷ xs) s t e = refl
put_same (suc v) (y ∷ xs) s t e = put_same v xs s t e

-- of the vat that was put back, and of each other
pub put_each : (P : ℕ → Vat Name → Type 0) (v : ℕ) (t : Vat Name) (xs : List (Vat Name)) → P v t → ((u : ℕ) (s : Vat Name) → slice_get xs u ≡ Some s → P u s) → (u : ℕ) (s : Vat Name) → slice_get (world.put_at v t xs) u ≡ Some s → P u s
unfolding world.put_at
put_each P v t [] h all u s e = all u s e
put_each P zero t (x ∷ xs) h all zero s e = subst (P zero) (some_vat t s e) h
put_each P zero t (x ∷ xs) h all (suc u) s e = all (suc u) s e
put_each P (suc v) t (x ∷ xs) h all zero s e = all zero s e
put_each P (suc v) t (x ∷ xs) h all (suc u) s e = put_each (λ n. P (suc n)) v t xs h (λ n z f. all (suc n) z f) u s e

pub push_stems : (P : Link → Type 0) (Q : Note Name → Type 0) (v : ℕ) (ps : List (Put Name)) (ls : List Link) → ((l : Link) (n : Note Name) → l.from ≡ v → Q n → P l → P (world.pushed n l)) → AllOf (λ (p : Put Name). Q p.note) ps → AllOf P ls → AllOf P (world.push_all v ps ls)
unfolding world.push_all
push_stems P Q v [] ls f h i = i
push_stems P Q v (p ∷ ps) ls f h i = push_stems P Q v ps (world.with_link (world.pushed p.note) v p.to ls) f h.1 (with_link_all P (world.pushed p.note) v p.to ls (λ l e k. f l p.note (link_from v p.to l e) h.0 k) i)

pushed_stems : (x : World) (v : ℕ) (l : Link) (n : Note Name) → l.from ≡ v → NoteStems x v n → LinkStems x l → LinkStems x (world.pushed n l)
unfolding world.pushed
pushed_stems x v l n e h i = either l.cut
  where
    either : (b : Bool) → LinkStems x (pick b (record l { log = l.log ++ n ∷ [] }) (record l { notes = l.notes ++ n ∷ []; log = l.log ++ n ∷ [] }))
    either true = i
    either false = all_end (NoteStems x l.from) l.notes n i (subst (λ u. NoteStems x u n) (sym e) h)

-- a cut that was noticed, or is in this step
abbrev pub cut_by : World → ℕ → Step Name Name → ℕ → Type 0
cut_by w v step u = HasNoticed w v u ⊎ (step ≡ Notices u)

-- a step of vat v of a world
abbrev pub past_of : World → ℕ → Step Name Name → Past
past_of w v step = record { line = HasLine w v; was = Stems w v; reacted = IsReaction w v; step = step; cut = cut_by w v step; home = v }

-- Vat v of world w, as s, takes a step after which it is t, behind these lines.
module _ (v : ℕ) (w : World) (head : List Event) (s r t : Vat Name) (step : Step Name Name) (at : slice_get w.vats v ≡ Some s) (same : (r.lists ≡ s.lists) × (r.known ≡ s.known) × (r.number ≡ s.number)) (late : Later r t) where
  abbrev pub Next : World
  Next = record { fuel = t.fuel; drawn = t.drawn; vats = world.put_at v t w.vats; links = world.push_all v t.outbox w.links; connections = world.connections_after v t head w.connections; history = w.history ++ head ++ world.events_of w.links v t.happened }

  abbrev pub Before : Past
  Before = past_of w v step

  pub next_grows : Grows w Next
  next_grows = (
    λ e h. among_left e (w.history ++ head) (world.events_of w.links v t.happened) (among_left e w.history head h),
    λ u k vs h. put_lists v w.vats s t at (λ n us e. late.1 n us (subst (λ ls. slice_get ls n ≡ Some us) (sym same.0) e)) u k vs h,
    λ u h i n o. (push_opened v t.outbox w.links u h i n o.0, apart_next u h n o.1),
    λ u n h. let q = either u h.2 n h.0 h.3 h.4 (found u h.2 h.3) in (h.0, (h.1.0, among_left _ (w.history ++ head) (world.events_of w.links v t.happened) (among_left _ w.history head h.1.1)), q.0, q.1, q.2),
  )
    where
      of_next : (u : ℕ) (n : Name) → IsOf s u n → IsOf t u n
      of_next u n (inl h) = inl h
      of_next u n (inr (inl h)) = inr (inl (late.4 n u (subst (λ ks. HostIn ks n u) (sym same.1) h)))
      of_next u n (inr (inr h)) = inr (inr (late.3 ∙ same.2 ∙ h))

      found : (u : ℕ) (q : Vat Name) → slice_get w.vats u ≡ Some q → ((u ≡ v) × (q ≡ s)) ⊎ (slice_get Next.vats u ≡ Some q)
      found u q e = put_found v t w.vats s at u q e

      either : (u : ℕ) (q : Vat Name) (n : Name) (g : ℕ) → slice_get w.vats u ≡ Some q → IsOf q g n → ((u ≡ v) × (q ≡ s)) ⊎ (slice_get Next.vats u ≡ Some q) → (x : Vat Name) × (slice_get Next.vats u ≡ Some x) × IsOf x g n
      either u q n g e o (inl i) = (t, subst (λ k. slice_get Next.vats k ≡ Some t) (sym i.0) (put_same v w.vats s t at), of_next g n (subst (λ (z : Vat Name). IsOf z g n) i.1 o))
      either u q n g e o (inr i) = (q, i, o)

      apart_next : (u h : ℕ) (n : Name) → IsApart w u h n → IsApart Next u h n
      apart_next u h n (inl e) = inl e
      apart_next u h n (inr (q, e, f)) = now (found u q e)
        where
          now : ((u ≡ v) × (q ≡ s)) ⊎ (slice_get Next.vats u ≡ Some q) → IsApart Next u h n
          now (inl i) = inr (t, subst (λ k. slice_get Next.vats k ≡ Some t) (sym i.0) (put_same v w.vats s t at), λ j. f (j ∙ late.3 ∙ same.2 ∙ ap (λ (z : Vat Name). z.number) (sym i.1)))
          now (inr i) = inr (q, i, f)

  pub new_line : (e : Happened Name) → world.event_of w.links v e ≡ Here v e ∷ [] → IsAmong e t.happened → HasLine Next v e
  new_line e f m = among_right (Here v e) (w.history ++ head) (world.events_of w.links v t.happened) (here_event w.links v t.happened e f m)

  pub kept_lines : Kept (Line Before t) (HasLine Next v)
  unfolding world.event_of
  kept_lines = (λ n y h. either (Settles n y) refl h, λ n q h. either (Views n q) refl h)
    where
      either : (e : Happened Name) → world.event_of w.links v e ≡ Here v e ∷ [] → Line Before t e → HasLine Next v e
      either e f (inl h) = next_grows.0 (Here v e) h
      either e f (inr h) = new_line e f h

  pub next_list : (k : ℕ) (vs : List (Value Name)) → Members t k vs → HasList Next v k vs
  next_list k vs e = (t, put_same v w.vats s t at, e)

  pub next_opened : (h i : ℕ) (n : Name) → Offers v t h i n → HasOpened Next v h i n
  next_opened h i n m = (push_puts v t.outbox w.links h i n m.0, either m.1)
    where
      either : (spot_of v n ≡ Foreign h) ⊎ (h ≡ t.number → ⊥) → IsApart Next v h n
      either (inl e) = inl e
      either (inr f) = inr (t, put_same v w.vats s t at, f)

  -- where a notice tells of the cut
  module _ (heard : (u : ℕ) → step ≡ Notices u → HasNoticed Next v u) where
    next_cut : (u : ℕ) → cut_by w v step u → HasNoticed Next v u
    next_cut u (inl h) = (h.0, next_grows.0 _ h.1)
    next_cut u (inr e) = heard u e

    pub next_gone : (n : Name) → IsGone Before t n → HasGone Next v n
    next_gone n h = (h.0, next_cut h.0 h.1, t, put_same v w.vats s t at, h.2)

  pub next_pass : ((u : ℕ) → step ≡ Notices u → HasNoticed Next v u) → (xs : List (Value Name)) (ys : Passeds Name) → PassingAll Before t xs ys → ArgsPass Next v xs ys
  next_pass heard xs ys h = pass_all_map (Line Before t) (HasLine Next v) kept_lines (Members t) (HasList Next v) next_list (Offers v t) (HasOpened Next v) next_opened (IsGone Before t) (HasGone Next v) (next_gone heard) xs ys h

  -- where what the note brings stems from what was sent, and what is taken does
  module _ (brought : (m : Message Name) → Came t step m → Stems Next v m) (takes : (m : Message Name) → IsTaken step m → StemsOrReacts w v m) (heard : (u : ℕ) → step ≡ Notices u → HasNoticed Next v u) where
    source_stems : (m : Message Name) → Source Before t m → Stems Next v m
    unfolding world.event_of
    source_stems m (inl h) = sent h.0 m.target (new_line _ refl h.1) itself
    source_stems m (inr (inl h)) = brought m h
    source_stems m (inr (inr h)) = stems_grow w Next next_grows v m h

    next_stems : (m : Message Name) → Fine Before t m → Stems Next v m
    next_stems m h = stems_on Next v m h.0 (leads_map (Line Before t) (HasLine Next v) kept_lines h.0 m.target h.1) (source_stems (record m { target = h.0 }) h.2)

    next_reaction : (m : Message Name) → ReactionFine Before t m → IsReaction Next v m
    unfolding world.event_of
    next_reaction m (inl h) = (h.0, h.1, h.2, h.3, h.4, h.5, new_line _ refl h.6)
    next_reaction m (inr h) = reaction_grow w Next next_grows v m h

    next_queued : (m : Message Name) → QueuedFine Before t m → StemsOrReacts Next v m
    next_queued m (inl h) = inl (next_stems m h)
    next_queued m (inr h) = inr (next_reaction m h)

    next_note : (n : Note Name) → NoteFine Before t n → NoteStems Next v n
    next_note (Deliver i n verb ys) h = (h.0, next_stems h.0 h.1, h.2, h.3, leads_map (Line Before t) (HasLine Next v) kept_lines h.0.target (Ref n) h.4, next_pass heard h.0.args ys h.5)
    next_note (SettledTo n y) h = passes_map (Line Before t) (HasLine Next v) kept_lines (Members t) (HasList Next v) next_list (Offers v t) (HasOpened Next v) next_opened (IsGone Before t) (HasGone Next v) (next_gone heard) (Ref n) y h
    next_note (Elsewhere n c) h = (h.0, leads_map (Line Before t) (HasLine Next v) kept_lines (Ref n) (Ref (Object c h.0)) h.1)
    next_note other h = tt

    next_known : (k : Known Name) → KnownFine Before t k → KnownStems Next v k
    next_known k h = (all_map (Fine Before t) (Stems Next v) next_stems k.held h.0, all_map (ReactionFine Before t) (IsReaction Next v) next_reaction k.reactions h.1, stand_map (Line Before t) (HasLine Next v) kept_lines k.name k.standing h.2)

    was_taken : IsNobodys head → Good Before t → WorldStems w → (u a : ℕ) (m : Message Name) → IsAmong (Here u (Took a m)) (w.history ++ head) ⊎ IsAmong (Here u (Took a m)) (world.events_of w.links v t.happened) → StemsOrReacts w u m
    was_taken none g h u a m (inl i) = either (among_either (Here u (Took a m)) w.history head i)
      where
        either : IsAmong (Here u (Took a m)) w.history ⊎ IsAmong (Here u (Took a m)) head → StemsOrReacts w u m
        either (inl j) = h.taken u a m j
        either (inr j) = absurd (none u (Took a m) j)
    was_taken none g h u a m (inr j) = let e = events_here w.links v u (Took a m) t.happened j in subst (λ z. StemsOrReacts w z m) (sym e.0) (takes m (all_at (TookFine step) t.happened (Took a m) g.3 e.1))

    pub next_world : IsNobodys head → Good Before t → WorldStems w → WorldStems Next
    next_world none g h = record {
      queues = λ u q e. put_each (λ n z. AllOf (StemsOrReacts Next n) z.queue) v t w.vats (all_map (QueuedFine Before t) (StemsOrReacts Next v) next_queued t.queue g.0) (λ n z f. queue_grow w Next next_grows n z.queue (h.queues n z f)) u q e;
      names = λ u q e. put_each (λ n z. AllOf (KnownStems Next n) z.known) v t w.vats (all_map (KnownFine Before t) (KnownStems Next v) next_known t.known g.1)
          (λ n z f. all_map (KnownStems w n) (KnownStems Next n) (known_grow w Next next_grows n) z.known (h.names n z f)) u q e;
      links = push_stems (LinkStems Next) (NoteStems Next v) v t.outbox w.links (pushed_stems Next v) (all_map (λ (q : Put Name). NoteFine Before t q.note) (λ (q : Put Name). NoteStems Next v q.note) (λ q f. next_note q.note f) t.outbox g.2)
          (all_map (LinkStems w) (LinkStems Next) (link_grow w Next next_grows) w.links h.links);
      taken = λ u a m i. queued_grow w Next next_grows u m (was_taken none g h u a m (among_either (Here u (Took a m)) (w.history ++ head) (world.events_of w.links v t.happened) i));
      noticed = λ u q e. put_each (λ n z. (x : ℕ) → is_in x z.noticed ≡ true → HasNoticed Next n x) v t w.vats (λ x i. next_cut heard x (g.4 x i)) (λ n z f x i. let o = h.noticed n z f x i in (o.0, next_grows.0 _ o.1)) u q e;
    }

-- ---- the steps of a run

-- what a note that arrived brought, in the world after
abbrev pub BringsWell : ℕ → World → List Event → Step Name Name → Type 0
BringsWell v w head step = (x : World) (t : Vat Name) → Grows w x → ((e : Event) → IsAmong e head → IsAmong e x.history) → ((k : ℕ) (vs : List (Value Name)) → Members t k vs → HasList x v k vs) → (m : Message Name) → Came t step m → Stems x v m

put_back_stems : (v : ℕ) (w : World) (head : List Event) (n : ℕ) (s r : Vat Name) (step : Step Name Name) (d : Done Name (Unit {0})) → slice_get w.vats v ≡ Some s → (r.lists ≡ s.lists) × (r.known ≡ s.known) × (r.number ≡ s.number) → IsNobodys head
    → BringsWell v w head step → ((m : Message Name) → IsTaken step m → StemsOrReacts w v m) → ((u : ℕ) → step ≡ Notices u → (k : ℕ) × IsAmong (NoticedAt k v u) head) → Ends (past_of w v step) r (λ a t. Unit {0}) d → WorldStems w → Reached WorldStems (world.put_back v w head n d)
unfolding world.put_back
put_back_stems v w head n s r step (Gives u t) at same none brought takes heard e h = next_world v w head s r t step at same e.0 (λ m c. brought (Next v w head s r t step at same e.0) t (next_grows v w head s r t step at same e.0) (λ f i. among_left f (w.history ++ head) (world.events_of w.links v t.happened) (among_right f w.history head i)) (next_list v w head s r t step at same e.0) m c) takes (λ x i. let k = heard x i in (k.0, among_left _ (w.history ++ head) (world.events_of w.links v t.happened) (among_right _ w.history head k.1))) none e.1 h
put_back_stems v w head n s r step other at same none brought takes heard e h = h

-- a note from vat u that stems there
arrives_well : (v u k : ℕ) (w : World) (bytes : List ℕ) (ks : List Name) (n : Note Name) → NoteStems w u n → BringsWell v w (Carried k u v n bytes ∷ []) (Receives u (read_note ks n))
unfolding read_note world.read_value
arrives_well v u k w bytes ks (Deliver i n verb ys) h x t g b f m c = carried u h.0 n ys (k, i, bytes, c.0, subst (λ z. IsAmong (Carried k u v (Deliver i n z ys) bytes) x.history) c.1 (b _ (inl refl))) (stems_grow w x g u h.0 h.1) (h.2 ∙ c.0) (h.3 ∙ c.1) (leads_grow w x g u h.0.target (Ref n) h.4)
    (subst (λ z. LeadsTo (HasLine x v) (Ref n) z) (sym (c.2 ∙ value_read (world.read_all ys ks).known (Ref n))) itself) (args_grow w x g u h.0.args ys h.5) (come_all_map (Members t) (HasList x v) f ys m.args (all_read (Members t) ys ks m.args c.3))
arrives_well v u k w bytes ks (Elsewhere n c) h x t g b f m d = absurd d
arrives_well v u k w bytes ks (Shorten n c i) h x t g b f m d = absurd d
arrives_well v u k w bytes ks other h x t g b f m c = absurd c

-- what was queued before the step
pub was_queued : (p : Past) (s : Vat Name) (m : Message Name) → p.was m ⊎ p.reacted m → QueuedFine p s m
was_queued p s m (inl h) = inl (m.target, itself, inr (inr h))
was_queued p s m (inr h) = inr (inr h)

pub one_line : (e : Event) → ((u : ℕ) (f : Happened Name) → Here u f ≡ e → ⊥) → IsNobodys (e ∷ [])
one_line e g u f (inl i) = g u f i
one_line e g u f (inr i) = i

notice_is : (u w : ℕ) → ◌≡◌ {A = Step Name Name} (Notices w) (Notices u) → w ≡ u
notice_is u w e = cc

module _ (script : Script) where
  pub step_brings : (v : ℕ) (line : Happened Name → Type 0) (was reacted : Message Name → Type 0) (cut : ℕ → Type 0) (step : Step Name Name) → ((u : ℕ) → step ≡ Notices u → cut u) → Brings (record { line = line; was = was; reacted = reacted; step = step; cut = cut; home = v }) (does (names script v) step)
  unfolding does names
  step_brings v line was reacted cut (Starts tree depth root given) f = brings_opening _ (record { line = line; was = was; reacted = reacted; step = Starts tree depth root given; cut = cut; home = v }) tree depth root given
  step_brings v line was reacted cut (Takes tree depth m) f = brings_taking _ (record { line = line; was = was; reacted = reacted; step = Takes tree depth m; cut = cut; home = v }) tree depth m refl
  step_brings v line was reacted cut (Receives from n) f = brings_arrive _ (record { line = line; was = was; reacted = reacted; step = Receives from n; cut = cut; home = v }) from n refl
  step_brings v line was reacted cut (Notices u) f = brings_notice _ (record { line = line; was = was; reacted = reacted; step = Notices u; cut = cut; home = v }) u (f u refl)

  within_stems : (v : ℕ) (w : World) (head : List Event) (n : ℕ) (step : Step Name Name) (s q : Vat Name) → slice_get w.vats v ≡ Some s → (q.lists ≡ s.lists) × (q.known ≡ s.known) × (q.number ≡ s.number) × (q.noticed ≡ s.noticed) → IsNobodys head → AllOf (StemsOrReacts w v) q.queue → AllOf (KnownStems w v) q.known
      → BringsWell v w head step → ((m : Message Name) → IsTaken step m → StemsOrReacts w v m) → ((u : ℕ) → step ≡ Notices u → (k : ℕ) × IsAmong (NoticedAt k v u) head) → WorldStems w → Reached WorldStems (world.within v w head n (does (names script v) step) (Some q))
  unfolding world.within world.readied
  within_stems v w head n step s q at same none ms ks brought takes heard h = let p : Past = past_of w v step in
      put_back_stems v w head n s (world.readied w q) step _ at (same.0, same.1, same.2) none brought takes heard ((step_brings v (HasLine w v) (Stems w v) (IsReaction w v) (cut_by w v step) step (λ u e. inr e)).after (world.readied w q) (
        all_map (StemsOrReacts w v) (QueuedFine p (world.readied w q)) (was_queued p (world.readied w q)) q.queue ms,
        all_map (KnownStems w v) (KnownFine p (world.readied w q)) (λ k i. (
          all_map (Stems w v) (Fine p (world.readied w q)) (λ m j. (m.target, itself, inr (inr j))) k.held i.0,
          all_map (IsReaction w v) (ReactionFine p (world.readied w q)) (λ m j. inr j) k.reactions i.1,
          stand_map (HasLine w v) (Line p (world.readied w q)) (kept_all (HasLine w v) (Line p (world.readied w q)) (λ e j. inl j)) k.name k.standing i.2,
        )) q.known ks,
        tt,
        tt,
        λ u i. inl (h.noticed v s at u (subst (λ ws. is_in u ws ≡ true) same.3 i)),
      )) h

  idle_stems : (k : ℕ) (w : World) → WorldStems w → Reached WorldStems (world.idle script k w)
  unfolding world.idle
  idle_stems k w h = moved_stems w w.links (Idle k ∷ []) (λ v a i n o. o) (λ f i. all_map (LinkStems w) (LinkStems (record w { history = w.history ++ Idle k ∷ [] })) f w.links i) (one_line (Idle k) (λ u f e. cc)) h

  turn_queue_stems : (k v : ℕ) (w : World) (s : Vat Name) (ms : List (Message Name)) → slice_get w.vats v ≡ Some s → AllOf (StemsOrReacts w v) ms → WorldStems w → Reached WorldStems (world.turn_queue script k v w s ms)
  unfolding world.turn_queue does
  turn_queue_stems k v w s [] at e h = idle_stems k w h
  turn_queue_stems k v w s (m ∷ ms) at e h = within_stems v w (Turned k v ∷ []) (world.step_number script k) (Takes (world.tree_at script.vats v) script.depth m) s (record s { queue = ms }) at (refl, refl, refl, refl) (one_line (Turned k v) (λ u f i. cc)) e.1 (h.names v s at)
      (λ x t g b f n c. absurd c) (λ n i. subst (λ z. StemsOrReacts w v z) (sym i) e.0) (λ u i. cc) h

  turn_stems : (k v : ℕ) (w : World) (o : Option (Vat Name)) → slice_get w.vats v ≡ o → WorldStems w → Reached WorldStems (world.turn script k v w o)
  unfolding world.turn
  turn_stems k v w None e h = idle_stems k w h
  turn_stems k v w (Some s) e h = turn_queue_stems k v w s s.queue e (h.queues v s e) h

  arrives_stems : (k v to : ℕ) (w : World) (n : Note Name) (o : Option (Vat Name)) → slice_get w.vats to ≡ o → NoteStems w v n → WorldStems w → Reached WorldStems (world.arrives script k v to w n o)
  unfolding world.arrives does
  arrives_stems k v to w n None e g h = idle_stems k w h
  arrives_stems k v to w n (Some s) e g h = within_stems to w (Carried k v to n (world.next_frame v to w.connections) ∷ []) (world.step_number script k) (Receives v (read_note (names_of s) n)) s s e (refl, refl, refl, refl) (one_line (Carried k v to n (world.next_frame v to w.connections)) (λ u f i. cc)) (h.queues to s e) (h.names to s e)
      (arrives_well to v k w (world.next_frame v to w.connections) (names_of s) n g) (λ m i. absurd i) (λ u i. cc) h

  -- the notes of a link go on without the first
  pub less_grows : (v to : ℕ) (w : World) (ns : List (Note Name)) → Grows w (record w { links = world.with_link (world.with_notes ns) v to w.links })
  unfolding world.with_notes
  less_grows v to w ns = (λ e h. h, λ u k vs h. h, λ u a i n o. (opened_with (world.with_notes ns) (λ l. (refl, refl, λ m j. j)) v to w.links u a i n o.0, o.1), λ u n h. h)

  less : (v to : ℕ) (w : World) (ns : List (Note Name)) → AllOf (NoteStems w v) ns → WorldStems w → WorldStems (record w { links = world.with_link (world.with_notes ns) v to w.links })
  unfolding world.with_notes
  less v to w ns g h = let x : World = record w { links = world.with_link (world.with_notes ns) v to w.links } in let grows : Grows w x = less_grows v to w ns in record {
    queues = λ u s e. queue_grow w x grows u s.queue (h.queues u s e);
    names = λ u s e. all_map (KnownStems w u) (KnownStems x u) (known_grow w x grows u) s.known (h.names u s e);
    links = with_link_all (LinkStems x) (world.with_notes ns) v to w.links
        (λ l e j. subst (λ u. AllOf (NoteStems x u) ns) (sym (link_from v to l e)) (all_map (NoteStems w v) (NoteStems x v) (note_grow w x grows v) ns g))
        (all_map (LinkStems w) (LinkStems x) (link_grow w x grows) w.links h.links);
    taken = λ u a m i. queued_grow w x grows u m (h.taken u a m i);
    noticed = h.noticed;
  }

  carry_notes_stems : (k v to : ℕ) (w : World) (ns : List (Note Name)) → AllOf (NoteStems w v) ns → WorldStems w → Reached WorldStems (world.carry_notes script k v to w ns)
  unfolding world.carry_notes
  carry_notes_stems k v to w [] g h = idle_stems k w h
  carry_notes_stems k v to w (n ∷ ns) g h = let x : World = record w { links = world.with_link (world.with_notes ns) v to w.links } in
      arrives_stems k v to x n (slice_get w.vats to) refl (note_grow w x (less_grows v to w ns) v n g.0) (less v to w ns g.1 h)

  carry_cut_stems : (k v to : ℕ) (w : World) (l : Link) (b : Bool) → AllOf (NoteStems w v) l.notes → WorldStems w → Reached WorldStems (pick b (world.idle script k w) (world.carry_notes script k v to w l.notes))
  carry_cut_stems k v to w l true g h = idle_stems k w h
  carry_cut_stems k v to w l false g h = carry_notes_stems k v to w l.notes g h

  carry_link_stems : (k v to : ℕ) (w : World) (o : Option Link) → world.link_at v to w.links ≡ o → WorldStems w → Reached WorldStems (world.carry_link script k v to w o)
  unfolding world.carry_link
  carry_link_stems k v to w None e h = idle_stems k w h
  carry_link_stems k v to w (Some l) e h = let f = found_link (LinkStems w) v to w.links l e h.links in carry_cut_stems k v to w l l.cut (subst (λ u. AllOf (NoteStems w u) l.notes) f.1 f.0) h

  cut_stems : (k v to : ℕ) (w : World) → WorldStems w → Reached WorldStems (world.cut script k v to w)
  unfolding world.cut world.severed_link
  cut_stems k v to w h = let one : List Link = world.with_link world.severed_link v to w.links in let ls : List Link = world.with_link world.severed_link to v one in
      let es : List Event = CutAt k v to ∷ (world.lost_on script (world.link_at v to w.links) ++ world.lost_on script (world.link_at to v w.links)) in
      moved_stems w ls es (λ u a i n o. opened_with world.severed_link (λ l. (refl, refl, λ m j. j)) to v one u a i n (opened_with world.severed_link (λ l. (refl, refl, λ m j. j)) v to w.links u a i n o))
      (λ f i. with_link_all (LinkStems (Moved w ls es)) world.severed_link to v one (λ l e j. tt) (with_link_all (LinkStems (Moved w ls es)) world.severed_link v to w.links (λ l e j. tt) (all_map (LinkStems w) (LinkStems (Moved w ls es)) f w.links i)))
      (nobodys_join (CutAt k v to ∷ []) (world.lost_on script (world.link_at v to w.links) ++ world.lost_on script (world.link_at to v w.links)) (one_line (CutAt k v to) (λ u f e. cc))
      (nobodys_join (world.lost_on script (world.link_at v to w.links)) (world.lost_on script (world.link_at to v w.links)) (lost_on_nobodys script (world.link_at v to w.links)) (lost_on_nobodys script (world.link_at to v w.links)))) h

  notice_stems : (k v to : ℕ) (w : World) (o : Option (Vat Name)) → slice_get w.vats v ≡ o → WorldStems w → Reached WorldStems (world.within v w (NoticedAt k v to ∷ []) (world.step_number script k) (notice (names script v) to) o)
  unfolding does world.within
  notice_stems k v to w None e h = h
  notice_stems k v to w (Some s) e h = within_stems v w (NoticedAt k v to ∷ []) (world.step_number script k) (Notices to) s s e (refl, refl, refl, refl) (one_line (NoticedAt k v to) (λ u f i. cc)) (h.queues v s e) (h.names v s e) (λ x t g b f n c. absurd c) (λ m i. absurd i) (λ u i. (k, inl (ap (NoticedAt k v) (sym (notice_is u to i))))) h

  open_stems : (v : ℕ) (p : Program) (w : World) (o : Option (Vat Name)) → slice_get w.vats v ≡ o → WorldStems w → Reached WorldStems (world.within v w (Opens v ∷ []) v (opening (names script v) p.tree script.depth (Root v) (world.given script.vats p.knows)) o)
  unfolding does world.within
  open_stems v p w None e h = h
  open_stems v p w (Some s) e h = within_stems v w (Opens v ∷ []) v (Starts p.tree script.depth (Root v) (world.given script.vats p.knows)) s s e (refl, refl, refl, refl) (one_line (Opens v) (λ u f i. cc)) (h.queues v s e) (h.names v s e) (λ x t g b f n c. absurd c) (λ m i. absurd i) (λ u i. cc) h

  step_stems : (entry : Entry) (k : ℕ) (w : World) → WorldStems w → Reached WorldStems (world.step script entry k w)
  unfolding world.step
  step_stems (Turn v) k w h = turn_stems k v w (slice_get w.vats v) refl h
  step_stems (Carry v to) k w h = carry_link_stems k v to w (world.link_at v to w.links) refl h
  step_stems (CutLink v to) k w h = cut_stems k v to w h
  step_stems (NoticeLink v to) k w h = notice_stems k v to w (slice_get w.vats v) refl h

  then_stems : (r : Run) (f : World → Run) → Reached WorldStems r → ((w : World) → WorldStems w → Reached WorldStems (f w)) → Reached WorldStems (world.then_goes r f)
  unfolding world.then_goes
  then_stems (Goes w) f h g = g w h
  then_stems (Stopped c k w) f h g = h

  steps_stems : (es : List Entry) (k : ℕ) (w : World) → WorldStems w → Reached WorldStems (world.steps_from script es k w)
  unfolding world.steps_from
  steps_stems [] k w h = h
  steps_stems (e ∷ es) k w h = then_stems (world.step script e k w) (world.steps_from script es (suc k)) (step_stems e k w h) (λ y i. steps_stems es (suc k) y i)

  opens_stems : (v : ℕ) (ps : List Program) (w : World) → WorldStems w → Reached WorldStems (world.open_from script v ps w)
  unfolding world.open_from world.open_vat
  opens_stems v [] w h = h
  opens_stems v (p ∷ ps) w h = then_stems (world.open_vat script v p w) (world.open_from script (suc v) ps) (open_stems v p w (slice_get w.vats v) refl h) (λ y i. opens_stems (suc v) ps y i)

-- ---- the start

roots_stem : (w : World) (v : ℕ) (ws : List ℕ) → AllOf (KnownStems w v) (map world.known_root ws)
unfolding world.known_root begun
roots_stem w v [] = tt
roots_stem w v (u ∷ us) = ((tt, tt, tt), roots_stem w v us)

fresh_stems : (script : Script) (w : World) (u v : ℕ) (ps : List Program) (i : ℕ) (s : Vat Name) → slice_get (world.fresh_from script v ps) i ≡ Some s → AllOf (StemsOrReacts w u) s.queue × AllOf (KnownStems w u) s.known
unfolding world.fresh_from world.fresh world.known_root begun
fresh_stems script w u v [] i s e = cc
fresh_stems script w u v (p ∷ ps) zero s e = subst (λ (r : Vat Name). AllOf (StemsOrReacts w u) r.queue × AllOf (KnownStems w u) r.known) (some_vat (world.fresh script v p) s e) (tt, ((tt, tt, tt), roots_stem w u p.knows))
fresh_stems script w u v (p ∷ ps) (suc i) s e = fresh_stems script w u (suc v) ps i s e

all_join : (P : Link → Type 0) (xs ys : List Link) → AllOf P xs → AllOf P ys → AllOf P (xs ++ ys)
all_join P [] ys h k = k
all_join P (x ∷ xs) ys h k = (h.0, all_join P xs ys h.1 k)

links_to_stem : (x : World) (v w : ℕ) (ps : List Program) → AllOf (LinkStems x) (world.links_to v w ps)
unfolding world.links_to
links_to_stem x v w [] = tt
links_to_stem x v w (p ∷ ps) = either (v == w) (links_to_stem x v (suc w) ps)
  where
    either : (b : Bool) → AllOf (LinkStems x) (world.links_to v (suc w) ps) → AllOf (LinkStems x) (pick b (world.links_to v (suc w) ps) (record { from = v; to = w; cut = false; notes = []; roots = world.roots_for v p; log = [] } ∷ world.links_to v (suc w) ps))
    either true h = h
    either false h = (tt, h)

links_from_stem : (x : World) (all : List Program) (v : ℕ) (ps : List Program) → AllOf (LinkStems x) (world.links_from all v ps)
unfolding world.links_from
links_from_stem x all v [] = tt
links_from_stem x all v (p ∷ ps) = all_join (LinkStems x) (world.links_to v zero all) (world.links_from all (suc v) ps) (links_to_stem x v zero all) (links_from_stem x all (suc v) ps)

never : (u : ℕ) (ws : List ℕ) → ws ≡ [] → is_in u ws ≡ true → ⊥
unfolding is_in
never u [] e i = cc
never u (w ∷ ws) e i = cc

fresh_notices : (script : Script) (v : ℕ) (ps : List Program) (i : ℕ) (s : Vat Name) → slice_get (world.fresh_from script v ps) i ≡ Some s → s.noticed ≡ []
unfolding world.fresh_from world.fresh
fresh_notices script v [] i s e = cc
fresh_notices script v (p ∷ ps) zero s e = ap (λ (z : Vat Name). z.noticed) (some_vat s (world.fresh script v p) (sym e))
fresh_notices script v (p ∷ ps) (suc i) s e = fresh_notices script (suc v) ps i s e

begins_stems : (script : Script) → WorldStems (begins script)
unfolding begins
begins_stems script = record {
  queues = λ v s e. (fresh_stems script (begins script) v zero script.vats v s e).0;
  names = λ v s e. (fresh_stems script (begins script) v zero script.vats v s e).1;
  links = links_from_stem (begins script) script.vats zero script.vats;
  taken = λ v a m i. absurd i;
  noticed = λ v s e u i. absurd (never u s.noticed (fresh_notices script zero script.vats v s e) i);
}

goes_stems : (r : Run) (w : World) → r ≡ Goes w → Reached WorldStems r → WorldStems w
goes_stems (Goes y) w e h = let same : y ≡ w = cc in rw same at h
goes_stems (Stopped c k y) w e h = cc

all_stem : (w : World) → WorldStems w → AllStem w
all_stem w h = record {
  queues = h.queues;
  names = λ v s e. all_map (KnownStems w v) (λ (k : Known Name). AllOf (Stems w v) k.held × AllOf (IsReaction w v) k.reactions) (λ k i. (i.0, i.1)) s.known (h.names v s e);
  standings = λ v s e. all_map (KnownStems w v) (λ (k : Known Name). StandTold (HasLine w v) k.name k.standing) (λ k i. i.2) s.known (h.names v s e);
  links = h.links;
  taken = h.taken;
}

reached_all : (r : Run) → Reached WorldStems r → Reached AllStem r
reached_all (Goes w) h = all_stem w h
reached_all (Stopped c k w) h = all_stem w h

pub messages_stem : MessagesStemFromSends
messages_stem script = (
  λ ps. reached_all _ (opens_stems script zero ps (begins script) (begins_stems script)),
  λ w es k e. reached_all _ (steps_stems script es k w (goes_stems (world.open_from script zero script.vats (begins script)) w e (opens_stems script zero script.vats (begins script) (begins_stems script)))),
)

module _ (script : Script) where
  -- the closing list behind it
  close_stems : (w : World) → WorldStems w → Reached WorldStems (world.close script w)
  unfolding world.close
  close_stems w h = let vats : List Event = world.left_vats script w.vats in let links : List Event = world.left_links script w.links in let es : List Event = vats ++ (links ++ IsEnd ∷ []) in
      subst (λ hs. WorldStems (record w { history = hs })) (sym (ends_joined (w.history ++ vats) links (IsEnd ∷ []) ∙ ends_joined w.history vats (links ++ IsEnd ∷ [])))
      (moved_stems w w.links es (λ v a i n o. o) (λ f i. all_map (LinkStems w) (LinkStems (record w { history = w.history ++ es })) f w.links i)
      (nobodys_join vats (links ++ IsEnd ∷ []) (vats_nobodys script w.vats) (nobodys_join links (IsEnd ∷ []) (links_nobodys script w.links) (one_line IsEnd (λ u e i. cc)))) h)

  pub ended_stem : (w : World) → world.run script ≡ Goes w → AllStem w
  unfolding world.run
  ended_stem w e = all_stem w (goes_stems _ w e (then_stems script (world.open_from script zero script.vats (begins script)) _ (opens_stems script zero script.vats (begins script) (begins_stems script))
      (λ y h. then_stems script (world.steps_from script script.schedule 1 y) (world.close script) (steps_stems script script.schedule 1 y h) (λ z k. close_stems z k))))
