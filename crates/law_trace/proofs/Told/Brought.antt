-- Each note that a run carries was the first of its link in a world that the run had come to.
use Rattle.std.proofs.Common.{◌≡◌, ℕ, zero, suc, List, [], ◌∷◌, ◌++◌, Some, take, refl, sym, ap, ◌∙◌, subst, inl, inr, arith, append-nil, Bool, true, false}
use Rattle.std.specs.Prelude.{slice_get}
use Rattle.def_machine.specs.Values.{Name}
use Rattle.def_machine.specs.State.{Message, Note, Deliver, Happened, Posted, Sends, Vat}
use Rattle.law_machine.specs.Machine.Steps.{Step, Opens as Starts, Takes, Receives, Notices}
use Rattle.def_run.specs.World as world
use Rattle.def_run.specs.World.{Script, Event, Here, Carried, LostCut, Link, World, Run, Goes, Stopped, events_of, event_of, begins}
use Rattle.def_run.specs.Text.{history_of}
use Rattle.law_fate.specs.Fates.Fate.{total}
use Rattle.law_fate.specs.Fates.FateRuns.{Reached}
use Rattle.law_fate.proofs.Fates.RunCounts.{pick}
use Rattle.law_uses.specs.Connectivity.Known.{IsAmong, AllOf}
use Rattle.law_uses.specs.Connectivity.Begotten.{IsTaken}
use Rattle.law_uses.specs.Connectivity.MessageLaws.{AllStem, NoteStems}
use Rattle.law_uses.specs.Connectivity.Stems.{Stems, sent, carried}
use Rattle.law_uses.proofs.Connectivity.Knowing.{among_mid}
use Rattle.law_uses.proofs.Connectivity.Links.{found_link}
use Rattle.law_uses.proofs.Uses.Kept.{is_carry}
use Rattle.law_uses.proofs.Uses.Sources.{total_in}
use Rattle.law_uses.proofs.Uses.Steps.{Parted, parted}
use Rattle.law_uses.proofs.KnownUses.Walk.{Leads, quiet, steps}
use Rattle.law_uses.proofs.KnownUses.Stood.{Came, first, onward, is_run, Ended, run_ended}
use Rattle.law_uses.proofs.KnownUses.Moments.{stem_at}
use Rattle.law_trace.specs.Shown.Shown.{CarryWhatWasSent}
use Rattle.law_trace.proofs.Shown.Reaching.{take_get}
use Rattle.law_trace.proofs.Told.Placed.{split_at}

-- ---- lines that carry nothing

carry_counts : (es : List Event) (j u v : ℕ) (n : Note Name) (bytes : List ℕ) → IsAmong (Carried j u v n bytes) es → total is_carry es ≡ 0 → ⊥
unfolding is_carry
carry_counts es j u v n bytes i z = let k = total_in is_carry es (Carried j u v n bytes) i in omega arith

lost_none : (b : Bool) (m : Name) (rest : List Event) → total is_carry (pick b (LostCut m ∷ []) [] ++ rest) ≡ total is_carry rest
unfolding total is_carry
lost_none true m rest = omega arith
lost_none false m rest = refl

events_none : (ls : List Link) (v : ℕ) (es : List (Happened Name)) → total is_carry (events_of ls v es) ≡ 0
unfolding events_of event_of total is_carry
events_none ls v [] = refl
events_none ls v (Posted w m ∷ es) = lost_none (world.is_cut v w ls) m (events_of ls v es) ∙ events_none ls v es
events_none ls v (e ∷ es) = let rest = events_none ls v es in omega arith

-- the line of a step is one
one_is : (e f : Event) (g k : List Event) → e ∷ [] ≡ g ++ f ∷ k → (g ≡ []) × (e ≡ f)
one_is e f [] k q = let same : e ≡ f = cc in (refl, same)
one_is e f (x ∷ []) k q = absurd (cc)
one_is e f (x ∷ y ∷ g) k q = absurd (cc)

module _ (script : Script) where
  -- the note stands first on its link behind that history
  pub record Brings (u v : ℕ) (n : Note Name) (h : List Event) : Type 0 where
    pub from : World
    pub begun : Came script from
    pub link : Link
    pub found : world.link_at u v from.links ≡ Some link
    pub rest : List (Note Name)
    pub notes : link.notes ≡ n ∷ rest
    pub place : h ≡ from.history

  abbrev Brought : World → Type 0
  Brought x = (h k : List Event) (j u v : ℕ) (n : Note Name) (bytes : List ℕ) → x.history ≡ h ++ Carried j u v n bytes ∷ k → Brings u v n h

  no_line : (h k : List Event) (x : Event) → [] ≡ h ++ x ∷ k → ⊥
  no_line [] k x q = cc
  no_line (y ∷ h) k x q = cc

  quiet_brought : (w x : World) (es : List Event) → Brought w → total is_carry es ≡ 0 → x.history ≡ w.history ++ es → Brought x
  quiet_brought w x es lines few more h k j u v n bytes q = either (parted w.history es h (Carried j u v n bytes) k (sym more ∙ q))
    where
      either : Parted w.history es h (Carried j u v n bytes) k → Brings u v n h
      either (inl p) = lines h p.0 j u v n bytes p.1
      either (inr p) = absurd (carry_counts es j u v n bytes (subst (λ z. IsAmong (Carried j u v n bytes) z) (sym p.2) (among_mid (Carried j u v n bytes) p.0 k)) few)

  -- the line of a step that carries is that of a note which arrives
  head_brings : (w : World) (c : Came script w) (a : ℕ) (s : Vat Name) (ms : List (Message Name)) (head : List Event) (step : Step Name Name) → IsTaken script w a s ms head step → (g k : List Event) (j u v : ℕ) (n : Note Name) (bytes : List ℕ) → head ≡ g ++ Carried j u v n bytes ∷ k
      → Brings u v n (w.history ++ g)
  head_brings w c a s ms head (Receives from m) t g k j u v n bytes q =
      let o = one_is (Carried t.0 from a t.3 t.1) (Carried j u v n bytes) g k (sym t.5 ∙ q) in
      let same = o.1 in
      let by : from ≡ u = cc in
      let to : a ≡ v = cc in
      let note : t.3 ≡ n = cc in
      record {
        from = w;
        begun = c;
        link = t.2;
        found = subst (λ z. world.link_at z v w.links ≡ Some t.2) by (subst (λ z. world.link_at from z w.links ≡ Some t.2) to t.7);
        rest = t.4;
        notes = t.9 ∙ ap (λ z. z ∷ t.4) note;
        place = ap (λ z. w.history ++ z) o.0 ∙ append-nil w.history;
      }
  head_brings w c a s ms head (Starts tree depth root bs) t g k j u v n bytes q = let o = one_is (world.Opens a) (Carried j u v n bytes) g k (sym t.1 ∙ q) in absurd (let e = o.1 in cc)
  head_brings w c a s ms head (Takes tree depth m) t g k j u v n bytes q = let o = one_is (world.Turned t.0 a) (Carried j u v n bytes) g k (sym t.1 ∙ q) in absurd (let e = o.1 in cc)
  head_brings w c a s ms head (Notices b) t g k j u v n bytes q = let o = one_is (world.NoticedAt t.0 a b) (Carried j u v n bytes) g k (sym t.1 ∙ q) in absurd (let e = o.1 in cc)

  brought_on : (w x : World) → Came script w → Brought w → Leads script w x → Brought x
  brought_on w x c lines (quiet es none few vats more) h k j u v n bytes q = quiet_brought w x es lines few more h k j u v n bytes q
  brought_on w x c lines (steps a s t ms head step links at taken none d new vats more) h k j u v n bytes q = either (parted (w.history ++ head) (events_of links a t.happened) h (Carried j u v n bytes) k (sym more ∙ q))
    where
      front : (m : List Event) → Parted w.history head h (Carried j u v n bytes) m → Brings u v n h
      front m (inl p) = lines h p.0 j u v n bytes p.1
      front m (inr p) = subst (Brings u v n) (sym p.1) (head_brings w c a s ms head step taken p.0 m j u v n bytes p.2)

      either : Parted (w.history ++ head) (events_of links a t.happened) h (Carried j u v n bytes) k → Brings u v n h
      either (inl p) = front p.0 (parted w.history head h (Carried j u v n bytes) p.0 p.1)
      either (inr p) = absurd (carry_counts (events_of links a t.happened) j u v n bytes (subst (λ z. IsAmong (Carried j u v n bytes) z) (sym p.2) (among_mid (Carried j u v n bytes) p.0 k)) (events_none links a t.happened))

  came_brought : (w : World) → Came script w → Brought w
  unfolding begins
  came_brought w first = λ h k j u v n bytes q. absurd (no_line h k (Carried j u v n bytes) q)
  came_brought x (onward {w = w} c r real l) = brought_on w x c (came_brought w c) l

  ended_brought : (x : World) → Ended script x → Brought x
  ended_brought x e = quiet_brought e.0 x e.1 (came_brought e.0 e.2) e.5 e.4

  brought_in : (r : Run) → Reached (Ended script) r → (h k : List Event) (j u v : ℕ) (n : Note Name) (bytes : List ℕ) → history_of r ≡ h ++ Carried j u v n bytes ∷ k → Brings u v n h
  unfolding history_of
  brought_in (Goes x) e = ended_brought x e
  brought_in (Stopped i c x) e = ended_brought x e

  -- of each line of the run
  pub brought_at : (h k : List Event) (j u v : ℕ) (n : Note Name) (bytes : List ℕ) → history_of (world.run script) ≡ h ++ Carried j u v n bytes ∷ k → Brings u v n h
  brought_at h k j u v n bytes q = brought_in (world.run script) (run_ended script) h k j u v n bytes q

  -- ---- what is carried was sent before

  abbrev pub SentIn : List Event → Name → Type 0
  SentIn es x = (j v act : ℕ) × (m : Message Name) × (slice_get es j ≡ Some (Here v (Sends act m))) × (m.id ≡ x)

  pub get_among : (e : Event) (es : List Event) → IsAmong e es → (j : ℕ) × (slice_get es j ≡ Some e)
  get_among e [] i = absurd i
  get_among e (x ∷ es) (inl q) = (zero, ap Some (sym q))
  get_among e (x ∷ es) (inr i) = let r = get_among e es i in (suc r.0, r.1)

  -- what stems from a send was sent
  pub stems_sent : (w : World) (v : ℕ) (m : Message Name) → Stems w v m → SentIn w.history m.id
  stems_sent w v m (sent a x i l) = let r = get_among (Here v (Sends a (record m { target = x }))) w.history i in (r.0, v, a, record m { target = x }, r.1, refl)
  stems_sent w v m (carried u n z ys has before same verb to from pass come) = let r = stems_sent w u n before in (r.0, r.1, r.2, r.3, r.4, r.5 ∙ same)

  pub carries_were_sent : CarryWhatWasSent (history_of (world.run script))
  carries_were_sent i k u v d n verb ys bytes q =
      let es = history_of (world.run script) in
      let r = split_at es i (Carried k u v (Deliver d n verb ys) bytes) q in
      let b = brought_at (take i es) r.0 k u v (Deliver d n verb ys) bytes r.1 in
      let stem : AllStem b.from = stem_at script b.from (is_run script b.from b.begun) in
      let link = found_link (λ (l : Link). AllOf (NoteStems b.from l.from) l.notes) u v b.from.links b.link b.found stem.links in
      let notes : AllOf (NoteStems b.from b.link.from) (Deliver d n verb ys ∷ b.rest) = subst (λ ns. AllOf (NoteStems b.from b.link.from) ns) b.notes link.0 in
      let one = notes.0 in
      let s = stems_sent b.from b.link.from one.0 one.1 in
      let there = take_get es i s.0 (Here s.1 (Sends s.2 s.3)) (subst (λ z. slice_get z s.0 ≡ Some (Here s.1 (Sends s.2 s.3))) (sym b.place) s.4) in
      (s.0, s.1, s.2, s.3, there.0, there.1, s.5 ∙ one.2)
