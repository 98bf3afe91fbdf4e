-- The lines that an entry adds to a history: what it tells to have carried was the first note of its link.
use Rattle.std.proofs.Common.{◌≡◌, ℕ, Bool, true, false, List, [], ◌∷◌, ◌++◌, Option, Some, None, refl, sym, ap, subst, ◌∙◌, ◌⊎◌, inl, inr, append_assoc}
use Rattle.std.specs.Prelude.{slice_get}
use Rattle.def_machine.specs.Values.{Name}
use Rattle.def_machine.specs.State.{Message, Note, Deliver, Happened, Posted, Vat, Done, Gives, Act}
use Rattle.def_run.specs.World as world
use Rattle.def_run.specs.World.{Script, Program, Entry, Turn, Carry, CutLink, NoticeLink, Event, Opens, Turned, Carried, NoticedAt, CutAt, Idle, LostCut, Link, World, Goes, link_at, event_of, events_of, with_link, with_notes}
use Rattle.law_fate.specs.Name.Names.{IsAmong, AllOf}
use Rattle.law_fate.proofs.Name.Facts.{all_append}
use Rattle.law_order.proofs.History.Lines.{among_either}

abbrev IsNoCarry : Event → Type 0
IsNoCarry (Carried k u v n bytes) = ⊥
IsNoCarry other = Unit {0}

none_carried : (es : List Event) → AllOf IsNoCarry es → (k u v : ℕ) (n : Note Name) (bytes : List ℕ) → IsAmong (Carried k u v n bytes) es → ⊥
none_carried [] h k u v n bytes i = i
none_carried (e ∷ es) h k u v n bytes (inl i) = subst IsNoCarry (sym i) h.0
none_carried (e ∷ es) h k u v n bytes (inr i) = none_carried es h.1 k u v n bytes i

event_none : (ls : List Link) (v : ℕ) (e : Happened Name) → AllOf IsNoCarry (event_of ls v e)
unfolding event_of
event_none ls v (Posted w m) = go (world.is_cut v w ls)
  where
    go : (b : Bool) → AllOf IsNoCarry (elim b [ true ↦ LostCut m ∷ [] | false ↦ [] ])
    go true = (tt, tt)
    go false = tt
event_none ls v other = (tt, tt)

events_none : (ls : List Link) (v : ℕ) (es : List (Happened Name)) → AllOf IsNoCarry (events_of ls v es)
unfolding events_of
events_none ls v [] = tt
events_none ls v (e ∷ es) = all_append IsNoCarry (event_of ls v e) (events_of ls v es) (event_none ls v e) (events_none ls v es)

-- ---- what is added

-- the first note of the link from u to v
pub record IsFirst (w : World) (u v : ℕ) (n : Note Name) : Type 0 where
  pub link : Link
  pub rest : List (Note Name)
  pub found : link_at u v w.links ≡ Some link
  pub notes : link.notes ≡ n ∷ rest

pub record Adds (w y : World) : Type 0 where
  pub es : List Event
  pub lines : y.history ≡ w.history ++ es
  pub first : (k u v : ℕ) (n : Note Name) (bytes : List ℕ) → IsAmong (Carried k u v n bytes) es → IsFirst w u v n

goes_is : (x y : World) → Goes x ≡ Goes y → x ≡ y
goes_is x y e = cc

none_add : (w y : World) (es : List Event) → y.history ≡ w.history ++ es → AllOf IsNoCarry es → Adds w y
none_add w y es e h = record { es = es; lines = e; first = λ k u v n bytes i. absurd (none_carried es h k u v n bytes i) }

-- w0 is the world before the entry, in which the note is on its link yet
module _ (w0 : World) where
  abbrev AllFirst : List Event → Type 0
  AllFirst es = (k u v : ℕ) (n : Note Name) (bytes : List ℕ) → IsAmong (Carried k u v n bytes) es → IsFirst w0 u v n

  put_adds : (w y : World) (v : ℕ) (head : List Event) (n : ℕ) (d : Done Name (Unit {0})) → w.history ≡ w0.history → AllFirst head → world.put_back v w head n d ≡ Goes y → Adds w0 y
  unfolding world.put_back
  put_adds w y v head n (Gives u s) same f e = let more = events_of w.links v s.happened in record {
    es = head ++ more;
    lines = ap (λ (z : World). z.history) (sym (goes_is _ y e)) ∙ append_assoc w.history head more ∙ ap (λ hs. hs ++ (head ++ more)) same;
    first = λ k a b m bytes i. go k a b m bytes (among_either (Carried k a b m bytes) head more i);
  }
    where
      go : (k a b : ℕ) (m : Note Name) (bytes : List ℕ) → IsAmong (Carried k a b m bytes) head ⊎ IsAmong (Carried k a b m bytes) (events_of w.links v s.happened) → IsFirst w0 a b m
      go k a b m bytes (inl i) = f k a b m bytes i
      go k a b m bytes (inr i) = absurd (none_carried (events_of w.links v s.happened) (events_none w.links v s.happened) k a b m bytes i)
  put_adds w y v head n other same f e = cc

  within_adds : (w y : World) (v : ℕ) (head : List Event) (n : ℕ) (m : Act Name (Unit {0})) (o : Option (Vat Name)) → w.history ≡ w0.history → AllFirst head → world.within v w head n m o ≡ Goes y → Adds w0 y
  unfolding world.within
  within_adds w y v head n m None same f e = cc
  within_adds w y v head n m (Some s) same f e = put_adds w y v head n (m (world.readied w s)) same f e

  one_first : (g : Event) → IsNoCarry g → AllFirst (g ∷ [])
  one_first g h k u v n bytes i = absurd (none_carried (g ∷ []) (h, tt) k u v n bytes i)

-- ---- openings and entries

pub open_adds : (script : Script) (v : ℕ) (p : Program) (w y : World) → world.open_vat script v p w ≡ Goes y → Adds w y
unfolding world.open_vat
open_adds script v p w y e = within_adds w w y v (Opens v ∷ []) v _ (slice_get w.vats v) refl (one_first w (Opens v) tt) e

module _ (script : Script) (k : ℕ) (w y : World) where
  idle_adds : (z : World) → z.history ≡ w.history → world.idle script k z ≡ Goes y → Adds w y
  unfolding world.idle
  idle_adds z same e = none_add w y (Idle k ∷ []) (ap (λ (x : World). x.history) (sym (goes_is _ y e)) ∙ ap (λ hs. hs ++ Idle k ∷ []) same) (tt, tt)

  queue_adds : (v : ℕ) (s : Vat Name) (ms : List (Message Name)) → world.turn_queue script k v w s ms ≡ Goes y → Adds w y
  unfolding world.turn_queue
  queue_adds v s [] e = idle_adds w refl e
  queue_adds v s (m ∷ ms) e = within_adds w w y v (Turned k v ∷ []) (world.step_number script k) _ (Some (record s { queue = ms })) refl (one_first w (Turned k v) tt) e

  turn_adds : (v : ℕ) (o : Option (Vat Name)) → world.turn script k v w o ≡ Goes y → Adds w y
  unfolding world.turn
  turn_adds v None e = idle_adds w refl e
  turn_adds v (Some s) e = queue_adds v s s.queue e

  note_adds : (a b : ℕ) (n : Note Name) (l : Link) (ns : List (Note Name)) → link_at a b w.links ≡ Some l → l.notes ≡ n ∷ ns → (o : Option (Vat Name)) → world.arrives script k a b (record w { links = with_link (with_notes ns) a b w.links }) n o ≡ Goes y → Adds w y
  unfolding world.arrives
  note_adds a b n l ns found notes None e = idle_adds (record w { links = with_link (with_notes ns) a b w.links }) refl e
  note_adds a b n l ns found notes (Some s) e = let bare = record w { links = with_link (with_notes ns) a b w.links } in
      within_adds w bare y b (Carried k a b n (world.next_frame a b w.connections) ∷ []) (world.step_number script k) _ (Some s) refl (λ j c d m bytes i. head j c d m bytes i) e
    where
      same_line : (j c d : ℕ) (m : Note Name) (bytes : List ℕ) → Carried j c d m bytes ≡ Carried k a b n (world.next_frame a b w.connections) → (c ≡ a) × (d ≡ b) × (m ≡ n)
      same_line j c d m bytes i = let p : c ≡ a = cc in let q : d ≡ b = cc in let r : m ≡ n = cc in (p, q, r)

      head : (j c d : ℕ) (m : Note Name) (bytes : List ℕ) → IsAmong (Carried j c d m bytes) (Carried k a b n (world.next_frame a b w.connections) ∷ []) → IsFirst w c d m
      head j c d m bytes (inl i) = let s = same_line j c d m bytes i in record { link = l; rest = ns; found = ap (λ z. link_at z d w.links) s.0 ∙ ap (λ z. link_at a z w.links) s.1 ∙ found; notes = notes ∙ ap (λ z. z ∷ ns) (sym s.2) }
      head j c d m bytes (inr i) = absurd i

  notes_adds : (a b : ℕ) (l : Link) → link_at a b w.links ≡ Some l → (ns : List (Note Name)) → l.notes ≡ ns → world.carry_notes script k a b w ns ≡ Goes y → Adds w y
  unfolding world.carry_notes
  notes_adds a b l found [] f e = idle_adds w refl e
  notes_adds a b l found (n ∷ ns) f e = note_adds a b n l ns found f (slice_get w.vats b) e

  cut_or : (a b : ℕ) (l : Link) → link_at a b w.links ≡ Some l → (c : Bool) → elim c [ true ↦ world.idle script k w | false ↦ world.carry_notes script k a b w l.notes ] ≡ Goes y → Adds w y
  cut_or a b l found true e = idle_adds w refl e
  cut_or a b l found false e = notes_adds a b l found l.notes refl e

  carry_adds : (a b : ℕ) (o : Option Link) → link_at a b w.links ≡ o → world.carry_link script k a b w o ≡ Goes y → Adds w y
  unfolding world.carry_link
  carry_adds a b None found e = idle_adds w refl e
  carry_adds a b (Some l) found e = cut_or a b l found l.cut e

  lost_none : (ns : List (Note Name)) → AllOf IsNoCarry (world.lost_by script ns)
  unfolding world.lost_by
  lost_none [] = tt
  lost_none (Deliver d n verb ys ∷ ns) = (tt, lost_none ns)
  lost_none (other ∷ ns) = lost_none ns

  link_none : (o : Option Link) → AllOf IsNoCarry (world.lost_on script o)
  unfolding world.lost_on
  link_none None = tt
  link_none (Some l) = lost_none l.notes

  cut_adds : (a b : ℕ) → world.cut script k a b w ≡ Goes y → Adds w y
  unfolding world.cut
  cut_adds a b e = let ends = world.lost_on script (link_at a b w.links) ++ world.lost_on script (link_at b a w.links) in
      none_add w y (CutAt k a b ∷ ends) (ap (λ (x : World). x.history) (sym (goes_is _ y e)))
      (tt, all_append IsNoCarry (world.lost_on script (link_at a b w.links)) (world.lost_on script (link_at b a w.links)) (link_none (link_at a b w.links)) (link_none (link_at b a w.links)))

  pub step_adds : (entry : Entry) → world.step script entry k w ≡ Goes y → Adds w y
  unfolding world.step
  step_adds (Turn v) e = turn_adds v (slice_get w.vats v) e
  step_adds (Carry a b) e = carry_adds a b (link_at a b w.links) refl e
  step_adds (CutLink a b) e = cut_adds a b e
  step_adds (NoticeLink v u) e = within_adds w w y v (NoticedAt k v u ∷ []) (world.step_number script k) _ (slice_get w.vats v) refl (one_first w (NoticedAt k v u) tt) e
