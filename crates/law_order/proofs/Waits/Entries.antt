-- What an opening turn, and what an entry, makes of the vats of a world: only the opening turn of a vat opens it, and it is as it was at the start.
use Rattle.std.proofs.Common.{◌≡◌, ℕ, zero, suc, ◌≤◌, Bool, true, false, List, [], ◌∷◌, ◌++◌, Option, Some, None, refl, sym, ap, subst, ◌∙◌, ◌⊎◌, inl, inr, length, append_assoc, append-nil, arith}
use Rattle.std.specs.Prelude.{slice_get}
use Rattle.def_machine.specs.Values.{Name}
use Rattle.def_machine.specs.State.{Message, Note, Vat, Done, Gives}
use Rattle.def_machine.specs.Arrive.{notice}
use Rattle.law_machine.specs.Machine.Steps.{Takes, Receives, Notices, does}
use Rattle.def_run.specs.World as world
use Rattle.def_run.specs.World.{Script, Program, Entry, Turn, Carry, CutLink, NoticeLink, Event, Turned, Carried, NoticedAt, Link, World, Run, Goes as Going, Stopped, link_at, with_link, with_notes, put_at, names_of, read_note, readied}
use Rattle.law_machine.specs.Run.Moves.{went}
use Rattle.law_fate.proofs.Name.Among.{length_end}
use Rattle.law_reference.proofs.Reference.Follow.{put_cases}
use Rattle.law_reference.proofs.Reference.Moves.{get_mid}
use Rattle.law_frame.proofs.Heard.Lift.{Opened, opening_does}

module _ (script : Script) (w y : World) where
  -- what an entry makes of the vats
  pub data Went : Type 0 where
    Stays : y.vats ≡ w.vats → Went
    Turns : (v : ℕ) (s t : Vat Name) (m : Message Name) (ms : List (Message Name)) → slice_get w.vats v ≡ Some s → s.queue ≡ m ∷ ms → does (world.names script v) (Takes (world.tree_at script.vats v) script.depth m) (readied w (record s { queue = ms })) ≡ Gives tt t
        → y.vats ≡ put_at v t w.vats → Went
    Comes : (a v : ℕ) (s t : Vat Name) (l : Link) (n : Note Name) (ns : List (Note Name)) → slice_get w.vats v ≡ Some s → link_at a v w.links ≡ Some l → l.cut ≡ false → l.notes ≡ n ∷ ns → does (world.names script v) (Receives a (read_note (names_of s) n)) (readied w s) ≡ Gives tt t
        → y.vats ≡ put_at v t w.vats → Went
    Noticed : (v to : ℕ) (s t : Vat Name) → slice_get w.vats v ≡ Some s → does (world.names script v) (Notices to) (readied w s) ≡ Gives tt t → y.vats ≡ put_at v t w.vats → Went

  vats_of : (z : World) → Going z ≡ Going y → y.vats ≡ z.vats
  vats_of z e = let same : z ≡ y = cc in ap (λ (x : World). x.vats) (sym same)

  -- a step of one vat, by its outcome
  put_back_goes : (v : ℕ) (z : World) (head : List Event) (k : ℕ) (d : Done Name (Unit {0})) → z.vats ≡ w.vats → ((t : Vat Name) → d ≡ Gives tt t → y.vats ≡ put_at v t w.vats → Went) → world.put_back v z head k d ≡ Going y → Went
  unfolding world.put_back
  put_back_goes v z head k (Gives u t) same f e = f t refl (vats_of _ e ∙ ap (put_at v t) same)
  put_back_goes v z head k other same f e = cc

  idle_goes : (k : ℕ) (z : World) → z.vats ≡ w.vats → world.idle script k z ≡ Going y → Went
  unfolding world.idle
  idle_goes k z same e = Stays (vats_of _ e ∙ same)

  queue_goes : (k v : ℕ) (s : Vat Name) → slice_get w.vats v ≡ Some s → (qs : List (Message Name)) → s.queue ≡ qs → world.turn_queue script k v w s qs ≡ Going y → Went
  unfolding world.turn_queue world.within does
  queue_goes k v s i [] q e = idle_goes k w refl e
  queue_goes k v s i (m ∷ ms) q e = put_back_goes v w (Turned k v ∷ []) (world.step_number script k) _ refl (λ t f vats. Turns v s t m ms i q f vats) e

  turn_goes : (k v : ℕ) (o : Option (Vat Name)) → slice_get w.vats v ≡ o → world.turn script k v w o ≡ Going y → Went
  unfolding world.turn
  turn_goes k v None q e = idle_goes k w refl e
  turn_goes k v (Some s) q e = queue_goes k v s q s.queue refl e

  arrives_goes : (k a v : ℕ) (n : Note Name) (ns : List (Note Name)) (l : Link) → link_at a v w.links ≡ Some l → l.cut ≡ false → l.notes ≡ n ∷ ns → (o : Option (Vat Name)) → slice_get w.vats v ≡ o → world.arrives script k a v (record w { links = with_link (with_notes ns) a v w.links }) n o ≡ Going y → Went
  unfolding world.arrives world.within does readied
  arrives_goes k a v n ns l i c j None q e = idle_goes k (record w { links = with_link (with_notes ns) a v w.links }) refl e
  arrives_goes k a v n ns l i c j (Some s) q e = put_back_goes v (record w { links = with_link (with_notes ns) a v w.links }) (Carried k a v n (world.next_frame a v w.connections) ∷ []) (world.step_number script k) _ refl (λ t f vats. Comes a v s t l n ns q i c j f vats) e

  notes_go : (k a v : ℕ) (l : Link) → link_at a v w.links ≡ Some l → l.cut ≡ false → (ns : List (Note Name)) → l.notes ≡ ns → world.carry_notes script k a v w ns ≡ Going y → Went
  unfolding world.carry_notes
  notes_go k a v l i c [] j e = idle_goes k w refl e
  notes_go k a v l i c (n ∷ ns) j e = arrives_goes k a v n ns l i c j (slice_get w.vats v) refl e

  cut_or : (k a v : ℕ) (l : Link) → link_at a v w.links ≡ Some l → (b : Bool) → l.cut ≡ b → elim b [ true ↦ world.idle script k w | false ↦ world.carry_notes script k a v w l.notes ] ≡ Going y → Went
  cut_or k a v l i true c e = idle_goes k w refl e
  cut_or k a v l i false c e = notes_go k a v l i c l.notes refl e

  link_goes : (k a v : ℕ) (o : Option Link) → link_at a v w.links ≡ o → world.carry_link script k a v w o ≡ Going y → Went
  unfolding world.carry_link
  link_goes k a v None i e = idle_goes k w refl e
  link_goes k a v (Some l) i e = cut_or k a v l i l.cut refl e

  cut_goes : (k a b : ℕ) → world.cut script k a b w ≡ Going y → Went
  unfolding world.cut
  cut_goes k a b e = Stays (vats_of _ e)

  notice_goes : (k v to : ℕ) (o : Option (Vat Name)) → slice_get w.vats v ≡ o → world.within v w (NoticedAt k v to ∷ []) (world.step_number script k) (notice (world.names script v) to) o ≡ Going y → Went
  unfolding world.within does
  notice_goes k v to None q e = cc
  notice_goes k v to (Some s) q e = put_back_goes v w (NoticedAt k v to ∷ []) (world.step_number script k) _ refl (λ t f vats. Noticed v to s t q f vats) e

  pub entry_goes : (entry : Entry) (k : ℕ) → world.step script entry k w ≡ Going y → Went
  unfolding world.step
  entry_goes (Turn v) k e = turn_goes k v (slice_get w.vats v) refl e
  entry_goes (Carry a v) k e = link_goes k a v (link_at a v w.links) refl e
  entry_goes (CutLink a b) k e = cut_goes k a b e
  entry_goes (NoticeLink v to) k e = notice_goes k v to (slice_get w.vats v) refl e

-- ---- opening turns

module _ (script : Script) where
  -- the vats from that number on are as they were at the start
  abbrev pub FreshFrom : ℕ → World → Type 0
  FreshFrom n w = (v : ℕ) (s : Vat Name) → n ≤ v → slice_get w.vats v ≡ Some s → slice_get (world.fresh_from script zero script.vats) v ≡ Some s

  went_vats : (v : ℕ) (w y : World) (head : List Event) (t : Vat Name) → y ≡ went v w head t → y.vats ≡ put_at v t w.vats
  unfolding went
  went_vats v w y head t e = ap (λ (z : World). z.vats) e

  pub opened_vats : (v : ℕ) (p : Program) (w y : World) → Opened script w y v p → (s : Vat Name) × (t : Vat Name) × (y.vats ≡ put_at v t w.vats)
  opened_vats v p w y o = (o.0, o.1, went_vats v w y _ o.1 o.3)

  open_fresh : (v : ℕ) (p : Program) (w y : World) → slice_get script.vats v ≡ Some p → FreshFrom v w → world.open_vat script v p w ≡ Going y → FreshFrom (suc v) y
  open_fresh v p w y there h e u s l at = go (opened_vats v p w y (opening_does script v p w y there e))
    where
      go : (r : Vat Name) × (t : Vat Name) × (y.vats ≡ put_at v t w.vats) → slice_get (world.fresh_from script zero script.vats) u ≡ Some s
      go o = pick (put_cases v o.1 w.vats u s (subst (λ vs. slice_get vs u ≡ Some s) o.2 at))
        where
          pick : ((u ≡ v) × (o.1 ≡ s)) ⊎ ((u ≡ v → ⊥) × (slice_get w.vats u ≡ Some s)) → slice_get (world.fresh_from script zero script.vats) u ≡ Some s
          pick (inl i) = let same = i.0 in absurd (omega arith)
          pick (inr i) = h u s (omega arith) i.1

  same_world : (w x : World) → Going w ≡ Going x → w ≡ x
  same_world w x e = cc

  then_fresh : (n : ℕ) (x : World) (r : Run) (f : World → Run) → ((y : World) → r ≡ Going y → f y ≡ Going x → FreshFrom n x) → world.then_goes r f ≡ Going x → FreshFrom n x
  unfolding world.then_goes
  then_fresh n x (Going y) f b e = b y refl e
  then_fresh n x (Stopped c k y) f b e = cc

  opens_fresh : (ds ps rest : List Program) (w x : World) → script.vats ≡ ds ++ (ps ++ rest) → FreshFrom (length ds) w → world.open_from script (length ds) ps w ≡ Going x → FreshFrom (length (ds ++ ps)) x
  unfolding world.open_from
  opens_fresh ds [] rest w x i h e = subst (λ (z : World). FreshFrom (length (ds ++ [])) z) (same_world w x e) (subst (λ (qs : List Program). FreshFrom (length qs) w) (sym (append-nil ds)) h)
  opens_fresh ds (p ∷ ps) rest w x i h e = then_fresh (length (ds ++ p ∷ ps)) x (world.open_vat script (length ds) p w) (world.open_from script (suc (length ds)) ps)
      (λ y j f. let split : script.vats ≡ (ds ++ p ∷ []) ++ (ps ++ rest) = i ∙ sym (append_assoc ds (p ∷ []) (ps ++ rest)) in
      let there : slice_get script.vats (length ds) ≡ Some p = rw (sym i) at (get_mid ds p (ps ++ rest)) in
      let next : FreshFrom (length (ds ++ p ∷ [])) y = subst (λ (n : ℕ). FreshFrom n y) (sym (length_end ds p)) (open_fresh (length ds) p w y there h j) in
      subst (λ (qs : List Program). FreshFrom (length qs) x) (append_assoc ds (p ∷ []) ps) (opens_fresh (ds ++ p ∷ []) ps rest y x split next (rw (sym (length_end ds p)) at f))) e

  -- after the opening turns of the first of them
  pub opened_fresh : (ps rest : List Program) (w : World) → script.vats ≡ ps ++ rest → world.open_from script zero ps (world.begins script) ≡ Going w → FreshFrom (length ps) w
  unfolding world.open_from world.begins
  opened_fresh ps rest w i e = opens_fresh [] ps rest (world.begins script) w i (λ v s l at. at) e
