-- What an opening turn and an entry make of a world: lines of no vat that carry nothing, or the lines of one step of one vat, behind the line that tells which step it is.
use Rattle.std.proofs.Common.{◌≡◌, ℕ, zero, Bool, true, false, List, [], ◌∷◌, ◌++◌, Option, Some, None, refl, ◌⊎◌, inl, inr, subst, ap, sym}
use Rattle.std.specs.Prelude.{slice_get}
use Rattle.def_machine.specs.Values.{Name, Root}
use Rattle.def_machine.specs.State.{Message, Note, Vat, Done, Gives, Act}
use Rattle.def_machine.specs.Eval.{opening}
use Rattle.def_machine.specs.Arrive.{notice}
use Rattle.law_machine.specs.Machine.Steps.{Step, Opens as Starts, Takes, Receives, Notices, does}
use Rattle.def_run.specs.World as world
use Rattle.def_run.specs.World.{Script, Program, Opens, Entry, Turn, Carry, CutLink, NoticeLink, Event, Turned, Idle, Carried, CutAt, NoticedAt, Link, World, Run, Goes, Stopped, names, names_of, read_note, events_of}
use Rattle.law_fate.specs.Fates.Fate.{total}
use Rattle.law_fate.proofs.Fates.RunAccount.{no_cut_line}
use Rattle.law_fate.proofs.Fates.RunCounts.{pick}
use Rattle.law_uses.specs.Connectivity.Begotten.{AreRoots, IsTaken}
use Rattle.law_uses.proofs.Connectivity.Events.{IsNobodys, nobodys_join, lost_on_nobodys}
use Rattle.law_uses.proofs.Connectivity.RunStems.{one_line}
use Rattle.law_uses.proofs.Uses.Kept.{is_carry, put_either}

-- an opening turn is the first that its vat takes
abbrev pub FirstIs : Step Name Name → Vat Name → Type 0
FirstIs (Starts tree depth root given) s = s.activations ≡ zero
FirstIs _ s = Unit {0}

module _ (script : Script) (w : World) where
  pub data Leads (x : World) : Type 0 where
    quiet : (es : List Event) → IsNobodys es → total is_carry es ≡ 0 → x.vats ≡ w.vats → x.history ≡ w.history ++ es → Leads x
    steps : (v : ℕ) (s t : Vat Name) (ms : List (Message Name)) (head : List Event) (step : Step Name Name) (links : List Link) → slice_get w.vats v ≡ Some s → IsTaken script w v s ms head step → IsNobodys head
        → does (names script v) step (world.readied w (record s { queue = ms })) ≡ Gives tt t → FirstIs step s → x.vats ≡ world.put_at v t w.vats → x.history ≡ w.history ++ head ++ events_of links v t.happened → Leads x

  -- a world to which it goes, or which has no more lines and the same vats where it stops
  abbrev pub Comes : Run → Type 0
  Comes (Goes x) = Leads x
  Comes (Stopped c k x) = (x.history ≡ w.history) × (x.vats ≡ w.vats)

  -- the world, with a note off its link
  abbrev With : List Link → World
  With ls = record w { links = ls }

  idle_comes : (k : ℕ) (ls : List Link) → Comes (world.idle script k (With ls))
  unfolding world.idle total is_carry
  idle_comes k ls = quiet (Idle k ∷ []) (one_line (Idle k) (λ u f e. cc)) refl refl refl

  back_comes : (v : ℕ) (ls : List Link) (head : List Event) (n : ℕ) (s : Vat Name) (ms : List (Message Name)) (step : Step Name Name) → FirstIs step s → slice_get w.vats v ≡ Some s → IsTaken script w v s ms head step → IsNobodys head
      → (d : Done Name (Unit {0})) → does (names script v) step (world.readied w (record s { queue = ms })) ≡ d → Comes (world.put_back v (With ls) head n d)
  unfolding world.put_back
  back_comes v ls head n s ms step new at taken none (Gives u t) e = steps v s t ms head step ls at taken none e new refl refl
  back_comes v ls head n s ms step new at taken none other e = (refl, refl)

  within_comes : (v : ℕ) (ls : List Link) (head : List Event) (n : ℕ) (s : Vat Name) (ms : List (Message Name)) (step : Step Name Name) → FirstIs step s → slice_get w.vats v ≡ Some s → IsTaken script w v s ms head step → IsNobodys head
      → Comes (world.within v (With ls) head n (does (names script v) step) (Some (record s { queue = ms })))
  unfolding world.within world.readied
  within_comes v ls head n s ms step new at taken none = back_comes v ls head n s ms step new at taken none (does (names script v) step (world.readied w (record s { queue = ms }))) refl

  queue_comes : (k v : ℕ) (s : Vat Name) (ms : List (Message Name)) → s.queue ≡ ms → slice_get w.vats v ≡ Some s → Comes (world.turn_queue script k v w s ms)
  unfolding world.turn_queue does
  queue_comes k v s [] q at = idle_comes k w.links
  queue_comes k v s (m ∷ ms) q at = within_comes v w.links (Turned k v ∷ []) (world.step_number script k) s ms (Takes (world.tree_at script.vats v) script.depth m) tt at (k, refl, q, refl, refl) (one_line (Turned k v) (λ u f e. cc))

  turn_comes : (k v : ℕ) (o : Option (Vat Name)) → slice_get w.vats v ≡ o → Comes (world.turn script k v w o)
  unfolding world.turn
  turn_comes k v None at = idle_comes k w.links
  turn_comes k v (Some s) at = queue_comes k v s s.queue refl at

  module _ (k v to : ℕ) (l : Link) (at : world.link_at v to w.links ≡ Some l) where
    arrives_comes : l.cut ≡ false → (n : Note Name) (ns : List (Note Name)) → l.notes ≡ n ∷ ns → (ls : List Link) (o : Option (Vat Name)) → slice_get w.vats to ≡ o → Comes (world.arrives script k v to (With ls) n o)
    unfolding world.arrives does
    arrives_comes whole n ns q ls None there = idle_comes k ls
    arrives_comes whole n ns q ls (Some s) there = let bytes : List ℕ = world.next_frame v to w.connections in
        within_comes to ls (Carried k v to n bytes ∷ []) (world.step_number script k) s s.queue (Receives v (read_note (names_of s) n)) tt there (k, bytes, l, n, ns, refl, refl, at, whole, q, refl) (one_line (Carried k v to n bytes) (λ u f e. cc))

    notes_come : l.cut ≡ false → (ns : List (Note Name)) → l.notes ≡ ns → Comes (world.carry_notes script k v to w ns)
    unfolding world.carry_notes
    notes_come whole [] q = idle_comes k w.links
    notes_come whole (n ∷ ns) q = arrives_comes whole n ns q (world.with_link (world.with_notes ns) v to w.links) (slice_get w.vats to) refl

    uncut_comes : (b : Bool) → l.cut ≡ b → Comes (pick b (world.idle script k w) (world.carry_notes script k v to w l.notes))
    uncut_comes true e = idle_comes k w.links
    uncut_comes false e = notes_come e l.notes refl

  link_comes : (k v to : ℕ) (o : Option Link) → world.link_at v to w.links ≡ o → Comes (world.carry_link script k v to w o)
  unfolding world.carry_link
  link_comes k v to None at = idle_comes k w.links
  link_comes k v to (Some l) at = uncut_comes k v to l at l.cut refl

  cut_comes : (k v to : ℕ) → Comes (world.cut script k v to w)
  unfolding world.cut is_carry
  cut_comes k v to = let one : List Event = world.lost_on script (world.link_at v to w.links) in let other : List Event = world.lost_on script (world.link_at to v w.links) in
      quiet (CutAt k v to ∷ (one ++ other)) (nobodys_join (CutAt k v to ∷ []) (one ++ other) (one_line (CutAt k v to) (λ u f e. cc))
      (nobodys_join one other (lost_on_nobodys script (world.link_at v to w.links)) (lost_on_nobodys script (world.link_at to v w.links)))) (no_cut_line (Root 0) script v to k w.links is_carry refl (λ m. refl)) refl refl

  notice_comes : (k v to : ℕ) (o : Option (Vat Name)) → slice_get w.vats v ≡ o → Comes (world.within v w (NoticedAt k v to ∷ []) (world.step_number script k) (notice (names script v) to) o)
  unfolding does world.within
  notice_comes k v to None at = (refl, refl)
  notice_comes k v to (Some s) at = within_comes v w.links (NoticedAt k v to ∷ []) (world.step_number script k) s s.queue (Notices to) tt at (k, refl, refl) (one_line (NoticedAt k v to) (λ u f e. cc))

  -- an entry of a schedule
  pub entry_comes : (entry : Entry) (k : ℕ) → Comes (world.step script entry k w)
  unfolding world.step
  entry_comes (Turn v) k = turn_comes k v (slice_get w.vats v) refl
  entry_comes (Carry v to) k = link_comes k v to (world.link_at v to w.links) refl
  entry_comes (CutLink v to) k = cut_comes k v to
  entry_comes (NoticeLink v to) k = notice_comes k v to (slice_get w.vats v) refl

  -- a vat is given the roots of those that it knows
  roots_given : (ps : List Program) (ws : List ℕ) → AreRoots ps ws (world.given ps ws)
  unfolding world.given
  roots_given ps [] = tt
  roots_given ps (u ∷ us) = (refl, roots_given ps us)

  open_comes : (v : ℕ) (p : Program) → slice_get script.vats v ≡ Some p → ((s : Vat Name) → slice_get w.vats v ≡ Some s → s.activations ≡ zero) → (o : Option (Vat Name)) → slice_get w.vats v ≡ o
      → Comes (world.within v w (Opens v ∷ []) v (opening (names script v) p.tree script.depth (Root v) (world.given script.vats p.knows)) o)
  unfolding does world.within
  open_comes v p there new None at = (refl, refl)
  open_comes v p there new (Some s) at = within_comes v w.links (Opens v ∷ []) v s s.queue (Starts p.tree script.depth (Root v) (world.given script.vats p.knows)) (new s at) at
      (p, refl, there, refl, refl, refl, refl, roots_given script.vats p.knows) (one_line (Opens v) (λ u f e. cc))

  -- an opening turn
  pub opening_comes : (v : ℕ) (p : Program) → slice_get script.vats v ≡ Some p → ((s : Vat Name) → slice_get w.vats v ≡ Some s → s.activations ≡ zero) → Comes (world.open_vat script v p w)
  unfolding world.open_vat
  opening_comes v p there new = open_comes v p there new (slice_get w.vats v) refl

  -- it changes no other vat
  others_put : (v : ℕ) (head : List Event) (n : ℕ) (d : Done Name (Unit {0})) (x : World) → world.put_back v w head n d ≡ Goes x → (u : ℕ) (q : Vat Name) → (u ≡ v → ⊥) → slice_get x.vats u ≡ Some q → slice_get w.vats u ≡ Some q
  unfolding world.put_back
  others_put v head n (Gives y t) x e u q not f = let same : world.put_at v t w.vats ≡ x.vats = vats_of _ x e in either (put_either v t w.vats u q (subst (λ vs. slice_get vs u ≡ Some q) (sym same) f))
    where
      vats_of : (z x : World) → Goes z ≡ Goes x → z.vats ≡ x.vats
      vats_of z x e = let is : z ≡ x = cc in ap (λ (y : World). y.vats) is

      either : ((u ≡ v) × (q ≡ t)) ⊎ ((u ≡ v → ⊥) × (slice_get w.vats u ≡ Some q)) → slice_get w.vats u ≡ Some q
      either (inl i) = absurd (not i.0)
      either (inr i) = i.1
  others_put v head n other x e u q not f = cc

  others_within : (v : ℕ) (head : List Event) (n : ℕ) (m : Act Name (Unit {0})) (o : Option (Vat Name)) (x : World) → world.within v w head n m o ≡ Goes x → (u : ℕ) (q : Vat Name) → (u ≡ v → ⊥) → slice_get x.vats u ≡ Some q → slice_get w.vats u ≡ Some q
  unfolding world.within
  others_within v head n m None x e u q not f = cc
  others_within v head n m (Some s) x e u q not f = others_put v head n (m (world.readied w s)) x e u q not f

  pub opening_keeps : (v : ℕ) (p : Program) (x : World) → world.open_vat script v p w ≡ Goes x → (u : ℕ) (q : Vat Name) → (u ≡ v → ⊥) → slice_get x.vats u ≡ Some q → slice_get w.vats u ≡ Some q
  unfolding world.open_vat
  opening_keeps v p x e u q not f = others_within v (Opens v ∷ []) v (opening (names script v) p.tree script.depth (Root v) (world.given script.vats p.knows)) (slice_get w.vats v) x e u q not f
