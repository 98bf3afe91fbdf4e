-- Where only the history changes; the closing list.
use Rattle.std.proofs.Common.{◌≡◌, ℕ, zero, suc, ◌+◌, List, [], ◌∷◌, ◌++◌, Some, refl, sym, ap, ◌∙◌, length, map, arith}
use Rattle.std.specs.Prelude.{slice_get}
use Rattle.def_machine.specs.Values.{Name, Local}
use Rattle.def_machine.specs.State.{Known, Vat}
use Rattle.def_run.specs.World as machine
use Rattle.def_run.specs.World.{Script, Event, Idle, LeftQueue, LeftHeld, LeftWait, LeftLink, Ends, Link, World, readied, left_vats, left_vat, left_held, left_wait, left_links}
use Rattle.def_machine.specs.Maps as maps
use Rattle.law_reference.specs.Reference.Tables.{table_of}
use Rattle.def_run.specs.Vats.{Member}
use Rattle.def_run.specs.Numbers as numbers
use Rattle.def_run.specs.Numbers.{Frame, Way, Vats, name_at_vat, ready}
use Rattle.law_frame.specs.Local.Mirrors.{Mirrors, VatMirrors, WayMirrors, WaysMirror}
use Rattle.law_frame.specs.Local.Statements.{IdlesMirror, ClosingsMirror}
use Rattle.law_frame.proofs.Local.Named.{states_are_named}

-- ---- more lines

vat_told : (w : World) (W : Vats) (es fs : List Event) (u : ℕ) (s : Vat Name) (m : Member) → VatMirrors w W u s m → VatMirrors (record w { history = es }) (record W { history = fs }) u s m
unfolding table_of readied ready
vat_told w W es fs u s m h = record { placed = h.placed; stands = h.stands; known = h.known; mails = h.mails; positions = h.positions; peers = h.peers; connections = h.connections; learnt = h.learnt }

pub told : (w : World) (W : Vats) (es fs : List Event) → Mirrors w W → fs ≡ es → Mirrors (record w { history = es }) (record W { history = fs })
told w W es fs h e = record { fuel = h.fuel; drawn = h.drawn; history = e; count = h.count; ways = h.ways; ends = h.ends; frames = h.frames; references = h.references; vats = λ u s m i j. vat_told w W es fs u s m (h.vats u s m i j) }

pub idles_mirror : IdlesMirror
unfolding machine.idle numbers.idle
idles_mirror script k w W h = told w W (w.history ++ Idle k ∷ []) (W.history ++ Idle k ∷ []) h (ap (λ es. es ++ Idle k ∷ []) h.history)

-- ---- what is left

map_map : {A B C : Type 0} (g : B → C) (f : A → B) (xs : List A) → map (λ x. g (f x)) xs ≡ map g (map f xs)
map_map g f [] = refl
map_map g f (x ∷ xs) = ap (λ ys. g (f x) ∷ ys) (map_map g f xs)

joined : {ws xs ys zs : List Event} → ws ≡ xs → ys ≡ zs → ws ++ ys ≡ xs ++ zs
joined e i = cc

module _ (script : Script) where
  held_same : (u : ℕ) (f : Local → Name) (ks : List (Known Local)) → numbers.left_held script u f ks ≡ left_held script u (map (maps.known f) ks)
  unfolding numbers.left_held left_held
  held_same u f [] = refl
  held_same u f (k ∷ ks) = joined (map_map (λ m. LeftHeld u (f k.name) m.id) (maps.message f) k.held) (held_same u f ks)

  wait_same : (u : ℕ) (f : Local → Name) (ks : List (Known Local)) → numbers.left_wait script u f ks ≡ left_wait script u (map (maps.known f) ks)
  unfolding numbers.left_wait left_wait
  wait_same u f [] = refl
  wait_same u f (k ∷ ks) = joined (map_map (λ m. LeftWait u (f k.name) m.id) (maps.message f) k.reactions) (wait_same u f ks)

  -- of vat u, in numbers and in names
  left_named : (u : ℕ) (f : Local → Name) (q : Vat Local) (s : Vat Name) → s.number ≡ u → map (maps.message f) q.queue ≡ s.queue → map (maps.known f) q.known ≡ s.known
      → map (λ x. LeftQueue u (f x.id)) q.queue ++ numbers.left_held script u f q.known ++ numbers.left_wait script u f q.known ≡ left_vat script s
  unfolding left_vat
  left_named u f q s e i j = rw (e) (joined (joined (map_map (λ m. LeftQueue u m.id) (maps.message f) q.queue ∙ ap (map (λ m. LeftQueue u m.id)) i) (held_same u f q.known ∙ ap (left_held script u) j)) (wait_same u f q.known ∙ ap (left_wait script u) j))

  member_left : (w : World) (W : Vats) (u : ℕ) (s : Vat Name) (m : Member) → VatMirrors w W u s m → numbers.left_member script W.members u m ≡ left_vat script s
  unfolding numbers.left_member ready readied
  member_left w W u s m h = let e = states_are_named w W u s m h in left_named u (name_at_vat W.members u m.names) m.vat s h.placed (ap (λ (z : Vat Name). z.queue) e) (ap (λ (z : Vat Name). z.known) e)

  -- vats from number u on
  members_left : (all : List Member) (ms : List Member) (ss : List (Vat Name)) (u : ℕ) → length ms ≡ length ss → ((i : ℕ) (s : Vat Name) (m : Member) → slice_get ss i ≡ Some s → slice_get ms i ≡ Some m → numbers.left_member script all (i + u) m ≡ left_vat script s)
      → numbers.left_members script all u ms ≡ left_vats script ss
  unfolding numbers.left_members left_vats
  members_left all [] [] u e h = refl
  members_left all (m ∷ ms) (s ∷ ss) u e h = let l : length ms ≡ length ss = omega arith in joined (first (h zero s m refl refl)) (members_left all ms ss (suc u) l (λ (i : ℕ) (t : Vat Name) (n : Member) (j : slice_get ss i ≡ Some t) (k : slice_get ms i ≡ Some n). next i t n (h (suc i) t n j k)))
    where
      first : numbers.left_member script all (zero + u) m ≡ left_vat script s → numbers.left_member script all u m ≡ left_vat script s
      first j = let k : zero + u ≡ u = omega arith in ap (λ x. numbers.left_member script all x m) (sym k) ∙ j

      next : (i : ℕ) (t : Vat Name) (n : Member) → numbers.left_member script all (suc i + u) n ≡ left_vat script t → numbers.left_member script all (i + suc u) n ≡ left_vat script t
      next i t n j = let k : i + suc u ≡ suc i + u = omega arith in ap (λ x. numbers.left_member script all x n) k ∙ j
  members_left all [] (s ∷ ss) u e h = cc
  members_left all (m ∷ ms) [] u e h = cc

  way_left : (l : Link) (x : Way) → WayMirrors l x → map (λ (f : Frame). LeftLink x.from x.to f.note) x.frames ≡ map (λ n. LeftLink l.from l.to n) l.notes
  way_left l x h = rw (h.from, h.to) (map_map (λ n. LeftLink l.from l.to n) (λ (f : Frame). f.note) x.frames ∙ ap (map (λ n. LeftLink l.from l.to n)) h.notes)

  ways_left : (ls : List Link) (xs : List Way) → WaysMirror ls xs → numbers.left_ways script xs ≡ left_links script ls
  unfolding numbers.left_ways left_links
  ways_left [] [] h = refl
  ways_left (l ∷ ls) (x ∷ xs) h = joined (way_left l x h.0) (ways_left ls xs h.1)
  ways_left [] (x ∷ xs) h = absurd h
  ways_left (l ∷ ls) [] h = absurd h

  at_zero : (w : World) (W : Vats) → Mirrors w W → (i : ℕ) (s : Vat Name) (m : Member) → slice_get w.vats i ≡ Some s → slice_get W.members i ≡ Some m → numbers.left_member script W.members (i + zero) m ≡ left_vat script s
  at_zero w W h i s m j k = let e : i + zero ≡ i = omega arith in ap (λ x. numbers.left_member script W.members x m) e ∙ member_left w W i s m (h.vats i s m j k)

pub closings_mirror : ClosingsMirror
unfolding machine.close numbers.close
closings_mirror script w W h = told w W (w.history ++ left_vats script w.vats ++ left_links script w.links ++ Ends ∷ []) (W.history ++ numbers.left_members script W.members zero W.members ++ numbers.left_ways script W.ways ++ Ends ∷ []) h
    (joined (joined (joined h.history (members_left script W.members W.members w.vats zero h.count (at_zero script w W h))) (ways_left script w.links W.ways h.ways)) refl)
