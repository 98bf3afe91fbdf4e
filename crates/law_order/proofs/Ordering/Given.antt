-- Where a name of a third vat passes as a gift, what is ahead of its target is ahead of the passing.
use Rattle.std.proofs.Common.{◌≡◌, ℕ, zero, suc, Bool, true, false, List, [], ◌∷◌, ◌++◌, Option, Some, None, length, refl, sym, ap, subst, ◌∙◌, ◌⊎◌, inl, inr}
use Rattle.std.proofs.lemmas.Bool.{ne_eqb, eqb-false}
use Rattle.std.specs.Prelude.{slice_get, not, ◌==◌, ◌&&◌, ◌||◌, if◌then◌else◌}
use Rattle.def_machine.specs.Values.{Value, Ref, Name, Gift, host_of, key}
use Rattle.def_machine.specs.State.{Passed, Plain, AGift, Note, Deliver, Open, Ask, SettledTo, Elsewhere, Shorten, Vat, Done, is_in, drawn_at, draws, draw, give, send_out, ◌>>=◌, ◌>>◌, and_then}
use Rattle.def_machine.specs.Refs as refs
use Rattle.def_machine.specs.Refs.{Away}
use Rattle.def_run.specs.World.{Script, Link, World, names}
use Rattle.def_run.specs.World as world
use Rattle.law_order.specs.Ordering.Ways.{Lane, Held, Way, Item, Place, Nowhere, Free, End, Mid, Ways, IsIn, Ahead, doomed_there, nowhere, past_end, past_mid}
use Rattle.law_order.specs.Ordering.Turns.{Within}
use Rattle.law_order.specs.Ordering.Places.{delivered, opens, shortens, subject, in_lane, note_place, any_note, first_place, opened_there, is_honest, open_place, shorten_place, was_put, or_never, gift_place, by_host, of_name, leads_in, leads_at, leads, unsettled, released, released_at, stands_at, onward_at, ways_of, ways, amid}
use Rattle.law_order.specs.Ordering.Worlds.{IfGives}
use Rattle.law_order.proofs.Ordering.Sends.{some_same, none_some, pushed_open, pushed_shut, push_last, found_ends}
use Rattle.law_order.proofs.Ordering.Changes.{growing_keeps}
use Rattle.law_order.specs.Ordering.Steps.{WaysAmid, Ready}
use Rattle.law_order.specs.Ordering.OrderSendPassing.{PassedGiftIsBehind}
use Rattle.law_order.proofs.Ordering.Below.{NotesLack, LinksLack, links_lack, key_is_new, lacks_spares, no_place, no_open, no_shorten}
use Rattle.law_order.proofs.Ordering.News.{opened}
use Rattle.law_order.proofs.Ordering.Brought.{home_behind, honest_link, over_link, open_names_lead_home}

abbrev IsFalse : Bool → Type 0
IsFalse true = ⊥
IsFalse false = Unit {0}

same_number : (d : ℕ) → (d == d) ≡ true
same_number d = go (d == d) refl
  where
    go : (b : Bool) → (d == d) ≡ b → b ≡ true
    go true e = refl
    go false e = absurd (eqb-false d d e refl)

-- ---- the note that is put last

join_all : (a b c : List Item) → (a ++ b) ++ c ≡ a ++ (b ++ c)
join_all [] b c = refl
join_all (i ∷ a) b c = ap (λ q. i ∷ q) (join_all a b c)

join_none : (a : List Item) → a ++ [] ≡ a
join_none [] = refl
join_none (i ∷ a) = ap (λ q. i ∷ q) (join_none a)

delivered_cons : (k : Note Name) (ns : List (Note Name)) → delivered (k ∷ []) ++ delivered ns ≡ delivered (k ∷ ns)
unfolding delivered
delivered_cons (Deliver a b c d) ns = refl
delivered_cons other ns = refl

delivered_open : (ns : List (Note Name)) (d : ℕ) (n : Name) → delivered (ns ++ Open d n ∷ []) ≡ delivered ns
unfolding delivered
delivered_open [] d n = refl
delivered_open (Deliver a b c e ∷ ns) d n = ap (λ q. record { mail = a.message; aim = b } ∷ q) (delivered_open ns d n)
delivered_open (Open j a ∷ ns) d n = delivered_open ns d n
delivered_open (Ask p j a ∷ ns) d n = delivered_open ns d n
delivered_open (SettledTo a y ∷ ns) d n = delivered_open ns d n
delivered_open (Elsewhere a c ∷ ns) d n = delivered_open ns d n
delivered_open (Shorten a c j ∷ ns) d n = delivered_open ns d n

last_place : (d : ℕ) (n : Name) (l : Lane) (b : List Item) (ns : List (Note Name)) → NotesLack d ns → note_place (opens d) l b (ns ++ Open d n ∷ []) ≡ Some (Mid l (b ++ delivered ns) n)
unfolding note_place opens in_lane subject delivered
last_place d n l b [] h = ap (λ c. elim c [ true ↦ Some (Mid l b n) | false ↦ None ]) (same_number d) ∙ ap (λ q. Some (Mid l q n)) (sym (join_none b))
last_place d n l b (k ∷ ns) h =
    ap (λ c. elim c [ true ↦ in_lane l b (subject k) | false ↦ note_place (opens d) l (b ++ delivered (k ∷ [])) (ns ++ Open d n ∷ []) ]) (lacks_spares d k h.0).0
    ∙ last_place d n l (b ++ delivered (k ∷ [])) ns h.1
    ∙ ap (λ q. Some (Mid l q n)) (join_all b (delivered (k ∷ [])) (delivered ns) ∙ ap (λ q. b ++ q) (delivered_cons k ns))

link_here : (v h : ℕ) (k : Link) (ls : List Link) → world.is_link v h k ≡ true → world.link_at v h (k ∷ ls) ≡ Some k
unfolding world.link_at
link_here v h k ls e = ap (λ c. elim c [ true ↦ Some k | false ↦ world.link_at v h ls ]) e

link_behind : (v h : ℕ) (k : Link) (ls : List Link) → world.is_link v h k ≡ false → world.link_at v h (k ∷ ls) ≡ world.link_at v h ls
unfolding world.link_at
link_behind v h k ls e = ap (λ c. elim c [ true ↦ Some k | false ↦ world.link_at v h ls ]) e

abbrev After : Note Name → Link → Link
After n l = record l { notes = l.notes ++ n ∷ []; log = l.log ++ n ∷ [] }

-- the link with the note, and all others as they were
with_here : (n : Note Name) (v h : ℕ) (k : Link) (ls : List Link) → world.is_link v h k ≡ true → k.cut ≡ false → world.with_link (world.pushed n) v h (k ∷ ls) ≡ After n k ∷ ls
unfolding world.with_link
with_here n v h k ls e f = ap (λ c. elim c [ true ↦ world.pushed n k ∷ ls | false ↦ k ∷ world.with_link (world.pushed n) v h ls ]) e ∙ ap (λ q. q ∷ ls) (pushed_open n k f)

with_behind : (n : Note Name) (v h : ℕ) (k : Link) (ls : List Link) → world.is_link v h k ≡ false → world.with_link (world.pushed n) v h (k ∷ ls) ≡ k ∷ world.with_link (world.pushed n) v h ls
unfolding world.with_link
with_behind n v h k ls e = ap (λ c. elim c [ true ↦ world.pushed n k ∷ ls | false ↦ k ∷ world.with_link (world.pushed n) v h ls ]) e

after_same : (n : Note Name) (v h : ℕ) (k : Link) → world.is_link v h (After n k) ≡ world.is_link v h k
unfolding world.is_link
after_same n v h k = refl

link_pushed : (n : Note Name) (v h : ℕ) (ls : List Link) (l : Link) → world.link_at v h ls ≡ Some l → l.cut ≡ false → world.link_at v h (world.with_link (world.pushed n) v h ls) ≡ Some (After n l)
unfolding world.link_at world.with_link world.is_link
link_pushed n v h [] l e f = none_some l e
link_pushed n v h (k ∷ ls) l e f = go (λ q. link_pushed n v h ls l q f) (world.is_link v h k) refl
  where
    go : (world.link_at v h ls ≡ Some l → world.link_at v h (world.with_link (world.pushed n) v h ls) ≡ Some (After n l)) → (b : Bool) → world.is_link v h k ≡ b → world.link_at v h (world.with_link (world.pushed n) v h (k ∷ ls)) ≡ Some (After n l)
    go rest true i = let same = some_same k l (sym (link_here v h k ls i) ∙ e) in
        ap (λ qs. world.link_at v h qs) (with_here n v h k ls i (subst (λ j. j.cut ≡ false) (sym same) f)) ∙ link_here v h (After n k) ls i ∙ ap (λ j. Some (After n j)) same
    go rest false i = ap (λ qs. world.link_at v h qs) (with_behind n v h k ls i) ∙ link_behind v h k (world.with_link (world.pushed n) v h ls) i ∙ rest (sym (link_behind v h k ls i) ∙ e)

module _ (script : Script) (honest : ℕ → Bool) (v g d : ℕ) (n : Name) (mine : honest v ≡ true) (theirs : honest g ≡ true) where
  abbrev Opening : Bool → Option Place → Option Place → Option Place
  Opening c a rest = elim c [ true ↦ first_place a rest | false ↦ rest ]

  skipped : (c : Bool) (a rest : Option Place) → a ≡ None → Opening c a rest ≡ rest
  unfolding first_place
  skipped true a rest e = ap (λ q. first_place q rest) e
  skipped false a rest e = refl

  chosen : (c : Bool) (a rest : Option Place) (p : Place) → c ≡ true → a ≡ Some p → Opening c a rest ≡ Some p
  unfolding first_place
  chosen c a rest p e f = ap (λ q. Opening q a rest) e ∙ ap (λ q. first_place q rest) f

  both : (l : Link) → l.from ≡ v → l.to ≡ g → (is_honest script honest l && (l.to == g)) ≡ true
  both l e f = ap (λ c. c && (l.to == g)) (honest_link script honest (record { fuel = 0; drawn = []; vats = []; links = []; connections = []; history = [] }) v g l mine theirs e f) ∙ ap (λ q. q == g) f ∙ same_number g

  open_last : (ls : List Link) (l : Link) → LinksLack d ls → world.link_at v g ls ≡ Some l → l.cut ≡ false → open_place script honest g d (world.with_link (world.pushed (Open d n)) v g ls) ≡ Some (Mid (Way v g) (delivered l.notes) n)
  unfolding open_place is_honest world.link_at
  open_last [] l b e f = none_some l e
  open_last (k ∷ ls) l b e f = go (λ q. open_last ls l b.2 q f) (world.is_link v g k) refl
    where
      go : (world.link_at v g ls ≡ Some l → open_place script honest g d (world.with_link (world.pushed (Open d n)) v g ls) ≡ Some (Mid (Way v g) (delivered l.notes) n)) → (c : Bool) → world.is_link v g k ≡ c
          → open_place script honest g d (world.with_link (world.pushed (Open d n)) v g (k ∷ ls)) ≡ Some (Mid (Way v g) (delivered l.notes) n)
      go rest true i =
          let same = some_same k l (sym (link_here v g k ls i) ∙ e) in
          let ends = found_ends v g (k ∷ ls) l e in
          ap (λ qs. open_place script honest g d qs) (with_here (Open d n) v g k ls i (subst (λ j. j.cut ≡ false) (sym same) f) ∙ ap (λ j. After (Open d n) j ∷ ls) same)
          ∙ chosen (is_honest script honest l && (l.to == g)) (note_place (opens d) (Way l.from l.to) [] (l.notes ++ Open d n ∷ [])) (open_place script honest g d ls) (Mid (Way v g) (delivered l.notes) n) (both l ends.0 ends.1)
          (last_place d n (Way l.from l.to) [] l.notes (subst (λ j. NotesLack d j.notes) same b.0) ∙ ap (λ a. Some (Mid (Way a l.to) (delivered l.notes) n)) ends.0 ∙ ap (λ a. Some (Mid (Way v a) (delivered l.notes) n)) ends.1)
      go rest false i =
          ap (λ qs. open_place script honest g d qs) (with_behind (Open d n) v g k ls i)
          ∙ skipped (is_honest script honest k && (k.to == g)) (note_place (opens d) (Way k.from k.to) [] k.notes) (open_place script honest g d (world.with_link (world.pushed (Open d n)) v g ls)) (no_place d (opens d) (Way k.from k.to) [] k.notes (λ a s. s.0) b.0)
          ∙ rest (sym (link_behind v g k ls i) ∙ e)

  said : (c : Bool) (p : Place) → or_never script honest c (Some p) ≡ p
  unfolding or_never
  said true p = refl
  said false p = refl

  pub gift_last : (ls : List Link) (l : Link) → LinksLack d ls → world.link_at v g ls ≡ Some l → l.cut ≡ false → gift_place script honest g d (world.with_link (world.pushed (Open d n)) v g ls) ≡ Mid (Way v g) (delivered l.notes) n
  unfolding gift_place first_place
  gift_last ls l b e f = let ks = world.with_link (world.pushed (Open d n)) v g ls in
      ap (λ o. or_never script honest (was_put script honest g d ks) (first_place o (shorten_place script honest g d ks))) (open_last ls l b e f)
      ∙ said (was_put script honest g d ks) (Mid (Way v g) (delivered l.notes) n)

  -- ---- on a link that is cut

  abbrev Note0 : Note Name
  Note0 = Open d n

  abbrev Lost : Link → Link
  Lost k = record k { log = k.log ++ Note0 ∷ [] }

  with_cut : (k : Link) (ls : List Link) → world.is_link v g k ≡ true → k.cut ≡ true → world.with_link (world.pushed Note0) v g (k ∷ ls) ≡ Lost k ∷ ls
  unfolding world.with_link
  with_cut k ls e f = ap (λ c. elim c [ true ↦ world.pushed Note0 k ∷ ls | false ↦ k ∷ world.with_link (world.pushed Note0) v g ls ]) e ∙ ap (λ q. q ∷ ls) (pushed_shut Note0 k f)

  open_same : (ls : List Link) (l : Link) → world.link_at v g ls ≡ Some l → l.cut ≡ true → open_place script honest g d (world.with_link (world.pushed Note0) v g ls) ≡ open_place script honest g d ls
  unfolding open_place is_honest world.link_at
  open_same [] l e f = none_some l e
  open_same (k ∷ ls) l e f = go (λ q. open_same ls l q f) (world.is_link v g k) refl
    where
      go : (world.link_at v g ls ≡ Some l → open_place script honest g d (world.with_link (world.pushed Note0) v g ls) ≡ open_place script honest g d ls) → (c : Bool) → world.is_link v g k ≡ c
          → open_place script honest g d (world.with_link (world.pushed Note0) v g (k ∷ ls)) ≡ open_place script honest g d (k ∷ ls)
      go rest true i = let same = some_same k l (sym (link_here v g k ls i) ∙ e) in ap (λ qs. open_place script honest g d qs) (with_cut k ls i (subst (λ j. j.cut ≡ true) (sym same) f))
      go rest false i = ap (λ qs. open_place script honest g d qs) (with_behind Note0 v g k ls i) ∙ ap (λ r. Opening (is_honest script honest k && (k.to == g)) (note_place (opens d) (Way k.from k.to) [] k.notes) r) (rest (sym (link_behind v g k ls i) ∙ e))

  shorten_same : (ls : List Link) (l : Link) → world.link_at v g ls ≡ Some l → l.cut ≡ true → shorten_place script honest g d (world.with_link (world.pushed Note0) v g ls) ≡ shorten_place script honest g d ls
  unfolding shorten_place is_honest world.link_at
  shorten_same [] l e f = none_some l e
  shorten_same (k ∷ ls) l e f = go (λ q. shorten_same ls l q f) (world.is_link v g k) refl
    where
      go : (world.link_at v g ls ≡ Some l → shorten_place script honest g d (world.with_link (world.pushed Note0) v g ls) ≡ shorten_place script honest g d ls) → (c : Bool) → world.is_link v g k ≡ c
          → shorten_place script honest g d (world.with_link (world.pushed Note0) v g (k ∷ ls)) ≡ shorten_place script honest g d (k ∷ ls)
      go rest true i = let same = some_same k l (sym (link_here v g k ls i) ∙ e) in ap (λ qs. shorten_place script honest g d qs) (with_cut k ls i (subst (λ j. j.cut ≡ true) (sym same) f))
      go rest false i = ap (λ qs. shorten_place script honest g d qs) (with_behind Note0 v g k ls i) ∙ ap (λ r. Opening (is_honest script honest k) (note_place (shortens g d) (Way k.from k.to) [] k.notes) r) (rest (sym (link_behind v g k ls i) ∙ e))

  or_true : (a : Bool) → (a || true) ≡ true
  or_true true = refl
  or_true false = refl

  any_last : (ns : List (Note Name)) → any_note (opens d) (ns ++ Note0 ∷ []) ≡ true
  unfolding any_note opens
  any_last [] = ap (λ c. c || false) (same_number d)
  any_last (k ∷ ns) = ap (λ c. opens d k || c) (any_last ns) ∙ or_true (opens d k)

  logged : (l : Link) (more rest : Bool) → l.from ≡ v → l.to ≡ g → ((is_honest script honest l && (((l.to == g) && any_note (opens d) (l.log ++ Note0 ∷ [])) || more)) || rest) ≡ true
  logged l more rest e f =
      ap (λ c. (c && (((l.to == g) && any_note (opens d) (l.log ++ Note0 ∷ [])) || more)) || rest) (honest_link script honest (record { fuel = 0; drawn = []; vats = []; links = []; connections = []; history = [] }) v g l mine theirs e f)
      ∙ ap (λ c. (true && ((c && any_note (opens d) (l.log ++ Note0 ∷ [])) || more)) || rest) (ap (λ q. q == g) f ∙ same_number g)
      ∙ ap (λ c. (true && ((true && c) || more)) || rest) (any_last l.log)

  was_last : (ls : List Link) (l : Link) → world.link_at v g ls ≡ Some l → l.cut ≡ true → was_put script honest g d (world.with_link (world.pushed Note0) v g ls) ≡ true
  unfolding was_put is_honest world.link_at
  was_last [] l e f = none_some l e
  was_last (k ∷ ls) l e f = go (λ q. was_last ls l q f) (world.is_link v g k) refl
    where
      go : (world.link_at v g ls ≡ Some l → was_put script honest g d (world.with_link (world.pushed Note0) v g ls) ≡ true) → (c : Bool) → world.is_link v g k ≡ c → was_put script honest g d (world.with_link (world.pushed Note0) v g (k ∷ ls)) ≡ true
      go rest true i =
          let same = some_same k l (sym (link_here v g k ls i) ∙ e) in
          let ends = found_ends v g (k ∷ ls) l e in
          ap (λ qs. was_put script honest g d qs) (with_cut k ls i (subst (λ j. j.cut ≡ true) (sym same) f) ∙ ap (λ j. Lost j ∷ ls) same)
          ∙ logged l (any_note (shortens g d) (l.log ++ Note0 ∷ [])) (was_put script honest g d ls) ends.0 ends.1
      go rest false i =
          ap (λ qs. was_put script honest g d qs) (with_behind Note0 v g k ls i)
          ∙ ap (λ r. (is_honest script honest k && (((k.to == g) && any_note (opens d) k.log) || any_note (shortens g d) k.log)) || r) (rest (sym (link_behind v g k ls i) ∙ e))
          ∙ or_true (is_honest script honest k && (((k.to == g) && any_note (opens d) k.log) || any_note (shortens g d) k.log))

  pub gift_lost : (ls : List Link) (l : Link) → LinksLack d ls → world.link_at v g ls ≡ Some l → l.cut ≡ true → gift_place script honest g d (world.with_link (world.pushed Note0) v g ls) ≡ Nowhere
  unfolding gift_place first_place or_never
  gift_lost ls l b e f = let ks = world.with_link (world.pushed Note0) v g ls in
      ap (λ o. or_never script honest (was_put script honest g d ks) (first_place o (shorten_place script honest g d ks))) (open_same ls l e f ∙ no_open script honest g d ls b)
      ∙ ap (λ o. or_never script honest (was_put script honest g d ks) (first_place None o)) (shorten_same ls l e f ∙ no_shorten script honest g d ls b)
      ∙ ap (λ c. or_never script honest c None) (was_last ls l e f)

-- ---- in the middle of a step

other_put : (v h : ℕ) (t : Vat Name) (ss : List (Vat Name)) → (v ≡ h → ⊥) → slice_get (world.put_at v t ss) h ≡ slice_get ss h
unfolding world.put_at
other_put v h t [] f = refl
other_put zero zero t (s ∷ ss) f = absurd (f refl)
other_put zero (suc h) t (s ∷ ss) f = refl
other_put (suc v) zero t (s ∷ ss) f = refl
other_put (suc v) (suc h) t (s ∷ ss) f = other_put v h t ss (λ e. f (ap suc e))

module _ (script : Script) (honest : ℕ → Bool) (w : World) (v h g word : ℕ) (n m : Name) (bs : List Item) (s sh sg : Vat Name) (l : Link)
    (mine : honest v ≡ true) (receivers : honest h ≡ true) (theirs : honest g ≡ true) (far : v ≡ h → ⊥) (third : v ≡ g → ⊥) (other : h ≡ g → ⊥)
    (at : slice_get w.vats h ≡ Some sh) (number : sh.number ≡ h) (fresh : drawn_at zero word s.drawn ≡ None) (new_there : refs.entry_of (names script h) sh.known (Gift g (key s.number word)) ≡ None)
    (host : slice_get w.vats g ≡ Some sg) (new_here : refs.entry_of (names script g) sg.known (Gift g (key s.number word)) ≡ None) (shut : opened_there (Gift g (key s.number word)) sg.gifts ≡ false)
    (link : world.link_at v g (world.push_all v s.outbox w.links) ≡ Some l) (ready : Ready script honest w v s) (before : Ahead (WaysAmid script honest w v s) m (End (Way v g) n)) where
  abbrev D : ℕ
  D = key s.number word

  lacks : LinksLack D (world.push_all v s.outbox w.links)
  lacks = links_lack s.drawn D (key_is_new s.number word s.drawn fresh) (world.push_all v s.outbox w.links) ready.draws

  abbrev G : Name
  G = Gift g D

  abbrev T : Vat Name
  T = record s { drawn = s.drawn ++ word ∷ []; outbox = s.outbox ++ record { to = g; note = Open D n } ∷ [] }

  abbrev W : Ways
  W = ways script honest (amid v T w)

  abbrev Vats : List (Vat Name)
  Vats = world.put_at v T w.vats

  abbrev Links : List Link
  Links = world.push_all v T.outbox w.links

  links_are : Links ≡ world.with_link (world.pushed (Open D n)) v g (world.push_all v s.outbox w.links)
  links_are = push_last v s.outbox (record { to = g; note = Open D n }) w.links

  host_there : slice_get Vats g ≡ Some sg
  host_there = other_put v g T w.vats third ∙ host

  link_there : l.cut ≡ false → world.link_at v g Links ≡ Some (After (Open D n) l)
  link_there whole = ap (λ ls. world.link_at v g ls) links_are ∙ link_pushed (Open D n) v g (world.push_all v s.outbox w.links) l link whole

  notes_within : (c : Bool) → Within (elim c [ true ↦ delivered (l.notes ++ Open D n ∷ []) | false ↦ [] ]) (delivered l.notes)
  notes_within true i j = subst (λ q. IsIn i q) (delivered_open l.notes D n) j
  notes_within false i j = absurd j

  abbrev NotesOf : Option Link → List Item
  NotesOf o = elim o [ Some k ↦ elim (is_honest script honest k) [ true ↦ delivered k.notes | false ↦ [] ] | None ↦ [] ]

  stands_within : l.cut ≡ false → Within (W.stands (Way v g)) (delivered l.notes)
  unfolding ways ways_of stands_at amid
  stands_within whole i j = notes_within (is_honest script honest (After (Open D n) l)) i (subst (λ o. IsIn i (NotesOf o)) (link_there whole) j)

  gift_is : l.cut ≡ false → gift_place script honest g D Links ≡ Mid (Way v g) (delivered l.notes) n
  gift_is whole = ap (λ ls. gift_place script honest g D ls) links_are ∙ gift_last script honest v g D n mine theirs (world.push_all v s.outbox w.links) l lacks link whole

  still : Ahead W m (End (Way v g) n)
  still = (growing_keeps (WaysAmid script honest w v s) W (opened script honest w v g word n s fresh ready).1.grows (End (Way v g) n)).1 m before

  gift_by : (b : Bool) → l.cut ≡ b → Ahead W m (gift_place script honest g D Links)
  gift_by true cut = subst (λ c. Ahead W m c) (sym (ap (λ ls. gift_place script honest g D ls) links_are ∙ gift_lost script honest v g D n mine theirs (world.push_all v s.outbox w.links) l lacks link cut)) (doomed_there nowhere)
  gift_by false whole = subst (λ c. Ahead W m c) (sym (gift_is whole)) (home_behind W v g (delivered l.notes) n m (λ i j. stands_within whole i j) still)

  gift_ahead : Ahead W m (gift_place script honest g D Links)
  gift_ahead = gift_by l.cut refl

  abbrev Shown : Bool → Bool → Place
  Shown a b = elim (a && not b) [ true ↦ gift_place script honest g D Links | false ↦ Free ]

  held_is : onward_at script honest Vats Links (Held g G) G ≡ gift_place script honest g D Links
  unfolding onward_at released_at released unsettled refs.standing_of refs.standing_in
  held_is =
      ap (λ o. released_at script honest Vats Links g G o) host_there
      ∙ ap (λ o. released script honest Vats Links g G sg.gifts (refs.standing_in o)) new_here
      ∙ ap (λ c. Shown c (opened_there G sg.gifts)) (same_number g)
      ∙ ap (λ c. Shown true c) shut

  held_ahead : Ahead W m (End (Held g G) G)
  unfolding ways ways_of amid
  held_ahead = past_end (subst (λ c. Ahead W m c) (sym held_is) gift_ahead)

  host_by : (b c : Bool) → c ≡ true → Ahead W m (elim b [ true ↦ Nowhere | false ↦ elim c [ true ↦ End (Held g G) G | false ↦ End (Way g g) G ] ])
  host_by true c e = doomed_there nowhere
  host_by false c e = subst (λ q. Ahead W m (elim q [ true ↦ End (Held g G) G | false ↦ End (Way g g) G ])) (sym e) held_ahead

  host_leads : leads script honest Vats Links g (Ref G) ≡ by_host g sg G g
  unfolding leads leads_at leads_in of_name host_of
  host_leads = ap (λ o. leads_at script honest g o (Ref G)) host_there ∙ ap (λ o. of_name script honest g sg G o) new_here

  host_ahead : Ahead W m (leads script honest Vats Links g (Ref G))
  unfolding by_host
  host_ahead = subst (λ c. Ahead W m c) (sym host_leads) (host_by (is_in g sg.noticed) (g == g) (same_number g))

  receiver_by : (leads script honest Vats Links h (Ref G) ≡ End (Way h g) G) ⊎ (leads script honest Vats Links h (Ref G) ≡ Nowhere) → Ahead W m (leads script honest Vats Links h (Ref G))
  unfolding amid
  receiver_by (inl e) = subst (λ c. Ahead W m c) (sym e) (past_end (over_link script honest (amid v T w) h g G m receivers theirs host_ahead))
  receiver_by (inr e) = subst (λ c. Ahead W m c) (sym e) (doomed_there nowhere)

  receiver_ahead : Ahead W m (leads script honest Vats Links h (Ref G))
  unfolding amid host_of
  receiver_ahead = receiver_by (open_names_lead_home script honest (amid v T w) g h sh G (other_put v h T w.vats far ∙ at) number other refl (inl new_there))

  pub passed : Ahead W m (Mid (Way v h) bs G)
  unfolding amid
  passed = past_mid (over_link script honest (amid v T w) v h G m mine receivers receiver_ahead)

module _ (script : Script) (honest : ℕ → Bool) (w : World) (v h g : ℕ) (y : Value Name) (n m : Name) (object : Bool) (bs : List Item) (s : Vat Name) where
  -- the next word
  abbrev Word : ℕ
  Word = (names script v).word (length s.drawn)

  abbrev Passes : Vat Name → Type 0
  Passes t = Ahead (WaysAmid script honest w v t) m (Mid (Way v h) bs (Gift g (key s.number Word)))

  abbrev Block : Done Name (Passed Name) → Type 0
  Block d = IfGives Passes d

  split : (g ≡ h → ⊥) → (drawn_at zero Word s.drawn ≡ None → Passes (record s { drawn = s.drawn ++ Word ∷ []; outbox = s.outbox ++ record { to = g; note = Open (key s.number Word) n } ∷ [] })) → IfGives Passes (refs.address_plain (names script v) h y (Away g n object) s)
  unfolding refs.address_plain draw draws ◌>>=◌ ◌>>◌ and_then send_out give
  split f block = by_same (g == h) (ne_eqb g h f)
    where
      by_draw : (o : Option ℕ) → drawn_at zero Word s.drawn ≡ o → Block (and_then (draws Word o s) (λ i. send_out g (Open i n) >> give (AGift g i)))
      by_draw (Some i) e = tt
      by_draw None e = block e

      by_same : (b : Bool) → b ≡ false → Block ((if b then give (Plain y) else (draw (names script v) >>= (λ i. send_out g (Open i n) >> give (AGift g i)))) s)
      by_same true e = absurd (subst IsFalse (sym e) tt)
      by_same false e = by_draw (drawn_at zero Word s.drawn) refl

pub passed_gift_is_behind : PassedGiftIsBehind
passed_gift_is_behind = λ script honest w v h g y n m object bs s sh sg l mine receivers theirs far third other at number new_there host new_here shut link ready before.
    split script honest w v h g y n m object bs s (λ e. other (sym e))
    (λ fresh. passed script honest w v h g ((names script v).word (length s.drawn)) n m bs s sh sg l mine receivers theirs far third other at number fresh new_there host new_here shut link ready before)
