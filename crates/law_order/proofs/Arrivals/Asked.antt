-- Where a gift is that is asked for by a note of a new draw: behind all that stands on that link.
use Rattle.std.proofs.Common.{◌≡◌, ℕ, Bool, true, false, List, [], ◌∷◌, ◌++◌, Option, Some, None, refl, sym, ap, ◌∙◌, eq-eqb}
use Rattle.std.proofs.lemmas.List.{append-nil, append_assoc}
use Rattle.std.specs.Prelude.{◌==◌, ◌&&◌}
use Rattle.def_machine.specs.Values.{Name}
use Rattle.def_machine.specs.State.{Note, Shorten}
use Rattle.def_run.specs.World.{Script, Link}
use Rattle.def_run.specs.World as world
use Rattle.law_order.specs.Ordering.Ways.{Lane, Way, Item, Place, Mid}
use Rattle.law_order.specs.Ordering.Places.{delivered, opens, shortens, subject, in_lane, note_place, first_place, is_honest, open_place, shorten_place, was_put, or_never, gift_place}
use Rattle.law_order.proofs.Ordering.Below.{NotesLack, LinksLack, lacks_spares, no_place, no_open}
use Rattle.law_order.proofs.Ordering.Brought.{honest_link}
use Rattle.law_order.proofs.Ordering.OrderKeeping.{with_here, with_behind}
use Rattle.law_order.proofs.Ordering.Sends.{none_some, some_same, pushed_shut, pushed_open, link_here, link_behind, ends_of}
use Rattle.law_order.proofs.Ordering.Standing.{delivered_append}

-- ---- on one link

module _ (c d : ℕ) (n : Name) where
  abbrev Asking : Note Name
  Asking = Shorten n c d

  it_asks : shortens c d Asking ≡ true
  unfolding shortens
  it_asks = ap (λ b. b && (d == d)) (eq-eqb c c refl) ∙ eq-eqb d d refl

  -- that of no other
  asked_place : (l : Lane) (b : List Item) (ns : List (Note Name)) → NotesLack d ns → note_place (shortens c d) l b (ns ++ Asking ∷ []) ≡ Some (Mid l (b ++ delivered ns) n)
  unfolding note_place in_lane subject delivered
  asked_place l b [] h = ap (λ q. elim q [ true ↦ Some (Mid l b n) | false ↦ None ]) it_asks ∙ ap (λ js. Some (Mid l js n)) (sym (append-nil b))
  asked_place l b (k ∷ ns) h =
      ap (λ q. elim q [ true ↦ in_lane l b (subject k) | false ↦ note_place (shortens c d) l (b ++ delivered (k ∷ [])) (ns ++ Asking ∷ []) ]) ((lacks_spares d k h.0).1 c)
      ∙ asked_place l (b ++ delivered (k ∷ [])) ns h.1
      ∙ ap (λ js. Some (Mid l js n)) (append_assoc b (delivered (k ∷ [])) (delivered ns) ∙ ap (λ js. b ++ js) (sym (delivered_append (k ∷ []) ns)))

  it_opens_none : opens d Asking ≡ false
  unfolding opens
  it_opens_none = refl

  none_opened : (l : Lane) (b : List Item) (ns : List (Note Name)) → NotesLack d ns → note_place (opens d) l b (ns ++ Asking ∷ []) ≡ None
  unfolding note_place
  none_opened l b [] h = ap (λ q. elim q [ true ↦ in_lane l b (subject Asking) | false ↦ None ]) it_opens_none
  none_opened l b (k ∷ ns) h = ap (λ q. elim q [ true ↦ in_lane l b (subject k) | false ↦ note_place (opens d) l (b ++ delivered (k ∷ [])) (ns ++ Asking ∷ []) ]) (lacks_spares d k h.0).0 ∙ none_opened l (b ++ delivered (k ∷ [])) ns h.1

  abbrev After : Link → Link
  After l = record l { notes = l.notes ++ Asking ∷ []; log = l.log ++ Asking ∷ [] }

  pushed_opens : (l : Link) (b : Bool) → l.cut ≡ b → NotesLack d l.notes → note_place (opens d) (Way (world.pushed Asking l).from (world.pushed Asking l).to) [] (world.pushed Asking l).notes ≡ None
  pushed_opens l true e h = ap (λ k. note_place (opens d) (Way k.from k.to) [] k.notes) (pushed_shut Asking l e) ∙ no_place d (opens d) (Way l.from l.to) [] l.notes (λ m s. s.0) h
  pushed_opens l false e h = ap (λ k. note_place (opens d) (Way k.from k.to) [] k.notes) (pushed_open Asking l e) ∙ none_opened (Way l.from l.to) [] l.notes h

  -- ---- on all

  abbrev First : Bool → Option Place → Option Place → Option Place
  First b p o = elim b [ true ↦ first_place p o | false ↦ o ]

  first_none : (b : Bool) (p o : Option Place) → p ≡ None → o ≡ None → First b p o ≡ None
  unfolding first_place
  first_none true p o e f = ap (λ q. first_place q o) e ∙ f
  first_none false p o e f = f

  first_some : (b : Bool) (p o : Option Place) (a : Place) → b ≡ true → p ≡ Some a → First b p o ≡ Some a
  unfolding first_place
  first_some b p o a e f = ap (λ q. First q p o) e ∙ ap (λ q. first_place q o) f

  first_skips : (b : Bool) (p o : Option Place) → p ≡ None → First b p o ≡ o
  unfolding first_place
  first_skips true p o e = ap (λ q. first_place q o) e
  first_skips false p o e = refl

  module _ (script : Script) (honest : ℕ → Bool) (v h : ℕ) (here : honest v ≡ true) (there : honest h ≡ true) where
    abbrev Put : List Link → List Link
    Put ls = world.with_link (world.pushed Asking) v h ls

    none_open : (ls : List Link) → LinksLack d ls → open_place script honest c d (Put ls) ≡ None
    unfolding open_place world.with_link
    none_open [] b = refl
    none_open (k ∷ ls) b = go (none_open ls b.2) (world.is_link v h k) refl
      where
        go : open_place script honest c d (Put ls) ≡ None → (q : Bool) → world.is_link v h k ≡ q → open_place script honest c d (Put (k ∷ ls)) ≡ None
        go r true i = let j = world.pushed Asking k in ap (λ qs. open_place script honest c d qs) (with_here (world.pushed Asking) v h k ls i)
            ∙ first_none (is_honest script honest j && (j.to == c)) (note_place (opens d) (Way j.from j.to) [] j.notes) (open_place script honest c d ls) (pushed_opens k k.cut refl b.0) (no_open script honest c d ls b.2)
        go r false i = ap (λ qs. open_place script honest c d qs) (with_behind (world.pushed Asking) v h k ls i)
            ∙ first_none (is_honest script honest k && (k.to == c)) (note_place (opens d) (Way k.from k.to) [] k.notes) (open_place script honest c d (Put ls)) (no_place d (opens d) (Way k.from k.to) [] k.notes (λ m s. s.0) b.0) r

    last_asked : (ls : List Link) (l : Link) → LinksLack d ls → world.link_at v h ls ≡ Some l → l.cut ≡ false → shorten_place script honest c d (Put ls) ≡ Some (Mid (Way v h) (delivered l.notes) n)
    unfolding shorten_place world.link_at
    last_asked [] l b e f = none_some l e
    last_asked (k ∷ ls) l b e f = go (λ q. last_asked ls l b.2 q f) (world.is_link v h k) refl
      where
        go : (world.link_at v h ls ≡ Some l → shorten_place script honest c d (Put ls) ≡ Some (Mid (Way v h) (delivered l.notes) n)) → (q : Bool) → world.is_link v h k ≡ q → shorten_place script honest c d (Put (k ∷ ls)) ≡ Some (Mid (Way v h) (delivered l.notes) n)
        go r true i =
            let same = some_same k l (sym (link_here v h k ls i) ∙ e) in
            let ends = ends_of v h k i in
            ap (λ qs. shorten_place script honest c d qs) (with_here (world.pushed Asking) v h k ls i ∙ ap (λ j. j ∷ ls) (pushed_open Asking k (ap (λ j. j.cut) same ∙ f)))
            ∙ first_some (is_honest script honest (After k)) (note_place (shortens c d) (Way k.from k.to) [] (k.notes ++ Asking ∷ [])) (shorten_place script honest c d ls) (Mid (Way v h) (delivered l.notes) n)
            (honest_link script honest (record { fuel = 0; drawn = []; vats = []; links = []; connections = []; history = [] }) v h (After k) here there ends.0 ends.1)
            (asked_place (Way k.from k.to) [] k.notes b.0 ∙ ap (λ a. Some (Mid (Way a k.to) (delivered k.notes) n)) ends.0 ∙ ap (λ a. Some (Mid (Way v a) (delivered k.notes) n)) ends.1 ∙ ap (λ j. Some (Mid (Way v h) (delivered j.notes) n)) same)
        go r false i =
            ap (λ qs. shorten_place script honest c d qs) (with_behind (world.pushed Asking) v h k ls i)
            ∙ first_skips (is_honest script honest k) (note_place (shortens c d) (Way k.from k.to) [] k.notes) (shorten_place script honest c d (Put ls)) (no_place d (shortens c d) (Way k.from k.to) [] k.notes (λ m s. s.1 c) b.0)
            ∙ r (sym (link_behind v h k ls i) ∙ e)

    said : (b : Bool) (p : Place) → or_never script honest b (Some p) ≡ p
    unfolding or_never
    said true p = refl
    said false p = refl

    -- the gift that is asked for so waits behind all that stood on the link
    pub gift_asked : (ls : List Link) (l : Link) → LinksLack d ls → world.link_at v h ls ≡ Some l → l.cut ≡ false → gift_place script honest c d (Put ls) ≡ Mid (Way v h) (delivered l.notes) n
    unfolding gift_place first_place
    gift_asked ls l b e f = ap (λ o. or_never script honest (was_put script honest c d (Put ls)) (first_place o (shorten_place script honest c d (Put ls)))) (none_open ls b)
        ∙ ap (λ o. or_never script honest (was_put script honest c d (Put ls)) (first_place None o)) (last_asked ls l b e f)
        ∙ said (was_put script honest c d (Put ls)) (Mid (Way v h) (delivered l.notes) n)
