-- In every world of a run a gift that is under way is hidden.
use Rattle.std.proofs.Common.{◌≡◌, ℕ, zero, suc, ◌+◌, ◌≤◌, List, ◌∷◌, ◌++◌, Option, Some, refl, ◌⊎◌, inl, inr, arith}
use Rattle.std.specs.Prelude.{slice_get}
use Rattle.def_machine.specs.Values.{Name, Gift}
use Rattle.def_machine.specs.State.{Note, Vat}
use Rattle.law_machine.specs.Machine.Steps.{Step, Receives}
use Rattle.def_run.specs.World as world
use Rattle.def_run.specs.World.{Script, Program, Link, World, Entry, Goes as Going, names_of, read_note, put_at, push_all, with_link, with_notes, severed_link, link_at}
use Rattle.law_fate.specs.Fates.Lasting.{Each}
use Rattle.law_fate.specs.Name.Names.{AllOf, IsAmong, WasDrawn, NoteOk, names_in}
use Rattle.law_fate.specs.Name.Runs.{KnowsOnce}
use Rattle.law_fate.proofs.Name.Facts.{MayBe}
use Rattle.law_fate.proofs.Name.Run.{link_holds, name_had}
use Rattle.law_reference.proofs.Reference.FollowRuns.{tail_of}
use Rattle.law_reference.proofs.Reference.LegRuns.{stands_of}
use Rattle.law_reference.proofs.Reference.Moves.{Moved, Still, Severs, Drops, Steps, Arrives, IsAlone, Does, opened_hold, stepped_hold}
use Rattle.law_reference.specs.Reference.GiftPassing.{gifts_in_note, gifts_under_way, drawn_of, Provides}
use Rattle.law_reference.proofs.Reference.Puts.{gifts_out}
use Rattle.law_reference.proofs.Reference.GiftLinks.{pushed_notes, push_all_gifts, with_link_less, severed_less, found_tells, links_from_none}
use Rattle.law_reference.specs.Reference.Hiding.{Spares, Shuns, GiftsUnderWayAreHidden, KnownToTheirHostsAlone}
use Rattle.law_reference.proofs.Reference.AskRuns.{Past}
use Rattle.law_reference.proofs.Reference.AskHolds.{opened_past, stepped_past}
use Rattle.law_reference.proofs.Reference.HideMoves.{HiddenAt, notes_severed, notes_taken, taken_sum, under_drawn, early, late, new_hidden, hidden_next, alone_hides, note_old, note_new, alone_out, note_out}

-- where a gift under a key is under way it is hidden
abbrev pub Hidden : List (Vat Name) → List Link → Type 0
Hidden vs ls = (i : ℕ) → 1 ≤ gifts_under_way i ls → HiddenAt i vs ls

abbrev pub HiddenIn : World → Type 0
HiddenIn w = Hidden w.vats w.links

-- so many gifts under a key are under way at most
few_of : (script : Script) (w : World) → Past script w → (i : ℕ) → gifts_under_way i w.links ≤ drawn_of i w.drawn
few_of script w past i = let fits = past.2 in let o = fits.1 in o.count i

number_of : (script : Script) (w : World) → Past script w → (v : ℕ) (s : Vat Name) → slice_get w.vats v ≡ Some s → s.number ≡ v
number_of script w past v s e = let fits = past.2 in let o = fits.1 in (o.vats v s e).0

no_one : (x : ℕ) → 1 ≤ x → x ≡ 0 → ⊥
no_one x l e = omega arith

some_or : (x : ℕ) → (x ≡ 0) ⊎ (1 ≤ x)
some_or zero = inl refl
some_or (suc x) = inr (omega arith)

-- ---- cuts, and notes that are dropped

severed_hidden : (vs : List (Vat Name)) (a b : ℕ) (ls : List Link) → Hidden vs ls → Hidden vs (with_link severed_link a b ls)
severed_hidden vs a b ls h i l = let less = with_link_less (λ (k : Link). k.notes) i severed_link (severed_less i) a b ls in let old = h i (omega arith) in (old.0, notes_severed (NoteOk (Spares i)) a b ls old.1)

module _ (vs : List (Vat Name)) (a v : ℕ) (n : Note Name) (ns : List (Note Name)) (l : Link) (ls : List Link) (at : link_at a v ls ≡ Some l) (notes : l.notes ≡ n ∷ ns) where
  these : (i : ℕ) → HiddenAt i vs ls → NoteOk (Spares i) n × AllOf (NoteOk (Spares i)) ns
  these i h = found (link_at a v ls) at (link_holds (NoteOk (Spares i)) a v ls h.1)
    where
      found : (o : Option Link) → o ≡ Some l → MayBe (λ (k : Link). AllOf (NoteOk (Spares i)) k.notes) o → NoteOk (Spares i) n × AllOf (NoteOk (Spares i)) ns
      found o e k = let one : AllOf (NoteOk (Spares i)) l.notes = rw e at k in tail_of (NoteOk (Spares i)) l l n ns one refl notes

  taken_at : (i : ℕ) → HiddenAt i vs ls → HiddenAt i vs (with_link (with_notes ns) a v ls)
  taken_at i h = (h.0, notes_taken (NoteOk (Spares i)) a v ns ls (these i h).1 h.1)

  taken_hidden : Hidden vs ls → Hidden vs (with_link (with_notes ns) a v ls)
  taken_hidden h i k = let sum = taken_sum i a v n ns l notes ls at in taken_at i (h i (omega arith))

module _ (script : Script) where
  -- ---- a step that no note begins

  -- the word of a gift that is only now put is drawn in the step
  new_draw : (i : ℕ) (a b : List ℕ) (x : ℕ) → 1 ≤ x → x + drawn_of i a ≤ drawn_of i b → WasDrawn a i → ⊥
  new_draw i a b x l h = let most = under_drawn i b in late i a (omega arith)

  alone_hidden : (w y : World) (v : ℕ) (s q t : Vat Name) (what : Step Name Name) → Past script w → IsAlone what → Does script w v s q t what → y.vats ≡ put_at v t w.vats → y.links ≡ push_all v t.outbox w.links → HiddenIn w → HiddenIn y
  alone_hidden w y v s q t what past o d e f h i l = rw (e, f) (hidden_next i w.vats v t w.links before (alone_hides i script w v s (number_of script w past v s d.there) (before.0 v s d.there) q t what o d))
    where
      more : 1 ≤ gifts_under_way i (push_all v t.outbox w.links)
      more = rw f at l

      before : HiddenAt i w.vats w.links
      before = either (some_or (gifts_under_way i w.links))
        where
          put : gifts_under_way i w.links ≡ 0 → 1 ≤ gifts_out i t.outbox
          put k = let pushed = push_all_gifts (λ (j : Link). j.notes) i (pushed_notes i) v t.outbox w.links in let m = more in omega arith

          either : (gifts_under_way i w.links ≡ 0) ⊎ (1 ≤ gifts_under_way i w.links) → HiddenAt i w.vats w.links
          either (inr k) = h i k
          either (inl k) = new_hidden i script w (stands_of script w past.0) (new_draw i w.drawn t.drawn (gifts_out i t.outbox) (put k) (alone_out i script w v s q t what o d))

  -- ---- a note that arrives

  module _ (w y : World) (a v : ℕ) (s t : Vat Name) (n : Note Name) (ns : List (Note Name)) (l : Link) (past : Past script w) (at : link_at a v w.links ≡ Some l) (notes : l.notes ≡ n ∷ ns) (d : Does script w v s s t (Receives a (read_note (names_of s) n)))
      (e : y.vats ≡ put_at v t w.vats) (f : y.links ≡ push_all v t.outbox (with_link (with_notes ns) a v w.links)) (h : HiddenIn w) where
    abbrev Taken : List Link
    Taken = with_link (with_notes ns) a v w.links

    provides : Provides past.2.0 w.drawn a v n
    provides = let fits = past.2 in let o = fits.1 in head (found_tells fits.0 w.drawn a v l w.links o.links at)
      where
        head : Each (Provides past.2.0 w.drawn a v) l.notes → Provides past.2.0 w.drawn a v n
        head k = let one : Each (Provides past.2.0 w.drawn a v) (n ∷ ns) = rw notes at k in one.0

    number : s.number ≡ v
    number = number_of script w past v s d.there

    module _ (i : ℕ) where
      sum : gifts_in_note i n + gifts_under_way i Taken ≤ gifts_under_way i w.links
      sum = taken_sum i a v n ns l notes w.links at

      few : gifts_under_way i w.links ≤ drawn_of i w.drawn
      few = few_of script w past i

      -- it was under way before, and passes in another note
      old_next : 1 ≤ gifts_under_way i Taken → HiddenAt i (put_at v t w.vats) (push_all v t.outbox Taken)
      old_next k = let before = h i under in hidden_next i w.vats v t Taken (taken_at w.vats a v n ns l w.links at notes i before) (note_old i script w v s number (before.0 v s d.there) t a n made (these w.vats a v n ns l w.links at notes i before).0 none d)
        where
          under : 1 ≤ gifts_under_way i w.links
          under = let x = sum in omega arith

          none : gifts_in_note i n ≡ 0
          none = let x = sum in let y = few in let z = under_drawn i w.drawn in omega arith

          made : WasDrawn w.drawn i
          made = early i w.drawn (let x = under in let y = few in omega arith)

      -- it is put in this step
      new_next : 1 ≤ gifts_out i t.outbox → HiddenAt i (put_at v t w.vats) (push_all v t.outbox Taken)
      new_next k = let before = new_hidden i script w (stands_of script w past.0) fresh in hidden_next i w.vats v t Taken (taken_at w.vats a v n ns l w.links at notes i before) (note_new i script w v s number (before.0 v s d.there) t a n k (these w.vats a v n ns l w.links at notes i before).0 none d)
        where
          out : gifts_out i t.outbox + drawn_of i w.drawn ≤ drawn_of i t.drawn
          out = note_out i script w v s past.2.0 t a n provides d

          fresh : WasDrawn w.drawn i → ⊥
          fresh = new_draw i w.drawn t.drawn (gifts_out i t.outbox) k out

          none : gifts_in_note i n ≡ 0
          none = let x = sum in let y = few in let z = under_drawn i t.drawn in let o = out in omega arith

      next : 1 ≤ gifts_under_way i (push_all v t.outbox Taken) → HiddenAt i (put_at v t w.vats) (push_all v t.outbox Taken)
      next k = either (some_or (gifts_under_way i Taken))
        where
          either : (gifts_under_way i Taken ≡ 0) ⊎ (1 ≤ gifts_under_way i Taken) → HiddenAt i (put_at v t w.vats) (push_all v t.outbox Taken)
          either (inr m) = old_next m
          either (inl m) = let pushed = push_all_gifts (λ (j : Link). j.notes) i (pushed_notes i) v t.outbox Taken in new_next (omega arith)

    note_hidden : HiddenIn y
    note_hidden i k = let one : 1 ≤ gifts_under_way i (push_all v t.outbox Taken) = rw f at k in rw (e, f) (next i one)

  -- ---- the moves

  hidden_on : (w y : World) → Past script w → Past script y → Moved script w y → HiddenIn w → HiddenIn y
  hidden_on w y p r (Still e f d) h = rw (e, f) h
  hidden_on w y p r (Severs a b e f d) h = rw (e, f) (severed_hidden w.vats b a (with_link severed_link a b w.links) (severed_hidden w.vats a b w.links h))
  hidden_on w y p r (Drops a v n ns l at notes none e f d) h = rw (e, f) (taken_hidden w.vats a v n ns l w.links at notes h)
  hidden_on w y p r (Steps v s q t what o d e f g first fresh) h = alone_hidden w y v s q t what p o d e f h
  hidden_on w y p r (Arrives a v s t n ns l at cut notes d e f g first fresh) h = note_hidden w y a v s t n ns l p at notes d e f h

  begins_hidden : HiddenIn (world.begins script)
  unfolding world.begins
  begins_hidden i l = let none = links_from_none (λ (j : Link). j.notes) i (λ v w p. refl) script.vats zero script.vats in absurd (no_one (gifts_under_way i (world.links_from script.vats zero script.vats)) l none)

  module _ (once : KnowsOnce script) where
    pub opened_hidden : (ps rest : List Program) (w : World) → script.vats ≡ ps ++ rest → world.open_from script zero ps (world.begins script) ≡ Going w → HiddenIn w
    opened_hidden = opened_hold script (Past script) (opened_past script once) (stepped_past script once) (λ w p. stands_of script w p.0) HiddenIn hidden_on begins_hidden

    pub stepped_hidden : (w x : World) (es : List Entry) (k : ℕ) → world.open_from script zero script.vats (world.begins script) ≡ Going w → world.steps_from script es k w ≡ Going x → HiddenIn x
    stepped_hidden = stepped_hold script (Past script) (opened_past script once) (stepped_past script once) (λ w p. stands_of script w p.0) HiddenIn hidden_on begins_hidden

pub gifts_hidden : GiftsUnderWayAreHidden
gifts_hidden script once = (
  λ ps rest w i e j l. opened_hidden script once ps rest w i e j l,
  λ w x es k o e j l. stepped_hidden script once w x es k o e j l,
)

-- who knows one is its host
pub host_alone : (w : World) → HiddenIn w → (h i v : ℕ) (s : Vat Name) → 1 ≤ gifts_under_way i w.links → slice_get w.vats v ≡ Some s → IsAmong (Gift h i) (names_in s.known) → h ≡ v
host_alone w hidden h i v s l e a = let parts = (hidden i l).0 v s e in name_had (Shuns i v) s.known (Gift h i) parts.known a refl

pub known_alone : KnownToTheirHostsAlone
known_alone script once = (
  λ ps rest w i e. host_alone w (opened_hidden script once ps rest w i e),
  λ w x es k o e. host_alone x (stepped_hidden script once w x es k o e),
)
