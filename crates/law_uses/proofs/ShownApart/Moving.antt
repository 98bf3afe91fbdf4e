-- In every world of a run there is one provider for each word, and gifts whose keys tell another are hidden.
use Rattle.std.proofs.Common.{◌≡◌, ℕ, zero, List, [], ◌∷◌, ◌++◌, Option, Some, refl}
use Rattle.def_machine.specs.Values.{Name}
use Rattle.def_machine.specs.State.{Note, Vat}
use Rattle.law_machine.specs.Machine.Steps.{Step, Receives}
use Rattle.def_run.specs.World as world
use Rattle.def_run.specs.World.{Script, Program, Link, World, Entry, Goes as Going, names_of, read_note, put_at, push_all, with_link, with_notes, severed_link, link_at}
use Rattle.law_fate.specs.Fates.Lasting.{Each}
use Rattle.law_fate.specs.Name.Names.{AllOf, NoteOk}
use Rattle.law_fate.specs.Name.Runs.{KnowsOnce}
use Rattle.law_fate.proofs.Name.Facts.{MayBe}
use Rattle.law_fate.proofs.Name.Run.{link_holds}
use Rattle.law_reference.specs.Reference.GiftPassing.{Provides}
use Rattle.law_reference.specs.Reference.Hiding.{Spares}
use Rattle.law_reference.proofs.Reference.FollowRuns.{tail_of}
use Rattle.law_reference.proofs.Reference.LegRuns.{stands_of}
use Rattle.law_reference.proofs.Reference.Moves.{Moved, Still, Severs, Drops, Steps, Arrives, IsAlone, Does, opened_hold, stepped_hold}
use Rattle.law_reference.proofs.Reference.GiftLinks.{LinkTells, with_link_tells, severed_tells, taken_tells, found_tells}
use Rattle.law_reference.proofs.Reference.GiftLaws.{fits_opened}
use Rattle.law_reference.proofs.Reference.StepsPuts.{later}
use Rattle.law_reference.proofs.Reference.AskRuns.{Past}
use Rattle.law_reference.proofs.Reference.AskHolds.{opened_past, stepped_past}
use Rattle.law_reference.proofs.Reference.HideMoves.{HiddenAt, notes_severed, notes_taken, alone_hides}
use Rattle.law_uses.proofs.ShownApart.Provided.{HasKeys, hidden_before, step_keyed, alone_fair, arrived}

-- ---- the first note of a link

module _ (w : World) (a v : ℕ) (n : Note Name) (ns : List (Note Name)) (l : Link) (at : link_at a v w.links ≡ Some l) (notes : l.notes ≡ n ∷ ns) where
  abbrev pub Taken : List Link
  Taken = with_link (with_notes ns) a v w.links

  module _ (P : ℕ → ℕ) (links : Each (LinkTells P w.drawn) w.links) where
    all_provide : Each (Provides P w.drawn a v) (n ∷ ns)
    all_provide = rw notes at (found_tells P w.drawn a v l w.links links at)

    pub first_provides : Provides P w.drawn a v n
    first_provides = all_provide.0

    pub taken_links : Each (LinkTells P w.drawn) Taken
    taken_links = with_link_tells P w.drawn (with_notes ns) a v (taken_tells P w.drawn a v ns all_provide.1) w.links links

  module _ (i : ℕ) (h : HiddenAt i w.vats w.links) where
    all_spare : NoteOk (Spares i) n × AllOf (NoteOk (Spares i)) ns
    all_spare = found (link_at a v w.links) at (link_holds (NoteOk (Spares i)) a v w.links h.1)
      where
        found : (o : Option Link) → o ≡ Some l → MayBe (λ (k : Link). AllOf (NoteOk (Spares i)) k.notes) o → NoteOk (Spares i) n × AllOf (NoteOk (Spares i)) ns
        found o e k = let one : AllOf (NoteOk (Spares i)) l.notes = rw e at k in tail_of (NoteOk (Spares i)) l l n ns one refl notes

    pub first_spares : NoteOk (Spares i) n
    first_spares = all_spare.0

    pub taken_hidden : HiddenAt i w.vats Taken
    taken_hidden = (h.0, notes_taken (NoteOk (Spares i)) a v ns w.links all_spare.1 h.1)

module _ (script : Script) where
  -- ---- moves

  severed_keyed : (w y : World) (a b : ℕ) → y.vats ≡ w.vats → y.links ≡ with_link severed_link b a (with_link severed_link a b w.links) → y.drawn ≡ w.drawn → HasKeys w → HasKeys y
  severed_keyed w y a b e f d h = let o = h.1 in let P : ℕ → ℕ = h.0 in (
    P,
    record {
      links = rw (d, f) (with_link_tells P w.drawn severed_link b a (λ l x z j. severed_tells P w.drawn l j) (with_link severed_link a b w.links) (with_link_tells P w.drawn severed_link a b (λ l x z j. severed_tells P w.drawn l j) w.links o.links));
      vats = λ v s i. rw d (o.vats v s (rw e at i));
      hidden = λ i amiss x. let old = o.hidden i amiss (rw d at x) in rw (e, f) (old.0, notes_severed (NoteOk (Spares i)) b a (with_link severed_link a b w.links) (notes_severed (NoteOk (Spares i)) a b w.links old.1));
    },
  )

  dropped_keyed : (w y : World) (a v : ℕ) (n : Note Name) (ns : List (Note Name)) (l : Link) (at : link_at a v w.links ≡ Some l) (notes : l.notes ≡ n ∷ ns) → y.vats ≡ w.vats → y.links ≡ with_link (with_notes ns) a v w.links → y.drawn ≡ w.drawn → HasKeys w → HasKeys y
  dropped_keyed w y a v n ns l at notes e f d h = let o = h.1 in (
    h.0,
    record {
      links = rw (d, f) (taken_links w a v n ns l at notes h.0 o.links);
      vats = λ u s i. rw d (o.vats u s (rw e at i));
      hidden = λ i amiss x. rw (e, f) (taken_hidden w a v n ns l at notes i (o.hidden i amiss (rw d at x)));
    },
  )

  alone_keyed : (w y : World) (v : ℕ) (s q t : Vat Name) (what : Step Name Name) → Past script w → IsAlone what → Does script w v s q t what → y.vats ≡ put_at v t w.vats → y.links ≡ push_all v t.outbox w.links → y.drawn ≡ t.drawn → HasKeys w → HasKeys y
  alone_keyed w y v s q t what past o d e f g h = let k = h.1 in let stands = stands_of script w past.0 in (
    later h.0 w.drawn v,
    step_keyed script w h.0 stands k v y v s q t d.there d.number d.gifts w.links k.links (alone_fair script w h.0 v s q t what o d) (hidden_before script w h.0 stands k v)
        (λ i amiss before. alone_hides i script w v s (k.vats v s d.there).0 (before.0 v s d.there) q t what o d) e f g,
  )

  note_keyed : (w y : World) (a v : ℕ) (s t : Vat Name) (n : Note Name) (ns : List (Note Name)) (l : Link) (at : link_at a v w.links ≡ Some l) (notes : l.notes ≡ n ∷ ns) → Past script w → Does script w v s s t (Receives a (read_note (names_of s) n))
      → y.vats ≡ put_at v t w.vats → y.links ≡ push_all v t.outbox (with_link (with_notes ns) a v w.links) → y.drawn ≡ t.drawn → HasKeys w → HasKeys y
  note_keyed w y a v s t n ns l at notes past d e f g h = let k = h.1 in let stands = stands_of script w past.0 in
      let r = arrived script w h.0 v s t a (k.vats v s d.there).0 stands k n (first_provides w a v n ns l at notes h.0 k.links) d in (
        later h.0 w.drawn r.0,
        step_keyed script w h.0 stands k r.0 y v s s t d.there refl refl (Taken w a v n ns l at notes) (taken_links w a v n ns l at notes h.0 k.links) r.1 (λ i amiss. taken_hidden w a v n ns l at notes i (hidden_before script w h.0 stands k r.0 i amiss))
            (λ i amiss before. r.2 i amiss (before.0 v s d.there) (first_spares w a v n ns l at notes i (hidden_before script w h.0 stands k r.0 i amiss))) e f g,
      )

  keyed_on : (w y : World) → Past script w → Past script y → Moved script w y → HasKeys w → HasKeys y
  keyed_on w y p r (Still e f d) h = let o = h.1 in (h.0, record { links = rw (d, f) o.links; vats = λ v s i. rw d (o.vats v s (rw e at i)); hidden = λ i amiss x. rw (e, f) (o.hidden i amiss (rw d at x)) })
  keyed_on w y p r (Severs a b e f d) h = severed_keyed w y a b e f d h
  keyed_on w y p r (Drops a v n ns l at notes none e f d) h = dropped_keyed w y a v n ns l at notes e f d h
  keyed_on w y p r (Steps v s q t what o d e f g first fresh) h = alone_keyed w y v s q t what p o d e f g h
  keyed_on w y p r (Arrives a v s t n ns l at cut notes d e f g first fresh) h = note_keyed w y a v s t n ns l at notes p d e f g h

  -- ---- runs

  begins_keyed : HasKeys (world.begins script)
  unfolding world.open_from world.begins
  begins_keyed = let fits = fits_opened script [] (world.begins script) refl in let o = fits.1 in (fits.0, record { links = o.links; vats = λ v s e. let r = o.vats v s e in (r.0, r.1); hidden = λ i amiss a. absurd a })

  module _ (once : KnowsOnce script) where
    pub opened_keyed : (ps rest : List Program) (w : World) → script.vats ≡ ps ++ rest → world.open_from script zero ps (world.begins script) ≡ Going w → HasKeys w
    opened_keyed = opened_hold script (Past script) (opened_past script once) (stepped_past script once) (λ w p. stands_of script w p.0) HasKeys keyed_on begins_keyed

    pub stepped_keyed : (w x : World) (es : List Entry) (k : ℕ) → world.open_from script zero script.vats (world.begins script) ≡ Going w → world.steps_from script es k w ≡ Going x → HasKeys x
    stepped_keyed = stepped_hold script (Past script) (opened_past script once) (stepped_past script once) (λ w p. stands_of script w p.0) HasKeys keyed_on begins_keyed
