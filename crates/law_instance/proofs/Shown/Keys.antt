-- In every world of a run there is one provider for each word, which is a vat below 32, and gifts whose keys tell another are hidden.
use Rattle.std.proofs.Common.{◌≡◌, ℕ, zero, ◌<◌, ◌≤◌, Bool, true, false, length, subst, arith, List, [], ◌∷◌, ◌++◌, Option, Some, None, refl}
use Rattle.def_machine.specs.Values.{Name}
use Rattle.def_machine.specs.State.{Note, Vat}
use Rattle.law_machine.specs.Machine.Steps.{Step, Receives}
use Rattle.def_run.specs.World as world
use Rattle.def_run.specs.World.{Script, Program, Link, World, Entry, Goes as Going, names_of, read_note, put_at, push_all, with_link, with_notes, severed_link, link_at}
use Rattle.law_fate.specs.Fates.Lasting.{Each}
use Rattle.law_fate.specs.Name.Names.{AllOf, NoteOk}
use Rattle.law_fate.specs.Name.Runs.{KnowsOnce}
use Rattle.law_fate.proofs.Name.Facts.{MayBe}
use Rattle.law_fate.proofs.Name.Run.{link_holds}
use Rattle.law_reference.specs.Reference.GiftPassing.{Provides}
use Rattle.law_reference.specs.Reference.Hiding.{Spares}
use Rattle.law_reference.proofs.Reference.LegRuns.{stands_of}
use Rattle.law_reference.proofs.Reference.Moves.{Moved, Still, Severs, Drops, Steps, Arrives, IsAlone, Does, opened_hold, stepped_hold}
use Rattle.law_reference.proofs.Reference.GiftLinks.{LinkTells, with_link_tells, severed_tells}
use Rattle.law_reference.proofs.Reference.GiftLaws.{fits_opened}
use Rattle.law_reference.proofs.Reference.StepsPuts.{later}
use Rattle.law_reference.proofs.Reference.AskRuns.{Past}
use Rattle.law_reference.proofs.Reference.AskHolds.{opened_past, stepped_past}
use Rattle.law_reference.proofs.Reference.HideMoves.{notes_severed, alone_hides}
use Rattle.law_uses.proofs.ShownApart.Provided.{Keyed, hidden_before, step_keyed, alone_fair}
use Rattle.law_uses.proofs.ShownApart.Moving.{Taken, first_provides, taken_links, first_spares, taken_hidden}
use Rattle.law_instance.proofs.Shown.Arrived.{HostsLow, arrived}
use Rattle.law_fate.specs.Fates.WholeFateRuns.{KnowsVats}
use Rattle.law_fate.specs.Name.Names.{HostIsTrue, KnownOk}
use Rattle.law_fate.proofs.Name.Facts.{all_end}
use Rattle.law_fate.proofs.Name.Run.{Had, Told, Stands}
use Rattle.law_reference.specs.Reference.GiftPassing.{IsProvided}
use Rattle.law_reference.proofs.Reference.Puts.{each_up, provides_up}
use Rattle.law_reference.proofs.Reference.ArrivePuts.{told_host}
use Rattle.def_machine.specs.Arrive.{Old, New}
use Rattle.def_machine.specs.Refs as refs
use Rattle.def_machine.specs.State.{Known, Elsewhere, begun, is_in, WhereSome}
use Rattle.def_machine.specs.Values.{host_of, naming}
use Rattle.def_run.specs.Draws.{draw_word}
use Rattle.def_run.specs.World.{readied}
use Rattle.std.specs.Prelude.{slice_get}

-- one provider for each word, below 32
abbrev pub HasLowKeys : World → Type 0
HasLowKeys w = (P : ℕ → ℕ) × ((x : ℕ) → P x < 32) × Keyed P w

low_or : (P : ℕ → ℕ) (q x : ℕ) (b : Bool) → P x < 32 → q < 32 → elim b [ true ↦ P x | false ↦ q ] < 32
low_or P q x true h k = h
low_or P q x false h k = k

later_low : (P : ℕ → ℕ) (d : List ℕ) (q : ℕ) → ((x : ℕ) → P x < 32) → q < 32 → (x : ℕ) → later P d q x < 32
unfolding later
later_low P d q h k x = low_or P q x (is_in x d) (h x) k

none_up : (P Q : ℕ → ℕ) (v u : ℕ) (ns : List (Note Name)) → Each (Provides P [] v u) ns → Each (Provides Q [] v u) ns
none_up P Q v u ns h = each_up (Provides P [] v u) (Provides Q [] v u) (λ n j. provides_up P Q [] [] (λ i p k. absurd k.0) v u n j) ns h

module _ (script : Script) (knows : KnowsVats script) (few : length script.vats ≤ 16) where
  vat_low : (w : World) → Stands script w → (v : ℕ) (s : Vat Name) → slice_get w.vats v ≡ Some s → v < 32
  vat_low w h v s e = let k = h.vats v s e in let low = k.low in omega arith

  -- the host of each name that is known
  known_low : (w : World) → Stands script w → (v : ℕ) (s : Vat Name) → slice_get w.vats v ≡ Some s → AllOf (λ (k : Known Name). k.host < 32) s.known
  known_low w h v s e = let k = h.vats v s e in let kept = k.kept in let parts = k.parts in each s.known kept.hosts parts.known
    where
      each : (ks : List (Known Name)) → AllOf HostIsTrue ks → AllOf (KnownOk (Had script w v s)) ks → AllOf (λ (k : Known Name). k.host < 32) ks
      each [] a b = tt
      each (k ∷ ks) a b = let same = a.0 in let low = b.0.0.3 knows in ((let far : host_of k.name < length script.vats = low in omega arith), each ks a.1 b.1)

  host_or : (number : ℕ) (o : Option (Known Name)) → number < 32 → WhereSome (λ k. k.host < 32) o → refs.host_in number o < 32
  unfolding refs.host_in
  host_or number None h k = h
  host_or number (Some e) h k = k

  entry_or : (b : Bool) (k : Known Name) (o : Option (Known Name)) → k.host < 32 → WhereSome (λ (z : Known Name). z.host < 32) o → WhereSome (λ (z : Known Name). z.host < 32) (elim b [ true ↦ Some k | false ↦ o ])
  entry_or true k o h i = h
  entry_or false k o h i = i

  entry_low : (word : ℕ → ℕ) (v : ℕ) (ks : List (Known Name)) (n : Name) → AllOf (λ (k : Known Name). k.host < 32) ks → WhereSome (λ (z : Known Name). z.host < 32) (refs.entry_of (naming word v) ks n)
  unfolding refs.entry_of
  entry_low word v [] n h = tt
  entry_low word v (k ∷ ks) n h = entry_or ((naming word v).same k.name n) k (refs.entry_of (naming word v) ks n) h.0 (entry_low word v ks n h.1)

  told_low : (word : ℕ → ℕ) (v : ℕ) (s : Vat Name) (n : Name) (b : Bool) → s.number < 32 → host_of n < 32 → AllOf (λ (k : Known Name). k.host < 32) s.known → told_host v word (elim b [ true ↦ Old n | false ↦ New n (host_of n) ]) s < 32
  unfolding told_host refs.host_at begun host_of
  told_low word v s n true a h k = host_or s.number (refs.entry_of (naming word v) s.known n) a (entry_low word v s.known n k)
  told_low word v s n false a h k = host_or s.number (refs.entry_of (naming word v) (s.known ++ begun n (host_of n) ∷ []) n) a (entry_low word v (s.known ++ begun n (host_of n) ∷ []) n (all_end (λ (z : Known Name). z.host < 32) s.known (begun n (host_of n)) k h))

  far_low : (w : World) (stands : Stands script w) (v : ℕ) (s t : Vat Name) (a : ℕ) (there : slice_get w.vats v ≡ Some s) (number : s.number ≡ v) (P : ℕ → ℕ) (h : Keyed P w) (n : Note Name) (ns : List (Note Name)) (l : Link) → link_at a v w.links ≡ Some l → l.notes ≡ n ∷ ns → HostsLow script w P v s t a number stands h (vat_low w stands v s there) n
  unfolding world.read_name readied begun
  far_low w stands v s t a there number P h n ns l at notes = of_note n (found (link_at a v w.links) at (link_holds (NoteOk (Told script w)) a v w.links stands.links))
    where
      found : (o : Option Link) → o ≡ Some l → MayBe (λ (k : Link). AllOf (NoteOk (Told script w)) k.notes) o → NoteOk (Told script w) n
      found o e k = let one : AllOf (NoteOk (Told script w)) l.notes = rw e at k in let two : AllOf (NoteOk (Told script w)) (n ∷ ns) = subst (λ ms. AllOf (NoteOk (Told script w)) ms) notes one in two.0

      of_note : (m : Note Name) → NoteOk (Told script w) m → HostsLow script w P v s t a number stands h (vat_low w stands v s there) m
      of_note (Elsewhere x c) k = let far = k.0.1 knows in let low = vat_low w stands v s there in
          told_low (draw_word script.key) v (readied w s) x (world.is_old (names_of s) x) (let e = number in omega arith) (let f : host_of x < length script.vats = far in omega arith) (known_low w stands v s there)
      of_note other k = tt

  -- ---- moves

  severed_keyed : (w y : World) (a b : ℕ) → y.vats ≡ w.vats → y.links ≡ with_link severed_link b a (with_link severed_link a b w.links) → y.drawn ≡ w.drawn → HasLowKeys w → HasLowKeys y
  severed_keyed w y a b e f d h = let o = h.2 in let P : ℕ → ℕ = h.0 in (
    P,
    h.1,
    record {
      links = rw (d, f) (with_link_tells P w.drawn severed_link b a (λ l x z j. severed_tells P w.drawn l j) (with_link severed_link a b w.links) (with_link_tells P w.drawn severed_link a b (λ l x z j. severed_tells P w.drawn l j) w.links o.links));
      vats = λ v s i. rw d (o.vats v s (rw e at i));
      hidden = λ i amiss x. let old = o.hidden i amiss (rw d at x) in rw (e, f) (old.0, notes_severed (NoteOk (Spares i)) b a (with_link severed_link a b w.links) (notes_severed (NoteOk (Spares i)) a b w.links old.1));
    },
  )

  dropped_keyed : (w y : World) (a v : ℕ) (n : Note Name) (ns : List (Note Name)) (l : Link) (at : link_at a v w.links ≡ Some l) (notes : l.notes ≡ n ∷ ns) → y.vats ≡ w.vats → y.links ≡ with_link (with_notes ns) a v w.links → y.drawn ≡ w.drawn → HasLowKeys w → HasLowKeys y
  dropped_keyed w y a v n ns l at notes e f d h = let o = h.2 in (
    h.0,
    h.1,
    record {
      links = rw (d, f) (taken_links w a v n ns l at notes h.0 o.links);
      vats = λ u s i. rw d (o.vats u s (rw e at i));
      hidden = λ i amiss x. rw (e, f) (taken_hidden w a v n ns l at notes i (o.hidden i amiss (rw d at x)));
    },
  )

  alone_keyed : (w y : World) (v : ℕ) (s q t : Vat Name) (what : Step Name Name) → Past script w → IsAlone what → Does script w v s q t what → y.vats ≡ put_at v t w.vats → y.links ≡ push_all v t.outbox w.links → y.drawn ≡ t.drawn → HasLowKeys w → HasLowKeys y
  alone_keyed w y v s q t what past o d e f g h = let k = h.2 in let stands = stands_of script w past.0 in (
    later h.0 w.drawn v,
    later_low h.0 w.drawn v h.1 (vat_low w stands v s d.there),
    step_keyed script w h.0 stands k v y v s q t d.there d.number d.gifts w.links k.links (alone_fair script w h.0 v s q t what o d) (hidden_before script w h.0 stands k v)
        (λ i amiss before. alone_hides i script w v s (k.vats v s d.there).0 (before.0 v s d.there) q t what o d) e f g,
  )

  note_keyed : (w y : World) (a v : ℕ) (s t : Vat Name) (n : Note Name) (ns : List (Note Name)) (l : Link) (at : link_at a v w.links ≡ Some l) (notes : l.notes ≡ n ∷ ns) → Past script w → Does script w v s s t (Receives a (read_note (names_of s) n))
      → y.vats ≡ put_at v t w.vats → y.links ≡ push_all v t.outbox (with_link (with_notes ns) a v w.links) → y.drawn ≡ t.drawn → HasLowKeys w → HasLowKeys y
  note_keyed w y a v s t n ns l at notes past d e f g h = let k = h.2 in let stands = stands_of script w past.0 in
      let r = arrived script w h.0 v s t a (k.vats v s d.there).0 stands k (vat_low w stands v s d.there) n (first_provides w a v n ns l at notes h.0 k.links) d (far_low w stands v s t a d.there (k.vats v s d.there).0 h.0 k n ns l at notes) in (
        later h.0 w.drawn r.0,
        later_low h.0 w.drawn r.0 h.1 r.1,
        step_keyed script w h.0 stands k r.0 y v s s t d.there refl refl (Taken w a v n ns l at notes) (taken_links w a v n ns l at notes h.0 k.links) r.2 (λ i amiss. taken_hidden w a v n ns l at notes i (hidden_before script w h.0 stands k r.0 i amiss))
            (λ i amiss before. r.3 i amiss (before.0 v s d.there) (first_spares w a v n ns l at notes i (hidden_before script w h.0 stands k r.0 i amiss))) e f g,
      )

  keyed_on : (w y : World) → Past script w → Past script y → Moved script w y → HasLowKeys w → HasLowKeys y
  keyed_on w y p r (Still e f d) h = let o = h.2 in (h.0, h.1, record { links = rw (d, f) o.links; vats = λ v s i. rw d (o.vats v s (rw e at i)); hidden = λ i amiss x. rw (e, f) (o.hidden i amiss (rw d at x)) })
  keyed_on w y p r (Severs a b e f d) h = severed_keyed w y a b e f d h
  keyed_on w y p r (Drops a v n ns l at notes none e f d) h = dropped_keyed w y a v n ns l at notes e f d h
  keyed_on w y p r (Steps v s q t what o d e f g first fresh) h = alone_keyed w y v s q t what p o d e f g h
  keyed_on w y p r (Arrives a v s t n ns l at cut notes d e f g first fresh) h = note_keyed w y a v s t n ns l at notes p d e f g h

  -- ---- runs

  begins_keyed : HasLowKeys (world.begins script)
  unfolding world.open_from world.begins
  begins_keyed = let fits = fits_opened script [] (world.begins script) refl in let o = fits.1 in let Z : ℕ → ℕ = λ x. 0 in (
    Z,
    λ x. omega arith,
    record {
      links = each_up (LinkTells fits.0 []) (LinkTells Z []) (λ l j. (none_up fits.0 Z l.from l.to l.log j.0, none_up fits.0 Z l.from l.to l.notes j.1)) (world.links_from script.vats zero script.vats) o.links;
      vats = λ v s e. let r = o.vats v s e in (r.0, each_up (IsProvided fits.0 []) (IsProvided Z []) (λ g j. absurd j.0) s.gifts r.1);
      hidden = λ i amiss a. absurd a;
    },
  )

  module _ (once : KnowsOnce script) where
    pub opened_keyed : (ps rest : List Program) (w : World) → script.vats ≡ ps ++ rest → world.open_from script zero ps (world.begins script) ≡ Going w → HasLowKeys w
    opened_keyed = opened_hold script (Past script) (opened_past script once) (stepped_past script once) (λ w p. stands_of script w p.0) HasLowKeys keyed_on begins_keyed

    pub stepped_keyed : (w x : World) (es : List Entry) (k : ℕ) → world.open_from script zero script.vats (world.begins script) ≡ Going w → world.steps_from script es k w ≡ Going x → HasLowKeys x
    stepped_keyed = stepped_hold script (Past script) (opened_past script once) (stepped_past script once) (λ w p. stands_of script w p.0) HasLowKeys keyed_on begins_keyed
