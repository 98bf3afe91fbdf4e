-- In every world of a run what stands on links is the receiver's own, and in the middle of a step all is tidy where the vat is.
use Rattle.std.proofs.Common.{◌≡◌, ℕ, zero, suc, Bool, true, false, List, [], ◌∷◌, ◌++◌, Option, Some, None, length, refl, sym, ap, subst, ◌∙◌, ◌⊎◌, inl, inr}
use Rattle.std.specs.Prelude.{slice_get, ◌&&◌}
use Rattle.def_machine.specs.Values.{Ref, Name, Object, Sent, Naming, naming, host_of}
use Rattle.def_machine.specs.State.{Known, Unsettled, Note, Deliver, Open, Elsewhere, Shorten, Put, Vat, begun}
use Rattle.def_machine.specs.Refs as refs
use Rattle.def_machine.specs.Refs.{entry_of, follow_at}
use Rattle.def_run.specs.World as world
use Rattle.def_run.specs.World.{Script, Entry, Link, World, Goes, begins, open_from, steps_from, names, readied}
use Rattle.law_machine.proofs.Machine.StepLaws.{settled_entry}
use Rattle.law_fate.specs.Name.Names.{AllOf, IsEventual, IsMade, WasMade, NoteOk}
use Rattle.law_fate.specs.Name.Runs.{KnowsOnce}
use Rattle.law_fate.proofs.Name.Laws.{notes_made}
use Rattle.law_reference.specs.Reference.Notes.{LinkFits, IsBetween}
use Rattle.law_reference.proofs.Reference.Follow.{put_cases}
use Rattle.law_reference.proofs.Reference.NotesRuns.{notes_name_ends}
use Rattle.law_reference.proofs.Reference.VatStep.{with_link_all}
use Rattle.law_order.specs.Ordering.Places.{amid}
use Rattle.law_order.specs.Ordering.Worlds.{IsObject, FollowsEnd}
use Rattle.law_order.proofs.Ordering.Coming.{new_entry, old_entry, followed}
use Rattle.law_order.proofs.Ordering.Entries.{reference_is}
use Rattle.law_order.proofs.Ordering.Sends.{some_same, none_some}
use Rattle.law_order.specs.Arrivals.Tellings.{IsNoteFor, AreNotesFor, LinksBring, HostsAreTold, IsOwnEnd, OwnNamesEnd, IsTidy}
use Rattle.law_order.proofs.Runs.Beginnings.{vats_are_ready, hosts_are_of_names}
use Rattle.law_order.proofs.Runs.ToldRuns.{NoteTrue}
use Rattle.law_order.proofs.Asks.Wanting.{Asked}
use Rattle.law_order.proofs.Asks.Wishes.{IsTrue, stepped_true}

-- ---- what links bring

eventual_of : (vats : List (Vat Name)) (ds : List ℕ) (n : Name) → (IsObject n → ⊥) → WasMade vats ds n → IsEventual n
eventual_of vats ds (Object u i) f m = absurd (f tt)
eventual_of vats ds (Sent m) f made = absurd made
eventual_of vats ds other f m = tt

module _ (script : Script) (x : World) (objects : (u : ℕ) (r : Vat Name) → slice_get x.vats u ≡ Some r → (n : Name) → IsObject n → entry_of (names script u) r.known n ≡ None) where
  told_plain : (u : ℕ) (n : Name) (c : ℕ) → NoteTrue script x.vats u (Elsewhere n c) → IsObject n → ⊥
  unfolding refs.standing_of
  told_plain u n c h i = let t : Vat Name = h.0 in let k = settled_entry (entry_of (names script u) t.known n) h.2.0 h.2.1 in none_some k.0 (sym (objects u t h.1 n i) ∙ k.1)

  brings_one : (a b : ℕ) (n : Note Name) → (a ≡ b → ⊥) → IsBetween a b n → NoteOk (IsMade x.vats x.drawn) n → Asked (IsTrue script x.vats) a b n → IsNoteFor b n
  brings_one a b (Deliver m n verb ys) f g h i = g
  brings_one a b (Open j n) f g h i = g
  brings_one a b (Shorten n c j) f g h (inl e) = absurd (f e)
  brings_one a b (Shorten n c j) f g h (inr t) = g (eventual_of x.vats x.drawn n (told_plain b n c t) h.0)
  brings_one a b other f g h i = tt

  brings_all : (a b : ℕ) (ns : List (Note Name)) → (a ≡ b → ⊥) → AllOf (IsBetween a b) ns → AllOf (NoteOk (IsMade x.vats x.drawn)) ns → AllOf (Asked (IsTrue script x.vats) a b) ns → AreNotesFor b ns
  brings_all a b [] f g h i = tt
  brings_all a b (n ∷ ns) f g h i = (brings_one a b n f g.0 h.0 i.0, brings_all a b ns f g.1 h.1 i.1)

  links_bring : (honest : ℕ → Bool) (ls : List Link) → AllOf LinkFits ls → AllOf (λ (l : Link). AllOf (NoteOk (IsMade x.vats x.drawn)) l.notes) ls → AllOf (λ (l : Link). (l.from ≡ l.to → ⊥) × AllOf (Asked (IsTrue script x.vats) l.from l.to) l.notes) ls → LinksBring honest ls
  links_bring honest [] g h i = tt
  links_bring honest (l ∷ ls) g h i = ((λ e. brings_all l.from l.to l.notes i.0.0 g.0.1 h.0 i.0.1), links_bring honest ls g.1 h.1 i.1)

-- ---- notes that are put

module _ (honest : ℕ → Bool) where
  abbrev Brings : Link → Type 0
  Brings l = (honest l.from && honest l.to) ≡ true → AreNotesFor l.to l.notes

  each_brings : (ls : List Link) → LinksBring honest ls → AllOf Brings ls
  each_brings [] h = tt
  each_brings (l ∷ ls) h = (h.0, each_brings ls h.1)

  all_bring : (ls : List Link) → AllOf Brings ls → LinksBring honest ls
  all_bring [] h = tt
  all_bring (l ∷ ls) h = (h.0, all_bring ls h.1)

  notes_end : (b : ℕ) (n : Note Name) (ns : List (Note Name)) → IsNoteFor b n → AreNotesFor b ns → AreNotesFor b (ns ++ n ∷ [])
  notes_end b n [] h g = (h, tt)
  notes_end b n (m ∷ ns) h g = (g.0, notes_end b n ns h g.1)

  pushed_if : (n : Note Name) (l : Link) (c : Bool) → IsNoteFor l.to n → Brings l → Brings (elim c [ true ↦ record l { log = l.log ++ n ∷ [] } | false ↦ record l { notes = l.notes ++ n ∷ []; log = l.log ++ n ∷ [] } ])
  pushed_if n l true h g = g
  pushed_if n l false h g = λ e. notes_end l.to n l.notes h (g e)

  pushed_brings : (n : Note Name) (l : Link) → IsNoteFor l.to n → Brings l → Brings (world.pushed n l)
  unfolding world.pushed
  pushed_brings n l h g = pushed_if n l l.cut h g

  -- what is put is its receiver's own
  abbrev pub PutsFor : List (Put Name) → Type 0
  PutsFor ps = AllOf (λ (p : Put Name). IsNoteFor p.to p.note) ps

  put_brings : (v : ℕ) (ps : List (Put Name)) (ls : List Link) → PutsFor ps → AllOf Brings ls → AllOf Brings (world.push_all v ps ls)
  unfolding world.push_all
  put_brings v [] ls g h = h
  put_brings v (p ∷ ps) ls g h = put_brings v ps (world.with_link (world.pushed p.note) v p.to ls) g.1 (with_link_all Brings (world.pushed p.note) v p.to ls (λ l e f k. pushed_brings p.note l (subst (λ z. IsNoteFor z p.note) (sym f) g.0) k) h)

  pub puts_bring : (v : ℕ) (ps : List (Put Name)) (ls : List Link) → PutsFor ps → LinksBring honest ls → LinksBring honest (world.push_all v ps ls)
  puts_bring v ps ls g h = all_bring (world.push_all v ps ls) (put_brings v ps ls g (each_brings ls h))

-- ---- where own names end

module _ (script : Script) (honest : ℕ → Bool) (v : ℕ) (s : Vat Name) (n : Name) (ends : FollowsEnd (names script v) s) (plain : IsObject n → ⊥) (unknown : entry_of (names script v) s.known n ≡ None) where
  abbrev K : Naming Name Name
  K = names script v

  abbrev Came : Vat Name
  Came = record s { known = s.known ++ begun n (host_of n) ∷ [] }

  -- what comes to be known is followed to itself, and all else to where it was
  fresh_if : (m : Name) (k : Known Name) (c : Bool) → elim c [ true ↦ Some (begun n (host_of n)) | false ↦ None ] ≡ Some k → k.standing ≡ Unsettled
  unfolding begun
  fresh_if m k true f = ap (λ (j : Known Name). j.standing) (sym (some_same (begun n (host_of n)) k f))
  fresh_if m k false f = none_some k f

  fresh : (m : Name) (k : Known Name) → entry_of K (begun n (host_of n) ∷ []) m ≡ Some k → k.standing ≡ Unsettled
  unfolding entry_of begun
  fresh m k e = fresh_if m k (K.same n m) e

  stays_there : (m : Name) (k : Known Name) → entry_of K Came.known m ≡ Some k → k.standing ≡ Unsettled → follow_at K (suc (length Came.known)) Came.known (Ref m) ≡ Ref m
  unfolding follow_at refs.led refs.standing_of refs.standing_in
  stays_there m k e f = ap (λ q. refs.led K (λ y. follow_at K (length Came.known) Came.known y) m q) (ap (λ o. refs.standing_in o) e ∙ f)

  pub own_came : OwnNamesEnd K v s → OwnNamesEnd K v Came
  own_came own m k e h = go (entry_of K s.known m) refl
    where
      go : (o : Option (Known Name)) → entry_of K s.known m ≡ o → IsOwnEnd v (follow_at K (suc (length Came.known)) Came.known (Ref m))
      go (Some j) f = subst (IsOwnEnd v) (sym (followed script honest v s n ends plain m (ends.fixed m (j, f)))) (own m j f h)
      go None f = subst (IsOwnEnd v) (sym (stays_there m k e (fresh m k (sym (new_entry K s.known (begun n (host_of n)) m f) ∙ e)))) (inr h)

  host_if : (m : Name) (k : Known Name) (c : Bool) → K.same n m ≡ c → elim c [ true ↦ Some (begun n (host_of n)) | false ↦ None ] ≡ Some k → k.host ≡ host_of m
  unfolding begun names naming
  host_if m k true i f = ap (λ (j : Known Name). j.host) (sym (some_same (begun n (host_of n)) k f)) ∙ ap host_of (reference_is n m i)
  host_if m k false i f = none_some k f

  host_fresh : (m : Name) (k : Known Name) → entry_of K (begun n (host_of n) ∷ []) m ≡ Some k → k.host ≡ host_of m
  unfolding entry_of begun
  host_fresh m k f = host_if m k (K.same n m) refl f

  pub hosts_came : HostsAreTold K s → HostsAreTold K Came
  hosts_came hosts m k e = go (entry_of K s.known m) refl
    where
      go : (o : Option (Known Name)) → entry_of K s.known m ≡ o → k.host ≡ host_of m
      go (Some j) f = hosts m k (f ∙ ap Some (some_same j k (sym (old_entry K s.known (begun n (host_of n)) j m f) ∙ e)))
      go None f = host_fresh m k (sym (new_entry K s.known (begun n (host_of n)) m f) ∙ e)

-- ---- a vat in the middle of a step

module _ (script : Script) (once : KnowsOnce script) (w x : World) (es : List Entry) (k : ℕ) (o : open_from script zero script.vats (begins script) ≡ Goes w) (e : steps_from script es k w ≡ Goes x) (honest : ℕ → Bool) where
  ready : (u : ℕ) (r : Vat Name) → slice_get x.vats u ≡ Some r → FollowsEnd (names script u) r
  unfolding readied
  ready u r there = let f = ((vats_are_ready script once).1 w x es k o e honest u r r.queue there).ends in record { objects = f.objects; fixed = f.fixed }

  pub objects_unknown : (u : ℕ) (r : Vat Name) → slice_get x.vats u ≡ Some r → (n : Name) → IsObject n → entry_of (names script u) r.known n ≡ None
  objects_unknown u r there = (ready u r there).objects

  pub hosts_told : (u : ℕ) (r : Vat Name) → slice_get x.vats u ≡ Some r → HostsAreTold (names script u) r
  hosts_told u r there n j f = (hosts_are_of_names script once).1 w x es k o e u r n j there f

  pub bring : LinksBring honest x.links
  bring = links_bring script x objects_unknown honest x.links ((notes_name_ends script once).1 w x es k o e) ((notes_made script once).1 w x es k o e) (stepped_true script once w x es k o e)

  -- all is tidy where the vat is, and puts what is its receivers' own
  module _ (v : ℕ) (s : Vat Name) (hosts : HostsAreTold (names script v) s) (objects : (n : Name) → IsObject n → entry_of (names script v) s.known n ≡ None) (own : OwnNamesEnd (names script v) v s) (puts : AllOf (λ (p : Put Name). IsNoteFor p.to p.note) s.outbox) where
    each_vat : (P : ℕ → Vat Name → Type 0) → ((u : ℕ) (r : Vat Name) → slice_get x.vats u ≡ Some r → P u r) → P v s → (u : ℕ) (r : Vat Name) → slice_get (world.put_at v s x.vats) u ≡ Some r → P u r
    each_vat P all mine u r f = go (put_cases v s x.vats u r f)
      where
        go : ((u ≡ v) × (s ≡ r)) ⊎ ((u ≡ v → ⊥) × (slice_get x.vats u ≡ Some r)) → P u r
        go (inl i) = subst (λ z. P z r) (sym i.0) (subst (P v) i.1 mine)
        go (inr i) = all u r i.1

    pub tidy : IsTidy script honest x v s
    unfolding amid
    tidy = record {
      hosts = each_vat (λ u r. HostsAreTold (names script u) r) hosts_told hosts;
      objects = each_vat (λ u r. (n : Name) → IsObject n → entry_of (names script u) r.known n ≡ None) objects_unknown objects;
      links = puts_bring honest v s.outbox x.links puts bring;
      own = own;
    }
