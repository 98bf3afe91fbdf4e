-- In every run a note by which the provider of a gift is asked to open it tells truly: its name settled at the provider, to an object of the gift's host.
use Rattle.std.proofs.Common.{◌≡◌, ℕ, zero, suc, Bool, true, false, List, [], ◌∷◌, ◌++◌, Option, Some, None, refl, sym, ap, subst, ◌∙◌, ◌⊎◌, inl, inr, arith, eq-eqb}
use Rattle.std.specs.Prelude.{slice_get, ◌==◌}
use Rattle.def_machine.specs.Values.{Name, Naming, naming, name_of, host_of, word_of}
use Rattle.def_machine.specs.State.{Known, Note, Deliver, Open, Ask, SettledTo, Elsewhere, Shorten, Put, Vat, Done, Gives, begun, is_in, come, give}
use Rattle.def_machine.specs.Refs as refs
use Rattle.def_machine.specs.Arrive as arrive
use Rattle.def_machine.specs.Arrive.{Old, New}
use Rattle.def_run.specs.Draws.{draw_word}
use Rattle.def_run.specs.World as world
use Rattle.def_run.specs.World.{Script, Program, Entry, Link, World, Goes, names, names_of, read_note, readied}
use Rattle.law_machine.specs.Machine.Steps.{Step, Opens, Takes, Receives, Notices, does, After}
use Rattle.law_machine.proofs.Run.Honest.{honest_reached}
use Rattle.law_fate.specs.Name.Names.{AllOf, IsAmong}
use Rattle.law_fate.specs.Name.Runs.{KnowsOnce}
use Rattle.law_fate.proofs.Name.Facts.{all_map, all_end}
use Rattle.law_fate.proofs.Name.Among.{all_among}
use Rattle.law_fate.proofs.Name.Laws.{names_apart}
use Rattle.law_fate.specs.Fates.Wellness.{WorldWell}
use Rattle.law_fate.proofs.Fates.RunWell.{runs_stay_well}
use Rattle.law_fate.specs.Fates.Lasting.{Each}
use Rattle.law_reference.specs.Reference.Notes.{LinkFits, IsBetween}
use Rattle.law_reference.specs.Reference.GiftPassing.{Provides}
use Rattle.law_reference.proofs.Reference.AskHolds.{opened_past, stepped_past}
use Rattle.law_reference.proofs.Reference.AskRuns.{Past}
use Rattle.law_reference.proofs.Reference.ArrivePuts.{fair_arrive, fair_notice, news_of_gone}
use Rattle.law_reference.proofs.Reference.GiftLinks.{found_tells}
use Rattle.law_reference.proofs.Reference.LegRuns.{stands_of}
use Rattle.law_reference.proofs.Reference.Moves.{Moved, Still, Severs, Drops, Steps, Arrives, IsAlone, Does, opened_hold, stepped_hold}
use Rattle.law_reference.proofs.Reference.NotesRuns.{notes_name_ends}
use Rattle.law_reference.proofs.Reference.Puts.{Fair, provides_up, among_in}
use Rattle.law_reference.proofs.Reference.StepsPuts.{later, later_new, later_up, fair_taking, fair_opening}
use Rattle.law_reference.proofs.Reference.VatStep.{with_link_all, link_all, link_found}
use Rattle.law_order.proofs.Ordering.Coming.{new_entry, old_entry}
use Rattle.law_order.specs.Cuts.Letting.{once}
use Rattle.law_order.proofs.Cuts.Counts.{letting_put}
use Rattle.law_order.proofs.Cuts.Puts.{Pays, drawn_of, drawn_most, pays_walked}
use Rattle.law_order.proofs.Cuts.Walk.{walked_arrive}
use Rattle.law_order.proofs.Runs.Beginnings.{reached_is, hosts_are_of_names}
use Rattle.law_order.proofs.Runs.ToldRuns.{NoteTrue, Holds, reached_holds, note_on, steps_tell, note_in, elsewhere_in}
use Rattle.law_order.proofs.Runs.Truths.{Lasts, Tells}
use Rattle.law_order.specs.Asks.Shortens.{ShortensAreTrue}
use Rattle.law_order.proofs.Asks.Wanting.{Asked, AllAsked, NewWords, all_asked, news_after, wish_after}

abbrev Anyone : Name → Vat Name → Type 0
Anyone p s = Unit {0}

gives_after : (R : Vat Name → Vat Name → Type 0) (s t : Vat Name) (d : Done Name (Unit {0})) → d ≡ Gives tt t → After R s d → R s t
gives_after R s t d e h = subst (After R s) e h

module _ (script : Script) where
  -- its name settled at w, to an object of that vat
  abbrev pub IsTrue : List (Vat Name) → ℕ → Note Name → Type 0
  IsTrue vats w (Shorten n c i) = NoteTrue script vats w (Elsewhere n c)
  IsTrue vats w other = Unit {0}

  -- and no link leads from a vat to itself
  abbrev LinkTrue : List (Vat Name) → Link → Type 0
  LinkTrue vats l = (l.from ≡ l.to → ⊥) × AllOf (Asked (IsTrue vats) l.from l.to) l.notes

  abbrev pub WishesAreTrue : World → Type 0
  WishesAreTrue w = AllOf (LinkTrue w.vats) w.links

  -- what stands of every world of a run
  record Had (w : World) : Type 0 where
    past : Past script w
    told : Holds script w
    between : AllOf LinkFits w.links
    hosts : (v : ℕ) (s : Vat Name) (n : Name) (k : Known Name) → slice_get w.vats v ≡ Some s → refs.entry_of (names script v) s.known n ≡ Some k → k.host ≡ host_of n

  -- ---- links

  severed : (vats : List (Vat Name)) (a b : ℕ) (ls : List Link) → AllOf (LinkTrue vats) ls → AllOf (LinkTrue vats) (world.with_link world.severed_link a b ls)
  unfolding world.severed_link
  severed vats a b ls h = with_link_all (LinkTrue vats) world.severed_link a b ls (λ l e f i. (i.0, tt)) h

  taken : (vats : List (Vat Name)) (a b : ℕ) (ls : List Link) (l : Link) (m : Note Name) (ns : List (Note Name)) → world.link_at a b ls ≡ Some l → l.notes ≡ m ∷ ns → AllOf (LinkTrue vats) ls → AllOf (LinkTrue vats) (world.with_link (world.with_notes ns) a b ls)
  unfolding world.with_notes
  taken vats a b ls l m ns e f h =
      let ends = link_found a b ls l e in
      let all : AllOf (Asked (IsTrue vats) l.from l.to) (m ∷ ns) = subst (λ ms. AllOf (Asked (IsTrue vats) l.from l.to) ms) f (link_all (LinkTrue vats) a b ls l h e).1 in
      let rest : AllOf (Asked (IsTrue vats) a b) ns = subst (λ x. AllOf (Asked (IsTrue vats) x b) ns) ends.0 (subst (λ x. AllOf (Asked (IsTrue vats) l.from x) ns) ends.1 all.1) in
      with_link_all (LinkTrue vats) (world.with_notes ns) a b ls (λ j g i k. (k.0, subst (λ x. AllOf (Asked (IsTrue vats) x j.to) ns) (sym g) (subst (λ x. AllOf (Asked (IsTrue vats) a x) ns) (sym i) rest))) h

  pushed_if : (vats : List (Vat Name)) (m : Note Name) (l : Link) (b : Bool) → Asked (IsTrue vats) l.from l.to m → LinkTrue vats l → LinkTrue vats (elim b [ true ↦ record l { log = l.log ++ m ∷ [] } | false ↦ record l { notes = l.notes ++ m ∷ []; log = l.log ++ m ∷ [] } ])
  pushed_if vats m l true h i = i
  pushed_if vats m l false h i = (i.0, all_end (Asked (IsTrue vats) l.from l.to) l.notes m i.1 h)

  pushed_true : (vats : List (Vat Name)) (m : Note Name) (l : Link) → Asked (IsTrue vats) l.from l.to m → LinkTrue vats l → LinkTrue vats (world.pushed m l)
  unfolding world.pushed
  pushed_true vats m l h i = pushed_if vats m l l.cut h i

  pushes_true : (vats : List (Vat Name)) (v : ℕ) (ps : List (Put Name)) (ls : List Link) → AllAsked (IsTrue vats) v ps → AllOf (LinkTrue vats) ls → AllOf (LinkTrue vats) (world.push_all v ps ls)
  unfolding world.push_all
  pushes_true vats v [] ls h i = i
  pushes_true vats v (p ∷ ps) ls h i = pushes_true vats v ps (world.with_link (world.pushed p.note) v p.to ls) h.1
      (with_link_all (LinkTrue vats) (world.pushed p.note) v p.to ls (λ l e f k. pushed_true vats p.note l (subst (λ x. Asked (IsTrue vats) x l.to p.note) (sym e) (subst (λ x. Asked (IsTrue vats) v x p.note) (sym f) h.0)) k) i)

  -- ---- a vat goes on

  module _ (w : World) (v : ℕ) (s q t : Vat Name) (what : Step Name Name) (d : Does script w v s q t what) where
    abbrev Vats : List (Vat Name)
    Vats = world.put_at v t w.vats

    lasts : Lasts script v s t
    unfolding readied
    lasts = let h = (gives_after (Tells script v) (readied w q) t (does (names script v) what (readied w q)) d.gives (steps_tell script v what (readied w q))).lasts in record {
      stays = λ n k y f i. h.stays n k y (ap (λ ks. refs.entry_of (names script v) ks n) d.known ∙ f) i;
      known = λ n f. sym (ap (λ ks. refs.entry_of (names script v) ks n) d.known) ∙ h.known n f;
    }

    asked_on : (u x : ℕ) (m : Note Name) → Asked (IsTrue w.vats) u x m → Asked (IsTrue Vats) u x m
    asked_on u x (Shorten n c i) (inl e) = inl e
    asked_on u x (Shorten n c i) (inr h) = inr (note_on script w.vats v s t d.there lasts x (Elsewhere n c) h)
    asked_on u x other h = tt

    stepped : (ls : List Link) → AllAsked (IsTrue Vats) v t.outbox → AllOf (LinkTrue w.vats) ls → AllOf (LinkTrue Vats) (world.push_all v t.outbox ls)
    stepped ls out h = pushes_true Vats v t.outbox ls out (all_map (λ l i. (i.0, all_map (λ m j. asked_on l.from l.to m j) l.notes i.1)) ls h)

    module _ (had : Had w) where
      number : (readied w q).number ≡ v
      unfolding readied
      number = let fits = had.past.2 in let o = fits.1 in d.number ∙ (o.vats v s d.there).0

      -- what it puts by words that are its own
      out_by : (F : ℕ → ℕ) (ds : List ℕ) → ((x : ℕ) → (IsAmong x ds → ⊥) → F x ≡ v) → NewWords (IsTrue Vats) v ds t.outbox → Fair v w.drawn F (readied w q) t → AllAsked (IsTrue Vats) v t.outbox
      unfolding readied
      out_by F ds fresh words f = all_asked (IsTrue Vats) v F ds t.drawn t.outbox fresh words (f.puts.outs number (λ x a. a) tt)

      none_before : NewWords (IsTrue Vats) v [] t.outbox
      none_before i l a = a

      out_own : Fair v w.drawn (λ j. v) (readied w q) t → AllAsked (IsTrue Vats) v t.outbox
      out_own f = out_by (λ j. v) [] (λ x g. refl) none_before f

  alone_out : (w : World) (v : ℕ) (s q t : Vat Name) (what : Step Name Name) (d : Does script w v s q t what) → Had w → IsAlone what → AllAsked (IsTrue (world.put_at v t w.vats)) v t.outbox
  unfolding does names
  alone_out w v s q t (Opens tree depth root given) d had o = out_own w v s q t (Opens tree depth root given) d had (gives_after (Fair v w.drawn (λ j. v)) (readied w q) t _ d.gives ((fair_opening v w.drawn (λ j. v) (λ j l. refl) (draw_word script.key) tree depth root given).after (readied w q)))
  alone_out w v s q t (Takes tree depth m) d had o = out_own w v s q t (Takes tree depth m) d had (gives_after (Fair v w.drawn (λ j. v)) (readied w q) t _ d.gives ((fair_taking v w.drawn (λ j. v) (λ j l. refl) (draw_word script.key) tree depth m).after (readied w q)))
  alone_out w v s q t (Receives from n) d had o = absurd o
  alone_out w v s q t (Notices u) d had o = out_own w v s q t (Notices u) d had (gives_after (Fair v w.drawn (λ j. v)) (readied w q) t _ d.gives ((fair_notice v w.drawn (λ j. v) (λ j l. refl) (draw_word script.key) u).after (readied w q)))

  -- ---- a note arrives

  module _ (w : World) (a v : ℕ) (s t : Vat Name) (m : Note Name) (ns : List (Note Name)) (l : Link) (had : Had w) (at : world.link_at a v w.links ≡ Some l) (notes : l.notes ≡ m ∷ ns) (d : Does script w v s s t (Receives a (read_note (names_of s) m))) where
    abbrev K : Naming Name Name
    K = names script v

    abbrev Then : List (Vat Name)
    Then = world.put_at v t w.vats

    abbrev Got : Step Name Name
    Got = Receives a (read_note (names_of s) m)

    abbrev P : ℕ → ℕ
    P = had.past.2.0

    provides : Provides P w.drawn a v m
    provides = let fits = had.past.2 in let o = fits.1 in (subst (λ ks. Each (Provides P w.drawn a v) ks) notes (found_tells P w.drawn a v l w.links o.links at)).0

    arrived : (R : Vat Name → Vat Name → Type 0) → After R (readied w s) (arrive.arrive K a (read_note (names_of s) m) (readied w s)) → R (readied w s) t
    unfolding does
    arrived R h = gives_after R (readied w s) t _ d.gives h

    -- where it lets each gift go with a draw, the words are new
    new_words : ((i : ℕ) → After (Pays i 0) (readied w s) (arrive.arrive K a (read_note (names_of s) m) (readied w s))) → NewWords (IsTrue Then) v w.drawn t.outbox
    unfolding readied letting_put drawn_of once
    new_words h i l among =
        let count = (arrived (Pays i 0) (h i)).count in
        let one : drawn_of i w.drawn ≡ 1 = ap once (among_in (word_of i) w.drawn among) in let most = drawn_most i t.drawn in absurd (omega arith)

    abbrev F : ℕ → ℕ
    F = later P w.drawn v

    told : Provides F w.drawn a v m
    told = provides_up P F w.drawn w.drawn (later_up P w.drawn v w.drawn (λ x b. b)) a v m provides

    plain : ((i : ℕ) → After (Pays i 0) (readied w s) (arrive.arrive K a (read_note (names_of s) m) (readied w s))) → After (Fair v w.drawn F) (readied w s) (arrive.arrive K a (read_note (names_of s) m) (readied w s)) → AllAsked (IsTrue Then) v t.outbox
    plain h f = out_by w v s s t Got d had F w.drawn (later_new P w.drawn v) (new_words h) (arrived (Fair v w.drawn F) f)

    -- ---- of a name that settled elsewhere

    module _ (n : Name) (c : ℕ) (is : m ≡ Elsewhere n c) where
      sender : host_of n ≡ a
      sender = let fits = (link_all LinkFits a v w.links l had.between at).1 in
          let one : IsBetween l.from l.to m = (subst (λ ks. AllOf (IsBetween l.from l.to) ks) notes fits).0 in
          subst (λ z. IsBetween l.from l.to z) is one ∙ (link_found a v w.links l at).0

      true_there : NoteTrue script w.vats a (Elsewhere n c)
      true_there = subst (λ z. NoteTrue script w.vats a z) is (note_in script w a v l m had.told at (subst (λ ks. IsAmong m ks) (sym notes) (inl refl)))

      true_then : NoteTrue script Then a (Elsewhere n c)
      true_then = note_on script w.vats v s t d.there (lasts w v s s t Got d) a (Elsewhere n c) true_there

      -- the host that is known is the sender, or it is the vat itself
      host_asked : (i g : ℕ) → (v ≡ g) ⊎ (g ≡ host_of n) → Asked (IsTrue Then) v g (Shorten n c i)
      host_asked i g (inl e) = inl e
      host_asked i g (inr e) = inr (subst (λ z. NoteTrue script Then z (Elsewhere n c)) (sym (e ∙ sender)) true_then)

      own : (readied w s).number ≡ v
      own = number w v s s t Got d had

      known_host : (o : Option (Known Name)) → refs.entry_of K s.known n ≡ o → (v ≡ refs.host_in (readied w s).number o) ⊎ (refs.host_in (readied w s).number o ≡ host_of n)
      unfolding refs.host_in
      known_host None e = inl (sym own)
      known_host (Some k) e = inr (had.hosts v s n k d.there e)

      begun_host : (x : Bool) → K.same n n ≡ x → (v ≡ refs.host_in (readied w s).number (refs.entry_of K (begun n (host_of n) ∷ []) n)) ⊎ (refs.host_in (readied w s).number (refs.entry_of K (begun n (host_of n) ∷ []) n) ≡ host_of n)
      unfolding refs.host_in refs.entry_of begun
      begun_host true e = inr (ap (λ b. refs.host_in (readied w s).number (elim b [ true ↦ Some (begun n (host_of n)) | false ↦ None ])) e)
      begun_host false e = inl (sym own ∙ sym (ap (λ b. refs.host_in (readied w s).number (elim b [ true ↦ Some (begun n (host_of n)) | false ↦ None ])) e))

      new_host : (o : Option (Known Name)) → refs.entry_of K s.known n ≡ o → let e = refs.entry_of K (s.known ++ begun n (host_of n) ∷ []) n in (v ≡ refs.host_in (readied w s).number e) ⊎ (refs.host_in (readied w s).number e ≡ host_of n)
      new_host None e = subst (λ z. (v ≡ refs.host_in (readied w s).number z) ⊎ (refs.host_in (readied w s).number z ≡ host_of n)) (sym (new_entry K s.known (begun n (host_of n)) n e)) (begun_host (K.same n n) refl)
      new_host (Some k) e = subst (λ z. (v ≡ refs.host_in (readied w s).number z) ⊎ (refs.host_in (readied w s).number z ≡ host_of n)) (sym (old_entry K s.known (begun n (host_of n)) k n e)) (subst (λ z. (v ≡ refs.host_in (readied w s).number z) ⊎ (refs.host_in (readied w s).number z ≡ host_of n)) e (known_host (refs.entry_of K s.known n) refl))

      given_is : (x y : Name) (q r : Vat Name) → Gives x q ≡ Gives y r → (x ≡ y) × (q ≡ r)
      given_is x y q r e = (cc, cc)

      learnt_host : (b : Bool) (x : Name) (r : Vat Name) → arrive.learn_name K (elim b [ true ↦ Old n | false ↦ New n (host_of n) ]) (readied w s) ≡ Gives x r → (i : ℕ) → Asked (IsTrue Then) v (refs.host_at K r.number r.known x) (Shorten x c i)
      unfolding readied refs.host_at arrive.learn_name give come names naming name_of
      learnt_host true x r e i = let g = given_is n x (readied w s) r e in subst (λ y. Asked (IsTrue Then) v (refs.host_at K r.number r.known y) (Shorten y c i)) g.0
          (subst (λ (z : Vat Name). Asked (IsTrue Then) v (refs.host_at K z.number z.known n) (Shorten n c i)) g.1 (host_asked i (refs.host_at K (readied w s).number s.known n) (known_host (refs.entry_of K s.known n) refl)))
      learnt_host false x r e i = let q : Vat Name = record (readied w s) { known = s.known ++ begun n (host_of n) ∷ [] } in let g = given_is n x q r e in subst (λ y. Asked (IsTrue Then) v (refs.host_at K r.number r.known y) (Shorten y c i)) g.0
          (subst (λ (z : Vat Name). Asked (IsTrue Then) v (refs.host_at K z.number z.known n) (Shorten n c i)) g.1 (host_asked i (refs.host_at K (readied w s).number (s.known ++ begun n (host_of n) ∷ []) n) (new_host (refs.entry_of K s.known n) refl)))

  note_out : (w : World) (a v : ℕ) (s t : Vat Name) (m : Note Name) (ns : List (Note Name)) (l : Link) (had : Had w) (at : world.link_at a v w.links ≡ Some l) (notes : l.notes ≡ m ∷ ns) (d : Does script w v s s t (Receives a (read_note (names_of s) m))) → AllAsked (IsTrue (world.put_at v t w.vats)) v t.outbox
  unfolding arrive.arrive read_note names readied world.read_name
  note_out w a v s t (Deliver x y verb ys) ns l had at notes d = let m : Note Name = Deliver x y verb ys in plain w a v s t m ns l had at notes d
      (λ i. (walked_arrive (names script v) (Pays i 0) Anyone (pays_walked i (names script v)) a (read_note (names_of s) m) tt).after (readied w s))
      ((fair_arrive v w.drawn (F w a v s t m ns l had at notes d) (later_new (P w a v s t m ns l had at notes d) w.drawn v) (draw_word script.key) a (names_of s) m tt (told w a v s t m ns l had at notes d)).after (readied w s))
  note_out w a v s t (Open j x) ns l had at notes d = let m : Note Name = Open j x in plain w a v s t m ns l had at notes d
      (λ i. (walked_arrive (names script v) (Pays i 0) Anyone (pays_walked i (names script v)) a (read_note (names_of s) m) tt).after (readied w s))
      ((fair_arrive v w.drawn (F w a v s t m ns l had at notes d) (later_new (P w a v s t m ns l had at notes d) w.drawn v) (draw_word script.key) a (names_of s) m tt (told w a v s t m ns l had at notes d)).after (readied w s))
  note_out w a v s t (Ask p j x) ns l had at notes d = let m : Note Name = Ask p j x in plain w a v s t m ns l had at notes d
      (λ i. (walked_arrive (names script v) (Pays i 0) Anyone (pays_walked i (names script v)) a (read_note (names_of s) m) tt).after (readied w s))
      ((fair_arrive v w.drawn (F w a v s t m ns l had at notes d) (later_new (P w a v s t m ns l had at notes d) w.drawn v) (draw_word script.key) a (names_of s) m tt (told w a v s t m ns l had at notes d)).after (readied w s))
  note_out w a v s t (SettledTo x y) ns l had at notes d = let m : Note Name = SettledTo x y in plain w a v s t m ns l had at notes d
      (λ i. (walked_arrive (names script v) (Pays i 0) Anyone (pays_walked i (names script v)) a (read_note (names_of s) m) tt).after (readied w s))
      ((fair_arrive v w.drawn (F w a v s t m ns l had at notes d) (later_new (P w a v s t m ns l had at notes d) w.drawn v) (draw_word script.key) a (names_of s) m tt (told w a v s t m ns l had at notes d)).after (readied w s))
  note_out w a v s t (Shorten n c j) ns l had at notes d = arrived w a v s t (Shorten n c j) ns l had at notes d (λ q r. AllAsked (IsTrue (world.put_at v t w.vats)) v q.outbox → AllAsked (IsTrue (world.put_at v t w.vats)) v r.outbox)
      (wish_after (IsTrue (world.put_at v t w.vats)) v (draw_word script.key) (world.read_name (names_of s) n) j (readied w s)) tt
  note_out w a v s t (Elsewhere n c) ns l had at notes d = go (is_in c s.noticed) refl
    where
      go : (b : Bool) → is_in c s.noticed ≡ b → AllAsked (IsTrue (world.put_at v t w.vats)) v t.outbox
      go true e = out_own w v s s t (Receives a (read_note (names_of s) (Elsewhere n c))) d had (arrived w a v s t (Elsewhere n c) ns l had at notes d (Fair v w.drawn (λ j. v)) (news_of_gone v w.drawn (λ j. v) (λ x f. refl) (draw_word script.key) a (names_of s) n c (readied w s) e))
      go false e = arrived w a v s t (Elsewhere n c) ns l had at notes d (λ q r. AllAsked (IsTrue (world.put_at v t w.vats)) v q.outbox → AllAsked (IsTrue (world.put_at v t w.vats)) v r.outbox)
          (news_after (IsTrue (world.put_at v t w.vats)) v (draw_word script.key) (world.read_name (names_of s) n) c (readied w s) e (λ x r f i. learnt_host w a v s t (Elsewhere n c) ns l had at notes d n c refl (world.is_old (names_of s) n) x r f i)) tt

  -- ---- moves

  moved_true : (w y : World) → Had w → Had y → Moved script w y → WishesAreTrue w → WishesAreTrue y
  moved_true w y p r (Still e f g) h = rw (e, f) h
  moved_true w y p r (Severs a b e f g) h = rw (e, f) (severed w.vats b a (world.with_link world.severed_link a b w.links) (severed w.vats a b w.links h))
  moved_true w y p r (Drops a v m ns l at notes none e f g) h = rw (e, f) (taken w.vats a v w.links l m ns at notes h)
  moved_true w y p r (Steps v s q t what o d e f g first fresh) h = rw (e, f) (stepped w v s q t what d w.links (alone_out w v s q t what d p o) h)
  moved_true w y p r (Arrives a v s t m ns l at cut notes d e f g first fresh) h = rw (e, f) (stepped w v s s t (Receives a (read_note (names_of s) m)) d (world.with_link (world.with_notes ns) a v w.links) (note_out w a v s t m ns l p at notes d) (taken w.vats a v w.links l m ns at notes h))

  -- ---- the start

  links_to_true : (vats : List (Vat Name)) (v h : ℕ) (ps : List Program) → AllOf (LinkTrue vats) (world.links_to v h ps)
  unfolding world.links_to
  links_to_true vats v h [] = tt
  links_to_true vats v h (p ∷ ps) = go (v == h) refl (links_to_true vats v (suc h) ps)
    where
      false_true : false ≡ true → ⊥
      false_true e = cc

      go : (b : Bool) → (v == h) ≡ b → AllOf (LinkTrue vats) (world.links_to v (suc h) ps) → AllOf (LinkTrue vats) (elim b [
        | true ↦ world.links_to v (suc h) ps
        | false ↦ record { from = v; to = h; cut = false; notes = []; roots = world.roots_for v p; log = [] } ∷ world.links_to v (suc h) ps
      ])
      go true e i = i
      go false e i = ((λ f. false_true (sym e ∙ eq-eqb v h f), tt), i)

  all_both : (Q : Link → Type 0) (xs ys : List Link) → AllOf Q xs → AllOf Q ys → AllOf Q (xs ++ ys)
  all_both Q [] ys h i = i
  all_both Q (x ∷ xs) ys h i = (h.0, all_both Q xs ys h.1 i)

  links_from_true : (vats : List (Vat Name)) (all : List Program) (v : ℕ) (ps : List Program) → AllOf (LinkTrue vats) (world.links_from all v ps)
  unfolding world.links_from
  links_from_true vats all v [] = tt
  links_from_true vats all v (p ∷ ps) = all_both (LinkTrue vats) (world.links_to v zero all) (world.links_from all (suc v) ps) (links_to_true vats v zero all) (links_from_true vats all (suc v) ps)

  begins_true : WishesAreTrue (world.begins script)
  unfolding world.begins
  begins_true = links_from_true (world.fresh_from script zero script.vats) script.vats zero script.vats

  -- ---- runs

  module _ (once : KnowsOnce script) where
    opened_had : (ps rest : List Program) (w : World) → script.vats ≡ ps ++ rest → world.open_from script zero ps (world.begins script) ≡ Goes w → Had w
    opened_had ps rest w i e = record {
      past = opened_past script once ps rest w i e;
      told = reached_holds script w ((honest_reached script).0 ps rest w i e);
      between = (notes_name_ends script once).0 ps rest w i e;
      hosts = (hosts_are_of_names script once).0 ps rest w i e;
    }

    stepped_had : (w x : World) (es : List Entry) (k : ℕ) → world.open_from script zero script.vats (world.begins script) ≡ Goes w → world.steps_from script es k w ≡ Goes x → Had x
    stepped_had w x es k o e = record {
      past = stepped_past script once w x es k o e;
      told = reached_holds script x ((honest_reached script).1 w x es k o e);
      between = (notes_name_ends script once).1 w x es k o e;
      hosts = (hosts_are_of_names script once).1 w x es k o e;
    }

    opened_true : (ps rest : List Program) (w : World) → script.vats ≡ ps ++ rest → world.open_from script zero ps (world.begins script) ≡ Goes w → WishesAreTrue w
    opened_true = opened_hold script Had opened_had stepped_had (λ w p. stands_of script w p.past.0) WishesAreTrue moved_true begins_true

    pub stepped_true : (w x : World) (es : List Entry) (k : ℕ) → world.open_from script zero script.vats (world.begins script) ≡ Goes w → world.steps_from script es k w ≡ Goes x → WishesAreTrue x
    stepped_true = stepped_hold script Had opened_had stepped_had (λ w p. stands_of script w p.past.0) WishesAreTrue moved_true begins_true

  -- of a note under way
  true_in : (w : World) (u v : ℕ) (l : Link) (n : Name) (c i : ℕ) → WishesAreTrue w → world.link_at u v w.links ≡ Some l → IsAmong (Shorten n c i) l.notes → NoteTrue script w.vats v (Elsewhere n c)
  true_in w u v l n c i h e a = let fits = link_all (LinkTrue w.vats) u v w.links l h e in subst (λ x. NoteTrue script w.vats x (Elsewhere n c)) (link_found u v w.links l e).1 (told_so (all_among (Asked (IsTrue w.vats) l.from l.to) l.notes (Shorten n c i) fits.1 a))
    where
      told_so : Asked (IsTrue w.vats) l.from l.to (Shorten n c i) → NoteTrue script w.vats l.to (Elsewhere n c)
      told_so (inl same) = absurd ((link_all (LinkTrue w.vats) u v w.links l h e).0 same)
      told_so (inr k) = k

pub shortens_are_true : ShortensAreTrue
shortens_are_true script once = (
  λ ps rest w i e u v l n c j at a. elsewhere_in script w v n c (true_in script w u v l n c j (opened_true script once ps rest w i e) at a)
      (λ s there. ((reached_is WorldWell _ w e ((runs_stay_well script).0 ps)).vats v s there, ((names_apart script once).0 ps rest w i e v s there).0)),
  λ w x es k o e u v l n c j at a. elsewhere_in script x v n c (true_in script x u v l n c j (stepped_true script once w x es k o e) at a)
      (λ s there. ((reached_is WorldWell _ x e ((runs_stay_well script).1 w es k o)).vats v s there, ((names_apart script once).1 w x es k o e v s there).0)),
)
