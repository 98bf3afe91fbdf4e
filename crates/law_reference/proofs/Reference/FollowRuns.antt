-- In every world of a run each note names what its sender knows, and answers follow their messages.
use Rattle.std.proofs.Common.{◌≡◌, ℕ, Bool, zero, suc, List, [], ◌∷◌, ◌++◌, Option, Some, None, refl, sym, ap, ◌∙◌, ◌⊎◌, inl, inr, map, true, subst}
use Rattle.std.specs.Prelude.{slice_get}
use Rattle.def_machine.specs.Values.{Name, Root, Answer, Sent, Msg}
use Rattle.def_machine.specs.State.{Passeds, Note, Deliver, Put, Vat, begun, Done, Gives, Delivery}
use Rattle.def_machine.specs.Arrive as arrive
use Rattle.law_machine.specs.Machine.Steps.{Step, Receives, does, After}
use Rattle.def_run.specs.Draws.{draw_word}
use Rattle.def_run.specs.World as world
use Rattle.def_run.specs.World.{Script, Program, Link, World, Entry, Goes as Going, names, names_of, read_note, readied, put_at, with_link, with_notes, severed_link, link_at}
use Rattle.law_fate.specs.Name.Names.{Bit, Named, At, AllOf, IsAmong, NoteOk, names_in}
use Rattle.law_fate.specs.Name.Runs.{KnowsOnce}
use Rattle.law_fate.proofs.Name.Facts.{MayBe, all_map, note_up}
use Rattle.law_fate.proofs.Name.Run.{Had, Stands}
use Rattle.law_fate.proofs.Name.Among.{get_put}
use Rattle.law_reference.proofs.Reference.Gentle.{AfterGives}
use Rattle.law_reference.proofs.Reference.LinksCut.{fits_notes, fits_severed}
use Rattle.law_reference.proofs.Reference.NotesRuns.{OfNotes, opened_all, stepped_all, links_of}
use Rattle.law_reference.proofs.Reference.NotesLift as lift
use Rattle.law_reference.specs.Reference.Behind.{NamesNot, Bears, ComesFirst, IsKnownTo as KnowsIn, AnswersFollowMessages, NotesNameWhatIsKnown}
use Rattle.law_reference.proofs.Reference.First.{PutsFirst, among_dec}
use Rattle.law_reference.proofs.Reference.AnswerLinks.{AtLink, with_any}
use Rattle.law_reference.proofs.Reference.Moves.{Moved, Still, Severs, Drops, Steps, Arrives, Does, opened_hold, stepped_hold}
use Rattle.law_reference.proofs.Reference.Arrived.{Stays, steps_stay, arrived}
use Rattle.law_reference.proofs.Reference.Follow.{put_cases, eq_dec, AllKnown, NotesKnown, Followed, Follow, goes_known, goes_follow}
use Rattle.law_reference.proofs.Reference.Unnamed.{third_answer, not_named}

-- the state after is the one that is given
pub after_gives : (R : Vat Name → Vat Name → Type 0) (s t : Vat Name) (d : Done Name (Unit {0})) → After R s d → d ≡ Gives tt t → R s t
after_gives R s t d h e = rw e at h

given_is : (P : Vat Name → Type 0) (t : Vat Name) (d : Done Name (Unit {0})) → AfterGives P d → d ≡ Gives tt t → P t
given_is P t d h e = rw e at h

some_link : (l k : Link) → ◌≡◌ {A = Option Link} (Some l) (Some k) → l ≡ k
some_link l k e = cc

-- the same two vats have one link
pub same_link : (a b c d : ℕ) (ls : List Link) (l k : Link) → link_at a b ls ≡ Some l → link_at c d ls ≡ Some k → a ≡ c → b ≡ d → l ≡ k
same_link a b c d ls l k e f i j = let one : link_at c d ls ≡ Some l = rw (i, j) at e in some_link l k (sym one ∙ f)

pub tail_of : (P : Note Name → Type 0) (l k : Link) (n : Note Name) (ns : List (Note Name)) → AllOf P l.notes → l ≡ k → k.notes ≡ n ∷ ns → P n × AllOf P ns
tail_of P l k n ns h e f = let one : AllOf P k.notes = rw e at h in rw f at one

-- a name that is no root is known to no vat at the start
module _ (script : Script) (X : Name) (other : (x : ℕ) → X ≡ Root x → ⊥) where
  no_root : (ws : List ℕ) → IsAmong X (names_in (map world.known_root ws)) → ⊥
  unfolding world.known_root begun
  no_root [] h = h
  no_root (w ∷ ws) (inl e) = other w e
  no_root (w ∷ ws) (inr h) = no_root ws h

  pub not_at_first : (v : ℕ) (ps : List Program) (n : ℕ) (s : Vat Name) → slice_get (world.fresh_from script v ps) n ≡ Some s → IsAmong X (names_in s.known) → ⊥
  unfolding world.fresh_from world.fresh world.known_root begun
  not_at_first v [] n s e a = absurd (nobody e)
    where
      nobody : {r : Vat Name} → ◌≡◌ {A = Option (Vat Name)} None (Some r) → ⊥
      nobody e = cc
  not_at_first v (p ∷ ps) zero s e a = of_one (some_is (world.fresh script v p) s e) a
    where
      some_is : (x y : Vat Name) → ◌≡◌ {A = Option (Vat Name)} (Some x) (Some y) → x ≡ y
      some_is x y e = cc

      here : IsAmong X (names_in (world.fresh script v p).known) → ⊥
      here (inl e) = other v e
      here (inr h) = no_root p.knows h

      of_one : world.fresh script v p ≡ s → IsAmong X (names_in s.known) → ⊥
      of_one e h = here (rw (sym e) at h)
  not_at_first v (p ∷ ps) (suc n) s e a = not_at_first (suc v) ps n s e a

module _ (script : Script) where
  -- how names stand, and what notes name
  abbrev pub Past : World → Type 0
  Past w = Stands script w × AllOf (lift.Fits (OfNotes script)) w.links

  abbrev pub Holds : World → Type 0
  Holds w = NotesKnown w.vats w.links × Follow w.vats w.links

  -- ---- cuts

  cut_known : (vs : List (Vat Name)) (ls : List Link) (c d : ℕ) → NotesKnown vs ls → NotesKnown vs (with_link severed_link c d ls)
  unfolding severed_link
  cut_known vs ls c d h a b s e = with_any a b c d (AllKnown s) severed_link (fits_severed a b) ls (λ l i j k. tt) (λ l i f. h a b s e l i)

  cut_follow : (vs : List (Vat Name)) (ls : List Link) (c d : ℕ) → Follow vs ls → Follow vs (with_link severed_link c d ls)
  unfolding severed_link
  cut_follow vs ls c d h u g m s r e f a = with_any u g c d (Followed g m r) severed_link (fits_severed u g) ls (λ l i j k. inr (inl refl)) (λ l i j. h u g m s r e f a l i)

  -- ---- a note is taken from a link

  module _ (vs : List (Vat Name)) (ls : List Link) (a v : ℕ) (n : Note Name) (ns : List (Note Name)) (l : Link) (at : link_at a v ls ≡ Some l) (notes : l.notes ≡ n ∷ ns) where
    pub taken_known : NotesKnown vs ls → NotesKnown vs (with_link (with_notes ns) a v ls)
    unfolding with_notes
    taken_known h c d s e = with_any c d a v (AllKnown s) (with_notes ns) (fits_notes c d ns) ls
        (λ k i x y. (tail_of (NoteOk (KnowsIn s)) k l n ns (h c d s e k i) (same_link c d a v ls k l i at x y) notes).1) (λ k i f. h c d s e k i)

    -- where there is no such vat
    none_follow : slice_get vs v ≡ None → Follow vs ls → Follow vs (with_link (with_notes ns) a v ls)
    unfolding with_notes
    none_follow none h u g m s r e f k = with_any u g a v (Followed g m r) (with_notes ns) (fits_notes u g ns) ls (λ j i x y. absurd (no_vat (sym none ∙ sym (ap (λ z. slice_get vs z) y) ∙ f))) (λ j i x. h u g m s r e f k j i)
      where
        no_vat : {r : Vat Name} → ◌≡◌ {A = Option (Vat Name)} None (Some r) → ⊥
        no_vat e = cc

    module _ (s t : Vat Name) (there : slice_get vs v ≡ Some s) (grows : (x : Name) → IsAmong x (names_in s.known) → IsAmong x (names_in t.known)) (bears : (m : Msg) → Bears m (Answer v m) n → IsAmong (Answer v m) (names_in t.known)) (h : Follow vs ls) where
      old_follow : (u g : ℕ) (m : Msg) (r q : Vat Name) → slice_get vs u ≡ Some r → slice_get (put_at v t vs) g ≡ Some q → IsAmong (Answer g m) (names_in r.known) → AtLink u g (Followed g m q) ls
      old_follow u g m r q e f k = either (put_cases v t vs g q f)
        where
          grown : t ≡ q → (j : Link) → Followed g m s j → Followed g m q j
          grown x j (inl i) = inl (rw x at (grows (Answer g m) i))
          grown x j (inr i) = inr i

          either : ((g ≡ v) × (t ≡ q)) ⊎ ((g ≡ v → ⊥) × (slice_get vs g ≡ Some q)) → AtLink u g (Followed g m q) ls
          either (inl x) = λ j i. grown x.1 j (h u g m r s e (ap (λ z. slice_get vs z) x.0 ∙ there) k j i)
          either (inr x) = h u g m r q e x.1 k

      some_vat : (x y : Vat Name) → ◌≡◌ {A = Option (Vat Name)} (Some x) (Some y) → x ≡ y
      some_vat x y e = cc

      -- the note arrives: it was no bearer of the message, or the answer is known now
      front : (g : ℕ) (m : Msg) (q : Vat Name) (k : Link) → g ≡ v → t ≡ q → k ≡ l → Followed g m q k → Followed g m q (with_notes ns k)
      unfolding with_notes
      front g m q k x y z (inl i) = inl i
      front g m q k x y z (inr (inl i)) = inr (inl i)
      front g m q k x y z (inr (inr i)) = let one : ComesFirst m (Answer g m) l.notes = rw z at i in let two : ComesFirst m (Answer g m) (n ∷ ns) = rw notes at one in by_note two
        where
          by_note : ComesFirst m (Answer g m) (n ∷ ns) → Followed g m q (record k { notes = ns })
          by_note (inl b) = let c : IsAmong (Answer v m) (names_in t.known) = bears m (rw x at b) in let d : IsAmong (Answer g m) (names_in t.known) = rw (sym x) at c in inl (rw y at d)
          by_note (inr b) = inr (inr b.1)

      pub taken_follow : (u g : ℕ) (m : Msg) (r q : Vat Name) → slice_get vs u ≡ Some r → slice_get (put_at v t vs) g ≡ Some q → IsAmong (Answer g m) (names_in r.known) → AtLink u g (Followed g m q) (with_link (with_notes ns) a v ls)
      taken_follow u g m r q e f k = with_any u g a v (Followed g m q) (with_notes ns) (fits_notes u g ns) ls
          (λ j i x y. front g m q j y (some_vat t q (sym (get_put vs v s t there) ∙ sym (ap (λ z. slice_get (put_at v t vs) z) y) ∙ f)) (same_link u g a v ls j l i at x y) (old_follow u g m r q e f k j i))
          (λ j i x. old_follow u g m r q e f k j i)

  -- ---- what is known of a step

  had_knows : (y : World) (v : ℕ) (t : Vat Name) (b : Bit Name) → Had script y v t b → KnowsIn t b
  had_knows y v t (Named n) h = h.1
  had_knows y v t other h = tt

  pub outs_known : (y : World) (v : ℕ) (t : Vat Name) → Stands script y → slice_get y.vats v ≡ Some t → AllOf (λ (p : Put Name). NoteOk (KnowsIn t) p.note) t.outbox
  outs_known y v t h e = let at = h.vats v t e in let parts = at.parts in all_map (λ p k. note_up (Had script y v t) (KnowsIn t) (had_knows y v t) p.note k.0) t.outbox parts.outbox

  pub there_next : (w y : World) (v : ℕ) (s t : Vat Name) → slice_get w.vats v ≡ Some s → y.vats ≡ put_at v t w.vats → slice_get y.vats v ≡ Some t
  there_next w y v s t e f = rw f (get_put w.vats v s t e)

  pub step_grows : (w : World) (v : ℕ) (s q t : Vat Name) (what : Step Name Name) → Does script w v s q t what → (n : Name) → IsAmong n (names_in s.known) → IsAmong n (names_in t.known)
  unfolding readied
  step_grows w v s q t what d n h = let r = after_gives Stays (readied w q) t (does (names script v) what (readied w q)) (steps_stay (names script v) what (readied w q)) d.gives in r.1 n (rw (ap names_in d.known) h)

  delivered : (w : World) (a v : ℕ) (s t : Vat Name) (x : Name) (verb : List ℕ) (ys : Passeds Name) (m : Msg) (c : Option Name) → s.number ≡ v → does (names script v) (Receives a (read_note (names_of s) (Deliver (record { message = Sent m; asks = true; answer = c }) x verb ys))) (readied w s) ≡ Gives tt t → IsAmong (Answer v m) (names_in t.known)
  unfolding does names readied world.read_note arrive.arrive
  delivered w a v s t x verb ys m c e f = given_is (λ r. IsAmong (Answer v m) (names_in r.known)) t _ (arrived (draw_word script.key) v m a _ _ verb _ (readied w s) e) f

  is_delivery : (r : Delivery Name) (m : Msg) → r.message ≡ Sent m → r.asks ≡ true → r ≡ record { message = Sent m; asks = true; answer = r.answer }
  is_delivery r m e f = ap (λ x. asked_of x r.asks) e ∙ ap (λ b. asked_of (Sent m) b) f
    where
      asked_of : Name → Bool → Delivery Name
      asked_of x b = record { message = x; asks = b; answer = r.answer }

  pub bearer_known : (w : World) (a v : ℕ) (s t : Vat Name) (n : Note Name) (m : Msg) → s.number ≡ v → Does script w v s s t (Receives a (read_note (names_of s) n)) → Bears m (Answer v m) n → IsAmong (Answer v m) (names_in t.known)
  bearer_known w a v s t (Deliver r x verb ys) m e d b = delivered w a v s t x verb ys m r.answer e (subst (λ z. does (names script v) (Receives a (read_note (names_of s) (Deliver z x verb ys))) (readied w s) ≡ Gives tt t) (is_delivery r m b.0 b.1) d.gives)
  bearer_known w a v s t other m e d b = absurd b

  -- the note that arrives does not name the answer, or its host knows it
  pub arrives_first : (w : World) (a v : ℕ) (s t : Vat Name) (n : Note Name) (ns : List (Note Name)) (l : Link) → Past w → NotesKnown w.vats w.links → link_at a v w.links ≡ Some l → l.notes ≡ n ∷ ns
      → (first : (g : ℕ) (m : Msg) → (g ≡ v → ⊥) → NamesNot (Answer g m) n → IsAmong (Answer g m) (names_in t.known) → IsAmong (Answer g m) (names_in s.known) ⊎ PutsFirst g m t.outbox)
      → (g : ℕ) (m : Msg) (q : Vat Name) → (g ≡ v → ⊥) → slice_get (put_at v t w.vats) g ≡ Some q → IsAmong (Answer g m) (names_in t.known) → (IsAmong (Answer g m) (names_in s.known) ⊎ PutsFirst g m t.outbox) ⊎ IsAmong (Answer g m) (names_in q.known)
  arrives_first w a v s t n ns l past known at notes first g m q abroad e h = by_host (eq_dec g a)
    where
      fits : lift.At (OfNotes script) a v l
      fits = found (link_at a v w.links) at (lift.found_fits (OfNotes script) a v w.links past.1)
        where
          found : (o : Option Link) → o ≡ Some l → MayBe (lift.At (OfNotes script) a v) o → lift.At (OfNotes script) a v l
          found o i k = rw i at k

      of_note : OfNotes script a v n
      of_note = (tail_of (OfNotes script a v) l l n ns fits refl notes).0

      old : ((g ≡ v) × (t ≡ q)) ⊎ ((g ≡ v → ⊥) × (slice_get w.vats g ≡ Some q)) → slice_get w.vats g ≡ Some q
      old (inl x) = absurd (abroad x.0)
      old (inr x) = x.1

      by_known : g ≡ a → IsAmong (Answer g m) (names_in q.known) ⊎ (IsAmong (Answer g m) (names_in q.known) → ⊥) → (IsAmong (Answer g m) (names_in s.known) ⊎ PutsFirst g m t.outbox) ⊎ IsAmong (Answer g m) (names_in q.known)
      by_known i (inl k) = inr k
      by_known i (inr f) = let there : slice_get w.vats a ≡ Some q = sym (ap (λ z. slice_get w.vats z) i) ∙ old (put_cases v t w.vats g q e) in
          inl (first g m abroad (not_named (Answer g m) q f n (tail_of (NoteOk (KnowsIn q)) l l n ns (known a v q there l at) refl notes).0) h)

      by_host : (g ≡ a) ⊎ (g ≡ a → ⊥) → (IsAmong (Answer g m) (names_in s.known) ⊎ PutsFirst g m t.outbox) ⊎ IsAmong (Answer g m) (names_in q.known)
      by_host (inl i) = by_known i (among_dec (Answer g m) (names_in q.known))
      by_host (inr f) = inl (first g m abroad (third_answer g m a v f abroad n of_note.0 of_note.1) h)

  -- ---- the moves

  pub stepped_follow : (vs : List (Vat Name)) (ls : List Link) (v : ℕ) (s t : Vat Name) → slice_get vs v ≡ Some s → ((x : Name) → IsAmong x (names_in s.known) → IsAmong x (names_in t.known)) → Follow vs ls
      → (u g : ℕ) (m : Msg) (r q : Vat Name) → slice_get vs u ≡ Some r → slice_get (put_at v t vs) g ≡ Some q → IsAmong (Answer g m) (names_in r.known) → AtLink u g (Followed g m q) ls
  stepped_follow vs ls v s t there grows h u g m r q e f k = either (put_cases v t vs g q f)
    where
      grown : t ≡ q → (j : Link) → Followed g m s j → Followed g m q j
      grown x j (inl i) = inl (rw x at (grows (Answer g m) i))
      grown x j (inr i) = inr i

      either : ((g ≡ v) × (t ≡ q)) ⊎ ((g ≡ v → ⊥) × (slice_get vs g ≡ Some q)) → AtLink u g (Followed g m q) ls
      either (inl x) = λ j i. grown x.1 j (h u g m r s e (ap (λ z. slice_get vs z) x.0 ∙ there) k j i)
      either (inr x) = h u g m r q e x.1 k

  pub holds_on : (w y : World) → Past w → Past y → Moved script w y → Holds w → Holds y
  holds_on w y p r (Still e f d) h = rw (e, f) h
  holds_on w y p r (Severs a b e f d) h = rw (e, f) (cut_known w.vats (with_link severed_link a b w.links) b a (cut_known w.vats w.links a b h.0), cut_follow w.vats (with_link severed_link a b w.links) b a (cut_follow w.vats w.links a b h.1))
  holds_on w y p r (Drops a v n ns l at notes none e f d) h = rw (e, f) (taken_known w.vats w.links a v n ns l at notes h.0, none_follow w.vats w.links a v n ns l at notes none h.1)
  holds_on w y p r (Steps v s q t what alone does e f d first fresh) h = let grows = step_grows w v s q t what does in let outs = outs_known y v t r.0 (there_next w y v s t does.there e) in
      let news : (g : ℕ) (m : Msg) (x : Vat Name) → (g ≡ v → ⊥) → slice_get (put_at v t w.vats) g ≡ Some x → IsAmong (Answer g m) (names_in t.known) → (IsAmong (Answer g m) (names_in s.known) ⊎ PutsFirst g m t.outbox) ⊎ IsAmong (Answer g m) (names_in x.known) = λ g m x k i j. inl (first g m k j) in
      let old = stepped_follow w.vats w.links v s t does.there grows h.1 in
      rw (e, f) (goes_known w.vats v s t does.there grows outs w.links h.0 old news, goes_follow w.vats v s t does.there grows outs w.links h.0 old news)
  holds_on w y p r (Arrives a v s t n ns l at cut notes does e f d first fresh) h = let grows = step_grows w v s s t _ does in let outs = outs_known y v t r.0 (there_next w y v s t does.there e) in
      let stands = p.0.vats v s does.there in let kept = stands.kept in let known = taken_known w.vats w.links a v n ns l at notes h.0 in
      let old = taken_follow w.vats w.links a v n ns l at notes s t does.there grows (λ m b. bearer_known w a v s t n m kept.number does b) h.1 in
      let news = arrives_first w a v s t n ns l p h.0 at notes first in
      rw (e, f) (goes_known w.vats v s t does.there grows outs (with_link (with_notes ns) a v w.links) known old news, goes_follow w.vats v s t does.there grows outs (with_link (with_notes ns) a v w.links) known old news)

  -- ---- the start

  no_notes : (a b : ℕ) (s : Vat Name) → AtLink a b (AllKnown s) (world.links_from script.vats zero script.vats)
  no_notes a b s l e = empty (link_at a b (world.links_from script.vats zero script.vats)) e (lift.found_fits (λ v u n. ⊥) a b (world.links_from script.vats zero script.vats) (lift.links_from_fit (λ v u n. ⊥) script.vats zero script.vats))
    where
      empty : (o : Option Link) → o ≡ Some l → MayBe (lift.At (λ v u n. ⊥) a b) o → AllKnown s l
      empty o i k = let none : AllOf (λ (n : Note Name). ⊥) l.notes = rw i at k in all_map (λ n x. absurd x) l.notes none

  not_root : (g : ℕ) (m : Msg) (x : ℕ) → Answer g m ≡ Root x → ⊥
  not_root g m x e = cc

  pub fresh_none : (g : ℕ) (m : Msg) (v : ℕ) (ps : List Program) (n : ℕ) (s : Vat Name) → slice_get (world.fresh_from script v ps) n ≡ Some s → IsAmong (Answer g m) (names_in s.known) → ⊥
  fresh_none g m v ps n s e a = not_at_first script (Answer g m) (λ x i. not_root g m x i) v ps n s e a

  pub begins_holds : Holds (world.begins script)
  unfolding world.begins
  begins_holds = (λ a b s e. no_notes a b s, λ u g m s r e f k. absurd (fresh_none g m zero script.vats u s e k))

  module _ (once : KnowsOnce script) where
    pub opened_past : (ps rest : List Program) (w : World) → script.vats ≡ ps ++ rest → world.open_from script zero ps (world.begins script) ≡ Going w → Past w
    opened_past ps rest w i e = let all = opened_all script once ps rest w i e in (all.0, links_of script w all)

    pub stepped_past : (w x : World) (es : List Entry) (k : ℕ) → world.open_from script zero script.vats (world.begins script) ≡ Going w → world.steps_from script es k w ≡ Going x → Past x
    stepped_past w x es k e i = let all = stepped_all script once w x es k e i in (all.0, links_of script x all)

    pub opened_holds : (ps rest : List Program) (w : World) → script.vats ≡ ps ++ rest → world.open_from script zero ps (world.begins script) ≡ Going w → Holds w
    opened_holds = opened_hold script Past opened_past stepped_past (λ w p. p.0) Holds holds_on begins_holds

    pub stepped_holds : (w x : World) (es : List Entry) (k : ℕ) → world.open_from script zero script.vats (world.begins script) ≡ Going w → world.steps_from script es k w ≡ Going x → Holds x
    stepped_holds = stepped_hold script Past opened_past stepped_past (λ w p. p.0) Holds holds_on begins_holds

pub answers_follow_messages : AnswersFollowMessages
answers_follow_messages script once = (
  λ ps rest w i e u g m s t l a b c k. (opened_holds script once ps rest w i e).1 u g m s t a b k l c,
  λ w x es k o e u g m s t l a b c h. (stepped_holds script once w x es k o e).1 u g m s t a b h l c,
)

pub notes_name_what_is_known : NotesNameWhatIsKnown
notes_name_what_is_known script once = (
  λ ps rest w i e u g s l a c. (opened_holds script once ps rest w i e).0 u g s a l c,
  λ w x es k o e u g s l a c. (stepped_holds script once w x es k o e).0 u g s a l c,
)
