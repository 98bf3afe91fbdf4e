-- In every world of a run behind cuts, gifts of others that a vat knows follow the asking, and its own stand.
use Rattle.std.proofs.Common.{◌≡◌, ℕ, true, false, List, [], ◌∷◌, Option, Some, refl, sym, ap, ◌∙◌, ◌⊎◌, inl, inr, subst}
use Rattle.std.specs.Prelude.{slice_get}
use Rattle.def_machine.specs.Values.{Name, Root, Gift}
use Rattle.def_machine.specs.State.{Message, Passed, Passeds, Plain, AGift, Many, NoMore, More, Note, Deliver, Open, Ask, SettledTo, GiftEntry, Vat, Done, Gives, is_in}
use Rattle.law_machine.specs.Machine.Steps.{Step, Receives, Notices, does, After}
use Rattle.law_machine.specs.Machine.Laws.{NoticedStays}
use Rattle.law_machine.proofs.Machine.StepLaws.{kept_by_steps, noticed_law, noticed_names}
use Rattle.def_run.specs.Draws.{draw_word}
use Rattle.def_run.specs.World as world
use Rattle.def_run.specs.World.{Script, Program, Link, World, names, names_of, read_note, readied, put_at, link_at}
use Rattle.law_fate.specs.Name.Names.{Bit, Named, Mail, At, Entered, Owns, AllOf, IsAmong, IsMade, PassedOk, PassedsOk, NoteOk, NounOk, NameOk, names_in}
use Rattle.law_fate.proofs.Name.Facts.{MayBe, note_up}
use Rattle.law_fate.proofs.Name.Among.{get_put}
use Rattle.law_fate.proofs.Name.Run.{Had, Told, low_at, inside_root, knows_low, Stands, given_ok, link_holds}
use Rattle.law_fate.proofs.Name.Tracked.{known_among}
use Rattle.law_fate.specs.Fates.Lasting.{Each}
use Rattle.law_reference.specs.Reference.Cuts.{IsCutThere}
use Rattle.law_reference.proofs.Reference.NotesLift as lift
use Rattle.law_reference.proofs.Reference.NotesRuns.{OfNotes}
use Rattle.law_reference.specs.Reference.Behind.{Avoids, NamesNot, IsKnownTo as KnowsIn}
use Rattle.law_reference.proofs.Reference.First.{among_dec}
use Rattle.law_reference.proofs.Reference.CareBeside.{made_message}
use Rattle.law_reference.proofs.Reference.Follow.{put_cases, eq_dec, NotesKnown}
use Rattle.law_reference.proofs.Reference.FollowRuns.{tail_of}
use Rattle.law_reference.proofs.Reference.LegRuns.{Before, stands_of, sender_of}
use Rattle.law_reference.proofs.Reference.LegMoves.{LegsOf}
use Rattle.law_reference.proofs.Reference.Moves.{IsAlone, Does}
use Rattle.law_reference.specs.Reference.Standing.{Stands as StandsAt, ThenStands, IsEntered}
use Rattle.law_reference.specs.Reference.GiftPassing.{PassesFrom, AllPassFrom, Provides}
use Rattle.law_reference.proofs.Reference.Standing.{gifts_stay, what_is_opened_stands}
use Rattle.law_reference.proofs.Reference.GiftLaws.{Fits}
use Rattle.law_reference.proofs.Reference.GiftLinks.{found_tells}
use Rattle.law_reference.specs.Reference.ApartAsking.{AsksFor, AskedFirst}
use Rattle.law_reference.proofs.Reference.Arrivals.{PassedTells, PassedsTell, value_tells}
use Rattle.law_reference.proofs.Reference.AskCare.{Has, PutsFirst, Asks, Held, Tells, asks_under, asks_makes, note_asks}
use Rattle.law_reference.proofs.Reference.ApartSteps.{does_sound, arrives_sound}
use Rattle.law_reference.proofs.Reference.AskMoves.{Owned, Followed, Follow}
use Rattle.law_reference.proofs.Reference.Unnamed.{third_gift, not_named}

-- ---- gifts at their host

entered_stands : (i : ℕ) (gs : List (GiftEntry Name)) → IsEntered i gs → (p : ℕ) × StandsAt p i gs
entered_stands i [] h = absurd h
entered_stands i (g ∷ gs) (inl e) = (g.provider, inl (refl, e))
entered_stands i (g ∷ gs) (inr h) = let r = entered_stands i gs h in (r.0, inr r.1)

stands_entered : (p i : ℕ) (gs : List (GiftEntry Name)) → StandsAt p i gs → IsEntered i gs
stands_entered p i [] h = absurd h
stands_entered p i (g ∷ gs) (inl e) = inl e.1
stands_entered p i (g ∷ gs) (inr h) = inr (stands_entered p i gs h)

after_gives : (R : Vat Name → Vat Name → Type 0) (r t : Vat Name) (d : Done Name (Unit {0})) → After R r d → d ≡ Gives tt t → R r t
after_gives R r t d h e = rw e at h

then_given : (p i : ℕ) (t : Vat Name) (d : Done Name (Unit {0})) → ThenStands p i d → d ≡ Gives tt t → StandsAt p i t.gifts
then_given p i t d h e = rw e at h

some_is : (x y : Vat Name) → ◌≡◌ {A = Option (Vat Name)} (Some x) (Some y) → x ≡ y
some_is x y e = cc

true_false : false ≡ true → ⊥
true_false e = cc

-- what each vat noticed as cut off is cut
abbrev pub NoticedCut : World → Type 0
NoticedCut w = (v : ℕ) (s : Vat Name) → slice_get w.vats v ≡ Some s → (u : ℕ) → is_in u s.noticed ≡ true → IsCutThere v u w.links

-- what stands of every world of a run
abbrev pub Past : Script → World → Type 0
Past script w = Before script w × LegsOf w × Fits w

abbrev pub Holds : World → Type 0
Holds w = Owned w.vats × Follow w.vats w.links

module _ (script : Script) where
  had_has : (w : World) (v : ℕ) (s : Vat Name) (b : Bit Name) → Had script w v s b → Has (names_in s.known) b
  had_has w v s (Named n) h = h.1
  had_has w v s (Mail n) h = made_message w.vats n h.0
  had_has w v s (Entered n) h = h.1
  had_has w v s (Owns n j) h = h.1
  had_has w v s other h = tt

  -- ---- a step of vat v

  module _ (w : World) (v : ℕ) (s : Vat Name) (there : slice_get w.vats v ≡ Some s) (stands : Stands script w) where
    abbrev Was : ℕ → ℕ → Type 0
    Was g i = IsAmong (Gift g i) (names_in s.known)

    its_roots : (p : Program) → slice_get script.vats v ≡ Some p → Had script w v s (Named (Root v)) × AllOf (NounOk (Had script w v s)) (world.given script.vats p.knows)
    its_roots p e = let k = stands.vats v s there in let roots : AllOf (λ (u : ℕ). IsAmong (Root u) (names_in s.known)) (v ∷ p.knows) = k.roots p e in
        ((tt, roots.0, tt, inside_root script v (low_at script w stands v s there)), given_ok script w v s p.knows roots.1 (knows_low script p.knows (λ f. f v p e)))

    more_is : (g i : ℕ) (qs : List (Message Name)) → (s.number ≡ v) × Held g i v (Was g i) (readied w (record s { queue = qs }))
    unfolding readied
    more_is g i qs = let k = stands.vats v s there in let kept = k.kept in (kept.number, λ a. inr (inl a))

    up : (qs : List (Message Name)) (b : Bit Name) → Had script w v s b → Has (names_in (readied w (record s { queue = qs })).known) b
    unfolding readied
    up qs b h = had_has w v s b h

    pub alone_held : (q t : Vat Name) (what : Step Name Name) → IsAlone what → Does script w v s q t what → (g i : ℕ) → Held g i v (Was g i) t
    unfolding readied
    alone_held q t what o d g i = let k = stands.vats v s there in
        let sound = does_sound script w v s (Asks g i v (Was g i)) (asks_under g i v (Was g i) (draw_word script.key)) (asks_makes g i v (Was g i) (draw_word script.key)) (Had script w v s) k.parts up (more_is g i) its_roots q t what o d in
        let m = sound.more in m.1

    all_known : (ns ms : List Name) → ((n : Name) → IsAmong n ns → IsAmong n ms) → AllOf (NameOk (Has ms)) ns
    all_known [] ms f = tt
    all_known (n ∷ ns) ms f = (known_among ms n (f n (inl refl)), all_known ns ms (λ m a. f m (inr a)))

    note_held : (t : Vat Name) (from : ℕ) (n : Note Name) → Does script w v s s t (Receives from (read_note (names_of s) n)) → (g i : ℕ) → Tells g i v (Was g i) (draw_word script.key) n → Held g i v (Was g i) t
    unfolding names_of readied
    note_held t from n d g i tells = let k = stands.vats v s there in
        let sound = arrives_sound script w v s (Asks g i v (Was g i)) (asks_under g i v (Was g i) (draw_word script.key)) (asks_makes g i v (Was g i) (draw_word script.key)) (Had script w v s) k.parts up (more_is g i) its_roots t from n _
        (note_asks g i v (Was g i) (draw_word script.key) from (names_in s.known) n tells) (all_known (names_in s.known) (names_in s.known) (λ m a. a)) d in
        let m = sound.more in m.1

  pub stays : (w : World) (v : ℕ) (s q t : Vat Name) (what : Step Name Name) → Does script w v s q t what → (i : ℕ) → IsEntered i s.gifts → IsEntered i t.gifts
  unfolding readied
  stays w v s q t what d i h = let r = entered_stands i s.gifts h in let at : StandsAt r.0 i q.gifts = subst (λ gs. StandsAt r.0 i gs) (sym d.gifts) r.1 in
      let on = after_gives (λ a b. (p j : ℕ) → StandsAt p j a.gifts → StandsAt p j b.gifts) (readied w q) t _ (gifts_stay (names script v) what (readied w q)) d.gives in stands_entered r.0 i t.gifts (on r.0 i at)

  pub noticed_stays : (w : World) (v : ℕ) (s q t : Vat Name) (what : Step Name Name) → q.noticed ≡ s.noticed → Does script w v s q t what → (g : ℕ) → is_in g s.noticed ≡ true → is_in g t.noticed ≡ true
  unfolding readied
  noticed_stays w v s q t what same d g e = after_gives NoticedStays (readied w q) t _ (kept_by_steps (names script v) NoticedStays noticed_law (noticed_names (names script v)) what (readied w q)) d.gives g (rw (sym same) at e)

  pub same_noticed : (w : World) (v : ℕ) (s q t : Vat Name) (what : Step Name Name) → Does script w v s q t what → q.noticed ≡ s.noticed
  same_noticed w v s q t (Receives from n) d = ap (λ (z : Vat Name). z.noticed) d.begins
  same_noticed w v s q t (Notices u) d = ap (λ (z : Vat Name). z.noticed) d.begins
  same_noticed w v s q t other d = let b = d.begins in ap (λ (z : Vat Name). z.noticed) b.2

  -- by which a name of the state after is what it may be
  pub held_first : (vs : List (Vat Name)) (v : ℕ) (s t : Vat Name) → slice_get vs v ≡ Some s → (g i : ℕ) (q : Vat Name) → slice_get (put_at v t vs) g ≡ Some q → Held g i v (IsAmong (Gift g i) (names_in s.known)) t → IsAmong (Gift g i) (names_in t.known)
      → (IsAmong (Gift g i) (names_in s.known) ⊎ IsEntered i q.gifts) ⊎ ((g ≡ v → ⊥) × (PutsFirst g i t.outbox ⊎ (is_in g t.noticed ≡ true)))
  held_first vs v s t there g i q at held a = either (held a)
    where
      either : ((g ≡ v) × IsEntered i t.gifts) ⊎ (IsAmong (Gift g i) (names_in s.known) ⊎ ((g ≡ v → ⊥) × (PutsFirst g i t.outbox ⊎ (is_in g t.noticed ≡ true)))) → (IsAmong (Gift g i) (names_in s.known) ⊎ IsEntered i q.gifts) ⊎ ((g ≡ v → ⊥) × (PutsFirst g i t.outbox ⊎ (is_in g t.noticed ≡ true)))
      either (inl (e, h)) = let same : t ≡ q = some_is t q (sym (get_put vs v s t there) ∙ sym (ap (λ u. slice_get (put_at v t vs) u) e) ∙ at) in inl (inr (rw same at h))
      either (inr (inl k)) = inl (inl k)
      either (inr (inr h)) = inr h

  -- ---- a note that arrives

  module _ (g i v a : ℕ) where
    abbrev X : Name
    X = Gift g i

    abbrev T : Name → Type 0
    T m = m ≡ X → ⊥

    abbrev G : ℕ → ℕ → Type 0
    G h j = h ≡ v → ⊥

    abbrev Q : ℕ → Type 0
    Q j = Unit {0}

    module _ (P : ℕ → ℕ) (d : List ℕ) where
      mutual
        passed_tells : (y : Passed Name) → PassedOk (Avoids X) y → PassesFrom P d a v y → PassedTells T G Q y
        passed_tells (Plain y) f h = value_tells T G Q (Avoids X) (λ n i. i) y f
        passed_tells (AGift c j) f h = h.2
        passed_tells (Many ys) f h = passeds_tell ys f h

        passeds_tell : (ys : Passeds Name) → PassedsOk (Avoids X) ys → AllPassFrom P d a v ys → PassedsTell T G Q ys
        passeds_tell NoMore f h = tt
        passeds_tell (More y ys) f h = (passed_tells y f.0 h.0, passeds_tell ys f.1 h.1)

      -- a note that does not name the gift, or that asks for one
      note_tells : (E : Type 0) (us : List (Vat Name)) (e : List ℕ) (word : ℕ → ℕ) (n : Note Name) → NamesNot X n → NoteOk (IsMade us e) n → Provides P d a v n → Tells g i v E word n
      note_tells E us e word (Deliver m n verb ys) f k h = (made_message us m.message k.0, f.1, passeds_tell ys f.2 h)
      note_tells E us e word (Open j n) f k h = f.1
      note_tells E us e word (Ask p j n) f k h = tt
      note_tells E us e word (SettledTo n y) f k h = (f.0, passed_tells y f.1 h)
      note_tells E us e word other f k h = f.0

      -- the gift is asked for, so that its name in the note is not read
      ask_tells : (E : Type 0) (word : ℕ → ℕ) (n : Note Name) → AsksFor i n → Tells g i v E word n
      ask_tells E word (Ask p j n) f = tt
      ask_tells E word other f = absurd f

  -- after a note that asks, the gift stands
  pub asks_stand : (w : World) (a v : ℕ) (s t : Vat Name) (n : Note Name) → Does script w v s s t (Receives a (read_note (names_of s) n)) → (i : ℕ) → AsksFor i n → IsEntered i t.gifts
  unfolding does world.read_note
  asks_stand w a v s t (Ask p j n) d i e = let x = world.read_name (names_of s) n in let h = (what_is_opened_stands (names script v) a p j x (readied w s)).1 in rw e at (stands_entered p j t.gifts (then_given p j t _ h d.gives))
  asks_stand w a v s t other d i e = absurd e

  module _ (w : World) (a v : ℕ) (s t : Vat Name) (n : Note Name) (ns : List (Note Name)) (l : Link) (past : Past script w) (at : link_at a v w.links ≡ Some l) (cut : l.cut ≡ false) (notes : l.notes ≡ n ∷ ns) (d : Does script w v s s t (Receives a (read_note (names_of s) n))) (sure : NoticedCut w) (h : Holds w) where
    before : Before script w
    before = past.0

    stands : Stands script w
    stands = stands_of script w before

    sender : (u : Vat Name) × (slice_get w.vats a ≡ Some u)
    sender = let legs = past.1 in sender_of script w a v n ns l legs.none at notes

    notes_known : NotesKnown w.vats w.links
    notes_known = let b = before.holds in b.0

    known_note : NoteOk (KnowsIn sender.0) n
    known_note = (tail_of (NoteOk (KnowsIn sender.0)) l l n ns (notes_known a v sender.0 sender.1 l at) refl notes).0

    told_note : NoteOk (Told script w) n
    told_note = found (link_at a v w.links) at (link_holds (NoteOk (Told script w)) a v w.links stands.links)
      where
        found : (o : Option Link) → o ≡ Some l → MayBe (λ (k : Link). AllOf (NoteOk (Told script w)) k.notes) o → NoteOk (Told script w) n
        found o e k = let one : AllOf (NoteOk (Told script w)) l.notes = rw e at k in (tail_of (NoteOk (Told script w)) l l n ns one refl notes).0

    of_note : OfNotes script a v n
    of_note = let b = before.past in found (link_at a v w.links) at (lift.found_fits (OfNotes script) a v w.links b.1)
      where
        found : (o : Option Link) → o ≡ Some l → MayBe (lift.At (OfNotes script) a v) o → OfNotes script a v n
        found o e k = let one : lift.At (OfNotes script) a v l = rw e at k in (tail_of (OfNotes script a v) l l n ns one refl notes).0

    provides : Provides past.2.0 w.drawn a v n
    provides = let fits = past.2 in let o = fits.1 in head (found_tells fits.0 w.drawn a v l w.links o.links at)
      where
        head : Each (Provides past.2.0 w.drawn a v) l.notes → Provides past.2.0 w.drawn a v n
        head k = let one : Each (Provides past.2.0 w.drawn a v) (n ∷ ns) = rw notes at k in one.0

    -- the note does not name it, or asks for it, or it stands
    module _ (g i : ℕ) (q : Vat Name) (there : slice_get (put_at v t w.vats) g ≡ Some q) where
      abbrev Cases : Type 0
      Cases = (NamesNot (Gift g i) n ⊎ AsksFor i n) ⊎ IsEntered i q.gifts

      unknown_not : (IsAmong (Gift g i) (names_in sender.0.known) → ⊥) → NamesNot (Gift g i) n
      unknown_not f = not_named (Gift g i) sender.0 f n known_note

      not_cut : l.cut ≡ true → ⊥
      not_cut e = true_false (sym cut ∙ e)

      -- of the receiver
      followed : g ≡ v → Followed g i sender.0 s l → Cases
      followed e (inl k) = let same : t ≡ q = some_is t q (sym (get_put w.vats v s t d.there) ∙ sym (ap (λ u. slice_get (put_at v t w.vats) u) e) ∙ there) in inr (rw same at (stays w v s s t _ d i k))
      followed e (inr (inl (inl c))) = absurd (not_cut c)
      followed e (inr (inr k)) = absurd (not_cut (sure a sender.0 sender.1 g k l (rw (sym e) at at)))
      followed e (inr (inl (inr k))) = let two : AskedFirst i (Gift g i) (n ∷ ns) = rw notes at k in first two
        where
          first : AskedFirst i (Gift g i) (n ∷ ns) → Cases
          first (inl c) = inl (inr c)
          first (inr c) = inl (inl c.0)

      own : g ≡ v → IsAmong (Gift g i) (names_in sender.0.known) ⊎ (IsAmong (Gift g i) (names_in sender.0.known) → ⊥) → Cases
      own e (inl k) = followed e (h.1 a g i sender.0 s sender.1 (ap (λ z. slice_get w.vats z) e ∙ d.there) k l (rw (sym e) at at))
      own e (inr f) = inl (inl (unknown_not f))

      -- of the sender
      theirs : g ≡ a → (g ≡ v → ⊥) → IsAmong (Gift g i) (names_in sender.0.known) ⊎ (IsAmong (Gift g i) (names_in sender.0.known) → ⊥) → Cases
      theirs e f (inl k) = let stand : IsEntered i sender.0.gifts = h.0 a i sender.0 sender.1 (rw e at k) in inr (rw (same (put_cases v t w.vats g q there)) at stand)
        where
          same : ((g ≡ v) × (t ≡ q)) ⊎ ((g ≡ v → ⊥) × (slice_get w.vats g ≡ Some q)) → sender.0 ≡ q
          same (inl x) = absurd (f x.0)
          same (inr x) = some_is sender.0 q (sym sender.1 ∙ sym (ap (λ z. slice_get w.vats z) e) ∙ x.1)
      theirs e f (inr k) = inl (inl (unknown_not k))

      by_host : (g ≡ v) ⊎ (g ≡ v → ⊥) → (g ≡ a) ⊎ (g ≡ a → ⊥) → Cases
      by_host (inl e) x = own e (among_dec (Gift g i) (names_in sender.0.known))
      by_host (inr f) (inl e) = theirs e f (among_dec (Gift g i) (names_in sender.0.known))
      by_host (inr f) (inr k) = inl (inl (third_gift g i a v k f n of_note.0 of_note.1))

      held_by : Cases → IsAmong (Gift g i) (names_in t.known) → (IsAmong (Gift g i) (names_in s.known) ⊎ IsEntered i q.gifts) ⊎ ((g ≡ v → ⊥) × (PutsFirst g i t.outbox ⊎ (is_in g t.noticed ≡ true)))
      held_by (inr k) x = inl (inr k)
      held_by (inl (inl f)) x = held_first w.vats v s t d.there g i q there (note_held w v s d.there stands t a n d g i (note_tells g i v a past.2.0 w.drawn (IsAmong (Gift g i) (names_in s.known)) w.vats w.drawn (draw_word script.key) n f (note_up (Told script w) (IsMade w.vats w.drawn) (λ b k. k.0) n told_note) provides)) x
      held_by (inl (inr f)) x = held_first w.vats v s t d.there g i q there (note_held w v s d.there stands t a n d g i (ask_tells g i v a past.2.0 w.drawn (IsAmong (Gift g i) (names_in s.known)) (draw_word script.key) n f)) x

    pub note_first : (g i : ℕ) (q : Vat Name) → slice_get (put_at v t w.vats) g ≡ Some q → IsAmong (Gift g i) (names_in t.known) → (IsAmong (Gift g i) (names_in s.known) ⊎ IsEntered i q.gifts) ⊎ ((g ≡ v → ⊥) × (PutsFirst g i t.outbox ⊎ (is_in g t.noticed ≡ true)))
    note_first g i q e x = held_by g i q e (by_host g i q e (eq_dec g v) (eq_dec g a)) x
