-- What is kept of a world: one provider for each word that was drawn, and that a gift whose key tells another is hidden; and how a step of one vat keeps it.
use Rattle.std.proofs.Common.{◌≡◌, ℕ, zero, Bool, true, false, List, Some, refl, sym, subst, ◌∙◌, ◌⊎◌, inl, inr}
use Rattle.std.specs.Prelude.{slice_get}
use Rattle.def_machine.specs.Values.{Name, word_of, provider_of}
use Rattle.def_machine.specs.State.{Note, Deliver, Open, Ask, SettledTo, Elsewhere, Shorten, Put, GiftEntry, Vat, Done, Gives, is_in}
use Rattle.law_machine.specs.Machine.Steps.{Step, Opens as Starts, Takes, Receives, Notices, does, After}
use Rattle.def_run.specs.Draws.{draw_word}
use Rattle.def_run.specs.World as world
use Rattle.def_run.specs.World.{Script, Link, World, names, names_of, read_note, readied, put_at, push_all}
use Rattle.law_fate.specs.Fates.Lasting.{Each}
use Rattle.law_fate.specs.Name.Names.{WasDrawn, NoteOk, Everywhere}
use Rattle.law_fate.proofs.Name.Facts.{nothing}
use Rattle.law_fate.proofs.Name.Care.{Ends, Sound}
use Rattle.law_fate.proofs.Name.Run.{Stands}
use Rattle.law_reference.specs.Reference.GiftPassing.{gifts_in_note, IsProvidedBy, Provides, IsProvided}
use Rattle.law_reference.specs.Reference.Hiding.{Shuns, Spares}
use Rattle.law_reference.proofs.Reference.Arrivals.{IsNews}
use Rattle.law_reference.proofs.Reference.Moves.{IsAlone, Does}
use Rattle.law_reference.proofs.Reference.Follow.{put_cases}
use Rattle.law_reference.proofs.Reference.GiftLinks.{LinkTells, push_all_tells}
use Rattle.law_reference.proofs.Reference.Puts.{AllStay, Fair, each_up, provides_up, in_among, among_in}
use Rattle.law_reference.proofs.Reference.ArrivePuts.{told_host, news_of_gone, news_of_view, fair_notice}
use Rattle.law_reference.proofs.Reference.StepsPuts.{later, later_new, later_up, fair_taking, fair_opening, arrival_ends}
use Rattle.law_reference.proofs.Reference.HideCare.{Hides, note_hides}
use Rattle.law_reference.proofs.Reference.HideMoves.{HiddenAt, new_hidden, hidden_next, note_old}
use Rattle.law_uses.proofs.ShownApart.NotesSpare.{note_spares}
use Rattle.law_uses.proofs.ShownApart.NewsHides.{news_by}

-- the key tells another provider of its word than P does
abbrev pub IsAmiss : (ℕ → ℕ) → ℕ → Type 0
IsAmiss P i = P (word_of i) ≡ provider_of i → ⊥

-- P tells the provider of each word, and gifts under keys that are amiss are hidden
pub record Keyed (P : ℕ → ℕ) (w : World) : Type 0 where
  pub links : Each (LinkTells P w.drawn) w.links
  pub vats : (v : ℕ) (s : Vat Name) → slice_get w.vats v ≡ Some s → (s.number ≡ v) × Each (IsProvided P w.drawn) s.gifts
  pub hidden : (i : ℕ) → IsAmiss P i → WasDrawn w.drawn i → HiddenAt i w.vats w.links

abbrev pub HasKeys : World → Type 0
HasKeys w = (P : ℕ → ℕ) × Keyed P w

-- a key is that of a word that was drawn or not
drawn_or : (i : ℕ) (d : List ℕ) → WasDrawn d i ⊎ (WasDrawn d i → ⊥)
drawn_or i d = either (is_in (word_of i) d) refl
  where
    different : true ≡ false → ⊥
    different e = cc

    either : (b : Bool) → is_in (word_of i) d ≡ b → WasDrawn d i ⊎ (WasDrawn d i → ⊥)
    either true e = inl (in_among (word_of i) d e)
    either false e = inr (λ a. different (sym (among_in (word_of i) d a) ∙ e))

module _ (script : Script) (w : World) (P : ℕ → ℕ) (stands : Stands script w) (h : Keyed P w) (p : ℕ) where
  -- once all new words are p's
  abbrev F : ℕ → ℕ
  F = later P w.drawn p

  -- what is amiss then was hidden before, or is of a word that was not drawn
  pub hidden_before : (i : ℕ) → IsAmiss F i → HiddenAt i w.vats w.links
  hidden_before i amiss = either (drawn_or i w.drawn)
    where
      either : WasDrawn w.drawn i ⊎ (WasDrawn w.drawn i → ⊥) → HiddenAt i w.vats w.links
      either (inl a) = h.hidden i (λ e. amiss (later_up P w.drawn p w.drawn (λ x b. b) i (provider_of i) (a, e, refl)).1) a
      either (inr none) = new_hidden i script w stands none

  -- no key that was told is amiss
  pub told_other : (i : ℕ) → IsAmiss F i → (j q : ℕ) → IsProvidedBy P w.drawn j q → j ≡ i → ⊥
  told_other i amiss j q o e = amiss (rw e at (same j q (later_up P w.drawn p w.drawn (λ x b. b) j q o)))
    where
      same : (j q : ℕ) → IsProvidedBy F w.drawn j q → F (word_of j) ≡ provider_of j
      same j q k = k.1 ∙ sym k.2

  -- vat v, which was s, is t and has put notes
  module _ (y : World) (v : ℕ) (s q t : Vat Name) (there : slice_get w.vats v ≡ Some s) (number : q.number ≡ s.number) (gifts : q.gifts ≡ s.gifts) (taken : List Link) (links : Each (LinkTells P w.drawn) taken)
      (fair : Fair v w.drawn F (readied w q) t) (before : (i : ℕ) → IsAmiss F i → HiddenAt i w.vats taken) (hides : (i : ℕ) → IsAmiss F i → HiddenAt i w.vats taken → Everywhere (Shuns i v) t)
      (at_vats : y.vats ≡ put_at v t w.vats) (at_links : y.links ≡ push_all v t.outbox taken) (at_drawn : y.drawn ≡ t.drawn) where
    more : AllStay w.drawn t.drawn
    unfolding readied
    more = let puts = fair.puts in puts.drawn

    its_number : q.number ≡ v
    its_number = number ∙ (h.vats v s there).0

    outs : Each (λ (o : Put Name). Provides F t.drawn v o.to o.note) t.outbox
    unfolding readied
    outs = let puts = fair.puts in puts.outs its_number (λ x a. a) tt

    up_all : (from to : ℕ) (ns : List (Note Name)) → Each (Provides P w.drawn from to) ns → Each (Provides F t.drawn from to) ns
    up_all from to ns j = each_up (Provides P w.drawn from to) (Provides F t.drawn from to) (λ m o. provides_up P F w.drawn t.drawn (later_up P w.drawn p t.drawn more) from to m o) ns j

    up_gifts : (e : List ℕ) → AllStay w.drawn e → (gs : List (GiftEntry Name)) → Each (IsProvided P w.drawn) gs → Each (IsProvided F e) gs
    up_gifts e l gs j = each_up (IsProvided P w.drawn) (IsProvided F e) (λ x o. later_up P w.drawn p e l x.number x.provider o) gs j

    next_links : Each (LinkTells F t.drawn) (push_all v t.outbox taken)
    next_links = push_all_tells F t.drawn v t.outbox taken outs (each_up (LinkTells P w.drawn) (LinkTells F t.drawn) (λ l j. (up_all l.from l.to l.log j.0, up_all l.from l.to l.notes j.1)) taken links)

    abbrev VatOk : ℕ → Vat Name → Type 0
    VatOk u r = (r.number ≡ u) × Each (IsProvided F t.drawn) r.gifts

    its_gifts : Each (IsProvided P w.drawn) q.gifts
    its_gifts = rw gifts ((h.vats v s there).1)

    this_next : VatOk v t
    unfolding readied
    this_next = let puts = fair.puts in (puts.number its_number, puts.gifts (λ x a. a) (up_gifts w.drawn (λ x a. a) q.gifts its_gifts))

    next_vat : (u : ℕ) (r : Vat Name) → slice_get (put_at v t w.vats) u ≡ Some r → VatOk u r
    next_vat u r e = either (put_cases v t w.vats u r e)
      where
        either : ((u ≡ v) × (t ≡ r)) ⊎ ((u ≡ v → ⊥) × (slice_get w.vats u ≡ Some r)) → VatOk u r
        either (inl a) = let one : VatOk u t = rw (sym a.0) at this_next in subst (λ (z : Vat Name). VatOk u z) a.1 one
        either (inr a) = let o = h.vats u r a.1 in (o.0, up_gifts t.drawn more r.gifts o.1)

    pub step_keyed : Keyed F y
    step_keyed = record {
      links = rw (at_drawn, at_links) next_links;
      vats = λ u r e. rw at_drawn (next_vat u r (rw at_vats at e));
      hidden = λ i amiss a. rw (at_vats, at_links) (hidden_next i w.vats v t taken (before i amiss) (hides i amiss (before i amiss)));
    }

-- ---- the step of a vat

module _ (script : Script) (w : World) (P : ℕ → ℕ) (v : ℕ) (s : Vat Name) where
  abbrev word : ℕ → ℕ
  word = draw_word script.key

  fair_end : (F : ℕ → ℕ) (r t : Vat Name) (d : Done Name (Unit {0})) → After (Fair v w.drawn F) r d → d ≡ Gives tt t → Fair v w.drawn F r t
  fair_end F r t d h e = let one : Fair v w.drawn F r t = rw e at h in one

  -- that no note begins: its words are the vat's own
  pub alone_fair : (q t : Vat Name) (what : Step Name Name) → IsAlone what → Does script w v s q t what → Fair v w.drawn (later P w.drawn v) (readied w q) t
  unfolding does names
  alone_fair q t (Starts tree depth root given) o d = fair_end (later P w.drawn v) (readied w q) t _ ((fair_opening v w.drawn (later P w.drawn v) (later_new P w.drawn v) word tree depth root given).after (readied w q)) d.gives
  alone_fair q t (Takes tree depth m) o d = fair_end (later P w.drawn v) (readied w q) t _ ((fair_taking v w.drawn (later P w.drawn v) (later_new P w.drawn v) word tree depth m).after (readied w q)) d.gives
  alone_fair q t (Receives from n) o d = absurd o
  alone_fair q t (Notices u) o d = fair_end (later P w.drawn v) (readied w q) t _ ((fair_notice v w.drawn (later P w.drawn v) (later_new P w.drawn v) word u).after (readied w q)) d.gives

  -- a note that arrives: its words are the vat's own, or are of the host of the name that is viewed
  module _ (t : Vat Name) (a : ℕ) (number : s.number ≡ v) (stands : Stands script w) (h : Keyed P w) where
    -- of a key that is amiss where all new words are p's
    abbrev Hiding : Note Name → ℕ → Type 0
    Hiding n p = (i : ℕ) → IsAmiss (later P w.drawn p) i → Everywhere (Shuns i v) s → NoteOk (Spares i) n → Everywhere (Shuns i v) t

    abbrev pub Arrived : Note Name → Type 0
    Arrived n = (p : ℕ) × Fair v w.drawn (later P w.drawn p) (readied w s) t × Hiding n p

    abbrev Comes : Note Name → Type 0
    Comes n = Does script w v s s t (Receives a (read_note (names_of s) n))

    sound : (i : ℕ) → Everywhere (Shuns i v) s → Sound (Hides i v ⊥) (readied w s)
    unfolding readied
    sound i parts = record { parts = record { things = parts.things; slots = parts.slots; lists = parts.lists; queue = parts.queue; known = parts.known; gifts = parts.gifts; outbox = tt }; more = (number, λ o. absurd o) }

    ended : (i : ℕ) (x : Done Name (Unit {0})) → Ends (Hides i v ⊥) nothing (readied w s) x → x ≡ Gives tt t → Everywhere (Shuns i v) t
    ended i x k e = let one : Ends (Hides i v ⊥) (nothing {A = Unit {0}}) (readied w s) (Gives tt t) = rw e at k in let good = one.1 in good.parts

    abbrev IsOfNews : Note Name → Type 0
    IsOfNews n = IsNews (λ x. Unit {0}) (λ x j. Unit {0}) (λ j. Unit {0}) word v (Hides zero v ⊥) n

    plain_arrived : (n : Note Name) → Provides P w.drawn a v n → Comes n → (IsOfNews n → ⊥) → Arrived n
    unfolding does names
    plain_arrived n provides d none = let e = arrival_ends P w.drawn a v word (names_of s) (readied w s) n provides in (
      e.0,
      fair_end (later P w.drawn e.0) (readied w s) t _ e.1 d.gives,
      λ i amiss parts spares. ended i _ ((note_hides i v ⊥ word a (names_of s) n (note_spares i P w.drawn (told_other script w P stands h e.0 i amiss) a v n spares provides) none).after (readied w s) (sound i parts) tt) d.gives,
    )

    -- the news of a name that settled at another vat
    module _ (x : Name) (c : ℕ) (d : Comes (Elsewhere x c)) where
      abbrev Host : ℕ
      Host = told_host v word (world.read_name (names_of s) x) (readied w s)

      no_gift : (i : ℕ) → gifts_in_note i (Elsewhere x c) ≡ 0
      unfolding gifts_in_note
      no_gift i = refl

      news_hides : (p : ℕ) → (is_in c (readied w s).noticed ≡ false → Host ≡ p) → Hiding (Elsewhere x c) p
      unfolding does names
      news_hides p told i amiss parts spares = either (drawn_or i w.drawn)
        where
          either : WasDrawn w.drawn i ⊎ (WasDrawn w.drawn i → ⊥) → Everywhere (Shuns i v) t
          either (inl old) = note_old i script w v s number parts t a (Elsewhere x c) old spares (no_gift i) d
          either (inr none) = ended i _ (news_by i v word (readied w s) a (names_of s) x c (λ e f. amiss (later_new P w.drawn p (word_of i) none ∙ sym (told e) ∙ sym f)) spares.0 (sound i parts)) d.gives

      different : true ≡ false → ⊥
      different e = cc

      news_arrived : (b : Bool) → is_in c (readied w s).noticed ≡ b → Arrived (Elsewhere x c)
      unfolding does names
      news_arrived true e = (
        v,
        fair_end (later P w.drawn v) (readied w s) t _ (news_of_gone v w.drawn (later P w.drawn v) (later_new P w.drawn v) word a (names_of s) x c (readied w s) e) d.gives,
        news_hides v (λ f. absurd (different (sym e ∙ f))),
      )
      news_arrived false e = (
        Host,
        fair_end (later P w.drawn Host) (readied w s) t _ (news_of_view v w.drawn (later P w.drawn Host) word a (names_of s) x c (readied w s) (later_new P w.drawn Host) e) d.gives,
        news_hides Host (λ f. refl),
      )

    pub arrived : (n : Note Name) → Provides P w.drawn a v n → Comes n → Arrived n
    arrived (Elsewhere x c) provides d = news_arrived x c d (is_in c (readied w s).noticed) refl
    arrived (Deliver m x verb ys) provides d = plain_arrived (Deliver m x verb ys) provides d (λ e. e)
    arrived (Open j x) provides d = plain_arrived (Open j x) provides d (λ e. e)
    arrived (Ask q j x) provides d = plain_arrived (Ask q j x) provides d (λ e. e)
    arrived (SettledTo x z) provides d = plain_arrived (SettledTo x z) provides d (λ e. e)
    arrived (Shorten x c j) provides d = plain_arrived (Shorten x c j) provides d (λ e. e)
