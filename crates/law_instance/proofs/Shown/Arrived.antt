-- A note that arrives keeps that each word that was drawn has one provider, which is below 32, and that gifts whose keys tell another are hidden.
use Rattle.std.proofs.Common.{◌≡◌, ℕ, zero, ◌<◌, Bool, true, false, List, refl, sym, ◌∙◌, ◌⊎◌, inl, inr}
use Rattle.def_machine.specs.Values.{Name, word_of}
use Rattle.def_machine.specs.State.{Note, Deliver, Open, Ask, SettledTo, Elsewhere, Shorten, Vat, Done, Gives, is_in}
use Rattle.law_machine.specs.Machine.Steps.{Receives, does, After}
use Rattle.def_run.specs.Draws.{draw_word}
use Rattle.def_run.specs.World as world
use Rattle.def_run.specs.World.{Script, Link, World, names, names_of, read_note, readied, put_at, push_all}
use Rattle.law_fate.specs.Name.Names.{WasDrawn, NoteOk, Everywhere}
use Rattle.law_fate.proofs.Name.Facts.{nothing}
use Rattle.law_fate.proofs.Name.Care.{Ends, Sound}
use Rattle.law_fate.proofs.Name.Run.{Stands}
use Rattle.law_reference.specs.Reference.GiftPassing.{gifts_in_note, Provides}
use Rattle.law_reference.specs.Reference.Hiding.{Shuns, Spares}
use Rattle.law_reference.proofs.Reference.Arrivals.{IsNews}
use Rattle.law_reference.proofs.Reference.Moves.{Does}
use Rattle.law_reference.proofs.Reference.Puts.{Fair, provides_up, in_among, among_in}
use Rattle.law_reference.proofs.Reference.ArrivePuts.{told_host, news_of_gone, news_of_view}
use Rattle.law_reference.proofs.Reference.StepsPuts.{later, later_new, later_up}
use Rattle.law_reference.proofs.Reference.HideCare.{Hides, note_hides}
use Rattle.law_reference.proofs.Reference.HideMoves.{note_old}
use Rattle.law_uses.proofs.ShownApart.NotesSpare.{note_spares}
use Rattle.law_uses.proofs.ShownApart.NewsHides.{news_by}
use Rattle.law_uses.proofs.ShownApart.Provided.{IsAmiss, Keyed, told_other}
use Rattle.law_reference.proofs.Reference.ArrivePuts.{fair_arrive}

-- a key is that of a word that was drawn or not
drawn_or : (i : ℕ) (d : List ℕ) → WasDrawn d i ⊎ (WasDrawn d i → ⊥)
drawn_or i d = either (is_in (word_of i) d) refl
  where
    different : true ≡ false → ⊥
    different e = cc

    either : (b : Bool) → is_in (word_of i) d ≡ b → WasDrawn d i ⊎ (WasDrawn d i → ⊥)
    either true e = inl (in_among (word_of i) d e)
    either false e = inr (λ a. different (sym (among_in (word_of i) d a) ∙ e))

-- ---- the step of a vat

module _ (script : Script) (w : World) (P : ℕ → ℕ) (v : ℕ) (s : Vat Name) where
  abbrev word : ℕ → ℕ
  word = draw_word script.key

  fair_end : (F : ℕ → ℕ) (r t : Vat Name) (d : Done Name (Unit {0})) → After (Fair v w.drawn F) r d → d ≡ Gives tt t → Fair v w.drawn F r t
  fair_end F r t d h e = let one : Fair v w.drawn F r t = rw e at h in one

  -- a note that arrives: its words are the vat's own, or are of the host of the name that is viewed
  module _ (t : Vat Name) (a : ℕ) (number : s.number ≡ v) (stands : Stands script w) (h : Keyed P w) (low : v < 32) where
    -- of a key that is amiss where all new words are p's
    abbrev Hiding : Note Name → ℕ → Type 0
    Hiding n p = (i : ℕ) → IsAmiss (later P w.drawn p) i → Everywhere (Shuns i v) s → NoteOk (Spares i) n → Everywhere (Shuns i v) t

    abbrev pub Arrived : Note Name → Type 0
    Arrived n = (p : ℕ) × (p < 32) × Fair v w.drawn (later P w.drawn p) (readied w s) t × Hiding n p

    abbrev Comes : Note Name → Type 0
    Comes n = Does script w v s s t (Receives a (read_note (names_of s) n))

    sound : (i : ℕ) → Everywhere (Shuns i v) s → Sound (Hides i v ⊥) (readied w s)
    unfolding readied
    sound i parts = record { parts = record { things = parts.things; slots = parts.slots; lists = parts.lists; queue = parts.queue; known = parts.known; gifts = parts.gifts; outbox = tt }; more = (number, λ o. absurd o) }

    ended : (i : ℕ) (x : Done Name (Unit {0})) → Ends (Hides i v ⊥) nothing (readied w s) x → x ≡ Gives tt t → Everywhere (Shuns i v) t
    ended i x k e = let one : Ends (Hides i v ⊥) (nothing {A = Unit {0}}) (readied w s) (Gives tt t) = rw e at k in let good = one.1 in good.parts

    -- the host of a name of which news comes is one of few
    abbrev pub HostsLow : Note Name → Type 0
    HostsLow (Elsewhere x c) = told_host v word (world.read_name (names_of s) x) (readied w s) < 32
    HostsLow other = Unit {0}

    abbrev IsOfNews : Note Name → Type 0
    IsOfNews n = IsNews (λ x. Unit {0}) (λ x j. Unit {0}) (λ j. Unit {0}) word v (Hides zero v ⊥) n

    plain_arrived : (n : Note Name) → Fair v w.drawn (later P w.drawn v) (readied w s) t → Provides P w.drawn a v n → Comes n → (IsOfNews n → ⊥) → Arrived n
    unfolding does names
    plain_arrived n fair provides d none = (
      v,
      low,
      fair,
      λ i amiss parts spares. ended i _ ((note_hides i v ⊥ word a (names_of s) n (note_spares i P w.drawn (told_other script w P stands h v i amiss) a v n spares provides) none).after (readied w s) (sound i parts) tt) d.gives,
    )

    its_provides : (n : Note Name) → Provides P w.drawn a v n → Provides (later P w.drawn v) w.drawn a v n
    its_provides n provides = provides_up P (later P w.drawn v) w.drawn w.drawn (later_up P w.drawn v w.drawn (λ x b. b)) a v n provides

    -- the news of a name that settled at another vat
    module _ (x : Name) (c : ℕ) (d : Comes (Elsewhere x c)) where
      abbrev Host : ℕ
      Host = told_host v word (world.read_name (names_of s) x) (readied w s)

      no_gift : (i : ℕ) → gifts_in_note i (Elsewhere x c) ≡ 0
      unfolding gifts_in_note
      no_gift i = refl

      news_hides : (p : ℕ) → (is_in c (readied w s).noticed ≡ false → Host ≡ p) → Hiding (Elsewhere x c) p
      unfolding does names
      news_hides p told i amiss parts spares = either (drawn_or i w.drawn)
        where
          either : WasDrawn w.drawn i ⊎ (WasDrawn w.drawn i → ⊥) → Everywhere (Shuns i v) t
          either (inl old) = note_old i script w v s number parts t a (Elsewhere x c) old spares (no_gift i) d
          either (inr none) = ended i _ (news_by i v word (readied w s) a (names_of s) x c (λ e f. amiss (later_new P w.drawn p (word_of i) none ∙ sym (told e) ∙ sym f)) spares.0 (sound i parts)) d.gives

      different : true ≡ false → ⊥
      different e = cc

      news_arrived : Host < 32 → (b : Bool) → is_in c (readied w s).noticed ≡ b → Arrived (Elsewhere x c)
      unfolding does names
      news_arrived far true e = (
        v,
        low,
        fair_end (later P w.drawn v) (readied w s) t _ (news_of_gone v w.drawn (later P w.drawn v) (later_new P w.drawn v) word a (names_of s) x c (readied w s) e) d.gives,
        news_hides v (λ f. absurd (different (sym e ∙ f))),
      )
      news_arrived far false e = (
        Host,
        far,
        fair_end (later P w.drawn Host) (readied w s) t _ (news_of_view v w.drawn (later P w.drawn Host) word a (names_of s) x c (readied w s) (later_new P w.drawn Host) e) d.gives,
        news_hides Host (λ f. refl),
      )

    pub arrived : (n : Note Name) → Provides P w.drawn a v n → Comes n → HostsLow n → Arrived n
    unfolding does names
    arrived (Elsewhere x c) provides d far = news_arrived x c d far (is_in c (readied w s).noticed) refl
    arrived (Deliver m x verb ys) provides d far = plain_arrived (Deliver m x verb ys) (fair_end (later P w.drawn v) (readied w s) t _ ((fair_arrive v w.drawn (later P w.drawn v) (later_new P w.drawn v) word a (names_of s) (Deliver m x verb ys) tt (its_provides (Deliver m x verb ys) provides)).after (readied w s)) d.gives) provides d (λ e. e)
    arrived (Open j x) provides d far = plain_arrived (Open j x) (fair_end (later P w.drawn v) (readied w s) t _ ((fair_arrive v w.drawn (later P w.drawn v) (later_new P w.drawn v) word a (names_of s) (Open j x) tt (its_provides (Open j x) provides)).after (readied w s)) d.gives) provides d (λ e. e)
    arrived (Ask q j x) provides d far = plain_arrived (Ask q j x) (fair_end (later P w.drawn v) (readied w s) t _ ((fair_arrive v w.drawn (later P w.drawn v) (later_new P w.drawn v) word a (names_of s) (Ask q j x) tt (its_provides (Ask q j x) provides)).after (readied w s)) d.gives) provides d (λ e. e)
    arrived (SettledTo x z) provides d far = plain_arrived (SettledTo x z) (fair_end (later P w.drawn v) (readied w s) t _ ((fair_arrive v w.drawn (later P w.drawn v) (later_new P w.drawn v) word a (names_of s) (SettledTo x z) tt (its_provides (SettledTo x z) provides)).after (readied w s)) d.gives) provides d (λ e. e)
    arrived (Shorten x c j) provides d far = plain_arrived (Shorten x c j) (fair_end (later P w.drawn v) (readied w s) t _ ((fair_arrive v w.drawn (later P w.drawn v) (later_new P w.drawn v) word a (names_of s) (Shorten x c j) tt (its_provides (Shorten x c j) provides)).after (readied w s)) d.gives) provides d (λ e. e)
