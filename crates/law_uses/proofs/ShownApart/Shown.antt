-- Gifts that vats know tell the provider of their word, so names that vats know are shown apart.
use Rattle.std.proofs.Common.{◌≡◌, ℕ, zero, suc, Bool, true, false, List, [], ◌∷◌, ◌++◌, Some, refl, sym, ap, ◌∙◌, inl, inr, ◌==◌}
use Rattle.std.specs.Prelude.{slice_get}
use Rattle.std.proofs.lemmas.Bool.{eqb-true, eq-eqb}
use Rattle.ev_base.specs.declared.names.Msg.{Msg as ShownMsg}
use Rattle.def_machine.specs.Values.{Name, Root, Object, Promise, Answer, Gift, Sent, Msg, key, word_of, provider_of}
use Rattle.def_machine.specs.State.{GiftEntry, Vat}
use Rattle.def_machine.proofs.Keys.{key_of}
use Rattle.def_run.specs.World.{Script, Program, Entry, World, Goes, begins, open_from, steps_from}
use Rattle.def_run.specs.Shown.{place_of, shown_name, shown_gift, msg_of}
use Rattle.law_fate.specs.Fates.Lasting.{Each}
use Rattle.law_fate.specs.Name.Names.{IsAmong, AllOf, WasDrawn, IsEventual, names_in}
use Rattle.law_fate.specs.Name.Runs.{KnowsOnce}
use Rattle.law_fate.proofs.Name.Run.{Had, name_had}
use Rattle.law_reference.specs.Reference.Cuts.{NoticesFollowCuts}
use Rattle.law_reference.specs.Reference.GiftPassing.{IsProvidedBy, IsProvided}
use Rattle.law_reference.specs.Reference.Hiding.{Shuns}
use Rattle.law_reference.specs.Reference.Standing.{IsEntered}
use Rattle.law_reference.proofs.Reference.LegRuns.{stands_of}
use Rattle.law_reference.proofs.Reference.AskRuns.{Past}
use Rattle.law_reference.proofs.Reference.AskHolds.{opened_past, stepped_past}
use Rattle.law_reference.proofs.Reference.ApartWhole.{own_stand}
use Rattle.law_uses.specs.ShownApart.ShownApart.{KnowsProviders, EachKnownGiftTellsItsProvider, ShownApart}
use Rattle.law_uses.proofs.ShownApart.Provided.{Keyed}
use Rattle.law_uses.proofs.ShownApart.Moving.{opened_keyed, stepped_keyed}

-- ---- gifts that are known

-- what stands at its host is provided
entered_provided : (P : ℕ → ℕ) (d : List ℕ) (i : ℕ) (gs : List (GiftEntry Name)) → Each (IsProvided P d) gs → IsEntered i gs → P (word_of i) ≡ provider_of i
entered_provided P d i [] h a = absurd a
entered_provided P d i (g ∷ gs) h (inl e) = rw e at (h.0.1 ∙ sym h.0.2)
entered_provided P d i (g ∷ gs) h (inr a) = entered_provided P d i gs h.1 a

module _ (script : Script) (w : World) (past : Past script w) (own : (v i : ℕ) (s : Vat Name) → slice_get w.vats v ≡ Some s → IsAmong (Gift v i) (names_in s.known) → IsEntered i s.gifts) (P : ℕ → ℕ) (h : Keyed P w) where
  module _ (v g i : ℕ) (s : Vat Name) (at : slice_get w.vats v ≡ Some s) (a : IsAmong (Gift g i) (names_in s.known)) where
    drawn : WasDrawn w.drawn i
    drawn = let k = (stands_of script w past.0).vats v s at in (name_had (Had script w v s) s.known (Gift g i) k.parts.known a).0

    its_own : g ≡ v → P (word_of i) ≡ provider_of i
    its_own e = entered_provided P w.drawn i s.gifts (h.vats v s at).1 (own v i s at (rw e at a))

    its_provider : P (word_of i) ≡ provider_of i
    its_provider = either (P (word_of i) == provider_of i) refl
      where
        different : true ≡ false → ⊥
        different e = cc

        hosted : (P (word_of i) ≡ provider_of i → ⊥) → g ≡ v
        hosted amiss = let parts = (h.hidden i amiss drawn).0 v s at in name_had (Shuns i v) s.known (Gift g i) parts.known a refl

        either : (b : Bool) → (P (word_of i) == provider_of i) ≡ b → P (word_of i) ≡ provider_of i
        either true e = eqb-true (P (word_of i)) (provider_of i) e
        either false e = its_own (hosted (λ f. different (sym (eq-eqb (P (word_of i)) (provider_of i) f) ∙ e)))

    pub gift_provided : IsProvidedBy P w.drawn i (provider_of i)
    gift_provided = (drawn, its_provider, refl)

  pub known_provided : KnowsProviders w
  known_provided = (P, h.links, λ v s e. (h.vats v s e).1, gift_provided)

pub each_tells : EachKnownGiftTellsItsProvider
each_tells script once = (
  λ ps rest w i e. let k = opened_keyed script once ps rest w i e in known_provided script w (opened_past script once ps rest w i e) ((own_stand script once).0 ps rest w i e) k.0 k.1,
  λ w x es n c o e. let k = stepped_keyed script once w x es n o e in known_provided script x (stepped_past script once w x es n o e) ((own_stand script once).1 w x es n c o e) k.0 k.1,
)

-- ---- places of words

zero_suc : (n : ℕ) → zero ≡ suc n → ⊥
zero_suc n e = cc

suc_same : (m n : ℕ) → suc m ≡ suc n → m ≡ n
suc_same m n e = cc

-- what is not the first is among the rest
later_among : (d a : ℕ) (ds : List ℕ) → (d == a) ≡ false → IsAmong a (d ∷ ds) → IsAmong a ds
later_among d a ds e (inl f) = absurd (different (sym (eq-eqb d a (sym f)) ∙ e))
  where
    different : true ≡ false → ⊥
    different g = cc
later_among d a ds e (inr i) = i

place_or : (d a b m n : ℕ) (x y : Bool) → (d == a) ≡ x → (d == b) ≡ y → ((d == a) ≡ false → (d == b) ≡ false → m ≡ n → a ≡ b)
    → ◌≡◌ {A = ℕ} (elim x [ true ↦ zero | false ↦ suc m ]) (elim y [ true ↦ zero | false ↦ suc n ]) → a ≡ b
place_or d a b m n true true e f rest g = sym (eqb-true d a e) ∙ eqb-true d b f
place_or d a b m n true false e f rest g = absurd (zero_suc n g)
place_or d a b m n false true e f rest g = absurd (zero_suc m (sym g))
place_or d a b m n false false e f rest g = rest e f (suc_same m n g)

-- words that were drawn have places of their own
place_same : (ds : List ℕ) (a b : ℕ) → IsAmong a ds → IsAmong b ds → place_of ds a ≡ place_of ds b → a ≡ b
unfolding place_of
place_same [] a b i j e = absurd i
place_same (d ∷ ds) a b i j e = place_or d a b (place_of ds a) (place_of ds b) (d == a) (d == b) refl refl (λ f g k. place_same ds a b (later_among d a ds f i) (later_among d b ds g j) k) e

-- ---- names that are known

module _ (P : ℕ → ℕ) (d : List ℕ) where
  -- a gift tells the provider of its word
  abbrev TellsProvider : Name → Type 0
  TellsProvider (Gift h i) = IsProvidedBy P d i (provider_of i)
  TellsProvider other = Unit {0}

  -- keys of one word are one
  key_same : (i j : ℕ) → IsProvidedBy P d i (provider_of i) → IsProvidedBy P d j (provider_of j) → place_of d (word_of i) ≡ place_of d (word_of j) → i ≡ j
  key_same i j a b e = let f : word_of i ≡ word_of j = place_same d (word_of i) (word_of j) a.0 b.0 e in
      sym (key_of (P (word_of i)) i (sym a.1)) ∙ ap (λ (x : ℕ). key (P x) x) f ∙ key_of (P (word_of j)) j (sym b.1)

  msg_same : (s n s' n' : ℕ) → s ≡ s' → n ≡ n' → ◌≡◌ {A = Msg} (record { sender = s; number = n }) (record { sender = s'; number = n' })
  msg_same s n s' n' e f = rw (e, f) refl

  answer_same : (h g : ℕ) (a b : Msg) → shown_name d (Answer h a) ≡ shown_name d (Answer g b) → Answer h a ≡ Answer g b
  unfolding shown_name msg_of
  answer_same h g a b e = let f : h ≡ g = cc in let z : msg_of a ≡ msg_of b = cc in let k : a.sender ≡ b.sender = ap (λ (x : ShownMsg). x.sender) z in let l : a.number ≡ b.number = ap (λ (x : ShownMsg). x.number) z in
      let m : a ≡ b = msg_same a.sender a.number b.sender b.number k l in rw (f, m) refl

  gift_same : (h g i j : ℕ) → IsProvidedBy P d i (provider_of i) → IsProvidedBy P d j (provider_of j) → shown_name d (Gift h i) ≡ shown_name d (Gift g j) → Gift h i ≡ Gift g j
  unfolding shown_name shown_gift
  gift_same h g i j a b e = let f : h ≡ g = cc in let k : place_of d (word_of i) ≡ place_of d (word_of j) = cc in let l : i ≡ j = key_same i j a b k in rw (f, l) refl

  -- what comes to be known is shown apart
  pub same_shown : (m n : Name) → IsEventual m → IsEventual n → TellsProvider m → TellsProvider n → shown_name d m ≡ shown_name d n → m ≡ n
  unfolding shown_name shown_gift
  same_shown (Root v) (Root u) o p a b e = let f : v ≡ u = cc in rw f refl
  same_shown (Promise v i) (Promise u j) o p a b e = let f : v ≡ u = cc in let g : i ≡ j = cc in rw (f, g) refl
  same_shown (Answer h x) (Answer u y) o p a b e = answer_same h u x y e
  same_shown (Gift h i) (Gift u j) o p a b e = gift_same h u i j a b e
  same_shown (Object v i) n o p a b e = absurd o
  same_shown (Sent x) n o p a b e = absurd o
  same_shown m (Object u j) o p a b e = absurd p
  same_shown m (Sent y) o p a b e = absurd p
  same_shown other (Promise u j) o p a b e = cc
  same_shown other (Answer u y) o p a b e = cc
  same_shown other (Gift u j) o p a b e = cc
  same_shown other (Root u) o p a b e = cc

-- what holds of each of these holds of one of them
among_all : (Q : Name → Type 0) (n : Name) (ns : List Name) → AllOf Q ns → IsAmong n ns → Q n
among_all Q n [] h a = absurd a
among_all Q n (m ∷ ns) h (inl e) = rw (sym e) at h.0
among_all Q n (m ∷ ns) h (inr a) = among_all Q n ns h.1 a

module _ (script : Script) (w : World) (past : Past script w) (k : KnowsProviders w) where
  eventual : (v : ℕ) (s : Vat Name) → slice_get w.vats v ≡ Some s → (n : Name) → IsAmong n (names_in s.known) → IsEventual n
  eventual v s at n a = let i = (stands_of script w past.0).vats v s at in among_all IsEventual n (names_in s.known) i.kept.apart a

  tells : (v : ℕ) (s : Vat Name) → slice_get w.vats v ≡ Some s → (n : Name) → IsAmong n (names_in s.known) → TellsProvider k.0 w.drawn n
  tells v s at (Gift h i) a = k.3 v h i s at a
  tells v s at other a = tt

  pub world_apart : ShownApart w
  world_apart u v s t at there m n a b e = same_shown k.0 w.drawn m n (eventual u s at m a) (eventual v t there n b) (tells u s at m a) (tells v t there n b) e

pub opened_apart : (script : Script) → KnowsOnce script → (ps rest : List Program) (w : World) → script.vats ≡ ps ++ rest → open_from script zero ps (begins script) ≡ Goes w → ShownApart w
opened_apart script once ps rest w i e = world_apart script w (opened_past script once ps rest w i e) ((each_tells script once).0 ps rest w i e)

pub stepped_apart : (script : Script) → KnowsOnce script → (w x : World) (es : List Entry) (k : ℕ) → NoticesFollowCuts es → open_from script zero script.vats (begins script) ≡ Goes w → steps_from script es k w ≡ Goes x → ShownApart x
stepped_apart script once w x es k c o e = world_apart script x (stepped_past script once w x es k o e) ((each_tells script once).1 w x es k c o e)
