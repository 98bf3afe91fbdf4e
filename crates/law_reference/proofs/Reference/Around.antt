-- What laws of runs say of a world that a run has reached, as far as lists ask for it; and that what is asked of a note that arrives follows.
use Rattle.std.proofs.Common.{◌≡◌, ℕ, zero, Bool, true, false, List, [], ◌∷◌, Option, Some, None, refl, sym, ap, subst, ◌∙◌, ◌⊎◌, inl, inr}
use Rattle.std.specs.Prelude.{slice_get}
use Rattle.def_machine.specs.Values.{Value, Items, Ref, Name, Gift, host_of}
use Rattle.def_machine.specs.State.{Settled, Known, Passed, Many, Note, Deliver, Open, Ask, SettledTo, Elsewhere, Shorten, Vat, is_in}
use Rattle.def_machine.specs.Refs.{entry_of, standing_of, standing_in, host_at, host_in}
use Rattle.law_machine.specs.Machine.Breaks.{still_waits}
use Rattle.def_run.specs.World as world
use Rattle.def_run.specs.World.{Link, World, read_note, names_of, readied}
use Rattle.law_fate.specs.Name.Names.{AllOf, IsAmong, WasDrawn, Everywhere, NoteOk, KnownOk, IsMade, IsHad, IsKnownIn, WasMade, names_in}
use Rattle.law_fate.specs.Fates.Lasting.{Each, NoteWell}
use Rattle.law_reference.specs.Reference.Notes.{IsBetween, LinkFits, NoteSpared}
use Rattle.law_reference.specs.Reference.Rest.{HostsRest}
use Rattle.law_reference.specs.Reference.ListRingless.{IsObjectName, IsView, WaitsSpared, told_name, NextIsNew, NoteBehind, IsHeeded, heeded}
use Rattle.law_reference.proofs.Reference.Told.{told_well, told_is, told_mail, plain_passeds, spared_passed, settles_well, IsMany, if_many, unknown, found_all, found_among, gift_unknown}
use Rattle.law_reference.proofs.Reference.VatStep.{K, Seen, NoteTrue, LinkTrue, RingsBy, OpenBack, link_found, link_all, standing_any}

pub each_all : {A : Type 0} (P : A → Type 0) (xs : List A) → Each P xs → AllOf P xs
each_all P [] h = tt
each_all P (x ∷ xs) h = (h.0, each_all P xs h.1)

list_object : (o : Name) (c : ℕ) → Settled (Ref o) ≡ Settled (Items c) → ⊥
list_object o c e = cc

some_vat : (s t : Vat Name) → Some s ≡ Some t → s ≡ t
some_vat s t e = cc

nothing_in : (h : ℕ) → is_in h [] ≡ false
unfolding is_in
nothing_in h = refl

module _ (word : ℕ → ℕ) where
  -- in a world after any entries
  pub record Around (w : World) : Type 0 where
    pub made : (v : ℕ) (s : Vat Name) → slice_get w.vats v ≡ Some s → Everywhere (IsMade w.vats w.drawn) s
    pub had : (v : ℕ) (s : Vat Name) → slice_get w.vats v ≡ Some s → Everywhere (IsHad (names_in s.known) s.mails) s
    pub next : (v : ℕ) (s : Vat Name) → slice_get w.vats v ≡ Some s → (h i : ℕ) → (WasDrawn w.drawn i → ⊥) → IsAmong (Gift h i) (names_in s.known) → ⊥
    pub notes : AllOf (λ (l : Link). AllOf (NoteOk (IsMade w.vats w.drawn)) l.notes) w.links
    pub ends : AllOf LinkFits w.links
    pub well : AllOf (λ (l : Link). Each NoteWell l.notes) w.links
    pub rests : (v : ℕ) (s : Vat Name) → slice_get w.vats v ≡ Some s → HostsRest (K word v) s
    pub here : (v : ℕ) (s : Vat Name) → slice_get w.vats v ≡ Some s → is_in v s.noticed ≡ false
    pub spared : (u v : ℕ) (s : Vat Name) (l : Link) → slice_get w.vats v ≡ Some s → world.link_at u v w.links ≡ Some l → l.cut ≡ false → AllOf (NoteSpared s) l.notes

  -- what waits at a vat has a host that it did not notice
  found_rests : (v : ℕ) (s : Vat Name) → HostsRest (K word v) s → WaitsSpared (K word v) v s.known s.noticed
  unfolding standing_of standing_in host_at host_in
  found_rests v s h n k e w = ap (λ o. is_in (host_in s.number o) s.noticed) (sym e) ∙ h n (ap (λ o. still_waits (standing_in o)) e ∙ w)

  pub waits_spared : (w : World) → Around w → (v : ℕ) (s : Vat Name) → slice_get w.vats v ≡ Some s → WaitsSpared (K word v) v s.known s.noticed
  waits_spared w a v s e = found_rests v s (a.rests v s e)

  -- ---- words that were not drawn

  among_all : (P : Name → Type 0) (xs : List Name) (x : Name) → AllOf P xs → IsAmong x xs → P x
  among_all P [] x h a = absurd a
  among_all P (y ∷ ys) x h (inl e) = subst P (sym e) h.0
  among_all P (y ∷ ys) x h (inr a) = among_all P ys x h.1 a

  -- a gift that waits is known
  waits_known : (v : ℕ) (s : Vat Name) → Everywhere (IsHad (names_in s.known) s.mails) s → (h d : ℕ) (p : Name) (k : Known Name) → entry_of (K word v) s.known p ≡ Some k → IsAmong (Gift h d) k.waiting → IsAmong (Gift h d) (names_in s.known)
  waits_known v s had h d p k e a = among_all (λ (n : Name). IsKnownIn (names_in s.known) n) k.waiting (Gift h d) (found_all word v (KnownOk (IsHad (names_in s.known) s.mails)) s.known p k had.known e).3 a

  pub next_new : (w : World) → Around w → (v : ℕ) (s : Vat Name) → slice_get w.vats v ≡ Some s → NextIsNew (K word v) (readied w s)
  unfolding readied
  next_new w a v s e = (
    λ h i new. unknown word v s.known (Gift h i) (a.next v s e h i new),
    λ p i new. gift_unknown w.vats w.drawn p i s.gifts new (a.made v s e).gifts,
    λ h i new p k f j. a.next v s e h i new (waits_known v s (a.had v s e) h i p k f j),
  )

  settled_head : (o : Option (Known Name)) (y : Value Name) → standing_in o ≡ Settled y → (k : Known Name) × (o ≡ Some k)
  unfolding standing_in
  settled_head None y e = cc
  settled_head (Some k) y e = (k, refl)

  -- what settled is known
  settled_known : (v : ℕ) (s : Vat Name) (n : Name) (y : Value Name) → standing_of (K word v) s.known n ≡ Settled y → IsAmong n (names_in s.known)
  unfolding standing_of
  settled_known v s n y e = let k = settled_head (entry_of (K word v) s.known n) y e in found_among word v s.known n k.0 k.1

  module _ (D E : ℕ → Type 0) (w : World) (a : Around w) (back : (i : ℕ) → E i → D i ⊎ (WasDrawn w.drawn i → ⊥)) where
    back_or : (v : ℕ) (s : Vat Name) → slice_get w.vats v ≡ Some s → (n : Name) → IsAmong n (names_in s.known) → IsView E n → IsView D n
    back_or v s e (Gift h i) known view = pick (back i view)
      where
        pick : D i ⊎ (WasDrawn w.drawn i → ⊥) → D i
        pick (inl d) = d
        pick (inr new) = absurd (a.next v s e h i new known)
    back_or v s e other known view = absurd view

    waiting_known : (v : ℕ) (s : Vat Name) → slice_get w.vats v ≡ Some s → (n p : Name) (k : Known Name) → entry_of (K word v) s.known p ≡ Some k → IsAmong n k.waiting → IsView E n → IsAmong n (names_in s.known)
    waiting_known v s e (Gift h i) p k f j view = waits_known v s (a.had v s e) h i p k f j
    waiting_known v s e other p k f i view = absurd view

    -- no name that waits, and none that settled, is a view under a new word
    pub waits_back : (v : ℕ) (s : Vat Name) → slice_get w.vats v ≡ Some s → (n p : Name) (k : Known Name) → entry_of (K word v) s.known p ≡ Some k → IsAmong n k.waiting → IsView E n → IsView D n
    waits_back v s e n p k f i view = back_or v s e n (waiting_known v s e n p k f i view) view

    pub settled_back : (v : ℕ) (s : Vat Name) → slice_get w.vats v ≡ Some s → (n : Name) (y : Value Name) → standing_of (K word v) s.known n ≡ Settled y → IsView E n → IsView D n
    settled_back v s e n y f view = back_or v s e n (settled_known v s n y f) view

    draw_back : (i : ℕ) → WasDrawn w.drawn i → D i ⊎ (WasDrawn w.drawn i → ⊥) → D i
    draw_back i l (inl d) = d
    draw_back i l (inr new) = absurd (new l)

    -- nor is any under way opened under it
    pub open_back : (n : Note Name) → NoteOk (IsMade w.vats w.drawn) n → OpenBack word D E n
    open_back (Open i n) h = λ e. draw_back i h.0 (back i e)
    open_back other h = tt

  -- ---- a note that arrives

  module _ (w : World) (a : Around w) (D : ℕ → Type 0) (rings : RingsBy word false D w) (from to : ℕ) (l : Link) (s : Vat Name) (found : world.link_at from to w.links ≡ Some l) (uncut : l.cut ≡ false) (there : slice_get w.vats to ≡ Some s) where
    abbrev R : Vat Name
    R = readied w s

    abbrev ks : List Name
    ks = names_of s

    abbrev Behind : Bool → Note Name → Type 0
    Behind heed n = IsHeeded heed (read_note ks n) × NoteBehind (K word to) to D (Seen word w.vats to) from (heeded heed R) R (read_note ks n)

    ends : (l.from ≡ from) × (l.to ≡ to)
    ends = link_found from to w.links l found

    apart : from ≡ to → ⊥
    apart e = (link_all (LinkTrue word D w.vats) from to w.links l rings.links found).0 (ends.0 ∙ e ∙ sym ends.1)

    -- what the note says is true, and of the sender
    abbrev True : Note Name → Type 0
    True n = NoteTrue word D w.vats from n

    abbrev Fits : Note Name → Type 0
    Fits n = IsBetween from to n

    -- a name of the sender that may be viewed
    told_seen : (n : Name) → host_of n ≡ from → (t : Vat Name) → slice_get w.vats from ≡ Some t → (o : Name) → standing_of (K word from) t.known n ≡ Settled (Ref o) → Seen word w.vats to n
    told_seen n e t f o g = (λ h. apart (sym e ∙ h), (t, ap (λ m. slice_get w.vats m) e ∙ f, (o, standing_any word zero from t.known n ∙ g)))

    -- what settled to a list is neither viewed nor a view
    unseen : (n : Name) → host_of n ≡ from → (t : Vat Name) → slice_get w.vats from ≡ Some t → (c : ℕ) → standing_of (K word from) t.known n ≡ Settled (Items c) → Seen word w.vats to n → ⊥
    unseen n e t f c g seen = let same : seen.1.0 ≡ t = some_vat seen.1.0 t (sym seen.1.1 ∙ ap (λ m. slice_get w.vats m) e ∙ f) in
        let at : standing_of (K word zero) t.known n ≡ Settled (Ref seen.1.2.0) = subst (λ (x : Vat Name). standing_of (K word zero) x.known n ≡ Settled (Ref seen.1.2.0)) same seen.1.2.1 in
        list_object seen.1.2.0 c (sym at ∙ standing_any word zero from t.known n ∙ g)

    no_view : (n : Name) (t : Vat Name) → slice_get w.vats from ≡ Some t → (c : ℕ) → standing_of (K word from) t.known n ≡ Settled (Items c) → IsView D n → ⊥
    no_view n t f c g view = ((rings.vats from t f).names.settled n (Items c) g).1 c refl view

    many_apart : (n : Name) (y : Passed Name) → Fits (SettledTo n y) → True (SettledTo n y) → IsMany y → (Seen word w.vats to (told_name (world.read_name ks n)) → ⊥) × (IsView D (told_name (world.read_name ks n)) → ⊥)
    many_apart n (Many ys) e h m = subst (λ x. (Seen word w.vats to x → ⊥) × (IsView D x → ⊥)) (sym (told_is ks n)) (unseen n e h.0 h.1 h.2.0 h.2.1, no_view n h.0 h.1 h.2.0 h.2.1)
    many_apart n other e h m = absurd m

    gift_apart : (n : Name) → WasMade w.vats w.drawn n → (g i : ℕ) → (WasDrawn w.drawn i → ⊥) → n ≡ Gift g i → ⊥
    gift_apart n h g i new e = new (subst (λ x. WasMade w.vats w.drawn x) e h)

    told_apart : (n : Name) → WasMade w.vats w.drawn n → (g i : ℕ) → (WasDrawn w.drawn i → ⊥) → told_name (world.read_name ks n) ≡ Gift g i → ⊥
    told_apart n h g i new e = gift_apart n h g i new (sym (told_is ks n) ∙ e)

    pub behind : (n : Note Name) → NoteOk (IsMade w.vats w.drawn) n → Fits n → NoteWell n → NoteSpared s n → True n → (heed : Bool) × Behind heed n
    unfolding read_note readied
    behind (Deliver d x verb ys) ok fits well spared told = (false, (tt, (told_mail ks w.vats w.drawn d.message ok.0, told_well [] (world.read_all ys ks).known w.vats w.drawn x ok.1 (λ i. nothing_in (host_of x)), plain_passeds w.vats w.drawn ys ks ok.2)))
    behind (Open i x) ok fits well spared told = (true, (refl, (told_well s.noticed ks w.vats w.drawn x ok.1 (λ e. spared), subst (λ m. IsObjectName m ⊎ (D i → ⊥)) (sym (told_is ks x)) told.2)))
    behind (Ask p i x) ok fits well spared told = (false, (tt, tt))
    behind (SettledTo x y) ok fits well spared told = (
      true,
      (
        refl,
        (
          told_well s.noticed ks w.vats w.drawn x ok.0 (λ e. spared.0),
          spared_passed w.vats w.drawn s y (world.known_after ks x) ok.1 spared.1,
          settles_well (world.known_after ks x) y well,
          if_many ((Seen word w.vats to (told_name (world.read_name ks x)) → ⊥) × (IsView D (told_name (world.read_name ks x)) → ⊥)) (world.known_after ks x) y (many_apart x y fits told),
        ),
      ),
    )
    behind (Elsewhere x c) ok fits well spared told = (
      false,
      (
        tt,
        (
          told_well [] ks w.vats w.drawn x ok.0 (λ i. nothing_in (host_of x)),
          (λ e. apart (sym fits ∙ ap host_of (sym (told_is ks x)) ∙ e)),
          subst (λ m. Seen word w.vats to m) (sym (told_is ks x)) (told_seen x fits told.0 told.1 told.2.0 told.2.1),
          next_new w a to s there,
          told_apart x ok.0,
        ),
      ),
    )
    behind (Shorten x c i) ok fits well spared told = (false, (tt, told_well [] ks w.vats w.drawn x ok.0 (λ e. nothing_in (host_of x))))
