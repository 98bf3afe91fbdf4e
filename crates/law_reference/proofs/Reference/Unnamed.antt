-- What a note does not name: what its sender does not know, and what is of a third vat.
use Rattle.std.proofs.Common.{◌≡◌, ℕ, List, sym, ap, subst, ◌∙◌, ◌⊎◌, inl, inr}
use Rattle.def_machine.specs.Values.{Value, Ref, Name, Answer, Gift, Msg, host_of}
use Rattle.def_machine.specs.State.{Passed, Passeds, Plain, AGift, Many, NoMore, More, Note, Deliver, Open, Ask, SettledTo, Elsewhere, Shorten, Vat}
use Rattle.law_fate.specs.Name.Names.{Bit, Named, AllOf, IsKnownIn, IsEventual, ValueOk, PassedOk, PassedsOk, NoteOk, names_in}
use Rattle.law_fate.proofs.Name.Facts.{all_map, note_up}
use Rattle.law_reference.specs.Reference.Notes.{IsBetween, IsOfEither, PassesBetween, AllPassBetween, Carries}
use Rattle.law_reference.specs.Reference.Behind.{Avoids, NamesNot, IsKnownTo as KnowsIn}

module _ (X : Name) where
  -- what is not known is not named
  knows_not : (s : Vat Name) → (IsKnownIn (names_in s.known) X → ⊥) → (b : Bit Name) → KnowsIn s b → Avoids X b
  knows_not s f (Named n) h = λ e. f (subst (λ z. IsKnownIn (names_in s.known) z) e h)
  knows_not s f other h = tt

  pub not_named : (s : Vat Name) → (IsKnownIn (names_in s.known) X → ⊥) → (n : Note Name) → NoteOk (KnowsIn s) n → NamesNot X n
  not_named s f n k = note_up (KnowsIn s) (Avoids X) (knows_not s f) n k

  pub all_not : (s : Vat Name) → (IsKnownIn (names_in s.known) X → ⊥) → (ns : List (Note Name)) → AllOf (NoteOk (KnowsIn s)) ns → AllOf (NamesNot X) ns
  all_not s f ns h = all_map (not_named s f) ns h

  -- ---- a name of a third vat

  other_host : (n : Name) (u : ℕ) → host_of n ≡ u → (host_of X ≡ u → ⊥) → n ≡ X → ⊥
  other_host n u h f e = f (sym (ap host_of e) ∙ h)

  module _ (a b : ℕ) (not_a : host_of X ≡ a → ⊥) (not_b : host_of X ≡ b → ⊥) where
    either_host : (n : Name) → (host_of n ≡ a) ⊎ (host_of n ≡ b) → n ≡ X → ⊥
    either_host n (inl h) e = other_host n a h not_a e
    either_host n (inr h) e = other_host n b h not_b e

    value_not : (y : Value Name) → IsOfEither a b y → ValueOk (Avoids X) y
    value_not (Ref n) h = either_host n h
    value_not other h = tt

    mutual
      passed_not : (y : Passed Name) → PassesBetween a b y → PassedOk (Avoids X) y
      passed_not (Plain y) h = value_not y h
      passed_not (AGift c i) h = (tt, tt)
      passed_not (Many ys) h = passeds_not ys h

      passeds_not : (ys : Passeds Name) → AllPassBetween a b ys → PassedsOk (Avoids X) ys
      passeds_not NoMore h = tt
      passeds_not (More y ys) h = (passed_not y h.0, passeds_not ys h.1)

    -- a note between two others does not name it
    third_not : IsEventual X → (n : Note Name) → IsBetween a b n → Carries a b n → NamesNot X n
    third_not eventual (Deliver id n verb ys) h k = (tt, other_host n b h not_b, passeds_not ys k.0)
    third_not eventual (Open i n) h k = (tt, other_host n b h not_b)
    third_not eventual (Ask p i n) h k = (tt, other_host n b h not_b)
    third_not eventual (SettledTo n y) h k = (other_host n a h not_a, passed_not y k)
    third_not eventual (Elsewhere n c) h k = (other_host n a h not_a, tt)
    third_not eventual (Shorten n c i) h k = ((λ e. other_host n b (h (subst (λ z. IsEventual z) (sym e) eventual)) not_b e), tt)

pub third_answer : (g : ℕ) (m : Msg) (a b : ℕ) → (g ≡ a → ⊥) → (g ≡ b → ⊥) → (n : Note Name) → IsBetween a b n → Carries a b n → NamesNot (Answer g m) n
unfolding host_of
third_answer g m a b not_a not_b n h k = third_not (Answer g m) a b not_a not_b tt n h k

pub third_gift : (g i a b : ℕ) → (g ≡ a → ⊥) → (g ≡ b → ⊥) → (n : Note Name) → IsBetween a b n → Carries a b n → NamesNot (Gift g i) n
unfolding host_of
third_gift g i a b not_a not_b n h k = third_not (Gift g i) a b not_a not_b tt n h k
