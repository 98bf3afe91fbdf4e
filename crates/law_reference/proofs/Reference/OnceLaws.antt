-- What the worlds of a run are, as laws of messages and their answers.
use Rattle.std.proofs.Common.{◌≡◌, ℕ, zero, suc, ◌≤◌, List, [], ◌∷◌, Option, Some, None, refl, ap, ◌⊎◌, inl, inr, arith, subst}
use Rattle.std.specs.Prelude.{slice_get}
use Rattle.def_machine.specs.Values.{Name, Answer, Msg}
use Rattle.def_machine.specs.State.{Known, Vat}
use Rattle.def_run.specs.World.{Script, World}
use Rattle.law_reference.specs.Reference.Knowing.{one, once, claims, numbered, numbered_at}
use Rattle.law_reference.specs.Reference.NameTableRuns.{allowed}
use Rattle.law_reference.proofs.Reference.Bounds.{allowed_once}
use Rattle.law_fate.specs.Name.Names.{IsAmong, names_in}
use Rattle.law_reference.specs.Reference.Once.{MessagesComeBeforeAnswers, MessagesGoOnBeforeAnswers, AnswersAreKnownOnce}
use Rattle.law_reference.proofs.Reference.Follow.{eq_dec}
use Rattle.law_reference.proofs.Reference.Onward.{self_one, claims_known}
use Rattle.law_reference.proofs.Reference.Counts.{same_numbers}
use Rattle.law_reference.proofs.Reference.Single.{Most}
use Rattle.law_reference.proofs.Reference.SingleRuns.{Both, opened_both, stepped_both}

pub among_at : (x : Name) (xs : List Name) (i : ℕ) → slice_get xs i ≡ Some x → IsAmong x xs
among_at x [] i e = absurd (nothing e)
  where
    nothing : ◌≡◌ {A = Option Name} None (Some x) → ⊥
    nothing e = cc
among_at x (y ∷ xs) zero e = inl (same e)
  where
    same : ◌≡◌ {A = Option Name} (Some y) (Some x) → x ≡ y
    same e = cc
among_at x (y ∷ xs) (suc i) e = inr (among_at x xs i e)

-- where it is known twice it is claimed twice
twice : (v : ℕ) (x : Name) (ks : List (Known Name)) (i j : ℕ) → slice_get (names_in ks) i ≡ Some x → slice_get (names_in ks) j ≡ Some x → (i ≡ j → ⊥) → 2 ≤ claims v x ks
unfolding claims
twice v x [] i j e f n = absurd (nothing e)
  where
    nothing : ◌≡◌ {A = Option Name} None (Some x) → ⊥
    nothing e = cc
twice v x (k ∷ ks) zero zero e f n = absurd (n refl)
twice v x (k ∷ ks) zero (suc j) e f n = let rest = claims_known v x ks (among_at x (names_in ks) j f) in let here : one k.name x ≡ 1 = first e in omega arith
  where
    first : ◌≡◌ {A = Option Name} (Some k.name) (Some x) → one k.name x ≡ 1
    first e = let same : k.name ≡ x = cc in subst (λ z. one k.name z ≡ 1) same (self_one k.name)
twice v x (k ∷ ks) (suc i) zero e f n = let rest = claims_known v x ks (among_at x (names_in ks) i e) in let here : one k.name x ≡ 1 = first f in omega arith
  where
    first : ◌≡◌ {A = Option Name} (Some k.name) (Some x) → one k.name x ≡ 1
    first e = let same : k.name ≡ x = cc in subst (λ z. one k.name z ≡ 1) same (self_one k.name)
twice v x (k ∷ ks) (suc i) (suc j) e f n = let rest = twice v x ks i j e f (λ h. n (ap suc h)) in omega arith

-- an answer may be claimed once
most_one : (v g : ℕ) (m : Msg) (s : Vat Name) → Most v g m s ≤ 1
unfolding allowed numbered numbered_at
most_one v g m s = let a = allowed_once v (Answer g m) s [] in let b = same_numbers v g m s in omega arith

once_known : (script : Script) (w : World) → Both script w → (v : ℕ) (s : Vat Name) → slice_get w.vats v ≡ Some s → (g : ℕ) (m : Msg) (i j : ℕ) → slice_get (names_in s.known) i ≡ Some (Answer g m) → slice_get (names_in s.known) j ≡ Some (Answer g m) → i ≡ j
once_known script w h v s there g m i j e f = either (eq_dec i j)
  where
    most : (i ≡ j → ⊥) → ⊥
    most n = let a = twice v (Answer g m) s.known i j e f n in let b = h.single v s there g m in let c = most_one v g m s in absurd (omega arith)

    either : (i ≡ j) ⊎ (i ≡ j → ⊥) → i ≡ j
    either (inl k) = k
    either (inr n) = absurd (most n)

pub answers_are_known_once : AnswersAreKnownOnce
answers_are_known_once script once = (
  λ ps rest w i e v s there. once_known script w (opened_both script once ps rest w i e) v s there,
  λ w x es k o e v s there. once_known script x (stepped_both script once w x es k o e) v s there,
)

pub messages_come_before_answers : MessagesComeBeforeAnswers
messages_come_before_answers script once = (
  λ ps rest w i e a g m r l there at k. let both = opened_both script once ps rest w i e in let legs = both.legs in legs.early m a g r there k l at,
  λ w x es k o e a g m r l there at i. let both = stepped_both script once w x es k o e in let legs = both.legs in legs.early m a g r there i l at,
)

pub messages_go_on_before_answers : MessagesGoOnBeforeAnswers
messages_go_on_before_answers script once = (
  λ ps rest w i e h g z m r apart there k. let both = opened_both script once ps rest w i e in let legs = both.legs in legs.apart m h g z r apart there k,
  λ w x es k o e h g z m r apart there i. let both = stepped_both script once w x es k o e in let legs = both.legs in legs.apart m h g z r apart there i,
)
