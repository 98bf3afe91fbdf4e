-- Strict deeds of a hostile vat keep the order of answers.
use Rattle.std.proofs.Common.{◌≡◌, ℕ, Bool, true, false, List, [], ◌∷◌, ◌++◌, Option, Some, refl, sym, ap, ◌∙◌, ◌⊎◌, inl, inr}
use Rattle.std.specs.Prelude.{slice_get}
use Rattle.def_machine.specs.Values.{Name, Promise, Answer, Msg, host_of, naming, name_of, answer_of, mail_of}
use Rattle.def_machine.specs.State.{Known, Note, Vat, Gives, ◌>>◌, and_then, give, come, new_thing, new_promise, new_message, new_lone_message, draw, begun}
use Rattle.def_machine.specs.Arrive as arrive
use Rattle.def_machine.specs.Arrive.{Old, New}
use Rattle.def_run.specs.World as world
use Rattle.def_run.specs.World.{Script, World, readied, names, names_of}
use Rattle.law_fate.specs.Name.Names.{IsAmong, names_in}
use Rattle.law_fate.proofs.Name.Among.{among_or, names_end}
use Rattle.law_reference.specs.Reference.Behind.{Bears}
use Rattle.law_machine.specs.Run.Moves.{Deed, NewPromise, NewMessage, Learns, perform}
use Rattle.law_hostile.specs.Hostile as hostile
use Rattle.law_hostile.specs.Hostile.{IsStrict, PerformsStrictly}

module _ (script : Script) (w : World) (v u : ℕ) (s : Vat Name) (n : Note Name) where
  -- what is to be known of an answer at another vat
  abbrev Fits : ℕ → Msg → Type 0
  Fits g m = (IsAmong (Answer g m) (names_in s.known) ⊎ ((u ≡ g) × Bears m (Answer g m) n)) ⊎ ((q : Vat Name) → slice_get w.vats g ≡ Some q → IsAmong (Answer g m) (names_in q.known))

  abbrev Ordered : Vat Name → Type 0
  Ordered a = (g : ℕ) (m : Msg) → (g ≡ v → ⊥) → IsAmong (Answer g m) (names_in a.known) → Fits g m

  same : (a b : Vat Name) → Ordered a → Gives (tt {0}) a ≡ Gives (tt {0}) b → Ordered b
  same a b h e = let i : a ≡ b = cc in rw i at h

  one_more : (a x b : Vat Name) (k : Known Name) → x.known ≡ a.known ++ k ∷ [] → Ordered a → ((g : ℕ) (m : Msg) → (g ≡ v → ⊥) → Answer g m ≡ k.name → Fits g m) → Gives (tt {0}) x ≡ Gives (tt {0}) b → Ordered b
  one_more a x b k i h f e g m far z = let j : x ≡ b = cc in let one : IsAmong (Answer g m) (names_in x.known) = rw (sym j) at z in let two : IsAmong (Answer g m) (names_in (a.known ++ k ∷ [])) = rw (ap names_in i) at one in
      either (among_or (Answer g m) (names_in a.known) k.name (rw (names_end a.known k) at two))
    where
      either : IsAmong (Answer g m) (names_in a.known) ⊎ (Answer g m ≡ k.name) → Fits g m
      either (inl y) = h g m far y
      either (inr y) = f g m far y

  no_promise : (g i : ℕ) (m : Msg) → Answer g m ≡ Promise v i → ⊥
  no_promise g i m e = cc

  the_message : (h g : ℕ) (m k : Msg) → Answer g m ≡ Answer h k → (u ≡ h) × Bears k (Answer h k) n → Fits g m
  the_message h g m k e b = let i : h ≡ g = cc in let j : k ≡ m = cc in let both : (u ≡ g) × Bears m (Answer g m) n = rw (i, j) at b in inl (inr both)

  told_by : (x : Name) (g : ℕ) (m : Msg) → Answer g m ≡ x → ((q : Vat Name) → slice_get w.vats (host_of x) ≡ Some q → IsAmong x (names_in q.known)) → Fits g m
  unfolding host_of
  told_by x g m e f = let one : (q : Vat Name) → slice_get w.vats (host_of (Answer g m)) ≡ Some q → IsAmong (Answer g m) (names_in q.known) = rw (sym e) at f in inr one

  learnt : (x : Name) (a b : Vat Name) (c : Bool) → Ordered a → ((q : Vat Name) → slice_get w.vats (host_of x) ≡ Some q → IsAmong x (names_in q.known)) → and_then {B = Unit {0}} (arrive.learn_name (names script v) (elim c [ true ↦ Old x | false ↦ New x (host_of x) ]) a) (λ _. give (tt {0})) ≡ Gives (tt {0}) b → Ordered b
  unfolding and_then give arrive.learn_name come names naming name_of begun
  learnt x a b true h f e = same a b h e
  learnt x a b false h f e = one_more a _ b (begun x (host_of x)) refl h (λ g m far i. told_by x g m i f) e

  deed : (d : Deed) (a b : Vat Name) → Ordered a → IsStrict w v u n a d → perform script v d a ≡ Gives tt b → Ordered b
  unfolding perform names names_of ◌>>◌ world.read_name and_then new_thing new_promise new_message new_lone_message give draw naming name_of mail_of answer_of begun
  deed NewPromise a b h f e = one_more a _ b (begun (Promise v a.promises) a.number) refl h (λ g m far i. absurd (no_promise g a.promises m i)) e
  deed (NewMessage q) a b h f e = let k : Msg = record { sender = v; number = a.messages } in one_more a _ b (begun (Answer q k) q) refl h (λ g m far i. the_message q g m k i f) e
  deed (Learns x) a b h f e = learnt x a b _ h f e
  deed other a b h f e = same _ b h e

  deeds : (ds : List Deed) (a t : Vat Name) → Ordered a → PerformsStrictly script w v u n ds a t → Ordered t
  deeds [] a t h e = rw e at h
  deeds (d ∷ ds) a t h p = deeds ds p.0 t (deed d a p.0 h p.1 p.2) p.3

  begin : Ordered (readied w s)
  unfolding readied
  begin g m far a = inl (inl a)

some_is : (a b : Vat Name) → ◌≡◌ {A = Option (Vat Name)} (Some a) (Some b) → a ≡ b
some_is a b e = cc

pub strict_deeds_keep_order : hostile.StrictDeedsKeepOrder
strict_deeds_keep_order script w v u s t ds n there p r i g m far a = let same : s ≡ r = some_is s r (sym there ∙ i) in
    let it : (IsAmong (Answer g m) (names_in s.known) ⊎ ((u ≡ g) × Bears m (Answer g m) n)) ⊎ ((q : Vat Name) → slice_get w.vats g ≡ Some q → IsAmong (Answer g m) (names_in q.known)) = deeds script w v u s n ds (readied w s) t (begin script w v u s n) p g m far a in rw same at it
