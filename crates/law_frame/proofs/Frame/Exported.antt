-- What a vat tells of its own, and was not asked for, it exports.
use Rattle.std.proofs.Common.{◌≡◌, ℕ, Bool, true, false, List, [], ◌∷◌, ◌++◌, refl, sym, ap, ◌∙◌, ◌⊎◌, inl, inr, ◌==◌}
use Rattle.std.proofs.lemmas.Bool.{eq-eqb}
use Rattle.def_machine.specs.Values.{Value, Null, Flag, Number, Letter, Text, Prim, Broken, Items, Ref, Name, host_of}
use Rattle.def_machine.specs.State.{Passed, Passeds, Plain, AGift, Many, NoMore, More, Note, Deliver, Open, Ask, SettledTo, Elsewhere, Shorten}
use Rattle.def_run.specs.World.{has_name}
use Rattle.law_reference.specs.Reference.Logs as wire
use Rattle.law_fate.specs.Name.Names.{IsAmong}
use Rattle.law_fate.proofs.Name.Among.{among_more, among_last}
use Rattle.law_fate.proofs.Name.SameNames.{has_among}
use Rattle.law_frame.specs.Frame.Asked.{told_value, told_passed, told_all, told_in}

true_false : (b : Bool) → b ≡ true → b ≡ false → ⊥
true_false b e f = cc

pub among_split : {A : Type 0} (x : A) (xs ys : List A) → IsAmong x (xs ++ ys) → IsAmong x xs ⊎ IsAmong x ys
among_split x [] ys h = inr h
among_split x (z ∷ xs) ys (inl e) = inl (inl e)
among_split x (z ∷ xs) ys (inr h) = go (among_split x xs ys h)
  where
    go : IsAmong x xs ⊎ IsAmong x ys → IsAmong x (z ∷ xs) ⊎ IsAmong x ys
    go (inl a) = inl (inr a)
    go (inr b) = inr b

pub by_cases : {P Q C : Type 0} → P ⊎ Q → (P → C) → (Q → C) → C
by_cases (inl p) f g = f p
by_cases (inr q) f g = g q

module _ (v : ℕ) (asked : List Name) (n : Name) (host : host_of n ≡ v) (unasked : has_name asked n ≡ false) where
  there_or : (c : Bool) (m : Name) (ns : List Name) → has_name ns m ≡ c → IsAmong n ns ⊎ (n ≡ m) → IsAmong n (elim c [ true ↦ ns | false ↦ ns ++ m ∷ [] ])
  there_or true m ns e (inl a) = a
  there_or true m ns e (inr f) = rw (sym f) at (has_among ns m e)
  there_or false m ns e (inl a) = among_more n ns m a
  there_or false m ns e (inr f) = rw (ap (λ x. ns ++ x ∷ []) f) at (among_last ns n)

  asked_or : (b : Bool) (m : Name) (ns : List Name) → has_name asked m ≡ b → IsAmong n ns ⊎ (n ≡ m) → IsAmong n (elim b [ true ↦ ns | false ↦ elim (has_name ns m) [ true ↦ ns | false ↦ ns ++ m ∷ [] ] ])
  asked_or true m ns e (inl a) = a
  asked_or true m ns e (inr f) = absurd (true_false (has_name asked n) (ap (λ x. has_name asked x) f ∙ e) unasked)
  asked_or false m ns e h = there_or (has_name ns m) m ns refl h

  hosted_or : (a : Bool) (m : Name) (ns : List Name) → (host_of m == v) ≡ a → IsAmong n ns ⊎ (n ≡ m)
      → IsAmong n (elim a [ true ↦ elim (has_name asked m) [ true ↦ ns | false ↦ elim (has_name ns m) [ true ↦ ns | false ↦ ns ++ m ∷ [] ] ] | false ↦ ns ])
  hosted_or true m ns e h = asked_or (has_name asked m) m ns refl h
  hosted_or false m ns e (inl a) = a
  hosted_or false m ns e (inr f) = absurd (true_false (host_of m == v) (eq-eqb (host_of m) v (ap host_of (sym f) ∙ host)) e)

  export_in : (m : Name) (ns : List Name) → IsAmong n ns ⊎ (n ≡ m) → IsAmong n (wire.with_export v asked m ns)
  unfolding wire.with_export
  export_in m ns h = hosted_or (host_of m == v) m ns refl h

  value_in : (y : Value Name) (ns : List Name) → IsAmong n ns ⊎ IsAmong n (told_value y) → IsAmong n (wire.with_value v asked y ns)
  unfolding wire.with_value told_value
  value_in (Ref m) ns (inl a) = export_in m ns (inl a)
  value_in (Ref m) ns (inr (inl e)) = export_in m ns (inr e)
  value_in (Ref m) ns (inr (inr b)) = absurd b
  value_in Null ns (inl a) = a
  value_in (Flag x) ns (inl a) = a
  value_in (Number z) ns (inl a) = a
  value_in (Letter c) ns (inl a) = a
  value_in (Text t) ns (inl a) = a
  value_in (Prim i) ns (inl a) = a
  value_in (Broken p) ns (inl a) = a
  value_in (Items k) ns (inl a) = a
  value_in other ns (inr b) = absurd b

  mutual
    unfolding wire.with_passed wire.with_all told_passed told_all

    passed_in : (y : Passed Name) (ns : List Name) → IsAmong n ns ⊎ IsAmong n (told_passed y) → IsAmong n (wire.with_passed v asked y ns)
    passed_in (Plain y) ns h = value_in y ns h
    passed_in (AGift w i) ns (inl a) = a
    passed_in (AGift w i) ns (inr b) = absurd b
    passed_in (Many ys) ns h = all_in ys ns h

    all_in : (ys : Passeds Name) (ns : List Name) → IsAmong n ns ⊎ IsAmong n (told_all ys) → IsAmong n (wire.with_all v asked ys ns)
    all_in NoMore ns (inl a) = a
    all_in NoMore ns (inr b) = absurd b
    all_in (More y ys) ns (inl a) = all_in ys (wire.with_passed v asked y ns) (inl (passed_in y ns (inl a)))
    all_in (More y ys) ns (inr b) = by_cases (among_split n (told_passed y) (told_all ys) b) (λ a. all_in ys (wire.with_passed v asked y ns) (inl (passed_in y ns (inr a)))) (λ c. all_in ys (wire.with_passed v asked y ns) (inr c))

  note_in : (x : Note Name) (ns : List Name) → IsAmong n ns ⊎ IsAmong n (told_in x) → IsAmong n (wire.with_note v asked x ns)
  unfolding wire.with_note told_in
  note_in (Deliver m t verb ys) ns (inl a) = all_in ys (wire.with_export v asked t ns) (inl (export_in t ns (inl a)))
  note_in (Deliver m t verb ys) ns (inr (inl e)) = all_in ys (wire.with_export v asked t ns) (inl (export_in t ns (inr e)))
  note_in (Deliver m t verb ys) ns (inr (inr b)) = all_in ys (wire.with_export v asked t ns) (inr b)
  note_in (Open i t) ns (inl a) = export_in t ns (inl a)
  note_in (Open i t) ns (inr (inl e)) = export_in t ns (inr e)
  note_in (Ask p i t) ns (inl a) = a
  note_in (Ask p i t) ns (inr b) = absurd b
  note_in (SettledTo t y) ns (inl a) = passed_in y (wire.with_export v asked t ns) (inl (export_in t ns (inl a)))
  note_in (SettledTo t y) ns (inr (inl e)) = passed_in y (wire.with_export v asked t ns) (inl (export_in t ns (inr e)))
  note_in (SettledTo t y) ns (inr (inr b)) = passed_in y (wire.with_export v asked t ns) (inr b)
  note_in (Elsewhere t c) ns (inl a) = export_in t ns (inl a)
  note_in (Elsewhere t c) ns (inr (inl e)) = export_in t ns (inr e)
  note_in (Shorten t c i) ns (inl a) = export_in t ns (inl a)
  note_in (Shorten t c i) ns (inr (inl e)) = export_in t ns (inr e)
  note_in other ns (inr (inr b)) = absurd b

  -- it is exported where one of these notes tells it, or it was exported before
  pub exports_in : (log : List (Note Name)) (ns : List Name) → IsAmong n ns ⊎ ((x : Note Name) × IsAmong x log × IsAmong n (told_in x)) → IsAmong n (wire.exports_after v asked log ns)
  unfolding wire.exports_after
  exports_in [] ns (inl a) = a
  exports_in [] ns (inr b) = absurd b.1
  exports_in (x ∷ log) ns (inl a) = exports_in log (wire.with_note v asked x ns) (inl (note_in x ns (inl a)))
  exports_in (x ∷ log) ns (inr b) = by_cases b.1 (λ e. exports_in log (wire.with_note v asked x ns) (inl (note_in x ns (inr (rw (ap told_in e) at b.2))))) (λ a. exports_in log (wire.with_note v asked x ns) (inr (b.0, a, b.2)))
