-- The names that a note tells: those that are read are known then, and those of which something is said of the note.
use Rattle.std.proofs.Common.{◌≡◌, ℕ, Bool, true, false, List, [], ◌∷◌, ◌++◌, refl, ◌==◌}
use Rattle.def_machine.specs.Values.{Value, Ref, Name, Root, Object, Promise, Answer, Gift, Sent, host_of}
use Rattle.def_machine.specs.State.{Passed, Passeds, Plain, AGift, Many, NoMore, More, Note, Deliver, Open, Ask, SettledTo, Elsewhere, Shorten}
use Rattle.def_run.specs.World.{has_name, is_old, known_after, read_value, read_passed, read_all, plain_read, many_read, more_read}
use Rattle.law_reference.specs.Reference.Logs as wire
use Rattle.law_fate.specs.Name.Names.{Bit, Named, AllOf, IsAmong, IsKnownIn, ValueOk, PassedOk, PassedsOk, NoteOk}
use Rattle.law_fate.proofs.Name.Facts.{all_map, all_end, all_append}
use Rattle.law_fate.proofs.Name.Among.{among_more, among_last}
use Rattle.law_fate.proofs.Name.SameNames.{old_known}
use Rattle.law_fate.proofs.Name.Tracked.{known_among}
use Rattle.law_frame.specs.Frame.Asked.{told_value, told_passed, told_all, told_in}
use Rattle.law_frame.specs.Frame.Alike.{names_heard}

pub known_up : (ns ms : List Name) → ((n : Name) → IsAmong n ns → IsAmong n ms) → (n : Name) → IsKnownIn ns n → IsKnownIn ms n
known_up ns ms f (Object w i) h = tt
known_up ns ms f (Root w) h = f (Root w) h
known_up ns ms f (Promise w i) h = f (Promise w i) h
known_up ns ms f (Answer w m) h = f (Answer w m) h
known_up ns ms f (Gift w i) h = f (Gift w i) h
known_up ns ms f (Sent m) h = f (Sent m) h

-- ---- what is read is known then

after_either : (ks : List Name) (n : Name) (b : Bool) → is_old ks n ≡ b → IsKnownIn (elim b [ true ↦ ks | false ↦ ks ++ n ∷ [] ]) n
after_either ks n true e = old_known ks n e
after_either ks n false e = known_among (ks ++ n ∷ []) n (among_last ks n)

after_known : (ks : List Name) (n : Name) → IsKnownIn (known_after ks n) n
unfolding known_after
after_known ks n = after_either ks n (is_old ks n) refl

more_either : (ks : List Name) (n m : Name) (b : Bool) → IsAmong m ks → IsAmong m (elim b [ true ↦ ks | false ↦ ks ++ n ∷ [] ])
more_either ks n m true a = a
more_either ks n m false a = among_more m ks n a

pub after_more : (ks : List Name) (n m : Name) → IsAmong m ks → IsAmong m (known_after ks n)
unfolding known_after
after_more ks n m a = more_either ks n m (is_old ks n) a

value_more : (ks : List Name) (y : Value Name) (m : Name) → IsAmong m ks → IsAmong m (read_value ks y).known
unfolding read_value
value_more ks (Ref n) m a = after_more ks n m a
value_more ks other m a = a

value_told : (ks : List Name) (y : Value Name) → AllOf (IsKnownIn (read_value ks y).known) (told_value y)
unfolding read_value told_value
value_told ks (Ref n) = (after_known ks n, tt)
value_told ks other = tt

mutual
  unfolding read_passed read_all plain_read many_read more_read

  passed_more : (ks : List Name) (y : Passed Name) (m : Name) → IsAmong m ks → IsAmong m (read_passed y ks).known
  passed_more ks (Plain y) m a = value_more ks y m a
  passed_more ks (AGift h i) m a = among_more m ks (Gift h i) a
  passed_more ks (Many ys) m a = all_more ks ys m a

  pub all_more : (ks : List Name) (ys : Passeds Name) (m : Name) → IsAmong m ks → IsAmong m (read_all ys ks).known
  all_more ks NoMore m a = a
  all_more ks (More y ys) m a = all_more (read_passed y ks).known ys m (passed_more ks y m a)

mutual
  unfolding read_passed read_all plain_read many_read more_read told_passed told_all

  passed_told : (ks : List Name) (y : Passed Name) → AllOf (IsKnownIn (read_passed y ks).known) (told_passed y)
  passed_told ks (Plain y) = value_told ks y
  passed_told ks (AGift h i) = tt
  passed_told ks (Many ys) = all_told ks ys

  all_told : (ks : List Name) (ys : Passeds Name) → AllOf (IsKnownIn (read_all ys ks).known) (told_all ys)
  all_told ks NoMore = tt
  all_told ks (More y ys) = let one : List Name = (read_passed y ks).known in all_append (IsKnownIn (read_all ys one).known) (told_passed y) (told_all ys)
      (all_map (λ x h. known_up one (read_all ys one).known (λ m a. all_more one ys m a) x h) (told_passed y) (passed_told ks y)) (all_told one ys)

pub heard_told : (ks : List Name) (n : Note Name) → AllOf (IsKnownIn (names_heard ks n)) (told_in n)
unfolding names_heard told_in
heard_told ks (Deliver m n verb ys) = let one : List Name = (read_all ys ks).known in
    (after_known one n, all_map (λ x h. known_up one (known_after one n) (λ y a. after_more one n y a) x h) (told_all ys) (all_told ks ys))
heard_told ks (Open i n) = (after_known ks n, tt)
heard_told ks (Ask p i n) = tt
heard_told ks (SettledTo n y) = let one : List Name = known_after ks n in (known_up one (read_passed y one).known (λ m a. passed_more one y m a) n (after_known ks n), passed_told one y)
heard_told ks (Elsewhere n c) = (after_known ks n, tt)
heard_told ks (Shorten n c i) = (after_known ks n, tt)

-- ---- what is said of each name in a note

module _ (P : Bit Name → Type 0) where
  abbrev pub OfName : Name → Type 0
  OfName n = P (Named n)

  value_all : (y : Value Name) → ValueOk P y → AllOf OfName (told_value y)
  unfolding told_value
  value_all (Ref n) h = (h, tt)
  value_all other h = tt

  mutual
    unfolding told_passed told_all

    passed_all : (y : Passed Name) → PassedOk P y → AllOf OfName (told_passed y)
    passed_all (Plain y) h = value_all y h
    passed_all (AGift w i) h = tt
    passed_all (Many ys) h = all_all ys h

    all_all : (ys : Passeds Name) → PassedsOk P ys → AllOf OfName (told_all ys)
    all_all NoMore h = tt
    all_all (More y ys) h = all_append OfName (told_passed y) (told_all ys) (passed_all y h.0) (all_all ys h.1)

  pub note_told : (n : Note Name) → NoteOk P n → AllOf OfName (told_in n)
  unfolding told_in
  note_told (Deliver m n verb ys) h = (h.1, all_all ys h.2)
  note_told (Open i n) h = (h.1, tt)
  note_told (Ask p i n) h = tt
  note_told (SettledTo n y) h = (h.0, passed_all y h.1)
  note_told other h = (h.0, tt)

-- ---- what was exported was told

module _ (v : ℕ) (asked : List Name) (P : Name → Type 0) where
  unless_there : (b : Bool) (n : Name) (ns : List Name) → AllOf P ns → P n → AllOf P (elim b [ true ↦ ns | false ↦ ns ++ n ∷ [] ])
  unless_there true n ns h p = h
  unless_there false n ns h p = all_end P ns n h p

  where_hosted : (a b c : Bool) (n : Name) (ns : List Name) → AllOf P ns → P n → AllOf P (elim a [ true ↦ elim b [ true ↦ ns | false ↦ elim c [ true ↦ ns | false ↦ ns ++ n ∷ [] ] ] | false ↦ ns ])
  where_hosted true true c n ns h p = h
  where_hosted true false c n ns h p = unless_there c n ns h p
  where_hosted false b c n ns h p = h

  export_all : (n : Name) (ns : List Name) → AllOf P ns → P n → AllOf P (wire.with_export v asked n ns)
  unfolding wire.with_export
  export_all n ns h p = where_hosted (host_of n == v) (has_name asked n) (has_name ns n) n ns h p

  value_exports : (y : Value Name) (ns : List Name) → AllOf P ns → AllOf P (told_value y) → AllOf P (wire.with_value v asked y ns)
  unfolding wire.with_value told_value
  value_exports (Ref n) ns h p = export_all n ns h p.0
  value_exports other ns h p = h

  first_part : (xs ys : List Name) → AllOf P (xs ++ ys) → AllOf P xs
  first_part [] ys h = tt
  first_part (x ∷ xs) ys h = (h.0, first_part xs ys h.1)

  last_part : (xs ys : List Name) → AllOf P (xs ++ ys) → AllOf P ys
  last_part [] ys h = h
  last_part (x ∷ xs) ys h = last_part xs ys h.1

  mutual
    unfolding wire.with_passed wire.with_all told_passed told_all

    passed_exports : (y : Passed Name) (ns : List Name) → AllOf P ns → AllOf P (told_passed y) → AllOf P (wire.with_passed v asked y ns)
    passed_exports (Plain y) ns h p = value_exports y ns h p
    passed_exports (AGift w i) ns h p = h
    passed_exports (Many ys) ns h p = all_exports ys ns h p

    all_exports : (ys : Passeds Name) (ns : List Name) → AllOf P ns → AllOf P (told_all ys) → AllOf P (wire.with_all v asked ys ns)
    all_exports NoMore ns h p = h
    all_exports (More y ys) ns h p = all_exports ys (wire.with_passed v asked y ns) (passed_exports y ns h (first_part (told_passed y) (told_all ys) p)) (last_part (told_passed y) (told_all ys) p)

  note_exports : (n : Note Name) (ns : List Name) → AllOf P ns → AllOf P (told_in n) → AllOf P (wire.with_note v asked n ns)
  unfolding wire.with_note told_in
  note_exports (Deliver m n verb ys) ns h p = all_exports ys (wire.with_export v asked n ns) (export_all n ns h p.0) p.1
  note_exports (Open i n) ns h p = export_all n ns h p.0
  note_exports (Ask q i n) ns h p = h
  note_exports (SettledTo n y) ns h p = passed_exports y (wire.with_export v asked n ns) (export_all n ns h p.0) p.1
  note_exports (Elsewhere n c) ns h p = export_all n ns h p.0
  note_exports (Shorten n c i) ns h p = export_all n ns h p.0

  -- all that is exported bears what all that is told bears
  pub exports_told : (log : List (Note Name)) (ns : List Name) → AllOf P ns → AllOf (λ n. AllOf P (told_in n)) log → AllOf P (wire.exports_after v asked log ns)
  unfolding wire.exports_after
  exports_told [] ns h p = h
  exports_told (n ∷ log) ns h p = exports_told log (wire.with_note v asked n ns) (note_exports n ns h p.0) p.1
