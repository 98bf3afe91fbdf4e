-- A note is written by the numbers of a vat as in names.
use Rattle.std.proofs.Common.{◌≡◌, ℕ, Bool, true, Option, Some, None, refl, sym, ap, ◌∙◌, ◌==◌}
use Rattle.def_machine.specs.Values.{Name, Sent, host_of, same_name, same_reference, answer_of, Local, Obj, Prom, Far, Mess}
use Rattle.def_machine.specs.State.{Note, Deliver}
use Rattle.def_run.specs.Connections.{Sight, frame_now, put_on}
use Rattle.def_run.specs.Wire.{sight, is_object}
use Rattle.def_machine.specs.Maps as maps
use Rattle.law_machine.specs.Renamed.Stands.{Table, Found, Is, Nothing, found, found_same, found_answer, prom_found, mess_found, far_found, IsTable}
use Rattle.law_machine.proofs.Renamed.Stands.{sames}
use Rattle.law_frame.specs.Frame.Together.{SeesAlike, AsksAlike, changed_tables}
use Rattle.law_frame.specs.Frame.OwnFrames.{refers, refers_here, SeesBy, AsksFor, FramesAreWrittenByNumbers}
use Rattle.law_frame.proofs.Frame.Writes.{write_together}

module _ (u v : ℕ) (t : Table) (good : IsTable u t) (S : Sight Local) (sees : SeesBy u t S) where
  -- what is found is seen by its name, and what is not by its number
  abbrev own_found : Found → Bool
  own_found (Is n) = host_of n == u
  own_found (Nothing a) = S.own a

  abbrev object_found : Found → Bool
  object_found (Is n) = is_object n
  object_found (Nothing a) = S.object a

  abbrev T : Sight Found
  T = record { same = found_same; own = own_found; object = object_found; answer = found_answer v }

  -- what is not in the table is found as itself
  prom_nothing : (k : ℕ) (o : Option Name) (b : Local) → prom_found k o ≡ Nothing b → b ≡ Prom k
  unfolding prom_found
  prom_nothing k (Some n) b e = cc
  prom_nothing k None b e = cc

  mess_nothing : (k : ℕ) (o : Option Name) (b : Local) → mess_found k o ≡ Nothing b → b ≡ Mess k
  unfolding mess_found
  mess_nothing k (Some n) b e = cc
  mess_nothing k None b e = cc

  far_nothing : (h p : ℕ) (o : Option ℕ) (b : Local) → far_found h p o ≡ Nothing b → b ≡ Far h p
  unfolding far_found
  far_nothing h p (Some j) b e = cc
  far_nothing h p None b e = cc

  nothing_of : (a b : Local) → found u t a ≡ Nothing b → b ≡ a
  unfolding found
  nothing_of (Obj i) b e = cc
  nothing_of (Prom k) b e = prom_nothing k _ b e
  nothing_of (Mess k) b e = mess_nothing k _ b e
  nothing_of (Far h p) b e = far_nothing h p _ b e

  own_of : (a : Local) (x : Found) → refers_here a ≡ true → found u t a ≡ x → own_found x ≡ S.own a
  own_of a (Is n) p e = sees.own a n p e
  own_of a (Nothing b) p e = ap S.own (nothing_of a b e)

  object_of : (a : Local) (x : Found) → found u t a ≡ x → object_found x ≡ S.object a
  object_of a (Is n) e = sees.object a n e
  object_of a (Nothing b) e = ap S.object (nothing_of a b e)

  by_numbers : SeesAlike (found u t) refers_here S T
  by_numbers = record { same = λ a b p. sames u t good a b ∙ sym (sees.same a b); own = λ a p. own_of a (found u t a) p refl; object = λ a. object_of a (found u t a) refl }

  same_named : (a b : Name) → refers a ≡ true → same_reference a b ≡ same_name a b
  unfolding refers same_reference
  same_named (Sent m) b p = cc
  same_named other b p = refl

  same_is : (a b : Name) → refers a ≡ true → found_same (Is a) (Is b) ≡ (sight u v).same a b
  unfolding found_same sight
  same_is a b p = same_named a b p

  own_is : (a : Name) → own_found (Is a) ≡ (sight u v).own a
  unfolding sight
  own_is a = refl

  object_is : (a : Name) → object_found (Is a) ≡ (sight u v).object a
  unfolding sight
  object_is a = refl

  by_names : SeesAlike Is refers (sight u v) T
  by_names = record { same = same_is; own = λ a p. own_is a; object = object_is }

  answer_is : (m : Name) → found_answer v (Is m) ≡ Is ((sight u v).answer m)
  unfolding found_answer sight
  answer_is m = refl

  names_ask : (m : Note Name) → AsksAlike Is (sight u v) T m
  names_ask (Deliver e m x zs) = λ a. answer_is e.message
  names_ask other = tt

  abbrev message_of : Found → Note Found → Found
  message_of x (Deliver d n verb ys) = d.message
  message_of x other = x

  answer_found : (x : Found) (m : Name) → x ≡ Is m → found_answer v x ≡ Is (answer_of v m)
  unfolding found_answer
  answer_found x m e = ap (found_answer v) e

  numbers_ask : (n : Note Local) (m : Note Name) → maps.note (found u t) n ≡ maps.note Is m → AsksFor u v t S n m → AsksAlike (found u t) S T n
  numbers_ask (Deliver d n verb ys) (Deliver e m x zs) k a = λ b. answer_found (found u t d.message) e.message (ap (message_of (Is m)) k) ∙ sym (a b)
  numbers_ask (Deliver d n verb ys) other k a = cc
  numbers_ask other m k a = tt

pub frames_are_written_by_numbers : FramesAreWrittenByNumbers
frames_are_written_by_numbers u v t good S sees c d n m e k may may_is note note_is asks =
    let T : Sight Found = T u v t good S sees in
    let here = write_together (found u t) refers_here S T (by_numbers u v t good S sees) c n may note (numbers_ask u v t good S sees n m k asks) in
    let there = write_together Is refers (sight u v) T (by_names u v t good S sees) d m may_is note_is (names_ask u v t good S sees m) in (
      sym here.0 ∙ (ap (frame_now T (maps.note (found u t) n)) e ∙ (ap (λ z. frame_now T z (changed_tables Is d)) k ∙ there.0)),
      sym here.1 ∙ (ap (put_on T (maps.note (found u t) n)) e ∙ (ap (λ z. put_on T z (changed_tables Is d)) k ∙ there.1)),
    )
