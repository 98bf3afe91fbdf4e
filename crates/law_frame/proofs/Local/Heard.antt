-- A frame is heard by the numbers of a vat as it is heard in names, where what is new has the numbers behind those known before.
use Rattle.std.proofs.Common.{◌≡◌, ℕ, Bool, List, [], ◌∷◌, ◌++◌, Option, Some, None, refl, sym, ap, subst, ◌∙◌, map, length, append_assoc}
use Rattle.std.specs.Prelude.{slice_get, option_map}
use Rattle.def_op.specs.Frames.{Operation}
use Rattle.def_machine.specs.Values.{Name, Gift, Sent, Msg, Local, Obj, Prom, Far, Mess}
use Rattle.def_machine.specs.State.{Note}
use Rattle.def_machine.specs.Arrive.{Incoming, Old, New}
use Rattle.def_machine.specs.Maps as maps
use Rattle.def_machine.specs.Maps.{incoming}
use Rattle.def_run.specs.Connections.{Connection, Learnt, Stage, Heard, note_heard}
use Rattle.def_run.specs.Wire as wire
use Rattle.def_run.specs.Wire.{Connected, is_object, numbered}
use Rattle.law_fate.specs.Name.Names.{AllOf}
use Rattle.law_fate.proofs.Name.Among.{length_end}
use Rattle.law_fate.proofs.Name.SameNames.{at_all}
use Rattle.law_machine.specs.Renamed.Stands.{Table, Found, Is, Nothing, found, prom_found, mess_found, far_found}
use Rattle.law_machine.proofs.Renamed.MapMaps.{note_twice}
use Rattle.law_frame.specs.Frame.Together.{changed_tables, changed_gift, changed_stage, changed_heard, changed_newcomers}
use Rattle.law_frame.proofs.Frame.Maps.{go_together}
use Rattle.law_frame.proofs.Frame.Written.{nth_front}
use Rattle.def_run.specs.Vats as here
use Rattle.law_frame.specs.Local.Hearing.{unnamed}
use Rattle.law_frame.proofs.Local.Newcomers.{FrameFits, NumberedFrom, Alike, AlikeIf, note_alike, news_note}
use Rattle.law_frame.proofs.Local.FirstTold.{first_told, IsNoObject, note_changed}

-- ---- what a table has for a number is an object where the number is one

unfoldable pub object_found : Found → Bool
object_found (Is n) = is_object n
object_found (Nothing a) = here.is_object a

module _ (u : ℕ) (t : Table) (names : AllOf IsNoObject t.names) (mails : (k : ℕ) (n : Name) → slice_get t.mails k ≡ Some n → (m : Msg) × (n ≡ Sent m)) where
  prom_apart : (k : ℕ) (o : Option Name) → slice_get t.names k ≡ o → object_found (prom_found k o) ≡ here.is_object (Prom k)
  unfolding object_found prom_found here.is_object
  prom_apart k (Some n) e = at_all IsNoObject t.names k n names e
  prom_apart k None e = refl

  mess_apart : (k : ℕ) (o : Option Name) → slice_get t.mails k ≡ o → object_found (mess_found k o) ≡ here.is_object (Mess k)
  unfolding object_found mess_found here.is_object is_object
  mess_apart k (Some n) e = let m = mails k n e in ap is_object m.1
  mess_apart k None e = refl

  far_apart : (h p : ℕ) (o : Option ℕ) → object_found (far_found h p o) ≡ here.is_object (Far h p)
  unfolding object_found far_found here.is_object is_object
  far_apart h p (Some j) = refl
  far_apart h p None = refl

  pub told_apart : (a : Local) → object_found (found u t a) ≡ here.is_object a
  unfolding object_found found here.is_object is_object
  told_apart (Obj i) = refl
  told_apart (Prom k) = prom_apart k (slice_get t.names k) refl
  told_apart (Mess k) = mess_apart k (slice_get t.mails k) refl
  told_apart (Far h p) = far_apart h p (t.exports h p)

-- the numbers behind those known before
pub numbered_behind : (u : ℕ) (t : Table) (ks ns : List Name) → t.names ≡ ks ++ ns → NumberedFrom (λ k. found u t (Prom k)) (length ks) (map Is ns)
unfolding found prom_found
numbered_behind u t ks [] e = tt
numbered_behind u t ks (n ∷ ns) e = (
  ap (prom_found (length ks)) (ap (λ xs. slice_get xs (length ks)) e ∙ nth_front ks ns n),
  subst (λ (i : ℕ). NumberedFrom (λ k. found u t (Prom k)) i (map Is ns)) (length_end ks n) (numbered_behind u t (ks ++ n ∷ []) ns (e ∙ sym (append_assoc ks (n ∷ []) ns))),
)

-- ---- one frame

heard_of : {A B : Type 0} (f : Local → Found) (r : A → B) (o : Option (Heard Local A)) (k : Heard Found B) → option_map (changed_heard f r) o ≡ Some k → (h : Heard Local A) × (o ≡ Some h) × (r h.read ≡ k.read) × (changed_stage f h.after ≡ k.after)
heard_of f r (Some h) k e = let i : changed_heard f r h ≡ k = cc in (h, refl, ap (λ z. z.read) i, ap (λ z. z.after) i)
heard_of f r None k e = cc

-- a gift that was learnt is the one that is called so
abbrev pub IsThatGift : Learnt Found → Type 0
IsThatGift g = g.name ≡ Is (Gift g.host g.number)

module _ (u v : ℕ) (t : Table) (apart : (a : Local) → object_found (found u t a) ≡ here.is_object a) (ours : Connection Local) (theirs : Connection Name) (peer : Connected) (message : Name) (o : Operation) (s : Stage Local) (z : Stage Name) (j : Heard Name (Note (Incoming Name Name))) where
  abbrev f : Local → Found
  f = found u t

  abbrev That : ℕ → Type 0
  That p = found u t (Far v p) ≡ Is (numbered peer.from peer.tables.exports p)

  by_numbers : note_heard object_found u v (changed_newcomers f unnamed (here.newcomers v)) (changed_tables f ours) o (changed_stage f s) ≡ option_map (changed_heard f (maps.note (incoming f unnamed))) (note_heard here.is_object u v (here.newcomers v) ours o s)
  by_numbers = go_together f unnamed here.is_object object_found u v (here.newcomers v) apart ours s o

  object_is : (n : Name) → object_found (Is n) ≡ is_object n
  unfolding object_found
  object_is n = refl

  by_names : note_heard is_object u v (wire.newcomers peer message) theirs o z ≡ Some j
      → note_heard object_found u v (changed_newcomers Is (λ w. w) (wire.newcomers peer message)) (changed_tables Is theirs) o (changed_stage Is z) ≡ Some (changed_heard Is (maps.note (incoming Is (λ w. w))) j)
  by_names e = go_together Is (λ w. w) is_object object_found u v (wire.newcomers peer message) object_is theirs z o ∙ ap (option_map (changed_heard Is (maps.note (incoming Is (λ w. w))))) e

  abbrev O : ℕ → Found
  O p = found u t (Far v p)

  abbrev K : ℕ → Found
  K k = found u t (Prom k)

  abbrev E : ℕ → Name
  E p = numbered peer.from peer.tables.exports p

  abbrev B : ℕ → Found
  B p = Is (E p)

  abbrev Q : ℕ → Name
  Q q = numbered peer.from peer.tables.questions q

  abbrev Y : ℕ → ℕ → Found
  Y h i = Is (Gift h i)

  abbrev Bare : Incoming Found Name → Incoming Found (Unit {0})
  Bare = incoming (λ n. n) (λ a. tt)

  -- both with what is found in the place of numbers and of names
  abbrev Both : Heard Found (Note (Incoming Found Name)) → Option (Heard Found (Note (Incoming Found (Unit {0})))) → Type 0
  Both k l = Alike object_found u v O K B Is Y E Q message (changed_tables Is theirs) (maps.note Bare) (news_note Is Y) (changed_stage Is z) k l

  abbrev Image : Heard Found (Note (Incoming Found Name))
  Image = changed_heard Is (maps.note (incoming Is (λ w. w))) j

  both : FrameFits That o → note_heard is_object u v (wire.newcomers peer message) theirs o z ≡ Some j → Both Image (note_heard object_found u v (changed_newcomers f unnamed (here.newcomers v)) (changed_tables Is theirs) o (changed_stage Is z))
  unfolding here.newcomers wire.newcomers
  both fits reads = subst (λ i. AlikeIf object_found u v O K B Is Y E Q message (changed_tables Is theirs) (maps.note Bare) (news_note Is Y) (changed_stage Is z) i (note_heard object_found u v (changed_newcomers f unnamed (here.newcomers v)) (changed_tables Is theirs) o (changed_stage Is z)))
      (by_names reads) (note_alike object_found u v O K B Is Y E Q message (changed_tables Is theirs) o (changed_stage Is z) fits)

  bare_twice : (x : Note (Incoming Name Name)) → maps.note Bare (maps.note (incoming Is (λ w. w)) x) ≡ maps.note (incoming Is unnamed) x
  bare_twice x = note_twice (incoming Is (λ w. w)) Bare x ∙ ap (λ (g : Incoming Name Name → Incoming Found (Unit {0})). maps.note g x) same
    where
      one : (y : Incoming Name Name) → Bare (incoming Is (λ w. w) y) ≡ incoming Is unnamed y
      one (Old n) = refl
      one (New n h) = refl

      same : (λ (y : Incoming Name Name). Bare (incoming Is (λ w. w) y)) ≡ incoming Is unnamed
      same = λ i y. one y i

  -- so it is heard in numbers
  pub heard_so : changed_tables f ours ≡ changed_tables Is theirs → changed_stage f s ≡ changed_stage Is z → FrameFits That o → note_heard is_object u v (wire.newcomers peer message) theirs o z ≡ Some j → NumberedFrom K z.known (map Is (first_told j.read))
      → (h : Heard Local (Note (Incoming Local Local))) × (note_heard here.is_object u v (here.newcomers v) ours o s ≡ Some h) × (maps.note (incoming f unnamed) h.read ≡ maps.note (incoming Is unnamed) j.read) × (changed_stage f h.after ≡ changed_stage Is j.after)
      × (AllOf IsThatGift (map (changed_gift Is) z.learnt) → AllOf IsThatGift (map (changed_gift Is) j.after.learnt))
  heard_so tables stage fits reads numbers =
      let b = both fits reads in
      let there = b.same (subst (NumberedFrom K z.known) (sym (note_changed Is j.read)) numbers) in
      let h = heard_of f (maps.note (incoming f unnamed)) (note_heard here.is_object u v (here.newcomers v) ours o s) (record { read = maps.note Bare (maps.note (incoming Is (λ w. w)) j.read); after = changed_stage Is j.after })
      (sym by_numbers ∙ ap (λ c. note_heard object_found u v (changed_newcomers f unnamed (here.newcomers v)) c o (changed_stage f s)) tables
      ∙ ap (λ r. note_heard object_found u v (changed_newcomers f unnamed (here.newcomers v)) (changed_tables Is theirs) o r) stage ∙ there) in
      (h.0, h.1, h.2 ∙ bare_twice j.read, h.3, b.given)
