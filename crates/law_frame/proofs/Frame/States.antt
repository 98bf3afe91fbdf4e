-- Each name in the state of a vat has a number there, so that the state in numbers stands for it.
use Rattle.std.proofs.Common.{◌≡◌, ℕ, ◌<◌, Bool, true, false, List, [], ◌∷◌, Option, Some, None, refl, sym, ap, subst, ◌∙◌, inl, inr, ◌==◌, length, map}
use Rattle.std.specs.Prelude.{slice_get}
use Rattle.std.proofs.lemmas.Bool.{eqb-true, eq-eqb}
use Rattle.def_machine.specs.Values.{Name, Root, Object, Promise, Answer, Gift, Sent, host_of, Obj, Prom, Far, Mess}
use Rattle.def_machine.specs.State.{Vat}
use Rattle.def_run.specs.World.{Script, World, link_at, has_name, readied}
use Rattle.law_reference.specs.Reference.Logs as wire
use Rattle.law_fate.specs.Name.Names.{AllOf, IsAmong, IsKnownIn, IsEventual, IsMessageName, IsMessageMade, names_in}
use Rattle.law_fate.proofs.Name.Facts.{all_map}
use Rattle.law_fate.proofs.Name.Among.{all_among}
use Rattle.law_fate.proofs.Name.SameNames.{has_among}
use Rattle.law_fate.proofs.Name.Run.{VatStands, Had}
use Rattle.law_machine.specs.Renamed.Stands.{Found, Is, prom_found, mess_found, far_found, found, StandsFor}
use Rattle.law_machine.proofs.Renamed.MapMaps.{vat_twice}
use Rattle.law_reference.specs.Reference.Exports.{object_of, exported_at}
use Rattle.law_reference.specs.Reference.Tables.{table_of}
use Rattle.law_fate.specs.Fates.WholeFateRuns.{KnowsVats}
use Rattle.law_frame.specs.Frame.Known.{KnowsEach}
use Rattle.law_frame.proofs.Frame.Exported.{exports_in}
use Rattle.law_frame.proofs.Frame.SourceLaws.{log_is}
use Rattle.law_frame.proofs.Frame.Objects.{OwnOrTold, Handed, AllHanded}
use Rattle.law_frame.proofs.Frame.Given.{ToldAlong}
use Rattle.law_frame.proofs.Frame.Ranks.{get_rank}
use Rattle.law_frame.proofs.Frame.WireLaws.{asked_for_known}
use Rattle.law_frame.proofs.Frame.WireRuns.{opened_both, stepped_both}
use Rattle.law_frame.specs.Frame.States.{number_of, in_numbers, EachStateHasNumbers, EntriesAreTakenInNumbers, OpeningTurnsAreTakenInNumbers}
use Rattle.law_frame.proofs.Frame.Entries.{entries_stand}
use Rattle.law_frame.proofs.Frame.Openings.{openings_stand}
use Rattle.law_frame.proofs.Frame.Same.{all_same, vat_same}
use Rattle.law_frame.proofs.Frame.LinksStay.{roots_is, AllLinked, opened_linked, stepped_linked}

true_false : (b : Bool) → b ≡ true → b ≡ false → ⊥
true_false b e f = cc

on_bool : {C : Type 0} (b : Bool) → (b ≡ true → C) → (b ≡ false → C) → C
on_bool true f g = f refl
on_bool false f g = g refl

all_self : {A : Type 0} (xs : List A) → AllOf (λ n. IsAmong n xs) xs
all_self [] = tt
all_self (x ∷ xs) = (inl refl, all_map (λ n i. inr i) xs (all_self xs))

far_is : (h i p : ℕ) (b : Bool) (o : Option Name) → b ≡ false → o ≡ Some (Object h i) → far_found h p (elim b [ true ↦ None | false ↦ object_of o ]) ≡ Is (Object h i)
unfolding far_found object_of
far_is h i p true o e f = cc
far_is h i p false o e f = rw f refl

module _ (script : Script) (w : World) (v : ℕ) (s : Vat Name) (knows : KnowsVats script) (linked : AllLinked script w) (stands : VatStands script w v s) (handed : AllHanded v (ToldAlong w.links v) s) (asked : (u : ℕ) → KnowsEach s (wire.questions (λ i. i) w.links v u)) where
  abbrev F : Name → Found
  F n = found v (table_of w v s) (number_of w v s n)

  abbrev Told : ℕ → List Name
  Told h = wire.exports (λ i. i) w.links h v

  known_found : (n : Name) → IsAmong n (names_in s.known) → found v (table_of w v s) (Prom (wire.rank (names_in s.known) n)) ≡ Is n
  unfolding found prom_found table_of
  known_found n a = ap (prom_found (wire.rank (names_in s.known) n)) (get_rank (names_in s.known) n a)

  message_found : (n : Name) → IsAmong n s.mails → found v (table_of w v s) (Mess (wire.rank s.mails n)) ≡ Is n
  unfolding found mess_found table_of
  message_found n a = ap (mess_found (wire.rank s.mails n)) (get_rank s.mails n a)

  far_away : (h i : ℕ) → (v == h) ≡ false → IsAmong (Object h i) (Told h) → found v (table_of w v s) (Far h (wire.rank (Told h) (Object h i))) ≡ Is (Object h i)
  unfolding found table_of exported_at
  far_away h i e a = far_is h i (wire.rank (Told h) (Object h i)) (v == h) (slice_get (Told h) (wire.rank (Told h) (Object h i))) e (get_rank (Told h) (Object h i) a)

  -- no vat asks for an object
  not_asked : (h i : ℕ) → has_name (wire.questions (λ i. i) w.links v h) (Object h i) ≡ false
  not_asked h i = on_bool (has_name (wire.questions (λ i. i) w.links v h) (Object h i))
      (λ e. let kept = stands.kept in absurd (all_among IsEventual (names_in s.known) (Object h i) kept.apart (all_among (λ n. IsAmong n (names_in s.known)) (wire.questions (λ i. i) w.links v h) (Object h i) (asked h) (has_among (wire.questions (λ i. i) w.links v h) (Object h i) e)))) (λ e. e)

  flip : (h : ℕ) → (v == h) ≡ false → (h == v) ≡ false
  flip h e = on_bool (h == v) (λ i. absurd (true_false (v == h) (eq-eqb v h (sym (eqb-true h v i))) e)) (λ i. i)

  -- what its host told is among the exports
  exported : (h i : ℕ) → (v == h) ≡ false → ToldAlong w.links v (Object h i) → h < length script.vats → IsAmong (Object h i) (Told h)
  unfolding host_of wire.exports
  exported h i e told low = let at = linked h v (flip h e) low stands.low in let t = told at.0 at.1 in let here = exports_in h (wire.questions (λ i. i) w.links v h) (Object h i) refl (not_asked h i) at.0.log at.0.roots (inr t) in
      subst (λ ns. IsAmong (Object h i) (wire.exports_after h (wire.questions (λ i. i) w.links v h) ns (wire.roots_of (link_at h v w.links)))) (sym (log_is at.0 (link_at h v w.links) at.1))
      (subst (λ ns. IsAmong (Object h i) (wire.exports_after h (wire.questions (λ i. i) w.links v h) at.0.log ns)) (sym (roots_is at.0 (link_at h v w.links) at.1)) here)

  own_object : (h i : ℕ) → v ≡ h → found v (table_of w v s) (Obj i) ≡ Is (Object h i)
  unfolding found
  own_object h i e = ap (λ z. Is (Object z i)) e

  object_found : (h i : ℕ) → OwnOrTold v (ToldAlong w.links v) (Object h i) → h < length script.vats → (b : Bool) → (v == h) ≡ b → found v (table_of w v s) (elim b [ true ↦ Obj i | false ↦ Far h (wire.rank (Told h) (Object h i)) ]) ≡ Is (Object h i)
  object_found h i o low true e = own_object h i (eqb-true v h e)
  object_found h i (inl k) low false e = absurd (true_false (v == h) (eq-eqb v h (sym k)) e)
  object_found h i (inr t) low false e = far_away h i e (exported h i e t low)

  -- the number of each name in the state is of that name
  name_found : (n : Name) → IsKnownIn (names_in s.known) n → OwnOrTold v (ToldAlong w.links v) n → host_of n < length script.vats → F n ≡ Is n
  unfolding number_of host_of
  name_found (Object h i) k o low = object_found h i o low (v == h) refl
  name_found (Root u) k o low = known_found (Root u) k
  name_found (Promise u i) k o low = known_found (Promise u i) k
  name_found (Answer h m) k o low = known_found (Answer h m) k
  name_found (Gift h i) k o low = known_found (Gift h i) k
  name_found (Sent m) k o low = let kept = stands.kept in absurd (all_among IsEventual (names_in s.known) (Sent m) kept.apart k)

  mail_found : (n : Name) → IsMessageName n → IsAmong n s.mails → F n ≡ Is n
  unfolding number_of
  mail_found (Sent m) h a = message_found (Sent m) a
  mail_found other k a = absurd k

  made_message : (n : Name) → IsMessageMade w.vats n → IsMessageName n
  made_message (Sent m) h = tt
  made_message other k = absurd k

  all_mails : map F s.mails ≡ map Is s.mails
  all_mails = let kept = stands.kept in all_same F Is IsMessageName (λ n. IsAmong n s.mails) mail_found s.mails kept.mails (all_self s.mails)

  numbered : StandsFor v (table_of w v s) (in_numbers w v s) (readied w s)
  unfolding in_numbers readied
  numbered = vat_twice (number_of w v s) (found v (table_of w v s)) (readied w s)
      ∙ vat_same F Is (Had script w v s) (Handed v (ToldAlong w.links v)) (λ n p o. name_found n p.1 o (p.3 knows)) (λ n p o. mail_found n (made_message n p.0) p.1) (λ n p o. name_found n p.1 o (p.3 knows)) (λ n i p o. name_found n p.1 o (p.3 knows))
      (readied w s) s.outbox all_mails refl refl stands.parts handed

pub states_have_numbers : EachStateHasNumbers
states_have_numbers script once knows = (
  λ ps rest w e opened v s there. let b = opened_both script once ps rest w e opened in let stands = b.0 in let wires = b.1 in numbered script w v s knows (opened_linked script once ps rest w e opened) (stands.vats v s there) (wires.objects v s there) (λ u. (asked_for_known script once).0 ps rest w e opened v s there u),
  λ w x es k opened stepped v s there. let b = stepped_both script once w x es k opened stepped in let stands = b.0 in let wires = b.1 in numbered script x v s knows (stepped_linked script once w x es k opened stepped) (stands.vats v s there) (wires.objects v s there) (λ u. (asked_for_known script once).1 w x es k opened stepped v s there u),
)

-- ---- the steps from there

pub entries_taken : EntriesAreTakenInNumbers
entries_taken script once knows w x y es e k follow opened stepped steps u s r there after =
    entries_stand script once w x y es e k follow opened stepped steps u s r there after (in_numbers x u s) ((states_have_numbers script once knows).1 w x es k opened stepped u s there)

pub openings_taken : OpeningTurnsAreTakenInNumbers
openings_taken script once knows ps rest p x y split opened opens u s r there after =
    openings_stand script once ps rest p x y split opened opens u s r there after (in_numbers x u s) ((states_have_numbers script once knows).0 ps (p ∷ rest) x split opened u s there)
