-- Messages that go out, and vats that are told, as the machine has them.
use Rattle.std.proofs.Common.{◌≡◌, ℕ, Bool, true, false, List, [], ◌∷◌, map, refl, sym, subst, Option, option_map, Some, None}
use Rattle.std.specs.Prelude.{if◌then◌else◌, is_some}
use Rattle.ev_base.specs.declared.values.Value.{Value as Held}
use Rattle.ev_base.specs.declared.values.Value.TheVariants as held
use Rattle.def_machine.specs.Refs as refs
use Rattle.def_machine.specs.State as machine
use Rattle.def_machine.specs.State.{Vat, Posted, is_in}
use Rattle.def_machine.specs.Values.{Words, Value, Local, Mess, Prom}
use Rattle.ev_refs.specs.Follow.{followed, place_of}
use Rattle.ev_refs.specs.Reading.{value_by, place_by}
use Rattle.ev_refs.specs.declared.follow.Place.{Place}
use Rattle.ev_refs.specs.declared.follow.Place.TheVariants.{Near, Mine, FarPromise, FarObject, Gone}
use Rattle.ev_pass.specs.Acts as code
use Rattle.ev_pass.specs.Delivering.{posted, deliver, inform_plainly, inform_at, inform}
use Rattle.ev_pass.specs.Notes.{Deliver, Settled, Elsewhere}
use Rattle.ev_pass.specs.Passing.{packs, pass}
use Rattle.ev_pass.specs.Reading.{Lines, Reads, StandsFor, names_under, passed_by, passeds_by, reference_by, vat_at}
use Rattle.ev_pass.specs.declared.interior.Interior.{Interior}
use Rattle.ev_pass.specs.declared.note.Reference.{Reference}
use Rattle.ev_pass.proofs.Machine.{followed_at, placed_at, passes, passes_all}
use Rattle.ev_pass.proofs.Stands.{both_then, gives, told_is, sent_out_is}

module _ (ts : List Words) (key : List ℕ) (line : Lines) (s : Vat Local) where
  abbrev pub at : Interior → Vat Local
  at i = vat_at ts line i s

  some_mapped : (a : Option ℕ) → is_some (option_map Prom a) ≡ is_some a
  some_mapped (Some n) = refl
  some_mapped None = refl

  pub delivers : (m : ℕ) (a : Option ℕ) (verb : Words) (args : List Held) (h : ℕ) (x : Reference) (target : Value Local) (i : Interior) → Reads ts key i → line (posted h m) ≡ Posted h (Mess m) ∷ []
      → StandsFor ts key line s (λ u. u) (deliver m a verb args h x i) (refs.deliver (names_under key) (record { id = Mess m; target = target; verb = verb; args = map (value_by ts) args; answer = option_map Prom a }) h (reference_by x) (at i))
  unfolding deliver refs.deliver code.◌>>=◌ code.◌>>◌ machine.◌>>=◌ machine.◌>>◌
  delivers m a verb args h x target i good posts =
      both_then ts key line s (passeds_by ts) (λ u. u) (packs (pass h) args i) _ _ _ (passes_all ts key line s h args i good)
      (λ ps j e next. both_then ts key line s (λ u. u) (λ u. u) (code.tell (posted h m) j) _ _ _ (told_is ts key line s (posted h m) (Posted h (Mess m)) j posts next)
      (λ u k g done. subst (λ (b : Bool). StandsFor ts key line s (λ v. v) (code.send_out h (Deliver m a x verb ps) k) (machine.send_out h (machine.Deliver (record { message = Mess m; asks = b; answer = option_map Prom a }) (reference_by x) verb (passeds_by ts ps)) (at k))) (sym (some_mapped a))
      (sent_out_is ts key line s h (Deliver m a x verb ps) k done)))

  plainly_is : (p w : ℕ) (y : Held) (i : Interior) → Reads ts key i
      → StandsFor ts key line s (λ u. u) (inform_plainly p w y i) (machine.and_then (refs.pass (names_under key) w (value_by ts y) (at i)) (λ z. machine.send_out w (machine.SettledTo (Prom p) z)))
  unfolding inform_plainly code.◌>>=◌
  plainly_is p w y i good =
      both_then ts key line s (passed_by ts) (λ u. u) (pass w y i) _ _ _ (passes ts key line s w y i good) (λ z j e next. sent_out_is ts key line s w (Settled p z) j next)

  at_place : (p w : ℕ) (y : Held) (q : Place) (i : Interior) → Reads ts key i → StandsFor ts key line s (λ u. u) (inform_at p w y q i) (refs.inform_of (names_under key) (Prom p) w (value_by ts y) (place_by ts q) (at i))
  unfolding inform_at refs.inform_of machine.◌>>=◌
  at_place p w y Near i good = plainly_is p w y i good
  at_place p w y (Mine n) i good = plainly_is p w y i good
  at_place p w y (FarPromise h n) i good = plainly_is p w y i good
  at_place p w y (FarObject h q) i good = sent_out_is ts key line s w (Elsewhere p h) i good
  at_place p w y (Gone t) i good = plainly_is p w y i good

  unless_gone : (b : Bool) (p w : ℕ) (y : Held) (q : Place) (i : Interior) → Reads ts key i
      → StandsFor ts key line s (λ u. u) ((if b then code.give tt else inform_at p w y q) i) ((if b then machine.give tt else refs.inform_of (names_under key) (Prom p) w (value_by ts y) (place_by ts q)) (at i))
  unless_gone true p w y q i good = gives ts key line s (λ u. u) tt i good
  unless_gone false p w y q i good = at_place p w y q i good

  pub informs : (p w : ℕ) (i : Interior) → Reads ts key i → StandsFor ts key line s (λ u. u) (inform p w i) (refs.inform (names_under key) (Prom p) w (at i))
  unfolding inform refs.inform machine.◌>>=◌ machine.look machine.and_then
  informs p w i good =
      let end = followed i.refs (held.Prom p) in
      subst (λ (y : Value Local). StandsFor ts key line s (λ u. u) (inform p w i) ((if is_in w i.refs.noticed then machine.give tt else refs.inform_of (names_under key) (Prom p) w y (refs.place (names_under key) (at i) y)) (at i)))
      (sym (followed_at ts key line s i (held.Prom p) good))
      (subst (λ (q : refs.Place Local). StandsFor ts key line s (λ u. u) (inform p w i) ((if is_in w i.refs.noticed then machine.give tt else refs.inform_of (names_under key) (Prom p) w (value_by ts end) q) (at i)))
      (sym (placed_at ts key line s i end)) (unless_gone (is_in w i.refs.noticed) p w end (place_of i.refs end) i good))
