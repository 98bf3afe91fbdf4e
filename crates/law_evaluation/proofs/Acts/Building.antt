-- The form of an object expression over the state of the code stands for the machine's.
use Rattle.std.proofs.Common.{◌≡◌, ℕ, ℤ, true, false, List, [], ◌∷◌, Ok, Err, map, refl}
use Rattle.std.proofs.lemmas.List.{map-append}
use Rattle.ev_base.specs.declared.values.Value.{Value as Held}
use Rattle.ev_base.specs.declared.values.Value.TheVariants as held
use Rattle.ev_heap.specs.Contents.{Contents}
use Rattle.def_kernel.specs.declared.node.Literal.TheVariants as literal
use Rattle.def_kernel.specs.declared.node.Node.{Node}
use Rattle.def_machine.specs.Calls as calls
use Rattle.def_machine.specs.Form.{Item, Begin, End, Word, Fact, items_of, literal_value}
use Rattle.def_machine.specs.Perform as perform
use Rattle.def_machine.specs.State.{Vat, opened_state}
use Rattle.def_machine.specs.State as machine
use Rattle.def_machine.specs.Values.{Words, Value, Text, Local}
use Rattle.ev_pass.specs.declared.interior.Interior.{Interior as Room}
use Rattle.ev_room.specs.Reading.{World, names, value_of, values_of}
use Rattle.ev_room.specs.Sound.{Grown, IsSound, is_there, are_there}
use Rattle.ev_room.specs.Acts.{Act, Out, and_then, ◌>>=◌, give, fail, make_list, text_value}
use Rattle.ev_room.specs.Forms.{Forms, with_member, behind, make_form, formed, build_item, is_last, build_on, build, object_form}
use Rattle.law_evaluation.proofs.Acts.Replies.{there_joined}
use Rattle.law_evaluation.proofs.Acts.Sounds.{all_on, all_and}
use Rattle.law_evaluation.proofs.Acts.Stands.{Met, vat, a_value, then_met, stop_met, text_met, list_met}

abbrev forms_of : World → Forms → List (List (Value Local))
forms_of w fs = map (values_of w) fs

-- the members of all lists stand there
abbrev AllThere : Contents → Forms → Type 0
AllThere h [] = Unit {0}
AllThere h (f ∷ fs) = (are_there h f ≡ true) × AllThere h fs

forms_on : {a b : Contents} → Grown a b → (fs : Forms) → AllThere a fs → AllThere b fs
forms_on g [] t = tt
forms_on g (f ∷ fs) t = (all_on g f t.0, forms_on g fs t.1)

behind_there : (h : Contents) (fs : Forms) → AllThere h fs → AllThere h (behind fs)
behind_there h [] t = tt
behind_there h (f ∷ fs) t = t.1

member_there : (h : Contents) (v : Held) (fs : Forms) → is_there h v ≡ true → AllThere h fs → AllThere h (with_member v fs)
unfolding with_member
member_there h v [] i t = tt
member_there h v (f ∷ fs) i t = (there_joined h f (v ∷ []) t.0 (all_and (is_there h v) true i refl), t.1)

member_is : (w : World) (tree : List Node) (v : Held) (fs : Forms) → calls.with_item (names w) tree (value_of w v) (forms_of w fs) ≡ forms_of w (with_member v fs)
unfolding with_member calls.with_item
member_is w tree v [] = refl
member_is w tree v (f ∷ fs) = rw (map-append (value_of w) f (v ∷ [])) refl

module _ (w : World) (tree : List Node) (act : ℕ) where
  abbrev their_build : List Item → List (List (Value Local)) → machine.Act Local (Value Local)
  their_build is fs = calls.build (names w) tree act is fs

  -- a value that is no end, and then the rest
  value_then : (is : List Item) (fs : Forms) (o : Out Held)
      → and_then (and_then o (λ v. give (formed false v fs))) (λ x. build_on x.0 (build act is x.1)) ≡ and_then o (λ v. build act is (with_member v fs))
  unfolding and_then give formed build_on
  value_then is fs (Ok v, s) = refl
  value_then is fs (Err e, s) = refl

  -- the last end gives the whole
  whole_then : (is : List Item) (fs : Forms) (o : Out Held)
      → and_then (and_then o (λ v. give (formed true v fs))) (λ x. build_on x.0 (build act is x.1)) ≡ o
  unfolding and_then give formed build_on
  whole_then is fs (Ok v, s) = refl
  whole_then is fs (Err e, s) = refl

  form_met : (f : List Held) (s : Room) → IsSound s → are_there s.heap f ≡ true → Met w a_value s (make_list act f s) (perform.make_list (names w) tree act (values_of w f) (vat w s))
  form_met f s sound t = list_met w tree act f s sound t

  word_is : (u : Words) (is : List Item) (fs : List (List (Value Local))) (y : Vat Local)
      → their_build (Word u ∷ is) fs y ≡ machine.and_then (machine.give (Text u) y) (λ v. their_build is (calls.with_item (names w) tree v fs))
  unfolding calls.build opened_state
  word_is u is fs y = refl

  text_is : (u : Words) (is : List Item) (fs : List (List (Value Local))) (y : Vat Local)
      → their_build (Fact (literal.Text u) ∷ is) fs y ≡ machine.and_then (machine.give (Text u) y) (λ v. their_build is (calls.with_item (names w) tree v fs))
  unfolding calls.build literal_value opened_state
  text_is u is fs y = refl

  ended_is : (i : Item) (is : List Item) (f : List (Value Local)) (fs : List (List (Value Local))) (y : Vat Local)
      → their_build (End ∷ i ∷ is) (f ∷ fs) y ≡ machine.and_then (perform.make_list (names w) tree act f y) (λ v. their_build (i ∷ is) (calls.with_item (names w) tree v fs))
  unfolding calls.build machine.◌>>=◌
  ended_is i is f fs y = refl

  abbrev Built : List Item → Type 0
  Built is = (fs : Forms) (s : Room) → IsSound s → AllThere s.heap fs → Met w a_value s (build act is fs s) (their_build is (forms_of w fs) (vat w s))

  -- a text comes behind the others
  text_then : (u : Words) (is : List Item) → Built is → (fs : Forms) (s : Room) → IsSound s → AllThere s.heap fs
      → Met w a_value s (and_then (and_then (text_value u s) (λ v. give (formed false v fs))) (λ x. build_on x.0 (build act is x.1)))
      (machine.and_then (machine.give (Text u) (vat w s)) (λ v. their_build is (calls.with_item (names w) tree v (forms_of w fs))))
  text_then u is h fs s sound t =
      rw (value_then is fs (text_value u s))
      (then_met _ _ (text_met w u s sound) (λ v r q i g. rw (member_is w tree v fs) (h (with_member v fs) r q (member_there r.heap v fs i (forms_on g fs t)))))

  -- a list that ends comes behind the others
  list_then : (f : List Held) (fs : Forms) (i : Item) (is : List Item) → Built (i ∷ is) → (s : Room) → IsSound s → AllThere s.heap (f ∷ fs)
      → Met w a_value s (and_then (and_then (make_list act f s) (λ v. give (formed false v fs))) (λ x. build_on x.0 (build act (i ∷ is) x.1))) (their_build (End ∷ i ∷ is) (forms_of w (f ∷ fs)) (vat w s))
  list_then f fs i is h s sound t =
      rw (value_then (i ∷ is) fs (make_list act f s), ended_is i is (values_of w f) (forms_of w fs) (vat w s))
      (then_met _ _ (form_met f s sound t.0) (λ v r q j g. rw (member_is w tree v fs) (h (with_member v fs) r q (member_there r.heap v fs j (forms_on g fs t.1)))))

  last_then : (f : List Held) (fs : Forms) (s : Room) → IsSound s → AllThere s.heap (f ∷ fs)
      → Met w a_value s (and_then (and_then (make_list act f s) (λ v. give (formed true v fs))) (λ x. build_on x.0 (build act [] x.1))) (their_build (End ∷ []) (forms_of w (f ∷ fs)) (vat w s))
  unfolding calls.build
  last_then f fs s sound t = rw (whole_then [] fs (make_list act f s)) (form_met f s sound t.0)

  -- what is done at an item, and then the rest
  abbrev item_then : Item → List Item → Forms → Act Held
  item_then i is fs = λ s. and_then (build_item act i (is_last is) fs s) (λ x. build_on x.0 (build act is x.1))

  begin_then : (is : List Item) → Built is → (fs : Forms) (s : Room) → IsSound s → AllThere s.heap fs
      → Met w a_value s (item_then Begin is fs s) (their_build (Begin ∷ is) (forms_of w fs) (vat w s))
  unfolding build_item calls.build and_then give build_on
  begin_then is h fs s sound t = h ([] ∷ fs) s sound (refl, t)

  number_then : (z : ℤ) (is : List Item) → Built is → (fs : Forms) (s : Room) → IsSound s → AllThere s.heap fs
      → Met w a_value s (item_then (Fact (literal.Int z)) is fs s) (their_build (Fact (literal.Int z) ∷ is) (forms_of w fs) (vat w s))
  unfolding build_item calls.build literal_value and_then give formed build_on
  number_then z is h fs s sound t = rw (member_is w tree (held.Int z) fs) (h (with_member (held.Int z) fs) s sound (member_there s.heap (held.Int z) fs refl t))

  letter_then : (c : ℕ) (is : List Item) → Built is → (fs : Forms) (s : Room) → IsSound s → AllThere s.heap fs
      → Met w a_value s (item_then (Fact (literal.Char c)) is fs s) (their_build (Fact (literal.Char c) ∷ is) (forms_of w fs) (vat w s))
  unfolding build_item calls.build literal_value and_then give formed build_on
  letter_then c is h fs s sound t = rw (member_is w tree (held.Char c) fs) (h (with_member (held.Char c) fs) s sound (member_there s.heap (held.Char c) fs refl t))

  pub build_met : (is : List Item) → Built is
  unfolding build build_item make_form ◌>>=◌
  build_met [] fs s sound t = unfold calls.build in stop_met w a_value s
  build_met (Begin ∷ is) fs s sound t = begin_then is (build_met is) fs s sound t
  build_met (End ∷ []) [] s sound t = unfold calls.build fail and_then in stop_met w a_value s
  build_met (End ∷ []) (f ∷ fs) s sound t = last_then f fs s sound t
  build_met (End ∷ i ∷ is) [] s sound t = unfold calls.build fail and_then in stop_met w a_value s
  build_met (End ∷ i ∷ is) (f ∷ fs) s sound t = list_then f fs i is (build_met (i ∷ is)) s sound t
  build_met (Word u ∷ is) fs s sound t = rw (word_is u is (forms_of w fs) (vat w s)) (text_then u is (build_met is) fs s sound t)
  build_met (Fact (literal.Text u) ∷ is) fs s sound t = rw (text_is u is (forms_of w fs) (vat w s)) (text_then u is (build_met is) fs s sound t)
  build_met (Fact (literal.Int z) ∷ is) fs s sound t = number_then z is (build_met is) fs s sound t
  build_met (Fact (literal.Char c) ∷ is) fs s sound t = letter_then c is (build_met is) fs s sound t

  pub object_form_met : (id : ℕ) (s : Room) → IsSound s → Met w a_value s (object_form tree act id s) (their_build (items_of tree id) [] (vat w s))
  unfolding object_form
  object_form_met id s sound = build_met (items_of tree id) [] s sound tt
