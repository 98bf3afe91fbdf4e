-- Calls on data: what the code does is what the machine does.
use Rattle.std.proofs.Common.{◌≡◌, ℕ, suc, pos, Bool, true, false, List, [], ◌∷◌, None, map, refl, ap, ◌∙◌}
use Rattle.std.specs.Prelude.{codes}
use Rattle.ev_base.specs.declared.values.Value.{Value as Held}
use Rattle.ev_base.specs.declared.values.Value.TheVariants as held
use Rattle.ev_heap.specs.declared.happened.Happened.TheVariants as event
use Rattle.def_kernel.specs.declared.node.Node.{Node}
use Rattle.def_machine.specs.Values.{Words, Value, Local}
use Rattle.def_machine.specs.State.{Called, Vat, opened_state}
use Rattle.def_machine.specs.State as machine
use Rattle.def_machine.specs.Refs.{follow}
use Rattle.def_machine.specs.Scopes as scopes
use Rattle.def_machine.specs.Perform as perform
use Rattle.def_machine.specs.Native as native
use Rattle.ev_prims.specs.Answers.{data_answer, members_at}
use Rattle.ev_prims.specs.Reading.{text_in, reply_by}
use Rattle.ev_prims.specs.declared.reply.Reply.{Reply}
use Rattle.ev_prims.specs.declared.reply.Reply.TheVariants as reply
use Rattle.ev_prims.proofs.Means.{data_is}
use Rattle.ev_pass.specs.declared.interior.Interior.{Interior as Room}
use Rattle.ev_room.specs.Reading.{World, names, text_of, value_of, values_of}
use Rattle.ev_room.specs.Sound.{IsSound, is_there, are_there}
use Rattle.ev_steps.specs.Steps.{Caller, iterate, replied, answered_there, answered, call_data}
use Rattle.ev_room.specs.Acts.{◌>>◌, call_there, closed}
use Rattle.ev_refs.specs.Follow.{followed}
use Rattle.ev_prims.proofs.Holds.{Alike, AllAlike, data_alike}
use Rattle.law_evaluation.proofs.Acts.Replies.{Fits, fits_data, of_each}
use Rattle.law_evaluation.proofs.Acts.Sounds.{there_on, all_on, all_and}
use Rattle.law_evaluation.proofs.Acts.Stands.{Met, vat, a_value, met_by, then_met, give_met, tell_met, fails_met, write_met, list_met, members_are, follow_all}
use Rattle.law_evaluation.proofs.Acts.Following.{all_followed_there}
use Rattle.ev_room.proofs.There.{both}
use Rattle.law_evaluation.proofs.Acts.Weights.{IsFront, same_text}
use Rattle.law_evaluation.proofs.Acts.Closes.{called_line, closed_met}

-- ---- what data answers

-- what calls in the code is what calls in the machine
abbrev pub CallsMet : World → Caller → scopes.Caller Local → Type 0
CallsMet w again their = (act : ℕ) (x : Held) (verb : Words) (args : List Held) (s : Room) → IsSound s → is_there s.heap x ≡ true → are_there s.heap args ≡ true
    → Met w a_value s (again act x verb args s) (their act (value_of w x) verb (values_of w args) (vat w s))

module _ (w : World) (tree : List Node) (again : Caller) (their : scopes.Caller Local) (h : CallsMet w again their) where
  iterate_met : (act : ℕ) (f : Held) (k : ℕ) (vs : List Held) (s : Room) → IsSound s → is_there s.heap f ≡ true → are_there s.heap vs ≡ true
      → Met w a_value s (iterate again act f k vs s) (perform.iterate (names w) tree their act (value_of w f) k (values_of w vs) (vat w s))
  unfolding iterate perform.iterate ◌>>◌ machine.◌>>◌
  iterate_met act f k [] s sound i is = give_met w a_value held.Null s sound refl
  iterate_met act f k (v ∷ vs) s sound i is =
      let b = both (is_there s.heap v) (are_there s.heap vs) is in
      then_met _ _ (h act f (codes "run") (held.Int (pos k) ∷ v ∷ []) s sound i (all_and (is_there s.heap v) true b.0 refl))
      (λ u t q j g. iterate_met act f (suc k) vs t q (there_on g f i) (all_on g vs b.1))

  pub replied_met : (act : ℕ) (r : Reply) (s : Room) → IsSound s → Fits s.heap r
      → Met w a_value s (replied again act r s) (perform.reply (names w) tree their act (reply_by (text_of w) r) (vat w s))
  unfolding replied perform.reply
  replied_met act (reply.Says v) s sound i = give_met w a_value v s sound i
  replied_met act (reply.Writes u) s sound i = write_met w tree u s sound
  replied_met act (reply.Lists vs) s sound i = list_met w tree act vs s sound (of_each s.heap vs i)
  replied_met act (reply.Iterates f vs) s sound i = iterate_met act f 0 vs s sound i.0 (of_each s.heap vs i.1)
  replied_met act (reply.Fails p) s sound i = fails_met w a_value p s sound

  one_alike : (s : Room) → IsFront w s.heap → (x : Held) → is_there s.heap x ≡ true → Alike (text_of w) (text_in s.heap) x
  one_alike s f (held.Text id) i = same_text w s.heap f id i
  one_alike s f _ i = tt

  all_alike : (s : Room) → IsFront w s.heap → (xs : List Held) → are_there s.heap xs ≡ true → AllAlike (text_of w) (text_in s.heap) xs
  all_alike s f [] i = tt
  all_alike s f (x ∷ xs) i = let b = both (is_there s.heap x) (are_there s.heap xs) i in (one_alike s f x b.0, all_alike s f xs b.1)

  data_replied : (act : ℕ) (y : Value Local) (verb : Words) (vs : List (Value Local)) (v : Vat Local)
      → perform.data_answer (names w) tree their act y verb vs v ≡ perform.reply (names w) tree their act (native.data_reply v.lists y verb vs (map (follow (names w) v) vs)) v
  unfolding perform.data_answer opened_state
  data_replied act y verb vs v = refl

  data_by : (act : ℕ) (x : Held) (verb : Words) (args : List Held) (s : Room) → IsSound s → is_there s.heap x ≡ true → are_there s.heap args ≡ true → IsFront w s.heap
      → perform.data_answer (names w) tree their act (value_of w x) verb (values_of w args) (vat w s)
      ≡ perform.reply (names w) tree their act (reply_by (text_of w) (data_answer (text_in s.heap) (members_at s.heap) x verb args (map (followed s.refs) args))) (vat w s)
  data_by act x verb args s sound i is f =
      data_replied act (value_of w x) verb (values_of w args) (vat w s)
      ∙ ap (λ (vs : List (Value Local)). perform.reply (names w) tree their act (native.data_reply (vat w s).lists (value_of w x) verb (values_of w args) vs) (vat w s)) (follow_all w s sound args)
      ∙ ap (λ (r : native.Reply Local). perform.reply (names w) tree their act r (vat w s))
      (data_is (text_of w) (vat w s).lists (members_at s.heap) (members_are w s) x verb args (map (followed s.refs) args)
      ∙ ap (reply_by (text_of w)) (data_alike (text_of w) (text_in s.heap) (members_at s.heap) x verb args (map (followed s.refs) args) (one_alike s f x i) (all_alike s f (map (followed s.refs) args) (all_followed_there s sound args is))))

  there_met : (act : ℕ) (x : Held) (verb : Words) (args : List Held) (b : Bool) (s : Room) → IsSound s → is_there s.heap x ≡ true → are_there s.heap args ≡ true → b ≡ true
      → Met w a_value s (answered_there again act x verb args b s) (perform.data_answer (names w) tree their act (value_of w x) verb (values_of w args) (vat w s))
  unfolding answered_there
  there_met act x verb args true s sound i is e =
      met_by _ (λ f. data_by act x verb args s sound i is f.0)
      (replied_met act (data_answer (text_in s.heap) (members_at s.heap) x verb args (map (followed s.refs) args)) s sound (fits_data s.heap sound.lists (text_in s.heap) x verb args (map (followed s.refs) args) is))
  there_met act x verb args false s sound i is e = absurd (cc)

  pub answered_met : (act : ℕ) (x : Held) (verb : Words) (args : List Held) (s : Room) → IsSound s → is_there s.heap x ≡ true → are_there s.heap args ≡ true
      → Met w a_value s (answered again act x verb args s) (perform.data_answer (names w) tree their act (value_of w x) verb (values_of w args) (vat w s))
  unfolding answered call_there
  answered_met act x verb args s sound i is =
      let k = all_followed_there s sound args is in
      there_met act x verb args (call_there s.heap x (map (followed s.refs) args)) s sound i is (all_and (is_there s.heap x) (are_there s.heap (map (followed s.refs) args)) i k)

  -- a call on data, as it is held and as it is followed
  pub call_data_met : (act : ℕ) (x y : Held) (verb : Words) (args : List Held) (s : Room) → IsSound s → is_there s.heap y ≡ true → are_there s.heap args ≡ true
      → Met w a_value s (call_data again act x y verb args s)
      (scopes.with_lines act (value_of w x) verb (values_of w args) (perform.data_answer (names w) tree their act (value_of w y) verb (values_of w args)) (vat w s))
  unfolding call_data closed scopes.with_lines scopes.ended machine.ending ◌>>◌ machine.◌>>◌
  call_data_met act x y verb args s sound i is =
      then_met _ _ (tell_met w (event.Call act x verb args None) (Called act (value_of w x) verb (values_of w args) None) s sound (called_line w act x verb args None))
      (λ u t q j g. closed_met w act t (answered again act y verb args t) (perform.data_answer (names w) tree their act (value_of w y) verb (values_of w args) (vat w t)) (vat w t)
      (answered_met act y verb args t q (there_on g y i) (all_on g args is)))
