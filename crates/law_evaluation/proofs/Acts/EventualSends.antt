-- `E.send`, `E.sendOnly` and `Ref.whenResolved`: what an activation does is what the machine does.
use Rattle.std.proofs.Common.{◌≡◌, ℕ, nat_le, nat_lt, Bool, true, false, List, Option, Some, None, Ok, Err, length, refl, ap}
use Rattle.std.specs.Prelude.{codes, if◌then◌else◌}
use Rattle.std.proofs.lemmas.List.{length-map}
use Rattle.ev_base.specs.declared.values.Value.{Value as Held}
use Rattle.ev_base.specs.declared.values.Value.TheVariants as held
use Rattle.def_kernel.specs.declared.node.Node.{Node}
use Rattle.def_machine.specs.Native as native
use Rattle.def_machine.specs.Perform as perform
use Rattle.def_machine.specs.Refs.{follow}
use Rattle.def_machine.specs.Scopes as scopes
use Rattle.def_machine.specs.State as machine
use Rattle.def_machine.specs.State.{Vat, Done, opened_state}
use Rattle.def_machine.specs.Values.{Words, Value, Null, Ref, Local, Prom}
use Rattle.ev_steps.specs.Eventual.{message_in, short_message, referred, send_by, send_some, send_with, when_answer, when_by}
use Rattle.ev_pass.specs.Acts as inside
use Rattle.ev_pass.specs.Reading.{Lines, StandsFor}
use Rattle.ev_pass.specs.declared.interior.Interior.{Interior}
use Rattle.ev_pass.specs.declared.interior.Stop.TheVariants as stop
use Rattle.ev_prims.specs.Answers.{members_at}
use Rattle.ev_prims.specs.Reading.{text_in}
use Rattle.ev_refs.specs.Follow.{followed}
use Rattle.ev_room.specs.Acts.{◌>>=◌, ◌>>◌, give, fail}
use Rattle.ev_room.specs.Reading.{World, beside, line_of, names, text_of, texts_of, value_of, values_of, vat_of}
use Rattle.ev_room.specs.Sound.{IsSound, is_there, are_there, bad_message_id, not_near_id}
use Rattle.ev_room.specs.declared.exit.Exit.TheVariants.{Thrown}
use Rattle.ev_settle.specs.Reacting.{when_resolved}
use Rattle.ev_settle.specs.Sending as sending
use Rattle.ev_settle.specs.Statements.{EndsFor, answer_given}
use Rattle.ev_settle.proofs.Reacts.{whens_is}
use Rattle.ev_settle.proofs.Sends.{sends_is, sends_only}
use Rattle.law_evaluation.proofs.Acts.Following.{followed_there}
use Rattle.law_evaluation.proofs.Acts.Replies.{members_there}
use Rattle.law_evaluation.proofs.Acts.Stands.{Met, a_value, follow_is, give_met, known_there, members_are, met_by, throw_met, vat}
use Rattle.law_evaluation.proofs.Acts.Weights.{same_text}
use Rattle.law_evaluation.proofs.Acts.Referring.{base_of, each_of, ground_of, inside_of, reads_before, then_ends}
use Rattle.law_evaluation.proofs.Acts.Lines.{line_tells}
use Rattle.law_evaluation.proofs.Acts.Sends as holds

-- what stands for something that is given ends by giving that
pub gives_end : {A B : Type 0} (ts : List Words) (key : List ℕ) (line : Lines) (s : Vat Local) (read : A → B) (o : inside.Out A) (d : Done Local B)
    → StandsFor ts key line s read o d → EndsFor ts key line s (λ a v. machine.Gives (read a) v) o d
gives_end ts key line s read (Ok a, i) d h = h
gives_end ts key line s read (Err stop.Fuel, i) d h = h
gives_end ts key line s read (Err (stop.Repeated m n), i) d h = h
gives_end ts key line s read (Err stop.Astray, i) d h = h
gives_end ts key line s read (Err stop.Missing, i) d h = tt
gives_end ts key line s read (Err stop.Memory, i) d h = tt

module _ (w : World) (tree : List Node) (s : Interior) (sound : IsSound s) where
  -- ---- sends

  lone_met : (act : ℕ) (x : Held) (verb : Words) (args : List Held) → is_there s.heap x ≡ true → are_there s.heap args ≡ true
      → Met w a_value s (send_by true act x verb args s) (perform.send_by (names w) tree true act (value_of w x) verb (values_of w args) (vat w s))
  unfolding send_by perform.send_by referred ◌>>◌ give vat_of machine.give
  lone_met act x verb args i a =
      then_ends w s sound a_value (sending.send_only act x verb args s) (λ u. give held.Null) (λ u v. machine.Gives Null v) _
      (holds.sends_only (is_there s.heap) (base_of s) s (ground_of s sound) (inside_of s sound) act x verb args i (each_of s.heap args a))
      (λ b. gives_end (texts_of w) w.key (line_of w) (beside w s) (λ u. Null) (sending.send_only act x verb args s) _
      (sends_only (texts_of w) w.key (line_of w) (beside w s) (line_tells w) act x verb args s (reads_before s sound w b)))
      (λ u t q e. give_met w a_value held.Null t q refl)

  answered_met : (act : ℕ) (x : Held) (verb : Words) (args : List Held) → is_there s.heap x ≡ true → are_there s.heap args ≡ true
      → Met w a_value s (send_by false act x verb args s) (perform.send_by (names w) tree false act (value_of w x) verb (values_of w args) (vat w s))
  unfolding send_by perform.send_by referred ◌>>=◌ give vat_of machine.give
  answered_met act x verb args i a =
      then_ends w s sound a_value (sending.send act x verb args s) (λ p. give (held.Prom p)) (λ p v. machine.Gives (Ref (Prom p)) v) _
      (holds.sends (is_there s.heap) (base_of s) s (ground_of s sound) (inside_of s sound) act x verb args i (each_of s.heap args a))
      (λ b. gives_end (texts_of w) w.key (line_of w) (beside w s) (λ p. Ref (Prom p)) (sending.send act x verb args s) _
      (sends_is (texts_of w) w.key (line_of w) (beside w s) (line_tells w) act x verb args s (reads_before s sound w b)))
      (λ p t q e. give_met w a_value (held.Prom p) t q refl)

  by_met : (only : Bool) (act : ℕ) (x : Held) (verb : Words) (args : List Held) → is_there s.heap x ≡ true → are_there s.heap args ≡ true
      → Met w a_value s (send_by only act x verb args s) (perform.send_by (names w) tree only act (value_of w x) verb (values_of w args) (vat w s))
  by_met true act x verb args i a = lone_met act x verb args i a
  by_met false act x verb args i a = answered_met act x verb args i a

  -- ---- messages

  pub bad_message_met : Met w a_value s (fail (Thrown bad_message_id) s) (machine.throw (codes "bad message") (vat w s))
  bad_message_met = throw_met w a_value bad_message_id s sound (known_there s sound bad_message_id refl)

  send_chosen : (b : Bool) (only : Bool) (act : ℕ) (x : Held) (verb : Words) (args : List Held) → is_there s.heap x ≡ true → are_there s.heap args ≡ true
      → Met w a_value s (send_some only act x (short_message verb args b) s)
      ((if b then perform.send_by (names w) tree only act (value_of w x) verb (values_of w args) else machine.throw (codes "bad message")) (vat w s))
  unfolding send_some
  send_chosen true only act x verb args i a = by_met only act x verb args i a
  send_chosen false only act x verb args i a = bad_message_met

  listed_is : (only : Bool) (act : ℕ) (x : Value Local) (verb : Words) (args : List Held)
      → perform.send_listed (names w) tree only act x verb (values_of w args) (vat w s)
      ≡ (if nat_le (length args) 255 then perform.send_by (names w) tree only act x verb (values_of w args) else machine.throw (codes "bad message")) (vat w s)
  unfolding perform.send_listed
  listed_is only act x verb args = ap (λ (n : ℕ). (if nat_le n 255 then perform.send_by (names w) tree only act x verb (values_of w args) else machine.throw (codes "bad message")) (vat w s)) (length-map args (value_of w))

  -- at a text and a list
  message_is : (only : Bool) (act : ℕ) (x : Value Local) (id k : ℕ)
      → perform.send_with (names w) tree only act x (value_of w (held.Text id)) (value_of w (held.List k)) (vat w s)
      ≡ perform.send_listed (names w) tree only act x (text_of w id) (native.list_at (vat w s).lists k) (vat w s)
  unfolding perform.send_with opened_state
  message_is only act x id k = refl

  message_met : (only : Bool) (act : ℕ) (x : Held) (id k : ℕ) → is_there s.heap x ≡ true → nat_lt id (length s.heap.texts) ≡ true
      → Met w a_value s (send_some only act x (message_in s.heap (held.Text id) (held.List k)) s)
      (perform.send_with (names w) tree only act (value_of w x) (value_of w (held.Text id)) (value_of w (held.List k)) (vat w s))
  unfolding message_in
  message_met only act x id k i t =
      let vs = members_at s.heap k in
      rw (message_is only act (value_of w x) id k, members_are w s k)
      (met_by _ (λ b. ap (λ (u : Words). perform.send_listed (names w) tree only act (value_of w x) u (values_of w vs) (vat w s)) (same_text w s.heap b.0 id t))
      (rw (listed_is only act (value_of w x) (text_in s.heap id) vs)
      (send_chosen (nat_le (length vs) 255) only act x (text_in s.heap id) vs i (members_there s.heap sound.lists k))))

  list_met : (only : Bool) (act : ℕ) (x : Held) (id : ℕ) (z : Held) → is_there s.heap x ≡ true → nat_lt id (length s.heap.texts) ≡ true
      → Met w a_value s (send_some only act x (message_in s.heap (held.Text id) z) s)
      (perform.send_with (names w) tree only act (value_of w x) (value_of w (held.Text id)) (value_of w z) (vat w s))
  unfolding message_in send_some perform.send_with
  list_met only act x id (held.List k) i t = message_met only act x id k i t
  list_met only act x id other i t = bad_message_met

  verb_met : (only : Bool) (act : ℕ) (x y z : Held) → is_there s.heap x ≡ true → is_there s.heap y ≡ true
      → Met w a_value s (send_some only act x (message_in s.heap y z) s)
      (perform.send_with (names w) tree only act (value_of w x) (value_of w y) (value_of w z) (vat w s))
  unfolding message_in send_some perform.send_with
  verb_met only act x (held.Text id) z i j = list_met only act x id z i j
  verb_met only act x other z i j = bad_message_met

  send_is : (their : scopes.Caller Local) (only : Bool) (act : ℕ) (x v l : Value Local)
      → perform.perform (names w) tree their act (native.SendsTo only x v l) (vat w s)
      ≡ perform.send_with (names w) tree only act x (follow (names w) (vat w s) v) (follow (names w) (vat w s) l) (vat w s)
  unfolding perform.perform opened_state
  send_is their only act x v l = refl

  pub send_met : (their : scopes.Caller Local) (only : Bool) (act : ℕ) (x v l : Held) → is_there s.heap x ≡ true → is_there s.heap v ≡ true → is_there s.heap l ≡ true
      → Met w a_value s (send_with only act x v l s) (perform.perform (names w) tree their act (native.SendsTo only (value_of w x) (value_of w v) (value_of w l)) (vat w s))
  unfolding send_with
  send_met their only act x v l i j k =
      rw (send_is their only act (value_of w x) (value_of w v) (value_of w l), follow_is w s sound v, follow_is w s sound l)
      (verb_met only act x (followed s.refs v) (followed s.refs l) i (followed_there s sound v j))

  -- ---- reactions

  when_is : (their : scopes.Caller Local) (act : ℕ) (x o : Value Local)
      → perform.perform (names w) tree their act (native.Whens x o) (vat w s) ≡ perform.when_resolved (names w) tree act x o (vat w s)
  unfolding perform.perform
  when_is their act x o = refl

  given_met : (a : Option ℕ) (t : Interior) → IsSound t → Met w a_value t (when_answer a t) (answer_given a (vat w t))
  unfolding when_answer machine.throw machine.give
  given_met (Some a) t q = give_met w a_value (held.Prom a) t q refl
  given_met None t q = throw_met w a_value not_near_id t q (known_there t q not_near_id refl)

  pub when_met : (their : scopes.Caller Local) (act : ℕ) (x o : Held) → is_there s.heap x ≡ true → is_there s.heap o ≡ true
      → Met w a_value s (when_by act x o s) (perform.perform (names w) tree their act (native.Whens (value_of w x) (value_of w o)) (vat w s))
  unfolding when_by when_answer referred ◌>>=◌ vat_of
  when_met their act x o i j =
      rw (when_is their act (value_of w x) (value_of w o))
      (then_ends w s sound a_value (when_resolved act x o s) (λ a. when_answer a) answer_given _
      (holds.whens (is_there s.heap) (base_of s) s (ground_of s sound) (inside_of s sound) act x o i j)
      (λ b. whens_is (texts_of w) w.key (line_of w) (beside w s) (line_tells w) act x o tree s (reads_before s sound w b))
      (λ a t q e. given_met a t q))
