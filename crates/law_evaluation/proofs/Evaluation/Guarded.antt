-- Escapes, tries and finallys over the state of the code are the machine's.
use Rattle.std.proofs.Common.{◌≡◌, ℕ, nat_lt, Bool, true, false, [], ◌∷◌, List, Option, Some, None, Ok, Err, length, refl, ap, ◌∙◌}
use Rattle.std.specs.Prelude.{◌==◌, if◌then◌else◌}
use Rattle.ev_base.specs.declared.values.Value.{Value as Held}
use Rattle.ev_base.specs.declared.values.Value.TheVariants as held
use Rattle.ev_heap.specs.declared.happened.Happened.TheVariants as event
use Rattle.def_kernel.specs.declared.node.Node.{Node}
use Rattle.def_kernel.specs.declared.node.Node.TheVariants.{Escape, Try, Finally, Hide}
use Rattle.def_machine.specs.Values.{Words, Value, Null, Ref, Local, Obj, numbering}
use Rattle.def_machine.specs.State.{Got, Vat, Done, Throws, Ejects, Stops, opened_state}
use Rattle.def_machine.specs.State as machine
use Rattle.def_machine.specs.Scopes.{Answer}
use Rattle.def_machine.specs.Scopes as scopes
use Rattle.def_machine.specs.Calls as calls
use Rattle.def_machine.specs.Eval as theirs
use Rattle.ev_room.specs.declared.exit.Exit.TheVariants as exit
use Rattle.ev_pass.specs.declared.interior.Interior.{Interior as Room}
use Rattle.ev_room.specs.declared.scope.Scope.{Scope}
use Rattle.ev_room.specs.Reading.{World, names, text_of, value_of, line_of}
use Rattle.ev_room.specs.Sound.{Grown, IsSound, is_there, are_bound}
use Rattle.ev_room.specs.Acts.{Out, Act, and_then, ◌>>=◌, ◌>>◌, give, fail}
use Rattle.ev_steps.specs.Steps.{Evaluator, alone, handled, caught_as, caught_by, caught_if, escaped, escaping, tried, trying, at_last, lasting, guarded, guarded_node}
use Rattle.law_evaluation.proofs.Evaluation.IsMet.{IsMet}
use Rattle.law_evaluation.proofs.Acts.Leaving.{new_ejector_met, leave_met}
use Rattle.law_evaluation.proofs.Acts.Sounds.{there_on, scope_on}
use Rattle.law_evaluation.proofs.Acts.Stands.{Met, Look, vat, a_value, an_answer, in_scope, scope_of, then_met, ended_met, answered_met, give_met, throw_met, eject_met, tell_met}

-- one act of the machine, and then another
abbrev machine_then : {A B : Type 0} → machine.Act Local A → machine.Act Local B → machine.Act Local B
machine_then m n = λ v. machine.and_then (m v) (λ u. n)

-- ---- what follows by the value alone

value_first : {B : Type 0} (d : Done Local (Answer Local)) (f : Value Local → machine.Act Local B) (g : Words → machine.Act Local B) (h : ℕ → Value Local → machine.Act Local B)
    → machine.end_by (λ x. f x.value) g h d ≡ machine.end_by f g h (machine.and_then d (λ x. machine.give x.value))
unfolding machine.end_by opened_state
value_first (machine.Gives x t) f g h = refl
value_first other f g h = refl

pub in_turn : {A B C : Type 0} (d : Done Local A) (f : A → machine.Act Local B) (g : B → machine.Act Local C) → machine.and_then (machine.and_then d f) g ≡ machine.and_then d (λ a t. machine.and_then (f a t) g)
unfolding opened_state
in_turn (machine.Gives x t) f g = refl
in_turn other f g = refl

dropped : {A : Type 0} (o : Out (Held × Scope)) (m : Act A) → and_then (and_then o (λ x. give x.0)) (λ u. m) ≡ and_then o (λ u. m)
unfolding and_then give
dropped (Ok x, t) m = refl
dropped (Err e, t) m = refl

got_line : (w : World) (act : ℕ) (v : Held) → line_of w (event.Got act v) ≡ Got act (value_of w v) ∷ []
unfolding line_of
got_line w act v = refl

module _ (w : World) (tree : List Node) (rec : Evaluator) (their : scopes.Evaluator Local) (h : IsMet w rec their) where
  alone_met : (e : ℕ) (here : Scope) (s : Room) → IsSound s → are_bound s.heap here.nouns ≡ true
      → Met w a_value s (alone rec e here s) (machine.and_then (their.expression e (scope_of w here) (vat w s)) (λ x. machine.give x.value))
  unfolding alone ◌>>=◌
  alone_met e here s sound k = then_met _ _ (h.expression e here s sound k) (λ x t q j g. give_met w a_value x.0 t q j.0)

  -- the second part of a finally, and then
  behind_met : {A B : Type 0} (look : Look A B) (e : ℕ) (here : Scope) (m : Act A) (d : machine.Act Local B) (s : Room) → IsSound s → are_bound s.heap here.nouns ≡ true
      → ((t : Room) → IsSound t → Grown s.heap t.heap → Met w look t (m t) (d (vat w t)))
      → Met w look s ((alone rec e here >> m) s) (machine_then (their.expression e (scope_of w here)) d (vat w s))
  unfolding alone ◌>>=◌ ◌>>◌ machine.◌>>◌
  behind_met look e here m d s sound k f = rw (dropped (rec.expression e here s) m) (then_met _ _ (h.expression e here s sound k) (λ x t q j g. f t q g))

  handled_met : (p e : ℕ) (v : Held) (here : Scope) (s : Room) → IsSound s → is_there s.heap v ≡ true → are_bound s.heap here.nouns ≡ true
      → Met w a_value s (handled rec p e v here s)
      (machine.and_then (their.pattern p (value_of w v) Null (scope_of w here) (vat w s)) (λ inner t. machine.and_then (their.expression e inner t) (λ x. machine.give x.value)))
  unfolding handled ◌>>=◌
  handled_met p e v here s sound i k =
      then_met _ _ (h.pattern p v held.Null here s sound i refl k) (λ inner t q j g. then_met _ _ (h.expression e inner t q j) (λ x u r l d. give_met w a_value x.0 u r l.0))

  handled_in : (p e : ℕ) (v : Held) (here : Scope) (s : Room) → IsSound s → is_there s.heap v ≡ true → are_bound s.heap here.nouns ≡ true
      → Met w (in_scope here) s (handled rec p e v here s)
      (machine.and_then (their.pattern p (value_of w v) Null (scope_of w here) (vat w s)) (λ inner t. machine.and_then (their.expression e inner t) (λ x. scopes.answered (scope_of w here) x.value)))
  unfolding handled scopes.answered ◌>>=◌
  handled_in p e v here s sound i k =
      then_met _ _ (h.pattern p v held.Null here s sound i refl k)
      (λ inner t q j g. then_met _ _ (h.expression e inner t q j) (λ x u r l d. give_met w (in_scope here) x.0 u r (l.0, scope_on d here.nouns (scope_on g here.nouns k))))

  -- ---- an escape

  caught_met : (c : Option (ℕ × ℕ)) (v : Held) (here : Scope) (s : Room) → IsSound s → is_there s.heap v ≡ true → are_bound s.heap here.nouns ≡ true
      → Met w (in_scope here) s (caught_by rec c v here s) (theirs.caught_by (names w) tree their (scope_of w here) c (value_of w v) (vat w s))
  unfolding caught_by caught_as theirs.caught_by scopes.answered ◌>>◌ machine.◌>>◌ machine.◌>>=◌
  caught_met None v here s sound i k =
      then_met _ _ (tell_met w (event.Got here.act v) (Got here.act (value_of w v)) s sound (got_line w here.act v)) (λ u t q j g. give_met w (in_scope here) v t q (there_on g v i, scope_on g here.nouns k))
  caught_met (Some c) v here s sound i k =
      then_met _ _ (tell_met w (event.Got here.act v) (Got here.act (value_of w v)) s sound (got_line w here.act v))
      (λ u t q j g. unfold scopes.answered in handled_in c.0 c.1 v here t q (there_on g v i) (scope_on g here.nouns k))

  caught_if_met : (c : Option (ℕ × ℕ)) (here : Scope) (n : ℕ) (v : Held) (b : Bool) (s : Room) → IsSound s → is_there s.heap v ≡ true → are_bound s.heap here.nouns ≡ true
      → Met w (in_scope here) s (caught_if rec c here n v b s) ((if b then theirs.caught_by (names w) tree their (scope_of w here) c (value_of w v) else machine.eject n (value_of w v)) (vat w s))
  unfolding caught_if
  caught_if_met c here n v true s sound i k = caught_met c v here s sound i k
  caught_if_met c here n v false s sound i k = eject_met w (in_scope here) n v s sound i

  -- the body of an escape
  abbrev body_of : ℕ → ℕ → ℕ → Scope → machine.Act Local (Answer Local)
  body_of p b j here = λ v. machine.and_then (their.pattern p (Ref (Obj j)) Null (scope_of w here) v) (λ inner. their.expression b inner)

  escaped_is : (p b : ℕ) (c : Option (ℕ × ℕ)) (here : Scope) (j : ℕ) (v : Vat Local)
      → theirs.escaped (names w) tree their j (scope_of w here) c (body_of p b j here) v
      ≡ machine.end_by (λ y. calls.leave (names w) tree j (scopes.answered (scope_of w here) y)) (λ q. calls.leave (names w) tree j (machine.throw q)) (λ n y. calls.leave (names w) tree j (if n == j then theirs.caught_by (names w) tree their (scope_of w here) c y else machine.eject n y))
      (machine.and_then (their.pattern p (Ref (Obj j)) Null (scope_of w here) v) (λ inner t. machine.and_then (their.expression b inner t) (λ x. machine.give x.value)))
  unfolding theirs.escaped machine.ending
  escaped_is p b c here j v =
      value_first (body_of p b j here v) (λ y. calls.leave (names w) tree j (scopes.answered (scope_of w here) y)) (λ q. calls.leave (names w) tree j (machine.throw q)) (λ n y. calls.leave (names w) tree j (if n == j then theirs.caught_by (names w) tree their (scope_of w here) c y else machine.eject n y))
      ∙ ap (λ (d : Done Local (Value Local)). machine.end_by (λ y. calls.leave (names w) tree j (scopes.answered (scope_of w here) y)) (λ q. calls.leave (names w) tree j (machine.throw q)) (λ n y. calls.leave (names w) tree j (if n == j then theirs.caught_by (names w) tree their (scope_of w here) c y else machine.eject n y)) d)
      (in_turn (their.pattern p (Ref (Obj j)) Null (scope_of w here) v) (λ inner. their.expression b inner) (λ x. machine.give x.value))

  escaping_met : (p b : ℕ) (c : Option (ℕ × ℕ)) (here : Scope) (j : ℕ) (s : Room) → IsSound s → are_bound s.heap here.nouns ≡ true
      → Met w (in_scope here) s (escaping rec p b c here j s) (theirs.escaped (names w) tree their j (scope_of w here) c (body_of p b j here) (vat w s))
  unfolding escaping escaped
  escaping_met p b c here j s sound k =
      rw (escaped_is p b c here j (vat w s))
      (ended_met w a_value (in_scope here) s (handled rec p b (held.Obj j) here s) _ _ _ _ _ _ _ (handled_met p b (held.Obj j) here s sound refl k)
      (λ v t q i g. leave_met w (in_scope here) tree j (give v) (scopes.answered (scope_of w here) (value_of w v)) t q
      (λ u r e. unfold scopes.answered in give_met w (in_scope here) v u r (there_on e v i, scope_on e here.nouns (scope_on g here.nouns k))))
      (λ id t q i g. leave_met w (in_scope here) tree j (fail (exit.Thrown id)) (machine.throw (text_of w id)) t q (λ u r e. throw_met w (in_scope here) id u r (there_on e (held.Text id) i)))
      (λ n v t q i g. leave_met w (in_scope here) tree j (caught_if rec c here n v (n == j)) (if n == j then theirs.caught_by (names w) tree their (scope_of w here) c (value_of w v) else machine.eject n (value_of w v)) t q
      (λ u r e. caught_if_met c here n v (n == j) u r (there_on e v i) (scope_on e here.nouns (scope_on g here.nouns k)))))

  -- ---- a try

  tried_is : (b p e : ℕ) (here : Scope) (v : Vat Local)
      → theirs.tried (names w) tree their p e (scope_of w here) (λ z. their.expression b (scope_of w here) z) v
      ≡ machine.end_by (λ y. scopes.answered (scope_of w here) y) (theirs.handles (names w) tree their p e (scope_of w here)) machine.eject
      (machine.and_then (their.expression b (scope_of w here) v) (λ x. machine.give x.value))
  unfolding theirs.tried machine.ending
  tried_is b p e here v = value_first (their.expression b (scope_of w here) v) (λ y. scopes.answered (scope_of w here) y) (theirs.handles (names w) tree their p e (scope_of w here)) machine.eject

  handles_met : (p e id : ℕ) (here : Scope) (s : Room) → IsSound s → nat_lt id (length s.heap.texts) ≡ true → are_bound s.heap here.nouns ≡ true
      → Met w (in_scope here) s (handled rec p e (held.Text id) here s) (theirs.handles (names w) tree their p e (scope_of w here) (text_of w id) (vat w s))
  unfolding theirs.handles machine.◌>>=◌
  handles_met p e id here s sound i k = handled_in p e (held.Text id) here s sound i k

  trying_met : (b p e : ℕ) (here : Scope) (s : Room) → IsSound s → are_bound s.heap here.nouns ≡ true
      → Met w (in_scope here) s (trying rec b p e here s) (theirs.tried (names w) tree their p e (scope_of w here) (λ z. their.expression b (scope_of w here) z) (vat w s))
  unfolding trying tried
  trying_met b p e here s sound k =
      rw (tried_is b p e here (vat w s))
      (ended_met w a_value (in_scope here) s (alone rec b here s) _ _ _ _ _ _ _ (alone_met b here s sound k)
      (λ v t q i g. unfold scopes.answered in give_met w (in_scope here) v t q (i, scope_on g here.nouns k))
      (λ id t q i g. handles_met p e id here t q i (scope_on g here.nouns k))
      (λ n v t q i g. eject_met w (in_scope here) n v t q i))

  -- ---- a finally

  last_is : (a b : ℕ) (here : Scope) (v : Vat Local)
      → theirs.at_last (names w) tree their b (scope_of w here) (λ z. their.expression a (scope_of w here) z) v
      ≡ machine.end_by (λ y. machine_then (their.expression b (scope_of w here)) (scopes.answered (scope_of w here) y)) (λ q. machine_then (their.expression b (scope_of w here)) (machine.throw q)) (λ n y. machine_then (their.expression b (scope_of w here)) (machine.eject n y))
      (machine.and_then (their.expression a (scope_of w here) v) (λ x. machine.give x.value))
  unfolding theirs.at_last machine.ending machine.◌>>◌
  last_is a b here v = value_first (their.expression a (scope_of w here) v) (λ y. machine_then (their.expression b (scope_of w here)) (scopes.answered (scope_of w here) y)) (λ q. machine_then (their.expression b (scope_of w here)) (machine.throw q)) (λ n y. machine_then (their.expression b (scope_of w here)) (machine.eject n y))

  lasting_met : (a b : ℕ) (here : Scope) (s : Room) → IsSound s → are_bound s.heap here.nouns ≡ true
      → Met w (in_scope here) s (lasting rec a b here s) (theirs.at_last (names w) tree their b (scope_of w here) (λ z. their.expression a (scope_of w here) z) (vat w s))
  unfolding lasting at_last
  lasting_met a b here s sound k =
      rw (last_is a b here (vat w s))
      (ended_met w a_value (in_scope here) s (alone rec a here s) _ _ _ _ _ _ _ (alone_met a here s sound k)
      (λ v t q i g. behind_met (in_scope here) b here (give v) (scopes.answered (scope_of w here) (value_of w v)) t q (scope_on g here.nouns k)
      (λ u r e. unfold scopes.answered in give_met w (in_scope here) v u r (there_on e v i, scope_on e here.nouns (scope_on g here.nouns k))))
      (λ id t q i g. behind_met (in_scope here) b here (fail (exit.Thrown id)) (machine.throw (text_of w id)) t q (scope_on g here.nouns k) (λ u r e. throw_met w (in_scope here) id u r (there_on e (held.Text id) i)))
      (λ n v t q i g. behind_met (in_scope here) b here (fail (exit.Ejected n v)) (machine.eject n (value_of w v)) t q (scope_on g here.nouns k) (λ u r e. eject_met w (in_scope here) n v u r (there_on e v i))))

  -- ---- the nodes

  escape_is : (id p b : ℕ) (c : Option (ℕ × ℕ)) (here : Scope) (v : Vat Local)
      → theirs.step (names w) tree their id (Escape p b c) (scope_of w here) v
      ≡ machine.and_then (calls.new_ejector (names w) tree here.act v) (λ j. theirs.escaped (names w) tree their j (scope_of w here) c (body_of p b j here))
  unfolding theirs.step machine.◌>>=◌ numbering
  escape_is id p b c here v = refl

  pub escape_met : (id p b : ℕ) (c : Option (ℕ × ℕ)) (here : Scope) (s : Room) → IsSound s → are_bound s.heap here.nouns ≡ true
      → Met w an_answer s (guarded_node rec (Escape p b c) here s) (theirs.step (names w) tree their id (Escape p b c) (scope_of w here) (vat w s))
  unfolding guarded_node guarded ◌>>=◌
  escape_met id p b c here s sound k =
      rw (escape_is id p b c here (vat w s))
      (answered_met w here s _ _ (then_met _ _ (new_ejector_met w tree here.act s sound) (λ j t q i g. escaping_met p b c here j t q (scope_on g here.nouns k))))

  try_is : (id b p e : ℕ) (here : Scope) (v : Vat Local)
      → theirs.step (names w) tree their id (Try b p e) (scope_of w here) v ≡ theirs.tried (names w) tree their p e (scope_of w here) (λ z. their.expression b (scope_of w here) z) v
  unfolding theirs.step
  try_is id b p e here v = refl

  pub try_met : (id b p e : ℕ) (here : Scope) (s : Room) → IsSound s → are_bound s.heap here.nouns ≡ true
      → Met w an_answer s (guarded_node rec (Try b p e) here s) (theirs.step (names w) tree their id (Try b p e) (scope_of w here) (vat w s))
  unfolding guarded_node guarded ◌>>=◌
  try_met id b p e here s sound k = rw (try_is id b p e here (vat w s)) (answered_met w here s _ _ (trying_met b p e here s sound k))

  finally_is : (id a b : ℕ) (here : Scope) (v : Vat Local)
      → theirs.step (names w) tree their id (Finally a b) (scope_of w here) v ≡ theirs.at_last (names w) tree their b (scope_of w here) (λ z. their.expression a (scope_of w here) z) v
  unfolding theirs.step
  finally_is id a b here v = refl

  pub finally_met : (id a b : ℕ) (here : Scope) (s : Room) → IsSound s → are_bound s.heap here.nouns ≡ true
      → Met w an_answer s (guarded_node rec (Finally a b) here s) (theirs.step (names w) tree their id (Finally a b) (scope_of w here) (vat w s))
  unfolding guarded_node guarded ◌>>=◌
  finally_met id a b here s sound k = rw (finally_is id a b here (vat w s)) (answered_met w here s _ _ (lasting_met a b here s sound k))

  alone_in : (e : ℕ) (here : Scope) (s : Room) → IsSound s → are_bound s.heap here.nouns ≡ true
      → Met w (in_scope here) s (alone rec e here s) (machine.and_then (their.expression e (scope_of w here) (vat w s)) (λ x. scopes.answered (scope_of w here) x.value))
  unfolding alone scopes.answered ◌>>=◌
  alone_in e here s sound k = then_met _ _ (h.expression e here s sound k) (λ x t q j g. give_met w (in_scope here) x.0 t q (j.0, scope_on g here.nouns k))

  hide_is : (id e : ℕ) (here : Scope) (v : Vat Local)
      → theirs.step (names w) tree their id (Hide e) (scope_of w here) v ≡ machine.and_then (their.expression e (scope_of w here) v) (λ x. scopes.answered (scope_of w here) x.value)
  unfolding theirs.step machine.◌>>=◌
  hide_is id e here v = refl

  pub hide_met : (id e : ℕ) (here : Scope) (s : Room) → IsSound s → are_bound s.heap here.nouns ≡ true
      → Met w an_answer s (guarded_node rec (Hide e) here s) (theirs.step (names w) tree their id (Hide e) (scope_of w here) (vat w s))
  unfolding guarded_node guarded ◌>>=◌
  hide_met id e here s sound k = rw (hide_is id e here (vat w s)) (answered_met w here s _ _ (alone_in e here s sound k))
