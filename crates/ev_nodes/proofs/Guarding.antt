-- Escapes, tries, finallys and hides as they begin and as their parts come to an end.
use Rattle.std.proofs.Common.{◌≡◌, ℕ, List, ◌∷◌, Option, Some, None, Ok, Err, length, refl, sym, ap, ◌∙◌}
use Rattle.std.specs.Prelude.{Result, ◌==◌, true, false}
use Rattle.ev_base.specs.declared.values.Value.{Value}
use Rattle.ev_base.specs.declared.values.Value.TheVariants as held
use Rattle.ev_heap.specs.declared.happened.Happened.TheVariants as event
use Rattle.def_kernel.specs.declared.node.Node.{Node}
use Rattle.def_kernel.specs.declared.node.Node.TheVariants.{Escape as EscapeNode, Try as TryNode, Finally, Hide}
use Rattle.ev_room.specs.declared.exit.Exit.{Exit}
use Rattle.ev_room.specs.declared.exit.Exit.TheVariants.{Thrown, Ejected}
use Rattle.ev_room.specs.declared.exit.Came.{Came}
use Rattle.ev_room.specs.declared.exit.Came.TheVariants.{Gave, Threw, Left}
use Rattle.ev_pass.specs.declared.interior.Interior.{Interior as Room}
use Rattle.ev_room.specs.declared.scope.Scope.{Scope}
use Rattle.ev_room.specs.Acts.{Out, Unless, and_then, ◌>>=◌, ◌>>◌, give, fail, ended_by, new_ejector, kill, leave, tell}
use Rattle.ev_steps.specs.Steps.{Evaluator, evaluator, guarded, guarded_node, handled, escaping, escaped, trying, tried, lasting, at_last, alone, caught_if, caught_by, caught_as}
use Rattle.ev_frames.specs.declared.frames.Frame.{Frame}
use Rattle.ev_frames.specs.declared.frames.Frame.TheVariants.{Guard as GuardOf}
use Rattle.ev_frames.specs.declared.frames.Guard.TheVariants.{Alone, Escape, Try, First, Last}
use Rattle.ev_frames.specs.declared.now.Now.{Now}
use Rattle.ev_frames.specs.Rest.{Goes, rest, guarding, handled_on, settled, valued, came_back, came_to}
use Rattle.ev_room.proofs.Exits.{unless_as}
use Rattle.ev_frames.proofs.Rests.{goes_as, guard_pushed, then_then}

pub handled_is : (rec : Evaluator) (p e : ℕ) (v : Value) (here : Scope) (s : Room) → valued (handled_on rec p e v here s) ≡ handled rec p e v here s
unfolding handled handled_on ◌>>=◌
handled_is rec p e v here s = then_then (rec.pattern p v held.Null here s) (λ inner. rec.expression e inner) (λ x. give x.0)

module _ (tree : List Node) (d : ℕ) (fs gs : List Frame) (here : Scope) (s : Room) where
  escape_is : (j p b : ℕ) (c : Option (ℕ × ℕ)) (t : Room) → new_ejector here.act s ≡ (Ok j, t)
      → guarded_node (evaluator tree d) (EscapeNode p b c) here s
      ≡ settled here (guarding tree (evaluator tree d) (Escape j c) here (valued (handled_on (evaluator tree d) p b (held.Obj j) here t)))
  unfolding guarded_node guarded escaping guarding ◌>>=◌ and_then
  escape_is j p b c t made = rw (made, handled_is (evaluator tree d) p b (held.Obj j) here t) refl

  pub escape_begins : (j p b : ℕ) (c : Option (ℕ × ℕ)) (t : Room) (hs : List Frame) (r : Result Now Exit) (a : Scope) (u : Room) → new_ejector here.act s ≡ (Ok j, t)
      → gs ≡ GuardOf d (length here.nouns) (Escape j c) ∷ fs
      → Goes tree r hs a u (rest tree gs here (handled_on (evaluator tree d) p b (held.Obj j) here t))
      → Goes tree r hs a u (rest tree fs here (guarded_node (evaluator tree d) (EscapeNode p b c) here s))
  escape_begins j p b c t hs r a u made pushed g =
      goes_as tree r hs a u (rest tree gs here (handled_on (evaluator tree d) p b (held.Obj j) here t)) (rest tree fs here (guarded_node (evaluator tree d) (EscapeNode p b c) here s))
      (rw pushed (ap (λ (o : Out (Value × Scope)). rest tree fs here o) (escape_is j p b c t made)
      ∙ sym (guard_pushed tree d (Escape j c) fs here (handled_on (evaluator tree d) p b (held.Obj j) here t)))) g

  pub ejector_ends : (p b : ℕ) (c : Option (ℕ × ℕ)) (x : Exit) (t : Room) → Unless x (new_ejector here.act s ≡ (Err x, t))
      → Unless x (rest tree fs here (guarded_node (evaluator tree d) (EscapeNode p b c) here s) ≡ rest tree fs here (Err x, t))
  unfolding guarded_node guarded ◌>>=◌ and_then
  ejector_ends p b c x t e = unless_as x (λ (y : new_ejector here.act s ≡ (Err x, t)). rw y refl) e

  try_is : (b p h : ℕ)
      → guarded_node (evaluator tree d) (TryNode b p h) here s ≡ settled here (guarding tree (evaluator tree d) (Try p h) here (valued ((evaluator tree d).expression b here s)))
  unfolding guarded_node guarded trying alone guarding ◌>>=◌
  try_is b p h = refl

  pub try_begins : (b p h : ℕ) → gs ≡ GuardOf d (length here.nouns) (Try p h) ∷ fs
      → rest tree fs here (guarded_node (evaluator tree d) (TryNode b p h) here s) ≡ rest tree gs here ((evaluator tree d).expression b here s)
  try_begins b p h pushed =
      rw pushed (ap (λ (o : Out (Value × Scope)). rest tree fs here o) (try_is b p h) ∙ sym (guard_pushed tree d (Try p h) fs here ((evaluator tree d).expression b here s)))

  finally_is : (a b : ℕ)
      → guarded_node (evaluator tree d) (Finally a b) here s ≡ settled here (guarding tree (evaluator tree d) (First b) here (valued ((evaluator tree d).expression a here s)))
  unfolding guarded_node guarded lasting alone guarding ◌>>=◌
  finally_is a b = refl

  pub finally_begins : (a b : ℕ) → gs ≡ GuardOf d (length here.nouns) (First b) ∷ fs
      → rest tree fs here (guarded_node (evaluator tree d) (Finally a b) here s) ≡ rest tree gs here ((evaluator tree d).expression a here s)
  finally_begins a b pushed =
      rw pushed (ap (λ (o : Out (Value × Scope)). rest tree fs here o) (finally_is a b) ∙ sym (guard_pushed tree d (First b) fs here ((evaluator tree d).expression a here s)))

  pub hide_begins : (e : ℕ) → gs ≡ GuardOf d (length here.nouns) Alone ∷ fs
      → rest tree fs here (guarded_node (evaluator tree d) (Hide e) here s) ≡ rest tree gs here ((evaluator tree d).expression e here s)
  unfolding guarded_node guarded alone guarding ◌>>=◌
  hide_begins e pushed = rw pushed (sym (guard_pushed tree d Alone fs here ((evaluator tree d).expression e here s)))

-- ---- how they end

module _ (tree : List Node) (d : ℕ) (fs gs : List Frame) (here : Scope) (s : Room) where
  pub got_ends : (c : Option (ℕ × ℕ)) (v : Value) (x : Exit) (t : Room) → Unless x (tell (event.Got here.act v) s ≡ (Err x, t))
      → Unless x (rest tree fs here (settled here (caught_by (evaluator tree d) c v here s)) ≡ rest tree fs here (Err x, t))
  unfolding caught_by ◌>>◌ and_then
  got_ends c v x t e = unless_as x (λ (y : tell (event.Got here.act v) s ≡ (Err x, t)). rw y refl) e

  pub got_none : (v : Value) (t : Room) → tell (event.Got here.act v) s ≡ (Ok tt, t)
      → rest tree fs here (settled here (caught_by (evaluator tree d) None v here s)) ≡ rest tree fs here (Ok (v, here), t)
  unfolding caught_by caught_as ◌>>◌ and_then give
  got_none v t e = rw e refl

  alone_pushed : (p e : ℕ) (v : Value) (t : Room)
      → rest tree fs here (settled here (handled (evaluator tree d) p e v here t)) ≡ rest tree (GuardOf d (length here.nouns) Alone ∷ fs) here (handled_on (evaluator tree d) p e v here t)
  unfolding guarding
  alone_pushed p e v t =
      ap (λ (o : Out Value). rest tree fs here (settled here o)) (sym (handled_is (evaluator tree d) p e v here t))
      ∙ sym (guard_pushed tree d Alone fs here (handled_on (evaluator tree d) p e v here t))

  pub got_some : (c : ℕ × ℕ) (v : Value) (t : Room) (hs : List Frame) (r : Result Now Exit) (a : Scope) (u : Room) → tell (event.Got here.act v) s ≡ (Ok tt, t)
      → gs ≡ GuardOf d (length here.nouns) Alone ∷ fs
      → Goes tree r hs a u (rest tree gs here (handled_on (evaluator tree d) c.0 c.1 v here t))
      → Goes tree r hs a u (rest tree fs here (settled here (caught_by (evaluator tree d) (Some c) v here s)))
  unfolding caught_by caught_as ◌>>◌ and_then
  got_some c v t hs r a u e pushed g =
      goes_as tree r hs a u (rest tree gs here (handled_on (evaluator tree d) c.0 c.1 v here t)) _
      (rw (e, pushed) (alone_pushed c.0 c.1 v t)) g

  -- the ejector is dead
  module _ (j : ℕ) (c : Option (ℕ × ℕ)) (t : Room) (k : kill j s ≡ (Ok tt, t)) where
    pub escape_gave : (v : Value) → rest tree fs here (settled here (escaped (evaluator tree d) j c here (came_back (Gave v), s))) ≡ rest tree fs here (Ok (v, here), t)
    unfolding came_back escaped ended_by leave ◌>>◌ and_then give
    escape_gave v = rw k refl

    pub escape_threw : (id : ℕ) → rest tree fs here (settled here (escaped (evaluator tree d) j c here (came_back (Threw id), s))) ≡ rest tree fs here (Err (Thrown id), t)
    unfolding came_back escaped ended_by leave ◌>>◌ and_then fail
    escape_threw id = rw k refl

    pub escape_other : (n : ℕ) (v : Value) → (n == j) ≡ false → rest tree fs here (settled here (escaped (evaluator tree d) j c here (came_back (Left n v), s))) ≡ rest tree fs here (Err (Ejected n v), t)
    unfolding came_back escaped ended_by leave ◌>>◌ and_then caught_if fail
    escape_other n v e = rw (k, e) refl

    pub escape_own : (n : ℕ) (v : Value) (r : Result Now Exit) (a : Scope) (u : Room) → (n == j) ≡ true
        → Goes tree r gs a u (rest tree fs here (settled here (caught_by (evaluator tree d) c v here t)))
        → Goes tree r gs a u (rest tree fs here (settled here (escaped (evaluator tree d) j c here (came_back (Left n v), s))))
    unfolding came_back escaped ended_by leave ◌>>◌ and_then caught_if
    escape_own n v r a u e g = goes_as tree r gs a u (rest tree fs here (settled here (caught_by (evaluator tree d) c v here t))) _ (rw (k, e) refl) g

  pub try_gave : (p h : ℕ) (v : Value) → rest tree fs here (settled here (tried (evaluator tree d) p h here (came_back (Gave v), s))) ≡ rest tree fs here (Ok (v, here), s)
  unfolding came_back tried ended_by and_then give
  try_gave p h v = refl

  pub try_left : (p h n : ℕ) (v : Value) → rest tree fs here (settled here (tried (evaluator tree d) p h here (came_back (Left n v), s))) ≡ rest tree fs here (Err (Ejected n v), s)
  unfolding came_back tried ended_by and_then fail
  try_left p h n v = refl

  pub try_threw : (p h id : ℕ) (hs : List Frame) (r : Result Now Exit) (a : Scope) (u : Room) → gs ≡ GuardOf d (length here.nouns) Alone ∷ fs
      → Goes tree r hs a u (rest tree gs here (handled_on (evaluator tree d) p h (held.Text id) here s))
      → Goes tree r hs a u (rest tree fs here (settled here (tried (evaluator tree d) p h here (came_back (Threw id), s))))
  unfolding came_back tried ended_by
  try_threw p h id hs r a u pushed g =
      goes_as tree r hs a u (rest tree gs here (handled_on (evaluator tree d) p h (held.Text id) here s)) _ (rw pushed (alone_pushed p h (held.Text id) s)) g

  last_is : (c : Came) (b : ℕ) → at_last (evaluator tree d) b here (came_back c, s) ≡ guarding tree (evaluator tree d) (Last c) here (valued ((evaluator tree d).expression b here s))
  unfolding came_back at_last ended_by guarding alone ◌>>◌ ◌>>=◌ give fail
  last_is (Gave v) b = refl
  last_is (Threw id) b = refl
  last_is (Left n v) b = refl

  pub last_begins : (c : Came) (b : ℕ) → gs ≡ GuardOf d (length here.nouns) (Last c) ∷ fs
      → rest tree fs here (settled here (at_last (evaluator tree d) b here (came_back c, s))) ≡ rest tree gs here ((evaluator tree d).expression b here s)
  last_begins c b pushed =
      rw pushed (ap (λ (o : Out Value). rest tree fs here (settled here o)) (last_is c b) ∙ sym (guard_pushed tree d (Last c) fs here ((evaluator tree d).expression b here s)))

  came_settled : (c : Came) → settled here (came_back c, s) ≡ came_to c here s
  unfolding came_back and_then give
  came_settled (Gave v) = refl
  came_settled (Threw id) = refl
  came_settled (Left n v) = refl

  pub alone_ends : (c : Came) → rest tree fs here (settled here (came_back c, s)) ≡ rest tree fs here (came_to c here s)
  alone_ends c = ap (λ (o : Out (Value × Scope)). rest tree fs here o) (came_settled c)

  pub last_gave : (c : Came) (v : Value) → rest tree fs here (settled here (and_then (came_back (Gave v), s) (λ _ t. (came_back c, t)))) ≡ rest tree fs here (came_to c here s)
  unfolding came_back and_then
  last_gave c v = ap (λ (o : Out (Value × Scope)). rest tree fs here o) (came_settled c)

  pub last_threw : (c : Came) (id : ℕ) → rest tree fs here (settled here (and_then (came_back (Threw id), s) (λ _ t. (came_back c, t)))) ≡ rest tree fs here (Err (Thrown id), s)
  unfolding came_back and_then
  last_threw c id = refl

  pub last_left : (c : Came) (n : ℕ) (v : Value) → rest tree fs here (settled here (and_then (came_back (Left n v), s) (λ _ t. (came_back c, t)))) ≡ rest tree fs here (Err (Ejected n v), s)
  unfolding came_back and_then
  last_left c n v = refl
