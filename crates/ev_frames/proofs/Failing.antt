-- What a refusal does in a call of a native guard.
use Rattle.std.proofs.Common.{◌≡◌, ℕ, Bool, true, false, List, [], ◌∷◌, Option, Ok, Err, length, refl, sym, ap, subst, ◌∙◌}
use Rattle.std.specs.Prelude.{codes}
use Rattle.ev_base.specs.declared.values.Value.{Value}
use Rattle.ev_base.specs.declared.values.Value.TheVariants as held
use Rattle.def_kernel.specs.declared.node.Node.{Node}
use Rattle.ev_room.specs.declared.exit.Exit.TheVariants.{Thrown}
use Rattle.ev_pass.specs.declared.interior.Interior.{Interior as Room}
use Rattle.ev_room.specs.declared.scope.Scope.{Scope}
use Rattle.ev_room.specs.Acts.{Out, and_then, ◌>>◌, give, fail}
use Rattle.ev_refs.specs.Follow.{followed}
use Rattle.ev_room.specs.Takings.{is_null}
use Rattle.ev_steps.specs.Steps.{Caller, evaluator, again_by, failed_by, failed}
use Rattle.ev_frames.specs.declared.frames.Frame.{Frame}
use Rattle.ev_frames.specs.declared.frames.Frame.TheVariants.{Part as PartOf}
use Rattle.ev_frames.specs.declared.frames.Part.TheVariants.{Fails}
use Rattle.ev_frames.specs.Rest.{rest, going, settled}
use Rattle.ev_frames.proofs.Rests.{part_pushed}

-- ---- failings

pub null_fails : {A : Type 0} (again : Caller) (act : ℕ) (j : Value) (id : ℕ) (s : Room) → is_null (followed s.refs j) ≡ true → failed {A = A} again act j id s ≡ (Err (Thrown id), s)
unfolding failed failed_by fail
null_fails {A = A} again act j id s e = subst (λ (b : Bool). failed_by {A = A} again act j id b s ≡ (Err (Thrown id), s)) (sym e) refl

pub other_fails : {A : Type 0} (again : Caller) (act : ℕ) (j : Value) (id : ℕ) (s : Room) → is_null (followed s.refs j) ≡ false
    → failed {A = A} again act j id s ≡ and_then (again act j (codes "run") (held.Text id ∷ []) s) (λ _. fail {A = A} (Thrown id))
unfolding failed failed_by ◌>>◌
other_fails {A = A} again act j id s e =
    subst (λ (b : Bool). failed_by {A = A} again act j id b s ≡ and_then (again act j (codes "run") (held.Text id ∷ []) s) (λ _. fail {A = A} (Thrown id))) (sym e) refl

thrown_settled : (o : Out Value) (here : Scope) (id : ℕ) → settled here (and_then o (λ _. fail {A = Value} (Thrown id))) ≡ and_then (settled here o) (λ x. fail (Thrown id))
unfolding and_then give fail
thrown_settled (Ok v, t) here id = refl
thrown_settled (Err e, t) here id = refl

module _ (tree : List Node) (d : ℕ) (fs gs : List Frame) (here : Scope) (s : Room) (j : Value) (id : ℕ) where
  pub refuses_at_once : (n : Option ℕ) → is_null (followed s.refs j) ≡ true → rest tree fs here (settled here (failed (again_by tree (evaluator tree d) n) here.act j id s)) ≡ rest tree fs here (Err (Thrown id), s)
  unfolding and_then
  refuses_at_once n e = rw (null_fails {A = Value} (again_by tree (evaluator tree d) n) here.act j id s e) refl

  pub refuses_by : (n : Option ℕ) → is_null (followed s.refs j) ≡ false → gs ≡ PartOf d (length here.nouns) (Fails id) ∷ fs
      → rest tree fs here (settled here (failed (again_by tree (evaluator tree d) n) here.act j id s))
      ≡ rest tree gs here (settled here (again_by tree (evaluator tree d) n here.act j (codes "run") (held.Text id ∷ []) s))
  unfolding going
  refuses_by n e pushed =
      rw (pushed, other_fails {A = Value} (again_by tree (evaluator tree d) n) here.act j id s e)
      (ap (λ (o : Out (Value × Scope)). rest tree fs here o) (thrown_settled (again_by tree (evaluator tree d) n here.act j (codes "run") (held.Text id ∷ []) s) here id)
      ∙ sym (part_pushed tree d (Fails id) fs here (settled here (again_by tree (evaluator tree d) n here.act j (codes "run") (held.Text id ∷ []) s))))
