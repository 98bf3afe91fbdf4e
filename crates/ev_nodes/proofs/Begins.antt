-- Nodes as they begin.
use Rattle.std.proofs.Common.{◌≡◌, ℕ, ◌-◌, ◌<◌, List, [], ◌∷◌, Option, Some, None, Ok, Err, length, refl, sym, ap, subst, ◌∙◌}
use Rattle.std.specs.Prelude.{Result, slice_get}
use Rattle.ev_base.specs.declared.values.Value.{Value}
use Rattle.ev_base.specs.declared.values.Value.TheVariants as held
use Rattle.def_kernel.specs.declared.node.Node.{Node}
use Rattle.def_kernel.specs.declared.node.Node.TheVariants.{Call, Sequence}
use Rattle.def_machine.specs.Values.{Words}
use Rattle.ev_room.specs.declared.exit.Exit.{Exit}
use Rattle.ev_room.specs.declared.exit.Exit.TheVariants.{Deep, Astray}
use Rattle.ev_pass.specs.declared.interior.Interior.{Interior as Room}
use Rattle.ev_room.specs.declared.scope.Bound.{Bound}
use Rattle.ev_room.specs.declared.scope.Scope.{Scope}
use Rattle.ev_room.specs.Acts.{Out, Unless, and_then, ◌>>=◌, ◌>>◌, give, fail, found_from, spend}
use Rattle.ev_room.proofs.Exits.{ends, unless_as}
use Rattle.ev_steps.specs.Steps.{evaluator, step, step_found, set_node, exit_of, define_by, define, match_node, call_node, last_of, if_node}
use Rattle.ev_steps.proofs.Depth.{expression_deep, expression_goes}
use Rattle.ev_frames.specs.declared.frames.Frame.{Frame}
use Rattle.ev_frames.specs.declared.frames.Frame.TheVariants.{Part as PartOf}
use Rattle.ev_frames.specs.declared.frames.Part.TheVariants.{Assign, DefineBy, Define, Matching, Receiver, Sequence as Parts, Test}
use Rattle.ev_frames.specs.declared.now.Now.{Now}
use Rattle.ev_frames.specs.Rest.{Goes, rest, going, call_on, parts_of, verb_of, args_of, yielding}
use Rattle.ev_frames.proofs.Rests.{part_pushed}

module _ (tree : List Node) (d : ℕ) (fs gs : List Frame) (here : Scope) (s : Room) where
  pub assign_begins : (x : Words) (b : Option Bound) (e : ℕ) → b ≡ found_from None here.nouns x → gs ≡ PartOf d (length here.nouns) (Assign b) ∷ fs
      → rest tree fs here (set_node tree (evaluator tree d) x e here s) ≡ rest tree gs here ((evaluator tree d).expression e here s)
  unfolding set_node going ◌>>=◌
  assign_begins x b e is pushed = rw (pushed, is) (sym (part_pushed tree d (Assign (found_from None here.nouns x)) fs here ((evaluator tree d).expression e here s)))

  pub define_begins : (p e : ℕ) → gs ≡ PartOf d (length here.nouns) (Define p held.Null) ∷ fs
      → rest tree fs here (define (evaluator tree d) p None e here s) ≡ rest tree gs here ((evaluator tree d).expression e here s)
  unfolding define define_by exit_of give and_then yielding going ◌>>=◌
  define_begins p e pushed = rw pushed (sym (part_pushed tree d (Define p held.Null) fs here ((evaluator tree d).expression e here s)))

  pub define_exits : (p j e : ℕ) → gs ≡ PartOf d (length here.nouns) (DefineBy p e) ∷ fs
      → rest tree fs here (define (evaluator tree d) p (Some j) e here s) ≡ rest tree gs here ((evaluator tree d).expression j here s)
  unfolding define exit_of going ◌>>=◌
  define_exits p j e pushed = rw pushed (sym (part_pushed tree d (DefineBy p e) fs here ((evaluator tree d).expression j here s)))

  pub match_begins : (e p : ℕ) → gs ≡ PartOf d (length here.nouns) (Matching p) ∷ fs
      → rest tree fs here (match_node tree (evaluator tree d) e p here s) ≡ rest tree gs here ((evaluator tree d).expression e here s)
  unfolding match_node going ◌>>=◌
  match_begins e p pushed = rw pushed (sym (part_pushed tree d (Matching p) fs here ((evaluator tree d).expression e here s)))

  receives : (n r : ℕ) (verb : Words) (args : List ℕ) → slice_get tree n ≡ Some (Call r verb args) → (o : Out (Value × Scope))
      → and_then o (λ x. going tree (evaluator tree d) here.act (length here.nouns) (Receiver n) x.0 x.1) ≡ and_then o (λ x. call_on tree (evaluator tree d) here.act x.0 verb [] args x.1)
  unfolding going verb_of args_of
  receives n r verb args is o = rw is refl

  pub call_begins : (n r : ℕ) (verb : Words) (args : List ℕ) → slice_get tree n ≡ Some (Call r verb args) → gs ≡ PartOf d (length here.nouns) (Receiver n) ∷ fs
      → rest tree fs here (call_node tree (evaluator tree d) r verb args here s) ≡ rest tree gs here ((evaluator tree d).expression r here s)
  unfolding call_node call_on ◌>>=◌
  call_begins n r verb args is pushed =
      rw pushed (sym (part_pushed tree d (Receiver n) fs here ((evaluator tree d).expression r here s)
      ∙ ap (λ (o : Out (Value × Scope)). rest tree fs here o) (receives n r verb args is ((evaluator tree d).expression r here s))))

  follows : (n e : ℕ) (es : List ℕ) → slice_get tree n ≡ Some (Sequence (e ∷ es)) → (o : Out (Value × Scope))
      → and_then o (λ x. going tree (evaluator tree d) here.act (length here.nouns) (Parts n 1) x.0 x.1) ≡ and_then o (λ x. last_of (evaluator tree d) x.0 es x.1)
  unfolding going parts_of
  follows n e es is o = rw is refl

  pub sequence_begins : (n e : ℕ) (es : List ℕ) → slice_get tree n ≡ Some (Sequence es) → slice_get es 0 ≡ Some e → gs ≡ PartOf d (length here.nouns) (Parts n 1) ∷ fs
      → rest tree fs here (last_of (evaluator tree d) held.Null es here s) ≡ rest tree gs here ((evaluator tree d).expression e here s)
  unfolding last_of ◌>>=◌
  sequence_begins n e [] is at pushed = absurd (cc)
  sequence_begins n e (x ∷ es) is at pushed =
      let same : x ≡ e = cc in
      rw (pushed, ← same) (sym (part_pushed tree d (Parts n 1) fs here ((evaluator tree d).expression x here s)
      ∙ ap (λ (o : Out (Value × Scope)). rest tree fs here o) (follows n x es is ((evaluator tree d).expression x here s))))

  pub sequence_empty : (es : List ℕ) → slice_get es 0 ≡ None → rest tree fs here (last_of (evaluator tree d) held.Null es here s) ≡ rest tree fs here (Ok (held.Null, here), s)
  unfolding last_of give
  sequence_empty [] at = refl
  sequence_empty (x ∷ es) at = absurd (cc)

  pub if_begins : (t a b : ℕ) → gs ≡ PartOf d (length here.nouns) (Test a b) ∷ fs
      → rest tree fs here (if_node (evaluator tree d) t a b here s) ≡ rest tree gs here ((evaluator tree d).expression t here s)
  unfolding if_node going ◌>>=◌
  if_begins t a b pushed = rw pushed (sym (part_pushed tree d (Test a b) fs here ((evaluator tree d).expression t here s)))

-- ---- a node begins

module _ (tree : List Node) (d id : ℕ) (fs : List Frame) (here : Scope) (s : Room) where
  pub begins_deep : d ≡ 0 → rest tree fs here ((evaluator tree d).expression id here s) ≡ rest tree fs here (Err Deep, s)
  begins_deep e = ap (λ (o : Out (Value × Scope)). rest tree fs here o) (expression_deep tree d id here s e)

  pub begins_spent : (x : Exit) (t : Room) → 0 < d → Unless x (spend 1 s ≡ (Err x, t)) → Unless x (rest tree fs here ((evaluator tree d).expression id here s) ≡ rest tree fs here (Err x, t))
  unfolding ◌>>◌
  begins_spent x t h e =
      unless_as x (λ (y : (evaluator tree d).expression id here s ≡ (Err x, t)). ap (λ (o : Out (Value × Scope)). rest tree fs here o) y)
      (subst (λ (o : Out (Value × Scope)). Unless x (o ≡ (Err x, t))) (sym (expression_goes tree d id here s h))
      (ends x t (spend 1 s) (λ _. step_found tree (evaluator tree (d - 1)) id (slice_get tree id) here) e))

  begun : (t : Room) → 0 < d → spend 1 s ≡ (Ok tt, t) → (evaluator tree d).expression id here s ≡ step_found tree (evaluator tree (d - 1)) id (slice_get tree id) here t
  unfolding ◌>>◌ and_then
  begun t h e = expression_goes tree d id here s h ∙ (rw e refl)

  pub begins_none : (t : Room) → 0 < d → spend 1 s ≡ (Ok tt, t) → slice_get tree id ≡ None → rest tree fs here ((evaluator tree d).expression id here s) ≡ rest tree fs here (Err Astray, t)
  unfolding step_found fail
  begins_none t h e is = ap (λ (o : Out (Value × Scope)). rest tree fs here o) (begun t h e ∙ (rw is refl))

  pub begins_so : (t : Room) (n : Node) (r : Result Now Exit) (gs : List Frame) (b : Scope) (u : Room) → 0 < d → spend 1 s ≡ (Ok tt, t) → slice_get tree id ≡ Some n
      → Goes tree r gs b u (rest tree fs here (step tree (evaluator tree (d - 1)) id n here t)) → Goes tree r gs b u (rest tree fs here ((evaluator tree d).expression id here s))
  unfolding step_found
  begins_so t n r gs b u h e is g =
      let x : (evaluator tree d).expression id here s ≡ step tree (evaluator tree (d - 1)) id n here t = begun t h e ∙ (rw is refl) in
      rw x g
