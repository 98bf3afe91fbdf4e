-- Parts as they come to an end.
use Rattle.std.proofs.Common.{◌≡◌, ℕ, suc, ◌+◌, ◌≤◌, List, [], ◌∷◌, ◌++◌, Some, None, Ok, true, false, length, drop, refl, sym, ap, ◌∙◌, arith, add-one}
use Rattle.std.specs.Prelude.{Result, slice_get}
use Rattle.std.proofs.lemmas.List.{length-take}
use Rattle.ev_base.specs.declared.values.Value.{Value}
use Rattle.ev_base.specs.declared.values.Value.TheVariants as held
use Rattle.def_kernel.specs.declared.node.Node.{Node}
use Rattle.def_machine.specs.Values.{Words}
use Rattle.ev_room.specs.declared.exit.Exit.{Exit}
use Rattle.ev_pass.specs.declared.interior.Interior.{Interior as Room}
use Rattle.ev_room.specs.declared.scope.Scope.{Scope}
use Rattle.ev_room.specs.Acts.{Out, and_then, ◌>>=◌, give, cut}
use Rattle.ev_steps.specs.Steps.{Evaluator, evaluator, last_of, choose, within, gathered, call}
use Rattle.ev_frames.specs.declared.frames.Frame.{Frame}
use Rattle.ev_frames.specs.declared.frames.Frame.TheVariants.{Part as PartOf}
use Rattle.ev_frames.specs.declared.frames.Part.TheVariants.{Args, Sequence as Parts, Branch}
use Rattle.ev_frames.specs.declared.now.Now.{Now}
use Rattle.ev_frames.specs.Rest.{Goes, Nested, rest, going, call_on, parts_of, verb_of, args_of, settled}
use Rattle.ev_room.proofs.Places.{drop_none, drop_some}
use Rattle.ev_frames.proofs.Again.{part_again}
use Rattle.ev_frames.proofs.Rests.{cut_behind, cut_in_front, same_behind, then_then}

pub cut_marked : (m : ℕ) (here : Scope) → m ≤ length here.nouns → m ≤ length (cut m here).nouns
cut_marked m here h = omega (arith, length-take m here.nouns)

cut_twice : (m : ℕ) (here : Scope) → m ≤ length here.nouns → cut m (cut m here) ≡ cut m here
cut_twice m here h = sym (cut_behind m (cut m here) here (cut_marked m here h) (cut_in_front m here h))

pub cut_nested : (m : ℕ) (fs : List Frame) (here : Scope) → m ≤ length here.nouns → Nested fs (cut m here) → Nested fs (cut m (cut m here))
cut_nested m fs here h n = rw (cut_twice m here h) n

module _ (tree : List Node) (d m : ℕ) (fs : List Frame) (here : Scope) (s : Room) (h : m ≤ length here.nouns) (n : Nested fs (cut m here)) where
  sequence_is : (id k e : ℕ) (v : Value) → slice_get (parts_of (slice_get tree id)) k ≡ Some e
      → last_of (evaluator tree d) v (drop k (parts_of (slice_get tree id))) here s ≡ and_then ((evaluator tree d).expression e here s) (λ x. going tree (evaluator tree d) here.act m (Parts id (suc k)) x.0 x.1)
  unfolding going last_of ◌>>=◌
  sequence_is id k e v at = rw (drop_some (parts_of (slice_get tree id)) k e at) refl

  pub sequence_on : (gs : List Frame) (id k e : ℕ) (es : List ℕ) (v : Value) → es ≡ parts_of (slice_get tree id) → slice_get es k ≡ Some e → gs ≡ PartOf d m (Parts id (k + 1)) ∷ fs
      → rest tree fs here (last_of (evaluator tree d) v (drop k es) here s) ≡ rest tree gs here ((evaluator tree d).expression e here s)
  sequence_on gs id k e es v is at pushed =
      let there : slice_get (parts_of (slice_get tree id)) k ≡ Some e = cc in
      rw (pushed, add-one k, is) (ap (λ (o : Out (Value × Scope)). rest tree fs here o) (sequence_is id k e v there)
      ∙ sym (part_again tree d m (Parts id (suc k)) fs here ((evaluator tree d).expression e here s) h n))

  pub sequence_done : (k : ℕ) (es : List ℕ) (v : Value) → slice_get es k ≡ None
      → rest tree fs here (last_of (evaluator tree d) v (drop k es) here s) ≡ rest tree fs here (Ok (v, here), s)
  unfolding last_of give
  sequence_done k es v at = rw (drop_none es k at) refl

  pub yes_begins : (gs : List Frame) (a b : ℕ) → gs ≡ PartOf d m Branch ∷ fs
      → rest tree fs here (choose (evaluator tree d) m a b (held.Bool true) here s) ≡ rest tree gs here ((evaluator tree d).expression a here s)
  unfolding choose within going ◌>>=◌
  yes_begins gs a b pushed = rw pushed (sym (part_again tree d m Branch fs here ((evaluator tree d).expression a here s) h n))

  pub no_begins : (gs : List Frame) (there : Scope) (a b : ℕ) → there ≡ cut m here → gs ≡ PartOf d m Branch ∷ fs
      → rest tree fs here (choose (evaluator tree d) m a b (held.Bool false) here s) ≡ rest tree gs there ((evaluator tree d).expression b there s)
  unfolding choose within going ◌>>=◌
  no_begins gs there a b is pushed =
      rw (pushed, is) (sym (part_again tree d m Branch fs (cut m here) ((evaluator tree d).expression b (cut m here) s) (cut_marked m here h) (cut_nested m fs here h n)
      ∙ same_behind tree fs (cut m here) here _ (cut_in_front m here h) n))

  -- ---- calls

  call_then : (act : ℕ) (x : Value) (verb : Words) (vs : List Value) (e : ℕ) (es : List ℕ)
      → call_on tree (evaluator tree d) act x verb vs (e ∷ es) here s
      ≡ and_then ((evaluator tree d).expression e here s) (λ y. call_on tree (evaluator tree d) act x verb (vs ++ y.0 ∷ []) es y.1)
  unfolding call_on gathered ◌>>=◌
  call_then act x verb vs e es =
      then_then ((evaluator tree d).expression e here s) (λ y. gathered (evaluator tree d) (vs ++ y.0 ∷ []) es y.1)
      (λ xs. call tree (evaluator tree d) act x verb xs.0 >>= (λ v. give (v, xs.1)))

  args_is : (id e : ℕ) (x : Value) (vs : List Value) → slice_get (args_of (slice_get tree id)) (length vs) ≡ Some e
      → call_on tree (evaluator tree d) here.act x (verb_of (slice_get tree id)) vs (drop (length vs) (args_of (slice_get tree id))) here s
      ≡ and_then ((evaluator tree d).expression e here s) (λ y. going tree (evaluator tree d) here.act m (Args id x vs) y.0 y.1)
  unfolding going
  args_is id e x vs at = rw (drop_some (args_of (slice_get tree id)) (length vs) e at) (call_then here.act x (verb_of (slice_get tree id)) vs e (drop (suc (length vs)) (args_of (slice_get tree id))))

  pub args_on : (gs : List Frame) (id e : ℕ) (x : Value) (verb : Words) (vs : List Value) (args : List ℕ) → verb ≡ verb_of (slice_get tree id) → args ≡ args_of (slice_get tree id)
      → slice_get args (length vs) ≡ Some e → gs ≡ PartOf d m (Args id x vs) ∷ fs
      → rest tree fs here (call_on tree (evaluator tree d) here.act x verb vs (drop (length vs) args) here s) ≡ rest tree gs here ((evaluator tree d).expression e here s)
  args_on gs id e x verb vs args v is at pushed =
      let there : slice_get (args_of (slice_get tree id)) (length vs) ≡ Some e = cc in
      rw (pushed, v, is) (ap (λ (o : Out (Value × Scope)). rest tree fs here o) (args_is id e x vs there)
      ∙ sym (part_again tree d m (Args id x vs) fs here ((evaluator tree d).expression e here s) h n))

pub args_done : (tree : List Node) (rec : Evaluator) (fs gs : List Frame) (here b : Scope) (s u : Room) (x : Value) (verb : Words) (vs : List Value) (args : List ℕ) (r : Result Now Exit)
    → slice_get args (length vs) ≡ None
    → Goes tree r gs b u (rest tree fs here (settled here (call tree rec here.act x verb vs s)))
    → Goes tree r gs b u (rest tree fs here (call_on tree rec here.act x verb vs (drop (length vs) args) here s))
unfolding call_on gathered give ◌>>=◌ and_then
args_done tree rec fs gs here b s u x verb vs args r at g = rw (drop_none args (length vs) at) g

pub branch_ends : (tree : List Node) (m : ℕ) (fs : List Frame) (here there : Scope) (v : Value) (s : Room) → m ≤ length here.nouns → Nested fs (cut m here) → there ≡ cut m here
    → rest tree fs here (give (v, cut m here) s) ≡ rest tree fs there (Ok (v, there), s)
unfolding give
branch_ends tree m fs here there v s h n is = rw is (sym (same_behind tree fs (cut m here) here (Ok (v, cut m here), s) (cut_in_front m here h) n))
