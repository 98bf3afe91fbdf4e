-- Auditors are asked, and auditions answer.
use Rattle.std.proofs.Common.{◌≡◌, ℕ, suc, ◌+◌, ◌≤◌, Bool, true, false, List, [], ◌∷◌, ◌++◌, Option, Some, None, Ok, Err, length, drop, refl, sym, ap, ◌∙◌, add-one}
use Rattle.std.specs.Prelude.{Result, codes, slice_get}
use Rattle.ev_audit.specs.Asks.{asking}
use Rattle.ev_audit.specs.declared.auditions.AuditionAsk.{AuditionAsk}
use Rattle.ev_audit.specs.declared.auditions.AuditionAsk.TheVariants.{GetsGuard, Asks}
use Rattle.ev_base.specs.declared.values.Value.{Value}
use Rattle.ev_base.specs.declared.values.Value.TheVariants as held
use Rattle.ev_heap.specs.declared.happened.Happened.TheVariants as event
use Rattle.ev_heap.specs.declared.kept.AuditView.{AuditView}
use Rattle.def_kernel.specs.declared.node.Node.{Node}
use Rattle.def_machine.specs.Values.{Words}
use Rattle.ev_pass.specs.declared.interior.Interior.{Interior as Room}
use Rattle.ev_refs.specs.Follow.{followed}
use Rattle.ev_room.specs.declared.exit.Exit.{Exit}
use Rattle.ev_room.specs.declared.exit.Exit.TheVariants.{Thrown, Ejected}
use Rattle.ev_room.specs.declared.exit.Came.TheVariants.{Gave, Threw, Left}
use Rattle.ev_room.specs.declared.scope.Scope.{Scope}
use Rattle.ev_room.specs.Acts.{Out, Unless, and_then, ◌>>=◌, ◌>>◌, give, fail, answer, cut, closed, kill, leave, ended_by, tell, guard_asked, new_audition, object_at, prim_verdict, view_at}
use Rattle.ev_steps.specs.Steps.{Caller, evaluator, again_by, call, gathered, is_true, approved, leaving, audited, audit, verdict, with_stamp, ask_all, make_object, object_on, audition_live, dead_problem, audition_answer, call_audition}
use Rattle.ev_frames.specs.declared.frames.Frame.{Frame}
use Rattle.ev_frames.specs.declared.frames.Frame.TheVariants.{Part as PartOf, Guard as GuardOf}
use Rattle.ev_frames.specs.declared.frames.Guard.TheVariants.{Audit, Close}
use Rattle.ev_frames.specs.declared.frames.Part.TheVariants.{Auditors, Stamps}
use Rattle.ev_frames.specs.declared.now.Now.{Now}
use Rattle.ev_frames.specs.Rest.{Goes, Nested, rest, settled, given, going, guarding, came_back}
use Rattle.ev_room.proofs.Exits.{unless_as}
use Rattle.ev_room.proofs.Places.{drop_none, drop_some}
use Rattle.ev_frames.proofs.Again.{part_again}
use Rattle.ev_frames.proofs.Calling.{answer_gives, given_goes}
use Rattle.ev_frames.proofs.Native.{value_pushed}
use Rattle.ev_frames.proofs.Rests.{goes_as, part_pushed, then_then}

-- ---- verdicts

module _ (tree : List Node) (d : ℕ) (n : Option ℕ) (fs gs : List Frame) (here : Scope) (s t : Room) (view : AuditView) (a : Value) where
  pub audit_begins : (j : ℕ) → new_audition here.act view s ≡ (Ok j, t) → gs ≡ GuardOf d (length here.nouns) (Audit j) ∷ fs
      → rest tree fs here (settled here (audit (again_by tree (evaluator tree d) n) here.act view a s))
      ≡ rest tree gs here (settled here (again_by tree (evaluator tree d) n here.act a (codes "audit") (held.Obj j ∷ []) t))
  unfolding audit guarding ◌>>=◌ and_then
  audit_begins j made pushed = rw (pushed, made) (value_pushed tree d (Audit j) fs here (again_by tree (evaluator tree d) n here.act a (codes "audit") (held.Obj j ∷ []) t))

  pub audit_ends : (e : Exit) → Unless e (new_audition here.act view s ≡ (Err e, t))
      → Unless e (rest tree fs here (settled here (audit (again_by tree (evaluator tree d) n) here.act view a s)) ≡ rest tree fs here (Err e, t))
  unfolding audit ◌>>=◌ and_then
  audit_ends e h = unless_as e (λ (y : new_audition here.act view s ≡ (Err e, t)). rw y refl) h

pub prim_goes : (tree : List Node) (again : Caller) (fs : List Frame) (here : Scope) (s : Room) (view : AuditView) (a : Value) (n : ℕ) (r : Result Value Exit) (q : Result Now Exit) → r ≡ prim_verdict n view → q ≡ given r
    → Goes tree q fs here s (rest tree fs here (settled here (verdict again here.act view a (held.Prim n) s)))
unfolding verdict
prim_goes tree again fs here s view a n r q e g =
    given_goes tree fs here s (prim_verdict n view) q (answer (prim_verdict n view) s) (g ∙ ap given e) (answer_gives (prim_verdict n view) s)

module _ (tree : List Node) (fs : List Frame) (here : Scope) (s t : Room) (j : ℕ) (k : kill j s ≡ (Ok tt, t)) where
  pub audit_gave : (v y : Value) (b : Bool) → y ≡ followed t.refs v → b ≡ is_true y → rest tree fs here (settled here (audited j (came_back (Gave v), s))) ≡ rest tree fs here (Ok (held.Bool b, here), t)
  unfolding came_back audited approved leaving ended_by leave ◌>>◌ and_then give
  audit_gave v y b e f = rw (k, f, e) refl

  pub audit_threw : (id : ℕ) → rest tree fs here (settled here (audited j (came_back (Threw id), s))) ≡ rest tree fs here (Err (Thrown id), t)
  unfolding came_back audited approved leaving ended_by leave ◌>>◌ and_then fail
  audit_threw id = rw k refl

  pub audit_left : (n : ℕ) (v : Value) → rest tree fs here (settled here (audited j (came_back (Left n v), s))) ≡ rest tree fs here (Err (Ejected n v), t)
  unfolding came_back audited approved leaving ended_by leave ◌>>◌ and_then fail
  audit_left n v = rw k refl

-- ---- objects

module _ (tree : List Node) (d : ℕ) (fs gs : List Frame) (here : Scope) (s : Room) (id p : ℕ) where
  abbrev mine : Caller
  mine = call tree (evaluator tree d)

  -- one is asked, and then the rest
  asks_one : (a : Value) (as' stamps : List Value)
      → make_object tree mine id p stamps (a ∷ as') here s
      ≡ and_then (verdict mine here.act (view_at tree id p here) a (followed s.refs a) s) (λ v. make_object tree mine id p (with_stamp (is_true v) (followed s.refs a) stamps) as' here)
  unfolding make_object ask_all ◌>>=◌
  asks_one a as' stamps =
      then_then (verdict mine here.act (view_at tree id p here) a (followed s.refs a) s) (λ v. ask_all mine here.act (view_at tree id p here) (with_stamp (is_true v) (followed s.refs a) stamps) as') (λ ss. object_at tree id p ss here)

  -- its frame goes on with what it gives
  stamps_pushed : (y : Value) (vs : List Value) (k : ℕ) (stamps : List Value) (o : Out Value)
      → rest tree fs here (and_then o (λ v. make_object tree mine id p (with_stamp (is_true v) y stamps) (drop k vs) here))
      ≡ rest tree (PartOf d (length here.nouns) (Stamps id p y vs k stamps) ∷ fs) here (settled here o)
  unfolding going
  stamps_pushed y vs k stamps o =
      sym (part_pushed tree d (Stamps id p y vs k stamps) fs here (settled here o)
      ∙ ap (λ (q : Out (Value × Scope)). rest tree fs here q) (then_same o))
    where
      then_same : (o : Out Value) → and_then (settled here o) (λ x. going tree (evaluator tree d) here.act (length here.nouns) (Stamps id p y vs k stamps) x.0 x.1) ≡ and_then o (λ v. make_object tree mine id p (with_stamp (is_true v) y stamps) (drop k vs) here)
      then_same (Ok v, t) = unfold and_then give going in refl
      then_same (Err e, t) = unfold and_then give in refl

  pub asks_next : (a y : Value) (k : ℕ) (vs stamps : List Value) (view : AuditView) (hs : List Frame) (r : Result Now Exit) (b : Scope) (u : Room)
      → slice_get vs k ≡ Some a → y ≡ followed s.refs a → view ≡ view_at tree id p here → gs ≡ PartOf d (length here.nouns) (Stamps id p y vs (k + 1) stamps) ∷ fs
      → Goes tree r hs b u (rest tree gs here (settled here (verdict (again_by tree (evaluator tree d) None) here.act view a y s)))
      → Goes tree r hs b u (rest tree fs here (make_object tree mine id p stamps (drop k vs) here s))
  unfolding again_by
  asks_next a y k vs stamps view hs r b u at e is pushed g =
      goes_as tree r hs b u (rest tree gs here (settled here (verdict (again_by tree (evaluator tree d) None) here.act view a y s))) _
      (rw (pushed, drop_some vs k a at, e, is, add-one k)
      (ap (λ (q : Out (Value × Scope)). rest tree fs here q) (asks_one a (drop (suc k) vs) stamps)
      ∙ stamps_pushed (followed s.refs a) vs (suc k) stamps (verdict mine here.act (view_at tree id p here) a (followed s.refs a) s))) g

  pub asked_all : (k : ℕ) (vs stamps lent : List Value) (r : Result Now Exit) (b : Scope) (u : Room) → slice_get vs k ≡ None → lent ≡ stamps
      → Goes tree r gs b u (rest tree fs here (object_at tree id p lent here s))
      → Goes tree r gs b u (rest tree fs here (make_object tree mine id p stamps (drop k vs) here s))
  unfolding make_object ask_all ◌>>=◌ and_then give
  asked_all k vs stamps lent r b u at e g = goes_as tree r gs b u (rest tree fs here (object_at tree id p lent here s)) _ (rw (drop_none vs k at, e) refl) g

  pub stamps_more : (v y : Value) (vs stamps more : List Value) (c : Bool) (r : Result Now Exit) (b : Scope) (u : Room) → c ≡ true → c ≡ is_true v → more ≡ stamps ++ y ∷ []
      → Goes tree r gs b u (rest tree fs here (make_object tree mine id p more vs here s))
      → Goes tree r gs b u (rest tree fs here (make_object tree mine id p (with_stamp (is_true v) y stamps) vs here s))
  stamps_more v y vs stamps more c r b u d e f g = goes_as tree r gs b u (rest tree fs here (make_object tree mine id p more vs here s)) _ (rw (← e, d, f) refl) g

  pub stamps_same : (v y : Value) (vs stamps : List Value) (c : Bool) (r : Result Now Exit) (b : Scope) (u : Room) → c ≡ false → c ≡ is_true v
      → Goes tree r gs b u (rest tree fs here (make_object tree mine id p stamps vs here s))
      → Goes tree r gs b u (rest tree fs here (make_object tree mine id p (with_stamp (is_true v) y stamps) vs here s))
  stamps_same v y vs stamps c r b u d e g = goes_as tree r gs b u (rest tree fs here (make_object tree mine id p stamps vs here s)) _ (rw (← e, d) refl) g

  pub auditors_done : (es : List ℕ) (vs none : List Value) (r : Result Now Exit) (b : Scope) (u : Room) → slice_get es (length vs) ≡ None → none ≡ []
      → Goes tree r gs b u (rest tree fs here (make_object tree mine id p none (drop 0 vs) here s))
      → Goes tree r gs b u (rest tree fs here (object_on tree (evaluator tree d) id p vs (drop (length vs) es) here s))
  unfolding object_on gathered give ◌>>=◌ and_then
  auditors_done es vs none r b u at e g = goes_as tree r gs b u (rest tree fs here (make_object tree mine id p none (drop 0 vs) here s)) _ (rw (drop_none es (length vs) at, e) refl) g

  pub auditors_pass : (es lent : List ℕ) (vs ws : List Value) (t : Room) (r : Result Now Exit) (b : Scope) (u : Room) → lent ≡ es
      → gathered (evaluator tree d) vs (drop (length vs) lent) here s ≡ gathered (evaluator tree d) ws (drop (length ws) lent) here t
      → Goes tree r gs b u (rest tree fs here (object_on tree (evaluator tree d) id p ws (drop (length ws) es) here t))
      → Goes tree r gs b u (rest tree fs here (object_on tree (evaluator tree d) id p vs (drop (length vs) es) here s))
  unfolding object_on ◌>>=◌
  auditors_pass es lent vs ws t r b u i e g =
      goes_as tree r gs b u (rest tree fs here (object_on tree (evaluator tree d) id p ws (drop (length ws) es) here t)) _
      (rw (← i) (ap (λ (o : Out (List Value × Scope)). rest tree fs here (and_then o (λ xs. make_object tree mine id p [] xs.0 xs.1))) e)) g

  pub auditors_end : (es lent : List ℕ) (vs : List Value) (x : Exit) (t : Room) → lent ≡ es → Unless x (gathered (evaluator tree d) vs (drop (length vs) lent) here s ≡ (Err x, t))
      → Unless x (rest tree fs here (object_on tree (evaluator tree d) id p vs (drop (length vs) es) here s) ≡ rest tree fs here (Err x, t))
  unfolding object_on ◌>>=◌ and_then
  auditors_end es lent vs x t i e = unless_as x (λ (z : gathered (evaluator tree d) vs (drop (length vs) lent) here s ≡ (Err x, t)). rw (← i, z) refl) e

  pub auditors_first : (es copy : List ℕ) (none : List Value) (r : Result Now Exit) (b : Scope) (u : Room) → none ≡ [] → copy ≡ es
      → Goes tree r gs b u (rest tree fs here (object_on tree (evaluator tree d) id p none (drop (length none) copy) here s))
      → Goes tree r gs b u (rest tree fs here (object_on tree (evaluator tree d) id p [] es here s))
  auditors_first es copy none r b u e f g =
      goes_as tree r gs b u (rest tree fs here (object_on tree (evaluator tree d) id p none (drop (length none) copy) here s)) _ (rw (e, f) refl) g

  on_then : (vs : List Value) (e : ℕ) (es : List ℕ)
      → object_on tree (evaluator tree d) id p vs (e ∷ es) here s ≡ and_then ((evaluator tree d).expression e here s) (λ y. object_on tree (evaluator tree d) id p (vs ++ y.0 ∷ []) es y.1)
  unfolding object_on gathered ◌>>=◌
  on_then vs e es = then_then ((evaluator tree d).expression e here s) (λ y. gathered (evaluator tree d) (vs ++ y.0 ∷ []) es y.1) (λ xs. make_object tree mine id p [] xs.0 xs.1)

module _ (tree : List Node) (d m : ℕ) (fs : List Frame) (here : Scope) (s : Room) (h : m ≤ length here.nouns) (n : Nested fs (cut m here)) where
  next_is : (id p e : ℕ) (es : List ℕ) (vs : List Value) → slice_get es (length vs) ≡ Some e
      → object_on tree (evaluator tree d) id p vs (drop (length vs) es) here s
      ≡ and_then ((evaluator tree d).expression e here s) (λ y. going tree (evaluator tree d) here.act m (Auditors id p es vs) y.0 y.1)
  unfolding going
  next_is id p e es vs at = rw (drop_some es (length vs) e at) (on_then tree d fs fs here s id p vs e (drop (suc (length vs)) es))

  pub auditors_next : (gs : List Frame) (id p e : ℕ) (es : List ℕ) (vs : List Value) → slice_get es (length vs) ≡ Some e → gs ≡ PartOf d m (Auditors id p es vs) ∷ fs
      → rest tree fs here (object_on tree (evaluator tree d) id p vs (drop (length vs) es) here s) ≡ rest tree gs here ((evaluator tree d).expression e here s)
  auditors_next gs id p e es vs at pushed =
      rw pushed (ap (λ (o : Out (Value × Scope)). rest tree fs here o) (next_is id p e es vs at)
      ∙ sym (part_again tree d m (Auditors id p es vs) fs here ((evaluator tree d).expression e here s) h n))

-- ---- auditions

module _ (tree : List Node) (again : Caller) (fs gs : List Frame) (here : Scope) (s : Room) (view : AuditView) where
  pub guard_goes : (x y : Value) (r : Result Value Exit) (q : Result Now Exit) → y ≡ followed s.refs x → r ≡ guard_asked s.heap view y → q ≡ given r
      → Goes tree q fs here s (rest tree fs here (settled here (audition_live tree again here.act view (GetsGuard x) s)))
  unfolding audition_live
  guard_goes x y r q e f g =
      given_goes tree fs here s (guard_asked s.heap view (followed s.refs x)) q (answer (guard_asked s.heap view (followed s.refs x)) s)
      (g ∙ ap given (f ∙ ap (λ (z : Value). guard_asked s.heap view z) e)) (answer_gives (guard_asked s.heap view (followed s.refs x)) s)

  pub verdict_goes : (a y : Value) (r : Result Now Exit) (b : Scope) (u : Room) → y ≡ followed s.refs a
      → Goes tree r gs b u (rest tree fs here (settled here (verdict again here.act view a y s)))
      → Goes tree r gs b u (rest tree fs here (settled here (audition_live tree again here.act view (Asks a) s)))
  unfolding audition_live
  verdict_goes a y r b u e g = goes_as tree r gs b u (rest tree fs here (settled here (verdict again here.act view a y s))) _ (rw e refl) g

  pub live_answers : (live : Bool) (verb : Words) (args : List Value) (k : AuditionAsk) (r : Result Now Exit) (b : Scope) (u : Room) → live ≡ true → k ≡ asking verb args
      → Goes tree r gs b u (rest tree fs here (settled here (audition_live tree again here.act view k s)))
      → Goes tree r gs b u (rest tree fs here (settled here (audition_answer tree again here.act live view (asking verb args) s)))
  unfolding audition_answer
  live_answers live verb args k r b u e f g = goes_as tree r gs b u (rest tree fs here (settled here (audition_live tree again here.act view k s))) _ (rw (e, f) refl) g

  pub dead_answers : (live : Bool) (verb : Words) (args : List Value) (k : AuditionAsk) (id : ℕ) → live ≡ false → k ≡ asking verb args → id ≡ dead_problem k
      → rest tree fs here (settled here (audition_answer tree again here.act live view (asking verb args) s)) ≡ rest tree fs here (Err (Thrown id), s)
  unfolding audition_answer fail and_then
  dead_answers live verb args k id e f g = rw (e, g, f) refl

  pub audition_ends : (x : Value) (live : Bool) (verb : Words) (args : List Value) (e : Exit) (t : Room) → Unless e (tell (event.Call here.act x verb args None) s ≡ (Err e, t))
      → Unless e (rest tree fs here (settled here (call_audition tree again here.act x live view verb args s)) ≡ rest tree fs here (Err e, t))
  unfolding call_audition ◌>>◌ and_then
  audition_ends x live verb args e t h = unless_as e (λ (y : tell (event.Call here.act x verb args None) s ≡ (Err e, t)). rw y refl) h

pub audition_told : (tree : List Node) (d : ℕ) (again : Caller) (fs gs hs : List Frame) (here : Scope) (s t u : Room) (x : Value) (live : Bool) (view : AuditView) (verb : Words) (args : List Value) (r : Result Now Exit) (b : Scope)
    → tell (event.Call here.act x verb args None) s ≡ (Ok tt, t) → gs ≡ GuardOf d (length here.nouns) Close ∷ fs
    → Goes tree r hs b u (rest tree gs here (settled here (audition_answer tree again here.act live view (asking verb args) t)))
    → Goes tree r hs b u (rest tree fs here (settled here (call_audition tree again here.act x live view verb args s)))
unfolding call_audition closed guarding ◌>>◌ and_then
audition_told tree d again fs gs hs here s t u x live view verb args r b e pushed g =
    goes_as tree r hs b u (rest tree gs here (settled here (audition_answer tree again here.act live view (asking verb args) t))) _
    (rw (pushed, e) (value_pushed tree d Close fs here (audition_answer tree again here.act live view (asking verb args) t))) g
