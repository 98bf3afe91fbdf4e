-- What the machine reads is spelled so.
use Rattle.std.proofs.Common.{◌≡◌, ℕ, suc, List, [], ◌∷◌, ◌++◌, Bool, true, false, cond, Option, Some, None, refl, sym, subst, ap, ◌⊎◌, inl, inr}
use Rattle.def_syntax.specs.declared.token.TokenKind.{TokenKind}
use Rattle.def_syntax.specs.declared.syntax.Word.{Word}
use Rattle.def_syntax.specs.declared.syntax.Line.{Line}
use Rattle.def_syntax.specs.declared.syntax.Line.TheVariants as lines
use Rattle.def_syntax.specs.declared.syntax.Tail.{Tail}
use Rattle.def_syntax.specs.declared.syntax.Tail.TheVariants as tails
use Rattle.def_syntax.specs.declared.place.Place.{Place}
use Rattle.def_syntax.specs.declared.place.Move.{Move}
use Rattle.def_syntax.specs.declared.place.Move.TheVariants.{Takes, Reads, Wraps}
use Rattle.def_syntax.specs.declared.place.Ending.{Ending}
use Rattle.def_syntax.specs.declared.place.Ending.TheVariants.{Never, Ends, BeforeStop}
use Rattle.def_syntax.specs.Grammar.{Tree, Trees, node, none, more, moves, ending, form_at, tower_of, shape_of, more_at, is_stop, MayEnd, Has, here, there, Goal, line, tail, inside, Spells, form, tower, stays, goes, ends, takes, reads, wraps}
use Rattle.def_syntax.specs.Machine.{Frame, within, after, Begun, choose, under, begin, begin_prim, begin_postfix, begin_prefix, begin_power, begin_product, begin_sum, begin_range, begin_relation, begin_bits, begin_equality, begin_and, begin_or, accepts, pick, Outcome, moved, ended, stuck, opened, ends_before, follow_move, step_in, tail_step, step_frame, State, at, settle, pop, step, end_in, goal_of, Through, Completes, end_frame, and_then, end_frames, finish, Verdict, tree, fails, at_end, go_on, run}
use Rattle.def_syntax.proofs.Numbering.{same_true}

pub spells_at : {g : Goal} {ts : List Word} {u w : Tree} {mid rest : List Word} → u ≡ w → mid ≡ rest → Spells g ts u mid → Spells g ts w rest
spells_at {g} {ts} {u} {w} {mid} {rest} e d s = subst (λ (x : Tree). Spells g ts x rest) e (subst (λ (m : List Word). Spells g ts u m) d s)

-- frames one behind another
pub through_both : (a b : List Frame) (v : Tree) (ts : List Word) (u : Tree) (mid : List Word) (w : Tree) (rest : List Word) → Through a v ts u mid → Through b u mid w rest → Through (a ++ b) v ts w rest
through_both [] b v ts u mid w rest h k = subst (λ (x : Tree). Through b x ts w rest) (sym h.0) (subst (λ (m : List Word). Through b u m w rest) (sym h.1) k)
through_both (fr ∷ a) b v ts u mid w rest h k = (h.0, h.1, h.2, through_both a b h.0 h.1 u mid w rest h.3 k)

pub through_split : (a b : List Frame) (v : Tree) (ts : List Word) (w : Tree) (rest : List Word) → Through (a ++ b) v ts w rest → (u : Tree) × (mid : List Word) × Through a v ts u mid × Through b u mid w rest
through_split [] b v ts w rest h = (v, ts, (refl, refl), h)
through_split (fr ∷ a) b v ts w rest h =
    let r = through_split a b h.0 h.1 w rest h.3 in
    (r.0, r.1, (h.0, h.1, h.2, r.2), r.3)

-- what a token opens, closed again, is a tree of the line
abbrev pub Opens : Line → Word → Begun → Type 0
Opens l t None = Unit {0}
Opens l t (Some b) = (ts : List Word) (u : Tree) (mid : List Word) (w : Tree) (rest : List Word) → Spells (inside b.0 t none) ts u mid → Through b.1 u mid w rest → Spells (line l) (t ∷ ts) w rest

opens_choose : (l : Line) (t : Word) (o : Option Place) → form_at l t.kind ≡ o → (b : Begun) → Opens l t b → Opens l t (choose o b)
opens_choose l t None e b h = h
opens_choose l t (Some q) e b h = λ ts u mid w rest d th. form e (spells_at th.0 th.1 d)

opens_under : (l m : Line) (c : Tail) (t : Word) (b : Begun) → tower_of l ≡ Some (m, c) → Opens m t b → Opens l t (under c b)
opens_under l m c t None e h = tt
opens_under l m c t (Some b) e h = λ ts u mid w rest d th.
    let r = through_split b.1 (after c ∷ []) u mid w rest th in
    tower e (h ts u mid r.0 r.1 d r.2) (spells_at r.3.3.0 r.3.3.1 r.3.2)

opens_prim : (t : Word) → Opens lines.Prim t (begin_prim t.kind)
opens_prim t = opens_choose lines.Prim t (form_at lines.Prim t.kind) refl None tt

opens_postfix : (t : Word) → Opens lines.Postfix t (begin_postfix t.kind)
opens_postfix t = opens_choose lines.Postfix t (form_at lines.Postfix t.kind) refl (under tails.Suffixes (begin_prim t.kind)) (opens_under lines.Postfix lines.Prim tails.Suffixes t (begin_prim t.kind) refl (opens_prim t))

opens_prefix : (t : Word) → Opens lines.Prefix t (begin_prefix t.kind)
opens_prefix t = opens_choose lines.Prefix t (form_at lines.Prefix t.kind) refl (under tails.Nothing (begin_postfix t.kind)) (opens_under lines.Prefix lines.Postfix tails.Nothing t (begin_postfix t.kind) refl (opens_postfix t))

opens_power : (t : Word) → Opens lines.Power t (begin_power t.kind)
opens_power t = opens_choose lines.Power t (form_at lines.Power t.kind) refl (under tails.Power (begin_prefix t.kind)) (opens_under lines.Power lines.Prefix tails.Power t (begin_prefix t.kind) refl (opens_prefix t))

opens_product : (t : Word) → Opens lines.Product t (begin_product t.kind)
opens_product t = opens_choose lines.Product t (form_at lines.Product t.kind) refl (under tails.Products (begin_power t.kind)) (opens_under lines.Product lines.Power tails.Products t (begin_power t.kind) refl (opens_power t))

opens_sum : (t : Word) → Opens lines.Sum t (begin_sum t.kind)
opens_sum t = opens_choose lines.Sum t (form_at lines.Sum t.kind) refl (under tails.Sums (begin_product t.kind)) (opens_under lines.Sum lines.Product tails.Sums t (begin_product t.kind) refl (opens_product t))

opens_range : (t : Word) → Opens lines.Range t (begin_range t.kind)
opens_range t = opens_choose lines.Range t (form_at lines.Range t.kind) refl (under tails.Range (begin_sum t.kind)) (opens_under lines.Range lines.Sum tails.Range t (begin_sum t.kind) refl (opens_sum t))

opens_relation : (t : Word) → Opens lines.Relation t (begin_relation t.kind)
opens_relation t = opens_choose lines.Relation t (form_at lines.Relation t.kind) refl (under tails.Relation (begin_range t.kind)) (opens_under lines.Relation lines.Range tails.Relation t (begin_range t.kind) refl (opens_range t))

opens_bits : (t : Word) → Opens lines.Bits t (begin_bits t.kind)
opens_bits t = opens_choose lines.Bits t (form_at lines.Bits t.kind) refl (under tails.Bits (begin_relation t.kind)) (opens_under lines.Bits lines.Relation tails.Bits t (begin_relation t.kind) refl (opens_relation t))

opens_equality : (t : Word) → Opens lines.Equality t (begin_equality t.kind)
opens_equality t = opens_choose lines.Equality t (form_at lines.Equality t.kind) refl (under tails.Equality (begin_bits t.kind)) (opens_under lines.Equality lines.Bits tails.Equality t (begin_bits t.kind) refl (opens_bits t))

opens_and : (t : Word) → Opens lines.And t (begin_and t.kind)
opens_and t = opens_choose lines.And t (form_at lines.And t.kind) refl (under tails.Ands (begin_equality t.kind)) (opens_under lines.And lines.Equality tails.Ands t (begin_equality t.kind) refl (opens_equality t))

opens_or : (t : Word) → Opens lines.Or t (begin_or t.kind)
opens_or t = opens_choose lines.Or t (form_at lines.Or t.kind) refl (under tails.Ors (begin_and t.kind)) (opens_under lines.Or lines.And tails.Ors t (begin_and t.kind) refl (opens_and t))

pub opens : (l : Line) (t : Word) → Opens l t (begin l t.kind)
unfolding begin
opens lines.Expr t = opens_choose lines.Expr t (form_at lines.Expr t.kind) refl (under tails.Becomes (begin_or t.kind)) (opens_under lines.Expr lines.Or tails.Becomes t (begin_or t.kind) refl (opens_or t))
opens lines.ExprBeforeBlock t = opens_choose lines.ExprBeforeBlock t (form_at lines.ExprBeforeBlock t.kind) refl (under tails.BecomesBeforeBlock (begin_or t.kind)) (opens_under lines.ExprBeforeBlock lines.Or tails.BecomesBeforeBlock t (begin_or t.kind) refl (opens_or t))
opens lines.Prim t = opens_prim t
opens lines.Postfix t = opens_postfix t
opens lines.Prefix t = opens_prefix t
opens lines.Power t = opens_power t
opens lines.Product t = opens_product t
opens lines.Sum t = opens_sum t
opens lines.Range t = opens_range t
opens lines.Relation t = opens_relation t
opens lines.Bits t = opens_bits t
opens lines.Equality t = opens_equality t
opens lines.And t = opens_and t
opens lines.Or t = opens_or t
opens lines.Block t = opens_choose lines.Block t (form_at lines.Block t.kind) refl None tt
opens lines.Branch t = opens_choose lines.Branch t (form_at lines.Branch t.kind) refl None tt
opens lines.Pattern t = opens_choose lines.Pattern t (form_at lines.Pattern t.kind) refl None tt
opens lines.OtherPattern t = opens_choose lines.OtherPattern t (form_at lines.OtherPattern t.kind) refl None tt
opens lines.Guard t = opens_choose lines.Guard t (form_at lines.Guard t.kind) refl None tt
opens lines.Member t = opens_choose lines.Member t (form_at lines.Member t.kind) refl None tt

-- what an outcome says of the tokens behind t
abbrev pub Means : Outcome → Word → List Word → Tree → List Word → Type 0
Means (moved q f fs frs) t ts w rest = (u : Tree) × (mid : List Word) × Spells (inside q f fs) ts u mid × Through frs u mid w rest
Means (ended u) t ts w rest = (u ≡ w) × ((t ∷ ts) ≡ rest)
Means stuck t ts w rest = ⊥

by_test : (b : Bool) (x y : Outcome) (t : Word) (ts : List Word) (w : Tree) (rest : List Word) → Means (cond b x y) t ts w rest → ((b ≡ true) × Means x t ts w rest) ⊎ ((b ≡ false) × Means y t ts w rest)
by_test true x y t ts w rest h = inl (refl, h)
by_test false x y t ts w rest h = inr (refl, h)

opened_sound : (l : Line) (b : Begun) (fr : Frame) (t : Word) (ts : List Word) (w : Tree) (rest : List Word) → Opens l t b → Means (opened b t fr) t ts w rest → (v : Tree) × (mid : List Word) × Spells (line l) (t ∷ ts) v mid × Spells (goal_of fr v) mid w rest
opened_sound l None fr t ts w rest o h = absurd h
opened_sound l (Some b) fr t ts w rest o h =
    let r = through_split b.1 (fr ∷ []) h.0 h.1 w rest h.3 in
    (r.0, r.1, o ts h.0 h.1 r.0 r.1 h.2 r.2, spells_at r.3.3.0 r.3.3.1 r.3.2)

some_move : (m n : Move) → Some m ≡ Some n → m ≡ n
some_move m n e = cc

no_move : (m : Move) → None ≡ Some m → ⊥
no_move m e = cc

-- what is picked is one of the moves, and accepts the token
picked_by : (b : Bool) (n m : Move) (ms : List Move) (k : TokenKind) → accepts n k ≡ b → cond b (Some n) (pick ms k) ≡ Some m → (pick ms k ≡ Some m → Has ms m × (accepts m k ≡ true)) → Has (n ∷ ms) m × (accepts m k ≡ true)
picked_by true n m ms k a e on =
    let i : n ≡ m = some_move n m e in
    (subst (λ (x : Move). Has (n ∷ ms) x) i here, subst (λ (x : Move). accepts x k ≡ true) i a)
picked_by false n m ms k a e on = let r = on e in (there r.0, r.1)

pub picked : (ms : List Move) (m : Move) (k : TokenKind) → pick ms k ≡ Some m → Has ms m × (accepts m k ≡ true)
picked [] m k e = absurd (no_move m e)
picked (n ∷ ms) m k e = picked_by (accepts n k) n m ms k refl e (λ h. picked ms m k h)

ending_sound : (q : Place) (e : Ending) (f : Word) (fs : Trees) (t : Word) (ts : List Word) (w : Tree) (rest : List Word) → ending q ≡ e → Means (ends_before e f fs t) t ts w rest → Spells (inside q f fs) (t ∷ ts) w rest
ending_sound q Never f fs t ts w rest e h = absurd h
ending_sound q (Ends s) f fs t ts w rest e h = spells_at h.0 h.1 (ends (subst (λ (x : Ending). MayEnd x s (t ∷ ts)) (sym e) refl))
ending_sound q (BeforeStop s) f fs t ts w rest e h = elim (by_test (is_stop t.kind) (ended (node s f fs)) stuck t ts w rest h) [
  | inl r ↦ spells_at r.1.0 r.1.1 (ends (subst (λ (x : Ending). MayEnd x s (t ∷ ts)) (sym e) (refl, r.0)))
  | inr r ↦ absurd r.1
]

move_sound : (q : Place) (o : Option Move) (f : Word) (fs : Trees) (t : Word) (ts : List Word) (w : Tree) (rest : List Word) → pick (moves q) t.kind ≡ o → Means (follow_move o (ending q) f fs t) t ts w rest → Spells (inside q f fs) (t ∷ ts) w rest
move_sound q None f fs t ts w rest e h = ending_sound q (ending q) f fs t ts w rest refl h
move_sound q (Some (Takes k r)) f fs t ts w rest e h =
    let p = picked (moves q) (Takes k r) t.kind e in
    takes p.0 (same_true t.kind k p.1) (spells_at h.3.0 h.3.1 h.2)
move_sound q (Some (Reads l r)) f fs t ts w rest e h =
    let p = picked (moves q) (Reads l r) t.kind e in
    let x = opened_sound l (begin l t.kind) (within r f fs) t ts w rest (opens l t) h in
    reads p.0 x.2 x.3
move_sound q (Some (Wraps k s r)) f fs t ts w rest e h =
    let p = picked (moves q) (Wraps k s r) t.kind e in
    wraps p.0 (same_true t.kind k p.1) (spells_at h.3.0 h.3.1 h.2)

pub in_sound : (q : Place) (f : Word) (fs : Trees) (t : Word) (ts : List Word) (w : Tree) (rest : List Word) → Means (step_in q f fs t) t ts w rest → Spells (inside q f fs) (t ∷ ts) w rest
unfolding step_in
in_sound q f fs t ts w rest h = move_sound q (pick (moves q) t.kind) f fs t ts w rest refl h

tail_sound : (o : Option Place) (c : Tail) (v : Tree) (t : Word) (ts : List Word) (w : Tree) (rest : List Word) → more_at c (shape_of v) t.kind ≡ o → Means (tail_step o c v t) t ts w rest → Spells (tail c v) (t ∷ ts) w rest
tail_sound None c v t ts w rest e h = spells_at h.0 h.1 stays
tail_sound (Some q) c v t ts w rest e h = goes e h.2 (spells_at h.3.3.0 h.3.3.1 h.3.2)

pub frame_sound : (fr : Frame) (v : Tree) (t : Word) (ts : List Word) (w : Tree) (rest : List Word) → Means (step_frame fr v t) t ts w rest → Spells (goal_of fr v) (t ∷ ts) w rest
frame_sound (within q f fs) v t ts w rest h = in_sound q f (more fs v) t ts w rest h
frame_sound (after c) v t ts w rest h = tail_sound (more_at c (shape_of v) t.kind) c v t ts w rest refl h

some_is : (a b : State) → Some a ≡ Some b → a ≡ b
some_is a b e = cc

some_tree : (a b : Tree) → Some a ≡ Some b → a ≡ b
some_tree a b e = cc

no_state : (a : State) → None ≡ Some a → ⊥
no_state a e = cc

no_tree : (a : Tree) → None ≡ Some a → ⊥
no_tree a e = cc

-- a step of a frame, and then the frames below
settle_sound : (o : Outcome) (frs : List Frame) (on : Tree → Option State) (t : Word) (ts : List Word) (w : Tree) (s : State) → settle o frs on ≡ Some s → Completes s ts w → ((u : Tree) → on u ≡ Some s → Through frs u (t ∷ ts) w []) → (x : Tree) × (mid : List Word) × Means o t ts x mid × Through frs x mid w []
settle_sound (moved q f fs pushed) frs on t ts w s e h k =
    let c : Completes (at q f fs (pushed ++ frs)) ts w = subst (λ (x : State). Completes x ts w) (sym (some_is (at q f fs (pushed ++ frs)) s e)) h in
    let r = through_split pushed frs c.0 c.1 w [] c.3 in
    (r.0, r.1, (c.0, c.1, c.2, r.2), r.3)
settle_sound (ended u) frs on t ts w s e h k = (u, t ∷ ts, (refl, refl), k u e)
settle_sound stuck frs on t ts w s e h k = absurd (no_state s e)

pub pop_sound : (frs : List Frame) (v : Tree) (t : Word) (ts : List Word) (w : Tree) (s : State) → pop frs v t ≡ Some s → Completes s ts w → Through frs v (t ∷ ts) w []
unfolding pop
pop_sound [] v t ts w s e h = absurd (no_state s e)
pop_sound (fr ∷ frs) v t ts w s e h =
    let r = settle_sound (step_frame fr v t) frs (λ u. pop frs u t) t ts w s e h (λ u d. pop_sound frs u t ts w s d h) in
    (r.0, r.1, frame_sound fr v t ts r.0 r.1 r.2, r.3)

pub step_sound : (s : State) (t : Word) (s' : State) (ts : List Word) (w : Tree) → step s t ≡ Some s' → Completes s' ts w → Completes s (t ∷ ts) w
unfolding step
step_sound (at q f fs frs) t s' ts w e h =
    let r = settle_sound (step_in q f fs t) frs (λ u. pop frs u t) t ts w s' e h (λ u d. pop_sound frs u t ts w s' d h) in
    (r.0, r.1, in_sound q f fs t ts r.0 r.1 r.2, r.3)

end_in_sound : (q : Place) (d : Ending) (f : Word) (fs : Trees) (w : Tree) → ending q ≡ d → end_in d f fs ≡ Some w → Spells (inside q f fs) [] w []
end_in_sound q Never f fs w d e = absurd (no_tree w e)
end_in_sound q (Ends s) f fs w d e = spells_at (some_tree (node s f fs) w e) refl (ends (subst (λ (x : Ending). MayEnd x s []) (sym d) refl))
end_in_sound q (BeforeStop s) f fs w d e = spells_at (some_tree (node s f fs) w e) refl (ends (subst (λ (x : Ending). MayEnd x s []) (sym d) (refl, tt)))

end_frame_sound : (fr : Frame) (v w : Tree) → end_frame fr v ≡ Some w → Spells (goal_of fr v) [] w []
end_frame_sound (within q f fs) v w e = end_in_sound q (ending q) f (more fs v) w refl e
end_frame_sound (after c) v w e = spells_at (some_tree v w e) refl stays

pub bound : (o : Option Tree) (on : Tree → Option Tree) (w : Tree) → and_then o on ≡ Some w → (u : Tree) × (o ≡ Some u) × (on u ≡ Some w)
bound None on w e = absurd (no_tree w e)
bound (Some u) on w e = (u, refl, e)

end_frames_sound : (frs : List Frame) (v w : Tree) → end_frames frs v ≡ Some w → Through frs v [] w []
unfolding end_frames
end_frames_sound [] v w e = (some_tree v w e, refl)
end_frames_sound (fr ∷ frs) v w e =
    let r = bound (end_frame fr v) (λ u. end_frames frs u) w e in
    (r.0, [], end_frame_sound fr v r.0 r.1, end_frames_sound frs r.0 w r.2)

pub finish_sound : (s : State) (w : Tree) → finish s ≡ Some w → Completes s [] w
unfolding finish
finish_sound (at q f fs frs) w e =
    let r = bound (end_in (ending q) f fs) (λ u. end_frames frs u) w e in
    (r.0, [], end_in_sound q (ending q) f fs r.0 refl r.1, end_frames_sound frs r.0 w r.2)

tree_is : (a b : Tree) → tree a ≡ tree b → a ≡ b
tree_is a b e = cc

not_both : (n : ℕ) (w : Tree) → fails n ≡ tree w → ⊥
not_both n w e = cc

at_end_sound : (o : Option Tree) (n : ℕ) (w : Tree) → at_end o n ≡ tree w → o ≡ Some w
at_end_sound None n w e = absurd (not_both n w e)
at_end_sound (Some v) n w e = ap (λ (x : Tree). Some x) (tree_is v w e)

go_on_sound : (o : Option State) (n : ℕ) (on : State → Verdict) (w : Tree) → go_on o n on ≡ tree w → (s : State) × (o ≡ Some s) × (on s ≡ tree w)
go_on_sound None n on w e = absurd (not_both n w e)
go_on_sound (Some s) n on w e = (s, refl, e)

-- a tree that the machine answers is spelled
pub run_sound : (ts : List Word) (n : ℕ) (s : State) (w : Tree) → run ts n s ≡ tree w → Completes s ts w
unfolding run
run_sound [] n s w e = finish_sound s w (at_end_sound (finish s) n w e)
run_sound (t ∷ ts) n s w e =
    let r = go_on_sound (step s t) n (λ s'. run ts (suc n) s') w e in
    step_sound s t r.0 ts w r.1 (run_sound ts (suc n) r.0 w r.2)
