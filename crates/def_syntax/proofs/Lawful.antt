-- A step keeps the stack lawful.
use Rattle.std.proofs.Common.{◌≡◌, List, [], ◌∷◌, ◌++◌, Bool, true, false, cond, ◌||◌, ◌&&◌, Option, Some, None, refl, sym, subst, append_assoc}
use Rattle.def_syntax.specs.declared.token.TokenKind.{TokenKind}
use Rattle.def_syntax.specs.declared.syntax.Word.{Word}
use Rattle.def_syntax.specs.declared.syntax.Line.{Line}
use Rattle.def_syntax.specs.declared.syntax.Line.TheVariants as lines
use Rattle.def_syntax.specs.declared.syntax.Tail.{Tail}
use Rattle.def_syntax.specs.declared.syntax.Tail.TheVariants as tails
use Rattle.def_syntax.specs.declared.place.Place.{Place}
use Rattle.def_syntax.specs.declared.place.Move.{Move}
use Rattle.def_syntax.specs.declared.place.Move.TheVariants.{Takes, Reads, Wraps}
use Rattle.def_syntax.specs.declared.place.Ending.{Ending}
use Rattle.def_syntax.specs.declared.place.Ending.TheVariants.{Never, Ends, BeforeStop}
use Rattle.def_syntax.specs.Grammar.{Tree, Trees, node, more, moves, ending, form_at, tower_of, shape_of, more_at, again, is_stop, Has, here, there}
use Rattle.def_syntax.specs.Machine.{Frame, within, after, Begun, choose, under, begin, begin_prim, begin_postfix, begin_prefix, begin_power, begin_product, begin_sum, begin_range, begin_relation, begin_bits, begin_equality, begin_and, begin_or, pick, Outcome, moved, ended, stuck, opened, ends_before, follow_move, step_in, tail_step, step_frame, State, at, settle, pop, step, started}
use Rattle.def_syntax.proofs.Numbering.{every, every_at}
use Rattle.def_syntax.proofs.Sound.{picked}
use Rattle.def_syntax.proofs.Checks.{implies, use_implies, and_l, and_r, follow, leaves, follow_level, level, leaving, accepted, may_end_at, comes, low_first, stop_first, next_good, joined, move_good, moves_good, next_line, good_tail, again_good, form_good, tower_good}
use Rattle.def_syntax.proofs.Complete.{Sits, Joins, Tailed, Fits, Valid, sits_at, fitting_at, tail_place}

abbrev Lawful : Outcome → List Frame → Type 0
Lawful (moved q f fs pushed) frs = (h : Option Line) × Sits h q × Fits h (pushed ++ frs)
Lawful (ended u) frs = Unit {0}
Lawful stuck frs = Unit {0}

lawful_test : (b : Bool) (x y : Outcome) (frs : List Frame) → Lawful x frs → Lawful y frs → Lawful (cond b x y) frs
lawful_test true x y frs h k = h
lawful_test false x y frs h k = k

-- what a token opens stands in any frames that fit the line
abbrev Stands : Line → Begun → Type 0
Stands l None = Unit {0}
Stands l (Some b) = (frs : List Frame) → Fits (Some l) frs → (h : Option Line) × Sits h b.0 × Fits h (b.1 ++ frs)

stands_choose : (l : Line) (k : TokenKind) (o : Option Place) → form_at l k ≡ o → (b : Begun) → Stands l b → Stands l (choose o b)
stands_choose l k None e b h = h
stands_choose l k (Some q) e b h = λ frs fit. (Some l, sits_at (Some l) q (form_good l k q e), fit)

stands_under : (l m : Line) (c : Tail) (b : Begun) → tower_of l ≡ Some (m, c) → Stands m b → Stands l (under c b)
stands_under l m c None e h = tt
stands_under l m c (Some b) e h = λ frs fit.
    let r = h (after c ∷ frs) (Some l, (tower_good l m c e).0, fit) in
    (r.0, r.1, subst (λ (x : List Frame). Fits r.0 x) (sym (append_assoc b.1 (after c ∷ []) frs)) r.2)

stands_prim : (k : TokenKind) → Stands lines.Prim (begin_prim k)
stands_prim k = stands_choose lines.Prim k (form_at lines.Prim k) refl None tt

stands_postfix : (k : TokenKind) → Stands lines.Postfix (begin_postfix k)
stands_postfix k = stands_choose lines.Postfix k (form_at lines.Postfix k) refl (under tails.Suffixes (begin_prim k)) (stands_under lines.Postfix lines.Prim tails.Suffixes (begin_prim k) refl (stands_prim k))

stands_prefix : (k : TokenKind) → Stands lines.Prefix (begin_prefix k)
stands_prefix k = stands_choose lines.Prefix k (form_at lines.Prefix k) refl (under tails.Nothing (begin_postfix k)) (stands_under lines.Prefix lines.Postfix tails.Nothing (begin_postfix k) refl (stands_postfix k))

stands_power : (k : TokenKind) → Stands lines.Power (begin_power k)
stands_power k = stands_choose lines.Power k (form_at lines.Power k) refl (under tails.Power (begin_prefix k)) (stands_under lines.Power lines.Prefix tails.Power (begin_prefix k) refl (stands_prefix k))

stands_product : (k : TokenKind) → Stands lines.Product (begin_product k)
stands_product k = stands_choose lines.Product k (form_at lines.Product k) refl (under tails.Products (begin_power k)) (stands_under lines.Product lines.Power tails.Products (begin_power k) refl (stands_power k))

stands_sum : (k : TokenKind) → Stands lines.Sum (begin_sum k)
stands_sum k = stands_choose lines.Sum k (form_at lines.Sum k) refl (under tails.Sums (begin_product k)) (stands_under lines.Sum lines.Product tails.Sums (begin_product k) refl (stands_product k))

stands_range : (k : TokenKind) → Stands lines.Range (begin_range k)
stands_range k = stands_choose lines.Range k (form_at lines.Range k) refl (under tails.Range (begin_sum k)) (stands_under lines.Range lines.Sum tails.Range (begin_sum k) refl (stands_sum k))

stands_relation : (k : TokenKind) → Stands lines.Relation (begin_relation k)
stands_relation k = stands_choose lines.Relation k (form_at lines.Relation k) refl (under tails.Relation (begin_range k)) (stands_under lines.Relation lines.Range tails.Relation (begin_range k) refl (stands_range k))

stands_bits : (k : TokenKind) → Stands lines.Bits (begin_bits k)
stands_bits k = stands_choose lines.Bits k (form_at lines.Bits k) refl (under tails.Bits (begin_relation k)) (stands_under lines.Bits lines.Relation tails.Bits (begin_relation k) refl (stands_relation k))

stands_equality : (k : TokenKind) → Stands lines.Equality (begin_equality k)
stands_equality k = stands_choose lines.Equality k (form_at lines.Equality k) refl (under tails.Equality (begin_bits k)) (stands_under lines.Equality lines.Bits tails.Equality (begin_bits k) refl (stands_bits k))

stands_and : (k : TokenKind) → Stands lines.And (begin_and k)
stands_and k = stands_choose lines.And k (form_at lines.And k) refl (under tails.Ands (begin_equality k)) (stands_under lines.And lines.Equality tails.Ands (begin_equality k) refl (stands_equality k))

stands_or : (k : TokenKind) → Stands lines.Or (begin_or k)
stands_or k = stands_choose lines.Or k (form_at lines.Or k) refl (under tails.Ors (begin_and k)) (stands_under lines.Or lines.And tails.Ors (begin_and k) refl (stands_and k))

stands : (l : Line) (k : TokenKind) → Stands l (begin l k)
unfolding begin
stands lines.Expr k = stands_choose lines.Expr k (form_at lines.Expr k) refl (under tails.Becomes (begin_or k)) (stands_under lines.Expr lines.Or tails.Becomes (begin_or k) refl (stands_or k))
stands lines.ExprBeforeBlock k = stands_choose lines.ExprBeforeBlock k (form_at lines.ExprBeforeBlock k) refl (under tails.BecomesBeforeBlock (begin_or k)) (stands_under lines.ExprBeforeBlock lines.Or tails.BecomesBeforeBlock (begin_or k) refl (stands_or k))
stands lines.Prim k = stands_prim k
stands lines.Postfix k = stands_postfix k
stands lines.Prefix k = stands_prefix k
stands lines.Power k = stands_power k
stands lines.Product k = stands_product k
stands lines.Sum k = stands_sum k
stands lines.Range k = stands_range k
stands lines.Relation k = stands_relation k
stands lines.Bits k = stands_bits k
stands lines.Equality k = stands_equality k
stands lines.And k = stands_and k
stands lines.Or k = stands_or k
stands lines.Block k = stands_choose lines.Block k (form_at lines.Block k) refl None tt
stands lines.Branch k = stands_choose lines.Branch k (form_at lines.Branch k) refl None tt
stands lines.Pattern k = stands_choose lines.Pattern k (form_at lines.Pattern k) refl None tt
stands lines.OtherPattern k = stands_choose lines.OtherPattern k (form_at lines.OtherPattern k) refl None tt
stands lines.Guard k = stands_choose lines.Guard k (form_at lines.Guard k) refl None tt
stands lines.Member k = stands_choose lines.Member k (form_at lines.Member k) refl None tt

opened_lawful : (l : Line) (b : Begun) (t : Word) (fr : Frame) (frs : List Frame) → Stands l b → Fits (Some l) (fr ∷ frs) → Lawful (opened b t fr) frs
opened_lawful l None t fr frs h fit = tt
opened_lawful l (Some b) t fr frs h fit =
    let r = h (fr ∷ frs) fit in
    (r.0, r.1, subst (λ (x : List Frame). Fits r.0 x) (sym (append_assoc b.1 (fr ∷ []) frs)) r.2)

pub next_sits : (h : Option Line) (q r : Place) → next_good q r ≡ true → Sits h q → Sits h r
next_sits h q r g s = (
  λ k f. use_implies _ _ (every_at (λ k. implies (follow_level (level q) k) (follow_level (level r) k)) (and_l _ _ g) k) (s.0 k f),
  λ l. s.1 (use_implies (leaving r) (leaving q) (and_r (every (λ k. implies (follow_level (level q) k) (follow_level (level r) k))) _ g) l),
)

comes_more : (a e x y : Bool) → (x ≡ true → y ≡ true) → (a || (e && x)) ≡ true → (a || (e && y)) ≡ true
comes_more true e x y h k = refl
comes_more false true x y h k = h k
comes_more false false x y h k = k

stop_more : (a b : Bool) (o : Option TokenKind) → (a ≡ true → b ≡ true) → stop_first a o ≡ true → stop_first b o ≡ true
stop_more a b None h k = h k
stop_more a b (Some j) h k = k

joined_joins : (h : Option Line) (m : Line) (q r : Place) → joined m r (follow_level (level q)) (leaving q) ≡ true → Sits h q → Joins (Some m) r h
joined_joins h m q r g s = (
  λ k c. use_implies _ _ (every_at (λ k. implies (comes r (follow_level (level q)) k) (follow (Some m) k)) (and_l _ _ g) k)
      (comes_more (accepted (moves r) k) (may_end_at (ending r) k) (follow h k) (follow_level (level q) k) (s.0 k) c),
  λ l. stop_more (leaving q) (leaves h) (low_first r) s.1 (use_implies (leaves (Some m)) (stop_first (leaving q) (low_first r)) (and_r (every (λ k. implies (comes r (follow_level (level q)) k) (follow (Some m) k))) _ g) l),
)

has_good : (q : Place) {ms : List Move} {m : Move} → moves_good q ms ≡ true → Has ms m → move_good q m ≡ true
has_good q g (here {m = m} {ms = ms}) = and_l (move_good q m) (moves_good q ms) g
has_good q g (there {n = n} {ms = ms} h) = has_good q (and_r (move_good q n) (moves_good q ms) g) h

pub good_move : (q : Place) (m : Move) → Has (moves q) m → move_good q m ≡ true
good_move q m h = has_good q (and_l (moves_good q (moves q)) _ (fitting_at q)) h

ending_lawful : (e : Ending) (f : Word) (fs : Trees) (t : Word) (frs : List Frame) → Lawful (ends_before e f fs t) frs
ending_lawful Never f fs t frs = tt
ending_lawful (Ends s) f fs t frs = tt
ending_lawful (BeforeStop s) f fs t frs = lawful_test (is_stop t.kind) (ended (node s f fs)) stuck frs tt tt

move_lawful : (h : Option Line) (q : Place) (o : Option Move) (f : Word) (fs : Trees) (t : Word) (frs : List Frame) → pick (moves q) t.kind ≡ o → Sits h q → Fits h frs → Lawful (follow_move o (ending q) f fs t) frs
move_lawful h q None f fs t frs e s fit = ending_lawful (ending q) f fs t frs
move_lawful h q (Some (Takes k r)) f fs t frs e s fit = (h, next_sits h q r (good_move q (Takes k r) (picked (moves q) (Takes k r) t.kind e).0) s, fit)
move_lawful h q (Some (Reads l r)) f fs t frs e s fit =
    let g = good_move q (Reads l r) (picked (moves q) (Reads l r) t.kind e).0 in
    opened_lawful l (begin l t.kind) t (within r f fs) frs (stands l t.kind) (h, joined_joins h l q r (and_r (next_good q r) _ g) s, next_sits h q r (and_l (next_good q r) _ g) s, fit)
move_lawful h q (Some (Wraps k x r)) f fs t frs e s fit = (h, next_sits h q r (good_move q (Wraps k x r) (picked (moves q) (Wraps k x r) t.kind e).0) s, fit)

in_lawful : (h : Option Line) (q : Place) (f : Word) (fs : Trees) (t : Word) (frs : List Frame) → Sits h q → Fits h frs → Lawful (step_in q f fs t) frs
unfolding step_in
in_lawful h q f fs t frs s fit = move_lawful h q (pick (moves q) t.kind) f fs t frs refl s fit

as_tailed : (x : Option Line) (l : Line) (c : Tail) → good_tail x (Some l) c ≡ true → Tailed x (Some l) c
unfolding good_tail
as_tailed None l c g = cc
as_tailed (Some m) l c g = g

tail_lawful : (m h : Option Line) (c : Tail) (v : Tree) (t : Word) (o : Option Place) (frs : List Frame) → more_at c (shape_of v) t.kind ≡ o → Tailed m h c → Fits h frs → Lawful (tail_step o c v t) frs
tail_lawful m h c v t None frs e g fit = tt
tail_lawful None h c v t (Some q) frs e g fit = absurd g
tail_lawful (Some m) None c v t (Some q) frs e g fit = absurd g
tail_lawful (Some m) (Some l) c v t (Some q) frs e g fit =
    (next_line m (Some l) c, sits_at (next_line m (Some l) c) q (tail_place m (Some l) c (shape_of v) t.kind q g e), (Some l, as_tailed (next_line m (Some l) c) l (again c) (again_good m l c g), fit))

abbrev pub ValidNext : Option State → Type 0
ValidNext None = Unit {0}
ValidNext (Some s) = Valid s

settle_valid : (o : Outcome) (frs : List Frame) (on : Tree → Option State) → Lawful o frs → ((u : Tree) → ValidNext (on u)) → ValidNext (settle o frs on)
settle_valid (moved q f fs pushed) frs on h k = h
settle_valid (ended u) frs on h k = k u
settle_valid stuck frs on h k = tt

pop_valid : (frs : List Frame) (m : Option Line) → Fits m frs → (v : Tree) (t : Word) → ValidNext (pop frs v t)
unfolding pop
pop_valid [] m h v t = tt
pop_valid (within q f fs ∷ frs) m h v t = settle_valid (step_frame (within q f fs) v t) frs (λ u. pop frs u t) (in_lawful h.0 q f (more fs v) t frs h.2 h.3) (λ u. pop_valid frs h.0 h.3 u t)
pop_valid (after c ∷ frs) m h v t = settle_valid (step_frame (after c) v t) frs (λ u. pop frs u t) (tail_lawful m h.0 c v t (more_at c (shape_of v) t.kind) frs refl h.1 h.2) (λ u. pop_valid frs h.0 h.2 u t)

pub step_valid : (s : State) (t : Word) → Valid s → ValidNext (step s t)
unfolding step
step_valid (at q f fs frs) t h = settle_valid (step_in q f fs t) frs (λ u. pop frs u t) (in_lawful h.0 q f fs t frs h.1 h.2) (λ u. pop_valid frs h.0 h.2 u t)

pub started_valid : Valid started
started_valid = (None, (λ k f. f, λ l. refl), refl)
