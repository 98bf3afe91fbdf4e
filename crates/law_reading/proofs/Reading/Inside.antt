-- What is known of a node by its parts is the same in two arenas.
use Rattle.std.proofs.Common.{◌≡◌, ℕ, List, [], ◌∷◌, ◌++◌, ◌+◌, Bool, true, false, map, drop, slice_get, ◌&&◌, Option, Some, None, option_to_list, refl, ◌∙◌, subst, ap}
use Rattle.def_syntax.specs.declared.token.Token.{Token}
use Rattle.def_syntax.specs.declared.token.TokenKind.{TokenKind}
use Rattle.def_syntax.specs.declared.token.TokenKind.TheVariants as kinds
use Rattle.def_syntax.specs.declared.syntax.Word.{Word}
use Rattle.def_syntax.specs.declared.syntax.Shape.{Shape}
use Rattle.def_syntax.specs.declared.syntax.Shape.TheVariants as shapes
use Rattle.ev_parser.specs.declared.draft.Part.{Part}
use Rattle.ev_parser.specs.Surface.{tree_if, tree_at, last_tree, front, trees, before, behind, caught_at, catches, is_part, for_form, literal, rest_of, guard_of, word_text, surface}
use Rattle.ev_expand.specs.declared.marks.Marks.{Marks}
use Rattle.ev_expand.specs.Marked.{no_marks, both, marks_at, together, pair_parts, catch_parts, parts, form_marks, inside, is_reserved, named, object_named, returning}
use Rattle.law_reading.proofs.Reading.Whole.{tree_there, last_there, for_has, has, and_left, and_right}
use Rattle.law_reading.proofs.Reading.Alike.{Matches, BothIf, Each, PairIf, Pairs, slot, front_like, drop_like, before_like, behind_like, tree_if_like, guard_like, tree_at_like, last_like, trees_like, caught_like, text_like, kind_like, kind_slot, name_like, catches_like}

-- ---- lists of parts, put together

each_append : (R : ℕ → ℕ → Type 0) (xs bs cs ds : List ℕ) → Each R xs bs → Each R cs ds → Each R (xs ++ cs) (bs ++ ds)
each_append R [] [] cs ds h k = k
each_append R (a ∷ xs) (b ∷ bs) cs ds h k = (h.0, each_append R xs bs cs ds h.1 k)
each_append R [] (b ∷ bs) cs ds h k = absurd h
each_append R (a ∷ xs) [] cs ds h k = absurd h

each_if : (R : ℕ → ℕ → Type 0) (a b : Option ℕ) → BothIf R a b → Each R (option_to_list a) (option_to_list b)
each_if R None None h = tt
each_if R (Some i) (Some j) h = (h, tt)
each_if R None (Some j) h = absurd h
each_if R (Some i) None h = absurd h

each_pair : (R : ℕ → ℕ → Type 0) (a b : Option (ℕ × ℕ)) → PairIf R a b → Each R (pair_parts a) (pair_parts b)
unfolding pair_parts
each_pair R None None h = tt
each_pair R (Some a) (Some b) h = (h.0, (h.1, tt))
each_pair R None (Some b) h = absurd h
each_pair R (Some a) None h = absurd h

each_catch : (R : ℕ → ℕ → Type 0) (xs bs : List (ℕ × ℕ)) → Pairs R xs bs → Each R (catch_parts xs) (catch_parts bs)
unfolding catch_parts
each_catch R [] [] h = tt
each_catch R (a ∷ xs) (b ∷ bs) h = (h.0.0, (h.0.1, each_catch R xs bs h.1))
each_catch R [] (b ∷ bs) h = absurd h
each_catch R (a ∷ xs) [] h = absurd h

-- a list, a tree that may be none, and one tree
each_guarded : (R : ℕ → ℕ → Type 0) (xs bs : List ℕ) (g h : Option ℕ) (cs ds : List ℕ) → Each R xs bs → BothIf R g h → Each R cs ds → Each R (xs ++ option_to_list g ++ cs) (bs ++ option_to_list h ++ ds)
each_guarded R xs bs g h cs ds e o c = each_append R (xs ++ option_to_list g) (bs ++ option_to_list h) cs ds (each_append R xs bs (option_to_list g) (option_to_list h) e (each_if R g h o)) c

-- ---- the parts of a node

pub for_alike : (R : ℕ → ℕ → Type 0) (ps qs : List Part) → Matches R ps qs → (b : Bool) → for_has b (map slot ps) ≡ true → Each R (parts (for_form b ps)) (parts (for_form b qs))
unfolding parts
for_alike R ps qs m true h =
    let t = and_right (tree_there (map slot ps) 0) _ h in
    let u = and_right (tree_there (map slot ps) 2) _ t in
    (tree_at_like R ps qs m 0 (and_left _ _ h), (tree_at_like R ps qs m 2 (and_left _ _ t), (tree_at_like R ps qs m 4 (and_left _ _ u), (tree_at_like R ps qs m 5 (and_right (tree_there (map slot ps) 4) _ u), tt))))
for_alike R ps qs m false h =
    let t = and_right (tree_there (map slot ps) 0) _ h in
    (tree_at_like R ps qs m 0 (and_left _ _ h), (tree_at_like R ps qs m 2 (and_left _ _ t), (tree_at_like R ps qs m 3 (and_right (tree_there (map slot ps) 2) _ t), tt)))

literal_parts : (k : TokenKind) (x : List ℕ) (R : ℕ → ℕ → Type 0) → Each R (parts (literal k x)) (parts (literal k x))
unfolding parts
literal_parts kinds.Number x R = tt
literal_parts kinds.Character x R = tt
literal_parts _ x R = tt

-- the trees at two places
pub two_like : (R : ℕ → ℕ → Type 0) (ps qs : List Part) → Matches R ps qs → (i j : ℕ) → (tree_there (map slot ps) i && tree_there (map slot ps) j) ≡ true → R (tree_at ps i) (tree_at qs i) × R (tree_at ps j) (tree_at qs j)
two_like R ps qs m i j h = (tree_at_like R ps qs m i (and_left _ _ h), tree_at_like R ps qs m j (and_right (tree_there (map slot ps) i) _ h))

-- the tree at a place, and the last one
pub ends_like : (R : ℕ → ℕ → Type 0) (ps qs : List Part) → Matches R ps qs → (i : ℕ) → (tree_there (map slot ps) i && last_there (map slot ps)) ≡ true → R (tree_at ps i) (tree_at qs i) × R (last_tree ps) (last_tree qs)
ends_like R ps qs m i h = (tree_at_like R ps qs m i (and_left _ _ h), last_like R ps qs m (and_right (tree_there (map slot ps) i) _ h))

pub rest_like : (R : ℕ → ℕ → Type 0) (ps qs : List Part) → Matches R ps qs → Matches R (rest_of ps) (rest_of qs)
rest_like R ps qs m = behind_like R kinds.CloseParen ps qs m

-- a member: its patterns, its guard and its block
member_alike : (R : ℕ → ℕ → Type 0) (ps qs : List Part) → Matches R ps qs → last_there (map slot ps) ≡ true → Each R (trees (before kinds.CloseParen ps) ++ option_to_list (guard_of (rest_of ps)) ++ last_tree ps ∷ []) (trees (before kinds.CloseParen qs) ++ option_to_list (guard_of (rest_of qs)) ++ last_tree qs ∷ [])
member_alike R ps qs m h = each_guarded R (trees (before kinds.CloseParen ps)) (trees (before kinds.CloseParen qs)) (guard_of (rest_of ps)) (guard_of (rest_of qs)) (last_tree ps ∷ []) (last_tree qs ∷ [])
    (trees_like R (before kinds.CloseParen ps) (before kinds.CloseParen qs) (before_like R kinds.CloseParen ps qs m))
    (guard_like R (rest_of ps) (rest_of qs) (rest_like R ps qs m))
    (last_like R ps qs m h, tt)

pub auditors_like : (R : ℕ → ℕ → Type 0) (ps qs : List Part) → Matches R ps qs → Each R (trees (front (behind kinds.Implements (rest_of ps)))) (trees (front (behind kinds.Implements (rest_of qs))))
auditors_like R ps qs m =
    let r = behind_like R kinds.Implements (rest_of ps) (rest_of qs) (rest_like R ps qs m) in
    trees_like R (front (behind kinds.Implements (rest_of ps))) (front (behind kinds.Implements (rest_of qs))) (front_like R (behind kinds.Implements (rest_of ps)) (behind kinds.Implements (rest_of qs)) r)

function_alike : (R : ℕ → ℕ → Type 0) (ps qs : List Part) → Matches R ps qs → last_there (map slot ps) ≡ true → Each R (trees (before kinds.CloseParen ps) ++ option_to_list (guard_of (rest_of ps)) ++ trees (front (behind kinds.Implements (rest_of ps))) ++ last_tree ps ∷ []) (trees (before kinds.CloseParen qs) ++ option_to_list (guard_of (rest_of qs)) ++ trees (front (behind kinds.Implements (rest_of qs))) ++ last_tree qs ∷ [])
function_alike R ps qs m h = each_append R (trees (before kinds.CloseParen ps) ++ option_to_list (guard_of (rest_of ps)) ++ trees (front (behind kinds.Implements (rest_of ps)))) (trees (before kinds.CloseParen qs) ++ option_to_list (guard_of (rest_of qs)) ++ trees (front (behind kinds.Implements (rest_of qs)))) (last_tree ps ∷ []) (last_tree qs ∷ [])
    (each_guarded R (trees (before kinds.CloseParen ps)) (trees (before kinds.CloseParen qs)) (guard_of (rest_of ps)) (guard_of (rest_of qs)) (trees (front (behind kinds.Implements (rest_of ps)))) (trees (front (behind kinds.Implements (rest_of qs))))
    (trees_like R (before kinds.CloseParen ps) (before kinds.CloseParen qs) (before_like R kinds.CloseParen ps qs m))
    (guard_like R (rest_of ps) (rest_of qs) (rest_like R ps qs m))
    (auditors_like R ps qs m))
    (last_like R ps qs m h, tt)

pub exit_like : (R : ℕ → ℕ → Type 0) (ps qs : List Part) → Matches R ps qs → BothIf R (tree_if (behind kinds.Exit ps) 0) (tree_if (behind kinds.Exit qs) 0)
exit_like R ps qs m = tree_if_like R (behind kinds.Exit ps) (behind kinds.Exit qs) (behind_like R kinds.Exit ps qs m) 0

pub behind_first : (R : ℕ → ℕ → Type 0) (ps qs : List Part) → Matches R ps qs → Each R (trees (drop 1 ps)) (trees (drop 1 qs))
behind_first R ps qs m = trees_like R (drop 1 ps) (drop 1 qs) (drop_like R 1 ps qs m)

-- the form of a node has the same parts in both arenas
pub parts_alike : (R : ℕ → ℕ → Type 0) (s : List ℕ) (ts : List Token) (h : Shape) (f : Word) (ps qs : List Part) → Matches R ps qs → has h (map slot ps) ≡ true → Each R (parts (surface s ts h f ps)) (parts (surface s ts h f qs))
unfolding parts
parts_alike R s ts shapes.Literal f ps qs m h = literal_parts f.kind (word_text s ts f) R
parts_alike R s ts shapes.Noun f ps qs m h = tt
parts_alike R s ts shapes.Group f ps qs m h = (tree_at_like R ps qs m 0 h, tt)
parts_alike R s ts shapes.If f ps qs m h =
    let t = two_like R ps qs m 1 3 h in
    (t.0, (t.1, each_if R (tree_if ps 5) (tree_if qs 5) (tree_if_like R ps qs m 5)))
parts_alike R s ts shapes.While f ps qs m h =
    let t = two_like R ps qs m 1 3 h in
    (t.0, (t.1, tt))
parts_alike R s ts shapes.For f ps qs m h =
    subst (λ (b : Bool). Each R (parts (for_form (is_part kinds.FatArrow (slice_get ps 1)) ps)) (parts (for_form b qs))) (kind_like R kinds.FatArrow ps qs m 1)
    (for_alike R ps qs m (is_part kinds.FatArrow (slice_get ps 1)) (ap (λ (b : Bool). for_has b (map slot ps)) (kind_slot kinds.FatArrow ps 1) ∙ h))
parts_alike R s ts shapes.Escape f ps qs m h =
    let t = two_like R ps qs m 0 1 h in
    (t.0, (t.1, each_pair R (caught_at ps 3 4) (caught_at qs 3 4) (caught_like R ps qs m 3 4)))
parts_alike R s ts shapes.Try f ps qs m h = (
  tree_at_like R ps qs m 0 h,
  each_append R (catch_parts (catches (drop 1 ps))) (catch_parts (catches (drop 1 qs))) (option_to_list (tree_if (behind kinds.Finally ps) 0)) (option_to_list (tree_if (behind kinds.Finally qs) 0))
      (each_catch R (catches (drop 1 ps)) (catches (drop 1 qs)) (catches_like R (drop 1 ps) (drop 1 qs) (drop_like R 1 ps qs m)))
      (each_if R (tree_if (behind kinds.Finally ps) 0) (tree_if (behind kinds.Finally qs) 0) (tree_if_like R (behind kinds.Finally ps) (behind kinds.Finally qs) (behind_like R kinds.Finally ps qs m) 0)),
)
parts_alike R s ts shapes.When f ps qs m h =
    let t = two_like R ps qs m 1 4 h in
    (t.0, (t.1, each_pair R (caught_at ps 6 7) (caught_at qs 6 7) (caught_like R ps qs m 6 7)))
parts_alike R s ts shapes.Function f ps qs m h = each_append R (trees (front ps)) (trees (front qs)) (last_tree ps ∷ []) (last_tree qs ∷ []) (trees_like R (front ps) (front qs) (front_like R ps qs m)) (last_like R ps qs m h, tt)
parts_alike R s ts shapes.Call f ps qs m h = (tree_at_like R ps qs m 0 h, behind_first R ps qs m)
parts_alike R s ts shapes.Index f ps qs m h = (tree_at_like R ps qs m 0 h, behind_first R ps qs m)
parts_alike R s ts shapes.VerbCall f ps qs m h = (tree_at_like R ps qs m 0 h, behind_first R ps qs m)
parts_alike R s ts shapes.Send f ps qs m h = (tree_at_like R ps qs m 0 h, behind_first R ps qs m)
parts_alike R s ts shapes.Prefix f ps qs m h = (tree_at_like R ps qs m 0 h, tt)
parts_alike R s ts shapes.Binary f ps qs m h =
    let t = two_like R ps qs m 0 2 h in
    (t.0, (t.1, tt))
parts_alike R s ts shapes.MatchBind f ps qs m h =
    let t = two_like R ps qs m 0 2 h in
    (t.0, (t.1, tt))
parts_alike R s ts shapes.Assign f ps qs m h = (tree_at_like R ps qs m 1 h, tt)
parts_alike R s ts shapes.AssignIndex f ps qs m h =
    let t = ends_like R ps qs m 0 h in
    (t.0, each_append R (trees (front (drop 1 ps))) (trees (front (drop 1 qs))) (last_tree ps ∷ []) (last_tree qs ∷ []) (trees_like R (front (drop 1 ps)) (front (drop 1 qs)) (front_like R (drop 1 ps) (drop 1 qs) (drop_like R 1 ps qs m))) (t.1, tt))
parts_alike R s ts shapes.Leave f ps qs m h = each_if R (tree_if ps 0) (tree_if qs 0) (tree_if_like R ps qs m 0)
parts_alike R s ts shapes.DefineObject f ps qs m h = each_append R (trees (before kinds.OpenBrace ps)) (trees (before kinds.OpenBrace qs)) (trees (behind kinds.OpenBrace ps)) (trees (behind kinds.OpenBrace qs))
    (trees_like R (before kinds.OpenBrace ps) (before kinds.OpenBrace qs) (before_like R kinds.OpenBrace ps qs m))
    (trees_like R (behind kinds.OpenBrace ps) (behind kinds.OpenBrace qs) (behind_like R kinds.OpenBrace ps qs m))
parts_alike R s ts shapes.DefineFunction f ps qs m h = function_alike R ps qs m h
parts_alike R s ts shapes.Define f ps qs m h =
    let t = ends_like R ps qs m 0 h in
    (t.0, each_append R (option_to_list (tree_if (behind kinds.Exit ps) 0)) (option_to_list (tree_if (behind kinds.Exit qs) 0)) (last_tree ps ∷ []) (last_tree qs ∷ []) (each_if R (tree_if (behind kinds.Exit ps) 0) (tree_if (behind kinds.Exit qs) 0) (exit_like R ps qs m)) (t.1, tt))
parts_alike R s ts shapes.DefineVar f ps qs m h = each_guarded R (option_to_list (guard_of ps)) (option_to_list (guard_of qs)) (tree_if (behind kinds.Exit ps) 0) (tree_if (behind kinds.Exit qs) 0) (last_tree ps ∷ []) (last_tree qs ∷ []) (each_if R (guard_of ps) (guard_of qs) (guard_like R ps qs m)) (exit_like R ps qs m) (last_like R ps qs m h, tt)
parts_alike R s ts shapes.AnyPattern f ps qs m h = each_if R (guard_of ps) (guard_of qs) (guard_like R ps qs m)
parts_alike R s ts shapes.FinalPattern f ps qs m h = each_if R (guard_of ps) (guard_of qs) (guard_like R ps qs m)
parts_alike R s ts shapes.VarPattern f ps qs m h = each_if R (guard_of ps) (guard_of qs) (guard_like R ps qs m)
parts_alike R s ts shapes.ViaPattern f ps qs m h =
    let t = two_like R ps qs m 1 3 h in
    (t.0, (t.1, tt))
parts_alike R s ts shapes.ExprGuard f ps qs m h = (tree_at_like R ps qs m 0 h, tt)
parts_alike R s ts shapes.To f ps qs m h = member_alike R ps qs m h
parts_alike R s ts shapes.Method f ps qs m h = member_alike R ps qs m h
parts_alike R s ts shapes.Matcher f ps qs m h =
    let t = two_like R ps qs m 0 1 h in
    (t.0, (t.1, tt))
parts_alike R s ts other f ps qs m h = trees_like R ps qs m

-- ---- what is known of the parts, and of the node

-- two numbers of which the same is known
abbrev pub Known : List Marks → List Marks → ℕ → ℕ → Type 0
Known mn mm i j = marks_at mn i ≡ marks_at mm j

pub together_like : (mn mm : List Marks) (m : Marks) (is js : List ℕ) → Each (Known mn mm) is js → together mn m is ≡ together mm m js
unfolding together
together_like mn mm m [] [] h = refl
together_like mn mm m (i ∷ is) (j ∷ js) h = ap (λ (x : Marks). together mn (both m x) is) h.0 ∙ together_like mn mm (both m (marks_at mm j)) is js h.1
together_like mn mm m [] (j ∷ js) h = absurd h
together_like mn mm m (i ∷ is) [] h = absurd h

pub inside_alike : (mn mm : List Marks) (s : List ℕ) (ts : List Token) (h : Shape) (f : Word) (ps qs : List Part) → Matches (Known mn mm) ps qs → has h (map slot ps) ≡ true → inside mn (surface s ts h f ps) ≡ inside mm (surface s ts h f qs)
unfolding inside
inside_alike mn mm s ts h f ps qs m k = together_like mn mm no_marks (parts (surface s ts h f ps)) (parts (surface s ts h f qs)) (parts_alike (Known mn mm) s ts h f ps qs m k)

for_marks : (b c : Bool) (ps qs : List Part) (t : ℕ) (m : Marks) → form_marks (for_form b ps) t m ≡ form_marks (for_form c qs) t m
unfolding form_marks
for_marks true true ps qs t m = refl
for_marks true false ps qs t m = refl
for_marks false true ps qs t m = refl
for_marks false false ps qs t m = refl

pub form_marks_alike : (R : ℕ → ℕ → Type 0) (s : List ℕ) (ts : List Token) (h : Shape) (f : Word) (ps qs : List Part) → Matches R ps qs → (t : ℕ) (m : Marks) → form_marks (surface s ts h f ps) t m ≡ form_marks (surface s ts h f qs) t m
unfolding form_marks
form_marks_alike R s ts shapes.Literal f ps qs e t m = refl
form_marks_alike R s ts shapes.For f ps qs e t m = for_marks (is_part kinds.FatArrow (slice_get ps 1)) (is_part kinds.FatArrow (slice_get qs 1)) ps qs t m
form_marks_alike R s ts shapes.DefineObject f ps qs e t m = ap (λ (x : Option (List ℕ)). object_named x t m) (name_like R s ts ps qs e)
form_marks_alike R s ts shapes.DefineFunction f ps qs e t m = ap (λ (x : List ℕ). named (is_reserved x) (t + 1) (returning m)) (text_like R s ts ps qs e 0)
form_marks_alike R s ts shapes.DefineVar f ps qs e t m = ap (λ (x : List ℕ). named (is_reserved x) (t + 1) m) (text_like R s ts ps qs e 0)
form_marks_alike R s ts shapes.VarPattern f ps qs e t m = ap (λ (x : List ℕ). named (is_reserved x) (t + 1) m) (text_like R s ts ps qs e 0)
form_marks_alike R s ts _ f ps qs e t m = refl
