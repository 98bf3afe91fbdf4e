-- Parts of one node in two arenas: the same tokens, and trees that stand for the same.
use Rattle.std.proofs.Common.{◌≡◌, ℕ, zero, suc, List, [], ◌∷◌, ◌++◌, Bool, true, cond, map, take, drop, length, slice_get, ◌-◌, Option, Some, None, refl, sym, ◌∙◌, subst, ap}
use Rattle.std.proofs.lemmas.List.{length-map}
use Rattle.def_syntax.specs.declared.token.Token.{Token}
use Rattle.def_syntax.specs.declared.token.TokenKind.{TokenKind}
use Rattle.def_syntax.specs.declared.token.TokenKind.TheVariants as kinds
use Rattle.def_syntax.specs.declared.syntax.Word.{Word}
use Rattle.ev_parser.specs.declared.draft.Part.{Part}
use Rattle.ev_parser.specs.declared.draft.Part.TheVariants as piece
use Rattle.ev_parser.specs.Surface.{word_text, text_at, part_tree, tree_if, tree_at, last_tree, front, trees, is_mark, mark, before, behind, caught_pair, caught_at, catches, is_part, verb_if, name_if, guard_of}
use Rattle.law_reading.proofs.Reading.Whole.{tree_there, last_there, is_kind}

-- one part beside another, where R says which trees stand for the same
abbrev pub Like : (ℕ → ℕ → Type 0) → Part → Part → Type 0
Like R (piece.Token w) (piece.Token v) = w ≡ v
Like R (piece.Tree i) (piece.Tree j) = R i j
Like R (piece.Token w) (piece.Tree j) = ⊥
Like R (piece.Tree i) (piece.Token v) = ⊥

abbrev pub Matches : (ℕ → ℕ → Type 0) → List Part → List Part → Type 0
Matches R [] [] = Unit {0}
Matches R (p ∷ ps) (q ∷ qs) = Like R p q × Matches R ps qs
Matches R [] (q ∷ qs) = ⊥
Matches R (p ∷ ps) [] = ⊥

abbrev pub LikeIf : (ℕ → ℕ → Type 0) → Option Part → Option Part → Type 0
LikeIf R None None = Unit {0}
LikeIf R (Some p) (Some q) = Like R p q
LikeIf R None (Some q) = ⊥
LikeIf R (Some p) None = ⊥

-- numbers of trees that may be none, and lists of them
abbrev pub BothIf : (ℕ → ℕ → Type 0) → Option ℕ → Option ℕ → Type 0
BothIf R None None = Unit {0}
BothIf R (Some i) (Some j) = R i j
BothIf R None (Some j) = ⊥
BothIf R (Some i) None = ⊥

abbrev pub Each : (ℕ → ℕ → Type 0) → List ℕ → List ℕ → Type 0
Each R [] [] = Unit {0}
Each R (i ∷ is) (j ∷ js) = R i j × Each R is js
Each R [] (j ∷ js) = ⊥
Each R (i ∷ is) [] = ⊥

abbrev pub Pair : (ℕ → ℕ → Type 0) → ℕ × ℕ → ℕ × ℕ → Type 0
Pair R a b = R a.0 b.0 × R a.1 b.1

abbrev pub PairIf : (ℕ → ℕ → Type 0) → Option (ℕ × ℕ) → Option (ℕ × ℕ) → Type 0
PairIf R None None = Unit {0}
PairIf R (Some a) (Some b) = Pair R a b
PairIf R None (Some b) = ⊥
PairIf R (Some a) None = ⊥

abbrev pub Pairs : (ℕ → ℕ → Type 0) → List (ℕ × ℕ) → List (ℕ × ℕ) → Type 0
Pairs R [] [] = Unit {0}
Pairs R (a ∷ xs) (b ∷ bs) = Pair R a b × Pairs R xs bs
Pairs R [] (b ∷ bs) = ⊥
Pairs R (a ∷ xs) [] = ⊥

-- ---- parts

pub matches_append : (R : ℕ → ℕ → Type 0) (ps qs rs vs : List Part) → Matches R ps qs → Matches R rs vs → Matches R (ps ++ rs) (qs ++ vs)
matches_append R [] [] rs vs h k = k
matches_append R (p ∷ ps) (q ∷ qs) rs vs h k = (h.0, matches_append R ps qs rs vs h.1 k)
matches_append R [] (q ∷ qs) rs vs h k = absurd h
matches_append R (p ∷ ps) [] rs vs h k = absurd h

-- what stands for the same in one way does so in another one
pub matches_to : (R Q : ℕ → ℕ → Type 0) → ((i j : ℕ) → R i j → Q i j) → (ps qs : List Part) → Matches R ps qs → Matches Q ps qs
matches_to R Q f [] [] h = tt
matches_to R Q f (piece.Token w ∷ ps) (piece.Token v ∷ qs) h = (h.0, matches_to R Q f ps qs h.1)
matches_to R Q f (piece.Tree i ∷ ps) (piece.Tree j ∷ qs) h = (f i j h.0, matches_to R Q f ps qs h.1)
matches_to R Q f (piece.Token w ∷ ps) (piece.Tree j ∷ qs) h = absurd h.0
matches_to R Q f (piece.Tree i ∷ ps) (piece.Token v ∷ qs) h = absurd h.0
matches_to R Q f [] (q ∷ qs) h = absurd h
matches_to R Q f (p ∷ ps) [] h = absurd h

get_like : (R : ℕ → ℕ → Type 0) (ps qs : List Part) → Matches R ps qs → (k : ℕ) → LikeIf R (slice_get ps k) (slice_get qs k)
get_like R [] [] h k = tt
get_like R (p ∷ ps) (q ∷ qs) h zero = h.0
get_like R (p ∷ ps) (q ∷ qs) h (suc k) = get_like R ps qs h.1 k
get_like R [] (q ∷ qs) h k = absurd h
get_like R (p ∷ ps) [] h k = absurd h

length_like : (R : ℕ → ℕ → Type 0) (ps qs : List Part) → Matches R ps qs → length ps ≡ length qs
length_like R [] [] h = refl
length_like R (p ∷ ps) (q ∷ qs) h = ap suc (length_like R ps qs h.1)
length_like R [] (q ∷ qs) h = absurd h
length_like R (p ∷ ps) [] h = absurd h

take_like : (R : ℕ → ℕ → Type 0) (n : ℕ) (ps qs : List Part) → Matches R ps qs → Matches R (take n ps) (take n qs)
take_like R zero ps qs h = tt
take_like R (suc n) [] [] h = tt
take_like R (suc n) (p ∷ ps) (q ∷ qs) h = (h.0, take_like R n ps qs h.1)
take_like R (suc n) [] (q ∷ qs) h = absurd h
take_like R (suc n) (p ∷ ps) [] h = absurd h

pub drop_like : (R : ℕ → ℕ → Type 0) (n : ℕ) (ps qs : List Part) → Matches R ps qs → Matches R (drop n ps) (drop n qs)
drop_like R zero ps qs h = h
drop_like R (suc n) [] [] h = tt
drop_like R (suc n) (p ∷ ps) (q ∷ qs) h = drop_like R n ps qs h.1
drop_like R (suc n) [] (q ∷ qs) h = absurd h
drop_like R (suc n) (p ∷ ps) [] h = absurd h

pub front_like : (R : ℕ → ℕ → Type 0) (ps qs : List Part) → Matches R ps qs → Matches R (front ps) (front qs)
front_like R ps qs h = subst (λ (n : ℕ). Matches R (front ps) (take (n - 1) qs)) (length_like R ps qs h) (take_like R (length ps - 1) ps qs h)

is_mark_like : (R : ℕ → ℕ → Type 0) (k : TokenKind) (p q : Part) → Like R p q → is_mark k p ≡ is_mark k q
is_mark_like R k (piece.Token w) (piece.Token v) h = ap (λ (x : Word). is_mark k (piece.Token x)) h
is_mark_like R k (piece.Tree i) (piece.Tree j) h = refl
is_mark_like R k (piece.Token w) (piece.Tree j) h = absurd h
is_mark_like R k (piece.Tree i) (piece.Token v) h = absurd h

mark_like : (R : ℕ → ℕ → Type 0) (k : TokenKind) (ps qs : List Part) → Matches R ps qs → mark k ps ≡ mark k qs
mark_like R k [] [] h = refl
mark_like R k (p ∷ ps) (q ∷ qs) h = ap (λ (b : Bool). cond b 0 (suc (mark k ps))) (is_mark_like R k p q h.0) ∙ ap (λ (n : ℕ). cond (is_mark k q) 0 (suc n)) (mark_like R k ps qs h.1)
mark_like R k [] (q ∷ qs) h = absurd h
mark_like R k (p ∷ ps) [] h = absurd h

pub before_like : (R : ℕ → ℕ → Type 0) (k : TokenKind) (ps qs : List Part) → Matches R ps qs → Matches R (before k ps) (before k qs)
before_like R k ps qs h = subst (λ (n : ℕ). Matches R (before k ps) (take n qs)) (mark_like R k ps qs h) (take_like R (mark k ps) ps qs h)

pub behind_like : (R : ℕ → ℕ → Type 0) (k : TokenKind) (ps qs : List Part) → Matches R ps qs → Matches R (behind k ps) (behind k qs)
behind_like R k ps qs h = subst (λ (n : ℕ). Matches R (behind k ps) (drop (suc n) qs)) (mark_like R k ps qs h) (drop_like R (suc (mark k ps)) ps qs h)

-- ---- trees among the parts

part_tree_like : (R : ℕ → ℕ → Type 0) (p q : Option Part) → LikeIf R p q → BothIf R (part_tree p) (part_tree q)
part_tree_like R None None h = tt
part_tree_like R (Some (piece.Tree i)) (Some (piece.Tree j)) h = h
part_tree_like R (Some (piece.Token w)) (Some (piece.Token v)) h = tt
part_tree_like R (Some (piece.Tree i)) (Some (piece.Token v)) h = absurd h
part_tree_like R (Some (piece.Token w)) (Some (piece.Tree j)) h = absurd h
part_tree_like R None (Some q) h = absurd h
part_tree_like R (Some p) None h = absurd h

pub tree_if_like : (R : ℕ → ℕ → Type 0) (ps qs : List Part) → Matches R ps qs → (k : ℕ) → BothIf R (tree_if ps k) (tree_if qs k)
tree_if_like R ps qs h k = part_tree_like R (slice_get ps k) (slice_get qs k) (get_like R ps qs h k)

pub guard_like : (R : ℕ → ℕ → Type 0) (ps qs : List Part) → Matches R ps qs → BothIf R (guard_of ps) (guard_of qs)
guard_like R ps qs h = tree_if_like R (behind kinds.Colon ps) (behind kinds.Colon qs) (behind_like R kinds.Colon ps qs h) 0

-- a part as a slot: a token by its kind, none for a tree
abbrev pub slot : Part → Option TokenKind
slot (piece.Tree i) = None
slot (piece.Token w) = Some w.kind

or_zero_like : (R : ℕ → ℕ → Type 0) (ps qs : List Part) → Matches R ps qs → (k : ℕ) → tree_there (map slot ps) k ≡ true → R (tree_at ps k) (tree_at qs k)
or_zero_like R [] [] h k t = cc
or_zero_like R (piece.Tree i ∷ ps) (piece.Tree j ∷ qs) h zero t = h.0
or_zero_like R (piece.Token w ∷ ps) (q ∷ qs) h zero t = cc
or_zero_like R (piece.Tree i ∷ ps) (piece.Token v ∷ qs) h zero t = absurd h.0
or_zero_like R (p ∷ ps) (q ∷ qs) h (suc k) t = or_zero_like R ps qs h.1 k t
or_zero_like R [] (q ∷ qs) h k t = absurd h
or_zero_like R (p ∷ ps) [] h k t = absurd h

pub tree_at_like : (R : ℕ → ℕ → Type 0) (ps qs : List Part) → Matches R ps qs → (k : ℕ) → tree_there (map slot ps) k ≡ true → R (tree_at ps k) (tree_at qs k)
tree_at_like R ps qs h k t = or_zero_like R ps qs h k t

pub last_like : (R : ℕ → ℕ → Type 0) (ps qs : List Part) → Matches R ps qs → last_there (map slot ps) ≡ true → R (last_tree ps) (last_tree qs)
last_like R ps qs h t =
    let l : length (map slot ps) ≡ length ps = length-map ps slot in
    subst (λ (n : ℕ). R (last_tree ps) (tree_at qs (n - 1))) (length_like R ps qs h) (or_zero_like R ps qs h (length ps - 1) (ap (λ (n : ℕ). tree_there (map slot ps) (n - 1)) (sym l) ∙ t))

pub trees_like : (R : ℕ → ℕ → Type 0) (ps qs : List Part) → Matches R ps qs → Each R (trees ps) (trees qs)
trees_like R [] [] h = tt
trees_like R (piece.Tree i ∷ ps) (piece.Tree j ∷ qs) h = (h.0, trees_like R ps qs h.1)
trees_like R (piece.Token w ∷ ps) (piece.Token v ∷ qs) h = trees_like R ps qs h.1
trees_like R (piece.Tree i ∷ ps) (piece.Token v ∷ qs) h = absurd h.0
trees_like R (piece.Token w ∷ ps) (piece.Tree j ∷ qs) h = absurd h.0
trees_like R [] (q ∷ qs) h = absurd h
trees_like R (p ∷ ps) [] h = absurd h

caught_pair_like : (R : ℕ → ℕ → Type 0) (a b c d : Option ℕ) → BothIf R a b → BothIf R c d → PairIf R (caught_pair a c) (caught_pair b d)
caught_pair_like R (Some i) (Some j) (Some m) (Some n) h k = (h, k)
caught_pair_like R (Some i) (Some j) None None h k = tt
caught_pair_like R None None (Some m) (Some n) h k = tt
caught_pair_like R None None None None h k = tt
caught_pair_like R (Some i) None c d h k = absurd h
caught_pair_like R None (Some j) c d h k = absurd h
caught_pair_like R (Some i) (Some j) None (Some n) h k = absurd k
caught_pair_like R (Some i) (Some j) (Some m) None h k = absurd k
caught_pair_like R None None None (Some n) h k = absurd k
caught_pair_like R None None (Some m) None h k = absurd k

pub caught_like : (R : ℕ → ℕ → Type 0) (ps qs : List Part) → Matches R ps qs → (i j : ℕ) → PairIf R (caught_at ps i j) (caught_at qs i j)
caught_like R ps qs h i j = caught_pair_like R (tree_if ps i) (tree_if qs i) (tree_if ps j) (tree_if qs j) (tree_if_like R ps qs h i) (tree_if_like R ps qs h j)

-- ---- tokens among the parts

pub text_like : (R : ℕ → ℕ → Type 0) (s : List ℕ) (ts : List Token) (ps qs : List Part) → Matches R ps qs → (k : ℕ) → text_at s ts ps k ≡ text_at s ts qs k
text_like R s ts [] [] h k = refl
text_like R s ts (piece.Token w ∷ ps) (piece.Token v ∷ qs) h zero = ap (λ (x : Word). word_text s ts x) h.0
text_like R s ts (piece.Tree i ∷ ps) (piece.Tree j ∷ qs) h zero = refl
text_like R s ts (piece.Token w ∷ ps) (piece.Tree j ∷ qs) h zero = absurd h.0
text_like R s ts (piece.Tree i ∷ ps) (piece.Token v ∷ qs) h zero = absurd h.0
text_like R s ts (p ∷ ps) (q ∷ qs) h (suc k) = text_like R s ts ps qs h.1 k
text_like R s ts [] (q ∷ qs) h k = absurd h
text_like R s ts (p ∷ ps) [] h k = absurd h

pub kind_like : (R : ℕ → ℕ → Type 0) (j : TokenKind) (ps qs : List Part) → Matches R ps qs → (k : ℕ) → is_part j (slice_get ps k) ≡ is_part j (slice_get qs k)
kind_like R j [] [] h k = refl
kind_like R j (p ∷ ps) (q ∷ qs) h zero = is_mark_like R j p q h.0
kind_like R j (p ∷ ps) (q ∷ qs) h (suc k) = kind_like R j ps qs h.1 k
kind_like R j [] (q ∷ qs) h k = absurd h
kind_like R j (p ∷ ps) [] h k = absurd h

-- a part's kind by its slot
pub kind_slot : (j : TokenKind) (ps : List Part) (k : ℕ) → is_part j (slice_get ps k) ≡ is_kind j (slice_get (map slot ps) k)
kind_slot j [] k = refl
kind_slot j (piece.Token w ∷ ps) zero = refl
kind_slot j (piece.Tree i ∷ ps) zero = refl
kind_slot j (p ∷ ps) (suc k) = kind_slot j ps k

pub verb_like : (R : ℕ → ℕ → Type 0) (s : List ℕ) (ts : List Token) (ps qs : List Part) → Matches R ps qs → verb_if s ts ps ≡ verb_if s ts qs
verb_like R s ts ps qs h = ap (λ (b : Bool). cond b None (Some (text_at s ts ps 2))) (kind_like R kinds.OpenParen ps qs h 2) ∙ ap (λ (x : List ℕ). cond (is_part kinds.OpenParen (slice_get qs 2)) None (Some x)) (text_like R s ts ps qs h 2)

pub name_like : (R : ℕ → ℕ → Type 0) (s : List ℕ) (ts : List Token) (ps qs : List Part) → Matches R ps qs → name_if s ts ps ≡ name_if s ts qs
name_like R s ts ps qs h = ap (λ (b : Bool). cond b None (Some (text_at s ts ps 0))) (kind_like R kinds.Ignore ps qs h 0) ∙ ap (λ (x : List ℕ). cond (is_part kinds.Ignore (slice_get qs 0)) None (Some x)) (text_like R s ts ps qs h 0)

-- ---- the catches of a `try`

pub catches_like : (R : ℕ → ℕ → Type 0) (ps qs : List Part) → Matches R ps qs → Pairs R (catches ps) (catches qs)
catches_like R (piece.Token w ∷ (piece.Tree p ∷ (piece.Tree b ∷ ps))) (piece.Token v ∷ (piece.Tree q ∷ (piece.Tree c ∷ qs))) h = ((h.1.0, h.1.1.0), catches_like R ps qs h.1.1.1)
catches_like R [] [] h = tt
catches_like R [] (q ∷ qs) h = absurd h
catches_like R (p ∷ ps) [] h = absurd h
catches_like R (piece.Tree i ∷ ps) (piece.Tree j ∷ qs) h = tt
catches_like R (piece.Tree i ∷ ps) (piece.Token v ∷ qs) h = absurd h.0
catches_like R (piece.Token w ∷ ps) (piece.Tree j ∷ qs) h = absurd h.0
catches_like R (piece.Token w ∷ []) (piece.Token v ∷ []) h = tt
catches_like R (piece.Token w ∷ []) (piece.Token v ∷ (q ∷ qs)) h = absurd h.1
catches_like R (piece.Token w ∷ (p ∷ ps)) (piece.Token v ∷ []) h = absurd h.1
catches_like R (piece.Token w ∷ (piece.Token p ∷ ps)) (piece.Token v ∷ (piece.Token q ∷ qs)) h = tt
catches_like R (piece.Token w ∷ (piece.Tree p ∷ ps)) (piece.Token v ∷ (piece.Token q ∷ qs)) h = absurd h.1.0
catches_like R (piece.Token w ∷ (piece.Token p ∷ ps)) (piece.Token v ∷ (piece.Tree q ∷ qs)) h = absurd h.1.0
catches_like R (piece.Token w ∷ (piece.Tree p ∷ [])) (piece.Token v ∷ (piece.Tree q ∷ [])) h = tt
catches_like R (piece.Token w ∷ (piece.Tree p ∷ [])) (piece.Token v ∷ (piece.Tree q ∷ (b ∷ qs))) h = absurd h.1.1
catches_like R (piece.Token w ∷ (piece.Tree p ∷ (b ∷ ps))) (piece.Token v ∷ (piece.Tree q ∷ [])) h = absurd h.1.1
catches_like R (piece.Token w ∷ (piece.Tree p ∷ (piece.Token b ∷ ps))) (piece.Token v ∷ (piece.Tree q ∷ (piece.Token c ∷ qs))) h = tt
catches_like R (piece.Token w ∷ (piece.Tree p ∷ (piece.Token b ∷ ps))) (piece.Token v ∷ (piece.Tree q ∷ (piece.Tree c ∷ qs))) h = absurd h.1.1.0
catches_like R (piece.Token w ∷ (piece.Tree p ∷ (piece.Tree b ∷ ps))) (piece.Token v ∷ (piece.Tree q ∷ (piece.Token c ∷ qs))) h = absurd h.1.1.0
