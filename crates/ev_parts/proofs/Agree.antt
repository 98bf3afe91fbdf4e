-- The walk over the items of a frame goes to the end exactly where a reading gives something, and both leave the same bytes.
use Rattle.std.proofs.Common.{◌≡◌, ℕ, zero, suc, ◌-◌, Bool, true, false, ltb, nat_eq, ◌&&◌, ◌==◌, if◌then◌else◌, List, [], ◌∷◌, length, Option, Some, None, ◌⊎◌, inl, inr, ⊎_elim, refl, subst, sym, ◌∙◌, arith}
use Rattle.std.proofs.lemmas.Bool.{eqb-true, eqb-false, ne_eqb, ltb-true, lt-ltb}
use Rattle.def_op.specs.declared.kind.Kind.{Kind}
use Rattle.def_op.specs.declared.kind.Kind.TheVariants as kind
use Rattle.def_op.specs.Frames.{Described, ListOf, YourExport, YourAnswer, MyPromise, MyAnswer, more, To, Elsewhere, Resolve, Provide, Accept, Shorten}
use Rattle.def_op.specs.Reading.{◌>>=◌, unsigned_at, signed_at, swiss_at, vat_at, primitive_at, character_at, text_at, few_at, kind_at, is_list, Read, leaf_at, first_at, members_at, list_at, no_list, desc_at, free_room, free_at, target_behind, target_at, subject_behind, subject_at, outcome_at, deliver_at, deliver_only_at, resolve_at, provide_at, accept_at, shorten_at, op_at}
use Rattle.def_op.specs.declared.spots.Part.{Part}
use Rattle.def_op.specs.declared.spots.Part.TheVariants.{Code, Number, Vat, Swiss, Other}
use Rattle.def_op.specs.declared.spots.Spot.{Spot}
use Rattle.def_op.specs.Items.{Walk, On, Off, and_then, item, code, Left, left, walk_number, walk_leaf, may_begin, walk_members, walk_list, no_walk, walk_first, walk_desc, walk_free, is_target, is_subject, walk_named, walk_vat, walk_outcome, walk_message, walk_deliver, walk_resolve, walk_provide, walk_accept, is_op, walk_op}

-- the walk goes on with what the reading gave, seen so, or both end
abbrev pub Agree : {A B : Type 0} → (B → A) → Walk A → Option B → Type 0
Agree view (On spots x) (Some y) = x ≡ view y
Agree view (On spots x) None = ⊥
Agree view (Off spots place) (Some y) = ⊥
Agree view (Off spots place) None = Unit {0}

pub both : {A B C D : Type 0} (view : B → A) (seen : D → C) (w : Walk A) (o : Option B) (f : List Spot → A → Walk C) (g : B → Option D)
    → Agree view w o → ((spots : List Spot) (y : B) → Agree seen (f spots (view y)) (g y)) → Agree seen (and_then w f) (o >>= g)
both view seen (On spots x) (Some y) f g e h = subst (λ x. Agree seen (f spots x) (g y)) (sym e) (h spots y)
both view seen (On spots x) None f g e h = absurd e
both view seen (Off spots place) (Some y) f g e h = absurd e
both view seen (Off spots place) None f g e h = tt

-- what is read may be made into something else that is seen alike
onward : {A B D : Type 0} (view : B → A) (seen : D → A) (w : Walk A) (o : Option B) (g : B → D) → ((y : B) → view y ≡ seen (g y)) → Agree view w o → Agree seen w (o >>= λ y. Some (g y))
onward view seen (On spots x) (Some y) g alike e = e ∙ alike y
onward view seen (On spots x) None g alike e = absurd e
onward view seen (Off spots place) (Some y) g alike e = absurd e
onward view seen (Off spots place) None g alike e = tt

itemed : {A : Type 0} (part : A → Part) (total : ℕ) (spots : List Spot) (bytes : List ℕ) (o : Option (A × List ℕ)) → Agree (λ x. x) (item part total spots bytes o) o
itemed part total spots bytes (Some x) = refl
itemed part total spots bytes None = tt

abbrev len_of : List ℕ × List ℕ → ℕ × List ℕ
len_of t = (length t.0, t.1)

texted : (total : ℕ) (spots : List Spot) (bytes : List ℕ) (o : Option (List ℕ × List ℕ)) → Agree len_of (item (λ _. Other) total spots bytes (o >>= λ t. Some (length t.0, t.1))) o
texted total spots bytes (Some x) = refl
texted total spots bytes None = tt

-- what a description left to those round it and behind it
abbrev pub left_of : {A : Type 0} → Read A → Left
left_of d = left d.room d.rest

leaf_agrees : (total : ℕ) (k : Kind) (room : ℕ) (spots : List Spot) (bytes : List ℕ) → is_list k ≡ false → Agree left_of (walk_leaf total k room spots bytes) (leaf_at k room bytes)
unfolding walk_leaf leaf_at
leaf_agrees total kind.Null room spots bytes h = refl
leaf_agrees total kind.False room spots bytes h = refl
leaf_agrees total kind.True room spots bytes h = refl
leaf_agrees total kind.Integer room spots bytes h = both (λ x. x) left_of _ _ _ _ (itemed (λ _. Other) total spots bytes (signed_at bytes)) (λ s y. refl)
leaf_agrees total kind.Character room spots bytes h = both (λ x. x) left_of _ _ _ _ (itemed Number total spots bytes (character_at bytes)) (λ s y. refl)
leaf_agrees total kind.Text room spots bytes h = both len_of left_of _ _ _ _ (texted total spots bytes (text_at room bytes)) (λ s y. refl)
leaf_agrees total kind.List room spots bytes h = absurd cc
leaf_agrees total kind.Primitive room spots bytes h = both (λ x. x) left_of _ _ _ _ (itemed Number total spots bytes (primitive_at bytes)) (λ s y. refl)
leaf_agrees total kind.Broken room spots bytes h = both len_of left_of _ _ _ _ (texted total spots bytes (text_at room bytes)) (λ s y. refl)
leaf_agrees total kind.Third room spots bytes h =
    both (λ x. x) left_of _ _ _ _ (itemed Vat total spots bytes (vat_at bytes)) (λ s y. both (λ x. x) left_of _ _ _ _ (itemed Swiss total s y.1 (swiss_at y.1)) (λ t z. refl))
leaf_agrees total kind.YourExport room spots bytes h = both (λ x. x) left_of _ _ _ _ (itemed Number total spots bytes (unsigned_at bytes)) (λ s y. refl)
leaf_agrees total kind.YourAnswer room spots bytes h = both (λ x. x) left_of _ _ _ _ (itemed Number total spots bytes (unsigned_at bytes)) (λ s y. refl)
leaf_agrees total kind.MyExport room spots bytes h = both (λ x. x) left_of _ _ _ _ (itemed Number total spots bytes (unsigned_at bytes)) (λ s y. refl)
leaf_agrees total kind.MyPromise room spots bytes h = both (λ x. x) left_of _ _ _ _ (itemed Number total spots bytes (unsigned_at bytes)) (λ s y. refl)
leaf_agrees total kind.MyAnswer room spots bytes h = both (λ x. x) left_of _ _ _ _ (itemed Number total spots bytes (unsigned_at bytes)) (λ s y. refl)

abbrev Walker : Type 0
Walker = ℕ → List Spot → List ℕ → Walk Left

abbrev Reader : Type 0 → Type 0
Reader A = ℕ → List ℕ → Option (Read A)

-- a walk over what a reader reads
abbrev Walks_over : {A : Type 0} → Walker → Reader A → Type 0
Walks_over one read = (room : ℕ) (spots : List Spot) (bytes : List ℕ) → Agree left_of (one room spots bytes) (read room bytes)

members_agree : (one : Walker) (reader : Reader Described) → Walks_over one reader → (n : ℕ) → Walks_over (walk_members one n) (members_at reader n)
unfolding walk_members members_at
members_agree one reader agree zero room spots bytes = refl
members_agree one reader agree (suc n) room spots bytes =
    both left_of left_of _ _ _ _ (agree room spots bytes)
    (λ s d. onward left_of left_of _ _ (λ ds. record { value = more d.value ds.value; room = ds.room; rest = ds.rest }) (λ ds. refl) (members_agree one reader agree n d.room s d.rest))

lists_agree : (total : ℕ) (one : Walker) (reader : Reader Described) → Walks_over one reader → Walks_over (walk_list total one) (list_at reader)
unfolding walk_list list_at
lists_agree total one reader agree room spots bytes =
    both (λ x. x) left_of _ _ _ _ (itemed Number total spots bytes (unsigned_at bytes))
    (λ s n. onward left_of left_of _ _ (λ ds. record { value = ListOf ds.value; room = ds.room; rest = ds.rest }) (λ ds. refl) (members_agree one reader agree n.0 room s n.1))

-- where no list may stand, none is read; else lists are walked as they are read
Suits : ℕ → Walker → Reader Described → Type 0
Suits zero walker reader = (room : ℕ) (bytes : List ℕ) → reader room bytes ≡ None
Suits (suc height) walker reader = Walks_over walker reader

-- what follows an allowed first byte
abbrev follows : ℕ → Walker → ℕ → List Spot → Kind × List ℕ → Walk Left
follows total walker room spots k = if is_list k.0 then walker room spots k.1 else walk_leaf total k.0 room spots k.1

kind_begins : (total height : ℕ) (walker : Walker) (reader : Reader Described) → Suits height walker reader → (room : ℕ) (spots : List Spot) (bytes : List ℕ) (k : Kind) (rest : List ℕ) (b : Bool) → is_list k ≡ b
    → Agree left_of (and_then (item (λ k. Code (code k)) total spots bytes (if may_begin height (suc room) k then Some (k, rest) else None)) (λ s k. follows total walker (suc room - 1) s k)) (if is_list k then reader room rest else leaf_at k room rest)
unfolding Suits
kind_begins total height walker reader suits room spots bytes k rest false e =
    let less : suc room - 1 ≡ room = omega arith in
    let some : ltb 0 (suc room) ≡ true = lt-ltb 0 (suc room) (omega arith) in
    rw (e, some, less, e) (leaf_agrees total k room _ rest e)
kind_begins total zero walker reader suits room spots bytes k rest true e =
    let some : ltb 0 (suc room) ≡ true = lt-ltb 0 (suc room) (omega arith) in
    rw (e, some, suits room rest) tt
kind_begins total (suc height) walker reader suits room spots bytes k rest true e =
    let less : suc room - 1 ≡ room = omega arith in
    let some : ltb 0 (suc room) ≡ true = lt-ltb 0 (suc room) (omega arith) in
    let high : ltb 0 (suc height) ≡ true = lt-ltb 0 (suc height) (omega arith) in
    rw (e, some, high, less, e) (suits room _ rest)

begins : (total height : ℕ) (walker : Walker) (reader : Reader Described) → Suits height walker reader → (room : ℕ) (spots : List Spot) (bytes : List ℕ) (o : Option (Kind × List ℕ))
    → Agree left_of (and_then (item (λ k. Code (code k)) total spots bytes (o >>= λ k. if may_begin height (suc room) k.0 then Some k else None)) (λ s k. follows total walker (suc room - 1) s k)) (o >>= λ k. if is_list k.0 then reader room k.1 else leaf_at k.0 room k.1)
begins total height walker reader suits room spots bytes None = tt
begins total height walker reader suits room spots bytes (Some k) = kind_begins total height walker reader suits room spots bytes k.0 k.1 (is_list k.0) refl

-- where no weight is left, nothing begins
none_begins : (total height : ℕ) (spots : List Spot) (bytes : List ℕ) (o : Option (Kind × List ℕ)) (f : List Spot → Kind × List ℕ → Walk Left)
    → Agree {B = Read Described} left_of (and_then (item (λ k. Code (code k)) total spots bytes (o >>= λ k. if may_begin height zero k.0 then Some k else None)) f) None
none_begins total height spots bytes None f = tt
none_begins total height spots bytes (Some k) f = tt

first_agrees : (total height : ℕ) (walker : Walker) (reader : Reader Described) → Suits height walker reader → Walks_over (walk_first total height walker) (first_at reader)
unfolding walk_first first_at
first_agrees total height walker reader suits zero spots bytes = none_begins total height spots bytes (kind_at bytes) _
first_agrees total height walker reader suits (suc room) spots bytes = begins total height walker reader suits room spots bytes (kind_at bytes)

pub desc_agrees : (total height : ℕ) → Walks_over (walk_desc total height) (desc_at height)
unfolding walk_desc desc_at Suits
desc_agrees total zero = first_agrees total zero no_walk no_list (λ room bytes. refl)
desc_agrees total (suc height) =
    first_agrees total (suc height) (walk_list total (walk_desc total height)) (list_at (desc_at height)) (lists_agree total (walk_desc total height) (desc_at height) (desc_agrees total height))

free_agrees : (total : ℕ) → Walks_over (walk_free total) free_at
unfolding walk_free free_at
free_agrees total room spots bytes = both left_of left_of _ _ _ _ (desc_agrees total 100 (free_room bytes) spots bytes) (λ s d. refl)

-- ---- operations

abbrev pub behind : {A : Type 0} → A × List ℕ → List ℕ
behind x = x.1

one_agrees : {A : Type 0} (part : A → Part) (total : ℕ) (spots : List Spot) (bytes : List ℕ) (o : Option (A × List ℕ)) → Agree behind (and_then (item part total spots bytes o) (λ s x. On s x.1)) o
one_agrees part total spots bytes (Some x) = refl
one_agrees part total spots bytes None = tt

text_agrees : (total : ℕ) (spots : List Spot) (bytes : List ℕ) (o : Option (List ℕ × List ℕ)) → Agree behind (and_then (item (λ _. Other) total spots bytes (o >>= λ t. Some (length t.0, t.1))) (λ s x. On s x.1)) o
text_agrees total spots bytes (Some x) = refl
text_agrees total spots bytes None = tt

-- a number behind the first byte of a target or subject
counted_agrees : (total : ℕ) (spots : List Spot) (bytes : List ℕ) (f : ℕ → Described) → Agree behind (and_then (walk_number total spots bytes) (λ t n. On t n.1)) (unsigned_at bytes >>= λ n. Some (f n.0, n.1))
counted_agrees total spots bytes f = both (λ x. x) behind _ _ _ _ (itemed Number total spots bytes (unsigned_at bytes)) (λ s n. refl)

abbrev named : (Kind → Bool) → ℕ → List Spot → List ℕ → Option (Kind × List ℕ) → Walk (List ℕ)
named test total spots bytes o = and_then (item (λ k. Code (code k)) total spots bytes (o >>= λ k. if test k.0 then Some k else None)) (λ s k. and_then (walk_number total s k.1) (λ t n. On t n.1))

target_begins : (total : ℕ) (spots : List Spot) (bytes : List ℕ) (k : Kind) (rest : List ℕ) → Agree behind (named is_target total spots bytes (Some (k, rest))) (target_behind k rest)
unfolding target_behind
target_begins total spots bytes kind.YourExport rest = counted_agrees total _ rest YourExport
target_begins total spots bytes kind.YourAnswer rest = counted_agrees total _ rest YourAnswer
target_begins total spots bytes k rest = tt

target_from : (total : ℕ) (spots : List Spot) (bytes : List ℕ) (o : Option (Kind × List ℕ)) → Agree behind (named is_target total spots bytes o) (o >>= λ k. target_behind k.0 k.1)
target_from total spots bytes (Some k) = target_begins total spots bytes k.0 k.1
target_from total spots bytes None = tt

target_agrees : (total : ℕ) (spots : List Spot) (bytes : List ℕ) → Agree behind (walk_named is_target total spots bytes) (target_at bytes)
unfolding walk_named target_at
target_agrees total spots bytes = target_from total spots bytes (kind_at bytes)

subject_begins : (total : ℕ) (spots : List Spot) (bytes : List ℕ) (k : Kind) (rest : List ℕ) → Agree behind (named is_subject total spots bytes (Some (k, rest))) (subject_behind k rest)
unfolding subject_behind
subject_begins total spots bytes kind.MyPromise rest = counted_agrees total _ rest MyPromise
subject_begins total spots bytes kind.MyAnswer rest = counted_agrees total _ rest MyAnswer
subject_begins total spots bytes k rest = tt

subject_from : (total : ℕ) (spots : List Spot) (bytes : List ℕ) (o : Option (Kind × List ℕ)) → Agree behind (named is_subject total spots bytes o) (o >>= λ k. subject_behind k.0 k.1)
subject_from total spots bytes (Some k) = subject_begins total spots bytes k.0 k.1
subject_from total spots bytes None = tt

subject_agrees : (total : ℕ) (spots : List Spot) (bytes : List ℕ) → Agree behind (walk_named is_subject total spots bytes) (subject_at bytes)
unfolding walk_named subject_at
subject_agrees total spots bytes = subject_from total spots bytes (kind_at bytes)

to_agrees : (total : ℕ) (spots : List Spot) (bytes : List ℕ) → Agree behind (and_then (walk_free total 0 spots bytes) (λ s x. On s x.rest)) (free_at 0 bytes >>= λ d. Some (To d.value, d.rest))
to_agrees total spots bytes = both left_of behind _ _ _ _ (free_agrees total 0 spots bytes) (λ s d. refl)

none_is_read : free_at 0 [] ≡ None
unfolding free_at desc_at first_at
none_is_read = refl

choice : (b : Bool) (total : ℕ) (spots : List Spot) (code : ℕ) (rest : List ℕ)
    → Agree behind (if b then and_then (item Code total spots (code ∷ rest) (Some (code, rest))) (λ s x. walk_vat total s x.1) else and_then (walk_free total 0 spots (code ∷ rest)) (λ s x. On s x.rest))
    (if b then (vat_at rest >>= λ v. Some (Elsewhere v.0, v.1)) else (free_at 0 (code ∷ rest) >>= λ d. Some (To d.value, d.rest)))
choice true total spots code rest = onward behind behind _ _ (λ v. (Elsewhere v.0, v.1)) (λ v. refl) (one_agrees Vat total _ rest (vat_at rest))
choice false total spots code rest = to_agrees total spots (code ∷ rest)

outcome_agrees : (total : ℕ) (spots : List Spot) (bytes : List ℕ) → Agree behind (walk_outcome total spots bytes) (outcome_at bytes)
unfolding walk_outcome outcome_at
outcome_agrees total spots [] = let to : Agree behind (and_then (walk_free total 0 spots []) (λ s x. On s x.rest)) (free_at 0 [] >>= λ d. Some (To d.value, d.rest)) = to_agrees total spots [] in subst (λ (o : Option (Read Described)). Agree behind (and_then (walk_free total 0 spots []) (λ s x. On s x.rest)) (o >>= λ d. Some (To d.value, d.rest))) none_is_read to
outcome_agrees total spots (b ∷ rest) = choice (b == 15) total spots b rest

deliver_agrees : (total : ℕ) (spots : List Spot) (bytes : List ℕ) → Agree behind (walk_deliver total spots bytes) (deliver_at bytes)
unfolding walk_message walk_deliver deliver_at
deliver_agrees total spots bytes =
    both (λ x. x) behind _ _ _ _ (itemed Number total spots bytes (unsigned_at bytes)) (λ s question.
    both behind behind _ _ _ _ (target_agrees total s question.1) (λ t target.
    both behind behind _ _ _ _ (text_agrees total t target.1 (text_at (length target.1) target.1)) (λ u verb.
    both (λ x. x) behind _ _ _ _ (itemed Number total u verb.1 (few_at verb.1)) (λ v count.
    both left_of behind _ _ _ _ (members_agree (walk_free total) free_at (free_agrees total) count.0 0 v count.1) (λ w args. refl)))))

deliver_only_agrees : (total : ℕ) (spots : List Spot) (bytes : List ℕ) → Agree behind (walk_message total spots bytes) (deliver_only_at bytes)
unfolding walk_message deliver_only_at
deliver_only_agrees total spots bytes =
    both behind behind _ _ _ _ (target_agrees total spots bytes) (λ t target.
    both behind behind _ _ _ _ (text_agrees total t target.1 (text_at (length target.1) target.1)) (λ u verb.
    both (λ x. x) behind _ _ _ _ (itemed Number total u verb.1 (few_at verb.1)) (λ v count.
    both left_of behind _ _ _ _ (members_agree (walk_free total) free_at (free_agrees total) count.0 0 v count.1) (λ w args. refl))))

resolve_agrees : (total : ℕ) (spots : List Spot) (bytes : List ℕ) → Agree behind (walk_resolve total spots bytes) (resolve_at bytes)
unfolding walk_resolve resolve_at
resolve_agrees total spots bytes =
    both behind behind _ _ _ _ (subject_agrees total spots bytes) (λ s subject.
    onward behind behind _ _ (λ to. (Resolve subject.0 to.0, to.1)) (λ to. refl) (outcome_agrees total s subject.1))

provide_agrees : (total : ℕ) (spots : List Spot) (bytes : List ℕ) → Agree behind (walk_provide total spots bytes) (provide_at bytes)
unfolding walk_provide provide_at
provide_agrees total spots bytes =
    both behind behind _ _ _ _ (target_agrees total spots bytes) (λ s target.
    onward behind behind _ _ (λ x. (Provide target.0 x.0, x.1)) (λ x. refl) (one_agrees Swiss total s target.1 (swiss_at target.1)))

shorten_agrees : (total : ℕ) (spots : List Spot) (bytes : List ℕ) → Agree behind (walk_provide total spots bytes) (shorten_at bytes)
unfolding walk_provide shorten_at
shorten_agrees total spots bytes =
    both behind behind _ _ _ _ (target_agrees total spots bytes) (λ s subject.
    onward behind behind _ _ (λ x. (Shorten subject.0 x.0, x.1)) (λ x. refl) (one_agrees Swiss total s subject.1 (swiss_at subject.1)))

accept_agrees : (total : ℕ) (spots : List Spot) (bytes : List ℕ) → Agree behind (walk_accept total spots bytes) (accept_at bytes)
unfolding walk_accept accept_at
accept_agrees total spots bytes =
    both (λ x. x) behind _ _ _ _ (itemed Number total spots bytes (unsigned_at bytes)) (λ s question.
    both behind behind _ _ _ _ (one_agrees Vat total s question.1 (vat_at question.1)) (λ t provider.
    onward behind behind _ _ (λ x. (Accept question.0 provider.0 x.0, x.1)) (λ x. refl) (one_agrees Swiss total t provider.1 (swiss_at provider.1))))

-- an operation behind its byte
abbrev Op_agrees : ℕ → List Spot → ℕ → List ℕ → Type 0
Op_agrees total spots b rest = Agree behind (walk_op total spots (b ∷ rest)) (op_at (b ∷ rest))

is_no_op : (b : ℕ) → (b ≡ 1 → ⊥) → (b ≡ 2 → ⊥) → (b ≡ 3 → ⊥) → (b ≡ 4 → ⊥) → (b ≡ 5 → ⊥) → (b ≡ 6 → ⊥) → is_op b ≡ false
is_no_op b n1 n2 n3 n4 n5 n6 = by (ltb 0 b) (ltb b 7) refl refl
  where
    by : (c d : Bool) → ltb 0 b ≡ c → ltb b 7 ≡ d → (c && d) ≡ false
    by true true e f = absurd (omega (arith, ltb-true 0 b e, ltb-true b 7 f, n1, n2, n3, n4, n5, n6))
    by true false e f = refl
    by false d e f = refl

no_op : (total : ℕ) (spots : List Spot) (b : ℕ) (rest : List ℕ) → (b ≡ 1 → ⊥) → (b ≡ 2 → ⊥) → (b ≡ 3 → ⊥) → (b ≡ 4 → ⊥) → (b ≡ 5 → ⊥) → (b ≡ 6 → ⊥) → Op_agrees total spots b rest
unfolding walk_op op_at
no_op total spots b rest n1 n2 n3 n4 n5 n6 = rw (is_no_op b n1 n2 n3 n4 n5 n6, ne_eqb b 1 n1, ne_eqb b 2 n2, ne_eqb b 3 n3, ne_eqb b 4 n4, ne_eqb b 5 n5, ne_eqb b 6 n6) tt

op_1 : (total : ℕ) (spots : List Spot) (rest : List ℕ) → Op_agrees total spots 1 rest
unfolding walk_op op_at
op_1 total spots rest = deliver_agrees total _ rest

op_2 : (total : ℕ) (spots : List Spot) (rest : List ℕ) → Op_agrees total spots 2 rest
unfolding walk_op op_at
op_2 total spots rest = resolve_agrees total _ rest

op_3 : (total : ℕ) (spots : List Spot) (rest : List ℕ) → Op_agrees total spots 3 rest
unfolding walk_op op_at
op_3 total spots rest = provide_agrees total _ rest

op_4 : (total : ℕ) (spots : List Spot) (rest : List ℕ) → Op_agrees total spots 4 rest
unfolding walk_op op_at
op_4 total spots rest = accept_agrees total _ rest

op_5 : (total : ℕ) (spots : List Spot) (rest : List ℕ) → Op_agrees total spots 5 rest
unfolding walk_op op_at
op_5 total spots rest = shorten_agrees total _ rest

op_6 : (total : ℕ) (spots : List Spot) (rest : List ℕ) → Op_agrees total spots 6 rest
unfolding walk_op op_at
op_6 total spots rest = deliver_only_agrees total _ rest

test : (b k : ℕ) → (b ≡ k) ⊎ (b ≡ k → ⊥)
test b k = by (nat_eq b k) refl
  where
    by : (c : Bool) → nat_eq b k ≡ c → (b ≡ k) ⊎ (b ≡ k → ⊥)
    by true e = inl (eqb-true b k e)
    by false e = inr (eqb-false b k e)

op_begins : (total : ℕ) (spots : List Spot) (b : ℕ) (rest : List ℕ) → Op_agrees total spots b rest
op_begins total spots b rest =
    let at : (k : ℕ) → Op_agrees total spots k rest → b ≡ k → Op_agrees total spots b rest = λ k h e. subst (λ (c : ℕ). Op_agrees total spots c rest) (sym e) h in
    ⊎_elim (at 1 (op_1 total spots rest))
    (λ n1. ⊎_elim (at 2 (op_2 total spots rest))
    (λ n2. ⊎_elim (at 3 (op_3 total spots rest))
    (λ n3. ⊎_elim (at 4 (op_4 total spots rest))
    (λ n4. ⊎_elim (at 5 (op_5 total spots rest))
    (λ n5. ⊎_elim (at 6 (op_6 total spots rest))
    (λ n6. no_op total spots b rest n1 n2 n3 n4 n5 n6)
    (test b 6)) (test b 5)) (test b 4)) (test b 3)) (test b 2)) (test b 1)

nothing_agrees : (total : ℕ) (spots : List Spot) → Agree behind (walk_op total spots []) (op_at [])
unfolding walk_op op_at
nothing_agrees total spots = tt

pub op_agrees : (total : ℕ) (spots : List Spot) (bytes : List ℕ) → Agree behind (walk_op total spots bytes) (op_at bytes)
op_agrees total spots [] = nothing_agrees total spots
op_agrees total spots (b ∷ rest) = op_begins total spots b rest
