-- The walk over the items of a frame goes to the end exactly where a reading gives something, and its items are those of what is read.
use Rattle.std.proofs.Common.{◌≡◌, ℕ, zero, suc, ◌+◌, ◌-◌, Bool, true, false, ltb, nat_eq, ◌&&◌, ◌==◌, if◌then◌else◌, List, [], ◌∷◌, ◌++◌, map, length, Option, Some, None, ◌⊎◌, inl, inr, ⊎_elim, refl, ap, subst, sym, ◌∙◌, arith, append_assoc, append-nil}
use Rattle.std.proofs.lemmas.Bool.{eqb-true, eqb-false, ne_eqb, ltb-true, lt-ltb}
use Rattle.std.proofs.lemmas.List.{map_push}
use Rattle.def_op.specs.declared.kind.Kind.{Kind}
use Rattle.def_op.specs.declared.kind.Kind.TheVariants as kind
use Rattle.def_op.specs.Frames.{Described, ListOf, YourExport, YourAnswer, MyPromise, MyAnswer, Members, more, count, Outcome, To, Elsewhere, Operation, Resolve, Provide, Accept, Shorten}
use Rattle.def_op.specs.Reading.{◌>>=◌, unsigned_at, signed_at, swiss_at, vat_at, primitive_at, character_at, text_at, few_at, kind_at, is_list, Read, leaf_at, first_at, members_at, list_at, no_list, desc_at, free_room, free_at, target_behind, target_at, subject_behind, subject_at, outcome_at, deliver_at, deliver_only_at, resolve_at, provide_at, accept_at, shorten_at, op_at}
use Rattle.def_op.specs.declared.spots.Part.{Part}
use Rattle.def_op.specs.declared.spots.Part.TheVariants.{Code, Number, Vat, Swiss, Other}
use Rattle.def_op.specs.declared.spots.Spot.{Spot}
use Rattle.def_op.specs.Items.{Walk, On, Off, and_then, item, code, Left, left, walk_number, walk_leaf, may_begin, walk_members, walk_list, no_walk, walk_first, walk_desc, walk_free, is_target, is_subject, walk_named, walk_vat, walk_outcome, walk_message, walk_deliver, walk_resolve, walk_provide, walk_accept, is_op, walk_op}
use Rattle.law_judge.specs.PartsOf.{first_code, parts_behind, parts_all, parts_in, parts_outcome, parts_message, parts_op, plain_code, plain_parts}

abbrev pub parts_at : List Spot → List Part
parts_at = map (λ (s : Spot). s.part)

-- the walk goes on with what the reading gave, seen so, and notes items that are its own; or both end
abbrev pub Says : {A B : Type 0} → (B → A) → (B → List Part → Type 0) → List Spot → Walk A → Option B → Type 0
Says view R spots (On after x) (Some y) = (x ≡ view y) × ((ps : List Part) × (parts_at after ≡ parts_at spots ++ ps) × R y ps)
Says view R spots (On after x) None = ⊥
Says view R spots (Off after place) (Some y) = ⊥
Says view R spots (Off after place) None = Unit {0}

-- what is said behind other items
further : {A B : Type 0} (view : B → A) (Q : B → List Part → Type 0) (spots after : List Spot) (front : List Part) (w : Walk A) (o : Option B)
    → parts_at after ≡ parts_at spots ++ front → Says view (λ z qs. Q z (front ++ qs)) after w o → Says view Q spots w o
further view Q spots after front (On last x) (Some y) e h = (h.0, (front ++ h.1.0, h.1.1 ∙ ap (λ (ps : List Part). ps ++ h.1.0) e ∙ append_assoc (parts_at spots) front h.1.0, h.1.2))
further view Q spots after front (On last x) None e h = absurd h
further view Q spots after front (Off last place) (Some y) e h = absurd h
further view Q spots after front (Off last place) None e h = tt

both : {A B C D : Type 0} (view : B → A) (R : B → List Part → Type 0) (seen : D → C) (Q : D → List Part → Type 0) (spots : List Spot) (w : Walk A) (o : Option B) (f : List Spot → A → Walk C) (g : B → Option D)
    → Says view R spots w o → ((s : List Spot) (y : B) (ps : List Part) → R y ps → Says seen (λ z qs. Q z (ps ++ qs)) s (f s (view y)) (g y)) → Says seen Q spots (and_then w f) (o >>= g)
both view R seen Q spots (On after x) (Some y) f g h k =
    let rest = k after y h.1.0 h.1.2 in
    subst (λ x. Says seen Q spots (f after x) (g y)) (sym h.0) (further seen Q spots after h.1.0 (f after (view y)) (g y) h.1.1 rest)
both view R seen Q spots (On after x) None f g h k = absurd h
both view R seen Q spots (Off after place) (Some y) f g h k = absurd h
both view R seen Q spots (Off after place) None f g h k = tt

-- nothing more is noted
nothing : (spots : List Spot) → parts_at spots ≡ parts_at spots ++ []
nothing spots = sym (append-nil (parts_at spots))

-- an item
one : {A C D : Type 0} (part : A → Part) (seen : D → C) (Q : D → List Part → Type 0) (total : ℕ) (spots : List Spot) (bytes : List ℕ) (o : Option (A × List ℕ)) (f : List Spot → A × List ℕ → Walk C) (g : A × List ℕ → Option D)
    → ((s : List Spot) (x : A × List ℕ) → Says seen (λ z qs. Q z (part x.0 ∷ qs)) s (f s x) (g x)) → Says seen Q spots (and_then (item part total spots bytes o) f) (o >>= g)
one part seen Q total spots bytes (Some x) f g k =
    let spot : Spot = record { at = total - length bytes; part = part x.0 } in
    further seen Q spots (spots ++ spot ∷ []) (part x.0 ∷ []) (f (spots ++ spot ∷ []) x) (g x) (map_push (λ (s : Spot). s.part) spots spot) (k (spots ++ spot ∷ []) x)
one part seen Q total spots bytes None f g k = tt

-- a text, of which the walk keeps the length alone
text : {C D : Type 0} (seen : D → C) (Q : D → List Part → Type 0) (total : ℕ) (spots : List Spot) (bytes : List ℕ) (o : Option (List ℕ × List ℕ)) (f : List Spot → ℕ × List ℕ → Walk C) (g : List ℕ × List ℕ → Option D)
    → ((s : List Spot) (t : List ℕ × List ℕ) → Says seen (λ z qs. Q z (Other ∷ qs)) s (f s (length t.0, t.1)) (g t)) → Says seen Q spots (and_then (item (λ _. Other) total spots bytes (o >>= λ t. Some (length t.0, t.1))) f) (o >>= g)
text seen Q total spots bytes (Some t) f g k =
    let spot : Spot = record { at = total - length bytes; part = Other } in
    further seen Q spots (spots ++ spot ∷ []) (Other ∷ []) (f (spots ++ spot ∷ []) (length t.0, t.1)) (g t) (map_push (λ (s : Spot). s.part) spots spot) (k (spots ++ spot ∷ []) t)
text seen Q total spots bytes None f g k = tt

-- what is read may be made into something else that has the same items
remade : {A B D : Type 0} (view : B → A) (R : B → List Part → Type 0) (seen : D → A) (Q : D → List Part → Type 0) (spots : List Spot) (w : Walk A) (o : Option B) (g : B → D)
    → ((y : B) → view y ≡ seen (g y)) → ((y : B) (ps : List Part) → R y ps → Q (g y) ps) → Says view R spots w o → Says seen Q spots w (o >>= λ y. Some (g y))
remade view R seen Q spots (On after x) (Some y) g alike same h = (h.0 ∙ alike y, (h.1.0, h.1.1, same y h.1.0 h.1.2))
remade view R seen Q spots (On after x) None g alike same h = absurd h
remade view R seen Q spots (Off after place) (Some y) g alike same h = absurd h
remade view R seen Q spots (Off after place) None g alike same h = tt

-- what a description left to those round it and behind it
abbrev pub left_of : {A : Type 0} → Read A → Left
left_of d = left d.room d.rest

-- ---- descriptions

-- the items of what begins with that byte, and of what is behind it
abbrev BehindOf : ℕ → Read Described → List Part → Type 0
BehindOf b d ps = (first_code d.value ≡ b) × (ps ≡ parts_behind d.value)

leaf_says : (total : ℕ) (k : Kind) (room : ℕ) (spots : List Spot) (bytes : List ℕ) → is_list k ≡ false → Says left_of (BehindOf (code k)) spots (walk_leaf total k room spots bytes) (leaf_at k room bytes)
unfolding walk_leaf leaf_at first_code parts_behind plain_code plain_parts
leaf_says total kind.Null room spots bytes h = (refl, ([], nothing spots, (refl, refl)))
leaf_says total kind.False room spots bytes h = (refl, ([], nothing spots, (refl, refl)))
leaf_says total kind.True room spots bytes h = (refl, ([], nothing spots, (refl, refl)))
leaf_says total kind.Integer room spots bytes h = one (λ _. Other) left_of _ total spots bytes (signed_at bytes) _ _ (λ s x. (refl, ([], nothing s, (refl, refl))))
leaf_says total kind.Character room spots bytes h = one Number left_of _ total spots bytes (character_at bytes) _ _ (λ s x. (refl, ([], nothing s, (refl, refl))))
leaf_says total kind.Text room spots bytes h = text left_of _ total spots bytes (text_at room bytes) _ _ (λ s x. (refl, ([], nothing s, (refl, refl))))
leaf_says total kind.List room spots bytes h = absurd cc
leaf_says total kind.Primitive room spots bytes h = one Number left_of _ total spots bytes (primitive_at bytes) _ _ (λ s x. (refl, ([], nothing s, (refl, refl))))
leaf_says total kind.Broken room spots bytes h = text left_of _ total spots bytes (text_at room bytes) _ _ (λ s x. (refl, ([], nothing s, (refl, refl))))
leaf_says total kind.Third room spots bytes h =
    one Vat left_of _ total spots bytes (vat_at bytes) _ _ (λ s x. one Swiss left_of _ total s x.1 (swiss_at x.1) _ _ (λ t y. (refl, ([], nothing t, (refl, refl)))))
leaf_says total kind.YourExport room spots bytes h = one Number left_of _ total spots bytes (unsigned_at bytes) _ _ (λ s x. (refl, ([], nothing s, (refl, refl))))
leaf_says total kind.YourAnswer room spots bytes h = one Number left_of _ total spots bytes (unsigned_at bytes) _ _ (λ s x. (refl, ([], nothing s, (refl, refl))))
leaf_says total kind.MyExport room spots bytes h = one Number left_of _ total spots bytes (unsigned_at bytes) _ _ (λ s x. (refl, ([], nothing s, (refl, refl))))
leaf_says total kind.MyPromise room spots bytes h = one Number left_of _ total spots bytes (unsigned_at bytes) _ _ (λ s x. (refl, ([], nothing s, (refl, refl))))
leaf_says total kind.MyAnswer room spots bytes h = one Number left_of _ total spots bytes (unsigned_at bytes) _ _ (λ s x. (refl, ([], nothing s, (refl, refl))))

abbrev Walker : Type 0
Walker = ℕ → List Spot → List ℕ → Walk Left

abbrev Reader : Type 0 → Type 0
Reader A = ℕ → List ℕ → Option (Read A)

-- a walk over what a reader reads
abbrev Tells : {A : Type 0} → (Read A → List Part → Type 0) → Walker → Reader A → Type 0
Tells R walker reader = (room : ℕ) (spots : List Spot) (bytes : List ℕ) → Says left_of R spots (walker room spots bytes) (reader room bytes)

abbrev Whole : Read Described → List Part → Type 0
Whole d ps = ps ≡ parts_in d.value

-- so many members, with their items
abbrev AllOf : ℕ → Read Members → List Part → Type 0
AllOf n ds ps = (count ds.value ≡ n) × (ps ≡ parts_all ds.value)

members_say : (walker : Walker) (reader : Reader Described) → Tells Whole walker reader → (n : ℕ) → Tells (AllOf n) (walk_members walker n) (members_at reader n)
unfolding walk_members members_at count parts_all
members_say walker reader tells zero room spots bytes = (refl, ([], nothing spots, (refl, refl)))
members_say walker reader tells (suc n) room spots bytes =
    both left_of Whole left_of (AllOf (suc n)) spots _ _ _ _ (tells room spots bytes)
    (λ s d ps e. remade left_of (AllOf n) left_of _ s _ _ (λ ds. record { value = more d.value ds.value; room = ds.room; rest = ds.rest }) (λ ds. refl)
    (λ ds qs h. let m : 1 + count ds.value ≡ suc n = omega (arith, h.0) in (m, rw (e, h.1) refl)) (members_say walker reader tells n d.room s d.rest))

lists_say : (total : ℕ) (walker : Walker) (reader : Reader Described) → Tells Whole walker reader → Tells (BehindOf 6) (walk_list total walker) (list_at reader)
unfolding walk_list list_at first_code parts_behind
lists_say total walker reader tells room spots bytes =
    one Number left_of _ total spots bytes (unsigned_at bytes) _ _
    (λ s n. remade left_of (AllOf n.0) left_of _ s _ _ (λ ds. record { value = ListOf ds.value; room = ds.room; rest = ds.rest }) (λ ds. refl)
    (λ ds ps h. (refl, rw (h.0, h.1) refl)) (members_say walker reader tells n.0 room s n.1))

-- where no list may stand, none is read; else lists are walked as they are read
Suits : ℕ → Walker → Reader Described → Type 0
Suits zero walker reader = (room : ℕ) (bytes : List ℕ) → reader room bytes ≡ None
Suits (suc height) walker reader = Tells (BehindOf 6) walker reader

-- what follows an allowed first byte
abbrev follows : ℕ → Walker → ℕ → List Spot → Kind × List ℕ → Walk Left
follows total walker room spots k = if is_list k.0 then walker room spots k.1 else walk_leaf total k.0 room spots k.1

-- what stands behind the first byte of a kind makes the whole
whole_of : (b : ℕ) (d : Read Described) (ps : List Part) → BehindOf b d ps → Whole d (Code b ∷ ps)
whole_of b d ps h = rw (h.0, h.1) refl

begun : (b : ℕ) (spots : List Spot) (w : Walk Left) (o : Option (Read Described)) → Says left_of (BehindOf b) spots w o → Says left_of (λ d ps. Whole d (Code b ∷ ps)) spots w o
begun b spots (On after x) (Some d) h = (h.0, (h.1.0, h.1.1, whole_of b d h.1.0 h.1.2))
begun b spots (On after x) None h = absurd h
begun b spots (Off after place) (Some d) h = absurd h
begun b spots (Off after place) None h = tt

-- behind the first byte, which is noted
opened : (total : ℕ) (spots : List Spot) (bytes : List ℕ) (b : ℕ) (w : Walk Left) (o : Option (Read Described))
    → Says left_of (BehindOf b) (spots ++ record { at = total - length bytes; part = Code b } ∷ []) w o → Says left_of Whole spots w o
opened total spots bytes b w o h =
    let spot : Spot = record { at = total - length bytes; part = Code b } in
    further left_of Whole spots (spots ++ spot ∷ []) (Code b ∷ []) w o (map_push (λ (s : Spot). s.part) spots spot) (begun b (spots ++ spot ∷ []) w o h)

list_code : (k : Kind) → is_list k ≡ true → code k ≡ 6
list_code kind.List h = refl
list_code kind.Null h = absurd cc
list_code kind.False h = absurd cc
list_code kind.True h = absurd cc
list_code kind.Integer h = absurd cc
list_code kind.Character h = absurd cc
list_code kind.Text h = absurd cc
list_code kind.Primitive h = absurd cc
list_code kind.Broken h = absurd cc
list_code kind.YourExport h = absurd cc
list_code kind.YourAnswer h = absurd cc
list_code kind.MyExport h = absurd cc
list_code kind.MyPromise h = absurd cc
list_code kind.Third h = absurd cc
list_code kind.MyAnswer h = absurd cc

kind_begins : (total height : ℕ) (walker : Walker) (reader : Reader Described) → Suits height walker reader → (room : ℕ) (spots : List Spot) (bytes : List ℕ) (k : Kind) (rest : List ℕ) (b : Bool) → is_list k ≡ b
    → Says left_of Whole spots (and_then (item (λ k. Code (code k)) total spots bytes (if may_begin height (suc room) k then Some (k, rest) else None)) (λ s k. follows total walker (suc room - 1) s k)) (if is_list k then reader room rest else leaf_at k room rest)
unfolding Suits
kind_begins total height walker reader suits room spots bytes k rest false e =
    let less : suc room - 1 ≡ room = omega arith in
    let some : ltb 0 (suc room) ≡ true = lt-ltb 0 (suc room) (omega arith) in
    rw (e, some, less, e) (opened total spots bytes (code k) _ _ (leaf_says total k room _ rest e))
kind_begins total zero walker reader suits room spots bytes k rest true e =
    let some : ltb 0 (suc room) ≡ true = lt-ltb 0 (suc room) (omega arith) in
    rw (e, some, suits room rest) tt
kind_begins total (suc height) walker reader suits room spots bytes k rest true e =
    let less : suc room - 1 ≡ room = omega arith in
    let some : ltb 0 (suc room) ≡ true = lt-ltb 0 (suc room) (omega arith) in
    let high : ltb 0 (suc height) ≡ true = lt-ltb 0 (suc height) (omega arith) in
    rw (e, some, high, less, e, list_code k e) (opened total spots bytes 6 _ _ (suits room _ rest))

begins : (total height : ℕ) (walker : Walker) (reader : Reader Described) → Suits height walker reader → (room : ℕ) (spots : List Spot) (bytes : List ℕ) (o : Option (Kind × List ℕ))
    → Says left_of Whole spots (and_then (item (λ k. Code (code k)) total spots bytes (o >>= λ k. if may_begin height (suc room) k.0 then Some k else None)) (λ s k. follows total walker (suc room - 1) s k)) (o >>= λ k. if is_list k.0 then reader room k.1 else leaf_at k.0 room k.1)
begins total height walker reader suits room spots bytes None = tt
begins total height walker reader suits room spots bytes (Some k) = kind_begins total height walker reader suits room spots bytes k.0 k.1 (is_list k.0) refl

-- where no weight is left, nothing begins
none_begins : (total height : ℕ) (spots : List Spot) (bytes : List ℕ) (o : Option (Kind × List ℕ)) (f : List Spot → Kind × List ℕ → Walk Left)
    → Says left_of Whole spots (and_then (item (λ k. Code (code k)) total spots bytes (o >>= λ k. if may_begin height zero k.0 then Some k else None)) f) None
none_begins total height spots bytes None f = tt
none_begins total height spots bytes (Some k) f = tt

first_says : (total height : ℕ) (walker : Walker) (reader : Reader Described) → Suits height walker reader → Tells Whole (walk_first total height walker) (first_at reader)
unfolding walk_first first_at
first_says total height walker reader suits zero spots bytes = none_begins total height spots bytes (kind_at bytes) _
first_says total height walker reader suits (suc room) spots bytes = begins total height walker reader suits room spots bytes (kind_at bytes)

desc_says : (total height : ℕ) → Tells Whole (walk_desc total height) (desc_at height)
unfolding walk_desc desc_at Suits
desc_says total zero = first_says total zero no_walk no_list (λ room bytes. refl)
desc_says total (suc height) =
    first_says total (suc height) (walk_list total (walk_desc total height)) (list_at (desc_at height)) (lists_say total (walk_desc total height) (desc_at height) (desc_says total height))

free_says : (total : ℕ) → Tells Whole (walk_free total) free_at
unfolding walk_free free_at
free_says total room spots bytes =
    both left_of Whole left_of Whole spots _ _ _ _ (desc_says total 100 (free_room bytes) spots bytes)
    (λ s d ps e. (refl, ([], nothing s, append-nil ps ∙ e)))

-- ---- operations

abbrev pub behind : {A : Type 0} → A × List ℕ → List ℕ
behind x = x.1

abbrev Named : Described × List ℕ → List Part → Type 0
Named x ps = ps ≡ parts_in x.0

one_says : {A : Type 0} (part : A → Part) (total : ℕ) (spots : List Spot) (bytes : List ℕ) (o : Option (A × List ℕ))
    → Says behind (λ x ps. ps ≡ part x.0 ∷ []) spots (and_then (item part total spots bytes o) (λ s x. On s x.1)) o
one_says part total spots bytes (Some x) = (refl, (part x.0 ∷ [], map_push (λ (s : Spot). s.part) spots (record { at = total - length bytes; part = part x.0 }), refl))
one_says part total spots bytes None = tt

text_says : (total : ℕ) (spots : List Spot) (bytes : List ℕ) (o : Option (List ℕ × List ℕ))
    → Says behind (λ x ps. ps ≡ Other ∷ []) spots (and_then (item (λ _. Other) total spots bytes (o >>= λ t. Some (length t.0, t.1))) (λ s x. On s x.1)) o
text_says total spots bytes (Some x) = (refl, (Other ∷ [], map_push (λ (s : Spot). s.part) spots (record { at = total - length bytes; part = Other }), refl))
text_says total spots bytes None = tt

-- a number behind the first byte of a target or subject
counted_says : (total : ℕ) (spots : List Spot) (bytes : List ℕ) (f : ℕ → Described) (b : ℕ) → ((n : ℕ) → Code b ∷ Number n ∷ [] ≡ parts_in (f n))
    → Says behind (λ x ps. Named x (Code b ∷ ps)) spots (and_then (walk_number total spots bytes) (λ t n. On t n.1)) (unsigned_at bytes >>= λ n. Some (f n.0, n.1))
counted_says total spots bytes f b is = one Number behind _ total spots bytes (unsigned_at bytes) _ _ (λ s n. (refl, ([], nothing s, is n.0)))

abbrev named : (Kind → Bool) → ℕ → List Spot → List ℕ → Option (Kind × List ℕ) → Walk (List ℕ)
named test total spots bytes o = and_then (item (λ k. Code (code k)) total spots bytes (o >>= λ k. if test k.0 then Some k else None)) (λ s k. and_then (walk_number total s k.1) (λ t n. On t n.1))

-- behind the first byte, which is noted
named_opened : (total : ℕ) (spots : List Spot) (bytes : List ℕ) (b : ℕ) (w : Walk (List ℕ)) (o : Option (Described × List ℕ))
    → Says behind (λ x ps. Named x (Code b ∷ ps)) (spots ++ record { at = total - length bytes; part = Code b } ∷ []) w o → Says behind Named spots w o
named_opened total spots bytes b w o h =
    let spot : Spot = record { at = total - length bytes; part = Code b } in
    further behind Named spots (spots ++ spot ∷ []) (Code b ∷ []) w o (map_push (λ (s : Spot). s.part) spots spot) h

target_begins : (total : ℕ) (spots : List Spot) (bytes : List ℕ) (k : Kind) (rest : List ℕ) → Says behind Named spots (named is_target total spots bytes (Some (k, rest))) (target_behind k rest)
unfolding target_behind first_code parts_behind
target_begins total spots bytes kind.YourExport rest = named_opened total spots bytes 9 _ _ (counted_says total _ rest YourExport 9 (λ n. refl))
target_begins total spots bytes kind.YourAnswer rest = named_opened total spots bytes 10 _ _ (counted_says total _ rest YourAnswer 10 (λ n. refl))
target_begins total spots bytes k rest = tt

target_from : (total : ℕ) (spots : List Spot) (bytes : List ℕ) (o : Option (Kind × List ℕ)) → Says behind Named spots (named is_target total spots bytes o) (o >>= λ k. target_behind k.0 k.1)
target_from total spots bytes (Some k) = target_begins total spots bytes k.0 k.1
target_from total spots bytes None = tt

target_says : (total : ℕ) (spots : List Spot) (bytes : List ℕ) → Says behind Named spots (walk_named is_target total spots bytes) (target_at bytes)
unfolding walk_named target_at
target_says total spots bytes = target_from total spots bytes (kind_at bytes)

subject_begins : (total : ℕ) (spots : List Spot) (bytes : List ℕ) (k : Kind) (rest : List ℕ) → Says behind Named spots (named is_subject total spots bytes (Some (k, rest))) (subject_behind k rest)
unfolding subject_behind first_code parts_behind
subject_begins total spots bytes kind.MyPromise rest = named_opened total spots bytes 12 _ _ (counted_says total _ rest MyPromise 12 (λ n. refl))
subject_begins total spots bytes kind.MyAnswer rest = named_opened total spots bytes 14 _ _ (counted_says total _ rest MyAnswer 14 (λ n. refl))
subject_begins total spots bytes k rest = tt

subject_from : (total : ℕ) (spots : List Spot) (bytes : List ℕ) (o : Option (Kind × List ℕ)) → Says behind Named spots (named is_subject total spots bytes o) (o >>= λ k. subject_behind k.0 k.1)
subject_from total spots bytes (Some k) = subject_begins total spots bytes k.0 k.1
subject_from total spots bytes None = tt

subject_says : (total : ℕ) (spots : List Spot) (bytes : List ℕ) → Says behind Named spots (walk_named is_subject total spots bytes) (subject_at bytes)
unfolding walk_named subject_at
subject_says total spots bytes = subject_from total spots bytes (kind_at bytes)

abbrev Came : Outcome × List ℕ → List Part → Type 0
Came x ps = ps ≡ parts_outcome x.0

to_says : (total : ℕ) (spots : List Spot) (bytes : List ℕ) → Says behind Came spots (and_then (walk_free total 0 spots bytes) (λ s x. On s x.rest)) (free_at 0 bytes >>= λ d. Some (To d.value, d.rest))
unfolding parts_outcome
to_says total spots bytes = both left_of Whole behind Came spots _ _ _ _ (free_says total 0 spots bytes) (λ s d ps e. (refl, ([], nothing s, append-nil ps ∙ e)))

none_is_read : free_at 0 [] ≡ None
unfolding free_at desc_at first_at
none_is_read = refl

choice : (b : Bool) (total : ℕ) (spots : List Spot) (code : ℕ) (rest : List ℕ) → (b ≡ true → code ≡ 15)
    → Says behind Came spots (if b then and_then (item Code total spots (code ∷ rest) (Some (code, rest))) (λ s x. walk_vat total s x.1) else and_then (walk_free total 0 spots (code ∷ rest)) (λ s x. On s x.rest))
    (if b then (vat_at rest >>= λ v. Some (Elsewhere v.0, v.1)) else (free_at 0 (code ∷ rest) >>= λ d. Some (To d.value, d.rest)))
unfolding parts_outcome
choice true total spots code rest is =
    let spot : Spot = record { at = total - length (code ∷ rest); part = Code code } in
    further behind Came spots (spots ++ spot ∷ []) (Code code ∷ []) _ _ (map_push (λ (s : Spot). s.part) spots spot)
    (remade behind (λ x ps. ps ≡ Vat x.0 ∷ []) behind _ (spots ++ spot ∷ []) _ _ (λ v. (Elsewhere v.0, v.1)) (λ v. refl) (λ v ps e. rw (e, is refl) refl) (one_says Vat total (spots ++ spot ∷ []) rest (vat_at rest)))
choice false total spots code rest is = to_says total spots (code ∷ rest)

outcome_says : (total : ℕ) (spots : List Spot) (bytes : List ℕ) → Says behind Came spots (walk_outcome total spots bytes) (outcome_at bytes)
unfolding walk_outcome outcome_at
outcome_says total spots [] =
    let to : Says behind Came spots (and_then (walk_free total 0 spots []) (λ s x. On s x.rest)) (free_at 0 [] >>= λ d. Some (To d.value, d.rest)) = to_says total spots [] in
    subst (λ (o : Option (Read Described)). Says behind Came spots (and_then (walk_free total 0 spots []) (λ s x. On s x.rest)) (o >>= λ d. Some (To d.value, d.rest))) none_is_read to
outcome_says total spots (b ∷ rest) = choice (b == 15) total spots b rest (eqb-true b 15)

-- an operation behind its byte
abbrev BehindByte : ℕ → Operation × List ℕ → List Part → Type 0
BehindByte b x ps = Code b ∷ ps ≡ parts_op x.0

message_ends : (front ps qs : List Part) (target : Described) (args : Members) (n : ℕ) → ps ≡ parts_in target → count args ≡ n → qs ≡ parts_all args
    → ps ++ (Other ∷ Number n ∷ (qs ++ [])) ≡ parts_message target args
message_ends front ps qs target args n e c f = rw (e, c, append-nil qs, f) refl

deliver_says : (total : ℕ) (spots : List Spot) (bytes : List ℕ) → Says behind (BehindByte 1) spots (walk_deliver total spots bytes) (deliver_at bytes)
unfolding walk_message walk_deliver deliver_at parts_op
deliver_says total spots bytes =
    one Number behind (BehindByte 1) total spots bytes (unsigned_at bytes) _ _ (λ s question.
    both behind Named behind _ s _ _ _ _ (target_says total s question.1) (λ t target ps e.
    both behind (λ x qs. qs ≡ Other ∷ []) behind _ t _ _ _ _ (text_says total t target.1 (text_at (length target.1) target.1)) (λ u verb os g.
    one Number behind _ total u verb.1 (few_at verb.1) _ _ (λ v count.
    both left_of (AllOf count.0) behind _ v _ _ _ _ (members_say (walk_free total) free_at (free_says total) count.0 0 v count.1) (λ w args qs h.
    (refl, ([], nothing w, rw (g, message_ends ps ps qs target.0 args.value count.0 e h.0 h.1) refl)))))))

deliver_only_says : (total : ℕ) (spots : List Spot) (bytes : List ℕ) → Says behind (BehindByte 6) spots (walk_message total spots bytes) (deliver_only_at bytes)
unfolding walk_message deliver_only_at parts_op
deliver_only_says total spots bytes =
    both behind Named behind (BehindByte 6) spots _ _ _ _ (target_says total spots bytes) (λ t target ps e.
    both behind (λ x qs. qs ≡ Other ∷ []) behind _ t _ _ _ _ (text_says total t target.1 (text_at (length target.1) target.1)) (λ u verb os g.
    one Number behind _ total u verb.1 (few_at verb.1) _ _ (λ v count.
    both left_of (AllOf count.0) behind _ v _ _ _ _ (members_say (walk_free total) free_at (free_says total) count.0 0 v count.1) (λ w args qs h.
    (refl, ([], nothing w, rw (g, message_ends ps ps qs target.0 args.value count.0 e h.0 h.1) refl))))))

resolve_says : (total : ℕ) (spots : List Spot) (bytes : List ℕ) → Says behind (BehindByte 2) spots (walk_resolve total spots bytes) (resolve_at bytes)
unfolding walk_resolve resolve_at parts_op
resolve_says total spots bytes =
    both behind Named behind (BehindByte 2) spots _ _ _ _ (subject_says total spots bytes) (λ s subject ps e.
    remade behind Came behind _ s _ _ (λ to. (Resolve subject.0 to.0, to.1)) (λ to. refl) (λ to qs f. rw (e, f) refl) (outcome_says total s subject.1))

provide_says : (total : ℕ) (spots : List Spot) (bytes : List ℕ) → Says behind (BehindByte 3) spots (walk_provide total spots bytes) (provide_at bytes)
unfolding walk_provide provide_at parts_op
provide_says total spots bytes =
    both behind Named behind (BehindByte 3) spots _ _ _ _ (target_says total spots bytes) (λ s target ps e.
    remade behind (λ x qs. qs ≡ Swiss x.0 ∷ []) behind _ s _ _ (λ x. (Provide target.0 x.0, x.1)) (λ x. refl) (λ x qs f. rw (e, f) refl) (one_says Swiss total s target.1 (swiss_at target.1)))

shorten_says : (total : ℕ) (spots : List Spot) (bytes : List ℕ) → Says behind (BehindByte 5) spots (walk_provide total spots bytes) (shorten_at bytes)
unfolding walk_provide shorten_at parts_op
shorten_says total spots bytes =
    both behind Named behind (BehindByte 5) spots _ _ _ _ (target_says total spots bytes) (λ s subject ps e.
    remade behind (λ x qs. qs ≡ Swiss x.0 ∷ []) behind _ s _ _ (λ x. (Shorten subject.0 x.0, x.1)) (λ x. refl) (λ x qs f. rw (e, f) refl) (one_says Swiss total s subject.1 (swiss_at subject.1)))

accept_says : (total : ℕ) (spots : List Spot) (bytes : List ℕ) → Says behind (BehindByte 4) spots (walk_accept total spots bytes) (accept_at bytes)
unfolding walk_accept accept_at parts_op
accept_says total spots bytes =
    one Number behind (BehindByte 4) total spots bytes (unsigned_at bytes) _ _ (λ s question.
    both behind (λ x ps. ps ≡ Vat x.0 ∷ []) behind _ s _ _ _ _ (one_says Vat total s question.1 (vat_at question.1)) (λ t provider ps e.
    remade behind (λ x qs. qs ≡ Swiss x.0 ∷ []) behind _ t _ _ (λ x. (Accept question.0 provider.0 x.0, x.1)) (λ x. refl) (λ x qs f. rw (e, f) refl) (one_says Swiss total t provider.1 (swiss_at provider.1))))

-- ---- the byte of an operation

abbrev pub Said : Operation × List ℕ → List Part → Type 0
Said x ps = ps ≡ parts_op x.0

abbrev Op_says : ℕ → List Spot → ℕ → List ℕ → Type 0
Op_says total spots b rest = Says behind Said spots (walk_op total spots (b ∷ rest)) (op_at (b ∷ rest))

op_opened : (total : ℕ) (spots : List Spot) (bytes : List ℕ) (b : ℕ) (w : Walk (List ℕ)) (o : Option (Operation × List ℕ))
    → Says behind (BehindByte b) (spots ++ record { at = total - length bytes; part = Code b } ∷ []) w o → Says behind Said spots w o
op_opened total spots bytes b w o h =
    let spot : Spot = record { at = total - length bytes; part = Code b } in
    further behind Said spots (spots ++ spot ∷ []) (Code b ∷ []) w o (map_push (λ (s : Spot). s.part) spots spot) h

is_no_op : (b : ℕ) → (b ≡ 1 → ⊥) → (b ≡ 2 → ⊥) → (b ≡ 3 → ⊥) → (b ≡ 4 → ⊥) → (b ≡ 5 → ⊥) → (b ≡ 6 → ⊥) → is_op b ≡ false
is_no_op b n1 n2 n3 n4 n5 n6 = by (ltb 0 b) (ltb b 7) refl refl
  where
    by : (c d : Bool) → ltb 0 b ≡ c → ltb b 7 ≡ d → (c && d) ≡ false
    by true true e f = absurd (omega (arith, ltb-true 0 b e, ltb-true b 7 f, n1, n2, n3, n4, n5, n6))
    by true false e f = refl
    by false d e f = refl

no_op : (total : ℕ) (spots : List Spot) (b : ℕ) (rest : List ℕ) → (b ≡ 1 → ⊥) → (b ≡ 2 → ⊥) → (b ≡ 3 → ⊥) → (b ≡ 4 → ⊥) → (b ≡ 5 → ⊥) → (b ≡ 6 → ⊥) → Op_says total spots b rest
unfolding walk_op op_at
no_op total spots b rest n1 n2 n3 n4 n5 n6 = rw (is_no_op b n1 n2 n3 n4 n5 n6, ne_eqb b 1 n1, ne_eqb b 2 n2, ne_eqb b 3 n3, ne_eqb b 4 n4, ne_eqb b 5 n5, ne_eqb b 6 n6) tt

op_1 : (total : ℕ) (spots : List Spot) (rest : List ℕ) → Op_says total spots 1 rest
unfolding walk_op op_at
op_1 total spots rest = op_opened total spots (1 ∷ rest) 1 _ _ (deliver_says total _ rest)

op_2 : (total : ℕ) (spots : List Spot) (rest : List ℕ) → Op_says total spots 2 rest
unfolding walk_op op_at
op_2 total spots rest = op_opened total spots (2 ∷ rest) 2 _ _ (resolve_says total _ rest)

op_3 : (total : ℕ) (spots : List Spot) (rest : List ℕ) → Op_says total spots 3 rest
unfolding walk_op op_at
op_3 total spots rest = op_opened total spots (3 ∷ rest) 3 _ _ (provide_says total _ rest)

op_4 : (total : ℕ) (spots : List Spot) (rest : List ℕ) → Op_says total spots 4 rest
unfolding walk_op op_at
op_4 total spots rest = op_opened total spots (4 ∷ rest) 4 _ _ (accept_says total _ rest)

op_5 : (total : ℕ) (spots : List Spot) (rest : List ℕ) → Op_says total spots 5 rest
unfolding walk_op op_at
op_5 total spots rest = op_opened total spots (5 ∷ rest) 5 _ _ (shorten_says total _ rest)

op_6 : (total : ℕ) (spots : List Spot) (rest : List ℕ) → Op_says total spots 6 rest
unfolding walk_op op_at
op_6 total spots rest = op_opened total spots (6 ∷ rest) 6 _ _ (deliver_only_says total _ rest)

test : (b k : ℕ) → (b ≡ k) ⊎ (b ≡ k → ⊥)
test b k = by (nat_eq b k) refl
  where
    by : (c : Bool) → nat_eq b k ≡ c → (b ≡ k) ⊎ (b ≡ k → ⊥)
    by true e = inl (eqb-true b k e)
    by false e = inr (eqb-false b k e)

op_begins : (total : ℕ) (spots : List Spot) (b : ℕ) (rest : List ℕ) → Op_says total spots b rest
op_begins total spots b rest =
    let at : (k : ℕ) → Op_says total spots k rest → b ≡ k → Op_says total spots b rest = λ k h e. subst (λ (c : ℕ). Op_says total spots c rest) (sym e) h in
    ⊎_elim (at 1 (op_1 total spots rest))
    (λ n1. ⊎_elim (at 2 (op_2 total spots rest))
    (λ n2. ⊎_elim (at 3 (op_3 total spots rest))
    (λ n3. ⊎_elim (at 4 (op_4 total spots rest))
    (λ n4. ⊎_elim (at 5 (op_5 total spots rest))
    (λ n5. ⊎_elim (at 6 (op_6 total spots rest))
    (λ n6. no_op total spots b rest n1 n2 n3 n4 n5 n6)
    (test b 6)) (test b 5)) (test b 4)) (test b 3)) (test b 2)) (test b 1)

nothing_says : (total : ℕ) (spots : List Spot) → Says behind Said spots (walk_op total spots []) (op_at [])
unfolding walk_op op_at
nothing_says total spots = tt

pub op_says : (total : ℕ) (spots : List Spot) (bytes : List ℕ) → Says behind Said spots (walk_op total spots bytes) (op_at bytes)
op_says total spots [] = nothing_says total spots
op_says total spots (b ∷ rest) = op_begins total spots b rest
