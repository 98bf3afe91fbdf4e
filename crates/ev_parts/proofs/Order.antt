-- The items of a frame stand in order, before the place where the walk is.
use Rattle.std.proofs.Common.{◌≡◌, ℕ, zero, suc, ◌-◌, ◌<◌, ◌≤◌, Bool, true, false, cond, nat_eq, List, [], ◌∷◌, ◌++◌, length, Option, Some, None, refl, sym, subst, arith}
use Rattle.std.specs.Prelude.{Result, Ok, Err, IfOk}
use Rattle.std.proofs.lemmas.List.Quantifiers.{all_pairs_push}
use Rattle.std.proofs.lemmas.List.Elements.{All-push}
use Rattle.ev_base.specs.declared.memory.Memory.{Memory}
use Rattle.def_op.specs.declared.kind.Kind.{Kind}
use Rattle.def_op.specs.declared.kind.Kind.TheVariants as kind
use Rattle.def_op.specs.Reading.{unsigned_at, signed_at, swiss_at, vat_at, primitive_at, character_at, few_at, byte_where, is_list, free_room}
use Rattle.def_op.specs.Numbers.{is_primitive}
use Rattle.def_op.specs.declared.spots.Part.{Part}
use Rattle.def_op.specs.declared.spots.Part.TheVariants.{Code, Number, Vat, Swiss, Other}
use Rattle.def_op.specs.declared.spots.Spot.{Spot}
use Rattle.def_op.specs.declared.spots.Parts.{Parts}
use Rattle.def_op.specs.Items.{Walk, On, Off, and_then, item, code, Left, text_len_at, walk_leaf, opening_at, walk_members, walk_list, no_walk, walk_first, walk_desc, walk_free, kind_where, is_target, is_subject, walk_named, walk_swiss, walk_vat, walk_text, walk_outcome, walk_message, walk_deliver, walk_resolve, walk_provide, walk_accept, is_op, walk_op, parts_of, items_of}
use Rattle.ev_parts.specs.Whole.{AreInOrder, place_of}
use Rattle.ev_parts.proofs.Shorter.{Under, unsigned_shorter, signed_shorter, swiss_shorter, byte_shorter, few_shorter, character_shorter, text_len_shorter, opening_shorter, named_shorter}

one_more : (spots : List Spot) (at next : ℕ) (part : Part) → AreInOrder spots at → at < next → AreInOrder (spots ++ record { at = at; part = part } ∷ []) next
one_more spots at next part h lt =
    let spot : Spot = record { at = at; part = part } in
    (all_pairs_push (λ a b. a.at < b.at) spots spot h.0 h.1, All-push (λ s. s.at < next) spots spot (λ k d l. omega (arith, h.1 k d l, lt)) lt)

-- the items so far lie before the bytes that are left, or before the place of the first that is not allowed
abbrev Keeps : {A : Type 0} → (A → List ℕ) → ℕ → Walk A → Type 0
Keeps rest total (On spots x) = AreInOrder spots (total - length (rest x)) × (length (rest x) ≤ total)
Keeps rest total (Off spots place) = AreInOrder spots place × (place ≤ total)

-- where a walk may begin
abbrev Stands : ℕ → List Spot → List ℕ → Type 0
Stands total spots bytes = AreInOrder spots (total - length bytes) × (length bytes ≤ total)

both : {A B : Type 0} (rest : A → List ℕ) (after : B → List ℕ) (total : ℕ) (w : Walk A) (f : List Spot → A → Walk B) → Keeps rest total w
    → ((spots : List Spot) (x : A) → Stands total spots (rest x) → Keeps after total (f spots x)) → Keeps after total (and_then w f)
both rest after total (On spots x) f h k = k spots x h
both rest after total (Off spots place) f h k = h

either : {A : Type 0} (rest : A → List ℕ) (total : ℕ) (b : Bool) (v w : Walk A) → Keeps rest total v → Keeps rest total w → Keeps rest total (cond b v w)
either rest total true v w g h = g
either rest total false v w g h = h

abbrev behind : {A : Type 0} → A × List ℕ → List ℕ
behind x = x.1

itemed : {A : Type 0} (part : A → Part) (total : ℕ) (spots : List Spot) (bytes : List ℕ) (o : Option (A × List ℕ)) → Stands total spots bytes → Under (length bytes) o → Keeps behind total (item part total spots bytes o)
itemed part total spots bytes (Some x) h u = (one_more spots (total - length bytes) (total - length x.1) (part x.0) h.0 (omega (arith, h.1, u)), omega (arith, h.1, u))
itemed part total spots bytes None h u = (h.0, omega arith)

-- an item, and what it leaves
one_item : {A B : Type 0} (part : A → Part) (after : B → List ℕ) (total : ℕ) (spots : List Spot) (bytes : List ℕ) (o : Option (A × List ℕ)) (f : List Spot → A × List ℕ → Walk B)
    → Stands total spots bytes → Under (length bytes) o → ((s : List Spot) (x : A × List ℕ) → Stands total s x.1 → Keeps after total (f s x)) → Keeps after total (and_then (item part total spots bytes o) f)
one_item part after total spots bytes o f h u k = both behind after total (item part total spots bytes o) f (itemed part total spots bytes o h u) k

abbrev rest_of : Left → List ℕ
rest_of x = x.rest

vat_shorter : (bytes : List ℕ) → Under (length bytes) (vat_at bytes)
vat_shorter bytes = byte_shorter _ bytes

leaf_keeps : (total : ℕ) (k : Kind) (room : ℕ) (spots : List Spot) (bytes : List ℕ) → Stands total spots bytes → Keeps rest_of total (walk_leaf total k room spots bytes)
unfolding walk_leaf
leaf_keeps total kind.Null room spots bytes h = h
leaf_keeps total kind.False room spots bytes h = h
leaf_keeps total kind.True room spots bytes h = h
leaf_keeps total kind.List room spots bytes h = h
leaf_keeps total kind.Integer room spots bytes h = one_item (λ _. Other) rest_of total spots bytes (signed_at bytes) _ h (signed_shorter bytes) (λ s x g. g)
leaf_keeps total kind.Character room spots bytes h = one_item Number rest_of total spots bytes (character_at bytes) _ h (character_shorter bytes) (λ s x g. g)
leaf_keeps total kind.Text room spots bytes h = one_item (λ _. Other) rest_of total spots bytes (text_len_at room bytes) _ h (text_len_shorter room bytes) (λ s x g. g)
leaf_keeps total kind.Primitive room spots bytes h = one_item Number rest_of total spots bytes (primitive_at bytes) _ h (byte_shorter is_primitive bytes) (λ s x g. g)
leaf_keeps total kind.Broken room spots bytes h = one_item (λ _. Other) rest_of total spots bytes (text_len_at room bytes) _ h (text_len_shorter room bytes) (λ s x g. g)
leaf_keeps total kind.Third room spots bytes h =
    one_item Vat rest_of total spots bytes (vat_at bytes) _ h (vat_shorter bytes) (λ s x g. one_item Swiss rest_of total s x.1 (swiss_at x.1) _ g (swiss_shorter x.1) (λ t y i. i))
leaf_keeps total k room spots bytes h = one_item Number rest_of total spots bytes (unsigned_at bytes) _ h (unsigned_shorter bytes) (λ s x g. g)

abbrev KeepsOrder : ℕ → (ℕ → List Spot → List ℕ → Walk Left) → Type 0
KeepsOrder total one = (room : ℕ) (spots : List Spot) (bytes : List ℕ) → Stands total spots bytes → Keeps rest_of total (one room spots bytes)

members_keep : (total : ℕ) (one : ℕ → List Spot → List ℕ → Walk Left) → KeepsOrder total one → (n : ℕ) → KeepsOrder total (walk_members one n)
unfolding walk_members
members_keep total one keeps zero room spots bytes h = h
members_keep total one keeps (suc n) room spots bytes h =
    both rest_of rest_of total (one room spots bytes) _ (keeps room spots bytes h) (λ s x g. members_keep total one keeps n x.room s x.rest g)

list_keeps : (total : ℕ) (one : ℕ → List Spot → List ℕ → Walk Left) → KeepsOrder total one → KeepsOrder total (walk_list total one)
unfolding walk_list
list_keeps total one keeps room spots bytes h =
    one_item Number rest_of total spots bytes (unsigned_at bytes) _ h (unsigned_shorter bytes) (λ s n g. members_keep total one keeps n.0 room s n.1 g)

first_keeps : (total height : ℕ) (lists : ℕ → List Spot → List ℕ → Walk Left) → KeepsOrder total lists → KeepsOrder total (walk_first total height lists)
unfolding walk_first
first_keeps total height lists keeps room spots bytes h =
    one_item (λ k. Code (code k)) rest_of total spots bytes (opening_at height room bytes) _ h (opening_shorter height room bytes)
    (λ s k g. either rest_of total (is_list k.0) _ _ (keeps (room - 1) s k.1 g) (leaf_keeps total k.0 (room - 1) s k.1 g))

desc_keeps : (total height : ℕ) → KeepsOrder total (walk_desc total height)
unfolding walk_desc
desc_keeps total zero = first_keeps total zero no_walk (λ room spots bytes h. h)
desc_keeps total (suc height) = first_keeps total (suc height) (walk_list total (walk_desc total height)) (list_keeps total (walk_desc total height) (desc_keeps total height))

free_keeps : (total : ℕ) → KeepsOrder total (walk_free total)
unfolding walk_free
free_keeps total room spots bytes h = both rest_of rest_of total (walk_desc total 100 (free_room bytes) spots bytes) _ (desc_keeps total 100 (free_room bytes) spots bytes h) (λ s x g. g)

-- ---- operations

abbrev all : List ℕ → List ℕ
all bytes = bytes

named_keeps : (test : Kind → Bool) (total : ℕ) (spots : List Spot) (bytes : List ℕ) → Stands total spots bytes → Keeps all total (walk_named test total spots bytes)
unfolding walk_named
named_keeps test total spots bytes h =
    one_item (λ k. Code (code k)) all total spots bytes (kind_where test bytes) _ h (named_shorter test bytes)
    (λ s k g. one_item Number all total s k.1 (unsigned_at k.1) _ g (unsigned_shorter k.1) (λ t n i. i))

swiss_keeps : (total : ℕ) (spots : List Spot) (bytes : List ℕ) → Stands total spots bytes → Keeps all total (walk_swiss total spots bytes)
swiss_keeps total spots bytes h = one_item Swiss all total spots bytes (swiss_at bytes) _ h (swiss_shorter bytes) (λ s x g. g)

vat_keeps : (total : ℕ) (spots : List Spot) (bytes : List ℕ) → Stands total spots bytes → Keeps all total (walk_vat total spots bytes)
vat_keeps total spots bytes h = one_item Vat all total spots bytes (vat_at bytes) _ h (vat_shorter bytes) (λ s x g. g)

to_keeps : (total : ℕ) (spots : List Spot) (bytes : List ℕ) → Stands total spots bytes → Keeps all total (and_then (walk_free total 0 spots bytes) (λ s x. On s x.rest))
to_keeps total spots bytes h = both rest_of all total (walk_free total 0 spots bytes) _ (free_keeps total 0 spots bytes h) (λ s x g. g)

outcome_keeps : (total : ℕ) (spots : List Spot) (bytes : List ℕ) → Stands total spots bytes → Keeps all total (walk_outcome total spots bytes)
unfolding walk_outcome
outcome_keeps total spots [] h = to_keeps total spots [] h
outcome_keeps total spots (b ∷ rest) h =
    either all total (nat_eq b 15) _ _
    (one_item Code all total spots (b ∷ rest) (Some (b, rest)) _ h (omega arith) (λ s x g. vat_keeps total s x.1 g))
    (to_keeps total spots (b ∷ rest) h)

message_keeps : (total : ℕ) (spots : List Spot) (bytes : List ℕ) → Stands total spots bytes → Keeps all total (walk_message total spots bytes)
unfolding walk_message
message_keeps total spots bytes h =
    both all all total (walk_named is_target total spots bytes) _ (named_keeps is_target total spots bytes h) (λ t target i.
    both all all total (walk_text total t target) _ (one_item (λ _. Other) all total t target (text_len_at (length target) target) _ i (text_len_shorter (length target) target) (λ u x j. j)) (λ u verb j.
    one_item Number all total u verb (few_at verb) _ j (few_shorter verb) (λ v count k.
    both rest_of all total (walk_members (walk_free total) count.0 0 v count.1) _ (members_keep total (walk_free total) (free_keeps total) count.0 0 v count.1 k) (λ w args l. l))))

deliver_keeps : (total : ℕ) (spots : List Spot) (bytes : List ℕ) → Stands total spots bytes → Keeps all total (walk_deliver total spots bytes)
unfolding walk_deliver
deliver_keeps total spots bytes h = one_item Number all total spots bytes (unsigned_at bytes) _ h (unsigned_shorter bytes) (λ s question g. message_keeps total s question.1 g)

resolve_keeps : (total : ℕ) (spots : List Spot) (bytes : List ℕ) → Stands total spots bytes → Keeps all total (walk_resolve total spots bytes)
unfolding walk_resolve
resolve_keeps total spots bytes h = both all all total (walk_named is_subject total spots bytes) _ (named_keeps is_subject total spots bytes h) (λ s subject g. outcome_keeps total s subject g)

provide_keeps : (total : ℕ) (spots : List Spot) (bytes : List ℕ) → Stands total spots bytes → Keeps all total (walk_provide total spots bytes)
unfolding walk_provide
provide_keeps total spots bytes h = both all all total (walk_named is_target total spots bytes) _ (named_keeps is_target total spots bytes h) (λ s target g. swiss_keeps total s target g)

accept_keeps : (total : ℕ) (spots : List Spot) (bytes : List ℕ) → Stands total spots bytes → Keeps all total (walk_accept total spots bytes)
unfolding walk_accept
accept_keeps total spots bytes h =
    one_item Number all total spots bytes (unsigned_at bytes) _ h (unsigned_shorter bytes) (λ s question g.
    both all all total (walk_vat total s question.1) _ (vat_keeps total s question.1 g) (λ t provider i. swiss_keeps total t provider i))

op_keeps : (total : ℕ) (spots : List Spot) (bytes : List ℕ) → Stands total spots bytes → Keeps all total (walk_op total spots bytes)
unfolding walk_op
op_keeps total spots bytes h =
    one_item Code all total spots bytes (byte_where is_op bytes) _ h (byte_shorter is_op bytes) (λ s b g.
    either all total (nat_eq b.0 1) _ _ (deliver_keeps total s b.1 g)
    (either all total (nat_eq b.0 2) _ _ (resolve_keeps total s b.1 g)
    (either all total (nat_eq b.0 4) _ _ (accept_keeps total s b.1 g)
    (either all total (nat_eq b.0 6) _ _ (message_keeps total s b.1 g) (provide_keeps total s b.1 g)))))

-- ---- the items

-- in order before the stop, or before the end
abbrev Lie : List ℕ → Parts → Type 0
Lie bytes parts = AreInOrder parts.spots (place_of parts (length bytes)) × (place_of parts (length bytes) ≤ length bytes)

over : (spots : List Spot) (bytes rest : List ℕ) (b : Bool) → nat_eq (length rest) 0 ≡ b → Stands (length bytes) spots rest
    → Lie bytes (record { spots = spots; stop = cond b None (Some (length bytes - length rest)) })
over spots bytes rest true e h = ((h.0.0, λ k d l. omega (arith, h.0.1 k d l)), omega arith)
over spots bytes rest false e h = (h.0, omega arith)

ended : (bytes : List ℕ) (w : Walk (List ℕ)) → Keeps all (length bytes) w → Lie bytes (parts_of bytes w)
ended bytes (On spots rest) h = over spots bytes rest (nat_eq (length rest) 0) refl h
ended bytes (Off spots place) h = h

starts : (bytes : List ℕ) → Stands (length bytes) [] bytes
starts bytes = ((λ i j d lt l. absurd (omega (arith, l)), λ k d l. absurd (omega (arith, l))), omega arith)

pub lie_in_order : (bytes : List ℕ) (r : Result Parts Memory) → IfOk r (λ p. p ≡ items_of bytes) → IfOk r (Lie bytes)
lie_in_order bytes (Ok p) e = subst (Lie bytes) (sym e) (ended bytes (walk_op (length bytes) [] bytes) (op_keeps (length bytes) [] bytes (starts bytes)))
lie_in_order bytes (Err m) e = tt
