-- Spelling descriptions one after the other, as a loop does.
use Rattle.std.proofs.Common.{◌≡◌, ℕ, ◌+◌, ◌<◌, List, [], ◌∷◌, ◌++◌, length, map, take, get_or, refl, sym, ap, ◌∙◌, append_assoc, arith}
use Rattle.std.proofs.lemmas.List.{map_push, append-nil, take_more}
use Rattle.def_op.specs.declared.op.Desc.{Desc}
use Rattle.def_op.specs.Frames.{Described, Members, none, more, members, count, desc_bytes, members_bytes}
use Rattle.def_op.specs.Views.{described, all_described}
use Rattle.ev_op.proofs.Loop.{join, members-push}

pub count-members : (ds : List Described) → count (members ds) ≡ length ds
unfolding count
count-members [] = refl
count-members (d ∷ ds) = omega (arith, count-members ds)

pub count_members : (ds : List Desc) → count (all_described ds) ≡ length ds
unfolding count
count_members [] = refl
count_members (d ∷ ds) = omega (arith, count_members ds)

pub members_bytes-join : (front back : Members) → members_bytes (join front back) ≡ members_bytes front ++ members_bytes back
unfolding members_bytes
members_bytes-join none back = refl
members_bytes-join (more d front) back =
    ap (λ (bs : List ℕ). desc_bytes d ++ bs) (members_bytes-join front back) ∙ sym (append_assoc (desc_bytes d) (members_bytes front) (members_bytes back))

pub one_more : (ds : List Desc) (i : ℕ) (d : Desc) → i < length ds → d ≡ get_or ds i d
    → members_bytes (all_described (take (i + 1) ds)) ≡ members_bytes (all_described (take i ds)) ++ desc_bytes (described d)
unfolding members_bytes
one_more ds i d lt at =
    let front = take i ds in
    let e : take (i + 1) ds ≡ front ++ d ∷ [] = take_more ds i d lt ∙ ap (λ (x : Desc). front ++ x ∷ []) (sym at) in
    let f : all_described (take (i + 1) ds) ≡ join (all_described front) (more (described d) none) =
    ap all_described e ∙ ap members (map_push described front d) ∙ members-push (map described front) (described d) in
    ap members_bytes f ∙ members_bytes-join (all_described front) (more (described d) none) ∙ ap (λ (bs : List ℕ). members_bytes (all_described front) ++ bs) (append-nil (desc_bytes (described d)))

-- six parts put one behind the other
pub put_four : (old a b c d : List ℕ) → (((old ++ a) ++ b) ++ c) ++ d ≡ old ++ (a ++ (b ++ (c ++ d)))
put_four old a b c d = simp append_assoc
