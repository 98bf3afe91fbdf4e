-- Which data holds no name is told of a list as it is made, and so the machine finds it, part by part.
use Rattle.std.proofs.Common.{◌≡◌, ℕ, zero, suc, ◌+◌, nat_le, ◌&&◌, Bool, true, false, List, [], ◌∷◌, Option, Some, length, map, fold, refl, sym, ap, ◌∙◌, arith}
use Rattle.std.specs.Prelude.{slice_get, option_map, unwrap_or, max, nat_lt}
use Rattle.std.proofs.lemmas.Bool.Decides.{nat_tests}
use Rattle.ev_base.specs.declared.values.Value.{Value as Held}
use Rattle.ev_base.specs.declared.values.Value.TheVariants as held
use Rattle.ev_heap.specs.Contents.{Contents, height_of, height_in, is_plain, are_plain, plain_in}
use Rattle.ev_heap.specs.declared.kept.Listed.{Listed}
use Rattle.def_machine.specs.Values.{Value, Local, Items}
use Rattle.def_machine.specs.Native.{list_at}
use Rattle.def_machine.specs.Scopes as scopes
use Rattle.ev_prims.proofs.Means.{lists_are}
use Rattle.ev_room.specs.Reading.{World, text_of, value_of, values_of, members_of}
use Rattle.ev_room.specs.Sound.{Each, IsListed, is_there, are_there}
use Rattle.ev_room.proofs.Cells.{stands_at}
use Rattle.ev_room.proofs.There.{both, below}
use Rattle.law_evaluation.proofs.Acts.Weights.{most_from, none_max}

-- plain, and within so much height
abbrev within : Contents → ℕ → Held → Bool
within h d v = is_plain h v && nat_le (height_of h v) d

none_high : (p : Bool) → (p && nat_le 0 0) ≡ p
none_high true = refl
none_high false = refl

low : (p : Bool) (d : ℕ) → p ≡ (p && nat_le 0 d)
low p d = grind (arith, nat_tests)

-- a first part and others, within a height
joined : (p q : Bool) (m n d : ℕ) → ((p && nat_le m d) && (q && nat_le n d)) ≡ ((p && q) && nat_le (max m n) d)
joined true true m n d = grind (arith, nat_tests)
joined true false m n d = refl_false (nat_le m d)
  where
    refl_false : (b : Bool) → (b && false) ≡ false
    refl_false true = refl
    refl_false false = refl
joined false q m n d = refl

chosen : (b c d : Bool) → b ≡ c → elim b [ true ↦ d | false ↦ false ] ≡ (c && d)
chosen true true d e = refl
chosen false false d e = refl
chosen true false d e = absurd (cc)
chosen false true d e = absurd (cc)

raised : (p : Bool) (n d : ℕ) → (p && nat_le n d) ≡ (p && nat_le (n + 1) (suc d))
raised p n d = grind (arith, nat_tests)

too_high : (p : Bool) (n : ℕ) → false ≡ (p && nat_le (n + 1) 0)
too_high p n = grind (arith, nat_tests)

module _ (w : World) (h : Contents) (sound : Each (IsListed h) h.lists) where
  abbrev lists : List (List (Value Local))
  lists = map (members_of w) h.lists

  abbrev IsWithin : ℕ → Type 0
  IsWithin d = (v : Held) → is_there h v ≡ true → scopes.is_plain d lists (value_of w v) ≡ within h d v

  abbrev top : List Held → ℕ
  top vs = fold (λ x v. max x (height_of h v)) 0 vs

  top_more : (v : Held) (vs : List Held) → top (v ∷ vs) ≡ max (height_of h v) (top vs)
  top_more v vs = most_from (height_of h) (max 0 (height_of h v)) vs ∙ ap (λ (m : ℕ). max m (top vs)) (none_max (height_of h v))

  all_within : (d : ℕ) → IsWithin d → (vs : List Held) → are_there h vs ≡ true → scopes.all_plain (λ x. scopes.is_plain d lists x) (values_of w vs) ≡ (are_plain h vs && nat_le (top vs) d)
  unfolding scopes.all_plain
  all_within d each [] t = low true d
  all_within d each (v ∷ vs) t =
      let s = both (is_there h v) (are_there h vs) t in
      chosen (scopes.is_plain d lists (value_of w v)) (within h d v) (scopes.all_plain (λ x. scopes.is_plain d lists x) (values_of w vs)) (each v s.0)
      ∙ ap (λ (b : Bool). within h d v && b) (all_within d each vs s.1)
      ∙ joined (is_plain h v) (are_plain h vs) (height_of h v) (top vs) d
      ∙ ap (λ (n : ℕ). are_plain h (v ∷ vs) && nat_le n d) (sym (top_more v vs))

  listed_of : (id : ℕ) → nat_lt id (length h.lists) ≡ true → (l : Listed) × ((slice_get h.lists id ≡ Some l) × IsListed h l)
  listed_of id t =
      let p = stands_at h.lists id (below id (length h.lists) t) in
      (p.0, (p.1, sound id p.0 p.1))

  members_are : (id : ℕ) (l : Listed) → slice_get h.lists id ≡ Some l → list_at lists id ≡ values_of w l.members
  members_are id l e = lists_are (text_of w) h.lists id ∙ ap (λ (o : Option Listed). values_of w (unwrap_or (option_map (λ (m : Listed). m.members) o) [])) e

  plain_is : (id : ℕ) (l : Listed) → slice_get h.lists id ≡ Some l → IsListed h l → is_plain h (held.List id) ≡ are_plain h l.members
  plain_is id l e s = ap plain_in e ∙ ap (λ (m : Listed). m.plain) s.0

  height_is : (id : ℕ) (l : Listed) → slice_get h.lists id ≡ Some l → IsListed h l → height_of h (held.List id) ≡ top l.members + 1
  height_is id l e s = ap height_in e ∙ ap (λ (m : Listed). m.height) s.0

  lowest : (id : ℕ) → nat_lt id (length h.lists) ≡ true → scopes.is_plain zero lists (Items id) ≡ within h zero (held.List id)
  unfolding scopes.is_plain scopes.plain_by
  lowest id t =
      let l = listed_of id t in
      too_high (is_plain h (held.List id)) (top l.0.members) ∙ ap (λ (n : ℕ). is_plain h (held.List id) && nat_le n zero) (sym (height_is id l.0 l.1.0 l.1.1))

  round : (d id : ℕ) → IsWithin d → nat_lt id (length h.lists) ≡ true → scopes.is_plain (suc d) lists (Items id) ≡ within h (suc d) (held.List id)
  unfolding scopes.is_plain scopes.plain_by
  round d id each t =
      let l = listed_of id t in
      ap (λ (vs : List (Value Local)). scopes.all_plain (λ x. scopes.is_plain d lists x) vs) (members_are id l.0 l.1.0)
      ∙ all_within d each l.0.members l.1.1.1
      ∙ raised (are_plain h l.0.members) (top l.0.members) d
      ∙ ap (λ (b : Bool). b && nat_le (top l.0.members + 1) (suc d)) (sym (plain_is id l.0 l.1.0 l.1.1))
      ∙ ap (λ (n : ℕ). is_plain h (held.List id) && nat_le n (suc d)) (sym (height_is id l.0 l.1.0 l.1.1))

  pub plain_within : (d : ℕ) → IsWithin d
  unfolding scopes.is_plain scopes.plain_by
  plain_within zero (held.List id) t = lowest id t
  plain_within (suc d) (held.List id) t = round d id (plain_within d) t
  plain_within zero (held.Obj i) t = refl
  plain_within (suc d) (held.Obj i) t = refl
  plain_within zero (held.Prom k) t = refl
  plain_within zero (held.Far v p) t = refl
  plain_within (suc d) (held.Prom k) t = refl
  plain_within (suc d) (held.Far v p) t = refl
  plain_within zero other t = low true 0
  plain_within (suc d) other t = low true (suc d)
