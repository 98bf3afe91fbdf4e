-- One seed more.
use Rattle.std.specs.Prelude.{◌≡◌, ◌+◌, ◌-◌, ℕ, List, [], ◌∷◌, ◌++◌, length, Option, Some, slice_get}
use Rattle.std.proofs.Common.{arith, sym, ◌∙◌, ap, subst, ⊎_elim}
use Rattle.std.proofs.lemmas.List.{length-append}
use Rattle.std.proofs.lemmas.Option.{slice_get_within}
use Rattle.ev_base.specs.declared.names.Msg.{Msg}
use Rattle.ev_order.specs.declared.mentions.Mention.{Mention}
use Rattle.ev_order.specs.declared.spread.Place.{Place}
use Rattle.ev_order.specs.Mentions.{MentionList}
use Rattle.ev_order.specs.Judge.{IsUntaken, IsTakenSeed, IsRanked}
use Rattle.ev_order.proofs.Lists.{get_either}

-- one entry stands at a number
pub same_entry : (list : MentionList) (n : ℕ) (m l : Msg) (s t : Mention) → slice_get list n ≡ Some (m, s) → slice_get list n ≡ Some (l, t) → (m ≡ l) × (s ≡ t)
same_entry list n m l s t h k =
    let two : Some (m, s) ≡ Some (l, t) = sym h ∙ k in
    let pair : (m, s) ≡ (l, t) = cc in
    (ap (λ (p : Msg × Mention). p.0) pair, ap (λ (p : Msg × Mention). p.1) pair)

module _ (places : List Place) (sent taken : MentionList) where
  pub ranks_first : (seeds : List (Option ℕ)) (a : ℕ) (o : Option ℕ) → IsRanked places sent taken seeds a 0 → ((m : Msg) (s : Mention) → slice_get sent a ≡ Some (m, s) → IsUntaken places taken m s o) → IsRanked places sent taken (seeds ++ o ∷ []) (a + 1) 0
  ranks_first seeds a o r new = record {
    size = omega (arith, length-append seeds (o ∷ []), r.size);
    first = λ n m s p less at got. ⊎_elim
        (λ (old : slice_get seeds n ≡ Some p). r.first n m s p (omega (arith, slice_get_within seeds n p old, r.size)) at old)
        (λ (is : (n ≡ length seeds) × (p ≡ o)).
        let here : n ≡ a = omega (arith, is.0, r.size) in
        subst (IsUntaken places taken m s) (sym is.1) (new m s (sym (ap (slice_get sent) here) ∙ at)))
        (get_either seeds o n p got);
    second = λ n m t p less at got. absurd (omega (arith, less));
  }

  pub ranks_second : (seeds : List (Option ℕ)) (a b : ℕ) (o : Option ℕ) → IsRanked places sent taken seeds a b → ((m : Msg) (t : Mention) → slice_get taken (length taken - 1 - b) ≡ Some (m, t) → IsTakenSeed places sent m o) → IsRanked places sent taken (seeds ++ o ∷ []) a (b + 1)
  ranks_second seeds a b o r new = record {
    size = omega (arith, length-append seeds (o ∷ []), r.size);
    first = λ n m s p less at got. ⊎_elim
        (λ (old : slice_get seeds n ≡ Some p). r.first n m s p less at old)
        (λ (is : (n ≡ length seeds) × (p ≡ o)). absurd (omega (arith, is.0, r.size, less)))
        (get_either seeds o n p got);
    second = λ n m t p less at got. ⊎_elim
        (λ (old : slice_get seeds (a + n) ≡ Some p). r.second n m t p (omega (arith, slice_get_within seeds (a + n) p old, r.size)) at old)
        (λ (is : (a + n ≡ length seeds) × (p ≡ o)).
        let here : n ≡ b = omega (arith, is.0, r.size) in
        subst (IsTakenSeed places sent m) (sym is.1) (new m t (sym (ap (λ (k : ℕ). slice_get taken (length taken - 1 - k)) here) ∙ at)))
        (get_either seeds o (a + n) p got);
  }

pub ranks_on : (places : List Place) (sent taken : MentionList) (seeds : List (Option ℕ)) (a b : ℕ) → a ≡ b → IsRanked places sent taken seeds a 0 → IsRanked places sent taken seeds b 0
ranks_on places sent taken seeds a b e r = subst (λ (k : ℕ). IsRanked places sent taken seeds k 0) e r
