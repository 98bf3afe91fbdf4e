-- A form is built item by item.
use Rattle.std.proofs.Common.{◌≡◌, ℕ, zero, suc, ◌+◌, Bool, true, false, List, [], ◌∷◌, Some, None, Ok, Err, length, drop, refl, sym, ap, subst, ◌∙◌, arith, add-one}
use Rattle.std.specs.Prelude.{Result, ◌==◌, slice_get}
use Rattle.std.proofs.lemmas.Bool.Decides.{nat_tests}
use Rattle.ev_base.specs.declared.values.Value.{Value}
use Rattle.ev_kernel_printer.specs.declared.items.Item.{Item}
use Rattle.ev_kernel_printer.specs.Items.{item_in, items_in}
use Rattle.def_kernel.specs.declared.node.Node.{Node}
use Rattle.def_machine.specs.Form as form
use Rattle.ev_pass.specs.declared.interior.Interior.{Interior as Room}
use Rattle.ev_room.specs.declared.exit.Exit.{Exit}
use Rattle.ev_room.specs.declared.exit.Exit.TheVariants.{Astray}
use Rattle.ev_room.specs.Acts.{Out, Unless, Gives, ◌>>=◌, and_then, give, fail}
use Rattle.ev_room.specs.Forms.{Forms, build, build_item, build_on, is_last, object_form}
use Rattle.ev_room.proofs.Exits.{unless_as}
use Rattle.ev_room.proofs.Places.{drop_none, drop_some}

same_by : (a b : ℕ) (c : Bool) → (a == b) ≡ c → (suc a == suc b) ≡ c
same_by a b true e = grind (arith, nat_tests)
same_by a b false e = grind (arith, nat_tests)

-- an item is the last where it stands at the last place
last_is : (is : List Item) (k : ℕ) (i : Item) → slice_get is k ≡ Some i → is_last (items_in (drop (suc k) is)) ≡ (suc k == length is)
last_is [] zero i e = absurd (cc)
last_is [] (suc k) i e = absurd (cc)
last_is (j ∷ []) zero i e = refl
last_is (j ∷ l ∷ is) zero i e = let b : (1 == suc (suc (length is))) ≡ false = grind (arith, nat_tests) in sym b
last_is (j ∷ is) (suc k) i e = last_is is k i e ∙ sym (same_by (suc k) (length is) (suc k == length is) refl)

module _ (act : ℕ) (is : List Item) (k : ℕ) (i : Item) (last : Bool) (fs : Forms) (s : Room) (due : Out Value) where
  one_step : slice_get is k ≡ Some i → last ≡ (k + 1 == length is) → build act (items_in (drop k is)) fs s ≡ and_then (build_item act (item_in i) last fs s) (λ x. build_on x.0 (build act (items_in (drop (suc k) is)) x.1))
  unfolding build ◌>>=◌
  one_step at e =
      let l : is_last (items_in (drop (suc k) is)) ≡ last = last_is is k i at ∙ (let n : suc k ≡ k + 1 = omega arith in ap (λ (m : ℕ). m == length is) n) ∙ sym e in
      rw (drop_some is k i at, l) refl

  pub step_on : (gs : Forms) (t : Room) → slice_get is k ≡ Some i → last ≡ (k + 1 == length is) → build_item act (item_in i) last fs s ≡ (Ok (None, gs), t)
      → build act (items_in (drop k is)) fs s ≡ due → build act (items_in (drop (k + 1) is)) gs t ≡ due
  unfolding build_on and_then
  step_on gs t at e is_so d =
      let x : build act (items_in (drop k is)) fs s ≡ build act (items_in (drop (suc k) is)) gs t = one_step at e ∙ (rw is_so refl) in
      rw (add-one k) (sym x ∙ d)

  pub step_whole : (v : Value) (gs : Forms) (t : Room) → slice_get is k ≡ Some i → last ≡ (k + 1 == length is) → build_item act (item_in i) last fs s ≡ (Ok (Some v, gs), t)
      → build act (items_in (drop k is)) fs s ≡ due → due ≡ (Ok v, t)
  unfolding build_on and_then give
  step_whole v gs t at e is_so d = sym d ∙ one_step at e ∙ (rw is_so refl)

  pub step_ends : (x : Exit) (t : Room) → slice_get is k ≡ Some i → last ≡ (k + 1 == length is) → Unless x (build_item act (item_in i) last fs s ≡ (Err x, t))
      → build act (items_in (drop k is)) fs s ≡ due → Unless x (due ≡ (Err x, t))
  unfolding and_then
  step_ends x t at e is_so d = unless_as x (λ (y : build_item act (item_in i) last fs s ≡ (Err x, t)). sym d ∙ one_step at e ∙ (rw y refl)) is_so

pub no_more : (act : ℕ) (is : List Item) (k : ℕ) (fs : Forms) (s : Room) (due : Out Value) → slice_get is k ≡ None → build act (items_in (drop k is)) fs s ≡ due → due ≡ (Err Astray, s)
unfolding build fail
no_more act is k fs s due at d = sym d ∙ (rw (drop_none is k at) refl)

pub form_gives : (tree : List Node) (act id : ℕ) (is : List Item) (s t : Room) (r : Result Value Exit) → items_in is ≡ form.items_of tree id → Gives r t (build act (items_in is) [] s) → Gives r t (object_form tree act id s)
unfolding object_form
form_gives tree act id is s t r e g = subst (λ (xs : List form.Item). Gives r t (build act xs [] s)) e g
