-- Ranges of integers.
use Rattle.std.proofs.Common.{◌≡◌, ℕ, zero, suc, ◌+◌, ◌<◌, ◌≤◌, ℤ, pos, negsuc, Bool, true, false, List, [], ◌∷◌, ◌++◌, Result, Ok, Err, IfOk, refl, ap, sym, ◌∙◌, arith}
use Rattle.std.specs.Prelude.{codes, ◌+ℤ◌, ◌-ℤ◌, ◌≤ℤ◌, ◌<ℤ◌, int_le, nat_le, nat_abs, unsigned_abs}
use Rattle.std.proofs.lemmas.Int.{ints}
use Rattle.std.proofs.lemmas.Bool.Decides.{nat_tests}
use Rattle.std.proofs.Math.IntN.{+ℤ_idr, +ℤ_assoc}
use Rattle.ev_base.specs.declared.values.Value.{Value as Held}
use Rattle.ev_base.specs.declared.values.Value.TheVariants.{Int}
use Rattle.ev_heap.specs.Contents.{Contents}
use Rattle.def_machine.specs.Values.{Number, Local}
use Rattle.def_machine.specs.Native.{Reply, Lists, Fails, counted, gap, range_of}
use Rattle.ev_base.specs.declared.memory.Memory.{Memory}
use Rattle.ev_prims.specs.declared.reply.Reply.{Reply as Answer}
use Rattle.ev_prims.specs.Reading.{reply_in, values_in}
use Rattle.ev_prims.proofs.SeqLemmas.{joined_values}

-- ---- so many integers

next : (a : ℤ) (n : ℕ) → (a +ℤ pos 1) +ℤ pos n ≡ a +ℤ pos (suc n)
next a n = +ℤ_assoc a (pos 1) (pos n) ∙ ap (λ k. a +ℤ pos k) (let e : 1 + n ≡ suc n = omega arith in e)

counted_last : (a : ℤ) (n : ℕ) → counted {N = Local} a (suc n) ≡ counted a n ++ Number (a +ℤ pos n) ∷ []
unfolding counted
counted_last a zero = ap (λ z. Number z ∷ []) (sym (+ℤ_idr a))
counted_last a (suc n) = ap (λ xs. Number a ∷ xs) (counted_last (a +ℤ pos 1) n ∙ ap (λ z. counted (a +ℤ pos 1) n ++ Number z ∷ []) (next a n))

pub counted_more : (a z : ℤ) (n : ℕ) (all new : List Held) → new ≡ all ++ Int z ∷ [] → z ≡ a +ℤ pos n
    → ((h : Contents) → values_in h all ≡ counted a n) → (h : Contents) → values_in h new ≡ counted a (n + 1)
counted_more a z n all new wrote e so_far h =
    ap (values_in h) wrote ∙ joined_values h all (Int z ∷ [])
    ∙ ap (λ xs. xs ++ Number z ∷ []) (so_far h)
    ∙ ap (λ y. counted a n ++ Number y ∷ []) e
    ∙ sym (counted_last a n)
    ∙ ap (counted a) (let f : suc n ≡ n + 1 = omega arith in f)

pub counted_none : (a : ℤ) (h : Contents) → values_in h [] ≡ counted a 0
unfolding counted
counted_none a h = refl

-- ---- how many

light : (b : Bool) (a : ℤ) (n : ℕ) → b ≡ true → ◌≡◌ {A = Reply Local} (elim b [ true ↦ Lists (counted a n) | false ↦ Fails (codes "too heavy") ]) (Lists (counted a n))
light true a n e = refl
light false a n e = absurd (cc)

heavy : (b : Bool) (a : ℤ) (n : ℕ) → b ≡ false → ◌≡◌ {A = Reply Local} (elim b [ true ↦ Lists (counted a n) | false ↦ Fails (codes "too heavy") ]) (Fails (codes "too heavy"))
heavy true a n e = absurd (cc)
heavy false a n e = refl

pub light_range : (a : ℤ) (n : ℕ) → n ≤ 65535 → range_of {N = Local} a n ≡ Lists (counted a n)
unfolding range_of
light_range a n h = light (nat_le n 65535) a n (grind (arith, nat_tests))

pub heavy_range : (a : ℤ) (n : ℕ) → 65535 < n → range_of {N = Local} a n ≡ Fails (codes "too heavy")
unfolding range_of
heavy_range a n h = heavy (nat_le n 65535) a n (grind (arith, nat_tests))

natural : (z : ℤ) → pos 0 ≤ℤ z → z ≡ pos (unsigned_abs z)
natural (pos n) h = refl
natural (negsuc n) h = absurd (omega (arith, ints))

difference : (a b : ℤ) → a ≤ℤ b → b -ℤ a ≡ pos (unsigned_abs (b -ℤ a))
difference a b h = natural (b -ℤ a) (omega (arith, ints))

pub up_to : (a b : ℤ) → a ≤ℤ b → a +ℤ pos (unsigned_abs (b -ℤ a)) ≡ b
up_to a b h = ap (λ z. a +ℤ z) (sym (difference a b h)) ∙ (omega (arith, ints))

by_order : (b : Bool) (n : ℕ) → b ≡ true → elim b [ true ↦ n | false ↦ 0 ] ≡ n
by_order true n e = refl
by_order false n e = absurd (cc)

out_of_order : (b : Bool) (n : ℕ) → (b ≡ true → n ≡ 0) → ◌≡◌ {A = ℕ} (elim b [ true ↦ n | false ↦ 0 ]) 0
out_of_order true n f = f refl
out_of_order false n f = refl

pub gap_up : (a b : ℤ) → a ≤ℤ b → gap a b ≡ unsigned_abs (b -ℤ a)
unfolding gap
gap_up a b h = by_order (int_le a b) (nat_abs (b -ℤ a)) (grind (arith, ints))

pub gap_down : (a b : ℤ) → b <ℤ a → gap a b ≡ 0
unfolding gap
gap_down a b h = out_of_order (int_le a b) (nat_abs (b -ℤ a)) (λ e. absurd (grind (arith, ints)))

more : (a b : ℤ) → a ≤ℤ b → unsigned_abs ((b +ℤ pos 1) -ℤ a) ≡ unsigned_abs (b -ℤ a) + 1
more a b h =
    let e : (b +ℤ pos 1) -ℤ a ≡ (b -ℤ a) +ℤ pos 1 = omega (arith, ints) in
    ap unsigned_abs (e ∙ ap (λ z. z +ℤ pos 1) (difference a b h))

pub gap_last : (a b : ℤ) → a ≤ℤ b → gap a (b +ℤ pos 1) ≡ unsigned_abs (b -ℤ a) + 1
gap_last a b h = let f : a ≤ℤ (b +ℤ pos 1) = omega (arith, ints) in gap_up a (b +ℤ pos 1) f ∙ more a b h

level : (a b : ℤ) → b <ℤ a → a ≤ℤ (b +ℤ pos 1) → nat_abs ((b +ℤ pos 1) -ℤ a) ≡ 0
level a b h l = let e : (b +ℤ pos 1) -ℤ a ≡ pos 0 = omega (arith, ints) in ap nat_abs e

pub gap_last_down : (a b : ℤ) → b <ℤ a → gap a (b +ℤ pos 1) ≡ 0
unfolding gap
gap_last_down a b h =
    out_of_order (int_le a (b +ℤ pos 1)) (nat_abs ((b +ℤ pos 1) -ℤ a)) (λ e. let l : a ≤ℤ (b +ℤ pos 1) = grind (arith, ints) in level a b h l)

pub up_to_last : (a b : ℤ) (n : ℕ) → a ≤ℤ b → n ≡ unsigned_abs (b -ℤ a) + 1 → a +ℤ pos n ≡ b +ℤ pos 1
up_to_last a b n h e =
    ap (λ k. a +ℤ pos k) e ∙ sym (+ℤ_assoc a (pos (unsigned_abs (b -ℤ a))) (pos 1)) ∙ ap (λ z. z +ℤ pos 1) (up_to a b h)

pub plus_none : (a : ℤ) → a +ℤ pos 0 ≡ a
plus_none a = +ℤ_idr a

-- what a range of a number of integers answers, it answers of as many to one of them
pub ranged_along : (r : Result Answer Memory) (a b c : ℤ) (n : ℕ) → c ≡ a → n ≡ gap a b → IfOk r (λ (t : Answer). (h : Contents) → reply_in h t ≡ range_of c n)
    → IfOk r (λ (t : Answer). (h : Contents) → reply_in h t ≡ range_of a (gap a b))
ranged_along (Ok t) a b c n e f i = λ h. i h ∙ ap (λ z. range_of z n) e ∙ ap (range_of a) f
ranged_along (Err m) a b c n e f i = tt
