-- Where a name leads, by its first step; and that the code's following is the machine's.
use Rattle.std.proofs.Common.{◌≡◌, ℕ, zero, suc, ◌+◌, ◌-◌, ◌<◌, ◌≤◌, List, refl, arith}
use Rattle.ev_base.specs.declared.values.Value.{Value}
use Rattle.ev_base.specs.declared.values.Value.TheVariants as held
use Rattle.ev_refs.specs.Follow.{led_on, led_by, step_of}
use Rattle.ev_refs.specs.declared.follow.Step.TheVariants.{Stays, Leads, Ends}
use Rattle.ev_refs.specs.declared.known.Known.{Known}

pub stays : (d : ℕ) (ks : List Known) (n : ℕ) → step_of ks n ≡ Stays → led_on d ks n ≡ held.Prom n
unfolding led_on led_by
stays zero ks n h = refl
stays (suc d) ks n h = rw h refl

one_more : (e c : ℕ) → c < e → e - c ≡ suc (e - (c + 1))
one_more e c h = omega arith

pub leads : (e c : ℕ) (ks : List Known) (n m : ℕ) → c < e → step_of ks n ≡ Leads m → led_on (e - c) ks n ≡ led_on (e - (c + 1)) ks m
unfolding led_on led_by
leads e c ks n m less h = rw (one_more e c less, h) refl

pub ends : (e c : ℕ) (ks : List Known) (n : ℕ) (v : Value) → c < e → step_of ks n ≡ Ends v → led_on (e - c) ks n ≡ v
unfolding led_on led_by
ends e c ks n v less h = rw (one_more e c less, h) refl

pub over : (e c : ℕ) → e ≤ c → (ks : List Known) (n : ℕ) → led_on (e - c) ks n ≡ held.Prom n
unfolding led_on
over e c h ks n = let none : e - c ≡ 0 = omega arith in rw none refl
