-- A chain of waits, by its first step; and that the code's test is the machine's.
use Rattle.std.proofs.Common.{◌≡◌, ℕ, zero, suc, ◌+◌, ◌-◌, ◌<◌, ◌≤◌, Bool, true, false, List, Option, Some, None, refl, ap, ◌∙◌, subst, arith}
use Rattle.std.specs.Prelude.{◌==◌, if◌then◌else◌, option_map, slice_get}
use Rattle.std.proofs.lemmas.Bool.{eqb-true}
use Rattle.std.proofs.lemmas.Cmp.{nat_eq_equiv}
use Rattle.def_machine.specs.Values.{Words, Local, Prom, numbering, same_local}
use Rattle.def_machine.specs.State as machine
use Rattle.def_machine.specs.Refs as refs
use Rattle.def_machine.specs.Refs.{standing_in}
use Rattle.ev_refs.specs.Reading.{known_by, knowns_by, standing_by}
use Rattle.ev_refs.specs.Waiting.{awaited_by, awaited_found, awaited, on_awaited, waits_lead}
use Rattle.ev_refs.specs.declared.known.Standing.{Standing}
use Rattle.ev_refs.specs.declared.known.Standing.TheVariants.{Unsettled, WaitsOn, Viewed, Settled}
use Rattle.ev_refs.proofs.Machine.{names, entry_is}
use Rattle.ev_refs.specs.declared.known.Known.{Known}

one_more : (e c : ℕ) → c < e → e - c ≡ suc (e - (c + 1))
one_more e c h = omega arith

same : (n p : ℕ) → n ≡ p → (n == p) ≡ true
same n p h = subst (λ (x : ℕ). (n == x) ≡ true) h (nat_eq_equiv.refl n)

differ_by : (n p : ℕ) (b : Bool) → (n == p) ≡ b → (n ≡ p → ⊥) → b ≡ false
differ_by n p true e h = absurd (h (eqb-true n p e))
differ_by n p false e h = refl

differ : (n p : ℕ) → (n ≡ p → ⊥) → (n == p) ≡ false
differ n p h = differ_by n p (n == p) refl h

pub found : (d : ℕ) (ks : List Known) (p n : ℕ) → n ≡ p → waits_lead d ks p n ≡ true
unfolding waits_lead
found zero ks p n h = same n p h
found (suc d) ks p n h = rw (same n p h, waits_lead) refl

pub stops : (e c : ℕ) (ks : List Known) (p n : ℕ) → c < e → (n ≡ p → ⊥) → awaited ks n ≡ None → waits_lead (e - c) ks p n ≡ false
unfolding waits_lead on_awaited
stops e c ks p n less h g = rw (one_more e c less, differ n p h, g) refl

pub goes : (e c : ℕ) (ks : List Known) (p n m : ℕ) → c < e → (n ≡ p → ⊥) → awaited ks n ≡ Some m → waits_lead (e - c) ks p n ≡ waits_lead (e - (c + 1)) ks p m
unfolding waits_lead on_awaited
goes e c ks p n m less h g = rw (one_more e c less, differ n p h, g) refl

pub over : (e c : ℕ) → e ≤ c → (ks : List Known) (p n : ℕ) → waits_lead (e - c) ks p n ≡ (n == p)
unfolding waits_lead
over e c h ks p n = let none : e - c ≡ 0 = omega arith in rw none refl

module _ (word : ℕ → ℕ) (ts : List Words) where
  choose : (b x y : Bool) → x ≡ y → elim b [ true ↦ true | false ↦ x ] ≡ (if b then true else y)
  choose true x y h = refl
  choose false x y h = h

  led_is : (ks : List Known) (d p : ℕ) (st : Standing) → ((q : ℕ) → refs.waits_lead (names word) d (knowns_by ts 0 ks) (Prom p) (Prom q) ≡ waits_lead d ks p q)
      → refs.led_by_wait (names word) (λ q. refs.waits_lead (names word) d (knowns_by ts 0 ks) (Prom p) q) (standing_by ts st) ≡ on_awaited (λ q. waits_lead d ks p q) (awaited_by st)
  unfolding refs.led_by_wait on_awaited
  led_is ks d p Unsettled ih = refl
  led_is ks d p (WaitsOn q) ih = ih q
  led_is ks d p (Viewed q) ih = ih q
  led_is ks d p (Settled v) ih = refl

  led_found : (ks : List Known) (d p n : ℕ) (o : Option Known) → ((q : ℕ) → refs.waits_lead (names word) d (knowns_by ts 0 ks) (Prom p) (Prom q) ≡ waits_lead d ks p q)
      → refs.led_by_wait (names word) (λ q. refs.waits_lead (names word) d (knowns_by ts 0 ks) (Prom p) q) (standing_in (option_map (known_by ts n) o)) ≡ on_awaited (λ q. waits_lead d ks p q) (awaited_found o)
  unfolding standing_in awaited_found refs.led_by_wait on_awaited
  led_found ks d p n None ih = refl
  led_found ks d p n (Some k) ih = led_is ks d p k.standing ih

  pub waits_is : (ks : List Known) (d p n : ℕ) → refs.waits_lead (names word) d (knowns_by ts 0 ks) (Prom p) (Prom n) ≡ waits_lead d ks p n
  unfolding refs.waits_lead waits_lead awaited refs.standing_of numbering same_local
  waits_is ks zero p n = refl
  waits_is ks (suc d) p n =
      choose (n == p) _ _
      (ap (λ (o : Option (machine.Known Local)). refs.led_by_wait (names word) (λ q. refs.waits_lead (names word) d (knowns_by ts 0 ks) (Prom p) q) (standing_in o)) (entry_is word ts ks n)
      ∙ led_found ks d p n (slice_get ks n) (waits_is ks d p))
