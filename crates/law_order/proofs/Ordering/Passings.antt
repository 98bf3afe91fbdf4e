-- What passings keep: whatever is kept as a vat is to be told and as a gift is let go.
use Rattle.std.proofs.Common.{ℕ, List, [], ◌∷◌}
use Rattle.def_machine.specs.Values.{Value, Name, Naming}
use Rattle.def_machine.specs.State.{Passed, Passeds, Plain, AGift, Many, NoMore, More, Open, ToTell, Vat, ◌>>=◌, ◌>>◌, give, draw, send_out, alter}
use Rattle.def_machine.specs.Refs as refs
use Rattle.def_machine.specs.Refs.{Place, Mine, Away}
use Rattle.law_order.proofs.Ordering.Moves.{Keeps, IsKept, keeps_bind, keeps_then, keeps_look, keeps_give, keeps_spend, keeps_if}

module _ (K : Naming Name Name) (R : Vat Name → Vat Name → Type 0) (law : IsKept R) (tells_to : (h : ℕ) (n : Name) → Keeps R (alter K (ToTell h) n)) (lets_go : (h : ℕ) (n : Name) → Keeps {N = Name} {A = Passed Name} R (draw K >>= (λ i. send_out h (Open i n) >> give (AGift h i)))) where
  address_plain : (h : ℕ) (y : Value Name) (p : Place Name) → Keeps R (refs.address_plain K h y p)
  unfolding refs.address_plain
  address_plain h y (Away g n o) = search (keeps_if, keeps_give, lets_go, law) depth 14
  address_plain h y (Mine n) = search (keeps_then, keeps_give, tells_to, law) depth 14
  address_plain h y _ = search (keeps_give, law) depth 14

  mutual
    unfolding refs.address refs.address_all

    address : (h : ℕ) (y : Passed Name) → Keeps R (refs.address K h y)
    address h (Plain y) = search (keeps_bind, keeps_look, address_plain, law) depth 14
    address h (AGift g i) = search (keeps_give, law)
    address h (Many ys) = let rest = address_all h ys in search (keeps_bind, keeps_give, law)

    address_all : (h : ℕ) (ys : Passeds Name) → Keeps R (refs.address_all K h ys)
    address_all h NoMore = search (keeps_give, law)
    address_all h (More y ys) = let one = address h y in let rest = address_all h ys in search (keeps_bind, keeps_give, law)

  pub keeps_pass : (h : ℕ) (x : Value Name) → Keeps R (refs.pass K h x)
  unfolding refs.pass
  keeps_pass h x = search (keeps_bind, keeps_then, keeps_look, keeps_spend, address, law) depth 14

  pub keeps_pass_all : (h : ℕ) (xs : List (Value Name)) → Keeps R (refs.pass_all K h xs)
  unfolding refs.pass_all
  keeps_pass_all h [] = search (keeps_give, law)
  keeps_pass_all h (x ∷ xs) = let one = keeps_pass h x in let rest = keeps_pass_all h xs in search (keeps_bind, keeps_give, law) depth 14
