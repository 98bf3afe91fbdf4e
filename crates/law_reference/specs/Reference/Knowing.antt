-- How often a vat knows a name, as a count, and what a step of it may add.
use Rattle.std.specs.Prelude.{◌≡◌, ℕ, suc, ◌+◌, ◌≤◌, Bool, true, false, List, [], ◌∷◌, Option, Some, None, nat_le, ◌==◌}
use Rattle.def_machine.specs.Values.{Value, Prim, Ref, Name, Promise, Answer, Gift, Sent, same_name, answer_of, host_of, naming, word_of}
use Rattle.def_machine.specs.State.{Message, Known, Passed, Passeds, Plain, AGift, Many, NoMore, More, Note, Deliver, Open, Ask, SettledTo, Elsewhere, Shorten, GiftEntry, Vat, is_in}
use Rattle.def_machine.specs.Arrive.{Incoming, Old, New, gift_at}
use Rattle.law_machine.specs.Machine.Steps.{Step, Opens, Takes, Receives, Notices, does, After}
use Rattle.def_machine.specs.Values.{opened_values}

-- one where it is so, else zero
unfoldable pub once : Bool → ℕ
once true = 1
once false = 0

-- one where the two are one name, else zero
unfoldable pub one : Name → Name → ℕ
one n x = once (same_name n x)

-- One where x is the answer at another host than v of the message of that name: the name that comes to be known where v sends it on.
unfoldable pub onward : ℕ → Name → Name → ℕ
onward v x (Sent m) = elim (host_of x == v) [ true ↦ 0 | false ↦ one (Answer (host_of x) m) x ]
onward v x n = one n x

unfoldable pub onward_all : ℕ → Name → List (Message Name) → ℕ
onward_all v x [] = 0
onward_all v x (m ∷ ms) = onward v x m.id + onward_all v x ms

-- How often x is among the names that vat v knows, and how often it may come to be known by sending on what is held.
unfoldable pub claims : ℕ → Name → List (Known Name) → ℕ
claims v x [] = 0
claims v x (k ∷ ks) = one k.name x + onward_all v x k.held + claims v x ks

-- One where x is a promise of vat v or an answer of a message of vat v, by a number below those counts, or a gift, by a word among those.
unfoldable pub numbered : ℕ → Name → ℕ → ℕ → List ℕ → ℕ
numbered v (Promise w i) p m d = elim (v == w) [ true ↦ once (nat_le (suc i) p) | false ↦ 0 ]
numbered v (Answer h a) p m d = elim (v == a.sender) [ true ↦ once (nat_le (suc a.number) m) | false ↦ 0 ]
numbered v (Gift h i) p m d = once (is_in (word_of i) d)
numbered v _ p m d = 0

unfoldable pub numbered_at : ℕ → Name → Vat Name → ℕ
numbered_at v x s = numbered v x s.promises s.messages s.drawn

-- ---- how often a note that arrives brings x

unfoldable pub new_name : Name → Incoming Name Name → ℕ
new_name x (Old n) = 0
new_name x (New n h) = one n x

unfoldable pub new_in_value : Name → Value (Incoming Name Name) → ℕ
new_in_value x (Ref n) = new_name x n
new_in_value x _ = 0

unfoldable mutual
  pub new_in : Name → Passed (Incoming Name Name) → ℕ
  new_in x (Plain y) = new_in_value x y
  new_in x (AGift h i) = one (Gift h i) x
  new_in x (Many ys) = new_in_all x ys

  pub new_in_all : Name → Passeds (Incoming Name Name) → ℕ
  new_in_all x NoMore = 0
  new_in_all x (More y ys) = new_in x y + new_in_all x ys

-- a message brings its answer here, and that at another host where it is sent on
unfoldable pub new_answer : ℕ → Name → Incoming Name Name → ℕ
new_answer v x (Old m) = one (answer_of v m) x + onward v x m
new_answer v x (New m h) = one (answer_of v m) x + onward v x m

-- a gift that this vat hosts comes to be where it is absent
unfoldable pub new_gift_here : ℕ → Name → ℕ → Option (GiftEntry Name) → ℕ
new_gift_here v x i (Some g) = 0
new_gift_here v x i None = one (Gift v i) x

unfoldable pub brings : ℕ → Name → ℕ → List (GiftEntry Name) → Note (Incoming Name Name) → ℕ
brings v x from gs (Deliver d n verb ys) = new_answer v x d.message + new_in_all x ys + new_name x n
brings v x from gs (Open i n) = new_name x n + new_gift_here v x i (gift_at from i gs)
brings v x from gs (Ask p i n) = new_gift_here v x i (gift_at p i gs)
brings v x from gs (SettledTo n y) = new_name x n + new_in x y
brings v x from gs (Elsewhere n c) = new_name x n
brings v x from gs (Shorten n c i) = new_name x n

unfoldable pub brought : ℕ → Name → List (GiftEntry Name) → Step Name Name → ℕ
brought v x gs (Opens tree depth root given) = 0
brought v x gs (Takes tree depth m) = 0
brought v x gs (Receives from n) = brings v x from gs n
brought v x gs (Notices w) = 0

-- From s to t the claims on x are no more than there were, and were brought, and one where x is a name that was numbered in between.
pub record Knowing (v : ℕ) (x : Name) (came : ℕ) (s t : Vat Name) : Type 0 where
  pub number : s.number ≡ v → t.number ≡ v
  pub kept : s.number ≡ v → claims v x t.known + numbered_at v x s ≤ claims v x s.known + numbered_at v x t + came

-- In every step of every vat, however it ends: a name comes to be known that the vat numbered in the step, or that the arriving note brings, or by which a message is sent on that was held.
abbrev pub StepsKnowOnce : Type 0
StepsKnowOnce = (word : ℕ → ℕ) (v : ℕ) (step : Step Name Name) (s : Vat Name) (x : Name)
    → After (λ s t. Knowing v x (brought v x s.gifts step) s t) s (does (naming word v) step s)

-- opens the definitions of this file, and of those below
unfoldable pub opened_knowing : Unit {0}
unfolding once one onward onward_all claims numbered numbered_at new_name new_in_value new_in new_in_all new_answer new_gift_here brings brought opened_values
opened_knowing = tt
