-- Of a message that was not sent nothing is said, so the messages that were sent decide.
use Rattle.std.proofs.Common.{◌≡◌, ℕ, suc, length, Bool, true, false, not, List, [], ◌∷◌, ◌++◌, refl, sym, ap, subst, ◌||◌, ◌&&◌}
use Rattle.std.specs.List.{list_all}
use Rattle.def_machine.specs.Values.{Name, same_name}
use Rattle.def_machine.specs.State.{Deliver, Sends}
use Rattle.def_run.specs.World.{Event, Here, Carried}
use Rattle.law_order.specs.Ordering.Order.{Ordered, reaching, sent_on, taken_on, reaches_on, any_reach, sends_behind, before_from, is_before, taken_after, keeps_order}
use Rattle.law_order.proofs.Ordering.Named.{same_is}
use Rattle.law_order.specs.History.Lines.{sends_it, was_sent}
use Rattle.law_order.proofs.History.Lines.{before_was_sent, and_first, and_second}
use Rattle.law_order.specs.Rows.Decided.{sent_in, in_order, OrderIsDecided}

-- ---- a message that is before another was sent

-- a line that does not send it reaches nothing from nothing
nothing_on : (a : Name) (done : List Event) (e : Event) → sends_it a e ≡ false → reaches_on a done [] e ≡ []
unfolding sends_it taken_on reaches_on
nothing_on a done (Here v (Sends act x)) h = ap (λ t. elim t [ true ↦ reaching v (suc (length done)) (sent_on x.target) | false ↦ [] ]) h
nothing_on a done (Carried k v w (Deliver x n verb ys) bytes) h = refl
nothing_on a done other h = refl

none_reached : (v : ℕ) (ns : List Name) → any_reach v ns [] ≡ false
unfolding any_reach
none_reached v [] = refl
none_reached v (n ∷ ns) = refl

nothing_behind : (b : Name) (e : Event) → sends_behind b [] e ≡ false
unfolding sends_behind
nothing_behind b (Here v (Sends act x)) = go (same_name x.id b) (any_reach v (sent_on x.target) []) (none_reached v (sent_on x.target))
  where
    go : (s t : Bool) → t ≡ false → (s && t) ≡ false
    go true t h = h
    go false t h = refl
nothing_behind b other = refl

first_sent : (a b : Name) (done es : List Event) → before_from a b done [] es ≡ true → was_sent a es ≡ true
unfolding before_from was_sent
first_sent a b done [] h = h
first_sent a b done (e ∷ es) h = go (sends_it a e) refl (first_sent a b (done ++ e ∷ []) es)
  where
    later : sends_it a e ≡ false → before_from a b (done ++ e ∷ []) [] es ≡ true
    later i = subst (λ rs. before_from a b (done ++ e ∷ []) rs es ≡ true) (nothing_on a done e i) (subst (λ t. (t || before_from a b (done ++ e ∷ []) (reaches_on a done [] e) es) ≡ true) (nothing_behind b e) h)

    go : (t : Bool) → sends_it a e ≡ t → (before_from a b (done ++ e ∷ []) [] es ≡ true → was_sent a es ≡ true) → (t || was_sent a es) ≡ true
    go true i f = refl
    go false i f = f (later i)

-- ---- the messages that were sent

all_sent : (P : Name → Bool) (es : List Event) → list_all P (sent_in es) ≡ true → (a : Name) → was_sent a es ≡ true → P a ≡ true
unfolding sent_in sends_it was_sent
all_sent P [] h a i = absurd (cc)
all_sent P (Here v (Sends act x) ∷ es) h a i = go (same_name x.id a) refl i (all_sent P es (and_second (P x.id) (list_all P (sent_in es)) h) a)
  where
    go : (t : Bool) → same_name x.id a ≡ t → (t || was_sent a es) ≡ true → (was_sent a es ≡ true → P a ≡ true) → P a ≡ true
    go true q j f = subst (λ m. P m ≡ true) (same_is x.id a q) (and_first (P x.id) (list_all P (sent_in es)) h)
    go false q j f = f j
all_sent P (other ∷ es) h a i = all_sent P es h a i

kept_if_not_before : (es : List Event) (a b : Name) → (is_before a b es ≡ true → keeps_order es a b ≡ true) → keeps_order es a b ≡ true
unfolding keeps_order
kept_if_not_before es a b f = go (is_before a b es) f
  where
    go : (t : Bool) → (t ≡ true → (not t || taken_after a b es) ≡ true) → (not t || taken_after a b es) ≡ true
    go true g = g refl
    go false g = refl

decides : (es : List Event) → in_order es ≡ true → Ordered es
unfolding in_order is_before
decides es h a b = kept_if_not_before es a b (λ i. all_sent (λ y. keeps_order es a y) es (all_sent (λ x. list_all (λ y. keeps_order es x y) (sent_in es)) es h a (first_sent a b [] es i)) b (before_was_sent a b es i))

all_true : (P : Name → Bool) (ms : List Name) → ((m : Name) → P m ≡ true) → list_all P ms ≡ true
all_true P [] f = refl
all_true P (m ∷ ms) f = subst (λ t. (t && list_all P ms) ≡ true) (sym (f m)) (all_true P ms f)

is_decided : (es : List Event) → Ordered es → in_order es ≡ true
unfolding in_order
is_decided es o = all_true (λ a. list_all (λ b. keeps_order es a b) (sent_in es)) (sent_in es) (λ a. all_true (λ b. keeps_order es a b) (sent_in es) (o a))

pub order_is_decided : OrderIsDecided
order_is_decided es = (decides es, is_decided es)
