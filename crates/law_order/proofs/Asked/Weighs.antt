-- How many notes that ask for a gift a vat puts, and how many gifts stand there unopened: what a vat does by itself makes no more of them.
use Rattle.std.proofs.Common.{◌≡◌, ℕ, ◌+◌, ◌≤◌, Bool, true, false, List, [], ◌∷◌, ◌++◌, Option, Some, None, refl, arith}
use Rattle.std.specs.Prelude.{◌==◌, ◌&&◌, not}
use Rattle.def_machine.specs.Values.{Words, Value, Broken, Name, Naming, Coming, Mailing}
use Rattle.def_machine.specs.State.{Binding, Message, Change, Settle, Settles, Sends, Reacts, Note, Ask, Put, GiftEntry, Vat, Known, Standing, Viewed, Settled, Act, ◌>>◌, enqueue, send_out, tell, alter, come, mail, mark, new_message, new_lone_message, draw, draws}
use Rattle.def_machine.specs.Refs as refs
use Rattle.def_machine.specs.Arrive as arrive
use Rattle.def_machine.specs.Eval as eval
use Rattle.def_kernel.specs.declared.node.Node.{Node}
use Rattle.law_machine.specs.Machine.Steps.{After}
use Rattle.law_machine.proofs.Machine.Walks.{IsClosed, IsOfName, InRefs, InRefsUnder, InSettling, InSending, walk_each}
use Rattle.law_machine.proofs.Machine.RefsWalk.{settles_by_lines, walk_settle, walk_resolve, walk_send, walk_send_only, walk_react, walk_send_on, walk_inform}
use Rattle.law_order.proofs.Ordering.Moves.{Keeps, KeepsBy, IsKept, IsKeptUnder, keeps_closed, keeps_bind, keeps_then, keeps_if, keeps_give, keeps_look, keeps_tell, keeps_spend}
use Rattle.law_order.proofs.Ordering.Evals.{keeps_opening, keeps_taking}
use Rattle.law_order.specs.Cuts.Letting.{once}

-- ---- counts

-- the note asks for the gift under that key
unfoldable pub asks_for : {N : Type 0} → ℕ → Note N → Bool
asks_for i (Ask p j n) = j == i
asks_for i other = false

unfoldable pub asks_put : ℕ → List (Put Name) → ℕ
asks_put i [] = 0
asks_put i (p ∷ ps) = once (asks_for i p.note) + asks_put i ps

-- the gift is under that key, and was not opened
unfoldable pub is_shut : ℕ → GiftEntry Name → Bool
is_shut i g = (g.number == i) && not g.opened

unfoldable pub shut_in : ℕ → List (GiftEntry Name) → ℕ
shut_in i [] = 0
shut_in i (g ∷ gs) = once (is_shut i g) + shut_in i gs

pub more_asked : (i : ℕ) (ps : List (Put Name)) (p : Put Name) → asks_put i (ps ++ p ∷ []) ≡ asks_put i ps + once (asks_for i p.note)
unfolding asks_put
more_asked i [] p = omega arith
more_asked i (q ∷ ps) p = let rest = more_asked i ps p in omega arith

pub more_shut : (i : ℕ) (gs : List (GiftEntry Name)) (g : GiftEntry Name) → shut_in i (gs ++ g ∷ []) ≡ shut_in i gs + once (is_shut i g)
unfolding shut_in
more_shut i [] g = omega arith
more_shut i (h ∷ gs) g = let rest = more_shut i gs g in omega arith

-- From s to t no more of them came to be than so many.
pub record Weighs (i extra : ℕ) (s t : Vat Name) : Type 0 where
  pub count : asks_put i t.outbox + shut_in i t.gifts ≤ asks_put i s.outbox + shut_in i s.gifts + extra

asks_none : (i : ℕ) (n : Note Name) → IsOfName n → once (asks_for i n) ≡ 0
unfolding asks_for once
asks_none i (Ask p j n) h = absurd h
asks_none i other h = refl

pub base : (i : ℕ) → IsKept (Weighs i 0)
base i = record {
  same = λ s. record { count = omega arith };
  trans = λ h k. record { count = let a = h.count in let b = k.count in omega arith };
  fuel = λ s n. record { count = omega arith };
  happened = λ s e. record { count = omega arith };
  activations = λ s. record { count = omega arith };
  thing = λ s t. record { count = omega arith };
  killed = λ s n. record { count = omega arith };
  slot = λ s c. record { count = omega arith };
  written = λ s n v. record { count = omega arith };
  list = λ s vs. record { count = omega arith };
}

module _ (i : ℕ) where
  abbrev R : Vat Name → Vat Name → Type 0
  R = Weighs i 0

  closed : IsClosed (KeepsBy R)
  closed = keeps_closed R (base i)

  weighs_enqueue : (m : Message Name) → Keeps R (enqueue m)
  unfolding enqueue
  weighs_enqueue m = record { after = λ s. record { count = omega arith } }

  weighs_mark : (w : ℕ) → Keeps {N = Name} R (mark w)
  unfolding mark
  weighs_mark w = record { after = λ s. record { count = omega arith } }

  pub weighs_out : (w : ℕ) (n : Note Name) → once (asks_for i n) ≡ 0 → Keeps R (send_out w n)
  unfolding send_out
  weighs_out w n h = record { after = λ s. record { count = let more = more_asked i s.outbox (record { to = w; note = n }) in omega arith } }

  draws_after : (s : Vat Name) (w : ℕ) (o : Option ℕ) → After R s (draws w o s)
  unfolding draws
  draws_after s w (Some j) = record { count = omega arith }
  draws_after s w None = record { count = omega arith }

  module _ (K : Naming Name Name) where
    pub weighs_alter : (c : Change Name) (n : Name) → Keeps R (alter K c n)
    unfolding alter
    weighs_alter c n = record { after = λ s. record { count = omega arith } }

    pub weighs_come : (c : Coming Name Name) (h : ℕ) → Keeps R (come K c h)
    unfolding come
    weighs_come c h = record { after = λ s. record { count = omega arith } }

    pub weighs_mail : (c : Mailing Name) → Keeps R (mail K c)
    unfolding mail
    weighs_mail c = record { after = λ s. record { count = omega arith } }

    weighs_message : (h : ℕ) → Keeps R (new_message K h)
    unfolding new_message
    weighs_message h = record { after = λ s. record { count = omega arith } }

    weighs_lone : Keeps R (new_lone_message K)
    unfolding new_lone_message
    weighs_lone = record { after = λ s. record { count = omega arith } }

    weighs_draw : Keeps R (draw K)
    unfolding draw
    weighs_draw = record { after = λ s. draws_after s _ _ }

    -- ---- acts of references

    in_refs : InRefs (KeepsBy R)
    in_refs = record { tells = λ e h. keeps_tell R (base i) e; spends = keeps_spend R (base i); queues = weighs_enqueue; puts = λ w n h. weighs_out w n (asks_none i n h) }

    under : InRefsUnder (KeepsBy R) K
    under = record { alters = λ c n h. weighs_alter c n; comes = weighs_come; draws = weighs_draw }

    settled : (p : Name) (y : Value Name) (m : Act Name (Unit {0})) → Keeps R m → Keeps R (tell (Settles p y) >> (alter K (Settle y) p >> m))
    settled p y m h = keeps_then R (base i) (keeps_tell R (base i) (Settles p y)) (keeps_then R (base i) (weighs_alter (Settle y) p) h)

    in_settling : InSettling (KeepsBy R) K
    in_settling = settles_by_lines (KeepsBy R) K closed in_refs under settled

    in_sending : InSending (KeepsBy R) K
    in_sending = record { messages = weighs_message; lone_messages = weighs_lone; sends = λ a m. keeps_tell R (base i) (Sends a m); reacts = λ a x o m. keeps_tell R (base i) (Reacts a x o m) }

    pub weighs_settle : (p : Name) (y : Value Name) → Keeps R (refs.settle K p y)
    weighs_settle p y = walk_settle (KeepsBy R) K closed in_refs under in_settling p y

    pub weighs_resolve : (p : Name) (y : Value Name) → Keeps R (refs.resolve K p y)
    weighs_resolve p y = walk_resolve (KeepsBy R) K closed in_refs under in_settling p y

    pub weighs_send_on : (m : Message Name) → Keeps R (refs.send_on K (refs.settle K) m)
    weighs_send_on m = walk_send_on (KeepsBy R) K closed in_refs under (refs.settle K) weighs_settle m

    pub weighs_inform : (p : Name) (w : ℕ) → Keeps R (refs.inform K p w)
    weighs_inform p w = walk_inform (KeepsBy R) K closed in_refs under p w

    -- ---- turns

    under_names : IsKeptUnder K R
    under_names = record {
      promised = λ s. record { count = omega arith };
      settles = weighs_settle;
      resolves = weighs_resolve;
      sends = walk_send (KeepsBy R) K closed in_refs under in_settling in_sending;
      sends_only = walk_send_only (KeepsBy R) K closed in_refs under in_settling in_sending;
      reacts = walk_react (KeepsBy R) K closed in_refs under in_settling in_sending;
    }

    pub weighs_opening : (tree : List Node) (depth : ℕ) (p : Name) (given : List (Binding Name)) → Keeps R (eval.opening K tree depth p given)
    weighs_opening tree depth p given = keeps_opening K R (base i) under_names tree depth p given

    pub weighs_taking : (tree : List Node) (depth : ℕ) (m : Message Name) → Keeps R (eval.taking K tree depth m)
    weighs_taking tree depth m = keeps_taking K R (base i) under_names tree depth m

    -- ---- what is noticed

    breaks_at : (n : Name) (p : Words) (t : Standing Name) → Keeps R (arrive.break_at K n p t)
    unfolding arrive.break_at
    breaks_at n p (Settled y) = keeps_give R (base i) tt
    breaks_at n p other = weighs_settle n (Broken p)

    pub weighs_break_unopened : (n : Name) (b : Bool) → Keeps R (arrive.break_unopened K n b)
    unfolding arrive.break_unopened
    weighs_break_unopened n true = keeps_give R (base i) tt
    weighs_break_unopened n false = keeps_bind R (base i) (keeps_look R (base i) _) (λ t. breaks_at n _ t)

    breaks_hosted : (w : ℕ) (n : Name) (p : Words) (t : Standing Name) → Keeps R (arrive.break_hosted K w n p t)
    unfolding arrive.break_hosted
    breaks_hosted w n p (Viewed q) = keeps_give R (base i) tt
    breaks_hosted w n p (Settled y) = keeps_give R (base i) tt
    breaks_hosted w n p other = weighs_settle n (Broken p)

    name_noticed : (w : ℕ) (k : Known Name) → Keeps R (arrive.notice_name K w k)
    unfolding arrive.notice_name
    name_noticed w k = keeps_bind R (base i) (keeps_look R (base i) _) (λ t. keeps_if R (base i) (k.host == w) (breaks_hosted w k.name _ t) (keeps_give R (base i) tt))

    gift_noticed : (w : ℕ) (g : GiftEntry Name) → Keeps R (arrive.notice_gift K w g)
    unfolding arrive.notice_gift
    gift_noticed w g = keeps_if R (base i) (g.provider == w) (weighs_break_unopened g.name g.opened) (keeps_give R (base i) tt)

    all_noticed : (w : ℕ) → Keeps R (arrive.notice_all K w)
    unfolding arrive.notice_all
    all_noticed w = keeps_then R (base i) (weighs_mark w) (keeps_bind R (base i) (keeps_look R (base i) _) (λ ks. keeps_then R (base i) (walk_each (KeepsBy R) closed ks (λ k. name_noticed w k))
        (keeps_bind R (base i) (keeps_look R (base i) _) (λ gs. walk_each (KeepsBy R) closed gs (λ g. gift_noticed w g)))))

    pub weighs_notice : (w : ℕ) → Keeps R (arrive.notice K w)
    unfolding arrive.notice
    weighs_notice w = keeps_bind R (base i) (keeps_look R (base i) _) (λ b. keeps_if R (base i) b (keeps_give R (base i) tt) (all_noticed w))
