-- What a vat does keeps what single changes and blocks keep, where a note that lets a gift go is put with a draw, and where a vat is told of a name that it may be told of.
use Rattle.std.proofs.Common.{◌≡◌, ℕ, suc, List, [], ◌∷◌, ◌++◌, Some, refl, length}
use Rattle.def_machine.specs.Values.{Words, Value, Name, Naming, Coming, Mailing, IsOwn, under}
use Rattle.def_machine.specs.State.{Binding, Message, Standing, Settled, Known, Change, ToTell, Settle, Settles, Passed, Passeds, AGift, Delivery, Note, Deliver, Open, Ask, Shorten, Vat, Done, Gives, Act, ◌>>=◌, ◌>>◌, and_then, give, look, tell, each, enqueue, send_out, new_gift, open_gift, mark, alter, with_change, come, mail, new_message, new_lone_message, draw, begun}
use Rattle.def_machine.specs.Refs as refs
use Rattle.def_machine.specs.Arrive as arrive
use Rattle.def_machine.specs.Arrive.{Incoming}
use Rattle.def_machine.specs.Eval as eval
use Rattle.def_kernel.specs.declared.node.Node.{Node}
use Rattle.law_machine.specs.Machine.Steps.{After}
use Rattle.law_order.proofs.Ordering.Moves.{Keeps, IsKept, keeps_bind, keeps_then, keeps_give, widen}
use Rattle.law_order.proofs.Cuts.WholeWalk.{IsWalkedWhole, whole_opening, whole_taking, whole_learn_name, whole_arrive, whole_notice, having, breaking_orphan}

-- What is to be shown of a relation. Of a name of which May holds in a state a vat may be told.
pub record IsWalked (K : Naming Name Name) (R : Vat Name → Vat Name → Type 0) (May : Name → Vat Name → Type 0) : Type 0 where
  pub base : IsKept R
  pub queues : (m : Message Name) → Keeps R (enqueue m)
  pub gifts : (n : Name) (p j : ℕ) → Keeps R (new_gift n p j)
  pub opens : (p j : ℕ) → Keeps {N = Name} R (open_gift p j)
  pub marks : (w : ℕ) → Keeps {N = Name} R (mark w)
  pub alters : (c : Change Name) (n : Name) → Keeps R (alter K c n)
  pub comes : (c : Coming Name Name) (h : ℕ) → Keeps R (come K c h)
  pub mails : (c : Mailing Name) → Keeps R (mail K c)
  pub messages : (h : ℕ) → Keeps R (new_message K h)
  pub lones : Keeps R (new_lone_message K)
  pub promised : (s : Vat Name) → R s (record s { promises = suc s.promises; known = s.known ++ begun (K.made (IsOwn s.promises) (length s.known)) s.number ∷ [] })
  pub delivers : (w : ℕ) (d : Delivery Name) (n : Name) (verb : Words) (ys : Passeds Name) → Keeps R (send_out w (Deliver d n verb ys))
  pub asks : (w p j : ℕ) (n : Name) → Keeps R (send_out w (Ask p j n))
  -- a gift is let go as its word is drawn, and so is one whose provider is asked to
  pub lets : (h : ℕ) (n : Name) → Keeps {A = Passed Name} R (draw K >>= (λ j. send_out h (Open j n) >> give (AGift h j)))
  pub wants : (h c : ℕ) (n : Name) (f : ℕ → Act Name (Unit {0})) → ((j : ℕ) → Keeps R (f j)) → Keeps R (draw K >>= (λ j. send_out h (Shorten n c (under h j)) >> f j))
  -- a vat is told of a name: as it settles, or as one asks for it that settled
  pub informs : (p : Name) (w : ℕ) (s : Vat Name) → May p s → After R s (refs.inform K p w s)
  pub may_stay : (p : Name) (s t : Vat Name) → R s t → May p s → May p t
  pub may_settle : (p : Name) (y : Value Name) (k : Known Name) (s t : Vat Name) → refs.entry_of K s.known p ≡ Some k → ((z : Value Name) → k.standing ≡ Settled z → ⊥) → t.known ≡ with_change K (Settle y) p s.known → May p t
  pub may_settled : (p : Name) (y : Value Name) (s : Vat Name) → refs.standing_of K s.known p ≡ Settled y → May p s

module _ (K : Naming Name Name) (R : Vat Name → Vat Name → Type 0) (May : Name → Vat Name → Type 0) (law : IsWalked K R May) where
  base : IsKept R
  base = law.base

  all : {A : Type 0} {f : A → Act Name (Unit {0})} (xs : List A) → ((x : A) → Keeps R (f x)) → Keeps R (each f xs)
  unfolding each
  all [] h = keeps_give R law.base tt
  all (x ∷ xs) h = keeps_then R law.base (h x) (all xs h)

  -- ---- where a vat may be told of p

  abbrev Told : Name → Act Name (Unit {0}) → Type 0
  Told p m = (s : Vat Name) → May p s → After R s (m s)

  told_bind : (p : Name) (s : Vat Name) (d : Done Name (Unit {0})) (n : Act Name (Unit {0})) → May p s → After R s d → Told p n → After R s (and_then d (λ _. n))
  unfolding and_then
  told_bind p s (Gives a t) n may h k = widen R law.base h (n t) (k t (law.may_stay p s t h may))
  told_bind p s other n may h k = h

  told_then : (p : Name) (m n : Act Name (Unit {0})) → Keeps R m → Told p n → Told p (m >> n)
  unfolding ◌>>◌
  told_then p m n h k s may = told_bind p s (m s) n may (h.after s) k

  told_all : (p : Name) (ws : List ℕ) → Told p (each (refs.inform K p) ws)
  unfolding each give ◌>>◌
  told_all p [] s may = law.base.same s
  told_all p (w ∷ ws) s may = told_bind p s (refs.inform K p w s) (each (refs.inform K p) ws) may (law.informs p w s may) (told_all p ws)

  module _ (settle : Name → Value Name → Act Name (Unit {0})) (good : (p : Name) (y : Value Name) → Keeps R (settle p y)) (sending_on : (m : Message Name) → Keeps R (refs.send_on K settle m)) where
    -- behind the settling itself
    then_told : (p : Name) (y : Value Name) (k : Known Name) → Told p (each (refs.send_on K settle) k.held >> (each (λ q. settle q y) k.waiting >> (each enqueue k.reactions >> each (refs.inform K p) k.told)))
    then_told p y k = told_then p (each (refs.send_on K settle) k.held) (each (λ q. settle q y) k.waiting >> (each enqueue k.reactions >> each (refs.inform K p) k.told)) (all k.held sending_on)
        (told_then p (each (λ q. settle q y) k.waiting) (each enqueue k.reactions >> each (refs.inform K p) k.told) (all k.waiting (λ q. good q y)) (told_then p (each enqueue k.reactions) (each (refs.inform K p) k.told) (all k.reactions law.queues) (told_all p k.told)))

    -- the line, and the change of the name
    settled_first : (p : Name) (y : Value Name) (s : Vat Name) → R s (record s { happened = s.happened ++ Settles p y ∷ []; known = with_change K (Settle y) p s.known })
    unfolding alter
    settled_first p y s = law.base.trans (law.base.happened s (Settles p y)) ((law.alters (Settle y) p).after (record s { happened = s.happened ++ Settles p y ∷ [] }))

    settling_known : (p : Name) (y : Value Name) (k : Known Name) (s : Vat Name) → refs.entry_of K s.known p ≡ Some k → ((z : Value Name) → k.standing ≡ Settled z → ⊥) → After R s (refs.settle_known K settle p y k s)
    unfolding refs.settle_known ◌>>◌ and_then tell alter
    settling_known p y k s e f = let t : Vat Name = record s { happened = s.happened ++ Settles p y ∷ []; known = with_change K (Settle y) p s.known } in
        widen R law.base (settled_first p y s) _ (then_told p y k t (law.may_settle p y k s t e f refl))

  whole : IsWalkedWhole K R
  whole = record {
    base = law.base;
    queues = law.queues;
    gifts = law.gifts;
    opens = law.opens;
    marks = law.marks;
    alters = law.alters;
    comes = law.comes;
    mails = law.mails;
    messages = law.messages;
    lones = law.lones;
    promised = law.promised;
    delivers = law.delivers;
    asks = law.asks;
    lets = law.lets;
    wants = law.wants;
    settles = settling_known;
  }

  -- ---- turns

  pub walked_opening : (tree : List Node) (depth : ℕ) (p : Name) (given : List (Binding Name)) → Keeps R (eval.opening K tree depth p given)
  walked_opening = whole_opening K R whole

  pub walked_taking : (tree : List Node) (depth : ℕ) (m : Message Name) → Keeps R (eval.taking K tree depth m)
  walked_taking = whole_taking K R whole

  -- ---- what arrives

  pub learning_name : (z : Incoming Name Name) → Keeps R (arrive.learn_name K z)
  learning_name = whole_learn_name K R whole

  -- one who asks is told at once where the name settled
  telling_asker : (n : Name) (w : ℕ) (s : Vat Name) (t : Standing Name) → refs.standing_of K s.known n ≡ t → After R s (arrive.tell_asker K n w t s)
  unfolding arrive.tell_asker
  telling_asker n w s (Settled y) e = law.informs n w s (law.may_settled n y s e)
  telling_asker n w s other e = (law.alters (ToTell w) n).after s

  tell_now : (n : Name) (w : ℕ) → Keeps R (look (λ s. refs.standing_of K s.known n) >>= (λ t. arrive.tell_asker K n w t))
  unfolding ◌>>=◌ and_then look
  tell_now n w = record { after = λ s. telling_asker n w s (refs.standing_of K s.known n) refl }

  arriving_ask : (from p j : ℕ) → Keeps R (arrive.arrive_ask K from p j)
  unfolding arrive.arrive_ask
  arriving_ask from p j = keeps_bind R law.base (having K R whole p j) (λ n. keeps_then R law.base (breaking_orphan K R whole p j n) (tell_now n from))

  -- any note but one that asks for a gift of the vat as its provider
  abbrev pub AsksNoProvider : Note (Incoming Name Name) → Type 0
  AsksNoProvider (Shorten z c j) = ⊥
  AsksNoProvider other = Unit {0}

  pub walked_arrive : (from : ℕ) (n : Note (Incoming Name Name)) → AsksNoProvider n → Keeps R (arrive.arrive K from n)
  unfolding arrive.arrive
  walked_arrive from (Ask p j z) h = arriving_ask from p j
  walked_arrive from (Shorten z c j) h = absurd h
  walked_arrive from other h = whole_arrive K R whole from other tt

  -- ---- what is noticed

  pub walked_notice : (w : ℕ) → Keeps R (arrive.notice K w)
  walked_notice = whole_notice K R whole
