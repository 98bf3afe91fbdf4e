-- In a step each note that lets a gift go is put with a draw, or in the place of one that arrived: what a vat does by itself.
use Rattle.std.proofs.Common.{◌≡◌, ℕ, zero, ◌+◌, ◌≤◌, Bool, true, false, List, [], ◌∷◌, ◌++◌, Option, Some, None, refl, sym, ap, subst, ◌∙◌, arith}
use Rattle.std.proofs.lemmas.Bool.{eqb-true}
use Rattle.std.specs.Prelude.{◌==◌}
use Rattle.def_machine.specs.Values.{Value, Name, Naming, Coming, Mailing, key, word_of, under}
use Rattle.def_machine.specs.State.{Message, Change, Passed, AGift, Note, Deliver, Open, Ask, SettledTo, Elsewhere, Shorten, Vat, Act, ◌>>=◌, ◌>>◌, and_then, give, enqueue, send_out, new_gift, open_gift, mark, alter, come, mail, new_message, new_lone_message, draw, draws, drawn_at, is_in}
use Rattle.def_machine.specs.Refs as refs
use Rattle.def_machine.specs.Refs.{Place, Away}
use Rattle.def_machine.proofs.Keys.{word_key, word_under_key}
use Rattle.law_machine.specs.Machine.Steps.{After}
use Rattle.law_order.specs.Ordering.Worlds.{LetsNothingGo}
use Rattle.law_order.proofs.Ordering.Moves.{Keeps, IsKept, keeps_bind, keeps_then, keeps_if, keeps_give, keeps_stop, keeps_look, keeps_tell, keeps_spend, widen}
use Rattle.law_order.proofs.Ordering.Passings.{keeps_pass}
use Rattle.law_order.proofs.Cuts.Walk.{IsWalked}
use Rattle.law_order.proofs.Ordering.Below.{in_more, key_in_last, key_is_new}
use Rattle.law_order.specs.Cuts.Letting.{lets_go, once}
use Rattle.law_order.proofs.Cuts.Counts.{counts_one, letting_put, more_put}

-- ---- draws

-- one where the word of that key was drawn, else zero
unfoldable pub drawn_of : ℕ → List ℕ → ℕ
drawn_of i ds = once (is_in (word_of i) ds)

pub drawn_most : (i : ℕ) (ds : List ℕ) → drawn_of i ds ≤ 1
unfolding drawn_of once
drawn_most i ds = go (is_in (word_of i) ds)
  where
    go : (b : Bool) → once b ≤ 1
    go true = omega arith
    go false = omega arith

counts_none : (b : Bool) → b ≡ false → once b ≡ 0
unfolding once
counts_none true e = cc
counts_none false e = refl

-- more was drawn
once_more : (a b : Bool) → (a ≡ true → b ≡ true) → once a ≤ once b
unfolding once
once_more true b f = let one = counts_one b (f refl) in omega arith
once_more false b f = omega arith

new_word : (w : ℕ) (ds : List ℕ) → drawn_at zero w ds ≡ None → is_in w ds ≡ false
new_word w ds e = subst (λ x. is_in x ds ≡ false) (word_key zero w) (key_is_new zero w ds e)

last_word : (w : ℕ) (ds : List ℕ) → is_in w (ds ++ w ∷ []) ≡ true
last_word w ds = subst (λ x. is_in x (ds ++ w ∷ []) ≡ true) (word_key zero w) (key_in_last zero w ds)

-- a key of a new word is paid by its draw
pub paid : (i k w : ℕ) (ds : List ℕ) → word_of k ≡ w → drawn_at zero w ds ≡ None → once (k == i) + drawn_of i ds ≤ drawn_of i (ds ++ w ∷ [])
unfolding drawn_of once
paid i k w ds e new = go (k == i) refl
  where
    go : (b : Bool) → (k == i) ≡ b → once b + once (is_in (word_of i) ds) ≤ once (is_in (word_of i) (ds ++ w ∷ []))
    go true f =
        let same : word_of i ≡ w = ap word_of (sym (eqb-true k i f)) ∙ e in
        let before = counts_none (is_in (word_of i) ds) (ap (λ x. is_in x ds) same ∙ new_word w ds new) in
        let now = counts_one (is_in (word_of i) (ds ++ w ∷ [])) (ap (λ x. is_in x (ds ++ w ∷ [])) same ∙ last_word w ds) in omega arith
    go false f = let more = once_more (is_in (word_of i) ds) (is_in (word_of i) (ds ++ w ∷ [])) (in_more w ds (word_of i)) in omega arith

-- ---- what is put

-- From s to t no more notes of the key were put than draws of its word were made, and so many.
pub record Pays (i extra : ℕ) (s t : Vat Name) : Type 0 where
  pub count : letting_put i t.outbox + drawn_of i s.drawn ≤ letting_put i s.outbox + drawn_of i t.drawn + extra

lets_none : (i : ℕ) (n : Note Name) → LetsNothingGo n → once (lets_go i n) ≡ 0
unfolding lets_go once
lets_none i (Open j n) h = absurd h
lets_none i (Shorten n c j) h = absurd h
lets_none i other h = refl

pub base : (i : ℕ) → IsKept (Pays i 0)
base i = record {
  same = λ s. record { count = omega arith };
  trans = λ h k. record { count = let a = h.count in let b = k.count in omega arith };
  fuel = λ s n. record { count = omega arith };
  happened = λ s e. record { count = omega arith };
  activations = λ s. record { count = omega arith };
  thing = λ s t. record { count = omega arith };
  killed = λ s n. record { count = omega arith };
  slot = λ s c. record { count = omega arith };
  written = λ s n v. record { count = omega arith };
  list = λ s vs. record { count = omega arith };
}

pub ruleset pays = (keeps_bind, keeps_then, keeps_if, keeps_give, keeps_stop, keeps_look, keeps_tell, keeps_spend, base)

module _ (i : ℕ) where
  abbrev R : Vat Name → Vat Name → Type 0
  R = Pays i 0

  pub pays_enqueue : (m : Message Name) → Keeps R (enqueue m)
  unfolding enqueue
  pays_enqueue m = record { after = λ s. record { count = omega arith } }

  pub pays_gift : (n : Name) (p j : ℕ) → Keeps R (new_gift n p j)
  unfolding new_gift
  pays_gift n p j = record { after = λ s. record { count = omega arith } }

  pub pays_open : (p j : ℕ) → Keeps {N = Name} R (open_gift p j)
  unfolding open_gift
  pays_open p j = record { after = λ s. record { count = omega arith } }

  pub pays_mark : (w : ℕ) → Keeps {N = Name} R (mark w)
  unfolding mark
  pays_mark w = record { after = λ s. record { count = omega arith } }

  pub pays_out : (w : ℕ) (n : Note Name) → LetsNothingGo n → Keeps R (send_out w n)
  unfolding send_out
  pays_out w n h = record { after = λ s. record { count = let more = more_put i s.outbox (record { to = w; note = n }) in let none = lets_none i n h in omega arith } }

  module _ (K : Naming Name Name) where
    pub pays_alter : (c : Change Name) (n : Name) → Keeps R (alter K c n)
    unfolding alter
    pays_alter c n = record { after = λ s. record { count = omega arith } }

    pub pays_come : (c : Coming Name Name) (h : ℕ) → Keeps R (come K c h)
    unfolding come
    pays_come c h = record { after = λ s. record { count = omega arith } }

    pub pays_mail : (c : Mailing Name) → Keeps R (mail K c)
    unfolding mail
    pays_mail c = record { after = λ s. record { count = omega arith } }

    pub pays_message : (h : ℕ) → Keeps R (new_message K h)
    unfolding new_message
    pays_message h = record { after = λ s. record { count = omega arith } }

    pub pays_lone : Keeps R (new_lone_message K)
    unfolding new_lone_message
    pays_lone = record { after = λ s. record { count = omega arith } }

    -- a gift is let go as its word is drawn
    lets_after : (s : Vat Name) (h w : ℕ) (n : Name) (o : Option ℕ) → drawn_at zero w s.drawn ≡ o → After R s (and_then (draws w o s) (λ j. send_out h (Open j n) >> give {A = Passed Name} (AGift h j)))
    unfolding draws and_then send_out give ◌>>◌ lets_go key
    lets_after s h w n (Some j) e = record { count = omega arith }
    lets_after s h w n None e = record { count = let more = more_put i s.outbox (record { to = h; note = Open (key s.number w) n }) in let pay : once (lets_go i (Open (key s.number w) n)) + drawn_of i s.drawn ≤ drawn_of i (s.drawn ++ w ∷ []) = paid i (key s.number w) w s.drawn (word_key s.number w) e in omega arith }

    lets_one : (h : ℕ) (n : Name) → Keeps {A = Passed Name} R (draw K >>= (λ j. send_out h (Open j n) >> give (AGift h j)))
    unfolding draw ◌>>=◌
    lets_one h n = record { after = λ s. lets_after s h _ n _ refl }

    -- so is one whose provider is asked to
    asked : (s : Vat Name) (h c w : ℕ) (n : Name) → drawn_at zero w s.drawn ≡ None → R s (record s { drawn = s.drawn ++ w ∷ []; outbox = s.outbox ++ record { to = h; note = Shorten n c (under h (key s.number w)) } ∷ [] })
    unfolding lets_go under
    asked s h c w n e = record {
      count = let more = more_put i s.outbox (record { to = h; note = Shorten n c (under h (key s.number w)) }) in
          let pay : once (lets_go i (Shorten n c (under h (key s.number w)))) + drawn_of i s.drawn ≤ drawn_of i (s.drawn ++ w ∷ []) = paid i (under h (key s.number w)) w s.drawn (word_under_key h s.number w) e in omega arith;
    }

    asks_after : (s : Vat Name) (h c w : ℕ) (n : Name) (f : ℕ → Act Name (Unit {0})) → ((j : ℕ) → Keeps R (f j)) → (o : Option ℕ) → drawn_at zero w s.drawn ≡ o → After R s (and_then (draws w o s) (λ j. send_out h (Shorten n c (under h j)) >> f j))
    unfolding draws and_then send_out ◌>>◌
    asks_after s h c w n f g (Some j) e = record { count = omega arith }
    asks_after s h c w n f g None e =
        let t : Vat Name = record s { drawn = s.drawn ++ w ∷ []; outbox = s.outbox ++ record { to = h; note = Shorten n c (under h (key s.number w)) } ∷ [] } in
        widen R (base i) (asked s h c w n e) (f (key s.number w) t) ((g (key s.number w)).after t)

    pub asks_one : (h c : ℕ) (n : Name) (f : ℕ → Act Name (Unit {0})) → ((j : ℕ) → Keeps R (f j)) → Keeps R (draw K >>= (λ j. send_out h (Shorten n c (under h j)) >> f j))
    unfolding draw ◌>>=◌
    asks_one h c n f g = record { after = λ s. asks_after s h c _ n f g _ refl }

    -- what a name settled to passes
    settled_out : (p : Name) (w : ℕ) (y : Value Name) → Keeps R (refs.pass K w y >>= (λ z. send_out w (SettledTo p z)))
    settled_out p w y = keeps_bind R (base i) (keeps_pass K R (base i) (λ h n. pays_alter _ n) lets_one w y) (λ z. pays_out w (SettledTo p z) tt)

    pays_inform_of : (p : Name) (w : ℕ) (y : Value Name) (q : Place Name) → Keeps R (refs.inform_of K p w y q)
    unfolding refs.inform_of
    pays_inform_of p w y (Away h n true) = pays_out w (Elsewhere p h) tt
    pays_inform_of p w y other = settled_out p w y

    pays_inform : (p : Name) (w : ℕ) → Keeps R (refs.inform K p w)
    unfolding refs.inform
    pays_inform p w = search (pays, pays_inform_of) depth 14

    pub pays_walked : IsWalked K R (λ p s. Unit {0})
    pays_walked = record {
      base = base i;
      queues = pays_enqueue;
      gifts = pays_gift;
      opens = pays_open;
      marks = pays_mark;
      alters = pays_alter;
      comes = pays_come;
      mails = pays_mail;
      messages = pays_message;
      lones = pays_lone;
      promised = λ s. record { count = omega arith };
      delivers = λ w d n verb ys. pays_out w (Deliver d n verb ys) tt;
      asks = λ w p j n. pays_out w (Ask p j n) tt;
      lets = lets_one;
      wants = asks_one;
      informs = λ p w s may. (pays_inform p w).after s;
      may_stay = λ p s t h may. tt;
      may_settle = λ p y k s t e f g. tt;
      may_settled = λ p y s e. tt;
    }
