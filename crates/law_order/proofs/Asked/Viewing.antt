-- As a vat is told that a name settled at another vat, it draws a word for the gift there that is the name's view: it asks for no other gift, and no other comes to stand.
use Rattle.std.proofs.Common.{◌≡◌, ℕ, zero, ◌+◌, ◌≤◌, Bool, true, false, [], ◌∷◌, ◌++◌, Option, Some, None, refl, ap, ◌∙◌, ◌⊎◌, inl, inr, arith, if◌then◌else◌, codes, length}
use Rattle.std.specs.Prelude.{◌==◌, ◌&&◌}
use Rattle.def_machine.specs.Values.{Broken, Name, Naming, IsGift, IsLearnt, key, word_of, under}
use Rattle.def_machine.specs.State.{Ask, Shorten, Put, GiftEntry, Vat, Done, Gives, Throws, Ejects, Stops, Act, ◌>>=◌, ◌>>◌, and_then, give, look, tell, send_out, alter, come, new_gift, draw, draws, drawn_at, is_in, begun}
use Rattle.def_machine.specs.Refs as refs
use Rattle.def_machine.specs.Arrive as arrive
use Rattle.def_machine.specs.Arrive.{Incoming, Old, New, gift_at}
use Rattle.def_machine.proofs.Keys.{word_under_key}
use Rattle.law_machine.specs.Machine.Steps.{After}
use Rattle.law_reference.specs.Reference.GiftPassing.{gifts_in_note}
use Rattle.law_reference.proofs.Reference.Puts.{gifts_out, out_end}
use Rattle.law_order.specs.Cuts.Letting.{once}
use Rattle.law_order.proofs.Cuts.Puts.{drawn_of, paid}
use Rattle.law_order.proofs.Asked.Weighs.{asks_for, asks_put, is_shut, shut_in, more_asked, more_shut, Weighs, weighs_settle}

module _ (i : ℕ) where
  abbrev Weight : Vat Name → ℕ
  Weight s = asks_put i s.outbox + shut_in i s.gifts + gifts_out i s.outbox

  -- What is asked for, what comes to stand unopened and what passes was paid by a draw.
  pub record Paid (s t : Vat Name) : Type 0 where
    pub count : asks_put i t.outbox + shut_in i t.gifts + gifts_out i t.outbox + drawn_of i s.drawn ≤ asks_put i s.outbox + shut_in i s.gifts + gifts_out i s.outbox + drawn_of i t.drawn

  -- nothing was drawn, and so many came
  record Lone (extra : ℕ) (s t : Vat Name) : Type 0 where
    count : Weight t ≤ Weight s + extra
    drawn : t.drawn ≡ s.drawn

  lone_later : {A : Type 0} (e : ℕ) (s t : Vat Name) → Lone e s t → (d : Done Name A) → After (Lone 0) t d → After (Lone e) s d
  lone_later e s t h (Gives a u) k = record { count = let x = h.count in let y = k.count in omega arith; drawn = k.drawn ∙ h.drawn }
  lone_later e s t h other k = record { count = let x = h.count in let y = k.count in omega arith; drawn = k.drawn ∙ h.drawn }

  lone_then : {A B : Type 0} (e : ℕ) (s : Vat Name) (d : Done Name A) (f : A → Act Name B) → After (Lone e) s d → ((a : A) (t : Vat Name) → After (Lone 0) t (f a t)) → After (Lone e) s (and_then d f)
  unfolding and_then
  lone_then e s (Gives a t) f h k = lone_later e s t h (f a t) (k a t)
  lone_then e s other f h k = h

  single : (b : Bool) → once (b && true) ≡ once b
  unfolding once
  single true = refl
  single false = refl

  module _ (K : Naming Name Name) where
    had_after : (v p j : ℕ) (o : Option (GiftEntry Name)) (s : Vat Name) → After (Lone (once (j == i))) s (arrive.gift_or_new K v p j o s)
    unfolding arrive.gift_or_new ◌>>=◌ ◌>>◌ and_then come new_gift give is_shut
    had_after v p j (Some g) s = record { count = omega arith; drawn = refl }
    had_after v p j None s = record {
      count = let more = more_shut i s.gifts (record { name = K.made (IsGift v j) (length s.known); provider = p; number = j; opened = false }) in let one = single (j == i) in omega arith;
      drawn = refl;
    }

    there_after : (v h c j : ℕ) (s : Vat Name) → After (Lone (once (j == i))) s (arrive.gift_there K v h c j s)
    unfolding arrive.gift_there arrive.have_gift ◌>>=◌ ◌>>◌ and_then look come send_out give asks_for gifts_in_note
    there_after v h c j s = go (c == v)
      where
        go : (b : Bool) → After (Lone (once (j == i))) s ((if b then arrive.have_gift K h j else (come K (IsGift c j) c >>= (λ g. send_out c (Ask h j g) >> give g))) s)
        go true = had_after s.number h j (gift_at h j s.gifts) s
        go false = record {
          count = let n : Name = K.made (IsGift c j) (length s.known) in let more = more_asked i s.outbox (record { to = c; note = Ask h j n }) in let out = out_end i s.outbox (record { to = c; note = Ask h j n }) in omega arith;
          drawn = refl;
        }

    see_after : (n g : Name) (s : Vat Name) → After (Lone 0) s (arrive.see K n g s)
    unfolding arrive.see ◌>>=◌ ◌>>◌ and_then tell alter
    see_after n g s = record { count = omega arith; drawn = refl }

    -- ---- the draw

    pays : (s t u : Vat Name) (w j : ℕ) → word_of j ≡ w → drawn_at zero w s.drawn ≡ None → Weight t ≡ Weight s → t.drawn ≡ s.drawn ++ w ∷ [] → Lone (once (j == i)) t u → Weight u + drawn_of i s.drawn ≤ Weight s + drawn_of i u.drawn
    pays s t u w j word new weight drawn k = let pay = paid i j w s.drawn word new in let more = k.count in let same : drawn_of i u.drawn ≡ drawn_of i (s.drawn ++ w ∷ []) = ap (λ ds. drawn_of i ds) (k.drawn ∙ drawn) in omega arith

    -- where the key of a new word is paid for
    pay_later : {A : Type 0} (s t : Vat Name) (w j : ℕ) → word_of j ≡ w → drawn_at zero w s.drawn ≡ None → Weight t ≡ Weight s → t.drawn ≡ s.drawn ++ w ∷ [] → (d : Done Name A) → After (Lone (once (j == i))) t d → After Paid s d
    pay_later s t w j word new weight drawn (Gives a u) k = record { count = pays s t u w j word new weight drawn k }
    pay_later s t w j word new weight drawn (Throws p u) k = record { count = pays s t u w j word new weight drawn k }
    pay_later s t w j word new weight drawn (Ejects n x u) k = record { count = pays s t u w j word new weight drawn k }
    pay_later s t w j word new weight drawn (Stops c u) k = record { count = pays s t u w j word new weight drawn k }

    drawn_after : (v h c : ℕ) (n : Name) (s : Vat Name) (w : ℕ) (o : Option ℕ) → drawn_at zero w s.drawn ≡ o
        → After Paid s (and_then (draws w o s) (λ j. send_out h (Shorten n c (under h j)) >> (arrive.gift_there K v h c (under h j) >>= (λ g. arrive.see K n g))))
    unfolding draws and_then send_out ◌>>◌ ◌>>=◌ asks_for gifts_in_note once
    drawn_after v h c n s w (Some k) e = record { count = omega arith }
    drawn_after v h c n s w None e =
        let j : ℕ = under h (key s.number w) in let p : Put Name = record { to = h; note = Shorten n c j } in
        let t : Vat Name = record s { drawn = s.drawn ++ w ∷ []; outbox = s.outbox ++ p ∷ [] } in
        let more = more_asked i s.outbox p in let out = out_end i s.outbox p in
        pay_later s t w j (word_under_key h s.number w) e (omega arith) refl (and_then (arrive.gift_there K v h c j t) (λ g. arrive.see K n g))
        (lone_then (once (j == i)) t (arrive.gift_there K v h c j t) (λ g. arrive.see K n g) (there_after v h c j t) (λ g u. see_after n g u))

    viewed_after : (n : Name) (c : ℕ) (s : Vat Name) → After Paid s (arrive.view_there K n c s)
    unfolding arrive.view_there ◌>>=◌ and_then look draw
    viewed_after n c s = drawn_after s.number _ c n s _ _ refl

    -- ---- the note

    -- It asks for nothing, and none comes to stand; or a draw paid for it.
    abbrev pub Either : Vat Name → Vat Name → Type 0
    Either s t = Weighs i 0 s t ⊎ Paid s t

    either_gone : {A : Type 0} (s : Vat Name) (d : Done Name A) → After (Weighs i 0) s d → After Either s d
    either_gone s (Gives a t) h = inl h
    either_gone s (Throws p t) h = inl h
    either_gone s (Ejects n x t) h = inl h
    either_gone s (Stops c t) h = inl h

    either_viewed : {A : Type 0} (s : Vat Name) (d : Done Name A) → After Paid s d → After Either s d
    either_viewed s (Gives a t) h = inr h
    either_viewed s (Throws p t) h = inr h
    either_viewed s (Ejects n x t) h = inr h
    either_viewed s (Stops c t) h = inr h

    gone_or : (n : Name) (c : ℕ) (s : Vat Name) (b : Bool) → After Either s ((if b then refs.settle K n (Broken (codes "partition")) else arrive.view_there K n c) s)
    gone_or n c s true = either_gone s (refs.settle K n (Broken (codes "partition")) s) ((weighs_settle i K n (Broken (codes "partition"))).after s)
    gone_or n c s false = either_viewed s (arrive.view_there K n c s) (viewed_after n c s)

    -- a name that comes to be known adds nothing
    from_known : (s t u : Vat Name) → t.outbox ≡ s.outbox → t.gifts ≡ s.gifts → t.drawn ≡ s.drawn → Either t u → Either s u
    from_known s t u e f g (inl h) = let a : asks_put i t.outbox ≡ asks_put i s.outbox = ap (λ ps. asks_put i ps) e in let b : shut_in i t.gifts ≡ shut_in i s.gifts = ap (λ gs. shut_in i gs) f in inl (record { count = let k = h.count in omega arith })
    from_known s t u e f g (inr h) = let a : asks_put i t.outbox ≡ asks_put i s.outbox = ap (λ ps. asks_put i ps) e in let b : shut_in i t.gifts ≡ shut_in i s.gifts = ap (λ gs. shut_in i gs) f in
        let o : gifts_out i t.outbox ≡ gifts_out i s.outbox = ap (λ ps. gifts_out i ps) e in let d : drawn_of i t.drawn ≡ drawn_of i s.drawn = ap (λ ds. drawn_of i ds) g in inr (record { count = let k = h.count in omega arith })

    known_then : {A : Type 0} (s t : Vat Name) → t.outbox ≡ s.outbox → t.gifts ≡ s.gifts → t.drawn ≡ s.drawn → (d : Done Name A) → After Either t d → After Either s d
    known_then s t e f g (Gives a u) h = from_known s t u e f g h
    known_then s t e f g (Throws p u) h = from_known s t u e f g h
    known_then s t e f g (Ejects n x u) h = from_known s t u e f g h
    known_then s t e f g (Stops c u) h = from_known s t u e f g h

    pub elsewhere_after : (x : Incoming Name Name) (c : ℕ) (s : Vat Name) → After Either s (arrive.arrive_elsewhere K x c s)
    unfolding arrive.arrive_elsewhere arrive.learn_name ◌>>=◌ and_then look come give
    elsewhere_after (Old n) c s = gone_or n c s (is_in c s.noticed)
    elsewhere_after (New n h) c s = known_then s (record s { known = s.known ++ begun (K.made (IsLearnt n) (length s.known)) h ∷ [] }) refl refl refl _
        (gone_or (K.made (IsLearnt n) (length s.known)) c (record s { known = s.known ++ begun (K.made (IsLearnt n) (length s.known)) h ∷ [] }) (is_in c s.noticed))
