-- What settles no name by itself does not go astray, and of the first names known it leaves no more unsettled.
use Rattle.std.proofs.Common.{◌≡◌, ℕ, ◌≤◌, Bool, true, false, List, [], ◌∷◌, ◌++◌, Option, Some, None, if◌then◌else◌, length, arith}
use Rattle.std.specs.Prelude.{nat_le}
use Rattle.def_machine.specs.Values.{Value, Broken, Naming, IsAnswer}
use Rattle.def_machine.specs.State.{Message, Known, Change, Hold, Wait, WaitOn, ToTell, Passed, Passeds, Plain, AGift, Many, NoMore, More, Note, Happened, Vat, Astray, Done, Gives, Throws, Ejects, Stops, Act, ◌>>=◌, ◌>>◌, and_then, WhereSome, for_some, each, give, look, tell, spend, spent, enqueue, send_out, draws, draw, with_change, alter, come, begun}
use Rattle.def_machine.specs.Refs as refs
use Rattle.def_machine.specs.Refs.{Place, Near, Mine, Away, Gone}
use Rattle.law_fate.specs.Name.Names.{AllOf}
use Rattle.law_never_astray.specs.Settlings.{IsAsked, EntryWaits}
use Rattle.law_never_astray.proofs.Counts.{open_of, open_change, open_end}

module _ {N W : Type 0} (K : Naming N W) (mail : N → Bool) where
  -- what comes to wait is told by P
  abbrev pub ChangeWaits : (N → Type 0) → Change N → Type 0
  ChangeWaits P (Hold m) = IsAsked K mail P m
  ChangeWaits P (Wait q) = P q
  ChangeWaits P other = Unit {0}

  -- where I is kept of what is known, among which there are b names
  module _ (P : N → Type 0) (b : ℕ) (I : List (Known N) → Type 0) (long : (ks : List (Known N)) → I ks → b ≤ length ks)
      (alters : (c : Change N) (n : N) (ks : List (Known N)) → ChangeWaits P c → I ks → I (with_change K c n ks))
      (answers : (h : ℕ) (m : N) (k i : ℕ) (ks : List (Known N)) → mail m ≡ true → I ks → I (ks ++ begun (K.made (IsAnswer h m) k) i ∷ [])) where
    -- ---- how it ends: not astray, and with no more that has not settled

    abbrev pub Kept : Vat N → Vat N → Type 0
    Kept s t = I t.known × (open_of b t.known ≤ open_of b s.known)

    abbrev pub EndsSure : {A : Type 0} → Vat N → Done N A → Type 0
    EndsSure s (Gives a t) = Kept s t
    EndsSure s (Throws p t) = Kept s t
    EndsSure s (Ejects n v t) = Kept s t
    EndsSure s (Stops c t) = c ≡ Astray → ⊥

    -- from every such state in which no more than c of them have not settled
    pub record Sure (c : ℕ) {A : Type 0} (m : Act N A) : Type 0 where
      pub after : (s : Vat N) → I s.known → open_of b s.known ≤ c → EndsSure s (m s)

    pub widen : {A : Type 0} (s t : Vat N) (d : Done N A) → open_of b t.known ≤ open_of b s.known → EndsSure t d → EndsSure s d
    widen s t (Stops c u) l h = h
    widen s t other l h = (h.0, let m = h.1 in omega arith)

    module _ (c : ℕ) where
      bind_ends : {A B : Type 0} (s : Vat N) (d : Done N A) (f : A → Act N B) → open_of b s.known ≤ c → EndsSure s d → ((a : A) → Sure c (f a)) → EndsSure s (and_then d f)
      unfolding and_then
      bind_ends s (Gives a t) f l h k = widen s t (f a t) h.1 ((k a).after t h.0 (let m = h.1 in omega arith))
      bind_ends s other f l h k = h

      pub sure_bind : {A B : Type 0} {m : Act N A} {f : A → Act N B} → Sure c m → ((a : A) → Sure c (f a)) → Sure c (m >>= f)
      unfolding ◌>>=◌
      sure_bind {m = m} {f = f} h k = record { after = λ s w l. bind_ends s (m s) f l (h.after s w l) k }

      pub sure_then : {A B : Type 0} {m : Act N A} {n : Act N B} → Sure c m → Sure c n → Sure c (m >> n)
      unfolding ◌>>◌
      sure_then {m = m} {n = n} h k = record { after = λ s w l. bind_ends s (m s) (λ _. n) l (h.after s w l) (λ _. k) }

      pub sure_if : {A : Type 0} (x : Bool) {m n : Act N A} → Sure c m → Sure c n → Sure c (if x then m else n)
      sure_if true h k = h
      sure_if false h k = k

      sure_asked : {B : Type 0} (o : Option N) {f : N → Act N B} {m : Act N B} → WhereSome P o → ((a : N) → P a → Sure c (f a)) → Sure c m → Sure c (for_some o f m)
      unfolding for_some
      sure_asked (Some a) g h k = h a g
      sure_asked None g h k = k

      pub sure_give : {A : Type 0} (a : A) → Sure c (give a)
      unfolding give
      sure_give a = record { after = λ s w l. (w, omega arith) }

      pub sure_look : {A : Type 0} (f : Vat N → A) → Sure c (look f)
      unfolding look
      sure_look f = record { after = λ s w l. (w, omega arith) }

      pub sure_tell : (e : Happened N) → Sure c (tell e)
      unfolding tell
      sure_tell e = record { after = λ s w l. (w, omega arith) }

      spend_ends : (n : ℕ) (x : Bool) (s : Vat N) → I s.known → EndsSure s (spent n x s)
      unfolding spent
      spend_ends n true s w = (w, omega arith)
      spend_ends n false s w = λ e. cc

      sure_spend : (n : ℕ) → Sure c (spend n)
      unfolding spend
      sure_spend n = record { after = λ s w l. spend_ends n (nat_le n s.fuel) s w }

      pub sure_enqueue : (m : Message N) → Sure c (enqueue m)
      unfolding enqueue
      sure_enqueue m = record { after = λ s w l. (w, omega arith) }

      pub sure_out : (to : ℕ) (n : Note N) → Sure c (send_out to n)
      unfolding send_out
      sure_out to n = record { after = λ s w l. (w, omega arith) }

      draws_ends : (x : ℕ) (o : Option ℕ) (s : Vat N) → I s.known → EndsSure s (draws x o s)
      unfolding draws
      draws_ends x (Some i) s w = λ e. cc
      draws_ends x None s w = (w, omega arith)

      pub sure_draw : Sure c (draw K)
      unfolding draw
      sure_draw = record { after = λ s w l. draws_ends _ _ s w }

      pub sure_alter : (d : Change N) (n : N) → ChangeWaits P d → Sure c (alter K d n)
      unfolding alter
      sure_alter d n g = record { after = λ s w l. (alters d n s.known g w, open_change K d n b s.known) }

      pub sure_hold : (m : Message N) (n : N) → IsAsked K mail P m → Sure c (alter K (Hold m) n)
      sure_hold m n g = sure_alter (Hold m) n g

      sure_wait : (q n : N) → P q → Sure c (alter K (Wait q) n)
      sure_wait q n g = sure_alter (Wait q) n g

      sure_wait_on : (q n : N) → Sure c (alter K (WaitOn q) n)
      sure_wait_on q n = sure_alter (WaitOn q) n tt

      sure_to_tell : (w : ℕ) (n : N) → Sure c (alter K (ToTell w) n)
      sure_to_tell w n = sure_alter (ToTell w) n tt

      sure_come : (h : ℕ) (m : N) (i : ℕ) → mail m ≡ true → Sure c (come K (IsAnswer h m) i)
      unfolding come
      sure_come h m i g = record { after = λ s w l. (answers h m (length s.known) i s.known g w, let e = open_end K b s.known (begun (K.made (IsAnswer h m) (length s.known)) i) (long s.known w) in omega arith) }

      pub sure_each : {A : Type 0} {f : A → Act N (Unit {0})} (Q : A → Type 0) (xs : List A) → AllOf Q xs → ((x : A) → Q x → Sure c (f x)) → Sure c (each f xs)
      unfolding each
      sure_each Q [] h k = sure_give tt
      sure_each Q (x ∷ xs) h k = sure_then (k x h.0) (sure_each Q xs h.1 k)

      pub sure_any : {A : Type 0} {f : A → Act N (Unit {0})} (xs : List A) → ((x : A) → Sure c (f x)) → Sure c (each f xs)
      unfolding each
      sure_any [] k = sure_give tt
      sure_any (x ∷ xs) k = sure_then (k x) (sure_any xs k)

      ruleset sure = (sure_bind, sure_then, sure_if, sure_give, sure_look, sure_tell, sure_spend, sure_enqueue, sure_out, sure_draw, sure_wait_on, sure_to_tell)

      sure_address_plain : (w : ℕ) (y : Value N) (p : Place N) → Sure c (refs.address_plain K w y p)
      unfolding refs.address_plain
      sure_address_plain w y (Away h n o) = search (sure) depth 14
      sure_address_plain w y other = search (sure) depth 14

      mutual
        unfolding refs.address refs.address_all

        sure_address : (w : ℕ) (y : Passed N) → Sure c (refs.address K w y)
        sure_address w (Plain y) = search (sure, sure_address_plain) depth 14
        sure_address w (AGift h i) = search (sure) depth 14
        sure_address w (Many ys) = sure_bind (sure_address_all w ys) (λ zs. sure_give (Many zs))

        sure_address_all : (w : ℕ) (ys : Passeds N) → Sure c (refs.address_all K w ys)
        sure_address_all w NoMore = search (sure) depth 14
        sure_address_all w (More y ys) = sure_bind (sure_address w y) (λ z. sure_bind (sure_address_all w ys) (λ zs. sure_give (More z zs)))

      pub sure_pass : (w : ℕ) (x : Value N) → Sure c (refs.pass K w x)
      unfolding refs.pass
      sure_pass w x = search (sure, sure_address) depth 14

      sure_pass_all : (w : ℕ) (xs : List (Value N)) → Sure c (refs.pass_all K w xs)
      unfolding refs.pass_all
      sure_pass_all w [] = search (sure) depth 14
      sure_pass_all w (x ∷ xs) = sure_bind (sure_pass w x) (λ y. sure_bind (sure_pass_all w xs) (λ ys. sure_give (More y ys)))

      pub sure_deliver : (m : Message N) (h : ℕ) (n : N) → Sure c (refs.deliver K m h n)
      unfolding refs.deliver
      sure_deliver m h n = search (sure, sure_pass_all) depth 14

      sure_inform_of : (p : N) (w : ℕ) (y : Value N) (q : Place N) → Sure c (refs.inform_of K p w y q)
      unfolding refs.inform_of
      sure_inform_of p w y (Away h n true) = search (sure) depth 14
      sure_inform_of p w y other = search (sure, sure_pass) depth 14

      pub sure_inform : (p : N) (w : ℕ) → Sure c (refs.inform K p w)
      unfolding refs.inform
      sure_inform p w = search (sure, sure_inform_of) depth 14

      pub sure_waits : (p q : N) → P p → Sure c (refs.wait_on K p q)
      unfolding refs.wait_on
      sure_waits p q g = search (sure, sure_wait) depth 14

      pub sure_pass_on : (m : Message N) → IsAsked K mail P m → (h : ℕ) (n : N) → Sure c (refs.pass_on K m h n)
      unfolding refs.pass_on
      sure_pass_on m g h n = sure_asked m.answer g.1 (λ p i. sure_bind (sure_come h m.id h g.0) (λ a. sure_then (sure_deliver _ h n) (sure_waits p a i))) (sure_deliver m h n)

      abbrev pub SureSettler : (N → Value N → Act N (Unit {0})) → Type 0
      SureSettler settle = (p : N) → P p → (y : Value N) → Sure c (settle p y)

      module _ (settle : N → Value N → Act N (Unit {0})) (good : SureSettler settle) where
        pub sure_send_to : (m : Message N) → IsAsked K mail P m → (y : Value N) (q : Place N) → Sure c (refs.send_to K settle m y q)
        unfolding refs.send_to
        sure_send_to m g y Near = search (sure) depth 14
        sure_send_to m g y (Mine n) = sure_hold (record m { target = y }) n g
        sure_send_to m g y (Away h n o) = sure_pass_on m g h n
        sure_send_to m g y (Gone t) = sure_then (sure_tell _) (sure_asked m.answer g.1 (λ a i. good a i (Broken t)) (sure_give tt))

        pub sure_send_on : (m : Message N) → IsAsked K mail P m → Sure c (refs.send_on K settle m)
        unfolding refs.send_on
        sure_send_on m g = sure_bind (sure_look _) (λ y. sure_bind (sure_look _) (λ q. sure_send_to m g y q))

        -- what follows once a name settled
        pub sure_wakes : (p : N) (y : Value N) (k : Known N) → EntryWaits K mail P k → Sure c (each (refs.send_on K settle) k.held >> (each (λ q. settle q y) k.waiting >> (each enqueue k.reactions >> each (refs.inform K p) k.told)))
        sure_wakes p y k h = sure_then (sure_each (IsAsked K mail P) k.held h.1 (λ m g. sure_send_on m g)) (sure_then (sure_each P k.waiting h.0 (λ q g. good q g y)) (sure_then (sure_any k.reactions (λ m. sure_enqueue m)) (sure_any k.told (λ w. sure_inform p w))))
