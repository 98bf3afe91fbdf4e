-- What a vat does with references makes nothing, and draws no more words than it pays for.
use Rattle.std.proofs.Common.{◌≡◌, ℕ, zero, suc, ◌+◌, ◌-◌, ◌≤◌, Bool, true, false, List, [], ◌∷◌, Option, Some, None, if◌then◌else◌, ◌==◌, refl, length, arith, leb-true}
use Rattle.std.specs.Prelude.{nat_le}
use Rattle.def_machine.specs.Values.{Words, Value, Naming, Coming, Mailing}
use Rattle.def_machine.specs.State.{Change, Wait, WaitOn, Message, Put, Standing, Settled, Known, Open, SettledTo, Elsewhere, Passed, Passeds, Plain, AGift, Many, NoMore, More, Vat, Done, Gives, Stops, Act, ◌>>=◌, ◌>>◌, and_then, give, look, spend, spent, draw, draws, drawn_at, send_out, alter, come, mail, new_promise, new_message, new_lone_message}
use Rattle.def_machine.specs.Refs as refs
use Rattle.def_machine.specs.Refs.{Place, Near, Mine, Away, Gone}
use Rattle.law_machine.specs.Costs.Sizes.{made, load, loads, note_load}
use Rattle.law_machine.proofs.Costs.Costs.{Prices, paid_rest, paid_for, all_end, one_longer, Short, worth, Ends, Costs, carry, cost_bind, free_bind, free_then, cost_give, cost_stop, cost_look, cost_some, cost_if, free_each, cost_tell, cost_enqueue, cost_out}
use Rattle.law_machine.proofs.Costs.Passing.{light_parcel}

module _ (P : Prices) where
  -- ---- single changes of what is known

  module _ {N W : Type 0} (K : Naming N W) where
    pub cost_alter : (c : Change N) (n : N) → Costs P 10 0 (alter K c n)
    unfolding alter made
    cost_alter c n = record { after = λ s short. (record { fuel = short.fuel; lists = short.lists; outbox = short.outbox }, omega arith) }

    pub cost_come : (c : Coming N W) (h : ℕ) → Costs P 10 0 (come K c h)
    unfolding come made
    cost_come c h = record { after = λ s short. (record { fuel = short.fuel; lists = short.lists; outbox = short.outbox }, omega arith) }

    pub cost_mail : (c : Mailing W) → Costs P 10 0 (mail K c)
    unfolding mail made
    cost_mail c = record { after = λ s short. (record { fuel = short.fuel; lists = short.lists; outbox = short.outbox }, omega arith) }

    pub cost_promise : Costs P 11 0 (new_promise K)
    unfolding new_promise made
    cost_promise = record { after = λ s short. (record { fuel = short.fuel; lists = short.lists; outbox = short.outbox }, omega arith) }

    pub cost_message : (h : ℕ) → Costs P 11 0 (new_message K h)
    unfolding new_message made
    cost_message h = record { after = λ s short. (record { fuel = short.fuel; lists = short.lists; outbox = short.outbox }, omega arith) }

    pub cost_lone_message : Costs P 11 0 (new_lone_message K)
    unfolding new_lone_message made
    cost_lone_message = record { after = λ s short. (record { fuel = short.fuel; lists = short.lists; outbox = short.outbox }, omega arith) }

    drawing : (w : ℕ) (s : Vat N) → Short P s → (o : Option ℕ) → Ends P (worth P s) 11 0 (draws w o s)
    unfolding draws made
    drawing w s short (Some i) = tt
    drawing w s short None = let e = one_longer s.drawn w in (record { fuel = short.fuel; lists = short.lists; outbox = short.outbox }, omega (arith, e))

    pub cost_draw : Costs P 11 0 (draw K)
    unfolding draw
    cost_draw = record { after = λ s short. drawing (K.word (length s.drawn)) s short (drawn_at zero (K.word (length s.drawn)) s.drawn) }

    -- ---- passing

    -- It gives something of that measure from a state with that worth and fuel, at one a piece, or stops.
    abbrev Gets : {A : Type 0} → (A → ℕ) → ℕ → ℕ → ℕ → Done N A → Type 0
    Gets measure w f n (Gives a t) = Short P t × (worth P t ≤ w + n) × (t.fuel ≡ f) × (measure a ≡ n)
    Gets measure w f n (Stops c t) = Unit {0}
    Gets measure w f n other = ⊥

    given_away : (w : ℕ) (s : Vat N) (h : ℕ) (n : N) → Short P s → (o : Option ℕ) → Gets (load {N = N}) (worth P s) s.fuel 1 (and_then (draws w o s) (λ i. send_out h (Open i n) >> give (AGift h i)))
    unfolding draws and_then ◌>>◌ send_out give made
    given_away w s h n short (Some i) = tt
    given_away w s h n short None = let e = one_longer s.drawn w in (
      record { fuel = short.fuel; lists = short.lists; outbox = all_end (λ (p : Put N). note_load p.note ≤ P.fuel) s.outbox _ short.outbox (omega arith) },
      omega (arith, e),
      refl,
      refl,
    )

    address_away : (w h : ℕ) (y : Value N) (n : N) (b : Bool) (s : Vat N) → Short P s → Gets (load {N = N}) (worth P s) s.fuel 1 ((if b then give (Plain y) else (draw K >>= λ i. send_out h (Open i n) >> give (AGift h i))) s)
    unfolding draw ◌>>=◌ give
    address_away w h y n true s short = (short, omega arith, refl, refl)
    address_away w h y n false s short = given_away (K.word (length s.drawn)) s h n short (drawn_at zero (K.word (length s.drawn)) s.drawn)

    address_plain : (w : ℕ) (y : Value N) (p : Place N) (s : Vat N) → Short P s → Gets (load {N = N}) (worth P s) s.fuel 1 (refs.address_plain K w y p s)
    unfolding refs.address_plain ◌>>◌ and_then alter give made
    address_plain w y (Away h n o) s short = address_away w h y n (h == w) s short
    address_plain w y (Mine n) s short = (record { fuel = short.fuel; lists = short.lists; outbox = short.outbox }, omega arith, refl, refl)
    address_plain w y other s short = (short, omega arith, refl, refl)

    many_of : (w f n : ℕ) (d : Done N (Passeds N)) → Gets (loads {N = N}) w f n d → Gets (load {N = N}) w f (suc n) (and_then d (λ zs. give (Many zs)))
    unfolding and_then give
    many_of w f n (Gives zs t) h = (h.0, omega (arith, h.1), h.2, omega (arith, h.3))
    many_of w f n (Stops c t) h = tt
    many_of w f n other h = h

    more_of : (w f m n : ℕ) (z : Passed N) → load z ≡ m → (d : Done N (Passeds N)) → Gets (loads {N = N}) (w + m) f n d → Gets (loads {N = N}) w f (m + n) (and_then d (λ zs. give (More z zs)))
    unfolding and_then give
    more_of w f m n z e (Gives zs t) h = (h.0, omega (arith, h.1), h.2, omega (arith, e, h.3))
    more_of w f m n z e (Stops c t) h = tt
    more_of w f m n z e other h = h

    raised : {A : Type 0} (measure : A → ℕ) (v w f g n : ℕ) (d : Done N A) → v ≤ w → f ≡ g → Gets measure v f n d → Gets measure w g n d
    raised measure v w f g n (Gives a t) l e h = (h.0, omega (arith, l, h.1), omega (arith, e, h.2), h.3)
    raised measure v w f g n (Stops c t) l e h = tt
    raised measure v w f g n other l e h = h

    then_rest : (w : ℕ) (ys : Passeds N) (s : Vat N) (m : ℕ) (d : Done N (Passed N)) → Gets (load {N = N}) (worth P s) s.fuel m d → ((t : Vat N) → Short P t → Gets (loads {N = N}) (worth P t) t.fuel (loads ys) (refs.address_all K w ys t))
        → Gets (loads {N = N}) (worth P s) s.fuel (m + loads ys) (and_then d (λ z. refs.address_all K w ys >>= λ zs. give (More z zs)))
    unfolding ◌>>=◌ and_then
    then_rest w ys s m (Gives z t) h all = more_of (worth P s) s.fuel m (loads ys) z h.3 (refs.address_all K w ys t) (raised (loads {N = N}) (worth P t) (worth P s + m) t.fuel s.fuel (loads ys) (refs.address_all K w ys t) (omega (arith, h.1)) h.2 (all t h.0))
    then_rest w ys s m (Stops c t) h all = tt
    then_rest w ys s m other h all = h

    mutual
      unfolding refs.address refs.address_all ◌>>=◌ and_then look give

      address_gets : (w : ℕ) (y : Passed N) (s : Vat N) → Short P s → Gets (load {N = N}) (worth P s) s.fuel (load y) (refs.address K w y s)
      address_gets w (Plain y) s short = address_plain w y (refs.place K s y) s short
      address_gets w (AGift h i) s short = (short, omega arith, refl, refl)
      address_gets w (Many ys) s short = many_of (worth P s) s.fuel (loads ys) (refs.address_all K w ys s) (all_gets w ys s short)

      all_gets : (w : ℕ) (ys : Passeds N) (s : Vat N) → Short P s → Gets (loads {N = N}) (worth P s) s.fuel (loads ys) (refs.address_all K w ys s)
      all_gets w NoMore s short = (short, omega arith, refl, refl)
      all_gets w (More y ys) s short = then_rest w ys s (load y) (refs.address K w y s) (address_gets w y s short) (λ t k. all_gets w ys t k)

    -- It costs nothing, and its measure and the fuel that is left are no more than the fuel that there was.
    abbrev Passes : {A : Type 0} → (A → ℕ) → ℕ → ℕ → Done N A → Type 0
    Passes measure w f (Gives a t) = Short P t × (worth P t ≤ w) × (measure a + t.fuel ≤ f)
    Passes measure w f (Stops c t) = Unit {0}
    Passes measure w f other = ⊥

    gets_passes : (v w f g n : ℕ) (d : Done N (Passed N)) → v + n ≤ w → n + f ≤ g → Gets (load {N = N}) v f n d → Passes (load {N = N}) w g d
    gets_passes v w f g n (Gives a t) l k h = (h.0, omega (arith, l, h.1), omega (arith, k, h.2, h.3))
    gets_passes v w f g n (Stops c t) l k h = tt
    gets_passes v w f g n other l k h = h

    priced : 1 ≤ P.unit
    priced = let l = P.units in omega (arith, l)

    pass_paid : (w n : ℕ) (y : Passed N) → load y ≤ n → (s : Vat N) → Short P s → (b : Bool) → nat_le n s.fuel ≡ b → Passes (load {N = N}) (worth P s) s.fuel (and_then (spent n b s) (λ _. refs.address K w y))
    unfolding spent and_then made
    pass_paid w n y light s short true q = let l : n ≤ s.fuel = leb-true n s.fuel q in let t = record s { fuel = s.fuel - n } in let less = paid_rest P.unit n s.fuel l in let most = short.fuel in let pays = paid_for P.unit n priced in
        gets_passes (worth P t) (worth P s) t.fuel s.fuel (load y) (refs.address K w y t) (omega (arith, light, less, pays)) (omega (arith, l, light)) (address_gets w y t (record { fuel = omega (arith, most); lists = short.lists; outbox = short.outbox }))
    pass_paid w n y light s short false q = tt

    pass_passes : (w : ℕ) (x : Value N) (s : Vat N) → Short P s → Passes (load {N = N}) (worth P s) s.fuel (refs.pass K w x s)
    unfolding refs.pass ◌>>=◌ ◌>>◌ and_then look spend
    pass_passes w x s short = let y = refs.parcel K s x in pass_paid w y.weight y.value (light_parcel K s x) s short (nat_le y.weight s.fuel) refl

    more_passes : (w f : ℕ) (g : ℕ) (z : Passed N) (d : Done N (Passeds N)) → load z + g ≤ f → Passes (loads {N = N}) w g d → Passes (loads {N = N}) w f (and_then d (λ zs. give (More z zs)))
    unfolding and_then give
    more_passes w f g z (Gives zs t) l h = (h.0, h.1, omega (arith, l, h.2))
    more_passes w f g z (Stops c t) l h = tt
    more_passes w f g z other l h = h

    lower : {A : Type 0} (measure : A → ℕ) (v w f : ℕ) (d : Done N A) → v ≤ w → Passes measure v f d → Passes measure w f d
    lower measure v w f (Gives a t) l h = (h.0, omega (arith, l, h.1), h.2)
    lower measure v w f (Stops c t) l h = tt
    lower measure v w f other l h = h

    rest_pass : (w : ℕ) (xs : List (Value N)) (s : Vat N) (d : Done N (Passed N)) → Passes (load {N = N}) (worth P s) s.fuel d → ((t : Vat N) → Short P t → Passes (loads {N = N}) (worth P t) t.fuel (refs.pass_all K w xs t))
        → Passes (loads {N = N}) (worth P s) s.fuel (and_then d (λ y. refs.pass_all K w xs >>= λ ys. give (More y ys)))
    unfolding ◌>>=◌ and_then
    rest_pass w xs s (Gives y t) h all = more_passes (worth P s) s.fuel t.fuel y (refs.pass_all K w xs t) h.2 (lower (loads {N = N}) (worth P t) (worth P s) t.fuel (refs.pass_all K w xs t) h.1 (all t h.0))
    rest_pass w xs s (Stops c t) h all = tt
    rest_pass w xs s other h all = h

    all_pass : (w : ℕ) (xs : List (Value N)) (s : Vat N) → Short P s → Passes (loads {N = N}) (worth P s) s.fuel (refs.pass_all K w xs s)
    unfolding refs.pass_all ◌>>=◌ give
    all_pass w [] s short = (short, omega arith, omega arith)
    all_pass w (x ∷ xs) s short = rest_pass w xs s (refs.pass K w x s) (pass_passes w x s short) (λ t k. all_pass w xs t k)

    put_ends : {A : Type 0} (measure : A → ℕ) (f : A → Act N (Unit {0})) → ((a : A) → measure a ≤ P.fuel → Costs P 10 0 (f a)) → (w g : ℕ) → g ≤ P.fuel → (d : Done N A) → Passes measure w g d → Ends P w 10 0 (and_then d f)
    unfolding and_then
    put_ends measure f k w g l (Gives a t) h = carry P (worth P t) w 10 0 10 0 (f a t) (omega (arith, h.1)) (omega (arith, h.1)) ((k a (omega (arith, h.2, l))).after t h.0)
    put_ends measure f k w g l (Stops c t) h = tt
    put_ends measure f k w g l other h = absurd h

    -- what is put behind what passed
    then_put : {A : Type 0} (measure : A → ℕ) (m : Act N A) (f : A → Act N (Unit {0})) → ((s : Vat N) → Short P s → Passes measure (worth P s) s.fuel (m s)) → ((a : A) → measure a ≤ P.fuel → Costs P 10 0 (f a)) → Costs P 10 0 (m >>= f)
    unfolding ◌>>=◌
    then_put measure m f h k = record { after = λ s short. put_ends measure f k (worth P s) s.fuel short.fuel (m s) (h s short) }

    free_deliver : (m : Message N) (h : ℕ) (n : N) → Costs P 10 0 (refs.deliver K m h n)
    unfolding refs.deliver
    free_deliver m h n = then_put (loads {N = N}) (refs.pass_all K h m.args) _ (λ s short. all_pass h m.args s short) (λ args l. free_then P (cost_tell P _) (cost_out P h _ l))

    settled_out : (p : N) (w : ℕ) (y : Value N) → Costs P 10 0 (refs.pass K w y >>= λ z. send_out w (SettledTo p z))
    settled_out p w y = then_put (load {N = N}) (refs.pass K w y) _ (λ s short. pass_passes w y s short) (λ z l. cost_out P w _ l)

    free_inform_of : (p : N) (w : ℕ) (y : Value N) (q : Place N) → Costs P 10 0 (refs.inform_of K p w y q)
    unfolding refs.inform_of
    free_inform_of p w y (Away h n true) = cost_out P w (Elsewhere p h) (omega arith)
    free_inform_of p w y other = settled_out p w y

    -- ---- settling

    free_wait_on : (p q : N) → Costs P 10 0 (refs.wait_on K p q)
    unfolding refs.wait_on
    free_wait_on p q = free_then P (cost_tell P _) (free_then P (cost_alter (WaitOn q) p) (cost_alter (Wait p) q))

    free_pass_on : (m : Message N) (h : ℕ) (n : N) → Costs P 10 0 (refs.pass_on K m h n)
    unfolding refs.pass_on
    free_pass_on m h n = cost_some P m.answer (λ p. free_bind P (cost_come _ h) (λ a. free_then P (free_deliver _ h n) (free_wait_on p a))) (free_deliver m h n)

    abbrev FreeSettler : (N → Value N → Act N (Unit {0})) → Type 0
    FreeSettler settle = (p : N) (y : Value N) → Costs P 10 0 (settle p y)

    free_send_to : (settle : N → Value N → Act N (Unit {0})) → FreeSettler settle → (m : Message N) (y : Value N) (p : Place N) → Costs P 10 0 (refs.send_to K settle m y p)
    unfolding refs.send_to
    free_send_to settle free m y Near = cost_enqueue P _
    free_send_to settle free m y (Mine n) = cost_alter _ n
    free_send_to settle free m y (Away h n o) = free_pass_on m h n
    free_send_to settle free m y (Gone p) = free_then P (cost_tell P _) (cost_some P m.answer (λ a. free a _) (cost_give P tt))

    pub free_send_on : (settle : N → Value N → Act N (Unit {0})) → FreeSettler settle → (m : Message N) → Costs P 10 0 (refs.send_on K settle m)
    unfolding refs.send_on
    free_send_on settle free m = free_bind P (cost_look P _) (λ y. free_bind P (cost_look P _) (λ p. free_send_to settle free m y p))

    pub free_inform : (p : N) (w : ℕ) → Costs P 10 0 (refs.inform K p w)
    unfolding refs.inform
    free_inform p w = free_bind P (cost_look P _) (λ y. free_bind P (cost_look P _) (λ q. free_bind P (cost_look P _) (λ gone. cost_if P gone (cost_give P tt) (free_inform_of p w y q))))

    free_settle_known : (settle : N → Value N → Act N (Unit {0})) → FreeSettler settle → (p : N) (y : Value N) (k : Known N) → Costs P 10 0 (refs.settle_known K settle p y k)
    unfolding refs.settle_known
    free_settle_known settle free p y k = free_then P (cost_tell P _) (free_then P (cost_alter _ p) (free_then P (free_each P k.held (λ m. free_send_on settle free m))
        (free_then P (free_each P k.waiting (λ q. free q y)) (free_then P (free_each P k.reactions (λ m. cost_enqueue P m)) (free_each P k.told (λ w. free_inform p w))))))

    free_settle_standing : (settle : N → Value N → Act N (Unit {0})) → FreeSettler settle → (p : N) (y : Value N) (k : Known N) (x : Standing N) → Costs P 10 0 (refs.settle_standing K settle p y k x)
    unfolding refs.settle_standing
    free_settle_standing settle free p y k (Settled z) = cost_give P tt
    free_settle_standing settle free p y k _ = free_settle_known settle free p y k

    free_settle_entry : (settle : N → Value N → Act N (Unit {0})) → FreeSettler settle → (p : N) (y : Value N) (o : Option (Known N)) → Costs P 10 0 (refs.settle_entry K settle p y o)
    unfolding refs.settle_entry
    free_settle_entry settle free p y None = cost_give P tt
    free_settle_entry settle free p y (Some k) = free_settle_standing settle free p y k k.standing

    free_settle_one : (settle : N → Value N → Act N (Unit {0})) → FreeSettler settle → FreeSettler (refs.settle_one K settle)
    unfolding refs.settle_one
    free_settle_one settle free p x = free_bind P (cost_look P _) (λ y. free_bind P (cost_look P _) (λ k. free_settle_entry settle free p y k))

    free_settle_at : (d : ℕ) → FreeSettler (refs.settle_at K d)
    unfolding refs.settle_at
    free_settle_at zero p y = cost_stop P _
    free_settle_at (suc d) p y = free_settle_one (λ q z. refs.settle_at K d q z) (λ q z. free_settle_at d q z) p y

    pub free_settle : (p : N) (y : Value N) → Costs P 10 0 (refs.settle K p y)
    unfolding refs.settle
    free_settle p y = free_bind P (cost_look P _) (λ n. free_settle_at n p y)

    free_wait_unless_cycle : (p q : N) → Costs P 10 0 (refs.wait_unless_cycle K p q)
    unfolding refs.wait_unless_cycle
    free_wait_unless_cycle p q = free_bind P (cost_look P _) (λ back. cost_if P back (free_settle p _) (free_wait_on p q))

    free_resolve_to : (p : N) (y : Value N) (q : Place N) → Costs P 10 0 (refs.resolve_to K p y q)
    unfolding refs.resolve_to
    free_resolve_to p y (Mine q) = free_wait_unless_cycle p q
    free_resolve_to p y (Away h q false) = free_wait_unless_cycle p q
    free_resolve_to p y other = free_settle p y

    pub free_resolve : (p : N) (x : Value N) → Costs P 10 0 (refs.resolve K p x)
    unfolding refs.resolve
    free_resolve p x = free_bind P (cost_look P _) (λ y. free_bind P (cost_look P _) (λ q. free_resolve_to p y q))

    -- ---- sending and reacting

    free_send_first : (m : Message N) (y : Value N) (p : Place N) → Costs P 10 0 (refs.send_first K m y p)
    unfolding refs.send_first
    free_send_first m y (Away h n o) = free_deliver m h n
    free_send_first m y Near = free_send_to (refs.settle K) (λ q z. free_settle q z) m y Near
    free_send_first m y (Mine n) = free_send_to (refs.settle K) (λ q z. free_settle q z) m y (Mine n)
    free_send_first m y (Gone t) = free_send_to (refs.settle K) (λ q z. free_settle q z) m y (Gone t)

    pub cost_send : (act : ℕ) (x : Value N) (verb : Words) (args : List (Value N)) → Costs P 11 10 (refs.send K act x verb args)
    unfolding refs.send
    cost_send act x verb args = free_bind P (cost_look P _) (λ y. free_bind P (cost_look P _) (λ p. free_bind P (cost_look P _) (λ v. cost_bind P (cost_message _)
        (λ new. free_then P (cost_tell P _) (free_then P (free_send_first _ y p) (cost_give P _))) (omega arith) (omega arith) (omega arith))))

    pub cost_send_only : (act : ℕ) (x : Value N) (verb : Words) (args : List (Value N)) → Costs P 11 10 (refs.send_only K act x verb args)
    unfolding refs.send_only
    cost_send_only act x verb args = free_bind P (cost_look P _) (λ y. free_bind P (cost_look P _) (λ p. cost_bind P cost_lone_message
        (λ id. free_then P (cost_tell P _) (free_then P (free_send_first _ y p) (cost_give P _))) (omega arith) (omega arith) (omega arith)))

    free_react_at : (m : Message N) (p : Place N) → Costs P 10 0 (refs.react_at K m p)
    unfolding refs.react_at
    free_react_at m (Mine n) = cost_alter _ n
    free_react_at m (Away h n false) = cost_alter _ n
    free_react_at m other = cost_enqueue P m

    pub cost_react : (act : ℕ) (x o near : Value N) → Costs P 11 10 (refs.react K act x o near)
    unfolding refs.react
    cost_react act x o near = free_bind P (cost_look P _) (λ v. cost_bind P (cost_message v)
        (λ new. free_then P (cost_tell P _) (free_bind P (cost_look P _) (λ p. free_then P (free_react_at _ p) (cost_give P _)))) (omega arith) (omega arith) (omega arith))
