-- What a vat does with references: each settling and each wait has its cause.
use Rattle.std.proofs.Common.{◌≡◌, ℕ, zero, suc, Bool, true, false, List, [], ◌∷◌, ◌++◌, Option, Some, None, if◌then◌else◌, ◌==◌, ◌⊎◌, refl, sym, ap, ◌∙◌, subst, length, map, inl, inr}
use Rattle.std.specs.Prelude.{codes, slice_get}
use Rattle.def_machine.specs.Values.{Words, Value, Broken, Items, Ref, Naming, Spot, Own, Foreign, NoObject, IsAnswer}
use Rattle.def_machine.specs.State.{Message, Standing, WaitsOn, Viewed, Settled, Known, WaitOn, Settle, Passed, Passeds, Plain, AGift, Many, NoMore, More, Happened, ListMade, ListCame, Settles, Waits, Lost, Posted, Vat, Done, Gives, Act, ◌>>=◌, ◌>>◌, and_then, give, look, tell, each, for_some, enqueue, send_out, alter, with_change, changed_to, come, is_in}
use Rattle.def_machine.specs.Refs as refs
use Rattle.def_machine.specs.Refs.{Place, Near, Mine, Away, Gone, entry_of, standing_of}
use Rattle.def_machine.specs.Native.{list_at}
use Rattle.law_machine.proofs.Machine.Walks.{walk, walk_each}
use Rattle.law_uses.specs.Connectivity.Known.{IsAmong, AllOf, Start, Reaches, itself}
use Rattle.law_uses.proofs.Connectivity.Knowing.{among_more}
use Rattle.law_uses.proofs.Connectivity.Passing.{all_map}
use Rattle.law_uses.proofs.Connectivity.Traces.{IsTold, among_last, traces_settled, traces_give}
use Rattle.law_uses.proofs.Connectivity.Idle.{joined, no_more}
use Rattle.law_uses.specs.Connectivity.News.{list_made, Adds}
use Rattle.law_uses.proofs.Connectivity.StepTraces.{follow_reaches}
use Rattle.law_uses.specs.Connectivity.Settlings.{IsNew, WaitsFor, IsHosted, HasMembers, Rings, itself as is_it, member, Chain, there, onward, Follows, IsGiven, waited, lost, SettlesWell, WaitsWell}
use Rattle.law_uses.proofs.Connectivity.Causes.{Causes, Ends, Any, Further, further_on, up, ends_then, ends_more, WaitTold, MessageTold, EntryTold, waits_more, message_more, HostTold, OnwardTold, members_more, follows_trans, given_more, causes_line, alter_causes, tells, comes, holds, waits, Steady, SteadyBy, steady_closed, steady_spend, steady_enqueue, steady_out, steady_draw, steady_react, steady_to_tell, waits_on_told, steady_stop, steady_give}

-- what stands in a list with one more member
get_last : {A : Type 0} (xs : List A) (x : A) (k : ℕ) (y : A) → slice_get (xs ++ x ∷ []) k ≡ Some y → (slice_get xs k ≡ Some y) ⊎ ((k ≡ length xs) × (y ≡ x))
get_last [] x zero y e = inr (refl, cc)
get_last [] x (suc k) y e = cc
get_last (z ∷ xs) x zero y e = inl e
get_last (z ∷ xs) x (suc k) y e = up (get_last xs x k y e)
  where
    up : (slice_get xs k ≡ Some y) ⊎ ((k ≡ length xs) × (y ≡ x)) → (slice_get (z ∷ xs) (suc k) ≡ Some y) ⊎ ((suc k ≡ suc (length xs)) × (y ≡ x))
    up (inl i) = inl i
    up (inr i) = inr (ap suc i.0, i.1)

pub ruleset steady = (walk, steady_closed, steady_spend, steady_enqueue, steady_out, steady_draw, steady_react, steady_to_tell)

module _ {N W : Type 0} (K : Naming N W) (E : Start N W) where
  -- ---- following, and where a followed value is

  module _ (s : Vat N) (c : Causes K E s) (x : Value N) where
    by_host : (n : N) (h : ℕ) → IsHosted K E h n → Reaches K E.vat.known s.happened x (Ref n) → Follows K E s.happened x (refs.severed_by K h s n)
    unfolding refs.severed_by
    by_host n h o r = either (is_in h s.noticed) refl
      where
        either : (b : Bool) → is_in h s.noticed ≡ b → Follows K E s.happened x (elim b [ true ↦ Broken (codes "partition") | false ↦ Ref n ])
        either true e = inr ((h, n, r, c.noticed h e, o), refl)
        either false e = inl r

    host_found : (n : N) (ks : List (Known N)) → AllOf (HostTold K E) ks → IsHosted K E (refs.host_at K s.number ks n) n
    unfolding refs.host_at refs.host_in entry_of
    host_found n [] h = inr (inr c.number)
    host_found n (k ∷ ks) h = either (K.same k.name n) refl (host_found n ks h.1)
      where
        either : (b : Bool) → K.same k.name n ≡ b → IsHosted K E (refs.host_in s.number (entry_of K ks n)) n → IsHosted K E (refs.host_in s.number (elim b [ true ↦ Some k | false ↦ entry_of K ks n ])) n
        either true e i = inr (inl (k.name, e, h.0))
        either false e i = i

    at_spot : (n : N) (o : Spot) → K.spot n ≡ o → Reaches K E.vat.known s.happened x (Ref n) → Follows K E s.happened x (refs.severed_at K s n o)
    unfolding refs.severed_at
    at_spot n (Own i) e r = inl r
    at_spot n (Foreign h) e r = by_host n h (inl e) r
    at_spot n NoObject e r = by_host n _ (host_found n s.known c.hosts) r

    severed_follows : (y : Value N) → Reaches K E.vat.known s.happened x y → Follows K E s.happened x (refs.severed K s y)
    unfolding refs.severed
    severed_follows (Ref n) r = at_spot n (K.spot n) refl r
    severed_follows other r = inl r

    pub follows_now : Follows K E s.happened x (refs.follow K s x)
    unfolding refs.follow
    follows_now = severed_follows _ (follow_reaches K E.vat.known s.happened s.known c.told (suc (length s.known)) x)

  -- what the place of a value tells of it
  abbrev pub IsAt : Value N → Place N → Type 0
  IsAt y Near = Unit {0}
  IsAt y (Mine n) = y ≡ Ref n
  IsAt y (Away h n o) = y ≡ Ref n
  IsAt y (Gone t) = y ≡ Broken t

  hosted_at : (v : ℕ) (n : N) (h : ℕ) → IsAt (Ref n) (refs.hosted K v n h)
  unfolding refs.hosted
  hosted_at v n h = either (v == h)
    where
      either : (b : Bool) → IsAt (Ref n) (elim b [ true ↦ Mine n | false ↦ Away h n false ])
      either true = refl
      either false = refl

  spotted_at : (s : Vat N) (n : N) (o : Spot) → IsAt (Ref n) (refs.spotted K s n o)
  unfolding refs.spotted
  spotted_at s n (Own i) = tt
  spotted_at s n (Foreign h) = refl
  spotted_at s n NoObject = hosted_at s.number n _

  pub placed : (s : Vat N) (y : Value N) → IsAt y (refs.place K s y)
  unfolding refs.place
  placed s (Ref n) = spotted_at s n (K.spot n)
  placed s (Broken p) = refl
  placed s other = tt

  -- ---- passing and telling, which settle nothing

  steady_address_plain : (w : ℕ) (y : Value N) (p : Place N) → Steady K E (refs.address_plain K w y p)
  unfolding refs.address_plain
  steady_address_plain w y (Away h n o) = search steady depth 14
  steady_address_plain w y (Mine n) = search steady depth 14
  steady_address_plain w y _ = search steady depth 14

  mutual
    unfolding refs.address refs.address_all

    steady_address : (w : ℕ) (y : Passed N) → Steady K E (refs.address K w y)
    steady_address w (Plain y) = search (steady, steady_address_plain) depth 14
    steady_address w (AGift h i) = search steady
    steady_address w (Many ys) = let rest = steady_address_all w ys in search steady

    steady_address_all : (w : ℕ) (ys : Passeds N) → Steady K E (refs.address_all K w ys)
    steady_address_all w NoMore = search steady
    steady_address_all w (More y ys) = let one = steady_address w y in let rest = steady_address_all w ys in search steady

  steady_pass : (w : ℕ) (x : Value N) → Steady K E (refs.pass K w x)
  unfolding refs.pass
  steady_pass w x = search (steady, steady_address) depth 14

  steady_pass_all : (w : ℕ) (xs : List (Value N)) → Steady K E (refs.pass_all K w xs)
  unfolding refs.pass_all
  steady_pass_all w [] = search steady
  steady_pass_all w (x ∷ xs) = let rest = steady_pass_all w xs in search (steady, steady_pass) depth 14

  steady_inform_of : (p : N) (w : ℕ) (y : Value N) (q : Place N) → Steady K E (refs.inform_of K p w y q)
  unfolding refs.inform_of
  steady_inform_of p w y (Away h n true) = search steady depth 14
  steady_inform_of p w y _ = search (steady, steady_pass) depth 14

  pub steady_inform : (p : N) (w : ℕ) → Steady K E (refs.inform K p w)
  unfolding refs.inform
  steady_inform p w = search (steady, steady_inform_of) depth 14

  pub steady_react_at : (m : Message N) (p : Place N) → Steady K E (refs.react_at K m p)
  unfolding refs.react_at
  steady_react_at m (Mine n) = search steady depth 14
  steady_react_at m (Away h n false) = search steady depth 14
  steady_react_at m _ = search steady depth 14

  line_lasts : (e : Happened N) (s t : Vat N) → Further K E s t → IsAmong e s.happened → IsAmong e t.happened
  line_lasts e s t l h = up K E (λ so. IsAmong e so) (λ so more k. among_more e so more k) s t l h

  -- the note of a message is put
  delivers : (m : Message N) (h : ℕ) (n : N) (s : Vat N) → Causes K E s → Ends K E s (λ a t. IsAmong (Posted h m.id) t.happened) (refs.deliver K m h n s)
  unfolding refs.deliver ◌>>=◌ ◌>>◌
  delivers m h n s c = ends_then K E s (refs.pass_all K h m.args s) _ (Any K E) _ ((steady_pass_all h m.args).after s c) (λ args t f d q.
      ends_then K E t (tell (Posted h m.id) t) _ (λ a u. IsAmong (Posted h m.id) u.happened) _ (tells K E (Posted h m.id) refl t d tt) (λ a u g e i.
      ends_more K E u (send_out h _ u) (Any K E) _ ((steady_out K E h _).after u e) (λ b v l j. line_lasts (Posted h m.id) u v l i)))

  -- a name waits on another
  waits_on : (p q : N) (s : Vat N) → Causes K E s → WaitsWell K E s.happened p q → Ends K E s (Any K E) (refs.wait_on K p q s)
  unfolding refs.wait_on ◌>>◌
  waits_on p q s c w = ends_then K E s (tell (Waits p q) s) _ (λ a t. IsAmong (Waits p q) t.happened) _ (tells K E (Waits p q) refl s c w) (λ a t f d i.
      ends_then K E t (alter K (WaitOn q) p t) _ (Any K E) _ (waits_on_told K E q p t d i) (λ b u g e j.
      waits K E p q u e (inl (line_lasts (Waits p q) t u g i))))

  message_lasts : (m : Message N) (s t : Vat N) → Further K E s t → MessageTold K E s.happened m → MessageTold K E t.happened m
  message_lasts m s t l h = up K E (λ so. MessageTold K E so m) (λ so more k. message_more K E so more m k) s t l h

  -- the answer of a message that is sent on waits on that at the vat to which it goes
  passes_on : (m : Message N) (y : Value N) (h : ℕ) (n : N) (s : Vat N) → Causes K E s → MessageTold K E s.happened (record m { target = y }) → Ends K E s (Any K E) (refs.pass_on K m h n s)
  unfolding refs.pass_on ◌>>=◌ ◌>>◌ for_some
  passes_on m y h n s c t = either m.answer refl
    where
      either : (o : Option N) → m.answer ≡ o → Ends K E s (Any K E) (for_some o (λ p. come K (IsAnswer h m.id) h >>= (λ a. refs.deliver K (record m { answer = Some a }) h n >> refs.wait_on K p a)) (refs.deliver K m h n) s)
      either None e = ends_more K E s (refs.deliver K m h n s) _ (Any K E) (delivers m h n s c) (λ a u l q. tt)
      either (Some p) e = ends_then K E s (come K (IsAnswer h m.id) h s) _ (λ a u. IsNew K E (IsAnswer h m.id) a) _ (comes K E (IsAnswer h m.id) h refl s c) (λ a u l d k.
          ends_then K E u (refs.deliver K (record m { answer = Some a }) h n u) _ (λ b v. IsAmong (Posted h m.id) v.happened) _ (delivers (record m { answer = Some a }) h n u d) (λ b v g f i.
          let w = message_lasts (record m { target = y }) u v g (message_lasts (record m { target = y }) s u l t) p e in
          waits_on p a v f (inr (m.id, w.0, h, w.1, i, k))))

  -- ---- sending on, and settling

  abbrev pub GoodSettler : (N → Value N → Act N (Unit {0})) → Type 0
  GoodSettler settle = (p : N) (y : Value N) (s : Vat N) → Causes K E s → SettlesWell K E s.happened p y → Ends K E s (Any K E) (settle p y s)

  -- what a message is sent on, its target leads to
  on_target : (so : List (Happened N)) (m : Message N) (y : Value N) → MessageTold K E so m → Follows K E so m.target y → MessageTold K E so (record m { target = y })
  on_target so m y h f p e = let d = h p e in (d.0, d.1, follows_trans K E so d.0 m.target y d.2 f)

  module _ (settle : N → Value N → Act N (Unit {0})) (good : GoodSettler settle) where
    -- a message is lost, and its answer breaks
    loses : (m : Message N) (y : Value N) (t : Words) → y ≡ Broken t → (s : Vat N) → Causes K E s → MessageTold K E s.happened (record m { target = y }) → Ends K E s (Any K E) ((tell (Lost m.id) >> for_some m.answer (λ a. settle a (Broken t)) (give tt)) s)
    unfolding ◌>>◌ for_some
    loses m y t b s c h = ends_then K E s (tell (Lost m.id) s) _ (λ a u. IsAmong (Lost m.id) u.happened) _ (tells K E (Lost m.id) refl s c tt) (λ a u l d i. either u l d i m.answer refl)
      where
        either : (u : Vat N) → Further K E s u → Causes K E u → IsAmong (Lost m.id) u.happened → (o : Option N) → m.answer ≡ o → Ends K E u (Any K E) (for_some o (λ a. settle a (Broken t)) (give tt) u)
        either u l d i None e = (steady_give K E tt).after u d
        either u l d i (Some p) e = let w = message_lasts (record m { target = y }) s u l h p e in good p (Broken t) u d (inl (Broken t, lost m.id w.0 w.1 i (subst (λ z. Follows K E u.happened w.0 z) b w.2), inl (inl itself)))

    pub sends_to : (m : Message N) (y : Value N) (p : Place N) → IsAt y p → (s : Vat N) → Causes K E s → MessageTold K E s.happened (record m { target = y }) → Ends K E s (Any K E) (refs.send_to K settle m y p s)
    unfolding refs.send_to
    sends_to m y Near a s c h = (steady_enqueue K E (record m { target = y })).after s c
    sends_to m y (Mine n) a s c h = holds K E (record m { target = y }) n s c h
    sends_to m y (Away w n o) a s c h = passes_on m y w n s c h
    sends_to m y (Gone t) a s c h = loses m y t a s c h

    pub sends_on : (m : Message N) (s : Vat N) → Causes K E s → MessageTold K E s.happened m → Ends K E s (Any K E) (refs.send_on K settle m s)
    unfolding refs.send_on ◌>>=◌ look and_then
    sends_on m s c h = sends_to m (refs.follow K s m.target) (refs.place K s (refs.follow K s m.target)) (placed s _) s c (on_target s.happened m _ h (follows_now s c m.target))

    each_held : (ms : List (Message N)) (s : Vat N) → Causes K E s → AllOf (MessageTold K E s.happened) ms → Ends K E s (Any K E) (each (refs.send_on K settle) ms s)
    unfolding each ◌>>◌
    each_held [] s c h = (steady_give K E tt).after s c
    each_held (m ∷ ms) s c h = ends_then K E s (refs.send_on K settle m s) _ (Any K E) _ (sends_on m s c h.0) (λ a t l d q. each_held ms t d (all_map _ _ (λ x k. message_lasts x s t l k) ms h.1))

    -- the names that wait on one that settled
    each_waiting : (p : N) (y : Value N) (qs : List N) (s : Vat N) → Causes K E s → IsAmong (Settles p y) s.happened → AllOf (λ q. IsGiven K E s.happened q y) qs → Ends K E s (Any K E) (each (λ q. settle q y) qs s)
    unfolding each ◌>>◌
    each_waiting p y [] s c i h = (steady_give K E tt).after s c
    each_waiting p y (q ∷ qs) s c i h = ends_then K E s (settle q y s) _ (Any K E) _ (good q y s c (inl (y, h.0, inl (inl itself)))) (λ a t l d z.
        each_waiting p y qs t d (line_lasts (Settles p y) s t l i) (all_map _ _ (λ x k. up K E (λ so. IsGiven K E so x y) (λ so more g. given_more K E so more x y g) s t l k) qs h.1))

    -- ---- lists that lead back

    pair_is : (k n : ℕ) (vs ws : List (Value N)) → ◌≡◌ {A = Option (ℕ × List (Value N))} (Some (k, vs)) (Some (n, ws)) → (k ≡ n) × (vs ≡ ws)
    pair_is k n vs ws q = let same : ◌≡◌ {A = ℕ × List (Value N)} (k, vs) (n, ws) = cc in (ap (λ (p : ℕ × List (Value N)). p.0) same, ap (λ (p : ℕ × List (Value N)). p.1) same)

    -- the list that a line tells of
    line_members : (front : List (Happened N)) (f : Happened N) (n : ℕ) (ws : List (Value N)) (j : ℕ) (us : List (Value N)) → list_made f ≡ Some (n, ws) → j ≡ n → us ≡ ws → HasMembers K E (front ++ f ∷ []) j us
    line_members front (ListMade a k vs) n ws j us q e i = let b = pair_is k n vs ws q in subst (λ m. HasMembers K E (front ++ ListMade a k vs ∷ []) m us) (b.0 ∙ sym e) (subst (λ m. HasMembers K E (front ++ ListMade a k vs ∷ []) k m) (b.1 ∙ sym i) (inr (inl (a, among_last front (ListMade a k vs)))))
    line_members front (ListCame k vs) n ws j us q e i = let b = pair_is k n vs ws q in subst (λ m. HasMembers K E (front ++ ListCame k vs ∷ []) m us) (b.0 ∙ sym e) (subst (λ m. HasMembers K E (front ++ ListCame k vs ∷ []) k m) (b.1 ∙ sym i) (inr (inr (among_last front (ListCame k vs)))))
    line_members front other n ws j us q e i = cc

    members_there : (so : List (Happened N)) (ks : List (List (Value N))) → Adds E.vat.lists (map list_made so) ks → (k : ℕ) (vs : List (Value N)) → slice_get ks k ≡ Some vs → HasMembers K E so k vs
    members_there so ks a k vs e = from_lines [] E.vat.lists so ks (λ j us f. inl f) a k vs e
      where
        told_now : (front : List (Happened N)) (f : Happened N) (rest : List (Happened N)) (o : Option (ℕ × List (Value N))) → list_made f ≡ o → (ls ys : List (List (Value N))) → ((j : ℕ) (us : List (Value N)) → slice_get ls j ≡ Some us → HasMembers K E front j us)
            → Adds ls (o ∷ map list_made rest) ys → ((ms : List (List (Value N))) → ((j : ℕ) (us : List (Value N)) → slice_get ms j ≡ Some us → HasMembers K E (front ++ f ∷ []) j us) → Adds ms (map list_made rest) ys → (j : ℕ) (us : List (Value N)) → slice_get ys j ≡ Some us → HasMembers K E ((front ++ f ∷ []) ++ rest) j us)
            → (j : ℕ) (us : List (Value N)) → slice_get ys j ≡ Some us → HasMembers K E ((front ++ f ∷ []) ++ rest) j us
        told_now front f rest None q ls ys g a r = r ls (λ j us i. members_more K E front (f ∷ []) j us (g j us i)) a
        told_now front f rest (Some o) q ls ys g a r = r (ls ++ o.1 ∷ []) (λ j us i. either j us (get_last ls o.1 j us i)) a.1
          where
            either : (j : ℕ) (us : List (Value N)) → (slice_get ls j ≡ Some us) ⊎ ((j ≡ length ls) × (us ≡ o.1)) → HasMembers K E (front ++ f ∷ []) j us
            either j us (inl i) = members_more K E front (f ∷ []) j us (g j us i)
            either j us (inr i) = line_members front f o.0 o.1 j us q (i.0 ∙ sym a.0) i.1

        from_lines : (front : List (Happened N)) (ls : List (List (Value N))) (es : List (Happened N)) (ys : List (List (Value N))) → ((j : ℕ) (us : List (Value N)) → slice_get ls j ≡ Some us → HasMembers K E front j us) → Adds ls (map list_made es) ys
            → (j : ℕ) (us : List (Value N)) → slice_get ys j ≡ Some us → HasMembers K E (front ++ es) j us
        from_lines front ls [] ys g a j us e = subst (λ xs. HasMembers K E xs j us) (no_more front) (g j us (subst (λ zs. slice_get zs j ≡ Some us) (sym a) e))
        from_lines front ls (f ∷ es) ys g a j us e = subst (λ xs. HasMembers K E xs j us) (joined front (f ∷ []) es) (told_now front f es (list_made f) refl ls ys g a (λ ms h b. from_lines (front ++ f ∷ []) ms es ys h b) j us e)

    module _ (s : Vat N) (c : Causes K E s) (p : N) where
      any_ring : (d : ℕ) → ((v : Value N) → refs.reaches K d s p v ≡ true → Rings K E s.happened v p) → (vs : List (Value N)) → refs.any_of K (λ v. refs.reaches K d s p v) vs ≡ true → (y : Value N) × IsAmong y vs × Rings K E s.happened y p
      unfolding refs.any_of
      any_ring d r [] e = cc
      any_ring d r (v ∷ vs) e = either (refs.reaches K d s p v) refl e (λ i. any_ring d r vs i)
        where
          either : (b : Bool) → refs.reaches K d s p v ≡ b → elim b [ true ↦ true | false ↦ refs.any_of K (λ v. refs.reaches K d s p v) vs ] ≡ true → (refs.any_of K (λ v. refs.reaches K d s p v) vs ≡ true → (y : Value N) × IsAmong y vs × Rings K E s.happened y p) → (y : Value N) × IsAmong y (v ∷ vs) × Rings K E s.happened y p
          either true f i g = (v, inl refl, r v f)
          either false f i g = let h = g i in (h.0, inr h.1, h.2)

      listed_ring : (d : ℕ) (x : Value N) (k : ℕ) → Follows K E s.happened x (Items k) → ((v : Value N) → refs.reaches K d s p v ≡ true → Rings K E s.happened v p) → (o : Option (List (Value N))) → slice_get s.lists k ≡ o → refs.any_of K (λ v. refs.reaches K d s p v) (elim o [ Some vs ↦ vs | None ↦ [] ]) ≡ true → Rings K E s.happened x p
      unfolding refs.any_of
      listed_ring d x k f r None e i = cc
      listed_ring d x k f r (Some vs) e i = let h = any_ring d r vs i in member k vs h.0 f (members_there s.happened s.lists c.lists k vs e) h.1 h.2

      reached_ring : (d : ℕ) (x y : Value N) → Follows K E s.happened x y → ((v : Value N) → refs.reaches K d s p v ≡ true → Rings K E s.happened v p) → refs.reached K (refs.any_of K (λ v. refs.reaches K d s p v)) s.lists p y ≡ true → Rings K E s.happened x p
      unfolding refs.reached list_at
      reached_ring d x (Items k) f r e = listed_ring d x k f r (slice_get s.lists k) refl e
      reached_ring d x (Ref n) f r e = is_it n f e
      reached_ring d x other f r e = cc

      reaches_ring : (d : ℕ) (x : Value N) → refs.reaches K d s p x ≡ true → Rings K E s.happened x p
      unfolding refs.reaches
      reaches_ring zero x e = cc
      reaches_ring (suc d) x e = reached_ring d x (refs.follow K s x) (follows_now s c x) (reaches_ring d) e

    -- what a name settles to, or broken in its place where a list leads back to it
    cut_well : (so : List (Happened N)) (p : N) (k : ℕ) (b : Bool) → (b ≡ true → Rings K E so (Items k) p) → SettlesWell K E so p (Items k) → SettlesWell K E so p (refs.cut_cycle K b (Items k))
    unfolding refs.cut_cycle
    cut_well so p k false r h = h
    cut_well so p k true r (inl (x, g, inl f)) = inl (x, g, inr (Items k, f, r refl, refl))
    cut_well so p k true r (inl (x, g, inr (z, f, m, e))) = cc
    cut_well so p k true r (inr (w, i, o, e)) = cc

    target_well : (s : Vat N) → Causes K E s → (p : N) (y : Value N) → SettlesWell K E s.happened p y → SettlesWell K E s.happened p (refs.target_of K s p y)
    unfolding refs.target_of
    target_well s c p (Items k) h = cut_well s.happened p k _ (λ e. reaches_ring s c p (suc (length s.lists)) (Items k) e) h
    target_well s c p other h = h

    -- the line and the settling, as one
    settled_block : (p : N) (y : Value N) (m : Act N (Unit {0})) (s : Vat N) → Causes K E s → SettlesWell K E s.happened p y → ((t : Vat N) → Further K E s t → Causes K E t → IsAmong (Settles p y) t.happened → Ends K E t (Any K E) (m t))
        → Ends K E s (Any K E) ((tell (Settles p y) >> (alter K (Settle y) p >> m)) s)
    unfolding tell alter ◌>>◌ and_then changed_to give
    settled_block p y m s c w k = let e : Happened N = Settles p y in let r : Vat N = record s { happened = s.happened ++ e ∷ [] } in let t : Vat N = record r { known = with_change K (Settle y) p r.known } in
        let d : Causes K E t = alter_causes K E r p (Settle y) (λ j f i. (tt, tt)) (λ m j f g i. tt) ((traces_settled K E.vat.known p y (give (tt {0})) (traces_give K E.vat.known (tt {0}))).after s c.told) (causes_line K E s e w refl c) in
        let g : Done N (Unit {0}) = Gives tt t in
        ends_then K E s g (λ a. m) (λ a u. IsAmong (Settles p y) u.happened) (Any K E) ((e ∷ [], refl), d, among_last s.happened e) (λ a u l i j. k u l i j)

    -- those that wait at an entry that is found by a name wait for that name
    wait_for : (so : List (Happened N)) (k : Known N) (p q : N) → K.same k.name p ≡ true → WaitTold K E so k.name q → WaitsFor K E so q p
    wait_for so k p q e (inl (j, i, f, m)) = inl (j, i, subst (λ n. K.same n p ≡ true) (sym f) e, m)
    wait_for so k p q e (inr (n, l, f)) = inr (n, l, (k.name, f, e))

    all_given : (s t : Vat N) (p : N) (y : Value N) (k : Known N) → Further K E s t → IsAmong (Settles p y) t.happened → K.same k.name p ≡ true → (qs : List N) → AllOf (WaitTold K E s.happened k.name) qs → AllOf (λ q. IsGiven K E t.happened q y) qs
    all_given s t p y k l i e [] h = tt
    all_given s t p y k l i e (q ∷ qs) h = (waited p i (up K E (λ so. WaitsFor K E so q p) (λ so more w. waits_more K E so more q p w) s t l (wait_for s.happened k p q e h.0)), all_given s t p y k l i e qs h.1)

    settles_rest : (p : N) (y : Value N) (k : Known N) (s t : Vat N) → Further K E s t → Causes K E t → IsAmong (Settles p y) t.happened → K.same k.name p ≡ true → EntryTold K E s.happened k
        → Ends K E t (Any K E) ((each (refs.send_on K settle) k.held >> (each (λ q. settle q y) k.waiting >> (each enqueue k.reactions >> each (refs.inform K p) k.told))) t)
    unfolding ◌>>◌
    settles_rest p y k s t l d i e h = ends_then K E t (each (refs.send_on K settle) k.held t) _ (Any K E) _ (each_held k.held t d (all_map _ _ (λ m w. message_lasts m s t l w) k.held h.1)) (λ a u f c q.
        ends_then K E u (each (λ q. settle q y) k.waiting u) _ (Any K E) _ (each_waiting p y k.waiting u c (line_lasts (Settles p y) t u f i) (all_given s u p y k (further_on K E s t u l f) (line_lasts (Settles p y) t u f i) e k.waiting h.0)) (λ b v g x z.
        ends_then K E v (each enqueue k.reactions v) _ (Any K E) _ ((walk_each (SteadyBy K E) (steady_closed K E) k.reactions (steady_enqueue K E)).after v x) (λ b w j o z.
        (walk_each (SteadyBy K E) (steady_closed K E) k.told (steady_inform p)).after w o)))

    settles_known : (p : N) (y : Value N) (k : Known N) (s : Vat N) → Causes K E s → SettlesWell K E s.happened p y → K.same k.name p ≡ true → EntryTold K E s.happened k → Ends K E s (Any K E) (refs.settle_known K settle p y k s)
    unfolding refs.settle_known
    settles_known p y k s c w e h = settled_block p y _ s c w (λ t l d i. settles_rest p y k s t l d i e h)

    settles_standing : (p : N) (y : Value N) (k : Known N) (x : Standing N) (s : Vat N) → Causes K E s → SettlesWell K E s.happened p y → K.same k.name p ≡ true → EntryTold K E s.happened k → Ends K E s (Any K E) (refs.settle_standing K settle p y k x s)
    unfolding refs.settle_standing
    settles_standing p y k (Settled z) s c w e h = (steady_give K E tt).after s c
    settles_standing p y k other s c w e h = settles_known p y k s c w e h

    entry_here : (so : List (Happened N)) (p : N) (ks : List (Known N)) → AllOf (EntryTold K E so) ks → (o : Option (Known N)) → entry_of K ks p ≡ o → (k : Known N) → o ≡ Some k → (K.same k.name p ≡ true) × EntryTold K E so k
    unfolding entry_of
    entry_here so p [] h o e k f = cc
    entry_here so p (j ∷ ks) h o e k f = either (K.same j.name p) refl e (λ g. entry_here so p ks h.1 o g k f)
      where
        either : (b : Bool) → K.same j.name p ≡ b → elim b [ true ↦ Some j | false ↦ entry_of K ks p ] ≡ o → (entry_of K ks p ≡ o → (K.same k.name p ≡ true) × EntryTold K E so k) → (K.same k.name p ≡ true) × EntryTold K E so k
        either true g i r = let n : j ≡ k = cc in subst (λ z. (K.same z.name p ≡ true) × EntryTold K E so z) n (g, h.0)
        either false g i r = r i

    settles_entry : (p : N) (y : Value N) (o : Option (Known N)) (s : Vat N) → Causes K E s → SettlesWell K E s.happened p y → entry_of K s.known p ≡ o → Ends K E s (Any K E) (refs.settle_entry K settle p y o s)
    unfolding refs.settle_entry
    settles_entry p y None s c w e = (steady_give K E tt).after s c
    settles_entry p y (Some k) s c w e = let h = entry_here s.happened p s.known c.entries (Some k) e k refl in settles_standing p y k k.standing s c w h.0 h.1

    settles_one : (p : N) (y : Value N) (s : Vat N) → Causes K E s → SettlesWell K E s.happened p y → Ends K E s (Any K E) (refs.settle_one K settle p y s)
    unfolding refs.settle_one ◌>>=◌ look and_then
    settles_one p y s c w = settles_entry p (refs.target_of K s p y) (entry_of K s.known p) s c (target_well s c p y w) refl

  settles_at : (d : ℕ) → GoodSettler (refs.settle_at K d)
  unfolding refs.settle_at
  settles_at zero p y s c w = (steady_stop K E _).after s c
  settles_at (suc d) p y s c w = settles_one (λ q z. refs.settle_at K d q z) (λ q z t e v. settles_at d q z t e v) p y s c w

  pub settles_well : GoodSettler (refs.settle K)
  unfolding refs.settle ◌>>=◌ look and_then
  settles_well p y s c w = settles_at (suc (suc (length s.known))) p y s c w

  -- ---- resolving

  -- the chain of waits leads to the name
  module _ (s : Vat N) (c : Causes K E s) (p : N) where
    wait_chain : (n : N) (x : Standing N) (on : N → Bool) → IsTold K E.vat.known s.happened n x → OnwardTold K E s.happened n x → ((q : N) → on q ≡ true → Chain K E s.happened q p) → refs.led_by_wait K on x ≡ true → Chain K E s.happened n p
    unfolding refs.led_by_wait
    wait_chain n (WaitsOn q) on t o f e = onward q o (f q e)
    wait_chain n (Viewed q) on t o f e = onward q (inr (inr t)) (f q e)
    wait_chain n other on t o f e = cc

    lead_chain : (d : ℕ) (n : N) → refs.waits_lead K d s.known p n ≡ true → Chain K E s.happened n p
    unfolding refs.waits_lead
    lead_chain zero n e = there e
    lead_chain (suc d) n e = either (λ q j. lead_chain d q j) (K.same n p) refl e
      where
        either : ((q : N) → refs.waits_lead K d s.known p q ≡ true → Chain K E s.happened q p) → (b : Bool) → K.same n p ≡ b → elim b [ true ↦ true | false ↦ refs.led_by_wait K (λ q. refs.waits_lead K d s.known p q) (standing_of K s.known n) ] ≡ true → Chain K E s.happened n p
        either r true f i = there f
        either r false f i = wait_chain n (standing_of K s.known n) (λ q. refs.waits_lead K d s.known p q) (c.told n) (c.onward n) r i

  waits_unless_cycle : (p q : N) (s : Vat N) → Causes K E s → (x : Value N) → IsGiven K E s.happened p x → Follows K E s.happened x (Ref q) → Ends K E s (Any K E) (refs.wait_unless_cycle K p q s)
  unfolding refs.wait_unless_cycle ◌>>=◌ look and_then
  waits_unless_cycle p q s c x g f = either (refs.waits_lead K (length s.known) s.known p q) refl
    where
      either : (b : Bool) → refs.waits_lead K (length s.known) s.known p q ≡ b → Ends K E s (Any K E) ((if b then refs.settle K p (Broken (codes "cycle")) else refs.wait_on K p q) s)
      either true e = settles_well p (Broken (codes "cycle")) s c (inl (x, g, inr (Ref q, f, lead_chain s c p (length s.known) q e, refl)))
      either false e = waits_on p q s c (inl (x, g, f))

  resolves_to : (p : N) (y : Value N) (q : Place N) → IsAt y q → (s : Vat N) → Causes K E s → (x : Value N) → IsGiven K E s.happened p x → Follows K E s.happened x y → Ends K E s (Any K E) (refs.resolve_to K p y q s)
  unfolding refs.resolve_to
  resolves_to p y (Mine n) a s c x g f = waits_unless_cycle p n s c x g (subst (λ z. Follows K E s.happened x z) a f)
  resolves_to p y (Away h n false) a s c x g f = waits_unless_cycle p n s c x g (subst (λ z. Follows K E s.happened x z) a f)
  resolves_to p y other a s c x g f = settles_well p y s c (inl (x, g, inl f))

  pub resolves_well : (p : N) (x : Value N) (s : Vat N) → Causes K E s → IsGiven K E s.happened p x → Ends K E s (Any K E) (refs.resolve K p x s)
  unfolding refs.resolve ◌>>=◌ look and_then
  resolves_well p x s c g = resolves_to p (refs.follow K s x) (refs.place K s (refs.follow K s x)) (placed s _) s c x g (follows_now s c x)

  -- ---- a message that is sent first

  pub sends_first : (m : Message N) (y : Value N) (p : Place N) → IsAt y p → (s : Vat N) → Causes K E s → MessageTold K E s.happened (record m { target = y }) → Ends K E s (Any K E) (refs.send_first K m y p s)
  unfolding refs.send_first
  sends_first m y (Away h n o) a s c t = ends_more K E s (refs.deliver K m h n s) _ (Any K E) (delivers m h n s c) (λ b u l q. tt)
  sends_first m y Near a s c t = sends_to (refs.settle K) settles_well m y Near a s c t
  sends_first m y (Mine n) a s c t = sends_to (refs.settle K) settles_well m y (Mine n) a s c t
  sends_first m y (Gone w) a s c t = sends_to (refs.settle K) settles_well m y (Gone w) a s c t

  pub sends_arrived : (m : Message N) (s : Vat N) → Causes K E s → MessageTold K E s.happened m → Ends K E s (Any K E) (refs.send_on K (refs.settle K) m s)
  sends_arrived m s c h = sends_on (refs.settle K) settles_well m s c h
