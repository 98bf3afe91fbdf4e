-- A message that a vat makes in a turn and that goes to a promise of another vat has no answer at its own vat: a care for names, and for what the message weighs.
use Rattle.std.proofs.Common.{◌≡◌, ℕ, zero, suc, ◌≤◌, ◌<◌, Bool, true, false, List, [], ◌∷◌, ◌++◌, Some, refl, sym, ap, ◌∙◌, ◌⊎◌, inl, inr, arith, leb-true, Option, None}
use Rattle.std.specs.Prelude.{slice_get, nat_le, ◌==◌}
use Rattle.std.proofs.lemmas.Bool.{eqb-true, eq-eqb, le-leb}
use Rattle.def_machine.specs.Values.{Words, Value, Broken, Name, Answer, Promise, Sent, Msg, Naming, naming, name_of, mail_of, answer_of, host_of, same_name}
use Rattle.def_machine.specs.State.{Message, Sends, Reacts, Happened, Vat, Done, Gives, Stops, ◌>>=◌, ◌>>◌, and_then, give, look, tell, enqueue, alter, new_message, new_promise, begun, Known, new_lone_message}
use Rattle.def_machine.specs.Refs as refs
use Rattle.def_machine.specs.Refs.{Place, Near, Mine, Away, Gone}
use Rattle.law_machine.specs.Machine.Steps.{After}
use Rattle.law_machine.proofs.Machine.Keeps.{Keeps}
use Rattle.law_fate.specs.Fates.Fate.{one as same_one, once as fate_once, sent_in}
use Rattle.law_fate.specs.Fates.FateLaws.{numbered as fate_numbered, Accounted}
use Rattle.law_fate.proofs.Fates.PlacesLast.{Global}
use Rattle.law_fate.proofs.Fates.PlacesSteps.{global_names}
use Rattle.law_fate.proofs.Fates.PlacesRefs.{Fits, fits_at}
use Rattle.law_fate.proofs.Fates.RefsAccount as account
use Rattle.law_fate.specs.Fates.Carry.{load, fare, held_at}
use Rattle.law_fate.specs.Fates.Sound.{Sound as Weighed}
use Rattle.law_fate.specs.Fates.CarryLaws.{Lightened}
use Rattle.law_fate.proofs.Fates.Light.{LightAt, Light, held_end, come_sound, light_react, light_enqueue}
use Rattle.law_fate.proofs.Fates.RefsLight.{ride, PlaceSound, place_sound, cost_deliver, light_settle, light_break, light_resolve, light_send, light_reacts, send_to_at, host_later, light_send_only}
use Rattle.law_reference.specs.Reference.Knowing.{once, one, claims, numbered, numbered_at, Knowing}
use Rattle.law_reference.proofs.Reference.Claims.{claims_end}
use Rattle.law_reference.proofs.Reference.Costs.{free, spared}
use Rattle.law_reference.proofs.Reference.RefsCosts as table
use Rattle.law_reference.proofs.Reference.RefsCosts.{free_pass}
use Rattle.law_reference.proofs.Reference.Abroad.{away_abroad}
use Rattle.law_fate.specs.Name.Names.{At, ValueOk, ValuesOk}
use Rattle.law_fate.proofs.Name.Facts.{PlaceOk, Fact, Also, IsVat, IsValue, AreValues, IsMessage, IsPlace, new_names, nothing, Nothing, IsMail}
use Rattle.law_fate.proofs.Name.Care.{Care, Under, Makes, Sound, Ends, Gets, Fine, rise, fine_bind, fine_give, then_unit, fine_tell, fine_new_message, fine_promise, fine_lone_message}
use Rattle.law_fate.proofs.Name.CareRefs.{fine_settle, fine_resolve, fine_send, fine_react, fine_send_first, fine_send_only}
use Rattle.law_fate.proofs.Name.Looks.{follow_ok, place_ok}
use Rattle.law_fate.proofs.Name.Serves.{Serves, Closing}
use Rattle.law_fate.proofs.Name.Tracked.{Marked, tracked, tracked_under, tracked_makes}
use Rattle.law_reference.proofs.Reference.CareMore.{Leaves, KeptQuiet, More, lift_of}
use Rattle.law_reference.proofs.Reference.Follow.{eq_dec}

true_false : true ≡ false → ⊥
true_false e = cc

pub is_made : (n k : ℕ) → n < k → nat_le (suc n) k ≡ true
is_made n k h = le-leb (suc n) k h

pub not_made : (n k : ℕ) → k ≤ n → nat_le (suc n) k ≡ false
not_made n k h = either (nat_le (suc n) k) refl
  where
    either : (b : Bool) → nat_le (suc n) k ≡ b → nat_le (suc n) k ≡ false
    either true e = let l = leb-true (suc n) k e in absurd (omega arith)
    either false e = e

pub made_or : (n k : ℕ) → (n < k) ⊎ (k ≤ n)
made_or zero zero = inr (omega arith)
made_or zero (suc k) = inl (omega arith)
made_or (suc n) zero = inr (omega arith)
made_or (suc n) (suc k) = next (made_or n k)
  where
    next : (n < k) ⊎ (k ≤ n) → (suc n < suc k) ⊎ (suc k ≤ suc n)
    next (inl h) = inl (omega arith)
    next (inr h) = inr (omega arith)

module _ (v : ℕ) (m : Msg) (mine : m.sender ≡ v) where
  abbrev pub Id : Name
  Id = Sent m

  abbrev pub X : Name
  X = Answer v m

  -- Once the message was made: it goes to no promise of another vat, or its answer here is not known; before that neither is anywhere.
  abbrev pub One : Vat Name → Type 0
  One s = (m.number < s.messages → (load Id s ≤ 1) ⊎ (claims v X s.known ≤ 0)) × (s.messages ≤ m.number → (load Id s ≤ 0) × (claims v X s.known ≤ 0))

  -- the counts of what was numbered, by the count of messages
  abbrev pub Sames : Vat Name → Vat Name → Type 0
  Sames s t = (fate_numbered v s.messages Id ≡ fate_numbered v t.messages Id) × (numbered_at v X s ≡ numbered_at v X t)

  pub same_sames : (s t : Vat Name) → nat_le (suc m.number) s.messages ≡ nat_le (suc m.number) t.messages → Sames s t
  unfolding fate_numbered numbered_at numbered
  same_sames s t e = (ap (λ b. elim (v == m.sender) [ true ↦ fate_once b | false ↦ 0 ]) e, ap (λ b. elim (v == m.sender) [ true ↦ once b | false ↦ 0 ]) e)

  -- where the message was made before, or is not made yet
  pub one_on : (c : ℕ) (s t : Vat Name) → s.number ≡ v → Sames s t → (m.number < t.messages → m.number < s.messages) → (t.messages ≤ m.number → s.messages ≤ m.number) → Lightened v Id 0 s t → Knowing v X 0 s t → Accounted (λ u. false) v Id c s t → One s → One t
  one_on c s t e same made unmade l k a o = (λ i. either (o.0 (made i)), λ i. let old = o.1 (unmade i) in let x = old.0 in let y = old.1 in (weight x, known y))
    where
      weight : {n : ℕ} → load Id s ≤ n → load Id t ≤ n
      weight h = let w = l.kept in let f = a.fresh in let g = same.0 in omega arith

      known : claims v X s.known ≤ 0 → claims v X t.known ≤ 0
      known h = let w = k.kept e in let g = same.1 in omega arith

      either : (load Id s ≤ 1) ⊎ (claims v X s.known ≤ 0) → (load Id t ≤ 1) ⊎ (claims v X t.known ≤ 0)
      either (inl h) = inl (weight h)
      either (inr h) = inr (known h)

  module _ (M : Marked) (vats : List (Vat Name)) (q : Vat Name) (there : slice_get vats v ≡ Some q) (here : M.mark (At v)) (word : ℕ → ℕ) where
    abbrev pub T : Care Name
    T = tracked true M vats v q there here

    -- the same where no message is made
    abbrev F : Care Name
    F = tracked false M vats v q there here

    abbrev pub Names : Naming Name Name
    Names = naming word v

    under : Under Names T
    under = tracked_under true M vats v q there here word

    under_none : Under Names F
    under_none = tracked_under false M vats v q there here word

    makes : Makes Names T
    makes = tracked_makes M vats v q there here word

    global : Global Names v
    global = global_names word v

    abbrev pub Kept : Vat Name → Type 0
    Kept s = Weighed v s × One s

    -- what the message weighs is in none of these
    pub quiet : KeptQuiet Kept
    unfolding load
    quiet = record { fuel = λ s n k. k; told = λ s e k. k; activations = λ s k. k; thing = λ s z k. k; killed = λ s n k. k; slot = λ s c k. k; written = λ s n y k. k; list = λ s ys k. k }

    abbrev pub Z : Care Name
    Z = More T Kept quiet

    gets_names : {C G : Fact Name} → Gets Z C G → Gets T C G
    gets_names k = record { at = k.at }

    gets_none : {C G : Fact Name} → Gets Z C G → Gets F C G
    gets_none k = record { at = k.at }

    none_sound : (s : Vat Name) → Sound T s → Sound F s
    none_sound s h = record { parts = h.parts; more = h.more }

    -- where no message is made all goes on
    none_made : {A : Type 0} (G : A → Fact Name) (s : Vat Name) (d : Done Name A) → Ends F G s d → LightAt v Id 0 s d → After (Knowing v X 0) s d → After (Accounted (λ u. false) v Id 0) s d → Kept s → Leaves Kept d
    none_made G s (Gives a t) f l k c o = let r = f.0 in let e : s.messages ≡ t.messages = r.messages in let w = o.0 in
        (l.sound, one_on 0 s t w.same (same_sames s t (ap (λ n. nat_le (suc m.number) n) e)) (λ i. rw e i) (λ i. rw e i) l k c o.1)
    none_made G s (Stops r t) f l k c o = tt
    none_made G s other f l k c o = absurd l

    -- ---- a new promise

    promised : (s : Vat Name) → Kept s → Leaves Kept (new_promise Names s)
    unfolding new_promise naming name_of host_of begun load one same_name once
    promised s o = let w = o.0 in let n : Name = Promise v s.promises in let c = claims_end v X s.known n s.number in let l = held_end Id s.known n s.number in
        (come_sound v Id Names global s n s.number tt w.same w, ((λ i. either (o.1.0 i)), (λ i. let old = o.1.1 i in let x = old.0 in let y = old.1 in (omega arith, omega arith))))
      where
        either : (load Id s ≤ 1) ⊎ (claims v X s.known ≤ 0) → (load Id (record s { promises = suc s.promises; known = s.known ++ begun (Promise v s.promises) s.number ∷ [] }) ≤ 1) ⊎ (claims v X (s.known ++ begun (Promise v s.promises) s.number ∷ []) ≤ 0)
        either (inl h) = let l = held_end Id s.known (Promise v s.promises) s.number in inl (omega arith)
        either (inr h) = let c = claims_end v X s.known (Promise v s.promises) s.number in inr (omega arith)

    -- ---- a new message

    -- the state with the message, what is known then, and its line
    abbrev After_ : Vat Name → List (Known Name) → Happened Name → Vat Name
    After_ s ks e = record s { messages = suc s.messages; mails = s.mails ++ Sent (record { sender = v; number = s.messages }) ∷ []; known = ks; happened = s.happened ++ e ∷ [] }

    -- with its answer at that host
    abbrev Ks : Vat Name → ℕ → List (Known Name)
    Ks s h = s.known ++ begun (answer_of h (Sent (record { sender = v; number = s.messages }))) h ∷ []

    abbrev With : Vat Name → ℕ → Happened Name → Vat Name
    With s h e = After_ s (Ks s h) e

    -- where it is another message
    other_made : {A : Type 0} (c : ℕ) (s : Vat Name) (d : Done Name A) → (m.number ≡ s.messages → ⊥) → Kept s → LightAt v Id 0 s d → After (Knowing v X 0) s d → After (Accounted (λ u. false) v Id c) s d
        → ((a : A) (t : Vat Name) → d ≡ Gives a t → t.messages ≡ suc s.messages) → Leaves Kept d
    other_made c s (Gives a t) f o l k r e = let w = o.0 in let g = e a t refl in
        (l.sound, one_on c s t w.same (same_sames s t (count_same (made_or m.number s.messages))) (λ i. down i (made_or m.number s.messages)) (λ i. omega arith) l k r o.1)
      where
        down : m.number < t.messages → (m.number < s.messages) ⊎ (s.messages ≤ m.number) → m.number < s.messages
        down i (inl h) = h
        down i (inr h) = let g = e a t refl in absurd (f (omega arith))

        count_same : (m.number < s.messages) ⊎ (s.messages ≤ m.number) → nat_le (suc m.number) s.messages ≡ nat_le (suc m.number) t.messages
        count_same (inl h) = let g = e a t refl in is_made m.number s.messages h ∙ sym (is_made m.number t.messages (omega arith))
        count_same (inr h) = let g = e a t refl in not_made m.number s.messages h ∙ sym (not_made m.number t.messages (at_most (made_or m.number t.messages)))
          where
            at_most : (m.number < t.messages) ⊎ (t.messages ≤ m.number) → t.messages ≤ m.number
            at_most (inl i) = let g = e a t refl in absurd (f (omega arith))
            at_most (inr i) = i
    other_made c s (Stops z t) f o l k r e = tt
    other_made c s other f o l k r e = absurd l

    made_facts : (ev : Name × Name → Happened Name) (h : ℕ) → Fine T (IsVat h) (new_message Names h >>= (λ new. tell (ev new) >> give new)) new_names
    made_facts ev h = fine_bind T new_names (fine_new_message Names T under makes h (record { at = λ s c. c })) (λ new. then_unit T (fine_tell Names T under (ev new)) (fine_give T new (record { at = λ s c. c.1 })))

    -- the weight, and what is known, with the message just made
    load_after : (s : Vat Name) (ks : List (Known Name)) (e : Happened Name) → held_at Id ks ≡ held_at Id s.known → load Id (After_ s ks e) ≡ load Id s
    unfolding load
    load_after s ks e l = omega arith

    held_with : (s : Vat Name) (h : ℕ) → held_at Id (Ks s h) ≡ held_at Id s.known
    held_with s h = held_end Id s.known (answer_of h (Sent (record { sender = v; number = s.messages }))) h

    gives_same : {A : Type 0} (a b : A) (s t : Vat Name) → ◌≡◌ {A = Done Name A} (Gives a s) (Gives b t) → s ≡ t
    gives_same a b s t e = cc

    -- ---- what follows once the message was made

    module _ (s : Vat Name) (ks : List (Known Name)) (e : Happened Name) (held : held_at Id ks ≡ held_at Id s.known) (o : Kept s) (new : m.number ≡ s.messages) where
      abbrev S2 : Vat Name
      S2 = After_ s ks e

      empty : (load Id S2 ≤ 0) × (claims v X s.known ≤ 0)
      empty = let old = o.1.1 (omega arith) in let x = old.0 in let l = load_after s ks e held in (omega arith, old.1)

      -- it goes out: its answer here is not known
      goes_away : (c : ℕ) (y : Value Name) (d : Done Name (Unit {0})) → claims v X S2.known ≤ 0 → Ends F nothing S2 d → LightAt v Id c S2 d → After (Knowing v X 0) S2 d → Leaves Kept (and_then d (λ u. give y))
      unfolding and_then give
      goes_away c y (Gives u t) none f l k = let w = o.0 in let r = f.0 in let g : S2.messages ≡ t.messages = r.messages in let same = same_sames S2 t (ap (λ n. nat_le (suc m.number) n) g) in let i = k.kept w.same in let j = same.1 in
          (l.sound, ((λ x. inr (omega arith)), (λ x. absurd (omega arith))))
      goes_away c y (Stops z t) none f l k = tt
      goes_away c y other none f l k = absurd l

      -- it stays: it weighs one at most
      stays_here : (c : ℕ) (b : ℕ) (y : Value Name) (d : Done Name (Unit {0})) → c ≤ 1 → Ends F nothing S2 d → LightAt v Id c S2 d → After (Accounted (λ u. false) v Id b) S2 d → Leaves Kept (and_then d (λ u. give y))
      unfolding and_then give
      stays_here c b y (Gives u t) i f l a = let r = f.0 in let g : S2.messages ≡ t.messages = r.messages in let same = same_sames S2 t (ap (λ n. nat_le (suc m.number) n) g) in let j = same.0 in let k = l.kept in let n = a.fresh in let x = empty.0 in
          (l.sound, ((λ z. inl (omega arith)), (λ z. absurd (omega arith))))
      stays_here c b y (Stops z t) i f l a = tt
      stays_here c b y other i f l a = absurd l

    pass_all_free : (w : ℕ) (ys : List (Value Name)) → Keeps (Knowing v X 0) (refs.pass_all Names w ys)
    unfolding refs.pass_all
    pass_all_free w [] = let law = spared v X in search (free, law)
    pass_all_free w (y ∷ ys) = let law = spared v X in let one : Keeps (Knowing v X 0) (refs.pass Names w y) = free_pass v X word w y in let rest = pass_all_free w ys in search (free, law) depth 14

    deliver_free : (n : Message Name) (h : ℕ) (to : Name) → Keeps (Knowing v X 0) (refs.deliver Names n h to)
    unfolding refs.deliver
    deliver_free n h to = let law = spared v X in let all : Keeps (Knowing v X 0) (refs.pass_all Names h n.args) = pass_all_free h n.args in search (free, law) depth 14

    -- ---- a send

    module _ (act : ℕ) (x : Value Name) (verb : Words) (args : List (Value Name)) (s : Vat Name) where
      abbrev At_ : Value Name
      At_ = refs.follow Names s x

      -- the message whose answer is at that host, and its line
      abbrev It_ : Option Name → Message Name
      It_ o = record { id = Sent (record { sender = v; number = s.messages }); target = At_; verb = verb; args = args; answer = o }

      abbrev Its : ℕ → Message Name
      Its h = It_ (Some (answer_of h (Sent (record { sender = v; number = s.messages }))))

      abbrev Its_ : Option Name
      Its_ = Some (answer_of s.number (Sent (record { sender = v; number = s.messages })))

      abbrev Line : Name × Name → Happened Name
      Line new = Sends act (record { id = new.0; target = x; verb = verb; args = args; answer = Some new.1 })

      abbrev LineAt : ℕ → Happened Name
      LineAt h = let id : Name = Sent (record { sender = v; number = s.messages }) in Line (id, answer_of h id)

      abbrev First : Place Name → Done Name (Unit {0})
      First p = refs.send_first Names (Its (refs.answer_host Names s.number p)) At_ p (With s (refs.answer_host Names s.number p) (LineAt (refs.answer_host Names s.number p)))

      messages_after : (ks : List (Known Name)) (l : Happened Name) (y : Value Name) (d : Done Name (Unit {0})) → Ends F nothing (After_ s ks l) d → (a : Value Name) (t : Vat Name) → and_then d (λ u. give y) ≡ Gives a t → t.messages ≡ suc s.messages
      unfolding and_then give
      messages_after ks l y (Gives u r) f a t e = let k = f.0 in let g : suc s.messages ≡ r.messages = k.messages in sym (ap (λ z. z.messages) (gives_same y a r t e)) ∙ sym g
      messages_after ks l y other f a t e = cc

      first_ends : (p : Place Name) → Sound T s → T.ok s (At (refs.answer_host Names s.number p)) → ValueOk (T.ok s) At_ → PlaceOk (T.ok s) p → ValuesOk (T.ok s) args → Ends F nothing (With s (refs.answer_host Names s.number p) (LineAt (refs.answer_host Names s.number p))) (First p)
      unfolding ◌>>=◌ ◌>>◌ and_then new_message tell give naming mail_of name_of
      first_ends p w at gz gp ga = let h = refs.answer_host Names s.number p in let S2 = With s h (LineAt h) in let made = (made_facts Line h).after s w at in
          let facts = rise T s S2 made.0 (Also (IsValue At_) (Also (IsPlace p) (AreValues args))) (gz, (gp, ga)) in
          let C : Fact Name = Also (IsMessage (Its h)) (Also (IsValue At_) (IsPlace p)) in
          (fine_send_first Names F under_none {C = C} (Its h) (record { at = λ r c. c.0 }) At_ (record { at = λ r c. c.1.0 }) p (record { at = λ r c. c.1.1 })).after S2 (none_sound S2 made.1) ((made.2.0, facts.0, facts.1.1, made.2.1), (facts.0, facts.1.0))

      same_least : (b : Bool) → fate_once b ≤ 1
      unfolding fate_once
      same_least true = omega arith
      same_least false = omega arith

      rides : (p : Place Name) → (w : ℕ) → w ≤ 1 → (Away_not : (h : ℕ) (n : Name) (o : Bool) → p ≡ Away h n o → ⊥) → ride p w ≤ 1
      unfolding ride
      rides (Mine n) w i f = i
      rides (Away h n o) w i f = absurd (f h n o refl)
      rides other w i f = omega arith

      flip : (h : ℕ) → (v == h) ≡ false → (h == v) ≡ false
      flip h e = either (h == v) refl
        where
          either : (b : Bool) → (h == v) ≡ b → (h == v) ≡ false
          either true f = absurd (true_false (sym (eq-eqb v h (sym (eqb-true h v f))) ∙ e))
          either false f = f

      abroad_one : (h : ℕ) → (v == h) ≡ false → one (answer_of h (Sent (record { sender = v; number = s.messages }))) X ≤ 0
      unfolding one same_name once answer_of
      abroad_one h e = rw (flip h e) (omega arith)

      made_sound : (h : ℕ) → Weighed v s → Weighed v (With s h (LineAt h))
      unfolding answer_of host_of
      made_sound h w = come_sound v Id Names global s (answer_of h (Sent (record { sender = v; number = s.messages }))) h tt refl w

      abbrev Its_one : ℕ
      Its_one = same_one (Sent (record { sender = v; number = s.messages })) Id

      its_least : Its_one ≤ 1
      unfolding same_one
      its_least = same_least (same_name (Sent (record { sender = v; number = s.messages })) Id)

      near_light : (o : Option Name) (p : Place Name) → Fits At_ p → (S2 : Vat Name) → PlaceSound Names v global S2.known p → Weighed v S2 → LightAt v Id (ride p Its_one) S2 (refs.send_to Names (refs.settle Names) (It_ o) At_ p S2)
      near_light o p f S2 i w = send_to_at Names v global Id (refs.settle Names) (light_settle Names v global Id) (It_ o) At_ p S2 (record { sender = v; number = s.messages }, refl) f i w

      near_account : (o : Option Name) (p : Place Name) (S2 : Vat Name) → After (Accounted (λ u. false) v Id Its_one) S2 (refs.send_first Names (It_ o) At_ p S2)
      near_account o p S2 = (account.costs_send_first (λ u. false) v Id Names (It_ o) At_ p).after S2

      the_ends : Sound T s → ValueOk (T.ok s) x → ValuesOk (T.ok s) args → Ends F nothing (With s (refs.answer_host Names s.number (refs.place Names s At_)) (LineAt (refs.answer_host Names s.number (refs.place Names s At_)))) (First (refs.place Names s At_))
      unfolding refs.answer_host
      the_ends h g ga = let parts = h.parts in let gz = follow_ok Names (T.ok s) s parts.known x g in
          let spots = under.spots in let gp = place_ok Names (T.ok s) s (spots.placed s h.more) At_ gz in first_ends (refs.place Names s At_) h (host_ok (refs.place Names s At_) gp) gz gp ga
        where
          host_ok : (p : Place Name) → PlaceOk (T.ok s) p → T.ok s (At (refs.answer_host Names s.number p))
          host_ok (Away w n o) g = T.near s w g.1
          host_ok other g = T.here s h.more

      -- by where it goes, where it is the message
      sent_by : (p : Place Name) → refs.place Names s At_ ≡ p → Kept s → m.number ≡ s.messages → Ends F nothing (With s (refs.answer_host Names s.number p) (LineAt (refs.answer_host Names s.number p))) (First p) → (y : Value Name) → Leaves Kept (and_then (First p) (λ u. give y))
      unfolding refs.send_first refs.answer_host
      sent_by (Away h n o) e k new ends y = let S2 = With s h (LineAt h) in let w = k.0 in let c = claims_end v X s.known (answer_of h (Sent (record { sender = v; number = s.messages }))) h in let none = empty s (Ks s h) (LineAt h) (held_with s h) k new in let less = abroad_one h (away_abroad v word s At_ h n o w.same e) in let before = none.1 in
          goes_away s (Ks s h) (LineAt h) (held_with s h) k new (fare n Its_one) y _ (omega arith) ends
          ((cost_deliver Names v global Id (Its h) h n (rw e at (place_sound Names v global s At_ w))).after S2 (made_sound h w)) ((deliver_free (Its h) h n).after S2)
      sent_by Near e k new ends y = let S2 = With s s.number (LineAt s.number) in let w = k.0 in
          stays_here s (Ks s s.number) (LineAt s.number) (held_with s s.number) k new (ride Near Its_one) Its_one y _ (rides Near Its_one (its_least) (λ h n o i. no_away i)) ends (near_light Its_ Near (fits_at Names v global s At_ Near e) S2 tt (made_sound s.number w)) (near_account Its_ Near S2)
        where
          no_away : {h : ℕ} {n : Name} {o : Bool} → ◌≡◌ {A = Place Name} Near (Away h n o) → ⊥
          no_away i = cc
      sent_by (Mine z) e k new ends y = let S2 = With s s.number (LineAt s.number) in let w = k.0 in
          stays_here s (Ks s s.number) (LineAt s.number) (held_with s s.number) k new (ride (Mine z) Its_one) Its_one y _ (rides (Mine z) Its_one (its_least) (λ h n o i. no_away i)) ends (near_light Its_ (Mine z) (fits_at Names v global s At_ (Mine z) e) S2 (host_later Names v global Id z (answer_of s.number (Sent (record { sender = v; number = s.messages }))) s.number w.same s.known (rw e at (place_sound Names v global s At_ w))) (made_sound s.number w)) (near_account Its_ (Mine z) S2)
        where
          no_away : {h : ℕ} {n : Name} {o : Bool} → ◌≡◌ {A = Place Name} (Mine z) (Away h n o) → ⊥
          no_away i = cc
      sent_by (Gone r) e k new ends y = let S2 = With s s.number (LineAt s.number) in let w = k.0 in
          stays_here s (Ks s s.number) (LineAt s.number) (held_with s s.number) k new (ride (Gone r) Its_one) Its_one y _ (rides (Gone r) Its_one (its_least) (λ h n o i. no_away i)) ends (near_light Its_ (Gone r) (fits_at Names v global s At_ (Gone r) e) S2 tt (made_sound s.number w)) (near_account Its_ (Gone r) S2)
        where
          no_away : {h : ℕ} {n : Name} {o : Bool} → ◌≡◌ {A = Place Name} (Gone r) (Away h n o) → ⊥
          no_away i = cc

      sent_either : Sound T s → ValueOk (T.ok s) x → ValuesOk (T.ok s) args → Kept s → (m.number ≡ s.messages) ⊎ (m.number ≡ s.messages → ⊥) → Leaves Kept (refs.send Names act x verb args s)
      unfolding refs.send ◌>>=◌ ◌>>◌ and_then look tell new_message naming mail_of name_of
      sent_either h g ga k (inl new) = sent_by (refs.place Names s At_) refl k new (the_ends h g ga) _
      sent_either h g ga k (inr other) = other_made 0 s (refs.send Names act x verb args s) other k ((light_send Names v global Id act x verb args).after s k.0) ((table.free_send v X word act x verb args).after s) ((account.free_send (λ u. false) v Id Names (λ n i. refl) act x verb args).after s)
          (λ a t e. messages_after (Ks s (refs.answer_host Names s.number (refs.place Names s At_))) (LineAt (refs.answer_host Names s.number (refs.place Names s At_))) _ (First (refs.place Names s At_)) (the_ends h g ga) a t e)

      -- the same without an answer
      abbrev LoneLine : Happened Name
      LoneLine = Sends act (record { id = Sent (record { sender = v; number = s.messages }); target = x; verb = verb; args = args; answer = None })

      abbrev S4 : Vat Name
      S4 = After_ s s.known LoneLine

      abbrev LoneFirst : Place Name → Done Name (Unit {0})
      LoneFirst p = refs.send_first Names (It_ None) At_ p S4

      lone_facts : Fine T Nothing (new_lone_message Names >>= (λ id. tell (Sends act (record { id = id; target = x; verb = verb; args = args; answer = None })) >> give id)) IsMail
      lone_facts = fine_bind T IsMail (fine_lone_message Names T under makes) (λ id. then_unit T (fine_tell Names T under _) (fine_give T id (record { at = λ s c. c.1 })))

      lone_ends : (p : Place Name) → Sound T s → ValueOk (T.ok s) At_ → PlaceOk (T.ok s) p → ValuesOk (T.ok s) args → Ends F nothing S4 (LoneFirst p)
      unfolding ◌>>=◌ ◌>>◌ and_then new_lone_message tell give naming mail_of
      lone_ends p w gz gp ga = let made = lone_facts.after s w tt in
          let facts = rise T s S4 made.0 (Also (IsValue At_) (Also (IsPlace p) (AreValues args))) (gz, (gp, ga)) in
          let C : Fact Name = Also (IsMessage (It_ None)) (Also (IsValue At_) (IsPlace p)) in
          (fine_send_first Names F under_none {C = C} (It_ None) (record { at = λ r c. c.0 }) At_ (record { at = λ r c. c.1.0 }) p (record { at = λ r c. c.1.1 })).after S4 (none_sound S4 made.1) ((made.2, facts.0, facts.1.1, tt), (facts.0, facts.1.0))

      lone_all : Sound T s → ValueOk (T.ok s) x → ValuesOk (T.ok s) args → Ends F nothing S4 (LoneFirst (refs.place Names s At_))
      lone_all h g ga = let parts = h.parts in let gz = follow_ok Names (T.ok s) s parts.known x g in
          let spots = under.spots in let gp = place_ok Names (T.ok s) s (spots.placed s h.more) At_ gz in lone_ends (refs.place Names s At_) h gz gp ga

      lone_by : (p : Place Name) → refs.place Names s At_ ≡ p → Kept s → m.number ≡ s.messages → Ends F nothing S4 (LoneFirst p) → (y : Value Name) → Leaves Kept (and_then (LoneFirst p) (λ u. give y))
      unfolding refs.send_first
      lone_by (Away h n o) e k new ends y = let w = k.0 in let none = empty s s.known LoneLine refl k new in
          goes_away s s.known LoneLine refl k new (fare n Its_one) y _ none.1 ends
          ((cost_deliver Names v global Id (It_ None) h n (rw e at (place_sound Names v global s At_ w))).after S4 w) ((deliver_free (It_ None) h n).after S4)
      lone_by Near e k new ends y = let w = k.0 in
          stays_here s s.known LoneLine refl k new (ride Near Its_one) Its_one y _ (rides Near Its_one (its_least) (λ h n o i. cc)) ends (near_light None Near (fits_at Names v global s At_ Near e) S4 tt w) (near_account None Near S4)
      lone_by (Mine z) e k new ends y = let w = k.0 in
          stays_here s s.known LoneLine refl k new (ride (Mine z) Its_one) Its_one y _ (rides (Mine z) Its_one (its_least) (λ h n o i. cc)) ends (near_light None (Mine z) (fits_at Names v global s At_ (Mine z) e) S4 (rw e at (place_sound Names v global s At_ w)) w) (near_account None (Mine z) S4)
      lone_by (Gone r) e k new ends y = let w = k.0 in
          stays_here s s.known LoneLine refl k new (ride (Gone r) Its_one) Its_one y _ (rides (Gone r) Its_one (its_least) (λ h n o i. cc)) ends (near_light None (Gone r) (fits_at Names v global s At_ (Gone r) e) S4 tt w) (near_account None (Gone r) S4)

      lone_either : Sound T s → ValueOk (T.ok s) x → ValuesOk (T.ok s) args → Kept s → (m.number ≡ s.messages) ⊎ (m.number ≡ s.messages → ⊥) → Leaves Kept (refs.send_only Names act x verb args s)
      unfolding refs.send_only ◌>>=◌ ◌>>◌ and_then look tell new_lone_message naming mail_of
      lone_either h g ga k (inl new) = lone_by (refs.place Names s At_) refl k new (lone_all h g ga) _
      lone_either h g ga k (inr other) = other_made 0 s (refs.send_only Names act x verb args s) other k ((light_send_only Names v global Id act x verb args).after s k.0) ((table.free_send_only v X word act x verb args).after s) ((account.free_send_only (λ u. false) v Id Names (λ n i. refl) act x verb args).after s)
          (λ a t e. messages_after s.known LoneLine _ (LoneFirst (refs.place Names s At_)) (lone_all h g ga) a t e)

    lone_kept : (act : ℕ) (x : Value Name) (verb : Words) (args : List (Value Name)) (s : Vat Name) → Sound T s → ValueOk (T.ok s) x → ValuesOk (T.ok s) args → Kept s → Leaves Kept (refs.send_only Names act x verb args s)
    lone_kept act x verb args s h g ga k = lone_either act x verb args s h g ga k (eq_dec m.number s.messages)

    sent_kept : (act : ℕ) (x : Value Name) (verb : Words) (args : List (Value Name)) (s : Vat Name) → Sound T s → ValueOk (T.ok s) x → ValuesOk (T.ok s) args → Kept s → Leaves Kept (refs.send Names act x verb args s)
    sent_kept act x verb args s h g ga k = sent_either act x verb args s h g ga k (eq_dec m.number s.messages)

    -- ---- a reaction

    react_light : (n : Message Name) (p : Place Name) → Light v Id 0 (refs.react_at Names n p)
    unfolding refs.react_at
    react_light n (Mine z) = light_react v Id Names global n z
    react_light n (Away h z false) = light_react v Id Names global n z
    react_light n other = light_enqueue v Id n

    -- nothing is sent, and no message is made
    abbrev Quiet : Vat Name → Done Name (Unit {0}) → Type 0
    Quiet s (Gives u t) = (t.messages ≡ s.messages) × (t.happened ≡ s.happened)
    Quiet s other = Unit {0}

    react_quiet : (n : Message Name) (p : Place Name) (s : Vat Name) → Quiet s (refs.react_at Names n p s)
    unfolding refs.react_at alter enqueue
    react_quiet n (Mine z) s = (refl, refl)
    react_quiet n (Away h z false) s = (refl, refl)
    react_quiet n other s = (refl, refl)

    module _ (act : ℕ) (x o near : Value Name) (s : Vat Name) where
      abbrev It : Message Name
      It = let id : Name = Sent (record { sender = v; number = s.messages }) in refs.reaction Names id near x (answer_of s.number id)

      abbrev S3 : Vat Name
      S3 = With s s.number (Reacts act x o It)

      quiet_after : (y : Value Name) (d : Done Name (Unit {0})) → Quiet S3 d → (a : Value Name) (t : Vat Name) → and_then d (λ u. give y) ≡ Gives a t → t.messages ≡ suc s.messages
      unfolding and_then give
      quiet_after y (Gives u r) f a t e = sym (ap (λ z. z.messages) (gives_same y a r t e)) ∙ f.0
      quiet_after y other f a t e = cc

      reacted_new : Kept s → m.number ≡ s.messages → (y : Value Name) (d : Done Name (Unit {0})) → Quiet S3 d → LightAt v Id 0 S3 d → Leaves Kept (and_then d (λ u. give y))
      unfolding and_then give
      reacted_new k new y (Gives u t) f l = let i = l.kept in let none = empty s (Ks s s.number) (Reacts act x o It) (held_with s s.number) k new in let less = none.0 in let same : sent_in Id t.happened ≡ sent_in Id S3.happened = ap (λ es. sent_in Id es) f.1 in let g : t.messages ≡ suc s.messages = f.0 in
          (l.sound, ((λ j. inl (omega arith)), (λ j. absurd (omega arith))))
      reacted_new k new y (Stops c t) f l = tt
      reacted_new k new y other f l = absurd l

      weighed_three : Weighed v s → Weighed v S3
      unfolding answer_of host_of
      weighed_three w = come_sound v Id Names global s (answer_of s.number (Sent (record { sender = v; number = s.messages }))) s.number tt refl w

      reacted_either : Kept s → (m.number ≡ s.messages) ⊎ (m.number ≡ s.messages → ⊥) → Leaves Kept (refs.react Names act x o near s)
      unfolding refs.react ◌>>=◌ ◌>>◌ and_then look tell new_message naming mail_of name_of
      reacted_either k (inl new) = reacted_new k new _ (refs.react_at Names It (refs.place Names S3 (refs.follow Names S3 x)) S3) (react_quiet It _ S3) ((react_light It _).after S3 (weighed_three k.0))
      reacted_either k (inr other) = other_made 0 s (refs.react Names act x o near s) other k ((light_reacts Names v global Id act x o near).after s k.0) ((table.free_reacts v X word act x o near).after s) ((account.free_react (λ u. false) v Id Names (λ n i. refl) act x o near).after s)
          (λ a t e. quiet_after _ (refs.react_at Names It (refs.place Names S3 (refs.follow Names S3 x)) S3) (react_quiet It _ S3) a t e)

    -- ---- what evaluation does with references

    pub closes : (p : Name) → Closing Names Z p
    closes p = record {
      breaks = λ C g t. lift_of T Kept quiet (fine_settle Names T under p (record { at = λ s c. g.at s c }) (Broken t) (record { at = λ s c. tt }))
          (λ s h c k. none_made nothing s _ ((fine_settle Names F under_none {C = C} p (record { at = λ s c. g.at s c }) (Broken t) (record { at = λ s c. tt })).after s (none_sound s h) c) ((light_break Names v global Id p t).after s k.0) ((table.free_settle v X word p (Broken t)).after s) ((account.free_settle (λ u. false) v Id Names p (Broken t)).after s) k);
      closes = λ C g y i. lift_of T Kept quiet (fine_resolve Names T under p (record { at = λ s c. g.at s c }) y (gets_names i))
          (λ s h c k. none_made nothing s _ ((fine_resolve Names F under_none {C = C} p (record { at = λ s c. g.at s c }) y (gets_none i)).after s (none_sound s h) c) ((light_resolve Names v global Id p y).after s k.0) ((table.free_resolve v X word p y).after s) ((account.free_resolve (λ u. false) v Id Names p y).after s) k);
    }

    pub serves : Serves Names Z
    serves = record {
      spots = record { alike = λ a b e. let spots = under.spots in spots.alike a b e; placed = λ s k n i. let spots = under.spots in spots.placed s k.0 n i };
      object = λ s i l. under.object s i l;
      promises = λ C. lift_of T Kept quiet (fine_promise Names T under makes) (λ s h c k. promised s k);
      smashes = λ C p g t s h c r e. let closing = closes p in (closing.breaks C g t).after s h c;
      resolves = λ C p g y i s h c r e. let closing = closes p in (closing.closes C g y i).after s h c;
      sends = λ C act x g verb args i. lift_of T Kept quiet (fine_send Names T under makes act x (gets_names g) verb args (gets_names i)) (λ s h c k. sent_kept act x verb args s h (g.at s c) (i.at s c) k);
      sends_only = λ C act x g verb args i. lift_of T Kept quiet (fine_send_only Names T under makes act x (gets_names g) verb args (gets_names i)) (λ s h c k. lone_kept act x verb args s h (g.at s c) (i.at s c) k);
      reacts = λ C act x g o i near j. lift_of T Kept quiet (fine_react Names T under makes act x (gets_names g) o (gets_names i) near (gets_names j)) (λ s h c k. reacted_either act x o near s k (eq_dec m.number s.messages));
    }
