-- The rows.
use Rattle.std.proofs.Common.{◌≡◌, ℕ, zero, suc, true, List, [], ◌∷◌, Option, Some, None, refl, sym, subst, ◌∙◌, inl, inr, map, ap, ◌⊎◌}
use Rattle.std.specs.Prelude.{slice_get, codes, take, drop}
use Rattle.def_machine.specs.Values.{Words, Value, Ref, Name, Root, Object, Answer, naming, Prim, Text, Null, Broken, Items}
use Rattle.def_machine.specs.State.{Binding, Cell, Known, Thing, Made, Happened, Took, Called, Finished, PromiseMade, Resolver, Settled, Viewed, begun, opened_state, Fixed, ObjectMade, AuditionMade, Back}
use Rattle.law_machine.specs.Natives.Natives.{IsPlain}
use Rattle.law_uses.specs.Connectivity.Known.{Item, Start, Holdings, Reaches, onward, AValue, AGuard, ASlot, IsAmong, parts_of, parts_of_all, tells, Leads, settled, viewed, settles, views, called, itself, Knows, plain, endowed, told, serves, opened_known}
use Rattle.def_machine.specs.Eval.{opened_eval}
use Rattle.def_machine.specs.Refs.{standing_of, opened_refs}
use Rattle.def_machine.specs.Values.{opened_values}
use Rattle.law_machine.specs.Machine.Steps.{Opens, Takes, Receives, Notices, does}
use Rattle.law_uses.specs.Connectivity.Connected.{evaluates, asks, Connected, StepConnected, given_to, held_from, opened_connected}
use Rattle.law_uses.specs.Connectivity.Rows.{one_object, secret, helper, sent, message, handed, guarded, coercing, answering, stray, ringless, parting, parted, program, escaping, auditing, fresh, opened_rows}
use Rattle.law_uses.specs.Connectivity.Settlings.{IsResolver, IsOf, hosts, learns, provides, tells as tells_of, Says, IsNoticed, Follows, GoesOn, Chain, there, onward as goes_on, LeadsBack, IsGiven, gave, threw, resolved, smashed, waited, said, lost, SettlesWell}
use Rattle.law_uses.specs.Connectivity.ConnectedLaws.{IsClosed}
use Rattle.law_uses.proofs.Connectivity.Knowing.{least}

-- data without names, and any guard
abbrev PlainItem : Item Name → Type 0
PlainItem (AValue v) = IsPlain v
PlainItem (AGuard v) = Unit {0}
PlainItem (ASlot k) = ⊥

-- activation 1 has nothing else
abbrev Poor : ℕ → Item Name → Type 0
Poor a i = a ≡ 1 → PlainItem i

abbrev seen : List (Happened Name)
seen = Took 0 (message 0 Null (helper ∷ secret ∷ [])) ∷ Called 0 helper (codes "run") [] (Some 1) ∷ []

no_list : (k : ℕ) (vs : List (Value Name)) → slice_get [] k ≡ Some vs → ⊥
no_list k vs e = cc

no_cell : (k : ℕ) (c : Cell Name) → slice_get [] k ≡ Some c → ⊥
no_cell k c e = cc

caught_of : Option (Thing Name) → List (Binding Name)
caught_of (Some (Made node caught stamps)) = caught
caught_of _ = []

no_capture : (k node : ℕ) (caught : List (Binding Name)) (stamps : List (Value Name)) → slice_get one_object.things k ≡ Some (Made node caught stamps) → [] ≡ caught
unfolding one_object caught_of
no_capture zero node caught stamps e = ap caught_of e
no_capture (suc k) node caught stamps e = ap caught_of e

abbrev Had : Type 0
Had = ℕ × Item Name

zero_one : zero ≡ 1 → ⊥
zero_one e = cc

other : (a : ℕ) (i : Item Name) (x y : Had) → x ≡ y → x.0 ≡ a → y.0 ≡ 0 → a ≡ 1 → PlainItem i
other a i x y e g h f = absurd (zero_one (sym h ∙ sym (ap (λ (z : Had). z.0) e) ∙ g ∙ f))

module _ (word : ℕ → ℕ) where
  poor_told : (a : ℕ) (e : Happened Name) (i : Item Name) → IsAmong e seen → IsAmong (a, i) (tells e) → Poor a i
  unfolding opened_known helper secret message
  poor_told a e i (inl x) t f = first a i (subst (λ e. IsAmong (a, i) (tells e)) x t) f
    where
      first : (a : ℕ) (i : Item Name) → IsAmong (a, i) (tells (Took 0 (message 0 Null (helper ∷ secret ∷ [])))) → Poor a i
      first a i (inl x) f = other a i _ _ x refl refl f
      first a i (inr (inl x)) f = other a i _ _ x refl refl f
      first a i (inr (inr (inl x))) f = other a i _ _ x refl refl f
      first a i (inr (inr (inr x))) f = absurd x
  poor_told a e i (inr (inl x)) t f = absurd (subst (λ e. IsAmong (a, i) (tells e)) x t)
  poor_told a e i (inr (inr x)) t f = absurd x

  poor_follows : (before : List (Known Name)) (a : ℕ) (x y : Value Name) → Poor a (AValue x) → Leads (naming word 0) before seen x y → Poor a (AValue y)
  poor_follows before a x y p (settled e) f = absurd (p f)
  poor_follows before a x y p (viewed e) f = absurd (p f)
  poor_follows before a x y p (settles q i o) f = absurd (p f)
  poor_follows before a x y p (views q i o) f = absurd (p f)

  -- where nothing is given, and what objects captured is none
  poor : (h : Holdings Name Name) → [] ≡ h.given → ((k node : ℕ) (caught : List (Binding Name)) (stamps : List (Value Name)) (i : Item Name) → slice_get h.things k ≡ Some (Made node caught stamps) → IsAmong i (parts_of_all (map (λ b. b.bound) caught)) → PlainItem i)
      → IsClosed (naming word 0) h seen Poor
  poor h none caught_plain = record {
    plain = λ a v e f. e;
    initial = λ a i e f. absurd (subst (λ gs. IsAmong (a, i) gs) (sym none) e);
    endowed = λ a k node caught stamps i r e m f. caught_plain k node caught stamps i e m;
    told = poor_told;
    member = λ a k v vs p e m f. absurd (p f);
    followed = poor_follows h.before;
    serves = λ a v p f. tt;
    guard = λ a k c p e f. tt;
  }

  only_plain : (h : Holdings Name Name) → IsClosed (naming word 0) h seen Poor → Knows (naming word 0) h seen 1 (AValue secret) → ⊥
  unfolding secret
  only_plain h c k = least (naming word 0) h seen Poor c 1 (AValue secret) k refl

  not_sent : (h : Holdings Name Name) → IsClosed (naming word 0) h seen Poor → Connected (naming word 0) h (handed []) → ⊥
  unfolding opened_connected handed message
  not_sent h p c = no c.1.1.0.0.0
    where
      no : Knows (naming word 0) h seen 1 (AValue secret) ⊎ ⊥ → ⊥
      no (inl k) = only_plain h p k
      no (inr x) = absurd x

  pub kept_is_not : Connected (naming word 0) one_object (handed []) → ⊥
  unfolding one_object parts_of_all
  kept_is_not c = not_sent one_object (poor one_object refl (λ k node caught stamps i e m. absurd (subst (λ bs. IsAmong i (parts_of_all (map (λ b. b.bound) bs))) (sym (no_capture k node caught stamps e)) m))) c

  -- ---- captured under a guard

  null_caught : (k node : ℕ) (caught : List (Binding Name)) (stamps : List (Value Name)) (i : Item Name) → slice_get guarded.things k ≡ Some (Made node caught stamps) → IsAmong i (parts_of_all (map (λ b. b.bound) caught)) → PlainItem i
  unfolding guarded one_object parts_of parts_of_all caught_of
  null_caught zero node caught stamps i e m = one (subst (λ bs. IsAmong i (parts_of_all (map (λ b. b.bound) bs))) (sym (ap caught_of e)) m)
    where
      one : IsAmong i (AValue Null ∷ AGuard secret ∷ []) → PlainItem i
      one (inl f) = subst PlainItem (sym f) tt
      one (inr (inl f)) = subst PlainItem (sym f) tt
      one (inr (inr x)) = absurd x
  null_caught (suc k) node caught stamps i e m = absurd (subst (λ bs. IsAmong i (parts_of_all (map (λ b. b.bound) bs))) (sym (ap caught_of e)) m)

  pub leak_is_not : Connected (naming word 0) guarded (handed []) → ⊥
  unfolding guarded one_object
  leak_is_not c = not_sent guarded (poor guarded refl null_caught) c

  pub coercing_is : Connected (naming word 0) guarded coercing
  unfolding opened_eval opened_connected opened_rows
  coercing_is = (
    (tt, tt),
    (
      ((inl (told _ (inl refl) (inl refl)), tt), tt),
      (
        (
          (
            inl (endowed 0 0 _ [] (called 0 helper (codes "run") [] (inr (inl refl)) (Object 0 0, itself, refl)) refl (inr (inl refl))),
            (inl (plain tt), (inl (plain tt), tt)),
          ),
          tt,
        ),
        tt,
      ),
    ),
  )

  -- ---- settled to what nobody gave

  abbrev gone_by : List (Happened Name)
  gone_by = Took 0 (message 0 helper []) ∷ Finished 0 Null ∷ []

  abbrev took_it : Start Name Name
  took_it = record { step = Takes [] 0 (message 0 helper []); vat = fresh }

  not_made : (a : ℕ) (p r : Name) → IsAmong (PromiseMade a p r) gone_by → ⊥
  not_made a p r (inl e) = cc
  not_made a p r (inr (inl e)) = cc
  not_made a p r (inr (inr m)) = m

  no_resolver : (i : ℕ) (p : Name) → IsResolver (naming word 0) took_it gone_by i p → ⊥
  unfolding fresh
  no_resolver i p (inl e) = cc
  no_resolver i p (inr h) = not_made h.0 p h.1 h.2

  -- all that is given is null
  null_given : (p : Name) (x : Value Name) → IsGiven (naming word 0) took_it gone_by p x → x ≡ Null
  null_given p x (gave a (inl e) o) = cc
  null_given p x (gave a (inr (inl e)) o) = cc
  null_given p x (gave a (inr (inr m)) o) = absurd m
  null_given p x (threw a (inl e) o) = cc
  null_given p x (threw a (inr (inl e)) o) = cc
  null_given p x (threw a (inr (inr m)) o) = absurd m
  null_given p x (resolved i r h) = absurd (no_resolver i p r)
  null_given p x (smashed i v r h f) = absurd (no_resolver i p r)
  null_given p x (waited q (inl e) w) = cc
  null_given p x (waited q (inr (inl e)) w) = cc
  null_given p x (waited q (inr (inr m)) w) = absurd m
  null_given p x (said s) = absurd s
  null_given p x (lost i y h (inl e) f) = cc
  null_given p x (lost i y h (inr (inl e)) f) = cc
  null_given p x (lost i y h (inr (inr m)) f) = absurd m

  null_leads : (x y : Value Name) → x ≡ Null → Leads (naming word 0) fresh.known gone_by x y → ⊥
  null_leads x y e (settled f) = cc
  null_leads x y e (viewed f) = cc
  null_leads x y e (settles p i o) = cc
  null_leads x y e (views p i o) = cc

  null_reaches : (x y : Value Name) → x ≡ Null → Reaches (naming word 0) fresh.known gone_by x y → y ≡ Null
  null_reaches x y e itself = e
  null_reaches x y e (onward z l r) = absurd (null_leads x z e l)

  not_null : secret ≡ Null → ⊥
  unfolding secret
  not_null e = cc

  not_broken : (t : Words) → secret ≡ Broken t → ⊥
  unfolding secret
  not_broken t e = cc

  pub stray_is_not : Connected (naming word 0) answering stray → ⊥
  unfolding opened_connected answering stray one_object
  stray_is_not c = no c.1.1.0.1
    where
      no : SettlesWell (naming word 0) took_it gone_by (Answer 0 (sent 0)) secret → ⊥
      no (inl (x, g, inl (inl r))) = not_null (null_reaches x secret (null_given (Answer 0 (sent 0)) x g) r)
      no (inl (x, g, inl (inr (w, e)))) = not_broken (codes "partition") e
      no (inl (x, g, inr (z, f, m, e))) = not_broken (codes "cycle") e
      no (inr (w, i, o, e)) = not_broken (codes "partition") e

  -- ---- broken without a cause

  abbrev gave_it : Value Name → List (Happened Name)
  gave_it v = Took 0 (message 0 helper []) ∷ Finished 0 v ∷ []

  module _ (r : Start Name Name) (v : Value Name) (owed : r.step ≡ Takes [] 0 (message 0 helper [])) (bare : r.vat.things ≡ []) where
    unmade : (a : ℕ) (p r : Name) → IsAmong (PromiseMade a p r) (gave_it v) → ⊥
    unmade a p r (inl e) = cc
    unmade a p r (inr (inl e)) = cc
    unmade a p r (inr (inr m)) = m

    none_there : (i : ℕ) (p : Name) → slice_get r.vat.things i ≡ Some (Resolver p) → ⊥
    none_there i p e = none i p (subst (λ ts. slice_get ts i ≡ Some (Resolver p)) bare e)
      where
        none : (i : ℕ) (p : Name) → slice_get [] i ≡ Some (Resolver p) → ⊥
        none i p e = cc

    none_resolves : (i : ℕ) (p : Name) → IsResolver (naming word 0) r (gave_it v) i p → ⊥
    none_resolves i p (inl e) = none_there i p e
    none_resolves i p (inr h) = unmade h.0 p h.1 h.2

    no_receipt : (p : Name) (x : Value Name) (z : _) → z ≡ Takes [] 0 (message 0 helper []) → Says (naming word 0) r (gave_it v) z p x → ⊥
    no_receipt p x (Takes tree depth m) e h = h
    no_receipt p x (Opens tree depth root given) e h = h
    no_receipt p x (Notices w) e h = h
    no_receipt p x (Receives from n) e h = cc

    -- all that is given is what the turn gave
    all_given : (p : Name) (x : Value Name) → IsGiven (naming word 0) r (gave_it v) p x → x ≡ v
    all_given p x (gave a (inl e) o) = cc
    all_given p x (gave a (inr (inl e)) o) = cc
    all_given p x (gave a (inr (inr m)) o) = absurd m
    all_given p x (threw a (inl e) o) = cc
    all_given p x (threw a (inr (inl e)) o) = cc
    all_given p x (threw a (inr (inr m)) o) = absurd m
    all_given p x (resolved i s h) = absurd (none_resolves i p s)
    all_given p x (smashed i y s h f) = absurd (none_resolves i p s)
    all_given p x (waited q (inl e) w) = cc
    all_given p x (waited q (inr (inl e)) w) = cc
    all_given p x (waited q (inr (inr m)) w) = absurd m
    all_given p x (said s) = absurd (no_receipt p x r.step owed s)
    all_given p x (lost i y h (inl e) f) = cc
    all_given p x (lost i y h (inr (inl e)) f) = cc
    all_given p x (lost i y h (inr (inr m)) f) = absurd m

  -- the helper stands for itself, and waits on nothing
  helper_leads : (x y : Value Name) → x ≡ helper → Leads (naming word 0) fresh.known (gave_it helper) x y → ⊥
  unfolding opened_rows opened_state opened_refs
  helper_leads x y e (settled {n = n} f) = let m : n ≡ Object 0 0 = cc in let g : standing_of (naming word 0) fresh.known (Object 0 0) ≡ Settled y = subst (λ z. standing_of (naming word 0) fresh.known z ≡ Settled y) m f in cc
  helper_leads x y e (viewed {n = n} {q = q} f) = let m : n ≡ Object 0 0 = cc in let g : standing_of (naming word 0) fresh.known (Object 0 0) ≡ Viewed q = subst (λ z. standing_of (naming word 0) fresh.known z ≡ Viewed q) m f in cc
  helper_leads x y e (settles p (inl i) o) = cc
  helper_leads x y e (settles p (inr (inl i)) o) = cc
  helper_leads x y e (settles p (inr (inr i)) o) = absurd i
  helper_leads x y e (views p (inl i) o) = cc
  helper_leads x y e (views p (inr (inl i)) o) = cc
  helper_leads x y e (views p (inr (inr i)) o) = absurd i

  helper_reaches : (x y : Value Name) → x ≡ helper → Reaches (naming word 0) fresh.known (gave_it helper) x y → y ≡ helper
  helper_reaches x y e itself = e
  helper_reaches x y e (onward z l r) = absurd (helper_leads x z e l)

  not_noticed : (w : ℕ) → IsNoticed (naming word 0) took_it w → ⊥
  unfolding fresh opened_state
  not_noticed w (inl e) = cc
  not_noticed w (inr e) = cc

  helper_follows : (x y : Value Name) → x ≡ helper → Follows (naming word 0) took_it (gave_it helper) x y → y ≡ helper
  helper_follows x y e (inl r) = helper_reaches x y e r
  helper_follows x y e (inr (h, f)) = absurd (not_noticed h.0 h.3)

  helper_goes : (q : Name) → GoesOn (naming word 0) took_it (gave_it helper) (Object 0 0) q → ⊥
  unfolding opened_rows opened_state opened_refs
  helper_goes q (inl f) = cc
  helper_goes q (inr (inl (p, inl i, o))) = cc
  helper_goes q (inr (inl (p, inr (inl i), o))) = cc
  helper_goes q (inr (inl (p, inr (inr i), o))) = absurd i
  helper_goes q (inr (inr l)) = helper_leads (Ref (Object 0 0)) (Ref q) refl l

  helper_rings : (n p : Name) → n ≡ Object 0 0 → p ≡ Answer 0 (sent 0) → Chain (naming word 0) took_it (gave_it helper) n p → ⊥
  unfolding opened_values
  helper_rings n p e f (there s) = let g : (naming word 0).same (Object 0 0) (Answer 0 (sent 0)) ≡ true = subst (λ z. (naming word 0).same z (Answer 0 (sent 0)) ≡ true) e (subst (λ z. (naming word 0).same n z ≡ true) f s) in cc
  helper_rings n p e f (goes_on q g c) = helper_goes q (subst (λ z. GoesOn (naming word 0) took_it (gave_it helper) z q) e g)

  cycle_not : (t : Value Name) → t ≡ helper → t ≡ Broken (codes "cycle") → ⊥
  unfolding helper
  cycle_not t e f = cc

  back_not : (z : Value Name) → z ≡ helper → LeadsBack (naming word 0) took_it (gave_it helper) (Answer 0 (sent 0)) z → ⊥
  unfolding helper
  back_not (Ref n) e h = let m : n ≡ Object 0 0 = cc in helper_rings n (Answer 0 (sent 0)) m refl h
  back_not (Items k) e h = cc
  back_not other e h = h

  words_differ : codes "cycle" ≡ codes "partition" → ⊥
  words_differ e = cc

  broken_is : (t u : Words) → ◌≡◌ {A = Value Name} (Broken t) (Broken u) → t ≡ u
  broken_is t u e = cc

  fresh_bare : fresh.things ≡ []
  unfolding fresh
  fresh_bare = refl

  pub ringless_is_not : Connected (naming word 0) answering ringless → ⊥
  unfolding opened_connected answering ringless one_object
  ringless_is_not c = no c.1.1.0.1
    where
      no : SettlesWell (naming word 0) took_it (gave_it helper) (Answer 0 (sent 0)) (Broken (codes "cycle")) → ⊥
      no (inl (x, g, inl f)) = cycle_not (Broken (codes "cycle")) (helper_follows x (Broken (codes "cycle")) (all_given took_it helper refl fresh_bare (Answer 0 (sent 0)) x g) f) refl
      no (inl (x, g, inr (z, f, b, e))) = back_not z (helper_follows x z (all_given took_it helper refl fresh_bare (Answer 0 (sent 0)) x g) f) b
      no (inr (w, i, o, e)) = words_differ (broken_is (codes "cycle") (codes "partition") e)

  abbrev parted_it : Start Name Name
  parted_it = record { step = Takes [] 0 (message 0 helper []); vat = record fresh { noticed = 5 ∷ [] } }

  not_hosted : (w : ℕ) (n : Name) → n ≡ Answer 0 (sent 0) → IsOf (naming word 0) parted_it w n → ⊥
  unfolding fresh begun opened_values
  not_hosted w n e (hosts k (inl q) h) = let f : k.name ≡ Root 0 = ap (λ (z : Known Name). z.name) q in cc
  not_hosted w n e (hosts k (inr m) h) = m
  not_hosted w n e (learns i (k, l, q)) = cc
  not_hosted w n e (provides i (inl h)) = h.1
  not_hosted w n e (provides i (inr (k, l, q))) = cc
  not_hosted w n e (tells_of from x q i) = cc

  pub parted_is_not : Connected (naming word 0) parting parted → ⊥
  unfolding opened_connected parting parted one_object
  parted_is_not c = no c.1.1.0.1
    where
      no_value : (x : Value Name) → x ≡ Null → (t : Words) → x ≡ Broken t → ⊥
      no_value x e t f = cc

      no_name : (n : Name) → ◌≡◌ {A = Value Name} (Ref n) Null → ⊥
      no_name n e = cc

      no : SettlesWell (naming word 0) parted_it gone_by (Answer 0 (sent 0)) (Broken (codes "partition")) → ⊥
      no (inl (x, g, inl (inl r))) = no_value (Broken (codes "partition")) (null_reaches x (Broken (codes "partition")) (all_given parted_it Null refl fresh_bare (Answer 0 (sent 0)) x g) r) (codes "partition") refl
      no (inl (x, g, inl (inr (h, e)))) = no_name h.1 (null_reaches x (Ref h.1) (all_given parted_it Null refl fresh_bare (Answer 0 (sent 0)) x g) h.2)
      no (inl (x, g, inr (z, f, b, e))) = words_differ (sym (broken_is (codes "partition") (codes "cycle") e))
      no (inr (w, i, o, e)) = not_hosted w (Answer 0 (sent 0)) refl o

  pub handed_is : Connected (naming word 0) one_object (handed (secret ∷ []))
  unfolding opened_connected opened_rows
  handed_is = (
    (tt, tt),
    (
      ((inl (told _ (inl refl) (inl refl)), (inl (told _ (inl refl) (inr (inl refl))), tt)), tt),
      (
        ((inl (told _ (inr (inl refl)) (inl refl)), tt), tt),
        tt,
      ),
    ),
  )

  -- what the program defines
  o : Value Name
  o = Ref (Object 0 0)

  f : Value Name
  f = Ref (Object 0 1)

  pub program_is : StepConnected (naming word 0) (Opens program 40 (Root 0) []) fresh
  unfolding opened_eval opened_connected opened_rows does given_to held_from o f
  program_is = (
    (tt, tt),
    (
      ((inl (told _ (inl refl) (inl refl)), (inl (serves (plain tt)), tt)), tt),
      (
        ((inl (told _ (inr (inl refl)) (inl refl)), (inl (told _ (inl refl) (inl refl)), tt)), tt),
        (
          (
            (
              inl (endowed 1 6 _ [] (called 0 f (codes "go") (o ∷ []) (inr (inr (inl refl))) (Object 0 1, itself, refl)) refl (inl refl)),
              (inl (told _ (inr (inr (inl refl))) (inl refl)), tt),
            ),
            tt,
          ),
          (
            (tt, (refl, told _ (inr (inr (inr (inl refl)))) (inl refl))),
            (
              (tt, (refl, told _ (inr (inr (inr (inr (inl refl))))) (inl refl))),
              (
                ((inl (told _ (inr (inr (inr (inr (inr (inl refl)))))) (inl refl)), tt), tt),
                (
                  (tt, inl (_, gave 0 (inr (inr (inr (inr (inr (inr (inl refl))))))) (refl, refl), inl (inl itself))),
                  tt,
                ),
              ),
            ),
          ),
        ),
      ),
    ),
  )

  pub escape_is : StepConnected (naming word 0) (Opens escaping 40 (Root 0) []) fresh
  unfolding opened_eval opened_connected opened_rows does given_to held_from o f
  escape_is = (
    (tt, tt),
    (
      ((inl (told _ (inl refl) (inl refl)), tt), (record { guard = Prim 8; value = o }, refl, plain tt)),
      (
        (tt, tt),
        (
          ((inl (told _ (inr (inl refl)) (inl refl)), tt), tt),
          (
            ((inl (told _ (inr (inr (inl refl))) (inl refl)), (inl (told _ (inr (inr (inr (inl refl)))) (inl refl)), tt)), tt),
            (
              (tt, tt),
              (
                (tt, (0, 1, f, codes "run", o ∷ [], Object 0 1, inr (inr (inr (inr (inl refl)))), (Object 0 1, itself, refl), inr (inr (inl refl)), refl, inr (inl refl))),
                (
                  ((inl (told _ (inr (inr (inr (inr (inr (inr (inl refl))))))) (inl refl)), tt), tt),
                  (
                    (tt, inl (_, gave 0 (inr (inr (inr (inr (inr (inr (inr (inl refl)))))))) (refl, refl), inl (inl itself))),
                    tt,
                  ),
                ),
              ),
            ),
          ),
        ),
      ),
    ),
  )

  -- the lines up to where the guard is told
  abbrev audited : List (Happened Name)
  audited =
      ObjectMade 0 (Object 0 0) (codes "p") [] []
      ∷ ObjectMade 0 (Object 0 1) (codes "q") (Fixed (Ref (Object 0 0)) (Prim 8) ∷ []) []
      ∷ ObjectMade 0 (Object 0 2) (codes "g") [] []
      ∷ Called 0 (Ref (Object 0 2)) (codes "coerce") (Null ∷ Null ∷ []) (Some 1)
      ∷ Back 0 Null
      ∷ AuditionMade 0 (Object 0 3)
      ∷ Called 0 (Ref (Object 0 1)) (codes "audit") (Ref (Object 0 3) ∷ []) (Some 2)
      ∷ Called 2 (Ref (Object 0 3)) (codes "ask") (Ref (Object 0 0) ∷ []) None
      ∷ AuditionMade 2 (Object 0 4)
      ∷ Called 2 (Ref (Object 0 0)) (codes "audit") (Ref (Object 0 4) ∷ []) (Some 3)
      ∷ Called 3 (Ref (Object 0 4)) (codes "getGuard") (Text (codes "k") ∷ []) None
      ∷ []

  pub audit_is : StepConnected (naming word 0) (Opens auditing 40 (Root 0) []) fresh
  unfolding opened_eval opened_connected opened_rows does given_to held_from o f
  audit_is = (
    (tt, tt),
    (
      ((inl (told _ (inl refl) (inl refl)), (inl (serves (plain tt)), tt)), tt),
      (
        (tt, tt),
        (
          ((inl (serves (told _ (inr (inr (inl refl))) (inl refl))), (inl (plain tt), (inl (plain tt), tt))), tt),
          (
            (tt, (refl, plain tt)),
            (
              (tt, tt),
              (
                ((inl (told _ (inr (inl refl)) (inl refl)), (inl (told _ (inr (inr (inr (inr (inr (inl refl)))))) (inl refl)), tt)), tt),
                (
                  ((inl (told _ (inr (inr (inr (inr (inr (inr (inl refl))))))) (inl refl)), (inl (endowed 1 8 _ [] (called 0 f (codes "audit") (Ref (Object 0 3) ∷ []) (inr (inr (inr (inr (inr (inr (inl refl))))))) (Object 0 1, itself, refl)) refl (inl refl)), tt)), tt),
                  (
                    (tt, tt),
                    (
                      ((inl (endowed 1 8 _ [] (called 0 f (codes "audit") (Ref (Object 0 3) ∷ []) (inr (inr (inr (inr (inr (inr (inl refl))))))) (Object 0 1, itself, refl)) refl (inl refl)), (inl (told _ (inr (inr (inr (inr (inr (inr (inr (inr (inl refl))))))))) (inl refl)), tt)), tt),
                      (
                        ((inl (told _ (inr (inr (inr (inr (inr (inr (inr (inr (inr (inl refl)))))))))) (inl refl)), (inl (plain tt), tt)), tt),
                        (
                          (tt, (refl, inr (refl, 0, 4, (Text (codes "k") ∷ [], take 10 audited, [], refl, refl, (Object 0 4, itself, refl), 2, Object 0 4, inr (inr (inr (inr (inr (inr (inr (inr (inl refl)))))))), refl), asks 2 3 (Ref (Object 0 3)) (Object 0 4) (take 8 audited) (drop 9 (take 11 audited)) refl refl refl (Object 0 3, itself, refl) (evaluates (Object 0 3) (take 5 audited) (drop 6 (take 11 audited)) refl refl refl), serves (told _ (inr (inr (inl refl))) (inl refl))))),
                          (
                            (tt, (refl, told _ (inr (inr (inr (inr (inr (inr (inr (inr (inr (inr (inr (inl refl)))))))))))) (inl refl))),
                            (
                              (tt, (refl, inl (plain tt))),
                              (
                                (tt, (refl, plain tt)),
                                (
                                  ((inl (plain tt), (inl (serves (told _ (inr (inr (inl refl))) (inl refl))), tt)), tt),
                                  (
                                    ((inl (told _ (inr (inr (inr (inr (inr (inr (inr (inr (inr (inr (inr (inr (inr (inr (inr (inl refl)))))))))))))))) (inl refl)), tt), tt),
                                    (
                                      (tt, inl (_, gave 0 (inr (inr (inr (inr (inr (inr (inr (inr (inr (inr (inr (inr (inr (inr (inr (inr (inl refl))))))))))))))))) (refl, refl), inl (inl itself))),
                                      tt,
                                    ),
                                  ),
                                ),
                              ),
                            ),
                          ),
                        ),
                      ),
                    ),
                  ),
                ),
              ),
            ),
          ),
        ),
      ),
    ),
  )
