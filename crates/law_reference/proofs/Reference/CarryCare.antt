-- What passes in the notes that a vat puts names nothing of a third vat: a care for names, and for the notes put.
use Rattle.std.proofs.Common.{◌≡◌, ℕ, Bool, true, false, List, [], ◌∷◌, Option, Some, None, refl, sym, ap, subst, ◌∙◌, ◌⊎◌, inl, inr, if◌then◌else◌, ◌==◌}
use Rattle.std.specs.Prelude.{slice_get, is_some}
use Rattle.std.proofs.lemmas.Bool.{eqb-true}
use Rattle.def_machine.specs.Values.{Value, Ref, Name, Root, Object, Promise, Answer, Gift, Sent, host_of, same_reference, Naming, naming, name_of, answer_of, spot_of, Own as OwnThing, Foreign, IsAnswer}
use Rattle.def_machine.specs.State.{Message, Known, Passed, Passeds, Plain, AGift, Many, NoMore, More, Note, Deliver, Open, SettledTo, Elsewhere, Put, Happened, Vat, Act, ◌>>=◌, ◌>>◌, and_then, for_some, give, look, tell, send_out, draws, draw, come, new_message, Posted}
use Rattle.def_machine.specs.Refs as refs
use Rattle.def_machine.specs.Refs.{Place, Near, Mine, Away, Gone, entry_of, host_at, host_in, place, spotted, hosted}
use Rattle.law_fate.specs.Name.Names.{Named, At, AllOf, IsAmong, IsEventual, ValueOk, HostIsTrue, names_in}
use Rattle.law_fate.proofs.Name.Facts.{all_end, PlaceOk, Fact, Also, IsName, IsMail, IsDraw, IsVat, IsOff, IsValue, AreValues, IsMessage, IsPlace, DoesPass, DoAllPass, NoteDoes, NoteGoes, MayName, parcel, new_names, nothing}
use Rattle.law_fate.proofs.Name.Care.{Care, Under, Sound, Gets, Fine, then_unit, got_vat, fine_spend, fine_out, fine_draw, come_answer, fine_new_message}
use Rattle.law_fate.proofs.Name.Looks.{look_parcel, place_ok, note_deliver, note_open, note_settled, note_elsewhere, goes_deliver, goes_open, goes_settled, goes_elsewhere}
use Rattle.law_fate.proofs.Name.SameNames.{reference_is, reference_self}
use Rattle.law_fate.proofs.Name.Tracked.{Marked}
use Rattle.law_reference.specs.Reference.Notes.{IsOfEither, PassesBetween, AllPassBetween, Carries, answer_due}
use Rattle.law_reference.proofs.Reference.Beside.{PassesNothing, Stays}
use Rattle.law_reference.proofs.Reference.CareBeside.{T as Tracks, V as Cares, IsHere, quiet, under, makes, changes}
use Rattle.law_reference.proofs.Reference.CareMore.{Leaves, without, lift}
use Rattle.law_reference.proofs.Reference.CareBlocks.{Changes, Blocks, sent_by, sent_only_by, put_wait_on}
use Rattle.law_reference.proofs.Reference.CareYields.{Fits, Whatever, fits_bind, fits_fine, fits_give, fits_then, fine_fits, bind_yielded}

-- of that host, or data
abbrev pub IsOf : ℕ → Value Name → Type 0
IsOf h (Ref n) = host_of n ≡ h
IsOf h other = Unit {0}

-- what is of one of two is of either
of_either : (v w h : ℕ) (y : Value Name) → IsOf h y → (h ≡ v) ⊎ (h ≡ w) → IsOfEither v w y
of_either v w h (Ref n) e (inl i) = inl (e ∙ i)
of_either v w h (Ref n) e (inr i) = inr (e ∙ i)
of_either v w h other e i = tt

no_same : (b : Bool) → b ≡ true → b ≡ false → ⊥
no_same b e f = cc

-- what passes in each note put is of the two vats
abbrev pub FitOut : ℕ → List (Known Name) → List (Put Name) → Type 0
FitOut v ks ps = AllOf (λ (p : Put Name). Carries v p.to p.note) ps

plain_carries : (v to : ℕ) (n : Note Name) → PassesNothing n → Carries v to n
plain_carries v to (Deliver d n verb ys) h = absurd h
plain_carries v to (SettledTo n y) h = absurd h
plain_carries v to other h = tt

pub fit_stays : (word : ℕ → ℕ) (v : ℕ) → Stays word v (FitOut v)
fit_stays word v = record {
  altered = λ c n ks ps o. o;
  knows = λ n h k ks ps o. o;
  puts = λ p n ks ps o. all_end (λ (r : Put Name). Carries v r.to r.note) ps p o (plain_carries v p.to p.note n);
}

module _ (M : Marked) (vats : List (Vat Name)) (v : ℕ) (q : Vat Name) (there : slice_get vats v ≡ Some q) (here : M.mark (At v)) (word : ℕ → ℕ) where
  abbrev T : Care Name
  T = Tracks M vats v q there here word (FitOut v)

  abbrev pub Names : Naming Name Name
  Names = naming word v

  abbrev IsFit : Vat Name → Type 0
  IsFit s = FitOut v s.known s.outbox

  known_under : Under Names T
  known_under = under M vats v q there here word (FitOut v)

  abbrev pub V : Care Name
  V = Cares M vats v q there here word (FitOut v)

  sound_names : (s : Vat Name) → Sound V s → Sound T s
  sound_names s h = without T IsFit (quiet M vats v q there here word (FitOut v)) s h

  lifted : {A : Type 0} {C : Fact Name} {m : Act Name A} {G : A → Fact Name} → Fine T C m G → ((s : Vat Name) → IsFit s → Leaves IsFit (m s)) → Fine V C m G
  lifted f l = lift T IsFit (quiet M vats v q there here word (FitOut v)) f l

  gets : {C G : Fact Name} → Gets V C G → Gets T C G
  gets g = record { at = g.at }

  single : Changes Names V (IsHere M vats v q there here word (FitOut v))
  single = changes M vats v q there here word (FitOut v) (fit_stays word v)

  fit_out : {C : Fact Name} (to : ℕ) (n : Note Name) → Carries v to n → Gets V C (NoteDoes n) → Gets V C (NoteGoes to n) → Fine V C (send_out to n) nothing
  unfolding send_out
  fit_out to n i g k = lifted (fine_out Names T known_under to n (gets g) (gets k)) (λ s o. all_end (λ (p : Put Name). Carries v p.to p.note) s.outbox (record { to = to; note = n }) o i)

  draws_leave : (s : Vat Name) (w : ℕ) (o : Option ℕ) → IsFit s → Leaves IsFit (draws w o s)
  unfolding draws
  draws_leave s w (Some i) h = tt
  draws_leave s w None h = h

  fit_draw : {C : Fact Name} → Fine V C (draw Names) IsDraw
  unfolding draw
  fit_draw = lifted (fine_draw Names T known_under) (λ s o. draws_leave s _ _ o)

  -- ---- a name that is known has its own host

  same_host : (b : Bool) (u : ℕ) (k0 : Known Name) (n : Name) (o : Option (Known Name)) → (b ≡ true → host_of n ≡ k0.host) → (b ≡ false → host_in u o ≡ host_of n) → host_in u (elim b [ true ↦ Some k0 | false ↦ o ]) ≡ host_of n
  unfolding host_in
  same_host true u k0 n o f g = sym (f refl)
  same_host false u k0 n o f g = g refl

  true_host : (u : ℕ) (ks : List (Known Name)) (n : Name) → IsEventual n → AllOf HostIsTrue ks → IsAmong n (names_in ks) → host_at Names u ks n ≡ host_of n
  unfolding host_at entry_of naming
  true_host u [] n eventual h a = absurd a
  true_host u (k0 ∷ ks) n eventual h a = same_host (same_reference k0.name n) u k0 n (entry_of Names ks n) (λ e. ap host_of (sym (reference_is k0.name n e)) ∙ sym h.0) (λ e. rest a e (λ i. true_host u ks n eventual h.1 i))
    where
      rest : (n ≡ k0.name) ⊎ IsAmong n (names_in ks) → same_reference k0.name n ≡ false → (IsAmong n (names_in ks) → host_in u (entry_of Names ks n) ≡ host_of n) → host_in u (entry_of Names ks n) ≡ host_of n
      rest (inl i) e f = absurd (no_same (same_reference k0.name n) (ap (λ x. same_reference x n) (sym i) ∙ reference_self n eventual) e)
      rest (inr i) e f = f i

  -- of which host a value is, by its place
  abbrev PlaceSays : Value Name → Place Name → Type 0
  PlaceSays y (Away h n o) = IsOf h y
  PlaceSays y other = IsOf v y

  object_says : (s : Vat Name) (b : Bool) (w i : ℕ) → (b ≡ true → v ≡ w) → PlaceSays (Ref (Object w i)) (spotted Names s (Object w i) (elim b [ true ↦ OwnThing i | false ↦ Foreign w ]))
  unfolding spotted host_of
  object_says s true w i f = sym (f refl)
  object_says s false w i f = refl

  hosted_says : (u h : ℕ) (n : Name) (b : Bool) → (b ≡ true → u ≡ h) → u ≡ v → h ≡ host_of n → PlaceSays (Ref n) (elim b [ true ↦ Mine n | false ↦ Away h n false ])
  hosted_says u h n true f e g = sym g ∙ sym (f refl) ∙ e
  hosted_says u h n false f e g = sym g

  eventual_says : (s : Vat Name) (n : Name) → IsEventual n → Sound T s → IsAmong n (names_in s.known) → PlaceSays (Ref n) (hosted Names s.number n (host_at Names s.number s.known n))
  unfolding hosted
  eventual_says s n eventual h a = let m = h.more in hosted_says s.number (host_at Names s.number s.known n) n (s.number == host_at Names s.number s.known n) (eqb-true s.number (host_at Names s.number s.known n)) m.number (true_host s.number s.known n eventual m.hosts a)

  place_says : (s : Vat Name) (y : Value Name) → Sound T s → ValueOk (T.ok s) y → PlaceSays y (place Names s y)
  unfolding place naming spot_of spotted
  place_says s (Ref (Object w i)) h g = object_says s (v == w) w i (eqb-true v w)
  place_says s (Ref (Root w)) h g = eventual_says s (Root w) tt h g.1
  place_says s (Ref (Promise w i)) h g = eventual_says s (Promise w i) tt h g.1
  place_says s (Ref (Answer w m)) h g = eventual_says s (Answer w m) tt h g.1
  place_says s (Ref (Gift w i)) h g = eventual_says s (Gift w i) tt h g.1
  place_says s (Ref (Sent m)) h g = absurd g.0
  place_says s other h g = tt

  -- ---- passing

  placed : (s : Vat Name) → Sound T s → (n : Name) → T.ok s (Named n) → PlaceOk (T.ok s) (spotted Names s n (Names.spot n))
  placed s h n g = let spots = known_under.spots in spots.placed s h.more n g

  away_fits : {C : Fact Name} (w h : ℕ) (n : Name) (y : Value Name) (b : Bool) → (b ≡ true → h ≡ w) → Gets V C (IsValue y) → Gets V C (IsName n) → Gets V C (IsOff h) → IsOf h y → Fits V C (if b then give (Plain y) else (draw Names >>= (λ i. send_out h (Open i n) >> give (AGift h i)))) DoesPass (PassesBetween v w)
  away_fits w h n y true f g k z o = fits_give V (Plain y) (record { at = λ s c. g.at s c }) (of_either v w h y o (inr (f refl)))
  away_fits {C = C} w h n y false f g k z o = fits_bind V IsDraw (Whatever V) (fits_fine V fit_draw) (λ i u. fits_then V nothing (fit_out h (Open i n) tt (note_open V (Also C (IsDraw i)) i n (record { at = λ s c. c.1 }) (record { at = λ s c. k.at s c.0 })) (goes_open V (Also C (IsDraw i)) h i n)) (fits_give V (AGift h i) (record { at = λ s c. (V.near s h (z.at s c.0), c.1) }) tt))

  fits_plain : {C : Fact Name} (w : ℕ) (y : Value Name) (p : Place Name) → Gets V C (IsValue y) → Gets V C (IsPlace p) → PlaceSays y p → Fits V C (refs.address_plain Names w y p) DoesPass (PassesBetween v w)
  unfolding refs.address_plain
  fits_plain w y (Away h n o) g k i = away_fits w h n y (h == w) (eqb-true h w) g (record { at = λ s c. (k.at s c).0 }) (record { at = λ s c. (k.at s c).1 }) i
  fits_plain w y (Mine n) g k i = fits_then V nothing (single.to_tell _ w n (record { at = λ s c. k.at s c })) (fits_give V (Plain y) (record { at = λ s c. g.at s c }) (of_either v w v y i (inl refl)))
  fits_plain w y other g k i = fits_give V (Plain y) (record { at = λ s c. g.at s c }) (of_either v w v y i (inl refl))

  fits_value : {C : Fact Name} (w : ℕ) (y : Value Name) → Gets V C (IsValue y) → Fits V C (refs.address Names w (Plain y)) DoesPass (PassesBetween v w)
  unfolding refs.address ◌>>=◌ look and_then
  fits_value {C = C} w y g = record { after = λ s h c. (fits_plain {C = Also C (IsPlace (place Names s y))} w y (place Names s y) (record { at = λ r d. g.at r d.0 }) (record { at = λ r d. d.1 }) (place_says s y (sound_names s h) (g.at s c))).after s h (c, place_ok Names (T.ok s) s (placed s (sound_names s h)) y (g.at s c)) }

  mutual
    unfolding refs.address refs.address_all

    fits_address : {C : Fact Name} (w : ℕ) (y : Passed Name) → Gets V C (DoesPass y) → Fits V C (refs.address Names w y) DoesPass (PassesBetween v w)
    fits_address w (Plain y) g = fits_value w y (record { at = g.at })
    fits_address w (AGift h i) g = fits_give V (AGift h i) g tt
    fits_address w (Many ys) g = fits_bind V DoAllPass (AllPassBetween v w) (fits_address_all w ys (record { at = g.at })) (λ zs b. fits_give V (Many zs) (record { at = λ s c. c.1 }) b)

    fits_address_all : {C : Fact Name} (w : ℕ) (ys : Passeds Name) → Gets V C (DoAllPass ys) → Fits V C (refs.address_all Names w ys) DoAllPass (AllPassBetween v w)
    fits_address_all w NoMore g = fits_give V NoMore (record { at = λ s c. tt }) tt
    fits_address_all w (More y ys) g = fits_bind V DoesPass (PassesBetween v w) (fits_address w y (record { at = λ s c. (g.at s c).0 })) (λ z b. fits_bind V DoAllPass (AllPassBetween v w) (fits_address_all w ys (record { at = λ s c. (g.at s c.0).1 })) (λ zs d. fits_give V (More z zs) (record { at = λ s c. (c.0.1, c.1) }) (b, d)))

  fits_pass : {C : Fact Name} (w : ℕ) (x : Value Name) → Gets V C (IsValue x) → Fits V C (refs.pass Names w x) DoesPass (PassesBetween v w)
  unfolding refs.pass
  fits_pass w x g = fits_bind V parcel (Whatever V) (fits_fine V (look_parcel Names V x g)) (λ y u. fits_then V nothing (fine_spend V y.weight) (fits_address w y.value (record { at = λ s c. c.1 })))

  fits_pass_all : {C : Fact Name} (w : ℕ) (xs : List (Value Name)) → Gets V C (AreValues xs) → Fits V C (refs.pass_all Names w xs) DoAllPass (AllPassBetween v w)
  unfolding refs.pass_all
  fits_pass_all w [] g = fits_give V NoMore (record { at = λ s c. tt }) tt
  fits_pass_all w (x ∷ xs) g = fits_bind V DoesPass (PassesBetween v w) (fits_pass w x (record { at = λ s c. (g.at s c).0 })) (λ y b. fits_bind V DoAllPass (AllPassBetween v w) (fits_pass_all w xs (record { at = λ s c. (g.at s c.0).1 })) (λ ys d. fits_give V (More y ys) (record { at = λ s c. (c.0.1, c.1) }) (b, d)))

  -- ---- the notes with what passes in them

  fit_tell : {C : Fact Name} (e : Happened Name) → Fine V C (tell e) nothing
  fit_tell {C = C} e = single.tells C e

  fit_deliver : {C : Fact Name} (m : Message Name) → Gets V C (IsMessage m) → (h : ℕ) → Gets V C (IsOff h) → (n : Name) → Gets V C (IsName n) → m.answer ≡ answer_due h (is_some m.answer) m.id → Fine V C (refs.deliver Names m h n) nothing
  unfolding refs.deliver
  fit_deliver {C = C} m g h o n k q = fine_fits V (fits_bind V {R = (Whatever V)} DoAllPass (AllPassBetween v h) (fits_pass_all h m.args (record { at = λ s c. (g.at s c).2 })) (λ ys b. fits_then V nothing (fit_tell (Posted h m.id))
      (fits_fine V (fit_out h (Deliver (refs.delivery_of Names m) n m.verb ys) (b, q) (note_deliver V (Also C (DoAllPass ys)) (refs.delivery_of Names m) n m.verb ys (record { at = λ s c. (g.at s c.0).0 }) (record { at = λ s c. k.at s c.0 }) (record { at = λ s c. c.1 })) (goes_deliver V (Also C (DoAllPass ys)) h (refs.delivery_of Names m) n m.verb ys (record { at = λ s c. o.at s c.0 }))))))

  fit_settled : {C : Fact Name} (p : Name) → Gets V C (IsName p) → (w : ℕ) (y : Value Name) → Gets V C (IsValue y) → Fine V C (refs.pass Names w y >>= (λ z. send_out w (SettledTo p z))) nothing
  fit_settled {C = C} p g w y k = fine_fits V (fits_bind V DoesPass (PassesBetween v w) (fits_pass w y k) (λ z b. fits_fine V (fit_out w (SettledTo p z) b (note_settled V (Also C (DoesPass z)) p z (record { at = λ s c. g.at s c.0 }) (record { at = λ s c. c.1 })) (goes_settled V (Also C (DoesPass z)) w p z))))

  fit_inform : {C : Fact Name} (p : Name) → Gets V C (IsName p) → (w : ℕ) (y : Value Name) → Gets V C (IsValue y) → (q : Place Name) → Gets V C (IsPlace q) → Fine V C (refs.inform_of Names p w y q) nothing
  unfolding refs.inform_of
  fit_inform {C = C} p g w y k (Away h n true) l = fit_out w (Elsewhere p h) tt (note_elsewhere V C p h g (record { at = λ s c. V.near s h (l.at s c).1 })) (goes_elsewhere V C w p h)
  fit_inform p g w y k (Away h n false) l = fit_settled p g w y k
  fit_inform p g w y k Near l = fit_settled p g w y k
  fit_inform p g w y k (Mine n) l = fit_settled p g w y k
  fit_inform p g w y k (Gone t) l = fit_settled p g w y k

  -- ---- a message goes out, where its answer is called by its name

  answer_called : {C : Fact Name} (h : ℕ) (m : Name) → Gets V C (IsMail m) → Gets V C (IsVat h) → Fits V C (come Names (IsAnswer h m) h) IsName (λ a. a ≡ answer_of h m)
  unfolding come naming name_of
  answer_called h m g k = record { after = λ s z c. ((lifted (come_answer Names T known_under h m (gets g) (gets k)) (λ s o. o)).after s z c, refl) }

  message_called : {C : Fact Name} (h : ℕ) → Gets V C (IsVat h) → Fits V C (new_message Names h) new_names (λ new. new.1 ≡ answer_of h new.0)
  unfolding new_message naming name_of
  message_called h g = record { after = λ s z c. ((lifted (fine_new_message Names T known_under (makes M vats v q there here word (FitOut v)) h (gets g)) (λ s o. o)).after s z c, refl) }

  pass_by : {C : Fact Name} (m : Message Name) → Gets V C (IsMessage m) → (h : ℕ) → Gets V C (IsOff h) → (n : Name) → Gets V C (IsName n) → (o : Option Name) → m.answer ≡ o → Gets V C (MayName o)
      → Fine V C (for_some o (λ p. come Names (IsAnswer h m.id) h >>= (λ a. refs.deliver Names (record m { answer = Some a }) h n >> refs.wait_on Names p a)) (refs.deliver Names m h n)) nothing
  unfolding for_some
  pass_by {C = C} m g h o n k (Some p) e i = bind_yielded V IsName (λ a. a ≡ answer_of h m.id) (answer_called h m.id (record { at = λ s z. (g.at s z).0 }) (got_vat V C h o)) (λ a c.
      then_unit V (fit_deliver (record m { answer = Some a }) (record { at = λ s z. let f = g.at s z.0 in (f.0, f.1, f.2, z.1) }) h (record { at = λ s z. o.at s z.0 }) n (record { at = λ s z. k.at s z.0 }) (ap Some c))
      (put_wait_on Names V (IsHere M vats v q there here word (FitOut v)) single p (record { at = λ s z. i.at s z.0 }) a (record { at = λ s z. z.1 })))
  pass_by m g h o n k None e i = fit_deliver m g h o n k (subst (λ (w : Option Name). w ≡ answer_due h (is_some w) m.id) (sym e) refl)

  fit_pass_on : {C : Fact Name} (m : Message Name) → Gets V C (IsMessage m) → (h : ℕ) → Gets V C (IsOff h) → (n : Name) → Gets V C (IsName n) → Fine V C (refs.pass_on Names m h n) nothing
  unfolding refs.pass_on
  fit_pass_on m g h o n k = pass_by m g h o n k m.answer refl (record { at = λ s z. (g.at s z).3 })

  pub fit_blocks : Blocks Names V
  fit_blocks = record {
    passes_on = λ C m g h o n k. fit_pass_on m g h o n k;
    sends_away = λ C act x y g verb args k h o n l. sent_by Names V (λ D e. fit_tell e) (λ m. refs.deliver Names m h n) act x y g verb args k (λ id a. a ≡ answer_of h id) h (message_called h (got_vat V C h o))
        (λ id a q i. fit_deliver _ i h (record { at = λ s c. o.at s c.0 }) n (record { at = λ s c. l.at s c.0 }) (ap Some q));
    lone_away = λ C act x y g verb args k h o n l. sent_only_by Names V (λ D e. fit_tell e) (λ m. refs.deliver Names m h n) act x y g verb args k (single.lones C) (λ id i. fit_deliver _ i h (record { at = λ s c. o.at s c.0 }) n (record { at = λ s c. l.at s c.0 }) refl);
    informs = λ C p g w y k z l. fit_inform p g w y k z l;
  }
