-- Notes tell truly where names settled: what a vat puts, and what is under way.
use Rattle.std.proofs.Common.{◌≡◌, ℕ, zero, suc, Bool, true, false, List, [], ◌∷◌, ◌++◌, Option, Some, None, length, refl, sym, ap, subst, ◌∙◌, if◌then◌else◌}
use Rattle.std.specs.Prelude.{◌==◌, ◌-◌, nat_le, codes}
use Rattle.def_machine.specs.Values.{Words, Value, Broken, Items, Ref, Name, Object, Naming, Spot, Own, Foreign, NoObject, Coming, Mailing, naming, spot_of, under}
use Rattle.def_machine.specs.State.{Message, Standing, Settled, Known, Change, Settle, ToTell, Passed, Passeds, Plain, AGift, Many, Note, Deliver, Open, Ask, SettledTo, Elsewhere, Shorten, Put, Vat, Done, Gives, Act, ◌>>=◌, ◌>>◌, and_then, give, look, enqueue, send_out, new_gift, open_gift, mark, alter, with_change, changed, changed_to, unless_settled, come, mail, new_message, new_lone_message, draw, draws, is_in, spend, spent}
use Rattle.def_machine.specs.Native.{list_at}
use Rattle.def_machine.specs.Refs as refs
use Rattle.def_machine.specs.Refs.{Place, Near, Mine, Away, Gone, entry_of, standing_of, standing_in, follow_at}
use Rattle.def_run.specs.World.{Script, names}
use Rattle.law_machine.specs.Machine.Laws.{SettledStays}
use Rattle.law_machine.specs.Machine.Steps.{After}
use Rattle.law_machine.proofs.Machine.StepLaws.{settled_names, settled_entry, standing_found, entry_append}
use Rattle.law_fate.specs.Name.Names.{AllOf}
use Rattle.law_fate.proofs.Name.Facts.{all_end}
use Rattle.law_reference.proofs.Reference.Entries.{changed_at}
use Rattle.law_order.specs.Ordering.Settle.{IsEnded, IsOwnSpot}
use Rattle.law_order.specs.Ordering.Worlds.{IsObject}
use Rattle.law_order.proofs.Ordering.Moves.{Keeps, IsKept, keeps_bind, keeps_then, keeps_give}
use Rattle.law_order.proofs.Ordering.Passings.{keeps_pass}
use Rattle.law_order.proofs.Ordering.Entries.{Differs, as_it_was, changes, differs}
use Rattle.law_order.proofs.Cuts.Walk.{IsWalked}

-- ---- what a note tells of what its sender knows

module _ (script : Script) (v : ℕ) where
  abbrev K : Naming Name Name
  K = names script v

  -- Where that is data or an object, and no object is known, it is an object of vat c.
  abbrev pub IsElsewhere : List (Known Name) → ℕ → Value Name → Type 0
  IsElsewhere ks c z = IsEnded z → ((o : Name) → z ≡ Ref o → entry_of K ks o ≡ None) → (o : Name) × (z ≡ Ref o) × (K.spot o ≡ Foreign c)

  -- And where that is told by its name, it is that object, of the vat itself.
  abbrev pub IsPassedAs : List (Known Name) → Value Name → Passed Name → Type 0
  IsPassedAs ks z (Plain (Ref o)) = IsEnded z → ((q : Name) → z ≡ Ref q → entry_of K ks q ≡ None) → (z ≡ Ref o) × IsOwnSpot (K.spot o)
  IsPassedAs ks z other = Unit {0}

  abbrev pub TellsTruly : List (Known Name) → Note Name → Type 0
  TellsTruly ks (Elsewhere n c) = (z : Value Name) × (standing_of K ks n ≡ Settled z) × IsElsewhere ks c z
  TellsTruly ks (SettledTo n y) = (z : Value Name) × (standing_of K ks n ≡ Settled z) × IsPassedAs ks z y
  TellsTruly ks other = Unit {0}

  abbrev pub AllTell : Vat Name → Type 0
  AllTell s = AllOf (λ (p : Put Name). TellsTruly s.known p.note) s.outbox

  -- what settled stays so, and what is known stays known
  pub record Lasts (s t : Vat Name) : Type 0 where
    pub stays : SettledStays K s t
    pub known : (n : Name) → entry_of K t.known n ≡ None → entry_of K s.known n ≡ None

  pub record Tells (s t : Vat Name) : Type 0 where
    pub lasts : Lasts s t
    pub tells : AllTell s → AllTell t

  pub settled_still : (s t : Vat Name) → SettledStays K s t → (n : Name) (z : Value Name) → standing_of K s.known n ≡ Settled z → standing_of K t.known n ≡ Settled z
  unfolding standing_of
  settled_still s t h n z e = let found = settled_entry (entry_of K s.known n) z e in standing_found K t.known n found.0 z (h n found.0 z found.1 found.2) found.2

  passed_still : (s t : Vat Name) → Lasts s t → (z : Value Name) (y : Passed Name) → IsPassedAs s.known z y → IsPassedAs t.known z y
  passed_still s t h z (Plain (Ref o)) k = λ ended none. k ended (λ q e. h.known q (none q e))
  passed_still s t h z other k = tt

  pub truly_still : (s t : Vat Name) → Lasts s t → (n : Note Name) → TellsTruly s.known n → TellsTruly t.known n
  truly_still s t h (Elsewhere n c) k = (k.0, settled_still s t h.stays n k.0 k.1, λ ended none. k.2 ended (λ o e. h.known o (none o e)))
  truly_still s t h (SettledTo n y) k = (k.0, settled_still s t h.stays n k.0 k.1, passed_still s t h k.0 y k.2)
  truly_still s t h other k = tt

  all_still : (s t : Vat Name) → Lasts s t → (ps : List (Put Name)) → AllOf (λ (p : Put Name). TellsTruly s.known p.note) ps → AllOf (λ (p : Put Name). TellsTruly t.known p.note) ps
  all_still s t h [] k = tt
  all_still s t h (p ∷ ps) k = (truly_still s t h p.note k.0, all_still s t h ps k.1)

  same : (s : Vat Name) → Tells s s
  same s = record { lasts = record { stays = λ n k y e h. e; known = λ n e. e }; tells = λ h. h }

  pub base : IsKept Tells
  base = record {
    same = same;
    trans = λ h k. record { lasts = record { stays = λ n j y e i. k.lasts.stays n j y (h.lasts.stays n j y e i) i; known = λ n e. h.lasts.known n (k.lasts.known n e) }; tells = λ a. k.tells (h.tells a) };
    fuel = λ s n. record { lasts = record { stays = λ n k y e h. e; known = λ n e. e }; tells = λ h. h };
    happened = λ s e. record { lasts = record { stays = λ n k y e h. e; known = λ n e. e }; tells = λ h. h };
    activations = λ s. record { lasts = record { stays = λ n k y e h. e; known = λ n e. e }; tells = λ h. h };
    thing = λ s t. record { lasts = record { stays = λ n k y e h. e; known = λ n e. e }; tells = λ h. h };
    killed = λ s n. record { lasts = record { stays = λ n k y e h. e; known = λ n e. e }; tells = λ h. h };
    slot = λ s c. record { lasts = record { stays = λ n k y e h. e; known = λ n e. e }; tells = λ h. h };
    written = λ s n w. record { lasts = record { stays = λ n k y e h. e; known = λ n e. e }; tells = λ h. h };
    list = λ s vs. record { lasts = record { stays = λ n k y e h. e; known = λ n e. e }; tells = λ h. h };
  }

  -- ---- single changes

  none_some : (k : Known Name) → ◌≡◌ {A = Option (Known Name)} None (Some k) → ⊥
  none_some k e = cc

  altered_known : (c : Change Name) (m : Name) (ks : List (Known Name)) (n : Name) → entry_of K (with_change K c m ks) n ≡ None → entry_of K ks n ≡ None
  altered_known c m ks n e = go (differs script v c m n ks)
    where
      go : Differs script v c m n (entry_of K ks n) (entry_of K (with_change K c m ks) n) → entry_of K ks n ≡ None
      go (as_it_was i) = sym i ∙ e
      go (changes k i f g) = absurd (none_some (changed c k) (sym e ∙ g))

  more_known : (ks js : List (Known Name)) (n : Name) → entry_of K (ks ++ js) n ≡ None → entry_of K ks n ≡ None
  more_known ks js n e = go (entry_of K ks n) refl
    where
      go : (o : Option (Known Name)) → entry_of K ks n ≡ o → entry_of K ks n ≡ None
      go None f = f
      go (Some k) f = absurd (none_some k (sym e ∙ entry_append K n ks js k f))

  after_change : (s : Vat Name) (c : Change Name) (m : Name) → Tells s (record s { known = with_change K c m s.known })
  after_change s c m = let h : Lasts s (record s { known = with_change K c m s.known }) = record { stays = (settled_names K).altered s c m; known = λ n e. altered_known c m s.known n e } in
      record { lasts = h; tells = λ a. all_still s (record s { known = with_change K c m s.known }) h s.outbox a }

  after_more : (s : Vat Name) (js : List (Known Name)) (t : Vat Name) → t.known ≡ s.known ++ js → t.outbox ≡ s.outbox → Tells s t
  after_more s js t e f = let h : Lasts s t = record { stays = λ n k y i j. ap (λ ks. entry_of K ks n) e ∙ entry_append K n s.known js k i; known = λ n i. more_known s.known js n (sym (ap (λ ks. entry_of K ks n) e) ∙ i) } in
      record { lasts = h; tells = λ a. subst (λ ps. AllOf (λ (p : Put Name). TellsTruly t.known p.note) ps) (sym f) (all_still s t h s.outbox a) }

  after_out : (s : Vat Name) (w : ℕ) (n : Note Name) → TellsTruly s.known n → Tells s (record s { outbox = s.outbox ++ record { to = w; note = n } ∷ [] })
  after_out s w n h = record { lasts = record { stays = λ m k y e i. e; known = λ m e. e }; tells = λ a. all_end (λ (p : Put Name). TellsTruly s.known p.note) s.outbox (record { to = w; note = n }) a h }

  tells_alter : (c : Change Name) (n : Name) → Keeps Tells (alter K c n)
  unfolding alter
  tells_alter c n = record { after = λ s. after_change s c n }

  tells_come : (c : Coming Name Name) (h : ℕ) → Keeps Tells (come K c h)
  unfolding come
  tells_come c h = record { after = λ s. after_more s _ _ refl refl }

  tells_mail : (c : Mailing Name) → Keeps Tells (mail K c)
  unfolding mail
  tells_mail c = record { after = λ s. record { lasts = record { stays = λ n k y e h. e; known = λ n e. e }; tells = λ h. h } }

  tells_message : (h : ℕ) → Keeps Tells (new_message K h)
  unfolding new_message
  tells_message h = record { after = λ s. after_more s _ _ refl refl }

  tells_lone : Keeps Tells (new_lone_message K)
  unfolding new_lone_message
  tells_lone = record { after = λ s. record { lasts = record { stays = λ n k y e h. e; known = λ n e. e }; tells = λ h. h } }

  tells_queue : (m : Message Name) → Keeps Tells (enqueue m)
  unfolding enqueue
  tells_queue m = record { after = λ s. record { lasts = record { stays = λ n k y e h. e; known = λ n e. e }; tells = λ h. h } }

  tells_gift : (n : Name) (p j : ℕ) → Keeps Tells (new_gift n p j)
  unfolding new_gift
  tells_gift n p j = record { after = λ s. record { lasts = record { stays = λ n k y e h. e; known = λ n e. e }; tells = λ h. h } }

  tells_open : (p j : ℕ) → Keeps {N = Name} Tells (open_gift p j)
  unfolding open_gift
  tells_open p j = record { after = λ s. record { lasts = record { stays = λ n k y e h. e; known = λ n e. e }; tells = λ h. h } }

  tells_mark : (w : ℕ) → Keeps {N = Name} Tells (mark w)
  unfolding mark
  tells_mark w = record { after = λ s. record { lasts = record { stays = λ n k y e h. e; known = λ n e. e }; tells = λ h. h } }

  drawn_after : (s : Vat Name) (w : ℕ) (o : Option ℕ) → After Tells s (draws w o s)
  unfolding draws
  drawn_after s w (Some j) = same s
  drawn_after s w None = record { lasts = record { stays = λ n k y e h. e; known = λ n e. e }; tells = λ h. h }

  tells_draw : Keeps Tells (draw K)
  unfolding draw
  tells_draw = record { after = λ s. drawn_after s _ _ }

  -- a note that tells of no settling
  pub quiet_out : (w : ℕ) (n : Note Name) → ((ks : List (Known Name)) → TellsTruly ks n) → Keeps Tells (send_out w n)
  unfolding send_out
  quiet_out w n h = record { after = λ s. after_out s w n (h s.known) }

  lets_one : (h : ℕ) (n : Name) → Keeps {A = Passed Name} Tells (draw K >>= (λ j. send_out h (Open j n) >> give (AGift h j)))
  lets_one h n = keeps_bind Tells base tells_draw (λ j. keeps_then Tells base (quiet_out h (Open j n) (λ ks. tt)) (keeps_give Tells base (AGift h j)))

  wants_one : (h c : ℕ) (n : Name) (f : ℕ → Act Name (Unit {0})) → ((j : ℕ) → Keeps Tells (f j)) → Keeps Tells (draw K >>= (λ j. send_out h (Shorten n c (under h j)) >> f j))
  wants_one h c n f g = keeps_bind Tells base tells_draw (λ j. keeps_then Tells base (quiet_out h (Shorten n c (under h j)) (λ ks. tt)) (g j))

  -- ---- a vat is told of a name that settled

  -- it settled
  abbrev pub HasSettled : Name → Vat Name → Type 0
  HasSettled p s = (z : Value Name) × (standing_of K s.known p ≡ Settled z)

  away_apart : (h : ℕ) (n : Name) → ◌≡◌ {A = Place Name} Near (Away h n true) → ⊥
  away_apart h n e = cc

  gone_apart : (p : Words) (h : ℕ) (n : Name) → ◌≡◌ {A = Place Name} (Gone p) (Away h n true) → ⊥
  gone_apart p h n e = cc

  mine_apart : (m : Name) (h : ℕ) (n : Name) → ◌≡◌ {A = Place Name} (Mine m) (Away h n true) → ⊥
  mine_apart m h n e = cc

  false_apart : (g : ℕ) (m : Name) (h : ℕ) (n : Name) → ◌≡◌ {A = Place Name} (Away g m false) (Away h n true) → ⊥
  false_apart g m h n e = cc

  same_host : (g : ℕ) (m : Name) (h : ℕ) (n : Name) → ◌≡◌ {A = Place Name} (Away g m true) (Away h n true) → g ≡ h
  same_host g m h n e = cc

  hosted_apart : (s : Vat Name) (o : Name) (h : ℕ) (n : Name) (b : Bool) (g : ℕ) → ◌≡◌ {A = Place Name} (elim b [ true ↦ Mine o | false ↦ Away g o false ]) (Away h n true) → ⊥
  hosted_apart s o h n true g e = mine_apart o h n e
  hosted_apart s o h n false g e = false_apart g o h n e

  -- an object that is not known is followed to itself
  pub object_self : (d : ℕ) (ks : List (Known Name)) (o : Name) → entry_of K ks o ≡ None → follow_at K d ks (Ref o) ≡ Ref o
  unfolding follow_at refs.led standing_of standing_in
  object_self zero ks o e = refl
  object_self (suc d) ks o e = ap (λ q. refs.led K (λ y. follow_at K d ks y) o (standing_in q)) e

  by_spot : (s : Vat Name) (o : Name) (h : ℕ) (n : Name) (q : Spot) → refs.spotted K s o q ≡ Away h n true → q ≡ Foreign h
  unfolding refs.spotted refs.hosted
  by_spot s o h n (Own i) e = absurd (away_apart h n e)
  by_spot s o h n (Foreign g) e = ap Foreign (same_host g o h n e)
  by_spot s o h n NoObject e = absurd (hosted_apart s o h n (s.number == refs.host_at K s.number s.known o) (refs.host_at K s.number s.known o) e)

  severed_either : (s : Vat Name) (o : Name) (h : ℕ) (n : Name) (b : Bool) → refs.place K s (elim b [ true ↦ Broken (codes "partition") | false ↦ Ref o ]) ≡ Away h n true → K.spot o ≡ Foreign h
  unfolding refs.place
  severed_either s o h n true e = absurd (gone_apart (codes "partition") h n e)
  severed_either s o h n false e = by_spot s o h n (K.spot o) e

  severed_spot : (s : Vat Name) (o : Name) (h : ℕ) (n : Name) (q : Spot) → refs.place K s (refs.severed_at K s o q) ≡ Away h n true → K.spot o ≡ Foreign h
  unfolding refs.severed_at refs.severed_by refs.place
  severed_spot s o h n (Own i) e = by_spot s o h n (K.spot o) e
  severed_spot s o h n (Foreign g) e = severed_either s o h n (is_in g s.noticed) e
  severed_spot s o h n NoObject e = severed_either s o h n (is_in (refs.host_at K s.number s.known o) s.noticed) e

  abbrev pub IsData : Value Name → Type 0
  IsData (Ref n) = ⊥
  IsData other = Unit {0}

  pub data_self : (d : ℕ) (ks : List (Known Name)) (z : Value Name) → IsData z → follow_at K d ks z ≡ z
  unfolding follow_at
  data_self zero ks z h = refl
  data_self (suc d) ks (Ref n) h = absurd h
  data_self (suc d) ks other h = refl

  data_near : (s : Vat Name) (h : ℕ) (n : Name) (z : Value Name) → IsData z → refs.place K s (refs.severed K s z) ≡ Away h n true → ⊥
  unfolding refs.place refs.severed
  data_near s h n (Ref m) i e = i
  data_near s h n (Broken t) i e = gone_apart t h n e
  data_near s h n other i e = away_apart h n e

  data_apart : (s : Vat Name) (h : ℕ) (n : Name) (z : Value Name) (d : ℕ) → IsData z → refs.place K s (refs.severed K s (follow_at K d s.known z)) ≡ Away h n true → ⊥
  data_apart s h n z d i e = data_near s h n z i (sym (ap (λ y. refs.place K s (refs.severed K s y)) (data_self d s.known z i)) ∙ e)

  -- it was followed to an object of h
  leads_away : (s : Vat Name) (p : Name) (h : ℕ) (n : Name) (z : Value Name) → standing_of K s.known p ≡ Settled z → refs.place K s (refs.severed K s (follow_at K (length s.known) s.known z)) ≡ Away h n true → IsElsewhere s.known h z
  unfolding refs.severed
  leads_away s p h n (Ref o) e f ended none = (o, refl, severed_spot s o h n (K.spot o) (sym (ap (λ y. refs.place K s (refs.severed K s y)) (object_self (length s.known) s.known o (none o refl))) ∙ f))
  leads_away s p h n other e f ended none = absurd (data_apart s h n other (length s.known) tt f)

  followed_away : (s : Vat Name) (p : Name) (h : ℕ) (n : Name) (z : Value Name) → standing_of K s.known p ≡ Settled z → refs.place K s (refs.follow K s (Ref p)) ≡ Away h n true → IsElsewhere s.known h z
  unfolding refs.follow follow_at refs.led
  followed_away s p h n z e f = leads_away s p h n z e (sym (ap (λ t. refs.place K s (refs.severed K s (refs.led K (λ y. follow_at K (length s.known) s.known y) p t))) e) ∙ f)

  passing : (w : ℕ) (y : Value Name) → Keeps Tells (refs.pass K w y)
  passing w y = keeps_pass K Tells base (λ h n. tells_alter (ToTell h) n) lets_one w y

  -- ---- what passes for what it settled to

  -- what is given
  abbrev Gave : (Passed Name → Type 0) → Done Name (Passed Name) → Type 0
  Gave P (Gives z t) = P z
  Gave P other = Unit {0}

  -- it is no name
  abbrev IsNameless : Passed Name → Type 0
  IsNameless (Plain (Ref o)) = ⊥
  IsNameless other = Unit {0}

  by_shape : (f : List (Value Name) → Passed Name) (ls : List (List (Value Name))) (y : Value Name) → IsData y → ((vs : List (Value Name)) → IsNameless (f vs)) → IsNameless (refs.shape_by K f ls y)
  unfolding refs.shape_by
  by_shape f ls (Ref o) h g = absurd h
  by_shape f ls (Items k) h g = g (list_at ls k)
  by_shape f ls other h g = tt

  shape_nameless : (s : Vat Name) (d : ℕ) (x : Value Name) → IsData (refs.follow K s x) → IsNameless (refs.shape K d s x)
  unfolding refs.shape
  shape_nameless s zero x h = by_shape (λ vs. Plain (Broken (codes "too heavy"))) s.lists (refs.follow K s x) h (λ vs. tt)
  shape_nameless s (suc d) x h = by_shape (λ vs. Many (refs.shapes K (λ v. refs.shape K d s v) vs)) s.lists (refs.follow K s x) h (λ vs. tt)

  data_followed : (s : Vat Name) (y : Value Name) → IsData y → refs.follow K s y ≡ y
  unfolding refs.follow refs.severed
  data_followed s (Ref o) h = absurd h
  data_followed s other h = ap (λ z. refs.severed K s z) (data_self (suc (length s.known)) s.known other tt)

  list_nameless : (s : Vat Name) (k : ℕ) (o : Option ℕ) → IsNameless (refs.parcel_of_list K s (Items k) o).value
  unfolding refs.parcel_of_list refs.too_heavy
  list_nameless s k (Some left) = shape_nameless s refs.highest (Items k) (subst IsData (sym (data_followed s (Items k) tt)) tt)
  list_nameless s k None = tt

  parcel_nameless : (s : Vat Name) (y : Value Name) → IsData y → IsNameless (refs.parcel_at K s y).value
  unfolding refs.parcel_at
  parcel_nameless s (Ref o) h = absurd h
  parcel_nameless s (Items k) h = list_nameless s k (refs.room_after (refs.follow K s) s.lists refs.highest (Items k) refs.most)
  parcel_nameless s other h = tt

  many_nameless : (d : Done Name (Passeds Name)) → Gave IsNameless (and_then d (λ zs. give (Many zs)))
  unfolding and_then give
  many_nameless (Gives zs t) = tt
  many_nameless other = tt

  address_nameless : (w : ℕ) (v : Passed Name) (s : Vat Name) → IsNameless v → Gave IsNameless (refs.address K w v s)
  unfolding refs.address refs.address_plain refs.place ◌>>=◌ and_then look give
  address_nameless w (Plain (Ref o)) s h = absurd h
  address_nameless w (Many ys) s h = many_nameless (refs.address_all K w ys s)
  address_nameless w other s h = tt

  spent_nameless : (w n : ℕ) (c : Bool) (v : Passed Name) (s : Vat Name) → IsNameless v → Gave IsNameless (and_then (spent n c s) (λ u. refs.address K w v))
  unfolding spent and_then
  spent_nameless w n true v s h = address_nameless w v (record s { fuel = s.fuel - n }) h
  spent_nameless w n false v s h = tt

  parcel_given : (w : ℕ) (b : refs.Parcel Name) (s : Vat Name) → IsNameless b.value → Gave IsNameless (and_then (spend b.weight s) (λ u. refs.address K w b.value))
  unfolding spend
  parcel_given w b s h = spent_nameless w b.weight (nat_le b.weight s.fuel) b.value s h

  pass_nameless : (w : ℕ) (y : Value Name) (s : Vat Name) → IsData y → Gave IsNameless (refs.pass K w y s)
  unfolding refs.pass refs.parcel ◌>>=◌ ◌>>◌ and_then look
  pass_nameless w y s h = parcel_given w (refs.parcel_at K s (refs.follow K s y)) s (subst (λ z. IsNameless (refs.parcel_at K s z).value) (sym (data_followed s y h)) (parcel_nameless s y h))

  -- an object of the vat passes as itself
  abbrev IsIt : Name → Passed Name → Type 0
  IsIt o (Plain (Ref q)) = o ≡ q
  IsIt o other = Unit {0}

  module _ (o : Name) (own : IsOwnSpot (K.spot o)) where
    near_by : (s : Vat Name) (q : Spot) → IsOwnSpot q → refs.spotted K s o q ≡ Near
    unfolding refs.spotted
    near_by s (Own i) h = refl
    near_by s other h = absurd h

    whole_by : (s : Vat Name) (q : Spot) → IsOwnSpot q → refs.severed_at K s o q ≡ Ref o
    unfolding refs.severed_at
    whole_by s (Own i) h = refl
    whole_by s other h = absurd h

    object_address : (w : ℕ) (p : Place Name) (s : Vat Name) → p ≡ Near → Gave (IsIt o) (refs.address_plain K w (Ref o) p s)
    unfolding refs.address_plain give
    object_address w Near s e = refl
    object_address w other s e = cc

    object_spent : (w n : ℕ) (c : Bool) (s : Vat Name) → Gave (IsIt o) (and_then (spent n c s) (λ u. refs.address K w (Plain (Ref o))))
    unfolding spent and_then refs.address ◌>>=◌ look refs.place
    object_spent w n true s = let t : Vat Name = record s { fuel = s.fuel - n } in object_address w (refs.spotted K t o (K.spot o)) t (near_by t (K.spot o) own)
    object_spent w n false s = tt

    object_parcel : (w : ℕ) (b : refs.Parcel Name) (s : Vat Name) → b ≡ record { weight = refs.own_weight (Ref o); value = Plain (Ref o) } → Gave (IsIt o) (and_then (spend b.weight s) (λ u. refs.address K w b.value))
    unfolding spend
    object_parcel w b s e = subst (λ (c : refs.Parcel Name). Gave (IsIt o) (and_then (spend c.weight s) (λ u. refs.address K w c.value))) (sym e) (object_spent w (refs.own_weight (Ref o)) (nat_le (refs.own_weight (Ref o)) s.fuel) s)

    pass_object : (w : ℕ) (s : Vat Name) → entry_of K s.known o ≡ None → Gave (IsIt o) (refs.pass K w (Ref o) s)
    unfolding refs.pass refs.parcel refs.parcel_at refs.follow refs.severed ◌>>=◌ ◌>>◌ and_then look
    pass_object w s none = object_parcel w (refs.parcel_at K s (refs.severed K s (follow_at K (suc (length s.known)) s.known (Ref o)))) s
        (ap (λ y. refs.parcel_at K s y) (ap (λ y. refs.severed K s y) (object_self (suc (length s.known)) s.known o none) ∙ whole_by s (K.spot o) own))

  -- no object of another vat, which is told elsewhere
  abbrev IsNotFar : Place Name → Type 0
  IsNotFar (Away h n true) = ⊥
  IsNotFar other = Unit {0}

  abbrev IsAs : Value Name → Passed Name → Type 0
  IsAs z (Plain (Ref o)) = (z ≡ Ref o) × IsOwnSpot (K.spot o)
  IsAs z other = Unit {0}

  nameless_as : (z : Value Name) (d : Done Name (Passed Name)) → Gave IsNameless d → Gave (IsAs z) d
  nameless_as z (Gives (Plain (Ref o)) t) h = absurd h
  nameless_as z (Gives other t) h = tt
  nameless_as z other h = tt

  it_as : (o : Name) → IsOwnSpot (K.spot o) → (d : Done Name (Passed Name)) → Gave (IsIt o) d → Gave (IsAs (Ref o)) d
  it_as o own (Gives (Plain (Ref q)) t) h = (ap Ref h, subst (λ z. IsOwnSpot (K.spot z)) h own)
  it_as o own (Gives other t) h = tt
  it_as o own other h = tt

  gave_under : (ks : List (Known Name)) (z : Value Name) (d : Done Name (Passed Name)) → (IsEnded z → ((q : Name) → z ≡ Ref q → entry_of K ks q ≡ None) → Gave (IsAs z) d) → Gave (IsPassedAs ks z) d
  gave_under ks z (Gives (Plain (Ref o)) t) f = f
  gave_under ks z (Gives other t) f = tt
  gave_under ks z other f = tt

  object_spot : (o : Name) → IsObject o → K.spot o ≡ NoObject → ⊥
  unfolding names naming spot_of
  object_spot (Object w i) h e = go (v == w) e
    where
      go : (b : Bool) → elim b [ true ↦ Own i | false ↦ Foreign w ] ≡ NoObject → ⊥
      go true f = cc
      go false f = cc
  object_spot other h e = absurd h

  module _ (w : ℕ) (s : Vat Name) where
    severed_as : (o : Name) (b : Bool) (h : ℕ) → K.spot o ≡ Foreign h → let y : Value Name = elim b [ true ↦ Broken (codes "partition") | false ↦ Ref o ] in IsNotFar (refs.place K s y) → Gave (IsAs (Ref o)) (refs.pass K w y s)
    unfolding refs.place refs.spotted
    severed_as o true h e f = nameless_as (Ref o) (refs.pass K w (Broken (codes "partition")) s) (pass_nameless w (Broken (codes "partition")) s tt)
    severed_as o false h e f = absurd (subst (λ q. IsNotFar (refs.spotted K s o q)) e f)

    spot_as : (o : Name) (q : Spot) → K.spot o ≡ q → IsObject o → entry_of K s.known o ≡ None → let y = refs.severed_at K s o q in IsNotFar (refs.place K s y) → Gave (IsAs (Ref o)) (refs.pass K w y s)
    unfolding refs.severed_at refs.severed_by
    spot_as o (Own i) e h none f = let own : IsOwnSpot (K.spot o) = subst IsOwnSpot (sym e) tt in it_as o own (refs.pass K w (Ref o) s) (pass_object o own w s none)
    spot_as o (Foreign g) e h none f = severed_as o (is_in g s.noticed) g e f
    spot_as o NoObject e h none f = absurd (object_spot o h e)

    data_severed : (z : Value Name) → IsData z → refs.severed K s z ≡ z
    unfolding refs.severed
    data_severed (Ref o) h = absurd h
    data_severed other h = refl

    data_as : (z : Value Name) → IsData z → let y = refs.severed K s (follow_at K (length s.known) s.known z) in Gave (IsAs z) (refs.pass K w y s)
    data_as z h = subst (λ y. Gave (IsAs z) (refs.pass K w y s)) (sym (ap (λ y. refs.severed K s y) (data_self (length s.known) s.known z h) ∙ data_severed z h)) (nameless_as z (refs.pass K w z s) (pass_nameless w z s h))

    value_as : (z : Value Name) → IsEnded z → ((q : Name) → z ≡ Ref q → entry_of K s.known q ≡ None) → let y = refs.severed K s (follow_at K (length s.known) s.known z) in IsNotFar (refs.place K s y) → Gave (IsAs z) (refs.pass K w y s)
    unfolding refs.severed
    value_as (Ref o) h none f = subst (λ y. IsNotFar (refs.place K s y) → Gave (IsAs (Ref o)) (refs.pass K w y s)) (sym (ap (λ y. refs.severed K s y) (object_self (length s.known) s.known o (none o refl)))) (spot_as o (K.spot o) refl h (none o refl)) f
    value_as other h none f = data_as other tt

    passes_as : (p : Name) (has : HasSettled p s) → IsNotFar (refs.place K s (refs.follow K s (Ref p))) → Gave (IsPassedAs s.known has.0) (refs.pass K w (refs.follow K s (Ref p)) s)
    unfolding refs.follow follow_at refs.led
    passes_as p has f = gave_under s.known has.0 (refs.pass K w (refs.follow K s (Ref p)) s)
        (λ ended none. let is = ap (λ t. refs.severed K s (refs.led K (λ y. follow_at K (length s.known) s.known y) p t)) has.1 in
        subst (λ y. Gave (IsAs has.0) (refs.pass K w y s)) (sym is) (value_as has.0 ended none (subst (λ y. IsNotFar (refs.place K s y)) is f)))

  -- what it settled to passes, and then the note is put
  settled_then : (p : Name) (w : ℕ) (s : Vat Name) (has : HasSettled p s) → (d : Done Name (Passed Name)) → Gave (IsPassedAs s.known has.0) d → After Tells s d → After Tells s (and_then d (λ z. send_out w (SettledTo p z)))
  unfolding and_then send_out
  settled_then p w s has (Gives z t) g h = base.trans h (after_out t w (SettledTo p z) (has.0, settled_still s t h.lasts.stays p has.0 has.1, passed_still s t h.lasts has.0 z g))
  settled_then p w s has other g h = h

  settled_out : (p : Name) (w : ℕ) (s : Vat Name) → IsNotFar (refs.place K s (refs.follow K s (Ref p))) → HasSettled p s → After Tells s ((refs.pass K w (refs.follow K s (Ref p)) >>= (λ z. send_out w (SettledTo p z))) s)
  unfolding ◌>>=◌
  settled_out p w s f has = settled_then p w s has (refs.pass K w (refs.follow K s (Ref p)) s) (passes_as w s p has f) ((passing w (refs.follow K s (Ref p))).after s)

  informs_of : (p : Name) (w : ℕ) (q : Place Name) (s : Vat Name) → refs.place K s (refs.follow K s (Ref p)) ≡ q → HasSettled p s → After Tells s (refs.inform_of K p w (refs.follow K s (Ref p)) q s)
  unfolding refs.inform_of send_out
  informs_of p w (Away h n true) s e has = after_out s w (Elsewhere p h) (has.0, has.1, followed_away s p h n has.0 has.1 e)
  informs_of p w other s e has = settled_out p w s (subst IsNotFar (sym e) tt) has

  informs_if : (b : Bool) (m : Act Name (Unit {0})) (s : Vat Name) → After Tells s (m s) → After Tells s ((if b then give tt else m) s)
  unfolding give
  informs_if true m s h = same s
  informs_if false m s h = h

  tells_inform : (p : Name) (w : ℕ) (s : Vat Name) → HasSettled p s → After Tells s (refs.inform K p w s)
  unfolding refs.inform ◌>>=◌ and_then look
  tells_inform p w s has = informs_if (is_in w s.noticed) (refs.inform_of K p w (refs.follow K s (Ref p)) (refs.place K s (refs.follow K s (Ref p)))) s (informs_of p w (refs.place K s (refs.follow K s (Ref p))) s refl has)

  unless_so : (x : Standing Name) (k new : Known Name) → ((z : Value Name) → x ≡ Settled z → ⊥) → unless_settled x k new ≡ new
  unfolding unless_settled
  unless_so (Settled z) k new f = absurd (f z refl)
  unless_so other k new f = refl

  settles_to : (y : Value Name) (k : Known Name) → ((z : Value Name) → k.standing ≡ Settled z → ⊥) → (changed (Settle y) k).standing ≡ Settled y
  unfolding changed changed_to
  settles_to y k f = ap (λ (x : Known Name). x.standing) (unless_so k.standing k (changed_to (Settle y) k) f)

  has_after : (p : Name) (y : Value Name) (k : Known Name) (ks : List (Known Name)) → entry_of K ks p ≡ Some k → ((z : Value Name) → k.standing ≡ Settled z → ⊥) → standing_of K (with_change K (Settle y) p ks) p ≡ Settled y
  has_after p y k ks e f = standing_found K (with_change K (Settle y) p ks) p (changed (Settle y) k) y (changed_at {W = Name} K (Settle y) p ks k e) (settles_to y k f)

  pub tells_walked : IsWalked K Tells HasSettled
  tells_walked = record {
    base = base;
    queues = tells_queue;
    gifts = tells_gift;
    opens = tells_open;
    marks = tells_mark;
    alters = tells_alter;
    comes = tells_come;
    mails = tells_mail;
    messages = tells_message;
    lones = tells_lone;
    promised = λ s. after_more s _ _ refl refl;
    delivers = λ w d n verb ys. quiet_out w (Deliver d n verb ys) (λ ks. tt);
    asks = λ w p j n. quiet_out w (Ask p j n) (λ ks. tt);
    lets = lets_one;
    wants = wants_one;
    informs = tells_inform;
    may_stay = λ p s t h may. (may.0, settled_still s t h.lasts.stays p may.0 may.1);
    may_settle = λ p y k s t e f g. (y, ap (λ ks. standing_of K ks p) g ∙ has_after p y k s.known e f);
    may_settled = λ p y s e. (y, e);
  }
