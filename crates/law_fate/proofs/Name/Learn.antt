-- What a vat learns from a note: each name is read by the names that it knows by then.
use Rattle.std.proofs.Common.{◌≡◌, ℕ, ◌<◌, Bool, true, false, List, [], ◌∷◌, ◌++◌, Some, refl, sym, ◌∙◌, ◌⊎◌, inl, inr, ◌==◌, arith}
use Rattle.std.specs.Prelude.{slice_get}
use Rattle.std.proofs.lemmas.Bool.{eqb-true, eq-eqb}
use Rattle.def_machine.specs.Values.{Value, Null, Flag, Number, Letter, Text, Prim, Broken, Items, Ref, Name, Root, Object, Promise, Answer, Gift, Sent, host_of, naming, name_of, mail_of, IsGift}
use Rattle.def_machine.specs.State.{Known, Passed, Passeds, Plain, AGift, Many, NoMore, More, Note, Deliver, Open, Ask, SettledTo, Elsewhere, Shorten, Vat, Done, Gives, Throws, Ejects, Stops, Act, ◌>>=◌, ◌>>◌, and_then, give, come, mail, begun}
use Rattle.def_machine.specs.Arrive as arrive
use Rattle.def_machine.specs.Arrive.{Old, New}
use Rattle.def_run.specs.World as world
use Rattle.def_run.specs.World.{put_at, is_old, read_name, known_after}
use Rattle.law_fate.specs.Name.Names.{IsEventual, IsMessageName, Bit, Named, Mail, Drew, At, Gave, bare, IsAmong, promises_of, WasDrawn, WasMade, IsMessageMade, IsMade, ValueOk, PassedOk, PassedsOk, NoteOk, names_in, IsKnownIn, IsPlain, KnownOk, Parts}
use Rattle.law_fate.proofs.Name.Facts.{all_end, Fact, Nothing, Also, IsName, IsMail, IsDraw, IsGiven, IsVat, IsValue, AreValues, nothing, Holds, holds_up}
use Rattle.law_fate.proofs.Name.Care.{Sound, Ends, Gets, Fine, got, got_left, got_itself, got_ref, fine_give, parts_up, begun_ok, come_gift}
use Rattle.law_fate.proofs.Name.CareArrive.{Gifts, gifts_by, fine_ask_for, fine_make_list, fine_arrive_ask, fine_delivered, fine_opened, fine_went, fine_shortened}
use Rattle.law_fate.proofs.Name.CareRefs.{fine_settle}
use Rattle.law_fate.proofs.Name.Among.{among_more, among_last, among_or, among_is, names_end}
use Rattle.law_fate.proofs.Name.SameNames.{new_eventual, false_true, old_known, new_unknown}
use Rattle.law_fate.proofs.Name.Tracked.{IsTold, Marked, count_same, follows_trans, follows_known, kept_known, kept_mail, known_among, Ok, Goes, Onward, quiet, made_on, ok_on, tracked, tracked_under, tracked_gives}
use Rattle.law_fate.proofs.Name.TrackedViews.{tracked_views}

module _ (news : Bool) (M : Marked) (vats : List (Vat Name)) (v : ℕ) (q : Vat Name) (there : slice_get vats v ≡ Some q) (here : M.mark (At v)) (word : ℕ → ℕ) (us : List (Vat Name)) (d0 : List ℕ) where
  -- what was made before, and is marked
  abbrev pub Was : Bit Name → Type 0
  Was b = IsMade us d0 b × M.mark (bare b)

  abbrev pub Good : Vat Name → Bit Name → Type 0
  Good s b = Ok news M vats v q there here s b

  -- whatever comes to be known
  abbrev pub Grew : Vat Name → Vat Name → Type 0
  Grew s t = Onward news M vats v q there here (λ n. ⊥) s t

  -- The names read so far are known, and so is each promise of the vat's own that a note may name; of what is told no more is known.
  pub record Knows (ks : List Name) (s : Vat Name) : Type 0 where
    pub all : (n : Name) → IsAmong n ks → Good s (Named n)
    pub told : (n : Name) → IsTold v n → IsAmong n (names_in s.known) → IsAmong n ks
    pub own : (i : ℕ) → i < promises_of us v → IsAmong (Promise v i) ks
    pub made : (b : Bit Name) → IsMade us d0 b → IsMade (put_at v s vats) s.drawn b

  abbrev pub Learned : {A : Type 0} → List Name → (A → Fact Name) → Vat Name → Done Name A → Type 0
  Learned ks G s (Gives a t) = Grew s t × Sound (tracked news M vats v q there here) t × Knows ks t × Holds (Good t) (G a)
  Learned ks G s (Throws p t) = Grew s t × Sound (tracked news M vats v q there here) t
  Learned ks G s (Ejects n x t) = Grew s t × Sound (tracked news M vats v q there here) t
  Learned ks G s (Stops c t) = Unit {0}

  pub record Learns {A : Type 0} (ks : List Name) (C : Fact Name) (m : Act Name A) (ks' : List Name) (G : A → Fact Name) : Type 0 where
    pub after : (s : Vat Name) → Sound (tracked news M vats v q there here) s → Knows ks s → Holds (Good s) C → Learned ks' G s (m s)

  abbrev pub Ended : {A : Type 0} → Vat Name → Done Name A → Type 0
  Ended s (Gives a t) = Grew s t × Sound (tracked news M vats v q there here) t
  Ended s (Throws p t) = Grew s t × Sound (tracked news M vats v q there here) t
  Ended s (Ejects n x t) = Grew s t × Sound (tracked news M vats v q there here) t
  Ended s (Stops c t) = Unit {0}

  -- what is read, and then whatever
  pub record Reads {A : Type 0} (ks : List Name) (C : Fact Name) (m : Act Name A) : Type 0 where
    pub after : (s : Vat Name) → Sound (tracked news M vats v q there here) s → Knows ks s → Holds (Good s) C → Ended s (m s)

  pub grew : (s t : Vat Name) → Goes news M vats v q there here s t → Grew s t
  grew s t r = record { names = r.names; mails = r.mails; promises = r.promises; messages = r.messages; draws = r.draws; told = λ n b. absurd b }

  grew_on : (s t u : Vat Name) → Grew s t → Grew t u → Grew s u
  grew_on s t u h k = follows_trans news (λ n. ⊥) (names_in s.known) s.mails s.promises s.messages s.drawn (names_in t.known) t.mails t.promises t.messages t.drawn (names_in u.known) u.mails u.promises u.messages u.drawn h k

  pub rise : (s t : Vat Name) → Grew s t → (C : Fact Name) → Holds (Good s) C → Holds (Good t) C
  rise s t r C c = holds_up (Good s) (Good t) (ok_on news M vats v q there here (λ n. ⊥) s t r) C c

  pub knows_on : (ks : List Name) (s t : Vat Name) → Goes news M vats v q there here s t → Knows ks s → Knows ks t
  knows_on ks s t r k = record {
    all = λ n a. ok_on news M vats v q there here (IsTold v) s t r (Named n) (k.all n a);
    told = λ n x a. k.told n x (r.told n x a);
    own = k.own;
    made = λ b h. made_on news M vats v q there here (IsTold v) s t r b (k.made b h);
  }

  from_ends : {A : Type 0} (ks : List Name) (G : A → Fact Name) (s : Vat Name) (d : Done Name A) → Knows ks s → Ends (tracked news M vats v q there here) G s d → Learned ks G s d
  from_ends ks G s (Gives a t) k h = (grew s t h.0, h.1, knows_on ks s t h.0 k, h.2)
  from_ends ks G s (Throws p t) k h = (grew s t h.0, h.1)
  from_ends ks G s (Ejects n x t) k h = (grew s t h.0, h.1)
  from_ends ks G s (Stops c t) k h = tt

  pub learns_fine : {A : Type 0} {ks : List Name} {C : Fact Name} {m : Act Name A} {G : A → Fact Name} → Fine (tracked news M vats v q there here) C m G → Learns ks C m ks G
  learns_fine {ks = ks} {m = m} {G = G} f = record { after = λ s h k c. from_ends ks G s (m s) k (f.after s h c) }

  wider : {A : Type 0} (ks : List Name) (G : A → Fact Name) (s t : Vat Name) (d : Done Name A) → Grew s t → Learned ks G t d → Learned ks G s d
  wider ks G s t (Gives a u) r h = (grew_on s t u r h.0, h.1, h.2, h.3)
  wider ks G s t (Throws p u) r h = (grew_on s t u r h.0, h.1)
  wider ks G s t (Ejects n x u) r h = (grew_on s t u r h.0, h.1)
  wider ks G s t (Stops c u) r h = tt

  bind_learned : {A B : Type 0} (ks ks' : List Name) (C : Fact Name) (P : A → Fact Name) (H : B → Fact Name) (s : Vat Name) (d : Done Name A) (f : A → Act Name B) → Holds (Good s) C → Learned ks P s d
      → ((a : A) → Learns ks (Also C (P a)) (f a) ks' H) → Learned ks' H s (and_then d f)
  unfolding and_then
  bind_learned ks ks' C P H s (Gives a t) f c h k = wider ks' H s t (f a t) h.0 ((k a).after t h.1 h.2 (rise s t h.0 C c, h.3))
  bind_learned ks ks' C P H s (Stops r t) f c h k = tt
  bind_learned ks ks' C P H s other f c h k = h

  learns_bind : {A B : Type 0} {ks ks' ks'' : List Name} {C : Fact Name} {m : Act Name A} {f : A → Act Name B} {H : B → Fact Name} (P : A → Fact Name) → Learns ks C m ks' P → ((a : A) → Learns ks' (Also C (P a)) (f a) ks'' H) → Learns ks C (m >>= f) ks'' H
  unfolding ◌>>=◌
  learns_bind {ks' = ks'} {ks'' = ks''} {C = C} {m = m} {f = f} {H = H} P h k = record { after = λ s g w c. bind_learned ks' ks'' C P H s (m s) f c (h.after s g w c) k }

  learns_left : {A : Type 0} {ks ks' : List Name} {C D : Fact Name} {m : Act Name A} {H : A → Fact Name} → Learns ks C m ks' H → Learns ks (Also C D) m ks' H
  learns_left h = record { after = λ s g k c. h.after s g k c.0 }

  learns_then : {A B : Type 0} {ks ks' ks'' : List Name} {C : Fact Name} {m : Act Name A} {n : Act Name B} {H : B → Fact Name} (P : A → Fact Name) → Learns ks C m ks' P → Learns ks' C n ks'' H → Learns ks C (m >> n) ks'' H
  unfolding ◌>>◌
  learns_then {ks' = ks'} {ks'' = ks''} {C = C} {m = m} {n = n} {H = H} P h k = record { after = λ s g w c. bind_learned ks' ks'' C P H s (m s) (λ _. n) c (h.after s g w c) (λ a. learns_left k) }

  widest : {A : Type 0} (s t : Vat Name) (d : Done Name A) → Grew s t → Ended t d → Ended s d
  widest s t (Gives a u) r h = (grew_on s t u r h.0, h.1)
  widest s t (Throws p u) r h = (grew_on s t u r h.0, h.1)
  widest s t (Ejects n x u) r h = (grew_on s t u r h.0, h.1)
  widest s t (Stops c u) r h = tt

  bind_read : {A B : Type 0} (ks : List Name) (C : Fact Name) (P : A → Fact Name) (s : Vat Name) (d : Done Name A) (f : A → Act Name B) → Holds (Good s) C → Learned ks P s d
      → ((a : A) → Reads ks (Also C (P a)) (f a)) → Ended s (and_then d f)
  unfolding and_then
  bind_read ks C P s (Gives a t) f c h k = widest s t (f a t) h.0 ((k a).after t h.1 h.2 (rise s t h.0 C c, h.3))
  bind_read ks C P s (Stops r t) f c h k = tt
  bind_read ks C P s other f c h k = h

  pub reads_bind : {A B : Type 0} {ks ks' : List Name} {C : Fact Name} {m : Act Name A} {f : A → Act Name B} (P : A → Fact Name) → Learns ks C m ks' P → ((a : A) → Reads ks' (Also C (P a)) (f a)) → Reads ks C (m >>= f)
  unfolding ◌>>=◌
  reads_bind {ks' = ks'} {C = C} {m = m} {f = f} P h k = record { after = λ s g w c. bind_read ks' C P s (m s) f c (h.after s g w c) k }

  fine_ended : {A : Type 0} (G : A → Fact Name) (s : Vat Name) (d : Done Name A) → Ends (tracked news M vats v q there here) G s d → Ended s d
  fine_ended G s (Gives a t) h = (grew s t h.0, h.1)
  fine_ended G s (Throws p t) h = (grew s t h.0, h.1)
  fine_ended G s (Ejects n x t) h = (grew s t h.0, h.1)
  fine_ended G s (Stops c t) h = tt

  pub reads_fine : {A : Type 0} {ks : List Name} {C : Fact Name} {m : Act Name A} {G : A → Fact Name} → Fine (tracked news M vats v q there here) C m G → Reads ks C m
  reads_fine {m = m} {G = G} f = record { after = λ s h k c. fine_ended G s (m s) (f.after s h c) }

  -- ---- names

  old_good : (ks : List Name) (s : Vat Name) (n : Name) → Was (Named n) → Knows ks s → IsKnownIn ks n → Good s (Named n)
  old_good ks s (Object w i) m k h = (k.made (Named (Object w i)) m.0, tt, tt, m.1)
  old_good ks s (Root w) m k h = k.all (Root w) h
  old_good ks s (Promise w i) m k h = k.all (Promise w i) h
  old_good ks s (Answer w x) m k h = k.all (Answer w x) h
  old_good ks s (Gift w i) m k h = k.all (Gift w i) h
  old_good ks s (Sent x) m k h = k.all (Sent x) h

  mine_or : (w i : ℕ) (ks : List Name) (s : Vat Name) (b : Bool) → (b ≡ true → v ≡ w) → (b ≡ false → v ≡ w → ⊥) → Knows ks s → i < promises_of us w → (IsAmong (Promise w i) ks → ⊥) → IsAmong (Promise w i) (names_in s.known) → ⊥
  mine_or w i ks s true f g k m n a = let e : v ≡ w = f refl in let l : i < promises_of us v = rw (sym e) at m in n (rw e at (k.own i l))
  mine_or w i ks s false f g k m n a = n (k.told (Promise w i) (g refl) a)

  no_self : (a b : ℕ) → (a == b) ≡ false → a ≡ b → ⊥
  no_self a b e f = let t : (a == b) ≡ true = eq-eqb a b f in false_true (sym e ∙ t)

  new_plain : (ks : List Name) (s : Vat Name) (n : Name) → WasMade us d0 n → Knows ks s → (IsAmong n ks → ⊥) → IsPlain n → IsAmong n (names_in s.known) → ⊥
  new_plain ks s (Root w) m k f p a = f (k.told (Root w) tt a)
  new_plain ks s (Promise w i) m k f p a = mine_or w i ks s (v == w) (eqb-true v w) (no_self v w) k m f a
  new_plain ks s other m k f p a = absurd p

  new_own : (ks : List Name) (s : Vat Name) (n : Name) → WasMade us d0 n → Knows ks s → (IsAmong n ks → ⊥) → (i : ℕ) → Promise v i ≡ n → i < s.promises
  new_own ks s n m k f i e = let l : i < promises_of us v = rw (sym e) at m in absurd (f (rw e at (k.own i l)))

  grew_known : (s : Vat Name) (k : Known Name) → Grew s (record s { known = s.known ++ k ∷ [] })
  grew_known s k = follows_known news (λ n. ⊥) s.known k s.mails s.promises s.messages s.drawn (λ b. b)

  good_is : (t : Vat Name) (x n : Name) → x ≡ n → Good t (Named n) → Good t (Named x)
  good_is t x n e h = rw (sym e) at h

  -- a name that is new comes to be known
  new_learned : (ks : List Name) (s : Vat Name) (n : Name) → Was (Named n) → IsEventual n → (IsAmong n ks → ⊥) → Sound (tracked news M vats v q there here) s → Knows ks s
      → Learned (ks ++ n ∷ []) IsName s (Gives n (record s { known = s.known ++ begun n (host_of n) ∷ [] }))
  unfolding begun
  new_learned ks s n m o f h k = (r, record { parts = parts; more = kept_known v s.number s.known j s.mails s.promises refl refl o (new_plain ks s n m.0 k f) (new_own ks s n m.0 k f) h.more }, knows, good)
    where
      j : Known Name
      j = begun n (host_of n)

      t : Vat Name
      t = record s { known = s.known ++ j ∷ [] }

      r : Grew s t
      r = grew_known s j

      among : IsAmong n (names_in t.known)
      among = rw (sym (names_end s.known j)) at (among_last (names_in s.known) n)

      good : Good t (Named n)
      good = (made_on news M vats v q there here (λ n. ⊥) s t r (Named n) (k.made (Named n) m.0), known_among (names_in t.known) n among, tt, m.1)

      old : Parts (Good t) s.things s.slots s.lists s.queue s.known s.gifts s.outbox
      old = parts_up (Good s) (Good t) (ok_on news M vats v q there here (λ n. ⊥) s t r) s.things s.slots s.lists s.queue s.known s.gifts s.outbox h.parts

      parts : Parts (Good t) t.things t.slots t.lists t.queue t.known t.gifts t.outbox
      parts = record { things = old.things; slots = old.slots; lists = old.lists; queue = old.queue; known = all_end (KnownOk (Good t)) s.known j old.known (begun_ok (naming word v) (tracked news M vats v q there here) (tracked_under news M vats v q there here word) (Good t) n (host_of n) good); gifts = old.gifts; outbox = old.outbox }

      all : (x : Name) → IsAmong x ks ⊎ (x ≡ n) → Good t (Named x)
      all x (inl a) = ok_on news M vats v q there here (λ n. ⊥) s t r (Named x) (k.all x a)
      all x (inr e) = good_is t x n e good

      told : (x : Name) → IsTold v x → IsAmong x (names_in s.known) ⊎ (x ≡ n) → IsAmong x (ks ++ n ∷ [])
      told x i (inl a) = among_more x ks n (k.told x i a)
      told x i (inr e) = among_is x n (ks ++ n ∷ []) e (among_last ks n)

      knows : Knows (ks ++ n ∷ []) t
      knows = record {
        all = λ x a. all x (among_or x ks n a);
        told = λ x i a. told x i (among_or x (names_in s.known) n (rw (names_end s.known j) at a));
        own = λ i l. among_more (Promise v i) ks n (k.own i l);
        made = λ b l. made_on news M vats v q there here (λ n. ⊥) s t r b (k.made b l);
      }

  either_name : {C : Fact Name} (ks : List Name) (n : Name) (b : Bool) → is_old ks n ≡ b → Was (Named n)
      → Learns ks C (arrive.learn_name (naming word v) (elim b [ true ↦ Old n | false ↦ New n (host_of n) ])) (elim b [ true ↦ ks | false ↦ ks ++ n ∷ [] ]) IsName
  unfolding arrive.learn_name give come naming name_of
  either_name ks n true e m = record { after = λ s h k c. (grew s s (quiet news M vats v q there here s), h, k, old_good ks s n m k (old_known ks n e)) }
  either_name ks n false e m = record { after = λ s h k c. new_learned ks s n m (new_eventual ks us d0 n e m.0) (new_unknown ks n e) h k }

  pub learn_name : {C : Fact Name} (ks : List Name) (n : Name) → Was (Named n) → Learns ks C (arrive.learn_name (naming word v) (read_name ks n)) (known_after ks n) IsName
  unfolding read_name known_after
  learn_name ks n m = either_name ks n (is_old ks n) refl m

  -- ---- values

  plainly : {C : Fact Name} (ks : List Name) (y : Value Name) → Holds (λ b. ⊥) (IsValue y) → Learns ks C (give y) ks IsValue
  plainly ks y h = learns_fine (fine_give (tracked news M vats v q there here) y (record { at = λ s c. sure y h (Good s) }))
    where
      sure : (y : Value Name) → ValueOk (λ (b : Bit Name). ⊥) y → (P : Bit Name → Type 0) → ValueOk P y
      sure (Ref n) h P = absurd h
      sure other h P = tt

  learn_value : {C : Fact Name} (ks : List Name) (y : Value Name) → ValueOk Was y → Learns ks C (arrive.learn_value (naming word v) (world.read_value ks y).read) (world.read_value ks y).known IsValue
  unfolding arrive.learn_value world.read_value
  learn_value ks Null m = plainly ks Null tt
  learn_value ks (Flag b) m = plainly ks (Flag b) tt
  learn_value ks (Number z) m = plainly ks (Number z) tt
  learn_value ks (Letter c) m = plainly ks (Letter c) tt
  learn_value ks (Text t) m = plainly ks (Text t) tt
  learn_value ks (Prim n) m = plainly ks (Prim n) tt
  learn_value ks (Broken p) m = plainly ks (Broken p) tt
  learn_value ks (Items k) m = plainly ks (Items k) tt
  learn_value {C = C} ks (Ref n) m = learns_bind IsName (learn_name ks n m) (λ a. learns_fine (fine_give (tracked news M vats v q there here) (Ref a) (record { at = λ s c. c.1 })))

  -- a gift comes to be known as one more name
  knows_gift : (ks : List Name) (s t : Vat Name) (n : Name) → Goes news M vats v q there here s t → Good t (Named n) → Knows ks s → Knows (ks ++ n ∷ []) t
  knows_gift ks s t n r g k = let o = knows_on ks s t r k in record {
    all = λ x a. all x (among_or x ks n a);
    told = λ x i a. among_more x ks n (o.told x i a);
    own = λ i l. among_more (Promise v i) ks n (k.own i l);
    made = o.made;
  }
    where
      all : (x : Name) → IsAmong x ks ⊎ (x ≡ n) → Good t (Named x)
      all x (inl a) = (knows_on ks s t r k).all x a
      all x (inr e) = rw (sym e) at g

  gift_ends : (ks : List Name) (s : Vat Name) (n : Name) (d : Done Name Name) → ((a : Name) (t : Vat Name) → d ≡ Gives a t → a ≡ n) → Knows ks s → Ends (tracked news M vats v q there here) IsName s d → Learned (ks ++ n ∷ []) IsName s d
  gift_ends ks s n (Gives a t) f k h = let e : a ≡ n = f a t refl in (grew s t h.0, h.1, knows_gift ks s t n h.0 (rw e at h.2) k, h.2)
  gift_ends ks s n (Throws p t) f k h = (grew s t h.0, h.1)
  gift_ends ks s n (Ejects i x t) f k h = (grew s t h.0, h.1)
  gift_ends ks s n (Stops c t) f k h = tt

  same_given : (a b : Name) (s t : Vat Name) → Gives a s ≡ Gives b t → b ≡ a
  same_given a b s t e = cc

  come_known : {C : Fact Name} (ks : List Name) (h i : ℕ) → Gets (tracked news M vats v q there here) C (IsGiven i) → Gets (tracked news M vats v q there here) C (IsVat h) → Learns ks C (come (naming word v) (IsGift h i) h) (ks ++ Gift h i ∷ []) IsName
  unfolding come naming name_of
  come_known ks w i g at = let f = come_gift (naming word v) (tracked news M vats v q there here) (tracked_under news M vats v q there here word) (tracked_gives news M vats v q there here word) w i g at in record { after = λ s h k c. gift_ends ks s (Gift w i) (come (naming word v) (IsGift w i) w s) (λ a t e. same_given (Gift w i) a (record s { known = s.known ++ begun (Gift w i) w ∷ [] }) t e) k (f.after s h c) }

  learn_gift : {C : Fact Name} (ks : List Name) (p h i : ℕ) → M.mark (At h) → WasDrawn d0 i → Learns ks C (arrive.learn_gift (naming word v) p h i) (ks ++ Gift h i ∷ []) IsValue
  unfolding arrive.learn_gift
  learn_gift {C = C} ks p h i at l = let S = tracked news M vats v q there here in let D : Fact Name = Also (IsGiven i) (IsVat h) in record {
    after = λ s g k c. (learns_bind {C = D} {H = IsValue} IsName (come_known {C = D} ks h i (got_left S (IsGiven i) (IsVat h) (IsGiven i) (got_itself S (IsGiven i))) (got S (IsGiven i) (IsVat h))) (λ n. learns_then {C = Also D (IsName n)} nothing
        (learns_fine (fine_ask_for (naming word v) S (tracked_under news M vats v q there here word) p h i (got_left S D (IsName n) (IsGiven i) (got_left S (IsGiven i) (IsVat h) (IsGiven i) (got_itself S (IsGiven i)))) n (got S D (IsName n))))
        (learns_fine (fine_give S (Ref n) (got_ref S (Also D (IsName n)) n (got S D (IsName n))))))).after s g k ((k.made (Gave i) l, tt, tt, M.draw i), (tt, tt, tt, at));
  }

  mutual
    unfolding arrive.learn arrive.learn_all world.read_passed world.read_all world.plain_read world.many_read world.more_read

    pub learn : {C : Fact Name} (p : ℕ) (y : Passed Name) (ks : List Name) → PassedOk Was y → Learns ks C (arrive.learn (naming word v) p (world.read_passed y ks).read) (world.read_passed y ks).known IsValue
    learn p (Plain y) ks m = learn_value ks y m
    learn p (AGift h i) ks m = learn_gift ks p h i m.0.1 m.1.0
    learn {C = C} p (Many ys) ks m = learns_bind AreValues (learn_all p ys ks m) (λ vs. learns_fine (fine_make_list (naming word v) (tracked news M vats v q there here) (tracked_under news M vats v q there here word) vs (record { at = λ s c. c.1 })))

    pub learn_all : {C : Fact Name} (p : ℕ) (ys : Passeds Name) (ks : List Name) → PassedsOk Was ys → Learns ks C (arrive.learn_all (naming word v) p (world.read_all ys ks).read) (world.read_all ys ks).known AreValues
    learn_all p NoMore ks m = learns_fine (fine_give (tracked news M vats v q there here) [] (record { at = λ s c. tt }))
    learn_all p (More y ys) ks m = learns_bind IsValue (learn p y ks m.0) (λ x. learns_bind AreValues (learn_all p ys (world.read_passed y ks).known m.1) (λ xs. learns_fine (fine_give (tracked news M vats v q there here) (x ∷ xs) (record { at = λ s c. (c.0.1, c.1) }))))

  -- ---- notes

  abbrev tracked_gifts : Gifts (naming word v) (tracked news M vats v q there here)
  tracked_gifts = gifts_by (naming word v) (tracked news M vats v q there here) (tracked_under news M vats v q there here word) (tracked_gives news M vats v q there here word)

  message_name : (m : Name) → IsMessageMade us m → IsMessageName m
  message_name (Sent m) h = tt
  message_name other h = absurd h

  pub message_learned : {C : Fact Name} (ks : List Name) (m : Name) (h : ℕ) → Was (Mail m) → Learns ks C (arrive.learn_message (naming word v) (New m h)) ks IsMail
  unfolding arrive.learn_message mail naming mail_of
  message_learned ks m w made = record {
    after = λ s h k c. let t : Vat Name = record s { mails = s.mails ++ m ∷ [] } in
        let r : Goes news M vats v q there here s t = record { names = λ n a. a; mails = λ n a. among_more n s.mails m a; promises = omega arith; messages = count_same news s.messages; draws = λ x a. a; told = λ n i a. a } in
        let on : Knows ks t = knows_on ks s t r k in
        (grew s t r, record { parts = parts_up (Good s) (Good t) (ok_on news M vats v q there here (IsTold v) s t r) s.things s.slots s.lists s.queue s.known s.gifts s.outbox h.parts; more = kept_mail v s.number s.known s.mails s.promises m (message_name m made.0) h.more }, on, (on.made (Mail m) made.0, among_last s.mails m, tt, made.1));
  }

  -- with a draw that was made
  with_draw : {A : Type 0} (ks : List Name) (i : ℕ) (m : Act Name A) → WasDrawn d0 i → Reads ks (IsDraw i) m → Reads ks Nothing m
  with_draw ks i m l h = record { after = λ s g k c. h.after s g k (k.made (Drew i) l, tt, tt, M.draw i) }

  -- and of a gift in hand
  with_given : {A : Type 0} (ks : List Name) (i : ℕ) (m : Act Name A) → WasDrawn d0 i → Reads ks (IsGiven i) m → Reads ks Nothing m
  with_given ks i m l h = record { after = λ s g k c. h.after s g k (k.made (Gave i) l, tt, tt, M.draw i) }

  -- with a vat that is marked
  with_vat : {A : Type 0} (ks : List Name) (w : ℕ) (m : Act Name A) → M.mark (At w) → Reads ks (IsVat w) m → Reads ks Nothing m
  with_vat ks w m at h = record { after = λ s g k c. h.after s g k (tt, tt, tt, at) }

  pub reads_note : (from : ℕ) (ks : List Name) (n : Note Name) → NoteOk Was n → Reads ks Nothing (arrive.arrive (naming word v) from (world.read_note ks n))
  unfolding arrive.arrive world.read_note arrive.arrive_deliver arrive.arrive_open arrive.arrive_settled arrive.arrive_elsewhere arrive.arrive_shorten
  reads_note from ks (Deliver d n verb ys) h = reads_bind IsMail (message_learned ks d.message (host_of d.message) h.0) (λ id. reads_bind AreValues (learn_all from ys ks h.2) (λ args. reads_bind IsName (learn_name (world.read_all ys ks).known n h.1)
      (λ x. reads_fine (fine_delivered (naming word v) (tracked news M vats v q there here) (tracked_under news M vats v q there here word) from id (record { at = λ s c. c.0.0.1 }) x (record { at = λ s c. c.1 }) verb args (record { at = λ s c. c.0.1 }) d.asks))))
  reads_note from ks (Open i n) h = with_draw ks i _ h.0.0 (reads_bind IsName (learn_name ks n h.1) (λ y. reads_fine (fine_opened (naming word v) (tracked news M vats v q there here) (tracked_under news M vats v q there here word) tracked_gifts from i (record { at = λ s c. c.0 }) y (record { at = λ s c. c.1 }))))
  reads_note from ks (Ask p i n) h = with_given ks i _ h.0.0 (reads_fine (fine_arrive_ask (naming word v) (tracked news M vats v q there here) (tracked_under news M vats v q there here word) tracked_gifts from p i (record { at = λ s c. c })))
  reads_note from ks (SettledTo n y) h = reads_bind IsName (learn_name ks n h.0) (λ x. reads_bind IsValue (learn from y (known_after ks n) h.1) (λ z. reads_fine (fine_settle (naming word v) (tracked news M vats v q there here) (tracked_under news M vats v q there here word) x (record { at = λ s c. c.0.1 }) z (record { at = λ s c. c.1 }))))
  reads_note from ks (Elsewhere n c) h = with_vat ks c _ h.1.1 (reads_bind IsName (learn_name ks n h.0) (λ x. reads_fine (fine_went (naming word v) (tracked news M vats v q there here) (tracked_under news M vats v q there here word) (λ D n g w k. tracked_views news M vats v q there here word n g w k) x (record { at = λ s c. c.1 }) c (record { at = λ s c. c.0 }))))
  reads_note from ks (Shorten n c i) h = with_draw ks i _ h.1.0 (reads_bind IsName (learn_name ks n h.0) (λ x. reads_fine (fine_shortened (naming word v) (tracked news M vats v q there here) (tracked_under news M vats v q there here word) x (record { at = λ s c. c.1 }) i (record { at = λ s c. c.0 }))))
