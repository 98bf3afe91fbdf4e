-- What arrives leaves what holds beside names, where each name that it brings does.
use Rattle.std.proofs.Common.{◌≡◌, ℕ, Bool, true, false, List, [], ◌∷◌, ◌++◌, Some}
use Rattle.std.specs.Prelude.{slice_get}
use Rattle.def_machine.specs.Values.{Value, Null, Flag, Number, Letter, Text, Prim, Broken, Items, Ref, Name, host_of, naming, name_of}
use Rattle.def_machine.specs.State.{Known, Passed, Passeds, Plain, AGift, Many, NoMore, More, Note, Deliver, Open, Ask, SettledTo, Elsewhere, Shorten, Put, begun, Vat, Done, Gives, Stops, Act, ◌>>=◌, ◌>>◌, and_then, give, tell, come, mail, new_list}
use Rattle.def_machine.specs.Arrive as arrive
use Rattle.def_machine.specs.Arrive.{Old, New}
use Rattle.def_run.specs.World as world
use Rattle.law_fate.specs.Name.Names.{WasDrawn, Bit, Named, Drew, At, bare, IsMade, ValueOk, PassedOk, PassedsOk, NoteOk}
use Rattle.law_fate.proofs.Name.Facts.{Fact, Nothing, Also, IsName, IsMail, IsDraw, IsVat, IsValue, AreValues, nothing, Holds}
use Rattle.law_fate.proofs.Name.Care.{Care, Sound, Ends, Gets, Fine}
use Rattle.law_fate.proofs.Name.Learn.{Knows, Learned, Learns, rise, learn, learn_all, learn_name, message_learned}
use Rattle.law_fate.proofs.Name.TrackedViews.{tracked_views}
use Rattle.law_fate.proofs.Name.Tracked.{Marked}
use Rattle.law_reference.proofs.Reference.Beside.{IsFit as FitBy, Leaves as LeavesBy, Stays, view_leaves}
use Rattle.law_reference.proofs.Reference.CareBeside.{T as Tracks, V as Cares, IsHere, quiet, changes}
use Rattle.law_reference.proofs.Reference.CareMore.{with_more, lift, ends_leave}
use Rattle.law_reference.proofs.Reference.CareBlocks.{Changes, Blocks, put_learn_gift, put_arrive_ask, put_delivered, put_opened, put_went, put_shortened, put_settle}

module _ (M : Marked) (vats : List (Vat Name)) (v : ℕ) (q : Vat Name) (there : slice_get vats v ≡ Some q) (here : M.mark (At v)) (word : ℕ → ℕ) (Fit : List (Known Name) → List (Put Name) → Type 0) (stays : Stays word v Fit) (blocks : Blocks (naming word v) (Cares M vats v q there here word Fit)) where
  abbrev T : Care Name
  T = Tracks M vats v q there here word Fit

  abbrev V : Care Name
  V = Cares M vats v q there here word Fit

  abbrev Here : ℕ → Type 0
  Here h = IsHere M vats v q there here word Fit h

  single : Changes (naming word v) V Here
  single = changes M vats v q there here word Fit stays

  abbrev IsFit : Vat Name → Type 0
  IsFit s = FitBy word v Fit s

  abbrev Leaves : {A : Type 0} → Done Name A → Type 0
  Leaves d = LeavesBy word v Fit d

  sound : (s : Vat Name) → Sound T s → IsFit s → Sound V s
  sound s h o = with_more T IsFit (quiet M vats v q there here word Fit) s h o

  ends : {A : Type 0} (G : A → Fact Name) (s : Vat Name) (d : Done Name A) → Ends V G s d → Leaves d
  ends G s d h = ends_leave T IsFit (quiet M vats v q there here word Fit) G s d h

  -- the view of an object of another vat
  views_leave : (D : Fact Name) (n : Name) → Gets V D (IsName n) → (c : ℕ) → Gets V D (IsVat c) → Fine V D (arrive.view_there (naming word v) n c) nothing
  views_leave D n g c k = lift T IsFit (quiet M vats v q there here word Fit) (tracked_views true M vats v q there here word n (record { at = g.at }) c (record { at = k.at })) (λ s o. view_leaves word v Fit stays n c s o)

  -- ---- learning

  module _ (us : List (Vat Name)) (d0 : List ℕ) (Lets : Bit Name → Type 0) (lets : (n : Name) → Lets (Named n) → (ks : List (Known Name)) (ps : List (Put Name)) → Fit ks ps → Fit (ks ++ begun n (host_of n) ∷ []) ps) where
    -- what was made before, and is marked
    abbrev Was : Bit Name → Type 0
    Was b = IsMade us d0 b × M.mark (bare b)

    abbrev Knowing : List Name → Vat Name → Type 0
    Knowing ks s = Knows true M vats v q there here word us d0 ks s

    abbrev Learning : {A : Type 0} → List Name → Fact Name → Act Name A → List Name → (A → Fact Name) → Type 0
    Learning ks C m ks' G = Learns true M vats v q there here word us d0 ks C m ks' G

    pub record Fits {A : Type 0} (ks : List Name) (C : Fact Name) (m : Act Name A) : Type 0 where
      pub after : (s : Vat Name) → Sound T s → Knowing ks s → Holds (T.ok s) C → IsFit s → Leaves (m s)

    bind_leaves : {A B : Type 0} (ks ks' : List Name) (C : Fact Name) (P : A → Fact Name) (s : Vat Name) (d : Done Name A) (f : A → Act Name B) → Holds (T.ok s) C → Learned true M vats v q there here word us d0 ks' P s d → Leaves d
        → ((a : A) → Fits ks' (Also C (P a)) (f a)) → Leaves (and_then d f)
    unfolding and_then
    bind_leaves ks ks' C P s (Gives a t) f c h l k = (k a).after t h.1 h.2 (rise true M vats v q there here word us d0 s t h.0 C c, h.3) l
    bind_leaves ks ks' C P s (Stops r t) f c h l k = tt
    bind_leaves ks ks' C P s other f c h l k = l

    fits_bind : {A B : Type 0} {ks ks' : List Name} {C : Fact Name} {m : Act Name A} {f : A → Act Name B} (P : A → Fact Name) → Learning ks C m ks' P → Fits ks C m → ((a : A) → Fits ks' (Also C (P a)) (f a)) → Fits ks C (m >>= f)
    unfolding ◌>>=◌
    fits_bind {ks = ks} {ks' = ks'} {C = C} {m = m} {f = f} P l h k = record { after = λ s g w c o. bind_leaves ks ks' C P s (m s) f c (l.after s g w c) (h.after s g w c o) k }

    fits_fine : {A : Type 0} {ks : List Name} {C : Fact Name} {m : Act Name A} {G : A → Fact Name} → Fine V C m G → Fits ks C m
    fits_fine {m = m} {G = G} f = record { after = λ s g w c o. ends G s (m s) (f.after s (sound s g o) c) }

    fits_give : {A : Type 0} {ks : List Name} {C : Fact Name} (a : A) → Fits ks C (give a)
    unfolding give
    fits_give a = record { after = λ s g w c o. o }

    name_either : {ks : List Name} {C : Fact Name} (n : Name) → Lets (Named n) → (b : Bool) → Fits ks C (arrive.learn_name (naming word v) (elim b [ true ↦ Old n | false ↦ New n (host_of n) ]))
    unfolding arrive.learn_name give come naming name_of
    name_either n f true = record { after = λ s k w c o. o }
    name_either n f false = record { after = λ s k w c o. lets n f s.known s.outbox o }

    name_fits : {ks : List Name} {C : Fact Name} (ns : List Name) (n : Name) → Lets (Named n) → Fits ks C (arrive.learn_name (naming word v) (world.read_name ns n))
    unfolding world.read_name
    name_fits ns n f = name_either n f (world.is_old ns n)

    message_fits : {ks : List Name} {C : Fact Name} (m : Name) (h : ℕ) → Fits ks C (arrive.learn_message (naming word v) (New m h))
    unfolding arrive.learn_message mail
    message_fits m h = record { after = λ s g w c o. o }

    ref_leaves : (n : Name) → Lets (Named n) → (b : Bool) (s : Vat Name) → IsFit s → Leaves (and_then (arrive.learn_name (naming word v) (elim b [ true ↦ Old n | false ↦ New n (host_of n) ]) s) (λ x. give (Ref x)))
    unfolding arrive.learn_name give come and_then naming name_of
    ref_leaves n f true s o = o
    ref_leaves n f false s o = lets n f s.known s.outbox o

    value_fits : {ks : List Name} {C : Fact Name} (ns : List Name) (y : Value Name) → ValueOk Lets y → Fits ks C (arrive.learn_value (naming word v) (world.read_value ns y).read)
    unfolding arrive.learn_value world.read_value world.read_name ◌>>=◌
    value_fits ns Null f = fits_give Null
    value_fits ns (Flag b) f = fits_give (Flag b)
    value_fits ns (Number z) f = fits_give (Number z)
    value_fits ns (Letter c) f = fits_give (Letter c)
    value_fits ns (Text t) f = fits_give (Text t)
    value_fits ns (Prim n) f = fits_give (Prim n)
    value_fits ns (Broken p) f = fits_give (Broken p)
    value_fits ns (Items k) f = fits_give (Items k)
    value_fits ns (Ref n) f = record { after = λ s k w c o. ref_leaves n f (world.is_old ns n) s o }

    gift_fits : {ks : List Name} {C : Fact Name} (p h i : ℕ) → M.mark (At h) → WasDrawn d0 i → Fits ks C (arrive.learn_gift (naming word v) p h i)
    gift_fits {C = C} p h i at l = record { after = λ s g w c o. ends IsValue s (arrive.learn_gift (naming word v) p h i s) ((gift_fine p h i).after s (sound s g o) ((w.made (Drew i) l, tt, tt, M.draw i), (tt, tt, tt, at))) }
      where
        gift_fine : (p h i : ℕ) → Fine V (Also (IsDraw i) (IsVat h)) (arrive.learn_gift (naming word v) p h i) IsValue
        gift_fine p h i = put_learn_gift (naming word v) V Here single blocks p h i (record { at = λ r d. d.0 }) (record { at = λ r d. d.1 })

    list_fits : {ks : List Name} {C : Fact Name} (vs : List (Value Name)) → Fits ks C (arrive.make_list (naming word v) vs)
    unfolding arrive.make_list new_list tell give ◌>>=◌ ◌>>◌ and_then
    list_fits vs = record { after = λ s g w c o. o }

    mutual
      unfolding arrive.learn arrive.learn_all world.read_passed world.read_all world.plain_read world.many_read world.more_read

      learn_fits : {C : Fact Name} (p : ℕ) (y : Passed Name) (ks : List Name) → PassedOk Was y → PassedOk Lets y → Fits ks C (arrive.learn (naming word v) p (world.read_passed y ks).read)
      learn_fits p (Plain y) ks w f = value_fits ks y f
      learn_fits p (AGift h i) ks w f = gift_fits p h i w.0.1 w.1.0
      learn_fits p (Many ys) ks w f = fits_bind AreValues (learn_all true M vats v q there here word us d0 p ys ks w) (all_fit p ys ks w f) (λ vs. list_fits vs)

      all_fit : {C : Fact Name} (p : ℕ) (ys : Passeds Name) (ks : List Name) → PassedsOk Was ys → PassedsOk Lets ys → Fits ks C (arrive.learn_all (naming word v) p (world.read_all ys ks).read)
      all_fit p NoMore ks w f = fits_give []
      all_fit p (More y ys) ks w f = fits_bind IsValue (learn true M vats v q there here word us d0 p y ks w.0) (learn_fits p y ks w.0 f.0) (λ x. fits_bind AreValues (learn_all true M vats v q there here word us d0 p ys (world.read_passed y ks).known w.1) (all_fit p ys (world.read_passed y ks).known w.1 f.1) (λ xs. fits_give (x ∷ xs)))

    -- with a draw that was made
    with_draw : {A : Type 0} (ks : List Name) (i : ℕ) (m : Act Name A) → WasDrawn d0 i → Fits ks (IsDraw i) m → Fits ks Nothing m
    with_draw ks i m l h = record { after = λ s g k c o. h.after s g k (k.made (Drew i) l, tt, tt, M.draw i) o }

    -- with a vat that is marked
    with_vat : {A : Type 0} (ks : List Name) (u : ℕ) (m : Act Name A) → M.mark (At u) → Fits ks (IsVat u) m → Fits ks Nothing m
    with_vat ks u m at h = record { after = λ s g k c o. h.after s g k (tt, tt, tt, at) o }

    pub note_leaves : (from : ℕ) (ks : List Name) (n : Note Name) → NoteOk Was n → NoteOk Lets n → Fits ks Nothing (arrive.arrive (naming word v) from (world.read_note ks n))
    unfolding arrive.arrive world.read_note arrive.arrive_deliver arrive.arrive_open arrive.arrive_settled arrive.arrive_elsewhere arrive.arrive_shorten
    note_leaves from ks (Deliver d n verb ys) h f = fits_bind IsMail (message_learned true M vats v q there here word us d0 ks d.message (host_of d.message) h.0) (message_fits d.message (host_of d.message)) (λ id. fits_bind AreValues (learn_all true M vats v q there here word us d0 from ys ks h.2) (all_fit from ys ks h.2 f.2)
        (λ args. fits_bind IsName (learn_name true M vats v q there here word us d0 (world.read_all ys ks).known n h.1) (name_fits (world.read_all ys ks).known n f.1)
        (λ x. fits_fine (put_delivered (naming word v) V Here single blocks from id (record { at = λ s c. c.0.0.1 }) x (record { at = λ s c. c.1 }) verb args (record { at = λ s c. c.0.1 }) d.asks))))
    note_leaves from ks (Open i n) h f = with_draw ks i _ h.0.0 (fits_bind IsName (learn_name true M vats v q there here word us d0 ks n h.1) (name_fits ks n f.1) (λ y. fits_fine (put_opened (naming word v) V Here single blocks from i (record { at = λ s c. c.0 }) y (record { at = λ s c. c.1 }))))
    note_leaves from ks (Ask p i n) h f = with_draw ks i _ h.0.0 (fits_fine (put_arrive_ask (naming word v) V Here single blocks from p i (record { at = λ s c. c })))
    note_leaves from ks (SettledTo n y) h f = fits_bind IsName (learn_name true M vats v q there here word us d0 ks n h.0) (name_fits ks n f.0) (λ x. fits_bind IsValue (learn true M vats v q there here word us d0 from y (world.known_after ks n) h.1) (learn_fits from y (world.known_after ks n) h.1 f.1)
        (λ z. fits_fine (put_settle (naming word v) V Here single blocks x (record { at = λ s c. c.0.1 }) z (record { at = λ s c. c.1 }))))
    note_leaves from ks (Elsewhere n c) h f = with_vat ks c _ h.1.1 (fits_bind IsName (learn_name true M vats v q there here word us d0 ks n h.0) (name_fits ks n f.0) (λ x. fits_fine (put_went (naming word v) V Here single blocks views_leave x (record { at = λ s c. c.1 }) c (record { at = λ s c. c.0 }))))
    note_leaves from ks (Shorten n c i) h f = with_draw ks i _ h.1.0 (fits_bind IsName (learn_name true M vats v q there here word us d0 ks n h.0) (name_fits ks n f.0) (λ x. fits_fine (put_shortened (naming word v) V Here single blocks x (record { at = λ s c. c.1 }) i (record { at = λ s c. c.0 }))))
