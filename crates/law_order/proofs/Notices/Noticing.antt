-- A vat notices that another was cut off: it marks that one, then its names of it break, and then the gifts that it was to open. Order is kept.
use Rattle.std.proofs.Common.{◌≡◌, ℕ, suc, Bool, true, false, List, [], ◌∷◌, Option, Some, None, length, refl, sym, ap, subst, ◌∙◌, ◌⊎◌, inl, inr, codes, eqb-true, eq-eqb}
use Rattle.std.specs.Prelude.{slice_get, ◌==◌, if◌then◌else◌}
use Rattle.def_machine.specs.Values.{Words, Value, Broken, Name, Object, Gift, Naming, NoObject, naming, host_of, spot_of}
use Rattle.def_machine.specs.State.{Message, Standing, Unsettled, WaitsOn, Viewed, Settled, Known, GiftEntry, Settle, Vat, Done, Gives, changed, is_in}
use Rattle.def_machine.specs.State as state
use Rattle.def_machine.specs.Refs as refs
use Rattle.def_machine.specs.Refs.{Settler, entry_of, standing_of, standing_in}
use Rattle.def_machine.specs.Arrive as arrive
use Rattle.def_run.specs.World.{Script, World, names}
use Rattle.law_fate.specs.Name.Names.{AllOf}
use Rattle.law_order.specs.Ordering.Ways.{Lane, Held, Way, Item, Nowhere, Mid, Ways}
use Rattle.law_order.specs.Ordering.Messages.{StaysBehind}
use Rattle.law_order.specs.Ordering.Settle.{settled_to}
use Rattle.law_order.specs.Ordering.Steps.{WaysAmid, LeadsAmid, still_held, StaysInOrder}
use Rattle.law_order.specs.Ordering.Worlds.{IfGives, IsObject}
use Rattle.law_order.proofs.Ordering.Remaining.{kept_grown, order_then}
use Rattle.law_order.proofs.Ordering.Sends.{if_map, chain}
use Rattle.law_order.proofs.Ordering.Standing.{stands_more}
use Rattle.law_order.specs.Views.Led.{BreaksAsItsHost}
use Rattle.law_order.proofs.Views.Settling.{IsOpen, settles_alone, settled_now}
use Rattle.law_order.proofs.Views.Severed.{severed_names_break_quietly}
use Rattle.law_order.specs.Notices.Marks.{past_link, marked, MarkKeeps}
use Rattle.law_order.proofs.Notices.Marks.{marked_in, marks_keep}
use Rattle.law_order.proofs.Notices.Sinking.{StandsWell, IsWell, Sinks, sound_then, follows_end, breaks_sinks}
use Rattle.law_order.proofs.Notices.Sinkings as sinkings
use Rattle.law_order.proofs.Notices.Sinkings.{breaks}

-- with what names break
abbrev pub Partition : Words
Partition = codes "partition"

none_some : (k : Known Name) → ◌≡◌ {A = Option (Known Name)} None (Some k) → ⊥
none_some k e = cc

-- ---- bools

either_false : (c d : Bool) → c ≡ false → d ≡ false → elim c [ true ↦ true | false ↦ d ] ≡ false
either_false true d e f = e
either_false false d e f = f

either_true : (c d : Bool) → d ≡ true → elim c [ true ↦ true | false ↦ d ] ≡ true
either_true true d e = refl
either_true false d e = e

not_equal : (v u : ℕ) → (v ≡ u → ⊥) → (v == u) ≡ false
not_equal v u f = go (v == u) refl
  where
    go : (c : Bool) → (v == u) ≡ c → c ≡ false
    go true e = absurd (f (eqb-true v u e))
    go false e = refl

-- what is no object has no spot
no_spot : (v : ℕ) (n : Name) → (IsObject n → ⊥) → spot_of v n ≡ NoObject
unfolding spot_of
no_spot v (Object h i) f = absurd (f tt)
no_spot v other f = refl

module _ (script : Script) (honest : ℕ → Bool) (w : World) (v : ℕ) (r : Vat Name) (at : slice_get w.vats v ≡ Some r) (P : Message Name → Type 0) (u : ℕ) (other : v ≡ u → ⊥) where
  abbrev K : Naming Name Name
  K = names script v

  abbrev Problem : Words
  Problem = Partition

  abbrev Y : Value Name
  Y = Broken Problem

  abbrev Kept : Vat Name → Vat Name → Type 0
  Kept s t = StaysInOrder script honest w v s t

  abbrev Goes : Vat Name → Vat Name → Type 0
  Goes s t = sinkings.Goes script honest w v r at P Problem s t

  abbrev pub Fit : Vat Name → Type 0
  Fit s = sinkings.Fit script honest w v r at P Problem s

  goes_self : (s : Vat Name) → Goes s s
  goes_self s = sinkings.goes_self script honest w v r at P Problem s

  fit_then : (s t : Vat Name) → Goes s t → Fit s → Fit t
  fit_then s t g h = sinkings.fit_then script honest w v r at P Problem s t g h

  from_there : (s t : Vat Name) (d : Done Name (Unit {0})) → Goes s t → IfGives (Goes t) d → IfGives (Goes s) d
  from_there s t d g h = if_map (Goes t) (Goes s) (λ z i. sinkings.goes_then script honest w v r at P Problem s t z g i) d h

  -- ---- the mark

  module _ (s : Vat Name) (h : Fit s) (cut : (n : Name) → (WaysAmid script honest w v s).onward (Way v u) n ≡ Nowhere) where
    abbrev W : Vat Name → Ways
    W t = WaysAmid script honest w v t

    abbrev T : Vat Name
    T = marked s u

    mark : MarkKeeps script honest w v u s
    mark = marks_keep script honest w v u s h.0.number other cut

    mid_stays : (l : Lane) (b : List Item) (n : Name) → past_link v u (Mid l b n) ≡ Mid l b n
    unfolding past_link
    mid_stays l b n = refl

    pub mark_kept : Kept s (marked s u)
    mark_kept = (
      mark.ready,
      record {
        references = λ z x. subst (λ c. StaysBehind (W s) (W T) (LeadsAmid script honest w v s z x) c) (sym (mark.leading z x)) (mark.keeps (LeadsAmid script honest w v s z x));
        places = λ l b n. subst (λ c. StaysBehind (W s) (W T) (Mid l b n) c) (mid_stays l b n) (mark.keeps (Mid l b n));
        apart = λ m l b n i j. stands_more (W s) (W T) m l b n (mark.more l) j;
        held = λ m p b n j. still_held (stands_more (W s) (W T) m (Held v p) b n (mark.more (Held v p)) j);
      },
    )

    pub mark_fit : Fit (marked s u)
    mark_fit = (
      record {
        number = h.0.number;
        itself = marked_in script honest v u s h.0.number other v s.noticed ∙ either_false (is_in v s.noticed) (v == u) h.0.itself (not_equal v u other);
        objects = h.0.objects;
        known = h.0.known;
        views = h.0.views;
        ends = h.0.ends;
        waits = h.0.waits;
      },
      mark_kept.0 h.1,
    )

    pub mark_noticed : is_in u (marked s u).noticed ≡ true
    mark_noticed = marked_in script honest v u s h.0.number other u s.noticed ∙ either_true (is_in u s.noticed) (u == u) (eq-eqb u u refl)

  -- ---- a name of the vat that was marked

  abbrev IsMarked : Vat Name → Type 0
  IsMarked s = is_in u s.noticed ≡ true

  marked_then : (s t : Vat Name) → Goes s t → IsMarked s → IsMarked t
  marked_then s t g e = subst (λ us. is_in u us ≡ true) (sym g.0.noticed) e

  module _ (p : Name) (k : Known Name) (s : Vat Name) (found : entry_of (names script v) s.known p ≡ Some k) (unsettled : k.standing ≡ Unsettled) (hosted : host_of p ≡ u) (noted : IsMarked s) (h : Fit s) where
    abbrev Broken0 : Vat Name
    Broken0 = settled_to K s p Y

    still : IsOpen k.standing
    still = subst IsOpen (sym unsettled) tt

    well : IsWell P v p k
    well = h.0.known p k found

    empty : (k.held ≡ []) × (k.told ≡ [])
    empty = well.empty (λ e. other (sym e ∙ hosted))

    spot : K.spot p ≡ NoObject
    unfolding names naming
    spot = no_spot v p (λ o. none_some k (sym (h.0.objects p o) ∙ found))

    as_its_host : BreaksAsItsHost K s Broken0 p Problem
    as_its_host = record {
      before = k;
      after = changed (Settle Y) k;
      only = settles_alone script v s p Y k found still empty.0;
      unsettled = unsettled;
      noticed = subst (λ x. is_in x s.noticed ≡ true) (sym (well.host ∙ hosted)) noted;
      broken = settled_now script v s p Y k found still empty.0;
      plain = spot;
      follows = follows_end script P v Broken0 (sound_then K P Y v tt s Broken0 (breaks_sinks script P v s p Problem k found still) h.0);
    }

    no_gift : (i : ℕ) → p ≡ Gift v i → ⊥
    unfolding host_of
    no_gift i e = other (sym (ap host_of e) ∙ hosted)

    name_first : Kept s Broken0
    name_first = (λ q. (severed_names_break_quietly script honest w v s Broken0 p Problem as_its_host no_gift q).0, kept_grown script honest w v s Broken0 (severed_names_break_quietly script honest w v s Broken0 p Problem as_its_host no_gift h.1).1)

    abbrev Inner : Settler {N = Name} {W = Name} (names script v)
    Inner q z = refs.settle_at K (suc (length s.known)) q z

    name_known : IfGives (Goes s) (refs.settle_known K Inner p Y k s)
    name_known = sinkings.known_goes script honest w v r at P Problem _ Inner (breaks script honest w v r at P Problem (suc (length s.known))) p k s found still h name_first empty.0 empty.1

    name_stands : IfGives (Goes s) (refs.settle_standing K Inner p Y k k.standing s)
    unfolding refs.settle_standing
    name_stands = subst (λ q. IfGives (Goes s) (refs.settle_standing K Inner p Y k q s)) (sym unsettled) name_known

    name_enters : IfGives (Goes s) (refs.settle_entry K Inner p Y (entry_of K s.known p) s)
    unfolding refs.settle_entry
    name_enters = subst (λ o. IfGives (Goes s) (refs.settle_entry K Inner p Y o s)) (sym found) name_stands

    name_breaks : IfGives (Goes s) (refs.settle K p Y s)
    unfolding refs.settle refs.settle_at refs.settle_one state.◌>>=◌ state.and_then state.look refs.target_of
    name_breaks = name_enters

  module _ (p : Name) (s : Vat Name) (hosted : host_of p ≡ u) (noted : IsMarked s) (h : Fit s) where
    unknown_breaks : entry_of K s.known p ≡ None → IfGives (Goes s) (refs.settle K p Y s)
    unfolding refs.settle refs.settle_at refs.settle_one refs.settle_entry state.◌>>=◌ state.and_then state.look state.give refs.target_of
    unknown_breaks e = subst (λ o. IfGives (Goes s) (refs.settle_entry K (λ q z. refs.settle_at K (suc (length s.known)) q z) p Y o s)) (sym e) (goes_self s)

    foreign : (o : Option (Known Name)) (q : Standing Name) → entry_of K s.known p ≡ o → standing_in o ≡ q → IfGives (Goes s) (arrive.break_hosted K u p Problem q s)
    unfolding arrive.break_hosted state.give standing_in
    foreign (Some k) Unsettled e f = name_breaks p k s e f hosted noted h
    foreign (Some k) (WaitsOn z) e f = let own : host_of p ≡ v = subst (StandsWell v p) f (h.0.known p k e).stands in absurd (other (sym own ∙ hosted))
    foreign None Unsettled e f = unknown_breaks e
    foreign None (WaitsOn z) e f = cc
    foreign o (Viewed g) e f = goes_self s
    foreign o (Settled z) e f = goes_self s

  -- each name of that vat breaks
  module _ (k : Known Name) (s : Vat Name) (host : k.host ≡ host_of k.name) (noted : IsMarked s) (h : Fit s) where
    name_by : (c : Bool) → (k.host == u) ≡ c → IfGives (Goes s) ((if c then arrive.break_hosted K u k.name Problem (standing_of K s.known k.name) else state.give tt) s)
    unfolding state.give standing_of
    name_by true e = foreign k.name s (sym host ∙ eqb-true k.host u e) noted h (entry_of K s.known k.name) (standing_of K s.known k.name) refl refl
    name_by false e = goes_self s

    name_goes : IfGives (Goes s) (arrive.notice_name K u k s)
    unfolding arrive.notice_name state.◌>>=◌ state.and_then state.look
    name_goes = name_by (k.host == u) refl

  names_go : (ks : List (Known Name)) (s : Vat Name) → AllOf (λ (k : Known Name). k.host ≡ host_of k.name) ks → IsMarked s → Fit s → IfGives (Goes s) (state.each (arrive.notice_name K u) ks s)
  unfolding state.each state.◌>>◌ state.give
  names_go [] s hosts e h = goes_self s
  names_go (k ∷ ks) s hosts e h = chain (Goes s) (Goes s) (arrive.notice_name K u k s) (state.each (arrive.notice_name K u) ks) (name_goes k s hosts.0 e h)
      (λ t g. from_there s t (state.each (arrive.notice_name K u) ks t) g (names_go ks t hosts.1 (marked_then s t g e) (fit_then s t g h)))

  -- ---- a gift that the vat was to open

  own_breaks : (p : Name) (s : Vat Name) → host_of p ≡ v → Fit s → IfGives (Goes s) (refs.settle K p Y s)
  unfolding refs.settle state.◌>>=◌ state.and_then state.look
  own_breaks p s own h = (breaks script honest w v r at P Problem (suc (suc (length s.known))) p s h (sinkings.own_may script honest w v r at P Problem s p h.0 own)).1

  gift_stands : (p : Name) (q : Standing Name) (s : Vat Name) → host_of p ≡ v → Fit s → IfGives (Goes s) (arrive.break_at K p Problem q s)
  unfolding arrive.break_at state.give
  gift_stands p (Settled z) s own h = goes_self s
  gift_stands p other s own h = own_breaks p s own h

  gift_unopened : (p : Name) (c : Bool) (s : Vat Name) → host_of p ≡ v → Fit s → IfGives (Goes s) (arrive.break_unopened K p c s)
  unfolding arrive.break_unopened state.give state.◌>>=◌ state.and_then state.look
  gift_unopened p true s own h = goes_self s
  gift_unopened p false s own h = gift_stands p (standing_of K s.known p) s own h

  gift_by : (g : GiftEntry Name) (c : Bool) (s : Vat Name) → host_of g.name ≡ v → Fit s → IfGives (Goes s) ((if c then arrive.break_unopened K g.name g.opened else state.give tt) s)
  unfolding state.give
  gift_by g true s own h = gift_unopened g.name g.opened s own h
  gift_by g false s own h = goes_self s

  gift_goes : (g : GiftEntry Name) (s : Vat Name) → host_of g.name ≡ v → Fit s → IfGives (Goes s) (arrive.notice_gift K u g s)
  unfolding arrive.notice_gift
  gift_goes g s own h = gift_by g (g.provider == u) s own h

  gifts_go : (gs : List (GiftEntry Name)) (s : Vat Name) → AllOf (λ (g : GiftEntry Name). host_of g.name ≡ v) gs → Fit s → IfGives (Goes s) (state.each (arrive.notice_gift K u) gs s)
  unfolding state.each state.◌>>◌ state.give
  gifts_go [] s own h = goes_self s
  gifts_go (g ∷ gs) s own h = chain (Goes s) (Goes s) (arrive.notice_gift K u g s) (state.each (arrive.notice_gift K u) gs) (gift_goes g s own.0 h)
      (λ t i. from_there s t (state.each (arrive.notice_gift K u) gs t) i (gifts_go gs t own.1 (fit_then s t i h)))

  -- ---- the whole notice

  module _ (s : Vat Name) (h : Fit s) (cut : (n : Name) → (WaysAmid script honest w v s).onward (Way v u) n ≡ Nowhere)
      (hosts : AllOf (λ (k : Known Name). k.host ≡ host_of k.name) s.known) (own : AllOf (λ (g : GiftEntry Name). host_of g.name ≡ v) s.gifts) where
    abbrev Marked : Vat Name
    Marked = marked s u

    gifts_then : (d : Done Name (Unit {0})) → IfGives (Goes Marked) d → IfGives (Goes Marked) (state.and_then d (λ a. λ t. state.each (arrive.notice_gift K u) t.gifts t))
    unfolding state.and_then
    gifts_then (Gives a t) g = from_there Marked t (state.each (arrive.notice_gift K u) t.gifts t) g (gifts_go t.gifts t (subst (λ gs. AllOf (λ (x : GiftEntry Name). host_of x.name ≡ v) gs) (sym g.0.gifts) own) (fit_then Marked t g (mark_fit s h cut)))
    gifts_then other g = tt

    rest_goes : IfGives (Goes Marked) (state.and_then (state.each (arrive.notice_name K u) s.known Marked) (λ a. λ t. state.each (arrive.notice_gift K u) t.gifts t))
    rest_goes = gifts_then (state.each (arrive.notice_name K u) s.known Marked) (names_go s.known Marked hosts (mark_noticed s h cut) (mark_fit s h cut))

    -- order is kept, and names broke from here on, or from the mark on
    abbrev pub Noticed : Vat Name → Type 0
    Noticed t = Kept s t × (Sinks K P Y s t ⊎ Sinks K P Y Marked t)

    all_kept : IfGives Noticed (arrive.notice_all K u s)
    unfolding arrive.notice_all state.mark state.◌>>=◌ state.◌>>◌ state.and_then state.look
    all_kept = if_map (Goes Marked) Noticed (λ t g. (order_then script honest w v s Marked t (mark_kept s h cut) g.1, inr g.0)) _ rest_goes

    notice_by : (c : Bool) → IfGives Noticed ((if c then state.give tt else arrive.notice_all K u) s)
    unfolding state.give
    notice_by true = ((goes_self s).1, inl (goes_self s).0)
    notice_by false = all_kept

    pub notice_kept : IfGives Noticed (arrive.notice K u s)
    unfolding arrive.notice state.◌>>=◌ state.and_then state.look
    notice_kept = notice_by (is_in u s.noticed)
