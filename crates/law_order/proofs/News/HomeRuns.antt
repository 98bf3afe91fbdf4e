-- A note that a name settled to an object of its receiver is carried in a run: the name comes to have a gift as its view.
use Rattle.std.proofs.Common.{◌≡◌, ℕ, zero, Bool, true, false, List, [], ◌∷◌, ◌++◌, Option, Some, None, refl, sym, ap, subst, ◌∙◌, inl, eqb-true}
use Rattle.std.specs.Prelude.{codes, ◌==◌, if◌then◌else◌}
use Rattle.def_machine.specs.Values.{Broken, Ref, Words, Name, Naming, host_of, word_of}
use Rattle.def_machine.specs.State.{Elsewhere, Shorten, Unsettled, Settled, GiftEntry, Put, Vat, begun, is_gift, is_in, drawn_at}
use Rattle.def_machine.specs.State as state
use Rattle.def_machine.specs.Refs as refs
use Rattle.def_machine.specs.Refs.{entry_of}
use Rattle.def_machine.specs.Arrive as arriving
use Rattle.def_machine.specs.Arrive.{Old, gift_at}
use Rattle.def_run.specs.World.{Script, Carry, Entry, World, Goes, begins, open_from, steps_from, names}
use Rattle.law_fate.specs.Name.Names.{AllOf, IsMade, GiftOk, WasDrawn, names_in}
use Rattle.law_fate.specs.Name.Runs.{KnowsOnce}
use Rattle.law_fate.proofs.Name.Laws.{names_known, names_made, next_new}
use Rattle.law_fate.specs.Fates.WholeFateRuns.{KnowsVats}
use Rattle.law_reference.specs.Reference.Cuts.{NoticesFollowCuts}
use Rattle.law_reference.proofs.Reference.Puts.{among_in}
use Rattle.law_frame.proofs.Local.Steps.{put_beside}
use Rattle.law_order.specs.Ordering.Steps.{LeadsAmid, Grown}
use Rattle.law_order.specs.Ordering.Worlds.{IfGives, FollowsEnd}
use Rattle.law_order.specs.Ordering.Places.{opened_there, leads, leads_at, amid}
use Rattle.law_order.proofs.Ordering.Below.{key_is_new}
use Rattle.law_order.proofs.Ordering.Coming.{old_entry}
use Rattle.law_order.proofs.Ordering.News.{came_ends, grown_then}
use Rattle.law_order.specs.Arrivals.Tellings.{IsToldOf, IsTidy, IsNoteFor}
use Rattle.law_order.specs.Arrivals.Notes.{EndsOver}
use Rattle.law_order.specs.Arrivals.Views.{view_word, view_key, view_name}
use Rattle.law_order.specs.Arrivals.Wholes.{KeepsOwnOrder}
use Rattle.law_order.specs.News.News.{BearsElsewhere}
use Rattle.law_order.proofs.News.Tidiness.{own_came, hosts_came, tidy}
use Rattle.law_order.proofs.News.Teller as teller
use Rattle.law_order.proofs.News.Teller.{elsewhere}
use Rattle.law_order.proofs.News.Learnt.{Learnt}
use Rattle.law_order.proofs.News.Far.{far_ends}
use Rattle.law_order.proofs.News.Stale.{stale}
use Rattle.law_order.proofs.News.Home as home
use Rattle.law_order.proofs.News.Seeing as seeing
use Rattle.law_order.proofs.News.Elsewhere as far
use Rattle.law_order.proofs.News.Own.{grown_own, none_opened}

-- no gift under a key stands whose word was not drawn
second_of : (c d : Bool) → elim c [ true ↦ d | false ↦ false ] ≡ true → d ≡ true
second_of true d e = e
second_of false d e = cc

key_of : (p i : ℕ) (g : GiftEntry Name) → is_gift p i g ≡ true → g.number ≡ i
unfolding is_gift
key_of p i g e = eqb-true g.number i (second_of (g.provider == p) (g.number == i) e)

no_gift_at : (vats : List (Vat Name)) (ds : List ℕ) (p i : ℕ) → (WasDrawn ds i → ⊥) → (gs : List (GiftEntry Name)) → AllOf (GiftOk (IsMade vats ds)) gs → gift_at p i gs ≡ None
unfolding gift_at
no_gift_at vats ds p i f [] h = refl
no_gift_at vats ds p i f (g ∷ gs) h = go (is_gift p i g) refl (no_gift_at vats ds p i f gs h.1)
  where
    go : (c : Bool) → is_gift p i g ≡ c → gift_at p i gs ≡ None → ◌≡◌ {A = Option (GiftEntry Name)} (elim c [ true ↦ Some g | false ↦ gift_at p i gs ]) None
    go true e r = absurd (f (subst (λ z. WasDrawn ds z) (key_of p i g e) h.0.1))
    go false e r = r

module _ (script : Script) (once : KnowsOnce script) (knows : KnowsVats script) (w x y : World) (es : List Entry) (k a b : ℕ) (n : Name) (follow : NoticesFollowCuts es)
    (o : open_from script zero script.vats (begins script) ≡ Goes w) (e : steps_from script es k w ≡ Goes x) (f : steps_from script (es ++ Carry a b ∷ []) k w ≡ Goes y) (honest : ℕ → Bool) (h : BearsElsewhere script honest x a b n b) where
  abbrev K : Naming Name Name
  K = names script b

  abbrev Was : Vat Name
  Was = h.borne.vat

  abbrev S : Vat Name
  S = (far.learnt script once knows w x y es k a b b n follow o e f honest h).0

  abbrev pub L : Learnt script x honest b Was n S
  L = far.L script once knows w x y es k a b b n follow o e f honest h

  abbrev T : Vat Name
  T = (far.came script once knows w x y es k a b b n follow o e f honest h).0

  pub host : L.entry.host ≡ a
  host = L.hosts n L.entry L.found ∙ far.hosted script once knows w x y es k a b b n follow o e f honest h

  abbrev Key : ℕ
  Key = view_key script b a b n S

  abbrev Q : Name
  Q = view_name script b a b n S

  abbrev A : Vat Name
  A = home.Had script b a S n

  module _ (live : is_in b S.noticed ≡ false) where
    undrawn : drawn_at zero (view_word script b a b n S) S.drawn ≡ None → WasDrawn x.drawn Key → ⊥
    undrawn fresh i = teller.true_false (is_in (word_of Key) x.drawn) (among_in (word_of Key) x.drawn i) (ap (λ ds. is_in (word_of Key) ds) (sym L.drawn) ∙ key_is_new a (view_word script b a b n S) S.drawn fresh)

    pub none : drawn_at zero (view_word script b a b n S) S.drawn ≡ None → gift_at a Key S.gifts ≡ None
    none fresh = ap (λ gs. gift_at a Key gs) L.gifts ∙ no_gift_at x.vats x.drawn a Key (undrawn fresh) Was.gifts ((names_made script once).1 w x es k o e b Was h.borne.there).gifts

    abbrev Seen : Vat Name → Type 0
    Seen t = home.Sees script b a S n L.entry L.found host L.ready.number none t

    viewed : arriving.arrive K a (Elsewhere (Old n) b) S ≡ arriving.view_there K n b S
    unfolding arriving.arrive arriving.arrive_elsewhere arriving.learn_name state.◌>>=◌ state.and_then state.give state.look
    viewed = ap (λ q. (if q then refs.settle K n (Broken (codes "partition")) else arriving.view_there K n b) S) live

    pub saw : Seen T
    saw = subst (λ d. IfGives Seen d) (sym viewed ∙ sym (far.arrival script once knows w x y es k a b b n follow o e f honest h) ∙ (far.came script once knows w x y es k a b b n follow o e f honest h).2) (home.sees script b a S n L.entry L.found host L.ready.number none)

    not_drawn : WasDrawn x.drawn Key → ⊥
    not_drawn = undrawn saw.0

    pub new_here : entry_of K S.known Q ≡ None
    new_here = L.new b Key not_drawn

    shut : opened_there Q S.gifts ≡ false
    shut = ap (λ gs. opened_there Q gs) L.gifts ∙ none_opened Q (names_in Was.known) Was.mails (λ i. ((next_new script once).1 w x es k o e b Was h.borne.there b Was h.borne.there).2 b Key not_drawn i) Was.gifts ((names_known script once).1 w x es k o e b Was h.borne.there).gifts

    asked_ends : FollowsEnd K (record S { known = S.known ++ begun Q (host_of Q) ∷ [] })
    asked_ends = came_ends script honest x b S Q (λ i. i) L.ready

    pub asked_tidy : IsTidy script honest x b A
    unfolding host_of
    asked_tidy = tidy script once w x es k o e honest b A
        (hosts_came script honest b S Q L.ready.ends (λ i. i) new_here L.hosts)
        (asked_ends.objects)
        (own_came script honest b S Q L.ready.ends (λ i. i) new_here L.own)
        (subst (λ ps. AllOf (λ (p : Put Name). IsNoteFor p.to p.note) (ps ++ record { to = a; note = Shorten n b Key } ∷ [])) (sym L.empty) (far.hosted script once knows w x y es k a b b n follow o e f honest h, tt))

    pub had_grown : Grown script honest x b S A
    had_grown = (home.had script honest x b a Was S n h.borne.there saw.0 L.ready L.ready).1

    own_then : KeepsOwnOrder script honest x b A T → KeepsOwnOrder script honest x b S T
    own_then g = grown_own script honest x b S A T had_grown g

    module _ (unsettled : L.entry.standing ≡ Unsettled) where
      pub seen_told : IsToldOf script b a A (home.Saw script b a S n) n (Ref Q)
      seen_told = record {
        only = home.seen script b a S n L.entry L.found unsettled new_here;
        own = L.ready.number;
        host = far.hosted script once knows w x y es k a b b n follow o e f honest h;
        other = far.other script once knows w x y es k a b b n follow o e f honest h;
        reached = inl (ap (λ ws. is_in a ws) L.noticed ∙ teller.unnoticed script once w x es k o e a b n (Elsewhere n b) elsewhere h.borne follow);
        plain = far.plain script once knows w x y es k a b b n follow o e f honest h;
        follows = subst (λ t. FollowsEnd K t) saw.1 (far.ended script once knows w x y es k a b b n follow o e f honest h);
        ended = seeing.view_ends script b a b S n L.entry L.found unsettled new_here;
      }

      so : EndsOver a b (LeadsAmid script honest x b A a (Ref n))
      unfolding amid leads leads_at
      so = let told = far.there_told script once knows w x y es k a b b n follow o e f honest h in let object = far.object script once knows w x y es k a b b n follow o e f honest h in
          subst (EndsOver a b) (sym (ap (λ z. leads_at script honest a z (Ref n)) (put_beside x.vats b a A (λ i. far.other script once knows w x y es k a b b n follow o e f honest h (sym i)) ∙ told.1))) (far_ends script honest a told.0 n object.0 b object.1 object.2 object.3)

      pub home_own : KeepsOwnOrder script honest x b S T
      home_own = own_then (subst (λ t. KeepsOwnOrder script honest x b A t) (sym saw.1) (home.seen_keeps script honest x b a Was S n h.borne.there saw.0 L.ready L.entry L.found unsettled
          (teller.back_open script once w x es k o e a b n (Elsewhere n b) elsewhere h.borne honest h.sender h.receiver) live new_here shut asked_tidy seen_told so))

    -- a name that was broken stays so
    pub home_grown : (p : Words) → L.entry.standing ≡ Settled (Broken p) → Grown script honest x b S T
    home_grown p broken =
        let r = home.had script honest x b a Was S n h.borne.there saw.0 L.ready L.ready in
        grown_then script honest x b S A T had_grown (subst (λ t. Grown script honest x b A t) (sym saw.1) (stale script honest x b A n Q L.entry (old_entry K S.known (begun Q b) L.entry n L.found) (Broken p) broken r.0).1)
