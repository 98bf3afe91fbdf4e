-- A note that a name settled elsewhere is carried in a run: where the name was unsettled and the object is of a third vat, it comes to have a view.
use Rattle.std.proofs.Common.{◌≡◌, ℕ, zero, ◌<◌, Bool, false, List, [], ◌∷◌, ◌++◌, Some, None, length, refl, sym, ap, subst, ◌∙◌, ◌⊎◌, inl, append-nil}
use Rattle.std.specs.Prelude.{slice_get, codes, if◌then◌else◌}
use Rattle.def_machine.specs.Values.{Broken, Ref, Words, Name, Naming, Foreign, host_of, word_of}
use Rattle.def_machine.specs.State.{Note, Ask, Elsewhere, Shorten, Unsettled, Settled, Put, Vat, Done, Gives, begun, is_in, ◌>>=◌, look}
use Rattle.def_machine.specs.State as state
use Rattle.def_machine.specs.Refs as refs
use Rattle.def_machine.specs.Refs.{entry_of, standing_of}
use Rattle.def_machine.specs.Arrive as arriving
use Rattle.def_machine.specs.Arrive.{Old}
use Rattle.def_run.specs.World as world
use Rattle.def_run.specs.World.{Script, Carry, Entry, Event, Link, World, Goes, begins, open_from, steps_from, names, read_note, readied}
use Rattle.law_fate.specs.Name.Names.{AllOf, IsAmong, NoteOk, WasDrawn, names_in}
use Rattle.law_fate.specs.Name.Runs.{KnowsOnce}
use Rattle.law_fate.proofs.Name.Laws.{names_known, next_new}
use Rattle.law_fate.proofs.Name.Run.{Told, Stands, opened_stands, steps_stand}
use Rattle.law_fate.specs.Fates.WholeFateRuns.{KnowsVats}
use Rattle.law_reference.specs.Reference.Cuts.{NoticesFollowCuts}
use Rattle.law_reference.proofs.Reference.Puts.{among_in}
use Rattle.law_reference.proofs.Reference.VatStep.{link_all}
use Rattle.law_frame.proofs.Local.Positions.{there_is}
use Rattle.law_frame.proofs.Local.Steps.{put_beside}
use Rattle.law_frame.proofs.Steady.Questions.{stepped_counted}
use Rattle.law_order.specs.Ordering.Settle.{IsEnded}
use Rattle.law_order.specs.Ordering.Steps.{LeadsAmid, Grown}
use Rattle.law_order.specs.Ordering.Worlds.{IfGives, IsObject, FollowsEnd}
use Rattle.law_order.specs.Ordering.Places.{delivered, opened_there, leads, leads_at, amid}
use Rattle.law_order.proofs.Ordering.Below.{key_is_new}
use Rattle.law_order.proofs.Ordering.News.{came_ends}
use Rattle.law_order.proofs.Ordering.Sends.{some_same}
use Rattle.law_order.specs.Arrivals.Tellings.{IsToldOf, IsTidy, IsNoteFor}
use Rattle.law_order.specs.Arrivals.Notes.{EndsOver}
use Rattle.law_order.specs.Arrivals.Views.{view_word, view_key, view_name, asked_vat, seen_vat, CanView}
use Rattle.law_order.specs.Arrivals.Wholes.{KeepsOwnOrder}
use Rattle.law_order.proofs.Arrivals.Views.{elsewhere_arrivals_keep}
use Rattle.law_order.proofs.Runs.Beginnings.{none_found}
use Rattle.law_order.proofs.Runs.ToldRuns.{NoteTrue, elsewhere_is_true}
use Rattle.law_order.proofs.Asks.Steps as steps
use Rattle.law_order.specs.News.News.{BearsElsewhere}
use Rattle.law_order.proofs.News.Tidiness.{own_came, hosts_came, objects_unknown, tidy}
use Rattle.law_order.proofs.News.Teller as teller
use Rattle.law_order.proofs.News.Teller.{elsewhere}
use Rattle.law_order.proofs.News.Carried as carried
use Rattle.law_order.proofs.News.Own.{none_opened, settled_same}
use Rattle.law_order.proofs.News.Learnt.{Learnt, learns, stands}
use Rattle.law_order.proofs.News.Seeing.{Saw, views, told, view_ends}
use Rattle.law_order.proofs.News.Far.{far_ends}
use Rattle.law_order.proofs.News.Stale.{asks, stale_grown}

-- ---- the note arrives

module _ (script : Script) (once : KnowsOnce script) (knows : KnowsVats script) (w x y : World) (es : List Entry) (k a b c : ℕ) (n : Name) (follow : NoticesFollowCuts es)
    (o : open_from script zero script.vats (begins script) ≡ Goes w) (e : steps_from script es k w ≡ Goes x) (f : steps_from script (es ++ Carry a b ∷ []) k w ≡ Goes y) (honest : ℕ → Bool) (h : BearsElsewhere script honest x a b n c) where
  abbrev K : Naming Name Name
  K = names script b

  abbrev Tells : Note Name
  Tells = Elsewhere n c

  abbrev Was : Vat Name
  Was = h.borne.vat

  pub plain : IsObject n → ⊥
  plain = teller.plain script once w x es k o e a b n Tells elsewhere h.borne

  pub hosted : host_of n ≡ a
  hosted = teller.hosted script once w x es k o e a b n Tells elsewhere h.borne

  pub other : a ≡ b → ⊥
  other = teller.other script once w x es k o e a b n Tells elsewhere h.borne

  pub learnt : (s : Vat Name) × (arriving.learn_name K (world.read_name (names_in Was.known) n) (readied x Was) ≡ Gives n s) × Learnt script x honest b Was n s
  learnt = learns script once w x es k o e honest b Was h.borne.there n (teller.made script once w x es k o e a b n Tells elsewhere h.borne) plain

  abbrev S : Vat Name
  S = learnt.0

  pub L : Learnt script x honest b Was n S
  L = learnt.2

  abbrev Arrival : Done Name (Unit {0})
  Arrival = steps.Arrival script honest x a b Tells h.borne

  pub arrival : Arrival ≡ arriving.arrive K a (Elsewhere (Old n) c) S
  unfolding arriving.arrive arriving.arrive_elsewhere arriving.learn_name read_note state.◌>>=◌ state.and_then state.give
  arrival = ap (λ d. state.and_then d (λ m. look (λ s. is_in c s.noticed) >>= (λ gone. if gone then refs.settle K m (Broken (codes "partition")) else arriving.view_there K m c))) learnt.1

  pub bare : (ns : List (Note Name)) → delivered (Tells ∷ ns) ≡ delivered ns
  unfolding delivered
  bare ns = refl

  abbrev pub came : (t : Vat Name) × (head : List Event) × (Arrival ≡ Gives tt t) × (y ≡ steps.Then script honest x a b Tells h.borne head t)
  came = carried.came script once w x y es k a b Tells h.borne tt bare o e f honest

  abbrev T : Vat Name
  T = came.0

  pub ended : FollowsEnd K T
  ended = carried.ended script once w x y es k a b Tells h.borne tt bare o e f honest

  -- ---- where the name settled, at its host

  pub there_told : NoteTrue script x.vats a Tells
  there_told = teller.told script once w x es k o e a b n Tells elsewhere h.borne

  abbrev pub Sender : Vat Name
  Sender = there_told.0

  pub object : (q : Name) × (standing_of (names script a) Sender.known n ≡ Settled (Ref q)) × ((names script a).spot q ≡ Foreign c) × (entry_of (names script a) Sender.known q ≡ None)
  object =
      let true_there = (elsewhere_is_true script once).1 w x es k o e a b h.borne.link n c h.borne.found (subst (λ ns. IsAmong Tells ns) (sym h.borne.first) (inl refl)) in
      let same : true_there.0 ≡ Sender = some_same true_there.0 Sender (sym true_there.1 ∙ there_told.1) in
      let settled : standing_of (names script a) Sender.known n ≡ Settled (Ref true_there.2) = subst (λ (s : Vat Name). standing_of (names script a) s.known n ≡ Settled (Ref true_there.2)) same true_there.3 in
      let is : there_told.2.0 ≡ Ref true_there.2 = settled_same there_told.2.0 (Ref true_there.2) (sym there_told.2.1 ∙ settled) in
      let ends : IsEnded there_told.2.0 = subst IsEnded (sym is) true_there.4 in
      let none : ((q : Name) → there_told.2.0 ≡ Ref q → entry_of (names script a) Sender.known q ≡ None) = λ q i. objects_unknown script once w x es k o e honest a Sender there_told.1 q (subst IsEnded i ends) in
      let found = there_told.2.2 ends none in
      (found.0, there_told.2.1 ∙ ap Settled found.1, found.2, none found.0 found.1)

  -- ---- the object is of a third vat

  pub host : L.entry.host ≡ a
  host = L.hosts n L.entry L.found ∙ hosted

  -- it is unsettled, or broken
  pub standing : (L.entry.standing ≡ Unsettled) ⊎ ((p : Words) × (L.entry.standing ≡ Settled (Broken p)))
  standing = stands script x honest b Was n S L (teller.new script once w x es k o e a b n Tells elsewhere h.borne follow)

  module _ (third : c ≡ b → ⊥) (live : is_in c S.noticed ≡ false) where
    abbrev Seen : Vat Name → Type 0
    Seen t = Saw script b a c S n L.entry L.found host L.ready.number third t

    viewed : arriving.arrive K a (Elsewhere (Old n) c) S ≡ arriving.view_there K n c S
    unfolding arriving.arrive arriving.arrive_elsewhere arriving.learn_name state.◌>>=◌ state.and_then state.give state.look
    viewed = ap (λ q. (if q then refs.settle K n (Broken (codes "partition")) else arriving.view_there K n c) S) live

    pub saw : Seen T
    saw = subst (λ d. IfGives Seen d) (sym viewed ∙ sym arrival ∙ came.2) (views script b a c S n L.entry L.found host L.ready.number third)

    abbrev Key : ℕ
    Key = view_key script b a c n S

    abbrev Q : Name
    Q = view_name script b a c n S

    abbrev A : Vat Name
    A = asked_vat script b a c n S

    not_drawn : WasDrawn x.drawn Key → ⊥
    not_drawn i = teller.true_false (is_in (word_of Key) x.drawn) (among_in (word_of Key) x.drawn i) (ap (λ ds. is_in (word_of Key) ds) (sym L.drawn) ∙ key_is_new a (view_word script b a c n S) S.drawn saw.0)

    pub new_here : entry_of K S.known Q ≡ None
    new_here = L.new c Key not_drawn

    -- ---- the third vat

    inside : c < length script.vats
    inside =
        let stands : Stands script x = steps_stand script es k w x (opened_stands script once script.vats [] w (sym (append-nil script.vats)) o) e in
        let all : AllOf (NoteOk (Told script x)) h.borne.link.notes = link_all (λ (l : Link). AllOf (NoteOk (Told script x)) l.notes) a b x.links h.borne.link stands.links h.borne.found in
        let one : NoteOk (Told script x) Tells = (subst (λ ns. AllOf (NoteOk (Told script x)) ns) h.borne.first all).0 in one.1.1 knows

    third_vat : (t : Vat Name) × (slice_get x.vats c ≡ Some t)
    third_vat = there_is x.vats c (subst (λ m. c < m) (sym (stepped_counted script once w x es k o e)) inside)

    third_amid : slice_get (amid b S x).vats c ≡ Some third_vat.0
    unfolding amid
    third_amid = put_beside x.vats b c S (λ i. third (sym i)) ∙ third_vat.1

    gift_unknown : IsAmong Q (names_in third_vat.0.known) → ⊥
    gift_unknown i = ((next_new script once).1 w x es k o e c third_vat.0 third_vat.1 c third_vat.0 third_vat.1).2 c Key not_drawn i

    shut : opened_there Q third_vat.0.gifts ≡ false
    shut = none_opened Q (names_in third_vat.0.known) third_vat.0.mails gift_unknown third_vat.0.gifts ((names_known script once).1 w x es k o e c third_vat.0 third_vat.1).gifts

    -- ---- the vat as it asks

    pub asked_grown : Grown script honest x b S A
    asked_grown = (asks script honest x b a c S n saw.0 L.ready).1

    asked_ends : FollowsEnd K (record S { known = S.known ++ begun Q (host_of Q) ∷ [] })
    asked_ends = came_ends script honest x b S Q (λ i. i) L.ready

    pub asked_tidy : IsTidy script honest x b A
    unfolding host_of
    asked_tidy = tidy script once w x es k o e honest b A
        (hosts_came script honest b S Q L.ready.ends (λ i. i) new_here L.hosts)
        (asked_ends.objects)
        (own_came script honest b S Q L.ready.ends (λ i. i) new_here L.own)
        (subst (λ ps. AllOf (λ (p : Put Name). IsNoteFor p.to p.note) ((ps ++ record { to = a; note = Shorten n c Key } ∷ []) ++ record { to = c; note = Ask a Key Q } ∷ [])) (sym L.empty) (hosted, (tt, tt)))

    module _ (unsettled : L.entry.standing ≡ Unsettled) where
      pub seen_told : IsToldOf script b a A (seen_vat script b a c n S) n (Ref Q)
      seen_told = record {
        only = told script b a c S n L.entry L.found unsettled new_here;
        own = L.ready.number;
        host = hosted;
        other = other;
        reached = inl (ap (λ ws. is_in a ws) L.noticed ∙ teller.unnoticed script once w x es k o e a b n Tells elsewhere h.borne follow);
        plain = plain;
        follows = subst (λ t. FollowsEnd K t) saw.1 ended;
        ended = view_ends script b a c S n L.entry L.found unsettled new_here;
      }

      so : EndsOver a c (LeadsAmid script honest x b A a (Ref n))
      unfolding amid leads leads_at
      so = subst (EndsOver a c) (sym (ap (λ z. leads_at script honest a z (Ref n)) (put_beside x.vats b a A (λ i. other (sym i)) ∙ there_told.1))) (far_ends script honest a Sender n object.0 c object.1 object.2 object.3)

      can_view : CanView script honest x b a c S n L.entry
      can_view = record {
        known = L.found;
        host = host;
        third = third;
        unnoticed = live;
        ready = L.ready;
        link = teller.back_open script once w x es k o e a b n Tells elsewhere h.borne honest h.sender h.receiver;
        honest_there = h.third;
        new_here = new_here;
        vat = third_vat.0;
        there = third_amid;
        new_there = none_found script c third_vat.0.known Q gift_unknown;
        shut = shut;
        tidy = asked_tidy;
        told = seen_told;
        so = so;
      }

      pub third_own : KeepsOwnOrder script honest x b S T
      third_own = subst (λ d. IfGives (λ u. KeepsOwnOrder script honest x b S u) d) (sym arrival ∙ came.2) (elsewhere_arrivals_keep script honest x b a c a Was S n L.entry h.borne.there can_view)

    -- a name that was broken stays so
    pub third_grown : (p : Words) → L.entry.standing ≡ Settled (Broken p) → Grown script honest x b S T
    third_grown p broken = subst (λ t. Grown script honest x b S t) (sym saw.1) (stale_grown script honest x b a c S n saw.0 L.entry L.found (Broken p) broken L.ready)
