-- As a vat notices in a run that another was cut off, order is kept.
use Rattle.std.proofs.Common.{◌≡◌, ℕ, zero, Bool, true, false, List, [], ◌∷◌, ◌++◌, Option, Some, None, refl, sym, ap, subst, ◌∙◌, ◌⊎◌, inl, inr}
use Rattle.std.specs.Prelude.{slice_get, ◌&&◌}
use Rattle.def_machine.specs.Values.{Value, Broken, Ref, Name, Naming}
use Rattle.def_machine.specs.State.{Happened, Message, Put, Vat, Done, Gives, is_in}
use Rattle.def_machine.specs.Refs.{entry_of}
use Rattle.def_machine.specs.Arrive.{notice}
use Rattle.def_run.specs.World as world
use Rattle.def_run.specs.World.{Script, NoticeLink, NoticedAt, Entry, Event, Link, World, Goes, begins, open_from, steps_from, step, names, readied, link_at, put_at, push_all}
use Rattle.law_fate.specs.Name.Names.{AllOf}
use Rattle.law_fate.specs.Name.Runs.{KnowsOnce}
use Rattle.law_reference.specs.Reference.Cuts.{NoticesFollowCuts, IsCutThere}
use Rattle.law_reference.proofs.Reference.Gentle.{AfterGives}
use Rattle.law_reference.proofs.Reference.AskHolds.{notices_front}
use Rattle.law_reference.proofs.Reference.NoticedRuns.{noticed_links_cut}
use Rattle.law_order.specs.Ordering.Ways.{Lane, Way, Item, Nowhere, Free, Mid, Ways}
use Rattle.law_order.specs.Ordering.Changes.{Grows}
use Rattle.law_order.specs.Ordering.Messages.{StaysBehind}
use Rattle.law_order.specs.Ordering.Places.{is_honest, leads_in, leads_at, leads, over, onward_at, ways_of, ways, amid}
use Rattle.law_order.specs.Ordering.Steps.{WaysAmid, LeadsAmid, Ready, StaysInOrder}
use Rattle.law_order.specs.Ordering.Worlds.{IfGives}
use Rattle.law_order.proofs.Ordering.Adding.{refers_same}
use Rattle.law_order.proofs.Ordering.Adds.{alike_same}
use Rattle.law_order.proofs.Ordering.Amid as middle
use Rattle.law_order.proofs.Ordering.Amid.{put_either, beginning_changes_no_way}
use Rattle.law_order.proofs.Ordering.Arrived.{all_there}
use Rattle.law_order.proofs.Ordering.Changes.{growing_keeps}
use Rattle.law_order.proofs.Ordering.Messages.{behind_then}
use Rattle.law_order.proofs.Ordering.Sends.{found_ends, get_put}
use Rattle.law_order.proofs.Runs.Beginnings.{vats_are_ready}
use Rattle.law_order.proofs.Runs.CarryRuns.{next_step}
use Rattle.law_order.proofs.Views.Alike.{leads_same}
use Rattle.law_order.proofs.Waits.Moving.{notice_marks}
use Rattle.law_order.specs.Notices.Marks.{marked}
use Rattle.law_order.specs.Notices.Notices.{IsReacting, BreaksInOrder, NoticesKeepOrderInRuns}
use Rattle.law_order.proofs.Notices.Marks.{leads_marks}
use Rattle.law_order.proofs.Notices.Sinking.{Sound, Sank, IsNews, IsEnding, Sinks}
use Rattle.law_order.proofs.Notices.Leading.{SameOrGone, gone_then, past_same, leads_on}
use Rattle.law_order.proofs.Notices.Lanes.{put_same, apart_same, queue_more, falls}
use Rattle.law_order.proofs.Notices.Noticing as noticing
use Rattle.law_order.proofs.Notices.Noticing.{Partition, notice_kept}
use Rattle.law_order.proofs.Notices.Soundness.{sound_in, hosts, gifts_own, ready_sound}

goes_is : (x y : World) → Goes x ≡ Goes y → x ≡ y
goes_is x y e = cc

true_false : true ≡ false → ⊥
true_false e = cc

-- ---- a step of a world

-- the world in which vat v went on to t, by such lines
abbrev Then : World → ℕ → List Event → Vat Name → World
Then x v head t = record {
  fuel = t.fuel;
  drawn = t.drawn;
  vats = put_at v t x.vats;
  links = push_all v t.outbox x.links;
  connections = world.connections_after v t head x.connections;
  history = x.history ++ head ++ world.events_of x.links v t.happened;
}

module _ (script : Script) (honest : ℕ → Bool) (x : World) (v u : ℕ) (s : Vat Name) (there : slice_get x.vats v ≡ Some s) (own : s.number ≡ v) (other : v ≡ u → ⊥) where
  abbrev K : Naming Name Name
  K = names script v

  abbrev P : Message Name → Type 0
  P m = IsReacting s m

  abbrev Start : Vat Name
  Start = readied x s

  abbrev Noticed : Vat Name → Type 0
  Noticed t = StaysInOrder script honest x v Start t × (Sinks K P (Broken Partition) Start t ⊎ Sinks K P (Broken Partition) (marked Start u) t)

  -- ---- it begins in the ways of its world

  start_leads : (z : Value Name) → leads_in script honest v Start z ≡ leads_in script honest v s z
  unfolding readied
  start_leads z = (refers_same script honest v s Start (alike_same K s Start refl refl refl refl)).leading z

  begin_leads : (q : ℕ) (z : Value Name) → LeadsAmid script honest x v Start q z ≡ leads script honest x.vats x.links q z
  unfolding amid readied push_all
  begin_leads q z = leads_same script honest v s Start start_leads x.vats x.links q z ∙ ap (λ vs. leads script honest vs x.links q z) (put_same x.vats v s there)

  begin_grows : Grows (ways script honest x) (WaysAmid script honest x v Start)
  begin_grows = let h = beginning_changes_no_way script honest x v s there in record { stands = λ l i j. (h.0 l).0 i j; onward = λ l o. inl (h.1 l o) }

  -- ---- and ends in those of the next

  module _ (t : Vat Name) (h : Noticed t) where
    abbrev W : Vat Name → Ways
    W q = WaysAmid script honest x v q

    references : (q : ℕ) (z : Value Name) → StaysBehind (ways script honest x) (W t) (leads script honest x.vats x.links q z) (LeadsAmid script honest x v t q z)
    references q z = let kept = h.0.1 in behind_then (ways script honest x) (W Start) (W t) (leads script honest x.vats x.links q z) (LeadsAmid script honest x v Start q z) (LeadsAmid script honest x v t q z)
        (subst (λ c. StaysBehind (ways script honest x) (W Start) (leads script honest x.vats x.links q z) c) (sym (begin_leads q z)) (growing_keeps (ways script honest x) (W Start) begin_grows (leads script honest x.vats x.links q z)))
        (kept.references q z)

    places : (l : Lane) (b : List Item) (n : Name) → StaysBehind (ways script honest x) (W t) (Mid l b n) (Mid l b n)
    places l b n = let kept = h.0.1 in behind_then (ways script honest x) (W Start) (W t) (Mid l b n) (Mid l b n) (Mid l b n) (growing_keeps (ways script honest x) (W Start) begin_grows (Mid l b n)) (kept.places l b n)

    -- what is known, queued and put
    entries_by : (Sinks K P (Broken Partition) Start t ⊎ Sinks K P (Broken Partition) (marked Start u) t) → (n : Name) → Sank (Broken Partition) (entry_of K s.known n) (entry_of K t.known n)
    unfolding readied
    entries_by (inl g) n = g.entries n
    entries_by (inr g) n = g.entries n

    queue_by : (Sinks K P (Broken Partition) Start t ⊎ Sinks K P (Broken Partition) (marked Start u) t) → (ms : List (Message Name)) × (t.queue ≡ s.queue ++ ms) × AllOf P ms
    unfolding readied
    queue_by (inl g) = g.queue
    queue_by (inr g) = g.queue

    news_of : (ps : List (Put Name)) → t.outbox ≡ ps → AllOf IsNews ps → AllOf IsNews t.outbox
    news_of ps e h = subst (λ qs. AllOf IsNews qs) (sym e) h

    lines_of : (es : List (Happened Name)) → t.happened ≡ es → AllOf IsEnding es → AllOf IsEnding t.happened
    lines_of es e h = subst (λ fs. AllOf IsEnding fs) (sym e) h

    news_by : (Sinks K P (Broken Partition) Start t ⊎ Sinks K P (Broken Partition) (marked Start u) t) → AllOf IsNews t.outbox
    unfolding readied
    news_by (inl g) = news_of g.notes.0 g.notes.1 g.notes.2
    news_by (inr g) = news_of g.notes.0 g.notes.1 g.notes.2

    lines_by : (Sinks K P (Broken Partition) Start t ⊎ Sinks K P (Broken Partition) (marked Start u) t) → AllOf IsEnding t.happened
    unfolding readied
    lines_by (inl g) = lines_of g.lines.0 g.lines.1 g.lines.2
    lines_by (inr g) = lines_of g.lines.0 g.lines.1 g.lines.2

    leads_by : (Sinks K P (Broken Partition) Start t ⊎ Sinks K P (Broken Partition) (marked Start u) t) → (z : Value Name) → SameOrGone (leads_in script honest v Start z) (leads_in script honest v t z)
    unfolding readied
    leads_by (inl g) z = leads_on script honest P v Partition Start t g z
    leads_by (inr g) z = gone_then (leads_in script honest v Start z) (leads_in script honest v (marked Start u) z) (leads_in script honest v t z)
        (subst (λ c. SameOrGone (leads_in script honest v Start z) c) (sym (leads_marks script honest v u Start own other z)) (past_same v u (leads_in script honest v Start z)))
        (leads_on script honest P v Partition (marked Start u) t g z)

    leading_by : (q : ℕ) (z : Value Name) → middle.Put v s t x.vats q → SameOrGone (leads_at script honest q (slice_get (put_at v s x.vats) q) z) (leads_at script honest q (slice_get (put_at v t x.vats) q) z)
    unfolding leads_at
    leading_by q z (inl g) = subst (λ o. SameOrGone (leads_at script honest q o z) (leads_at script honest q (slice_get (put_at v t x.vats) q) z)) (sym g.1) (subst (λ o. SameOrGone (leads_in script honest q s z) (leads_at script honest q o z)) (sym g.2)
        (subst (λ a. SameOrGone (leads_in script honest a s z) (leads_in script honest a t z)) (sym g.0) (subst (λ c. SameOrGone c (leads_in script honest v t z)) (start_leads z) (leads_by h.1 z))))
    leading_by q z (inr g) = inl (ap (λ o. leads_at script honest q o z) g)

    leading : (q : ℕ) (z : Value Name) → SameOrGone (leads script honest x.vats x.links q z) (leads script honest (put_at v t x.vats) (push_all v t.outbox x.links) q z)
    unfolding leads
    leading q z = subst (λ vs. SameOrGone (leads_at script honest q (slice_get vs q) z) (leads_at script honest q (slice_get (put_at v t x.vats) q) z)) (put_same x.vats v s there) (leading_by q z (put_either v s t x.vats q))

    pub puts_news : AllOf IsNews t.outbox
    puts_news = news_by h.1

    pub tells_ends : AllOf IsEnding t.happened
    tells_ends = lines_by h.1

    pub breaks_in_order : (head : List Event) → BreaksInOrder script honest x (Then x v head t) v s
    unfolding ways ways_of amid
    breaks_in_order head = record {
      references = references;
      places = places;
      leading = leading;
      apart = λ l f. apart_same script honest P x.vats x.links v Partition s t there (entries_by h.1) (queue_by h.1) (news_by h.1) l f;
      queue = ((queue_by h.1).0, queue_more script honest P x.vats x.links v Partition s t there (entries_by h.1) (queue_by h.1) (news_by h.1), (queue_by h.1).2);
      held = λ p. falls script honest P x.vats x.links v Partition s t there (entries_by h.1) (queue_by h.1) (news_by h.1) p;
    }

-- ---- where the two are honest, and the link between them is cut

module _ (script : Script) (honest : ℕ → Bool) (x : World) (v u : ℕ) (s : Vat Name) (here : honest v ≡ true) (far : honest u ≡ true) (cut : IsCutThere v u x.links) where
  over_cut : (n : Name) (l : Link) (c d : Bool) → c ≡ true → d ≡ true → elim c [ true ↦ elim d [ true ↦ Nowhere | false ↦ leads script honest (put_at v (readied x s) x.vats) x.links u (Ref n) ] | false ↦ Free ] ≡ Nowhere
  over_cut n l true true e f = refl
  over_cut n l true false e f = absurd (true_false (sym f))
  over_cut n l false d e f = absurd (true_false (sym e))

  both_honest : (l : Link) → link_at v u x.links ≡ Some l → is_honest script honest l ≡ true
  unfolding is_honest
  both_honest l e = let ends = found_ends v u x.links l e in ap (λ a. honest a && honest l.to) ends.0 ∙ ap (λ b. honest v && honest b) ends.1 ∙ ap (λ c. c && honest u) here ∙ far

  shut_by : (n : Name) (o : Option Link) → link_at v u x.links ≡ o → elim o [ Some l ↦ over script honest (put_at v (readied x s) x.vats) x.links u n l | None ↦ Nowhere ] ≡ Nowhere
  unfolding over
  shut_by n (Some l) e = over_cut n l (is_honest script honest l) l.cut (both_honest l e) (cut l e)
  shut_by n None e = refl

  pub shut : (n : Name) → (WaysAmid script honest x v (readied x s)).onward (Way v u) n ≡ Nowhere
  unfolding ways ways_of amid onward_at readied push_all
  shut n = shut_by n (link_at v u x.links) refl

-- ---- in a run

-- The vat that notices, what becomes of it and what it tells: that names settled, and that messages are lost.
pub record IsNotice (script : Script) (honest : ℕ → Bool) (x y : World) (v u : ℕ) : Type 0 where
  pub vat : Vat Name
  pub there : slice_get x.vats v ≡ Some vat
  pub after : Vat Name
  pub entry : ℕ
  pub to : Then x v (NoticedAt entry v u ∷ []) after ≡ y
  pub news : AllOf IsNews after.outbox
  pub lines : AllOf IsEnding after.happened
  pub order : BreaksInOrder script honest x y v vat

module _ (script : Script) (once : KnowsOnce script) (w x y : World) (es : List Entry) (k v u : ℕ) (follow : NoticesFollowCuts (es ++ NoticeLink v u ∷ []))
    (opened : open_from script zero script.vats (begins script) ≡ Goes w) (steps : steps_from script es k w ≡ Goes x) (ahead : steps_from script (es ++ NoticeLink v u ∷ []) k w ≡ Goes y)
    (honest : ℕ → Bool) (here : honest v ≡ true) (far : honest u ≡ true) where
  abbrev Result : World → Type 0
  Result z = IsNotice script honest x z v u

  before : NoticesFollowCuts es
  before = notices_front script [] es (NoticeLink v u ∷ []) follow

  module _ (s : Vat Name) (there : slice_get x.vats v ≡ Some s) where
    abbrev Begins : Vat Name
    Begins = readied x s

    first : Sound (names script v) (IsReacting s) v s
    first = sound_in script once w x es k before opened steps v s there

    sound : Sound (names script v) (IsReacting s) v Begins
    sound = ready_sound script (IsReacting s) x v s first

    ready : Ready script honest x v Begins
    ready = (vats_are_ready script once).1 w x es k opened steps honest v s s.queue there

    -- the vat after it, and what the links were
    module _ (t : Vat Name) (j : ℕ) (gives : notice (names script v) u Begins ≡ Gives tt t) (to : Then x v (NoticedAt j v u ∷ []) t ≡ y) where
      then_there : slice_get y.vats v ≡ Some t
      then_there = subst (λ z. slice_get z.vats v ≡ Some t) to (get_put x.vats v s t there)

      marked_then : is_in u t.noticed ≡ true
      marked_then = subst (λ d. AfterGives (λ (r : Vat Name). is_in u r.noticed ≡ true) d) gives (notice_marks (names script v) u Begins)

      sure : (v ≡ u → ⊥) × IsCutThere v u y.links × IsCutThere u v y.links
      sure = noticed_links_cut script once w y (es ++ NoticeLink v u ∷ []) k follow opened ahead v t then_there u marked_then

      cut_before : IsCutThere v u x.links
      cut_before l e = go l.cut refl
        where
          go : (c : Bool) → l.cut ≡ c → c ≡ true
          go true f = refl
          go false f = let open_then = all_there false v u v t.outbox x.links (l, e, f) in
              absurd (true_false (sym (subst (λ z. IsCutThere v u z.links) (sym to) sure.1 open_then.0 open_then.1) ∙ open_then.2))

      broke_so : Noticed script honest x v u s there first.number sure.0 t
      unfolding readied
      broke_so = subst (λ d. IfGives (λ r. noticing.Noticed script honest x v s there (IsReacting s) u sure.0 Begins (sound, ready) (shut script honest x v u s here far cut_before) (hosts script once w x es k before opened steps v s there) (gifts_own script once w x es k before opened steps v s there) r) d) gives
          (notice_kept script honest x v s there (IsReacting s) u sure.0 Begins (sound, ready) (shut script honest x v u s here far cut_before) (hosts script once w x es k before opened steps v s there) (gifts_own script once w x es k before opened steps v s there))

      result : Result y
      result = record {
        vat = s;
        there = there;
        after = t;
        entry = j;
        to = to;
        news = puts_news script honest x v u s there first.number sure.0 t broke_so;
        lines = tells_ends script honest x v u s there first.number sure.0 t broke_so;
        order = subst (λ z. BreaksInOrder script honest x z v s) to (breaks_in_order script honest x v u s there first.number sure.0 t broke_so (NoticedAt j v u ∷ []));
      }

    ended : (j i : ℕ) (d : Done Name (Unit {0})) → notice (names script v) u Begins ≡ d → world.put_back v x (NoticedAt j v u ∷ []) i d ≡ Goes y → Result y
    unfolding world.put_back
    ended j i (Gives a t) e f = result t j e (goes_is (Then x v (NoticedAt j v u ∷ []) t) y f)
    ended j i other e f = cc

  found : (o : Option (Vat Name)) (j i : ℕ) → slice_get x.vats v ≡ o → world.within v x (NoticedAt j v u ∷ []) i (notice (names script v) u) o ≡ Goes y → Result y
  unfolding world.within
  found (Some s) j i e f = ended s e j i (notice (names script v) u (readied x s)) refl f
  found None j i e f = cc

  stepped : (j : ℕ) → step script (NoticeLink v u) j x ≡ Goes y → Result y
  unfolding step
  stepped j e = found (slice_get x.vats v) j (world.step_number script j) refl e

  pub in_order : Result y
  in_order = let next = next_step script (NoticeLink v u) x y es k w steps ahead in stepped next.0 next.1

pub notices_keep_order : NoticesKeepOrderInRuns
notices_keep_order script once w x y es k v u follow opened steps ahead honest here far = let so = in_order script once w x y es k v u follow opened steps ahead honest here far in (so.vat, so.there, so.order)
