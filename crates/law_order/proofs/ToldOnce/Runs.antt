-- In every run a vat is told once where a name settled.
use Rattle.std.proofs.Common.{◌≡◌, ℕ, zero, suc, ◌+◌, ◌≤◌, Bool, true, false, List, [], ◌∷◌, ◌++◌, Option, Some, None, refl, sym, ap, subst, ◌∙◌, ◌⊎◌, inl, inr, append-nil, map, arith}
use Rattle.std.specs.Prelude.{slice_get}
use Rattle.def_machine.specs.Values.{Name, Gift, Naming, naming}
use Rattle.def_machine.specs.State.{Note, Ask, Vat, is_in, begun}
use Rattle.def_machine.specs.Refs.{entry_of}
use Rattle.law_machine.specs.Machine.Laws.{SettledStays}
use Rattle.law_machine.specs.Machine.Steps.{Receives}
use Rattle.def_run.specs.Draws.{draw_word}
use Rattle.def_run.specs.World as world
use Rattle.def_run.specs.World.{Script, Program, Entry, Link, World, Goes as Going, link_at, with_link, with_notes, severed_link, push_all, put_at, names_of, read_note, readied}
use Rattle.law_fate.specs.Name.Names.{AllOf, IsAmong, Once, NoteOk, Everywhere}
use Rattle.law_fate.specs.Name.Runs.{KnowsOnce}
use Rattle.law_fate.proofs.Name.Among.{all_among, get_put}
use Rattle.law_fate.proofs.Name.Facts.{all_map}
use Rattle.law_fate.proofs.Name.Run.{Told as Made}
use Rattle.law_reference.specs.Reference.Cuts.{NoticesFollowCuts}
use Rattle.law_reference.specs.Reference.ListRingless.{IsNamed}
use Rattle.law_reference.specs.Reference.Logs as wire
use Rattle.law_reference.proofs.Reference.ApartWhole.{known_once}
use Rattle.law_reference.proofs.Reference.AnswerLinks.{AtLink, with_any, push_others}
use Rattle.law_reference.proofs.Reference.Follow.{put_cases, eq_dec}
use Rattle.law_reference.proofs.Reference.LinksCut.{fits_notes, fits_severed}
use Rattle.law_reference.proofs.Reference.Moves.{Moved, Still, Severs, Drops, Steps, Arrives, Does}
use Rattle.law_reference.proofs.Reference.NotesLift as lift
use Rattle.law_reference.proofs.Reference.SingleRuns as answers
use Rattle.law_frame.specs.Frame.Asked.{AsksOf, told_in}
use Rattle.law_frame.specs.Frame.Tables.{arrived}
use Rattle.law_frame.proofs.Frame.Exported.{among_split}
use Rattle.law_frame.proofs.Frame.Grow.{questions_twice}
use Rattle.law_frame.proofs.Frame.LinksGo.{Splits, LinkGoes, FoundFrom}
use Rattle.law_frame.proofs.Frame.LinksKnown.{AsksOwn, at_link}
use Rattle.law_frame.proofs.Frame.OrderRuns.{found_all, differ_once}
use Rattle.law_frame.proofs.Frame.SourceLaws.{log_is, asks_in}
use Rattle.law_frame.proofs.Frame.Sources.{waiting_logged}
use Rattle.law_frame.proofs.Frame.WireArrivals.{arrived_is}
use Rattle.law_frame.proofs.Frame.Worlds.{asker}
use Rattle.law_frame.proofs.Heard.Bare.{Bare}
use Rattle.law_frame.proofs.Heard.Lift.{opened_holds, stepped_holds}
use Rattle.law_frame.proofs.Heard.Moves.{goes_of}
use Rattle.law_frame.proofs.Heard.Open.{some_is}
use Rattle.law_frame.proofs.Heard.Pending.{Alone, AsksFor, Unheard, sent, splits, stands, wires, told_not}
use Rattle.law_frame.proofs.Heard.Runs.{opened_worldly, stepped_worldly, opening_pair, entry_pair}
use Rattle.law_frame.proofs.Heard.Steps.{Worldly, Onward}
use Rattle.law_frame.proofs.Steady.Again.{once_both, once_apart}
use Rattle.law_frame.proofs.Steady.AskOnce.{AllAskedOnce}
use Rattle.law_frame.proofs.Steady.AskSteps.{Known as Asking, asked_on}
use Rattle.law_order.specs.ToldOnce.Told.{news_in, ToldOnce, EachIsToldOnce}
use Rattle.law_order.proofs.ToldOnce.Puts.{notes_to, news_to, news_twice, news_named, all_to, Logs, push_logs}
use Rattle.law_order.proofs.ToldOnce.Telling as telling
use Rattle.law_order.proofs.ToldOnce.Telling.{ToldOf}
use Rattle.law_order.proofs.ToldOnce.Arriving as arriving
use Rattle.law_order.proofs.ToldOnce.Steps.{alone_tells, note_tells, LateBy, IsBareOf}

module _ (script : Script) where
  abbrev N : ℕ → Naming Name Name
  N u = naming (draw_word script.key) u

  abbrev SettledIn : ℕ → ℕ → Vat Name → Name → Type 0
  SettledIn u v s n = telling.IsSettledIn (N u) v s n

  -- ---- what is kept

  -- of a gift for which u asks its host g by a note under way, g told it nothing
  abbrev pub UntoldWhereLate : World → Type 0
  UntoldWhereLate w = (u g i : ℕ) → (u ≡ g → ⊥) → (m : Link) → link_at u g w.links ≡ Some m → m.cut ≡ false → AsksFor u g i w → Unheard g i m
      → (l : Link) → link_at g u w.links ≡ Some l → (n : Note Name) → IsAmong n l.log → IsAmong (Gift g i) (told_in n) → ⊥

  record Kept (w : World) : Type 0 where
    once : ToldOnce w
    settled : (u v : ℕ) (l : Link) (s : Vat Name) → link_at u v w.links ≡ Some l → slice_get w.vats u ≡ Some s → (n : Name) → IsAmong n (news_in l.log) → SettledIn u v s n
    distinct : (u : ℕ) (s : Vat Name) → slice_get w.vats u ≡ Some s → AllOf ToldOf s.known
    late : UntoldWhereLate w
    asked : AllAskedOnce w

  -- what is known of the worlds of a run
  record Past (w : World) : Type 0 where
    worldly : Worldly script w
    asking : Asking script w

  -- ---- a link from u to v goes on

  -- the log has these notes more at its end: of the names of which they tell that they settled none was told before
  record On (x y : World) (u v : ℕ) (m : Link) : Type 0 where
    link : Link
    before : link_at u v x.links ≡ Some link
    goes : LinkGoes link m
    more : List (Note Name)
    log : m.log ≡ link.log ++ more
    once : Once {A = Name} (news_in more)
    apart : (n : Name) → IsAmong n (news_in link.log) → IsAmong n (news_in more) → ⊥
    settled : (s : Vat Name) → slice_get y.vats u ≡ Some s → (n : Name) → IsAmong n (news_in more) → SettledIn u v s n
    vat : (s : Vat Name) → slice_get y.vats u ≡ Some s → (r : Vat Name) × (slice_get x.vats u ≡ Some r) × SettledStays (N u) r s
    bare : (i : ℕ) → (v ≡ u → ⊥) → Alone v u i y.vats y.links → AllOf (λ (n : Note Name). IsAmong (Gift u i) (told_in n) → ⊥) more

  module _ (x y : World) (h : Kept x) (on : (u v : ℕ) (m : Link) → link_at u v y.links ≡ Some m → On x y u v m) where
    once_on : ToldOnce y
    once_on u v m at = let o = on u v m at in
        subst (λ (ns : List Name). Once ns) (sym (ap news_in o.log ∙ news_twice o.link.log o.more)) (once_both (news_in o.link.log) (news_in o.more) (h.once u v o.link o.before) o.once o.apart)

    settled_on : (u v : ℕ) (m : Link) (s : Vat Name) → link_at u v y.links ≡ Some m → slice_get y.vats u ≡ Some s → (n : Name) → IsAmong n (news_in m.log) → SettledIn u v s n
    settled_on u v m s at there n a = go (among_split n (news_in o.link.log) (news_in o.more) (subst (IsAmong n) (ap news_in o.log ∙ news_twice o.link.log o.more) a))
      where
        o : On x y u v m
        o = on u v m at

        go : IsAmong n (news_in o.link.log) ⊎ IsAmong n (news_in o.more) → SettledIn u v s n
        go (inl b) = let r = o.vat s there in telling.stays_settled (N u) v r.0 s r.2 n (h.settled u v o.link r.0 o.before r.1 n b)
        go (inr b) = o.settled s there n b

    module _ (pair : Onward script x y) (of : Worldly script y) where
      late_on : UntoldWhereLate y
      late_on u g i other m at uncut asks unheard l back n a told = go (among_split n o.link.log o.more (subst (IsAmong n) o.log a))
        where
          o : On x y g u l
          o = on g u l back

          was : On x y u g m
          was = on u g m at

          unheard_before : Unheard g i was.link
          unheard_before b = let r = asker g (Gift g i) (arrived (Some was.link)) b in let goes = was.goes in unheard (asks_in g (Gift g i) (arrived (Some m)) r.0 (goes.arrivals uncut r.0 r.1) r.2)

          alone : Alone u g i y.vats y.links
          alone = of.late u g i other m at uncut asks unheard

          go : IsAmong n o.link.log ⊎ IsAmong n o.more → ⊥
          go (inl b) = let goes = was.goes in h.late u g i other was.link was.before (goes.uncut uncut) (pair.1 u g o.link o.before n (Gift g i) b told asks) unheard_before o.link o.before n b told
          go (inr b) = all_among (λ (k : Note Name). IsAmong (Gift g i) (told_in k) → ⊥) o.more n (o.bare i other alone) b told

  -- ---- links that nothing is put on

  first_logs : (x : World) (u v : ℕ) (l : Link) → link_at u v x.links ≡ Some l → AtLink u v (Logs u v l.log) x.links
  first_logs x u v l at = λ k e. ap (λ (j : Link). j.log) (some_is k l (sym e ∙ at))

  taken_logs : (u v : ℕ) (log : List (Note Name)) (c d : ℕ) (ns : List (Note Name)) (ls : List Link) → AtLink u v (Logs u v log) ls → AtLink u v (Logs u v log) (with_link (with_notes ns) c d ls)
  unfolding with_notes
  taken_logs u v log c d ns ls g = with_any u v c d (Logs u v log) (with_notes ns) (fits_notes u v ns) ls (λ l e i j. g l e) (λ l e f. g l e)

  cut_logs : (u v : ℕ) (log : List (Note Name)) (c d : ℕ) (ls : List Link) → AtLink u v (Logs u v log) ls → AtLink u v (Logs u v log) (with_link severed_link c d ls)
  unfolding severed_link
  cut_logs u v log c d ls g = with_any u v c d (Logs u v log) severed_link (fits_severed u v) ls (λ l e i j. g l e) (λ l e f. g l e)

  -- ---- a move

  module _ (x y : World) (f : Past x) (h : Kept x) (move : Moved script x y) where
    asked_once_on : Past y → AllAskedOnce y
    asked_once_on g u v = asked_on script x y f.asking g.asking u v (h.asked u v) move

    was : (u v : ℕ) (m : Link) → link_at u v y.links ≡ Some m → FoundFrom x.links u v m
    was u v m at = let w = f.worldly in goes_of script x y (splits script x w.facts) move u v m at

    -- nothing was put there
    quiet : (u v : ℕ) (m : Link) (at : link_at u v y.links ≡ Some m) → ((log : List (Note Name)) → AtLink u v (Logs u v log) x.links → AtLink u v (Logs u v log) y.links)
        → ((s : Vat Name) → slice_get y.vats u ≡ Some s → (r : Vat Name) × (slice_get x.vats u ≡ Some r) × SettledStays (N u) r s) → On x y u v m
    unfolding news_in
    quiet u v m at logs vat = let l = was u v m at in record {
      link = l.0;
      before = l.1;
      goes = l.2;
      more = [];
      log = logs l.0.log (first_logs x u v l.0 l.1) m at ∙ sym (append-nil l.0.log);
      once = tt;
      apart = λ n a b. b;
      settled = λ s there n a. absurd a;
      vat = vat;
      bare = λ i other alone. tt;
    }

    same_vat : (u : ℕ) (s r : Vat Name) → slice_get x.vats u ≡ Some r → r ≡ s → (z : Vat Name) × (slice_get x.vats u ≡ Some z) × SettledStays (N u) z s
    same_vat u s r there e = (r, there, λ n k z i j. ap (λ (q : Vat Name). entry_of (N u) q.known n) (sym e) ∙ i)

    vats_same : y.vats ≡ x.vats → (u : ℕ) (s : Vat Name) → slice_get y.vats u ≡ Some s → (r : Vat Name) × (slice_get x.vats u ≡ Some r) × SettledStays (N u) r s
    vats_same e u s there = same_vat u s s (subst (λ us. slice_get us u ≡ Some s) e there) refl

  -- vat a goes on to t, from s, by these links
  module _ (x y : World) (f : Past x) (g : Past y) (h : Kept x) (move : Moved script x y) (a : ℕ) (s t : Vat Name) (there : slice_get x.vats a ≡ Some s) (ls : List Link) (vats : y.vats ≡ put_at a t x.vats) (links : y.links ≡ push_all a t.outbox ls)
      (logs : (u v : ℕ) (log : List (Note Name)) → AtLink u v (Logs u v log) x.links → AtLink u v (Logs u v log) ls) (Late : ℕ → Name → Type 0)
      (told : (v : ℕ) → arriving.Told (draw_word script.key) a v (Late v) (readied x s) t)
      (late : (v : ℕ) (l : Link) → link_at a v x.links ≡ Some l → (n : Name) → Late v n → IsAmong n (news_in l.log) → ⊥) where
    placed : slice_get y.vats a ≡ Some t
    placed = ap (λ us. slice_get us a) vats ∙ get_put x.vats a s t there

    stays : (v : ℕ) → SettledStays (N a) s t
    unfolding readied
    stays v = let k = told v in k.stays

    vat : (u : ℕ) (r : Vat Name) → slice_get y.vats u ≡ Some r → (z : Vat Name) × (slice_get x.vats u ≡ Some z) × SettledStays (N u) z r
    vat u r e = go (put_cases a t x.vats u r (subst (λ us. slice_get us u ≡ Some r) vats e))
      where
        go : ((u ≡ a) × (t ≡ r)) ⊎ ((u ≡ a → ⊥) × (slice_get x.vats u ≡ Some r)) → (z : Vat Name) × (slice_get x.vats u ≡ Some z) × SettledStays (N u) z r
        go (inl i) = (s, ap (λ c. slice_get x.vats c) i.0 ∙ there, subst (λ (z : Vat Name). SettledStays (N u) s z) i.1 (subst (λ (c : ℕ). SettledStays (N c) s t) (sym i.0) (stays zero)))
        go (inr i) = (r, i.1, λ n k z j o. j)

    distinct_ready : AllOf ToldOf s.known → telling.Distinct (N a) zero (readied x s)
    unfolding readied
    distinct_ready k = k

    distinct_on : (u : ℕ) (r : Vat Name) → slice_get y.vats u ≡ Some r → AllOf ToldOf r.known
    distinct_on u r e = go (put_cases a t x.vats u r (subst (λ us. slice_get us u ≡ Some r) vats e))
      where
        go : ((u ≡ a) × (t ≡ r)) ⊎ ((u ≡ a → ⊥) × (slice_get x.vats u ≡ Some r)) → AllOf ToldOf r.known
        go (inl i) = let k = told zero in subst (λ (z : Vat Name). AllOf ToldOf z.known) i.1 (k.distinct (distinct_ready (h.distinct a s there)))
        go (inr i) = h.distinct u r i.1

    module _ (v : ℕ) (m : Link) (at : link_at a v y.links ≡ Some m) where
      found : FoundFrom x.links a v m
      found = was x y f h move a v m at

      says : arriving.Says (draw_word script.key) a v (Late v) (readied x s) t
      says = let k = told v in k.says (distinct_ready (h.distinct a s there))

      none_put : news_to v (let r : Vat Name = readied x s in r.outbox) ≡ []
      unfolding readied notes_to news_in
      none_put = refl

      news_are : news_to v t.outbox ≡ says.names
      news_are = says.told ∙ ap (λ ns. ns ++ says.names) none_put

      settled_before : (n : Name) → SettledIn a v s n → telling.IsSettledIn (N a) v (readied x s) n
      unfolding readied
      settled_before n k = k

      mine : On x y a v m
      mine = record {
        link = found.0;
        before = found.1;
        goes = found.2;
        more = notes_to v t.outbox;
        log = subst (λ ks. AtLink a v (Logs a v (found.0.log ++ notes_to v t.outbox)) ks) (sym links) (push_logs a v found.0.log t.outbox ls (logs a v found.0.log (first_logs x a v found.0 found.1))) m at;
        once = subst (λ (ns : List Name). Once ns) (sym news_are) says.once;
        apart = λ n old new. go n old (says.fresh n (subst (IsAmong n) news_are new));
        settled = λ r e n new. subst (λ (z : Vat Name). SettledIn a v z n) (some_is t r (sym placed ∙ e)) (says.settled n (subst (IsAmong n) news_are new));
        vat = vat a;
        bare = λ i other alone. all_to (λ n. IsAmong (Gift a i) (told_in n) → ⊥) v t.outbox (let b = alone.bare a t (λ e. other (sym e)) placed in all_map (λ p o. told_not a i a p.note o.0) t.outbox b.outbox);
      }
        where
          go : (n : Name) → IsAmong n (news_in found.0.log) → Late v n ⊎ (telling.IsSettledIn (N a) v (readied x s) n → ⊥) → ⊥
          go n old (inl k) = late v found.0 found.1 n k old
          go n old (inr k) = k (settled_before n (h.settled a v found.0 s found.1 there n old))

    other_logs : (u v : ℕ) → (u ≡ a → ⊥) → (log : List (Note Name)) → AtLink u v (Logs u v log) x.links → AtLink u v (Logs u v log) y.links
    other_logs u v o log k = subst (λ ks. AtLink u v (Logs u v log) ks) (sym links) (push_others u v a (Logs u v log) t.outbox ls o (logs u v log k))

    on_all : (u v : ℕ) (m : Link) → link_at u v y.links ≡ Some m → On x y u v m
    on_all u v m at = go (eq_dec u a)
      where
        go : (u ≡ a) ⊎ (u ≡ a → ⊥) → On x y u v m
        go (inl e) = subst (λ (c : ℕ). On x y c v m) (sym e) (mine v m (subst (λ (c : ℕ). link_at c v y.links ≡ Some m) e at))
        go (inr o) = quiet x y f h move u v m at (other_logs u v o) (vat u)

    stepped : Onward script x y → Kept y
    stepped pair = record {
      once = once_on x y h on_all;
      settled = settled_on x y h on_all;
      distinct = distinct_on;
      late = late_on x y h on_all pair g.worldly;
      asked = asked_once_on x y f h move g;
    }

  -- ---- a note that arrives

  module _ (x : World) (f : Past x) (h : Kept x) (a v : ℕ) (s t : Vat Name) (n : Note Name) (ns : List (Note Name)) (l : Link) (at : link_at a v x.links ≡ Some l) (uncut : l.cut ≡ false) (notes : l.notes ≡ n ∷ ns) (there : slice_get x.vats v ≡ Some s) where
    abbrev W : Worldly script x
    W = f.worldly

    split : (front : List (Note Name)) × (l.log ≡ front ++ l.notes)
    split = let k = at_link Splits a v l x.links (splits script x W.facts) at in k.0 uncut

    logged : IsAmong n l.log
    logged = waiting_logged n ns l notes split

    other : a ≡ v → ⊥
    other e = W.facts.alone a l (subst (λ c. link_at a c x.links ≡ Some l) (sym e) at)

    own : AsksOwn v n
    own = let k = sent script x W.facts a v l at n logged in k.0

    made : NoteOk (Made script x) n
    made = let all = found_all (λ (j : Link). AllOf (NoteOk (Made script x)) j.notes) a v l x.links (let k = stands script x W.facts in k.links) at in let first : AllOf (NoteOk (Made script x)) (n ∷ ns) = subst (λ ms. AllOf (NoteOk (Made script x)) ms) notes all in first.0

    -- it asks for a gift, and its asking has not arrived
    module _ (i : ℕ) (asks : AsksOf v n (Gift v i)) where
      asks_for : AsksFor a v i x
      unfolding wire.questions
      asks_for = subst (λ ms. IsAmong (Gift v i) (wire.questions_in v ms)) (sym (log_is l (link_at a v x.links) at)) (asks_in v (Gift v i) l.log n logged asks)

      asked_once : Once {A = Name} (wire.questions_in v l.log)
      unfolding wire.questions
      asked_once = subst (λ ms. Once {A = Name} (wire.questions_in v ms)) (log_is l (link_at a v x.links) at) (h.asked a v)

      both_once : Once {A = Name} (wire.questions_in v split.0 ++ wire.questions_in v l.notes)
      both_once = subst (λ (qs : List Name). Once qs) (ap (wire.questions_in v) split.1 ∙ questions_twice v split.0 l.notes) asked_once

      unheard : Unheard v i l
      unheard b = once_apart (wire.questions_in v split.0) (wire.questions_in v l.notes) (Gift v i) both_once (subst (λ ms. IsAmong (Gift v i) (wire.questions_in v ms)) (arrived_is l split.0 split.1) b)
          (asks_in v (Gift v i) l.notes n (subst (IsAmong n) (sym notes) (inl refl)) asks)

      alone : Alone a v i x.vats x.links
      alone = W.late a v i other l at uncut asks_for unheard

      bare_there : Everywhere (Bare v i v) s
      bare_there = alone.bare v s (λ e. other (sym e)) there

      untold : (k : Link) → link_at v a x.links ≡ Some k → IsAmong (Gift v i) (news_in k.log) → ⊥
      untold k back b = let r = news_named (Gift v i) k.log b in h.late a v i other l at uncut asks_for unheard k back r.0 r.1 r.2

    bare_of : (k : Note Name) → k ≡ n → NoteOk (Made script x) k → AsksOwn v k → IsBareOf script x v a s k
    bare_of (Ask p i z) e m o = (m.0.0, bare_there i (subst (λ j. AsksOf v j (Gift v i)) e o))
    bare_of other e m o = tt

    late_of : (k : Note Name) → k ≡ n → AsksOwn v k → (u : ℕ) (j : Link) → link_at v u x.links ≡ Some j → (z : Name) → LateBy script x v u a k z → IsAmong z (news_in j.log) → ⊥
    late_of (Ask p i c) e o u j back z q b = untold i (subst (λ k. AsksOf v k (Gift v i)) e o) j (subst (λ (w : ℕ). link_at v w x.links ≡ Some j) q.1 back) (subst (λ (m : Name). IsAmong m (news_in j.log)) q.0 b)
    late_of other e o u j back z q b = q

    number : s.number ≡ v
    number = let k = (stands script x W.facts).vats v s there in let kept = k.kept in kept.number

    named : AllOf (IsNamed v) s.gifts
    named = let k = wires script x W.facts in all_map (λ g q. q.0) s.gifts (k.gifts v s there)

    tells : (u : ℕ) → Does script x v s s t (Receives a (read_note (names_of s) n)) → arriving.Told (draw_word script.key) v u (LateBy script x v u a n) (readied x s) t
    tells u d = note_tells script x v u a s t n number named (bare_of n refl made own) d

  -- a queue is read as the vat that takes from it
  ready_told : (x : World) (a v : ℕ) (s q t : Vat Name) → q.known ≡ s.known → (Late : Name → Type 0) → arriving.Told (draw_word script.key) a v Late (readied x q) t → arriving.Told (draw_word script.key) a v Late (readied x s) t
  unfolding readied notes_to news_in
  ready_told x a v s q t e Late k = record {
    stays = λ n j z i o. k.stays n j z (ap (λ ks. entry_of (N a) ks n) e ∙ i) o;
    distinct = λ d. k.distinct (rw e d);
    says = λ d. (let c = k.says (rw e d) in record { names = c.names; told = c.told; once = c.once; fresh = λ n b. fresh n (c.fresh n b); settled = c.settled });
  }
    where
      fresh : (n : Name) → Late n ⊎ (telling.IsSettledIn (N a) v (readied x q) n → ⊥) → Late n ⊎ (telling.IsSettledIn (N a) v (readied x s) n → ⊥)
      fresh n (inl c) = inl c
      fresh n (inr c) = inr (λ b. c (b.0, rw e b.1))

  moved : (x y : World) → Past x → Past y → Onward script x y → Kept x → Kept y
  moved x y f g pair h = go pair.0
    where
      held : (move : Moved script x y) → ((u : ℕ) (s : Vat Name) → slice_get y.vats u ≡ Some s → slice_get x.vats u ≡ Some s) → ((u v : ℕ) (log : List (Note Name)) → AtLink u v (Logs u v log) x.links → AtLink u v (Logs u v log) y.links) → Kept y
      held move vats logs = let on = λ (u v : ℕ) (m : Link) (at : link_at u v y.links ≡ Some m). quiet x y f h move u v m at (logs u v) (λ s e. (s, vats u s e, λ n k z i j. i)) in record {
        once = once_on x y h on;
        settled = settled_on x y h on;
        distinct = λ u s e. h.distinct u s (vats u s e);
        late = late_on x y h on pair g.worldly;
        asked = asked_once_on x y f h move g;
      }

      go : Moved script x y → Kept y
      go (Still vats links drawn) = held (Still vats links drawn) (λ u s e. subst (λ us. slice_get us u ≡ Some s) vats e) (λ u v log k. subst (λ ks. AtLink u v (Logs u v log) ks) (sym links) k)
      go (Severs a b vats links drawn) = held (Severs a b vats links drawn) (λ u s e. subst (λ us. slice_get us u ≡ Some s) vats e)
          (λ u v log k. subst (λ ks. AtLink u v (Logs u v log) ks) (sym links) (cut_logs u v log b a (with_link severed_link a b x.links) (cut_logs u v log a b x.links k)))
      go (Drops a v n ns l at notes none vats links drawn) = held (Drops a v n ns l at notes none vats links drawn) (λ u s e. subst (λ us. slice_get us u ≡ Some s) vats e)
          (λ u c log k. subst (λ ks. AtLink u c (Logs u c log) ks) (sym links) (taken_logs u c log a v ns x.links k))
      go (Steps v s q t what alone d vats links drawn first fresh) = stepped x y f g h (Steps v s q t what alone d vats links drawn first fresh) v s t d.there x.links vats links (λ u c log k. k) (λ u n. ⊥)
          (λ u. ready_told x v u s q t d.known (λ n. ⊥) (arriving.tells_told (draw_word script.key) v u (λ n. ⊥) (readied x q) t (alone_tells script x v u s q t what alone d))) (λ u l at n k b. k) pair
      go (Arrives a v s t n ns l at cut notes d vats links drawn first fresh) = stepped x y f g h (Arrives a v s t n ns l at cut notes d vats links drawn first fresh) v s t d.there (with_link (with_notes ns) a v x.links) vats links
          (λ u c log k. taken_logs u c log a v ns x.links k) (λ u m. LateBy script x v u a n m)
          (λ u. tells x f h a v s t n ns l at cut notes d.there u d) (λ u j back z q b. late_of x f h a v s t n ns l at cut notes d.there n refl (own x f h a v s t n ns l at cut notes d.there) u j back z q b) pair

  -- ---- the start

  low : (v u : ℕ) (ps : List Program) (w : ℕ) → IsAmong w (world.knowers v u ps) → u ≤ w
  unfolding world.knowers
  low v u [] w a = absurd a
  low v u (p ∷ ps) w a = go (low v (suc u) ps w) (is_in v p.knows) a
    where
      go : (IsAmong w (world.knowers v (suc u) ps) → suc u ≤ w) → (b : Bool) → IsAmong w (elim b [ true ↦ u ∷ world.knowers v (suc u) ps | false ↦ world.knowers v (suc u) ps ]) → u ≤ w
      go f true (inl e) = omega arith
      go f true (inr k) = let r = f k in omega arith
      go f false k = let r = f k in omega arith

  knowers_once : (v u : ℕ) (ps : List Program) → Once {A = ℕ} (world.knowers v u ps)
  unfolding world.knowers
  knowers_once v u [] = tt
  knowers_once v u (p ∷ ps) = go (is_in v p.knows) (knowers_once v (suc u) ps)
    where
      above : suc u ≤ u → ⊥
      above r = absurd (omega arith)

      go : (b : Bool) → Once {A = ℕ} (world.knowers v (suc u) ps) → Once {A = ℕ} (elim b [ true ↦ u ∷ world.knowers v (suc u) ps | false ↦ world.knowers v (suc u) ps ])
      go true k = ((λ a. above (low v (suc u) ps u a)), k)
      go false k = k

  roots_once : (us : List ℕ) → AllOf ToldOf (map world.known_root us)
  unfolding world.known_root begun
  roots_once [] = tt
  roots_once (u ∷ us) = (tt, roots_once us)

  fresh_once : (v : ℕ) (ps : List Program) (i : ℕ) (s : Vat Name) → slice_get (world.fresh_from script v ps) i ≡ Some s → AllOf ToldOf s.known
  unfolding world.fresh_from world.fresh world.known_root begun
  fresh_once v [] i s e = cc
  fresh_once v (p ∷ ps) zero s e = subst (λ (z : Vat Name). AllOf ToldOf z.known) (some_is (world.fresh script v p) s e) (knowers_once v zero script.vats, roots_once p.knows)
  fresh_once v (p ∷ ps) (suc i) s e = fresh_once (suc v) ps i s e

  no_log : (u v : ℕ) (l : Link) → link_at u v (world.links_from script.vats zero script.vats) ≡ Some l → l.log ≡ []
  no_log u v l at = none l.log (found_all (λ (k : Link). AllOf (λ (n : Note Name). ⊥) k.log) u v l ls (all_map (λ (k : Link) o. o.0) ls (lift.links_from_fit (λ a b n. ⊥) script.vats zero script.vats)) at)
    where
      ls : List Link
      ls = world.links_from script.vats zero script.vats

      none : (ns : List (Note Name)) → AllOf (λ (n : Note Name). ⊥) ns → ns ≡ []
      none [] k = refl
      none (n ∷ ns) k = absurd k.0

  none_asked : (u v : ℕ) (o : Option Link) → link_at u v (world.links_from script.vats zero script.vats) ≡ o → Once {A = Name} (wire.questions_in v (wire.log_of o))
  unfolding wire.questions_in wire.log_of
  none_asked u v None e = tt
  none_asked u v (Some l) e = subst (λ ms. Once {A = Name} (wire.questions_in v ms)) (sym (no_log u v l e)) tt

  begins_kept : Kept (world.begins script)
  unfolding world.begins news_in wire.questions
  begins_kept = record {
    once = λ u v l at. subst (λ ms. Once {A = Name} (news_in ms)) (sym (no_log u v l at)) tt;
    settled = λ u v l s at there n a. absurd (subst (λ ms. IsAmong n (news_in ms)) (no_log u v l at) a);
    distinct = λ u s e. fresh_once zero script.vats u s e;
    late = λ u g i other m at uncut asks unheard l back n a told. subst (λ ms. IsAmong n ms) (no_log g u l back) a;
    asked = λ u v. none_asked u v (link_at u v (world.links_from script.vats zero script.vats)) refl;
  }

  -- ---- runs

  module _ (once : KnowsOnce script) where
    opened_past : (ps rest : List Program) (w : World) → script.vats ≡ ps ++ rest → world.open_from script zero ps (world.begins script) ≡ Going w → Past w
    opened_past ps rest w split e = record {
      worldly = opened_worldly script once ps rest w split e;
      asking = record { facts = (opened_worldly script once ps rest w split e).facts; legs = (answers.opened_both script once ps rest w split e).legs; once = differ_once w ((known_once script once).0 ps rest w split e) };
    }

    stepped_past : (w x : World) (es : List Entry) (k : ℕ) → NoticesFollowCuts es → world.open_from script zero script.vats (world.begins script) ≡ Going w → world.steps_from script es k w ≡ Going x → Past x
    stepped_past w x es k follow opened steps = record {
      worldly = stepped_worldly script once w x es k follow opened steps;
      asking = record { facts = (stepped_worldly script once w x es k follow opened steps).facts; legs = (answers.stepped_both script once w x es k opened steps).legs; once = differ_once x ((known_once script once).1 w x es k follow opened steps) };
    }

    opened_kept : (ps rest : List Program) (w : World) → script.vats ≡ ps ++ rest → world.open_from script zero ps (world.begins script) ≡ Going w → Kept w
    opened_kept = opened_holds script Past Past (Onward script) opened_past stepped_past (opening_pair script once) (entry_pair script once) Kept (λ v p x y f g m o h. moved x y f g m h) (λ e k x y f g m i h. moved x y f g m h) begins_kept

    stepped_kept : (w x : World) (es : List Entry) (k : ℕ) → NoticesFollowCuts es → world.open_from script zero script.vats (world.begins script) ≡ Going w → world.steps_from script es k w ≡ Going x → Kept x
    stepped_kept = stepped_holds script Past Past (Onward script) opened_past stepped_past (opening_pair script once) (entry_pair script once) Kept (λ v p x y f g m o h. moved x y f g m h) (λ e k x y f g m i h. moved x y f g m h) begins_kept

pub each_is_told_once : EachIsToldOnce
each_is_told_once script once = (
  λ ps rest w split e. (let k = opened_kept script once ps rest w split e in k.once),
  λ w x es k follow opened steps. (let j = stepped_kept script once w x es k follow opened steps in j.once),
)
