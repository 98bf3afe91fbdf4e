-- In every scene of a run with hostile vats places, takes, losses and arrivals at hostile vats of a message are no more than its sends and the times that frames brought it, and of these there is one at most.
use Rattle.std.proofs.Common.{◌≡◌, ℕ, ◌+◌, ◌≤◌, Bool, true, false, List, [], ◌∷◌, ◌++◌, Option, Some, None, refl, sym, ◌∙◌, ap, subst, length, arith}
use Rattle.std.specs.Prelude.{slice_get, ◌&&◌, not}
use Rattle.def_machine.specs.Values.{Value, Ref, Name, Root}
use Rattle.def_machine.specs.State as state
use Rattle.def_machine.specs.State.{Message, Passed, Passeds, AGift, Many, NoMore, More, Note, Deliver, Open, Ask, SettledTo, Elsewhere, Shorten, Put, Vat, Happened, Posted, Done, Gives, send_out, is_in}
use Rattle.def_machine.specs.Arrive as arrive
use Rattle.def_machine.specs.Arrive.{notice}
use Rattle.def_machine.specs.Eval.{opening}
use Rattle.law_machine.specs.Machine.Steps.{Step, Opens as Starts, Takes, Receives, Notices, does, After}
use Rattle.def_run.specs.Draws.{draw_word}
use Rattle.def_run.specs.World as world
use Rattle.def_run.specs.World.{Script, Program, Opens, Entry, Turn, Carry, CutLink, NoticeLink, Event, Here, LostCut, Turned, Idle, Carried, CutAt, NoticedAt, Link, World, Goes, names, names_of, read_note, readied, put_at, push_all}
use Rattle.def_run.specs.Entered as entering
use Rattle.def_hostile.specs.Hostile as hostile
use Rattle.def_hostile.specs.Hostile.{Play}
use Rattle.law_machine.specs.Run.Moves.{went, without}
use Rattle.law_adversary.specs.Moves.{entered_at, sight_at, placed_from}
use Rattle.law_fate.specs.Name.Names.{Bit, Named, Mail, Drew, At, Off, Entered, Owns, Gave, AllOf, ValueOk, NoteOk, PassedsOk, PassedOk}
use Rattle.law_fate.specs.Fates.Fate.{one, total, among, at_vat, of_note, in_note, on_link, places, sent_by, sent, took_by, takes, lost_by, losses, left_by, leavings, gone, sent_in, put_out, account}
use Rattle.law_fate.specs.Fates.FateLaws.{numbered, Accounted, brought as comes_with}
use Rattle.law_fate.proofs.Fates.RunCounts.{pick, total_append, total_put, all_numbered, numbered_put, push_all_adds, AllApart, with_link_apart, push_all_apart, with_link_changes, with_link_absent, pushed_link, ends_of, ends_told, sends_told, none_left}
use Rattle.law_fate.proofs.Fates.RunAccount.{note_brings, cut_links, cut_line, no_cut_line}
use Rattle.law_fate.proofs.Fates.TurnAccount.{steps_double_none}
use Rattle.law_hostile.specs.Entering.{HoldsOfEntries}
use Rattle.law_hostile.proofs.Comes.{Coming, Passes, Lands, comes}
use Rattle.law_injected.specs.HostileRuns.{IsHostile}
use Rattle.law_hostile_fate.specs.Brought.{where_so, brought_by, arrives_by, brought, arrivals}
use Rattle.law_scenes.proofs.Said.{hear_inert, Speaks, speaks}
use Rattle.law_scenes.specs.Doings.{IsQuiet, IsOwn, Swallowing, Receiving, Saying, Unheard}
use Rattle.law_scenes.proofs.Scenes.{IsKept, put_went, said_history}

-- ---- links of hostile vats

abbrev pub Silent : List ℕ → Link → Type 0
Silent hs l = is_in l.from hs ≡ true → l.notes ≡ []

abbrev pub AllSilent : List ℕ → List Link → Type 0
AllSilent hs ls = AllOf (Silent hs) ls

is_so : (b : Bool) → b ≡ false → b ≡ true → ⊥
is_so b e f = cc

module _ (hs : List ℕ) where
  changed_silent : (f : Link → Link) (v w : ℕ) → ((l : Link) → world.is_link v w l ≡ true → Silent hs l → Silent hs (f l)) → (ls : List Link) → AllSilent hs ls → AllSilent hs (world.with_link f v w ls)
  unfolding world.with_link
  changed_silent f v w g [] h = tt
  changed_silent f v w g (l ∷ ls) h = either (world.is_link v w l) refl (changed_silent f v w g ls h.1)
    where
      either : (b : Bool) → world.is_link v w l ≡ b → AllSilent hs (world.with_link f v w ls) → AllSilent hs (elim b [ true ↦ f l ∷ ls | false ↦ l ∷ world.with_link f v w ls ])
      either true e i = (g l e h.0, h.1)
      either false e i = (h.0, i)

  -- a note of an honest vat
  pushed_from : (n : Note Name) (l : Link) → (is_in l.from hs ≡ true → ⊥) → Silent hs (world.pushed n l)
  unfolding world.pushed
  pushed_from n l o = either l.cut
    where
      either : (b : Bool) → Silent hs (pick b (record l { log = l.log ++ n ∷ [] }) (record l { notes = l.notes ++ n ∷ []; log = l.log ++ n ∷ [] }))
      either true e = absurd (o e)
      either false e = absurd (o e)

  from_is : (v w : ℕ) (l : Link) → world.is_link v w l ≡ true → l.from ≡ v
  from_is v w l e = (ends_of v w l e).0

  pub pushed_silent : (v : ℕ) → (is_in v hs ≡ true → ⊥) → (ps : List (Put Name)) (ls : List Link) → AllSilent hs ls → AllSilent hs (push_all v ps ls)
  unfolding world.push_all
  pushed_silent v o [] ls h = h
  pushed_silent v o (p ∷ ps) ls h = pushed_silent v o ps (world.with_link (world.pushed p.note) v p.to ls) (changed_silent (world.pushed p.note) v p.to (λ l e s. pushed_from p.note l (λ i. o (subst (λ a. is_in a hs ≡ true) (from_is v p.to l e) i))) ls h)

  severed_silent : (v w : ℕ) (ls : List Link) → AllSilent hs ls → AllSilent hs (world.with_link world.severed_link v w ls)
  unfolding world.severed_link
  severed_silent v w ls h = changed_silent world.severed_link v w (λ l e s i. refl) ls h

  first_silent : (v w : ℕ) (ls : List Link) (l : Link) → world.link_at v w ls ≡ Some l → AllSilent hs ls → is_in v hs ≡ true → l.notes ≡ []
  unfolding world.link_at
  first_silent v w [] l e h i = cc
  first_silent v w (k ∷ ls) l e h i = either (world.is_link v w k) refl e (λ f. first_silent v w ls l f h.1 i)
    where
      either : (b : Bool) → world.is_link v w k ≡ b → pick b (Some k) (world.link_at v w ls) ≡ Some l → (world.link_at v w ls ≡ Some l → l.notes ≡ []) → l.notes ≡ []
      either true j f g = let same : k ≡ l = cc in subst (λ (z : Link). z.notes ≡ []) same (h.0 (subst (λ a. is_in a hs ≡ true) (sym (from_is v w k j)) i))
      either false j f g = g f

  -- a note that is put on a link and taken off again
  taken_silent : (n : Note Name) (v w : ℕ) (ls : List Link) → AllSilent hs ls → AllSilent hs (world.with_link (world.with_notes []) v w (world.with_link (world.pushed n) v w ls))
  unfolding world.with_link world.with_notes
  taken_silent n v w [] h = tt
  taken_silent n v w (l ∷ ls) h = either (world.is_link v w l) refl (taken_silent n v w ls h.1)
    where
      again : (b : Bool) → b ≡ true → AllSilent hs (elim b [ true ↦ record (world.pushed n l) { notes = [] } ∷ ls | false ↦ world.pushed n l ∷ world.with_link (λ (k : Link). record k { notes = [] }) v w ls ])
      again true e = (λ i. refl, h.1)
      again false e = cc

      other : (b : Bool) → b ≡ false → AllSilent hs (world.with_link (λ (k : Link). record k { notes = [] }) v w (world.with_link (world.pushed n) v w ls))
          → AllSilent hs (elim b [ true ↦ record l { notes = [] } ∷ world.with_link (world.pushed n) v w ls | false ↦ l ∷ world.with_link (λ (k : Link). record k { notes = [] }) v w (world.with_link (world.pushed n) v w ls) ])
      other true e i = cc
      other false e i = (h.0, i)

      either : (b : Bool) → world.is_link v w l ≡ b → AllSilent hs (world.with_link (λ (k : Link). record k { notes = [] }) v w (world.with_link (world.pushed n) v w ls))
          → AllSilent hs (world.with_link (λ (k : Link). record k { notes = [] }) v w (elim b [ true ↦ world.pushed n l ∷ ls | false ↦ l ∷ world.with_link (world.pushed n) v w ls ]))
      either true e i = again (world.is_link v w (world.pushed n l)) (pushed_link n v w l ∙ e)
      either false e i = other (world.is_link v w l) e i

  -- a note that is put on a link that is cut, or not there
  unheard_silent : (n : Note Name) (v w : ℕ) (ls : List Link) → ((l : Link) → world.link_at v w ls ≡ Some l → l.cut ≡ true) → AllSilent hs ls → AllSilent hs (world.with_link (world.pushed n) v w ls)
  unfolding world.with_link world.link_at world.pushed
  unheard_silent n v w [] c h = tt
  unheard_silent n v w (l ∷ ls) c h = either (world.is_link v w l) c (λ d. unheard_silent n v w ls d h.1)
    where
      logged : (b : Bool) → b ≡ true → Silent hs (pick b (record l { log = l.log ++ n ∷ [] }) (record l { notes = l.notes ++ n ∷ []; log = l.log ++ n ∷ [] }))
      logged true e i = h.0 i
      logged false e i = cc

      either : (b : Bool) → ((k : Link) → pick b (Some l) (world.link_at v w ls) ≡ Some k → k.cut ≡ true) → (((k : Link) → world.link_at v w ls ≡ Some k → k.cut ≡ true) → AllSilent hs (world.with_link (world.pushed n) v w ls))
          → AllSilent hs (elim b [ true ↦ world.pushed n l ∷ ls | false ↦ l ∷ world.with_link (world.pushed n) v w ls ])
      either true d i = (logged l.cut (d l refl), h.1)
      either false d i = (h.0, i d)

-- ---- what a vat did in a step

module _ (x : Name) where
  -- Its places and what became of it are no more than there were, and came, and were sent; and what was sent it numbered.
  record Did (cut : ℕ → Bool) (v came : ℕ) (q t : Vat Name) : Type 0 where
    kept : at_vat x t + put_out cut x t.outbox + gone cut x t.happened ≤ came + at_vat x q + sent_in x t.happened
    fresh : sent_in x t.happened + numbered v q.messages x ≤ numbered v t.messages x

  did_step : (cut : ℕ → Bool) (v came : ℕ) (w : World) (q t : Vat Name) → Accounted cut v x came (readied w q) t → Did cut v came q t
  unfolding account readied at_vat put_out gone sent_in
  did_step cut v came w q t a = let k : at_vat x t + put_out cut x t.outbox + gone cut x t.happened + 0 ≤ came + (at_vat x q + 0 + 0) + sent_in x t.happened = a.kept in
      let f : sent_in x t.happened + numbered v q.messages x ≤ 0 + numbered v t.messages x = a.fresh in record { kept = omega (arith, k); fresh = omega (arith, f) }

  did_quiet : (cut : ℕ → Bool) (v came : ℕ) (q t : Vat Name) → at_vat x t ≡ at_vat x q → t.outbox ≡ [] → t.happened ≡ [] → numbered v q.messages x ≤ numbered v t.messages x → Did cut v came q t
  unfolding put_out gone sent_in
  did_quiet cut v came q t h o e m = let a : put_out cut x t.outbox ≡ 0 = ap (put_out cut x) o in let b : gone cut x t.happened ≡ 0 = ap (gone cut x) e in let c : sent_in x t.happened ≡ 0 = ap (sent_in x) e in
      record { kept = omega (arith, h, a, b, c); fresh = omega (arith, c, m) }

  after_is : (R : Vat Name → Vat Name → Type 0) (s t : Vat Name) (d : Done Name (Unit {0})) → After R s d → d ≡ Gives tt t → R s t
  after_is R s t d h e = let k : After R s (Gives (tt {0}) t) = rw e at h in k

  none_posted : (f : Event → ℕ) (m : Name) → f (LostCut m) ≡ 0 → (b : Bool) → total f (elim b [ true ↦ LostCut m ∷ [] | false ↦ [] ]) ≡ 0
  unfolding total
  none_posted f m h true = omega (arith, h)
  none_posted f m h false = refl

  none_here : (f : Event → ℕ) → ((v : ℕ) (e : Happened Name) → f (Here v e) ≡ 0) → ((m : Name) → f (LostCut m) ≡ 0) → (ls : List Link) (v : ℕ) (e : Happened Name) → total f (world.event_of ls v e) ≡ 0
  unfolding world.event_of total
  none_here f g h ls v (Posted w m) = none_posted f m (h m) (world.is_cut v w ls)
  none_here f g h ls v e = let i = g v e in omega (arith, i)

  pub none_told : (f : Event → ℕ) → ((v : ℕ) (e : Happened Name) → f (Here v e) ≡ 0) → ((m : Name) → f (LostCut m) ≡ 0) → (ls : List Link) (v : ℕ) (es : List (Happened Name)) → total f (world.events_of ls v es) ≡ 0
  unfolding world.events_of total
  none_told f g h ls v [] = refl
  none_told f g h ls v (e ∷ es) = let a = total_append f (world.event_of ls v e) (world.events_of ls v es) in let b = none_here f g h ls v e in let c = none_told f g h ls v es in omega (arith, a, b, c)

where_none : (b : Bool) (n : ℕ) → n ≡ 0 → where_so b n ≡ 0
unfolding where_so
where_none true n e = e
where_none false n e = refl

where_true : (b : Bool) (n : ℕ) → b ≡ true → where_so b n ≡ n
unfolding where_so
where_true true n e = refl
where_true false n e = cc

where_false : (b : Bool) (n : ℕ) → b ≡ false → where_so b n ≡ 0
unfolding where_so
where_false true n e = cc
where_false false n e = refl

not_true : (b : Bool) → (b ≡ true → ⊥) → b ≡ false
not_true true f = absurd (f refl)
not_true false f = refl

and_not : (a b : Bool) → a ≡ true → b ≡ false → (a && not b) ≡ true
and_not true false e f = refl
and_not true true e f = cc
and_not false b e f = cc

first_false : (a b : Bool) → a ≡ false → (a && not b) ≡ false
first_false true b e = cc
first_false false b e = refl

second_true : (a b : Bool) → b ≡ true → (a && not b) ≡ false
second_true true true e = refl
second_true false true e = refl
second_true a false e = cc

module _ (play : Play) (x : Name) where
  abbrev hs : List ℕ
  hs = play.hostile

  abbrev script : Script
  script = play.script

  abbrev Word : ℕ → ℕ
  Word = draw_word script.key

  -- what holds of a world, with so many messages in hand, and so many of which it is still to be told that a frame brings them
  pub record Holds (hand due : ℕ) (w : World) : Type 0 where
    pub kept : places x w + hand + takes x w.history + losses x w.history + arrivals hs x w.history ≤ sent x w.history + brought hs x w.history + due
    pub unlisted : leavings x w.history ≡ 0
    pub fresh : sent x w.history + brought hs x w.history + due ≤ all_numbered x 0 w.vats
    pub apart : AllApart w.links
    pub silent : AllSilent hs w.links

  abbrev pub Fated : World → Type 0
  Fated w = Holds 0 0 w

  -- lines that tell of no message but that so often a frame brings it, or it arrives at a hostile vat
  record Plain (b a : ℕ) (es : List Event) : Type 0 where
    sends : total (sent_by x) es ≡ 0
    takes : total (took_by x) es ≡ 0
    loses : total (lost_by x) es ≡ 0
    leaves : total (left_by x) es ≡ 0
    brings : total (brought_by hs x) es ≡ b
    arrives : total (arrives_by hs x) es ≡ a

  plain_one : (b a : ℕ) (e : Event) → sent_by x e ≡ 0 → took_by x e ≡ 0 → lost_by x e ≡ 0 → left_by x e ≡ 0 → brought_by hs x e ≡ b → arrives_by hs x e ≡ a → Plain b a (e ∷ [])
  unfolding total
  plain_one b a e i j k l m n = record { sends = omega (arith, i); takes = omega (arith, j); loses = omega (arith, k); leaves = omega (arith, l); brings = omega (arith, m); arrives = omega (arith, n) }

  -- what a step of vat v makes of the world
  stepped : (v : ℕ) (w : World) (head : List Event) (hand due b a came : ℕ) (s q t : Vat Name) → slice_get w.vats v ≡ Some s → Holds hand due (record w { vats = put_at v q w.vats }) → q.messages ≡ s.messages → Plain b a head
      → came + a + due ≤ hand + b → b ≤ due → Did x (λ to. world.is_cut v to w.links) v came q t → AllSilent hs (push_all v t.outbox w.links) → Fated (went v w head t)
  unfolding went places sent takes losses leavings brought arrivals brought_by arrives_by
  stepped v w head hand due b a came s q t e h m p room most d quiet =
      let es : List Event = world.events_of w.links v t.happened in
      let before = h.kept in let none = h.unlisted in let fresh = h.fresh in let spent = d.kept in let new = d.fresh in
      let same : numbered v q.messages x ≡ numbered v s.messages x = ap (λ i. numbered v i x) m in
      let at_q = total_put (at_vat x) v w.vats s q e in let at_t = total_put (at_vat x) v w.vats s t e in let numbers = numbered_put x v w.vats s t e in let numbers_q = numbered_put x v w.vats s q e in
      let pushed = push_all_adds x v t.outbox w.links (λ to. world.is_cut v to w.links) (λ to. refl) in
      let ends = ends_told w.links v x t.happened in let sends = sends_told w.links v x t.happened in let leaves = none_left w.links v x t.happened in
      let brings : total (brought_by hs x) es ≡ 0 = none_told x (brought_by hs x) (λ u y. refl) (λ y. refl) w.links v t.happened in let arrives : total (arrives_by hs x) es ≡ 0 = none_told x (arrives_by hs x) (λ u y. refl) (λ y. refl) w.links v t.happened in
      let a1 = total_append (sent_by x) (w.history ++ head) es in let a2 = total_append (sent_by x) w.history head in let a3 = p.sends in
      let b1 = total_append (took_by x) (w.history ++ head) es in let b2 = total_append (took_by x) w.history head in let b3 = p.takes in
      let c1 = total_append (lost_by x) (w.history ++ head) es in let c2 = total_append (lost_by x) w.history head in let c3 = p.loses in
      let d1 = total_append (left_by x) (w.history ++ head) es in let d2 = total_append (left_by x) w.history head in let d3 = p.leaves in
      let e1 = total_append (brought_by hs x) (w.history ++ head) es in let e2 = total_append (brought_by hs x) w.history head in let e3 = p.brings in
      let f1 = total_append (arrives_by hs x) (w.history ++ head) es in let f2 = total_append (arrives_by hs x) w.history head in let f3 = p.arrives in
      record { kept = omega arith; unlisted = omega arith; fresh = omega arith; apart = push_all_apart v t.outbox w.links h.apart; silent = quiet }

  -- ---- lines, and what is in hand

  line_added : (hand lost due : ℕ) (w : World) (es : List Event) → Holds (hand + lost) due w → total (sent_by x) es ≡ 0 → total (took_by x) es ≡ 0 → total (lost_by x) es ≤ lost → total (left_by x) es ≡ 0 → total (brought_by hs x) es ≡ 0 → total (arrives_by hs x) es ≡ 0 → Holds hand due (record w { history = w.history ++ es })
  unfolding places sent takes losses leavings brought arrivals
  line_added hand lost due w es h a b c d e f =
      let k = h.kept in let u = h.unlisted in let g = h.fresh in
      let i = total_append (sent_by x) w.history es in let j = total_append (took_by x) w.history es in let m = total_append (lost_by x) w.history es in let n = total_append (left_by x) w.history es in
      let o = total_append (brought_by hs x) w.history es in let p = total_append (arrives_by hs x) w.history es in
      record { kept = omega arith; unlisted = omega arith; fresh = omega arith; apart = h.apart; silent = h.silent }

  no_hand : (due : ℕ) (w : World) → Holds 0 due w → Holds (0 + 0) due w
  no_hand due w h = let k = h.kept in record { kept = omega arith; unlisted = h.unlisted; fresh = h.fresh; apart = h.apart; silent = h.silent }

  quiet_line : (e : Event) (w : World) → sent_by x e ≡ 0 → took_by x e ≡ 0 → lost_by x e ≡ 0 → left_by x e ≡ 0 → brought_by hs x e ≡ 0 → arrives_by hs x e ≡ 0 → Fated w → Fated (record w { history = w.history ++ e ∷ [] })
  unfolding total
  quiet_line e w a b c d f g h = line_added 0 0 0 w (e ∷ []) (no_hand 0 w h) (omega (arith, a)) (omega (arith, b)) (omega (arith, c)) (omega (arith, d)) (omega (arith, f)) (omega (arith, g))

  happening : (e : Event) (w : World) → IsQuiet e → Fated w → Fated (record w { history = w.history ++ e ∷ [] })
  unfolding sent_by took_by lost_by left_by brought_by arrives_by
  happening (Idle k) w q h = quiet_line (Idle k) w refl refl refl refl refl refl h
  happening (NoticedAt k v u) w q h = quiet_line (NoticedAt k v u) w refl refl refl refl refl refl h
  happening (Carried k v u n bytes) w q h = quiet_line (Carried k v u n bytes) w refl refl refl refl (where_none (is_in v hs && not (is_in u hs)) (of_note x n) (q x)) (where_none (is_in u hs) (of_note x n) (q x)) h
  happening other w q h = absurd q

  in_place : (hand due v : ℕ) (w : World) (s : Vat Name) → slice_get w.vats v ≡ Some s → Holds hand due w → Holds hand due (record w { vats = put_at v s w.vats })
  unfolding places
  in_place hand due v w s e h = let k = h.kept in let f = h.fresh in let a = total_put (at_vat x) v w.vats s s e in let b = numbered_put x v w.vats s s e in
      record { kept = omega arith; unlisted = h.unlisted; fresh = omega arith; apart = h.apart; silent = h.silent }

  from_queue : (v : ℕ) (w : World) (s : Vat Name) (m : Message Name) (ms : List (Message Name)) → slice_get w.vats v ≡ Some s → s.queue ≡ m ∷ ms → Fated w → Holds (one m.id x) 0 (record w { vats = put_at v (record s { queue = ms }) w.vats })
  unfolding places at_vat among
  from_queue v w s m ms e i h =
      let k = h.kept in let f = h.fresh in let a = total_put (at_vat x) v w.vats s (record s { queue = ms }) e in let b = numbered_put x v w.vats s (record s { queue = ms }) e in
      let c : among x s.queue ≡ one m.id x + among x ms = rw i refl in record { kept = omega arith; unlisted = h.unlisted; fresh = omega arith; apart = h.apart; silent = h.silent }

  honest_in : (v : ℕ) → (IsHostile play v → ⊥) → is_in v hs ≡ true → ⊥
  unfolding hostile.is_hostile
  honest_in v o i = o i

  hostile_in : (v : ℕ) → IsHostile play v → is_in v hs ≡ true
  unfolding hostile.is_hostile
  hostile_in v i = i

  no_note : (n : Note Name) (ns : List (Note Name)) → [] ≡ n ∷ ns → ⊥
  no_note n ns e = cc

  -- a note is of an honest vat, where links of hostile vats are empty
  sender_honest : (v u : ℕ) (w : World) (l : Link) (n : Note Name) (ns : List (Note Name)) → world.link_at v u w.links ≡ Some l → l.notes ≡ n ∷ ns → Fated w → is_in v hs ≡ true → ⊥
  sender_honest v u w l n ns i j h b = no_note n ns (sym (first_silent hs v u w.links l i h.silent b) ∙ j)

  from_link : (v u : ℕ) (w : World) (l : Link) (n : Note Name) (ns : List (Note Name)) → world.link_at v u w.links ≡ Some l → l.notes ≡ n ∷ ns → Fated w → Holds (of_note x n) 0 (without v u ns w)
  unfolding places world.with_notes on_link total without
  from_link v u w l n ns e i h =
      let k = h.kept in let f = h.fresh in let a = with_link_changes x (world.with_notes ns) v u w.links l e in
      let c : total (of_note x) l.notes ≡ of_note x n + total (of_note x) ns = rw i refl in
      record {
        kept = omega arith;
        unlisted = h.unlisted;
        fresh = f;
        apart = with_link_apart (world.with_notes ns) (λ l j. j) v u w.links h.apart;
        silent = changed_silent hs (world.with_notes ns) v u (λ a g s b. absurd (sender_honest v u w l n ns e i h (subst (λ c. is_in c hs ≡ true) (from_is hs v u a g) b))) w.links h.silent;
      }

  -- ---- steps of honest vats

  alone : (v : ℕ) (w y : World) (head : List Event) (n : ℕ) (what : Step Name Name) (s q : Vat Name) → (IsHostile play v → ⊥) → slice_get w.vats v ≡ Some s → Holds (comes_with x what) 0 (record w { vats = put_at v q w.vats }) → q.messages ≡ s.messages → Plain 0 0 head
      → world.within v w head n (does (names script v) what) (Some q) ≡ Goes y → Fated y
  unfolding names world.within
  alone v w y head n what s q o e h m p i = let g = put_went v w y head n _ i in let cut : ℕ → Bool = λ to. world.is_cut v to w.links in
      subst (λ z. Fated z) (sym g.2) (stepped v w head (comes_with x what) 0 0 0 (comes_with x what) s q g.0 e h m p (omega arith) (omega arith)
      (did_step x cut v (comes_with x what) w q g.0 (after_is x (λ a b. Accounted cut v x (comes_with x what) a b) (readied w q) g.0 _ (steps_double_none Word v what (readied w q) cut x) g.1)) (pushed_silent hs v (honest_in v o) (g.0).outbox w.links h.silent))

  opening_at : (v : ℕ) (p : Program) (w y : World) (o : Option (Vat Name)) → (IsHostile play v → ⊥) → slice_get w.vats v ≡ o → world.within v w (Opens v ∷ []) v (opening (names script v) p.tree script.depth (Root v) (world.given script.vats p.knows)) o ≡ Goes y → Fated w → Fated y
  unfolding does comes_with world.within sent_by took_by lost_by left_by brought_by arrives_by
  opening_at v p w y None o e i h = cc
  opening_at v p w y (Some s) o e i h = alone v w y (Opens v ∷ []) v (Starts p.tree script.depth (Root v) (world.given script.vats p.knows)) s s o e (in_place 0 0 v w s e h) refl (plain_one 0 0 (Opens v) refl refl refl refl refl refl) i

  opened : (v : ℕ) (p : Program) (w y : World) → (IsHostile play v → ⊥) → world.open_vat script v p w ≡ Goes y → Fated w → Fated y
  unfolding world.open_vat
  opened v p w y o i h = opening_at v p w y (slice_get w.vats v) o refl i h

  going_is : (w y : World) → Goes w ≡ Goes y → w ≡ y
  going_is w y e = cc

  idle_fated : (k : ℕ) (w y : World) → world.idle script k w ≡ Goes y → Fated w → Fated y
  unfolding world.idle
  idle_fated k w y i h = subst (λ z. Fated z) (going_is _ y i) (happening (Idle k) w tt h)

  queue_fated : (k v : ℕ) (w y : World) (s : Vat Name) (ms : List (Message Name)) → (IsHostile play v → ⊥) → slice_get w.vats v ≡ Some s → s.queue ≡ ms → world.turn_queue script k v w s ms ≡ Goes y → Fated w → Fated y
  unfolding world.turn_queue does comes_with sent_by took_by lost_by left_by brought_by arrives_by
  queue_fated k v w y s [] o e q i h = idle_fated k w y i h
  queue_fated k v w y s (m ∷ ms) o e q i h = alone v w y (Turned k v ∷ []) (world.step_number script k) (Takes (world.tree_at script.vats v) script.depth m) s (record s { queue = ms }) o e (from_queue v w s m ms e q h) refl (plain_one 0 0 (Turned k v) refl refl refl refl refl refl) i

  turn_fated : (k v : ℕ) (w y : World) (o : Option (Vat Name)) → (IsHostile play v → ⊥) → slice_get w.vats v ≡ o → world.turn script k v w o ≡ Goes y → Fated w → Fated y
  unfolding world.turn
  turn_fated k v w y None o e i h = idle_fated k w y i h
  turn_fated k v w y (Some s) o e i h = queue_fated k v w y s s.queue o e refl i h

  notice_fated : (k v to : ℕ) (w y : World) (o : Option (Vat Name)) → (IsHostile play v → ⊥) → slice_get w.vats v ≡ o → world.within v w (NoticedAt k v to ∷ []) (world.step_number script k) (notice (names script v) to) o ≡ Goes y → Fated w → Fated y
  unfolding does comes_with world.within sent_by took_by lost_by left_by brought_by arrives_by
  notice_fated k v to w y None o e i h = cc
  notice_fated k v to w y (Some s) o e i h = alone v w y (NoticedAt k v to ∷ []) (world.step_number script k) (Notices to) s s o e (in_place 0 0 v w s e h) refl (plain_one 0 0 (NoticedAt k v to) refl refl refl refl refl refl) i

  -- ---- cuts

  cut_hand : (v to : ℕ) (w : World) → Fated w → Holds (0 + (total (lost_by x) (world.lost_on script (world.link_at v to w.links)) + total (lost_by x) (world.lost_on script (world.link_at to v w.links)))) 0 (record w { links = world.with_link world.severed_link to v (world.with_link world.severed_link v to w.links) })
  unfolding places world.severed_link
  cut_hand v to w h = let k = h.kept in let a = cut_links x script v to w.links h.apart in record {
    kept = omega arith;
    unlisted = h.unlisted;
    fresh = h.fresh;
    apart = with_link_apart world.severed_link (λ l i. i) to v (world.with_link world.severed_link v to w.links) (with_link_apart world.severed_link (λ l i. i) v to w.links h.apart);
    silent = severed_silent hs to v (world.with_link world.severed_link v to w.links) (severed_silent hs v to w.links h.silent);
  }

  cut_fated : (k v to : ℕ) (w y : World) → world.cut script k v to w ≡ Goes y → Fated w → Fated y
  unfolding world.cut sent_by took_by lost_by left_by brought_by arrives_by
  cut_fated k v to w y i h =
      let lost : ℕ = total (lost_by x) (world.lost_on script (world.link_at v to w.links)) + total (lost_by x) (world.lost_on script (world.link_at to v w.links)) in
      let told = cut_line x script v to k w.links (lost_by x) refl in
      subst (λ z. Fated z) (going_is _ y i) (line_added 0 lost 0 (record w { links = world.with_link world.severed_link to v (world.with_link world.severed_link v to w.links) }) (CutAt k v to ∷ (world.lost_on script (world.link_at v to w.links) ++ world.lost_on script (world.link_at to v w.links)))
      (cut_hand v to w h) (no_cut_line x script v to k w.links (sent_by x) refl (λ m. refl)) (no_cut_line x script v to k w.links (took_by x) refl (λ m. refl)) (omega arith) (no_cut_line x script v to k w.links (left_by x) refl (λ m. refl))
      (no_cut_line x script v to k w.links (brought_by hs x) refl (λ m. refl)) (no_cut_line x script v to k w.links (arrives_by hs x) refl (λ m. refl)))

  entered : (entry : Entry) (k : ℕ) (w y : World) → IsOwn play entry → world.step script entry k w ≡ Goes y → Fated w → Fated y
  unfolding world.step
  entered (Turn v) k w y o i h = turn_fated k v w y (slice_get w.vats v) o refl i h
  entered (Carry v to) k w y o i h = absurd o
  entered (CutLink v to) k w y o i h = cut_fated k v to w y i h
  entered (NoticeLink v to) k w y o i h = notice_fated k v to w y (slice_get w.vats v) o refl i h

  -- ---- a note comes to a hostile vat

  without_there : (v u : ℕ) (ns : List (Note Name)) (w : World) (t : ℕ) (s : Vat Name) → slice_get w.vats t ≡ Some s → slice_get (without v u ns w).vats t ≡ Some s
  unfolding without
  without_there v u ns w t s e = e

  ready_at : (w : World) (s t : Vat Name) → at_vat x t ≡ at_vat x (readied w s) → at_vat x t ≡ at_vat x s
  unfolding readied at_vat
  ready_at w s t e = e

  ready_empty : (w : World) (s t : Vat Name) → t.outbox ≡ (readied w s).outbox → t.happened ≡ (readied w s).happened → (t.outbox ≡ []) × (t.happened ≡ [])
  unfolding readied
  ready_empty w s t e f = (e, f)

  ready_numbered : (v : ℕ) (w : World) (s t : Vat Name) → t.messages ≡ 0 + (readied w s).messages → numbered v s.messages x ≤ numbered v t.messages x
  unfolding readied
  ready_numbered v w s t e = let i : s.messages ≡ t.messages = omega (arith, e) in let j = ap (λ k. numbered v k x) i in omega (arith, j)

  swallowed_plain : (k v u : ℕ) (n : Note Name) (frame : List ℕ) → is_in u hs ≡ true → Plain 0 (of_note x n) (Carried k v u n frame ∷ [])
  unfolding sent_by took_by lost_by left_by brought_by arrives_by
  swallowed_plain k v u n frame b = plain_one 0 (of_note x n) (Carried k v u n frame) refl refl refl refl (where_false _ (of_note x n) (second_true (is_in v hs) (is_in u hs) b)) (where_true (is_in u hs) (of_note x n) b)

  empty_silent : (u : ℕ) (ls : List Link) → AllSilent hs ls → AllSilent hs (push_all u [] ls)
  unfolding world.push_all
  empty_silent u ls h = h

  swallowed : (k v u : ℕ) (w y : World) (l : Link) (n : Note Name) (ns : List (Note Name)) → world.link_at v u w.links ≡ Some l → l.notes ≡ n ∷ ns → Swallowing play k v u w y n ns → Fated w → Fated y
  swallowed k v u w y l n ns i j s h = let z : World = without v u ns w in let hand = from_link v u w l n ns i j h in let q = hear_inert script u x n (readied w s.before) s.after s.hears in
      let none = ready_empty w s.before s.after q.put q.happened in let there = without_there v u ns w u s.before s.there in
      subst (λ z. Fated z) (sym s.is) (stepped u z (Carried k v u n (world.next_frame v u w.connections) ∷ []) (of_note x n) 0 0 (of_note x n) 0 s.before s.before s.after there (in_place (of_note x n) 0 u z s.before there hand) refl
      (swallowed_plain k v u n _ (hostile_in u s.bad)) (omega arith) (omega arith)
      (did_quiet x _ u 0 s.before s.after (ready_at w s.before s.after q.held) none.0 none.1 (ready_numbered u w s.before s.after q.messages)) (subst (λ (ps : List (Put Name)). AllSilent hs (push_all u ps z.links)) (sym none.0) (empty_silent u z.links hand.silent)))

  -- ---- a note comes to an honest vat

  -- no more than the message of the note
  abbrev Less : Note Name → Bit Name → Type 0
  Less n (Mail y) = one y x ≤ of_note x n
  Less n (Named y) = Unit {0}
  Less n (Drew i) = Unit {0}
  Less n (At v) = Unit {0}
  Less n (Off v) = Unit {0}
  Less n (Entered y) = Unit {0}
  Less n (Owns y i) = Unit {0}
  Less n (Gave i) = Unit {0}

  less_entries : (n : Note Name) → HoldsOfEntries (Less n)
  less_entries n = record { unmarked = λ v i p. tt; placed_too = λ v i p. tt; passed = λ v i p q. tt }

  less_value : (n : Note Name) (y : Value Name) → ValueOk (Less n) y
  less_value n (Ref z) = tt
  less_value n other = tt

  mutual
    less_passed : (n : Note Name) (y : Passed Name) → PassedOk (Less n) y
    less_passed n (state.Plain y) = less_value n y
    less_passed n (AGift v i) = (tt, tt)
    less_passed n (Many ys) = less_all n ys

    less_all : (n : Note Name) (ys : Passeds Name) → PassedsOk (Less n) ys
    less_all n NoMore = tt
    less_all n (More y ys) = (less_passed n y, less_all n ys)

  less_note : (n : Note Name) → NoteOk (Less n) n
  unfolding of_note in_note
  less_note (Deliver d z verb ys) = (omega arith, tt, less_all (Deliver d z verb ys) ys)
  less_note (Open i z) = (tt, tt)
  less_note (Ask p i z) = (tt, tt)
  less_note (SettledTo z y) = (tt, less_passed (SettledTo z y) y)
  less_note (Elsewhere z c) = (tt, tt)
  less_note (Shorten z c i) = (tt, tt)

  less_is : (n m : Note Name) → NoteOk (Less n) m → of_note x m ≤ of_note x n
  unfolding of_note in_note
  less_is n (Deliver d z verb ys) h = h.0
  less_is n (Open i z) h = omega arith
  less_is n (Ask p i z) h = omega arith
  less_is n (SettledTo z y) h = omega arith
  less_is n (Elsewhere z c) h = omega arith
  less_is n (Shorten z c i) h = omega arith

  -- what a vat does that receives a note
  abbrev Received : (ℕ → Bool) → ℕ → Note Name → Vat Name → Vat Name → Type 0
  Received cut v n s t = (came : ℕ) × (came ≤ of_note x n) × Did x cut v came s t

  quiet_at : (w : World) (s : Vat Name) → (at_vat x (readied w s) ≡ at_vat x s) × ((readied w s).outbox ≡ []) × ((readied w s).happened ≡ []) × ((readied w s).messages ≡ s.messages)
  unfolding readied at_vat
  quiet_at w s = (refl, refl, refl, refl)

  passed_did : (cut : ℕ → Bool) (v : ℕ) (w : World) (s : Vat Name) → Did x cut v 0 s (readied w s)
  passed_did cut v w s = let q = quiet_at w s in let m : numbered v s.messages x ≤ numbered v (readied w s).messages x = subst (λ k. numbered v s.messages x ≤ numbered v k x) (sym q.3) (omega arith) in did_quiet x cut v 0 s (readied w s) q.0 q.1 q.2 m

  arrived_did : (cut : ℕ → Bool) (v a : ℕ) (w : World) (s t : Vat Name) (m : Note Name) → arrive.arrive (names script v) a (read_note (names_of s) m) (readied w s) ≡ Gives tt t → Did x cut v (of_note x m) s t
  unfolding names does comes_with
  arrived_did cut v a w s t m e = let what : Step Name Name = Receives a (read_note (names_of s) m) in
      subst (λ c. Did x cut v c s t) (note_brings x (names_of s) m) (did_step x cut v (comes_with x what) w s t (after_is x (λ b c. Accounted cut v x (comes_with x what) b c) (readied w s) t _ (steps_double_none Word v what (readied w s) cut x) e))

  received_did : (cut : ℕ → Bool) (w : World) (a v : ℕ) (s t : Vat Name) (n : Note Name) → Coming script w a v s t n → Received cut v n s t
  received_did cut w a v s t n (Passes none same) = (0, omega arith, subst (λ z. Did x cut v 0 s z) same (passed_did cut v w s))
  received_did cut w a v s t n (Lands z m drew alike f) = (of_note x m, less_is n m (alike.names (Less n) (less_entries n) (less_note n)), arrived_did cut v a z s t m f)

  entered_same : (v a : ℕ) (exports ks : List Name) (n : Note Name) → of_note x (entering.entered v a exports ks n) ≡ of_note x n
  unfolding entering.entered of_note in_note
  entered_same v a exports ks (Deliver d z verb ys) = refl
  entered_same v a exports ks (Open i z) = refl
  entered_same v a exports ks (Ask p i z) = refl
  entered_same v a exports ks (SettledTo z y) = refl
  entered_same v a exports ks (Elsewhere z c) = refl
  entered_same v a exports ks (Shorten z c i) = refl

  carried_plain : (c : Bool) (k v u : ℕ) (n : Note Name) (frame : List ℕ) → (is_in v hs && not (is_in u hs)) ≡ c → is_in u hs ≡ false → Plain (where_so c (of_note x n)) 0 (Carried k v u n frame ∷ [])
  unfolding sent_by took_by lost_by left_by brought_by arrives_by
  carried_plain c k v u n frame i b = plain_one (where_so c (of_note x n)) 0 (Carried k v u n frame) refl refl refl refl (ap (λ d. where_so d (of_note x n)) i) (where_false (is_in u hs) (of_note x n) b)

  placed_fated : (v u : ℕ) (n : Note Name) (w : World) (t : Vat Name) (y : World) → Fated y → Fated (placed_from v u n w t y)
  unfolding places
  placed_fated v u n w t y g = record { kept = g.kept; unlisted = g.unlisted; fresh = g.fresh; apart = g.apart; silent = g.silent }

  -- so much is in hand of its message, and is still to be told of
  arrived : (c : Bool) (k v u due : ℕ) (w y : World) (n : Note Name) (ns : List (Note Name)) → (is_in v hs && not (is_in u hs)) ≡ c → due ≡ where_so c (of_note x n) → Receiving play k v u w y n ns → Holds (of_note x n) due (without v u ns w) → Fated y
  arrived c k v u due w y n ns i j r h = let z : World = without v u ns w in let s : Vat Name = r.before in let t : Vat Name = r.after in let there = without_there v u ns w u s r.there in let m : Note Name = entered_at w v u s n in
      let o = honest_in u r.honest in let same : of_note x m ≡ of_note x n = entered_same u v _ (names_of s) n in let b : where_so c (of_note x m) ≡ due = ap (where_so c) same ∙ sym j in
      let d : Received (λ to. world.is_cut u to z.links) u n s t = received_did _ w v u s t n (comes script w v u s t n _ (sight_at w v u s) r.receives) in let less = d.1 in
      let next : Fated (went u z (Carried k v u m (world.next_frame v u w.connections) ∷ []) t) = stepped u z (Carried k v u m (world.next_frame v u w.connections) ∷ []) (of_note x n) due (where_so c (of_note x m)) 0 d.0 s s t there (in_place (of_note x n) due u z s there h) refl
      (carried_plain c k v u m _ i (not_true (is_in u hs) o)) (omega (arith, less, b)) (omega (arith, b)) d.2 (pushed_silent hs u o t.outbox z.links h.silent) in
      subst (λ a. Fated a) (sym r.is) (placed_fated v u m w t _ next)

  received : (k v u : ℕ) (w y : World) (l : Link) (n : Note Name) (ns : List (Note Name)) → world.link_at v u w.links ≡ Some l → l.notes ≡ n ∷ ns → Receiving play k v u w y n ns → Fated w → Fated y
  received k v u w y l n ns i j r h = arrived false k v u 0 w y n ns (first_false (is_in v hs) (is_in u hs) (not_true (is_in v hs) (sender_honest v u w l n ns i j h))) (sym (where_false false (of_note x n) refl)) r (from_link v u w l n ns i j h)

  -- ---- a hostile vat says a note in a frame

  module _ (h u : ℕ) (w y : World) (s : Saying play h u w y) (g : Fated w) where
    abbrev n : Note Name
    n = s.note

    abbrev q : Vat Name
    q = (s.spoken).record_of

    there : slice_get w.vats h ≡ Some q
    there = (s.spoken).speaks

    sent_is : (t r : Vat Name) → send_out u n t ≡ Gives tt r → (r.outbox ≡ t.outbox ++ record { to = u; note = n } ∷ []) × (at_vat x r ≡ at_vat x t) × (r.messages ≡ t.messages)
    unfolding send_out at_vat
    sent_is t r e = out _ r e (refl, refl, refl)
      where
        out : (z r : Vat Name) → Gives (tt {0}) z ≡ Gives (tt {0}) r → (z.outbox ≡ t.outbox ++ record { to = u; note = n } ∷ []) × (at_vat x z ≡ at_vat x t) × (z.messages ≡ t.messages) → (r.outbox ≡ t.outbox ++ record { to = u; note = n } ∷ []) × (at_vat x r ≡ at_vat x t) × (r.messages ≡ t.messages)
        out z r f k = let same : z ≡ r = cc in rw same at k

    facts : Speaks x h n q s.ready
    facts = speaks play x w h u s.ready n s.op s.new s.spoken

    put_one : s.after.outbox ≡ record { to = u; note = n } ∷ []
    put_one = (sent_is s.ready s.after s.sends).0 ∙ ap (λ (ps : List (Put Name)). ps ++ record { to = u; note = n } ∷ []) facts.put

    held : at_vat x s.after ≡ at_vat x q
    held = (sent_is s.ready s.after s.sends).1 ∙ facts.held

    fresh : of_note x n + numbered h q.messages x ≤ numbered h s.after.messages x
    fresh = let a = facts.fresh in let b = ap (λ k. numbered h k x) (sent_is s.ready s.after s.sends).2 in omega (arith, a, b)

    abbrev A : List Link
    A = w.links

    abbrev B : List Link
    B = world.with_link (world.pushed n) h u A

    pushed_one : (ps : List (Put Name)) → ps ≡ record { to = u; note = n } ∷ [] → push_all h ps A ≡ B
    unfolding world.push_all
    pushed_one ps e = ap (λ (z : List (Put Name)). push_all h z A) e

    went_is : ((went h w [] s.after).links ≡ push_all h s.after.outbox A) × ((went h w [] s.after).vats ≡ put_at h s.after w.vats)
    unfolding went
    went_is = (refl, refl)

    links_are : y.links ≡ B
    links_are = ap (λ (z : World). z.links) s.is ∙ went_is.0 ∙ pushed_one s.after.outbox put_one

    vats_are : y.vats ≡ put_at h s.after w.vats
    vats_are = ap (λ (z : World). z.vats) s.is ∙ went_is.1

    told_same : y.history ≡ w.history
    told_same = said_history play h u w y s

    -- ---- the link

    pushed_first : (ls : List Link) (l : Link) → world.link_at h u (world.with_link (world.pushed n) h u ls) ≡ Some l → (k : Link) × (world.link_at h u ls ≡ Some k) × (l ≡ world.pushed n k)
    unfolding world.with_link world.link_at
    pushed_first [] l e = cc
    pushed_first (a ∷ ls) l e = either (world.is_link h u a) refl e (λ f. pushed_first ls l f)
      where
        first : (b : Bool) → b ≡ true → pick b (Some (world.pushed n a)) (world.link_at h u ls) ≡ Some l → l ≡ world.pushed n a
        first true i f = cc
        first false i f = cc

        later : (b : Bool) → b ≡ false → pick b (Some a) (world.link_at h u (world.with_link (world.pushed n) h u ls)) ≡ Some l → world.link_at h u (world.with_link (world.pushed n) h u ls) ≡ Some l
        later true i f = cc
        later false i f = f

        either : (b : Bool) → world.is_link h u a ≡ b → world.link_at h u (pick b (world.pushed n a ∷ ls) (a ∷ world.with_link (world.pushed n) h u ls)) ≡ Some l → (world.link_at h u (world.with_link (world.pushed n) h u ls) ≡ Some l → (k : Link) × (world.link_at h u ls ≡ Some k) × (l ≡ world.pushed n k)) → (k : Link) × (pick b (Some a) (world.link_at h u ls) ≡ Some k) × (l ≡ world.pushed n k)
        either true i f g = (a, refl, first (world.is_link h u (world.pushed n a)) (pushed_link n h u a ∙ i) f)
        either false i f g = g (later (world.is_link h u a) i f)

    first_pushed : (ls : List Link) (k : Link) → world.link_at h u ls ≡ Some k → world.link_at h u (world.with_link (world.pushed n) h u ls) ≡ Some (world.pushed n k)
    unfolding world.with_link world.link_at
    first_pushed [] k e = cc
    first_pushed (a ∷ ls) k e = either (world.is_link h u a) refl e (λ f. first_pushed ls k f)
      where
        first : (b : Bool) → b ≡ true → a ≡ k → pick b (Some (world.pushed n a)) (world.link_at h u ls) ≡ Some (world.pushed n k)
        first true i f = ap (λ z. Some (world.pushed n z)) f
        first false i f = cc

        later : (b : Bool) → b ≡ false → world.link_at h u (world.with_link (world.pushed n) h u ls) ≡ Some (world.pushed n k) → pick b (Some a) (world.link_at h u (world.with_link (world.pushed n) h u ls)) ≡ Some (world.pushed n k)
        later true i f = cc
        later false i f = f

        some_is : Some a ≡ Some k → a ≡ k
        some_is f = cc

        either : (b : Bool) → world.is_link h u a ≡ b → pick b (Some a) (world.link_at h u ls) ≡ Some k → (world.link_at h u ls ≡ Some k → world.link_at h u (world.with_link (world.pushed n) h u ls) ≡ Some (world.pushed n k)) → world.link_at h u (pick b (world.pushed n a ∷ ls) (a ∷ world.with_link (world.pushed n) h u ls)) ≡ Some (world.pushed n k)
        either true i f g = first (world.is_link h u (world.pushed n a)) (pushed_link n h u a ∙ i) (some_is f)
        either false i f g = later (world.is_link h u a) i (g f)

    -- on a link that is not cut it stands behind all others
    pushed_notes : (k : Link) → (world.pushed n k).cut ≡ false → (world.pushed n k).notes ≡ k.notes ++ n ∷ []
    unfolding world.pushed
    pushed_notes k = either k.cut refl
      where
        either : (b : Bool) → k.cut ≡ b → (pick b (record k { log = k.log ++ n ∷ [] }) (record k { notes = k.notes ++ n ∷ []; log = k.log ++ n ∷ [] })).cut ≡ false → (pick b (record k { log = k.log ++ n ∷ [] }) (record k { notes = k.notes ++ n ∷ []; log = k.log ++ n ∷ [] })).notes ≡ k.notes ++ n ∷ []
        either true i e = absurd (is_so k.cut e i)
        either false i e = refl

    -- and on one that is cut it is lost
    pushed_cut : (k : Link) → k.cut ≡ true → on_link x (world.pushed n k) ≡ on_link x k
    unfolding world.pushed on_link
    pushed_cut k = either k.cut
      where
        either : (b : Bool) → b ≡ true → total (of_note x) (pick b (record k { log = k.log ++ n ∷ [] }) (record k { notes = k.notes ++ n ∷ []; log = k.log ++ n ∷ [] })).notes ≡ total (of_note x) k.notes
        either true e = refl
        either false e = cc

    stays_cut : (k : Link) → k.cut ≡ false → (world.pushed n k).cut ≡ false
    unfolding world.pushed
    stays_cut k e = either k.cut e
      where
        either : (b : Bool) → k.cut ≡ false → (pick b (record k { log = k.log ++ n ∷ [] }) (record k { notes = k.notes ++ n ∷ []; log = k.log ++ n ∷ [] })).cut ≡ false
        either true e = e
        either false e = e

    at_vats : total (at_vat x) y.vats ≡ total (at_vat x) w.vats
    at_vats = let a = ap (total (at_vat x)) vats_are in let b = total_put (at_vat x) h w.vats q s.after there in let c = held in omega (arith, a, b, c)

    more_numbered : all_numbered x 0 w.vats + of_note x n ≤ all_numbered x 0 y.vats
    more_numbered = let a = ap (all_numbered x 0) vats_are in let b = numbered_put x h w.vats q s.after there in let c = fresh in omega (arith, a, b, c)

    apart_on : AllApart y.links
    apart_on = subst (λ ls. AllApart ls) (sym (ap (λ (z : World). z.links) s.is ∙ went_is.0)) (push_all_apart h s.after.outbox A g.apart)

    sums_same : (f : Event → ℕ) → total f y.history ≡ total f w.history
    sums_same f = ap (total f) told_same

    -- it is not heard: the link is cut, or there is none
    module _ (none : Unheard h u y) where
      no_end : (ms : List (Note Name)) → ms ++ n ∷ [] ≡ [] → ⊥
      no_end [] e = cc
      no_end (m ∷ ms) e = cc

      cut_there : (k : Link) → world.link_at h u A ≡ Some k → (b : Bool) → k.cut ≡ b → b ≡ true
      cut_there k i true c = refl
      cut_there k i false c = let d = stays_cut k c in let e = none (world.pushed n k) (ap (world.link_at h u) links_are ∙ first_pushed A k i) d in absurd (no_end k.notes (sym (pushed_notes k d) ∙ e))

      on_links : (o : Option Link) → world.link_at h u A ≡ o → total (on_link x) B ≡ total (on_link x) A
      on_links None e = ap (total (on_link x)) (with_link_absent (world.pushed n) h u A e)
      on_links (Some k) e = let a = with_link_changes x (world.pushed n) h u A k e in let b = pushed_cut k (cut_there k e k.cut refl) in omega (arith, a, b)

      unheard_fated : Fated y
      unfolding places sent takes losses leavings brought arrivals
      unheard_fated = let k = g.kept in let f = g.fresh in let i = g.unlisted in let a = at_vats in let b = ap (total (on_link x)) links_are in let c = on_links (world.link_at h u A) refl in let m = more_numbered in
          let s1 = sums_same (sent_by x) in let s2 = sums_same (took_by x) in let s3 = sums_same (lost_by x) in let s4 = sums_same (left_by x) in let s5 = sums_same (brought_by hs x) in let s6 = sums_same (arrives_by hs x) in
          record { kept = omega arith; unlisted = omega arith; fresh = omega arith; apart = apart_on; silent = subst (λ ls. AllSilent hs ls) (sym links_are) (unheard_silent hs n h u A (λ k j. cut_there k j k.cut refl) g.silent) }

    -- it is heard at once
    module _ (l : Link) (m : Note Name) (ns : List (Note Name)) (i : world.link_at h u y.links ≡ Some l) (c : l.cut ≡ false) (j : l.notes ≡ m ∷ ns) where
      its : (k : Link) × (world.link_at h u A ≡ Some k) × (l ≡ world.pushed n k)
      its = pushed_first A l (ap (world.link_at h u) (sym links_are) ∙ i)

      empty : its.0.notes ≡ []
      empty = first_silent hs h u A its.0 its.1 g.silent (hostile_in h s.bad)

      one_note : m ∷ ns ≡ n ∷ []
      one_note = let a : (world.pushed n its.0).cut ≡ false = ap (λ (z : Link). z.cut) (sym its.2) ∙ c in sym j ∙ ap (λ (z : Link). z.notes) its.2 ∙ pushed_notes its.0 a ∙ ap (λ ms. ms ++ n ∷ []) empty

      head_is : (a b : Note Name) (xs ys : List (Note Name)) → a ∷ xs ≡ b ∷ ys → (a ≡ b) × (xs ≡ ys)
      head_is a b xs ys e = (cc, cc)

      note_is : m ≡ n
      note_is = (head_is m n ns [] one_note).0

      rest_is : ns ≡ []
      rest_is = (head_is m n ns [] one_note).1

      none_on : (ms : List (Note Name)) → ms ≡ [] → total (of_note x) ms ≡ 0
      unfolding total
      none_on ms e = ap (total (of_note x)) e

      off_links : total (on_link x) (world.with_link (world.with_notes ns) h u y.links) ≡ total (on_link x) A
      unfolding on_link world.with_notes
      off_links = let a = with_link_changes x (world.with_notes ns) h u y.links l i in let b = with_link_changes x (world.pushed n) h u A its.0 its.1 in let d = ap (on_link x) its.2 in let e = none_on its.0.notes empty in let f = none_on ns rest_is in
          let k = ap (total (on_link x)) links_are in omega arith

      in_hand : Holds (of_note x m) (of_note x m) (without h u ns y)
      unfolding places without world.with_notes sent takes losses leavings brought arrivals
      in_hand = let k = g.kept in let f = g.fresh in let z = g.unlisted in let a = at_vats in let b = off_links in let o = more_numbered in let same = ap (of_note x) note_is in
          let s1 = sums_same (sent_by x) in let s2 = sums_same (took_by x) in let s3 = sums_same (lost_by x) in let s4 = sums_same (left_by x) in let s5 = sums_same (brought_by hs x) in let s6 = sums_same (arrives_by hs x) in
          record {
            kept = omega arith;
            unlisted = omega arith;
            fresh = omega arith;
            apart = with_link_apart (world.with_notes ns) (λ a b. b) h u y.links apart_on;
            silent = subst (λ ls. AllSilent hs (world.with_link (world.with_notes ns) h u ls)) (sym links_are) (subst (λ ms. AllSilent hs (world.with_link (world.with_notes ms) h u B)) (sym rest_is) (taken_silent hs n h u A g.silent));
          }

      heard_fated : (k : ℕ) (z : World) → Receiving play k h u y z m ns → Fated z
      heard_fated k z r = arrived true k h u (of_note x m) y z m ns (and_not (is_in h hs) (is_in u hs) (hostile_in h s.bad) (not_true (is_in u hs) (honest_in u r.honest))) (sym (where_true true (of_note x m) refl)) r in_hand

-- what each doing keeps
pub fated_kept : (play : Play) (x : Name) → IsKept play (Fated play x)
fated_kept play x = record {
  opening = λ front rest p w y o i e g. opened play x (length front) p w y o e g;
  entering = entered play x;
  happening = happening play x;
  swallowing = λ k v u w y l n ns i c j s g. swallowed play x k v u w y l n ns i j s g;
  receiving = λ k v u w y l n ns i c j r g. received play x k v u w y l n ns i j r g;
  unheard = λ h u w y s e g. unheard_fated play x h u w y s g e;
  heard = λ k h u w y z l n ns s i c j r g. heard_fated play x h u w y s g l n ns i c j k z r;
}
