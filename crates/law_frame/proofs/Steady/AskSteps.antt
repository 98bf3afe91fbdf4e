-- A step asks another vat for nothing that its vat asked that one for before, and for nothing twice.
use Rattle.std.proofs.Common.{◌≡◌, ℕ, ◌+◌, ◌≤◌, List, [], ◌∷◌, ◌++◌, Option, Some, None, refl, sym, ap, subst, ◌∙◌, ◌⊎◌, inl, inr, arith}
use Rattle.std.specs.Prelude.{slice_get}
use Rattle.def_machine.specs.Values.{Name, Answer, Sent, Msg}
use Rattle.def_machine.specs.State.{Note, Put, Vat}
use Rattle.def_run.specs.World.{Script, Link, World, link_at, with_link, with_notes, severed_link, push_all, put_at, names_of, read_note, readied}
use Rattle.law_machine.specs.Machine.Steps.{Step, Receives}
use Rattle.law_fate.specs.Fates.Fate.{total, at_vat, of_note, on_link, sent_in}
use Rattle.law_fate.specs.Fates.FateLaws.{brought as fate_brought}
use Rattle.law_fate.specs.Fates.CarryLaws.{leaves}
use Rattle.law_fate.specs.Fates.Lasting.{StepComes, NoteWell}
use Rattle.law_fate.specs.Fates.Sound.{StepArrives}
use Rattle.law_fate.proofs.Fates.RunWell.{note_comes, found_link}
use Rattle.law_fate.proofs.Fates.WorldLight.{VatSound, note_arrives, note_pays}
use Rattle.law_fate.specs.Name.Names.{AllOf, IsAmong, Once, PutOk, names_in}
use Rattle.law_fate.proofs.Name.Among.{all_among, get_put}
use Rattle.law_fate.proofs.Name.Run.{Had}
use Rattle.law_reference.specs.Reference.Logs as wire
use Rattle.law_reference.specs.Reference.Knowing.{numbered_at}
use Rattle.law_reference.proofs.Reference.AnswerLinks.{AtLink, with_any, push_others}
use Rattle.law_reference.proofs.Reference.Counts.{Counted, IsNew, world_one, world_none, numbered_most, step_weighs, step_sends, step_puts, step_age}
use Rattle.law_reference.proofs.Reference.Follow.{eq_dec}
use Rattle.law_reference.proofs.Reference.LegFacts.{new_nowhere}
use Rattle.law_reference.proofs.Reference.LegMoves.{LegsOf, head_of, came_of, first_weight, sound_note_of}
use Rattle.law_reference.proofs.Reference.LegRuns.{Before, alone_leaves, alone_came, alone_comes, alone_arrives}
use Rattle.law_reference.proofs.Reference.LinksCut.{fits_notes, fits_severed}
use Rattle.law_reference.proofs.Reference.Moves.{Moved, Still, Severs, Drops, Steps, Arrives, Does, waiting}
use Rattle.law_reference.proofs.Reference.Places.{total_at, link_total, note_most}
use Rattle.law_frame.proofs.Frame.LinksKnown.{asks_own}
use Rattle.law_frame.proofs.Frame.SourceLaws.{log_is}
use Rattle.law_frame.proofs.Frame.WireAsking.{PutFits}
use Rattle.law_frame.proofs.Frame.WireRuns.{mail_fits}
use Rattle.law_frame.proofs.Heard.CutCounts.{puts_weigh, load_puts}
use Rattle.law_frame.proofs.Heard.Pending.{Facts, wires, stands}
use Rattle.law_frame.proofs.Heard.Steps.{Asked}
use Rattle.law_frame.proofs.Steady.GiftAsks.{Gifted, gifts_asked, part_among, part_once, step_gifted}
use Rattle.law_frame.proofs.Steady.Again.{Own, Puts, Asks, AskedBy, asked_of, asked_at, asked_once, push_asks, once_both, once_last, once_apart}

-- no vat knows a name twice
abbrev pub AllKnownOnce : World → Type 0
AllKnownOnce w = (v : ℕ) (s : Vat Name) → slice_get w.vats v ≡ Some s → Once (names_in s.known)

module _ (script : Script) where
  -- what is known of the worlds of a run
  pub record Known (w : World) : Type 0 where
    pub facts : Facts script w
    pub legs : LegsOf w
    pub once : AllKnownOnce w

  -- ---- what a step of vat v puts

  puts_own : (y : World) (v : ℕ) (t : Vat Name) (ps : List (Put Name)) → AllOf (PutFits v (names_in t.known)) ps → AllOf (PutOk (Had script y v t)) ps → AllOf Own ps
  puts_own y v t [] h k = tt
  puts_own y v t (p ∷ ps) h k = (asks_own (names_in t.known) p.to p.note (mail_fits script y.vats (Had script y v t) (λ m i. i.0) p.note k.0.0) h.0.0, puts_own y v t ps h.1 k.1)

  -- what a message weighs that comes with the note, and that is left of it
  pub record Comes (x : World) (v : ℕ) (s : Vat Name) (what : Step Name Name) : Type 0 where
    pub brings : (m : Msg) → (arr : ℕ) × (fate_brought (Sent m) what ≤ waiting (Sent m) what + arr) × (arr ≤ total (on_link (Sent m)) x.links)
    pub comes : StepComes what
    pub arrives : StepArrives v what
    pub light : (m : Msg) (h : ℕ) → (h ≡ v → ⊥) → IsAmong (Answer h m) (names_in s.known) → leaves (Sent m) what ≤ 0

  module _ (x y : World) (f : Known x) (next : Known y) (v : ℕ) (s q t : Vat Name) (what : Step Name Name) (d : Does script x v s q t what) (c : Comes x v s what) (placed : slice_get y.vats v ≡ Some t) where
    counted : Counted x
    counted = let b : Before script x = f.facts.knows.past.0 in b.counted

    sound : VatSound v s
    sound = let w = counted.sound in w.vats v s d.there

    -- the message was made before the step
    abbrev Aged : Msg → Type 0
    Aged m = (sent_in (Sent m) t.happened ≤ 0) × ((h : ℕ) → numbered_at v (Answer h m) t ≤ numbered_at v (Answer h m) s)

    put_one : (m : Msg) → Puts m t.outbox ≤ 1
    put_one m = either (step_age script x v s q t what d sound m)
      where
        either : Aged m ⊎ IsNew script x v s q t what d sound m → Puts m t.outbox ≤ 1
        either (inl o) = let w = c.brings m in let l = w.1 in let k = w.2 in let a = step_puts script x v s q t what d sound m in let b = d.waits (Sent m) in let e = total_at (at_vat (Sent m)) x.vats v s d.there in
            let g = world_one (Sent m) x (counted.fated (Sent m)) in let z = o.0 in omega arith
        either (inr n) = let w = c.brings m in let l = w.1 in let k = w.2 in let a = step_puts script x v s q t what d sound m in let b = d.waits (Sent m) in let e = total_at (at_vat (Sent m)) x.vats v s d.there in
            let g = world_none m v s x (counted.fated (Sent m)) d.there n.0 n.1 in let i = step_sends script x v s q t what d sound m in let j = numbered_most v t.messages m in omega arith

    -- what is put does not bear a message whose answer at another vat is known here
    put_none : (m : Msg) (h : ℕ) → (h ≡ v → ⊥) → IsAmong (Answer h m) (names_in s.known) → Puts m t.outbox ≤ 0
    put_none m h other known = let a = step_weighs script x v s q t what d sound m c.comes c.arrives in let b = c.light m h other known in let e = (f.legs.apart m v h v s other d.there known).0 s d.there in
        let g = load_puts (Sent m) t in let i = puts_weigh (Sent m) t.outbox in let j = sends_none (step_age script x v s q t what d sound m) in omega arith
      where
        sends_none : Aged m ⊎ IsNew script x v s q t what d sound m → sent_in (Sent m) t.happened ≤ 0
        sends_none (inl o) = o.0
        sends_none (inr n) = absurd (new_nowhere script x (stands script x f.facts) m v s d.there n.0 n.1 v h s d.there known)

    own : AllOf Own t.outbox
    own = let w = wires script y next.facts in let k = (stands script y next.facts).vats v t placed in let parts = k.parts in puts_own y v t t.outbox (w.told v t placed).0 parts.outbox

    gifted : Gifted (readied x q) t
    gifted = step_gifted script x v s q t what d

    puts_are : t.outbox ≡ gifted.puts
    unfolding readied
    puts_are = gifted.outbox

    come_are : names_in t.known ≡ names_in s.known ++ gifted.came
    unfolding readied
    come_are = gifted.grows ∙ ap (λ ks. names_in ks ++ gifted.came) d.known

    known_once : Once (names_in s.known ++ gifted.came)
    known_once = subst (λ (ns : List Name). Once ns) come_are (next.once v t placed)

    gifts_once : Once (gifts_asked t.outbox)
    gifts_once = subst (λ ps. Once (gifts_asked ps)) (sym puts_are) (part_once (gifts_asked gifted.puts) gifted.came gifted.part (once_last (names_in s.known) gifted.came known_once))

    gifts_new : (z : Name) → IsAmong z (names_in s.known) → IsAmong z (gifts_asked t.outbox) → ⊥
    gifts_new z a b = once_apart (names_in s.known) gifted.came z known_once a (part_among (gifts_asked gifted.puts) gifted.came z gifted.part (subst (λ ps. IsAmong z (gifts_asked ps)) puts_are b))

    -- what the vat asked of another, and then what it asks now
    asks_on : (h : ℕ) → (h ≡ v → ⊥) → Once (Asked x v h) → Once (Asked x v h ++ asked_of h t.outbox)
    asks_on h other o = once_both (Asked x v h) (asked_of h t.outbox) o (asked_once h t.outbox own put_one gifts_once) (λ z a b. again z (known z a) (asked_at h z t.outbox own b))
      where
        known : (z : Name) → IsAmong z (Asked x v h) → IsAmong z (names_in s.known)
        known z a = all_among (λ z. IsAmong z (names_in s.known)) (Asked x v h) z (f.facts.asked v s d.there h) a

        none : (m : Msg) → Puts m t.outbox ≤ 0 → 1 ≤ Puts m t.outbox → ⊥
        none m a b = absurd (omega arith)

        again : (z : Name) → IsAmong z (names_in s.known) → AskedBy h z t.outbox → ⊥
        again z a (inl b) = none b.0 (put_none b.0 h other (subst (λ n. IsAmong n (names_in s.known)) b.1 a)) b.2
        again z a (inr b) = gifts_new z a b

  -- ---- links

  found : (y : World) (u h : ℕ) (qs : List Name) → AtLink u h (Asks u h qs) y.links → ((k : Link) → link_at u h y.links ≡ Some k → Once qs) → Once (Asked y u h)
  unfolding wire.questions wire.questions_in wire.log_of
  found y u h qs f o = by (link_at u h y.links) refl
    where
      by : (p : Option Link) → link_at u h y.links ≡ p → Once (wire.questions_in h (wire.log_of p))
      by None e = tt
      by (Some k) e = subst (λ (zs : List Name). Once zs) (sym (f k e)) (o k e)

  first_asks : (x : World) (u h : ℕ) → AtLink u h (Asks u h (Asked x u h)) x.links
  unfolding wire.questions
  first_asks x u h l e = ap (wire.questions_in h) (sym (log_is l (link_at u h x.links) e))

  taken_asks : (u h : ℕ) (qs : List Name) (c v : ℕ) (ns : List (Note Name)) (ls : List Link) → AtLink u h (Asks u h qs) ls → AtLink u h (Asks u h qs) (with_link (with_notes ns) c v ls)
  unfolding with_notes
  taken_asks u h qs c v ns ls g = with_any u h c v (Asks u h qs) (with_notes ns) (fits_notes u h ns) ls (λ l e i j. g l e) (λ l e f. g l e)

  cut_asks : (u h : ℕ) (qs : List Name) (c v : ℕ) (ls : List Link) → AtLink u h (Asks u h qs) ls → AtLink u h (Asks u h qs) (with_link severed_link c v ls)
  unfolding severed_link
  cut_asks u h qs c v ls g = with_any u h c v (Asks u h qs) severed_link (fits_severed u h) ls (λ l e i j. g l e) (λ l e f. g l e)

  -- ---- a move

  module _ (x y : World) (f : Known x) (next : Known y) (u h : ℕ) (o : Once (Asked x u h)) where
    still : AtLink u h (Asks u h (Asked x u h)) y.links → Once (Asked y u h)
    still g = found y u h (Asked x u h) g (λ k e. o)

    -- a step of vat v, by links on which nothing was put yet
    module _ (v : ℕ) (s q t : Vat Name) (what : Step Name Name) (d : Does script x v s q t what) (c : Comes x v s what) (ls : List Link) (vats : y.vats ≡ put_at v t x.vats) (links : y.links ≡ push_all v t.outbox ls) (at : AtLink u h (Asks u h (Asked x u h)) ls) where
      placed : slice_get y.vats v ≡ Some t
      placed = ap (λ us. slice_get us v) vats ∙ get_put x.vats v s t d.there

      alone : (k : Link) → link_at v h y.links ≡ Some k → h ≡ v → ⊥
      alone k e i = next.facts.alone v k (subst (λ z. link_at v z y.links ≡ Some k) i e)

      stepped : (u ≡ v) ⊎ (u ≡ v → ⊥) → Once (Asked y u h)
      stepped (inr other) = still (subst (λ ks. AtLink u h (Asks u h (Asked x u h)) ks) (sym links) (push_others u h v (Asks u h (Asked x u h)) t.outbox ls other at))
      stepped (inl i) = subst (λ z. Once (Asked y z h)) (sym i)
          (found y v h (Asked x v h ++ asked_of h t.outbox) (subst (λ ks. AtLink v h (Asks v h (Asked x v h ++ asked_of h t.outbox)) ks) (sym links) (push_asks v h (Asked x v h) t.outbox ls (subst (λ z. AtLink z h (Asks z h (Asked x z h)) ls) i at)))
          (λ k e. asks_on x y f next v s q t what d c placed h (alone k e) (subst (λ z. Once (Asked x z h)) i o)))

    module _ (c v : ℕ) (s t : Vat Name) (n : Note Name) (ns : List (Note Name)) (l : Link) (at : link_at c v x.links ≡ Some l) (notes : l.notes ≡ n ∷ ns) (d : Does script x v s s t (Receives c (read_note (names_of s) n))) where
      past : Before script x
      past = f.facts.knows.past.0

      not_self : c ≡ v → ⊥
      not_self i = f.facts.alone c l (subst (λ z. link_at c z x.links ≡ Some l) (sym i) at)

      well_note : NoteWell n
      well_note = let k = past.counted in let well = k.well in head_of NoteWell l.notes n ns (found_link c v x.links l at well.links) notes

      on_first : (m : Msg) → of_note (Sent m) n ≤ on_link (Sent m) l
      unfolding on_link total
      on_first m = let e : total (of_note (Sent m)) l.notes ≡ of_note (Sent m) n + total (of_note (Sent m)) ns = ap (λ js. total (of_note (Sent m)) js) notes in omega arith

      note_light : (m : Msg) (g : ℕ) → (g ≡ v → ⊥) → IsAmong (Answer g m) (names_in s.known) → leaves (Sent m) (Receives c (read_note (names_of s) n)) ≤ 0
      unfolding leaves names_of
      note_light m g other known = let a = note_pays (Sent m) (names_in s.known) n in let b = first_weight (Sent m) l n ns notes in let e = note_most (Sent m) n in let i = (f.legs.apart m v g v s other d.there known).1 c l at in omega arith

      note_comes_so : Comes x v s (Receives c (read_note (names_of s) n))
      unfolding names_of
      note_comes_so = record {
        brings = λ m. (of_note (Sent m) n, came_of (Sent m) c (names_in s.known) n, (let a = on_first m in let b = link_total (on_link (Sent m)) c v x.links l at in omega arith));
        comes = note_comes (names_in s.known) n well_note;
        arrives = note_arrives (names_in s.known) c v n not_self (sound_note_of x c v n ns l past.counted at notes);
        light = note_light;
      }

    pub asked_on : Moved script x y → Once (Asked y u h)
    asked_on (Still v l d) = still (subst (λ ks. AtLink u h (Asks u h (Asked x u h)) ks) (sym l) (first_asks x u h))
    asked_on (Severs a b v l d) = still (subst (λ ks. AtLink u h (Asks u h (Asked x u h)) ks) (sym l) (cut_asks u h (Asked x u h) b a (with_link severed_link a b x.links) (cut_asks u h (Asked x u h) a b x.links (first_asks x u h))))
    asked_on (Drops c v n ns l at notes none vats links drawn) = still (subst (λ ks. AtLink u h (Asks u h (Asked x u h)) ks) (sym links) (taken_asks u h (Asked x u h) c v ns x.links (first_asks x u h)))
    asked_on (Steps v s q t what alone_so d vats links drawn first fresh) = stepped v s q t what d
        (record { brings = λ m. (0, alone_came (Sent m) what alone_so, omega arith); comes = alone_comes what alone_so; arrives = alone_arrives v what alone_so; light = λ m g other known. alone_leaves (Sent m) what alone_so })
        x.links vats links (first_asks x u h) (eq_dec u v)
    asked_on (Arrives c v s t n ns l at cut notes d vats links drawn first fresh) = stepped v s s t (Receives c (read_note (names_of s) n)) d (note_comes_so c v s t n ns l at notes d) (with_link (with_notes ns) c v x.links) vats links (taken_asks u h (Asked x u h) c v ns x.links (first_asks x u h)) (eq_dec u v)
