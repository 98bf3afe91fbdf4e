-- A message that was lost on a cut link has no place, and the vat for which it was does not know its answer.
use Rattle.std.proofs.Common.{◌≡◌, ℕ, ◌+◌, ◌≤◌, ◌<◌, Bool, true, false, List, [], ◌∷◌, Option, Some, None, refl, sym, ap, subst, ◌∙◌, ◌⊎◌, inl, inr, arith}
use Rattle.std.specs.Prelude.{slice_get}
use Rattle.def_machine.specs.Values.{Name, Answer, Sent, Msg}
use Rattle.def_machine.specs.State.{Note, Put, Vat}
use Rattle.law_machine.specs.Machine.Steps.{Step, Receives}
use Rattle.def_run.specs.Wire.{connected_at}
use Rattle.def_run.specs.World as world
use Rattle.def_run.specs.World.{Script, Link, World, link_at, with_link, with_notes, severed_link, put_at, push_all, names_of, read_note, cut_in}
use Rattle.law_fate.specs.Fates.Fate.{total, of_note, on_link, at_vat, sent_in, put_out}
use Rattle.law_fate.specs.Fates.FateLaws.{brought as fate_brought}
use Rattle.law_fate.specs.Fates.CarryLaws.{leaves}
use Rattle.law_fate.specs.Fates.Lasting.{StepComes}
use Rattle.law_fate.specs.Fates.Sound.{StepArrives}
use Rattle.law_fate.proofs.Fates.WorldLight.{VatSound, note_arrives, note_pays}
use Rattle.law_fate.proofs.Fates.RunCounts.{with_link_changes}
use Rattle.law_fate.proofs.Fates.RunWell.{note_comes, found_link}
use Rattle.law_fate.specs.Fates.Lasting.{NoteWell}
use Rattle.law_fate.specs.Name.Names.{IsAmong, names_in}
use Rattle.law_fate.proofs.Name.Among.{all_among}
use Rattle.law_reference.specs.Reference.Knowing.{brought, numbered_at}
use Rattle.law_reference.specs.Reference.Logs as wire
use Rattle.law_reference.proofs.Reference.AnswerLinks.{AtLink}
use Rattle.law_reference.proofs.Reference.Counts.{Counted, world_one, world_none, numbered_most, IsNew, step_weighs, step_sends, step_knows, step_age}
use Rattle.law_reference.proofs.Reference.First.{among_dec}
use Rattle.law_reference.proofs.Reference.Fresh.{made_or}
use Rattle.law_reference.proofs.Reference.Follow.{eq_dec, put_cases}
use Rattle.law_reference.proofs.Reference.LegFacts.{mailed_at, new_nowhere}
use Rattle.law_reference.proofs.Reference.LegMoves.{LegsOf, head_of, came_of, first_weight, sound_note_of}
use Rattle.law_reference.proofs.Reference.LegRuns.{Before, first_mails, unknown_not, brings_mail, alone_brings, self_none, alone_leaves, alone_came, alone_comes, alone_arrives}
use Rattle.law_reference.proofs.Reference.Moves.{Moved, Still, Severs, Drops, Steps, Arrives, Does, waiting}
use Rattle.law_reference.proofs.Reference.Onward.{claims_known, claims_own}
use Rattle.law_reference.proofs.Reference.Places.{note_most}
use Rattle.law_frame.specs.Frame.Asked.{AsksOf}
use Rattle.law_frame.proofs.Frame.Before.{MovePutsNot, PutsNot, asked_before}
use Rattle.law_frame.proofs.Frame.Exported.{among_split}
use Rattle.law_frame.proofs.Frame.LinksGo.{FoundFrom}
use Rattle.law_frame.proofs.Frame.Places.{same_or, link_other}
use Rattle.law_frame.proofs.Frame.SourceLaws.{log_is, asks_in}
use Rattle.law_frame.proofs.Frame.Worlds.{asker}
use Rattle.law_frame.proofs.Frame.Written.{severed_from, severed_to, notes_from, notes_to}
use Rattle.law_frame.proofs.Heard.CutCounts.{sever_most, sever_takes, asks_bears, puts_not, puts_weigh, load_puts, places_after, places_lost}
use Rattle.law_frame.proofs.Heard.CutHeard.{Answers, HeardOn}
use Rattle.law_frame.proofs.Heard.Kept.{Kept}
use Rattle.law_frame.proofs.Heard.Moves.{goes_of}
use Rattle.law_frame.proofs.Heard.Open.{some_is, open_taken, open_pushed}
use Rattle.law_frame.proofs.Heard.Pairs.{Paired, true_false}
use Rattle.law_frame.proofs.Heard.Pending.{Facts, wires, splits, stands, sent}
use Rattle.law_frame.proofs.Heard.Steps.{Asked, AllKept}

abbrev pub Unplaced : Msg → World → Type 0
Unplaced m w = total (at_vat (Sent m)) w.vats + total (on_link (Sent m)) w.links ≤ 0

-- a message for vat g, in state r
abbrev pub Lost : Msg → ℕ → Vat Name → World → Type 0
Lost m g r w = Unplaced m w × (IsAmong (Answer g m) (names_in r.known) → ⊥)

-- So it is where its answer was asked for by a link that is cut, and that was not heard.
abbrev pub AnswersLost : World → Type 0
AnswersLost w = (u g : ℕ) (m : Msg) (r : Vat Name) → (u ≡ g → ⊥) → slice_get w.vats g ≡ Some r → (l : Link) → link_at u g w.links ≡ Some l → l.cut ≡ true → IsAmong (Answer g m) (Asked w u g) → (IsAmong (Answer g m) (Answers w.connections g u) → ⊥) → Lost m g r w

module _ (script : Script) where
  -- what is known of the world before
  pub record Past (w : World) : Type 0 where
    pub facts : Facts script w
    pub legs : LegsOf w
    pub kept : AllKept w
    pub paired : Paired w

  module _ (x y : World) (f : Past x) (next : Facts script y) (on : HeardOn x y) (before : AnswersLost x) (u g : ℕ) (m : Msg) (r : Vat Name) (other : u ≡ g → ⊥) (at : slice_get y.vats g ≡ Some r)
      (l : Link) (link : link_at u g y.links ≡ Some l) (cut : l.cut ≡ true) (asks : IsAmong (Answer g m) (Asked y u g)) (unheard : IsAmong (Answer g m) (Answers y.connections g u) → ⊥) where
    abbrev M : Name
    M = Sent m

    abbrev Z : Name
    Z = Answer g m

    -- the message was made before a step of vat v from one state to another
    abbrev Aged : ℕ → Vat Name → Vat Name → Type 0
    Aged v s t = (sent_in M t.happened ≤ 0) × ((h : ℕ) → numbered_at v (Answer h m) t ≤ numbered_at v (Answer h m) s)

    bef : Before script x
    bef = f.facts.knows.past.0

    counted : Counted x
    counted = bef.counted

    unheard_before : IsAmong Z (Answers x.connections g u) → ⊥
    unheard_before a = unheard (on g u Z a)

    -- who asked for it knows it
    asking : IsAmong Z (Asked x u g) → (s : Vat Name) × (slice_get x.vats u ≡ Some s) × IsAmong Z (names_in s.known)
    unfolding wire.questions wire.questions_in wire.log_of
    asking a = by_link (link_at u g x.links) refl
      where
        by_vat : (k : Link) → link_at u g x.links ≡ Some k → (o : Option (Vat Name)) → slice_get x.vats u ≡ o → (s : Vat Name) × (slice_get x.vats u ≡ Some s) × IsAmong Z (names_in s.known)
        by_vat k e None i = absurd (subst (λ ns. IsAmong Z (wire.questions_in g ns)) (log_is k (link_at u g x.links) e ∙ f.facts.knows.none u g i k e) a)
        by_vat k e (Some s) i = (s, i, all_among (λ z. IsAmong z (names_in s.known)) (wire.questions (λ i. i) x.links u g) Z (f.facts.asked u s i g) a)

        by_link : (o : Option Link) → link_at u g x.links ≡ o → (s : Vat Name) × (slice_get x.vats u ≡ Some s) × IsAmong Z (names_in s.known)
        by_link None e = absurd (subst (λ o. IsAmong Z (wire.questions_in g (wire.log_of o))) e a)
        by_link (Some k) e = by_vat k e (slice_get x.vats u) refl

    shut_by : (AtLink u g (λ (k : Link). k.cut ≡ false) x.links → AtLink u g (λ (k : Link). k.cut ≡ false) y.links) → (k : Link) → link_at u g x.links ≡ Some k → k.cut ≡ true
    shut_by o k e = by k.cut refl
      where
        by : (b : Bool) → k.cut ≡ b → k.cut ≡ true
        by true i = i
        by false i = absurd (true_false cut (o (λ j h. subst (λ (z : Link). z.cut ≡ false) (some_is k j (sym e ∙ h)) i) l link))

    to_after : (vats : List (Vat Name)) (ls : List Link) → y.vats ≡ vats → y.links ≡ ls → total (at_vat M) vats + total (on_link M) ls ≤ 0 → Unplaced m y
    to_after vats ls e i h = subst (λ us. total (at_vat M) us + total (on_link M) y.links ≤ 0) (sym e) (subst (λ ks. total (at_vat M) vats + total (on_link M) ks ≤ 0) (sym i) h)

    same_before : y.vats ≡ x.vats → slice_get x.vats g ≡ Some r
    same_before e = ap (λ us. slice_get us g) (sym e) ∙ at

    -- ---- where it was asked for before, by a link that was cut

    module _ (asked : IsAmong Z (Asked x u g)) (k : Link) (was : link_at u g x.links ≡ Some k) (shut : k.cut ≡ true) where
      lost : (s : Vat Name) → slice_get x.vats g ≡ Some s → Lost m g s x
      lost s i = before u g m s other i k was shut asked unheard_before

      -- no vat takes a step
      stays : (ls : List Link) → y.vats ≡ x.vats → y.links ≡ ls → total (on_link M) ls ≤ total (on_link M) x.links → Lost m g r y
      stays ls e i less = let h = lost r (same_before e) in let a = h.0 in (to_after x.vats ls e i (omega arith), h.1)

      -- vat v does
      module _ (v : ℕ) (s q t : Vat Name) (what : Step Name Name) (d : Does script x v s q t what) (ls : List Link) (arr : ℕ) (came : fate_brought M what ≤ waiting M what + arr) (less : total (on_link M) ls + arr ≤ total (on_link M) x.links)
          (brings : (IsAmong (Answer v m) (names_in s.known) → ⊥) → brought v (Answer v m) s.gifts what ≤ arr) (vats : y.vats ≡ put_at v t x.vats) (links : y.links ≡ push_all v t.outbox ls) where
        sound : VatSound v s
        sound = let w = counted.sound in w.vats v s d.there

        sends_none : sent_in M t.happened ≤ 0
        sends_none = either (step_age script x v s q t what d sound m)
          where
            either : Aged v s t ⊎ IsNew script x v s q t what d sound m → sent_in M t.happened ≤ 0
            either (inl o) = o.0
            either (inr n) = let a = asking asked in absurd (new_nowhere script x (stands script x f.facts) m v s d.there n.0 n.1 u g a.0 a.1 a.2)

        few : (o : Vat Name) → slice_get x.vats g ≡ Some o → Unplaced m y
        few o i = let h = (lost o i).0 in let a = places_after script x v s q t what d m arr came ls in let b = sends_none in to_after (put_at v t x.vats) (push_all v t.outbox ls) vats links (omega arith)

        mine : g ≡ v → IsAmong (Answer v m) (names_in t.known) → ⊥
        mine i known = either (step_age script x v s q t what d sound m)
          where
            h : Lost m g s x
            h = lost s (ap (λ c. slice_get x.vats c) i ∙ d.there)

            none : IsAmong (Answer v m) (names_in s.known) → ⊥
            none a = h.1 (subst (λ c. IsAmong (Answer c m) (names_in s.known)) (sym i) a)

            either : Aged v s t ⊎ IsNew script x v s q t what d sound m → ⊥
            either (inl o) = let p = claims_known v (Answer v m) t.known known in let a = step_knows script x v s q t what d sound m v in let b = claims_own v m s.known (mailed_at script x (stands script x f.facts) v s d.there) none in
                let c = o.1 v in let e = brings none in let z = h.0 in absurd (omega arith)
            either (inr n) = let a = asking asked in absurd (new_nowhere script x (stands script x f.facts) m v s d.there n.0 n.1 u g a.0 a.1 a.2)

        steps_lost : Lost m g r y
        steps_lost = either (put_cases v t x.vats g r (subst (λ us. slice_get us g ≡ Some r) vats at))
          where
            either : ((g ≡ v) × (t ≡ r)) ⊎ ((g ≡ v → ⊥) × (slice_get x.vats g ≡ Some r)) → Lost m g r y
            either (inl i) = (few s (ap (λ c. slice_get x.vats c) i.0 ∙ d.there), λ a. mine i.0 (subst (λ c. IsAmong (Answer c m) (names_in t.known)) i.0 (subst (λ (z : Vat Name). IsAmong Z (names_in z.known)) (sym i.1) a)))
            either (inr i) = (few r i.1, (lost r i.1).1)

    -- ---- where it is asked for only now, by a link that is cut

    module _ (s q t : Vat Name) (what : Step Name Name) (d : Does script x u s q t what) (ls : List Link) (arr : ℕ) (came : fate_brought M what ≤ waiting M what + arr) (less : total (on_link M) ls + arr ≤ total (on_link M) x.links)
        (comes : StepComes what) (arrives : StepArrives u what) (leaving : IsAmong Z (names_in r.known) → slice_get x.vats g ≡ Some r → leaves M what ≤ 0)
        (vats : y.vats ≡ put_at u t x.vats) (links : y.links ≡ push_all u t.outbox ls) (j : Link) (way : link_at u g ls ≡ Some j) (shut : j.cut ≡ true) (puts : PutsNot g Z t.outbox → ⊥) where
      sound_here : VatSound u s
      sound_here = let w = counted.sound in w.vats u s d.there

      abbrev Cuts : ℕ → Bool
      Cuts = λ c. world.is_cut u c ls

      cut_there : world.is_cut u g ls ≡ true
      unfolding world.is_cut cut_in
      cut_there = ap cut_in way ∙ shut

      some_lost : put_out Cuts M t.outbox + 1 ≤ total (λ (p : Put Name). of_note M p.note) t.outbox
      some_lost = either (made_or (put_out Cuts M t.outbox) (total (λ (p : Put Name). of_note M p.note) t.outbox))
        where
          either : (put_out Cuts M t.outbox < total (λ (p : Put Name). of_note M p.note) t.outbox) ⊎ (total (λ (p : Put Name). of_note M p.note) t.outbox ≤ put_out Cuts M t.outbox) → put_out Cuts M t.outbox + 1 ≤ total (λ (p : Put Name). of_note M p.note) t.outbox
          either (inl h) = omega arith
          either (inr h) = absurd (puts (puts_not g m Cuts cut_there t.outbox h))

      no_place : Unplaced m y
      no_place = to_after (put_at u t x.vats) (push_all u t.outbox ls) vats links (either (step_age script x u s q t what d sound_here m))
        where
          either : Aged u s t ⊎ IsNew script x u s q t what d sound_here m → total (at_vat M) (put_at u t x.vats) + total (on_link M) (push_all u t.outbox ls) ≤ 0
          either (inl o) = let a = places_lost script x u s q t what d m arr came ls some_lost in let b = world_one M x (counted.fated M) in let c = o.0 in omega arith
          either (inr n) = let a = places_lost script x u s q t what d m arr came ls some_lost in let b = world_none m u s x (counted.fated M) d.there n.0 n.1 in let c = step_sends script x u s q t what d sound_here m in let e = numbered_most u t.messages m in omega arith

      not_known : IsAmong Z (names_in r.known) → ⊥
      not_known a = by_place (put_cases u t x.vats g r (subst (λ us. slice_get us g ≡ Some r) vats at)) (step_age script x u s q t what d sound_here m)
        where
          by_place : ((g ≡ u) × (t ≡ r)) ⊎ ((g ≡ u → ⊥) × (slice_get x.vats g ≡ Some r)) → Aged u s t ⊎ IsNew script x u s q t what d sound_here m → ⊥
          by_place (inl i) o = other (sym i.0)
          by_place (inr i) (inr n) = new_nowhere script x (stands script x f.facts) m u s d.there n.0 n.1 g g r i.1 a
          by_place (inr i) (inl o) = let w = step_weighs script x u s q t what d sound_here m comes arrives in let b = leaving a i.1 in let c = (f.legs.apart m u g g r i.0 i.1 a).0 s d.there in
              let e = o.0 in let h = load_puts M t in let p = puts_weigh M t.outbox in let z = some_lost in absurd (omega arith)

      put_lost : Lost m g r y
      put_lost = (no_place, not_known)

    -- ---- where the link is cut

    among_total : (ns : List (Note Name)) (n : Note Name) → IsAmong n ns → of_note M n ≤ total (of_note M) ns
    unfolding total
    among_total [] n a = absurd a
    among_total (p ∷ ns) n (inl e) = let z : of_note M n ≡ of_note M p = ap (of_note M) e in omega arith
    among_total (p ∷ ns) n (inr a) = let z = among_total ns n a in omega arith

    module _ (asked : IsAmong Z (Asked x u g)) (k : Link) (was : link_at u g x.links ≡ Some k) (free : k.cut ≡ false) (vats : y.vats ≡ x.vats) where
      back : (j : Link) × (link_at g u x.links ≡ Some j) × (j.cut ≡ false)
      back = let wired = wires script x f.facts in let j = wired.paired u g (k, was) in let alike = f.paired.0 u g in (j.0, j.1, alike.2 j.0 j.1 ∙ sym (alike.1 k was) ∙ free)

      kept : Kept u g (Asked x u g) (Asked x g u) (connected_at u g x.connections) (connected_at g u x.connections) k.log k.notes k.roots
      kept = let a = asking asked in f.kept u g other a.0 r a.1 (same_before vats) k back.0 was back.1 free back.2

      bears : 1 ≤ on_link M k
      unfolding on_link wire.questions
      bears = by (asker g Z k.log (subst (λ ns. IsAmong Z (wire.questions_in g ns)) (log_is k (link_at u g x.links) was) asked))
        where
          by : (n : Note Name) × IsAmong n k.log × AsksOf g n Z → 1 ≤ total (of_note M) k.notes
          by z = go (among_split z.0 kept.2 k.notes (subst (λ ns. IsAmong z.0 ns) kept.5 z.1))
            where
              go : IsAmong z.0 (kept.2) ⊎ IsAmong z.0 k.notes → 1 ≤ total (of_note M) k.notes
              go (inl i) = absurd (unheard_before (subst (λ qs. IsAmong Z qs) (sym kept.6) (asks_in g Z kept.2 z.0 i z.2)))
              go (inr i) = let own = (sent script x f.facts u g k was z.0 z.1).0 in let a = asks_bears g m z.0 own z.2 in let b = among_total k.notes z.0 i in omega arith

      severs_lost : (a b : ℕ) → y.links ≡ with_link severed_link b a (with_link severed_link a b x.links) → Lost m g r y
      severs_lost a b links = (to_after x.vats (with_link severed_link b a (with_link severed_link a b x.links)) vats links (by (same_or a b u g) (same_or b a u g)), λ i. let e = f.legs.early m u g r (same_before vats) i k was in let c = bears in absurd (omega arith))
        where
          one : List Link
          one = with_link severed_link a b x.links

          by : ((a ≡ u) × (b ≡ g)) ⊎ (a ≡ u → b ≡ g → ⊥) → ((b ≡ u) × (a ≡ g)) ⊎ (b ≡ u → a ≡ g → ⊥) → total (at_vat M) x.vats + total (on_link M) (with_link severed_link b a (with_link severed_link a b x.links)) ≤ 0
          by (inl i) o = let c = sever_takes M a b x.links k (ap (λ z. link_at z b x.links) i.0 ∙ ap (λ z. link_at u z x.links) i.1 ∙ was) in let e = sever_most M b a (with_link severed_link a b x.links) in let w = world_one M x (counted.fated M) in let n = bears in omega arith
          by (inr o) (inl i) = let c = sever_most M a b x.links in
              let e = sever_takes M b a (with_link severed_link a b x.links) k (ap (λ z. link_at z a (with_link severed_link a b x.links)) i.0 ∙ ap (λ z. link_at u z (with_link severed_link a b x.links)) i.1 ∙ link_other severed_link severed_from severed_to a b u g x.links o ∙ was) in
              let w = world_one M x (counted.fated M) in let n = bears in omega arith
          by (inr o) (inr p) = absurd (true_false cut (ap (λ (z : Link). z.cut) (some_is l k (sym link ∙ ap (λ ks. link_at u g ks) links ∙ link_other severed_link severed_from severed_to b a u g (with_link severed_link a b x.links) p ∙ link_other severed_link severed_from severed_to a b u g x.links o ∙ was)) ∙ free))

    -- ---- any move

    found_before : (move : Moved script x y) → FoundFrom x.links u g l
    found_before move = goes_of script x y (splits script x f.facts) move u g l link

    asked_then : (move : Moved script x y) → MovePutsNot x u g Z script y move → IsAmong Z (Asked x u g)
    asked_then move p = asked_before x u g Z script y (wires script y next) move p asks

    by_still : (vats : y.vats ≡ x.vats) (links : y.links ≡ x.links) → Moved script x y → IsAmong Z (Asked x u g) → Lost m g r y
    by_still vats links move a = let w = found_before move in stays a w.0 w.1 (shut_by (λ h. subst (λ ks. AtLink u g (λ (k : Link). k.cut ≡ false) ks) (sym links) h) w.0 w.1) x.links vats links (omega arith)

    by_severs : (a b : ℕ) (vats : y.vats ≡ x.vats) (links : y.links ≡ with_link severed_link b a (with_link severed_link a b x.links)) → Moved script x y → IsAmong Z (Asked x u g) → Lost m g r y
    by_severs a b vats links move asked = let w = found_before move in by w.0 w.1 w.0.cut refl
      where
        by : (k : Link) → link_at u g x.links ≡ Some k → (c : Bool) → k.cut ≡ c → Lost m g r y
        by k e true i = stays asked k e i (with_link severed_link b a (with_link severed_link a b x.links)) vats links (let c = sever_most M a b x.links in let d = sever_most M b a (with_link severed_link a b x.links) in omega arith)
        by k e false i = severs_lost asked k e i vats a b links

    taken_less : (a v : ℕ) (n : Note Name) (ns : List (Note Name)) (k : Link) → link_at a v x.links ≡ Some k → k.notes ≡ n ∷ ns → total (on_link M) (with_link (with_notes ns) a v x.links) + of_note M n ≤ total (on_link M) x.links
    unfolding with_notes on_link total
    taken_less a v n ns k e notes = let c = with_link_changes M (with_notes ns) a v x.links k e in let h : total (of_note M) k.notes ≡ of_note M n + total (of_note M) ns = ap (λ js. total (of_note M) js) notes in omega arith

    by_drops : (a v : ℕ) (n : Note Name) (ns : List (Note Name)) (k : Link) → link_at a v x.links ≡ Some k → k.notes ≡ n ∷ ns → (vats : y.vats ≡ x.vats) (links : y.links ≡ with_link (with_notes ns) a v x.links) → Moved script x y → IsAmong Z (Asked x u g) → Lost m g r y
    by_drops a v n ns k e notes vats links move asked = let w = found_before move in
        stays asked w.0 w.1 (shut_by (λ h. subst (λ ks. AtLink u g (λ (k : Link). k.cut ≡ false) ks) (sym links) (open_taken u g a v ns x.links h)) w.0 w.1) (with_link (with_notes ns) a v x.links) vats links (let c = taken_less a v n ns k e notes in omega arith)

    -- a step of vat v
    module _ (v : ℕ) (s q t : Vat Name) (what : Step Name Name) (d : Does script x v s q t what) (ls : List Link) (arr : ℕ) (came : fate_brought M what ≤ waiting M what + arr) (less : total (on_link M) ls + arr ≤ total (on_link M) x.links)
        (brings : (IsAmong (Answer v m) (names_in s.known) → ⊥) → brought v (Answer v m) s.gifts what ≤ arr) (comes : StepComes what) (arrives : StepArrives v what)
        (leaving : v ≡ u → IsAmong Z (names_in r.known) → slice_get x.vats g ≡ Some r → leaves M what ≤ 0)
        (vats : y.vats ≡ put_at v t x.vats) (links : y.links ≡ push_all v t.outbox ls) (opened : AtLink u g (λ (k : Link). k.cut ≡ false) x.links → AtLink u g (λ (k : Link). k.cut ≡ false) ls)
        (same : v ≡ u → link_at u g ls ≡ link_at u g x.links) (move : Moved script x y) (puts : (u ≡ v → PutsNot g Z t.outbox) → IsAmong Z (Asked x u g)) where
      shut : (k : Link) → link_at u g x.links ≡ Some k → k.cut ≡ true
      shut k e = shut_by (λ h. subst (λ ks. AtLink u g (λ (j : Link). j.cut ≡ false) ks) (sym links) (open_pushed u g v t.outbox ls (opened h))) k e

      by_step : Lost m g r y
      by_step = either (found_before move) (among_dec Z (Asked x u g)) (eq_dec v u)
        where
          now : (k : Link) → link_at u g x.links ≡ Some k → (IsAmong Z (Asked x u g) → ⊥) → v ≡ u → Lost m g r y
          now k e o i = put_lost s q t what (subst (λ c. Does script x c s q t what) i d) ls arr came less comes (subst (λ c. StepArrives c what) i arrives) (leaving i)
              (vats ∙ ap (λ c. put_at c t x.vats) i) (links ∙ ap (λ c. push_all c t.outbox ls) i) k (same i ∙ e) (shut k e) (λ p. o (puts (λ z. p)))

          either : FoundFrom x.links u g l → IsAmong Z (Asked x u g) ⊎ (IsAmong Z (Asked x u g) → ⊥) → (v ≡ u) ⊎ (v ≡ u → ⊥) → Lost m g r y
          either w (inl a) e = steps_lost a w.0 w.1 (shut w.0 w.1) v s q t what d ls arr came less brings vats links
          either w (inr o) (inl i) = now w.0 w.1 o i
          either w (inr o) (inr n) = absurd (o (puts (λ z. absurd (n (sym z)))))

    by_arrival : (a v : ℕ) (s t : Vat Name) (n : Note Name) (ns : List (Note Name)) (k : Link) → link_at a v x.links ≡ Some k → k.cut ≡ false → k.notes ≡ n ∷ ns → Does script x v s s t (Receives a (read_note (names_of s) n))
        → y.vats ≡ put_at v t x.vats → y.links ≡ push_all v t.outbox (with_link (with_notes ns) a v x.links) → Moved script x y → ((u ≡ v → PutsNot g Z t.outbox) → IsAmong Z (Asked x u g)) → Lost m g r y
    unfolding names_of brought leaves
    by_arrival a v s t n ns k e free notes d vats links move puts =
        by_step v s s t (Receives a (read_note (names_of s) n)) d (with_link (with_notes ns) a v x.links) (of_note M n) (came_of M a (names_in s.known) n) (taken_less a v n ns k e notes)
        (λ o. brings_mail v v m a s.gifts (names_in s.known) n (first_mails script x a v n ns k bef e notes) (unknown_not script x a v m s n ns k bef f.legs.none d.there e free notes o))
        (note_comes (names_in s.known) n (let w = counted.well in head_of NoteWell k.notes n ns (found_link a v x.links k e w.links) notes))
        (note_arrives (names_in s.known) a v n self (sound_note_of x a v n ns k counted e notes)) left
        vats links (open_taken u g a v ns x.links) (λ i. link_other (with_notes ns) (notes_from ns) (notes_to ns) a v u g x.links (λ p c. other (sym i ∙ c))) move puts
      where
        self : a ≡ v → ⊥
        self i = self_none x.links (counted.fated M).apart v k (ap (λ z. link_at z v x.links) (sym i) ∙ e)

        left : v ≡ u → IsAmong Z (names_in r.known) → slice_get x.vats g ≡ Some r → leaves M (Receives a (read_note (names_in s.known) n)) ≤ 0
        left i known there = let c = note_pays M (names_in s.known) n in let p = first_weight M k n ns notes in let z = note_most M n in
            let h = (f.legs.apart m u g g r (λ c. other (sym c)) there known).1 a k (ap (λ c. link_at a c x.links) (sym i) ∙ e) in omega arith

    moved_lost : Moved script x y → Lost m g r y
    moved_lost (Still v k d) = by_still v k (Still v k d) (asked_then (Still v k d) tt)
    moved_lost (Severs a b v k d) = by_severs a b v k (Severs a b v k d) (asked_then (Severs a b v k d) tt)
    moved_lost (Drops a v n ns k e notes none vats links drawn) = by_drops a v n ns k e notes vats links (Drops a v n ns k e notes none vats links drawn) (asked_then (Drops a v n ns k e notes none vats links drawn) tt)
    moved_lost (Steps v s q t what alone d vats links drawn first fresh) = let move = Steps v s q t what alone d vats links drawn first fresh in
        by_step v s q t what d x.links 0 (alone_came M what alone) (omega arith) (λ o. alone_brings v (Answer v m) s.gifts what alone) (alone_comes what alone) (alone_arrives v what alone) (λ i a b. alone_leaves M what alone)
        vats links (λ h. h) (λ i. refl) move (λ p. asked_then move p)
    moved_lost (Arrives a v s t n ns k e free notes d vats links drawn first fresh) = let move = Arrives a v s t n ns k e free notes d vats links drawn first fresh in
        by_arrival a v s t n ns k e free notes d vats links move (λ p. asked_then move p)

  pub lost_on : (x y : World) → Past x → Facts script y → HeardOn x y → Moved script x y → AnswersLost x → AnswersLost y
  lost_on x y f next on move before u g m r other at l link cut asks unheard = moved_lost x y f next on before u g m r other at l link cut asks unheard move
