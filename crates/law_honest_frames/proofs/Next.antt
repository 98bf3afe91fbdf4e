-- In each state of a run in numbers what is heard in the next frame tells something, and is received as it arrives.
use Rattle.std.proofs.Common.{◌≡◌, ℕ, zero, suc, ◌+◌, ◌<◌, Bool, true, false, not, ◌&&◌, if◌then◌else◌, List, [], ◌∷◌, ◌++◌, Option, Some, None, refl, sym, ap, subst, ◌∙◌, length, map, inl, inr, arith}
use Rattle.std.specs.Prelude.{slice_get, is_some, ◌==◌}
use Rattle.def_machine.specs.Values.{Ref, Name, Gift, key, Naming, numbering, naming, Local}
use Rattle.def_machine.specs.State.{Passed, Passeds, Plain, AGift, Many, NoMore, More, Note, Deliver, Open, Ask, SettledTo, Elsewhere, Shorten, GiftEntry, Vat, drawn_at, is_gift, is_in}
use Rattle.def_machine.specs.Arrive.{Incoming, Old, New, gift_at, arrive}
use Rattle.def_machine.specs.Maps as maps
use Rattle.def_machine.specs.Maps.{incoming}
use Rattle.def_machine.specs.Receive as receiving
use Rattle.def_machine.specs.Receive.{Sight, receive, tells_nothing, leads_back, break_back}
use Rattle.def_run.specs.Connections.{Connection, Heard, learnt_at}
use Rattle.def_run.specs.Draws.{draw_word}
use Rattle.def_run.specs.Entered.{sight_by}
use Rattle.def_run.specs.Numbers as numbers
use Rattle.def_run.specs.Numbers.{Frame, Way, Vats, way_at, ready}
use Rattle.def_run.specs.Vats.{Member, connection_for, heard_in}
use Rattle.def_run.specs.Wire.{connected_at}
use Rattle.def_run.specs.World as world
use Rattle.def_run.specs.World.{Script, Entry, Link, World, Goes, link_at, has_name, names, names_of, read_note, readied}
use Rattle.def_hostile.specs.Arrivals.{sees, is_question, brings_nothing}
use Rattle.law_machine.specs.Machine.Receiving.{Receiving, Ignored, BrokenBack, Arrived}
use Rattle.law_machine.proofs.Machine.ReceivingLaws.{each_receiving}
use Rattle.law_machine.specs.Renamed.Stands.{Table, Found, Is, found, IsTable, StandsFor}
use Rattle.law_machine.proofs.Renamed.Stands.{Extends}
use Rattle.law_fate.specs.Name.Names.{AllOf, IsAmong, names_in}
use Rattle.law_fate.specs.Name.Runs.{KnowsOnce}
use Rattle.law_fate.proofs.Name.Among.{not_drawn}
use Rattle.law_fate.proofs.Name.SameNames.{among_has}
use Rattle.law_reference.specs.Reference.Cuts.{NoticesFollowCuts}
use Rattle.law_reference.specs.Reference.Tables.{table_of}
use Rattle.law_reference.proofs.Reference.ApartWhole.{have_tables}
use Rattle.law_frame.specs.Frame.Alike.{names_heard, table_heard, from_peer, as_told}
use Rattle.law_frame.specs.Heard.Hearing.{as_heard, named}
use Rattle.law_frame.specs.Heard.Received.{SeesNew}
use Rattle.law_frame.specs.Local.Hearing.{unnamed, HearsSo}
use Rattle.law_frame.specs.Local.Mirrors.{Mirrors, WayMirrors, VatMirrors}
use Rattle.law_frame.proofs.Frame.Grow.{after_starts, starts_on, starts_same, get_front}
use Rattle.law_frame.proofs.Frame.WireAsking.{GiftFits}
use Rattle.law_frame.proofs.Heard.Bare.{found_number}
use Rattle.law_frame.proofs.Heard.Pending.{wires}
use Rattle.law_frame.proofs.Local.CarryLinks.{frame_first}
use Rattle.law_frame.proofs.Local.HeardRuns.{frames_heard}
use Rattle.law_frame.proofs.Local.Positions.{there_is}
use Rattle.law_frame.proofs.Local.Ways.{MayMirror, at_mirrors}
use Rattle.law_hostile_frame.specs.Honest.{SameOutcome, FramesAreReceived}
use Rattle.law_instance.proofs.Anew.{worldly, others, sees_new, received_by}
use Rattle.law_instance.proofs.Received.{new_so as new_in_names}
use Rattle.law_honest_frames.proofs.Received as same
use Rattle.law_honest_frames.proofs.Received.{both_stop, hosted_same, unlearnt}

-- what nothing looks at
heard_nothing : (K : Naming Name Name) (S : Sight Name) (v u : ℕ) (z : Note (Incoming Name Name)) (r : Vat Name) → tells_nothing K S v (as_heard v u z) r ≡ tells_nothing K S v z r
unfolding tells_nothing as_heard as_told
heard_nothing K S v u (Deliver d x verb ys) r = refl
heard_nothing K S v u (Open i x) r = refl
heard_nothing K S v u (Ask p i x) r = refl
heard_nothing K S v u (SettledTo x y) r = refl
heard_nothing K S v u (Elsewhere x c) r = refl
heard_nothing K S v u (Shorten x c i) r = refl

none_of : (b c : Bool) → (not b && c) ≡ true → (b ≡ false) × (c ≡ true)
none_of true c e = cc
none_of false c e = (refl, e)

if_false : (b c d : Bool) → c ≡ false → d ≡ false → (if b then c else d) ≡ false
if_false true c d e f = e
if_false false c d e f = f

differ : (b : Bool) → b ≡ true → b ≡ false → ⊥
differ b e f = cc

-- ---- what is known stays in front

abbrev Front : List Name → List Name → Type 0
Front ks js = (more : List Name) × (js ≡ ks ++ more)

mutual
  unfolding world.read_passed world.read_all world.plain_read world.many_read world.more_read world.read_value

  passed_front : (y : Passed Name) (ks : List Name) → Front ks (world.read_passed y ks).known
  passed_front (Plain (Ref n)) ks = after_starts ks n
  passed_front (Plain y) ks = starts_same ks
  passed_front (AGift h i) ks = (Gift h i ∷ [], refl)
  passed_front (Many ys) ks = all_front ys ks

  all_front : (ys : Passeds Name) (ks : List Name) → Front ks (world.read_all ys ks).known
  all_front NoMore ks = starts_same ks
  all_front (More y ys) ks = starts_on ks (world.read_passed y ks).known (world.read_all ys (world.read_passed y ks).known).known (passed_front y ks) (all_front ys (world.read_passed y ks).known)

heard_front : (ks : List Name) (n : Note Name) → Front ks (names_heard ks n)
unfolding names_heard
heard_front ks (Deliver d n verb ys) = starts_on ks (world.read_all ys ks).known (world.known_after (world.read_all ys ks).known n) (all_front ys ks) (after_starts (world.read_all ys ks).known n)
heard_front ks (Open i n) = after_starts ks n
heard_front ks (Ask p i n) = starts_same ks
heard_front ks (SettledTo n y) = starts_on ks (world.known_after ks n) (world.read_passed y (world.known_after ks n)).known (after_starts ks n) (passed_front y (world.known_after ks n))
heard_front ks (Elsewhere n c) = after_starts ks n
heard_front ks (Shorten n c i) = after_starts ks n

-- ---- a gift that is found

found_or : (P : GiftEntry Name → Type 0) (b : Bool) (k g : GiftEntry Name) (o : Option (GiftEntry Name)) → P k → (o ≡ Some g → P g) → elim b [ true ↦ Some k | false ↦ o ] ≡ Some g → P g
found_or P true k g o h f e = subst P (let same : k ≡ g = cc in same) h
found_or P false k g o h f e = f e

all_found : (P : GiftEntry Name → Type 0) (p i : ℕ) (gs : List (GiftEntry Name)) (g : GiftEntry Name) → AllOf P gs → gift_at p i gs ≡ Some g → P g
unfolding gift_at
all_found P p i [] g h e = cc
all_found P p i (k ∷ gs) g h e = found_or P (is_gift p i k) k g (gift_at p i gs) h.0 (λ f. all_found P p i gs g h.1 f) e

same_some : {A : Type 0} (a b : A) → Some a ≡ Some b → a ≡ b
same_some a b e = cc

module _ (script : Script) (once : KnowsOnce script) (w x : World) (es : List Entry) (k : ℕ) (follow : NoticesFollowCuts es) (opened : world.open_from script zero script.vats (world.begins script) ≡ Goes w) (stepped : world.steps_from script es k w ≡ Goes x) (X : Vats) (mirrors : Mirrors x X)
    (v u : ℕ) (l : Link) (way : Way) (at : link_at v u x.links ≡ Some l) (on : way_at v u X.ways ≡ Some way) (both : WayMirrors l way) (clear : way.cut ≡ false) (f : Frame) (fs : List Frame) (frames : way.frames ≡ f ∷ fs)
    (s : Vat Name) (there : slice_get x.vats u ≡ Some s) (m : Member) (member : slice_get X.members u ≡ Some m) (h : Heard Local (Note (Incoming Local Local))) (hears : heard_in v f.op m ≡ Some h) where
  abbrev N : Note Name
  N = f.note

  abbrev Ns : List (Note Name)
  Ns = map (λ (g : Frame). g.note) fs

  uncut : l.cut ≡ false
  uncut = sym both.cut ∙ clear

  head : l.notes ≡ f.note ∷ map (λ (g : Frame). g.note) fs
  head = sym both.notes ∙ ap (map (λ (g : Frame). g.note)) frames

  low : v < length X.members
  low = (mirrors.ends v u way on).0

  sender : (r : Vat Name) × (slice_get x.vats v ≡ Some r)
  sender = let e = mirrors.count in let a = low in there_is x.vats v (omega arith)

  heard : HearsSo x v u s f.note h
  heard = let due = frame_first (connected_at v u x.connections) (connected_at u v x.connections) way f fs (mirrors.frames v u way on clear) frames in
      let g = frames_heard script once w x es k follow opened stepped v u sender.0 s sender.1 there (others script once w x es k follow opened stepped v u l f.note Ns at uncut head) l at uncut X m mirrors member f.note Ns head f.op due.0 in
      subst (HearsSo x v u s f.note) (same_some g.0 h (sym g.1 ∙ hears)) g.2

  abbrev T : Table
  T = table_of x u s

  good : IsTable u (table_of x u s)
  good = (have_tables script once).1 w x es k follow opened stepped u s there

  more : Extends (table_of x u s) (table_heard x u s f.note)
  unfolding table_of table_heard
  more = let b = heard_front (names_in s.known) f.note in record {
    names = λ i y e. ap (λ ys. slice_get ys i) b.1 ∙ get_front (names_in s.known) b.0 i y e;
    mails = λ i y e. e;
    exports = λ g p j e. e;
  }

  was : VatMirrors x X u s m
  was = mirrors.vats u s m there member

  abbrev P : Vat Local
  P = ready X m.vat

  abbrev D : Connection Name
  D = (connected_at u v x.connections).tables

  abbrev Tells : Vat Local → Type 0
  Tells q = tells_nothing (numbers.numbers script) (sees v m) v h.read q ≡ false

  new_ours : Tells (ready X m.vat)
  unfolding numbers.numbers names sees sight_by
  new_ours = let a = was in let b = heard in same.new_so (draw_word script.key) u (table_of x u s) (table_heard x u s f.note) good more (ready X m.vat) (readied x s) a.stands (connection_for v m) D (a.connections v low) (names_in s.known) m.learnt (sees v m) (sight_by (names_of s) D)
      (λ n. refl) (λ n. refl) v h.read (as_heard v u (read_note (names_of s) f.note)) b.read
      (heard_nothing (naming (draw_word script.key) u) (sight_by (names_of s) D) v u (read_note (names_of s) f.note) (readied x s) ∙ new_in_names script once w x es k follow opened stepped v u l f.note Ns at uncut head s there)

  -- ---- where the next word was not drawn before

  module _ (new : IsAmong (draw_word script.key (length x.drawn)) x.drawn → ⊥) where
    unknown : (c g : ℕ) → IsAmong (Gift c (key g (draw_word script.key (length x.drawn)))) (names_in s.known) → ⊥
    unfolding sight_by names_of
    unknown c g a = let i : SeesNew script x u f.note (sight_by (names_of s) D) = sees_new script once w x es k follow opened stepped v u l f.note Ns at uncut head s there new in
        differ (has_name (names_in s.known) (Gift c (key g (draw_word script.key (length x.drawn))))) (among_has (names_in s.known) (Gift c (key g (draw_word script.key (length x.drawn)))) a) (i.unknown c g)

    hosted_none : (g i : ℕ) → (IsAmong (Gift u i) (names_in s.known) → ⊥) → (o : Option (GiftEntry Name)) → gift_at g i s.gifts ≡ o → receiving.is_hosted o ≡ false
    unfolding receiving.is_hosted
    hosted_none g i none None e = refl
    hosted_none g i none (Some b) e = let of = worldly script once w x es k follow opened stepped in let wires_of = wires script x of.facts in let fits = all_found (GiftFits u (names_in s.known)) g i s.gifts b (wires_of.gifts u s there) e in
        absurd (none (subst (λ z. IsAmong z (names_in s.known)) (fits.0 ∙ ap (λ j. Gift u j) (found_number g i s.gifts b e)) fits.1))

    none_had : (c g : ℕ) → receiving.has_gift (numbers.numbers script) (sees v m) c g (ready X m.vat) ≡ false
    unfolding receiving.has_gift receiving.next_key numbers.numbers numbering sees ready readied table_of
    none_had c g = let a = was in if_false (c == m.vat.number) _ _
        (ap (λ ds. receiving.is_hosted (gift_at g (key g (draw_word script.key (length ds))) m.vat.gifts)) mirrors.drawn
        ∙ hosted_same (draw_word script.key) u (table_of x u s) (table_heard x u s f.note) good more (ready X m.vat) (readied x s) a.stands g (key g (draw_word script.key (length x.drawn)))
        ∙ hosted_none g (key g (draw_word script.key (length x.drawn))) (unknown u g) (gift_at g (key g (draw_word script.key (length x.drawn))) s.gifts) refl)
        (ap (λ ds. is_some (learnt_at c (key g (draw_word script.key (length ds))) m.learnt)) mirrors.drawn
        ∙ unlearnt (draw_word script.key) u (table_of x u s) (table_heard x u s f.note) good more (ready X m.vat) (readied x s) a.stands c (key g (draw_word script.key (length x.drawn))) (none_in_table c g) m.learnt a.learnt)
      where
        none_in_table : (c g : ℕ) → IsAmong (Gift c (key g (draw_word script.key (length x.drawn)))) (table_of x u s).names → ⊥
        none_in_table c g i = unknown c g i

    and_false : (b c : Bool) → c ≡ false → (b && c) ≡ false
    and_false true c e = e
    and_false false c e = refl

    none_back : (y : Note (Incoming Local Local)) → leads_back (numbers.numbers script) (sees v m) y (ready X m.vat) ≡ false
    unfolding leads_back
    none_back (Elsewhere y c) = and_false (not (is_in c (ready X m.vat).noticed)) _ (none_had c _)
    none_back other = refl

  -- ---- either way

  abbrev R : Note (Incoming Local Local) → Type 0
  R y = SameOutcome (receive (numbers.numbers script) (sees v m) v y (ready X m.vat)) (arrive (numbers.numbers script) v y (ready X m.vat))

  drawn_ours : (i : ℕ) → drawn_at zero (draw_word script.key (length x.drawn)) x.drawn ≡ Some i → drawn_at zero ((numbers.numbers script).word (length (ready X m.vat).drawn)) (ready X m.vat).drawn ≡ Some i
  unfolding numbers.numbers numbering ready
  drawn_ours i e = ap (λ ds. drawn_at zero (draw_word script.key (length ds)) ds) mirrors.drawn ∙ e

  stops_so : (i : ℕ) → drawn_at zero (draw_word script.key (length x.drawn)) x.drawn ≡ Some i → (y : Note (Incoming Local Local)) → leads_back (numbers.numbers script) (sees v m) y (ready X m.vat) ≡ true
      → SameOutcome (break_back (numbers.numbers script) y (ready X m.vat)) (arrive (numbers.numbers script) v y (ready X m.vat))
  unfolding leads_back
  stops_so i e (Elsewhere y c) g = both_stop (numbers.numbers script) i v c y (ready X m.vat) (drawn_ours i e) (none_of (is_in c (ready X m.vat).noticed) _ g).0
  stops_so i e other g = cc

  received_by_cases : (o : Option ℕ) → drawn_at zero (draw_word script.key (length x.drawn)) x.drawn ≡ o → Receiving (numbers.numbers script) (sees v m) v h.read (ready X m.vat) → R h.read
  received_by_cases o e (Ignored a b) = absurd (differ (tells_nothing (numbers.numbers script) (sees v m) v h.read (ready X m.vat)) a new_ours)
  received_by_cases o e (Arrived a b c) = inl c
  received_by_cases None e (BrokenBack a b c) = absurd (differ (leads_back (numbers.numbers script) (sees v m) h.read (ready X m.vat)) b (none_back (not_drawn zero (draw_word script.key (length x.drawn)) x.drawn e) h.read))
  received_by_cases (Some i) e (BrokenBack a b c) = subst (λ d. SameOutcome d (arrive (numbers.numbers script) v h.read (ready X m.vat))) (sym c) (stops_so i e h.read b)

  -- the vat is told the same, ready or not
  unready : (y : Note (Incoming Local Local)) → tells_nothing (numbers.numbers script) (sees v m) v y m.vat ≡ tells_nothing (numbers.numbers script) (sees v m) v y (ready X m.vat)
  unfolding tells_nothing ready receiving.was_told
  unready (Deliver d y verb ys) = refl
  unready (Open i y) = refl
  unready (Ask p i y) = refl
  unready (SettledTo (Old n) y) = refl
  unready (SettledTo (New z g) y) = refl
  unready (Elsewhere (Old n) c) = refl
  unready (Elsewhere (New z g) c) = refl
  unready (Shorten y c i) = refl

  brings : brings_nothing (numbers.numbers script) v m h.read ≡ false
  unfolding brings_nothing
  brings = either (is_question h.read) (unready h.read ∙ new_ours)
    where
      either : (b : Bool) → tells_nothing (numbers.numbers script) (sees v m) v h.read m.vat ≡ false → elim b [ true ↦ false | false ↦ tells_nothing (numbers.numbers script) (sees v m) v h.read m.vat ] ≡ false
      either true e = refl
      either false e = e

  pub next_so : (brings_nothing (numbers.numbers script) v m h.read ≡ false) × SameOutcome (receive (numbers.numbers script) (sees v m) v h.read (ready X m.vat)) (arrive (numbers.numbers script) v h.read (ready X m.vat))
  next_so = (brings, received_by_cases (drawn_at zero (draw_word script.key (length x.drawn)) x.drawn) refl (each_receiving (numbers.numbers script) (sees v m) v h.read (ready X m.vat)))

-- of each way
pub received_in_numbers : (script : Script) → KnowsOnce script → (w x : World) (es : List Entry) (k : ℕ) → NoticesFollowCuts es → world.open_from script zero script.vats (world.begins script) ≡ Goes w → world.steps_from script es k w ≡ Goes x → (X : Vats) → Mirrors x X → FramesAreReceived script X
received_in_numbers script once w x es k follow opened stepped X mirrors v u way f fs m h on clear frames member hears = either (link_at v u x.links) refl (at_mirrors v u x.links X.ways mirrors.ways)
  where
    either : (o : Option Link) → link_at v u x.links ≡ o → MayMirror o (way_at v u X.ways) → (brings_nothing (numbers.numbers script) v m h.read ≡ false) × SameOutcome (receive (numbers.numbers script) (sees v m) v h.read (ready X m.vat)) (arrive (numbers.numbers script) v h.read (ready X m.vat))
    either None e b = absurd (subst (λ p. MayMirror None p) on b)
    either (Some l) e b = let c : WayMirrors l way = subst (λ p. MayMirror (Some l) p) on b in
        let head : l.notes ≡ f.note ∷ map (λ (g : Frame). g.note) fs = sym c.notes ∙ ap (map (λ (g : Frame). g.note)) frames in
        let r = received_by script once w x es k follow opened stepped v u l f.note (map (λ (g : Frame). g.note) fs) e (sym c.cut ∙ clear) head in
        next_so script once w x es k follow opened stepped X mirrors v u l way e on c clear f fs frames r.0 r.1 m member h hears
