-- What a vat makes of the next note as it receives it is what it makes of it as it arrives; or the word that it would draw was drawn before, and it stops either way.
use Rattle.std.proofs.Common.{◌≡◌, ℕ, zero, Bool, true, false, not, ◌&&◌, if◌then◌else◌, codes, List, [], ◌++◌, ◌∷◌, Option, Some, None, refl, sym, ap, subst, ◌∙◌, length, inl, inr}
use Rattle.std.specs.Prelude.{slice_get}
use Rattle.def_machine.specs.Values.{Name, Gift, Broken, Naming, naming, IsLearnt, host_of}
use Rattle.def_machine.specs.State.{Unsettled, Note, Deliver, Open, Ask, SettledTo, Elsewhere, Shorten, GiftEntry, Vat, Repeated, Stops, Act, ◌>>=◌, ◌>>◌, and_then, give, look, come, draw, draws, drawn_at, begun, is_gift, is_in}
use Rattle.def_machine.specs.Refs as refs
use Rattle.def_machine.specs.Refs.{standing_of}
use Rattle.def_machine.specs.Arrive as arriving
use Rattle.def_machine.specs.Arrive.{Incoming, Old, New, gift_at, arrive}
use Rattle.def_machine.specs.Receive as receiving
use Rattle.def_machine.specs.Receive.{Sight, receive, tells_nothing, leads_back, break_back}
use Rattle.law_machine.specs.Machine.Receiving.{Receiving, Ignored, BrokenBack, Arrived}
use Rattle.law_machine.proofs.Machine.ReceivingLaws.{each_receiving}
use Rattle.def_run.specs.Draws.{draw_word}
use Rattle.def_run.specs.Entered.{sight_by}
use Rattle.def_run.specs.Wire.{connected_at}
use Rattle.def_run.specs.World as world
use Rattle.def_run.specs.World.{Script, Entry, Link, World, Goes as Going, link_at, names, names_of, read_note, readied}
use Rattle.law_fate.specs.Name.Names.{AllOf, IsAmong, names_in}
use Rattle.law_fate.specs.Name.Runs.{KnowsOnce}
use Rattle.law_fate.proofs.Name.Among.{not_drawn}
use Rattle.law_reference.specs.Reference.Cuts.{NoticesFollowCuts}
use Rattle.law_frame.specs.Heard.Received.{AsksAnew, TellsOfGood}
use Rattle.law_frame.proofs.Frame.WireAsking.{GiftFits}
use Rattle.law_frame.proofs.Heard.Anew.{received_arrive}
use Rattle.law_frame.proofs.Heard.Bare.{found_number}
use Rattle.law_frame.proofs.Heard.Pending.{wires}
use Rattle.law_instance.specs.Honest.{SameOutcome}
use Rattle.law_order.specs.ToldOnce.Told.{with_news, news_in}
use Rattle.law_instance.proofs.Told.Runs.{told_unsettled, told_unopened}
use Rattle.law_instance.proofs.Anew.{worldly, others, asks_anew, sees_new}

-- ---- a gift that is found

found_or : (P : GiftEntry Name → Type 0) (b : Bool) (k g : GiftEntry Name) (o : Option (GiftEntry Name)) → P k → (o ≡ Some g → P g) → elim b [ true ↦ Some k | false ↦ o ] ≡ Some g → P g
found_or P true k g o h f e = subst P (let same : k ≡ g = cc in same) h
found_or P false k g o h f e = f e

all_found : (P : GiftEntry Name → Type 0) (p i : ℕ) (gs : List (GiftEntry Name)) (g : GiftEntry Name) → AllOf P gs → gift_at p i gs ≡ Some g → P g
unfolding gift_at
all_found P p i [] g h e = cc
all_found P p i (k ∷ gs) g h e = found_or P (is_gift p i k) k g (gift_at p i gs) h.0 (λ f. all_found P p i gs g h.1 f) e

-- ---- where the next word was drawn before

module _ (K : Naming Name Name) (i : ℕ) where
  -- a draw from here stops
  abbrev Drawn : Vat Name → Type 0
  Drawn t = drawn_at zero (K.word (length t.drawn)) t.drawn ≡ Some i

  stopped : {A : Type 0} (t : Vat Name) (f : ℕ → Act Name A) → Drawn t → and_then (draw K t) f ≡ Stops (Repeated i (length t.drawn)) t
  unfolding draw draws and_then
  stopped t f e = ap (λ o. and_then (draws (K.word (length t.drawn)) o t) f) e

  -- what breaks a name that leads back, once it is known, and what would view it
  at_known : (c : ℕ) (m : Name) (t : Vat Name) → Drawn t → (b : Bool) → b ≡ false
      → SameOutcome ((draw K >> refs.settle K m (Broken (codes "cycle"))) t) ((if b then refs.settle K m (Broken (codes "partition")) else arriving.view_there K m c) t)
  unfolding ◌>>◌ ◌>>=◌ and_then look arriving.view_there
  at_known c m t e true f = cc
  at_known c m t e false f = inr (Repeated i (length t.drawn), t, t, stopped t (λ j. refs.settle K m (Broken (codes "cycle"))) e, stopped t _ e)

  both_stop : (from c : ℕ) (y : Incoming Name Name) (s : Vat Name) → Drawn s → is_in c s.noticed ≡ false → SameOutcome (break_back K (Elsewhere y c) s) (arrive K from (Elsewhere y c) s)
  unfolding break_back arrive arriving.arrive_elsewhere arriving.learn_name give come look ◌>>=◌ and_then
  both_stop from c (Old m) s e f = at_known c m s e (is_in c s.noticed) f
  both_stop from c (New z h) s e f = at_known c (K.made (IsLearnt z) (length s.known)) (record s { known = s.known ++ begun (K.made (IsLearnt z) (length s.known)) h ∷ [] }) e (is_in c s.noticed) f

-- ---- the next note

none_of : (b c : Bool) → (not b && c) ≡ true → b ≡ false
none_of true c e = cc
none_of false c e = refl

differ : (b : Bool) → b ≡ true → b ≡ false → ⊥
differ b e f = cc

module _ (script : Script) (once : KnowsOnce script) (w x : World) (es : List Entry) (k : ℕ) (follow : NoticesFollowCuts es) (opened : world.open_from script zero script.vats (world.begins script) ≡ Going w) (stepped : world.steps_from script es k w ≡ Going x)
    (v u : ℕ) (l : Link) (n : Note Name) (ns : List (Note Name)) (at : link_at v u x.links ≡ Some l) (uncut : l.cut ≡ false) (notes : l.notes ≡ n ∷ ns) (s : Vat Name) (there : slice_get x.vats u ≡ Some s) where
  abbrev K : Naming Name Name
  K = names script u

  abbrev S : Sight Name
  S = sight_by (names_of s) (connected_at u v x.connections).tables

  abbrev R : Vat Name
  R = readied x s

  abbrev Tells : Note Name → Type 0
  Tells m = tells_nothing K S v (read_note (names_of s) m) R ≡ false

  number_or : (p i : ℕ) → S.numbers (Gift u i) ≡ false → (o : Option (GiftEntry Name)) → gift_at p i s.gifts ≡ o → receiving.has_number K S o ≡ false
  unfolding receiving.has_number
  number_or p i e None f = refl
  number_or p i e (Some g) f = let of = worldly script once w x es k follow opened stepped in let h = wires script x of.facts in let fits = all_found (GiftFits u (names_in s.known)) p i s.gifts g (h.gifts u s there) f in
      ap S.numbers (fits.0 ∙ ap (λ j. Gift u j) (found_number p i s.gifts g f)) ∙ e

  tells_new : (m : Note Name) → AsksAnew S u m → (TellsOfGood m → Tells m) → Tells m
  unfolding tells_nothing read_note readied
  tells_new (Deliver d y verb ys) a f = refl
  tells_new (Ask p i y) a f = number_or p i a (gift_at p i s.gifts) refl
  tells_new (Shorten y c i) a f = refl
  tells_new other a f = f tt

  -- where that would lead back, the next word was drawn before
  stops_so : (m : Note Name) (i : ℕ) → drawn_at zero (K.word (length R.drawn)) R.drawn ≡ Some i → leads_back K S (read_note (names_of s) m) R ≡ true → SameOutcome (break_back K (read_note (names_of s) m) R) (arrive K v (read_note (names_of s) m) R)
  unfolding leads_back read_note
  stops_so (Elsewhere y c) i e f = both_stop K i v c (world.read_name (names_of s) y) R e (none_of (is_in c R.noticed) _ f)
  stops_so other i e f = cc

  -- ---- it tells something new

  unsettled_or : (m : Name) (b : Bool) → standing_of K s.known m ≡ Unsettled → receiving.was_told K (elim b [ true ↦ Old m | false ↦ New m (host_of m) ]) R ≡ false
  unfolding receiving.was_told receiving.is_told readied
  unsettled_or m true e = ap receiving.is_told e
  unsettled_or m false e = refl

  news_new : (m : Name) → IsAmong m (news_in l.notes) → receiving.was_told K (world.read_name (names_of s) m) R ≡ false
  unfolding world.read_name
  news_new m a = unsettled_or m (world.is_old (names_of s) m) (told_unsettled script once w x es k follow opened stepped v u s there l at uncut m a)

  first_news : (y : Name) (q : Note Name) → IsAmong y (news_in (q ∷ ns)) → n ≡ q → IsAmong y (news_in l.notes)
  first_news y q a e = subst (λ (ms : List (Note Name)). IsAmong y (news_in ms)) (sym notes) (subst (λ (m : Note Name). IsAmong y (news_in (m ∷ ns))) (sym e) a)

  told_of : (m : Note Name) → n ≡ m → TellsOfGood m → Tells m
  unfolding tells_nothing read_note readied news_in with_news
  told_of (Open i y) e g = told_unopened script once w x es k follow opened stepped v u s there l at uncut i y (subst (IsAmong (Open i y)) (sym notes) (inl (sym e)))
  told_of (SettledTo y z) e g = news_new y (first_news y (SettledTo y z) (inl refl) e)
  told_of (Elsewhere y c) e g = news_new y (first_news y (Elsewhere y c) (inl refl) e)
  told_of other e g = absurd g

  told : TellsOfGood n → Tells n
  told = told_of n refl

  pub new_so : Tells n
  new_so = tells_new n (asks_anew script once w x es k follow opened stepped v u l n ns at uncut notes s there) told

  where_new : (IsAmong (draw_word script.key (length x.drawn)) x.drawn → ⊥) → SameOutcome (receive K S v (read_note (names_of s) n) R) (arrive K v (read_note (names_of s) n) R)
  where_new new = inl (received_arrive script once w x es k follow opened stepped new v u s there (others script once w x es k follow opened stepped v u l n ns at uncut notes) l at uncut n ns notes S
      (sees_new script once w x es k follow opened stepped v u l n ns at uncut notes s there new) told)

  where_old : (i : ℕ) → drawn_at zero (K.word (length R.drawn)) R.drawn ≡ Some i → SameOutcome (receive K S v (read_note (names_of s) n) R) (arrive K v (read_note (names_of s) n) R)
  where_old i e = go (each_receiving K S v (read_note (names_of s) n) R)
    where
      go : Receiving K S v (read_note (names_of s) n) R → SameOutcome (receive K S v (read_note (names_of s) n) R) (arrive K v (read_note (names_of s) n) R)
      go (Ignored f g) = absurd (differ (tells_nothing K S v (read_note (names_of s) n) R) f new_so)
      go (BrokenBack f g h) = subst (λ d. SameOutcome d (arrive K v (read_note (names_of s) n) R)) (sym h) (stops_so n i e g)
      go (Arrived f g h) = inl h

  pub received : SameOutcome (receive K S v (read_note (names_of s) n) R) (arrive K v (read_note (names_of s) n) R)
  unfolding names naming readied
  received = go (drawn_at zero (draw_word script.key (length x.drawn)) x.drawn) refl
    where
      go : (o : Option ℕ) → drawn_at zero (draw_word script.key (length x.drawn)) x.drawn ≡ o → SameOutcome (receive K S v (read_note (names_of s) n) R) (arrive K v (read_note (names_of s) n) R)
      go None e = where_new (not_drawn zero (draw_word script.key (length x.drawn)) x.drawn e)
      go (Some i) e = where_old i e
