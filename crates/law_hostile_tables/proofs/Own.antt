-- What a step of an honest vat put can be written by numbers, and by a step that no note brings no gift comes to be known.
use Rattle.std.proofs.Common.{◌≡◌, ℕ, Bool, true, false, List, [], ◌∷◌, ◌++◌, Some, None, refl, sym, ap, subst, ◌∙◌, ◌⊎◌, inl, inr}
use Rattle.std.specs.Prelude.{slice_get}
use Rattle.def_machine.specs.Values.{Value, Ref, Name, Promise, Gift, Sent, answer_of, host_of}
use Rattle.def_machine.specs.State.{Message, Known, Passed, Passeds, Plain, AGift, Many, NoMore, More, Note, Deliver, Open, Ask, SettledTo, Elsewhere, Shorten, Put, Happened, Sends, Reacts, Vat}
use Rattle.def_run.specs.Connections.{asked_in, answer_if}
use Rattle.def_run.specs.Wire.{sight}
use Rattle.def_run.specs.World.{World, has_name, readied}
use Rattle.def_hostile.specs.Hostile.{Play}
use Rattle.law_machine.specs.Machine.Steps.{Step, Opens as Starts, Takes, Receives, Notices}
use Rattle.law_machine.specs.Run.Moves.{IsAlone, Does, went}
use Rattle.law_fate.specs.Name.Names.{AllOf, IsAmong, IsMessageName, IsMessageMade, ValueOk, PassedOk, PassedsOk, NoteOk, names_in}
use Rattle.law_fate.proofs.Name.Among.{all_among}
use Rattle.law_fate.proofs.Name.Facts.{all_map}
use Rattle.law_fate.proofs.Name.SameNames.{has_among, among_has}
use Rattle.law_frame.specs.Frame.Asked.{AsksOf}
use Rattle.law_frame.specs.Frame.Lines.{MessageFits, LineFits, AnswersIn}
use Rattle.law_frame.specs.Frame.OwnFrames.{refers}
use Rattle.law_frame.specs.Frame.Together.{ValueMay, PassedMay, AllMay, NoteMay}
use Rattle.law_frame.specs.Local.Writing.{PutsSo}
use Rattle.law_frame.proofs.Frame.ArriveAsking.{MailFits}
use Rattle.law_frame.proofs.Frame.Grow.{among_left}
use Rattle.law_frame.proofs.Frame.WireAsking.{Steady, Comes, Born, gift_names, news_of}
use Rattle.law_frame.proofs.Local.ToldSteady.{telling, Ready}
use Rattle.law_injected.specs.HostileRuns.{IsHostile, IsReached}
use Rattle.law_lawful.specs.Claims.{WasMade, IsMade}
use Rattle.law_lawful.specs.Lawful.{AnyWord}
use Rattle.law_lawful.proofs.Reached.{reached_fits, in_scenes}
use Rattle.law_lawful.proofs.Steps.{VatFits}
use Rattle.law_hostile_tables.specs.Steps.{EachPutsSoInPlays, OwnStepsPutSo, OwnStepsLearnNoGifts}
use Rattle.law_hostile_tables.proofs.Kept.{stands_so, alone_fit, alone_stands, alone_keeps}
use Rattle.law_hostile_tables.proofs.Puts as puts
use Rattle.law_hostile_tables.proofs.Standing.{Standing, alone_steady, mails_fit}

-- ---- no message is named as a reference

module _ (vats : List (Vat Name)) (draws : List ℕ) where
  name_refers : (n : Name) → WasMade AnyWord vats draws n → refers n ≡ true
  unfolding refers
  name_refers (Sent m) h = absurd h
  name_refers other h = refl

  value_refers : (y : Value Name) → ValueOk (IsMade AnyWord vats draws) y → ValueMay refers y
  value_refers (Ref n) h = name_refers n h
  value_refers other h = tt

  mutual
    passed_refers : (y : Passed Name) → PassedOk (IsMade AnyWord vats draws) y → PassedMay refers y
    passed_refers (Plain y) h = value_refers y h
    passed_refers (AGift g i) h = tt
    passed_refers (Many ys) h = all_refer ys h

    all_refer : (ys : Passeds Name) → PassedsOk (IsMade AnyWord vats draws) ys → AllMay refers ys
    all_refer NoMore h = tt
    all_refer (More y ys) h = (passed_refers y h.0, all_refer ys h.1)

  note_refers : (n : Note Name) → NoteOk (IsMade AnyWord vats draws) n → NoteMay refers n
  note_refers (Deliver d n verb ys) h = (name_refers n h.1, all_refer ys h.2)
  note_refers (Open i n) h = name_refers n h.1
  note_refers (Ask p i n) h = tt
  note_refers (SettledTo n y) h = (name_refers n h.0, passed_refers y h.1)
  note_refers (Elsewhere n c) h = name_refers n h.0
  note_refers (Shorten n c i) h = name_refers n h.0

  answer_refers : (v : ℕ) (m : Name) → IsMessageMade vats m → refers (answer_of v m) ≡ true
  unfolding refers answer_of
  answer_refers v (Sent m) h = refl
  answer_refers v other h = absurd h

  asked_or : (u v : ℕ) (b : Bool) (m : Name) → IsMessageMade vats m → AllOf (λ n. refers n ≡ true) (answer_if (sight u v) b m)
  unfolding answer_if sight
  asked_or u v true m h = (answer_refers v m h, tt)
  asked_or u v false m h = tt

  asks_refer : (u v : ℕ) (n : Note Name) → NoteOk (IsMade AnyWord vats draws) n → AllOf (λ n. refers n ≡ true) (asked_in (sight u v) n)
  unfolding asked_in
  asks_refer u v (Deliver d n verb ys) h = asked_or u v d.asks d.message h.0
  asks_refer u v (Ask p i n) h = (name_refers n h.1, tt)
  asks_refer u v other h = tt

pub puts_so_of : (play : Play) (w : World) (v : ℕ) (s : Vat Name) → VatFits play AnyWord w v s → Standing v s → PutsSo v s
puts_so_of play w v s f h = let parts = f.parts in let own = f.own in record {
  placed = h.number;
  hosts = all_map (λ (k : Known Name) i. i.0) s.known own.2;
  referring = all_map (λ (p : Put Name) i. note_refers w.vats w.drawn p.note i.0) s.outbox parts.outbox;
  asking = all_map (λ (p : Put Name) i. asks_refer w.vats w.drawn v p.to p.note i.0) s.outbox parts.outbox;
  answers = h.answers;
}

pub each_puts_so : EachPutsSoInPlays
each_puts_so = in_scenes (λ play w. (u : ℕ) (s : Vat Name) → slice_get w.vats u ≡ Some s → (IsHostile play u → ⊥) → PutsSo u s) (λ play w r u s there honest. let f = reached_fits play w r in puts_so_of play w u s (f.vats u s there honest) (stands_so play w r u s there honest))

pub own_puts_so : OwnStepsPutSo
own_puts_so play w r u s q t what honest alone d = puts_so_of play (went u w [] t) u t (alone_fit play w r u s d.there honest q t what alone d) (alone_stands play w r u s d.there honest (stands_so play w r u s d.there honest) q t what alone d)

-- ---- no gift comes

no_answer_gift : (h i g : ℕ) (m : Name) → IsMessageName m → answer_of g m ≡ Gift h i → ⊥
unfolding answer_of
no_answer_gift h i g (Sent m) k e = cc
no_answer_gift h i g other k e = k

none_more : (xs ys : List Name) → xs ≡ xs ++ ys → ys ≡ []
none_more [] ys e = sym e
none_more (x ∷ xs) ys e = none_more xs ys (let f : xs ≡ xs ++ ys = cc in f)

same_truth : (a b : Bool) → (a ≡ true → b ≡ true) → (b ≡ true → a ≡ true) → a ≡ b
same_truth true b f g = sym (f refl)
same_truth false true f g = g refl
same_truth false false f g = refl

module _ (play : Play) (w : World) (reached : IsReached play w) (v : ℕ) (s q t : Vat Name) (what : Step Name Name) (honest : IsHostile play v → ⊥) (alone : IsAlone what) (d : Does play.script w v s q t what) (same : q.gifts ≡ s.gifts) (h i : ℕ) where
  before : Standing v s
  before = stands_so play w reached v s d.there honest

  after : Standing v t
  after = alone_stands play w reached v s d.there honest before q t what alone d

  steady : Steady v (telling play.script v (names_in s.known) None) (Ready w s None) t
  steady = alone_steady play w v s t before q what alone d

  keeps : puts.Keeps ⊥ (readied w q) t
  keeps = alone_keeps play ⊥ w v s q t what alone d

  no_asks : AllOf (puts.IsFit ⊥) t.outbox
  unfolding readied
  no_asks = keeps.0 tt

  mail : AllOf (λ (p : Put Name). MailFits p.note) t.outbox
  mail = let f = alone_fit play w reached v s d.there honest q t what alone d in let parts = f.parts in mails_fit (went v w [] t).vats (went v w [] t).drawn t.outbox parts.outbox

  same_gifts : gift_names t.gifts ≡ gift_names s.gifts
  unfolding readied
  same_gifts = by keeps.1
    where
      by : ⊥ ⊎ (gift_names t.gifts ≡ gift_names q.gifts) → gift_names t.gifts ≡ gift_names s.gifts
      by (inl e) = absurd e
      by (inr e) = e ∙ ap gift_names same

  from_message : (m : Message Name) → MessageFits (names_in t.known) t.mails m → m.answer ≡ Some (Gift h i) → ⊥
  from_message m k e = no_answer_gift h i (host_of (Gift h i)) m.id k.0 (sym (k.2 (Gift h i) e).0)

  from_line : (e : Happened Name) → LineFits (names_in t.known) t.mails e → AnswersIn e (Gift h i) → ⊥
  from_line (Sends act m) k f = from_message m k f
  from_line (Reacts act y o m) k f = from_message m k f
  from_line other k f = f

  from_note : (to : ℕ) (n : Note Name) → puts.MayAsk ⊥ n → MailFits n → AsksOf to n (Gift h i) → ⊥
  from_note to (Deliver e n verb ys) k m f = no_answer_gift h i to e.message m f.1
  from_note to (Ask p j n) k m f = k
  from_note to other k m f = f

  no_promise : (j : ℕ) → Gift h i ≡ Promise v j → ⊥
  no_promise j e = cc

  from_born : Born v (telling play.script v (names_in s.known) None) (Ready w s None) t (Gift h i) → ⊥
  unfolding readied
  from_born (inl e) = no_promise e.0 e.1
  from_born (inr (inl a)) = from_line a.0 (all_among (LineFits (names_in t.known) t.mails) t.happened a.0 after.lines a.1) a.2
  from_born (inr (inr (inl a))) = subst (IsAmong (Gift h i)) (none_more (gift_names s.gifts) a.0 (sym same_gifts ∙ a.1)) a.2
  from_born (inr (inr (inr k))) = k

  none_comes : Comes v (telling play.script v (names_in s.known) None) (Ready w s None) t (Gift h i) → ⊥
  none_comes (inl b) = from_born b.1
  none_comes (inr (inl a)) = from_note a.0.to a.0.note (all_among (puts.IsFit ⊥) t.outbox a.0 no_asks a.1).1 (all_among (λ (p : Put Name). MailFits p.note) t.outbox a.0 mail a.1) a.2
  none_comes (inr (inr (inl k))) = k.1
  none_comes (inr (inr (inr k))) = k

  pub no_new_gift : has_name (names_in t.known) (Gift h i) ≡ has_name (names_in s.known) (Gift h i)
  unfolding readied
  no_new_gift = same_truth (has_name (names_in t.known) (Gift h i)) (has_name (names_in s.known) (Gift h i))
      (λ e. by (news_of v (telling play.script v (names_in s.known) None) (Ready w s None) t steady (Gift h i) (has_among (names_in t.known) (Gift h i) e)))
      (λ e. among_has (names_in t.known) (Gift h i) (let c = steady.come in subst (IsAmong (Gift h i)) (sym c.1) (among_left (Gift h i) (names_in s.known) c.0 (has_among (names_in s.known) (Gift h i) e))))
    where
      by : IsAmong (Gift h i) (names_in s.known) ⊎ Comes v (telling play.script v (names_in s.known) None) (Ready w s None) t (Gift h i) → has_name (names_in s.known) (Gift h i) ≡ true
      by (inl a) = among_has (names_in s.known) (Gift h i) a
      by (inr c) = absurd (none_comes c)

gifts_begin : (play : Play) (w : World) (v : ℕ) (s q t : Vat Name) (what : Step Name Name) → IsAlone what → Does play.script w v s q t what → q.gifts ≡ s.gifts
gifts_begin play w v s q t (Starts tree depth root given) o d = ap (λ (x : Vat Name). x.gifts) (d.begins).2
gifts_begin play w v s q t (Takes tree depth m) o d = ap (λ (x : Vat Name). x.gifts) (d.begins).2
gifts_begin play w v s q t (Notices u) o d = ap (λ (x : Vat Name). x.gifts) d.begins
gifts_begin play w v s q t (Receives from m) o d = absurd o

pub own_learn_none : OwnStepsLearnNoGifts
own_learn_none play w r u s q t what honest alone d h i = no_new_gift play w r u s q t what honest alone d (gifts_begin play w u s q t what alone d) h i
