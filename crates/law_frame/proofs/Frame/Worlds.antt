-- What stands in a world of a run before its next note arrives.
use Rattle.std.proofs.Common.{◌≡◌, ℕ, zero, ◌≤◌, ◌+◌, Bool, true, false, List, [], ◌∷◌, ◌++◌, Option, Some, None, refl, sym, ap, subst, ◌∙◌, ◌⊎◌, inl, inr, ◌==◌, arith}
use Rattle.std.specs.Prelude.{slice_get}
use Rattle.std.proofs.lemmas.Bool.{eqb-true, eq-eqb}
use Rattle.def_machine.specs.Values.{Name, Answer, Gift, Sent as Message_name, Msg, host_of, answer_of, word_of}
use Rattle.def_machine.specs.State.{Passeds, Note, Deliver, Open, Ask, SettledTo, Elsewhere, Shorten, GiftEntry, is_gift, Vat}
use Rattle.def_machine.specs.Arrive.{gift_at}
use Rattle.def_run.specs.World as world
use Rattle.def_run.specs.World.{Script, Entry, Link, World, Goes, link_at, has_name, is_old}
use Rattle.law_reference.specs.Reference.Logs as wire
use Rattle.law_fate.specs.Fates.Fate.{once, one, total, in_note, of_note, on_link}
use Rattle.law_fate.specs.Fates.Lasting.{Each}
use Rattle.law_fate.specs.Fates.FateRuns.{Reached}
use Rattle.law_fate.specs.Name.Names.{Named, AllOf, IsAmong, IsKnownIn, IsMessageName, names_in}
use Rattle.law_fate.specs.Name.Runs.{KnowsOnce}
use Rattle.law_fate.proofs.Name.SameNames.{has_among, same_self}
use Rattle.law_fate.proofs.Name.Among.{all_among}
use Rattle.law_reference.specs.Reference.Cuts.{NoticesFollowCuts}
use Rattle.law_reference.specs.Reference.Notes.{IsBetween, Carries, LinkFits, LinkCarries}
use Rattle.law_reference.proofs.Reference.NotesRuns.{notes_name_ends, notes_carry_ends}
use Rattle.law_reference.specs.Reference.Knowing.{new_gift_here, brings}
use Rattle.law_reference.specs.Reference.NameTableRuns.{brings_here, BringsNew, NotesBringNew}
use Rattle.law_reference.proofs.Reference.Bounds.{allowed_once}
use Rattle.law_reference.proofs.Reference.Onward.{self_one, claims_known}
use Rattle.law_reference.specs.Reference.Behind.{Avoids, NamesNot}
use Rattle.law_reference.proofs.Reference.First.{among_dec}
use Rattle.law_reference.proofs.Reference.LegRuns.{sender_of, unknown_not}
use Rattle.law_reference.proofs.Reference.LegMoves.{stepped_before}
use Rattle.law_reference.proofs.Reference.SingleRuns.{stepped_both as answers_stepped}
use Rattle.law_reference.specs.Reference.Standing.{IsEntered}
use Rattle.law_reference.specs.Reference.GiftPassing.{Provides, IsProvided, IsProvidedBy, LinkProvides, HasProviders}
use Rattle.law_reference.proofs.Reference.GiftLaws.{one_provider}
use Rattle.law_frame.specs.Frame.Asked.{AsksOf, told_in}
use Rattle.law_frame.specs.Frame.Tables.{arrived}
use Rattle.law_frame.proofs.Frame.WireAsking.{GiftFits, Proper}
use Rattle.law_frame.proofs.Frame.Questions.{asked_or}
use Rattle.law_frame.proofs.Frame.Told.{note_told}
use Rattle.law_frame.proofs.Frame.WireArrivals.{arrived_is}
use Rattle.law_frame.proofs.Frame.Ranks.{Starts, exports_start, exports_twice}
use Rattle.law_frame.proofs.Frame.LinksKnown.{AsksOwn, Sent, LinkKnown, at_link}
use Rattle.law_frame.proofs.Frame.Sources.{OfEither, passed_either, all_either}
use Rattle.law_frame.proofs.Frame.WireLaws.{asked_for_known, was_asked_known, exported_known, arrived_known}
use Rattle.law_frame.proofs.Frame.SourceLaws.{names_from_hosts}
use Rattle.law_frame.proofs.Frame.GivenLaws.{notes_name_given}
use Rattle.law_frame.proofs.Frame.WireRuns.{Wire, stepped_both}
use Rattle.law_frame.specs.Frame.Gifts.{AskedGiftStands, GiftsWereAskedFor}
use Rattle.law_frame.proofs.Frame.Grow.{true_false, on_bool, among_right, questions_twice}
use Rattle.law_frame.proofs.Frame.OrderRuns.{gifts_asked_first}
use Rattle.law_frame.proofs.Frame.Reading.{Before, Stage, Yours, Ends, Asks}

-- ---- lists

among_mid : {A : Type 0} (x : A) (front rest : List A) → IsAmong x (front ++ x ∷ rest)
among_mid x front rest = among_right x front (x ∷ rest) (inl refl)

among_split : {A : Type 0} (x : A) (xs ys : List A) → IsAmong x (xs ++ ys) → IsAmong x xs ⊎ IsAmong x ys
among_split x [] ys h = inr h
among_split x (z ∷ xs) ys (inl e) = inl (inl e)
among_split x (z ∷ xs) ys (inr h) = go (among_split x xs ys h)
  where
    go : IsAmong x xs ⊎ IsAmong x ys → IsAmong x (z ∷ xs) ⊎ IsAmong x ys
    go (inl a) = inl (inr a)
    go (inr b) = inr b

each_all : {A : Type 0} (P : A → Type 0) (xs : List A) → Each P xs → AllOf P xs
each_all P [] h = tt
each_all P (x ∷ xs) h = (h.0, each_all P xs h.1)

-- ---- who asks

-- a question stands in a note
pub asker : (to : ℕ) (n : Name) (log : List (Note Name)) → IsAmong n (wire.questions_in to log) → (x : Note Name) × IsAmong x log × AsksOf to x n
unfolding wire.questions_in
asker to n [] a = absurd a
asker to n (Deliver d t verb ys ∷ log) a = first (asked_or d.asks (answer_of to d.message) n (wire.questions_in to log) a) (λ b. asker to n log b)
  where
    first : ((d.asks ≡ true) × (n ≡ answer_of to d.message)) ⊎ IsAmong n (wire.questions_in to log) → (IsAmong n (wire.questions_in to log) → (x : Note Name) × IsAmong x log × AsksOf to x n) → (x : Note Name) × IsAmong x (Deliver d t verb ys ∷ log) × AsksOf to x n
    first (inl e) f = (Deliver d t verb ys, inl refl, (e.0, sym e.1))
    first (inr b) f = let r = f b in (r.0, inr r.1, r.2)
asker to n (Ask p i t ∷ log) (inl e) = (Ask p i t, inl refl, sym e)
asker to n (Ask p i t ∷ log) (inr a) = let r = asker to n log a in (r.0, inr r.1, r.2)
asker to n (Open i t ∷ log) a = let r = asker to n log a in (r.0, inr r.1, r.2)
asker to n (SettledTo t y ∷ log) a = let r = asker to n log a in (r.0, inr r.1, r.2)
asker to n (Elsewhere t c ∷ log) a = let r = asker to n log a in (r.0, inr r.1, r.2)
asker to n (Shorten t c i ∷ log) a = let r = asker to n log a in (r.0, inr r.1, r.2)

-- a message that is under way is on the link
bears_one : (m : Msg) (x : Note Name) (notes : List (Note Name)) (b : Bool) (c : Option Name) (n : Name) (verb : List ℕ) (ys : _) → x ≡ Deliver (record { message = Message_name m; asks = b; answer = c }) n verb ys → IsAmong x notes → 1 ≤ total (of_note (Message_name m)) notes
unfolding total of_note in_note one once
bears_one m x [] b c n verb ys e a = absurd a
bears_one m x (y ∷ notes) b c n verb ys e (inl f) = first y (sym f ∙ e)
  where
    first : (y : Note Name) → y ≡ Deliver (record { message = Message_name m; asks = b; answer = c }) n verb ys → 1 ≤ of_note (Message_name m) y + total (of_note (Message_name m)) notes
    first y g = let one_here : of_note (Message_name m) y ≡ 1 = ap (of_note (Message_name m)) g ∙ ap once (same_self (Message_name m)) in omega arith
bears_one m x (y ∷ notes) b c n verb ys e (inr a) = let rest = bears_one m x notes b c n verb ys e a in omega arith

pub on_link_one : (m : Msg) (x : Note Name) (l : Link) (b : Bool) (c : Option Name) (n : Name) (verb : List ℕ) (ys : _) → x ≡ Deliver (record { message = Message_name m; asks = b; answer = c }) n verb ys → IsAmong x l.notes → 1 ≤ on_link (Message_name m) l
unfolding on_link
on_link_one m x l b c n verb ys e a = bears_one m x l.notes b c n verb ys e a

-- a note that avoids a name does not tell it
not_told : (x : Name) (n : Note Name) → NamesNot x n → IsAmong x (told_in n) → ⊥
not_told x n h a = all_among (λ z. Avoids x (Named z)) (told_in n) x (note_told (Avoids x) n h) a refl

-- ---- gifts at their host

found_or : (b : Bool) (g h : GiftEntry Name) (o : Option (GiftEntry Name)) (gs : List (GiftEntry Name)) (p i : ℕ) → is_gift p i g ≡ b → (o ≡ Some h → IsAmong h gs × (is_gift p i h ≡ true)) → ◌≡◌ {A = Option (GiftEntry Name)} (elim b [ true ↦ Some g | false ↦ o ]) (Some h) → IsAmong h (g ∷ gs) × (is_gift p i h ≡ true)
found_or true g h o gs p i e f k = let same : h ≡ g = cc in (inl same, ap (is_gift p i) same ∙ e)
found_or false g h o gs p i e f k = let r = f k in (inr r.0, r.1)

found_entry : (p i : ℕ) (gs : List (GiftEntry Name)) (g : GiftEntry Name) → gift_at p i gs ≡ Some g → IsAmong g gs × (is_gift p i g ≡ true)
unfolding gift_at
found_entry p i [] g e = cc
found_entry p i (h ∷ gs) g e = found_or (is_gift p i h) h g (gift_at p i gs) gs p i refl (λ f. found_entry p i gs g f) e

number_or : (b c : Bool) → elim b [ true ↦ c | false ↦ false ] ≡ true → c ≡ true
number_or true c e = e
number_or false c e = cc

gift_number : (p i : ℕ) (g : GiftEntry Name) → is_gift p i g ≡ true → g.number ≡ i
unfolding is_gift
gift_number p i g e = eqb-true g.number i (number_or (g.provider == p) (g.number == i) e)

both_true : (b c : Bool) → b ≡ true → c ≡ true → elim b [ true ↦ c | false ↦ false ] ≡ true
both_true true c e f = f
both_true false c e f = cc

is_gift_of : (p i : ℕ) (g : GiftEntry Name) → g.provider ≡ p → g.number ≡ i → is_gift p i g ≡ true
unfolding is_gift
is_gift_of p i g e f = both_true (g.provider == p) (g.number == i) (eq-eqb g.provider p e) (eq-eqb g.number i f)

none_or : (b : Bool) (g : GiftEntry Name) (o : Option (GiftEntry Name)) → ◌≡◌ {A = Option (GiftEntry Name)} (elim b [ true ↦ Some g | false ↦ o ]) None → (b ≡ false) × (o ≡ None)
none_or true g o e = cc
none_or false g o e = (refl, e)

-- a gift that stands there is found under the provider of its draw
entered_found : (P : ℕ → ℕ) (d : List ℕ) (p i : ℕ) (gs : List (GiftEntry Name)) → P (word_of i) ≡ p → AllOf (IsProvided P d) gs → IsEntered i gs → gift_at p i gs ≡ None → ⊥
unfolding gift_at
entered_found P d p i [] e h a n = a
entered_found P d p i (g ∷ gs) e h (inl f) n = true_false (is_gift p i g) (is_gift_of p i g (sym h.0.1 ∙ ap (λ (j : ℕ). P (word_of j)) f ∙ e) f) (none_or (is_gift p i g) g (gift_at p i gs) n).0
entered_found P d p i (g ∷ gs) e h (inr a) n = entered_found P d p i gs e h.1 a (none_or (is_gift p i g) g (gift_at p i gs) n).1

-- a gift that is known and is asked for stands, where the note that asks brings what is new
entered_mid : (i : ℕ) (g : GiftEntry Name) (gs : List (GiftEntry Name)) → IsAmong g gs → g.number ≡ i → IsEntered i gs
entered_mid i g [] a e = a
entered_mid i g (h ∷ gs) (inl f) e = inl (ap (λ (z : GiftEntry Name). z.number) (sym f) ∙ e)
entered_mid i g (h ∷ gs) (inr a) e = inr (entered_mid i g gs a e)

entered_or : (u p i : ℕ) (gs : List (GiftEntry Name)) (o : Option (GiftEntry Name)) → gift_at p i gs ≡ o → new_gift_here u (Gift u i) i o ≤ 0 → IsEntered i gs
unfolding new_gift_here
entered_or u p i gs (Some g) e h = let f = found_entry p i gs g e in entered_mid i g gs f.0 (gift_number p i g f.1)
entered_or u p i gs None e h = let one_here = self_one (Gift u i) in absurd (omega arith)

pub asked_stands : (w : World) (v u : ℕ) (n : Note Name) (s : Vat Name) → BringsNew w v u n s → AskedGiftStands u n s
unfolding world.read_note world.names_of brings_here brings
asked_stands w v u (Ask p i n) s h = λ a. let b = h (Gift u i) in let c = claims_known u (Gift u i) s.known a in let d = allowed_once u (Gift u i) s w.drawn in entered_or u p i s.gifts (gift_at p i s.gifts) refl (omega arith)
asked_stands w v u other s h = tt

-- ---- the vats of a link

-- what a note tells is of one of the two vats
pub told_ends : (a v : ℕ) (n : Name) (x : Note Name) → (v ≡ a → ⊥) → Proper a v x → IsBetween a v x → Carries a v x → IsAmong n (told_in x) → OfEither a v n
unfolding told_in
told_ends a v n (Deliver m t verb ys) o q h k (inl e) = inr (ap host_of e ∙ h)
told_ends a v n (Deliver m t verb ys) o q h k (inr b) = all_either a v n ys k.0 b
told_ends a v n (Open i t) o q h k (inl e) = inr (ap host_of e ∙ h)
told_ends a v n (Ask p i t) o q h k b = absurd b
told_ends a v n (SettledTo t y) o q h k (inl e) = inl (ap host_of e ∙ h)
told_ends a v n (SettledTo t y) o q h k (inr b) = passed_either a v n y k b
told_ends a v n (Elsewhere t c) o q h k (inl e) = inl (ap host_of e ∙ h)
told_ends a v n (Shorten t c i) o q h k (inl e) = inr (ap host_of e ∙ h (q o))
told_ends a v n other o q h k (inr b) = absurd b

log_is : (l : Link) (o : Option Link) → o ≡ Some l → wire.log_of o ≡ l.log
unfolding wire.log_of
log_is l o e = rw (e, wire.log_of) refl

roots_is : (l : Link) (o : Option Link) → o ≡ Some l → wire.roots_of o ≡ l.roots
unfolding wire.roots_of
roots_is l o e = rw (e, wire.roots_of) refl

-- The note N stands first on the link l from v to u, which is not cut; s is the state of u.
module _ (script : Script) (once : KnowsOnce script) (w x : World) (es : List Entry) (k : ℕ) (follow : NoticesFollowCuts es) (opened : world.open_from script zero script.vats (world.begins script) ≡ Goes w) (stepped : world.steps_from script es k w ≡ Goes x)
    (v u : ℕ) (s : Vat Name) (there : slice_get x.vats u ≡ Some s) (other : v ≡ u → ⊥) (l : Link) (at : link_at v u x.links ≡ Some l) (uncut : l.cut ≡ false) (N : Note Name) (ns : List (Note Name)) (head : l.notes ≡ N ∷ ns) where
  wires : Wire script x
  wires = (stepped_both script once w x es k opened stepped).1

  link_known : LinkKnown x.vats l
  link_known = let h = wires in (at_link (LinkKnown x.vats) v u l x.links h.links at).0

  from_is : l.from ≡ v
  from_is = let h = wires in (at_link (LinkKnown x.vats) v u l x.links h.links at).1

  to_is : l.to ≡ u
  to_is = let h = wires in (at_link (LinkKnown x.vats) v u l x.links h.links at).2

  abbrev Split : Type 0
  Split = (front : List (Note Name)) × (l.log ≡ front ++ l.notes)

  splits : Split
  splits = let h = link_known in let a = h.arrived uncut in (a.0, a.1)

  abbrev Front : List (Note Name)
  Front = splits.0

  front_is : arrived (link_at v u x.links) ≡ Front
  front_is = ap arrived at ∙ arrived_is l Front splits.1

  pub logged : IsAmong N l.log
  logged = subst (λ ms. IsAmong N ms) (sym (splits.1 ∙ ap (λ ms. Front ++ ms) head)) (among_mid N Front ns)

  sent : Sent x.vats v u N
  sent = let h = link_known in subst (λ (z : ℕ). Sent x.vats v z N) to_is (subst (λ (z : ℕ). Sent x.vats z l.to N) from_is (all_among (Sent x.vats l.from l.to) l.log N h.sent logged))

  pub proper : Proper v u N
  proper = sent.1

  pub between : IsBetween v u N
  between = let fits = at_link LinkFits v u l x.links ((notes_name_ends script once).1 w x es k opened stepped) at in subst (λ (z : ℕ). IsBetween v z N) to_is (subst (λ (z : ℕ). IsBetween z l.to N) from_is (all_among (IsBetween l.from l.to) l.log N fits.0.0 logged))

  pub carries : Carries v u N
  carries = let fits = at_link LinkCarries v u l x.links ((notes_carry_ends script once).1 w x es k opened stepped) at in subst (λ (z : ℕ). Carries v z N) to_is (subst (λ (z : ℕ). Carries z l.to N) from_is (all_among (Carries l.from l.to) l.log N fits.0.0 logged))

  -- ---- providers

  pub providers : HasProviders x
  providers = subst (λ r. Reached HasProviders r) stepped ((one_provider script).1 w es k opened)

  abbrev pub Providers : ℕ → ℕ
  Providers = providers.0

  pub provides : Provides Providers x.drawn v u N
  provides = let fits = at_link (LinkProvides Providers x.drawn) v u l x.links (each_all (LinkProvides Providers x.drawn) x.links providers.1) at in
      subst (λ (z : ℕ). Provides Providers x.drawn v z N) to_is (subst (λ (z : ℕ). Provides Providers x.drawn z l.to N) from_is (all_among (Provides Providers x.drawn l.from l.to) l.log N (each_all (Provides Providers x.drawn l.from l.to) l.log fits.0.0) logged))

  -- ---- what is known

  abbrev pub Asked : List Name
  Asked = wire.questions (λ i. i) x.links u v

  abbrev pub Put : List Name
  Put = wire.questions (λ i. i) x.links v u

  abbrev pub Answers : List Name
  Answers = wire.questions_in u (arrived (link_at v u x.links))

  abbrev Arrived : List Name
  Arrived = wire.exports_after v Asked (arrived (link_at v u x.links)) (wire.roots_of (link_at v u x.links))

  abbrev Exports : List Name
  Exports = wire.exports (λ i. i) x.links v u

  put_is : Put ≡ Answers ++ wire.questions_in u l.notes
  unfolding wire.questions
  put_is = ap (wire.questions_in u) (log_is l (link_at v u x.links) at ∙ splits.1) ∙ questions_twice u Front l.notes ∙ ap (λ fs. wire.questions_in u fs ++ wire.questions_in u l.notes) (sym front_is)

  exports_are : Exports ≡ wire.exports_after v Asked l.notes Arrived
  unfolding wire.exports
  exports_are = ap (λ ms. wire.exports_after v Asked ms (wire.roots_of (link_at v u x.links))) (log_is l (link_at v u x.links) at ∙ splits.1) ∙ exports_twice v Asked Front l.notes (wire.roots_of (link_at v u x.links)) ∙ ap (λ fs. wire.exports_after v Asked l.notes (wire.exports_after v Asked fs (wire.roots_of (link_at v u x.links)))) (sym front_is)

  pub ahead : Starts (wire.with_note v Asked N Arrived) Exports
  unfolding wire.exports_after
  ahead = let more = exports_start v Asked ns (wire.with_note v Asked N Arrived) in (more.0, exports_are ∙ ap (λ ms. wire.exports_after v Asked ms Arrived) head ∙ more.1)

  pub known : (n : Name) → IsAmong n Arrived → IsKnownIn (names_in s.known) n
  known n a = all_among (IsKnownIn (names_in s.known)) Arrived n here a
    where
      here : AllOf (IsKnownIn (names_in s.known)) Arrived
      here = subst (λ o. AllOf (IsKnownIn (names_in s.known)) (wire.exports_after v Asked (arrived o) (wire.roots_of o))) (sym at) (subst (λ rs. AllOf (IsKnownIn (names_in s.known)) (wire.exports_after v Asked (arrived (Some l)) rs)) (sym (roots_is l (Some l) refl)) ((arrived_known script once).1 w x es k opened stepped u s there v l at uncut))

  pub before : (F Ms : List Name) → Starts (names_in s.known) F → Before script x v u s N F Ms other
  before F Ms f = record {
    asks = λ n a. all_among (λ m. IsAmong m (names_in s.known)) Asked n ((asked_for_known script once).1 w x es k opened stepped u s there v) a;
    heard = λ n a. all_among (λ m. IsAmong m (names_in s.known)) Answers n (subst (λ o. AllOf (λ m. IsAmong m (names_in s.known)) (wire.questions_in u (arrived o))) (sym at) ((was_asked_known script once).1 w x es k opened stepped u s there v l at uncut)) a;
    gave = λ n a. all_among (IsKnownIn (names_in s.known)) (wire.exports (λ i. i) x.links u v) n ((exported_known script once).1 w x es k opened stepped u s there v) a;
    first = f;
    asked = (wire.questions_in u l.notes, put_is);
  }

  pub stage : (F Ms : List Name) → Starts (names_in s.known) F → Stage script x v u s N F Ms other (names_in s.known) Arrived
  stage F Ms f = record {
    names = f;
    exports = let more = exports_start v Asked l.notes Arrived in (more.0, exports_are ∙ more.1);
    base = λ n a. a;
    known = known;
    comes = λ n host a. comes n (names_from_hosts script once w x es k follow opened stepped u v s there other l at uncut n a host);
  }
    where
      arrived_same : wire.exports_after v Asked (arrived (Some l)) l.roots ≡ Arrived
      arrived_same = ap (λ rs. wire.exports_after v Asked (arrived (Some l)) rs) (sym (roots_is l (Some l) refl)) ∙ ap (λ o. wire.exports_after v Asked (arrived o) (wire.roots_of o)) (sym at)

      comes : (n : Name) → IsAmong n Asked ⊎ IsAmong n (wire.exports_after v Asked (arrived (Some l)) l.roots) → IsAmong n Asked ⊎ IsAmong n Arrived
      comes n (inl a) = inl a
      comes n (inr a) = inr (subst (λ ms. IsAmong n ms) arrived_same a)

  -- ---- what was asked for in front of the note

  sender : (r : Vat Name) × (slice_get x.vats v ≡ Some r)
  sender = let b = answers_stepped script once w x es k opened stepped in let legs = b.legs in sender_of script x v u N ns l legs.none at head

  answer_before : (m : Msg) (y : Note Name) (asks : Bool) (c : Option Name) (n : Name) (verb : List ℕ) (ys : _) → y ≡ Deliver (record { message = Message_name m; asks = asks; answer = c }) n verb ys → IsAmong y l.notes → IsAmong (Answer u m) (told_in N) → ⊥
  answer_before m y asks c n verb ys e a t = either (among_dec (Answer u m) (names_in s.known))
    where
      either : IsAmong (Answer u m) (names_in s.known) ⊎ (IsAmong (Answer u m) (names_in s.known) → ⊥) → ⊥
      either (inl i) = let b = answers_stepped script once w x es k opened stepped in let legs = b.legs in let none = legs.early m v u s there i l at in let some = on_link_one m y l asks c n verb ys e a in absurd (omega arith)
      either (inr f) = let b = answers_stepped script once w x es k opened stepped in let legs = b.legs in
          not_told (Answer u m) N (unknown_not script x v u m s N ns l (stepped_before script once w x es k opened stepped) legs.none there at uncut head f) t

  message_late : (n : Name) → IsAmong n (told_in N) → (m : Name) (b : Bool) (c : Option Name) (to : Name) (verb : List ℕ) (ys : Passeds Name) → IsAmong (Deliver (record { message = m; asks = b; answer = c }) to verb ys) l.notes → IsMessageName m → answer_of u m ≡ n → ⊥
  unfolding answer_of
  message_late n t (Message_name m) b c to verb ys a o e = answer_before m (Deliver (record { message = Message_name m; asks = b; answer = c }) to verb ys) b c to verb ys refl a (subst (λ z. IsAmong z (told_in N)) (sym e) t)
  message_late n t other b c to verb ys a o e = o

  -- a note under way that asks for what the first one tells asks for a gift
  asked_late : GiftsWereAskedFor x v u N → (n : Name) → IsAmong n (told_in N) → IsAmong n Put → (y : Note Name) → IsAmong y l.notes → AsksOwn u y → AsksOf u y n → IsAmong n Answers
  unfolding answer_of
  asked_late g n t p (Deliver d to verb ys) a o e = absurd (message_late n t d.message d.asks d.answer to verb ys a o e.1)
  asked_late g n t p (Ask q i m) a o e = let same : n ≡ Gift u i = sym e ∙ o in subst (λ z. IsAmong z Answers) (sym same) (g i (subst (λ z. IsAmong z (told_in N)) same t) (subst (λ z. IsAmong z Put) same p))
  asked_late g n t p other a o e = absurd e

  own_asks : (y : Note Name) → IsAmong y l.notes → AsksOwn u y
  own_asks y a = let h = link_known in let all = all_among (Sent x.vats l.from l.to) l.log y h.sent (subst (λ ms. IsAmong y ms) (sym splits.1) (among_right y Front l.notes a)) in subst (λ (z : ℕ). AsksOwn z y) to_is all.0

  pub asked_before : GiftsWereAskedFor x v u N → (n : Name) → IsAmong n (told_in N) → IsAmong n Put → IsAmong n Answers
  asked_before g n t p = either (among_split n Answers (wire.questions_in u l.notes) (subst (λ qs. IsAmong n qs) put_is p))
    where
      either : IsAmong n Answers ⊎ IsAmong n (wire.questions_in u l.notes) → IsAmong n Answers
      either (inl a) = a
      either (inr a) = let r = asker u n l.notes a in asked_late g n t p r.0 r.1 (own_asks r.0 r.1) r.2

  -- where notes bring what is new, a gift was asked for before it is told
  not_answer : (m : Name) (i : ℕ) → IsMessageName m → answer_of u m ≡ Gift u i → ⊥
  unfolding answer_of
  not_answer (Message_name m) i o e = cc
  not_answer other i o e = o

  told_none : (p i : ℕ) (n m : Name) → Ask p i n ≡ N → IsAmong m (told_in N) → ⊥
  unfolding told_in
  told_none p i n m e a = subst (λ y. IsAmong m (told_in y)) (sym e) a

  late : NotesBringNew script es k w → (i : ℕ) → IsAmong (Gift u i) (told_in N) → (y : Note Name) → IsAmong y (N ∷ ns) → AsksOwn u y → AsksOf u y (Gift u i) → ⊥
  late new i t (Deliver d to verb ys) a o e = not_answer d.message i o e.1
  late new i t (Ask p j n) (inl f) o e = told_none p j n (Gift u i) f t
  late new i t (Ask p j n) (inr a) o e = gifts_asked_first script once w x es k new opened stepped v u l at Front ns N (splits.1 ∙ ap (λ ms. Front ++ ms) head) p j n (subst (λ z. IsAmong z (told_in N)) (sym e) t) a
  late new i t other a o e = e

  pub asked_for : NotesBringNew script es k w → GiftsWereAskedFor x v u N
  asked_for new i t p = either (among_split (Gift u i) Answers (wire.questions_in u l.notes) (subst (λ qs. IsAmong (Gift u i) qs) put_is p))
    where
      either : IsAmong (Gift u i) Answers ⊎ IsAmong (Gift u i) (wire.questions_in u l.notes) → IsAmong (Gift u i) Answers
      either (inl a) = a
      either (inr a) = let r = asker u (Gift u i) l.notes a in absurd (late new i t r.0 (subst (λ ms. IsAmong r.0 ms) head r.1) (own_asks r.0 r.1) r.2)

  pub ends : (F Ms : List Name) → GiftsWereAskedFor x v u N → (n : Name) → IsAmong n (told_in N) → Ends script x v u s N F Ms other n
  ends F Ms g n t = either (told_ends v u n N (λ e. other (sym e)) proper between carries t)
    where
      yours : host_of n ≡ u → IsAmong n Put ⊎ IsAmong n (wire.exports (λ i. i) x.links u v) → Yours script x v u s N F Ms other n
      yours host (inl p) = inl (asked_before g n t p)
      yours host (inr e) = on_bool (has_name Put n) (λ p. inl (asked_before g n t (has_among Put n p))) (λ p. inr (p, e))

      either : OfEither v u n → Ends script x v u s N F Ms other n
      either (inl host) = inl host
      either (inr host) = let r = sender in
          let all = all_among (λ (note : Note Name). AllOf (λ m. host_of m ≡ u → IsAmong m Put ⊎ IsAmong m (wire.exports (λ i. i) x.links u v)) (told_in note)) l.log N (notes_name_given script once w x es k follow opened stepped v u r.0 r.1 other l at uncut) logged in
          inr (host, yours host (all_among (λ m. host_of m ≡ u → IsAmong m Put ⊎ IsAmong m (wire.exports (λ i. i) x.links u v)) (told_in N) n all t host))

  -- ---- a gift that is asked for

  gift_old : (i : ℕ) → is_old (names_in s.known) (Gift u i) ≡ has_name (names_in s.known) (Gift u i)
  unfolding is_old
  gift_old i = refl

  gift_host : (i : ℕ) → host_of (Gift u i) ≡ u
  unfolding host_of
  gift_host i = refl

  asks_itself : (p i : ℕ) (n : Name) → IsAmong n (wire.questions_in u (Ask p i n ∷ ns))
  unfolding wire.questions_in
  asks_itself p i n = inl refl

  pub asks : (F Ms : List Name) → AskedGiftStands u N s → (p i : ℕ) (n : Name) → N ≡ Ask p i n → IsProvidedBy Providers x.drawn i p → Asks script x v u s N F Ms other p i n
  asks F Ms g p i n e q = record {
    host = ap host_of same ∙ gift_host i;
    eventual = ap (is_old (names_in s.known)) same ∙ gift_old i ∙ ap (has_name (names_in s.known)) (sym same);
    put = subst (λ qs. IsAmong n qs) (sym put_is) (among_right n Answers (wire.questions_in u l.notes) (subst (λ ms. IsAmong n (wire.questions_in u ms)) (sym (head ∙ ap (λ z. z ∷ ns) e)) (asks_itself p i n)));
    entry = λ h f. entry h (found_entry p i s.gifts h f);
    absent = λ f a. entered_found Providers x.drawn p i s.gifts q.1 provided (stands (subst (λ z. IsAmong z (names_in s.known)) same a)) f;
  }
    where
      stands : IsAmong (Gift u i) (names_in s.known) → IsEntered i s.gifts
      stands = subst (λ y. AskedGiftStands u y s) e g

      own : AsksOwn u (Ask p i n)
      own = subst (λ y. AsksOwn u y) e sent.0

      same : n ≡ Gift u i
      same = own

      provided : AllOf (IsProvided Providers x.drawn) s.gifts
      provided = each_all (IsProvided Providers x.drawn) s.gifts (providers.2 u s there)

      entry : (h : GiftEntry Name) → IsAmong h s.gifts × (is_gift p i h ≡ true) → (h.name ≡ n) × IsAmong n (names_in s.known)
      entry h f = let b = wires in let fits = all_among (GiftFits u (names_in s.known)) s.gifts h (b.gifts u s there) f.0 in let is : h.name ≡ n = fits.0 ∙ ap (λ j. Gift u j) (gift_number p i h f.1) ∙ sym same in (is, subst (λ z. IsAmong z (names_in s.known)) is fits.1)
