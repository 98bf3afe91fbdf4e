-- As long as the asking for a gift is under way, no vat but the asking one has that gift in hand, nor does another one name it.
use Rattle.std.proofs.Common.{◌≡◌, ℕ, zero, suc, ◌+◌, ◌≤◌, Bool, true, false, List, [], ◌∷◌, ◌++◌, Option, Some, None, refl, sym, ap, subst, ◌∙◌, ◌⊎◌, inl, inr, ◌==◌, arith}
use Rattle.std.specs.Prelude.{slice_get}
use Rattle.std.proofs.lemmas.Bool.{eq-eqb}
use Rattle.def_machine.specs.Values.{Value, Ref, Name, Root, Answer, Gift, Msg, host_of}
use Rattle.def_machine.specs.State.{Message, Passed, Passeds, Plain, AGift, Many, NoMore, More, Note, Deliver, Open, Ask, SettledTo, Elsewhere, Shorten, Put, Vat}
use Rattle.def_machine.specs.Scopes.{any_guard}
use Rattle.law_machine.specs.Machine.Steps.{Step, Receives}
use Rattle.def_run.specs.Draws.{draw_word}
use Rattle.def_run.specs.World as world
use Rattle.def_run.specs.World.{Script, Program, Link, World, names_of, read_note, readied, put_at, push_all, pushed, with_link, with_notes, severed_link, link_at}
use Rattle.law_fate.specs.Fates.Fate.{once}
use Rattle.law_fate.specs.Name.Names.{Bit, Named, Mail, Entered, Owns, Gave, AllOf, IsAmong, WasDrawn, NounOk, NoteOk, PutOk, Everywhere, names_in}
use Rattle.law_fate.proofs.Name.Facts.{all_map, Nothing}
use Rattle.law_fate.proofs.Name.Among.{all_among}
use Rattle.law_fate.proofs.Name.Care.{parts_up}
use Rattle.law_fate.proofs.Name.Run.{Had, Stands, name_had}
use Rattle.law_reference.specs.Reference.Logs as wire
use Rattle.law_reference.specs.Reference.Notes.{IsBetween, Carries, LinkFits, LinkCarries}
use Rattle.law_reference.specs.Reference.Hiding.{IsNotOf, IsOfNoOther, Shuns, Spares}
use Rattle.law_reference.specs.Reference.GiftPassing.{gifts_in, gifts_in_all, gifts_in_note, gifts_under_way, drawn_of}
use Rattle.law_reference.proofs.Reference.NotesLift as lift
use Rattle.law_reference.proofs.Reference.Puts.{gifts_out}
use Rattle.law_reference.proofs.Reference.GiftLinks.{pushed_notes, push_all_gifts, with_link_less, severed_less}
use Rattle.law_reference.proofs.Reference.First.{among_dec}
use Rattle.law_reference.proofs.Reference.Follow.{put_cases, eq_dec}
use Rattle.law_reference.proofs.Reference.AnswerLinks.{AtLink, with_any, push_of, push_others, pushed_all}
use Rattle.law_reference.proofs.Reference.LinksCut.{fits_notes, fits_severed}
use Rattle.law_reference.proofs.Reference.LegRuns.{MailBits, stands_of, first_mails}
use Rattle.law_reference.proofs.Reference.Moves.{Moved, Still, Severs, Drops, Steps, Arrives, IsAlone, Does}
use Rattle.law_reference.proofs.Reference.Arrivals.{ValueTells, PassedTells, PassedsTell}
use Rattle.law_reference.proofs.Reference.ApartSteps.{does_sound, arrives_sound}
use Rattle.law_reference.proofs.Reference.HideMoves.{HiddenAt, taken_sum, under_drawn, early, new_hidden, note_new, alone_out, note_out}
use Rattle.law_frame.specs.Frame.Asked.{AsksOf, told_value, told_passed, told_all, told_in}
use Rattle.law_frame.specs.Frame.Known.{KnowsEach}
use Rattle.law_frame.specs.Frame.Tables.{arrived}
use Rattle.law_frame.proofs.Frame.ArriveAsking.{among_front, among_back}
use Rattle.law_frame.proofs.Frame.Exported.{among_split}
use Rattle.law_frame.proofs.Frame.WireArrivals.{arrived_is}
use Rattle.law_frame.proofs.Frame.Told.{note_told}
use Rattle.law_frame.proofs.Frame.LinksKnown.{AsksOwn, Sent, LinkKnown, at_link}
use Rattle.law_frame.proofs.Frame.LinksGo.{Splits, FoundFrom, Stays, links_on, with_link_here, taken_arrived}
use Rattle.law_frame.proofs.Frame.Sources.{OfEither, push_all_goes, take_goes, take_splits, waiting_logged}
use Rattle.law_frame.proofs.Frame.SourceLaws.{log_is, asks_in}
use Rattle.law_frame.proofs.Frame.WireRuns.{Wire, splits_of}
use Rattle.law_frame.proofs.Frame.Order.{InOrder, told_not_asked}
use Rattle.law_frame.proofs.Frame.OrderRuns.{LogsOrdered, found_all}
use Rattle.law_frame.proofs.Frame.Before.{MovePutsNot, PutsNot, asked_before}
use Rattle.law_frame.proofs.Frame.Missed.{AsksNoGift, alone_asks, arrival_asks}
use Rattle.law_frame.proofs.Frame.Untold.{Knows, none_out, provides}
use Rattle.law_frame.proofs.Frame.Untouched.{puts_free}
use Rattle.law_frame.proofs.Frame.Given.{told_ends}
use Rattle.law_frame.proofs.Frame.Worlds.{asker}
use Rattle.law_frame.proofs.Heard.Pairs.{NoneItself, true_false}
use Rattle.law_frame.proofs.Heard.Moves.{goes_of}
use Rattle.law_frame.proofs.Heard.Open.{IsOpen, some_is, open_taken, open_pushed}
use Rattle.law_frame.proofs.Heard.Bare as bare
use Rattle.law_frame.proofs.Heard.Bare.{Bare, Bares, bare_under, bare_makes, note_bare}

-- ---- what a note tells

module _ (g i : ℕ) where
  abbrev X : Name
  X = Gift g i

  -- it does not tell the gift, and asks for none under its key
  abbrev pub Spared : Note Name → Type 0
  Spared n = (IsAmong X (told_in n) → ⊥) × AsksNoGift i n

  module _ (v : ℕ) where
    abbrev T : Name → Type 0
    T m = m ≡ X → ⊥

    abbrev G : ℕ → ℕ → Type 0
    G h j = j ≡ i → ⊥

    abbrev Q : ℕ → Type 0
    Q j = v ≡ g → j ≡ i → ⊥

    value_tells : (y : Value Name) → (IsAmong X (told_value y) → ⊥) → ValueTells T G Q y
    unfolding told_value
    value_tells (Ref n) f = λ e. f (inl (sym e))
    value_tells other f = tt

    once_other : (j : ℕ) (b : Bool) → (i == j) ≡ b → once b ≡ 0 → j ≡ i → ⊥
    unfolding once
    once_other j true e f x = cc
    once_other j false e f x = no (sym (eq-eqb i j (sym x)) ∙ e)
      where
        no : true ≡ false → ⊥
        no e = cc

    mutual
      unfolding told_passed told_all gifts_in gifts_in_all

      passed_tells : (y : Passed Name) → (IsAmong X (told_passed y) → ⊥) → gifts_in i y ≡ 0 → PassedTells T G Q y
      passed_tells (Plain y) f e = value_tells y f
      passed_tells (AGift c j) f e = once_other j (i == j) refl e
      passed_tells (Many ys) f e = passeds_tell ys f e

      passeds_tell : (ys : Passeds Name) → (IsAmong X (told_all ys) → ⊥) → gifts_in_all i ys ≡ 0 → PassedsTell T G Q ys
      passeds_tell NoMore f e = tt
      passeds_tell (More y ys) f e = (passed_tells y (λ a. f (among_front X (told_passed y) (told_all ys) a)) (omega arith), passeds_tell ys (λ a. f (among_back X (told_passed y) (told_all ys) a)) (omega arith))

    note_tells : (word : ℕ → ℕ) (n : Note Name) → NoteOk MailBits n → (IsAmong X (told_in n) → ⊥) → gifts_in_note i n ≡ 0 → (v ≡ g → AsksNoGift i n) → bare.Tells g i v word n
    unfolding told_in gifts_in_note
    note_tells word (Deliver m n verb ys) o f e q = (o.0, λ k. f (inl (sym k)), passeds_tell ys (λ a. f (inr a)) e)
    note_tells word (Ask p j n) o f e q = q
    note_tells word (SettledTo n y) o f e q = (λ k. f (inl (sym k)), passed_tells y (λ a. f (inr a)) e)
    note_tells word other o f e q = λ k. f (inl (sym k))

    -- what a vat without it puts
    pub told_not : (n : Note Name) → NoteOk (Bare g i v) n → IsAmong X (told_in n) → ⊥
    told_not n h a = all_among (λ z. Bare g i v (Named z)) (told_in n) X (note_told (Bare g i v) n h) a refl

    puts_spared : (ps : List (Put Name)) → AllOf (PutOk (Bare g i v)) ps → AllOf (λ (p : Put Name). AsksNoGift i p.note) ps → AllOf (λ (p : Put Name). Spared p.note) ps
    puts_spared [] h k = tt
    puts_spared (p ∷ ps) h k = ((told_not p.note h.0.0, k.0), puts_spared ps h.1 k.1)

    -- ---- where no gift under its key is in hand at all

    not_it : (n : Name) → IsNotOf i n → n ≡ X → ⊥
    not_it n h e = let one : IsNotOf i X = subst (IsNotOf i) e h in one refl

    host_is : (n : Name) → IsOfNoOther i v n → n ≡ X → v ≡ g
    host_is n h e = let one : IsOfNoOther i v X = subst (IsOfNoOther i v) e h in sym (one refl)

    shuns_bare : (b : Bit Name) → Shuns i v b → Bare g i v b
    shuns_bare (Named n) h = not_it n h
    shuns_bare (Mail n) h = h
    shuns_bare (Entered n) h = λ e. host_is n h e
    shuns_bare (Owns n j) h = λ e. (host_is n h.0 e, owned j (eq_dec j i) (λ f. not_it n (h.1 f) e))
      where
        owned : (j : ℕ) → (j ≡ i) ⊎ (j ≡ i → ⊥) → ((j ≡ i → ⊥) → ⊥) → j ≡ i
        owned j (inl a) f = a
        owned j (inr a) f = absurd (f a)
    shuns_bare (Gave j) h = λ e. h
    shuns_bare other h = tt

  spares_named : (n : Note Name) → NoteOk (Spares i) n → IsAmong X (told_in n) → ⊥
  spares_named n h a = not_it zero X (all_among (λ z. Spares i (Named z)) (told_in n) X (note_told (Spares i) n h) a) refl

  spares_spared : (n : Note Name) → NoteOk (Spares i) n → Spared n
  spares_spared n h = (spares_named n h, asks n h)
    where
      asks : (n : Note Name) → NoteOk (Spares i) n → AsksNoGift i n
      asks (Ask p j x) k = k.0
      asks other k = tt

  shuns_asks : (v : ℕ) (ps : List (Put Name)) → AllOf (PutOk (Shuns i v)) ps → AllOf (λ (p : Put Name). AsksNoGift i p.note) ps
  shuns_asks v [] h = tt
  shuns_asks v (p ∷ ps) h = (one p.note h.0.0, shuns_asks v ps h.1)
    where
      one : (n : Note Name) → NoteOk (Shuns i v) n → AsksNoGift i n
      one (Ask p j x) k = k.0
      one (Deliver m x verb ys) k = tt
      one (Open j x) k = tt
      one (SettledTo x y) k = tt
      one (Elsewhere x c) k = tt
      one (Shorten x c j) k = tt

  given_bare : (v : ℕ) (ps : List Program) (us : List ℕ) → AllOf (NounOk (Bare g i v)) (world.given ps us)
  unfolding world.given any_guard
  given_bare v ps [] = tt
  given_bare v ps (u ∷ us) = ((λ e. cc, tt), given_bare v ps us)

-- ---- worlds

-- what stands where an asking is under way from u to g
pub record Alone (u g i : ℕ) (vats : List (Vat Name)) (ls : List Link) : Type 0 where
  pub none : gifts_under_way i ls ≡ 0
  pub bare : (a : ℕ) (s : Vat Name) → (a ≡ u → ⊥) → slice_get vats a ≡ Some s → Everywhere (Bare g i a) s
  pub notes : (a b : ℕ) → (a ≡ u → ⊥) → AtLink a b (λ (l : Link). AllOf (Spared g i) l.notes) ls

abbrev pub AsksFor : ℕ → ℕ → ℕ → World → Type 0
AsksFor u g i w = IsAmong (Gift g i) (wire.questions (λ i. i) w.links u g)

abbrev pub Unheard : ℕ → ℕ → Link → Type 0
Unheard g i m = IsAmong (Gift g i) (wire.questions_in g (arrived (Some m))) → ⊥

-- So it is where a gift was asked for in no note that has arrived.
abbrev pub AloneWhereLate : World → Type 0
AloneWhereLate w = (u g i : ℕ) → (u ≡ g → ⊥) → (m : Link) → link_at u g w.links ≡ Some m → m.cut ≡ false → AsksFor u g i w → Unheard g i m → Alone u g i w.vats w.links

module _ (script : Script) where
  -- what is known of the worlds of a run
  pub record Facts (w : World) : Type 0 where
    pub knows : Knows script w
    pub ordered : LogsOrdered w.links
    pub fits : AllOf LinkFits w.links
    pub carries : AllOf LinkCarries w.links
    pub alone : NoneItself w.links
    pub asked : (u : ℕ) (s : Vat Name) → slice_get w.vats u ≡ Some s → (v : ℕ) → KnowsEach s (wire.questions (λ i. i) w.links u v)

  pub wires : (w : World) → Facts w → Wire script w
  wires w f = let k = f.knows in k.wire

  pub splits : (w : World) → Facts w → AllOf Splits w.links
  splits w f = let h = wires w f in splits_of w.vats w.links h.links

  pub stands : (w : World) → Facts w → Stands script w
  stands w f = let k = f.knows in let past = k.past in stands_of script w past.0

  -- ---- a note on a link

  module _ (w : World) (f : Facts w) (a v : ℕ) (l : Link) (at : link_at a v w.links ≡ Some l) (n : Note Name) (logged : IsAmong n l.log) where
    pub sent : Sent w.vats a v n
    sent = let h = wires w f in let k = at_link (LinkKnown w.vats) a v l w.links h.links at in let known = k.0 in
        subst (λ (z : ℕ). Sent w.vats a z n) k.2 (subst (λ (z : ℕ). Sent w.vats z l.to n) k.1 (all_among (Sent w.vats l.from l.to) l.log n known.sent logged))

    pub between : IsBetween a v n
    between = let k = at_link LinkFits a v l w.links f.fits at in subst (λ (z : ℕ). IsBetween a z n) k.2 (subst (λ (z : ℕ). IsBetween z l.to n) k.1 (all_among (IsBetween l.from l.to) l.log n k.0.0 logged))

    pub carried : Carries a v n
    carried = let k = at_link LinkCarries a v l w.links f.carries at in subst (λ (z : ℕ). Carries a z n) k.2 (subst (λ (z : ℕ). Carries z l.to n) k.1 (all_among (Carries l.from l.to) l.log n k.0.0 logged))

    pub told_of : (z : Name) → IsAmong z (told_in n) → OfEither a v z
    told_of z b = told_ends a v z n (λ e. f.alone a l (subst (λ (c : ℕ). link_at a c w.links ≡ Some l) e at)) sent.1 between carried b

  pub none_some : {A : Type 0} {x : A} → ◌≡◌ {A = Option A} None (Some x) → ⊥
  none_some e = cc

  -- the word of what is asked for was drawn
  asked_drawn : (w : World) → Facts w → (u g i : ℕ) (m : Link) → link_at u g w.links ≡ Some m → AsksFor u g i w → WasDrawn w.drawn i
  unfolding wire.questions wire.questions_in
  asked_drawn w f u g i m at a = either (slice_get w.vats u) refl
    where
      none : m.log ≡ [] → ⊥
      none e = subst (λ ns. IsAmong (Gift g i) (wire.questions_in g ns)) (log_is m (link_at u g w.links) at ∙ e) a

      either : (o : Option (Vat Name)) → slice_get w.vats u ≡ o → WasDrawn w.drawn i
      either None e = let k = f.knows in absurd (none (k.none u g e m at))
      either (Some s) e = let k = (stands w f).vats u s e in let parts = k.parts in
          (name_had (Had script w u s) s.known (Gift g i) parts.known (all_among (λ z. IsAmong z (names_in s.known)) (wire.questions (λ i. i) w.links u g) (Gift g i) (f.asked u s e g) a)).0

  -- ---- a move

  -- a gift is asked for by a link that is cut, or in no note that has arrived; if it was asked for before, that stood before
  module _ (w y : World) (f : Facts w) (h : Facts y) (u g i : ℕ) (other : u ≡ g → ⊥) (m : Link) (at : link_at u g y.links ≡ Some m) (asks : AsksFor u g i y) (late : (m.cut ≡ true) ⊎ ((m.cut ≡ false) × Unheard g i m)) (alone_before : AsksFor u g i w → Alone u g i w.vats w.links) where
    abbrev It : Name
    It = Gift g i

    module _ (move : Moved script w y) where
      was : FoundFrom w.links u g m
      was = goes_of script w y (splits w f) move u g m at

      drawn_before : AsksFor u g i w → WasDrawn w.drawn i
      drawn_before a = asked_drawn w f u g i was.0 was.1 a

      -- what is asked for only now is asked for in the move
      asked_now : (AsksFor u g i w → ⊥) → MovePutsNot w u g It script y move → ⊥
      asked_now n p = n (asked_before w u g It script y (wires y h) move p asks)

    -- ---- where it was asked for before

    no_answer : (c : Msg) → It ≡ Answer g c → ⊥
    no_answer c e = cc

    gift_key : (j : ℕ) → It ≡ Gift g j → i ≡ j
    gift_key j e = cc

    puts_none : (ps : List (Put Name)) → AllOf (λ (p : Put Name). AsksNoGift i p.note) ps → PutsNot g It ps
    puts_none ps k = puts_free g It ps (λ c e. absurd (no_answer c e)) (λ j e. subst (λ z. AllOf (λ (p : Put Name). AsksNoGift z p.note) ps) (gift_key j e) k)

    zero_of : (x : ℕ) → x ≤ 0 → x ≡ 0
    zero_of x l = omega arith

    pushed_none : (t : Vat Name) (v : ℕ) (ls : List Link) → WasDrawn w.drawn i → gifts_out i t.outbox + drawn_of i w.drawn ≤ drawn_of i t.drawn → gifts_under_way i ls ≡ 0 → gifts_under_way i (push_all v t.outbox ls) ≡ 0
    pushed_none t v ls d out e = let none = none_out script i w.drawn t.drawn (gifts_out i t.outbox) d out in let pushed = push_all_gifts (λ (j : Link). j.notes) i (pushed_notes i) v t.outbox ls in zero_of (gifts_under_way i (push_all v t.outbox ls)) (omega arith)

    push_notes : (v : ℕ) (ps : List (Put Name)) (ls : List Link) → ((v ≡ u → ⊥) → AllOf (λ (p : Put Name). Spared g i p.note) ps) → ((a b : ℕ) → (a ≡ u → ⊥) → AtLink a b (λ (l : Link). AllOf (Spared g i) l.notes) ls)
        → (a b : ℕ) → (a ≡ u → ⊥) → AtLink a b (λ (l : Link). AllOf (Spared g i) l.notes) (push_all v ps ls)
    push_notes v ps ls k n a b o = either (eq_dec a v)
      where
        either : (a ≡ v) ⊎ (a ≡ v → ⊥) → AtLink a b (λ (l : Link). AllOf (Spared g i) l.notes) (push_all v ps ls)
        either (inl e) = push_of a b v (λ (l : Link). AllOf (Spared g i) l.notes) (Spared g i) (λ l x r q. pushed_all (Spared g i) l x r q) ps ls (k (λ z. o (e ∙ z))) (n a b o)
        either (inr e) = push_others a b v (λ (l : Link). AllOf (Spared g i) l.notes) ps ls e (n a b o)

    -- vat v goes on to t
    on_vats : (v : ℕ) (t : Vat Name) (vs : List (Vat Name)) → ((v ≡ u → ⊥) → Everywhere (Bare g i v) t) → ((a : ℕ) (s : Vat Name) → (a ≡ u → ⊥) → slice_get vs a ≡ Some s → Everywhere (Bare g i a) s)
        → (a : ℕ) (r : Vat Name) → (a ≡ u → ⊥) → slice_get (put_at v t vs) a ≡ Some r → Everywhere (Bare g i a) r
    on_vats v t vs k b a r o e = either (put_cases v t vs a r e)
      where
        either : ((a ≡ v) × (t ≡ r)) ⊎ ((a ≡ v → ⊥) × (slice_get vs a ≡ Some r)) → Everywhere (Bare g i a) r
        either (inl x) = subst (λ (z : Vat Name). Everywhere (Bare g i a) z) x.1 (subst (λ (z : ℕ). Everywhere (Bare g i z) t) (sym x.0) (k (λ z. o (x.0 ∙ z))))
        either (inr x) = b a r o x.1

    roots : (v : ℕ) (p : Program) → slice_get script.vats v ≡ Some p → Bare g i v (Named (Root v)) × AllOf (NounOk (Bare g i v)) (world.given script.vats p.knows)
    roots v p e = (λ k. cc, given_bare g i v script.vats p.knows)

    more : (v : ℕ) (s : Vat Name) → slice_get w.vats v ≡ Some s → WasDrawn w.drawn i → (qs : List (Message Name)) → ((readied w (record s { queue = qs })).number ≡ v) × WasDrawn (readied w (record s { queue = qs })).drawn i
    unfolding readied
    more v s e d qs = let k = (stands w f).vats v s e in let kept = k.kept in (kept.number, d)

    -- a step that no note begins, of another vat than u
    alone_bare : (v : ℕ) (s q t : Vat Name) (what : Step Name Name) → IsAlone what → Does script w v s q t what → WasDrawn w.drawn i → Everywhere (Bare g i v) s → Everywhere (Bare g i v) t
    alone_bare v s q t what o d drew b = let sound = does_sound script w v s (Bares g i v) (bare_under g i v (draw_word script.key)) (bare_makes g i v (draw_word script.key)) (Bare g i v) b (λ qs x k. k) (more v s d.there drew) (roots v) q t what o d in sound.parts

    note_stays : (a v : ℕ) (s t : Vat Name) (n : Note Name) → Does script w v s s t (Receives a (read_note (names_of s) n)) → WasDrawn w.drawn i → Everywhere (Bare g i v) s
        → NoteOk MailBits n → (IsAmong It (told_in n) → ⊥) → gifts_in_note i n ≡ 0 → (v ≡ g → AsksNoGift i n) → Everywhere (Bare g i v) t
    note_stays a v s t n d drew b mail told none asks_not = let sound = arrives_sound script w v s (Bares g i v) (bare_under g i v (draw_word script.key)) (bare_makes g i v (draw_word script.key)) (Bare g i v) b (λ qs x k. k) (more v s d.there drew) (roots v) t a n Nothing
        (note_bare g i v (draw_word script.key) a (names_of s) n (note_tells g i v (draw_word script.key) n mail told none asks_not)) tt d in sound.parts

    -- ---- a note that arrives, from a to v

    module _ (a v : ℕ) (s t : Vat Name) (n : Note Name) (ns : List (Note Name)) (l : Link) (from : link_at a v w.links ≡ Some l) (notes : l.notes ≡ n ∷ ns) (d : Does script w v s s t (Receives a (read_note (names_of s) n)))
        (links : y.links ≡ push_all v t.outbox (with_link (with_notes ns) a v w.links)) (uncut_before : l.cut ≡ false) where
      abbrev Taken : List Link
      Taken = with_link (with_notes ns) a v w.links

      split : (front : List (Note Name)) × (l.log ≡ front ++ l.notes)
      split = let k = at_link Splits a v l w.links (splits w f) from in k.0 uncut_before

      logged : IsAmong n l.log
      logged = waiting_logged n ns l notes split

      mail : NoteOk MailBits n
      mail = let k = f.knows in let past = k.past in first_mails script w a v n ns l past.0 from notes

      out : gifts_out i t.outbox + drawn_of i w.drawn ≤ drawn_of i t.drawn
      out = let k = f.knows in let past = k.past in note_out i script w v s past.2.0 t a n (provides script w past a v n ns l from notes) d

      -- a link, once the first note was taken from one
      taken_at : (b c : ℕ) → AtLink b c (λ (j : Link). AllOf (Spared g i) j.notes) w.links → AtLink b c (λ (j : Link). AllOf (Spared g i) j.notes) Taken
      unfolding with_notes
      taken_at b c k = with_any b c a v (λ (j : Link). AllOf (Spared g i) j.notes) (with_notes ns) (fits_notes b c ns) w.links (λ j e x z. rest j (k j e) (same j e x z)) (λ j e o. k j e)
        where
          same : (j : Link) → link_at b c w.links ≡ Some j → b ≡ a → c ≡ v → l ≡ j
          same j e x z = some_is l j (sym from ∙ sym (ap (λ p. link_at p c w.links) x ∙ ap (λ p. link_at a p w.links) z) ∙ e)
            where
              some_is : (p q : Link) → Some p ≡ Some q → p ≡ q
              some_is p q e = cc

          rest : (j : Link) → AllOf (Spared g i) j.notes → l ≡ j → AllOf (Spared g i) ns
          rest j k e = let one : AllOf (Spared g i) (n ∷ ns) = subst (λ ms. AllOf (Spared g i) ms) (ap (λ (z : Link). z.notes) (sym e) ∙ notes) k in one.1

      -- ---- where it was asked for before

      first_spared : Alone u g i w.vats w.links → (a ≡ u → ⊥) → Spared g i n
      first_spared k o = let one : AllOf (Spared g i) (n ∷ ns) = subst (λ ms. AllOf (Spared g i) ms) notes (k.notes a v o l from) in one.0

      none_in : Alone u g i w.vats w.links → gifts_in_note i n ≡ 0
      none_in k = let sum = taken_sum i a v n ns l notes w.links from in let e = k.none in zero_of (gifts_in_note i n) (omega arith)

      none_taken : Alone u g i w.vats w.links → gifts_under_way i Taken ≡ 0
      none_taken k = let sum = taken_sum i a v n ns l notes w.links from in let e = k.none in zero_of (gifts_under_way i Taken) (omega arith)

      -- of the asking vat to a third one
      third : a ≡ u → (v ≡ g → ⊥) → IsAmong It (told_in n) → ⊥
      unfolding host_of
      third e o b = go (told_of w f a v l from n logged It b)
        where
          go : OfEither a v It → ⊥
          go (inl x) = other (sym e ∙ sym x)
          go (inr x) = o (sym x)

      -- of the asking vat to the host: the asking is still behind the note
      link_is : a ≡ u → v ≡ g → link_at u g w.links ≡ Some l
      link_is e o = ap (λ p. link_at p g w.links) (sym e) ∙ ap (λ p. link_at a p w.links) (sym o) ∙ from

      -- by a link that is not cut
      module _ (uncut : m.cut ≡ false) (unheard : Unheard g i m) where
        there : a ≡ u → v ≡ g → IsAmong n (arrived (Some m))
        there e o = by (push_all_goes v t.outbox Taken (take_splits n ns a v l w.links from notes (splits w f)) u g m (subst (λ ks. link_at u g ks ≡ Some m) links at))
          where
            some_is : (p q : Link) → Some p ≡ Some q → p ≡ q
            some_is p q e = cc

            stays : Stays (with_notes ns)
            stays b c j = let fits = fits_notes b c ns in fits.place b c j

            by : FoundFrom Taken u g m → IsAmong n (arrived (Some m))
            by k = let goes = k.2 in let here = with_link_here (with_notes ns) stays a v w.links k.0 (ap (λ p. link_at p v Taken) e ∙ ap (λ p. link_at u p Taken) o ∙ k.1) in
                goes.arrivals uncut n (subst (λ (j : Link). IsAmong n (arrived (Some j))) (sym (here.2 ∙ ap (with_notes ns) (some_is here.0 l (sym here.1 ∙ from)))) (taken_arrived n ns l notes (at_link Splits a v l w.links (splits w f) from).0 uncut_before))

        arrived_before : a ≡ u → v ≡ g → (x : Note Name) → IsAmong x split.0 → IsAmong x (arrived (Some m))
        arrived_before e o x b = by (links_on w.links Taken (push_all v t.outbox Taken) (take_goes n ns a v l w.links from notes (splits w f)) (push_all_goes v t.outbox Taken (take_splits n ns a v l w.links from notes (splits w f))) u g m (subst (λ ks. link_at u g ks ≡ Some m) links at))
          where
            some_is : (p q : Link) → Some p ≡ Some q → p ≡ q
            some_is p q e = cc

            by : FoundFrom w.links u g m → IsAmong x (arrived (Some m))
            by k = let goes = k.2 in goes.arrivals uncut x (subst (λ (j : Link). IsAmong x (arrived (Some j))) (some_is l k.0 (sym (link_is e o) ∙ k.1)) (subst (λ ms. IsAmong x ms) (sym (arrived_is l split.0 split.1)) b))

        -- the asking is still behind the note
        behind : AsksFor u g i w → a ≡ u → v ≡ g → (x : Note Name) × IsAmong x ns × IsAmong x l.log × AsksOf g x It
        unfolding wire.questions
        behind b e o = by (asker g It l.log (subst (λ ms. IsAmong It (wire.questions_in g ms)) (log_is l (link_at u g w.links) (link_is e o)) b))
          where
            heard : (x : Note Name) → IsAmong x (arrived (Some m)) → AsksOf g x It → ⊥
            heard x c k = unheard (asks_in g It (arrived (Some m)) x c k)

            by : (x : Note Name) × IsAmong x l.log × AsksOf g x It → (x : Note Name) × IsAmong x ns × IsAmong x l.log × AsksOf g x It
            by r = go (among_split r.0 split.0 (n ∷ ns) (subst (λ ms. IsAmong r.0 ms) (split.1 ∙ ap (λ ms. split.0 ++ ms) notes) r.1))
              where
                go : IsAmong r.0 split.0 ⊎ IsAmong r.0 (n ∷ ns) → (x : Note Name) × IsAmong x ns × IsAmong x l.log × AsksOf g x It
                go (inl c) = absurd (heard r.0 (arrived_before e o r.0 c) r.2)
                go (inr (inl c)) = absurd (heard r.0 (subst (λ (z : Note Name). IsAmong z (arrived (Some m))) (sym c) (there e o)) r.2)
                go (inr (inr c)) = (r.0, c, r.1, r.2)

        ask_late : a ≡ u → v ≡ g → IsAmong It (told_in n) → (x : Note Name) → IsAmong x ns → AsksOwn g x → AsksOf g x It → ⊥
        ask_late e o b (Ask p j z) c own k = let ordered = found_all (λ (q : Link). InOrder [] q.log) a v l w.links f.ordered from in
            told_not_asked [] split.0 ns n It p j b (subst (λ y. IsAmong (Ask p j y) ns) k c) (subst (λ ms. InOrder [] ms) (split.1 ∙ ap (λ ms. split.0 ++ ms) notes) ordered)
        ask_late e o b (Deliver q z verb ys) c own k = bare.no_answer g i g q.message own k.1
        ask_late e o b other c own k = k

        to_host : AsksFor u g i w → a ≡ u → v ≡ g → IsAmong It (told_in n) → ⊥
        to_host b e o c = let r = behind b e o in let sends = sent w f a v l from r.0 r.2 in ask_late e o c r.0 r.1 (subst (λ (z : ℕ). AsksOwn z r.0) o sends.0) r.3

        not_asked : a ≡ u → v ≡ g → AsksNoGift i n
        not_asked e o = go n (let sends = sent w f a v l from n logged in subst (λ (z : ℕ). AsksOwn z n) o sends.0) (there e o)
          where
            go : (x : Note Name) → AsksOwn g x → IsAmong x (arrived (Some m)) → AsksNoGift i x
            go (Ask p j z) own c = λ k. unheard (asks_in g It (arrived (Some m)) (Ask p j z) c (own ∙ ap (λ q. Gift g q) k))
            go other own c = tt

      -- nothing arrives by a link that is cut
      shut : a ≡ u → v ≡ g → m.cut ≡ true → ⊥
      shut e o c = true_false c (subst (λ ks. AtLink u g IsOpen ks) (sym links) (open_pushed u g v t.outbox Taken (open_taken u g a v ns w.links (λ j k. subst (λ (z : Link). z.cut ≡ false) (some_is l j (sym (link_is e o) ∙ k)) uncut_before))) m at)

      told_host : AsksFor u g i w → a ≡ u → v ≡ g → IsAmong It (told_in n) → ⊥
      told_host b e o c = by late
        where
          by : (m.cut ≡ true) ⊎ ((m.cut ≡ false) × Unheard g i m) → ⊥
          by (inl k) = shut e o k
          by (inr k) = to_host k.0 k.1 b e o c

      asked_host : a ≡ u → v ≡ g → AsksNoGift i n
      asked_host e o = by late
        where
          by : (m.cut ≡ true) ⊎ ((m.cut ≡ false) × Unheard g i m) → AsksNoGift i n
          by (inl k) = absurd (shut e o k)
          by (inr k) = not_asked k.0 k.1 e o

      -- what the note tells the receiver, which is not the asking vat
      told_none : AsksFor u g i w → Alone u g i w.vats w.links → IsAmong It (told_in n) → ⊥
      told_none b k = either (eq_dec a u) (eq_dec v g)
        where
          either : (a ≡ u) ⊎ (a ≡ u → ⊥) → (v ≡ g) ⊎ (v ≡ g → ⊥) → IsAmong It (told_in n) → ⊥
          either (inr o) c = (first_spared k o).0
          either (inl e) (inl o) = told_host b e o
          either (inl e) (inr o) = third e o

      asks_none : AsksFor u g i w → Alone u g i w.vats w.links → v ≡ g → AsksNoGift i n
      asks_none b k o = either (eq_dec a u)
        where
          either : (a ≡ u) ⊎ (a ≡ u → ⊥) → AsksNoGift i n
          either (inr c) = (first_spared k c).1
          either (inl e) = asked_host e o

      arrival_stays : AsksFor u g i w → WasDrawn w.drawn i → Alone u g i w.vats w.links → Alone u g i (put_at v t w.vats) (push_all v t.outbox Taken)
      arrival_stays b drew k = record {
        none = pushed_none t v Taken drew out (none_taken k);
        bare = on_vats v t w.vats bare_now k.bare;
        notes = push_notes v t.outbox Taken (λ o. puts_spared g i v t.outbox (let now = bare_now o in now.outbox) (arrival_asks script w v s t i drew a n (none_in k) mail d)) (λ c e o. taken_at c e (k.notes c e o));
      }
        where
          bare_now : (v ≡ u → ⊥) → Everywhere (Bare g i v) t
          bare_now o = note_stays a v s t n d drew (k.bare v s o d.there) mail (told_none b k) (none_in k) (asks_none b k)

      -- ---- where it is asked for only now

      some_or : (x : ℕ) → (x ≡ 0) ⊎ (1 ≤ x)
      some_or zero = inl refl
      some_or (suc x) = inr (omega arith)

      module _ (v_is : v ≡ u) (asked : PutsNot g It t.outbox → ⊥) where
        none_asks : AllOf (λ (p : Put Name). AsksNoGift i p.note) t.outbox → ⊥
        none_asks k = asked (puts_none t.outbox k)

        -- it passes in the note, or its word is drawn only now
        passed_or : (1 ≤ gifts_in_note i n) ⊎ (WasDrawn w.drawn i → ⊥)
        passed_or = either (some_or (gifts_in_note i n))
          where
            either : (gifts_in_note i n ≡ 0) ⊎ (1 ≤ gifts_in_note i n) → (1 ≤ gifts_in_note i n) ⊎ (WasDrawn w.drawn i → ⊥)
            either (inr k) = inl k
            either (inl k) = inr (λ drew. none_asks (arrival_asks script w v s t i drew a n k mail d))

        hidden_before : HiddenAt i w.vats w.links
        hidden_before = either passed_or
          where
            either : (1 ≤ gifts_in_note i n) ⊎ (WasDrawn w.drawn i → ⊥) → HiddenAt i w.vats w.links
            either (inl k) = let sum = taken_sum i a v n ns l notes w.links from in let knows = f.knows in knows.hidden i (omega arith)
            either (inr k) = new_hidden i script w (stands w f) k

        few_of : gifts_under_way i w.links ≤ drawn_of i w.drawn
        few_of = let k = f.knows in let past = k.past in let fits = past.2 in let o = fits.1 in o.count i

        shunned : 1 ≤ gifts_out i t.outbox → gifts_in_note i n ≡ 0 → AllOf (PutOk (Shuns i v)) t.outbox
        shunned c e = let k = (stands w f).vats v s d.there in let kept = k.kept in let hidden = hidden_before in let first : AllOf (NoteOk (Spares i)) (n ∷ ns) = subst (λ ms. AllOf (NoteOk (Spares i)) ms) notes (found_all (λ (j : Link). AllOf (NoteOk (Spares i)) j.notes) a v l w.links hidden.1 from) in
            let all = note_new i script w v s kept.number (hidden.0 v s d.there) t a n c first.0 e d in all.outbox

        none_now : gifts_under_way i (push_all v t.outbox Taken) ≡ 0
        none_now = either passed_or
          where
            either : (1 ≤ gifts_in_note i n) ⊎ (WasDrawn w.drawn i → ⊥) → gifts_under_way i (push_all v t.outbox Taken) ≡ 0
            either (inl k) = let sum = taken_sum i a v n ns l notes w.links from in let few = few_of in let most = under_drawn i w.drawn in pushed_none t v Taken (early i w.drawn (omega arith)) out (zero_of (gifts_under_way i Taken) (omega arith))
            either (inr k) = none_or (some_or (drawn_of i w.drawn)) (some_or (gifts_out i t.outbox))
              where
                none_or : (drawn_of i w.drawn ≡ 0) ⊎ (1 ≤ drawn_of i w.drawn) → (gifts_out i t.outbox ≡ 0) ⊎ (1 ≤ gifts_out i t.outbox) → gifts_under_way i (push_all v t.outbox Taken) ≡ 0
                none_or (inr e) c = absurd (k (early i w.drawn e))
                none_or (inl e) (inl c) = let sum = taken_sum i a v n ns l notes w.links from in let few = few_of in let pushed = push_all_gifts (λ (j : Link). j.notes) i (pushed_notes i) v t.outbox Taken in zero_of (gifts_under_way i (push_all v t.outbox Taken)) (omega arith)
                none_or (inl e) (inr c) = let sum = taken_sum i a v n ns l notes w.links from in let few = few_of in absurd (none_asks (shuns_asks g i v t.outbox (shunned c (zero_of (gifts_in_note i n) (omega arith)))))

        arrival_starts : Alone u g i (put_at v t w.vats) (push_all v t.outbox Taken)
        arrival_starts = let hidden = hidden_before in record {
          none = none_now;
          bare = on_vats v t w.vats (λ o. absurd (o v_is)) (λ c r o e. let all = hidden.0 c r e in parts_up (Shuns i c) (Bare g i c) (shuns_bare g i c) r.things r.slots r.lists r.queue r.known r.gifts r.outbox all);
          notes = push_notes v t.outbox Taken (λ o. absurd (o v_is)) (λ c e o. taken_at c e (λ j k. all_map (spares_spared g i) j.notes (found_all (λ (j : Link). AllOf (NoteOk (Spares i)) j.notes) c e j w.links hidden.1 k)));
        }

    -- ---- any move

    severed_notes : (c e a b : ℕ) (ls : List Link) → AtLink a b (λ (l : Link). AllOf (Spared g i) l.notes) ls → AtLink a b (λ (l : Link). AllOf (Spared g i) l.notes) (with_link severed_link c e ls)
    unfolding severed_link
    severed_notes c e a b ls k = with_any a b c e (λ (l : Link). AllOf (Spared g i) l.notes) severed_link (fits_severed a b) ls (λ l x y z. tt) (λ l x o. k l x)

    severed_alone : (c e : ℕ) (ls : List Link) → Alone u g i w.vats ls → Alone u g i w.vats (with_link severed_link c e ls)
    severed_alone c e ls k = record {
      none = let less = with_link_less (λ (j : Link). j.notes) i severed_link (severed_less i) c e ls in let none = k.none in zero_of (gifts_under_way i (with_link severed_link c e ls)) (omega arith);
      bare = k.bare;
      notes = λ a b o. severed_notes c e a b ls (k.notes a b o);
    }

    dropped_alone : (a v : ℕ) (n : Note Name) (ns : List (Note Name)) (l : Link) → link_at a v w.links ≡ Some l → l.notes ≡ n ∷ ns → Alone u g i w.vats w.links → Alone u g i w.vats (with_link (with_notes ns) a v w.links)
    unfolding with_notes
    dropped_alone a v n ns l from notes k = record {
      none = let sum = taken_sum i a v n ns l notes w.links from in let none = k.none in zero_of (gifts_under_way i (with_link (with_notes ns) a v w.links)) (omega arith);
      bare = k.bare;
      notes = λ b c o. with_any b c a v (λ (j : Link). AllOf (Spared g i) j.notes) (with_notes ns) (fits_notes b c ns) w.links (λ j e x z. rest b c j (k.notes b c o j e) (same b c j e x z)) (λ j e q. k.notes b c o j e);
    }
      where
        some_is : (p q : Link) → Some p ≡ Some q → p ≡ q
        some_is p q e = cc

        same : (b c : ℕ) (j : Link) → link_at b c w.links ≡ Some j → b ≡ a → c ≡ v → l ≡ j
        same b c j e x z = some_is l j (sym from ∙ sym (ap (λ p. link_at p c w.links) x ∙ ap (λ p. link_at a p w.links) z) ∙ e)

        rest : (b c : ℕ) (j : Link) → AllOf (Spared g i) j.notes → l ≡ j → AllOf (Spared g i) ns
        rest b c j k e = let one : AllOf (Spared g i) (n ∷ ns) = subst (λ ms. AllOf (Spared g i) ms) (ap (λ (z : Link). z.notes) (sym e) ∙ notes) k in one.1

    steps_alone : (v : ℕ) (s q t : Vat Name) (what : Step Name Name) → IsAlone what → Does script w v s q t what → WasDrawn w.drawn i → Alone u g i w.vats w.links → Alone u g i (put_at v t w.vats) (push_all v t.outbox w.links)
    steps_alone v s q t what o d drew k = record {
      none = pushed_none t v w.links drew (alone_out i script w v s q t what o d) k.none;
      bare = on_vats v t w.vats (λ c. alone_bare v s q t what o d drew (k.bare v s c d.there)) k.bare;
      notes = push_notes v t.outbox w.links (λ c. puts_spared g i v t.outbox (let now = alone_bare v s q t what o d drew (k.bare v s c d.there) in now.outbox) (alone_asks script w v s q t i what o d)) k.notes;
    }

    either_move : (move : Moved script w y) → AsksFor u g i w ⊎ (AsksFor u g i w → ⊥) → Alone u g i y.vats y.links
    either_move (Still v l d) (inl b) = rw (v, l) (alone_before b)
    either_move (Severs c e v l d) (inl b) = rw (v, l) (severed_alone e c (with_link severed_link c e w.links) (severed_alone c e w.links (alone_before b)))
    either_move (Drops c v n ns l from notes none vats links drawn) (inl b) = rw (vats, links) (dropped_alone c v n ns l from notes (alone_before b))
    either_move (Steps v s q t what alone d vats links drawn first fresh) (inl b) = let move = Steps v s q t what alone d vats links drawn first fresh in rw (vats, links) (steps_alone v s q t what alone d (drawn_before move b) (alone_before b))
    either_move (Arrives c v s t n ns l from cut notes d vats links drawn first fresh) (inl b) = let move = Arrives c v s t n ns l from cut notes d vats links drawn first fresh in
        rw (vats, links) (arrival_stays c v s t n ns l from notes d links cut b (drawn_before move b) (alone_before b))
    either_move (Still v l d) (inr o) = absurd (asked_now (Still v l d) o tt)
    either_move (Severs c e v l d) (inr o) = absurd (asked_now (Severs c e v l d) o tt)
    either_move (Drops c v n ns l from notes none vats links drawn) (inr o) = absurd (asked_now (Drops c v n ns l from notes none vats links drawn) o tt)
    either_move (Steps v s q t what alone d vats links drawn first fresh) (inr o) = absurd (asked_now (Steps v s q t what alone d vats links drawn first fresh) o (λ e. puts_none t.outbox (alone_asks script w v s q t i what alone d)))
    either_move (Arrives c v s t n ns l from cut notes d vats links drawn first fresh) (inr o) = let move = Arrives c v s t n ns l from cut notes d vats links drawn first fresh in by (asked_now move) (eq_dec v u)
      where
        by : ((AsksFor u g i w → ⊥) → MovePutsNot w u g It script y (Arrives c v s t n ns l from cut notes d vats links drawn first fresh) → ⊥) → (v ≡ u) ⊎ (v ≡ u → ⊥) → Alone u g i y.vats y.links
        by k (inl e) = rw (vats, links) (arrival_starts c v s t n ns l from notes d links cut e (λ p. k o (λ z. p)))
        by k (inr e) = absurd (k o (λ z. absurd (e (sym z))))

  pub late_on : (w y : World) → Facts w → Facts y → Moved script w y → AloneWhereLate w → AloneWhereLate y
  late_on w y f h move before u g i other m at uncut asks unheard = either_move w y f h u g i other m at asks (inr (uncut, unheard)) alone_before move (among_dec (Gift g i) (wire.questions (λ i. i) w.links u g))
    where
      was : FoundFrom w.links u g m
      was = goes_of script w y (splits w f) move u g m at

      -- what was not heard by now was not heard before
      unheard_before : Unheard g i was.0
      unheard_before a = let r = asker g (Gift g i) (arrived (Some was.0)) a in let goes = was.2 in unheard (asks_in g (Gift g i) (arrived (Some m)) r.0 (goes.arrivals uncut r.0 r.1) r.2)

      alone_before : AsksFor u g i w → Alone u g i w.vats w.links
      alone_before a = let goes = was.2 in before u g i other was.0 was.1 (goes.uncut uncut) a unheard_before

  -- where it is asked for by a link that is cut
  pub lost_alone : (w y : World) → Facts w → Facts y → Moved script w y → (u g i : ℕ) → (u ≡ g → ⊥) → (m : Link) → link_at u g y.links ≡ Some m → m.cut ≡ true → AsksFor u g i y → (AsksFor u g i w → Alone u g i w.vats w.links) → Alone u g i y.vats y.links
  lost_alone w y f h move u g i other m at cut asks before = either_move w y f h u g i other m at asks (inl cut) before move (among_dec (Gift g i) (wire.questions (λ i. i) w.links u g))

  -- nothing was asked for yet
  pub begins_late : AloneWhereLate (world.begins script)
  unfolding world.begins wire.questions wire.questions_in
  begins_late u g i other m at uncut asks unheard = let ls = world.links_from script.vats zero script.vats in
      absurd (subst (λ ns. IsAmong (Gift g i) (wire.questions_in g ns)) (log_is m (link_at u g ls) at ∙ none m.log (found_all (λ (l : Link). AllOf (λ (n : Note Name). ⊥) l.log) u g m ls (all_map (λ (l : Link) k. k.0) ls (lift.links_from_fit (λ v u n. ⊥) script.vats zero script.vats)) at)) asks)
    where
      none : (ns : List (Note Name)) → AllOf (λ (n : Note Name). ⊥) ns → ns ≡ []
      none [] k = refl
      none (n ∷ ns) k = absurd k.0
