-- No note that arrives goes astray, where each name that it has was made.
use Rattle.std.proofs.Common.{◌≡◌, ℕ, Bool, List, [], ◌∷◌, Some}
use Rattle.std.specs.Prelude.{slice_get}
use Rattle.def_machine.specs.Values.{Value, Null, Flag, Number, Letter, Text, Prim, Broken, Items, Ref, Name, Naming, naming, host_of}
use Rattle.def_machine.specs.State.{Passed, Passeds, Plain, AGift, Many, NoMore, More, Note, Deliver, Open, Ask, SettledTo, Elsewhere, Shorten, Vat, Done, Gives, Stops, Act, ◌>>=◌, and_then, give}
use Rattle.def_machine.specs.Arrive as arrive
use Rattle.def_machine.specs.Arrive.{Incoming, Old, New}
use Rattle.def_run.specs.World as world
use Rattle.def_run.specs.World.{read_name, known_after}
use Rattle.law_fate.specs.Name.Names.{Named, Drew, At, Gave, WasDrawn, PassedOk, PassedsOk, NoteOk}
use Rattle.law_fate.proofs.Name.Facts.{Fact, Nothing, Also, IsName, IsMail, IsDraw, IsGiven, IsVat, IsValue, AreValues, nothing, Holds}
use Rattle.law_fate.proofs.Name.Care.{Care, Under, Sound, Gets, come_gift, got, got_left}
use Rattle.law_fate.proofs.Name.CareArrive.{Gifts, gifts_by, fine_ask_for}
use Rattle.law_fate.proofs.Name.Tracked.{Marked, tracked, tracked_under, tracked_gives}
use Rattle.law_fate.proofs.Name.Learn.{Was, Good, Knows, Learned, Learns, rise, learn, learn_all, message_learned}
use Rattle.law_never_astray.specs.Settlings.{NotAstray, AllAwaited}
use Rattle.law_never_astray.proofs.Clear as clear
use Rattle.law_never_astray.proofs.Clear.{Firm, firm_bind, firm_give, firm_come, firm_mail}
use Rattle.law_never_astray.proofs.Awaited.{is_mail, tracked_awaits}

module _ (news : Bool) (M : Marked) (vats : List (Vat Name)) (v : ℕ) (q : Vat Name) (there : slice_get vats v ≡ Some q) (here : M.mark (At v)) (word : ℕ → ℕ) (us : List (Vat Name)) (d0 : List ℕ) where
  abbrev K : Naming Name Name
  K = naming word v

  abbrev S : Care Name
  S = tracked news M vats v q there here

  abbrev law : Under K S
  law = tracked_under news M vats v q there here word

  abbrev awaits : (s : Vat Name) → Sound S s → AllAwaited K is_mail s.known
  awaits = tracked_awaits news M vats v q there here word

  abbrev Clear : Fact Name → {A : Type 0} → Act Name A → Type 0
  Clear C m = clear.Clear K S law is_mail awaits C m

  -- not astray, where these names are read by then
  pub record Heard (ks : List Name) (C : Fact Name) {A : Type 0} (m : Act Name A) : Type 0 where
    pub after : (s : Vat Name) → Sound S s → Knows news M vats v q there here word us d0 ks s → Holds (Good news M vats v q there here word us d0 s) C → NotAstray (m s)

  heard_clear : {A : Type 0} {ks : List Name} {C : Fact Name} {m : Act Name A} → Clear C m → Heard ks C m
  heard_clear h = record { after = λ s g k c. h.after s g c }

  heard_firm : {A : Type 0} {ks : List Name} {C : Fact Name} {m : Act Name A} → Firm m → Heard ks C m
  heard_firm h = record { after = λ s g k c. h.after s }

  heard_ends : {A B : Type 0} (ks : List Name) (C : Fact Name) (P : A → Fact Name) (s : Vat Name) (d : Done Name A) (f : A → Act Name B) → Holds (Good news M vats v q there here word us d0 s) C → Learned news M vats v q there here word us d0 ks P s d → NotAstray d
      → ((a : A) → Heard ks (Also C (P a)) (f a)) → NotAstray (and_then d f)
  unfolding and_then
  heard_ends ks C P s (Gives a t) f c e h k = (k a).after t e.1 e.2 (rise news M vats v q there here word us d0 s t e.0 C c, e.3)
  heard_ends ks C P s (Stops r t) f c e h k = h
  heard_ends ks C P s other f c e h k = tt

  heard_bind : {A B : Type 0} {ks ks' : List Name} {C : Fact Name} {m : Act Name A} {f : A → Act Name B} (P : A → Fact Name) → Learns news M vats v q there here word us d0 ks C m ks' P → Heard ks C m → ((a : A) → Heard ks' (Also C (P a)) (f a)) → Heard ks C (m >>= f)
  unfolding ◌>>=◌
  heard_bind {ks' = ks'} {C = C} {m = m} {f = f} P e h k = record { after = λ s g w c. heard_ends ks' C P s (m s) f c (e.after s g w c) (h.after s g w c) k }

  -- ---- names

  firm_name : (x : Incoming Name Name) → Firm (arrive.learn_name K x)
  unfolding arrive.learn_name
  firm_name (Old n) = firm_give n
  firm_name (New x h) = firm_come K _ h

  given_name : (ks : List Name) (s : Vat Name) (d : Done Name Name) → Learned news M vats v q there here word us d0 ks IsValue s (and_then d (λ n. give (Ref n))) → Learned news M vats v q there here word us d0 ks IsName s d
  unfolding and_then give
  given_name ks s (Stops c t) h = tt
  given_name ks s other h = h

  -- a name is learnt as a value is that has it alone
  learn_name : {C : Fact Name} (ks : List Name) (n : Name) → Was news M vats v q there here word us d0 (Named n) → Learns news M vats v q there here word us d0 ks C (arrive.learn_name K (read_name ks n)) (known_after ks n) IsName
  unfolding arrive.learn arrive.learn_value world.read_passed world.read_value world.plain_read ◌>>=◌
  learn_name {C = C} ks n m = record { after = λ s g k c. given_name (known_after ks n) s (arrive.learn_name K (read_name ks n) s) ((learn news M vats v q there here word us d0 {C = C} v (Plain (Ref n)) ks m).after s g k c) }

  -- ---- values

  firm_value : (y : Value (Incoming Name Name)) → Firm (arrive.learn_value K y)
  unfolding arrive.learn_value
  firm_value Null = firm_give Null
  firm_value (Flag b) = firm_give (Flag b)
  firm_value (Number z) = firm_give (Number z)
  firm_value (Letter c) = firm_give (Letter c)
  firm_value (Text t) = firm_give (Text t)
  firm_value (Prim n) = firm_give (Prim n)
  firm_value (Broken p) = firm_give (Broken p)
  firm_value (Items k) = firm_give (Items k)
  firm_value (Ref x) = firm_bind (firm_name x) (λ n. firm_give (Ref n))

  heard_gift : {ks : List Name} (p h i : ℕ) → M.mark (At h) → WasDrawn d0 i → Heard ks Nothing (arrive.learn_gift K p h i)
  unfolding arrive.learn_gift
  heard_gift p h i at l = let D : Fact Name = Also (IsGiven i) (IsVat h) in let given : Gets S D (IsGiven i) = record { at = λ s c. c.0 } in let vat : Gets S D (IsVat h) = record { at = λ s c. c.1 } in record {
    after = λ s g k c. (clear.clear_bind K S law is_mail awaits {C = D} IsName (come_gift K S law (tracked_gives news M vats v q there here word) h i given vat) (clear.clear_firm K S law is_mail awaits (firm_come K _ h)) (λ n.
        clear.clear_then K S law is_mail awaits {C = Also D (IsName n)} nothing (fine_ask_for K S law p h i (got_left S D (IsName n) (IsGiven i) given) n (got S D (IsName n))) (clear.clear_ask_for K S law is_mail awaits p h i n)
        (clear.clear_firm K S law is_mail awaits (firm_give (Ref n))))).after s g ((k.made (Gave i) l, tt, tt, M.draw i), (tt, tt, tt, at));
  }

  heard_nothing : {A : Type 0} {ks : List Name} {C : Fact Name} {m : Act Name A} → Heard ks Nothing m → Heard ks C m
  heard_nothing h = record { after = λ s g k c. h.after s g k tt }

  mutual
    unfolding arrive.learn arrive.learn_all world.read_passed world.read_all world.plain_read world.many_read world.more_read

    heard_passed : {C : Fact Name} (p : ℕ) (y : Passed Name) (ks : List Name) → PassedOk (Was news M vats v q there here word us d0) y → Heard ks C (arrive.learn K p (world.read_passed y ks).read)
    heard_passed p (Plain y) ks m = heard_firm (firm_value (world.read_value ks y).read)
    heard_passed p (AGift h i) ks m = heard_nothing (heard_gift p h i m.0.1 m.1.0)
    heard_passed {C = C} p (Many ys) ks m = heard_bind AreValues (learn_all news M vats v q there here word us d0 {C = C} p ys ks m) (heard_all p ys ks m) (λ vs. heard_clear (clear.clear_make_list K S law is_mail awaits vs))

    heard_all : {C : Fact Name} (p : ℕ) (ys : Passeds Name) (ks : List Name) → PassedsOk (Was news M vats v q there here word us d0) ys → Heard ks C (arrive.learn_all K p (world.read_all ys ks).read)
    heard_all p NoMore ks m = heard_firm (firm_give [])
    heard_all {C = C} p (More y ys) ks m = heard_bind IsValue (learn news M vats v q there here word us d0 {C = C} p y ks m.0) (heard_passed p y ks m.0) (λ x.
        heard_bind AreValues (learn_all news M vats v q there here word us d0 p ys (world.read_passed y ks).known m.1) (heard_all p ys (world.read_passed y ks).known m.1) (λ xs. heard_firm (firm_give (x ∷ xs))))

  -- ---- notes

  abbrev gifts : Gifts K S
  gifts = gifts_by K S law (tracked_gives news M vats v q there here word)

  firm_message : (x : Incoming Name Name) → Firm (arrive.learn_message K x)
  unfolding arrive.learn_message
  firm_message (Old n) = firm_give n
  firm_message (New x h) = firm_mail K _

  with_draw : {A : Type 0} (ks : List Name) (i : ℕ) (m : Act Name A) → WasDrawn d0 i → Heard ks (IsDraw i) m → Heard ks Nothing m
  with_draw ks i m l h = record { after = λ s g k c. h.after s g k (k.made (Drew i) l, tt, tt, M.draw i) }

  pub heard_note : (from : ℕ) (ks : List Name) (n : Note Name) → NoteOk (Was news M vats v q there here word us d0) n → Heard ks Nothing (arrive.arrive K from (world.read_note ks n))
  unfolding arrive.arrive world.read_note arrive.arrive_deliver arrive.arrive_open arrive.arrive_settled arrive.arrive_elsewhere arrive.arrive_shorten
  heard_note from ks (Deliver d n verb ys) h = heard_bind IsMail (message_learned news M vats v q there here word us d0 ks d.message (host_of d.message) h.0) (heard_firm (firm_message _)) (λ id.
      heard_bind AreValues (learn_all news M vats v q there here word us d0 from ys ks h.2) (heard_all from ys ks h.2) (λ args. heard_bind IsName (learn_name (world.read_all ys ks).known n h.1) (heard_firm (firm_name _))
      (λ x. heard_clear (clear.clear_delivered K S law is_mail awaits from id x verb args (record { at = λ s c. c.0.0.1 }) d.asks))))
  heard_note from ks (Open i n) h = with_draw ks i _ h.0.0 (heard_bind IsName (learn_name ks n h.1) (heard_firm (firm_name _)) (λ y. heard_clear (clear.clear_opened K S law is_mail awaits gifts from i y (record { at = λ s c. c.0 }))))
  heard_note from ks (Ask p i n) h = with_draw ks i _ h.0.0 (heard_clear (clear.clear_arrive_ask K S law is_mail awaits gifts from p i (record { at = λ s c. c })))
  heard_note from ks (SettledTo n y) h = heard_bind IsName (learn_name ks n h.0) (heard_firm (firm_name _)) (λ x. heard_bind IsValue (learn news M vats v q there here word us d0 from y (known_after ks n) h.1) (heard_passed from y (known_after ks n) h.1) (λ z.
      heard_clear (clear.clear_settle K S law is_mail awaits x z)))
  heard_note from ks (Elsewhere n c) h = heard_bind IsName (learn_name ks n h.0) (heard_firm (firm_name _)) (λ x. heard_clear (clear.clear_went K S law is_mail awaits x c))
  heard_note from ks (Shorten n c i) h = heard_bind IsName (learn_name ks n h.0) (heard_firm (firm_name _)) (λ x. heard_clear (clear.clear_shortened K S law is_mail awaits x i))
