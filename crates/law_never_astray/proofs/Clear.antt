-- What arrives and what is noticed goes not astray: at each settling on the way what waits is known.
use Rattle.std.proofs.Common.{◌≡◌, ℕ, zero, ◌≤◌, Bool, true, false, List, [], ◌∷◌, ◌++◌, Option, Some, None, if◌then◌else◌, refl, length, codes, arith}
use Rattle.def_machine.specs.Values.{Words, Value, Broken, Ref, Naming, IsAnswer}
use Rattle.def_machine.specs.State.{Message, Standing, Viewed, Settled, Known, Change, GiftEntry, Vat, Done, Gives, Stops, Act, ◌>>=◌, ◌>>◌, and_then, for_some, each, give, look, tell, with_change, begun, enqueue, send_out, new_gift, open_gift, mark, draw, is_in, alter, come, mail, new_list}
use Rattle.def_machine.specs.Refs as refs
use Rattle.def_machine.specs.Refs.{Place, Near, Mine, Away, Gone}
use Rattle.def_machine.specs.Arrive as arrive
use Rattle.law_machine.proofs.Machine.Walks.{where_some}
use Rattle.law_fate.proofs.Name.Facts.{Fact, Also, IsName, IsMail, IsVat, IsDraw, IsEntry, IsKnown, AreKnown, AreGifts, nothing, Holds}
use Rattle.law_fate.proofs.Name.Care.{Care, Under, Sound, Gets, Ends, Fine, rise, fine_tell, fine_mark, fine_open, fine_to_tell, come_answer, got, got_left}
use Rattle.law_fate.proofs.Name.Looks.{look_number, look_known, look_gifts, each_known}
use Rattle.law_fate.proofs.Name.CareArrive as care
use Rattle.law_never_astray.specs.Settlings.{NotAstray, AllAwaited}
use Rattle.law_never_astray.proofs.Counts.{open_zero}
use Rattle.law_never_astray.proofs.Sure as sure
use Rattle.law_never_astray.proofs.Settling.{settle_sure}

-- ---- whatever the state

-- it goes astray from no state
pub record Firm {N A : Type 0} (m : Act N A) : Type 0 where
  pub after : (s : Vat N) → NotAstray (m s)

module _ {N : Type 0} where
  firm_ends : {A B : Type 0} (d : Done N A) (f : A → Act N B) → NotAstray d → ((a : A) → Firm (f a)) → NotAstray (and_then d f)
  unfolding and_then
  firm_ends (Gives a t) f h k = (k a).after t
  firm_ends (Stops c t) f h k = h
  firm_ends other f h k = tt

  pub firm_bind : {A B : Type 0} {m : Act N A} {f : A → Act N B} → Firm m → ((a : A) → Firm (f a)) → Firm (m >>= f)
  unfolding ◌>>=◌
  firm_bind {m = m} {f = f} h k = record { after = λ s. firm_ends (m s) f (h.after s) k }

  pub firm_then : {A B : Type 0} {m : Act N A} {n : Act N B} → Firm m → Firm n → Firm (m >> n)
  unfolding ◌>>◌
  firm_then {m = m} {n = n} h k = record { after = λ s. firm_ends (m s) (λ _. n) (h.after s) (λ _. k) }

  pub firm_if : {A : Type 0} (b : Bool) {m n : Act N A} → Firm m → Firm n → Firm (if b then m else n)
  firm_if true h k = h
  firm_if false h k = k

  pub firm_give : {A : Type 0} (a : A) → Firm (give {N = N} a)
  unfolding give
  firm_give a = record { after = λ s. tt }

  pub firm_look : {A : Type 0} (f : Vat N → A) → Firm (look f)
  unfolding look
  firm_look f = record { after = λ s. tt }

  pub firm_tell : (e : _) → Firm (tell {N = N} e)
  unfolding tell
  firm_tell e = record { after = λ s. tt }

  pub firm_out : (to : ℕ) (n : _) → Firm (send_out {N = N} to n)
  unfolding send_out
  firm_out to n = record { after = λ s. tt }

  pub firm_enqueue : (m : Message N) → Firm (enqueue m)
  unfolding enqueue
  firm_enqueue m = record { after = λ s. tt }

  pub firm_gift : (n : N) (p i : ℕ) → Firm (new_gift n p i)
  unfolding new_gift
  firm_gift n p i = record { after = λ s. tt }

  pub firm_open : (p i : ℕ) → Firm (open_gift {N = N} p i)
  unfolding open_gift
  firm_open p i = record { after = λ s. tt }

  pub firm_mark : (w : ℕ) → Firm (mark {N = N} w)
  unfolding mark
  firm_mark w = record { after = λ s. tt }

  pub firm_list : (vs : List (Value N)) → Firm (new_list vs)
  unfolding new_list
  firm_list vs = record { after = λ s. tt }

module _ {N W : Type 0} (K : Naming N W) where
  pub firm_alter : (c : Change N) (n : N) → Firm (alter K c n)
  unfolding alter
  firm_alter c n = record { after = λ s. tt }

  pub firm_come : (c : _) (h : ℕ) → Firm (come K c h)
  unfolding come
  firm_come c h = record { after = λ s. tt }

  pub firm_mail : (c : _) → Firm (mail K c)
  unfolding mail
  firm_mail c = record { after = λ s. tt }

  -- what settles no name
  abbrev pub Any : N → Type 0
  Any n = Unit {0}

  abbrev pub each_mail : N → Bool
  each_mail n = true

  abbrev pub Always : List (Known N) → Type 0
  Always ks = Unit {0}

  pub none_first : (ks : List (Known N)) → Always ks → zero ≤ length ks
  none_first ks i = omega arith

  pub all_keep : (c : Change N) (n : N) (ks : List (Known N)) → sure.ChangeWaits K each_mail Any c → Always ks → Always (with_change K c n ks)
  all_keep c n ks w i = tt

  pub all_come : (h : ℕ) (m : N) (k i : ℕ) (ks : List (Known N)) → each_mail m ≡ true → Always ks → Always (ks ++ begun (K.made (IsAnswer h m) k) i ∷ [])
  all_come h m k i ks e w = tt

  abbrev pub Plain : {A : Type 0} → Act N A → Type 0
  Plain m = sure.Sure K each_mail Any zero Always none_first all_keep all_come zero m

  plain_ends : {A : Type 0} (s : Vat N) (d : Done N A) → sure.EndsSure K each_mail Any zero Always none_first all_keep all_come s d → NotAstray d
  plain_ends s (Stops c t) h = h
  plain_ends s other h = tt

  pub firm_plain : {A : Type 0} {m : Act N A} → Plain m → Firm m
  firm_plain {m = m} h = record { after = λ s. plain_ends s (m s) (h.after s tt (open_zero s.known)) }

  firm_inform : (p : N) (w : ℕ) → Firm (refs.inform K p w)
  firm_inform p w = firm_plain (sure.sure_inform K each_mail Any zero Always none_first all_keep all_come zero p w)

  firm_waits : (p q : N) → Firm (refs.wait_on K p q)
  firm_waits p q = firm_plain (sure.sure_waits K each_mail Any zero Always none_first all_keep all_come zero p q tt)

  pub firm_pass_on : (m : Message N) (h : ℕ) (n : N) → Firm (refs.pass_on K m h n)
  firm_pass_on m h n = firm_plain (sure.sure_pass_on K each_mail Any zero Always none_first all_keep all_come zero m (refl, where_some Any (λ a. tt) m.answer) h n)

  firm_draw : Firm (draw K)
  firm_draw = firm_plain (sure.sure_draw K each_mail Any zero Always none_first all_keep all_come zero)

-- ---- from a sound state

module _ {N W : Type 0} (K : Naming N W) (S : Care N) (law : Under K S) (mail : N → Bool) (awaits : (s : Vat N) → Sound S s → AllAwaited K mail s.known) where
  pub record Clear (C : Fact N) {A : Type 0} (m : Act N A) : Type 0 where
    pub after : (s : Vat N) → Sound S s → Holds (S.ok s) C → NotAstray (m s)

  pub clear_firm : {C : Fact N} {A : Type 0} {m : Act N A} → Firm m → Clear C m
  clear_firm h = record { after = λ s g c. h.after s }

  clear_ends : {A B : Type 0} (C : Fact N) (P : A → Fact N) (s : Vat N) (d : Done N A) (f : A → Act N B) → Holds (S.ok s) C → Ends S P s d → NotAstray d → ((a : A) → Clear (Also C (P a)) (f a)) → NotAstray (and_then d f)
  unfolding and_then
  clear_ends C P s (Gives a t) f c e h k = (k a).after t e.1 (rise S s t e.0 C c, e.2)
  clear_ends C P s (Stops r t) f c e h k = h
  clear_ends C P s other f c e h k = tt

  pub clear_bind : {A B : Type 0} {C : Fact N} {m : Act N A} {f : A → Act N B} (P : A → Fact N) → Fine S C m P → Clear C m → ((a : A) → Clear (Also C (P a)) (f a)) → Clear C (m >>= f)
  unfolding ◌>>=◌
  clear_bind {C = C} {m = m} {f = f} P e h k = record { after = λ s g c. clear_ends C P s (m s) f c (e.after s g c) (h.after s g c) k }

  pub clear_left : {C D : Fact N} {A : Type 0} {m : Act N A} → Clear C m → Clear (Also C D) m
  clear_left h = record { after = λ s g c. h.after s g c.0 }

  pub clear_then : {A B : Type 0} {C : Fact N} {m : Act N A} {n : Act N B} (P : A → Fact N) → Fine S C m P → Clear C m → Clear C n → Clear C (m >> n)
  unfolding ◌>>◌
  clear_then {C = C} {m = m} {n = n} P e h k = record { after = λ s g c. clear_ends C P s (m s) (λ _. n) c (e.after s g c) (h.after s g c) (λ a. clear_left k) }

  pub clear_look : {A B : Type 0} {C : Fact N} (g : Vat N → A) {f : A → Act N B} → ((a : A) → Clear C (f a)) → Clear C (look g >>= f)
  unfolding look ◌>>=◌ and_then
  clear_look g k = record { after = λ s i c. (k (g s)).after s i c }

  pub clear_if : {A : Type 0} {C : Fact N} (b : Bool) {m n : Act N A} → Clear C m → Clear C n → Clear C (if b then m else n)
  clear_if true h k = h
  clear_if false h k = k

  pub clear_some : {A : Type 0} {C : Fact N} (o : Option N) {f : N → Act N A} {m : Act N A} → ((a : N) → Clear C (f a)) → Clear C m → Clear C (for_some o f m)
  unfolding for_some
  clear_some (Some a) h k = h a
  clear_some None h k = k

  -- every settling is so
  pub clear_settle : {C : Fact N} (p : N) (y : Value N) → Clear C (refs.settle K p y)
  clear_settle p y = record { after = λ s g c. settle_sure K mail p y s (awaits s g) }

  pub clear_send_to : {C : Fact N} (m : Message N) (y : Value N) (q : Place N) → Clear C (refs.send_to K (refs.settle K) m y q)
  unfolding refs.send_to
  clear_send_to m y Near = clear_firm (firm_enqueue _)
  clear_send_to m y (Mine n) = clear_firm (firm_alter K _ n)
  clear_send_to m y (Away h n o) = clear_firm (firm_pass_on K m h n)
  clear_send_to m y (Gone t) = clear_then nothing (fine_tell K S law _) (clear_firm (firm_tell _)) (clear_some m.answer (λ a. clear_settle a (Broken t)) (clear_firm (firm_give tt)))

  pub clear_send_on : {C : Fact N} (m : Message N) → Clear C (refs.send_on K (refs.settle K) m)
  unfolding refs.send_on
  clear_send_on m = clear_look _ (λ y. clear_look _ (λ q. clear_send_to m y q))

  clear_wait : {C : Fact N} (p q : N) → Clear C (refs.wait_unless_cycle K p q)
  unfolding refs.wait_unless_cycle
  clear_wait p q = clear_look _ (λ back. clear_if back (clear_settle p _) (clear_firm (firm_waits K p q)))

  clear_resolve_to : {C : Fact N} (p : N) (y : Value N) (q : Place N) → Clear C (refs.resolve_to K p y q)
  unfolding refs.resolve_to
  clear_resolve_to p y (Mine q) = clear_wait p q
  clear_resolve_to p y (Away h q false) = clear_wait p q
  clear_resolve_to p y other = clear_settle p y

  pub clear_resolve : {C : Fact N} (p : N) (x : Value N) → Clear C (refs.resolve K p x)
  unfolding refs.resolve
  clear_resolve p x = clear_look _ (λ y. clear_look _ (λ q. clear_resolve_to p y q))

  -- ---- what arrives and what is noticed

  pub clear_ask_for : {C : Fact N} (p h i : ℕ) (n : N) → Clear C (arrive.ask_for K p h i n)
  unfolding arrive.ask_for
  clear_ask_for p h i n = clear_look _ (λ gone. clear_if gone (clear_settle n _) (clear_firm (firm_out h _)))

  clear_break_at : {C : Fact N} (n : N) (p : Words) (t : Standing N) → Clear C (arrive.break_at K n p t)
  unfolding arrive.break_at
  clear_break_at n p (Settled y) = clear_firm (firm_give tt)
  clear_break_at n p other = clear_settle n _

  clear_break_unopened : {C : Fact N} (n : N) (b : Bool) → Clear C (arrive.break_unopened K n b)
  unfolding arrive.break_unopened
  clear_break_unopened n true = clear_firm (firm_give tt)
  clear_break_unopened n false = clear_look _ (λ t. clear_break_at n _ t)

  pub clear_tell_asker : {C : Fact N} (n : N) (w : ℕ) (t : Standing N) → Clear C (arrive.tell_asker K n w t)
  unfolding arrive.tell_asker
  clear_tell_asker n w (Settled y) = clear_firm (firm_inform K n w)
  clear_tell_asker n w other = clear_firm (firm_alter K _ n)

  pub clear_break_orphan : {C : Fact N} (p i : ℕ) (n : N) → Clear C (arrive.break_orphan K p i n)
  unfolding arrive.break_orphan
  clear_break_orphan p i n = clear_look _ (λ gone. clear_look _ (λ opened. clear_if gone (clear_break_unopened n opened) (clear_firm (firm_give tt))))

  firm_gift_or_new : (v p i : ℕ) (o : Option (GiftEntry N)) → Firm (arrive.gift_or_new K v p i o)
  unfolding arrive.gift_or_new
  firm_gift_or_new v p i (Some g) = firm_give _
  firm_gift_or_new v p i None = firm_bind (firm_come K _ v) (λ n. firm_then (firm_gift n p i) (firm_give n))

  pub firm_have_gift : (p i : ℕ) → Firm (arrive.have_gift K p i)
  unfolding arrive.have_gift
  firm_have_gift p i = firm_bind (firm_look _) (λ v. firm_bind (firm_look _) (λ g. firm_gift_or_new v p i g))

  firm_gift_there : (v h c i : ℕ) → Firm (arrive.gift_there K v h c i)
  unfolding arrive.gift_there
  firm_gift_there v h c i = firm_if _ (firm_have_gift h i) (firm_bind (firm_come K _ c) (λ g. firm_then (firm_out c _) (firm_give g)))

  firm_see : (n g : N) → Firm (arrive.see K n g)
  unfolding arrive.see
  firm_see n g = firm_then (firm_tell _) (firm_then (firm_alter K _ n) (firm_alter K _ g))

  firm_view : (n : N) (c : ℕ) → Firm (arrive.view_there K n c)
  unfolding arrive.view_there
  firm_view n c = firm_bind (firm_look _) (λ v. firm_bind (firm_look _) (λ h. firm_bind (firm_draw K) (λ i. firm_then (firm_out h _) (firm_bind (firm_gift_there v h c _) (λ g. firm_see n g)))))

  firm_shorten_to : (i : ℕ) (p : Place N) → Firm (arrive.shorten_to K i p)
  unfolding arrive.shorten_to
  firm_shorten_to i (Away h n true) = firm_out h _
  firm_shorten_to i other = firm_give tt

  clear_break_hosted : {C : Fact N} (w : ℕ) (n : N) (p : Words) (t : Standing N) → Clear C (arrive.break_hosted K w n p t)
  unfolding arrive.break_hosted
  clear_break_hosted w n p (Viewed q) = clear_firm (firm_give tt)
  clear_break_hosted w n p (Settled y) = clear_firm (firm_give tt)
  clear_break_hosted w n p other = clear_settle n _

  clear_notice_name : {C : Fact N} (w : ℕ) (k : Known N) → Clear C (arrive.notice_name K w k)
  unfolding arrive.notice_name
  clear_notice_name w k = clear_look _ (λ t. clear_if _ (clear_break_hosted w k.name _ t) (clear_firm (firm_give tt)))

  clear_notice_gift : {C : Fact N} (w : ℕ) (g : GiftEntry N) → Clear C (arrive.notice_gift K w g)
  unfolding arrive.notice_gift
  clear_notice_gift w g = clear_if _ (clear_break_unopened g.name g.opened) (clear_firm (firm_give tt))

  -- each of the names that are known, and of the gifts
  clear_names : {C : Fact N} (w : ℕ) (ks : List (Known N)) → Gets S C (AreKnown ks) → Clear C (each (arrive.notice_name K w) ks)
  unfolding each
  clear_names w [] g = clear_firm (firm_give tt)
  clear_names {C = C} w (k ∷ ks) g = clear_then nothing (care.fine_notice_name K S law w k (record { at = λ s c. (g.at s c).0 })) (clear_notice_name w k) (clear_names {C = C} w ks (record { at = λ s c. (g.at s c).1 }))

  clear_gifts : {C : Fact N} (w : ℕ) (gs : List (GiftEntry N)) → Gets S C (AreGifts gs) → Clear C (each (arrive.notice_gift K w) gs)
  unfolding each
  clear_gifts w [] g = clear_firm (firm_give tt)
  clear_gifts {C = C} w (x ∷ xs) g = clear_then nothing (care.fine_notice_gift K S law w x (record { at = λ s c. (g.at s c).0 })) (clear_notice_gift w x) (clear_gifts {C = C} w xs (record { at = λ s c. (g.at s c).1 }))

  clear_notice_all : {C : Fact N} (w : ℕ) → Clear C (arrive.notice_all K w)
  unfolding arrive.notice_all
  clear_notice_all {C = C} w = clear_then nothing (fine_mark K S law w) (clear_firm (firm_mark w)) (clear_bind AreKnown (look_known S) (clear_firm (firm_look _)) (λ names.
      clear_then nothing (each_known S names (got S C (AreKnown names)) (λ k. care.fine_notice_name K S law w k (got S (Also C (AreKnown names)) (IsKnown k)))) (clear_names w names (got S C (AreKnown names)))
      (clear_bind AreGifts (look_gifts S) (clear_firm (firm_look _)) (λ gifts. clear_gifts w gifts (got S (Also C (AreKnown names)) (AreGifts gifts))))))

  pub clear_notice : {C : Fact N} (w : ℕ) → Clear C (arrive.notice K w)
  unfolding arrive.notice
  clear_notice w = clear_look _ (λ gone. clear_if gone (clear_firm (firm_give tt)) (clear_notice_all w))

  -- ---- once a note is learnt

  clear_send_on_asked : {C : Fact N} (from : ℕ) (id n : N) (verb : Words) (args : List (Value N)) → Gets S C (IsMail id) → Clear C (arrive.send_on_asked K from id n verb args)
  unfolding arrive.send_on_asked
  clear_send_on_asked {C = C} from id n verb args g = clear_bind IsVat (look_number S) (clear_firm (firm_look _)) (λ v. clear_bind IsName (come_answer K S law v id (got_left S C (IsVat v) (IsMail id) g) (got S C (IsVat v))) (clear_firm (firm_come K _ v)) (λ a.
      clear_then nothing (fine_to_tell K S law from a (got S (Also C (IsVat v)) (IsName a))) (clear_firm (firm_alter K _ a)) (clear_send_on _)))

  pub clear_delivered : {C : Fact N} (from : ℕ) (id n : N) (verb : Words) (args : List (Value N)) → Gets S C (IsMail id) → (asks : Bool)
      → Clear C (if asks then arrive.send_on_asked K from id n verb args else refs.send_on K (refs.settle K) (record { id = id; target = Ref n; verb = verb; args = args; answer = None }))
  clear_delivered from id n verb args g asks = clear_if asks (clear_send_on_asked from id n verb args g) (clear_send_on _)

  pub clear_opened : {C : Fact N} (gifts : care.Gifts K S) (from i : ℕ) (y : N) → Gets S C (IsDraw i) → Clear C (arrive.have_gift K from i >>= (λ n. open_gift from i >> refs.resolve K n (Ref y)))
  clear_opened {C = C} gifts from i y g = clear_bind IsEntry (gifts.entered C from i g) (clear_firm (firm_have_gift from i)) (λ n. clear_then nothing (fine_open K S law from i) (clear_firm (firm_open from i)) (clear_resolve n (Ref y)))

  pub clear_arrive_ask : {C : Fact N} (gifts : care.Gifts K S) (from p i : ℕ) → Gets S C (IsDraw i) → Clear C (arrive.arrive_ask K from p i)
  unfolding arrive.arrive_ask
  clear_arrive_ask {C = C} gifts from p i g = clear_bind IsEntry (gifts.entered C p i g) (clear_firm (firm_have_gift p i)) (λ n. clear_then nothing (care.fine_break_orphan K S law p i n (got S C (IsEntry n))) (clear_break_orphan p i n)
      (clear_look _ (λ t. clear_tell_asker n from t)))

  pub clear_went : {C : Fact N} (n : N) (c : ℕ) → Clear C (look (λ s. is_in c s.noticed) >>= (λ gone. if gone then refs.settle K n (Broken (codes "partition")) else arrive.view_there K n c))
  clear_went n c = clear_look _ (λ gone. clear_if gone (clear_settle n _) (clear_firm (firm_view n c)))

  pub clear_shortened : {C : Fact N} (n : N) (i : ℕ) → Clear C (look (λ s. refs.place K s (refs.follow K s (Ref n))) >>= (λ p. arrive.shorten_to K i p))
  clear_shortened n i = clear_look _ (λ p. clear_firm (firm_shorten_to i p))

  pub clear_make_list : {C : Fact N} (vs : List (Value N)) → Clear C (arrive.make_list K vs)
  unfolding arrive.make_list
  clear_make_list vs = clear_firm (firm_bind (firm_list vs) (λ k. firm_then (firm_tell _) (firm_give _)))
