-- An answer that comes to be known in a step as that of a message at another vat stands behind the note of that message: a care for names, and for the notes put.
use Rattle.std.proofs.Common.{◌≡◌, ℕ, suc, Bool, true, false, List, [], ◌∷◌, ◌++◌, Option, Some, None, refl, sym, ap, ◌∙◌, ◌⊎◌, inl, inr, is_some}
use Rattle.std.specs.Prelude.{slice_get}
use Rattle.def_machine.specs.Values.{Words, Value, Ref, Name, Promise, Answer, Gift, Sent, Msg, Naming, naming, name_of, mail_of, answer_of, IsAnswer, Null}
use Rattle.def_machine.specs.State.{Message, Known, Note, Wait, WaitOn, Passeds, Deliver, Put, Sends, Posted, Vat, Done, Gives, Throws, Ejects, Stops, Act, ◌>>=◌, ◌>>◌, and_then, give, tell, send_out, alter, with_change, come, new_message, begun, for_some, new_lone_message}
use Rattle.def_machine.specs.Refs as refs
use Rattle.def_run.specs.World.{has_name}
use Rattle.law_machine.specs.Machine.Steps.{After}
use Rattle.law_machine.proofs.Machine.Keeps.{Keeps, IsKept, IsKeptUnder}
use Rattle.law_machine.proofs.Machine.RefsKeeps.{keeps_refs, keeps_pass_on, keeps_inform_of}
use Rattle.law_fate.specs.Name.Names.{Bit, Named, At, AllOf, IsAmong, IsMessageName, ValuesOk, MessageOk, KnownOk, NoteOk, PassedsOk, names_in}
use Rattle.law_fate.proofs.Name.Facts.{all_map, all_end, all_append, value_up, values_up, known_up, note_up, Fact, IsName, IsOff, IsMessage, Holds, nothing}
use Rattle.law_fate.proofs.Name.Care.{Care, Under, Sound, Gets, Fine, got_vat, fine_tell, fine_new_message, fine_lone_message}
use Rattle.law_fate.proofs.Name.CareRefs.{fine_pass_on, fine_inform_of, fine_deliver}
use Rattle.law_fate.proofs.Name.Among.{among_or, names_end}
use Rattle.law_fate.proofs.Name.SameNames.{has_among, among_has}
use Rattle.law_fate.proofs.Name.Tracked.{Marked, names_change}
use Rattle.law_reference.specs.Reference.Behind.{Avoids, NamesNot, Bears}
use Rattle.law_reference.proofs.Reference.AnswerPassing.{Clean, Spares, PassesAt, passes_all, passes_informed}
use Rattle.law_reference.proofs.Reference.Beside.{Leaves as LeavesBy, MakesAlone, Stays}
use Rattle.law_reference.proofs.Reference.CareBeside.{T as Tracks, V as Cares, under as tracked_by, makes as made_by, quiet, made_message}
use Rattle.law_reference.proofs.Reference.CareMore.{lift_of}
use Rattle.law_reference.proofs.Reference.CareBlocks.{Blocks, Sending, SendingOnly, sent_by, sent_only_by}
use Rattle.law_reference.proofs.Reference.CareYields.{fits_fine}

no_both : (b : Bool) → b ≡ true → b ≡ false → ⊥
no_both b e f = cc

-- a name is among these, or it is not
pub among_dec : (x : Name) (ns : List Name) → IsAmong x ns ⊎ (IsAmong x ns → ⊥)
among_dec x ns = either (has_name ns x) refl
  where
    either : (b : Bool) → has_name ns x ≡ b → IsAmong x ns ⊎ (IsAmong x ns → ⊥)
    either true e = inl (has_among ns x e)
    either false e = inr (λ a. no_both (has_name ns x) (among_has ns x a) e)

-- a note put to g of which B holds, and none in front of it names x
module _ (B : Note Name → Type 0) (x : Name) (g : ℕ) where
  abbrev pub PutsAhead : List (Put Name) → Type 0
  PutsAhead [] = ⊥
  PutsAhead (p ∷ ps) = ((p.to ≡ g) × B p.note) ⊎ (NamesNot x p.note × PutsAhead ps)

  pub ahead_more : (ps : List (Put Name)) (p : Put Name) → PutsAhead ps → PutsAhead (ps ++ p ∷ [])
  ahead_more [] p h = absurd h
  ahead_more (r ∷ ps) p (inl h) = inl h
  ahead_more (r ∷ ps) p (inr h) = inr (h.0, ahead_more ps p h.1)

  pub ahead_last : (ps : List (Put Name)) (p : Put Name) → AllOf (λ (r : Put Name). NamesNot x r.note) ps → (p.to ≡ g) × B p.note → PutsAhead (ps ++ p ∷ [])
  ahead_last [] p h b = inl b
  ahead_last (r ∷ ps) p h b = inr (h.0, ahead_last ps p h.1 b)

module _ (g : ℕ) (m : Msg) where
  abbrev pub X : Name
  X = Answer g m

  -- the message is among the notes put, and neither its own note nor any in front of it names its answer
  abbrev pub PutsFirst : List (Put Name) → Type 0
  PutsFirst ps = PutsAhead (Bears m X) X g ps

  answer_is : (h : ℕ) (id : Name) → IsMessageName id → X ≡ answer_of h id → (h ≡ g) × (id ≡ Sent m)
  unfolding answer_of
  answer_is h (Sent n) i e = let a : h ≡ g = cc in let b : n ≡ m = cc in (a, ap Sent b)
  answer_is h other i e = absurd i

  -- ---- the notes put are added to

  abbrev More : Vat Name → Vat Name → Type 0
  More s t = PutsFirst s.outbox → PutsFirst t.outbox

  more_base : IsKept More
  more_base = record {
    same = λ s h. h;
    trans = λ {s} {t} {u} f k h. k (f h);
    fuel = λ s n h. h;
    happened = λ s e h. h;
    activations = λ s h. h;
    thing = λ s t h. h;
    killed = λ s n h. h;
    slot = λ s c h. h;
    written = λ s n y h. h;
    list = λ s vs h. h;
    queue = λ s n h. h;
    outbox = λ s p h. ahead_more (Bears m X) X g s.outbox p h;
    gift = λ s n h. h;
    opened = λ s p i h. h;
    noticed = λ s w h. h;
    drawn = λ s w h. h;
  }

  more_under : (K : Naming Name Name) → IsKeptUnder K More
  more_under K = record { altered = λ s c n h. h; came = λ s c w h. h; mailed = λ s c h. h; promised = λ s h. h; messaged = λ s w id h. h; lone = λ s id h. h }

  -- Where the answer is known, its message was put in front of all that names it, unless E.
  abbrev pub Held : Type 0 → List (Known Name) → List (Put Name) → Type 0
  Held E ks ps = IsAmong X (names_in ks) → E ⊎ PutsFirst ps

  known_held : (E : Type 0) (ks : List (Known Name)) (ps : List (Put Name)) (a : Name) (h : ℕ) → (X ≡ a → ⊥) → Held E ks ps → Held E (ks ++ begun a h ∷ []) ps
  unfolding begun
  known_held E ks ps a h f o k = either (among_or X (names_in ks) a (rw (names_end ks (begun a h)) at k))
    where
      either : IsAmong X (names_in ks) ⊎ (X ≡ a) → E ⊎ PutsFirst ps
      either (inl i) = o i
      either (inr e) = absurd (f e)

  put_either : (E : Type 0) (ps : List (Put Name)) (p : Put Name) → E ⊎ PutsFirst ps → E ⊎ PutsFirst (ps ++ p ∷ [])
  put_either E ps p (inl e) = inl e
  put_either E ps p (inr h) = inr (ahead_more (Bears m X) X g ps p h)

  -- what a vat makes by itself is no answer at another
  not_alone : (v : ℕ) → (g ≡ v → ⊥) → (n : Name) → MakesAlone v n → X ≡ n → ⊥
  not_alone v abroad (Promise w i) h e = cc
  not_alone v abroad (Gift w i) h e = cc
  not_alone v abroad (Answer w n) h e = let a : g ≡ w = cc in abroad (a ∙ h)
  not_alone v abroad other h e = absurd h

  -- a name that is not the answer comes to be known
  pub other_held : (E : Type 0) (a : Name) → Avoids X (Named a) → (h : ℕ) (ks : List (Known Name)) (ps : List (Put Name)) → Held E ks ps → Held E (ks ++ begun a h ∷ []) ps
  other_held E a f h ks ps o = known_held E ks ps a h (λ e. f (sym e)) o

  pub held_stays : (word : ℕ → ℕ) (v : ℕ) (E : Type 0) → (g ≡ v → ⊥) → Stays word v (Held E)
  held_stays word v E abroad = record {
    altered = λ c n ks ps o k. o (rw (names_change (naming word v) c n ks) at k);
    knows = λ n h i ks ps o. known_held E ks ps n h (not_alone v abroad n i) o;
    puts = λ p i ks ps o k. put_either E ps p (o k);
  }

  module _ (M : Marked) (vats : List (Vat Name)) (v : ℕ) (q : Vat Name) (there : slice_get vats v ≡ Some q) (here : M.mark (At v)) (word : ℕ → ℕ) (E : Type 0) where
    abbrev T : Care Name
    T = Tracks M vats v q there here word (Held E)

    abbrev Names : Naming Name Name
    Names = naming word v

    under : Under Names T
    under = tracked_by M vats v q there here word (Held E)

    abbrev pub W : Care Name
    W = Cares M vats v q there here word (Held E)

    abbrev Leaves : {A : Type 0} → Done Name A → Type 0
    Leaves d = LeavesBy word v (Held E) d

    abbrev Cleans : Vat Name → Type 0
    Cleans s = Clean word v X T under s

    abbrev Spared : List (Put Name) → Type 0
    Spared ps = Spares word v X T under ps

    -- ---- where the answer is not known, nothing leads to it

    avoids : (s : Vat Name) → (IsAmong X (names_in s.known) → ⊥) → (b : Bit Name) → T.ok s b → Avoids X b
    avoids s f (Named n) h = λ e. f (rw e at h.1)
    avoids s f other h = tt

    clean_of : (s : Vat Name) → (IsAmong X (names_in s.known) → ⊥) → Sound T s → Cleans s
    clean_of s f h = let p = h.parts in (all_map (known_up (T.ok s) (Avoids X) (avoids s f)) s.known p.known, all_map (λ ys i. values_up (T.ok s) (Avoids X) (avoids s f) ys i) s.lists p.lists)

    spares_of : (s : Vat Name) → (IsAmong X (names_in s.known) → ⊥) → Sound T s → Spared s.outbox
    spares_of s f h = let p = h.parts in all_map (λ r i. note_up (T.ok s) (Avoids X) (avoids s f) r.note i.0) s.outbox p.outbox

    clean_more : (s : Vat Name) (a : Name) (h : ℕ) → Cleans s → AllOf (KnownOk (Avoids X)) (s.known ++ begun a h ∷ [])
    unfolding begun
    clean_more s a h c = all_end (KnownOk (Avoids X)) s.known (begun a h) c.0 (tt, tt, tt, tt, tt, tt)

    -- ---- the message goes out

    -- the names known are the same, and where it is the message and asks for an answer it was put first
    abbrev OutAt : ℕ → Name → Bool → Vat Name → Done Name (Unit {0}) → Type 0
    OutAt h id asks s (Gives u t) = (names_in t.known ≡ names_in s.known) × (asks ≡ true → h ≡ g → id ≡ Sent m → PutsFirst t.outbox)
    OutAt h id asks s (Stops c t) = Unit {0}
    OutAt h id asks s other = ⊥

    out_from : (s : Vat Name) (n : Message Name) (h : ℕ) (to : Name) (d : Done Name (Passeds Name)) → Spared s.outbox → Avoids X (Named to) → PassesAt word v X T under (PassedsOk (Avoids X)) s d
        → OutAt h n.id (is_some n.answer) s (and_then d (λ args. tell (Posted h n.id) >> send_out h (Deliver (refs.delivery_of Names n) to n.verb args)))
    unfolding and_then ◌>>◌ tell send_out
    out_from s n h to (Gives args t) o k p = let names = p.0.0 in let ps : List (Put Name) = p.0.1.0 in let grown : t.outbox ≡ s.outbox ++ ps = p.0.1.1 in let spared = p.0.1.2 in
        let all : Spared t.outbox = rw grown (all_append (λ (r : Put Name). NoteOk (Avoids X) r.note) s.outbox ps o spared) in
        (names, λ i e f. ahead_last (Bears m X) X g t.outbox (record { to = h; note = Deliver (refs.delivery_of Names n) to n.verb args }) all (e, (f, i, (tt, k, p.2))))
    out_from s n h to (Stops c t) o k p = tt
    out_from s n h to other o k p = absurd p

    goes_out : (s : Vat Name) (n : Message Name) (h : ℕ) (to : Name) → Cleans s → Spared s.outbox → Avoids X (Named to) → ValuesOk (Avoids X) n.args → OutAt h n.id (is_some n.answer) s (refs.deliver Names n h to s)
    unfolding refs.deliver ◌>>=◌
    goes_out s n h to c o k a = out_from s n h to (refs.pass_all Names h n.args s) o k ((passes_all word v X T under h n.args a).after s c)

    -- once its answer is known and the message is out
    found_held : (s t : Vat Name) (h : ℕ) (id : Name) → (IsAmong X (names_in s.known) → ⊥) → IsMessageName id → names_in t.known ≡ names_in s.known ++ answer_of h id ∷ [] → (h ≡ g → id ≡ Sent m → PutsFirst t.outbox) → Held E t.known t.outbox
    found_held s t h id f i names first k = either (among_or X (names_in s.known) (answer_of h id) (rw names at k))
      where
        either : IsAmong X (names_in s.known) ⊎ (X ≡ answer_of h id) → E ⊎ PutsFirst t.outbox
        either (inl a) = absurd (f a)
        either (inr e) = let is = answer_is h id i e in inr (first is.0 is.1)

    waits_after : (s s1 : Vat Name) (h : ℕ) (id p : Name) (d : Done Name (Unit {0})) → (IsAmong X (names_in s.known) → ⊥) → IsMessageName id → names_in s1.known ≡ names_in s.known ++ answer_of h id ∷ [] → OutAt h id true s1 d
        → Leaves (and_then d (λ u. refs.wait_on Names p (answer_of h id)))
    unfolding and_then refs.wait_on ◌>>◌ tell alter
    waits_after s s1 h id p (Gives u t) f i names o = let a = answer_of h id in
        found_held s (record t { known = with_change Names (Wait p) a (with_change Names (WaitOn a) p t.known) }) h id f i
        (names_change Names (Wait p) a (with_change Names (WaitOn a) p t.known) ∙ names_change Names (WaitOn a) p t.known ∙ o.0 ∙ names) (o.1 refl)
    waits_after s s1 h id p (Stops c t) f i names o = tt
    waits_after s s1 h id p other f i names o = absurd o

    gives_after : (s s1 : Vat Name) (h : ℕ) (id : Name) (y : Value Name) (d : Done Name (Unit {0})) → (IsAmong X (names_in s.known) → ⊥) → IsMessageName id → names_in s1.known ≡ names_in s.known ++ answer_of h id ∷ [] → OutAt h id true s1 d
        → Leaves (and_then d (λ u. give y))
    unfolding and_then give
    gives_after s s1 h id y (Gives u t) f i names o = found_held s t h id f i (o.0 ∙ names) (o.1 refl)
    gives_after s s1 h id y (Stops c t) f i names o = tt
    gives_after s s1 h id y other f i names o = absurd o

    -- where the answer is known already, the notes put are added to
    grown : {A : Type 0} (s : Vat Name) (d : Done Name A) → E ⊎ PutsFirst s.outbox → After More s d → Leaves d
    grown s (Gives a t) (inl e) r = λ k. inl e
    grown s (Throws p t) (inl e) r = λ k. inl e
    grown s (Ejects n y t) (inl e) r = λ k. inl e
    grown s (Stops c t) o r = tt
    grown s other (inr h) r = λ k. inr (r h)

    -- a message without an answer makes no name known
    lone_out : {A : Type 0} (s s1 : Vat Name) (h : ℕ) (id : Name) (asks : Bool) (d : Done Name (Unit {0})) (y : A) → (IsAmong X (names_in s.known) → ⊥) → names_in s1.known ≡ names_in s.known → OutAt h id asks s1 d → Leaves (and_then d (λ u. give y))
    unfolding and_then give
    lone_out s s1 h id asks (Gives u t) y f e o = λ k. absurd (f (rw (o.0 ∙ e) at k))
    lone_out s s1 h id asks (Stops c t) y f e o = tt
    lone_out s s1 h id asks other y f e o = absurd o

    out_leaves : (s : Vat Name) (h : ℕ) (id : Name) (asks : Bool) (d : Done Name (Unit {0})) → (IsAmong X (names_in s.known) → ⊥) → OutAt h id asks s d → Leaves d
    out_leaves s h id asks (Gives u t) f o = λ k. absurd (f (rw o.0 at k))
    out_leaves s h id asks (Stops c t) f o = tt
    out_leaves s h id asks other f o = absurd o

    passed_by : (s : Vat Name) (n : Message Name) (h : ℕ) (to : Name) (o : Option Name) → (IsAmong X (names_in s.known) → ⊥) → Sound T s → MessageOk (T.ok s) n → T.ok s (Named to)
        → Leaves (for_some o (λ p. come Names (IsAnswer h n.id) h >>= (λ a. refs.deliver Names (record n { answer = Some a }) h to >> refs.wait_on Names p a)) (refs.deliver Names n h to) s)
    unfolding for_some ◌>>=◌ ◌>>◌ and_then come naming name_of begun
    passed_by s n h to None f w g k = let c = clean_of s f w in
        out_leaves s h n.id (is_some n.answer) (refs.deliver Names n h to s) f (goes_out s n h to c (spares_of s f w) (avoids s f (Named to) k) (values_up (T.ok s) (Avoids X) (avoids s f) n.args g.2))
    passed_by s n h to (Some p) f w g k = let a = answer_of h n.id in let s1 : Vat Name = record s { known = s.known ++ begun a h ∷ [] } in let c = clean_of s f w in
        waits_after s s1 h n.id p (refs.deliver Names (record n { answer = Some a }) h to s1) f (made_message _ n.id g.0.0) (names_end s.known (begun a h))
        (goes_out s1 (record n { answer = Some a }) h to (clean_more s a h c, c.1) (spares_of s f w) (avoids s f (Named to) k) (values_up (T.ok s) (Avoids X) (avoids s f) n.args g.2))

    passed_on : (s : Vat Name) (n : Message Name) (h : ℕ) (to : Name) → (IsAmong X (names_in s.known) → ⊥) → Sound T s → MessageOk (T.ok s) n → T.ok s (Named to) → Leaves (refs.pass_on Names n h to s)
    unfolding refs.pass_on
    passed_on s n h to f w g k = passed_by s n h to n.answer f w g k

    -- where the answer was known, the notes put are added to; where it was not, nothing led to it
    by_known : {A : Type 0} (s : Vat Name) (a : Act Name A) → Held E s.known s.outbox → Keeps More a → ((IsAmong X (names_in s.known) → ⊥) → Leaves (a s)) → Leaves (a s)
    by_known s a o k f = either (among_dec X (names_in s.known))
      where
        either : IsAmong X (names_in s.known) ⊎ (IsAmong X (names_in s.known) → ⊥) → Leaves (a s)
        either (inl i) = grown s (a s) (o i) (k.after s)
        either (inr n) = f n

    -- a new message that goes to another host
    abbrev Goes : ℕ → Value Name → Value Name → Words → List (Value Name) → ℕ → Name → Act Name (Value Name)
    Goes act x y verb args h n = Sending Names (λ m. refs.deliver Names m h n) act x y verb args h

    grows_away : (act : ℕ) (x y : Value Name) (verb : Words) (args : List (Value Name)) (h : ℕ) (n : Name) → Keeps More (Goes act x y verb args h n)
    grows_away act x y verb args h n = let base = more_base in let law = more_under Names in search (keeps_refs, base, law) depth 14

    sent_away : (s : Vat Name) (act : ℕ) (x y : Value Name) (verb : Words) (args : List (Value Name)) (h : ℕ) (n : Name) → (IsAmong X (names_in s.known) → ⊥) → Sound T s → ValuesOk (T.ok s) args → T.ok s (Named n) → Leaves (Goes act x y verb args h n s)
    unfolding ◌>>=◌ ◌>>◌ and_then new_message tell naming name_of mail_of answer_of begun
    sent_away s act x y verb args h n f w g k = let id : Name = Sent (record { sender = v; number = s.messages }) in let a : Name = answer_of h id in let c = clean_of s f w in
        let s1 : Vat Name = record s { messages = suc s.messages; mails = s.mails ++ id ∷ []; known = s.known ++ begun a h ∷ []; happened = s.happened ++ Sends act (record { id = id; target = x; verb = verb; args = args; answer = Some a }) ∷ [] } in
        gives_after s s1 h id (Ref a) (refs.deliver Names (record { id = id; target = y; verb = verb; args = args; answer = Some a }) h n s1) f tt (names_end s.known (begun a h))
        (goes_out s1 (record { id = id; target = y; verb = verb; args = args; answer = Some a }) h n (clean_more s a h c, c.1) (spares_of s f w) (avoids s f (Named n) k) (values_up (T.ok s) (Avoids X) (avoids s f) args g))

    abbrev LoneAway : ℕ → Value Name → Value Name → Words → List (Value Name) → ℕ → Name → Act Name (Value Name)
    LoneAway act x y verb args h n = SendingOnly Names (λ m. refs.deliver Names m h n) act x y verb args

    grows_lone : (act : ℕ) (x y : Value Name) (verb : Words) (args : List (Value Name)) (h : ℕ) (n : Name) → Keeps More (LoneAway act x y verb args h n)
    grows_lone act x y verb args h n = let base = more_base in let law = more_under Names in search (keeps_refs, base, law) depth 14

    lone_away : (s : Vat Name) (act : ℕ) (x y : Value Name) (verb : Words) (args : List (Value Name)) (h : ℕ) (n : Name) → (IsAmong X (names_in s.known) → ⊥) → Sound T s → ValuesOk (T.ok s) args → T.ok s (Named n) → Leaves (LoneAway act x y verb args h n s)
    unfolding ◌>>=◌ ◌>>◌ and_then new_lone_message tell naming mail_of
    lone_away s act x y verb args h n f w g k = let id : Name = Sent (record { sender = v; number = s.messages }) in let c = clean_of s f w in
        let s1 : Vat Name = record s { messages = suc s.messages; mails = s.mails ++ id ∷ []; happened = s.happened ++ Sends act (record { id = id; target = x; verb = verb; args = args; answer = None }) ∷ [] } in
        let it : Message Name = record { id = id; target = y; verb = verb; args = args; answer = None } in
        lone_out s s1 h id false (refs.deliver Names it h n s1) Null f refl (goes_out s1 it h n c (spares_of s f w) (avoids s f (Named n) k) (values_up (T.ok s) (Avoids X) (avoids s f) args g))

    -- ---- a vat is told

    informed_at : {A : Type 0} (s : Vat Name) (d : Done Name A) → (IsAmong X (names_in s.known) → ⊥) → PassesAt word v X T under (λ a. Unit {0}) s d → Leaves d
    informed_at s (Gives a t) f p = λ k. absurd (f (rw p.0.0 at k))
    informed_at s (Stops c t) f p = tt
    informed_at s other f p = absurd p

    -- ---- all of it

    gets : {C F : Fact Name} → Gets W C F → Gets T C F
    gets k = record { at = k.at }

    tells : (C : Fact Name) (e : _) → Fine T C (tell e) nothing
    tells C e = fine_tell Names T under e

    out : {C : Fact Name} (n : Message Name) → Gets T C (IsMessage n) → (h : ℕ) → Gets T C (IsOff h) → (to : Name) → Gets T C (IsName to) → Fine T C (refs.deliver Names n h to) nothing
    out n k h o to l = fine_deliver Names T under n k h o to l

    raised : {A : Type 0} {C : Fact Name} {a : Act Name A} {G : A → Fact Name} → Fine T C a G → Keeps More a → ((s : Vat Name) → (IsAmong X (names_in s.known) → ⊥) → Sound T s → Holds (T.ok s) C → Leaves (a s)) → Fine W C a G
    raised {a = a} f k l = lift_of T (λ s. Held E s.known s.outbox) (quiet M vats v q there here word (Held E)) f (λ s w c o. by_known s a o k (λ n. l s n w c))

    pub blocks : Blocks Names W
    blocks = record {
      passes_on = λ C n k h o to l. raised (fine_pass_on Names T under n (gets k) h (gets o) to (gets l)) (keeps_pass_on Names More more_base (more_under Names) n h to) (λ s f w c. passed_on s n h to f w (k.at s c) (l.at s c));
      sends_away = λ C act x y k verb args l h o n i. raised (sent_by Names T tells (λ m. refs.deliver Names m h n) act x y (gets k) verb args (gets l) (λ id a. Unit {0}) h (fits_fine T (fine_new_message Names T under (made_by M vats v q there here word (Held E)) h (got_vat T C h (gets o))))
          (λ id a q j. out _ j h (record { at = λ s c. o.at s c.0 }) n (record { at = λ s c. i.at s c.0 }))) (grows_away act x y verb args h n) (λ s f w c. sent_away s act x y verb args h n f w (l.at s c) (i.at s c));
      lone_away = λ C act x y k verb args l h o n i. raised (sent_only_by Names T tells (λ m. refs.deliver Names m h n) act x y (gets k) verb args (gets l) (fine_lone_message Names T under (made_by M vats v q there here word (Held E)))
          (λ id j. out _ j h (record { at = λ s c. o.at s c.0 }) n (record { at = λ s c. i.at s c.0 }))) (grows_lone act x y verb args h n) (λ s f w c. lone_away s act x y verb args h n f w (l.at s c) (i.at s c));
      informs = λ C p k w y l z i. raised (fine_inform_of Names T under p (gets k) w y (gets l) z (gets i)) (keeps_inform_of Names More more_base (more_under Names) p w y z)
          (λ s f h c. informed_at s _ f ((passes_informed word v X T under p w y z (avoids s f (Named p) (k.at s c)) (value_up (T.ok s) (Avoids X) (avoids s f) y (l.at s c))).after s (clean_of s f h)));
    }
