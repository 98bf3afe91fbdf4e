-- How the names that a vat knows, its messages, its lines and the notes that it puts go on: what comes to be known is the vat's own, or was asked for, or is severed, or was told; and what is asked for is known.
use Rattle.std.proofs.Common.{◌≡◌, ℕ, zero, suc, ◌-◌, Bool, true, false, List, [], ◌∷◌, ◌++◌, Option, Some, None, refl, sym, ap, ◌∙◌, ◌⊎◌, inl, inr, length, map, ◌+◌, ◌==◌, append_assoc, append-nil, arith}
use Rattle.std.specs.Prelude.{slice_get}
use Rattle.std.proofs.lemmas.Bool.{eq-eqb}
use Rattle.def_machine.specs.Values.{Value, Name, Promise, Gift, Sent, Naming, naming, host_of}
use Rattle.def_run.specs.Names.{own_mails}
use Rattle.def_machine.specs.State.{Message, Change, Passed, Note, Deliver, Open, Ask, SettledTo, Elsewhere, Shorten, Put, GiftEntry, Happened, Vat, Done, Gives, Throws, Ejects, Stops, Act, and_then, tell, change, dead, holding, with_change, enqueue, send_out, with_opened, is_gift, open_gift, mark, drawn_at, draws, draw, alter, is_in, Sends, Reacts, Lost, Posted, Settles, Waits, Views, ListCame}
use Rattle.law_fate.proofs.Fates.Leads.{Leads, Ends, IsLed}
use Rattle.law_fate.proofs.Fates.Spares.{TellsOfNone}
use Rattle.law_fate.specs.Name.Names.{AllOf, IsAmong, IsEventual, Once, names_in}
use Rattle.law_fate.proofs.Name.Facts.{all_map, all_end, all_append}
use Rattle.law_fate.proofs.Name.Among.{all_among, among_more, among_or}
use Rattle.law_fate.proofs.Name.Tracked.{names_change}
use Rattle.law_frame.specs.Frame.Asked.{AsksOf, AskFits, Listless, AllListless}
use Rattle.law_frame.specs.Frame.Lines.{MessageFits, LineFits, AnswersIn}
use Rattle.law_frame.proofs.Frame.Grow.{among_left, among_right}
use Rattle.law_frame.proofs.Frame.Exported.{among_split}

-- a stop may leave any state
abbrev pub Any : Vat Name → Vat Name → Type 0
Any s t = Unit {0}

-- A gift that the vat hosts is known, and has its own name.
abbrev pub GiftFits : ℕ → List Name → GiftEntry Name → Type 0
GiftFits v ns g = (g.name ≡ Gift v g.number) × IsAmong g.name ns

-- a line of neither a send nor a reaction
abbrev IsOfNone : Happened Name → Type 0
IsOfNone (Sends act m) = ⊥
IsOfNone (Reacts act x o m) = ⊥
IsOfNone _ = Unit {0}

-- What is to be shortened at another vat is no object, and no list passes by its number.
abbrev pub Proper : ℕ → ℕ → Note Name → Type 0
Proper v to (Shorten n c i) = (to ≡ v → ⊥) → IsEventual n
Proper v to (Deliver m n verb ys) = AllListless ys
Proper v to (SettledTo n y) = Listless y
Proper v to other = Unit {0}

abbrev pub PutFits : ℕ → List Name → Put Name → Type 0
PutFits v ns p = AskFits ns p.to p.note × Proper v p.to p.note

abbrev pub Fit : ℕ → List Name → List (GiftEntry Name) → List (Put Name) → Type 0
Fit v ns gs ps = AllOf (GiftFits v ns) gs × AllOf (PutFits v ns) ps

-- a note was put that asks for the name
abbrev pub WasAsked : Vat Name → Name → Type 0
WasAsked t n = (p : Put Name) × IsAmong p t.outbox × AsksOf p.to p.note n

-- the names that are told in a step, the gifts that pass to the vat in it, the answer that is asked of the vat in it, and the word of each draw
pub record Telling : Type 1 where
  pub told : Name → Type 0
  pub passed : Name → Type 0
  pub due : Name → Type 0
  pub word : ℕ → ℕ

-- the words that were drawn are the first ones, in order, and differ
abbrev pub Drawn : (ℕ → ℕ) → List ℕ → Type 0
Drawn word ds = ((i x : ℕ) → slice_get ds i ≡ Some x → x ≡ word i) × Once ds

-- a line has the name as the answer of a new message
abbrev pub WasTold : Vat Name → Name → Type 0
WasTold t n = (e : Happened Name) × IsAmong e t.happened × AnswersIn e n

abbrev pub gift_names : List (GiftEntry Name) → List Name
gift_names gs = map (λ g. g.name) gs

-- gifts came to be in a step, at the end
abbrev pub Given : Vat Name → Vat Name → Type 0
Given s t = (gs : List Name) × (gift_names t.gifts ≡ gift_names s.gifts ++ gs)

-- How a name of the vat's own came to be: it is a promise of the vat, or the answer of a new message, or a gift that came, or the answer that is asked of it.
abbrev pub Born : ℕ → Telling → Vat Name → Vat Name → Name → Type 0
Born v P s t n = ((i : ℕ) × (n ≡ Promise v i)) ⊎ (WasTold t n ⊎ (((gs : List Name) × (gift_names t.gifts ≡ gift_names s.gifts ++ gs) × IsAmong n gs) ⊎ P.due n))

-- How a name came to be known from s to t: it is the vat's own, or was asked for, or it passed to the vat as a gift whose host was noticed, or it was told.
abbrev pub Comes : ℕ → Telling → Vat Name → Vat Name → Name → Type 0
Comes v P s t n = ((host_of n ≡ v) × Born v P s t n) ⊎ (WasAsked t n ⊎ (((is_in (host_of n) t.noticed ≡ true) × P.passed n) ⊎ P.told n))

-- so many messages of the vat's own came to be had, and no others
abbrev pub Mailed : ℕ → Vat Name → Vat Name → Type 0
Mailed v s t = (i : ℕ) × (t.messages ≡ s.messages + i) × (t.mails ≡ s.mails ++ own_mails v s.messages i)

pub record Steady (v : ℕ) (P : Telling) (s t : Vat Name) : Type 0 where
  pub number : t.number ≡ v
  -- names come to be known at the end
  pub come : (ns : List Name) × (names_in t.known ≡ names_in s.known ++ ns) × AllOf (Comes v P s t) ns
  pub mails : Mailed v s t
  pub puts : (p : Put Name) → IsAmong p s.outbox → IsAmong p t.outbox
  pub lines : (e : Happened Name) → IsAmong e s.happened → IsAmong e t.happened
  pub given : Given s t
  pub noticed : (h : ℕ) → is_in h s.noticed ≡ true → is_in h t.noticed ≡ true
  pub fits : Fit v (names_in s.known) s.gifts s.outbox → Fit v (names_in t.known) t.gifts t.outbox
  pub answers : AllOf (LineFits (names_in s.known) s.mails) s.happened → AllOf (LineFits (names_in t.known) t.mails) t.happened
  pub draws : Drawn P.word s.drawn → Drawn P.word t.drawn

abbrev pub Asking : ℕ → Telling → Vat Name → Vat Name → Type 0
Asking v P s t = s.number ≡ v → Steady v P s t

-- with one more name, which was not asked for yet
abbrev pub Or : Telling → Name → Telling
Or P n = record { told = λ m. P.told m ⊎ (m ≡ n); passed = P.passed; due = P.due; word = P.word }

-- what is known stays known, and each name that is known was so before or came
pub names_on : (v : ℕ) (P : Telling) (s t : Vat Name) → Steady v P s t → (n : Name) → IsAmong n (names_in s.known) → IsAmong n (names_in t.known)
names_on v P s t h n a = let c = h.come in rw (sym c.1) at (among_left n (names_in s.known) c.0 a)

pub news_of : (v : ℕ) (P : Telling) (s t : Vat Name) → Steady v P s t → (n : Name) → IsAmong n (names_in t.known) → IsAmong n (names_in s.known) ⊎ Comes v P s t n
news_of v P s t h n a = go (among_split n (names_in s.known) (h.come).0 (rw (h.come).1 at a))
  where
    go : IsAmong n (names_in s.known) ⊎ IsAmong n (h.come).0 → IsAmong n (names_in s.known) ⊎ Comes v P s t n
    go (inl b) = inl b
    go (inr b) = inr (all_among (Comes v P s t) (h.come).0 n (h.come).2 b)

pub ask_up : (ns ms : List Name) → ((n : Name) → IsAmong n ns → IsAmong n ms) → (w : ℕ) (n : Note Name) → AskFits ns w n → AskFits ms w n
ask_up ns ms f w (Deliver d n verb ys) h = λ e. f _ (h e)
ask_up ns ms f w (Ask p i n) h = (f n h.0, h.1)
ask_up ns ms f w other h = tt

pub fit_up : (v : ℕ) (ns ms : List Name) → ((n : Name) → IsAmong n ns → IsAmong n ms) → (gs : List (GiftEntry Name)) (ps : List (Put Name)) → Fit v ns gs ps → Fit v ms gs ps
fit_up v ns ms f gs ps h = (all_map (λ g k. (k.0, f g.name k.1)) gs h.0, all_map (λ p k. (ask_up ns ms f p.to p.note k.0, k.1)) ps h.1)

message_up : (ns ms ns' ms' : List Name) → ((n : Name) → IsAmong n ns → IsAmong n ns') → ((n : Name) → IsAmong n ms → IsAmong n ms') → (m : Message Name) → MessageFits ns ms m → MessageFits ns' ms' m
message_up ns ms ns' ms' f g m h = (h.0, g m.id h.1, λ n e. let k = h.2 n e in (k.0, f n k.1))

line_up : (ns ms ns' ms' : List Name) → ((n : Name) → IsAmong n ns → IsAmong n ns') → ((n : Name) → IsAmong n ms → IsAmong n ms') → (e : Happened Name) → LineFits ns ms e → LineFits ns' ms' e
line_up ns ms ns' ms' f g (Sends act m) h = message_up ns ms ns' ms' f g m h
line_up ns ms ns' ms' f g (Reacts act x o m) h = message_up ns ms ns' ms' f g m h
line_up ns ms ns' ms' f g _ h = tt

plain_line : (ns ms : List Name) (e : Happened Name) → IsOfNone e → LineFits ns ms e
plain_line ns ms (Sends act m) h = absurd h
plain_line ns ms (Reacts act x o m) h = absurd h
plain_line ns ms _ h = tt

of_none : (e : Happened Name) → TellsOfNone e → IsOfNone e
of_none (Sends act m) h = h
of_none (Reacts act x o m) h = h
of_none _ h = tt

-- ---- messages of the vat's own

own_on : (v j i k : ℕ) → own_mails v j (i + k) ≡ own_mails v j i ++ own_mails v (j + i) k
unfolding own_mails
own_on v j zero k = let e : j + 0 ≡ j = omega arith in let f : 0 + k ≡ k = omega arith in rw (e, f) refl
own_on v j (suc i) k = let e : j + suc i ≡ suc j + i = omega arith in let f : suc i + k ≡ suc (i + k) = omega arith in rw (e, f) (ap (λ ms. Sent (record { sender = v; number = j }) ∷ ms) (own_on v (suc j) i k))

mailed_on : (v : ℕ) (s t u : Vat Name) → Mailed v s t → Mailed v t u → Mailed v s u
mailed_on v s t u h k = (
  h.0 + k.0,
  (let e = h.1 in let f = k.1 in omega arith),
  k.2 ∙ ap (λ ms. ms ++ own_mails v t.messages k.0) h.2 ∙ append_assoc s.mails (own_mails v s.messages h.0) (own_mails v t.messages k.0)
      ∙ ap (λ (j : ℕ). s.mails ++ (own_mails v s.messages h.0 ++ own_mails v j k.0)) h.1 ∙ ap (λ ms. s.mails ++ ms) (sym (own_on v s.messages h.0 k.0)),
)

none_mailed : (v : ℕ) (s t : Vat Name) → t.messages ≡ s.messages → t.mails ≡ s.mails → Mailed v s t
unfolding own_mails
none_mailed v s t e f = (0, (omega arith), f ∙ sym (append-nil s.mails))

one_mailed : (v : ℕ) (s t : Vat Name) → t.messages ≡ suc s.messages → t.mails ≡ s.mails ++ Sent (record { sender = v; number = s.messages }) ∷ [] → Mailed v s t
unfolding own_mails
one_mailed v s t e f = (1, (omega arith), f)

-- ---- the words that are drawn

drawn_or : (k w x : ℕ) (b : Bool) (o : Option ℕ) → (w == x) ≡ b → ◌≡◌ {A = Option ℕ} (elim b [ true ↦ Some k | false ↦ o ]) None → (w ≡ x → ⊥) × (o ≡ None)
drawn_or k w x true o e f = absurd (some_none k f)
  where
    some_none : (k : ℕ) → Some k ≡ None → ⊥
    some_none k f = cc
drawn_or k w x false o e f = (λ g. true_false (w == x) (eq-eqb w x g) e, f)
  where
    true_false : (b : Bool) → b ≡ true → b ≡ false → ⊥
    true_false b i j = cc

not_drawn : (k w : ℕ) (ds : List ℕ) → drawn_at k w ds ≡ None → IsAmong w ds → ⊥
unfolding drawn_at
not_drawn k w [] e a = a
not_drawn k w (x ∷ ds) e a = let r = drawn_or k w x (w == x) (drawn_at (suc k) w ds) refl e in by_either a r.0 (not_drawn (suc k) w ds r.1)
  where
    by_either : {Q S : Type 0} → Q ⊎ S → (Q → ⊥) → (S → ⊥) → ⊥
    by_either (inl q) f g = f q
    by_either (inr t) f g = g t

once_end : (ds : List ℕ) (w : ℕ) → Once ds → (IsAmong w ds → ⊥) → Once (ds ++ w ∷ [])
once_end [] w h f = (λ a. a, tt)
once_end (x ∷ ds) w h f = (λ a. new (among_or x ds w a), once_end ds w h.1 (λ a. f (inr a)))
  where
    new : IsAmong x ds ⊎ (x ≡ w) → ⊥
    new (inl a) = h.0 a
    new (inr e) = f (inl (sym e))

get_end : (ds : List ℕ) (w i x : ℕ) → slice_get (ds ++ w ∷ []) i ≡ Some x → (slice_get ds i ≡ Some x) ⊎ ((i ≡ length ds) × (w ≡ x))
get_end [] w zero x e = inr (refl, (let f : w ≡ x = cc in f))
get_end [] w (suc i) x e = absurd (none_some x e)
  where
    none_some : (x : ℕ) → None ≡ Some x → ⊥
    none_some x f = cc
get_end (d ∷ ds) w zero x e = inl e
get_end (d ∷ ds) w (suc i) x e = go (get_end ds w i x e)
  where
    go : (slice_get ds i ≡ Some x) ⊎ ((i ≡ length ds) × (w ≡ x)) → (slice_get (d ∷ ds) (suc i) ≡ Some x) ⊎ ((suc i ≡ length (d ∷ ds)) × (w ≡ x))
    go (inl f) = inl f
    go (inr f) = inr (ap suc f.0, f.1)

drawn_end : (word : ℕ → ℕ) (ds : List ℕ) (w : ℕ) → w ≡ word (length ds) → drawn_at zero w ds ≡ None → Drawn word ds → Drawn word (ds ++ w ∷ [])
drawn_end word ds w e f d = (λ i x g. pick i x (get_end ds w i x g), once_end ds w d.1 (not_drawn zero w ds f))
  where
    pick : (i x : ℕ) → (slice_get ds i ≡ Some x) ⊎ ((i ≡ length ds) × (w ≡ x)) → x ≡ word i
    pick i x (inl g) = d.0 i x g
    pick i x (inr g) = sym g.1 ∙ e ∙ ap word (sym g.0)

-- how a name came is so from before, and after
given_on : (s t u : Vat Name) → Given s t → Given t u → Given s u
given_on s t u h k = (h.0 ++ k.0, k.1 ∙ ap (λ ns. ns ++ k.0) h.1 ∙ append_assoc (gift_names s.gifts) h.0 k.0)

born_on : (v : ℕ) (P Q : Telling) (s t u : Vat Name) → Steady v Q t u → (n : Name) → Born v P s t n → Born v P s u n
unfolding given_on
born_on v P Q s t u k n (inl e) = inl e
born_on v P Q s t u k n (inr (inl a)) = inr (inl (a.0, k.lines a.0 a.1, a.2))
born_on v P Q s t u k n (inr (inr (inl a))) = let g = given_on s t u (a.0, a.1) k.given in inr (inr (inl (g.0, g.1, among_left n a.0 (k.given).0 a.2)))
born_on v P Q s t u k n (inr (inr (inr p))) = inr (inr (inr p))

pub comes_on : (v : ℕ) (P Q : Telling) (s t u : Vat Name) → Steady v Q t u → (n : Name) → Comes v P s t n → Comes v P s u n
comes_on v P Q s t u k n (inl e) = inl (e.0, born_on v P Q s t u k n e.1)
comes_on v P Q s t u k n (inr (inl a)) = inr (inl (a.0, k.puts a.0 a.1, a.2))
comes_on v P Q s t u k n (inr (inr (inl e))) = inr (inr (inl (k.noticed (host_of n) e.0, e.1)))
comes_on v P Q s t u k n (inr (inr (inr p))) = inr (inr (inr p))

born_since : (v : ℕ) (P Q : Telling) (s t u : Vat Name) → Steady v Q s t → (n : Name) → Born v P t u n → Born v P s u n
unfolding given_on
born_since v P Q s t u h n (inl e) = inl e
born_since v P Q s t u h n (inr (inl a)) = inr (inl a)
born_since v P Q s t u h n (inr (inr (inl a))) = let g = given_on s t u h.given (a.0, a.1) in inr (inr (inl (g.0, g.1, among_right n (h.given).0 a.0 a.2)))
born_since v P Q s t u h n (inr (inr (inr p))) = inr (inr (inr p))

pub comes_since : (v : ℕ) (P Q : Telling) (s t u : Vat Name) → Steady v Q s t → (n : Name) → Comes v P t u n → Comes v P s u n
comes_since v P Q s t u h n (inl e) = inl (e.0, born_since v P Q s t u h n e.1)
comes_since v P Q s t u h n (inr c) = inr c

pub gift_end : (gs : List (GiftEntry Name)) (g : GiftEntry Name) → gift_names (gs ++ g ∷ []) ≡ gift_names gs ++ g.name ∷ []
gift_end [] g = refl
gift_end (x ∷ gs) g = ap (λ ns. x.name ∷ ns) (gift_end gs g)

none_given : (s t : Vat Name) → t.gifts ≡ s.gifts → Given s t
none_given s t e = ([], ap gift_names e ∙ sym (append-nil (gift_names s.gifts)))

module _ (v : ℕ) (P : Telling) where
  abbrev R : Vat Name → Vat Name → Type 0
  R = Asking v P

  pub steady_on : (s t u : Vat Name) → Steady v P s t → Steady v P t u → Steady v P s u
  steady_on s t u h k = let a = h.come in let b = k.come in record {
    number = k.number;
    come = (a.0 ++ b.0, b.1 ∙ ap (λ ns. ns ++ b.0) a.1 ∙ append_assoc (names_in s.known) a.0 b.0, all_append (Comes v P s u) a.0 b.0 (all_map (comes_on v P P s t u k) a.0 a.2) (all_map (comes_since v P P s t u h) b.0 b.2));
    mails = mailed_on v s t u h.mails k.mails;
    puts = λ p j. k.puts p (h.puts p j);
    lines = λ e j. k.lines e (h.lines e j);
    given = given_on s t u h.given k.given;
    noticed = λ g e. k.noticed g (h.noticed g e);
    fits = λ f. k.fits (h.fits f);
    answers = λ f. k.answers (h.answers f);
    draws = λ d. k.draws (h.draws d);
  }

  none_come : (s t : Vat Name) → names_in t.known ≡ names_in s.known → (ns : List Name) × (names_in t.known ≡ names_in s.known ++ ns) × AllOf (Comes v P s t) ns
  none_come s t e = ([], e ∙ sym (append-nil (names_in s.known)), tt)

  -- nothing of it changes
  pub same_as : (s t : Vat Name) → t.number ≡ s.number → names_in t.known ≡ names_in s.known → t.gifts ≡ s.gifts → t.outbox ≡ s.outbox → t.noticed ≡ s.noticed → t.drawn ≡ s.drawn → t.messages ≡ s.messages → t.mails ≡ s.mails → t.happened ≡ s.happened → R s t
  same_as s t a b c d e w m l q = λ i. record {
    number = a ∙ i;
    come = none_come s t b;
    mails = none_mailed v s t m l;
    puts = λ p j. rw (sym d) at j;
    lines = λ x j. rw (sym q) at j;
    given = none_given s t c;
    noticed = λ h j. rw (sym e) at j;
    fits = λ f. rw (sym b, sym c, sym d) at f;
    answers = λ f. rw (sym b, sym l, sym q) at f;
    draws = λ f. rw (sym w) at f;
  }

  -- a line is told of which it is known that its answer is named and known
  pub told_on : (s t : Vat Name) (x : Happened Name) → t.number ≡ s.number → names_in t.known ≡ names_in s.known → t.gifts ≡ s.gifts → t.outbox ≡ s.outbox → t.noticed ≡ s.noticed → t.drawn ≡ s.drawn → t.messages ≡ s.messages → t.mails ≡ s.mails → t.happened ≡ s.happened ++ x ∷ [] → LineFits (names_in s.known) s.mails x → R s t
  told_on s t x a b c d e w m l q k = λ i. record {
    number = a ∙ i;
    come = none_come s t b;
    mails = none_mailed v s t m l;
    puts = λ p j. rw (sym d) at j;
    lines = λ y j. rw (sym q) at (among_more y s.happened x j);
    given = none_given s t c;
    noticed = λ h j. rw (sym e) at j;
    fits = λ f. rw (sym b, sym c, sym d) at f;
    answers = λ f. rw (sym b, sym l, sym q) at (all_end (LineFits (names_in s.known) s.mails) s.happened x f k);
    draws = λ f. rw (sym w) at f;
  }

  pub base : IsLed Any R
  base = record {
    same = λ s. same_as s s refl refl refl refl refl refl refl refl refl;
    trans = λ {s} {t} {u} h k. λ e. let a = h e in steady_on s t u a (k a.number);
    stops = λ s. tt;
    stopped = λ h k. tt;
    fuel = λ s n. same_as s (record s { fuel = s.fuel - n }) refl refl refl refl refl refl refl refl refl;
    told = λ s e h. told_on s (record s { happened = s.happened ++ e ∷ [] }) e refl refl refl refl refl refl refl refl refl (plain_line (names_in s.known) s.mails e (of_none e h));
    activations = λ s. same_as s (record s { activations = suc s.activations }) refl refl refl refl refl refl refl refl refl;
    thing = λ s t. same_as s (record s { things = s.things ++ t ∷ [] }) refl refl refl refl refl refl refl refl refl;
    killed = λ s n. same_as s (record s { things = change dead n s.things }) refl refl refl refl refl refl refl refl refl;
    slot = λ s c. same_as s (record s { slots = s.slots ++ c ∷ [] }) refl refl refl refl refl refl refl refl refl;
    written = λ s n y. same_as s (record s { slots = change (holding y) n s.slots }) refl refl refl refl refl refl refl refl refl;
    list = λ s vs. same_as s (record s { lists = s.lists ++ vs ∷ [] }) refl refl refl refl refl refl refl refl refl;
  }

  -- in a state of that vat
  pub here : {A : Type 0} (s : Vat Name) (d : Done Name A) → (s.number ≡ v → Ends Any R s d) → Ends Any R s d
  here s (Stops c t) f = tt
  here s other f = λ e. f e e

  pub asking_tell : (e : Happened Name) → IsOfNone e → Leads Any R (tell e)
  unfolding tell
  asking_tell e h = record { after = λ s. told_on s (record s { happened = s.happened ++ e ∷ [] }) e refl refl refl refl refl refl refl refl refl (plain_line (names_in s.known) s.mails e h) }

  pub asking_lost : (m : Name) → Leads Any R (tell (Lost m))
  asking_lost m = asking_tell (Lost m) tt

  pub asking_posted : (w : ℕ) (m : Name) → Leads Any R (tell (Posted w m))
  asking_posted w m = asking_tell (Posted w m) tt

  pub asking_settles : (p : Name) (y : Value Name) → Leads Any R (tell (Settles p y))
  asking_settles p y = asking_tell (Settles p y) tt

  pub asking_waits : (p q : Name) → Leads Any R (tell (Waits p q))
  asking_waits p q = asking_tell (Waits p q) tt

  pub asking_views : (p q : Name) → Leads Any R (tell (Views p q))
  asking_views p q = asking_tell (Views p q) tt

  pub asking_list : (k : ℕ) (vs : List (Value Name)) → Leads Any R (tell (ListCame k vs))
  asking_list k vs = asking_tell (ListCame k vs) tt

  pub asking_enqueue : (m : Message Name) → Leads Any R (enqueue m)
  unfolding enqueue
  asking_enqueue m = record { after = λ s. same_as s (record s { queue = s.queue ++ m ∷ [] }) refl refl refl refl refl refl refl refl refl }

  more_in : (h w : ℕ) (ws : List ℕ) → is_in h ws ≡ true → is_in h (ws ++ w ∷ []) ≡ true
  unfolding is_in
  more_in h w [] e = cc
  more_in h w (x ∷ ws) e = either (h == x) (more_in h w ws) e
    where
      either : (b : Bool) → (is_in h ws ≡ true → is_in h (ws ++ w ∷ []) ≡ true) → elim b [ true ↦ true | false ↦ is_in h ws ] ≡ true → elim b [ true ↦ true | false ↦ is_in h (ws ++ w ∷ []) ] ≡ true
      either true f e = refl
      either false f e = f e

  pub asking_mark : (w : ℕ) → Leads Any R (mark w)
  unfolding mark
  asking_mark w = record { after = λ s i. let t : Vat Name = record s { noticed = s.noticed ++ w ∷ [] } in record { number = i; come = none_come s t refl; mails = none_mailed v s t refl refl; puts = λ p j. j; lines = λ e j. j; given = none_given s t refl; noticed = λ h j. more_in h w s.noticed j; fits = λ f. f; answers = λ f. f; draws = λ d. d } }

  -- a gift that was opened keeps its name and its number
  opened_either : (b : Bool) (ns : List Name) (g : GiftEntry Name) (gs hs : List (GiftEntry Name)) → GiftFits v ns g → AllOf (GiftFits v ns) gs → AllOf (GiftFits v ns) hs → AllOf (GiftFits v ns) (elim b [ true ↦ record g { opened = true } ∷ gs | false ↦ g ∷ hs ])
  opened_either true ns g gs hs h i j = (h, i)
  opened_either false ns g gs hs h i j = (h, j)

  opened_fits : (ns : List Name) (p i : ℕ) (gs : List (GiftEntry Name)) → AllOf (GiftFits v ns) gs → AllOf (GiftFits v ns) (with_opened p i gs)
  unfolding with_opened
  opened_fits ns p i [] h = tt
  opened_fits ns p i (g ∷ gs) h = opened_either (is_gift p i g) ns g gs (with_opened p i gs) h.0 h.1 (opened_fits ns p i gs h.1)

  opened_names : (p i : ℕ) (gs : List (GiftEntry Name)) → gift_names (with_opened p i gs) ≡ gift_names gs
  unfolding with_opened
  opened_names p i [] = refl
  opened_names p i (g ∷ gs) = either (is_gift p i g) (opened_names p i gs)
    where
      either : (b : Bool) → gift_names (with_opened p i gs) ≡ gift_names gs → gift_names (elim b [ true ↦ record g { opened = true } ∷ gs | false ↦ g ∷ with_opened p i gs ]) ≡ gift_names (g ∷ gs)
      either true e = refl
      either false e = ap (λ ns. g.name ∷ ns) e

  pub asking_open : (p i : ℕ) → Leads Any R (open_gift {N = Name} p i)
  unfolding open_gift
  asking_open p i = record { after = λ s e. let t : Vat Name = record s { gifts = with_opened p i s.gifts } in record { number = e; come = none_come s t refl; mails = none_mailed v s t refl refl; puts = λ q j. j; lines = λ x j. j; given = ([], opened_names p i s.gifts ∙ sym (append-nil (gift_names s.gifts))); noticed = λ h j. j; fits = λ f. (opened_fits (names_in s.known) p i s.gifts f.0, f.1); answers = λ f. f; draws = λ d. d } }

  -- the next word is the next of the stream, and none that was drawn
  draws_after : (s : Vat Name) (w : ℕ) (o : Option ℕ) → w ≡ P.word (length s.drawn) → drawn_at zero w s.drawn ≡ o → Ends Any R s (draws w o s)
  unfolding draws
  draws_after s w (Some i) e f = tt
  draws_after s w None e f = λ i. let t : Vat Name = record s { drawn = s.drawn ++ w ∷ [] } in record { number = i; come = none_come s t refl; mails = none_mailed v s t refl refl; puts = λ p j. j; lines = λ x j. j; given = none_given s t refl; noticed = λ h j. j; fits = λ k. k; answers = λ k. k; draws = λ d. drawn_end P.word s.drawn w e f d }

  -- a note is put of which it is known that what it asks for is known
  pub put_on : (s t : Vat Name) (w : ℕ) (n : Note Name) → t.number ≡ s.number → names_in t.known ≡ names_in s.known → t.gifts ≡ s.gifts → t.outbox ≡ s.outbox ++ record { to = w; note = n } ∷ [] → t.noticed ≡ s.noticed → t.drawn ≡ s.drawn → t.messages ≡ s.messages → t.mails ≡ s.mails → t.happened ≡ s.happened → AskFits (names_in s.known) w n → Proper v w n → R s t
  put_on s t w n a b c d e z m l x k q = λ i. record {
    number = a ∙ i;
    come = none_come s t b;
    mails = none_mailed v s t m l;
    puts = λ p j. rw (sym d) at (among_more p s.outbox (record { to = w; note = n }) j);
    lines = λ y j. rw (sym x) at j;
    given = none_given s t c;
    noticed = λ h j. rw (sym e) at j;
    fits = λ f. rw (sym b, sym c, sym d) at (put_fits f);
    answers = λ f. rw (sym b, sym l, sym x) at f;
    draws = λ f. rw (sym z) at f;
  }
    where
      put_fits : Fit v (names_in s.known) s.gifts s.outbox → Fit v (names_in s.known) s.gifts (s.outbox ++ record { to = w; note = n } ∷ [])
      put_fits f = (f.0, all_end (PutFits v (names_in s.known)) s.outbox (record { to = w; note = n }) f.1 (k, q))

  pub asking_settled : (w : ℕ) (n : Name) (y : Passed Name) → Listless y → Leads Any R (send_out w (SettledTo n y))
  unfolding send_out
  asking_settled w n y q = record { after = λ s. put_on s (record s { outbox = s.outbox ++ record { to = w; note = SettledTo n y } ∷ [] }) w (SettledTo n y) refl refl refl refl refl refl refl refl refl tt q }

  pub asking_elsewhere : (w : ℕ) (n : Name) (c : ℕ) → Leads Any R (send_out w (Elsewhere n c))
  unfolding send_out
  asking_elsewhere w n c = record { after = λ s. put_on s (record s { outbox = s.outbox ++ record { to = w; note = Elsewhere n c } ∷ [] }) w (Elsewhere n c) refl refl refl refl refl refl refl refl refl tt tt }

  pub asking_opening : (w i : ℕ) (n : Name) → Leads Any R (send_out w (Open i n))
  unfolding send_out
  asking_opening w i n = record { after = λ s. put_on s (record s { outbox = s.outbox ++ record { to = w; note = Open i n } ∷ [] }) w (Open i n) refl refl refl refl refl refl refl refl refl tt tt }

  pub asking_shorten : (w : ℕ) (n : Name) (c i : ℕ) → ((w ≡ v → ⊥) → IsEventual n) → Leads Any R (send_out w (Shorten n c i))
  unfolding send_out
  asking_shorten w n c i f = record { after = λ s. put_on s (record s { outbox = s.outbox ++ record { to = w; note = Shorten n c i } ∷ [] }) w (Shorten n c i) refl refl refl refl refl refl refl refl refl tt f }

  grown_come : (s t : Vat Name) (n : Name) → names_in t.known ≡ names_in s.known ++ n ∷ [] → Comes v P s t n → (ns : List Name) × (names_in t.known ≡ names_in s.known ++ ns) × AllOf (Comes v P s t) ns
  grown_come s t n e k = (n ∷ [], e, (k, tt))

  grown_fits : (s : Vat Name) (n : Name) → Fit v (names_in s.known) s.gifts s.outbox → Fit v (names_in s.known ++ n ∷ []) s.gifts s.outbox
  grown_fits s n f = fit_up v (names_in s.known) (names_in s.known ++ n ∷ []) (λ m j. among_more m (names_in s.known) n j) s.gifts s.outbox f

  -- a name comes to be known, as the last
  pub grown : (s t : Vat Name) (n : Name) → t.number ≡ s.number → names_in t.known ≡ names_in s.known ++ n ∷ [] → t.gifts ≡ s.gifts → t.outbox ≡ s.outbox → t.noticed ≡ s.noticed → t.drawn ≡ s.drawn → t.messages ≡ s.messages → t.mails ≡ s.mails → t.happened ≡ s.happened → Comes v P s t n → R s t
  grown s t n a b c d e z m l x k = λ i. record {
    number = a ∙ i;
    come = grown_come s t n b k;
    mails = none_mailed v s t m l;
    puts = λ p j. rw (sym d) at j;
    lines = λ y j. rw (sym x) at j;
    given = none_given s t c;
    noticed = λ h j. rw (sym e) at j;
    fits = λ f. rw (sym b, sym c, sym d) at (grown_fits s n f);
    answers = λ f. rw (sym b, sym l, sym x) at (all_map (line_up (names_in s.known) s.mails (names_in s.known ++ n ∷ []) s.mails (λ y j. among_more y (names_in s.known) n j) (λ y j. j)) s.happened f);
    draws = λ f. rw (sym z) at f;
  }

  -- a new message, with its line and its answer
  pub messaged : (s t : Vat Name) (n : Name) (x : Happened Name) → t.number ≡ s.number → names_in t.known ≡ names_in s.known ++ n ∷ [] → t.gifts ≡ s.gifts → t.outbox ≡ s.outbox → t.noticed ≡ s.noticed → t.drawn ≡ s.drawn → t.messages ≡ suc s.messages → t.mails ≡ s.mails ++ Sent (record { sender = v; number = s.messages }) ∷ [] → t.happened ≡ s.happened ++ x ∷ []
      → LineFits (names_in s.known ++ n ∷ []) (s.mails ++ Sent (record { sender = v; number = s.messages }) ∷ []) x → Comes v P s t n → R s t
  messaged s t n x a b c d e z m l q k o = λ i. record {
    number = a ∙ i;
    come = grown_come s t n b o;
    mails = one_mailed v s t m l;
    puts = λ p j. rw (sym d) at j;
    lines = λ y j. rw (sym q) at (among_more y s.happened x j);
    given = none_given s t c;
    noticed = λ h j. rw (sym e) at j;
    fits = λ f. rw (sym b, sym c, sym d) at (grown_fits s n f);
    answers = λ f. rw (sym b, sym l, sym q) at (all_end (LineFits ns ms) s.happened x (all_map (line_up (names_in s.known) s.mails ns ms (λ y j. among_more y (names_in s.known) n j) (λ y j. among_more y s.mails (Sent (record { sender = v; number = s.messages })) j)) s.happened f) k);
    draws = λ f. rw (sym z) at f;
  }
    where
      ns : List Name
      ns = names_in s.known ++ n ∷ []

      ms : List Name
      ms = s.mails ++ Sent (record { sender = v; number = s.messages }) ∷ []

  -- a new message without an answer, with its line
  pub messaged_lone : (s t : Vat Name) (x : Happened Name) → t.number ≡ s.number → names_in t.known ≡ names_in s.known → t.gifts ≡ s.gifts → t.outbox ≡ s.outbox → t.noticed ≡ s.noticed → t.drawn ≡ s.drawn → t.messages ≡ suc s.messages → t.mails ≡ s.mails ++ Sent (record { sender = v; number = s.messages }) ∷ [] → t.happened ≡ s.happened ++ x ∷ []
      → LineFits (names_in s.known) (s.mails ++ Sent (record { sender = v; number = s.messages }) ∷ []) x → R s t
  messaged_lone s t x a b c d e z m l q k = λ i. record {
    number = a ∙ i;
    come = none_come s t b;
    mails = one_mailed v s t m l;
    puts = λ p j. rw (sym d) at j;
    lines = λ y j. rw (sym q) at (among_more y s.happened x j);
    given = none_given s t c;
    noticed = λ h j. rw (sym e) at j;
    fits = λ f. rw (sym b, sym c, sym d) at f;
    answers = λ f. rw (sym b, sym l, sym q) at (all_end (LineFits (names_in s.known) ms) s.happened x (all_map (line_up (names_in s.known) s.mails (names_in s.known) ms (λ y j. j) (λ y j. among_more y s.mails (Sent (record { sender = v; number = s.messages })) j)) s.happened f) k);
    draws = λ f. rw (sym z) at f;
  }
    where
      ms : List Name
      ms = s.mails ++ Sent (record { sender = v; number = s.messages }) ∷ []

  -- a gift of the vat's own
  pub gave : (s t : Vat Name) (g : GiftEntry Name) → t.number ≡ s.number → names_in t.known ≡ names_in s.known → t.gifts ≡ s.gifts ++ g ∷ [] → t.outbox ≡ s.outbox → t.noticed ≡ s.noticed → t.drawn ≡ s.drawn → t.messages ≡ s.messages → t.mails ≡ s.mails → t.happened ≡ s.happened → GiftFits v (names_in s.known) g → R s t
  gave s t g a b c d e z m l x k = λ i. record {
    number = a ∙ i;
    come = none_come s t b;
    mails = none_mailed v s t m l;
    puts = λ p j. rw (sym d) at j;
    lines = λ y j. rw (sym x) at j;
    given = (g.name ∷ [], ap gift_names c ∙ gift_end s.gifts g);
    noticed = λ h j. rw (sym e) at j;
    fits = λ f. rw (sym b, sym c, sym d) at (gift_fits f);
    answers = λ f. rw (sym b, sym l, sym x) at f;
    draws = λ f. rw (sym z) at f;
  }
    where
      gift_fits : Fit v (names_in s.known) s.gifts s.outbox → Fit v (names_in s.known) (s.gifts ++ g ∷ []) s.outbox
      gift_fits f = (all_end (GiftFits v (names_in s.known)) s.gifts g f.0 k, f.1)

  abbrev K : Naming Name Name
  K = naming P.word v

  pub asking_draw : Leads Any R (draw K)
  unfolding draw naming
  asking_draw = record { after = λ s. draws_after s (P.word (length s.drawn)) (drawn_at zero (P.word (length s.drawn)) s.drawn) refl refl }

  pub asking_alter : (c : Change Name) (n : Name) → Leads Any R (alter K c n)
  unfolding alter
  asking_alter c n = record { after = λ s. same_as s (record s { known = with_change K c n s.known }) refl (names_change K c n s.known) refl refl refl refl refl refl refl }

pub ruleset asking = (asking_lost, asking_posted, asking_settles, asking_waits, asking_views, asking_list, asking_enqueue, asking_mark, asking_open, asking_elsewhere, asking_opening, asking_draw, asking_alter)

-- ---- a name that is asked for once it is known

-- all but the name are accounted for, and now the name is too
abbrev pub Owed : ℕ → Telling → Name → Vat Name → Vat Name → Type 0
Owed v P n s t = s.number ≡ v → Steady v (Or P n) s t × Comes v P s t n

module _ (v : ℕ) (P : Telling) (n : Name) where
  account : (s t : Vat Name) (m : Name) → Comes v P s t n → Comes v (Or P n) s t m → Comes v P s t m
  account s t m c (inl e) = inl e
  account s t m c (inr (inl a)) = inr (inl a)
  account s t m c (inr (inr (inl e))) = inr (inr (inl e))
  account s t m c (inr (inr (inr (inl p)))) = inr (inr (inr p))
  account s t m c (inr (inr (inr (inr e)))) = rw (sym e) at c

  pub accounted : (s t : Vat Name) → Steady v (Or P n) s t → Comes v P s t n → Steady v P s t
  accounted s t h c = let a = h.come in record { number = h.number; come = (a.0, a.1, all_map (λ m d. account s t m c d) a.0 a.2); mails = h.mails; puts = h.puts; lines = h.lines; given = h.given; noticed = h.noticed; fits = h.fits; answers = h.answers; draws = h.draws }

  paid : (s t u : Vat Name) → Asking v (Or P n) s t → Owed v P n t u → Asking v P s u
  paid s t u h k = λ e. let a = h e in let b = k a.number in accounted s u (steady_on v (Or P n) s t u a b.0) (comes_since v P (Or P n) s t u a n b.1)

  paid_on : (s t u x : Vat Name) → Asking v (Or P n) s t → Owed v P n t u → Asking v (Or P n) u x → Asking v P s x
  paid_on s t u x h k l = λ e. let a = h e in let b = k a.number in let c = l b.0.number in accounted s x (steady_on v (Or P n) s u x (steady_on v (Or P n) s t u a b.0) c) (comes_on v P (Or P n) s u x c n (comes_since v P (Or P n) s t u a n b.1))

  all_paid : {A : Type 0} (s t u : Vat Name) → Asking v (Or P n) s t → Owed v P n t u → (d : Done Name A) → Ends Any (Asking v (Or P n)) u d → Ends Any (Asking v P) s d
  all_paid s t u h k (Gives a x) l = paid_on s t u x h k l
  all_paid s t u h k (Throws p x) l = paid_on s t u x h k l
  all_paid s t u h k (Ejects m y x) l = paid_on s t u x h k l
  all_paid s t u h k (Stops c x) l = tt

  -- what makes the name known, what asks for it, and what follows
  pub asked_then : {A B : Type 0} (s t : Vat Name) → Asking v (Or P n) s t → (d : Done Name A) → Ends Any (Owed v P n) t d → (f : A → Act Name B) → ((a : A) → Leads Any (Asking v (Or P n)) (f a)) → Ends Any (Asking v P) s (and_then d f)
  unfolding and_then
  asked_then s t h (Gives a u) k f l = all_paid s t u h k (f a u) ((l a).after u)
  asked_then s t h (Throws p u) k f l = paid s t u h k
  asked_then s t h (Ejects m y u) k f l = paid s t u h k
  asked_then s t h (Stops c u) k f l = tt
