-- What a vat draws and puts: the gifts that pass in its notes are under new words, each once, and its notes and the gifts that it hosts tell of the provider of each word.
use Rattle.std.proofs.Common.{◌≡◌, ℕ, zero, ◌+◌, ◌≤◌, Bool, true, false, List, [], ◌∷◌, ◌++◌, refl, sym, ap, ◌∙◌, arith, ◌==◌, Option, Some, None, ◌⊎◌, inl, inr}
use Rattle.std.proofs.lemmas.Bool.{eqb-true, eq-eqb}
use Rattle.def_machine.specs.Values.{Name, Coming, Mailing, Naming, word_of, provider_of}
use Rattle.def_machine.specs.State.{Message, Known, Change, Passed, Passeds, Plain, AGift, Many, NoMore, More, Note, Deliver, Open, Ask, SettledTo, Elsewhere, Shorten, Put, GiftEntry, Happened, Vat, tell, enqueue, send_out, with_opened, open_gift, is_gift, mark, alter, come, mail, new_message, new_lone_message, for_some, is_in, drawn_at, Act}
use Rattle.def_machine.specs.Arrive.{gift_at}
use Rattle.law_machine.proofs.Machine.Keeps.{Keeps}
use Rattle.law_fate.specs.Name.Names.{IsAmong}
use Rattle.law_fate.proofs.Name.Among.{among_more, drawn_last, not_drawn, key_not_drawn}
use Rattle.law_fate.specs.Fates.Fate.{once}
use Rattle.law_fate.specs.Fates.Lasting.{Each}
use Rattle.law_fate.proofs.Fates.PlacesLast.{each_end}
use Rattle.law_fate.proofs.Fates.Spares.{IsSpared, spares}
use Rattle.law_reference.specs.Reference.Standing.{IsEntered, DrawsDiffer}
use Rattle.law_reference.proofs.Reference.Found.{entered_found}
use Rattle.law_reference.specs.Reference.GiftPassing.{gifts_in_note, drawn_of, IsProvidedBy, PassesFrom, AllPassFrom, Provides, IsProvided}

-- ---- draws

true_false : true ≡ false → ⊥
true_false e = cc

-- what stands among those stands among these
abbrev pub AllStay : List ℕ → List ℕ → Type 0
AllStay ds es = (x : ℕ) → IsAmong x ds → IsAmong x es

pub stay_end : (ds : List ℕ) (w : ℕ) → AllStay ds (ds ++ w ∷ [])
stay_end ds w x a = among_more x ds w a

pub in_among : (x : ℕ) (ds : List ℕ) → is_in x ds ≡ true → IsAmong x ds
unfolding is_in
in_among x [] e = cc
in_among x (d ∷ ds) e = go (x == d) refl (in_among x ds) e
  where
    go : (b : Bool) → (x == d) ≡ b → (is_in x ds ≡ true → IsAmong x ds) → ◌≡◌ {A = Bool} (elim b [ true ↦ true | false ↦ is_in x ds ]) true → (x ≡ d) ⊎ IsAmong x ds
    go true i rest f = inl (eqb-true x d i)
    go false i rest f = inr (rest f)

pub among_in : (x : ℕ) (ds : List ℕ) → IsAmong x ds → is_in x ds ≡ true
unfolding is_in
among_in x [] a = absurd a
among_in x (d ∷ ds) a = go (x == d) refl (among_in x ds) a
  where
    go : (b : Bool) → (x == d) ≡ b → (IsAmong x ds → is_in x ds ≡ true) → (x ≡ d) ⊎ IsAmong x ds → ◌≡◌ {A = Bool} (elim b [ true ↦ true | false ↦ is_in x ds ]) true
    go true i rest f = refl
    go false i rest (inl e) = absurd (true_false (sym (eq-eqb x d e) ∙ i))
    go false i rest (inr f) = rest f

more_or : (b c : Bool) → (b ≡ true → c ≡ true) → once b ≤ once c
unfolding once
more_or true true h = omega arith
more_or false c h = omega arith
more_or true false h = absurd (true_false (sym (h refl)))

pub drawn_more : (i : ℕ) (ds es : List ℕ) → AllStay ds es → drawn_of i ds ≤ drawn_of i es
unfolding drawn_of
drawn_more i ds es h = more_or (is_in (word_of i) ds) (is_in (word_of i) es) (λ e. among_in (word_of i) es (h (word_of i) (in_among (word_of i) ds e)))

next_or : (a b c : Bool) → (a ≡ true → b ≡ false) → (a ≡ true → c ≡ true) → (b ≡ true → c ≡ true) → once a + once b ≤ once c
unfolding once
next_or false false c e f g = omega arith
next_or false true true e f g = omega arith
next_or false true false e f g = absurd (true_false (sym (g refl)))
next_or true true c e f g = absurd (true_false (e refl))
next_or true false true e f g = omega arith
next_or true false false e f g = absurd (true_false (sym (f refl)))

-- a gift under a new word passes once
pub next_draw : (i k w : ℕ) (ds : List ℕ) → word_of k ≡ w → drawn_at zero w ds ≡ None → once (i == k) + drawn_of i ds ≤ drawn_of i (ds ++ w ∷ [])
unfolding drawn_of
next_draw i k w ds e new = next_or (i == k) (is_in (word_of i) ds) (is_in (word_of i) (ds ++ w ∷ [])) (λ f. absent (is_in (word_of i) ds) refl (eqb-true i k f)) (λ f. among_in (word_of i) (ds ++ w ∷ []) (drawn_last ds w i (ap word_of (eqb-true i k f) ∙ e)))
    (λ f. among_in (word_of i) (ds ++ w ∷ []) (stay_end ds w (word_of i) (in_among (word_of i) ds f)))
  where
    absent : (b : Bool) → is_in (word_of i) ds ≡ b → i ≡ k → b ≡ false
    absent true f g = absurd (key_not_drawn ds w i new (ap word_of g ∙ e) (in_among (word_of i) ds f))
    absent false f g = refl

-- ---- what is put

unfoldable pub gifts_out : ℕ → List (Put Name) → ℕ
gifts_out i [] = 0
gifts_out i (p ∷ ps) = gifts_in_note i p.note + gifts_out i ps

pub out_end : (i : ℕ) (ps : List (Put Name)) (p : Put Name) → gifts_out i (ps ++ p ∷ []) ≡ gifts_out i ps + gifts_in_note i p.note
unfolding gifts_out
out_end i [] p = omega arith
out_end i (q ∷ ps) p = let rest = out_end i ps p in omega arith

pub each_up : {A : Type 0} (P Q : A → Type 0) → ((x : A) → P x → Q x) → (xs : List A) → Each P xs → Each Q xs
each_up P Q f [] h = tt
each_up P Q f (x ∷ xs) h = (f x h.0, each_up P Q f xs h.1)

-- ---- what is told of providers, once more draws are made

module _ (P Q : ℕ → ℕ) (d e : List ℕ) (up : (i p : ℕ) → IsProvidedBy P d i p → IsProvidedBy Q e i p) where
  mutual
    pub passes_up : (v w : ℕ) (y : Passed Name) → PassesFrom P d v w y → PassesFrom Q e v w y
    passes_up v w (Plain y) h = tt
    passes_up v w (AGift a i) h = (up i v h.0, h.1, h.2)
    passes_up v w (Many ys) h = all_up v w ys h

    pub all_up : (v w : ℕ) (ys : Passeds Name) → AllPassFrom P d v w ys → AllPassFrom Q e v w ys
    all_up v w NoMore h = tt
    all_up v w (More y ys) h = (passes_up v w y h.0, all_up v w ys h.1)

  pub provides_up : (v w : ℕ) (n : Note Name) → Provides P d v w n → Provides Q e v w n
  provides_up v w (Deliver m n verb ys) h = all_up v w ys h
  provides_up v w (Open i n) h = up i v h
  provides_up v w (Ask p i n) h = up i p h
  provides_up v w (SettledTo n y) h = passes_up v w y h
  provides_up v w (Elsewhere n c) h = tt
  provides_up v w (Shorten n c i) h = up i w h

pub drawn_up : (F : ℕ → ℕ) (d e : List ℕ) → AllStay d e → (i p : ℕ) → IsProvidedBy F d i p → IsProvidedBy F e i p
drawn_up F d e l i p h = (l (word_of i) h.0, h.1, h.2)

opened_or : (F : ℕ → ℕ) (d : List ℕ) (b : Bool) (g : GiftEntry Name) (gs hs : List (GiftEntry Name)) → IsProvided F d g → Each (IsProvided F d) gs → Each (IsProvided F d) hs → Each (IsProvided F d) (elim b [ true ↦ record g { opened = true } ∷ gs | false ↦ g ∷ hs ])
opened_or F d true g gs hs h i j = (h, i)
opened_or F d false g gs hs h i j = (h, j)

opened_provided : (F : ℕ → ℕ) (d : List ℕ) (p i : ℕ) (gs : List (GiftEntry Name)) → Each (IsProvided F d) gs → Each (IsProvided F d) (with_opened p i gs)
unfolding with_opened
opened_provided F d p i [] h = tt
opened_provided F d p i (g ∷ gs) h = opened_or F d (is_gift p i g) g gs (with_opened p i gs) h.0 h.1 (opened_provided F d p i gs h.1)

-- ---- the draws of the gifts at a vat

entered_or : (j : ℕ) (b : Bool) (g : GiftEntry Name) (gs hs : List (GiftEntry Name)) → (IsEntered j hs → IsEntered j gs) → IsEntered j (elim b [ true ↦ record g { opened = true } ∷ gs | false ↦ g ∷ hs ]) → IsEntered j (g ∷ gs)
entered_or j true g gs hs f (inl e) = inl e
entered_or j true g gs hs f (inr a) = inr a
entered_or j false g gs hs f (inl e) = inl e
entered_or j false g gs hs f (inr a) = inr (f a)

entered_opened : (j p i : ℕ) (gs : List (GiftEntry Name)) → IsEntered j (with_opened p i gs) → IsEntered j gs
unfolding with_opened
entered_opened j p i [] h = h
entered_opened j p i (g ∷ gs) h = entered_or j (is_gift p i g) g gs (with_opened p i gs) (entered_opened j p i gs) h

differ_or : (b : Bool) (g : GiftEntry Name) (gs hs : List (GiftEntry Name)) → DrawsDiffer (g ∷ gs) → ((j : ℕ) → IsEntered j hs → IsEntered j gs) → DrawsDiffer hs → DrawsDiffer (elim b [ true ↦ record g { opened = true } ∷ gs | false ↦ g ∷ hs ])
differ_or true g gs hs h f k = h
differ_or false g gs hs h f k = (λ e. h.0 (f g.number e), k)

differ_opened : (p i : ℕ) (gs : List (GiftEntry Name)) → DrawsDiffer gs → DrawsDiffer (with_opened p i gs)
unfolding with_opened
differ_opened p i [] h = tt
differ_opened p i (g ∷ gs) h = differ_or (is_gift p i g) g gs (with_opened p i gs) h (λ j. entered_opened j p i gs) (differ_opened p i gs h.1)

entered_end : (j : ℕ) (gs : List (GiftEntry Name)) (g : GiftEntry Name) → IsEntered j (gs ++ g ∷ []) → IsEntered j gs ⊎ (g.number ≡ j)
entered_end j [] g (inl e) = inr e
entered_end j [] g (inr a) = absurd a
entered_end j (x ∷ gs) g (inl e) = inl (inl e)
entered_end j (x ∷ gs) g (inr a) = go (entered_end j gs g a)
  where
    go : IsEntered j gs ⊎ (g.number ≡ j) → IsEntered j (x ∷ gs) ⊎ (g.number ≡ j)
    go (inl b) = inl (inr b)
    go (inr e) = inr e

pub differ_end : (gs : List (GiftEntry Name)) (g : GiftEntry Name) → (IsEntered g.number gs → ⊥) → DrawsDiffer gs → DrawsDiffer (gs ++ g ∷ [])
differ_end [] g n h = (λ a. a, tt)
differ_end (x ∷ gs) g n h = (λ a. no (entered_end x.number gs g a), differ_end gs g (λ a. n (inr a)) h.1)
  where
    no : IsEntered x.number gs ⊎ (g.number ≡ x.number) → ⊥
    no (inl a) = h.0 a
    no (inr e) = n (inl (sym e))

-- as vat v in a step before which d0 were drawn, where F tells the provider of each word
module _ (v : ℕ) (d0 : List ℕ) (F : ℕ → ℕ) where
  abbrev pub PutTells : List ℕ → Put Name → Type 0
  PutTells d p = Provides F d v p.to p.note

  -- From one number, words, outbox and list of gifts to another: each new word passes once at most, in what was put or in what is in hand (c), of which Ok holds.
  pub record PutsOn (c : ℕ → ℕ) (Ok : List ℕ → Type 0) (n : ℕ) (d : List ℕ) (os : List (Put Name)) (gs : List (GiftEntry Name)) (n' : ℕ) (d' : List ℕ) (os' : List (Put Name)) (gs' : List (GiftEntry Name)) : Type 0 where
    pub number : n ≡ v → n' ≡ v
    pub drawn : AllStay d d'
    pub count : (i : ℕ) → gifts_out i os' + c i + drawn_of i d ≤ gifts_out i os + drawn_of i d'
    pub outs : n ≡ v → AllStay d0 d → Each (PutTells d) os → Each (PutTells d') os'
    pub gifts : AllStay d0 d → Each (IsProvided F d) gs → Each (IsProvided F d') gs'
    pub once : AllStay d0 d → Each (IsProvided F d) gs → DrawsDiffer gs → DrawsDiffer gs'
    pub ok : n ≡ v → AllStay d0 d → Ok d'

  abbrev pub Puts : (ℕ → ℕ) → (List ℕ → Type 0) → Vat Name → Vat Name → Type 0
  Puts c Ok s t = PutsOn c Ok s.number s.drawn s.outbox s.gifts t.number t.drawn t.outbox t.gifts

  abbrev pub Nothing : List ℕ → Type 0
  Nothing d = Unit {0}

  -- with nothing in hand
  pub record Fair (s t : Vat Name) : Type 0 where
    pub puts : Puts (λ i. 0) Nothing s t

  pub same : (s : Vat Name) → Puts (λ i. 0) Nothing s s
  same s = record { number = λ e. e; drawn = λ x a. a; count = λ i. omega arith; outs = λ e l o. o; gifts = λ l g. g; once = λ l g o. o; ok = λ e l. tt }

  pub then_puts : (c c' : ℕ → ℕ) (Ok Ok' : List ℕ → Type 0) (s t u : Vat Name) → ((a b : List ℕ) → AllStay a b → Ok a → Ok b) → Puts c Ok s t → Puts c' Ok' t u → Puts (λ i. c i + c' i) (λ d. Ok d × Ok' d) s u
  then_puts c c' Ok Ok' s t u on h k = record {
    number = λ e. k.number (h.number e);
    drawn = λ x a. k.drawn x (h.drawn x a);
    count = λ i. let a = h.count i in let b = k.count i in omega arith;
    outs = λ e l o. k.outs (h.number e) (λ x a. h.drawn x (l x a)) (h.outs e l o);
    gifts = λ l g. k.gifts (λ x a. h.drawn x (l x a)) (h.gifts l g);
    once = λ l g o. k.once (λ x a. h.drawn x (l x a)) (h.gifts l g) (h.once l g o);
    ok = λ e l. (on t.drawn u.drawn k.drawn (h.ok e l), k.ok (h.number e) (λ x a. h.drawn x (l x a)));
  }

  -- with nothing in hand before, or after
  pub first_fair : (c : ℕ → ℕ) (Ok : List ℕ → Type 0) (s t u : Vat Name) → Fair s t → Puts c Ok t u → Puts c Ok s u
  first_fair c Ok s t u g k = let h = g.puts in record {
    number = λ e. k.number (h.number e);
    drawn = λ x a. k.drawn x (h.drawn x a);
    count = λ i. let a = h.count i in let b = k.count i in omega arith;
    outs = λ e l o. k.outs (h.number e) (λ x a. h.drawn x (l x a)) (h.outs e l o);
    gifts = λ l o. k.gifts (λ x a. h.drawn x (l x a)) (h.gifts l o);
    once = λ l x o. k.once (λ y a. h.drawn y (l y a)) (h.gifts l x) (h.once l x o);
    ok = λ e l. k.ok (h.number e) (λ x a. h.drawn x (l x a));
  }

  pub less_fair : (c : ℕ → ℕ) (Ok : List ℕ → Type 0) (s t : Vat Name) → Puts c Ok s t → Fair s t
  less_fair c Ok s t h = record { puts = record { number = h.number; drawn = h.drawn; count = λ i. let a = h.count i in omega arith; outs = h.outs; gifts = h.gifts; once = h.once; ok = λ e l. tt } }

  pub fair_trans : {s t u : Vat Name} → Fair s t → Fair t u → Fair s u
  fair_trans {s = s} {t = t} {u = u} h k = record { puts = first_fair (λ i. 0) Nothing s t u h k.puts }

  pub spared : IsSpared Fair
  spared = record {
    same = λ s. record { puts = same s };
    trans = fair_trans;
    fuel = λ s n. record { puts = same s };
    told = λ s e h. record { puts = same s };
    activations = λ s. record { puts = same s };
    thing = λ s t. record { puts = same s };
    killed = λ s n. record { puts = same s };
    slot = λ s c. record { puts = same s };
    written = λ s n y. record { puts = same s };
    list = λ s vs. record { puts = same s };
  }

  pub fair_tell : (e : Happened Name) → Keeps Fair (tell e)
  unfolding tell
  fair_tell e = record { after = λ s. record { puts = same s } }

  pub fair_mark : (w : ℕ) → Keeps {N = Name} Fair (mark w)
  unfolding mark
  fair_mark w = record { after = λ s. record { puts = same s } }

  pub fair_enqueue : (m : Message Name) → Keeps Fair (enqueue m)
  unfolding enqueue
  fair_enqueue m = record { after = λ s. record { puts = same s } }

  pub fair_open : (p i : ℕ) → Keeps {N = Name} Fair (open_gift p i)
  unfolding open_gift
  fair_open p i = record { after = λ s. record { puts = record { number = λ e. e; drawn = λ x a. a; count = λ j. omega arith; outs = λ e l o. o; gifts = λ l g. opened_provided F s.drawn p i s.gifts g; once = λ l g o. differ_opened p i s.gifts o; ok = λ e l. tt } } }

  -- a gift comes to be at its host, where it is absent
  pub gift_after : (s : Vat Name) (k : Known Name) (n : Name) (p i : ℕ) → IsProvidedBy F d0 i p → gift_at p i s.gifts ≡ None → Puts (λ j. 0) Nothing s (record s { known = s.known ++ k ∷ []; gifts = s.gifts ++ record { name = n; provider = p; number = i; opened = false } ∷ [] })
  gift_after s k n p i h e = let g : GiftEntry Name = record { name = n; provider = p; number = i; opened = false } in record {
    number = λ e. e;
    drawn = λ x a. a;
    count = λ j. omega arith;
    outs = λ e l o. o;
    gifts = λ l x. each_end (IsProvided F s.drawn) s.gifts g x (drawn_up F d0 s.drawn l i p h);
    once = λ l x o. differ_end s.gifts g (λ a. entered_found F s.drawn p i s.gifts x a h.1 e) o;
    ok = λ e l. tt;
  }

  -- a note in which no gift passes
  pub out_after : (s : Vat Name) (w : ℕ) (n : Note Name) → ((i : ℕ) → gifts_in_note i n ≡ 0) → (AllStay d0 s.drawn → Provides F s.drawn v w n) → Puts (λ i. 0) Nothing s (record s { outbox = s.outbox ++ record { to = w; note = n } ∷ [] })
  out_after s w n none h = record {
    number = λ e. e;
    drawn = λ x a. a;
    count = λ i. let a = out_end i s.outbox (record { to = w; note = n }) in let b = none i in omega arith;
    outs = λ e l o. each_end (PutTells s.drawn) s.outbox (record { to = w; note = n }) o (h l);
    gifts = λ l g. g;
    once = λ l g o. o;
    ok = λ e l. tt;
  }

  pub fair_elsewhere : (w c : ℕ) (n : Name) → Keeps Fair (send_out w (Elsewhere n c))
  unfolding send_out gifts_in_note
  fair_elsewhere w c n = record { after = λ s. record { puts = out_after s w (Elsewhere n c) (λ i. refl) (λ l. tt) } }

  pub fair_ask : (w p i : ℕ) (n : Name) → IsProvidedBy F d0 i p → Keeps Fair (send_out w (Ask p i n))
  unfolding send_out gifts_in_note
  fair_ask w p i n h = record { after = λ s. record { puts = out_after s w (Ask p i n) (λ j. refl) (λ l. drawn_up F d0 s.drawn l i p h) } }

  pub fair_open_out : (w i : ℕ) (n : Name) → IsProvidedBy F d0 i v → Keeps Fair (send_out w (Open i n))
  unfolding send_out gifts_in_note
  fair_open_out w i n h = record { after = λ s. record { puts = out_after s w (Open i n) (λ j. refl) (λ l. drawn_up F d0 s.drawn l i v h) } }

  -- a draw
  pub drawn_after : (s : Vat Name) (w : ℕ) → Puts (λ i. 0) Nothing s (record s { drawn = s.drawn ++ w ∷ [] })
  drawn_after s w = let l = stay_end s.drawn w in record {
    number = λ e. e;
    drawn = l;
    count = λ i. let a = drawn_more i s.drawn (s.drawn ++ w ∷ []) l in omega arith;
    outs = λ e k o. each_up (PutTells s.drawn) (PutTells (s.drawn ++ w ∷ [])) (λ p h. provides_up F F s.drawn (s.drawn ++ w ∷ []) (drawn_up F s.drawn (s.drawn ++ w ∷ []) l) v p.to p.note h) s.outbox o;
    gifts = λ k g. each_up (IsProvided F s.drawn) (IsProvided F (s.drawn ++ w ∷ [])) (λ x h. drawn_up F s.drawn (s.drawn ++ w ∷ []) l x.number x.provider h) s.gifts g;
    once = λ l g o. o;
    ok = λ e k. tt;
  }

  -- The key of a new word under provider q, where the words that were not drawn before are q's.
  pub key_provided : (q : ℕ) → ((x : ℕ) → (IsAmong x d0 → ⊥) → F x ≡ q) → (ds : List ℕ) (k w : ℕ) → AllStay d0 ds → drawn_at zero w ds ≡ None → word_of k ≡ w → provider_of k ≡ q → IsProvidedBy F (ds ++ w ∷ []) k q
  key_provided q fresh ds k w l new e p = (drawn_last ds w k e, ap F e ∙ fresh w (λ a. not_drawn zero w ds new (l w a)), p)

  module _ {W : Type 0} (K : Naming Name W) where
    pub fair_alter : (c : Change Name) (n : Name) → Keeps Fair (alter K c n)
    unfolding alter
    fair_alter c n = record { after = λ s. record { puts = same s } }

    pub fair_come : (c : Coming Name W) (h : ℕ) → Keeps Fair (come K c h)
    unfolding come
    fair_come c h = record { after = λ s. record { puts = same s } }

    pub fair_mail : (c : Mailing W) → Keeps Fair (mail K c)
    unfolding mail
    fair_mail c = record { after = λ s. record { puts = same s } }

    pub fair_message : (h : ℕ) → Keeps Fair (new_message K h)
    unfolding new_message
    fair_message h = record { after = λ s. record { puts = same s } }

    pub fair_lone_message : Keeps Fair (new_lone_message K)
    unfolding new_lone_message
    fair_lone_message = record { after = λ s. record { puts = same s } }

  pub fair_for_some : {B C : Type 0} (o : Option B) {f : B → Act Name C} {m : Act Name C} → ((b : B) → Keeps Fair (f b)) → Keeps Fair m → Keeps Fair (for_some o f m)
  unfolding for_some
  fair_for_some (Some b) h k = h b
  fair_for_some None h k = k

pub ruleset fair = (spares, fair_tell, fair_mark, fair_enqueue, fair_open, fair_elsewhere, fair_alter, fair_come, fair_mail, fair_message, fair_lone_message, fair_for_some)
