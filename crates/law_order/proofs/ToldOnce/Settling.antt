-- A vat is told once of each name that settles in a step: a relation that all changes keep, where a settling is one block.
use Rattle.std.proofs.Common.{◌≡◌, ℕ, suc, List, [], ◌∷◌, ◌++◌, Some, refl, sym, ap, subst, ◌∙◌, ◌⊎◌, inl, inr, append-nil, append_assoc}
use Rattle.def_machine.specs.Values.{Value, Name, Naming, under}
use Rattle.def_machine.specs.State.{Message, Standing, Unsettled, Settled, Known, Settle, Settles, Deliver, Ask, Shorten, Vat, Done, Gives, Throws, Ejects, Stops, Act, ◌>>◌, and_then, tell, alter, each, enqueue, with_change, changed, changed_to, unless_settled, begun}
use Rattle.def_machine.specs.Refs as refs
use Rattle.def_machine.specs.Refs.{entry_of, standing_of}
use Rattle.law_machine.specs.Machine.Laws.{SettledStays}
use Rattle.law_machine.specs.Machine.Steps.{After}
use Rattle.law_machine.proofs.Machine.StepLaws.{settled_entry, standing_found, entry_append, after_map}
use Rattle.law_fate.specs.Name.Names.{IsAmong, Once}
use Rattle.law_fate.proofs.Name.Facts.{all_end}
use Rattle.law_frame.proofs.Frame.Exported.{among_split}
use Rattle.law_reference.proofs.Reference.Entries.{changed_at}
use Rattle.law_order.proofs.Ordering.Moves.{Keeps, IsKept, keeps_bind, keeps_then, keeps_give}
use Rattle.law_order.proofs.Cuts.WholeWalk.{IsWalkedWhole}
use Rattle.law_frame.proofs.Steady.Again.{once_both}
use Rattle.law_order.specs.ToldOnce.Told.{with_news}
use Rattle.law_order.proofs.ToldOnce.Puts.{news_to}
use Rattle.law_order.proofs.ToldOnce.Telling as telling
use Rattle.law_order.proofs.ToldOnce.Telling.{from_after, ToldOf}

none_settled : (y : Value Name) → ◌≡◌ {A = Standing Name} Unsettled (Settled y) → ⊥
none_settled y e = cc

settles_now : (t : Standing Name) (k new : Known Name) → ((z : Value Name) → t ≡ Settled z → ⊥) → unless_settled t k new ≡ new
unfolding unless_settled
settles_now (Settled y) k new f = absurd (f y refl)
settles_now other k new f = refl

settles_to : (y : Value Name) (k : Known Name) → ((z : Value Name) → k.standing ≡ Settled z → ⊥) → (changed (Settle y) k).standing ≡ Settled y
unfolding changed changed_to
settles_to y k f = ap (λ (x : Known Name). x.standing) (settles_now k.standing k (changed_to (Settle y) k) f)

module _ (K : Naming Name Name) (v : ℕ) where
  abbrev Still : Vat Name → Vat Name → Type 0
  Still = telling.Still K v

  abbrev Distinct : Vat Name → Type 0
  Distinct = telling.Distinct K v

  abbrev SettledIn : Vat Name → Name → Type 0
  SettledIn = telling.IsSettledIn K v

  -- what v is told from s to t, each name once: names that had not settled in s, and have in t
  pub record News (s t : Vat Name) : Type 0 where
    pub names : List Name
    pub told : news_to v t.outbox ≡ news_to v s.outbox ++ names
    pub once : Once {A = Name} names
    pub fresh : (n : Name) → IsAmong n names → SettledIn s n → ⊥
    pub settled : (n : Name) → IsAmong n names → SettledIn t n

  pub record Tells (s t : Vat Name) : Type 0 where
    pub stays : SettledStays K s t
    pub distinct : Distinct s → Distinct t
    pub news : Distinct s → News s t

  later : (s t : Vat Name) → SettledStays K s t → (n : Name) → SettledIn s n → SettledIn t n
  later = telling.stays_settled K v

  pub still_tells : (s t : Vat Name) → Still s t → Tells s t
  still_tells s t h = record {
    stays = h.stays;
    distinct = h.distinct;
    news = λ d. record { names = []; told = h.told ∙ sym (append-nil (news_to v s.outbox)); once = tt; fresh = λ n a. absurd a; settled = λ n a. absurd a };
  }

  news_on : (s t u : Vat Name) → SettledStays K s t → SettledStays K t u → News s t → News t u → News s u
  news_on s t u i j a b = record {
    names = a.names ++ b.names;
    told = b.told ∙ ap (λ ns. ns ++ b.names) a.told ∙ append_assoc (news_to v s.outbox) a.names b.names;
    once = once_both a.names b.names a.once b.once (λ n x y. b.fresh n y (a.settled n x));
    fresh = λ n x. fresh n (among_split n a.names b.names x);
    settled = λ n x. settled n (among_split n a.names b.names x);
  }
    where
      fresh : (n : Name) → IsAmong n a.names ⊎ IsAmong n b.names → SettledIn s n → ⊥
      fresh n (inl x) k = a.fresh n x k
      fresh n (inr x) k = b.fresh n x (later s t i n k)

      settled : (n : Name) → IsAmong n a.names ⊎ IsAmong n b.names → SettledIn u n
      settled n (inl x) = later t u j n (a.settled n x)
      settled n (inr x) = b.settled n x

  tells_on : {s t u : Vat Name} → Tells s t → Tells t u → Tells s u
  tells_on {s} {t} {u} h k = record {
    stays = λ n j y e i. k.stays n j y (h.stays n j y e i) i;
    distinct = λ d. k.distinct (h.distinct d);
    news = λ d. news_on s t u h.stays k.stays (h.news d) (k.news (h.distinct d));
  }

  still_law : IsKept Still
  still_law = telling.still K v

  pub base : IsKept Tells
  base = record {
    same = λ s. still_tells s s (still_law.same s);
    trans = λ h k. tells_on h k;
    fuel = λ s n. still_tells s _ (still_law.fuel s n);
    happened = λ s e. still_tells s _ (still_law.happened s e);
    activations = λ s. still_tells s _ (still_law.activations s);
    thing = λ s t. still_tells s _ (still_law.thing s t);
    killed = λ s n. still_tells s _ (still_law.killed s n);
    slot = λ s c. still_tells s _ (still_law.slot s c);
    written = λ s n y. still_tells s _ (still_law.written s n y);
    list = λ s vs. still_tells s _ (still_law.list s vs);
  }

  pub lifted : {A : Type 0} {m : Act Name A} → Keeps Still m → Keeps Tells m
  lifted {m = m} h = record { after = λ s. after_map Still Tells s (m s) (λ t k. still_tells s t k) (h.after s) }

  -- ---- behind the settling of p itself

  -- as above, but that v may be told of p too
  record Ending (p : Name) (s t : Vat Name) : Type 0 where
    names : List Name
    told : news_to v t.outbox ≡ news_to v s.outbox ++ names
    once : Once {A = Name} names
    fresh : (n : Name) → IsAmong n names → (n ≡ p) ⊎ (SettledIn s n → ⊥)
    settled : (n : Name) → IsAmong n names → SettledIn t n

  record Ends (p : Name) (ws : List ℕ) (s t : Vat Name) : Type 0 where
    stays : SettledStays K s t
    distinct : Distinct s → Distinct t
    news : Distinct s → SettledIn s p → Once {A = ℕ} ws → Ending p s t

  added_ends : (p : Name) (ws : List ℕ) (s t : Vat Name) → telling.Adds K v p ws s t → Ends p ws s t
  added_ends p ws s t h = record { stays = h.stays; distinct = h.distinct; news = λ d k o. go k (h.which o) }
    where
      none : h.names ≡ [] → Ending p s t
      none e = record { names = []; told = h.told ∙ ap (λ ns. news_to v s.outbox ++ ns) e; once = tt; fresh = λ n a. absurd a; settled = λ n a. absurd a }

      is_it : (n : Name) → IsAmong n (p ∷ []) → n ≡ p
      is_it n (inl e) = e
      is_it n (inr a) = absurd a

      one : SettledIn s p → h.names ≡ p ∷ [] → Ending p s t
      one k e = record {
        names = p ∷ [];
        told = h.told ∙ ap (λ ns. news_to v s.outbox ++ ns) e;
        once = ((λ a. a), tt);
        fresh = λ n a. inl (is_it n a);
        settled = λ n a. subst (SettledIn t) (sym (is_it n a)) (later s t h.stays p k);
      }

      go : SettledIn s p → (h.names ≡ []) ⊎ ((h.names ≡ p ∷ []) × IsAmong v ws) → Ending p s t
      go k (inl e) = none e
      go k (inr e) = one k e.0

  ending_on : (p : Name) (s t u : Vat Name) → SettledStays K s t → SettledStays K t u → SettledIn s p → News s t → Ending p t u → Ending p s u
  ending_on p s t u i j k a b = record {
    names = a.names ++ b.names;
    told = b.told ∙ ap (λ ns. ns ++ b.names) a.told ∙ append_assoc (news_to v s.outbox) a.names b.names;
    once = once_both a.names b.names a.once b.once (λ n x y. apart n x (b.fresh n y));
    fresh = λ n x. fresh n (among_split n a.names b.names x);
    settled = λ n x. settled n (among_split n a.names b.names x);
  }
    where
      apart : (n : Name) → IsAmong n a.names → (n ≡ p) ⊎ (SettledIn t n → ⊥) → ⊥
      apart n x (inl e) = a.fresh n x (subst (SettledIn s) (sym e) k)
      apart n x (inr f) = f (a.settled n x)

      open_in : (n : Name) → (n ≡ p) ⊎ (SettledIn t n → ⊥) → (n ≡ p) ⊎ (SettledIn s n → ⊥)
      open_in n (inl e) = inl e
      open_in n (inr f) = inr (λ h. f (later s t i n h))

      fresh : (n : Name) → IsAmong n a.names ⊎ IsAmong n b.names → (n ≡ p) ⊎ (SettledIn s n → ⊥)
      fresh n (inl x) = inr (a.fresh n x)
      fresh n (inr x) = open_in n (b.fresh n x)

      settled : (n : Name) → IsAmong n a.names ⊎ IsAmong n b.names → SettledIn u n
      settled n (inl x) = later t u j n (a.settled n x)
      settled n (inr x) = b.settled n x

  ends_behind : (p : Name) (ws : List ℕ) (s t u : Vat Name) → Tells s t → Ends p ws t u → Ends p ws s u
  ends_behind p ws s t u h k = record {
    stays = λ n j y e i. k.stays n j y (h.stays n j y e i) i;
    distinct = λ d. k.distinct (h.distinct d);
    news = λ d is o. ending_on p s t u h.stays k.stays is (h.news d) (k.news (h.distinct d) (later s t h.stays p is) o);
  }

  tells_ends : (p : Name) (ws : List ℕ) (s t : Vat Name) → Tells s t → Ends p ws s t
  tells_ends p ws s t h = record { stays = h.stays; distinct = h.distinct; news = λ d is o. (let a = h.news d in record { names = a.names; told = a.told; once = a.once; fresh = λ n x. inr (a.fresh n x); settled = a.settled }) }

  ends_bind : (p : Name) (ws : List ℕ) (s : Vat Name) (d : Done Name (Unit {0})) (n : Act Name (Unit {0})) → After Tells s d → ((t : Vat Name) → After (Ends p ws) t (n t)) → After (Ends p ws) s (and_then d (λ _. n))
  unfolding and_then
  ends_bind p ws s (Gives a t) n h k = from_after (Ends p ws) (Ends p ws) s t (n t) (λ u g. ends_behind p ws s t u h g) (k t)
  ends_bind p ws s (Throws x t) n h k = tells_ends p ws s t h
  ends_bind p ws s (Ejects i y t) n h k = tells_ends p ws s t h
  ends_bind p ws s (Stops c t) n h k = tells_ends p ws s t h

  ends_then : (p : Name) (ws : List ℕ) (m n : Act Name (Unit {0})) → Keeps Tells m → ((t : Vat Name) → After (Ends p ws) t (n t)) → (s : Vat Name) → After (Ends p ws) s ((m >> n) s)
  unfolding ◌>>◌
  ends_then p ws m n h k s = ends_bind p ws s (m s) n (h.after s) k

  all : {A : Type 0} {f : A → Act Name (Unit {0})} (xs : List A) → ((x : A) → Keeps Tells (f x)) → Keeps Tells (each f xs)
  unfolding each
  all [] h = keeps_give Tells base tt
  all (x ∷ xs) h = keeps_then Tells base (h x) (all xs h)

  told_ends : (p : Name) (ws : List ℕ) (s : Vat Name) → After (Ends p ws) s (each (refs.inform K p) ws s)
  told_ends p ws s = from_after (telling.Adds K v p ws) (Ends p ws) s s (each (refs.inform K p) ws s) (λ t h. added_ends p ws s t h) (telling.all_informs K v p ws s)

  -- p had not settled, and has now
  module _ (p : Name) (y : Value Name) (k : Known Name) (s : Vat Name) (here : entry_of K s.known p ≡ Some k) (free : (z : Value Name) → k.standing ≡ Settled z → ⊥) where
    abbrev Now : Vat Name
    Now = record s { happened = s.happened ++ Settles p y ∷ []; known = with_change K (Settle y) p s.known }

    now_settled : SettledIn Now p
    now_settled = (y, standing_found K (with_change K (Settle y) p s.known) p (changed (Settle y) k) y (changed_at {W = Name} K (Settle y) p s.known k here) (settles_to y k free))

    was_open : SettledIn s p → ⊥
    unfolding standing_of
    was_open h = let found = settled_entry (entry_of K s.known p) h.0 h.1 in free h.0 (ap (λ (j : Known Name). j.standing) (same k found.0 (sym here ∙ found.1)) ∙ found.2)
      where
        same : (a b : Known Name) → Some a ≡ Some b → a ≡ b
        same a b e = cc

    still_now : Still s Now
    still_now = let h = telling.change_still K v s (Settle y) p in record { stays = h.stays; distinct = h.distinct; told = refl }

    block_ends : (t : Vat Name) → Ends p k.told Now t → Tells s t
    block_ends t h = record {
      stays = λ n j z e i. h.stays n j z (still_now.stays n j z e i) i;
      distinct = λ d. h.distinct (still_now.distinct d);
      news = λ d. news (h.news (still_now.distinct d) now_settled (telling.entry_once K v s.known p k d here));
    }
      where
        news : Ending p Now t → News s t
        news a = record { names = a.names; told = a.told; once = a.once; fresh = λ n x. fresh n (a.fresh n x); settled = a.settled }
          where
            fresh : (n : Name) → (n ≡ p) ⊎ (SettledIn Now n → ⊥) → SettledIn s n → ⊥
            fresh n (inl e) i = was_open (subst (SettledIn s) e i)
            fresh n (inr f) i = f (later s Now still_now.stays n i)

    block : (settle : Name → Value Name → Act Name (Unit {0})) → ((q : Name) (z : Value Name) → Keeps Tells (settle q z)) → ((m : Message Name) → Keeps Tells (refs.send_on K settle m)) → After Tells s (refs.settle_known K settle p y k s)
    unfolding refs.settle_known ◌>>◌ and_then tell alter
    block settle good sends = from_after (Ends p k.told) Tells s Now _ block_ends
        (ends_then p k.told (each (refs.send_on K settle) k.held) (each (λ q. settle q y) k.waiting >> (each enqueue k.reactions >> each (refs.inform K p) k.told)) (all k.held sends)
        (ends_then p k.told (each (λ q. settle q y) k.waiting) (each enqueue k.reactions >> each (refs.inform K p) k.told) (all k.waiting (λ q. good q y))
        (ends_then p k.told (each enqueue k.reactions) (each (refs.inform K p) k.told) (all k.reactions (λ m. lifted (telling.still_enqueue K v m))) (told_ends p k.told))) Now)

  -- ---- all that a vat does

  came_promise : (s : Vat Name) (n : Name) → Still s (record s { promises = suc s.promises; known = s.known ++ begun n s.number ∷ [] })
  unfolding begun
  came_promise s n = record { stays = λ m k y e i. entry_append K m s.known _ k e; distinct = λ d. all_end ToldOf s.known (begun n s.number) d tt; told = refl }

  pub walked : IsWalkedWhole K Tells
  unfolding with_news
  walked = record {
    base = base;
    queues = λ m. lifted (telling.still_enqueue K v m);
    gifts = λ n p j. lifted (telling.still_gift K v n p j);
    opens = λ p j. lifted (telling.still_open K v p j);
    marks = λ w. lifted (telling.still_mark K v w);
    alters = λ c n. lifted (telling.still_alter K v c n);
    comes = λ c h. lifted (telling.still_come K v c h);
    mails = λ c. lifted (telling.still_mail K v c);
    messages = λ h. lifted (telling.still_message K v h);
    lones = lifted (telling.still_lone K v);
    promised = λ s. still_tells s _ (came_promise s _);
    delivers = λ w d n verb ys. lifted (telling.still_out K v w (Deliver d n verb ys) refl);
    asks = λ w p j n. lifted (telling.still_out K v w (Ask p j n) refl);
    lets = λ h n. lifted (telling.lets_one K v h n);
    wants = λ h c n f g. keeps_bind Tells base (lifted (telling.still_draw K v)) (λ j. keeps_then Tells base (lifted (telling.still_out K v h (Shorten n c (under h j)) refl)) (g j));
    settles = λ settle good sends p y k s e f. block p y k s e f settle good sends;
  }
