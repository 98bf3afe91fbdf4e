-- What arrives puts gifts under new words alone, each once, and tells of their provider: of a view the old host of the name, and else the vat itself.
use Rattle.std.proofs.Common.{◌≡◌, ℕ, zero, Bool, true, false, List, [], ◌∷◌, ◌++◌, Option, Some, None, refl, sym, arith, length, if◌then◌else◌, codes, ◌==◌, subst, inl, inr}
use Rattle.def_machine.specs.Values.{Words, Value, Broken, Ref, Name, Naming, IsGift, naming, name_of, key, word_of, under}
use Rattle.def_machine.specs.State.{Standing, Viewed, Settled, Known, Passed, Passeds, Plain, AGift, Many, NoMore, More, Delivery, Note, Deliver, Open, Ask, SettledTo, Elsewhere, Shorten, Put, GiftEntry, Vat, Gives, Act, ◌>>=◌, ◌>>◌, and_then, give, look, come, new_gift, alter, tell, draw, draws, drawn_at, send_out, is_in, begun}
use Rattle.def_machine.specs.Refs.{Place, Away, host_at, settle}
use Rattle.def_machine.specs.Arrive as arrive
use Rattle.def_machine.specs.Arrive.{Incoming, Old, New}
use Rattle.def_run.specs.World as world
use Rattle.law_machine.specs.Machine.Steps.{After}
use Rattle.law_machine.proofs.Machine.Keeps.{Keeps}
use Rattle.def_machine.proofs.Keys.{word_under_key, provider_under}
use Rattle.law_fate.specs.Name.Names.{IsAmong, WasDrawn}
use Rattle.law_fate.proofs.Name.Among.{key_not_drawn}
use Rattle.law_fate.proofs.Fates.PlacesLast.{each_end}
use Rattle.law_fate.proofs.Fates.Spares.{widen}
use Rattle.law_reference.specs.Reference.Standing.{IsEntered}
use Rattle.law_fate.specs.Fates.Lasting.{Each}
use Rattle.law_reference.specs.Reference.GiftPassing.{gifts_in_note, IsProvidedBy, PassesFrom, AllPassFrom, Provides, IsProvided}
use Rattle.law_reference.proofs.Reference.Puts.{AllStay, PutsOn, Fair, Nothing, PutTells, same, spared, drawn_after, drawn_more, stay_end, key_provided, out_end, fair, gift_after, differ_end, fair_ask, fair_open_out}
use Rattle.law_reference.proofs.Reference.RefsPuts.{fair_refs, fair_settle, fair_inform, fair_send_on}

module _ (v : ℕ) (d0 : List ℕ) (F : ℕ → ℕ) (fresh : (x : ℕ) → (IsAmong x d0 → ⊥) → F x ≡ v) (word : ℕ → ℕ) where
  abbrev K : Naming Name Name
  K = naming word v

  abbrev R : Vat Name → Vat Name → Type 0
  R = Fair v d0 F

  -- ---- learning

  fair_learn_name : (z : Incoming Name Name) → Keeps R (arrive.learn_name K z)
  unfolding arrive.learn_name
  fair_learn_name (Old n) = search (fair, spared) depth 14
  fair_learn_name (New n h) = search (fair, spared) depth 14

  fair_learn_value : (y : Value (Incoming Name Name)) → Keeps R (arrive.learn_value K y)
  unfolding arrive.learn_value
  fair_learn_value (Ref z) = search (fair, spared, fair_learn_name) depth 14
  fair_learn_value other = search (fair, spared) depth 14

  fair_ask_for : (p h i : ℕ) (n : Name) → IsProvidedBy F d0 i p → Keeps R (arrive.ask_for K p h i n)
  unfolding arrive.ask_for
  fair_ask_for p h i n o = let ask = fair_ask v d0 F h p i n o in search (fair_refs, spared) depth 14

  fair_learn_gift : (p h i : ℕ) → IsProvidedBy F d0 i p → Keeps R (arrive.learn_gift K p h i)
  unfolding arrive.learn_gift
  fair_learn_gift p h i o = let ask = λ (n : Name). fair_ask_for p h i n o in search (fair, spared) depth 14

  fair_make_list : (vs : List (Value Name)) → Keeps R (arrive.make_list K vs)
  unfolding arrive.make_list
  fair_make_list vs = search (fair, spared) depth 14

  mutual
    unfolding arrive.learn arrive.learn_all world.read_passed world.read_all world.plain_read world.many_read world.more_read

    fair_learn : (p w : ℕ) (y : Passed Name) (ks : List Name) → PassesFrom F d0 p w y → Keeps R (arrive.learn K p (world.read_passed y ks).read)
    fair_learn p w (Plain y) ks o = fair_learn_value (world.read_value ks y).read
    fair_learn p w (AGift h i) ks o = fair_learn_gift p h i o.0
    fair_learn p w (Many ys) ks o = let rest = fair_learn_all p w ys ks o in search (fair, spared, fair_make_list) depth 14

    fair_learn_all : (p w : ℕ) (ys : Passeds Name) (ks : List Name) → AllPassFrom F d0 p w ys → Keeps R (arrive.learn_all K p (world.read_all ys ks).read)
    fair_learn_all p w NoMore ks o = search (fair, spared) depth 14
    fair_learn_all p w (More y ys) ks o = let one = fair_learn p w y ks o.0 in let rest = fair_learn_all p w ys (world.read_passed y ks).known o.1 in search (fair, spared) depth 14

  fair_learn_message : (z : Incoming Name Name) → Keeps R (arrive.learn_message K z)
  unfolding arrive.learn_message
  fair_learn_message (Old n) = search (fair, spared) depth 14
  fair_learn_message (New n h) = search (fair, spared) depth 14

  -- ---- gifts at their host

  had_after : (u p i : ℕ) (s : Vat Name) (o : Option (GiftEntry Name)) → IsProvidedBy F d0 i p → arrive.gift_at p i s.gifts ≡ o → After R s (arrive.gift_or_new K u p i o s)
  unfolding arrive.gift_or_new ◌>>=◌ ◌>>◌ and_then come new_gift give
  had_after u p i s (Some g) h e = record { puts = same v d0 F s }
  had_after u p i s None h e = let n : Name = K.made (IsGift u i) (length s.known) in record { puts = gift_after v d0 F s (begun n u) n p i h e }

  fair_have_gift : (p i : ℕ) → IsProvidedBy F d0 i p → Keeps R (arrive.have_gift K p i)
  unfolding arrive.have_gift ◌>>=◌ and_then look
  fair_have_gift p i h = record { after = λ s. had_after s.number p i s (arrive.gift_at p i s.gifts) h refl }

  fair_break_at : (n : Name) (p : Words) (t : Standing Name) → Keeps R (arrive.break_at K n p t)
  unfolding arrive.break_at
  fair_break_at n p (Settled y) = search (fair, spared) depth 14
  fair_break_at n p _ = fair_settle v d0 F fresh word n (Broken p)

  fair_break_unopened : (n : Name) (b : Bool) → Keeps R (arrive.break_unopened K n b)
  unfolding arrive.break_unopened
  fair_break_unopened n true = search (fair, spared) depth 14
  fair_break_unopened n false = search (fair, spared, fair_break_at) depth 14

  fair_tell_asker : (n : Name) (w : ℕ) (t : Standing Name) → Keeps R (arrive.tell_asker K n w t)
  unfolding arrive.tell_asker
  fair_tell_asker n w (Settled y) = fair_inform v d0 F fresh word n w
  fair_tell_asker n w _ = search (fair, spared) depth 14

  fair_break_orphan : (p i : ℕ) (n : Name) → Keeps R (arrive.break_orphan K p i n)
  unfolding arrive.break_orphan
  fair_break_orphan p i n = search (fair, spared, fair_break_unopened) depth 14

  -- ---- arrival

  fair_arrive_deliver : (from w : ℕ) (d : Delivery (Incoming Name Name)) (z : Incoming Name Name) (verb : Words) (ys : Passeds Name) (ks : List Name) → AllPassFrom F d0 from w ys → Keeps R (arrive.arrive_deliver K from d z verb (world.read_all ys ks).read)
  unfolding arrive.arrive_deliver arrive.send_on_asked
  fair_arrive_deliver from w d z verb ys ks o = let args = fair_learn_all from w ys ks o in let on = λ (m : _). fair_send_on v d0 F fresh word (settle K) (fair_settle v d0 F fresh word) m in search (fair, spared, fair_learn_message, fair_learn_name) depth 20

  fair_arrive_open : (from i : ℕ) (z : Incoming Name Name) → IsProvidedBy F d0 i from → Keeps R (arrive.arrive_open K from i z)
  unfolding arrive.arrive_open
  fair_arrive_open from i z o = let have = fair_have_gift from i o in search (fair_refs, spared, fair_learn_name) depth 14

  fair_arrive_ask : (from p i : ℕ) → IsProvidedBy F d0 i p → Keeps R (arrive.arrive_ask K from p i)
  unfolding arrive.arrive_ask
  fair_arrive_ask from p i o = let have = fair_have_gift p i o in search (fair, spared, fair_break_orphan, fair_tell_asker) depth 14

  fair_arrive_settled : (from w : ℕ) (z : Incoming Name Name) (y : Passed Name) (ks : List Name) → PassesFrom F d0 from w y → Keeps R (arrive.arrive_settled K from z (world.read_passed y ks).read)
  unfolding arrive.arrive_settled
  fair_arrive_settled from w z y ks o = let value = fair_learn from w y ks o in search (fair_refs, spared, fair_learn_name) depth 14

  fair_shorten_to : (i : ℕ) (p : Place Name) → IsProvidedBy F d0 i v → Keeps R (arrive.shorten_to K i p)
  unfolding arrive.shorten_to
  fair_shorten_to i (Away h n true) o = fair_open_out v d0 F h i n o
  fair_shorten_to i other o = search (fair, spared) depth 14

  fair_arrive_shorten : (z : Incoming Name Name) (i : ℕ) → IsProvidedBy F d0 i v → Keeps R (arrive.arrive_shorten K z i)
  unfolding arrive.arrive_shorten
  fair_arrive_shorten z i o = let short = λ (p : Place Name). fair_shorten_to i p o in search (fair, spared, fair_learn_name) depth 14

  -- the news that a name settled at a vat whose cut was noticed
  gone_if : (b : Bool) (m n : Act Name (Unit {0})) (s : Vat Name) → b ≡ true → After R s (m s) → After R s ((if b then m else n) s)
  gone_if true m n s e h = h
  gone_if false m n s e h = cc

  gone_after : (z : Incoming Name Name) (c : ℕ) (s : Vat Name) → is_in c s.noticed ≡ true → After R s (arrive.arrive_elsewhere K z c s)
  unfolding arrive.arrive_elsewhere arrive.learn_name ◌>>=◌ and_then look give come naming name_of
  gone_after (Old n) c s e = gone_if (is_in c s.noticed) (settle K n (Broken (codes "partition"))) (arrive.view_there K n c) s e ((fair_settle v d0 F fresh word n (Broken (codes "partition"))).after s)
  gone_after (New n h) c s e = let t : Vat Name = record s { known = s.known ++ begun n h ∷ [] } in
      widen R (spared v d0 F) {s = s} {t = t} (record { puts = same v d0 F s }) _ (gone_if (is_in c s.noticed) (settle K n (Broken (codes "partition"))) (arrive.view_there K n c) t e ((fair_settle v d0 F fresh word n (Broken (codes "partition"))).after t))

  -- any other note
  abbrev NoNews : Note Name → Type 0
  NoNews (Elsewhere n c) = ⊥
  NoNews other = Unit {0}

  pub fair_arrive : (from : ℕ) (ks : List Name) (n : Note Name) → NoNews n → Provides F d0 from v n → Keeps R (arrive.arrive K from (world.read_note ks n))
  unfolding arrive.arrive world.read_note
  fair_arrive from ks (Deliver m n verb ys) a o = fair_arrive_deliver from v _ _ verb ys ks o
  fair_arrive from ks (Open i n) a o = fair_arrive_open from i _ o
  fair_arrive from ks (Ask p i n) a o = fair_arrive_ask from p i o
  fair_arrive from ks (SettledTo n y) a o = fair_arrive_settled from v _ y _ o
  fair_arrive from ks (Elsewhere n c) a o = absurd a
  fair_arrive from ks (Shorten n c i) a o = fair_arrive_shorten _ i o

  pub news_of_gone : (from : ℕ) (ks : List Name) (n : Name) (c : ℕ) (s : Vat Name) → is_in c s.noticed ≡ true → After R s (arrive.arrive K from (world.read_note ks (Elsewhere n c)) s)
  unfolding arrive.arrive world.read_note
  news_of_gone from ks n c s e = gone_after (world.read_name ks n) c s e

  -- ---- notice

  fair_break_hosted : (w : ℕ) (n : Name) (p : Words) (t : Standing Name) → Keeps R (arrive.break_hosted K w n p t)
  unfolding arrive.break_hosted
  fair_break_hosted w n p (Viewed q) = search (fair, spared) depth 14
  fair_break_hosted w n p (Settled y) = search (fair, spared) depth 14
  fair_break_hosted w n p other = fair_settle v d0 F fresh word n (Broken p)

  fair_notice_name : (w : ℕ) (k : Known Name) → Keeps R (arrive.notice_name K w k)
  unfolding arrive.notice_name
  fair_notice_name w k = search (fair, spared, fair_break_hosted) depth 14

  fair_notice_gift : (w : ℕ) (g : GiftEntry Name) → Keeps R (arrive.notice_gift K w g)
  unfolding arrive.notice_gift
  fair_notice_gift w g = search (fair, spared, fair_break_unopened) depth 14

  fair_notice_all : (w : ℕ) → Keeps R (arrive.notice_all K w)
  unfolding arrive.notice_all
  fair_notice_all w = search (fair, spared, fair_notice_name, fair_notice_gift) depth 14

  pub fair_notice : (w : ℕ) → Keeps R (arrive.notice K w)
  unfolding arrive.notice
  fair_notice w = search (fair, spared, fair_notice_all) depth 14

-- a gift under a word that was not drawn stands nowhere
below_all : (F : ℕ → ℕ) (d : List ℕ) (k : ℕ) (gs : List (GiftEntry Name)) → (WasDrawn d k → ⊥) → Each (IsProvided F d) gs → IsEntered k gs → ⊥
below_all F d k [] new h a = a
below_all F d k (g ∷ gs) new h (inl e) = let told = h.0 in new (subst (WasDrawn d) e told.0)
below_all F d k (g ∷ gs) new h (inr a) = below_all F d k gs new h.1 a

-- ---- the view: the provider of its word is the old host

module _ (v : ℕ) (d0 : List ℕ) (F : ℕ → ℕ) (p : ℕ) (fresh : (x : ℕ) → (IsAmong x d0 → ⊥) → F x ≡ p) (word : ℕ → ℕ) where
  abbrev Names : Naming Name Name
  Names = naming word v

  abbrev V : Vat Name → Vat Name → Type 0
  V = Fair v d0 F

  -- a new word x, the wish put to the old host, and one more note or gift under that word
  module _ (s : Vat Name) (x : ℕ) (new : drawn_at zero x s.drawn ≡ None) where
    abbrev Seen : ℕ
    Seen = under p (key s.number x)

    seen_word : word_of Seen ≡ x
    seen_word = word_under_key p s.number x

    provided : AllStay d0 s.drawn → IsProvidedBy F (s.drawn ++ x ∷ []) Seen p
    provided l = key_provided v d0 F p fresh s.drawn Seen x l new seen_word (provider_under p (key s.number x))

    seen_put : (c a : ℕ) (n g : Name) → PutsOn v d0 F (λ i. 0) (Nothing v d0 F) s.number s.drawn s.outbox s.gifts s.number (s.drawn ++ x ∷ []) ((s.outbox ++ record { to = p; note = Shorten n c Seen } ∷ []) ++ record { to = a; note = Ask p Seen g } ∷ []) s.gifts
    unfolding gifts_in_note
    seen_put c a n g = let d = drawn_after v d0 F s x in
        let one : Put Name = record { to = p; note = Shorten n c Seen } in let two : Put Name = record { to = a; note = Ask p Seen g } in record {
          number = λ e. e;
          drawn = d.drawn;
          count = λ i. let f = out_end i s.outbox one in let k = out_end i (s.outbox ++ one ∷ []) two in let j = drawn_more i s.drawn (s.drawn ++ x ∷ []) (stay_end s.drawn x) in omega arith;
          outs = λ e l o. each_end (PutTells v d0 F (s.drawn ++ x ∷ [])) (s.outbox ++ one ∷ []) two (each_end (PutTells v d0 F (s.drawn ++ x ∷ [])) s.outbox one (d.outs e l o) (provided l)) (provided l);
          gifts = d.gifts;
          once = d.once;
          ok = λ e l. tt;
        }

    seen_here : (c : ℕ) (n g : Name) → PutsOn v d0 F (λ i. 0) (Nothing v d0 F) s.number s.drawn s.outbox s.gifts s.number (s.drawn ++ x ∷ []) (s.outbox ++ record { to = p; note = Shorten n c Seen } ∷ []) (s.gifts ++ record { name = g; provider = p; number = Seen; opened = false } ∷ [])
    unfolding gifts_in_note
    seen_here c n g = let d = drawn_after v d0 F s x in
        let one : Put Name = record { to = p; note = Shorten n c Seen } in record {
          number = λ e. e;
          drawn = d.drawn;
          count = λ i. let f = out_end i s.outbox one in let j = drawn_more i s.drawn (s.drawn ++ x ∷ []) (stay_end s.drawn x) in omega arith;
          outs = λ e l o. each_end (PutTells v d0 F (s.drawn ++ x ∷ [])) s.outbox one (d.outs e l o) (provided l);
          gifts = λ l o. each_end (IsProvided F (s.drawn ++ x ∷ [])) s.gifts (record { name = g; provider = p; number = Seen; opened = false }) (d.gifts l o) (provided l);
          once = λ l y o. differ_end s.gifts (record { name = g; provider = p; number = Seen; opened = false }) (λ a. below_all F s.drawn Seen s.gifts (key_not_drawn s.drawn x Seen new seen_word) y a) o;
          ok = λ e l. tt;
        }

    seen_there : (c : ℕ) (n : Name) → PutsOn v d0 F (λ i. 0) (Nothing v d0 F) s.number s.drawn s.outbox s.gifts s.number (s.drawn ++ x ∷ []) (s.outbox ++ record { to = p; note = Shorten n c Seen } ∷ []) s.gifts
    unfolding gifts_in_note
    seen_there c n = let d = drawn_after v d0 F s x in
        let one : Put Name = record { to = p; note = Shorten n c Seen } in record {
          number = λ e. e;
          drawn = d.drawn;
          count = λ i. let f = out_end i s.outbox one in let j = drawn_more i s.drawn (s.drawn ++ x ∷ []) (stay_end s.drawn x) in omega arith;
          outs = λ e l o. each_end (PutTells v d0 F (s.drawn ++ x ∷ [])) s.outbox one (d.outs e l o) (provided l);
          gifts = d.gifts;
          once = d.once;
          ok = λ e l. tt;
        }

    seen_had : (c u : ℕ) (n : Name) (o : Option (GiftEntry Name)) → After V s (and_then (arrive.gift_or_new Names u p Seen o (record s { drawn = s.drawn ++ x ∷ []; outbox = s.outbox ++ record { to = p; note = Shorten n c Seen } ∷ [] })) (λ g. arrive.see Names n g))
    unfolding arrive.gift_or_new arrive.see ◌>>=◌ ◌>>◌ and_then come new_gift give tell alter
    seen_had c u n (Some g) = record { puts = seen_there c n }
    seen_had c u n None = record { puts = seen_here c n _ }

    there_after : (c u : ℕ) (n : Name) (b : Bool)
        → After V s (and_then ((if b then arrive.have_gift Names p Seen else (come Names (IsGift c Seen) c >>= (λ g. send_out c (Ask p Seen g) >> give g))) (record s { drawn = s.drawn ++ x ∷ []; outbox = s.outbox ++ record { to = p; note = Shorten n c Seen } ∷ [] })) (λ g. arrive.see Names n g))
    unfolding arrive.have_gift arrive.see ◌>>=◌ ◌>>◌ and_then come send_out give look tell alter
    there_after c u n true = seen_had c s.number n (arrive.gift_at p Seen s.gifts)
    there_after c u n false = record { puts = seen_put c c n _ }

  drawn_then : (s : Vat Name) (x c u : ℕ) (n : Name) (o : Option ℕ) → drawn_at zero x s.drawn ≡ o → After V s (and_then (draws x o s) (λ i. send_out p (Shorten n c (under p i)) >> (arrive.gift_there Names u p c (under p i) >>= (λ g. arrive.see Names n g))))
  unfolding draws and_then send_out ◌>>◌ ◌>>=◌ arrive.gift_there
  drawn_then s x c u n (Some j) new = record { puts = same v d0 F s }
  drawn_then s x c u n None new = there_after s x new c u n (c == u)

  drawn_host : (s : Vat Name) (x c u q : ℕ) (n : Name) (o : Option ℕ) → drawn_at zero x s.drawn ≡ o → q ≡ p → After V s (and_then (draws x o s) (λ i. send_out q (Shorten n c (under q i)) >> (arrive.gift_there Names u q c (under q i) >>= (λ g. arrive.see Names n g))))
  drawn_host s x c u q n o new e = subst (λ r. After V s (and_then (draws x o s) (λ i. send_out r (Shorten n c (under r i)) >> (arrive.gift_there Names u r c (under r i) >>= (λ g. arrive.see Names n g))))) (sym e) (drawn_then s x c u n o new)

  view_after : (s : Vat Name) (n : Name) (c : ℕ) → host_at Names s.number s.known n ≡ p → After V s (arrive.view_there Names n c s)
  unfolding arrive.view_there ◌>>=◌ and_then look draw
  view_after s n c e = drawn_host s _ c s.number (host_at Names s.number s.known n) n _ refl e

  there_if : (b : Bool) (m n : Act Name (Unit {0})) (s : Vat Name) → b ≡ false → After V s (n s) → After V s ((if b then m else n) s)
  there_if true m n s e h = cc
  there_if false m n s e h = h

  news_after : (z : Incoming Name Name) (c : ℕ) (s : Vat Name) → is_in c s.noticed ≡ false → ((n : Name) (t : Vat Name) → arrive.learn_name Names z s ≡ Gives n t → host_at Names t.number t.known n ≡ p) → After V s (arrive.arrive_elsewhere Names z c s)
  unfolding arrive.arrive_elsewhere arrive.learn_name ◌>>=◌ and_then look give come naming name_of
  news_after (Old n) c s e f = there_if (is_in c s.noticed) (settle Names n (Broken (codes "partition"))) (arrive.view_there Names n c) s e (view_after s n c (f n s refl))
  news_after (New n h) c s e f = let t : Vat Name = record s { known = s.known ++ begun n h ∷ [] } in
      widen V (spared v d0 F) {s = s} {t = t} (record { puts = same v d0 F s }) _ (there_if (is_in c s.noticed) (settle Names n (Broken (codes "partition"))) (arrive.view_there Names n c) t e (view_after t n c (f n t refl)))

-- whom that news makes the provider
unfoldable pub told_host : (v : ℕ) (word : ℕ → ℕ) (z : Incoming Name Name) (s : Vat Name) → ℕ
told_host v word (Old n) s = host_at (naming word v) s.number s.known n
told_host v word (New n h) s = host_at (naming word v) s.number (s.known ++ begun n h ∷ []) n

host_told : (v : ℕ) (word : ℕ → ℕ) (z : Incoming Name Name) (s : Vat Name) (n : Name) (t : Vat Name) → arrive.learn_name (naming word v) z s ≡ Gives n t → host_at (naming word v) t.number t.known n ≡ told_host v word z s
unfolding arrive.learn_name give come naming name_of told_host
host_told v word (Old m) s n t e = let a : m ≡ n = cc in let b : s ≡ t = cc in rw (sym a, sym b) refl
host_told v word (New m h) s n t e = given m n (record s { known = s.known ++ begun m h ∷ [] }) t e
  where
    given : (m n : Name) (r t : Vat Name) → Gives m r ≡ Gives n t → host_at (naming word v) t.number t.known n ≡ host_at (naming word v) r.number r.known m
    given m n r t e = let a : m ≡ n = cc in let b : r ≡ t = cc in rw (sym a, sym b) refl

pub news_of_view : (v : ℕ) (d0 : List ℕ) (F : ℕ → ℕ) (word : ℕ → ℕ) (from : ℕ) (ks : List Name) (n : Name) (c : ℕ) (s : Vat Name) → ((x : ℕ) → (IsAmong x d0 → ⊥) → F x ≡ told_host v word (world.read_name ks n) s) → is_in c s.noticed ≡ false → After (Fair v d0 F) s (arrive.arrive (naming word v) from (world.read_note ks (Elsewhere n c)) s)
unfolding arrive.arrive world.read_note
news_of_view v d0 F word from ks n c s fresh e = news_after v d0 F (told_host v word (world.read_name ks n) s) fresh word (world.read_name ks n) c s e (λ m t i. host_told v word (world.read_name ks n) s m t i)
