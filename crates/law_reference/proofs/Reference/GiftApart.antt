-- The notes of a run bring what is new, where the gifts of each note that arrives stand apart.
use Rattle.std.proofs.Common.{◌≡◌, ℕ, zero, suc, ◌+◌, ◌≤◌, Bool, true, false, List, [], ◌∷◌, ◌++◌, Some, refl, sym, ap, ◌∙◌, inl, inr, subst, arith, length}
use Rattle.std.specs.Prelude.{slice_get}
use Rattle.std.proofs.lemmas.Bool.{eqb-true}
use Rattle.def_machine.specs.Values.{Name, Root, Object, Promise, Answer, Gift, Sent, same_name, word_of}
use Rattle.def_machine.specs.State.{Known, Note, Vat, is_in}
use Rattle.law_reference.proofs.Reference.Puts.{among_in}
use Rattle.def_run.specs.World as world
use Rattle.def_run.specs.World.{Script, Entry, Carry, World, Run, Goes as Going, Stopped, read_note, names_of}
use Rattle.law_fate.specs.Fates.Lasting.{Each, KnownWell}
use Rattle.law_fate.specs.Fates.Wellness.{WorldWell}
use Rattle.law_fate.proofs.Fates.RunWell.{runs_stay_well}
use Rattle.law_fate.specs.Name.Names.{IsAmong, IsMade, names_in}
use Rattle.law_fate.specs.Name.Runs.{KnowsOnce}
use Rattle.law_fate.proofs.Name.Run.{name_had}
use Rattle.law_fate.proofs.Name.SameNames.{same_is, same_self}
use Rattle.law_fate.proofs.Name.Laws.{names_made}
use Rattle.law_reference.specs.Reference.Knowing.{one, onward_all, claims}
use Rattle.law_reference.specs.Reference.NameTableRuns.{allowed, brings_here, EntryBringsNew, NotesBringNew, NamesDiffer}
use Rattle.law_reference.proofs.Reference.KnownRuns.{names_are_known_once}
use Rattle.law_reference.specs.Reference.Bring.{IsNoGift}
use Rattle.law_reference.proofs.Reference.SingleRuns.{notes_bring_new_but_gifts}
use Rattle.law_reference.specs.Reference.Apart.{EntryApart, AllApart, NewWhereApart}
use Rattle.law_reference.proofs.Reference.GiftLaws.{reached_is}
use Rattle.law_reference.proofs.Reference.Reading.{most_is, full_is, one_other, onward_none, unclaimed}
use Rattle.law_reference.proofs.Reference.NewsLaws.{allowed_is, gifts_come_new}

-- ---- where a name is known once, it is claimed once

get_among : (n : Name) (ns : List Name) → IsAmong n ns → (j : ℕ) × (slice_get ns j ≡ Some n)
get_among n [] h = absurd h
get_among n (m ∷ ns) (inl e) = (zero, ap Some (sym e))
get_among n (m ∷ ns) (inr i) = let r = get_among n ns i in (suc r.0, r.1)

one_most : (n x : Name) → one n x ≤ 1
unfolding one
one_most n x = most_is (same_name n x)

-- two places of one name are one
abbrev AtOne : Name → List Name → Type 0
AtOne n ns = (i j : ℕ) → slice_get ns i ≡ Some n → slice_get ns j ≡ Some n → i ≡ j

no_later : (j : ℕ) → zero ≡ suc j → ⊥
no_later j e = omega arith

less_one : (i j : ℕ) → suc i ≡ suc j → i ≡ j
less_one i j e = omega arith

module _ (h i v : ℕ) where
  abbrev X : Name
  X = Gift h i

  claimed_once : (ks : List (Known Name)) → Each KnownWell ks → AtOne X (names_in ks) → claims v X ks ≤ 1
  unfolding claims
  claimed_once [] w u = omega arith
  claimed_once (k ∷ ks) w u = first (same_name k.name X) refl (λ t. claimed_once ks w.1 t)
    where
      free : onward_all v X k.held ≡ 0
      free = let here = w.0 in onward_none h i v k.name k.held here.held

      not_later : k.name ≡ X → IsAmong X (names_in ks) → ⊥
      not_later e a = let r = get_among X (names_in ks) a in no_later r.0 (u zero (suc r.0) (ap Some e) r.1)

      first : (b : Bool) → same_name k.name X ≡ b → (AtOne X (names_in ks) → claims v X ks ≤ 1) → one k.name X + onward_all v X k.held + claims v X ks ≤ 1
      first true e on = let same : k.name ≡ X = same_is k.name X e in let a = free in let rest = unclaimed h i v ks w.1 (not_later same) in let most : one k.name X ≤ 1 = one_most k.name X in omega arith
      first false e on = let a = free in let none : one k.name X ≡ 0 = one_other h i k.name (λ same. no_same (same_name k.name X) e (same_yes same)) in let rest = on (λ m n p q. less_one m n (u (suc m) (suc n) p q)) in omega arith
        where
          no_same : (b : Bool) → b ≡ false → b ≡ true → ⊥
          no_same b f g = cc

          same_yes : k.name ≡ X → same_name k.name X ≡ true
          same_yes s = subst (λ z. same_name k.name z ≡ true) s (same_self k.name)

  claimed_known : (ks : List (Known Name)) → Each KnownWell ks → 1 ≤ claims v X ks → IsAmong X (names_in ks)
  unfolding claims
  claimed_known [] w l = no_one l
    where
      no_one : 1 ≤ 0 → ⊥
      no_one l = omega arith
  claimed_known (k ∷ ks) w l = first (same_name k.name X) refl (λ m. claimed_known ks w.1 m)
    where
      first : (b : Bool) → same_name k.name X ≡ b → (1 ≤ claims v X ks → IsAmong X (names_in ks)) → IsAmong X (names_in (k ∷ ks))
      first true e on = inl (sym (same_is k.name X e))
      first false e on = let here = w.0 in let a = onward_none h i v k.name k.held here.held in let none : one k.name X ≡ 0 = one_other h i k.name (λ same. no_same (same_name k.name X) e (subst (λ z. same_name k.name z ≡ true) same (same_self k.name))) in inr (on (let m : 1 ≤ one k.name X + onward_all v X k.held + claims v X ks = l in omega arith))
        where
          no_same : (b : Bool) → b ≡ false → b ≡ true → ⊥
          no_same b f g = cc

-- ---- one more entry

going_is : (w x : World) → Going w ≡ Going x → w ≡ x
going_is w x e = cc

then_append : (r : Run) (f g : World → Run) (w y : World) → world.then_goes r f ≡ Going w → ((z : World) → r ≡ Going z → f z ≡ Going w → g z ≡ Going y) → world.then_goes r g ≡ Going y
unfolding world.then_goes
then_append (Going z) f g w y e h = h z refl e
then_append (Stopped c n z) f g w y e h = cc

then_is : (r : Run) (f : World → Run) (y w : World) → r ≡ Going y → world.then_goes r f ≡ Going w → f y ≡ Going w
unfolding world.then_goes
then_is (Going z) f y w e g = let same : z ≡ y = going_is z y e in rw same at g
then_is (Stopped c n z) f y w e g = cc

then_one : (r : Run) (f : World → Run) (y : World) → r ≡ Going y → f y ≡ Going y → world.then_goes r f ≡ Going y
unfolding world.then_goes
then_one r f y e g = rw e g

module _ (script : Script) where
  steps_append : (front : List Entry) (k0 : ℕ) (w0 w y : World) (e : Entry) (k : ℕ) → k ≡ k0 + length front → world.steps_from script front k0 w0 ≡ Going w → world.step script e k w ≡ Going y → world.steps_from script (front ++ e ∷ []) k0 w0 ≡ Going y
  unfolding world.steps_from
  steps_append [] k0 w0 w y e k n s i = let same : w0 ≡ w = going_is w0 w s in let one' : k ≡ k0 = (let m : k ≡ k0 + 0 = n in omega arith) in then_one (world.step script e k0 w0) (λ z. Going z) y (rw (sym same, one') at i) refl
  steps_append (f ∷ fs) k0 w0 w y e k n s i = then_append (world.step script f k0 w0) (world.steps_from script fs (suc k0)) (world.steps_from script (fs ++ e ∷ []) (suc k0)) w y s (λ z a b. steps_append fs (suc k0) z w y e k (omega arith) b i)

  news_append : (front : List Entry) (k0 : ℕ) (w0 w : World) (e : Entry) → world.steps_from script front k0 w0 ≡ Going w → NotesBringNew script front k0 w0 → EntryBringsNew w e → NotesBringNew script (front ++ e ∷ []) k0 w0
  unfolding world.steps_from
  news_append [] k0 w0 w e s b news = let same : w0 ≡ w = going_is w0 w s in (rw (sym same) at news, λ y i. tt)
  news_append (f ∷ fs) k0 w0 w e s b news = (b.0, λ y i. news_append fs (suc k0) y w e (then_is (world.step script f k0 w0) (world.steps_from script fs (suc k0)) y w i s) (b.1 y i) news)

  module _ (known : KnowsOnce script) (w0 : World) (k0 : ℕ) (opened : world.open_from script zero script.vats (world.begins script) ≡ Going w0) where
    -- a gift is claimed no more often than it may be
    claims_fit : (front : List Entry) (w : World) → NotesBringNew script front k0 w0 → world.steps_from script front k0 w0 ≡ Going w → (v : ℕ) (s : Vat Name) → slice_get w.vats v ≡ Some s → (h i : ℕ) → claims v (Gift h i) s.known ≤ allowed v (Gift h i) s w.drawn
    claims_fit front w b st v s e h i = let d : List ℕ = w.drawn in let is = allowed_is v h i d s in
        let differ : NamesDiffer w = (names_are_known_once script known).1 w0 w front k0 opened b st in
        let well : WorldWell w = reached_is WorldWell _ w st ((runs_stay_well script).1 w0 front k0 opened) in
        let made = (names_made script known).1 w0 w front k0 opened st v s e in
        let most = claimed_once h i v s.known (well.vats v s e) (λ m n p q. eqb-true m n (sym (differ v s e m n (Gift h i) (Gift h i) p q) ∙ same_self (Gift h i))) in
        by (claims v (Gift h i) s.known) (allowed v (Gift h i) s d) most (λ l. is ∙ full_is (is_in (word_of i) d) (among_in (word_of i) d (name_had (IsMade w.vats d) s.known (Gift h i) made.known (claimed_known h i v s.known (well.vats v s e) l))))
      where
        by : (c a : ℕ) → c ≤ 1 → (1 ≤ c → a ≡ 1) → c ≤ a
        by zero a l f = omega arith
        by (suc c) a l f = let e = f (omega arith) in omega arith

    entry_news : (front : List Entry) (w : World) → NotesBringNew script front k0 w0 → world.steps_from script front k0 w0 ≡ Going w → (e : Entry) → EntryApart w e → EntryBringsNew w e
    entry_news front w b st (Carry from to) a = λ l n ns s i j q. news l n ns s i j q
      where
        others : (l : world.Link) (n : Note Name) (ns : List (Note Name)) (s : Vat Name) → world.link_at from to w.links ≡ Some l → l.notes ≡ n ∷ ns → slice_get w.vats to ≡ Some s → (x : Name) → IsNoGift x → claims to x s.known + brings_here to x from s.gifts (read_note (names_of s) n) ≤ allowed to x s w.drawn
        others l n ns s i j q x o = (notes_bring_new_but_gifts script known).1 w0 w front k0 opened st from to l n ns s i j q x o

        news : (l : world.Link) (n : Note Name) (ns : List (Note Name)) (s : Vat Name) → world.link_at from to w.links ≡ Some l → l.notes ≡ n ∷ ns → slice_get w.vats to ≡ Some s → (x : Name) → claims to x s.known + brings_here to x from s.gifts (read_note (names_of s) n) ≤ allowed to x s w.drawn
        news l n ns s i j q (Gift h g) = (gifts_come_new script known).1 w0 w front k0 opened st from to l n ns s i j q (a l n ns s i j q) h g (claims_fit front w b st to s q h g)
        news l n ns s i j q (Root u) = others l n ns s i j q (Root u) tt
        news l n ns s i j q (Object u m) = others l n ns s i j q (Object u m) tt
        news l n ns s i j q (Promise u m) = others l n ns s i j q (Promise u m) tt
        news l n ns s i j q (Answer u m) = others l n ns s i j q (Answer u m) tt
        news l n ns s i j q (Sent m) = others l n ns s i j q (Sent m) tt
    entry_news front w b st other a = tt

    goes_on : (es front : List Entry) (k : ℕ) (w : World) → k ≡ k0 + length front → NotesBringNew script front k0 w0 → world.steps_from script front k0 w0 ≡ Going w → AllApart script es k w → NotesBringNew script es k w
    goes_on [] front k w n b st a = tt
    goes_on (e ∷ es) front k w n b st a = let news : EntryBringsNew w e = entry_news front w b st e a.0 in
        (news, λ y i. goes_on es (front ++ e ∷ []) (suc k) y (longer front e k n) (news_append front k0 w0 w e st b news) (steps_append front k0 w0 w y e k n st i) (a.1 y i))
      where
        length_more : (xs : List Entry) (x : Entry) → length (xs ++ x ∷ []) ≡ suc (length xs)
        length_more [] x = refl
        length_more (y ∷ xs) x = let rest = length_more xs x in omega arith

        longer : (front : List Entry) (e : Entry) (k : ℕ) → k ≡ k0 + length front → suc k ≡ k0 + length (front ++ e ∷ [])
        longer front e k n = let more = length_more front e in omega arith

stays : (script : Script) (k : ℕ) (w : World) → world.steps_from script [] k w ≡ Going w
unfolding world.steps_from
stays script k w = refl

pub new_where_apart : NewWhereApart
new_where_apart script known w es k opened a = goes_on script known w k opened es [] k w (no_more k) tt (stays script k w) a
  where
    no_more : (k : ℕ) → k ≡ k + 0
    no_more k = omega arith
