-- While a message may yet go on from a host, its answers at other hosts are known nowhere; and while it is under way its answer is not known at its end: what a step of one vat keeps of that, by counts.
use Rattle.std.proofs.Common.{◌≡◌, ℕ, zero, suc, ◌+◌, ◌≤◌, List, [], ◌∷◌, Option, Some, None, refl, sym, ◌∙◌, ◌⊎◌, inl, inr, arith, subst}
use Rattle.std.specs.Prelude.{slice_get}
use Rattle.def_machine.specs.Values.{Name, Answer, Sent, Msg}
use Rattle.def_machine.specs.State.{Known, Note, Deliver, Put, Vat}
use Rattle.def_run.specs.World.{Link, link_at, put_at, push_all}
use Rattle.law_fate.specs.Fates.Fate.{total, one as same_one, once as same_once, at_vat, in_note, of_note, on_link}
use Rattle.law_fate.specs.Fates.Carry.{held_at, put_weight, load, link_weight}
use Rattle.law_fate.specs.Name.Names.{AllOf, IsAmong, names_in}
use Rattle.law_fate.proofs.Name.Facts.{all_map}
use Rattle.law_fate.proofs.Name.SameNames.{same_self}
use Rattle.law_reference.specs.Reference.Knowing.{claims, numbered_at}
use Rattle.law_reference.specs.Reference.Behind.{NamesNot, Bears}
use Rattle.law_reference.proofs.Reference.First.{PutsFirst, among_dec}
use Rattle.law_reference.proofs.Reference.Follow.{put_cases, eq_dec}
use Rattle.law_reference.proofs.Reference.AnswerLinks.{AtLink, push_others, push_where, pushed_all}
use Rattle.law_reference.proofs.Reference.Onward.{Mailed, claims_known, claims_both, claims_held, claims_own}
use Rattle.law_reference.proofs.Reference.Places.{held_places, link_most, link_least, note_least, put_to, put_most, put_two, pushed_from, first_weighs}

pub self_least : (m : Msg) → 1 ≤ same_one (Sent m) (Sent m)
unfolding same_one same_once
self_least m = rw (same_self (Sent m)) (omega arith)

some_same : (s t : Vat Name) → ◌≡◌ {A = Option (Vat Name)} (Some s) (Some t) → s ≡ t
some_same s t e = cc

-- a name is known to one of these, or to none
pub known_dec : (x : Name) (ws : List (Vat Name)) → ((z : ℕ) × (r : Vat Name) × (slice_get ws z ≡ Some r) × IsAmong x (names_in r.known)) ⊎ ((z : ℕ) (r : Vat Name) → slice_get ws z ≡ Some r → IsAmong x (names_in r.known) → ⊥)
known_dec x [] = inr (λ z r e k. none_there e)
  where
    none_there : {r : Vat Name} → ◌≡◌ {A = Option (Vat Name)} None (Some r) → ⊥
    none_there e = cc
known_dec x (w ∷ ws) = either (among_dec x (names_in w.known)) (known_dec x ws)
  where
    either : IsAmong x (names_in w.known) ⊎ (IsAmong x (names_in w.known) → ⊥) → ((z : ℕ) × (r : Vat Name) × (slice_get ws z ≡ Some r) × IsAmong x (names_in r.known)) ⊎ ((z : ℕ) (r : Vat Name) → slice_get ws z ≡ Some r → IsAmong x (names_in r.known) → ⊥)
        → ((z : ℕ) × (r : Vat Name) × (slice_get (w ∷ ws) z ≡ Some r) × IsAmong x (names_in r.known)) ⊎ ((z : ℕ) (r : Vat Name) → slice_get (w ∷ ws) z ≡ Some r → IsAmong x (names_in r.known) → ⊥)
    either (inl a) rest = inl (0, w, refl, a)
    either (inr f) (inl h) = inl (suc h.0, h.1, h.2, h.3)
    either (inr f) (inr g) = inr none
      where
        none : (z : ℕ) (r : Vat Name) → slice_get (w ∷ ws) z ≡ Some r → IsAmong x (names_in r.known) → ⊥
        none zero r e k = f (rw (sym (some_same w r e)) at k)
        none (suc z) r e k = g z r e k

-- Where an answer at g is known somewhere, its message is held at no other vat, and on its way to none from where it might go on.
abbrev pub ApartIn : Msg → List (Vat Name) → List Link → Type 0
ApartIn m ws ks = (h g z : ℕ) (r : Vat Name) → (g ≡ h → ⊥) → slice_get ws z ≡ Some r → IsAmong (Answer g m) (names_in r.known)
    → ((q : Vat Name) → slice_get ws h ≡ Some q → held_at (Sent m) q.known ≤ 0) × ((a : ℕ) → AtLink a h (λ l. link_weight (Sent m) l ≤ 1) ks)

-- Where g knows its answer, the message is on no link to it.
abbrev pub EarlyIn : Msg → List (Vat Name) → List Link → Type 0
EarlyIn m ws ks = (a g : ℕ) (r : Vat Name) → slice_get ws g ≡ Some r → IsAmong (Answer g m) (names_in r.known) → AtLink a g (λ l. on_link (Sent m) l ≤ 0) ks

-- the note of the message does not name its answer
abbrev pub SelfNotIn : Msg → ℕ → Note Name → Type 0
SelfNotIn m g n = 1 ≤ of_note (Sent m) n → NamesNot (Answer g m) n

abbrev pub SelflessIn : Msg → List Link → Type 0
SelflessIn m ks = (a g : ℕ) → AtLink a g (λ l. AllOf (SelfNotIn m g) l.notes) ks

module _ (vs : List (Vat Name)) (v : ℕ) (s t : Vat Name) (ls : List Link) (there : slice_get vs v ≡ Some s) (m : Msg) where
  abbrev pub M : Name
  M = Sent m

  abbrev pub X : ℕ → Name
  X g = Answer g m

  abbrev pub Knows : ℕ → Vat Name → Type 0
  Knows g r = IsAmong (X g) (names_in r.known)

  -- it is known to a vat
  abbrev pub Somewhere : ℕ → Type 0
  Somewhere g = (z : ℕ) × (r : Vat Name) × (slice_get vs z ≡ Some r) × Knows g r

  abbrev pub Nowhere : ℕ → Type 0
  Nowhere g = (z : ℕ) (r : Vat Name) → slice_get vs z ≡ Some r → Knows g r → ⊥

  -- the note of the message does not name its answer
  abbrev pub SelfNot : ℕ → Note Name → Type 0
  SelfNot g n = 1 ≤ of_note M n → NamesNot (X g) n

  -- A message was made before, and is not sent again; or it is new.
  abbrev pub Older : ℕ → Type 0
  Older sends = (sends ≤ 0) × ((g : ℕ) → numbered_at v (X g) t ≤ numbered_at v (X g) s)

  pub record Newer (arr lv sends : ℕ) : Type 0 where
    pub sent : sends ≤ 1
    pub vats : (u : ℕ) (r : Vat Name) → slice_get vs u ≡ Some r → at_vat M r ≤ 0
    pub links : (a b : ℕ) → AtLink a b (λ l. on_link M l ≤ 0) ls
    pub known : (g : ℕ) → Nowhere g
    pub come : (arr ≤ 0) × (lv ≤ 0)
    pub numbered : (g : ℕ) → numbered_at v (X g) t ≤ numbered_at v (X g) s + 1
    pub fresh : (load M t ≤ 1) ⊎ (claims v (X v) t.known ≤ 0)

  -- what is known of a step, where a message comes with a note arr times, and its note leaves lv to it
  pub record Facts (arr lv sends : ℕ) : Type 0 where
    pub vat_arr : (u : ℕ) (r : Vat Name) → slice_get vs u ≡ Some r → at_vat M r + arr ≤ 1
    pub two_vats : (u z : ℕ) (r q : Vat Name) → (u ≡ z → ⊥) → slice_get vs u ≡ Some r → slice_get vs z ≡ Some q → at_vat M r + at_vat M q ≤ 1
    pub vat_link : (u : ℕ) (r : Vat Name) (a b : ℕ) → slice_get vs u ≡ Some r → AtLink a b (λ l. at_vat M r + on_link M l ≤ 1) ls
    pub link_arr : (a b : ℕ) → AtLink a b (λ l. on_link M l + arr ≤ 1) ls
    pub weighs : load M t ≤ lv + held_at M s.known + (sends + sends)
    pub leaves : lv ≤ arr
    pub leg : (g : ℕ) → (g ≡ v → ⊥) → Somewhere g → lv ≤ 0
    pub comes : (g : ℕ) → Nowhere g → claims v (X g) t.known + numbered_at v (X g) s ≤ claims v (X g) s.known + numbered_at v (X g) t + arr
    pub comes_own : (Knows v s → ⊥) → claims v (X v) t.known + numbered_at v (X v) s ≤ claims v (X v) s.known + numbered_at v (X v) t + arr
    pub held_apart : (h g : ℕ) → (g ≡ h → ⊥) → Somewhere g → (q : Vat Name) → slice_get vs h ≡ Some q → held_at M q.known ≤ 0
    pub link_apart : (h g : ℕ) → (g ≡ h → ⊥) → Somewhere g → (a : ℕ) → AtLink a h (λ l. link_weight M l ≤ 1) ls
    pub early : (a g : ℕ) (r : Vat Name) → slice_get vs g ≡ Some r → Knows g r → AtLink a g (λ l. on_link M l ≤ 0) ls
    pub first : (g : ℕ) → (g ≡ v → ⊥) → Knows g t → Nowhere g → PutsFirst g m t.outbox
    pub mailed : AllOf (λ (k : Known Name). Mailed k.held) s.known
    pub no_self : (u : ℕ) → AtLink u u (λ l. ⊥) ls
    pub selfless : (a g : ℕ) → AtLink a g (λ l. AllOf (SelfNot g) l.notes) ls
    pub puts_once : total (λ (p : Put Name). of_note M p.note) t.outbox ≤ 1
    pub outs_not : (g : ℕ) → (Knows g t → ⊥) → AllOf (λ (p : Put Name). NamesNot (X g) p.note) t.outbox
    pub age : Older sends ⊎ Newer arr lv sends

  module _ (arr lv sends : ℕ) (f : Facts arr lv sends) where
    abbrev pub After : List (Vat Name)
    After = put_at v t vs

    abbrev pub Links : List Link
    Links = push_all v t.outbox ls

    load_held : held_at M t.known ≤ load M t
    unfolding load
    load_held = omega arith

    load_put : put_weight M t.outbox ≤ load M t
    unfolding load
    load_put = omega arith

    here : held_at M s.known + arr ≤ 1
    here = let a = f.vat_arr v s there in let b = held_places M s in omega arith

    -- ---- where it was known before

    old_weight : (g : ℕ) → Somewhere g → load M t ≤ lv + held_at M s.known
    old_weight g k = by_age f.age
      where
        by_age : Older sends ⊎ Newer arr lv sends → load M t ≤ lv + held_at M s.known
        by_age (inl o) = let a = o.0 in let b = f.weighs in omega arith
        by_age (inr n) = absurd (n.known g k.0 k.1 k.2 k.3)

    old_held : (h g : ℕ) → (g ≡ h → ⊥) → Somewhere g → (q : Vat Name) → slice_get After h ≡ Some q → held_at M q.known ≤ 0
    old_held h g apart k q e = either (put_cases v t vs h q e)
      where
        mine : h ≡ v → held_at M t.known ≤ 0
        mine i = let other : g ≡ v → ⊥ = λ j. apart (j ∙ sym i) in let a = f.held_apart v g other k s there in let b = f.leg g other k in let c = old_weight g k in let d = load_held in omega arith

        either : ((h ≡ v) × (t ≡ q)) ⊎ ((h ≡ v → ⊥) × (slice_get vs h ≡ Some q)) → held_at M q.known ≤ 0
        either (inl i) = subst (λ (z : Vat Name). held_at M z.known ≤ 0) i.1 (mine i.0)
        either (inr i) = f.held_apart h g apart k q i.1

    old_link : (h g : ℕ) → (g ≡ h → ⊥) → Somewhere g → (a : ℕ) → AtLink a h (λ l. link_weight M l ≤ 1) Links
    old_link h g apart k a = either (eq_dec a v)
      where
        mine : AtLink v h (λ l. link_weight M l ≤ 1) Links
        mine l e = let from = pushed_from M v h t.outbox ls l e in let j : Link = from.0 in let i : link_at v h ls ≡ Some j = from.1 in let w = from.2 in
            let a1 = f.link_apart h g apart k v j i in let a2 = link_most M j in let a3 = f.vat_link v s v h there j i in let a4 = f.link_arr v h j i in let a5 = held_places M s in let a6 = f.leaves in let a7 = put_most M h t.outbox in let a8 = load_put in
            let a9 = old_weight g k in let b1 = here in omega arith

        either : (a ≡ v) ⊎ (a ≡ v → ⊥) → AtLink a h (λ l. link_weight M l ≤ 1) Links
        either (inl i) = subst (λ z. AtLink z h (λ l. link_weight M l ≤ 1) Links) (sym i) mine
        either (inr n) = push_others a h v (λ l. link_weight M l ≤ 1) t.outbox ls n (f.link_apart h g apart k a)

    -- ---- where the vat comes to know it

    -- what it costs: a message that was held, or came
    module _ (h g : ℕ) (apart : g ≡ h → ⊥) (k : Knows g t) (none : Nowhere g) where
      unknown : Knows g s → ⊥
      unknown a = none v s there a

      was_held : claims v (X g) s.known ≤ held_at M s.known
      was_held = claims_held v g m s.known f.mailed unknown

      paid : Older sends → 1 ≤ held_at M s.known + arr
      paid o = let a = claims_known v (X g) t.known k in let b = f.comes g none in let c = was_held in let d = o.1 g in omega arith

      paid_both : Older sends → (g ≡ v → ⊥) → 1 + held_at M t.known ≤ held_at M s.known + arr
      paid_both o other = let a = claims_both v g m t.known other k in let b = f.comes g none in let c = was_held in let d = o.1 g in omega arith

      new_held : (q : Vat Name) → slice_get After h ≡ Some q → held_at M q.known ≤ 0
      new_held q e = either (put_cases v t vs h q e) f.age
        where
          mine_old : h ≡ v → Older sends → held_at M t.known ≤ 0
          mine_old i o = let other : g ≡ v → ⊥ = λ j. apart (j ∙ sym i) in let a = paid_both o other in let b = here in omega arith

          mine_new : h ≡ v → Newer arr lv sends → held_at M t.known ≤ 0
          mine_new i n = let other : g ≡ v → ⊥ = λ j. apart (j ∙ sym i) in let a = claims_both v g m t.known other k in let b = f.comes g none in let c = was_held in let d = n.numbered g in let w = n.vats v s there in let x = held_places M s in let come = n.come in let y = come.0 in omega arith

          either : ((h ≡ v) × (t ≡ q)) ⊎ ((h ≡ v → ⊥) × (slice_get vs h ≡ Some q)) → Older sends ⊎ Newer arr lv sends → held_at M q.known ≤ 0
          either (inl i) (inl o) = subst (λ (z : Vat Name). held_at M z.known ≤ 0) i.1 (mine_old i.0 o)
          either (inl i) (inr n) = subst (λ (z : Vat Name). held_at M z.known ≤ 0) i.1 (mine_new i.0 n)
          either (inr i) (inl o) = let a = paid o in let b = f.two_vats h v q s i.0 i.1 there in let c = f.vat_arr h q i.1 in let d = held_places M q in let e1 = held_places M s in omega arith
          either (inr i) (inr n) = let a = n.vats h q i.1 in let b = held_places M q in omega arith

      new_link : (a : ℕ) → AtLink a h (λ l. link_weight M l ≤ 1) Links
      new_link a = either (eq_dec a v) f.age
        where
          old_others : Older sends → (b : ℕ) → AtLink b h (λ l. link_weight M l ≤ 1) ls
          old_others o b l e = let x = paid o in let y = f.vat_link v s b h there l e in let z = f.link_arr b h l e in let w = link_most M l in let u = held_places M s in omega arith

          new_others : Newer arr lv sends → (b : ℕ) → AtLink b h (λ l. link_weight M l ≤ 1) ls
          new_others n b l e = let x = n.links b h l e in let y = link_most M l in omega arith

          mine_old : Older sends → AtLink v h (λ l. link_weight M l ≤ 1) Links
          mine_old o l e = let from = pushed_from M v h t.outbox ls l e in let j : Link = from.0 in let i : link_at v h ls ≡ Some j = from.1 in let w = from.2 in
              let x = paid o in let y = f.vat_link v s v h there j i in let z = f.link_arr v h j i in let u = link_most M j in let r = held_places M s in
              let a5 = f.weighs in let a6 = f.leaves in let a7 = put_most M h t.outbox in let a8 = load_put in let a9 = here in let b1 = o.0 in omega arith

          mine_new : Newer arr lv sends → AtLink v h (λ l. link_weight M l ≤ 1) Links
          mine_new n l e = let from = pushed_from M v h t.outbox ls l e in let j : Link = from.0 in let i : link_at v h ls ≡ Some j = from.1 in let w = from.2 in let x = n.links v h j i in let y = link_most M j in
              let z : put_to M h t.outbox ≤ 1 = by_host (eq_dec g v) in omega arith
            where
              total : put_weight M t.outbox ≤ 2
              total = let a = f.weighs in let b = load_put in let c = n.sent in let d = n.vats v s there in let e1 = held_places M s in let come = n.come in let y1 = come.1 in omega arith

              by_fresh : g ≡ v → (load M t ≤ 1) ⊎ (claims v (X v) t.known ≤ 0) → put_to M h t.outbox ≤ 1
              by_fresh i (inl c) = let a = put_most M h t.outbox in let b = load_put in omega arith
              by_fresh i (inr c) = let k1 : Knows v t = subst (λ z. Knows z t) i k in let a = claims_known v (X v) t.known k1 in absurd (omega arith)

              by_host : (g ≡ v) ⊎ (g ≡ v → ⊥) → put_to M h t.outbox ≤ 1
              by_host (inl i) = by_fresh i n.fresh
              by_host (inr other) = let a = first_weighs g m t.outbox (f.first g other k none) in let b = put_two M h g t.outbox (λ j. apart (sym j)) in let c = total in omega arith

          either : (a ≡ v) ⊎ (a ≡ v → ⊥) → Older sends ⊎ Newer arr lv sends → AtLink a h (λ l. link_weight M l ≤ 1) Links
          either (inl i) (inl o) = subst (λ z. AtLink z h (λ l. link_weight M l ≤ 1) Links) (sym i) (mine_old o)
          either (inl i) (inr n) = subst (λ z. AtLink z h (λ l. link_weight M l ≤ 1) Links) (sym i) (mine_new n)
          either (inr i) (inl o) = push_others a h v (λ l. link_weight M l ≤ 1) t.outbox ls i (old_others o a)
          either (inr i) (inr n) = push_others a h v (λ l. link_weight M l ≤ 1) t.outbox ls i (new_others n a)

    -- ---- the first leg

    -- known before, or now to this vat alone
    known_when : (g z : ℕ) (r : Vat Name) → slice_get After z ≡ Some r → Knows g r → Somewhere g ⊎ Knows g t
    known_when g z r e k = either (put_cases v t vs z r e)
      where
        either : ((z ≡ v) × (t ≡ r)) ⊎ ((z ≡ v → ⊥) × (slice_get vs z ≡ Some r)) → Somewhere g ⊎ Knows g t
        either (inl i) = inr (subst (λ (z : Vat Name). Knows g z) (sym i.1) k)
        either (inr i) = inl (z, r, i.1, k)

    pub apart_next : ApartIn m After Links
    apart_next h g z r apart e k = either (known_when g z r e k) (known_dec (X g) vs)
      where
        either : Somewhere g ⊎ Knows g t → Somewhere g ⊎ Nowhere g → ((q : Vat Name) → slice_get After h ≡ Some q → held_at M q.known ≤ 0) × ((a : ℕ) → AtLink a h (λ l. link_weight M l ≤ 1) Links)
        either (inl o) d = (old_held h g apart o, old_link h g apart o)
        either (inr n) (inl o) = (old_held h g apart o, old_link h g apart o)
        either (inr n) (inr none) = (new_held h g apart n none, new_link h g apart n none)

    -- ---- under way, and not known at its end

    -- to this vat
    early_here : (a : ℕ) → Knows v t → AtLink a v (λ l. on_link M l ≤ 0) Links
    early_here a k = either (eq_dec a v) (among_dec (X v) (names_in s.known)) f.age
      where
        kept : Knows v s → AtLink a v (λ l. on_link M l ≤ 0) ls
        kept o = f.early a v s there o

        come : (Knows v s → ⊥) → Older sends → AtLink a v (λ l. on_link M l ≤ 0) ls
        come n o l e = let x = claims_known v (X v) t.known k in let y = f.comes_own n in let z = claims_own v m s.known f.mailed n in let w = o.1 v in let u = f.link_arr a v l e in omega arith

        self_none : a ≡ v → AtLink a v (λ l. on_link M l ≤ 0) Links
        self_none i = subst (λ z. AtLink z v (λ l. on_link M l ≤ 0) Links) (sym i) none
          where
            none : AtLink v v (λ l. on_link M l ≤ 0) Links
            none l e = let from = pushed_from M v v t.outbox ls l e in let j : Link = from.0 in let x : link_at v v ls ≡ Some j = from.1 in absurd (f.no_self v j x)

        either : (a ≡ v) ⊎ (a ≡ v → ⊥) → Knows v s ⊎ (Knows v s → ⊥) → Older sends ⊎ Newer arr lv sends → AtLink a v (λ l. on_link M l ≤ 0) Links
        either (inl i) d g = self_none i
        either (inr i) (inl o) g = push_others a v v (λ l. on_link M l ≤ 0) t.outbox ls i (kept o)
        either (inr i) (inr n) (inl o) = push_others a v v (λ l. on_link M l ≤ 0) t.outbox ls i (come n o)
        either (inr i) (inr n) (inr w) = push_others a v v (λ l. on_link M l ≤ 0) t.outbox ls i (w.links a v)

    -- where another vat's answer is known somewhere, the vat has and puts none of the message
    weighs_none : (g : ℕ) → (g ≡ v → ⊥) → Somewhere g → load M t ≤ 0
    weighs_none g other some = by_age f.age
      where
        by_age : Older sends ⊎ Newer arr lv sends → load M t ≤ 0
        by_age (inl o) = let x = f.weighs in let y = f.leg g other some in let z = f.held_apart v g other some s there in let w = o.0 in omega arith
        by_age (inr n) = absurd (n.known g some.0 some.1 some.2 some.3)

    -- to another, from this one or from others
    early_there : (a g : ℕ) (r : Vat Name) → (g ≡ v → ⊥) → slice_get vs g ≡ Some r → Knows g r → AtLink a g (λ l. on_link M l ≤ 0) Links
    early_there a g r other e k = either (eq_dec a v)
      where
        some : Somewhere g
        some = (g, r, e, k)

        none : load M t ≤ 0
        none = weighs_none g other some

        mine : AtLink v g (λ l. on_link M l ≤ 0) Links
        mine l i = let from = pushed_from M v g t.outbox ls l i in let j : Link = from.0 in let x : link_at v g ls ≡ Some j = from.1 in let w = from.2 in let y = f.early v g r e k j x in let z = link_most M j in let u = link_least M l in let p = put_most M g t.outbox in let q = load_put in let n = none in omega arith

        either : (a ≡ v) ⊎ (a ≡ v → ⊥) → AtLink a g (λ l. on_link M l ≤ 0) Links
        either (inl i) = subst (λ z. AtLink z g (λ l. on_link M l ≤ 0) Links) (sym i) mine
        either (inr i) = push_others a g v (λ l. on_link M l ≤ 0) t.outbox ls i (f.early a g r e k)

    pub early_next : EarlyIn m After Links
    early_next a g r e k = either (put_cases v t vs g r e)
      where
        here_at : g ≡ v → Knows g t → AtLink a g (λ l. on_link M l ≤ 0) Links
        here_at i n = let n1 : Knows v t = subst (λ z. Knows z t) i n in subst (λ z. AtLink a z (λ l. on_link M l ≤ 0) Links) (sym i) (early_here a n1)

        either : ((g ≡ v) × (t ≡ r)) ⊎ ((g ≡ v → ⊥) × (slice_get vs g ≡ Some r)) → AtLink a g (λ l. on_link M l ≤ 0) Links
        either (inl i) = here_at i.0 (subst (λ (z : Vat Name). Knows g z) (sym i.1) k)
        either (inr i) = early_there a g r i.0 i.1 k

    -- ---- the note of the message does not name its answer

    none_put : (g : ℕ) (ps : List (Put Name)) → put_weight M ps ≤ 0 → AllOf (λ (p : Put Name). SelfNot g p.note) ps
    unfolding put_weight
    none_put g [] h = tt
    none_put g (p ∷ ps) h = ((λ i. let w = note_least M p.note in absurd (omega arith)), none_put g ps (omega arith))

    none_more : (g : ℕ) (ps : List (Put Name)) → total (λ (p : Put Name). of_note M p.note) ps ≤ 0 → AllOf (λ (p : Put Name). SelfNot g p.note) ps
    unfolding total
    none_more g [] h = tt
    none_more g (p ∷ ps) h = ((λ i. absurd (omega arith)), none_more g ps (omega arith))

    bears_not : (g : ℕ) (n : Note Name) → Bears m (X g) n → (1 ≤ of_note M n) × NamesNot (X g) n
    unfolding of_note in_note
    bears_not g (Deliver d x verb ys) b = (is_one d.message b.0, b.2)
      where
        is_one : (id : Name) → id ≡ M → 1 ≤ same_one id M
        is_one id e = rw e (self_least m)
    bears_not g other b = absurd b

    first_self : (g : ℕ) (ps : List (Put Name)) → PutsFirst g m ps → total (λ (p : Put Name). of_note M p.note) ps ≤ 1 → AllOf (λ (p : Put Name). SelfNot g p.note) ps
    unfolding total
    first_self g [] h o = absurd h
    first_self g (p ∷ ps) (inl b) o = let x = bears_not g p.note b.1 in let y = x.0 in ((λ i. x.1), none_more g ps (omega arith))
    first_self g (p ∷ ps) (inr h) o = ((λ i. h.0), first_self g ps h.1 (omega arith))

    puts_self : (g : ℕ) → (g ≡ v → ⊥) → AllOf (λ (p : Put Name). SelfNot g p.note) t.outbox
    puts_self g other = either (among_dec (X g) (names_in t.known)) (known_dec (X g) vs)
      where
        either : Knows g t ⊎ (Knows g t → ⊥) → Somewhere g ⊎ Nowhere g → AllOf (λ (p : Put Name). SelfNot g p.note) t.outbox
        either (inr n) d = all_map (λ p k i. k) t.outbox (f.outs_not g n)
        either (inl k) (inl o) = let w = weighs_none g other o in let p = load_put in none_put g t.outbox (omega arith)
        either (inl k) (inr none) = first_self g t.outbox (f.first g other k none) f.puts_once

    pub self_next : SelflessIn m Links
    self_next a g = either (eq_dec a v) (eq_dec g v)
      where
        to_self : AtLink v v (λ l. AllOf (SelfNot v) l.notes) Links
        to_self l e = let from = pushed_from M v v t.outbox ls l e in let j : Link = from.0 in let x : link_at v v ls ≡ Some j = from.1 in absurd (f.no_self v j x)

        mine : (g ≡ v → ⊥) → AtLink v g (λ l. AllOf (SelfNot g) l.notes) Links
        mine other = push_where g v (λ l. AllOf (SelfNot g) l.notes) (SelfNot g) (λ l n r h. pushed_all (SelfNot g) l n r h) t.outbox ls (all_map (λ p k i. k) t.outbox (puts_self g other)) (f.selfless v g)

        either : (a ≡ v) ⊎ (a ≡ v → ⊥) → (g ≡ v) ⊎ (g ≡ v → ⊥) → AtLink a g (λ l. AllOf (SelfNot g) l.notes) Links
        either (inl i) (inl j) = subst (λ z. AtLink z g (λ l. AllOf (SelfNot g) l.notes) Links) (sym i) (subst (λ z. AtLink v z (λ l. AllOf (SelfNot z) l.notes) Links) (sym j) to_self)
        either (inl i) (inr other) = subst (λ z. AtLink z g (λ l. AllOf (SelfNot g) l.notes) Links) (sym i) (mine other)
        either (inr i) d = push_others a g v (λ l. AllOf (SelfNot g) l.notes) t.outbox ls i (f.selfless a g)
