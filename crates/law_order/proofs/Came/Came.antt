-- A message that was carried once at most comes to a vat with one list of arguments: kept by each entry.
use Rattle.std.proofs.Common.{◌≡◌, ℕ, zero, ◌+◌, ◌≤◌, Bool, true, false, List, [], ◌∷◌, length, Some, None, refl, sym, ap, subst, ◌∙◌, ◌⊎◌, inl, inr, arith}
use Rattle.def_machine.specs.Values.{Words, Name, Object}
use Rattle.def_machine.specs.State.{Message, Passeds, Delivery, Note, Deliver, Sends}
use Rattle.def_run.specs.World.{Event, Here, Carried, Link, World, link_at, is_link}
use Rattle.law_fate.specs.Name.Names.{IsAmong, AllOf}
use Rattle.law_fate.proofs.Name.Among.{all_among}
use Rattle.law_fate.specs.Fates.Fate.{one, total, sent_here, sent_by, sent, of_note, in_note}
use Rattle.law_fate.specs.Fates.Carry.{carried_by, carries, fare, weight, link_weight, world_weight}
use Rattle.law_fate.proofs.Fates.RunCounts.{total_append, Apart, AllApart, ends_of}
use Rattle.law_uses.specs.Connectivity.Stems.{Stems}
use Rattle.law_uses.specs.Connectivity.MessageLaws.{NoteStems, AllStem}
use Rattle.law_uses.proofs.Uses.Sources.{one_self, total_in}
use Rattle.law_order.specs.Ordering.Order.{Coming, comes}
use Rattle.law_order.proofs.History.Lines.{among_either, comes_stays, comes_skip}
use Rattle.law_order.proofs.Came.Adding.{Adds}
use Rattle.law_order.proofs.Came.Coming.{Brings, BringsAs, by_send, by_carry, brings_as, brings_same, CameBy, came_or, none_brings}

-- ---- counts

send_counts : (x : Name) (v act : ℕ) (m : Message Name) (e : Event) → e ≡ Here v (Sends act m) → m.id ≡ x → 1 ≤ sent_by x e
unfolding sent_by sent_here
send_counts x v act m e f g = subst (λ z. 1 ≤ sent_by x z) (sym f) (subst (λ z. 1 ≤ one z x) (sym g) (let h = one_self x in omega arith))

carry_counts : (x : Name) (k u v : ℕ) (d : Delivery Name) (n : Name) (verb bytes : Words) (ys : Passeds Name) (e : Event) → e ≡ Carried k u v (Deliver d n verb ys) bytes → d.message ≡ x → 1 ≤ carried_by x e
unfolding carried_by of_note in_note
carry_counts x k u v d n verb bytes ys e f g = subst (λ z. 1 ≤ carried_by x z) (sym f) (subst (λ z. 1 ≤ one z x) (sym g) (let h = one_self x in omega arith))

-- where f counts once at most, two lines that it counts are one
one_line : (f : Event → ℕ) (es : List Event) (a b : Event) → IsAmong a es → IsAmong b es → 1 ≤ f a → 1 ≤ f b → total f es ≤ 1 → a ≡ b
unfolding total
one_line f [] a b i j p q h = absurd i
one_line f (e ∷ es) a b (inl i) (inl j) p q h = i ∙ sym j
one_line f (e ∷ es) a b (inl i) (inr j) p q h = let r = total_in f es b j in let s : f a ≡ f e = ap f i in absurd (few (f a) (f b) (f e) (total f es) s p q r h)
  where
    few : (a b c t : ℕ) → a ≡ c → 1 ≤ a → 1 ≤ b → b ≤ t → c + t ≤ 1 → ⊥
    few a b c t e p q r h = omega arith
one_line f (e ∷ es) a b (inr i) (inl j) p q h = let r = total_in f es a i in let s : f b ≡ f e = ap f j in absurd (few (f b) (f a) (f e) (total f es) s q p r h)
  where
    few : (a b c t : ℕ) → a ≡ c → 1 ≤ a → 1 ≤ b → b ≤ t → c + t ≤ 1 → ⊥
    few a b c t e p q r h = omega arith
one_line f (e ∷ es) a b (inr i) (inr j) p q h = one_line f es a b i j p q (less (f e) (total f es) h)
  where
    less : (c t : ℕ) → c + t ≤ 1 → t ≤ 1
    less c t h = omega arith

fare_least : (n : Name) (c : ℕ) → 1 ≤ c → 1 ≤ fare n c
unfolding fare
fare_least (Object v i) c h = h
fare_least other c h = omega arith

note_weighs : (x : Name) (d : Delivery Name) (n : Name) (verb : Words) (ys : Passeds Name) → d.message ≡ x → 1 ≤ weight x (Deliver d n verb ys)
unfolding weight
note_weighs x d n verb ys e = fare_least n (one d.message x) (subst (λ z. 1 ≤ one z x) (sym e) (let h = one_self x in omega arith))

link_among : (u v : ℕ) (ls : List Link) (l : Link) → link_at u v ls ≡ Some l → IsAmong l ls × (is_link u v l ≡ true)
unfolding link_at
link_among u v [] l e = cc
link_among u v (k ∷ ls) l e = go (is_link u v k) refl e (λ g. link_among u v ls l g)
  where
    go : (b : Bool) → is_link u v k ≡ b → elim b [ true ↦ Some k | false ↦ link_at u v ls ] ≡ Some l → (link_at u v ls ≡ Some l → IsAmong l ls × (is_link u v l ≡ true)) → IsAmong l (k ∷ ls) × (is_link u v l ≡ true)
    go true f g later = let same : k ≡ l = cc in (inl (sym same), subst (λ z. is_link u v z ≡ true) same f)
    go false f g later = let r = later g in (inr r.0, r.1)

apart_among : (ls : List Link) (l : Link) → AllApart ls → IsAmong l ls → l.from ≡ l.to → ⊥
apart_among [] l h i = absurd i
apart_among (k ∷ ls) l h (inl e) = subst Apart (sym e) h.0
apart_among (k ∷ ls) l h (inr i) = apart_among ls l h.1 i

-- ---- an entry

-- what laws of runs say of a world
pub record Facts (x : Name) (w : World) : Type 0 where
  pub bound : carries x w.history + world_weight x w ≤ sent x w.history + sent x w.history
  pub once : sent x w.history ≤ 1
  pub apart : AllApart w.links
  pub stems : AllStem w

-- the message came to each vat as each line that brings it there tells, if it was carried once at most
abbrev pub ComesSo : Name → World → Type 0
ComesSo x w = carries x w.history ≤ 1 → (v : ℕ) (e : Event) (ys : Passeds Name) → IsAmong e w.history → Brings v x e ys → (c : Coming) × (comes v x zero w.history ≡ Some c) × (c.args ≡ ys)

module _ (x : Name) (w y : World) (adds : Adds w y) (before : Facts x w) (after : Facts x y) where
  abbrev Es : List Event
  Es = adds.es

  sends_add : sent x y.history ≡ sent x w.history + sent x Es
  unfolding sent
  sends_add = ap (λ hs. total (sent_by x) hs) adds.lines ∙ total_append (sent_by x) w.history Es

  carries_add : carries x y.history ≡ carries x w.history + carries x Es
  unfolding carries
  carries_add = ap (λ hs. total (carried_by x) hs) adds.lines ∙ total_append (carried_by x) w.history Es

  sends_in : (hs : List Event) (v act : ℕ) (m : Message Name) (e : Event) → IsAmong e hs → e ≡ Here v (Sends act m) → m.id ≡ x → 1 ≤ sent x hs
  unfolding sent
  sends_in hs v act m e i f g = let a = total_in (sent_by x) hs e i in let b = send_counts x v act m e f g in omega arith

  carries_in : (hs : List Event) (k u v : ℕ) (d : Delivery Name) (n : Name) (verb bytes : Words) (ys : Passeds Name) (e : Event) → IsAmong e hs → e ≡ Carried k u v (Deliver d n verb ys) bytes → d.message ≡ x → 1 ≤ carries x hs
  unfolding carries
  carries_in hs k u v d n verb bytes ys e i f g = let a = total_in (carried_by x) hs e i in let b = carry_counts x k u v d n verb bytes ys e f g in omega arith

  link_weighs : (l : Link) (n : Note Name) → IsAmong l w.links → IsAmong n l.notes → weight x n ≤ world_weight x w
  unfolding world_weight link_weight
  link_weighs l n i j = let a = total_in (weight x) l.notes n j in let b = total_in (λ (k : Link). total (weight x) k.notes) w.links l i in omega arith

  -- what is carried then was sent before
  carried_was_sent : (k u v : ℕ) (d : Delivery Name) (n : Name) (verb bytes : Words) (ys : Passeds Name) (e : Event) → IsAmong e Es → e ≡ Carried k u v (Deliver d n verb ys) bytes → d.message ≡ x → 1 ≤ sent x w.history
  carried_was_sent k u v d n verb bytes ys e i f g =
      let first = adds.first k u v (Deliver d n verb ys) bytes (subst (λ z. IsAmong z Es) f i) in
      let there = link_among u v w.links first.link first.found in
      let a = link_weighs first.link (Deliver d n verb ys) there.0 (subst (λ ns. IsAmong (Deliver d n verb ys) ns) (sym first.notes) (inl refl)) in
      let b = note_weighs x d n verb ys g in let c = before.bound in omega arith

  -- a message that was sent at the vat to which it is carried now was carried before
  module _ (few : carries x y.history ≤ 1) (k u v : ℕ) (d : Delivery Name) (n : Name) (verb bytes : Words) (ys : Passeds Name) (e : Event) (i : IsAmong e Es) (f : e ≡ Carried k u v (Deliver d n verb ys) bytes) (g : d.message ≡ x) where
    none_before : carries x w.history ≡ 0
    none_before = let a = carries_in Es k u v d n verb bytes ys e i f g in let b = carries_add in omega arith

    stem_apart : (l : Link) → l.to ≡ v → (l.from ≡ l.to → ⊥) → (m : Message Name) → m.id ≡ x → Stems w l.from m → (act : ℕ) (o : Message Name) (h : Event) → IsAmong h w.history → h ≡ Here v (Sends act o) → o.id ≡ x → ⊥
    unfolding total sent
    stem_apart l to apart m same (Stems.sent a z line there) act o h j p q =
        let one : Here l.from (Sends a (record m { target = z })) ≡ h = one_line (sent_by x) w.history (Here l.from (Sends a (record m { target = z }))) h line j (send_counts x l.from a (record m { target = z }) (Here l.from (Sends a (record m { target = z }))) refl same) (send_counts x v act o h p q) before.once in
        apart (from_is l.from v a act (record m { target = z }) o (one ∙ p) ∙ sym to)
      where
        from_is : (a b c d : ℕ) (m n : Message Name) → Here a (Sends c m) ≡ Here b (Sends d n) → a ≡ b
        from_is a b c d m n e = cc
    stem_apart l to apart m same (Stems.carried b p z zs (r, s, t, id, line) rest named verbs leads leads2 passes come) act o h j q i2 =
        absurd (zero_one (carries x w.history) none_before (carries_in w.history r b l.from s z m.verb t zs (Carried r b l.from (Deliver s z m.verb zs) t) line refl (id ∙ same)))
      where
        zero_one : (c : ℕ) → c ≡ 0 → 1 ≤ c → ⊥
        zero_one c e h = omega arith

    not_sent_there : (act : ℕ) (o : Message Name) (h : Event) → IsAmong h w.history → h ≡ Here v (Sends act o) → o.id ≡ x → ⊥
    not_sent_there act o h j p q =
        let first = adds.first k u v (Deliver d n verb ys) bytes (subst (λ z. IsAmong z Es) f i) in
        let there = link_among u v w.links first.link first.found in
        let ends = ends_of u v first.link there.1 in
        let stems : NoteStems w first.link.from (Deliver d n verb ys) = all_among (NoteStems w first.link.from) first.link.notes (Deliver d n verb ys) (all_among (λ (l : Link). AllOf (NoteStems w l.from) l.notes) w.links first.link before.stems.links there.0) (subst (λ ns. IsAmong (Deliver d n verb ys) ns) (sym first.notes) (inl refl)) in
        stem_apart first.link ends.1 (apart_among w.links first.link before.apart there.0) stems.0 (stems.2 ∙ g) stems.1 act o h j p q

  module _ (few : carries x y.history ≤ 1) where
    two_sent : 1 ≤ sent x w.history → 1 ≤ sent x Es → ⊥
    two_sent a b = let c = sends_add in let d = after.once in omega arith

    two_carried : 1 ≤ carries x w.history → 1 ≤ carries x Es → ⊥
    two_carried a b = let c = carries_add in omega arith

    carried_sent : 1 ≤ carries x w.history → 1 ≤ sent x w.history
    carried_sent a = let b = before.bound in omega arith

    -- what a new line brings did not come before
    apart_lines : (v : ℕ) (e h : Event) (ys zs : Passeds Name) → IsAmong e Es → BringsAs v x e ys → IsAmong h w.history → BringsAs v x h zs → ⊥
    apart_lines v e h ys zs i (by_send a m p q) j (by_send b o r s) = two_sent (sends_in w.history v b o h j r s) (sends_in Es v a m e i p q)
    apart_lines v e h ys zs i (by_send a m p q) j (by_carry k u d n verb bytes us r s) = two_sent (carried_sent (carries_in w.history k u v d n verb bytes us h j r s)) (sends_in Es v a m e i p q)
    apart_lines v e h ys zs i (by_carry k u d n verb bytes us p q) j (by_send b o r s) = not_sent_there few k u v d n verb bytes us e i p q b o h j r s
    apart_lines v e h ys zs i (by_carry k u d n verb bytes us p q) j (by_carry l t c o vs fs ts r s) = two_carried (carries_in w.history l t v c o vs fs ts h j r s) (carries_in Es k u v d n verb bytes us e i p q)

    -- and what new lines bring is one
    sends_few : sent x Es ≤ 1
    sends_few = let a = sends_add in let b = after.once in omega arith

    carries_few : carries x Es ≤ 1
    carries_few = let a = carries_add in omega arith

    same_line : (v : ℕ) (e h : Event) (ys zs : Passeds Name) → IsAmong e Es → BringsAs v x e ys → IsAmong h Es → BringsAs v x h zs → e ≡ h
    unfolding sent carries
    same_line v e h ys zs i (by_send a m p q) j (by_send b o r s) = one_line (sent_by x) Es e h i j (send_counts x v a m e p q) (send_counts x v b o h r s) sends_few
    same_line v e h ys zs i (by_send a m p q) j (by_carry k u d n verb bytes us r s) = absurd (two_sent (carried_was_sent k u v d n verb bytes us h j r s) (sends_in Es v a m e i p q))
    same_line v e h ys zs i (by_carry k u d n verb bytes us p q) j (by_send b o r s) = absurd (two_sent (carried_was_sent k u v d n verb bytes us e i p q) (sends_in Es v b o h j r s))
    same_line v e h ys zs i (by_carry k u d n verb bytes us p q) j (by_carry l t c o vs fs ts r s) = one_line (carried_by x) Es e h i j (carry_counts x k u v d n verb bytes us e p q) (carry_counts x l t v c o vs fs ts h r s) carries_few

    abbrev Came : ℕ → Passeds Name → Type 0
    Came v ys = (c : Coming) × (comes v x zero y.history ≡ Some c) × (c.args ≡ ys)

    new_line : (v : ℕ) (e : Event) (ys : Passeds Name) → IsAmong e Es → Brings v x e ys → Came v ys
    new_line v e ys i b = go (came_or v x zero w.history)
      where
        late : comes v x zero w.history ≡ None → (comes v x (length w.history) Es ≡ None) ⊎ CameBy v x (length w.history) Es → Came v ys
        late none (inl n) = absurd (none_brings v x (length w.history) Es e ys n i b)
        late none (inr r) = let one = same_line v r.line e r.coming.args ys r.among (brings_as v x r.line r.coming.args r.brings) i (brings_as v x e ys b) in (
          r.coming,
          ap (λ hs. comes v x zero hs) adds.lines ∙ comes_skip v x zero (length w.history) w.history Es (omega arith) none ∙ r.came,
          brings_same v x e r.coming.args ys (subst (λ z. Brings v x z r.coming.args) one r.brings) b,
        )

        go : (comes v x zero w.history ≡ None) ⊎ CameBy v x zero w.history → Came v ys
        go (inl none) = late none (came_or v x (length w.history) Es)
        go (inr r) = absurd (apart_lines v e r.line ys r.coming.args i (brings_as v x e ys b) r.among (brings_as v x r.line r.coming.args r.brings))

    old_line : (v : ℕ) (ys : Passeds Name) → (c : Coming) × (comes v x zero w.history ≡ Some c) × (c.args ≡ ys) → Came v ys
    old_line v ys (c, came, same) = (c, ap (λ hs. comes v x zero hs) adds.lines ∙ comes_stays v x zero w.history Es c came, same)

  pub kept : ComesSo x w → ComesSo x y
  kept h few v e ys i b = go (among_either e w.history Es (subst (λ hs. IsAmong e hs) adds.lines i))
    where
      less : carries x w.history ≤ 1
      less = let a = carries_add in omega arith

      go : IsAmong e w.history ⊎ IsAmong e Es → (c : Coming) × (comes v x zero y.history ≡ Some c) × (c.args ≡ ys)
      go (inl j) = old_line few v ys (h less v e ys j b)
      go (inr j) = new_line few v e ys j b
