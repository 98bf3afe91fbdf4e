-- The walk over what passes as the arguments of a message: whatever is kept as single names pass is kept as they all do, and what is said of each name that passes is said of each in them.
use Rattle.std.proofs.Common.{◌≡◌, ℕ, zero, suc, ◌-◌, Bool, true, false, List, [], ◌∷◌, Option, Some, None, refl, sym, subst, ◌∙◌, inl, inr, codes, nat_le}
use Rattle.def_machine.specs.Values.{Words, Value, Null, Broken, Items, Ref, Name, Gift, Naming}
use Rattle.def_machine.specs.State.{Passed, Passeds, Plain, AGift, Many, NoMore, More, Vat, Done, Gives, Act, ◌>>=◌, ◌>>◌, and_then, give, look, spend, spent}
use Rattle.def_machine.specs.Native.{list_at}
use Rattle.def_machine.specs.Refs as refs
use Rattle.def_run.specs.World.{Script, Event, World, names}
use Rattle.law_fate.specs.Name.Names.{IsAmong}
use Rattle.law_order.specs.Ordering.Steps.{IsHeld}
use Rattle.law_order.specs.Ordering.Order.{members, names as is_named, passes, passes_as, all_pass_as}
use Rattle.law_order.specs.History.Passings.{OnGives, IsNamedAs, CameAs, AllCame}
use Rattle.law_order.proofs.History.Lines.{among_either}

pub bind_gives : {A B : Type 0} (P : A → Vat Name → Type 0) (Q : B → Vat Name → Type 0) (d : Done Name A) (f : A → Act Name B) → OnGives P d → ((a : A) (t : Vat Name) → P a t → OnGives Q (f a t)) → OnGives Q (and_then d f)
unfolding and_then
bind_gives P Q (Gives a t) f h g = g a t h
bind_gives P Q other f h g = tt

pub map_gives : {A : Type 0} (P Q : A → Vat Name → Type 0) (d : Done Name A) → OnGives P d → ((a : A) (t : Vat Name) → P a t → Q a t) → OnGives Q d
map_gives P Q (Gives a t) h g = g a t h
map_gives P Q other h g = tt

-- it is no list
abbrev pub IsFlat : Passed Name → Type 0
IsFlat (Plain y) = Unit {0}
IsFlat (AGift g i) = Unit {0}
IsFlat (Many ys) = ⊥

module _ (script : Script) (honest : ℕ → Bool) (w : World) (v : ℕ) (Step : Vat Name → Vat Name → Type 0) (B : Vat Name → Vat Name → Name → Name → Type 0) where
  -- As a value passes from q to t, as z, that is said of each name which passes for it.
  pub record LeafOf (q : Vat Name) (x : Value Name) (z : Passed Name) (t : Vat Name) : Type 0 where
    pub step : Step q t
    pub flat : IsFlat z
    pub behind : (e : Name) → x ≡ Ref e → IsHeld script honest w v q (Ref e) → (m : Name) → IsAmong m (passes z) → B q t e m

  -- what is asked of it
  pub record IsPassing (h : ℕ) (Can : Vat Name → Type 0) : Type 0 where
    pub self : (q : Vat Name) → Step q q
    pub joins : (q t u : Vat Name) → Step q t → Step t u → Step q u
    pub follow : {q t : Vat Name} → Step q t → (x : Value Name) → refs.follow (names script v) t x ≡ refs.follow (names script v) q x
    pub lists : {q t : Vat Name} → Step q t → t.lists ≡ q.lists
    pub holds : {q t : Vat Name} → Step q t → (n : Name) → IsHeld script honest w v q (Ref n) → IsHeld script honest w v t (Ref n)
    pub can : (q t : Vat Name) → Step q t → Can q → Can t
    pub fuel : (f : ℕ) (q : Vat Name) → Step q (record q { fuel = f })
    pub on : (q t u : Vat Name) (e m : Name) → Step t u → Can t → B q t e m → B q u e m
    pub from : (q t u : Vat Name) (e m : Name) → Step q t → Can q → B t u e m → B q u e m
    pub leaf : (q : Vat Name) → Can q → (x y : Value Name) → refs.follow (names script v) q x ≡ y → OnGives (λ z t. LeafOf q x z t) (refs.address_plain (names script v) h y (refs.place (names script v) q y) q)

module _ (script : Script) (honest : ℕ → Bool) (w : World) (v h : ℕ) (Can : Vat Name → Type 0) (Step : Vat Name → Vat Name → Type 0) (B : Vat Name → Vat Name → Name → Name → Type 0) (law : IsPassing script honest w v Step B h Can) where
  abbrev K : Naming Name Name
  K = names script v

  -- ---- an argument, with its members

  module _ (done : List Event) where
    abbrev Came : ℕ → Vat Name → Passed Name → Value Name → Type 0
    Came d s z x = CameAs script honest w v h d s done z x

    abbrev AllIn : ℕ → Vat Name → Passeds Name → List (Value Name) → Type 0
    AllIn d s zs xs = AllCame (λ z x. Came d s z x) zs xs

    -- what passed for z stands behind all that was ahead of its names
    record Passes (q : Vat Name) (z y : Passed Name) (t : Vat Name) : Type 0 where
      pub step : Step q t
      pub behind : (e m : Name) → IsAmong m (passes_as v done e y z) → B q t e m

    pub record AllPass (q : Vat Name) (zs ys : Passeds Name) (t : Vat Name) : Type 0 where
      pub step : Step q t
      pub behind : (e m : Name) → IsAmong m (all_pass_as v done e ys zs) → B q t e m

    named_at : (d : ℕ) (s : Vat Name) (z : Passed Name) (x : Value Name) → Came d s z x → IsNamedAs script honest w v h s z x
    named_at zero s z x c = c
    named_at (suc d) s z x c = c.0

    -- a name alone
    flat_passes : (e : Name) (y z : Passed Name) → IsFlat y → (m : Name) → IsAmong m (passes_as v done e y z) → (is_named e z ≡ true) × IsAmong m (passes y)
    unfolding passes_as passes
    flat_passes e (Plain y) z f m i = go (is_named e z) refl i
      where
        go : (b : Bool) → is_named e z ≡ b → IsAmong m (elim b [ true ↦ passes (Plain y) | false ↦ [] ]) → (is_named e z ≡ true) × IsAmong m (passes (Plain y))
        go true k j = (k, j)
        go false k j = absurd j
    flat_passes e (AGift g n) z f m i = go (is_named e z) refl i
      where
        go : (b : Bool) → is_named e z ≡ b → IsAmong m (elim b [ true ↦ Gift g n ∷ [] | false ↦ [] ]) → (is_named e z ≡ true) × IsAmong m (passes (AGift g n))
        go true k j = (k, j)
        go false k j = absurd j
    flat_passes e (Many ys) z f m i = absurd f

    leaf_passes : (q : Vat Name) (z : Passed Name) (x : Value Name) → IsNamedAs script honest w v h q z x → (y : Passed Name) (t : Vat Name) → LeafOf script honest w v Step B q x y t → Passes q z y t
    leaf_passes q z x c y t l = record { step = l.step; behind = behind }
      where
        behind : (e m : Name) → IsAmong m (passes_as v done e y z) → B q t e m
        behind e m i =
            let f = flat_passes e y z l.flat m i in
            let k = c e f.0 in
            l.behind e k.0 k.1 m f.1

    -- ---- from one state to a later one

    all_map : (P Q : Passed Name → Value Name → Type 0) → ((z : Passed Name) (x : Value Name) → P z x → Q z x) → (zs : Passeds Name) (xs : List (Value Name)) → AllCame P zs xs → AllCame Q zs xs
    all_map P Q f NoMore xs c = tt
    all_map P Q f (More z zs) [] c = tt
    all_map P Q f (More z zs) (x ∷ xs) c = (f z x c.0, all_map P Q f zs xs c.1)

    came_on : (d : ℕ) (q t : Vat Name) → Step q t → (z : Passed Name) (x : Value Name) → Came d q z x → Came d t z x
    came_on zero q t a z x c = λ e i. let k = c e i in (k.0, law.holds a e k.1)
    came_on (suc d) q t a z x c = (λ e i. let k = c.0 e i in (k.0, law.holds a e k.1), λ k f. subst (λ ls. AllIn d t (members v done z) (list_at ls k)) (sym (law.lists a)) (all_map (λ u y. Came d q u y) (λ u y. Came d t u y) (λ u y i. came_on d q t a u y i) (members v done z) (list_at q.lists k) (c.1 k (sym (law.follow a x) ∙ f))))

    -- of a value for which no argument is told nothing is asked
    none_came : (d : ℕ) (q : Vat Name) (x : Value Name) → Came d q (Plain Null) x
    unfolding is_named members
    none_came zero q x = λ e i. absurd (cc)
    none_came (suc d) q x = (λ e i. absurd (cc), λ k f. tt)

    none_passes : (e : Name) (ys : Passeds Name) (m : Name) → IsAmong m (all_pass_as v done e ys NoMore) → ⊥
    unfolding all_pass_as
    none_passes e NoMore m i = i
    none_passes e (More y ys) m i = i

    untold : (q t : Vat Name) (ys : Passeds Name) → AllPass q (More (Plain Null) NoMore) ys t → AllPass q NoMore ys t
    untold q t ys p = record { step = p.step; behind = λ e m i. absurd (none_passes e ys m i) }

    -- ---- shapes

    -- of the members of a list, at so many depths
    abbrev Deep : Vat Name → ℕ → List (Value Name) → Passed Name
    Deep s zero = λ vs. Plain (Broken (codes "too heavy"))
    Deep s (suc d) = λ vs. Many (refs.shapes K (λ x. refs.shape K d s x) vs)

    shape_is : (s : Vat Name) (d : ℕ) (x : Value Name) → refs.shape K d s x ≡ refs.shape_by K (Deep s d) s.lists (refs.follow K s x)
    unfolding refs.shape
    shape_is s zero x = refl
    shape_is s (suc d) x = refl

    plain_passes : (s q : Vat Name) → Step s q → Can q → (z : Passed Name) (x y : Value Name) → IsNamedAs script honest w v h q z x → refs.follow K s x ≡ y → OnGives (Passes q z) (refs.address K h (Plain y) q)
    unfolding refs.address look ◌>>=◌ and_then
    plain_passes s q a can z x y c e = map_gives (λ u t. LeafOf script honest w v Step B q x u t) (Passes q z) (refs.address_plain K h y (refs.place K q y) q) (law.leaf q can x y (law.follow a x ∙ e)) (λ u t l. leaf_passes q z x c u t l)

    both_pass : (q t u : Vat Name) (z : Passed Name) (zs : Passeds Name) (y : Passed Name) (ys : Passeds Name) → Can q → Passes q z y t → AllPass t zs ys u → AllPass q (More z zs) (More y ys) u
    unfolding all_pass_as
    both_pass q t u z zs y ys can p r = record { step = law.joins q t u p.step r.step; behind = behind }
      where
        behind : (e m : Name) → IsAmong m (all_pass_as v done e (More y ys) (More z zs)) → B q u e m
        behind e m i = elim (among_either m (passes_as v done e y z) (all_pass_as v done e ys zs) i) [
          | inl j ↦ law.on q t u e m r.step (law.can q t p.step can) (p.behind e m j)
          | inr j ↦ law.from q t u e m p.step can (r.behind e m j)
        ]

    heavy_passes : (q : Vat Name) (z : Passed Name) (p : Words) → OnGives (Passes q z) (refs.address K h (Plain (Broken p)) q)
    unfolding refs.address refs.address_plain refs.place give look ◌>>=◌ and_then passes
    heavy_passes q z p = record { step = law.self q; behind = λ e m i. absurd ((flat_passes e (Plain (Broken p)) z tt m i).1) }

    shaped_list : (d : ℕ) (s : Vat Name) → ((q : Vat Name) → Step s q → Can q → (z : Passed Name) (x : Value Name) → Came d q z x → OnGives (Passes q z) (refs.address K h (refs.shape K d s x) q))
        → (zs : Passeds Name) (xs : List (Value Name)) (q : Vat Name) → Step s q → Can q → AllIn d q zs xs → OnGives (AllPass q zs) (refs.address_all K h (refs.shapes K (λ x. refs.shape K d s x) xs) q)
    unfolding refs.address_all refs.shapes give ◌>>=◌ and_then all_pass_as
    shaped_list d s one NoMore [] q a can c = record { step = law.self q; behind = λ e m i. absurd i }
    shaped_list d s one NoMore (x ∷ xs) q a can c = bind_gives (Passes q (Plain Null)) (AllPass q NoMore) (refs.address K h (refs.shape K d s x) q) (λ y. refs.address_all K h (refs.shapes K (λ x. refs.shape K d s x) xs) >>= (λ ys. give (More y ys))) (one q a can (Plain Null) x (none_came d q x))
        (λ y t p. bind_gives (AllPass t NoMore) (AllPass q NoMore) (refs.address_all K h (refs.shapes K (λ x. refs.shape K d s x) xs) t) (λ ys. give (More y ys))
        (shaped_list d s one NoMore xs t (law.joins s q t a p.step) (law.can q t p.step can) tt)
        (λ ys u r. untold q u (More y ys) (both_pass q t u (Plain Null) NoMore y ys can p r)))
    shaped_list d s one (More z zs) [] q a can c = record { step = law.self q; behind = λ e m i. absurd i }
    shaped_list d s one (More z zs) (x ∷ xs) q a can c = bind_gives (Passes q z) (AllPass q (More z zs)) (refs.address K h (refs.shape K d s x) q) (λ y. refs.address_all K h (refs.shapes K (λ x. refs.shape K d s x) xs) >>= (λ ys. give (More y ys))) (one q a can z x c.0)
        (λ y t p. bind_gives (AllPass t zs) (AllPass q (More z zs)) (refs.address_all K h (refs.shapes K (λ x. refs.shape K d s x) xs) t) (λ ys. give (More y ys))
        (shaped_list d s one zs xs t (law.joins s q t a p.step) (law.can q t p.step can) (all_map (λ u y. Came d q u y) (λ u y. Came d t u y) (λ u y i. came_on d q t p.step u y i) zs xs c.1))
        (λ ys u r. both_pass q t u z zs y ys can p r))

    shaped : (d : ℕ) (s q : Vat Name) → Step s q → Can q → (z : Passed Name) (x y : Value Name) → Came d q z x → refs.follow K s x ≡ y → OnGives (Passes q z) (refs.address K h (refs.shape_by K (Deep s d) s.lists y) q)
    unfolding refs.shape_by refs.address give ◌>>=◌ and_then passes_as
    shaped zero s q a can z x (Items k) c e = heavy_passes q z (codes "too heavy")
    shaped (suc d) s q a can z x (Items k) c e = bind_gives (AllPass q (members v done z)) (Passes q z) (refs.address_all K h (refs.shapes K (λ u. refs.shape K d s u) (list_at s.lists k)) q) (λ ys. give (Many ys))
        (shaped_list d s (λ t b can_t u y i. subst (λ o. OnGives (Passes t u) (refs.address K h o t)) (sym (shape_is s d y)) (shaped d s t b can_t u y (refs.follow K s y) i refl)) (members v done z) (list_at s.lists k) q a can
        (subst (λ ls. AllIn d q (members v done z) (list_at ls k)) (law.lists a) (c.1 k (law.follow a x ∙ e))))
        (λ ys t r. record { step = r.step; behind = r.behind })
    shaped d s q a can z x y c e = plain_passes s q a can z x y (named_at d q z x c) e

    -- ---- the acts

    spent_step : (q : Vat Name) (n : ℕ) (b : Bool) → OnGives (λ (u : Unit {0}) t. Step q t) (spent n b q)
    unfolding spent
    spent_step q n true = law.fuel (q.fuel - n) q
    spent_step q n false = tt

    heap_passes : (q t : Vat Name) → Step q t → Can t → (z : Passed Name) (x : Value Name) (k : ℕ) → ((d : ℕ) → Came d t z x) → refs.follow K q x ≡ Items k → (o : Option ℕ) → OnGives (Passes t z) (refs.address K h (refs.parcel_of_list K q (Items k) o).value t)
    unfolding refs.parcel_of_list refs.too_heavy refs.follow refs.follow_at refs.severed
    heap_passes q t a can z x k c e None = heavy_passes t z (codes "too heavy")
    heap_passes q t a can z x k c e (Some left) = subst (λ o. OnGives (Passes t z) (refs.address K h o t)) (sym (shape_is q refs.highest (Items k))) (shaped refs.highest q t a can z x (Items k) (c refs.highest) e)

    passed_later : (q t : Vat Name) (u : Vat Name) (z : Passed Name) → Step q t → Can q → (y : Passed Name) → Passes t z y u → Passes q z y u
    passed_later q t u z a can y p = record { step = law.joins q t u a p.step; behind = λ e m i. law.from q t u e m a can (p.behind e m i) }

    parcelled : (q t : Vat Name) → Step q t → Can t → (z : Passed Name) (x y : Value Name) → ((d : ℕ) → Came d t z x) → refs.follow K q x ≡ y → OnGives (Passes t z) (refs.address K h (refs.parcel_at K q y).value t)
    unfolding refs.parcel_at
    parcelled q t a can z x (Items k) c e = heap_passes q t a can z x k c e (refs.room_after (refs.follow K q) q.lists refs.highest (Items k) refs.most)
    parcelled q t a can z x y c e = plain_passes q t a can z x y (c zero) e

    passed_one : (q : Vat Name) → Can q → (z : Passed Name) (x : Value Name) → ((d : ℕ) → Came d q z x) → OnGives (Passes q z) (refs.pass K h x q)
    unfolding refs.pass refs.parcel look spend ◌>>=◌ ◌>>◌ and_then
    passed_one q can z x c = bind_gives (λ (u : Unit {0}) t. Step q t) (Passes q z) (spent (refs.parcel K q x).weight (nat_le (refs.parcel K q x).weight q.fuel) q) (λ u. refs.address K h (refs.parcel K q x).value) (spent_step q (refs.parcel K q x).weight (nat_le (refs.parcel K q x).weight q.fuel))
        (λ u t a. map_gives (Passes t z) (Passes q z) (refs.address K h (refs.parcel K q x).value t) (parcelled q t a (law.can q t a can) z x (refs.follow K q x) (λ d. came_on d q t a z x (c d)) refl) (λ y p l. passed_later q t p z a can y l))

    pub passed_all : (zs : Passeds Name) (xs : List (Value Name)) (q : Vat Name) → Can q → ((d : ℕ) → AllIn d q zs xs) → OnGives (AllPass q zs) (refs.pass_all K h xs q)
    unfolding refs.pass_all give ◌>>=◌ and_then all_pass_as
    passed_all NoMore [] q can c = record { step = law.self q; behind = λ e m i. absurd i }
    passed_all NoMore (x ∷ xs) q can c = bind_gives (Passes q (Plain Null)) (AllPass q NoMore) (refs.pass K h x q) (λ y. refs.pass_all K h xs >>= (λ ys. give (More y ys))) (passed_one q can (Plain Null) x (λ d. none_came d q x))
        (λ y t p. bind_gives (AllPass t NoMore) (AllPass q NoMore) (refs.pass_all K h xs t) (λ ys. give (More y ys)) (passed_all NoMore xs t (law.can q t p.step can) (λ d. tt))
        (λ ys u r. untold q u (More y ys) (both_pass q t u (Plain Null) NoMore y ys can p r)))
    passed_all (More z zs) [] q can c = record { step = law.self q; behind = λ e m i. absurd i }
    passed_all (More z zs) (x ∷ xs) q can c = bind_gives (Passes q z) (AllPass q (More z zs)) (refs.pass K h x q) (λ y. refs.pass_all K h xs >>= (λ ys. give (More y ys))) (passed_one q can z x (λ d. (c d).0))
        (λ y t p. bind_gives (AllPass t zs) (AllPass q (More z zs)) (refs.pass_all K h xs t) (λ ys. give (More y ys))
        (passed_all zs xs t (law.can q t p.step can) (λ d. all_map (λ u y. Came d q u y) (λ u y. Came d t u y) (λ u y i. came_on d q t p.step u y i) zs xs (c d).1))
        (λ ys u r. both_pass q t u z zs y ys can p r))
