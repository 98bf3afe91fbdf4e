-- In every world of a run nothing is out of bounds, as long as no vat has made too much.
use Rattle.std.proofs.Common.{◌≡◌, ℕ, zero, suc, ◌+◌, ◌≤◌, ◌<◌, Bool, true, false, List, [], ◌∷◌, ◌++◌, Option, Some, None, ◌==◌, refl, sym, ap, subst, ◌∙◌, length, map, arith}
use Rattle.std.specs.Prelude.{slice_get}
use Rattle.std.proofs.lemmas.Bool.{eqb-true}
use Rattle.def_machine.specs.Values.{Name, Root}
use Rattle.def_machine.specs.State.{Message, Known, Note, Deliver, Open, Ask, SettledTo, Elsewhere, Shorten, Put, Happened, Posted, Vat, Done, Gives, Act, is_in, begun}
use Rattle.def_machine.specs.Arrive.{notice}
use Rattle.def_machine.specs.Scopes.{any_guard}
use Rattle.def_machine.specs.Eval.{opening}
use Rattle.def_run.specs.Draws.{draw_word}
use Rattle.def_run.specs.World as world
use Rattle.def_run.specs.World.{Script, Program, Entry, Turn, Carry, CutLink, NoticeLink, Link, Event, Opens, Turned, Idle, NoticedAt, LostCut, LeftQueue, LeftHeld, LeftWait, LeftLink, Ends, World, Run, Goes, Stopped, begins, put_at, with_link, with_notes, is_link, link_at}
use Rattle.law_machine.specs.Machine.Steps.{After}
use Rattle.law_text.specs.Text.Feeds.{AllOf}
use Rattle.law_text.specs.RunTexts.Fitting.{Limits, size, IsVat, NameFits, MessageFits, KnownFits, NoteFits, LineFits, NounsFit, VatFits}
use Rattle.law_text.specs.RunTexts.Spelled.{TreeFits}
use Rattle.law_text.specs.RunTexts.Worlds.{EventFits, LinkFits, WorldFits, Small, EntryFits, ScriptFits}
use Rattle.law_text.proofs.RunTexts.Fine.{Fine, Ends as Ending, Grows, nothing, all_end, all_append, all_at}
use Rattle.law_text.proofs.RunTexts.Natives.{either_has}
use Rattle.law_text.proofs.RunTexts.Arrive.{note_read, fine_arrive, fine_notice}
use Rattle.law_text.proofs.RunTexts.Eval.{fine_opening, fine_taking}

-- ---- places

all_put : {A : Type 0} (P : A → Type 0) (n : ℕ) (y : A) (xs : List A) → AllOf P xs → P y → AllOf P (put_at n y xs)
unfolding put_at
all_put P n y [] h p = tt
all_put P zero y (x ∷ xs) h p = (p, h.1)
all_put P (suc n) y (x ∷ xs) h p = (h.0, all_put P n y xs h.1 p)

length_put : {A : Type 0} (n : ℕ) (y : A) (xs : List A) → length (put_at n y xs) ≡ length xs
unfolding put_at
length_put n y [] = refl
length_put zero y (x ∷ xs) = refl
length_put (suc n) y (x ∷ xs) = ap suc (length_put n y xs)

below : {A : Type 0} (xs : List A) (n : ℕ) (x : A) → slice_get xs n ≡ Some x → n < length xs
below [] n x e = cc
below (y ∷ xs) zero x e = omega arith
below (y ∷ xs) (suc n) x e = let l = below xs n x e in omega (arith, l)

-- each member has one at its place later
abbrev Later : {A : Type 0} → (A → A → Type 0) → List A → List A → Type 0
Later {A} R xs ys = (n : ℕ) (x : A) → slice_get xs n ≡ Some x → (y : A) × (slice_get ys n ≡ Some y) × R x y

later_put : {A : Type 0} (R : A → A → Type 0) → ((x : A) → R x x) → (n : ℕ) (x y : A) (xs : List A) → slice_get xs n ≡ Some x → R x y → Later R xs (put_at n y xs)
unfolding put_at
later_put R same n x y [] e r m z f = absurd (none z f)
  where
    none : {A : Type 0} (z : A) → None ≡ Some z → ⊥
    none z f = cc
later_put R same zero x y (w ∷ xs) e r zero z f = let one : z ≡ x = cc in (y, refl, subst (λ u. R u y) (sym one) r)
later_put R same zero x y (w ∷ xs) e r (suc m) z f = (z, f, same z)
later_put R same (suc n) x y (w ∷ xs) e r zero z f = (z, f, same z)
later_put R same (suc n) x y (w ∷ xs) e r (suc m) z f = later_put R same n x y xs e r m z f

module _ (L : Limits) where
  -- ---- links

  abbrev pub WorldGrows : World → World → Type 0
  WorldGrows w x = Later Grows w.vats x.vats

  grows_same : (s : Vat Name) → Grows s s
  grows_same s = omega arith

  with_fits : (f : Link → Link) → ((l : Link) → LinkFits L l → LinkFits L (f l)) → (v w : ℕ) (ls : List Link) → AllOf (LinkFits L) ls → AllOf (LinkFits L) (with_link f v w ls)
  unfolding with_link
  with_fits f g v w [] h = tt
  with_fits f g v w (l ∷ ls) h = either_has (AllOf (LinkFits L)) (is_link v w l) (f l ∷ ls) (l ∷ with_link f v w ls) (g l h.0, h.1) (h.0, with_fits f g v w ls h.1)

  pushed_fits : (n : Note Name) → NoteFits L n → (l : Link) → LinkFits L l → LinkFits L (world.pushed n l)
  unfolding world.pushed
  pushed_fits n f l h = either_has (LinkFits L) l.cut _ _ (h.0, h.1, h.2) (h.0, h.1, all_end (NoteFits L) l.notes n h.2 f)

  push_fits : (v : ℕ) (ps : List (Put Name)) (ls : List Link) → AllOf (λ (p : Put Name). NoteFits L p.note) ps → AllOf (LinkFits L) ls → AllOf (LinkFits L) (world.push_all v ps ls)
  unfolding world.push_all
  push_fits v [] ls f h = h
  push_fits v (p ∷ ps) ls f h = push_fits v ps _ f.1 (with_fits (world.pushed p.note) (pushed_fits p.note f.0) v p.to ls h)

  -- the link of two vats is theirs
  is_theirs : (v w : ℕ) (l : Link) → is_link v w l ≡ true → (l.from ≡ v) × (l.to ≡ w)
  unfolding is_link
  is_theirs v w l e = by (l.from == v) refl e
    where
      by : (b : Bool) → (l.from == v) ≡ b → elim b [ true ↦ l.to == w | false ↦ false ] ≡ true → (l.from ≡ v) × (l.to ≡ w)
      by true f g = (eqb-true l.from v f, eqb-true l.to w g)
      by false f g = cc

  found_by : (v w : ℕ) (k l : Link) (o : Option Link) (b : Bool) → is_link v w k ≡ b → elim b [ true ↦ Some k | false ↦ o ] ≡ Some l → LinkFits L k → (o ≡ Some l → LinkFits L l × (l.from ≡ v) × (l.to ≡ w)) → LinkFits L l × (l.from ≡ v) × (l.to ≡ w)
  found_by v w k l o true f g h later = let one : k ≡ l = cc in let at = is_theirs v w k f in subst (λ z. LinkFits L z × (z.from ≡ v) × (z.to ≡ w)) one (h, at.0, at.1)
  found_by v w k l o false f g h later = later g

  found : (v w : ℕ) (ls : List Link) (l : Link) → link_at v w ls ≡ Some l → AllOf (LinkFits L) ls → LinkFits L l × (l.from ≡ v) × (l.to ≡ w)
  unfolding link_at
  found v w [] l e h = cc
  found v w (k ∷ ls) l e h = found_by v w k l (link_at v w ls) (is_link v w k) refl e h.0 (λ g. found v w ls l g h.1)

  -- ---- events

  event_fits : (ls : List Link) (v : ℕ) (e : Happened Name) → IsVat L v → LineFits L e → AllOf (EventFits L) (world.event_of ls v e)
  unfolding world.event_of
  event_fits ls v (Posted w m) i f = either_has (AllOf (EventFits L)) (world.is_cut v w ls) (LostCut m ∷ []) [] (f, tt) tt
  event_fits ls v _ i f = ((i, f), tt)

  events_fit : (ls : List Link) (v : ℕ) (es : List (Happened Name)) → IsVat L v → AllOf (LineFits L) es → AllOf (EventFits L) (world.events_of ls v es)
  unfolding world.events_of
  events_fit ls v [] i f = tt
  events_fit ls v (e ∷ es) i f = all_append (EventFits L) (world.event_of ls v e) _ (event_fits ls v e i f.0) (events_fit ls v es i f.1)

  -- ---- runs

  -- the world after it made no less, has as many vats, and fits where it is small and that holds
  abbrev Follows : Type 0 → World → World → Type 0
  Follows C w x = WorldGrows w x × (length x.vats ≡ length w.vats) × (Small L x → C → WorldFits L x)

  abbrev pub RunFits : Type 0 → World → Run → Type 0
  RunFits C w (Goes x) = Follows C w x
  RunFits C w (Stopped c k x) = Follows C w x

  same_follows : {C : Type 0} (w : World) → (C → WorldFits L w) → Follows C w w
  same_follows w base = (λ n s e. (s, e, grows_same s), refl, λ small c. base c)

  put_here : {A : Type 0} (n : ℕ) (x y : A) (xs : List A) → slice_get xs n ≡ Some x → slice_get (put_at n y xs) n ≡ Some y
  unfolding put_at
  put_here n x y [] e = cc
  put_here zero x y (z ∷ xs) e = refl
  put_here (suc n) x y (z ∷ xs) e = put_here n x y xs e

  -- a vat that is there is one
  there : (v : ℕ) (w : World) (s : Vat Name) → slice_get w.vats v ≡ Some s → length w.vats ≡ L.many → IsVat L v
  there v w s at count = subst (λ k. v < k) count (below w.vats v s at)

  put_fits : {C : Type 0} (v : ℕ) (w : World) (head : List Event) (n : ℕ) (s : Vat Name) → slice_get w.vats v ≡ Some s → (C → WorldFits L w) → (d : Done Name (Unit {0})) → After (λ a b. size s ≤ size b) s d → (C → Ending L (nothing L) d) → (C → AllOf (EventFits L) head)
      → RunFits C w (world.put_back v w head n d)
  unfolding world.put_back
  put_fits v w head n s at base (Gives u t) g ends heads = (
    later_put Grows grows_same v s t w.vats at g,
    length_put v t w.vats,
    λ small c. let low : size t < L.limit = small v t (put_here v s t w.vats at) in let done = (ends c low).0 in let fits = base c in
        record {
          count = length_put v t w.vats ∙ fits.count;
          vats = all_put (VatFits L) v t w.vats fits.vats done;
          links = push_fits v t.outbox w.links done.outbox fits.links;
          history = all_append (EventFits L) (w.history ++ head) _ (all_append (EventFits L) w.history head fits.history (heads c)) (events_fit w.links v t.happened (there v w s at fits.count) done.happened);
        },
  )
  put_fits v w head n s at base other g ends heads = same_follows w base

  ready_fits : (w : World) (s : Vat Name) (ms : List (Message Name)) → VatFits L s → AllOf (MessageFits L) ms → VatFits L (world.readied w (record s { queue = ms }))
  unfolding world.readied
  ready_fits w s ms h q = record { here = h.here; things = h.things; slots = h.slots; lists = h.lists; queue = q; known = h.known; gifts = h.gifts; outbox = tt; happened = tt }

  ready_size : (w : World) (s : Vat Name) (ms : List (Message Name)) → size (world.readied w (record s { queue = ms })) ≡ size s
  unfolding world.readied size
  ready_size w s ms = refl

  from_ready : {A : Type 0} (s r : Vat Name) → size r ≡ size s → (d : Done Name A) → After Grows r d → After (λ a b. size s ≤ size b) s d
  from_ready s r e (Gives a t) g = omega (arith, e, g)
  from_ready s r e other g = omega (arith, e, g)

  -- a step of the vat that is there, which has that queue
  within_fits : {C : Type 0} (v : ℕ) (w : World) (head : List Event) (n : ℕ) (m : Act Name (Unit {0})) (s : Vat Name) (ms : List (Message Name)) → slice_get w.vats v ≡ Some s → (C → WorldFits L w) → (C → AllOf (MessageFits L) ms) → Fine L C m (nothing L) → (C → AllOf (EventFits L) head)
      → RunFits C w (world.within v w head n m (Some (record s { queue = ms })))
  unfolding world.within
  within_fits v w head n m s ms at base queue fine heads = let r : Vat Name = world.readied w (record s { queue = ms }) in
      put_fits v w head n s at base (m r) (from_ready s r (ready_size w s ms) (m r) (fine.grows r)) (λ c. fine.after r (ready_fits w s ms (all_at (VatFits L) w.vats v s (base c).vats at) (queue c)) c) heads

  module _ (script : Script) (same : length script.vats ≡ L.many) (good : ScriptFits L script) where
    word : ℕ → ℕ
    word = draw_word script.key

    tree_fits : (ps : List Program) (v : ℕ) → AllOf (λ (p : Program). TreeFits p.tree) ps → TreeFits (world.tree_at ps v)
    unfolding world.tree_at
    tree_fits [] v h = tt
    tree_fits (p ∷ ps) zero h = h.0
    tree_fits (p ∷ ps) (suc v) h = tree_fits ps v h.1

    idle_fits : {C : Type 0} (k : ℕ) (w : World) → k < L.limit → (C → WorldFits L w) → RunFits C w (world.idle script k w)
    unfolding world.idle
    idle_fits k w low base = (λ n s e. (s, e, grows_same s), refl, λ small c. let fits = base c in record { count = fits.count; vats = fits.vats; links = fits.links; history = all_end (EventFits L) w.history (Idle k) fits.history low })

    turn_queue : (k v : ℕ) (w : World) (s : Vat Name) → slice_get w.vats v ≡ Some s → length w.vats ≡ L.many → k < L.limit → (ms : List (Message Name)) → s.queue ≡ ms → RunFits (WorldFits L w) w (world.turn_queue script k v w s ms)
    unfolding world.turn_queue world.names
    turn_queue k v w s at count low [] q = idle_fits k w low (λ fits. fits)
    turn_queue k v w s at count low (m ∷ ms) q = let i : IsVat L v = there v w s at count in
        let queue : WorldFits L w → AllOf (MessageFits L) (m ∷ ms) = λ fits. subst (AllOf (MessageFits L)) q (all_at (VatFits L) w.vats v s fits.vats at).queue in
        within_fits v w (Turned k v ∷ []) _ _ s ms at (λ fits. fits) (λ fits. (queue fits).1) (fine_taking L (draw_word script.key) v i (world.tree_at script.vats v) (tree_fits script.vats v good.trees) script.depth m (λ fits. (queue fits).0)) (λ fits. ((low, i), tt))

    turn : (k v : ℕ) (w : World) → length w.vats ≡ L.many → k < L.limit → (o : Option (Vat Name)) → slice_get w.vats v ≡ o → RunFits (WorldFits L w) w (world.turn script k v w o)
    unfolding world.turn
    turn k v w count low None e = idle_fits k w low (λ fits. fits)
    turn k v w count low (Some s) e = turn_queue k v w s e count low s.queue refl

    pop : (v u : ℕ) (ns : List (Note Name)) (w : World) → WorldFits L w → AllOf (NoteFits L) ns → WorldFits L (record w { links = with_link (with_notes ns) v u w.links })
    unfolding with_notes
    pop v u ns w fits f = record { count = fits.count; vats = fits.vats; links = with_fits (with_notes ns) (λ l h. (h.0, h.1, f)) v u w.links fits.links; history = fits.history }

    arrives : {C : Type 0} (k v u : ℕ) (w : World) (n : Note Name) → length w.vats ≡ L.many → k < L.limit → IsVat L v → IsVat L u → (C → WorldFits L w) → (C → NoteFits L n) → (o : Option (Vat Name)) → slice_get w.vats u ≡ o → RunFits C w (world.arrives script k v u w n o)
    unfolding world.arrives world.names
    arrives k v u w n count low i j base f None e = idle_fits k w low base
    arrives k v u w n count low i j base f (Some s) e = within_fits u w _ _ _ s s.queue e base (λ c. (all_at (VatFits L) w.vats u s (base c).vats e).queue)
        (fine_arrive L (draw_word script.key) u j v (world.read_note (world.names_of s) n) (λ c. i) (λ c. note_read L _ n (f c))) (λ c. ((low, i, j, f c), tt))

    -- what goes on from the world without the note goes on from the world
    popped : (C : Type 0) (v u : ℕ) (ns : List (Note Name)) (w : World) (r : Run) → RunFits C (record w { links = with_link (with_notes ns) v u w.links }) r → RunFits C w r
    popped C v u ns w (Goes x) h = h
    popped C v u ns w (Stopped c k x) h = h

    carry_notes : (k v u : ℕ) (w : World) (l : Link) → link_at v u w.links ≡ Some l → length w.vats ≡ L.many → k < L.limit → IsVat L v → IsVat L u → (ns : List (Note Name)) → l.notes ≡ ns → RunFits (WorldFits L w) w (world.carry_notes script k v u w ns)
    unfolding world.carry_notes
    carry_notes k v u w l at count low i j [] q = idle_fits k w low (λ fits. fits)
    carry_notes k v u w l at count low i j (n ∷ ns) q = let notes : WorldFits L w → AllOf (NoteFits L) (n ∷ ns) = λ fits. subst (AllOf (NoteFits L)) q (found v u w.links l at fits.links).0.2 in
        popped (WorldFits L w) v u ns w _ (arrives k v u (record w { links = with_link (with_notes ns) v u w.links }) n count low i j (λ fits. pop v u ns w fits (notes fits).1) (λ fits. (notes fits).0) (slice_get w.vats u) refl)

    cut_or : (k v u : ℕ) (w : World) (l : Link) → link_at v u w.links ≡ Some l → length w.vats ≡ L.many → k < L.limit → IsVat L v → IsVat L u → (b : Bool) → RunFits (WorldFits L w) w (elim b [ true ↦ world.idle script k w | false ↦ world.carry_notes script k v u w l.notes ])
    cut_or k v u w l at count low i j true = idle_fits k w low (λ fits. fits)
    cut_or k v u w l at count low i j false = carry_notes k v u w l at count low i j l.notes refl

    carry_link : (k v u : ℕ) (w : World) → length w.vats ≡ L.many → k < L.limit → IsVat L v → IsVat L u → (o : Option Link) → link_at v u w.links ≡ o → RunFits (WorldFits L w) w (world.carry_link script k v u w o)
    unfolding world.carry_link
    carry_link k v u w count low i j None e = idle_fits k w low (λ fits. fits)
    carry_link k v u w count low i j (Some l) e = cut_or k v u w l e count low i j l.cut

    lost_fits : (ns : List (Note Name)) → AllOf (NoteFits L) ns → AllOf (EventFits L) (world.lost_by script ns)
    unfolding world.lost_by
    lost_fits [] f = tt
    lost_fits (Deliver d n verb ys ∷ ns) f = (f.0.0, lost_fits ns f.1)
    lost_fits (Open i n ∷ ns) f = lost_fits ns f.1
    lost_fits (Ask p i n ∷ ns) f = lost_fits ns f.1
    lost_fits (SettledTo n y ∷ ns) f = lost_fits ns f.1
    lost_fits (Elsewhere n c ∷ ns) f = lost_fits ns f.1
    lost_fits (Shorten n c i ∷ ns) f = lost_fits ns f.1

    lost_on_fits : (v u : ℕ) (ls : List Link) (o : Option Link) → link_at v u ls ≡ o → AllOf (LinkFits L) ls → AllOf (EventFits L) (world.lost_on script o)
    unfolding world.lost_on
    lost_on_fits v u ls None e h = tt
    lost_on_fits v u ls (Some l) e h = lost_fits l.notes (found v u ls l e h).0.2

    severed_fits : (l : Link) → LinkFits L l → LinkFits L (world.severed_link l)
    unfolding world.severed_link
    severed_fits l h = (h.0, h.1, tt)

    cut : (k v u : ℕ) (w : World) → k < L.limit → IsVat L v → IsVat L u → RunFits (WorldFits L w) w (world.cut script k v u w)
    unfolding world.cut
    cut k v u w low i j = (
      λ n s e. (s, e, grows_same s),
      refl,
      λ small fits. record {
        count = fits.count;
        vats = fits.vats;
        links = with_fits world.severed_link severed_fits u v _ (with_fits world.severed_link severed_fits v u w.links fits.links);
        history = all_append (EventFits L) w.history _ fits.history ((low, i, j), all_append (EventFits L) (world.lost_on script (link_at v u w.links)) _ (lost_on_fits v u w.links (link_at v u w.links) refl fits.links) (lost_on_fits u v w.links (link_at u v w.links) refl fits.links));
      },
    )

    notices : (k v u : ℕ) (w : World) → length w.vats ≡ L.many → k < L.limit → IsVat L v → IsVat L u → (o : Option (Vat Name)) → slice_get w.vats v ≡ o → RunFits (WorldFits L w) w (world.within v w (NoticedAt k v u ∷ []) (world.step_number script k) (notice (world.names script v) u) o)
    unfolding world.names
    notices k v u w count low i j None e = unfold world.within in same_follows w (λ fits. fits)
    notices k v u w count low i j (Some s) e = within_fits v w _ _ _ s s.queue e (λ fits. fits) (λ fits. (all_at (VatFits L) w.vats v s fits.vats e).queue) (fine_notice L (draw_word script.key) v i u) (λ fits. ((low, i, j), tt))

    step : (e : Entry) (k : ℕ) (w : World) → EntryFits L e → length w.vats ≡ L.many → k < L.limit → RunFits (WorldFits L w) w (world.step script e k w)
    unfolding world.step
    step (Turn v) k w i count low = turn k v w count low (slice_get w.vats v) refl
    step (Carry v u) k w i count low = carry_link k v u w count low i.0 i.1 (link_at v u w.links) refl
    step (CutLink v u) k w i count low = cut k v u w low i.0 i.1
    step (NoticeLink v u) k w i count low = notices k v u w count low i.0 i.1 (slice_get w.vats v) refl

    given_fits : (ps : List Program) (ws : List ℕ) → AllOf (IsVat L) ws → NounsFit L (world.given ps ws)
    unfolding world.given any_guard
    given_fits ps [] h = tt
    given_fits ps (w ∷ ws) h = ((h.0, refl), given_fits ps ws h.1)

    opens_at : (v : ℕ) (p : Program) (w : World) → AllOf (IsVat L) p.knows → TreeFits p.tree → length w.vats ≡ L.many → (o : Option (Vat Name)) → slice_get w.vats v ≡ o
        → RunFits (WorldFits L w) w (world.within v w (Opens v ∷ []) v (opening (world.names script v) p.tree script.depth (Root v) (world.given script.vats p.knows)) o)
    unfolding world.names
    opens_at v p w knows tree count None e = unfold world.within in same_follows w (λ fits. fits)
    opens_at v p w knows tree count (Some s) e = let i : IsVat L v = there v w s e count in
        within_fits v w _ _ _ s s.queue e (λ fits. fits) (λ fits. (all_at (VatFits L) w.vats v s fits.vats e).queue)
        (fine_opening L (draw_word script.key) v i p.tree tree script.depth (Root v) (world.given script.vats p.knows) (λ fits. i) (λ fits. given_fits script.vats p.knows knows)) (λ fits. (i, tt))

    opening_fits : (v : ℕ) (p : Program) (w : World) → AllOf (IsVat L) p.knows → TreeFits p.tree → length w.vats ≡ L.many → RunFits (WorldFits L w) w (world.open_vat script v p w)
    unfolding world.open_vat
    opening_fits v p w knows tree count = opens_at v p w knows tree count (slice_get w.vats v) refl

    -- ---- one step after another

    small_before : (w x : World) → WorldGrows w x → Small L x → Small L w
    small_before w x g small v s e = let (t, f, le) = g v s e in omega (arith, le, small v t f)

    follows_on : (w y x : World) → Follows (WorldFits L w) w y → Follows (WorldFits L y) y x → Follows (WorldFits L w) w x
    follows_on w y x h g = (
      λ n s e. let (t, f, le) = h.0 n s e in let (u, k, lf) = g.0 n t f in (u, k, omega (arith, le, lf)),
      g.1 ∙ h.1,
      λ small fits. g.2 small (h.2 (small_before y x g.0 small) fits),
    )

    run_on : (w y : World) (q : Run) → Follows (WorldFits L w) w y → RunFits (WorldFits L y) y q → RunFits (WorldFits L w) w q
    run_on w y (Goes x) h g = follows_on w y x h g
    run_on w y (Stopped c k x) h g = follows_on w y x h g

    then_fits : (w : World) (q : Run) (f : World → Run) → RunFits (WorldFits L w) w q → ((y : World) → length y.vats ≡ length w.vats → RunFits (WorldFits L y) y (f y)) → RunFits (WorldFits L w) w (world.then_goes q f)
    unfolding world.then_goes
    then_fits w (Goes y) f h g = run_on w y (f y) h (g y h.1)
    then_fits w (Stopped c k y) f h g = h

    opens_fit : (v : ℕ) (ps : List Program) (w : World) → AllOf (λ (p : Program). AllOf (IsVat L) p.knows) ps → AllOf (λ (p : Program). TreeFits p.tree) ps → length w.vats ≡ L.many → RunFits (WorldFits L w) w (world.open_from script v ps w)
    unfolding world.open_from
    opens_fit v [] w knows trees count = same_follows w (λ fits. fits)
    opens_fit v (p ∷ ps) w knows trees count = then_fits w _ _ (opening_fits v p w knows.0 trees.0 count) (λ y e. opens_fit (suc v) ps y knows.1 trees.1 (e ∙ count))

    steps_fit : (es : List Entry) (k : ℕ) (w : World) → AllOf (EntryFits L) es → k + length es < L.limit → length w.vats ≡ L.many → RunFits (WorldFits L w) w (world.steps_from script es k w)
    unfolding world.steps_from
    steps_fit [] k w h low count = same_follows w (λ fits. fits)
    steps_fit (e ∷ es) k w h low count = then_fits w _ _ (step e k w h.0 count (omega (arith, low))) (λ y i. steps_fit es (suc k) y h.1 (omega (arith, low)) (i ∙ count))

    -- ---- the closing list

    queue_left : (v : ℕ) (ms : List (Message Name)) → IsVat L v → AllOf (MessageFits L) ms → AllOf (EventFits L) (map (λ (m : Message Name). LeftQueue v m.id) ms)
    queue_left v [] i h = tt
    queue_left v (m ∷ ms) i h = ((i, h.0.0), queue_left v ms i h.1)

    held_one : (v : ℕ) (n : Name) (ms : List (Message Name)) → IsVat L v → NameFits L n → AllOf (MessageFits L) ms → AllOf (EventFits L) (map (λ (m : Message Name). LeftHeld v n m.id) ms)
    held_one v n [] i f h = tt
    held_one v n (m ∷ ms) i f h = ((i, f, h.0.0), held_one v n ms i f h.1)

    wait_one : (v : ℕ) (n : Name) (ms : List (Message Name)) → IsVat L v → NameFits L n → AllOf (MessageFits L) ms → AllOf (EventFits L) (map (λ (m : Message Name). LeftWait v n m.id) ms)
    wait_one v n [] i f h = tt
    wait_one v n (m ∷ ms) i f h = ((i, f, h.0.0), wait_one v n ms i f h.1)

    held_left : (v : ℕ) (ks : List (Known Name)) → IsVat L v → AllOf (KnownFits L) ks → AllOf (EventFits L) (world.left_held script v ks)
    unfolding world.left_held
    held_left v [] i h = tt
    held_left v (k ∷ ks) i h = all_append (EventFits L) _ _ (held_one v k.name k.held i h.0.0 h.0.3) (held_left v ks i h.1)

    wait_left : (v : ℕ) (ks : List (Known Name)) → IsVat L v → AllOf (KnownFits L) ks → AllOf (EventFits L) (world.left_wait script v ks)
    unfolding world.left_wait
    wait_left v [] i h = tt
    wait_left v (k ∷ ks) i h = all_append (EventFits L) _ _ (wait_one v k.name k.reactions i h.0.0 h.0.5) (wait_left v ks i h.1)

    vats_left : (ss : List (Vat Name)) → AllOf (VatFits L) ss → AllOf (EventFits L) (world.left_vats script ss)
    unfolding world.left_vats world.left_vat
    vats_left [] h = tt
    vats_left (s ∷ ss) h = all_append (EventFits L) _ _ (all_append (EventFits L) (map (λ (m : Message Name). LeftQueue s.number m.id) s.queue ++ world.left_held script s.number s.known) (world.left_wait script s.number s.known)
        (all_append (EventFits L) (map (λ (m : Message Name). LeftQueue s.number m.id) s.queue) (world.left_held script s.number s.known) (queue_left s.number s.queue h.0.here h.0.queue) (held_left s.number s.known h.0.here h.0.known)) (wait_left s.number s.known h.0.here h.0.known)) (vats_left ss h.1)

    notes_left : (l : Link) (ns : List (Note Name)) → IsVat L l.from → IsVat L l.to → AllOf (NoteFits L) ns → AllOf (EventFits L) (map (λ n. LeftLink l.from l.to n) ns)
    notes_left l [] i j h = tt
    notes_left l (n ∷ ns) i j h = ((i, j, h.0), notes_left l ns i j h.1)

    links_left : (ls : List Link) → AllOf (LinkFits L) ls → AllOf (EventFits L) (world.left_links script ls)
    unfolding world.left_links
    links_left [] h = tt
    links_left (l ∷ ls) h = all_append (EventFits L) _ _ (notes_left l l.notes h.0.0 h.0.1 h.0.2) (links_left ls h.1)

    close_fits : (w : World) → RunFits (WorldFits L w) w (world.close script w)
    unfolding world.close
    close_fits w = (
      λ n s e. (s, e, grows_same s),
      refl,
      λ small fits. record {
        count = fits.count;
        vats = fits.vats;
        links = fits.links;
        history = all_append (EventFits L) (w.history ++ world.left_vats script w.vats ++ world.left_links script w.links) (Ends ∷ [])
            (all_append (EventFits L) (w.history ++ world.left_vats script w.vats) (world.left_links script w.links) (all_append (EventFits L) w.history (world.left_vats script w.vats) fits.history (vats_left w.vats fits.vats)) (links_left w.links fits.links)) (tt, tt);
      },
    )

    -- ---- the start

    length_fresh : (v : ℕ) (ps : List Program) → length (world.fresh_from script v ps) ≡ length ps
    unfolding world.fresh_from
    length_fresh v [] = refl
    length_fresh v (p ∷ ps) = ap suc (length_fresh (suc v) ps)

    either_told : (b : Bool) (u : ℕ) (us : List ℕ) → IsVat L u → AllOf (IsVat L) us → AllOf (IsVat L) (elim b [ true ↦ u ∷ us | false ↦ us ])
    either_told true u us i h = (i, h)
    either_told false u us i h = h

    knowers_fit : (v u : ℕ) (ps : List Program) → u + length ps ≤ L.many → AllOf (IsVat L) (world.knowers v u ps)
    unfolding world.knowers
    knowers_fit v u [] h = tt
    knowers_fit v u (p ∷ ps) h = either_told (is_in v p.knows) u (world.knowers v (suc u) ps) (omega (arith, h)) (knowers_fit v (suc u) ps (omega (arith, h)))

    roots_fit : (ws : List ℕ) → AllOf (IsVat L) ws → AllOf (KnownFits L) (map world.known_root ws)
    unfolding world.known_root begun
    roots_fit [] h = tt
    roots_fit (w ∷ ws) h = ((h.0, h.0, tt, tt, tt, tt, tt), roots_fit ws h.1)

    all_vats : zero + length script.vats ≤ L.many
    all_vats = omega (arith, same)

    fresh_fits : (v : ℕ) (p : Program) → IsVat L v → AllOf (IsVat L) p.knows → VatFits L (world.fresh script v p)
    unfolding world.fresh world.known_root begun
    fresh_fits v p i h = record { here = i; things = tt; slots = tt; lists = tt; queue = tt; known = ((i, i, tt, tt, tt, tt, knowers_fit v zero script.vats all_vats), roots_fit p.knows h); gifts = tt; outbox = tt; happened = tt }

    fresh_from_fits : (v : ℕ) (ps : List Program) → v + length ps ≤ L.many → AllOf (λ (p : Program). AllOf (IsVat L) p.knows) ps → AllOf (VatFits L) (world.fresh_from script v ps)
    unfolding world.fresh_from
    fresh_from_fits v [] l h = tt
    fresh_from_fits v (p ∷ ps) l h = (fresh_fits v p (omega (arith, l)) h.0, fresh_from_fits (suc v) ps (omega (arith, l)) h.1)

    links_to_fit : (v w : ℕ) (ps : List Program) → IsVat L v → w + length ps ≤ L.many → AllOf (LinkFits L) (world.links_to v w ps)
    unfolding world.links_to
    links_to_fit v w [] i l = tt
    links_to_fit v w (p ∷ ps) i l = either_has (AllOf (LinkFits L)) (v == w) (world.links_to v (suc w) ps) _ (links_to_fit v (suc w) ps i (omega (arith, l))) ((i, omega (arith, l), tt), links_to_fit v (suc w) ps i (omega (arith, l)))

    links_from_fit : (v : ℕ) (ps : List Program) → v + length ps ≤ L.many → AllOf (LinkFits L) (world.links_from script.vats v ps)
    unfolding world.links_from
    links_from_fit v [] l = tt
    links_from_fit v (p ∷ ps) l = all_append (LinkFits L) _ _ (links_to_fit v zero script.vats (omega (arith, l)) all_vats) (links_from_fit (suc v) ps (omega (arith, l)))

    begins_fits : WorldFits L (begins script)
    unfolding begins
    begins_fits = record { count = length_fresh zero script.vats ∙ same; vats = fresh_from_fits zero script.vats all_vats good.knows; links = links_from_fit zero script.vats all_vats; history = tt }

    begins_count : length (begins script).vats ≡ L.many
    unfolding begins
    begins_count = length_fresh zero script.vats ∙ same

    pub run_fits : RunFits (WorldFits L (begins script)) (begins script) (world.run script)
    unfolding world.run
    run_fits = then_fits (begins script) _ _ (opens_fit zero script.vats (begins script) good.knows good.trees begins_count)
        (λ y e. then_fits y _ _ (steps_fit script.schedule 1 y good.entries good.short (e ∙ begins_count)) (λ z f. close_fits z))

    pub begin_fits : WorldFits L (begins script)
    begin_fits = begins_fits
