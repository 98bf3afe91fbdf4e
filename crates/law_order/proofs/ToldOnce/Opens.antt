-- In every run a gift of a vat for which no note that opens it has arrived neither waits nor settled, but to what is broken.
use Rattle.std.proofs.Common.{◌≡◌, ℕ, zero, ◌+◌, ◌≤◌, Bool, true, false, List, [], ◌∷◌, ◌++◌, Option, Some, None, refl, sym, ap, subst, ◌∙◌, ◌⊎◌, inl, inr, arith, eq-eqb}
use Rattle.std.specs.Prelude.{slice_get}
use Rattle.def_machine.specs.Values.{Name, Gift, Sent, naming, host_of}
use Rattle.def_machine.specs.State.{Note, Deliver, Open, SettledTo, Elsewhere, Put, Vat}
use Rattle.def_machine.specs.Refs.{standing_of, standing_in}
use Rattle.def_run.specs.Draws.{draw_word}
use Rattle.def_run.specs.World as world
use Rattle.def_run.specs.World.{Script, Program, Entry, Link, World, Goes as Going, link_at, with_link, with_notes, severed_link, pushed, push_all, put_at, names_of, read_note}
use Rattle.law_machine.specs.Run.Moves.{IsReached}
use Rattle.law_machine.proofs.Run.Honest.{honest_reached}
use Rattle.law_fate.specs.Name.Names.{AllOf, IsAmong, NoteOk}
use Rattle.law_fate.specs.Name.Runs.{KnowsOnce}
use Rattle.law_fate.proofs.Name.Facts.{MayBe}
use Rattle.law_frozen.specs.Frozen.{AllOf as EachOf, NotePasses}
use Rattle.law_frozen.proofs.Fine.{MayBe as Maybe}
use Rattle.law_frozen.proofs.RunSound.{WorldSound, LinkPasses, link_passes, begins_sound, opens_sound, steps_sound}
use Rattle.law_reference.specs.Reference.ListRingless.{told_name}
use Rattle.law_reference.specs.Reference.Notes.{IsBetween}
use Rattle.law_reference.proofs.Reference.Follow.{put_cases}
use Rattle.law_reference.proofs.Reference.LegMoves.{opened_before, stepped_before}
use Rattle.law_reference.proofs.Reference.LegRuns.{MailBits, Before, first_mails, self_none, stands_of}
use Rattle.law_reference.proofs.Reference.Moves.{Moved, Still, Severs, Drops, Steps, Arrives, opened_hold, stepped_hold}
use Rattle.law_reference.proofs.Reference.NotesLift as lift
use Rattle.law_reference.proofs.Reference.NotesRuns.{OfNotes}
use Rattle.law_reference.proofs.Reference.Told.{told_is}
use Rattle.law_order.proofs.Ordering.Sends.{pushed_shut, pushed_open}
use Rattle.law_order.specs.Cuts.Letting.{once}
use Rattle.law_order.specs.Cuts.Opening.{opens, opens_in, opens_put}
use Rattle.law_order.proofs.Cuts.Counts.{sum_of, taken_sum}
use Rattle.law_order.proofs.Cuts.Reached.{each_gift_is_opened_once}
use Rattle.law_reference.proofs.Gift.Found.{kept_more, calms}
use Rattle.law_reference.proofs.Gift.Keeps.{alone_kept, arrive_kept}
use Rattle.law_reference.proofs.Gift.Kept.{settling, Kept}
use Rattle.law_reference.proofs.Gift.Rests as rests
use Rattle.law_order.specs.ToldOnce.Opened.{OpensNew, OpenedGiftsAreNew}
use Rattle.law_order.proofs.ToldOnce.News.{fresh_kept}

-- ---- how many notes that open a gift were put, and how many are under way

abbrev put_on : ℕ → Link → ℕ
put_on i l = opens_in i l.log

abbrev way_on : ℕ → Link → ℕ
way_on i l = opens_in i l.notes

abbrev put_all : ℕ → List Link → ℕ
put_all i ls = sum_of (λ l. put_on i l) ls

abbrev way_all : ℕ → List Link → ℕ
way_all i ls = sum_of (λ l. way_on i l) ls

opens_twice : (i : ℕ) (ms ns : List (Note Name)) → opens_in i (ms ++ ns) ≡ opens_in i ms + opens_in i ns
unfolding opens_in
opens_twice i [] ns = omega arith
opens_twice i (m ∷ ms) ns = let rest = opens_twice i ms ns in omega arith

-- those that are put are no fewer than those that come to be under way
abbrev Gap : List Link → List Link → Type 0
Gap ls ks = (i : ℕ) → way_all i ks + put_all i ls ≤ put_all i ks + way_all i ls

gap_on : (ls ks js : List Link) → Gap ls ks → Gap ks js → Gap ls js
gap_on ls ks js f g i = let a = f i in let b = g i in omega arith

gap_link : (f : Link → Link) (v h i : ℕ) (ls : List Link) → ((l : Link) → way_on i (f l) + put_on i l ≤ put_on i (f l) + way_on i l) → way_all i (with_link f v h ls) + put_all i ls ≤ put_all i (with_link f v h ls) + way_all i ls
unfolding with_link sum_of
gap_link f v h i [] g = omega arith
gap_link f v h i (l ∷ ls) g = go (gap_link f v h i ls g) (world.is_link v h l)
  where
    go : way_all i (with_link f v h ls) + put_all i ls ≤ put_all i (with_link f v h ls) + way_all i ls → (b : Bool)
        → way_all i (elim b [ true ↦ f l ∷ ls | false ↦ l ∷ with_link f v h ls ]) + (put_on i l + put_all i ls) ≤ put_all i (elim b [ true ↦ f l ∷ ls | false ↦ l ∷ with_link f v h ls ]) + (way_on i l + way_all i ls)
    go r true = let here = g l in omega arith
    go r false = omega arith

pushed_gap : (n : Note Name) (i : ℕ) (l : Link) (b : Bool) → l.cut ≡ b → way_on i (pushed n l) + put_on i l ≤ put_on i (pushed n l) + way_on i l
pushed_gap n i l true e = subst (λ (k : Link). way_on i k + put_on i l ≤ put_on i k + way_on i l) (sym (pushed_shut n l e)) (let more = opens_twice i l.log (n ∷ []) in omega arith)
pushed_gap n i l false e = subst (λ (k : Link). way_on i k + put_on i l ≤ put_on i k + way_on i l) (sym (pushed_open n l e)) (let more = opens_twice i l.log (n ∷ []) in let way = opens_twice i l.notes (n ∷ []) in omega arith)

pushes_gap : (v : ℕ) (ps : List (Put Name)) (ls : List Link) → Gap ls (push_all v ps ls)
unfolding push_all
pushes_gap v [] ls i = omega arith
pushes_gap v (p ∷ ps) ls i =
    let rest = pushes_gap v ps (with_link (pushed p.note) v p.to ls) i in
    let here = gap_link (pushed p.note) v p.to i ls (λ l. pushed_gap p.note i l l.cut refl) in omega arith

severed_gap : (a b : ℕ) (ls : List Link) → Gap ls (with_link severed_link a b ls)
unfolding severed_link opens_in
severed_gap a b ls i = gap_link severed_link a b i ls less
  where
    less : (l : Link) → way_on i (severed_link l) + put_on i l ≤ put_on i (severed_link l) + way_on i l
    less l = omega arith

-- the first note is taken: one that opens the gift is under way no more
module _ (a b : ℕ) (ls : List Link) (l : Link) (n : Note Name) (ns : List (Note Name)) (at : link_at a b ls ≡ Some l) (notes : l.notes ≡ n ∷ ns) where
  taken_way : (i : ℕ) → way_all i (with_link (with_notes ns) a b ls) + once (opens i n) ≤ way_all i ls
  unfolding with_notes opens_in
  taken_way i = taken_sum (λ k. way_on i k) (with_notes ns) (once (opens i n)) a b ls l at (let all : opens_in i l.notes ≡ once (opens i n) + opens_in i ns = ap (λ ms. opens_in i ms) notes in omega arith)

-- what is put stays so
same_put : (f : Link → Link) (v h i : ℕ) (ls : List Link) → ((l : Link) → put_on i (f l) ≡ put_on i l) → put_all i (with_link f v h ls) ≡ put_all i ls
unfolding with_link sum_of
same_put f v h i [] g = refl
same_put f v h i (l ∷ ls) g = go (same_put f v h i ls g) (world.is_link v h l)
  where
    go : put_all i (with_link f v h ls) ≡ put_all i ls → (b : Bool) → put_all i (elim b [ true ↦ f l ∷ ls | false ↦ l ∷ with_link f v h ls ]) ≡ put_on i l + put_all i ls
    go r true = let here = g l in omega arith
    go r false = omega arith

taken_put : (a b i : ℕ) (ls : List Link) (ns : List (Note Name)) → put_all i (with_link (with_notes ns) a b ls) ≡ put_all i ls
unfolding with_notes
taken_put a b i ls ns = same_put (with_notes ns) a b i ls (λ l. refl)

-- a link that is found is one of them
found_most : (m : Link → ℕ) (a b : ℕ) (ls : List Link) (l : Link) → link_at a b ls ≡ Some l → m l ≤ sum_of m ls
unfolding link_at sum_of
found_most m a b [] l e = none_some e
  where
    none_some : ◌≡◌ {A = Option Link} None (Some l) → m l ≤ 0
    none_some e = cc
found_most m a b (k ∷ ls) l e = go (λ f. found_most m a b ls l f) (world.is_link a b k) e
  where
    same : Some k ≡ Some l → k ≡ l
    same f = cc

    go : (link_at a b ls ≡ Some l → m l ≤ sum_of m ls) → (c : Bool) → ◌≡◌ {A = Option Link} (elim c [ true ↦ Some k | false ↦ link_at a b ls ]) (Some l) → m l ≤ m k + sum_of m ls
    go r true f = let is : m k ≡ m l = ap m (same f) in omega arith
    go r false f = let rest = r f in omega arith

put_is : (i : ℕ) (ls : List Link) → opens_put i ls ≡ put_all i ls
unfolding opens_put sum_of
put_is i [] = refl
put_is i (l ∷ ls) = let rest = put_is i ls in omega arith

open_counts : (i : ℕ) (n : Name) → once (opens i (Open i n)) ≡ 1
unfolding opens once
open_counts i n = ap (λ b. once b) (eq-eqb i i refl)

among_counts : (i : ℕ) (n : Name) (ns : List (Note Name)) → IsAmong (Open i n) ns → 1 ≤ opens_in i ns
unfolding opens_in
among_counts i n [] a = absurd a
among_counts i n (m ∷ ns) (inl e) = let here : once (opens i m) ≡ 1 = subst (λ (k : Note Name). once (opens i k) ≡ 1) e (open_counts i n) in omega arith
among_counts i n (m ∷ ns) (inr a) = let rest = among_counts i n ns a in omega arith

-- ---- what may settle

module _ (script : Script) where
  abbrev word : ℕ → ℕ
  word = draw_word script.key

  -- all but the gifts of v for which no note that opens them has arrived
  abbrev May : List Link → ℕ → Name → Type 0
  May ls v (Gift h i) = h ≡ v → 1 + way_all i ls ≤ put_all i ls
  May ls v other = Unit {0}

  -- a name of another vat may
  far_may : (ls : List Link) (v : ℕ) (n : Name) → (host_of n ≡ v → ⊥) → May ls v n
  unfolding host_of
  far_may ls v (Gift h i) f = λ e. absurd (f e)
  far_may ls v other f = tt

  later : (ls ks : List Link) → Gap ls ks → (v : ℕ) (n : Name) → May ls v n → May ks v n
  later ls ks g v (Gift h i) m = λ e. let a = m e in let b = g i in omega arith
  later ls ks g v other m = tt

  record Holds (w : World) : Type 0 where
    most : (i : ℕ) → way_all i w.links ≤ put_all i w.links
    well : (v : ℕ) (s : Vat Name) → slice_get w.vats v ≡ Some s → Kept word v (settling word v (May w.links v)) s

  abbrev Past : World → Type 0
  Past w = Before script w × WorldSound script w

  -- ---- a move

  module _ (x y : World) (h : Holds x) (gap : Gap x.links y.links) where
    most_on : (i : ℕ) → way_all i y.links ≤ put_all i y.links
    most_on i = let a = h.most i in let b = gap i in omega arith

    held : (v : ℕ) (s : Vat Name) → slice_get x.vats v ≡ Some s → Kept word v (settling word v (May y.links v)) s
    held v s there = kept_more word v (May x.links v) (May y.links v) (later x.links y.links gap v) s (h.well v s there)

    same_vats : y.vats ≡ x.vats → Holds y
    same_vats e = record { most = most_on; well = λ v s there. held v s (subst (λ vs. slice_get vs v ≡ Some s) e there) }

    one_vat : (a : ℕ) (t : Vat Name) → y.vats ≡ put_at a t x.vats → Kept word a (settling word a (May y.links a)) t → Holds y
    one_vat a t e k = record { most = most_on; well = λ v s there. go v s (put_cases a t x.vats v s (subst (λ vs. slice_get vs v ≡ Some s) e there)) }
      where
        go : (v : ℕ) (s : Vat Name) → ((v ≡ a) × (t ≡ s)) ⊎ ((v ≡ a → ⊥) × (slice_get x.vats v ≡ Some s)) → Kept word v (settling word v (May y.links v)) s
        go v s (inl i) = subst (λ (z : Vat Name). Kept word v (settling word v (May y.links v)) z) i.1 (subst (λ (c : ℕ). Kept word c (settling word c (May y.links c)) t) (sym i.0) k)
        go v s (inr i) = held v s i.1

  first_of : (P : Note Name → Type 0) (ks : List (Note Name)) (n : Note Name) (ns : List (Note Name)) → AllOf P ks → ks ≡ n ∷ ns → P n
  first_of P ks n ns h e = let one : AllOf P (n ∷ ns) = subst (λ xs. AllOf P xs) e h in one.0

  module _ (x : World) (past : Past x) (a v : ℕ) (s : Vat Name) (n : Note Name) (ns : List (Note Name)) (l : Link) (at : link_at a v x.links ≡ Some l) (notes : l.notes ≡ n ∷ ns) where
    between : IsBetween a v n
    between = let b = past.0 in let fits = b.past in let found : MayBe (λ (k : Link). AllOf (OfNotes script a v) k.notes) (Some l) = subst (MayBe (λ (k : Link). AllOf (OfNotes script a v) k.notes)) at (lift.found_fits (OfNotes script) a v x.links fits.1) in
        (first_of (OfNotes script a v) l.notes n ns found notes).0

    apart : a ≡ v → ⊥
    apart e = let b = past.0 in let counted = b.counted in let fated = counted.fated (Sent (record { sender = 0; number = 0 })) in self_none x.links fated.apart v l (ap (λ z. link_at z v x.links) (sym e) ∙ at)

    passes : NotePasses n
    passes = let sound = past.1 in let found : Maybe LinkPasses (Some l) = subst (Maybe LinkPasses) at (link_passes a v x.links sound.links) in let all : EachOf NotePasses (n ∷ ns) = subst (λ ms. EachOf NotePasses ms) notes found in all.0

    -- the note has arrived once it is taken
    opened_may : (ks : List Link) (i : ℕ) (z : Name) → Open i z ≡ n → ((j : ℕ) → way_all j x.links ≤ put_all j x.links) → Gap (with_link (with_notes ns) a v x.links) ks → May ks v (Gift v i)
    opened_may ks i z e most gap = λ same.
        let one : once (opens i n) ≡ 1 = subst (λ (k : Note Name). once (opens i k) ≡ 1) e (open_counts i z) in
        let way = taken_way a v x.links l n ns at notes i in let put = taken_put a v i x.links ns in let had = most i in let g = gap i in omega arith

    told_may : (ks : List Link) (z : Name) → IsBetween a v (Elsewhere z v) → May ks v (told_name (world.read_name (names_of s) z))
    told_may ks z b = subst (May ks v) (sym (told_is (names_of s) z)) (far_may ks v z (λ e. apart (sym b ∙ e)))

    note_may : (ks : List Link) → ((j : ℕ) → way_all j x.links ≤ put_all j x.links) → Gap (with_link (with_notes ns) a v x.links) ks → (k : Note Name) → k ≡ n → NoteOk MailBits k → IsBetween a v k → rests.NoteMay word v (settling word v (May ks v)) (λ m. tt) (read_note (names_of s) k)
    unfolding read_note
    note_may ks most gap (Deliver d z verb ys) e ok b = ok.0
    note_may ks most gap (Open i z) e ok b = opened_may ks i z e most gap
    note_may ks most gap (SettledTo z c) e ok b = told_may ks z b
    note_may ks most gap (Elsewhere z c) e ok b = told_may ks z b
    note_may ks most gap other e ok b = tt

  taken_gap : (a v : ℕ) (ls : List Link) (l : Link) (n : Note Name) (ns : List (Note Name)) → link_at a v ls ≡ Some l → l.notes ≡ n ∷ ns → Gap ls (with_link (with_notes ns) a v ls)
  taken_gap a v ls l n ns at notes i = let way = taken_way a v ls l n ns at notes i in let put = taken_put a v i ls ns in omega arith

  moved : (x y : World) → Past x → Past y → Moved script x y → Holds x → Holds y
  unfolding naming world.names
  moved x y p r (Still vats links drawn) h = same_vats x y h (subst (λ ks. Gap x.links ks) (sym links) (λ i. omega arith)) vats
  moved x y p r (Severs a b vats links drawn) h = let one = with_link severed_link a b x.links in
      same_vats x y h (subst (λ ks. Gap x.links ks) (sym links) (gap_on x.links one (with_link severed_link b a one) (severed_gap a b x.links) (severed_gap b a one))) vats
  moved x y p r (Drops a v n ns l at notes none vats links drawn) h = same_vats x y h (subst (λ ks. Gap x.links ks) (sym links) (taken_gap a v x.links l n ns at notes)) vats
  moved x y p r (Steps v s q t what alone d vats links drawn first fresh) h = let sound = p.1 in let gap : Gap x.links y.links = subst (λ ks. Gap x.links ks) (sym links) (pushes_gap v t.outbox x.links) in
      one_vat x y h gap v t vats (alone_kept script v x (May y.links v) (λ m. tt) (λ i. tt) s q t what alone d tt (sound.vats v s d.there) (held x y h gap v s d.there))
  moved x y p r (Arrives a v s t n ns l at cut notes d vats links drawn first fresh) h = let sound = p.1 in let taken = with_link (with_notes ns) a v x.links in
      let push : Gap taken y.links = subst (λ ks. Gap taken ks) (sym links) (pushes_gap v t.outbox taken) in
      let gap : Gap x.links y.links = gap_on x.links taken y.links (taken_gap a v x.links l n ns at notes) push in
      one_vat x y h gap v t vats (arrive_kept script v x (May y.links v) (λ m. tt) (λ i. tt) a s t n d.gives
      (note_may x p a v s n ns l at notes y.links h.most push n refl (first_mails script x a v n ns l p.0 at notes) (between x p a v s n ns l at notes)) (passes x p a v s n ns l at notes) (sound.vats v s d.there) (held x y h gap v s d.there))

  -- ---- the start

  none_put : (i : ℕ) (ls : List Link) → AllOf (λ (l : Link). AllOf (λ (n : Note Name). ⊥) l.log × AllOf (λ (n : Note Name). ⊥) l.notes) ls → way_all i ls ≡ 0
  unfolding sum_of opens_in
  none_put i [] h = refl
  none_put i (l ∷ ls) h = let rest = none_put i ls h.1 in let here = none l.notes h.0.1 in omega arith
    where
      none : (ns : List (Note Name)) → AllOf (λ (n : Note Name). ⊥) ns → opens_in i ns ≡ 0
      none [] k = refl
      none (n ∷ ns) k = absurd k.0

  begins_holds : Holds (world.begins script)
  unfolding world.begins
  begins_holds = record {
    most = λ i. let none = none_put i (world.links_from script.vats zero script.vats) (lift.links_from_fit (λ a b n. ⊥) script.vats zero script.vats) in omega arith;
    well = λ v s e. fresh_kept script v (May (world.links_from script.vats zero script.vats) v) s e;
  }

  -- ---- runs

  module _ (knows : KnowsOnce script) where
    opened_past : (ps rest : List Program) (w : World) → script.vats ≡ ps ++ rest → world.open_from script zero ps (world.begins script) ≡ Going w → Past w
    opened_past ps rest w i e = (opened_before script knows ps rest w i e, opens_sound script zero ps (world.begins script) w (begins_sound script) e)

    stepped_past : (w x : World) (es : List Entry) (k : ℕ) → world.open_from script zero script.vats (world.begins script) ≡ Going w → world.steps_from script es k w ≡ Going x → Past x
    stepped_past w x es k e i = (stepped_before script knows w x es k e i, steps_sound script es k w x (opens_sound script zero script.vats (world.begins script) w (begins_sound script) e) i)

    opened_holds : (ps rest : List Program) (w : World) → script.vats ≡ ps ++ rest → world.open_from script zero ps (world.begins script) ≡ Going w → Holds w
    opened_holds = opened_hold script Past opened_past stepped_past (λ w p. stands_of script w p.0) Holds moved begins_holds

    stepped_holds : (w x : World) (es : List Entry) (k : ℕ) → world.open_from script zero script.vats (world.begins script) ≡ Going w → world.steps_from script es k w ≡ Going x → Holds x
    stepped_holds = stepped_hold script Past opened_past stepped_past (λ w p. stands_of script w p.0) Holds moved begins_holds

  opens_new : (w : World) → IsReached script w → Holds w → OpensNew script w
  unfolding naming world.names standing_of standing_in
  opens_new w reached h u v s l there at i n a = calms word v (May w.links v) (Gift v i) cannot s.known (let k = h.well v s there in k.1)
    where
      cannot : May w.links v (Gift v i) → ⊥
      cannot m = let gone = m refl in let most = each_gift_is_opened_once script w reached i in let is = put_is i w.links in
          let one = among_counts i n l.notes a in let here = found_most (λ k. way_on i k) u v w.links l at in absurd (omega arith)

pub opened_gifts_are_new : OpenedGiftsAreNew
opened_gifts_are_new script knows = (
  λ ps rest w split e. opens_new script w ((honest_reached script).0 ps rest w split e) (opened_holds script knows ps rest w split e),
  λ w x es k opened steps. opens_new script x ((honest_reached script).1 w x es k opened steps) (stepped_holds script knows w x es k opened steps),
)
