-- What vats have in numbers for each other goes with what the notes between them tell: the links and connections of a world.
use Rattle.std.proofs.Common.{◌≡◌, ℕ, Bool, true, false, List, [], ◌∷◌, ◌++◌, Option, Some, None, refl, sym, ap, subst, ◌∙◌, ◌⊎◌, inl, inr}
use Rattle.std.specs.Prelude.{slice_get}
use Rattle.def_machine.specs.Values.{Name, Root}
use Rattle.def_machine.specs.State.{Note, Put, Vat}
use Rattle.def_run.specs.Connections as tables
use Rattle.def_run.specs.Connections.{Connection}
use Rattle.def_run.specs.Wire as conn
use Rattle.def_run.specs.Wire.{Connected, connected_at, with_connected}
use Rattle.def_run.specs.World as world
use Rattle.def_run.specs.World.{Link, link_at, with_link, with_notes, pushed, severed_link, put_at}
use Rattle.law_fate.specs.Name.Names.{AllOf}
use Rattle.law_reference.proofs.Reference.LinksCut.{fits_pushed, fits_notes, fits_severed}
use Rattle.law_frame.proofs.Frame.LinksGo.{Stays, with_link_here}
use Rattle.law_frame.proofs.Frame.Places.{same_or, link_other, connected_same, connected_other, connected_ends}
use Rattle.law_frame.proofs.Frame.Ranks.{exports_start}
use Rattle.law_frame.proofs.Frame.Written.{pushed_from, pushed_to, wrote_from, wrote_to, received_from, received_to, notes_from, notes_to, severed_from, severed_to, get_or}
use Rattle.law_reference.specs.Reference.Logs as wire
use Rattle.law_frame.proofs.Heard.Pairs.{true_false, pushed_cut}
use Rattle.law_frame.proofs.Heard.Kept.{Noted, Kept, kept_put, kept_reader, kept_writer, kept_exports, kept_questions}
use Rattle.law_frame.proofs.Heard.Read.{Fits, kept_read}

some_is : (l j : Link) → Some l ≡ Some j → l ≡ j
some_is l j e = cc

pushed_stays : (n : Note Name) → Stays (pushed n)
pushed_stays n a b l = let fits = fits_pushed a b n in fits.place a b l

notes_stay : (ns : List (Note Name)) → Stays (with_notes ns)
notes_stay ns a b l = let fits = fits_notes a b ns in fits.place a b l

severed_stay : Stays severed_link
severed_stay a b l = let fits = fits_severed a b in fits.place a b l

pushed_or : (n : Note Name) (l : Link) (b : Bool) → b ≡ false → ◌≡◌ {A = Link} (elim b [ true ↦ record l { log = l.log ++ n ∷ [] } | false ↦ record l { notes = l.notes ++ n ∷ []; log = l.log ++ n ∷ [] } ]) (record l { notes = l.notes ++ n ∷ []; log = l.log ++ n ∷ [] })
pushed_or n l true e = cc
pushed_or n l false e = refl

pushed_open : (n : Note Name) (l : Link) → l.cut ≡ false → pushed n l ≡ record l { notes = l.notes ++ n ∷ []; log = l.log ++ n ∷ [] }
unfolding pushed
pushed_open n l e = pushed_or n l l.cut e

notes_cut : (ns : List (Note Name)) (l : Link) → (let j : Link = with_notes ns l in j.cut) ≡ l.cut
unfolding with_notes
notes_cut ns l = refl

taken_is : (ns : List (Note Name)) (l : Link) → record l { notes = ns } ≡ with_notes ns l
unfolding with_notes
taken_is ns l = refl

severed_cut : (l : Link) → (let j : Link = severed_link l in j.cut) ≡ true
unfolding severed_link
severed_cut l = refl

-- the link is there, and not cut
abbrev pub Uncut : ℕ → ℕ → List Link → Type 0
Uncut a b ls = (l : Link) × (link_at a b ls ≡ Some l) × (l.cut ≡ false)

pushed_uncut : (n : Note Name) (a b v u : ℕ) (ls : List Link) → Uncut v u (with_link (pushed n) a b ls) → Uncut v u ls
pushed_uncut n a b v u ls h = either (same_or a b v u)
  where
    either : ((a ≡ v) × (b ≡ u)) ⊎ (a ≡ v → b ≡ u → ⊥) → Uncut v u ls
    either (inr o) = (h.0, sym (link_other (pushed n) (pushed_from n) (pushed_to n) a b v u ls o) ∙ h.1, h.2)
    either (inl e) = subst (λ (y : ℕ). Uncut v y ls) e.1 (subst (λ (x : ℕ). Uncut x b ls) e.0 here)
      where
        at : link_at a b (with_link (pushed n) a b ls) ≡ Some h.0
        at = ap (λ (x : ℕ). link_at x b (with_link (pushed n) a b ls)) e.0 ∙ ap (λ (y : ℕ). link_at v y (with_link (pushed n) a b ls)) e.1 ∙ h.1

        here : Uncut a b ls
        here = let was = with_link_here (pushed n) (pushed_stays n) a b ls h.0 at in (was.0, was.1, sym (pushed_cut n was.0) ∙ ap (λ (z : Link). z.cut) (sym was.2) ∙ h.2)

-- ---- the links and connections of vats, where Q is what each asked the other for

module _ (Q : ℕ → ℕ → List Name) where
  abbrev pub On : List (Vat Name) → List Link → List Connected → ℕ → ℕ → Type 0
  On vats ls cs v u = (v ≡ u → ⊥) → (r s : Vat Name) → slice_get vats v ≡ Some r → slice_get vats u ≡ Some s → (l m : Link) → link_at v u ls ≡ Some l → link_at u v ls ≡ Some m → l.cut ≡ false → m.cut ≡ false
      → Kept v u (Q v u) (Q u v) (connected_at v u cs) (connected_at u v cs) l.log l.notes l.roots

  abbrev pub Good : List (Vat Name) → List Link → List Connected → Type 0
  Good vats ls cs = (v u : ℕ) → On vats ls cs v u

  pub good_vats : (v : ℕ) (t : Vat Name) (vats : List (Vat Name)) (ls : List Link) (cs : List Connected) → Good vats ls cs → Good (put_at v t vats) ls cs
  good_vats v t vats ls cs h a u other r s there here = let x = get_or v a t vats r there in let y = get_or v u t vats s here in h a u other x.0 y.0 x.1 y.1

  kept_same : (v u : ℕ) (c d e f : Connected) (l k : Link) → e ≡ c → f ≡ d → l ≡ k → Kept v u (Q v u) (Q u v) c d l.log l.notes l.roots → Kept v u (Q v u) (Q u v) e f k.log k.notes k.roots
  kept_same v u c d e f l k a b i h = subst (λ (z : Link). Kept v u (Q v u) (Q u v) e f z.log z.notes z.roots) i (subst (λ (z : Connected). Kept v u (Q v u) (Q u v) z f l.log l.notes l.roots) (sym a) (subst (λ (z : Connected). Kept v u (Q v u) (Q u v) c z l.log l.notes l.roots) (sym b) h))

  module _ (vats : List (Vat Name)) where
    -- ---- a note is put, from a to b

    -- how vat a may put a note to b
    abbrev pub MayPut : ℕ → ℕ → List Link → List Name → List Name → Note Name → Type 0
    MayPut a b ls is qs m = (a ≡ b → ⊥) → (r s : Vat Name) → slice_get vats a ≡ Some r → slice_get vats b ≡ Some s → Uncut a b ls → Uncut b a ls → (t : Connection Name) → t.imports ≡ is → t.answers ≡ qs → Noted a b (Q a b) (Q b a) m t

    module _ (a b : ℕ) (m : Note Name) (ls : List Link) (cs : List Connected) (may : (a ≡ b → ⊥) → (r s : Vat Name) → slice_get vats a ≡ Some r → slice_get vats b ≡ Some s → Uncut a b ls → Uncut b a ls → Noted a b (Q a b) (Q b a) m (connected_at a b cs).tables) (h : Good vats ls cs) where
      abbrev Ls : List Link
      Ls = with_link (pushed m) a b ls

      abbrev Cs : List Connected
      Cs = with_connected (conn.wrote m) a b cs

      here : On vats Ls Cs a b
      here other r s there gone l k at back free shut = let was = with_link_here (pushed m) (pushed_stays m) a b ls l at in let apart : a ≡ b → b ≡ a → ⊥ = λ i j. other i in
          let back_was = sym (link_other (pushed m) (pushed_from m) (pushed_to m) a b b a ls apart) ∙ back in let cut : was.0.cut ≡ false = sym (pushed_cut m was.0) ∙ ap (λ (z : Link). z.cut) (sym was.2) ∙ free in
          let ends = connected_ends a b cs in
          kept_same a b (conn.wrote m (connected_at a b cs)) (connected_at b a cs) (connected_at a b Cs) (connected_at b a Cs) (record was.0 { notes = was.0.notes ++ m ∷ []; log = was.0.log ++ m ∷ [] }) l
          (connected_same (conn.wrote m) (wrote_from m) (wrote_to m) a b cs) (connected_other (conn.wrote m) (wrote_from m) (wrote_to m) a b b a cs apart) (sym (pushed_open m was.0 cut) ∙ sym was.2)
          (kept_put a b (Q a b) (Q b a) m (connected_at a b cs) (connected_at b a cs) was.0.log was.0.notes was.0.roots ends.0 ends.1 (may other r s there gone (was.0, was.1, cut) (k, back_was, shut)) (h a b other r s there gone was.0 k was.1 back_was cut shut))

      -- the vat that puts the note is the reader
      reader : On vats Ls Cs b a
      reader other r s there gone l k at back free shut = let apart : a ≡ b → b ≡ a → ⊥ = λ i j. other j in let was = with_link_here (pushed m) (pushed_stays m) a b ls k back in
          let at_was = sym (link_other (pushed m) (pushed_from m) (pushed_to m) a b b a ls apart) ∙ at in let cut : was.0.cut ≡ false = sym (pushed_cut m was.0) ∙ ap (λ (z : Link). z.cut) (sym was.2) ∙ shut in
          kept_same b a (connected_at b a cs) (conn.wrote m (connected_at a b cs)) (connected_at b a Cs) (connected_at a b Cs) l l
          (connected_other (conn.wrote m) (wrote_from m) (wrote_to m) a b b a cs apart) (connected_same (conn.wrote m) (wrote_from m) (wrote_to m) a b cs) refl
          (kept_reader b a (Q b a) (Q a b) m (connected_at b a cs) (connected_at a b cs) l.log l.notes l.roots (h b a other r s there gone l was.0 at_was was.1 free cut))

      pub put_good : Good vats Ls Cs
      put_good v u = either (same_or a b v u) (same_or a b u v)
        where
          either : ((a ≡ v) × (b ≡ u)) ⊎ (a ≡ v → b ≡ u → ⊥) → ((a ≡ u) × (b ≡ v)) ⊎ (a ≡ u → b ≡ v → ⊥) → On vats (with_link (pushed m) a b ls) (with_connected (conn.wrote m) a b cs) v u
          either (inl e) k = subst (λ (y : ℕ). On vats (with_link (pushed m) a b ls) (with_connected (conn.wrote m) a b cs) v y) e.1 (subst (λ (x : ℕ). On vats (with_link (pushed m) a b ls) (with_connected (conn.wrote m) a b cs) x b) e.0 here)
          either (inr n) (inl e) = subst (λ (y : ℕ). On vats (with_link (pushed m) a b ls) (with_connected (conn.wrote m) a b cs) y u) e.1 (subst (λ (x : ℕ). On vats (with_link (pushed m) a b ls) (with_connected (conn.wrote m) a b cs) b x) e.0 reader)
          either (inr n) (inr k) = λ other r s there gone l j at back free shut. kept_same v u (connected_at v u cs) (connected_at u v cs) (connected_at v u (with_connected (conn.wrote m) a b cs)) (connected_at u v (with_connected (conn.wrote m) a b cs)) l l
              (connected_other (conn.wrote m) (wrote_from m) (wrote_to m) a b v u cs n) (connected_other (conn.wrote m) (wrote_from m) (wrote_to m) a b u v cs k) refl
              (h v u other r s there gone l j (sym (link_other (pushed m) (pushed_from m) (pushed_to m) a b v u ls n) ∙ at) (sym (link_other (pushed m) (pushed_from m) (pushed_to m) a b u v ls k) ∙ back) free shut)

    -- what vat a has read of each other one
    abbrev pub HasRead : ℕ → (ℕ → List Name) → (ℕ → List Name) → List Connected → Type 0
    HasRead a is qs cs = (b : ℕ) → ((connected_at a b cs).tables.imports ≡ is b) × ((connected_at a b cs).tables.answers ≡ qs b)

    wrote_reads : (m : Note Name) (c : Connected) → (let e : Connected = conn.wrote m c in (e.tables.imports ≡ c.tables.imports) × (e.tables.answers ≡ c.tables.answers))
    unfolding conn.wrote tables.put_on
    wrote_reads m c = (refl, refl)

    still_read : (a to : ℕ) (m : Note Name) (is qs : ℕ → List Name) (cs : List Connected) → HasRead a is qs cs → HasRead a is qs (with_connected (conn.wrote m) a to cs)
    still_read a to m is qs cs h b = either (same_or a to a b)
      where
        either : ((a ≡ a) × (to ≡ b)) ⊎ (a ≡ a → to ≡ b → ⊥) → ((connected_at a b (with_connected (conn.wrote m) a to cs)).tables.imports ≡ is b) × ((connected_at a b (with_connected (conn.wrote m) a to cs)).tables.answers ≡ qs b)
        either (inl e) = let same = ap (λ (y : ℕ). connected_at a b (with_connected (conn.wrote m) a y cs)) e.1 ∙ connected_same (conn.wrote m) (wrote_from m) (wrote_to m) a b cs in let k = wrote_reads m (connected_at a b cs) in
            (ap (λ (c : Connected). c.tables.imports) same ∙ k.0 ∙ (h b).0, ap (λ (c : Connected). c.tables.answers) same ∙ k.1 ∙ (h b).1)
        either (inr n) = let same = connected_other (conn.wrote m) (wrote_from m) (wrote_to m) a to a b cs n in (ap (λ (c : Connected). c.tables.imports) same ∙ (h b).0, ap (λ (c : Connected). c.tables.answers) same ∙ (h b).1)

    may_stay : (n : Note Name) (a to : ℕ) (is qs : ℕ → List Name) (ps : List (Put Name)) (ls : List Link) → AllOf (λ (p : Put Name). MayPut a p.to ls (is p.to) (qs p.to) p.note) ps → AllOf (λ (p : Put Name). MayPut a p.to (with_link (pushed n) a to ls) (is p.to) (qs p.to) p.note) ps
    may_stay n a to is qs [] ls h = tt
    may_stay n a to is qs (p ∷ ps) ls h = (λ o y z there here i j. h.0 o y z there here (pushed_uncut n a to a p.to ls i) (pushed_uncut n a to p.to a ls j), may_stay n a to is qs ps ls h.1)

    pub puts_good : (a : ℕ) (is qs : ℕ → List Name) (ps : List (Put Name)) (ls : List Link) (cs : List Connected) → HasRead a is qs cs → AllOf (λ (p : Put Name). MayPut a p.to ls (is p.to) (qs p.to) p.note) ps → Good vats ls cs → Good vats (world.push_all a ps ls) (conn.write_all a ps cs)
    unfolding world.push_all conn.write_all
    puts_good a is qs [] ls cs r may h = h
    puts_good a is qs (p ∷ ps) ls cs r may h = let one : List Link = with_link (pushed p.note) a p.to ls in puts_good a is qs ps one (with_connected (conn.wrote p.note) a p.to cs) (still_read a p.to p.note is qs cs r)
        (may_stay p.note a p.to is qs ps ls may.1)
        (put_good a p.to p.note ls cs (λ o y z there here i j. may.0 o y z there here i j (connected_at a p.to cs).tables (r p.to).0 (r p.to).1) h)

    -- ---- a note arrives, from a at b

    module _ (a b : ℕ) (l : Link) (m : Note Name) (ns : List (Note Name)) (ls : List Link) (cs : List Connected) (at : link_at a b ls ≡ Some l) (heads : l.notes ≡ m ∷ ns)
        (fits : (a ≡ b → ⊥) → (r s : Vat Name) → slice_get vats a ≡ Some r → slice_get vats b ≡ Some s → (k : Link) → link_at b a ls ≡ Some k → l.cut ≡ false → k.cut ≡ false → Fits a b (Q a b) (connected_at b a cs).tables.answers m) (h : Good vats ls cs) where
      abbrev Taken : List Link
      Taken = with_link (with_notes ns) a b ls

      abbrev Read : Connected → Connected
      Read = conn.received (connected_at a b cs) m

      abbrev Ds : List Connected
      Ds = with_connected Read b a cs

      apart : (a ≡ b → ⊥) → a ≡ b → b ≡ a → ⊥
      apart o i j = o i

      other_way : (a ≡ b → ⊥) → b ≡ a → a ≡ b → ⊥
      other_way o i j = o j

      kept_here : (other : a ≡ b → ⊥) (r s : Vat Name) → slice_get vats a ≡ Some r → slice_get vats b ≡ Some s → (k : Link) → link_at b a ls ≡ Some k → l.cut ≡ false → k.cut ≡ false → Kept a b (Q a b) (Q b a) (connected_at a b cs) (Read (connected_at b a cs)) l.log ns l.roots
      kept_here other r s there gone k back free shut = let c = connected_at a b cs in let d = connected_at b a cs in let c_ends = connected_ends a b cs in let d_ends = connected_ends b a cs in
          let first = subst (λ (ms : List (Note Name)). Kept a b (Q a b) (Q b a) c d l.log ms l.roots) heads (h a b other r s there gone l k at back free shut) in
          let mine = h b a (λ i. other (sym i)) s r gone there k l back at shut free in
          let exported = kept_exports b a (Q b a) (Q a b) d c.tables.imports c.tables.answers k.notes mine.1 mine.8 in let more = exports_start b (Q a b) k.notes c.tables.imports in
          kept_read a b (Q a b) (Q b a) c d (Root c.from) m ns l.log l.roots first c_ends.0 d_ends.0 d_ends.1 (more.0, exported ∙ more.1) (wire.questions_in a k.notes, kept_questions b a (Q b a) (Q a b) d c.tables.imports c.tables.answers k.notes mine.1 mine.8) (fits other r s there gone k back free shut) refl c_ends.1

      read_here : On vats Taken Ds a b
      read_here other r s there gone j k to back free shut = let was = with_link_here (with_notes ns) (notes_stay ns) a b ls j to in let same : was.0 ≡ l = some_is was.0 l (sym was.1 ∙ at) in
          let back_was = sym (link_other (with_notes ns) (notes_from ns) (notes_to ns) a b b a ls (apart other)) ∙ back in let now : with_notes ns l ≡ j = ap (with_notes ns) (sym same) ∙ sym was.2 in
          kept_same a b (connected_at a b cs) (Read (connected_at b a cs)) (connected_at a b Ds) (connected_at b a Ds) (record l { notes = ns }) j
          (connected_other Read (received_from (connected_at a b cs) m) (received_to (connected_at a b cs) m) b a a b cs (other_way other)) (connected_same Read (received_from (connected_at a b cs) m) (received_to (connected_at a b cs) m) b a cs) (taken_is ns l ∙ now)
          (kept_here other r s there gone k back_was (sym (notes_cut ns l) ∙ ap (λ (z : Link). z.cut) now ∙ free) shut)

      read_writer : On vats Taken Ds b a
      read_writer other r s there gone j k to back free shut = let o : a ≡ b → ⊥ = λ i. other (sym i) in let was = with_link_here (with_notes ns) (notes_stay ns) a b ls k back in
          let to_was = sym (link_other (with_notes ns) (notes_from ns) (notes_to ns) a b b a ls (apart o)) ∙ to in
          kept_same b a (Read (connected_at b a cs)) (connected_at a b cs) (connected_at b a Ds) (connected_at a b Ds) j j
          (connected_same Read (received_from (connected_at a b cs) m) (received_to (connected_at a b cs) m) b a cs) (connected_other Read (received_from (connected_at a b cs) m) (received_to (connected_at a b cs) m) b a a b cs (other_way o)) refl
          (kept_writer b a (Q b a) (Q a b) m (connected_at a b cs) (connected_at b a cs) (connected_at a b cs) j.log j.notes j.roots (h b a other r s there gone j was.0 to_was was.1 free (sym (notes_cut ns was.0) ∙ ap (λ (z : Link). z.cut) (sym was.2) ∙ shut)))

      pub read_good : Good vats Taken Ds
      read_good v u = either (same_or a b v u) (same_or a b u v)
        where
          either : ((a ≡ v) × (b ≡ u)) ⊎ (a ≡ v → b ≡ u → ⊥) → ((a ≡ u) × (b ≡ v)) ⊎ (a ≡ u → b ≡ v → ⊥) → On vats Taken Ds v u
          either (inl e) k = subst (λ (y : ℕ). On vats Taken Ds v y) e.1 (subst (λ (x : ℕ). On vats Taken Ds x b) e.0 read_here)
          either (inr n) (inl e) = subst (λ (y : ℕ). On vats Taken Ds y u) e.1 (subst (λ (x : ℕ). On vats Taken Ds b x) e.0 read_writer)
          either (inr n) (inr k) = λ other r s there gone i j to back free shut. kept_same v u (connected_at v u cs) (connected_at u v cs) (connected_at v u Ds) (connected_at u v Ds) i i
              (connected_other Read (received_from (connected_at a b cs) m) (received_to (connected_at a b cs) m) b a v u cs (λ x y. k y x)) (connected_other Read (received_from (connected_at a b cs) m) (received_to (connected_at a b cs) m) b a u v cs (λ x y. n y x)) refl
              (h v u other r s there gone i j (sym (link_other (with_notes ns) (notes_from ns) (notes_to ns) a b v u ls n) ∙ to) (sym (link_other (with_notes ns) (notes_from ns) (notes_to ns) a b u v ls k) ∙ back) free shut)

    -- ---- cuts, and notes that nobody takes

    severed_was : (a b v u : ℕ) (ls : List Link) (l : Link) → link_at v u (with_link severed_link a b ls) ≡ Some l → l.cut ≡ false → link_at v u ls ≡ Some l
    severed_was a b v u ls l at free = either (same_or a b v u)
      where
        either : ((a ≡ v) × (b ≡ u)) ⊎ (a ≡ v → b ≡ u → ⊥) → link_at v u ls ≡ Some l
        either (inr n) = sym (link_other severed_link severed_from severed_to a b v u ls n) ∙ at
        either (inl e) = let was = with_link_here severed_link severed_stay a b ls l (ap (λ (x : ℕ). link_at x b (with_link severed_link a b ls)) e.0 ∙ ap (λ (y : ℕ). link_at v y (with_link severed_link a b ls)) e.1 ∙ at) in
            absurd (true_false (severed_cut was.0) (ap (λ (z : Link). z.cut) (sym was.2) ∙ free))

    pub severed_good : (a b : ℕ) (ls : List Link) (cs : List Connected) → Good vats ls cs → Good vats (with_link severed_link a b ls) cs
    severed_good a b ls cs h v u other r s there gone l k at back free shut = h v u other r s there gone l k (severed_was a b v u ls l at free) (severed_was a b u v ls k back shut) free shut

    pub dropped_good : (a b : ℕ) (ns : List (Note Name)) (ls : List Link) (cs : List Connected) → slice_get vats b ≡ None → Good vats ls cs → Good vats (with_link (with_notes ns) a b ls) cs
    dropped_good a b ns ls cs none h v u other r s there gone l k at back free shut = either (same_or a b v u) (same_or a b u v)
      where
        nobody : (x : ℕ) (q : Vat Name) → b ≡ x → slice_get vats x ≡ Some q → ⊥
        nobody x q e f = clash (slice_get vats b) none (ap (λ (y : ℕ). slice_get vats y) e ∙ f)
          where
            clash : (o : Option (Vat Name)) → o ≡ None → o ≡ Some q → ⊥
            clash o i j = cc

        either : ((a ≡ v) × (b ≡ u)) ⊎ (a ≡ v → b ≡ u → ⊥) → ((a ≡ u) × (b ≡ v)) ⊎ (a ≡ u → b ≡ v → ⊥) → Kept v u (Q v u) (Q u v) (connected_at v u cs) (connected_at u v cs) l.log l.notes l.roots
        either (inl e) i = absurd (nobody u s e.1 gone)
        either (inr n) (inl e) = absurd (nobody v r e.1 there)
        either (inr n) (inr i) = h v u other r s there gone l k (sym (link_other (with_notes ns) (notes_from ns) (notes_to ns) a b v u ls n) ∙ at) (sym (link_other (with_notes ns) (notes_from ns) (notes_to ns) a b u v ls i) ∙ back) free shut
