-- A link that is cut stays cut.
use Rattle.std.proofs.Common.{◌≡◌, ℕ, Bool, true, false, List, [], ◌∷◌, ◌++◌, Option, Some, None, refl, ◌∙◌}
use Rattle.std.specs.Prelude.{slice_get}
use Rattle.def_machine.specs.Values.{Name}
use Rattle.def_machine.specs.State.{Message, Note, Put, Vat, Done, Gives, Act}
use Rattle.def_machine.specs.Arrive.{notice}
use Rattle.def_run.specs.World as world
use Rattle.def_run.specs.World.{Script, Program, Opens, Entry, Turn, Carry, CutLink, NoticeLink, Event, Turned, Idle, Carried, NoticedAt, Link, World, Goes as Going, names, put_at}
use Rattle.law_reference.specs.Reference.Cuts.{IsCutThere}

going_is : (w x : World) → Going w ≡ Going x → w ≡ x
going_is w x e = cc

severed_cut : (j : Link) → (world.severed_link j).cut ≡ true
unfolding world.severed_link
severed_cut j = refl

module _ (v u : ℕ) where
  -- it leaves a link where it is, and cut
  pub record Fits (f : Link → Link) : Type 0 where
    pub place : (a b : ℕ) (l : Link) → world.is_link a b (f l) ≡ world.is_link a b l
    pub cut : (l : Link) → l.cut ≡ true → (f l).cut ≡ true

  at_true : (b d : Bool) (l j : Link) (o : Option Link) (m : Link) → d ≡ b → (l.cut ≡ true → j.cut ≡ true) → ((x : Link) → ◌≡◌ {A = Option Link} (elim b [ true ↦ Some l | false ↦ o ]) (Some x) → x.cut ≡ true)
      → ◌≡◌ {A = Option Link} (elim d [ true ↦ Some j | false ↦ o ]) (Some m) → m.cut ≡ true
  at_true true d l j o m e k h i = let same : Some j ≡ Some m = rw e at i in let one : j ≡ m = cc in rw one at (k (h l refl))
  at_true false d l j o m e k h i = h m (rw e at i)

  at_false : (b : Bool) (l : Link) (o p : Option Link) (m : Link) → ((x : Link) → ◌≡◌ {A = Option Link} (elim b [ true ↦ Some l | false ↦ o ]) (Some x) → x.cut ≡ true) → (((x : Link) → o ≡ Some x → x.cut ≡ true) → (x : Link) → p ≡ Some x → x.cut ≡ true)
      → ◌≡◌ {A = Option Link} (elim b [ true ↦ Some l | false ↦ p ]) (Some m) → m.cut ≡ true
  at_false true l o p m h g i = h m i
  at_false false l o p m h g i = g (λ x e. h x e) m i

  kept_head : (c : Bool) (f : Link → Link) → Fits f → (l : Link) (ls rest : List Link) → IsCutThere v u (l ∷ ls) → (IsCutThere v u ls → IsCutThere v u rest) → IsCutThere v u (elim c [ true ↦ f l ∷ ls | false ↦ l ∷ rest ])
  unfolding world.link_at
  kept_head true f fits l ls rest h g m i = at_true (world.is_link v u l) (world.is_link v u (f l)) l (f l) (world.link_at v u ls) m (fits.place v u l) (fits.cut l) h i
  kept_head false f fits l ls rest h g m i = at_false (world.is_link v u l) l (world.link_at v u ls) (world.link_at v u rest) m h g i

  pub stays_cut : (f : Link → Link) → Fits f → (a b : ℕ) (ls : List Link) → IsCutThere v u ls → IsCutThere v u (world.with_link f a b ls)
  unfolding world.with_link
  stays_cut f fits a b [] h = h
  stays_cut f fits a b (l ∷ ls) h = kept_head (world.is_link a b l) f fits l ls (world.with_link f a b ls) h (λ g. stays_cut f fits a b ls g)

  either_place : (c : Bool) (n : Note Name) (a b : ℕ) (l : Link) → world.is_link a b (elim c [ true ↦ record l { log = l.log ++ n ∷ [] } | false ↦ record l { notes = l.notes ++ n ∷ []; log = l.log ++ n ∷ [] } ]) ≡ world.is_link a b l
  unfolding world.is_link
  either_place true n a b l = refl
  either_place false n a b l = refl

  either_cut : (c : Bool) (n : Note Name) (l : Link) → l.cut ≡ true → (◌≡◌ {A = Bool} (let j : Link = elim c [ true ↦ record l { log = l.log ++ n ∷ [] } | false ↦ record l { notes = l.notes ++ n ∷ []; log = l.log ++ n ∷ [] } ] in j.cut) true)
  either_cut true n l e = e
  either_cut false n l e = e

  pub fits_pushed : (n : Note Name) → Fits (world.pushed n)
  unfolding world.pushed
  fits_pushed n = record { place = λ a b l. either_place l.cut n a b l; cut = λ l e. either_cut l.cut n l e }

  pub fits_notes : (ns : List (Note Name)) → Fits (world.with_notes ns)
  unfolding world.with_notes world.is_link
  fits_notes ns = record { place = λ a b l. refl; cut = λ l e. e }

  pub fits_severed : Fits world.severed_link
  unfolding world.severed_link world.is_link
  fits_severed = record { place = λ a b l. refl; cut = λ l e. refl }

  pub push_stays_cut : (a : ℕ) (ps : List (Put Name)) (ls : List Link) → IsCutThere v u ls → IsCutThere v u (world.push_all a ps ls)
  unfolding world.push_all
  push_stays_cut a [] ls h = h
  push_stays_cut a (p ∷ ps) ls h = push_stays_cut a ps (world.with_link (world.pushed p.note) a p.to ls) (stays_cut (world.pushed p.note) (fits_pushed p.note) a p.to ls h)

  -- ---- a cut cuts

  none_there : IsCutThere v u []
  unfolding world.link_at
  none_there l e = cc

  now_head : (c : Bool) (l : Link) (ls rest : List Link) → world.is_link v u l ≡ c → IsCutThere v u rest → IsCutThere v u (elim c [ true ↦ world.severed_link l ∷ ls | false ↦ l ∷ rest ])
  unfolding world.link_at
  now_head true l ls rest e h m i = severed_there (world.is_link v u (world.severed_link l)) l (world.link_at v u ls) m (fits_severed.place v u l ∙ e) i
    where
      severed_there : (d : Bool) (j : Link) (o : Option Link) (x : Link) → d ≡ true → ◌≡◌ {A = Option Link} (elim d [ true ↦ Some (world.severed_link j) | false ↦ o ]) (Some x) → x.cut ≡ true
      severed_there true j o x g k = let same : world.severed_link j ≡ x = cc in rw same at (severed_cut j)
      severed_there false j o x g k = cc
  now_head false l ls rest e h m i = h m (rest_there (world.is_link v u l) l (world.link_at v u rest) m e i)
    where
      rest_there : (d : Bool) (j : Link) (o : Option Link) (x : Link) → d ≡ false → ◌≡◌ {A = Option Link} (elim d [ true ↦ Some j | false ↦ o ]) (Some x) → o ≡ Some x
      rest_there true j o x g k = cc
      rest_there false j o x g k = k

  pub now_cut : (ls : List Link) → IsCutThere v u (world.with_link world.severed_link v u ls)
  unfolding world.with_link
  now_cut [] = none_there
  now_cut (l ∷ ls) = now_head (world.is_link v u l) l ls (world.with_link world.severed_link v u ls) refl (now_cut ls)

  -- ---- the entries of a schedule

  module _ (script : Script) where
    moved : (w x : World) → IsCutThere v u w.links → Going w ≡ Going x → IsCutThere v u x.links
    moved w x h e = rw (going_is w x e) at h

    put_back_cut : (w x : World) (a : ℕ) (head : List Event) (n : ℕ) (d : Done Name (Unit {0})) → IsCutThere v u w.links → world.put_back a w head n d ≡ Going x → IsCutThere v u x.links
    unfolding world.put_back
    put_back_cut w x a head n (Gives r t) h i = moved (record { fuel = t.fuel; drawn = t.drawn; vats = put_at a t w.vats; links = world.push_all a t.outbox w.links; connections = world.connections_after a t head w.connections; history = w.history ++ head ++ world.events_of w.links a t.happened }) x (push_stays_cut a t.outbox w.links h) i
    put_back_cut w x a head n other h i = cc

    idle_cut : (k : ℕ) (w x : World) → IsCutThere v u w.links → world.idle script k w ≡ Going x → IsCutThere v u x.links
    unfolding world.idle
    idle_cut k w x h e = moved (record w { history = w.history ++ Idle k ∷ [] }) x h e

    turn_queue_cut : (k a : ℕ) (w x : World) (s : Vat Name) (qs : List (Message Name)) → IsCutThere v u w.links → world.turn_queue script k a w s qs ≡ Going x → IsCutThere v u x.links
    unfolding world.turn_queue world.within
    turn_queue_cut k a w x s [] h e = idle_cut k w x h e
    turn_queue_cut k a w x s (m ∷ ms) h e = put_back_cut w x a (Turned k a ∷ []) (world.step_number script k) _ h e

    turn_cut : (k a : ℕ) (w x : World) (o : Option (Vat Name)) → IsCutThere v u w.links → world.turn script k a w o ≡ Going x → IsCutThere v u x.links
    unfolding world.turn
    turn_cut k a w x None h e = idle_cut k w x h e
    turn_cut k a w x (Some s) h e = turn_queue_cut k a w x s s.queue h e

    arrives_cut : (k a b : ℕ) (w x : World) (n : Note Name) (o : Option (Vat Name)) → IsCutThere v u w.links → world.arrives script k a b w n o ≡ Going x → IsCutThere v u x.links
    unfolding world.arrives world.within
    arrives_cut k a b w x n None h e = idle_cut k w x h e
    arrives_cut k a b w x n (Some s) h e = put_back_cut w x b (Carried k a b n (world.next_frame a b w.connections) ∷ []) (world.step_number script k) _ h e

    carry_notes_cut : (k a b : ℕ) (w x : World) (ns : List (Note Name)) → IsCutThere v u w.links → world.carry_notes script k a b w ns ≡ Going x → IsCutThere v u x.links
    unfolding world.carry_notes
    carry_notes_cut k a b w x [] h e = idle_cut k w x h e
    carry_notes_cut k a b w x (n ∷ ns) h e = arrives_cut k a b (record w { links = world.with_link (world.with_notes ns) a b w.links }) x n (slice_get w.vats b) (stays_cut (world.with_notes ns) (fits_notes ns) a b w.links h) e

    carry_either_cut : (k a b : ℕ) (w x : World) (ns : List (Note Name)) (c : Bool) → IsCutThere v u w.links → elim c [ true ↦ world.idle script k w | false ↦ world.carry_notes script k a b w ns ] ≡ Going x → IsCutThere v u x.links
    carry_either_cut k a b w x ns true h e = idle_cut k w x h e
    carry_either_cut k a b w x ns false h e = carry_notes_cut k a b w x ns h e

    carry_link_cut : (k a b : ℕ) (w x : World) (o : Option Link) → IsCutThere v u w.links → world.carry_link script k a b w o ≡ Going x → IsCutThere v u x.links
    unfolding world.carry_link
    carry_link_cut k a b w x None h e = idle_cut k w x h e
    carry_link_cut k a b w x (Some l) h e = carry_either_cut k a b w x l.notes l.cut h e

    notice_cut : (k a b : ℕ) (w x : World) (o : Option (Vat Name)) → IsCutThere v u w.links → world.within a w (NoticedAt k a b ∷ []) (world.step_number script k) (notice (names script a) b) o ≡ Going x → IsCutThere v u x.links
    unfolding world.within
    notice_cut k a b w x None h e = cc
    notice_cut k a b w x (Some s) h e = put_back_cut w x a (NoticedAt k a b ∷ []) (world.step_number script k) _ h e

    cut_cut : (k a b : ℕ) (w x : World) → IsCutThere v u w.links → world.cut script k a b w ≡ Going x → IsCutThere v u x.links
    unfolding world.cut
    cut_cut k a b w x h e = moved _ x (stays_cut world.severed_link fits_severed b a (world.with_link world.severed_link a b w.links) (stays_cut world.severed_link fits_severed a b w.links h)) e

    within_cut : (a n : ℕ) (head : List Event) (m : Act Name (Unit {0})) (w x : World) (o : Option (Vat Name)) → IsCutThere v u w.links → world.within a w head n m o ≡ Going x → IsCutThere v u x.links
    unfolding world.within
    within_cut a n head m w x None h e = cc
    within_cut a n head m w x (Some s) h e = put_back_cut w x a head n _ h e

    pub open_cut : (a : ℕ) (p : Program) (w x : World) → IsCutThere v u w.links → world.open_vat script a p w ≡ Going x → IsCutThere v u x.links
    unfolding world.open_vat
    open_cut a p w x h e = within_cut a a (Opens a ∷ []) _ w x (slice_get w.vats a) h e

    pub step_cut : (entry : Entry) (k : ℕ) (w x : World) → IsCutThere v u w.links → world.step script entry k w ≡ Going x → IsCutThere v u x.links
    unfolding world.step
    step_cut (Turn a) k w x h e = turn_cut k a w x (slice_get w.vats a) h e
    step_cut (Carry a b) k w x h e = carry_link_cut k a b w x (world.link_at a b w.links) h e
    step_cut (CutLink a b) k w x h e = cut_cut k a b w x h e
    step_cut (NoticeLink a b) k w x h e = notice_cut k a b w x (slice_get w.vats a) h e
