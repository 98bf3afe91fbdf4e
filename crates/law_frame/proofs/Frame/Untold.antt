-- As long as a gift is under way no note that was ever put tells one under its key.
use Rattle.std.proofs.Common.{◌≡◌, ℕ, zero, suc, ◌+◌, ◌≤◌, Bool, true, false, List, [], ◌∷◌, ◌++◌, Some, refl, sym, ap, subst, ◌∙◌, ◌⊎◌, inl, inr, arith}
use Rattle.std.specs.Prelude.{slice_get}
use Rattle.def_machine.specs.Values.{Name, Gift}
use Rattle.def_machine.specs.State.{Note, Vat}
use Rattle.def_run.specs.World as world
use Rattle.def_run.specs.World.{Script, Program, Link, World, Entry, Goes as Going, put_at, push_all, pushed, with_link, with_notes, severed_link, link_at}
use Rattle.law_fate.specs.Fates.Lasting.{Each}
use Rattle.law_fate.specs.Name.Names.{AllOf, IsAmong, IsKnownIn, PutOk, WasDrawn, names_in}
use Rattle.law_fate.specs.Name.Runs.{KnowsOnce}
use Rattle.law_fate.proofs.Name.Facts.{all_map, all_end}
use Rattle.law_fate.proofs.Name.Among.{get_put}
use Rattle.law_fate.proofs.Name.Run.{Stands, Had, name_had}
use Rattle.law_reference.proofs.Reference.LinksCut.{fits_notes, fits_severed}
use Rattle.law_reference.proofs.Reference.AnswerLinks.{AtLink, with_any, push_of}
use Rattle.law_reference.proofs.Reference.LegRuns.{stands_of}
use Rattle.law_reference.proofs.Reference.Moves.{Moved, Still, Severs, Drops, Steps, Arrives, opened_hold, stepped_hold}
use Rattle.law_reference.specs.Reference.GiftPassing.{gifts_under_way, drawn_of, Provides}
use Rattle.law_reference.proofs.Reference.Puts.{gifts_out}
use Rattle.law_reference.proofs.Reference.GiftLinks.{pushed_notes, push_all_gifts, with_link_less, severed_less, found_tells, links_from_none}
use Rattle.law_reference.specs.Reference.Hiding.{IsNotOf, Shuns}
use Rattle.law_reference.proofs.Reference.AskRuns.{Past}
use Rattle.law_reference.proofs.Reference.AskHolds.{opened_past, stepped_past}
use Rattle.law_reference.proofs.Reference.HideMoves.{taken_sum, under_drawn, early, late, alone_out, note_out}
use Rattle.law_reference.proofs.Reference.HideRuns.{HiddenIn, opened_hidden, stepped_hidden}
use Rattle.law_frame.specs.Frame.Asked.{told_in}
use Rattle.law_frame.proofs.Frame.Told.{note_told}
use Rattle.law_frame.proofs.Frame.WireRuns as wires
use Rattle.law_frame.proofs.Frame.WireRuns.{Wire}
use Rattle.law_frame.proofs.Frame.Before.{NoneLogged, opened_none, stepped_none, told_known}

each_so : {A : Type 0} (P : A → Type 0) (xs : List A) → ((x : A) → IsAmong x xs → P x) → AllOf P xs
each_so P [] f = tt
each_so P (x ∷ xs) f = (f x (inl refl), each_so P xs (λ y a. f y (inr a)))

module _ (i : ℕ) where
  abbrev pub NotTold : Note Name → Type 0
  NotTold n = AllOf (IsNotOf i) (told_in n)

  abbrev pub Untold : Link → Type 0
  Untold l = AllOf NotTold l.log

  pushed_either : (c : Bool) (l : Link) (n : Note Name) → NotTold n → Untold l → Untold (elim c [ true ↦ record l { log = l.log ++ n ∷ [] } | false ↦ record l { notes = l.notes ++ n ∷ []; log = l.log ++ n ∷ [] } ])
  pushed_either true l n k h = all_end NotTold l.log n h k
  pushed_either false l n k h = all_end NotTold l.log n h k

  pushed_untold : (l : Link) (n : Note Name) → NotTold n → Untold l → Untold (pushed n l)
  unfolding pushed
  pushed_untold l n k h = pushed_either l.cut l n k h

  taken_untold : (a b c v : ℕ) (ns : List (Note Name)) (ls : List Link) → AtLink a b Untold ls → AtLink a b Untold (with_link (with_notes ns) c v ls)
  unfolding with_notes
  taken_untold a b c v ns ls h = with_any a b c v Untold (with_notes ns) (fits_notes a b ns) ls (λ l e j k. h l e) (λ l e f. h l e)

  cut_untold : (a b c v : ℕ) (ls : List Link) → AtLink a b Untold ls → AtLink a b Untold (with_link severed_link c v ls)
  unfolding severed_link
  cut_untold a b c v ls h = with_any a b c v Untold severed_link (fits_severed a b) ls (λ l e j k. h l e) (λ l e f. h l e)

  put_untold : (a b v : ℕ) (t : Vat Name) (ls : List Link) → AllOf (PutOk (Shuns i v)) t.outbox → AtLink a b Untold ls → AtLink a b Untold (push_all v t.outbox ls)
  put_untold a b v t ls k h = push_of a b v Untold NotTold pushed_untold t.outbox ls (all_map (λ p o. note_told (Shuns i v) p.note o.0) t.outbox k) h

-- as long as one is under way
abbrev pub UntoldIn : World → Type 0
UntoldIn w = (i : ℕ) → 1 ≤ gifts_under_way i w.links → (a b : ℕ) → AtLink a b (Untold i) w.links

module _ (script : Script) where
  -- what is known of the worlds of a run
  pub record Knows (w : World) : Type 0 where
    pub past : Past script w
    pub hidden : HiddenIn w
    pub wire : Wire script w
    pub none : NoneLogged w

  -- ---- a word that is still to be drawn

  module _ (w : World) (k : Knows w) (i : ℕ) (new : WasDrawn w.drawn i → ⊥) where
    not_of : (v : ℕ) (r : Vat Name) → slice_get w.vats v ≡ Some r → (z : Name) → IsKnownIn (names_in r.known) z → IsNotOf i z
    not_of v r there (Gift h j) a = λ e. let past = k.past in let stands = stands_of script w past.0 in let at_vat = stands.vats v r there in let parts = at_vat.parts in let made : WasDrawn w.drawn j = (name_had (Had script w v r) r.known (Gift h j) parts.known a).0 in new (subst (λ (z : ℕ). WasDrawn w.drawn z) e made)
    not_of v r there other a = tt

    new_untold : (a b : ℕ) → AtLink a b (Untold i) w.links
    new_untold a b l e = each_so (NotTold i) l.log (λ n o. each_so (IsNotOf i) (told_in n) (λ z p. let t = told_known script w k.wire k.none a b l e n z o p in not_of a t.0 t.1 z t.2))

  -- ---- a step

  some_or : (x : ℕ) → (x ≡ 0) ⊎ (1 ≤ x)
  some_or zero = inl refl
  some_or (suc x) = inr (omega arith)

  -- a word was drawn, or not
  drawn_or : (i : ℕ) (d : List ℕ) → WasDrawn d i ⊎ (WasDrawn d i → ⊥)
  drawn_or i d = either (some_or (drawn_of i d))
    where
      either : (drawn_of i d ≡ 0) ⊎ (1 ≤ drawn_of i d) → WasDrawn d i ⊎ (WasDrawn d i → ⊥)
      either (inl e) = inr (late i d e)
      either (inr l) = inl (early i d l)

  -- no gift of a draw that was made is put
  pub none_out : (i : ℕ) (a b : List ℕ) (x : ℕ) → WasDrawn a i → x + drawn_of i a ≤ drawn_of i b → x ≤ 0
  none_out i a b x l h = either (some_or (drawn_of i a))
    where
      either : (drawn_of i a ≡ 0) ⊎ (1 ≤ drawn_of i a) → x ≤ 0
      either (inl e) = absurd (late i a e l)
      either (inr e) = let f = under_drawn i b in omega arith

  module _ (w y : World) (p : Knows w) (r : Knows y) (h : UntoldIn w) (i : ℕ) (v : ℕ) (s t : Vat Name) (there : slice_get w.vats v ≡ Some s) (vats : y.vats ≡ put_at v t w.vats) (taken : List Link) (links : y.links ≡ push_all v t.outbox taken)
      (out : gifts_out i t.outbox + drawn_of i w.drawn ≤ drawn_of i t.drawn) (less : gifts_under_way i taken ≤ gifts_under_way i w.links) (up : (a b : ℕ) → AtLink a b (Untold i) w.links → AtLink a b (Untold i) taken) (k : 1 ≤ gifts_under_way i y.links) where
    placed : slice_get y.vats v ≡ Some t
    placed = ap (λ us. slice_get us v) vats ∙ get_put w.vats v s t there

    shunned : AllOf (PutOk (Shuns i v)) t.outbox
    shunned = let all = (r.hidden i k).0 v t placed in all.outbox

    under : WasDrawn w.drawn i → 1 ≤ gifts_under_way i w.links
    under l = let more : 1 ≤ gifts_under_way i (push_all v t.outbox taken) = rw links at k in let none = none_out i w.drawn t.drawn (gifts_out i t.outbox) l out in
        let pushed = push_all_gifts (λ (j : Link). j.notes) i (pushed_notes i) v t.outbox taken in omega arith

    before : (a b : ℕ) → AtLink a b (Untold i) w.links
    before = either (drawn_or i w.drawn)
      where
        either : WasDrawn w.drawn i ⊎ (WasDrawn w.drawn i → ⊥) → (a b : ℕ) → AtLink a b (Untold i) w.links
        either (inl l) = h i (under l)
        either (inr l) = new_untold w p i l

    step_untold : (a b : ℕ) → AtLink a b (Untold i) y.links
    step_untold a b = subst (λ ls. AtLink a b (Untold i) ls) (sym links) (put_untold i a b v t taken shunned (up a b (before a b)))

  pub provides : (w : World) (past : Past script w) (a v : ℕ) (n : Note Name) (ns : List (Note Name)) (l : Link) → link_at a v w.links ≡ Some l → l.notes ≡ n ∷ ns → Provides past.2.0 w.drawn a v n
  provides w past a v n ns l at notes = let fits = past.2 in let o = fits.1 in head (found_tells fits.0 w.drawn a v l w.links o.links at)
    where
      head : Each (Provides past.2.0 w.drawn a v) l.notes → Provides past.2.0 w.drawn a v n
      head k = let one : Each (Provides past.2.0 w.drawn a v) (n ∷ ns) = rw notes at k in one.0

  untold_on : (w y : World) → Knows w → Knows y → Moved script w y → UntoldIn w → UntoldIn y
  untold_on w y p r (Still v l d) h i k = let one : 1 ≤ gifts_under_way i w.links = rw l at k in λ a b. subst (λ ls. AtLink a b (Untold i) ls) (sym l) (h i one a b)
  untold_on w y p r (Severs c e v l d) h i k = let more : 1 ≤ gifts_under_way i (with_link severed_link e c (with_link severed_link c e w.links)) = rw l at k in
      let one = with_link_less (λ (j : Link). j.notes) i severed_link (severed_less i) c e w.links in let two = with_link_less (λ (j : Link). j.notes) i severed_link (severed_less i) e c (with_link severed_link c e w.links) in
      λ a b. subst (λ ls. AtLink a b (Untold i) ls) (sym l) (cut_untold i a b e c (with_link severed_link c e w.links) (cut_untold i a b c e w.links (h i (omega arith) a b)))
  untold_on w y p r (Drops c v n ns l at notes none vats links drawn) h i k = let more : 1 ≤ gifts_under_way i (with_link (with_notes ns) c v w.links) = rw links at k in let sum = taken_sum i c v n ns l notes w.links at in
      λ a b. subst (λ ls. AtLink a b (Untold i) ls) (sym links) (taken_untold i a b c v ns w.links (h i (omega arith) a b))
  untold_on w y p r (Steps v s q t what alone d vats links drawn first fresh) h i k = step_untold w y p r h i v s t d.there vats w.links links (alone_out i script w v s q t what alone d) (omega arith) (λ a b o. o) k
  untold_on w y p r (Arrives c v s t n ns l at cut notes d vats links drawn first fresh) h i k = let past = p.past in let sum = taken_sum i c v n ns l notes w.links at in
      step_untold w y p r h i v s t d.there vats (with_link (with_notes ns) c v w.links) links (note_out i script w v s past.2.0 t c n (provides w past c v n ns l at notes) d) (omega arith) (λ a b o. taken_untold i a b c v ns w.links o) k

  -- ---- the worlds of a run

  begins_untold : UntoldIn (world.begins script)
  unfolding world.begins
  begins_untold i k = let none = links_from_none (λ (j : Link). j.notes) i (λ v w p. refl) script.vats zero script.vats in absurd (omega arith)

  module _ (once : KnowsOnce script) where
    pub opened_knows : (ps rest : List Program) (w : World) → script.vats ≡ ps ++ rest → world.open_from script zero ps (world.begins script) ≡ Going w → Knows w
    opened_knows ps rest w i e = record { past = opened_past script once ps rest w i e; hidden = opened_hidden script once ps rest w i e; wire = (wires.opened_both script once ps rest w i e).1; none = opened_none script once ps rest w i e }

    pub stepped_knows : (w x : World) (es : List Entry) (k : ℕ) → world.open_from script zero script.vats (world.begins script) ≡ Going w → world.steps_from script es k w ≡ Going x → Knows x
    stepped_knows w x es k e i = record { past = stepped_past script once w x es k e i; hidden = stepped_hidden script once w x es k e i; wire = (wires.stepped_both script once w x es k e i).1; none = stepped_none script once w x es k e i }

    pub knows_stands : (w : World) → Knows w → Stands script w
    knows_stands w k = let past = k.past in stands_of script w past.0

    pub opened_untold : (ps rest : List Program) (w : World) → script.vats ≡ ps ++ rest → world.open_from script zero ps (world.begins script) ≡ Going w → UntoldIn w
    opened_untold = opened_hold script Knows opened_knows stepped_knows knows_stands UntoldIn untold_on begins_untold

    pub stepped_untold : (w x : World) (es : List Entry) (k : ℕ) → world.open_from script zero script.vats (world.begins script) ≡ Going w → world.steps_from script es k w ≡ Going x → UntoldIn x
    stepped_untold = stepped_hold script Knows opened_knows stepped_knows knows_stands UntoldIn untold_on begins_untold
