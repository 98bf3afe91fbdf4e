-- What was told on links: each object of another vat that a vat has or names was told to it by its host.
use Rattle.std.proofs.Common.{◌≡◌, ℕ, Bool, true, false, List, [], ◌∷◌, ◌++◌, Some, refl, sym, ap, subst, ◌∙◌, inl, inr, ◌==◌}
use Rattle.std.specs.Prelude.{slice_get}
use Rattle.std.proofs.lemmas.Bool.{eqb-true, eq-eqb}
use Rattle.def_machine.specs.Values.{Name, Object, host_of}
use Rattle.def_machine.specs.State.{Note, Deliver, Open, Ask, SettledTo, Elsewhere, Shorten, Put, Vat}
use Rattle.def_run.specs.World as world
use Rattle.def_run.specs.World.{Link}
use Rattle.law_fate.specs.Name.Names.{Named, AllOf, IsAmong, PutOk}
use Rattle.law_fate.proofs.Name.Facts.{all_map, all_end}
use Rattle.law_fate.proofs.Name.Among.{all_among}
use Rattle.law_fate.proofs.Name.Care.{parts_up}
use Rattle.law_reference.specs.Reference.Notes.{IsBetween, Carries}
use Rattle.law_reference.proofs.Reference.LinksCut.{fits_notes}
use Rattle.law_frame.specs.Frame.Asked.{told_in}
use Rattle.law_frame.proofs.Frame.WireAsking.{Proper}
use Rattle.law_frame.proofs.Frame.Objects.{OwnOrTold, Handed, AllHanded, handed_up}
use Rattle.law_frame.proofs.Frame.Told.{note_told}
use Rattle.law_frame.proofs.Frame.LinksKnown.{with_link_all}
use Rattle.law_frame.proofs.Frame.LinksGo.{LinksGo, with_link_here}
use Rattle.law_frame.proofs.Frame.Sources.{OfEither, passed_either, all_either}

-- its host told it to vat v
abbrev pub ToldAlong : List Link → ℕ → Name → Type 0
ToldAlong ls v n = (l : Link) → world.link_at (host_of n) v ls ≡ Some l → (x : Note Name) × IsAmong x l.log × IsAmong n (told_in x)

told_along_on : (ls ks : List Link) → LinksGo ls ks → (v : ℕ) (n : Name) → ToldAlong ls v n → ToldAlong ks v n
told_along_on ls ks g v n f l e = let was = g (host_of n) v l e in let t = f was.0 was.1 in let goes = was.2 in (t.0, goes.log t.0 t.1, t.2)

-- so is each object in a note that vat from put, and in those of a link
abbrev pub NoteHanded : List Link → ℕ → Note Name → Type 0
NoteHanded ks from x = AllOf (OwnOrTold from (ToldAlong ks from)) (told_in x)

abbrev pub LogHanded : List Link → Link → Type 0
LogHanded ks l = AllOf (NoteHanded ks l.from) l.log

abbrev pub VatsHanded : List (Vat Name) → List Link → Type 0
VatsHanded vats ls = (v : ℕ) (s : Vat Name) → slice_get vats v ≡ Some s → AllHanded v (ToldAlong ls v) s

pub vat_on : (ls ks : List Link) → LinksGo ls ks → (v : ℕ) (s : Vat Name) → AllHanded v (ToldAlong ls v) s → AllHanded v (ToldAlong ks v) s
vat_on ls ks g v s h = parts_up (Handed v (ToldAlong ls v)) (Handed v (ToldAlong ks v)) (handed_up v (ToldAlong ls v) (ToldAlong ks v) (told_along_on ls ks g v)) s.things s.slots s.lists s.queue s.known s.gifts s.outbox h

pub vats_on : (vats : List (Vat Name)) (ls ks : List Link) → LinksGo ls ks → VatsHanded vats ls → VatsHanded vats ks
vats_on vats ls ks g h v s e = vat_on ls ks g v s (h v s e)

name_on : (ls ks : List Link) → LinksGo ls ks → (v : ℕ) (n : Name) → OwnOrTold v (ToldAlong ls v) n → OwnOrTold v (ToldAlong ks v) n
name_on ls ks g v n h = handed_up v (ToldAlong ls v) (ToldAlong ks v) (told_along_on ls ks g v) (Named n) h

pub logs_on : (ls ks : List Link) → LinksGo ls ks → (js : List Link) → AllOf (LogHanded ls) js → AllOf (LogHanded ks) js
logs_on ls ks g js h = all_map (λ l k. all_map (λ x i. all_map (name_on ls ks g l.from) (told_in x) i) l.log k) js h

-- ---- links are changed

module _ (ks : List Link) where
  pushed_either : (n : Note Name) (l : Link) (b : Bool) → NoteHanded ks l.from n → LogHanded ks l → LogHanded ks (elim b [ true ↦ record l { log = l.log ++ n ∷ [] } | false ↦ record l { notes = l.notes ++ n ∷ []; log = l.log ++ n ∷ [] } ])
  pushed_either n l true k h = all_end (NoteHanded ks l.from) l.log n h k
  pushed_either n l false k h = all_end (NoteHanded ks l.from) l.log n h k

  pushed_handed : (n : Note Name) (v : ℕ) → NoteHanded ks v n → (l : Link) → l.from ≡ v → LogHanded ks l → LogHanded ks (world.pushed n l)
  unfolding world.pushed
  pushed_handed n v k l e h = pushed_either n l l.cut (subst (λ (z : ℕ). NoteHanded ks z n) (sym e) k) h

  pub push_all_handed : (v : ℕ) (ps : List (Put Name)) (ls : List Link) → AllOf (λ (p : Put Name). NoteHanded ks v p.note) ps → AllOf (LogHanded ks) ls → AllOf (LogHanded ks) (world.push_all v ps ls)
  unfolding world.push_all
  push_all_handed v [] ls k h = h
  push_all_handed v (p ∷ ps) ls k h = push_all_handed v ps (world.with_link (world.pushed p.note) v p.to ls) k.1 (with_link_all (LogHanded ks) (world.pushed p.note) v p.to (λ l a b i. pushed_handed p.note v k.0 l a i) ls h)

  notes_handed : (ns : List (Note Name)) (l : Link) → LogHanded ks l → LogHanded ks (world.with_notes ns l)
  unfolding world.with_notes
  notes_handed ns l h = h

  pub take_handed : (ns : List (Note Name)) (v w : ℕ) (ls : List Link) → AllOf (LogHanded ks) ls → AllOf (LogHanded ks) (world.with_link (world.with_notes ns) v w ls)
  take_handed ns v w ls h = with_link_all (LogHanded ks) (world.with_notes ns) v w (λ l a b i. notes_handed ns l i) ls h

  cut_handed : (l : Link) → LogHanded ks l → LogHanded ks (world.severed_link l)
  unfolding world.severed_link
  cut_handed l h = h

  pub sever_handed : (v w : ℕ) (ls : List Link) → AllOf (LogHanded ks) ls → AllOf (LogHanded ks) (world.with_link world.severed_link v w ls)
  sever_handed v w ls h = with_link_all (LogHanded ks) world.severed_link v w (λ l a b i. cut_handed l i) ls h

  pub puts_handed : (v : ℕ) (ps : List (Put Name)) → AllOf (PutOk (Handed v (ToldAlong ks v))) ps → AllOf (λ (p : Put Name). NoteHanded ks v p.note) ps
  puts_handed v ps h = all_map (λ p k. note_told (Handed v (ToldAlong ks v)) p.note k.0) ps h

-- ---- a note that arrives

-- what it tells is of one of the two vats
pub told_ends : (a v : ℕ) (n : Name) (x : Note Name) → (v ≡ a → ⊥) → Proper a v x → IsBetween a v x → Carries a v x → IsAmong n (told_in x) → OfEither a v n
unfolding told_in
told_ends a v n (Deliver m t verb ys) o q h k (inl e) = inr (ap host_of e ∙ h)
told_ends a v n (Deliver m t verb ys) o q h k (inr b) = all_either a v n ys k.0 b
told_ends a v n (Open i t) o q h k (inl e) = inr (ap host_of e ∙ h)
told_ends a v n (Ask p i t) o q h k b = absurd b
told_ends a v n (SettledTo t y) o q h k (inl e) = inl (ap host_of e ∙ h)
told_ends a v n (SettledTo t y) o q h k (inr b) = passed_either a v n y k b
told_ends a v n (Elsewhere t c) o q h k (inl e) = inl (ap host_of e ∙ h)
told_ends a v n (Shorten t c i) o q h k (inl e) = inr (ap host_of e ∙ h (q o))
told_ends a v n other o q h k (inr b) = absurd b

on_bool : {C : Type 0} (b : Bool) → (b ≡ true → C) → (b ≡ false → C) → C
on_bool true f g = f refl
on_bool false f g = g refl

true_false : (b : Bool) → b ≡ true → b ≡ false → ⊥
true_false b e f = cc

some_is : (l j : Link) → Some l ≡ Some j → l ≡ j
some_is l j e = cc

notes_stay : (ns : List (Note Name)) (a b : ℕ) (l : Link) → world.is_link a b (world.with_notes ns l) ≡ world.is_link a b l
notes_stay ns a b l = let fits = fits_notes a b ns in fits.place a b l

log_same : (x : Note Name) (ns : List (Note Name)) (l : Link) → IsAmong x l.log → IsAmong x (world.with_notes ns l).log
unfolding world.with_notes
log_same x ns l a = a

-- the link from v to w once the first note x was taken
module _ (ls : List Link) (v w : ℕ) (l : Link) (x : Note Name) (ns : List (Note Name)) (at : world.link_at v w ls ≡ Some l) (logged : IsAmong x l.log) where
  abbrev Later : List Link
  Later = world.with_link (world.with_notes ns) v w ls

  told_now : (h : ℕ) → h ≡ v → (n : Name) → host_of n ≡ h → IsAmong n (told_in x) → ToldAlong Later w n
  told_now h e n host a j i = let was = with_link_here (world.with_notes ns) (notes_stay ns) v w ls j (subst (λ (z : ℕ). world.link_at z w Later ≡ Some j) (host ∙ e) i) in
      let same : l ≡ was.0 = some_is l was.0 (sym at ∙ was.1) in
      (x, subst (λ (z : Link). IsAmong x z.log) (sym was.2) (log_same x ns was.0 (subst (λ (z : Link). IsAmong x z.log) same logged)), a)

  of_either : (n : Name) → OfEither v w n → IsAmong n (told_in x) → OwnOrTold w (ToldAlong Later w) n
  unfolding host_of
  of_either (Object h i) (inl e) a = inr (told_now h e (Object h i) refl a)
  of_either (Object h i) (inr e) a = inl e
  of_either other e a = tt

  -- each object that it tells is the receiver's own, or told to it
  pub given_here : LinksGo ls Later → NoteHanded ls v x → Proper v w x → IsBetween v w x → Carries v w x → (n : Name) → IsAmong n (told_in x) → OwnOrTold w (ToldAlong Later w) n
  given_here goes handed q h k n a = on_bool (v == w)
      (λ e. let same : v ≡ w = eqb-true v w e in name_on ls Later goes w n (subst (λ (z : ℕ). OwnOrTold z (ToldAlong ls z) n) same (all_among (OwnOrTold v (ToldAlong ls v)) (told_in x) n handed a)))
      (λ e. of_either n (told_ends v w n x (λ f. true_false (v == w) (eq-eqb v w (sym f)) e) q h k a) a)
