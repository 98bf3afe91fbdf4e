-- What a note names of its receiver was asked of it, or exported by it.
use Rattle.std.proofs.Common.{◌≡◌, ℕ, Bool, true, false, List, [], ◌∷◌, Option, Some, refl, sym, ap, subst, ◌∙◌, ◌⊎◌, inl, inr}
use Rattle.std.specs.Prelude.{slice_get}
use Rattle.def_machine.specs.Values.{Name, Root, Object, Promise, Answer, Gift, Sent as Message_name, host_of}
use Rattle.def_machine.specs.State.{Note, Vat, is_in}
use Rattle.def_run.specs.World.{Script, Link, World, link_at, has_name}
use Rattle.law_reference.specs.Reference.Logs as wire
use Rattle.law_fate.specs.Name.Names.{AllOf, IsAmong, IsKnownIn, names_in}
use Rattle.law_fate.proofs.Name.SameNames.{has_among}
use Rattle.law_reference.proofs.Reference.NoticedRuns.{noticed_links_cut}
use Rattle.law_frame.specs.Frame.Asked.{told_in}
use Rattle.law_frame.specs.Frame.Given.{NotesNameWhatWasGiven}
use Rattle.law_frame.proofs.Frame.Exported.{exports_in}
use Rattle.law_frame.proofs.Frame.Objects.{OwnOrTold}
use Rattle.law_frame.proofs.Frame.LinksKnown.{Sent, LinkKnown, at_link}
use Rattle.law_frame.proofs.Frame.Sources.{AskedOn, ToldOn, Source}
use Rattle.law_frame.proofs.Frame.SourceLaws.{asks_in, log_is}
use Rattle.law_frame.proofs.Frame.Given.{ToldAlong, NoteHanded, LogHanded}
use Rattle.law_frame.proofs.Frame.WireRuns.{Wire, stepped_both}

true_false : (b : Bool) → b ≡ true → b ≡ false → ⊥
true_false b e f = cc

roots_is : (m : Link) (o : Option Link) → o ≡ Some m → wire.roots_of o ≡ m.roots
unfolding wire.roots_of
roots_is m o e = rw (e, wire.roots_of) refl

module _ (script : Script) (w : World) (h : Wire script w) (v u : ℕ) (s : Vat Name) (there : slice_get w.vats v ≡ Some s) (other : v ≡ u → ⊥) (unnoticed : is_in u s.noticed ≡ true → ⊥) (l m : Link) (at : link_at v u w.links ≡ Some l) (back : link_at u v w.links ≡ Some m) where
  abbrev Asked : List Name
  Asked = wire.questions (λ i. i) w.links v u

  abbrev Given : Name → Type 0
  Given n = IsAmong n Asked ⊎ IsAmong n (wire.exports (λ i. i) w.links u v)

  asked_given : (n : Name) → host_of n ≡ u → AskedOn l n → IsAmong n Asked
  unfolding wire.questions
  asked_given n host a = subst (λ ns. IsAmong n ns) (ap (wire.questions_in u) (sym (log_is l (link_at v u w.links) at))) (asks_in u n l.log a.0 a.1 (rw host at a.2))

  exported_given : (n : Name) → IsAmong n (wire.exports_after u Asked m.log m.roots) → IsAmong n (wire.exports (λ i. i) w.links u v)
  unfolding wire.exports
  exported_given n a = subst (λ ns. IsAmong n (wire.exports_after u Asked ns (wire.roots_of (link_at u v w.links)))) (sym (log_is m (link_at u v w.links) back)) (subst (λ ns. IsAmong n (wire.exports_after u Asked m.log ns)) (sym (roots_is m (link_at u v w.links) back)) a)

  -- told by a note of u, or a root
  told_given : (n : Name) → host_of n ≡ u → IsAmong n m.roots ⊎ ((x : Note Name) × IsAmong x m.log × IsAmong n (told_in x)) → (b : Bool) → has_name Asked n ≡ b → Given n
  told_given n host t true e = inl (has_among Asked n e)
  told_given n host t false e = inr (exported_given n (exports_in u Asked n host e m.log m.roots t))

  told_on_given : (n : Name) → host_of n ≡ u → ToldOn m n → Given n
  told_on_given n host (inl a) = told_given n host (inl a) (has_name Asked n) refl
  told_on_given n host (inr t) = told_given n host (inr (t.0, t.1, t.3)) (has_name Asked n) refl

  known_given : (n : Name) → host_of n ≡ u → IsAmong n (names_in s.known) → Given n
  known_given n host a = either (h.sources v s there n a)
    where
      either : Source w.links v s n → Given n
      either (inl e) = absurd (other (sym e ∙ host))
      either (inr (inl e)) = absurd (unnoticed (rw host at e))
      either (inr (inr f)) = both (f m l (rw (sym host) at back) (rw (sym host) at at))
        where
          both : AskedOn l n ⊎ ToldOn m n → Given n
          both (inl a) = inl (asked_given n host a)
          both (inr t) = told_on_given n host t

  object_given : (n : Name) → host_of n ≡ u → (host_of n ≡ v) ⊎ ToldAlong w.links v n → Given n
  object_given n host (inl e) = absurd (other (sym e ∙ host))
  object_given n host (inr f) = let t = f m (rw (sym host) at back) in told_given n host (inr t) (has_name Asked n) refl

  name_given : (n : Name) → IsKnownIn (names_in s.known) n → OwnOrTold v (ToldAlong w.links v) n → host_of n ≡ u → Given n
  unfolding host_of
  name_given (Object c i) k o host = object_given (Object c i) host o
  name_given (Root c) k o host = known_given (Root c) host k
  name_given (Promise c i) k o host = known_given (Promise c i) host k
  name_given (Answer c a) k o host = known_given (Answer c a) host k
  name_given (Gift c i) k o host = known_given (Gift c i) host k
  name_given (Message_name a) k o host = known_given (Message_name a) host k

  names_given : (ns : List Name) → AllOf (IsKnownIn (names_in s.known)) ns → AllOf (OwnOrTold v (ToldAlong w.links v)) ns → AllOf (λ n. host_of n ≡ u → Given n) ns
  names_given [] k o = tt
  names_given (n ∷ ns) k o = (name_given n k.0 o.0, names_given ns k.1 o.1)

  notes_given : (log : List (Note Name)) → AllOf (Sent w.vats v u) log → AllOf (NoteHanded w.links v) log → AllOf (λ note. AllOf (λ n. host_of n ≡ u → Given n) (told_in note)) log
  notes_given [] k o = tt
  notes_given (x ∷ log) k o = (names_given (told_in x) (k.0.2 s there).1 o.0, notes_given log k.1 o.1)

  link_given : AllOf (λ note. AllOf (λ n. host_of n ≡ u → Given n) (told_in note)) l.log
  link_given = let known = at_link (LinkKnown w.vats) v u l w.links h.links at in let k = known.0 in let log = at_link (LogHanded w.links) v u l w.links h.handed at in
      notes_given l.log (subst (λ (z : ℕ). AllOf (Sent w.vats v z) l.log) known.2 (subst (λ (z : ℕ). AllOf (Sent w.vats z l.to) l.log) known.1 k.sent)) (subst (λ (z : ℕ). AllOf (NoteHanded w.links z) l.log) log.1 log.0)

pub notes_name_given : NotesNameWhatWasGiven
notes_name_given script once w x es k follow opened stepped v u s there other l at cut =
    let both = stepped_both script once w x es k opened stepped in let wires = both.1 in let back = wires.paired v u (l, at) in
    let unnoticed : is_in u s.noticed ≡ true → ⊥ = (λ e. let severed = noticed_links_cut script once w x es k follow opened stepped v s there u e in true_false l.cut (severed.1 l at) cut) in
    link_given script x wires v u s there other unnoticed l back.0 at back.1
