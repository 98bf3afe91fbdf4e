-- What a vat puts in a run: it names of its peer what it asked for or was told, and of its own what was asked of it, or was not asked of it at all.
use Rattle.std.proofs.Common.{◌≡◌, ℕ, ◌≤◌, Bool, true, false, List, ◌++◌, Option, Some, refl, sym, subst, ◌∙◌, ◌⊎◌, inl, inr, arith}
use Rattle.std.specs.Prelude.{slice_get}
use Rattle.def_machine.specs.Values.{Name, Root, Object, Promise, Answer, Gift, Sent as Message_name, Msg, host_of, answer_of}
use Rattle.def_machine.specs.State.{Passeds, Note, Deliver, Ask, Vat}
use Rattle.def_run.specs.World.{Script, Link, World, link_at, has_name}
use Rattle.law_fate.specs.Fates.Fate.{on_link}
use Rattle.law_fate.specs.Name.Names.{Named, IsAmong, IsKnownIn, IsMessageName, PutOk, names_in}
use Rattle.law_fate.proofs.Name.Among.{all_among}
use Rattle.law_fate.proofs.Name.SameNames.{has_among}
use Rattle.law_fate.proofs.Name.Run.{Had}
use Rattle.law_reference.specs.Reference.Logs as wire
use Rattle.law_reference.proofs.Reference.AskRuns.{NoticedCut}
use Rattle.law_reference.proofs.Reference.First.{among_dec}
use Rattle.law_frame.specs.Frame.Asked.{AsksOf, told_in}
use Rattle.law_frame.specs.Frame.Tables.{arrived}
use Rattle.law_frame.proofs.Frame.Exported.{among_split, exports_in}
use Rattle.law_frame.proofs.Frame.WireArrivals.{arrived_is}
use Rattle.law_frame.proofs.Frame.Told.{note_told}
use Rattle.law_frame.proofs.Frame.LinksKnown.{AsksOwn, at_link}
use Rattle.law_frame.proofs.Frame.LinksGo.{Splits}
use Rattle.law_frame.proofs.Frame.Objects.{OwnOrTold, Handed}
use Rattle.law_frame.proofs.Frame.Sources.{AskedOn, ToldOn, Source}
use Rattle.law_frame.proofs.Frame.SourceLaws.{log_is, asks_in}
use Rattle.law_frame.proofs.Frame.Worlds.{asker, on_link_one}
use Rattle.law_frame.proofs.Heard.Pairs.{true_false}
use Rattle.law_frame.proofs.Heard.Bare.{Bare}
use Rattle.law_frame.proofs.Heard.Pending.{Facts, Alone, AloneWhereLate, wires, splits, sent, told_not}
use Rattle.law_frame.proofs.Heard.Here.{ToldHere, VatsHere}

-- no link to a vat bears the message of an answer that the vat knows
abbrev pub Early : World → Type 0
Early w = (a g : ℕ) (m : Msg) (r : Vat Name) (l : Link) → slice_get w.vats g ≡ Some r → IsAmong (Answer g m) (names_in r.known) → link_at a g w.links ≡ Some l → on_link (Message_name m) l ≤ 0

module _ (script : Script) (w : World) (f : Facts script w) (here : VatsHere w.vats w.links) (late : AloneWhereLate w) (noticed : NoticedCut w) (early : Early w)
    (a u : ℕ) (t : Vat Name) (there : slice_get w.vats a ≡ Some t) (other : a ≡ u → ⊥) (l m : Link) (at : link_at a u w.links ≡ Some l) (back : link_at u a w.links ≡ Some m) (uncut : l.cut ≡ false) (clear : m.cut ≡ false)
    (n : Note Name) (ok : PutOk (Had script w a t) (record { to = u; note = n })) (handed : PutOk (Handed a (ToldHere w.links a)) (record { to = u; note = n })) (bare : (i : ℕ) → Alone u a i w.vats w.links → PutOk (Bare a i a) (record { to = u; note = n })) where
  abbrev pub Asked : List Name
  Asked = wire.questions (λ i. i) w.links a u

  abbrev pub Asks : List Name
  Asks = wire.questions (λ i. i) w.links u a

  abbrev pub Given : List Name
  Given = wire.exports_after u Asked (arrived (Some m)) m.roots

  known : (z : Name) → IsAmong z (told_in n) → IsKnownIn (names_in t.known) z
  known z b = let all = all_among (λ y. Had script w a t (Named y)) (told_in n) z (note_told (Had script w a t) n ok.0) b in all.1

  handed_on : (z : Name) → IsAmong z (told_in n) → OwnOrTold a (ToldHere w.links a) z
  handed_on z b = all_among (OwnOrTold a (ToldHere w.links a)) (told_in n) z (note_told (Handed a (ToldHere w.links a)) n handed.0) b

  -- ---- a name of the peer

  told_or : (z : Name) → host_of z ≡ u → IsAmong z m.roots ⊎ ((x : Note Name) × IsAmong x (arrived (Some m)) × IsAmong z (told_in x)) → (b : Bool) → has_name Asked z ≡ b → IsAmong z Asked ⊎ IsAmong z Given
  told_or z host k true e = inl (has_among Asked z e)
  told_or z host k false e = inr (exports_in u Asked z host e (arrived (Some m)) m.roots k)

  from_source : (z : Name) → host_of z ≡ u → Source w.links a t z → IsAmong z Asked ⊎ IsAmong z Given
  unfolding wire.questions
  from_source z host (inl e) = absurd (other (sym e ∙ host))
  from_source z host (inr (inl e)) = absurd (true_false (noticed a t there u (rw host at e) l at) uncut)
  from_source z host (inr (inr k)) = either (k m l (rw (sym host) at back) (rw (sym host) at at))
    where
      either : AskedOn l z ⊎ ToldOn m z → IsAmong z (wire.questions_in u (wire.log_of (link_at a u w.links))) ⊎ IsAmong z (wire.exports_after u (wire.questions_in u (wire.log_of (link_at a u w.links))) (arrived (Some m)) m.roots)
      either (inl x) = inl (subst (λ ns. IsAmong z (wire.questions_in u ns)) (sym (log_is l (link_at a u w.links) at)) (asks_in u z l.log x.0 x.1 (rw host at x.2)))
      either (inr (inl r)) = told_or z host (inl r) (has_name Asked z) refl
      either (inr (inr x)) = told_or z host (inr (x.0, x.2 clear, x.3)) (has_name Asked z) refl

  known_given : (z : Name) → host_of z ≡ u → IsAmong z (names_in t.known) → IsAmong z Asked ⊎ IsAmong z Given
  known_given z host b = let h = wires script w f in from_source z host (h.sources a t there z b)

  object_given : (z : Name) → host_of z ≡ u → (host_of z ≡ a) ⊎ ToldHere w.links a z → IsAmong z Asked ⊎ IsAmong z Given
  object_given z host (inl e) = absurd (other (sym e ∙ host))
  object_given z host (inr k) = let x = k m (rw (sym host) at back) clear in told_or z host (inr x) (has_name Asked z) refl

  name_given : (z : Name) → IsKnownIn (names_in t.known) z → OwnOrTold a (ToldHere w.links a) z → host_of z ≡ u → IsAmong z Asked ⊎ IsAmong z Given
  unfolding host_of
  name_given (Object c i) k o host = object_given (Object c i) host o
  name_given (Root c) k o host = known_given (Root c) host k
  name_given (Promise c i) k o host = known_given (Promise c i) host k
  name_given (Answer c q) k o host = known_given (Answer c q) host k
  name_given (Gift c i) k o host = known_given (Gift c i) host k
  name_given (Message_name q) k o host = known_given (Message_name q) host k

  pub peer_given : (z : Name) → IsAmong z (told_in n) → host_of z ≡ u → IsAmong z Asked ⊎ IsAmong z Given
  peer_given z b host = name_given z (known z b) (handed_on z b) host

  -- ---- a name of the vat's own

  split : (front : List (Note Name)) × (m.log ≡ front ++ m.notes)
  split = let k = at_link Splits u a m w.links (splits script w f) back in k.0 clear

  abbrev Heard : Name → Type 0
  Heard z = IsAmong z (wire.questions_in a (arrived (Some m)))

  -- the message of an answer that is told has arrived
  message_heard : (z : Name) → IsAmong z (told_in n) → (x : Note Name) → IsAmong x m.notes → (q : Name) (b : Bool) (d : Option Name) (c : Name) (verb : List ℕ) (ys : Passeds Name) → x ≡ Deliver (record { message = q; asks = b; answer = d }) c verb ys → IsMessageName q → answer_of a q ≡ z → ⊥
  unfolding answer_of
  message_heard z k x i (Message_name q) b d c verb ys e o r = let known_here : IsAmong (Answer a q) (names_in t.known) = subst (λ y. IsKnownIn (names_in t.known) y) (sym r) (known z k) in
      let none = early u a q t m there known_here back in let some = on_link_one q x m b d c verb ys e i in absurd (omega arith)
  message_heard z k x i other b f d verb ys e o r = o

  gift_late : (i : ℕ) → IsAmong (Gift a i) (told_in n) → IsAmong (Gift a i) Asks → (Heard (Gift a i) → ⊥) → ⊥
  gift_late i k b o = told_not a i a n (bare i (late u a i (λ e. other (sym e)) m back clear b o)).0 k

  asked_heard : (z : Name) → IsAmong z (told_in n) → IsAmong z Asks → (Heard z → ⊥) → (x : Note Name) → IsAmong x m.notes → AsksOwn a x → AsksOf a x z → ⊥
  asked_heard z k b o (Deliver d c verb ys) i own e = message_heard z k (Deliver d c verb ys) i d.message d.asks d.answer c verb ys refl own e.1
  asked_heard z k b o (Ask p j c) i own e = let same : z ≡ Gift a j = sym e ∙ own in gift_late j (subst (λ y. IsAmong y (told_in n)) same k) (subst (λ y. IsAmong y Asks) same b) (λ h. o (subst Heard (sym same) h))
  asked_heard z k b o other i own e = e

  asks_log : (z : Name) → IsAmong z Asks → IsAmong z (wire.questions_in a m.log)
  unfolding wire.questions
  asks_log z b = subst (λ ns. IsAmong z (wire.questions_in a ns)) (log_is m (link_at u a w.links) back) b

  pub own_heard : (z : Name) → IsAmong z (told_in n) → IsAmong z Asks → Heard z
  own_heard z k b = either (among_dec z (wire.questions_in a (arrived (Some m))))
    where
      by : (Heard z → ⊥) → (x : Note Name) → IsAmong x m.log → AsksOf a x z → IsAmong x (split.0) ⊎ IsAmong x m.notes → ⊥
      by o x c e (inl i) = o (asks_in a z (arrived (Some m)) x (subst (λ ns. IsAmong x ns) (sym (arrived_is m split.0 split.1)) i) e)
      by o x c e (inr i) = let sends = sent script w f u a m back x c in asked_heard z k b o x i sends.0 e

      either : IsAmong z (wire.questions_in a (arrived (Some m))) ⊎ (IsAmong z (wire.questions_in a (arrived (Some m))) → ⊥) → IsAmong z (wire.questions_in a (arrived (Some m)))
      either (inl h) = h
      either (inr o) = let r = asker a z m.log (asks_log z b) in absurd (by o r.0 r.1 r.2 (among_split r.0 split.0 m.notes (subst (λ ns. IsAmong r.0 ns) split.1 r.1)))
