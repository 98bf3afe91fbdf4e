-- A gift for which a vat asked by a cut link is told to no vat; so what is lost on a cut link is not told back.
use Rattle.std.proofs.Common.{◌≡◌, ℕ, Bool, true, false, Option, Some, None, refl, sym, ap, subst, ◌∙◌, ◌⊎◌, inl, inr}
use Rattle.std.specs.Prelude.{slice_get}
use Rattle.def_machine.specs.Values.{Name, Answer, Gift, Sent, Msg, answer_of}
use Rattle.def_machine.specs.State.{Note, Deliver, Ask, Put, Vat}
use Rattle.def_run.specs.World.{Script, Link, World, link_at}
use Rattle.law_fate.specs.Name.Names.{Named, IsAmong, IsKnownIn, IsMessageName, PutOk, names_in}
use Rattle.law_fate.proofs.Name.Among.{all_among}
use Rattle.law_fate.proofs.Name.Run.{Had}
use Rattle.law_reference.specs.Reference.Logs as wire
use Rattle.law_reference.proofs.Reference.First.{among_dec}
use Rattle.law_reference.proofs.Reference.Follow.{put_cases}
use Rattle.law_reference.proofs.Reference.Moves.{Moved, Still, Severs, Drops, Steps, Arrives}
use Rattle.law_frame.specs.Frame.Asked.{AsksOf, told_in}
use Rattle.law_frame.proofs.Frame.LinksGo.{FoundFrom}
use Rattle.law_frame.proofs.Frame.LinksKnown.{AsksOwn}
use Rattle.law_frame.proofs.Frame.SourceLaws.{log_is}
use Rattle.law_frame.proofs.Frame.Told.{note_told}
use Rattle.law_frame.proofs.Frame.Worlds.{asker}
use Rattle.law_frame.proofs.Heard.Bare.{Bare}
use Rattle.law_frame.proofs.Heard.CutAnswers.{Past, AnswersLost}
use Rattle.law_frame.proofs.Heard.CutHeard.{Answers, HeardOn}
use Rattle.law_frame.proofs.Heard.CutSteps.{LostUntold, open_answers}
use Rattle.law_frame.proofs.Heard.Moves.{goes_of}
use Rattle.law_frame.proofs.Heard.Pairs.{Paired}
use Rattle.law_frame.proofs.Heard.Pending.{Facts, Alone, AsksFor, AloneWhereLate, wires, splits, stands, sent, told_not, lost_alone}
use Rattle.law_frame.proofs.Heard.Steps.{Asked}

-- where a gift was asked for by a link that is cut, and that was not heard
abbrev pub AloneWhereLost : World → Type 0
AloneWhereLost w = (u g i : ℕ) (r : Vat Name) → (u ≡ g → ⊥) → slice_get w.vats g ≡ Some r → (m : Link) → link_at u g w.links ≡ Some m → m.cut ≡ true → AsksFor u g i w → (IsAmong (Gift g i) (Answers w.connections g u) → ⊥) → Alone u g i w.vats w.links

module _ (script : Script) where
  -- a vat was there before
  there_before : (x y : World) → Moved script x y → (g : ℕ) (r : Vat Name) → slice_get y.vats g ≡ Some r → (s : Vat Name) × (slice_get x.vats g ≡ Some s)
  there_before x y (Still v l d) g r e = (r, ap (λ us. slice_get us g) (sym v) ∙ e)
  there_before x y (Severs a b v l d) g r e = (r, ap (λ us. slice_get us g) (sym v) ∙ e)
  there_before x y (Drops a v n ns l at notes none vats links drawn) g r e = (r, ap (λ us. slice_get us g) (sym vats) ∙ e)
  there_before x y (Steps v s q t what alone d vats links drawn first fresh) g r e = either (put_cases v t x.vats g r (subst (λ us. slice_get us g ≡ Some r) vats e))
    where
      either : ((g ≡ v) × (t ≡ r)) ⊎ ((g ≡ v → ⊥) × (slice_get x.vats g ≡ Some r)) → (o : Vat Name) × (slice_get x.vats g ≡ Some o)
      either (inl k) = (s, ap (λ c. slice_get x.vats c) k.0 ∙ d.there)
      either (inr k) = (r, k.1)
  there_before x y (Arrives a v s t n ns l at cut notes d vats links drawn first fresh) g r e = either (put_cases v t x.vats g r (subst (λ us. slice_get us g ≡ Some r) vats e))
    where
      either : ((g ≡ v) × (t ≡ r)) ⊎ ((g ≡ v → ⊥) × (slice_get x.vats g ≡ Some r)) → (o : Vat Name) × (slice_get x.vats g ≡ Some o)
      either (inl k) = (s, ap (λ c. slice_get x.vats c) k.0 ∙ d.there)
      either (inr k) = (r, k.1)

  module _ (x y : World) (f : Past script x) (late : AloneWhereLate x) (next : Facts script y) (on : HeardOn x y) (move : Moved script x y) (before : AloneWhereLost x) (u g i : ℕ) (r : Vat Name) (other : u ≡ g → ⊥) (at : slice_get y.vats g ≡ Some r)
      (m : Link) (link : link_at u g y.links ≡ Some m) (cut : m.cut ≡ true) (asks : AsksFor u g i y) (unheard : IsAmong (Gift g i) (Answers y.connections g u) → ⊥) where
    was : FoundFrom x.links u g m
    was = goes_of script x y (splits script x f.facts) move u g m link

    unheard_before : IsAmong (Gift g i) (Answers x.connections g u) → ⊥
    unheard_before a = unheard (on g u (Gift g i) a)

    state : (s : Vat Name) × (slice_get x.vats g ≡ Some s)
    state = there_before x y move g r at

    -- whoever asked is a vat
    asker_there : AsksFor u g i x → (s : Vat Name) × (slice_get x.vats u ≡ Some s)
    unfolding wire.questions wire.questions_in
    asker_there a = by (slice_get x.vats u) refl
      where
        by : (o : Option (Vat Name)) → slice_get x.vats u ≡ o → (s : Vat Name) × (slice_get x.vats u ≡ Some s)
        by (Some s) e = (s, e)
        by None e = absurd (subst (λ ns. IsAmong (Gift g i) (wire.questions_in g ns)) (log_is was.0 (link_at u g x.links) was.1 ∙ f.facts.knows.none u g e was.0 was.1) a)

    alone_before : AsksFor u g i x → Alone u g i x.vats x.links
    alone_before a = by was.0.cut refl
      where
        by : (b : Bool) → was.0.cut ≡ b → Alone u g i x.vats x.links
        by true e = before u g i state.0 other state.1 was.0 was.1 e a unheard_before
        by false e = let s = asker_there a in late u g i other was.0 was.1 e a
            (λ h. unheard_before (subst (λ qs. IsAmong (Gift g i) qs) (sym (open_answers script x f.facts f.kept f.paired u g s.0 state.0 s.1 state.1 other was.0 was.1 e)) h))

    alone_after : Alone u g i y.vats y.links
    alone_after = lost_alone script x y f.facts next move u g i other m link cut asks alone_before

  pub alone_on : (x y : World) → Past script x → AloneWhereLate x → Facts script y → HeardOn x y → Moved script x y → AloneWhereLost x → AloneWhereLost y
  alone_on x y f late next on move before u g i r other at m link cut asks unheard = alone_after x y f late next on move before u g i r other at m link cut asks unheard

  -- ---- what is lost is not told

  module _ (y : World) (f : Facts script y) (pairs : Paired y) (answers : AnswersLost y) (gifts : AloneWhereLost y) (v u : ℕ) (t : Vat Name) (placed : slice_get y.vats v ≡ Some t) (other : v ≡ u → ⊥) (l : Link) (at : link_at v u y.links ≡ Some l) (cut : l.cut ≡ true)
      (p : Put Name) (among : IsAmong p t.outbox) (z : Name) (told : IsAmong z (told_in p.note)) (asked : IsAmong z (Asked y u v)) where
    back : (k : Link) × (link_at u v y.links ≡ Some k) × (k.cut ≡ true)
    back = let wired = wires script y f in let k = wired.paired v u (l, at) in let alike = pairs.0 v u in (k.0, k.1, alike.2 k.0 k.1 ∙ sym (alike.1 l at) ∙ cut)

    known : IsKnownIn (names_in t.known) z
    known = let k = (stands script y f).vats v t placed in let parts = k.parts in let ok : PutOk (Had script y v t) p = all_among (PutOk (Had script y v t)) t.outbox p parts.outbox among in
        (all_among (λ x. Had script y v t (Named x)) (told_in p.note) z (note_told (Had script y v t) p.note ok.0) told).1

    away : u ≡ v → ⊥
    away e = other (sym e)

    module _ (unheard : IsAmong z (Answers y.connections v u) → ⊥) where
      gift_told : (i : ℕ) → z ≡ Gift v i → ⊥
      gift_told i e = let alone = gifts u v i t away placed back.0 back.1 back.2 (subst (λ n. IsAmong n (Asked y u v)) e asked) (λ a. unheard (subst (λ n. IsAmong n (Answers y.connections v u)) (sym e) a)) in
          let bare = alone.bare v t other placed in let ok : PutOk (Bare v i v) p = all_among (PutOk (Bare v i v)) t.outbox p bare.outbox among in told_not v i v p.note ok.0 (subst (λ n. IsAmong n (told_in p.note)) e told)

      answer_told : (m : Msg) → z ≡ Answer v m → ⊥
      answer_told m e = (answers u v m t away placed back.0 back.1 back.2 (subst (λ n. IsAmong n (Asked y u v)) e asked) (λ a. unheard (subst (λ n. IsAmong n (Answers y.connections v u)) (sym e) a))).1 (subst (λ n. IsKnownIn (names_in t.known) n) e known)

      message_told : (id : Name) → IsMessageName id → answer_of v id ≡ z → ⊥
      unfolding answer_of
      message_told (Sent m) o e = answer_told m (sym e)
      message_told other o e = o

      asks_told : (n : Note Name) → AsksOwn v n → AsksOf v n z → ⊥
      asks_told (Deliver d c verb ys) own e = message_told d.message own e.1
      asks_told (Ask q i c) own e = gift_told i (sym e ∙ own)
      asks_told other own e = e

      none_told : ⊥
      unfolding wire.questions
      none_told = let n = asker v z back.0.log (subst (λ ns. IsAmong z (wire.questions_in v ns)) (log_is back.0 (link_at u v y.links) back.1) asked) in
          asks_told n.0 (sent script y f u v back.0 back.1 n.0 n.1).0 n.2

    heard : IsAmong z (Answers y.connections v u)
    heard = by (among_dec z (Answers y.connections v u))
      where
        by : IsAmong z (Answers y.connections v u) ⊎ (IsAmong z (Answers y.connections v u) → ⊥) → IsAmong z (Answers y.connections v u)
        by (inl a) = a
        by (inr o) = absurd (none_told o)

  pub lost_untold : (y : World) → Facts script y → Paired y → AnswersLost y → AloneWhereLost y → LostUntold y
  lost_untold y f pairs answers gifts v u t placed other l at cut p among to z told asked = heard y f pairs answers gifts v u t placed other l at cut p among z told asked
