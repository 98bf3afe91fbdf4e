-- The laws of what steps tell.
use Rattle.std.proofs.Common.{◌≡◌, ℕ, ◌+◌, ◌≤◌, ◌-◌, Bool, true, false, List, [], ◌∷◌, ◌++◌, Option, Some, None, refl, sym, ap, ◌∙◌, inl, inr, length, arith}
use Rattle.std.specs.Prelude.{drop, slice_get}
use Rattle.def_machine.specs.Values.{Name, answer_of}
use Rattle.def_machine.specs.State.{Note, Deliver, Ask, Put, GiftEntry, Vat}
use Rattle.def_run.specs.Names.{own_mails}
use Rattle.def_run.specs.World.{Script, World, names, readied}
use Rattle.law_machine.specs.Machine.Steps.{Step, Opens as Starts, Receives, Notices}
use Rattle.law_machine.specs.Run.Moves.{Does}
use Rattle.law_fate.specs.Name.Names.{AllOf, IsAmong, NoteOk, PutOk, names_in}
use Rattle.law_fate.proofs.Name.Facts.{all_map}
use Rattle.law_fate.proofs.Name.Run.{Had, Stands}
use Rattle.law_reference.specs.Reference.Notes.{answer_due, NamesItsAnswer}
use Rattle.law_reference.specs.Reference.AnswerNames.{IsUnderWay, PutsNameAnswers, NamesAnswers}
use Rattle.law_reference.proofs.Reference.AnswerNames.{answers_named}
use Rattle.law_frame.specs.Frame.Asked.{AsksOf, AskFits}
use Rattle.law_frame.proofs.Frame.WireAsking.{Steady, Mailed, Comes, PutFits, gift_names}
use Rattle.law_frame.proofs.Frame.WireRuns.{Wire, in_runs, opened_both, stepped_both}
use Rattle.law_frame.specs.Local.Told.{InEachStep, carried_by, AsksKnown, AsksAs, IsBroughtBy, IsTold, MessagesComeInOrder, LinesNameAnswers, NotesNameWhatTheyAsk, GiftsAreNamed, GiftsComeAtTheEnd, EachNewNameIsTold, NotesBringNoOwnPromise}
use Rattle.law_frame.proofs.Local.ToldEntries.{Brings, EachStep, by_entry, by_opening}
use Rattle.law_frame.proofs.Local.ToldBrought.{brings_none}
use Rattle.law_frame.proofs.Local.ToldSteady.{HeardIn, DueBy, telling, Ready, steady_step}
use Rattle.law_frame.proofs.Local.ToldGiftsEnd.{Adds, step_adds}

-- what follows of the steps in a world from what is kept of the world
in_steps : (P : ℕ → Vat Name → Option (Note Name) → Vat Name → Type 0) → ((script : Script) (w : World) → Stands script w → Wire script w → NamesAnswers script w → EachStep script P w) → InEachStep P
in_steps P f script once = (
  λ ps rest p x y i opened opens. let b = opened_both script once ps (p ∷ rest) x i opened in by_opening script P x y (f script x b.0 b.1 ((answers_named script once).0 ps (p ∷ rest) x i opened)) ps rest p i opens,
  λ w x y es e k opened stepped steps. let b = stepped_both script once w x es k opened stepped in by_entry script P x y (f script x b.0 b.1 ((answers_named script once).1 w x es k opened stepped)) e (k + length es) steps,
)

-- ---- messages

counted : (v : ℕ) (w : World) (s t : Vat Name) (o : Option (Note Name)) → Mailed v (Ready w s o) t → (s.messages ≤ t.messages) × (t.mails ≡ s.mails ++ carried_by o ++ own_mails v s.messages (t.messages - s.messages))
unfolding readied
counted v w s t o m = let e : t.messages ≡ s.messages + m.0 = m.1 in let f : t.messages - s.messages ≡ m.0 = omega arith in
    ((omega arith), rw f m.2)

pub messages_in_order : MessagesComeInOrder
messages_in_order = in_steps _ (λ script w g h a v s q t what o b d. counted v w s t o (steady_step script w g h v s t d.there q what o b d).mails)

-- ---- lines, gifts and notes

pub lines_named : LinesNameAnswers
lines_named = in_runs _ (λ script w g h v s there. (h.told v s there).1)

pub gifts_named : GiftsAreNamed
gifts_named = in_runs _ (λ script w g h v s there. h.gifts v s there)

gifts_of : (script : Script) (w : World) (v : ℕ) (s q t : Vat Name) (what : Step Name Name) → Does script w v s q t what → q.gifts ≡ s.gifts → Adds s t
unfolding readied
gifts_of script w v s q t what d e = rw e at (step_adds (names script v) what (readied w q) t d.gives)

same_gifts : (script : Script) (w : World) (v : ℕ) (s q t : Vat Name) (what : Step Name Name) → Does script w v s q t what → q.gifts ≡ s.gifts
same_gifts script w v s q t (Receives from m) d = ap (λ (x : Vat Name). x.gifts) d.begins
same_gifts script w v s q t (Notices u) d = ap (λ (x : Vat Name). x.gifts) d.begins
same_gifts script w v s q t other d = ap (λ (x : Vat Name). x.gifts) (d.begins).2

pub gifts_at_end : GiftsComeAtTheEnd
gifts_at_end = in_steps _ (λ script w g h a v s q t what o b d. gifts_of script w v s q t what d (same_gifts script w v s q t what d))

due_back : (w : ℕ) (b : Bool) (m x : Name) → answer_due w b m ≡ Some x → (b ≡ true) × (answer_of w m ≡ x)
due_back w true m x e = (refl, (let f : answer_of w m ≡ x = cc in f))
due_back w false m x e = cc

asked_known : (script : Script) (x : World) (v : ℕ) (s : Vat Name) (w : ℕ) (n : Note Name) → AskFits (names_in s.known) w n → NoteOk (Had script x v s) n → NamesItsAnswer w n → AsksKnown s w n
asked_known script x v s w (Deliver d n verb ys) f k e = (k.0.1, answer)
  where
    answer : (y : Name) → d.answer ≡ Some y → (y ≡ answer_of w d.message) × IsAmong y (names_in s.known)
    answer y i = let b = due_back w d.asks d.message y (sym e ∙ i) in (sym b.1, rw b.1 at (f b.0))
asked_known script x v s w (Ask p i n) f k e = (f.1, f.0)
asked_known script x v s w other f k e = tt

puts_known : (script : Script) (x : World) (v : ℕ) (s : Vat Name) (ps : List (Put Name)) → AllOf (PutFits v (names_in s.known)) ps → AllOf (PutOk (Had script x v s)) ps → AllOf (λ (p : Put Name). NamesItsAnswer p.to p.note) ps → AllOf (λ (p : Put Name). AsksKnown s p.to p.note) ps
puts_known script x v s [] f k e = tt
puts_known script x v s (p ∷ ps) f k e = (asked_known script x v s p.to p.note f.0.0 k.0.0 e.0, puts_known script x v s ps f.1 k.1 e.1)

notes_here : (script : Script) (w : World) → Stands script w → Wire script w → NamesAnswers script w → (v : ℕ) (s : Vat Name) → slice_get w.vats v ≡ Some s → AllOf (λ (p : Put Name). AsksKnown s p.to p.note) s.outbox
notes_here script w g h a v s there = puts_known script w v s s.outbox (h.told v s there).0 (g.vats v s there).parts.outbox (a.1 v s there)

pub notes_named : NotesNameWhatTheyAsk
notes_named script once = (
  λ ps rest w e opened. let b = opened_both script once ps rest w e opened in notes_here script w b.0 b.1 ((answers_named script once).0 ps rest w e opened),
  λ w x es k opened stepped. let b = stepped_both script once w x es k opened stepped in notes_here script x b.0 b.1 ((answers_named script once).1 w x es k opened stepped),
)

-- ---- all is told

due_is : (w : ℕ) (b : Bool) (m x : Name) → b ≡ true → answer_of w m ≡ x → answer_due w b m ≡ Some x
due_is w true m x e f = ap Some f
due_is w false m x e f = cc

asks_as : (w : ℕ) (n : Note Name) (x : Name) → NamesItsAnswer w n → AsksOf w n x → AsksAs n x
asks_as w (Deliver d n verb ys) x e h = e ∙ due_is w d.asks d.message x h.0 h.1
asks_as w (Ask p i n) x e h = h
asks_as w other x e h = absurd h

all_at : (ps : List (Put Name)) (p : Put Name) → AllOf (λ (p : Put Name). NamesItsAnswer p.to p.note) ps → IsAmong p ps → NamesItsAnswer p.to p.note
all_at [] p h a = absurd a
all_at (q ∷ ps) p h (inl e) = rw (sym e) at h.0
all_at (q ∷ ps) p h (inr a) = all_at ps p h.1 a

brought_heard : (v : ℕ) (ks : List Name) (o : Option (Note Name)) (x : Name) → HeardIn ks o x → IsBroughtBy v ks o x
brought_heard v ks None x h = h
brought_heard v ks (Some n) x h = inl h

brought_due : (v : ℕ) (ks : List Name) (o : Option (Note Name)) (x : Name) → DueBy v o x → IsBroughtBy v ks o x
brought_due v ks None x h = h
brought_due v ks (Some n) x h = inr h

named_gift : (gs : List (GiftEntry Name)) (x : Name) → IsAmong x (gift_names gs) → (g : GiftEntry Name) × IsAmong g gs × (g.name ≡ x)
named_gift [] x a = absurd a
named_gift (g ∷ gs) x (inl e) = (g, inl refl, sym e)
named_gift (g ∷ gs) x (inr a) = let r = named_gift gs x a in (r.0, inr r.1, r.2)

-- a gift that came
gift_came : (ss ts : List (GiftEntry Name)) (ns : List Name) (x : Name) → gift_names ts ≡ gift_names ss ++ ns → IsAmong x ns → (g : GiftEntry Name) × IsAmong g (drop (length ss) ts) × (g.name ≡ x)
gift_came [] ts ns x e a = named_gift ts x (rw (sym e) at a)
gift_came (s ∷ ss) [] ns x e a = cc
gift_came (s ∷ ss) (t ∷ ts) ns x e a = let f : gift_names ts ≡ gift_names ss ++ ns = cc in gift_came ss ts ns x f a

told_by : (script : Script) (v : ℕ) (w : World) (s t : Vat Name) (o : Option (Note Name)) → PutsNameAnswers t → (x : Name) → Comes v (telling script v (names_in s.known) o) (Ready w s o) t x → IsTold v s o t x
unfolding readied
told_by script v w s t o f x (inl (host, inl i)) = inl i
told_by script v w s t o f x (inl (host, inr (inl a))) = inr (inl a)
told_by script v w s t o f x (inl (host, inr (inr (inl a)))) = inr (inr (inr (inl (gift_came s.gifts t.gifts a.0 x a.1 a.2))))
told_by script v w s t o f x (inl (host, inr (inr (inr k)))) = inr (inr (inr (inr (brought_due v (names_in s.known) o x k))))
told_by script v w s t o f x (inr (inl a)) = inr (inr (inl (a.0, a.1, asks_as a.0.to a.0.note x (all_at t.outbox a.0 f a.1) a.2)))
told_by script v w s t o f x (inr (inr (inl k))) = inr (inr (inr (inr (brought_heard v (names_in s.known) o x k.1))))
told_by script v w s t o f x (inr (inr (inr k))) = inr (inr (inr (inr (brought_heard v (names_in s.known) o x k))))

under_way : (w : World) (v : ℕ) (s : Vat Name) (what : Step Name Name) (o : Option (Note Name)) → Brings w v s what o → IsUnderWay w v s what
under_way w v s (Receives from m) (Some n) b = (b.0, n, b.1, b.2, b.3)
under_way w v s (Receives from m) None b = absurd b
under_way w v s (Starts tree depth root given) o b = tt
under_way w v s other o b = tt

all_told : (script : Script) (v : ℕ) (w : World) (s t : Vat Name) (o : Option (Note Name)) → PutsNameAnswers t → Steady v (telling script v (names_in s.known) o) (Ready w s o) t → (ns : List Name) × (names_in t.known ≡ names_in s.known ++ ns) × AllOf (IsTold v s o t) ns
unfolding readied
all_told script v w s t o f r = let c = r.come in (c.0, c.1, all_map (told_by script v w s t o f) c.0 c.2)

pub names_told : EachNewNameIsTold
names_told = in_steps _ (λ script w g h a v s q t what o b d. all_told script v w s t o (a.2 v s q t what (under_way w v s what o b) d) (steady_step script w g h v s t d.there q what o b d))

pub no_own_brought : NotesBringNoOwnPromise
no_own_brought = in_steps _ (λ script w g h a v s q t what o b d. brings_none script w g v s d.there what o b)
