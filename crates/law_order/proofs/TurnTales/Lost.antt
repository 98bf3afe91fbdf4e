-- A message that is sent on what is broken, in the middle of a turn: it is told and lost, and then its answer breaks. That is made of small steps.
use Rattle.std.proofs.Common.{◌≡◌, ℕ, suc, ◌+◌, ◌*◌, Bool, true, List, [], ◌∷◌, ◌++◌, Option, Some, None, refl, sym, ap, subst, ◌∙◌, inr, append_assoc, arith}
use Rattle.std.specs.Prelude.{slice_get}
use Rattle.def_machine.specs.Values.{Words, Value, Null, Broken, Ref, Name, Answer, Sent, Msg, Naming, naming, name_of, answer_of, mail_of, host_of}
use Rattle.def_machine.specs.State.{Message, Known, Unsettled, Sends, Lost, Vat, Done, Gives, ◌>>=◌, ◌>>◌, and_then, give, look, tell, for_some, new_message, new_lone_message, begun}
use Rattle.def_machine.specs.Refs as refs
use Rattle.def_machine.specs.Refs.{Place, Gone, standing_of}
use Rattle.def_run.specs.Draws.{draw_word}
use Rattle.def_run.specs.World.{Script, Event, World, names}
use Rattle.law_machine.specs.Machine.Laws.{SettledStays}
use Rattle.law_machine.proofs.Machine.Keeps.{IsKept, IsKeptUnder}
use Rattle.law_machine.proofs.Machine.StepLaws.{settled_law, settled_names}
use Rattle.law_fate.specs.Name.Names.{AllOf, HostIsTrue, ValueOk, ValuesOk}
use Rattle.law_fate.proofs.Name.Care.{Sound}
use Rattle.law_fate.proofs.Name.Facts.{all_end}
use Rattle.law_fate.proofs.Name.Run as run
use Rattle.law_fate.specs.Fates.Fate.{one}
use Rattle.law_fate.proofs.Fates.Light.{come_sound}
use Rattle.law_fate.proofs.Fates.PlacesSteps.{global_names}
use Rattle.law_reference.specs.Reference.NameTableRuns.{allowed}
use Rattle.law_reference.proofs.Reference.Claims.{claims_end, answer_next, answer_at}
use Rattle.law_order.specs.Ordering.Settlings.{with_line}
use Rattle.law_order.specs.Ordering.Steps.{Ready, StaysReady}
use Rattle.law_order.proofs.Ordering.Adds.{stays_quiet, adds_nothing}
use Rattle.law_order.proofs.Ordering.News.{stays_then, messaged, lone_messaged}
use Rattle.law_order.specs.History.Sends.{lone_message, lone_numbered, asking_message, asking_numbered}
use Rattle.law_order.proofs.History.SendLaws.{begun_held}
use Rattle.law_order.specs.Sending.Came.{CameSo}
use Rattle.law_order.specs.Sending.New.{IsBegun}
use Rattle.law_order.proofs.Sending.Sending.{Around}
use Rattle.law_order.specs.Settling.Holding.{Holds}
use Rattle.law_order.proofs.Settling.Kept.{AllHeld, ToldTo, broken_kept}
use Rattle.law_order.proofs.Settling.Sound.{vats_are_sound}
use Rattle.law_order.proofs.Steady.Ends.{later_come}
use Rattle.law_order.proofs.Steady.Facts.{ready}
use Rattle.law_order.proofs.Steady.Steady.{Steady, less, lined}
use Rattle.law_order.proofs.Steady.Wells.{here}
use Rattle.law_order.specs.Tales.Middle.{middle}
use Rattle.law_order.proofs.Tales.Begun.{tale_both}
use Rattle.law_order.proofs.Turns.Same.{has_more}
use Rattle.law_order.proofs.Waits.Classes.{owed_at}
use Rattle.law_order.proofs.Waits.Costs as costs
use Rattle.law_order.proofs.Waits.Counts.{comes_stands}
use Rattle.law_order.proofs.Waits.Room.{share}
use Rattle.law_order.proofs.TurnTales.Acts.{Goes, lost_goes}
use Rattle.law_order.proofs.TurnTales.Also.{Also, holds_at}
use Rattle.law_order.proofs.TurnTales.AlsoKept.{came_stays}
use Rattle.law_order.proofs.TurnTales.Puts.{Does, puts_same, puts_begun}
use Rattle.law_order.proofs.TurnTales.Sends.{NoMessage, IsOf}
use Rattle.law_order.proofs.TurnTales.SentOn.{next_new, hand, hands, send_unsent, send_came}
use Rattle.law_order.proofs.TurnTales.Turning.{T}

given_back : {A : Type 0} (d : Done Name (Unit {0})) (b a : A) (u : Vat Name) → and_then d (λ _. give b) ≡ Gives a u → d ≡ Gives tt u
unfolding and_then give
given_back (Gives tt t) b a u e = let same : t ≡ u = cc in ap (λ (z : Vat Name). Gives tt z) same
given_back other b a u e = cc

module _ (script : Script) (honest : ℕ → Bool) (all : (u : ℕ) → honest u ≡ true) (w : World) (around : Around script w) (v : ℕ) (head : List Event) (came : Name → ℕ) (r q : Vat Name) (begins : IsBegun w v head came r q) (there : slice_get w.vats v ≡ Some r) (h : run.Stands script w)
    (c o : Name → ℕ) (s : Vat Name) (sure : Sound (T script w v r there h) s) (steady : Steady script w v c o s) (also : Also script honest w v head came r q s)
    (act : ℕ) (x : Value Name) (verb : Words) (args : List (Value Name)) (ok : ValueOk ((T script w v r there h).ok s) x) (oks : ValuesOk ((T script w v r there h).ok s) args) (p : Words) (gone : refs.place (names script v) s (refs.follow (names script v) s x) ≡ Gone p) (b : Value Name) (u : Vat Name) where
  abbrev K : Naming Name Name
  K = names script v

  abbrev Id : Msg
  Id = record { sender = v; number = s.messages }

  abbrev C : Vat Name → Message Name → Type 0
  C t m = CameSo script honest w v head t m

  abbrev To : Value Name
  To = refs.follow K s x

  ready_now : Ready script honest w v s
  ready_now = ready script w v honest c o s steady

  -- ---- without an answer

  abbrev Lone : Message Name
  Lone = lone_message v s x verb args

  abbrev LoneLost : Vat Name
  LoneLost = with_line (lone_numbered act s Lone) (Lost (Sent Id))

  lone_does : Does script v (IsOf Lone) NoMessage (Sends act Lone ∷ []) s LoneLost
  lone_does = record { puts = puts_same script v (IsOf Lone) NoMessage s LoneLost refl; after = Lost (Sent Id) ∷ []; happened = append_assoc s.happened (Sends act Lone ∷ []) (Lost (Sent Id) ∷ []); quiet = (tt, tt) }

  lone_stays : StaysReady script honest w v s LoneLost
  lone_stays = let t : Vat Name = record s { messages = suc s.messages; mails = s.mails ++ Sent Id ∷ [] } in
      stays_then script honest w v (lone_messaged script honest w v s) (stays_quiet script honest w v t LoneLost (adds_nothing K t LoneLost refl refl refl refl refl refl, refl, refl, refl))

  lone_goes : Goes script honest w v head s LoneLost
  lone_goes = let new = next_new script honest w around v head came r q begins there h c o s sure steady also in let told = new.told in
      lost_goes script honest w v head act r s LoneLost Lone p there (hand script honest w around v head came r q begins there h c o s sure steady also x ok) gone (lone_stays ready_now).1 refl (λ n. refl) refl (append_assoc s.happened (Sends act Lone ∷ []) (Lost (Sent Id) ∷ []))
      (told.unsent s.messages (omega arith)) (told.untaken s.messages (omega arith)) (λ g. told.uncome g s.messages (omega arith)) (λ l a n k. new.nowhere s.messages (omega arith) l a n k)

  abbrev LoneRest : Place Name → Done Name (Value Name)
  LoneRest z = and_then (refs.send_first K (record Lone { target = To }) To z (lone_numbered act s Lone)) (λ _. give Null)

  lone_is : refs.send_only K act x verb args s ≡ Gives b u → LoneRest (refs.place K s To) ≡ Gives b u
  unfolding refs.send_only ◌>>=◌ ◌>>◌ and_then look tell new_lone_message names naming mail_of
  lone_is e = e

  lone_lost : LoneRest (Gone p) ≡ Gives b u → LoneLost ≡ u
  unfolding refs.send_first refs.send_to ◌>>◌ and_then tell for_some give
  lone_lost e = cc

  -- it leads to the vat that gives
  pub lone_gone : refs.send_only (names script v) act x verb args s ≡ Gives b u → Goes script honest w v head s u
      × Does script v (IsOf (lone_message v s x verb args)) NoMessage (Sends act (lone_message v s x verb args) ∷ []) s u
  lone_gone e = subst (λ t. Goes script honest w v head s t × Does script v (IsOf Lone) NoMessage (Sends act Lone ∷ []) s t) (lone_lost (subst (λ z. LoneRest z ≡ Gives b u) gone (lone_is e))) (lone_goes, lone_does)

  -- ---- with an answer, which is here

  abbrev Ans : Name
  Ans = Answer v Id

  abbrev Asking : Message Name
  Asking = asking_message v v s x verb args

  abbrev Numbered : Vat Name
  Numbered = record s { messages = suc s.messages; mails = s.mails ++ Sent Id ∷ []; known = s.known ++ begun Ans v ∷ [] }

  abbrev Told : Vat Name
  Told = with_line Numbered (Sends act Asking)

  abbrev Mid : Vat Name
  Mid = with_line Told (Lost (Sent Id))

  -- the new answer takes what there is room for
  numbered_steady : Steady script w v (λ n. 2 * share (owed_at v n) (one Ans n) + c n) o Numbered
  unfolding names allowed host_of
  numbered_steady = record {
    sound = come_sound v Ans (naming (draw_word script.key) v) (global_names (draw_word script.key) v) s Ans v tt refl steady.sound;
    later = later_come script v Ans v s.known steady.later;
    owners = λ n g e. steady.owners n g (sym (comes_stands (draw_word script.key) v Ans v n s.known) ∙ e);
    itself = steady.itself;
    draws = steady.draws;
    room = λ n. costs.comes_good (draw_word script.key) v n (owed_at v n) (c n) s Ans v (steady.room n);
    single = λ n. let i = steady.single n in let more = claims_end v n s.known Ans v in let least = answer_at v v s.messages n in let next = answer_next v n s.promises s.messages s.drawn in omega arith;
  }

  mid_steady : Steady script w v (λ n. share (owed_at v n) (one Ans n) + c n) o Mid
  mid_steady = let hand_now : (Name → ℕ) = (λ n. share (owed_at v n) (one Ans n) + c n) in
      lined script w v hand_now o Told (Lost (Sent Id)) (lined script w v hand_now o Numbered (Sends act Asking) (less script w v (λ n. 2 * share (owed_at v n) (one Ans n) + c n) o hand_now o (λ n. omega arith) (λ n. omega arith) Numbered numbered_steady))

  unsettled_by : (z : Option (Known Name)) → z ≡ None → refs.standing_in z ≡ Unsettled
  unfolding refs.standing_in
  unsettled_by z e = ap (λ y. refs.standing_in y) e

  was_unsettled : standing_of K s.known Ans ≡ Unsettled
  unfolding standing_of
  was_unsettled = unsettled_by (refs.entry_of K s.known Ans) (ready_now.answers v s.messages (omega arith))

  now_unsettled : standing_of K Mid.known Ans ≡ Unsettled
  unfolding names
  now_unsettled = comes_stands (draw_word script.key) v Ans v Ans s.known ∙ was_unsettled

  own_answer : host_of Ans ≡ v
  unfolding host_of
  own_answer = refl

  asking_does : Does script v (IsOf Asking) NoMessage (Sends act Asking ∷ []) s Mid
  asking_does = record { puts = puts_begun script v (IsOf Asking) NoMessage Ans v s Mid refl; after = Lost (Sent Id) ∷ []; happened = append_assoc s.happened (Sends act Asking ∷ []) (Lost (Sent Id) ∷ []); quiet = (tt, tt) }

  asking_stays : StaysReady script honest w v s Mid
  asking_stays = stays_then script honest w v (messaged script honest w v s v) (stays_quiet script honest w v Numbered Mid (adds_nothing K Numbered Mid refl refl refl refl refl refl, refl, refl, refl))

  asking_goes : Goes script honest w v head s Mid
  asking_goes = let new = next_new script honest w around v head came r q begins there h c o s sure steady also in let told = new.told in
      lost_goes script honest w v head act r s Mid Asking p there (hand script honest w around v head came r q begins there h c o s sure steady also x ok) gone (asking_stays ready_now).1 refl (λ n. begun_held script honest w v act head s x verb args Ans v s.known n) refl
      (append_assoc s.happened (Sends act Asking ∷ []) (Lost (Sent Id) ∷ [])) (told.unsent s.messages (omega arith)) (told.untaken s.messages (omega arith)) (λ g. told.uncome g s.messages (omega arith)) (λ l a n k. new.nowhere s.messages (omega arith) l a n k)

  mid_goes : SettledStays K s Mid
  unfolding names naming name_of answer_of
  mid_goes = let under : IsKeptUnder K (SettledStays K) = settled_names K in under.messaged s v (Sent Id)

  mid_settled : SettledStays K r Mid
  mid_settled = let law : IsKept (SettledStays K) = settled_law K in law.trans {s = r} {t = s} {u = Mid} also.settled mid_goes

  mid_hosts : AllOf HostIsTrue Mid.known
  unfolding begun host_of
  mid_hosts = let kept = sure.more in all_end HostIsTrue s.known (begun Ans v) kept.hosts refl

  mid_holds : Holds script honest w v head Mid
  mid_holds = holds_at script honest w around v head r there Mid (ready script w v honest (λ n. share (owed_at v n) (one Ans n) + c n) o Mid mid_steady) mid_settled mid_hosts also.draws
      (send_unsent script honest w around v head came r q begins there h c o s sure steady also act Asking refl (hands script honest w around v head came r q begins there h c o s sure steady also args oks) Mid asking_does)

  mid_came : AllHeld script honest w v head C Mid
  mid_came = send_came script honest w around v head came r q begins there h c o s sure steady also act Asking refl (hands script honest w around v head came r q begins there h c o s sure steady also args oks) Mid asking_does
      (λ i y e. e) (λ n i. has_more script v s.known (begun Ans v) n i.0 i.1)

  -- ---- what the machine does

  abbrev Mail : Place Name → ℕ → Message Name
  Mail z n = asking_message v (refs.answer_host K n z) s x verb args

  abbrev Rest : Place Name → ℕ → Done Name (Value Name)
  Rest z n = and_then (refs.send_first K (record (Mail z n) { target = To }) To z (asking_numbered v act (refs.answer_host K n z) s (Mail z n))) (λ _. give (Ref (Answer (refs.answer_host K n z) Id)))

  asking_is : refs.send K act x verb args s ≡ Gives b u → Rest (refs.place K s To) s.number ≡ Gives b u
  unfolding refs.send ◌>>=◌ ◌>>◌ and_then look tell new_message names naming name_of answer_of mail_of
  asking_is e = e

  asking_lost : Rest (Gone p) v ≡ Gives b u → refs.settle K Ans (Broken p) Mid ≡ Gives tt u
  unfolding refs.send_first refs.send_to refs.answer_host ◌>>◌ and_then tell for_some
  asking_lost e = given_back (refs.settle K Ans (Broken p) Mid) (Ref Ans) b u e

  breaks : refs.send K act x verb args s ≡ Gives b u → refs.settle K Ans (Broken p) Mid ≡ Gives tt u
  breaks e = asking_lost (subst (λ n. Rest (Gone p) n ≡ Gives b u) (let sound = steady.sound in sound.same) (subst (λ z. Rest z s.number ≡ Gives b u) gone (asking_is e)))

  answer_told : refs.send K act x verb args s ≡ Gives b u → ToldTo script honest w v head C Mid u
  answer_told e = broken_kept script honest w v head all r there (vats_are_sound script w around.stands) C (came_stays script honest w v head) c o Ans Mid u mid_holds mid_came p (here own_answer now_unsettled (inr tt)) mid_steady (breaks e)

  pub asking_gone : refs.send (names script v) act x verb args s ≡ Gives b u → Goes script honest w v head s u × (Holds script honest w v head u × AllHeld script honest w v head (CameSo script honest w v head) u)
  asking_gone e = let k = answer_told e in (tale_both script honest (middle w v head s) (middle w v head Mid) (middle w v head u) asking_goes k.0, k.1)
