-- The places of a message once it was put on a cut link, by counts.
use Rattle.std.proofs.Common.{◌≡◌, ℕ, ◌+◌, ◌≤◌, Bool, true, false, List, [], ◌∷◌, Some, refl, sym, ap, subst, ◌∙◌, arith}
use Rattle.def_machine.specs.Values.{Name, Answer, Gift, Sent, Msg, answer_of}
use Rattle.def_machine.specs.State.{Note, Deliver, Ask, Put, Vat}
use Rattle.law_machine.specs.Machine.Steps.{Step}
use Rattle.def_run.specs.Draws.{draw_word}
use Rattle.def_run.specs.World as world
use Rattle.def_run.specs.World.{Script, Link, World, is_link, link_at, with_link, severed_link, put_at, push_all, names, readied}
use Rattle.law_fate.specs.Fates.Fate.{total, of_note, in_note, on_link, at_vat, sent_in, put_out, where_cut, account, gone, one as same_one}
use Rattle.law_fate.specs.Fates.FateLaws.{Accounted, brought as fate_brought}
use Rattle.law_fate.specs.Fates.Carry.{load, put_weight}
use Rattle.law_fate.proofs.Fates.RunCounts.{total_put, push_all_adds, with_link_changes}
use Rattle.law_fate.proofs.Fates.TurnAccount.{steps_double_none}
use Rattle.law_fate.specs.Name.Names.{IsMessageName}
use Rattle.law_reference.proofs.Reference.Counts.{put_total}
use Rattle.law_reference.proofs.Reference.FollowRuns.{after_gives}
use Rattle.law_reference.proofs.Reference.Legs.{self_least}
use Rattle.law_reference.proofs.Reference.Moves.{Does, waiting}
use Rattle.law_reference.proofs.Reference.Places.{note_least}
use Rattle.law_frame.specs.Frame.Asked.{AsksOf}
use Rattle.law_frame.proofs.Frame.Before.{AsksNot, PutsNot}
use Rattle.law_frame.proofs.Frame.LinksKnown.{AsksOwn}

-- ---- links that are cut

sever_or : (x : Name) (l : Link) (ls ks : List Link) (b : Bool) → total (on_link x) ks ≤ total (on_link x) ls → total (on_link x) (elim b [ true ↦ severed_link l ∷ ls | false ↦ l ∷ ks ]) ≤ total (on_link x) (l ∷ ls)
unfolding severed_link on_link total
sever_or x l ls ks true h = omega arith
sever_or x l ls ks false h = omega arith

pub sever_most : (x : Name) (a b : ℕ) (ls : List Link) → total (on_link x) (with_link severed_link a b ls) ≤ total (on_link x) ls
unfolding with_link total
sever_most x a b [] = omega arith
sever_most x a b (l ∷ ls) = sever_or x l ls (with_link severed_link a b ls) (is_link a b l) (sever_most x a b ls)

severed_none : (x : Name) (k : Link) → on_link x (severed_link k) ≤ 0
unfolding severed_link on_link total
severed_none x k = omega arith

pub sever_takes : (x : Name) (a b : ℕ) (ls : List Link) (k : Link) → link_at a b ls ≡ Some k → total (on_link x) (with_link severed_link a b ls) + on_link x k ≤ total (on_link x) ls
sever_takes x a b ls k e = let c = with_link_changes x severed_link a b ls k e in let n = severed_none x k in omega arith

-- ---- what is put

some_cut : (b : Bool) (n : ℕ) → where_cut b 0 n ≤ n
unfolding where_cut
some_cut true n = omega arith
some_cut false n = omega arith

put_some : (cut : ℕ → Bool) (x : Name) (ps : List (Put Name)) → put_out cut x ps ≤ total (λ (p : Put Name). of_note x p.note) ps
unfolding put_out total
put_some cut x [] = omega arith
put_some cut x (p ∷ ps) = let rest = put_some cut x ps in let here = some_cut (cut p.to) (of_note x p.note) in omega arith

pub puts_weigh : (x : Name) (ps : List (Put Name)) → total (λ (p : Put Name). of_note x p.note) ps ≤ put_weight x ps
unfolding put_weight total
puts_weigh x [] = omega arith
puts_weigh x (p ∷ ps) = let rest = puts_weigh x ps in let here = note_least x p.note in omega arith

pub load_puts : (x : Name) (s : Vat Name) → put_weight x s.outbox ≤ load x s
unfolding load
load_puts x s = omega arith

module _ (g : ℕ) (m : Msg) where
  sent_is : (id : Name) → IsMessageName id → answer_of g id ≡ Answer g m → 1 ≤ same_one id (Sent m)
  unfolding answer_of
  sent_is (Sent n) o e = let same : n ≡ m = cc in subst (λ k. 1 ≤ same_one (Sent k) (Sent m)) (sym same) (self_least m)
  sent_is other o e = absurd o

  no_gift : (i : ℕ) → Gift g i ≡ Answer g m → ⊥
  no_gift i e = cc

  -- a note that asks for the answer bears the message
  pub asks_bears : (n : Note Name) → AsksOwn g n → AsksOf g n (Answer g m) → 1 ≤ of_note (Sent m) n
  unfolding of_note in_note
  asks_bears (Deliver d t verb ys) o e = sent_is d.message o e.1
  asks_bears (Ask p i t) o e = absurd (no_gift i (sym o ∙ e))
  asks_bears other o e = absurd e

  none_asks : (n : Note Name) → of_note (Sent m) n ≤ 0 → AsksNot g (Answer g m) n
  none_asks n h = λ o e. let k = asks_bears n o e in absurd (omega arith)

  -- Where nothing of the message is put on cut links, it is not asked of g by a cut link.
  pub puts_not : (cut : ℕ → Bool) → cut g ≡ true → (ps : List (Put Name)) → total (λ (p : Put Name). of_note (Sent m) p.note) ps ≤ put_out cut (Sent m) ps → PutsNot g (Answer g m) ps
  unfolding put_out total where_cut
  puts_not cut c [] h = tt
  puts_not cut c (p ∷ ps) h = let rest = put_some cut (Sent m) ps in let here = some_cut (cut p.to) (of_note (Sent m) p.note) in ((λ e. one e (omega arith)), puts_not cut c ps (omega arith))
    where
      by_cut : (b : Bool) → b ≡ true → of_note (Sent m) p.note ≤ where_cut b 0 (of_note (Sent m) p.note) → of_note (Sent m) p.note ≤ 0
      by_cut true i k = k
      by_cut false i k = cc

      one : p.to ≡ g → of_note (Sent m) p.note ≤ where_cut (cut p.to) 0 (of_note (Sent m) p.note) → AsksNot g (Answer g m) p.note
      one e k = none_asks p.note (by_cut (cut p.to) (ap cut e ∙ c) k)

-- ---- a step

module _ (script : Script) (w : World) (v : ℕ) (s q t : Vat Name) (what : Step Name Name) (d : Does script w v s q t what) (m : Msg) (arr : ℕ) (came : fate_brought (Sent m) what ≤ waiting (Sent m) what + arr) where
  abbrev M : Name
  M = Sent m

  abbrev Sends : ℕ
  Sends = sent_in M t.happened

  accounted : (cut : ℕ → Bool) → Accounted cut v M (fate_brought M what) (readied w q) t
  unfolding names
  accounted cut = after_gives (λ x y. Accounted cut v M (fate_brought M what) x y) (readied w q) t _ (steps_double_none (draw_word script.key) v what (readied w q) cut M) d.gives

  -- its places at the vat, and what was put of it
  placed : (cut : ℕ → Bool) → at_vat M t + put_out cut M t.outbox ≤ at_vat M s + arr + Sends
  unfolding readied sent_in account put_out gone at_vat
  placed cut = let a = (accounted cut).kept in let b = d.waits M in omega arith

  pub placed_all : at_vat M t + total (λ (p : Put Name). of_note M p.note) t.outbox ≤ at_vat M s + arr + Sends
  placed_all = let a = placed (λ u. false) in let b = put_total M t.outbox in omega arith

  module _ (ls : List Link) where
    abbrev pub Cut : ℕ → Bool
    Cut = λ u. world.is_cut v u ls

    abbrev pub After : ℕ
    After = total (at_vat M) (put_at v t w.vats) + total (on_link M) (push_all v t.outbox ls)

    pub places_after : After ≤ total (at_vat M) w.vats + total (on_link M) ls + arr + Sends
    places_after = let a = placed Cut in let b = total_put (at_vat M) v w.vats s t d.there in let c = push_all_adds M v t.outbox ls Cut (λ u. refl) in omega arith

    -- where some is put on a cut link
    pub places_lost : put_out Cut M t.outbox + 1 ≤ total (λ (p : Put Name). of_note M p.note) t.outbox → After + 1 ≤ total (at_vat M) w.vats + total (on_link M) ls + arr + Sends
    places_lost h = let a = placed_all in let b = total_put (at_vat M) v w.vats s t d.there in let c = push_all_adds M v t.outbox ls Cut (λ u. refl) in omega arith
