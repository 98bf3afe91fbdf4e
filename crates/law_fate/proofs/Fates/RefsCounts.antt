-- What is done with references doubles no message.
use Rattle.std.proofs.Common.{◌≡◌, ℕ, suc, ◌+◌, ◌≤◌, Bool, true, false, [], ◌∷◌, ◌++◌, Option, Some, None, arith, length, if◌then◌else◌}
use Rattle.def_machine.specs.Values.{Words, Name, Naming, Coming, Mailing, IsOwn}
use Rattle.def_machine.specs.State.{Message, Change, Hold, Wait, WaitOn, See, React, ToTell, Passed, Passeds, Note, Deliver, Open, Ask, SettledTo, Elsewhere, Shorten, Happened, Took, Sends, Reacts, Lost, Posted, Vat, Done, Gives, Throws, Ejects, Stops, Act, ◌>>=◌, ◌>>◌, and_then, tell, enqueue, send_out, new_gift, open_gift, mark, draws, draw, with_change, alter, come, mail, begun, Delivery, for_some}
use Rattle.law_machine.specs.Machine.Steps.{After}
use Rattle.law_machine.proofs.Machine.Keeps.{Keeps}
use Rattle.law_fate.specs.Fates.Fate.{one, at_vat, sent_here, sent_in, gone_here, where_cut, in_note, of_note, account}
use Rattle.law_fate.specs.Fates.FateLaws.{numbered, Accounted}
use Rattle.law_fate.proofs.Fates.Spares.{IsSpared, TellsOfNone, spares}
use Rattle.law_fate.proofs.Fates.Counts.{among_end, sent_end, gone_end, put_end, names_end, added, with_change_adds}

-- so many are owed from s to t: sent, and not placed yet, or freed
pub record Owes (cut : ℕ → Bool) (v : ℕ) (x : Name) (owed : ℕ) (s t : Vat Name) : Type 0 where
  pub kept : account cut x t + sent_in x s.happened + owed ≤ account cut x s + sent_in x t.happened
  pub fresh : sent_in x t.happened + numbered v s.messages x ≤ sent_in x s.happened + numbered v t.messages x

module _ (cut : ℕ → Bool) (v : ℕ) (x : Name) where
  accounted_trans : (c d : ℕ) (s t u : Vat Name) → Accounted cut v x c s t → Accounted cut v x d t u → Accounted cut v x (c + d) s u
  accounted_trans c d s t u h k = let a = h.kept in let b = k.kept in let e = h.fresh in let f = k.fresh in record { kept = omega arith; fresh = omega arith }

  accounted_more : (c d : ℕ) (s t : Vat Name) → c ≤ d → Accounted cut v x c s t → Accounted cut v x d s t
  accounted_more c d s t i h = let a = h.kept in record { kept = omega arith; fresh = h.fresh }

  pays : (c : ℕ) (s t u : Vat Name) → Owes cut v x c s t → Accounted cut v x c t u → Accounted cut v x 0 s u
  pays c s t u h k = let a = h.kept in let b = k.kept in let e = h.fresh in let f = k.fresh in record { kept = omega arith; fresh = omega arith }

  pub after_more : {A : Type 0} (c d : ℕ) (s : Vat Name) → c ≤ d → (r : Done Name A) → After (Accounted cut v x c) s r → After (Accounted cut v x d) s r
  after_more c d s i (Gives a t) h = accounted_more c d s t i h
  after_more c d s i (Throws p t) h = accounted_more c d s t i h
  after_more c d s i (Ejects n y t) h = accounted_more c d s t i h
  after_more c d s i (Stops e t) h = accounted_more c d s t i h

  pub after_pays : {A : Type 0} (c : ℕ) (s t : Vat Name) → Owes cut v x c s t → (r : Done Name A) → After (Accounted cut v x c) t r → After (Accounted cut v x 0) s r
  after_pays c s t o (Gives a u) h = pays c s t u o h
  after_pays c s t o (Throws p u) h = pays c s t u o h
  after_pays c s t o (Ejects n y u) h = pays c s t u o h
  after_pays c s t o (Stops e u) h = pays c s t u o h

  pub after_trans : {A : Type 0} (c d : ℕ) (s t : Vat Name) → Accounted cut v x c s t → (r : Done Name A) → After (Accounted cut v x d) t r → After (Accounted cut v x (c + d)) s r
  after_trans c d s t h (Gives a u) k = accounted_trans c d s t u h k
  after_trans c d s t h (Throws p u) k = accounted_trans c d s t u h k
  after_trans c d s t h (Ejects n y u) k = accounted_trans c d s t u h k
  after_trans c d s t h (Stops e u) k = accounted_trans c d s t u h k

  bind_after : {A B : Type 0} (c d : ℕ) (s : Vat Name) (r : Done Name A) (f : A → Act Name B) → After (Accounted cut v x c) s r → ((a : A) → Keeps (Accounted cut v x d) (f a)) → After (Accounted cut v x (c + d)) s (and_then r f)
  unfolding and_then
  bind_after c d s (Gives a t) f h k = after_trans c d s t h (f a t) ((k a).after t)
  bind_after c d s (Throws p t) f h k = accounted_more c (c + d) s t (omega arith) h
  bind_after c d s (Ejects n y t) f h k = accounted_more c (c + d) s t (omega arith) h
  bind_after c d s (Stops e t) f h k = accounted_more c (c + d) s t (omega arith) h

  pub costs_more : {A : Type 0} (c d : ℕ) {m : Act Name A} → c ≤ d → Keeps (Accounted cut v x c) m → Keeps (Accounted cut v x d) m
  costs_more c d {m = m} i h = record { after = λ s. after_more c d s i (m s) (h.after s) }

  pub costs_bind : {A B : Type 0} (c d : ℕ) {m : Act Name A} {f : A → Act Name B} → Keeps (Accounted cut v x c) m → ((a : A) → Keeps (Accounted cut v x d) (f a)) → Keeps (Accounted cut v x (c + d)) (m >>= f)
  unfolding ◌>>=◌
  costs_bind c d {m = m} {f = f} h k = record { after = λ s. bind_after c d s (m s) f (h.after s) k }

  pub costs_then : {A B : Type 0} (c d : ℕ) {m : Act Name A} {n : Act Name B} → Keeps (Accounted cut v x c) m → Keeps (Accounted cut v x d) n → Keeps (Accounted cut v x (c + d)) (m >> n)
  unfolding ◌>>◌
  costs_then c d {m = m} {n = n} h k = record { after = λ s. bind_after c d s (m s) (λ _. n) (h.after s) (λ _. k) }

  -- what comes first is free
  pub free_bind : {A B : Type 0} (c : ℕ) {m : Act Name A} {f : A → Act Name B} → Keeps (Accounted cut v x 0) m → ((a : A) → Keeps (Accounted cut v x c) (f a)) → Keeps (Accounted cut v x c) (m >>= f)
  free_bind c h k = costs_more (0 + c) c (omega arith) (costs_bind 0 c h k)

  pub costs_some : {A B : Type 0} (c : ℕ) (o : Option A) {f : A → Act Name B} {m : Act Name B} → ((a : A) → Keeps (Accounted cut v x c) (f a)) → Keeps (Accounted cut v x c) m → Keeps (Accounted cut v x c) (for_some o f m)
  unfolding for_some
  costs_some c (Some a) h k = h a
  costs_some c None h k = k

  pub costs_if : {A : Type 0} (c : ℕ) (b : Bool) {m n : Act Name A} → Keeps (Accounted cut v x c) m → Keeps (Accounted cut v x c) n → Keeps (Accounted cut v x c) (if b then m else n)
  costs_if c true h k = h
  costs_if c false h k = k

  pub free_then : {A B : Type 0} (c : ℕ) {m : Act Name A} {n : Act Name B} → Keeps (Accounted cut v x 0) m → Keeps (Accounted cut v x c) n → Keeps (Accounted cut v x c) (m >> n)
  free_then c h k = costs_more (0 + c) c (omega arith) (costs_then 0 c h k)

  -- what comes last is free
  pub then_free : {A B : Type 0} (c : ℕ) {m : Act Name A} {n : Act Name B} → Keeps (Accounted cut v x c) m → Keeps (Accounted cut v x 0) n → Keeps (Accounted cut v x c) (m >> n)
  then_free c h k = costs_more (c + 0) c (omega arith) (costs_then c 0 h k)

  -- ---- single changes

  none_here : (e : Happened Name) → TellsOfNone e → gone_here cut x e + sent_here x e ≡ 0
  unfolding gone_here sent_here
  none_here (Took act m) h = absurd h
  none_here (Sends act m) h = absurd h
  none_here (Reacts act y o m) h = absurd h
  none_here (Lost m) h = absurd h
  none_here (Posted w m) h = absurd h
  none_here _ h = omega arith

  free_told : (s : Vat Name) (e : Happened Name) → TellsOfNone e → Accounted cut v x 0 s (record s { happened = s.happened ++ e ∷ [] })
  unfolding account at_vat
  free_told s e h = let none = none_here e h in let a = gone_end cut x s.happened e in let b = sent_end x s.happened e in record { kept = omega arith; fresh = omega arith }

  pub spared : IsSpared (Accounted cut v x 0)
  unfolding account at_vat
  spared = record {
    same = λ s. record { kept = omega arith; fresh = omega arith };
    trans = λ {s} {t} {u} h k. accounted_more (0 + 0) 0 s u (omega arith) (accounted_trans 0 0 s t u h k);
    fuel = λ s n. record { kept = omega arith; fresh = omega arith };
    told = free_told;
    activations = λ s. record { kept = omega arith; fresh = omega arith };
    thing = λ s t. record { kept = omega arith; fresh = omega arith };
    killed = λ s n. record { kept = omega arith; fresh = omega arith };
    slot = λ s c. record { kept = omega arith; fresh = omega arith };
    written = λ s n y. record { kept = omega arith; fresh = omega arith };
    list = λ s vs. record { kept = omega arith; fresh = omega arith };
  }

  pub free_gift : (n : Name) (p i : ℕ) → Keeps (Accounted cut v x 0) (new_gift n p i)
  unfolding new_gift account at_vat
  free_gift n p i = record { after = λ s. record { kept = omega arith; fresh = omega arith } }

  pub free_open : (p i : ℕ) → Keeps {N = Name} (Accounted cut v x 0) (open_gift p i)
  unfolding open_gift account at_vat
  free_open p i = record { after = λ s. record { kept = omega arith; fresh = omega arith } }

  pub free_mark : (w : ℕ) → Keeps {N = Name} (Accounted cut v x 0) (mark w)
  unfolding mark account at_vat
  free_mark w = record { after = λ s. record { kept = omega arith; fresh = omega arith } }

  pub costs_enqueue : (m : Message Name) → Keeps (Accounted cut v x (one m.id x)) (enqueue m)
  unfolding enqueue account at_vat
  costs_enqueue m = record { after = λ s. let more = among_end x s.queue m in record { kept = omega arith; fresh = omega arith } }

  out_costs : (s : Vat Name) (w : ℕ) (n : Note Name) (c : ℕ) → where_cut (cut w) 0 (of_note x n) ≤ c → Accounted cut v x c s (record s { outbox = s.outbox ++ record { to = w; note = n } ∷ [] })
  unfolding account at_vat
  out_costs s w n c h = let more = put_end cut x s.outbox (record { to = w; note = n }) in record { kept = omega arith; fresh = omega arith }

  where_none : (b : Bool) → where_cut b 0 0 ≤ 0
  unfolding where_cut
  where_none true = omega arith
  where_none false = omega arith

  pub free_out_open : (w i : ℕ) (n : Name) → Keeps (Accounted cut v x 0) (send_out w (Open i n))
  unfolding send_out in_note of_note
  free_out_open w i n = record { after = λ s. out_costs s w (Open i n) 0 (where_none (cut w)) }

  pub free_out_ask : (w p i : ℕ) (n : Name) → Keeps (Accounted cut v x 0) (send_out w (Ask p i n))
  unfolding send_out in_note of_note
  free_out_ask w p i n = record { after = λ s. out_costs s w (Ask p i n) 0 (where_none (cut w)) }

  pub free_out_settled : (w : ℕ) (n : Name) (y : Passed Name) → Keeps (Accounted cut v x 0) (send_out w (SettledTo n y))
  unfolding send_out in_note of_note
  free_out_settled w n y = record { after = λ s. out_costs s w (SettledTo n y) 0 (where_none (cut w)) }

  pub free_out_elsewhere : (w : ℕ) (n : Name) (c : ℕ) → Keeps (Accounted cut v x 0) (send_out w (Elsewhere n c))
  unfolding send_out in_note of_note
  free_out_elsewhere w n c = record { after = λ s. out_costs s w (Elsewhere n c) 0 (where_none (cut w)) }

  pub free_out_shorten : (w : ℕ) (n : Name) (c i : ℕ) → Keeps (Accounted cut v x 0) (send_out w (Shorten n c i))
  unfolding send_out in_note of_note
  free_out_shorten w n c i = record { after = λ s. out_costs s w (Shorten n c i) 0 (where_none (cut w)) }

  costs_out : (w : ℕ) (d : Delivery Name) (n : Name) (verb : Words) (ys : Passeds Name) → Keeps (Accounted cut v x (where_cut (cut w) 0 (one d.message x))) (send_out w (Deliver d n verb ys))
  unfolding send_out in_note of_note
  costs_out w d n verb ys = record { after = λ s. out_costs s w (Deliver d n verb ys) (where_cut (cut w) 0 (one d.message x)) (omega arith) }

  costs_posted : (w : ℕ) (m : Name) → Keeps (Accounted cut v x (where_cut (cut w) (one m x) 0)) (tell (Posted w m))
  unfolding tell account at_vat gone_here sent_here
  costs_posted w m = record { after = λ s. let a = gone_end cut x s.happened (Posted w m) in let b = sent_end x s.happened (Posted w m) in record { kept = omega arith; fresh = omega arith } }

  where_both : (b : Bool) (c : ℕ) → where_cut b c 0 + where_cut b 0 c ≤ c
  unfolding where_cut
  where_both true c = omega arith
  where_both false c = omega arith

  pub costs_put : (w : ℕ) (d : Delivery Name) (n : Name) (verb : Words) (ys : Passeds Name) → Keeps (Accounted cut v x (one d.message x)) (tell (Posted w d.message) >> send_out w (Deliver d n verb ys))
  costs_put w d n verb ys = let m : Name = d.message in costs_more (where_cut (cut w) (one m x) 0 + where_cut (cut w) 0 (one m x)) (one m x) (where_both (cut w) (one m x)) (costs_then (where_cut (cut w) (one m x) 0) (where_cut (cut w) 0 (one m x)) (costs_posted w m) (costs_out w d n verb ys))

  pub costs_lost : (m : Name) → Keeps (Accounted cut v x (one m x)) (tell (Lost m))
  unfolding tell account at_vat gone_here sent_here
  costs_lost m = record { after = λ s. let a = gone_end cut x s.happened (Lost m) in let b = sent_end x s.happened (Lost m) in record { kept = omega arith; fresh = omega arith } }

  pub costs_took : (act : ℕ) (m : Message Name) → Keeps (Accounted cut v x (one m.id x)) (tell (Took act m))
  unfolding tell account at_vat gone_here sent_here
  costs_took act m = record { after = λ s. let a = gone_end cut x s.happened (Took act m) in let b = sent_end x s.happened (Took act m) in record { kept = omega arith; fresh = omega arith } }

  draws_after : (s : Vat Name) (w : ℕ) (o : Option ℕ) → After (Accounted cut v x 0) s (draws w o s)
  unfolding draws account at_vat
  draws_after s w (Some i) = record { kept = omega arith; fresh = omega arith }
  draws_after s w None = record { kept = omega arith; fresh = omega arith }

  module _ {W : Type 0} (K : Naming Name W) where
    pub free_draw : Keeps (Accounted cut v x 0) (draw K)
    unfolding draw
    free_draw = record { after = λ s. draws_after s _ _ }

    altered : (s : Vat Name) (c : Change Name) (n : Name) (k : ℕ) → added x c ≤ k → Accounted cut v x k s (record s { known = with_change K c n s.known })
    unfolding account at_vat
    altered s c n k h = let more = with_change_adds K x c n s.known in record { kept = omega arith; fresh = omega arith }

    pub free_wait : (q n : Name) → Keeps (Accounted cut v x 0) (alter K (Wait q) n)
    unfolding alter added
    free_wait q n = record { after = λ s. altered s (Wait q) n 0 (omega arith) }

    pub free_wait_on : (q n : Name) → Keeps (Accounted cut v x 0) (alter K (WaitOn q) n)
    unfolding alter added
    free_wait_on q n = record { after = λ s. altered s (WaitOn q) n 0 (omega arith) }

    pub free_see : (q n : Name) → Keeps (Accounted cut v x 0) (alter K (See q) n)
    unfolding alter added
    free_see q n = record { after = λ s. altered s (See q) n 0 (omega arith) }

    pub free_to_tell : (w : ℕ) (n : Name) → Keeps (Accounted cut v x 0) (alter K (ToTell w) n)
    unfolding alter added
    free_to_tell w n = record { after = λ s. altered s (ToTell w) n 0 (omega arith) }

    pub costs_hold : (m : Message Name) (n : Name) → Keeps (Accounted cut v x (one m.id x)) (alter K (Hold m) n)
    unfolding alter added
    costs_hold m n = record { after = λ s. altered s (Hold m) n (one m.id x) (omega arith) }

    pub costs_react : (m : Message Name) (n : Name) → Keeps (Accounted cut v x (one m.id x)) (alter K (React m) n)
    unfolding alter added
    costs_react m n = record { after = λ s. altered s (React m) n (one m.id x) (omega arith) }

    pub free_come : (c : Coming Name W) (h : ℕ) → Keeps (Accounted cut v x 0) (come K c h)
    unfolding come account at_vat
    free_come c h = record { after = λ s. let same = names_end x s.known (K.made c (length s.known)) h in record { kept = omega arith; fresh = omega arith } }

    pub free_mail : (c : Mailing W) → Keeps (Accounted cut v x 0) (mail K c)
    unfolding mail account at_vat
    free_mail c = record { after = λ s. record { kept = omega arith; fresh = omega arith } }

    pub free_promise : (s : Vat Name) → Accounted cut v x 0 s (record s { promises = suc s.promises; known = s.known ++ begun (K.made (IsOwn s.promises) (length s.known)) s.number ∷ [] })
    unfolding account at_vat
    free_promise s = let same = names_end x s.known (K.made (IsOwn s.promises) (length s.known)) s.number in record { kept = omega arith; fresh = omega arith }

pub ruleset free = (spares, free_gift, free_open, free_mark, free_out_open, free_out_ask, free_out_settled, free_out_elsewhere, free_out_shorten, free_draw, free_wait, free_wait_on, free_see, free_to_tell, free_come, free_mail)
