-- What single changes, and one thing after another, add to the claims on a name.
use Rattle.std.proofs.Common.{◌≡◌, ℕ, suc, ◌+◌, ◌≤◌, [], ◌∷◌, ◌++◌, Option, Some, None, zero, refl, arith}
use Rattle.def_machine.specs.Values.{Name, Coming, Mailing, Gift, Promise, Naming, naming, name_of, key, word_of}
use Rattle.def_machine.specs.State.{Message, Change, Hold, Wait, WaitOn, See, React, ToTell, Note, Happened, Vat, Done, Gives, Throws, Ejects, Stops, Act, ◌>>=◌, ◌>>◌, and_then, tell, enqueue, send_out, new_gift, open_gift, mark, draws, drawn_at, draw, with_change, alter, come, mail, begun}
use Rattle.law_machine.specs.Machine.Steps.{After}
use Rattle.law_machine.proofs.Machine.Keeps.{Keeps}
use Rattle.def_machine.proofs.Keys.{word_key}
use Rattle.law_fate.proofs.Fates.Spares.{IsSpared, spares}
use Rattle.law_reference.specs.Reference.Knowing.{one, onward, claims, numbered_at, Knowing}
use Rattle.law_reference.proofs.Reference.Claims.{added, claims_end, with_change_adds, promise_next, gift_next}

-- so much is owed from s to t: numbered, and not claimed yet, or freed
pub record Owes (v : ℕ) (x : Name) (owed : ℕ) (s t : Vat Name) : Type 0 where
  pub number : s.number ≡ v → t.number ≡ v
  pub kept : s.number ≡ v → claims v x t.known + numbered_at v x s + owed ≤ claims v x s.known + numbered_at v x t

module _ (v : ℕ) (x : Name) where
  knowing_trans : (c d : ℕ) (s t u : Vat Name) → Knowing v x c s t → Knowing v x d t u → Knowing v x (c + d) s u
  knowing_trans c d s t u h k = record { number = λ e. k.number (h.number e); kept = λ e. let a = h.kept e in let b = k.kept (h.number e) in omega arith }

  knowing_more : (c d : ℕ) (s t : Vat Name) → c ≤ d → Knowing v x c s t → Knowing v x d s t
  knowing_more c d s t i h = record { number = h.number; kept = λ e. let a = h.kept e in omega arith }

  pays : (c : ℕ) (s t u : Vat Name) → Owes v x c s t → Knowing v x c t u → Knowing v x 0 s u
  pays c s t u h k = record { number = λ e. k.number (h.number e); kept = λ e. let a = h.kept e in let b = k.kept (h.number e) in omega arith }

  -- in a state of that vat
  pub after_here : {A : Type 0} (c : ℕ) (s : Vat Name) (r : Done Name A) → (s.number ≡ v → After (Knowing v x c) s r) → After (Knowing v x c) s r
  after_here c s (Gives a t) f = record { number = λ e. (f e).number e; kept = λ e. (f e).kept e }
  after_here c s other f = record { number = λ e. (f e).number e; kept = λ e. (f e).kept e }

  pub after_more : {A : Type 0} (c d : ℕ) (s : Vat Name) → c ≤ d → (r : Done Name A) → After (Knowing v x c) s r → After (Knowing v x d) s r
  after_more c d s i (Gives a t) h = knowing_more c d s t i h
  after_more c d s i (Throws p t) h = knowing_more c d s t i h
  after_more c d s i (Ejects n y t) h = knowing_more c d s t i h
  after_more c d s i (Stops e t) h = knowing_more c d s t i h

  pub after_pays : {A : Type 0} (c : ℕ) (s t : Vat Name) → Owes v x c s t → (r : Done Name A) → After (Knowing v x c) t r → After (Knowing v x 0) s r
  after_pays c s t o (Gives a u) h = pays c s t u o h
  after_pays c s t o (Throws p u) h = pays c s t u o h
  after_pays c s t o (Ejects n y u) h = pays c s t u o h
  after_pays c s t o (Stops e u) h = pays c s t u o h

  pub after_trans : {A : Type 0} (c d : ℕ) (s t : Vat Name) → Knowing v x c s t → (r : Done Name A) → After (Knowing v x d) t r → After (Knowing v x (c + d)) s r
  after_trans c d s t h (Gives a u) k = knowing_trans c d s t u h k
  after_trans c d s t h (Throws p u) k = knowing_trans c d s t u h k
  after_trans c d s t h (Ejects n y u) k = knowing_trans c d s t u h k
  after_trans c d s t h (Stops e u) k = knowing_trans c d s t u h k

  pub bind_after : {A B : Type 0} (c d : ℕ) (s : Vat Name) (r : Done Name A) (f : A → Act Name B) → After (Knowing v x c) s r → ((a : A) → Keeps (Knowing v x d) (f a)) → After (Knowing v x (c + d)) s (and_then r f)
  unfolding and_then
  bind_after c d s (Gives a t) f h k = after_trans c d s t h (f a t) ((k a).after t)
  bind_after c d s (Throws p t) f h k = knowing_more c (c + d) s t (omega arith) h
  bind_after c d s (Ejects n y t) f h k = knowing_more c (c + d) s t (omega arith) h
  bind_after c d s (Stops e t) f h k = knowing_more c (c + d) s t (omega arith) h

  pub costs_more : {A : Type 0} (c d : ℕ) {m : Act Name A} → c ≤ d → Keeps (Knowing v x c) m → Keeps (Knowing v x d) m
  costs_more c d {m = m} i h = record { after = λ s. after_more c d s i (m s) (h.after s) }

  pub costs_bind : {A B : Type 0} (c d : ℕ) {m : Act Name A} {f : A → Act Name B} → Keeps (Knowing v x c) m → ((a : A) → Keeps (Knowing v x d) (f a)) → Keeps (Knowing v x (c + d)) (m >>= f)
  unfolding ◌>>=◌
  costs_bind c d {m = m} {f = f} h k = record { after = λ s. bind_after c d s (m s) f (h.after s) k }

  pub costs_then : {A B : Type 0} (c d : ℕ) {m : Act Name A} {n : Act Name B} → Keeps (Knowing v x c) m → Keeps (Knowing v x d) n → Keeps (Knowing v x (c + d)) (m >> n)
  unfolding ◌>>◌
  costs_then c d {m = m} {n = n} h k = record { after = λ s. bind_after c d s (m s) (λ _. n) (h.after s) (λ _. k) }

  -- what comes first is free
  pub free_bind : {A B : Type 0} (c : ℕ) {m : Act Name A} {f : A → Act Name B} → Keeps (Knowing v x 0) m → ((a : A) → Keeps (Knowing v x c) (f a)) → Keeps (Knowing v x c) (m >>= f)
  free_bind c h k = costs_more (0 + c) c (omega arith) (costs_bind 0 c h k)

  pub free_then : {A B : Type 0} (c : ℕ) {m : Act Name A} {n : Act Name B} → Keeps (Knowing v x 0) m → Keeps (Knowing v x c) n → Keeps (Knowing v x c) (m >> n)
  free_then c h k = costs_more (0 + c) c (omega arith) (costs_then 0 c h k)

  -- what comes last is free
  pub then_free : {A B : Type 0} (c : ℕ) {m : Act Name A} {n : Act Name B} → Keeps (Knowing v x c) m → Keeps (Knowing v x 0) n → Keeps (Knowing v x c) (m >> n)
  then_free c h k = costs_more (c + 0) c (omega arith) (costs_then c 0 h k)

  pub bind_free : {A B : Type 0} (c : ℕ) {m : Act Name A} {f : A → Act Name B} → Keeps (Knowing v x c) m → ((a : A) → Keeps (Knowing v x 0) (f a)) → Keeps (Knowing v x c) (m >>= f)
  bind_free c h k = costs_more (c + 0) c (omega arith) (costs_bind c 0 h k)

  -- ---- single changes

  pub none : (s : Vat Name) → Knowing v x 0 s s
  none s = record { number = λ e. e; kept = λ e. omega arith }

  pub spared : IsSpared (Knowing v x 0)
  unfolding numbered_at
  spared = record {
    same = λ s. none s;
    trans = λ {s} {t} {u} h k. knowing_more (0 + 0) 0 s u (omega arith) (knowing_trans 0 0 s t u h k);
    fuel = λ s n. record { number = λ e. e; kept = λ e. omega arith };
    told = λ s e h. record { number = λ e. e; kept = λ e. omega arith };
    activations = λ s. record { number = λ e. e; kept = λ e. omega arith };
    thing = λ s t. record { number = λ e. e; kept = λ e. omega arith };
    killed = λ s n. record { number = λ e. e; kept = λ e. omega arith };
    slot = λ s c. record { number = λ e. e; kept = λ e. omega arith };
    written = λ s n y. record { number = λ e. e; kept = λ e. omega arith };
    list = λ s vs. record { number = λ e. e; kept = λ e. omega arith };
  }

  pub free_tell : (e : Happened Name) → Keeps (Knowing v x 0) (tell e)
  unfolding tell numbered_at
  free_tell e = record { after = λ s. record { number = λ e. e; kept = λ e. omega arith } }

  pub free_gift : (n : Name) (p i : ℕ) → Keeps (Knowing v x 0) (new_gift n p i)
  unfolding new_gift numbered_at
  free_gift n p i = record { after = λ s. record { number = λ e. e; kept = λ e. omega arith } }

  pub free_open : (p i : ℕ) → Keeps {N = Name} (Knowing v x 0) (open_gift p i)
  unfolding open_gift numbered_at
  free_open p i = record { after = λ s. record { number = λ e. e; kept = λ e. omega arith } }

  pub free_mark : (w : ℕ) → Keeps {N = Name} (Knowing v x 0) (mark w)
  unfolding mark numbered_at
  free_mark w = record { after = λ s. record { number = λ e. e; kept = λ e. omega arith } }

  pub free_enqueue : (m : Message Name) → Keeps (Knowing v x 0) (enqueue m)
  unfolding enqueue numbered_at
  free_enqueue m = record { after = λ s. record { number = λ e. e; kept = λ e. omega arith } }

  pub free_out : (w : ℕ) (n : Note Name) → Keeps (Knowing v x 0) (send_out w n)
  unfolding send_out numbered_at
  free_out w n = record { after = λ s. record { number = λ e. e; kept = λ e. omega arith } }

  -- a new word pays for a gift under it
  pub draw_owes : (s : Vat Name) (w h k : ℕ) → word_of k ≡ w → drawn_at zero w s.drawn ≡ None → Owes v x (one (Gift h k) x) s (record s { drawn = s.drawn ++ w ∷ [] })
  unfolding numbered_at
  draw_owes s w h k e new = record { number = λ n. n; kept = λ n. let next = gift_next v h k w x s.promises s.messages s.drawn e new in omega arith }

  draw_after : (s : Vat Name) (w : ℕ) → drawn_at zero w s.drawn ≡ None → Knowing v x 0 s (record s { drawn = s.drawn ++ w ∷ [] })
  draw_after s w new = let owes = draw_owes s w v (key v w) (word_key v w) new in record { number = λ e. e; kept = λ e. let a = owes.kept e in omega arith }

  draws_after : (s : Vat Name) (w : ℕ) (o : Option ℕ) → drawn_at zero w s.drawn ≡ o → After (Knowing v x 0) s (draws w o s)
  unfolding draws
  draws_after s w (Some i) new = none s
  draws_after s w None new = draw_after s w new

  module _ {W : Type 0} (K : Naming Name W) where
    pub free_draw : Keeps (Knowing v x 0) (draw K)
    unfolding draw
    free_draw = record { after = λ s. draws_after s _ _ refl }

    altered : (s : Vat Name) (c : Change Name) (n : Name) (k : ℕ) → added v x c ≤ k → Knowing v x k s (record s { known = with_change K c n s.known })
    unfolding numbered_at
    altered s c n k h = record { number = λ e. e; kept = λ e. let more = with_change_adds K v x c n s.known in omega arith }

    pub free_wait : (q n : Name) → Keeps (Knowing v x 0) (alter K (Wait q) n)
    unfolding alter added
    free_wait q n = record { after = λ s. altered s (Wait q) n 0 (omega arith) }

    pub free_wait_on : (q n : Name) → Keeps (Knowing v x 0) (alter K (WaitOn q) n)
    unfolding alter added
    free_wait_on q n = record { after = λ s. altered s (WaitOn q) n 0 (omega arith) }

    pub free_see : (q n : Name) → Keeps (Knowing v x 0) (alter K (See q) n)
    unfolding alter added
    free_see q n = record { after = λ s. altered s (See q) n 0 (omega arith) }

    pub free_to_tell : (w : ℕ) (n : Name) → Keeps (Knowing v x 0) (alter K (ToTell w) n)
    unfolding alter added
    free_to_tell w n = record { after = λ s. altered s (ToTell w) n 0 (omega arith) }

    pub free_react : (m : Message Name) (n : Name) → Keeps (Knowing v x 0) (alter K (React m) n)
    unfolding alter added
    free_react m n = record { after = λ s. altered s (React m) n 0 (omega arith) }

    pub costs_hold : (m : Message Name) (n : Name) → Keeps (Knowing v x (onward v x m.id)) (alter K (Hold m) n)
    unfolding alter added
    costs_hold m n = record { after = λ s. altered s (Hold m) n (onward v x m.id) (omega arith) }

    pub free_mail : (c : Mailing W) → Keeps (Knowing v x 0) (mail K c)
    unfolding mail numbered_at
    free_mail c = record { after = λ s. record { number = λ e. e; kept = λ e. omega arith } }

  pub known_after : (s : Vat Name) (n : Name) (h : ℕ) → Knowing v x (one n x) s (record s { known = s.known ++ begun n h ∷ [] })
  unfolding numbered_at
  known_after s n h = record { number = λ e. e; kept = λ e. let more = claims_end v x s.known n h in omega arith }

  module _ (word : ℕ → ℕ) where
    pub costs_come : (c : Coming Name Name) (h : ℕ) → Keeps (Knowing v x (one (name_of v c) x)) (come (naming word v) c h)
    unfolding come naming
    costs_come c h = record { after = λ s. known_after s (name_of v c) h }

    pub free_promise : (s : Vat Name) → Knowing v x 0 s (record s { promises = suc s.promises; known = s.known ++ begun (Promise v s.promises) s.number ∷ [] })
    unfolding numbered_at
    free_promise s = record { number = λ e. e; kept = λ e. let more = claims_end v x s.known (Promise v s.promises) s.number in let next = promise_next v x s.promises s.messages s.drawn in omega arith }

pub ruleset free = (spares, free_tell, free_gift, free_open, free_mark, free_enqueue, free_out, free_draw, free_wait, free_wait_on, free_see, free_to_tell, free_react, free_mail)
