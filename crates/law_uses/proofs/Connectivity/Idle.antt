-- What tells of names, messages and lists that come, and of nothing else; it makes no thing and no slot.
use Rattle.std.proofs.Common.{◌≡◌, ℕ, ◌-◌, Bool, true, false, List, [], ◌∷◌, ◌++◌, Option, Some, None, refl, ap, ◌∙◌, length, map, subst, sym}
use Rattle.std.specs.Prelude.{nat_le, slice_get}
use Rattle.def_machine.specs.Values.{Words, Value, Items, Naming, Coming, Mailing}
use Rattle.def_machine.specs.State.{Ask, Shorten, See, Settle, Message, Happened, ListCame, Settles, Waits, Views, Lost, Posted, Vat, Stop, Done, Gives, Throws, Ejects, Stops, Act, ◌>>=◌, ◌>>◌, and_then, give, throw, stop, look, tell, spend, spent, new_list, enqueue, Change, Note, send_out, new_gift, open_gift, mark, draws, alter, come, mail, new_promise, new_message, draw, new_lone_message}
use Rattle.def_machine.specs.Arrive.{make_list}
use Rattle.law_machine.proofs.Machine.Walks.{Property, Holds, IsClosed, IsOfRefs, InRefs, InRefsUnder, InSettling, InArrive, InArriveUnder}
use Rattle.law_machine.proofs.Machine.RefsWalk.{settles_by_lines}
use Rattle.law_machine.proofs.Machine.StepLaws.{get_append}
use Rattle.law_uses.specs.Connectivity.Known.{AllOf}
use Rattle.law_uses.specs.Connectivity.News.{list_made, Adds}
use Rattle.law_uses.proofs.Connectivity.Adding.{adds_line, adds_new}

-- a line by which no activation does or knows anything
abbrev pub IsIdle : {N : Type 0} → Happened N → Type 0
IsIdle (Settles p y) = Unit {0}
IsIdle (Waits p q) = Unit {0}
IsIdle (Views p q) = Unit {0}
IsIdle (Lost m) = Unit {0}
IsIdle (Posted w m) = Unit {0}
IsIdle (ListCame k vs) = Unit {0}
IsIdle _ = ⊥

pub record Idles {N : Type 0} (s t : Vat N) : Type 0 where
  pub more : List (Happened N)
  pub lines : t.happened ≡ s.happened ++ more
  pub idle : AllOf IsIdle more
  pub things : t.things ≡ s.things
  pub slots : t.slots ≡ s.slots
  pub lists : (k : ℕ) (vs : List (Value N)) → slice_get s.lists k ≡ Some vs → slice_get t.lists k ≡ Some vs
  -- lists that come are told of, with the next numbers
  pub lists_told : (ls : List (List (Value N))) → Adds ls (map list_made s.happened) s.lists → Adds ls (map list_made t.happened) t.lists

-- how it ends; it is left by no ejector
abbrev pub IdleEnds : {N A : Type 0} → Vat N → Done N A → Type 0
IdleEnds s (Gives a t) = Idles s t
IdleEnds s (Throws p t) = Idles s t
IdleEnds s (Ejects n v t) = ⊥
IdleEnds s (Stops c t) = Idles s t

abbrev pub IdleBy : {N : Type 0} → Property N
IdleBy {N} A m = (s : Vat N) → IdleEnds s (m s)

abbrev pub Idle : {N A : Type 0} → Act N A → Type 0
Idle m = Holds IdleBy m

pub no_more : {A : Type 0} (xs : List A) → xs ≡ xs ++ []
no_more [] = refl
no_more (x ∷ xs) = ap (λ ys. x ∷ ys) (no_more xs)

pub joined : {A : Type 0} (xs ys zs : List A) → (xs ++ ys) ++ zs ≡ xs ++ (ys ++ zs)
joined [] ys zs = refl
joined (x ∷ xs) ys zs = ap (λ ws. x ∷ ws) (joined xs ys zs)

pub all_join : {A : Type 0} (P : A → Type 0) (xs ys : List A) → AllOf P xs → AllOf P ys → AllOf P (xs ++ ys)
all_join P [] ys h k = k
all_join P (x ∷ xs) ys h k = (h.0, all_join P xs ys h.1 k)

module _ {N : Type 0} where
  pub idles_same : (s t : Vat N) → t.happened ≡ s.happened → t.things ≡ s.things → t.slots ≡ s.slots → t.lists ≡ s.lists → Idles s t
  idles_same s t e f g h = record { more = []; lines = e ∙ no_more s.happened; idle = tt; things = f; slots = g; lists = λ k vs i. ap (λ ls. slice_get ls k) h ∙ i; lists_told = λ ls r. subst (λ es. Adds ls (map list_made es) t.lists) (sym e) (subst (λ ms. Adds ls (map list_made s.happened) ms) (sym h) r) }

  pub idles_trans : (s t u : Vat N) → Idles s t → Idles t u → Idles s u
  idles_trans s t u h k = record {
    more = h.more ++ k.more;
    lines = k.lines ∙ ap (λ es. es ++ k.more) h.lines ∙ joined s.happened h.more k.more;
    idle = all_join IsIdle h.more k.more h.idle k.idle;
    things = k.things ∙ h.things;
    slots = k.slots ∙ h.slots;
    lists = λ n vs i. k.lists n vs (h.lists n vs i);
    lists_told = λ ls r. k.lists_told ls (h.lists_told ls r);
  }

  idles_line : (s : Vat N) (e : Happened N) → IsIdle e → list_made e ≡ None → Idles s (record s { happened = s.happened ++ e ∷ [] })
  idles_line s e i q = record { more = e ∷ []; lines = refl; idle = (i, tt); things = refl; slots = refl; lists = λ k vs f. f; lists_told = λ ls r. adds_line list_made ls s.lists s.happened e q r }

  widen : {A : Type 0} (s t : Vat N) → Idles s t → (d : Done N A) → IdleEnds t d → IdleEnds s d
  widen s t r (Gives a u) h = idles_trans s t u r h
  widen s t r (Throws p u) h = idles_trans s t u r h
  widen s t r (Ejects n v u) h = h
  widen s t r (Stops c u) h = idles_trans s t u r h

  bind_after : {A B : Type 0} (s : Vat N) (d : Done N A) (f : A → Act N B) → IdleEnds s d → ((a : A) → Idle (f a)) → IdleEnds s (and_then d f)
  unfolding and_then
  bind_after s (Gives a t) f h k = widen s t h (f a t) ((k a).after t)
  bind_after s other f h k = h

  pub idle_bind : {A B : Type 0} {m : Act N A} {f : A → Act N B} → Idle m → ((a : A) → Idle (f a)) → Idle (m >>= f)
  unfolding ◌>>=◌
  idle_bind {m = m} {f = f} h k = record { after = λ s. bind_after s (m s) f (h.after s) k }

  pub idle_then : {A B : Type 0} {m : Act N A} {n : Act N B} → Idle m → Idle n → Idle (m >> n)
  unfolding ◌>>◌
  idle_then {m = m} {n = n} h k = record { after = λ s. bind_after s (m s) (λ _. n) (h.after s) (λ _. k) }

  pub idle_give : {A : Type 0} (a : A) → Idle {N = N} (give a)
  unfolding give
  idle_give a = record { after = λ s. idles_same s s refl refl refl refl }

  pub idle_throw : {A : Type 0} (p : Words) → Idle {N = N} (throw {A = A} p)
  unfolding throw
  idle_throw p = record { after = λ s. idles_same s s refl refl refl refl }

  pub idle_stop : {A : Type 0} (c : Stop) → Idle {N = N} (stop {A = A} c)
  unfolding stop
  idle_stop c = record { after = λ s. idles_same s s refl refl refl refl }

  pub idle_look : {A : Type 0} (f : Vat N → A) → Idle (look f)
  unfolding look
  idle_look f = record { after = λ s. idles_same s s refl refl refl refl }

  pub tells_settles : (p : N) (y : Value N) → Idle (tell (Settles p y))
  unfolding tell
  tells_settles p y = record { after = λ s. idles_line s (Settles p y) tt refl }

  pub tells_waits : (p q : N) → Idle (tell (Waits p q))
  unfolding tell
  tells_waits p q = record { after = λ s. idles_line s (Waits p q) tt refl }

  pub tells_views : (p q : N) → Idle (tell (Views p q))
  unfolding tell
  tells_views p q = record { after = λ s. idles_line s (Views p q) tt refl }

  pub tells_lost : (m : N) → Idle (tell (Lost m))
  unfolding tell
  tells_lost m = record { after = λ s. idles_line s (Lost m) tt refl }

  pub tells_posted : (w : ℕ) (m : N) → Idle (tell (Posted w m))
  unfolding tell
  tells_posted w m = record { after = λ s. idles_line s (Posted w m) tt refl }

  spend_after : (s : Vat N) (n : ℕ) (b : Bool) → IdleEnds s (spent n b s)
  unfolding spent
  spend_after s n true = idles_same s (record s { fuel = s.fuel - n }) refl refl refl refl
  spend_after s n false = idles_same s s refl refl refl refl

  pub idle_spend : (n : ℕ) → Idle {N = N} (spend n)
  unfolding spend
  idle_spend n = record { after = λ s. spend_after s n (nat_le n s.fuel) }

  came : (s : Vat N) (vs : List (Value N)) → Idles s (record s { lists = s.lists ++ vs ∷ []; happened = s.happened ++ ListCame (length s.lists) vs ∷ [] })
  came s vs = record {
    more = ListCame (length s.lists) vs ∷ [];
    lines = refl;
    idle = (tt, tt);
    things = refl;
    slots = refl;
    lists = λ k ws e. get_append s.lists (vs ∷ []) k ws e;
    lists_told = λ ls r. adds_new list_made ls s.lists vs s.happened (ListCame (length s.lists) vs) refl r;
  }

  -- a list comes, and its line is told
  pub idle_came : {B : Type 0} (vs : List (Value N)) {m : ℕ → Act N B} → ((k : ℕ) → Idle (m k)) → Idle (new_list vs >>= (λ k. tell (ListCame k vs) >> m k))
  unfolding new_list ◌>>=◌ tell ◌>>◌ and_then
  idle_came vs {m = m} h = record { after = λ s. let k = length s.lists in let t : Vat N = record s { lists = s.lists ++ vs ∷ []; happened = s.happened ++ ListCame k vs ∷ [] } in widen s t (came s vs) (m k t) ((h k).after t) }

  pub idle_enqueue : (m : Message N) → Idle {N = N} (enqueue m)
  unfolding enqueue
  idle_enqueue m = record { after = λ s. idles_same s _ refl refl refl refl }

  pub idle_out : (to : ℕ) (n : Note N) → Idle {N = N} (send_out to n)
  unfolding send_out
  idle_out to n = record { after = λ s. idles_same s _ refl refl refl refl }

  pub idle_gift : (n : N) (p i : ℕ) → Idle {N = N} (new_gift n p i)
  unfolding new_gift
  idle_gift n p i = record { after = λ s. idles_same s _ refl refl refl refl }

  pub idle_open : (p i : ℕ) → Idle {N = N} (open_gift p i)
  unfolding open_gift
  idle_open p i = record { after = λ s. idles_same s _ refl refl refl refl }

  pub idle_mark : (w : ℕ) → Idle {N = N} (mark w)
  unfolding mark
  idle_mark w = record { after = λ s. idles_same s _ refl refl refl refl }

  draws_after : (s : Vat N) (w : ℕ) (o : Option ℕ) → IdleEnds s (draws w o s)
  unfolding draws
  draws_after s w (Some i) = idles_same s s refl refl refl refl
  draws_after s w None = idles_same s (record s { drawn = s.drawn ++ w ∷ [] }) refl refl refl refl

module _ {N W : Type 0} (K : Naming N W) where
  pub idle_alter : (c : Change N) (n : N) → Idle (alter K c n)
  unfolding alter
  idle_alter c n = record { after = λ s. idles_same s _ refl refl refl refl }

  pub idle_come : (c : Coming N W) (h : ℕ) → Idle (come K c h)
  unfolding come
  idle_come c h = record { after = λ s. idles_same s _ refl refl refl refl }

  pub idle_mail : (c : Mailing W) → Idle (mail K c)
  unfolding mail
  idle_mail c = record { after = λ s. idles_same s _ refl refl refl refl }

  pub idle_promise : Idle (new_promise K)
  unfolding new_promise
  idle_promise = record { after = λ s. idles_same s _ refl refl refl refl }

  pub idle_message : (h : ℕ) → Idle (new_message K h)
  unfolding new_message
  idle_message h = record { after = λ s. idles_same s _ refl refl refl refl }

  pub idle_lone_message : Idle (new_lone_message K)
  unfolding new_lone_message
  idle_lone_message = record { after = λ s. idles_same s _ refl refl refl refl }

  pub idle_draw : Idle (draw K)
  unfolding draw
  idle_draw = record { after = λ s. draws_after s _ _ }

pub idle_closed : {N : Type 0} → IsClosed (IdleBy {N = N})
idle_closed = record { gives = idle_give; stops = idle_stop; looks = idle_look; binds = idle_bind }

idle_line : {N : Type 0} (e : Happened N) → IsOfRefs e → Idle (tell e)
idle_line (Waits p q) h = tells_waits p q
idle_line (Lost m) h = tells_lost m
idle_line (Posted w m) h = tells_posted w m
idle_line other h = absurd h

pub idle_in_refs : {N : Type 0} → InRefs (IdleBy {N = N})
idle_in_refs = record { tells = idle_line; spends = idle_spend; queues = idle_enqueue; puts = λ to n h. idle_out to n }

pub idle_in_arrive : {N : Type 0} → InArrive (IdleBy {N = N})
idle_in_arrive = record { asks = λ to p i n. idle_out to (Ask p i n); shortens = λ to n c i. idle_out to (Shorten n c i); gifts = idle_gift; opens = idle_open; marks = idle_mark }

module _ {N W : Type 0} (K : Naming N W) where
  pub idle_in_refs_under : InRefsUnder IdleBy K
  idle_in_refs_under = record { alters = λ c n h. idle_alter K c n; comes = idle_come K; draws = idle_draw K }

  pub idle_settling : InSettling IdleBy K
  idle_settling = settles_by_lines IdleBy K idle_closed idle_in_refs idle_in_refs_under (λ p y m h. idle_then (tells_settles p y) (idle_then (idle_alter K (Settle y) p) h))

  idle_list : (vs : List (Value N)) → Idle (make_list K vs)
  unfolding make_list
  idle_list vs = idle_came vs (λ k. idle_give (Items k))

  pub idle_in_arrive_under : InArriveUnder IdleBy K
  idle_in_arrive_under = record { mails = idle_mail K; lists = idle_list; views = λ p q m h. idle_then (tells_views p q) (idle_then (idle_alter K (See q) p) h) }
