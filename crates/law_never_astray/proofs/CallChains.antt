-- A chain of calls of calls ends before its levels do: each goes on with a list that is a member of the one before, followed.
use Rattle.std.proofs.Common.{◌≡◌, ℕ, zero, suc, ◌+◌, List, [], ◌∷◌, codes, refl, subst, ◌∙◌, length, arith}
use Rattle.def_machine.specs.Values.{Words, Value, Naming, naming, numbering}
use Rattle.def_machine.specs.State.{Vat, Astray, stop, look, ◌>>=◌, and_then}
use Rattle.def_machine.specs.Refs.{follow}
use Rattle.def_machine.specs.Native as native
use Rattle.def_machine.specs.Native.{list_at, Guard, AnyGuard, VoidGuard, IntGuard, BooleanGuard, CharGuard, TextGuard, ListGuard, NullGuard, NearGuard, FrozenGuard, OrNull, Primitive, MakeList, Equalizer, Comparer, Looper, Sender, References, Thrower, StampReader, Guarding, Judging, NoPrimitive, Reply, asked, primitive}
use Rattle.def_machine.specs.Scopes as scopes
use Rattle.def_machine.specs.Scopes.{Evaluator, Caller}
use Rattle.def_machine.specs.Calls as calls
use Rattle.def_kernel.specs.declared.node.Node.{Node}
use Rattle.law_fate.specs.Name.Names.{AllOf}
use Rattle.law_fate.proofs.Name.Facts.{all_map}
use Rattle.law_machine.proofs.Natives.Natives.{entry_has}
use Rattle.law_never_astray.specs.Levels.{EndsIn, ListsEnd, call_by, CallsEnd}
use Rattle.law_never_astray.proofs.CallsAlike.{Alike, Agree, AgreeOn, ReplyAlike, AuditionAlike, AskedAlike, Suits, CallsAlike, each_reply, alike_call}
use Rattle.law_never_astray.proofs.CallsSpoken.{runs_suit, pairs_suit, audits_suit, ones_suit}

each_so : {A : Type 0} {P : A → Type 0} → ((x : A) → P x) → (xs : List A) → AllOf P xs
each_so f [] = tt
each_so f (x ∷ xs) = (f x, each_so f xs)

four : (n : ℕ) → suc (suc (suc (suc n))) ≡ 4 + n
four n = omega arith

module _ {N W : Type 0} (K : Naming N W) (tree : List Node) where
  -- ---- every call, where they agree on what is called and on the list of a call of calls

  module _ (a b : Caller N) (agree : Agree a b) (ones : (v : Value N) → AgreeOn a b (codes "run") (v ∷ [])) (calls : Value N → Type 0) where
    reply : (r : Reply N) → ReplyAlike a b r
    reply r = each_reply a b agree.pairs r

    guard_asks : (g : Guard) (verb : Words) (args : List (Value N)) → AskedAlike a b calls (native.guard_ask g verb args)
    unfolding native.guard_ask
    guard_asks g verb (x ∷ j ∷ []) = entry_has (AskedAlike a b calls) _ _ verb (ones, tt) tt
    guard_asks NullGuard verb (x ∷ []) = entry_has (AskedAlike a b calls) _ _ verb (reply, tt) tt
    guard_asks NullGuard verb [] = tt
    guard_asks NullGuard verb (x ∷ y ∷ z ∷ zs) = tt
    guard_asks other verb [] = tt
    guard_asks AnyGuard verb other = tt
    guard_asks VoidGuard verb other = tt
    guard_asks IntGuard verb other = tt
    guard_asks BooleanGuard verb other = tt
    guard_asks CharGuard verb other = tt
    guard_asks TextGuard verb other = tt
    guard_asks ListGuard verb other = tt
    guard_asks NearGuard verb other = tt
    guard_asks FrozenGuard verb other = tt
    guard_asks (OrNull g) verb other = tt

    pub each_ask : (p : Primitive) (verb : Words) (args : List (Value N)) → AllOf calls args → AskedAlike a b calls (asked p verb args)
    unfolding native.asked native.list_ask native.equalizer_ask native.comparer_ask native.run_ask native.send_ask native.ref_ask native.stamp_ask
    each_ask MakeList verb [] h = entry_has (AskedAlike a b calls) _ _ verb (tt, tt) tt
    each_ask MakeList verb (x ∷ []) h = entry_has (AskedAlike a b calls) _ _ verb (tt, tt) tt
    each_ask MakeList verb (x ∷ y ∷ []) h = entry_has (AskedAlike a b calls) _ _ verb (tt, (reply, (reply, tt))) tt
    each_ask MakeList verb (x ∷ y ∷ z ∷ zs) h = entry_has (AskedAlike a b calls) _ _ verb (tt, tt) tt
    each_ask Equalizer verb (x ∷ y ∷ []) h = entry_has (AskedAlike a b calls) _ _ verb (reply, tt) tt
    each_ask Equalizer verb (x ∷ y ∷ z ∷ zs) h = tt
    each_ask Comparer verb (x ∷ y ∷ []) h = entry_has (AskedAlike a b calls) _ _ verb (reply, (reply, (reply, (reply, (reply, tt))))) tt
    each_ask Comparer verb (x ∷ y ∷ z ∷ zs) h = tt
    each_ask Looper verb (x ∷ []) h = entry_has (AskedAlike a b calls) _ _ verb (agree.runs, tt) tt
    each_ask Looper verb (x ∷ y ∷ zs) h = tt
    each_ask Sender verb (x ∷ y ∷ l ∷ []) h = entry_has (AskedAlike a b calls) _ _ verb (tt, (tt, (h.1.1.0, tt))) tt
    each_ask References verb [] h = entry_has (AskedAlike a b calls) _ _ verb (tt, tt) tt
    each_ask References verb (x ∷ []) h = entry_has (AskedAlike a b calls) _ _ verb (reply, (reply, (reply, (reply, (reply, (reply, (reply, tt))))))) tt
    each_ask References verb (x ∷ y ∷ []) h = entry_has (AskedAlike a b calls) _ _ verb (tt, tt) tt
    each_ask References verb (x ∷ y ∷ z ∷ zs) h = tt
    each_ask Thrower verb (x ∷ []) h = entry_has (AskedAlike a b calls) _ _ verb (reply, tt) tt
    each_ask Thrower verb (x ∷ y ∷ zs) h = tt
    each_ask StampReader verb (x ∷ y ∷ []) h = entry_has (AskedAlike a b calls) _ _ verb (tt, tt) tt
    each_ask StampReader verb (x ∷ y ∷ z ∷ zs) h = tt
    each_ask (Guarding g) verb args h = guard_asks g verb args
    each_ask (Judging r) verb args h = tt
    each_ask NoPrimitive verb args h = tt
    each_ask other verb [] h = tt
    each_ask other verb (x ∷ []) h = tt
    each_ask Sender verb other h = tt

    pub each_audition : (verb : Words) (args : List (Value N)) → AuditionAlike a b (scopes.audition_ask verb args)
    unfolding scopes.audition_ask
    each_audition verb [] = entry_has (AuditionAlike a b) _ _ verb (tt, tt) tt
    each_audition verb (x ∷ []) = entry_has (AuditionAlike a b) _ _ verb (reply, (agree.audits, tt)) tt
    each_audition verb (x ∷ y ∷ ys) = tt

  each_suits : (a b : Caller N) → Agree a b → ((v : Value N) → AgreeOn a b (codes "run") (v ∷ [])) → (s : Vat N) (verb : Words) (args : List (Value N)) → AllOf (CallsAlike K tree a b s) args → Suits K tree a b s verb args
  each_suits a b agree ones s verb args h = record {
    asks = λ n. each_ask a b agree ones (CallsAlike K tree a b s) (primitive n) verb args h;
    replies = λ t y. each_reply a b agree.pairs _;
    auditions = each_audition a b agree ones (CallsAlike K tree a b s) verb args;
  }

  module _ (rec : Evaluator N) where
    -- ---- levels over two callers

    module _ (o q : Caller N) where
      abbrev Left : ℕ → Caller N
      Left d = λ act x verb args. call_by K tree o d rec act x verb args

      abbrev Right : ℕ → Caller N
      Right d = λ act x verb args. call_by K tree q d rec act x verb args

      agree_at : (d : ℕ) → Agree (Left (suc d)) (Right (suc d))
      unfolding call_by
      agree_at d = record {
        pairs = λ v w act x. record { at = λ s. alike_call K tree (Left d) (Right d) rec act x (codes "run") (v ∷ w ∷ []) s (pairs_suit K tree (Left d) (Right d) s v w) };
        runs = λ act x. record { at = λ s. alike_call K tree (Left d) (Right d) rec act x (codes "run") [] s (runs_suit K tree (Left d) (Right d) s) };
        audits = λ v act x. record { at = λ s. alike_call K tree (Left d) (Right d) rec act x (codes "audit") (v ∷ []) s (audits_suit K tree (Left d) (Right d) s v) };
      }

      ones_at : (d : ℕ) (v : Value N) → AgreeOn (Left (suc (suc d))) (Right (suc (suc d))) (codes "run") (v ∷ [])
      unfolding call_by
      ones_at d v act x = record { at = λ s. alike_call K tree (Left (suc d)) (Right (suc d)) rec act x (codes "run") (v ∷ []) s (ones_suit K tree (Left (suc d)) (Right (suc d)) (agree_at d) s v) }

      each_at : (d : ℕ) (s : Vat N) (act : ℕ) (x : Value N) (verb : Words) (args : List (Value N)) → AllOf (CallsAlike K tree (Left (suc (suc d))) (Right (suc (suc d))) s) args
          → call_by K tree o (suc (suc (suc d))) rec act x verb args s ≡ call_by K tree q (suc (suc (suc d))) rec act x verb args s
      unfolding call_by
      each_at d s act x verb args h = alike_call K tree (Left (suc (suc d))) (Right (suc (suc d))) rec act x verb args s (each_suits (Left (suc (suc d))) (Right (suc (suc d))) (agree_at (suc d)) (ones_at d) s verb args h)

      -- from arguments whose lists end in so many steps
      chain : (m : ℕ) (s : Vat N) (args : List (Value N)) → AllOf (λ v. EndsIn K m s (follow K s v)) args → (act : ℕ) (x : Value N) (verb : Words)
          → call_by K tree o (suc (suc (suc (suc m)))) rec act x verb args s ≡ call_by K tree q (suc (suc (suc (suc m)))) rec act x verb args s
      chain zero s args h act x verb = each_at 1 s act x verb args (all_map (λ v i. λ k e act y w. none k (rw e at i) act y w) args h)
        where
          none : (k : ℕ) → list_at s.lists k ≡ [] → (act : ℕ) (y : Value N) (w : Words) → call_by K tree o 3 rec act y w (list_at s.lists k) s ≡ call_by K tree q 3 rec act y w (list_at s.lists k) s
          none k e act y w = rw e (each_at 0 s act y w [] tt)
      chain (suc m) s args h act x verb = each_at (suc (suc m)) s act x verb args (all_map (λ v i. λ k e act y w. chain m s (list_at s.lists k) (rw e at i) act y w) args h)

    -- the machine's own call goes astray there
    lost : Caller N
    lost act x verb args = stop Astray

    is_call : (d act : ℕ) (x : Value N) (verb : Words) (args : List (Value N)) → Alike (call_by K tree lost d rec act x verb args) (calls.call_at K tree d rec act x verb args)
    unfolding call_by calls.call_at lost
    is_call zero act x verb args = record { at = λ s. refl }
    is_call (suc d) act x verb args = let all = is_call d in let A : Caller N = λ a y v xs. call_by K tree lost d rec a y v xs in let B : Caller N = λ a y v xs. calls.call_at K tree d rec a y v xs in record {
      at = λ s. alike_call K tree A B rec act x verb args s (each_suits A B (record { pairs = λ v w a y. all a y (codes "run") (v ∷ w ∷ []); runs = λ a y. all a y (codes "run") []; audits = λ v a y. all a y (codes "audit") (v ∷ []) }) (λ v a y. all a y (codes "run") (v ∷ [])) s verb args
          (each_so (λ v. λ k e a y w. (all a y w (list_at s.lists k)).at s) args));
    }

    pub suffice : (other : Caller N) (s : Vat N) → ListsEnd K s → (act : ℕ) (x : Value N) (verb : Words) (args : List (Value N)) → call_by K tree other (4 + length s.lists) rec act x verb args s ≡ calls.call K tree rec act x verb args s
    unfolding calls.call look ◌>>=◌ and_then
    suffice other s h act x verb args = subst (λ d. call_by K tree other d rec act x verb args s ≡ call_by K tree lost d rec act x verb args s) (four (length s.lists)) (chain other lost (length s.lists) s args (each_so (λ v. h (follow K s v)) args) act x verb) ∙ (is_call (4 + length s.lists) act x verb args).at s

pub calls_end : CallsEnd
calls_end = (λ word v tree rec. suffice (naming word v) tree rec, λ word tree rec. suffice (numbering word) tree rec)
