-- What the calls that the machine makes by itself need: a loop and an iteration, the asking of an auditor, and a failing.
use Rattle.std.proofs.Common.{ℕ, List, [], ◌∷◌, Option, Some, None, codes}
use Rattle.std.specs.Str.{chars}
use Rattle.def_machine.specs.Values.{Value, Null, Number, Text, Items, Naming}
use Rattle.def_machine.specs.State.{Vat}
use Rattle.def_machine.specs.Refs.{follow}
use Rattle.def_machine.specs.Free.{entry, same_words}
use Rattle.def_machine.specs.Native as native
use Rattle.def_machine.specs.Native.{Reply, Writes, Lists, Guard, AnyGuard, VoidGuard, IntGuard, BooleanGuard, CharGuard, TextGuard, ListGuard, NullGuard, NearGuard, FrozenGuard, OrNull, Primitive, MakeList, Looper, Thrower, Guarding, asked, primitive, data_reply}
use Rattle.def_machine.specs.Scopes as scopes
use Rattle.def_machine.specs.Scopes.{Caller}
use Rattle.def_kernel.specs.declared.node.Node.{Node}
use Rattle.law_never_astray.proofs.CallsAlike.{Agree, ReplyAlike, AskedAlike, Suits, CallsAlike, each_reply}

module _ {N W : Type 0} (K : Naming N W) (tree : List Node) (a b : Caller N) where
  -- ---- a slice is no iteration

  ran_at_alike : {A : Type 0} (f : List A → Reply N) → ((xs : List A) → ReplyAlike a b (f xs)) → (xs : List A) (o : Option (ℕ × ℕ)) → ReplyAlike a b (native.ran_at f xs o)
  unfolding native.ran_at
  ran_at_alike f h xs None = tt
  ran_at_alike f h xs (Some r) = h _

  ran_alike : {A : Type 0} (f : List A → Reply N) → ((xs : List A) → ReplyAlike a b (f xs)) → (xs : List A) (i j : Value N) → ReplyAlike a b (native.ran f xs i j)
  unfolding native.ran
  ran_alike f h xs (Number i) (Number j) = ran_at_alike f h xs _
  ran_alike f h xs i j = tt

  -- ---- run of no argument, and of two

  runs_ask : (calls : Value N → Type 0) (p : Primitive) → AskedAlike a b calls (asked p (codes "run") [])
  unfolding native.asked native.list_ask native.equalizer_ask native.comparer_ask native.run_ask native.send_ask native.ref_ask native.stamp_ask native.guard_ask entry same_words
  runs_ask calls (Guarding g) = go g
    where
      go : (g : Guard) → AskedAlike a b calls (native.guard_ask g (codes "run") [])
      go NullGuard = tt
      go AnyGuard = tt
      go VoidGuard = tt
      go IntGuard = tt
      go BooleanGuard = tt
      go CharGuard = tt
      go TextGuard = tt
      go ListGuard = tt
      go NearGuard = tt
      go FrozenGuard = tt
      go (OrNull g) = tt
  runs_ask calls other = tt

  runs_data : (ls : List (List (Value N))) (y : Value N) → ReplyAlike a b (data_reply ls y (codes "run") [] [])
  unfolding native.data_reply native.int_reply native.int_alone native.int_unary native.flag_reply native.letter_reply native.text_reply native.list_reply native.no_method entry same_words
  runs_data ls Null = tt
  runs_data ls other = tt

  pub runs_suit : (s : Vat N) → Suits K tree a b s (codes "run") []
  unfolding scopes.audition_ask entry same_words
  runs_suit s = record { asks = λ n. runs_ask (CallsAlike K tree a b s) (primitive n); replies = λ t y. runs_data t.lists y; auditions = tt }

  pairs_ask : (calls : Value N → Type 0) (p : Primitive) (v w : Value N) → AskedAlike a b calls (asked p (codes "run") (v ∷ w ∷ []))
  unfolding native.asked native.list_ask native.equalizer_ask native.comparer_ask native.run_ask native.send_ask native.ref_ask native.stamp_ask native.guard_ask entry same_words
  pairs_ask calls MakeList v w = tt
  pairs_ask calls other v w = tt

  pairs_data : (ls : List (List (Value N))) (y v w p q : Value N) → ReplyAlike a b (data_reply ls y (codes "run") (p ∷ q ∷ []) (v ∷ w ∷ []))
  unfolding native.data_reply native.int_reply native.flag_reply native.letter_reply native.text_reply native.list_reply native.no_method entry same_words
  pairs_data ls (Text t) v w p q = ran_alike {A = ℕ} (λ cs. Writes (native.encoded cs)) (λ cs. tt) (chars t) v w
  pairs_data ls (Items k) v w p q = ran_alike {A = Value N} Lists (λ vs. tt) (native.list_at ls k) v w
  pairs_data ls other v w p q = tt

  pub pairs_suit : (s : Vat N) (v w : Value N) → Suits K tree a b s (codes "run") (v ∷ w ∷ [])
  unfolding scopes.audition_ask
  pairs_suit s v w = record { asks = λ n. pairs_ask (CallsAlike K tree a b s) (primitive n) v w; replies = λ t y. pairs_data t.lists y (follow K t v) (follow K t w) v w; auditions = tt }

  -- ---- the asking of an auditor

  audits_ask : (calls : Value N → Type 0) (p : Primitive) (v : Value N) → AskedAlike a b calls (asked p (codes "audit") (v ∷ []))
  unfolding native.asked native.list_ask native.equalizer_ask native.comparer_ask native.run_ask native.send_ask native.ref_ask native.stamp_ask native.guard_ask entry same_words
  audits_ask calls (Guarding g) v = go g
    where
      go : (g : Guard) → AskedAlike a b calls (native.guard_ask g (codes "audit") (v ∷ []))
      go NullGuard = tt
      go AnyGuard = tt
      go VoidGuard = tt
      go IntGuard = tt
      go BooleanGuard = tt
      go CharGuard = tt
      go TextGuard = tt
      go ListGuard = tt
      go NearGuard = tt
      go FrozenGuard = tt
      go (OrNull g) = tt
  audits_ask calls other v = tt

  audits_data : (ls : List (List (Value N))) (y v w : Value N) → ReplyAlike a b (data_reply ls y (codes "audit") (v ∷ []) (w ∷ []))
  unfolding native.data_reply native.int_reply native.int_with native.int_binary native.flag_reply native.flag_with native.flag_binary native.letter_reply native.text_reply native.text_with native.text_verb native.list_reply native.list_with native.list_verb native.no_method entry same_words
  audits_data ls Null v w = tt
  audits_data ls other v w = tt

  pub audits_suit : (s : Vat N) (v : Value N) → Suits K tree a b s (codes "audit") (v ∷ [])
  unfolding scopes.audition_ask entry same_words
  audits_suit s v = record { asks = λ n. audits_ask (CallsAlike K tree a b s) (primitive n) v; replies = λ t y. audits_data t.lists y v (follow K t v); auditions = tt }

  -- ---- a failing, and each call that is none of calls, where they agree on these

  module _ (agree : Agree a b) where
    any_reply : (r : Reply N) → ReplyAlike a b r
    any_reply r = each_reply a b agree.pairs r

    ones_ask : (calls : Value N → Type 0) (p : Primitive) (v : Value N) → AskedAlike a b calls (asked p (codes "run") (v ∷ []))
    unfolding native.asked native.list_ask native.equalizer_ask native.comparer_ask native.run_ask native.send_ask native.ref_ask native.stamp_ask native.guard_ask entry same_words
    ones_ask calls Looper v = agree.runs
    ones_ask calls Thrower v = any_reply
    ones_ask calls (Guarding g) v = go g
      where
        go : (g : Guard) → AskedAlike a b calls (native.guard_ask g (codes "run") (v ∷ []))
        go NullGuard = tt
        go AnyGuard = tt
        go VoidGuard = tt
        go IntGuard = tt
        go BooleanGuard = tt
        go CharGuard = tt
        go TextGuard = tt
        go ListGuard = tt
        go NearGuard = tt
        go FrozenGuard = tt
        go (OrNull g) = tt
    ones_ask calls other v = tt

    pub ones_suit : (s : Vat N) (v : Value N) → Suits K tree a b s (codes "run") (v ∷ [])
    unfolding scopes.audition_ask entry same_words
    ones_suit s v = record { asks = λ n. ones_ask (CallsAlike K tree a b s) (primitive n) v; replies = λ t y. any_reply _; auditions = tt }
