-- What is asked of primitives, in the terms of the code, is what is asked in the machine.
use Rattle.std.proofs.Common.{◌≡◌, ℕ, Bool, true, false, List, [], ◌∷◌, refl}
use Rattle.std.specs.Prelude.{codes, if◌then◌else◌, Option, Some, None}
use Rattle.std.specs.Str.{bytes_eq}
use Rattle.ev_base.specs.declared.values.Value.{Value as Held}
use Rattle.def_machine.specs.Free.{entry, same_words}
use Rattle.def_machine.specs.Native as native
use Rattle.def_machine.specs.Values.{Words}
use Rattle.ev_prims.specs.Asking.{asked_with}
use Rattle.ev_prims.specs.Asks.{where_named, tells, ref_two, guard_one, numbered, primitive_at, asks_none, asks_one, asks_two, asks_three, asks_more, asked_by, asked_of}
use Rattle.ev_prims.specs.Forms.{args_of}
use Rattle.ev_prims.specs.Reading.{value_by, values_by}
use Rattle.ev_prims.specs.declared.asking.Asked.{Asked}
use Rattle.ev_prims.specs.declared.asking.Asked.TheVariants as ask
use Rattle.ev_prims.specs.declared.asking.RefTest.{RefTest}
use Rattle.ev_prims.specs.Verbs.{ref_test_named}
use Rattle.ev_prims.specs.Primitives.{guard_in, primitive_in, rule_in}
use Rattle.ev_prims.specs.declared.primitives.Rule.{Rule}
use Rattle.ev_prims.specs.declared.primitives.Guard.{Guard}
use Rattle.ev_prims.specs.declared.primitives.Kind.{Kind}
use Rattle.ev_prims.specs.declared.primitives.Kind.TheVariants as kind
use Rattle.ev_prims.specs.declared.primitives.Primitive.{Primitive}
use Rattle.ev_prims.specs.declared.primitives.Primitive.TheVariants.{MakeList, Equalizer, Comparer, Looper, Sender, References, Thrower, StampReader, Guarding, Judging, NoPrimitive}
use Rattle.ev_prims.proofs.AskMeans.{asks_list, asks_comparer, asks_looper, asks_thrower}
use Rattle.ev_prims.proofs.VerbLemmas as verbs

where_is : (t : ℕ → Words) (xs : List Held) (name : Words) (a : Asked) (verb : Words) → entry ((name, asked_with t xs a) ∷ []) native.NoMethod verb ≡ asked_with t xs (where_named name a verb)
where_is t xs name a verb = verbs.by_table (asked_with t xs) ((name, a) ∷ []) ask.NoMethod verb

equalizer_asked : (t : ℕ → Words) (verb : Words) (xs : List Held) → native.equalizer_ask verb (values_by t xs) ≡ asked_with t xs (asked_of 1 verb xs)
unfolding native.equalizer_ask args_of primitive_at numbered asks_none asks_one asks_two asks_three asks_more asked_by
equalizer_asked t verb (a ∷ b ∷ []) = where_is t (a ∷ b ∷ []) (codes "sameEver") (ask.Same a b) verb
equalizer_asked t verb (a ∷ b ∷ c ∷ []) = refl
equalizer_asked t verb other = refl

module _ (t : ℕ → Words) (verb : Words) where
  -- ---- sends, and what is asked of references

  three_is : (a b c : Held) (p q r : Bool)
      → elim p [
        | true ↦ native.SendsTo false (value_by t a) (value_by t b) (value_by t c)
        | false ↦
            elim q [
              | true ↦ native.SendsTo true (value_by t a) (value_by t b) (value_by t c)
              | false ↦
                  elim r [ true ↦ native.CallsTo (value_by t a) (value_by t b) (value_by t c) | false ↦ native.NoMethod ]
            ]
      ]
      ≡ asked_with t (a ∷ b ∷ c ∷ []) (if p then ask.SendsTo false a b c else if q then ask.SendsTo true a b c else if r then ask.CallsTo a b c else ask.NoMethod)
  three_is a b c true q r = refl
  three_is a b c false true r = refl
  three_is a b c false false true = refl
  three_is a b c false false false = refl

  sender_asked : (xs : List Held) → native.send_ask verb (values_by t xs) ≡ asked_with t xs (asked_by Sender verb (args_of xs))
  unfolding native.send_ask entry args_of asks_none asks_one asks_two asks_three asks_more asked_by
  sender_asked (a ∷ b ∷ c ∷ []) = three_is a b c (same_words (codes "send") verb) (same_words (codes "sendOnly") verb) (same_words (codes "call") verb)
  sender_asked other = refl

  told_is : (a : Held) (b : Bool) (o : Option RefTest) → bytes_eq verb (codes "broken") ≡ b → ref_test_named verb ≡ o
      → native.ref_ask verb (value_by t a ∷ []) ≡ asked_with t (a ∷ []) (if b then ask.Breaks a else tells o a)
  told_is a true o e f = verbs.ref_ask_breaks verb (value_by t a) e
  told_is a false (Some r) e f = verbs.ref_ask_test verb (value_by t a) r e f
  told_is a false None e f = verbs.ref_ask_none verb (value_by t a) e f

  when_is : (a b : Held) (p : Bool)
      → elim p [ true ↦ native.Whens (value_by t a) (value_by t b) | false ↦ native.NoMethod ] ≡ asked_with t (a ∷ b ∷ []) (if p then ask.Whens a b else ask.NoMethod)
  when_is a b true = refl
  when_is a b false = refl

  two_asked : (a b : Held) → native.ref_ask verb (value_by t a ∷ value_by t b ∷ []) ≡ asked_with t (a ∷ b ∷ []) (ref_two verb a b)
  unfolding native.ref_ask entry
  two_asked a b = when_is a b (same_words (codes "whenResolved") verb)

  none_asked : native.ref_ask verb [] ≡ asked_with t [] (where_named (codes "promise") ask.MakesPromise verb)
  unfolding native.ref_ask
  none_asked = where_is t [] (codes "promise") ask.MakesPromise verb

  many_asked : (a b c : Held) (xs : List Held) → native.ref_ask verb (values_by t (a ∷ b ∷ c ∷ xs)) ≡ native.NoMethod
  unfolding native.ref_ask
  many_asked a b c xs = refl

  references_asked : (xs : List Held) → native.ref_ask verb (values_by t xs) ≡ asked_with t xs (asked_by References verb (args_of xs))
  unfolding args_of asks_none asks_one asks_two asks_three asks_more asked_by
  references_asked [] = none_asked
  references_asked (a ∷ []) = told_is a (bytes_eq verb (codes "broken")) (ref_test_named verb) refl refl
  references_asked (a ∷ b ∷ []) = two_asked a b
  references_asked (a ∷ b ∷ c ∷ []) = many_asked a b c []
  references_asked (a ∷ b ∷ c ∷ d ∷ xs) = many_asked a b c (d ∷ xs)

  -- ---- stamps, and what answers nothing

  stamps_asked : (xs : List Held) → native.stamp_ask verb (values_by t xs) ≡ asked_with t xs (asked_by StampReader verb (args_of xs))
  unfolding native.stamp_ask args_of asks_none asks_one asks_two asks_three asks_more asked_by
  stamps_asked (a ∷ b ∷ []) = where_is t (a ∷ b ∷ []) (codes "run") (ask.IsStamped a b) verb
  stamps_asked (a ∷ b ∷ c ∷ []) = refl
  stamps_asked other = refl

  judging_asked : (r : Rule) (xs : List Held) → asked_by (Judging r) verb (args_of xs) ≡ ask.NoMethod
  unfolding args_of asks_none asks_one asks_two asks_three asks_more asked_by
  judging_asked r [] = refl
  judging_asked r (a ∷ []) = refl
  judging_asked r (a ∷ b ∷ []) = refl
  judging_asked r (a ∷ b ∷ c ∷ []) = refl
  judging_asked r (a ∷ b ∷ c ∷ d ∷ xs) = refl

  nothing_asked : (xs : List Held) → asked_by NoPrimitive verb (args_of xs) ≡ ask.NoMethod
  unfolding args_of asks_none asks_one asks_two asks_three asks_more asked_by
  nothing_asked [] = refl
  nothing_asked (a ∷ []) = refl
  nothing_asked (a ∷ b ∷ []) = refl
  nothing_asked (a ∷ b ∷ c ∷ []) = refl
  nothing_asked (a ∷ b ∷ c ∷ d ∷ xs) = refl

  -- ---- guards

  kind_asked : (k : Kind) (b : Bool) (a : Held)
      → native.guard_ask (guard_in (record { kind = k; or_null = b })) verb (value_by t a ∷ []) ≡ asked_with t (a ∷ []) (guard_one (record { kind = k; or_null = b }) verb a)
  unfolding native.guard_ask
  kind_asked k true a = refl
  kind_asked kind.Null false a = where_is t (a ∷ []) (codes "get") (ask.AddsNull a) verb
  kind_asked other false a = refl

  guard_asked : (g : Guard) (xs : List Held) → native.guard_ask (guard_in g) verb (values_by t xs) ≡ asked_with t xs (asked_by (Guarding g) verb (args_of xs))
  unfolding native.guard_ask args_of asks_none asks_one asks_two asks_three asks_more asked_by
  guard_asked g (a ∷ []) = kind_asked g.kind g.or_null a
  guard_asked g (a ∷ b ∷ []) = where_is t (a ∷ b ∷ []) (codes "coerce") (ask.Coerces g a b) verb
  guard_asked g (a ∷ b ∷ c ∷ []) = refl
  guard_asked g other = refl

  -- ---- each primitive

  list_is : (xs : List Held) → native.asked native.MakeList verb (values_by t xs) ≡ asked_with t xs (asked_by MakeList verb (args_of xs))
  unfolding native.primitive native.numbered native.primitives primitive_at numbered
  list_is xs = asks_list t verb xs

  equalizer_is : (xs : List Held) → native.asked native.Equalizer verb (values_by t xs) ≡ asked_with t xs (asked_by Equalizer verb (args_of xs))
  unfolding native.asked primitive_at numbered
  equalizer_is xs = equalizer_asked t verb xs

  comparer_is : (xs : List Held) → native.asked native.Comparer verb (values_by t xs) ≡ asked_with t xs (asked_by Comparer verb (args_of xs))
  unfolding native.primitive native.numbered native.primitives primitive_at numbered
  comparer_is xs = asks_comparer t verb xs

  looper_is : (xs : List Held) → native.asked native.Looper verb (values_by t xs) ≡ asked_with t xs (asked_by Looper verb (args_of xs))
  unfolding native.primitive native.numbered native.primitives primitive_at numbered
  looper_is xs = asks_looper t verb xs

  thrower_is : (xs : List Held) → native.asked native.Thrower verb (values_by t xs) ≡ asked_with t xs (asked_by Thrower verb (args_of xs))
  unfolding native.primitive native.numbered native.primitives primitive_at numbered
  thrower_is xs = asks_thrower t verb xs

  sender_is : (xs : List Held) → native.asked native.Sender verb (values_by t xs) ≡ asked_with t xs (asked_by Sender verb (args_of xs))
  unfolding native.asked
  sender_is xs = sender_asked xs

  references_is : (xs : List Held) → native.asked native.References verb (values_by t xs) ≡ asked_with t xs (asked_by References verb (args_of xs))
  unfolding native.asked
  references_is xs = references_asked xs

  guarding_is : (g : Guard) (xs : List Held) → native.asked (native.Guarding (guard_in g)) verb (values_by t xs) ≡ asked_with t xs (asked_by (Guarding g) verb (args_of xs))
  unfolding native.asked
  guarding_is g xs = guard_asked g xs

  stamps_is : (xs : List Held) → native.asked native.StampReader verb (values_by t xs) ≡ asked_with t xs (asked_by StampReader verb (args_of xs))
  unfolding native.asked
  stamps_is xs = stamps_asked xs

  judging_is : (r : Rule) (xs : List Held) → native.asked (native.Judging (rule_in r)) verb (values_by t xs) ≡ asked_with t xs (asked_by (Judging r) verb (args_of xs))
  unfolding native.asked
  judging_is r xs = rw (judging_asked r xs) refl

  nothing_is : (xs : List Held) → native.asked native.NoPrimitive verb (values_by t xs) ≡ asked_with t xs (asked_by NoPrimitive verb (args_of xs))
  unfolding native.asked
  nothing_is xs = rw (nothing_asked xs) refl

  pub asked_is : (p : Primitive) (xs : List Held) → native.asked (primitive_in p) verb (values_by t xs) ≡ asked_with t xs (asked_by p verb (args_of xs))
  asked_is MakeList xs = list_is xs
  asked_is Equalizer xs = equalizer_is xs
  asked_is Comparer xs = comparer_is xs
  asked_is Looper xs = looper_is xs
  asked_is Sender xs = sender_is xs
  asked_is References xs = references_is xs
  asked_is Thrower xs = thrower_is xs
  asked_is StampReader xs = stamps_is xs
  asked_is (Guarding g) xs = guarding_is g xs
  asked_is (Judging r) xs = judging_is r xs
  asked_is NoPrimitive xs = nothing_is xs
