-- What evaluation has in hand, with its names changed by a function.
use Rattle.std.specs.Prelude.{map}
use Rattle.def_machine.specs.Native.{Reply, Says, Writes, Lists, Iterates, Fails, Asked, MakesList, Ranges, Same, Compares, Loops, SendsTo, CallsTo, MakesPromise, Breaks, Tells, Whens, ThrowsIt, IsStamped, Coerces, AddsNull, NoMethod}
use Rattle.def_machine.specs.Scopes.{Answer, Answers, AuditionAsk, GetsForm, GetsGuard, Asks, NoAuditionAsk, ResolverAsk, Resolves, Smashes, NoResolverAsk}
use Rattle.def_machine.specs.Maps.{value, scope}

module _ {N M : Type 0} (f : N → M) where
  abbrev pub answer : Answer N → Answer M
  answer x = record { value = value f x.value; scope = scope f x.scope }

  abbrev pub answers : Answers N → Answers M
  answers x = record { values = map (value f) x.values; scope = scope f x.scope }

  abbrev pub reply : Reply N → Reply M
  reply (Says v) = Says (value f v)
  reply (Writes t) = Writes t
  reply (Lists vs) = Lists (map (value f) vs)
  reply (Iterates o vs) = Iterates (value f o) (map (value f) vs)
  reply (Fails p) = Fails p

  abbrev pub asked : Asked N → Asked M
  asked (MakesList vs) = MakesList (map (value f) vs)
  asked (Ranges b x y) = Ranges b (value f x) (value f y)
  asked (Same x y) = Same (value f x) (value f y)
  asked (Compares t x y) = Compares t (value f x) (value f y)
  asked (Loops o) = Loops (value f o)
  asked (SendsTo only x v l) = SendsTo only (value f x) (value f v) (value f l)
  asked (CallsTo x v l) = CallsTo (value f x) (value f v) (value f l)
  asked MakesPromise = MakesPromise
  asked (Breaks x) = Breaks (value f x)
  asked (Tells t x) = Tells t (value f x)
  asked (Whens x o) = Whens (value f x) (value f o)
  asked (ThrowsIt x) = ThrowsIt (value f x)
  asked (IsStamped a x) = IsStamped (value f a) (value f x)
  asked (Coerces g x j) = Coerces g (value f x) (value f j)
  asked (AddsNull x) = AddsNull (value f x)
  asked NoMethod = NoMethod

  abbrev pub audition_ask : AuditionAsk N → AuditionAsk M
  audition_ask GetsForm = GetsForm
  audition_ask (GetsGuard x) = GetsGuard (value f x)
  audition_ask (Asks x) = Asks (value f x)
  audition_ask NoAuditionAsk = NoAuditionAsk

  abbrev pub resolver_ask : ResolverAsk N → ResolverAsk M
  resolver_ask (Resolves x) = Resolves (value f x)
  resolver_ask (Smashes x) = Smashes (value f x)
  resolver_ask NoResolverAsk = NoResolverAsk
