-- What arrives leads as references lead, where each message that came has a good answer here.
use Rattle.std.proofs.Common.{ℕ, Bool, List, [], ◌∷◌, ◌++◌, Option, Some, None, length}
use Rattle.def_machine.specs.Values.{Words, Value, Naming, IsAnswer, IsCarried}
use Rattle.def_machine.specs.State.{Passeds, Vat, Act, ◌>>=◌, and_then, look, come, mail}
use Rattle.def_machine.specs.Refs as refs
use Rattle.def_machine.specs.Arrive as arrive
use Rattle.def_machine.specs.Arrive.{Incoming, New}
use Rattle.law_reference.proofs.Reference.Gentle.{GivesBy, Gentle, widen, goes_bind, goes_then, goes_if}
use Rattle.law_reference.proofs.Reference.Calm.{IsCalm, CalmWith, calm_to_tell}
use Rattle.law_reference.proofs.Reference.RefsCalm.{Minds, PassesBy, WaitsBy, calm_settle, calm_resolve, calm_send, calm_send_only, calm_react, calm_send_on, calm_inform}
use Rattle.law_reference.proofs.Reference.StepsGo.{Refers, goes_learn_name, goes_learn_all}

module _ {N W : Type 0} (K : Naming N W) (G : N → Option N → Type 0) (Far : ℕ → Type 0) (R : Vat N → Vat N → Type 0) (law : IsCalm K G R) (minds : Minds K G Far R) (passes : PassesBy K G Far R) (waits : WaitsBy K R) where
  pub calm_refers : Refers K R
  calm_refers = record {
    tells = calm_to_tell K G R law;
    informs = calm_inform K G R law;
    settles = calm_settle K G Far R law minds passes;
    resolves = calm_resolve K G Far R law minds passes waits;
    sends = calm_send K G Far R law minds passes waits;
    sends_only = calm_send_only K G Far R law minds passes waits;
    reacts = calm_react K G Far R law minds passes waits;
  }

  mailed_then : (m : W) (f : N → Act N (Unit {0})) → ((k : ℕ) → Gentle R (f (K.mailed (IsCarried m) k))) → Gentle R (mail K (IsCarried m) >>= f)
  unfolding ◌>>=◌ mail and_then
  mailed_then m f g = record { after = λ s. widen K (CalmWith G) R law (law.mailed s (IsCarried m)) (f (K.mailed (IsCarried m) (length s.mails)) (record s { mails = s.mails ++ K.mailed (IsCarried m) (length s.mails) ∷ [] })) ((g (length s.mails)).after _) }

  numbered_then : (f : ℕ → Act N (Unit {0})) → ((s : Vat N) → GivesBy R s (f s.number s)) → Gentle R (look (λ (s : Vat N). s.number) >>= f)
  unfolding ◌>>=◌ look and_then
  numbered_then f g = record { after = g }

  -- the answer here of a message that came so is good
  abbrev pub AnswersHere : W → Type 0
  AnswersHere m = (s : Vat N) (k : ℕ) (f : N → Act N (Unit {0})) → ((a : N) → G (K.mailed (IsCarried m) k) (Some a) → Gentle R (f a)) → GivesBy R s ((come K (IsAnswer s.number (K.mailed (IsCarried m) k)) s.number >>= f) s)

  send_asked : (from : ℕ) (m : W) (k : ℕ) → AnswersHere m → (n : N) (verb : Words) (args : List (Value N)) → Gentle R (arrive.send_on_asked K from (K.mailed (IsCarried m) k) n verb args)
  unfolding arrive.send_on_asked
  send_asked from m k good n verb args = numbered_then _ (λ s. good s k _ (λ a g.
      goes_then K (CalmWith G) R law (calm_to_tell K G R law from a) (calm_send_on K G Far R law minds passes (refs.settle K) (λ p y. calm_settle K G Far R law minds passes p y) _ g)))

  pub calm_arrive_deliver : (from : ℕ) (m : W) (h : ℕ) (asks : Bool) → AnswersHere m → ((k : ℕ) → G (K.mailed (IsCarried m) k) None) → (x : Incoming N W) (verb : Words) (ys : Passeds (Incoming N W)) → Gentle R (arrive.arrive_deliver K from (record { message = New m h; asks = asks; answer = None }) x verb ys)
  unfolding arrive.arrive_deliver arrive.learn_message
  calm_arrive_deliver from m h asks good lone x verb ys = mailed_then m _ (λ k. goes_bind K (CalmWith G) R law (goes_learn_all K (CalmWith G) R law calm_refers from ys) (λ args. goes_bind K (CalmWith G) R law (goes_learn_name K (CalmWith G) R law calm_refers x) (λ n.
      goes_if K (CalmWith G) R law asks (send_asked from m k good n verb args) (calm_send_on K G Far R law minds passes (refs.settle K) (λ p y. calm_settle K G Far R law minds passes p y) _ (lone k)))))
