-- What a send, a reaction and a new promise add to what names hold and to what reacts on them, and the lines that they tell.
use Rattle.std.proofs.Common.{◌≡◌, ℕ, suc, false, List, [], ◌∷◌, ◌++◌, refl, subst}
use Rattle.def_machine.specs.Values.{Words, Value, Null, Ref, Name, Answer, Sent, Naming, naming, name_of, mail_of, answer_of}
use Rattle.def_machine.specs.State.{Message, Happened, Sends, Reacts, Vat, Done, Gives, ◌>>=◌, ◌>>◌, and_then, give, look, tell, enqueue, alter, new_message, new_lone_message, begun}
use Rattle.def_machine.specs.Refs as refs
use Rattle.def_machine.specs.Refs.{Place, Near, Mine, Away, Gone}
use Rattle.def_run.specs.World.{Script, names}
use Rattle.law_order.specs.Ordering.Worlds.{IfGives}
use Rattle.law_order.specs.History.Sends.{lone_message, lone_numbered, asking_message, asking_numbered}
use Rattle.law_order.proofs.TurnTales.Puts.{Puts, Does, puts_same, puts_begun, puts_hold, puts_react, does_then, does_nothing_more, deliver_does}

-- no message
abbrev pub NoMessage : Message Name → Type 0
NoMessage m = ⊥

-- that message, on whatever target and with whatever answer
abbrev pub IsOf : Message Name → Message Name → Type 0
IsOf f m = (m.id ≡ f.id) × (m.args ≡ f.args)

-- it has that name
abbrev pub IsNamed : Name → Message Name → Type 0
IsNamed id m = m.id ≡ id

module _ (script : Script) (v act : ℕ) (s : Vat Name) where
  abbrev K : Naming Name Name
  K = names script v

  gives_then : {A : Type 0} (H R : Message Name → Type 0) (first : List (Happened Name)) (q : Vat Name) → Puts script v H R s q → q.happened ≡ s.happened ++ first → (d : Done Name (Unit {0})) (y : A) → IfGives (λ t. Does script v H R [] q t) d → IfGives (λ t. Does script v H R first s t) (and_then d (λ _. give y))
  unfolding and_then give
  gives_then H R first q g e (Gives b t) y h = does_then script v H R first s q t g e h
  gives_then H R first q g e other y h = tt

  -- ---- a send

  first_does : (f : Message Name) (y : Value Name) (q : Vat Name) (p : Place Name) → ((t : Words) → p ≡ Gone t → ⊥) → IfGives (λ t. Does script v (IsOf f) NoMessage [] q t) (refs.send_first K f y p q)
  unfolding refs.send_first refs.send_to enqueue alter
  first_does f y q Near free = does_nothing_more script v (IsOf f) NoMessage q _ (puts_same script v (IsOf f) NoMessage q _ refl) refl
  first_does f y q (Mine n) free = does_nothing_more script v (IsOf f) NoMessage q _ (puts_hold script v (IsOf f) NoMessage (record f { target = y }) (refl, refl) n q _ refl) refl
  first_does f y q (Away h n o) free = deliver_does script v (IsOf f) NoMessage f h n q
  first_does f y q (Gone t) free = absurd (free t refl)

  module _ (x : Value Name) (verb : Words) (args : List (Value Name)) where
    abbrev To : Value Name
    To = refs.follow K s x

    abbrev Lone : Message Name
    Lone = lone_message v s x verb args

    lone_puts : (H R : Message Name → Type 0) → Puts script v H R s (lone_numbered act s Lone)
    lone_puts H R = puts_same script v H R s (lone_numbered act s Lone) refl

    abbrev Host : ℕ
    Host = refs.answer_host K s.number (refs.place K s To)

    asking_puts : (H R : Message Name → Type 0) (g : ℕ) → Puts script v H R s (asking_numbered v act g s (asking_message v g s x verb args))
    asking_puts H R g = puts_begun script v H R (Answer g (record { sender = v; number = s.messages })) g s (asking_numbered v act g s (asking_message v g s x verb args)) refl

    module _ (free : (t : Words) → refs.place K s To ≡ Gone t → ⊥) where
      lone_gives : IfGives (λ t. Does script v (IsOf Lone) NoMessage (Sends act Lone ∷ []) s t) (refs.send_only K act x verb args s)
      unfolding refs.send_only ◌>>=◌ ◌>>◌ and_then look tell new_lone_message names naming mail_of
      lone_gives = gives_then (IsOf Lone) NoMessage (Sends act Lone ∷ []) (lone_numbered act s Lone) (lone_puts (IsOf Lone) NoMessage) refl (refs.send_first K (record Lone { target = To }) To (refs.place K s To) (lone_numbered act s Lone)) Null
          (first_does (record Lone { target = To }) To (lone_numbered act s Lone) (refs.place K s To) free)

      asking_gives : let m : Message Name = asking_message v Host s x verb args in IfGives (λ t. Does script v (IsOf m) NoMessage (Sends act m ∷ []) s t) (refs.send K act x verb args s)
      unfolding refs.send ◌>>=◌ ◌>>◌ and_then look tell new_message names naming name_of answer_of mail_of
      asking_gives = let m : Message Name = asking_message v Host s x verb args in let q : Vat Name = asking_numbered v act Host s m in
          gives_then (IsOf m) NoMessage (Sends act m ∷ []) q (asking_puts (IsOf m) NoMessage Host) refl (refs.send_first K (record m { target = To }) To (refs.place K s To) q) (Ref (Answer Host (record { sender = v; number = s.messages })))
          (first_does (record m { target = To }) To q (refs.place K s To) free)

      pub lone_does : (a : Value Name) (t : Vat Name) → refs.send_only K act x verb args s ≡ Gives a t → Does script v (IsOf Lone) NoMessage (Sends act Lone ∷ []) s t
      lone_does a t e = subst (λ d. IfGives (λ u. Does script v (IsOf Lone) NoMessage (Sends act Lone ∷ []) s u) d) e lone_gives

      pub asking_does : (a : Value Name) (t : Vat Name) → refs.send K act x verb args s ≡ Gives a t → let m : Message Name = asking_message v Host s x verb args in Does script v (IsOf m) NoMessage (Sends act m ∷ []) s t
      asking_does a t e = let m : Message Name = asking_message v Host s x verb args in subst (λ d. IfGives (λ u. Does script v (IsOf m) NoMessage (Sends act m ∷ []) s u) d) e asking_gives

  -- ---- a reaction

  module _ (x o near : Value Name) where
    abbrev Id : Name
    Id = Sent (record { sender = v; number = s.messages })

    abbrev New : Name
    New = Answer s.number (record { sender = v; number = s.messages })

    abbrev Reaction : Message Name
    Reaction = refs.reaction K Id near x New

    abbrev Told : Vat Name
    Told = record s { messages = suc s.messages; mails = s.mails ++ Id ∷ []; known = s.known ++ begun New s.number ∷ []; happened = s.happened ++ Reacts act x o Reaction ∷ [] }

    react_at_does : (q : Vat Name) (p : Place Name) → IfGives (λ t. Does script v NoMessage (IsNamed Id) [] q t) (refs.react_at K Reaction p q)
    unfolding refs.react_at enqueue alter refs.reaction
    react_at_does q (Mine n) = does_nothing_more script v NoMessage (IsNamed Id) q _ (puts_react script v NoMessage (IsNamed Id) Reaction refl n q _ refl) refl
    react_at_does q (Away h n false) = does_nothing_more script v NoMessage (IsNamed Id) q _ (puts_react script v NoMessage (IsNamed Id) Reaction refl n q _ refl) refl
    react_at_does q other = does_nothing_more script v NoMessage (IsNamed Id) q _ (puts_same script v NoMessage (IsNamed Id) q _ refl) refl

    react_gives : IfGives (λ t. Does script v NoMessage (IsNamed Id) (Reacts act x o Reaction ∷ []) s t) (refs.react K act x o near s)
    unfolding refs.react ◌>>=◌ ◌>>◌ and_then look tell new_message names naming name_of mail_of answer_of
    react_gives = gives_then NoMessage (IsNamed Id) (Reacts act x o Reaction ∷ []) Told (puts_begun script v NoMessage (IsNamed Id) New s.number s Told refl) refl (refs.react_at K Reaction (refs.place K Told (refs.follow K Told x)) Told) (Ref New)
        (react_at_does Told (refs.place K Told (refs.follow K Told x)))

    pub react_does : (a : Value Name) (t : Vat Name) → refs.react K act x o near s ≡ Gives a t → Does script v NoMessage (IsNamed Id) (Reacts act x o Reaction ∷ []) s t
    react_does a t e = subst (λ d. IfGives (λ u. Does script v NoMessage (IsNamed Id) (Reacts act x o Reaction ∷ []) s u) d) e react_gives
