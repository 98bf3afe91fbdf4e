-- One line more, and what was said of the lines before holds.
use Rattle.std.specs.Prelude.{◌≡◌, ◌<◌, ◌⊎◌, ◌+◌, ℕ, List, [], ◌∷◌, ◌++◌, length, take, Option, Some, None, slice_get}
use Rattle.std.proofs.Common.{refl, arith, sym, ◌∙◌, ap, subst, ⊎_elim, inl, inr, append_assoc, append-nil}
use Rattle.std.proofs.lemmas.List.{length-take-le, take-append-le, take_at, take_more}
use Rattle.std.proofs.lemmas.Option.{slice_get_within, get_or_from_slice_get}
use Rattle.ev_base.specs.declared.names.Msg.{Msg}
use Rattle.def_event.specs.declared.event.Event.{Event}
use Rattle.def_event.specs.declared.event.Event.TheVariants.{Send, SendOnly, Carry}
use Rattle.def_event.specs.declared.reference.Reference.{Reference}
use Rattle.def_event.specs.Order.{Sending, Carrying, Taking, sending, carrying, taking, vat_behind, vat_after, DoesAt, IsFirst}
use Rattle.ev_order.specs.declared.mentions.Mention.{Mention}
use Rattle.ev_order.specs.Mentions.{MentionList, IsThere, IsAbsent, IsAdded}
use Rattle.ev_order.specs.Chains.{IsChain}
use Rattle.ev_order.specs.Walk.{Walked, started, deed_by, IsMentioned, Steps, line_references, all_references, sent_mention, carried_mention, taken_mention, IsNoted, HoldsFirst, HoldsSent, HoldsCarried, HoldsTaken, IsWalked}
use Rattle.ev_order.proofs.Lists.{get_front, get_end, get_either}

-- ---- vats and references

pub vat_after_one : (here : Option ℕ) (es : List Event) (e : Event) → vat_after here (es ++ e ∷ []) ≡ vat_behind (vat_after here es) e
vat_after_one here [] e = refl
vat_after_one here (d ∷ es) e = vat_after_one (vat_behind here d) es e

pub references_one : (here : Option ℕ) (es : List Event) (e : Event) → all_references here (es ++ e ∷ []) ≡ all_references here es ++ line_references (vat_after here es) e
references_one here [] e = append-nil (line_references here e)
references_one here (d ∷ es) e =
    ap (λ (rs : List (Option Reference)). line_references here d ++ rs) (references_one (vat_behind here d) es e)
    ∙ sym (append_assoc (line_references here d) (all_references (vat_behind here d) es) (line_references (vat_after (vat_behind here d) es) e))

-- ---- what a line does

pub does_either : {A : Type 0} (does : Event → Option A) (es : List Event) (e : Event) (i : ℕ) (a : A) → DoesAt does (es ++ e ∷ []) i a → DoesAt does es i a ⊎ ((i ≡ length es) × (does e ≡ Some a))
does_either does es e i a h = ⊎_elim
    (λ (there : slice_get es i ≡ Some h.0). inl (h.0, there, h.2))
    (λ (new : (i ≡ length es) × (h.0 ≡ e)). inr (new.0, ap does (sym new.1) ∙ h.2))
    (get_either es e i h.0 h.1)

does_front : {A : Type 0} (does : Event → Option A) (es : List Event) (e : Event) (i : ℕ) (a : A) → DoesAt does es i a → DoesAt does (es ++ e ∷ []) i a
does_front does es e i a h = (h.0, get_front es (e ∷ []) i h.0 h.1, h.2)

pub does_within : {A : Type 0} (does : Event → Option A) (es : List Event) (i : ℕ) (a : A) → DoesAt does es i a → i < length es
does_within does es i a h = slice_get_within es i h.0 h.1

-- ---- first mentions

module _ {A : Type 0} (does : Event → Option A) (message : A → Msg) (mention : List Event → A → Mention) (line_is : (before : List Event) (a : A) → (mention before a).line ≡ length before) where
  noted_still : (es : List Event) (e : Event) (m : Msg) (s : Mention) → IsNoted does message mention es m s → IsNoted does message mention (es ++ e ∷ []) m s
  noted_still es e m s h =
      let inside = does_within does es s.line h.what h.first.there in
      record {
        what = h.what;
        first = record {
          there = does_front does es e s.line h.what h.first.there;
          first = λ j b less at same. ⊎_elim
              (λ (old : DoesAt does es j b). h.first.first j b less old same)
              (λ (new : (j ≡ length es) × (does e ≡ Some b)). absurd (omega (arith, new.0, less, inside)))
              (does_either does es e j b at);
        };
        message_is = h.message_is;
        mention_is = h.mention_is ∙ ap (λ (ls : List Event). mention ls h.what) (sym (take-append-le s.line es (e ∷ []) (omega (arith, inside))));
      }

  noted_new : (es : List Event) (e : Event) (a : A) (list : MentionList) → HoldsFirst does message mention es list → does e ≡ Some a → IsAbsent (message a) list → IsNoted does message mention (es ++ e ∷ []) (message a) (mention es a)
  noted_new es e a list h is absent =
      let line : (mention es a).line ≡ length es = line_is es a in
      record {
        what = a;
        first = subst (λ (i : ℕ). IsFirst does message (es ++ e ∷ []) i a) (sym line) (record {
          there = (e, get_end es e, is);
          first = λ j b less at same. ⊎_elim
              (λ (old : DoesAt does es j b). let there = h.all j b old in absurd (absent there.0 (subst (λ (m : Msg). IsThere m there.0 list) same there.1)))
              (λ (new : (j ≡ length es) × (does e ≡ Some b)). absurd (omega (arith, new.0, less)))
              (does_either does es e j b at);
        });
        message_is = refl;
        mention_is = ap (λ (ls : List Event). mention ls a) (sym (take_at es (e ∷ []) (mention es a).line (sym line)));
      }

  -- a line that does no such thing
  holds_still : (es : List Event) (e : Event) (list : MentionList) → HoldsFirst does message mention es list → ((a : A) → does e ≡ Some a → ⊥) → HoldsFirst does message mention (es ++ e ∷ []) list
  holds_still es e list h nothing = record {
    noted = λ n m s at. noted_still es e m s (h.noted n m s at);
    all = λ i a at. ⊎_elim (λ (old : DoesAt does es i a). h.all i a old) (λ (new : (i ≡ length es) × (does e ≡ Some a)). absurd (nothing a new.1)) (does_either does es e i a at);
    ascending = h.ascending;
  }

  -- a line that does it with a message that is there
  holds_again : (es : List Event) (e : Event) (a : A) (list : MentionList) → HoldsFirst does message mention es list → does e ≡ Some a → (s : Mention) → IsThere (message a) s list → HoldsFirst does message mention (es ++ e ∷ []) list
  holds_again es e a list h is s there = record {
    noted = λ n m s at. noted_still es e m s (h.noted n m s at);
    all = λ i b at. ⊎_elim (λ (old : DoesAt does es i b). h.all i b old)
        (λ (new : (i ≡ length es) × (does e ≡ Some b)). let two : Some b ≡ Some a = sym new.1 ∙ is in let same : b ≡ a = cc in (s, subst (λ (m : Msg). IsThere m s list) (sym (ap message same)) there))
        (does_either does es e i b at);
    ascending = h.ascending;
  }

  -- a line that does it with a new message
  holds_more : (es : List Event) (e : Event) (a : A) (list : MentionList) → HoldsFirst does message mention es list → does e ≡ Some a → IsAbsent (message a) list → HoldsFirst does message mention (es ++ e ∷ []) (list ++ (message a, mention es a) ∷ [])
  holds_more es e a list h is absent = record {
    noted = λ n m s at. ⊎_elim
        (λ (old : slice_get list n ≡ Some (m, s)). noted_still es e m s (h.noted n m s old))
        (λ (new : (n ≡ length list) × ((m, s) ≡ (message a, mention es a))).
        subst (λ (p : Msg × Mention). IsNoted does message mention (es ++ e ∷ []) p.0 p.1) (sym new.1) (noted_new es e a list h is absent))
        (get_either list (message a, mention es a) n (m, s) at);
    all = λ i b at. ⊎_elim
        (λ (old : DoesAt does es i b). let there = h.all i b old in (there.0, (there.1.0, get_front list ((message a, mention es a) ∷ []) there.1.0 (message b, there.0) there.1.1)))
        (λ (new : (i ≡ length es) × (does e ≡ Some b)).
        let two : Some b ≡ Some a = sym new.1 ∙ is in
        let same : b ≡ a = cc in
        (mention es a, (length list, get_end list (message a, mention es a) ∙ ap (λ (m : Msg). Some (m, mention es a)) (sym (ap message same)))))
        (does_either does es e i b at);
    ascending = λ n k m l s t less hn hk. ⊎_elim
        (λ (old_k : slice_get list k ≡ Some (l, t)). ⊎_elim
        (λ (old_n : slice_get list n ≡ Some (m, s)). h.ascending n k m l s t less old_n old_k)
        (λ (new_n : (n ≡ length list) × ((m, s) ≡ (message a, mention es a))). absurd (omega (arith, new_n.0, less, slice_get_within list k (l, t) old_k)))
        (get_either list (message a, mention es a) n (m, s) hn))
        (λ (new_k : (k ≡ length list) × ((l, t) ≡ (message a, mention es a))). ⊎_elim
        (λ (old_n : slice_get list n ≡ Some (m, s)).
        let noted = h.noted n m s old_n in
        let line = ap (λ (p : Msg × Mention). p.1.line) new_k.1 ∙ line_is es a in
        omega (arith, line, does_within does es s.line noted.what noted.first.there))
        (λ (new_n : (n ≡ length list) × ((m, s) ≡ (message a, mention es a))). absurd (omega (arith, new_n.0, new_k.0, less)))
        (get_either list (message a, mention es a) n (m, s) hn))
        (get_either list (message a, mention es a) k (l, t) hk);
  }

  pub holds_added : (es : List Event) (e : Event) (a : A) (list now : MentionList) → HoldsFirst does message mention es list → does e ≡ Some a → IsAdded (message a) (mention es a) list now → HoldsFirst does message mention (es ++ e ∷ []) now
  holds_added es e a list now h is added = ⊎_elim
      (λ (there : ((t : Mention) × IsThere (message a) t list) × (now ≡ list)). subst (HoldsFirst does message mention (es ++ e ∷ [])) (sym there.1) (holds_again es e a list h is there.0.0 there.0.1))
      (λ (new : IsAbsent (message a) list × (now ≡ list ++ (message a, mention es a) ∷ [])). subst (HoldsFirst does message mention (es ++ e ∷ [])) (sym new.1) (holds_more es e a list h is new.0))
      added

  pub holds_same : (es : List Event) (e : Event) (list now : MentionList) → HoldsFirst does message mention es list → does e ≡ None → now ≡ list → HoldsFirst does message mention (es ++ e ∷ []) now
  holds_same es e list now h none same = subst (HoldsFirst does message mention (es ++ e ∷ [])) (sym same) (holds_still es e list h (λ a is. let two : None ≡ Some a = sym none ∙ is in cc))

  pub holds_none : HoldsFirst does message mention [] []
  holds_none = record {
    noted = λ n m s at. let inside = slice_get_within [] n (m, s) at in absurd (omega (arith, inside));
    all = λ i a at. let inside = slice_get_within [] i at.0 at.1 in absurd (omega (arith, inside));
    ascending = λ n k m l s t less hn hk. let inside = slice_get_within [] n (m, s) hn in absurd (omega (arith, inside));
  }

-- ---- lists

one_more : (lines : List Event) (i : ℕ) (e : Event) → slice_get lines i ≡ Some e → take (i + 1) lines ≡ take i lines ++ e ∷ []
one_more lines i e at = take_more lines i e (slice_get_within lines i e at) ∙ ap (λ (x : Event). take i lines ++ x ∷ []) (get_or_from_slice_get lines i e e at)

-- ---- all of a line

-- a line that sends does nothing else
sends_alone : (e : Event) (s : Sending) → sending e ≡ Some s → (carrying e ≡ None) × (taking e ≡ None)
sends_alone (Send m) s h = (refl, refl)
sends_alone (SendOnly m) s h = (refl, refl)
sends_alone e s h = cc

-- nor does one that carries
pub carries_alone : (e : Event) (c : Carrying) → carrying e ≡ Some c → (sending e ≡ None) × (taking e ≡ None)
carries_alone (Carry k v w note) c h = (refl, refl)
carries_alone e c h = cc

module _ (es : List Event) (e : Event) (old : Walked) (h : IsWalked es old) where
  first_is : length old.chain.references ≡ length (all_references None es)
  first_is = ap length h.references

  sent_cases : (o : Option Sending) (c : Option Carrying) (t : Option Taking) (now : MentionList) → sending e ≡ o → IsMentioned (length es) (length old.chain.references) (deed_by old.here o c t).sent old.sent now → HoldsSent (es ++ e ∷ []) now
  sent_cases (Some s) c t now is m =
      holds_added sending (λ (s : Sending). s.message) sent_mention (λ b a. refl) es e s old.sent now h.sent is
      (subst (λ (x : Mention). IsAdded s.message x old.sent now) (λ i. record { line = length es; first = first_is i; args = length s.args; vat = h.here i }) m)
  sent_cases None (Some c) t now is m = holds_same sending (λ (s : Sending). s.message) sent_mention (λ b a. refl) es e old.sent now h.sent is m
  sent_cases None None (Some t) now is m = holds_same sending (λ (s : Sending). s.message) sent_mention (λ b a. refl) es e old.sent now h.sent is m
  sent_cases None None None now is m = holds_same sending (λ (s : Sending). s.message) sent_mention (λ b a. refl) es e old.sent now h.sent is m

  carried_cases : (o : Option Sending) (c : Option Carrying) (t : Option Taking) (now : MentionList) → sending e ≡ o → carrying e ≡ c → IsMentioned (length es) (length old.chain.references) (deed_by old.here o c t).carried old.carried now → HoldsCarried (es ++ e ∷ []) now
  carried_cases (Some s) c t now sends is m = holds_same carrying (λ (c : Carrying). c.message) carried_mention (λ b a. refl) es e old.carried now h.carried (sends_alone e s sends).0 m
  carried_cases None (Some c) t now sends is m =
      holds_added carrying (λ (c : Carrying). c.message) carried_mention (λ b a. refl) es e c old.carried now h.carried is
      (subst (λ (x : Mention). IsAdded c.message x old.carried now) (λ i. record { line = length es; first = first_is i; args = length c.args; vat = Some c.leaves }) m)
  carried_cases None None (Some t) now sends is m = holds_same carrying (λ (c : Carrying). c.message) carried_mention (λ b a. refl) es e old.carried now h.carried is m
  carried_cases None None None now sends is m = holds_same carrying (λ (c : Carrying). c.message) carried_mention (λ b a. refl) es e old.carried now h.carried is m

  taken_cases : (o : Option Sending) (c : Option Carrying) (t : Option Taking) (now : MentionList) → sending e ≡ o → carrying e ≡ c → taking e ≡ t → IsMentioned (length es) (length old.chain.references) (deed_by old.here o c t).taken old.taken now → HoldsTaken (es ++ e ∷ []) now
  taken_cases (Some s) c t now sends carries is m = holds_same taking (λ (t : Taking). t.message) taken_mention (λ b a. refl) es e old.taken now h.taken (sends_alone e s sends).1 m
  taken_cases None (Some c) t now sends carries is m = holds_same taking (λ (t : Taking). t.message) taken_mention (λ b a. refl) es e old.taken now h.taken (carries_alone e c carries).1 m
  taken_cases None None (Some t) now sends carries is m = holds_added taking (λ (t : Taking). t.message) taken_mention (λ b a. refl) es e t old.taken now h.taken is m
  taken_cases None None None now sends carries is m = holds_same taking (λ (t : Taking). t.message) taken_mention (λ b a. refl) es e old.taken now h.taken is m

  next_walked : (now : Walked) → Steps (length es) e old now → IsWalked (es ++ e ∷ []) now
  next_walked now s = subst (IsWalked (es ++ e ∷ [])) (sym s.moves) (record {
    here = ap (λ (v : Option ℕ). vat_behind v e) h.here ∙ sym (vat_after_one None es e);
    chain = s.does.chain;
    references = s.does.references
        ∙ ap (λ (rs : List (Option Reference)). rs ++ line_references old.here e) h.references
        ∙ ap (λ (v : Option ℕ). all_references None es ++ line_references v e) h.here
        ∙ sym (references_one None es e);
    sent = sent_cases (sending e) (carrying e) (taking e) s.between.sent refl s.does.sent;
    carried = carried_cases (sending e) (carrying e) (taking e) s.between.carried refl refl s.does.carried;
    taken = taken_cases (sending e) (carrying e) (taking e) s.between.taken refl refl refl s.does.taken;
  })

-- the next line of all
pub line_walked : (lines : List Event) (i : ℕ) (e : Event) (old now : Walked) → slice_get lines i ≡ Some e → IsWalked (take i lines) old → Steps i e old now → IsWalked (take (i + 1) lines) now
line_walked lines i e old now at h s =
    let inside = slice_get_within lines i e at in
    let size : length (take i lines) ≡ i = length-take-le i lines (omega (arith, inside)) in
    subst (λ (ls : List Event). IsWalked ls now) (sym (one_more lines i e at)) (next_walked (take i lines) e old h now (subst (λ (k : ℕ). Steps k e old now) (sym size) s))

pub none_walked : (w : Walked) → IsChain w.chain → started w → IsWalked [] w
none_walked w chain s = record {
  here = s.here;
  chain = chain;
  references = s.references;
  sent = subst (HoldsSent []) (sym s.sent) (holds_none sending (λ (s : Sending). s.message) sent_mention (λ b a. refl));
  carried = subst (HoldsCarried []) (sym s.carried) (holds_none carrying (λ (c : Carrying). c.message) carried_mention (λ b a. refl));
  taken = subst (HoldsTaken []) (sym s.taken) (holds_none taking (λ (t : Taking). t.message) taken_mention (λ b a. refl));
}
