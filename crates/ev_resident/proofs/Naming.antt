-- The names after a step, and what a table of them says of each number.
use Rattle.std.proofs.Common.{◌≡◌, ℕ, zero, suc, List, [], ◌∷◌, ◌++◌, map, get_or, Option, Some, None, refl, sym, ap, subst, ◌∙◌}
use Rattle.std.specs.Prelude.{slice_get, unwrap_or}
use Rattle.ev_arrive.specs.Reading.{with_gifts}
use Rattle.ev_arrive.specs.declared.host.Host.{Host}
use Rattle.ev_base.specs.declared.names.Msg.{Msg}
use Rattle.ev_base.specs.declared.names.Name.{Name as ShownName}
use Rattle.ev_base.specs.declared.names.Name.TheVariants as shown
use Rattle.def_run.specs.Names.{Names, Told, name_by, names_after}
use Rattle.def_run.specs.Numbers.{exported, far_name, name_at_vat, object_at}
use Rattle.def_run.specs.Vats.{Member, connection_for}
use Rattle.def_machine.specs.State.{Put, Vat}
use Rattle.def_machine.specs.Values.{Name, Root, Sent, Local, Obj, Prom, Far, Mess}
use Rattle.def_run.specs.Shown.{msg_of, shown_msg, shown_name}
use Rattle.ev_resident.specs.Names.{Named, carried_mails}
use Rattle.ev_resident.specs.Printing.{Agrees}
use Rattle.ev_resident.specs.NamesStanding.{Counts, Stands, mail_of, mails_of, words_of}
use Rattle.ev_pass.specs.Reading.{put_by}
use Rattle.ev_room.specs.Reading.{World, texts_of, vat_of}
use Rattle.ev_step_lines.specs.Lines.{mail_at}
use Rattle.ev_resident.specs.OutcomeStanding.{IsAfter, NamesStand, ObjectsStand, exported_to, object_number}

-- ---- the vat that a step left

module _ (w : World) (h : Host) (s : Vat Local) (after : IsAfter w h s) where
  pub words_drawn : words_of h.inside.words ≡ s.drawn
  unfolding vat_of
  words_drawn = ap (λ (v : Vat Local). v.drawn) after.vat

  -- what was put
  pub outbox_is : map (put_by (texts_of w)) h.inside.post ≡ s.outbox
  unfolding vat_of
  outbox_is =
      ap (λ (ps : List (Put Local)). ps ++ map (put_by (texts_of w)) h.inside.post) (sym after.outbox)
      ∙ ap (λ (v : Vat Local). v.outbox) after.vat

  -- What the code makes of the names in a step stands for what the run makes of them.
  pub names_stand : (u : ℕ) (last : Vat Local) (t : Names) (messages : List Name) (brought : List Told) (carried : Option Msg) (n m : Named)
      → NamesStand s.drawn u last t n → mails_of (carried_mails carried) ≡ messages
      → Stands h.inside.words (names_after n.naming.vat t last (mails_of (carried_mails carried)) brought (with_gifts h.gifts (vat_of w h.inside))) m
      → Counts (with_gifts h.gifts (vat_of w h.inside)) m → m.naming.vat ≡ n.naming.vat
      → NamesStand s.drawn u s (names_after u t last messages brought s) m
  names_stand u last t messages brought carried n m stands carries made counts vat =
      let left = subst (λ (ms : List Name). Stands h.inside.words (names_after u t last ms brought s) m) carries
      (subst (λ (v : ℕ). Stands h.inside.words (names_after v t last (mails_of (carried_mails carried)) brought s) m) stands.vat
      (subst (λ (v : Vat Local). Stands h.inside.words (names_after n.naming.vat t last (mails_of (carried_mails carried)) brought v) m) after.vat made)) in
      record {
        vat = vat ∙ stands.vat;
        names = left.known ∙ ap (λ (ds : List ℕ). map (shown_name ds) (names_after u t last messages brought s).known) words_drawn;
        mails = left.mails;
        counts = subst (λ (v : Vat Local). Counts v m) after.vat counts;
      }

  -- the names before the step, as the code has them
  pub names_stood : (u : ℕ) (last : Vat Local) (t : Names) (n : Named) → NamesStand s.drawn u last t n → Stands h.inside.words t n
  names_stood u last t n stands = record { known = stands.names ∙ ap (λ (ds : List ℕ). map (shown_name ds) t.known) (sym words_drawn); mails = stands.mails }

-- ---- a table of names

promise_shown : (ds : List ℕ) (u : ℕ) (ns : List Name) (k : ℕ) → shown_name ds (unwrap_or (slice_get ns k) (Root u)) ≡ unwrap_or (slice_get (map (shown_name ds) ns) k) (shown.Root u)
unfolding shown_name
promise_shown ds u [] k = refl
promise_shown ds u (n ∷ ns) zero = refl
promise_shown ds u (n ∷ ns) (suc k) = promise_shown ds u ns k

message_shown : (ds : List ℕ) (u j : ℕ) (ms : List Msg) (k : ℕ) → shown_msg ds (unwrap_or (slice_get (mails_of ms) k) (Sent (record { sender = u; number = j }))) ≡ unwrap_or (slice_get ms k) (record { sender = u; number = j })
unfolding shown_msg msg_of
message_shown ds u j [] k = refl
message_shown ds u j (m ∷ ms) zero = refl
message_shown ds u j (m ∷ ms) (suc k) = message_shown ds u j ms k

mail_named : (u j : ℕ) (ms : List Msg) (k : ℕ) → unwrap_or (slice_get (mails_of ms) k) (Sent (record { sender = u; number = j })) ≡ mail_of (unwrap_or (slice_get ms k) (record { sender = u; number = j }))
mail_named u j [] k = refl
mail_named u j (m ∷ ms) zero = refl
mail_named u j (m ∷ ms) (suc k) = mail_named u j ms k

object_shown : (ds : List ℕ) (h p : ℕ) (xs : List Local) (q : ℕ) → shown_name ds (object_at h p (slice_get xs q)) ≡ shown.Object h (get_or (map object_number xs) q p)
unfolding shown_name object_at
object_shown ds h p [] q = refl
object_shown ds h p (Obj i ∷ xs) zero = refl
object_shown ds h p (Prom i ∷ xs) zero = refl
object_shown ds h p (Far g i ∷ xs) zero = refl
object_shown ds h p (Mess i ∷ xs) zero = refl
object_shown ds h p (x ∷ xs) (suc q) = object_shown ds h p xs q

exported_is : (u p : ℕ) (o : Option Member) → ◌≡◌ {A = Option Local} (elim o [ Some m ↦ slice_get (connection_for u m).exports p | None ↦ None ]) (slice_get (exported_to u o) p)
exported_is u p (Some m) = refl
exported_is u p None = refl

module _ (ds : List ℕ) (u : ℕ) (last : Vat Local) (t : Names) (n : Named) (ms : List Member) (stands : NamesStand ds u last t n) (objects : ObjectsStand ms u n.naming.objects) where
  far_shown : (h p : ℕ) → shown_name ds (far_name ms u h p) ≡ shown.Object h (get_or (get_or n.naming.objects h []) p p)
  unfolding far_name exported
  far_shown h p =
      ap (λ (o : Option Local). shown_name ds (object_at h p o)) (exported_is u p (slice_get ms h))
      ∙ object_shown ds h p (exported_to u (slice_get ms h)) p
      ∙ ap (λ (ks : List ℕ). shown.Object h (get_or ks p p)) (sym (objects h))

  -- each message has the name that it is called by
  pub mails_named : (j : ℕ) → name_at_vat ms u t (Mess j) ≡ mail_of (mail_at n.naming j)
  unfolding name_at_vat name_by
  mails_named j =
      ap (λ (xs : List Name). unwrap_or (slice_get xs j) (Sent (record { sender = u; number = j }))) (sym stands.mails)
      ∙ mail_named u j n.naming.mails j
      ∙ ap (λ (v : ℕ). mail_of (unwrap_or (slice_get n.naming.mails j) (record { sender = v; number = j }))) (sym stands.vat)

  pub agrees : Agrees ds (name_at_vat ms u t) n.naming
  unfolding name_at_vat name_by
  agrees = record {
    object = λ i. unfold shown_name in ap (λ (v : ℕ). shown.Object v i) (sym stands.vat);
    promise = λ k.
        promise_shown ds u t.known k
        ∙ ap (λ (ns : List ShownName). unwrap_or (slice_get ns k) (shown.Root u)) (sym stands.names)
        ∙ ap (λ (v : ℕ). unwrap_or (slice_get n.naming.names k) (shown.Root v)) (sym stands.vat);
    far = far_shown;
    message = λ j.
        ap (λ (xs : List Name). shown_msg ds (unwrap_or (slice_get xs j) (Sent (record { sender = u; number = j })))) (sym stands.mails)
        ∙ message_shown ds u j n.naming.mails j
        ∙ ap (λ (v : ℕ). unwrap_or (slice_get n.naming.mails j) (record { sender = v; number = j })) (sym stands.vat);
  }
