-- A member that is readied for its next step.
use Rattle.std.proofs.Common.{◌≡◌, ℕ, List, [], ◌++◌, refl, sym, ap, subst, ◌∙◌}
use Rattle.def_run.specs.Vats.{Member as Theirs}
use Rattle.def_machine.specs.State as machine
use Rattle.def_machine.specs.State.{Happened, Put}
use Rattle.def_machine.specs.Values.{Words, Local}
use Rattle.ev_arrive.specs.declared.host.Host.{Host}
use Rattle.ev_intro.specs.Word.{Drawn}
use Rattle.ev_vat.specs.Standing.{IsFound, IsMember, with_draws}
use Rattle.ev_vat.specs.declared.member.Member.{Member}
use Rattle.ev_pass.specs.Acts.{words_by}
use Rattle.ev_pass.specs.Reading as inside
use Rattle.ev_room.specs.Reading.{vat_of}
use Rattle.ev_vat.specs.Rooted.{readied}
use Rattle.ev_vat.specs.Vat.{IsReady}
use Rattle.ev_vat.specs.declared.vat.Vat.{Vat}
use Rattle.law_evaluation.proofs.Acts.Sounds.{beside_sound}
use Rattle.law_evaluation.specs.Arrivals.Arrivals.{vat_in}

abbrev readied_host : ℕ → Drawn → Host → Host
readied_host fuel words h = record h { inside = readied fuel words h.inside }

readied_at : (before : machine.Vat Local) (texts : List Words) (key : List ℕ) (fuel : ℕ) (words : Drawn) (h : Host) → before.outbox ≡ [] → before.happened ≡ []
    → vat_in (record { before = before; texts = texts; key = key }) (readied_host fuel words h) ≡ with_draws fuel (words_by words.key words.count) (vat_in (record { before = before; texts = texts; key = key }) h)
unfolding vat_of inside.lines_of
readied_at before texts key fuel words h e f =
    let s = with_draws fuel (words_by words.key words.count) (vat_in (record { before = before; texts = texts; key = key }) h) in
    ap (λ (ps : List (Put Local)). record s { outbox = ps ++ []; happened = before.happened ++ [] }) e
    ∙ ap (λ (hs : List (Happened Local)). record s { happened = hs ++ [] }) f

pub readies : (q : Member) (m : Theirs) (fuel : ℕ) (words : Drawn) → words.key ≡ q.vat.host.inside.words.key → IsMember m q
    → IsFound fuel (words_by words.key words.count) m (record q { vat = record q.vat { host = readied_host fuel words q.vat.host } })
readies q m fuel words same is = record {
  vat = λ w e.
      readied_at w.before w.texts w.key fuel words q.vat.host e.outbox e.happened
      ∙ ap (λ (s : machine.Vat Local). with_draws fuel (words_by words.key words.count) s) (is.vat w (record { outbox = e.outbox; happened = e.happened; rest = e.rest; texts = e.texts; key = sym same ∙ e.key }));
  rest = record {
    sound = beside_sound q.vat.host.inside is.rest.sound (readied fuel words q.vat.host.inside) refl refl refl;
    going = is.rest.going;
    learnt = is.rest.learnt;
    connections = is.rest.connections;
    tables = is.rest.tables;
  };
}

-- where the vat is another name for that
pub readies_so : (q z : Member) (m : Theirs) (fuel : ℕ) (words : Drawn) → z ≡ record q { vat = record q.vat { host = readied_host fuel words q.vat.host } } → words.key ≡ q.vat.host.inside.words.key → IsMember m q
    → IsFound fuel (words_by words.key words.count) m z
readies_so q z m fuel words e same is = subst (λ (x : Member). IsFound fuel (words_by words.key words.count) m x) (sym e) (readies q m fuel words same is)

-- a vat that did not stop stays sound
pub stays_ready : (v z : Vat) (fuel : ℕ) (words : Drawn) → z ≡ record v { host = readied_host fuel words v.host } → IsReady v → IsReady z
stays_ready v z fuel words e ready = subst IsReady (sym e) (λ going. beside_sound v.host.inside (ready going) (readied fuel words v.host.inside) refl refl refl)

-- what a step finds is the member as it is between two steps
pub is_between : (fuel : ℕ) (drawn : List ℕ) (m : Theirs) (c : Member) → IsFound fuel drawn m c → IsMember m c
is_between fuel drawn m c found = record { vat = λ w sees. ap (λ (v : machine.Vat Local). with_draws 0 [] v) (found.vat w sees); rest = found.rest }
