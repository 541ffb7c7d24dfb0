-- What the part stands for where operations came that are over.
use Rattle.std.proofs.Common.{◌≡◌, ◌≤◌, ◌+◌, ℕ, suc, Bool, true, false, not, ◌==◌, ◌&&◌, List, [], ◌∷◌, length, arith, refl, ap, subst, sym, ◌∙◌}
use Rattle.ldap_spec.specs.Messages.{Message}
use Rattle.lload_names.specs.declared.names.OpKind.TheVariants.{Bind}
use Rattle.lload_spec.specs.Entries.{makes_operation}
use Rattle.lload_spec.specs.Operations.{is_request_of}
use Rattle.lload_spec.specs.Settings.{Settings}
use Rattle.part_spec.specs.ClientState.{ClientState}
use Rattle.client_rows.specs.Rows.{Counted}
use Rattle.client_session.specs.Ended.{counted}
use Rattle.client_session.specs.declared.part.ClientPart.{ClientPart}
use Rattle.client_session.specs.Stands.{Stands}
use Rattle.client_session.proofs.Asking.{asks-more}

abbrev counted_by : ClientState → Bool → Bool → ClientState
counted_by p makes binds =
    elim makes [
      | false ↦ p
      | true ↦ elim binds [ true ↦ record p { count = suc p.count; identity = []; in_exchange = false } | false ↦ record p { count = suc p.count } ]
    ]

pub uncounted : (s : Settings) (m : Message) (p : ClientState) (d : ClientPart) → makes_operation m ≡ false → Stands s p d → Stands s (counted m p) d
uncounted s m p d e h = subst (λ (b : Bool). Stands s (counted_by p b (is_request_of Bind m)) d) (sym e) h

-- one came, and is over
pub stands-passed : (s : Settings) (p : ClientState) (d : ClientPart) (o : Counted) → o ≡ record { count = d.operations.count + 1; rows = d.operations.rows } → Stands s p d → Stands s (record p { count = suc p.count }) (record d { operations = o })
stands-passed s p d o is h = rw is (record {
  settings = h.settings;
  number = h.number;
  moment = h.moment;
  arrived = h.arrived;
  gone = h.gone;
  live = record { count_is = omega (arith, h.live.count_is); rows_are = h.live.rows_are };
  asks = asks-more p.number p.count p.asked d.asked h.asks;
  identity = h.identity;
  in_exchange = h.in_exchange;
  hold = h.hold;
  binds = h.binds;
  stalled = h.stalled;
  paused = h.paused;
  idle = h.idle;
  room = h.room;
})

pub counted-request : (s : Settings) (m : Message) (p : ClientState) (d : ClientPart) (o : Counted) → makes_operation m ≡ true → is_request_of Bind m ≡ false → o ≡ record { count = d.operations.count + 1; rows = d.operations.rows } → Stands s p d → Stands s (counted m p) (record d { operations = o })
counted-request s m p d o e f is h = subst (λ (q : ClientState). Stands s q (record d { operations = o })) (sym (ap (λ b. counted_by p b (is_request_of Bind m)) e ∙ ap (counted_by p true) f)) (stands-passed s p d o is h)

-- nobody is known any more, and no exchange goes on
pub forgets : (s : Settings) (p : ClientState) (d : ClientPart) → Stands s p d → Stands s (record p { identity = []; in_exchange = false }) (record d { identity = []; in_exchange = false })
forgets s p d h = record {
  settings = h.settings;
  number = h.number;
  moment = h.moment;
  arrived = h.arrived;
  gone = h.gone;
  live = h.live;
  asks = h.asks;
  identity = refl;
  in_exchange = refl;
  hold = h.hold;
  binds = h.binds;
  stalled = h.stalled;
  paused = h.paused;
  idle = h.idle;
  room = h.room;
}

pub counted-bind : (s : Settings) (m : Message) (p : ClientState) (d : ClientPart) (o : Counted) → makes_operation m ≡ true → is_request_of Bind m ≡ true → o ≡ record { count = d.operations.count + 1; rows = d.operations.rows } → Stands s p d → Stands s (counted m p) (record d { operations = o; identity = []; in_exchange = false })
counted-bind s m p d o e f is h = subst (λ (q : ClientState). Stands s q (record d { operations = o; identity = []; in_exchange = false })) (sym (ap (λ b. counted_by p b (is_request_of Bind m)) e ∙ ap (counted_by p true) f)) (forgets s (record p { count = suc p.count }) (record d { operations = o }) (stands-passed s p d o is h))

-- more room is kept
pub grown : (s : Settings) (p : ClientState) (d : ClientPart) (kept : ℕ) → d.kept ≤ kept → Stands s p d → Stands s p (record d { kept = kept })
grown s p d kept more h = record {
  settings = h.settings;
  number = h.number;
  moment = h.moment;
  arrived = h.arrived;
  gone = h.gone;
  live = h.live;
  asks = h.asks;
  identity = h.identity;
  in_exchange = h.in_exchange;
  hold = h.hold;
  binds = h.binds;
  stalled = h.stalled;
  paused = h.paused;
  idle = h.idle;
  room = λ there stays. let old = h.room there stays in omega (arith, old, more);
}
