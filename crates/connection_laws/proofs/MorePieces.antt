-- More entries of connections' turns: what is sent, what comes, what expires, and pauses.
use Rattle.std.proofs.Common.{◌≡◌, ℕ, true, false, ◌==◌, ◌&&◌, not, List, [], refl, ap, ◌∙◌}
use Rattle.std.specs.Prelude.{Option, Some, None, nat_le, nat_lt}
use Rattle.std.specs.List.{list_any}
use Rattle.ldap_spec.specs.Messages.{Message}
use Rattle.ldap_spec.specs.Responses.{has_code}
use Rattle.ldap_spec.specs.Bodies.{abandon, who_am_i}
use Rattle.lload_names.specs.declared.names.OpName.{OpName}
use Rattle.lload_names.specs.declared.names.EndWhy.TheVariants.{Bad, OwnBind}
use Rattle.lload_names.specs.declared.names.PartName.{PartName}
use Rattle.lload_names.specs.declared.names.PartName.TheVariants.{Client}
use Rattle.lload_names.specs.declared.names.Letter.TheVariants.{Pause, Resume}
use Rattle.lload_names.specs.declared.names.What.TheVariants as what
use Rattle.lload_spec.specs.Lists.{passes, first, first_passes, agrees, implies}
use Rattle.lload_spec.specs.Settings.{Settings, is_kind}
use Rattle.lload_names.specs.declared.names.ConnKind.TheVariants.{Regular}
use Rattle.lload_spec.specs.Identifiers.{id_for}
use Rattle.lload_spec.specs.Pauses.{is_waiting}
use Rattle.lload_spec.specs.BadMessages.{is_bad}
use Rattle.lload_spec.specs.Strict.{may_pass}
use Rattle.lload_spec.specs.Journal.{same_part}
use Rattle.lload_spec.specs.Entries.{is_up, is_retired, is_down_by, is_own}
use Rattle.lload_spec.specs.OneEach.{begins_with_bind, is_own_bind}
use Rattle.part_spec.specs.Marks.{has_connection_mark}
use Rattle.part_spec.specs.ConnectionState.{UpRow, is_stopped, is_first_bind, row_named, is_there, is_holding, message_facts}
use Rattle.part_spec.specs.ConnectionTurn.{is_due}
use Rattle.part_spec.specs.Fit.{ConnectionLedger, is_forward_of}
use Rattle.part_spec.specs.Share.{is_who_due, has_reason, is_expiry_told, is_sent_once}
use Rattle.part_spec.specs.Marked.{Marked, Taken, entries}
use Rattle.lload_spec.proofs.Growth.{both}
use Rattle.part_laws.proofs.ListLaws.{eqb_same}
use Rattle.connection_laws.proofs.OwnBinds.{is_second_bind}
use Rattle.connection_laws.proofs.Permits.{Permit, is_own_answer}
use Rattle.connection_laws.proofs.Pausings.{comes_rightly}
use Rattle.connection_laws.proofs.Pieces.{up_entry, marked_up, not_due, where_taken, agrees_same, implies_true, no_name, goes_on, no_message_due}

-- Entries, each alone. The connection is linked.
module _ (s : Settings) (u : ℕ) (before : List Marked) (l : ConnectionLedger) (at : ℕ) (later : nat_le l.state.moment at ≡ true) (linked : l.state.linked ≡ true) where
  pub permit_sent : (mark : Option Taken) (op : OpName) (rest : List ℕ) (d : List Marked) → has_connection_mark l.state (marked_up u at mark (what.Sent (id_for l.state.ids) op rest)) ≡ true → comes_rightly mark ≡ true → is_sent_once l.state [] (marked_up u at mark (what.Sent (id_for l.state.ids) op rest)) ≡ true → l.state.up ≡ true → l.state.down ≡ false → is_stopped l.state ≡ false → list_any (λ t. is_forward_of op t.letter) l.taken ≡ false → first_passes (λ e. is_up e.what) (entries d) ≡ false → first_passes (λ e. is_retired e.what) (entries d) ≡ ((id_for l.state.ids) == s.id_limit) → first_passes (is_down_by OwnBind) (entries d) ≡ false → Permit s before l (marked_up u at mark (what.Sent (id_for l.state.ids) op rest)) d
  permit_sent mark op rest d fitting fair free up there going new no_up limit no_own =
      record {
        later = later;
        fitting = fitting;
        of_connection = refl;
        begun = goes_on s u before l at later linked;
        alive = ap (λ b. implies b false) there;
        up = up;
        id_right = eqb_same (id_for l.state.ids);
        passed = refl;
        paused = fair;
        waits = refl;
        stopped = ap not going;
        fresh = ap not new;
        free = free;
        first = refl;
        idle = refl;
        expired = refl;
        bad = refl;
        due = no_message_due s u before l at later linked d;
        ups = ap (agrees false) no_up;
        retires = ap (agrees ((id_for l.state.ids) == s.id_limit)) limit ∙ agrees_same ((id_for l.state.ids) == s.id_limit);
        own_ends = ap (agrees false) no_own;
        reason = refl;
        named = λ i j. no_name j;
        down = refl;
      }

  pub permit_own : (mark : Option Taken) (rest : List ℕ) (d : List Marked) → has_connection_mark l.state (marked_up u at mark (what.Own l.state.ids.next rest)) ≡ true → comes_rightly mark ≡ true → l.state.down ≡ false → is_first_bind s l.state (up_entry u at (what.Own l.state.ids.next rest)) ≡ is_second_bind s l.state.number (entries before) (up_entry u at (what.Own l.state.ids.next rest)) → has_reason s l.state (entries before) (marked_up u at mark (what.Own l.state.ids.next rest)) ≡ true → ((i : ℕ) → is_own (abandon i) (up_entry u at (what.Own l.state.ids.next rest)) ≡ true → (list_any (is_own (abandon i)) (entries before) ≡ false) × (nat_lt i l.state.ids.next ≡ true) × (list_any (λ n. n == i) l.state.ids.free ≡ false)) → first_passes (λ e. is_up e.what) (entries d) ≡ false → first_passes (λ e. is_retired e.what) (entries d) ≡ (l.state.ids.next == s.id_limit) → first_passes (is_down_by OwnBind) (entries d) ≡ false → Permit s before l (marked_up u at mark (what.Own l.state.ids.next rest)) d
  permit_own mark rest d fitting fair there first reason named no_up limit no_own =
      record {
        later = later;
        fitting = fitting;
        of_connection = refl;
        begun = goes_on s u before l at later linked;
        alive = ap (λ b. implies b false) there;
        up = refl;
        id_right = eqb_same l.state.ids.next;
        passed = refl;
        paused = fair;
        waits = refl;
        stopped = refl;
        fresh = refl;
        free = refl;
        first = first;
        idle = refl;
        expired = refl;
        bad = refl;
        due = no_message_due s u before l at later linked d;
        ups = ap (agrees false) no_up;
        retires = ap (agrees (l.state.ids.next == s.id_limit)) limit ∙ agrees_same (l.state.ids.next == s.id_limit);
        own_ends = ap (agrees false) no_own;
        reason = reason;
        named = named;
        down = refl;
      }

  pub permit_expired : (op : OpName) (r : UpRow) (d : List Marked) → l.state.down ≡ false → row_named l.state op ≡ Some r → is_due s at r ≡ true → is_expiry_told (entries d) r ≡ true → first_passes (λ e. is_up e.what) (entries d) ≡ false → first_passes (λ e. is_retired e.what) (entries d) ≡ false → first_passes (is_down_by OwnBind) (entries d) ≡ false → Permit s before l (marked_up u at None (what.Expired op)) d
  permit_expired op r d there named due told no_up no_retired no_own =
      record {
        later = later;
        fitting = refl;
        of_connection = refl;
        begun = goes_on s u before l at later linked;
        alive = ap (λ b. implies b false) there;
        up = refl;
        id_right = refl;
        passed = refl;
        paused = refl;
        waits = refl;
        stopped = refl;
        fresh = refl;
        free = refl;
        first = refl;
        idle = refl;
        expired = ap (passes (λ q. is_due s at q && is_expiry_told (entries d) q)) named ∙ both (is_due s at r) _ due told;
        bad = refl;
        due = no_message_due s u before l at later linked d;
        ups = ap (agrees false) no_up;
        retires = ap (agrees false) no_retired;
        own_ends = ap (agrees false) no_own;
        reason = refl;
        named = λ i j. no_name j;
        down = refl;
      }

  pub permit_got : (m : Message) (d : List Marked) → l.state.down ≡ false → is_waiting l.state.waiting ≡ false → implies (is_who_due l.state (up_entry u at (what.Got m.id m.rest))) (first_passes (is_own who_am_i) (entries d)) ≡ true → implies (is_bad (message_facts l.state) m) (first_passes (is_down_by Bad) (entries d)) ≡ true → agrees (is_own_answer l.state (has_code 0) (what.Got m.id m.rest)) (first_passes (λ e. is_up e.what) (entries d)) ≡ true → first_passes (λ e. is_retired e.what) (entries d) ≡ false → agrees (is_own_answer l.state (λ r. not (has_code 0 r)) (what.Got m.id m.rest)) (first_passes (is_down_by OwnBind) (entries d)) ≡ true → Permit s before l (marked_up u at None (what.Got m.id m.rest)) d
  permit_got m d there free who bad up no_retired own =
      record {
        later = later;
        fitting = refl;
        of_connection = refl;
        begun = goes_on s u before l at later linked;
        alive = ap (λ b. implies b false) there;
        up = refl;
        id_right = refl;
        passed = ap not free;
        paused = refl;
        waits = refl;
        stopped = refl;
        fresh = refl;
        free = refl;
        first = refl;
        idle = refl;
        expired = refl;
        bad = where_taken (is_bad (message_facts l.state) m) (is_there l.state) (not (is_holding l.state)) _ bad;
        due = both (implies (begins_with_bind s l.state.number && false) (first_passes (is_own_bind s) (entries d))) _ (not_due (begins_with_bind s l.state.number) (first_passes (is_own_bind s) (entries d))) who;
        ups = up;
        retires = ap (agrees false) no_retired;
        own_ends = own;
        reason = refl;
        named = λ i j. no_name j;
        down = refl;
      }

  pub permit_paused : (sender : PartName) (c : ℕ) → same_part sender (Client c) ≡ true → may_pass (is_kind Regular l.state.kind) l.state.waiting (what.Paused c) ≡ true → Permit s before l (marked_up u at (Some (record { sender = sender; letter = Pause c })) (what.Paused c)) []
  permit_paused sender c fair passed =
      record {
        later = later;
        fitting = eqb_same c;
        of_connection = refl;
        begun = goes_on s u before l at later linked;
        alive = implies_true l.state.down;
        up = refl;
        id_right = refl;
        passed = passed;
        paused = fair;
        waits = refl;
        stopped = refl;
        fresh = refl;
        free = refl;
        first = refl;
        idle = refl;
        expired = refl;
        bad = refl;
        due = no_message_due s u before l at later linked [];
        ups = refl;
        retires = refl;
        own_ends = refl;
        reason = refl;
        named = λ i j. no_name j;
        down = refl;
      }

  pub permit_resumed : (sender : PartName) (c : ℕ) → same_part sender (Client c) ≡ true → may_pass (is_kind Regular l.state.kind) l.state.waiting (what.Resumed c) ≡ true → Permit s before l (marked_up u at (Some (record { sender = sender; letter = Resume c })) (what.Resumed c)) []
  permit_resumed sender c fair passed =
      record {
        later = later;
        fitting = eqb_same c;
        of_connection = refl;
        begun = goes_on s u before l at later linked;
        alive = implies_true l.state.down;
        up = refl;
        id_right = refl;
        passed = passed;
        paused = fair;
        waits = refl;
        stopped = refl;
        fresh = refl;
        free = refl;
        first = refl;
        idle = refl;
        expired = refl;
        bad = refl;
        due = no_message_due s u before l at later linked [];
        ups = refl;
        retires = refl;
        own_ends = refl;
        reason = refl;
        named = λ i j. no_name j;
        down = refl;
      }
