-- Where nothing waits, a live operation that was sent has a row still at the connection that it was sent to.
use Rattle.std.proofs.Common.{◌≡◌, ℕ, true, List, [], ap, ◌∙◌, sym, subst}
use Rattle.std.specs.Prelude.{Some}
use Rattle.std.specs.List.{list_any}
use Rattle.lload_names.specs.declared.names.PartName.TheVariants.{Up as Connection}
use Rattle.lload_spec.specs.Entries.{is_sent}
use Rattle.lload_spec.specs.Journal.{Family, same_op}
use Rattle.lload_spec.specs.Operations.{Operation, is_live, operation, operations}
use Rattle.lload_spec.specs.Settings.{Settings}
use Rattle.part_laws.proofs.ListLaws.{same_number}
use Rattle.part_spec.specs.ConnectionState.{ConnectionState, connection_of}
use Rattle.part_spec.specs.Merge.{PartMove, world_of}
use Rattle.part_spec.specs.World.{World, list_in}
use Rattle.client_answer_laws.proofs.Each.{each_found, each_unfilter}
use Rattle.fifo_laws.proofs.SentOnce.{sent_there, there}
use Rattle.carried_laws.specs.Laws.{Played}
use Rattle.stands_laws.specs.WorldStands.{connection_ledger_in}
use Rattle.run_laws.specs.Runs.{family_of_run}
use Rattle.rest_laws.proofs.Dealt.{lives, sent_there as row_sent, standing}
use Rattle.rest_laws.proofs.Machine.{row_there}
use Rattle.rest_laws.proofs.Retired.{state_is}
use Rattle.rest_laws.proofs.Standing.{book}
use Rattle.all_told_laws.specs.Laws.{LiveOnesHaveRows}

module _ (s : Settings) (ms : List PartMove) (played : Played s (family_of_run s ms) (list_in (world_of s ms))) (rest : (world_of s ms).letters ≡ []) where
  abbrev F : Family
  F = family_of_run s ms

  abbrev w : World
  w = world_of s ms

  module _ (o : Operation) (found : operation (family_of_run s ms) o.name ≡ Some o) (live : is_live o ≡ true) where
    -- a live operation is live in the machine
    live_there : ((standing s ms played rest).model.clients o.name.client).live o.name.k ≡ true
    live_there = each_found (λ q. is_live q ≡ true → ((standing s ms played rest).model.clients o.name.client).live q.name.k ≡ true) (λ q. same_op o.name q.name) (operations o.name.client (F.client o.name.client)) o found (each_unfilter (λ q. ((standing s ms played rest).model.clients o.name.client).live q.name.k ≡ true) is_live (operations o.name.client (F.client o.name.client)) (lives s ms played rest o.name.client)) live

    some_row : (v : ℕ) × (list_any (λ r. same_op o.name r.op) (connection_ledger_in s (world_of s ms) v).state.rows ≡ true)
    some_row = row_there s (book s ms) w (standing s ms played rest) rest o.name.client o.name.k live_there

    -- so it has a row where it was sent
    row_stands : (u : ℕ) → list_any (is_sent o.name) ((family_of_run s ms).connection u) ≡ true → list_any (λ r. same_op o.name r.op) (connection_of s u (list_in (world_of s ms) (Connection u))).rows ≡ true
    row_stands u k =
        let at_home : (there s F (list_in w) played.joined o.name).0 ≡ u = same_number (there s F (list_in w) played.joined o.name).0 u (sent_there s F (list_in w) played.joined o.name u k) in
        let at_row : (there s F (list_in w) played.joined o.name).0 ≡ some_row.0 = same_number (there s F (list_in w) played.joined o.name).0 some_row.0 (sent_there s F (list_in w) played.joined o.name some_row.0 (row_sent s ms played rest o.name some_row.0 some_row.1)) in
        let here : list_any (λ r. same_op o.name r.op) (connection_ledger_in s w u).state.rows ≡ true = subst (λ v. list_any (λ r. same_op o.name r.op) (connection_ledger_in s w v).state.rows ≡ true) (sym at_row ∙ at_home) some_row.1 in
        ap (λ (p : ConnectionState). list_any (λ r. same_op o.name r.op) p.rows) (sym (state_is s ms u)) ∙ here

  pub rows_stand : LiveOnesHaveRows s (family_of_run s ms) (list_in (world_of s ms))
  rows_stand o found live u k = row_stands o found live u k
