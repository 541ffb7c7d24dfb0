-- What an operation of client 1 keeps with one entry more behind it, and what a final Out changes.
use Rattle.std.specs.Prelude.{◌≡◌, ℕ, Bool, true, false, ◌==◌, ◌&&◌, ◌||◌, not, if◌then◌else◌, List, [], ◌∷◌, ◌++◌, length, Option, Some, None, is_none}
use Rattle.std.specs.List.{list_any}
use Rattle.std.proofs.Common.{refl, ap, ◌∙◌, sym}
use Rattle.std.proofs.lemmas.List.{append-nil}
use Rattle.std.proofs.Math.Bool.{or-false, and-true}
use Rattle.ldap_spec.specs.Messages.{Message}
use Rattle.ldap_spec.specs.Kinds.{kind_of, same_kind, is_final}
use Rattle.lload_names.specs.declared.names.Entry.{Entry}
use Rattle.lload_names.specs.declared.names.OpKind.{OpKind}
use Rattle.lload_names.specs.declared.names.OpKind.TheVariants.{Bind, Search, Modify, Add, Delete, ModifyDn, Compare, Extended}
use Rattle.small_spec.specs.Lists.{passes, agrees, implies}
use Rattle.small_spec.specs.Entries.{operation_message, out_message, is_gone}
use Rattle.small_spec.specs.Operations.{Operation, Answered, Abandoned, Rebound, ClientGone, is_request_of, is_of, is_final_for, takes_id, is_out_for, out_rest, outs, is_abandon_of, is_bind_in, manner_of, ending_from, is_live}
use Rattle.small_spec.specs.Fifo.{allowed, is_out_before_end, is_ended_once, is_sent_entry}
use Rattle.small_spec.proofs.Growth.{both, looks_back}
use Rattle.small_laws.specs.ClientGrowth.{later_operation}
use Rattle.small_laws.proofs.ClientGrowth.{outs_grow, any_grows, ending_grows}
use Rattle.small_world.specs.declared.world.Forwarded.{Forwarded}
use Rattle.small_world.specs.Stands.{row_of, is_told, is_latest}

-- an entry by which nothing ends but by an Out, and which no connection makes
pub record EndsNothing (e : Entry) : Type 0 where
  pub no_abandon : (opened : Message) → is_abandon_of opened e ≡ false
  pub no_bind : is_bind_in e ≡ false
  pub no_gone : is_gone e ≡ false
  pub no_sent : is_sent_entry e ≡ false

-- what is told of an operation, by its row and what the definitions say of it
abbrev pub told_by : Option Forwarded → Message → Bool → Bool → List (List ℕ) → Bool
told_by row request ended live got = is_request_of Delete request && ended && elim row [ None ↦ not live && allowed (kind_of request.rest) [] got | Some f ↦ f.id == request.id && agrees live (not f.answered) && implies (not f.answered) (length got == 0) ]

-- the tests of an entry that begins another operation, behind one that begins none
pub same_takes : (id : ℕ) (L : List Entry) (e : Entry) → takes_id id e ≡ false → list_any (takes_id id) (L ++ e ∷ []) ≡ list_any (takes_id id) L
same_takes id L e h = any_grows (takes_id id) L e ∙ ap (λ b. list_any (takes_id id) L || b) h ∙ or-false (list_any (takes_id id) L)

-- an entry that isn't an Out for the operation
none_added : (id : ℕ) (any takes : Bool) (m : Option Message) → (passes (λ n. n.id == id) m && not any) ≡ false → (if any || takes then [] else out_rest id m) ≡ []
none_added id true takes m h = refl
none_added id false true m h = refl
none_added id false false None h = refl
none_added id false false (Some m) h = ap (λ b. if b then m.rest ∷ [] else []) (sym (and-true (m.id == id)) ∙ h)

same_outs : (o : Operation) (e : Entry) → is_out_for o.request o.behind e ≡ false → outs (later_operation e o) ≡ outs o
same_outs o e h = outs_grow o.request.id o.behind e ∙ ap (λ l. outs o ++ l) (none_added o.request.id (list_any (takes_id o.request.id) o.behind) (takes_id o.request.id e) (out_message e.what) h) ∙ append-nil (outs o)

same_ended : (o : Operation) (e : Entry) → is_out_for o.request o.behind e ≡ false → is_ended_once (later_operation e o) ≡ is_ended_once o
same_ended o e h = looks_back (is_out_before_end o.request) o.behind e ∙ ap (λ b. is_ended_once o && implies b (is_none (ending_from o.request [] o.behind))) h ∙ and-true (is_ended_once o)

no_manner_if : (out final abandon bind gone : Bool) → out ≡ false → abandon ≡ false → bind ≡ false → gone ≡ false → is_none (if out && final then Some Answered else if abandon then Some Abandoned else if bind then Some Rebound else if gone then Some ClientGone else None) ≡ true
no_manner_if true final abandon bind gone h k l m = absurd (let bad : true ≡ false = h in cc)
no_manner_if false final true bind gone h k l m = absurd (let bad : true ≡ false = k in cc)
no_manner_if false final false true gone h k l m = absurd (let bad : true ≡ false = l in cc)
no_manner_if false final false false true h k l m = absurd (let bad : true ≡ false = m in cc)
no_manner_if false final false false false h k l m = refl

no_manner : (opened : Message) (since : List Entry) (e : Entry) → EndsNothing e → is_out_for opened since e ≡ false → is_none (manner_of opened since e) ≡ true
no_manner opened since e q h = no_manner_if (is_out_for opened since e) (passes (λ m. is_final_for opened m.rest) (out_message e.what)) (is_abandon_of opened e) (is_bind_in e) (is_gone e) h (q.no_abandon opened) q.no_bind q.no_gone

same_live : (o : Operation) (e : Entry) → EndsNothing e → is_out_for o.request o.behind e ≡ false → is_live (later_operation e o) ≡ is_live o
same_live o e q h = ending_grows o.request o.behind e ∙ ap (λ b. is_live o && b) (no_manner o.request o.behind e q h) ∙ and-true (is_live o)

-- what is told of the operation stays, by the same row
pub same_told : (rows rows' : List Forwarded) (o : Operation) (e : Entry) → EndsNothing e → is_out_for o.request o.behind e ≡ false → row_of o.name.k rows' ≡ row_of o.name.k rows → is_told rows' (later_operation e o) ≡ is_told rows o
same_told rows rows' o e q h r = ap (λ row. told_by row o.request (is_ended_once (later_operation e o)) (is_live (later_operation e o)) (outs (later_operation e o))) r ∙ ap (λ ended. told_by (row_of o.name.k rows) o.request ended (is_live (later_operation e o)) (outs (later_operation e o))) (same_ended o e h) ∙ ap (λ live. told_by (row_of o.name.k rows) o.request (is_ended_once o) live (outs (later_operation e o))) (same_live o e q h) ∙ ap (told_by (row_of o.name.k rows) o.request (is_ended_once o) (is_live o)) (same_outs o e h)

-- an entry that is no Out is none for the operation
pub no_out_for : (opened : Message) (since : List Entry) (e : Entry) → out_message e.what ≡ None → is_out_for opened since e ≡ false
no_out_for opened since e h = ap (λ m. passes (λ n. n.id == opened.id) m && not (list_any (takes_id opened.id) since)) h

-- what is latest stays, behind an entry that begins no operation with the row's identifier
pub same_latest : (f : Forwarded) (o : Operation) (e : Entry) → takes_id f.id e ≡ false → is_latest f (later_operation e o) ≡ is_latest f o
same_latest f o e h = ap (λ b. implies (o.request.id == f.id) (agrees b (not (o.name.k == f.k)))) (same_takes f.id o.behind e h)

-- a Delete is one
same_delete : (kind : OpKind) → same_kind Delete kind ≡ true → kind ≡ Delete
same_delete Delete h = refl
same_delete Bind h = absurd (let bad : false ≡ true = h in cc)
same_delete Search h = absurd (let bad : false ≡ true = h in cc)
same_delete Modify h = absurd (let bad : false ≡ true = h in cc)
same_delete Add h = absurd (let bad : false ≡ true = h in cc)
same_delete ModifyDn h = absurd (let bad : false ≡ true = h in cc)
same_delete Compare h = absurd (let bad : false ≡ true = h in cc)
same_delete Extended h = absurd (let bad : false ≡ true = h in cc)

some_delete : (kind : Option OpKind) → passes (same_kind Delete) kind ≡ true → kind ≡ Some Delete
some_delete None h = absurd (let bad : false ≡ true = h in cc)
some_delete (Some kind) h = ap (λ k. Some k) (same_delete kind h)

pub kind_of_delete : (o : Operation) → is_of Delete o ≡ true → kind_of o.request.rest ≡ Some Delete
kind_of_delete o h = some_delete (kind_of o.request.rest) h

-- a final Out for a live Delete
pub record IsFinalOut (o : Operation) (e : Entry) (id : ℕ) (rest : List ℕ) : Type 0 where
  pub out : out_message e.what ≡ Some (record { id = id; rest = rest })
  pub makes_none : operation_message e.what ≡ None
  pub id_same : (id == o.request.id) ≡ true
  pub none_taken : list_any (takes_id o.request.id) o.behind ≡ false
  pub delete : is_of Delete o ≡ true
  pub final : is_final Delete rest ≡ true
  pub live : is_live o ≡ true
  pub ended : is_ended_once o ≡ true

pub final_is_out_for : (o : Operation) (e : Entry) (id : ℕ) (rest : List ℕ) → IsFinalOut o e id rest → is_out_for o.request o.behind e ≡ true
final_is_out_for o e id rest h = ap (λ m. passes (λ n. n.id == o.request.id) m && not (list_any (takes_id o.request.id) o.behind)) h.out ∙ both (id == o.request.id) (not (list_any (takes_id o.request.id) o.behind)) h.id_same (ap not h.none_taken)

final_for : (o : Operation) (e : Entry) (id : ℕ) (rest : List ℕ) → IsFinalOut o e id rest → passes (λ m. is_final_for o.request m.rest) (out_message e.what) ≡ true
final_for o e id rest h = ap (passes (λ m. is_final_for o.request m.rest)) h.out ∙ ap (passes (λ kind. is_final kind rest)) (kind_of_delete o h.delete) ∙ h.final

answers_by : (out final abandon bind gone : Bool) → out ≡ true → final ≡ true → is_none (if out && final then Some Answered else if abandon then Some Abandoned else if bind then Some Rebound else if gone then Some ClientGone else None) ≡ false
answers_by true true abandon bind gone h k = refl
answers_by true false abandon bind gone h k = absurd (let bad : false ≡ true = k in cc)
answers_by false final abandon bind gone h k = absurd (let bad : false ≡ true = h in cc)

-- it ends the operation
pub final_ends : (o : Operation) (e : Entry) (id : ℕ) (rest : List ℕ) → IsFinalOut o e id rest → is_live (later_operation e o) ≡ false
final_ends o e id rest h = ending_grows o.request o.behind e ∙ ap (λ b. b && is_none (manner_of o.request o.behind e)) h.live ∙ answers_by (is_out_for o.request o.behind e) (passes (λ m. is_final_for o.request m.rest) (out_message e.what)) (is_abandon_of o.request e) (is_bind_in e) (is_gone e) (final_is_out_for o e id rest h) (final_for o e id rest h)

-- it stands before that end
pub final_once : (o : Operation) (e : Entry) (id : ℕ) (rest : List ℕ) → IsFinalOut o e id rest → is_ended_once (later_operation e o) ≡ true
final_once o e id rest h = looks_back (is_out_before_end o.request) o.behind e ∙ both (is_ended_once o) _ h.ended (ap (λ b. implies b (is_none (ending_from o.request [] o.behind))) (final_is_out_for o e id rest h) ∙ h.live)

-- and the client gets it
pub final_got : (o : Operation) (e : Entry) (id : ℕ) (rest : List ℕ) → IsFinalOut o e id rest → outs (later_operation e o) ≡ outs o ++ rest ∷ []
final_got o e id rest h = outs_grow o.request.id o.behind e ∙ ap (λ b. outs o ++ (if b || takes_id o.request.id e then [] else out_rest o.request.id (out_message e.what))) h.none_taken ∙ ap (λ m. outs o ++ (if passes (λ n. n.id == o.request.id) m then [] else out_rest o.request.id (out_message e.what))) h.makes_none ∙ ap (λ m. outs o ++ out_rest o.request.id m) h.out ∙ ap (λ b. outs o ++ (if b then rest ∷ [] else [])) h.id_same
