-- What a bind connection's state, with the letters that it took, says of the machine's connection.
use Rattle.std.specs.Prelude.{◌≡◌, ℕ, ◌<◌, true, false, ◌==◌, List, [], ◌∷◌, Option, Some, None}
use Rattle.ldap_spec.specs.Kinds.{kind_of}
use Rattle.ldap_spec.specs.Responses.{has_code}
use Rattle.lload_names.specs.declared.names.ConnKind.TheVariants.{Bind as BindKind}
use Rattle.lload_names.specs.declared.names.OpName.{OpName}
use Rattle.lload_names.specs.declared.names.OpKind.TheVariants.{Bind}
use Rattle.lload_names.specs.declared.names.PartName.TheVariants.{Client}
use Rattle.lload_spec.specs.Answers.{wants_identity}
use Rattle.lload_spec.specs.Lists.{passes}
use Rattle.lload_spec.specs.Settings.{Settings}
use Rattle.part_spec.specs.ConnectionState.{UpRow, Kept}
use Rattle.part_spec.specs.Fit.{ConnectionLedger, answers, is_forward_for, is_leave_of, is_taken_last}
use Rattle.part_spec.specs.Marked.{Taken}
use Rattle.move_laws.specs.World.{Op, Conn, is}
use Rattle.stands_laws.specs.Lists.{Each}
use Rattle.stands_laws.specs.Books.{Book, name}
use Rattle.stands_laws.specs.RegularStands.{LinkStands, ForwardsTaken}

abbrev pub name_of : Option Op → Option OpName
name_of None = None
name_of (Some o) = Some (name o.client o.k)

-- The letters that it took: a Leave is of an operation that was chosen for its exchange.
pub record BindTaken (b : Book) (taken : List Taken) (v : Conn) : Type 0 where
  pub forwards : ForwardsTaken taken v
  pub leaves : (c h : ℕ) → b.pinned c h ≡ false → v.taken c h ≡ true → v.left c h ≡ false
      → is_taken_last (is_forward_for (name c h)) (is_leave_of (name c h)) (Client c) taken ≡ true

-- the answer that is kept back: a success, whose identity is asked for under an identifier other than 0
pub record IsKept (s : Settings) (b : Book) (c k : ℕ) (kept : Kept) : Type 0 where
  pub answers : answers (b.request c k) kept.rest true ≡ true
  pub success : has_code 0 kept.rest ≡ true
  pub wants : wants_identity s (b.request c k) ≡ true
  pub who : passes (λ id. id == 0) kept.who ≡ false

abbrev pub KeptIs : Settings → Book → ℕ → ℕ → Option Kept → Type 0
KeptIs s b c k None = Unit {0}
KeptIs s b c k (Some kept) = IsKept s b c k kept

-- the row of the live Bind
pub record BindRow (s : Settings) (b : Book) (r : UpRow) (o : Op) : Type 0 where
  pub op : r.op ≡ name o.client o.k
  pub kind : r.kind ≡ Bind
  pub known : kind_of (b.request o.client o.k).rest ≡ Some Bind
  pub ask_who : r.ask_who ≡ wants_identity s (b.request o.client o.k)
  pub above : 0 < r.id
  pub kept : KeptIs s b o.client o.k r.kept

abbrev pub BindRows : Settings → Book → List UpRow → Option Op → Type 0
BindRows s b [] None = Unit {0}
BindRows s b [] (Some o) = ⊥
BindRows s b (r ∷ rs) None = ⊥
BindRows s b (r ∷ rs) (Some o) = BindRow s b r o × (rs ≡ [])

pub record BindStands (s : Settings) (b : Book) (u : ℕ) (l : ConnectionLedger) (v : Conn) : Type 0 where
  pub link : LinkStands s u l.state v
  pub kind : l.state.kind ≡ BindKind
  pub taken : BindTaken b l.taken v
  pub own : l.state.own_bind ≡ None
  pub holder : l.state.holder ≡ name_of v.holder
  pub lost : l.state.lost ≡ name_of v.lost
  pub rows : BindRows s b l.state.rows v.now
  -- no identifier that is free is 0
  pub free : Each (λ n. 0 < n) l.state.ids.free
  -- the live Bind stands here, and nothing else
  pub live : (c k : ℕ) → v.rows c k ≡ is v.now c k
  pub fallen : l.state.down ≡ true → v.now ≡ None
