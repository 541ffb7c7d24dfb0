-- The letters to a connection of either kind are fit.
use Rattle.std.proofs.Common.{◌≡◌, ℕ, ◌+◌, Bool, true, false, ◌==◌, ◌&&◌, not, List, [], ◌∷◌, length, Option, Some, None, refl, ap, ◌∙◌, sym, arith}
use Rattle.std.specs.Prelude.{◌||◌, is_none}
use Rattle.std.proofs.lemmas.Bool.{and_from, eq-eqb}
use Rattle.ldap_spec.specs.Kinds.{kind_of, same_kind}
use Rattle.lload_names.specs.declared.names.ConnKind.TheVariants.{Bind as BindKind}
use Rattle.lload_names.specs.declared.names.Letter.{Letter}
use Rattle.lload_names.specs.declared.names.Letter.TheVariants as real
use Rattle.lload_names.specs.declared.names.OpKind.{OpKind}
use Rattle.lload_names.specs.declared.names.OpKind.TheVariants.{Bind, Search, Modify, Add, Delete, ModifyDn, Compare, Extended}
use Rattle.lload_names.specs.declared.names.OpName.{OpName}
use Rattle.lload_names.specs.declared.names.PartName.TheVariants.{Client}
use Rattle.lload_spec.specs.Answers.{wants_identity}
use Rattle.lload_spec.specs.Journal.{same_op}
use Rattle.lload_spec.specs.Lists.{agrees, passes}
use Rattle.lload_spec.specs.Settings.{Settings, is_kind}
use Rattle.part_spec.specs.ConnectionState.{ConnectionState, UpRow, is_bind}
use Rattle.part_spec.specs.Fit.{ConnectionLedger, fits_connection, is_free_for, is_held_for, is_of_its_kind}
use Rattle.move_laws.specs.World.{Op, Conn, ToConn, is}
use Rattle.move_laws.specs.World as machine
use Rattle.move_laws.specs.Counts.{num}
use Rattle.move_laws.specs.Fit.{Begins, FitOrder, Free, Held}
use Rattle.stands_laws.specs.Lists.{FirstIs}
use Rattle.stands_laws.specs.Books.{Book, is_bind_op, name}
use Rattle.stands_laws.specs.Letters.{OrderIs}
use Rattle.stands_laws.specs.ClientStands.{kinds_of, serves}
use Rattle.stands_laws.specs.RegularStands.{ForwardsTaken, LinkStands, RegularStands}
use Rattle.stands_laws.specs.BindStands.{BindRows, BindStands, name_of}
use Rattle.stands_laws.proofs.Tests.{eq_sym, same_self}

-- Tests of kinds.
kind_itself : (k : OpKind) → same_kind k k ≡ true
kind_itself Bind = refl
kind_itself Search = refl
kind_itself Modify = refl
kind_itself Add = refl
kind_itself Delete = refl
kind_itself ModifyDn = refl
kind_itself Compare = refl
kind_itself Extended = refl

agrees_itself : (t : Bool) → agrees t t ≡ true
agrees_itself true = refl
agrees_itself false = refl

bind_is : (s : Settings) (u : ℕ) (p : ConnectionState) (v : Conn) → LinkStands s u p v → is_bind p ≡ serves s u
bind_is s u p v h = ap (is_kind BindKind) h.kind

kind_right : (s : Settings) (b : Book) (u c k : ℕ) (sort : OpKind) (p : ConnectionState) (v : Conn) → LinkStands s u p v → kind_of (b.request c k).rest ≡ Some sort → serves s u ≡ is_bind_op b c k
    → is_of_its_kind s p sort (b.request c k).rest (wants_identity s (b.request c k)) ≡ true
kind_right s b u c k sort p v h known same =
    and_from (passes (same_kind sort) (kind_of (b.request c k).rest) && agrees (same_kind Bind sort) (is_bind p)) (agrees (wants_identity s (b.request c k)) (wants_identity s (b.request c k)))
    (and_from (passes (same_kind sort) (kind_of (b.request c k).rest)) (agrees (same_kind Bind sort) (is_bind p)) (ap (passes (same_kind sort)) known ∙ kind_itself sort)
    ((λ i. agrees (kinds i) (bind_is s u p v h i)) ∙ agrees_itself (serves s u)))
    (agrees_itself (wants_identity s (b.request c k)))
  where
    kinds : same_kind Bind sort ≡ serves s u
    kinds = sym (ap (passes (same_kind Bind)) known) ∙ sym same

-- the test of a Forward, by its parts
six : (a d n up kind held : Bool) → a ≡ true → d ≡ true → n ≡ true → up ≡ true → kind ≡ true → held ≡ true → (a && d && n && up && kind && held) ≡ true
six a d n up kind held e f g h i j = rw (e, f, g, h, i) j

forward_fits : (s : Settings) (b : Book) (u c k h : ℕ) (sort : OpKind) (l : ConnectionLedger) (v : Conn) → LinkStands s u l.state v → ForwardsTaken l.taken v → v.up ≡ true → v.taken c k ≡ false → serves s u ≡ is_bind_op b c k → kind_of (b.request c k).rest ≡ Some sort
    → (not (is_bind l.state) || is_free_for l.state (name c h) && is_held_for l.state (name c k) (name c h)) ≡ true
    → fits_connection s l (Client c) (real.Forward (name c k) sort (b.request c k).rest (wants_identity s (b.request c k)) (name c h)) ≡ true
forward_fits s b u c k h sort l v link taken up new kind known held =
    six (c == c) (c == c) _ _ _ _ (same_self c) (same_self c) (ap not (taken c k ∙ new)) (link.up ∙ up) (kind_right s b u c k sort l.state v link known kind) held

-- To a regular connection.
pub regular_fits : (s : Settings) (b : Book) (u c : ℕ) (l : ConnectionLedger) (v : Conn) (letter : Letter) (q : List ToConn) → serves s u ≡ false → RegularStands s b u l v → FirstIs (OrderIs s b c) letter q → FitOrder (kinds_of s b) c u v q → Begins v q → fits_connection s l (Client c) letter ≡ true
regular_fits s b u c l v letter [] plain st i f up = absurd i
regular_fits s b u c l v letter (machine.Forward k h ∷ ls) plain st i f up =
    ap (fits_connection s l (Client c)) i.is
    ∙ forward_fits s b u c k h i.kind l v st.link st.taken.forwards up f.0 f.1 i.known (ap (λ (t : Bool). not t || is_free_for l.state (name c h) && is_held_for l.state (name c k) (name c h)) (bind_is s u l.state v st.link ∙ plain))
regular_fits s b u c l v letter (machine.Drop k ∷ ls) plain st i f up =
    ap (fits_connection s l (Client c)) i ∙ and_from (not (is_bind l.state)) _ (ap not (bind_is s u l.state v st.link ∙ plain)) (st.taken.drops c k f.0 f.1)
regular_fits s b u c l v letter (machine.Leave h ∷ ls) plain st i f up = absurd (let bad : false ≡ true = sym plain ∙ f.2 in cc)
regular_fits s b u c l v letter (machine.Signal true ∷ ls) plain st i f up =
    ap (fits_connection s l (Client c)) i
    ∙ and_from (not (is_bind l.state) && (c == c)) _ (and_from (not (is_bind l.state)) (c == c) (ap not (bind_is s u l.state v st.link ∙ plain)) (same_self c)) (ap not (st.taken.pauses c ∙ f.0))
regular_fits s b u c l v letter (machine.Signal false ∷ ls) plain st i f up =
    ap (fits_connection s l (Client c)) i
    ∙ and_from (not (is_bind l.state) && (c == c)) _ (and_from (not (is_bind l.state)) (c == c) (ap not (bind_is s u l.state v st.link ∙ plain)) (same_self c)) (st.taken.pauses c ∙ f.0)

-- To a bind connection.
passes_name : (o : Option Op) (c h : ℕ) → passes (same_op (name c h)) (name_of o) ≡ is o c h
passes_name None c h = refl
passes_name (Some o) c h = refl

no_rows : (s : Settings) (b : Book) (rows : List UpRow) (o : Option Op) → ((a i : ℕ) → is o a i ≡ false) → BindRows s b rows o → (length rows == 0) ≡ true
no_rows s b [] o e h = refl
no_rows s b (r ∷ rs) None e h = absurd h
no_rows s b (r ∷ rs) (Some o) e h = absurd (let bad : true ≡ false = sym (and_from (o.client == o.client) (o.k == o.k) (same_self o.client) (same_self o.k)) ∙ e o.client o.k in cc)

free_holder : (o : Option Op) (c h : ℕ) → ((a i : ℕ) → is o a i ≡ true → (a ≡ c) × (i ≡ h)) → (is_none (name_of o) || passes (same_op (name c h)) (name_of o)) ≡ true
free_holder None c h f = refl
free_holder (Some o) c h f =
    let p = f o.client o.k (and_from (o.client == o.client) (o.k == o.k) (same_self o.client) (same_self o.k)) in
    and_from (c == o.client) (h == o.k) (eq-eqb c o.client (sym p.0)) (eq-eqb h o.k (sym p.1))

free_fits : (s : Settings) (b : Book) (u c h : ℕ) (l : ConnectionLedger) (v : Conn) → BindStands s b u l v → Free v c h → is_free_for l.state (name c h) ≡ true
free_fits s b u c h l v st f = and_from (length l.state.rows == 0) _ (no_rows s b l.state.rows v.now (λ a i. sym (st.live a i) ∙ f.idle a i) st.rows) (ap (λ (o : Option OpName). is_none o || passes (same_op (name c h)) o) st.holder ∙ free_holder v.holder c h f.mine)

one_of : (a d e : Bool) → num a + num d + num e ≡ 1 → (a || d || e) ≡ true
one_of true d e i = refl
one_of false true e i = refl
one_of false false true i = refl
one_of false false false i = absurd (omega arith)

held_fits : (s : Settings) (b : Book) (u c k h : ℕ) (l : ConnectionLedger) (v : Conn) → BindStands s b u l v → Held v c k h → is_held_for l.state (name c k) (name c h) ≡ true
held_fits s b u c k h l v st f =
    (λ i. own i || (ap (passes (same_op (name c h))) st.holder ∙ passes_name v.holder c h) i || (ap (passes (same_op (name c h))) st.lost ∙ passes_name v.lost c h) i)
    ∙ one_of (h == k) (is v.holder c h) (is v.lost c h) f
  where
    own : same_op (name c k) (name c h) ≡ (h == k)
    own = ap (λ (t : Bool). t && (k == h)) (same_self c) ∙ eq_sym k h

pub bind_fits : (s : Settings) (b : Book) (u c : ℕ) (l : ConnectionLedger) (v : Conn) (letter : Letter) (q : List ToConn) → serves s u ≡ true → BindStands s b u l v → ((h : ℕ) (ls : List ToConn) → q ≡ machine.Leave h ∷ ls → b.pinned c h ≡ false) → FirstIs (OrderIs s b c) letter q → FitOrder (kinds_of s b) c u v q → Begins v q → fits_connection s l (Client c) letter ≡ true
bind_fits s b u c l v letter [] serve st heads i f up = absurd i
bind_fits s b u c l v letter (machine.Forward k h ∷ ls) serve st heads i f up =
    let g = f.2 serve in
    ap (fits_connection s l (Client c)) i.is
    ∙ forward_fits s b u c k h i.kind l v st.link st.taken.forwards up f.0 f.1 i.known
    (ap (λ (t : Bool). not t || is_free_for l.state (name c h) && is_held_for l.state (name c k) (name c h)) (bind_is s u l.state v st.link ∙ serve)
    ∙ and_from (is_free_for l.state (name c h)) _ (free_fits s b u c h l v st g.0) (held_fits s b u c k h l v st g.1))
bind_fits s b u c l v letter (machine.Drop k ∷ ls) serve st heads i f up = absurd (let bad : true ≡ false = sym serve ∙ f.2 in cc)
bind_fits s b u c l v letter (machine.Leave h ∷ ls) serve st heads i f up =
    ap (fits_connection s l (Client c)) i ∙ and_from (is_bind l.state) _ (bind_is s u l.state v st.link ∙ serve) (st.taken.leaves c h (heads h ls refl) f.0 f.1)
bind_fits s b u c l v letter (machine.Signal p ∷ ls) serve st heads i f up = absurd (let bad : true ≡ false = sym serve ∙ f.1 in cc)
