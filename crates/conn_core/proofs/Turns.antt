-- A rule with the drain behind it is the turn of an input.
use Rattle.std.proofs.Common.{◌≡◌, ℕ, Bool, true, false, ◌&&◌, not, List, [], ◌∷◌, ◌++◌, Option, Some, None, Result, Ok, Err, refl, ap, ◌∙◌, sym, subst}
use Rattle.std.proofs.lemmas.List.{append-nil}
use Rattle.std.specs.Prelude.{OnOk}
use Rattle.lload_names.specs.declared.names.ConnKind.{ConnKind}
use Rattle.lload_names.specs.declared.names.ConnKind.TheVariants.{Regular, Bind as BindKind}
use Rattle.lload_names.specs.declared.names.Entry.{Entry}
use Rattle.lload_names.specs.declared.names.PartName.TheVariants.{Desk, Up as Connection}
use Rattle.lload_names.specs.declared.names.Posted.{Posted}
use Rattle.lload_names.specs.declared.names.Letter.TheVariants.{IsDown}
use Rattle.lload_names.specs.declared.names.EndWhy.TheVariants.{Drained}
use Rattle.lload_names.specs.declared.names.What.{What}
use Rattle.lload_names.specs.declared.names.What.TheVariants as what
use Rattle.lload_names.specs.declared.inputs.Input.{Input}
use Rattle.lload_names.specs.declared.inputs.Effects.{Effects}
use Rattle.lload_names.specs.declared.plans.Place.{Place}
use Rattle.lload_names.specs.Same.{is_kind}
use Rattle.lload_spec.specs.Settings.{Settings, is_of_kind, place_at}
use Rattle.part_spec.specs.Marked.{Marked, Taken}
use Rattle.part_spec.specs.Inputs.{Act, act, also, nothing, to, entries_of, effects_of, marked_by, moment_for, letter_of}
use Rattle.part_spec.specs.ConnectionState.{ConnectionState, connection_behind, step_connection, step_connections}
use Rattle.part_spec.specs.ConnectionTurn.{behind_act, is_drained, with_drained}
use Rattle.part_spec.specs.RegularTurn.{regular_act, regular_rule}
use Rattle.part_spec.specs.BindTurn.{bind_act, bind_rule}
use Rattle.part_spec.specs.Turn.{connection_act, connection_turn}
use Rattle.outbox.specs.declared.outbox.Outbox.{Outbox}
use Rattle.conn_core.specs.Did.{Did}
use Rattle.conn_core.specs.Turned.{Turned, behind, drained_act}
use Rattle.conn_core.proofs.Joined.{did-also, did-nothing}

pub on-ok : {T E X Y : Type 0} (r : Result T E) → (X → Y) → OnOk r X → OnOk r Y
on-ok (Ok t) f h = f h
on-ok (Err e) f h = h

-- The number stays.
number-step : (s : Settings) (e : Entry) (mark : Option Taken) (p : ConnectionState) (w : What) → (connection_behind s e mark p w).number ≡ p.number
number-step s e mark p what.Linked = refl
number-step s e mark p _ = refl

number-steps : (s : Settings) (p : ConnectionState) (ms : List Marked) → (step_connections s p ms).number ≡ p.number
number-steps s p [] = refl
number-steps s p (m ∷ ms) = number-steps s (step_connection s p m) ms ∙ number-step s m.entry m.mark p m.entry.what

-- A rule, and the drain behind it.
abbrev end_act : ℕ → Act
end_act n = act (what.Down Drained ∷ []) (to Desk (IsDown n))

abbrev drained_by : Bool → ℕ → Act
drained_by b n = elim b [ true ↦ end_act n | false ↦ nothing ]

still : (s : Settings) (p q r : ConnectionState) (at : ℕ) (mark : Option Taken) (a : Act) (x y z : Outbox) → Did s p at mark a x y q → Did s q at None nothing y z r → Did s p at mark a x z r
still s p q r at mark a x y z d e = record {
  entries = e.entries ∙ append-nil y.entries.items ∙ d.entries;
  letters = e.letters ∙ append-nil y.letters.items ∙ d.letters;
  behind = e.behind ∙ d.behind;
}

by-drain : (s : Settings) (p q r : ConnectionState) (at : ℕ) (mark : Option Taken) (ws : List What) (ls : List Posted) (x y z : Outbox) → is_drained p ≡ false → Did s p at mark (act ws ls) x y q → Did s q at None (drained_act q) y z r → Did s p at mark (with_drained s at mark p (act ws ls)) x z r
by-drain s p q r at mark [] ls x y z und d e =
    let a : Act = act [] ls in
    subst (λ (b : Bool). Did s p at mark (elim b [ true ↦ also a (end_act p.number) | false ↦ a ]) x z r) (sym und)
    (still s p q r at mark a x y z d (subst (λ (b : Act). Did s q at None b y z r) (ap (λ (b : Bool). drained_by b q.number) (ap is_drained d.behind ∙ und)) e))
by-drain s p q r at mark (w ∷ ws) ls x y z und d e = by (is_drained (behind_act s at mark p (act (w ∷ ws) ls))) refl
  where
    number : q.number ≡ p.number
    number = ap (λ (v : ConnectionState). v.number) d.behind ∙ number-steps s p (marked_by mark (entries_of (Connection p.number) at (w ∷ ws)))

    by : (b : Bool) → is_drained (behind_act s at mark p (act (w ∷ ws) ls)) ≡ b → Did s p at mark (elim b [ true ↦ also (act (w ∷ ws) ls) (end_act p.number) | false ↦ act (w ∷ ws) ls ]) x z r
    by true t =
        let is : drained_act q ≡ end_act p.number = ap (λ (b : Bool). drained_by b q.number) (ap is_drained d.behind ∙ t) ∙ ap end_act number in
        did-also s p q r at mark w ws (act (w ∷ ws) ls) (end_act p.number) x y z refl number d (subst (λ (b : Act). Did s q at None b y z r) is e)
    by false t =
        let is : drained_act q ≡ nothing = ap (λ (b : Bool). drained_by b q.number) (ap is_drained d.behind ∙ t) in
        still s p q r at mark (act (w ∷ ws) ls) x y z d (subst (λ (b : Act). Did s q at None b y z r) is e)

pub did-drained : (s : Settings) (p q r : ConnectionState) (at : ℕ) (mark : Option Taken) (a : Act) (x y z : Outbox) → is_drained p ≡ false → Did s p at mark a x y q → Did s q at None (drained_act q) y z r → Did s p at mark (with_drained s at mark p a) x z r
did-drained s p q r at mark a x y z und d e = by-drain s p q r at mark a.whats a.letters x y z und d e

-- a connection that has ended isn't drained
pub down-undrained : (r a b : Bool) → (r && false && a && b) ≡ false
down-undrained true a b = refl
down-undrained false a b = refl

-- The turn.
placed-act : (k : ConnKind) (o : Option Place) (a : Act) → (let b : Bool = elim o [ None ↦ false | Some p ↦ is_kind k p.kind ] in b) ≡ true → (let b : Act = elim o [ None ↦ nothing | Some p ↦ a ] in b) ≡ a
placed-act k None a h = absurd (let bad : false ≡ true = h in cc)
placed-act k (Some p) a h = refl

pub turn-is : (s : Settings) (k : ConnKind) (p : ConnectionState) (input : Input) → is_of_kind s k p.number ≡ true → connection_turn s p input ≡ effects_of (Connection p.number) (moment_for p.moment input) (connection_act s p (moment_for p.moment input) input)
turn-is s k p input placed = ap (effects_of (Connection p.number) (moment_for p.moment input)) (placed-act k (place_at s p.number) (connection_act s p (moment_for p.moment input) input) placed)

abbrev act_by : Settings → ConnectionState → ℕ → Input → ConnKind → Act
act_by s p at input k = elim k [ Regular ↦ regular_act s p at input | BindKind ↦ bind_act s p at input ]

-- a rule of either kind
pub regular-act : (s : Settings) (p : ConnectionState) (at : ℕ) (input : Input) (a : Act) → p.kind ≡ Regular → regular_rule s p at input ≡ a → connection_act s p at input ≡ with_drained s at (letter_of input) p a
regular-act s p at input a kind rule = ap (act_by s p at input) kind ∙ ap (with_drained s at (letter_of input) p) rule

pub bind-act : (s : Settings) (p : ConnectionState) (at : ℕ) (input : Input) (a : Act) → p.kind ≡ BindKind → bind_rule s p at input ≡ a → connection_act s p at input ≡ with_drained s at (letter_of input) p a
bind-act s p at input a kind rule = ap (act_by s p at input) kind ∙ ap (with_drained s at (letter_of input) p) rule

did-turned : (s : Settings) (p r : ConnectionState) (input : Input) (x z : Outbox) (a : Act) (Stands : ConnectionState → Type 0) → connection_turn s p input ≡ effects_of (Connection p.number) (moment_for p.moment input) a → Did s p (moment_for p.moment input) (letter_of input) a x z r → (behind s p input ≡ r → Stands (behind s p input)) → Turned s p input x z Stands
did-turned s p r input x z a Stands is d stands = record {
  entries = d.entries ∙ sym (ap (λ (e : Effects). x.entries.items ++ e.entries) is);
  letters = d.letters ∙ sym (ap (λ (e : Effects). x.letters.items ++ e.letters) is);
  stands = stands (ap (λ (e : Effects). step_connections s p (marked_by (letter_of input) e.entries)) is ∙ sym d.behind);
}

-- a rule with the drain behind it
pub step-turned : (s : Settings) (k : ConnKind) (p q r : ConnectionState) (input : Input) (x y z : Outbox) (at : ℕ) (a : Act) (Stands : ConnectionState → Type 0) → is_of_kind s k p.number ≡ true → is_drained p ≡ false → at ≡ moment_for p.moment input → connection_act s p at input ≡ with_drained s at (letter_of input) p a → Did s p at (letter_of input) a x y q → Did s q at None (drained_act q) y z r → (behind s p input ≡ r → Stands (behind s p input)) → Turned s p input x z Stands
step-turned s k p q r input x y z at a Stands placed went now rule d e stands =
    let mark : Option Taken = letter_of input in
    let all : Did s p at mark (connection_act s p at input) x z r = subst (λ (b : Act). Did s p at mark b x z r) (sym rule) (did-drained s p q r at mark a x y z went d e) in
    did-turned s p r input x z (connection_act s p (moment_for p.moment input) input) Stands (turn-is s k p input placed) (subst (λ t. Did s p t mark (connection_act s p t input) x z r) now all) stands

-- an input without a rule
pub nothing-turned : (s : Settings) (k : ConnKind) (p : ConnectionState) (input : Input) (x : Outbox) (Stands : ConnectionState → Type 0) → is_of_kind s k p.number ≡ true → is_drained p ≡ false → connection_act s p (moment_for p.moment input) input ≡ with_drained s (moment_for p.moment input) (letter_of input) p nothing → (behind s p input ≡ p → Stands (behind s p input)) → Turned s p input x x Stands
nothing-turned s k p input x Stands placed went rule stands =
    let at : ℕ = moment_for p.moment input in
    step-turned s k p p p input x x x at nothing Stands placed went refl rule (did-nothing s p at (letter_of input) x) (subst (λ (b : Act). Did s p at None b x x p) (sym (ap (λ (b : Bool). drained_by b p.number) went)) (did-nothing s p at None x)) stands

-- Which inputs have a rule.
pub present : (l d : Bool) → l ≡ true → d ≡ false → (l && not d) ≡ true
present l d h i = ap (λ b. b && not d) h ∙ ap not i

pub unlinked : (l d : Bool) → l ≡ false → (l && not d) ≡ false
unlinked l d h = ap (λ b. b && not d) h

pub fallen : (l d : Bool) → d ≡ true → (l && not d) ≡ false
fallen true d h = ap not h
fallen false d h = refl
