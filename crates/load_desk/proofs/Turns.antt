-- A rule is the turn of an input.
use Rattle.std.specs.Prelude.{OnOk, OnErr}
use Rattle.std.proofs.Common.{◌≡◌, ℕ, List, [], ◌∷◌, ◌++◌, Option, Result, Ok, Err, refl, sym, ap, subst, ◌∙◌}
use Rattle.std.proofs.lemmas.List.{append-nil}
use Rattle.lload_names.specs.declared.inputs.Input.{Input}
use Rattle.lload_names.specs.declared.names.Answer.{Answer}
use Rattle.lload_names.specs.declared.names.Entry.{Entry}
use Rattle.lload_names.specs.declared.names.Letter.{Letter}
use Rattle.lload_names.specs.declared.names.Letter.TheVariants.{Choice}
use Rattle.lload_names.specs.declared.names.OpName.{OpName}
use Rattle.lload_names.specs.declared.names.PartName.TheVariants.{Client, Desk as DeskPart}
use Rattle.lload_names.specs.declared.names.Posted.{Posted}
use Rattle.lload_names.specs.declared.names.Want.{Want}
use Rattle.lload_names.specs.declared.names.What.TheVariants as what
use Rattle.lload_spec.specs.Settings.{Settings}
use Rattle.part_spec.specs.Inputs.{Act, act, nothing, entries_of, letter_of, moment_for, to}
use Rattle.part_spec.specs.Marked.{Taken}
use Rattle.part_spec.specs.DeskState.{DeskState}
use Rattle.part_spec.specs.DeskTurn.{chooses, desk_act}
use Rattle.outbox.specs.declared.outbox.Outbox.{Outbox}
use Rattle.load_desk.specs.declared.part.Desk.{Desk}
use Rattle.load_desk.specs.Part.{Stands}
use Rattle.load_desk.specs.Did.{Did}
use Rattle.load_desk.specs.States.{with_choice_at, with_heard_at}
use Rattle.load_desk.specs.Turned.{Turned}

-- a letter was heard
pub heard-did : (s : Settings) (p : DeskState) (at : ℕ) (mark : Option Taken) (letter : Letter) (x y z : Outbox) (d : Desk) → y.entries.items ≡ x.entries.items → y.letters.items ≡ x.letters.items → z.entries.items ≡ y.entries.items ++ entries_of DeskPart at (what.Heard letter ∷ []) → z.letters ≡ y.letters → Stands s (with_heard_at s letter at p) d → Did s p at mark (act (what.Heard letter ∷ []) []) x z d
heard-did s p at mark letter x y z d same none put letters h = record {
  entries = put ∙ ap (λ (l : List Entry). l ++ entries_of DeskPart at (what.Heard letter ∷ [])) same;
  letters = ap (λ l. l.items) letters ∙ none ∙ sym (append-nil x.letters.items);
  stands = h;
}

-- an operation was asked for, and a choice was made
pub asked-did : (s : Settings) (p : DeskState) (at : ℕ) (mark : Option Taken) (op : OpName) (want : Want) (word : ℕ) (a b : Answer) (x y z : Outbox) (d : Desk) → a ≡ b → y.entries.items ≡ x.entries.items → y.letters.items ≡ x.letters.items → z.entries.items ≡ y.entries.items ++ entries_of DeskPart at (what.Asked op want ∷ what.Chose op a word ∷ []) → z.letters.items ≡ y.letters.items ++ to (Client op.client) (Choice op a) → Stands s (with_choice_at s op want a at p) d → Did s p at mark (chooses op want b word) x z d
asked-did s p at mark op want word a b x y z d is same none put told h = subst (λ (c : Answer). Did s p at mark (chooses op want c word) x z d) is now
  where
    now : Did s p at mark (chooses op want a word) x z d
    now = record {
      entries = put ∙ ap (λ (l : List Entry). l ++ entries_of DeskPart at (what.Asked op want ∷ what.Chose op a word ∷ [])) same;
      letters = told ∙ ap (λ (l : List Posted). l ++ to (Client op.client) (Choice op a)) none;
      stands = h;
    }

pub did-turned : (s : Settings) (p : DeskState) (input : Input) (at : ℕ) (x z : Outbox) (d : Desk) → at ≡ moment_for p.moment input → Did s p at (letter_of input) (desk_act s p input) x z d → Turned s p input x z d
did-turned s p input at x z d now did =
    let k = subst (λ (t : ℕ). Did s p t (letter_of input) (desk_act s p input) x z d) now did in
    record { entries = k.entries; letters = k.letters; stands = k.stands }

pub did-nothing : (s : Settings) (p : DeskState) (at : ℕ) (mark : Option Taken) (x : Outbox) (d : Desk) → Stands s p d → Did s p at mark nothing x x d
did-nothing s p at mark x d h = record { entries = sym (append-nil x.entries.items); letters = sym (append-nil x.letters.items); stands = h }

-- an input without a rule
pub nothing-turned : (s : Settings) (p : DeskState) (input : Input) (x : Outbox) (d : Desk) → Stands s p d → desk_act s p input ≡ nothing → Turned s p input x x d
nothing-turned s p input x d h none =
    did-turned s p input (moment_for p.moment input) x x d refl (subst (λ (a : Act). Did s p (moment_for p.moment input) (letter_of input) a x x d) (sym none) (did-nothing s p (moment_for p.moment input) (letter_of input) x d h))

pub on-ok : {T E X Y : Type 0} (r : Result T E) → (X → Y) → OnOk r X → OnOk r Y
on-ok (Ok t) f h = f h
on-ok (Err e) f h = h

pub on-err : {T E X Y : Type 0} (r : Result T E) → (X → Y) → OnErr r X → OnErr r Y
on-err (Ok t) f h = h
on-err (Err e) f h = f h
