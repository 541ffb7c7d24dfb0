-- The turns of inputs.
use Rattle.std.proofs.Common.{◌≡◌, ℕ, max, true, false, List, [], ◌∷◌, ◌++◌, Option, Some, None, Result, Ok, Err, refl, ap, subst, sym, ◌∙◌, append-nil}
use Rattle.std.specs.Result.{OnOk}
use Rattle.lload_names.specs.declared.inputs.Input.{Input}
use Rattle.lload_spec.specs.Settings.{Settings}
use Rattle.part_spec.specs.Inputs.{Act, nothing, moment_for, letter_of}
use Rattle.part_spec.specs.ClientState.{ClientState}
use Rattle.part_spec.specs.ClientTurn.{client_act}
use Rattle.outbox.specs.declared.outbox.Outbox.{Outbox}
use Rattle.client_session.specs.Did.{Did, Turned}
use Rattle.client_session.specs.declared.part.ClientPart.{ClientPart}
use Rattle.client_session.specs.Stands.{Stands}

-- what a rule made at the moment of an input is its turn
pub turned-by : (s : Settings) (p : ClientState) (input : Input) (at : ℕ) (old new : Outbox) (d : ClientPart) → at ≡ moment_for p.moment input → Did s p at (letter_of input) (client_act s p at input) old new d → Turned s p input old new d
turned-by s p input at old new d e h =
    let did = subst (λ (t : ℕ). Did s p t (letter_of input) (client_act s p t input) old new d) e h in
    record { entries = did.entries; letters = did.letters; stands = did.stands }

-- an input without a rule
pub turned-none : (s : Settings) (p : ClientState) (input : Input) (old : Outbox) (d : ClientPart) → client_act s p (moment_for p.moment input) input ≡ nothing → Stands s p d → Turned s p input old old d
turned-none s p input old d e h =
    let did = subst (λ (a : Act). Did s p (moment_for p.moment input) (letter_of input) a old old d) (sym e) (record { entries = sym (append-nil old.entries.items); letters = sym (append-nil old.letters.items); stands = h }) in
    record { entries = did.entries; letters = did.letters; stands = did.stands }

pub on-ok-all : {T E X Y Z W : Type 0} (r : Result T E) → (X → Y → Z → W) → OnOk r X → OnOk r Y → OnOk r Z → OnOk r W
on-ok-all (Ok t) f x y z = f x y z
on-ok-all (Err e) f x y z = x
