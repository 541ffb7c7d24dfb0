-- A client writes to no client, a connection to no connection, and the desk to clients alone.
use Rattle.std.proofs.Common.{◌≡◌, Bool, true, false, List, [], ◌∷◌, ◌++◌, Option, Some, None, refl, ◌∙◌}
use Rattle.std.specs.Prelude.{flat_map}
use Rattle.lload_names.specs.declared.names.PartName.{PartName}
use Rattle.lload_names.specs.declared.names.Posted.{Posted}
use Rattle.part_spec.specs.Inputs.{Act, where_so}
use Rattle.part_spec.specs.Marked.{letters_to}
use Rattle.link_laws.proofs.Links.{letters_more}

-- whether none of these letters goes to a part, and none of an act
abbrev pub NoneTo : PartName → List Posted → Type 0
NoneTo q xs = letters_to q xs ≡ []

abbrev pub WritesNone : PartName → Act → Type 0
WritesNone q a = NoneTo q a.letters

pub none_more : (q : PartName) (xs ys : List Posted) → NoneTo q xs → NoneTo q ys → NoneTo q (xs ++ ys)
none_more q xs ys e f = letters_more q xs ys ∙ (λ i. e i ++ f i)

pub none_either : (q : PartName) (t : Bool) (xs ys : List Posted) → NoneTo q xs → NoneTo q ys → NoneTo q (elim t [ true ↦ xs | false ↦ ys ])
none_either q true xs ys e f = e
none_either q false xs ys e f = f

pub none_maybe : {A : Type 0} (q : PartName) (o : Option A) (f : A → List Posted) → ((x : A) → NoneTo q (f x)) → NoneTo q (elim o [ None ↦ [] | Some x ↦ f x ])
none_maybe q None f e = refl
none_maybe q (Some x) f e = e x

pub none_each : {A : Type 0} (q : PartName) (f : A → List Posted) (xs : List A) → ((x : A) → NoneTo q (f x)) → NoneTo q (flat_map f xs)
none_each q f [] e = refl
none_each q f (x ∷ xs) e = none_more q (f x) (flat_map f xs) (e x) (none_each q f xs e)

pub none_so : (q : PartName) (t : Bool) (a : Act) → WritesNone q a → WritesNone q (where_so t a)
none_so q true a e = e
none_so q false a e = refl

pub none_act : (q : PartName) (t : Bool) (a b : Act) → WritesNone q a → WritesNone q b → WritesNone q (elim t [ true ↦ a | false ↦ b ])
none_act q true a b e f = e
none_act q false a b e f = f

pub none_found : {A : Type 0} (q : PartName) (o : Option A) (a : Act) (f : A → Act) → WritesNone q a → ((x : A) → WritesNone q (f x)) → WritesNone q (elim o [ None ↦ a | Some x ↦ f x ])
none_found q None a f e g = e
none_found q (Some x) a f e g = g x
