-- What is known of a message by what it tells.
use Rattle.std.proofs.Common.{◌≡◌, ℕ, Bool, true, false, ◌==◌, ◌&&◌, not, Option, Some, None, refl}
use Rattle.std.specs.Prelude.{is_none}
use Rattle.bind_conn.specs.Told.{told_by, who_by}
use Rattle.bind_conn.specs.declared.told.Told.{Told}
use Rattle.bind_conn.specs.declared.told.Told.TheVariants.{Unfit, More, Going, Success, Done}
use Rattle.bind_conn.specs.declared.told.WhoTold.TheVariants as who

-- whether a result is this code
abbrev pub has : ℕ → Option ℕ → Bool
has n c = elim c [ None ↦ false | Some code ↦ code == n ]

abbrev code_by : Bool → Bool → Told
code_by p q = elim p [ true ↦ Going | false ↦ elim q [ true ↦ Success | false ↦ Done ] ]

code-more : (p q : Bool) (t : Told) → code_by p q ≡ t → (t ≡ More) → false ≡ true
code-more true q t h e = absurd (let bad : Going ≡ More = cc in cc)
code-more false true t h e = absurd (let bad : Success ≡ More = cc in cc)
code-more false false t h e = absurd (let bad : Done ≡ More = cc in cc)

code-unfit : (p q : Bool) → code_by p q ≡ Unfit → false ≡ true
code-unfit true q h = absurd (let bad : Going ≡ Unfit = h in cc)
code-unfit false true h = absurd (let bad : Success ≡ Unfit = h in cc)
code-unfit false false h = absurd (let bad : Done ≡ Unfit = h in cc)

code-going : (p q : Bool) → code_by p q ≡ Going → p ≡ true
code-going true q h = refl
code-going false true h = absurd (let bad : Success ≡ Going = h in cc)
code-going false false h = absurd (let bad : Done ≡ Going = h in cc)

code-success : (p q : Bool) → code_by p q ≡ Success → (p ≡ false) × (q ≡ true)
code-success true q h = absurd (let bad : Going ≡ Success = h in cc)
code-success false true h = (refl, refl)
code-success false false h = absurd (let bad : Done ≡ Success = h in cc)

code-done : (p q : Bool) → code_by p q ≡ Done → (p ≡ false) × (q ≡ false)
code-done true q h = absurd (let bad : Going ≡ Done = h in cc)
code-done false true h = absurd (let bad : Success ≡ Done = h in cc)
code-done false false h = (refl, refl)

pub more-is : (asks i f : Bool) (c : Option ℕ) → told_by asks i f c ≡ More → i ≡ true
more-is asks true f c h = refl
more-is asks false false c h = absurd (let bad : Unfit ≡ More = h in cc)
more-is asks false true None h = absurd (let bad : Unfit ≡ More = h in cc)
more-is asks false true (Some code) h = absurd (let bad : false ≡ true = code-more (code == 14) (asks && code == 0) More h refl in cc)

pub unfit-is : (asks i f : Bool) (c : Option ℕ) → told_by asks i f c ≡ Unfit → (i ≡ false) × ((f && not (is_none c)) ≡ false)
unfit-is asks true f c h = absurd (let bad : More ≡ Unfit = h in cc)
unfit-is asks false false c h = (refl, refl)
unfit-is asks false true None h = (refl, refl)
unfit-is asks false true (Some code) h = absurd (let bad : false ≡ true = code-unfit (code == 14) (asks && code == 0) h in cc)

-- a final answer whose code can be read
pub record IsRead (i f : Bool) (c : Option ℕ) : Type 0 where
  pub part : i ≡ false
  pub final : f ≡ true
  pub coded : is_none c ≡ false

pub going-is : (asks i f : Bool) (c : Option ℕ) → told_by asks i f c ≡ Going → IsRead i f c × (has 14 c ≡ true)
going-is asks true f c h = absurd (let bad : More ≡ Going = h in cc)
going-is asks false false c h = absurd (let bad : Unfit ≡ Going = h in cc)
going-is asks false true None h = absurd (let bad : Unfit ≡ Going = h in cc)
going-is asks false true (Some code) h = (record { part = refl; final = refl; coded = refl }, code-going (code == 14) (asks && code == 0) h)

pub success-is : (asks i f : Bool) (c : Option ℕ) → told_by asks i f c ≡ Success → IsRead i f c × (has 14 c ≡ false) × ((asks && has 0 c) ≡ true)
success-is asks true f c h = absurd (let bad : More ≡ Success = h in cc)
success-is asks false false c h = absurd (let bad : Unfit ≡ Success = h in cc)
success-is asks false true None h = absurd (let bad : Unfit ≡ Success = h in cc)
success-is asks false true (Some code) h = let t = code-success (code == 14) (asks && code == 0) h in (record { part = refl; final = refl; coded = refl }, t.0, t.1)

pub done-is : (asks i f : Bool) (c : Option ℕ) → told_by asks i f c ≡ Done → IsRead i f c × (has 14 c ≡ false) × ((asks && has 0 c) ≡ false)
done-is asks true f c h = absurd (let bad : More ≡ Done = h in cc)
done-is asks false false c h = absurd (let bad : Unfit ≡ Done = h in cc)
done-is asks false true None h = absurd (let bad : Unfit ≡ Done = h in cc)
done-is asks false true (Some code) h = let t = code-done (code == 14) (asks && code == 0) h in (record { part = refl; final = refl; coded = refl }, t.0, t.1)

-- and of a Who Am I

pub who-more-is : (i x t : Bool) → who_by i x t ≡ who.More → i ≡ true
who-more-is true x t h = refl
who-more-is false false t h = absurd (let bad : who.Unfit ≡ who.More = h in cc)
who-more-is false true true h = absurd (let bad : who.Tells ≡ who.More = h in cc)
who-more-is false true false h = absurd (let bad : who.Refuses ≡ who.More = h in cc)

pub who-unfit-is : (i x t : Bool) → who_by i x t ≡ who.Unfit → (i ≡ false) × (x ≡ false)
who-unfit-is true x t h = absurd (let bad : who.More ≡ who.Unfit = h in cc)
who-unfit-is false false t h = (refl, refl)
who-unfit-is false true true h = absurd (let bad : who.Tells ≡ who.Unfit = h in cc)
who-unfit-is false true false h = absurd (let bad : who.Refuses ≡ who.Unfit = h in cc)

pub who-tells-is : (i x t : Bool) → who_by i x t ≡ who.Tells → (i ≡ false) × (x ≡ true) × (t ≡ true)
who-tells-is true x t h = absurd (let bad : who.More ≡ who.Tells = h in cc)
who-tells-is false false t h = absurd (let bad : who.Unfit ≡ who.Tells = h in cc)
who-tells-is false true true h = (refl, refl, refl)
who-tells-is false true false h = absurd (let bad : who.Refuses ≡ who.Tells = h in cc)

pub who-refuses-is : (i x t : Bool) → who_by i x t ≡ who.Refuses → (i ≡ false) × (x ≡ true) × (t ≡ false)
who-refuses-is true x t h = absurd (let bad : who.More ≡ who.Refuses = h in cc)
who-refuses-is false false t h = absurd (let bad : who.Unfit ≡ who.Refuses = h in cc)
who-refuses-is false true true h = absurd (let bad : who.Tells ≡ who.Refuses = h in cc)
who-refuses-is false true false h = (refl, refl, refl)
