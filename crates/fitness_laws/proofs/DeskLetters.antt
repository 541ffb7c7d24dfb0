-- The letters to the desk are fit.
use Rattle.std.proofs.Common.{◌≡◌, ℕ, Bool, true, false, ◌==◌, ◌&&◌, not, List, [], ◌∷◌, refl, ap, ◌∙◌}
use Rattle.std.specs.Prelude.{◌||◌, is_some}
use Rattle.std.specs.List.{list_any}
use Rattle.std.proofs.lemmas.Bool.{and_from}
use Rattle.lload_names.specs.declared.names.Letter.{Letter}
use Rattle.lload_names.specs.declared.names.PartName.TheVariants.{Client, Up as Connection}
use Rattle.lload_spec.specs.News.{tells_down, tells_retired, tells_stopped, tells_up}
use Rattle.lload_spec.specs.Settings.{Settings, place_at}
use Rattle.part_spec.specs.Fit.{DeskLedger, fits_desk}
use Rattle.part_spec.specs.Marked.{Taken}
use Rattle.move_laws.specs.World.{Desk, ToDesk, Report}
use Rattle.move_laws.specs.World as machine
use Rattle.move_laws.specs.Fit.{FitAsk, FitReport}
use Rattle.stands_laws.specs.Lists.{FirstIs}
use Rattle.stands_laws.specs.Books.{Book}
use Rattle.stands_laws.specs.Letters.{AskIs, ReportIs}
use Rattle.stands_laws.specs.DeskStands.{DeskStands}
use Rattle.stands_laws.proofs.Tests.{same_self}

pub ask_fits : (s : Settings) (b : Book) (c : ℕ) (l : DeskLedger) (d : Desk) (letter : Letter) (q : List ToDesk) → DeskStands b l d → FirstIs (AskIs b c) letter q → FitAsk c d q → fits_desk s l (Client c) letter ≡ true
ask_fits s b c l d letter [] h i f = absurd i
ask_fits s b c l d letter (machine.Ask k ∷ ls) h i f = ap (fits_desk s l (Client c)) i.is ∙ and_from (c == c) _ (same_self c) (ap not (h.took c k ∙ f))
ask_fits s b c l d letter (machine.Returned k u ∷ ls) h i f = ap (fits_desk s l (Client c)) i ∙ and_from (c == c) _ (same_self c) (h.pending c k u ∙ f)

-- where neither was told
neither : (first second : Letter → Bool) (taken : List Taken) → list_any (λ t. first t.letter) taken ≡ false → list_any (λ t. second t.letter) taken ≡ false → list_any (λ t. first t.letter || second t.letter) taken ≡ false
neither first second [] e f = refl
neither first second (t ∷ ts) e f = go (first t.letter) (second t.letter) e f (neither first second ts)
  where
    go : (p q : Bool) → (p || list_any (λ t. first t.letter) ts) ≡ false → (q || list_any (λ t. second t.letter) ts) ≡ false → (list_any (λ t. first t.letter) ts ≡ false → list_any (λ t. second t.letter) ts ≡ false → list_any (λ t. first t.letter || second t.letter) ts ≡ false) → ((p || q) || list_any (λ t. first t.letter || second t.letter) ts) ≡ false
    go true q e f ih = absurd (let bad : true ≡ false = e in cc)
    go false true e f ih = absurd (let bad : true ≡ false = f in cc)
    go false false e f ih = ih e f

here : (s : Settings) (u : ℕ) → is_some (place_at s u) ≡ true → ((u == u) && is_some (place_at s u)) ≡ true
here s u e = and_from (u == u) (is_some (place_at s u)) (same_self u) e

pub report_fits : (s : Settings) (b : Book) (u : ℕ) (l : DeskLedger) (d : Desk) (letter : Letter) (q : List Report) → DeskStands b l d → is_some (place_at s u) ≡ true → FirstIs (ReportIs u) letter q → FitReport u d q → fits_desk s l (Connection u) letter ≡ true
report_fits s b u l d letter [] h place i f = absurd i
report_fits s b u l d letter (machine.Ended c k ∷ ls) h place i f = ap (fits_desk s l (Connection u)) i.is ∙ and_from (u == u) _ (same_self u) (h.pending c k u ∙ f)
report_fits s b u l d letter (machine.IsUp ∷ ls) h place i f =
    ap (fits_desk s l (Connection u)) i
    ∙ and_from ((u == u) && is_some (place_at s u)) _ (here s u place) (ap not (neither (tells_up u) (tells_stopped u) l.taken (h.ups u ∙ f.0) (neither (tells_retired u) (tells_down u) l.taken (h.retireds u ∙ f.1) (h.downs u ∙ f.2))))
report_fits s b u l d letter (machine.IsRetired ∷ ls) h place i f =
    ap (fits_desk s l (Connection u)) i
    ∙ and_from ((u == u) && is_some (place_at s u)) _ (here s u place) (ap not (neither (tells_retired u) (tells_down u) l.taken (h.retireds u ∙ f.0) (h.downs u ∙ f.1)))
report_fits s b u l d letter (machine.IsDown ∷ ls) h place i f =
    ap (fits_desk s l (Connection u)) i ∙ and_from ((u == u) && is_some (place_at s u)) _ (here s u place) (ap not (h.downs u ∙ f))
