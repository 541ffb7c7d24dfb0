-- What is one is the same: kinds, bounds, wants and answers.
use Rattle.std.proofs.Common.{◌≡◌, true, ◌==◌, refl}
use Rattle.lload_names.specs.declared.names.ConnKind.{ConnKind}
use Rattle.lload_names.specs.declared.names.ConnKind.TheVariants.{Regular, Bind}
use Rattle.lload_names.specs.declared.names.Answer.{Answer}
use Rattle.lload_names.specs.declared.names.Answer.TheVariants.{Go, Busy, Unavailable}
use Rattle.lload_names.specs.declared.names.Bound.{Bound}
use Rattle.lload_names.specs.declared.names.Bound.TheVariants.{Free, Backend as ToBackend, Conn as ToConnection}
use Rattle.lload_names.specs.declared.names.Want.{Want}
use Rattle.lload_spec.specs.Settings.{is_kind}
use Rattle.lload_spec.specs.Journal.{same_answer}
use Rattle.lload_spec.specs.Binding.{same_want, same_bound}
use Rattle.lload_spec.proofs.Growth.{both}
use Rattle.part_laws.proofs.ListLaws.{eqb_same}

pub same_kind_refl : (k : ConnKind) → is_kind k k ≡ true
same_kind_refl Regular = refl
same_kind_refl Bind = refl

pub same_bound_refl : (b : Bound) → same_bound b b ≡ true
same_bound_refl Free = refl
same_bound_refl (ToBackend n) = eqb_same n
same_bound_refl (ToConnection n) = eqb_same n

pub same_want_refl : (w : Want) → same_want w w ≡ true
same_want_refl w = both (is_kind w.kind w.kind) _ (same_kind_refl w.kind) (same_bound_refl w.bound)

pub same_answer_refl : (a : Answer) → same_answer a a ≡ true
same_answer_refl (Go n b) = both (n == n) _ (eqb_same n) (eqb_same b)
same_answer_refl Busy = refl
same_answer_refl Unavailable = refl
