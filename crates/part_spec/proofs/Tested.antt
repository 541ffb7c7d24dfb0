-- Each share and its computed test say the same.
use Rattle.std.proofs.Common.{List}
use Rattle.std.specs.Prelude.{◌↔◌, IsTrue}
use Rattle.lload_spec.proofs.Growth.{left, right, both}
use Rattle.lload_names.specs.declared.names.PartName.{PartName}
use Rattle.lload_names.specs.declared.names.PartName.TheVariants.{Desk, Client, Up as Connection}
use Rattle.lload_spec.specs.Settings.{Settings}
use Rattle.part_spec.specs.Marked.{Marked}
use Rattle.part_spec.specs.Fit.{fit_beginning}
use Rattle.part_spec.specs.Share.{PartShare, keeps_part_share}
use Rattle.part_spec.specs.Laws.{ClientTested, ConnectionTested, DeskTested, ShareTested}

pub client_tested : ClientTested
client_tested s c list = (
  λ r. both _ _ (both _ _ (both _ _ (both _ _ (both _ _ (both _ _ (both _ _ (both _ _ (both _ _ (both _ _ (both _ _ (both _ _ (both _ _ r.marks r.answered) r.ended_once) r.outs_owned) r.refusals) r.checks) r.busy) r.unavailable) r.gone) r.late) r.stalls) r.moments) r.life) r.successes_known,
  λ h. record {
    marks = left _ _ (left _ _ (left _ _ (left _ _ (left _ _ (left _ _ (left _ _ (left _ _ (left _ _ (left _ _ (left _ _ (left _ _ (left _ _ h))))))))))));
    answered = right _ _ (left _ _ (left _ _ (left _ _ (left _ _ (left _ _ (left _ _ (left _ _ (left _ _ (left _ _ (left _ _ (left _ _ (left _ _ h))))))))))));
    ended_once = right _ _ (left _ _ (left _ _ (left _ _ (left _ _ (left _ _ (left _ _ (left _ _ (left _ _ (left _ _ (left _ _ (left _ _ h)))))))))));
    outs_owned = right _ _ (left _ _ (left _ _ (left _ _ (left _ _ (left _ _ (left _ _ (left _ _ (left _ _ (left _ _ (left _ _ h))))))))));
    refusals = right _ _ (left _ _ (left _ _ (left _ _ (left _ _ (left _ _ (left _ _ (left _ _ (left _ _ (left _ _ h)))))))));
    checks = right _ _ (left _ _ (left _ _ (left _ _ (left _ _ (left _ _ (left _ _ (left _ _ (left _ _ h))))))));
    busy = right _ _ (left _ _ (left _ _ (left _ _ (left _ _ (left _ _ (left _ _ (left _ _ h)))))));
    unavailable = right _ _ (left _ _ (left _ _ (left _ _ (left _ _ (left _ _ (left _ _ h))))));
    gone = right _ _ (left _ _ (left _ _ (left _ _ (left _ _ (left _ _ h)))));
    late = right _ _ (left _ _ (left _ _ (left _ _ (left _ _ h))));
    stalls = right _ _ (left _ _ (left _ _ (left _ _ h)));
    moments = right _ _ (left _ _ (left _ _ h));
    life = right _ _ (left _ _ h);
    successes_known = right _ _ h;
  },
)

pub connection_tested : ConnectionTested
connection_tested s u list = (
  λ r. both _ _ (both _ _ (both _ _ (both _ _ (both _ _ (both _ _ (both _ _ (both _ _ (both _ _ (both _ _ (both _ _ (both _ _ (both _ _ (both _ _ r.marks r.ids_right) r.passed) r.sent_once) r.own_reasoned) r.ups) r.retirements) r.own_bind_ends) r.expired) r.missed) r.idle) r.bad_messages) r.downs) r.moments) r.life,
  λ h. record {
    marks = left _ _ (left _ _ (left _ _ (left _ _ (left _ _ (left _ _ (left _ _ (left _ _ (left _ _ (left _ _ (left _ _ (left _ _ (left _ _ (left _ _ h)))))))))))));
    ids_right = right _ _ (left _ _ (left _ _ (left _ _ (left _ _ (left _ _ (left _ _ (left _ _ (left _ _ (left _ _ (left _ _ (left _ _ (left _ _ (left _ _ h)))))))))))));
    passed = right _ _ (left _ _ (left _ _ (left _ _ (left _ _ (left _ _ (left _ _ (left _ _ (left _ _ (left _ _ (left _ _ (left _ _ (left _ _ h))))))))))));
    sent_once = right _ _ (left _ _ (left _ _ (left _ _ (left _ _ (left _ _ (left _ _ (left _ _ (left _ _ (left _ _ (left _ _ (left _ _ h)))))))))));
    own_reasoned = right _ _ (left _ _ (left _ _ (left _ _ (left _ _ (left _ _ (left _ _ (left _ _ (left _ _ (left _ _ (left _ _ h))))))))));
    ups = right _ _ (left _ _ (left _ _ (left _ _ (left _ _ (left _ _ (left _ _ (left _ _ (left _ _ (left _ _ h)))))))));
    retirements = right _ _ (left _ _ (left _ _ (left _ _ (left _ _ (left _ _ (left _ _ (left _ _ (left _ _ h))))))));
    own_bind_ends = right _ _ (left _ _ (left _ _ (left _ _ (left _ _ (left _ _ (left _ _ (left _ _ h)))))));
    expired = right _ _ (left _ _ (left _ _ (left _ _ (left _ _ (left _ _ (left _ _ h))))));
    missed = right _ _ (left _ _ (left _ _ (left _ _ (left _ _ (left _ _ h)))));
    idle = right _ _ (left _ _ (left _ _ (left _ _ (left _ _ h))));
    bad_messages = right _ _ (left _ _ (left _ _ (left _ _ h)));
    downs = right _ _ (left _ _ (left _ _ h));
    moments = right _ _ (left _ _ h);
    life = right _ _ h;
  },
)

pub desk_tested : DeskTested
desk_tested s list = (
  λ r. both _ _ (both _ _ (both _ _ r.marks r.choices) r.moments) r.life,
  λ h. record {
    marks = left _ _ (left _ _ (left _ _ h));
    choices = right _ _ (left _ _ (left _ _ h));
    moments = right _ _ (left _ _ h);
    life = right _ _ h;
  },
)

part_tested : (s : Settings) (p : PartName) (list : List Marked) → PartShare s p list ↔ IsTrue (keeps_part_share s p list)
part_tested s Desk list = desk_tested s list
part_tested s (Client c) list = client_tested s c list
part_tested s (Connection u) list = connection_tested s u list

pub share_tested : ShareTested
share_tested s p list = part_tested s p (fit_beginning s p list)
