use Rattle.std.proofs.Common.{◌+◌, refl}
use Rattle.desk_choice.proofs.Tiers.{round-knows, picked-at, picked-nowhere}
use Rattle.desk_choice.proofs.tables.Tables.pick.Goals as goal

pub returns-in-Some-server_of : goal.returns-in-Some-server_of
returns-in-Some-server_of c = λ s f i t k h. picked-at s f c.args.self.now i t c.args.round.now c.args.kind c.args.word c.in-Some.place c.in-Some-server_of.server.now c.go.result k h (c.in-Some.ensures.within _ refl) (c.in-Some.ensures.pick s f c.args.kind t (round-knows s f c.args.self.now i t c.args.round.now k h).tells (c.eligible-eligible.ensures s f i t k h)) c.in-Some-server_of.ensures (c.go.ensures s f (c.args.round.now.first + c.in-Some.place) k c.in-Some-server_of.ensures)

pub returns-in-None : goal.returns-in-None
returns-in-None c = λ s f i t k h. absurd (let bad = picked-nowhere s f c.args.self.now i t c.args.round.now c.in-Some.place k h (c.in-Some.ensures.within _ refl) c.in-None.ensures in cc)
