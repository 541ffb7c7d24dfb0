use Rattle.std.proofs.Common.{◌≡◌, ◌<◌, length, slice_get, nat_lt, true, false, Some, refl, sym, ap, ◌∙◌, arith}
use Rattle.std.proofs.lemmas.Bool.{lt-ltb, le-ltb}
use Rattle.std.proofs.lemmas.Option.{slice_get_read}
use Rattle.desk_choice.proofs.Backends.{no-backend, not-viable, one-backend, one-not-viable}
use Rattle.desk_choice.proofs.tables.Tables.pick_of_backend.Goals as goal

pub returns-in_default : goal.returns-in_default
returns-in_default c = λ s f k. not-viable s f c.args.kind c.args.number (no-backend s f c.args.self.now c.args.kind c.args.number k (λ j x e n. c.in_default.ensures.none refl j x (ap (λ vs. slice_get vs j) c.as_slice.ensures.value ∙ e) n))

pub returns-then-lane-gt0 : goal.returns-then-lane-gt0
returns-then-lane-gt0 c = λ s f k.
    let vs = c.args.self.now.servers.items in
    let within : c.in-Some.index < length vs = omega (arith, c.in-Some.ensures.within _ refl, ap length c.as_slice.ensures.value) in
    let at : slice_get vs c.in-Some.index ≡ Some c.index-server.result.now = slice_get_read vs (length vs) c.in-Some.index c.index-server.result.now refl within c.index-server.ensures in
    let number = c.in-Some.ensures.number _ refl c.index-server.result.now (ap (λ vs. slice_get vs c.in-Some.index) c.as_slice.ensures.value ∙ at) in
    let viable = ap (λ lane. nat_lt 0 lane.viable) (sym c.lane.ensures) ∙ lt-ltb 0 c.lane.result.viable c.if-lane-gt0.true in
    one-backend s f c.args.self.now c.args.kind c.args.number c.in-Some.index c.index-server.result.now c.go.result k at number viable (c.go.ensures s f c.in-Some.index k at)

pub returns-else-lane-gt0 : goal.returns-else-lane-gt0
returns-else-lane-gt0 c = λ s f k.
    let vs = c.args.self.now.servers.items in
    let within : c.in-Some.index < length vs = omega (arith, c.in-Some.ensures.within _ refl, ap length c.as_slice.ensures.value) in
    let at : slice_get vs c.in-Some.index ≡ Some c.index-server.result.now = slice_get_read vs (length vs) c.in-Some.index c.index-server.result.now refl within c.index-server.ensures in
    let number = c.in-Some.ensures.number _ refl c.index-server.result.now (ap (λ vs. slice_get vs c.in-Some.index) c.as_slice.ensures.value ∙ at) in
    let none = ap (λ lane. nat_lt 0 lane.viable) (sym c.lane.ensures) ∙ le-ltb 0 c.lane.result.viable c.if-lane-gt0.false in
    one-not-viable s f c.args.self.now c.args.kind c.args.number c.in-Some.index c.index-server.result.now k at number none
