use denote.Param.Send.{sendable}
use Rattle.std.proofs.Crossing as heap
use Rattle.net_links.proofs.poller.TcpPoller.TheSendSync as poller
use Rattle.net_links.proofs.poller.TcpWatch.TheSendSync as watch
use Rattle.boxcar.proofs.vec.Vec.TheSendSync as shelves
use Rattle.edge_bench.proofs.Crossing.{over-send, slot-send, slot-sync, house-sync}
use Rattle.edge_bench.proofs.serve.fn.serve_together.scope.Goals as goal

pub spawn-requires-send-F : goal.spawn-requires-send-F
spawn-requires-send-F g c κs within = search (house-sync, poller.the_field_send, poller.the_send, heap.send, c.requires, sendable, heap.crosses, shelves.the_sync, slot-send, slot-sync, over-send, watch.the_field_sync) depth 20 fits 8000
