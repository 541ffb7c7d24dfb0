-- What the threads share, and what goes from one to another.
use denote.Param.Send.{IsSend, IsSync, sendable}
use Rattle.std.proofs.Crossing as heap
use Rattle.mio.proofs.net.stream.TcpStream.TheSendSync as stream
use Rattle.lload_links.proofs.link.Origin.TheSendSync as origin
use Rattle.net_links.proofs.poller.TcpWatch.TheSendSync as watch
use Rattle.boxcar.proofs.vec.Vec.TheSendSync as shelves
use Rattle.edge_bench.specs.contracts.slots.Session as Session
use Rattle.edge_bench.specs.contracts.slots.Slot as Slot
use Rattle.edge_bench.specs.contracts.worker.Over as Over
use Rattle.edge_bench.specs.contracts.worker.House as House
use Rattle.edge_bench.proofs.slots.Outbox.TheSendSync as outbox

pub over-send : IsSend Over.the_row
over-send = search (sendable, heap.crosses, stream.the_field_send, origin.the_field_send) depth 20 fits 4000

session-send : IsSend Session.the_row
session-send = search (sendable, heap.crosses, stream.the_field_send, origin.the_field_send) depth 20 fits 4000

pub slot-send : IsSend Slot.the_row
slot-send = search (sendable, heap.crosses, session-send, outbox.the_field_send) depth 20 fits 4000

pub slot-sync : IsSync Slot.the_row
slot-sync = search (sendable, heap.crosses, session-send, outbox.the_field_send) depth 20 fits 4000

pub house-sync : IsSync House.the_row
house-sync = search (sendable, heap.crosses, heap.send, heap.sync, shelves.the_sync, slot-send, slot-sync, over-send, watch.the_field_sync) depth 20 fits 4000
