-- What the desk keeps of a backend's places.
use Rattle.std.specs.Prelude.{Bool, nat_lt}
use Rattle.lload_names.specs.declared.names.ConnKind.{ConnKind}
use Rattle.lload_names.specs.declared.names.ConnKind.TheVariants.{Regular, Bind}
use Rattle.desk_tables.specs.declared.servers.Lane.{Lane}
use Rattle.desk_tables.specs.declared.servers.Server.{Server}

abbrev pub lane_of : ConnKind → Server → Lane
lane_of Regular v = v.regular
lane_of Bind v = v.bind

abbrev pub with_lane : ConnKind → Lane → Server → Server
with_lane Regular lane v = record v { regular = lane }
with_lane Bind lane v = record v { bind = lane }

-- whether some connection of a kind is viable
abbrev pub has_viable : ConnKind → Server → Bool
has_viable kind v = nat_lt 0 (lane_of kind v).viable
