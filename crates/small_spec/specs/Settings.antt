-- The settings that the small world's lines speak of.
use Rattle.std.specs.Prelude.{ℕ}

-- the limits of messages, in octets of contents (sockbuf_max_incoming_client and sockbuf_max_incoming_upstream in
-- lloadd.conf(5))
pub record Settings : Type 0 where
  pub max_incoming_client : ℕ
  pub max_incoming_upstream : ℕ
