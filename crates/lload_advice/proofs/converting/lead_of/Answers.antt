use Rattle.std.proofs.Common.{codes, string_bytes, refl}
use Rattle.lload_advice.specs.Texts.{said_text}
use Rattle.lload_advice.proofs.Comments.{lead-said}
use Rattle.lload_advice.proofs.converting.lead_of.Goals as goal

pub returns : goal.returns
returns c =
    lead-said (codes "# ") (said_text c.args.advice.now) _ (string_bytes c.in_ok-lead.lead) (string_bytes c.write_said.new.out) (string_bytes c.write.new.self) (string_bytes c.push_str.new.self) refl c.in_ok-lead.ensures.ok c.in_ok-write_said.ensures c.in_ok-write.ensures.bytes c.in_ok-push_str.ensures.bytes
