use Rattle.std.proofs.Common.{length, ap, arith, length-append}
use Rattle.ldap_spec.specs.Controls.{written_control}
use Rattle.ldap_controls.specs.Lists.{control_view}
use Rattle.ldap_controls.proofs.Inserting.{control_few, part_few}
use Rattle.ldap_controls.proofs.insertion.push_list.Goals as goal

pub write_element-requires : goal.write_element-requires
write_element-requires c =
    omega (
      arith,
      c.requires,
      control_few (control_view c.args.control.now),
      part_few _ _ c.in-Some.ensures.lent.contents,
      ap length c.as_slice.ensures.value,
      ap length c.in_ok-controls-in-Some.ensures,
      length-append (written_control (control_view c.args.control.now)) c.in-Some.list.contents.now,
    )

pub write_element-requires-in-None : goal.write_element-requires-in-None
write_element-requires-in-None c =
    omega (arith, c.requires, control_few (control_view c.args.control.now), ap length c.in_ok-controls-in-None.ensures, ap length c.as_slice-in-None.ensures.value)
