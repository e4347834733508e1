-- A station between the code and the definitions: what is made before the first file of a bundle is replaced.
use Rattle.std.specs.Prelude.{◌≡◌, ℕ, List}
use Rattle.std.specs.String.{string_bytes}
use Rattle.stab_map.specs.declared.object.MapObject.{MapObject}
use Rattle.link_core.specs.declared.bundle.Counts.{Counts}
use Rattle.link_status.specs.declared.status.Status.TheVariants as statuses
use Rattle.link_status.specs.Names.{image_name, plist_name}
use Rattle.link_cli.specs.declared.output.Prepared.{Prepared}
use Rattle.link_cli.specs.Endings.{done_message, refusal_message}
use Rattle.link_cli.specs.Plan.{Planned}

-- the names of a bundle's files, and the message for each way in which their writing ends
pub record IsPrepared (plan : Planned) (objects : List MapObject) (warnings : List ℕ) (counts : Counts) (made : Prepared) : Type 0 where
  pub plist : string_bytes made.plist ≡ plist_name plan.out
  pub image : string_bytes made.image ≡ image_name plan.out plan.exe
  pub plist_unwritten : made.plist_unwritten ≡ refusal_message plan objects warnings (statuses.WriteFault 0)
  pub image_unwritten : made.image_unwritten ≡ refusal_message plan objects warnings (statuses.WriteFault 1)
  pub done : made.done ≡ done_message plan warnings counts
