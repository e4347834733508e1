use Rattle.std.proofs.Common.{◌≡◌, is_some, false, true, sym, ap, ◌∙◌, None}
use Rattle.link_program.specs.Files.{content_in, is_missing}
use Rattle.link_program.specs.Holding.{held_of}
use Rattle.link_program.specs.Seen.{missing_seen, held_seen}
use Rattle.link_program.proofs.Holding.{content_is, missing_is, goes_missing, goes_missed, goes_on, goes_read, none_of}
use Rattle.link_program.proofs.files.hold_file.Goals as goal

pub returns-then-contains_key : goal.returns-then-contains_key
returns-then-contains_key g c =
    let held : is_some (content_in (held_seen c.args.held.now.files) c.args.object.now.file) ≡ true =
    ap is_some (content_is c.args.held.now.files c.args.object.now.file) ∙ rw (← c.as_slice-name.ensures) (sym c.contains_key.ensures ∙ c.if-contains_key.true) in
    goes_on c.args.keep_going c.args.number c.args.object.now (held_of c.args.held.now) _ held

pub returns-then-contains_key-2 : goal.returns-then-contains_key-2
returns-then-contains_key-2 g c =
    let none : content_in (held_seen c.args.held.now.files) c.args.object.now.file ≡ None =
    none_of _ (ap is_some (content_is c.args.held.now.files c.args.object.now.file) ∙ rw (← c.as_slice-name.ensures) (sym c.contains_key.ensures ∙ c.if-contains_key.false)) in
    let missing : is_missing (missing_seen c.args.held.now.missing) c.args.object.now.file ≡ true =
    missing_is c.args.held.now.missing c.args.object.now.file ∙ rw (← c.as_slice-name.ensures) (sym c.contains_key-2.ensures ∙ c.if-contains_key-2.true) in
    goes_missing c.args.keep_going c.args.number c.args.object.now (held_of c.args.held.now) c.warn.new.held _ none missing c.warn.result c.warn.ensures

pub hold-requires-clause-new : goal.hold-requires-clause-new
hold-requires-clause-new g c =
    none_of _ (ap is_some (content_is c.args.held.now.files c.as_slice-name.result.now) ∙ (sym c.contains_key.ensures ∙ c.if-contains_key.false))

pub pass_over-requires : goal.pass_over-requires
pass_over-requires g c =
    record { new = missing_is c.args.held.now.missing c.args.object.now.file ∙ rw (← c.as_slice-name.ensures) (sym c.contains_key-2.ensures ∙ c.if-contains_key-2.false) }

pub returns-in-Ok : goal.returns-in-Ok
returns-in-Ok g c =
    let none : content_in (held_seen c.args.held.now.files) c.args.object.now.file ≡ None =
    none_of _ (ap is_some (content_is c.args.held.now.files c.args.object.now.file) ∙ rw (← c.as_slice-name.ensures) (sym c.contains_key.ensures ∙ c.if-contains_key.false)) in
    let kept : is_missing (missing_seen c.args.held.now.missing) c.args.object.now.file ≡ false =
    missing_is c.args.held.now.missing c.args.object.now.file ∙ rw (← c.as_slice-name.ensures) (sym c.contains_key-2.ensures ∙ c.if-contains_key-2.false) in
    goes_read c.args.keep_going c.args.number c.args.object.now (held_of c.args.held.now) c.hold.new.held _ _ c.in-Ok.bytes (g.F.Files.files c.args.files.now) (g.F.Files.files c.read.new.self) _ _
    (record { unread = none; kept = kept }) c.file_name.ensures c.as_slice-name.ensures c.in-Ok.ensures.found c.in-Ok.ensures.same c.in-Ok.ensures.quiet c.in-Ok.ensures.later c.hold.result c.hold.ensures

pub returns-in-Err : goal.returns-in-Err
returns-in-Err g c =
    let none : content_in (held_seen c.args.held.now.files) c.args.object.now.file ≡ None =
    none_of _ (ap is_some (content_is c.args.held.now.files c.args.object.now.file) ∙ rw (← c.as_slice-name.ensures) (sym c.contains_key.ensures ∙ c.if-contains_key.false)) in
    let kept : is_missing (missing_seen c.args.held.now.missing) c.args.object.now.file ≡ false =
    missing_is c.args.held.now.missing c.args.object.now.file ∙ rw (← c.as_slice-name.ensures) (sym c.contains_key-2.ensures ∙ c.if-contains_key-2.false) in
    goes_missed c.args.keep_going c.args.number c.args.object.now c.args.held.now c.pass_over.new.held _ c.in-Err.error (g.F.Files.files c.args.files.now) (g.F.Files.files c.read.new.self) _ _
    (record { unread = none; kept = kept }) c.file_name.ensures c.in-Err.ensures.failed c.in-Err.ensures.same c.in-Err.ensures.called c.in-Err.ensures.later c.pass_over.result c.pass_over.ensures
