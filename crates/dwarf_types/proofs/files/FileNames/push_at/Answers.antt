use Rattle.std.proofs.Common.{rules, ap₂, ◌∙◌}
use Rattle.dwarf_types.specs.declared.files.FileRow.{FileRow}
use Rattle.dwarf_types.specs.LineColumns.{FileWithin, file_of}
use Rattle.dwarf_types.specs.SeenLines.{file_seen}
use Rattle.dwarf_types.proofs.Growing.{begins_on}
use Rattle.dwarf_types.proofs.LineRows.{file_with, files_keep, means_kept, means_put, texts_keep, within_put}
use Rattle.dwarf_types.proofs.files.FileNames.push_at.Goals as goal

pub returns-in_err-digest-clause-unchanged : goal.returns-in_err-digest-clause-unchanged
returns-in_err-digest-clause-unchanged c =
    let shared = c.self.inside.texts in
    let b = begins_on _ _ _ c.keep_text.ensures.grows c.append_digest.ensures.grows in
    let kept = means_kept (file_of shared) (FileWithin shared) (files_keep shared) _ _ b _ c.self.invariant in
    search rules

pub returns-in_err-push-clause-unchanged : goal.returns-in_err-push-clause-unchanged
returns-in_err-push-clause-unchanged c =
    let shared = c.self.inside.texts in
    let b = begins_on _ _ _ c.keep_text.ensures.grows c.append_digest.ensures.grows in
    let kept = means_kept (file_of shared) (FileWithin shared) (files_keep shared) _ _ b _ c.self.invariant in
    search rules

pub invariant_of-self-2 : goal.invariant_of-self-2
invariant_of-self-2 c =
    let f = c.args.file.now in
    let shared = c.self.inside.texts in
    let b = begins_on _ _ _ c.keep_text.ensures.grows c.append_digest.ensures.grows in
    let row : FileRow = record { name = c.in_ok-name.name; dir = f.dir; time = f.time; size = f.size; digest = c.in_ok-digest.digest } in
    let there = rw c.as_slice.ensures at c.in_ok-name.ensures.within in
    let name = (texts_keep shared).within _ _ c.append_digest.ensures.grows row.name there in
    rw c.in_ok-push.ensures.items (within_put (file_of shared) (FileWithin shared) (files_keep shared) _ _ b _ c.self.invariant row (name, c.in_ok-digest.ensures.within))

pub returns-clause-ok : goal.returns-clause-ok
returns-clause-ok c =
    let f = c.args.file.now in
    let shared = c.self.inside.texts in
    let b = begins_on _ _ _ c.keep_text.ensures.grows c.append_digest.ensures.grows in
    let row : FileRow = record { name = c.in_ok-name.name; dir = f.dir; time = f.time; size = f.size; digest = c.in_ok-digest.digest } in
    let there = rw c.as_slice.ensures at c.in_ok-name.ensures.within in
    let is = rw c.as_slice.ensures at c.in_ok-name.ensures.is in
    let name = (texts_keep shared).same _ _ c.append_digest.ensures.grows row.name there ∙ is in
    rw (c.in_ok-push.ensures.items, ← c.self.view_is) (means_put (file_of shared) (FileWithin shared) (files_keep shared) _ _ b _ c.self.invariant row (file_seen f) (ap₂ (file_with row) name c.in_ok-digest.ensures.is))
