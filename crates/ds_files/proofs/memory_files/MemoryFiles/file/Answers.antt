use Rattle.std.proofs.Common.{ap}
use Rattle.std.specs.Cmp.Lexicographic.{nat_list_cmp_total}
use Rattle.std.specs.FinMap as map
use Rattle.ds_files.proofs.memory_files.MemoryFiles.file.Goals as goal

pub returns : goal.returns
returns c =
    let newest = map.get-from_entries nat_list_cmp_total c.self.inside.stored.items c.args.name.now in
    let files = ap (λ s. s.files) c.self.view_is in
    cc
