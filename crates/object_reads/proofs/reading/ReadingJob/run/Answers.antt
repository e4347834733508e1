use Rattle.std.proofs.Common.{◌≡◌, ◌<◌, ◌+◌, ℕ, List, [], Option, None, length, get_or, slice_index_or, subst, ◌∙◌, arith}
use Rattle.std.specs.Option.{option_map}
use Rattle.std.proofs.lemmas.List.{get_or_default}
use Rattle.std.proofs.lemmas.Option.{get_or_from_slice_get}
use Rattle.stab_map.specs.declared.object.MapObject.{MapObject}
use Rattle.object_reads.specs.Sources.{Source, analysis_from, source_of, sources_of}
use Rattle.object_reads.specs.Reading.{ReadsNumbered}
use Rattle.object_reads.proofs.Analysing.{source_at}
use Rattle.object_reads.proofs.reading.ReadingJob.run.Goals as goal

pub returns : goal.returns
returns g c =
    let lent = c.args.self.now.lent.now in
    let target = lent.target in
    let objects = lent.objects.now in
    let files = lent.files.now in
    let numbers = lent.numbers.now in
    let i = c.args.self.now.batch.first + c.args.item in
    let o : MapObject = get_or objects i c.index-self-object.result in
    let n : Option ℕ = get_or numbers i None in
    let lt : i < length objects = c.requires.0 in
    let lt' : i < length numbers = omega (arith, lt, lent.each) in
    let is = source_at objects files numbers i o n lt lt' (get_or_default objects i c.index-self-object.result o lt) (get_or_default numbers i None n lt') in
    let bytes : Option (List ℕ) = option_map (λ k. slice_index_or files k []) n in
    let read = c.read_object-read.ensures.read bytes c.file_of-file.ensures in
    let given : ReadsNumbered (i + 1) (analysis_from target o bytes) c.numbered.result = c.numbered.ensures.read _ read in (
      λ s at. subst (λ (it : Source). ReadsNumbered (i + 1) (analysis_from target it.object it.file) c.numbered.result) (is ∙ get_or_from_slice_get (sources_of objects files numbers) i s (source_of files (o, n)) at) given,
      c.numbered.ensures.names c.args.self.now.batch.named (c.args.item + 1) c.read_object-read.ensures.names,
    )
