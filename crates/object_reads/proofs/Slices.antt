-- Files opened for a program of a CPU type and subtype.
use Rattle.std.proofs.Common.{◌≡◌, ◌≤◌, ◌<◌, ◌+◌, ℕ, List, [], ◌∷◌, ◌++◌, length, drop, take, map, get_or, Option, Some, None, Result, Ok, Err, Bor, refl, sym, ap, subst, ◌∙◌, arith, length-drop, length-take}
use Rattle.std.proofs.lemmas.List.{get_or-map, length-map, map-append}
use Rattle.ds_base.proofs.Passing.{bind_ok, ok_is}
use Rattle.ds_base.proofs.Walking.{take_one}
use Rattle.ds_base.specs.declared.fault.Fault.{Fault}
use Rattle.ds_base.specs.declared.fault.Kind.TheVariants as kinds
use Rattle.ds_base.specs.declared.fault.ReadError.{ReadError}
use Rattle.ds_base.specs.Reading.{Gives, ◌>>=◌, or_fault}
use Rattle.dwarf_types.specs.declared.analysis.Analysis.{Analysis}
use Rattle.stab_map.specs.declared.object.MapObject.{MapObject}
use Rattle.universal.specs.declared.choosing.Arch.{Arch}
use Rattle.universal.specs.declared.records.Slice.{Slice}
use Rattle.universal.specs.Choice.{chosen, cut_to, slice_bytes, slice_for}
use Rattle.universal.specs.Records.{header_fault, slices_of}
use Rattle.object_reads.specs.declared.opened.Opened.{Opened}
use Rattle.object_reads.specs.declared.opened.Opened.TheVariants as opens
use Rattle.object_reads.specs.declared.opened.ThinFile.{ThinFile}
use Rattle.object_reads.specs.declared.target.Target.{Target}
use Rattle.object_reads.specs.Opening.{IsOpened, opened_as}
use Rattle.object_reads.specs.Sources.{analysis_from, analysis_in, analysis_of_thin}

cut_within : (arch : Arch) (file cut : List ℕ) (slices : Option (List Slice)) → cut_to arch file slices ≡ Ok cut → length cut ≤ length file
cut_within arch file cut None e = omega (arith, ap length (ok_is file cut e))
cut_within arch file cut (Some slices) e =
    let slice = bind_ok (or_fault (chosen arch slices) (header_fault kinds.WrongCpu 4)) (λ slice. Ok (slice_bytes file slice)) cut e in
    omega (arith, ap length (ok_is (slice_bytes file slice.0) cut slice.2), length-take slice.0.size (drop slice.0.offset file), length-drop slice.0.offset file)

-- a slice has no more bytes than its file
pub slice_within : (arch : Arch) (file cut : List ℕ) → slice_for arch file ≡ Ok cut → length cut ≤ length file
unfolding slice_for
slice_within arch file cut e =
    let slices = bind_ok (slices_of file) (cut_to arch file) cut e in
    cut_within arch file cut slices.0 slices.2

-- ---- files, one after the other

module _ (arch : Arch) (files : List (List ℕ)) where
  pub opened_more : (i : ℕ) (file : List ℕ) (opened : List Opened) (one : Opened) → i < length files → file ≡ get_or files i file → map opened_as opened ≡ map (slice_for arch) (take i files) → opened_as one ≡ slice_for arch file
      → map opened_as (opened ++ one ∷ []) ≡ map (slice_for arch) (take (i + 1) files)
  opened_more i file opened one lt is before here =
      map-append opened_as opened (one ∷ []) ∙ ap (λ (l : List (Result (List ℕ) Fault)). l ++ opened_as one ∷ []) before ∙ ap (λ (r : Result (List ℕ) Fault). map (slice_for arch) (take i files) ++ r ∷ []) here
      ∙ sym (map-append (slice_for arch) (take i files) (file ∷ [])) ∙ ap (map (slice_for arch)) (sym (take_one files i file lt is))

  -- the file of a number
  pub opened_at : (opened : List Opened) (n : ℕ) (o : Opened) (d : List ℕ) → map opened_as opened ≡ map (slice_for arch) files → n < length files → opened_as (get_or opened n o) ≡ slice_for arch (get_or files n d)
  opened_at opened n o d are lt =
      let long : length opened ≡ length files = sym (length-map opened opened_as) ∙ ap length are ∙ length-map files (slice_for arch) in
      sym (get_or-map opened_as opened n o (opened_as o) (omega (arith, lt, long)))
      ∙ ap (λ (l : List (Result (List ℕ) Fault)). get_or l n (opened_as o)) are ∙ get_or-map (slice_for arch) files n d (opened_as o) lt

-- ---- an object by the file that was opened

module _ (target : Target) (object : MapObject) where
  pub thin_read : (bytes : Option (List ℕ)) (opened : Bor Opened) (file : ThinFile) (r : Result Analysis ReadError) → opened.now ≡ opens.Thin file → IsOpened target.arch bytes (Some opened)
      → Gives (λ it. it) r (analysis_of_thin target.cpu object file.bytes.now) → Gives (λ it. it) r (analysis_from target object bytes)
  unfolding analysis_in
  thin_read None opened file r is at given = absurd cc
  thin_read (Some bytes) opened file r is at given =
      let cut : slice_for target.arch bytes ≡ Ok file.bytes.now = sym at ∙ ap opened_as is in
      subst (λ (s : Result (List ℕ) Fault). Gives (λ it. it) r (s >>= analysis_of_thin target.cpu object)) (sym cut) given

  pub refused_read : (bytes : Option (List ℕ)) (opened : Bor Opened) (fault : Fault) → opened.now ≡ opens.Refused fault → IsOpened target.arch bytes (Some opened) → analysis_from target object bytes ≡ Err fault
  unfolding analysis_in
  refused_read None opened fault is at = absurd cc
  refused_read (Some bytes) opened fault is at =
      let cut : slice_for target.arch bytes ≡ Err fault = sym at ∙ ap opened_as is in
      ap (λ (s : Result (List ℕ) Fault). s >>= analysis_of_thin target.cpu object) cut
