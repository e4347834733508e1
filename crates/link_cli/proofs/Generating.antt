-- A generated program, linked.
use Rattle.std.proofs.Common.{◌≡◌, ℕ, ◌<◌, ◌≤◌, ◌^◌, List, [], length, map, Option, Some, IfSome, Result, Ok, Err, sym, ap, subst, ◌∙◌, arith}
use Rattle.std.specs.List.{All, range_with_len}
use Rattle.std.proofs.lemmas.List.Elements.{All-map}
use Rattle.std.proofs.lemmas.List.FromFn.{get_or-range_with_len, length-map-range_with_len, length-range_with_len}
use Rattle.stab_map.specs.declared.object.MapObject.{MapObject}
use Rattle.sample_objects.specs.declared.program.Generated.{Generated}
use Rattle.sample_objects.specs.GeneratedProgram.{generated_program, map_object, spec_of}
use Rattle.sample_objects.specs.ObjectFile.{object_bytes}
use Rattle.object_reads.specs.Sources.{sources_of}
use Rattle.link_status.specs.Names.{last_part}
use Rattle.link_program.specs.declared.bundle.Bundle.{Bundle}
use Rattle.link_status.specs.declared.refusal.Refusal.{Refusal}
use Rattle.link_status.specs.declared.status.Status.{Status}
use Rattle.link_program.specs.Making as bundles
use Rattle.link_status.specs.Statuses.{refused_status}
use Rattle.link_cli.specs.declared.ending.Ending.{Ending}
use Rattle.link_cli.specs.Answer.{LinksGenerated, MakesGenerated, made_refused, made_counted, made_untold}
use Rattle.link_cli.specs.Endings.{Tells, counts_ending, no_memory, refused_ending}
use Rattle.link_cli.specs.Plan.{Planned}
use Rattle.link_cli.proofs.LinkSteps.{told_or}

-- ---- its objects and their files

abbrev file_in : ℕ → List ℕ
file_in i = object_bytes (spec_of i)

abbrev number : ℕ → Option ℕ
number k = Some k

pub objects_many : (count : ℕ) (made : Generated) → made ≡ generated_program count → length made.objects ≡ count
objects_many count made is = ap (λ (g : Generated). length g.objects) is ∙ length-map-range_with_len map_object 1 count

pub files_many : (count : ℕ) (made : Generated) → made ≡ generated_program count → length made.files ≡ count
files_many count made is = ap (λ (g : Generated). length g.files) is ∙ length-map-range_with_len file_in 1 count

pub few_objects : (count n : ℕ) → n ≡ count → count ≤ 1000 → n < 2 ^ 16
few_objects count n is few = omega (arith, is, few)

numbers_many : (count : ℕ) (numbers : List (Option ℕ)) → numbers ≡ map number (range_with_len 0 count) → length numbers ≡ count
numbers_many count numbers is = ap (λ (ns : List (Option ℕ)). length ns) is ∙ length-map-range_with_len number 0 count

-- there is a number for each object
pub numbers_each : (count n : ℕ) (numbers : List (Option ℕ)) → n ≡ count → numbers ≡ map number (range_with_len 0 count) → length numbers ≡ n
numbers_each count n numbers many is = numbers_many count numbers is ∙ sym many

within : (count n : ℕ) → n ≡ count → All (λ k. IfSome k (λ m. m < n)) (map number (range_with_len 0 count))
within count n many =
    All-map (λ (k : Option ℕ). IfSome k (λ m. m < n)) number (range_with_len 0 count) (λ k d lt.
    let len = length-range_with_len 0 count in
    let below : k < count = omega (arith, lt, len) in
    let at = get_or-range_with_len 0 count k d below in omega (arith, at, below, many))

-- and it is that of a file
pub numbers_within : (count n : ℕ) (numbers : List (Option ℕ)) → n ≡ count → numbers ≡ map number (range_with_len 0 count) → All (λ k. IfSome k (λ m. m < n)) numbers
numbers_within count n numbers many is = subst (λ (ns : List (Option ℕ)). All (λ k. IfSome k (λ m. m < n)) ns) (sym is) (within count n many)

-- ---- how it ends

-- the objects as they were lent
pub makes_lent : (plan : Planned) (count : ℕ) (made : Generated) (objects : List MapObject) (answer : Result Bundle Refusal) → objects ≡ made.objects
    → bundles.Bundles plan.odr made.program (last_part plan.exe) (sources_of objects made.files (map number (range_with_len 0 count))) answer → MakesGenerated plan count made answer
makes_lent plan count made objects answer are made_so =
    subst (λ (o : List MapObject). bundles.Bundles plan.odr made.program (last_part plan.exe) (sources_of o made.files (map number (range_with_len 0 count))) answer) are made_so

module _ (plan : Planned) (count : ℕ) (wanted : Generated) where
  pub untold_as : (ending : Ending) → ending ≡ no_memory → LinksGenerated plan count wanted ending
  untold_as ending is = subst (λ (e : Ending). LinksGenerated plan count wanted e) (sym is) made_untold

  module _ (made : Generated) (is : made ≡ wanted) where
    pub counted_as : (bundle : Bundle) (ending : Ending) → MakesGenerated plan count made (Ok bundle) → Tells (counts_ending bundle.counts) ending → LinksGenerated plan count wanted ending
    counted_as bundle ending makes told =
        told_or (λ (e : Ending). LinksGenerated plan count wanted e) (counts_ending bundle.counts) ending told
        (made_counted bundle (subst (λ (g : Generated). MakesGenerated plan count g (Ok bundle)) is makes)) made_untold

    pub refused_as : (objects : List MapObject) (warnings : List ℕ) (refusal : Refusal) (status : Status) (ending : Ending) → objects ≡ made.objects → warnings ≡ [] → status ≡ refused_status refusal
        → MakesGenerated plan count made (Err refusal) → Tells (refused_ending plan objects warnings status) ending → LinksGenerated plan count wanted ending
    refused_as objects warnings refusal status ending are none is_status makes told =
        let by_status : Tells (refused_ending plan objects warnings (refused_status refusal)) ending = subst (λ (s : Status). Tells (refused_ending plan objects warnings s) ending) is_status told in
        let unwarned : Tells (refused_ending plan objects [] (refused_status refusal)) ending =
        subst (λ (w : List ℕ). Tells (refused_ending plan objects w (refused_status refusal)) ending) none by_status in
        let of_wanted : Tells (refused_ending plan wanted.objects [] (refused_status refusal)) ending =
        subst (λ (o : List MapObject). Tells (refused_ending plan o [] (refused_status refusal)) ending) (are ∙ ap (λ (g : Generated). g.objects) is) unwarned in
        told_or (λ (e : Ending). LinksGenerated plan count wanted e) (refused_ending plan wanted.objects [] (refused_status refusal)) ending of_wanted
        (made_refused refusal (subst (λ (g : Generated). MakesGenerated plan count g (Err refusal)) is makes)) made_untold
