-- A link, by what equals its own wants and sources, and where memory runs out before it.
use Rattle.std.proofs.Common.{◌≡◌, ℕ, Bool, List, [], length, take, Option, Some, Result, Ok, Err, ap, sym, subst, ◌∙◌, arith}
use Rattle.std.proofs.lemmas.List.{take_all}
use Rattle.std.specs.Result.{IsErrAnd}
use Rattle.macho_read.specs.declared.image.Image.{Image}
use Rattle.dsym_write.specs.Plist.{plist_bytes}
use Rattle.link_core.specs.declared.bundle.Linked.{Linked}
use Rattle.link_core.specs.Linked.{IsLinked, LinksPart, Part, analyses_of, limit_of}
use Rattle.link_core.specs.Linked as parts
use Rattle.link_program.specs.declared.bundle.Bundle.{Bundle}
use Rattle.link_status.specs.declared.refusal.Refusal.{Refusal}
use Rattle.link_status.specs.declared.refusal.Refusal.TheVariants as refusals
use Rattle.link_program.specs.Making.{Bundles, bundle, fault, limit, no_memory, thin_part}
use Rattle.stab_map.specs.declared.object.MapObject.{MapObject}
use Rattle.object_reads.specs.Sources.{Source, sources_of}
use Rattle.object_reads.proofs.Analysing.{sources_long}

pub bundles_as : (odr odr' : Bool) (program : Image) (name name' : List ℕ) (given sources : List Source) (answer : Result Bundle Refusal) → odr ≡ odr' → name ≡ name' → given ≡ sources
    → Bundles odr program name given answer → Bundles odr' program name' sources answer
bundles_as odr odr' program name name' given sources answer is_odr is_name is made =
    subst (λ (b : Bool). Bundles b program name' sources answer) is_odr
    (subst (λ (n : List ℕ). Bundles odr program n sources answer) is_name (subst (λ (s : List Source). Bundles odr program name s answer) is made))

pub bundle_wants_memory : (odr : Bool) (program : Image) (name : List ℕ) (sources : List Source) (answer : Result Bundle Refusal) → IsErrAnd answer (λ refusal. refusal ≡ refusals.NoMemory) → Bundles odr program name sources answer
bundle_wants_memory odr program name sources (Ok made) h = absurd h
bundle_wants_memory odr program name sources (Err refusal) h = subst (λ (r : Refusal). Bundles odr program name sources (Err r)) (sym h) no_memory

-- ---- a link of a program's part is its bundle's

module _ (odr : Bool) (part : Part) (program : Image) (name : List ℕ) (sources : List Source) (same : part ≡ thin_part program sources) where
  seen_as : analyses_of (thin_part program sources) ≡ analyses_of part
  seen_as = ap analyses_of (sym same)

  image_as : part.image ≡ program
  image_as = ap (λ (p : Part). p.image) same

  pub bundle_refused : {refusal : Refusal} → LinksPart odr part [] (Err refusal) → Bundles odr program name sources (Err refusal)
  bundle_refused (parts.fault file why is) = fault file why (seen_as ∙ is)
  bundle_refused (parts.limit seen marks refusal is live reached) =
      limit seen marks refusal (seen_as ∙ is) live (subst (λ (image : Image). limit_of odr image seen marks ≡ Some refusal) image_as reached)
  bundle_refused parts.no_memory = no_memory

  pub bundle_made : (plist : List ℕ) (it : Linked) → plist ≡ plist_bytes name → LinksPart odr part [] (Ok it) → Bundles odr program name sources (Ok (record { image = it.file; plist = plist; counts = it.counts }))
  bundle_made plist it text (parts.linked seen marks it' is live made) =
      let made' = subst (λ (image : Image). IsLinked odr image [] seen marks it) image_as made in
      bundle seen marks (record { image = it.file; plist = plist; counts = it.counts }) (seen_as ∙ is) live made'.fits made'.file text made'.counts

-- all objects are the program's own
pub whole_part : (program : Image) (objects : List MapObject) (files : List (List ℕ)) (numbers : List (Option ℕ)) (end : ℕ) → length numbers ≡ length objects → end ≡ length objects
    → thin_part program (take end (sources_of objects files numbers)) ≡ thin_part program (sources_of objects files numbers)
whole_part program objects files numbers end each all = ap (thin_part program) (take_all end (sources_of objects files numbers) (omega (arith, all, sources_long objects files numbers each)))
