-- Where a variable ends in its section.
use Rattle.std.proofs.Common.{◌≡◌, ℕ, ◌≤◌, ◌==◌, ◌&&◌, Bool, true, false, length, Option, Some, None, refl, arith, if◌then◌else◌}
use Rattle.std.specs.Prelude.{bit_and, nat_le, nat_lt}
use Rattle.std.proofs.lemmas.Bool.{and_parts, leb-true, ltb-true}
use Rattle.ds_base.specs.MachONumbers.{N_SECT, N_TYPE, N_UNDF}
use Rattle.macho_read.specs.declared.image.Image.{Image}
use Rattle.macho_read.specs.declared.image.Symbol.{Symbol}
use Rattle.macho_read.specs.declared.standing.Standing.TheVariants as standings
use Rattle.macho_read.specs.Standings.{has_section, is_common, is_stab, standing_of}
use Rattle.addr_map.specs.Entries.{end_of, next_among, places, section_end}

pub end_next : (image : Image) (size : Option ℕ) (section start next : ℕ) → size ≡ None → next_among section start (places image) ≡ Some next → Some next ≡ end_of image size section start
end_next image size section start next none is = rw (none, is) refl

pub end_section : (image : Image) (size end : Option ℕ) (section start : ℕ) → size ≡ None → next_among section start (places image) ≡ None → end ≡ section_end image section → end ≡ end_of image size section start
end_section image size end section start none is found = rw (none, is) found

-- ---- the section of a symbol that is defined in one

defined_if : (stab undefined common defined : Bool) (sect section : ℕ)
    → (if stab then standings.Absolute else if undefined then (if common then standings.Common else standings.Undefined) else if defined then standings.Defined sect else standings.Absolute) ≡ standings.Defined section
    → (defined ≡ true) × (sect ≡ section)
defined_if true undefined common defined sect section e = absurd cc
defined_if false true true defined sect section e = absurd cc
defined_if false true false defined sect section e = absurd cc
defined_if false false common false sect section e = absurd cc
defined_if false false common true sect section e = (refl, cc)

-- it is there
pub defined_within : (image : Image) (s : Symbol) (section : ℕ) → standing_of image s ≡ standings.Defined section → (1 ≤ section) × (section ≤ length image.sections)
unfolding standing_of
defined_within image s section e =
    let is = defined_if (is_stab s) (bit_and s.kind N_TYPE == N_UNDF) (is_common s) (bit_and s.kind N_TYPE == N_SECT && has_section image s.sect) s.sect section e in
    let there = and_parts (nat_lt 0 s.sect) (nat_le s.sect (length image.sections)) (and_parts (bit_and s.kind N_TYPE == N_SECT) (has_section image s.sect) is.0).1 in
    (omega (arith, ltb-true 0 s.sect there.0, is.1), omega (arith, leb-true s.sect (length image.sections) there.1, is.1))
