-- The length of the expression inside an entry value.
use Rattle.std.proofs.Common.{◌≡◌, ℕ, List, [], ◌∷◌, ◌++◌, append_assoc, length, sum_by, refl, ap, ◌∙◌, arith, length-append}
use mathlib.Core.Path.{fun_ext}
use Rattle.std.proofs.lemmas.List.Concat.{length-flat_map}
use Rattle.ds_base.specs.Leb.{uleb}
use Rattle.dwarf_types.specs.declared.parts.PlainPart.{PlainPart}
use Rattle.dwarf_types.specs.declared.parts.PlainPart.TheVariants as plain
use Rattle.dwarf_types.specs.declared.parts.ExprPart.{ExprPart}
use Rattle.dwarf_types.proofs.Lengths.{length-expression}
use Rattle.dwarf_types.specs.Lists.{size_bytes}
use Rattle.dwarf_types.specs.Expressions.{expression_bytes, expression_len, base_bytes, inner_bytes, inner_len, plain_part_bytes, plain_part_len}

length_plain : (place : ℕ → ℕ) (part : PlainPart) → length (plain_part_bytes place part) ≡ plain_part_len part
length_plain place (plain.Plain bytes) = refl
length_plain place (plain.Typed code before base after) = omega (arith, length-append before (base_bytes place base ++ after), length-append (base_bytes place base) after)

length_inner : (place : ℕ → ℕ) (inner : List PlainPart) → length (inner_bytes place inner) ≡ inner_len inner
length_inner place inner = length-flat_map (plain_part_bytes place) inner ∙ ap (λ (g : PlainPart → ℕ). sum_by g inner) (fun_ext (length_plain place))

pub nested_bytes : (place : ℕ → ℕ) (code : ℕ) (inner : List PlainPart) (old pushed new whole : List ℕ)
    → pushed ≡ old ++ code ∷ [] → whole ≡ inner_bytes place inner → new ≡ pushed ++ (uleb (length whole) ++ whole)
    → new ≡ old ++ (code ∷ (uleb (inner_len inner) ++ inner_bytes place inner))
nested_bytes place code inner old pushed new whole first is last =
    let len : length whole ≡ inner_len inner = ap length is ∙ length_inner place inner in
    rw (last, first, len, is) (simp append_assoc refl)

pub expr_bytes : (place : ℕ → ℕ) (parts : List ExprPart) (old new whole : List ℕ) → whole ≡ expression_bytes place parts → new ≡ old ++ (uleb (length whole) ++ whole)
    → new ≡ old ++ (uleb (expression_len parts) ++ expression_bytes place parts)
expr_bytes place parts old new whole is last =
    let len : length whole ≡ expression_len parts = ap length is ∙ length-expression place parts in
    rw (last, len, is) refl

pub location_is : (version : ℕ) (place : ℕ → ℕ) (parts : List ExprPart) (kind low high old new whole k a b d : List ℕ) → whole ≡ expression_bytes place parts
    → k ≡ old ++ kind → a ≡ k ++ low → b ≡ a ++ high → d ≡ b ++ size_bytes version (length whole) → new ≡ d ++ whole
    → new ≡ old ++ (kind ++ ((low ++ high) ++ (size_bytes version (expression_len parts) ++ expression_bytes place parts)))
location_is version place parts kind low high old new whole k a b d is zeroth first second third last =
    let len : length whole ≡ expression_len parts = ap length is ∙ length-expression place parts in
    let tail : d ≡ b ++ size_bytes version (expression_len parts) = third ∙ ap (λ (n : ℕ). b ++ size_bytes version n) len in
    joined (size_bytes version (expression_len parts)) (expression_bytes place parts) tail (last ∙ ap (λ (bs : List ℕ). d ++ bs) is)
  where
    joined : (len bytes : List ℕ) → d ≡ b ++ len → new ≡ d ++ bytes → new ≡ old ++ (kind ++ ((low ++ high) ++ (len ++ bytes)))
    joined len bytes r s = rw (s, r, second, first, zeroth) (simp append_assoc refl)
